-- How many octets the texts of a reply have with one line more.
use Rattle.std.proofs.Common.{◌≡◌, ◌∙◌, ℕ, ◌+◌, ◌-◌, Bool, true, false, List, [], ◌∷◌, ◌++◌, Option, Some, None, length, drop, refl, sym, ap, subst, arith}
use Rattle.std.specs.Prelude.{◌==◌, if◌then◌else◌}
use Rattle.std.specs.declared.result.Result.{Result}
use Rattle.std.specs.declared.result.Result.TheVariants.{Ok}
use Rattle.std.proofs.lemmas.Bool.{cond_both}
use Rattle.std.proofs.lemmas.List.{length-drop}
use Rattle.std.proofs.lemmas.List.Sums.{sum_by-cons}
use Rattle.ftp_client_model.specs.Held.{texts_len}
use Rattle.ftp_reply.proofs.HeardLemmas.{few_octets}
use Rattle.ftp_reply.specs.Lines.{Text, are_within, octets_of}
use Rattle.ftp_reply.specs.Reader.{Answers, Gathered, Between, Begun, GoesOn, Says, Faulty, Standing, Reading, Stopped, first_heard, heard_at, line_heard, next_heard, opened, reply_placed}
use Rattle.ftp_reply.specs.Reader.{Heard as LineHeard}
use Rattle.ftp_reply.specs.Reply.{hyphen, space}
use Rattle.ftp_reply.specs.declared.fault.ReplyFault.{ReplyFault}
use Rattle.ftp_reply.specs.declared.fault.ReplyFault.TheVariants as Faults
use Rattle.ftp_reply.specs.declared.reply.Reply.{Reply}
use Rattle.ftp_client_steps.specs.Reader.{CountsTexts, ReaderReadsOn, gathered_in, with_line}

-- the count is that of the reply that goes on
abbrev CountsHeard : ℕ → LineHeard → Type 0
CountsHeard count (GoesOn gathered) = CountsTexts (Some count) gathered
CountsHeard count (Says code texts) = Unit {0}
CountsHeard count (Faulty fault) = Unit {0}

texts_same : (texts : List Text) → texts_len texts ≡ octets_of texts
texts_same [] = refl
texts_same (text ∷ texts) = ap (λ n. length text + n) (texts_same texts) ∙ sym (sum_by-cons length text texts)

texts_more : (texts : List Text) (line : Text) → texts_len (texts ++ line ∷ []) ≡ texts_len texts + length line
texts_more [] line = omega arith
texts_more (text ∷ texts) line = omega (arith, texts_more texts line)

placed_counts : (count : ℕ) (within ends : Bool) (code : ℕ) (texts : List Text) → are_within texts ≡ within → count ≡ texts_len texts
    → CountsHeard count (if within then (if ends then Says code texts else GoesOn (Begun code texts)) else Faulty Faults.TooMany)
placed_counts count true true code texts is same = tt
placed_counts count true false code texts is same = (same, omega (arith, same, texts_same texts, few_octets texts is))
placed_counts count false ends code texts is same = tt

ended_counts : (count : ℕ) (within : Bool) (code : ℕ) (texts : List Text)
    → CountsHeard count (if within then (if true then Says code texts else GoesOn (Begun code texts)) else Faulty Faults.TooMany)
ended_counts count true code texts = tt
ended_counts count false code texts = tt

first_counts : (count code : ℕ) (text : Text) → count ≡ length text - 1 → CountsHeard count (first_heard code text)
first_counts count code [] is = ended_counts count (are_within ([] ∷ [])) code ([] ∷ [])
first_counts count code (c ∷ text) is =
    cond_both (c == space) (reply_placed true code (text ∷ [])) (if c == hyphen then reply_placed false code (text ∷ []) else Faulty Faults.BadCode) (CountsHeard count)
    (λ spaced. ended_counts count (are_within (text ∷ [])) code (text ∷ []))
    (λ other. cond_both (c == hyphen) (reply_placed false code (text ∷ [])) (Faulty Faults.BadCode) (CountsHeard count)
    (λ hyphened. placed_counts count (are_within (text ∷ [])) false code (text ∷ []) refl (omega (arith, is))) (λ bad. tt))

opened_counts : (code : Option ℕ) (line : Text) → CountsHeard (length line - 4) (opened code line)
opened_counts None line = tt
opened_counts (Some code) line = first_counts (length line - 4) code (drop 3 line) (omega (arith, length-drop 3 line))

next_counts : (last : Bool) (count code : ℕ) (texts : List Text) (line : Text) → count ≡ texts_len texts
    → CountsHeard (count + length line) (next_heard last code texts line)
next_counts true count code texts line is = ended_counts (count + length line) (are_within (texts ++ drop 4 line ∷ [])) code (texts ++ drop 4 line ∷ [])
next_counts false count code texts line is =
    placed_counts (count + length line) (are_within (texts ++ line ∷ [])) false code (texts ++ line ∷ []) refl (omega (arith, is, texts_more texts line))

line_counts : (before : Option ℕ) (g : Gathered) (line : Text) → CountsTexts before g → CountsHeard (with_line before line) (line_heard g line)
unfolding line_heard
line_counts None Between line is = opened_counts _ line
line_counts (Some count) (Begun code texts) line is = next_counts _ count code texts line is.0
line_counts None (Begun code texts) line is = absurd is
line_counts (Some count) Between line is = absurd is

counts_by : (A : Type 0) (count : ℕ) (heard : LineHeard) (old new : Standing) → CountsHeard count heard → Answers {A = A} heard (Ok None) old new
    → CountsTexts (Some count) (gathered_in new)
counts_by A count (GoesOn gathered) old new counts answers = subst (λ s. CountsTexts (Some count) (gathered_in s)) (sym answers) counts
counts_by A count (Says code texts) old new counts answers = absurd answers
counts_by A count (Faulty fault) old new counts answers = absurd answers

goes_by : (A : Type 0) (before : Option ℕ) (old new : Standing) (line : Text) → ReaderReadsOn old → CountsTexts before (gathered_in old)
    → Answers {A = A} (heard_at old line) (Ok None) old new → CountsTexts (Some (with_line before line)) (gathered_in new)
goes_by A before (Reading g) new line reading is answers = counts_by A (with_line before line) (line_heard g line) (Reading g) new (line_counts before g line is) answers
goes_by A before Stopped new line reading is answers = absurd reading

-- where a reply goes on with a line, the count with that line is that of the texts
pub goes_on : (A : Type 0) (before : Option ℕ) (old taken new : Standing) (line : Text) (count : ℕ) (result : Result (Option (Reply A)) ReplyFault)
    → ReaderReadsOn old → CountsTexts before (gathered_in old) → taken ≡ old → count ≡ with_line before line → result ≡ Ok None
    → Answers {A = A} (heard_at taken line) result taken new → CountsTexts (Some count) (gathered_in new)
goes_on A before old taken new line count result reading is same counted goes answers =
    subst (λ n. CountsTexts (Some n) (gathered_in new)) (sym counted)
    (goes_by A before old new line reading is
    (subst (λ s. Answers {A = A} (heard_at s line) (Ok None) s new) same (subst (λ r. Answers {A = A} (heard_at taken line) r taken new) goes answers)))
