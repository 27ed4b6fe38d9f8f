-- The line that is being read keeps its limit, and so does the text of every line that it says.
use Rattle.std.proofs.Common.{◌≡◌, ℕ, ◌+◌, ◌-◌, ◌<◌, ◌≤◌, List, [], ◌∷◌, ◌++◌, true, false, ◌==◌, refl, sym, ◌∙◌, arith, length, length-append, map, eq-eqb, true≢false}
use Rattle.std.specs.Prelude.{nat_lt, if◌then◌else◌}
use Rattle.std.specs.List.{flat_map}
use Rattle.std.proofs.lemmas.Bool.{cond_both, ltb-false, ltb-true}
use Rattle.std.proofs.lemmas.List.{length-take}
use Rattle.ftp_pieces.specs.Machine.{after, gives}
use Rattle.ftp_nvt.specs.Fold.{Unfinished, Ear, no_line, past_limit, skipping, text_with, longer, ended_text, within_step, within_out, line_step, line_out, liner, unit_says, ear_step, ear_out}
use Rattle.ftp_nvt.specs.Lines.{NvtEvent, line, too_long, owed}
use Rattle.ftp_nvt.specs.Telnet.{TelnetUnit, bare_of, owed_of, unit_ended}
use Rattle.ftp_nvt.specs.declared.line.Stage.{Stage}
use Rattle.ftp_nvt.specs.declared.line.Stage.TheVariants.{Start, Inside, AfterReturn, Past}
use Rattle.ftp_ends.specs.Limits.{IsShortLine}

pub none_short : (limit : ℕ) → IsShortLine limit no_line
none_short limit = record { text = omega arith; count = omega arith }

past_short : (limit : ℕ) → IsShortLine limit past_limit
past_short limit = record { text = omega arith; count = omega arith }

skipping_short : (limit c : ℕ) → IsShortLine limit (skipping c)
skipping_short limit c = cond_both (c == 10) no_line past_limit (IsShortLine limit) (λ is. none_short limit) (λ is. past_short limit)

-- ---- one octet

-- a text grows by one octet at most
with_short : (stage : Stage) (text : List ℕ) (c : ℕ) → length (text_with stage text c) ≤ length text + 1
with_short AfterReturn text c =
    cond_both (c == 0) text (text ++ c ∷ []) (λ t. length t ≤ length text + 1) (λ is. omega arith) (λ is. omega (arith, length-append text (c ∷ [])))
with_short Start text c = omega (arith, length-append text (c ∷ []))
with_short Inside text c = omega (arith, length-append text (c ∷ []))
with_short Past text c = omega (arith, length-append text (c ∷ []))

-- what is at most the limit, and not the limit, is below it
less_if : (limit n : ℕ) → n ≤ limit → (n == limit) ≡ false → n < limit
less_if limit n most is =
    elim (nat_lt n limit) as (λ b. nat_lt n limit ≡ b → n < limit) [
      | true ↦ λ e. ltb-true n limit e
      | false ↦ λ e. absurd (true≢false (sym (eq-eqb n limit (omega (arith, ltb-false n limit e, most))) ∙ is))
    ] refl

-- a line that is below the limit keeps it with one octet more
longer_short : (limit : ℕ) (u : Unfinished) (c : ℕ) → IsShortLine limit u → (u.count == limit) ≡ false → IsShortLine limit (longer u c)
longer_short limit u c short is =
    record { text = omega (arith, with_short u.stage u.text c, short.text); count = omega (arith, less_if limit u.count short.count is) }

within_short : (limit : ℕ) (u : Unfinished) (c : ℕ) → IsShortLine limit u → IsShortLine limit (within_step limit u c)
within_short limit u c short =
    cond_both (u.count == limit) (skipping c) (if c == 10 then no_line else longer u c) (IsShortLine limit) (λ is. skipping_short limit c)
    (λ less. cond_both (c == 10) no_line (longer u c) (IsShortLine limit) (λ is. none_short limit) (λ is. longer_short limit u c short less))

step_short : (limit : ℕ) (stage : Stage) (u : Unfinished) (c : ℕ) → IsShortLine limit u → IsShortLine limit (line_step limit stage u c)
step_short limit Past u c short = skipping_short limit c
step_short limit Start u c short = within_short limit u c short
step_short limit Inside u c short = within_short limit u c short
step_short limit AfterReturn u c short = within_short limit u c short

rows_short : (limit : ℕ) (octets : List ℕ) (u : Unfinished) → IsShortLine limit u → IsShortLine limit (after (liner limit) u octets)
rows_short limit [] u short = short
rows_short limit (c ∷ octets) u short = rows_short limit octets (line_step limit u.stage u c) (step_short limit u.stage u c short)

-- after every octet the line keeps its limit
pub ear_short : (limit : ℕ) (e : Ear) (c : ℕ) → IsShortLine limit e.line → IsShortLine limit (ear_step limit e c).line
ear_short limit e c short = rows_short limit (flat_map bare_of (unit_ended e.place c)) e.line short

-- ---- what it says

-- the text of a line is within the limit
abbrev pub IsShortEvent : ℕ → NvtEvent → Type 0
IsShortEvent limit (line text) = length text ≤ limit
IsShortEvent limit too_long = Unit {0}
IsShortEvent limit (owed answer) = Unit {0}

abbrev pub AreShortEvents : ℕ → List NvtEvent → Type 0
AreShortEvents limit [] = Unit {0}
AreShortEvents limit (event ∷ events) = IsShortEvent limit event × AreShortEvents limit events

both_short : (limit : ℕ) (one other : List NvtEvent) → AreShortEvents limit one → AreShortEvents limit other → AreShortEvents limit (one ++ other)
both_short limit [] other first second = second
both_short limit (event ∷ one) other first second = (first.0, both_short limit one other first.1 second)

ended_short : (stage : Stage) (text : List ℕ) → length (ended_text stage text) ≤ length text
ended_short AfterReturn text = omega (arith, length-take (length text - 1) text)
ended_short Start text = omega arith
ended_short Inside text = omega arith
ended_short Past text = omega arith

within_says : (limit : ℕ) (u : Unfinished) (c : ℕ) → IsShortLine limit u → AreShortEvents limit (within_out limit u c)
within_says limit u c short =
    cond_both (u.count == limit) (too_long ∷ []) (if c == 10 then line (ended_text u.stage u.text) ∷ [] else []) (AreShortEvents limit) (λ is. (tt, tt))
    (λ less. cond_both (c == 10) (line (ended_text u.stage u.text) ∷ []) [] (AreShortEvents limit)
    (λ is. (omega (arith, ended_short u.stage u.text, short.text, short.count), tt)) (λ is. tt))

line_says : (limit : ℕ) (stage : Stage) (u : Unfinished) (c : ℕ) → IsShortLine limit u → AreShortEvents limit (line_out limit stage u c)
line_says limit Past u c short = tt
line_says limit Start u c short = within_says limit u c short
line_says limit Inside u c short = within_says limit u c short
line_says limit AfterReturn u c short = within_says limit u c short

rows_say : (limit : ℕ) (octets : List ℕ) (u : Unfinished) → IsShortLine limit u → AreShortEvents limit (gives (liner limit) u octets)
rows_say limit [] u short = tt
rows_say limit (c ∷ octets) u short =
    both_short limit (line_out limit u.stage u c) (gives (liner limit) (line_step limit u.stage u c) octets) (line_says limit u.stage u c short)
    (rows_say limit octets (line_step limit u.stage u c) (step_short limit u.stage u c short))

answers_say : (limit : ℕ) (answers : List (List ℕ)) → AreShortEvents limit (map owed answers)
answers_say limit [] = tt
answers_say limit (answer ∷ answers) = (tt, answers_say limit answers)

units_say : (limit : ℕ) (u : Unfinished) (units : List TelnetUnit) → IsShortLine limit u → AreShortEvents limit (flat_map (unit_says limit u) units)
units_say limit u [] short = tt
units_say limit u (unit ∷ units) short =
    both_short limit (unit_says limit u unit) (flat_map (unit_says limit u) units)
    (both_short limit (gives (liner limit) u (bare_of unit)) (map owed (owed_of unit)) (rows_say limit (bare_of unit) u short) (answers_say limit (owed_of unit)))
    (units_say limit u units short)

-- every line that an octet says keeps the limit
pub ear_says : (limit : ℕ) (e : Ear) (c : ℕ) → IsShortLine limit e.line → AreShortEvents limit (ear_out limit e c)
ear_says limit e c short = units_say limit e.line (unit_ended e.place c) short
