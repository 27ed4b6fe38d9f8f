-- What a line gives a reader of replies, and that it is right.
use Rattle.std.proofs.Common.{◌≡◌, ℕ, ◌+◌, ◌/◌, ◌%◌, ◌<◌, ◌≤◌, ◌⊎◌, inl, inr, List, [], ◌∷◌, ◌++◌, Bool, true, false, ◌==◌, Option, Some, None, refl, sym, ap, subst, ◌∙◌, arith, length, length-append, take, drop, eqb-true}
use Rattle.std.specs.Prelude.{if◌then◌else◌}
use Rattle.std.specs.Char.{digit_value, is_ascii_digit}
use Rattle.std.specs.Option.{is_some}
use Rattle.std.specs.Str.Parse.{AllDigits, digits_value}
use Rattle.std.proofs.lemmas.Bool.Decides.{Decides-eqb, nat_tests}
use Rattle.std.proofs.lemmas.List.Elements.{All-nil, All-push}
use Rattle.std.proofs.lemmas.List.Sums.{sum_by-append}
use Rattle.std.proofs.lemmas.Slice.Eq.{starts_is}
use Rattle.std.proofs.lemmas.Str.{digit_value_digit}
use Rattle.ftp_endpoint.proofs.NumberLemmas.{is_digit, digit_bounds}
use Rattle.ftp_facts.specs.Value.{number_within}
use Rattle.ftp_facts.proofs.NumberLemmas.{Within, and_both, at_most, both, given_is, is_at_most, is_given, says_within, within_says}
use Rattle.ftp_reply.specs.Lines.{Text, AreWithin, are_within, octets_of}
use Rattle.ftp_reply.specs.Reader.{Between, Begun, Faulty, Gathered, GivesRightly, GoesOn, Heard, Says, Stands, code_in_front, first_heard, is_last, line_heard, next_heard, opened, reply_placed}
use Rattle.ftp_reply.specs.Reply.{IsCode, code_text, least_code, greatest_code, last_line, opening_line, IsLastLine, Begins, IsSeveral, IsWholeReply, Fits, Says as SaysReply, begins_with_digits}
use Rattle.ftp_reply.specs.declared.fault.ReplyFault.TheVariants as Faults
use Rattle.ftp_reply.specs.declared.lines.TheConstants.{MAX_LINES, MAX_OCTETS}
use Rattle.ftp_reply.proofs.ReplyLemmas.{code_once, fits_once, whole_only}

-- ---- the limits

pub few_lines : (texts : List Text) → AreWithin texts → length texts ≤ MAX_LINES
few_lines texts is = at_most (length texts) MAX_LINES (both _ _ is).0

pub few_octets : (texts : List Text) → AreWithin texts → octets_of texts ≤ MAX_OCTETS
few_octets texts is = at_most (octets_of texts) MAX_OCTETS (both _ _ is).1

pub front_within : (xs ys : List Text) → AreWithin (xs ++ ys) → AreWithin xs
front_within xs ys is =
    let lines = few_lines (xs ++ ys) is in
    let octets = few_octets (xs ++ ys) is in
    and_both _ _ (is_at_most (length xs) MAX_LINES (omega (arith, length-append xs ys, lines))) (is_at_most (octets_of xs) MAX_OCTETS (omega (arith, sum_by-append length xs ys, octets)))

-- ---- the code in front of a line

digit : (d : ℕ) → d < 10 → digit_value (48 + d) ≡ d
digit d low = grind (arith, nat_tests)

digit_is : (d : ℕ) → d < 10 → is_ascii_digit (48 + d) ≡ true
digit_is d low = grind (arith, nat_tests)

code_value : (code : ℕ) → IsCode code → digits_value 10 (code_text code) ≡ code
code_value code is =
    let a = digit (code / 100) (omega (arith, is.high)) in
    let b = digit (code / 10 % 10) (omega arith) in
    let c = digit (code % 10) (omega arith) in
    rw (a, b, c) (omega arith)

pub code_is_read : (code : ℕ) → IsCode code → number_within 3 least_code greatest_code (code_text code) ≡ Some code
code_is_read code is =
    let value = code_value code is in
    let a = digit (code / 100) (omega (arith, is.high)) in
    let b = digit (code / 10 % 10) (omega arith) in
    let c = digit (code % 10) (omega arith) in
    let w : Within 3 least_code greatest_code (code_text code) = record {
      some = omega arith;
      short = omega arith;
      all = (omega (arith, a, is.high), (omega (arith, b), (omega (arith, c), tt)));
      least = omega (arith, value, is.low);
      greatest = omega (arith, value, is.high);
    } in
    is_given _ (digits_value 10 (code_text code)) (says_within 3 least_code greatest_code (code_text code) w) ∙ ap Some value

-- three digits are the code that they write
three_digits : (a b c : ℕ) → AllDigits 10 (a ∷ b ∷ c ∷ []) → code_text (digits_value 10 (a ∷ b ∷ c ∷ [])) ≡ a ∷ b ∷ c ∷ []
three_digits a b c all =
    let x : digit_value a + 48 ≡ a = value a all.0 in
    let y : digit_value b + 48 ≡ b = value b all.1.0 in
    let z : digit_value c + 48 ≡ c = value c all.1.1.0 in
    let n : ℕ = digits_value 10 (a ∷ b ∷ c ∷ []) in
    let first : 48 + n / 100 ≡ a = omega (arith, x, y, z, all.0, all.1.0, all.1.1.0) in
    let second : 48 + n / 10 % 10 ≡ b = omega (arith, x, y, z, all.0, all.1.0, all.1.1.0) in
    let third : 48 + n % 10 ≡ c = omega (arith, x, y, z, all.0, all.1.0, all.1.1.0) in
    λ i. first i ∷ second i ∷ third i ∷ []
  where
    value : (c : ℕ) → digit_value c < 10 → digit_value c + 48 ≡ c
    value c low = let range = digit_bounds c (is_digit c low) in digit_value_digit c (omega (arith, range.0), omega (arith, range.1))

-- a line that begins with a code
record HasCode (line : Text) (code : ℕ) : Type 0 where
  code_is : IsCode code
  line_is : line ≡ code_text code ++ drop 3 line

has_code : (line : Text) (code : ℕ) → code_in_front line ≡ Some code → HasCode line code
has_code line code e =
    let g = given_is _ (digits_value 10 (take 3 line)) code e in
    let w : Within 3 least_code greatest_code (take 3 line) = within_says 3 least_code greatest_code (take 3 line) g.0 in
    by_line line (record { some = w.some; short = w.short; all = w.all; least = w.least; greatest = w.greatest }) g.1
  where
    by_line : (line : Text) → Within 3 least_code greatest_code (take 3 line) → digits_value 10 (take 3 line) ≡ code → HasCode line code
    by_line [] w is = absurd (omega (arith, w.some))
    by_line (a ∷ []) w is = absurd (omega (arith, w.least, w.all.0))
    by_line (a ∷ b ∷ []) w is = absurd (omega (arith, w.least, w.all.0, w.all.1.0))
    by_line (a ∷ b ∷ c ∷ rest) w is =
        record {
          code_is = record { low = omega (arith, is, w.least); high = omega (arith, is, w.greatest) };
          line_is = ap (λ l. l ++ rest) (sym (three_digits a b c w.all)) ∙ ap (λ n. code_text n ++ rest) is;
        }

code_read : (line rest : Text) (code : ℕ) → IsCode code → line ≡ code_text code ++ rest → code_in_front line ≡ Some code
code_read line rest code is e = ap code_in_front e ∙ code_is_read code is

-- ---- a line that a reply fits

-- how it begins: with the code, and behind that SP, '-' or nothing
abbrev Starts : ℕ → Text → Type 0
Starts code line = (rest : Text) × (line ≡ code_text code ++ rest) × (((text : Text) × (rest ≡ 32 ∷ text)) ⊎ (((text : Text) × (rest ≡ 45 ∷ text)) ⊎ (rest ≡ [])))

one_of : (line other : Text) → line ∷ [] ≡ other ∷ [] → line ≡ other
one_of line other e = cc

first_of : (line other : Text) (more : List Text) → line ∷ [] ≡ other ∷ more → line ≡ other
first_of line other more e = cc

not_several : (line : Text) (code : ℕ) (lines : List Text) → IsSeveral (line ∷ []) code lines → ⊥
not_several line code lines s =
    let e : line ∷ [] ≡ opening_line code s.begins.first ∷ (s.begins.between ++ last_line code s.last ∷ []) = s.heard_is ∙ ap (λ l. l ++ last_line code s.last ∷ []) s.begins.heard_is in
    nothing s.begins.between (opening_line code s.begins.first) (last_line code s.last) e
  where
    nothing : (between : List Text) (first last : Text) → line ∷ [] ≡ first ∷ (between ++ last ∷ []) → ⊥
    nothing [] first last e = absurd (cc)
    nothing (l ∷ between) first last e = absurd (cc)

fits_starts : (line : Text) (code : ℕ) (lines : List Text) → Fits (line ∷ []) code lines → IsCode code × Starts code line
fits_starts line code lines (inl (inl one)) = by_heard one.heard_is
  where
    by_heard : (line ∷ [] ≡ last_line code one.text ∷ []) ⊎ ((line ∷ [] ≡ code_text code ∷ []) × (one.text ≡ [])) → IsCode code × Starts code line
    by_heard (inl e) = (one.code_is, (32 ∷ one.text, one_of line (last_line code one.text) e, inl (one.text, refl)))
    by_heard (inr e) = (one.code_is, ([], one_of line (code_text code) e.0, inr (inr refl)))
fits_starts line code lines (inl (inr several)) = absurd (not_several line code lines several)
fits_starts line code lines (inr begins) =
    (begins.code_is, (45 ∷ begins.first, first_of line (opening_line code begins.first) begins.between begins.heard_is, inr (inl (begins.first, refl))))

no_code : (line : Text) → code_in_front line ≡ None → (code : ℕ) (lines : List Text) → ¬ Fits (line ∷ []) code lines
no_code line none code lines fits =
    let starts = fits_starts line code lines fits in
    let e : None ≡ Some code = sym none ∙ code_read line starts.1.0 code starts.0 starts.1.1 in
    let b : false ≡ true = ap is_some e in
    cc

-- a line that begins with a code, and goes on with neither SP nor '-'
no_place : (line text : Text) (code c : ℕ) → IsCode code → line ≡ code_text code ++ c ∷ text → (c == 32) ≡ false → (c == 45) ≡ false
    → (other : ℕ) (lines : List Text) → ¬ Fits (line ∷ []) other lines
no_place line text code c is line_is space hyphen other lines fits =
    let starts = fits_starts line other lines fits in
    let rest = (code_once code other (c ∷ text) starts.1.0 is starts.0 (sym line_is ∙ starts.1.1)).1 in
    by_rest starts.1.0 rest starts.1.2
  where
    by_rest : (rest : Text) → c ∷ text ≡ rest → ((text : Text) × (rest ≡ 32 ∷ text)) ⊎ (((text : Text) × (rest ≡ 45 ∷ text)) ⊎ (rest ≡ [])) → ⊥
    by_rest rest e (inl (more, f)) =
        let g : c ∷ text ≡ 32 ∷ more = e ∙ f in let head : c ≡ 32 = cc in absurd (let never : true ≡ false = sym (ap (λ n. n == 32) head) ∙ space in cc)
    by_rest rest e (inr (inl (more, f))) =
        let g : c ∷ text ≡ 45 ∷ more = e ∙ f in let head : c ≡ 45 = cc in absurd (let never : true ≡ false = sym (ap (λ n. n == 45) head) ∙ hyphen in cc)
    by_rest rest e (inr (inr f)) = absurd (let g : c ∷ text ≡ [] = e ∙ f in cc)

-- ---- what a place gives

ends_rightly : (heard : List Text) (line : Text) (code : ℕ) (texts : List Text) → IsWholeReply (heard ++ line ∷ []) code texts → GivesRightly heard line (reply_placed true code texts)
ends_rightly heard line code texts whole = by_within (are_within texts) refl
  where
    by_within : (within : Bool) → are_within texts ≡ within → GivesRightly heard line (if within then Says code texts else Faulty Faults.TooMany)
    by_within true within = record { whole = whole; within = within }
    by_within false within = (code, texts, inl whole, λ is. let e : true ≡ false = sym is ∙ within in cc)

goes_rightly : (heard : List Text) (line : Text) (code : ℕ) (texts : List Text) → Begins (heard ++ line ∷ []) code texts → GivesRightly heard line (reply_placed false code texts)
goes_rightly heard line code texts begins = by_within (are_within texts) refl
  where
    by_within : (within : Bool) → are_within texts ≡ within → GivesRightly heard line (if within then GoesOn (Begun code texts) else Faulty Faults.TooMany)
    by_within true within = (begins, within)
    by_within false within = (code, texts, inr begins, λ is. let e : true ≡ false = sym is ∙ within in cc)

-- ---- the first line

alone : (line text : Text) (code : ℕ) → IsCode code → line ≡ last_line code text → IsWholeReply (line ∷ []) code (text ∷ [])
alone line text code is e = inl (record { text = text; code_is = is; lines_are = refl; heard_is = inl (ap (λ l. l ∷ []) e) })

opens : (line text : Text) (code : ℕ) → IsCode code → line ≡ opening_line code text → Begins (line ∷ []) code (text ∷ [])
opens line text code is e =
    record { first = text; between = []; code_is = is; lines_are = refl; heard_is = ap (λ l. l ∷ []) e; goes_on = All-nil (λ line. ¬ IsLastLine code line) }

first_rightly : (line : Text) (code : ℕ) (rest : Text) → IsCode code → line ≡ code_text code ++ rest → GivesRightly [] line (first_heard code rest)
first_rightly line code [] is e =
    ends_rightly [] line code ([] ∷ []) (inl (record { text = []; code_is = is; lines_are = refl; heard_is = inr (ap (λ l. l ∷ []) e, refl) }))
first_rightly line code (c ∷ text) is e = by_octet (c == 32) refl (c == 45) refl
  where
    by_octet : (space : Bool) → (c == 32) ≡ space → (hyphen : Bool) → (c == 45) ≡ hyphen
        → GivesRightly [] line (if space then reply_placed true code (text ∷ []) else (if hyphen then reply_placed false code (text ∷ []) else Faulty Faults.BadCode))
    by_octet true space hyphen also =
        let is_space : c ≡ 32 = eqb-true c 32 space in
        ends_rightly [] line code (text ∷ []) (alone line text code is (e ∙ ap (λ n. code_text code ++ n ∷ text) is_space))
    by_octet false space true also =
        let is_hyphen : c ≡ 45 = eqb-true c 45 also in
        goes_rightly [] line code (text ∷ []) (opens line text code is (e ∙ ap (λ n. code_text code ++ n ∷ text) is_hyphen))
    by_octet false space false also = (refl, no_place line text code c is e space also)

opened_rightly : (front : Option ℕ) (line : Text) → code_in_front line ≡ front → GivesRightly [] line (opened front line)
opened_rightly None line e = (refl, no_code line e)
opened_rightly (Some code) line e = let has = has_code line code e in first_rightly line code (drop 3 line) has.code_is has.line_is

-- ---- a later line

either : (b : Bool) → (b ≡ true) ⊎ (b ≡ false)
either true = inl refl
either false = inr refl

pub begins_last : (code : ℕ) (text : Text) → is_last code (last_line code text) ≡ true
begins_last code text =
    (starts_is Decides-eqb (last_line code text) (last_line code []) (is_last code (last_line code text)) refl).1 text refl

pub plain_is_inner : (code : ℕ) (text : Text) → IsCode code → begins_with_digits text ≡ false → is_last code text ≡ false
plain_is_inner code text is plain =
    elim (either (is_last code text)) [
      | inl e ↦
          let s = (starts_is Decides-eqb text (last_line code []) (is_last code text) refl).0 e in
          let a = digit_is (code / 100) (omega (arith, is.high)) in
          let b = digit_is (code / 10 % 10) (omega arith) in
          let c = digit_is (code % 10) (omega arith) in
          let digits : begins_with_digits text ≡ true = ap begins_with_digits s ∙ rw (a, b, c) refl in
          absurd (let never : true ≡ false = sym digits ∙ plain in cc)
      | inr e ↦ e
    ]

last_is : (code : ℕ) (line : Text) → is_last code line ≡ true → line ≡ last_line code (drop 4 line)
last_is code line is = (starts_is Decides-eqb line (last_line code []) (is_last code line) refl).0 is

not_last : (code : ℕ) (line : Text) → is_last code line ≡ false → ¬ IsLastLine code line
not_last code line is = λ last. let e : true ≡ false = sym (ap (is_last code) last.1 ∙ begins_last code last.0) ∙ is in cc

-- a last line ends what has begun, and any other goes on
last_ends : (code : ℕ) (heard texts : List Text) (line text : Text) → Begins heard code texts → line ≡ last_line code text → IsWholeReply (heard ++ line ∷ []) code (texts ++ text ∷ [])
last_ends code heard texts line text begins e =
    inr (record { begun = heard; texts = texts; last = text; begins = begins; lines_are = refl; heard_is = ap (λ l. heard ++ l ∷ []) e })

other_goes_on : (code : ℕ) (heard texts : List Text) (line : Text) → Begins heard code texts → ¬ IsLastLine code line → Begins (heard ++ line ∷ []) code (texts ++ line ∷ [])
other_goes_on code heard texts line begins other = record {
  first = begins.first;
  between = begins.between ++ line ∷ [];
  code_is = begins.code_is;
  lines_are = ap (λ ls. ls ++ line ∷ []) begins.lines_are;
  heard_is = ap (λ ls. ls ++ line ∷ []) begins.heard_is;
  goes_on = All-push (λ l. ¬ IsLastLine code l) begins.between line begins.goes_on other;
}

next_rightly : (last : Bool) (code : ℕ) (texts heard : List Text) (line : Text) → is_last code line ≡ last → Begins heard code texts
    → GivesRightly heard line (next_heard last code texts line)
next_rightly true code texts heard line is begins =
    ends_rightly heard line code (texts ++ drop 4 line ∷ []) (last_ends code heard texts line (drop 4 line) begins (last_is code line is))
next_rightly false code texts heard line is begins =
    goes_rightly heard line code (texts ++ line ∷ []) (other_goes_on code heard texts line begins (not_last code line is))

pub line_is_heard : (gathered : Gathered) (heard : List Text) (line : Text) → Stands gathered heard → GivesRightly heard line (line_heard gathered line)
unfolding line_heard
line_is_heard Between heard line stands =
    let P : List Text → Type 0 = λ l. GivesRightly l line (opened (code_in_front line) line) in
    subst P (sym stands) (opened_rightly (code_in_front line) line refl)
line_is_heard (Begun code texts) heard line stands = next_rightly (is_last code line) code texts heard line refl stands.0

-- ---- and it gives that wherever it is right

no_line_more : (heard : List Text) (line : Text) → heard ++ line ∷ [] ≡ [] → ⊥
no_line_more [] line e = absurd (cc)
no_line_more (first ∷ heard) line e = absurd (cc)

-- lines that are a reply, or the beginning of one, are so with these texts alone
texts_are : (lines : List Text) (code code' : ℕ) (texts texts' : List Text) → Fits lines code texts → Fits lines code' texts' → texts ≡ texts'
texts_are lines code code' texts texts' fits fits' = (fits_once lines code code' texts texts' fits fits').1

passes_alone : (heard : List Text) (line : Text) (code : ℕ) (texts : List Text) → Fits (heard ++ line ∷ []) code texts → ¬ AreWithin texts
    → (given : Heard) → GivesRightly heard line given → given ≡ Faulty Faults.TooMany
passes_alone heard line code texts fits over (GoesOn Between) right = absurd (no_line_more heard line right)
passes_alone heard line code texts fits over (GoesOn (Begun other lines)) right =
    absurd (over (subst AreWithin (texts_are (heard ++ line ∷ []) other code lines texts (inr right.0) fits) right.1))
passes_alone heard line code texts fits over (Says other lines) right =
    absurd (over (subst AreWithin (texts_are (heard ++ line ∷ []) other code lines texts (inl right.whole) fits) right.within))
passes_alone heard line code texts fits over (Faulty Faults.BadCode) right =
    absurd (right.1 code texts (let P : List Text → Type 0 = λ l. Fits (l ++ line ∷ []) code texts in subst P right.0 fits))
passes_alone heard line code texts fits over (Faulty Faults.TooMany) right = refl
passes_alone heard line code texts fits over (Faulty Faults.NoEndpoint) right = absurd right
passes_alone heard line code texts fits over (Faulty Faults.NoPath) right = absurd right
passes_alone heard line code texts fits over (Faulty Faults.NoNumber) right = absurd right
passes_alone heard line code texts fits over (Faulty Faults.Memory) right = absurd right
passes_alone heard line code texts fits over (Faulty Faults.Failed) right = absurd right

says_alone : (heard : List Text) (line : Text) (code : ℕ) (texts : List Text) → SaysReply (heard ++ line ∷ []) code texts
    → (given : Heard) → GivesRightly heard line given → given ≡ Says code texts
says_alone heard line code texts says (GoesOn Between) right = absurd (no_line_more heard line right)
says_alone heard line code texts says (GoesOn (Begun other lines)) right = absurd (whole_only (heard ++ line ∷ []) code other texts lines says.whole right.0)
says_alone heard line code texts says (Says other lines) right =
    let same = fits_once (heard ++ line ∷ []) other code lines texts (inl right.whole) (inl says.whole) in λ i. Says (same.0 i) (same.1 i)
says_alone heard line code texts says (Faulty Faults.BadCode) right =
    absurd (right.1 code texts (let P : List Text → Type 0 = λ l. Fits (l ++ line ∷ []) code texts in subst P right.0 (inl says.whole)))
says_alone heard line code texts says (Faulty Faults.TooMany) right =
    absurd (right.3 (subst AreWithin (texts_are (heard ++ line ∷ []) code right.0 texts right.1 (inl says.whole) right.2) says.within))
says_alone heard line code texts says (Faulty Faults.NoEndpoint) right = absurd right
says_alone heard line code texts says (Faulty Faults.NoPath) right = absurd right
says_alone heard line code texts says (Faulty Faults.NoNumber) right = absurd right
says_alone heard line code texts says (Faulty Faults.Memory) right = absurd right
says_alone heard line code texts says (Faulty Faults.Failed) right = absurd right

none_alone : (line : Text) → ((code : ℕ) (texts : List Text) → ¬ Fits (line ∷ []) code texts) → (given : Heard) → GivesRightly [] line given → given ≡ Faulty Faults.BadCode
none_alone line none (GoesOn Between) right = absurd (no_line_more [] line right)
none_alone line none (GoesOn (Begun code texts)) right = absurd (none code texts (inr right.0))
none_alone line none (Says code texts) right = absurd (none code texts (inl right.whole))
none_alone line none (Faulty Faults.BadCode) right = refl
none_alone line none (Faulty Faults.TooMany) right = absurd (none right.0 right.1 right.2)
none_alone line none (Faulty Faults.NoEndpoint) right = absurd right
none_alone line none (Faulty Faults.NoPath) right = absurd right
none_alone line none (Faulty Faults.NoNumber) right = absurd right
none_alone line none (Faulty Faults.Memory) right = absurd right
none_alone line none (Faulty Faults.Failed) right = absurd right

pub says_line : (gathered : Gathered) (heard : List Text) (line : Text) (code : ℕ) (texts : List Text) → Stands gathered heard → SaysReply (heard ++ line ∷ []) code texts
    → line_heard gathered line ≡ Says code texts
says_line gathered heard line code texts stands says = says_alone heard line code texts says (line_heard gathered line) (line_is_heard gathered heard line stands)

pub bad_line : (line : Text) → ((code : ℕ) (texts : List Text) → ¬ Fits (line ∷ []) code texts) → line_heard Between line ≡ Faulty Faults.BadCode
bad_line line none = none_alone line none (line_heard Between line) (line_is_heard Between [] line refl)

pub passing_line : (gathered : Gathered) (heard : List Text) (line : Text) (code : ℕ) (texts : List Text) → Stands gathered heard → Fits (heard ++ line ∷ []) code texts
    → ¬ AreWithin texts → line_heard gathered line ≡ Faulty Faults.TooMany
passing_line gathered heard line code texts stands fits over = passes_alone heard line code texts fits over (line_heard gathered line) (line_is_heard gathered heard line stands)

-- ---- what the code finds in a line

pub heard_code : (line rest : Text) (code : ℕ) → IsCode code → line ≡ code_text code ++ rest → line_heard Between line ≡ first_heard code rest
unfolding line_heard
heard_code line rest code is e =
    ap (λ front. opened front line) (code_read line rest code is e) ∙ ap (λ l. first_heard code (drop 3 l)) e

pub heard_no_code : (line : Text) → ((code : ℕ) (rest : Text) → IsCode code → line ≡ code_text code ++ rest → ⊥) → line_heard Between line ≡ Faulty Faults.BadCode
unfolding line_heard
heard_no_code line none = by_front (code_in_front line) refl
  where
    by_front : (front : Option ℕ) → code_in_front line ≡ front → opened front line ≡ Faulty Faults.BadCode
    by_front None e = refl
    by_front (Some code) e = let has = has_code line code e in absurd (none code (drop 3 line) has.code_is has.line_is)

pub heard_last : (code : ℕ) (texts : List Text) (line text : Text) → line ≡ last_line code text → line_heard (Begun code texts) line ≡ reply_placed true code (texts ++ text ∷ [])
unfolding line_heard
heard_last code texts line text e =
    ap (λ last. next_heard last code texts line) (ap (is_last code) e ∙ begins_last code text) ∙ ap (λ l. reply_placed true code (texts ++ drop 4 l ∷ [])) e

pub heard_other : (code : ℕ) (texts : List Text) (line : Text) → ¬ IsLastLine code line → line_heard (Begun code texts) line ≡ reply_placed false code (texts ++ line ∷ [])
unfolding line_heard
heard_other code texts line other = by_last (is_last code line) refl
  where
    by_last : (last : Bool) → is_last code line ≡ last → next_heard last code texts line ≡ reply_placed false code (texts ++ line ∷ [])
    by_last true is = absurd (other (drop 4 line, last_is code line is))
    by_last false is = refl
