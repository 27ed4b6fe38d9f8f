-- What the answers of lines are put together from.
use Rattle.std.proofs.Common.{◌≡◌, ℕ, ◌∙◌, Option, List, [], ◌∷◌, ◌++◌, Bool, true, false, ◌||◌, refl, sym, ap, subst, append_assoc, append-nil, arith, take, ◌+◌, Result, Ok, Err, length}
use Rattle.std.specs.Prelude.{IsErr, if◌then◌else◌, ◌==◌, ◌<◌}
use Rattle.std.specs.List.{slice_split}
use Rattle.std.specs.Str.Lines.{lines, lines_of_parts, strip_carriage_return}
use Rattle.std.specs.Io.KnownBytes.{Appends}
use Rattle.std.proofs.KnownBytes.{Appends-trans}
use Rattle.std.proofs.lemmas.List.Elements.{All-append, All-nil}
use Rattle.std.proofs.lemmas.List.Splits.{slice_split_none, slice_split_at, length-slice_split}
use Rattle.std.proofs.Math.Seq.{take-append-add}
use Rattle.ftp_ports.proofs.Fronts.{Appends-then-front, Appends-whole}
use Rattle.ftp_ports.specs.Beginning.{AppendsFront}
use Rattle.tool_codec.specs.FactLines.{line_feed, AnswersAll, AnswersFront}
use Rattle.tool_codec.specs.FactHearing.{LacksFeed, Told, StandsAfter, HearsAfter, BitesAfter, EndsAfter}
use Rattle.tool_codec.specs.declared.fact_lines.FactLines.{FactLines}
use Rattle.ftp_ports.specs.declared.pieces.Failed.{Failed}

-- LINES

split_some : (parts : List (List ℕ)) (xs : List ℕ) → (0 < length parts) → lines_of_parts (xs ∷ parts) ≡ strip_carriage_return xs ∷ lines_of_parts parts
split_some [] xs some = absurd (omega (arith, some))
split_some (part ∷ rest) xs some = refl

parts_are_some : (xs : List ℕ) → 0 < length (slice_split (λ b. b == 10) xs)
parts_are_some xs = let e = length-slice_split (λ b. b == 10) xs in omega (arith, e)

-- the first line ends at the first LF
pub lines-first : (xs ys : List ℕ) → LacksFeed xs → lines (xs ++ line_feed ∷ ys) ≡ strip_carriage_return xs ∷ lines ys
lines-first xs ys lacks =
    ap lines_of_parts (slice_split_at (λ b. b == 10) xs line_feed ys lacks refl) ∙ split_some (slice_split (λ b. b == 10) ys) xs (parts_are_some ys)

-- octets without LF are one line, or none where there are none
pub lines-last : (xs : List ℕ) → LacksFeed xs → lines xs ≡ (if length xs == 0 then [] else xs ∷ [])
lines-last xs lacks = ap lines_of_parts (slice_split_none (λ b. b == 10) xs lacks)

-- ANSWERS

or-assoc : (a b c : Bool) → (a || (b || c)) ≡ ((a || b) || c)
or-assoc true b c = refl
or-assoc false b c = refl

-- the answers of lines, and then those of others
pub AnswersAll-append : (A : Type 0) (xs ys : List (List ℕ)) (f g : Bool) (s t : List ℕ)
    → AnswersAll A xs f s → AnswersAll A ys g t → AnswersAll A (xs ++ ys) (f || g) (s ++ t)
AnswersAll-append A [] ys f g s t first then_ =
    subst (λ b. AnswersAll A ys (b || g) (s ++ t)) (sym first.0) (subst (λ l. AnswersAll A ys g (l ++ t)) (sym first.1) then_)
AnswersAll-append A (x ∷ xs) ys f g s t (answer, is_fault, more, has_fault, answers, rest, faulty, text) then_ = (
  answer,
  is_fault,
  more ++ t,
  has_fault || g,
  answers,
  AnswersAll-append A xs ys has_fault g more t rest then_,
  ap (λ b. b || g) faulty ∙ sym (or-assoc is_fault has_fault g),
  ap (λ l. l ++ t) text ∙ append_assoc answer (line_feed ∷ more) t,
)

-- a beginning for lines is one for these and more
pub front-more : (A : Type 0) (xs ys : List (List ℕ)) (old new : Option (List ℕ)) → AnswersFront A xs old new → AnswersFront A (xs ++ ys) old new
front-more A xs ys old new front = record {
  first = front.first;
  later = front.later ++ ys;
  cut = ap (λ l. l ++ ys) front.cut ∙ append_assoc front.first front.later ys;
  faulty = front.faulty;
  text = front.text;
  answers = front.answers;
  wrote = front.wrote;
}

-- all answers of lines, and then a beginning for others
pub front-behind : (A : Type 0) (xs ys : List (List ℕ)) (f : Bool) (s : List ℕ) (old mid new : Option (List ℕ))
    → AnswersAll A xs f s → Appends old mid s → AnswersFront A ys mid new → AnswersFront A (xs ++ ys) old new
front-behind A xs ys f s old mid new answers wrote front = record {
  first = xs ++ front.first;
  later = front.later;
  cut = ap (λ l. xs ++ l) front.cut ∙ sym (append_assoc xs front.first front.later);
  faulty = f || front.faulty;
  text = s ++ front.text;
  answers = AnswersAll-append A xs front.first f front.faulty s front.text answers front.answers;
  wrote = Appends-then-front old mid new s front.text wrote front.wrote;
}

-- a beginning of the one answer
pub front-one : (A : Type 0) (line : List ℕ) (faulty : Bool) (text : List ℕ) (old new : Option (List ℕ))
    → AnswersAll A (line ∷ []) faulty text → AppendsFront old new text → AnswersFront A (line ∷ []) old new
front-one A line faulty text old new answers wrote = record {
  first = line ∷ [];
  later = [];
  cut = refl;
  faulty = faulty;
  text = text;
  answers = answers;
  wrote = wrote;
}

-- all answers of lines are a beginning for these and more
pub front-all : (A : Type 0) (xs ys : List (List ℕ)) (f : Bool) (s : List ℕ) (old new : Option (List ℕ))
    → AnswersAll A xs f s → Appends old new s → AnswersFront A (xs ++ ys) old new
front-all A xs ys f s old new answers wrote = record {
  first = xs;
  later = ys;
  cut = refl;
  faulty = f;
  text = s;
  answers = answers;
  wrote = Appends-whole old new s wrote;
}

-- WHERE THE ANSWERS STAND

-- octets without LF are kept
pub stands-kept : {A : Type 0} (octets xs : List ℕ) (before now : Option (List ℕ)) (old new : FactLines A)
    → StandsAfter octets before now old → LacksFeed xs → new.line.items ≡ old.line.items ++ xs → new.faulty ≡ old.faulty
    → StandsAfter (octets ++ xs) before now new
stands-kept {A} octets xs before now old new stands lacks line faulty = record {
  said = stands.said;
  cut = λ more. ap lines (append_assoc octets xs more) ∙ stands.cut (xs ++ more)
      ∙ ap (λ l. stands.said ++ lines l) (sym (append_assoc old.line.items xs more) ∙ ap (λ l. l ++ more) (sym line));
  unended = subst LacksFeed (sym line) (All-append (λ octet. (octet == 10) ≡ false) old.line.items xs stands.unended lacks);
  text = stands.text;
  answers = subst (λ b. AnswersAll A stands.said b stands.text) (sym faulty) stands.answers;
  wrote = stands.wrote;
}

cut-line : {A : Type 0} (octets more : List ℕ) (before now : Option (List ℕ)) (kept : FactLines A) → (stands : StandsAfter octets before now kept)
    → lines (octets ++ line_feed ∷ more) ≡ (stands.said ++ strip_carriage_return kept.line.items ∷ []) ++ lines more
cut-line octets more before now kept stands =
    let line = strip_carriage_return kept.line.items in
    stands.cut (line_feed ∷ more) ∙ ap (λ l. stands.said ++ l) (lines-first kept.line.items more stands.unended)
    ∙ sym (append_assoc stands.said (line ∷ []) (lines more))

-- an LF ends the line that was kept
pub stands-ended : {A : Type 0} (octets : List ℕ) (before mid now : Option (List ℕ)) (old new : FactLines A) (faulty : Bool)
    → StandsAfter octets before mid old → Told A (strip_carriage_return old.line.items ∷ []) mid now (Ok faulty)
    → new.line.items ≡ [] → new.faulty ≡ (old.faulty || faulty) → StandsAfter (octets ++ line_feed ∷ []) before now new
stands-ended {A} octets before mid now old new faulty stands told line is_faulty =
    let ended = strip_carriage_return old.line.items ∷ [] in
    record {
      said = stands.said ++ ended;
      cut = λ more. ap lines (append_assoc octets (line_feed ∷ []) more) ∙ cut-line octets more before mid old stands
          ∙ ap (λ l. (stands.said ++ ended) ++ lines (l ++ more)) (sym line);
      unended = subst LacksFeed (sym line) (All-nil (λ octet. (octet == 10) ≡ false));
      text = stands.text ++ told.0;
      answers = subst (λ b. AnswersAll A (stands.said ++ ended) b (stands.text ++ told.0)) (sym is_faulty)
          (AnswersAll-append A stands.said ended old.faulty faulty stands.text told.0 stands.answers told.1);
      wrote = Appends-trans before mid now stands.text told.0 stands.wrote told.2;
    }

-- the answer of the line that was kept broke off
pub ended_front : {A : Type 0} (octets more : List ℕ) (before mid now : Option (List ℕ)) (kept : FactLines A)
    → StandsAfter octets before mid kept → AnswersFront A (strip_carriage_return kept.line.items ∷ []) mid now
    → AnswersFront A (lines (octets ++ line_feed ∷ more)) before now
ended_front {A} octets more before mid now kept stands front =
    let ended = strip_carriage_return kept.line.items ∷ [] in
    subst (λ l. AnswersFront A l before now) (sym (cut-line octets more before mid kept stands))
    (front-more A (stands.said ++ ended) (lines more) before now
    (front-behind A stands.said ended kept.faulty stands.text before mid now stands.answers stands.wrote front))

-- nothing more was answered
pub stands_front : {A : Type 0} (octets more : List ℕ) (before now : Option (List ℕ)) (kept : FactLines A)
    → StandsAfter octets before now kept → AnswersFront A (lines (octets ++ more)) before now
stands_front {A} octets more before now kept stands =
    subst (λ l. AnswersFront A l before now) (sym (stands.cut more))
    (front-all A stands.said (lines (kept.line.items ++ more)) kept.faulty stands.text before now stands.answers stands.wrote)

cut-end : {A : Type 0} (octets : List ℕ) (before now : Option (List ℕ)) (kept : FactLines A) → (stands : StandsAfter octets before now kept)
    → lines octets ≡ stands.said ++ (if length kept.line.items == 0 then [] else kept.line.items ∷ [])
cut-end octets before now kept stands =
    ap lines (sym (append-nil octets)) ∙ stands.cut [] ∙ ap (λ l. stands.said ++ lines l) (append-nil kept.line.items)
    ∙ ap (λ l. stands.said ++ l) (lines-last kept.line.items stands.unended)

-- the input ended with an LF, or is empty
pub told_ended : {A : Type 0} (octets : List ℕ) (before now : Option (List ℕ)) (kept : FactLines A)
    → StandsAfter octets before now kept → (length kept.line.items == 0) ≡ true → Told A (lines octets) before now (Ok kept.faulty)
told_ended {A} octets before now kept stands none =
    let same = cut-end octets before now kept stands ∙ ap (λ b. stands.said ++ (if b then [] else kept.line.items ∷ [])) none ∙ append-nil stands.said in
    (stands.text, subst (λ l. AnswersAll A l kept.faulty stands.text) (sym same) stands.answers, stands.wrote)

-- a last line without LF
cut-last : {A : Type 0} (octets : List ℕ) (before now : Option (List ℕ)) (kept : FactLines A) → (stands : StandsAfter octets before now kept)
    → (length kept.line.items == 0) ≡ false → lines octets ≡ stands.said ++ kept.line.items ∷ []
cut-last octets before now kept stands some =
    cut-end octets before now kept stands ∙ ap (λ b. stands.said ++ (if b then [] else kept.line.items ∷ [])) some

pub told_last : {A : Type 0} (octets : List ℕ) (before mid now : Option (List ℕ)) (kept : FactLines A) (faulty : Bool)
    → StandsAfter octets before mid kept → (length kept.line.items == 0) ≡ false → Told A (kept.line.items ∷ []) mid now (Ok faulty)
    → Told A (lines octets) before now (Ok (kept.faulty || faulty))
told_last {A} octets before mid now kept faulty stands some told =
    let same = cut-last octets before mid kept stands some in (
      stands.text ++ told.0,
      subst (λ l. AnswersAll A l (kept.faulty || faulty) (stands.text ++ told.0)) (sym same)
          (AnswersAll-append A stands.said (kept.line.items ∷ []) kept.faulty faulty stands.text told.0 stands.answers told.1),
      Appends-trans before mid now stands.text told.0 stands.wrote told.2,
    )

pub last_front : {A : Type 0} (octets : List ℕ) (before mid now : Option (List ℕ)) (kept : FactLines A)
    → StandsAfter octets before mid kept → (length kept.line.items == 0) ≡ false → AnswersFront A (kept.line.items ∷ []) mid now
    → AnswersFront A (lines octets) before now
last_front {A} octets before mid now kept stands some front =
    subst (λ l. AnswersFront A l before now) (sym (cut-last octets before mid kept stands some))
    (front-behind A stands.said (kept.line.items ∷ []) kept.faulty stands.text before mid now stands.answers stands.wrote front)

-- OUTCOMES

pub told_failed : (A : Type 0) (all : List (List ℕ)) (before now : Option (List ℕ)) (outcome : Result Bool Failed) → IsErr outcome → AnswersFront A all before now → Told A all before now outcome
told_failed A all before now (Ok faulty) failed front = absurd (let e : false ≡ true = failed in cc)
told_failed A all before now (Err e) failed front = front

pub hears_failed : {A : Type 0} (octets piece : List ℕ) (before now : Option (List ℕ)) (outcome : Result (Unit {0}) Failed) (kept : FactLines A)
    → IsErr outcome → AnswersFront A (lines (octets ++ piece)) before now → HearsAfter A octets piece before now outcome kept
hears_failed octets piece before now (Ok done) kept failed front = absurd (let e : false ≡ true = failed in cc)
hears_failed octets piece before now (Err e) kept failed front = front

pub bites_failed : {A : Type 0} (octets piece : List ℕ) (before now : Option (List ℕ)) (outcome : Result ℕ Failed) (kept : FactLines A)
    → IsErr outcome → AnswersFront A (lines (octets ++ piece)) before now → BitesAfter A octets piece before now outcome kept
bites_failed octets piece before now (Ok count) kept failed front = absurd (let e : false ≡ true = failed in cc)
bites_failed octets piece before now (Err e) kept failed front = front

pub line_failed : {A : Type 0} (octets : List ℕ) (before now : Option (List ℕ)) (outcome : Result (Unit {0}) Failed) (kept : FactLines A)
    → IsErr outcome → ((more : List ℕ) → AnswersFront A (lines (octets ++ line_feed ∷ more)) before now) → EndsAfter A octets before now outcome kept
line_failed octets before now (Ok done) kept failed front = absurd (let e : false ≡ true = failed in cc)
line_failed octets before now (Err e) kept failed front = front

-- a piece up to its first LF, and that LF
pub take-ended : (piece front back : List ℕ) → piece ≡ front ++ line_feed ∷ back → take (length front + 1) piece ≡ front ++ line_feed ∷ []
take-ended piece front back cut = ap (take (length front + 1)) cut ∙ take-append-add front (line_feed ∷ back) 1
