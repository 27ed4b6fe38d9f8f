-- The answers of all lines from the first read to the last.
use Rattle.std.proofs.Common.{◌≡◌, ℕ, ◌∙◌, Option, List, [], ◌++◌, Bool, true, false, refl, ap, subst, Result, Ok, Err, append-nil}
use Rattle.std.specs.Prelude.{IsErr}
use Rattle.std.specs.Str.Lines.{lines}
use Rattle.std.specs.Io.KnownBytes.{Consumes, IsAtEnd, Keeps}
use Rattle.std.proofs.KnownBytes.{Consumes-trans, Consumes-kept}
use Rattle.tool_codec.specs.FactLines.{AnswersFront, TellsFront, TellsLinesTo}
use Rattle.tool_codec.specs.FactHearing.{Told, StandsAfter}
use Rattle.tool_codec.specs.declared.fact_lines.FactLines.{FactLines}
use Rattle.ftp_ports.specs.declared.pieces.Failed.{Failed}
use Rattle.tool_codec.proofs.FactAnswering.{stands_front}

-- some octets were read, and their ended lines are answered
pub record FactsFollow {A : Type 0} (before after old new : Option (List ℕ)) (kept : FactLines A) : Type 0 where
  pub octets : List ℕ
  pub read : Consumes before after octets
  pub stands : StandsAfter octets old new kept

pub facts_go_on : {A : Type 0} (before mid after old now later : Option (List ℕ)) (xs : List ℕ) (kept next : FactLines A)
    → (follows : FactsFollow before mid old now kept) → Consumes mid after xs → StandsAfter (follows.octets ++ xs) old later next
    → FactsFollow before after old later next
facts_go_on before mid after old now later xs kept next follows read stands = record {
  octets = follows.octets ++ xs;
  read = Consumes-trans before mid after follows.octets xs follows.read read;
  stands = stands;
}

-- the input ended, and the last line is answered, or its answer broke off
pub facts_end : {A : Type 0} (before mid after old now later : Option (List ℕ)) (xs : List ℕ) (kept : FactLines A) (outcome : Result Bool Failed)
    → (follows : FactsFollow before mid old now kept) → Consumes mid after xs → xs ≡ [] → IsAtEnd after
    → Told A (lines follows.octets) old later outcome → TellsLinesTo A before after old later outcome
facts_end before mid after old now later xs kept (Ok faulty) follows read none ended told = record {
  octets = follows.octets;
  read = subst (λ l. Consumes before after l) (ap (λ l. follows.octets ++ l) none ∙ append-nil follows.octets)
      (Consumes-trans before mid after follows.octets xs follows.read read);
  whole = ended;
  faulty = faulty;
  text = told.0;
  answers = told.1;
  wrote = told.2;
  says = refl;
}
facts_end before mid after old now later xs kept (Err failed) follows read none ended told = record {
  octets = follows.octets;
  read = subst (λ l. Consumes before after l) (ap (λ l. follows.octets ++ l) none ∙ append-nil follows.octets)
      (Consumes-trans before mid after follows.octets xs follows.read read);
  wrote = told;
}

pub facts_failed : (A : Type 0) (before after old new : Option (List ℕ)) (outcome : Result Bool Failed) → IsErr outcome → TellsFront A before after old new → TellsLinesTo A before after old new outcome
facts_failed A before after old new (Ok faulty) failed front = absurd (let e : false ≡ true = failed in cc)
facts_failed A before after old new (Err e) failed front = front

-- an answer broke off
pub facts_break : {A : Type 0} (before mid after old now later : Option (List ℕ)) (xs : List ℕ) (kept : FactLines A)
    → (follows : FactsFollow before mid old now kept) → Consumes mid after xs → AnswersFront A (lines (follows.octets ++ xs)) old later
    → TellsFront A before after old later
facts_break before mid after old now later xs kept follows read front = record {
  octets = follows.octets ++ xs;
  read = Consumes-trans before mid after follows.octets xs follows.read read;
  wrote = front;
}

-- no further read gave anything
pub facts_break_between : {A : Type 0} (before mid after old now : Option (List ℕ)) (kept : FactLines A)
    → FactsFollow before mid old now kept → Keeps mid after → TellsFront A before after old now
facts_break_between {A} before mid after old now kept follows still = record {
  octets = follows.octets;
  read = Consumes-kept before mid after follows.octets follows.read still;
  wrote = subst (λ l. AnswersFront A (lines l) old now) (append-nil follows.octets) (stands_front follows.octets [] old now kept follows.stands);
}
