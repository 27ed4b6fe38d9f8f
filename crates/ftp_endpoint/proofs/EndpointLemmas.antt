-- Where the parts of an endpoint's text end.
use Rattle.std.proofs.Common.{◌≡◌, ℕ, Bool, true, false, not, IsTrue, List, [], ◌∷◌, ◌++◌, length, refl, sym, ap, subst, ◌∙◌, arith, rules}
use Rattle.std.specs.Char.{is_ascii_digit}
use Rattle.std.specs.List.{prefix_len}
use Rattle.std.specs.Str.Parse.{AllDigits}
use Rattle.std.proofs.Math.Seq.{take-append_seam, drop-append_seam}
use Rattle.std.proofs.lemmas.List.{take-append-drop}
use Rattle.ftp_endpoint.specs.Endpoint.{BeginsWith, BeginsWithSix, IsDelimiter, ClosesWithPort}
use Rattle.ftp_endpoint.specs.Number.{front_digits, behind_digits, SaysPort}
use Rattle.ftp_endpoint.specs.declared.endpoint.Endpoint.{Endpoint}
use Rattle.ftp_endpoint.proofs.NumberLemmas.{run_before}

pub not_digit : (b : Bool) → IsTrue (not b) → b ≡ false
not_digit false t = refl
not_digit true t = absurd (search rules)

-- a row of digits before an octet that is none: what stands in front and behind
pub record CutBefore (ds : List ℕ) (d : ℕ) (more : List ℕ) : Type 0 where
  pub front : front_digits (ds ++ d ∷ more) ≡ ds
  pub behind : behind_digits (ds ++ d ∷ more) ≡ d ∷ more

pub cut_before : (ds : List ℕ) (d : ℕ) (more : List ℕ) → AllDigits 10 ds → IsDelimiter d → CutBefore ds d more
cut_before ds d more all delimiter =
    let run = run_before ds d more all (not_digit (is_ascii_digit d) delimiter.2) in
    record { front = rw run (take-append_seam ds (d ∷ more)); behind = rw run (drop-append_seam ds (d ∷ more)) }

-- a text is its digits in front and what is behind
pub parts : (text : List ℕ) → front_digits text ++ behind_digits text ≡ text
parts text = take-append-drop (prefix_len is_ascii_digit text) text

-- the parts of a port before its delimiter
pub record Closed (d : ℕ) (text : List ℕ) (port : ℕ) : Type 0 where
  pub more : List ℕ
  pub behind : behind_digits text ≡ d ∷ 41 ∷ more
  pub number : SaysPort (front_digits text) port

pub closed : (d : ℕ) (text : List ℕ) (port : ℕ) → IsDelimiter d → ClosesWithPort d text port → Closed d text port
closed d text port delimiter h =
    let cut = cut_before h.digits d (41 ∷ h.more) h.number.0.0.0.1 delimiter in
    record {
      more = h.more;
      behind = ap behind_digits h.text_is ∙ cut.behind;
      number = let P : List ℕ → Type 0 = λ x. SaysPort x port in subst P (sym (ap front_digits h.text_is ∙ cut.front)) h.number;
    }

pub closes : (d : ℕ) (text : List ℕ) (port : ℕ) (more : List ℕ) → behind_digits text ≡ d ∷ 41 ∷ more → SaysPort (front_digits text) port → ClosesWithPort d text port
closes d text port more behind number = record {
  digits = front_digits text;
  more = more;
  number = number;
  text_is = sym (parts text) ∙ ap (λ x. front_digits text ++ x) behind;
}

-- as many numbers in front of a text are the same, with the same rest
pub begins_same : (c : ℕ) (text ns ms r s : List ℕ) → length ns ≡ length ms → BeginsWith c text ns r → BeginsWith c text ms s → (ns ≡ ms) × (r ≡ s)
begins_same c text [] ms r s e h k = absurd h
begins_same c text (n ∷ ns) [] r s e h k = absurd k
begins_same c text (n ∷ []) (m ∷ []) r s e h k = (cc, cc)
begins_same c text (n ∷ []) (m ∷ m' ∷ ms) r s e h k = absurd (omega arith)
begins_same c text (n ∷ n' ∷ ns) (m ∷ []) r s e h k = absurd (omega arith)
begins_same c text (n ∷ n' ∷ ns) (m ∷ m' ∷ ms) r s e h k =
    let next : h.1.0 ≡ k.1.0 = cc in
    let P : List ℕ → Type 0 = λ x. BeginsWith c x (m' ∷ ms) s in
    let rest = begins_same c h.1.0 (n' ∷ ns) (m' ∷ ms) r s (omega arith) h.1.2 (subst P (sym next) k.1.2) in
    (cc, rest.1)

pub six_same : (text : List ℕ) (e f : Endpoint) (r s : List ℕ) → BeginsWithSix text e r → BeginsWithSix text f s → (e ≡ f) × (r ≡ s)
six_same text e f r s h k =
    let hs : List ℕ = h.h1 ∷ h.h2 ∷ h.h3 ∷ h.h4 ∷ h.p1 ∷ h.p2 ∷ [] in
    let ks : List ℕ = k.h1 ∷ k.h2 ∷ k.h3 ∷ k.h4 ∷ k.p1 ∷ k.p2 ∷ [] in
    let same : (hs ≡ ks) × (r ≡ s) = begins_same 44 text hs ks r s refl h.numbers k.numbers in
    let numbers : hs ≡ ks = same.0 in
    let first = h.value in
    let second = k.value in
    (cc, same.1)
