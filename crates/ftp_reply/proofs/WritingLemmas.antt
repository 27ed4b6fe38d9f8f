-- The lines of a reply as they are put behind one another.
use Rattle.std.proofs.Common.{◌≡◌, ℕ, zero, suc, ◌+◌, ◌/◌, ◌%◌, ◌<◌, List, [], ◌∷◌, ◌++◌, Some, slice_get, length, drop, refl, ap, sym, ◌∙◌, append_assoc, add-one, arith, Result, Ok, Err, OnOk, OnErr, if◌then◌else◌}
use Rattle.std.proofs.Math.ListN.{drop_of_length-le}
use Rattle.std.proofs.lemmas.List.{length-drop}
use Rattle.std.proofs.lemmas.Fmt.{decimal_digit, decimal_step}
use Rattle.std.specs.Fmt.{decimal}
use Rattle.std.specs.Result.{is_ok}
use Rattle.ftp_reply.specs.Lines.{Text, joined}
use Rattle.ftp_reply.specs.Reply.{IsCode, code_text, last_line, opening_line, padded, written_after, written}

-- the number of a code is written by its three digits
pub code_decimal : (code : ℕ) → IsCode code → decimal code ≡ code_text code
code_decimal code is =
    let low = is.low in
    let high = is.high in
    let hundreds : decimal (code / 10 / 10) ≡ (48 + code / 10 / 10) ∷ [] = decimal_digit (code / 10 / 10) (omega (arith, high)) in
    let tens : decimal (code / 10) ≡ (48 + code / 10 / 10) ∷ (48 + code / 10 % 10) ∷ [] =
    decimal_step (code / 10) (omega (arith, low)) (omega (arith, high)) ∙ ap (λ l. l ++ (48 + code / 10 % 10) ∷ []) hundreds in
    let same : code / 10 / 10 ≡ code / 100 = omega arith in
    decimal_step code (omega (arith, low)) (omega (arith, high)) ∙ ap (λ l. l ++ (48 + code % 10) ∷ []) tens
    ∙ ap (λ n. (48 + n) ∷ (48 + code / 10 % 10) ∷ (48 + code % 10) ∷ []) same

-- what was put, where it was put, is what is wanted
pub put_is : {X E : Type 0} (r : Result X E) (now kept put wanted : List ℕ) → now ≡ (if is_ok r then put else kept) → put ≡ wanted → OnOk r (now ≡ wanted)
put_is (Ok x) now kept put wanted is same = is ∙ same
put_is (Err x) now kept put wanted is same = tt

-- what stands before line i has been put: with an LF and the lines from i on it is the whole text
pub record Wrote (old now : List ℕ) (code : ℕ) (lines : List Text) (i : ℕ) : Type 0 where
  pub part : List ℕ
  pub now_is : now ≡ old ++ part
  pub whole : part ++ 10 ∷ joined (written_after code (drop i lines)) ≡ joined (written code lines)

-- from a place in it on a list begins with the element there
pub drop_there : {X : Type 0} (xs : List X) (i : ℕ) (x : X) → slice_get xs i ≡ Some x → drop i xs ≡ x ∷ drop (suc i) xs
drop_there [] zero x e = cc
drop_there [] (suc i) x e = cc
drop_there (y ∷ ys) zero x e = ap (λ o. o ∷ ys) cc
drop_there (y ∷ ys) (suc i) x e = drop_there ys i x e

-- after the last place there is nothing
pub drop_last : {X : Type 0} (xs : List X) (i : ℕ) → i + 1 ≡ length xs → drop (suc i) xs ≡ []
drop_last xs i e = drop_of_length-le xs {i = suc i} (omega arith)

-- before it there is more
pub record IsMore {X : Type 0} (xs : List X) : Type 0 where
  pub next : X
  pub more : List X
  pub is : xs ≡ next ∷ more

more_of : {X : Type 0} (xs : List X) → 0 < length xs → IsMore xs
more_of [] some = absurd (omega arith)
more_of (x ∷ xs) some = record { next = x; more = xs; is = refl }

pub drop_more : {X : Type 0} (xs : List X) (i : ℕ) → i + 1 < length xs → IsMore (drop (suc i) xs)
drop_more xs i e = more_of (drop (suc i) xs) (omega (arith, length-drop (suc i) xs))

-- one line more in front of lines that are joined
pub joined-cons : (line : Text) (lines : List Text) → 0 < length lines → joined (line ∷ lines) ≡ line ++ 10 ∷ joined lines
joined-cons line [] some = absurd (omega arith)
joined-cons line (next ∷ more) some = refl

some_after : (code : ℕ) (next : Text) (more : List Text) → 0 < length (written_after code (next ∷ more))
some_after code next [] = omega arith
some_after code next (second ∷ more) = omega arith

pub wrote_first : (old : List ℕ) (code : ℕ) (lines : List Text) (first : Text) → 1 < length lines → slice_get lines 0 ≡ Some first → Wrote old (old ++ opening_line code first) code lines 1
wrote_first old code [] first some e = absurd (omega arith)
wrote_first old code (line ∷ []) first some e = absurd (omega arith)
wrote_first old code (line ∷ next ∷ more) first some e =
    let is : line ≡ first = cc in
    record {
      part = opening_line code first;
      now_is = refl;
      whole = ap (λ (l : Text). opening_line code l ++ 10 ∷ joined (written_after code (next ∷ more))) (sym is) ∙ sym (joined-cons (opening_line code line) (written_after code (next ∷ more)) (some_after code next more));
    }

pub wrote_one : (code : ℕ) (lines : List Text) (text : Text) → length lines ≡ 1 → slice_get lines 0 ≡ Some text → joined (written code lines) ≡ last_line code text
wrote_one code [] text one e = cc
wrote_one code (line ∷ []) text one e = let is : line ≡ text = cc in ap (last_line code) is
wrote_one code (line ∷ next ∷ more) text one e = absurd (omega arith)

pub wrote_more : (old now : List ℕ) (code : ℕ) (lines : List Text) (i : ℕ) (line : Text) → i + 1 < length lines → slice_get lines i ≡ Some line → Wrote old now code lines i → Wrote old ((now ++ 10 ∷ []) ++ padded line) code lines (i + 1)
wrote_more old now code lines i line below e w =
    let d = drop_more lines i below in
    let rest : drop i lines ≡ line ∷ d.next ∷ d.more = drop_there lines i line e ∙ ap (λ xs. line ∷ xs) d.is in
    let tail = joined (written_after code (d.next ∷ d.more)) in
    let all : joined (written_after code (drop i lines)) ≡ padded line ++ 10 ∷ tail =
    ap (λ (xs : List Text). joined (written_after code xs)) rest ∙ joined-cons (padded line) (written_after code (d.next ∷ d.more)) (some_after code d.next d.more) in
    let next : drop (i + 1) lines ≡ d.next ∷ d.more = rw (add-one i) d.is in
    record {
      part = (w.part ++ 10 ∷ []) ++ padded line;
      now_is = ap (λ (xs : List ℕ). (xs ++ 10 ∷ []) ++ padded line) w.now_is ∙ simp append_assoc;
      whole = rw next (simp append_assoc (ap (λ (xs : List ℕ). w.part ++ 10 ∷ xs) (sym all) ∙ w.whole));
    }

pub wrote_last : (old now : List ℕ) (code : ℕ) (lines : List Text) (i : ℕ) (last : Text) → i + 1 ≡ length lines → slice_get lines i ≡ Some last → Wrote old now code lines i → (now ++ 10 ∷ []) ++ last_line code last ≡ old ++ joined (written code lines)
wrote_last old now code lines i last end e w =
    let rest : drop i lines ≡ last ∷ [] = drop_there lines i last e ∙ ap (λ xs. last ∷ xs) (drop_last lines i end) in
    let all : joined (written_after code (drop i lines)) ≡ last_line code last = ap (λ (xs : List Text). joined (written_after code xs)) rest in
    let whole : w.part ++ 10 ∷ last_line code last ≡ joined (written code lines) = ap (λ (xs : List ℕ). w.part ++ 10 ∷ xs) (sym all) ∙ w.whole in
    ap (λ (xs : List ℕ). (xs ++ 10 ∷ []) ++ last_line code last) w.now_is ∙ simp append_assoc (ap (λ (xs : List ℕ). old ++ xs) whole)

pub on_err : {T E : Type 0} (r : Result T E) {P : Type 0} → P → OnErr r P
on_err (Ok x) p = tt
on_err (Err e) p = p

-- after a refused growth a part of the text stands behind the old octets
pub kept_part : (old now now' : List ℕ) (code : ℕ) (lines : List Text) (i : ℕ) → Wrote old now code lines i → now' ≡ now → (part : List ℕ) × (now' ≡ old ++ part)
kept_part old now now' code lines i w e = (w.part, e ∙ w.now_is)

pub more_part : (old now now' : List ℕ) (code : ℕ) (lines : List Text) (i : ℕ) → Wrote old now code lines i → (part : List ℕ) × (now' ≡ (now ++ 10 ∷ []) ++ part) → (part : List ℕ) × (now' ≡ old ++ part)
more_part old now now' code lines i w more =
    ((w.part ++ 10 ∷ []) ++ more.0, more.1 ∙ ap (λ (xs : List ℕ). (xs ++ 10 ∷ []) ++ more.0) w.now_is ∙ simp append_assoc)

pub end_ok : {T E : Type 0} (r : Result T E) (now' mid put want : List ℕ) → OnOk r (now' ≡ mid ++ put) → mid ++ put ≡ want → OnOk r (now' ≡ want)
end_ok (Ok x) now' mid put want e w = e ∙ w
end_ok (Err x) now' mid put want e w = tt

pub end_err : {T E : Type 0} (r : Result T E) (old now mid now' : List ℕ) (code : ℕ) (lines : List Text) (i : ℕ) → Wrote old now code lines i → mid ≡ now ++ 10 ∷ [] → OnErr r ((part : List ℕ) × (now' ≡ mid ++ part)) → OnErr r ((part : List ℕ) × (now' ≡ old ++ part))
end_err (Ok x) old now mid now' code lines i w lf more = tt
end_err (Err x) old now mid now' code lines i w lf more = more_part old now now' code lines i w (more.0, more.1 ∙ ap (λ (xs : List ℕ). xs ++ more.0) lf)
