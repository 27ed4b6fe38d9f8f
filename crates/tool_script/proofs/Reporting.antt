-- Reports, one after another.
use Rattle.std.proofs.Common.{◌≡◌, ◌++◌, ◌+◌, ◌<◌, ◌∷◌, [], ℕ, List, length, take, get_or, flat_map, Option, refl, sym, ap, ◌∙◌, subst}
use Rattle.std.proofs.lemmas.List.{flat_map_more, take_more}
use Rattle.std.specs.Io.KnownBytes.{Appends}
use Rattle.std.proofs.KnownBytes.{Appends-trans}
use Rattle.ftp_operation.specs.declared.answer.Answer.{Answer}
use Rattle.tool_script.specs.Report.{report}
use Rattle.tool_terminal.specs.declared.status.Status.{Status}
use Rattle.tool_terminal.specs.Status.{worse}
use Rattle.tool_script.specs.Status.{status_of, worst_after}

-- the worst status of answers and one more
worst_more : {A : Type 0} (status : Status) (xs : List (Answer A)) (x : Answer A) → worst_after status (xs ++ x ∷ []) ≡ worse (worst_after status xs) (status_of x)
worst_more status [] x = refl
worst_more status (y ∷ xs) x = worst_more (worse status (status_of y)) xs x

-- one answer more is reported
pub one_more : {A : Type 0} (answers : List (Answer A)) (i : ℕ) (d x : Answer A) (start old new : Option (List ℕ)) → i < length answers → x ≡ get_or answers i d
    → Appends start old (flat_map report (take i answers)) → Appends old new (report x) → Appends start new (flat_map report (take (i + 1) answers))
one_more answers i d x start old new inside is so more =
    let both = Appends-trans start old new (flat_map report (take i answers)) (report x) so more in
    let same : flat_map report (take i answers) ++ report x ≡ flat_map report (take (i + 1) answers) =
    flat_map_more report [] (take i answers) x ∙ ap (λ y. flat_map report (take i answers ++ y ∷ [])) is ∙ ap (flat_map report) (sym (take_more answers i d inside)) in
    subst (λ l. Appends start new l) same both

-- and its status is counted
pub worst_one_more : {A : Type 0} (answers : List (Answer A)) (i : ℕ) (d x : Answer A) (first old new : Status) → i < length answers → x ≡ get_or answers i d
    → old ≡ worst_after first (take i answers) → new ≡ worse old (status_of x) → new ≡ worst_after first (take (i + 1) answers)
worst_one_more answers i d x first old new inside is so more =
    more ∙ ap (λ s. worse s (status_of x)) so ∙ sym (worst_more first (take i answers) x) ∙ ap (λ y. worst_after first (take i answers ++ y ∷ [])) is
    ∙ ap (worst_after first) (sym (take_more answers i d inside))
