-- What computes of each name of a fact holds of all.
use Rattle.std.proofs.Common.{◌≡◌, ℕ, ◌≤◌, Bool, true, [], ◌∷◌, length, refl}
use Rattle.std.specs.Prelude.{nat_le}
use Rattle.std.specs.List.{list_all}
use Rattle.ftp_facts.specs.Name.{fact_names, fact_word}
use Rattle.ftp_facts.specs.declared.name.FactName.{FactName}
use Rattle.ftp_facts.specs.declared.name.FactName.TheVariants.{Kind, Size, Modify, Perm}
use Rattle.ftp_facts.proofs.NumberLemmas.{at_most, both}

-- a test that each name of the list passes is passed by every name
pub every : (p : FactName → Bool) → list_all p fact_names ≡ true → (name : FactName) → p name ≡ true
every p all Kind = (both (p Kind) (list_all p (Size ∷ Modify ∷ Perm ∷ [])) all).0
every p all Size = (both (p Size) (list_all p (Modify ∷ Perm ∷ [])) (both (p Kind) (list_all p (Size ∷ Modify ∷ Perm ∷ [])) all).1).0
every p all Modify =
    let rest = (both (p Size) (list_all p (Modify ∷ Perm ∷ [])) (both (p Kind) (list_all p (Size ∷ Modify ∷ Perm ∷ [])) all).1).1 in
    (both (p Modify) (list_all p (Perm ∷ [])) rest).0
every p all Perm =
    let rest = (both (p Size) (list_all p (Modify ∷ Perm ∷ [])) (both (p Kind) (list_all p (Size ∷ Modify ∷ Perm ∷ [])) all).1).1 in
    (both (p Perm) true (both (p Modify) (list_all p (Perm ∷ [])) rest).1).0

-- the word of each fact is of octets that pass a test, where those of the list are
pub word_passes : (p : ℕ → Bool) → list_all (λ name. list_all p (fact_word name)) fact_names ≡ true → (name : FactName) → list_all p (fact_word name) ≡ true
word_passes p all name = every (λ name. list_all p (fact_word name)) all name

-- and short
pub word_few : (name : FactName) → length (fact_word name) ≤ 6
word_few name = at_most (length (fact_word name)) 6 (every (λ name. nat_le (length (fact_word name)) 6) refl name)
