-- What a call's outcome says.
use Rattle.std.proofs.Common.{◌≡◌, ◌==◌, ◌∷◌, ◌∙◌, ℕ, Bool, true, false, IsTrue, List, [], length, Option, None, Some, IfNone, IfSome, refl, sym, subst, arith, rules}
use Rattle.std.specs.Option.{SomeIff}
use Rattle.std.proofs.lemmas.Bool.{eqb-true, false≢true}

-- what holds anyway holds of none
pub if_none : {A : Type 0} (r : Option A) (P : Type 0) → P → IfNone r P
if_none None P p = p
if_none (Some x) P p = tt

pub none_weaker : {A : Type 0} (r : Option A) (P Q : Type 0) → IfNone r P → (P → Q) → IfNone r Q
none_weaker None P Q p f = f p
none_weaker (Some x) P Q p f = tt

pub some_weaker : {A : Type 0} (r : Option A) (P Q : A → Type 0) → IfSome r P → ((x : A) → P x → Q x) → IfSome r Q
some_weaker None P Q p f = tt
some_weaker (Some x) P Q p f = f x p

-- a call that gives a value exactly where P holds, by its outcome
pub iff_some : {A : Type 0} (r : Option A) (P : Type 0) (v : A) (Q : A → Type 0) → SomeIff r P v → ((n : A) → P → n ≡ v → Q n) → IfSome r Q
iff_some None P v Q h f = tt
iff_some (Some x) P v Q h f = f x h.0 h.1

pub iff_none : {A : Type 0} (r : Option A) (P : Type 0) (v : A) (N : Type 0) → SomeIff r P v → ((P → ⊥) → N) → IfNone r N
iff_none None P v N h f = f h
iff_none (Some x) P v N h f = tt

-- a test that answers no
pub not_from : (b : Bool) (P : Type 0) → (IsTrue b → P) × (P → IsTrue b) → b ≡ false → P → ⊥
not_from b P h e p =
    let Q : Bool → Type 0 = λ x. IsTrue x in
    let wrong : IsTrue false = subst Q e (h.1 p) in
    search rules

pub not_empty : (xs : List ℕ) (b : Bool) → b ≡ (length xs == 0) → b ≡ false → xs ≡ [] → ⊥
not_empty [] b is no_b e = false≢true (sym no_b ∙ is)
not_empty (x ∷ xs) b is no_b e = absurd (cc)

pub empty_is : (xs : List ℕ) (b : Bool) → b ≡ (length xs == 0) → b ≡ true → xs ≡ []
empty_is [] b is holds = refl
empty_is (x ∷ xs) b is holds =
    let wrong : length (x ∷ xs) ≡ 0 = eqb-true (length (x ∷ xs)) 0 (sym is ∙ holds) in absurd (omega arith)
