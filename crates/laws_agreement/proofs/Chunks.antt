-- Some of the octets that are to come are heard: less than a unit, or all of it and more.
use Rattle.std.proofs.Common.{◌≡◌, ◌⊎◌, inl, inr, ℕ, List, [], ◌∷◌, ◌++◌, refl, sym, ap, ◌∙◌, append_assoc}
use Rattle.laws_agreement.specs.Cut.{Flows}

-- ---- two cuts of one list

-- one list reaches over the first part of the other, or ends within it
pub record Reaches (xs ys zs ws : List ℕ) : Type 0 where
  pub more : List ℕ
  pub over : xs ≡ zs ++ more
  pub left : more ++ ys ≡ ws

pub record EndsWithin (xs ys zs ws : List ℕ) : Type 0 where
  pub octet : ℕ
  pub more : List ℕ
  pub within : zs ≡ xs ++ octet ∷ more
  pub left : ys ≡ (octet ∷ more) ++ ws

-- where one list is cut twice, one first part reaches over the other or ends within it
pub cuts : (xs ys zs ws : List ℕ) → xs ++ ys ≡ zs ++ ws → Reaches xs ys zs ws ⊎ EndsWithin xs ys zs ws
cuts xs ys [] ws e = inl (record { more = xs; over = refl; left = e })
cuts [] ys (z ∷ zs) ws e = inr (record { octet = z; more = zs; within = refl; left = e })
cuts (x ∷ xs) ys (z ∷ zs) ws e =
    let same : x ≡ z = cc in
    let behind : xs ++ ys ≡ zs ++ ws = cc in
    elim (cuts xs ys zs ws behind) [
      | inl r ↦ inl (record { more = r.more; over = λ i. same i ∷ r.over i; left = r.left })
      | inr r ↦ inr (record { octet = r.octet; more = r.more; within = λ i. sym same i ∷ r.within i; left = r.left })
    ]

-- two lists that are empty together are each empty
pub both_empty : (xs ys : List ℕ) → xs ++ ys ≡ [] → (xs ≡ []) × (ys ≡ [])
both_empty [] ys e = (refl, e)
both_empty (x ∷ xs) ys e = absurd (cc)

-- ---- a unit on its way

pub record IsAll (unit held xs ys others : List ℕ) : Type 0 where
  pub last : List ℕ
  pub more : List ℕ
  pub heard : xs ≡ last ++ more
  pub whole : held ++ last ≡ unit
  pub left : more ++ ys ≡ others

-- octets of a unit are heard, and the unit is still on its way, or all of it is heard
pub hears_some : (unit held xs ys others : List ℕ) → Flows unit held (xs ++ ys) others → Flows unit (held ++ xs) ys others ⊎ IsAll unit held xs ys others
hears_some unit held xs ys others f = elim (cuts xs ys (f.octet ∷ f.more) others f.is) [
  | inl r ↦ inr (record { last = f.octet ∷ f.more; more = r.more; heard = r.over; whole = f.whole; left = r.left })
  | inr r ↦ inl (record {
    octet = r.octet;
    more = r.more;
    whole = append_assoc held xs (r.octet ∷ r.more) ∙ ap (λ l. held ++ l) (sym r.within) ∙ f.whole;
    is = r.left;
  })
]
