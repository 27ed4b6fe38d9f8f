-- Octets that come once more, in any pieces.
use Rattle.std.proofs.Common.{◌≡◌, ◌∙◌, ℕ, suc, ◌+◌, Bool, true, false, List, [], ◌∷◌, ◌++◌, length, nat_eq, Option, Some, None, refl, ap, arith}
use Rattle.std.proofs.lemmas.Bool.{eq-eqb}
use Rattle.std.specs.List.{starts_with}
use Rattle.std.specs.Option.{option_map}
use Rattle.std.specs.Prelude.{if◌then◌else◌}
use Rattle.tool_session.specs.Again.{again}

-- one octet more of each
one_more : (b c : Bool) (m n : ℕ)
    → (if b then Some (suc m) else (if c then Some (suc n) else None)) ≡ option_map suc (if b then Some m else (if c then Some n else None))
one_more true c m n = refl
one_more false true m n = refl
one_more false false m n = refl

-- an octet that comes as it was awaited is counted, and the rest is compared with the rest
again_behind : (octet : ℕ) (awaited octets : List ℕ) → again (octet ∷ awaited) (octet ∷ octets) ≡ option_map suc (again awaited octets)
again_behind octet awaited octets =
    rw (eq-eqb octet octet refl) (one_more (starts_with nat_eq octets awaited) (starts_with nat_eq awaited octets) (length awaited) (length octets))

-- nothing more counted is what was counted
none_more : (counted : Option ℕ) → counted ≡ option_map (λ count. 0 + count) counted
none_more None = refl
none_more (Some count) = let same : count ≡ 0 + count = omega arith in ap Some same

-- one more, and then so many
and_so_many : (n : ℕ) (counted : Option ℕ) → option_map suc (option_map (λ count. n + count) counted) ≡ option_map (λ count. suc n + count) counted
and_so_many n None = refl
and_so_many n (Some count) = let same : suc (n + count) ≡ suc n + count = omega arith in ap Some same

-- Behind a first piece that came as it was awaited, the rest is compared with the rest.
pub again_in_pieces : (first awaited octets : List ℕ)
    → again (first ++ awaited) (first ++ octets) ≡ option_map (λ count. length first + count) (again awaited octets)
again_in_pieces [] awaited octets = none_more (again awaited octets)
again_in_pieces (octet ∷ first) awaited octets =
    again_behind octet (first ++ awaited) (first ++ octets) ∙ ap (option_map suc) (again_in_pieces first awaited octets) ∙ and_so_many (length first) (again awaited octets)
