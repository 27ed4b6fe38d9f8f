-- Octets that a file has and that come once more (own choice).
use Rattle.std.specs.Prelude.{◌≡◌, ℕ, ◌+◌, List, ◌++◌, length, nat_eq, Option, Some, None, if◌then◌else◌}
use Rattle.std.specs.List.{starts_with}
use Rattle.std.specs.Option.{option_map}

-- how many of these octets come once more that are awaited next, as far as both go; none where one of them is another
abbrev pub again : (awaited octets : List ℕ) → Option ℕ
again awaited octets =
    if starts_with nat_eq octets awaited then Some (length awaited)
    else (if starts_with nat_eq awaited octets then Some (length octets) else None)

-- octets that come in pieces are compared as those that come at once: behind a first piece that came as it was awaited, the rest is compared with the rest
abbrev pub AgreesInPieces : Type 0
AgreesInPieces = (first awaited octets : List ℕ)
    → again (first ++ awaited) (first ++ octets) ≡ option_map (λ count. length first + count) (again awaited octets)
