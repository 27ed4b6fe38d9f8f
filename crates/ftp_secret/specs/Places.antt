-- The tables of the published text (step 22): which octets of a digest are written together, the first of three the highest.
use Rattle.std.specs.Prelude.{ℕ, zero, suc, List, [], ◌∷◌, ◌++◌}
use Rattle.ftp_secret.specs.Crypt.{Group, group}
use Rattle.ftp_secret.specs.declared.method.Method.{Method}

-- the places of so many groups, from the first on
abbrev pub group_places : Method → (count : ℕ) → List Group
group_places method zero = []
group_places method (suc place) = group_places method place ++ group method place ∷ []

-- of 32 octets; those at 31 and 30 are left
abbrev pub places_256 : List Group
places_256 =
    (0, 10, 20) ∷ (21, 1, 11) ∷ (12, 22, 2) ∷ (3, 13, 23) ∷ (24, 4, 14) ∷ (15, 25, 5) ∷ (6, 16, 26) ∷ (27, 7, 17) ∷ (18, 28, 8) ∷ (9, 19, 29) ∷ []

-- of 64 octets; the one at 63 is left
abbrev pub places_512 : List Group
places_512 =
    (0, 21, 42) ∷ (22, 43, 1) ∷ (44, 2, 23) ∷ (3, 24, 45) ∷ (25, 46, 4) ∷ (47, 5, 26) ∷ (6, 27, 48) ∷ (28, 49, 7) ∷ (50, 8, 29) ∷ (9, 30, 51) ∷ (31, 52, 10)
    ∷ (53, 11, 32) ∷ (12, 33, 54) ∷ (34, 55, 13) ∷ (56, 14, 35) ∷ (15, 36, 57) ∷ (37, 58, 16) ∷ (59, 17, 38) ∷ (18, 39, 60) ∷ (40, 61, 19) ∷ (62, 20, 41) ∷ []
