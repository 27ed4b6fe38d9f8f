-- What an encoder has still to give.
use Rattle.std.specs.Prelude.{◌≡◌, ◌<◌, ◌⊎◌, ℕ, ◌+◌, ◌==◌, ◌&&◌, List, [], ◌∷◌, ◌++◌, length, Bool, true, false, Option, Some, None, if◌then◌else◌}
use Rattle.ftp_repr.specs.Signs.{Sign, octet}
use Rattle.ftp_repr.specs.Sending.{has_sent_end, still_to_send}
use Rattle.ftp_mode.specs.Framing.{owed_octets, still_to_write}
use Rattle.ftp_wire.specs.declared.encoder.Encoder.{Encoder}

-- the second octet of two, or none
abbrev pub half_signs : Option ℕ → List Sign
half_signs None = []
half_signs (Some c) = octet c ∷ []

-- the octets of the wire still to come, where these octets of the file are still to come
abbrev pub still_to_give : Encoder → List ℕ → List ℕ
still_to_give e file = still_to_write e.framer (half_signs e.half ++ still_to_send e.sender file)

-- the end of the file is out
abbrev pub is_done : Encoder → Bool
is_done e = has_sent_end e.sender && (length (owed_octets e.framer) == 0)

-- what is to be done beside octets of the file: a second octet, and the end of the file
abbrev pub left_to_do : Encoder → ℕ
left_to_do e = length (half_signs e.half) + (if has_sent_end e.sender then 0 else 1)

-- something is to be done, with so many octets of the file at hand: of the last ones the end of the file too
abbrev pub HasMore : Encoder → ℕ → Bool → Type 0
HasMore e octets last =
    (0 < octets)
    ⊎ (((has_sent_end e.sender ≡ true) × (0 < length (owed_octets e.framer)))
    ⊎ ((has_sent_end e.sender ≡ false) × ((0 < length (half_signs e.half)) ⊎ (last ≡ true))))
