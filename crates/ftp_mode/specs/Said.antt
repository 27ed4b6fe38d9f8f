-- What a wire says: the signs of a file and, between them, restart markers (RFC 959, sections 3.4 and 3.5).
use Rattle.std.specs.Prelude.{ℕ, List, [], ◌∷◌, map}
use Rattle.ftp_repr.specs.Signs.{Sign, octet}

pub data Said : Type 0 where
  says : (x : Sign) → Said
  marker : (text : List ℕ) → Said

-- octets of the file
abbrev pub octets_said : List ℕ → List Said
octets_said xs = map (λ c. says (octet c)) xs

-- the signs of the file: markers are no part of it
abbrev pub file_signs : List Said → List Sign
file_signs [] = []
file_signs (says x ∷ ss) = x ∷ file_signs ss
file_signs (marker text ∷ ss) = file_signs ss
