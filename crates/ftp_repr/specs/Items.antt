-- The signs of an item.
use Rattle.std.specs.Prelude.{List, [], ◌∷◌, map, Option, Some, None}
use Rattle.ftp_repr.specs.Signs.{Sign, octet, end_record, end_file}
use Rattle.ftp_repr.specs.declared.item.Item.{Item}
use Rattle.ftp_repr.specs.declared.item.Item.TheVariants.{Octets, EndRecord, EndFile}

-- octets are a row of signs, an end is one
abbrev pub signs : Item → List Sign
signs (Octets piece) = map octet piece.now
signs EndRecord = end_record ∷ []
signs EndFile = end_file ∷ []

-- the signs of an item, or none
abbrev pub given_signs : Option Item → List Sign
given_signs None = []
given_signs (Some item) = signs item
