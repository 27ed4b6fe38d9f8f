-- Texts of names: each name short, and as many octets as there is room for.
use Rattle.std.specs.Prelude.{◌&&◌, ℕ, List, length, nat_le, IsTrue, Bool}
use Rattle.std.specs.List.{list_all}
use Rattle.ftp_path.specs.Kept.{IsJoined, names_of}
use Rattle.ftp_path.specs.Path.{Names, joined}

-- a name of at most 255 octets
abbrev pub is_short : List ℕ → Bool
is_short name = nat_le (length name) 255

-- names joined, each short: together they may be as many as a root and a path below it have
pub record IsPlace (text : List ℕ) : Type 0 where
  pub joins : IsJoined text
  pub short : IsTrue (list_all is_short (names_of text))

-- a path of short names, of at most so many octets as names joined
abbrev pub is_within_room : ℕ → Names → Bool
is_within_room room path = list_all is_short path && nat_le (length (joined path)) room
