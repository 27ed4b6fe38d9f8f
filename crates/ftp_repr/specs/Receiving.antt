-- The reader of signs.
use Rattle.std.specs.Prelude.{ℕ, List, [], ◌∷◌, ◌++◌, Bool, true, false, if◌then◌else◌, ◌==◌}
use Rattle.ftp_pieces.specs.Machine.{Machine}
use Rattle.ftp_repr.specs.Signs.{Sign, octet, end_record, end_file}
use Rattle.ftp_settings.specs.Representation.{Form}
use Rattle.ftp_settings.specs.declared.representation.Kind.{Kind}
use Rattle.ftp_settings.specs.declared.representation.Kind.TheVariants.{Ascii, Image}
use Rattle.ftp_settings.specs.declared.representation.Structure.{Structure}
use Rattle.ftp_settings.specs.declared.representation.Structure.TheVariants.{File, Record}

-- `held` is a CR that the next sign settles
pub record Taking : Type 0 where
  pub held : Bool
  pub ended : Bool

-- nothing came yet
abbrev pub fresh : Taking
fresh = record { held = false; ended = false }

-- the end came, or the wire was cut: nothing more is read
abbrev pub over : Taking
over = record { held = false; ended = true }

abbrev pub held_octets : Bool → List ℕ
held_octets held = if held then 13 ∷ [] else []

-- in type A: what an octet settles, with a CR before it that is held or not
abbrev pub ascii_gives : Bool → ℕ → List ℕ
ascii_gives false c = if c == 13 then [] else c ∷ []
ascii_gives true c = if c == 10 then 10 ∷ [] else (if c == 0 then 13 ∷ [] else (if c == 13 then 13 ∷ [] else 13 ∷ c ∷ []))

abbrev pub octet_gives : Kind → Bool → ℕ → List ℕ
octet_gives Ascii held c = ascii_gives held c
octet_gives Image held c = c ∷ []

abbrev pub octet_holds : Kind → Bool → ℕ → Bool
octet_holds Ascii held c = c == 13
octet_holds Image held c = held

-- an end of record settles a held CR and is an LF; in file structure it is passed over
abbrev pub record_gives : Structure → Bool → List ℕ
record_gives File held = []
record_gives Record held = held_octets held ++ 10 ∷ []

abbrev pub record_holds : Structure → Bool → Bool
record_holds File held = held
record_holds Record held = false

abbrev pub take_step : Form → Taking → Sign → Taking
take_step f s (octet c) = record { held = octet_holds f.kind s.held c; ended = s.ended }
take_step f s end_record = record { held = record_holds f.structure s.held; ended = s.ended }
take_step f s end_file = over

abbrev pub take_out : Form → Taking → Sign → List ℕ
take_out f s (octet c) = octet_gives f.kind s.held c
take_out f s end_record = record_gives f.structure s.held
take_out f s end_file = held_octets s.held

-- behind the end nothing is read
abbrev pub receiving : Form → Machine Taking Sign ℕ
receiving f = record {
  step = λ s x. if s.ended then s else take_step f s x;
  out = λ s x. if s.ended then [] else take_out f s x;
}
