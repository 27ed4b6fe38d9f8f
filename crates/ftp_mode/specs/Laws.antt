-- What the reader makes of whole wires.
use Rattle.std.specs.Prelude.{◌≡◌, ℕ, List, [], ◌∷◌, ◌++◌}
use Rattle.ftp_pieces.specs.Machine.{after, gives}
use Rattle.ftp_repr.specs.Signs.{end_file}
use Rattle.ftp_settings.specs.Representation.{Form}
use Rattle.ftp_repr.specs.Content.{content}
use Rattle.ftp_settings.specs.declared.representation.Structure.{Structure}
use Rattle.ftp_settings.specs.declared.representation.Structure.TheVariants.{File, Record}
use Rattle.ftp_settings.specs.declared.representation.Mode.{Mode}
use Rattle.ftp_settings.specs.declared.representation.Mode.TheVariants.{Stream, Block as Blocks}
use Rattle.ftp_mode.specs.Said.{Said, says, file_signs}
use Rattle.ftp_mode.specs.Reading.{start, is_complete, reader}

-- the end of file that only the end of the connection says
abbrev pub unsaid_end : Mode → Structure → List Said
unsaid_end Stream File = says end_file ∷ []
unsaid_end Stream Record = []
unsaid_end Blocks s = []

-- the reader after a wire that ended well
pub record ReadsTo (m : Mode) (s : Structure) (w : List ℕ) (said : List Said) : Type 0 where
  pub complete : is_complete (after reader (start m s) w)
  pub says : said ≡ gives reader (start m s) w ++ unsaid_end m s

-- the octets of the file that a wire settles which was cut
abbrev pub settled_content : Mode → Form → List ℕ → List ℕ
settled_content m f w = content f (file_signs (gives reader (start m f.structure) w))

-- the octets of the file that a wire says which ended well
abbrev pub ended_content : Mode → Form → List ℕ → List ℕ
ended_content m f w = content f (file_signs (gives reader (start m f.structure) w ++ unsaid_end m f.structure))

-- a file's octets end the wire by themselves: anything may follow
abbrev pub EndsItself : Mode → Structure → Type 0
EndsItself Stream File = ⊥
EndsItself Stream Record = Unit {0}
EndsItself Blocks s = Unit {0}
