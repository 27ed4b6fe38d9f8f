-- What LIST, NLST and MLSD send (RFC 959, section 4.1.3; RFC 1123, section 4.1.2.7; RFC 3659, section 7).
use Rattle.std.specs.Prelude.{ℕ, List, map}
use Rattle.ftp_path.specs.Path.{Names}
use Rattle.ftp_tree.specs.Tree.{Table}
pub use Rattle.ftp_direct.specs.Listing.{child_line, date_text, day_text, last_name, lines_file, list_line, list_lines, list_lines_at, month_text, month_word, node_line, right_in, text_line}
use Rattle.ftp_direct.specs.Listing.{entries_in, names_for}
use Rattle.ftp_settings.specs.Representation.{Form}
use Rattle.ftp_settings.specs.declared.representation.Kind.TheVariants as Kinds
use Rattle.ftp_settings.specs.declared.representation.Structure.TheVariants as Structures
use Rattle.ftp_mode.specs.Wire.{wire}
use Rattle.ftp_settings.specs.declared.representation.Mode.{Mode}
use Rattle.ftp_server_model.specs.Entries.{listed_line}
use Rattle.ftp_facts.specs.declared.name.Facts.{Facts}

-- own choice: a listing goes in ASCII and file structure, whatever is in force, in the mode in force
abbrev pub listing_form : Form
listing_form = record { kind = Kinds.Ascii; structure = Structures.File }

-- the octets of a listing on the data connection
abbrev pub listing_wire : Mode → List (List ℕ) → List ℕ
listing_wire mode lines = wire mode listing_form (lines_file lines)

-- ---- MLSD: the entries of a directory; NLST: pathnames that can be used as arguments

-- MLSD: a line for each entry of the directory, with the facts in force
abbrev pub entry_lines : Facts → Table → Names → List (List ℕ)
entry_lines facts table path = map (listed_line facts) (entries_in table path)

-- NLST: pathnames that begin as the argument does (RFC 1123, section 4.1.2.7)
abbrev pub name_lines : Table → Names → List ℕ → List (List ℕ)
name_lines table path text = names_for table path text
