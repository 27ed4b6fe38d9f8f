-- What is in flight towards the server: any command line, and any answer to a Telnet octet, is heard as itself and as nothing else,
-- wherever its octets are cut (RFC 854; RFC 959, section 5.3).
use Rattle.std.specs.Prelude.{◌≡◌, ℕ, true, List, [], ◌∷◌, ◌++◌}
use Rattle.std.specs.List.{flat_map, AllByRecursion}
use Rattle.ftp_nvt.specs.Lines.{written_line}
use Rattle.ftp_nvt.specs.declared.telnet.TheConstants.{WONT, DONT}
use Rattle.ftp_command.specs.Line.{IsLine, IsStated, IsTyped, line_of}
use Rattle.ftp_command.specs.declared.command.Command.{Command}
use Rattle.ftp_pieces.specs.Machine.{after}
use Rattle.ftp_ends.specs.Ear.{quiet, ear, answer_of}
use Rattle.ftp_server_model.specs.Machine.{Reading, IsReading, heard_line, hears, may_hear, MayHear}
use Rattle.ftp_server_model.specs.View.{View, line_limit}
use Rattle.ftp_server_model.specs.declared.heard.HeardLine.TheVariants.{Asks}

-- octets are heard alike in any pieces
abbrev pub ServerHearsPieces : Type 0
ServerHearsPieces = (read : Reading) (v : View) (front back : List ℕ) → hears read v (front ++ back) ≡ hears read (hears read v front) back

-- nothing was acted on yet: only the ear has heard
abbrev pub only_heard : View → List ℕ → View
only_heard v octets = record v { ear = after (ear line_limit) quiet octets }

-- a line that a control connection can carry, heard between two lines: a front of it changes nothing but the ear; the whole is
-- heard as this line, and then the ear is between two lines; where its first octet may be taken, all may
pub record ServerHearsLine (read : Reading) (text : List ℕ) (v : View) : Type 0 where
  pub cut : (front back : List ℕ) (octet : ℕ) → front ++ octet ∷ back ≡ written_line text → hears read v front ≡ only_heard v front
  pub whole : hears read v (written_line text) ≡ heard_line (read text) v
  pub may : may_hear v ≡ true → MayHear read v (written_line text)

-- every line that a control connection can carry, whatever else the server holds
abbrev pub ServerHearsEachLine : Type 0
ServerHearsEachLine = (read : Reading) (text : List ℕ) (v : View) → IsLine text → v.ear ≡ quiet → ServerHearsLine read text v

-- each command that has a line has one that a control connection can carry
abbrev pub StatedIsLine : Type 0
StatedIsLine = (command : Command (List ℕ)) → IsTyped command → IsStated command → IsLine (line_of command)

-- so the line of a command is heard as that command
abbrev pub ServerHearsCommand : Type 0
ServerHearsCommand =
    (read : Reading) (command : Command (List ℕ)) (v : View) → IsReading read → IsTyped command → IsStated command → v.ear ≡ quiet
    → hears read v (written_line (line_of command)) ≡ heard_line (Asks command) v

-- an answer to a Telnet octet changes nothing
abbrev pub ServerDropsAnswer : Type 0
ServerDropsAnswer =
    (read : Reading) (octet : ℕ) (v : View) → v.ear ≡ quiet
    → (hears read v (answer_of WONT octet) ≡ v) × (hears read v (answer_of DONT octet) ≡ v)

-- what a line does leaves the ear as it is, so that a row of them is heard one after another
abbrev pub LineLeavesEar : Type 0
LineLeavesEar = (read : Reading) (text : List ℕ) (v : View) → (heard_line (read text) v).ear ≡ v.ear

-- ---- a row of lines

-- what a row of lines does
abbrev pub heard_lines : Reading → List (List ℕ) → View → View
heard_lines read [] v = v
heard_lines read (text ∷ texts) v = heard_lines read texts (heard_line (read text) v)

-- every row of lines is heard line by line
abbrev pub ServerHearsRow : Type 0
ServerHearsRow =
    (read : Reading) (texts : List (List ℕ)) (v : View) → AllByRecursion IsLine texts → v.ear ≡ quiet
    → hears read v (flat_map written_line texts) ≡ heard_lines read texts v
