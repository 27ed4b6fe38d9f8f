-- Which line says which command, and how a line is refused (RFC 959, sections 4.1, 4.2 and 5.3).
use Rattle.std.specs.Prelude.{◌≡◌, ◌≤◌, ℕ, List, length, IsTrue, is_some}
use Rattle.ftp_path.specs.Path.{IsPathText}
use Rattle.ftp_command.specs.Argument.{IsBlank, IsName, IsOtherFamily, IsOtherKind, IsOtherMode, IsOtherStructure, IsPassword, SaysKind, SaysMode, SaysPassive, SaysPathOrNone, SaysSizes, SaysStructure, SaysTextOrNone, argument, trimmed, without_options, word}
use Rattle.ftp_endpoint.specs.Endpoint.{SaysSix}
use Rattle.ftp_endpoint.specs.Host.{IsOtherProtocol, SaysExtended}
use Rattle.ftp_endpoint.specs.Number.{SaysNumber}
use Rattle.ftp_command.specs.Shapes.{Shape}
use Rattle.ftp_command.specs.Shapes as shape
use Rattle.ftp_command.specs.Verb.{Names, row}
pub use Rattle.ftp_command.specs.Verb.{parts}
use Rattle.ftp_command.specs.declared.command.Command.{Command}
use Rattle.ftp_command.specs.declared.fault.CommandFault.{CommandFault}
use Rattle.ftp_command.specs.declared.fault.CommandFault.TheVariants.{Unknown, BadArgument, NotDone, BadParameter, Protocol}
use Rattle.ftp_command.specs.declared.value.Value.{Value}
use Rattle.ftp_command.specs.declared.value.Value.TheVariants as value
use Rattle.ftp_command.specs.declared.verb.Role.{Role}
use Rattle.ftp_command.specs.declared.verb.Verb.{Verb}

abbrev pub verb_of : Command (List ℕ) → Verb
verb_of command = (parts command).0

abbrev pub value_of : Command (List ℕ) → Value (List ℕ)
value_of command = (parts command).1

-- the role of a command's verb
abbrev pub role_of : Command (List ℕ) → Role
role_of command = (row (verb_of command)).role

-- a value that holds a text
abbrev pub HasText : Value (List ℕ) → Type 0
HasText (value.Name text) = Unit {0}
HasText (value.Password text) = Unit {0}
HasText (value.Words text) = Unit {0}
HasText (value.WordsOrNone text) = IsTrue (is_some text)
HasText (value.Path text) = Unit {0}
HasText (value.PathOrNone text) = IsTrue (is_some text)
HasText (value.Listed text) = IsTrue (is_some text)
HasText value = ⊥

-- a command that holds a text
abbrev pub HoldsText : Command (List ℕ) → Type 0
HoldsText command = HasText (value_of command)

-- an argument says a value, by the shape that the value has
abbrev pub SaysValue : List ℕ → Value (List ℕ) → Type 0
SaysValue a (value.Name text) = (a ≡ text) × IsName text
SaysValue a (value.Password text) = (a ≡ text) × IsPassword text
SaysValue a (value.Words text) = (trimmed a ≡ text) × (1 ≤ length text)
SaysValue a (value.WordsOrNone text) = SaysTextOrNone (trimmed a) text
SaysValue a (value.Path text) = (a ≡ text) × IsPathText text
SaysValue a (value.PathOrNone text) = SaysPathOrNone a text
SaysValue a (value.Listed text) = SaysPathOrNone (without_options a) text
SaysValue a value.Nothing = IsBlank a
SaysValue a (value.Six endpoint) = SaysSix (trimmed a) endpoint
SaysValue a (value.Extended endpoint) = SaysExtended (trimmed a) endpoint
SaysValue a (value.Family family) = SaysPassive (trimmed a) family
SaysValue a (value.Kind kind) = SaysKind (trimmed a) kind
SaysValue a (value.Structure structure) = SaysStructure (trimmed a) structure
SaysValue a (value.Mode mode) = SaysMode (trimmed a) mode
SaysValue a (value.Number number) = SaysNumber (trimmed a) number
SaysValue a (value.Sizes octets longest) = SaysSizes (trimmed a) octets longest

-- an argument says the value of a command
abbrev pub Argues : List ℕ → Command (List ℕ) → Type 0
Argues a command = SaysValue a (value_of command)

-- a line says a command: its word names the verb, and its argument says the value
abbrev pub Says : List ℕ → Command (List ℕ) → Type 0
Says line command = Names (word line) (verb_of command) × Argues (argument line) command

-- a shape that is known and not done
abbrev pub IsUndone : List ℕ → Shape → Type 0
IsUndone a shape.Undone = Unit {0}
IsUndone a (shape.Alone make) = ¬ IsBlank a
IsUndone a shape = ⊥

-- a verb that is known and not done; STAT with an argument too
abbrev pub IsNotDone : List ℕ → Verb → Type 0
IsNotDone a verb = IsUndone a (row verb).shape

-- another type, structure or mode of the standard
abbrev pub IsOtherSetting : List ℕ → Shape → Type 0
IsOtherSetting a (shape.Kind make) = IsOtherKind (trimmed a)
IsOtherSetting a (shape.Structure make) = IsOtherStructure (trimmed a)
IsOtherSetting a (shape.Mode make) = IsOtherMode (trimmed a)
IsOtherSetting a shape = ⊥

-- a parameter that the standard has and that is not done
abbrev pub IsOtherParameter : List ℕ → Verb → Type 0
IsOtherParameter a verb = IsOtherSetting a (row verb).shape

-- an address or a family of another network protocol
abbrev pub IsForeign : List ℕ → Shape → Type 0
IsForeign a (shape.Extended make) = IsOtherProtocol (trimmed a)
IsForeign a (shape.Family make) = IsOtherFamily (trimmed a)
IsForeign a shape = ⊥

-- another network protocol than IPv4 and IPv6
abbrev pub IsOtherNetwork : List ℕ → Verb → Type 0
IsOtherNetwork a verb = IsForeign a (row verb).shape

-- how the argument of a verb is refused: BadArgument where none of the others holds and no command of the verb fits
abbrev pub Declined : List ℕ → Verb → CommandFault → Type 0
Declined a verb NotDone = IsNotDone a verb
Declined a verb BadParameter = IsOtherParameter a verb
Declined a verb Protocol = IsOtherNetwork a verb
Declined a verb BadArgument =
    (¬ IsNotDone a verb) × (¬ IsOtherParameter a verb) × (¬ IsOtherNetwork a verb)
    × ((command : Command (List ℕ)) → verb_of command ≡ verb → ¬ Argues a command)
Declined a verb fault = ⊥

-- how a line is refused: Unknown where its word names no verb, else as the argument of its verb
abbrev pub Refuses : List ℕ → CommandFault → Type 0
Refuses line Unknown = (verb : Verb) → ¬ Names (word line) verb
Refuses line fault = (verb : Verb) × Names (word line) verb × Declined (argument line) verb fault
