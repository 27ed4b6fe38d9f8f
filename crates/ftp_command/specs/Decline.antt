-- How a parameter is refused, and which arguments are copied.
use Rattle.std.specs.Prelude.{◌≡◌, ◌⊎◌, ◌≤◌, ℕ, List, [], Option, length}
use Rattle.ftp_path.specs.Path.{IsPathText}
use Rattle.ftp_command.specs.Argument.{IsBlank, IsName, IsPassword, SaysKind, SaysMode, SaysPassive, SaysSizes, SaysStructure, trimmed, without_options}
use Rattle.ftp_command.specs.Argument.{IsOtherFamily, IsOtherKind, IsOtherMode, IsOtherStructure}
use Rattle.ftp_command.specs.Command.{HoldsText, Says}
use Rattle.ftp_command.specs.Shapes.{Shape}
use Rattle.ftp_command.specs.Shapes as shape
use Rattle.ftp_command.specs.Verb.{row}
use Rattle.ftp_command.specs.declared.command.Command.{Command}
use Rattle.ftp_command.specs.declared.verb.Verb.{Verb}
use Rattle.ftp_command.specs.declared.fault.CommandFault.{CommandFault}
use Rattle.ftp_command.specs.declared.fault.CommandFault.TheVariants.{BadArgument, BadParameter, Memory, NotDone, Protocol}
use Rattle.ftp_endpoint.specs.Endpoint.{SaysSix}
use Rattle.ftp_endpoint.specs.Host.{IsOtherProtocol, SaysExtended}
use Rattle.ftp_endpoint.specs.Number.{SaysNumber}
use Rattle.ftp_endpoint.specs.declared.endpoint.Endpoint.{Endpoint}

-- BadParameter where it is another of the standard, BadArgument where nothing fits
abbrev pub Declines : {V : Type 0} → (V → Type 0) → Type 0 → CommandFault → Type 0
Declines {V} Says Other BadParameter = Other
Declines {V} Says Other BadArgument = (¬ Other) × ((value : V) → ¬ Says value)
Declines {V} Says Other fault = ⊥

-- the same where the other is a network protocol
abbrev pub DeclinesFamily : {V : Type 0} → (V → Type 0) → Type 0 → CommandFault → Type 0
DeclinesFamily {V} Says Other Protocol = Other
DeclinesFamily {V} Says Other BadArgument = (¬ Other) × ((value : V) → ¬ Says value)
DeclinesFamily {V} Says Other fault = ⊥

-- a text that had no memory, or is none that is copied
abbrev pub NotCopied : Type 0 → CommandFault → Type 0
NotCopied Is fault = ((fault ≡ Memory) × Is) ⊎ ((fault ≡ BadArgument) × (¬ Is))

-- the same of a path that may be left out
abbrev pub PathNotCopied : List ℕ → CommandFault → Type 0
PathNotCopied given fault = ((fault ≡ Memory) × IsPathText given) ⊎ ((fault ≡ BadArgument) × (¬ ((given ≡ []) ⊎ IsPathText given)))

-- why an argument of a shape was not read
abbrev pub NotRead : List ℕ → Shape → CommandFault → Type 0
NotRead a (shape.Name make) fault = NotCopied (IsName a) fault
NotRead a (shape.Password make) fault = NotCopied (IsPassword a) fault
NotRead a (shape.Words make) fault = NotCopied (1 ≤ length (trimmed a)) fault
NotRead a (shape.WordsOrNone make) fault = (fault ≡ Memory) × (1 ≤ length (trimmed a))
NotRead a (shape.Path make) fault = NotCopied (IsPathText a) fault
NotRead a (shape.PathOrNone make) fault = PathNotCopied a fault
NotRead a (shape.Listed make) fault = PathNotCopied (without_options a) fault
NotRead a (shape.Nothing make) fault = (fault ≡ BadArgument) × (¬ IsBlank a)
NotRead a (shape.Alone make) fault = (fault ≡ NotDone) × (¬ IsBlank a)
NotRead a (shape.Six make) fault = (fault ≡ BadArgument) × ((endpoint : Endpoint) → ¬ SaysSix (trimmed a) endpoint)
NotRead a (shape.Extended make) fault = DeclinesFamily (SaysExtended (trimmed a)) (IsOtherProtocol (trimmed a)) fault
NotRead a (shape.Family make) fault = DeclinesFamily (SaysPassive (trimmed a)) (IsOtherFamily (trimmed a)) fault
NotRead a (shape.Kind make) fault = Declines (SaysKind (trimmed a)) (IsOtherKind (trimmed a)) fault
NotRead a (shape.Structure make) fault = Declines (SaysStructure (trimmed a)) (IsOtherStructure (trimmed a)) fault
NotRead a (shape.Mode make) fault = Declines (SaysMode (trimmed a)) (IsOtherMode (trimmed a)) fault
NotRead a (shape.Number make) fault = (fault ≡ BadArgument) × ((number : ℕ) → ¬ SaysNumber (trimmed a) number)
NotRead a (shape.Sizes make) fault = (fault ≡ BadArgument) × ((octets : ℕ) (longest : Option ℕ) → ¬ SaysSizes (trimmed a) octets longest)
NotRead a shape.Undone fault = fault ≡ NotDone

-- an argument that says a text, by its shape: a text is copied
abbrev pub IsCopied : List ℕ → Shape → Type 0
IsCopied a (shape.Name make) = IsName a
IsCopied a (shape.Password make) = IsPassword a
IsCopied a (shape.Words make) = 1 ≤ length (trimmed a)
IsCopied a (shape.WordsOrNone make) = 1 ≤ length (trimmed a)
IsCopied a (shape.Path make) = IsPathText a
IsCopied a (shape.PathOrNone make) = IsPathText a
IsCopied a (shape.Listed make) = IsPathText (without_options a)
IsCopied a shape = ⊥

-- an argument that says a text of a verb's command, which is copied
abbrev pub NeedsCopy : List ℕ → Verb → Type 0
NeedsCopy a verb = IsCopied a (row verb).shape

-- a line says a command that holds a text
abbrev pub SaysText : List ℕ → Type 0
SaysText line = (command : Command (List ℕ)) × Says line command × HoldsText command
