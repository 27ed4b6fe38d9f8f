-- An operation as the commands that it sends, one after the reply to the other (RFC 959, sections 4.1 and 5.4; RFC 2428; RFC 3659).
use Rattle.std.specs.Prelude.{ℕ, Bool, false, ◌||◌, List, [], ◌∷◌, Option, Some, None, if◌then◌else◌}
use Rattle.ftp_command.specs.declared.command.Command.{Command}
use Rattle.ftp_command.specs.declared.command.Command.TheVariants as Commands
use Rattle.ftp_command.specs.declared.command.Passive.TheVariants as Passives
use Rattle.ftp_endpoint.specs.declared.endpoint.Endpoint.{Endpoint}
use Rattle.ftp_operation.specs.declared.op.How.{How}
use Rattle.ftp_operation.specs.declared.op.ListVerb.{ListVerb}
use Rattle.ftp_operation.specs.declared.op.ListVerb.TheVariants as Verbs
use Rattle.ftp_operation.specs.declared.op.Op.{Op}
use Rattle.ftp_operation.specs.declared.op.Op.TheVariants as Ops
use Rattle.ftp_settings.specs.declared.representation.Mode.{Mode}
use Rattle.ftp_settings.specs.declared.representation.Mode.TheVariants as Modes
use Rattle.ftp_settings.specs.declared.representation.Kind.TheVariants as Kinds
use Rattle.ftp_settings.specs.declared.representation.Structure.TheVariants as Structures
use Rattle.ftp_settings.specs.Representation.{same_kind, same_structure, same_mode}
use Rattle.ftp_ends.specs.Link.{is_v6}
use Rattle.ftp_client_model.specs.View.{View}
use Rattle.ftp_client_model.specs.declared.client.ClientLink.{ClientLink}
use Rattle.ftp_client_model.specs.declared.client.ClientLink.TheVariants as Data
use Rattle.ftp_client_model.specs.declared.client.Step.{Step}
use Rattle.ftp_client_model.specs.declared.client.Step.TheVariants as Steps
use Rattle.ftp_settings.specs.declared.representation.Representation.{Representation}

-- ---- what an operation asks for

-- how its octets go, where it has a transfer
abbrev pub how_of : Op (List ℕ) → Option How
how_of (Ops.Put path octets how) = Some how
how_of (Ops.Append path octets how) = Some how
how_of (Ops.PutFrom path offset octets how) = Some how
how_of (Ops.Get path how) = Some how
how_of (Ops.GetFrom path offset how) = Some how
how_of (Ops.Peek path count how) = Some how
how_of (Ops.List path how) = Some how
how_of (Ops.Names path how) = Some how
how_of (Ops.Text verb path how) = Some how
how_of other = None

-- the settings that a transfer asks for; a listing goes in type A and file structure
abbrev pub settings_of : How → Representation
settings_of how = how.representation

-- the settings of a listing, in a mode
abbrev pub listing_settings : Mode → Representation
listing_settings mode = record { kind = Kinds.Ascii; structure = Structures.File; mode = mode }

-- the settings that an operation asks for, where it does; SIZE depends on the type, and is asked in file structure and stream
-- mode (RFC 3659, section 4)
abbrev pub asked_settings : Op (List ℕ) → Option Representation
asked_settings (Ops.List path how) = Some (listing_settings how.representation.mode)
asked_settings (Ops.Names path how) = Some (listing_settings how.representation.mode)
asked_settings (Ops.Text verb path how) = Some (listing_settings how.representation.mode)
asked_settings (Ops.Size path how) = Some (record { kind = how.representation.kind; structure = Structures.File; mode = Modes.Stream })
asked_settings (Ops.Put path octets how) = Some (settings_of how)
asked_settings (Ops.Append path octets how) = Some (settings_of how)
asked_settings (Ops.PutFrom path offset octets how) = Some (settings_of how)
asked_settings (Ops.Get path how) = Some (settings_of how)
asked_settings (Ops.GetFrom path offset how) = Some (settings_of how)
asked_settings (Ops.Peek path count how) = Some (settings_of how)
asked_settings other = None

-- the offset of a transfer, where it has one
abbrev pub offset_of : Op (List ℕ) → Option ℕ
offset_of (Ops.PutFrom path offset octets how) = Some offset
offset_of (Ops.GetFrom path offset how) = Some offset
offset_of other = None

-- how many first octets a Peek asks for
abbrev pub count_of : Op (List ℕ) → Option ℕ
count_of (Ops.Peek path count how) = Some count
count_of other = None

-- ---- the steps

-- behind the opening: REST where there is an offset, and 0 is one (RFC 3659, section 5)
abbrev pub step_behind_opening : Option ℕ → Step
step_behind_opening None = Steps.Last
step_behind_opening (Some offset) = Steps.Restart

-- the client listening before it sends PORT, and connects after the reply to PASV
abbrev pub opening_step : How → Step
opening_step how = if how.active then Steps.Listen else Steps.Passive

-- of an operation without a transfer: a rename names its source first
abbrev pub alone_step : Op (List ℕ) → Step
alone_step (Ops.Rename from to) = Steps.Source
alone_step other = Steps.Last

-- behind the settings: the opening of a transfer's data connection
abbrev pub opening_of : Option How → Op (List ℕ) → Step
opening_of None op = alone_step op
opening_of (Some how) op = opening_step how

-- TYPE, STRU and MODE in that order, each only where it differs from the last that the server accepted
abbrev pub from_mode : (now wanted : Representation) → Step → Step
from_mode now wanted behind = if same_mode now.mode wanted.mode then behind else Steps.Mode

-- from STRU on
abbrev pub from_structure : (now wanted : Representation) → Step → Step
from_structure now wanted behind = if same_structure now.structure wanted.structure then from_mode now wanted behind else Steps.Structure

-- from TYPE on
abbrev pub from_kind : (now wanted : Representation) → Step → Step
from_kind now wanted behind = if same_kind now.kind wanted.kind then from_structure now wanted behind else Steps.Kind

-- the first of these steps that is needed, or the opening behind them
abbrev pub step_by : (Representation → Representation → Step → Step) → Option Representation → Representation → Op (List ℕ) → Step
step_by from None now op = opening_of (how_of op) op
step_by from (Some wanted) now op = from now wanted (opening_of (how_of op) op)

-- the first step of an operation, where the server has these settings
abbrev pub first_step : Representation → Op (List ℕ) → Step
first_step now op = step_by from_kind (asked_settings op) now op

-- the step behind one that was answered well
abbrev pub next_step : Representation → Op (List ℕ) → Step → Step
next_step now op Steps.Kind = step_by from_structure (asked_settings op) now op
next_step now op Steps.Structure = step_by from_mode (asked_settings op) now op
next_step now op Steps.Mode = opening_of (how_of op) op
next_step now op Steps.Listen = Steps.Port
next_step now op Steps.Port = step_behind_opening (offset_of op)
next_step now op Steps.Passive = Steps.Connect
next_step now op Steps.Connect = step_behind_opening (offset_of op)
next_step now op Steps.Restart = Steps.Last
next_step now op Steps.Source = Steps.Last
next_step now op Steps.Last = Steps.Last

-- the settings once a step was accepted
abbrev pub settings_behind_by : Step → (now wanted : Representation) → Representation
settings_behind_by Steps.Kind now wanted = record now { kind = wanted.kind }
settings_behind_by Steps.Structure now wanted = record now { structure = wanted.structure }
settings_behind_by Steps.Mode now wanted = record now { mode = wanted.mode }
settings_behind_by other now wanted = now

-- an operation without settings changes none
abbrev pub settings_behind : Step → Representation → Option Representation → Representation
settings_behind step now None = now
settings_behind step now (Some wanted) = settings_behind_by step now wanted

-- ---- the command of each step

-- a transfer may ask for EPRT and EPSV
abbrev pub may_ask_extended : Option How → Bool
may_ask_extended None = false
may_ask_extended (Some how) = how.extended

-- EPRT or EPSV is sent, and not PORT or PASV
abbrev pub is_extended : View → Op (List ℕ) → Bool
is_extended v op = may_ask_extended (how_of op) || is_v6 v.peer

-- the port that is listened at
abbrev pub port_of : ClientLink → ℕ
port_of (Data.Listening port) = port
port_of other = 0

-- the endpoint that PORT or EPRT names
abbrev pub own_endpoint : View → Endpoint
own_endpoint v = record { host = v.here; port = port_of v.connection }

-- PORT or EPRT
abbrev pub port_command : Bool → Endpoint → Command (List ℕ)
port_command extended endpoint = if extended then Commands.Eprt endpoint else Commands.Port endpoint

-- PASV, or EPSV of any family
abbrev pub passive_command : Bool → Command (List ℕ)
passive_command extended = if extended then Commands.Epsv Passives.Any else Commands.Pasv

-- an empty text is no argument
abbrev pub optional : List ℕ → Option (List ℕ)
optional [] = None
optional (c ∷ text) = Some (c ∷ text)

-- the command that gives a listing
abbrev pub list_command : ListVerb → Option (List ℕ) → Command (List ℕ)
list_command Verbs.List path = Commands.List path
list_command Verbs.Nlst path = Commands.Nlst path
list_command Verbs.Mlsd path = Commands.Mlsd path

-- the operation's own command, which ends it: a row an operation
abbrev pub own_command : Op (List ℕ) → Command (List ℕ)
own_command Ops.Where = Commands.Pwd
own_command (Ops.ChangeDir path) = Commands.Cwd path
own_command Ops.Up = Commands.Cdup
own_command (Ops.MakeDir path) = Commands.Mkd path
own_command (Ops.RemoveDir path) = Commands.Rmd path
own_command (Ops.Delete path) = Commands.Dele path
own_command (Ops.Rename from to) = Commands.Rnto to
own_command (Ops.Put path octets how) = Commands.Stor path
own_command (Ops.Append path octets how) = Commands.Appe path
own_command (Ops.PutFrom path offset octets how) = Commands.Stor path
own_command (Ops.Get path how) = Commands.Retr path
own_command (Ops.GetFrom path offset how) = Commands.Retr path
own_command (Ops.Peek path count how) = Commands.Retr path
own_command (Ops.Size path how) = Commands.Size path
own_command (Ops.Modified path) = Commands.Mdtm path
own_command (Ops.Facts path) = Commands.Mlst (optional path)
own_command (Ops.List path how) = Commands.Mlsd (optional path)
own_command (Ops.Names path how) = Commands.Nlst (optional path)
own_command (Ops.Text verb path how) = list_command verb (optional path)

-- TYPE, STRU or MODE, of the settings wanted
abbrev pub setting_command : Step → Representation → Option (Command (List ℕ))
setting_command Steps.Kind wanted = Some (Commands.Repr wanted.kind)
setting_command Steps.Structure wanted = Some (Commands.Stru wanted.structure)
setting_command Steps.Mode wanted = Some (Commands.Mode wanted.mode)
setting_command other wanted = None

-- of an operation that asks for settings
abbrev pub set_command : Step → Option Representation → Option (Command (List ℕ))
set_command step None = None
set_command step (Some wanted) = setting_command step wanted

-- REST, where there is an offset
abbrev pub restart_command : Option ℕ → Option (Command (List ℕ))
restart_command None = None
restart_command (Some offset) = Some (Commands.Rest offset)

-- RNFR, of a rename
abbrev pub source_command : Op (List ℕ) → Option (Command (List ℕ))
source_command (Ops.Rename from to) = Some (Commands.Rnfr from)
source_command other = None

-- the command that a step sends, where it sends one: a row a step
abbrev pub command_of : View → Op (List ℕ) → Step → Option (Command (List ℕ))
command_of v op Steps.Kind = set_command Steps.Kind (asked_settings op)
command_of v op Steps.Structure = set_command Steps.Structure (asked_settings op)
command_of v op Steps.Mode = set_command Steps.Mode (asked_settings op)
command_of v op Steps.Listen = None
command_of v op Steps.Port = Some (port_command (is_extended v op) (own_endpoint v))
command_of v op Steps.Passive = Some (passive_command (is_extended v op))
command_of v op Steps.Connect = None
command_of v op Steps.Restart = restart_command (offset_of op)
command_of v op Steps.Source = source_command op
command_of v op Steps.Last = Some (own_command op)
