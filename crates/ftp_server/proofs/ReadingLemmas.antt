-- The texts of paths in what a line says.
use Rattle.std.proofs.Common.{ℕ, List, Option, Some, None}
use Rattle.ftp_command.specs.Command.{Argues, SaysValue, value_of}
use Rattle.ftp_command.specs.declared.command.Command.{Command}
use Rattle.ftp_command.specs.declared.value.Value.{Value}
use Rattle.ftp_command.specs.declared.value.Value.TheVariants as value
use Rattle.ftp_command.specs.Argument.{SaysPathOrNone}
use Rattle.ftp_command.specs.Line.{IfGiven}
use Rattle.ftp_path.specs.Path.{IsPathText}
use Rattle.ftp_server_session.specs.Line.{HasPathTexts, ValueHasPathTexts}

given : (text : List ℕ) (path : Option (List ℕ)) → SaysPathOrNone text path → IfGiven IsPathText path
given text None h = tt
given text (Some path) h = h.1

value_said : (a : List ℕ) (x : Value (List ℕ)) → SaysValue a x → ValueHasPathTexts x
value_said a (value.Path text) h = h.1
value_said a (value.PathOrNone text) h = given _ text h
value_said a (value.Listed text) h = given _ text h
value_said a other h = tt

-- the texts of paths of a command that a line says are path texts
pub paths_said : (a : List ℕ) (command : Command (List ℕ)) → Argues a command → HasPathTexts command
paths_said a command h = value_said a (value_of command) h
