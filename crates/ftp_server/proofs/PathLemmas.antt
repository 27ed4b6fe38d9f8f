-- That the paths in a line are path texts has one proof at most.
use Rattle.std.proofs.Common.{ℕ, List, Option, Some, None}
use Rattle.std.proofs.Props.{props}
use Rattle.ftp_command.specs.Command.{value_of}
use Rattle.ftp_command.specs.declared.command.Command.{Command}
use Rattle.ftp_command.specs.declared.value.Value.{Value}
use Rattle.ftp_command.specs.declared.value.Value.TheVariants as value
use Rattle.ftp_server_model.specs.declared.heard.HeardLine.{HeardLine}
use Rattle.ftp_server_model.specs.declared.heard.HeardLine.TheVariants.{TooLong, Bad, Asks}
use Rattle.ftp_command.specs.Line.{IfGiven}
use Rattle.ftp_path.specs.Path.{IsPathText}
use Rattle.ftp_server_session.specs.Line.{HasPathTexts, HeardPaths, ValueHasPathTexts}

given_once : (text : Option (List ℕ)) → IsProp (IfGiven IsPathText text)
given_once None = hlevel props
given_once (Some text) = hlevel props

value_once : (x : Value (List ℕ)) → IsProp (ValueHasPathTexts x)
value_once (value.PathOrNone text) = given_once text
value_once (value.Listed text) = given_once text
value_once other = hlevel props

texts_once : (command : Command (List ℕ)) → IsProp (HasPathTexts command)
texts_once command = value_once (value_of command)

pub paths_once : (heard : HeardLine (List ℕ)) → IsProp (HeardPaths heard)
paths_once TooLong = hlevel props
paths_once (Bad fault) = hlevel props
paths_once (Asks command) = texts_once command
