-- The shapes that the arguments of commands have (RFC 959, sections 4.1 and 5.3; RFC 2428; RFC 3659). Each comes with the command that a
-- value of it makes.
use Rattle.std.specs.Prelude.{ℕ, List, Option}
use Rattle.ftp_command.specs.declared.command.Command.{Command}
use Rattle.ftp_command.specs.declared.command.Passive.{Passive}
use Rattle.ftp_endpoint.specs.declared.endpoint.Endpoint.{Endpoint}
use Rattle.ftp_settings.specs.declared.representation.Kind.{Kind as Kinds}
use Rattle.ftp_settings.specs.declared.representation.Mode.{Mode as Modes}
use Rattle.ftp_settings.specs.declared.representation.Structure.{Structure as Structures}

-- the shape of a verb's argument, and the command of each value of this shape
pub data Shape : Type 0 where
  -- a user name
  Name : (List ℕ → Command (List ℕ)) → Shape
  -- a password, or nothing
  Password : (List ℕ → Command (List ℕ)) → Shape
  -- words
  Words : (List ℕ → Command (List ℕ)) → Shape
  -- words, or nothing
  WordsOrNone : (Option (List ℕ) → Command (List ℕ)) → Shape
  -- a path
  Path : (List ℕ → Command (List ℕ)) → Shape
  -- a path, or nothing
  PathOrNone : (Option (List ℕ) → Command (List ℕ)) → Shape
  -- options, and a path or nothing
  Listed : (Option (List ℕ) → Command (List ℕ)) → Shape
  -- nothing
  Nothing : Command (List ℕ) → Shape
  -- nothing; with an argument the verb is known and not done
  Alone : Command (List ℕ) → Shape
  -- an endpoint as six numbers
  Six : (Endpoint → Command (List ℕ)) → Shape
  -- an endpoint as an extended address
  Extended : (Endpoint → Command (List ℕ)) → Shape
  -- nothing, a family, or ALL
  Family : (Passive → Command (List ℕ)) → Shape
  -- a type
  Kind : (Kinds → Command (List ℕ)) → Shape
  -- a structure
  Structure : (Structures → Command (List ℕ)) → Shape
  -- a mode
  Mode : (Modes → Command (List ℕ)) → Shape
  -- a number
  Number : (ℕ → Command (List ℕ)) → Shape
  -- a number, and perhaps the longest record
  Sizes : (ℕ → Option ℕ → Command (List ℕ)) → Shape
  -- the verb is known and not done
  Undone : Shape
