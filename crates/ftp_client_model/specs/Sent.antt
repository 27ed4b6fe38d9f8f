-- That each command that a client sends has a line, which the server then reads as that command (RFC 959, sections 4.1 and 5.4).
use Rattle.std.specs.Prelude.{◌≡◌, ℕ, ◌≤◌, ◌<◌, List, Some, IsTrue}
use Rattle.ftp_endpoint.specs.Written.{IsTypedHost}
use Rattle.ftp_command.specs.Line.{IsStated, IsTyped}
use Rattle.ftp_command.specs.declared.command.Command.{Command}
use Rattle.ftp_command.specs.declared.command.Command.TheVariants as Commands
use Rattle.ftp_ends.specs.Link.{is_v6}
use Rattle.ftp_operation.specs.Account.{is_user, is_password}
use Rattle.ftp_operation.specs.Operation.{can_be_sent}
use Rattle.ftp_operation.specs.declared.op.Op.{Op}
use Rattle.ftp_client_model.specs.Plan.{command_of, port_of}
use Rattle.ftp_client_model.specs.View.{View}
use Rattle.ftp_client_model.specs.declared.client.Step.{Step}
use Rattle.ftp_client_model.specs.declared.client.Step.TheVariants as Steps

-- a command has a line, and numbers within their types
abbrev pub HasLine : Command (List ℕ) → Type 0
HasLine command = IsStated command × IsTyped command

-- the client's own endpoint can be named: its host is of the server's family, and it listens at a port
pub record IsNamable (v : View) : Type 0 where
  pub host : IsTypedHost v.here
  pub family : is_v6 v.here ≡ is_v6 v.peer
  pub some : 1 ≤ port_of v.connection
  pub within : port_of v.connection < 65536

-- only PORT and EPRT name it
abbrev pub CanSend : View → Step → Type 0
CanSend v Steps.Port = IsNamable v
CanSend v step = Unit {0}

-- each command of an operation that can be sent
abbrev pub StepsHaveLines : Type 0
StepsHaveLines =
    (v : View) (op : Op (List ℕ)) (step : Step) (command : Command (List ℕ)) → IsTrue (can_be_sent op) → CanSend v step
    → command_of v op step ≡ Some command → HasLine command

-- of a login that is one, its two commands; and ABOR
pub record LoginHasLines (user pass : List ℕ) : Type 0 where
  pub user_line : HasLine (Commands.User user)
  pub pass_line : HasLine (Commands.Pass pass)
  pub abort_line : HasLine Commands.Abor

-- so it is of each user name and password
abbrev pub LoginsHaveLines : Type 0
LoginsHaveLines = (user pass : List ℕ) → IsTrue (is_user user) → IsTrue (is_password pass) → LoginHasLines user pass
