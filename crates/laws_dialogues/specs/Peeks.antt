-- A Peek: a download of which the client takes the first octets, and which it then ends by ABOR (RFC 959, section 4.1.3).
use Rattle.std.specs.Prelude.{ℕ, List, take, None}
use Rattle.ftp_command.specs.Line.{line_of}
use Rattle.ftp_command.specs.declared.command.Command.TheVariants as Commands
use Rattle.ftp_operation.specs.Answer.{Octets}
use Rattle.ftp_operation.specs.declared.op.How.{How}
use Rattle.ftp_operation.specs.declared.op.Op.{Op}
use Rattle.ftp_operation.specs.declared.op.Op.TheVariants as Ops
use Rattle.ftp_settings.specs.declared.representation.Representation.{Representation}
use Rattle.ftp_client_model.specs.View.{Job, Transferring}
use Rattle.ftp_client_model.specs.declared.client.Abort.{Abort}
use Rattle.ftp_client_model.specs.declared.client.Replied.{Replied}
use Rattle.laws_dialogues.specs.Fetches.{Ask, content_from, download_ask, flow_after}

-- ABOR, as it is sent
abbrev pub abort_line : List ℕ
abort_line = line_of Commands.Abor

-- the job that sent ABOR: the replies to the own command that came, what became of ABOR, and the octets that came before it was sent
abbrev pub halting : Op (List ℕ) → Replied → Abort → Representation → List ℕ → Job
halting op replied abort settings came = Transferring op (record { replied = replied; abort = abort; flow = flow_after settings came })

-- a Peek as what is asked for: the server sends the whole file, and the answer is its first octets
abbrev pub peek_ask : List ℕ → ℕ → How → Ask
peek_ask text count how = record (download_ask None text how) {
  op = Ops.Peek text count how;
  said = λ state. Octets (take count (content_from state None text how));
}
