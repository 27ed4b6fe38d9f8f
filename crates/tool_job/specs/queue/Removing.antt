-- A file that is one of several which are removed (RFC 959, section 4.1.3).
use Rattle.std.specs.Prelude.{ℕ, List, Some}
use Rattle.ftp_operation.specs.declared.op.Op.TheVariants as Ops
use Rattle.tool_session.specs.declared.request.Request.{Request}
use Rattle.tool_session.specs.declared.request.Request.TheVariants as Requests

-- what is asked of a path
abbrev pub removal : List ℕ → Request
removal path = Requests.One (Some (Ops.Delete path))
