-- Under which name a file goes up that gets its path once it is there (own choice).
use Rattle.std.specs.Prelude.{ℕ, List, ◌++◌, Some, codes}
use Rattle.ftp_operation.specs.declared.op.Op.TheVariants as Ops
use Rattle.tool_session.specs.declared.request.Request.{Request}
use Rattle.tool_session.specs.declared.request.Request.TheVariants as Requests

-- beside its path
abbrev pub other_name : (path : List ℕ) → List ℕ
other_name path = path ++ codes ".ftp-part"

-- what is asked so that it gets its path (RNFR and RNTO: RFC 959, section 4.1.3)
abbrev pub renaming : (path : List ℕ) → Request
renaming path = Requests.One (Some (Ops.Rename (other_name path) path))
