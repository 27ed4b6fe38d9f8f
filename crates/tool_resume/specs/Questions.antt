-- What a transfer asks of a server beside its own command (own choice, by SIZE and MDTM of RFC 3659, sections 3 and 4).
use Rattle.std.specs.Prelude.{ℕ, ◌++◌, Bool, List, [], ◌∷◌, Some, if◌then◌else◌}
use Rattle.ftp_operation.specs.declared.op.How.{How}
use Rattle.ftp_operation.specs.declared.op.Op.TheVariants as Ops
use Rattle.tool_session.specs.declared.request.Request.{Request}
use Rattle.tool_session.specs.declared.request.Request.TheVariants as Requests
use Rattle.tool_resume.specs.Retry.{is_counted}

-- SIZE of a path
abbrev pub size_question : List ℕ → How → Request
size_question path how = Requests.One (Some (Ops.Size path how))

-- MDTM of a path
abbrev pub moment_question : List ℕ → Request
moment_question path = Requests.One (Some (Ops.Modified path))

-- what a download asks to know which file the server has: its size, where SIZE counts the octets of the transfer, and then its moment
abbrev pub version_questions : List ℕ → How → List Request
version_questions path how = if is_counted how then size_question path how ∷ moment_question path ∷ [] else moment_question path ∷ []

-- what a download asks directly one behind another, where its first try is this request: which file the server has, unless that was just listed, the file,
-- and again which file the server has
abbrev pub asked_in_a_row : List ℕ → How → (first : Request) → (is_listed : Bool) → List Request
asked_in_a_row path how first is_listed =
    if is_listed then first ∷ version_questions path how else version_questions path how ++ first ∷ version_questions path how
