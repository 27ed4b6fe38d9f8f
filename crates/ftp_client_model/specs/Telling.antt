-- What a client tells beside its reports: the line that the server said last (RFC 959, section 4.2), and what came of a download amid which the
-- control connection ended (RFC 959, sections 3.4 and 5.4). Nothing that it sends, wants or reports depends on it.
use Rattle.std.specs.Prelude.{ℕ, Bool, true, false, List, [], ◌∷◌, take, Option, Some, None, unwrap_or, if◌then◌else◌}
use Rattle.ftp_operation.specs.Answer.{Said, Octets, Broken}
use Rattle.ftp_operation.specs.declared.op.Op.{Op}
use Rattle.ftp_operation.specs.declared.op.Op.TheVariants as Ops
use Rattle.ftp_nvt.specs.Lines.{NvtEvent, line, too_long, owed}
use Rattle.ftp_ends.specs.Ear.{Ear, ear}
use Rattle.ftp_client_model.specs.Calls.{hears_octet, reply_limit}
use Rattle.ftp_client_model.specs.Octets.{cut_answer}
use Rattle.ftp_client_model.specs.View.{View, Job, Transferring, Flow}

-- the most octets of a line that are kept (own choice)
abbrev pub kept_limit : ℕ
kept_limit = 320

-- `line`: what the server said last, without its end and at most its first 320 octets; nothing before any. `came`: what came of a Get, GetFrom or
-- Peek during which the control connection ended, until another operation is begun; nothing else
pub record Told : Type 0 where
  pub line : List ℕ
  pub came : List ℕ

-- at the start nothing was said, and nothing came
abbrev pub untold : Told
untold = record { line = []; came = [] }

-- ---- the line

-- a line takes the place of the one before; own choice: one that is too long says nothing
abbrev pub line_by : NvtEvent → List ℕ → List ℕ
line_by (line text) last = take kept_limit text
line_by too_long last = last
line_by (owed answer) last = last

-- events in order
abbrev pub line_behind : List NvtEvent → List ℕ → List ℕ
line_behind [] last = last
line_behind (event ∷ events) last = line_behind events (line_by event last)

-- one octet of the control connection, by an ear that has heard those before it
abbrev pub line_with : Ear → ℕ → List ℕ → List ℕ
line_with e octet last = line_behind ((ear reply_limit).out e octet) last

-- octets of the control connection, one by one: `v` is what the client holds before them
abbrev pub last_line_heard : View → List ℕ → List ℕ → List ℕ
last_line_heard v [] last = last
last_line_heard v (octet ∷ octets) last = last_line_heard (hears_octet v octet) octets (line_with v.ear octet last)

-- `hear` took these octets
abbrev pub hears_told : View → List ℕ → Told → Told
hears_told v octets t = record t { line = last_line_heard v octets t.line }

-- ---- what came

-- an operation is begun: nothing came of it
abbrev pub anew : Told → Told
anew t = record t { came = [] }

-- where one is: not by a client that is busy, nor where none was handed in
abbrev pub begins_told : {T : Type 0} → Bool → Option T → Told → Told
begins_told true given t = t
begins_told false None t = t
begins_told false (Some op) t = anew t

-- a download of a file
abbrev pub brings_file : Op (List ℕ) → Bool
brings_file (Ops.Get path how) = true
brings_file (Ops.GetFrom path offset how) = true
brings_file (Ops.Peek path count how) = true
brings_file other = false

-- the octets that an answer brings
abbrev pub octets_answered : Option Said → List ℕ
octets_answered (Some (Octets octets)) = octets
octets_answered (Some (Broken got mark)) = got
octets_answered other = []

-- what came of a transfer that is cut, as its answer would have it: of a file
abbrev pub came_in : Op (List ℕ) → Flow → List ℕ
came_in op flow = if brings_file op then octets_answered (cut_answer op flow) else []

-- of the transfer under way; without one there is none
abbrev pub came_of : Job → Option (List ℕ)
came_of (Transferring op transfer) = Some (came_in op transfer.flow)
came_of job = None

-- the control connection ended: of a transfer under way its octets are kept
abbrev pub ends_told : View → Told → Told
ends_told v t = record t { came = unwrap_or (came_of v.job) t.came }
