-- What is prefetched, which is asked ahead of its turn, and which of its answers is given then (own choice).
use Rattle.std.specs.Prelude.{◌==◌, ◌||◌, ℕ, List, Bool, true, false, Option, Some, None}
use Rattle.ftp_operation.specs.declared.answer.Answer.{Answer}
use Rattle.ftp_operation.specs.declared.answer.Answer.TheVariants as Answers
use Rattle.ftp_operation.specs.declared.op.Op.{Op}
use Rattle.ftp_operation.specs.declared.op.Op.TheVariants as Ops
use Rattle.ftp_reply.specs.declared.code.TheConstants.{NOT_IMPLEMENTED, UNAVAILABLE, UNKNOWN}
use Rattle.tool_parallel.specs.declared.pool.ahead.PrefetchKind.{PrefetchKind}
use Rattle.tool_parallel.specs.declared.pool.ahead.PrefetchKind.TheVariants as Kinds
use Rattle.tool_session.specs.declared.request.Request.{Request}
use Rattle.tool_session.specs.declared.session.Ticket.{Ticket}
use Rattle.tool_session.specs.declared.request.Request.TheVariants.{One, Upload, Download, Drawn}

-- what an operation without octets of a file asks of which path, where it is asked ahead: a listing, that a file is removed, its size, or its moment
abbrev pub ahead_of : Op (List ℕ) → Option (PrefetchKind × List ℕ)
ahead_of (Ops.List path how) = Some (Kinds.Listing, path)
ahead_of (Ops.Text verb path how) = Some (Kinds.Listing, path)
ahead_of (Ops.Delete path) = Some (Kinds.Removal, path)
ahead_of (Ops.Size path how) = Some (Kinds.Size, path)
ahead_of (Ops.Modified path) = Some (Kinds.Moment, path)
ahead_of op = None

-- what a download asks, where it is of all of a file
abbrev pub fetched_ahead : Op (List ℕ) → Option (PrefetchKind × List ℕ)
fetched_ahead (Ops.Get path how) = Some (Kinds.Download, path)
fetched_ahead op = None

-- what an upload asks whose octets are read as they go, where it is of all of a file
abbrev pub sent_ahead : Op (List ℕ) → Option (PrefetchKind × List ℕ)
sent_ahead (Ops.Put path octets how) = Some (Kinds.Upload, path)
sent_ahead op = None

-- what a request asks of which path, where it is asked ahead
abbrev pub asked_ahead : Request → Option (PrefetchKind × List ℕ)
asked_ahead (One (Some op)) = ahead_of op
asked_ahead (Download (Some op) terms) = fetched_ahead op
asked_ahead (Upload (Some file) how) = Some (Kinds.Upload, file.0)
asked_ahead (Drawn (Some op) span) = sent_ahead op
asked_ahead request = None

-- what was asked ahead by one ticket or by none is the answer to what is asked by one or none: what went over its data connection is of nobody else
abbrev pub is_for : (held asked : Option Ticket) → Bool
is_for (Some held) (Some asked) = held.number == asked.number
is_for None None = true
is_for held asked = false

-- a fact of a file: it is told by a reply alone (RFC 3659, sections 3 and 4)
abbrev pub is_fact : PrefetchKind → Bool
is_fact Kinds.Size = true
is_fact Kinds.Moment = true
is_fact kind = false

-- octets of a file go over its data connection (RFC 959, section 4.1.3)
abbrev pub moves_file : PrefetchKind → Bool
moves_file Kinds.Download = true
moves_file Kinds.Upload = true
moves_file kind = false

-- a server says once and for all that it tells no such fact, or that there is no such file (RFC 959, section 4.2.2)
abbrev pub says_none : ℕ → Bool
says_none code = code == UNKNOWN || code == NOT_IMPLEMENTED || code == UNAVAILABLE

-- the answer to the question for a fact is given: the fact, or that there is none
abbrev pub is_told : {A : Type 0} → Answer A → Bool
is_told (Answers.Number size) = true
is_told (Answers.Stamp moment) = true
is_told (Answers.Refused code) = says_none code
is_told answer = false

-- that to anything else: it is done, or the data connection broke
abbrev pub is_done : {A : Type 0} → Answer A → Bool
is_done Answers.Done = true
is_done (Answers.Octets octets) = true
is_done (Answers.Entries entries) = true
is_done (Answers.Broken got mark) = true
is_done answer = false

-- that to a removal, which is asked once: it is done, or the control connection ended, and then it may be done
abbrev pub is_removed : {A : Type 0} → Answer A → Bool
is_removed Answers.Done = true
is_removed Answers.Lost = true
is_removed answer = false

-- what is asked ahead only over a control connection whose login was accepted: a removal, since else none could tell whether one that is lost was asked
abbrev pub wants_login : PrefetchKind → Bool
wants_login Kinds.Removal = true
wants_login kind = false

-- what is asked in its turn leaves the files of the server as they are (RFC 959, section 4.1.3)
abbrev pub leaves_all : PrefetchKind → Bool
leaves_all Kinds.Upload = false
leaves_all Kinds.Removal = false
leaves_all kind = true

-- a download, of all of a file or of its rest
abbrev pub is_download : Request → Bool
is_download (Download op terms) = true
is_download request = false

-- a request that asks for this, where it is ever prefetched, leaves the files of the server as they are; of another one that is known of a download alone
abbrev pub changes_none : Option (PrefetchKind × List ℕ) → Request → Bool
changes_none (Some asked) request = leaves_all asked.0
changes_none None request = is_download request

-- a request that asks for this, where it is ever prefetched, is prefetched only over a control connection whose login was accepted
abbrev pub wants_login_of : Option (PrefetchKind × List ℕ) → Bool
wants_login_of (Some asked) = wants_login asked.0
wants_login_of None = false

-- an answer that came ahead is given
abbrev pub is_given : {A : Type 0} → PrefetchKind → Answer A → Bool
is_given Kinds.Size answer = is_told answer
is_given Kinds.Moment answer = is_told answer
is_given Kinds.Removal answer = is_removed answer
is_given kind answer = is_done answer
