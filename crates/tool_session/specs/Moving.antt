-- How much the data connection of a request may bring, and what of a file a request moves (own choice).
use Rattle.std.specs.Prelude.{ℕ, ◌+◌, min, length, List, Option, Some, None}
use Rattle.ftp_operation.specs.declared.op.Op.{Op}
use Rattle.ftp_operation.specs.declared.op.Op.TheVariants as Ops
use Rattle.tool_session.specs.declared.request.Request.{Request}
use Rattle.tool_session.specs.declared.request.Request.TheVariants.{One, Download, Drawn}
use Rattle.tool_session.specs.declared.request.TheConstants.{MOST_ENTRIES, MOST_LISTED}
use Rattle.tool_session.specs.declared.request_state.DataLimits.{DataLimits}
use Rattle.tool_terminal.specs.declared.progress.progress_line.Span.{Span}

-- the most of a listing
abbrev pub most_listed : DataLimits
most_listed = record { octets = MOST_LISTED; lines = Some MOST_ENTRIES }

-- as much as a data connection counts
abbrev pub any_octets : DataLimits
any_octets = record { octets = 18446744073709551615; lines = None }

-- a listing is limited (RFC 959, section 4.1.3: LIST and NLST; RFC 3659, section 7: MLSD)
abbrev pub most_of_operation : Op (List ℕ) → DataLimits
most_of_operation (Ops.List path how) = most_listed
most_of_operation (Ops.Names path how) = most_listed
most_of_operation (Ops.Text verb path how) = most_listed
most_of_operation op = any_octets

-- the most that the data connection of a request may bring: a download has terms of its own
abbrev pub most_of : Request → DataLimits
most_of (One (Some op)) = most_of_operation op
most_of (Download op terms) = record { octets = terms.most; lines = None }
most_of request = any_octets

-- no octet of a file
abbrev pub nothing_moved : Span
nothing_moved = record { start = 0; total = None }

-- an upload moves all of its octets, behind those of the file that stay
abbrev pub span_of_operation : Op (List ℕ) → Span
span_of_operation (Ops.Put path octets how) = record { start = 0; total = Some (length octets) }
span_of_operation (Ops.PutFrom path from octets how) = record { start = from; total = Some (min (from + length octets) 18446744073709551615) }
span_of_operation op = nothing_moved

-- from which octet of the file on a download is (RFC 3659, section 5)
abbrev pub start_of : Option (Op (List ℕ)) → ℕ
start_of (Some (Ops.GetFrom path from how)) = from
start_of op = 0

-- what a request moves of a file
abbrev pub span_of : Request → Span
span_of (One (Some op)) = span_of_operation op
span_of (Download op terms) = record { start = start_of op; total = terms.total }
span_of (Drawn op span) = span
span_of request = nothing_moved
