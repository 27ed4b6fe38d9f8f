use Rattle.std.proofs.Common.{length}
use Rattle.ftp_reply.proofs.QuotedLemmas.{ReadsOn}
use Rattle.ftp_reply.proofs.quoted.path_in.Given as goal

-- what is read so far, and what the rest has, is the path
abbrev pub invariant-loop-octet : goal.invariant-loop-octet
invariant-loop-octet l = ReadsOn l.fn.text l.path.items l.rest

abbrev pub decreases-loop-octet : goal.decreases-loop-octet
decreases-loop-octet l = length l.rest
