use Rattle.std.proofs.Common.{ℕ, List, [], Option, Some, None}
use Rattle.ftp_operation.specs.declared.op.Op.{Op}
use Rattle.ftp_pair_events.proofs.events.parts.Parts.step.Given as goal

-- what is handed on
abbrev op_in : Option (Op (List ℕ)) → Op (List ℕ)
op_in (Some op) = op
op_in None = Op.Where

-- the operation that the event has
abbrev pub ghost-step_next : goal.ghost-step_next
ghost-step_next g a = op_in a.given.now

-- the path and the octets that are handed on
abbrev texts_in : Option (List ℕ × List ℕ) → List ℕ × List ℕ
texts_in (Some texts) = texts
texts_in None = ([], [])

-- those that the event has
abbrev pub ghost-step_upload : goal.ghost-step_upload
ghost-step_upload g a = texts_in a.given.now
