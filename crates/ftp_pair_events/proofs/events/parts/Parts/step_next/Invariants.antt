use Rattle.ftp_pair_events.proofs.events.parts.Parts.step_next.Given as goal

-- the operation that is handed on
abbrev pub ghost-start : goal.ghost-start
ghost-start g a = g.op
