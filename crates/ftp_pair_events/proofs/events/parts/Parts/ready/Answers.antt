use Rattle.ftp_pair_events.proofs.events.parts.Parts.ready.Goals as goal

pub returns-in_err-reserve_in-clause-counted : goal.returns-in_err-reserve_in-clause-counted
returns-in_err-reserve_in-clause-counted g c = c.reserve_in.ensures.counted

pub returns-clause-counted : goal.returns-clause-counted
returns-clause-counted g c = c.reserve_in.ensures.counted
