use Rattle.ftp_pair_events.proofs.events.parts.Parts.refuse_link.Goals as goal

pub returns-then-is_connecting-clause-counted : goal.returns-then-is_connecting-clause-counted
returns-then-is_connecting-clause-counted g c = c.refuse_near.ensures.counted

pub returns-else-is_connecting-clause-counted : goal.returns-else-is_connecting-clause-counted
returns-else-is_connecting-clause-counted g c = c.refuse_far.ensures.counted
