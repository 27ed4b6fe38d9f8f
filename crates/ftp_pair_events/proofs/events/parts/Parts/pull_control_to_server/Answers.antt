use Rattle.std.proofs.Common.{refl}
use Rattle.ftp_pair_events.proofs.events.Keeping.{held}
use Rattle.ftp_pair_events.proofs.events.parts.Parts.pull_control_to_server.Goals as goal

pub returns-clause-counted : goal.returns-clause-counted
returns-clause-counted g c = held 3 c.control_out-given.ensures.now.1 refl
