use Rattle.laws_sessions.proofs.served.Served.{served_agree, served_are_direct}
use Rattle.laws_sessions.proofs.served.laws.served_sessions_are_drives.Goals as goal

pub returns : goal.returns
returns c = record { agree = served_agree; direct = served_are_direct }
