use Rattle.laws_sessions.proofs.served.Home.{accounts_stay_at}
use Rattle.laws_sessions.proofs.served.Rooted.{turns_are_own_drive_but}
use Rattle.laws_sessions.proofs.served.laws.turns_are_own_drive_but.Goals as goal

pub returns : goal.returns
returns c = record { turns = turns_are_own_drive_but; accounts = accounts_stay_at }
