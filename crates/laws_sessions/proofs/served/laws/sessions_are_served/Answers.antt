use Rattle.laws_sessions.proofs.served.Served.{drives_are_cut_up, turns_are_served}
use Rattle.laws_sessions.proofs.served.laws.sessions_are_served.Goals as goal

pub returns : goal.returns
returns c = record { turns = turns_are_served; drives = drives_are_cut_up }
