use Rattle.laws_dialogues.proofs.LoginTurns.{free_turns}
use Rattle.laws_dialogues.proofs.laws.login_leads.Goals as goal

pub returns : goal.returns
returns c = free_turns
