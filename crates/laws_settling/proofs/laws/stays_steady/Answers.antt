use Rattle.laws_settling.proofs.Steady.{happens_steady, stays_steady}
use Rattle.laws_settling.proofs.laws.stays_steady.Goals as goal

pub returns-clause-keeps : goal.returns-clause-keeps
returns-clause-keeps c = happens_steady

pub returns-clause-always : goal.returns-clause-always
returns-clause-always c = stays_steady
