use Rattle.laws_dialogues.proofs.Sound.{each-stays-sound}
use Rattle.laws_dialogues.proofs.Theorems.{each-leads, operation-leads}
use Rattle.laws_dialogues.proofs.laws.operations_lead.Goals as goal

pub returns-clause-each : goal.returns-clause-each
returns-clause-each c = each-leads

pub returns-clause-turns : goal.returns-clause-turns
returns-clause-turns c = operation-leads

pub returns-clause-sound : goal.returns-clause-sound
returns-clause-sound c = each-stays-sound
