use Rattle.laws_breaks.proofs.uploads.Giving.{uploads_give_late}
use Rattle.laws_breaks.proofs.uploads.Late.{uploads_break_late}
use Rattle.laws_breaks.proofs.uploads.laws.uploads_break_late.Goals as goal

pub returns : goal.returns
returns c = record { broken = uploads_break_late; given = uploads_give_late }
