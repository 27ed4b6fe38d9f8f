use Rattle.std.proofs.Common.{ℕ, List, ◌++◌, take, ap, subst}
use Rattle.ftp_mode.specs.Framing.{TakesRun}
use Rattle.ftp_mode.proofs.FramingLemmas.{takes_run}
use Rattle.ftp_mode.proofs.RunLemmas.{front_text}
use Rattle.ftp_mode.proofs.framer.Framer.put_some.Goals as goal

pub returns-then-fills-gt0-clause-text : goal.returns-then-fills-gt0-clause-text
returns-then-fills-gt0-clause-text c = λ more.
    let f = c.args.self.now in
    let g = c.fill_run.new.self in
    let P : List ℕ → Type 0 = λ l. TakesRun f l g in
    let takes : TakesRun f (take c.fill_len-fills.result c.args.piece.now) g = subst P c.split_at.ensures.front c.fill_run.ensures in
    ap (λ l. take c.args.at c.args.room.now ++ l) (front_text f g c.args.piece.now c.fill_len-fills.result more c.requires.clear takes)

pub returns-then-fills-gt0-clause-manner : goal.returns-then-fills-gt0-clause-manner
returns-then-fills-gt0-clause-manner c = takes_run c.args.self.now c.fill_run.new.self c.split_at.result.0.now c.fill_run.ensures
