use Rattle.std.proofs.Common.{sym, subst, length, take}
use Rattle.ftp_mode.specs.Framing.{writing_of, counting, AreRun}
use Rattle.ftp_mode.specs.declared.framer.Stage.{Stage}
use Rattle.ftp_mode.proofs.FramingLemmas.{copying_run, free_run}
use Rattle.ftp_mode.proofs.framer.Framer.run_len.Goals as goal

pub returns-in-Copying-clause-run : goal.returns-in-Copying-clause-run
returns-in-Copying-clause-run c =
    let piece = c.args.piece.now in
    let xs = take (length piece) piece in
    let P : Stage → Type 0 = λ s. AreRun (writing_of s c.args.self.now.block.items (counting c.args.self.now.marks)) xs in
    subst P (sym c.in-Copying.is) (copying_run xs)

pub returns-in-Free-clause-run : goal.returns-in-Free-clause-run
returns-in-Free-clause-run c =
    let xs = take c.first_ff.result c.args.piece.now in
    let P : Stage → Type 0 = λ s. AreRun (writing_of s c.args.self.now.block.items (counting c.args.self.now.marks)) xs in
    subst P (sym c.in-Free.is) (free_run xs c.first_ff.ensures.run.others)
