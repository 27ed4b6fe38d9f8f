use Rattle.std.proofs.Common.{take, ◌==◌, ◌≡◌, false, ne_eqb, get_or}
use Rattle.ftp_nvt.proofs.CutLemmas.{all_take}
use Rattle.ftp_nvt.proofs.EarLemmas.{inside_hears}
use Rattle.ftp_nvt.proofs.ear.Ear.skip.Goals as goal

pub returns-clause-hears : goal.returns-clause-hears
returns-clause-hears g c =
    let run = c.run_before_command.ensures in
    let piece = c.args.piece.now in
    inside_hears c.args.self.now (take c.run_before_command.result piece) c.requires.place
    (all_take (λ x. (x == 255) ≡ false) piece c.run_before_command.result run.within (λ k less. ne_eqb (get_or piece k 0) 255 (run.plain k less)))
