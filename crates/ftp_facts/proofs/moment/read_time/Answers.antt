use Rattle.ftp_facts.proofs.MomentLemmas.{no_second}
use Rattle.ftp_facts.proofs.moment.read_time.Goals as goal

pub returns-in_err-second-clause-none : goal.returns-in_err-second-clause-none
returns-in_err-second-clause-none c =
    let hour = c.in_ok-hour.ensures in
    let minute = c.in_ok-minute.ensures in
    let second = c.in_err-second.ensures in
    rw c.from_residual-in_err-second.ensures (no_second c.args.text.now c.in_ok-hour.text.now c.in_ok-minute.text.now c.in_ok-hour.hour c.in_ok-minute.minute hour.bound minute.bound hour.some minute.some second.none)
