use Rattle.std.proofs.Common.{refl, arith}
use Rattle.ftp_nvt.specs.declared.event.Event.TheVariants.{More}
use Rattle.ftp_nvt.proofs.BufferLemmas.{nul_steps, octet_steps, step_as}
use Rattle.ftp_nvt.proofs.line.LineBuffer.nul.Goals as goal

pub returns-in-AfterReturn : goal.returns-in-AfterReturn
returns-in-AfterReturn g c = nul_steps c.args.self.now _ c.in-AfterReturn.is c.requires.room refl refl refl refl

pub returns-in_default : goal.returns-in_default
returns-in_default g c =
    let put = c.put.ensures in
    step_as c.args.self.now c.put.new.self 0 0 More c.put.result refl put.event
    (octet_steps c.args.self.now c.put.new.self 0 c.requires.stage (λ is. absurd (c.in_default.not-AfterReturn is)) (λ e. omega arith) c.requires.room put.limit put.stage put.count put.text)
