use Rattle.std.proofs.Common.{refl, rules, arith, ◌<◌}
use Rattle.ftp_nvt.specs.declared.event.Event.TheVariants.{More, Line}
use Rattle.ftp_nvt.proofs.BufferLemmas.{end_steps, octet_steps, step_as}
use Rattle.ftp_nvt.proofs.line.LineBuffer.octet.Goals as goal

pub returns-in-10 : goal.returns-in-10
returns-in-10 g c =
    let ended = c.end.ensures in
    let less : c.args.self.now.count < c.args.self.now.limit = omega (arith, c.args.self.now.within, c.if-self.false) in
    step_as c.args.self.now c.end.new.self 10 c.args.octet Line c.end.result c.in-10.is ended.event
    (end_steps c.args.self.now c.end.new.self c.requires less ended.limit ended.stage ended.inside ended.after_return)

pub returns-in-13 : goal.returns-in-13
returns-in-13 g c =
    let put = c.put.ensures in
    let less : c.args.self.now.count < c.args.self.now.limit = omega (arith, c.args.self.now.within, c.if-self.false) in
    step_as c.args.self.now c.put.new.self 13 c.args.octet More c.put.result c.in-13.is put.event
    (octet_steps c.args.self.now c.put.new.self 13 c.requires (λ is e. omega arith) (λ e. omega arith) less put.limit put.stage put.count put.text)

pub returns-in_default : goal.returns-in_default
returns-in_default g c =
    let put = c.put-in_default.ensures in
    let less : c.args.self.now.count < c.args.self.now.limit = omega (arith, c.args.self.now.within, c.if-self.false) in
    step_as c.args.self.now c.put-in_default.new.self c.args.octet c.args.octet More c.put-in_default.result refl put.event
    (octet_steps c.args.self.now c.put-in_default.new.self c.args.octet c.requires (λ is. search rules) (search rules) less put.limit (search rules) put.count put.text)
