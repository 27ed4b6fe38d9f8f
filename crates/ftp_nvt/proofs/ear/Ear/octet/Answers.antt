use Rattle.std.proofs.Common.{refl}
use Rattle.ftp_nvt.proofs.EarLemmas.{doubled_hears, option_hears, other_hears, command_hears}
use Rattle.ftp_nvt.proofs.ear.Ear.octet.Goals as goal

pub returns-then-octet-eq-IAC : goal.returns-then-octet-eq-IAC
returns-then-octet-eq-IAC g c =
    doubled_hears c.args.self.now _ c.args.octet _ c.in-Command.is c.if-octet-eq-IAC.true c.behind-self.ensures c.doubled.ensures

pub returns-in-Option : goal.returns-in-Option
returns-in-Option g c =
    option_hears c.args.self.now _ c.in-Option.verb c.args.octet _ c.in-Option.is c.behind-self.ensures refl (c.answer.ensures _)

pub returns-in-Between : goal.returns-in-Between
returns-in-Between g c =
    other_hears c.args.self.now _ c.args.octet c.requires c.in-Between.is c.behind-self.ensures refl

pub returns-else-octet-eq-IAC : goal.returns-else-octet-eq-IAC
returns-else-octet-eq-IAC g c =
    command_hears c.args.self.now _ c.args.octet c.in-Command.is c.if-octet-eq-IAC.false c.behind-self.ensures refl
