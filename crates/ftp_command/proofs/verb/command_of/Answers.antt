use Rattle.ftp_command.proofs.CommandLemmas.{not_extended, not_six}
use Rattle.ftp_command.proofs.verb.command_of.Goals as goal

pub returns-in-Err-six-clause-refuses : goal.returns-in-Err-six-clause-refuses
returns-in-Err-six-clause-refuses g c =
    not_six c.args.argument.now c.trim-in-Port.result.now c.args.verb c.in-Err-six.fault c.in-Port.is c.trim-in-Port.ensures c.in-Err-six.ensures.err

pub returns-in-Err-extended-clause-refuses : goal.returns-in-Err-extended-clause-refuses
returns-in-Err-extended-clause-refuses g c =
    not_extended c.args.argument.now c.trim-in-Eprt.result.now c.args.verb c.in-Err-extended.fault c.in-Eprt.is c.trim-in-Eprt.ensures c.in-Err-extended.ensures.err
