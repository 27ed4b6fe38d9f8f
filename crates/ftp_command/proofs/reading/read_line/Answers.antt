use Rattle.std.proofs.Common.{◌≡◌, ◌⊎◌, List, ℕ, subst}
use Rattle.ftp_command.specs.Argument.{word}
use Rattle.ftp_command.specs.Command.{Refuses}
use Rattle.ftp_command.specs.Decline.{NotRead, SaysText}
use Rattle.ftp_command.specs.Verb.{Names, row}
use Rattle.ftp_command.specs.declared.fault.CommandFault.{CommandFault}
use Rattle.ftp_command.specs.declared.fault.CommandFault.TheVariants.{Memory}
use Rattle.ftp_command.proofs.CommandLemmas.{err_weaker, refused}
use Rattle.ftp_command.proofs.reading.read_line.Goals as goal

pub returns-clause-refuses : goal.returns-clause-refuses
returns-clause-refuses g c =
    let P : List ℕ → Type 0 = λ x. Names x c.in-Some.verb in
    let is : Names (word c.args.line.now) c.in-Some.verb = subst P c.split_line.ensures.word c.in-Some.ensures.some in
    let more : (fault : CommandFault) → NotRead c.split_line.result.1.now (row c.in-Some.verb).shape fault → ((fault ≡ Memory) × SaysText c.args.line.now) ⊎ Refuses c.args.line.now fault = λ fault h.
    let Q : List ℕ → Type 0 = λ x. NotRead x (row c.in-Some.verb).shape fault in
    refused c.args.line.now c.in-Some.verb is fault (subst Q c.split_line.ensures.argument h) in
    err_weaker _ _ _ c.command_of.ensures.refuses more
