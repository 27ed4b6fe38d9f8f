use Rattle.std.proofs.Common.{arith}
use Rattle.ftp_command.specs.Verb.{Names}
use Rattle.ftp_command.specs.declared.verb.Verb.{Verb}
use Rattle.ftp_command.proofs.VerbLemmas.{every}
use Rattle.ftp_command.proofs.verb.verb_of.Goals as goal

pub returns-clause-none : goal.returns-clause-none
returns-clause-none c =
    let P : Verb → Type 0 = λ v. Names c.args.word.now v → ⊥ in
    every P (λ k lt. c.loop-verb.invariant.1 k (omega arith))
