use Rattle.std.proofs.Common.{◌≡◌, ℕ, ◌<◌, get_or}
use Rattle.ftp_command.specs.Verb.{Names}
use Rattle.ftp_command.specs.declared.verb.TheConstants.{VERBS}
use Rattle.ftp_command.specs.declared.verb.Verb.TheVariants as verb
use Rattle.ftp_command.proofs.verb.verb_of.Given as goal

abbrev pub invariant-loop-verb : goal.invariant-loop-verb
invariant-loop-verb l =
    (l.verb-items ≡ VERBS) × ((k : ℕ) → k < l.verb-index → Names l.word (get_or VERBS k verb.User) → ⊥)
