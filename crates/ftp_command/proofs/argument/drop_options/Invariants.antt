use Rattle.std.proofs.Common.{◌≡◌, length}
use Rattle.ftp_command.specs.Argument.{without_options}
use Rattle.ftp_command.proofs.argument.drop_options.Given as goal

abbrev pub invariant-loop-rest : goal.invariant-loop-rest
invariant-loop-rest l = without_options l.rest ≡ without_options l.text

abbrev pub decreases-loop-rest : goal.decreases-loop-rest
decreases-loop-rest l = length l.rest
