use Rattle.std.proofs.Common.{◌≡◌, ◌∙◌, ap, sym, true}
use Rattle.ftp_command.specs.Argument.{begins_with, without_options}
use Rattle.ftp_command.proofs.ArgumentLemmas.{without-option}
use Rattle.ftp_command.proofs.argument.drop_options.Goals as goal

pub loop-rest-preserved : goal.loop-rest-preserved
loop-rest-preserved c =
    let begins : begins_with 45 c.loop-rest.rest.now ≡ true = sym c.begins_option.ensures ∙ c.loop-rest-test.true in
    ap without_options c.drop_word-rest.ensures ∙ (without-option c.loop-rest.rest.now begins ∙ c.loop-rest.invariant)
