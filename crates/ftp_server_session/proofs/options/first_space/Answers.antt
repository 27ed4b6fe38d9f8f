use Rattle.std.proofs.Common.{rules, not, sym}
use Rattle.std.proofs.lemmas.List.Sums.{prefix_len_is}
use Rattle.ftp_command.specs.Argument.{is_space}
use Rattle.ftp_server_session.proofs.options.first_space.Goals as goal

pub returns-clause-place : goal.returns-clause-place
returns-clause-place c =
    sym (prefix_len_is (λ x. not (is_space x)) c.args.text.now c.unwrap_or.result 0 (search rules) (λ k lt. search rules) (λ lt. search rules))
