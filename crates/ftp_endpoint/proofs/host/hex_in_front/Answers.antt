use Rattle.std.proofs.Common.{arith, rules}
use Rattle.ftp_endpoint.proofs.HostLemmas.{run_is, run_whole}
use Rattle.ftp_endpoint.proofs.host.hex_in_front.Goals as goal

pub returns-then-not-is_hex_digit-clause-count : goal.returns-then-not-is_hex_digit-clause-count
returns-then-not-is_hex_digit-clause-count c =
    run_is c.args.text.now c.loop-i.i (omega arith) c.loop-i.invariant (λ _. search rules)

pub returns-clause-count : goal.returns-clause-count
returns-clause-count c = run_whole c.args.text.now c.loop-i.i (omega arith) c.loop-i.invariant
