use Rattle.std.proofs.Common.{◌∙◌}
use Rattle.ftp_reply.proofs.HeardLemmas.{heard_code, heard_no_code}
use Rattle.ftp_reply.proofs.place.first_place.Goals as goal

pub returns-in_err-code-clause-none : goal.returns-in_err-code-clause-none
returns-in_err-code-clause-none c = rw c.from_residual.ensures (heard_no_code c.args.line.now c.in_err-code.ensures.none)

pub returns-in_err-text-clause-none : goal.returns-in_err-text-clause-none
returns-in_err-text-clause-none c =
    let found = c.in_ok-code.ensures.found in
    rw c.from_residual-in_err-text.ensures (heard_code c.args.line.now c.in_ok-code.rest.now c.in_ok-code.code found.0 found.1 ∙ c.in_err-text.ensures.none c.in_ok-code.code)

pub returns-clause-found : goal.returns-clause-found
returns-clause-found c =
    let found = c.in_ok-code.ensures.found in
    heard_code c.args.line.now c.in_ok-code.rest.now c.in_ok-code.code found.0 found.1 ∙ c.in_ok-text.ensures.some c.in_ok-code.code
