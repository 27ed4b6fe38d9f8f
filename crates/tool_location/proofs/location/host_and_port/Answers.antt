use Rattle.std.proofs.Common.{Some, None, inr, arith}
use Rattle.std.proofs.lemmas.Str.Pattern.{strip_prefix_char}
use Rattle.ftp_endpoint.proofs.OutcomeLemmas.{none_weaker, some_weaker}
use Rattle.tool_location.specs.Location.{left_bracket}
use Rattle.tool_location.proofs.LocationLemmas.{no_bracketed, no_bare}
use Rattle.tool_location.proofs.location.host_and_port.Goals as goal

pub returns-in-Some-clause-none : goal.returns-in-Some-clause-none
returns-in-Some-clause-none c =
    let is = strip_prefix_char left_bracket c.args.text.now (Some c.in-Some.inside) c.in-Some.ensures.cases (omega arith) in
    none_weaker c.bracketed.result _ _ c.bracketed.ensures.none (no_bracketed c.args.text.now c.in-Some.inside.now is)

pub returns-in-None-clause-some : goal.returns-in-None-clause-some
returns-in-None-clause-some c =
    let other = strip_prefix_char left_bracket c.args.text.now None c.in-None.ensures.cases (omega arith) in
    some_weaker c.bare.result _ _ c.bare.ensures.some (λ server says. inr (λ begun. other begun.0 begun.1, says))

pub returns-in-None-clause-none : goal.returns-in-None-clause-none
returns-in-None-clause-none c =
    let other = strip_prefix_char left_bracket c.args.text.now None c.in-None.ensures.cases (omega arith) in
    none_weaker c.bare.result _ _ c.bare.ensures.none (no_bare c.args.text.now (λ begun. other begun.0 begun.1))
