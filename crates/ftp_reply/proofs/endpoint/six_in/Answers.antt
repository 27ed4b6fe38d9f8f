use Rattle.std.proofs.Common.{ℕ, sym, arith}
use borrow.Author.Count.{below_more}
use Rattle.ftp_endpoint.specs.declared.endpoint.Endpoint.{Endpoint}
use Rattle.ftp_reply.specs.Values.{HasSixAt}
use Rattle.ftp_reply.proofs.PassiveLemmas.{says_endpoint, no_endpoint}
use Rattle.ftp_reply.proofs.endpoint.six_in.Goals as goal

pub loop-place-preserved : goal.loop-place-preserved
loop-place-preserved c =
    below_more (λ (k : ℕ). (other : Endpoint) → ¬ HasSixAt c.args.text.now k other) c.loop-place.place c.loop-place.invariant c.in_default.ensures.none

pub returns-in-Some : goal.returns-in-Some
returns-in-Some c =
    sym (says_endpoint c.args.text.now c.in-Some.endpoint (record { place = c.loop-place.place; here = c.in-Some.ensures.some; first = c.loop-place.invariant }))

pub returns : goal.returns
returns c = sym (no_endpoint c.args.text.now (λ place endpoint has. let within = has.within in c.loop-place.invariant place (omega arith) endpoint has))
