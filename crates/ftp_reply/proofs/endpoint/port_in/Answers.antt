use Rattle.std.proofs.Common.{ℕ, sym, arith}
use borrow.Author.Count.{below_more}
use Rattle.ftp_reply.specs.Values.{HasPortAt}
use Rattle.ftp_reply.proofs.ExtendedLemmas.{says_port_of, no_port}
use Rattle.ftp_reply.proofs.endpoint.port_in.Goals as goal

pub loop-place-preserved : goal.loop-place-preserved
loop-place-preserved c =
    below_more (λ (k : ℕ). (other : ℕ) → ¬ HasPortAt c.args.text.now k other) c.loop-place.place c.loop-place.invariant c.in_default.ensures.none

pub returns-in-Some : goal.returns-in-Some
returns-in-Some c =
    sym (says_port_of c.args.text.now c.in-Some.port (record { place = c.loop-place.place; here = c.in-Some.ensures.some; first = c.loop-place.invariant }))

pub returns : goal.returns
returns c = sym (no_port c.args.text.now (λ place port has. let within = has.within in c.loop-place.invariant place (omega arith) port has))
