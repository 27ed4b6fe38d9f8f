use Rattle.std.proofs.Common.{arith}
use Rattle.ftp_pair_events.proofs.events.Keeping.{at_most, then}
use Rattle.ftp_pair_events.proofs.events.parts.Parts.serve.Goals as goal

pub returns-clause-report : goal.returns-clause-report
returns-clause-report g c had =
    c.serve_far-3.ensures.report (c.serve_far-2.ensures.report (c.serve_far.ensures.report
    (c.serve_near-3.ensures.report (c.serve_near-2.ensures.report (c.serve_near.ensures.report had)))))

pub returns-clause-counted : goal.returns-clause-counted
returns-clause-counted g c =
    let near = then (then c.serve_near.ensures.counted c.serve_near-2.ensures.counted (at_most 6)) c.serve_near-3.ensures.counted (at_most 9) in
    let far = then (then c.serve_far.ensures.counted c.serve_far-2.ensures.counted (at_most 6)) c.serve_far-3.ensures.counted (at_most 9) in
    then near far (at_most 18)
