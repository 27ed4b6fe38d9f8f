use Rattle.std.proofs.Common.{◌∙◌, sym}
use Rattle.tool_job.proofs.OrderLemmas.{more_then, none_more}
use Rattle.tool_job.proofs.queue.job_queue.JobQueue.take_up.Goals as goal

pub loop-init : goal.loop-init
loop-init g c =
    let old = c.args.self.now in
    none_more g.E.QueuedJob.named old.ahead.jobs.items (g.W.WaitingJobs.waits old.waiting) old.supply

pub loop-preserved : goal.loop-preserved
loop-preserved g c =
    let waits = g.W.WaitingJobs.waits in
    let old = c.args.self.now in
    let mid = c.loop.self in
    let new = c.take_up_next.new.self in
    more_then g.E.QueuedJob.named old.ahead.jobs.items mid.ahead.jobs.items new.ahead.jobs.items (waits old.waiting) (waits mid.waiting) (waits new.waiting)
    mid.supply new.supply c.len.result c.args.most (sym c.takes_up.ensures ∙ c.if-not-takes_up.false) c.loop.invariant c.in_ok-take_up_next.ensures

pub returns-after-loop : goal.returns-after-loop
returns-after-loop g c = c.loop.invariant

pub returns-then-not-takes_up : goal.returns-then-not-takes_up
returns-then-not-takes_up g c = c.loop.invariant
