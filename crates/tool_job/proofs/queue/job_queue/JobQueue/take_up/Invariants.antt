use Rattle.tool_job.specs.queue.Order.{KeepsOrder}
use Rattle.tool_job.proofs.queue.job_queue.JobQueue.take_up.Given as goal

-- those ahead and then those that wait are the same as before
abbrev pub invariant-loop : goal.invariant-loop
invariant-loop g l =
    let waits = g.W.WaitingJobs.waits in
    KeepsOrder g.E.QueuedJob.named l.fn.self.ahead.jobs.items l.self.ahead.jobs.items (waits l.fn.self.waiting) (waits l.self.waiting) l.self.supply
