-- How far a queue got, and its exit status (own choice).
use Rattle.std.specs.Prelude.{◌+◌, ◌-◌, ◌^◌, min, List, [], ◌∷◌}
use Rattle.tool_job.specs.declared.queue.queue_status.QueueStatus.{QueueStatus}
use Rattle.tool_terminal.specs.declared.status.Status.{Status}
use Rattle.tool_terminal.specs.declared.status.Status.TheVariants as Statuses
use Rattle.tool_terminal.specs.Status.{worse}

-- no job had its turn
abbrev pub nothing_done : QueueStatus
nothing_done = record { turns = 0; worst = Statuses.Done }

-- a job more has its turn; they are counted as far as a number goes
abbrev pub next_turn : QueueStatus → QueueStatus
next_turn so_far = record { turns = min (so_far.turns + 1) (2 ^ 64 - 1); worst = so_far.worst }

-- a job more was left with this status
abbrev pub counted : QueueStatus → Status → QueueStatus
counted so_far status = record { turns = so_far.turns; worst = worse so_far.worst status }

-- the worst of all statuses that were counted after another one
abbrev pub worst_after : Status → List Status → Status
worst_after worst [] = worst
worst_after worst (status ∷ statuses) = worst_after (worse worst status) statuses
