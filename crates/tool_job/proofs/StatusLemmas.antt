-- The worst of statuses is at least as bad as each of them.
use Rattle.std.proofs.Common.{◌≡◌, ◌≤◌, [], ◌∷◌, List, All, ap, refl, arith}
use Rattle.std.proofs.lemmas.List.Elements.{All-cons, All-nil}
use Rattle.tool_terminal.specs.Status.{number, worse}
use Rattle.tool_terminal.specs.declared.status.Status.{Status}
use Rattle.tool_terminal.specs.declared.status.Status.TheVariants.{Done, Refused, BadWords, Failed}
use Rattle.tool_job.specs.queue.QueueStatus.{worst_after}

-- the worse of two is at least as bad as the first
worse_first : (one other : Status) → number one ≤ number (worse one other)
worse_first Done other = omega arith
worse_first Refused Done = omega arith
worse_first Refused Refused = omega arith
worse_first Refused BadWords = omega arith
worse_first Refused Failed = omega arith
worse_first BadWords Done = omega arith
worse_first BadWords Refused = omega arith
worse_first BadWords BadWords = omega arith
worse_first BadWords Failed = omega arith
worse_first Failed Done = omega arith
worse_first Failed Refused = omega arith
worse_first Failed BadWords = omega arith
worse_first Failed Failed = omega arith

-- and as the second
worse_second : (one other : Status) → number other ≤ number (worse one other)
worse_second one Done = omega arith
worse_second Done Refused = omega arith
worse_second Refused Refused = omega arith
worse_second BadWords Refused = omega arith
worse_second Failed Refused = omega arith
worse_second Done BadWords = omega arith
worse_second Refused BadWords = omega arith
worse_second BadWords BadWords = omega arith
worse_second Failed BadWords = omega arith
worse_second Done Failed = omega arith
worse_second Refused Failed = omega arith
worse_second BadWords Failed = omega arith
worse_second Failed Failed = omega arith

-- the worst never gets better
worst_rises : (worst : Status) (statuses : List Status) → number worst ≤ number (worst_after worst statuses)
worst_rises worst [] = omega arith
worst_rises worst (status ∷ statuses) = omega (arith, worse_first worst status, worst_rises (worse worst status) statuses)

-- None of them is worse than the worst.
pub none_worse : (worst : Status) (statuses : List Status) → All (λ status. number status ≤ number (worst_after worst statuses)) statuses
none_worse worst [] = All-nil (λ status. number status ≤ number worst)
none_worse worst (status ∷ statuses) =
    All-cons (λ each. number each ≤ number (worst_after (worse worst status) statuses)) status statuses
    (omega (arith, worse_second worst status, worst_rises (worse worst status) statuses)) (none_worse (worse worst status) statuses)

-- no status but one is that of what is done
least_done : (status : Status) → number status ≤ 0 → status ≡ Done
least_done Done least = refl
least_done Refused least = absurd (omega (arith, least))
least_done BadWords least = absurd (omega (arith, least))
least_done Failed least = absurd (omega (arith, least))

-- where the worst is that of what is done, each is
done_after : (worst : Status) (statuses : List Status) → worst_after worst statuses ≡ Done → All (λ status. status ≡ Done) statuses
done_after worst [] is = All-nil (λ status. status ≡ Done)
done_after worst (status ∷ statuses) is =
    let none : number (worst_after (worse worst status) statuses) ≡ 0 = ap number is in
    All-cons (λ each. each ≡ Done) status statuses
    (least_done status (omega (arith, worse_second worst status, worst_rises (worse worst status) statuses, none)))
    (done_after (worse worst status) statuses is)

-- So all are done where the worst after none is that of what is done.
pub all_done : (statuses : List Status) → worst_after Done statuses ≡ Done → All (λ status. status ≡ Done) statuses
all_done statuses is = done_after Done statuses is
