-- Worked rows of what a mirror decides, by hand (own choices; codes by RFC 959, section 4.2.2). Each is a theorem that computes.
use Rattle.std.specs.Prelude.{◌≡◌, ℕ, true, false, Some, None, Ok, Err, codes}
use Rattle.ftp_operation.specs.declared.answer.Answer.{Answer}
use Rattle.ftp_operation.specs.declared.answer.Answer.TheVariants as Says
use Rattle.tool_mirror_plan.specs.PlanRows.{facts, planned_step}
use Rattle.tool_mirror_plan.specs.declared.actions.Action.TheVariants as Does
use Rattle.tool_mirror_plan.specs.declared.actions.CopyDirection.TheVariants as Ways
use Rattle.tool_mirror_plan.specs.declared.actions.Extra.TheVariants as Extras
use Rattle.tool_resume.specs.declared.uploading.Wrong.TheVariants as Wrongs
use Rattle.tool_resume.specs.declared.version.Arrival.TheVariants as Arrivals
use Rattle.tool_mirror.specs.declared.fault.MirrorFault.TheVariants as Faults
use Rattle.tool_mirror.specs.declared.mirroring.MirrorEnd.TheVariants as Ends
use Rattle.tool_mirror.specs.declared.prefetch.requests.Prefetch.TheVariants as Asks
use Rattle.tool_mirror.specs.declared.queue.entry.QueuedAction.TheVariants as Queued
use Rattle.tool_mirror.specs.declared.queue.entry.Removal.TheVariants as Removals
use Rattle.tool_mirror.specs.declared.queue.entry.Replacement.TheVariants as Replacements
use Rattle.tool_mirror.specs.declared.queue.removal_counts.RemovalCounts.{RemovalCounts}
use Rattle.tool_mirror.specs.declared.queue.removal_counts.Settled.TheVariants as Settles
use Rattle.tool_mirror.specs.declared.request.Doing.TheVariants as Doings
use Rattle.tool_mirror.specs.Answering.{entry_stands_by, file_stands_by, is_moment, moment_told, size_told}
use Rattle.tool_mirror.specs.Facts.{changed_at}
use Rattle.tool_mirror.specs.Prefetch.{prefetch_of}
use Rattle.tool_mirror.specs.Queue.{queued_by, replacing, settled_by}
use Rattle.tool_mirror.specs.Transfer.{agreed_by, sent_by, whole_by}
use Rattle.tool_mirror.specs.Walk.{end_by}

-- an answer without a path or octets
abbrev pub Said : Type 0
Said = Answer ℕ

-- what waits for a step alone, and for two of one name or of different names
abbrev pub StepsQueued : Type 0
StepsQueued =
    (queued_by Does.Enter ≡ Queued.Enter)
    × (queued_by Does.RemoveDir ≡ Queued.RemoveLacking Removals.Dir)
    × (replacing (planned_step (codes "a") Does.RemoveFile) (planned_step (codes "a") Does.MakeDir) ≡ Some (Queued.Replace Removals.File Replacements.Dir))
    × (replacing (planned_step (codes "a") Does.RemoveDir) (planned_step (codes "a") (Does.Copy (facts 3 5)))
    ≡ Some (Queued.Replace Removals.Dir (Replacements.File (facts 3 5))))
    × (replacing (planned_step (codes "a") Does.RemoveFile) (planned_step (codes "b") Does.MakeDir) ≡ None)
    × (replacing (planned_step (codes "a") Does.RemoveFile) (planned_step (codes "a") Does.RemoveDir) ≡ None)
    × (replacing (planned_step (codes "a") Does.MakeDir) (planned_step (codes "a") Does.MakeDir) ≡ None)

-- a target that held so many entries, of which so many would be removed
abbrev pub counts : ℕ → ℕ → RemovalCounts
counts held removed = record { held = held; removed = removed }

-- no removal; ten of twelve, half, more than half, all where that is asked for, and one that is not
abbrev pub RemovalsSettled : Type 0
RemovalsSettled =
    (settled_by Extras.Removed 0 (counts 30 0) ≡ Settles.Nothing)
    × (settled_by Extras.Removed 2 (counts 12 10) ≡ Settles.Begun)
    × (settled_by Extras.Removed 2 (counts 30 15) ≡ Settles.Begun)
    × (settled_by Extras.Removed 2 (counts 30 16) ≡ Settles.TooMany (counts 30 16))
    × (settled_by Extras.Any 2 (counts 30 30) ≡ Settles.Begun)
    × (settled_by Extras.Kept 1 (counts 30 1) ≡ Settles.TooMany (counts 30 1))

-- files that are copied either way, or told only, by their size; directories
abbrev pub AskedAhead : Type 0
AskedAhead =
    (prefetch_of (Queued.Copy (facts 3 5)) Ways.Down Doings.All ≡ Some (Asks.Download (facts 3 5)))
    × (prefetch_of (Queued.Copy (facts 3 5)) Ways.Down Doings.Nothing ≡ None)
    × (prefetch_of (Queued.Copy (facts 65536 5)) Ways.Up Doings.All ≡ Some Asks.HeldUpload)
    × (prefetch_of (Queued.Copy (facts 65537 5)) Ways.Up Doings.All ≡ Some Asks.Upload)
    × (prefetch_of (Queued.Copy (facts 67108865 5)) Ways.Up Doings.All ≡ None)
    × (prefetch_of (Queued.Compare (facts 67108864 5)) Ways.Down Doings.All ≡ Some (Asks.Compared (facts 67108864 5)))
    × (prefetch_of (Queued.Compare (facts 67108865 5)) Ways.Down Doings.All ≡ None)
    × (prefetch_of Queued.Enter Ways.Up Doings.All ≡ Some Asks.Listing)
    × (prefetch_of Queued.MakeDir Ways.Down Doings.All ≡ Some Asks.Listing)
    × (prefetch_of Queued.MakeDir Ways.Up Doings.All ≡ None)
    × (prefetch_of (Queued.RemoveLacking Removals.File) Ways.Up Doings.All ≡ None)

-- answers to MLST, SIZE and MDTM: 550 says that nothing stands there
abbrev pub AnswersMeant : Type 0
AnswersMeant =
    (let said : Said = Says.Refused 550 in entry_stands_by said ≡ Ok false)
    × (let said : Said = Says.Refused 450 in entry_stands_by said ≡ Err (Faults.Refused 450))
    × (let said : Said = Says.Lost in entry_stands_by said ≡ Err Faults.Lost)
    × (let said : Said = Says.Number 0 in file_stands_by said ≡ Ok true)
    × (let said : Said = Says.Refused 550 in file_stands_by said ≡ Ok false)
    × (let said : Said = Says.Number 7 in size_told said ≡ Ok (Some 7))
    × (let said : Said = Says.Refused 550 in size_told said ≡ Ok None)
    × (let said : Said = Says.Strange in moment_told said ≡ Err Faults.Strange)
    × (let said : Said = Says.Refused 502 in is_moment said 5 ≡ Ok false)
    × (let said : Said = Says.Lost in is_moment said 5 ≡ Err Faults.Lost)

-- a download of 5 octets where 9 may come; an upload of 5
abbrev pub CopiesCounted : Type 0
CopiesCounted =
    (whole_by Arrivals.Whole 5 9 ≡ Ok 5)
    × (whole_by Arrivals.Unknown 5 9 ≡ Ok 5)
    × (whole_by (Arrivals.Wrong 6) 5 9 ≡ Err (Faults.OtherSize 5 6))
    × (whole_by (Arrivals.TooLarge 10) 0 9 ≡ Err (Faults.TooLarge 10 9))
    × (whole_by Arrivals.Past 9 9 ≡ Err (Faults.PastLimit 9))
    × (let said : Said = Says.Done in sent_by said None 5 ≡ Ok 5)
    × (let said : Said = Says.Done in sent_by said (Some (Wrongs.Octets 4)) 5 ≡ Err (Faults.OtherSize 5 4))
    × (let said : Said = Says.Done in sent_by said (Some Wrongs.Nothing) 5 ≡ Err Faults.Vanished)
    × (let said : Said = Says.Refused 452 in sent_by said None 5 ≡ Err (Faults.Refused 452))
    × (let said : Said = Says.Number 5 in agreed_by said 5 ≡ Ok 5)
    × (let said : Said = Says.Number 4 in agreed_by said 5 ≡ Err (Faults.OtherSize 5 4))
    × (let said : Said = Says.Refused 502 in agreed_by said 5 ≡ Ok 5)

-- a file with a moment of 20, whose inode was changed at 7: sent at 10, sent at 20, and fetched at 10
abbrev pub MomentsCounted : Type 0
MomentsCounted = (changed_at Ways.Up 10 20 7 ≡ 7) × (changed_at Ways.Up 20 20 7 ≡ 20) × (changed_at Ways.Down 10 20 7 ≡ 20)

-- all was tried; the server lists nothing; the control connection ended; want of memory
abbrev pub MirrorsEnded : Type 0
MirrorsEnded =
    (let said : Said = Says.Done in end_by (Ok said) 0 ≡ Ends.Whole)
    × (let said : Said = Says.Done in end_by (Ok said) 1 ≡ Ends.InPart)
    × (let said : Said = Says.Refused 502 in end_by (Ok said) 0 ≡ Ends.Unlisted 502)
    × (let said : Said = Says.Lost in end_by (Ok said) 0 ≡ Ends.Lost)
    × (let said : Said = Says.Memory in end_by (Ok said) 0 ≡ Ends.NoMemory)
