-- What follows a try of an upload (own choice: RFC 959, section 3.5, leaves the recovery of a transfer to the user). Sizes are those
-- of SIZE, in type I (RFC 3659, section 4).
use Rattle.std.specs.Prelude.{ℕ, ◌-◌, ◌==◌, ◌&&◌, ◌||◌, Bool, true, false, not, nat_le, nat_lt, if◌then◌else◌}
use Rattle.tool_resume.specs.declared.step.There.{There}
use Rattle.tool_resume.specs.declared.step.There.TheVariants as Theres
use Rattle.tool_resume.specs.declared.step.Ended.{Ended}
use Rattle.tool_resume.specs.declared.step.Ended.TheVariants as Ends
use Rattle.tool_resume.specs.declared.step.FrontOwner.{FrontOwner}
use Rattle.tool_resume.specs.declared.step.FrontOwner.TheVariants as Fronts
use Rattle.tool_resume.specs.declared.step.NextStep.{NextStep}
use Rattle.tool_resume.specs.declared.step.NextStep.TheVariants as Steps
use Rattle.tool_resume.specs.declared.step.TransferState.{TransferState}

-- so many octets where a file goes to are known to be of this transfer: nothing stood there before, or something of another size
abbrev pub is_own : There → ℕ → Bool
is_own Theres.Nothing count = true
is_own (Theres.Octets size) count = not (size == count)
is_own Theres.Untold count = false
is_own Theres.Lost count = false

-- from where a try goes on where so many octets are there
abbrev pub goes_on : TransferState → ℕ → NextStep
goes_on t count = if is_own t.older count then Steps.From count else Steps.From 0

-- behind a try that the server says is done: what is there has to have the file's size
abbrev pub behind_done : TransferState → There → NextStep
behind_done t (Theres.Octets count) =
    if count == t.total then Steps.Done
    else (if not (nat_le count t.total) || t.left == 0 then Steps.Wrong count else goes_on t count)
behind_done t Theres.Nothing = Steps.Missing
behind_done t Theres.Untold = Steps.Done
behind_done t Theres.Lost = Steps.Done

-- behind one whose data connection broke
abbrev pub behind_broken : TransferState → There → NextStep
behind_broken t (Theres.Octets count) =
    if t.left == 0 then Steps.Tell else (if nat_le count t.total && is_own t.older count then Steps.From count else Steps.From 0)
behind_broken t Theres.Nothing = if t.left == 0 then Steps.Tell else Steps.From 0
behind_broken t Theres.Untold = Steps.Tell
behind_broken t Theres.Lost = if t.left == 0 then Steps.Tell else Steps.Lost

-- behind one that was refused by 451 although its data connection was opened
abbrev pub behind_failed : TransferState → There → NextStep
behind_failed t (Theres.Octets count) =
    if t.left == 0 then Steps.Tell else (if nat_le count t.total && is_own t.older count then Steps.From count else Steps.Tell)
behind_failed t Theres.Nothing = Steps.Tell
behind_failed t Theres.Untold = Steps.Tell
behind_failed t Theres.Lost = if t.left == 0 then Steps.Tell else Steps.Lost

-- behind one that the server says is done, whose data connection did not end: all has to be there, and it is not tried again
abbrev pub behind_unended : TransferState → There → NextStep
behind_unended t (Theres.Octets count) = if count == t.total then Steps.Done else Steps.Tell
behind_unended t Theres.Nothing = Steps.Tell
behind_unended t Theres.Untold = Steps.Tell
behind_unended t Theres.Lost = Steps.Tell

-- of a front of so many octets the last 65,536 are read back, from this one on: it may be another's, of whatever size
abbrev pub front_from : ℕ → ℕ
front_from count = count - 65536

-- where a try would go on behind so many octets, of which the last are these: behind the source's own alone
abbrev pub behind_front : ℕ → FrontOwner → NextStep
behind_front count Fronts.Own = Steps.From count
behind_front count Fronts.Other = Steps.From 0
behind_front count Fronts.Lost = Steps.Lost

-- the last octets of a part that an earlier run left of a download, so many of which are awaited once more, where so many came: they are the file's own
-- where all came and none is another, and another's where one is, or the server says that it sent all before
abbrev pub part_owner : (awaited came : ℕ) → (is_other is_done : Bool) → FrontOwner
part_owner awaited came is_other is_done =
    if is_other then Fronts.Other
    else (if nat_le awaited came then Fronts.Own else (if is_done then Fronts.Other else Fronts.Lost))

-- how many of those that came are joined to the part: those after the awaited ones, and to the file's own alone
abbrev pub joins : FrontOwner → (awaited came : ℕ) → ℕ
joins Fronts.Own awaited came = came - awaited
joins Fronts.Other awaited came = 0
joins Fronts.Lost awaited came = 0

-- behind a try that ended so the size of what stands there is asked for: where anything may follow that
abbrev pub is_size_asked_after : Ended → (left : ℕ) → Bool
is_size_asked_after Ends.Done left = true
is_size_asked_after Ends.Broken left = nat_lt 0 left
is_size_asked_after Ends.Failed left = nat_lt 0 left
is_size_asked_after Ends.Unopened left = false
is_size_asked_after Ends.Unended left = false

-- behind each, where this is there
abbrev pub follows : TransferState → Ended → There → NextStep
follows t Ends.Done there = behind_done t there
follows t Ends.Broken there = behind_broken t there
follows t Ends.Failed there = behind_failed t there
follows t Ends.Unended there = behind_unended t there
follows t Ends.Unopened there = if t.left == 0 then Steps.Tell else Steps.Again

-- a further try follows
abbrev pub is_try : NextStep → Bool
is_try (Steps.From from) = true
is_try Steps.Again = true
is_try step = false

-- how many octets of those that are there stay, where a further try follows over this control connection
abbrev pub kept_octets : NextStep → ℕ
kept_octets (Steps.From from) = from
kept_octets step = 0
