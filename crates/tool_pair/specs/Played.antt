-- What is written where a script is played.
use Rattle.std.specs.Prelude.{◌≡◌, ◌+◌, ◌++◌, ◌⊎◌, ℕ, Bool, true, List, Option, Ok, Err, length, map, flat_map, if◌then◌else◌}
use Rattle.std.specs.Io.KnownBytes.{Appends}
use Rattle.ftp_operation.specs.Answer.{said_of}
use Rattle.ftp_operation.specs.declared.answer.Answer.{Answer}
use Rattle.ftp_pair.specs.Session.{Seen}
use Rattle.laws_world.specs.Claims.{Beginning}
use Rattle.tool_script.specs.Report.{report}
use Rattle.tool_script.specs.Script.{script_value}
use Rattle.tool_script.specs.declared.order.Order.{Order}
use Rattle.tool_script.specs.Reading.{GivesAll}
use Rattle.tool_script.specs.Status.{worst_of}
use Rattle.tool_terminal.specs.declared.status.Status.{Status}
use Rattle.tool_terminal.specs.declared.status.Status.TheVariants.{BadWords, Failed, Refused}
use Rattle.tool_pair.specs.Leading.{Led, LeadsTo, first_second, script_orders_at}
use Rattle.tool_pair.specs.Making.{own_beginning}
use Rattle.tool_pair.specs.Transcript.{Delivery, transcript}

-- this text was written, and after it the report of each answer in this world. The status is their worst, and 1 where an end was refused memory. A is the
-- type of an allocator, and says nothing
pub record WritesReports (A : Type 0) (front : List ℕ) (last : Seen) (old new : Option (List ℕ)) (status : Status) : Type 0 where
  pub answers : List (Answer A)
  pub same : map said_of answers ≡ last.world.reports
  pub wrote : Appends old new (front ++ flat_map report answers)
  pub worst : status ≡ (if last.calm then worst_of answers else Refused)

-- the orders led from one world to another, where no end was refused memory, and each has its report in any case; the transcript of what was taken on the
-- way was written, where it is wanted, and then all reports
pub record PlaysIn (A : Type 0) (wanted : Bool) (orders : List (Order (List ℕ))) (first last : Seen) (old new : Option (List ℕ)) (status : Status) : Type 0 where
  pub took : List Delivery
  pub leads : LeadsTo (script_orders_at first_second orders) took first last
  pub each : length last.world.reports ≡ length first.world.reports + length orders
  pub reports : WritesReports A (transcript wanted took) last old new status

-- the orders led from this beginning to a world, where no end was refused memory, and each has its report in any case; the transcript of what was taken on
-- the way was written, where it is wanted, and then the reports of that world
pub record Plays (A : Type 0) (wanted : Bool) (from : Beginning) (orders : List (Order (List ℕ))) (old new : Option (List ℕ)) (status : Status) : Type 0 where
  pub took : List Delivery
  pub last : Seen
  pub led : last.calm ≡ true → Led from orders took last.world
  pub each : length last.world.reports ≡ length orders
  pub reports : WritesReports A (transcript wanted took) last old new status

-- a reader gave a script, which was played, with a transcript or without, with roots or without
pub record PlaysAll (A : Type 0) (wanted roots : Bool) (known left old new : Option (List ℕ)) (status : Status) : Type 0 where
  pub text : List ℕ
  pub gave : GivesAll known left text
  pub login : List ℕ × List ℕ
  pub orders : List (Order (List ℕ))
  pub said : script_value text ≡ Ok (login, orders)
  pub plays : Plays A wanted (own_beginning roots login) orders old new status

-- a reader gave a text that is no script, and nothing was written
pub record IsUnfit (known left old new : Option (List ℕ)) (status : Status) : Type 0 where
  pub text : List ℕ
  pub gave : GivesAll known left text
  pub line : ℕ
  pub fault : script_value text ≡ Err line
  pub same : new ≡ old
  pub told : status ≡ BadWords

-- a script was played, and no fault told of; or it is none; or something failed, or was refused memory outside both ends
abbrev pub Tells : (A : Type 0) (wanted roots : Bool) (known left old new : Option (List ℕ)) (earlier later : Option (List ℕ)) (status : Status) → Type 0
Tells A wanted roots known left old new earlier later status =
    (PlaysAll A wanted roots known left old new status × (later ≡ earlier)) ⊎ (IsUnfit known left old new status ⊎ (status ≡ Failed))
