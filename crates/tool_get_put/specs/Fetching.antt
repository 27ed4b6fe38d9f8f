-- What the programs that ask at one place have done where they end with status 0 (own choice).
use Rattle.std.specs.Prelude.{◌≡◌, ℕ, List, IfOk, Result}
use Rattle.ftp_operation.specs.declared.op.How.{How}
use Rattle.tool_get_put.specs.declared.fetching.PlaceTask.{PlaceTask}
use Rattle.tool_get_put.specs.declared.fetching.PlaceTask.TheVariants as Tasks
use Rattle.tool_job.specs.single.Parents.{MakesAll}
use Rattle.tool_job.specs.single.Simple.{IsAnswered, change_of}
use Rattle.tool_job.specs.single.Upload.{renaming}
use Rattle.tool_session.specs.Talking.{SessionExchange}
use Rattle.tool_terminal.specs.declared.status.Status.{Status}
use Rattle.tool_terminal.specs.declared.status.Status.TheVariants.{Done}

-- A change at a path is done only if there was a conversation in which that alone was asked, once, and the server answered that it is done; a file that goes
-- up under another name has its path only if that was so of the renaming. A directory with all above it is made only if there was one in which the server said
-- last that it stands. Of the other tasks nothing is said.
abbrev pub DoesTask : {E : Type 0} → (List SessionExchange → Type 0) → PlaceTask → (path : List ℕ) → How → Result Status E → Type 0
DoesTask hears (Tasks.Simple simple) path how result = IfOk result (λ status. status ≡ Done → IsAnswered hears (change_of simple path how))
DoesTask hears (Tasks.PutRenamed file) path how result = IfOk result (λ status. status ≡ Done → IsAnswered hears (renaming path))
DoesTask hears Tasks.MakeDirectories path how result = MakesAll hears path result
DoesTask hears task path how result = Unit {0}
