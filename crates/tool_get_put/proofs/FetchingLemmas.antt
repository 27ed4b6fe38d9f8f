-- A program that stops has not done its task, and says so.
use Rattle.std.proofs.Common.{◌≡◌, ◌∙◌, List, ℕ, Result, Ok, Err, IfOk, sym, arith}
use Rattle.ftp_operation.specs.declared.op.How.{How}
use Rattle.tool_get_put.specs.Fetching.{DoesTask}
use Rattle.tool_get_put.specs.declared.fetching.PlaceTask.{PlaceTask}
use Rattle.tool_get_put.specs.declared.fetching.PlaceTask.TheVariants as Tasks
use Rattle.tool_session.specs.Fault.{stop_status}
use Rattle.tool_session.specs.Talking.{SessionExchange}
use Rattle.tool_session.specs.declared.fault.Phase.{Phase}
use Rattle.tool_session.specs.declared.fault.Phase.TheVariants as Phases
use Rattle.tool_terminal.specs.declared.status.Status.{Status}
use Rattle.tool_terminal.specs.declared.status.Status.TheVariants.{Done}

-- what stops a program has another status than that of what is done
never_done : (phase : Phase) → stop_status phase ≡ Done → ⊥
never_done Phases.Login done = grind (arith, done)
never_done Phases.Asking done = grind (arith, done)
never_done Phases.Connection done = grind (arith, done)
never_done Phases.Talking done = grind (arith, done)
never_done Phases.Reading done = grind (arith, done)
never_done Phases.Writing done = grind (arith, done)
never_done Phases.Script done = grind (arith, done)
never_done Phases.Listing done = grind (arith, done)
never_done Phases.Report done = grind (arith, done)

-- so whatever the task was, nothing is said to be done
pub stopped : {F : Type 0} (hears : List SessionExchange → Type 0) (task : PlaceTask) (path : List ℕ) (how : How) (phase : Phase) (result : Result Status F)
    → IfOk result (λ status. status ≡ stop_status phase) → DoesTask hears task path how result
stopped hears (Tasks.Simple simple) path how phase (Ok status) is = λ done. absurd (never_done phase (sym is ∙ done))
stopped hears (Tasks.Simple simple) path how phase (Err fault) is = tt
stopped hears (Tasks.PutRenamed file) path how phase (Ok status) is = λ done. absurd (never_done phase (sym is ∙ done))
stopped hears (Tasks.PutRenamed file) path how phase (Err fault) is = tt
stopped hears Tasks.MakeDirectories path how phase (Ok status) is = λ done. absurd (never_done phase (sym is ∙ done))
stopped hears Tasks.MakeDirectories path how phase (Err fault) is = tt
stopped hears (Tasks.Get job) path how phase result is = tt
stopped hears (Tasks.GetMatching job) path how phase result is = tt
stopped hears (Tasks.Put file) path how phase result is = tt
stopped hears (Tasks.List lines) path how phase result is = tt
stopped hears (Tasks.ListMatching lines) path how phase result is = tt
stopped hears Tasks.RemoveMatching path how phase result is = tt
