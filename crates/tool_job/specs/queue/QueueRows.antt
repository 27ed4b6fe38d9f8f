-- Worked rows: which job of a queue is next, what follows an answer, and the exit status (own choice). Each is a theorem that computes.
use Rattle.std.specs.Prelude.{◌≡◌, ℕ, List, true, false, [], ◌∷◌, Some, None, Ok}
use Rattle.ftp_operation.specs.declared.answer.Answer.TheVariants as Answers
use Rattle.tool_job.specs.declared.queue.decisions.AfterRound.TheVariants as Rounds
use Rattle.tool_job.specs.declared.queue.decisions.AnswerEffect.TheVariants as Effects
use Rattle.tool_job.specs.declared.queue.decisions.JobSupply.TheVariants as Supplies
use Rattle.tool_job.specs.declared.queue.decisions.RoundState.TheVariants as States
use Rattle.tool_job.specs.declared.queue.queued_job.Often.TheVariants as Oftens
use Rattle.tool_job.specs.queue.Decisions.{after_round, effect_by, gets_further, takes_up, waits}
use Rattle.tool_job.specs.queue.Order.{GivesNext, KeepsOrder}
use Rattle.tool_job.specs.queue.QueueStatus.{worst_after}
use Rattle.tool_terminal.specs.declared.status.Status.TheVariants as Statuses

-- a job that is a number is called by it
abbrev called : ℕ → List ℕ
called job = job ∷ []

-- which is next of jobs that are numbers: 7, which was cut off; 1, which was taken up before 2; 3, which waits before 4; none
abbrev pub JobsNext : Type 0
JobsNext =
    let waiting : List (List ℕ) = called 3 ∷ called 4 ∷ [] in
    GivesNext called (Some 7) (1 ∷ 2 ∷ []) (1 ∷ 2 ∷ []) waiting waiting Supplies.Open (Ok (Some 7))
    × GivesNext called None (1 ∷ 2 ∷ []) (2 ∷ []) waiting waiting Supplies.Open (Ok (Some 1))
    × GivesNext called None (2 ∷ []) [] waiting waiting Supplies.Open (Ok (Some 2))
    × GivesNext called None [] [] waiting (called 4 ∷ []) Supplies.Open (Ok (Some 3))
    × GivesNext called None [] [] [] [] Supplies.Open (Ok None)
    × KeepsOrder called (2 ∷ []) (2 ∷ 3 ∷ []) waiting (called 4 ∷ []) Supplies.Open
    × (takes_up 1 2 Supplies.Open ≡ true)
    × (takes_up 2 2 Supplies.Open ≡ false)

-- what follows an answer
abbrev pub AnswersFollowed : Type 0
AnswersFollowed =
    (effect_by {A = ℕ} Answers.Lost true ≡ Effects.CutOff)
    × (effect_by {A = ℕ} Answers.Lost false ≡ Effects.LeftLast)
    × (effect_by {A = ℕ} (Answers.Refused 550) true ≡ Effects.Left)
    × (waits States.Asking false ≡ false)
    × (waits States.Draining true ≡ false)
    × (waits States.Draining false ≡ true)
    × (after_round {A = ℕ} Answers.Done Oftens.On ≡ Rounds.Over)
    × (after_round {A = ℕ} Answers.Lost Oftens.Once ≡ Rounds.Again)
    × (after_round {A = ℕ} Answers.Lost Oftens.On ≡ Rounds.GivesUp)
    × (after_round {A = ℕ} (Answers.Refused 530) Oftens.Once ≡ Rounds.GivesUp)
    × (gets_further (2, 100) (2, 100) ≡ false)
    × (gets_further (2, 100) (2, 101) ≡ true)
    × (gets_further (2, 100) (3, 0) ≡ true)

-- the status of a queue
abbrev pub StatusesCombined : Type 0
StatusesCombined =
    (worst_after Statuses.Done [] ≡ Statuses.Done)
    × (worst_after Statuses.Done (Statuses.Refused ∷ Statuses.Done ∷ []) ≡ Statuses.Refused)
    × (worst_after Statuses.Done (Statuses.Refused ∷ Statuses.BadWords ∷ []) ≡ Statuses.BadWords)
    × (worst_after Statuses.Done (Statuses.Refused ∷ Statuses.Failed ∷ Statuses.BadWords ∷ []) ≡ Statuses.Failed)
