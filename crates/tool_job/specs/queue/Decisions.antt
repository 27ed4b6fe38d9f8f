-- What a queue takes up, asks and gives, and what follows an answer (own choice).
use Rattle.std.specs.Prelude.{ℕ, ◌==◌, ◌||◌, Bool, false, not, nat_lt, if◌then◌else◌}
use Rattle.ftp_operation.specs.declared.answer.Answer.{Answer}
use Rattle.ftp_operation.specs.declared.answer.Answer.TheVariants as Answers
use Rattle.tool_job.specs.declared.queue.decisions.AfterRound.{AfterRound}
use Rattle.tool_job.specs.declared.queue.decisions.AfterRound.TheVariants as Rounds
use Rattle.tool_job.specs.declared.queue.decisions.AnswerEffect.{AnswerEffect}
use Rattle.tool_job.specs.declared.queue.decisions.AnswerEffect.TheVariants as Effects
use Rattle.tool_job.specs.declared.queue.decisions.JobSupply.{JobSupply}
use Rattle.tool_job.specs.declared.queue.decisions.JobSupply.TheVariants as Supplies
use Rattle.tool_job.specs.declared.queue.decisions.RoundState.{RoundState}
use Rattle.tool_job.specs.declared.queue.decisions.RoundState.TheVariants as States
use Rattle.tool_job.specs.declared.queue.queued_job.Often.{Often}
use Rattle.tool_job.specs.declared.queue.queued_job.Often.TheVariants as Oftens

-- one more job is taken up ahead, where so many were: while more can be, and these are fewer than may be asked ahead
abbrev pub takes_up : (count most : ℕ) → JobSupply → Bool
takes_up count most Supplies.Open = nat_lt count most
takes_up count most (Supplies.Failed error) = false

-- a job that has its turn waits for other control connections: one of these ended, and it was not asked ahead over them
abbrev pub waits : RoundState → (is_ahead : Bool) → Bool
waits States.Asking is_ahead = false
waits States.Draining is_ahead = not is_ahead

-- what an answer means for the job that has its turn: where the control connection ended, it goes on over others, or is the last that was asked over these
abbrev pub effect_by : {A : Type 0} → Answer A → (goes_on : Bool) → AnswerEffect
effect_by Answers.Lost goes_on = if goes_on then Effects.CutOff else Effects.LeftLast
effect_by answer goes_on = Effects.Left

-- what follows a round of control connections that was answered so last: where they ended, what is asked once was told of already
abbrev pub after_loss : Often → AfterRound
after_loss Oftens.Once = Rounds.Again
after_loss Oftens.On = Rounds.GivesUp

abbrev pub after_round : {A : Type 0} → Answer A → Often → AfterRound
after_round Answers.Done often = Rounds.Over
after_round Answers.Lost often = after_loss often
after_round answer often = Rounds.GivesUp

-- a round got further: another number of jobs had their turn, or of octets came
abbrev pub gets_further : (before now : ℕ × ℕ) → Bool
gets_further before now = not (before.0 == now.0) || not (before.1 == now.1)
