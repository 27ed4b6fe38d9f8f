-- A verdict as the definitions of the client have it.
use Rattle.ftp_client_model.specs.Replies.{Preliminary, Completion, Intermediate, Negative, Closing, Displaced}
use Rattle.ftp_client_model.specs.Replies.{Verdict as Judgement}
use Rattle.ftp_client_steps.specs.declared.verdict.Verdict.{Verdict}
use Rattle.ftp_client_steps.specs.declared.verdict.Verdict.TheVariants as Verdicts

-- the same verdict
abbrev pub verdict_in : Verdict → Judgement
verdict_in Verdicts.Preliminary = Preliminary
verdict_in Verdicts.Completion = Completion
verdict_in Verdicts.Intermediate = Intermediate
verdict_in Verdicts.Negative = Negative
verdict_in Verdicts.Closing = Closing
verdict_in Verdicts.Displaced = Displaced
