use Rattle.std.proofs.Common.{[], ◌∷◌, ap, inl, refl}
use Rattle.tool_job.proofs.single.simple.ChangeSessionTaskResultAnswerGlobalSessionFault.play.Goals as goal

pub returns-in-Ok : goal.returns-in-Ok
returns-in-Ok g c =
    let answer = c.answer.result in
    ((c.in-Ok.request, answer) ∷ [], (c.answer.new.self, c.answer.ensures, refl), inl (ap (λ request. (request, answer) ∷ []) c.in-Ok.ensures))
