use Rattle.std.proofs.Common.{[], ◌∷◌, ap, inl, refl}
use Rattle.tool_job.specs.single.Parents.{entering}
use Rattle.tool_job.proofs.single.parents.enter.Goals as goal

pub returns-in-Ok : goal.returns-in-Ok
returns-in-Ok g c =
    let answer = c.answer.result in
    ((entering c.in-Ok.path, answer) ∷ [], (c.answer.new.self, c.answer.ensures, refl), inl (ap (λ path. (entering path, answer) ∷ []) c.in-Ok.ensures))
