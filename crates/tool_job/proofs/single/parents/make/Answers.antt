use Rattle.std.proofs.Common.{[], ◌∷◌, ap, inl, refl}
use Rattle.tool_job.specs.single.Parents.{making}
use Rattle.tool_job.proofs.single.parents.make.Goals as goal

pub returns-in-Ok : goal.returns-in-Ok
returns-in-Ok g c =
    let answer = c.answer.result in
    ((making c.in-Ok.path, answer) ∷ [], (c.answer.new.self, c.answer.ensures, refl), inl (ap (λ path. (making path, answer) ∷ []) c.in-Ok.ensures))
