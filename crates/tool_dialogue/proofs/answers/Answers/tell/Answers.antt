use Rattle.std.proofs.Common.{◌≡◌, ℕ, List, [], ◌∷◌, length, refl, sym, arith, ◌∙◌}
use Rattle.ftp_server.specs.Server.{view_of}
use Rattle.tool_dialogue.proofs.FreeLemmas.{silent_said}
use Rattle.tool_dialogue.proofs.answers.Answers.tell.Goals as goal

none_of : (xs : List ℕ) → length xs ≡ 0 → xs ≡ []
none_of [] e = refl
none_of (x ∷ xs) e = absurd (omega (arith, e))

pub returns-then-owed-eq0-clause-view : goal.returns-then-owed-eq0-clause-view
returns-then-owed-eq0-clause-view g c =
    let v = view_of g.T.Tree.table g.J.ServerTransfer.view c.args.server.now in
    sym (silent_said v c.requires.none (none_of v.owed (sym c.owed-owed.ensures ∙ c.if-owed-eq0.true)))
