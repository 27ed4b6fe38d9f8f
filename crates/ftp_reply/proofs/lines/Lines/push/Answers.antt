use Rattle.std.proofs.Common.{arith, rules, ◌≡◌, ◌++◌, ◌∷◌, [], length}
use Rattle.std.proofs.lemmas.Grind.{common_steps}
use Rattle.ftp_reply.specs.Lines.{lines_at, AreWithin}
use Rattle.ftp_reply.proofs.LinesLemmas.{Pushed, pushed}
use Rattle.ftp_reply.proofs.lines.Lines.push.Given as given
use Rattle.ftp_reply.proofs.lines.Lines.push.Goals as goal
use Rattle.ftp_reply.proofs.lines.Lines.push.Goals.{then-not-is_empty, else-not-is_empty}

-- the line stands behind the others in the buffer as it is at the return
stands : (g : given.Over) (c : goal.After-push g) → Pushed c.self.inside.buffer.items c.self.inside.lens.items c.args.line.now c.extend_from_slice.new.self.items c.push.new.self.items
stands g c =
    let b = c.self.inside.buffer.items in
    let n = c.self.inside.lens.items in
    let mid = c.if-not-is_empty.self-inside.buffer.items in
    let e : c.extend_from_slice.new.self.items ≡ mid ++ c.args.line.now = search rules in
    let k : c.push.new.self.items ≡ n ++ length c.args.line.now ∷ [] = search rules in
    rw (e, k) (pushed b n c.args.line.now mid c.self.invariant.0
    (λ l. elim c.if-not-is_empty.branch [ then-not-is_empty w ↦ grind (arith, common_steps) | else-not-is_empty w ↦ grind (arith, common_steps) ])
    (λ l. elim c.if-not-is_empty.branch [ then-not-is_empty w ↦ grind (arith, common_steps) | else-not-is_empty w ↦ grind (arith, common_steps) ]))

pub invariant_of-self-2 : goal.invariant_of-self-2
invariant_of-self-2 g c =
    let p = stands g c in
    let within : AreWithin (lines_at c.self.inside.buffer.items c.self.inside.lens.items ++ c.args.line.now ∷ []) = rw c.self.view_is c.requires in
    (p.cut, rw p.lines_are within)

pub returns-clause-ok : goal.returns-clause-ok
returns-clause-ok g c = rw (← c.self.view_is) (stands g c).lines_are
