use Rattle.std.proofs.Common.{◌≡◌, ◌∙◌, ◌+◌, List, ℕ, sym, ap, subst, take_all, take, arith, length}
use Rattle.tool_script.specs.Field.{SayFront}
use Rattle.tool_script.proofs.EscapeLemmas.{eight_say}
use Rattle.tool_script.proofs.escapes.fill_eight.Goals as goal

pub returns-then-are_digits-2-clause-some : goal.returns-then-are_digits-2-clause-some
returns-then-are_digits-2-clause-some c _ =
    let old = take c.args.at c.args.room.now in
    let new = take (c.args.at + 8) c.store.new.room in
    let v = take 32 c.args.escapes.now in
    let whole : v ≡ c.args.escapes.now = take_all 32 c.args.escapes.now (omega (arith, c.requires.0)) in
    let P : List ℕ → Type 0 = λ e. SayFront e old new in
    subst P whole (
    eight_say _ _ v old new c.values_of-high.result c.values_of-low.result (ap length whole ∙ c.requires.0) (λ h l less small. omega (arith, less, small))
    (sym c.are_all.ensures ∙ c.if-are_all.true) (sym c.are_all-then-are_all.ensures ∙ c.if-are_all-2.true)
    c.values_of-high.ensures c.values_of-low.ensures
    (sym c.are_digits.ensures ∙ c.if-are_digits.true) (sym c.are_digits-then-are_digits.ensures ∙ c.if-are_digits-2.true)
    c.store.ensures
    )
