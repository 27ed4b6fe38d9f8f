use Rattle.std.proofs.Common.{[], ◌∷◌, ◌∙◌, ap, sym, subst, length, Ok}
use Rattle.std.specs.Prelude.{◌==◌}
use Rattle.std.specs.Str.Lines.{lines}
use Rattle.tool_codec.proofs.FactAnswering.{told_ended, told_last, last_front, told_failed}
use Rattle.tool_codec.specs.FactLines.{AnswersFront}
use Rattle.tool_codec.specs.FactHearing.{Told}
use Rattle.tool_codec.proofs.fact_lines.FactLines.end.Goals as goal

pub returns-then-is_empty : goal.returns-then-is_empty
returns-then-is_empty g c octets before stands =
    let none = ap (λ l. length l == 0) (sym c.as_slice-line.ensures.value) ∙ sym c.is_empty.ensures ∙ c.if-is_empty.true in
    told_ended octets before _ c.args.self.now stands none

pub returns-in_err-faulty : goal.returns-in_err-faulty
returns-in_err-faulty g c octets before stands =
    let contents = g.W.Write.contents in
    let some = ap (λ l. length l == 0) (sym c.as_slice-line.ensures.value) ∙ sym c.is_empty.ensures ∙ c.if-is_empty.false in
    let front = subst (λ l. AnswersFront g.row.A.Denot (l ∷ []) (contents c.args.writer.now) (contents c.tell.new.writer)) c.as_slice-line.ensures.value c.in_err-faulty.ensures in
    told_failed g.row.A.Denot (lines octets) before _ c.from_residual.result c.from_residual.ensures.0 (last_front octets before _ _ c.args.self.now stands some front)

pub returns : goal.returns
returns g c octets before stands =
    let contents = g.W.Write.contents in
    let faulty = c.in_ok-faulty.faulty in
    let some = ap (λ l. length l == 0) (sym c.as_slice-line.ensures.value) ∙ sym c.is_empty.ensures ∙ c.if-is_empty.false in
    let told = subst (λ l. Told g.row.A.Denot (l ∷ []) (contents c.args.writer.now) (contents c.tell.new.writer) (Ok faulty)) c.as_slice-line.ensures.value c.in_ok-faulty.ensures in
    subst (λ b. Told g.row.A.Denot (lines octets) before (contents c.tell.new.writer) (Ok b)) (sym c.either.ensures)
    (told_last octets before _ _ c.args.self.now faulty stands some told)
