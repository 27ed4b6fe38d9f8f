use Rattle.std.proofs.Common.{[], ◌∷◌, ◌∙◌, ap, subst, Ok}
use Rattle.std.specs.Str.Lines.{strip_carriage_return}
use Rattle.tool_codec.proofs.FactAnswering.{stands-ended, ended_front, line_failed}
use Rattle.tool_codec.specs.FactLines.{AnswersFront}
use Rattle.tool_codec.specs.FactHearing.{Told}
use Rattle.tool_codec.proofs.fact_lines.FactLines.end_line.Goals as goal

pub returns-in_err-faulty : goal.returns-in_err-faulty
returns-in_err-faulty g c octets before stands =
    let contents = g.W.Write.contents in
    let same = c.without_return.ensures ∙ ap strip_carriage_return c.as_slice.ensures.value in
    let front = subst (λ l. AnswersFront g.row.A.Denot (l ∷ []) (contents c.args.writer.now) (contents c.tell.new.writer)) same c.in_err-faulty.ensures in
    line_failed octets before _ c.from_residual.result c.args.self.now c.from_residual.ensures.0 (λ more. ended_front octets more before _ _ c.args.self.now stands front)

pub returns : goal.returns
returns g c octets before stands =
    let contents = g.W.Write.contents in
    let faulty = c.in_ok-faulty.faulty in
    let same = c.without_return.ensures ∙ ap strip_carriage_return c.as_slice.ensures.value in
    let told = subst (λ l. Told g.row.A.Denot (l ∷ []) (contents c.args.writer.now) (contents c.tell.new.writer) (Ok faulty)) same c.in_ok-faulty.ensures in
    stands-ended octets before _ _ c.args.self.now _ faulty stands told c.clear.ensures.items c.either-self.ensures
