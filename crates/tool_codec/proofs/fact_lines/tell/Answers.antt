use Rattle.std.proofs.Common.{[], ◌∷◌, subst}
use Rattle.tool_codec.proofs.FactAnswering.{front-one, told_failed}
use Rattle.ftp_ports.specs.Beginning.{AppendsFront}
use Rattle.tool_codec.proofs.fact_lines.tell.Goals as goal

pub returns-in_err-put : goal.returns-in_err-put
returns-in_err-put g c =
    let contents = g.W.Write.contents in
    let answer = c.in_ok-answer.answer in
    let front = subst (λ l. AppendsFront (contents c.args.writer.now) (contents c.put.new.writer) l) c.as_slice.ensures.value c.in_err-put.ensures.front in
    told_failed g.row.A.Denot (c.args.line.now ∷ []) _ _ c.from_residual-in_err-put.result c.from_residual-in_err-put.ensures.0
    (front-one g.row.A.Denot c.args.line.now answer.faulty answer.text.items _ _ c.in_ok-answer.ensures front)
