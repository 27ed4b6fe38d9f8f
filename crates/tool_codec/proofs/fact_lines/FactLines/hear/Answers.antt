use Rattle.std.proofs.Common.{◌∙◌, ◌++◌, ap, sym, subst, take, append_assoc, rules}
use Rattle.std.proofs.Math.Seq.{take-add}
use Rattle.std.proofs.lemmas.List.{take-append-drop}
use Rattle.std.specs.Str.Lines.{lines}
use Rattle.tool_codec.proofs.FactAnswering.{hears_failed}
use Rattle.tool_codec.specs.FactLines.{AnswersFront}
use Rattle.tool_codec.specs.FactHearing.{StandsAfter}
use Rattle.tool_codec.proofs.fact_lines.FactLines.hear.Goals as goal

pub loop-at-preserved : goal.loop-at-preserved
loop-at-preserved g c =
    let contents = g.W.Write.contents in
    let piece = c.args.piece.now in
    let rest = c.split_at.result.1.now in
    let at = c.loop-at.at in
    let count = c.in_ok-at.field-0 in
    record {
      within = search rules;
      stands = λ octets before stands.
          let bitten = c.in_ok-at.ensures.stands (octets ++ take at piece) before (c.loop-at.invariant.stands octets before stands) in
          let same = append_assoc octets (take at piece) (take count rest)
          ∙ ap (λ l. octets ++ (take at piece ++ take count l)) c.split_at.ensures.back
          ∙ ap (λ l. octets ++ l) (sym (take-add at count piece)) in
          subst (λ l. StandsAfter l before (contents c.bite.new.writer) c.bite.new.self) same bitten;
    }

pub returns-in_err-at : goal.returns-in_err-at
returns-in_err-at g c octets before stands =
    let contents = g.W.Write.contents in
    let piece = c.args.piece.now in
    let at = c.loop-at.at in
    let broken = c.in_err-at.ensures.stands (octets ++ take at piece) before (c.loop-at.invariant.stands octets before stands) in
    let whole = append_assoc octets (take at piece) c.split_at.result.1.now
    ∙ ap (λ l. octets ++ (take at piece ++ l)) c.split_at.ensures.back
    ∙ ap (λ l. octets ++ l) (take-append-drop at piece) in
    hears_failed octets piece before _ c.from_residual.result c.bite.new.self c.from_residual.ensures.0
    (subst (λ l. AnswersFront g.row.A.Denot (lines l) before (contents c.bite.new.writer)) whole broken)
