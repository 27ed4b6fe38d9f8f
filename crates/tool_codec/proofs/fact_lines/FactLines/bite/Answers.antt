use Rattle.std.proofs.Common.{◌++◌, ◌∷◌, ◌∙◌, [], ap, sym, subst, append_assoc}
use Rattle.std.specs.Str.Lines.{lines}
use Rattle.tool_codec.proofs.FactAnswering.{stands-kept, stands_front, bites_failed, take-ended}
use Rattle.tool_codec.specs.FactLines.{AnswersFront, line_feed}
use Rattle.tool_codec.specs.FactHearing.{StandsAfter}
use Rattle.tool_codec.proofs.fact_lines.FactLines.bite.Goals as goal

pub returns-in_err-keep-clause-stands : goal.returns-in_err-keep-clause-stands
returns-in_err-keep-clause-stands g c octets before stands =
    bites_failed octets c.args.piece.now before _ c.from_residual.result c.keep.new.self c.from_residual.ensures.0
    (stands_front octets c.args.piece.now before _ c.args.self.now stands)

pub returns-in_err-keep-2-clause-stands : goal.returns-in_err-keep-2-clause-stands
returns-in_err-keep-2-clause-stands g c octets before stands =
    bites_failed octets c.args.piece.now before _ c.from_residual-in_err-keep-2.result c.keep-2.new.self c.from_residual-in_err-keep-2.ensures.0
    (stands_front octets c.args.piece.now before _ c.args.self.now stands)

pub returns-in_err-end_line-clause-stands : goal.returns-in_err-end_line-clause-stands
returns-in_err-end_line-clause-stands g c octets before stands =
    let contents = g.W.Write.contents in
    let front = c.in-Some.front.now in
    let back = c.in-Some.field-0-1.now in
    let kept = stands-kept octets front before (contents c.args.writer.now) c.args.self.now c.keep-2.new.self stands
    c.in-Some.ensures.first c.in_ok-keep-2.ensures.line c.in_ok-keep-2.ensures.faulty in
    let broken = c.in_err-end_line.ensures (octets ++ front) before kept back in
    let whole = append_assoc octets front (line_feed ∷ back) ∙ ap (λ l. octets ++ l) (sym c.in-Some.ensures.some) in
    bites_failed octets c.args.piece.now before _ c.from_residual-in_err-end_line.result c.end_line.new.self c.from_residual-in_err-end_line.ensures.0
    (subst (λ l. AnswersFront g.row.A.Denot (lines l) before (contents c.end_line.new.writer)) whole broken)

pub returns-clause-stands : goal.returns-clause-stands
returns-clause-stands g c octets before stands =
    let contents = g.W.Write.contents in
    let front = c.in-Some.front.now in
    let back = c.in-Some.field-0-1.now in
    let kept = stands-kept octets front before (contents c.args.writer.now) c.args.self.now c.keep-2.new.self stands
    c.in-Some.ensures.first c.in_ok-keep-2.ensures.line c.in_ok-keep-2.ensures.faulty in
    let ended = c.in_ok-end_line.ensures (octets ++ front) before kept in
    let same = append_assoc octets front (line_feed ∷ []) ∙ ap (λ l. octets ++ l) (sym (take-ended c.args.piece.now front back c.in-Some.ensures.some)) in
    subst (λ l. StandsAfter l before (contents c.end_line.new.writer) c.end_line.new.self) same ended
