use Rattle.std.proofs.Common.{◌≡◌, ◌<◌, length, drop, get_or, arith, sym, ap, subst, ℕ, List}
use Rattle.ftp_reply.specs.Lines.{lines_at}
use Rattle.ftp_reply.proofs.LinesLemmas.{line_here, lines_behind}
use Rattle.ftp_reply.proofs.lines.Lines.get.Goals as goal

pub loop-i-preserved : goal.loop-i-preserved
loop-i-preserved g c =
    let lens = c.self.inside.lens.items in
    let lines = lines_at c.self.inside.buffer.items lens in
    let behind = lines_behind lens lines c.loop-i.rest.now c.loop-i.i (omega arith) c.loop-i.invariant in
    let len : get_or c.as_slice.result.now c.loop-i.i 0 ≡ get_or lens c.loop-i.i 0 = ap (λ (ns : List ℕ). get_or ns c.loop-i.i 0) c.as_slice.ensures.value in
    rw (c.cut.ensures.rest, len) behind

pub returns-clause-text : goal.returns-clause-text
returns-clause-text g c =
    let lens = c.self.inside.lens.items in
    let lines = lines_at c.self.inside.buffer.items lens in
    let here_is : c.loop-i.i ≡ c.args.index = omega arith in
    let rest : lines_at c.loop-i.rest.now (drop c.args.index lens) ≡ drop c.args.index lines = subst (λ (i : ℕ). lines_at c.loop-i.rest.now (drop i lens) ≡ drop i lines) here_is c.loop-i.invariant in
    let below : c.args.index < length lens = omega arith in
    let here = line_here lens lines c.loop-i.rest.now c.args.index below rest in
    let len : get_or c.as_slice-2.result.now c.args.index 0 ≡ get_or lens c.args.index 0 = ap (λ (ns : List ℕ). get_or ns c.args.index 0) c.as_slice-2.ensures.value in
    rw (c.cut-2.ensures.line, len, ← c.self.view_is) (sym here)
