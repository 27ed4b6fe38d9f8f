use Rattle.std.proofs.Common.{◌≡◌, ◌++◌, ◌∷◌, [], ◌+◌, ◌-◌, ◌<◌, ℕ, List, length, slice_get, Some, arith, rules, ap, ◌∙◌}
use Rattle.ftp_reply.specs.Lines.{joined}
use Rattle.ftp_reply.specs.Reply.{padded, last_line, written}
use Rattle.ftp_reply.proofs.WritingLemmas.{wrote_more, wrote_last, on_err, end_ok, end_err, kept_part, more_part}
use Rattle.ftp_reply.proofs.writing.put_lines.Goals as goal

pub returns-in_err-push-clause-err : goal.returns-in_err-push-clause-err
returns-in_err-push-clause-err g c =
    let kept : c.push.new.self.items ≡ c.loop-i.out.items = search rules in
    on_err _ (kept_part _ _ _ _ _ _ c.loop-i.invariant kept)

pub returns-in_err-put_padded-clause-err : goal.returns-in_err-put_padded-clause-err
returns-in_err-put_padded-clause-err g c =
    let lf : c.push.new.self.items ≡ c.loop-i.out.items ++ 10 ∷ [] = search rules in
    let more = c.in_err-put_padded.ensures.err in
    on_err _ (more_part _ _ _ _ _ _ c.loop-i.invariant (more.0, rw lf at more.1))

pub loop-i-preserved : goal.loop-i-preserved
loop-i-preserved g c =
    let lf : c.push.new.self.items ≡ c.loop-i.out.items ++ 10 ∷ [] = search rules in
    let put : c.put_padded.new.out.items ≡ (c.loop-i.out.items ++ 10 ∷ []) ++ padded c.unwrap.result.now = search rules in
    let below : c.loop-i.i + 1 < length c.args.lines.now = omega arith in
    let line : slice_get c.args.lines.now c.loop-i.i ≡ Some c.unwrap.result.now = search rules in
    rw put (wrote_more _ _ _ _ _ _ below line c.loop-i.invariant)

pub returns-in_err-push-2-clause-err : goal.returns-in_err-push-2-clause-err
returns-in_err-push-2-clause-err g c =
    let kept : c.push-2.new.self.items ≡ c.loop-i.out.items = search rules in
    on_err _ (kept_part _ _ _ _ _ _ c.loop-i.invariant kept)

pub returns-clause-ok : goal.returns-clause-ok
returns-clause-ok g c =
    let lf : c.push-2.new.self.items ≡ c.loop-i.out.items ++ 10 ∷ [] = search rules in
    let end : c.loop-i.i + 1 ≡ length c.args.lines.now = omega arith in
    let same : c.loop-i.i ≡ c.len-last.result - 1 = omega arith in
    let line : slice_get c.args.lines.now (c.len-last.result - 1) ≡ Some c.unwrap-2.result.now = search rules in
    let last = wrote_last _ _ _ _ _ _ end (rw same line) c.loop-i.invariant in
    end_ok c.put_marked-3.result c.put_marked-3.new.out.items c.push-2.new.self.items (last_line c.args.code c.unwrap-2.result.now) (c.args.out.now.items ++ joined (written c.args.code c.args.lines.now))
    c.put_marked-3.ensures.ok (ap (λ (xs : List ℕ). xs ++ last_line c.args.code c.unwrap-2.result.now) lf ∙ last)

pub returns-clause-err : goal.returns-clause-err
returns-clause-err g c =
    let lf : c.push-2.new.self.items ≡ c.loop-i.out.items ++ 10 ∷ [] = search rules in
    end_err c.put_marked-3.result c.args.out.now.items c.loop-i.out.items c.push-2.new.self.items c.put_marked-3.new.out.items c.args.code c.args.lines.now c.loop-i.i c.loop-i.invariant lf c.put_marked-3.ensures.err
