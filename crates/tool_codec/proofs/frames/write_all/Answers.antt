use Rattle.std.proofs.Common.{◌≤◌, ◌<◌, length, take, ap, sym, subst, arith, rules}
use Rattle.std.specs.Io.KnownBytes.{Consumes}
use Rattle.std.proofs.KnownBytes.{Keeps-refl}
use Rattle.tool_codec.proofs.Framing.{begins, breaks_between, breaks_piece, ends, breaks_at_end, breaks_off, follows_on, on_err}
use Rattle.tool_codec.proofs.frames.write_all.Goals as goal

pub loop-turn-init : goal.loop-turn-init
loop-turn-init g c = begins c.args.form c.args.marks _ _ c.new-sending.result c.new-sending.ensures.text c.new-sending.ensures.goes_on c.new-sending.ensures.empty

pub returns-in_err-count-clause-err : goal.returns-in_err-count-clause-err
returns-in_err-count-clause-err g c =
    on_err c.from_residual.result
    (breaks_between c.args.form c.args.marks _ _ _ _ _ c.loop-turn._turn c.loop-turn.sending c.loop-turn.invariant (omega (arith, c.loop-turn-test.true)) c.in_err-count.ensures.err)

pub returns-in_err-end-clause-err : goal.returns-in_err-end-clause-err
returns-in_err-end-clause-err g c =
    let room = c.get.new.room in
    let short : length (take c.in_ok-count.count room) ≤ 4096 = search rules in
    on_err c.from_residual-in_err-end.result
    (breaks_piece c.args.form c.args.marks _ _ _ _ _ c.loop-turn._turn (take c.in_ok-count.count room) c.loop-turn.sending c.loop-turn.invariant c.loop-turn-test.true short
    c.in_ok-count.ensures.ok)

pub returns-in_err-write-clause-err : goal.returns-in_err-write-clause-err
returns-in_err-write-clause-err g c =
    let room = c.get.new.room in
    on_err c.from_residual-in_err-write.result
    (breaks_at_end c.args.form c.args.marks _ _ _ _ _ _ c.loop-turn._turn (take c.in_ok-count.count room) c.loop-turn.sending c.end.new.self c.loop-turn.invariant
    (omega (arith, c.loop-turn-test.true)) c.in_ok-count.ensures.ok (ap (λ n. take n room) c.if-count-eq0.true) c.in_ok-end.ensures c.in_err-write.ensures.front)

pub returns-then-count-eq0-clause-ok : goal.returns-then-count-eq0-clause-ok
returns-then-count-eq0-clause-ok g c =
    let room = c.get.new.room in
    let some : 0 < length room = search rules in
    ends c.args.form c.args.marks _ _ _ _ _ _ c.loop-turn._turn (take c.in_ok-count.count room) c.loop-turn.sending c.end.new.self c.loop-turn.invariant
    (omega (arith, c.loop-turn-test.true)) c.in_ok-count.ensures.ok (ap (λ n. take n room) c.if-count-eq0.true) (c.in_ok-count.ensures.end c.if-count-eq0.true some)
    c.in_ok-end.ensures c.in_ok-write.ensures.ok

pub returns-in_err-piece-clause-err : goal.returns-in_err-piece-clause-err
returns-in_err-piece-clause-err g c =
    let octets = c.split_at.result.0.now in
    let short : length octets ≤ 4096 = search rules in
    let read = subst (λ l. Consumes (g.R.Read.remaining c.loop-turn.reader) (g.R.Read.remaining c.get.new.reader) l) (sym c.split_at.ensures.front) c.in_ok-count.ensures.ok in
    on_err c.from_residual-in_err-piece.result
    (breaks_piece c.args.form c.args.marks _ _ _ _ _ c.loop-turn._turn octets c.loop-turn.sending c.loop-turn.invariant c.loop-turn-test.true short read)

pub returns-in_err-write-2-clause-err : goal.returns-in_err-write-2-clause-err
returns-in_err-write-2-clause-err g c =
    let octets = c.split_at.result.0.now in
    let short : length octets ≤ 4096 = search rules in
    let read = subst (λ l. Consumes (g.R.Read.remaining c.loop-turn.reader) (g.R.Read.remaining c.get.new.reader) l) (sym c.split_at.ensures.front) c.in_ok-count.ensures.ok in
    on_err c.from_residual-in_err-write-2.result
    (breaks_off c.args.form c.args.marks _ _ _ _ _ _ c.loop-turn._turn octets c.loop-turn.sending c.piece.new.self c.loop-turn.invariant c.loop-turn-test.true short read
    c.in_ok-piece.ensures c.in_err-write-2.ensures.front)

pub loop-turn-preserved : goal.loop-turn-preserved
loop-turn-preserved g c =
    let octets = c.split_at.result.0.now in
    let short : length octets ≤ 4096 = search rules in
    let read = subst (λ l. Consumes (g.R.Read.remaining c.loop-turn.reader) (g.R.Read.remaining c.get.new.reader) l) (sym c.split_at.ensures.front) c.in_ok-count.ensures.ok in
    follows_on c.args.form c.args.marks _ _ _ _ _ _ c.loop-turn._turn octets c.loop-turn.sending c.piece.new.self c.write-in-loop-turn.new.self c.loop-turn.invariant short read
    c.in_ok-piece.ensures c.in_ok-write-2.ensures.ok c.in_ok-write-2.ensures.sender c.in_ok-write-2.ensures.framer c.in_ok-write-2.ensures.empty

pub returns-clause-err : goal.returns-clause-err
returns-clause-err g c = breaks_between c.args.form c.args.marks _ _ _ _ _ c.loop-turn._turn c.loop-turn.sending c.loop-turn.invariant c.loop-turn.auto._turn-end (Keeps-refl _)
