use Rattle.std.proofs.Common.{◌<◌, length, subst, sym, ap, take, arith}
use Rattle.std.specs.Io.KnownBytes.{Consumes}
use Rattle.std.proofs.KnownBytes.{Keeps-refl}
use Rattle.tool_codec.proofs.FactTelling.{facts_go_on, facts_end, facts_failed, facts_break, facts_break_between}
use Rattle.tool_codec.proofs.fact_lines.tell_all.Goals as goal

pub returns-in_err-count : goal.returns-in_err-count
returns-in_err-count g c =
    facts_failed g.row.A.Denot _ _ _ _ c.from_residual.result c.from_residual.ensures.0
    (facts_break_between _ _ _ _ _ c.loop.kept c.loop.invariant c.in_err-count.ensures.err)

pub returns-then-count-eq0 : goal.returns-then-count-eq0
returns-then-count-eq0 g c =
    let contents = g.W.Write.contents in
    let old = contents c.args.writer.now in
    let follows = c.loop.invariant in
    let room = c.get.new.room in
    let some : 0 < length room = omega (arith, c.get.auto.room, c.split_at_mut-room.ensures.front_len) in
    facts_end _ _ _ old _ _ (take c.in_ok-count.count room) c.loop.kept c.end.result follows c.in_ok-count.ensures.ok
    (ap (λ n. take n room) c.if-count-eq0.true) (c.in_ok-count.ensures.end c.if-count-eq0.true some)
    (c.end.ensures follows.octets old follows.stands)

pub returns : goal.returns
returns g c = facts_break_between _ _ _ _ _ c.loop.kept c.loop.invariant (Keeps-refl _)

pub returns-in_err-hear : goal.returns-in_err-hear
returns-in_err-hear g c =
    let contents = g.W.Write.contents in
    let remaining = g.R.Read.remaining in
    let old = contents c.args.writer.now in
    let follows = c.loop.invariant in
    let octets = c.split_at.result.0.now in
    let read = subst (λ l. Consumes (remaining c.loop.reader) (remaining c.get.new.reader) l) (sym c.split_at.ensures.front) c.in_ok-count.ensures.ok in
    facts_failed g.row.A.Denot _ _ _ _ c.from_residual-in_err-hear.result c.from_residual-in_err-hear.ensures.0
    (facts_break _ _ _ old _ _ octets c.loop.kept follows read (c.in_err-hear.ensures follows.octets old follows.stands))

pub loop-preserved : goal.loop-preserved
loop-preserved g c =
    let contents = g.W.Write.contents in
    let remaining = g.R.Read.remaining in
    let old = contents c.args.writer.now in
    let follows = c.loop.invariant in
    let octets = c.split_at.result.0.now in
    let read = subst (λ l. Consumes (remaining c.loop.reader) (remaining c.get.new.reader) l) (sym c.split_at.ensures.front) c.in_ok-count.ensures.ok in
    facts_go_on _ _ _ old _ _ octets c.loop.kept c.hear.new.self follows read (c.in_ok-hear.ensures follows.octets old follows.stands)
