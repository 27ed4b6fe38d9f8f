use Rattle.std.proofs.Common.{◌≡◌, ◌≤◌, ◌<◌, ◌^◌, ◌∙◌, ◌++◌, true, length, sym, subst, arith, rules}
use Rattle.std.specs.Prelude.{◌==◌}
use Rattle.std.specs.Io.KnownBytes.{Consumes, IsAtEnd}
use Rattle.std.proofs.KnownBytes.{Keeps-refl}
use Rattle.std.proofs.lemmas.Bool.{eqb-true}
use Rattle.tool_codec.proofs.WireFollowing.{wire_breaks_between, wire_breaks_piece, wire_breaks_off, wire_goes_on, wire_ends, wire_faulty, reads_failed}
use Rattle.tool_codec.specs.Receiving.{HearsAfter}
use Rattle.tool_codec.proofs.receiving.write_file.Goals as goal

pub returns-in_err-count : goal.returns-in_err-count
returns-in_err-count g c =
    reads_failed c.args.form _ _ _ _ c.from_residual.result c.from_residual.ensures.0
    (wire_breaks_between c.args.form _ _ _ _ _ c.loop-turn._turn c.loop-turn.receiving c.loop-turn.invariant (omega (arith, c.loop-turn-test.true)) c.in_err-count.ensures.err)

pub returns-in_err-heard : goal.returns-in_err-heard
returns-in_err-heard g c =
    let octets = c.split_at.result.0.now in
    let few : length octets ≤ 4096 = search rules in
    let read = subst (λ l. Consumes (g.R.Read.remaining c.loop-turn.reader) (g.R.Read.remaining c.get.new.reader) l) (sym c.split_at.ensures.front) c.in_ok-count.ensures.ok in
    reads_failed c.args.form _ _ _ _ c.from_residual-in_err-heard.result c.from_residual-in_err-heard.ensures.0
    (wire_breaks_piece c.args.form _ _ _ _ _ c.loop-turn._turn octets c.loop-turn.receiving c.loop-turn.invariant c.loop-turn-test.true few read)

pub returns-in_err-write : goal.returns-in_err-write
returns-in_err-write g c =
    let octets = c.split_at.result.0.now in
    let few : length octets ≤ 4096 = search rules in
    let some : 0 < length c.get.new.room = search rules in
    let read = subst (λ l. Consumes (g.R.Read.remaining c.loop-turn.reader) (g.R.Read.remaining c.get.new.reader) l) (sym c.split_at.ensures.front) c.in_ok-count.ensures.ok in
    let end : (length octets == 0) ≡ true → IsAtEnd (g.R.Read.remaining c.get.new.reader) =
    λ e. c.in_ok-count.ensures.end (sym c.split_at.ensures.front_len ∙ eqb-true (length octets) 0 e) some in
    let follows = c.loop-turn.invariant in
    let short = follows.short in
    let fits : length follows.wire < 2 ^ 64 = omega (arith, short, c.loop-turn-test.true) in
    let hears = c.in_ok-heard.ensures.ok c.args.form follows.wire follows.written fits follows.stands in
    reads_failed c.args.form _ _ _ _ c.from_residual-in_err-write.result c.from_residual-in_err-write.ensures.0
    (wire_breaks_off c.args.form _ _ _ _ _ _ c.loop-turn._turn octets (length octets == 0) c.loop-turn.receiving c.next.new.self c.in_ok-heard.heard follows c.loop-turn-test.true few read end hears c.in_err-write.ensures.front)

pub returns-in-Whole : goal.returns-in-Whole
returns-in-Whole g c =
    let octets = c.split_at.result.0.now in
    let few : length octets ≤ 4096 = search rules in
    let some : 0 < length c.get.new.room = search rules in
    let read = subst (λ l. Consumes (g.R.Read.remaining c.loop-turn.reader) (g.R.Read.remaining c.get.new.reader) l) (sym c.split_at.ensures.front) c.in_ok-count.ensures.ok in
    let end : (length octets == 0) ≡ true → IsAtEnd (g.R.Read.remaining c.get.new.reader) =
    λ e. c.in_ok-count.ensures.end (sym c.split_at.ensures.front_len ∙ eqb-true (length octets) 0 e) some in
    let follows = c.loop-turn.invariant in
    let short = follows.short in
    let fits : length follows.wire < 2 ^ 64 = omega (arith, short, c.loop-turn-test.true) in
    let hears = subst (λ h. HearsAfter c.args.form (follows.wire ++ octets) follows.written (length octets == 0) h c.next.new.self) c.in-Whole.is
    (c.in_ok-heard.ensures.ok c.args.form follows.wire follows.written fits follows.stands) in
    wire_ends c.args.form _ _ _ _ _ _ c.loop-turn._turn octets (length octets == 0) c.loop-turn.receiving c.next.new.self follows c.loop-turn-test.true few read end hears c.in_ok-write.ensures.ok

pub returns-in-Faulty : goal.returns-in-Faulty
returns-in-Faulty g c =
    let octets = c.split_at.result.0.now in
    let few : length octets ≤ 4096 = search rules in
    let some : 0 < length c.get.new.room = search rules in
    let read = subst (λ l. Consumes (g.R.Read.remaining c.loop-turn.reader) (g.R.Read.remaining c.get.new.reader) l) (sym c.split_at.ensures.front) c.in_ok-count.ensures.ok in
    let end : (length octets == 0) ≡ true → IsAtEnd (g.R.Read.remaining c.get.new.reader) =
    λ e. c.in_ok-count.ensures.end (sym c.split_at.ensures.front_len ∙ eqb-true (length octets) 0 e) some in
    let follows = c.loop-turn.invariant in
    let short = follows.short in
    let fits : length follows.wire < 2 ^ 64 = omega (arith, short, c.loop-turn-test.true) in
    let hears = subst (λ h. HearsAfter c.args.form (follows.wire ++ octets) follows.written (length octets == 0) h c.next.new.self) c.in-Faulty.is
    (c.in_ok-heard.ensures.ok c.args.form follows.wire follows.written fits follows.stands) in
    wire_faulty c.args.form _ _ _ _ _ _ c.loop-turn._turn octets (length octets == 0) c.loop-turn.receiving c.next.new.self c.in-Faulty.fault follows c.loop-turn-test.true few read end hears c.in_ok-write.ensures.ok

pub loop-turn-preserved : goal.loop-turn-preserved
loop-turn-preserved g c =
    let octets = c.split_at.result.0.now in
    let few : length octets ≤ 4096 = search rules in
    let read = subst (λ l. Consumes (g.R.Read.remaining c.loop-turn.reader) (g.R.Read.remaining c.get.new.reader) l) (sym c.split_at.ensures.front) c.in_ok-count.ensures.ok in
    let follows = c.loop-turn.invariant in
    let short = follows.short in
    let fits : length follows.wire < 2 ^ 64 = omega (arith, short, c.loop-turn-test.true) in
    let stands = subst (λ h. HearsAfter c.args.form (follows.wire ++ octets) follows.written (length octets == 0) h c.next.new.self) c.in-More.is
    (c.in_ok-heard.ensures.ok c.args.form follows.wire follows.written fits follows.stands) in
    wire_goes_on c.args.form _ _ _ _ _ _ c.loop-turn._turn octets c.loop-turn.receiving c.next.new.self c.write.new.self follows few read stands
    c.in_ok-write.ensures.ok c.in_ok-write.ensures.deframer c.in_ok-write.ensures.receiver c.in_ok-write.ensures.empty

pub returns : goal.returns
returns g c = wire_breaks_between c.args.form _ _ _ _ _ c.loop-turn._turn c.loop-turn.receiving c.loop-turn.invariant c.loop-turn.auto._turn-end (Keeps-refl _)
