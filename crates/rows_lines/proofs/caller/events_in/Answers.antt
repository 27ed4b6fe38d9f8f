use Rattle.std.proofs.Common.{arith, length, length-append, List, ◌++◌, ◌≡◌, ap, refl, ℕ}
use Rattle.ftp_nvt.specs.Ear.{event_list, lent_line}
use Rattle.ftp_nvt.specs.declared.event.Event.{Event}
use Rattle.ftp_nvt.specs.declared.event.Event.TheVariants.{More, Line, TooLong, Owed}
use Rattle.ftp_nvt.proofs.EarLemmas.{Hears-rest}
use Rattle.rows_lines.proofs.caller.events_in.Goals as goal

none : (event : Event) (text : List ℕ) → event ≡ More → length (event_list event text) ≡ 0
none event text is = ap (λ e. length (event_list e text)) is

one : (event : Event) (text : List ℕ) → (event ≡ More → ⊥) → length (event_list event text) ≡ 1
one More text not = absurd (not refl)
one Line text not = refl
one TooLong text not = refl
one (Owed answer) text not = refl

pub loop-taken-preserved-in-More : goal.loop-taken-preserved-in-More
loop-taken-preserved-in-More g c =
    let loop = c.loop-taken in
    let feed = c.feed-heard in
    let added = event_list feed.result.event (lent_line feed.new.self) in
    let before = loop.invariant.heard in
    record {
      within = omega (arith, feed.ensures.within, c.split_at.ensures.back_len, loop.invariant.within);
      few = omega (arith, loop.invariant.few);
      heard = (
        before.0 ++ added,
        omega (arith, length-append before.0 added, before.1, none feed.result.event (lent_line feed.new.self) c.in-More.is),
        Hears-rest c.args.ear.now loop.ear feed.new.self c.args.piece.now c.split_at.result.1.now loop.taken feed.result.taken before.0 added c.split_at.ensures.back before.2 feed.ensures.hears,
      );
    }

pub loop-taken-preserved : goal.loop-taken-preserved
loop-taken-preserved g c =
    let loop = c.loop-taken in
    let feed = c.feed-heard in
    let added = event_list feed.result.event (lent_line feed.new.self) in
    let before = loop.invariant.heard in
    record {
      within = omega (arith, feed.ensures.within, c.split_at.ensures.back_len, loop.invariant.within);
      few = omega (arith, loop.invariant.few, loop.invariant.within, feed.ensures.some, c.split_at.ensures.back_len, c.loop-taken-test.true);
      heard = (
        before.0 ++ added,
        omega (arith, length-append before.0 added, before.1, one feed.result.event (lent_line feed.new.self) c.in_default.not-More),
        Hears-rest c.args.ear.now loop.ear feed.new.self c.args.piece.now c.split_at.result.1.now loop.taken feed.result.taken before.0 added c.split_at.ensures.back before.2 feed.ensures.hears,
      );
    }
