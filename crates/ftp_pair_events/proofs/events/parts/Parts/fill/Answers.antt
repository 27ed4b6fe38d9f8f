use Rattle.std.proofs.Common.{◌∙◌, ◌≡◌, ◌≤◌, ◌<◌, ◌+◌, ◌-◌, ◌*◌, ℕ, refl, arith}
use Rattle.ftp_pair_events.specs.events.Shown.{shown, queue_of, len_of}
use Rattle.ftp_pair_events.proofs.events.Keeping.{fewer, none, then}
use Rattle.ftp_pair_events.proofs.events.Filling.{goes_on, none_so, none_due, all_there, none_given, len_is}
use Rattle.ftp_pair_events.proofs.events.parts.Parts.fill.Goals as goal

-- a call that gave some octets, with room for them
some_more : (count len gave new : ℕ) → new ≡ len + gave → 0 < gave → len + gave ≤ count → 3 * (count - (count - len)) + 3 ≤ 3 * (count - (count - new))
some_more count len gave new is some room = omega (arith, is, some, room)

pub loop-self-preserved : goal.loop-self-preserved
loop-self-preserved g c = record {
  so = λ calm.
      let mid = shown g.N.Near.client g.F.Far.server c.loop-self.self in
      let new = shown g.N.Near.client g.F.Far.server c.pull.new.self in
      let old = shown g.N.Near.client g.F.Far.server c.args.self.now in
      let moved = c.pull.ensures.moved calm in
      let gives = c.pull.ensures.gives calm in
      let so = c.loop-self.invariant.so moved.0 in (
        so.0,
        goes_on (queue_of c.args.queue) c.args.count c.len_of-in-loop-self.result c.min-most.result c.pull.result old mid new so.1 moved.1
            (c.len_of-in-loop-self.ensures ∙ len_is g.N.Near.client g.F.Far.server c.args.queue c.loop-self.self) (omega (arith, c.loop-self-test.true, c.len_of.ensures, c.len_of-in-loop-self.ensures)) c.min-most.ensures gives.1 c.if-owes.ensures,
      );
  taken = c.pull.ensures.taken ∙ c.loop-self.invariant.taken;
  report = λ had. c.pull.ensures.report (c.loop-self.invariant.report had);
  counted = then c.loop-self.invariant.counted c.pull.ensures.counted
      (some_more c.args.count (len_of c.args.queue c.loop-self.self) c.pull.result (len_of c.args.queue c.pull.new.self) c.pull.ensures.len
      (omega (arith, c.if-pull-eq0.false)) (omega (arith, c.pull.ensures.within, c.min-most.ensures, c.len_of-in-loop-self.ensures, c.loop-self-test.true, c.len_of.ensures)));
  room = omega (arith, c.loop-self.invariant.room, c.pull.ensures.room);
}

pub returns-else-owes : goal.returns-else-owes
returns-else-owes g c = record {
  taken = c.loop-self.invariant.taken;
  report = c.loop-self.invariant.report;
  counted = fewer c.loop-self.invariant.counted (omega arith);
  filled = λ calm.
      let so = c.loop-self.invariant.so calm in
      (so.0, none_due (queue_of c.args.queue) c.args.count (shown g.N.Near.client g.F.Far.server c.args.self.now) (shown g.N.Near.client g.F.Far.server c.loop-self.self) so.1 c.if-owes.ensures);
}

pub returns-after-loop-self : goal.returns-after-loop-self
returns-after-loop-self g c = record {
  taken = c.loop-self.invariant.taken;
  report = c.loop-self.invariant.report;
  counted = fewer c.loop-self.invariant.counted (omega arith);
  filled = λ calm.
      let so = c.loop-self.invariant.so calm in (
        so.0,
        all_there (queue_of c.args.queue) c.args.count (shown g.N.Near.client g.F.Far.server c.args.self.now) (shown g.N.Near.client g.F.Far.server c.loop-self.self) so.1
            (let is = len_is g.N.Near.client g.F.Far.server c.args.queue c.loop-self.self in omega (arith, c.loop-self-test.false, c.len_of.ensures, is)),
      );
}

pub returns-then-pull-eq0-clause-filled : goal.returns-then-pull-eq0-clause-filled
returns-then-pull-eq0-clause-filled g c calm =
    let moved = c.pull.ensures.moved calm in
    let gives = c.pull.ensures.gives calm in
    let so = c.loop-self.invariant.so moved.0 in (
      so.0,
      none_given (queue_of c.args.queue) c.args.count c.len_of-in-loop-self.result c.min-most.result c.pull.result (shown g.N.Near.client g.F.Far.server c.args.self.now) (shown g.N.Near.client g.F.Far.server c.loop-self.self)
          (shown g.N.Near.client g.F.Far.server c.pull.new.self) (omega (arith, c.loop-self-test.true, c.len_of.ensures, c.len_of-in-loop-self.ensures)) c.min-most.ensures gives.1 c.if-owes.ensures c.if-pull-eq0.true,
    )

pub returns-then-pull-eq0-clause-counted : goal.returns-then-pull-eq0-clause-counted
returns-then-pull-eq0-clause-counted g c = then c.loop-self.invariant.counted c.pull.ensures.counted (omega arith)

pub loop-self-init : goal.loop-self-init
loop-self-init g c = record {
  so = λ calm. (calm, none_so (queue_of c.args.queue) c.args.count (shown g.N.Near.client g.F.Far.server c.args.self.now));
  taken = refl;
  report = λ had. had;
  counted = none _ _ _;
  room = c.requires.room;
}
