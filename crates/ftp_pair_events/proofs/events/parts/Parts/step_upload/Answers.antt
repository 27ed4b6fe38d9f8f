use Rattle.std.proofs.Common.{ap, refl, sym, ◌∙◌, arith}
use Rattle.ftp_client_model.specs.Calls.{is_busy}
use Rattle.ftp_client_model.specs.Tries.{over_breaks}
use Rattle.ftp_pair_events.specs.events.Shown.{shown}
use Rattle.ftp_pair_events.proofs.events.Beginning.{busy_not, free_begins, linked_not, uploaded}
use Rattle.ftp_pair_events.proofs.events.Keeping.{none, fewer, then, at_most}
use Rattle.ftp_pair_events.proofs.events.parts.Parts.step_upload.Goals as goal

pub returns-clause-ok : goal.returns-clause-ok
returns-clause-ok g c calm =
    let served = c.finish.ensures.moved calm in
    let noted = c.note.ensures.moved served.0 in
    let free = c.start_upload.ensures.begun c.if-not-start_upload.false in
    let begun = free.1 noted.0 in (
      sym c.make_room.ensures.calm ∙ begun.0,
      λ read reads. uploaded read (over_breaks g.texts.0 g.texts.1 c.args.how) c.args.moment.seconds (shown g.N.Near.client g.F.Far.server c.args.self.now) (shown g.N.Near.client g.F.Far.server c.make_room.new.self)
          (shown g.N.Near.client g.F.Far.server c.start_upload.new.self) (shown g.N.Near.client g.F.Far.server c.note.new.self) (shown g.N.Near.client g.F.Far.server c.finish.new.self)
          (sym c.is_unlinked.ensures ∙ c.if-not-is_unlinked.false) c.make_room.ensures.same free.0 begun.1 noted.1 served.1,
    )

pub returns-then-not-is_unlinked-clause-ok : goal.returns-then-not-is_unlinked-clause-ok
returns-then-not-is_unlinked-clause-ok g c calm =
    (calm, λ read reads. (linked_not (shown g.N.Near.client g.F.Far.server c.args.self.now) (sym c.is_unlinked.ensures ∙ c.if-not-is_unlinked.true), refl))

pub returns-then-not-start_upload-clause-ok : goal.returns-then-not-start_upload-clause-ok
returns-then-not-start_upload-clause-ok g c calm =
    let busy = c.start_upload.ensures.busy c.if-not-start_upload.true in (
      sym c.make_room.ensures.calm ∙ sym busy.2 ∙ calm,
      λ read reads. (busy_not (shown g.N.Near.client g.F.Far.server c.args.self.now) (ap (λ w. is_busy w.near) (sym c.make_room.ensures.same) ∙ busy.0), busy.1 ∙ c.make_room.ensures.same),
    )

pub returns-then-not-is_unlinked-clause-counted : goal.returns-then-not-is_unlinked-clause-counted
returns-then-not-is_unlinked-clause-counted g c = none _ _ _

pub returns-in_err-marks-clause-counted : goal.returns-in_err-marks-clause-counted
returns-in_err-marks-clause-counted g c = fewer c.make_room.ensures.counted (omega arith)

pub returns-then-not-start_upload-clause-counted : goal.returns-then-not-start_upload-clause-counted
returns-then-not-start_upload-clause-counted g c = then c.make_room.ensures.counted c.start_upload.ensures.counted (omega arith)

pub returns-clause-counted : goal.returns-clause-counted
returns-clause-counted g c =
    let begun = then c.make_room.ensures.counted c.start_upload.ensures.counted (at_most 3) in
    let noted = then begun c.note.ensures.counted (at_most 6) in
    then noted c.finish.ensures.counted (omega arith)

pub returns-clause-possible : goal.returns-clause-possible
returns-clause-possible g c =
    sym (free_begins (shown g.N.Near.client g.F.Far.server c.args.self.now) (ap (λ w. is_busy w.near) (sym c.make_room.ensures.same) ∙ (c.start_upload.ensures.begun c.if-not-start_upload.false).0) (sym c.is_unlinked.ensures ∙ c.if-not-is_unlinked.false))

pub returns-then-not-is_unlinked-clause-possible : goal.returns-then-not-is_unlinked-clause-possible
returns-then-not-is_unlinked-clause-possible g c = sym (linked_not (shown g.N.Near.client g.F.Far.server c.args.self.now) (sym c.is_unlinked.ensures ∙ c.if-not-is_unlinked.true))

pub returns-then-not-start_upload-clause-possible : goal.returns-then-not-start_upload-clause-possible
returns-then-not-start_upload-clause-possible g c =
    sym (busy_not (shown g.N.Near.client g.F.Far.server c.args.self.now) (ap (λ w. is_busy w.near) (sym c.make_room.ensures.same) ∙ (c.start_upload.ensures.busy c.if-not-start_upload.true).0))

pub returns-then-not-start_upload-clause-idle : goal.returns-then-not-start_upload-clause-idle
returns-then-not-start_upload-clause-idle g c is =
    let busy = c.start_upload.ensures.busy c.if-not-start_upload.true in (busy.1 ∙ c.make_room.ensures.same, busy.2 ∙ c.make_room.ensures.calm)
