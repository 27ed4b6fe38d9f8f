-- A server that is told of a break after a client that sent ABOR was: a world tells both.
use Rattle.std.proofs.Common.{◌≡◌, ℕ, List, refl, sym, ap, subst, ◌∙◌}
use Rattle.ftp_ports.specs.Actions.{Calls, Action, Stand}
use Rattle.ftp_ports.specs.Channel.{Channel, with_fate}
use Rattle.ftp_ports.specs.Machine.{Break}
use Rattle.ftp_ports.specs.declared.whole.Fate.TheVariants as Fates
use Rattle.ftp_client_driver.specs.Side.{client_side}
use Rattle.ftp_client_model.specs.Calls.{data_fault, is_sound}
use Rattle.ftp_client_model.specs.View.{View as Near}
use Rattle.ftp_ends.specs.declared.link.Wants.TheVariants as Want
use Rattle.ftp_server_driver.specs.alone.Side.{server_side}
use Rattle.ftp_server_model.specs.Calls as far
use Rattle.ftp_server_model.specs.Machine.{IsReading, Reading}
use Rattle.ftp_server_model.specs.View.{View as Far}
use Rattle.laws_world.specs.Claims.{Beginning, IsFair}
use Rattle.laws_world.specs.World.{Broken, Opened, World, marked_last}
use Rattle.laws_drivers.specs.control.Alone.{ServerIsCalm, reports_in}
use Rattle.laws_drivers.specs.control.Between.{Between, Can, Far as TheServer}
use Rattle.laws_drivers.specs.control.Touches.{ToldBreak}
use Rattle.laws_drivers.proofs.events.Holding.{both, is_called}
use Rattle.laws_drivers.proofs.events.Plain.{IsPlainBy, IsPlainly}
use Rattle.laws_drivers.proofs.events.Stands.{ServerServes}
use Rattle.laws_transfers.specs.Ahead.{Level}
use Rattle.laws_drivers.specs.events.Moments.{AreMoments, begun_at}
use Rattle.laws_transfers.proofs.Beside.{Together}
use Rattle.laws_transfers.proofs.Known.{AreCarried}
use Rattle.laws_transfers.proofs.Simulating.{known}
use Rattle.laws_breaks.proofs.downloads.Aborted.{Waits}
use Rattle.laws_breaks.proofs.downloads.BothBroken.{both_broken, level, none_there, told_is}
use Rattle.laws_breaks.proofs.downloads.Drained.{dried, dry}
use Rattle.laws_breaks.proofs.downloads.Dropping.{Drops, drops_near}
use Rattle.laws_breaks.proofs.downloads.Laden.{Laden, awaiting_laden}
use Rattle.laws_breaks.proofs.downloads.Lagging.{OfMarks, Whole, beside, unbroken}
use Rattle.laws_breaks.proofs.downloads.Preceding.{opened_at}
use Rattle.laws_breaks.proofs.downloads.Steps.{Again, both_again}
use Rattle.laws_breaks.proofs.downloads.Unsent.{Unsent}
use Rattle.laws_breaks.proofs.downloads.Untold.{told}

module _ (read : Reading) (reads : IsReading read) (moments : ℕ → ℕ) (timed : AreMoments moments) (b : Beginning) (fair : IsFair b) {Are : OfMarks}
    (actions : List (Action client_side)) (carried : AreCarried (begun_at moments actions)) (p q : Between) (count : ℕ) (old new : Stand server_side)
    (client : Stand client_side) (is : far.wants old.owner.end.server.view ≡ Want.Send) (calm : ServerIsCalm old.owner new.owner)
    (can : Can TheServer ToldBreak p q) (did : Calls {side = server_side} Break old new)
    (d : Drops read reads moments timed b fair Are actions p count (dried old) client) (waits : Waits d.at.world) where
  abbrev n : Near
  n = d.was.end.view

  abbrev w : World
  w = d.at.world

  abbrev was : Stand server_side
  was = dried old

  abbrev before : Stand client_side
  before = beside d.was client

  serves : ServerServes old.owner
  serves = record { running = d.at.serves.running; none_waits = d.at.serves.none_waits }

  -- its channel
  far_channel : new.owner.channel ≡ with_fate Fates.Broken old.owner.channel
  far_channel = did.0.1

  near_was : w.near ≡ n
  near_was = drops_near read reads moments timed b fair actions carried p count was client d

  laden : Laden w.near
  laden = awaiting_laden w.near waits.awaiting

  opened : w.link ≡ Opened
  opened = opened_at read reads moments timed b fair actions carried (unbroken p) count was before d.at is

  -- the client holds what one holds that was told
  told_view : client.owner.end.view ≡ told n
  told_view = d.view ∙ subst (λ (v : Near). data_fault v ≡ told v) near_was laden.stays

  both_are : Again read reads moments timed b fair actions q count (dried new) client (marked_last (Broken w.came) w.marks)
  both_are =
      let t = told_is old new serves calm is did in
      let known_now = known read reads moments timed b fair actions (unbroken p) count was before _ d.at carried in
      let at_level : Together read (begun_at moments actions) d.at.last Level (unbroken p) count was before (reports_in actions) w =
      subst (λ a. Together read (begun_at moments actions) d.at.last a (unbroken p) count was before (reports_in actions) w)
      (level read (begun_at moments actions) was before (reports_in actions) w d.at.serves is d.at.last d.at.ahead (unbroken p) count d.at.together)
      d.at.together in
      let there = none_there read (begun_at moments actions) was (dried new) before client (reports_in actions) w d.at.serves is known_now laden opened d.at.last
      (unbroken p) q count at_level in
      both_again read reads moments timed b fair actions d.at (marked_last (Broken w.came) w.marks) q (dried new) client
      (both_broken read (begun_at moments actions) was (dried new) before client (reports_in actions) w d.at.serves is known_now laden opened d.at.last
      (unbroken p) q count at_level t.0 t.1 near_was d.view (ap (λ (y : Stand server_side). y.unheard) did.1) refl (ap (λ (m : Between). m.control) can.1)
      (ap (λ (m : Between). m.data_ways.to_server) can.1) (ap (λ (x : Channel). x.untold) far_channel ∙ there.0) (ap (λ (x : Channel). (dry x).unwritten) far_channel)
      d.channel.dry d.channel.takes d.channel.written)
      (record { running = ap (λ (v : Far). v.session.life) t.1 ∙ serves.running; none_waits = ap (λ (v : Far). v.waiting) t.1 ∙ serves.none_waits })
      (ap (λ (v : Near). is_sound v.standing) told_view ∙ d.at.sound)
      (subst IsPlainly (sym told_view) (record { job = d.at.plain.job; port = refl; run = d.at.plain.run }))
      (λ called. absurd (both called (ap (λ (m : Between). is_called m.far) can.1)))

  -- so a world is beside both
  pub drops_told : Whole read reads moments timed b fair Are actions q count (dried new) client
  drops_told = record {
    at = both_are.0;
    marks = marked_last (Broken w.came) d.marks;
    are_marks = d.are_broken w.came;
    marked = both_are.1 ∙ ap (marked_last (Broken w.came)) d.marked;
    unsent = subst (IsPlainBy Unsent) (sym told_view) (record { job = d.unsent.job; port = refl; run = d.unsent.run });
  }
