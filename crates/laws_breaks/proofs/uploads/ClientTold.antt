-- A client of an upload, beside which a world stands, is told of the break of its data connection: it still gives, or it gave all and did not write all. From
-- then on that world is beside one that was not told.
use Rattle.std.proofs.Common.{◌≡◌, inl, inr, ℕ, Bool, true, false, List, [], ◌∷◌, ◌++◌, refl, sym, ap, ap₂, ◌∙◌}
use Rattle.ftp_ports.specs.Actions.{Calls, Action, Other, Stand}
use Rattle.ftp_ports.specs.Channel.{Channel, with_fate}
use Rattle.ftp_ports.specs.Machine.{Break}
use Rattle.ftp_ports.specs.declared.whole.Fate.TheVariants as Fates
use Rattle.ftp_client_driver.specs.Side.{client_side}
use Rattle.ftp_client_model.specs.Calls as near
use Rattle.ftp_client_model.specs.Calls.{data_closed, data_fault, is_busy}
use Rattle.ftp_client_model.specs.View.{View as Near}
use Rattle.ftp_client_model.specs.declared.client.ClientLink.TheVariants as NearData
use Rattle.ftp_client_model.specs.declared.client.Ending.TheVariants as Endings
use Rattle.ftp_ends.specs.Octets.{has_octets}
use Rattle.ftp_ends.specs.declared.link.Wants.TheVariants as Want
use Rattle.ftp_server_driver.specs.alone.Side.{server_side}
use Rattle.ftp_server_model.specs.Calls.{is_upload}
use Rattle.ftp_server_model.specs.Machine.{IsReading, Reading}
use Rattle.laws_world.specs.Claims.{Beginning, IsFair, state_of}
use Rattle.laws_world.specs.World.{World}
use Rattle.laws_agreement.proofs.Chunks.{both_empty}
use Rattle.laws_drivers.specs.control.Alone.{ClientIsCalm}
use Rattle.laws_drivers.specs.control.Between.{Between, Can, Near as TheClient, with_hold}
use Rattle.laws_drivers.specs.control.Touches.{ToldBreak}
use Rattle.laws_drivers.proofs.control.Taken.{taken, taken_wants}
use Rattle.laws_drivers.proofs.events.Fresh.{Fresh}
use Rattle.laws_drivers.proofs.events.Holding.{both, is_called, unclosed}
use Rattle.laws_drivers.proofs.events.NearForms.{busy_same, no_close}
use Rattle.laws_drivers.specs.events.Moments.{AreMoments, begun_at}
use Rattle.laws_transfers.proofs.Called.{StaysFresh}
use Rattle.laws_transfers.proofs.Known.{AreCarried, Known, Lifting}
use Rattle.laws_transfers.proofs.Simulating.{known, runs}
use Rattle.laws_breaks.proofs.downloads.ClientBroken.{broken_channel}
use Rattle.laws_breaks.proofs.downloads.Faults.{closing_same}
use Rattle.laws_breaks.proofs.downloads.Lagging.{OfMarks, Then, Whole, beside, is_failed, unbroken}
use Rattle.laws_breaks.proofs.downloads.Steps.{idle_same}
use Rattle.laws_breaks.proofs.downloads.Unsent.{AskAll, all_carried}
use Rattle.laws_breaks.proofs.uploads.Climbing.{HasGiven, world_given}
use Rattle.laws_breaks.proofs.uploads.Lifting.{Lifts, fault_begun, form, lifts_plain}
use Rattle.laws_breaks.proofs.uploads.Notes.{begun}
use Rattle.laws_breaks.proofs.uploads.UpLagging.{Spent, UpLags}

module _ (read : Reading) (reads : IsReading read) (moments : ℕ → ℕ) (timed : AreMoments moments) (b : Beginning) (fair : IsFair b)
    {Are : OfMarks} (actions : List (Action client_side)) (puts : AskAll (begun_at moments actions)) (p q : Between) (count : ℕ) (server : Stand server_side)
    (old new : Stand client_side) (o : Whole read reads moments timed b fair Are actions p count server old)
    (calm : ClientIsCalm old.owner new.owner)
    (can : Can TheClient ToldBreak p q) (did : Calls {side = client_side} Break old new) where
  abbrev w : World
  w = o.at.world

  abbrev v : Near
  v = old.owner.end.view

  abbrev u : Near
  u = new.owner.end.view

  carried : AreCarried (begun_at moments actions)
  carried = all_carried (begun_at moments actions) puts

  known_now : Known w
  known_now = known read reads moments timed b fair actions p count server old _ o.at carried

  told_is : u ≡ data_fault v
  told_is = did.0.0.0.0 calm

  channel : new.owner.channel ≡ with_fate Fates.Broken old.owner.channel
  channel = did.0.1

  spent : Spent new.owner.channel
  spent = record {
    dry = broken_channel old.owner.channel new.owner.channel channel;
    takes = record { bare = λ e. ap (λ (l : Channel). l.untold) channel ∙ o.at.together.takes.bare (ap (λ (l : Channel). l.stands) (sym channel) ∙ e) };
    known = ap (λ (l : Channel). is_failed l.fate) channel;
    bare = λ e. ap (λ (l : Channel). l.unwritten) channel ∙ o.at.together.gives.bare (ap (λ (l : Channel). l.stands) (sym channel) ∙ e);
  }

  -- so the world lags
  lags : Lifts v u → (v.closing ≡ true → has_octets old.owner.channel.unwritten ≡ true)
      → UpLags read reads moments timed b fair (Then (Other Break) old.owner Are) (Other Break ∷ actions) q count server new
  lags lifts due =
      let whole : unbroken q ≡ p = ap unbroken can.1 ∙ ap (λ h. with_hold TheClient h p) (sym can.0) in
      let got =
      idle_same read reads moments timed b fair (Other Break) actions o.at (unbroken q) (beside old.owner new) (ap (beside old.owner) did.1) whole refl
      refl in
      record {
        was = old.owner;
        at = got.0;
        lifts = lifts;
        due = due;
        hold = ap (λ (m : Between). m.near) can.1;
        channel = spent;
        marks = o.marks;
        are_marks = (o.marks, o.are_marks, inl refl);
        marked = got.1 ∙ o.marked;
        unsent = o.unsent;
        fresh = fresh;
      }
    where
      fresh : StaysFresh q new
      fresh called =
          let f = o.at.fresh (ap is_called (sym (ap (λ (m : Between). m.far) can.1)) ∙ called) in
          record {
            plain = lifts_plain v u lifts Fresh f.plain;
            untold = ap (λ (l : Channel). l.untold) channel ∙ f.untold;
            none = ap (λ (m : Between). m.data_ways.to_client) can.1 ∙ f.none;
          }

  -- ---- one that still gives

  module _ (wants : near.wants v ≡ Want.Send) where
    open_now : v.closing ≡ false
    open_now = no_close v Want.Send wants refl

    taken_is : w.near ≡ taken v
    taken_is = o.at.together.beside.near ∙ unclosed (taken v) open_now

    l : Lifting w
    l = known_now.sends (ap near.wants taken_is ∙ taken_wants v ∙ wants)

    near_is : w.near ≡ v
    near_is = taken_is ∙ busy_same v (ap is_busy (sym taken_is) ∙ ap is_busy l.near)

    is : v ≡ begun l.op l.count (l.octet ∷ l.more) NearData.Open false l.mark w.near
    is = sym near_is ∙ l.near

    told_lifts : Lifts v u
    told_lifts = record {
      op = l.op;
      all = l.count;
      left = l.octet ∷ l.more;
      mark = l.mark;
      near = form l.op l.count (l.octet ∷ l.more) NearData.Open false l.mark w.near v is;
      link = NearData.Over Endings.Broken;
      closed = false;
      told = told_is ∙ ap data_fault (is ∙ ap (begun l.op l.count (l.octet ∷ l.more) NearData.Open false l.mark) near_is)
          ∙ fault_begun l.op l.count (l.octet ∷ l.more) l.mark v;
      kind = inl (ap (λ (n : Near). n.connection) is, ap (λ (n : Near). n.closing) is, refl, refl, refl);
    }

    pub told_giving : UpLags read reads moments timed b fair (Then (Other Break) old.owner Are) (Other Break ∷ actions) q count server new
    told_giving = lags told_lifts (λ e. absurd (both e open_now))

  -- ---- one that gave all, and did not write all

  module _ (closing : v.closing ≡ true) (due : has_octets old.owner.channel.unwritten ≡ true) where
    takes : is_upload w.far.session.connection ≡ true
    takes = by (is_upload w.far.session.connection) refl
      where
        by : (takes : Bool) → is_upload w.far.session.connection ≡ takes → is_upload w.far.session.connection ≡ true
        by true is = is
        by false is =
            let none = both_empty p.data_ways.to_server old.owner.channel.unwritten
            (both_empty server.owner.channel.untold (p.data_ways.to_server ++ old.owner.channel.unwritten)
            (sym o.at.together.beside.rising ∙ known_now.still is)).1 in
            absurd (both due (ap has_octets none.1))

    g : HasGiven w
    g =
        world_given read reads (state_of b) (begun_at moments actions) carried w (runs read reads moments timed b fair actions p count server old _ o.at carried)
        o.at.together.beside.control o.at.together.beside.unready (known_now.takes takes (o.at.together.keeping.shut closing))

    same : taken v ≡ v
    same = busy_same v (ap is_busy (sym o.at.together.beside.near) ∙ ap is_busy g.near)

    given_is : v ≡ begun g.op g.all [] (NearData.Over Endings.Ours) true g.mark w.near
    given_is =
        ap (λ (n : Near). record n { closing = v.closing }) (ap data_closed (sym same) ∙ sym o.at.together.beside.near ∙ g.near)
        ∙ ap (λ c. begun g.op g.all [] (NearData.Over Endings.Ours) c g.mark w.near) closing

    closes_lifts : Lifts v u
    closes_lifts =
        let near : v ≡ begun g.op g.all [] v.connection v.closing g.mark v =
        form g.op g.all [] (NearData.Over Endings.Ours) true g.mark w.near v given_is in
        let over : v.connection ≡ NearData.Over Endings.Ours = ap (λ (n : Near). n.connection) given_is in
        record {
          op = g.op;
          all = g.all;
          left = [];
          mark = g.mark;
          near = near;
          link = NearData.Over Endings.Ours;
          closed = true;
          told = told_is ∙ closing_same v closing ∙ near ∙ ap₂ (λ c d. begun g.op g.all [] c d g.mark v) over closing;
          kind = inr (over, closing, refl, refl);
        }

    pub told_closing : UpLags read reads moments timed b fair (Then (Other Break) old.owner Are) (Other Break ∷ actions) q count server new
    told_closing = lags closes_lifts (λ e. due)
