-- A client that took octets was told of a break, and a world's server has let the data connection go: an event tells the world's client, and what was on its
-- way is lost.
use Rattle.std.proofs.Common.{◌≡◌, ℕ, Bool, true, false, true≢false, not, ◌&&◌, List, [], ◌++◌, option_to_list, refl, sym, ap, ap₂, subst, ◌∙◌}
use Rattle.ftp_ports.specs.Actions.{Calls, Stand}
use Rattle.ftp_ports.specs.Channel.{Channel, with_fate}
use Rattle.ftp_ports.specs.Machine.{Break}
use Rattle.ftp_ports.specs.declared.whole.Fate.TheVariants as Fates
use Rattle.ftp_client_driver.specs.Side.{client_side}
use Rattle.ftp_client_model.specs.Calls as near
use Rattle.ftp_client_model.specs.Calls.{data_closed, data_fault, is_sound, report_of}
use Rattle.ftp_client_model.specs.View.{Transfer, View as Near}
use Rattle.ftp_ends.specs.declared.link.Wants.TheVariants as Want
use Rattle.ftp_operation.specs.Answer.{Said}
use Rattle.ftp_operation.specs.declared.op.Op.{Op}
use Rattle.ftp_server_driver.specs.alone.Side.{server_side}
use Rattle.ftp_server_model.specs.Machine.{Reading}
use Rattle.ftp_server_model.specs.Calls.{is_upload}
use Rattle.ftp_server_model.specs.View.{View as Far}
use Rattle.ftp_server_model.specs.declared.session.ServerLink.TheVariants as Data
use Rattle.laws_world.specs.Agreement.{Order}
use Rattle.laws_world.specs.Events.{Break as Breaks, broken_by, is_closed_by_far, is_closed_by_near, is_gone, lends_none, link_breaks}
use Rattle.laws_world.specs.Serving.{after_event}
use Rattle.laws_world.specs.World.{Broken, ClosedByFar, Gone, World, gone, marked_last, with_mark}
use Rattle.laws_agreement.proofs.Chunks.{both_empty}
use Rattle.laws_drivers.specs.control.Alone.{ClientIsCalm}
use Rattle.laws_drivers.specs.control.Between.{Between, Can, Hold, Near as TheClient}
use Rattle.laws_drivers.specs.control.Touches.{ToldBreak}
use Rattle.laws_drivers.proofs.control.Taken.{taken}
use Rattle.laws_drivers.proofs.control.Worlds.{LeadsOn, one_leads}
use Rattle.laws_drivers.specs.world.Ahead.{is_open}
use Rattle.laws_drivers.proofs.world.Moves.{Rested}
use Rattle.laws_drivers.proofs.world.Served.{after_settles, rests, settled}
use Rattle.laws_drivers.proofs.events.Holding.{both}
use Rattle.laws_drivers.proofs.events.NearForms.{Taking, taking_of, wants_rest}
use Rattle.laws_drivers.proofs.events.Plain.{IsPlainBy, IsPlainly, Whatever}
use Rattle.laws_drivers.proofs.events.Stands.{ClientFetches, ServerServes, portless}
use Rattle.laws_transfers.specs.Ahead.{Ahead, Listened}
use Rattle.laws_transfers.proofs.Ahead.{Holds}
use Rattle.laws_transfers.proofs.Beside.{Comes, Goes, GoesTo, Takes, Together, Writes, is_taking, rested}
use Rattle.laws_transfers.proofs.ClientStays.{client_keeps}
use Rattle.laws_transfers.proofs.ClientTaking.{taking_is}
use Rattle.laws_transfers.proofs.Known.{Known, is_near_held}
use Rattle.laws_transfers.proofs.Settling.{NearSettles, near_settles}
use Rattle.laws_breaks.proofs.downloads.Faults.{Faulted, Loads, closing_same, faulted, faulted_plain}

-- what is broken takes no octets
none_taking : (stands : Bool) → stands && false ≡ false
none_taking true = refl
none_taking false = refl

pub broken_channel : (old new : Channel) → new ≡ with_fate Fates.Broken old → is_taking new ≡ false
broken_channel old new channel = ap is_taking channel ∙ none_taking old.stands

module _ (read : Reading) (begun : List Order) (server : Stand server_side) (old new : Stand client_side) (reports : List Said) (w : World)
    (serves : ServerServes server.owner) (before : ClientFetches old.owner) (plain : IsPlainly old.owner.end.view) (known : Known w) where
  abbrev v : Near
  v = old.owner.end.view

  abbrev u : Near
  u = new.owner.end.view

  abbrev x : Far
  x = server.owner.end.server.view

  -- it took octets, and holds what one holds that was told of a break; nothing comes to it any more, and all that it gave is written
  module _ (moment : ℕ) (ahead : Ahead) (between next : Between) (told : ℕ) (t : Together read begun moment ahead between told server old reports w)
      (is : u ≡ data_fault v) (unheard : new.unheard ≡ old.unheard) (control : next.control ≡ between.control) (hold : next.far ≡ between.far)
      (ways : next.data_ways.to_server ≡ between.data_ways.to_server) (not_taking : is_taking new.owner.channel ≡ false) (takes : Takes new.owner.channel)
      (written : new.owner.channel.unwritten ≡ []) (free_there : w.far.session.connection ≡ Data.Free) (wants : near.wants v ≡ Want.Receive)
      (loads : Loads v) where
    -- nothing goes to the server
    none_rises : w.data_to_server ≡ []
    none_rises = known.still (ap is_upload free_there)

    unwritten : old.owner.channel.unwritten ≡ []
    unwritten =
        (both_empty between.data_ways.to_server old.owner.channel.unwritten
        (both_empty server.owner.channel.untold (between.data_ways.to_server ++ old.owner.channel.unwritten) (sym t.beside.rising ∙ none_rises)).1).1

    taking : Taking v
    taking = taking_of v wants

    fault : Faulted v (data_fault v)
    fault = faulted v loads

    pub broken_plain : IsPlainly u
    broken_plain = subst IsPlainly (sym is) (faulted_plain Whatever v loads plain)

    pub broken_sound : is_sound u.standing ≡ true
    broken_sound = ap (λ (n : Near). is_sound n.standing) is ∙ ap is_sound fault.standing ∙ before.sound

    closing_now : u.closing ≡ false
    closing_now = ap (λ (n : Near). n.closing) is ∙ fault.closing

    near_is : w.near ≡ v
    near_is = taking_is read begun moment ahead between told server old reports w t taking

    then_is : data_fault w.near ≡ u
    then_is = ap data_fault near_is ∙ sym is

    link : w.link ≡ ClosedByFar
    link = known.down (ap near.wants near_is ∙ wants) (ap is_open free_there)

    r : Rested w
    r = rested moment ahead between told server old reports w t.beside serves before

    -- the client is told, what was on its way is lost, and the operation is marked
    abbrev now : World
    now = record (gone (record w { near = data_fault w.near; taken = [] })) { marks = marked_last (Broken w.came) w.marks }

    breaks : link_breaks (lends_none w) ≡ now
    breaks = ap (λ l. with_mark (Broken w.came) (gone (broken_by l (lends_none w)))) link

    leads : LeadsOn read [] w (settled now)
    leads =
        one_leads read Breaks w (settled now) tt (
          ap (λ l. not (is_gone l)) link,
          sym (ap after_event breaks ∙ after_settles now (ap (λ n. rests (near.wants (data_closed n))) then_is
              ∙ wants_rest (data_closed u) broken_sound (portless u.connection broken_plain.port) refl) r.runs),
        )

    s : NearSettles now (settled now)
    s = near_settles now r.far_open r.none_asked (λ e. refl) (λ e. refl)

    link_then : (settled now).link ≡ Gone
    link_then = s.stays (ap (λ (n : Near). n.closing) then_is ∙ closing_now)

    none_said : option_to_list (report_of v) ≡ []
    none_said = ap (λ j. option_to_list (near.report_of_job j)) taking.job

    pub client_broken : GoesTo read [] begun next told server new (reports ++ []) (marked_last (Broken w.came) w.marks) w
    client_broken =
        let b = t.beside in
        record {
          world = settled now;
          leads = leads;
          moment = moment;
          ahead = ahead;
          marked = s.same.marks;
          together = record {
            beside = record {
              fits = b.fits;
              near = s.near ∙ ap (λ n. data_closed (taken n)) then_is;
              far = s.far ∙ b.far;
              to_server = s.same.to_server ∙ b.to_server ∙ ap (λ c. server.unheard ++ c.to_server) (sym control);
              to_client = s.same.to_client ∙ b.to_client
                  ∙ ap₂ (λ q c. q ++ c.to_client) (sym unheard) (sym control);
              rising = s.same.rising ∙ sym none_rises ∙ b.rising
                  ∙ ap₂ (λ a o. server.owner.channel.untold ++ (a ++ o)) (sym ways) (unwritten ∙ sym written);
              falling = λ e. absurd (both e not_taking);
              listens = subst (Listened ahead told) (sym s.same.listens) b.listens;
              reported = s.reports ∙ ap₂ (λ r n. r ++ option_to_list (report_of n)) (b.reported ∙ ap (λ o. reports ++ o) none_said) then_is;
              control = s.same.control ∙ b.control;
              unready = λ e. absurd (true≢false (sym e ∙ ap is_closed_by_near link_then));
              cutoff = s.same.cutoff ∙ b.cutoff;
            };
            holds = subst (λ (h : Hold). Holds ahead h x.session) (sym hold) t.holds;
            comes = subst (λ (h : Hold). Comes h x.session server.owner.channel) (sym hold) t.comes;
            serves = subst (λ (h : Hold). Writes h server.owner.channel) (sym hold) t.serves;
            takes = takes;
            gives = record { spare = λ e. written; bare = λ e. written };
            keeping = record {
              had = λ e. absurd (true≢false (sym e ∙ ap is_near_held link_then));
              shut = λ e. absurd (both e closing_now);
              over = λ e. ap is_near_held link_then;
            };
            twin = λ e. absurd (true≢false (sym (ap is_closed_by_far link) ∙ ap is_closed_by_far (t.twin e).link));
          };
        }

  -- ---- one that is to close anyway

  -- holds no link of a world, and is as before
  module _ (calm : ClientIsCalm old.owner new.owner) (did : Calls {side = client_side} Break old new) (closing : v.closing ≡ true) where
    same : u ≡ v
    same = did.0.0.0.0 calm ∙ closing_same v closing

    pub closing_by : (Kept : Op (List ℕ) → Transfer → Type 0) → IsPlainBy Kept v → IsPlainBy Kept u
    closing_by Kept p = subst (IsPlainBy Kept) (sym same) p

    pub closing_plain : IsPlainly u
    closing_plain = closing_by Whatever plain

    pub closing_sound : is_sound u.standing ≡ true
    closing_sound = ap (λ (n : Near). is_sound n.standing) same ∙ before.sound

    pub broken_closing : (moment : ℕ) (ahead : Ahead) (between next : Between) (told : ℕ) → Together read begun moment ahead between told server old reports w
        → Can TheClient ToldBreak between next → old.owner.channel.unwritten ≡ [] → Goes read [] begun next told server new (reports ++ []) w
    broken_closing moment ahead between next told t can none =
        let channel : new.owner.channel ≡ with_fate Fates.Broken old.owner.channel = did.0.1 in
        let written : new.owner.channel.unwritten ≡ [] = ap (λ (l : Channel). l.unwritten) channel ∙ none in
        client_keeps read begun server old new reports w calm known moment ahead between next told t same (ap (λ (m : Between). m.control.to_server) can.1)
        (ap₂ (λ (y : Stand client_side) (m : Between). y.unheard ++ m.control.to_client) (sym did.1) (sym can.1))
        (ap₂ (λ (m : Between) o. server.owner.channel.untold ++ (m.data_ways.to_server ++ o)) (sym can.1) (none ∙ sym written))
        (λ e. absurd (both e (broken_channel old.owner.channel new.owner.channel channel))) (ap (λ (m : Between). m.far) can.1)
        (record { bare = λ e. ap (λ (l : Channel). l.untold) channel ∙ t.takes.bare (ap (λ (l : Channel). l.stands) (sym channel) ∙ e) })
        (record { spare = λ e. written; bare = λ e. written }) (λ e. absurd (both e (t.keeping.shut closing))) (λ e. t.keeping.shut closing)
