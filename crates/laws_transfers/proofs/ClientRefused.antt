-- A client's dial fails, as an event of a world: the client is told so, and its operation is marked; the server is told nothing, and still waits at its port.
use Rattle.std.proofs.Common.{◌≡◌, ℕ, true, false, true≢false, ◌&&◌, List, [], ◌∷◌, ◌++◌, Option, None, option_to_list, refl, sym, ap, ap₂, subst, ◌∙◌}
use Rattle.ftp_endpoint.specs.declared.endpoint.Endpoint.{Endpoint}
use Rattle.ftp_ports.specs.Asking.{NotConnected}
use Rattle.ftp_ports.specs.Actions.{Calls, Stand}
use Rattle.ftp_ports.specs.Channel.{Channel, with_asked}
use Rattle.ftp_ports.specs.Machine.{Refused}
use Rattle.ftp_client_driver.specs.Side.{client_side}
use Rattle.ftp_client_model.specs.Calls as near
use Rattle.ftp_client_model.specs.Calls.{data_closed, data_refused, is_busy, is_sound as is_sound_at, report_of}
use Rattle.ftp_client_model.specs.Dialogue.{finishes_by, next_job}
use Rattle.ftp_client_model.specs.View.{Doing, Idle, Job, Told, Transfer, Transferring, View as Near, Waiting}
use Rattle.ftp_client_model.specs.declared.client.ClientLink.TheVariants as NearData
use Rattle.ftp_ends.specs.Link.{is_connecting, is_wanted}
use Rattle.ftp_ends.specs.declared.link.Wants.TheVariants as Want
use Rattle.ftp_operation.specs.Answer.{Said, Unopened}
use Rattle.ftp_operation.specs.declared.op.Op.{Op}
use Rattle.ftp_server_driver.specs.alone.Side.{server_side}
use Rattle.ftp_server_model.specs.Calls as far
use Rattle.ftp_server_model.specs.Machine.{Reading}
use Rattle.laws_world.specs.Agreement.{Order}
use Rattle.laws_world.specs.Events.{Refuse, is_asked_for, is_closed_by_near, is_gone, lends_none, link_refused, refused_by}
use Rattle.laws_world.specs.Serving.{after_event}
use Rattle.laws_world.specs.World.{Gone, Refused as WasRefused, World, marked_last, with_mark}
use Rattle.laws_drivers.specs.control.Alone.{ClientIsCalm}
use Rattle.laws_drivers.specs.control.Between.{Between}
use Rattle.laws_drivers.proofs.control.Taken.{taken, taken_none, taken_wants}
use Rattle.laws_drivers.proofs.control.Worlds.{LeadsOn, one_leads}
use Rattle.laws_drivers.specs.world.Ahead.{accepts}
use Rattle.laws_drivers.proofs.world.Known.{Dialling as IsDialling}
use Rattle.laws_drivers.proofs.world.Moves.{Rested}
use Rattle.laws_drivers.proofs.world.Served.{after_settles, far_wants, rests, settled}
use Rattle.laws_drivers.proofs.events.Holding.{unclosed}
use Rattle.laws_drivers.proofs.events.NearForms.{Dialling, busy_same, dialling_of, wants_rest}
use Rattle.laws_drivers.proofs.events.Plain.{IsPlainBy}
use Rattle.laws_drivers.proofs.events.Stands.{ClientFetches, ServerServes}
use Rattle.laws_transfers.specs.Ahead.{Ahead, Listened}
use Rattle.laws_transfers.proofs.Beside.{GoesTo, Takes, Together, Writes, is_taking, rested}
use Rattle.laws_transfers.proofs.Known.{Known, is_near_held}
use Rattle.laws_transfers.proofs.Settling.{NearSettles, near_settles}
use Rattle.laws_transfers.proofs.Twins.{HasTwin}

-- ---- what the client makes of it

-- its operation has its answer, and it has no link
abbrev pub unopened : Near → Near
unopened n = record n { job = Told Unopened; run = None; connection = NearData.Free; closing = false }

-- alone no operation goes on
none_next : (job : Job) → next_job None job Unopened ≡ None
none_next Idle = refl
none_next (Waiting op) = refl
none_next (Doing op step) = refl
none_next (Transferring op transfer) = refl
none_next (Told said) = refl

pub refused_is : (endpoint : Endpoint) (n : Near) → Dialling endpoint n → n.run ≡ None → data_refused n ≡ unopened n
unfolding data_refused
refused_is endpoint n d alone =
    let m : Near = record n { run = None; connection = NearData.Connecting endpoint; closing = false } in
    let is : n ≡ m = λ i. record n { run = alone i; connection = d.connection i; closing = d.closing i } in
    ap data_refused is ∙ ap (λ (next : Option (Op (List ℕ))). finishes_by next Unopened m) (none_next n.job)

module _ (read : Reading) (orders : List Order) (server : Stand server_side) (old new : Stand client_side) (reports : List Said) (w : World)
    (calm : ClientIsCalm old.owner new.owner) (serves : ServerServes server.owner) (before : ClientFetches old.owner) (run : old.owner.end.view.run ≡ None)
    (known : Known w) where
  abbrev v : Near
  v = old.owner.end.view

  abbrev u : Near
  u = new.owner.end.view

  -- ---- its dial fails

  module _ (endpoint : Endpoint) (moment : ℕ) (ahead : Ahead) (between : Between) (told : ℕ)
      (did : Calls {side = client_side} (Refused (NotConnected endpoint ∷ [])) old new) where
    wants : near.wants v ≡ Want.Connect endpoint
    wants = did.0.2.0

    dialling : Dialling endpoint v
    dialling = dialling_of endpoint v wants

    -- so it holds that its operation was not opened
    pub refused_view : u ≡ unopened v
    refused_view = did.0.0.0.0 calm ∙ refused_is endpoint v dialling run

    channel : new.owner.channel ≡ with_asked new.owner.channel.asked old.owner.channel
    channel = did.0.1.1

    -- it has not failed, and stays plain, whatever is kept of its transfers
    pub refused_sound : is_sound_at u.standing ≡ true
    refused_sound = ap (λ (n : Near). is_sound_at n.standing) refused_view ∙ before.sound

    pub refused_plain : (Kept : Op (List ℕ) → Transfer → Type 0) → IsPlainBy Kept u
    refused_plain Kept = subst (IsPlainBy Kept) (sym refused_view) (record { job = tt; port = refl; run = refl })

    pub client_refused : Together read orders moment ahead between told server old reports w
        → GoesTo read [] orders between told server new (reports ++ []) (marked_last WasRefused w.marks) w
    client_refused t = record {
      world = settled now;
      leads = leads;
      moment = moment;
      ahead = ahead;
      marked = s.same.marks;
      together = record {
        beside = record {
          fits = t.beside.fits;
          near = s.near ∙ ap (λ n. data_closed (taken n)) then_is;
          far = s.far ∙ t.beside.far;
          to_server = s.same.to_server ∙ t.beside.to_server;
          to_client = s.same.to_client ∙ t.beside.to_client ∙ ap (λ (y : Stand client_side). y.unheard ++ between.control.to_client) (sym did.1);
          rising = s.same.rising ∙ t.beside.rising
              ∙ ap (λ (l : Channel). server.owner.channel.untold ++ (between.data_ways.to_server ++ l.unwritten)) (sym channel);
          falling = λ e. s.same.falling ∙ t.beside.falling (ap is_taking (sym channel) ∙ e)
              ∙ ap (λ (l : Channel). l.untold ++ (between.data_ways.to_client ++ server.owner.channel.unwritten)) (sym channel);
          listens = subst (Listened ahead told) (sym s.same.listens) t.beside.listens;
          reported = s.reports ∙ ap₂ (λ r n. r ++ option_to_list (report_of n)) (t.beside.reported ∙ ap (λ o. reports ++ o) none_said) then_is;
          control = s.same.control ∙ t.beside.control;
          unready = λ e. absurd (true≢false (sym e ∙ ap is_closed_by_near link_now));
          cutoff = s.same.cutoff ∙ t.beside.cutoff;
        };
        holds = t.holds;
        comes = t.comes;
        serves = t.serves;
        takes = subst Takes (sym channel) (record { bare = t.takes.bare });
        gives = subst (Writes between.near) (sym channel) (record { spare = t.gives.spare; bare = t.gives.bare });
        keeping = record {
          had = λ e. absurd (true≢false (sym e ∙ ap is_near_held link_now));
          shut = λ e. ap is_near_held link_now;
          over = λ e. ap is_near_held link_now;
        };
        twin = λ e. absurd (no_twin (t.twin e));
      };
    }
      where
        n_is : w.near ≡ taken v
        n_is = t.beside.near ∙ unclosed (taken v) dialling.closing

        there : IsDialling w
        there = known.dials endpoint (ap near.wants n_is ∙ taken_wants v ∙ wants)

        near_is : w.near ≡ v
        near_is = n_is ∙ busy_same v (ap is_busy (sym n_is) ∙ there.busy)

        r : Rested w
        r = rested moment ahead between told server old reports w t.beside serves before

        -- the client is told, and the operation is marked
        now : World
        now = record w { near = data_refused w.near; marks = marked_last WasRefused w.marks; taken = [] }

        then_is : data_refused w.near ≡ u
        then_is = ap data_refused near_is ∙ sym (did.0.0.0.0 calm)

        open_now : now.near.closing ≡ false
        open_now = ap (λ (n : Near). n.closing) (then_is ∙ refused_view)

        wanted : near.wants w.near ≡ Want.Connect endpoint
        wanted = ap near.wants near_is ∙ wants

        refuses : link_refused (lends_none w) ≡ now
        refuses = ap (λ q. with_mark WasRefused (refused_by (is_connecting q) (lends_none w))) wanted

        asked : is_asked_for w ≡ true
        asked =
            ap₂ (λ l q. is_gone l && is_wanted q (far.wants w.far)) there.link wanted
            ∙ ap (λ q. is_wanted (Want.Connect endpoint) q) (far_wants w.far r.runs.running r.far_open ∙ ap far.wants_of there.far)

        rest_then : rests (near.wants (data_closed now.near)) ≡ true
        rest_then = ap (λ n. rests (near.wants (data_closed n))) (then_is ∙ refused_view) ∙ wants_rest (unopened v) before.sound refl refl

        leads : LeadsOn read [] w (settled now)
        leads = one_leads read Refuse w (settled now) tt (asked, sym (ap after_event refuses ∙ after_settles now rest_then r.runs))

        s : NearSettles now (settled now)
        s = near_settles now r.far_open r.none_asked (λ e. known.still (known.left e)) (λ e. there.to_client)

        -- no link stands
        link_now : (settled now).link ≡ Gone
        link_now = s.stays open_now ∙ there.link

        none_said : option_to_list (report_of v) ≡ []
        none_said = ap (λ n. option_to_list (report_of n)) (sym (busy_same v (ap is_busy (sym n_is) ∙ there.busy))) ∙ ap option_to_list (taken_none v)

        -- a server that is dialled was told of no end
        no_twin : HasTwin read orders w → ⊥
        no_twin k = true≢false (sym (ap accepts there.far) ∙ ap accepts k.none)
