-- A client takes octets of a file or a listing, as an event of a world, in a session that also puts files.
use Rattle.std.proofs.Common.{◌≡◌, ℕ, ◌<◌, ◌≤◌, true, false, true≢false, List, [], ◌∷◌, ◌++◌, length, take, min, option_to_list, refl, sym, ap, ap₂, subst, ◌∙◌, append_assoc, arith, length-take}
use Rattle.std.proofs.lemmas.List.{take-append-le, take-take}
use Rattle.ftp_ports.specs.Actions.{Calls, Stand}
use Rattle.ftp_ports.specs.Channel.{Channel, with_untold}
use Rattle.ftp_ports.specs.Machine.{Received}
use Rattle.ftp_client_driver.specs.Side.{client_side}
use Rattle.ftp_client_model.specs.Calls as near
use Rattle.ftp_client_model.specs.Calls.{data_closed, may_receive, receives, report_of}
use Rattle.ftp_client_model.specs.View.{View as Near}
use Rattle.ftp_operation.specs.Answer.{Said}
use Rattle.ftp_server_driver.specs.alone.Side.{server_side}
use Rattle.ftp_server_model.specs.Machine.{Reading}
use Rattle.ftp_server_model.specs.View.{View as Far}
use Rattle.laws_world.specs.Agreement.{Order}
use Rattle.laws_world.specs.Events.{DataToClient, is_closed_by_far, is_closed_by_near, pushed}
use Rattle.laws_world.specs.World.{World}
use Rattle.laws_drivers.specs.control.Alone.{ClientIsCalm}
use Rattle.laws_drivers.specs.control.Between.{Between}
use Rattle.laws_drivers.proofs.control.Taken.{taken}
use Rattle.laws_drivers.specs.world.Ahead.{is_open}
use Rattle.laws_transfers.specs.Ahead.{Ahead, Listened}
use Rattle.laws_drivers.proofs.world.Moves.{Rested, near_takes}
use Rattle.laws_drivers.proofs.world.Served.{rests, settled}
use Rattle.laws_drivers.proofs.events.Holding.{both, is_sound, unclosed}
use Rattle.laws_drivers.proofs.events.NearForms.{Taking, receives_closing, taking_of, taking_same, wants_rest}
use Rattle.laws_drivers.proofs.events.Stands.{ClientFetches, ServerServes}
use Rattle.laws_transfers.proofs.Beside.{Goes, Takes, Together, Writes, is_taking, open_takes, rested}
use Rattle.laws_transfers.proofs.ClientStays.{client_stays}
use Rattle.laws_transfers.proofs.Known.{Known, is_near_held, is_ready}
use Rattle.laws_transfers.proofs.Settling.{NearSettles, near_settles}

-- a client that takes octets is as a world's
pub taking_is : (read : Reading) (orders : List Order) (moment : ℕ) (ahead : Ahead) (between : Between) (told : ℕ) (server : Stand server_side)
    (client : Stand client_side)
    (reports : List Said) (w : World) → Together read orders moment ahead between told server client reports w → Taking client.owner.end.view
    → w.near ≡ client.owner.end.view
taking_is read orders moment ahead between told server client reports w t taking =
    let v : Near = client.owner.end.view in
    t.beside.near ∙ ap data_closed (taking_same v taking) ∙ unclosed v taking.closing

module _ (read : Reading) (orders : List Order) (server : Stand server_side) (old new : Stand client_side) (reports : List Said) (w : World)
    (calm : ClientIsCalm old.owner new.owner) (serves : ServerServes server.owner) (before : ClientFetches old.owner) (after : ClientFetches new.owner)
    (known : Known w) where
  abbrev v : Near
  v = old.owner.end.view

  abbrev u : Near
  u = new.owner.end.view

  abbrev x : Far
  x = server.owner.end.server.view

  -- ---- octets are taken

  module _ (octets : List ℕ) (count : ℕ) (moment : ℕ) (ahead : Ahead) (between : Between) (told : ℕ)
      (t : Together read orders moment ahead between told server old reports w) (did : Calls {side = client_side} (Received octets count) old new) where
    taking : Taking v
    taking = taking_of v did.0.2.1

    near_is : w.near ≡ v
    near_is = taking_is read orders moment ahead between told server old reports w t taking

    is : u ≡ receives v (take count octets)
    is = (did.0.0.0.0 calm).0

    channel : new.owner.channel ≡ with_untold new.owner.channel.untold old.owner.channel
    channel = did.0.1.1

    takes : Takes new.owner.channel
    takes = record {
      bare = λ e. absurd (both (ap (λ (l : Channel). l.stands) channel ∙ did.0.2.0.0) e);
    }

    gives : Writes between.near new.owner.channel
    gives = record {
      spare = λ e. ap (λ (l : Channel). l.unwritten) channel ∙ t.gives.spare e;
      bare = λ e. ap (λ (l : Channel). l.unwritten) channel ∙ t.gives.bare (ap (λ (l : Channel). l.stands) (sym channel) ∙ e);
    }

    over : is_sound new.owner.channel.fate ≡ false → is_near_held w.link ≡ false
    over e = absurd (both (ap (λ (l : Channel). is_sound l.fate) channel ∙ ap is_sound did.0.2.0.1) e)

    -- octets may come
    taking_now : is_taking old.owner.channel ≡ true
    taking_now = open_takes old.owner.channel did.0.2.0

    closing : u.closing ≡ false
    closing = ap (λ (n : Near). n.closing) is ∙ receives_closing (take count octets) v ∙ taking.closing

    none_said : option_to_list (report_of v) ≡ []
    none_said = ap (λ j. option_to_list (near.report_of_job j)) taking.job

    abbrev ways : List ℕ
    ways = between.data_ways.to_client ++ server.owner.channel.unwritten

    -- none is
    none_taken : take count octets ≡ [] → Goes read [] orders between told server new (reports ++ []) w
    none_taken none =
        let same : u ≡ v = is ∙ ap (receives v) none in
        client_stays read orders server old new reports w calm known moment ahead between between told [] t (ap (λ n. data_closed (taken n)) (sym same))
        (ap (λ n. option_to_list (report_of n)) (sym same)) refl (ap (λ (s : Stand client_side). s.unheard ++ between.control.to_client) (sym did.1))
        (ap (λ (l : Channel). server.owner.channel.untold ++ (between.data_ways.to_server ++ l.unwritten)) (sym channel))
        (λ e. (taking_now, ap (λ o. o ++ ways) (did.0.1.0 ∙ ap (λ o. o ++ new.owner.channel.untold) none))) refl takes gives
        (record { had = t.keeping.had; shut = λ e. absurd (both e closing); over = over })

    module _ (octet : ℕ) (more : List ℕ) (some : take count octets ≡ octet ∷ more) where
      abbrev all : List ℕ
      all = octet ∷ more

      abbrev rest : List ℕ
      rest = new.owner.channel.untold ++ ways

      r : Rested w
      r = rested moment ahead between told server old reports w t.beside serves before

      queue : w.data_to_client ≡ all ++ rest
      queue = t.beside.falling taking_now ∙ ap (λ o. o ++ ways) (did.0.1.0 ∙ ap (λ o. o ++ new.owner.channel.untold) some)
          ∙ append_assoc all new.owner.channel.untold ways

      got : receives w.near all ≡ u
      got = ap (λ n. receives n all) near_is ∙ ap (receives v) (sym some) ∙ sym is

      few : length all ≤ count
      few =
          let counted : length (take count octets) ≡ min count (length octets) = length-take count octets in
          subst (λ l. length l ≤ count) some (omega (arith, counted))

      may : (k : ℕ) → k < length all → may_receive (receives w.near (take k w.data_to_client)) ≡ true
      may k less =
          let within : k ≤ length all = omega (arith, less) in
          let below : k < count = omega (arith, less, few) in
          let under : k ≤ count = omega (arith, below) in
          ap₂ (λ n q. may_receive (receives n (take k q))) near_is queue
          ∙ ap (λ q. may_receive (receives v q)) (take-append-le k all rest within ∙ ap (take k) (sym some) ∙ take-take k count octets under)
          ∙ (did.0.0.0.0 calm).1 k below

      wants : rests (near.wants (data_closed (receives w.near all))) ≡ true
      wants = ap (λ n. rests (near.wants (data_closed n))) got ∙ wants_rest (data_closed u) after.sound after.dials refl

      abbrev now : World
      now = record w { near = receives w.near all; data_to_client = rest; came = (pushed read DataToClient (length all) w).came; taken = all }

      s : NearSettles now (settled now)
      s =
          near_settles now r.far_open r.none_asked (λ e. known.still (known.left e))
          (λ e. absurd (both e (ap (λ (n : Near). n.closing) got ∙ closing)))

      link : (settled now).link ≡ w.link
      link = s.stays (ap (λ (n : Near). n.closing) got ∙ closing)

      some_taken : Goes read [] orders between told server new (reports ++ []) w
      some_taken =
          let b = t.beside in
          record {
            world = settled now;
            leads = near_takes read octet more rest w r queue may wants (pushed read DataToClient (length all) w).came refl;
            moment = moment;
            ahead = ahead;
            marked = s.same.marks;
            together = record {
              beside = record {
                fits = b.fits;
                near = s.near ∙ ap (λ n. data_closed (taken n)) got;
                far = s.far ∙ b.far;
                to_server = s.same.to_server ∙ b.to_server;
                to_client = s.same.to_client ∙ b.to_client ∙ ap (λ (y : Stand client_side). y.unheard ++ between.control.to_client) (sym did.1);
                rising = s.same.rising ∙ b.rising
                    ∙ ap (λ (l : Channel). server.owner.channel.untold ++ (between.data_ways.to_server ++ l.unwritten)) (sym channel);
                falling = λ e. s.same.falling;
                listens = subst (Listened ahead told) (sym s.same.listens) b.listens;
                reported = s.reports ∙ ap₂ (λ r n. r ++ option_to_list (report_of n)) (b.reported ∙ ap (λ o. reports ++ o) none_said) got;
                control = s.same.control ∙ b.control;
                unready = λ e. ap (λ (f : Far). is_ready f.session.connection) s.far ∙ b.unready (ap is_closed_by_near (sym link) ∙ e);
                cutoff = s.same.cutoff ∙ b.cutoff;
              };
              holds = t.holds;
              comes = t.comes;
              serves = t.serves;
              takes = takes;
              gives = gives;
              keeping = record {
                had = λ e. t.keeping.had (ap is_near_held (sym link) ∙ e);
                shut = λ e. absurd (both e closing);
                over = λ e. ap is_near_held link ∙ over e;
              };
              twin = λ e.
                  let k = t.twin e in
                  absurd (true≢false (sym (ap is_closed_by_far (known.down (ap near.wants near_is ∙ did.0.2.1) (ap is_open k.none)))
                  ∙ ap is_closed_by_far k.link));
            };
          }

    pub client_received : Goes read [] orders between told server new (reports ++ []) w
    client_received = by_octets (take count octets) refl
      where
        by_octets : (given : List ℕ) → take count octets ≡ given → Goes read [] orders between told server new (reports ++ []) w
        by_octets [] none = none_taken none
        by_octets (octet ∷ more) some = some_taken octet more some
