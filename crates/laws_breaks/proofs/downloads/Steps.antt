-- An action of either end, as where none breaks, and the world that it leads to.
use Rattle.std.proofs.Common.{◌≡◌, ℕ, true, true≢false, List, [], ◌∷◌, ◌++◌, refl, sym, ap, subst, ◌∙◌, append-nil}
use Rattle.ftp_ports.specs.Asking.{Reset}
use Rattle.ftp_ports.specs.Actions.{Calls, Action, Done, Other, Stand}
use Rattle.ftp_ports.specs.Channel.{Channel, with_fate}
use Rattle.ftp_ports.specs.Machine.{Break, Failed, Left}
use Rattle.ftp_ports.specs.declared.whole.Fate.TheVariants as Fates
use Rattle.ftp_client_driver.specs.Side.{client_side}
use Rattle.ftp_client_model.specs.Calls.{is_sound}
use Rattle.ftp_operation.specs.Answer.{Said}
use Rattle.ftp_server_driver.specs.alone.Side.{server_side}
use Rattle.ftp_server_model.specs.Calls.{clock_step}
use Rattle.ftp_server_model.specs.Machine.{IsReading, Reading}
use Rattle.ftp_server_model.specs.View.{Session, View as Far}
use Rattle.laws_world.specs.Agreement.{Order}
use Rattle.laws_world.specs.Claims.{Beginning, IsFair, world_of}
use Rattle.laws_world.specs.World.{Mark}
use Rattle.laws_drivers.specs.control.Alone.{ServerIsCalm, reports_of, reports_in}
use Rattle.laws_drivers.specs.events.Moments.{AreMoments, IsToldAt, begun_at, begun_by, last_of, number_in}
use Rattle.laws_drivers.specs.control.Between.{Between, CanTurn, Client, Has}
use Rattle.laws_drivers.proofs.control.Worlds.{LeadsOn, leads_then}
use Rattle.laws_drivers.specs.events.Actions.{ArePorts, listened_in}
use Rattle.laws_drivers.proofs.events.Holding.{both, is_sound as is_whole}
use Rattle.laws_drivers.proofs.events.Plain.{IsPlainly}
use Rattle.laws_drivers.proofs.events.Serves.{action_serves}
use Rattle.laws_drivers.proofs.events.Stands.{ServerServes}
use Rattle.laws_transfers.specs.Ahead.{Fits, far_ahead}
use Rattle.laws_transfers.proofs.Ahead.{Holds}
use Rattle.laws_transfers.specs.Actions.{ServerTransfers}
use Rattle.laws_transfers.specs.Refusals.{ClientTries, marked_by}
use Rattle.laws_transfers.proofs.Beside.{Goes, GoesTo, Together}
use Rattle.laws_transfers.proofs.Called.{BreaksNone, StaysFresh}
use Rattle.laws_transfers.proofs.Known.{AreCarried}
use Rattle.laws_transfers.proofs.ServerStays.{server_resets, server_stays}
use Rattle.laws_transfers.proofs.Simulating.{Reached, client_fresh, client_goes, client_plain, known, orders_after, orders_are, server_goes}
use Rattle.laws_breaks.proofs.downloads.Drained.{IsLone, dried, dry}
use Rattle.laws_breaks.proofs.downloads.Failing.{closing_is, server_told_late}
use Rattle.laws_breaks.proofs.downloads.Seen.{Sees, dropped, sees_fresh}

-- a server that stands as the second, but with what the first holds, its data connection, and what it read and did not hear
abbrev pub counted_as : (old new : Stand server_side) → Stand server_side
counted_as old new = record new {
  owner = record {
    end = record new.owner.end { server = record new.owner.end.server { view = old.owner.end.server.view } };
    channel = old.owner.channel;
  };
  unheard = old.unheard;
}

module _ (read : Reading) (reads : IsReading read) (moments : ℕ → ℕ) (timed : AreMoments moments) (b : Beginning) (fair : IsFair b) where
  -- after actions of a client, a world is beside these ends
  abbrev pub At : (actions : List (Action client_side)) (between : Between) (count : ℕ) (server : Stand server_side) (client : Stand client_side) → Type 0
  At actions between count server client = Reached read reads moments timed b fair (begun_at moments actions) between count server client (reports_in actions)

  -- what an action of the client leads to
  abbrev pub Went : (action : Action client_side) (actions : List (Action client_side)) {between : Between} {count : ℕ} {server : Stand server_side}
      {old : Stand client_side} (o : At actions between count server old) (marks : List (List Mark)) (next : Between) (new : Stand client_side) → Type 0
  Went action actions {between} {count} {server} {old} o marks next new =
      GoesTo read (begun_by (moments (number_in actions)) action) (orders_after (moments (number_in actions)) action (begun_at moments actions)) next count server new
      (reports_in actions ++ reports_of action) marks o.world

  -- a world is beside both again, with these marks
  abbrev pub Again : (actions : List (Action client_side)) (between : Between) (count : ℕ) (server : Stand server_side) (client : Stand client_side)
      (marks : List (List Mark)) → Type 0
  Again actions between count server client marks = (n : At actions between count server client) × (n.world.marks ≡ marks)

  -- what a server counted, what its clock told, and what else was read and written of it is of no matter
  pub recounted : (actions : List (Action client_side)) (between : Between) (count : ℕ) (old new : Stand server_side) (client : Stand client_side)
      (o : At actions between count old client) → Again actions between count (counted_as old new) client o.world.marks
  recounted actions between count old new client o =
      let t = o.together in
      let s = t.beside in (
        record {
          world = o.world;
          leads = o.leads;
          last = o.last;
          ahead = o.ahead;
          together = record {
            beside = record {
              fits = s.fits;
              near = s.near;
              far = s.far;
              to_server = s.to_server;
              to_client = s.to_client;
              rising = s.rising;
              falling = s.falling;
              listens = s.listens;
              reported = s.reported;
              control = s.control;
              unready = s.unready;
              cutoff = s.cutoff;
            };
            holds = t.holds;
            comes = t.comes;
            serves = t.serves;
            takes = t.takes;
            gives = t.gives;
            keeping = t.keeping;
            twin = t.twin;
          };
          serves = record { running = o.serves.running; none_waits = o.serves.none_waits };
          plain = o.plain;
          sound = o.sound;
          fresh = o.fresh;
        },
        refl,
      )

  pub again : (action : Action client_side) (actions : List (Action client_side)) {between : Between} {count : ℕ} {server : Stand server_side} {old : Stand client_side}
      (o : At actions between count server old) (marks : List (List Mark)) (next : Between) (new : Stand client_side) → Went action actions o marks next new
      → is_sound new.owner.end.view.standing ≡ true → IsPlainly new.owner.end.view → StaysFresh next new → Again (action ∷ actions) next count server new marks
  again action actions {between} {count} {server} {old} o marks next new went sound plain fresh =
      let begun : List Order = begun_at moments actions in (
        record {
          world = went.world;
          leads = leads_then read begun (begun_by (moments (number_in actions)) action) (world_of b) o.world went.world o.leads went.leads;
          last = went.moment;
          ahead = went.ahead;
          together = subst (λ l. Together read l went.moment went.ahead next count server new (reports_in actions ++ reports_of action) went.world)
              (orders_are (moments (number_in actions)) action begun) went.together;
          serves = o.serves;
          plain = plain;
          sound = sound;
          fresh = fresh;
        },
        went.marked,
      )

  -- where it begins and reports nothing
  pub went_again : (actions : List (Action client_side)) {between : Between} {count : ℕ} {server : Stand server_side} {old : Stand client_side}
      (o : At actions between count server old) (marks : List (List Mark)) (next : Between) (after : ℕ) (told : Stand server_side) (new : Stand client_side)
      → GoesTo read [] (begun_at moments actions) next after told new (reports_in actions) marks o.world → ServerServes told.owner
      → is_sound new.owner.end.view.standing ≡ true → IsPlainly new.owner.end.view → StaysFresh next new → Again actions next after told new marks
  went_again actions {between} {count} {server} {old} o marks next after told new went serves sound plain fresh =
      let begun : List Order = begun_at moments actions in (
        record {
          world = went.world;
          leads = subst (λ l. LeadsOn read l (world_of b) went.world) (append-nil begun)
              (leads_then read begun [] (world_of b) o.world went.world o.leads went.leads);
          last = went.moment;
          ahead = went.ahead;
          together = went.together;
          serves = serves;
          plain = plain;
          sound = sound;
          fresh = fresh;
        },
        went.marked,
      )

  pub both_again : (actions : List (Action client_side)) {between : Between} {count : ℕ} {server : Stand server_side} {old : Stand client_side}
      (o : At actions between count server old) (marks : List (List Mark)) (next : Between) (told : Stand server_side) (new : Stand client_side)
      → GoesTo read [] (begun_at moments actions) next count told new (reports_in actions ++ []) marks o.world → ServerServes told.owner
      → is_sound new.owner.end.view.standing ≡ true → IsPlainly new.owner.end.view → StaysFresh next new → Again actions next count told new marks
  both_again actions {between} {count} {server} {old} o marks next told new went serves sound plain fresh =
      went_again actions o marks next count told new
      (subst (λ (r : List Said). GoesTo read [] (begun_at moments actions) next count told new r marks o.world) (append-nil (reports_in actions)) went)
      serves sound plain fresh

  -- and its server is as before
  pub same_again : (actions : List (Action client_side)) {between : Between} {count : ℕ} {server : Stand server_side} {old : Stand client_side}
      (o : At actions between count server old) (marks : List (List Mark)) (next : Between) (new : Stand client_side)
      → GoesTo read [] (begun_at moments actions) next count server new (reports_in actions ++ []) marks o.world
      → is_sound new.owner.end.view.standing ≡ true → IsPlainly new.owner.end.view → StaysFresh next new → Again actions next count server new marks
  same_again actions {between} {count} {server} {old} o marks next new went sound plain fresh =
      both_again actions o marks next server new went o.serves sound plain fresh

  -- an action that begins and reports nothing, and does nothing
  pub idle_again : (action : Action client_side) (actions : List (Action client_side)) {between : Between} {count : ℕ} {server : Stand server_side}
      {client : Stand client_side} (o : At actions between count server client) → begun_by (moments (number_in actions)) action ≡ [] → reports_of action ≡ []
      → Again (action ∷ actions) between count server client o.world.marks
  idle_again action actions {between} {count} {server} {client} o begins reports =
      let begun : begun_at moments (action ∷ actions) ≡ begun_at moments actions =
      ap (λ l. begun_at moments actions ++ l) begins ∙ append-nil (begun_at moments actions) in
      let said : reports_in (action ∷ actions) ≡ reports_in actions = ap (λ l. reports_in actions ++ l) reports ∙ append-nil (reports_in actions) in
      subst (λ (r : List Said). (n : Reached read reads moments timed b fair (begun_at moments (action ∷ actions)) between count server client r)
      × (n.world.marks ≡ o.world.marks)) (sym said)
      (subst (λ (g : List Order). (n : Reached read reads moments timed b fair g between count server client (reports_in actions))
      × (n.world.marks ≡ o.world.marks)) (sym begun) (o, refl))

  -- nor does one behind which the client stands as before
  pub idle_same : (action : Action client_side) (actions : List (Action client_side)) {between : Between} {count : ℕ} {server : Stand server_side}
      {client : Stand client_side} (o : At actions between count server client) (next : Between) (new : Stand client_side) → new ≡ client → next ≡ between
      → begun_by (moments (number_in actions)) action ≡ [] → reports_of action ≡ [] → Again (action ∷ actions) next count server new o.world.marks
  idle_same action actions {between} {count} {server} {client} o next new same ways begins reports =
      subst (λ (c : Stand client_side). Again (action ∷ actions) next count server c o.world.marks) (sym same)
      (subst (λ (m : Between). Again (action ∷ actions) m count server client o.world.marks) (sym ways) (idle_again action actions o begins reports))

  -- an action of the client as where none breaks
  pub client_step : (action : Action client_side) → BreaksNone action → (old new : Stand client_side) → ClientTries action old.owner new.owner
      → (actions : List (Action client_side))
      → AreCarried (begun_at moments actions) → (p q : Between) → CanTurn (Client action) p q → (count : ℕ) (server : Stand server_side)
      → (o : At actions p count server old) → Done action old new → Again (action ∷ actions) q count server new (marked_by action o.world.marks)
  client_step action unbroken old new is actions puts p q can count server o did =
      let plain = client_plain read reads moments timed b fair action unbroken old new is actions puts p count server (reports_in actions) o did in
      let went = client_goes read reads moments timed b fair action unbroken old new is actions puts p q can count server (reports_in actions) o plain did in
      again action actions o (marked_by action o.world.marks) q new went.0 went.1 plain
      (client_fresh read reads moments timed b fair action unbroken old new is actions puts p q can count server (reports_in actions) o did)

  -- what an action of the server leads to
  served : (action : Action server_side) (old new : Stand server_side) (actions : List (Action client_side)) (before : List (Action server_side)) (p q : Between)
      (client : Stand client_side) → StaysFresh q client → (o : At actions p (listened_in before) old client)
      → Goes read [] (begun_at moments actions) q (listened_in (action ∷ before)) new client (reports_in actions) o.world → ServerServes new.owner
      → Again actions q (listened_in (action ∷ before)) new client o.world.marks
  served action old new actions before p q client fresh o went serves =
      went_again actions o o.world.marks q (listened_in (action ∷ before)) new client went serves o.sound o.plain fresh

  -- a write of the server's data connection fails: it is told of nothing
  server_failed : (old new : Stand server_side) → ServerIsCalm old.owner new.owner → (actions : List (Action client_side)) → AreCarried (begun_at moments actions)
      → (before : List (Action server_side)) → (p : Between) → (client : Stand client_side) → (o : At actions p (listened_in before) old client)
      → Calls {side = server_side} Failed old new → Goes read [] (begun_at moments actions) p (listened_in before) new client (reports_in actions) o.world
  server_failed old new calm actions puts before p client o did =
      let channel : new.owner.channel ≡ with_fate Fates.Failed old.owner.channel = did.0.1.0 in
      let view : new.owner.end.server.view ≡ old.owner.end.server.view = ap (λ at. at.server.view) did.0.0 in
      let session : new.owner.end.server.view.session ≡ old.owner.end.server.view.session = ap (λ (v : Far). v.session) view in
      let t = o.together in
      server_stays read (begun_at moments actions) old new client (reports_in actions) o.world calm o.serves
      (known read reads moments timed b fair actions p (listened_in before) old client (reports_in actions) o puts) o.last o.ahead o.ahead p p
      (listened_in before) (listened_in before) t
      (subst (λ (s : Session). Fits o.ahead s.connection) (sym session) t.beside.fits) (ap (λ f. clock_step o.last (far_ahead o.ahead f)) (sym view)) (λ l. l)
      (λ e. e) (ap (λ (s : Stand server_side). s.unheard ++ p.control.to_server) (sym did.1)) refl
      (ap (λ (l : Channel). l.untold ++ (p.data_ways.to_server ++ client.owner.channel.unwritten)) (sym channel))
      (ap (λ (l : Channel). client.owner.channel.untold ++ (p.data_ways.to_client ++ l.unwritten)) (sym channel)) refl
      (subst (λ (s : Session). Holds o.ahead p.far s) (sym session) t.holds)
      (record {
        bare = λ e. ap (λ (l : Channel). l.untold) channel ∙ t.comes.bare (ap (λ (l : Channel). l.stands) (sym channel) ∙ e);
        spare = λ e. ap (λ (l : Channel). l.untold) channel ∙ t.comes.spare e;
        over = λ e. absurd (both (ap (λ (l : Channel). is_whole l.fate) channel) e);
        shut = λ e. absurd (both (ap (λ (l : Channel). is_whole l.fate) channel) e);
      })
      (record {
        spare = λ e. ap (λ (l : Channel). l.unwritten) channel ∙ t.serves.spare e;
        bare = λ e. ap (λ (l : Channel). l.unwritten) channel ∙ t.serves.bare (ap (λ (l : Channel). l.stands) (sym channel) ∙ e);
      })

  -- an action of the server that is told of no break, as a world sees it
  pub server_step : (action : Action server_side) (old new : Stand server_side) → IsLone action old.owner → ServerIsCalm old.owner new.owner
      → (actions : List (Action client_side))
      → AreCarried (begun_at moments actions) → (before : List (Action server_side)) → ArePorts (action ∷ before) → (p q : Between) → Sees action old p q
      → (client : Stand client_side) → (o : At actions p (listened_in before) old client)
      → (did : Done action old new) → IsToldAt action old new did (last_of moments (number_in actions))
      → Again actions q (listened_in (action ∷ before)) new client o.world.marks
  server_step (Other Failed) old new is calm actions puts before ports p q can client o did told =
      served (Other Failed) old new actions before p q client (sees_fresh (Other Failed) old is p q client o.fresh can) o
      (subst (λ (m : Between). Goes read [] (begun_at moments actions) m (listened_in before) new client (reports_in actions) o.world) (sym can)
      (server_failed old new calm actions puts before p client o did))
      (record {
        running = ap (λ at. at.server.view.session.life) did.0.0 ∙ o.serves.running;
        none_waits = ap (λ at. at.server.view.waiting) did.0.0 ∙ o.serves.none_waits;
      })
  server_step (Other Break) old new is calm actions puts before ports p q can client o did told = absurd is
  server_step (Other (Left (Reset left written))) old new is calm actions puts before ports p q can client o did told =
      served (Other (Left (Reset left written))) old new actions before p q client
      (sees_fresh (Other (Left (Reset left written))) old is p q client o.fresh can) o
      (subst (λ (m : Between). Goes read [] (begun_at moments actions) m (listened_in before) new client (reports_in actions) o.world) (sym can.1)
      (server_resets read (begun_at moments actions) old new client (reports_in actions) o.world calm o.serves
      (known read reads moments timed b fair actions p (listened_in before) old client (reports_in actions) o puts) left written o.last o.ahead p
      (listened_in before) o.together did can.0))
      (action_serves (Other (Left (Reset left written))) tt old new (tt, calm) did o.serves)
  server_step action old new is calm actions puts before ports p q can client o did told =
      let serves : ServerTransfers action old.owner new.owner = (is, calm) in
      let went =
      server_goes read reads moments timed b fair action tt old new serves actions puts before ports p q can client (reports_in actions) o did told in
      served action old new actions before p q client (sees_fresh action old is p q client o.fresh can) o went.0 went.1

  -- the server is told of the break of what is to close: what it did not write is on its way
  pub told_late : (old new : Stand server_side) → ServerIsCalm old.owner new.owner → Calls {side = server_side} Break old new
      → old.owner.end.server.view.session.closing ≡ true → (actions : List (Action client_side)) → AreCarried (begun_at moments actions)
      → (before : List (Action server_side)) (p : Between) → p.far ≡ Has → (client : Stand client_side)
      → (o : At actions p (listened_in before) (dried old) client) → Again actions (dropped (dried old) p) (listened_in before) (dried new) client o.world.marks
  told_late old new calm did closing actions puts before p has client o =
      let was : ServerServes old.owner = record { running = o.serves.running; none_waits = o.serves.none_waits } in
      let is : new.owner.end.server.view ≡ clock_step did.0.0.0 old.owner.end.server.view = closing_is old new calm was did closing in
      served (Other Break) (dried old) (dried new) actions before p (dropped (dried old) p) client (λ called. absurd (true≢false (sym called))) o
      (server_told_late read (begun_at moments actions) (dried old) (dried new) client (reports_in actions) o.world calm o.serves
      (known read reads moments timed b fair actions p (listened_in before) (dried old) client (reports_in actions) o puts) did.0.0.0 o.last o.ahead p
      (listened_in before) o.together is closing has (ap (λ (y : Stand server_side). y.unheard) did.1) (ap (λ (l : Channel). l.untold) did.0.1)
      (ap (λ (l : Channel). (dry l).unwritten) did.0.1))
      (record {
        running = ap (λ (f : Far). f.session.life) is ∙ o.serves.running;
        none_waits = ap (λ (f : Far). f.waiting) is ∙ o.serves.none_waits;
      })
