-- A server takes octets of an upload, and is told of their end, as events of a world.
use Rattle.std.proofs.Common.{◌≡◌, ℕ, ◌<◌, ◌≤◌, true, false, true≢false, List, [], ◌∷◌, ◌++◌, length, take, refl, sym, ap, ap₂, subst, ◌∙◌, append_assoc, arith, length-append}
use Rattle.std.proofs.lemmas.List.{take-append-le}
use Rattle.ftp_ports.specs.Actions.{Calls, Stand}
use Rattle.ftp_ports.specs.Channel.{Channel, with_fate, with_untold}
use Rattle.ftp_ports.specs.Machine.{End, Received}
use Rattle.ftp_ports.specs.declared.whole.Fate.TheVariants.{Over}
use Rattle.ftp_client_driver.specs.Side.{client_side}
use Rattle.ftp_client_model.specs.Calls as near
use Rattle.ftp_direct.specs.Direct.{State}
use Rattle.ftp_ends.specs.declared.link.Wants.TheVariants as Want
use Rattle.ftp_operation.specs.Answer.{Said}
use Rattle.ftp_server_driver.specs.alone.Side.{server_side}
use Rattle.ftp_server_model.specs.Calls as far
use Rattle.ftp_server_model.specs.Calls.{clock_step, end_step, is_upload, may_receive, receives}
use Rattle.ftp_server_model.specs.Machine.{IsReading, Reading, later}
use Rattle.ftp_server_model.specs.View.{View as Far}
use Rattle.ftp_server_model.specs.declared.session.ServerLink.TheVariants as Data
use Rattle.laws_world.specs.Agreement.{Order}
use Rattle.laws_world.specs.Events.{DataToServer, pushed}
use Rattle.laws_world.specs.World.{ClosedByNear, World, gone, port_at}
use Rattle.laws_agreement.specs.Over.{OverRuns}
use Rattle.laws_drivers.specs.control.Alone.{ServerIsCalm}
use Rattle.laws_drivers.specs.control.Between.{Between, Can, Far as TheServer}
use Rattle.laws_drivers.specs.control.Touches.{ToldEnd}
use Rattle.laws_drivers.proofs.control.Calm.{first_is_calm}
use Rattle.laws_drivers.proofs.control.Worlds.{LeadsOn}
use Rattle.laws_drivers.specs.world.Ahead.{accepts, is_asked, is_open}
use Rattle.laws_transfers.specs.Ahead.{Ahead, Level, Listened, Listens, Opens, Parted, far_ahead}
use Rattle.laws_drivers.proofs.world.Ahead.{closed_is}
use Rattle.laws_drivers.proofs.world.Moves.{Rested, take_front}
use Rattle.laws_drivers.proofs.world.Rising.{far_ends, far_takes}
use Rattle.laws_drivers.proofs.world.Served.{Runs, far_wants, settled}
use Rattle.laws_transfers.proofs.Ahead.{FarSettles, far_settles, left_rests, next_ahead}
use Rattle.laws_drivers.proofs.events.Holding.{both, is_false, is_had, is_sound}
use Rattle.laws_drivers.proofs.events.FarForms.{no_close, none_later}
use Rattle.laws_drivers.proofs.events.Stands.{ClientFetches, ServerServes}
use Rattle.laws_transfers.proofs.Beside.{Comes, Goes, Together, Writes, rested}
use Rattle.laws_transfers.proofs.FarForms.{Takes, end_shut, is_receive, may_front, receives_beside, receives_upload, upload_takes}
use Rattle.laws_transfers.proofs.Known.{AreCarried, Known, is_near_held}
use Rattle.laws_transfers.proofs.ServerStays.{server_stays}
use Rattle.laws_transfers.proofs.Settling.{all_stays, far_held}
use Rattle.laws_transfers.proofs.Taking.{TakesOn, ends_on, takes_on}

module _ (read : Reading) (reads : IsReading read) (from : State) (begun : List Order) (puts : AreCarried begun) (old new : Stand server_side)
    (client : Stand client_side) (reports : List Said) (w : World) (calm : ServerIsCalm old.owner new.owner) (before : ServerServes old.owner)
    (asks : ClientFetches client.owner) (known : Known w) (runs : OverRuns read from begun w) where
  abbrev v : Far
  v = old.owner.end.server.view

  abbrev u : Far
  u = new.owner.end.server.view

  -- events lead on to a world that is so again, and the server serves
  abbrev Went : Between → ℕ → Type 0
  Went between told = Goes read [] begun between told new client reports w × ServerServes new.owner

  -- a server that wants octets takes those of an upload
  module _ (wants : far.wants v ≡ Want.Receive) (moment : ℕ) (ahead : Ahead) (between : Between) (told : ℕ)
      (t : Together read begun moment ahead between told old client reports w) where
    unclosed : v.session.closing ≡ false
    unclosed = no_close v Want.Receive wants refl

    takes : is_upload v.session.connection ≡ true
    takes =
        sym (receives_upload v.session.connection) ∙ ap is_receive (sym (far_wants v before.running unclosed)) ∙ ap is_receive wants

    form : Takes v.session.connection
    form = upload_takes v.session.connection takes

    had : is_had between.far ≡ true
    had = t.holds.had form.opened

    r : Rested w
    r = rested moment ahead between told old client reports w t.beside before asks

  -- ---- octets are taken

  module _ (octets : List ℕ) (count : ℕ) (moment : ℕ) (between : Between) (told : ℕ) (did : Calls {side = server_side} (Received octets count) old new)
      (t : Together read begun moment Level between told old client reports w) where
    open_now : v.session.closing ≡ false
    open_now = unclosed did.0.2.1 moment Level between told t

    is : u ≡ receives v (take count octets)
    is = did.0.0.0.done calm

    channel : new.owner.channel ≡ with_untold new.owner.channel.untold old.owner.channel
    channel = did.0.1.1

    wf : w.far ≡ clock_step moment v
    wf = t.beside.far ∙ ap (clock_step moment) (closed_is v open_now)

    abbrev ways : List ℕ
    ways = between.data_ways.to_server ++ client.owner.channel.unwritten

    comes : Comes between.far u.session new.owner.channel
    comes = record {
      bare = λ e. absurd (both (ap (λ (l : Channel). l.stands) channel ∙ did.0.2.0.0) e);
      spare = λ e. absurd (both (had did.0.2.1 moment Level between told t) e);
      over = λ e. absurd (both (ap (λ (l : Channel). is_sound l.fate) channel ∙ ap is_sound did.0.2.0.1) e);
      shut = λ e. absurd (both (ap (λ (l : Channel). is_sound l.fate) channel ∙ ap is_sound did.0.2.0.1) e);
    }

    serves : Writes between.far new.owner.channel
    serves = record {
      spare = λ e. absurd (both (had did.0.2.1 moment Level between told t) e);
      bare = λ e. absurd (both (ap (λ (l : Channel). l.stands) channel ∙ did.0.2.0.0) e);
    }

    -- none is
    none_taken : take count octets ≡ [] → Went between told
    none_taken none =
        let same : u ≡ v = is ∙ ap (receives v) none in (
          server_stays read begun old new client reports w calm before known moment Level Level between between told told t
              (ap (λ (f : Far). is_asked f.session.connection) same ∙ (form did.0.2.1 moment Level between told t).unasked)
              (ap (λ f. clock_step moment (far_ahead Level f)) (sym same)) (λ l. l) (λ e. e)
              (ap (λ (s : Stand server_side). s.unheard ++ between.control.to_server) (sym did.1)) refl
              (ap (λ o. o ++ ways) (did.0.1.0 ∙ ap (λ o. o ++ new.owner.channel.untold) none))
              (ap (λ (l : Channel). client.owner.channel.untold ++ (between.data_ways.to_client ++ l.unwritten)) (sym channel)) refl
              (record {
                shut = λ e. absurd (both e (ap (λ (f : Far). f.session.closing) same ∙ open_now));
                had = λ e. had did.0.2.1 moment Level between told t;
                called = λ c e.
                    absurd (both e (ap (λ (f : Far). accepts f.session.connection) same ∙ (form did.0.2.1 moment Level between told t).alone));
                opened = λ e. absurd (true≢false (sym e));
              })
              comes serves,
          record {
            running = ap (λ (f : Far). f.session.life) same ∙ before.running;
            none_waits = ap (λ (f : Far). f.waiting) same ∙ before.none_waits;
          },
        )

    module _ (octet : ℕ) (more : List ℕ) (some : take count octets ≡ octet ∷ more) where
      abbrev all : List ℕ
      all = octet ∷ more

      abbrev rest : List ℕ
      rest = new.owner.channel.untold ++ ways

      rest_here : Rested w
      rest_here = r did.0.2.1 moment Level between told t

      queue : w.data_to_server ≡ all ++ rest
      queue = t.beside.rising ∙ ap (λ o. o ++ ways) (did.0.1.0 ∙ ap (λ o. o ++ new.owner.channel.untold) some) ∙ append_assoc all new.owner.channel.untold ways

      -- a world takes them as the drive does
      got : receives w.far all ≡ clock_step moment u
      got =
          ap (λ f. receives f all) wf ∙ (receives_beside all v before.none_waits).0 moment ∙ ap (clock_step moment) (ap (receives v) (sym some) ∙ sym is)

      few : length all ≤ length w.data_to_server
      few = subst (λ q. length all ≤ length q) (sym queue) (omega (arith, length-append all rest))

      on : TakesOn (receives w.far all)
      on =
          subst (λ q. TakesOn (receives w.far q)) (ap (take (length all)) queue ∙ take_front all rest)
          (takes_on read reads from begun puts w (length all) octet (more ++ rest) queue few runs t.beside.unready)

      may : (k : ℕ) → k < length all → may_receive (receives w.far (take k w.data_to_server)) ≡ true
      may k less =
          let within : k ≤ length all = omega (arith, less) in
          ap₂ (λ f q. may_receive (receives f (take k q))) wf queue
          ∙ ap (λ q. may_receive (receives (clock_step moment v) q)) (take-append-le k all rest within)
          ∙ ap may_receive ((receives_beside (take k all) v before.none_waits).0 moment)
          ∙ may_front all v (subst (far.MayReceive v) some (did.0.0.0.may calm)) k less

      abbrev now : World
      now = record w { far = receives w.far all; data_to_server = rest; came = (pushed read DataToServer (length all) w).came; taken = all }

      takes_still : Takes (receives w.far all).session.connection
      takes_still = upload_takes (receives w.far all).session.connection on.takes

      stays : settled now ≡ now
      stays = all_stays now rest_here.none rest_here.near_open on.unclosed takes_still.unasked

      link : u.session.connection ≡ (receives w.far all).session.connection
      link = ap (λ (f : Far). f.session.connection) (sym got)

      open_then : u.session.closing ≡ false
      open_then = ap (λ (f : Far). f.session.closing) (sym got) ∙ on.unclosed

      some_taken : Went between told
      some_taken =
          let b = t.beside in (
            record {
              world = now;
              leads = subst (λ x. LeadsOn read [] w x) stays
                  (far_takes read octet more rest w rest_here queue may on.runs (pushed read DataToServer (length all) w).came refl);
              moment = moment;
              ahead = Level;
              marked = refl;
              together = record {
                beside = record {
                  fits = ap is_asked link ∙ takes_still.unasked;
                  near = b.near;
                  far = got ∙ ap (clock_step moment) (sym (closed_is u open_then));
                  to_server = b.to_server ∙ ap (λ (y : Stand server_side). y.unheard ++ between.control.to_server) (sym did.1);
                  to_client = b.to_client;
                  rising = refl;
                  falling = λ e. b.falling e ∙ ap (λ (l : Channel). client.owner.channel.untold ++ (between.data_ways.to_client ++ l.unwritten)) (sym channel);
                  listens = b.listens;
                  reported = b.reported;
                  control = b.control;
                  unready = λ e. takes_still.begun;
                  cutoff = b.cutoff;
                };
                holds = record {
                  shut = λ e. absurd (both e open_then);
                  had = λ e. had did.0.2.1 moment Level between told t;
                  called = λ c e. absurd (both e (ap accepts link ∙ takes_still.alone));
                  opened = λ e. absurd (true≢false (sym e));
                };
                comes = comes;
                serves = serves;
                takes = t.takes;
                gives = t.gives;
                keeping = record { had = t.keeping.had; shut = t.keeping.shut; over = t.keeping.over };
                twin = λ e. absurd (true≢false (sym e));
              };
            },
            record {
              running = ap (λ (f : Far). f.session.life) (sym got) ∙ on.runs.running;
              none_waits = ap (λ (f : Far). f.waiting) (sym got) ∙ on.runs.none_waits;
            },
          )

    received_level : Went between told
    received_level = by_octets (take count octets) refl
      where
        by_octets : (given : List ℕ) → take count octets ≡ given → Went between told
        by_octets [] none = none_taken none
        by_octets (octet ∷ more) some = some_taken octet more some

  pub server_received : (octets : List ℕ) (count : ℕ) (moment : ℕ) (ahead : Ahead) (between : Between) (told : ℕ)
      → Calls {side = server_side} (Received octets count) old new → Together read begun moment ahead between told old client reports w → Went between told
  server_received octets count moment Level between told did t = received_level octets count moment between told did t
  server_received octets count moment Opens between told did t =
      absurd (both t.beside.fits (form did.0.2.1 moment Opens between told t).alone)
  server_received octets count moment (Listens port) between told did t =
      absurd (both t.beside.fits (form did.0.2.1 moment (Listens port) between told t).unasked)
  server_received octets count moment (Parted accepted) between told did t =
      absurd (both (takes did.0.2.1 moment (Parted accepted) between told t) (left_rests accepted v.session.connection t.beside.fits).0)

  -- ---- the end is told

  module _ (moment : ℕ) (between next : Between) (told : ℕ) (did : Calls {side = server_side} End old new) (can : Can TheServer ToldEnd between next)
      (timed : is_upload w.far.session.connection ≡ true → w.far.context.moment ≡ did.0.0.0)
      (t : Together read begun moment Level between told old client reports w) where
    end_open : v.session.closing ≡ false
    end_open = unclosed did.0.2 moment Level between told t

    end_takes : is_upload v.session.connection ≡ true
    end_takes = takes did.0.2 moment Level between told t

    end_far : w.far ≡ clock_step moment v
    end_far = t.beside.far ∙ ap (clock_step moment) (closed_is v end_open)

    end_up : is_upload w.far.session.connection ≡ true
    end_up = ap (λ (f : Far). is_upload f.session.connection) end_far ∙ end_takes

    -- at the moment that it was told
    end_at : w.far ≡ clock_step did.0.0.0 v
    end_at = end_far ∙ ap (λ m. clock_step m v) (sym (ap (λ (f : Far). f.context.moment) end_far) ∙ timed end_up)

    end_left : is_near_held w.link ≡ false
    end_left = is_false (is_near_held w.link) (λ e. both (t.keeping.had e) (ap is_had can.0))

    link_closed : w.link ≡ ClosedByNear
    link_closed = known.takes end_up end_left

    empty : w.data_to_server ≡ []
    empty =
        t.beside.rising ∙ ap (λ o. o ++ (between.data_ways.to_server ++ client.owner.channel.unwritten)) did.0.1.3
        ∙ ap₂ (λ a o. a ++ o) can.1 (t.gives.spare (ap is_had can.0))

    end_rested : Rested w
    end_rested = r did.0.2 moment Level between told t

    over : Runs (far.data_end w.far) × (near.to_give w.near ≡ [])
    over = ends_on read reads from begun puts w link_closed empty runs t.beside.unready

    -- the drive's server is told the same
    there : far.data_end w.far ≡ u
    unfolding far.data_end
    there =
        let acts = did.0.0.3 in
        let calls = did.0.0.4 in
        let first : did.0.0.1.counts ≡ old.owner.end.server.counts =
        first_is_calm old.owner.end.server.counts did.0.0.1.counts new.owner.end.server.counts acts.counted calls.counted calm in
        let mid : did.0.0.1.view ≡ clock_step did.0.0.0 v = acts.done first ∙ none_later (clock_step did.0.0.0 v) before.none_waits in
        ap (λ f. later (end_step f)) (end_at ∙ sym mid) ∙ sym (calls.done (calm ∙ sym first))

    freed : u.session.connection ≡ Data.Free
    unfolding far.data_end
    freed =
        let f : Far = clock_step did.0.0.0 v in
        let free = end_shut f end_open end_takes in
        ap (λ (x : Far). x.session.connection) (sym there ∙ ap (λ x. later (end_step x)) end_at ∙ none_later (end_step f) (free.1 ∙ before.none_waits)) ∙ free.0

    abbrev end_now : World
    end_now = gone (record w { far = far.data_end w.far; taken = [] })

    f : FarSettles end_now (settled end_now)
    f = far_settles end_now end_rested.none end_rested.near_open refl

    abbrev port : ℕ
    port = port_at w.listens

    unasked : is_asked (far.data_end w.far).session.connection ≡ false
    unasked = ap (λ (x : Far). is_asked x.session.connection) there ∙ ap is_asked freed

    channel_then : new.owner.channel ≡ with_fate Over old.owner.channel
    channel_then = did.0.1.0

    untold : new.owner.channel.untold ≡ []
    untold = ap (λ (l : Channel). l.untold) channel_then ∙ did.0.1.3

    -- nothing goes to the client
    nothing_falls : w.data_to_client ≡ []
    nothing_falls = known.ended end_left

    held_not : is_near_held (settled end_now).link ≡ true → ⊥
    held_not e = true≢false (sym (far_held end_now end_rested.near_open e))

    ended_level : Went next told
    ended_level =
        let b = t.beside in (
          record {
            world = settled end_now;
            leads = far_ends read w end_rested link_closed empty over.1 over.0;
            moment = u.context.moment;
            ahead = Level;
            marked = f.same.marks;
            together = record {
              beside = record {
                fits = ap is_asked freed;
                near = f.near ∙ b.near;
                far = f.far ∙ ap (λ a. far_ahead (next_ahead a port) (far.data_end w.far)) unasked ∙ ap (far_ahead Level) there;
                to_server = f.same.to_server ∙ b.to_server
                    ∙ ap₂ (λ (y : Stand server_side) (m : Between). y.unheard ++ m.control.to_server) (sym did.1) (sym can.2);
                to_client = f.same.to_client ∙ b.to_client ∙ ap (λ (m : Between). client.unheard ++ m.control.to_client) (sym can.2);
                rising = f.same.data_to_server ∙ sym empty ∙ b.rising
                    ∙ ap₂ (λ (l : Channel) (m : Between). l.untold ++ (m.data_ways.to_server ++ client.owner.channel.unwritten)) (sym channel_then) (sym can.2);
                falling = λ e. f.same.data_to_client ∙ sym nothing_falls ∙ b.falling e
                    ∙ ap₂ (λ (l : Channel) (m : Between). client.owner.channel.untold ++ (m.data_ways.to_client ++ l.unwritten)) (sym channel_then) (sym can.2);
                listens = subst (λ a. Listened (next_ahead a port) w.listens (settled end_now).listens) unasked f.listens ∙ b.listens;
                reported = f.reports ∙ b.reported;
                control = f.same.control ∙ b.control;
                unready = λ e. absurd (both e f.same.link);
                cutoff = f.same.cutoff ∙ b.cutoff;
              };
              holds = record {
                shut = λ e. ap is_open freed;
                had = λ e. absurd (both e (ap is_open freed));
                called = λ c e. absurd (both e (ap accepts freed));
                opened = λ e. absurd (true≢false (sym e));
              };
              comes = record { bare = λ e. untold; spare = λ e. untold; over = λ e. untold; shut = λ e. ap is_open freed };
              serves = subst (λ (m : Between). Writes m.far new.owner.channel) (sym can.2) (record {
                spare = λ e. ap (λ (l : Channel). l.unwritten) channel_then ∙ t.serves.spare e;
                bare = λ e. ap (λ (l : Channel). l.unwritten) channel_then ∙ t.serves.bare (ap (λ (l : Channel). l.stands) (sym channel_then) ∙ e);
              });
              takes = t.takes;
              gives = subst (λ (m : Between). Writes m.near client.owner.channel) (sym can.2) t.gives;
              keeping = record {
                had = λ e. absurd (held_not e);
                shut = λ e. is_false (is_near_held (settled end_now).link) held_not;
                over = λ e. is_false
                    (is_near_held (settled end_now).link) held_not;
              };
              twin = λ e. absurd (true≢false (sym e));
            };
          },
          record {
            running = ap (λ (x : Far). x.session.life) (sym there) ∙ over.0.running;
            none_waits = ap (λ (x : Far). x.waiting) (sym there) ∙ over.0.none_waits;
          },
        )

  pub server_told_end : (moment : ℕ) (ahead : Ahead) (between next : Between) (told : ℕ) (did : Calls {side = server_side} End old new)
      → Can TheServer ToldEnd between next
      → (is_upload w.far.session.connection ≡ true → w.far.context.moment ≡ did.0.0.0) → Together read begun moment ahead between told old client reports w
      → Went next told
  server_told_end moment Level between next told did can timed t = ended_level moment between next told did can timed t
  server_told_end moment Opens between next told did can timed t = absurd (both t.beside.fits (form did.0.2 moment Opens between told t).alone)
  server_told_end moment (Listens port) between next told did can timed t =
      absurd (both t.beside.fits (form did.0.2 moment (Listens port) between told t).unasked)
  server_told_end moment (Parted accepted) between next told did can timed t =
      absurd (both (takes did.0.2 moment (Parted accepted) between told t) (left_rests accepted v.session.connection t.beside.fits).0)
