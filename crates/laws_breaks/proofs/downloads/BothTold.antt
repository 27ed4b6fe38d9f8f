-- A client that is told of a break after its server was: then a world tells both, its server says what the drive's said since, and its client hears what the
-- drive's heard. So a world is beside both again. And a server that is told of a break after its client was.
use Rattle.std.proofs.Common.{◌≡◌, inl, inr, ℕ, ◌<◌, true, false, true≢false, List, [], ◌∷◌, ◌++◌, length, take, drop, None, refl, sym, ap, ap₂, subst, ◌∙◌, append_assoc, append-nil, take-append-drop, arith}
use Rattle.std.proofs.lemmas.List.{take-append-le}
use Rattle.ftp_ports.specs.Actions.{Calls, Action, Heard, HearsNext, Other, Said as Says, Says as SaysNext, Stand}
use Rattle.ftp_ports.specs.Channel.{Channel, with_fate}
use Rattle.ftp_ports.specs.Machine.{Break, seen}
use Rattle.ftp_ports.specs.Unheard.{Source}
use Rattle.ftp_ports.specs.declared.whole.Fate.TheVariants as Fates
use Rattle.ftp_client_driver.specs.Side.{client_side}
use Rattle.ftp_client_model.specs.Calls as near
use Rattle.ftp_client_model.specs.Calls.{data_fault, hears, is_sound, may_hear}
use Rattle.ftp_client_model.specs.Plan.{count_of}
use Rattle.ftp_client_model.specs.View.{View as Near}
use Rattle.ftp_ends.specs.declared.link.Wants.TheVariants as Want
use Rattle.ftp_server_driver.specs.alone.Side.{Timed, server_side}
use Rattle.ftp_server_model.specs.Calls as far
use Rattle.ftp_server_model.specs.Calls.{clock_step, control_step}
use Rattle.ftp_server_model.specs.Failing.{Counts}
use Rattle.ftp_server_model.specs.Machine.{IsReading, Reading}
use Rattle.ftp_server_model.specs.View.{View as Far}
use Rattle.laws_world.specs.Claims.{Beginning, IsFair}
use Rattle.laws_world.specs.World.{Broken, World, marked_last}
use Rattle.laws_drivers.proofs.world.Moves.{drop_front, take_front}
use Rattle.laws_drivers.specs.control.Alone.{ServerIsCalm, reports_in}
use Rattle.laws_drivers.specs.control.Between.{Between, Can, Far as TheServer, Has_lost, Near as TheClient}
use Rattle.laws_drivers.specs.control.Touches.{ToldBreak}
use Rattle.laws_drivers.specs.events.Actions.{ArePorts, listened_in}
use Rattle.laws_drivers.proofs.events.FarForms.{none_later}
use Rattle.laws_drivers.proofs.events.Fresh.{Fresh}
use Rattle.laws_drivers.proofs.events.Holding.{both, is_called, is_had, is_sound as is_whole}
use Rattle.laws_drivers.proofs.events.Plain.{IsPlainBy, IsPlainly, Whatever, hears_plain}
use Rattle.laws_drivers.proofs.events.Stands.{ServerServes}
use Rattle.laws_transfers.specs.Ahead.{Level}
use Rattle.laws_drivers.specs.events.Moments.{AreMoments, begun_at}
use Rattle.laws_transfers.proofs.Beside.{Takes, Together, is_taking}
use Rattle.laws_transfers.proofs.Called.{StaysFresh}
use Rattle.laws_transfers.proofs.ClientStays.{client_keeps}
use Rattle.laws_transfers.proofs.Known.{AreCarried}
use Rattle.laws_transfers.proofs.Simulating.{known}
use Rattle.laws_breaks.specs.downloads.Actions.{ClientSuffers, HasTaken}
use Rattle.laws_breaks.proofs.downloads.BothBroken.{both_broken, broke, level, none_there, told_is}
use Rattle.laws_breaks.proofs.downloads.ClientBroken.{broken_channel}
use Rattle.laws_breaks.proofs.downloads.Drained.{dried, dry}
use Rattle.laws_breaks.proofs.downloads.Faults.{faulted, faulted_plain, loads_taken}
use Rattle.laws_breaks.proofs.downloads.Feeding.{Gives}
use Rattle.laws_breaks.proofs.downloads.Laden.{loading_laden}
use Rattle.laws_breaks.proofs.downloads.Lagging.{Lags, OfMarks, Then, Whole, beside, unbroken}
use Rattle.laws_breaks.proofs.downloads.Last.{AreFew, LastAll, last_few, short_few}
use Rattle.laws_breaks.proofs.downloads.Preceding.{Precedes, asks_all, behind, gives_at, gives_now, near_at, near_is, steady, steady_here, steady_now, unaware}
use Rattle.laws_breaks.proofs.downloads.Rows.{Steady}
use Rattle.laws_breaks.proofs.downloads.Steps.{Again, At, both_again, client_step, recounted, same_again, server_step}
use Rattle.laws_breaks.proofs.downloads.Unaware.{late_break, steady_told}
use Rattle.laws_breaks.proofs.downloads.Untold.{Loading, fault_told, loading_of, loading_short, loads_of, told_wants}
use Rattle.laws_breaks.proofs.downloads.Unsent.{Unsent, unsent_kept}

-- none counted
no_counts : Counts
no_counts = record { refusals = 0; failures = record { told = 0; strays = 0 } }

-- a server that holds this
abbrev holding : Far → Timed
holding view = record { server = record { view = view; counts = no_counts }; told = None }

-- one that stands so
abbrev standing : Far → Channel → Source → List ℕ → Stand server_side
standing view channel left unheard = record { owner = record { end = holding view; channel = channel }; left = left; unheard = unheard; written = None }

module _ (read : Reading) (reads : IsReading read) (moments : ℕ → ℕ) (timed : AreMoments moments) (b : Beginning) (fair : IsFair b) where
  abbrev Stands : (actions : List (Action client_side)) (between : Between) (count : ℕ) (server : Stand server_side) (client : Stand client_side) → Type 0
  Stands actions between count server client = At read reads moments timed b fair actions between count server client

  -- what is to be heard may lie between, or be read
  pub resplit : (actions : List (Action client_side)) → AreCarried (begun_at moments actions) → (between next : Between) (count : ℕ) (server : Stand server_side)
      (old new : Stand client_side) (o : Stands actions between count server old) → new.owner ≡ old.owner
      → next.control.to_server ≡ between.control.to_server → old.unheard ++ between.control.to_client ≡ new.unheard ++ next.control.to_client
      → next.data_ways ≡ between.data_ways → next.far ≡ between.far → next.near ≡ between.near
      → Again read reads moments timed b fair actions next count server new o.world.marks
  resplit actions carried between next count server old new o same other queue ways far near =
      let t = o.together in
      let channel : new.owner.channel ≡ old.owner.channel = ap (λ x. x.channel) same in
      let view : new.owner.end.view ≡ old.owner.end.view = ap (λ x. x.end.view) same in
      same_again read reads moments timed b fair actions o o.world.marks next new
      (client_keeps read (begun_at moments actions) server old new (reports_in actions) o.world (ap (λ x. x.end.refusals) same)
      (known read reads moments timed b fair actions between count server old _ o carried) o.last o.ahead between next count t view other queue
      (ap₂ (λ d (l : Channel). server.owner.channel.untold ++ (d.to_server ++ l.unwritten)) (sym ways) (sym channel))
      (λ e. (ap is_taking (sym channel) ∙ e, ap₂ (λ d (l : Channel). l.untold ++ (d.to_client ++ server.owner.channel.unwritten)) (sym ways) (sym channel))) far
      (subst Takes (sym channel) t.takes)
      (record {
        spare = λ e. ap (λ (l : Channel). l.unwritten) channel ∙ t.gives.spare (ap is_had (sym near) ∙ e);
        bare = λ e. ap (λ (l : Channel). l.unwritten) channel ∙ t.gives.bare (ap (λ (l : Channel). l.stands) (sym channel) ∙ e);
      })
      (λ e. ap is_had near ∙ t.keeping.had e) (λ e. t.keeping.over (ap (λ (l : Channel). is_whole l.fate) (sym channel) ∙ e)))
      (ap (λ (v : Near). is_sound v.standing) view ∙ o.sound) (subst IsPlainly (sym view) o.plain)
      (λ called.
      let f = o.fresh (ap is_called (sym far) ∙ called) in
      record {
        plain = subst (IsPlainBy Fresh) (sym view) f.plain;
        untold = ap (λ (l : Channel). l.untold) channel ∙ f.untold;
        none = ap (λ d. d.to_client) ways ∙ f.none;
      })

  -- ---- the client is told last

  module _ {Are : OfMarks} (actions : List (Action client_side)) (carried : AreCarried (begun_at moments actions)) (before : List (Action server_side))
      (ports : ArePorts before)
      (p q : Between) (server : Stand server_side) (old new : Stand client_side)
      (l : Precedes read reads moments timed b fair Are actions p (listened_in before) server old)
      (is : ClientSuffers (Other Break) old.owner new.owner) (can : Can TheClient ToldBreak p q) (did : Calls {side = client_side} Break old new) where
    abbrev count : ℕ
    count = listened_in before

    abbrev w : World
    w = l.at.world

    abbrev n : Near
    n = l.near

    abbrev g : Gives (begun_at moments actions) w
    g = gives_now read reads moments timed b fair actions carried p count server old l

    -- all was asked for
    all : count_of g.loads.op ≡ None
    all = asks_all read reads moments timed b fair actions carried p count server old l

    near_was : w.near ≡ n
    near_was = near_is read reads moments timed b fair actions carried p count server old l

    -- it has no final reply
    loads : Loading n
    loads = subst Loading near_was (loading_of w.near g.loads g.unfinal)

    abbrev IsSteady : Near → Type 0
    IsSteady v = Steady g.loads.op g.loads.decoder g.loads.mark v

    here : IsSteady n
    here = steady_here read reads moments timed b fair actions carried p count server old l

    -- it has taken as many as the world counts
    has_taken : HasTaken old.owner.end.view.job w.came
    has_taken =
        let now = steady_now read reads moments timed b fair actions carried p count server old l in
        subst (λ (v : Near). HasTaken v.job w.came) (sym now.is) g.read

    -- whatever it hears of what is on its way
    fronts : (front rest : List ℕ) → l.queue ++ l.said ≡ front ++ rest → IsSteady (hears n front)
    fronts = steady read reads moments timed b fair actions carried p count server old l

    channel : new.owner.channel ≡ with_fate Fates.Broken old.owner.channel
    channel = did.0.1

    -- nothing of what is left of its link comes or goes
    takes : Takes new.owner.channel
    takes = record { bare = λ e. ap (λ (x : Channel). x.untold) channel ∙ l.at.together.takes.bare (ap (λ (x : Channel). x.stands) (sym channel) ∙ e) }

    written : new.owner.channel.unwritten ≡ []
    written = ap (λ (x : Channel). x.unwritten) channel ∙ is.0.1

    -- the client that heard nothing of it is told
    abbrev first : Stand client_side
    first = unaware l.refusals (data_fault n) l.queue new.owner.channel

    -- and the server
    abbrev far_view : Far
    far_view = clock_step l.moment (broke l.were.owner.end.server.view)

    abbrev server_channel : Channel
    server_channel = dry server.owner.channel

    abbrev first_far : Stand server_side
    first_far = standing far_view server_channel server.left server.unheard

    abbrev ways : Between
    ways = record (behind p) { near = Has_lost; far = Has_lost }

    -- none was dialled then
    none_fresh : {m : Between} {c : Stand client_side} → is_called m.far ≡ false → StaysFresh m c
    none_fresh not called = absurd (both called not)

    -- it has not failed
    first_sound : is_sound (data_fault n).standing ≡ true
    first_sound = ap is_sound (faulted n (loads_of n loads)).standing ∙ l.at.sound

    -- it sends no ABOR
    first_unsent : IsPlainBy Unsent (data_fault n)
    first_unsent = faulted_plain Unsent n (loads_of n loads) l.unsent

    -- a world tells both
    told_both : Again read reads moments timed b fair actions ways count first_far first (marked_last (Broken w.came) w.marks)
    told_both =
        let were = unaware l.refusals n l.queue old.owner.channel in
        let known_now = known read reads moments timed b fair actions (behind p) count l.were were _ l.at carried in
        let at_level : Together read (begun_at moments actions) l.at.last Level (behind p) count l.were were (reports_in actions) w =
        subst (λ a. Together read (begun_at moments actions) l.at.last a (behind p) count l.were were (reports_in actions) w)
        (level read (begun_at moments actions) l.were were (reports_in actions) w l.at.serves l.sends l.at.last l.at.ahead (behind p) count l.at.together)
        l.at.together in
        both_again read reads moments timed b fair actions l.at (marked_last (Broken w.came) w.marks) ways first_far first
        (both_broken read (begun_at moments actions) l.were first_far were first (reports_in actions) w l.at.serves l.sends known_now
        (loading_laden w.near (loading_of w.near g.loads g.unfinal)) g.link l.at.last
        (behind p) ways count at_level l.moment refl near_was refl l.unread refl refl refl l.untold l.none
        (broken_channel old.owner.channel new.owner.channel channel) takes written)
        (record { running = l.at.serves.running; none_waits = l.at.serves.none_waits }) first_sound
        (faulted_plain Whatever n (loads_of n loads) l.at.plain) (none_fresh refl)

    -- the server says what it said since
    abbrev says : Between
    says = record ways { control = record ways.control { to_client = [] ++ l.said } }

    abbrev next_far : Stand server_side
    next_far = standing server.owner.end.server.view server_channel server.left server.unheard

    -- in one action
    said_next : SaysNext l.said first_far next_far
    said_next =
        let some : ℕ = length l.said in
        let owed : far_view.owed ≡ l.said ++ l.left = l.whole in
        let then_view : control_step some far_view ≡ server.owner.end.server.view =
        ap (λ o. record far_view { owed = drop some o }) owed ∙ ap (λ o. record far_view { owed = o }) (drop_front l.said l.left) ∙ sym l.far_is in
        record {
          gives = record {
            count = some;
            owed = sym (ap (take some) owed ∙ take_front l.said l.left);
            gave = (
              record {
                done = λ same. sym (none_later (control_step some far_view) l.at.serves.none_waits ∙ then_view);
                failed = λ keeps differ. absurd (differ refl);
                counted = ((0, omega arith, refl), ((0, omega arith, refl), omega arith));
              },
              refl,
            );
            channel = refl;
          };
          wrote = tt;
          left = refl;
          unheard = refl;
        }

    -- so a world's server says it
    says_so : Again read reads moments timed b fair actions says count (dried server) first (marked_last (Broken w.came) w.marks)
    says_so =
        let got = server_step read reads moments timed b fair (Says l.said) first_far next_far tt refl actions carried before ports ways says refl first
        told_both.0 said_next tt in
        let same = recounted read reads moments timed b fair actions says count next_far (dried server) first got.0 in
        (same.0, same.1 ∙ got.1 ∙ told_both.1)

    -- the client has read what it was to hear
    abbrev second : Stand client_side
    second = record new {
      owner = record new.owner { end = record { view = data_fault n; refusals = l.refusals } };
      unheard = l.heard ++ new.unheard;
    }

    -- so it is beside one that read it
    read_so : Again read reads moments timed b fair actions q count (dried server) second (marked_last (Broken w.came) w.marks)
    read_so =
        let queue : l.queue ++ ([] ++ l.said) ≡ (l.heard ++ new.unheard) ++ q.control.to_client =
        l.split ∙ sym (append_assoc l.heard old.unheard p.control.to_client)
        ∙ ap₂ (λ (y : Stand client_side) (m : Between). (l.heard ++ y.unheard) ++ m.control.to_client) (sym did.1) (sym can.1) in
        let got = resplit actions carried says q count (dried server) first second says_so.0 refl (ap (λ (m : Between). m.control.to_server) can.1) queue
        (ap (λ (m : Between). m.data_ways) can.1) (ap (λ (m : Between). m.far) can.1 ∙ l.hold) (ap (λ (m : Between). m.near) can.1) in
        (got.0, got.1 ∙ says_so.1)

    -- it hears what the drive's heard
    heard_next : HearsNext l.heard second new
    heard_next =
        let calm : new.owner.end.refusals ≡ l.refusals = is.1 ∙ l.calm in
        let first_is : take (length l.heard) (l.heard ++ new.unheard) ≡ l.heard = take_front l.heard new.unheard in
        let split : l.queue ++ l.said ≡ l.heard ++ (old.unheard ++ p.control.to_client) = l.split in
        let view : new.owner.end.view ≡ hears (data_fault n) l.heard =
        did.0.0.0.0 is.1 ∙ ap data_fault l.view
        ∙ late_break g.loads.op all g.loads.decoder g.loads.mark n here l.heard (fronts l.heard (old.unheard ++ p.control.to_client) split) in
        let may : (k : ℕ) → k < length l.heard → may_hear (hears (data_fault n) (take k (l.heard ++ new.unheard))) ≡ true =
        λ k less.
        let front : List ℕ = take k l.heard in
        let rest : List ℕ = drop k l.heard ++ (old.unheard ++ p.control.to_client) in
        let is_front : IsSteady (hears n front) =
        fronts front rest (split ∙ ap (λ o. o ++ (old.unheard ++ p.control.to_client)) (sym (take-append-drop k l.heard))
        ∙ append_assoc front (drop k l.heard) (old.unheard ++ p.control.to_client)) in
        ap (λ o. may_hear (hears (data_fault n) o)) (take-append-le k l.heard new.unheard (omega (arith, less)))
        ∙ ap may_hear (sym (late_break g.loads.op all g.loads.decoder g.loads.mark n here front is_front))
        ∙ steady_told g.loads.op all g.loads.decoder g.loads.mark (hears n front) is_front in
        record {
          hears = (
            ((λ same. (view ∙ ap (hears (data_fault n)) (sym first_is), may), λ differ. absurd (differ calm)), inl calm),
            sym (ap (λ x. seen x new.owner.channel) (ap near.wants (fault_told n loads) ∙ told_wants n loads)),
            λ e. absurd (true≢false (sym e)),
          );
          next = refl;
          left = refl;
          written = refl;
        }

    -- and so beside both drives
    pub told_last : Whole read reads moments timed b fair (Then (Other Break) old.owner Are) (Other Break ∷ actions) q count (dried server) new
    told_last =
        let got : Again read reads moments timed b fair (Heard l.heard ∷ actions) q count (dried server) new read_so.0.world.marks =
        client_step read reads moments timed b fair (Heard l.heard) tt second new (tt, is.1 ∙ l.calm) actions carried q q refl count (dried server) read_so.0
        heard_next in
        record {
          at = got.0;
          marks = marked_last (Broken w.came) l.marks;
          are_marks = (l.marks, l.are_marks, inr (w.came, has_taken, refl));
          marked = got.1 ∙ read_so.1 ∙ ap (marked_last (Broken w.came)) l.marked;
          unsent = subst (IsPlainBy Unsent)
              (sym (did.0.0.0.0 is.1 ∙ ap data_fault l.view ∙ late_break g.loads.op all g.loads.decoder g.loads.mark n here l.heard
              (fronts l.heard (old.unheard ++ p.control.to_client) l.split)))
              (hears_plain Unsent unsent_kept l.heard (data_fault n) first_unsent);
        }

  -- ---- the server is told

  module _ (actions : List (Action client_side)) (carried : AreCarried (begun_at moments actions)) (p q : Between) (count : ℕ) (old new : Stand server_side)
      (client : Stand client_side) (is : (far.wants old.owner.end.server.view ≡ Want.Send) × ServerIsCalm old.owner new.owner)
      (can : Can TheServer ToldBreak p q)
      (did : Calls {side = server_side} Break old new) where
    abbrev was : Stand server_side
    was = dried old

    -- its channel
    far_channel : new.owner.channel ≡ with_fate Fates.Broken old.owner.channel
    far_channel = did.0.1

    -- as if none were unwritten
    dry_now : (dry new.owner.channel).unwritten ≡ []
    dry_now = ap (λ (x : Channel). (dry x).unwritten) far_channel

    unread : new.unheard ≡ old.unheard
    unread = ap (λ (y : Stand server_side). y.unheard) did.1

    -- it owes a 426
    told_now : ServerServes old.owner → (moment : ℕ) × (new.owner.end.server.view ≡ clock_step moment (broke old.owner.end.server.view))
    told_now serves = told_is old new serves is.1 is.0 did

    -- it serves on
    serves_now : (serves : ServerServes old.owner) → ServerServes new.owner
    serves_now serves =
        let t = told_now serves in record {
          running = ap (λ (v : Far). v.session.life) t.1 ∙ serves.running;
          none_waits = ap (λ (v : Far). v.waiting) t.1 ∙ serves.none_waits;
        }

    -- less came of one that was told than was asked for
    few_then : {Are : OfMarks} (l : Lags read reads moments timed b fair Are actions p count was client) → AreFew (begun_at moments actions) l.was.end.view.job
    few_then {Are} l = short_few (begun_at moments actions) l.was.end.view.job (loading_short l.was.end.view l.loads)

    -- the client was told before: both are told
    both_again_then : {Are : OfMarks} (l : Lags read reads moments timed b fair Are actions p count was client)
        → Again read reads moments timed b fair actions q count (dried new) client (marked_last (Broken l.at.world.came) l.at.world.marks)
    both_again_then {Are} l =
        let before : Stand client_side = beside l.was client in
        let w : World = l.at.world in
        let serves : ServerServes old.owner = record { running = l.at.serves.running; none_waits = l.at.serves.none_waits } in
        let t = told_now serves in
        let known_now = known read reads moments timed b fair actions (unbroken p) count was before _ l.at carried in
        let g : Gives (begun_at moments actions) w =
        gives_at read reads moments timed b fair actions carried (unbroken p) count was before l.at is.0 (few_then l) l.unsent in
        let near_was : w.near ≡ l.was.end.view =
        near_at read reads moments timed b fair actions carried (unbroken p) count was before l.at is.0 (few_then l) l.unsent in
        let at_level : Together read (begun_at moments actions) l.at.last Level (unbroken p) count was before (reports_in actions) w =
        subst (λ a. Together read (begun_at moments actions) l.at.last a (unbroken p) count was before (reports_in actions) w)
        (level read (begun_at moments actions) was before (reports_in actions) w l.at.serves is.0 l.at.last l.at.ahead (unbroken p) count l.at.together)
        l.at.together in
        let there = none_there read (begun_at moments actions) was (dried new) before client (reports_in actions) w l.at.serves is.0 known_now
        (loading_laden w.near (loading_of w.near g.loads g.unfinal)) g.link l.at.last (unbroken p) q count at_level in
        let view : client.owner.end.view ≡ data_fault l.was.end.view = l.view ∙ sym (fault_told l.was.end.view l.loads) in
        let loads = loads_of l.was.end.view l.loads in
        both_again read reads moments timed b fair actions l.at (marked_last (Broken w.came) w.marks) q (dried new) client
        (both_broken read (begun_at moments actions) was (dried new) before client (reports_in actions) w l.at.serves is.0 known_now
        (loading_laden w.near (loading_of w.near g.loads g.unfinal)) g.link l.at.last (unbroken p) q count at_level t.0 t.1 near_was view unread refl
        (ap (λ (m : Between). m.control) can.1)
        (ap (λ (m : Between). m.data_ways.to_server) can.1) (ap (λ (x : Channel). x.untold) far_channel ∙ there.0) dry_now l.channel.dry l.channel.takes l.channel.written)
        (record { running = (serves_now serves).running; none_waits = (serves_now serves).none_waits })
        (ap (λ (v : Near). is_sound v.standing) view ∙ ap is_sound (faulted l.was.end.view loads).standing ∙ l.at.sound)
        (subst IsPlainly (sym view) (faulted_plain Whatever l.was.end.view loads l.at.plain))
        (λ called. absurd (both called (ap (λ (m : Between). is_called m.far) can.1)))

    -- so a world is beside both drives
    pub told_after : {Are : OfMarks} → Lags read reads moments timed b fair Are actions p count was client
        → Whole read reads moments timed b fair Are actions q count (dried new) client
    told_after {Are} l =
        let came : ℕ = l.at.world.came in
        let loads = loads_of l.was.end.view l.loads in
        let before : Stand client_side = beside l.was client in
        let g : Gives (begun_at moments actions) l.at.world =
        gives_at read reads moments timed b fair actions carried (unbroken p) count was before l.at is.0 (few_then l) l.unsent in
        let near_was : l.at.world.near ≡ l.was.end.view =
        near_at read reads moments timed b fair actions carried (unbroken p) count was before l.at is.0 (few_then l) l.unsent in
        let taken : HasTaken l.was.end.view.job came =
        subst (λ (v : Near). HasTaken v.job came) near_was (loads_taken l.at.world.near g.loads came g.read) in
        let view : client.owner.end.view ≡ data_fault l.was.end.view = l.view ∙ sym (fault_told l.was.end.view l.loads) in
        record {
          at = (both_again_then l).0;
          marks = marked_last (Broken came) l.marks;
          are_marks = l.are_broken came taken;
          marked = (both_again_then l).1 ∙ ap (marked_last (Broken came)) l.marked;
          unsent = subst (IsPlainBy Unsent) (sym view) (faulted_plain Unsent l.was.end.view loads l.unsent);
        }

    -- it is to be told: the server is told first, of an operation that asks for all
    pub told_first : {Are : OfMarks} → LastAll (begun_at moments actions) → Whole read reads moments timed b fair Are actions p count was client
        → Precedes read reads moments timed b fair Are actions q count new client
    told_first {Are} asks o =
        let w : World = o.at.world in
        let n : Near = client.owner.end.view in
        let queue : List ℕ = client.unheard ++ p.control.to_client in
        let serves : ServerServes old.owner = record { running = o.at.serves.running; none_waits = o.at.serves.none_waits } in
        let t = told_now serves in
        let known_now = known read reads moments timed b fair actions p count was client _ o.at carried in
        let g : Gives (begun_at moments actions) w =
        gives_at read reads moments timed b fair actions carried p count was client o.at is.0 (last_few (begun_at moments actions) n.job asks) o.unsent in
        let at_level : Together read (begun_at moments actions) o.at.last Level p count was client (reports_in actions) w =
        subst (λ a. Together read (begun_at moments actions) o.at.last a p count was client (reports_in actions) w)
        (level read (begun_at moments actions) was client (reports_in actions) w o.at.serves is.0 o.at.last o.at.ahead p count o.at.together)
        o.at.together in
        let there = none_there read (begun_at moments actions) was (dried new) client client (reports_in actions) w o.at.serves is.0 known_now
        (loading_laden w.near (loading_of w.near g.loads g.unfinal)) g.link o.at.last p q count at_level in
        let got = resplit actions carried p (behind q) count was client (unaware client.owner.end.refusals n queue client.owner.channel) o.at refl
        (ap (λ (m : Between). m.control.to_server) can.1) (sym (append-nil queue)) (ap (λ (m : Between). m.data_ways) can.1) (sym can.0)
        (ap (λ (m : Between). m.near) can.1) in
        record {
          were = was;
          sends = is.0;
          refusals = client.owner.end.refusals;
          near = n;
          queue = queue;
          at = got.0;
          asks = asks;
          unsent = o.unsent;
          marks = o.marks;
          are_marks = o.are_marks;
          marked = got.1 ∙ o.marked;
          said = [];
          left = (broke old.owner.end.server.view).owed;
          moment = t.0;
          far_is = t.1;
          whole = refl;
          unread = unread;
          untold = ap (λ (x : Channel). x.untold) far_channel ∙ there.0;
          none = dry_now;
          shut = broken_channel old.owner.channel new.owner.channel far_channel;
          hold = ap (λ (m : Between). m.far) can.1;
          calm = refl;
          heard = [];
          view = refl;
          split = append-nil queue ∙ ap (λ (m : Between). client.unheard ++ m.control.to_client) (sym can.1);
          late = inl refl;
        }
