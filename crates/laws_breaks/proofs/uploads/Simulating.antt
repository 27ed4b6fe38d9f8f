-- Two drives of which data connections break, those of uploads too, as a list of a world's events: action by action.
use Rattle.std.proofs.Common.{◌≡◌, ◌⊎◌, inl, inr, ℕ, Bool, true, false, true≢false, List, [], ◌∷◌, refl, sym, ap, subst, ◌∙◌}
use Rattle.ftp_ports.specs.Asking.{Reset}
use Rattle.ftp_ports.specs.Actions.{Calls, Action, Done, Led, Other, Stand, with_owner}
use Rattle.ftp_ports.specs.Machine.{Break, IsBroken, Left}
use Rattle.ftp_ports.specs.declared.whole.Fate.{Fate}
use Rattle.ftp_ports.specs.declared.whole.Fate.TheVariants as Fates
use Rattle.ftp_client_driver.specs.Side.{client_side}
use Rattle.ftp_client_model.specs.Calls as near
use Rattle.ftp_client_model.specs.Calls.{data_closed, report_of, reports}
use Rattle.ftp_ends.specs.Octets.{has_octets}
use Rattle.ftp_ends.specs.declared.link.Wants.{Wants}
use Rattle.ftp_ends.specs.declared.link.Wants.TheVariants as Want
use Rattle.ftp_server_driver.specs.alone.Side.{server_side}
use Rattle.ftp_server_model.specs.Calls as far
use Rattle.ftp_server_model.specs.Calls.{break_step, clock_step}
use Rattle.ftp_server_model.specs.Machine.{IsReading, Reading}
use Rattle.laws_world.specs.Claims.{Beginning, IsFair}
use Rattle.laws_drivers.specs.control.Alone.{ServerIsCalm, reports_in}
use Rattle.laws_drivers.specs.control.Between.{Between, Can, CanTurn, Client, Far as TheServer, Happened, Has, Has_lost, Hold, Is_called, Near as TheClient, Server, Turn, client_actions, nothing_yet, server_actions}
use Rattle.laws_drivers.specs.control.Claims.{Begins}
use Rattle.laws_drivers.specs.control.Touches.{ToldBreak, touch_in}
use Rattle.laws_drivers.specs.events.Actions.{ArePorts, listened_in}
use Rattle.laws_drivers.proofs.world.Known.{is_receive}
use Rattle.laws_drivers.proofs.events.Holding.{both, is_called, is_had}
use Rattle.laws_drivers.proofs.events.Plain.{IsPlainBy}
use Rattle.laws_drivers.specs.events.Moments.{AreMoments, AreToldAt, IsToldAt, begun_at, last_of, number_in}
use Rattle.laws_transfers.proofs.Known.{is_near_held}
use Rattle.laws_transfers.proofs.Lost.{IsSeen, far_done, near_done, seen_itself}
use Rattle.laws_transfers.proofs.Reaching.{earlier, starts_so}
use Rattle.laws_breaks.specs.downloads.Actions.{IsSuffering, IsYielding}
use Rattle.laws_breaks.proofs.downloads.BothBroken.{sends_far}
use Rattle.laws_breaks.proofs.downloads.Drained.{BreaksNot, dried, dried_none, dried_step, dried_told, unless_broken}
use Rattle.laws_breaks.proofs.downloads.Lagging.{Lags, OfMarks, Then, Whole, beside, unbroken}
use Rattle.laws_breaks.proofs.downloads.Preceding.{far_nothing, gives_now, steady_now}
use Rattle.laws_breaks.proofs.downloads.Simulating as breaking
use Rattle.laws_breaks.proofs.downloads.Steps.{server_step}
use Rattle.laws_breaks.proofs.downloads.Unaware.{steady_open, steady_wants}
use Rattle.laws_breaks.proofs.downloads.Seen.{IsTold, Sees, far_sees, sees_fresh}
use Rattle.laws_breaks.proofs.downloads.Unbroken.{sees_unbroken}
use Rattle.laws_breaks.proofs.downloads.Unsent.{AskAll, Unsent, all_carried, asked_all, suffering_peeks}
use Rattle.laws_breaks.specs.uploads.Coming.{HasCome}
use Rattle.laws_breaks.specs.uploads.Actions.{AreCutAt, AreMarks, ClientGives, GivesAlong, IsCutAt, LosesAlong, ServerLoses, cut_marks}
use Rattle.laws_breaks.proofs.uploads.ClientTold.{told_closing, told_giving}
use Rattle.laws_breaks.proofs.uploads.Holding.{Holding, holding}
use Rattle.laws_breaks.proofs.uploads.Leaving.{Leaves, gone, leave_step, lost}
use Rattle.laws_breaks.proofs.uploads.LeavingServed.{leave_served}
use Rattle.laws_breaks.proofs.uploads.Marking.{in_all, marking, same_begun, same_number, takes_none, with_cut}
use Rattle.laws_breaks.proofs.uploads.Outliving.{Outlives}
use Rattle.laws_breaks.proofs.uploads.Seen.{Seen, dry, is_left, lost_dry, near_seen, seen_far, seen_held, seen_whole, sees_seen}
use Rattle.laws_breaks.proofs.uploads.Serving.{giving_takes, lag_cut, lags_never, out_gone, out_left, shut_takes, whole_cut}
use Rattle.laws_breaks.proofs.uploads.Speaking.{outlive_turn}
use Rattle.laws_breaks.proofs.uploads.TakerTold.{told_taking}
use Rattle.laws_breaks.proofs.uploads.ToldLast.{outlast}
use Rattle.laws_breaks.proofs.uploads.UpLagging.{UpLags, takes_up, up_lag_step}
use Rattle.laws_breaks.proofs.uploads.Written.{IsWritten, action_written, is_break, is_broken}

-- one that has none, and was not dialled, has left it
left_hold : (hold : Hold) → (is_had hold ≡ true → ⊥) → is_called hold ≡ false → is_left hold ≡ true
left_hold Has none uncalled = absurd (none refl)
left_hold Is_called none uncalled = absurd (true≢false uncalled)
left_hold hold none uncalled = refl

-- one that is told of a break was told of none before: it has what it did not write
unbroken_so : (wants : Wants) (stands : Bool) (fate : Fate) (octets : List ℕ) → IsBroken wants stands fate → unless_broken fate octets ≡ octets
unbroken_so wants stands Fates.Sound octets is = refl
unbroken_so wants stands Fates.Failed octets is = refl
unbroken_so wants stands Fates.Broken octets is = absurd is
unbroken_so wants stands Fates.Over octets is = refl

-- it has lost it
abbrev is_lost : Hold → Bool
is_lost Has_lost = true
is_lost hold = false

module _ (read : Reading) (reads : IsReading read) (moments : ℕ → ℕ) (timed : AreMoments moments) (b : Beginning) (fair : IsFair b) where
  abbrev pub Suffered : (Are : OfMarks) (actions : List (Action client_side)) (between : Between) (count : ℕ) (server : Stand server_side)
      (client : Stand client_side) → Type 0
  Suffered Are actions between count server client = breaking.Suffered read reads moments timed b fair Are actions between count server client

  abbrev W : (Are : OfMarks) (actions : List (Action client_side)) (between : Between) (count : ℕ) (server : Stand server_side) (client : Stand client_side)
      → Type 0
  W Are actions between count server client = Whole read reads moments timed b fair Are actions between count server client

  -- a world is beside both drives, or was before one was told of the break of a download; between it may lie dry
  pub record Beside (Are : OfMarks) (actions : List (Action client_side)) (between : Between) (count : ℕ) (server : Stand server_side)
      (client : Stand client_side) : Type 0 where
    pub middle : Between
    pub seen : Seen between middle
    pub written : IsWritten client.owner.channel
    pub suffered : Suffered Are actions middle count server client

  -- or it is beside a client that was not told of the break of an upload, or beside one that has left its data connection; or beside a server that was not
  -- told, while its client still gives
  abbrev pub Cut : (Are : OfMarks) (actions : List (Action client_side)) (between : Between) (count : ℕ) (server : Stand server_side) (client : Stand client_side)
      → Type 0
  Cut Are actions between count server client =
      Beside Are actions between count server client ⊎ (UpLags read reads moments timed b fair Are actions between count (dried server) client
      ⊎ (Leaves read reads moments timed b fair Are actions between count (dried server) client
      ⊎ Outlives read reads moments timed b fair Are actions between count server client))

  -- ---- an action of the client

  module _ {Are : OfMarks} (actions : List (Action client_side)) (puts : AskAll (begun_at moments actions)) (before : List (Action server_side))
      (ports : ArePorts before)
      (p q : Between) (server : Stand server_side) (old new : Stand client_side) (o : Beside Are actions p (listened_in before) server old) where
    abbrev count : ℕ
    count = listened_in before

    -- as where downloads alone break
    suffers_on : (action : Action client_side) → (is_break action ≡ true → old.owner.channel.unwritten ≡ []) → IsSuffering action old.owner
        → ClientGives action old.owner new.owner → CanTurn (Client action) p q → Done action old new → Cut (Then action old.owner Are) (action ∷ actions) q count server new
    suffers_on action none is gives can did =
        let there = near_seen (touch_in action) p q o.middle o.seen can in
        inl (record {
          middle = there.0;
          seen = there.1;
          written = action_written action old new none did o.written;
          suffered = breaking.client_turn read reads moments timed b fair action actions (all_carried (begun_at moments actions) puts) before ports o.middle there.0
              server old new o.suffered (inl (asked_all moments actions puts)) (suffering_peeks action old.owner is, gives.1) there.2 did;
        })

    -- it is told of the break of an upload
    told_on : (old.owner.channel.fate ≡ Fates.Failed) × ((near.wants old.owner.end.view ≡ Want.Send) ⊎ (old.owner.end.view.closing ≡ true))
        → ClientGives (Other Break) old.owner new.owner → Can TheClient ToldBreak p q → Calls {side = client_side} Break old new
        → Cut (Then (Other Break) old.owner Are) (Other Break ∷ actions) q count server new
    told_on is gives can did = by (subst (λ (m : Between). Suffered Are actions m count server old) (seen_held p o.middle o.seen can.0) o.suffered) is.1
      where
        by_closing : old.owner.end.view.closing ≡ true → W Are actions p count (dried server) old → (octets : List ℕ)
            → old.owner.channel.unwritten ≡ octets → Cut (Then (Other Break) old.owner Are) (Other Break ∷ actions) q count server new
        by_closing closing w [] none = suffers_on (Other Break) (λ e. none) (is.0, none, inr closing) gives can did
        by_closing closing w (octet ∷ more) some =
            inr (inl (told_closing read reads moments timed b fair actions puts p q count (dried server) old new w gives.1 can did closing (ap has_octets some)))

        by : Suffered Are actions p count server old → (near.wants old.owner.end.view ≡ Want.Send) ⊎ (old.owner.end.view.closing ≡ true)
            → Cut (Then (Other Break) old.owner Are) (Other Break ∷ actions) q count server new
        by (inl (inl w)) (inl sends) =
            inr (inl (told_giving read reads moments timed b fair actions puts p q count (dried server) old new w gives.1 can did sends))
        by (inl (inl w)) (inr closing) = by_closing closing w old.owner.channel.unwritten refl
        by (inl (inr l)) other = absurd (true≢false (ap is_lost (sym l.hold ∙ can.0)))
        by (inr l) other =
            let carried = all_carried (begun_at moments actions) puts in
            let g = (gives_now read reads moments timed b fair actions carried p count server old l).loads in
            let steady = steady_now read reads moments timed b fair actions carried p count server old l in
            elim other [
              | inl sends ↦
                  absurd (true≢false (ap is_receive (sym (steady_wants g.op g.decoder g.mark old.owner.end.view steady) ∙ sends)))
              | inr closing ↦ absurd (true≢false (sym closing ∙ steady_open g.op g.decoder g.mark old.owner.end.view steady))
            ]

    beside_step : (action : Action client_side) → ClientGives action old.owner new.owner → CanTurn (Client action) p q → Done action old new
        → Cut (Then action old.owner Are) (action ∷ actions) q count server new
    beside_step (Other Break) is can did =
        elim is.0 [
          | inl suffers ↦ suffers_on (Other Break) (λ e. suffers.1) suffers is can did
          | inr told ↦ told_on told is can did
        ]
    beside_step (Other (Left (Reset left written))) is can did =
        elim is.0 [
          | inl suffers ↦ suffers_on (Other (Left (Reset left written))) (λ e. absurd (true≢false (sym e))) suffers is can did
          | inr broken ↦
              suffers_on (Other (Left (Reset left written))) (λ e. absurd (true≢false (sym e))) (o.written (ap is_broken broken)) is can did
        ]
    beside_step action is can did = suffers_on action (λ e. absurd (true≢false (sym e))) is.0 is can did

  client_turn : {Are : OfMarks} (action : Action client_side) (actions : List (Action client_side)) → AskAll (begun_at moments actions)
      → (before : List (Action server_side))
      → ArePorts before → (p q : Between) (server : Stand server_side) (old new : Stand client_side) → Cut Are actions p (listened_in before) server old
      → ClientGives action old.owner new.owner → CanTurn (Client action) p q → Done action old new
      → Cut (Then action old.owner Are) (action ∷ actions) q (listened_in before) server new
  client_turn {Are} action actions puts before ports p q server old new (inl o) is can did =
      beside_step actions puts before ports p q server old new o action is can did
  client_turn {Are} action actions puts before ports p q server old new (inr (inl l)) is can did =
      inr (inl (up_lag_step read reads moments timed b fair actions puts p (listened_in before) (dried server) old l action q new is can did))
  client_turn {Are} action actions puts before ports p q server old new (inr (inr (inr l))) is can did =
      elim (outlast read reads moments timed b fair actions puts before ports p server old l action q new is can did) [
        | inl on ↦ inr (inr (inr on))
        | inr left ↦ inr (inr (inl left))
      ]
  client_turn {Are} action actions puts before ports p q server old new (inr (inr (inl l))) is can did =
      elim (leave_step read reads moments timed b fair actions puts p q (listened_in before) (dried server) old new l action is can did) [
        | inl on ↦ inr (inr (inl on))
        | inr left ↦ inl (record {
          middle = dry q;
          seen = inr (refl, record { near = left.near; far = left.far });
          written = λ e. left.written;
          suffered = inl (inl left.whole);
        })
      ]

  -- ---- an action of the server

  -- what is so of the marks then
  abbrev marked_so : Action server_side → Stand server_side → Stand client_side → OfMarks → OfMarks
  marked_so (Other Break) at client Are = cut_marks (far.wants at.owner.end.server.view) (HasCome at.owner client.owner) Are
  marked_so action at client Are = Are

  -- what may mark then
  abbrev marked_actions : Action server_side → Stand server_side → List (Action client_side) → List (Action client_side)
  marked_actions (Other Break) at actions = with_cut (far.wants at.owner.end.server.view) actions
  marked_actions action at actions = actions

  module _ (actions : List (Action client_side)) (puts : AskAll (begun_at moments actions)) (before : List (Action server_side)) (p q : Between)
      (old new : Stand server_side) (client : Stand client_side) where
    -- as where downloads alone break
    yields_on : {Are : OfMarks} (action : Action server_side) → ArePorts (action ∷ before) → Beside Are actions p (listened_in before) old client
        → IsYielding action old.owner
        → ServerIsCalm old.owner new.owner → Sees action (dried old) p q → (did : Done action old new)
        → IsToldAt action old new did (last_of moments (number_in actions)) → Beside Are actions q (listened_in (action ∷ before)) new client
    yields_on {Are} action ports o is calm can did told =
        let there = sees_seen action (dried old) p q o.middle o.seen can in
        record {
          middle = there.0;
          seen = there.1;
          written = o.written;
          suffered = breaking.server_turn read reads moments timed b fair action actions (all_carried (begun_at moments actions) puts) before ports o.middle there.0
              old new client o.suffered (inl (asked_all moments actions puts)) (is, calm) there.2 did told;
        }

    -- beside a client that was told
    up_lags_on : {Are : OfMarks} (action : Action server_side) → BreaksNot action → ArePorts (action ∷ before)
        → UpLags read reads moments timed b fair Are actions p (listened_in before) (dried old) client
        → IsYielding action old.owner → ServerIsCalm old.owner new.owner → Sees action (dried old) p q → (did : Done action old new)
        → IsToldAt action old new did (last_of moments (number_in actions))
        → UpLags read reads moments timed b fair Are actions q (listened_in (action ∷ before)) (dried new) client
    up_lags_on {Are} action kept ports l is calm can did told =
        let step = dried_step old new action kept is did in
        let there = sees_unbroken action (dried old) step.0 p q l.hold can in
        let got = server_step read reads moments timed b fair action (dried old) (dried new) step.0 calm actions (all_carried (begun_at moments actions) puts) before
        ports (unbroken p) (unbroken q) there.0 (beside l.was client) l.at step.1
        (dried_told old new action kept is did (last_of moments (number_in actions)) told) in
        record {
          was = l.was;
          at = got.0;
          lifts = l.lifts;
          due = l.due;
          hold = there.1;
          channel = l.channel;
          marks = l.marks;
          are_marks = l.are_marks;
          marked = got.1 ∙ l.marked;
          unsent = l.unsent;
          fresh = sees_fresh action (dried old) step.0 p q client l.fresh can;
        }

    -- no server gives then, or is to close
    up_lags_take : {Are : OfMarks} → UpLags read reads moments timed b fair Are actions p (listened_in before) (dried old) client → IsTold (dried old) p q → ⊥
    up_lags_take {Are} l (inl sends) =
        let gives = sends_far read (begun_at moments actions) (dried old) (beside l.was client) (reports_in actions) l.at.world l.at.serves sends.0 l.at.last
        l.at.ahead (unbroken p) (listened_in before) l.at.together in
        both (takes_up read reads moments timed b fair actions puts p (listened_in before) (dried old) client l)
        (giving_takes l.at.world.far.session.connection gives)
    up_lags_take {Are} l (inr closing) =
        shut_takes read (begun_at moments actions) (dried old) (beside l.was client) (reports_in actions) l.at.world closing.0 l.at.last l.at.ahead (unbroken p)
        (listened_in before) closing.1 l.at.together (takes_up read reads moments timed b fair actions puts p (listened_in before) (dried old) client l)

    -- it is told of the break
    module _ (calm : ServerIsCalm old.owner new.owner) (wants : far.wants old.owner.end.server.view ≡ Want.Receive)
        (did : Calls {side = server_side} Break old new) (untold : old.owner.channel.untold ≡ [])
        (can : Can TheServer ToldBreak p q) (told : did.0.0.0 ≡ last_of moments (number_in actions)) (h : Holding p client) where
      -- as many octets of the upload as came
      abbrev came_now : ℕ → Type 0
      came_now = HasCome old.owner client.owner

      abbrev told_ports : ℕ
      told_ports = listened_in before

      -- it was told of none before
      old_dried : dried old ≡ old
      old_dried =
          ap (λ o. with_owner (record old.owner { channel = record old.owner.channel { unwritten = o } }) old)
          (unbroken_so (far.wants old.owner.end.server.view) old.owner.channel.stands old.owner.channel.fate old.owner.channel.unwritten did.0.2)

      lost_now : q.far ≡ Has_lost
      lost_now = ap (λ (m : Between). m.far) can.1

      -- a world sees what lies between lie dry
      beside_dry : {Are : OfMarks} → is_left p.near ≡ true → IsWritten client.owner.channel
          → W Are (Other Break ∷ actions) (dry q) told_ports (dried new) client → Cut Are (Other Break ∷ actions) q told_ports new client
      beside_dry {Are} left written w = inl (record {
        middle = dry q;
        seen = lost_dry q (ap (λ (m : Between). is_left m.near) can.1 ∙ left) lost_now;
        written = written;
        suffered = inl (inl w);
      })

      -- or is beside one that has left
      beside_gone : {Are : OfMarks} → client.owner.channel.stands ≡ true → W Are (Other Break ∷ actions) (lost q) told_ports (dried new) (gone client)
          → Cut Are (Other Break ∷ actions) q told_ports new client
      beside_gone {Are} stands w = inr (inr (inl (record {
        whole = w;
        stands = stands;
        far = ap is_left lost_now;
      })))

      -- where it was beside both: the client has the link open still, or has left it
      by_whole : {Are : OfMarks} → W Are actions p told_ports old client → Cut (cut_marks Want.Receive came_now Are) (Other Break ∷ actions) q told_ports new client
      by_whole {Are} w = by (is_near_held w.at.world.link) refl
        where
          closed : (stands : Bool) → client.owner.channel.stands ≡ stands → is_near_held w.at.world.link ≡ false
              → Cut (cut_marks Want.Receive came_now Are) (Other Break ∷ actions) q told_ports new client
          closed true is unheld =
              beside_gone is
              (whole_cut read reads moments timed b fair actions puts p q told_ports old new client calm wants did told untold (gone client)
              (lost q) (out_gone client p q can) w unheld)
          closed false is unheld =
              beside_dry (left_hold p.near (λ had. both (h.had had) is) h.uncalled) (λ e. w.at.together.gives.bare is)
              (whole_cut read reads moments timed b fair actions puts p q told_ports old new client calm wants did told untold client (dry q)
              (out_left client p q can is w.at.together.takes (w.at.together.gives.bare is)) w unheld)

          by : (held : Bool) → is_near_held w.at.world.link ≡ held → Cut (cut_marks Want.Receive came_now Are) (Other Break ∷ actions) q told_ports new client
          by true held =
              inr (inr (inr (told_taking read reads moments timed b fair actions puts p q told_ports old new client calm wants did told untold can
              w held (h.had (w.at.together.keeping.had held)))))
          by false unheld = closed client.owner.channel.stands refl unheld

      -- where it was beside one that was not told
      by_lag : {Are : OfMarks} → UpLags read reads moments timed b fair Are actions p told_ports old client
          → Cut (cut_marks Want.Receive came_now Are) (Other Break ∷ actions) q told_ports new client
      by_lag {Are} l = by client.owner.channel.stands refl
        where
          by : (stands : Bool) → client.owner.channel.stands ≡ stands → Cut (cut_marks Want.Receive came_now Are) (Other Break ∷ actions) q told_ports new client
          by true is =
              beside_gone is
              (lag_cut read reads moments timed b fair actions puts p q told_ports old new client calm wants did told untold (gone client)
              (lost q) (out_gone client p q can) l)
          by false is =
              beside_dry (ap is_left l.hold) (λ e. l.channel.bare is)
              (lag_cut read reads moments timed b fair actions puts p q told_ports old new client calm wants did told untold client (dry q)
              (out_left client p q can is l.channel.takes (l.channel.bare is)) l)

      by_suffered : {Are : OfMarks} → Suffered Are actions p told_ports old client
          → Cut (cut_marks Want.Receive came_now Are) (Other Break ∷ actions) q told_ports new client
      by_suffered {Are} (inl (inl w)) =
          by_whole (subst (λ (s : Stand server_side). W Are actions p told_ports s client) old_dried w)
      by_suffered {Are} (inl (inr l)) =
          absurd (lags_never read reads moments timed b fair actions puts p q told_ports old new client calm wants
          (subst (λ (s : Stand server_side). Lags read reads moments timed b fair Are actions p told_ports s client) old_dried l))
      by_suffered {Are} (inr l) =
          absurd (true≢false (ap is_receive (sym wants
          ∙ far_nothing read reads moments timed b fair actions (all_carried (begun_at moments actions) puts) p told_ports old client l)))

      cut_on : {Are : OfMarks} → Cut Are actions p told_ports old client
          → Cut (cut_marks Want.Receive came_now Are) (Other Break ∷ actions) q told_ports new client
      cut_on {Are} (inl o) =
          by_suffered (subst (λ (m : Between). Suffered Are actions m told_ports old client) (seen_whole p o.middle o.seen can.0) o.suffered)
      cut_on {Are} (inr (inl l)) =
          by_lag (subst (λ (s : Stand server_side). UpLags read reads moments timed b fair Are actions p told_ports s client) old_dried l)
      cut_on {Are} (inr (inr (inl l))) = absurd (true≢false (sym l.far ∙ ap is_left can.0))
      cut_on {Are} (inr (inr (inr l))) = absurd (true≢false (ap is_left (sym l.taker.hold ∙ can.0)))

    -- an action as where downloads alone break
    yields_turn : {Are : OfMarks} (action : Action server_side) → ArePorts (action ∷ before) → Cut Are actions p (listened_in before) old client
        → IsYielding action old.owner
        → ServerIsCalm old.owner new.owner → Sees action (dried old) p q → (did : Done action old new)
        → IsToldAt action old new did (last_of moments (number_in actions)) → Cut Are actions q (listened_in (action ∷ before)) new client
    yields_turn {Are} action ports (inr (inr (inr l))) is calm can did told =
        inr (inr (inr (outlive_turn read reads moments timed b fair actions puts before (earlier action before ports) p q old new client l action is calm can did)))
    yields_turn {Are} (Other Break) ports (inl o) is calm can did told = inl (yields_on (Other Break) ports o is calm can did told)
    yields_turn {Are} (Other Break) ports (inr (inl l)) is calm can did told = absurd (up_lags_take l can)
    yields_turn {Are} (Other Break) ports (inr (inr (inl l))) is calm can did told = absurd (elim can [
      | inl sends ↦ true≢false (sym l.far ∙ ap is_left sends.1.0)
      | inr closing ↦ true≢false (sym l.far ∙ ap is_left closing.1)
    ])
    yields_turn {Are} action ports (inl o) is calm can did told = inl (yields_on action ports o is calm can did told)
    yields_turn {Are} action ports (inr (inl l)) is calm can did told = inr (inl (up_lags_on action tt ports l is calm can did told))
    yields_turn {Are} action ports (inr (inr (inl l))) is calm can did told =
        inr (inr (inl (leave_served read reads moments timed b fair action tt actions puts before ports p q old new client l is calm can did told)))

  -- octets are unwritten only where the server has a data connection
  spare_cut : {Are : OfMarks} (actions : List (Action client_side)) (between : Between) (count : ℕ) (server : Stand server_side) (client : Stand client_side)
      → Cut Are actions between count server client → is_had between.far ≡ false → (dried server).owner.channel.unwritten ≡ []
  spare_cut {Are} actions between count server client (inl o) e =
      breaking.spare_now read reads moments timed b fair actions o.middle count server client o.suffered (ap is_had (seen_far between o.middle o.seen) ∙ e)
  spare_cut {Are} actions between count server client (inr (inl l)) e = l.at.together.serves.spare e
  spare_cut {Are} actions between count server client (inr (inr (inl l))) e = l.whole.at.together.serves.spare e
  spare_cut {Are} actions between count server client (inr (inr (inr l))) e = l.taker.none

  -- so it is as a world sees what lies between
  pub record Stood (Are : OfMarks) (actions : List (Action client_side)) (between : Between) (count : ℕ) (server : Stand server_side)
      (client : Stand client_side) : Type 0 where
    pub view : Between
    pub is_seen : IsSeen between view
    pub cut : Cut Are actions view count server client

  -- an action of the server
  server_turn : {Are : OfMarks} (actions : List (Action client_side)) → AskAll (begun_at moments actions) → (before : List (Action server_side)) (p q : Between)
      (old new : Stand server_side) (client : Stand client_side) (o : Stood Are actions p (listened_in before) old client) (action : Action server_side)
      → ArePorts (action ∷ before) → ServerLoses action old.owner new.owner → CanTurn (Server action) p q → (did : Done action old new)
      → IsToldAt action old new did (last_of moments (number_in actions)) → IsCutAt (last_of moments (number_in actions)) action old new did → Holding p client
      → Stood (marked_so action old client Are) (marked_actions action old actions) q (listened_in (action ∷ before)) new client
  server_turn {Are} actions puts before p q old new client o action ports is can did told cut h = by action ports is can did told cut
    where
      yields : (action : Action server_side) → ArePorts (action ∷ before) → IsYielding action old.owner → ServerIsCalm old.owner new.owner
          → CanTurn (Server action) p q → (did : Done action old new) → IsToldAt action old new did (last_of moments (number_in actions))
          → Stood Are actions q (listened_in (action ∷ before)) new client
      yields action ports is calm can did told =
          let there = far_sees old new p q o.view o.is_seen (spare_cut actions o.view (listened_in before) old client o.cut) action (is, calm) can in
          record {
            view = there.0;
            is_seen = there.2;
            cut = yields_turn actions puts before o.view there.0 old new client action ports o.cut is calm there.1 did told;
          }

      -- a break of what takes no octets marks nothing
      unmarked : (wants : Wants) → is_receive wants ≡ false → Stood Are actions q (listened_in before) new client
          → Stood (cut_marks wants (HasCome old.owner client.owner) Are) (with_cut wants actions) q (listened_in before) new client
      unmarked Want.Receive takes s = absurd (true≢false takes)
      unmarked wants takes s = s

      by : (action : Action server_side) → ArePorts (action ∷ before) → ServerLoses action old.owner new.owner → CanTurn (Server action) p q
          → (did : Done action old new) → IsToldAt action old new did (last_of moments (number_in actions))
          → IsCutAt (last_of moments (number_in actions)) action old new did
          → Stood (marked_so action old client Are) (marked_actions action old actions) q (listened_in (action ∷ before)) new client
      by (Other Break) ports is can did told cut = elim is.0 [
        | inl is_one ↦
            unmarked (far.wants old.owner.end.server.view) (takes_none old.owner is_one) (yields (Other Break) ports is_one is.1 can did told)
        | inr breaks ↦ subst (λ w. Stood (cut_marks w (HasCome old.owner client.owner) Are) (with_cut w actions) q (listened_in before) new client)
            (sym breaks.0) (
            let there = far_done p q o.view o.is_seen ToldBreak can in
            let holds : Holding o.view client =
            record { had = λ e. h.had (sym (ap is_had o.is_seen.near) ∙ e); uncalled = ap is_called o.is_seen.near ∙ h.uncalled } in
            record {
              view = there.after;
              is_seen = there.is_seen;
              cut = cut_on actions puts before o.view there.after old new client is.1 breaks.0 did breaks.1 there.can (cut breaks.0) holds o.cut;
            })
      ]
      by action ports is can did told cut = yields action ports is.0 is.1 can did told

  -- ---- one after another

  -- so it is of all actions
  so_marked : (action : Action server_side) (before : List Turn) (between : Between) (count : ℕ) (start now : Stand server_side)
      (led : Led (action ∷ server_actions before) start now) (client_start client : Stand client_side) (client_led : Led (client_actions before) client_start client)
      → Stood (marked_so action led.0 client (AreMarks before start led.0 led.1 client_start client client_led))
      (marked_actions action led.0 (marking before start led.0 led.1)) between count now client
      → Stood (AreMarks (Server action ∷ before) start now led client_start client client_led) (marking (Server action ∷ before) start now led) between count now
      client
  so_marked (Other Break) before between count start now led client_start client client_led s = s
  so_marked action before between count start now led client_start client client_led s = s

  -- what was begun asks for all
  pub asked : (turns : List Turn) (server_start server : Stand server_side) (server_led : Led (server_actions turns) server_start server)
      (client_start client : Stand client_side) (client_led : Led (client_actions turns) client_start client)
      → GivesAlong (client_actions turns) client_start client client_led → AskAll (begun_at moments (marking turns server_start server server_led))
  asked turns server_start server server_led client_start client client_led gives =
      subst AskAll (sym (same_begun moments turns server_start server server_led))
      (in_all moments (client_actions turns) client_start client client_led gives)

  pub reaches : (turns : List Turn) (between : Between) → (happened : Happened turns between)
      → (server_start server : Stand server_side) (client_start client : Stand client_side) → Begins b server_start client_start
      → server_start.owner.channel.untold ≡ [] → client_start.owner.channel.unwritten ≡ []
      → server_start.owner.channel.unwritten ≡ [] → client_start.owner.channel.untold ≡ []
      → (server_led : Led (server_actions turns) server_start server) (client_led : Led (client_actions turns) client_start client)
      → LosesAlong (server_actions turns) server_start server server_led → GivesAlong (client_actions turns) client_start client client_led
      → ArePorts (server_actions turns) → AreToldAt moments turns server_start server server_led
      → AreCutAt moments turns server_start server server_led
      → Stood (AreMarks turns server_start server server_led client_start client client_led) (marking turns server_start server server_led) between
      (listened_in (server_actions turns)) server client
  reaches [] between happened server_start server client_start client begins untold unwritten far_unwritten near_untold server_led client_led takes gives
      ports told cut_at =
      let start = starts_so read reads moments timed b fair server_start client_start begins untold unwritten far_unwritten near_untold in
      let whole : W (λ marks. marks ≡ []) [] nothing_yet 0 server_start client_start = record {
        at = start.0;
        marks = [];
        are_marks = refl;
        marked = start.1;
        unsent = subst (IsPlainBy Unsent) (sym begins.client_view) (record { job = tt; port = refl; run = refl });
      } in
      subst (λ (m : Between). Stood (λ marks. marks ≡ []) [] m 0 server client) (sym happened)
      (subst (λ (s : Stand server_side). Stood (λ marks. marks ≡ []) [] nothing_yet 0 s client) (sym server_led)
      (subst (λ (c : Stand client_side). Stood (λ marks. marks ≡ []) [] nothing_yet 0 server_start c) (sym client_led)
      (record {
        view = nothing_yet;
        is_seen = seen_itself nothing_yet;
        cut = inl (record {
          middle = nothing_yet;
          seen = inl refl;
          written = λ e. unwritten;
          suffered = inl (inl (subst (λ (s : Stand server_side). W (λ marks. marks ≡ []) [] nothing_yet 0 s client_start)
              (sym (dried_none server_start far_unwritten)) whole));
        });
      })))
  reaches (Server action ∷ before) between happened server_start server client_start client begins untold unwritten far_unwritten near_untold server_led
      client_led takes gives ports told cut_at =
      let reached = reaches before happened.0 happened.1 server_start server_led.0 client_start client begins untold unwritten far_unwritten near_untold
      server_led.1 client_led takes.0 gives (earlier action (server_actions before) ports) told.0 cut_at.0 in
      let number = sym (same_number before server_start server_led.0 server_led.1) in
      so_marked action before between (listened_in (action ∷ server_actions before)) server_start server server_led client_start client client_led
      (server_turn (marking before server_start server_led.0 server_led.1)
      (asked before server_start server_led.0 server_led.1 client_start client client_led gives) (server_actions before) happened.0 between server_led.0 server
      client reached action ports takes.1 happened.2 server_led.2
      (subst (λ k. IsToldAt action server_led.0 server server_led.2 (last_of moments k)) number told.1)
      (subst (λ k. IsCutAt (last_of moments k) action server_led.0 server server_led.2) number cut_at.1)
      (holding before happened.0 happened.1 server_start server_led.0 server_led.1 client_start client client_led takes.0 gives))
  reaches (Client action ∷ before) between happened server_start server client_start client begins untold unwritten far_unwritten near_untold server_led
      client_led takes gives ports told cut_at =
      let reached = reaches before happened.0 happened.1 server_start server client_start client_led.0 begins untold unwritten far_unwritten near_untold
      server_led client_led.1 takes gives.0 ports told cut_at in
      let there = near_done happened.0 between reached.view reached.is_seen (touch_in action) happened.2 in
      record {
        view = there.after;
        is_seen = there.is_seen;
        cut = client_turn action (marking before server_start server server_led)
            (asked before server_start server server_led client_start client_led.0 client_led.1 gives.0)
            (server_actions before) ports reached.view there.after server client_led.0 client reached.cut gives.1 there.can client_led.2;
      }
