-- A server that takes octets of an upload is told of the break while its client has the link open: from then on a world is beside one that was not told. And
-- what that world is once its link breaks, for both or for its server alone: its client has left it, and then hears what the drive's heard.
use Rattle.std.proofs.Common.{◌≡◌, inl, inr, ℕ, ◌<◌, true, false, true≢false, List, [], ◌∷◌, ◌++◌, length, take, None, refl, sym, ap, subst, ◌∙◌, append_assoc, append-nil, arith}
use Rattle.std.proofs.lemmas.List.{take-append-le}
use Rattle.ftp_ports.specs.Actions.{Calls, Action, Heard, HearsNext, Other, Said as Says, Stand}
use Rattle.ftp_ports.specs.Channel.{Channel, no_channel, with_fate}
use Rattle.ftp_ports.specs.Machine.{Break, IsBroken}
use Rattle.ftp_ports.specs.declared.whole.Fate.TheVariants as Fates
use Rattle.ftp_client_driver.specs.Side.{client_side}
use Rattle.ftp_client_model.specs.Calls as near
use Rattle.ftp_client_model.specs.Calls.{hears, is_sound, may_hear}
use Rattle.ftp_client_model.specs.View.{Sending, View as Near}
use Rattle.ftp_client_model.specs.declared.client.Abort.TheVariants as Aborts
use Rattle.ftp_ends.specs.Reply.{reply_octets}
use Rattle.ftp_ends.specs.declared.link.Wants.{Wants}
use Rattle.ftp_ends.specs.declared.link.Wants.TheVariants as Want
use Rattle.ftp_server_driver.specs.alone.Side.{server_side}
use Rattle.ftp_server_model.specs.Calls as far
use Rattle.ftp_server_model.specs.Calls.{break_step, clock_step, is_upload}
use Rattle.ftp_server_model.specs.Machine.{IsReading, Reading, later}
use Rattle.ftp_server_model.specs.Replies.{fixed_reply}
use Rattle.ftp_server_model.specs.View.{View as Far, direct_of}
use Rattle.laws_world.specs.Claims.{Beginning, IsFair}
use Rattle.laws_world.specs.World.{Broken, World, marked_last}
use Rattle.laws_agreement.specs.Rising.{sending}
use Rattle.laws_drivers.proofs.world.Moves.{take_front}
use Rattle.laws_drivers.specs.world.Ahead.{is_open}
use Rattle.laws_drivers.specs.control.Alone.{ServerIsCalm}
use Rattle.laws_drivers.specs.control.Between.{Between, Can, Far as TheServer, Has_lost}
use Rattle.laws_drivers.specs.control.Touches.{ToldBreak}
use Rattle.laws_drivers.proofs.control.Calm.{first_is_calm}
use Rattle.laws_drivers.specs.events.Actions.{ArePorts, listened_in}
use Rattle.laws_drivers.proofs.events.FarForms.{no_close, none_later}
use Rattle.laws_drivers.proofs.events.Plain.{IsPlainly}
use Rattle.laws_drivers.proofs.events.Stands.{ServerServes}
use Rattle.laws_drivers.specs.events.Moments.{AreMoments, begun_at, last_of, number_in}
use Rattle.laws_transfers.proofs.Known.{is_near_held}
use Rattle.laws_breaks.proofs.downloads.BothTold.{resplit}
use Rattle.laws_breaks.proofs.downloads.ClientBroken.{broken_channel}
use Rattle.laws_breaks.proofs.downloads.Drained.{dried, dry}
use Rattle.laws_breaks.proofs.downloads.Lagging.{OfMarks, Whole}
use Rattle.laws_breaks.proofs.downloads.Preceding.{behind, unaware}
use Rattle.laws_breaks.proofs.downloads.Steps.{Again, At, client_step, idle_again, recounted, server_step}
use Rattle.laws_breaks.proofs.downloads.Unsent.{AskAll, all_carried}
use Rattle.laws_breaks.specs.uploads.Coming.{CameOver, HasCome}
use Rattle.laws_breaks.specs.uploads.Actions.{cut_marks}
use Rattle.laws_breaks.proofs.uploads.Concluded.{Concludes, break_concludes}
use Rattle.laws_breaks.proofs.uploads.Leaving.{gone, is_send, lost, out_hold, seen_none}
use Rattle.laws_breaks.proofs.uploads.Offering.{Offers}
use Rattle.laws_breaks.proofs.uploads.Outliving.{Outlives, Taker, held_near, held_offers}
use Rattle.laws_breaks.proofs.uploads.ServerCut.{Remains}
use Rattle.laws_breaks.proofs.uploads.Serving.{cut_there, wants_upload, world_last, world_upload}
use Rattle.laws_breaks.proofs.uploads.Standing.{restood, says_first, standing, told_break, undone}

-- what a server that takes octets holds once it was told of a break
told_concludes : (old new : Stand server_side) → ServerServes old.owner → ServerIsCalm old.owner new.owner
    → (did : Calls {side = server_side} Break old new) (ends : Concludes (clock_step did.0.0.0 old.owner.end.server.view))
    → new.owner.end.server.view ≡ record (clock_step did.0.0.0 old.owner.end.server.view) {
      session = ends.session;
      owed = old.owner.end.server.view.owed ++ reply_octets (fixed_reply ends.text);
    }
told_concludes old new serves calm did ends =
    let v : Far = old.owner.end.server.view in
    let f : Far = clock_step did.0.0.0 v in
    let acts = did.0.0.3 in
    let calls = did.0.0.4 in
    let first : did.0.0.1.counts ≡ old.owner.end.server.counts =
    first_is_calm old.owner.end.server.counts did.0.0.1.counts new.owner.end.server.counts acts.counted calls.counted calm in
    let mid : did.0.0.1.view ≡ f = acts.done first ∙ none_later f serves.none_waits in
    calls.done (calm ∙ sym first) ∙ ap (λ x. later (break_step x)) mid
    ∙ none_later (break_step f) (ap (λ (x : Far). x.waiting) (ends.is v.owed) ∙ serves.none_waits) ∙ ends.is v.owed

module _ (read : Reading) (reads : IsReading read) (moments : ℕ → ℕ) (timed : AreMoments moments) (b : Beginning) (fair : IsFair b) where
  -- ---- it is told

  module _ {Are : OfMarks} (actions : List (Action client_side)) (puts : AskAll (begun_at moments actions)) (p q : Between) (count : ℕ)
      (old new : Stand server_side) (client : Stand client_side) (calm : ServerIsCalm old.owner new.owner)
      (wants : far.wants old.owner.end.server.view ≡ Want.Receive)
      (did : Calls {side = server_side} Break old new) (moment : did.0.0.0 ≡ last_of moments (number_in actions)) (untold : old.owner.channel.untold ≡ [])
      (can : Can TheServer ToldBreak p q)
      (o : Whole read reads moments timed b fair Are actions p count old client) (held : is_near_held o.at.world.link ≡ true)
      (stands : client.owner.channel.stands ≡ true) where
    abbrev v : Far
    v = old.owner.end.server.view

    -- it wants no close
    unclosed : v.session.closing ≡ false
    unclosed = no_close v Want.Receive wants refl

    -- what it holds then
    taker : Taker read reads moments timed b fair (Other Break ∷ actions) q new
    taker =
        let serves : ServerServes old.owner = record { running = o.at.serves.running; none_waits = o.at.serves.none_waits } in
        let channel : new.owner.channel ≡ with_fate Fates.Broken old.owner.channel = did.0.1 in
        let ends : Concludes (clock_step did.0.0.0 v) =
        break_concludes (clock_step did.0.0.0 v) unclosed (wants_upload v serves.running wants) in
        record {
          were = v;
          channel = old.owner.channel;
          unheard = old.unheard;
          takes = wants;
          due = subst (λ (w : Wants). IsBroken w old.owner.channel.stands old.owner.channel.fate) wants did.0.2;
          moment = did.0.0.0;
          at_moment = moment;
          were_untold = untold;
          running = serves.running;
          none_waits = serves.none_waits;
          unshut = unclosed;
          ends = ends;
          said = [];
          left = v.owed ++ reply_octets (fixed_reply ends.text);
          far_is = told_concludes old new serves calm did ends;
          whole = refl;
          owes = inr refl;
          unread = ap (λ (y : Stand server_side). y.unheard) did.1;
          untold = ap (λ (x : Channel). x.untold) channel ∙ untold;
          none = ap (λ (x : Channel). (dry x).unwritten) channel;
          shut = broken_channel old.owner.channel new.owner.channel channel;
          hold = ap (λ (m : Between). m.far) can.1;
        }

    -- so a world is beside one that was not told
    pub told_taking : Outlives read reads moments timed b fair (cut_marks Want.Receive (HasCome old.owner client.owner) Are) (Other Break ∷ actions) q count
        new client
    unfolding taker
    told_taking =
        let n : Near = client.owner.end.view in
        let queue : List ℕ = client.unheard ++ p.control.to_client in
        let takes : is_upload o.at.world.far.session.connection ≡ true =
        world_upload read reads moments timed b fair actions puts p q count old new client calm wants o.at in
        let offers : Offers o.at.world = held_offers read reads moments timed b fair actions puts p count old client o.at takes held in
        let near_was : o.at.world.near ≡ n = held_near read reads moments timed b fair actions puts p count old client o.at takes held in
        let begun = world_last read reads moments timed b fair actions puts p q count old new client calm wants o.at in
        let job : n.job ≡ sending begun.op begun.climbing.replied begun.climbing.left begun.climbing.mark =
        ap (λ (m : Near). m.job) (sym near_was) ∙ begun.climbing.job in
        let anew =
        recounted read reads moments timed b fair actions p count old (standing v old.owner.channel old.unheard) client o.at in
        let got = resplit read reads moments timed b fair actions (all_carried (begun_at moments actions) puts) p (behind q) count
        (standing v old.owner.channel old.unheard) client (unaware client.owner.end.refusals n queue client.owner.channel) anew.0 refl
        (ap (λ (m : Between). m.control.to_server) can.1) (sym (append-nil queue))
        (ap (λ (m : Between). m.data_ways) can.1) (sym can.0) (ap (λ (m : Between). m.near) can.1) in
        let idle = idle_again read reads moments timed b fair (Other Break) actions got.0 refl refl in
        record {
          taker = taker;
          refusals = client.owner.end.refusals;
          near = n;
          queue = queue;
          at = idle.0;
          linked = ap (λ (v : Near). v.connection) (sym near_was) ∙ ap (λ (v : Near). v.connection) offers.near;
          unsent = o.unsent;
          marks = o.marks;
          are_marks = (o.marks, o.are_marks, inl refl);
          asked = begun.op;
          transfer = record { replied = begun.climbing.replied; abort = Aborts.Unsent; flow = Sending begun.climbing.left begun.climbing.mark };
          last = (begun.last.0, begun.last.1, append-nil (begun_at moments actions) ∙ begun.last.2);
          are_broken = λ came is.
              (o.marks, o.are_marks, inr (came, subst (λ j. CameOver v.session.connection (direct_of v.session) j came) (sym job) is, refl));
          marked = idle.1 ∙ got.1 ∙ anew.1 ∙ o.marked;
          stands = stands;
          calm = refl;
          heard = [];
          view = refl;
          split = append-nil queue ∙ ap (λ (m : Between). client.unheard ++ m.control.to_client) (sym can.1);
          late = inl refl;
        }

  -- ---- its world's link breaks

  module _ (actions : List (Action client_side)) (puts : AskAll (begun_at moments actions)) (before : List (Action server_side)) (ports : ArePorts before)
      (p : Between) (server : Stand server_side) (t : Taker read reads moments timed b fair actions p server) (refusals : ℕ) (n : Near) (queue : List ℕ)
      (channel : Channel)
      (o : At read reads moments timed b fair actions (behind p) (listened_in before) (standing t.were t.channel t.unheard) (unaware refusals n queue channel))
    where
      abbrev count : ℕ
      count = listened_in before

      abbrev w : World
      w = o.world

      abbrev were : Stand server_side
      were = standing t.were t.channel t.unheard

      -- it is told
      abbrev then_view : Far
      then_view = record (clock_step t.moment t.were) { session = t.ends.session; owed = t.were.owed ++ reply_octets (fixed_reply t.ends.text) }

      -- its channel is of no matter any more
      abbrev then_channel : Channel
      then_channel = dry (with_fate Fates.Broken t.channel)

      -- so it stands
      abbrev told : Stand server_side
      told = standing then_view then_channel t.unheard

      -- its client has left the data connection
      abbrev pub left_near : Near → Stand client_side
      left_near view = unaware refusals view queue (no_channel None)

      -- what lies between then
      abbrev pub ways : Between
      ways = record (lost (behind p)) { far = Has_lost }

      -- the server says what it said since
      abbrev pub says : Between
      says = record ways { control = record ways.control { to_client = [] ++ t.said } }

      module _ (view : Near) (r : Remains w (unaware refusals n queue channel) (left_near view) (behind p) ways) (sound : is_sound view.standing ≡ true)
          (plain : IsPlainly view) where
        told_then : Again read reads moments timed b fair actions ways count told (left_near view) (marked_last (Broken w.came) w.marks)
        told_then =
            let did = told_break t.were t.channel t.unheard t.moment t.ends t.none_waits t.takes t.due in
            cut_there read reads moments timed b fair actions puts (behind p) count were (standing then_view (with_fate Fates.Broken t.channel) t.unheard)
            (unaware refusals n queue channel) refl o ways (left_near view)
            did.0 t.takes (did.1 ∙ t.at_moment) r t.were_untold sound plain
            (λ called. absurd (true≢false (sym called)))

        -- so a world is beside the drive's server, and a client that heard nothing of what it said since
        pub told_world : Again read reads moments timed b fair actions says count (dried server) (left_near view) (marked_last (Broken w.came) w.marks)
        told_world =
            let s = server_step read reads moments timed b fair (Says t.said) told
            (standing (record then_view { owed = t.left }) then_channel t.unheard) tt refl actions
            (all_carried (begun_at moments actions) puts) before ports ways says refl (left_near view) told_then.0
            (says_first t.said t.left then_view then_channel t.unheard t.whole t.none_waits) tt in
            let z = restood read reads moments timed b fair actions says count (standing (record then_view { owed = t.left }) then_channel t.unheard) (dried server)
            (left_near view) s.0 t.far_is t.unread t.were_untold t.untold t.none
            (ap (λ (v : Far). is_open v.session.connection) t.far_is ∙ ap is_open t.ends.free) refl in
            (z.0, z.1 ∙ s.1 ∙ told_then.1)

        -- and the client hears what the drive's heard
        module _ (q : Between) (new : Stand client_side) (heard : List ℕ) (calm : new.owner.end.refusals ≡ refusals)
            (is : new.owner.end.view ≡ hears view heard) (idle : is_send (near.wants view) ≡ false)
            (may : (k : ℕ) → k < length heard → may_hear (hears view (take k heard)) ≡ true)
            (split : queue ++ t.said ≡ heard ++ (new.unheard ++ q.control.to_client)) (other : q.control.to_server ≡ p.control.to_server)
            (down : q.data_ways.to_client ≡ p.data_ways.to_client) (near_hold : out_hold q.near ≡ out_hold p.near) (far_hold : q.far ≡ Has_lost) where
          -- it has read that
          abbrev second : Stand client_side
          second = record new {
            owner = record { end = record { view = view; refusals = refusals }; channel = no_channel None };
            unheard = heard ++ new.unheard;
          }

          -- so a world is beside one that read it
          read_so : Again read reads moments timed b fair actions (lost q) count (dried server) second (marked_last (Broken w.came) w.marks)
          read_so =
              let got = resplit read reads moments timed b fair actions (all_carried (begun_at moments actions) puts) says (lost q) count (dried server)
              (left_near view) second told_world.0 refl other (split ∙ sym (append_assoc heard new.unheard q.control.to_client))
              (ap (λ o. record { to_server = []; to_client = o }) down) far_hold near_hold in
              (got.0, got.1 ∙ told_world.1)

          -- and that hears it
          heard_next : HearsNext heard second (gone new)
          heard_next =
              let first_is : take (length heard) (heard ++ new.unheard) ≡ heard = take_front heard new.unheard in
              let may_each : (k : ℕ) → k < length heard → may_hear (hears view (take k (heard ++ new.unheard))) ≡ true =
              λ k less. ap (λ o. may_hear (hears view o)) (take-append-le k heard new.unheard (omega (arith, less))) ∙ may k less in
              record {
                hears = (
                  ((λ same. (is ∙ ap (hears view) (sym first_is), may_each), λ differ. absurd (differ calm)), inl calm),
                  seen_none (near.wants view) idle,
                  λ e. absurd (true≢false (sym e)),
                );
                next = refl;
                left = refl;
                written = refl;
              }

          -- so a world is beside one that has left its data connection
          pub cut_heard : Again read reads moments timed b fair actions (lost q) count (dried server) (gone new) (marked_last (Broken w.came) w.marks)
          cut_heard =
              let got : Again read reads moments timed b fair (Heard heard ∷ actions) (lost q) count (dried server) (gone new) read_so.0.world.marks =
              client_step read reads moments timed b fair (Heard heard) tt second (gone new) (tt, calm) actions (all_carried (begun_at moments actions) puts)
              (lost q) (lost q) refl count (dried server) read_so.0 heard_next in
              let done = undone read reads moments timed b fair (Heard heard) actions got.0 refl refl in
              (done.0, done.1 ∙ got.1 ∙ read_so.1)
