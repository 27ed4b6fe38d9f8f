-- What is so of every world whose server is to dial: its client is at its port, and the 150, or what is left of it, is all that lies between.
use Rattle.std.proofs.Common.{◌≡◌, ◌⊎◌, inl, inr, ℕ, Bool, true, false, true≢false, List, [], ◌∷◌, ◌++◌, refl, sym, ap, ap₂, subst, ◌∙◌, append_assoc, append-nil}
use Rattle.ftp_direct.specs.Direct.{State}
use Rattle.ftp_ends.specs.Link.{same_host}
use Rattle.ftp_ends.specs.Reply.{IsWritten, reply_octets}
use Rattle.ftp_reply.specs.Lines.{Text}
use Rattle.ftp_operation.specs.declared.op.Op.{Op}
use Rattle.ftp_operation.specs.declared.op.Op.TheVariants as Ops
use Rattle.ftp_client_model.proofs.RepliesInFlight.{in_pieces, reply_is_heard}
use Rattle.ftp_client_model.specs.Calls as near
use Rattle.ftp_client_model.specs.Calls.{is_down}
use Rattle.ftp_client_model.specs.Dialogue.{answered}
use Rattle.ftp_client_model.specs.InFlight.{HearsReply}
use Rattle.ftp_client_model.specs.Octets.{settled_of}
use Rattle.ftp_client_model.specs.Plan.{count_of}
use Rattle.ftp_client_model.specs.View.{Flow, View as Near}
use Rattle.ftp_client_model.specs.declared.client.ClientLink.TheVariants as NearData
use Rattle.ftp_client_model.specs.declared.client.Replied.TheVariants as Replies
use Rattle.ftp_server_model.specs.Calls.{is_upload}
use Rattle.ftp_server_model.specs.Machine.{IsReading, Reading}
use Rattle.ftp_server_model.specs.Replies.{fixed_reply}
use Rattle.ftp_server_model.specs.View.{Session, Transfer, View as Far}
use Rattle.ftp_server_model.specs.declared.reply.FixedReply.TheVariants as Texts
use Rattle.ftp_server_model.specs.declared.session.Pending.TheVariants as Pendings
use Rattle.ftp_server_model.specs.declared.session.ServerLink.{ServerLink}
use Rattle.ftp_server_model.specs.declared.session.ServerLink.TheVariants as Data
use Rattle.laws_world.specs.Agreement.{Order, Single}
use Rattle.laws_world.specs.Events.{is_closed_by_near}
use Rattle.laws_world.specs.World.{Gone, Mark, Stands, World}
use Rattle.ftp_path.specs.Path.{Names}
use Rattle.ftp_wire.specs.Decoder.{Decoder}
use Rattle.ftp_server_model.specs.declared.session.Keep.{Keep}
use Rattle.ftp_server_model.specs.declared.session.Pending.{Pending}
use Rattle.laws_dialogues.specs.Fetches.{Ask, Direction, Down, IsAsk, Rise, Up, busy, carried, carrying, linked}
use Rattle.laws_dialogues.specs.Stage.{Answering, Way, calm, rest}
use Rattle.laws_dialogues.proofs.Fetching.{own_host}
use Rattle.laws_dialogues.proofs.Offering.{offer_awaited, with_flow}
use Rattle.laws_agreement.specs.Cut.{Cut, Fits, PlacedAt, world_at}
use Rattle.laws_agreement.specs.Follows.{Phase}
use Rattle.laws_agreement.specs.PeekStages.{AtHalt, Gave, Gives, Halt, Halted, halt_far}
use Rattle.laws_agreement.specs.Runs.{IsFetching}
use Rattle.laws_agreement.specs.Over.{OverRuns}
use Rattle.laws_agreement.specs.Rising.{Declined, Lift, Offered, Risen, Rising, Settled, Unjoined, held}
use Rattle.laws_agreement.specs.Stages.{AtFetch, Awaits, Holds, Rises}
use Rattle.laws_agreement.proofs.Still.{IsSeen, IsStill, no_octets, rest_placed, seen_placed}
use Rattle.laws_drivers.proofs.world.Known.{beside}
use Rattle.laws_drivers.proofs.world.Running.{free_still, not_lost, under_still}
use Rattle.laws_drivers.proofs.events.Plain.{IsSome}
use Rattle.laws_transfers.specs.Actions.{IsCarried}
use Rattle.laws_transfers.proofs.Acting.{Acts, aside_idle, carry_not, idle_or_acts, is_acting}
use Rattle.laws_transfers.proofs.Known.{AreCarried, is_ready, last_carried}
use Rattle.laws_transfers.proofs.Running.{not_trailing}
use Rattle.laws_active.proofs.Accepting.{IsFew, awaiting}

-- its own command was sent, and no reply to it was heard
abbrev pub listening : Op (List ℕ) → Flow → ℕ → Near → Near
listening op flow port n = busy (with_flow op Replies.Nothing flow) (NearData.Listening port) n

-- a client at its port to which these octets of the 150 are still to come
pub record Opens (op : Op (List ℕ)) (flow : Flow) (port : ℕ) (n : Near) (octets : List ℕ) : Type 0 where
  pub fronts : (front back : List ℕ) (octet : ℕ) → front ++ octet ∷ back ≡ octets
      → (near.hears n front ≡ listening op flow port (near.hears n front)) × ((near.hears n front).owed ≡ [])
  pub whole : near.hears n octets ≡ awaiting op Replies.Begun flow port (near.hears n octets)
  pub none : (near.hears n octets).owed ≡ []

-- the server is to take octets, once its data connection is there
abbrev pub is_lift : ServerLink Transfer → Bool
is_lift (Data.Opening transfer way) = is_upload (Data.Transferring transfer)
is_lift link = false

-- it waits for the 150, or heard all of it
pub data Waits (op : Op (List ℕ)) (flow : Flow) (port : ℕ) (n : Near) (octets : List ℕ) : Type 0 where
  Coming : (octet : ℕ) (more : List ℕ) → octets ≡ octet ∷ more → Opens op flow port n octets → Waits op flow port n octets
  Came : octets ≡ [] → n ≡ awaiting op Replies.Begun flow port n → Waits op flow port n octets

pub record Calls (w : World) : Type 0 where
  pub op : Op (List ℕ)
  pub flow : Flow
  pub few : IsFew op flow
  pub port : ℕ
  pub link : w.link ≡ Gone
  pub to_server : w.control_to_server ≡ []
  pub rising : w.data_to_server ≡ []
  pub falling : w.data_to_client ≡ []
  pub same : same_host w.far.context.here (near.hears w.near w.control_to_client).peer ≡ true
  pub none_owed : w.near.owed ≡ []
  pub rises : is_down flow ≡ false → is_lift w.far.session.connection ≡ true
  pub waits : Waits op flow port w.near w.control_to_client

-- ---- at a stage

-- it waits for its data connection
abbrev pub is_opening : ServerLink Transfer → Bool
is_opening (Data.Opening transfer way) = true
is_opening link = false

idle_unopened : (link : ServerLink Transfer) → is_acting link ≡ false → is_opening link ≡ false
idle_unopened Data.Free is = refl
idle_unopened (Data.Active endpoint) is = refl
idle_unopened Data.Passive is = refl
idle_unopened Data.Ready is = refl
idle_unopened (Data.Asked verb) is = refl
idle_unopened (Data.Transferring transfer) is = refl
idle_unopened (Data.Opening transfer way) is = absurd (true≢false is)

held_unopened : (past : Bool) (path : Names) (keep : Keep) (d : Decoder) → is_opening (held past path keep d) ≡ false
held_unopened true path keep d = refl
held_unopened false path keep d = refl

module _ (read : Reading) (state : State) (ask : Ask) (good : IsAsk ask) (own : List Mark) (some : IsSome (count_of ask.op)) where
  abbrev At : Way → World → Type 0
  At way b = AtFetch state ask read own way b

  abbrev flow : Flow
  flow = carrying ask.sends ask.settings

  abbrev opening : List Text
  opening = (fixed_reply Texts.Opens).lines

  -- a client that hears the 150 wherever it is cut
  module _ (written : IsWritten 150 opening) (b : Near) (port : ℕ) (is : b ≡ listening ask.op flow port b) (front octets : List ℕ)
      (cut : front ++ octets ≡ reply_octets (fixed_reply Texts.Opens)) where
    heard : HearsReply 150 opening (calm b)
    heard = reply_is_heard 150 opening (calm b) written (record { ear = refl; gathered = refl })

    heard_all : near.hears (near.hears (calm b) front) octets ≡ calm (busy (with_flow ask.op Replies.Begun flow) (NearData.Accepting port) b)
    heard_all =
        sym (in_pieces (calm b) front octets) ∙ ap (near.hears (calm b)) cut ∙ heard.whole ∙ ap (λ n. answered 150 opening (calm n)) is
        ∙ offer_awaited ask.op flow b port opening

    opens : Opens ask.op flow port (near.hears (calm b) front) octets
    opens = record {
      fronts = λ part back octet part_is.
          let one = heard.cut (front ++ part) back octet (append_assoc front part (octet ∷ back) ∙ ap (λ l. front ++ l) part_is ∙ cut) in
          let part_heard : near.hears (near.hears (calm b) front) part ≡ record (calm b) { ear = one.ear; gathered = one.gathered } =
          sym (in_pieces (calm b) front part) ∙ one.is in (
            part_heard ∙ ap (λ n. record (calm n) { ear = one.ear; gathered = one.gathered }) is ∙ ap (listening ask.op flow port) (sym part_heard),
            ap (λ (n : Near). n.owed) part_heard,
          );
      whole = heard_all ∙ ap (awaiting ask.op Replies.Begun flow port) (sym heard_all);
      none = ap (λ (n : Near). n.owed) heard_all;
    }

  pub stage_calls : (w : World) → PlacedAt At w → is_opening w.far.session.connection ≡ true → w.far.owed ≡ [] → Calls w
  stage_calls w s waiting flushed = by (idle_or_acts read state ask good own w s)
    where
      seen : IsSeen s.base w
      seen = seen_placed At w s

      never : (link : ServerLink Transfer) → s.base.far.session.connection ≡ link → is_opening link ≡ false → Calls w
      never link is none = absurd (true≢false (sym waiting ∙ ap (λ (t : Session). is_opening t.connection) seen.session ∙ ap is_opening is ∙ none))

      apart : {link : ServerLink Transfer} {closing : Bool} {pending : Pending Names} → s.base.far.session ≡ linked link closing pending s.base.far.session
          → is_opening link ≡ false → Calls w
      apart {link} is none = never link (ap (λ (t : Session). t.connection) is) none

      -- beside the control connection nothing moves
      called : (port : ℕ) (begun : Bool) → Holds state ask own (Awaits port begun) s.way s.base → w.control_to_server ≡ [] → w.near.owed ≡ []
          → same_host w.far.context.here (near.hears w.near w.control_to_client).peer ≡ true → Waits ask.op flow port w.near w.control_to_client → Calls w
      called port begun h alone owed same waits = record {
        op = ask.op;
        flow = flow;
        few = (some, unsettled ask.sends);
        port = port;
        link = ap (λ (u : World). u.link) s.is ∙ (beside s.base s.way s.cut).0 ∙ h.link;
        to_server = alone;
        rising = ap (λ (u : World). u.data_to_server) s.is ∙ (beside s.base s.way s.cut).1 ∙ h.to_server;
        falling = ap (λ (u : World). u.data_to_client) s.is ∙ (beside s.base s.way s.cut).2 ∙ h.to_client;
        same = same;
        none_owed = owed;
        rises = λ e. ap (λ (t : Session). is_lift t.connection) (seen.session ∙ h.session) ∙ rising ask.sends e;
        waits = waits;
      }
        where
          unsettled : (sends : Direction) → settled_of (carrying sends ask.settings) ≡ []
          unsettled Down = refl
          unsettled (Up rise) = refl

          rising : (sends : Direction) → is_down (carrying sends ask.settings) ≡ false
              → is_upload (Data.Transferring (carried sends ask state)) ≡ true
          rising Down e = absurd (true≢false e)
          rising (Up rise) e = refl

      -- each is the other's peer
      peers : {port : ℕ} {begun : Bool} → Holds state ask own (Awaits port begun) s.way s.base
          → same_host s.base.far.context.here s.base.near.peer ≡ true
      peers h = ap (same_host s.base.far.context.here) h.steady.peer ∙ own_host s.base.far.context.here

      -- the 150 was heard
      heard_it : (port : ℕ) → Holds state ask own (Awaits port true) s.way s.base → Calls w
      heard_it port h =
          let is : w ≡ world_at s.base rest no_octets = rest_placed At w s h.way_is in
          called port true h (ap (λ (u : World). u.control_to_server) is) (ap (λ (u : World). u.near.owed) is)
          (ap (λ (u : World). same_host u.far.context.here (near.hears u.near u.control_to_client).peer) is ∙ peers h)
          (Came (ap (λ (u : World). u.control_to_client) is)
          (ap (λ (u : World). u.near) is ∙ ap calm h.near ∙ ap (awaiting ask.op Replies.Begun flow port) (sym (ap (λ (u : World). u.near) is))))

      -- or some of it is to come
      coming : (port : ℕ) → Holds state ask own (Awaits port false) s.way s.base → Calls w
      coming port h = by_cut s.cut both.0 both.1
        where
          both : (w ≡ world_at s.base (Answering (fixed_reply Texts.Opens ∷ [])) s.cut) × Fits (Answering (fixed_reply Texts.Opens ∷ [])) s.cut
          both = subst (λ v. (w ≡ world_at s.base v s.cut) × Fits v s.cut) h.way_is (s.is, s.fits)

          by_cut : (c : Cut) → w ≡ world_at s.base (Answering (fixed_reply Texts.Opens ∷ [])) c → Fits (Answering (fixed_reply Texts.Opens ∷ [])) c → Calls w
          by_cut c is fits =
              let flows = fits.1 in
              let none : c.owed ≡ [] = sym (ap (λ (u : World). u.far.owed) is) ∙ flushed in
              let moving : c.moving ≡ flows.octet ∷ flows.more =
              sym (append-nil c.moving) ∙ ap (λ o. c.moving ++ o) (sym none) ∙ flows.is ∙ append-nil (flows.octet ∷ flows.more) in
              let queue : w.control_to_client ≡ flows.octet ∷ flows.more = ap (λ (u : World). u.control_to_client) is ∙ moving in
              let o : Opens ask.op flow port (near.hears (calm s.base.near) c.held) (flows.octet ∷ flows.more) =
              opens fits.0.0 s.base.near port h.near c.held (flows.octet ∷ flows.more) flows.whole in
              let near_is : w.near ≡ near.hears (calm s.base.near) c.held = ap (λ (u : World). u.near) is in
              let all : near.hears w.near w.control_to_client ≡ calm (busy (with_flow ask.op Replies.Begun flow) (NearData.Accepting port) s.base.near) =
              ap₂ near.hears near_is queue ∙ heard_all fits.0.0 s.base.near port h.near c.held (flows.octet ∷ flows.more) flows.whole in
              called port false h (ap (λ (u : World). u.control_to_server) is)
              (ap (λ (n : Near). n.owed) near_is ∙ (o.fronts [] flows.more flows.octet refl).1)
              (ap₂ (λ (f : Far) (n : Near). same_host f.context.here n.peer) (ap (λ (u : World). u.far) is) all ∙ peers h)
              (subst (λ n. Waits ask.op flow port n w.control_to_client) (sym near_is)
              (subst (λ l. Waits ask.op flow port (near.hears (calm s.base.near) c.held) l) (sym queue) (Coming flows.octet flows.more refl o)))

      at_held : (past : Bool) (path : Names) (keep : Keep) (d : Decoder)
          → s.base.far.session ≡ linked (held past path keep d) false Pendings.Nothing s.base.far.session → Calls w
      at_held past path keep d is = apart is (held_unopened past path keep d)

      by_lift : (rise : Rise) (lift : Lift) → Holds state ask own (Rises rise lift) s.way s.base → Calls w
      by_lift rise Offered h = at_held false _ _ _ h.session
      by_lift rise (Rising past octet more came queue mark notes) h = at_held past _ _ _ h.session
      by_lift rise (Risen past closed came queue mark notes) h = at_held past _ _ _ h.session
      by_lift rise (Settled begun mark notes fate left after) h = apart h.session refl
      by_lift rise (Declined why door) h = apart h.session refl
      by_lift rise Unjoined h = apart h.session refl

      by : (is_acting w.far.session.connection ≡ false) ⊎ Acts read state ask good own s.way s.base → Calls w
      by (inl idle) = absurd (true≢false (sym waiting ∙ idle_unopened w.far.session.connection idle))
      by (inr (inl (port, true, h))) = heard_it port h
      by (inr (inl (port, false, h))) = coming port h
      by (inr (inr (inl (c, h)))) = apart h.session (carry_not is_opening refl (λ listed octets. refl) ask.listed c.course)
      by (inr (inr (inr (rise, lift, h)))) = by_lift rise lift h

-- ---- in a world

-- such an operation asks for one octet at least, where it asks for a number of them
pub carried_some : (op : Op (List ℕ)) → IsCarried op → IsSome (count_of op)
carried_some (Ops.Peek path count how) some = some
carried_some op is = tt

-- a server whose Peek sent ABOR waits for no data connection
halt_unopened : (state : State) (ask : Ask) (own : List Mark) (w : World) → AtHalt state ask own w → is_opening w.far.session.connection ≡ false
halt_unopened state ask own w a =
    ap (λ (u : World). is_opening u.far.session.connection) a.is ∙ ap (λ (t : Session). is_opening t.connection) a.here.session ∙ by a.halt
  where
    by : (halt : Halt) → is_opening (halt_far ask.listed halt) ≡ false
    by (Gives octet more) = refl
    by (Gave whole final asked gap) = refl
    by (Halted whole left) = refl

module _ (read : Reading) (reads : IsReading read) (from : State) (begun : List Order) (puts : AreCarried begun) where
  pub world_calls : (w : World) → OverRuns read from begun w → w.control ≡ Stands
      → (is_closed_by_near w.link ≡ true → is_ready w.far.session.connection ≡ false)
      → is_opening w.far.session.connection ≡ true → w.far.owed ≡ [] → Calls w
  world_calls w runs control unready waiting flushed = by runs
    where
      still : IsStill w → ⊥
      still s = true≢false (sym waiting ∙ idle_unopened w.far.session.connection (aside_idle w.far.session.connection s.far.aside))

      by_phase : Phase read from begun w → Calls w
      by_phase (inl (linked, inl free)) = absurd (still (free_still read from begun w free))
      by_phase (inl (linked, inr under)) = absurd (still (under_still read from begun w under))
      by_phase (inr lost) = absurd (not_lost read from begun w control lost)

      by_fetching : IsFetching read from begun w → Calls w
      by_fetching f =
          stage_calls read f.now f.ask f.is_ask f.own
          (carried_some f.ask.op (last_carried f.done (Single f.ask.op f.moment) begun f.begun_is puts).0) w f.stands waiting flushed

      by : OverRuns read from begun w → Calls w
      by (inl (inl f)) = by_phase f.phase
      by (inl (inr (inl on))) = by_fetching on.fetching
      by (inl (inr (inr (inl trailing)))) = absurd (not_trailing read reads from begun puts w unready trailing)
      by (inl (inr (inr (inr halting)))) = let h = halting.halting in absurd (true≢false (sym waiting ∙ halt_unopened h.now h.ask h.own w h.stands))
      by (inr (inl trying)) = absurd (last_carried trying.going.done _ begun trying.going.begun_is puts)
      by (inr (inr tailing)) = absurd (last_carried tailing.going.done _ begun tailing.going.begun_is puts)
