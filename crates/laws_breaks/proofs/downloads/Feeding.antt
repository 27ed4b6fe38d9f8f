-- What is so of a world whose client takes octets of a download: its server has let the link go, or waits for the command, or gives; and while it gives the
-- client has no final reply.
use Rattle.std.proofs.Common.{◌≡◌, ◌⊎◌, inl, inr, ℕ, Bool, true, false, true≢false, List, [], ◌∷◌, ◌++◌, length, None, refl, sym, ap, subst, ◌∙◌}
use Rattle.ftp_client_model.specs.Calls as near
use Rattle.ftp_client_model.specs.View.{Job, Transferring, View as Near}
use Rattle.ftp_client_model.specs.declared.client.Abort.TheVariants as Aborts
use Rattle.ftp_client_model.specs.declared.client.ClientLink.{ClientLink as NearConnection}
use Rattle.ftp_client_model.specs.declared.client.ClientLink.TheVariants as NearData
use Rattle.ftp_client_model.specs.declared.client.Replied.{Replied}
use Rattle.ftp_client_model.specs.declared.client.Replied.TheVariants as Replies
use Rattle.ftp_direct.specs.Direct.{State}
use Rattle.ftp_ends.specs.declared.link.Wants.TheVariants as Want
use Rattle.ftp_operation.specs.declared.op.Op.{Op}
use Rattle.ftp_path.specs.Path.{Names}
use Rattle.ftp_server_model.specs.Machine.{IsReading, Reading}
use Rattle.ftp_server_model.specs.View.{Session, Transfer}
use Rattle.ftp_server_model.specs.declared.session.Keep.{Keep}
use Rattle.ftp_server_model.specs.declared.session.Pending.{Pending}
use Rattle.ftp_server_model.specs.declared.session.Pending.TheVariants as Pendings
use Rattle.ftp_server_model.specs.declared.session.ServerLink.{ServerLink}
use Rattle.ftp_server_model.specs.declared.session.ServerLink.TheVariants as Data
use Rattle.ftp_wire.specs.Decoder.{Decoder, decoder_of, no_octets}
use Rattle.laws_world.specs.Agreement.{Order, Single}
use Rattle.laws_world.specs.Events.{ControlToClient, is_closed_by_near, pushed}
use Rattle.laws_world.specs.Outcome.{mark_in}
use Rattle.laws_world.specs.World.{Mark, Opened, Stands, World, counted}
use Rattle.laws_dialogues.specs.Fetches.{Ask, Direction, Down, HasAnswer, IsAsk, Rise, Up, busy, carrying, linked}
use Rattle.laws_dialogues.specs.Peeks.{halting}
use Rattle.laws_dialogues.specs.Dialogue.{IsSound}
use Rattle.laws_dialogues.specs.Stage.{Answering, Asking, Way, calm}
use Rattle.laws_agreement.specs.Cut.{Cut, Fits, FlowsRow, PlacedAt, world_at}
use Rattle.laws_agreement.specs.Follows.{Phase}
use Rattle.laws_agreement.specs.Over.{OverRuns}
use Rattle.laws_agreement.specs.PeekStages.{AtHalt, Gave, Gives as Halting, Halt, Halted, Halts}
use Rattle.laws_agreement.specs.Rising.{Closing, Declined, Lift, Offered, Risen, Rising, Settled, Shut, Unjoined, Vanished, held, lift_passes}
use Rattle.laws_agreement.specs.Runs.{IsFetching}
use Rattle.laws_agreement.specs.Stages.{Answers, AtFetch, Awaits, Carries, Closed, Course, Dialled, Dials, Dismissed, Ended, Given, Giving, Holds, IsLasting, Lost, PortAsked, PortDenied, PortSaid, PortTaken, PortTold, PortWanted, Ported, Refusing, Restarts, Retrieves, Rises, Severed, Tells, Unaccepted, Unclosed, Unopened, replies_behind_opening, far_link, gives_on, heard_by, is_passing, replied_of, replies_in, tie_of}
use Rattle.laws_agreement.proofs.FetchRuns.{pushed_client, serving_first}
use Rattle.laws_agreement.proofs.FetchServed.{leads_still}
use Rattle.laws_agreement.proofs.Rests.{near_form}
use Rattle.laws_agreement.proofs.Still.{IsSeen, IsStill, near_wants, seen_placed}
use Rattle.laws_drivers.proofs.world.Known.{is_receive}
use Rattle.laws_drivers.proofs.world.Running.{free_still, not_lost, under_still}
use Rattle.laws_drivers.proofs.events.Holding.{both}
use Rattle.laws_transfers.proofs.Acting.{Acts, idle_or_acts, idle_rests, is_acting}
use Rattle.laws_transfers.proofs.Known.{AreCarried, aside_rests, is_giving, is_ready, last_carried}
use Rattle.laws_transfers.proofs.Running.{not_trailing}
use Rattle.laws_drivers.proofs.events.Plain.{IsPlainJob}
use Rattle.laws_breaks.specs.downloads.Actions.{HasRead}
use Rattle.laws_breaks.specs.downloads.Late.{downloading}
use Rattle.laws_breaks.proofs.downloads.Counting.{answered_read}
use Rattle.laws_breaks.proofs.downloads.Faults.{Loads}
use Rattle.laws_breaks.proofs.downloads.Last.{AreFew, FewOf, IsLast}
use Rattle.laws_breaks.proofs.downloads.Late.{IsFew}
use Rattle.laws_breaks.proofs.downloads.Unsent.{Unsent, not_halting}

-- ---- the client

-- its final reply is in
abbrev pub is_final : Replied → Bool
is_final (Replies.Final code) = true
is_final replied = false

-- a client takes octets of a download, that of the operation which was begun last, as many as the world counts, and the server has let the link go, or has not
-- heard the command, or gives
pub record Feeding (begun : List Order) (w : World) : Type 0 where
  pub loads : Loads w.near
  pub last : IsLast begun loads.op
  pub read : HasRead loads.decoder w.came
  pub far : (w.far.session.connection ≡ Data.Free) ⊎ ((is_final loads.replied ≡ false)
      × ((is_giving w.far.session.connection ≡ true) ⊎ ((w.far.session.connection ≡ Data.Ready) × (w.control_to_client ≡ []))))

-- a server gives octets of a download, or of a listing: the client takes them, over a link that is open at both, and has no final reply; of a 150 it heard a
-- front, and the rest is on its way, or it heard it; nothing goes to the server
pub record Gives (orders : List Order) (w : World) : Type 0 where
  pub loads : Loads w.near
  pub last : IsLast orders loads.op
  pub read : HasRead loads.decoder w.came
  pub unfinal : is_final loads.replied ≡ false
  pub begun : Bool
  pub base : Near
  pub held : List ℕ
  pub near : w.near ≡ near.hears (downloading loads.op (replied_of (heard_by begun)) loads.decoder loads.mark (calm base)) held
  pub row : FlowsRow (replies_behind_opening (heard_by begun) []) held (w.control_to_client ++ w.far.owed)
  pub link : w.link ≡ Opened
  pub quiet : w.control_to_server ≡ []

-- one that gives does so over a link that is open at both; and the client takes octets, where less came than was asked for
record Sends (w : World) (op : Op (List ℕ)) (orders : List Order) : Type 0 where
  link : w.link ≡ Opened
  gives : FewOf op w.near.job → Gives orders w

-- ---- by stages

begun_unfinal : (begun : Bool) → is_final (replied_of (heard_by begun)) ≡ false
begun_unfinal true = refl
begun_unfinal false = refl

held_gives : (past : Bool) (path : Names) (keep : Keep) (d : Decoder) → is_giving (held past path keep d) ≡ false
held_gives false path keep d = refl
held_gives true path keep d = refl

gives_giving : (listed : Bool) (course : Course) (begun : Bool) (octet : ℕ) (more : List ℕ) → course ≡ Giving begun octet more
    → is_giving (far_link (gives_on listed course) (tie_of course)) ≡ true
gives_giving true course begun octet more is = ap (λ c. is_giving (far_link (gives_on true c) (tie_of c))) is
gives_giving false course begun octet more is = ap (λ c. is_giving (far_link (gives_on false c) (tie_of c))) is

module _ (read : Reading) (state : State) (ask : Ask) (good : IsAsk ask) (sound : IsSound state) (orders : List Order) (last : IsLast orders ask.op)
    (own : List Mark) where
  -- a decoder of a front of its text, of which less came than was asked for, has read that front
  few_read : (came rest : List ℕ) → came ++ rest ≡ ask.wire state → IsFew ask.op (decoder_of ask.settings came) → HasAnswer ask → state.known ≡ true
      → ask.why state ≡ None → HasRead (decoder_of ask.settings came) (counted (length came))
  few_read came rest is few answers known none =
      answered_read ask.op ask.settings came rest (ask.wire state) is few (ask.said state) (λ mark. answers.whole state mark sound known none)

  abbrev At : Way → World → Type 0
  At way b = AtFetch state ask read own way b

  module _ (w : World) (s : PlacedAt At w) where
    of : IsSeen s.base w
    of = seen_placed At w s

    link_is : (link : ServerLink Transfer) (closing : Bool) (pending : Pending Names) → s.base.far.session ≡ linked link closing pending s.base.far.session
        → w.far.session.connection ≡ link
    link_is link closing pending is = ap (λ v. v.connection) (of.session ∙ is)

    -- what came is read
    came_read : (came : List ℕ) → s.base.came ≡ counted (length came) → HasRead (decoder_of ask.settings came) (counted (length came))
        → HasRead (decoder_of ask.settings came) w.came
    came_read came counts has = subst (HasRead (decoder_of ask.settings came)) (sym (came_in s.way s.cut s.is ∙ counts)) has
      where
        came_in : (way : Way) (cut : Cut) → w ≡ world_at s.base way cut → w.came ≡ s.base.came
        came_in (Asking text) cut is = ap (λ (u : World). u.came) is
        came_in (Answering replies) cut is = ap (λ (u : World). u.came) is

    -- none came
    none_read : (came : List ℕ) → s.base.came ≡ counted (length came) → came ≡ [] → HasRead (decoder_of ask.settings came) w.came
    none_read came counts none =
        came_read came counts (subst (λ c. HasRead (decoder_of ask.settings c) (counted (length c))) (sym none) (_, refl))

    -- one that took these takes octets
    few_now : FewOf ask.op w.near.job → (came : List ℕ) (replied : Replied)
        → w.near ≡ busy (halting ask.op replied Aborts.Unsent ask.settings came) NearData.Open w.near → IsFew ask.op (decoder_of ask.settings came)
    few_now few came replied is = few _ (decoder_of ask.settings came) _ (ap (λ (n : Near). n.job) is) refl

    abbrev loading : FewOf ask.op w.near.job → (came : List ℕ) (replied : Replied)
        → w.near ≡ busy (halting ask.op replied Aborts.Unsent ask.settings came) NearData.Open w.near → Loads w.near
    loading few came replied is = record {
      op = ask.op;
      replied = replied;
      decoder = decoder_of ask.settings came;
      few = few_now few came replied is;
      mark = mark_in (no_octets ask.settings) None came;
      near = is;
    }

    -- a client that takes octets feeds so
    stage_feeds : FewOf ask.op w.near.job → IsLasting state ask read own s.way s.base s.here → near.wants w.near ≡ Want.Receive → Feeding orders w
    unfolding near.wants
    stage_feeds few lasts wants = by_here s.here lasts
      where
        -- it takes none
        never : (job : Job) (connection : NearConnection) → s.base.near ≡ busy job connection s.base.near
            → is_receive (near.wants (busy job connection w.near)) ≡ false → Feeding orders w
        never job connection near_is none =
            absurd (both (ap is_receive wants) (ap (λ v. is_receive (near.wants v)) (near_form s.base w of job connection near_is) ∙ none))

        by_course : (course : Course) (came queue : List ℕ)
            → Holds state ask own (Carries (record { course = course; came = came; queue = queue })) s.way s.base
            → is_passing (Carries (record { course = course; came = came; queue = queue })) ≡ false → Feeding orders w
        by_course (Giving begun octet more) came queue h lasts = record {
          loads = loading few came (replied_of (heard_by begun)) (near_form s.base w of _ _ h.near);
          last = last;
          read = came_read came h.came
              (few_read came (queue ++ octet ∷ more) h.fine.1 (few_now few came _ (near_form s.base w of _ _ h.near)) h.fine.0.2 h.ready.1 h.fine.0.0);
          far = inr (
            begun_unfinal begun,
            inl (ap is_giving (link_is _ _ _ h.session) ∙ gives_giving ask.listed (Giving begun octet more) begun octet more refl),
          );
        }
        by_course (Given heard true) came queue h lasts = record {
          loads = loading few came (replied_of heard) (near_form s.base w of _ _ h.near);
          last = last;
          read = came_read came h.came
              (few_read came queue h.fine.1 (few_now few came _ (near_form s.base w of _ _ h.near)) h.fine.0.2 h.ready.1 h.fine.0.0);
          far = inl (link_is _ _ _ h.session);
        }
        by_course (Given heard false) came queue h lasts = absurd (true≢false lasts)
        by_course (Ended begun clean) came queue h lasts = never _ _ h.near refl
        by_course (Severed begun) came queue h lasts = never _ _ h.near refl
        by_course (Refusing why Unclosed) came queue h lasts = absurd (true≢false lasts)
        by_course (Refusing why Closed) came queue h lasts = record {
          loads = loading few came Replies.Nothing (near_form s.base w of _ _ h.near);
          last = last;
          read = none_read came h.came h.fine.1.0;
          far = inl (link_is _ _ _ h.session);
        }
        by_course (Refusing why (Lost clean)) came queue h lasts = never _ _ h.near refl
        by_course Unopened came queue h lasts = never _ _ h.near refl

        by_lift : (rise : Rise) (lift : Lift) → Holds state ask own (Rises rise lift) s.way s.base → lift_passes lift ≡ false → Feeding orders w
        by_lift rise Offered h lasts = never _ _ h.near refl
        by_lift rise (Rising past octet more came queue mark notes) h lasts = never _ _ h.near refl
        by_lift rise (Risen past true came queue mark notes) h lasts = never _ _ h.near refl
        by_lift rise (Risen past false came queue mark notes) h lasts = absurd (true≢false lasts)
        by_lift rise (Settled begun mark notes fate left after) h lasts = never _ _ h.near refl
        by_lift rise (Declined why Shut) h lasts = never _ _ h.near refl
        by_lift rise (Declined why (Vanished broken)) h lasts = never _ _ h.near refl
        by_lift rise (Declined why Closing) h lasts = absurd (true≢false lasts)
        by_lift rise Unjoined h lasts = never _ _ h.near refl

        -- its command is on its way
        retrieves : Holds state ask own (Retrieves (Dialled true)) s.way s.base → Feeding orders w
        retrieves h = of_sends ask.sends refl
          where
            job_by : Direction → Job
            job_by d = Transferring ask.op (record { replied = Replies.Nothing; abort = Aborts.Unsent; flow = carrying d ask.settings })

            of_sends : (d : Direction) → ask.sends ≡ d → Feeding orders w
            of_sends Down is = record {
              loads = loading few [] Replies.Nothing
                  (near_form s.base w of (job_by Down) NearData.Open (h.near ∙ ap (λ d. busy (job_by d) NearData.Open s.base.near) is));
              last = last;
              read = none_read [] h.came refl;
              far = inr (
                refl,
                inr (
                  link_is _ _ _ h.session,
                  ap (λ (u : World). u.control_to_client) s.is ∙ ap (λ v. (world_at s.base v s.cut).control_to_client) h.way_is,
                ),
              );
            }
            of_sends (Up rise) is = never (job_by (Up rise)) NearData.Open (h.near ∙ ap (λ d. busy (job_by d) NearData.Open s.base.near) is) refl

        by_here : (here : At s.way s.base) → IsLasting state ask read own s.way s.base here → Feeding orders w
        by_here (inl l) lasts =
            absurd (both (ap is_receive wants) (ap is_receive (near_wants w.near (leads_still read state ask good.plan own s.base w s.way of l).0.near)))
        by_here (inr (PortAsked closing, h)) lasts = never _ _ h.near refl
        by_here (inr (PortTold port, h)) lasts = never _ _ h.near refl
        by_here (inr (Dials port, h)) lasts = never _ _ h.near refl
        by_here (inr (PortWanted connection pending, h)) lasts = never _ _ h.near refl
        by_here (inr (PortSaid port connection pending, h)) lasts = never _ _ h.near refl
        by_here (inr (PortTaken port closing, h)) lasts = never _ _ h.near refl
        by_here (inr (PortDenied port connection, h)) lasts = never _ _ h.near refl
        by_here (inr (Restarts at restart (Dialled true), h)) lasts = never _ _ h.near refl
        by_here (inr (Restarts at restart (Dialled false), h)) lasts = never _ _ h.near refl
        by_here (inr (Restarts at restart (Ported port), h)) lasts = never _ _ h.near refl
        by_here (inr (Retrieves (Dialled true), h)) lasts = retrieves h
        by_here (inr (Retrieves (Dialled false), h)) lasts = never _ _ h.near refl
        by_here (inr (Retrieves (Ported port), h)) lasts = never _ _ h.near refl
        by_here (inr (Awaits port false, h)) lasts = never _ _ h.near refl
        by_here (inr (Awaits port true, h)) lasts = never _ _ h.near refl
        by_here (inr (Unaccepted port, h)) lasts = never _ _ h.near refl
        by_here (inr (Dismissed port why, h)) lasts = never _ _ h.near refl
        by_here (inr (Carries c, h)) lasts = by_course c.course c.came c.queue h lasts
        by_here (inr (Rises rise lift, h)) lasts = by_lift rise lift h lasts
        by_here (inr (Tells rise said after, h)) lasts = absurd (true≢false lasts)
        by_here (inr (Answers said leaves, h)) lasts = absurd (true≢false lasts)

    -- where the server gives, the client takes
    stage_gives : is_giving w.far.session.connection ≡ true → Sends w ask.op orders
    stage_gives gives = by (idle_or_acts read state ask good own w s)
      where
        none : (link : ServerLink Transfer) (closing : Bool) (pending : Pending Names) → s.base.far.session ≡ linked link closing pending s.base.far.session
            → is_giving link ≡ false → Sends w ask.op orders
        none link closing pending is not = absurd (both gives (ap is_giving (link_is link closing pending is) ∙ not))

        none_held : (past : Bool) (path : Names) (keep : Keep) (d : Decoder)
            → s.base.far.session ≡ linked (held past path keep d) false Pendings.Nothing s.base.far.session → Sends w ask.op orders
        none_held past path keep d is = none (held past path keep d) false Pendings.Nothing is (held_gives past path keep d)

        by_course : (course : Course) (came queue : List ℕ)
            → Holds state ask own (Carries (record { course = course; came = came; queue = queue })) s.way s.base
            → Sends w ask.op orders
        by_course (Giving begun octet more) came queue h =
            let is : w ≡ world_at s.base (Answering (replies_in (Giving begun octet more))) s.cut = s.is ∙ ap (λ v. world_at s.base v s.cut) h.way_is in
            let fits : FlowsRow (replies_in (Giving begun octet more)) s.cut.held (s.cut.moving ++ s.cut.owed) =
            (subst (λ v. Fits v s.cut) h.way_is s.fits).1 in
            record {
              link = ap (λ (u : World). u.link) is ∙ h.link;
              gives = λ few. record {
                loads = loading few came (replied_of (heard_by begun)) (near_form s.base w of _ _ h.near);
                last = last;
                read = came_read came h.came
                    (few_read came (queue ++ octet ∷ more) h.fine.1 (few_now few came _ (near_form s.base w of _ _ h.near)) h.fine.0.2 h.ready.1 h.fine.0.0);
                unfinal = begun_unfinal begun;
                begun = begun;
                base = s.base.near;
                held = s.cut.held;
                near = ap (λ (u : World). u.near) is ∙ ap (λ n. near.hears (calm n) s.cut.held) h.near;
                row = subst (λ (u : World). FlowsRow (replies_in (Giving begun octet more)) s.cut.held (u.control_to_client ++ u.far.owed)) (sym is) fits;
                link = ap (λ (u : World). u.link) is ∙ h.link;
                quiet = ap (λ (u : World). u.control_to_server) is;
              };
            }
        by_course (Given heard true) came queue h = none _ _ _ h.session refl
        by_course (Given heard false) came queue h = none _ _ _ h.session refl
        by_course (Ended begun clean) came queue h = none _ _ _ h.session refl
        by_course (Severed begun) came queue h = none _ _ _ h.session refl
        by_course (Refusing why Unclosed) came queue h = none _ _ _ h.session refl
        by_course (Refusing why Closed) came queue h = none _ _ _ h.session refl
        by_course (Refusing why (Lost clean)) came queue h = none _ _ _ h.session refl
        by_course Unopened came queue h = none _ _ _ h.session refl

        by_lift : (rise : Rise) (lift : Lift) → Holds state ask own (Rises rise lift) s.way s.base → Sends w ask.op orders
        by_lift rise Offered h = none_held false _ _ _ h.session
        by_lift rise (Rising past octet more came queue mark notes) h = none_held past _ _ _ h.session
        by_lift rise (Risen past closed came queue mark notes) h = none_held past _ _ _ h.session
        by_lift rise (Settled begun mark notes fate left after) h = none _ _ _ h.session refl
        by_lift rise (Declined why door) h = none _ _ _ h.session refl
        by_lift rise Unjoined h = none _ _ _ h.session refl

        by : (is_acting w.far.session.connection ≡ false) ⊎ Acts read state ask good own s.way s.base → Sends w ask.op orders
        by (inl idle) = absurd (both gives (idle_rests w.far.session.connection idle).1)
        by (inr (inl (port, begun, h))) = none _ _ _ h.session refl
        by (inr (inr (inl (c, h)))) = by_course c.course c.came c.queue h
        by (inr (inr (inr (rise, lift, h)))) = by_lift rise lift h

-- a Peek that sent ABOR has a link that is open, while the server gives
halt_opened : (now : State) (ask : Ask) (own : List Mark) (w : World) → AtHalt now ask own w → is_giving w.far.session.connection ≡ true → w.link ≡ Opened
halt_opened now ask own w a gives = by a.halt a.here
  where
    none : a.base.far.session.connection ≡ Data.Free → w.link ≡ Opened
    none free = absurd (both gives (ap (λ (u : World). is_giving u.far.session.connection) a.is ∙ ap is_giving free))

    by : (halt : Halt) → Halts now ask own halt a.said a.came a.queue a.base → w.link ≡ Opened
    by (Halting octet more) h = ap (λ (u : World). u.link) a.is ∙ h.link
    by (Gave whole heard asked gap) h = none (ap (λ (x : Session). x.connection) h.session)
    by (Halted whole left) h = none (ap (λ (x : Session). x.connection) h.session)

-- ---- in a world

module _ (read : Reading) (reads : IsReading read) (from : State) (begun : List Order) (carried : AreCarried begun) (w : World)
    (runs : OverRuns read from begun w) (control : w.control ≡ Stands)
    (unready : is_closed_by_near w.link ≡ true → is_ready w.far.session.connection ≡ false) where
  -- the operation that is under way was begun last
  last_is : (done : List Order) (ask : Ask) (moment : ℕ) → begun ≡ done ++ Single ask.op moment ∷ [] → IsLast begun ask.op
  last_is done ask moment is = record { done = done; moment = moment; is = is }

  -- one whose server gives
  pub giving_opened : is_giving w.far.session.connection ≡ true → w.link ≡ Opened
  giving_opened gives = by runs
    where
      still : IsStill w → w.link ≡ Opened
      still is = absurd (both gives (aside_rests w.far.session.connection is.far.aside).2)

      by_phase : Phase read from begun w → w.link ≡ Opened
      by_phase (inl (linked, inl free)) = still (free_still read from begun w free)
      by_phase (inl (linked, inr under)) = still (under_still read from begun w under)
      by_phase (inr lost) = absurd (not_lost read from begun w control lost)

      by : OverRuns read from begun w → w.link ≡ Opened
      by (inl (inl f)) = by_phase f.phase
      by (inl (inr (inl on))) =
          let f = on.fetching in
          (stage_gives read f.now f.ask f.is_ask f.sound begun (last_is f.done f.ask f.moment f.begun_is) f.own w f.stands gives).link
      by (inl (inr (inr (inl trailing)))) = absurd (not_trailing read reads from begun carried w unready trailing)
      by (inl (inr (inr (inr halting)))) = let h = halting.halting in halt_opened h.now h.ask h.own w h.stands gives
      by (inr (inl trying)) = absurd (last_carried trying.going.done _ begun trying.going.begun_is carried)
      by (inr (inr tailing)) = absurd (last_carried tailing.going.done _ begun tailing.going.begun_is carried)

  -- one whose client takes octets
  pub world_feeds : AreFew begun w.near.job → IsPlainJob Unsent w.near.job → near.wants w.near ≡ Want.Receive → Feeding begun w
  world_feeds few unsent wants = by runs
    where
      still : IsStill w → Feeding begun w
      still is = absurd (both (ap is_receive wants) (ap is_receive (near_wants w.near is.near)))

      by_phase : Phase read from begun w → Feeding begun w
      by_phase (inl (linked, inl free)) = still (free_still read from begun w free)
      by_phase (inl (linked, inr under)) = still (under_still read from begun w under)
      by_phase (inr lost) = absurd (not_lost read from begun w control lost)

      by : OverRuns read from begun w → Feeding begun w
      by (inl (inl f)) = by_phase f.phase
      by (inl (inr (inl on))) =
          let f = on.fetching in
          let last = last_is f.done f.ask f.moment f.begun_is in
          stage_feeds read f.now f.ask f.is_ask f.sound begun last f.own w f.stands (few f.ask.op last) on.lasts wants
      by (inl (inr (inr (inl trailing)))) = absurd (not_trailing read reads from begun carried w unready trailing)
      by (inl (inr (inr (inr halting)))) =
          let h = halting.halting in
          absurd (not_halting h.now h.ask h.own w (few h.ask.op (last_is h.done h.ask h.moment h.begun_is)) h.stands unsent)
      by (inr (inl trying)) = absurd (last_carried trying.going.done _ begun trying.going.begun_is carried)
      by (inr (inr tailing)) = absurd (last_carried tailing.going.done _ begun tailing.going.begun_is carried)

  -- one whose client hears octets while the server gives
  module _ (count : ℕ) (gives : is_giving w.far.session.connection ≡ true) where
    abbrev new : World
    new = pushed read ControlToClient count w

    fetching_gives : AreFew begun new.near.job → IsFetching read from begun new → Gives begun new
    fetching_gives then_few f =
        let last = last_is f.done f.ask f.moment f.begun_is in
        (stage_gives read f.now f.ask f.is_ask f.sound begun last f.own new f.stands gives).gives (then_few f.ask.op last)

    pub pushed_gives : AreFew begun w.near.job → IsPlainJob Unsent w.near.job → AreFew begun new.near.job → IsPlainJob Unsent new.near.job → Gives begun new
    pushed_gives few unsent then_few then_unsent = by runs
      where
        still : IsStill w → Gives begun new
        still is = absurd (both gives (aside_rests w.far.session.connection is.far.aside).2)

        by_phase : Phase read from begun w → Gives begun new
        by_phase (inl (linked, inl free)) = still (free_still read from begun w free)
        by_phase (inl (linked, inr under)) = still (under_still read from begun w under)
        by_phase (inr lost) = absurd (not_lost read from begun w control lost)

        by : OverRuns read from begun w → Gives begun new
        by (inl (inl f)) = by_phase f.phase
        by (inl (inr (inl on))) =
            elim (pushed_client read reads from begun count w on.fetching w (serving_first read reads from begun w on)) [
              | inl f ↦ fetching_gives then_few f
              | inr halts ↦
                  let f = on.fetching in
                  absurd (not_halting f.now f.ask f.own new (then_few f.ask.op (last_is f.done f.ask f.moment f.begun_is)) halts then_unsent)
            ]
        by (inl (inr (inr (inl trailing)))) = absurd (not_trailing read reads from begun carried w unready trailing)
        by (inl (inr (inr (inr halting)))) =
            let h = halting.halting in
            absurd (not_halting h.now h.ask h.own w (few h.ask.op (last_is h.done h.ask h.moment h.begun_is)) h.stands unsent)
        by (inr (inl trying)) = absurd (last_carried trying.going.done _ begun trying.going.begun_is carried)
        by (inr (inr tailing)) = absurd (last_carried tailing.going.done _ begun tailing.going.begun_is carried)
