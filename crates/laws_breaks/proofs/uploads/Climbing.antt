-- What is so of a world whose server takes octets of an upload: its client has no final reply, and it counts those that came; and one that has closed the link
-- has given all.
use Rattle.std.proofs.Common.{◌≡◌, ◌⊎◌, inl, inr, ℕ, Bool, true, false, true≢false, List, [], ◌∷◌, ◌++◌, length, Option, Some, None, refl, sym, ap, subst, ◌∙◌}
use Rattle.std.specs.Option.{unwrap_or}
use Rattle.ftp_client_model.specs.Plan.{count_of}
use Rattle.ftp_client_model.specs.View.{View as Near}
use Rattle.ftp_client_model.specs.declared.client.ClientLink.TheVariants as NearData
use Rattle.ftp_client_model.specs.declared.client.Ending.TheVariants as Endings
use Rattle.ftp_client_model.specs.declared.client.Replied.{Replied}
use Rattle.ftp_client_model.specs.declared.client.Replied.TheVariants as Replies
use Rattle.ftp_direct.specs.Direct.{State}
use Rattle.ftp_operation.specs.declared.op.Op.{Op}
use Rattle.ftp_path.specs.Path.{Names}
use Rattle.ftp_server_model.specs.Calls.{is_upload}
use Rattle.ftp_server_model.specs.Machine.{IsReading, Reading}
use Rattle.ftp_server_model.specs.View.{Session, Transfer, direct_of}
use Rattle.ftp_server_model.specs.declared.session.Pending.{Pending}
use Rattle.ftp_server_model.specs.declared.session.ServerLink.{ServerLink}
use Rattle.laws_world.specs.Agreement.{Order, Single, Tries}
use Rattle.laws_world.specs.Events.{ControlToClient, is_closed_by_near, pushed}
use Rattle.laws_world.specs.World.{ClosedByNear, Mark, Stands, World, counted}
use Rattle.laws_dialogues.specs.Fetches.{Ask, IsAsk, IsSteadySession, Rise, busy, kept, linked}
use Rattle.laws_dialogues.specs.Stage.{Answering, Asking, Way}
use Rattle.laws_agreement.specs.Cut.{Cut, PlacedAt, world_at}
use Rattle.laws_agreement.specs.Follows.{Phase}
use Rattle.laws_agreement.specs.Over.{OverRuns}
use Rattle.laws_agreement.specs.Rising.{Declined, Lift, Offered, Risen, Rising, Settled, Unjoined, lift_far, lift_state, lifts, sending}
use Rattle.laws_agreement.specs.Runs.{IsFetching, IsFetchingOn}
use Rattle.laws_agreement.specs.Stages.{AtFetch, Holds, Rises}
use Rattle.laws_agreement.proofs.FetchRuns.{pushed_client, serving_first}
use Rattle.laws_agreement.proofs.FetchWants.{rises_or_none}
use Rattle.laws_agreement.proofs.Rests.{near_form}
use Rattle.laws_agreement.proofs.Still.{IsSeen, IsStill, seen_placed}
use Rattle.laws_agreement.proofs.UploadData.{AtRise}
use Rattle.laws_drivers.proofs.world.Known.{beside}
use Rattle.laws_drivers.proofs.world.Running.{free_still, not_lost, under_still}
use Rattle.laws_transfers.proofs.Acting.{Acts, carry_not, idle_or_acts, idle_rests, is_acting}
use Rattle.laws_transfers.proofs.Halting.{halt_stands, halt_unclosed}
use Rattle.laws_transfers.proofs.Known.{AreCarried, aside_rests, gives_none, is_ready, last_carried}
use Rattle.laws_transfers.proofs.Running.{not_trailing}
use Rattle.laws_breaks.proofs.downloads.Feeding.{is_final}
use Rattle.laws_breaks.specs.uploads.Coming.{CameOver}
use Rattle.laws_breaks.proofs.uploads.Coming.{CameIn, rise_came, steady_direct, world_came}

-- ---- the client

-- its upload was begun, and its final reply is not in; its server took as many octets as are counted
pub record Climbing (op : Op (List ℕ)) (w : World) : Type 0 where
  pub replied : Replied
  pub left : List ℕ
  pub mark : Option ℕ
  pub job : w.near.job ≡ sending op replied left mark
  pub unfinal : is_final replied ≡ false
  pub came : CameIn w

-- this operation was begun last
abbrev pub IsLast : List Order → Op (List ℕ) → Type 0
IsLast begun op = (done : List Order) × (moment : ℕ) × (begun ≡ done ++ Single op moment ∷ [])

-- so it is of that
pub record ClimbsLast (begun : List Order) (w : World) : Type 0 where
  pub op : Op (List ℕ)
  pub climbing : Climbing op w
  pub last : IsLast begun op

-- it has given all of its upload, and closed the link
pub record HasGiven (w : World) : Type 0 where
  pub op : Op (List ℕ)
  pub all : count_of op ≡ None
  pub mark : Option ℕ
  pub near : w.near ≡ busy (sending op Replies.Begun [] mark) (NearData.Over Endings.Ours) w.near

-- one operation alone was begun last
pub same_last : (begun : List Order) (op other : Op (List ℕ)) → IsLast begun op → IsLast begun other → op ≡ other
same_last begun op other one two =
    ap (λ o. unwrap_or o op) (sym (ends one.0 op one.1) ∙ ap last_op (sym one.2 ∙ two.2) ∙ ends two.0 other two.1)
  where
    later : Order → Option (Op (List ℕ)) → Option (Op (List ℕ))
    later order (Some op) = Some op
    later (Single op moment) None = Some op
    later (Tries upload moment) None = None

    last_op : List Order → Option (Op (List ℕ))
    last_op [] = None
    last_op (order ∷ more) = later order (last_op more)

    ends : (done : List Order) (op : Op (List ℕ)) (moment : ℕ) → last_op (done ++ Single op moment ∷ []) ≡ Some op
    ends [] op moment = refl
    ends (order ∷ done) op moment = ap (later order) (ends done op moment)

-- ---- by stages

module _ (read : Reading) (state : State) (ask : Ask) (good : IsAsk ask) (own : List Mark) where
  abbrev At : Way → World → Type 0
  At way b = AtFetch state ask read own way b

  stage_climbs : (w : World) → PlacedAt At w → is_upload w.far.session.connection ≡ true → Climbing ask.op w
  stage_climbs w s takes = by (idle_or_acts read state ask good own w s)
    where
      of : IsSeen s.base w
      of = seen_placed At w s

      never : (link : ServerLink Transfer) (closing : Bool) (pending : Pending Names) → s.base.far.session ≡ linked link closing pending s.base.far.session
          → is_upload link ≡ false → Climbing ask.op w
      never link closing pending is none = absurd (true≢false (sym takes ∙ ap (λ (t : Session). is_upload t.connection) (of.session ∙ is) ∙ none))

      -- the octets of a link are counted as in its base
      came_in : (way : Way) (cut : Cut) → w ≡ world_at s.base way cut → w.came ≡ s.base.came
      came_in (Asking text) cut is = ap (λ (u : World). u.came) is
      came_in (Answering replies) cut is = ap (λ (u : World). u.came) is

      -- what a server holds of octets that rise, of which so many came
      rises_so : (rise : Rise) (lift : Lift) (h : Holds state ask own (Rises rise lift) s.way s.base) (replied : Replied) (left : List ℕ) (mark : Option ℕ)
          (count : ℕ) → w.near.job ≡ sending ask.op replied left mark → s.base.came ≡ count → is_final replied ≡ false → lift_state state ask rise lift ≡ state
          → CameOver (lift_far state ask rise lift) state (sending ask.op replied left mark) count → Climbing ask.op w
      rises_so rise lift h replied left mark count job counts unfinal same came =
          let steady : IsSteadySession state (kept s.base.near s.base.far) = subst (λ v. IsSteadySession v (kept s.base.near s.base.far)) same h.steady in
          record {
            replied = replied;
            left = left;
            mark = mark;
            job = job;
            unfinal = unfinal;
            came = world_came w (lift_far state ask rise lift) state (sending ask.op replied left mark) count
                (ap (λ (t : Session). t.connection) (of.session ∙ h.session))
                (ap direct_of of.session ∙ steady_direct state s.base.near s.base.far steady h.ready.1) job
                (came_in s.way s.cut s.is ∙ counts) came;
          }

      by_lift : (rise : Rise) (lift : Lift) → Holds state ask own (Rises rise lift) s.way s.base → Climbing ask.op w
      by_lift rise Offered h =
          rises_so rise Offered h Replies.Nothing rise.text None 0 (of.job ∙ ap (λ (n : Near). n.job) h.near) h.came refl refl (_, refl)
      by_lift rise (Rising past octet more came queue mark notes) h =
          rises_so rise (Rising past octet more came queue mark notes) h Replies.Begun (octet ∷ more) mark (counted (length came))
          (of.job ∙ ap (λ (n : Near). n.job) h.near) h.came refl refl
          (rise_came state ask rise h.ready.2 came (queue ++ octet ∷ more) h.fine.1 past mark notes h.fine Replies.Begun (octet ∷ more) mark)
      by_lift rise (Risen past closed came queue mark notes) h =
          rises_so rise (Risen past closed came queue mark notes) h Replies.Begun [] mark (counted (length came))
          (of.job ∙ ap (λ (n : Near). n.job) h.near) h.came refl refl
          (rise_came state ask rise h.ready.2 came queue h.fine.1 past mark notes h.fine Replies.Begun [] mark)
      by_lift rise (Settled begun mark notes fate left after) h = never _ _ _ h.session refl
      by_lift rise (Declined why door) h = never _ _ _ h.session refl
      by_lift rise Unjoined h = never _ _ _ h.session refl

      by : (is_acting w.far.session.connection ≡ false) ⊎ Acts read state ask good own s.way s.base → Climbing ask.op w
      by (inl idle) = absurd (true≢false (sym takes ∙ (idle_rests w.far.session.connection idle).0))
      by (inr (inl (port, begun, h))) = never _ _ _ h.session refl
      by (inr (inr (inl (c, h)))) = never _ _ _ h.session (carry_not is_upload refl gives_none ask.listed c.course)
      by (inr (inr (inr (rise, lift, h)))) = by_lift rise lift h

  -- one that lasts, and whose link the client alone has closed
  stage_given : (w : World) → PlacedAt (AtRise read state ask own) w → w.link ≡ ClosedByNear → HasGiven w
  stage_given w s closed = by_lift s.here.lift s.here.rises s.here.holds
    where
      link_is : w.link ≡ s.base.link
      link_is = ap (λ (u : World). u.link) s.is ∙ (beside s.base s.way s.cut).0

      by_lift : (lift : Lift) → lifts lift ≡ true → Holds state ask own (Rises s.here.rise lift) s.way s.base → HasGiven w
      by_lift (Rising past octet more came queue mark notes) rises h =
          absurd (true≢false (sym (ap is_closed_by_near closed) ∙ ap is_closed_by_near (link_is ∙ h.link)))
      by_lift (Risen past false came queue mark notes) rises h =
          absurd (true≢false (sym (ap is_closed_by_near closed) ∙ ap is_closed_by_near (link_is ∙ h.link)))
      by_lift (Risen past true came queue mark notes) rises h = record {
        op = ask.op;
        all = h.ready.2.all;
        mark = mark;
        near = near_form s.base w (seen_placed (AtRise read state ask own) w s) _ _ h.near;
      }
      by_lift Offered rises h = absurd (true≢false (sym rises))
      by_lift (Settled started mark notes fate left after) rises h = absurd (true≢false (sym rises))
      by_lift (Declined why door) rises h = absurd (true≢false (sym rises))
      by_lift Unjoined rises h = absurd (true≢false (sym rises))

-- ---- in a world

module _ (read : Reading) (reads : IsReading read) (from : State) (begun : List Order) (puts : AreCarried begun) (w : World)
    (runs : OverRuns read from begun w) (control : w.control ≡ Stands)
    (unready : is_closed_by_near w.link ≡ true → is_ready w.far.session.connection ≡ false) where
  fetching_climbs : (u : World) → IsFetching read from begun u → is_upload u.far.session.connection ≡ true → ClimbsLast begun u
  fetching_climbs u f takes = record {
    op = f.ask.op;
    climbing = stage_climbs read f.now f.ask f.is_ask f.own u f.stands takes;
    last = (f.done, f.moment, f.begun_is);
  }

  -- one whose client hears octets while the server takes
  pub pushed_climbs : (count : ℕ) → is_upload w.far.session.connection ≡ true → ClimbsLast begun (pushed read ControlToClient count w)
  pushed_climbs count takes = by runs
    where
      new : World
      new = pushed read ControlToClient count w

      still : IsStill w → ClimbsLast begun new
      still is = absurd (true≢false (sym takes ∙ (aside_rests w.far.session.connection is.far.aside).0))

      by_phase : Phase read from begun w → ClimbsLast begun new
      by_phase (inl (linked, inl free)) = still (free_still read from begun w free)
      by_phase (inl (linked, inr under)) = still (under_still read from begun w under)
      by_phase (inr lost) = absurd (not_lost read from begun w control lost)

      by : OverRuns read from begun w → ClimbsLast begun new
      by (inl (inl f)) = by_phase f.phase
      by (inl (inr (inl on))) =
          elim (pushed_client read reads from begun count w on.fetching w (serving_first read reads from begun w on)) [
            | inl f ↦ fetching_climbs new f takes
            | inr halts ↦
                let f = on.fetching in absurd (true≢false (sym takes ∙ (halt_stands f.now f.ask f.own new halts).untaken))
          ]
      by (inl (inr (inr (inl trailing)))) = absurd (not_trailing read reads from begun puts w unready trailing)
      by (inl (inr (inr (inr on)))) =
          let h = on.halting in absurd (true≢false (sym takes ∙ (halt_stands h.now h.ask h.own w h.stands).untaken))
      by (inr (inl trying)) = absurd (last_carried trying.going.done _ begun trying.going.begun_is puts)
      by (inr (inr tailing)) = absurd (last_carried tailing.going.done _ begun tailing.going.begun_is puts)

  -- whose server takes octets
  pub world_climbs : is_upload w.far.session.connection ≡ true → ClimbsLast begun w
  world_climbs takes = pushed_climbs 0 takes

  -- one whose link the client alone has closed
  pub world_given : w.link ≡ ClosedByNear → HasGiven w
  world_given closed = by runs
    where
      on_way : IsFetchingOn read from begun w → HasGiven w
      on_way on =
          let f = on.fetching in
          elim (rises_or_none read f.now f.ask f.is_ask.plan f.own w f.stands on.lasts) [
            | inl climbing ↦ stage_given read f.now f.ask f.is_ask f.own w climbing closed
            | inr none ↦ absurd (true≢false (sym (ap is_closed_by_near closed) ∙ none.closed))
          ]

      by : OverRuns read from begun w → HasGiven w
      by (inl (inl f)) = absurd (true≢false (sym (ap is_closed_by_near closed) ∙ ap is_closed_by_near f.unlinked.link))
      by (inl (inr (inl on))) = on_way on
      by (inl (inr (inr (inl trailing)))) = absurd (not_trailing read reads from begun puts w unready trailing)
      by (inl (inr (inr (inr on)))) =
          let h = on.halting in absurd (true≢false (sym (ap is_closed_by_near closed) ∙ halt_unclosed h.now h.ask h.own w h.stands))
      by (inr (inl trying)) = absurd (last_carried trying.going.done _ begun trying.going.begun_is puts)
      by (inr (inr tailing)) = absurd (last_carried tailing.going.done _ begun tailing.going.begun_is puts)
