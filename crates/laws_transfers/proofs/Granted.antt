-- Where REST takes each offset, a client whose link is one over which nothing was asked for leaves it open, whatever it hears (RFC 3659, section 5): once it
-- hears that REST was taken it sends the command of its operation.
use Rattle.std.proofs.Common.{◌≡◌, ◌⊎◌, inl, inr, ℕ, Bool, true, false, true≢false, List, [], ◌∷◌, ◌++◌, take, Option, Some, None, is_some, refl, sym, ap, subst, ◌∙◌}
use Rattle.std.proofs.Math.Seq.{take-nil}
use Rattle.ftp_command.specs.Line.{line_of}
use Rattle.ftp_command.proofs.CarriedLemmas.{carried}
use Rattle.ftp_direct.specs.Direct.{State, offset_refusal}
use Rattle.ftp_direct.specs.declared.refusal.Refusal.{Refusal}
use Rattle.ftp_ends.specs.Reply.{Reply}
use Rattle.ftp_operation.specs.declared.op.Op.{Op}
use Rattle.ftp_operation.specs.declared.op.Op.TheVariants as Ops
use Rattle.ftp_path.specs.Path.{Names}
use Rattle.ftp_settings.specs.declared.representation.Representation.{Representation}
use Rattle.ftp_wire.specs.Decoder.{Decoder}
use Rattle.ftp_client_model.specs.Calls as near
use Rattle.ftp_client_model.specs.Dialogue.{answered}
use Rattle.ftp_client_model.specs.Plan.{asked_settings, offset_of}
use Rattle.ftp_client_model.specs.View.{View as Near}
use Rattle.ftp_server_model.specs.Machine.{IsReading, Reading}
use Rattle.ftp_server_model.specs.View.{Session, Transfer, how_in_force}
use Rattle.ftp_server_model.specs.declared.session.Keep.{Keep}
use Rattle.ftp_server_model.specs.declared.session.Pending.{Pending}
use Rattle.ftp_server_model.specs.declared.session.Pending.TheVariants as Pendings
use Rattle.ftp_server_model.specs.declared.session.ServerLink.{ServerLink}
use Rattle.laws_world.specs.Agreement.{Order, Single, Tries}
use Rattle.laws_world.specs.Events.{ControlToClient, is_closed_by_near, pushed}
use Rattle.laws_world.specs.World.{Mark, Stands as OnControl, World}
use Rattle.laws_dialogues.specs.Dialogue.{IsSound}
use Rattle.laws_dialogues.specs.Fetches.{Ask, IsAsk, IsPlacedAt, Rise, linked, offset_pending, rest_reply}
use Rattle.laws_dialogues.specs.Stage.{Answering, Asking, NearTurn, Way, behind, calm}
use Rattle.laws_dialogues.proofs.Fetching.{rest_granted}
use Rattle.laws_dialogues.proofs.LoginTurns.{no_asking}
use Rattle.laws_agreement.specs.Cut.{Crosses, Goes, PlacedAt, world_at}
use Rattle.laws_agreement.specs.Follows.{Phase}
use Rattle.laws_agreement.specs.Over.{OverRuns}
use Rattle.laws_agreement.specs.Rising.{Declined, Lift, Offered, Risen, Rising, Settled, Unjoined, held}
use Rattle.laws_agreement.specs.Stages.{Answers, AtFetch, AtServed, Awaits, Carries, Denied, Dialled, Dials, Dismissed, Early, Granted, Holds, IsLasting, PortAsked, PortDenied, PortSaid, PortTaken, PortTold, PortWanted, Ported, Restarts, Retrieves, Rises, Sent, Stage, Tells, Unaccepted, early_far, early_near, near_at}
use Rattle.laws_agreement.proofs.FetchReplies.{at_first}
use Rattle.laws_agreement.proofs.FetchServed.{leads_still}
use Rattle.laws_agreement.proofs.FetchTurns.{fetch_goes}
use Rattle.laws_agreement.proofs.Keeps.{pushes_to_client}
use Rattle.laws_agreement.proofs.Placing.{at_stage}
use Rattle.laws_agreement.proofs.Still.{IsSeen, IsStill, seen_placed}
use Rattle.laws_drivers.proofs.world.Running.{free_still, not_lost, under_still}
use Rattle.laws_transfers.specs.Actions.{AreGranted, IsGranted}
use Rattle.laws_transfers.proofs.Acting.{carry_not}
use Rattle.laws_transfers.proofs.Halting.{halt_stands}
use Rattle.laws_transfers.proofs.Known.{AreCarried, aside_rests, held_busy, is_ready, last_carried}
use Rattle.laws_transfers.proofs.Running.{not_trailing}

-- ---- offsets

-- the settings that are wanted, or others
abbrev wanted : Representation → Option Representation → Representation
wanted other None = other
wanted other (Some settings) = settings

-- REST takes the offset that is asked for
granted_placed : (op : Op (List ℕ)) (settings : Representation) → IsGranted op → asked_settings op ≡ Some settings → IsPlacedAt settings (offset_of op)
granted_placed (Ops.PutFrom path offset octets how) settings put is =
    ap (λ o. offset_refusal offset (how_in_force (wanted settings o))) (sym is) ∙ put
granted_placed (Ops.GetFrom path offset how) settings put is = ap (λ o. offset_refusal offset (how_in_force (wanted settings o))) (sym is) ∙ put
granted_placed op settings put is = tt

is_placed : (ask : Ask) → IsAsk ask → IsGranted ask.op → IsPlacedAt ask.settings ask.offset
is_placed ask good put = subst (IsPlacedAt ask.settings) good.plan.offset_is (granted_placed ask.op ask.settings put good.plan.asks)

-- so it does of the last
last_granted : (done : List Order) (op : Op (List ℕ)) (moment : ℕ) (begun : List Order) → begun ≡ done ++ Single op moment ∷ [] → AreCarried begun
    → AreGranted begun → IsGranted op
last_granted done op moment begun is puts granted = by done (subst AreCarried is puts) (subst AreGranted is granted)
  where
    by : (done : List Order) → AreCarried (done ++ Single op moment ∷ []) → AreGranted (done ++ Single op moment ∷ []) → IsGranted op
    by [] put grant = grant.0
    by (Single other before ∷ done) put grant = by done put.1 grant.1
    by (Tries upload before ∷ done) put grant = absurd put

-- ---- REST was taken

module _ (read : Reading) (reads : IsReading read) (state : State) (ask : Ask) (good : IsAsk ask) (sound : IsSound state) (own : List Mark)
    (early : Early) where
  abbrev Stands : Stage → Way → World → Type 0
  Stands stage way b = Holds state ask own stage way b

  -- REST was taken, and then the own command is on its way
  abbrev pub AtGrant : Way → World → Type 0
  AtGrant way b = ((at : ℕ) × Stands (Restarts at Granted early) way b) ⊎ Stands (Retrieves early) way b

  abbrev After : Way → World → Type 0
  After way b = AtFetch state ask read own way b

  -- no line crosses its replies
  abbrev Never : List ℕ → List Reply → World → Type 0
  Never text rows b = ⊥

  served : (way : Way) (b : World) → AtGrant way b → AtServed state ask read own way b
  served way b (inl (at, h)) = (inr (Restarts at Granted early, h), refl)
  served way b (inr h) = (inr (Retrieves early, h), refl)

  abbrev Hears : World → Reply → List Reply → Type 0
  Hears b reply more = (t : NearTurn b.near reply more) × AtGrant (behind t.line more) (record b { near = t.near })

  granted : (at : ℕ) (way : Way) (b : World) → Stands (Restarts at Granted early) way b → Hears b (rest_reply at) []
  granted at way b h = (
    record {
      near = near_at state ask (Retrieves early) b.near;
      line = Some (line_of ask.command);
      is = ap (λ v. answered (rest_reply at).code (rest_reply at).lines (calm v)) h.near
          ∙ rest_granted ask good.plan (early_near early) (rest_reply at).lines b.near;
      fine = (carried ask.command good.row.typed good.row.stated, refl);
    },
    inr (at_stage refl (h.session ∙ ap (λ o. linked (early_far b.near.here early) false (offset_pending o) b.far.session) (sym h.fine.0)) h.steady h.timed
        h.ready h.link h.to_server h.to_client h.came h.marked refl (subst (IsPlacedAt ask.settings) (sym h.fine.0) h.fine.1)),
  )

  told : (reply : Reply) (more : List Reply) (b : World) → AtGrant (Answering (reply ∷ more)) b → Hears b reply more ⊎ Crosses Never b reply more
  told reply more b (inl (at, h)) = inl (at_first (Hears b) reply (rest_reply at) more [] h.way_is (granted at (Answering (reply ∷ more)) b h))
  told reply more b (inr h) = absurd (no_asking (line_of ask.command) (reply ∷ more) (sym h.way_is))

  goes : Goes read AtGrant After Never
  goes = record {
    held = λ way b here. (served way b here).0;
    asked = λ text b here. (fetch_goes read reads state ask good sound own).asked text b (served (Asking text) b here);
    told = told;
  }

  unclosed : (way : Way) (b : World) → AtGrant way b → b.near.closing ≡ false
  unclosed way b (inl (at, h)) = ap (λ (n : Near). n.closing) h.near
  unclosed way b (inr h) = ap (λ (n : Near). n.closing) h.near

  -- whatever it hears
  grant_stays : (w : World) (count : ℕ) → PlacedAt AtGrant w → (pushed read ControlToClient count w).near.closing ≡ false
  grant_stays w count s = elim (pushes_to_client read AtGrant After Never goes count w s) [
    | inl placed ↦ (seen_placed AtGrant (pushed read ControlToClient count w) placed).closing ∙ unclosed placed.way placed.base placed.here
    | inr crossed ↦ absurd crossed.here
  ]

-- ---- at a stage

-- it hears nothing where nothing is on its way to it
none_heard : (w : World) → w.near.closing ≡ false → w.control_to_client ≡ [] → (count : ℕ)
    → (near.hears w.near (take count w.control_to_client)).closing ≡ false
none_heard w unclosed none count = ap (λ o. (near.hears w.near o).closing) (ap (take count) none ∙ take-nil count) ∙ unclosed

module _ (read : Reading) (reads : IsReading read) (state : State) (ask : Ask) (good : IsAsk ask) (sound : IsSound state)
    (placed : IsPlacedAt ask.settings ask.offset) (own : List Mark) where
  abbrev At : Way → World → Type 0
  At way b = AtFetch state ask read own way b

  -- REST is not refused
  not_denied : (at : ℕ) (why : Refusal) → ask.offset ≡ Some at → offset_refusal at (how_in_force ask.settings) ≡ Some why → ⊥
  not_denied at why is refused = true≢false (sym (ap is_some (sym (subst (IsPlacedAt ask.settings) is placed) ∙ refused)))

  -- whatever it hears
  stage_stays : (w : World) (s : PlacedAt At w) → IsLasting state ask read own s.way s.base s.here → is_ready w.far.session.connection ≡ true → (count : ℕ)
      → (near.hears w.near (take count w.control_to_client)).closing ≡ false
  stage_stays w s lasts ready count = by_here s.here lasts
    where
      of : IsSeen s.base w
      of = seen_placed At w s

      -- with this data connection it has no such link
      other : (link : ServerLink Transfer) (closing : Bool) (pending : Pending Names) → s.base.far.session ≡ linked link closing pending s.base.far.session
          → is_ready link ≡ false → (near.hears w.near (take count w.control_to_client)).closing ≡ false
      other link closing pending is none =
          absurd (true≢false (sym ready ∙ ap (λ (t : Session). is_ready t.connection) (of.session ∙ is) ∙ none))

      -- nor one that takes octets
      raised : (past : Bool) (path : Names) (keep : Keep) (d : Decoder)
          → s.base.far.session ≡ linked (held past path keep d) false Pendings.Nothing s.base.far.session
          → (near.hears w.near (take count w.control_to_client)).closing ≡ false
      raised past path keep d is = other (held past path keep d) false Pendings.Nothing is (held_busy past path keep d)

      -- a line is on its way
      asking : (text : List ℕ) → s.way ≡ Asking text → s.base.near.closing ≡ false → (near.hears w.near (take count w.control_to_client)).closing ≡ false
      asking text way unclosed =
          none_heard w (of.closing ∙ unclosed)
          (ap (λ (u : World). u.control_to_client) s.is ∙ ap (λ v. (world_at s.base v s.cut).control_to_client) way) count

      by_lift : (rise : Rise) (lift : Lift) → Holds state ask own (Rises rise lift) s.way s.base
          → (near.hears w.near (take count w.control_to_client)).closing ≡ false
      by_lift rise Offered h = raised false _ _ _ h.session
      by_lift rise (Rising past octet more came queue mark notes) h = raised past _ _ _ h.session
      by_lift rise (Risen past closed came queue mark notes) h = raised past _ _ _ h.session
      by_lift rise (Settled begun mark notes fate left after) h = other _ _ _ h.session refl
      by_lift rise (Declined why door) h = other _ _ _ h.session refl
      by_lift rise Unjoined h = other _ _ _ h.session refl

      by_here : (here : At s.way s.base) → IsLasting state ask read own s.way s.base here
          → (near.hears w.near (take count w.control_to_client)).closing ≡ false
      by_here (inl l) lasts =
          absurd (true≢false (sym ready
          ∙ (aside_rests w.far.session.connection (leads_still read state ask good.plan own s.base w s.way of l).0.far.aside).1))
      by_here (inr (PortAsked closing, h)) lasts = other _ _ _ h.session refl
      by_here (inr (PortTold port, h)) lasts = other _ _ _ h.session refl
      by_here (inr (Dials port, h)) lasts = other _ _ _ h.session refl
      by_here (inr (PortWanted connection pending, h)) lasts = other connection _ _ h.session (aside_rests connection h.fine).1
      by_here (inr (PortSaid port connection pending, h)) lasts = other connection _ _ h.session (aside_rests connection h.fine.0).1
      by_here (inr (PortTaken port closing, h)) lasts = other _ _ _ h.session refl
      by_here (inr (PortDenied port connection, h)) lasts = other connection _ _ h.session (aside_rests connection h.fine.0).1
      by_here (inr (Restarts at (Denied why) early, h)) lasts = absurd (not_denied at why h.fine.0 h.fine.1)
      by_here (inr (Restarts at Sent (Dialled true), h)) lasts = asking _ h.way_is (ap (λ (n : Near). n.closing) h.near)
      by_here (inr (Restarts at Granted (Dialled true), h)) lasts =
          grant_stays read reads state ask good sound own (Dialled true) w count
          (record { base = s.base; way = s.way; cut = s.cut; is = s.is; fits = s.fits; here = inl (at, h) })
      by_here (inr (Restarts at Sent (Dialled false), h)) lasts = other _ _ _ h.session refl
      by_here (inr (Restarts at Granted (Dialled false), h)) lasts = other _ _ _ h.session refl
      by_here (inr (Restarts at Sent (Ported port), h)) lasts = other _ _ _ h.session refl
      by_here (inr (Restarts at Granted (Ported port), h)) lasts = other _ _ _ h.session refl
      by_here (inr (Retrieves (Dialled true), h)) lasts = asking _ h.way_is (ap (λ (n : Near). n.closing) h.near)
      by_here (inr (Retrieves (Dialled false), h)) lasts = other _ _ _ h.session refl
      by_here (inr (Retrieves (Ported port), h)) lasts = other _ _ _ h.session refl
      by_here (inr (Awaits port begun, h)) lasts = other _ _ _ h.session refl
      by_here (inr (Unaccepted port, h)) lasts = other _ _ _ h.session refl
      by_here (inr (Dismissed port why, h)) lasts = other _ _ _ h.session refl
      by_here (inr (Carries c, h)) lasts = other _ _ _ h.session (carry_not is_ready refl (λ listed octets. refl) ask.listed c.course)
      by_here (inr (Rises rise lift, h)) lasts = by_lift rise lift h
      by_here (inr (Tells rise said after, h)) lasts = absurd (true≢false lasts)
      by_here (inr (Answers said leaves, h)) lasts = absurd (true≢false lasts)

-- ---- in a world

module _ (read : Reading) (reads : IsReading read) (from : State) (begun : List Order) (puts : AreCarried begun) where
  pub granted_stays : (w : World) → OverRuns read from begun w → w.control ≡ OnControl
      → (is_closed_by_near w.link ≡ true → is_ready w.far.session.connection ≡ false) → AreGranted begun
      → is_ready w.far.session.connection ≡ true → (count : ℕ) → (near.hears w.near (take count w.control_to_client)).closing ≡ false
  granted_stays w runs control unready granted ready count = by runs
    where
      still : IsStill w → (near.hears w.near (take count w.control_to_client)).closing ≡ false
      still waits = absurd (true≢false (sym ready ∙ (aside_rests w.far.session.connection waits.far.aside).1))

      by_phase : Phase read from begun w → (near.hears w.near (take count w.control_to_client)).closing ≡ false
      by_phase (inl (linked, inl free)) = still (free_still read from begun w free)
      by_phase (inl (linked, inr under)) = still (under_still read from begun w under)
      by_phase (inr lost) = absurd (not_lost read from begun w control lost)

      by : OverRuns read from begun w → (near.hears w.near (take count w.control_to_client)).closing ≡ false
      by (inl (inl f)) = by_phase f.phase
      by (inl (inr (inl on))) =
          let f = on.fetching in
          stage_stays read reads f.now f.ask f.is_ask f.sound
          (is_placed f.ask f.is_ask (last_granted f.done f.ask.op f.moment begun f.begun_is puts granted)) f.own w f.stands on.lasts ready count
      by (inl (inr (inr (inl trailing)))) = absurd (not_trailing read reads from begun puts w unready trailing)
      by (inl (inr (inr (inr on)))) =
          let h = on.halting in absurd (true≢false (sym ready ∙ (halt_stands h.now h.ask h.own w h.stands).unready))
      by (inr (inl trying)) = absurd (last_carried trying.going.done _ begun trying.going.begun_is puts)
      by (inr (inr tailing)) = absurd (last_carried tailing.going.done _ begun tailing.going.begun_is puts)
