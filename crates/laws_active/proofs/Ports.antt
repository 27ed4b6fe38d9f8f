-- What is so of every world that a session comes to, of a client that has a port, that has a final reply, or that alone has closed its link; no ABOR was sent.
use Rattle.std.proofs.Common.{◌≡◌, inl, inr, ℕ, ◌==◌, Bool, true, false, true≢false, List, [], Option, Some, None, take, refl, sym, ap, subst, ◌∙◌}
use Rattle.std.specs.Prelude.{◌&&◌, if◌then◌else◌}
use Rattle.ftp_direct.specs.Direct.{State}
use Rattle.ftp_ends.specs.declared.link.Wants.{Wants}
use Rattle.ftp_ends.specs.declared.link.Wants.TheVariants as Want
use Rattle.ftp_operation.specs.Answer.{Said}
use Rattle.ftp_operation.specs.declared.op.Op.{Op}
use Rattle.ftp_settings.specs.declared.representation.Representation.{Representation}
use Rattle.ftp_client_model.specs.Calls as near
use Rattle.ftp_client_model.specs.Calls.{data_wants, is_down, is_sound, link_wants, transfer_under_way}
use Rattle.ftp_client_model.specs.View.{Job, Transfer, Transferring, View as Near}
use Rattle.ftp_client_model.specs.declared.client.ClientLink.{ClientLink}
use Rattle.ftp_client_model.specs.declared.client.ClientLink.TheVariants as Data
use Rattle.ftp_client_model.specs.declared.client.Replied.{Replied}
use Rattle.ftp_client_model.specs.declared.client.Replied.TheVariants as Replies
use Rattle.ftp_server_model.specs.Machine.{IsReading, Reading}
use Rattle.laws_world.specs.Agreement.{Order}
use Rattle.laws_world.specs.Events.{ControlToClient, is_closed_by_near, pushed}
use Rattle.laws_world.specs.World.{Gone, Link, Mark, Stands, World}
use Rattle.laws_dialogues.specs.Fetches.{Ask, IsAsk, Rise, fetching}
use Rattle.ftp_ends.specs.Reply.{Reply}
use Rattle.ftp_client_model.specs.Dialogue.{has_begun}
use Rattle.laws_dialogues.specs.Stage.{Answering, Way}
use Rattle.laws_agreement.specs.Cut.{Fits, PlacedAt, coming, world_at}
use Rattle.laws_agreement.specs.Follows.{Phase}
use Rattle.laws_agreement.specs.PeekStages.{halt_tie}
use Rattle.laws_agreement.specs.Runs.{IsFetching, IsFetchingOn}
use Rattle.laws_agreement.specs.Over.{OverRuns}
use Rattle.laws_agreement.specs.Rising.{Closing, Declined, Door, Lift, Offered, Risen, Rising, Settled, Shut, Unjoined, Vanished, door_near}
use Rattle.laws_agreement.specs.Stages.{Answers, Aside, AtFetch, Awaits, BothReplies, Carries, Dialled, Dials, Dismissed, Early, Heard, Holds, LinkLeft, LinkOpen, LinkParting, Leaving, NoReply, OneReply, PortAsked, PortDenied, PortSaid, PortTaken, PortTold, PortWanted, Ported, Restarts, Retrieves, Rises, Tells, Tie, Joined, Parting, Left, Over, Unaccepted, early_link, early_near, heard_of, link_left, near_link, replied_of, tie_of}
use Rattle.laws_agreement.proofs.FetchServed.{leads_still}
use Rattle.laws_agreement.proofs.Still.{row_like, IsSeen, IsStill, seen_placed}
use Rattle.laws_drivers.specs.world.Unaborted.{is_unaborted}
use Rattle.laws_drivers.proofs.world.Known.{beside}
use Rattle.laws_drivers.proofs.world.Running.{free_still, halt_aborted, not_lost, under_still}
use Rattle.laws_agreement.proofs.Deliveries.{pushed_client as still_heard}
use Rattle.laws_agreement.proofs.FetchRuns.{OnOrHalted, pushed_client, serving_first}
use Rattle.laws_transfers.proofs.Known.{AreCarried, is_ready, last_carried}
use Rattle.laws_transfers.proofs.NearForms.{is_accept}
use Rattle.laws_transfers.proofs.Running.{not_trailing}
use Rattle.laws_active.proofs.Accepting.{is_transfer}

-- it has a port of its own
abbrev pub is_ported : ClientLink → Bool
is_ported (Data.Listening port) = true
is_ported (Data.Accepting port) = true
is_ported link = false

-- it has the link
abbrev pub is_joined : ClientLink → Bool
is_joined Data.Open = true
is_joined link = false

-- a final reply is that of octets that came whole
abbrev pub is_whole_reply : Replied → Transfer → Bool
is_whole_reply (Replies.Final code) transfer = is_down transfer.flow && (code == 226)
is_whole_reply replied transfer = true

abbrev pub is_ended_whole : Job → Bool
is_ended_whole (Transferring op transfer) = is_whole_reply transfer.replied transfer
is_ended_whole job = true

-- it has the link, or had it
abbrev pub is_attached : ClientLink → Bool
is_attached Data.Open = true
is_attached (Data.Over ending) = true
is_attached link = false

-- the 1yz came
abbrev pub is_begun : Job → Bool
is_begun (Transferring op transfer) = has_begun transfer.replied
is_begun job = false

-- one that has a port has no link; a final reply over an open link is that of octets that came whole; who alone closed it is at its transfer; and one whose
-- transfer has begun owes nothing
pub record Ports (w : World) : Type 0 where
  pub awaits : is_ported w.near.connection ≡ true → w.link ≡ Gone
  pub final : is_joined w.near.connection ≡ true → is_ended_whole w.near.job ≡ true
  pub closed : is_closed_by_near w.link ≡ true → is_transfer w.near.job ≡ true
  pub owed : is_attached w.near.connection ≡ true → is_begun w.near.job ≡ true → w.near.owed ≡ []

-- where both ends are still there is no link
pub still_ports : (w : World) → IsStill w → w.link ≡ Gone → Ports w
still_ports w s gone = record {
  awaits = λ e. gone;
  final = λ e. absurd (true≢false (sym e ∙ ap is_joined s.near.connection));
  closed = λ e. absurd (true≢false (sym e ∙ ap is_closed_by_near gone));
  owed = λ e b. absurd (true≢false (sym e ∙ ap is_attached s.near.connection));
}

-- ---- at a stage

-- what the client holds of a link
tie_apart : (tie : Tie) → is_ported (near_link tie) ≡ false
tie_apart Joined = refl
tie_apart Parting = refl
tie_apart Left = refl
tie_apart (Over ending) = refl

early_gone : (early : Early) → is_ported (early_near early) ≡ true → early_link early ≡ Gone
early_gone (Dialled true) e = absurd (true≢false (sym e))
early_gone (Dialled false) e = absurd (true≢false (sym e))
early_gone (Ported port) e = refl

door_apart : (door : Door) → is_ported (door_near door) ≡ false
door_apart Closing = refl
door_apart Shut = refl
door_apart (Vanished broken) = refl

early_unclosed : (early : Early) → is_closed_by_near (early_link early) ≡ false
early_unclosed (Dialled true) = refl
early_unclosed (Dialled false) = refl
early_unclosed (Ported port) = refl

left_unclosed : (leaves : Leaving) → is_closed_by_near (link_left leaves) ≡ false
left_unclosed (Aside closes connection pending) = refl
left_unclosed LinkOpen = refl
left_unclosed LinkLeft = refl
left_unclosed LinkParting = refl

-- which replies it has heard of octets that come
heard_whole : (heard : Heard) (op : Op (List ℕ)) (settings : Representation) (came : List ℕ)
    → is_ended_whole (fetching op (replied_of heard) settings came) ≡ true
heard_whole NoReply op settings came = refl
heard_whole OneReply op settings came = refl
heard_whole BothReplies op settings came = refl

module _ (read : Reading) (state : State) (ask : Ask) (good : IsAsk ask) (own : List Mark) where
  abbrev At : Way → World → Type 0
  At way b = AtFetch state ask read own way b

  pub stage_ports : (w : World) → PlacedAt At w → Ports w
  stage_ports w s = by s.here
    where
      seen : IsSeen s.base w
      seen = seen_placed At w s

      link_at : w.link ≡ s.base.link
      link_at = ap (λ (u : World). u.link) s.is ∙ (beside s.base s.way s.cut).0

      of : (job : Job) (connection : ClientLink) (link : Link) → s.base.near.job ≡ job → s.base.near.connection ≡ connection → s.base.link ≡ link
          → (is_ported connection ≡ true → link ≡ Gone) → is_ended_whole job ≡ true → (is_closed_by_near link ≡ true → is_transfer job ≡ true)
          → (is_attached connection ≡ true → is_begun job ≡ true → w.near.owed ≡ []) → Ports w
      of job connection link job_is connection_is link_is awaits final closed owed = record {
        awaits = λ e. link_at ∙ link_is ∙ awaits (sym (ap is_ported (seen.connection ∙ connection_is)) ∙ e);
        final = λ e. ap is_ended_whole (seen.job ∙ job_is) ∙ final;
        closed = λ e. ap is_transfer (seen.job ∙ job_is) ∙ closed (sym (ap is_closed_by_near (link_at ∙ link_is)) ∙ e);
        owed = λ e b. owed (sym (ap is_attached (seen.connection ∙ connection_is)) ∙ e) (sym (ap is_begun (seen.job ∙ job_is)) ∙ b);
      }

      -- while replies are on their way
      none_owed : (rows : List Reply) → s.way ≡ Answering rows → w.near.owed ≡ []
      none_owed rows way =
          let both : (w ≡ world_at s.base (Answering rows) s.cut) × Fits (Answering rows) s.cut =
          subst (λ v. (w ≡ world_at s.base v s.cut) × Fits v s.cut) way (s.is, s.fits) in
          ap (λ (u : World). u.near.owed) both.0 ∙ (row_like s.base.near rows s.cut.held (coming s.cut) both.1.0 both.1.1).owed

      -- with no link
      gone : (job : Job) (connection : ClientLink) → s.base.near.job ≡ job → s.base.near.connection ≡ connection → s.base.link ≡ Gone
          → is_ended_whole job ≡ true → is_attached connection ≡ false → Ports w
      gone job connection job_is connection_is link_is final apart =
          of job connection Gone job_is connection_is link_is (λ e. refl) final (λ e. absurd (true≢false (sym e)))
          (λ e b. absurd (true≢false (sym e ∙ apart)))

      -- with what the client has of a link
      opening : (job : Job) (early : Early) → s.base.near.job ≡ job → s.base.near.connection ≡ early_near early → s.base.link ≡ early_link early
          → is_ended_whole job ≡ true → is_begun job ≡ false → Ports w
      opening job early job_is connection_is link_is final unbegun =
          of job (early_near early) (early_link early) job_is connection_is link_is (early_gone early) final
          (λ e. absurd (true≢false (sym e ∙ early_unclosed early))) (λ e b. absurd (true≢false (sym b ∙ unbegun)))

      -- with a transfer, and no port
      carried : (op : Op (List ℕ)) (transfer : Transfer) (connection : ClientLink) → s.base.near.job ≡ Transferring op transfer
          → s.base.near.connection ≡ connection → is_ported connection ≡ false → is_whole_reply transfer.replied transfer ≡ true
          → (rows : List Reply) → s.way ≡ Answering rows → Ports w
      carried op transfer connection job_is connection_is apart final rows way =
          of (Transferring op transfer) connection s.base.link job_is connection_is refl (λ e. absurd (true≢false (sym e ∙ apart))) final (λ e. refl)
          (λ e b. none_owed rows way)

      -- at an upload
      by_lift : (rise : Rise) (lift : Lift) → Holds state ask own (Rises rise lift) s.way s.base → Ports w
      by_lift rise Offered h = carried _ _ _ (ap (λ (n : Near). n.job) h.near) (ap (λ (n : Near). n.connection) h.near) refl refl _ h.way_is
      by_lift rise (Rising past octet more came queue mark notes) h =
          carried _ _ _ (ap (λ (n : Near). n.job) h.near) (ap (λ (n : Near). n.connection) h.near) refl refl _ h.way_is
      by_lift rise (Risen past closed came queue mark notes) h =
          carried _ _ _ (ap (λ (n : Near). n.job) h.near) (ap (λ (n : Near). n.connection) h.near) refl refl _ h.way_is
      by_lift rise (Settled true mark notes fate left after) h =
          carried _ _ _ (ap (λ (n : Near). n.job) h.near) (ap (λ (n : Near). n.connection) h.near) refl refl _ h.way_is
      by_lift rise (Settled false mark notes fate left after) h =
          carried _ _ _ (ap (λ (n : Near). n.job) h.near) (ap (λ (n : Near). n.connection) h.near) refl refl _ h.way_is
      by_lift rise (Declined why door) h =
          carried _ _ _ (ap (λ (n : Near). n.job) h.near) (ap (λ (n : Near). n.connection) h.near) (door_apart door) refl _ h.way_is
      by_lift rise Unjoined h = carried _ _ _ (ap (λ (n : Near). n.job) h.near) (ap (λ (n : Near). n.connection) h.near) refl refl _ h.way_is

      by_leaving : (said : Said) (leaves : Leaving) → Holds state ask own (Answers said leaves) s.way s.base → Ports w
      by_leaving said leaves h =
          of _ _ _ (ap (λ (n : Near). n.job) h.near) (ap (λ (n : Near). n.connection) h.near) h.link (λ e. absurd (true≢false (sym e))) refl
          (λ e. absurd (true≢false (sym e ∙ left_unclosed leaves))) (λ e b. absurd (true≢false (sym e)))

      by : At s.way s.base → Ports w
      by (inl l) = still_ports w (leads_still read state ask good.plan own s.base w s.way seen l).0 (link_at ∙ l.link)
      by (inr (PortAsked closing, h)) = gone _ _ (ap (λ (n : Near). n.job) h.near) (ap (λ (n : Near). n.connection) h.near) h.link refl refl
      by (inr (PortTold port, h)) = gone _ _ (ap (λ (n : Near). n.job) h.near) (ap (λ (n : Near). n.connection) h.near) h.link refl refl
      by (inr (Dials port, h)) = gone _ _ (ap (λ (n : Near). n.job) h.near) (ap (λ (n : Near). n.connection) h.near) h.link refl refl
      by (inr (PortWanted connection pending, h)) = gone _ _ (ap (λ (n : Near). n.job) h.near) (ap (λ (n : Near). n.connection) h.near) h.link refl refl
      by (inr (PortSaid port connection pending, h)) = gone _ _ (ap (λ (n : Near). n.job) h.near) (ap (λ (n : Near). n.connection) h.near) h.link refl refl
      by (inr (PortTaken port closing, h)) = gone _ _ (ap (λ (n : Near). n.job) h.near) (ap (λ (n : Near). n.connection) h.near) h.link refl refl
      by (inr (PortDenied port connection, h)) = gone _ _ (ap (λ (n : Near). n.job) h.near) (ap (λ (n : Near). n.connection) h.near) h.link refl refl
      by (inr (Restarts at restart early, h)) =
          opening _ early (ap (λ (n : Near). n.job) h.near) (ap (λ (n : Near). n.connection) h.near) h.link refl refl
      by (inr (Retrieves early, h)) = opening _ early (ap (λ (n : Near). n.job) h.near) (ap (λ (n : Near). n.connection) h.near) h.link refl refl
      by (inr (Awaits port true, h)) = gone _ _ (ap (λ (n : Near). n.job) h.near) (ap (λ (n : Near). n.connection) h.near) h.link refl refl
      by (inr (Awaits port false, h)) = gone _ _ (ap (λ (n : Near). n.job) h.near) (ap (λ (n : Near). n.connection) h.near) h.link refl refl
      by (inr (Unaccepted port, h)) = gone _ _ (ap (λ (n : Near). n.job) h.near) (ap (λ (n : Near). n.connection) h.near) h.link refl refl
      by (inr (Dismissed port why, h)) = gone _ _ (ap (λ (n : Near). n.job) h.near) (ap (λ (n : Near). n.connection) h.near) h.link refl refl
      by (inr (Carries c, h)) =
          carried _ _ _ (ap (λ (n : Near). n.job) h.near) (ap (λ (n : Near). n.connection) h.near) (tie_apart (tie_of c.course))
          (heard_whole (heard_of c.course) ask.op ask.settings c.came) _ h.way_is
      by (inr (Rises rise lift, h)) = by_lift rise lift h
      by (inr (Tells rise said after, h)) = gone _ _ (ap (λ (n : Near). n.job) h.near) (ap (λ (n : Near). n.connection) h.near) h.link refl refl
      by (inr (Answers said leaves, h)) = by_leaving said leaves h

-- ---- in a world

module _ (read : Reading) (reads : IsReading read) (from : State) (begun : List Order) (puts : AreCarried begun) where
  fetching_ports : (w : World) → IsFetching read from begun w → Ports w
  fetching_ports w f = stage_ports read f.now f.ask f.is_ask f.own w f.stands

  pub world_ports : (w : World) → OverRuns read from begun w → w.control ≡ Stands
      → (is_closed_by_near w.link ≡ true → is_ready w.far.session.connection ≡ false) → is_unaborted w.near.job ≡ true → Ports w
  world_ports w runs control unready unaborted = by runs
    where
      by_phase : w.link ≡ Gone → Phase read from begun w → Ports w
      by_phase gone (inl (linked, inl free)) = still_ports w (free_still read from begun w free) gone
      by_phase gone (inl (linked, inr under)) = still_ports w (under_still read from begun w under) gone
      by_phase gone (inr lost) = absurd (not_lost read from begun w control lost)

      by : OverRuns read from begun w → Ports w
      by (inl (inl f)) = by_phase f.unlinked.link f.phase
      by (inl (inr (inl on))) = fetching_ports w on.fetching
      by (inl (inr (inr (inl trailing)))) = absurd (not_trailing read reads from begun puts w unready trailing)
      by (inl (inr (inr (inr halting)))) = let h = halting.halting in absurd (true≢false (sym unaborted ∙ halt_aborted h.now h.ask h.own w h.stands))
      by (inr (inl trying)) = absurd (last_carried trying.going.done _ begun trying.going.begun_is puts)
      by (inr (inr tailing)) = absurd (last_carried tailing.going.done _ begun tailing.going.begun_is puts)

  -- one that is at a port has no link, one that sent ABOR among them
  pub world_awaits : (w : World) → OverRuns read from begun w → w.control ≡ Stands
      → (is_closed_by_near w.link ≡ true → is_ready w.far.session.connection ≡ false) → is_ported w.near.connection ≡ true → w.link ≡ Gone
  world_awaits w runs control unready ported = by runs
    where
      by : OverRuns read from begun w → w.link ≡ Gone
      by (inl (inl f)) = f.unlinked.link
      by (inl (inr (inl on))) = (fetching_ports w on.fetching).awaits ported
      by (inl (inr (inr (inl trailing)))) = absurd (not_trailing read reads from begun puts w unready trailing)
      by (inl (inr (inr (inr halting)))) =
          let a = halting.halting.stands in
          absurd (true≢false (sym ported ∙ ap (λ (u : World). is_ported u.near.connection) a.is ∙ ap (λ (n : Near). is_ported n.connection) a.here.near
          ∙ tie_apart (halt_tie a.halt)))
      by (inr (inl trying)) = absurd (last_carried trying.going.done _ begun trying.going.begun_is puts)
      by (inr (inr tailing)) = absurd (last_carried tailing.going.done _ begun tailing.going.begun_is puts)

  -- so it is behind octets that its client heard
  pub hears_ports : (w : World) (count : ℕ) → OverRuns read from begun w → w.control ≡ Stands
      → (is_closed_by_near w.link ≡ true → is_ready w.far.session.connection ≡ false) → is_unaborted w.near.job ≡ true
      → is_unaborted (near.hears w.near (take count w.control_to_client)).job ≡ true → Ports (pushed read ControlToClient count w)
  hears_ports w count runs control unready unaborted then_unaborted = by runs
    where
      new : World
      new = pushed read ControlToClient count w

      by_phase : w.link ≡ Gone → Phase read from begun new → Ports new
      by_phase gone (inl (linked, inl free)) = still_ports new (free_still read from begun new free) gone
      by_phase gone (inl (linked, inr under)) = still_ports new (under_still read from begun new under) gone
      by_phase gone (inr lost) = absurd (not_lost read from begun new control lost)

      by_on : (on : IsFetchingOn read from begun w) → OnOrHalted read reads from begun w on.fetching new → Ports new
      by_on on (inr halts) = absurd (true≢false (sym then_unaborted ∙ halt_aborted on.fetching.now on.fetching.ask on.fetching.own new halts))
      by_on on (inl f) = fetching_ports new f

      by : OverRuns read from begun w → Ports new
      by (inl (inl f)) = by_phase f.unlinked.link (still_heard read reads from begun count w (record { unlinked = f.unlinked; phase = f.phase })).phase
      by (inl (inr (inl on))) = by_on on (pushed_client read reads from begun count w on.fetching w (serving_first read reads from begun w on))
      by (inl (inr (inr (inl trailing)))) = absurd (not_trailing read reads from begun puts w unready trailing)
      by (inl (inr (inr (inr halting)))) = let h = halting.halting in absurd (true≢false (sym unaborted ∙ halt_aborted h.now h.ask h.own w h.stands))
      by (inr (inl trying)) = absurd (last_carried trying.going.done _ begun trying.going.begun_is puts)
      by (inr (inr tailing)) = absurd (last_carried tailing.going.done _ begun tailing.going.begun_is puts)

-- ---- one that wants to accept does at its port

pub accepting_of : (n : Near) → near.wants n ≡ Want.Accept → (is_ported n.connection ≡ true) × (n.closing ≡ false)
unfolding near.wants
accepting_of n e = by n.closing (is_sound n.standing) n.connection refl refl e
  where
    no : {q : Wants} → is_accept q ≡ false → q ≡ Want.Accept → ⊥
    no none e = true≢false (sym (ap is_accept e) ∙ none)

    by_transfer : (down begun : Bool) → is_accept (if down then Want.Receive else (if begun then Want.Send else Want.Nothing)) ≡ false
    by_transfer true begun = refl
    by_transfer false true = refl
    by_transfer false false = refl

    by_open : (transfer : Option Transfer) → is_accept (data_wants transfer) ≡ false
    by_open None = refl
    by_open (Some transfer) = by_transfer _ _

    by : (closing sound : Bool) (link : ClientLink) → n.closing ≡ closing → n.connection ≡ link
        → (if closing then Want.CloseData else (if sound then link_wants link n else Want.CloseAll)) ≡ Want.Accept
        → (is_ported n.connection ≡ true) × (n.closing ≡ false)
    by true sound link c l e = absurd (no refl e)
    by false false link c l e = absurd (no refl e)
    by false true (Data.Accepting port) c l e = (ap is_ported l, c)
    by false true Data.Open c l e = absurd (no (by_open (transfer_under_way n)) e)
    by false true Data.Free c l e = absurd (no refl e)
    by false true Data.ListenWanted c l e = absurd (no refl e)
    by false true (Data.Listening port) c l e = absurd (no refl e)
    by false true (Data.Connecting endpoint) c l e = absurd (no refl e)
    by false true (Data.Over ending) c l e = absurd (no refl e)
