-- A world whose server takes octets of an upload, over a link that is open, and whose client is not to close: the client has no final reply, and gives octets
-- or has not heard its 150; what comes to it is that 150 or numbers of octets that are held; and nothing goes to the server.
use Rattle.std.proofs.Common.{◌≡◌, ◌⊎◌, inl, inr, ℕ, Bool, true, false, true≢false, List, [], ◌∷◌, ◌++◌, Option, None, refl, sym, ap, subst, ◌∙◌}
use Rattle.ftp_ends.specs.Octets.{has_octets}
use Rattle.ftp_ends.specs.Reply.{Reply}
use Rattle.ftp_client_model.specs.Calls.{hears}
use Rattle.ftp_client_model.specs.Plan.{count_of}
use Rattle.ftp_client_model.specs.View.{View as Near}
use Rattle.ftp_client_model.specs.declared.client.ClientLink.TheVariants as NearData
use Rattle.ftp_direct.specs.Direct.{State}
use Rattle.ftp_operation.specs.declared.op.Op.{Op}
use Rattle.ftp_path.specs.Path.{Names}
use Rattle.ftp_server_model.specs.Calls.{is_upload}
use Rattle.ftp_server_model.specs.Machine.{IsReading, Reading}
use Rattle.ftp_server_model.specs.Replies.{fixed_reply}
use Rattle.ftp_server_model.specs.View.{Session, Transfer}
use Rattle.ftp_server_model.specs.declared.reply.FixedReply.TheVariants as Texts
use Rattle.ftp_server_model.specs.declared.session.Pending.{Pending}
use Rattle.ftp_server_model.specs.declared.session.ServerLink.{ServerLink}
use Rattle.laws_world.specs.Agreement.{Order, Single}
use Rattle.laws_world.specs.Events.{is_closed_by_near}
use Rattle.laws_world.specs.World.{Mark, Opened, Stands, World}
use Rattle.laws_dialogues.specs.Fetches.{Ask, IsAsk, Rise, busy, linked}
use Rattle.laws_dialogues.specs.Stage.{Answering, Way, calm}
use Rattle.laws_dialogues.specs.Uploads.{AreNotes, Note, note_replies}
use Rattle.laws_agreement.specs.Cut.{Fits, FlowsRow, PlacedAt, world_at}
use Rattle.laws_agreement.specs.Follows.{Phase}
use Rattle.laws_agreement.specs.Over.{OverRuns}
use Rattle.laws_agreement.specs.Rising.{Declined, Lift, Offered, Risen, Rising, Settled, Unjoined, replied_by, sending}
use Rattle.laws_agreement.specs.Stages.{AtFetch, Holds, Rises}
use Rattle.laws_agreement.proofs.Rests.{near_form}
use Rattle.laws_agreement.proofs.Still.{IsSeen, IsStill, seen_placed}
use Rattle.laws_drivers.proofs.world.Running.{free_still, not_lost, under_still}
use Rattle.laws_transfers.proofs.Acting.{Acts, carry_not, idle_or_acts, idle_rests, is_acting}
use Rattle.laws_transfers.proofs.Halting.{halt_stands}
use Rattle.laws_transfers.proofs.Known.{AreCarried, aside_rests, gives_none, is_ready, last_carried}
use Rattle.laws_transfers.proofs.Running.{not_trailing}
use Rattle.laws_breaks.proofs.downloads.Unsent.{AskAll, all_carried, last_all}

-- what is on its way: the 150, or once it was heard numbers of octets that are held
abbrev pub rows : Bool → List Note → List Reply
rows false notes = fixed_reply Texts.Opens ∷ []
rows true notes = note_replies notes

-- of the first reply on its way it heard a front, and the rest is on its way
pub record Offers (w : World) : Type 0 where
  pub op : Op (List ℕ)
  pub all : count_of op ≡ None
  pub begun : Bool
  pub left : List ℕ
  pub mark : Option ℕ
  pub near : w.near ≡ busy (sending op (replied_by begun) left mark) NearData.Open w.near
  pub some : begun ≡ true → has_octets left ≡ true
  pub notes : List Note
  pub fine : AreNotes notes
  pub base : Near
  pub held : List ℕ
  pub heard : w.near ≡ hears (busy (sending op (replied_by begun) left mark) NearData.Open (calm base)) held
  pub row : FlowsRow (rows begun notes) held (w.control_to_client ++ w.far.owed)
  pub quiet : w.control_to_server ≡ []

-- ---- by stages

module _ (read : Reading) (state : State) (ask : Ask) (good : IsAsk ask) (all : count_of ask.op ≡ None) (own : List Mark) where
  abbrev At : Way → World → Type 0
  At way b = AtFetch state ask read own way b

  module _ (w : World) (s : PlacedAt At w) (takes : is_upload w.far.session.connection ≡ true) (unclosed : w.near.closing ≡ false) where
    of : IsSeen s.base w
    of = seen_placed At w s

    stage_offers : w.link ≡ Opened → Offers w
    stage_offers link = by (idle_or_acts read state ask good own w s)
      where
        never : (link : ServerLink Transfer) (closing : Bool) (pending : Pending Names) → s.base.far.session ≡ linked link closing pending s.base.far.session
            → is_upload link ≡ false → Offers w
        never link closing pending is none = absurd (true≢false (sym takes ∙ ap (λ (t : Session). is_upload t.connection) (of.session ∙ is) ∙ none))

        by_lift : (rise : Rise) (lift : Lift) → Holds state ask own (Rises rise lift) s.way s.base → Offers w
        by_lift rise Offered h =
            let is : w ≡ world_at s.base (Answering (rows false [])) s.cut = s.is ∙ ap (λ v. world_at s.base v s.cut) h.way_is in
            let fits : FlowsRow (rows false []) s.cut.held (s.cut.moving ++ s.cut.owed) = (subst (λ v. Fits v s.cut) h.way_is s.fits).1 in
            record {
              op = ask.op;
              all = all;
              begun = false;
              left = rise.text;
              mark = None;
              near = near_form s.base w of _ _ h.near;
              some = λ e. absurd (true≢false (sym e));
              notes = [];
              fine = tt;
              base = s.base.near;
              held = s.cut.held;
              heard = ap (λ (u : World). u.near) is ∙ ap (λ n. hears (calm n) s.cut.held) h.near;
              row = subst (λ (u : World). FlowsRow (rows false []) s.cut.held (u.control_to_client ++ u.far.owed)) (sym is) fits;
              quiet = ap (λ (u : World). u.control_to_server) is;
            }
        by_lift rise (Rising past octet more came queue mark notes) h =
            let is : w ≡ world_at s.base (Answering (rows true notes)) s.cut = s.is ∙ ap (λ v. world_at s.base v s.cut) h.way_is in
            let fits : FlowsRow (rows true notes) s.cut.held (s.cut.moving ++ s.cut.owed) = (subst (λ v. Fits v s.cut) h.way_is s.fits).1 in
            record {
              op = ask.op;
              all = all;
              begun = true;
              left = octet ∷ more;
              mark = mark;
              near = near_form s.base w of _ _ h.near;
              some = λ e. refl;
              notes = notes;
              fine = h.fine.3.0;
              base = s.base.near;
              held = s.cut.held;
              heard = ap (λ (u : World). u.near) is ∙ ap (λ n. hears (calm n) s.cut.held) h.near;
              row = subst (λ (u : World). FlowsRow (rows true notes) s.cut.held (u.control_to_client ++ u.far.owed)) (sym is) fits;
              quiet = ap (λ (u : World). u.control_to_server) is;
            }
        by_lift rise (Risen past false came queue mark notes) h =
            absurd (true≢false (sym (of.closing ∙ ap (λ (n : Near). n.closing) h.near) ∙ unclosed))
        by_lift rise (Risen past true came queue mark notes) h =
            let is : w ≡ world_at s.base (Answering (rows true notes)) s.cut = s.is ∙ ap (λ v. world_at s.base v s.cut) h.way_is in
            absurd (true≢false (sym (ap is_closed_by_near (ap (λ (u : World). u.link) is ∙ h.link)) ∙ ap is_closed_by_near link))
        by_lift rise (Settled begun mark notes fate left after) h = never _ _ _ h.session refl
        by_lift rise (Declined why door) h = never _ _ _ h.session refl
        by_lift rise Unjoined h = never _ _ _ h.session refl

        by : (is_acting w.far.session.connection ≡ false) ⊎ Acts read state ask good own s.way s.base → Offers w
        by (inl idle) = absurd (true≢false (sym takes ∙ (idle_rests w.far.session.connection idle).0))
        by (inr (inl (port, begun, h))) = never _ _ _ h.session refl
        by (inr (inr (inl (c, h)))) = never _ _ _ h.session (carry_not is_upload refl gives_none ask.listed c.course)
        by (inr (inr (inr (rise, lift, h)))) = by_lift rise lift h

-- ---- in a world

module _ (read : Reading) (reads : IsReading read) (from : State) (begun : List Order) (puts : AskAll begun) (w : World)
    (runs : OverRuns read from begun w) (control : w.control ≡ Stands)
    (unready : is_closed_by_near w.link ≡ true → is_ready w.far.session.connection ≡ false) where
  carried : AreCarried begun
  carried = all_carried begun puts

  -- of an operation that is under way all is asked for
  under_all : (done : List Order) (ask : Ask) (moment : ℕ) → begun ≡ done ++ Single ask.op moment ∷ [] → count_of ask.op ≡ None
  under_all done ask moment is = (last_all done (Single ask.op moment) begun is puts).0.1

  pub world_offers : is_upload w.far.session.connection ≡ true → w.near.closing ≡ false → w.link ≡ Opened → Offers w
  world_offers takes unclosed link = by runs
    where
      still : IsStill w → Offers w
      still is = absurd (true≢false (sym takes ∙ (aside_rests w.far.session.connection is.far.aside).0))

      by_phase : Phase read from begun w → Offers w
      by_phase (inl (linked, inl free)) = still (free_still read from begun w free)
      by_phase (inl (linked, inr under)) = still (under_still read from begun w under)
      by_phase (inr lost) = absurd (not_lost read from begun w control lost)

      by : OverRuns read from begun w → Offers w
      by (inl (inl f)) = by_phase f.phase
      by (inl (inr (inl on))) =
          let f = on.fetching in
          stage_offers read f.now f.ask f.is_ask (under_all f.done f.ask f.moment f.begun_is) f.own w f.stands takes unclosed link
      by (inl (inr (inr (inl trailing)))) = absurd (not_trailing read reads from begun carried w unready trailing)
      by (inl (inr (inr (inr on)))) =
          let h = on.halting in absurd (true≢false (sym takes ∙ (halt_stands h.now h.ask h.own w h.stands).untaken))
      by (inr (inl trying)) = absurd (last_carried trying.going.done _ begun trying.going.begun_is carried)
      by (inr (inr tailing)) = absurd (last_carried tailing.going.done _ begun tailing.going.begun_is carried)
