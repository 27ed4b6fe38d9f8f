-- The link of a Peek that has sent ABOR: octets are given and dropped, it ends, it breaks; and the server hears ABOR.
use Rattle.std.proofs.Common.{◌≡◌, ℕ, ◌+◌, Bool, true, false, List, [], ◌∷◌, ◌++◌, take, drop, refl, sym, ap, subst, ◌∙◌, append_assoc}
use Rattle.std.specs.Prelude.{if◌then◌else◌}
use Rattle.std.proofs.Math.Seq.{take-nil, drop-nil}
use Rattle.ftp_pieces.specs.Machine.{after}
use Rattle.ftp_ends.specs.Ear.{Ear, quiet, ear}
use Rattle.ftp_ends.specs.Reply.{IsWritten, Reply, reply_octets}
use Rattle.ftp_operation.specs.Answer.{Said}
use Rattle.ftp_direct.specs.Direct.{State}
use Rattle.ftp_client_model.specs.Calls as near
use Rattle.ftp_client_model.specs.declared.client.Abort.TheVariants as Aborts
use Rattle.ftp_client_model.specs.declared.client.ClientLink.TheVariants as NearData
use Rattle.ftp_client_model.specs.declared.client.Replied.{Replied}
use Rattle.ftp_client_model.specs.declared.client.Replied.TheVariants as Replies
use Rattle.ftp_server_model.specs.Calls as far
use Rattle.ftp_server_model.specs.Machine.{Reading}
use Rattle.ftp_server_model.specs.Replies.{fixed_reply}
use Rattle.ftp_server_model.specs.View.{View as Far, line_limit}
use Rattle.ftp_server_model.specs.declared.reply.FixedReply.{FixedReply}
use Rattle.ftp_server_model.specs.declared.reply.FixedReply.TheVariants as Texts
use Rattle.ftp_server_model.specs.declared.reply.ReplyKind.TheVariants as Kinds
use Rattle.ftp_server_model.specs.declared.session.ServerLink.TheVariants as FarData
use Rattle.ftp_server_model.specs.declared.session.Pending.TheVariants as Pendings
use Rattle.ftp_server_model.proofs.RepliesWritten.{replies_are_written}
use Rattle.laws_world.specs.Events.{ControlToServer, DataToClient, pulled, pushed}
use Rattle.laws_world.specs.World.{World, Mark, counted}
use Rattle.laws_dialogues.specs.Fetches.{Ask, busy, giving_of, linked}
use Rattle.laws_dialogues.specs.Peeks.{halting}
use Rattle.laws_agreement.specs.Crossing.{AreCut, Cuts, crossing_at}
use Rattle.laws_agreement.specs.Cut.{FlowsRow, coming}
use Rattle.laws_agreement.specs.PeekStages.{AtHalt, Gave, Gives, Halt, Halted, Halts, halt_asked, halt_rows}
use Rattle.laws_agreement.specs.Stages.{Closed, Lost, Unclosed}
use Rattle.laws_agreement.proofs.PeekBegins.{halt_at}
use Rattle.laws_agreement.proofs.CrossKeeps.{pulled_up, pulls_up}
use Rattle.laws_agreement.proofs.FetchData.{free_gives, free_owes, gives_all, gives_some, no_pull, to_give_is}
use Rattle.laws_agreement.proofs.FetchLink.{Leads, far_linked, hearing, listening, row_more, written_more}
use Rattle.laws_agreement.proofs.PeekTakes.{dropped}
use Rattle.laws_agreement.proofs.Placing.{at_halt}
use Rattle.laws_agreement.proofs.Still.{no_octets}

-- a cut with one reply more, which is owed
pub one_more : (asked : Bool) (rows : List Reply) (reply : Reply) (c : Cuts) → IsWritten reply.code reply.lines → AreCut asked rows c
    → AreCut asked (rows ++ reply ∷ []) (record c { down = record c.down { owed = c.down.owed ++ reply_octets reply } })
one_more asked rows reply c fine fits = record {
  up = fits.up;
  written = written_more rows reply fits.written fine;
  down =
      subst (FlowsRow (rows ++ reply ∷ []) c.down.held) (append_assoc c.down.moving c.down.owed (reply_octets reply))
      (row_more rows reply c.down.held (coming c.down) fine fits.down);
  heard = fits.heard;
}

-- the same where ABOR was heard
pub abort_over : (rows : List Reply) (c : Cuts) → AreCut true rows c → AreCut false rows (record c { up = no_octets })
abort_over rows c fits = record { up = (refl, refl, refl); written = fits.written; down = fits.down; heard = fits.heard }

module _ (read : Reading) (state : State) (ask : Ask) (own : List Mark) where
  abbrev Stands : Halt → Said → (came queue : List ℕ) → World → Type 0
  Stands halt said came queue b = Halts state ask own halt said came queue b

  abbrev OnWay : World → Type 0
  OnWay w = AtHalt state ask own w

  -- a set text is a written reply
  pub fixed : (f : Far) (text : FixedReply) → IsWritten (fixed_reply text).code (fixed_reply text).lines
  fixed f text = replies_are_written f.session (Kinds.Fixed text) (fixed_reply text) tt refl

  -- what the server has heard of ABOR
  abbrev ear_at : Cuts → Ear
  ear_at c = after (ear line_limit) quiet c.up.held

  -- ---- octets are given

  -- the server gives octets, and goes on or has given all
  gives_pulls : (n : ℕ) (octet : ℕ) (more : List ℕ) (said : Said) (came queue : List ℕ) (b : World) (c : Cuts) → AreCut true [] c
      → Stands (Gives octet more) said came queue b
      → OnWay (pulled DataToClient (crossing_at b c) n)
  gives_pulls n octet more said came queue b c fits h = by_left (drop n (octet ∷ more)) refl
    where
      moves : b.data_to_client ++ take n (far.to_give (listening (ear_at c) c.down.owed b.far)) ≡ queue ++ take n (octet ∷ more)
      moves = λ i. h.to_client i ++ take n (to_give_is ask.listed n octet more b.far (ear_at c) c.down.owed h.session i)

      by_left : (left : List ℕ) → drop n (octet ∷ more) ≡ left → OnWay (pulled DataToClient (crossing_at b c) n)
      by_left (next ∷ later) left =
          let f : Far = far_linked (linked (FarData.Transferring (giving_of ask.listed (next ∷ later))) false Pendings.Nothing b.far.session) b.far in
          halt_at state ask own _ (Gives next later) said came (queue ++ take n (octet ∷ more))
          (record b { far = f; data_to_client = queue ++ take n (octet ∷ more) }) c
          (λ i. record (crossing_at b c) {
            far = gives_some ask.listed n octet more b.far
                (ear_at c) c.down.owed h.session next later left i;
            data_to_client = moves i;
          }) fits
          (at_halt h.near refl h.steady h.timed h.link h.to_server refl tt h.marked h.settled h.fares)
      by_left [] left =
          let f : Far = far_linked (linked FarData.Free true Pendings.Nothing b.far.session) b.far in
          halt_at state ask own _ (Gave true false true Unclosed) said came (queue ++ take n (octet ∷ more))
          (record b { far = f; data_to_client = queue ++ take n (octet ∷ more) })
          (record c { down = record c.down { owed = c.down.owed ++ reply_octets (fixed_reply Texts.Complete) } })
          (λ i. record (crossing_at b c) { far = gives_all ask.listed n octet more b.far (ear_at c) c.down.owed h.session left i; data_to_client = moves i })
          (one_more true [] (fixed_reply Texts.Complete) c (fixed b.far Texts.Complete) fits)
          (at_halt h.near refl h.steady h.timed h.link h.to_server refl tt h.marked h.settled h.fares)

  -- a server that has given all gives no more
  gave_pulls : (n : ℕ) (halt : Halt) (said : Said) (came queue : List ℕ) (b : World) (c : Cuts) → AreCut (halt_asked halt) (halt_rows halt) c
      → Stands halt said came queue b
      → (closing : Bool) → b.far.session ≡ linked FarData.Free closing Pendings.Nothing b.far.session → OnWay (pulled DataToClient (crossing_at b c) n)
  gave_pulls n halt said came queue b c fits h closing session =
      halt_at state ask own _ halt said came queue b c
      (no_pull n (crossing_at b c) (free_owes closing b.far (ear_at c) c.down.owed session) (free_gives closing n b.far (ear_at c) c.down.owed session)) fits h

  -- the server gives octets of the link
  pub halt_pulls : (n : ℕ) (w : World) → OnWay w → OnWay (pulled DataToClient w n)
  halt_pulls n w a = subst (λ u. OnWay (pulled DataToClient u n)) (sym a.is) (by_halt a.halt a.fits a.here)
    where
      by_halt : (halt : Halt) → AreCut (halt_asked halt) (halt_rows halt) a.cuts → Stands halt a.said a.came a.queue a.base
          → OnWay (pulled DataToClient (crossing_at a.base a.cuts) n)
      by_halt (Gives octet more) fits h = gives_pulls n octet more a.said a.came a.queue a.base a.cuts fits h
      by_halt (Gave whole heard asked Unclosed) fits h =
          gave_pulls n (Gave whole heard asked Unclosed) a.said a.came a.queue a.base a.cuts fits h true h.session
      by_halt (Gave whole heard asked Closed) fits h = gave_pulls n (Gave whole heard asked Closed) a.said a.came a.queue a.base a.cuts fits h false h.session
      by_halt (Gave whole heard asked (Lost clean)) fits h =
          gave_pulls n (Gave whole heard asked (Lost clean)) a.said a.came a.queue a.base a.cuts fits h false h.session
      by_halt (Halted whole false) fits h = gave_pulls n (Halted whole false) a.said a.came a.queue a.base a.cuts fits h true h.session
      by_halt (Halted whole true) fits h = gave_pulls n (Halted whole true) a.said a.came a.queue a.base a.cuts fits h false h.session

  -- ---- octets are dropped

  -- the client takes octets, which change nothing of it
  drops : (n : ℕ) (halt : Halt) (said : Said) (came queue : List ℕ) (b : World) (c : Cuts) → AreCut (halt_asked halt) (halt_rows halt) c
      → Leads (λ v. near.receives v (take n queue)) b.near b.near
      → Stands halt said came queue b → Stands halt said came (drop n queue) (record b { data_to_client = drop n queue; came = counted (b.came + n) })
      → OnWay (pushed read DataToClient n (crossing_at b c))
  drops n halt said came queue b c fits leads h next =
      halt_at state ask own _ halt said came (drop n queue) (record b { data_to_client = drop n queue; came = counted (b.came + n) }) c
      (ap (λ l. record (crossing_at b c) {
        near = near.receives (hearing c.ear c.gathered c.up.owed b.near) (take n l);
        data_to_client = drop n l;
        came = counted (b.came + n);
      }) h.to_client
      ∙ ap (λ v. record (crossing_at b c) { near = v; data_to_client = drop n queue; came = counted (b.came + n) })
      (leads c.ear c.gathered c.up.owed)) fits next

  -- the client takes octets of the link
  pub halt_pushes : (n : ℕ) (w : World) → OnWay w → OnWay (pushed read DataToClient n w)
  halt_pushes n w a = subst (λ u. OnWay (pushed read DataToClient n u)) (sym a.is) (by_halt a.halt a.fits a.here)
    where
      b : World
      b = a.base

      -- an open link, behind ABOR
      opened : (replied : Replied) (answered : Bool) → a.base.near ≡ busy
          (halting ask.op replied (if answered then Aborts.Answered else Aborts.Sent) ask.settings a.came) NearData.Open a.base.near
          → Leads (λ v. near.receives v (take n a.queue)) a.base.near a.base.near
      opened replied true is =
          subst (λ v. Leads (λ u. near.receives u (take n a.queue)) v v) (sym is)
          (dropped state ask a.base.near replied Aborts.Answered refl a.came (take n a.queue))
      opened replied false is =
          subst (λ v. Leads (λ u. near.receives u (take n a.queue)) v v) (sym is)
          (dropped state ask a.base.near replied Aborts.Sent refl a.came (take n a.queue))

      -- no octet is on its way
      none : a.queue ≡ [] → Leads (λ v. near.receives v (take n a.queue)) a.base.near a.base.near
      none empty ear gathered owed = ap (λ l. near.receives (hearing ear gathered owed a.base.near) l) (ap (take n) empty ∙ take-nil n)

      by_halt : (halt : Halt) → AreCut (halt_asked halt) (halt_rows halt) a.cuts → Stands halt a.said a.came a.queue a.base
          → OnWay (pushed read DataToClient n (crossing_at a.base a.cuts))
      by_halt (Gives octet more) fits h =
          drops n (Gives octet more) a.said a.came a.queue a.base a.cuts fits (opened Replies.Begun false h.near) h
          (at_halt h.near h.session h.steady h.timed h.link h.to_server refl tt h.marked h.settled h.fares)
      by_halt (Gave whole heard asked Unclosed) fits h =
          drops n (Gave whole heard asked Unclosed) a.said a.came a.queue a.base a.cuts fits (opened _ false h.near) h
          (at_halt h.near h.session h.steady h.timed h.link h.to_server refl tt h.marked h.settled h.fares)
      by_halt (Gave whole heard asked Closed) fits h =
          drops n (Gave whole heard asked Closed) a.said a.came a.queue a.base a.cuts fits (opened _ false h.near) h
          (at_halt h.near h.session h.steady h.timed h.link h.to_server refl tt h.marked h.settled h.fares)
      by_halt (Gave whole heard asked (Lost clean)) fits h =
          drops n (Gave whole heard asked (Lost clean)) a.said a.came a.queue a.base a.cuts fits (none h.empty) h
          (at_halt h.near h.session h.steady h.timed h.link h.to_server refl (ap (drop n) h.empty ∙ drop-nil n) h.marked h.settled h.fares)
      by_halt (Halted whole false) fits h =
          drops n (Halted whole false) a.said a.came a.queue a.base a.cuts fits (opened _ true h.near) h
          (at_halt h.near h.session h.steady h.timed h.link h.to_server refl tt h.marked h.settled h.fares)
      by_halt (Halted whole true) fits h =
          drops n (Halted whole true) a.said a.came a.queue a.base a.cuts fits (opened _ true h.near) h
          (at_halt h.near h.session h.steady h.timed h.link h.to_server refl tt h.marked h.settled h.fares)

  -- ---- ABOR

  -- the client gives octets of ABOR
  pub halt_pulls_up : (n : ℕ) (w : World) → OnWay w → OnWay (pulled ControlToServer w n)
  halt_pulls_up n w a =
      halt_at state ask own (pulled ControlToServer w n) a.halt a.said a.came a.queue a.base _
      (ap (λ u. pulled ControlToServer u n) a.is ∙ pulled_up n a.base a.cuts)
      (pulls_up n (halt_asked a.halt) (halt_rows a.halt) a.cuts a.fits) a.here
