-- A client of a download hears a 150 and the 426 after it, in any pieces: it takes octets still, and owes nothing. So it is of one whose world's server gives,
-- and of all that such a server says once it is told of a break.
use Rattle.std.proofs.Common.{◌≡◌, inl, inr, ℕ, Bool, true, false, List, [], ◌∷◌, ◌++◌, Option, refl, sym, ap, subst, ◌∙◌, append_assoc, append-nil}
use Rattle.ftp_ends.specs.Reply.{Reply, IsWritten, reply_octets}
use Rattle.ftp_operation.specs.declared.op.Op.{Op}
use Rattle.ftp_wire.specs.Decoder.{Decoder}
use Rattle.ftp_client_model.specs.Calls.{hears}
use Rattle.ftp_client_model.specs.Dialogue.{answered}
use Rattle.ftp_client_model.specs.View.{View as Near}
use Rattle.ftp_client_model.specs.declared.client.Replied.{Replied}
use Rattle.ftp_client_model.specs.declared.client.Replied.TheVariants as Replies
use Rattle.ftp_client_model.proofs.RepliesInFlight.{in_pieces, reply_is_heard}
use Rattle.ftp_server_model.specs.Replies.{fixed_reply}
use Rattle.ftp_server_model.specs.View.{Session}
use Rattle.ftp_server_model.specs.declared.reply.FixedReply.TheVariants as Texts
use Rattle.laws_agreement.proofs.Chunks.{cuts}
use Rattle.laws_agreement.proofs.Sessions.{fixed}
use Rattle.laws_dialogues.specs.Stage.{calm}
use Rattle.laws_world.specs.Agreement.{Order}
use Rattle.laws_world.specs.World.{World}
use Rattle.laws_agreement.specs.Cut.{FlowsRow}
use Rattle.laws_agreement.specs.Stages.{replies_behind_opening, heard_by, replied_of}
use Rattle.laws_breaks.specs.downloads.Late.{downloading}
use Rattle.laws_breaks.proofs.downloads.Feeding.{Gives}
use Rattle.laws_breaks.proofs.downloads.Late.{IsFew, down, goes_open}

-- what is said as a transfer begins, and as its link broke
abbrev pub opening : List ℕ
opening = reply_octets (fixed_reply Texts.Opens)

abbrev pub breaking : List ℕ
breaking = reply_octets (fixed_reply Texts.Broken)

-- one that takes octets of a download, and owes none
pub record Steady (op : Op (List ℕ)) (d : Decoder) (mark : Option ℕ) (v : Near) : Type 0 where
  pub replied : Replied
  pub last : Near
  pub is : v ≡ downloading op replied d mark last
  pub owes : last.owed ≡ []

module _ (s : Session) (op : Op (List ℕ)) (d : Decoder) (few : IsFew op d) (mark : Option ℕ) (n : Near) where
  abbrev at : Replied → Near
  at replied = down op replied d mark (calm n)

  -- a front of a reply changes nothing
  front : (replied : Replied) (reply : Reply) → IsWritten reply.code reply.lines → (heard more : List ℕ) (octet : ℕ)
      → heard ++ octet ∷ more ≡ reply_octets reply
      → Steady op d mark (hears (at replied) heard)
  front replied reply written heard more octet is =
      let only = (reply_is_heard reply.code reply.lines (at replied) written (record { ear = refl; gathered = refl })).cut heard more octet is in
      record { replied = replied; last = record (calm n) { ear = only.ear; gathered = only.gathered }; is = only.is; owes = refl }

  -- the 150, and the 426
  begins : hears (at Replies.Nothing) opening ≡ at Replies.Begun
  unfolding answered
  begins =
      let reply = fixed_reply Texts.Opens in
      (reply_is_heard reply.code reply.lines (at Replies.Nothing) (fixed s Texts.Opens) (record { ear = refl; gathered = refl })).whole
      ∙ goes_open op Replies.Begun d few mark (calm n)

  breaks : hears (at Replies.Begun) breaking ≡ at (Replies.Final 426)
  unfolding answered
  breaks =
      let reply = fixed_reply Texts.Broken in
      (reply_is_heard reply.code reply.lines (at Replies.Begun) (fixed s Texts.Broken) (record { ear = refl; gathered = refl })).whole
      ∙ goes_open op (Replies.Final 426) d few mark (calm n)

  -- a front of a 426
  pub broken_heard : (heard rest : List ℕ) → heard ++ rest ≡ breaking → Steady op d mark (hears (at Replies.Begun) heard)
  broken_heard heard [] is = record {
    replied = Replies.Final 426;
    last = calm n;
    is = ap (hears (at Replies.Begun)) (sym (append-nil heard) ∙ is) ∙ breaks;
    owes = refl;
  }
  broken_heard heard (octet ∷ rest) is = front Replies.Begun (fixed_reply Texts.Broken) (fixed s Texts.Broken) heard rest octet is

  -- one of a 150 and a 426
  pub both_heard : (heard rest : List ℕ) → heard ++ rest ≡ opening ++ breaking → Steady op d mark (hears (at Replies.Nothing) heard)
  both_heard heard rest is = elim (cuts heard rest opening breaking is) [
    | inl r ↦
        subst (Steady op d mark)
        (sym (ap (hears (at Replies.Nothing)) r.over ∙ in_pieces (at Replies.Nothing) opening r.more ∙ ap (λ v. hears v r.more) begins))
        (broken_heard r.more rest r.left)
    | inr r ↦ front Replies.Nothing (fixed_reply Texts.Opens) (fixed s Texts.Opens) heard r.more r.octet (sym r.within)
  ]

-- ---- in a world whose server gives

module _ (begun : List Order) (w : World) (g : Gives begun w) where
  abbrev d : Decoder
  d = g.loads.decoder

  abbrev base : Replied → Near
  base replied = downloading g.loads.op replied d g.loads.mark (calm g.base)

  -- what is on its way of a 150, and then a 426
  pub gives_heard : (heard rest : List ℕ) → w.control_to_client ++ (w.far.owed ++ breaking) ≡ heard ++ rest
      → Steady g.loads.op d g.loads.mark (hears w.near heard)
  gives_heard heard rest is = by g.begun g.near g.row
    where
      coming : List ℕ
      coming = w.control_to_client ++ w.far.owed

      behind : coming ++ breaking ≡ heard ++ rest
      behind = append_assoc w.control_to_client w.far.owed breaking ∙ is

      by : (begun : Bool) → w.near ≡ hears (base (replied_of (heard_by begun))) g.held → FlowsRow (replies_behind_opening (heard_by begun) []) g.held coming
          → Steady g.loads.op d g.loads.mark (hears w.near heard)
      by true near row =
          subst (Steady g.loads.op d g.loads.mark) (sym (ap (λ v. hears v heard) (near ∙ ap (hears (base Replies.Begun)) row.0)))
          (broken_heard w.far.session g.loads.op d g.loads.few g.loads.mark g.base heard rest (sym behind ∙ ap (λ c. c ++ breaking) row.1))
      by false near row =
          let unit : List ℕ = row.octet ∷ row.more in
          let all : (g.held ++ heard) ++ rest ≡ opening ++ breaking =
          append_assoc g.held heard rest ∙ ap (λ c. g.held ++ c) (sym behind)
          ∙ ap (λ c. g.held ++ (c ++ breaking)) (row.is ∙ append-nil unit) ∙ sym (append_assoc g.held unit breaking) ∙ ap (λ c. c ++ breaking) row.whole in
          subst (Steady g.loads.op d g.loads.mark) (sym (ap (λ v. hears v heard) near ∙ sym (in_pieces (base Replies.Nothing) g.held heard)))
          (both_heard w.far.session g.loads.op d g.loads.few g.loads.mark g.base (g.held ++ heard) rest all)
