-- A client of an upload that has octets to give hears the reply that a server says as it is told of the break, in any pieces, and was told of no break: it
-- gives still, and owes none.
use Rattle.std.proofs.Common.{◌≡◌, ℕ, suc, zero, ◌<◌, true, true≢false, List, [], ◌∷◌, ◌++◌, length, take, Option, None, refl, sym, ap, ◌∙◌, append_assoc, append-nil, arith}
use Rattle.ftp_ends.specs.Octets.{has_octets}
use Rattle.ftp_ends.specs.Reply.{Reply, reply_octets}
use Rattle.ftp_client_model.specs.Calls.{hears, may_hear}
use Rattle.ftp_client_model.specs.Dialogue.{answered, has_begun, judged_reply}
use Rattle.ftp_client_model.specs.InFlight.{IsAtRest}
use Rattle.ftp_client_model.specs.Plan.{count_of}
use Rattle.ftp_client_model.specs.Replies.{Negative, verdict_of}
use Rattle.ftp_client_model.specs.View.{View as Near}
use Rattle.ftp_client_model.specs.declared.client.Replied.{Replied}
use Rattle.ftp_client_model.specs.declared.client.Replied.TheVariants as Replies
use Rattle.ftp_client_model.proofs.RepliesInFlight.{reply_is_heard}
use Rattle.ftp_operation.specs.declared.op.Op.{Op}
use Rattle.ftp_server_model.specs.Replies.{fixed_reply}
use Rattle.ftp_server_model.specs.Texts.{fixed_reply_code}
use Rattle.ftp_server_model.specs.View.{Session}
use Rattle.ftp_server_model.specs.declared.reply.FixedReply.{FixedReply}
use Rattle.laws_agreement.proofs.Sessions.{fixed}
use Rattle.laws_agreement.specs.Cut.{FlowsRow}
use Rattle.laws_dialogues.specs.Stage.{calm}
use Rattle.laws_breaks.specs.uploads.Late.{uploading}
use Rattle.laws_breaks.proofs.uploads.Late.{goes_open}

-- where no octets are on their way it is between two replies
pub none_held : (replies : List Reply) (held : List ℕ) → FlowsRow replies held [] → held ≡ []
none_held [] held row = row.0
none_held (reply ∷ more) held row = absurd (true≢false (sym (ap has_octets row.is)))

-- ---- a reply that refuses

-- its upload has begun, it gives still, and owes none
pub record GivesStill (op : Op (List ℕ)) (left : List ℕ) (mark : Option ℕ) (v : Near) : Type 0 where
  pub replied : Replied
  pub begun : has_begun replied ≡ true
  pub last : Near
  pub is : v ≡ uploading op replied left mark last
  pub owes : last.owed ≡ []

module _ (s : Session) (text : FixedReply) where
  abbrev reply : Reply
  reply = fixed_reply text

  module _ (op : Op (List ℕ)) (all : count_of op ≡ None) (first : ℕ) (more : List ℕ) (mark : Option ℕ) (n : Near)
      (refuses : verdict_of (fixed_reply_code text) ≡ Negative) where
    abbrev up : Replied → Near
    up replied = uploading op replied (first ∷ more) mark (calm n)

    -- all of it
    heard_whole : hears (up Replies.Begun) (reply_octets reply) ≡ up (Replies.Final reply.code)
    unfolding answered
    heard_whole =
        (reply_is_heard reply.code reply.lines (up Replies.Begun) (fixed s text) (record { ear = refl; gathered = refl })).whole
        ∙ ap (λ v. judged_reply v reply.code reply.lines (up Replies.Begun)) refuses
        ∙ goes_open op all first more (Replies.Final reply.code) mark (calm n)

    -- or a front
    pub hears_last : (heard rest : List ℕ) → heard ++ rest ≡ reply_octets reply → GivesStill op (first ∷ more) mark (hears (up Replies.Begun) heard)
    hears_last heard [] is = record {
      replied = Replies.Final reply.code;
      begun = refl;
      last = calm n;
      is = ap (hears (up Replies.Begun)) (sym (append-nil heard) ∙ is) ∙ heard_whole;
      owes = refl;
    }
    hears_last heard (octet ∷ rest) is =
        let only = (reply_is_heard reply.code reply.lines (up Replies.Begun) (fixed s text) (record { ear = refl; gathered = refl })).cut heard rest octet is in
        record {
          replied = Replies.Begun;
          begun = refl;
          last = record (calm n) { ear = only.ear; gathered = only.gathered };
          is = only.is;
          owes = refl;
        }

  -- ---- each octet may be heard

  -- some are left of what is not all taken
  some_left : (count : ℕ) (octets : List ℕ) → count < length octets → (octet : ℕ) × (more : List ℕ) × (octets ≡ take count octets ++ octet ∷ more)
  some_left count [] less = absurd (omega (arith, less))
  some_left zero (octet ∷ octets) less = (octet, octets, refl)
  some_left (suc count) (octet ∷ octets) less =
      let there = some_left count octets (omega (arith, less)) in (there.0, there.1, ap (λ o. octet ∷ o) there.2)

  -- by one that is between two replies, however its link stands
  pub last_may : (v : Near) → IsAtRest v → may_hear v ≡ true → (heard rest : List ℕ) → heard ++ rest ≡ reply_octets reply
      → (count : ℕ) → count < length heard → may_hear (hears v (take count heard)) ≡ true
  last_may v resting may heard rest is count less =
      let there = some_left count heard less in
      (reply_is_heard reply.code reply.lines v (fixed s text) resting).may (take count heard) (there.1 ++ rest) there.0
      (sym (append_assoc (take count heard) (there.0 ∷ there.1) rest) ∙ ap (λ o. o ++ rest) (sym there.2) ∙ is) ∙ may
