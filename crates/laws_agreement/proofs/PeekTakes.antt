-- What the client makes of octets of its link: it takes them all, or a Peek that has enough sends its ABOR and drops the rest.
use Rattle.std.proofs.Common.{◌≡◌, ◌⊎◌, inl, inr, ℕ, Bool, true, false, List, [], ◌∷◌, ◌++◌, Option, None, refl, sym, ap, subst, ◌∙◌, append-nil, append_assoc}
use Rattle.std.specs.Prelude.{if◌then◌else◌}
use Rattle.ftp_nvt.specs.Lines.{written_line}
use Rattle.ftp_wire.specs.Decoder.{Decoder, decoded, decoded_octet, decoder_of, no_octets, octet_says}
use Rattle.ftp_ends.specs.Ear.{Ear}
use Rattle.ftp_reply.specs.Reader.{Gathered}
use Rattle.ftp_direct.specs.Direct.{State}
use Rattle.ftp_client_model.specs.Calls as near
use Rattle.ftp_client_model.specs.Dialogue.{has_begun, is_unsent, sends_abort}
use Rattle.ftp_client_model.specs.Octets.{has_enough, last_mark}
use Rattle.ftp_client_model.specs.View.{View as Near, Flow, Transferring, Receiving}
use Rattle.ftp_client_model.specs.declared.client.Abort.{Abort}
use Rattle.ftp_client_model.specs.declared.client.Abort.TheVariants as Aborts
use Rattle.ftp_client_model.specs.declared.client.ClientLink.TheVariants as NearData
use Rattle.ftp_client_model.specs.declared.client.Replied.{Replied}
use Rattle.laws_world.specs.Outcome.{mark_in}
use Rattle.laws_dialogues.specs.Fetches.{Ask, busy, fetching, flow_after, is_filled}
use Rattle.laws_dialogues.specs.Peeks.{abort_line, halting}
use Rattle.laws_agreement.specs.Stages.{Heard, NoReply, OneReply, BothReplies, IsShortAt, replied_of}
use Rattle.laws_agreement.proofs.FetchLink.{Leads, hearing}

-- what is decoded of octets and one more is what was decoded of them, with that octet taken in
decoded-more : (d : Decoder) (xs : List ℕ) (x : ℕ) → decoded d (xs ++ x ∷ []) ≡ decoded_octet (decoded d xs) x
decoded-more d [] x = refl
decoded-more d (y ∷ xs) x = decoded-more (decoded_octet d y) xs x

-- the last mark in octets and one more is the last mark in them, with what that octet says taken in
mark-more : (d : Decoder) (mark : Option ℕ) (xs : List ℕ) (x : ℕ) → mark_in d mark (xs ++ x ∷ []) ≡ last_mark (mark_in d mark xs) (octet_says (decoded d xs) x)
mark-more d mark [] x = refl
mark-more d mark (y ∷ xs) x = mark-more (decoded_octet d y) (last_mark mark (octet_says d y)) xs x

module _ (state : State) (ask : Ask) (n : Near) where
  abbrev pub receiving : Heard → List ℕ → Near
  receiving heard came = busy (fetching ask.op (replied_of heard) ask.settings came) NearData.Open n

  -- the same where ABOR was sent
  abbrev pub halted : Heard → List ℕ → Near
  halted heard came = busy (halting ask.op (replied_of heard) Aborts.Sent ask.settings came) NearData.Open n

  -- a 150 was heard
  abbrev pub HasBegun : Heard → Type 0
  HasBegun heard = has_begun (replied_of heard) ≡ true

  -- a client that receives takes all of these octets, and has not enough for an ABOR to send
  pub record TakesAll (heard : Heard) (came octets : List ℕ) : Type 0 where
    pub short : IsShortAt state ask heard (came ++ octets)
    pub leads : Leads (λ v. near.receives v octets) (receiving heard came) (receiving heard (came ++ octets))

  -- it takes the first of them, sends ABOR, and drops the rest
  pub record TakesEnough (heard : Heard) (came octets : List ℕ) : Type 0 where
    pub first : List ℕ
    pub rest : List ℕ
    pub parts : octets ≡ first ++ rest
    pub begun : HasBegun heard
    pub enough : is_filled ask.op ask.settings (came ++ first) ≡ true
    pub leads : (ear : Ear) (gathered : Gathered) (owed : List ℕ)
        → near.receives (hearing ear gathered owed (receiving heard came)) octets ≡ hearing ear gathered (owed ++ written_line abort_line)
        (halted heard (came ++ first))

  -- what the client makes of octets and one more
  flow_more : (came : List ℕ) (octet : ℕ)
      → Receiving (decoded_octet (decoder_of ask.settings came) octet)
      (last_mark (mark_in (no_octets ask.settings) None came) (octet_says (decoder_of ask.settings came) octet))
      ≡ flow_after ask.settings (came ++ octet ∷ [])
  flow_more came octet = λ i. Receiving (sym (decoded-more (no_octets ask.settings) came octet) i) (sym (mark-more (no_octets ask.settings) None came octet) i)

  -- with such a flow, where an ABOR is sent or not
  abbrev made_of : Heard → Flow → Near
  made_of heard flow = busy (Transferring ask.op (record { replied = replied_of heard; abort = Aborts.Unsent; flow = flow })) NearData.Open n

  abbrev made_by : Bool → Ear → Gathered → List ℕ → Heard → Flow → Near
  made_by enough ear gathered owed heard flow =
      if enough then sends_abort ask.op (record { replied = replied_of heard; abort = Aborts.Unsent; flow = flow })
      (hearing ear gathered owed (made_of heard flow))
      else hearing ear gathered owed (made_of heard flow)

  -- an octet behind the 150, by whether it is enough
  octet_made : (heard : Heard) → HasBegun heard → (came : List ℕ) (octet : ℕ) (ear : Ear) (gathered : Gathered) (owed : List ℕ)
      → near.receives_octet (hearing ear gathered owed (receiving heard came)) octet
      ≡ made_by (is_filled ask.op ask.settings (came ++ octet ∷ [])) ear gathered owed heard (flow_after ask.settings (came ++ octet ∷ []))
  octet_made NoReply begun came octet ear gathered owed = absurd (cc)
  octet_made OneReply begun came octet ear gathered owed = ap (λ flow. made_by (has_enough ask.op flow) ear gathered owed OneReply flow) (flow_more came octet)
  octet_made BothReplies begun came octet ear gathered owed =
      ap (λ flow. made_by (has_enough ask.op flow) ear gathered owed BothReplies flow) (flow_more came octet)

  -- one octet is taken, and it is enough or not
  octet_begun : (heard : Heard) → HasBegun heard → (came : List ℕ) (octet : ℕ)
      → ((short : is_filled ask.op ask.settings (came ++ octet ∷ []) ≡ false) → IsShortAt state ask heard (came ++ octet ∷ []))
      → TakesAll heard came (octet ∷ []) ⊎ TakesEnough heard came (octet ∷ [])
  octet_begun heard begun came octet is_short = by_enough (is_filled ask.op ask.settings (came ++ octet ∷ [])) refl
    where
      by_enough : (b : Bool) → is_filled ask.op ask.settings (came ++ octet ∷ []) ≡ b → TakesAll heard came (octet ∷ []) ⊎ TakesEnough heard came (octet ∷ [])
      by_enough false short = inl (record {
        short = is_short short;
        leads =
            λ ear gathered owed. octet_made heard begun came octet ear gathered owed ∙ ap
            (λ b. made_by b ear gathered owed heard (flow_after ask.settings (came ++ octet ∷ []))) short;
      })
      by_enough true enough = inr (record {
        first = octet ∷ [];
        rest = [];
        parts = refl;
        begun = begun;
        enough = enough;
        leads =
            λ ear gathered owed. octet_made heard begun came octet ear gathered owed ∙ ap
            (λ b. made_by b ear gathered owed heard (flow_after ask.settings (came ++ octet ∷ []))) enough;
      })

  -- before the 150 each octet is only taken
  octet_comes : (heard : Heard) (came : List ℕ) (octet : ℕ) → TakesAll heard came (octet ∷ []) ⊎ TakesEnough heard came (octet ∷ [])
  octet_comes NoReply came octet =
      inl (record { short = tt; leads = λ ear gathered owed. ap (λ flow. hearing ear gathered owed (made_of NoReply flow)) (flow_more came octet) })
  octet_comes OneReply came octet = octet_begun OneReply refl came octet (λ short. short)
  octet_comes BothReplies came octet = octet_begun BothReplies refl came octet (λ short. short)

  -- octets that come behind ABOR are dropped
  pub dropped : (replied : Replied) (abort : Abort) → is_unsent abort ≡ false → (came octets : List ℕ)
      → Leads (λ v. near.receives v octets) (busy (halting ask.op replied abort ask.settings came) NearData.Open n)
      (busy (halting ask.op replied abort ask.settings came) NearData.Open n)
  dropped replied Aborts.Unsent sent came octets ear gathered owed = absurd (cc)
  dropped replied Aborts.Sent sent came [] ear gathered owed = refl
  dropped replied Aborts.Sent sent came (octet ∷ octets) ear gathered owed = dropped replied Aborts.Sent sent came octets ear gathered owed
  dropped replied Aborts.Answered sent came [] ear gathered owed = refl
  dropped replied Aborts.Answered sent came (octet ∷ octets) ear gathered owed = dropped replied Aborts.Answered sent came octets ear gathered owed

  -- a client that receives octets takes them all, whatever replies it has heard, or has enough
  pub octets_come : (heard : Heard) (came octets : List ℕ) → IsShortAt state ask heard came → TakesAll heard came octets ⊎ TakesEnough heard came octets
  octets_come heard came [] short = inl (record {
    short = subst (IsShortAt state ask heard) (sym (append-nil came)) short;
    leads = λ ear gathered owed. ap (λ l. hearing ear gathered owed (receiving heard l)) (sym (append-nil came));
  })
  octets_come heard came (octet ∷ octets) short = elim (octet_comes heard came octet) [
    | inl one ↦ behind one (octets_come heard (came ++ octet ∷ []) octets one.short)
    | inr all ↦ inr (record {
      first = all.first;
      rest = all.rest ++ octets;
      parts = ap (λ l. l ++ octets) all.parts ∙ append_assoc all.first all.rest octets;
      begun = all.begun;
      enough = all.enough;
      leads = λ ear gathered owed. ap (λ v. near.receives v octets) (all.leads ear gathered owed)
          ∙ dropped (replied_of heard) Aborts.Sent refl (came ++ all.first) octets ear gathered (owed ++ written_line abort_line);
    })
  ]
    where
      behind : TakesAll heard came (octet ∷ []) → TakesAll heard (came ++ octet ∷ []) octets ⊎ TakesEnough heard (came ++ octet ∷ []) octets
          → TakesAll heard came (octet ∷ octets) ⊎ TakesEnough heard came (octet ∷ octets)
      behind one (inl more) = inl (record {
        short = subst (IsShortAt state ask heard) (append_assoc came (octet ∷ []) octets) more.short;
        leads = λ ear gathered owed. ap (λ v. near.receives v octets) (one.leads ear gathered owed) ∙ more.leads ear gathered owed
            ∙ ap (λ l. hearing ear gathered owed (receiving heard l)) (append_assoc came (octet ∷ []) octets);
      })
      behind one (inr all) = inr (record {
        first = octet ∷ all.first;
        rest = all.rest;
        parts = ap (λ l. octet ∷ l) all.parts;
        begun = all.begun;
        enough = subst (λ l. is_filled ask.op ask.settings l ≡ true) (append_assoc came (octet ∷ []) all.first) all.enough;
        leads = λ ear gathered owed. ap (λ v. near.receives v octets) (one.leads ear gathered owed) ∙ all.leads ear gathered owed
            ∙ ap (λ l. hearing ear gathered (owed ++ written_line abort_line) (halted heard l)) (append_assoc came (octet ∷ []) all.first);
      })
