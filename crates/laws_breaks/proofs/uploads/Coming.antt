-- What came of an upload to a world's server: its decoder has read as many octets as the world counts; where a limit was passed, they pass it.
use Rattle.std.proofs.Common.{◌≡◌, inl, inr, ℕ, ◌+◌, ◌<◌, ◌^◌, Bool, true, false, List, [], ◌∷◌, ◌++◌, length, Option, Some, None, refl, sym, ap, subst, ◌∙◌, arith}
use Rattle.std.specs.Option.{is_some}
use Rattle.ftp_client_model.specs.Plan.{settings_of}
use Rattle.ftp_client_model.specs.View.{Job, Told, Transfer as Running, Transferring, View as Near}
use Rattle.ftp_client_model.specs.declared.client.Replied.{Replied}
use Rattle.ftp_direct.specs.Direct.{State, part}
use Rattle.ftp_mode.specs.Laws.{settled_content}
use Rattle.ftp_operation.specs.declared.op.Op.{Op}
use Rattle.ftp_settings.specs.Representation.{form_of}
use Rattle.ftp_settings.specs.declared.representation.Representation.{Representation}
use Rattle.ftp_server_model.specs.Keep.{kept_count}
use Rattle.ftp_server_model.specs.View.{Transfer, View as Far, direct_of}
use Rattle.ftp_server_model.specs.declared.session.ServerLink.{ServerLink}
use Rattle.ftp_server_model.specs.declared.session.ServerLink.TheVariants as Data
use Rattle.ftp_server_model.specs.declared.session.Transfer.TheVariants as Transfers
use Rattle.ftp_tree.specs.Tree.{octets_or_none, octets_refusal}
use Rattle.ftp_wire.specs.Decoder.{Decoder, decoded, decoded_octet, decoder_of, fault_in, fault_of, no_octets}
use Rattle.ftp_wire.proofs.DecoderLemmas.{decodes, what_is_settled}
use Rattle.laws_world.specs.Outcome.{Stored, upload_of}
use Rattle.laws_world.specs.World.{World, counted}
use Rattle.laws_drivers.proofs.control.Taken.{idle_of}
use Rattle.laws_dialogues.specs.Fetches.{Ask, HasUpload, IsSteadySession, Rise, kept, kept_of, excess_of}
use Rattle.laws_dialogues.specs.Uploads.{Note}
use Rattle.laws_dialogues.proofs.Texts.{ReadsFar, decoded_grows, far_both, text_reads}
use Rattle.laws_dialogues.proofs.Uploads.{kept_long}
use Rattle.laws_agreement.specs.Rising.{Climbs, held, sending}
use Rattle.laws_breaks.specs.downloads.Actions.{HasRead}
use Rattle.laws_breaks.proofs.downloads.Counting.{faultless_read}
use Rattle.laws_breaks.specs.uploads.Coming.{CameOver, HasPassed, PassesLimit}

-- to a world's server came as many octets as the world counts
abbrev pub CameIn : World → Type 0
CameIn w = CameOver w.far.session.connection (direct_of w.far.session) w.near.job w.came

-- octets that are read well meet no fault, where not more is settled than any limit lets be
far_sound : (d : Decoder) (octets : List ℕ) → fault_of d ≡ None → ReadsFar d octets → length (decoded d octets).content < 10 ^ 18
    → fault_of (decoded d octets) ≡ None
far_sound d [] none reads few = none
far_sound d (octet ∷ octets) none reads few =
    let next : Decoder = decoded_octet d octet in
    elim reads.2 [
      | inl many ↦ absurd (omega (arith, many, few, decoded_grows next octets))
      | inr more ↦ far_sound next octets (ap fault_in (decodes d (octet ∷ [])).reading ∙ reads.0) more few
    ]

module _ (state : State) (ask : Ask) (rise : Rise) (upload : HasUpload ask rise) (came coming : List ℕ) (front : came ++ coming ≡ rise.text) where
  abbrev content : List ℕ
  content = (decoder_of ask.settings came).content

  -- a decoder of a front of an upload has read all of it, where that is not more than any limit lets be
  rise_read : kept_count (rise.keep state) + length content < 10 ^ 18 → HasRead (decoder_of ask.settings came) (counted (length came))
  rise_read few =
      let all : ReadsFar (no_octets ask.settings) (came ++ coming) =
      subst (ReadsFar (no_octets ask.settings)) (sym front) (text_reads ask.settings rise.octets rise.text upload.text_is) in
      faultless_read ask.settings came
      (far_sound (no_octets ask.settings) came refl (far_both (no_octets ask.settings) came coming all).0 (omega (arith, few)))

  -- one that passes a limit is such a front of the operation's upload
  rise_passes : is_some (excess_of rise state (length content)) ≡ true → PassesLimit (upload_of state ask.op) state came
  rise_passes past =
      let k = upload.known_so state in
      let put : Stored = record { path = rise.path state; kept = kept_of rise state; start = k.start; octets = rise.octets; how = ask.how } in
      let limit : List ℕ → Bool = λ octets. is_some (octets_refusal (part state) (rise.path state) (length (kept_of rise state ++ octets))) in
      let passes : limit (settled_content (settings_of ask.how).mode (form_of (settings_of ask.how)) came) ≡ true =
      ap (λ (r : Representation). limit (settled_content r.mode (form_of r) came)) k.set ∙ ap limit (sym (what_is_settled ask.settings came))
      ∙ ap (λ n. is_some (octets_refusal (part state) (rise.path state) n))
      (kept_long (rise.keep state) (octets_or_none (part state) (rise.path state)) content (upload.within state))
      ∙ past in
      let of_put : PassesLimit (Some put) state came = ((coming, front ∙ sym k.text), passes) in
      subst (λ up. PassesLimit up state came) (sym k.up) of_put

  -- so as many came as are in front
  pub rise_came : (past : Bool) (mark : Option ℕ) (notes : List Note) → Climbs state ask rise past came coming mark notes
      → (replied : Replied) (left : List ℕ) (heard : Option ℕ)
      → CameOver (held past (rise.path state) (rise.keep state) (decoder_of ask.settings came)) state (sending ask.op replied left heard)
      (counted (length came))
  rise_came false mark notes climbs replied left heard = rise_read (climbs.3.1 refl).0
  rise_came true mark notes climbs replied left heard = (came, rise_passes (climbs.2 refl), refl)

-- what the direct run sees of a steady session
pub steady_direct : (state : State) (n : Near) (f : Far) → IsSteadySession state (kept n f) → state.known ≡ true → direct_of f.session ≡ state
steady_direct state n f steady known =
    λ i. record { table = steady.table i; root = steady.root known i; cwd = steady.cwd i; known = sym known i; rights = steady.rights known i }

-- so it is of a world
pub world_came : (w : World) (link : ServerLink Transfer) (state : State) (job : Job) (count : ℕ) → w.far.session.connection ≡ link
    → direct_of w.far.session ≡ state → w.near.job ≡ job → w.came ≡ count → CameOver link state job count → CameIn w
world_came w link state job count link_is state_is job_is count_is came =
    subst (λ l. CameOver l (direct_of w.far.session) w.near.job w.came) (sym link_is)
    (subst (λ s. CameOver link s w.near.job w.came) (sym state_is)
    (subst (λ j. CameOver link state j w.came) (sym job_is)
    (subst (CameOver link state job) (sym count_is) came)))

-- a client's report is of no matter to it
passed_idle : (state : State) (job : Job) (came : ℕ) → HasPassed state (idle_of job) came → HasPassed state job came
passed_idle state (Told answer) came passed = absurd passed
passed_idle state job came passed = passed

pub came_idle : (link : ServerLink Transfer) (state : State) (job : Job) (came : ℕ) → CameOver link state (idle_of job) came → CameOver link state job came
came_idle (Data.Transferring (Transfers.Upload path keep d)) state job came is = is
came_idle (Data.Transferring Transfers.OverLimit) state job came is = passed_idle state job came is
came_idle link state job came is = absurd is

-- nor is how far its transfer is
pub came_any : (link : ServerLink Transfer) (state : State) (op : Op (List ℕ)) (now then : Running) (came : ℕ)
    → CameOver link state (Transferring op now) came → CameOver link state (Transferring op then) came
came_any (Data.Transferring (Transfers.Upload path keep d)) state op now then came is = is
came_any (Data.Transferring Transfers.OverLimit) state op now then came is = is
came_any (Data.Transferring (Transfers.Download rest)) state op now then came is = absurd is
came_any (Data.Transferring (Transfers.Listing rest)) state op now then came is = absurd is
came_any Data.Free state op now then came is = absurd is
came_any (Data.Asked verb) state op now then came is = absurd is
came_any (Data.Active endpoint) state op now then came is = absurd is
came_any Data.Passive state op now then came is = absurd is
came_any Data.Ready state op now then came is = absurd is
came_any (Data.Opening transfer way) state op now then came is = absurd is
