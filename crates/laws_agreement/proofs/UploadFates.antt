-- How an upload fares: installed, too much, or cut, as its client tells it, and the state that it leaves.
use Rattle.std.proofs.Common.{◌≡◌, ◌⊎◌, inl, inr, ℕ, ◌+◌, ◌<◌, ◌≤◌, ◌^◌, Bool, true, false, List, [], ◌∷◌, ◌++◌, length, Option, Some, None, refl, sym, ap, subst, ◌∙◌, arith}
use Rattle.std.specs.Prelude.{if◌then◌else◌}
use Rattle.std.specs.Option.{is_some, unwrap_or}
use Rattle.ftp_pieces.specs.Machine.{IsFront}
use Rattle.ftp_mode.specs.Laws.{settled_content}
use Rattle.ftp_operation.specs.Answer.{Done, Refused, Broken as BrokenOff}
use Rattle.ftp_operation.specs.declared.op.Op.{Op}
use Rattle.ftp_settings.specs.Representation.{form_of}
use Rattle.ftp_tree.specs.Map.{Node, Dir, File, octets_of, of_node}
use Rattle.ftp_tree.specs.Tree.{node_at, octets_at, octets_or_none, octets_refusal, most_octets}
use Rattle.ftp_tree.specs.declared.fault.TreeFault.{TreeFault}
use Rattle.ftp_wire.specs.Decoder.{decoder_of, no_octets}
use Rattle.ftp_wire.proofs.DecoderLemmas.{what_is_settled}
use Rattle.ftp_direct.specs.declared.refusal.Refusal.TheVariants as Refusals
use Rattle.ftp_direct.specs.Direct.{State, first_refusal, part, refusal, refused_octets}
use Rattle.ftp_direct.specs.Refusal.{code_of}
use Rattle.ftp_server_model.specs.Keep.{kept_count}
use Rattle.laws_world.specs.Outcome.{Whole, Cut, CanBeCut, IsCutOf, Stored, cut_by, download_of, mmmm_in, upload_of}
use Rattle.laws_world.specs.World.{Mark, Broken, counted}
use Rattle.laws_dialogues.specs.Dialogue.{IsSound}
use Rattle.laws_dialogues.specs.Fetches.{Ask, HasUpload, IsAsk, IsPlacedAt, Rise, kept_of, excess_of, stored}
use Rattle.laws_dialogues.proofs.Rows.{answer_known}
use Rattle.laws_dialogues.proofs.Texts.{text_shorter}
use Rattle.laws_dialogues.proofs.Uploads.{kept_as_counted, kept_long, kept_within}
use Rattle.laws_agreement.specs.Rising.{FaredTo}
use Rattle.laws_agreement.proofs.Fates.{among_one}
use Rattle.laws_agreement.proofs.UploadServer.{many_over, too_many_more}

-- what is not some is none
none_of : (why : Option TreeFault) → is_some why ≡ false → why ≡ None
none_of None is = refl
none_of (Some fault) is = absurd (cc)

-- some fault of octets is a refusal for too much
some_of : (why : Option TreeFault) → is_some why ≡ true → refused_octets why ≡ Some Refusals.TooMuch
some_of None is = absurd (cc)
some_of (Some fault) is = refl

-- whatever is found of octets, it is no refusal or one for too much
either_of : (why : Option TreeFault) → (refused_octets why ≡ None) ⊎ (refused_octets why ≡ Some Refusals.TooMuch)
either_of None = inl refl
either_of (Some fault) = inr refl

module _ (state : State) (ask : Ask) (good : IsAsk ask) (rise : Rise) (upload : HasUpload ask rise) (known : state.known ≡ true)
    (taken : (ask.why state ≡ None) × IsPlacedAt ask.settings ask.offset) where
  abbrev op : Op (List ℕ)
  op = ask.op

  -- the direct run refuses it for its octets alone
  refusal_is : refusal state op ≡ refused_octets (excess_of rise state (length rise.octets))
  refusal_is = upload.refused state taken.1 taken.0

  -- within the limits it is done
  pub installed_fares : (own : List Mark) → is_some (excess_of rise state (length rise.octets)) ≡ false → FaredTo state ask own Done (stored rise state rise.octets) rise.moment
  installed_fares own small = record {
    outcome = Whole;
    can_be = tt;
    allowed = λ index. tt;
    did_so = sym (answer_known state op rise.moment None good.refuses.can known (refusal_is ∙ ap refused_octets (none_of _ small))) ∙ upload.done_so state;
  }

  -- past them it is refused
  pub overfull_fares : (own : List Mark) → is_some (excess_of rise state (length rise.octets)) ≡ true → FaredTo state ask own (Refused (code_of Refusals.TooMuch)) state rise.moment
  overfull_fares own big = record {
    outcome = Whole;
    can_be = tt;
    allowed = λ index. tt;
    did_so = sym (answer_known state op rise.moment (Some Refusals.TooMuch) good.refuses.can known (refusal_is ∙ some_of _ big));
  }

  -- where what came is too much, the whole is
  pub whole_over : (came : List ℕ) → IsFront came rise.text → is_some (excess_of rise state (length (decoder_of ask.settings came).content)) ≡ true
      → is_some (excess_of rise state (length rise.octets)) ≡ true
  whole_over came front some = elim (text_shorter ask.settings rise.octets rise.text came upload.text_is front) [
    | inl few ↦ too_many_more (part state) (rise.path state) (kept_count (rise.keep state) + length (decoder_of ask.settings came).content) (kept_count (rise.keep state) + length rise.octets)
        (omega (arith, few)) some
    | inr many ↦ many_over (part state) (rise.path state) (kept_count (rise.keep state) + length rise.octets) (omega (arith, many))
  ]

  -- the upload that the world knows
  abbrev known_upload : Stored
  known_upload = record { path = rise.path state; kept = kept_of rise state; start = (upload.known_so state).start; octets = rise.octets; how = ask.how }

  -- what is kept and came is as long as both
  long : (content : List ℕ) → length (kept_of rise state ++ content) ≡ kept_count (rise.keep state) + length content
  long content = kept_long (rise.keep state) (octets_or_none (part state) (rise.path state)) content (upload.within state)

  -- it can be cut at each front that passes no limit
  can_be_cut : (came : List ℕ) → IsFront came rise.text → is_some (excess_of rise state (length (decoder_of ask.settings came).content)) ≡ false → CanBeCut state op came
  can_be_cut came front small =
      let k = upload.known_so state in
      let first : first_refusal state op ≡ refusal state op = ap (λ (b : Bool). if b then refusal state op else Some Refusals.NotLoggedIn) known in
      let either : (first_refusal state op ≡ None) ⊎ (first_refusal state op ≡ Some Refusals.TooMuch) =
      subst (λ why. (why ≡ None) ⊎ (why ≡ Some Refusals.TooMuch)) (sym (first ∙ refusal_is)) (either_of (excess_of rise state (length rise.octets))) in
      let limit : octets_refusal (part state) (rise.path state) (length (kept_of rise state ++ settled_content ask.settings.mode (form_of ask.settings) came)) ≡ None =
      ap (λ content. octets_refusal (part state) (rise.path state) (length (kept_of rise state ++ content))) (sym (what_is_settled ask.settings came))
      ∙ ap (octets_refusal (part state) (rise.path state)) (long (decoder_of ask.settings came).content) ∙ none_of _ small in
      let cut : IsCutOf (Some known_upload) (download_of state op) state came = (
        subst (IsFront came) (sym k.text) front,
        subst (λ settings. octets_refusal (part state) (rise.path state) (length (kept_of rise state ++ settled_content settings.mode (form_of settings) came)) ≡ None) (sym k.set) limit,
      ) in
      ((good.refuses.can, either), subst (λ up. IsCutOf up (download_of state op) state came) (sym k.up) cut)

  -- the octets held at the last marker that came
  abbrev pub held_at : List ℕ → Option ℕ
  held_at came = mmmm_in (kept_count (rise.keep state)) (no_octets ask.settings) None came

  -- what it leaves then
  cut_is : (came : List ℕ) → cut_by (upload_of state op) (download_of state op) state rise.moment came ≡ (BrokenOff [] (held_at came), stored rise state (decoder_of ask.settings came).content)
  cut_is came =
      let k = upload.known_so state in
      ap (λ up. cut_by up (download_of state op) state rise.moment came) k.up
      ∙ ap (λ settings. (
        BrokenOff [] (mmmm_in (length (kept_of rise state)) (no_octets settings) None came),
        stored rise state (settled_content settings.mode (form_of settings) came),
      )) k.set
      ∙ ap (λ kept. (BrokenOff [] (mmmm_in kept (no_octets ask.settings) None came), stored rise state (settled_content ask.settings.mode (form_of ask.settings) came)))
      (kept_as_counted (rise.keep state) (octets_or_none (part state) (rise.path state)) (upload.within state))
      ∙ ap (λ content. (BrokenOff [] (held_at came), stored rise state content)) (sym (what_is_settled ask.settings came))

  -- with the mark of a break it fares as broken off, with the octets held at the last marker that came, and leaves what was settled
  pub cut_off_fares : (own : List Mark) (came : List ℕ) (held : Option ℕ) → IsFront came rise.text → is_some (excess_of rise state (length (decoder_of ask.settings came).content)) ≡ false
      → own ≡ Broken (counted (length came)) ∷ [] → held ≡ held_at came
      → FaredTo state ask own (BrokenOff [] held) (stored rise state (decoder_of ask.settings came).content) rise.moment
  cut_off_fares own came held front small marked heard = record {
    outcome = Cut came;
    can_be = can_be_cut came front small;
    allowed = λ index. (tt, among_one state ask good own (Broken (counted (length came))) marked);
    did_so = cut_is came ∙ ap (λ mark. (BrokenOff [] mark, stored rise state (decoder_of ask.settings came).content)) (sym heard);
  }

  -- in a sound state what is kept of the file can be said
  pub keep_few : IsSound state → kept_count (rise.keep state) < 10 ^ 18
  unfolding octets_at
  keep_few sound = by_node (node_at (part state) (rise.path state)) refl
    where
      found_in : Option Node → List ℕ
      found_in node = unwrap_or (of_node octets_of node) []

      few_of : (found : List ℕ) → octets_or_none (part state) (rise.path state) ≡ found → length found ≤ most_octets → kept_count (rise.keep state) < 10 ^ 18
      few_of found is few = omega (arith, kept_within (rise.keep state) (octets_or_none (part state) (rise.path state)) (upload.within state), ap length is, few)

      by_node : (node : Option Node) → node_at (part state) (rise.path state) ≡ node → kept_count (rise.keep state) < 10 ^ 18
      by_node None is = few_of [] (ap found_in is) (omega arith)
      by_node (Some Dir) is = few_of [] (ap found_in is) (omega arith)
      by_node (Some (File octets moment)) is = few_of octets (ap found_in is) (sound.files (rise.path state) octets moment is).1

  -- the limit passes nothing that it is not some of
  pub within_limit : (count : ℕ) → is_some (excess_of rise state count) ≡ false → excess_of rise state count ≡ None
  within_limit count small = none_of (excess_of rise state count) small
