-- What is asked for by a download: its file, its place, its text and its answer.
use Rattle.std.proofs.Common.{◌≡◌, ℕ, ◌+◌, ◌-◌, ◌<◌, ◌≤◌, ◌^◌, Bool, true, false, length, List, [], take, Option, Some, None, refl, sym, ap, subst, ◌∙◌, arith}
use Rattle.std.specs.Prelude.{if◌then◌else◌, min}
use Rattle.std.specs.Option.{option_or, unwrap_or}
use Rattle.std.proofs.lemmas.Bool.{and_parts, ltb-true}
use Rattle.std.proofs.lemmas.List.{length-drop, length-take}
use Rattle.ftp_wire.specs.Decoder.{decoder_of, ended, image_blocks, GivesFile}
use Rattle.ftp_wire.proofs.WireLemmas.{wire_gives_file, marked_wire_gives_file}
use Rattle.ftp_mode.specs.Block.{marked_text}
use Rattle.ftp_mode.specs.Wire.{wire as written_wire}
use Rattle.ftp_operation.specs.Answer.{Octets}
use Rattle.ftp_operation.specs.Operation.{can_be_sent, is_number, is_path_text}
use Rattle.ftp_operation.specs.declared.op.How.{How}
use Rattle.ftp_operation.specs.declared.op.Op.{Op}
use Rattle.ftp_path.specs.Path.{IsPathText, Names}
use Rattle.ftp_repr.specs.Skipping.{IsPlaceOfOffset}
use Rattle.ftp_settings.specs.Representation.{form_of, has_markers}
use Rattle.ftp_settings.specs.declared.representation.Kind.{Kind}
use Rattle.ftp_settings.specs.declared.representation.Kind.TheVariants as Kinds
use Rattle.ftp_settings.specs.declared.representation.Structure.{Structure}
use Rattle.ftp_settings.specs.declared.representation.Structure.TheVariants as Structures
use Rattle.ftp_settings.specs.declared.representation.Mode.{Mode}
use Rattle.ftp_settings.specs.declared.representation.Mode.TheVariants as Modes
use Rattle.ftp_settings.specs.declared.representation.Representation.{Representation}
use Rattle.ftp_tree.specs.Map.{Node, Dir, File, octets_of, of_node}
use Rattle.ftp_tree.specs.Tree.{node_at, octets_at, octets_or_none, most_octets}
use Rattle.ftp_direct.specs.declared.refusal.Refusal.{Refusal}
use Rattle.ftp_direct.specs.declared.refusal.Refusal.TheVariants as Refusals
use Rattle.ftp_direct.specs.Direct.{State, done, file_of, named, offset_refusal, or_refused, part, place_at, refusal, refused_file, refused_from, refused_there, size_in}
use Rattle.ftp_direct.proofs.PlaceLemmas.{found_place, led}
use Rattle.ftp_direct.proofs.SizeLemmas.{size_piece}
use Rattle.ftp_client_model.specs.Dialogue.{judged}
use Rattle.ftp_client_model.specs.Octets.{content_answer, cut_answer, written}
use Rattle.ftp_client_model.specs.View.{Receiving}
use Rattle.ftp_client_model.specs.declared.client.Abort.TheVariants as Aborts
use Rattle.ftp_client_model.specs.declared.client.Ending.TheVariants as Endings
use Rattle.ftp_server_model.specs.Transfer.{misplaced}
use Rattle.ftp_server_model.specs.View.{how_in_force}
use Rattle.laws_world.specs.Outcome.{upload_of}
use Rattle.laws_dialogues.specs.Dialogue.{IsSound}
use Rattle.laws_dialogues.specs.Fetches.{HasAnswer, IsAsk, IsKnownText, IsPlacedAt, fetch, is_filled, place_in_file, why_not, fetched_wire, content_from, download_ask}
use Rattle.laws_dialogues.proofs.Fetching.{download_plan, download_row}

-- ---- what can be sent

-- the text of a download that can be sent is the text of a path
fetch_text : (offset : Option ℕ) (text : List ℕ) (how : How) → can_be_sent (fetch offset text how) ≡ true → IsPathText text
fetch_text None text how can = can
fetch_text (Some at) text how can = (and_parts (is_path_text text) (is_number at) can).0

-- the offset of a download that can be sent is less than 10 ^ 18
fetch_few : (offset : Option ℕ) (text : List ℕ) (how : How) → can_be_sent (fetch offset text how) ≡ true → (at : ℕ) → offset ≡ Some at → at < 10 ^ 18
fetch_few offset text how can at is = ltb-true at (10 ^ 18) (and_parts (is_path_text text) (is_number at) (subst (λ o. can_be_sent (fetch o text how) ≡ true) is can)).1

-- ---- representations with markers

abbrev joined : Kind → Structure → Mode → Representation
joined kind structure mode = record { kind = kind; structure = structure; mode = mode }

-- of all kinds, structures and modes only image files in blocks have markers
only_marked : (kind : Kind) (structure : Structure) (mode : Mode) → has_markers (joined kind structure mode) ≡ true → joined kind structure mode ≡ image_blocks
only_marked Kinds.Image Structures.File Modes.Block is = refl
only_marked kind structure mode is = absurd (cc)

-- a representation with markers is that of image files in blocks
pub marked_is : (r : Representation) → has_markers r ≡ true → r ≡ image_blocks
marked_is r is = only_marked r.kind r.structure r.mode is

-- a refusal, or else none, is that refusal
pub or_none : (one : Option Refusal) → option_or one None ≡ one
or_none None = refl
or_none (Some why) = refl

-- ---- files are short

-- a file of a sound state has no more octets than a map may have
short-file : (state : State) (path : Names) → IsSound state → length (octets_or_none (part state) path) ≤ most_octets
unfolding octets_at
short-file state path sound = by_node (node_at (part state) path) refl
  where
    by_node : (node : Option Node) → node_at (part state) path ≡ node → length (unwrap_or (of_node octets_of node) []) ≤ most_octets
    by_node None is = omega arith
    by_node (Some Dir) is = omega arith
    by_node (Some (File octets moment)) is = (sound.files path octets moment is).1

module _ (state : State) (offset : Option ℕ) (text : List ℕ) (how : How) where
  abbrev op : Op (List ℕ)
  op = fetch offset text how

  abbrev place : ℕ
  place = unwrap_or (place_in_file state offset text how) 0

  -- what is asked for
  abbrev content : List ℕ
  content = content_from state offset text how

  -- ---- refusals

  -- where REST is not refused, the direct run refuses the download for the reason of RETR
  refusal_is : IsPlacedAt how.representation offset → refusal state op ≡ why_not state offset text how
  refusal_is placed = by_offset offset placed
    where
      by_offset : (offset : Option ℕ) → IsPlacedAt how.representation offset → refusal state (fetch offset text how) ≡ why_not state offset text how
      by_offset None placed = sym (or_none _)
      by_offset (Some at) placed = ap (λ o. or_refused o (refused_from state text how at)) placed

  -- the direct run answers with the octets asked for, and leaves the state as it was
  done_is : (moment : ℕ) → done state op moment ≡ (Octets content, state)
  done_is moment = by_offset offset
    where
      by_offset : (offset : Option ℕ) → done state (fetch offset text how) moment ≡ (Octets (content_from state offset text how), state)
      by_offset None = refl
      by_offset (Some at) = refl

  -- ---- the place in the file

  -- a place, or 0 if there is none, is within the file, if each place that is found is
  within_by : (found : Option ℕ) → ((at : ℕ) → found ≡ Some at → at ≤ length (file_of state text)) → unwrap_or found 0 ≤ length (file_of state text)
  within_by None within = omega arith
  within_by (Some at) within = within at refl

  -- the place where the download begins is within the file
  place_within : place ≤ length (file_of state text)
  place_within = by_offset offset
    where
      by_offset : (offset : Option ℕ) → unwrap_or (place_in_file state offset text how) 0 ≤ length (file_of state text)
      by_offset None = omega arith
      by_offset (Some at) =
          within_by (place_at state (named state text) how at) (λ place is. (led how.representation.kind (file_of state text) at place (found_place how.representation.kind (file_of state text) at place is)).within)

  -- in a sound state the place and the number of octets asked for are together less than 2 ^ 64
  pub few_octets : IsSound state → place + length content < 2 ^ 64
  few_octets sound =
      let short = short-file state (named state text) sound in
      let long : length content ≡ length (file_of state text) - place = length-drop place (file_of state text) in
      omega (arith, short, long, place_within)

  -- ---- the whole text

  -- in a sound state the text of the link gives the octets asked for, with markers and without
  wire_by : IsSound state → (b : Bool) → has_markers how.representation ≡ b
      → GivesFile how.representation (if b then marked_text place content else written_wire how.representation.mode (form_of how.representation) content) content
  wire_by sound true is =
      let Gives : Representation → Type 0 = λ r. GivesFile r (marked_text place content) content in
      subst Gives (sym (marked_is how.representation is)) (marked_wire_gives_file place content (few_octets sound))
  wire_by sound false is = wire_gives_file how.representation content

  -- in a sound state the octets of the link give what is asked for
  pub wire_gives : IsSound state → GivesFile how.representation (fetched_wire state offset text how) content
  wire_gives sound = wire_by sound (has_markers how.representation) refl

  -- the answer of a download whose octets have come is these octets, with an offset and without
  octets_answer : (offset : Option ℕ) (octets : List ℕ) → content_answer (fetch offset text how) octets ≡ Some (Octets octets)
  octets_answer None octets = refl
  octets_answer (Some at) octets = refl

  -- behind all the octets of the link, a clean end and a 226 the client answers with what is asked for
  judged_so : (mark : Option ℕ) → IsSound state
      → judged Endings.Clean Aborts.Unsent 226 op (Receiving (decoder_of how.representation (fetched_wire state offset text how)) mark) ≡ Some (Octets content)
  judged_so mark sound =
      let came : List ℕ = fetched_wire state offset text how in
      let gives = wire_gives sound in
      ap (λ (b : Bool). if b then content_answer op (ended (decoder_of how.representation came)).content else cut_answer op (Receiving (decoder_of how.representation came) mark)) gives.whole
      ∙ octets_answer offset (ended (decoder_of how.representation came)).content ∙ ap (λ octets. Some (Octets octets)) gives.content

  -- in a representation with markers an offset counts the octets of the file
  marked_place : (at found : ℕ) → has_markers how.representation ≡ true → place_at state (named state text) how at ≡ Some found → found ≡ at
  marked_place at found marked is =
      let kind : how.representation.kind ≡ Kinds.Image = ap (λ r. r.kind) (marked_is how.representation marked) in
      let lies : IsPlaceOfOffset how.representation.kind (file_of state text) at found =
      led how.representation.kind (file_of state text) at found (found_place how.representation.kind (file_of state text) at found is) in
      let counted : size_in how.representation.kind (take found (file_of state text)) ≡ at = sym (size_piece how.representation.kind (take found (file_of state text))) ∙ lies.goes in
      let long : length (take found (file_of state text)) ≡ at = ap (λ k. size_in k (take found (file_of state text))) (sym kind) ∙ counted in
      let short : length (take found (file_of state text)) ≡ min found (length (file_of state text)) = length-take found (file_of state text) in
      omega (arith, long, short, lies.within)

  -- with markers a download that is not refused begins at its offset, or at 0 if it has none
  start_is : (offset : Option ℕ) → why_not state offset text how ≡ None → has_markers how.representation ≡ true → unwrap_or (place_in_file state offset text how) 0 ≡ unwrap_or offset 0
  start_is None none marked = refl
  start_is (Some at) none marked = by_place (place_at state (named state text) how at) refl
    where
      by_place : (found : Option ℕ) → place_at state (named state text) how at ≡ found → unwrap_or (place_at state (named state text) how at) 0 ≡ at
      by_place None missing = absurd (nowhere (refused_file state text) (ap (λ o. or_refused (refused_file state text) (refused_there (misplaced o))) (sym missing) ∙ none))
        where
          nowhere : (one : Option Refusal) → or_refused one (Some Refusals.Unavailable) ≡ None → ⊥
          nowhere None is = absurd (cc)
          nowhere (Some why) is = absurd (cc)
      by_place (Some found) is = ap (λ o. unwrap_or o 0) is ∙ marked_place at found marked is

  -- the text of the outcome is the one that the server sends
  text_by : why_not state offset text how ≡ None → (b : Bool) → has_markers how.representation ≡ b
      → written b how.representation (unwrap_or offset 0) content ≡ (if b then marked_text place content else written_wire how.representation.mode (form_of how.representation) content)
  text_by none true is = ap (λ start. marked_text start content) (sym (start_is offset none is))
  text_by none false is = refl

  -- what is written of a download that is not refused, from its offset on, is the octets of the link
  pub text_is : why_not state offset text how ≡ None → written (has_markers how.representation) how.representation (unwrap_or offset 0) content ≡ fetched_wire state offset text how
  text_is none = text_by none (has_markers how.representation) refl

  -- ---- the download that the world knows

  -- the octets of the link are the text of the download that the world knows, if it is not refused
  sent_so : why_not state offset text how ≡ None → IsKnownText (download_ask offset text how) state
  sent_so none = by_offset offset (text_is none)
    where
      by_offset : (offset : Option ℕ)
          → written (has_markers how.representation) how.representation (unwrap_or offset 0) (content_from state offset text how) ≡ fetched_wire state offset text how
          → IsKnownText (download_ask offset text how) state
      by_offset None is = record { start = 0; octets = content_from state None text how; down = refl; text = is }
      by_offset (Some at) is = record { start = at; octets = content_from state (Some at) text how; down = refl; text = is }

  -- a download has no upload
  no_upload : upload_of state op ≡ None
  no_upload = by_offset offset
    where
      by_offset : (offset : Option ℕ) → upload_of state (fetch offset text how) ≡ None
      by_offset None = refl
      by_offset (Some at) = refl

-- an offset that has no meaning in the representation is the reason for which the direct run refuses the download
unplaced_is : (state : State) (offset : Option ℕ) (text : List ℕ) (how : How) (at : ℕ) (why : Refusal) → offset ≡ Some at
    → offset_refusal at (how_in_force how.representation) ≡ Some why → refusal state (fetch offset text how) ≡ Some why
unplaced_is state offset text how at why is some = ap (λ o. refusal state (fetch o text how)) is ∙ ap (λ o. or_refused o (refused_from state text how at)) some

-- a download of all octets is never said to have enough
none_filled : {X : Type 0} (offset : Option ℕ) (text : List ℕ) (how : How) (came : List ℕ) → is_filled (fetch offset text how) how.representation came ≡ true → X
none_filled None text how came enough = absurd (cc)
none_filled (Some at) text how came enough = absurd (cc)

-- of a download that can be sent the client reads the answer of the direct run out of the whole octets
download_answer : (offset : Option ℕ) (text : List ℕ) (how : How) → can_be_sent (fetch offset text how) ≡ true → HasAnswer (download_ask offset text how)
download_answer offset text how can = record {
  refused = λ state placed. refusal_is state offset text how placed;
  done_so = λ state moment. done_is state offset text how moment;
  whole = λ state mark sound known none. judged_so state offset text how mark sound;
  filled = λ state came sound none front enough. none_filled offset text how came enough;
  no_upload = λ state. no_upload state offset text how;
  sent_so = λ state none. sent_so state offset text how none;
}

-- all that is so of a download
pub download_is_ask : (offset : Option ℕ) (text : List ℕ) (how : How) → can_be_sent (fetch offset text how) ≡ true → IsAsk (download_ask offset text how)
download_is_ask offset text how can = record {
  plan = download_plan offset text how;
  row = download_row offset text how (fetch_text offset text how can) (fetch_few offset text how can);
  refuses = record {
    can = can;
    refused = λ state why placed is. refusal_is state offset text how placed ∙ is;
    unplaced = λ state at why is some. unplaced_is state offset text how at why is some;
  };
  way = download_answer offset text how can;
}
