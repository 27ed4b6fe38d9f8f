-- The decoder over the one text of a file.
use Rattle.std.proofs.Common.{◌≡◌, ℕ, List, [], ◌∷◌, ◌++◌, Bool, true, false, refl, sym, ap, subst, ◌∙◌, append-nil, map}
use Rattle.std.specs.Prelude.{IsTrue}
use Rattle.std.specs.List.{flat_map}
use Rattle.ftp_pieces.specs.Machine.{after, gives}
use Rattle.ftp_repr.specs.Signs.{Sign, end_file, signs_of, signs_of_octet}
use Rattle.ftp_settings.specs.Representation.{Form, form_of}
use Rattle.ftp_repr.specs.Receiving.{Taking, fresh, receiving}
use Rattle.ftp_settings.specs.declared.representation.Kind.{Kind}
use Rattle.ftp_settings.specs.declared.representation.Structure.{Structure}
use Rattle.ftp_settings.specs.declared.representation.Structure.TheVariants.{File, Record}
use Rattle.ftp_pieces.proofs.MachineLemmas.{after-append, gives-append}
use Rattle.ftp_repr.proofs.ContentLemmas.{gives-receiving, content-signs_of}
use Rattle.ftp_mode.specs.Said.{Said, says, file_signs}
use Rattle.ftp_mode.specs.Reading.{Reading, going, failed, reader, start, is_complete}
use Rattle.ftp_mode.specs.Wire.{wire}
use Rattle.ftp_mode.specs.Laws.{ReadsTo, unsaid_end}
use Rattle.ftp_mode.specs.Block.{marked_text}
use Rattle.ftp_settings.specs.declared.representation.Mode.{Mode}
use Rattle.ftp_settings.specs.declared.representation.Mode.TheVariants.{Stream, Block as Blocks}
use Rattle.ftp_mode.proofs.LawLemmas.{reads_wire, marked_reads}
use Rattle.ftp_mode.proofs.ExactLemmas.{reads_to}
use Rattle.ftp_mode.proofs.TextLemmas.{file-row_said}
use Rattle.ftp_wire.specs.Decoder.{no_octets, is_ended_in, decoder_of, image_blocks, GivesFile, WireGivesFile, MarkedWireGivesFile}
use Rattle.ftp_settings.specs.declared.representation.Representation.{Representation}
use Rattle.ftp_wire.proofs.DecoderLemmas.{Decodes, decodes, file_signs-append}

-- a reader that is complete is one at which the file may end
whole_reading : (r : Reading) → is_complete r → IsTrue (is_ended_in r)
whole_reading (going n at) c = c
whole_reading (failed fault) c = absurd c

-- behind the end of file nothing is given
over_gives : (f : Form) (held ended : Bool) → (receiving f).out ((receiving f).step (record { held = held; ended = ended }) end_file) end_file ≡ []
over_gives f held true = refl
over_gives f held false = refl

behind_end : (f : Form) (ss before : List Sign) → ss ≡ before ++ end_file ∷ [] → (receiving f).out (after (receiving f) fresh ss) end_file ≡ []
behind_end f ss before is =
    let t : Taking = after (receiving f) fresh before in
    let here : after (receiving f) fresh ss ≡ (receiving f).step t end_file =
    ap (λ l. after (receiving f) fresh l) is ∙ after-append (receiving f) fresh before (end_file ∷ []) in
    ap (λ u. (receiving f).out u end_file) here ∙ over_gives f t.held t.ended

-- what the end of the connection settles is what an end of file settles that it says
settles_end : (m : Mode) (k : Kind) (s : Structure) (ss : List Sign) (b : List ℕ)
    → let f : Form = record { kind = k; structure = s } in ss ++ file_signs (unsaid_end m s) ≡ signs_of f b
    → (receiving f).out (after (receiving f) fresh ss) end_file ≡ gives (receiving f) (after (receiving f) fresh ss) (file_signs (unsaid_end m s))
settles_end Stream k File ss b e =
    let f : Form = record { kind = k; structure = File } in sym (append-nil ((receiving f).out (after (receiving f) fresh ss) end_file))
settles_end Stream k Record ss b e =
    let f : Form = record { kind = k; structure = Record } in behind_end f ss (flat_map (signs_of_octet f) b) (sym (append-nil ss) ∙ e)
settles_end Blocks k s ss b e =
    let f : Form = record { kind = k; structure = s } in behind_end f ss (flat_map (signs_of_octet f) b) (sym (append-nil ss) ∙ e)

-- a wire that reads as the signs of a file gives the file
pub gives_file : (settings : Representation) (b w : List ℕ) (said : List Said) → ReadsTo settings.mode settings.structure w said
    → file_signs said ≡ signs_of (form_of settings) b → GivesFile settings w b
gives_file settings b w said r is =
    let f : Form = form_of settings in
    let d : Decodes (no_octets settings) (decoder_of settings w) w = decodes (no_octets settings) w in
    let ss : List Sign = file_signs (gives reader (start settings.mode settings.structure) w) in
    let end : List Sign = file_signs (unsaid_end settings.mode settings.structure) in
    let all : ss ++ end ≡ signs_of f b =
    sym (file_signs-append (gives reader (start settings.mode settings.structure) w) (unsaid_end settings.mode settings.structure))
    ∙ ap file_signs (sym r.says) ∙ is in
    let Whole : Reading → Type 0 = λ u. IsTrue (is_ended_in u) in
    record {
      whole = subst Whole (sym d.reading) (whole_reading (after reader (start settings.mode settings.structure) w) r.complete);
      content =
          ap (λ l. l ++ (receiving (decoder_of settings w).form).out (decoder_of settings w).taking end_file) d.settles
          ∙ ap (λ g. gives (receiving f) fresh ss ++ (receiving g).out (decoder_of settings w).taking end_file) d.form
          ∙ ap (λ t. gives (receiving f) fresh ss ++ (receiving f).out t end_file) d.taking
          ∙ ap (λ l. gives (receiving f) fresh ss ++ l) (settles_end settings.mode settings.kind settings.structure ss b all)
          ∙ sym (gives-append (receiving f) fresh ss end)
          ∙ ap (λ l. gives (receiving f) fresh l) all
          ∙ gives-receiving f (signs_of f b) ∙ content-signs_of f b;
    }

pub wire_gives_file : WireGivesFile
wire_gives_file settings b =
    let f : Form = form_of settings in
    gives_file settings b (wire settings.mode f b) (map (λ x. says x) (signs_of f b)) (reads_to settings.mode settings.structure (wire settings.mode f b)
    (map (λ x. says x) (signs_of f b)) (reads_wire settings.mode f b)) (file-row_said (signs_of f b))

pub marked_wire_gives_file : MarkedWireGivesFile
marked_wire_gives_file from b few =
    let row = marked_reads from b [] few in
    let P : List ℕ → Type 0 = λ w. GivesFile image_blocks w b in
    subst P (append-nil (marked_text from b)) (gives_file image_blocks b (marked_text from b ++ []) row.0 (reads_to Blocks File (marked_text from b ++ []) row.0 row.1) row.2)
