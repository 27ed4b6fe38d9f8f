-- A decoder counts the octets that it reads: of octets that are a front of a whole text it has read as many as they are.
use Rattle.std.proofs.Common.{◌≡◌, ℕ, suc, ◌+◌, Bool, true, false, true≢false, List, [], ◌∷◌, ◌++◌, length, ◌==◌, Option, Some, None, refl, sym, ap, subst, ◌∙◌, arith}
use Rattle.std.specs.Option.{is_some}
use Rattle.std.specs.Prelude.{⊤, ◌-◌, ◌&&◌, if◌then◌else◌, nat_le, nat_lt}
use Rattle.ftp_client_model.specs.Dialogue.{judged}
use Rattle.ftp_client_model.specs.Octets.{broken_answer, content_answer, cut_answer, has_settled}
use Rattle.ftp_client_model.specs.Plan.{count_of}
use Rattle.ftp_client_model.specs.View.{Receiving}
use Rattle.ftp_client_model.specs.declared.client.Abort.TheVariants as Aborts
use Rattle.ftp_client_model.specs.declared.client.Ending.TheVariants as Endings
use Rattle.ftp_pieces.specs.Machine.{after}
use Rattle.ftp_mode.specs.Block.{block_count as count_in, has}
use Rattle.ftp_mode.specs.Count.{next}
use Rattle.ftp_mode.specs.Fault.{is_no_length}
use Rattle.ftp_mode.specs.Reading.{Place, Reading, after_block, at_head, at_high, at_low, data_begins, ended, escaped, failed, going, inside, marker_begins, marking, outside, place_step, plain, read_step, reader}
use Rattle.ftp_mode.specs.Stream.{code_ends, is_code}
use Rattle.ftp_mode.specs.declared.descriptor.TheConstants.{RESTART_MARKER, SUSPECTED_ERRORS}
use Rattle.ftp_mode.specs.declared.fault.FrameFault.{FrameFault}
use Rattle.ftp_mode.specs.declared.fault.FrameFault.TheVariants as Faults
use Rattle.ftp_operation.specs.Answer.{Broken, Said}
use Rattle.ftp_operation.specs.declared.op.Op.{Op}
use Rattle.ftp_settings.specs.Marker.{is_marker_octet}
use Rattle.ftp_settings.specs.declared.marker.TheConstants.{MARKER_LIMIT}
use Rattle.ftp_settings.specs.declared.representation.Representation.{Representation}
use Rattle.ftp_wire.specs.Decoder.{Decoder, decoded, decoded_octet, decoder_of, ended as file_ended, fault_in, fault_of, is_whole, no_octets}
use Rattle.ftp_wire.proofs.DecoderLemmas.{decodes}
use Rattle.laws_world.specs.World.{counted}
use Rattle.laws_breaks.specs.downloads.Actions.{HasRead}
use Rattle.laws_breaks.proofs.downloads.Late.{IsFew}

-- so many were read, or one of them stands in no text
abbrev pub IsAt : Reading → ℕ → Type 0
IsAt (going count at) n = count ≡ counted n
IsAt (failed fault) n = ⊤

next_counted : (count n : ℕ) → count ≡ counted n → next count ≡ counted (n + 1)
next_counted count n is = omega (arith, is)

-- one more is read
either_at : (n : ℕ) (one other : Reading) → IsAt one n → IsAt other n → (first : Bool) → IsAt (if first then one else other) n
either_at n one other is too true = is
either_at n one other is too false = too

place_reads : (at : Place) (count octet n : ℕ) → count ≡ counted n → IsAt (place_step count at octet) (n + 1)
place_reads plain count octet n is = next_counted count n is
place_reads outside count octet n is = next_counted count n is
place_reads escaped count octet n is =
    either_at (n + 1) (going (next count) (if code_ends octet then ended else outside)) (failed (Faults.BadEscape count)) (next_counted count n is) tt
    (is_code octet)
place_reads at_head count octet n is =
    either_at (n + 1) (failed (Faults.Suspect count)) (going (next count) (at_high octet)) tt (next_counted count n is) (has octet SUSPECTED_ERRORS)
place_reads (at_high d) count octet n is = next_counted count n is
place_reads (at_low d high) count octet n is =
    either_at (n + 1) (marker_begins count d (count_in high octet)) (data_begins count d (count_in high octet))
    (either_at (n + 1) (failed (Faults.BadMarker (count - 2))) (going (next count) (marking d (count_in high octet) [])) tt (next_counted count n is)
    (is_no_length (count_in high octet)))
    (next_counted count n is) (has d RESTART_MARKER)
place_reads (inside d left) count octet n is = next_counted count n is
place_reads (marking d left text) count octet n is =
    either_at (n + 1) (going (next count) (if left == 1 then after_block d else marking d (left - 1) (text ++ octet ∷ [])))
    (failed (Faults.BadMarker count)) (next_counted count n is) tt (is_marker_octet octet && nat_lt (length text) MARKER_LIMIT)
place_reads ended count octet n is = next_counted count n is

pub step_reads : (r : Reading) (octet n : ℕ) → IsAt r n → IsAt (read_step r octet) (n + 1)
step_reads (going count at) octet n is = place_reads at count octet n is
step_reads (failed fault) octet n is = tt

-- and all
all_read : (octets : List ℕ) (r : Reading) (n : ℕ) → IsAt r n → IsAt (after reader r octets) (n + length octets)
all_read [] r n is = subst (IsAt r) (omega arith) is
all_read (octet ∷ octets) r n is =
    let more : n + 1 + length octets ≡ n + suc (length octets) = omega arith in
    subst (IsAt (after reader (read_step r octet) octets)) more (all_read octets (read_step r octet) (n + 1) (step_reads r octet n is))

-- a decoder that met no fault has read all that came
pub faultless_read : (settings : Representation) (came : List ℕ) → fault_of (decoder_of settings came) ≡ None
    → HasRead (decoder_of settings came) (counted (length came))
faultless_read settings came none =
    let first : Reading = (no_octets settings).reading in
    by (after reader first came) (decodes (no_octets settings) came).reading (subst (IsAt (after reader first came)) none_first (all_read came first 0 refl))
  where
    none_first : 0 + length came ≡ length came
    none_first = omega arith

    by : (r : Reading) → (decoder_of settings came).reading ≡ r → IsAt r (length came) → HasRead (decoder_of settings came) (counted (length came))
    by (going count at) here is = (at, here ∙ ap (λ n. going n at) is)
    by (failed fault) here is = absurd (true≢false (ap is_some (sym (ap fault_in here) ∙ none)))

-- ---- a text that is answered

decoded_both : (front given : List ℕ) (d : Decoder) → decoded d (front ++ given) ≡ decoded (decoded d front) given
decoded_both [] given d = refl
decoded_both (octet ∷ front) given d = decoded_both front given (decoded_octet d octet)

-- one that stands in no text settles no more, and ends no file
failed_keeps : (fault : FrameFault) (octets : List ℕ) (d : Decoder) → (decoded (record d { reading = failed fault }) octets).content ≡ d.content
failed_keeps fault [] d = refl
failed_keeps fault (octet ∷ octets) d = failed_keeps fault octets d

failed_ends : (fault : FrameFault) (octets : List ℕ) (d : Decoder) → is_whole (decoded (record d { reading = failed fault }) octets) ≡ false
failed_ends fault [] d = refl
failed_ends fault (octet ∷ octets) d = failed_ends fault octets d

settled_as : (asked : Option ℕ) (d e : Decoder) (mark : Option ℕ) → e.content ≡ d.content → has_settled asked (Receiving d mark) ≡ false
    → has_settled asked (Receiving e mark) ≡ false
settled_as None d e mark same few = refl
settled_as (Some count) d e mark same few = ap (λ o. nat_le count (length o)) same ∙ few

module _ (op : Op (List ℕ)) (settings : Representation) (came rest wire : List ℕ) (is : came ++ rest ≡ wire) (few : IsFew op (decoder_of settings came))
    (said : Said)
    (answers : (mark : Option ℕ) → judged Endings.Clean Aborts.Unsent 226 op (Receiving (decoder_of settings wire) mark) ≡ Some said) where
  abbrev d : Decoder
  d = decoder_of settings came

  abbrev all : Decoder
  all = decoder_of settings wire

  whole_is : all ≡ decoded d rest
  whole_is = ap (decoder_of settings) (sym is) ∙ decoded_both came rest (no_octets settings)

  -- one that stands in no text, and of which less came than was asked for, is answered by its last marker
  module _ (fault : FrameFault) (here : d.reading ≡ failed fault) where
    settles : all.content ≡ d.content
    settles =
        ap (λ (x : Decoder). x.content) whole_is ∙ ap (λ r. (decoded (record d { reading = r }) rest).content) here ∙ failed_keeps fault rest d

    unended : is_whole all ≡ false
    unended = ap is_whole whole_is ∙ ap (λ r. is_whole (decoded (record d { reading = r }) rest)) here ∙ failed_ends fault rest d

    short : (mark : Option ℕ) → judged Endings.Clean Aborts.Unsent 226 op (Receiving all mark) ≡ Some (broken_answer (Receiving all mark))
    short mark =
        ap (λ w. if w then content_answer op (file_ended all).content else cut_answer op (Receiving all mark)) unended
        ∙ ap (λ enough. if enough then content_answer op all.content else Some (broken_answer (Receiving all mark)))
        (settled_as (count_of op) d all mark settles (few mark))

    abbrev is_marked : Option Said → Bool
    is_marked (Some (Broken got (Some mark))) = true
    is_marked said = false

    not_failed : ⊥
    not_failed = true≢false (ap is_marked (sym (short (Some 0)) ∙ answers (Some 0) ∙ sym (answers None) ∙ short None))

  -- where a clean end of the text is answered alike whatever marker came, a decoder of a front of it, less than was asked for, has read that front
  pub answered_read : HasRead d (counted (length came))
  answered_read = faultless_read settings came (by d.reading refl)
    where
      by : (r : Reading) → d.reading ≡ r → fault_of d ≡ None
      by (going count at) here = ap fault_in here
      by (failed fault) here = absurd (not_failed fault here)
