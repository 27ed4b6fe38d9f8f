-- A Peek as what is asked for: the client reads its answer out of the whole octets, and out of a front of them that is enough.
use Rattle.std.proofs.Common.{◌≡◌, ℕ, zero, suc, ◌≤◌, Bool, true, false, List, [], ◌∷◌, ◌++◌, length, take, Some, None, refl, sym, ap, subst, ◌∙◌, arith, leb-true}
use Rattle.std.specs.Prelude.{if◌then◌else◌}
use Rattle.std.proofs.lemmas.Bool.{and_parts}
use Rattle.ftp_pieces.specs.Machine.{IsFront}
use Rattle.ftp_mode.specs.Block.{marked_text}
use Rattle.ftp_mode.specs.Wire.{wire as written_wire}
use Rattle.ftp_wire.specs.Decoder.{decoder_of, ended}
use Rattle.ftp_wire.proofs.DecoderLemmas.{front_gives, marked_front_gives}
use Rattle.ftp_operation.specs.Answer.{Octets}
use Rattle.ftp_operation.specs.Operation.{can_be_sent, is_number}
use Rattle.ftp_operation.specs.declared.op.How.{How}
use Rattle.ftp_operation.specs.declared.op.Op.TheVariants as Ops
use Rattle.ftp_path.specs.Path.{is_path_text}
use Rattle.ftp_settings.specs.Representation.{form_of, has_markers}
use Rattle.ftp_settings.specs.declared.representation.Representation.{Representation}
use Rattle.ftp_direct.specs.Direct.{State}
use Rattle.ftp_client_model.specs.Octets.{content_answer, cut_answer}
use Rattle.ftp_client_model.specs.View.{Receiving}
use Rattle.laws_dialogues.specs.Dialogue.{IsSound}
use Rattle.laws_dialogues.specs.Fetches.{HasAnswer, IsAsk, content_from, fetched_wire}
use Rattle.laws_dialogues.specs.Peeks.{peek_ask}
use Rattle.laws_dialogues.proofs.Fetching.{download_row}
use Rattle.laws_agreement.proofs.Downloads.{few_octets, marked_is, or_none, text_is, wire_gives}

-- the first octets of a front that has so many are those of the whole
take_front : (count : ℕ) (front rest : List ℕ) → count ≤ length front → take count front ≡ take count (front ++ rest)
take_front zero front rest few = refl
take_front (suc count) [] rest few = absurd (omega (arith, few))
take_front (suc count) (octet ∷ front) rest few =
    ap (λ l. octet ∷ l) (take_front count front rest (let less : count ≤ length front = omega (arith, few) in less))

module _ (state : State) (text : List ℕ) (count : ℕ) (how : How) where
  -- what is in the file
  abbrev content : List ℕ
  content = content_from state None text how

  -- what is decoded of a front of the octets is a front of the file
  front_by : IsSound state → (came : List ℕ) (b : Bool) → has_markers how.representation ≡ b
      → IsFront came (if b then marked_text 0 content else written_wire how.representation.mode (form_of how.representation) content)
      → IsFront (decoder_of how.representation came).content content
  front_by sound came true is front =
      let Fronts : Representation → Type 0 = λ r. IsFront (decoder_of r came).content content in
      subst Fronts (sym (marked_is how.representation is)) (marked_front_gives 0 content came (few_octets state None text how sound) front)
  front_by sound came false is front = front_gives how.representation content came front

  -- a front that settles enough octets gives the first octets of the file
  filled_so : (came : List ℕ) → IsSound state → IsFront came (fetched_wire state None text how) → count ≤ length (decoder_of how.representation came).content
      → take count (decoder_of how.representation came).content ≡ take count content
  filled_so came sound front enough =
      let settled = front_by sound came (has_markers how.representation) refl front in
      take_front count (decoder_of how.representation came).content settled.0 enough ∙ ap (take count) settled.1

-- of a Peek the client reads the answer of the direct run
peek_answer : (text : List ℕ) (count : ℕ) (how : How) → HasAnswer (peek_ask text count how)
peek_answer text count how = record {
  refused = λ state placed. sym (or_none _);
  done_so = λ state moment. refl;
  whole = λ state mark sound known none.
      let came : List ℕ = fetched_wire state None text how in
      let gives = wire_gives state None text how sound in
      ap (λ (b : Bool). if b then content_answer (Ops.Peek text count how) (ended (decoder_of how.representation came)).content
      else cut_answer (Ops.Peek text count how) (Receiving (decoder_of how.representation came) mark)) gives.whole
      ∙ ap (λ octets. Some (Octets (take count octets))) gives.content;
  filled =
      λ state came sound none front enough. ap (λ octets. Some (Octets octets))
      (filled_so state text count how came sound front (leb-true count (length (decoder_of how.representation came).content) enough));
  no_upload = λ state. refl;
  sent_so = λ state none. record { start = 0; octets = content_from state None text how; down = refl; text = text_is state None text how none };
}

-- all that is so of a Peek
pub peek_is_ask : (text : List ℕ) (count : ℕ) (how : How) → can_be_sent (Ops.Peek text count how) ≡ true → IsAsk (peek_ask text count how)
peek_is_ask text count how can =
    let row = download_row None text how (and_parts (is_path_text text) (is_number count) can).0 (λ at is. absurd (cc)) in
    record {
      plan = record { how_is = refl; asks = refl; offset_is = refl; own = refl; flow = refl };
      row = record { typed = row.typed; stated = row.stated; other = row.other; few = row.few; acts = row.acts };
      refuses = record {
        can = can;
        refused = λ state why placed is. (peek_answer text count how).refused state placed ∙ is;
        unplaced = λ state at why is some. absurd (cc);
      };
      way = peek_answer text count how;
    }
