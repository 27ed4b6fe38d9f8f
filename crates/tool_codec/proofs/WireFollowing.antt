-- A wire that is read, from its start to its end.
use Rattle.std.proofs.Common.{◌≡◌, ℕ, ◌+◌, ◌*◌, ◌^◌, ◌≤◌, ◌<◌, ◌∙◌, Option, List, [], ◌++◌, length, refl, sym, ap, subst, arith, append-nil, length-append, Result, Ok, Err, inl, inr}
use Rattle.std.specs.Prelude.{Bool, IsErr, false, true}
use Rattle.std.proofs.KnownBytes.{Appends-trans, Consumes-trans, Consumes-kept}
use Rattle.std.specs.Io.KnownBytes.{Appends, Consumes, IsAtEnd, Keeps}
use Rattle.ftp_pieces.specs.Machine.{IsFront, after}
use Rattle.ftp_repr.specs.Received.{receiver_form, taking_at_stage}
use Rattle.ftp_repr.proofs.ContentLemmas.{content_front}
use Rattle.ftp_pieces.proofs.MachineLemmas.{gives-front}
use Rattle.ftp_mode.specs.declared.fault.FrameFault.{FrameFault}
use Rattle.ftp_mode.specs.Said.{Said, file_signs}
use Rattle.ftp_mode.specs.Reading.{reader, start}
use Rattle.ftp_mode.specs.Deframing.{reading, owed}
use Rattle.ftp_mode.specs.Laws.{settled_content, ended_content}
use Rattle.ftp_ports.proofs.Fronts.{Appends-front, Appends-then-front}
use Rattle.tool_codec.proofs.Hearing.{file-append}
use Rattle.tool_codec.proofs.WireEnding.{settles_of, reads_of, stops_of}
use Rattle.ftp_ports.specs.Beginning.{AppendsFront}
use Rattle.ftp_settings.specs.Representation.{form_of}
use Rattle.tool_codec.specs.Receiving.{said_by, StandsAfter, FaultyAfter, WholeAfter, HearsAfter}
use Rattle.tool_codec.specs.WireReading.{ReadsFile, ReadsFault, ReadsFront, ReadsWireTo}
use Rattle.ftp_settings.specs.declared.representation.Representation.{Representation}
use Rattle.ftp_ports.specs.declared.pieces.Failed.{Failed}
use Rattle.tool_codec.specs.declared.receiving.WireState.{WireState}
use Rattle.tool_codec.specs.declared.receiving.WireState.TheVariants.{More, Whole, Faulty}
use Rattle.tool_codec.specs.declared.receiving.Receiving.{Receiving}

-- octets of the wire were read, and all that they settle was written
pub record WireFollows {A : Type 0} (r : Representation) (before after old new : Option (List ℕ)) (turn : ℕ) (now : Receiving A) : Type 0 where
  pub wire : List ℕ
  pub read : Consumes before after wire
  pub short : length wire ≤ 4096 * turn
  pub written : List ℕ
  pub wrote : Appends old new written
  pub stands : StandsAfter r wire written now
  pub empty : now.settled.items ≡ []

-- a receiving whose kept octets were written
written_out : {A : Type 0} (r : Representation) (wire written : List ℕ) (old new : Receiving A) → StandsAfter r wire written old
    → new.deframer ≡ old.deframer → new.receiver ≡ old.receiver → new.settled.items ≡ [] → StandsAfter r wire (written ++ old.settled.items) new
written_out r wire written old new stands deframer receiver empty = record {
  going = stands.going;
  state = ap reading deframer ∙ stands.state;
  owes = ap owed deframer ∙ stands.owes;
  form = ap receiver_form receiver ∙ stands.form;
  taken = ap taking_at_stage receiver ∙ stands.taken;
  settled = ap (λ l. (written ++ old.settled.items) ++ l) empty ∙ append-nil (written ++ old.settled.items) ∙ stands.settled;
}

-- what is written is what is settled
all_written : {A : Type 0} (r : Representation) (before after old new : Option (List ℕ)) (turn : ℕ) (now : Receiving A)
    → (follows : WireFollows r before after old new turn now) → follows.written ≡ settled_content r.mode (form_of r) follows.wire
all_written r before after old new turn now follows =
    sym (ap (λ l. follows.written ++ l) follows.empty ∙ append-nil follows.written) ∙ follows.stands.settled

signs_front : (a b : List Said) → IsFront a b → IsFront (file_signs a) (file_signs b)
signs_front a b front = (file_signs front.0, sym (file-append a front.0) ∙ ap file_signs front.1)

-- what octets settle is a beginning of what these and more settle
settled_front : (r : Representation) (w xs : List ℕ) → IsFront (settled_content r.mode (form_of r) w) (settled_content r.mode (form_of r) (w ++ xs))
settled_front r w xs =
    content_front (form_of r) (file_signs (said_by r w)) (file_signs (said_by r (w ++ xs)))
    (signs_front (said_by r w) (said_by r (w ++ xs)) (gives-front reader (start r.mode r.structure) w (w ++ xs) (xs, refl)))

fits_more : (w xs : List ℕ) (turn : ℕ) → length w ≤ 4096 * turn → turn < 1099511627776 → length xs ≤ 4096 → length (w ++ xs) < 2 ^ 64
fits_more w xs turn short turns few = let e = length-append w xs in omega (arith, e, short, turns, few)

-- no further read gave anything
pub wire_breaks_between : {A : Type 0} (r : Representation) (before mid after old now : Option (List ℕ)) (turn : ℕ) (receiving : Receiving A)
    → WireFollows r before mid old now turn receiving → turn ≤ 1099511627776 → Keeps mid after → ReadsFront r before after old now
wire_breaks_between r before mid after old now turn receiving follows turns kept =
    let short = follows.short in
    record {
      wire = follows.wire;
      read = Consumes-kept before mid after follows.wire follows.read kept;
      file = settled_content r.mode (form_of r) follows.wire;
      is = inl (settles_of r follows.wire (omega (arith, short, turns)));
      wrote = subst (λ l. AppendsFront old now l) (append-nil follows.written ∙ all_written r before mid old now turn receiving follows)
          (Appends-front old now follows.written [] follows.wrote);
    }

-- a piece was read, and memory was refused
pub wire_breaks_piece : {A : Type 0} (r : Representation) (before mid after old now : Option (List ℕ)) (turn : ℕ) (xs : List ℕ) (receiving : Receiving A)
    → WireFollows r before mid old now turn receiving → turn < 1099511627776 → length xs ≤ 4096 → Consumes mid after xs → ReadsFront r before after old now
wire_breaks_piece r before mid after old now turn xs receiving follows turns few read =
    let front = settled_front r follows.wire xs in
    record {
      wire = follows.wire ++ xs;
      read = Consumes-trans before mid after follows.wire xs follows.read read;
      file = settled_content r.mode (form_of r) (follows.wire ++ xs);
      is = inl (settles_of r (follows.wire ++ xs) (fits_more follows.wire xs turn follows.short turns few));
      wrote = subst (λ l. AppendsFront old now l)
          (ap (λ l. l ++ front.0) (all_written r before mid old now turn receiving follows) ∙ front.1)
          (Appends-front old now follows.written front.0 follows.wrote);
    }

-- what was settled of a piece was not written whole
pub wire_breaks_off : {A : Type 0} (r : Representation) (before mid after old now later : Option (List ℕ)) (turn : ℕ) (xs : List ℕ) (ended : Bool) (receiving next : Receiving A) (heard : WireState)
    → (follows : WireFollows r before mid old now turn receiving) → turn < 1099511627776 → length xs ≤ 4096 → Consumes mid after xs → (ended ≡ true → IsAtEnd after)
    → HearsAfter r (follows.wire ++ xs) follows.written ended heard next → AppendsFront now later next.settled.items
    → ReadsFront r before after old later
wire_breaks_off r before mid after old now later turn xs ended receiving next More follows turns few read end hears front = record {
  wire = follows.wire ++ xs;
  read = Consumes-trans before mid after follows.wire xs follows.read read;
  file = settled_content r.mode (form_of r) (follows.wire ++ xs);
  is = inl (settles_of r (follows.wire ++ xs) (fits_more follows.wire xs turn follows.short turns few));
  wrote = subst (λ l. AppendsFront old later l) hears.settled (Appends-then-front old now later follows.written next.settled.items follows.wrote front);
}
wire_breaks_off r before mid after old now later turn xs ended receiving next Whole follows turns few read end hears front = record {
  wire = follows.wire ++ xs;
  read = Consumes-trans before mid after follows.wire xs follows.read read;
  file = ended_content r.mode (form_of r) (follows.wire ++ xs);
  is = inr (end hears.whole, reads_of r (follows.wire ++ xs) (fits_more follows.wire xs turn follows.short turns few) hears.complete);
  wrote = subst (λ l. AppendsFront old later l) hears.settled (Appends-then-front old now later follows.written next.settled.items follows.wrote front);
}
wire_breaks_off r before mid after old now later turn xs ended receiving next (Faulty fault) follows turns few read end hears front = record {
  wire = follows.wire ++ xs;
  read = Consumes-trans before mid after follows.wire xs follows.read read;
  file = settled_content r.mode (form_of r) (follows.wire ++ xs);
  is = inl (settles_of r (follows.wire ++ xs) (fits_more follows.wire xs turn follows.short turns few));
  wrote = subst (λ l. AppendsFront old later l) hears.settled (Appends-then-front old now later follows.written next.settled.items follows.wrote front);
}

-- more may follow
pub wire_goes_on : {A : Type 0} (r : Representation) (before mid after old now later : Option (List ℕ)) (turn : ℕ) (xs : List ℕ) (receiving next new : Receiving A)
    → (follows : WireFollows r before mid old now turn receiving) → length xs ≤ 4096 → Consumes mid after xs
    → StandsAfter r (follows.wire ++ xs) follows.written next → Appends now later next.settled.items
    → new.deframer ≡ next.deframer → new.receiver ≡ next.receiver → new.settled.items ≡ []
    → WireFollows r before after old later (turn + 1) new
wire_goes_on r before mid after old now later turn xs receiving next new follows few read stands wrote deframer receiver empty = record {
  wire = follows.wire ++ xs;
  read = Consumes-trans before mid after follows.wire xs follows.read read;
  short = let e = length-append follows.wire xs in let f = follows.short in omega (arith, e, f, few);
  written = follows.written ++ next.settled.items;
  wrote = Appends-trans old now later follows.written next.settled.items follows.wrote wrote;
  stands = written_out r (follows.wire ++ xs) follows.written next new stands deframer receiver empty;
  empty = empty;
}

-- the wire reads as a file
pub wire_ends : {A : Type 0} (r : Representation) (before mid after old now later : Option (List ℕ)) (turn : ℕ) (xs : List ℕ) (ended : Bool) (receiving next : Receiving A)
    → (follows : WireFollows r before mid old now turn receiving) → turn < 1099511627776 → length xs ≤ 4096 → Consumes mid after xs → (ended ≡ true → IsAtEnd after)
    → WholeAfter r (follows.wire ++ xs) follows.written ended next → Appends now later next.settled.items
    → ReadsFile r before after old later
wire_ends r before mid after old now later turn xs ended receiving next follows turns few read end whole wrote = record {
  wire = follows.wire ++ xs;
  read = Consumes-trans before mid after follows.wire xs follows.read read;
  whole = end whole.whole;
  file = ended_content r.mode (form_of r) (follows.wire ++ xs);
  is = reads_of r (follows.wire ++ xs) (fits_more follows.wire xs turn follows.short turns few) whole.complete;
  wrote = subst (λ l. Appends old later l) whole.settled (Appends-trans old now later follows.written next.settled.items follows.wrote wrote);
}

-- the wire has a fault
pub wire_faulty : {A : Type 0} (r : Representation) (before mid after old now later : Option (List ℕ)) (turn : ℕ) (xs : List ℕ) (ended : Bool) (receiving next : Receiving A) (fault : FrameFault)
    → (follows : WireFollows r before mid old now turn receiving) → turn < 1099511627776 → length xs ≤ 4096 → Consumes mid after xs → (ended ≡ true → IsAtEnd after)
    → FaultyAfter r (follows.wire ++ xs) follows.written ended fault next → Appends now later next.settled.items
    → ReadsFault r before after old later fault
wire_faulty r before mid after old now later turn xs ended receiving next fault follows turns few read end faulty wrote =
    let fits = fits_more follows.wire xs turn follows.short turns few in
    record {
      wire = follows.wire ++ xs;
      read = Consumes-trans before mid after follows.wire xs follows.read read;
      stops = stops_of r (follows.wire ++ xs) ended (IsAtEnd after) fault fits end faulty.stops;
      file = settled_content r.mode (form_of r) (follows.wire ++ xs);
      is = settles_of r (follows.wire ++ xs) fits;
      wrote = subst (λ l. Appends old later l) faulty.settled (Appends-trans old now later follows.written next.settled.items follows.wrote wrote);
    }

pub reads_failed : (r : Representation) (before after old new : Option (List ℕ)) (outcome : Result (Option FrameFault) Failed) → IsErr outcome
    → ReadsFront r before after old new → ReadsWireTo r before after old new outcome
reads_failed r before after old new (Ok fault) failed front = absurd (let e : false ≡ true = failed in cc)
reads_failed r before after old new (Err e) failed front = front
