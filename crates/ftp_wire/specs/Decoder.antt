-- What a receiving end has made of the octets of one data connection: the reader of the mode, and behind it the reader of
-- type and structure (RFC 959, sections 3.1 to 3.5).
use Rattle.std.specs.Prelude.{◌≡◌, ℕ, ◌<◌, ◌+◌, ◌^◌, List, [], ◌∷◌, ◌++◌, length, Bool, false, Option, Some, None, IsTrue}
use Rattle.ftp_pieces.specs.Machine.{IsFront}
use Rattle.ftp_repr.specs.Signs.{Sign, end_file}
use Rattle.ftp_settings.specs.Representation.{Form, form_of}
use Rattle.ftp_repr.specs.Receiving.{Taking, fresh, receiving}
use Rattle.ftp_mode.specs.Said.{Said, says, marker}
use Rattle.ftp_mode.specs.Reading.{Reading, going, failed, start, read_step, read_out, is_complete_at}
use Rattle.ftp_mode.specs.Block.{marked_text}
use Rattle.ftp_mode.specs.Wire.{wire, image_file}
use Rattle.ftp_mode.specs.Laws.{settled_content}
use Rattle.ftp_settings.specs.declared.representation.Mode.TheVariants as Modes
use Rattle.ftp_mode.specs.declared.fault.FrameFault.{FrameFault}
use Rattle.ftp_settings.specs.declared.representation.Representation.{Representation}

-- where both readers stand, and the octets of the file that are settled
pub record Decoder : Type 0 where
  pub form : Form
  pub reading : Reading
  pub taking : Taking
  pub content : List ℕ

-- no octet came
abbrev pub no_octets : Representation → Decoder
no_octets settings = record {
  form = form_of settings;
  reading = start settings.mode settings.structure;
  taking = fresh;
  content = [];
}

-- a sign of the file settles octets
abbrev pub with_sign : Decoder → Sign → Decoder
with_sign d sign = record d {
  taking = (receiving d.form).step d.taking sign;
  content = d.content ++ (receiving d.form).out d.taking sign;
}

-- what the wire says: a sign of the file, or a restart marker, which is no part of it (RFC 959, section 3.5)
abbrev pub with_said : Decoder → Said → Decoder
with_said d (says sign) = with_sign d sign
with_said d (marker text) = d

-- what an octet says, in order
abbrev pub with_all : Decoder → List Said → Decoder
with_all d [] = d
with_all d (said ∷ more) = with_all (with_said d said) more

-- the reader of the mode behind an octet
abbrev pub read_on : Decoder → ℕ → Decoder
read_on d octet = record d { reading = read_step d.reading octet }

-- what the next octet says
abbrev pub octet_says : Decoder → ℕ → List Said
octet_says d octet = read_out d.reading octet

-- one octet of the data connection
abbrev pub decoded_octet : Decoder → ℕ → Decoder
decoded_octet d octet = with_all (read_on d octet) (octet_says d octet)

-- the octets of one link
abbrev pub decoded : Decoder → List ℕ → Decoder
decoded d [] = d
decoded d (octet ∷ octets) = decoded (decoded_octet d octet) octets

-- ---- faults and ends

-- the fault that an octet met, if one did: a wrong escape, suspected errors, a wrong marker
abbrev pub fault_in : Reading → Option FrameFault
fault_in (going count at) = None
fault_in (failed fault) = Some fault

-- the fault that the decoder has met
abbrev pub fault_of : Decoder → Option FrameFault
fault_of d = fault_in d.reading

-- an end of the connection ends the file here: the end of file came, or the end of the connection is it (RFC 959, section 3.4.1)
abbrev pub is_ended_in : Reading → Bool
is_ended_in (going count at) = is_complete_at at
is_ended_in (failed fault) = false

-- a clean end of the connection here leaves a whole file
abbrev pub is_whole : Decoder → Bool
is_whole d = is_ended_in d.reading

-- what a clean end of the connection leaves of a file that is whole: a CR that was held is kept (own choice)
abbrev pub ended : Decoder → Decoder
ended d = with_sign d end_file

-- what a break leaves, and an end before the end of file, which counts as one (own choice): what was settled
abbrev pub broken : Decoder → Decoder
broken d = d

-- ---- the laws

-- the decoder of these octets
abbrev pub decoder_of : Representation → List ℕ → Decoder
decoder_of settings w = decoded (no_octets settings) w

-- own markers change nothing of the file
abbrev pub image_blocks : Representation
image_blocks = record { kind = image_file.kind; structure = image_file.structure; mode = Modes.Block }

-- what came is what a wire settles that was cut
abbrev pub DecodesWhatIsSettled : Type 0
DecodesWhatIsSettled = (settings : Representation) (w : List ℕ) → (decoder_of settings w).content ≡ settled_content settings.mode (form_of settings) w

-- the one text of a file, ended, gives the file
pub record GivesFile (settings : Representation) (w b : List ℕ) : Type 0 where
  pub whole : IsTrue (is_whole (decoder_of settings w))
  pub content : (ended (decoder_of settings w)).content ≡ b

-- in all eight representations
abbrev pub WireGivesFile : Type 0
WireGivesFile = (settings : Representation) (b : List ℕ) → GivesFile settings (wire settings.mode (form_of settings) b) b

-- with own markers too
abbrev pub MarkedWireGivesFile : Type 0
MarkedWireGivesFile = (from : ℕ) (b : List ℕ) → from + length b < 2 ^ 64 → GivesFile image_blocks (marked_text from b) b

-- a front of it settles a front of the file
abbrev pub FrontGivesFront : Type 0
FrontGivesFront = (settings : Representation) (b w : List ℕ) → IsFront w (wire settings.mode (form_of settings) b) → IsFront (decoder_of settings w).content b

-- with own markers too
abbrev pub MarkedFrontGivesFront : Type 0
MarkedFrontGivesFront =
    (from : ℕ) (b w : List ℕ) → from + length b < 2 ^ 64 → IsFront w (marked_text from b)
    → IsFront (decoder_of image_blocks w).content b
