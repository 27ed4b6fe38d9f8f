-- What is written of a wire that is read: the file that it says, or what it settles of one and its fault (RFC 959,
-- sections 3.1, 3.4 and 3.5).
use Rattle.std.specs.Prelude.{◌≡◌, ℕ, List, [], ◌++◌, ◌⊎◌, Option, Some, None, codes}
use Rattle.std.specs.declared.result.Result.{Result}
use Rattle.std.specs.declared.result.Result.TheVariants.{Ok, Err}
use Rattle.std.specs.Io.KnownBytes.{Appends, Consumes, IsAtEnd}
use Rattle.ftp_repr.specs.Content.{content}
use Rattle.ftp_mode.specs.declared.fault.FrameFault.{FrameFault}
use Rattle.ftp_mode.specs.declared.fault.FrameFault.TheVariants.{EndedEarly}
use Rattle.ftp_mode.specs.Said.{Said, file_signs}
use Rattle.ftp_mode.specs.Units.{Reads}
use Rattle.ftp_mode.specs.Fault.{IsFault}
use Rattle.ftp_mode.specs.FaultText.{frame_fault_text}
use Rattle.ftp_mode.specs.Front.{Front}
use Rattle.ftp_ports.specs.Beginning.{AppendsFront}
use Rattle.ftp_settings.specs.Representation.{form_of}
use Rattle.ftp_settings.specs.declared.representation.Representation.{Representation}
use Rattle.ftp_ports.specs.declared.pieces.Failed.{Failed}

-- a wire that has ended reads as this file
abbrev pub ReadsAs : Representation → List ℕ → List ℕ → Type 0
ReadsAs r wire file = (said : List Said) × Reads r.mode r.structure wire said × (file ≡ content (form_of r) (file_signs said))

-- up to where it was cut or has its fault, a wire settles this of a file; a CR there that nothing came behind is dropped
abbrev pub SettlesFile : Representation → List ℕ → List ℕ → Type 0
SettlesFile r wire file = (said : List Said) × Front r.mode r.structure wire said × (file ≡ content (form_of r) (file_signs said))

-- a wire that reads as no file and has no fault
abbrev pub IsCutShort : Representation → List ℕ → Type 0
IsCutShort r wire =
    ((said : List Said) → Reads r.mode r.structure wire said → ⊥) × ((fault : FrameFault) → IsFault r.mode r.structure wire fault → ⊥)

-- why a wire reads as no file: its first fault or, at its end, that this came early
abbrev pub ReadsNoFile : Representation → List ℕ → Type 0 → FrameFault → Type 0
ReadsNoFile r wire ended fault = IsFault r.mode r.structure wire fault ⊎ ((fault ≡ EndedEarly) × ended × IsCutShort r wire)

-- the text of a fault, and an LF
abbrev pub fault_line : FrameFault → List ℕ
fault_line fault = frame_fault_text fault ++ codes "\n"

-- these octets were read, up to the input's end, and the file that they say was written
pub record ReadsFile (r : Representation) (before after : Option (List ℕ)) (old new : Option (List ℕ)) : Type 0 where
  pub wire : List ℕ
  pub read : Consumes before after wire
  pub whole : IsAtEnd after
  pub file : List ℕ
  pub is : ReadsAs r wire file
  pub wrote : Appends old new file

-- these octets were read, this is their fault, and what they settle before it was written
pub record ReadsFault (r : Representation) (before after : Option (List ℕ)) (old new : Option (List ℕ)) (fault : FrameFault) : Type 0 where
  pub wire : List ℕ
  pub read : Consumes before after wire
  pub stops : ReadsNoFile r wire (IsAtEnd after) fault
  pub file : List ℕ
  pub is : SettlesFile r wire file
  pub wrote : Appends old new file

-- it broke off: these octets were read, and a beginning of what they settle or, at the input's end, say was written
pub record ReadsFront (r : Representation) (before after : Option (List ℕ)) (old new : Option (List ℕ)) : Type 0 where
  pub wire : List ℕ
  pub read : Consumes before after wire
  pub file : List ℕ
  pub is : SettlesFile r wire file ⊎ (IsAtEnd after × ReadsAs r wire file)
  pub wrote : AppendsFront old new file

-- how it ended: with the file, with a fault, or by breaking off
abbrev pub ReadsWireTo : Representation → (before after old new : Option (List ℕ)) → Result (Option FrameFault) Failed → Type 0
ReadsWireTo r before after old new (Ok None) = ReadsFile r before after old new
ReadsWireTo r before after old new (Ok (Some fault)) = ReadsFault r before after old new fault
ReadsWireTo r before after old new (Err failed) = ReadsFront r before after old new

-- it broke off, and a second writer had nothing, or a beginning of the fault's line behind all that is settled before it
abbrev pub TellsFront : Representation → (before after old new untold told : Option (List ℕ)) → Type 0
TellsFront r before after old new untold told =
    (ReadsFront r before after old new × Appends untold told [])
    ⊎ ((fault : FrameFault) × ReadsFault r before after old new fault × AppendsFront untold told (fault_line fault))

-- the status, and what is told to a second writer: nothing of a file, and the line of a fault
abbrev pub Tells : Representation → (before after old new untold told : Option (List ℕ)) → ℕ → Type 0
Tells r before after old new untold told status =
    ((status ≡ 0) × ReadsFile r before after old new × Appends untold told [])
    ⊎ ((status ≡ 1) × ((fault : FrameFault) × ReadsFault r before after old new fault × Appends untold told (fault_line fault)))
