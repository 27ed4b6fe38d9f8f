-- What the buffer of an unfinished line has read.
use Rattle.std.specs.Prelude.{◌≡◌, ℕ, ◌<◌, ◌≤◌, List, [], ◌∷◌, ◌++◌, length, take, ◌==◌, true, false, if◌then◌else◌}
use Rattle.ftp_nvt.specs.Lines.{NvtEvent, IsNoneOf, cut, last_octet, text_of, settled, lines}
use Rattle.ftp_nvt.specs.declared.event.Event.{Event}
use Rattle.ftp_nvt.specs.declared.event.Heard.{Heard}
use Rattle.ftp_nvt.specs.Event.{event_list}
use Rattle.ftp_nvt.specs.declared.line.TheConstants.{LF, CR}
use Rattle.ftp_nvt.specs.declared.telnet.TheConstants.{IAC}
use Rattle.ftp_nvt.specs.declared.line.Stage.{Stage}
use Rattle.ftp_nvt.specs.declared.line.Stage.TheVariants.{Start, Inside, AfterReturn, Past}
use Rattle.ftp_nvt.specs.declared.line.LineBuffer.{LineBuffer}

-- a buffer that counts these octets and holds this text can stand behind these octets of a line
pub record IsWithin (count : ℕ) (text rest : List ℕ) : Type 0 where
  pub counted : count ≡ length rest
  pub said : text ≡ text_of rest

-- a buffer at this place can stand behind these octets of an unfinished line
abbrev pub StandsAtStage : Stage → ℕ → ℕ → List ℕ → List ℕ → Type 0
StandsAtStage Start limit count text rest = rest ≡ []
StandsAtStage Inside limit count text rest = IsWithin count text rest × ((last_octet LF rest == CR) ≡ false)
StandsAtStage AfterReturn limit count text rest = IsWithin count text rest × ((last_octet LF rest == CR) ≡ true)
StandsAtStage Past limit count text rest = limit < length rest

-- the same of a buffer
abbrev pub Stands : {A : Type 0} → LineBuffer A → List ℕ → Type 0
Stands buffer rest = StandsAtStage buffer.stage buffer.limit buffer.count buffer.text.items rest

-- this buffer can have read just these octets
pub record CanHaveRead {A : Type 0} (buffer : LineBuffer A) (octets : List ℕ) : Type 0 where
  pub stands : Stands buffer (cut octets).rest

-- a buffer that read some octets before has read these too, and this is what they add to the lines
pub record Reads {A : Type 0} (old : LineBuffer A) (taken : List ℕ) (added : List NvtEvent) (new : LineBuffer A) : Type 0 where
  pub limit : new.limit ≡ old.limit
  pub has_read : (octets : List ℕ) → CanHaveRead old octets → CanHaveRead new (octets ++ taken)
  pub said : (octets : List ℕ) → CanHaveRead old octets → lines old.limit (octets ++ taken) ≡ lines old.limit octets ++ added

-- so many octets in front of a piece were read, one at least and none of them an IAC, and settled this
pub record ReadsBite {A : Type 0} (old : LineBuffer A) (piece : List ℕ) (heard : Heard) (new : LineBuffer A) : Type 0 where
  pub within : heard.taken ≤ length piece
  pub some : 0 < heard.taken
  pub bare : IsNoneOf IAC (take heard.taken piece)
  pub reads : Reads old (take heard.taken piece) (event_list heard.event new.text.items) new

-- a buffer takes one octet, told by its unfinished line
pub record Steps {A : Type 0} (old : LineBuffer A) (octet : ℕ) (event : Event) (new : LineBuffer A) : Type 0 where
  pub limit : new.limit ≡ old.limit
  pub stands : (rest : List ℕ) → Stands old rest → Stands new (if octet == LF then [] else rest ++ octet ∷ [])
  pub said : (rest : List ℕ) → Stands old rest → settled old.limit rest octet ≡ event_list event new.text.items
