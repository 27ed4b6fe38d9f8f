-- What is still to be written of a file between two pieces of it.
use Rattle.std.specs.Prelude.{◌≡◌, ℕ, List, ◌++◌, take, false}
use Rattle.ftp_repr.specs.Signs.{Sign}
use Rattle.ftp_repr.specs.Sending.{has_sent_end, still_to_send}
use Rattle.ftp_mode.specs.Framing.{still_to_write}
use Rattle.tool_codec.specs.Writes.{WritesSigns}
use Rattle.tool_codec.specs.declared.frames.FramedFile.{FramedFile}

-- the octets that are made and not yet written
abbrev pub made_octets : {A : Type 0} → FramedFile A → List ℕ
made_octets s = take s.made s.room.items

-- the octets that are still to be made, where these octets of the file are still to come
abbrev pub still_to_give : {A : Type 0} → FramedFile A → List ℕ → List ℕ
still_to_give s file = still_to_write s.framer (still_to_send s.sender file)

-- the same of what is made between two calls
abbrev pub Puts : {A : Type 0} → FramedFile A → List Sign → FramedFile A → List Sign → Type 0
Puts old ss new rest = WritesSigns old.framer ss new.framer rest (made_octets old) (made_octets new)

-- the same of octets of a file
pub record Gives {A : Type 0} (old : FramedFile A) (piece : List ℕ) (new : FramedFile A) (rest : List ℕ) : Type 0 where
  pub octets : List ℕ
  pub made : made_octets new ≡ made_octets old ++ octets
  pub text : (more : List ℕ) → still_to_give old (piece ++ more) ≡ octets ++ still_to_give new (rest ++ more)
  pub goes_on : has_sent_end new.sender ≡ false
