-- How the reader of a client's control connection is seen (RFC 854; RFC 959, section 4.2).
use Rattle.std.specs.Prelude.{◌≡◌, ℕ, ◌+◌, ◌-◌, ◌≤◌, List, length, Option, Some, None}
use Rattle.ftp_client_model.specs.Held.{texts_len}
use Rattle.ftp_nvt.specs.Ear.{HasHeard, limit_of}
use Rattle.ftp_nvt.specs.declared.ear.Ear.{Ear as Reader}
use Rattle.ftp_ends.specs.Ear.{Ear}
use Rattle.ftp_ends.specs.Reply.{reply_limit}
use Rattle.ftp_reply.specs.Reader.{Gathered, Between, Begun, Standing, Reading, Stopped}
use Rattle.ftp_reply.specs.declared.lines.TheConstants.{MAX_OCTETS}

-- the unfinished line, and the reply that has begun
pub record UnfinishedReply : Type 0 where
  pub ear : Ear
  pub gathered : Gathered

-- what a reader of replies has gathered; one that has stopped, nothing
abbrev pub gathered_in : Standing → Gathered
gathered_in (Reading gathered) = gathered
gathered_in Stopped = Between

-- a reader of replies reads on
abbrev pub ReaderReadsOn : Standing → Type 0
ReaderReadsOn (Reading gathered) = Unit {0}
ReaderReadsOn Stopped = ⊥

-- the number counts the octets of the texts of the reply that has begun; there is none between two replies
abbrev pub CountsTexts : Option ℕ → Gathered → Type 0
CountsTexts None Between = Unit {0}
CountsTexts (Some count) (Begun code texts) = (count ≡ texts_len texts) × (count ≤ MAX_OCTETS)
CountsTexts count gathered = ⊥

-- with a line more: of a reply's first line, code and hyphen are no text
abbrev pub with_line : Option ℕ → List ℕ → ℕ
with_line None line = length line - 4
with_line (Some count) line = count + length line

-- a reader of lines that has heard some octets, for lines of replies, a reader of replies that reads on, and what counts its octets
pub record CanBeHeld {A : Type 0} (ear : Reader A) (reader : Standing) (gathered : Option ℕ) : Type 0 where
  pub octets : List ℕ
  pub heard : HasHeard ear octets
  pub limit : limit_of ear ≡ reply_limit
  pub reading : ReaderReadsOn reader
  pub counted : CountsTexts gathered (gathered_in reader)
