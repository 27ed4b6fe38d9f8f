-- What is in flight towards the client: any reply, of one line or of several, and any answer to a Telnet octet, is heard as itself and
-- as nothing else, wherever its octets are cut (RFC 854; RFC 959, section 4.2).
use Rattle.std.specs.Prelude.{◌≡◌, ◌≤◌, ◌<◌, ◌+◌, ℕ, List, [], ◌∷◌, ◌++◌, length}
use Rattle.std.specs.List.{flat_map, AllByRecursion}
use Rattle.ftp_nvt.specs.Lines.{IsNoneOf}
use Rattle.ftp_nvt.specs.declared.line.TheConstants.{LF}
use Rattle.ftp_nvt.specs.declared.telnet.TheConstants.{WONT, DONT}
use Rattle.ftp_reply.specs.Lines.{Text, AreWithin}
use Rattle.ftp_reply.specs.Reply.{IsCode, HasPlainLines, written}
use Rattle.ftp_ends.specs.Ear.{Ear, quiet, line_len, answer_of}
use Rattle.ftp_client_model.specs.Calls.{hears, may_hear}
use Rattle.ftp_client_model.specs.Dialogue.{answered}
use Rattle.ftp_reply.specs.Reader.{Gathered, Between}
use Rattle.ftp_client_model.specs.View.{View}
pub use Rattle.ftp_ends.specs.Reply.{reply_octets, CanBeCarried, IsWritten}

-- octets are heard alike in any pieces
abbrev pub ClientHearsInPieces : Type 0
ClientHearsInPieces = (v : View) (front back : List ℕ) → hears v (front ++ back) ≡ hears (hears v front) back

-- nothing was answered yet: only the ear has heard, and the reader of replies has gathered lines
pub record OnlyHeard (old new : View) : Type 0 where
  pub ear : Ear
  pub gathered : Gathered
  pub is : new ≡ record old { ear = ear; gathered = gathered }

-- between two replies
pub record IsAtRest (v : View) : Type 0 where
  pub ear : v.ear ≡ quiet
  pub gathered : v.gathered ≡ Between

-- the octets that a server writes it as
abbrev pub octets_of : ℕ → List Text → List ℕ
octets_of code texts = reply_octets (record { code = code; lines = texts })

-- a reply heard between two: of a front of it nothing is answered; the whole is answered as this reply; where its first octet may
-- be taken, all may
pub record HearsReply (code : ℕ) (texts : List Text) (v : View) : Type 0 where
  pub cut : (front back : List ℕ) (octet : ℕ) → front ++ octet ∷ back ≡ octets_of code texts → OnlyHeard v (hears v front)
  pub whole : hears v (octets_of code texts) ≡ answered code texts v
  pub may : (front back : List ℕ) (octet : ℕ) → front ++ octet ∷ back ≡ octets_of code texts → may_hear (hears v front) ≡ may_hear v

-- every reply that can be written, whatever else the client holds
abbrev pub ReplyIsHeard : Type 0
ReplyIsHeard = (code : ℕ) (texts : List Text) (v : View) → IsWritten code texts → IsAtRest v → HearsReply code texts v

-- what a front of a reply leaves, of whatever client that is between two: one ear, and one row of lines that were gathered
pub record FrontLeaves (front : List ℕ) : Type 0 where
  pub ear : Ear
  pub gathered : Gathered
  pub is : (v : View) → IsAtRest v → hears v front ≡ record v { ear = ear; gathered = gathered }

-- so it is of every front of every reply that can be written
abbrev pub FrontsAreAlike : Type 0
FrontsAreAlike =
    (code : ℕ) (texts : List Text) (front back : List ℕ) (octet : ℕ) → IsWritten code texts → front ++ octet ∷ back ≡ octets_of code texts → FrontLeaves front

-- an answer to a Telnet octet changes nothing
abbrev pub ClientDropsAnswer : Type 0
ClientDropsAnswer =
    (octet : ℕ) (v : View) → v.ear ≡ quiet → (hears v (answer_of WONT octet) ≡ v) × (hears v (answer_of DONT octet) ≡ v)

-- what a reply does leaves the client between two replies, so that a row of them is heard one after another
abbrev pub AnsweredAtRest : Type 0
AnsweredAtRest = (code : ℕ) (texts : List Text) (v : View) → IsAtRest v → IsAtRest (answered code texts v)

-- ---- a row of replies

-- a code and the texts of the lines
abbrev pub CodeAndTexts : Type 0
CodeAndTexts = ℕ × List Text

-- what a row of replies does
abbrev pub answered_all : List CodeAndTexts → View → View
answered_all [] v = v
answered_all ((code, texts) ∷ replies) v = answered_all replies (answered code texts v)

-- every row of replies is heard reply by reply
abbrev pub ClientHearsRow : Type 0
ClientHearsRow =
    (replies : List CodeAndTexts) (v : View) → AllByRecursion (λ reply. IsWritten reply.0 reply.1) replies → IsAtRest v
    → hears v (flat_map (λ reply. octets_of reply.0 reply.1) replies) ≡ answered_all replies v
