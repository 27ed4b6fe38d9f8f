-- A dialogue whose server was refused memory: a line may fail for want of it, which is answered 451 (`OctetIsHeard` of `ftp_server_model`). All else is as
-- in `Dialogue`.
use Rattle.std.specs.Prelude.{◌≡◌, ℕ, ◌≤◌, ◌++◌, ◌⊎◌, Bool, true, false, List, [], ◌∷◌, length, Option}
use Rattle.std.specs.Io.KnownBytes.{Appends, Consumes, IsAtEnd}
use Rattle.ftp_ports.specs.Beginning.{AppendsFront}
use Rattle.ftp_server_model.specs.Failing.{OctetIsHeard}
use Rattle.ftp_server_model.specs.Machine.{IsReading, Reading}
use Rattle.ftp_server_model.specs.View.{View}
use Rattle.tool_dialogue.specs.Dialogue.{Talk, greeted_talk, runs, served_twice, talk_of, told}

-- an octet is heard, or its line fails; what is wanted is done, and what is owed is said; after QUIT no octet is heard
abbrev pub Turns : Reading → Talk → ℕ → Talk → Type 0
Turns read talk octet next =
    ((runs talk.view ≡ true) × (heard : View) × OctetIsHeard read talk.view octet heard × (next ≡ told (served_twice heard) talk))
    ⊎ ((runs talk.view ≡ false) × (next ≡ talk))

-- octets in order
abbrev pub Talks : Reading → Talk → List ℕ → Talk → Type 0
Talks read talk [] last = last ≡ talk
Talks read talk (octet ∷ octets) last = (next : Talk) × Turns read talk octet next × Talks read next octets last

-- octets are heard from one view to another, and answered by these, whatever was said before and however lines are read
abbrev pub IsAnsweredShort : (octets : List ℕ) (old : View) (was : Bool) (text : List ℕ) (new : View) (is : Bool) → Type 0
IsAnsweredShort octets old was text new is =
    (read : Reading) → IsReading read → (before : List ℕ) → Talks read (talk_of old before was) octets (talk_of new (before ++ text) is)

-- a beginning of such answers was written
pub record BreaksInShort (read : Reading) (octets : List ℕ) (old : View) (was : Bool) (before : List ℕ) (held holds : Option (List ℕ)) : Type 0 where
  pub last : Talk
  pub answers : Talks read (talk_of old before was) octets last
  pub rest : List ℕ
  pub whole : last.text ≡ before ++ rest
  pub wrote : AppendsFront held holds rest

-- these octets were read, the last of them by one read of at most so many; nothing was read behind the piece that ended QUIT's line
pub record ReadsShort (read : Reading) (most : ℕ) (before after : Option (List ℕ)) : Type 0 where
  pub front : List ℕ
  pub piece : List ℕ
  pub few : length piece ≤ most
  pub talk : Talk
  pub talks : Talks read greeted_talk front talk
  pub running : runs talk.view ≡ true
  pub given : Consumes before after (front ++ piece)

-- QUIT was read or the input's end, the greeting and all that the server owed were written, in order, and the status is 1
pub record ConversesShortBy (read : Reading) (most : ℕ) (before after old new : Option (List ℕ)) (status : ℕ) : Type 0 where
  pub reads : ReadsShort read most before after
  pub last : Talk
  pub answers : Talks read reads.talk reads.piece last
  pub whole : (runs last.view ≡ false) ⊎ IsAtEnd after
  pub wrote : Appends old new last.text
  pub says : status ≡ 1

-- it broke off: all that the server owed before the last piece was written, and a beginning of what it owes for that piece
pub record BreaksShortBy (read : Reading) (most : ℕ) (before after old new : Option (List ℕ)) : Type 0 where
  pub reads : ReadsShort read most before after
  pub mid : Option (List ℕ)
  pub answered : Appends old mid reads.talk.text
  pub last : Talk
  pub answers : Talks read reads.talk reads.piece last
  pub rest : List ℕ
  pub whole : last.text ≡ reads.talk.text ++ rest
  pub wrote : AppendsFront mid new rest

-- however lines are read: there is one reading of them
abbrev pub ConversesShort : (most : ℕ) (before after old new : Option (List ℕ)) (status : ℕ) → Type 0
ConversesShort most before after old new status = (read : Reading) → IsReading read → ConversesShortBy read most before after old new status

abbrev pub BreaksShort : (most : ℕ) (before after old new : Option (List ℕ)) → Type 0
BreaksShort most before after old new = (read : Reading) → IsReading read → BreaksShortBy read most before after old new
