-- What a dialogue between a reader and a writer has done, where what they give and hold is known.
use Rattle.std.specs.Prelude.{◌≡◌, ℕ, ◌≤◌, ◌==◌, ◌++◌, ◌⊎◌, Bool, true, false, List, [], length, min, Option, if◌then◌else◌}
use Rattle.std.specs.declared.result.Result.{Result}
use Rattle.std.specs.declared.result.Result.TheVariants.{Ok, Err}
use Rattle.std.specs.Io.KnownBytes.{Appends, Consumes, IsAtEnd, Keeps}
use Rattle.ftp_ports.specs.Beginning.{AppendsFront}
use Rattle.ftp_ports.specs.declared.pieces.Failed.{Failed}
use Rattle.ftp_server_model.specs.Machine.{IsReading, Reading}
use Rattle.tool_dialogue.specs.Dialogue.{is_over, dialogue_status, dialogue_transcript}
use Rattle.tool_dialogue.specs.Short.{BreaksShort, ConversesShort}

-- these octets were read, the last of them by one read of at most so many; nothing was read behind the piece that ended QUIT's line
pub record Reads (read : Reading) (most : ℕ) (before after : Option (List ℕ)) : Type 0 where
  pub front : List ℕ
  pub piece : List ℕ
  pub few : length piece ≤ most
  pub runs : is_over read front ≡ false
  pub given : Consumes before after (front ++ piece)

-- it went well: QUIT was read or the input's end, and the greeting and the answers to all octets read were written
pub record ConversesBy (read : Reading) (most : ℕ) (before after old new : Option (List ℕ)) (status : ℕ) : Type 0 where
  pub reads : Reads read most before after
  pub whole : (is_over read (reads.front ++ reads.piece) ≡ true) ⊎ IsAtEnd after
  pub wrote : Appends old new (dialogue_transcript read (reads.front ++ reads.piece))
  pub says : status ≡ dialogue_status read (reads.front ++ reads.piece)

-- it broke off: all before the last piece was answered, and a beginning of the answers to that piece was written
pub record BreaksAmid (read : Reading) (most : ℕ) (before after old new : Option (List ℕ)) : Type 0 where
  pub reads : Reads read most before after
  pub mid : Option (List ℕ)
  pub answered : Appends old mid (dialogue_transcript read reads.front)
  pub rest : List ℕ
  pub whole : dialogue_transcript read (reads.front ++ reads.piece) ≡ dialogue_transcript read reads.front ++ rest
  pub wrote : AppendsFront mid new rest

-- it broke off before anything was read, with a beginning of the greeting
abbrev pub BreaksAtStart : (read : Reading) (before after old new : Option (List ℕ)) → Type 0
BreaksAtStart read before after old new = Keeps before after × AppendsFront old new (dialogue_transcript read [])

-- either of the two
abbrev pub BreaksBy : (read : Reading) (most : ℕ) (before after old new : Option (List ℕ)) → Type 0
BreaksBy read most before after old new = BreaksAtStart read before after old new ⊎ BreaksAmid read most before after old new

-- however lines are read: there is one reading of them
abbrev pub Converses : (most : ℕ) (before after old new : Option (List ℕ)) (status : ℕ) → Type 0
Converses most before after old new status = (read : Reading) → IsReading read → ConversesBy read most before after old new status

abbrev pub BreaksOff : (most : ℕ) (before after old new : Option (List ℕ)) → Type 0
BreaksOff most before after old new = (read : Reading) → IsReading read → BreaksBy read most before after old new

-- it went well: all was answered as ever, or the server was refused memory, and a line may have failed for want of it
abbrev pub EndsWell : (most : ℕ) (before after old new : Option (List ℕ)) (status : ℕ) → Type 0
EndsWell most before after old new status = Converses most before after old new status ⊎ ConversesShort most before after old new status

-- or it broke off
abbrev pub EndsOff : (most : ℕ) (before after old new : Option (List ℕ)) → Type 0
EndsOff most before after old new = BreaksOff most before after old new ⊎ BreaksShort most before after old new

-- how it ended: well, with whether something was refused, or by breaking off
abbrev pub Ends : (most : ℕ) (before after old new : Option (List ℕ)) → Result Bool Failed → Type 0
Ends most before after old new (Ok refused) = EndsWell most before after old new (if refused then 1 else 0)
Ends most before after old new (Err failed) = EndsOff most before after old new

-- so many octets one read is asked for at most
abbrev pub most_of : ℕ → ℕ
most_of piece = if piece == 0 then 4096 else min piece 4096
