-- Where a reader of replies stands, and what a line gives (RFC 959, section 4.2).
use Rattle.std.specs.Prelude.{◌≡◌, ℕ, ◌==◌, nat_eq, Bool, true, false, List, [], ◌∷◌, ◌++◌, take, drop, Option, Some, None, if◌then◌else◌}
use Rattle.std.specs.List.{starts_with}
use Rattle.std.specs.declared.result.Result.{Result}
use Rattle.std.specs.declared.result.Result.TheVariants.{Ok, Err}
use Rattle.ftp_facts.specs.Value.{number_within}
use Rattle.ftp_reply.specs.Lines.{Text, AreWithin, are_within}
use Rattle.ftp_reply.specs.Reply.{IsCode, hyphen, last_line, space, least_code, greatest_code, Begins, Fits, Says as SaysReply}
use Rattle.ftp_reply.specs.declared.fault.ReplyFault.{ReplyFault}
use Rattle.ftp_reply.specs.declared.fault.ReplyFault.TheVariants as Faults
use Rattle.ftp_reply.specs.declared.place.Stage.{Stage}
use Rattle.ftp_reply.specs.declared.place.Stage.TheVariants as Stages
use Rattle.ftp_reply.specs.declared.reply.Reply.{Reply}

-- ---- what a line gives

-- between replies, or the code of a reply that has begun and the texts of its lines
pub data Gathered : Type 0 where
  Between : Gathered
  Begun : (code : ℕ) → (texts : List Text) → Gathered

-- what a line gives: nothing yet, a whole reply, or why it has no place
pub data Heard : Type 0 where
  GoesOn : Gathered → Heard
  Says : (code : ℕ) → (texts : List Text) → Heard
  Faulty : ReplyFault → Heard

-- with these texts the reply ends, or goes on, within the limits
abbrev pub reply_placed : Bool → ℕ → List Text → Heard
reply_placed ends code texts =
    if are_within texts then (if ends then Says code texts else GoesOn (Begun code texts)) else Faulty Faults.TooMany

-- the code in front of a line: three digits, the first of them 1 to 5
abbrev pub code_in_front : Text → Option ℕ
code_in_front line = number_within 3 least_code greatest_code (take 3 line)

-- the line is one whole reply, or the first of several; own choice: a code alone is a reply with an empty text
abbrev pub first_heard : ℕ → Text → Heard
first_heard code [] = reply_placed true code ([] ∷ [])
first_heard code (c ∷ text) =
    if c == space then reply_placed true code (text ∷ []) else (if c == hyphen then reply_placed false code (text ∷ []) else Faulty Faults.BadCode)

-- a reply begins with a code, or not
abbrev pub opened : Option ℕ → Text → Heard
opened None line = Faulty Faults.BadCode
opened (Some code) line = first_heard code (drop 3 line)

-- the first later line that begins with the same code and SP ends the reply
abbrev pub is_last : ℕ → Text → Bool
is_last code line = starts_with nat_eq line (last_line code [])

-- of the last line the text behind code and SP is kept, of any other the whole line
abbrev pub next_heard : Bool → ℕ → List Text → Text → Heard
next_heard true code texts line = reply_placed true code (texts ++ drop 4 line ∷ [])
next_heard false code texts line = reply_placed false code (texts ++ line ∷ [])

-- what one more line gives
unfoldable pub line_heard : Gathered → Text → Heard
line_heard Between line = opened (code_in_front line) line
line_heard (Begun code texts) line = next_heard (is_last code line) code texts line

-- ---- the reader

-- a reader reads on, or has stopped for good by a fault
pub data Standing : Type 0 where
  Reading : Gathered → Standing
  Stopped : Standing

-- what a line gives there
abbrev pub heard_at : Standing → Text → Heard
heard_at (Reading gathered) line = line_heard gathered line
heard_at Stopped line = Faulty Faults.Failed

-- What the reader answers where a line gives this, and where it stands then. Without memory it stands as before.
abbrev pub Answers : {A : Type 0} → Heard → Result (Option (Reply A)) ReplyFault → (old new : Standing) → Type 0
Answers (GoesOn gathered) (Ok None) old new = new ≡ Reading gathered
Answers (Says code texts) (Ok (Some reply)) old new = (reply.code ≡ code) × (reply.lines ≡ texts) × (new ≡ Reading Between)
Answers (Faulty fault) (Err met) old new = (met ≡ fault) × (new ≡ Stopped)
Answers (GoesOn gathered) (Err Faults.Memory) old new = new ≡ old
Answers (Says code texts) (Err Faults.Memory) old new = new ≡ old
Answers heard other old new = ⊥

-- how a stage and the lines kept are seen
abbrev pub reader_standing : Stage → List Text → Standing
reader_standing Stages.Between lines = Reading Between
reader_standing (Stages.Begun code) lines = Reading (Begun code lines)
reader_standing Stages.Failed lines = Stopped

-- what a stage keeps: between replies no line, and of a reply that has begun its code
abbrev pub AreKept : Stage → List Text → Type 0
AreKept Stages.Between lines = lines ≡ []
AreKept (Stages.Begun code) lines = IsCode code
AreKept Stages.Failed lines = Unit {0}

-- ---- the same over all lines

-- a reader that reads on stands here after these lines, which begin a reply
abbrev pub Stands : Gathered → List Text → Type 0
Stands Between heard = heard ≡ []
Stands (Begun code texts) heard = Begins heard code texts × AreWithin texts

-- what a line gives behind these is right: the lines go on a reply, are one, begin none, or pass the limits
abbrev pub GivesRightly : List Text → Text → Heard → Type 0
GivesRightly heard line (GoesOn gathered) = Stands gathered (heard ++ line ∷ [])
GivesRightly heard line (Says code texts) = SaysReply (heard ++ line ∷ []) code texts
GivesRightly heard line (Faulty Faults.BadCode) = (heard ≡ []) × ((code : ℕ) (texts : List Text) → ¬ Fits (line ∷ []) code texts)
GivesRightly heard line (Faulty Faults.TooMany) = (code : ℕ) × (texts : List Text) × Fits (heard ++ line ∷ []) code texts × (¬ AreWithin texts)
GivesRightly heard line (Faulty other) = ⊥

-- these lines are the replies one behind another, and then the rest
abbrev pub AreReplies : List Text → List (ℕ × List Text) → List Text → Type 0
AreReplies all [] rest = all ≡ rest
AreReplies all (reply ∷ replies) rest =
    (heard : List Text) × (after : List Text) × (all ≡ heard ++ after) × SaysReply heard reply.0 reply.1 × AreReplies after replies rest

-- so far: a reader can stand here after all these lines, which said these replies
abbrev pub CanStandAfter : Gathered → List Text → List (ℕ × List Text) → Type 0
CanStandAfter gathered all replies = (rest : List Text) × Stands gathered rest × AreReplies all replies rest
