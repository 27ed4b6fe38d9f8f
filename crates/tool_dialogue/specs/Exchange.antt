-- A piece, and the answers to it.
use Rattle.std.specs.Prelude.{◌≡◌, ℕ, ◌++◌, Bool, List, Option}
use Rattle.ftp_ports.specs.Beginning.{AppendsFront}
use Rattle.ftp_server_model.specs.Machine.{IsReading, Reading}
use Rattle.ftp_server_model.specs.View.{View}
use Rattle.tool_dialogue.specs.Dialogue.{talk_of, talks}

-- octets are heard from one view to another, and answered by these, whatever was said before and however lines are read
abbrev pub OctetsAreAnswered : (octets : List ℕ) (old : View) (was : Bool) (text : List ℕ) (new : View) (is : Bool) → Type 0
OctetsAreAnswered octets old was text new is =
    (read : Reading) → IsReading read → (before : List ℕ) → talk_of new (before ++ text) is ≡ talks read (talk_of old before was) octets

-- a beginning of the answers was written, whatever was said before and however lines are read
pub record BreaksIn (read : Reading) (octets : List ℕ) (old : View) (was : Bool) (before : List ℕ) (held holds : Option (List ℕ)) : Type 0 where
  pub rest : List ℕ
  pub whole : (talks read (talk_of old before was) octets).text ≡ before ++ rest
  pub wrote : AppendsFront held holds rest
