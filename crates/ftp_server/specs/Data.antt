-- Octets of the data connection as one call takes them, and what is said of them.
use Rattle.std.specs.Prelude.{◌≡◌, ℕ, List, Option}
use Rattle.ftp_server_model.specs.Calls.{MayReceive, receives}
use Rattle.ftp_server_model.specs.Failing.{Late}
use Rattle.ftp_server_model.specs.Heard.{Heard, later_heard, latest}
use Rattle.ftp_server_model.specs.Machine.{faulted, later, owes}
use Rattle.ftp_server_model.specs.Replies.{mark_reply, reply_octets}
use Rattle.ftp_server_model.specs.View.{View}
use Rattle.ftp_server_replies.specs.declared.transfer.Told.{Told}
use Rattle.ftp_server_replies.specs.declared.transfer.Told.TheVariants.{Nothing, Mark, Faulty, NoMemory}

-- they are taken as ever, each when it may be
abbrev pub ReceivesTo : List ℕ → View → View → Type 0
ReceivesTo octets v w = (w ≡ receives v octets) × MayReceive v octets

-- what is to be said is said; by a fault the transfer is over, and behind it the line that waits is acted on
abbrev pub IsSaid : Told → View → View → Type 0
IsSaid Nothing v w = w ≡ v
IsSaid (Mark marker) v w = w ≡ owes (reply_octets (mark_reply marker.text.items marker.held)) v
IsSaid Faulty v w = w ≡ later (faulted v)
IsSaid NoMemory v w = ⊥

-- memory was refused, by which the transfer is over too, or the line that waits failed
abbrev pub SayingFails : Told → View → View → Type 0
SayingFails Nothing v w = ⊥
SayingFails (Mark marker) v w = ⊥
SayingFails Faulty v w = Late (faulted v) w
SayingFails NoMemory v w = Late (faulted v) w

-- the line that was acted on last, where this was it before: behind a fault it may be the one that waits
abbrev pub TellsSaid : Told → View → (before after : Option Heard) → Type 0
TellsSaid Nothing v before after = after ≡ before
TellsSaid (Mark marker) v before after = after ≡ before
TellsSaid Faulty v before after = after ≡ latest before (later_heard (faulted v))
TellsSaid NoMemory v before after = ⊥
