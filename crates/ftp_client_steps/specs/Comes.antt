-- What an octet of the control connection comes to (RFC 959, section 4.2).
use Rattle.std.specs.Prelude.{◌≡◌, ℕ, ◌++◌, IsTrue}
use Rattle.ftp_reply.specs.Reader.{Gathered, Between, GoesOn, Says, Faulty}
use Rattle.ftp_reply.specs.Reader.{Heard as LineHeard}
use Rattle.ftp_client_model.specs.Calls.{hears_octet, is_sound}
use Rattle.ftp_client_model.specs.Dialogue.{answered}
use Rattle.ftp_client_model.specs.View.{View, strange}
use Rattle.ftp_client_steps.specs.Reader.{UnfinishedReply}
use Rattle.ftp_client_steps.specs.declared.line.Spoken.{Spoken}
use Rattle.ftp_client_steps.specs.declared.line.Spoken.TheVariants as Hears

-- what a line gives leads to this, and leaves this gathered
abbrev pub LineLeads : {A : Type 0} → LineHeard → Spoken A → Gathered → Type 0
LineLeads (GoesOn gathered) Hears.Nothing new = new ≡ gathered
LineLeads (Says code texts) (Hears.Reply reply) new = (reply.code ≡ code) × (reply.lines ≡ texts) × (new ≡ Between)
LineLeads (Faulty fault) Hears.Misplaced new = Unit {0}
LineLeads line heard new = ⊥

-- a client that has heard so far
abbrev pub heard_so_far : UnfinishedReply → View → View
heard_so_far held v = record v { ear = held.ear; gathered = held.gathered }

-- what a client does with it, by the definitions of the client
abbrev pub acts : {A : Type 0} → Spoken A → UnfinishedReply → View → View
acts Hears.Nothing held v = heard_so_far held v
acts (Hears.Owed answer) held v = record (heard_so_far held v) { owed = v.owed ++ answer }
acts (Hears.Reply reply) held v = answered reply.code reply.lines (heard_so_far held v)
acts Hears.Misplaced held v = strange (heard_so_far held v)

-- an octet comes to this: a client that has not failed and has heard so far hears the octet just so
abbrev pub OctetComes : {A : Type 0} → UnfinishedReply → ℕ → Spoken A → UnfinishedReply → Type 0
OctetComes old octet heard new =
    (v : View) → IsTrue (is_sound v.standing) → v.ear ≡ old.ear → v.gathered ≡ old.gathered → hears_octet v octet ≡ acts heard new v
