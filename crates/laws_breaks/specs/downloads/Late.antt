-- What a client of a download holds does not depend on what comes to it first: octets of the control connection, or octets of the data connection and its
-- break. So where a world's break tells both ends at once, and a drive is told of it after it heard the 426, it is the same once both are in (RFC 959, section
-- 3.3).
use Rattle.std.specs.Prelude.{◌≡◌, ℕ, false, List, Option, None}
use Rattle.ftp_ends.specs.declared.link.Wants.TheVariants as Want
use Rattle.ftp_operation.specs.declared.op.Op.{Op}
use Rattle.ftp_wire.specs.Decoder.{Decoder}
use Rattle.ftp_client_model.specs.Calls.{data_fault, hears, receives, wants}
use Rattle.ftp_client_model.specs.Plan.{count_of}
use Rattle.ftp_client_model.specs.View.{Receiving, Transferring, View}
use Rattle.ftp_client_model.specs.declared.client.Abort.TheVariants as Aborts
use Rattle.ftp_client_model.specs.declared.client.ClientLink.TheVariants as Data
use Rattle.ftp_client_model.specs.declared.client.Replied.{Replied}
use Rattle.ftp_client_model.specs.declared.client.Standing.TheVariants as Standings

-- a client whose download, or listing, had these replies and brought this, over a link that is open; it sent no ABOR
abbrev pub downloading : Op (List ℕ) → Replied → Decoder → Option ℕ → View → View
downloading op replied decoder mark n = record n {
  standing = Standings.Entered;
  job = Transferring op (record { replied = replied; abort = Aborts.Unsent; flow = Receiving decoder mark });
  run = None;
  connection = Data.Open;
  closing = false;
}

-- where it heard control octets and still takes octets of a download that it asked for as a whole, these can come before those
abbrev pub HearsLate : Type 0
HearsLate =
    (op : Op (List ℕ)) → count_of op ≡ None → (replied : Replied) (decoder : Decoder) (mark : Option ℕ) (n : View) (heard came : List ℕ)
    → let v = downloading op replied decoder mark n in
    wants (hears v heard) ≡ Want.Receive → receives (hears v heard) came ≡ hears (receives v came) heard

-- and so can the break after them
abbrev pub BreaksLate : Type 0
BreaksLate =
    (op : Op (List ℕ)) → count_of op ≡ None → (replied : Replied) (decoder : Decoder) (mark : Option ℕ) (n : View) (heard came : List ℕ)
    → let v = downloading op replied decoder mark n in
    wants (hears v heard) ≡ Want.Receive → data_fault (receives (hears v heard) came) ≡ hears (data_fault (receives v came)) heard
