-- What a client of an upload holds does not depend on what comes to it first: octets of the control connection, or the break of its data connection. So where a
-- world's break tells both ends at once, and a drive is told of it after it heard the 426, it is the same once both are in (RFC 959, section 3.3). Nor does
-- it depend on whether it gives octets, and closes its link after the last of them, before it hears those or after.
use Rattle.std.specs.Prelude.{◌≡◌, ℕ, false, List, ◌∷◌, Option, None}
use Rattle.ftp_ends.specs.declared.link.Wants.TheVariants as Want
use Rattle.ftp_operation.specs.declared.op.Op.{Op}
use Rattle.ftp_client_model.specs.Calls.{data_fault, gives_data, hears, wants}
use Rattle.ftp_client_model.specs.Plan.{count_of}
use Rattle.ftp_client_model.specs.View.{Sending, Transferring, View}
use Rattle.ftp_client_model.specs.declared.client.Abort.TheVariants as Aborts
use Rattle.ftp_client_model.specs.declared.client.ClientLink.TheVariants as Data
use Rattle.ftp_client_model.specs.declared.client.Replied.{Replied}
use Rattle.ftp_client_model.specs.declared.client.Replied.TheVariants as Replies
use Rattle.ftp_client_model.specs.declared.client.Standing.TheVariants as Standings

-- a client whose upload had these replies, has these octets to give, and heard so many to be held, over a link that is open
abbrev pub uploading : Op (List ℕ) → Replied → List ℕ → Option ℕ → View → View
uploading op replied left mark n = record n {
  standing = Standings.Entered;
  job = Transferring op (record { replied = replied; abort = Aborts.Unsent; flow = Sending left mark });
  run = None;
  connection = Data.Open;
  closing = false;
}

-- where it has octets to give, heard control octets and still gives, these can come after the break of its link
abbrev pub UploadsBreakLate : Type 0
UploadsBreakLate =
    (op : Op (List ℕ)) → count_of op ≡ None → (replied : Replied) (octet : ℕ) (more : List ℕ) (mark : Option ℕ) (n : View) (heard : List ℕ)
    → let v = uploading op replied (octet ∷ more) mark n in
    wants (hears v heard) ≡ Want.Send → data_fault (hears v heard) ≡ hears (data_fault v) heard

-- where its 150 is in and it heard control octets and still gives, octets that it gives then can come before those
abbrev pub UploadsGiveLate : Type 0
UploadsGiveLate =
    (op : Op (List ℕ)) → count_of op ≡ None → (octet : ℕ) (more : List ℕ) (mark : Option ℕ) (n : View) (heard : List ℕ) (count : ℕ)
    → let v = uploading op Replies.Begun (octet ∷ more) mark n in
    wants (hears v heard) ≡ Want.Send → gives_data count (hears v heard) ≡ hears (gives_data count v) heard
