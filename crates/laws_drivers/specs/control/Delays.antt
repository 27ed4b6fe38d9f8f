-- What a client holds where the end or the break of a data connection, or its opening, comes to it later than in a world: once its final reply is
-- in too, the same; and after the end of the control connection nobody asks whether it came (RFC 959, section 3.3).
use Rattle.std.specs.Prelude.{◌≡◌, ℕ, true, false, if◌then◌else◌, List, ◌∷◌, Option, None}
use Rattle.ftp_reply.specs.Lines.{Text}
use Rattle.ftp_operation.specs.declared.op.How.{How}
use Rattle.ftp_operation.specs.declared.op.Op.{Op}
use Rattle.ftp_operation.specs.declared.op.Op.TheVariants as Ops
use Rattle.ftp_wire.specs.Decoder.{Decoder}
use Rattle.ftp_client_model.specs.Calls.{accepted, control_end, data_closed, data_fault, receives_octet}
use Rattle.ftp_client_model.specs.Dialogue.{answered}
use Rattle.ftp_client_model.specs.View.{View, Transferring, Flow, Sending, Receiving}
use Rattle.ftp_client_model.specs.declared.client.Abort.TheVariants as Aborts
use Rattle.ftp_client_model.specs.declared.client.ClientLink.{ClientLink}
use Rattle.ftp_client_model.specs.declared.client.ClientLink.TheVariants as Data
use Rattle.ftp_client_model.specs.declared.client.Replied.{Replied}
use Rattle.ftp_client_model.specs.declared.client.Replied.TheVariants as Replies
use Rattle.ftp_client_model.specs.declared.client.Standing.TheVariants as Standings

-- a close that is wanted is done
abbrev pub closed : View → View
closed v = if v.closing then data_closed v else v

-- a client in the midst of a transfer
abbrev pub at_transfer : Op (List ℕ) → Replied → Flow → ClientLink → View → View
at_transfer op replied flow connection n = record n {
  standing = Standings.Entered;
  job = Transferring op (record { replied = replied; abort = Aborts.Unsent; flow = flow });
  connection = connection;
  closing = false;
  run = None;
}

-- a 426 is heard before or after an octet and the break, of a Get
abbrev pub DownBreaksCommute : Type 0
DownBreaksCommute = (path : List ℕ) (how : How) (d : Decoder) (mark : Option ℕ) (n : View) (texts : List Text)
    → let v = at_transfer (Ops.Get path how) Replies.Begun (Receiving d mark) Data.Open n in
    (data_fault (answered 426 texts v) ≡ answered 426 texts (data_fault v))
    × ((octet : ℕ) → receives_octet (answered 426 texts v) octet ≡ answered 426 texts (receives_octet v octet))

-- a 426 is heard before or after the break, of a Put that has octets to give
abbrev pub UpBreaksCommute : Type 0
UpBreaksCommute = (path octets : List ℕ) (how : How) (octet : ℕ) (left : List ℕ) (mark : Option ℕ) (n : View) (texts : List Text)
    → let v = at_transfer (Ops.Put path octets how) Replies.Begun (Sending (octet ∷ left) mark) Data.Open n in
    data_fault (answered 426 texts v) ≡ answered 426 texts (data_fault v)

-- a client that was told of a break and waits for the final reply, and one that was not, are one after the end of the control connection
abbrev pub EndForgetsBreak : Type 0
EndForgetsBreak = (op : Op (List ℕ)) (flow : Flow) (n : View)
    → let v = at_transfer op Replies.Nothing flow Data.Open n in
    closed (control_end (data_fault v)) ≡ closed (control_end v)

-- the client at its port hears 226 before or after the opening by a host that is its peer, of a Get
abbrev pub OpeningCommutes : Type 0
OpeningCommutes = (path : List ℕ) (how : How) (d : Decoder) (mark : Option ℕ) (port : ℕ) (n : View) (texts : List Text)
    → let v = at_transfer (Ops.Get path how) Replies.Begun (Receiving d mark) (Data.Accepting port) n in
    (accepted true (answered 226 texts v) ≡ answered 226 texts (accepted true v))

-- the client at its port that hears 426 closes it: as where it was opened and broke before
abbrev pub UnopenedIsBroken : Type 0
UnopenedIsBroken = (path : List ℕ) (how : How) (d : Decoder) (mark : Option ℕ) (port : ℕ) (n : View) (texts : List Text)
    → let v = at_transfer (Ops.Get path how) Replies.Begun (Receiving d mark) in
    closed (answered 426 texts (v (Data.Accepting port) n)) ≡ answered 426 texts (data_fault (v Data.Open n))

-- the same after the 1yz, of a Get, and of a Put that has octets to give
abbrev pub EndForgetsLateBreak : Type 0
EndForgetsLateBreak = (path octets : List ℕ) (how : How) (d : Decoder) (octet : ℕ) (left : List ℕ) (mark : Option ℕ) (n : View)
    → let down = at_transfer (Ops.Get path how) Replies.Begun (Receiving d mark) Data.Open n in
    let up = at_transfer (Ops.Put path octets how) Replies.Begun (Sending (octet ∷ left) mark) Data.Open n in
    (closed (control_end (data_fault down)) ≡ closed (control_end down))
    × (closed (control_end (data_fault up)) ≡ closed (control_end up))

-- 226, 451 and 552 are heard before or after the break, of a Put that has octets to give
abbrev pub UpRepliesCommute : Type 0
UpRepliesCommute = (path octets : List ℕ) (how : How) (octet : ℕ) (left : List ℕ) (mark : Option ℕ) (n : View) (texts : List Text)
    → let v = at_transfer (Ops.Put path octets how) Replies.Begun (Sending (octet ∷ left) mark) Data.Open n in
    (data_fault (answered 226 texts v) ≡ answered 226 texts (data_fault v))
    × (data_fault (answered 451 texts v) ≡ answered 451 texts (data_fault v))
    × (data_fault (answered 552 texts v) ≡ answered 552 texts (data_fault v))
    × (data_fault (answered 425 texts v) ≡ answered 425 texts (data_fault v))
