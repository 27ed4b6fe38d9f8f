-- On a client under a download, a reply, an octet of the link and its end can come in either order, as far as each is possible: the same
-- comes of both. So what the client holds is a function of the replies that came, the octets that came and how the link stands.
use Rattle.std.specs.Prelude.{◌≡◌, ℕ, false, List, Option}
use Rattle.ftp_wire.specs.Decoder.{Decoder}
use Rattle.ftp_operation.specs.declared.op.How.{How}
use Rattle.ftp_operation.specs.declared.op.Op.{Op}
use Rattle.ftp_operation.specs.declared.op.Op.TheVariants as Ops
use Rattle.ftp_reply.specs.Lines.{Text}
use Rattle.ftp_client_model.specs.Calls.{receives_octet, data_end, data_fault}
use Rattle.ftp_client_model.specs.Dialogue.{answered}
use Rattle.ftp_client_model.specs.View.{View as Near, Transferring, Receiving}
use Rattle.ftp_client_model.specs.declared.client.Abort.TheVariants as Aborts
use Rattle.ftp_client_model.specs.declared.client.ClientLink.{ClientLink}
use Rattle.ftp_client_model.specs.declared.client.ClientLink.TheVariants as Data
use Rattle.ftp_client_model.specs.declared.client.Replied.{Replied}
use Rattle.ftp_client_model.specs.declared.client.Replied.TheVariants as Replies
use Rattle.ftp_client_model.specs.declared.client.Standing.TheVariants as Standings

-- a client whose download has had these replies, octets and link
abbrev pub download_under_way : Op (List ℕ) → Replied → Decoder → Option ℕ → ClientLink → Near → Near
download_under_way op replied decoder mark connection n = record n {
  standing = Standings.Entered;
  job = Transferring op (record { replied = replied; abort = Aborts.Unsent; flow = Receiving decoder mark });
  connection = connection;
  closing = false;
}

-- a 150 or a 226, and an octet
pub record RepliesCommute (op : Op (List ℕ)) (d : Decoder) (mark : Option ℕ) (n : Near) (texts : List Text) : Type 0 where
  pub opening : (octet : ℕ)
      → receives_octet (answered 150 texts (download_under_way op Replies.Nothing d mark Data.Open n)) octet
      ≡ answered 150 texts (receives_octet (download_under_way op Replies.Nothing d mark Data.Open n) octet)
  pub final : (octet : ℕ)
      → receives_octet (answered 226 texts (download_under_way op Replies.Begun d mark Data.Open n)) octet
      ≡ answered 226 texts (receives_octet (download_under_way op Replies.Begun d mark Data.Open n) octet)

-- a 150 or a 226, and the end of the link or a break
pub record EndsCommute (op : Op (List ℕ)) (d : Decoder) (mark : Option ℕ) (n : Near) (texts : List Text) : Type 0 where
  pub opening_end : data_end (answered 150 texts (download_under_way op Replies.Nothing d mark Data.Open n))
      ≡ answered 150 texts (data_end (download_under_way op Replies.Nothing d mark Data.Open n))
  pub final_end : data_end (answered 226 texts (download_under_way op Replies.Begun d mark Data.Open n))
      ≡ answered 226 texts (data_end (download_under_way op Replies.Begun d mark Data.Open n))
  pub opening_break : data_fault (answered 150 texts (download_under_way op Replies.Nothing d mark Data.Open n))
      ≡ answered 150 texts (data_fault (download_under_way op Replies.Nothing d mark Data.Open n))
  pub final_break : data_fault (answered 226 texts (download_under_way op Replies.Begun d mark Data.Open n))
      ≡ answered 226 texts (data_fault (download_under_way op Replies.Begun d mark Data.Open n))

-- of both downloads that ask for all octets of a file
abbrev pub DownloadsCommute : Type 0
DownloadsCommute =
    (path : List ℕ) (offset : ℕ) (how : How) (d : Decoder) (mark : Option ℕ) (n : Near) (texts : List Text)
    → RepliesCommute (Ops.Get path how) d mark n texts × RepliesCommute (Ops.GetFrom path offset how) d mark n texts
    × EndsCommute (Ops.Get path how) d mark n texts × EndsCommute (Ops.GetFrom path offset how) d mark n texts
