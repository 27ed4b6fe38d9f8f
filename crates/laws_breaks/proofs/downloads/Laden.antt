-- A client whose download is under way over a link that is open, ABOR sent or not, and which waits for a reply: once it is told of the break of that link it is
-- the same, but for the link.
use Rattle.std.proofs.Common.{◌≡◌, ℕ, true, false, List, Option, None, sym, ap, ◌∙◌}
use Rattle.std.specs.Prelude.{drop}
use Rattle.ftp_ends.specs.declared.link.Wants.TheVariants as Want
use Rattle.ftp_operation.specs.declared.op.Op.{Op}
use Rattle.ftp_wire.specs.Decoder.{Decoder}
use Rattle.ftp_client_model.specs.Calls as near
use Rattle.ftp_client_model.specs.Calls.{data_fault, is_busy, report_of}
use Rattle.ftp_client_model.specs.View.{Receiving, Transferring, View as Near}
use Rattle.ftp_client_model.specs.declared.client.Abort.{Abort}
use Rattle.ftp_client_model.specs.declared.client.Abort.TheVariants as Aborts
use Rattle.ftp_client_model.specs.declared.client.ClientLink.TheVariants as NearData
use Rattle.ftp_client_model.specs.declared.client.Replied.{Replied}
use Rattle.ftp_client_model.specs.declared.client.Replied.TheVariants as Replies
use Rattle.ftp_client_model.specs.declared.client.Standing.TheVariants as Standings
use Rattle.laws_breaks.specs.downloads.Claims.{ReportAlike}
use Rattle.laws_breaks.proofs.downloads.Untold.{Loading, fault_told, told}

-- a client of which this download is under way
abbrev pub bringing : Op (List ℕ) → Replied → Abort → Decoder → Option ℕ → Near → Near
bringing op replied abort decoder mark n = record n {
  standing = Standings.Entered;
  job = Transferring op (record { replied = replied; abort = abort; flow = Receiving decoder mark });
  run = None;
  connection = NearData.Open;
  closing = false;
}

pub record Laden (n : Near) : Type 0 where
  pub op : Op (List ℕ)
  pub replied : Replied
  pub abort : Abort
  pub decoder : Decoder
  pub mark : Option ℕ
  pub near : n ≡ bringing op replied abort decoder mark n
  pub stays : data_fault n ≡ told n

-- so is one of which less came than was asked for
pub loading_laden : (n : Near) → Loading n → Laden n
loading_laden n l = record {
  op = l.op;
  replied = l.replied;
  abort = Aborts.Unsent;
  decoder = l.decoder;
  mark = l.mark;
  near = l.near;
  stays = fault_told n l;
}

-- and one that sent ABOR, and heard no reply since
pub record Awaiting (n : Near) : Type 0 where
  pub op : Op (List ℕ)
  pub decoder : Decoder
  pub mark : Option ℕ
  pub near : n ≡ bringing op Replies.Begun Aborts.Sent decoder mark n

pub awaiting_laden : (n : Near) → Awaiting n → Laden n
unfolding data_fault
awaiting_laden n a = record {
  op = a.op;
  replied = Replies.Begun;
  abort = Aborts.Sent;
  decoder = a.decoder;
  mark = a.mark;
  near = a.near;
  stays = ap data_fault a.near ∙ ap told (sym a.near);
}

-- once it said octets
pub awaiting_says : (n : Near) (count : ℕ) → Awaiting n → Awaiting (near.gives_control count n)
awaiting_says n count a =
    record { op = a.op; decoder = a.decoder; mark = a.mark; near = ap (λ (v : Near). record v { owed = drop count n.owed }) a.near }

-- ---- what it wants

module _ (n : Near) (l : Laden n) where
  pub laden_wants : near.wants n ≡ Want.Receive
  unfolding near.wants
  laden_wants = ap near.wants l.near

  pub laden_rests : near.wants (told n) ≡ Want.Nothing
  unfolding near.wants
  laden_rests = ap (λ v. near.wants (told v)) l.near

  pub laden_busy : is_busy n ≡ true
  laden_busy = ap is_busy l.near

  pub laden_none : report_of n ≡ None
  laden_none = ap report_of l.near

  pub laden_open : n.closing ≡ false
  laden_open = ap (λ (v : Near). v.closing) l.near

  -- its report is none, and it wants no close
  pub laden_reports : near.reports (told n) ≡ told n
  laden_reports = ap (λ v. near.reports (told v)) l.near ∙ ap told (sym l.near)

  pub laden_closed : near.data_closed (told n) ≡ told n
  laden_closed = ap (λ v. near.data_closed (told v)) l.near ∙ ap told (sym l.near)

  -- it has no report, and it is lost where the control connection ends, as one that was not told
  pub laden_alike : ReportAlike (told n) n
  unfolding near.control_end
  laden_alike = (
    ap (λ v. report_of (told v)) l.near ∙ sym (ap report_of l.near),
    ap (λ v. report_of (near.control_end (told v))) l.near ∙ sym (ap (λ v. report_of (near.control_end v)) l.near),
  )
