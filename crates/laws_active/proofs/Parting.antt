-- A client that is ahead, told that the control connection ended, reports what the drive's would.
use Rattle.std.proofs.Common.{◌≡◌, ℕ, true, false, List, [], refl, sym, ap, ◌∙◌}
use Rattle.ftp_ports.specs.Actions.{Stand}
use Rattle.ftp_client_driver.specs.Side.{client_side}
use Rattle.ftp_client_model.specs.Calls as near
use Rattle.ftp_client_model.specs.Calls.{accepted, data_closed, listening}
use Rattle.ftp_client_model.specs.View.{Doing, Flow, View as Near}
use Rattle.ftp_client_model.specs.declared.client.ClientLink.TheVariants as Data
use Rattle.ftp_client_model.specs.declared.client.Replied.TheVariants as Replies
use Rattle.ftp_client_model.specs.declared.client.Replied.{Replied}
use Rattle.ftp_client_model.specs.declared.client.Step.TheVariants as Steps
use Rattle.ftp_operation.specs.declared.op.Op.{Op}
use Rattle.laws_dialogues.specs.Fetches.{busy}
use Rattle.laws_drivers.specs.control.Between.{Between}
use Rattle.ftp_server_driver.specs.alone.Side.{server_side}
use Rattle.laws_drivers.proofs.events.Parting.{cut_report}
use Rattle.laws_active.specs.Lead.{Even, Joined, Told}
use Rattle.laws_active.specs.Refusals.{Gain, Heard, Led, gained_by}
use Rattle.laws_active.proofs.Accepting.{awaiting, joining, joins}
use Rattle.laws_active.proofs.Calls as calls
use Rattle.laws_active.proofs.Joining.{joins_form}
use Rattle.laws_active.proofs.Leading.{Comes, Stays, Waits}
use Rattle.laws_active.proofs.Gaining.{GainSo}

told_cut : (port : ℕ) (op : Op (List ℕ)) (n : Near)
    → near.report_of (near.control_end (listening port (busy (Doing op Steps.Listen) Data.ListenWanted n)))
    ≡ near.report_of (near.control_end (busy (Doing op Steps.Listen) Data.ListenWanted n))
unfolding listening near.control_end
told_cut port op n = refl

waits_cut : (op : Op (List ℕ)) (one other : Replied) (flow : Flow) (port : ℕ) (n m : Near)
    → near.report_of (near.control_end (joining op one flow n)) ≡ near.report_of (near.control_end (awaiting op other flow port m))
unfolding near.control_end
waits_cut op one other flow port n m = refl

comes_cut : (op : Op (List ℕ)) (one : Replied) (flow : Flow) (port : ℕ) (n m : Near)
    → near.report_of (near.control_end (joining op one flow n)) ≡ near.report_of (near.control_end (calls.listening op flow port m))
unfolding near.control_end
comes_cut op one flow port n m = refl

joined_cut : (v : Near) (octets : List ℕ) → Stays (data_closed v) octets
    → near.report_of (near.control_end (accepted true (near.hears (data_closed v) octets))) ≡ near.report_of (near.control_end v)
joined_cut v octets (Comes op flow few port octet more is o) =
    ap (λ n. near.report_of (near.control_end n))
    (ap (accepted true) o.whole ∙ joins op Replies.Begun flow few refl port (near.hears (data_closed v) octets))
    ∙ comes_cut op Replies.Begun flow port (near.hears (data_closed v) octets) (data_closed v)
    ∙ sym (ap (λ n. near.report_of (near.control_end n)) (o.fronts [] more octet (sym is)).0) ∙ cut_report false v
joined_cut v octets (Waits is a) =
    ap (λ n. near.report_of (near.control_end n)) (ap (λ l. accepted true (near.hears (data_closed v) l)) is ∙ joins_form (data_closed v) a)
    ∙ waits_cut a.op a.replied a.replied a.flow a.port (data_closed v) (data_closed v)
    ∙ sym (ap (λ n. near.report_of (near.control_end n)) a.is) ∙ cut_report false v

hearing_cut : (op : Op (List ℕ)) (flow : Flow) (port : ℕ) (n m : Near)
    → near.report_of (near.control_end (awaiting op Replies.Begun flow port n)) ≡ near.report_of (near.control_end (calls.listening op flow port m))
unfolding near.control_end
hearing_cut op flow port n m = refl

pub gained_cut : (gain : Gain) (more : List ℕ) (between : Between) (told : ℕ) (server : Stand server_side) (c : Stand client_side)
    → GainSo gain more between told server c
    → near.report_of (near.control_end (gained_by gain c.owner.end.view)) ≡ near.report_of (near.control_end c.owner.end.view)
gained_cut (Led Even) more between told server c so = refl
gained_cut (Led (Told port)) more between told server c so =
    let v : Near = c.owner.end.view in
    ap (λ n. near.report_of (near.control_end (listening port n))) so.0.view ∙ told_cut port so.0.op v
    ∙ sym (ap (λ n. near.report_of (near.control_end n)) so.0.view) ∙ cut_report false v
gained_cut (Led (Joined octets)) more between told server c so = joined_cut c.owner.end.view octets so.0.stays.0
gained_cut (Heard octets) more between told server c so =
    let v : Near = c.owner.end.view in
    let h = so.0 in
    ap (λ n. near.report_of (near.control_end n)) h.opens.whole
    ∙ hearing_cut h.op h.flow h.port (near.hears (data_closed v) octets) (data_closed v)
    ∙ sym (ap (λ n. near.report_of (near.control_end n)) (h.opens.fronts [] h.others h.octet (sym h.some)).0) ∙ cut_report false v
