-- No step of a call lets a line wait that did not.
use Rattle.std.proofs.Common.{◌≡◌, ◌∙◌, ℕ, Bool, true, false, [], ◌∷◌, refl}
use Rattle.ftp_endpoint.specs.declared.host.Host.{Host}
use Rattle.ftp_ends.specs.Link.{same_host}
use Rattle.ftp_server_model.specs.Calls.{break_step, breaks, connection_of, end_step, ends, given_step, no_port_step, opened_step, opens, port_opens, port_opens_for, refused_step, refuses, takes_given, unheard}
use Rattle.ftp_server_model.specs.Machine.{completed, given_out}
use Rattle.ftp_server_model.specs.View.{Transfer, View}
use Rattle.ftp_server_model.specs.declared.session.ServerLink.{ServerLink}
use Rattle.ftp_server_model.specs.declared.session.ServerLink.TheVariants as Data
use Rattle.ftp_server_model.specs.declared.session.Transfer.TheVariants as Transfers
use Rattle.ftp_server_model.specs.declared.session.Way.TheVariants as Ways

given_out_waits : (connection : ServerLink Transfer) (v : View) → (given_out connection v).waiting ≡ v.waiting
given_out_waits (Data.Transferring (Transfers.Upload path keep d)) v = refl
given_out_waits (Data.Transferring Transfers.OverLimit) v = refl
given_out_waits (Data.Transferring (Transfers.Download [])) v = refl
given_out_waits (Data.Transferring (Transfers.Download (octet ∷ rest))) v = refl
given_out_waits (Data.Transferring (Transfers.Listing [])) v = refl
given_out_waits (Data.Transferring (Transfers.Listing (octet ∷ rest))) v = refl
given_out_waits connection v = refl

completed_waits : (v : View) → (completed v).waiting ≡ v.waiting
completed_waits v = given_out_waits v.session.connection v

port_waits : (is_peer : Bool) (v : View) → (port_opens is_peer v).waiting ≡ v.waiting
port_waits true v = refl
port_waits false v = refl

port_for_waits : (is_peer : Bool) (transfer : Transfer) (v : View) → (port_opens_for is_peer transfer v).waiting ≡ v.waiting
port_for_waits true transfer v = refl
port_for_waits false transfer v = refl

opens_waits : (connection : ServerLink Transfer) (is_peer : Bool) (v : View) → (opens connection is_peer v).waiting ≡ v.waiting
opens_waits Data.Passive is_peer v = port_waits is_peer v
opens_waits (Data.Opening transfer Ways.Accept) is_peer v = port_for_waits is_peer transfer v
opens_waits (Data.Opening transfer (Ways.Connect endpoint)) is_peer v = refl
opens_waits connection is_peer v = refl

pub opened_waits : (host : Host) (v : View) → (opened_step host v).waiting ≡ v.waiting
opened_waits host v =
    let is_peer : Bool = same_host host v.context.peer in
    completed_waits (opens (connection_of v.session) is_peer v) ∙ opens_waits (connection_of v.session) is_peer v

unheard_waits : (connection : ServerLink Transfer) (v : View) → (unheard connection v).waiting ≡ v.waiting
unheard_waits (Data.Asked asked) v = refl
unheard_waits connection v = refl

pub no_port_waits : (v : View) → (no_port_step v).waiting ≡ v.waiting
no_port_waits v = unheard_waits (connection_of v.session) v

refuses_waits : (connection : ServerLink Transfer) (v : View) → (refuses connection v).waiting ≡ v.waiting
refuses_waits Data.Passive v = refl
refuses_waits (Data.Opening transfer way) v = refl
refuses_waits connection v = refl

pub refused_waits : (v : View) → (refused_step v).waiting ≡ v.waiting
refused_waits v = refuses_waits (connection_of v.session) v

takes_waits : (connection : ServerLink Transfer) (count : ℕ) (v : View) → (takes_given connection count v).waiting ≡ v.waiting
takes_waits (Data.Transferring (Transfers.Upload path keep d)) count v = refl
takes_waits (Data.Transferring Transfers.OverLimit) count v = refl
takes_waits (Data.Transferring (Transfers.Download rest)) count v = refl
takes_waits (Data.Transferring (Transfers.Listing rest)) count v = refl
takes_waits connection count v = refl

pub given_waits : (count : ℕ) (v : View) → (given_step count v).waiting ≡ v.waiting
given_waits count v = completed_waits (takes_given (connection_of v.session) count v) ∙ takes_waits (connection_of v.session) count v

ends_waits : (connection : ServerLink Transfer) (v : View) → (ends connection v).waiting ≡ v.waiting
ends_waits Data.Ready v = refl
ends_waits (Data.Transferring transfer) v = refl
ends_waits connection v = refl

pub end_waits : (v : View) → (end_step v).waiting ≡ v.waiting
end_waits v = ends_waits (connection_of v.session) v

breaks_waits : (connection : ServerLink Transfer) (v : View) → (breaks connection v).waiting ≡ v.waiting
breaks_waits Data.Ready v = refl
breaks_waits (Data.Transferring transfer) v = refl
breaks_waits connection v = refl

pub break_waits : (v : View) → (break_step v).waiting ≡ v.waiting
break_waits v = breaks_waits (connection_of v.session) v
