-- A client stays fit with each call of the trait `Near`, where a growth is refused too. So whoever keeps the clauses of `Near` holds no more than
-- it may at the exit of each call.
use Rattle.std.specs.Prelude.{◌≡◌, ℕ, ◌<◌, false, List}
use Rattle.ftp_endpoint.specs.declared.host.Host.{Host}
use Rattle.ftp_operation.specs.declared.op.Op.{Op}
use Rattle.ftp_client_model.specs.Calls.{control_end, data_closed, data_end, data_fault, data_opened, data_refused, gives_control, gives_data, is_busy, listen_refused, port_told, reports, starts, uploads}
use Rattle.ftp_client_model.specs.Failing.{Client, HearsIfRoom, Holds, HoldsIfRoom, ReceivesIfRoom, data_end_short, data_fault_short, data_opened_short, data_refused_short, listen_refused_short, port_told_short, short, starts_short, uploads_short}
use Rattle.ftp_client_model.specs.Tries.{OverBreaks}
use Rattle.ftp_client_model.specs.Fit.{IsFit}

-- after each call, as its clauses say it
pub record NearIsFit (old new : Client) : Type 0 where
  pub begins : (op : Op (List ℕ)) → is_busy old.view ≡ false → HoldsIfRoom old new (starts op old.view) (starts_short op old.view) → IsFit new.view
  pub begins_upload : (upload : OverBreaks) → is_busy old.view ≡ false → HoldsIfRoom old new (uploads upload old.view) (uploads_short upload old.view) → IsFit new.view
  pub handed_back : Holds old new old.view → IsFit new.view
  pub report : Holds old new (reports old.view) → IsFit new.view
  pub hear : (piece : List ℕ) (count : ℕ) → HearsIfRoom old new piece count → IsFit new.view
  pub control_out : (count : ℕ) → Holds old new (gives_control count old.view) → IsFit new.view
  pub control_ended : Holds old new (control_end old.view) → IsFit new.view
  pub listens : (port : ℕ) → port < 65536 → HoldsIfRoom old new (port_told port old.view) (port_told_short port old.view) → IsFit new.view
  pub no_port : HoldsIfRoom old new (listen_refused old.view) (listen_refused_short old.view) → IsFit new.view
  pub opened : (host : Host) → HoldsIfRoom old new (data_opened host old.view) (data_opened_short old.view) → IsFit new.view
  pub refused : HoldsIfRoom old new (data_refused old.view) (data_refused_short old.view) → IsFit new.view
  pub received : (piece : List ℕ) (count : ℕ) → ReceivesIfRoom old new piece count → IsFit new.view
  pub ended : HoldsIfRoom old new (data_end old.view) (data_end_short old.view) → IsFit new.view
  pub broke : HoldsIfRoom old new (data_fault old.view) (data_fault_short old.view) → IsFit new.view
  pub gave : (count : ℕ) → HoldsIfRoom old new (gives_data count old.view) (short old.view) → IsFit new.view
  pub closed : Holds old new (data_closed old.view) → IsFit new.view

-- whatever is refused
abbrev pub NearStaysFit : Type 0
NearStaysFit = (old new : Client) → IsFit old.view → NearIsFit old new
