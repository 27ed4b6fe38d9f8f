-- A client is fit at the start, stays so with each call, and so never holds much (own choice of the limits).
use Rattle.std.specs.Prelude.{ℕ, ◌≤◌, List, IsTrue}
use Rattle.ftp_endpoint.specs.declared.host.Host.{Host}
use Rattle.ftp_endpoint.specs.Written.{IsTypedHost}
use Rattle.ftp_ends.specs.Limits.{held_limit}
use Rattle.ftp_operation.specs.Account.{is_user, is_password}
use Rattle.ftp_client_model.specs.Held.{ClientCall, IsTypedCall, called, held, block_stored_limit}
use Rattle.ftp_client_model.specs.View.{View, client}
use Rattle.ftp_client_model.specs.Fit.{IsFit}

-- it is at the start
abbrev pub StartIsFit : Type 0
StartIsFit = (user pass : List ℕ) (here peer : Host) → IsTrue (is_user user) → IsTrue (is_password pass) → IsTypedHost here → IsFit (client user pass here peer)

-- and after each call, with a growth refused too
abbrev pub CallsStayFit : Type 0
CallsStayFit = (call : ClientCall) (v : View) → IsTypedCall call → IsFit v → IsFit (called call v)

-- so it holds no more than it may, whatever it may store of a transfer
abbrev pub FitHoldsLittle : Type 0
FitHoldsLittle = (stored : ℕ) (v : View) → stored ≤ block_stored_limit → IsFit v → held stored v ≤ held_limit
