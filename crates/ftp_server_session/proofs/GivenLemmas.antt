-- Whether octets are still to be given.
use Rattle.std.proofs.Common.{◌≡◌, [], ◌∷◌, not, ◌&&◌, refl}
use Rattle.ftp_ends.specs.Octets.{has_octets}
use Rattle.ftp_server_replies.specs.ServerTransfer.{has_nothing_left, takes_octets}
use Rattle.ftp_server_model.specs.Calls.{given_by}
use Rattle.ftp_server_model.specs.View.{Transfer}
use Rattle.ftp_server_model.specs.declared.session.ServerLink.TheVariants as Data
use Rattle.ftp_server_model.specs.declared.session.Transfer.TheVariants as Transfers

-- a transfer has octets to give exactly where it takes none and not all is given
pub some_left : (transfer : Transfer) → has_octets (given_by (Data.Transferring transfer)) ≡ (not (takes_octets transfer) && not (has_nothing_left transfer))
some_left (Transfers.Upload path keep d) = refl
some_left Transfers.OverLimit = refl
some_left (Transfers.Download []) = refl
some_left (Transfers.Download (octet ∷ rest)) = refl
some_left (Transfers.Listing []) = refl
some_left (Transfers.Listing (octet ∷ rest)) = refl
