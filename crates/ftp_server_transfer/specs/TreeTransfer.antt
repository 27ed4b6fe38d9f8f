-- A transfer of any kind as the definitions of the server see it.
use Rattle.std.specs.Prelude.{ℕ, List}
use Rattle.ftp_server_model.specs.View.{Transfer}
use Rattle.ftp_server_model.specs.declared.session.Transfer.TheVariants as Transfers
use Rattle.ftp_server_transfer.specs.Download.{rest_of as download_left}
use Rattle.ftp_server_transfer.specs.Upload.{upload_seen}
use Rattle.ftp_server_transfer.specs.Rest.{rest_of as listing_left}
use Rattle.ftp_server_transfer.specs.declared.transfer.TreeTransfer.{TreeTransfer}
use Rattle.ftp_server_transfer.specs.declared.transfer.TreeTransfer.TheVariants as Kinds

-- the transfer that it is, where `opened` are the octets of an open file
abbrev pub transfer_of : {A T O D : Type 0} → (O → List ℕ) → TreeTransfer A T O D → Transfer
transfer_of opened (Kinds.Upload upload) = upload_seen upload
transfer_of opened Kinds.OverLimit = Transfers.OverLimit
transfer_of opened (Kinds.Download download) = Transfers.Download (download_left opened download)
transfer_of opened (Kinds.Listing listing) = Transfers.Listing (listing_left listing)
