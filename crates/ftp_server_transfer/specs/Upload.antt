-- An upload as the definitions of the server see it.
use Rattle.ftp_server_model.specs.View.{Transfer}
use Rattle.ftp_server_model.specs.declared.session.Transfer.TheVariants as Transfers
use Rattle.ftp_server_transfer.specs.declared.upload.Upload.{Upload}

-- the transfer that it is
abbrev pub upload_seen : {A T O D : Type 0} → Upload A T O D → Transfer
upload_seen u = Transfers.Upload u.path u.keep u.decoder.decoder
