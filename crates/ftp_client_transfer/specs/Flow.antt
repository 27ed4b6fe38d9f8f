-- What goes over a data connection, as the definitions of the client have it.
use Rattle.std.specs.Prelude.{ℕ, List, drop}
use Rattle.ftp_operation.specs.declared.op.Op.{Op}
use Rattle.ftp_client_model.specs.View.{Flow, Sending, Receiving}
use Rattle.ftp_wire.specs.Encoding.{still_to_give}
use Rattle.ftp_client_transfer.specs.Octets.{octets_of}
use Rattle.ftp_client_transfer.specs.declared.transfer.OperationTransfer.{OperationTransfer}
use Rattle.ftp_client_transfer.specs.declared.transfer.OperationTransfer.TheVariants as Carryings
use Rattle.ftp_client_transfer.specs.declared.download.Download.{Download}
use Rattle.ftp_client_transfer.specs.declared.upload.Upload.{Upload}

-- the octets of the wire that are still to give of these
abbrev pub left_in : List ℕ → Upload → List ℕ
left_in octets upload = still_to_give upload.encoder (drop upload.at octets)

-- an upload of these octets
abbrev pub flow_of_upload : List ℕ → Upload → Flow
flow_of_upload octets upload = Sending (left_in octets upload) upload.mark

-- a download
abbrev pub flow_of_download : {A : Type 0} → Download A → Flow
flow_of_download download = Receiving download.decoder.decoder download.mark

-- either
abbrev pub flow_in : {A : Type 0} → Op (List ℕ) → OperationTransfer A → Flow
flow_in op (Carryings.Upload upload) = flow_of_upload (octets_of op) upload
flow_in op (Carryings.Download download) = flow_of_download download
