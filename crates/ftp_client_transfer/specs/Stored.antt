-- How many octets each transfer of a client stores: the sum of the lengths of its fields that have any. Not among it are the octets that came of
-- a download, which are its report's; an upload shares its file with its operation.
use Rattle.std.specs.Prelude.{◌≡◌, ℕ, length}
use Rattle.ftp_wire.specs.Stored.{encoder_len}
use Rattle.ftp_client_transfer.specs.declared.download.Download.{Download}
use Rattle.ftp_client_transfer.specs.declared.upload.Upload.{Upload}
use Rattle.ftp_client_transfer.specs.declared.transfer.OperationTransfer.{OperationTransfer}
use Rattle.ftp_client_transfer.specs.declared.transfer.OperationTransfer.TheVariants as Carryings

-- an upload: what its encoder stores
abbrev pub upload_encoder_len : Upload → ℕ
upload_encoder_len u = encoder_len u.encoder

-- a download: the restart marker in its decoder
abbrev pub download_marker_len : {A : Type 0} → Download A → ℕ
download_marker_len d = length d.decoder.marker

-- either
abbrev pub stored_in_operation : {A : Type 0} → OperationTransfer A → ℕ
stored_in_operation (Carryings.Upload upload) = upload_encoder_len upload
stored_in_operation (Carryings.Download download) = download_marker_len download

-- ---- nothing else is stored: each is what the sums count, and numbers

-- an upload is its encoder, a place in its operation's octets, and the mmmm of a 110 reply
abbrev pub IsEncoderPlaceAndMark : Upload → Type 0
IsEncoderPlaceAndMark u = (e : Upload) → e.encoder ≡ u.encoder → e.at ≡ u.at → e.mark ≡ u.mark → e ≡ u

-- a download is its decoder, which has what came, and the last marker that is a number
abbrev pub IsDecoderAndMark : {A : Type 0} → Download A → Type 0
IsDecoderAndMark {A} d = (e : Download A) → e.decoder ≡ d.decoder → e.mark ≡ d.mark → e ≡ d
