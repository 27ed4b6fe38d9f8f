-- How many octets each transfer stores: the sum of the lengths of its fields that have any. Not among it are the octets that came of an upload,
-- nor what a transfer shares with the tree.
use Rattle.std.specs.Prelude.{◌≡◌, ℕ, ◌+◌, length, Option, Some, None}
use Rattle.ftp_wire.specs.Stored.{encoder_len}
use Rattle.ftp_wire.specs.declared.encoder.Encoder.{Encoder}
use Rattle.ftp_server_model.specs.Held.{path_len}
use Rattle.ftp_server_transfer.specs.declared.download.Download.{Download}
use Rattle.ftp_server_transfer.specs.declared.line.What.{What}
use Rattle.ftp_server_transfer.specs.declared.line.What.TheVariants as Whats
use Rattle.ftp_server_transfer.specs.declared.listing.Listing.{Listing}
use Rattle.ftp_server_transfer.specs.declared.upload.Upload.{Upload}
use Rattle.ftp_server_transfer.specs.declared.transfer.TreeTransfer.{TreeTransfer}
use Rattle.ftp_server_transfer.specs.declared.transfer.TreeTransfer.TheVariants as Kinds

-- an encoder, where there is one
abbrev pub some_encoder_len : Option Encoder → ℕ
some_encoder_len None = 0
some_encoder_len (Some encoder) = encoder_len encoder

-- a download: what its encoder stores
abbrev pub download_len : {A T O D : Type 0} → Download A T O D → ℕ
download_len d = some_encoder_len d.encoder

-- an upload: its path, and the restart marker in its decoder
abbrev pub upload_len : {A T O D : Type 0} → Upload A T O D → ℕ
upload_len u = path_len u.path + length u.decoder.marker

-- the argument of NLST
abbrev pub what_len : {A : Type 0} → What A → ℕ
what_len Whats.Lines = 0
what_len (Whats.Names text) = length text
what_len (Whats.Entries facts) = 0

-- a listing: its path, the argument, what its encoder stores, the lines that are given, and those after them. The names of its entries are not
-- among it: they are the tree's own octets, held with it by counting, also where the tree lets go of one; beside its name an entry has numbers
abbrev pub listing_len : {A : Type 0} → Listing A → ℕ
listing_len l = path_len l.path + (what_len l.what + (encoder_len l.encoder + (length l.lines.items + length l.ahead.items)))

-- a transfer of any kind
abbrev pub stored_of : {A T O D : Type 0} → TreeTransfer A T O D → ℕ
stored_of (Kinds.Upload upload) = upload_len upload
stored_of Kinds.OverLimit = 0
stored_of (Kinds.Download download) = download_len download
stored_of (Kinds.Listing listing) = listing_len listing

-- ---- nothing else is stored: each is what the sums count, and numbers

-- a download is its open file, a place in it, and its encoder
abbrev pub IsWholeDownload : {A T O D : Type 0} → Download A T O D → Type 0
IsWholeDownload {A} {T} {O} {D} d = (e : Download A T O D) → e.file ≡ d.file → e.at ≡ d.at → e.encoder ≡ d.encoder → e ≡ d

-- an upload is its path, how much it keeps, and its decoder, which has what came
abbrev pub IsWholeUpload : {A T O D : Type 0} → Upload A T O D → Type 0
IsWholeUpload {A} {T} {O} {D} u = (e : Upload A T O D) → e.path ≡ u.path → e.keep ≡ u.keep → e.decoder ≡ u.decoder → e ≡ u

-- a listing is its allocator, what is listed, the entries of the directory, its encoder, the lines, how many of their octets were taken, those after
-- them, and a place among the entries
abbrev pub IsWholeListing : {A : Type 0} → Listing A → Type 0
IsWholeListing {A} l =
    (e : Listing A) → e.alloc ≡ l.alloc → e.what ≡ l.what → e.path ≡ l.path → e.entries ≡ l.entries → e.encoder ≡ l.encoder
    → e.lines ≡ l.lines → e.given ≡ l.given → e.ahead ≡ l.ahead → e.place ≡ l.place → e ≡ l
