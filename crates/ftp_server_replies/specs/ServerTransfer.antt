-- What a transfer does, as the definitions' transfer: octets come or are given, and it ends.
use Rattle.std.specs.Prelude.{◌≡◌, ℕ, Bool, true, false, List, [], ◌∷◌, drop, Result, Ok, Err}
use Rattle.ftp_tree.specs.Tree.{Table}
use Rattle.ftp_tree.specs.Change.{Failures, IsSteady, NoStray}
use Rattle.ftp_server_model.specs.View.{Session, Transfer, View, seen}
use Rattle.ftp_server_model.specs.Machine.{Ending, owes, later, faulted, has_room}
use Rattle.ftp_server_model.specs.Replies.{reply_octets, mark_reply}
use Rattle.ftp_server_model.specs.Calls.{receives, MayReceive, with_connection}
use Rattle.ftp_server_model.specs.Failing.{Late, AreReceived}
use Rattle.ftp_server_model.specs.declared.reply.FixedReply.{FixedReply}
use Rattle.ftp_server_model.specs.declared.session.Transfer.TheVariants as Transfers
use Rattle.ftp_server_model.specs.declared.session.ServerLink.TheVariants as Data
use Rattle.ftp_server_replies.specs.Fault.{Counted}
use Rattle.ftp_server_replies.specs.declared.fault.Fault.{Fault}
use Rattle.ftp_server_replies.specs.declared.transfer.Told.{Told}
use Rattle.ftp_server_replies.specs.declared.transfer.Told.TheVariants.{Nothing, Mark, Faulty, NoMemory}

-- ---- octets are given

-- what a transfer has still to give
abbrev pub left_to_give : Transfer → List ℕ
left_to_give (Transfers.Upload path keep d) = []
left_to_give Transfers.OverLimit = []
left_to_give (Transfers.Download rest) = rest
left_to_give (Transfers.Listing rest) = rest

-- the same behind so many octets of it
abbrev pub behind : ℕ → Transfer → Transfer
behind count (Transfers.Upload path keep d) = Transfers.Upload path keep d
behind count Transfers.OverLimit = Transfers.OverLimit
behind count (Transfers.Download rest) = Transfers.Download (drop count rest)
behind count (Transfers.Listing rest) = Transfers.Listing (drop count rest)

-- nothing is left to be given
abbrev pub is_nothing : List ℕ → Bool
is_nothing [] = true
is_nothing (octet ∷ octets) = false

-- a download or a listing of which nothing is left
abbrev pub has_nothing_left : Transfer → Bool
has_nothing_left (Transfers.Upload path keep d) = false
has_nothing_left Transfers.OverLimit = false
has_nothing_left (Transfers.Download rest) = is_nothing rest
has_nothing_left (Transfers.Listing rest) = is_nothing rest

-- ---- octets come

-- it takes octets
abbrev pub takes_octets : Transfer → Bool
takes_octets (Transfers.Upload path keep d) = true
takes_octets Transfers.OverLimit = true
takes_octets (Transfers.Download rest) = false
takes_octets (Transfers.Listing rest) = false

-- it is under way in a view with room for what is to be said of an octet, beside this part of the map
pub record IsTransferUnderWay (part : Table) (transfer : Transfer) (v : View) : Type 0 where
  pub carried : v.session.connection ≡ Data.Transferring transfer
  pub going : v.session.closing ≡ false
  pub sees : seen v.session ≡ part
  pub room : has_room v ≡ true

-- octets that came lead to this view, and to what is to be said; or the transfer is over by the last of them
abbrev pub ComesTo : View → List ℕ → Told → View → Type 0
ComesTo v octets Nothing w = MayReceive v octets × (receives v octets ≡ w)
ComesTo v octets (Mark marker) w = MayReceive v octets × (receives v octets ≡ owes (reply_octets (mark_reply marker.text.items marker.held)) w)
ComesTo v octets Faulty w =
    MayReceive v octets × (receives v octets ≡ later (faulted v)) × ((x : View) → Late (faulted v) x → AreReceived v octets x)
ComesTo v octets NoMemory w = (x : View) → Late (faulted v) x → AreReceived v octets x

-- the same of a transfer, in whichever view it is under way
abbrev pub Comes : Table → Transfer → List ℕ → Told → Transfer → Type 0
Comes part old octets told new = (v : View) → IsTransferUnderWay part old v → ComesTo v octets told (with_connection (Data.Transferring new) v)

-- ---- the end

-- an upload that is below its limits
abbrev pub IsUpload : Transfer → Type 0
IsUpload (Transfers.Upload path keep d) = Unit {0}
IsUpload Transfers.OverLimit = ⊥
IsUpload (Transfers.Download rest) = ⊥
IsUpload (Transfers.Listing rest) = ⊥

-- how a transfer ends, with the map as it is then; where that failed the map is as it was
abbrev pub Ends : Ending → Session → Table → Result FixedReply Fault → (before after : Failures) → Type 0
Ends ending s new (Ok text) before after = (NoStray before after → (record s { table = new }, text) ≡ ending) × IsSteady before after
Ends ending s new (Err fault) before after = (NoStray before after → new ≡ s.table) × Counted fault before after
