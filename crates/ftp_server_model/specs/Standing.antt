-- What stands at the path of an upload, and an upload at whose path others changed that (own choice).
use Rattle.std.specs.Prelude.{ℕ, eqb, Bool, true, false, ◌&&◌, length, Option, Some, None}
use Rattle.std.specs.Option.{option_map}
use Rattle.ftp_path.specs.Path.{Names}
use Rattle.ftp_tree.specs.Map.{Node}
use Rattle.ftp_tree.specs.Map as maps
use Rattle.ftp_tree.specs.Tree.{Table, node_at}
use Rattle.ftp_server_model.specs.Keep.{overtaken_keep}
use Rattle.ftp_server_model.specs.View.{Session, Transfer, seen}
use Rattle.ftp_server_model.specs.declared.session.ServerLink.{ServerLink}
use Rattle.ftp_server_model.specs.declared.session.ServerLink.TheVariants as Data
use Rattle.ftp_server_model.specs.declared.session.Standing.{Standing}
use Rattle.ftp_server_model.specs.declared.session.Standing.TheVariants.{Nothing, Dir, File}
use Rattle.ftp_server_model.specs.declared.session.Transfer.TheVariants as Transfers

-- what stands at a path: nothing, a directory, or a file of so many octets and this moment
abbrev pub stands_as : Option Node → Standing
stands_as None = Nothing
stands_as (Some maps.Dir) = Dir
stands_as (Some (maps.File octets moment)) = File (length octets) moment

abbrev pub standing_at : Table → Names → Standing
standing_at table path = stands_as (node_at table path)

-- both are the same
abbrev pub same_standing : (a b : Standing) → Bool
same_standing Nothing Nothing = true
same_standing Dir Dir = true
same_standing (File size moment) (File other at) = eqb size other && eqb moment at
same_standing a b = false

-- ---- of an upload, its data connection open or still to come

-- what stands at its path in this part of the map
abbrev pub standing_for : Transfer → Table → Option Standing
standing_for (Transfers.Upload path keep d) part = Some (standing_at part path)
standing_for other part = None

-- the same of the transfer that a session has
abbrev pub standing_in : ServerLink Transfer → Table → Option Standing
standing_in (Data.Opening transfer way) part = standing_for transfer part
standing_in (Data.Transferring transfer) part = standing_for transfer part
standing_in other part = None

abbrev pub standing_of : Session → Option Standing
standing_of s = standing_in s.connection (seen s)

-- it is what stood there, as far as both are known
abbrev pub still_stands : (before now : Option Standing) → Bool
still_stands (Some before) (Some now) = same_standing before now
still_stands before now = true

-- ---- an upload is overtaken: others changed what stands at its path

abbrev pub overtaken : Transfer → Transfer
overtaken (Transfers.Upload path keep d) = Transfers.Upload path (overtaken_keep keep) d
overtaken other = other

abbrev pub overtaken_in : ServerLink Transfer → ServerLink Transfer
overtaken_in (Data.Opening transfer way) = Data.Opening (overtaken transfer) way
overtaken_in (Data.Transferring transfer) = Data.Transferring (overtaken transfer)
overtaken_in other = other

-- so it is unless what stood there still stands
abbrev pub overtaken_unless : (stays : Bool) → ServerLink Transfer → ServerLink Transfer
overtaken_unless true connection = connection
overtaken_unless false connection = overtaken_in connection
