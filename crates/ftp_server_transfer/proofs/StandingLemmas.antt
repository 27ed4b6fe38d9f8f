-- What stands at a path, by what a tree tells of it.
use Rattle.std.proofs.Common.{◌≡◌, ℕ, Bool, true, false, not, length, Option, Some, None, refl, sym, ap, ◌∙◌}
use Rattle.std.specs.Option.{option_map, unwrap_or}
use Rattle.ftp_path.specs.Path.{Names}
use Rattle.ftp_tree.specs.Map.{Node, Dir, File, octets_of, moment_of, of_node}
use Rattle.ftp_tree.specs.Tree.{Table, kind_at, kind_of, node_at, octets_at, size_at, stamp_at}
use Rattle.ftp_tree.specs.declared.tree.NodeKind.TheVariants as Kinds
use Rattle.ftp_server_model.specs.Standing.{same_standing, standing_at, stands_as}
use Rattle.ftp_server_model.specs.declared.session.Standing.{Standing}
use Rattle.ftp_server_model.specs.declared.session.Standing.TheVariants as Stands

none_as : (node : Option Node) → None ≡ option_map kind_of node → Stands.Nothing ≡ stands_as node
none_as None is = refl
none_as (Some Dir) is = absurd (cc)
none_as (Some (File octets moment)) is = absurd (cc)

dir_as : (node : Option Node) → Some Kinds.Dir ≡ option_map kind_of node → Stands.Dir ≡ stands_as node
dir_as None is = absurd (cc)
dir_as (Some Dir) is = refl
dir_as (Some (File octets moment)) is = absurd (cc)

file_as : (size moment : ℕ) (node : Option Node) → Some size ≡ option_map length (of_node octets_of node) → Some moment ≡ of_node moment_of node
    → Stands.File size moment ≡ stands_as node
file_as size moment None sized timed = absurd (cc)
file_as size moment (Some Dir) sized timed = absurd (cc)
file_as size moment (Some (File octets at)) sized timed =
    ap (λ o. Stands.File (unwrap_or o size) moment) sized ∙ ap (λ o. Stands.File (length octets) (unwrap_or o moment)) timed

-- a file has a size and a moment
sizeless_as : (node : Option Node) → Some Kinds.File ≡ option_map kind_of node → None ≡ option_map length (of_node octets_of node) → Stands.Nothing ≡ stands_as node
sizeless_as None is none = absurd (cc)
sizeless_as (Some Dir) is none = absurd (cc)
sizeless_as (Some (File octets at)) is none = absurd (cc)

timeless_as : (node : Option Node) → Some Kinds.File ≡ option_map kind_of node → None ≡ of_node moment_of node → Stands.Nothing ≡ stands_as node
timeless_as None is none = absurd (cc)
timeless_as (Some Dir) is none = absurd (cc)
timeless_as (Some (File octets at)) is none = absurd (cc)

-- by its kind: nothing, or a directory
pub stands_none : (table : Table) (path : Names) → None ≡ kind_at table path → Stands.Nothing ≡ standing_at table path
unfolding kind_at
stands_none table path is = none_as (node_at table path) is

pub stands_dir : (table : Table) (path : Names) → Some Kinds.Dir ≡ kind_at table path → Stands.Dir ≡ standing_at table path
unfolding kind_at
stands_dir table path is = dir_as (node_at table path) is

-- by how many octets it has and its moment: a file
pub stands_file : (table : Table) (path : Names) (size moment : ℕ) → Some size ≡ size_at table path → Some moment ≡ stamp_at table path
    → Stands.File size moment ≡ standing_at table path
unfolding size_at octets_at stamp_at
stands_file table path size moment sized timed = file_as size moment (node_at table path) sized timed

-- a file has both
pub no_size : (table : Table) (path : Names) → Some Kinds.File ≡ kind_at table path → None ≡ size_at table path → Stands.Nothing ≡ standing_at table path
unfolding kind_at size_at octets_at
no_size table path is none = sizeless_as (node_at table path) is none

pub no_stamp : (table : Table) (path : Names) → Some Kinds.File ≡ kind_at table path → None ≡ stamp_at table path → Stands.Nothing ≡ standing_at table path
unfolding kind_at stamp_at
no_stamp table path is none = timeless_as (node_at table path) is none
