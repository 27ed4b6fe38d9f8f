-- Lines that ask for no change leave the map.
use Rattle.std.proofs.Common.{◌≡◌, ◌∙◌, Bool, true, false, true≢false, sym}
use Rattle.ftp_tree.specs.Tree.{Table}
use Rattle.ftp_server_model.specs.Act.{decided}
use Rattle.ftp_server_model.specs.View.{Session}
use Rattle.laws_server.specs.one.Maps.{Changes, Mapped, MappedSo, Unchanged}
use Rattle.laws_server.proofs.one.LineTurns.{lines_change_the_map}
use Rattle.laws_server.specs.several.Asked.{OthersLeaveTheMap, line_changes}

-- only a line that may change the map does
mapped_leaves : (mapped : Mapped) (changing : Bool) (s : Session) (table : Table) → changing ≡ false → MappedSo mapped changing s table → table ≡ s.table
mapped_leaves Unchanged changing s table other is = is
mapped_leaves (Changes new) changing s table other is = absurd (true≢false (sym is.0 ∙ other))

pub others_leave : OthersLeaveTheMap
others_leave context heard pending s other =
    let of = lines_change_the_map context heard pending s in
    mapped_leaves of.0 (line_changes pending heard) s (decided context heard pending s).0.table other of.1
