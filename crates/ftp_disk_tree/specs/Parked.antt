-- What stands where a tree is lent from (own choice).
use Rattle.ftp_tree.specs.Tree.{Table, root_within}

-- nothing but the root, which takes nothing
abbrev pub bare_table : Table
bare_table = root_within (record { file = 0; total = 0; nodes = 0 })
