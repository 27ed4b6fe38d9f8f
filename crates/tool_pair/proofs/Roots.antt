-- A directory below the root of the whole tree.
use Rattle.std.proofs.Common.{◌≡◌, ◌∙◌, [], ap}
use Rattle.ftp_path.specs.Path.{Names}
use Rattle.ftp_tree.specs.Tree.{Table, made, under, with_part}
use Rattle.ftp_tree.proofs.PartLemmas.{part_whole, under_all}

-- it is made in the whole tree
pub made_whole : (old new : Table) (root path : Names) → root ≡ [] → new ≡ with_part old root (made (under old root) path) → new ≡ made old path
made_whole old new root path top done =
    done ∙ ap (λ r. with_part old r (made (under old r) path)) top ∙ part_whole old (made (under old []) path) ∙ ap (λ t. made t path) (under_all old)
