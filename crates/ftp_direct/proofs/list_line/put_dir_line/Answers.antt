use Rattle.std.proofs.Common.{◌+◌, [], codes, length}
use Rattle.ftp_direct.specs.Listing.{list_line}
use Rattle.ftp_direct.proofs.LengthLemmas.{dir_few, put_few}
use Rattle.ftp_direct.proofs.ListLemmas.{behind}
use Rattle.ftp_direct.proofs.list_line.put_dir_line.Goals as goal

pub returns-clause-line : goal.returns-clause-line
returns-clause-line g c =
    behind _ (codes "drwxr-xr-x") (list_line [] 0 0 c.args.name.now) _ _
    c.in_ok-extend_from_slice.ensures.items c.in_ok-put_columns.ensures

pub returns-clause-few : goal.returns-clause-few
returns-clause-few g c =
    let name = c.args.name.now in
    put_few c.args.out.now.items _ (list_line (codes "drwxr-xr-x") 0 0 name) (100 + length name) (returns-clause-line g c) (dir_few name)
