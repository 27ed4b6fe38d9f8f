use Rattle.std.proofs.Common.{◌+◌, [], codes, length, rules}
use Rattle.ftp_direct.specs.Listing.{list_line}
use Rattle.ftp_direct.proofs.LengthLemmas.{file_few, put_few}
use Rattle.ftp_direct.proofs.ListLemmas.{behind}
use Rattle.ftp_direct.proofs.list_line.put_file_line.Goals as goal

pub returns-clause-line : goal.returns-clause-line
returns-clause-line g c =
    behind _ (codes "-rw-r--r--") (list_line [] c.args.size c.args.moment.seconds c.args.name.now) _ _
    c.in_ok-extend_from_slice.ensures.items c.in_ok-put_columns.ensures

pub returns-clause-few : goal.returns-clause-few
returns-clause-few g c =
    let name = c.args.name.now in
    let line = list_line (codes "-rw-r--r--") c.args.size c.args.moment.seconds name in
    put_few c.args.out.now.items _ line (100 + length name) (returns-clause-line g c) (file_few name c.args.size c.args.moment (search rules))
