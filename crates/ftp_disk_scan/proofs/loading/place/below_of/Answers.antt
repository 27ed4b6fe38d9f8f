use Rattle.std.proofs.Common.{rules, ◌≡◌, ◌++◌, string_bytes}
use Rattle.ftp_path.specs.Path.{joined}
use Rattle.ftp_disk_scan.proofs.loading.PlaceLemmas.{below-of, kept-components, kept-text}
use Rattle.ftp_disk_scan.proofs.loading.place.below_of.Goals as goal

pub returns-clause-below : goal.returns-clause-below
returns-clause-below g c =
    let root = c.args.root.now in
    let path = c.args.path.now in
    let below = string_bytes c.push_names-2.new.below in
    let one = kept-text c.key.result.now root c.key.ensures.kept c.key.ensures.names in
    let two = kept-text c.key-2.result.now path c.key-2.ensures.kept c.key-2.ensures.names in
    let first : string_bytes c.push_names.new.below ≡ joined root = search (rules, one) in
    let both : below ≡ joined root ++ joined path = search (rules, first, two) in
    below-of below root path
    (kept-components c.key.result.now root c.key.ensures.kept c.key.ensures.names)
    (kept-components c.key-2.result.now path c.key-2.ensures.kept c.key-2.ensures.names)
    both
