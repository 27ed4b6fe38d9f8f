use Rattle.std.proofs.Common.{◌∙◌, ap, sym, Some, true, false}
use Rattle.ftp_direct.specs.Direct.{behind}
use Rattle.ftp_direct.proofs.ListingLemmas.{name_text, file_in_none, file_in_is}
use Rattle.ftp_direct.proofs.listings.file_in.Goals as goal

pub find-requires : goal.find-requires
find-requires g c = name_text c.args.name.now c.requires

pub returns-in_default : goal.returns-in_default
returns-in_default g c = file_in_none _ _ c.args.name.now c.requires c.args.text.now (rw c.in_default.is at c.in_ok-child.ensures)

pub returns-then-not-is_file : goal.returns-then-not-is_file
returns-then-not-is_file g c =
    let found = rw c.in-Some.is at c.in_ok-child.ensures in
    file_in_is _ _ c.args.name.now c.requires _ found.0 found.1 c.args.text.now false (sym c.if-not-is_file.true ∙ c.is_file.ensures)

pub returns : goal.returns
returns g c =
    let found = rw c.in-Some.is at c.in_ok-child.ensures in
    ap Some (c.in_ok-behind.ensures ∙ ap (λ text. behind text c.as_slice-2.result.now) c.as_slice.ensures ∙ ap (behind c.args.text.now) c.as_slice-2.ensures)
    ∙ file_in_is _ _ c.args.name.now c.requires _ found.0 found.1 c.args.text.now true (sym c.if-not-is_file.false ∙ c.is_file.ensures)
