use Rattle.std.proofs.Common.{◌≡◌, ◌∙◌, ◌==◌, None, ap, length, sym}
use Rattle.ftp_path.specs.Path.{fits}
use Rattle.ftp_tree.specs.Tree.{node_at, under}
use Rattle.ftp_operation.specs.declared.op.Op.TheVariants as Ops
use Rattle.ftp_operation.specs.Answer.{Octets}
use Rattle.ftp_direct.specs.Direct.{due, here, place, refusal, refused_at}
use Rattle.ftp_direct.specs.Listing.{listing_file}
use Rattle.ftp_direct.proofs.LookLemmas.{looked_still}
use Rattle.ftp_direct.proofs.RefusalLemmas.{gives_done}
use Rattle.ftp_direct.proofs.texts.text.Goals as goal

pub why_unlisted-requires : goal.why_unlisted-requires
why_unlisted-requires g c = let found = rw c.in-Ok.is at c.in_ok-path.ensures.seen in ap fits found.0 ∙ found.1

pub returns-in-None-clause-answer : goal.returns-in-None-clause-answer
returns-in-None-clause-answer g c = λ how.
    let found = rw c.in-Ok.is at c.in_ok-path.ensures.seen in
    let root = c.args.root.now in
    let cwd = c.args.cwd.now in
    let now = g.T.Tree.table c.see_here.new.tree in
    let text = c.args.text.now in
    let op = Ops.Text c.args.verb text how in
    let free : refusal (here now root cwd) op ≡ None =
    ap (λ path. refused_at c.args.verb (length text == 0) path (node_at (under now root) path)) (sym found.0)
    ∙ ap (λ none. refused_at c.args.verb none c.in-Ok.path (node_at (under now root) c.in-Ok.path)) (ap (λ t. length t == 0) (sym c.as_slice.ensures) ∙ sym c.is_empty.ensures)
    ∙ sym c.why_unlisted.ensures ∙ c.in-None.is in
    let gives = gives_done (here now root cwd) op 0 free in
    looked_still _ _ _ now found.2 c.in_ok-path.ensures.same (λ table. due (here table root cwd) op 0) (λ table. here table root cwd) _ _
    (ap Octets (c.in_ok-listing_file-in-None.ensures ∙ ap (λ path. listing_file c.args.verb (under now root) path text) found.0) ∙ gives.0, gives.1)
