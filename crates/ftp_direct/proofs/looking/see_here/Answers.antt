use Rattle.std.proofs.Common.{◌≡◌, ◌∙◌, ap, sym, subst, true, false, IfOk, ◌==◌, length}
use Rattle.ftp_path.specs.Path.{is_path_text, resolved, Names}
use Rattle.ftp_direct.specs.Direct.{place}
use Rattle.ftp_direct.specs.Look.{LooksAtPath}
use Rattle.ftp_direct.specs.declared.refusal.Refusal.TheVariants.{Unavailable}
use Rattle.ftp_path.proofs.TextLemmas.{dot-text}
use Rattle.ftp_direct.proofs.ListingLemmas.{place_here}
use Rattle.ftp_direct.proofs.looking.see_here.Goals as goal

pub returns-clause-seen : goal.returns-clause-seen
returns-clause-seen g c =
    let P : Names → Type 0 = λ path. IfOk c.see-2.result (λ seen. LooksAtPath path Unavailable seen (g.T.Tree.failures c.args.tree.now) (g.T.Tree.failures c.see-2.new.tree)) in
    let same : resolved c.args.cwd.now c.in_ok-here.here ≡ place c.args.cwd.now c.args.text.now =
    ap (resolved c.args.cwd.now) c.in_ok-here.ensures ∙ place_here c.args.cwd.now c.args.text.now (ap (λ t. length t == 0) (sym c.as_slice.ensures) ∙ sym c.is_empty.ensures ∙ c.if-not-is_empty.false) in
    subst P same c.see-2.ensures.seen

pub see-requires-2 : goal.see-requires-2
see-requires-2 g c = ap is_path_text c.in_ok-here.ensures ∙ dot-text
