use Rattle.std.proofs.Common.{◌≡◌, ◌∙◌, None, ap, sym}
use Rattle.std.specs.Option.{option_map}
use Rattle.std.specs.Prelude.{Ok}
use Rattle.ftp_tree.proofs.DeviceLemmas.{rename-no}
use Rattle.ftp_server_model.specs.Walk.{refusal_text, refused_source, rnto}
use Rattle.ftp_server_model.specs.declared.reply.FixedReply.TheVariants as Texts
use Rattle.ftp_server_session.proofs.LookLemmas.{looked_same, looked_turns, looked_when}
use Rattle.ftp_server_session.proofs.RefusedLemmas.{refused_moves, rename_due, tree_refused}
use Rattle.ftp_server_session.specs.Session.{session_of}
use Rattle.ftp_server_session.proofs.session.Session.rename_to.Goals as goal

pub returns-clause-turn : goal.returns-clause-turn
returns-clause-turn g c =
    let table = g.T.Tree.table in let failures = g.T.Tree.failures in let view = g.J.ServerTransfer.view in
    let row = rnto c.args.pending.now c.args.text.now in let from = c.in-Rename.from in
    let first = c.source_text.new.self in let seen = c.see.new.self in let new = record seen { tree = c.move_to.new.tree } in
    let s = session_of table view seen in
    let found = rw c.in-Some-2.is at c.in_ok-to.ensures.found in
    let free : None ≡ option_map refusal_text (refused_source (session_of table view first) from) = sym c.in_default-2.is ∙ c.in_ok-refusal.ensures.why in
    looked_turns table failures view row c.args.self.now first new c.in_ok-refusal.field-0 c.refused.result c.in_ok-refusal.ensures.looked
    (looked_when table failures view row first seen new c.in_ok-to.field-0 c.refused.result c.in_ok-to.ensures.looked
    (refused_moves _ _ Texts.NameRefused _ _ _ (failures seen.tree) (failures c.move_to.new.tree) c.in-Err.ensures.refused (rename-no _ _ _) c.refused.ensures)
    (λ here.
    let same = looked_same table failures view first seen (Ok c.in_ok-to.field-0) c.in_ok-to.ensures.looked here in
    tree_refused table failures view row seen c.move_to.new.tree _ _ Texts.NameRefused _ c.in-Err.ensures.refused (rename-no _ _ _) c.refused.ensures
    (λ why e. ap (λ pending. rnto pending c.args.text.now s) c.in-Rename.is
    ∙ rename_due s _ _ c.args.text.now why found.0 found.1 e (free ∙ ap (λ s. option_map refusal_text (refused_source s from)) (sym same)))))
