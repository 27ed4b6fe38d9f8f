use Rattle.std.proofs.Common.{◌≡◌, ◌+◌, ℕ, true, is_none, is_some, length, nat_le, not, sym, ap, subst, ◌∙◌}
use Rattle.ftp_tree.specs.Tree.{octets_refusal, under}
use Rattle.ftp_server_transfer.proofs.LimitLemmas.{more_refused, none_below}
use Rattle.ftp_server_transfer.proofs.upload.Upload.room_left.Goals as goal

pub returns-in_default-clause-none : goal.returns-in_default-clause-none
returns-in_default-clause-none g c =
    let part = under (g.T.Tree.table c.args.tree.now) c.args.root.now in
    let u = c.args.self.now in
    let P : ℕ → Type 0 = λ keep. true ≡ is_some (octets_refusal part u.path (keep + length u.decoder.decoder.content)) in
    subst P c.kept_count.ensures
    (sym (more_refused part u.path c.kept_count.result (length u.decoder.decoder.content) (sym c.room_behind.ensures.none ∙ ap is_none c.in_default.is)))

pub returns-clause-none : goal.returns-clause-none
returns-clause-none g c =
    let part = under (g.T.Tree.table c.args.tree.now) c.args.root.now in
    let u = c.args.self.now in
    let count = length u.decoder.decoder.content in
    none_below c.checked_sub.result c.in-Some.most c.len.result c.checked_sub.ensures
    ∙ ap (λ n. not (nat_le n c.in-Some.most)) c.len.ensures
    ∙ sym (c.in-Some.ensures.room.limit count)
    ∙ ap (λ (keep : ℕ). is_some (octets_refusal part u.path (keep + count))) c.kept_count.ensures
