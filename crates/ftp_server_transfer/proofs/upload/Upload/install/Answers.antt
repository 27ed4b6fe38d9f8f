use Rattle.std.proofs.Common.{sym, ◌∙◌}
use Rattle.ftp_server_transfer.proofs.RefusalLemmas.{refused_ends}
use Rattle.ftp_server_transfer.proofs.upload.Upload.install.Goals as goal

pub returns-in-Some : goal.returns-in-Some
returns-in-Some g c = λ s same at may.
    let u = c.args.self in
    refused_ends c.args.moment.seconds u.path u.keep u.decoder.decoder c.args.text s (g.T.Tree.table c.look_at_end.new.tree) c.in-Some.why
    (g.T.Tree.failures c.args.tree.now) (g.T.Tree.failures c.look_at_end.new.tree)
    (λ stays. sym c.in-Some.is ∙ c.end_refusal.ensures s u.decoder.decoder.content (same ∙ sym (c.look_at_end.ensures.same stays)) at may (sym c.len.ensures))
    (λ stays. c.look_at_end.ensures.same stays ∙ sym same) c.in-Ok.ensures.steady
