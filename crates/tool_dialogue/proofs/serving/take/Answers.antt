use Rattle.std.proofs.Common.{◌∙◌, arith, sym}
use Rattle.std.proofs.lemmas.Bool.{and_parts, eqb-true}
use Rattle.ftp_server.specs.Server.{counts_of, server_of}
use Rattle.ftp_server_model.proofs.CountLemmas.{same_counts, told_same}
use Rattle.tool_dialogue.proofs.OctetLemmas.{one_heard, sure}
use Rattle.tool_dialogue.proofs.ShortLemmas.{one_heard_short, told_differ}
use Rattle.tool_dialogue.proofs.serving.take.Goals as goal

pub returns-clause-calm : goal.returns-clause-calm
returns-clause-calm g c = λ calm.
    let server = server_of g.T.Tree.table g.T.Tree.failures g.J.ServerTransfer.view in
    let counts = counts_of g.T.Tree.failures in
    let never = g.met.T.SureTree.never in
    let parts = and_parts _ _ (sym c.eq.ensures ∙ calm) in
    one_heard c.args.octet c.hear-count.result (server c.args.server.now) (server c.hear-count.new.self) c.hear-count.ensures.took c.hear-count.ensures.within
    (c.hear-count.ensures.some c.requires (omega arith))
    (told_same c.counts-counts.result c.counts.result (counts c.args.server.now) (counts c.hear-count.new.self) c.counts-counts.ensures c.counts.ensures
    (never c.args.server.now.session.tree) (never c.hear-count.new.self.session.tree) (eqb-true _ _ parts.0) (eqb-true _ _ parts.1))

pub returns-clause-heard : goal.returns-clause-heard
returns-clause-heard g c =
    let server = server_of g.T.Tree.table g.T.Tree.failures g.J.ServerTransfer.view in
    let counts = counts_of g.T.Tree.failures in
    one_heard_short c.args.octet c.hear-count.result (server c.args.server.now) (server c.hear-count.new.self)
    (sure g.T.Tree.failures g.met.T.SureTree.never c.args.server.now c.hear-count.new.self) c.hear-count.ensures.took c.hear-count.ensures.within
    (c.hear-count.ensures.some c.requires (omega arith)) (same_counts (counts c.hear-count.new.self) (counts c.args.server.now))

pub returns-clause-counted : goal.returns-clause-counted
returns-clause-counted g c = λ short same.
    let counts = counts_of g.T.Tree.failures in
    told_differ c.counts-counts.result c.counts.result (counts c.args.server.now) (counts c.hear-count.new.self) c.counts-counts.ensures c.counts.ensures
    (sym c.eq.ensures ∙ short) same
