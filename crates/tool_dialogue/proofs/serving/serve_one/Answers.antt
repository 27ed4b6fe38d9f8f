use Rattle.std.proofs.Common.{◌∙◌, sym}
use Rattle.ftp_ends.specs.declared.link.Wants.TheVariants as Want
use Rattle.ftp_server.specs.Server.{server_of, view_of}
use Rattle.tool_dialogue.proofs.OctetLemmas.{accepts, closes, connects, left_as, listens, served_as, sure, waits}
use Rattle.tool_dialogue.proofs.serving.serve_one.Goals as goal

pub returns-in-Listen-clause-serves : goal.returns-in-Listen-clause-serves
returns-in-Listen-clause-serves g c =
    let server = server_of g.T.Tree.table g.T.Tree.failures g.J.ServerTransfer.view in let view = view_of g.T.Tree.table g.J.ServerTransfer.view in
    served_as (view c.args.server.now) (view c.listening.new.self) Want.Listen (sym c.wants.ensures ∙ c.in-Listen.is)
    (listens (server c.args.server.now) (server c.listening.new.self) (sure g.T.Tree.failures g.met.T.SureTree.never c.args.server.now c.listening.new.self)
    c.listening.ensures.acts c.requires.none)

pub returns-in-Connect-clause-serves : goal.returns-in-Connect-clause-serves
returns-in-Connect-clause-serves g c =
    let server = server_of g.T.Tree.table g.T.Tree.failures g.J.ServerTransfer.view in let view = view_of g.T.Tree.table g.J.ServerTransfer.view in
    served_as (view c.args.server.now) (view c.data_refused.new.self) (Want.Connect c.in-Connect.field-0) (sym c.wants.ensures ∙ c.in-Connect.is)
    (connects (server c.args.server.now) (server c.data_refused.new.self) (sure g.T.Tree.failures g.met.T.SureTree.never c.args.server.now c.data_refused.new.self)
    c.data_refused.ensures.acts c.requires.none)

pub returns-then-is_opening-clause-serves : goal.returns-then-is_opening-clause-serves
returns-then-is_opening-clause-serves g c =
    let server = server_of g.T.Tree.table g.T.Tree.failures g.J.ServerTransfer.view in let view = view_of g.T.Tree.table g.J.ServerTransfer.view in
    let v = view c.args.server.now in let w = view c.data_refused-then-is_opening.new.self in
    served_as v w Want.Accept (sym c.wants.ensures ∙ c.in-Accept.is)
    (accepts v w (sym c.is_opening.ensures ∙ c.if-is_opening.true)
    (connects (server c.args.server.now) (server c.data_refused-then-is_opening.new.self) (sure g.T.Tree.failures g.met.T.SureTree.never c.args.server.now c.data_refused-then-is_opening.new.self)
    c.data_refused-then-is_opening.ensures.acts c.requires.none))

pub returns-else-is_opening-clause-serves : goal.returns-else-is_opening-clause-serves
returns-else-is_opening-clause-serves g c =
    let v = view_of g.T.Tree.table g.J.ServerTransfer.view c.args.server.now in
    served_as v v Want.Accept (sym c.wants.ensures ∙ c.in-Accept.is) (waits v (sym c.is_opening.ensures ∙ c.if-is_opening.false))

pub returns-in-CloseData-clause-serves : goal.returns-in-CloseData-clause-serves
returns-in-CloseData-clause-serves g c =
    let server = server_of g.T.Tree.table g.T.Tree.failures g.J.ServerTransfer.view in let view = view_of g.T.Tree.table g.J.ServerTransfer.view in
    served_as (view c.args.server.now) (view c.data_closed.new.self) Want.CloseData (sym c.wants.ensures ∙ c.in-CloseData.is)
    (closes (server c.args.server.now) (server c.data_closed.new.self) (sure g.T.Tree.failures g.met.T.SureTree.never c.args.server.now c.data_closed.new.self)
    c.data_closed.ensures.acts c.requires.none)

pub returns-in-Nothing-clause-serves : goal.returns-in-Nothing-clause-serves
returns-in-Nothing-clause-serves g c =
    let v = view_of g.T.Tree.table g.J.ServerTransfer.view c.args.server.now in
    left_as v c.wants.result (sym c.wants.ensures) c.in-Nothing.is
