use Rattle.std.proofs.Common.{◌∙◌, ap, refl, sym}
use Rattle.ftp_command.specs.declared.command.Command.TheVariants as command
use Rattle.ftp_server_model.specs.declared.reply.ReplyKind.TheVariants as Replies
use Rattle.ftp_server_model.specs.declared.reply.FixedReply.TheVariants as Texts
use Rattle.ftp_server_session.proofs.ActLemmas.{by_arm, by_reply, by_row, by_turn}
use Rattle.ftp_server_session.specs.Session.{context_of}
use Rattle.ftp_server_session.proofs.session.Session.act.Goals as goal

pub returns-in-User-clause-turn : goal.returns-in-User-clause-turn
returns-in-User-clause-turn g c = by_row g.T.Tree.table g.T.Tree.failures g.J.ServerTransfer.view (context_of c.args.context.now) c.args.pending.now c.args.self.now c.user.new.self c.user.result _ _ c.in-User.is c.user.ensures.turn

pub returns-in-User-clause-may_fail : goal.returns-in-User-clause-may_fail
returns-in-User-clause-may_fail g c = by_arm c.user.result _ _ c.in-User.is refl

pub returns-in-Pass-clause-turn : goal.returns-in-Pass-clause-turn
returns-in-Pass-clause-turn g c = by_row g.T.Tree.table g.T.Tree.failures g.J.ServerTransfer.view (context_of c.args.context.now) c.args.pending.now c.args.self.now c.pass.new.self c.pass.result _ _ (c.in-Pass.is ∙ ap command.Pass (sym c.octets.ensures)) c.pass.ensures.turn

pub returns-in-Pass-clause-may_fail : goal.returns-in-Pass-clause-may_fail
returns-in-Pass-clause-may_fail g c = by_arm c.pass.result _ _ c.in-Pass.is refl

pub returns-in-Acct-clause-turn : goal.returns-in-Acct-clause-turn
returns-in-Acct-clause-turn g c = by_reply g.T.Tree.table g.T.Tree.failures g.J.ServerTransfer.view (context_of c.args.context.now) c.args.pending.now c.args.self.now (Replies.Fixed Texts.NotNeeded) _ _ c.in-Acct.is refl

pub returns-in-Cwd-clause-turn : goal.returns-in-Cwd-clause-turn
returns-in-Cwd-clause-turn g c = by_row g.T.Tree.table g.T.Tree.failures g.J.ServerTransfer.view (context_of c.args.context.now) c.args.pending.now c.args.self.now c.change_dir.new.self c.change_dir.result _ _ (c.in-Cwd.is ∙ ap command.Cwd (sym c.octets-in-Cwd.ensures)) c.change_dir.ensures.turn

pub returns-in-Cwd-clause-may_fail : goal.returns-in-Cwd-clause-may_fail
returns-in-Cwd-clause-may_fail g c = by_arm c.change_dir.result _ _ c.in-Cwd.is refl

pub returns-in-Cdup-clause-turn : goal.returns-in-Cdup-clause-turn
returns-in-Cdup-clause-turn g c = by_turn g.T.Tree.table g.T.Tree.failures g.J.ServerTransfer.view (context_of c.args.context.now) c.args.pending.now c.args.self.now c.go_up.new.self c.go_up.result _ _ c.in-Cdup.is c.go_up.ensures.turn c.go_up.ensures.tree

pub returns-in-Rein-clause-turn : goal.returns-in-Rein-clause-turn
returns-in-Rein-clause-turn g c = by_turn g.T.Tree.table g.T.Tree.failures g.J.ServerTransfer.view (context_of c.args.context.now) c.args.pending.now c.args.self.now c.rein.new.self c.rein.result _ _ c.in-Rein.is c.rein.ensures.turn c.rein.ensures.tree

pub returns-in-Quit-clause-turn : goal.returns-in-Quit-clause-turn
returns-in-Quit-clause-turn g c = by_turn g.T.Tree.table g.T.Tree.failures g.J.ServerTransfer.view (context_of c.args.context.now) c.args.pending.now c.args.self.now c.quit.new.self c.quit.result _ _ c.in-Quit.is c.quit.ensures.turn c.quit.ensures.tree

pub returns-in-Port-clause-turn : goal.returns-in-Port-clause-turn
returns-in-Port-clause-turn g c = by_turn g.T.Tree.table g.T.Tree.failures g.J.ServerTransfer.view (context_of c.args.context.now) c.args.pending.now c.args.self.now c.port.new.self c.port.result _ _ c.in-Port.is c.port.ensures.turn c.port.ensures.tree

pub returns-in-Pasv-clause-turn : goal.returns-in-Pasv-clause-turn
returns-in-Pasv-clause-turn g c = by_turn g.T.Tree.table g.T.Tree.failures g.J.ServerTransfer.view (context_of c.args.context.now) c.args.pending.now c.args.self.now c.pasv.new.self c.pasv.result _ _ c.in-Pasv.is c.pasv.ensures.turn c.pasv.ensures.tree

pub returns-in-Eprt-clause-turn : goal.returns-in-Eprt-clause-turn
returns-in-Eprt-clause-turn g c = by_turn g.T.Tree.table g.T.Tree.failures g.J.ServerTransfer.view (context_of c.args.context.now) c.args.pending.now c.args.self.now c.port-in-Eprt.new.self c.port-in-Eprt.result _ _ c.in-Eprt.is c.port-in-Eprt.ensures.turn c.port-in-Eprt.ensures.tree

pub returns-in-Epsv-clause-turn : goal.returns-in-Epsv-clause-turn
returns-in-Epsv-clause-turn g c = by_turn g.T.Tree.table g.T.Tree.failures g.J.ServerTransfer.view (context_of c.args.context.now) c.args.pending.now c.args.self.now c.epsv.new.self c.epsv.result _ _ c.in-Epsv.is c.epsv.ensures.turn c.epsv.ensures.tree

pub returns-in-Repr-clause-turn : goal.returns-in-Repr-clause-turn
returns-in-Repr-clause-turn g c = by_turn g.T.Tree.table g.T.Tree.failures g.J.ServerTransfer.view (context_of c.args.context.now) c.args.pending.now c.args.self.now c.set_kind.new.self c.set_kind.result _ _ c.in-Repr.is c.set_kind.ensures.turn c.set_kind.ensures.tree

pub returns-in-Stru-clause-turn : goal.returns-in-Stru-clause-turn
returns-in-Stru-clause-turn g c = by_turn g.T.Tree.table g.T.Tree.failures g.J.ServerTransfer.view (context_of c.args.context.now) c.args.pending.now c.args.self.now c.set_structure.new.self c.set_structure.result _ _ c.in-Stru.is c.set_structure.ensures.turn c.set_structure.ensures.tree

pub returns-in-Mode-clause-turn : goal.returns-in-Mode-clause-turn
returns-in-Mode-clause-turn g c = by_turn g.T.Tree.table g.T.Tree.failures g.J.ServerTransfer.view (context_of c.args.context.now) c.args.pending.now c.args.self.now c.set_mode.new.self c.set_mode.result _ _ c.in-Mode.is c.set_mode.ensures.turn c.set_mode.ensures.tree

pub returns-in-Retr-clause-turn : goal.returns-in-Retr-clause-turn
returns-in-Retr-clause-turn g c = by_row g.T.Tree.table g.T.Tree.failures g.J.ServerTransfer.view (context_of c.args.context.now) c.args.pending.now c.args.self.now c.retr.new.self c.retr.result _ _ (c.in-Retr.is ∙ ap command.Retr (sym c.octets-in-Retr.ensures)) c.retr.ensures.turn

pub returns-in-Retr-clause-may_fail : goal.returns-in-Retr-clause-may_fail
returns-in-Retr-clause-may_fail g c = by_arm c.retr.result _ _ c.in-Retr.is refl

pub returns-in-Stor-clause-turn : goal.returns-in-Stor-clause-turn
returns-in-Stor-clause-turn g c = by_row g.T.Tree.table g.T.Tree.failures g.J.ServerTransfer.view (context_of c.args.context.now) c.args.pending.now c.args.self.now c.stor.new.self c.stor.result _ _ (c.in-Stor.is ∙ ap command.Stor (sym c.octets-in-Stor.ensures)) c.stor.ensures.turn

pub returns-in-Stor-clause-may_fail : goal.returns-in-Stor-clause-may_fail
returns-in-Stor-clause-may_fail g c = by_arm c.stor.result _ _ c.in-Stor.is refl

pub returns-in-Appe-clause-turn : goal.returns-in-Appe-clause-turn
returns-in-Appe-clause-turn g c = by_row g.T.Tree.table g.T.Tree.failures g.J.ServerTransfer.view (context_of c.args.context.now) c.args.pending.now c.args.self.now c.appe.new.self c.appe.result _ _ (c.in-Appe.is ∙ ap command.Appe (sym c.octets-in-Appe.ensures)) c.appe.ensures.turn

pub returns-in-Appe-clause-may_fail : goal.returns-in-Appe-clause-may_fail
returns-in-Appe-clause-may_fail g c = by_arm c.appe.result _ _ c.in-Appe.is refl

pub returns-in-Allo-clause-turn : goal.returns-in-Allo-clause-turn
returns-in-Allo-clause-turn g c = by_reply g.T.Tree.table g.T.Tree.failures g.J.ServerTransfer.view (context_of c.args.context.now) c.args.pending.now c.args.self.now (Replies.Fixed Texts.NotNeeded) _ _ c.in-Allo.is refl

pub returns-in-Rest-clause-turn : goal.returns-in-Rest-clause-turn
returns-in-Rest-clause-turn g c = by_turn g.T.Tree.table g.T.Tree.failures g.J.ServerTransfer.view (context_of c.args.context.now) c.args.pending.now c.args.self.now c.rest.new.self c.rest.result _ _ c.in-Rest.is c.rest.ensures.turn c.rest.ensures.tree

pub returns-in-Rnfr-clause-turn : goal.returns-in-Rnfr-clause-turn
returns-in-Rnfr-clause-turn g c = by_row g.T.Tree.table g.T.Tree.failures g.J.ServerTransfer.view (context_of c.args.context.now) c.args.pending.now c.args.self.now c.rename_from.new.self c.rename_from.result _ _ (c.in-Rnfr.is ∙ ap command.Rnfr (sym c.octets-in-Rnfr.ensures)) c.rename_from.ensures.turn

pub returns-in-Rnfr-clause-may_fail : goal.returns-in-Rnfr-clause-may_fail
returns-in-Rnfr-clause-may_fail g c = by_arm c.rename_from.result _ _ c.in-Rnfr.is refl

pub returns-in-Rnto-clause-turn : goal.returns-in-Rnto-clause-turn
returns-in-Rnto-clause-turn g c = by_row g.T.Tree.table g.T.Tree.failures g.J.ServerTransfer.view (context_of c.args.context.now) c.args.pending.now c.args.self.now c.rename_to.new.self c.rename_to.result _ _ (c.in-Rnto.is ∙ ap command.Rnto (sym c.octets-in-Rnto.ensures)) c.rename_to.ensures.turn

pub returns-in-Rnto-clause-may_fail : goal.returns-in-Rnto-clause-may_fail
returns-in-Rnto-clause-may_fail g c = by_arm c.rename_to.result _ _ c.in-Rnto.is refl

pub returns-in-Abor-clause-turn : goal.returns-in-Abor-clause-turn
returns-in-Abor-clause-turn g c = by_reply g.T.Tree.table g.T.Tree.failures g.J.ServerTransfer.view (context_of c.args.context.now) c.args.pending.now c.args.self.now (Replies.Fixed Texts.AbortDone) _ _ c.in-Abor.is refl

pub returns-in-Dele-clause-turn : goal.returns-in-Dele-clause-turn
returns-in-Dele-clause-turn g c = by_row g.T.Tree.table g.T.Tree.failures g.J.ServerTransfer.view (context_of c.args.context.now) c.args.pending.now c.args.self.now c.delete.new.self c.delete.result _ _ (c.in-Dele.is ∙ ap command.Dele (sym c.octets-in-Dele.ensures)) c.delete.ensures.turn

pub returns-in-Dele-clause-may_fail : goal.returns-in-Dele-clause-may_fail
returns-in-Dele-clause-may_fail g c = by_arm c.delete.result _ _ c.in-Dele.is refl

pub returns-in-Rmd-clause-turn : goal.returns-in-Rmd-clause-turn
returns-in-Rmd-clause-turn g c = by_row g.T.Tree.table g.T.Tree.failures g.J.ServerTransfer.view (context_of c.args.context.now) c.args.pending.now c.args.self.now c.remove_dir.new.self c.remove_dir.result _ _ (c.in-Rmd.is ∙ ap command.Rmd (sym c.octets-in-Rmd.ensures)) c.remove_dir.ensures.turn

pub returns-in-Rmd-clause-may_fail : goal.returns-in-Rmd-clause-may_fail
returns-in-Rmd-clause-may_fail g c = by_arm c.remove_dir.result _ _ c.in-Rmd.is refl

pub returns-in-Mkd-clause-turn : goal.returns-in-Mkd-clause-turn
returns-in-Mkd-clause-turn g c = by_row g.T.Tree.table g.T.Tree.failures g.J.ServerTransfer.view (context_of c.args.context.now) c.args.pending.now c.args.self.now c.make_dir.new.self c.make_dir.result _ _ (c.in-Mkd.is ∙ ap command.Mkd (sym c.octets-in-Mkd.ensures)) c.make_dir.ensures.turn

pub returns-in-Mkd-clause-may_fail : goal.returns-in-Mkd-clause-may_fail
returns-in-Mkd-clause-may_fail g c = by_arm c.make_dir.result _ _ c.in-Mkd.is refl

pub returns-in-Pwd-clause-turn : goal.returns-in-Pwd-clause-turn
returns-in-Pwd-clause-turn g c = by_reply g.T.Tree.table g.T.Tree.failures g.J.ServerTransfer.view (context_of c.args.context.now) c.args.pending.now c.args.self.now Replies.Here _ _ c.in-Pwd.is refl

pub returns-in-List-clause-turn : goal.returns-in-List-clause-turn
returns-in-List-clause-turn g c = by_row g.T.Tree.table g.T.Tree.failures g.J.ServerTransfer.view (context_of c.args.context.now) c.args.pending.now c.args.self.now c.list.new.self c.list.result _ _ c.in-List.is c.list.ensures.turn

pub returns-in-List-clause-may_fail : goal.returns-in-List-clause-may_fail
returns-in-List-clause-may_fail g c = by_arm c.list.result _ _ c.in-List.is refl

pub returns-in-Nlst-clause-turn : goal.returns-in-Nlst-clause-turn
returns-in-Nlst-clause-turn g c = by_row g.T.Tree.table g.T.Tree.failures g.J.ServerTransfer.view (context_of c.args.context.now) c.args.pending.now c.args.self.now c.nlst.new.self c.nlst.result _ _ c.in-Nlst.is c.nlst.ensures.turn

pub returns-in-Nlst-clause-may_fail : goal.returns-in-Nlst-clause-may_fail
returns-in-Nlst-clause-may_fail g c = by_arm c.nlst.result _ _ c.in-Nlst.is refl

pub returns-in-Mlst-clause-turn : goal.returns-in-Mlst-clause-turn
returns-in-Mlst-clause-turn g c = by_row g.T.Tree.table g.T.Tree.failures g.J.ServerTransfer.view (context_of c.args.context.now) c.args.pending.now c.args.self.now c.entry.new.self c.entry.result _ _ c.in-Mlst.is c.entry.ensures.turn

pub returns-in-Mlst-clause-may_fail : goal.returns-in-Mlst-clause-may_fail
returns-in-Mlst-clause-may_fail g c = by_arm c.entry.result _ _ c.in-Mlst.is refl

pub returns-in-Mlsd-clause-turn : goal.returns-in-Mlsd-clause-turn
returns-in-Mlsd-clause-turn g c = by_row g.T.Tree.table g.T.Tree.failures g.J.ServerTransfer.view (context_of c.args.context.now) c.args.pending.now c.args.self.now c.mlsd.new.self c.mlsd.result _ _ c.in-Mlsd.is c.mlsd.ensures.turn

pub returns-in-Mlsd-clause-may_fail : goal.returns-in-Mlsd-clause-may_fail
returns-in-Mlsd-clause-may_fail g c = by_arm c.mlsd.result _ _ c.in-Mlsd.is refl

pub returns-in-Size-clause-turn : goal.returns-in-Size-clause-turn
returns-in-Size-clause-turn g c = by_row g.T.Tree.table g.T.Tree.failures g.J.ServerTransfer.view (context_of c.args.context.now) c.args.pending.now c.args.self.now c.size.new.self c.size.result _ _ (c.in-Size.is ∙ ap command.Size (sym c.octets-in-Size.ensures)) c.size.ensures.turn

pub returns-in-Size-clause-may_fail : goal.returns-in-Size-clause-may_fail
returns-in-Size-clause-may_fail g c = by_arm c.size.result _ _ c.in-Size.is refl

pub returns-in-Mdtm-clause-turn : goal.returns-in-Mdtm-clause-turn
returns-in-Mdtm-clause-turn g c = by_row g.T.Tree.table g.T.Tree.failures g.J.ServerTransfer.view (context_of c.args.context.now) c.args.pending.now c.args.self.now c.modified.new.self c.modified.result _ _ (c.in-Mdtm.is ∙ ap command.Mdtm (sym c.octets-in-Mdtm.ensures)) c.modified.ensures.turn

pub returns-in-Mdtm-clause-may_fail : goal.returns-in-Mdtm-clause-may_fail
returns-in-Mdtm-clause-may_fail g c = by_arm c.modified.result _ _ c.in-Mdtm.is refl

pub returns-in-Syst-clause-turn : goal.returns-in-Syst-clause-turn
returns-in-Syst-clause-turn g c = by_reply g.T.Tree.table g.T.Tree.failures g.J.ServerTransfer.view (context_of c.args.context.now) c.args.pending.now c.args.self.now (Replies.Fixed Texts.System) _ _ c.in-Syst.is refl

pub returns-in-Stat-clause-turn : goal.returns-in-Stat-clause-turn
returns-in-Stat-clause-turn g c = by_reply g.T.Tree.table g.T.Tree.failures g.J.ServerTransfer.view (context_of c.args.context.now) c.args.pending.now c.args.self.now (Replies.Fixed Texts.Serving) _ _ c.in-Stat.is refl

pub returns-in-Help-clause-turn : goal.returns-in-Help-clause-turn
returns-in-Help-clause-turn g c = by_reply g.T.Tree.table g.T.Tree.failures g.J.ServerTransfer.view (context_of c.args.context.now) c.args.pending.now c.args.self.now (Replies.Fixed Texts.Help) _ _ c.in-Help.is refl

pub returns-in-Noop-clause-turn : goal.returns-in-Noop-clause-turn
returns-in-Noop-clause-turn g c = by_reply g.T.Tree.table g.T.Tree.failures g.J.ServerTransfer.view (context_of c.args.context.now) c.args.pending.now c.args.self.now (Replies.Fixed Texts.Fine) _ _ c.in-Noop.is refl

pub returns-in-Feat-clause-turn : goal.returns-in-Feat-clause-turn
returns-in-Feat-clause-turn g c = by_reply g.T.Tree.table g.T.Tree.failures g.J.ServerTransfer.view (context_of c.args.context.now) c.args.pending.now c.args.self.now Replies.Features _ _ c.in-Feat.is refl

pub returns-clause-turn : goal.returns-clause-turn
returns-clause-turn g c = by_turn g.T.Tree.table g.T.Tree.failures g.J.ServerTransfer.view (context_of c.args.context.now) c.args.pending.now c.args.self.now c.opts.new.self c.opts.result _ _ (c.in-Opts.is ∙ ap command.Opts (sym c.octets-in-Opts.ensures)) c.opts.ensures.turn c.opts.ensures.tree
