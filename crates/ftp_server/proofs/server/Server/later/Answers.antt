use Rattle.std.proofs.Common.{Some, sym, subst, ◌∙◌}
use Rattle.std.proofs.Math.Logic.{∥∥₁_elim}
use Rattle.ftp_server.specs.Busy.{MayWait}
use Rattle.ftp_server.proofs.NameLemmas.{name_if_waits}
use Rattle.ftp_server.proofs.PathLemmas.{paths_once}
use Rattle.ftp_server.proofs.ToldLemmas.{busy_later, none_later, obeyed_told}
use Rattle.ftp_server.specs.Server.{view_of}
use Rattle.ftp_server.proofs.server.Server.later.Goals as goal

pub obey-requires-clause-paths : goal.obey-requires-clause-paths
obey-requires-clause-paths g c =
    ∥∥₁_elim c.args.self.now.paths (paths_once c.in-Some.heard) (λ h. let waits : MayWait (Some c.in-Some.heard) = subst MayWait (sym c.replace.ensures.value ∙ c.in-Some.is) h in waits.0)

pub obey-requires-clause-named : goal.obey-requires-clause-named
obey-requires-clause-named g c = name_if_waits c.in-Some.heard c.args.self.now.waiting (sym c.replace.ensures.value ∙ c.in-Some.is) c.args.self.now.paths

pub returns-then-not-is_idle-clause-told : goal.returns-then-not-is_idle-clause-told
returns-then-not-is_idle-clause-told g c = λ course.
    let v = view_of g.T.Tree.table g.J.ServerTransfer.view c.args.self.now in
    sym (busy_later v (sym c.is_idle.ensures ∙ c.if-not-is_idle.true)).1

pub returns-in-Some-clause-told : goal.returns-in-Some-clause-told
returns-in-Some-clause-told g c =
    let v = view_of g.T.Tree.table g.J.ServerTransfer.view c.args.self.now in
    obeyed_told _ c.obey.result c.in-Some.heard v c.obey.new.self.heard (sym c.replace.ensures.value ∙ c.in-Some.is) (sym c.is_idle.ensures ∙ c.if-not-is_idle.false) c.obey.ensures.told

pub returns-in-None-clause-told : goal.returns-in-None-clause-told
returns-in-None-clause-told g c = λ course.
    let v = view_of g.T.Tree.table g.J.ServerTransfer.view c.args.self.now in
    sym (none_later v (sym c.replace.ensures.value ∙ c.in-None.is)).1
