use Rattle.std.proofs.Common.{◌≡◌, ◌+◌, ◌∙◌, ap, arith, inr, sym}
use Rattle.ftp_tree.proofs.CountLemmas.{stray-first, stray-second}
use Rattle.ftp_server_replies.proofs.SteadyLemmas.{steady_twice}
use Rattle.ftp_server.proofs.CountingLemmas.{none_told, steady_then}
use Rattle.ftp_server.proofs.HearLemmas.{of_ok, on_err, piece_lost, piece_more, some_taken}
use Rattle.ftp_server.proofs.ToldLemmas.{piece_told}
use Rattle.ftp_server.specs.Server.{OnCourse, view_of}
use Rattle.ftp_server.proofs.server.Server.hear_octets.Goals as goal

pub returns-then-is_err-clause-lost : goal.returns-then-is_err-clause-lost
returns-then-is_err-clause-lost g c =
    let failures = g.T.Tree.failures in let view = view_of g.T.Tree.table g.J.ServerTransfer.view in
    let l = c.loop-octet in let o = c.hear_octet-outcome in
    let first = stray-first (failures c.args.self.now.session.tree) (failures l.self.session.tree) (failures o.new.self.session.tree) l.invariant.steady.1 o.ensures.few.1 in
    let second = stray-second (failures c.args.self.now.session.tree) (failures l.self.session.tree) (failures o.new.self.session.tree) l.invariant.steady.1 o.ensures.few.1 in
    on_err o.result
    (λ h course. piece_lost c.args.piece.now l.octet-index l.count (view c.args.self.now) (view l.self) (view o.new.self) l.invariant.count c.loop-octet-test.true (l.invariant.heard (first course))
    (sym c.may_hear.ensures ∙ c.if-not-may_hear.false) (h (second course)))
    o.ensures.lost

pub loop-octet-preserved : goal.loop-octet-preserved
loop-octet-preserved g c =
    let failures = g.T.Tree.failures in let view = view_of g.T.Tree.table g.J.ServerTransfer.view in
    let l = c.loop-octet in let o = c.hear_octet-outcome in
    let fine = sym c.is_err.ensures.value ∙ c.if-is_err.false in
    let first = stray-first (failures c.args.self.now.session.tree) (failures l.self.session.tree) (failures o.new.self.session.tree) l.invariant.steady.1 o.ensures.few.1 in
    let second = stray-second (failures c.args.self.now.session.tree) (failures l.self.session.tree) (failures o.new.self.session.tree) l.invariant.steady.1 o.ensures.few.1 in
    record {
      count = ap (λ n. n + 1) l.invariant.count;
      heard = λ course. piece_more c.args.piece.now l.octet-index (view c.args.self.now) (view l.self) (view o.new.self) c.loop-octet-test.true (l.invariant.heard (first course))
          (sym c.may_hear.ensures ∙ c.if-not-may_hear.false) (of_ok o.result fine o.ensures.done (second course));
      told = λ course. piece_told c.args.piece.now l.octet-index (view c.args.self.now) (view l.self) o.new.self.heard c.loop-octet-test.true (l.invariant.heard (first course))
          (of_ok o.result fine o.ensures.told (second course));
      steady = steady_twice (failures c.args.self.now.session.tree) (failures l.self.session.tree) (failures o.new.self.session.tree) l.invariant.steady (of_ok o.result fine o.ensures.steady);
      refusals = o.ensures.refusals ∙ l.invariant.refusals;
      first = λ e. absurd (omega (arith, e));
    }

pub returns-then-not-may_hear-clause-some : goal.returns-then-not-may_hear-clause-some
returns-then-not-may_hear-clause-some g c = λ may some.
    let v = view_of g.T.Tree.table g.J.ServerTransfer.view c.args.self.now in let x = view_of g.T.Tree.table g.J.ServerTransfer.view c.loop-octet.self in
    some_taken c.loop-octet.octet-index c.loop-octet.count v x c.loop-octet.invariant.count c.loop-octet.invariant.first
    (sym c.may_hear.ensures ∙ c.if-not-may_hear.true) may

pub returns-then-not-may_hear-clause-most : goal.returns-then-not-may_hear-clause-most
returns-then-not-may_hear-clause-most g c = λ course. inr (sym c.may_hear.ensures ∙ c.if-not-may_hear.true)

pub returns-then-is_err-clause-few : goal.returns-then-is_err-clause-few
returns-then-is_err-clause-few g c =
    let failures = g.T.Tree.failures in
    steady_then 1 (failures c.args.self.now.session.tree) (failures c.loop-octet.self.session.tree) (failures c.hear_octet-outcome.new.self.session.tree)
    c.loop-octet.invariant.steady c.hear_octet-outcome.ensures.few

pub returns-then-not-may_hear-clause-few : goal.returns-then-not-may_hear-clause-few
returns-then-not-may_hear-clause-few g c = none_told 1 _ _ c.loop-octet.invariant.steady

pub returns-after-loop-octet-clause-few : goal.returns-after-loop-octet-clause-few
returns-after-loop-octet-clause-few g c = none_told 1 _ _ c.loop-octet.invariant.steady
