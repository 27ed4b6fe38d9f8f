use Rattle.std.proofs.Common.{◌≡◌, ◌<◌, ◌∙◌, List, ℕ, arith, inr, length, subst, sym, take}
use Rattle.ftp_tree.proofs.CountLemmas.{stray-first, stray-second}
use Rattle.ftp_server_model.specs.Failing.{AreReceived}
use Rattle.ftp_server_replies.proofs.SteadyLemmas.{steady_twice}
use Rattle.ftp_server.proofs.CountingLemmas.{none_told, steady_then}
use Rattle.ftp_server.proofs.HearLemmas.{of_ok, on_err}
use Rattle.ftp_server.proofs.TakenLemmas.{row_lost, row_more, some_taken}
use Rattle.ftp_server_model.specs.Heard.{heard_received}
use Rattle.ftp_server.proofs.ToldLemmas.{row_told}
use Rattle.ftp_server.specs.Data.{ReceivesTo}
use Rattle.ftp_server.specs.Server.{view_of}
use Rattle.ftp_server.proofs.server.Server.receive_octets.Goals as goal

pub returns-then-is_err-clause-lost : goal.returns-then-is_err-clause-lost
returns-then-is_err-clause-lost g c =
    let failures = g.T.Tree.failures in let view = view_of g.T.Tree.table g.J.ServerTransfer.view in
    let l = c.loop-count in let r = c.receive-taken in
    let x = view l.self in let w = view r.new.self in let n = r.result.count in
    let first = stray-first (failures c.args.self.now.session.tree) (failures l.self.session.tree) (failures r.new.self.session.tree) l.invariant.steady.1 r.ensures.few.1 in
    let second = stray-second (failures c.args.self.now.session.tree) (failures l.self.session.tree) (failures r.new.self.session.tree) l.invariant.steady.1 r.ensures.few.1 in
    on_err r.result.outcome
    (λ h course. row_lost c.args.piece.now l.count n (view c.args.self.now) x w (l.invariant.taken (first course))
    (subst (λ (l : List ℕ). AreReceived x (take n l) w) c.split_at.ensures.back (h (second course))))
    r.ensures.lost

pub loop-count-preserved : goal.loop-count-preserved
loop-count-preserved g c =
    let failures = g.T.Tree.failures in let view = view_of g.T.Tree.table g.J.ServerTransfer.view in
    let l = c.loop-count in let r = c.receive-taken in
    let v = view c.args.self.now in let x = view l.self in let w = view r.new.self in let n = r.result.count in
    let fine = sym c.is_err.ensures.value ∙ c.if-is_err.false in
    let more : 0 < length c.split_at.result.1.now = omega (arith, c.loop-count-test.true, c.split_at.ensures.back_len) in
    let some : 0 < n = r.ensures.some more in
    let first = stray-first (failures c.args.self.now.session.tree) (failures l.self.session.tree) (failures r.new.self.session.tree) l.invariant.steady.1 r.ensures.few.1 in
    let second = stray-second (failures c.args.self.now.session.tree) (failures l.self.session.tree) (failures r.new.self.session.tree) l.invariant.steady.1 r.ensures.few.1 in
    record {
      count = omega (arith, r.ensures.within, c.split_at.ensures.back_len);
      taken = λ course. row_more c.args.piece.now l.count n v x w (l.invariant.taken (first course))
          (subst (λ (l : List ℕ). ReceivesTo (take n l) x w) c.split_at.ensures.back (of_ok r.result.outcome fine r.ensures.done (second course)));
      told = λ course. row_told c.args.piece.now l.count n v x l.self.heard r.new.self.heard (l.invariant.taken (first course)).0 (l.invariant.told (first course))
          (subst (λ (o : List ℕ). r.new.self.heard ≡ heard_received l.self.heard x (take n o)) c.split_at.ensures.back
          (of_ok r.result.outcome fine r.ensures.told (second course)));
      steady = steady_twice (failures c.args.self.now.session.tree) (failures l.self.session.tree) (failures r.new.self.session.tree) l.invariant.steady (of_ok r.result.outcome fine r.ensures.steady);
      refusals = r.ensures.refusals ∙ l.invariant.refusals;
      first = λ e. absurd (omega (arith, e, some));
    }

pub returns-then-not-may_receive-clause-some : goal.returns-then-not-may_receive-clause-some
returns-then-not-may_receive-clause-some g c = λ may wide.
    let v = view_of g.T.Tree.table g.J.ServerTransfer.view c.args.self.now in let x = view_of g.T.Tree.table g.J.ServerTransfer.view c.loop-count.self in
    some_taken c.loop-count.count v x c.loop-count.invariant.first (sym c.may_receive.ensures ∙ c.if-not-may_receive.true) may

pub returns-then-not-may_receive-clause-most : goal.returns-then-not-may_receive-clause-most
returns-then-not-may_receive-clause-most g c = λ course. inr (sym c.may_receive.ensures ∙ c.if-not-may_receive.true)

pub returns-then-is_err-clause-some : goal.returns-then-is_err-clause-some
returns-then-is_err-clause-some g c = λ may wide.
    let more : 0 < length c.split_at.result.1.now = omega (arith, c.loop-count-test.true, c.split_at.ensures.back_len) in
    let some : 0 < c.receive-taken.result.count = c.receive-taken.ensures.some more in
    omega (arith, some)

pub loop-count-smaller : goal.loop-count-smaller
loop-count-smaller g c =
    let more : 0 < length c.split_at.result.1.now = omega (arith, c.loop-count-test.true, c.split_at.ensures.back_len) in
    let some : 0 < c.receive-taken.result.count = c.receive-taken.ensures.some more in
    omega (arith, some, c.loop-count-test.true, c.receive-taken.ensures.within, c.split_at.ensures.back_len)

pub returns-then-is_err-clause-few : goal.returns-then-is_err-clause-few
returns-then-is_err-clause-few g c =
    let failures = g.T.Tree.failures in
    steady_then 1 (failures c.args.self.now.session.tree) (failures c.loop-count.self.session.tree) (failures c.receive-taken.new.self.session.tree)
    c.loop-count.invariant.steady c.receive-taken.ensures.few

pub returns-then-not-may_receive-clause-few : goal.returns-then-not-may_receive-clause-few
returns-then-not-may_receive-clause-few g c = none_told 1 _ _ c.loop-count.invariant.steady

pub returns-after-loop-count-clause-few : goal.returns-after-loop-count-clause-few
returns-after-loop-count-clause-few g c = none_told 1 _ _ c.loop-count.invariant.steady
