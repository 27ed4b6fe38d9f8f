use Rattle.std.proofs.Common.{◌≤◌, ◌+◌, ◌++◌, ◌∙◌, rules, sym, ap, length, arith}
use Rattle.ftp_server_transfer.specs.Download.{rest_of}
use Rattle.ftp_tree.proofs.CountLemmas.{stray-first, stray-second}
use Rattle.ftp_server_transfer.proofs.DownloadLemmas.{given_front, more_made}
use Rattle.ftp_server_transfer.proofs.download.Download.give.Goals as goal

pub loop-made-preserved : goal.loop-made-preserved
loop-made-preserved g c =
    let rest = rest_of g.T.Tree.opened in
    let given = c.step-given in
    let failures = g.T.Tree.failures in
    let before = c.loop-made.invariant.failures in
    let now = given.ensures.steady c.if-given.false in
    record {
      made = search rules;
      room = search rules;
      len = c.loop-made.invariant.len ∙ sym (ap length given.ensures.file);
      text = λ stays. more_made (rest c.args.self.now) (rest c.loop-made.self) (rest given.new.self) c.loop-made.room c.split_at_mut-free.result.0.now given.new.room
          c.loop-made.made given.result.count c.loop-made.invariant.made c.split_at_mut-free.ensures.front
          (c.loop-made.invariant.text (stray-first (failures c.args.tree.now) (failures c.loop-made.tree) (failures given.new.tree) before.1 now.1 stays))
          (given.ensures.text (stray-second (failures c.args.tree.now) (failures c.loop-made.tree) (failures given.new.tree) before.1 now.1 stays));
      table = given.ensures.table ∙ c.loop-made.invariant.table;
      failures = (now.0 ∙ before.0, omega (arith, before.1, now.1));
    }

pub returns-then-given-clause-gave : goal.returns-then-given-clause-gave
returns-then-given-clause-gave g c = λ stays.
    let given = c.step-given in
    let room = c.split_at_mut-free.result.0.now ++ given.new.room in
    let few : c.loop-made.made + given.result.count ≤ length room = search rules in
    let rest = rest_of g.T.Tree.opened in
    let failures = g.T.Tree.failures in
    let before = c.loop-made.invariant.failures in
    let now = given.ensures.failed c.if-given.true in
    let made = more_made (rest c.args.self.now) (rest c.loop-made.self) (rest given.new.self) c.loop-made.room c.split_at_mut-free.result.0.now given.new.room
    c.loop-made.made given.result.count c.loop-made.invariant.made c.split_at_mut-free.ensures.front
    (c.loop-made.invariant.text (stray-first (failures c.args.tree.now) (failures c.loop-made.tree) (failures given.new.tree) before.1 now.1 stays))
    (given.ensures.text (stray-second (failures c.args.tree.now) (failures c.loop-made.tree) (failures given.new.tree) before.1 now.1 stays)) in
    (given_front (rest c.args.self.now) (rest given.new.self) room (c.loop-made.made + given.result.count) few made).0

pub returns-then-given-clause-rest : goal.returns-then-given-clause-rest
returns-then-given-clause-rest g c = λ stays.
    let given = c.step-given in
    let room = c.split_at_mut-free.result.0.now ++ given.new.room in
    let few : c.loop-made.made + given.result.count ≤ length room = search rules in
    let rest = rest_of g.T.Tree.opened in
    let failures = g.T.Tree.failures in
    let before = c.loop-made.invariant.failures in
    let now = given.ensures.failed c.if-given.true in
    let made = more_made (rest c.args.self.now) (rest c.loop-made.self) (rest given.new.self) c.loop-made.room c.split_at_mut-free.result.0.now given.new.room
    c.loop-made.made given.result.count c.loop-made.invariant.made c.split_at_mut-free.ensures.front
    (c.loop-made.invariant.text (stray-first (failures c.args.tree.now) (failures c.loop-made.tree) (failures given.new.tree) before.1 now.1 stays))
    (given.ensures.text (stray-second (failures c.args.tree.now) (failures c.loop-made.tree) (failures given.new.tree) before.1 now.1 stays)) in
    (given_front (rest c.args.self.now) (rest given.new.self) room (c.loop-made.made + given.result.count) few made).1
