use Rattle.ftp_operation.specs.declared.op.Op.TheVariants as Ops
use Rattle.ftp_direct.proofs.NodeLineLemmas.{optional_text}
use Rattle.ftp_direct.proofs.RefusalLemmas.{if_gives}
use Rattle.ftp_direct.proofs.RightsLemmas.{due_else}
use Rattle.ftp_direct.proofs.direct_run.due.Goals as goal

pub returns-in-Where-clause-answer : goal.returns-in-Where-clause-answer
returns-in-Where-clause-answer g c =
    rw c.in-Where.is
    (due_else (g.T.Tree.table c.args.tree.now) c.args.root.now c.args.cwd.now c.args.onto c.say_where.result
    (g.T.Tree.failures c.args.tree.now) (g.T.Tree.failures c.args.tree.now) (g.T.Tree.table c.args.tree.now) c.args.cwd.now
    Ops.Where 0 tt
    (if_gives c.say_where.result _ _ _ _ (c.say_where.ensures (g.T.Tree.table c.args.tree.now) c.args.root.now)))

pub returns-in-ChangeDir-clause-answer : goal.returns-in-ChangeDir-clause-answer
returns-in-ChangeDir-clause-answer g c =
    rw c.in-ChangeDir.is
    (due_else (g.T.Tree.table c.args.tree.now) c.args.root.now c.args.cwd.now c.args.onto c.change_dir.result
    (g.T.Tree.failures c.args.tree.now) (g.T.Tree.failures c.change_dir.new.tree) (g.T.Tree.table c.change_dir.new.tree) c.change_dir.new.cwd
    (Ops.ChangeDir c.in-ChangeDir.text) 0 tt
    c.change_dir.ensures.answer)

pub returns-in-Up-clause-answer : goal.returns-in-Up-clause-answer
returns-in-Up-clause-answer g c =
    rw c.in-Up.is
    (due_else (g.T.Tree.table c.args.tree.now) c.args.root.now c.args.cwd.now c.args.onto c.go_up.result
    (g.T.Tree.failures c.args.tree.now) (g.T.Tree.failures c.args.tree.now) (g.T.Tree.table c.args.tree.now) c.go_up.new.cwd
    Ops.Up 0 tt
    (if_gives c.go_up.result _ _ _ _ (c.go_up.ensures.answer (g.T.Tree.table c.args.tree.now) c.args.root.now)))

pub returns-in-MakeDir-clause-answer : goal.returns-in-MakeDir-clause-answer
returns-in-MakeDir-clause-answer g c =
    rw c.in-MakeDir.is
    (due_else (g.T.Tree.table c.args.tree.now) c.args.root.now c.args.cwd.now c.args.onto c.make_dir.result
    (g.T.Tree.failures c.args.tree.now) (g.T.Tree.failures c.make_dir.new.tree) (g.T.Tree.table c.make_dir.new.tree) c.args.cwd.now
    (Ops.MakeDir c.in-MakeDir.text) 0 tt
    c.make_dir.ensures.answer)

pub returns-in-RemoveDir-clause-answer : goal.returns-in-RemoveDir-clause-answer
returns-in-RemoveDir-clause-answer g c =
    rw c.in-RemoveDir.is
    (due_else (g.T.Tree.table c.args.tree.now) c.args.root.now c.args.cwd.now c.args.onto c.remove_dir.result
    (g.T.Tree.failures c.args.tree.now) (g.T.Tree.failures c.remove_dir.new.tree) (g.T.Tree.table c.remove_dir.new.tree) c.args.cwd.now
    (Ops.RemoveDir c.in-RemoveDir.text) 0 tt
    c.remove_dir.ensures.answer)

pub returns-in-Delete-clause-answer : goal.returns-in-Delete-clause-answer
returns-in-Delete-clause-answer g c =
    rw c.in-Delete.is
    (due_else (g.T.Tree.table c.args.tree.now) c.args.root.now c.args.cwd.now c.args.onto c.delete.result
    (g.T.Tree.failures c.args.tree.now) (g.T.Tree.failures c.delete.new.tree) (g.T.Tree.table c.delete.new.tree) c.args.cwd.now
    (Ops.Delete c.in-Delete.text) 0 tt
    c.delete.ensures.answer)

pub returns-in-Put-clause-answer : goal.returns-in-Put-clause-answer
returns-in-Put-clause-answer g c =
    rw c.in-Put.is
    (due_else (g.T.Tree.table c.args.tree.now) c.args.root.now c.args.cwd.now c.args.onto c.put.result
    (g.T.Tree.failures c.args.tree.now) (g.T.Tree.failures c.put.new.tree) (g.T.Tree.table c.put.new.tree) c.args.cwd.now
    (Ops.Put c.in-Put.text c.in-Put.octets c.in-Put.field-2) c.args.moment.seconds tt
    (c.put.ensures.answer c.in-Put.field-2))

pub returns-in-Append-clause-answer : goal.returns-in-Append-clause-answer
returns-in-Append-clause-answer g c =
    rw c.in-Append.is
    (due_else (g.T.Tree.table c.args.tree.now) c.args.root.now c.args.cwd.now c.args.onto c.append.result
    (g.T.Tree.failures c.args.tree.now) (g.T.Tree.failures c.append.new.tree) (g.T.Tree.table c.append.new.tree) c.args.cwd.now
    (Ops.Append c.in-Append.text c.in-Append.octets c.in-Append.field-2) c.args.moment.seconds tt
    (c.append.ensures.answer c.in-Append.field-2))

pub returns-in-PutFrom-clause-answer : goal.returns-in-PutFrom-clause-answer
returns-in-PutFrom-clause-answer g c =
    rw c.in-PutFrom.is
    (due_else (g.T.Tree.table c.args.tree.now) c.args.root.now c.args.cwd.now c.args.onto c.put_from.result
    (g.T.Tree.failures c.args.tree.now) (g.T.Tree.failures c.put_from.new.tree) (g.T.Tree.table c.put_from.new.tree) c.args.cwd.now
    (Ops.PutFrom c.in-PutFrom.text c.in-PutFrom.offset c.in-PutFrom.octets c.in-PutFrom.how) c.args.moment.seconds tt
    c.put_from.ensures.answer)

pub returns-in-Get-clause-answer : goal.returns-in-Get-clause-answer
returns-in-Get-clause-answer g c =
    rw c.in-Get.is
    (due_else (g.T.Tree.table c.args.tree.now) c.args.root.now c.args.cwd.now c.args.onto c.get.result
    (g.T.Tree.failures c.args.tree.now) (g.T.Tree.failures c.get.new.tree) (g.T.Tree.table c.get.new.tree) c.args.cwd.now
    (Ops.Get c.in-Get.text c.in-Get.field-1) 0 tt
    (c.get.ensures.answer c.in-Get.field-1))

pub returns-in-GetFrom-clause-answer : goal.returns-in-GetFrom-clause-answer
returns-in-GetFrom-clause-answer g c =
    rw c.in-GetFrom.is
    (due_else (g.T.Tree.table c.args.tree.now) c.args.root.now c.args.cwd.now c.args.onto c.get_from.result
    (g.T.Tree.failures c.args.tree.now) (g.T.Tree.failures c.get_from.new.tree) (g.T.Tree.table c.get_from.new.tree) c.args.cwd.now
    (Ops.GetFrom c.in-GetFrom.text c.in-GetFrom.offset c.in-GetFrom.how) 0 tt
    c.get_from.ensures.answer)

pub returns-in-Peek-clause-answer : goal.returns-in-Peek-clause-answer
returns-in-Peek-clause-answer g c =
    rw c.in-Peek.is
    (due_else (g.T.Tree.table c.args.tree.now) c.args.root.now c.args.cwd.now c.args.onto c.peek.result
    (g.T.Tree.failures c.args.tree.now) (g.T.Tree.failures c.peek.new.tree) (g.T.Tree.table c.peek.new.tree) c.args.cwd.now
    (Ops.Peek c.in-Peek.text c.in-Peek.count c.in-Peek.field-2) 0 tt
    (c.peek.ensures.answer c.in-Peek.field-2))

pub returns-in-Size-clause-answer : goal.returns-in-Size-clause-answer
returns-in-Size-clause-answer g c =
    rw c.in-Size.is
    (due_else (g.T.Tree.table c.args.tree.now) c.args.root.now c.args.cwd.now c.args.onto c.size.result
    (g.T.Tree.failures c.args.tree.now) (g.T.Tree.failures c.size.new.tree) (g.T.Tree.table c.size.new.tree) c.args.cwd.now
    (Ops.Size c.in-Size.text c.in-Size.how) 0 tt
    c.size.ensures.answer)

pub returns-in-Modified-clause-answer : goal.returns-in-Modified-clause-answer
returns-in-Modified-clause-answer g c =
    rw c.in-Modified.is
    (due_else (g.T.Tree.table c.args.tree.now) c.args.root.now c.args.cwd.now c.args.onto c.modified.result
    (g.T.Tree.failures c.args.tree.now) (g.T.Tree.failures c.modified.new.tree) (g.T.Tree.table c.modified.new.tree) c.args.cwd.now
    (Ops.Modified c.in-Modified.text) 0 tt
    c.modified.ensures.answer)

pub returns-in-Facts-clause-answer : goal.returns-in-Facts-clause-answer
returns-in-Facts-clause-answer g c =
    rw c.in-Facts.is
    (due_else (g.T.Tree.table c.args.tree.now) c.args.root.now c.args.cwd.now c.args.onto c.facts.result
    (g.T.Tree.failures c.args.tree.now) (g.T.Tree.failures c.facts.new.tree) (g.T.Tree.table c.facts.new.tree) c.args.cwd.now
    (Ops.Facts c.in-Facts.text) 0 tt
    c.facts.ensures.answer)

pub returns-in-List-clause-answer : goal.returns-in-List-clause-answer
returns-in-List-clause-answer g c =
    rw c.in-List.is
    (due_else (g.T.Tree.table c.args.tree.now) c.args.root.now c.args.cwd.now c.args.onto c.list.result
    (g.T.Tree.failures c.args.tree.now) (g.T.Tree.failures c.list.new.tree) (g.T.Tree.table c.list.new.tree) c.args.cwd.now
    (Ops.List c.in-List.text c.in-List.field-1) 0 tt
    (c.list.ensures.answer c.in-List.field-1))

pub returns-in-Names-clause-answer : goal.returns-in-Names-clause-answer
returns-in-Names-clause-answer g c =
    rw c.in-Names.is
    (due_else (g.T.Tree.table c.args.tree.now) c.args.root.now c.args.cwd.now c.args.onto c.names.result
    (g.T.Tree.failures c.args.tree.now) (g.T.Tree.failures c.names.new.tree) (g.T.Tree.table c.names.new.tree) c.args.cwd.now
    (Ops.Names c.in-Names.text c.in-Names.field-1) 0 tt
    (c.names.ensures.answer c.in-Names.field-1))

pub text-requires : goal.text-requires
text-requires g c = optional_text c.in-Text.verb c.in-Text.path (rw c.in-Text.is at c.requires)

pub returns-in-Text-clause-answer : goal.returns-in-Text-clause-answer
returns-in-Text-clause-answer g c =
    rw c.in-Text.is
    (due_else (g.T.Tree.table c.args.tree.now) c.args.root.now c.args.cwd.now c.args.onto c.text.result
    (g.T.Tree.failures c.args.tree.now) (g.T.Tree.failures c.text.new.tree) (g.T.Tree.table c.text.new.tree) c.args.cwd.now
    (Ops.Text c.in-Text.verb c.in-Text.path c.in-Text.field-2) 0 tt
    (c.text.ensures.answer c.in-Text.field-2))
