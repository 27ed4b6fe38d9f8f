use Rattle.std.proofs.Common.{◌≡◌, ◌∙◌, sym}
use Rattle.ftp_tree.specs.Tree.{freed, under}
use Rattle.ftp_direct.proofs.OntoLemmas.{none_may, none_taken, onto_done, onto_refused, plain_done, plain_refused}
use Rattle.ftp_direct.proofs.places.move_to.Given.{Over}
use Rattle.ftp_direct.proofs.places.move_to.Goals as goal
use Rattle.ftp_direct.proofs.places.move_to.Goals.{else-onto-via-then-onto+else-takes_place, else-onto-via-else-onto}

pub returns-then-takes_place-clause-done : goal.returns-then-takes_place-clause-done
returns-then-takes_place-clause-done g c =
    onto_done _ _ _ _ _ _ _ c.args.onto c.rename_onto.result c.if-onto.true c.rename_onto.ensures.sound c.requires
    (sym c.takes_place.ensures ∙ c.if-takes_place.true) c.rename_onto.ensures.done

pub returns-then-takes_place-clause-refused : goal.returns-then-takes_place-clause-refused
returns-then-takes_place-clause-refused g c =
    onto_refused _ _ _ _ _ _ _ c.args.onto c.rename_onto.result c.if-onto.true c.rename_onto.ensures.sound c.requires
    (sym c.takes_place.ensures ∙ c.if-takes_place.true) c.rename_onto.ensures.refused

-- no file is replaced
kept : (g : Over) (c : goal.After-rename g)
    → freed c.args.onto (under (g.T.Tree.table c.args.tree.now) c.args.root.now) c.args.from.now c.args.to.now ≡ under (g.T.Tree.table c.args.tree.now) c.args.root.now
kept g c = elim c.else-onto.branch [
  | else-onto-via-then-onto+else-takes_place w ↦ none_taken _ _ _ _ c.args.onto (sym w.takes_place.ensures ∙ w.if-takes_place.false)
  | else-onto-via-else-onto w ↦ none_may _ _ _ _ c.args.onto w.if-onto.false
]

pub returns-clause-done : goal.returns-clause-done
returns-clause-done g c = plain_done _ _ _ _ _ _ _ c.args.onto c.rename.result (kept g c) c.rename.ensures.done

pub returns-clause-refused : goal.returns-clause-refused
returns-clause-refused g c = plain_refused _ _ _ _ _ _ _ c.args.onto c.rename.result (kept g c) c.rename.ensures.refused
