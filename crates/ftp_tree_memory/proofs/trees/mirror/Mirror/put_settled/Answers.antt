use Rattle.std.proofs.Common.{inl, is_some, length, refl, sym, ap, ◌∙◌}
use Rattle.ftp_tree.specs.Tree.{installed, removed, under, with_part}
use Rattle.ftp_tree.specs.Change.{never_strayed}
use Rattle.ftp_tree_nodes.proofs.PlacingLemmas.{had, install-above}
use Rattle.ftp_tree_memory.specs.trees.Folder.{changed_below}
use Rattle.ftp_tree_memory.proofs.trees.MirrorLemmas.{always-ok, install-over, kind-absent, mirrors-on, on-ok, spares-known}
use Rattle.ftp_tree_memory.proofs.trees.mirror.Mirror.put_settled.Goals as goal

pub put_over-requires : goal.put_over-requires
put_over-requires g c =
    let part = under c.args.self.now.tree c.args.root.now in
    let none = c.requires in
    inl (install-over part c.args.path.now (length c.args.content.now) none (ap is_some (sym c.kind.ensures) ∙ sym c.is_some.ensures ∙ c.if-is_some.true))

pub returns-then-is_some-clause-spares : goal.returns-then-is_some-clause-spares
returns-then-is_some-clause-spares g c =
    always-ok c.put_over.result (spares-known c.args.self.now.tree _ c.args.root.now c.args.path.now (ap is_some (sym c.kind.ensures) ∙ sym c.is_some.ensures ∙ c.if-is_some.true))

pub make_place-requires-clause-absent : goal.make_place-requires-clause-absent
make_place-requires-clause-absent g c = kind-absent _ c.args.path.now (ap is_some (sym c.kind.ensures) ∙ sym c.is_some.ensures ∙ c.if-is_some.false)

pub make_place-requires-clause-above : goal.make_place-requires-clause-above
make_place-requires-clause-above g c =
    let part = under c.args.self.now.tree c.args.root.now in
    let none = c.requires in
    install-above part c.args.path.now (length c.args.content.now) none (kind-absent part c.args.path.now (ap is_some (sym c.kind.ensures) ∙ sym c.is_some.ensures ∙ c.if-is_some.false))

pub returns-in-Err-clause-mirrors : goal.returns-in-Err-clause-mirrors
returns-in-Err-clause-mirrors g c =
    let absent = kind-absent (under c.args.self.now.tree c.args.root.now) c.args.path.now (ap is_some (sym c.kind.ensures) ∙ sym c.is_some.ensures ∙ c.if-is_some.false) in
    let place = had c.args.self.now.tree c.make_place.new.self c.args.root.now c.args.path.now absent (on-ok c.make_place.result (sym c.is_err.ensures.value ∙ c.if-is_err.false) c.make_place.ensures.ok) in
    let same = c.in-Err.ensures.same in
    let gone = c.take_away.ensures ∙ ap (λ t. with_part t c.args.root.now (removed (under t c.args.root.now) c.args.path.now)) same.0 ∙ place.back in
    λ before its held. before its (sym same.2 ∙ held) ∙ sym gone

pub returns-in-Err-clause-refused : goal.returns-in-Err-clause-refused
returns-in-Err-clause-refused g c =
    let part = under c.args.self.now.tree c.args.root.now in
    let none = c.requires in
    let absent = kind-absent part c.args.path.now (ap is_some (sym c.kind.ensures) ∙ sym c.is_some.ensures ∙ c.if-is_some.false) in
    let place = had c.args.self.now.tree c.make_place.new.self c.args.root.now c.args.path.now absent (on-ok c.make_place.result (sym c.is_err.ensures.value ∙ c.if-is_err.false) c.make_place.ensures.ok) in (
      c.take_away.ensures ∙ ap (λ t. with_part t c.args.root.now (removed (under t c.args.root.now) c.args.path.now)) c.in-Err.ensures.same.0 ∙ place.back,
      c.in-Err.ensures.fault,
    )

pub returns-clause-mirrors : goal.returns-clause-mirrors
returns-clause-mirrors g c =
    let absent = kind-absent (under c.args.self.now.tree c.args.root.now) c.args.path.now (ap is_some (sym c.kind.ensures) ∙ sym c.is_some.ensures ∙ c.if-is_some.false) in
    let place = had c.args.self.now.tree c.make_place.new.self c.args.root.now c.args.path.now absent (on-ok c.make_place.result (sym c.is_err.ensures.value ∙ c.if-is_err.false) c.make_place.ensures.ok) in
    let put = c.in_default.ensures.tree ∙ place.over c.args.content.now c.args.moment.seconds in
    λ before its held.
    mirrors-on _ _ (changed_below c.args.root.now (λ part. installed part c.args.path.now c.args.content.now c.args.moment.seconds)) c.args.self.now.tree before
    c.in_default.ensures.kept.0 its held ∙ sym put

pub returns-clause-done : goal.returns-clause-done
returns-clause-done g c =
    let part = under c.args.self.now.tree c.args.root.now in
    let none = c.requires in
    let absent = kind-absent part c.args.path.now (ap is_some (sym c.kind.ensures) ∙ sym c.is_some.ensures ∙ c.if-is_some.false) in
    let place = had c.args.self.now.tree c.make_place.new.self c.args.root.now c.args.path.now absent (on-ok c.make_place.result (sym c.is_err.ensures.value ∙ c.if-is_err.false) c.make_place.ensures.ok) in
    (refl, c.in_default.ensures.tree ∙ place.over c.args.content.now c.args.moment.seconds, ap never_strayed c.in_default.ensures.kept.1)
