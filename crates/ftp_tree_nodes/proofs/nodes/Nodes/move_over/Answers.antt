use Rattle.std.proofs.Common.{◌≡◌, ◌⊎◌, ◌++◌, Option, Some, None, is_some, true, [], Result, Ok, OnOk, subst, sym, ap, ◌∙◌, arith}
use Rattle.std.specs.List.{list_all}
use Rattle.std.proofs.lemmas.Bool.{true≢false}
use Rattle.ftp_path.specs.Kept.{names_of}
use Rattle.ftp_path.specs.Path.{is_name}
use Rattle.ftp_tree_nodes.specs.Branch.{found}
use Rattle.ftp_tree.specs.Sound.{IsSoundTable}
use Rattle.ftp_tree.specs.Rows.{whole}
use Rattle.ftp_tree.specs.Map.{Map}
use Rattle.ftp_tree.specs.Tree.{delete_refusal, moved, node_at, remove_refusal, removed, rename_refusal, under, with_part}
use Rattle.ftp_tree.proofs.KeepLaws.{nothing}
use Rattle.ftp_tree.proofs.MapLemmas.{empty-at}
use Rattle.ftp_tree.proofs.PartLemmas.{put-whole, taken-whole}
use Rattle.ftp_tree_nodes.proofs.PlaceLemmas.{some-key}
use Rattle.ftp_tree_nodes.proofs.PlacingLemmas.{moves-over}
use Rattle.ftp_tree.proofs.SoundLemmas.{place-names, sound-empty, sound-part, sound-under}
use Rattle.std.specs.FinMap as fin
use Rattle.ftp_tree.specs.Map as maps
use Rattle.ftp_tree_nodes.proofs.nodes.Nodes.move_over.Goals as goal

some-found : (part : Option Map) → is_some (maps.node_at (found part) []) ≡ true → is_some part ≡ true
some-found None some = absurd (true≢false (sym some ∙ ap is_some (empty-at [])))
some-found (Some part) some = λ i. true

at-ok : {X Y P : Type 0} (r : Result X Y) (x : X) → r ≡ Ok x → OnOk r P → P
at-ok {P = P} r x is holds = subst (λ r. OnOk r P) is holds

pub take_out-requires-clause-some : goal.take_out-requires-clause-some
take_out-requires-clause-some g c =
    let moves = moves-over (whole c.self.inside.limits c.self.inside.root) c.args.root.now c.args.from.now c.args.to.now c.self.invariant.tree
    (subst (λ t. (delete_refusal (under t c.args.root.now) c.args.to.now ≡ None) ⊎ (remove_refusal (under t c.args.root.now) c.args.to.now ≡ None))
    (sym c.self.view_is) c.requires.loose)
    (ap (λ t. rename_refusal (removed (under t c.args.root.now) c.args.to.now) c.args.from.now c.args.to.now) c.self.view_is ∙ c.requires.free) in
    some-key c.key.result.now c.key.ensures.place (λ none. moves.some (sym (c.key.ensures.names ∙ c.of-old.ensures) ∙ none))

pub unwrap-node-requires : goal.unwrap-node-requires
unfolding node_at under
unwrap-node-requires g c =
    let moves = moves-over (whole c.self.inside.limits c.self.inside.root) c.args.root.now c.args.from.now c.args.to.now c.self.invariant.tree
    (subst (λ t. (delete_refusal (under t c.args.root.now) c.args.to.now ≡ None) ⊎ (remove_refusal (under t c.args.root.now) c.args.to.now ≡ None))
    (sym c.self.view_is) c.requires.loose)
    (ap (λ t. rename_refusal (removed (under t c.args.root.now) c.args.to.now) c.args.from.now c.args.to.now) c.self.view_is ∙ c.requires.free) in
    let taken : found c.take_out.result ≡ maps.under c.self.inside.root (c.args.root.now ++ c.args.from.now) = c.take_out.ensures.taken ∙ ap (maps.under c.self.inside.root) (c.key.ensures.names ∙ c.of-old.ensures) in
    some-found c.take_out.result (ap (λ all. is_some (maps.node_at all [])) taken ∙ moves.top)

pub put-requires-clause-stands : goal.put-requires-clause-stands
unfolding node_at under
put-requires-clause-stands g c =
    let moves = moves-over (whole c.self.inside.limits c.self.inside.root) c.args.root.now c.args.from.now c.args.to.now c.self.invariant.tree
    (subst (λ t. (delete_refusal (under t c.args.root.now) c.args.to.now ≡ None) ⊎ (remove_refusal (under t c.args.root.now) c.args.to.now ≡ None))
    (sym c.self.view_is) c.requires.loose)
    (ap (λ t. rename_refusal (removed (under t c.args.root.now) c.args.to.now) c.args.from.now c.args.to.now) c.self.view_is ∙ c.requires.free) in
    let taken : found c.take_out.result ≡ maps.under c.self.inside.root (c.args.root.now ++ c.args.from.now) = c.take_out.ensures.taken ∙ ap (maps.under c.self.inside.root) (c.key.ensures.names ∙ c.of-old.ensures) in
    ap (λ all. is_some (maps.node_at all [])) (ap found (sym c.unwrap-node.ensures) ∙ taken) ∙ moves.top

pub unwrap-requires : goal.unwrap-requires
unfolding node_at with_part
unwrap-requires g c =
    let moves = moves-over (whole c.self.inside.limits c.self.inside.root) c.args.root.now c.args.from.now c.args.to.now c.self.invariant.tree
    (subst (λ t. (delete_refusal (under t c.args.root.now) c.args.to.now ≡ None) ⊎ (remove_refusal (under t c.args.root.now) c.args.to.now ≡ None))
    (sym c.self.view_is) c.requires.loose)
    (ap (λ t. rename_refusal (removed (under t c.args.root.now) c.args.to.now) c.args.from.now c.args.to.now) c.self.view_is ∙ c.requires.free) in
    let node : c.unwrap-node.result ≡ found c.take_out.result = ap found (sym c.unwrap-node.ensures) in
    let left : c.take_out.new.self ≡ maps.with_part c.self.inside.root (c.args.root.now ++ c.args.from.now) fin.empty =
    c.take_out.ensures.left ∙ ap (λ p. maps.with_part c.self.inside.root p fin.empty) (c.key.ensures.names ∙ c.of-old.ensures) in
    let there : is_some (maps.node_at c.take_out.new.self (names_of c.key-2.result.now)) ≡ true =
    ap (λ t. is_some (maps.node_at t (names_of c.key-2.result.now))) left
    ∙ ap (λ p. is_some (maps.node_at (maps.with_part c.self.inside.root (c.args.root.now ++ c.args.from.now) fin.empty) p)) (c.key-2.ensures.names ∙ c.of-new.ensures) ∙ moves.there in
    c.put.ensures.fits there
    (omega (arith, c.take_out.ensures.counted.0, ap fin.len node, c.count-all.ensures.nodes, c.count-all.type_inv))
    (omega (arith, c.take_out.ensures.counted.1, ap maps.octets_in node, c.count-all.ensures.octets, c.count-all.type_inv))

pub invariant_of-self : goal.invariant_of-self
invariant_of-self g c =
    let limits = c.self.inside.limits in
    let table = whole limits c.self.inside.root in
    let old = c.args.root.now ++ c.args.from.now in
    let all = c.args.root.now ++ c.args.to.now in
    let moves = moves-over table c.args.root.now c.args.from.now c.args.to.now c.self.invariant.tree
    (subst (λ t. (delete_refusal (under t c.args.root.now) c.args.to.now ≡ None) ⊎ (remove_refusal (under t c.args.root.now) c.args.to.now ≡ None))
    (sym c.self.view_is) c.requires.loose)
    (ap (λ t. rename_refusal (removed (under t c.args.root.now) c.args.to.now) c.args.from.now c.args.to.now) c.self.view_is ∙ c.requires.free) in
    let taken = taken-whole limits c.self.inside.root _ _ c.take_out.ensures.taken ∙ ap (under table) (c.key.ensures.names ∙ c.of-old.ensures) in
    let left = put-whole limits c.self.inside.root fin.empty _ _ c.take_out.ensures.left
    ∙ ap (λ p. with_part table p (nothing limits)) (c.key.ensures.names ∙ c.of-old.ensures) in
    let is =
    put-whole limits c.take_out.new.self c.unwrap-node.result _ _ (at-ok c.put.result c.unwrap.result c.unwrap.ensures c.put.ensures.ok)
    ∙ ap (λ p. with_part (whole limits c.take_out.new.self) p (whole limits c.unwrap-node.result)) (c.key-2.ensures.names ∙ c.of-new.ensures)
    ∙ ap (λ t. with_part t all (whole limits c.unwrap-node.result)) left
    ∙ ap (with_part (with_part table old (nothing limits)) all) (ap (λ part. whole limits (found part)) (sym c.unwrap-node.ensures) ∙ taken) in
    let from_names = ap (list_all is_name) (sym (c.key.ensures.names ∙ c.of-old.ensures)) ∙ place-names _ c.key.ensures.place in
    let to_names = ap (list_all is_name) (sym (c.key-2.ensures.names ∙ c.of-new.ensures)) ∙ place-names _ c.key-2.ensures.place in
    let without = sound-part table old (nothing limits) from_names c.self.invariant.entries sound-empty in
    record {
      tree = (moves.done _ is).tree;
      entries = subst IsSoundTable (sym is)
          (sound-part (with_part table old (nothing limits)) all (under table old) to_names without (sound-under table old c.self.invariant.entries));
    }

pub returns : goal.returns
returns g c =
    let limits = c.self.inside.limits in
    let table = whole limits c.self.inside.root in
    let old = c.args.root.now ++ c.args.from.now in
    let all = c.args.root.now ++ c.args.to.now in
    let moves = moves-over table c.args.root.now c.args.from.now c.args.to.now c.self.invariant.tree
    (subst (λ t. (delete_refusal (under t c.args.root.now) c.args.to.now ≡ None) ⊎ (remove_refusal (under t c.args.root.now) c.args.to.now ≡ None))
    (sym c.self.view_is) c.requires.loose)
    (ap (λ t. rename_refusal (removed (under t c.args.root.now) c.args.to.now) c.args.from.now c.args.to.now) c.self.view_is ∙ c.requires.free) in
    let taken = taken-whole limits c.self.inside.root _ _ c.take_out.ensures.taken ∙ ap (under table) (c.key.ensures.names ∙ c.of-old.ensures) in
    let left = put-whole limits c.self.inside.root fin.empty _ _ c.take_out.ensures.left
    ∙ ap (λ p. with_part table p (nothing limits)) (c.key.ensures.names ∙ c.of-old.ensures) in
    (moves.done _ (put-whole limits c.take_out.new.self c.unwrap-node.result _ _ (at-ok c.put.result c.unwrap.result c.unwrap.ensures c.put.ensures.ok)
    ∙ ap (λ p. with_part (whole limits c.take_out.new.self) p (whole limits c.unwrap-node.result)) (c.key-2.ensures.names ∙ c.of-new.ensures)
    ∙ ap (λ t. with_part t all (whole limits c.unwrap-node.result)) left
    ∙ ap (with_part (with_part table old (nothing limits)) all) (ap (λ part. whole limits (found part)) (sym c.unwrap-node.ensures) ∙ taken))).is
    ∙ ap (λ t. with_part t c.args.root.now (moved (removed (under t c.args.root.now) c.args.to.now) c.args.from.now c.args.to.now)) c.self.view_is
