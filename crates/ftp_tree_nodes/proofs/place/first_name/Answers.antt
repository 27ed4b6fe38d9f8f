use Rattle.std.proofs.Common.{◌≡◌, ◌≤◌, ◌<◌, ◌-◌, List, ℕ, Option, take, drop, length, refl, ap, ◌∙◌, arith}
use Rattle.std.specs.List.{position}
use Rattle.std.specs.Option.{unwrap_or}
use Rattle.std.proofs.lemmas.List.{take_rest, length-take}
use Rattle.ftp_path.specs.Path.{is_slash}
use Rattle.ftp_tree.specs.Text.{IsPlace}
use Rattle.ftp_tree_nodes.proofs.PlaceLemmas.{IsFirst, first-of}
use Rattle.ftp_tree_nodes.proofs.place.first_name.Goals as goal

-- the parts that are lent
first-lent : (key : List ℕ) (slash : Option ℕ) (end : ℕ) → IsPlace key → 0 < length key → slash ≡ position is_slash (take (length key - 1) (drop 1 key)) → end ≡ unwrap_or slash (length (take (length key - 1) (drop 1 key)))
    → (end ≤ length (take (length key - 1) (drop 1 key)))
    × IsFirst key (take end (take (length key - 1) (drop 1 key))) (take (length (take (length key - 1) (drop 1 key)) - end) (drop end (take (length key - 1) (drop 1 key))))
first-lent key slash end place some at is =
    let text = take (length key - 1) (drop 1 key) in
    first-of key text (take end text) (take (length text - end) (drop end text)) end place some (take_rest key 1) (is ∙ ap (λ o. unwrap_or o (length text)) at) refl (take_rest text end)

pub slice_bounds-result-end : goal.slice_bounds-result-end
slice_bounds-result-end c =
    let few = (first-lent c.args.key.now c.first_slash.result c.unwrap_or-end.result c.requires.place c.requires.some c.first_slash.ensures c.unwrap_or-end.ensures).0 in
    omega (arith, few, length-take c.unwrap_or-end.result (take (length c.args.key.now - 1) (drop 1 c.args.key.now)))

pub returns-clause-names : goal.returns-clause-names
returns-clause-names c = (first-lent c.args.key.now c.first_slash.result c.unwrap_or-end.result c.requires.place c.requires.some c.first_slash.ensures c.unwrap_or-end.ensures).1.names

pub returns-clause-name : goal.returns-clause-name
returns-clause-name c = (first-lent c.args.key.now c.first_slash.result c.unwrap_or-end.result c.requires.place c.requires.some c.first_slash.ensures c.unwrap_or-end.ensures).1.named

pub returns-clause-rest : goal.returns-clause-rest
returns-clause-rest c = (first-lent c.args.key.now c.first_slash.result c.unwrap_or-end.result c.requires.place c.requires.some c.first_slash.ensures c.unwrap_or-end.ensures).1.place
