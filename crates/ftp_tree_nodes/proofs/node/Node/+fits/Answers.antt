use Rattle.std.proofs.Common.{◌≡◌, ◌+◌, ◌-◌, ◌<◌, ◌&&◌, ◌∷◌, [], ℕ, Bool, List, Box, is_some, true, false, length, take, drop, get_or, suc, sym, ap, subst, ◌∙◌, arith}
use Rattle.std.specs.List.{list_all}
use Rattle.std.proofs.lemmas.Bool.{and_parts, and_from, true≢false}
use Rattle.std.proofs.lemmas.List.{take_all}
use Rattle.ftp_path.specs.Path.{is_component, is_name}
use Rattle.ftp_tree_nodes.specs.Branch.{IsBranch, IsDirectory, branch_table, part_of_child, parts, parts_table}
use Rattle.ftp_tree.specs.Text.{is_within_room, is_short}
use Rattle.ftp_tree.specs.Map.{Map, node_at}
use Rattle.ftp_tree_nodes.specs.declared.node.Child.{Child}
use Rattle.ftp_tree_nodes.proofs.BranchLemmas.{all-parts, all-parts-append, all-parts-none, all-parts-one, file-keys, keys-parts, room-behind, too-long, top-within}
use Rattle.ftp_tree.proofs.MapLemmas.{false-where}
use Rattle.ftp_tree_nodes.proofs.NameLemmas.{name-get, part-test, parts-more, parts-split}
use Rattle.std.specs.FinMap as fin
use Rattle.ftp_tree_nodes.proofs.node.Node.+fits.Goals as goal
use Rattle.ftp_tree_nodes.proofs.node.Node.+fits.Goals.{then-len-room-via-then-len-room, then-len-room-via-else-len-room+then-not-fits}

module _ {A C : Type 0} (room nodes octets : ℕ) (items lent : List (Box (Child A C) A)) (same : lent ≡ items) (kept : IsDirectory (parts items) nodes octets) (place : ℕ) (x : Box (Child A C) A)
    (within : place < length lent) (there : x ≡ get_or lent place x) where
  abbrev here : Bool
  here = list_all (λ q. is_within_room room (x.value.name ∷ q)) (fin.keys x.value.node)

  name-short : is_short x.value.name ≡ true
  name-short = (and_parts (is_component x.value.name) _ (name-get lent place x within there (ap (λ l. list_all (λ p. is_name p.0) (parts l)) same ∙ kept.named)).0).1

  name-stands : ◌≡◌ {A = Bool} (is_some (node_at x.value.node [])) true
  name-stands = part-test (λ p. is_some (node_at p.1 [])) lent place x within there (ap (λ l. list_all (λ p. is_some (node_at p.1 [])) (parts l)) same ∙ kept.standing)

  -- one more that is within the room, or one that is not
  more-fits : here ≡ true → all-parts (is_within_room room) (parts (take place lent)) ≡ true → all-parts (is_within_room room) (parts (take (place + 1) lent)) ≡ true
  more-fits fits before =
      ap (all-parts (is_within_room room)) (parts-more lent place x within there) ∙ all-parts-append (is_within_room room) (parts (take place lent)) (part_of_child x ∷ [])
      ∙ and_from (all-parts (is_within_room room) (parts (take place lent))) _ before (all-parts-one (is_within_room room) (part_of_child x) ∙ fits)

  one-long : (table : Map) → parts_table (parts items) ≡ table → here ≡ false → false ≡ list_all (is_within_room room) (fin.keys table)
  one-long table is long =
      sym (ap (λ t. list_all (is_within_room room) (fin.keys t)) (sym is) ∙ keys-parts (is_within_room room) (parts items) kept.sorted
      ∙ ap (λ b. is_within_room room [] && b) none ∙ ap (λ b. b && false) (top-within room))
    where
      none : all-parts (is_within_room room) (parts items) ≡ false
      none =
          ap (λ l. all-parts (is_within_room room) (parts l)) (sym same) ∙ ap (all-parts (is_within_room room)) (parts-split lent place x within there)
          ∙ all-parts-append (is_within_room room) (parts (take place lent)) (part_of_child x ∷ parts (drop (suc place) lent))
          ∙ false-where _ (λ all.
          let behind = (and_parts (all-parts (is_within_room room) (parts (take place lent))) _ all).1 in
          let split = all-parts-append (is_within_room room) (part_of_child x ∷ []) (parts (drop (suc place) lent)) in
          let first = (and_parts (all-parts (is_within_room room) (part_of_child x ∷ [])) _ (sym split ∙ behind)).0 in
          true≢false (sym (sym (all-parts-one (is_within_room room) (part_of_child x)) ∙ first) ∙ long))

pub returns-in_default : goal.returns-in_default
returns-in_default g t c =
    let file = ap (branch_table g.C.Holder.octets) (sym c.in_default.is) ∙ c.self.view_is in
    sym (ap (λ table. list_all (is_within_room c.args.room) (fin.keys table)) (sym file) ∙ file-keys (is_within_room c.args.room) (g.C.Holder.octets c.in_default.field-0) c.in_default.field-1.seconds
    ∙ ap (λ b. b && true) (top-within c.args.room))

pub loop-child-init : goal.loop-child-init
loop-child-init g t c = all-parts-none (is_within_room c.args.room)

pub returns-then-len-room : goal.returns-then-len-room
returns-then-len-room g t c =
    let items = c.in-Dir.children.items in
    let kept = subst IsBranch c.in-Dir.is c.self.invariant in
    let x = c.child-item.result in
    let whole : parts_table (parts items) ≡ c.args.self.now = ap (branch_table g.C.Holder.octets) (sym c.in-Dir.is) ∙ c.self.view_is in
    let same = c.deref-child-items.ensures.value in
    let stands = name-stands c.args.room _ _ items c.deref-child-items.result.now same kept c.loop-child.child-index x c.loop-child-test.true c.child-item.is in
    let short = name-short c.args.room _ _ items c.deref-child-items.result.now same kept c.loop-child.child-index x c.loop-child-test.true c.child-item.is in
    let one = one-long c.args.room _ _ items c.deref-child-items.result.now same kept c.loop-child.child-index x c.loop-child-test.true c.child-item.is c.args.self.now whole in
    let long : c.len.result ≡ length x.value.name = c.len.ensures ∙ ap (λ k. length k.name) c.deref.ensures in
    elim c.then-len-room.branch [
      | then-len-room-via-then-len-room w ↦ one (too-long c.args.room x.value.name x.value.node stands (omega (arith, long, w.if-len-room.true)))
      | then-len-room-via-else-len-room+then-not-fits w ↦
          let less : length x.value.name < c.args.room = omega (arith, long, w.if-len-room.false) in
          let count : w.len-else-len-room.result ≡ length x.value.name = w.len-else-len-room.ensures ∙ ap (λ k. length k.name) w.deref-else-len-room-2.ensures in
          one (room-behind c.args.room x.value.name x.value.node short less
          ∙ ap (λ k. list_all (is_within_room (c.args.room - k - 1)) (fin.keys x.value.node)) (sym count)
          ∙ ap (λ k. list_all (is_within_room (c.args.room - w.len-else-len-room.result - 1)) (fin.keys k.node)) (sym w.deref-else-len-room.ensures)
          ∙ sym w.fits.ensures ∙ w.if-not-fits.true)
    ]

pub loop-child-preserved : goal.loop-child-preserved
loop-child-preserved g t c =
    let items = c.in-Dir.children.items in
    let kept = subst IsBranch c.in-Dir.is c.self.invariant in
    let x = c.child-item.result in
    let same = c.deref-child-items.ensures.value in
    let short = name-short c.args.room _ _ items c.deref-child-items.result.now same kept c.loop-child.child-index x c.loop-child-test.true c.child-item.is in
    let long : c.len.result ≡ length x.value.name = c.len.ensures ∙ ap (λ k. length k.name) c.deref.ensures in
    let less : length x.value.name < c.args.room = omega (arith, long, c.if-len-room.false) in
    let count : c.len-else-len-room.result ≡ length x.value.name = c.len-else-len-room.ensures ∙ ap (λ k. length k.name) c.deref-else-len-room-2.ensures in
    more-fits c.args.room _ _ items c.deref-child-items.result.now same kept c.loop-child.child-index x c.loop-child-test.true c.child-item.is
    (room-behind c.args.room x.value.name x.value.node short less
    ∙ ap (λ k. list_all (is_within_room (c.args.room - k - 1)) (fin.keys x.value.node)) (sym count)
    ∙ ap (λ k. list_all (is_within_room (c.args.room - c.len-else-len-room.result - 1)) (fin.keys k.node)) (sym c.deref-else-len-room.ensures)
    ∙ sym c.fits.ensures ∙ c.if-not-fits.false)
    c.loop-child.invariant

pub returns : goal.returns
returns g t c =
    let items = c.in-Dir.children.items in
    let kept = subst IsBranch c.in-Dir.is c.self.invariant in
    let whole : parts_table (parts items) ≡ c.args.self.now = ap (branch_table g.C.Holder.octets) (sym c.in-Dir.is) ∙ c.self.view_is in
    sym (ap (λ table. list_all (is_within_room c.args.room) (fin.keys table)) (sym whole) ∙ keys-parts (is_within_room c.args.room) (parts items) kept.sorted
    ∙ ap (λ b. is_within_room c.args.room [] && b)
    (ap (λ l. all-parts (is_within_room c.args.room) (parts l)) (sym c.deref-child-items.ensures.value ∙ sym (take_all c.loop-child.child-index c.deref-child-items.result.now c.loop-child-test.false)) ∙ c.loop-child.invariant)
    ∙ ap (λ b. b && true) (top-within c.args.room))
