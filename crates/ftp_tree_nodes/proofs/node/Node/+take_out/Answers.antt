use Rattle.std.proofs.Common.{◌≡◌, ◌+◌, ◌-◌, ◌<◌, [], ◌∷◌, length, refl, add-zero, sym, ap, subst, ◌∙◌, arith}
use Rattle.std.specs.Box.{with_value}
use Rattle.std.specs.FinMap.Entries.{find}
use Rattle.std.proofs.lemmas.Grind.{common_steps}
use Rattle.ftp_path.specs.Kept.{names_of}
use Rattle.ftp_tree_nodes.specs.Branch.{HasGap, IsBranch, NameStandsAt, branch_table, file_alone, found, name_cmp, parts, parts_table}
use Rattle.ftp_tree.specs.Map.{Map, octets_in, under, with_part}
use Rattle.ftp_tree_nodes.proofs.BranchLemmas.{but, but-name, directory-as, file-under, is-gone, len-empty, none-below, octets-empty, takes-below, takes-nothing, under-name}
use Rattle.ftp_tree_nodes.proofs.NameLemmas.{changed-child, find-gap, gone-child}
use Rattle.ftp_tree_nodes.proofs.PlaceLemmas.{no-names, some-names}
use Rattle.std.specs.FinMap as fin
use Rattle.ftp_tree_nodes.proofs.node.Node.+take_out.Goals as goal

abbrev empty : Map
empty = fin.empty

pub returns-in_default-clause-taken : goal.returns-in_default-clause-taken
returns-in_default-clause-taken g t c =
    let file : file_alone (g.C.Holder.octets c.in_default.field-0) c.in_default.field-1.seconds ≡ c.args.self.now = ap (branch_table g.C.Holder.octets) (sym c.in_default.is) ∙ c.self.view_is in
    let nothing =
    takes-nothing c.args.self.now (names_of c.args.key.now)
    (ap (λ table. under table (names_of c.args.key.now)) (sym file) ∙ file-under (g.C.Holder.octets c.in_default.field-0) c.in_default.field-1.seconds (names_of c.args.key.now) (some-names c.args.key.now c.requires.place c.requires.some)) in
    nothing.taken

pub returns-in_default-clause-left : goal.returns-in_default-clause-left
returns-in_default-clause-left g t c =
    let file : file_alone (g.C.Holder.octets c.in_default.field-0) c.in_default.field-1.seconds ≡ c.args.self.now = ap (branch_table g.C.Holder.octets) (sym c.in_default.is) ∙ c.self.view_is in
    let nothing =
    takes-nothing c.args.self.now (names_of c.args.key.now)
    (ap (λ table. under table (names_of c.args.key.now)) (sym file) ∙ file-under (g.C.Holder.octets c.in_default.field-0) c.in_default.field-1.seconds (names_of c.args.key.now) (some-names c.args.key.now c.requires.place c.requires.some)) in
    c.self.view_is ∙ nothing.left

pub returns-in_default-clause-counted : goal.returns-in_default-clause-counted
returns-in_default-clause-counted g t c =
    let file : file_alone (g.C.Holder.octets c.in_default.field-0) c.in_default.field-1.seconds ≡ c.args.self.now = ap (branch_table g.C.Holder.octets) (sym c.in_default.is) ∙ c.self.view_is in
    let nothing =
    takes-nothing c.args.self.now (names_of c.args.key.now)
    (ap (λ table. under table (names_of c.args.key.now)) (sym file) ∙ file-under (g.C.Holder.octets c.in_default.field-0) c.in_default.field-1.seconds (names_of c.args.key.now) (some-names c.args.key.now c.requires.place c.requires.some)) in
    (ap (λ table. fin.len table + fin.len empty) c.self.view_is ∙ nothing.nodes, ap (λ table. octets_in table + octets_in empty) c.self.view_is ∙ nothing.octets)

pub returns-in_default-search-clause-taken : goal.returns-in_default-search-clause-taken
returns-in_default-search-clause-taken g t c =
    let items = c.in-Dir.children.items in
    let n = c.first_name.result.0.now in
    let rest = names_of c.first_name.result.1.now in
    let kept = subst IsBranch c.in-Dir.is c.self.invariant in
    let whole : parts_table (parts items) ≡ c.args.self.now = ap (branch_table g.C.Holder.octets) (sym c.in-Dir.is) ∙ c.self.view_is in
    let gap = find-gap (parts items) kept.sorted n c.in_default-search.field-0 (subst (λ l. HasGap (parts l) n c.in_default-search.field-0) c.as_slice.ensures.value c.in_default-search.ensures.gap) in
    let nothing =
    takes-nothing c.args.self.now (names_of c.args.key.now) (ap (λ table. under table (names_of c.args.key.now)) (sym whole) ∙ ap (under (parts_table (parts items))) c.first_name.ensures.names ∙ none-below (parts items) kept.sorted n rest gap) in
    nothing.taken

pub returns-in_default-search-clause-left : goal.returns-in_default-search-clause-left
returns-in_default-search-clause-left g t c =
    let items = c.in-Dir.children.items in
    let n = c.first_name.result.0.now in
    let rest = names_of c.first_name.result.1.now in
    let kept = subst IsBranch c.in-Dir.is c.self.invariant in
    let whole : parts_table (parts items) ≡ c.args.self.now = ap (branch_table g.C.Holder.octets) (sym c.in-Dir.is) ∙ c.self.view_is in
    let gap = find-gap (parts items) kept.sorted n c.in_default-search.field-0 (subst (λ l. HasGap (parts l) n c.in_default-search.field-0) c.as_slice.ensures.value c.in_default-search.ensures.gap) in
    let nothing =
    takes-nothing c.args.self.now (names_of c.args.key.now) (ap (λ table. under table (names_of c.args.key.now)) (sym whole) ∙ ap (under (parts_table (parts items))) c.first_name.ensures.names ∙ none-below (parts items) kept.sorted n rest gap) in
    whole ∙ nothing.left

pub returns-in_default-search-clause-counted : goal.returns-in_default-search-clause-counted
returns-in_default-search-clause-counted g t c =
    let items = c.in-Dir.children.items in
    let n = c.first_name.result.0.now in
    let rest = names_of c.first_name.result.1.now in
    let kept = subst IsBranch c.in-Dir.is c.self.invariant in
    let whole : parts_table (parts items) ≡ c.args.self.now = ap (branch_table g.C.Holder.octets) (sym c.in-Dir.is) ∙ c.self.view_is in
    let gap = find-gap (parts items) kept.sorted n c.in_default-search.field-0 (subst (λ l. HasGap (parts l) n c.in_default-search.field-0) c.as_slice.ensures.value c.in_default-search.ensures.gap) in
    let nothing =
    takes-nothing c.args.self.now (names_of c.args.key.now) (ap (λ table. under table (names_of c.args.key.now)) (sym whole) ∙ ap (under (parts_table (parts items))) c.first_name.ensures.names ∙ none-below (parts items) kept.sorted n rest gap) in
    (ap (λ table. fin.len table + fin.len empty) whole ∙ nothing.nodes, ap (λ table. octets_in table + octets_in empty) whole ∙ nothing.octets)

pub without-requires-clause-nodes : goal.without-requires-clause-nodes
without-requires-clause-nodes g t c =
    let items = c.in-Dir.children.items in
    let n = c.first_name.result.0.now in
    let rest = names_of c.first_name.result.1.now in
    let kept = subst IsBranch c.in-Dir.is c.self.invariant in
    let gone = is-gone (parts items) n c.in-Dir.count.nodes c.in-Dir.count.octets kept in
    let stands = subst (λ l. NameStandsAt (parts l) n c.in-Ok.at) c.as_slice.ensures.value c.in-Ok.ensures.there in
    let is : parts c.remove_child-node.new.children.items ≡ but n (parts items) = gone-child items c.remove_child-node.new.children.items n c.in-Ok.at kept.sorted stands c.remove_child-node.ensures.left in
    let taken : c.remove_child-node.result ≡ found (find name_cmp n (parts items)) = ap found (c.remove_child-node.ensures.node n stands) in
    omega (arith, gone.nodes_fit, c.count.ensures.nodes, ap fin.len taken)

pub without-requires-clause-octets : goal.without-requires-clause-octets
without-requires-clause-octets g t c =
    let items = c.in-Dir.children.items in
    let n = c.first_name.result.0.now in
    let rest = names_of c.first_name.result.1.now in
    let kept = subst IsBranch c.in-Dir.is c.self.invariant in
    let gone = is-gone (parts items) n c.in-Dir.count.nodes c.in-Dir.count.octets kept in
    let stands = subst (λ l. NameStandsAt (parts l) n c.in-Ok.at) c.as_slice.ensures.value c.in-Ok.ensures.there in
    let is : parts c.remove_child-node.new.children.items ≡ but n (parts items) = gone-child items c.remove_child-node.new.children.items n c.in-Ok.at kept.sorted stands c.remove_child-node.ensures.left in
    let taken : c.remove_child-node.result ≡ found (find name_cmp n (parts items)) = ap found (c.remove_child-node.ensures.node n stands) in
    omega (arith, gone.octets_fit, c.count.ensures.octets, ap octets_in taken)

pub invariant_of-self-then-is_empty : goal.invariant_of-self-then-is_empty
invariant_of-self-then-is_empty g t c =
    let items = c.in-Dir.children.items in
    let n = c.first_name.result.0.now in
    let rest = names_of c.first_name.result.1.now in
    let kept = subst IsBranch c.in-Dir.is c.self.invariant in
    let gone = is-gone (parts items) n c.in-Dir.count.nodes c.in-Dir.count.octets kept in
    let stands = subst (λ l. NameStandsAt (parts l) n c.in-Ok.at) c.as_slice.ensures.value c.in-Ok.ensures.there in
    let is : parts c.remove_child-node.new.children.items ≡ but n (parts items) = gone-child items c.remove_child-node.new.children.items n c.in-Ok.at kept.sorted stands c.remove_child-node.ensures.left in
    let taken : c.remove_child-node.result ≡ found (find name_cmp n (parts items)) = ap found (c.remove_child-node.ensures.node n stands) in
    directory-as _ _ _ _ _ _ gone.directory is (c.without.ensures.nodes ∙ ap (λ k. c.in-Dir.count.nodes - k) (c.count.ensures.nodes ∙ ap fin.len taken))
    (c.without.ensures.octets ∙ ap (λ k. c.in-Dir.count.octets - k) (c.count.ensures.octets ∙ ap octets_in taken))

pub returns-then-is_empty-clause-taken : goal.returns-then-is_empty-clause-taken
returns-then-is_empty-clause-taken g t c =
    let items = c.in-Dir.children.items in
    let n = c.first_name.result.0.now in
    let rest = names_of c.first_name.result.1.now in
    let kept = subst IsBranch c.in-Dir.is c.self.invariant in
    let gone = is-gone (parts items) n c.in-Dir.count.nodes c.in-Dir.count.octets kept in
    let stands = subst (λ l. NameStandsAt (parts l) n c.in-Ok.at) c.as_slice.ensures.value c.in-Ok.ensures.there in
    let is : parts c.remove_child-node.new.children.items ≡ but n (parts items) = gone-child items c.remove_child-node.new.children.items n c.in-Ok.at kept.sorted stands c.remove_child-node.ensures.left in
    let taken : c.remove_child-node.result ≡ found (find name_cmp n (parts items)) = ap found (c.remove_child-node.ensures.node n stands) in
    let whole : parts_table (parts items) ≡ c.args.self.now = ap (branch_table g.C.Holder.octets) (sym c.in-Dir.is) ∙ c.self.view_is in
    let none : length c.first_name.result.1.now ≡ 0 = grind (arith, common_steps) in
    let last = no-names c.first_name.result.1.now c.first_name.ensures.rest none in
    let names = c.first_name.ensures.names ∙ ap (λ r. n ∷ r) last in
    taken ∙ sym (under-name (parts items) kept.sorted n) ∙ ap (λ table. under table (n ∷ [])) whole ∙ ap (under c.args.self.now) (sym names)

pub returns-then-is_empty-clause-left : goal.returns-then-is_empty-clause-left
returns-then-is_empty-clause-left g t c =
    let items = c.in-Dir.children.items in
    let n = c.first_name.result.0.now in
    let rest = names_of c.first_name.result.1.now in
    let kept = subst IsBranch c.in-Dir.is c.self.invariant in
    let gone = is-gone (parts items) n c.in-Dir.count.nodes c.in-Dir.count.octets kept in
    let stands = subst (λ l. NameStandsAt (parts l) n c.in-Ok.at) c.as_slice.ensures.value c.in-Ok.ensures.there in
    let is : parts c.remove_child-node.new.children.items ≡ but n (parts items) = gone-child items c.remove_child-node.new.children.items n c.in-Ok.at kept.sorted stands c.remove_child-node.ensures.left in
    let taken : c.remove_child-node.result ≡ found (find name_cmp n (parts items)) = ap found (c.remove_child-node.ensures.node n stands) in
    let whole : parts_table (parts items) ≡ c.args.self.now = ap (branch_table g.C.Holder.octets) (sym c.in-Dir.is) ∙ c.self.view_is in
    let none : length c.first_name.result.1.now ≡ 0 = grind (arith, common_steps) in
    let last = no-names c.first_name.result.1.now c.first_name.ensures.rest none in
    let names = c.first_name.ensures.names ∙ ap (λ r. n ∷ r) last in
    ap parts_table is ∙ but-name (parts items) kept.sorted n ∙ ap (λ table. with_part table (n ∷ []) empty) whole ∙ ap (λ l. with_part c.args.self.now l empty) (sym names)

pub returns-then-is_empty-clause-counted : goal.returns-then-is_empty-clause-counted
returns-then-is_empty-clause-counted g t c =
    let items = c.in-Dir.children.items in
    let n = c.first_name.result.0.now in
    let rest = names_of c.first_name.result.1.now in
    let kept = subst IsBranch c.in-Dir.is c.self.invariant in
    let gone = is-gone (parts items) n c.in-Dir.count.nodes c.in-Dir.count.octets kept in
    let stands = subst (λ l. NameStandsAt (parts l) n c.in-Ok.at) c.as_slice.ensures.value c.in-Ok.ensures.there in
    let is : parts c.remove_child-node.new.children.items ≡ but n (parts items) = gone-child items c.remove_child-node.new.children.items n c.in-Ok.at kept.sorted stands c.remove_child-node.ensures.left in
    let taken : c.remove_child-node.result ≡ found (find name_cmp n (parts items)) = ap found (c.remove_child-node.ensures.node n stands) in
    let whole : parts_table (parts items) ≡ c.args.self.now = ap (branch_table g.C.Holder.octets) (sym c.in-Dir.is) ∙ c.self.view_is in (
      ap (λ l. fin.len (parts_table l) + fin.len c.remove_child-node.result) is ∙ ap (λ table. fin.len (parts_table (but n (parts items))) + fin.len table) taken ∙ gone.nodes_are ∙ ap fin.len whole,
      ap (λ l. octets_in (parts_table l) + octets_in c.remove_child-node.result) is ∙ ap (λ table. octets_in (parts_table (but n (parts items))) + octets_in table) taken ∙ gone.octets_are ∙ ap octets_in whole,
    )

pub invariant_of-self-in_default-take_out : goal.invariant_of-self-in_default-take_out
invariant_of-self-in_default-take_out g t c =
    let items = c.in-Dir.children.items in
    let n = c.first_name.result.0.now in
    let rest = names_of c.first_name.result.1.now in
    let kept = subst IsBranch c.in-Dir.is c.self.invariant in
    let old = c.deref_mut.result.now.node in
    let none : 0 < length c.first_name.result.1.now = grind (arith, common_steps) in
    let changed =
    changed-child items c.as_slice.result.now c.in-Ok.at n c.index_mut.result.now (with_value c.index_mut.result.now (record { name = c.deref_mut.result.now.name; node = c.take_out.new.self })) c.deref_mut.result.now
    c.as_slice.ensures.value c.in-Ok.ensures.there c.in-Ok.ensures.within c.index_mut.ensures.value c.deref_mut.ensures.value refl in
    let takes =
    takes-below (parts items) c.in-Dir.count.nodes c.in-Dir.count.octets n rest old c.take_out.new.self empty kept c.first_name.ensures.name changed.there
    (some-names c.first_name.result.1.now c.first_name.ensures.rest none) c.in_default-take_out.ensures.left c.in_default-take_out.ensures.taken c.in_default-take_out.ensures.counted.0 c.in_default-take_out.ensures.counted.1 in
    let few : c.in-Dir.count.nodes ≡ c.in-Dir.count.nodes + 0 - fin.len empty = omega (arith, len-empty) in
    let many : c.in-Dir.count.octets ≡ c.in-Dir.count.octets + 0 - octets_in empty = omega (arith, octets-empty) in
    directory-as _ _ _ _ _ _ takes.done.directory changed.is few many

pub returns-in_default-take_out-clause-taken : goal.returns-in_default-take_out-clause-taken
returns-in_default-take_out-clause-taken g t c =
    let items = c.in-Dir.children.items in
    let n = c.first_name.result.0.now in
    let rest = names_of c.first_name.result.1.now in
    let kept = subst IsBranch c.in-Dir.is c.self.invariant in
    let old = c.deref_mut.result.now.node in
    let none : 0 < length c.first_name.result.1.now = grind (arith, common_steps) in
    let changed =
    changed-child items c.as_slice.result.now c.in-Ok.at n c.index_mut.result.now (with_value c.index_mut.result.now (record { name = c.deref_mut.result.now.name; node = c.take_out.new.self })) c.deref_mut.result.now
    c.as_slice.ensures.value c.in-Ok.ensures.there c.in-Ok.ensures.within c.index_mut.ensures.value c.deref_mut.ensures.value refl in
    let takes =
    takes-below (parts items) c.in-Dir.count.nodes c.in-Dir.count.octets n rest old c.take_out.new.self empty kept c.first_name.ensures.name changed.there
    (some-names c.first_name.result.1.now c.first_name.ensures.rest none) c.in_default-take_out.ensures.left c.in_default-take_out.ensures.taken c.in_default-take_out.ensures.counted.0 c.in_default-take_out.ensures.counted.1 in
    let whole : parts_table (parts items) ≡ c.args.self.now = ap (branch_table g.C.Holder.octets) (sym c.in-Dir.is) ∙ c.self.view_is in
    takes.is ∙ ap (λ table. under table (n ∷ rest)) whole ∙ ap (under c.args.self.now) (sym c.first_name.ensures.names)

pub returns-in_default-take_out-clause-left : goal.returns-in_default-take_out-clause-left
returns-in_default-take_out-clause-left g t c =
    let items = c.in-Dir.children.items in
    let n = c.first_name.result.0.now in
    let rest = names_of c.first_name.result.1.now in
    let kept = subst IsBranch c.in-Dir.is c.self.invariant in
    let old = c.deref_mut.result.now.node in
    let none : 0 < length c.first_name.result.1.now = grind (arith, common_steps) in
    let changed =
    changed-child items c.as_slice.result.now c.in-Ok.at n c.index_mut.result.now (with_value c.index_mut.result.now (record { name = c.deref_mut.result.now.name; node = c.take_out.new.self })) c.deref_mut.result.now
    c.as_slice.ensures.value c.in-Ok.ensures.there c.in-Ok.ensures.within c.index_mut.ensures.value c.deref_mut.ensures.value refl in
    let takes =
    takes-below (parts items) c.in-Dir.count.nodes c.in-Dir.count.octets n rest old c.take_out.new.self empty kept c.first_name.ensures.name changed.there
    (some-names c.first_name.result.1.now c.first_name.ensures.rest none) c.in_default-take_out.ensures.left c.in_default-take_out.ensures.taken c.in_default-take_out.ensures.counted.0 c.in_default-take_out.ensures.counted.1 in
    let whole : parts_table (parts items) ≡ c.args.self.now = ap (branch_table g.C.Holder.octets) (sym c.in-Dir.is) ∙ c.self.view_is in
    ap parts_table changed.is ∙ takes.table ∙ ap (λ table. with_part table (n ∷ rest) empty) whole ∙ ap (λ l. with_part c.args.self.now l empty) (sym c.first_name.ensures.names)

pub returns-in_default-take_out-clause-counted : goal.returns-in_default-take_out-clause-counted
returns-in_default-take_out-clause-counted g t c =
    let items = c.in-Dir.children.items in
    let n = c.first_name.result.0.now in
    let rest = names_of c.first_name.result.1.now in
    let kept = subst IsBranch c.in-Dir.is c.self.invariant in
    let old = c.deref_mut.result.now.node in
    let none : 0 < length c.first_name.result.1.now = grind (arith, common_steps) in
    let changed =
    changed-child items c.as_slice.result.now c.in-Ok.at n c.index_mut.result.now (with_value c.index_mut.result.now (record { name = c.deref_mut.result.now.name; node = c.take_out.new.self })) c.deref_mut.result.now
    c.as_slice.ensures.value c.in-Ok.ensures.there c.in-Ok.ensures.within c.index_mut.ensures.value c.deref_mut.ensures.value refl in
    let takes =
    takes-below (parts items) c.in-Dir.count.nodes c.in-Dir.count.octets n rest old c.take_out.new.self empty kept c.first_name.ensures.name changed.there
    (some-names c.first_name.result.1.now c.first_name.ensures.rest none) c.in_default-take_out.ensures.left c.in_default-take_out.ensures.taken c.in_default-take_out.ensures.counted.0 c.in_default-take_out.ensures.counted.1 in
    let whole : parts_table (parts items) ≡ c.args.self.now = ap (branch_table g.C.Holder.octets) (sym c.in-Dir.is) ∙ c.self.view_is in
    let few = takes.done.nodes_are in
    let many = takes.done.octets_are in (
      ap (λ l. fin.len (parts_table l) + fin.len empty) changed.is ∙ few ∙ ap (λ table. fin.len table + 0) whole ∙ add-zero (fin.len c.args.self.now),
      ap (λ l. octets_in (parts_table l) + octets_in empty) changed.is ∙ many ∙ ap (λ table. octets_in table + 0) whole ∙ add-zero (octets_in c.args.self.now),
    )

pub without-requires-2-clause-nodes : goal.without-requires-2-clause-nodes
without-requires-2-clause-nodes g t c =
    let items = c.in-Dir.children.items in
    let n = c.first_name.result.0.now in
    let rest = names_of c.first_name.result.1.now in
    let kept = subst IsBranch c.in-Dir.is c.self.invariant in
    let old = c.deref_mut.result.now.node in
    let none : 0 < length c.first_name.result.1.now = grind (arith, common_steps) in
    let changed =
    changed-child items c.as_slice.result.now c.in-Ok.at n c.index_mut.result.now (with_value c.index_mut.result.now (record { name = c.deref_mut.result.now.name; node = c.take_out.new.self })) c.deref_mut.result.now
    c.as_slice.ensures.value c.in-Ok.ensures.there c.in-Ok.ensures.within c.index_mut.ensures.value c.deref_mut.ensures.value refl in
    let takes =
    takes-below (parts items) c.in-Dir.count.nodes c.in-Dir.count.octets n rest old c.take_out.new.self c.in-Some.node kept c.first_name.ensures.name changed.there
    (some-names c.first_name.result.1.now c.first_name.ensures.rest none) c.in-Some.ensures.left c.in-Some.ensures.taken c.in-Some.ensures.counted.0 c.in-Some.ensures.counted.1 in
    omega (arith, takes.done.nodes_fit, c.count-2.ensures.nodes)

pub without-requires-2-clause-octets : goal.without-requires-2-clause-octets
without-requires-2-clause-octets g t c =
    let items = c.in-Dir.children.items in
    let n = c.first_name.result.0.now in
    let rest = names_of c.first_name.result.1.now in
    let kept = subst IsBranch c.in-Dir.is c.self.invariant in
    let old = c.deref_mut.result.now.node in
    let none : 0 < length c.first_name.result.1.now = grind (arith, common_steps) in
    let changed =
    changed-child items c.as_slice.result.now c.in-Ok.at n c.index_mut.result.now (with_value c.index_mut.result.now (record { name = c.deref_mut.result.now.name; node = c.take_out.new.self })) c.deref_mut.result.now
    c.as_slice.ensures.value c.in-Ok.ensures.there c.in-Ok.ensures.within c.index_mut.ensures.value c.deref_mut.ensures.value refl in
    let takes =
    takes-below (parts items) c.in-Dir.count.nodes c.in-Dir.count.octets n rest old c.take_out.new.self c.in-Some.node kept c.first_name.ensures.name changed.there
    (some-names c.first_name.result.1.now c.first_name.ensures.rest none) c.in-Some.ensures.left c.in-Some.ensures.taken c.in-Some.ensures.counted.0 c.in-Some.ensures.counted.1 in
    omega (arith, takes.done.octets_fit, c.count-2.ensures.octets)

pub invariant_of-self-2 : goal.invariant_of-self-2
invariant_of-self-2 g t c =
    let items = c.in-Dir.children.items in
    let n = c.first_name.result.0.now in
    let rest = names_of c.first_name.result.1.now in
    let kept = subst IsBranch c.in-Dir.is c.self.invariant in
    let old = c.deref_mut.result.now.node in
    let none : 0 < length c.first_name.result.1.now = grind (arith, common_steps) in
    let changed =
    changed-child items c.as_slice.result.now c.in-Ok.at n c.index_mut.result.now (with_value c.index_mut.result.now (record { name = c.deref_mut.result.now.name; node = c.take_out.new.self })) c.deref_mut.result.now
    c.as_slice.ensures.value c.in-Ok.ensures.there c.in-Ok.ensures.within c.index_mut.ensures.value c.deref_mut.ensures.value refl in
    let takes =
    takes-below (parts items) c.in-Dir.count.nodes c.in-Dir.count.octets n rest old c.take_out.new.self c.in-Some.node kept c.first_name.ensures.name changed.there
    (some-names c.first_name.result.1.now c.first_name.ensures.rest none) c.in-Some.ensures.left c.in-Some.ensures.taken c.in-Some.ensures.counted.0 c.in-Some.ensures.counted.1 in
    let few : c.without-2.result.nodes ≡ c.in-Dir.count.nodes + 0 - fin.len c.in-Some.node = omega (arith, c.without-2.ensures.nodes, c.count-2.ensures.nodes) in
    let many : c.without-2.result.octets ≡ c.in-Dir.count.octets + 0 - octets_in c.in-Some.node = omega (arith, c.without-2.ensures.octets, c.count-2.ensures.octets) in
    directory-as _ _ _ _ _ _ takes.done.directory changed.is few many

pub returns-clause-taken : goal.returns-clause-taken
returns-clause-taken g t c =
    let items = c.in-Dir.children.items in
    let n = c.first_name.result.0.now in
    let rest = names_of c.first_name.result.1.now in
    let kept = subst IsBranch c.in-Dir.is c.self.invariant in
    let old = c.deref_mut.result.now.node in
    let none : 0 < length c.first_name.result.1.now = grind (arith, common_steps) in
    let changed =
    changed-child items c.as_slice.result.now c.in-Ok.at n c.index_mut.result.now (with_value c.index_mut.result.now (record { name = c.deref_mut.result.now.name; node = c.take_out.new.self })) c.deref_mut.result.now
    c.as_slice.ensures.value c.in-Ok.ensures.there c.in-Ok.ensures.within c.index_mut.ensures.value c.deref_mut.ensures.value refl in
    let takes =
    takes-below (parts items) c.in-Dir.count.nodes c.in-Dir.count.octets n rest old c.take_out.new.self c.in-Some.node kept c.first_name.ensures.name changed.there
    (some-names c.first_name.result.1.now c.first_name.ensures.rest none) c.in-Some.ensures.left c.in-Some.ensures.taken c.in-Some.ensures.counted.0 c.in-Some.ensures.counted.1 in
    let whole : parts_table (parts items) ≡ c.args.self.now = ap (branch_table g.C.Holder.octets) (sym c.in-Dir.is) ∙ c.self.view_is in
    takes.is ∙ ap (λ table. under table (n ∷ rest)) whole ∙ ap (under c.args.self.now) (sym c.first_name.ensures.names)

pub returns-clause-left : goal.returns-clause-left
returns-clause-left g t c =
    let items = c.in-Dir.children.items in
    let n = c.first_name.result.0.now in
    let rest = names_of c.first_name.result.1.now in
    let kept = subst IsBranch c.in-Dir.is c.self.invariant in
    let old = c.deref_mut.result.now.node in
    let none : 0 < length c.first_name.result.1.now = grind (arith, common_steps) in
    let changed =
    changed-child items c.as_slice.result.now c.in-Ok.at n c.index_mut.result.now (with_value c.index_mut.result.now (record { name = c.deref_mut.result.now.name; node = c.take_out.new.self })) c.deref_mut.result.now
    c.as_slice.ensures.value c.in-Ok.ensures.there c.in-Ok.ensures.within c.index_mut.ensures.value c.deref_mut.ensures.value refl in
    let takes =
    takes-below (parts items) c.in-Dir.count.nodes c.in-Dir.count.octets n rest old c.take_out.new.self c.in-Some.node kept c.first_name.ensures.name changed.there
    (some-names c.first_name.result.1.now c.first_name.ensures.rest none) c.in-Some.ensures.left c.in-Some.ensures.taken c.in-Some.ensures.counted.0 c.in-Some.ensures.counted.1 in
    let whole : parts_table (parts items) ≡ c.args.self.now = ap (branch_table g.C.Holder.octets) (sym c.in-Dir.is) ∙ c.self.view_is in
    ap parts_table changed.is ∙ takes.table ∙ ap (λ table. with_part table (n ∷ rest) empty) whole ∙ ap (λ l. with_part c.args.self.now l empty) (sym c.first_name.ensures.names)

pub returns-clause-counted : goal.returns-clause-counted
returns-clause-counted g t c =
    let items = c.in-Dir.children.items in
    let n = c.first_name.result.0.now in
    let rest = names_of c.first_name.result.1.now in
    let kept = subst IsBranch c.in-Dir.is c.self.invariant in
    let old = c.deref_mut.result.now.node in
    let none : 0 < length c.first_name.result.1.now = grind (arith, common_steps) in
    let changed =
    changed-child items c.as_slice.result.now c.in-Ok.at n c.index_mut.result.now (with_value c.index_mut.result.now (record { name = c.deref_mut.result.now.name; node = c.take_out.new.self })) c.deref_mut.result.now
    c.as_slice.ensures.value c.in-Ok.ensures.there c.in-Ok.ensures.within c.index_mut.ensures.value c.deref_mut.ensures.value refl in
    let takes =
    takes-below (parts items) c.in-Dir.count.nodes c.in-Dir.count.octets n rest old c.take_out.new.self c.in-Some.node kept c.first_name.ensures.name changed.there
    (some-names c.first_name.result.1.now c.first_name.ensures.rest none) c.in-Some.ensures.left c.in-Some.ensures.taken c.in-Some.ensures.counted.0 c.in-Some.ensures.counted.1 in
    let whole : parts_table (parts items) ≡ c.args.self.now = ap (branch_table g.C.Holder.octets) (sym c.in-Dir.is) ∙ c.self.view_is in
    let few = takes.done.nodes_are in
    let many = takes.done.octets_are in (
      ap (λ l. fin.len (parts_table l) + fin.len c.in-Some.node) changed.is ∙ few ∙ ap (λ table. fin.len table + 0) whole ∙ add-zero (fin.len c.args.self.now),
      ap (λ l. octets_in (parts_table l) + octets_in c.in-Some.node) changed.is ∙ many ∙ ap (λ table. octets_in table + 0) whole ∙ add-zero (octets_in c.args.self.now),
    )
