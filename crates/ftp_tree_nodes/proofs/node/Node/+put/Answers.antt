use Rattle.std.proofs.Common.{◌≡◌, ◌+◌, ◌-◌, ◌∷◌, length, refl, sym, ap, subst, ◌∙◌, arith, ◌<◌, is_some}
use Rattle.std.specs.Box.{with_value}
use Rattle.std.proofs.lemmas.Grind.{common_steps}
use Rattle.ftp_path.specs.Kept.{names_of}
use Rattle.ftp_tree_nodes.specs.Branch.{HasGap, IsBranch, branch_table, found, parts, parts_table, file_alone}
use Rattle.ftp_tree.specs.Map.{octets_in, under, with_part, node_at}
use Rattle.std.proofs.lemmas.Bool.{true≢false}
use Rattle.ftp_tree.proofs.RowLemmas.{none-under}
use Rattle.ftp_tree_nodes.proofs.BranchLemmas.{at-name, file-under, none-below, part-le, directory-as, puts-below, puts-new, stays-below}
use Rattle.ftp_tree_nodes.proofs.NameLemmas.{changed-child, find-gap}
use Rattle.ftp_tree.proofs.MapLemmas.{part_whole}
use Rattle.ftp_tree_nodes.proofs.PlaceLemmas.{no-names, some-names}
use Rattle.std.specs.FinMap as fin
use Rattle.ftp_tree_nodes.proofs.node.Node.+put.Goals as goal

pub returns-then-is_empty-clause-ok : goal.returns-then-is_empty-clause-ok
returns-then-is_empty-clause-ok g t c =
    let none : length c.args.key.now ≡ 0 = grind (arith, common_steps) in
    c.node.view_is ∙ sym (ap (λ names. with_part c.args.self.now names c.args.node) (no-names c.args.key.now c.requires.place none) ∙ part_whole c.args.self.now c.args.node)

pub invariant_of-self-in-Err : goal.invariant_of-self-in-Err
invariant_of-self-in-Err g t c =
    let items = c.in-Dir.children.items in
    let n = c.first_name.result.0.now in
    let rest = names_of c.first_name.result.1.now in
    let kept = subst IsBranch c.in-Dir.is c.self.invariant in
    let none = find-gap (parts items) kept.sorted n c.in-Err.at (subst (λ l. HasGap (parts l) n c.in-Err.at) c.as_slice.ensures.value c.in-Err.ensures.gap) in
    let last = no-names c.first_name.result.1.now c.first_name.ensures.rest c.in_default-put_new.ensures.ok.1 in
    let puts = puts-new (parts items) c.in-Dir.count.nodes c.in-Dir.count.octets n rest c.args.node kept c.first_name.ensures.name none last c.requires.stands in
    let few : c.in-Some.sum.nodes ≡ c.in-Dir.count.nodes + fin.len c.args.node - 0 = omega (arith, c.in-Some.ensures.some.0, c.count.ensures.nodes) in
    let many : c.in-Some.sum.octets ≡ c.in-Dir.count.octets + octets_in c.args.node - 0 = omega (arith, c.in-Some.ensures.some.1, c.count.ensures.octets) in
    directory-as _ _ _ _ _ _ puts.done.directory c.in_default-put_new.ensures.ok.0 few many

pub returns-in-Err-clause-ok : goal.returns-in-Err-clause-ok
returns-in-Err-clause-ok g t c =
    let items = c.in-Dir.children.items in
    let n = c.first_name.result.0.now in
    let rest = names_of c.first_name.result.1.now in
    let kept = subst IsBranch c.in-Dir.is c.self.invariant in
    let none = find-gap (parts items) kept.sorted n c.in-Err.at (subst (λ l. HasGap (parts l) n c.in-Err.at) c.as_slice.ensures.value c.in-Err.ensures.gap) in
    let last = no-names c.first_name.result.1.now c.first_name.ensures.rest c.in_default-put_new.ensures.ok.1 in
    let puts = puts-new (parts items) c.in-Dir.count.nodes c.in-Dir.count.octets n rest c.args.node kept c.first_name.ensures.name none last c.requires.stands in
    let whole : parts_table (parts items) ≡ c.args.self.now = ap (branch_table g.C.Holder.octets) (sym c.in-Dir.is) ∙ c.self.view_is in
    ap parts_table c.in_default-put_new.ensures.ok.0 ∙ puts.table ∙ ap (λ table. with_part table (n ∷ rest) c.args.node) whole
    ∙ ap (λ names. with_part c.args.self.now names c.args.node) (sym c.first_name.ensures.names)

pub returns-in-Err-clause-counted : goal.returns-in-Err-clause-counted
returns-in-Err-clause-counted g t c =
    let items = c.in-Dir.children.items in
    let n = c.first_name.result.0.now in
    let rest = names_of c.first_name.result.1.now in
    let kept = subst IsBranch c.in-Dir.is c.self.invariant in
    let none = find-gap (parts items) kept.sorted n c.in-Err.at (subst (λ l. HasGap (parts l) n c.in-Err.at) c.as_slice.ensures.value c.in-Err.ensures.gap) in
    let last = no-names c.first_name.result.1.now c.first_name.ensures.rest c.in_default-put_new.ensures.ok.1 in
    let puts = puts-new (parts items) c.in-Dir.count.nodes c.in-Dir.count.octets n rest c.args.node kept c.first_name.ensures.name none last c.requires.stands in
    let whole : parts_table (parts items) ≡ c.args.self.now = ap (branch_table g.C.Holder.octets) (sym c.in-Dir.is) ∙ c.self.view_is in (
      ap (λ l. fin.len (parts_table l) + 0) c.in_default-put_new.ensures.ok.0 ∙ puts.done.nodes_are ∙ ap (λ table. fin.len table + fin.len c.args.node) whole,
      ap (λ l. octets_in (parts_table l) + 0) c.in_default-put_new.ensures.ok.0 ∙ puts.done.octets_are ∙ ap (λ table. octets_in table + octets_in c.args.node) whole,
    )

pub invariant_of-self-in-Err-put : goal.invariant_of-self-in-Err-put
invariant_of-self-in-Err-put g t c =
    let items = c.in-Dir.children.items in
    let n = c.first_name.result.0.now in
    let rest = names_of c.first_name.result.1.now in
    let kept = subst IsBranch c.in-Dir.is c.self.invariant in
    let old = c.deref_mut.result.now.node in
    let changed =
    changed-child items c.as_slice.result.now c.in-Ok.at n c.index_mut.result.now (with_value c.index_mut.result.now (record { name = c.deref_mut.result.now.name; node = c.put.new.self })) c.deref_mut.result.now
    c.as_slice.ensures.value c.in-Ok.ensures.there c.in-Ok.ensures.within c.index_mut.ensures.value c.deref_mut.ensures.value refl in
    let stays = stays-below (parts items) c.in-Dir.count.nodes c.in-Dir.count.octets n old c.put.new.self kept c.first_name.ensures.name changed.there c.in-Err-put.ensures.err in
    directory-as _ _ _ _ _ _ stays.directory changed.is refl refl

pub returns-in-Err-put-clause-err : goal.returns-in-Err-put-clause-err
returns-in-Err-put-clause-err g t c =
    let items = c.in-Dir.children.items in
    let n = c.first_name.result.0.now in
    let rest = names_of c.first_name.result.1.now in
    let kept = subst IsBranch c.in-Dir.is c.self.invariant in
    let old = c.deref_mut.result.now.node in
    let changed =
    changed-child items c.as_slice.result.now c.in-Ok.at n c.index_mut.result.now (with_value c.index_mut.result.now (record { name = c.deref_mut.result.now.name; node = c.put.new.self })) c.deref_mut.result.now
    c.as_slice.ensures.value c.in-Ok.ensures.there c.in-Ok.ensures.within c.index_mut.ensures.value c.deref_mut.ensures.value refl in
    let stays = stays-below (parts items) c.in-Dir.count.nodes c.in-Dir.count.octets n old c.put.new.self kept c.first_name.ensures.name changed.there c.in-Err-put.ensures.err in
    let whole : parts_table (parts items) ≡ c.args.self.now = ap (branch_table g.C.Holder.octets) (sym c.in-Dir.is) ∙ c.self.view_is in
    ap parts_table changed.is ∙ stays.table ∙ whole

pub without-requires-clause-octets : goal.without-requires-clause-octets
without-requires-clause-octets g t c =
    let items = c.in-Dir.children.items in
    let n = c.first_name.result.0.now in
    let rest = names_of c.first_name.result.1.now in
    let kept = subst IsBranch c.in-Dir.is c.self.invariant in
    let old = c.deref_mut.result.now.node in
    let changed =
    changed-child items c.as_slice.result.now c.in-Ok.at n c.index_mut.result.now (with_value c.index_mut.result.now (record { name = c.deref_mut.result.now.name; node = c.put.new.self })) c.deref_mut.result.now
    c.as_slice.ensures.value c.in-Ok.ensures.there c.in-Ok.ensures.within c.index_mut.ensures.value c.deref_mut.ensures.value refl in
    let gone = c.in-Ok-put.gone in
    let puts =
    puts-below (parts items) c.in-Dir.count.nodes c.in-Dir.count.octets n rest old c.put.new.self c.args.node gone.nodes gone.octets kept c.first_name.ensures.name changed.there c.requires.stands
    c.in-Ok-put.ensures.ok c.in-Ok-put.ensures.counted.0 c.in-Ok-put.ensures.counted.1 in
    omega (arith, puts.done.octets_fit, c.in-Some.ensures.some.1, c.count.ensures.octets)

pub invariant_of-self-2 : goal.invariant_of-self-2
invariant_of-self-2 g t c =
    let items = c.in-Dir.children.items in
    let n = c.first_name.result.0.now in
    let rest = names_of c.first_name.result.1.now in
    let kept = subst IsBranch c.in-Dir.is c.self.invariant in
    let old = c.deref_mut.result.now.node in
    let changed =
    changed-child items c.as_slice.result.now c.in-Ok.at n c.index_mut.result.now (with_value c.index_mut.result.now (record { name = c.deref_mut.result.now.name; node = c.put.new.self })) c.deref_mut.result.now
    c.as_slice.ensures.value c.in-Ok.ensures.there c.in-Ok.ensures.within c.index_mut.ensures.value c.deref_mut.ensures.value refl in
    let gone = c.in-Ok-put.gone in
    let puts =
    puts-below (parts items) c.in-Dir.count.nodes c.in-Dir.count.octets n rest old c.put.new.self c.args.node gone.nodes gone.octets kept c.first_name.ensures.name changed.there c.requires.stands
    c.in-Ok-put.ensures.ok c.in-Ok-put.ensures.counted.0 c.in-Ok-put.ensures.counted.1 in
    directory-as _ _ _ _ _ _ puts.done.directory changed.is
    (c.without.ensures.nodes ∙ ap (λ k. k - gone.nodes) (c.in-Some.ensures.some.0 ∙ ap (λ k. c.in-Dir.count.nodes + k) c.count.ensures.nodes))
    (c.without.ensures.octets ∙ ap (λ k. k - gone.octets) (c.in-Some.ensures.some.1 ∙ ap (λ k. c.in-Dir.count.octets + k) c.count.ensures.octets))

pub returns-clause-ok : goal.returns-clause-ok
returns-clause-ok g t c =
    let items = c.in-Dir.children.items in
    let n = c.first_name.result.0.now in
    let rest = names_of c.first_name.result.1.now in
    let kept = subst IsBranch c.in-Dir.is c.self.invariant in
    let old = c.deref_mut.result.now.node in
    let changed =
    changed-child items c.as_slice.result.now c.in-Ok.at n c.index_mut.result.now (with_value c.index_mut.result.now (record { name = c.deref_mut.result.now.name; node = c.put.new.self })) c.deref_mut.result.now
    c.as_slice.ensures.value c.in-Ok.ensures.there c.in-Ok.ensures.within c.index_mut.ensures.value c.deref_mut.ensures.value refl in
    let gone = c.in-Ok-put.gone in
    let puts =
    puts-below (parts items) c.in-Dir.count.nodes c.in-Dir.count.octets n rest old c.put.new.self c.args.node gone.nodes gone.octets kept c.first_name.ensures.name changed.there c.requires.stands
    c.in-Ok-put.ensures.ok c.in-Ok-put.ensures.counted.0 c.in-Ok-put.ensures.counted.1 in
    let whole : parts_table (parts items) ≡ c.args.self.now = ap (branch_table g.C.Holder.octets) (sym c.in-Dir.is) ∙ c.self.view_is in
    ap parts_table changed.is ∙ puts.table ∙ ap (λ table. with_part table (n ∷ rest) c.args.node) whole ∙ ap (λ names. with_part c.args.self.now names c.args.node) (sym c.first_name.ensures.names)

pub returns-clause-counted : goal.returns-clause-counted
returns-clause-counted g t c =
    let items = c.in-Dir.children.items in
    let n = c.first_name.result.0.now in
    let rest = names_of c.first_name.result.1.now in
    let kept = subst IsBranch c.in-Dir.is c.self.invariant in
    let old = c.deref_mut.result.now.node in
    let changed =
    changed-child items c.as_slice.result.now c.in-Ok.at n c.index_mut.result.now (with_value c.index_mut.result.now (record { name = c.deref_mut.result.now.name; node = c.put.new.self })) c.deref_mut.result.now
    c.as_slice.ensures.value c.in-Ok.ensures.there c.in-Ok.ensures.within c.index_mut.ensures.value c.deref_mut.ensures.value refl in
    let gone = c.in-Ok-put.gone in
    let puts =
    puts-below (parts items) c.in-Dir.count.nodes c.in-Dir.count.octets n rest old c.put.new.self c.args.node gone.nodes gone.octets kept c.first_name.ensures.name changed.there c.requires.stands
    c.in-Ok-put.ensures.ok c.in-Ok-put.ensures.counted.0 c.in-Ok-put.ensures.counted.1 in
    let whole : parts_table (parts items) ≡ c.args.self.now = ap (branch_table g.C.Holder.octets) (sym c.in-Dir.is) ∙ c.self.view_is in (
      ap (λ l. fin.len (parts_table l) + gone.nodes) changed.is ∙ puts.done.nodes_are ∙ ap (λ table. fin.len table + fin.len c.args.node) whole,
      ap (λ l. octets_in (parts_table l) + gone.octets) changed.is ∙ puts.done.octets_are ∙ ap (λ table. octets_in table + octets_in c.args.node) whole,
    )

pub returns-in_default-clause-fits : goal.returns-in_default-clause-fits
returns-in_default-clause-fits g t c stands =
    let some : 0 < length c.args.key.now = grind (arith, common_steps) in
    let file : file_alone (g.C.Holder.octets c.in_default.field-0) c.in_default.field-1.seconds ≡ c.args.self.now = ap (branch_table g.C.Holder.octets) (sym c.in_default.is) ∙ c.self.view_is in
    let none =
    none-under c.args.self.now (names_of c.args.key.now)
    (ap (λ table. under table (names_of c.args.key.now)) (sym file) ∙ file-under (g.C.Holder.octets c.in_default.field-0) c.in_default.field-1.seconds (names_of c.args.key.now) (some-names c.args.key.now c.requires.place some)) in
    absurd (true≢false (sym stands ∙ ap is_some none))

pub returns-in-Err-put_new-clause-fits : goal.returns-in-Err-put_new-clause-fits
returns-in-Err-put_new-clause-fits g t c stands =
    let items = c.in-Dir.children.items in
    let n = c.first_name.result.0.now in
    let rest = names_of c.first_name.result.1.now in
    let kept = subst IsBranch c.in-Dir.is c.self.invariant in
    let whole : parts_table (parts items) ≡ c.args.self.now = ap (branch_table g.C.Holder.octets) (sym c.in-Dir.is) ∙ c.self.view_is in
    let gap = find-gap (parts items) kept.sorted n c.in-Err.at (subst (λ l. HasGap (parts l) n c.in-Err.at) c.as_slice.ensures.value c.in-Err.ensures.gap) in
    let none =
    none-under c.args.self.now (names_of c.args.key.now)
    (ap (λ table. under table (names_of c.args.key.now)) (sym whole) ∙ ap (under (parts_table (parts items))) c.first_name.ensures.names ∙ none-below (parts items) kept.sorted n rest gap) in
    absurd (true≢false (sym stands ∙ ap is_some none))

pub returns-in-Err-put-clause-fits : goal.returns-in-Err-put-clause-fits
returns-in-Err-put-clause-fits g t c stands few many =
    let items = c.in-Dir.children.items in
    let n = c.first_name.result.0.now in
    let rest = names_of c.first_name.result.1.now in
    let kept = subst IsBranch c.in-Dir.is c.self.invariant in
    let old = c.deref_mut.result.now.node in
    let changed =
    changed-child items c.as_slice.result.now c.in-Ok.at n c.index_mut.result.now (with_value c.index_mut.result.now (record { name = c.deref_mut.result.now.name; node = c.put.new.self })) c.deref_mut.result.now
    c.as_slice.ensures.value c.in-Ok.ensures.there c.in-Ok.ensures.within c.index_mut.ensures.value c.deref_mut.ensures.value refl in
    let whole : parts_table (parts items) ≡ c.args.self.now = ap (branch_table g.C.Holder.octets) (sym c.in-Dir.is) ∙ c.self.view_is in
    let here = ap is_some (sym (ap (λ table. node_at table (names_of c.args.key.now)) (sym whole) ∙ ap (node_at (parts_table (parts items))) c.first_name.ensures.names
    ∙ at-name (parts items) kept.sorted n rest ∙ ap (λ o. node_at (found o) rest) changed.there)) ∙ stands in
    let less = part-le (parts items) c.in-Dir.count.nodes c.in-Dir.count.octets n old kept changed.there in
    c.in-Err-put.ensures.fits here (omega (arith, less.0, few, ap fin.len whole)) (omega (arith, less.1, many, ap octets_in whole))
