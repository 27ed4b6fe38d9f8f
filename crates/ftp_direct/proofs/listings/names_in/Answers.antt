use Rattle.std.proofs.Common.{◌≡◌, ◌∙◌, ◌++◌, ◌∷◌, [], Some, None, ap, sym, arith, take, vec_len}
use Rattle.std.specs.List.{list_all, slice_get}
use Rattle.std.proofs.lemmas.List.{take_all}
use Rattle.ftp_path.specs.Path.{is_name}
use Rattle.ftp_tree.specs.Tree.{children, under}
use Rattle.ftp_direct.proofs.ListingLemmas.{names_more, names_named, names_within, names_end}
use Rattle.ftp_direct.proofs.listings.names_in.Goals as goal

pub loop-name-preserved : goal.loop-name-preserved
loop-name-preserved g c =
    let all = children (under (g.T.Tree.table c.args.tree.now) c.args.root.now) c.args.path.now in
    let n = vec_len c.loop-name.names in
    let name = c.in-Some.name.octets.now in
    let some : Some name ≡ slice_get all n = c.in-Some.ensures ∙ ap (slice_get all) c.len.ensures in
    let items : c.push.new.self.items ≡ c.loop-name.names.items ++ name ∷ [] =
    c.in_ok-push.ensures.items ∙ ap (λ text. c.loop-name.names.items ++ text ∷ []) (c.in_ok-copy_of.ensures ∙ c.octets.ensures.octets) in
    record {
      so_far = items ∙ names_more all c.loop-name.names.items n name some c.loop-name.invariant.so_far ∙ ap (λ m. take m all) (sym c.in_ok-push.ensures.len);
      within = omega (arith, names_within all n name some, c.in_ok-push.ensures.len);
      named = ap (list_all is_name) items ∙ names_named c.loop-name.names.items name c.loop-name.invariant.named c.in-Some.name.named;
    }

pub returns-clause-names : goal.returns-clause-names
returns-clause-names g c =
    let all = children (under (g.T.Tree.table c.args.tree.now) c.args.root.now) c.args.path.now in
    let n = vec_len c.loop-name.names in
    let none : None ≡ slice_get all n = c.in_default.ensures ∙ ap (slice_get all) c.len.ensures in
    c.loop-name.invariant.so_far ∙ take_all n all (names_end all n none)

pub returns-clause-named : goal.returns-clause-named
returns-clause-named g c = c.loop-name.invariant.named

pub loop-name-smaller : goal.loop-name-smaller
loop-name-smaller g c =
    let all = children (under (g.T.Tree.table c.args.tree.now) c.args.root.now) c.args.path.now in
    let n = vec_len c.loop-name.names in
    let some : Some c.in-Some.name.octets.now ≡ slice_get all n = c.in-Some.ensures ∙ ap (slice_get all) c.len.ensures in
    omega (arith, names_within all n c.in-Some.name.octets.now some, c.in_ok-push.ensures.len)
