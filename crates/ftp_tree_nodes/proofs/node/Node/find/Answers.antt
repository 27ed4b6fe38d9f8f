use Rattle.std.proofs.Common.{◌≡◌, [], ◌∷◌, List, ℕ, length, sym, ap, ◌∙◌, arith}
use Rattle.std.proofs.lemmas.Grind.{common_steps}
use Rattle.ftp_path.specs.Kept.{names_of}
use Rattle.ftp_path.specs.Path.{Names}
use Rattle.ftp_tree.specs.Map.{Map, under}
use Rattle.ftp_tree_nodes.proofs.BranchLemmas.{under-under, under-empty}
use Rattle.ftp_tree.proofs.MapLemmas.{under_all}
use Rattle.ftp_tree_nodes.proofs.PlaceLemmas.{no-names}
use Rattle.ftp_tree_nodes.proofs.node.Node.find.Goals as goal

-- what stands below by the first name, and then by the others
by-first : (here : Map) (names others : Names) (name : List ℕ) → names ≡ name ∷ others → under (under here (name ∷ [])) others ≡ under here names
by-first here names others name are = under-under here (name ∷ []) others ∙ ap (under here) (sym are)

pub returns-in_default : goal.returns-in_default
returns-in_default g c =
    let rest = names_of c.first_name.result.1.now in
    sym (under-empty rest) ∙ ap (λ table. under table rest) c.in_default.ensures ∙ by-first c.loop-left.here.now (names_of c.loop-left.left.now) rest c.first_name.result.0.now c.first_name.ensures.names
    ∙ c.loop-left.invariant.there

pub loop-left-preserved : goal.loop-left-preserved
loop-left-preserved g c =
    let rest = names_of c.first_name.result.1.now in
    record {
      place = c.first_name.ensures.rest;
      there = ap (λ table. under table rest) c.in-Some.ensures ∙ by-first c.loop-left.here.now (names_of c.loop-left.left.now) rest c.first_name.result.0.now c.first_name.ensures.names ∙ c.loop-left.invariant.there;
    }

pub returns : goal.returns
returns g c =
    let none : length c.loop-left.left.now ≡ 0 = grind (arith, common_steps) in
    sym (under_all c.loop-left.here.now) ∙ ap (under c.loop-left.here.now) (sym (no-names c.loop-left.left.now c.loop-left.invariant.place none)) ∙ c.loop-left.invariant.there
