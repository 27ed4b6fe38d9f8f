use Rattle.std.proofs.Common.{sym, ap, subst, ◌∙◌}
use Rattle.ftp_tree.specs.Sound.{IsSoundTree}
use Rattle.ftp_tree.specs.Tree.{octets_in, under}
use Rattle.ftp_tree_nodes.proofs.BranchLemmas.{len-empty, octets-empty}
use Rattle.ftp_tree.proofs.TextLemmas.{kept-place}
use Rattle.std.specs.FinMap as fin
use Rattle.ftp_tree.specs.Map as maps
use Rattle.ftp_tree_nodes.proofs.nodes.Nodes.count_below.Goals as goal

pub find-requires : goal.find-requires
find-requires g c = kept-place _ c.key.ensures.kept

pub returns-in_default-clause-nodes : goal.returns-in_default-clause-nodes
unfolding under
returns-in_default-clause-nodes g c =
    sym len-empty ∙ ap fin.len c.in_default.ensures ∙ ap (λ names. fin.len (maps.under c.self.inside.root names)) c.key.ensures.names ∙ ap (λ table. fin.len (under table c.args.root.now).map) c.self.view_is

pub returns-in_default-clause-octets : goal.returns-in_default-clause-octets
unfolding under octets_in
returns-in_default-clause-octets g c =
    sym octets-empty ∙ ap maps.octets_in c.in_default.ensures ∙ ap (λ names. maps.octets_in (maps.under c.self.inside.root names)) c.key.ensures.names ∙ ap (λ table. octets_in (under table c.args.root.now)) c.self.view_is

pub returns-in_default-clause-sound : goal.returns-in_default-clause-sound
returns-in_default-clause-sound g c = subst IsSoundTree c.self.view_is c.self.invariant

pub returns-clause-nodes : goal.returns-clause-nodes
unfolding under
returns-clause-nodes g c =
    c.count.ensures.nodes ∙ ap fin.len c.in-Some.ensures ∙ ap (λ names. fin.len (maps.under c.self.inside.root names)) c.key.ensures.names ∙ ap (λ table. fin.len (under table c.args.root.now).map) c.self.view_is

pub returns-clause-octets : goal.returns-clause-octets
unfolding under octets_in
returns-clause-octets g c =
    c.count.ensures.octets ∙ ap maps.octets_in c.in-Some.ensures ∙ ap (λ names. maps.octets_in (maps.under c.self.inside.root names)) c.key.ensures.names ∙ ap (λ table. octets_in (under table c.args.root.now)) c.self.view_is

pub returns-clause-sound : goal.returns-clause-sound
returns-clause-sound g c = subst IsSoundTree c.self.view_is c.self.invariant
