-- The first octets of a file: when they are had, and how they are gathered piece by piece.
use Rattle.std.proofs.Common.{ℕ, ◌+◌, ◌≤◌, ◌≡◌, not, Option, Some, None, List, [], ◌++◌, length, take, drop, nat_le, refl, sym, ap, ◌∙◌, arith}
use Rattle.std.specs.Option.{option_map, unwrap_or}
use Rattle.std.proofs.lemmas.Bool.{leb-true}
use Rattle.std.proofs.Math.Seq.{take-add}
use Rattle.std.proofs.lemmas.List.{length-append, take-append-drop, take-take, drop-take, drop-drop}
use Rattle.ftp_path.specs.Path.{Names}
use Rattle.ftp_tree.specs.Map.{Node, Dir, File, octets_of, of_node}
use Rattle.ftp_tree.specs.Tree.{Table, node_at, kind_of, octets_at, octets_or_none, whenever, front_answer, front_refusal}
use Rattle.ftp_tree.specs.declared.fault.TreeFault.TheVariants.{Absent, WrongKind, BadOffset}
use Rattle.ftp_tree.specs.declared.tree.NodeKind.{NodeKind}
use Rattle.ftp_tree.proofs.TableLemmas.{held}

pub front-absent : (node : Option Node) (count : ℕ) → option_map length (of_node octets_of node) ≡ None → option_map kind_of node ≡ None → front_answer node count ≡ Some Absent
front-absent None count size kind = refl
front-absent (Some Dir) count size kind = cc
front-absent (Some (File octets moment)) count size kind = cc

pub front-kind : (node : Option Node) (count : ℕ) (found : NodeKind) → option_map length (of_node octets_of node) ≡ None → option_map kind_of node ≡ Some found → front_answer node count ≡ Some WrongKind
front-kind None count found size kind = cc
front-kind (Some Dir) count found size kind = refl
front-kind (Some (File octets moment)) count found size kind = cc

pub front-size : (node : Option Node) (count size : ℕ) → option_map length (of_node octets_of node) ≡ Some size → front_answer node count ≡ whenever (not (nat_le count size)) BadOffset
front-size None count size is = cc
front-size (Some Dir) count size is = cc
front-size (Some (File octets moment)) count size is = ap (λ o. whenever (not (nat_le count (unwrap_or o 0))) BadOffset) is

-- where they are had, the file has so many
pub front-enough : (table : Table) (path : Names) (count : ℕ) → front_refusal table path count ≡ None → count ≤ length (octets_or_none table path)
unfolding front_refusal octets_at
front-enough table path count none = of (node_at table path) none
  where
    of : (node : Option Node) → front_answer node count ≡ None → count ≤ length (unwrap_or (of_node octets_of node) [])
    of None none = cc
    of (Some Dir) none = cc
    of (Some (File octets moment)) none = leb-true count (length octets) (held (nat_le count (length octets)) BadOffset none)

-- one more piece of it
pub front-more : (octets content piece new : List ℕ) (at : ℕ) → content ≡ take (length content) octets → at ≡ length content → piece ≡ take (length piece) (drop at octets) → new ≡ content ++ piece
    → new ≡ take (length new) octets
front-more octets content piece new at front here next push =
    let k = length content in
    let m = length piece in
    let whole : length new ≡ k + m = ap length push ∙ length-append content piece in
    let le : k ≤ k + m = omega arith in
    push ∙ ap (λ l. l ++ piece) front ∙ ap (λ l. take k octets ++ l) (next ∙ ap (λ n. take m (drop n octets)) here)
    ∙ sym (ap (λ n. take n octets) whole ∙ sym (take-append-drop k (take (k + m) octets)) ∙ ap (λ l. l ++ drop k (take (k + m) octets)) (take-take k (k + m) octets le)
    ∙ ap (λ l. take k octets ++ l) (drop-take k m octets))

-- what is read from a place on, and one more piece
pub filled-more : (octets piece : List ℕ) (at done : ℕ) → piece ≡ take (length piece) (drop (at + done) octets) → take done (drop at octets) ++ piece ≡ take (done + length piece) (drop at octets)
filled-more octets piece at done next =
    ap (λ l. take done (drop at octets) ++ l) (next ∙ ap (take (length piece)) (sym (drop-drop done at octets))) ∙ sym (take-add done (length piece) (drop at octets))
