use Rattle.std.proofs.Common.{◌≡◌, ◌∙◌, ap, sym, arith, rules, min, ◌+◌, length, length-drop, drop}
use Rattle.ftp_path.proofs.PathLemmas.{kept-le}
use Rattle.ftp_path.specs.Path.{joined, parent}
use Rattle.ftp_direct.proofs.NodeLineLemmas.{last_cut}
use Rattle.ftp_direct.proofs.node_line.last_name.Goals as goal

pub returns-clause-name : goal.returns-clause-name
returns-clause-name g c =
    let path = c.args.path.now in
    let octets = c.key-octets.result.now in
    let up = c.parent_key.result.now in
    let key : joined path ≡ octets = ap joined (sym c.key-octets.ensures.names) ∙ c.key-octets.ensures.kept.joins.whole in
    let above : joined (parent path) ≡ up = ap joined (sym c.parent_key.ensures.names) ∙ c.parent_key.ensures.joined.whole in
    let cut : c.split_at.result.1.now ≡ drop (min (length up + 1) (length octets)) octets = search rules in
    cut ∙ last_cut path octets up key above

pub returns-clause-few : goal.returns-clause-few
returns-clause-few g c =
    let cut : c.split_at.result.1.now ≡ drop c.min.result c.key-octets.result.now = search rules in
    omega (arith, ap length cut, length-drop c.min.result c.key-octets.result.now, kept-le c.key-octets.result.now c.key-octets.ensures.kept)
