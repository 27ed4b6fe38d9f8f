use Rattle.std.proofs.Common.{◌++◌, ◌∙◌, List, ℕ, [], cond, nat_lt, ap, append_assoc, sym, codes, get_or, map, take, arith}
use Rattle.std.specs.List.{join_with_byte}
use Rattle.ftp_endpoint.specs.Written.{hex}
use Rattle.ftp_endpoint.proofs.JoinLemmas.{groups_more}
use Rattle.ftp_endpoint.proofs.writing.put_groups.Goals as goal

pub loop-i-preserved : goal.loop-i-preserved
loop-i-preserved c =
    let old : List ℕ = c.args.line.now.items in
    let done : List ℕ = join_with_byte 58 (map hex (take c.loop-i.i c.args.groups.now)) in
    let next : List ℕ = cond (nat_lt 0 c.loop-i.i) (codes ":") [] ++ hex (get_or c.args.groups.now c.loop-i.i 0) in
    let more = groups_more c.args.groups.now c.loop-i.i c.loop-i-test.true in (
      c.put_group.ensures.text ∙ (ap (λ x. x ++ next) c.loop-i.invariant.0 ∙ (append_assoc old done next ∙ ap (λ x. old ++ x) (sym more))),
      omega (arith, c.put_group.ensures.bound, c.loop-i.invariant.1),
    )
