use Rattle.std.proofs.Common.{◌≡◌, IfOk, get_or, refl, subst}
use Rattle.tool_login.specs.Netrc.{start, step}
use Rattle.tool_login.specs.Spot.{line_feed}
use Rattle.tool_login.proofs.NetrcLemmas.{all_read, one_more}
use Rattle.tool_login.proofs.netrc.read.Goals as goal

pub loop-octet-preserved : goal.loop-octet-preserved
loop-octet-preserved c =
    let at = c.loop-octet.octet-index in
    one_more (step c.args.wanted.host.now c.args.wanted.user.now) start c.args.text.now at (get_or c.args.text.now at 0) 0 _ _
    c.loop-octet-test.true refl c.loop-octet.invariant c.in_ok-reader.ensures

pub returns : goal.returns
returns c =
    let each = step c.args.wanted.host.now c.args.wanted.user.now in
    let all = all_read each start c.args.text.now c.loop-octet.octet-index _ c.loop-octet-test.false c.loop-octet.invariant in
    subst (λ state. IfOk c.stepped-2.result (λ reader. (reader.spot, reader.word.items, reader.search) ≡ each state line_feed)) all c.stepped-2.ensures
