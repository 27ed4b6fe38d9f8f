use Rattle.std.proofs.Common.{◌≡◌, ◌≤◌, true, false, Some, length, sym, subst, arith}
use Rattle.std.specs.Option.{option_map}
use Rattle.ftp_tree.specs.Tree.{under, octets_or_none}
use Rattle.ftp_server_model.specs.Machine.{end_refusal}
use Rattle.ftp_server_model.specs.Walk.{refusal_text}
use Rattle.ftp_server_model.specs.declared.reply.FixedReply.{FixedReply}
use Rattle.ftp_server_transfer.proofs.RefusalLemmas.{is_barred, is_short, has_no_place, has_place, fewer, no_fewer}
use Rattle.ftp_server_transfer.proofs.ending.end_refusal.Goals as goal

pub returns-then-not-may_put_at : goal.returns-then-not-may_put_at
returns-then-not-may_put_at g c = λ s octets same at may long.
    is_barred s (g.T.Tree.table c.args.tree.now) c.args.root.now c.args.rights c.args.path.now c.args.keep octets same at may c.if-not-may_put_at.ensures

pub returns-then-len_at-kept : goal.returns-then-len_at-kept
returns-then-len_at-kept g c = λ s octets same at may long.
    let stands = octets_or_none (under (g.T.Tree.table c.args.tree.now) c.args.root.now) c.args.path.now in
    let kept = c.kept_at-kept in
    is_short s (g.T.Tree.table c.args.tree.now) c.args.root.now c.args.rights c.args.path.now c.args.keep octets same at may c.if-not-may_put_at.ensures
    (fewer c.args.keep stands kept.result c.len_at.result kept.ensures.lacks c.len_at.ensures c.if-len_at-kept.true)

pub returns-in-Err : goal.returns-in-Err
returns-in-Err g c = λ s octets same at may long.
    let stands = octets_or_none (under (g.T.Tree.table c.args.tree.now) c.args.root.now) c.args.path.now in
    let kept = c.kept_at-kept in
    let P : FixedReply → Type 0 = λ reply. Some reply ≡ option_map refusal_text (end_refusal c.args.path.now c.args.keep octets s) in
    subst P (sym c.room_text.ensures)
    (has_no_place s (g.T.Tree.table c.args.tree.now) c.args.root.now c.args.rights c.args.path.now c.args.keep octets c.in-Err.fault same at may
    c.if-not-may_put_at.ensures (no_fewer c.args.keep stands kept.result c.len_at.result kept.ensures.lacks c.len_at.ensures c.if-len_at-kept.false)
    c.parent_key-key.ensures.fits c.in-Err.ensures.refused)

pub returns-then-passes : goal.returns-then-passes
returns-then-passes g c = λ s octets same at may long.
    let stands = octets_or_none (under (g.T.Tree.table c.args.tree.now) c.args.root.now) c.args.path.now in
    let kept = c.kept_at-kept in
    let few : kept.result ≤ length stands = omega (arith, c.len_at.ensures, c.if-len_at-kept.false) in
    has_place s (g.T.Tree.table c.args.tree.now) c.args.root.now c.args.rights c.args.path.now c.args.keep octets c.args.count kept.result c.in-Ok.room true same at may long
    c.if-not-may_put_at.ensures kept.ensures.octets few (no_fewer c.args.keep stands kept.result c.len_at.result kept.ensures.lacks c.len_at.ensures c.if-len_at-kept.false)
    c.parent_key-key.ensures.fits c.in-Ok.ensures.room.0 c.in-Ok.ensures.room.1 c.if-passes.ensures

pub returns-else-passes : goal.returns-else-passes
returns-else-passes g c = λ s octets same at may long.
    let stands = octets_or_none (under (g.T.Tree.table c.args.tree.now) c.args.root.now) c.args.path.now in
    let kept = c.kept_at-kept in
    let few : kept.result ≤ length stands = omega (arith, c.len_at.ensures, c.if-len_at-kept.false) in
    has_place s (g.T.Tree.table c.args.tree.now) c.args.root.now c.args.rights c.args.path.now c.args.keep octets c.args.count kept.result c.in-Ok.room false same at may long
    c.if-not-may_put_at.ensures kept.ensures.octets few (no_fewer c.args.keep stands kept.result c.len_at.result kept.ensures.lacks c.len_at.ensures c.if-len_at-kept.false)
    c.parent_key-key.ensures.fits c.in-Ok.ensures.room.0 c.in-Ok.ensures.room.1 c.if-passes.ensures
