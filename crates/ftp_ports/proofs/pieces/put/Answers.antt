use Rattle.std.proofs.Common.{rules, sym, subst, take, drop}
use Rattle.std.proofs.Math.Seq.{take-add}
use Rattle.std.proofs.KnownBytes.{Appends-trans}
use Rattle.std.specs.Io.KnownBytes.{Appends}
use Rattle.ftp_ports.proofs.pieces.put.Goals as goal

pub loop-preserved : goal.loop-preserved
loop-preserved g c =
    let contents = g.W.Write.contents in
    let old = contents c.args.writer.now in
    let mid = contents c.loop.writer in
    let new = contents c.put_some.new.writer in
    let n = c.in_ok-at.field-0 in
    let at = c.loop.at in
    let octets = c.args.octets.now in
    let more : Appends mid new (take n (drop at octets)) =
    subst (λ xs. Appends mid new (take n xs)) c.split_at.ensures.back c.in_ok-at.ensures.ok in
    let all = Appends-trans old mid new (take at octets) (take n (drop at octets)) c.loop.invariant.1 more in
    (search rules, subst (λ bs. Appends old new bs) (sym (take-add at n octets)) all)
