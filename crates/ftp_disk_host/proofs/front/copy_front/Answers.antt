use Rattle.std.proofs.Common.{rules, arith, ◌≡◌, ◌+◌, ◌-◌, ◌≤◌, length, take, subst}
use Rattle.std.proofs.lemmas.List.{length-take}
use Rattle.ftp_disk_host.specs.Copied.{Copies}
use Rattle.ftp_disk_host.proofs.CopyLemmas.{Copies-more}
use Rattle.ftp_disk_host.proofs.front.copy_front.Goals as goal

-- one more piece is copied
pub loop-left-preserved : goal.loop-left-preserved
loop-left-preserved g c =
    let given = g.F.Read.remaining in
    let held = g.W.Write.contents in
    let left = c.loop-left.left in
    let got = c.in_ok-got.got in
    let room = c.read_some.new.room in
    let few : got ≤ left = search rules in
    let long : length (take got room) ≡ got = omega (arith, length-take got room, c.in_ok-got.ensures.count) in
    let count : (c.args.count - left) + got ≡ c.args.count - (left - got) = omega (arith, few, c.loop-left.invariant.0) in
    let more = Copies-more (c.args.count - left) got (given c.args.from.now) (given c.loop-left.from) (given c.read_some.new.file)
    (held c.args.to.now) (held c.loop-left.to) (held c.write_all.new.self) (take got room) c.loop-left.invariant.1 long
    c.in_ok-got.ensures.octets c.in_ok-write_all.ensures.bytes in (
      omega (arith, c.loop-left.invariant.0),
      subst (λ n. Copies n (given c.args.from.now) (given c.read_some.new.file) (held c.args.to.now) (held c.write_all.new.self)) count more,
    )
