use Rattle.std.proofs.Common.{arith, rules, ◌<◌, length}
use Rattle.ftp_reply.specs.Lines.{lines_at}
use Rattle.ftp_reply.proofs.HeardLemmas.{few_octets}
use Rattle.ftp_reply.proofs.LinesLemmas.{octets_at}
use Rattle.ftp_reply.proofs.lines.Lines.octets.Goals as goal

pub overflow_sub-result : goal.overflow_sub-result
overflow_sub-result g c =
    let some : 0 < length c.self.inside.lens.items = search rules in
    let e = octets_at c.self.inside.buffer.items c.self.inside.lens.items c.self.invariant.0 some in
    omega arith

pub returns-clause-count : goal.returns-clause-count
returns-clause-count g c =
    let some : 0 < length c.self.inside.lens.items = search rules in
    let e = octets_at c.self.inside.buffer.items c.self.inside.lens.items c.self.invariant.0 some in
    rw (← c.self.view_is) (omega arith)

pub returns-clause-within : goal.returns-clause-within
returns-clause-within g c =
    let lines = lines_at c.self.inside.buffer.items c.self.inside.lens.items in
    let some : 0 < length c.self.inside.lens.items = search rules in
    let e = octets_at c.self.inside.buffer.items c.self.inside.lens.items c.self.invariant.0 some in
    let few = few_octets lines c.self.invariant.1 in
    omega (arith, e, few)
