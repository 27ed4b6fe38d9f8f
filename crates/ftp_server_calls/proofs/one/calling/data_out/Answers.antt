use Rattle.std.proofs.Common.{◌≡◌, ◌∙◌, arith, length, rules}
use Rattle.ftp_server_calls.proofs.one.CallLemmas.{cut_back, data_makes}
use Rattle.ftp_server_calls.proofs.one.calling.data_out.Goals as goal

pub returns : goal.returns
returns g c =
    λ course.
    let server = g.S.Far.server in
    let few = c.data_out-count.ensures.left course in
    let long : length c.data_out-count.new.room ≡ c.args.room.len = search rules in
    data_makes c.args.room.len c.data_out-count.result c.truncate.new.self.items (server c.args.server.now) (server c.data_out-count.new.self)
    (omega (arith, c.data_out-count.ensures.within, few, c.as_mut_slice.ensures.len))
    (λ same. omega (arith, c.data_out-count.ensures.most same, c.as_mut_slice.ensures.len))
    (cut_back c.data_out-count.result c.args.room.len c.data_out-count.new.room c.truncate.new.self.items c.args.room.items long c.truncate.ensures.items ∙ c.data_out-count.ensures.gave course)
    c.data_out-count.ensures.now
