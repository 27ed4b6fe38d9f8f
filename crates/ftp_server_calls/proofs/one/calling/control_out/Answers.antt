use Rattle.std.proofs.Common.{◌≡◌, ◌∙◌, arith, length, rules}
use Rattle.ftp_server_calls.proofs.one.CallLemmas.{control_makes, cut_back}
use Rattle.ftp_server_calls.proofs.one.calling.control_out.Goals as goal

pub returns : goal.returns
returns g c =
    let server = g.S.Far.server in
    let long : length c.control_out-count.new.room ≡ c.args.room.len = search rules in
    control_makes c.args.room.len c.control_out-count.result c.truncate.new.self.items (server c.args.server.now) (server c.control_out-count.new.self)
    (omega (arith, c.control_out-count.ensures.most, c.as_mut_slice.ensures.len))
    (cut_back c.control_out-count.result c.args.room.len c.control_out-count.new.room c.truncate.new.self.items c.args.room.items long c.truncate.ensures.items ∙ c.control_out-count.ensures.gave)
    c.control_out-count.ensures.now
