use Rattle.ftp_ports.proofs.Channels.{rest_channel}
use Rattle.std.proofs.Common.{◌≡◌, ◌∙◌}
use Rattle.ftp_driver.proofs.Words.{[], channel_at, subst, sym}
use Rattle.ftp_ports.specs.Machine.{seen}
use Rattle.ftp_driver.proofs.data.Data.see.Goals as goal

pub returns-in-Send : goal.returns-in-Send
returns-in-Send g c asked =
    let old = c.args.self.now in
    let more = c.more.ensures in
    let channel = channel_at g.S.Read.remaining g.S.Write.contents asked in
    subst (λ want. channel (record old { connection = c.more.new.self }) [] ≡ seen want (channel old [])) (sym c.in-Send.is ∙ c.wants.ensures)
    (rest_channel g.S.Read.remaining g.S.Write.contents old.connection c.more.new.self asked old.room more.stream more.at more.end more.rest more.fate)
