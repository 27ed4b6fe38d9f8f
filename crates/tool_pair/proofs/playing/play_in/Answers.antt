use Rattle.std.proofs.Common.{◌≡◌, ◌∙◌, sym}
use Rattle.tool_terminal.specs.declared.status.Status.TheVariants.{Done, Refused}
use Rattle.tool_pair.proofs.Reporting.{calm_status, reported, short_status}
use Rattle.tool_pair.proofs.playing.play_in.Goals as goal

pub returns-then-is_calm-clause-plays : goal.returns-then-is_calm-clause-plays
returns-then-is_calm-clause-plays g c =
    reported g.row.A.Denot c.args.settings.transcript c.args.orders.items c.args.world.now c.obey.new.world c.new-transcript.result c.obey.new.transcript
    (g.W.Write.contents c.args.writer.now) (g.W.Write.contents c.write_all.new.self) (g.W.Write.contents c.write_reports.new.writer) c.lines.result.now c.reports.result.now
    c.in_ok-status.status c.in_ok-obey.ensures.leads c.new-transcript.ensures.wanted c.new-transcript.ensures.told c.lines.ensures c.in_ok-write_all.ensures.bytes
    c.in_ok-status.ensures.wrote c.reports.ensures c.in_ok-obey.ensures.each
    (calm_status _ _ _ (sym c.is_calm.ensures.calm ∙ c.if-is_calm.true) c.in_ok-status.ensures.status)

pub returns-clause-plays : goal.returns-clause-plays
returns-clause-plays g c =
    reported g.row.A.Denot c.args.settings.transcript c.args.orders.items c.args.world.now c.obey.new.world c.new-transcript.result c.obey.new.transcript
    (g.W.Write.contents c.args.writer.now) (g.W.Write.contents c.write_all.new.self) (g.W.Write.contents c.write_reports.new.writer) c.lines.result.now c.reports.result.now
    Refused c.in_ok-obey.ensures.leads c.new-transcript.ensures.wanted c.new-transcript.ensures.told c.lines.ensures c.in_ok-write_all.ensures.bytes
    c.in_ok-status.ensures.wrote c.reports.ensures c.in_ok-obey.ensures.each (short_status _ _ (sym c.is_calm.ensures.calm ∙ c.if-is_calm.false))

pub returns-then-is_calm-clause-calm : goal.returns-then-is_calm-clause-calm
returns-then-is_calm-clause-calm g c = λ done. sym c.is_calm.ensures.calm ∙ c.if-is_calm.true

pub returns-clause-calm : goal.returns-clause-calm
returns-clause-calm g c = λ done. absurd (let e : Refused ≡ Done = done in cc)
