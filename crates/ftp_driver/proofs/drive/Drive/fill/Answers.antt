use Rattle.ftp_driver.proofs.drive.Drive.fill.Goals as goal

pub returns-clause-leads : goal.returns-clause-leads
returns-clause-leads g c = c.fill.ensures.quiet (g.P.Ports.history c.args.self.now.ports.now) _ _ _

pub returns-clause-progresses : goal.returns-clause-progresses
returns-clause-progresses g c all = c.fill.ensures.progresses all (g.P.Ports.history c.args.self.now.ports.now) _ _ _
