use Rattle.ftp_driver.proofs.data.Data.cut.Goals as goal

pub returns : goal.returns
returns g c asked = (c.control_end.ensures, c.see.ensures asked)
