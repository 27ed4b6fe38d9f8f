use Rattle.std.specs.Io.KnownBytes.{Consumes}
use Rattle.ftp_ports.specs.Unheard.{left_of}
use Rattle.ftp_driver.proofs.Words.{◌∙◌, gets_err, read_fails, refl, rules, progresses_by, subst, sym}
use Rattle.ftp_ports.specs.Actions.{Ended, Read}
use Rattle.ftp_driver.proofs.drive.Drive.read.Goals as goal

pub returns-in_err-count-clause-gets : goal.returns-in_err-count-clause-gets
returns-in_err-count-clause-gets g c =
    gets_err c.in_err-count.field-0.0 _ _ c.from_residual.result c.from_residual.ensures.1
    (read_fails c.in_err-count.field-0.0 c.read.new.self.failed _ _ c.in_err-count.ensures.fault c.in_err-count.ensures.err c.in_err-count.ensures.open (c.in_err-count.ensures.kept ∙ sym c.requires.heard) c.in_err-count.ensures.written refl)

pub returns-then-count-ne0-clause-gets : goal.returns-then-count-ne0-clause-gets
returns-then-count-ne0-clause-gets g c = progresses_by (Read _) _ _ tt (record {
  due = (c.requires.flushed, c.requires.listening);
  owner = refl;
  heard = c.requires.heard;
  read = c.in_ok-count.ensures.ok;
  ended = c.in_ok-count.ensures.some (search rules);
  unheard = refl;
  written = c.in_ok-count.ensures.written;
})

pub returns-clause-gets : goal.returns-clause-gets
returns-clause-gets g c =
    let left = left_of g.R.Read.remaining in
    let none = c.in_ok-count.ensures.none (search rules) in
    progresses_by Ended _ _ tt (record {
      due = (c.requires.flushed, c.requires.listening);
      heard = c.requires.heard;
      read = subst (λ l. Consumes (left c.args.self.now.control.now).octets (left c.read.new.self).octets l) none.1 c.in_ok-count.ensures.ok;
      last = none.0;
      ended = c.in_ok-count.ensures.ended (search rules);
      cut = c.cut.ensures (g.P.Ports.history c.args.self.now.ports.now);
      unheard = none.1;
      written = c.in_ok-count.ensures.written;
    })
