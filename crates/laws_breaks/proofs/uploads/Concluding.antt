-- So reports and map agree with what was begun, and so they do where the control connection ends then.
use Rattle.ftp_server_model.proofs.LinesDecided.{reading_exists}
use Rattle.laws_drivers.specs.control.Alone.{reports_in}
use Rattle.laws_drivers.specs.control.Between.{client_actions}
use Rattle.laws_drivers.specs.events.Moments.{begun_at}
use Rattle.laws_breaks.proofs.downloads.Concluding.{alike_agree, alike_parting_agree}
use Rattle.laws_breaks.specs.uploads.Claims.{CutsAgree, CutsPartingAgree}
use Rattle.laws_breaks.proofs.uploads.OfWorlds.{cuts_are_of_worlds}

pub cuts_agree : CutsAgree
cuts_agree b fair moments timed turns between server client did =
    let o = cuts_are_of_worlds reading_exists.0 reading_exists.1 b fair moments timed turns between server client did in (
      o.marks,
      o.are_marks,
      alike_agree b fair (begun_at moments (client_actions turns)) o.marks server o.were client o.was (reports_in (client_actions turns)) o.world
          (record { events = o.events; timed = o.timed; leads = o.leads }) o.both o.alike o.table,
    )

pub cuts_parting_agree : CutsPartingAgree
cuts_parting_agree b fair moments timed turns between server client did =
    let o = cuts_are_of_worlds reading_exists.0 reading_exists.1 b fair moments timed turns between server client did in (
      o.marks,
      o.are_marks,
      alike_parting_agree b fair (begun_at moments (client_actions turns)) o.marks server o.were client o.was (reports_in (client_actions turns)) o.world
          (record { events = o.events; timed = o.timed; leads = o.leads }) o.both o.alike o.table,
    )
