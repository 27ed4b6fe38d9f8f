-- What follows of a world that holds what both drives hold, or held before one of them was told of a break, and has these marks: agreement.
use Rattle.std.proofs.Common.{◌≡◌, List, ◌++◌, length, Some, None, option_to_list, sym, subst}
use Rattle.ftp_ports.specs.Actions.{Stand}
use Rattle.ftp_client_driver.specs.Side.{client_side}
use Rattle.ftp_client_model.specs.Calls.{control_end, report_of}
use Rattle.ftp_operation.specs.Answer.{Said}
use Rattle.ftp_server_driver.specs.alone.Side.{server_side}
use Rattle.ftp_server_model.proofs.LinesDecided.{reading_exists}
use Rattle.ftp_tree.specs.Tree.{Table}
use Rattle.laws_world.specs.Agreement.{Agrees, Order}
use Rattle.laws_world.specs.Claims.{Beginning, IsFair, state_of, world_of}
use Rattle.laws_world.specs.World.{Mark, World}
use Rattle.laws_drivers.specs.control.Alone.{reports_in}
use Rattle.laws_drivers.specs.control.Between.{client_actions}
use Rattle.laws_drivers.specs.events.Moments.{begun_at}
use Rattle.laws_drivers.proofs.control.Worlds.{LeadsOn}
use Rattle.laws_transfers.specs.Refusals.{HoldsMarked}
use Rattle.laws_transfers.proofs.Concluding.{marked_agree, marked_parting_agree}
use Rattle.laws_breaks.specs.downloads.Claims.{BreaksAgree, BreaksPartingAgree, ReportAlike}
use Rattle.laws_breaks.proofs.downloads.Suffering.{breaks_are_of_worlds}

module _ (b : Beginning) (fair : IsFair b) (begun : List Order) (marks : List (List Mark)) (server were : Stand server_side) (client was : Stand client_side)
    (said : List Said) (w : World) (leads : LeadsOn reading_exists.0 begun (world_of b) w) (both : HoldsMarked marks were was said w)
    (alike : ReportAlike client.owner.end.view was.owner.end.view)
    (table : server.owner.end.server.view.session.table ≡ were.owner.end.server.view.session.table) where
  -- the world agrees, and so do they
  pub alike_agree : Agrees (state_of b) begun marks None (said ++ option_to_list (report_of client.owner.end.view)) server.owner.end.server.view.session.table
  alike_agree =
      subst (λ (t : Table). Agrees (state_of b) begun marks None (said ++ option_to_list (report_of client.owner.end.view)) t) (sym table)
      (subst (λ r. Agrees (state_of b) begun marks None (said ++ option_to_list r) were.owner.end.server.view.session.table) (sym alike.0)
      (marked_agree b fair begun marks were was said w leads both))

  -- so they do where the control connection ends for both
  pub alike_parting_agree : Agrees (state_of b) begun marks (Some (length marks)) (said ++ option_to_list (report_of (control_end client.owner.end.view)))
      server.owner.end.server.view.session.table
  alike_parting_agree =
      subst (λ (t : Table). Agrees (state_of b) begun marks (Some (length marks)) (said ++ option_to_list (report_of (control_end client.owner.end.view))) t)
      (sym table)
      (subst (λ r. Agrees (state_of b) begun marks (Some (length marks)) (said ++ option_to_list r) were.owner.end.server.view.session.table) (sym alike.1)
      (marked_parting_agree b fair begun marks were was said w leads both))

pub breaks_agree : BreaksAgree
breaks_agree b fair moments timed turns between server client did =
    let o = breaks_are_of_worlds reading_exists.0 reading_exists.1 b fair moments timed turns between server client did in (
      o.marks,
      o.are_marks,
      alike_agree b fair (begun_at moments (client_actions turns)) o.marks server o.were client o.was (reports_in (client_actions turns)) o.world
          (record { events = o.events; timed = o.timed; leads = o.leads }) o.both o.alike o.table,
    )

pub breaks_parting_agree : BreaksPartingAgree
breaks_parting_agree b fair moments timed turns between server client did =
    let o = breaks_are_of_worlds reading_exists.0 reading_exists.1 b fair moments timed turns between server client did in (
      o.marks,
      o.are_marks,
      alike_parting_agree b fair (begun_at moments (client_actions turns)) o.marks server o.were client o.was (reports_in (client_actions turns)) o.world
          (record { events = o.events; timed = o.timed; leads = o.leads }) o.both o.alike o.table,
    )
