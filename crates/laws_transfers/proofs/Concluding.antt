-- What follows of a world that holds what both drives hold: agreement, and the direct run.
use Rattle.std.proofs.Common.{◌≡◌, inl, inr, false, List, ◌++◌, length, Some, None, option_to_list, refl, ap, ◌∙◌}
use Rattle.ftp_ports.specs.Actions.{Stand}
use Rattle.ftp_client_driver.specs.Side.{client_side}
use Rattle.ftp_client_model.specs.Calls.{control_end, data_closed, report_of, reports as reports_now}
use Rattle.ftp_client_model.specs.View.{Job, View as Near, fails_by}
use Rattle.ftp_client_model.specs.declared.client.ClientLink.TheVariants as Data
use Rattle.ftp_client_model.specs.declared.client.Ending.TheVariants as Endings
use Rattle.ftp_client_model.specs.declared.client.Failure.TheVariants as Failures
use Rattle.ftp_client_model.specs.declared.client.Standing.{Standing}
use Rattle.ftp_client_model.specs.declared.client.Standing.TheVariants as Stands
use Rattle.ftp_operation.specs.Answer.{Said}
use Rattle.ftp_server_driver.specs.alone.Side.{server_side}
use Rattle.ftp_server_model.specs.View.{View as Far}
use Rattle.ftp_server_model.proofs.LinesDecided.{reading_exists}
use Rattle.laws_world.specs.Agreement.{Agrees, Order}
use Rattle.laws_world.specs.Claims.{Beginning, IsFair, state_of, world_of}
use Rattle.laws_world.specs.World.{Mark, World}
use Rattle.laws_agreement.proofs.Theorems.{agrees-always}
use Rattle.laws_drivers.specs.control.Alone.{reports_in}
use Rattle.laws_drivers.specs.control.Between.{client_actions}
use Rattle.laws_drivers.specs.events.Moments.{begun_at}
use Rattle.laws_drivers.proofs.control.Taken.{reports_is, taken}
use Rattle.laws_drivers.proofs.control.Worlds.{LeadsOn}
use Rattle.laws_drivers.proofs.events.Agreeing.{world_agrees, world_parting_agrees}
use Rattle.laws_drivers.proofs.events.Concluding.{are_the_direct_run}
use Rattle.laws_drivers.proofs.events.Parting.{cut_report}
use Rattle.laws_transfers.proofs.Ahead.{keeps}
use Rattle.laws_transfers.specs.Claims.{IsNear, TransfersAgree, TransfersAreTheDirectRun, TransfersPartingAgree, no_faults}
use Rattle.laws_transfers.specs.Refusals.{HoldsMarked, TriesAgree, TriesPartingAgree, marks_in}
use Rattle.laws_transfers.proofs.Reaching.{tries_are_of_worlds}
use Rattle.laws_transfers.proofs.Trying.{asks_unmarked, did_try}

-- how a link is over is all the same to the report of a client that is told that the control connection ended
near_cut : (there here : Near) → IsNear there here → report_of (control_end there) ≡ report_of (control_end here)
unfolding control_end
near_cut there here (inl same) = ap (λ n. report_of (control_end n)) same
near_cut there here (inr told) = ap (λ n. report_of (control_end n)) told.is ∙ by here.standing here.job
  where
    by : (standing : Standing) (job : Job)
        → report_of (fails_by standing Failures.Lost (record here { standing = standing; job = job; connection = Data.Over Endings.Clean }))
        ≡ report_of (fails_by standing Failures.Lost (record here { standing = standing; job = job }))
    by (Stands.Failed before) job = refl
    by Stands.Greeting job = refl
    by Stands.User job = refl
    by Stands.Pass job = refl
    by Stands.Entered job = refl

-- of a world that holds what both drives hold, and has these marks
module _ (b : Beginning) (fair : IsFair b) (begun : List Order) (marks : List (List Mark)) (server : Stand server_side) (client : Stand client_side)
    (reports : List Said) (w : World) (leads : LeadsOn reading_exists.0 begun (world_of b) w) (s : HoldsMarked marks server client reports w) where
  abbrev f : Far
  f = server.owner.end.server.view

  abbrev v : Near
  v = client.owner.end.view

  map : w.far.session.table ≡ f.session.table
  map = ap (λ (x : Far). x.session.table) s.far ∙ (keeps s.ahead f s.fits).table

  -- the world agrees, and so do they
  pub marked_agree : Agrees (state_of b) begun marks None (reports ++ option_to_list (report_of v)) f.session.table
  marked_agree =
      world_agrees agrees-always reading_exists b fair begun marks f.session.table w leads map s.marked (reports ++ option_to_list (report_of v)) s.reported
      s.cutoff

  -- so they do where the control connection ends for both
  pub marked_parting_agree : Agrees (state_of b) begun marks (Some (length marks)) (reports ++ option_to_list (report_of (control_end v))) f.session.table
  marked_parting_agree =
      world_parting_agrees agrees-always reading_exists b fair begun marks f.session.table w leads map s.marked reports v s.control s.reported
      (near_cut w.near (data_closed (reports_now v)) s.near ∙ ap (λ n. report_of (control_end n)) (ap data_closed (reports_is v)) ∙ cut_report false (taken v))

-- so it is of both drives
pub tries_agree : TriesAgree
tries_agree b fair moments timed turns between server client did =
    let o = tries_are_of_worlds reading_exists.0 reading_exists.1 b fair moments timed turns between server client did in
    marked_agree b fair (begun_at moments (client_actions turns)) (marks_in (client_actions turns)) server client (reports_in (client_actions turns)) o.world
    (record { events = o.events; timed = o.timed; leads = o.leads }) o.both

pub tries_parting_agree : TriesPartingAgree
tries_parting_agree b fair moments timed turns between server client did =
    let o = tries_are_of_worlds reading_exists.0 reading_exists.1 b fair moments timed turns between server client did in
    marked_parting_agree b fair (begun_at moments (client_actions turns)) (marks_in (client_actions turns)) server client (reports_in (client_actions turns))
    o.world (record { events = o.events; timed = o.timed; leads = o.leads }) o.both

-- so it is where no dial fails, without marks
pub transfers_agree : TransfersAgree
transfers_agree b fair moments timed turns between server client did = (
  marks_in (client_actions turns),
  asks_unmarked (client_actions turns) did.client_start client did.client_led did.asks,
  tries_agree b fair moments timed turns between server client (did_try b moments turns between server client did),
)

pub transfers_parting_agree : TransfersPartingAgree
transfers_parting_agree b fair moments timed turns between server client did = (
  marks_in (client_actions turns),
  asks_unmarked (client_actions turns) did.client_start client did.client_led did.asks,
  tries_parting_agree b fair moments timed turns between server client (did_try b moments turns between server client did),
)

-- agreement without marks is the direct run, where all is reported
pub transfers_are_the_direct_run : TransfersAreTheDirectRun
transfers_are_the_direct_run =
    are_the_direct_run no_faults (λ turns start now led client_start client client_led marks unmarked. unmarked) transfers_agree
