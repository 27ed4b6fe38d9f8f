-- What follows of a world that holds what both drives hold: agreement, and the direct run.
use Rattle.std.proofs.Common.{◌≡◌, inl, inr, false, List, ◌++◌, length, Some, option_to_list, sym, ap, subst, ◌∙◌}
use Rattle.ftp_ports.specs.Actions.{Stand}
use Rattle.ftp_client_driver.specs.Side.{client_side}
use Rattle.ftp_client_model.specs.Calls.{control_end, data_closed, report_of}
use Rattle.ftp_client_model.specs.View.{View as Near}
use Rattle.ftp_operation.specs.Answer.{Said}
use Rattle.ftp_server_model.specs.View.{View as Far}
use Rattle.ftp_server_model.proofs.LinesDecided.{reading_exists}
use Rattle.ftp_tree.specs.Tree.{Table}
use Rattle.laws_world.specs.Agreement.{Agrees, Order}
use Rattle.laws_world.specs.Claims.{state_of}
use Rattle.laws_agreement.proofs.Theorems.{agrees-always}
use Rattle.laws_drivers.specs.control.Alone.{reports_in}
use Rattle.laws_drivers.specs.control.Between.{Between, client_actions}
use Rattle.laws_drivers.specs.events.Moments.{begun_at}
use Rattle.laws_drivers.proofs.control.Taken.{taken}
use Rattle.laws_drivers.proofs.events.Agreeing.{world_agrees, world_parting_agrees}
use Rattle.laws_drivers.proofs.events.Concluding.{are_the_direct_run}
use Rattle.laws_drivers.proofs.events.Parting.{cut_report}
use Rattle.laws_transfers.proofs.Ahead.{keeps}
use Rattle.laws_transfers.proofs.Broke.{IsShown}
use Rattle.laws_active.specs.Claims.{EitherAgree, EitherAreTheDirectRun, EitherPartingAgree, no_faults_either_way}
use Rattle.laws_active.proofs.Parting.{gained_cut}
use Rattle.laws_active.proofs.Reaching.{reaches, tries_are_of_worlds}
use Rattle.laws_active.proofs.Simulating.{view_is}
use Rattle.laws_active.specs.Actions.{listened_in_turns}
use Rattle.laws_active.specs.Refusals.{TriesAgreeEitherWay, TriesPartingAgreeEitherWay, gained_by, marks_in_turns}
use Rattle.laws_active.proofs.Trying.{did_try, none_marked}

-- the world agrees, and so do they
pub tries_agree : TriesAgreeEitherWay
tries_agree b fair moments timed turns between server client did =
    let o = tries_are_of_worlds reading_exists.0 reading_exists.1 b fair moments timed turns between server client did in
    let s = o.both in
    let v : Far = server.owner.end.server.view in
    world_agrees agrees-always reading_exists b fair (begun_at moments (client_actions turns)) (marks_in_turns turns) v.session.table o.world
    (record { events = o.events; timed = o.timed; leads = o.leads }) (ap (λ (f : Far). f.session.table) s.far ∙ (keeps s.ahead v s.fits).table) s.marked
    (reports_in (client_actions turns) ++ option_to_list (report_of client.owner.end.view)) s.reported s.cutoff

-- told that the control connection ended, the client that a world sees reports what the drive's would
shown_cut : (between : Between) (client shown : Stand client_side) → IsShown between client shown
    → report_of (control_end shown.owner.end.view) ≡ report_of (control_end client.owner.end.view)
unfolding control_end
shown_cut between client shown (inl same) = ap (λ (c : Stand client_side). report_of (control_end c.owner.end.view)) same
shown_cut between client shown (inr broke) =
    ap (λ (c : Stand client_side). report_of (control_end c.owner.end.view)) broke.1 ∙ ap (λ n. report_of (control_end n)) broke.2.apart.other_is
    ∙ sym (ap (λ n. report_of (control_end n)) broke.2.apart.one_is)

-- one more event ends the control connection for both
pub tries_parting_agree : TriesPartingAgreeEitherWay
tries_parting_agree b fair moments timed turns between server client did =
    let at = reaches reading_exists.0 reading_exists.1 moments timed b fair turns between did.happened did.ordered did.server_start server did.client_start client
    did.begins did.untold did.unwritten did.server_unwritten did.client_untold did.server_led did.client_led did.serves did.asks did.ports did.told in
    let o = at.reached in
    let s = o.together.beside in
    let f : Far = server.owner.end.server.view in
    let u : Near = gained_by o.gain at.shown.owner.end.view in
    let begun : List Order = begun_at moments (client_actions turns) in
    let reports : List Said = reports_in (client_actions turns) in
    let table : Table = f.session.table in
    subst (λ r. Agrees (state_of b) begun (marks_in_turns turns) (Some (length (marks_in_turns turns))) (reports ++ option_to_list r) table)
    (gained_cut o.gain o.more at.seen (listened_in_turns turns) server at.shown o.so ∙ shown_cut between client at.shown at.shows)
    (world_parting_agrees agrees-always reading_exists b fair begun (marks_in_turns turns) table o.world o.leads
    (ap (λ (x : Far). x.session.table) s.far ∙ (keeps o.ahead f s.fits).table) o.marked reports u s.control
    (s.reported ∙ ap (λ n. reports ++ option_to_list (report_of n)) (view_is o.gain at.shown))
    (ap (λ n. report_of (control_end n)) (s.near ∙ ap (λ n. data_closed (taken n)) (view_is o.gain at.shown)) ∙ cut_report false (taken u)))

-- so it is where no dial fails, without marks
pub either_agree : EitherAgree
either_agree b fair moments timed turns between server client did = (
  marks_in_turns turns,
  none_marked turns did.server_start server did.server_led did.serves did.client_start client did.client_led did.asks,
  tries_agree b fair moments timed turns between server client (did_try b moments turns between server client did),
)

pub either_parting_agree : EitherPartingAgree
either_parting_agree b fair moments timed turns between server client did = (
  marks_in_turns turns,
  none_marked turns did.server_start server did.server_led did.serves did.client_start client did.client_led did.asks,
  tries_parting_agree b fair moments timed turns between server client (did_try b moments turns between server client did),
)

-- agreement without marks is the direct run, where all is reported
pub either_are_the_direct_run : EitherAreTheDirectRun
either_are_the_direct_run =
    are_the_direct_run no_faults_either_way (λ turns start now led client_start client client_led marks unmarked. unmarked) either_agree
