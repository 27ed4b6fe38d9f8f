-- What both did before QUIT was written is the direct run, and after it the map stays.
use Rattle.std.proofs.Common.{◌≡◌, Bool, true, false, List, ◌++◌, length, option_to_list, refl, sym, ap, subst, ◌∙◌, append-nil}
use Rattle.ftp_client_model.specs.View.{View as Near}
use Rattle.ftp_client_model.specs.declared.client.Standing.TheVariants as Standings
use Rattle.ftp_server_model.specs.Machine.{is_connection_busy}
use Rattle.ftp_server_model.specs.View.{View as Far}
use Rattle.laws_world.specs.Agreement.{Order}
use Rattle.laws_world.specs.Claims.{state_of}
use Rattle.laws_drivers.specs.control.Alone.{reports_in}
use Rattle.laws_drivers.specs.control.Between.{client_actions, server_actions}
use Rattle.laws_drivers.proofs.control.Taken.{free_none}
use Rattle.laws_drivers.specs.world.Ahead as plainly
use Rattle.laws_drivers.proofs.world.Running.{all_runs}
use Rattle.laws_drivers.specs.events.Actions.{listened_in}
use Rattle.laws_drivers.specs.events.Moments.{begun_at}
use Rattle.laws_drivers.proofs.events.Answers.{midst_by}
use Rattle.laws_drivers.proofs.events.Closing.{begins_quit}
use Rattle.laws_drivers.proofs.events.Concluding.{QuitsNext, quit_are_the_direct_run}
use Rattle.laws_drivers.proofs.events.Resting.{AtRest, IsIdle, idle_at, rests_so}
use Rattle.laws_transfers.specs.Actions.{ClientTransfers, IsTransferred}
use Rattle.laws_transfers.specs.Ahead.{Ahead, Fits, Level, Listens, Opens, Parted, far_ahead}
use Rattle.laws_transfers.specs.Claims.{no_faults}
use Rattle.laws_transfers.specs.Quitting.{TransfersThatQuitAreTheDirectRun}
use Rattle.laws_transfers.proofs.Ahead.{left_is, left_link}
use Rattle.laws_transfers.proofs.Concluding.{transfers_are_the_direct_run}
use Rattle.laws_transfers.proofs.Ending.{drives_go, may_begin}
use Rattle.laws_transfers.proofs.Resting.{idles}
use Rattle.laws_transfers.proofs.Reaching.{reaches, shown_itself}
use Rattle.laws_transfers.proofs.Simulating.{Reached, in_carried}
use Rattle.laws_transfers.proofs.Trying.{did_try}

-- where a world's server is at rest so is the drive's
pub rests_now : (ahead : Ahead) (v : Far) → Fits ahead v.session.connection → IsIdle (far_ahead ahead v) → AtRest v
rests_now Level v fits idle = rests_so plainly.Level v fits (record { ear = idle.ear; owed = idle.owed; aside = idle.aside })
rests_now Opens v fits idle = rests_so plainly.Opens v fits (record { ear = idle.ear; owed = idle.owed; aside = idle.aside })
rests_now (Listens port) v fits idle = rests_so (plainly.Listens port) v fits (record { ear = idle.ear; owed = idle.owed; aside = idle.aside })
rests_now (Parted accepted) v fits idle =
    record { ear = idle.ear; owed = idle.owed; idle = ap is_connection_busy (left_is accepted v.session.connection fits) ∙ by accepted }
  where
    by : (accepted : Bool) → is_connection_busy (left_link accepted) ≡ false
    by true = refl
    by false = refl

-- where each operation has its report and the client is logged in, the server hears QUIT next
quits_next : QuitsNext no_faults
quits_next read reads b fair moments timed turns between server client did free entered told =
    let n : Near = client.owner.end.view in
    let v : Far = server.owner.end.server.view in
    let tried = did_try b moments turns between server client did in
    let at = reaches read reads moments timed b fair turns between tried.happened tried.ordered tried.server_start server tried.client_start client tried.begins
    tried.untold tried.unwritten tried.server_unwritten tried.client_untold tried.server_led tried.client_led tried.serves tried.asks tried.ports tried.told in
    let o = subst (λ c. Reached read reads moments timed b fair (begun_at moments (client_actions turns)) at.seen (listened_in (server_actions turns)) server c
    (reports_in (client_actions turns))) (shown_itself between client at.shown at.shows free) at.reached in
    let w = o.world in
    let s = o.together.beside in
    let begun : List Order = begun_at moments (client_actions turns) in
    let runs = all_runs read reads b fair o.leads.events begun w o.leads.timed o.leads.leads in
    let none = ap (λ r. reports_in (client_actions turns) ++ option_to_list r) (free_none n free) ∙ append-nil (reports_in (client_actions turns)) in
    let all : length w.reports ≡ length begun = ap length s.reported ∙ ap length none ∙ told in
    let standing : w.near.standing ≡ Standings.Entered = ap (λ (u : Near). u.standing) s.near ∙ entered in
    let carried = in_carried moments (client_actions turns) tried.client_start client tried.client_led tried.asks in
    let idle = idles read reads (state_of b) begun carried w s.unready s.cutoff all runs standing in
    begins_quit server between o.serves (ap (λ c. server.unheard ++ c.to_server) (sym at.is_seen.control) ∙ sym s.to_server ∙ idle.to_server)
    (rests_now o.ahead v s.fits (idle_at o.last w.far _ s.far idle.far))

pub transfers_that_quit_are_the_direct_run : TransfersThatQuitAreTheDirectRun
transfers_that_quit_are_the_direct_run =
    quit_are_the_direct_run no_faults (midst_by IsTransferred ClientTransfers may_begin) drives_go transfers_are_the_direct_run quits_next
