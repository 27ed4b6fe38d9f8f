-- What both did over data connections that either dialled, before QUIT was written, is the direct run, and after it the map stays.
use Rattle.std.proofs.Common.{◌≡◌, ℕ, true, false, true≢false, List, [], ◌∷◌, ◌++◌, length, option_to_list, refl, sym, ap, ◌∙◌, append-nil}
use Rattle.ftp_client_driver.specs.Side.{client_side}
use Rattle.ftp_client_model.specs.View.{Flow, View as Near}
use Rattle.ftp_client_model.specs.declared.client.Standing.TheVariants as Standings
use Rattle.ftp_client_model.specs.Calls.{data_closed, is_busy, report_of}
use Rattle.ftp_client_model.specs.declared.client.Replied.{Replied}
use Rattle.ftp_operation.specs.declared.op.Op.{Op}
use Rattle.ftp_ports.specs.Actions.{Stand}
use Rattle.ftp_server_driver.specs.alone.Side.{server_side}
use Rattle.ftp_server_model.specs.View.{View as Far}
use Rattle.laws_world.specs.Agreement.{Order}
use Rattle.laws_world.specs.Claims.{state_of}
use Rattle.laws_drivers.specs.control.Alone.{reports_in}
use Rattle.laws_drivers.specs.control.Between.{Between, client_actions}
use Rattle.laws_drivers.specs.events.Moments.{begun_at}
use Rattle.laws_drivers.proofs.control.Taken.{free_none}
use Rattle.laws_drivers.proofs.world.Running.{all_runs}
use Rattle.laws_drivers.proofs.events.Answers.{midst_by}
use Rattle.laws_drivers.proofs.events.Closing.{begins_quit}
use Rattle.laws_drivers.proofs.events.Concluding.{QuitsNext, quit_are_the_direct_run}
use Rattle.laws_drivers.proofs.events.Resting.{idle_at}
use Rattle.laws_transfers.specs.Actions.{IsCarried}
use Rattle.laws_transfers.proofs.Quitting.{rests_now}
use Rattle.laws_transfers.proofs.Reaching.{shown_itself}
use Rattle.laws_transfers.proofs.Resting.{idles}
use Rattle.laws_active.specs.Claims.{no_faults_either_way}
use Rattle.laws_active.specs.Actions.{ClientTransfersEitherWay, listened_in_turns}
use Rattle.laws_active.specs.Lead.{Even, Joined, Told}
use Rattle.laws_active.specs.Quitting.{EitherThatQuitAreTheDirectRun}
use Rattle.laws_active.specs.Refusals.{Gain, Heard, Led}
use Rattle.laws_active.proofs.Accepting.{awaiting}
use Rattle.laws_active.proofs.Calls.{Opens, listening}
use Rattle.laws_active.proofs.Concluding.{either_are_the_direct_run}
use Rattle.laws_active.proofs.Ending.{drives_go, may_begin}
use Rattle.laws_active.proofs.Gaining.{GainSo, gained_between, gained_client}
use Rattle.laws_active.proofs.Leading.{Comes, Stays, Waits}
use Rattle.laws_active.proofs.Reaching.{reaches}
use Rattle.laws_active.proofs.Simulating.{in_carried}
use Rattle.laws_active.proofs.Trying.{did_try}

-- ---- a client that is not busy is even

listens_busy : (op : Op (List ℕ)) (flow : Flow) (port : ℕ) (n : Near) → is_busy (listening op flow port n) ≡ true
listens_busy op flow port n = refl

waits_busy : (op : Op (List ℕ)) (replied : Replied) (flow : Flow) (port : ℕ) (n : Near) → is_busy (awaiting op replied flow port n) ≡ true
waits_busy op replied flow port n = refl

stays_busy : (v : Near) (octets : List ℕ) → Stays (data_closed v) octets → is_busy v ≡ true
stays_busy v octets (Comes op flow few port octet more is o) =
    ap is_busy (o.fronts [] more octet (sym is)).0 ∙ listens_busy op flow port (data_closed v)
stays_busy v octets (Waits is a) = ap is_busy a.is ∙ waits_busy a.op a.replied a.flow a.port (data_closed v)

hearing_busy : (v : Near) (octets : List ℕ) (op : Op (List ℕ)) (flow : Flow) (port octet : ℕ) (others : List ℕ) → octets ≡ octet ∷ others
    → Opens op flow port (data_closed v) octets → is_busy v ≡ true
hearing_busy v octets op flow port octet others some o =
    ap is_busy (o.fronts [] others octet (sym some)).0 ∙ listens_busy op flow port (data_closed v)

free_even : (gain : Gain) (more : List ℕ) (between : Between) (told : ℕ) (server : Stand server_side) (c : Stand client_side)
    → GainSo gain more between told server c → is_busy c.owner.end.view ≡ false → gain ≡ Led Even
free_even (Led Even) more between told server c so free = refl
free_even (Led (Told port)) more between told server c so free = absurd (true≢false (sym (ap is_busy so.0.view) ∙ free))
free_even (Led (Joined octets)) more between told server c so free =
    absurd (true≢false (sym (stays_busy c.owner.end.view octets so.0.stays.0) ∙ free))
free_even (Heard octets) more between told server c so free =
    let h = so.0 in absurd (true≢false (sym (hearing_busy c.owner.end.view octets h.op h.flow h.port h.octet h.others h.some h.opens) ∙ free))

-- ---- both

-- where each operation has its report and the client is logged in, the server hears QUIT next
quits_next : QuitsNext no_faults_either_way
quits_next read reads b fair moments timed turns between server client did free entered told =
    let n : Near = client.owner.end.view in
    let v : Far = server.owner.end.server.view in
    let tried = did_try b moments turns between server client did in
    let at = reaches read reads moments timed b fair turns between tried.happened tried.ordered tried.server_start server tried.client_start client tried.begins
    tried.untold tried.unwritten tried.server_unwritten tried.client_untold tried.server_led tried.client_led tried.serves tried.asks tried.ports tried.told in
    let o = at.reached in
    let itself : at.shown ≡ client = shown_itself between client at.shown at.shows free in
    let free_there : is_busy at.shown.owner.end.view ≡ false = ap (λ (c : Stand client_side). is_busy c.owner.end.view) itself ∙ free in
    let w = o.world in
    let s = o.together.beside in
    let begun : List Order = begun_at moments (client_actions turns) in
    let runs = all_runs read reads b fair o.leads.events begun w o.leads.timed o.leads.leads in
    let none = ap (λ r. reports_in (client_actions turns) ++ option_to_list r) (free_none n free) ∙ append-nil (reports_in (client_actions turns)) in
    let even : o.gain ≡ Led Even = free_even o.gain o.more at.seen (listened_in_turns turns) server at.shown o.so free_there in
    let same : (gained_client o.gain at.shown).owner.end.view ≡ n =
    ap (λ l. (gained_client l at.shown).owner.end.view) even ∙ ap (λ (c : Stand client_side). c.owner.end.view) itself in
    let here : (gained_between o.gain o.more at.seen).control.to_server ≡ between.control.to_server =
    ap (λ l. (gained_between l o.more at.seen).control.to_server) even ∙ ap (λ q. q.to_server) at.is_seen.control in
    let said = ap (λ m. reports_in (client_actions turns) ++ option_to_list (report_of m)) same in
    let all : length w.reports ≡ length begun = ap length s.reported ∙ ap length said ∙ ap length none ∙ told in
    let standing : w.near.standing ≡ Standings.Entered = ap (λ (u : Near). u.standing) s.near ∙ ap (λ (u : Near). u.standing) same ∙ entered in
    let carried = in_carried moments (client_actions turns) tried.client_start client tried.client_led tried.asks in
    let idle = idles read reads (state_of b) begun carried w s.unready s.cutoff all runs standing in
    begins_quit server between o.serves (ap (λ l. server.unheard ++ l) (sym here) ∙ sym s.to_server ∙ idle.to_server)
    (rests_now o.ahead v s.fits (idle_at o.last w.far _ s.far idle.far))

pub either_that_quit_are_the_direct_run : EitherThatQuitAreTheDirectRun
either_that_quit_are_the_direct_run =
    quit_are_the_direct_run no_faults_either_way (midst_by IsCarried ClientTransfersEitherWay may_begin) drives_go either_are_the_direct_run quits_next
