-- Where each operation has its report and the client is logged in, nothing is on its way; so drives that end by QUIT are the direct run.
use Rattle.std.proofs.Common.{◌≡◌, inl, inr, ℕ, suc, ◌≤◌, Bool, true, false, true≢false, List, [], ◌∷◌, ◌++◌, length, None, is_some, option_to_list, refl, sym, ap, subst, ◌∙◌, append_assoc, append-nil, length-append, arith}
use Rattle.ftp_client_driver.specs.Side.{client_side}
use Rattle.ftp_client_model.specs.Calls.{is_busy}
use Rattle.ftp_client_model.specs.View.{View as Near}
use Rattle.ftp_client_model.specs.declared.client.Standing.{Standing}
use Rattle.ftp_client_model.specs.declared.client.Standing.TheVariants as Standings
use Rattle.ftp_ports.specs.Actions.{Stand}
use Rattle.ftp_direct.specs.Direct.{State}
use Rattle.ftp_ends.specs.Ear.{quiet}
use Rattle.ftp_server_driver.specs.alone.Side.{Timed, server_side}
use Rattle.ftp_server_model.specs.Machine.{Reading, ReadingExists}
use Rattle.ftp_server_model.specs.View.{View as Far}
use Rattle.ftp_tree.specs.Sound.{last_second}
use Rattle.ftp_tree.specs.Tree.{Table}
use Rattle.laws_agreement.specs.Cut.{Cut, world_at}
use Rattle.laws_agreement.specs.Follows.{IsFree, Phase}
use Rattle.laws_agreement.specs.Over.{OverRuns}
use Rattle.laws_agreement.proofs.Beginning.{begins_follow}
use Rattle.laws_agreement.proofs.OverRunning.{over_lead}
use Rattle.laws_agreement.proofs.Still.{rest_world, seen}
use Rattle.laws_dialogues.specs.Login.{Answers, AsksPass, AsksUser, AtFree, Greets, LoginPlace, WantsPass, standing_in_login}
use Rattle.laws_dialogues.specs.Stage.{Answering, Asking, Way, rest}
use Rattle.laws_world.specs.Agreement.{AreSingle, Order, Single, Tries}
use Rattle.laws_world.specs.Claims.{AgreesAlways, Beginning, IsFair, state_of, world_of}
use Rattle.laws_world.specs.World.{ClosedByNear, Gone, Link, World}
use Rattle.laws_drivers.specs.control.Alone.{ClientAttends, ClientIsCalm, IsAskingAlone, IsServingAlone, ServerAttends, ServerIsCalm, begun_in, reports_in}
use Rattle.laws_drivers.specs.control.Between.{Between, Turn, client_actions, server_actions}
use Rattle.laws_drivers.specs.control.Claims.{Did}
use Rattle.laws_drivers.specs.control.Over.{IsAnswerAlone, orders_at_moment}
use Rattle.laws_drivers.specs.events.Answers.{answers_of}
use Rattle.laws_drivers.specs.control.Quitting.{DrivesThatQuitAreTheDirectRun, quit_octets, quitting}
use Rattle.laws_drivers.proofs.control.Concluding.{drives_are_the_direct_run_by}
use Rattle.laws_drivers.proofs.control.Ending.{Goes, answers_are, answers_go, orders_are}
use Rattle.laws_drivers.proofs.events.Answers.{answered_free, as_many, direct_same}
use Rattle.laws_drivers.proofs.events.Moments.{in_single}
use Rattle.laws_drivers.proofs.control.Moments.{still_is}
use Rattle.laws_drivers.proofs.control.Quitting.{Quits, at_quit, not_busy}
use Rattle.laws_drivers.proofs.control.Simulating.{drives_are_of_worlds, ends_so}
use Rattle.laws_drivers.proofs.control.Taken.{free_none, reports_is}

-- ---- no operation is under way

-- one order more is one more
one_more : (orders : List Order) (order : Order) → length (orders ++ order ∷ []) ≡ suc (length orders)
one_more orders order = omega (arith, length-append orders (order ∷ []))

-- orders that all have their reports are not some and one more
pub not_more : (count : ℕ) (begun orders : List Order) (order : Order) → begun ≡ orders ++ order ∷ [] → count ≡ length orders → count ≡ length begun → ⊥
not_more count begun orders order is few all =
    let more : length begun ≡ suc (length orders) = ap length is ∙ one_more orders order in omega (arith, few, all, more)

-- nor is an upload over breaks the last of them
not_tries : (orders : List Order) (order : Order) → AreSingle (orders ++ order ∷ []) → AreSingle (order ∷ [])
not_tries [] order single = single
not_tries (Single op moment ∷ orders) order single = not_tries orders order single
not_tries (Tries upload moment ∷ orders) order single = absurd single

-- the link of a world at a way is that of its base
link_at : (way : Way) (b : World) (c : Cut) → (world_at b way c).link ≡ b.link
link_at (Asking text) b c = refl
link_at (Answering rows) b c = refl

-- no link stands
is_none : Link → Bool
is_none Gone = true
is_none link = false

-- where all that was begun is reported, and no link stands, no operation is under way
free_by : (read : Reading) (from : State) (begun : List Order) (w : World) → AreSingle begun → w.link ≡ Gone → w.cutoff ≡ None
    → length w.reports ≡ length begun → OverRuns read from begun w → IsFree from begun w
unfolding is_none
free_by read from begun w single link stands all (inl (inl h)) = by h.phase
  where
    by : Phase read from begun w → IsFree from begun w
    by (inl (l, inl f)) = f
    by (inl (l, inr u)) = absurd (not_more (length w.reports) begun u.done (Single u.op u.moment) u.begun_is u.told.all all)
    by (inr l) = absurd (true≢false (sym (ap is_some l.cut_is) ∙ ap is_some stands))
free_by read from begun w single link stands all (inl (inr (inl on))) =
    let f = on.fetching in absurd (not_more (length w.reports) begun f.done (Single f.ask.op f.moment) f.begun_is f.told.all all)
free_by read from begun w single link stands all (inl (inr (inr (inl t)))) =
    let s = t.stands in
    let is : w.link ≡ ClosedByNear = ap (λ (u : World). u.link) s.is ∙ link_at s.way s.base s.cut ∙ s.here.link in
    absurd (true≢false (ap is_none (sym link ∙ is)))
free_by read from begun w single link stands all (inl (inr (inr (inr on)))) =
    let f = on.halting in absurd (not_more (length w.reports) begun f.done (Single f.ask.op f.moment) f.begun_is f.told.all all)
free_by read from begun w single link stands all (inr (inl t)) =
    let g = t.going in absurd (not_tries g.done (Tries g.upload g.moment) (subst AreSingle g.begun_is single))
free_by read from begun w single link stands all (inr (inr t)) =
    let g = t.going in absurd (not_tries g.done (Tries g.upload g.moment) (subst AreSingle g.begun_is single))

-- ---- nothing is on its way

-- a client that is logged in
unfoldable pub is_entered : Standing → Bool
is_entered Standings.Entered = true
is_entered standing = false

-- is not in the midst of the login
pub not_logging : (place : LoginPlace) → is_entered (standing_in_login place) ≡ false
unfolding is_entered
not_logging Greets = refl
not_logging AsksUser = refl
not_logging WantsPass = refl
not_logging AsksPass = refl
not_logging (Answers admitted true) = refl
not_logging (Answers admitted false) = refl

-- no octet is on its way to the server, which is between two lines and owes none
record IsIdle (w : World) : Type 0 where
  pub to_server : w.control_to_server ≡ []
  pub ear : w.far.ear ≡ quiet
  pub owed : w.far.owed ≡ []

-- so it is of a world without an operation under way, once the client is logged in
free_idle : (from : State) (begun : List Order) (w : World) → IsFree from begun w → w.near.standing ≡ Standings.Entered → IsIdle w
unfolding is_entered
free_idle from begun w f entered = by f.stands.here
  where
    at_rest : f.stands.way ≡ rest → IsIdle w
    at_rest way =
        let is = rest_world (AtFree f.now) w f.stands way in
        record {
          to_server = ap (λ (u : World). u.control_to_server) is;
          ear = ap (λ (u : World). u.far.ear) is;
          owed = ap (λ (u : World). u.far.owed) is;
        }

    by : AtFree f.now f.stands.way f.stands.base.near f.stands.base.far → IsIdle w
    by (inl (logging, idle)) =
        let standing = sym entered ∙ (seen (AtFree f.now) w f.stands).standing ∙ logging.logs.standing in
        absurd (true≢false (ap is_entered standing ∙ not_logging logging.place))
    by (inr (way, resting, stands)) = at_rest way

-- ---- drives that end by QUIT

-- the map of a server that heard QUIT
pub quits_table : (table : Table) (stand : Stand server_side) (between : Between) → Quits table stand between
    → stand.owner.end.server.view.session.table ≡ table
quits_table table stand between (inl h) = ap (λ (v : Far). v.session.table) h.view ∙ h.at.map
quits_table table stand between (inr h) = h.map

-- a server beside whose connection nothing is on its way hears QUIT next
begins_quit : (stand : Stand server_side) (between : Between) → ServerAttends stand.owner → stand.unheard ++ between.control.to_server ≡ []
    → stand.owner.end.server.view.ear ≡ quiet → stand.owner.end.server.view.owed ≡ []
    → Quits stand.owner.end.server.view.session.table stand (quitting between)
begins_quit stand between attends none ear owed = inl (record {
  line = stand.owner.end.server.view;
  at = record {
    ear = ear;
    waiting = attends.none_waits;
    owed = owed;
    idle = not_busy stand.owner.end.server.view.session.connection (still_is stand.owner.end.server.view attends.wants).wants;
    map = refl;
  };
  front = [];
  octet = 81;
  back = 85 ∷ 73 ∷ 84 ∷ 13 ∷ 10 ∷ [];
  whole = refl;
  coming = sym (append_assoc stand.unheard between.control.to_server quit_octets) ∙ ap (λ l. l ++ quit_octets) none;
  view = record_same stand.owner.end.server.view ear;
})
  where
    record_same : (v : Far) → v.ear ≡ quiet → v ≡ record v { ear = quiet }
    record_same v e = ap (λ s. record v { ear = s }) e

-- so it is of two drives where each operation has its report and the client is logged in
quits_next : (reading : ReadingExists) (b : Beginning) → IsFair b → (moment : ℕ) → moment ≤ last_second
    → (turns : List Turn) (between : Between) (server : Stand server_side) (client : Stand client_side)
    → Did b turns between server client → is_busy client.owner.end.view ≡ false → client.owner.end.view.standing ≡ Standings.Entered
    → length (reports_in (client_actions turns)) ≡ length (begun_in moment (client_actions turns))
    → Quits server.owner.end.server.view.session.table server (quitting between)
quits_next reading b fair moment timed turns between server client did free entered told =
    let v = client.owner.end.view in
    let o = drives_are_of_worlds reading.0 reading.1 b moment timed turns between server client did in
    let w = o.world in
    let alike = o.alike in
    let begun : List Order = begun_in moment (client_actions turns) in
    let runs = over_lead reading.0 reading.1 (state_of b) [] o.events begun (world_of b) w o.timed (inl (inl (begins_follow reading.0 b fair))) o.leads in
    let none = ap (λ r. reports_in (client_actions turns) ++ option_to_list r) (free_none v free) ∙ append-nil (reports_in (client_actions turns)) in
    let all : length w.reports ≡ length begun = ap length alike.reported ∙ ap length none ∙ told in
    let f = free_by reading.0 (state_of b) begun w (in_single (λ n. moment) (client_actions turns)) alike.link alike.cutoff all runs in
    let standing : w.near.standing ≡ Standings.Entered = ap (λ (n : Near). n.standing) (alike.near ∙ reports_is v) ∙ entered in
    let idle = free_idle (state_of b) begun w f standing in
    begins_quit server between (ends_so IsServingAlone ServerIsCalm ServerAttends (server_actions turns) did.server_start server did.server_led did.serves)
    (sym alike.to_server ∙ idle.to_server) (sym (ap (λ (n : Far). n.ear) alike.far) ∙ idle.ear) (sym (ap (λ (n : Far). n.owed) alike.far) ∙ idle.owed)

-- what both did before QUIT was written is the direct run, and after it the map stays
pub drives_that_quit_are_the_direct_run_by : AgreesAlways → ReadingExists → DrivesThatQuitAreTheDirectRun
drives_that_quit_are_the_direct_run_by always reading b fair moment timed asked server over =
    let read = reading.0 in
    let reads = reading.1 in
    let drove = over.drove.did in
    let off = drove.sums.led.0 in
    let q = at_quit read reads over.count drove.actions over.server_start off drove.sums.led.1 over.served (quitting over.between) over.last
    over.happened_last in
    let far = subst (λ d. Goes IsServingAlone ServerIsCalm ServerAttends d over.server_start q.mid) (sym over.server_is) (q.led, q.serves) in
    let near = subst (λ d. Goes IsAskingAlone ClientIsCalm ClientAttends d over.client_start over.client) (sym over.client_is)
    (answers_go asked over.client_start over.client over.answered) in
    let did : Did b over.turns over.between q.mid over.client = record {
      server_start = over.server_start;
      client_start = over.client_start;
      begins = over.begins;
      happened = over.happened;
      server_led = far.0;
      client_led = near.0;
      serves = far.1;
      asks = near.1;
    } in
    let orders : begun_in moment (client_actions over.turns) ≡ orders_at_moment moment asked =
    ap (begun_in moment) over.client_is ∙ orders_are moment asked over.client_start over.client over.answered in
    let answers : reports_in (client_actions over.turns) ≡ answers_of asked =
    ap reports_in over.client_is ∙ answers_are asked over.client_start over.client over.answered in
    let told = ap length answers ∙ as_many (λ n. moment) asked ∙ ap length (sym orders) in
    let free = answered_free IsAnswerAlone b over.server_start asked over.client_start over.client over.begins over.answered.1 in
    let direct = drives_are_the_direct_run_by always reading b fair moment timed over.turns over.between q.mid over.client did free told in
    let quits = q.quits q.mid.owner.end.server.view.session.table
    (quits_next reading b fair moment timed over.turns over.between q.mid over.client did free over.entered told) in
    let table : server.owner.end.server.view.session.table ≡ q.mid.owner.end.server.view.session.table =
    ap (λ (at : Timed). at.server.view.session.table) drove.sums.led.2.0.0 ∙ quits_table _ off over.last quits in
    direct_same (state_of b) (begun_in moment (client_actions over.turns)) (orders_at_moment moment asked) (reports_in (client_actions over.turns)) (answers_of asked)
    q.mid.owner.end.server.view.session.table server.owner.end.server.view.session.table orders answers (sym table) direct
