-- Two drives of which data connections break did what a list of a world's events leads to.
use Rattle.std.proofs.Common.{◌≡◌, ◌⊎◌, inl, inr, ℕ, List, [], ◌++◌, option_to_list, refl, sym, ap, ap₂, subst, ◌∙◌}
use Rattle.ftp_ports.specs.Actions.{Action, Stand}
use Rattle.ftp_client_driver.specs.Side.{client_side}
use Rattle.ftp_client_model.specs.Calls.{data_closed, data_fault, report_of, reports}
use Rattle.ftp_client_model.specs.View.{View as Near}
use Rattle.ftp_server_driver.specs.alone.Side.{server_side}
use Rattle.ftp_server_model.specs.Calls.{break_step, clock_step}
use Rattle.ftp_server_model.specs.View.{View as Far}
use Rattle.laws_world.specs.Claims.{world_of}
use Rattle.laws_world.specs.World.{Broken, Mark, marked_last}
use Rattle.laws_drivers.specs.control.Between.{Between, server_actions}
use Rattle.laws_drivers.proofs.control.Taken.{reports_is, taken}
use Rattle.laws_drivers.proofs.control.Worlds.{LeadsOn}
use Rattle.laws_drivers.specs.events.Actions.{listened_in}
use Rattle.laws_drivers.specs.events.Moments.{begun_at}
use Rattle.laws_drivers.proofs.events.Plain.{Whatever}
use Rattle.laws_breaks.specs.downloads.Claims.{ReportAlike}
use Rattle.laws_breaks.proofs.downloads.BothBroken.{broke, broke_step}
use Rattle.laws_breaks.proofs.downloads.Drained.{dried}
use Rattle.laws_breaks.proofs.downloads.Lagging.{OfMarks, beside, unbroken}
use Rattle.laws_breaks.proofs.downloads.Preceding.{Precedes, behind, gives_now, steady_here, steady_now, unaware}
use Rattle.laws_breaks.proofs.downloads.Simulating as breaking
use Rattle.laws_breaks.proofs.downloads.Steps.{At}
use Rattle.laws_breaks.proofs.downloads.Unaware.{steady_alike}
use Rattle.laws_breaks.proofs.downloads.Unsent.{AskAll, all_carried}
use Rattle.laws_breaks.proofs.downloads.Untold.{fault_told, told_alike}
use Rattle.laws_breaks.specs.uploads.Claims.{CutIsOfWorld, CutsAreOfWorlds, IsBeside}
use Rattle.laws_breaks.specs.uploads.Actions.{AreMarks}
use Rattle.laws_breaks.proofs.uploads.Leaving.{gone, lost}
use Rattle.laws_breaks.proofs.uploads.Lifting.{closes_alike, gives_fault, lifts_alike, lifts_none, lifts_taken, was_none, was_taken}
use Rattle.laws_breaks.proofs.uploads.Marking.{marking, same_begun, same_reports}
use Rattle.laws_breaks.proofs.uploads.Outliving.{Outlives, come_now}
use Rattle.laws_breaks.proofs.uploads.TakerTold.{told_world}
use Rattle.laws_breaks.proofs.uploads.ToldLast.{left_so, lost_plain, lost_remains, lost_sound, taker_alike}
use Rattle.laws_breaks.proofs.uploads.UpLagging.{UpLags}
use Rattle.laws_breaks.proofs.uploads.Simulating.{Cut, asked, reaches}

-- events of a world lead to what both drives hold, or held before one of them was told
pub cuts_are_of_worlds : CutsAreOfWorlds
cuts_are_of_worlds read reads b fair moments timed turns between server client did =
    let stood = reaches read reads moments timed b fair turns between did.happened did.server_start server did.client_start client did.begins did.untold
    did.unwritten did.server_unwritten did.client_untold did.server_led did.client_led did.serves did.asks did.ports did.told did.ordered in
    by stood.view stood.cut
  where
    actions : List (Action client_side)
    actions = marking turns did.server_start server did.server_led

    -- and these are marks of them
    Are : OfMarks
    Are = AreMarks turns did.server_start server did.server_led did.client_start client did.client_led

    count : ℕ
    count = listened_in (server_actions turns)

    -- what was begun asks for all
    puts : AskAll (begun_at moments actions)
    puts = asked read reads moments timed b fair turns did.server_start server did.server_led did.client_start client did.client_led did.asks

    of_world : (were : Stand server_side) (was held : Stand client_side) (m : Between)
        → IsBeside server were client was
        → ReportAlike client.owner.end.view was.owner.end.view → server.owner.end.server.view.session.table ≡ were.owner.end.server.view.session.table
        → (o : At read reads moments timed b fair actions m count were held) (marks : List (List Mark)) → Are marks
        → o.world.marks ≡ marks → data_closed (taken held.owner.end.view) ≡ data_closed (taken was.owner.end.view)
        → report_of held.owner.end.view ≡ report_of was.owner.end.view → CutIsOfWorld read b moments turns between server client did
    of_world were was held m is alike table o marks are marked near report =
        let s = o.together.beside in
        let leads = subst (λ l. LeadsOn read l (world_of b) o.world) (same_begun moments turns did.server_start server did.server_led) o.leads in
        let near_is : o.world.near ≡ data_closed (reports was.owner.end.view) =
        s.near ∙ near ∙ ap data_closed (sym (reports_is was.owner.end.view)) in
        record {
          events = leads.events;
          timed = leads.timed;
          world = o.world;
          leads = leads.leads;
          marks = marks;
          are_marks = are;
          were = were;
          was = was;
          is = is;
          alike = alike;
          table = table;
          both = record {
            moment = o.last;
            ahead = o.ahead;
            fits = s.fits;
            near = inl near_is;
            far = s.far;
            reported = s.reported ∙ ap₂ (λ r a. r ++ option_to_list a) (same_reports turns did.server_start server did.server_led) report;
            control = s.control;
            marked = marked;
            cutoff = s.cutoff;
          };
          near = near_is;
        }

    by_lag : (m : Between) → UpLags read reads moments timed b fair Are actions m count (dried server) client
        → CutIsOfWorld read b moments turns between server client did
    by_lag m l =
        let n : Near = l.was.end.view in
        let u : Near = client.owner.end.view in
        elim l.lifts.kind [
          | inl gives ↦
              of_world (dried server) (beside l.was client) (beside l.was client) (unbroken m) (inr (inl (refl, sym (gives_fault n u l.lifts gives))))
              (lifts_alike n u l.lifts) refl l.at l.marks l.are_marks l.marked refl refl
          | inr closes ↦
              of_world (dried server) client (beside l.was client) (unbroken m) (inl (refl, refl)) (refl, refl) refl l.at l.marks l.are_marks l.marked
              (ap data_closed (was_taken n u l.lifts) ∙ closes_alike n u l.lifts closes ∙ ap data_closed (sym (lifts_taken n u l.lifts)))
              (was_none n u l.lifts ∙ sym (lifts_none n u l.lifts))
        ]

    -- the server was told first
    first : (m : Between) → Precedes read reads moments timed b fair Are actions m count server client
        → CutIsOfWorld read b moments turns between server client did
    first m p =
        let were : Far = p.were.owner.end.server.view in
        let broken : break_step (clock_step p.moment were) ≡ clock_step p.moment (broke were) = broke_step p.were p.at.serves p.sends p.moment in
        let loads = (gives_now read reads moments timed b fair actions (all_carried (begun_at moments actions) puts) m count server client p).loads in
        let front = heard_front p.queue p.said p.heard (client.unheard ++ m.control.to_client) p.split p.late in
        let was : Stand client_side = unaware p.refusals p.near p.queue client.owner.channel in
        of_world p.were was was (behind m)
        (inr (inr (inl (record {
          moment = p.moment;
          said = p.said;
          left = p.left;
          far = p.far_is ∙ ap (λ (f : Far). record f { owed = p.left }) (sym broken);
          whole = ap (λ (f : Far). f.owed) broken ∙ p.whole;
          heard = p.heard;
          more = front.0;
          front = front.1;
          near = p.view;
        }))))
        (steady_alike loads.op loads.decoder loads.mark client.owner.end.view p.near
        (steady_now read reads moments timed b fair actions (all_carried (begun_at moments actions) puts) m count server client p)
        (steady_here read reads moments timed b fair actions (all_carried (begun_at moments actions) puts) m count server client p))
        (ap (λ (f : Far). f.session.table) p.far_is) p.at p.marks p.are_marks p.marked refl refl
      where
        heard_front : (queue said heard rest : List ℕ) → queue ++ said ≡ heard ++ rest → (heard ≡ []) ⊎ (queue ≡ [])
            → (more : List ℕ) × (said ≡ heard ++ more)
        heard_front queue said heard rest split (inl none) = (said, ap (λ o. o ++ said) (sym none))
        heard_front queue said heard rest split (inr empty) = (rest, ap (λ o. o ++ said) (sym empty) ∙ split)

    -- so was one that took octets
    taker : (m : Between) → Outlives read reads moments timed b fair Are actions m count server client
        → CutIsOfWorld read b moments turns between server client did
    taker m l =
        let before = server_actions turns in
        let was : Stand client_side = left_so read reads moments timed b fair actions puts before did.ports m server client l in
        let told = told_world read reads moments timed b fair actions puts before did.ports m server l.taker l.refusals l.near l.queue client.owner.channel l.at
        (data_fault l.near) (lost_remains read reads moments timed b fair actions puts before did.ports m server client l)
        (lost_sound read reads moments timed b fair actions puts before did.ports m server client l)
        (lost_plain read reads moments timed b fair actions puts before did.ports m server client l Whatever l.at.plain) in
        let came : ℕ = l.at.world.came in
        of_world (dried server) was was _ (inr (inr (inr (record { same = refl; before = l.near; told = refl; heard = l.heard; near = l.view }))))
        (taker_alike read reads moments timed b fair actions puts before did.ports m server client l) refl told.0 (marked_last (Broken came) l.marks)
        (l.are_broken came (come_now read reads moments timed b fair actions puts m count server client l))
        (told.1 ∙ ap (marked_last (Broken came)) l.marked) refl refl

    by_suffered : (m : Between) → breaking.Suffered read reads moments timed b fair Are actions m count server client
        → CutIsOfWorld read b moments turns between server client did
    by_suffered m (inl (inl o)) =
        of_world (dried server) client client m (inl (refl, refl)) (refl, refl) refl o.at o.marks o.are_marks o.marked refl refl
    by_suffered m (inl (inr l)) =
        of_world (dried server) (beside l.was client) (beside l.was client) (unbroken m)
        (inr (inl (refl, l.view ∙ sym (fault_told l.was.end.view l.loads))))
        (subst (λ (v : Near). ReportAlike v l.was.end.view) (sym l.view) (told_alike l.was.end.view l.loads)) refl l.at l.marks l.are_marks l.marked refl refl
    by_suffered m (inr p) = first m p

    by : (m : Between) → Cut read reads moments timed b fair Are actions m count server client → CutIsOfWorld read b moments turns between server client did
    by m (inl o) = by_suffered o.middle o.suffered
    by m (inr (inl l)) = by_lag m l
    by m (inr (inr (inr l))) = taker m l
    by m (inr (inr (inl l))) =
        let w = l.whole in
        of_world (dried server) client (gone client) (lost m) (inl (refl, refl)) (refl, refl) refl w.at w.marks w.are_marks w.marked refl refl
