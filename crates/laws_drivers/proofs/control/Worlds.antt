-- What a world does whose ends want nothing: it serves neither, and each delivery over the control connection is as it says.
use Rattle.std.proofs.Common.{◌≡◌, ℕ, suc, ◌==◌, ◌<◌, ◌≤◌, Bool, true, false, not, ◌&&◌, ◌||◌, nat_lt, IsTrue, List, [], ◌∷◌, ◌++◌, length, take, drop, None, option_to_list, refl, sym, ap, ap₂, subst, ◌∙◌, append_assoc, append-nil, arith, length-append, suc-ne-zero}
use Rattle.std.specs.Prelude.{if◌then◌else◌}
use Rattle.std.proofs.lemmas.Bool.{and_right, le-ltb, ne_eqb, or_right}
use Rattle.ftp_client_model.specs.Calls as near
use Rattle.ftp_client_model.specs.declared.client.ClientLink.{ClientLink}
use Rattle.ftp_client_model.specs.declared.client.ClientLink.TheVariants as Data
use Rattle.ftp_client_model.specs.View.{Job, Told, View as Near}
use Rattle.ftp_ends.specs.Octets.{has_octets}
use Rattle.ftp_ends.specs.Link.{is_wanted}
use Rattle.ftp_ends.specs.declared.link.Wants.TheVariants as Want
use Rattle.ftp_operation.specs.declared.op.Op.{Op}
use Rattle.ftp_server_model.specs.Calls as far
use Rattle.ftp_server_model.specs.Calls.{clock_step, control_step, wants_of}
use Rattle.ftp_server_model.specs.Machine as machine
use Rattle.ftp_server_model.specs.Machine.{Reading, waited}
use Rattle.ftp_server_model.specs.View.{View as Far}
use Rattle.ftp_server_model.specs.declared.session.Life.TheVariants as Lives
use Rattle.ftp_tree.specs.Sound.{last_second}
use Rattle.laws_world.specs.Agreement.{Leads, Order, Single, begun_by_event}
use Rattle.laws_world.specs.Claims.{AreTimed, IsTimed}
use Rattle.laws_world.specs.Events.{ControlToClient, ControlToServer, Deliver, Delivers, DeliversBy, Event, Gives, Happens, Moves, Next, Takes, can_begin, can_happen, can_move, can_take, is_asked_for, is_gone, lends_none, operation_begins, pulled, pushed, taking}
use Rattle.laws_world.specs.Serving.{after_event, collected, collected_by, far_served, far_served_by, near_served, near_served_by, served}
use Rattle.laws_world.specs.World.{Gone, World}
use Rattle.laws_drivers.proofs.control.Moments.{IsStill}
use Rattle.laws_drivers.proofs.control.Taken.{idle_of, taken}

-- ---- what is done after an event

-- a world both of whose ends want nothing stays as it is
served_is : (w : World) → near.wants w.near ≡ Want.Nothing → far.wants w.far ≡ Want.Nothing → served w ≡ w
served_is w none none_too =
    let n : near_served w ≡ w = ap (λ q. near_served_by q w) none in
    let f : far_served w ≡ w = ap (λ q. far_served_by q w) none_too in
    ap (λ u. far_served (far_served (far_served (near_served (near_served u))))) n ∙ ap (λ u. far_served (far_served (far_served (near_served u)))) n
    ∙ ap (λ u. far_served (far_served (far_served u))) n ∙ ap (λ u. far_served (far_served u)) f ∙ ap far_served f ∙ f

-- but for its report, which is taken
pub collected_is : (w : World) → collected w ≡ record w { near = taken w.near; reports = w.reports ++ option_to_list (near.report_of w.near) }
collected_is w = by_job w.near.job
  where
    with_job : Job → World
    with_job job = record w { near = record w.near { job = job } }

    by_job : (job : Job) → collected (with_job job)
        ≡ record w { near = record w.near { job = idle_of job }; reports = w.reports ++ option_to_list (near.report_of (with_job job).near) }
    by_job (Told answer) = refl
    by_job job = ap (λ r. record (with_job job) { reports = r }) (sym (append-nil w.reports))

-- so a world is after an event, where its ends want nothing
pub after_is : (w : World) → near.wants w.near ≡ Want.Nothing → far.wants w.far ≡ Want.Nothing
    → after_event w ≡ record w { near = taken w.near; reports = w.reports ++ option_to_list (near.report_of w.near) }
after_is w none none_too = ap collected (served_is w none none_too) ∙ collected_is w

-- without a report it is as it was
after_same : (w : World) → near.wants w.near ≡ Want.Nothing → far.wants w.far ≡ Want.Nothing → near.report_of w.near ≡ None → after_event w ≡ w
after_same w client server none = ap collected (served_is w client server) ∙ ap (λ r. collected_by r w) none

-- ---- what a server and a client want

-- a server whose data connection is still, and that runs, wants nothing
pub wants_none : (v : Far) → IsStill v → v.session.life ≡ Lives.Running → far.wants v ≡ Want.Nothing
wants_none v still running =
    let done = far.is_done v.session.life v.owed in
    ap (λ c. if c then Want.CloseData else (if done then Want.CloseAll else wants_of v.session.connection)) still.closing
    ∙ ap (λ l. if far.is_done l v.owed then Want.CloseAll else wants_of v.session.connection) running ∙ still.wants

-- what a client owes is of no matter
pub wants_owed : (owed : List ℕ) (v : Near) → near.wants (record v { owed = owed }) ≡ near.wants v
unfolding near.wants
wants_owed owed v = by v.connection
  where
    by : (connection : ClientLink) → near.wants (record v { owed = owed; connection = connection }) ≡ near.wants (record v { connection = connection })
    by Data.Open = refl
    by connection = refl

-- both ends are at rest but for octets
pub record Ready (w : World) : Type 0 where
  pub near_wants : near.wants w.near ≡ Want.Nothing
  pub none : near.report_of w.near ≡ None
  pub still : IsStill w.far
  pub running : w.far.session.life ≡ Lives.Running
  pub none_waits : w.far.waiting ≡ None

-- ---- events lead on

-- such events lead from one world to another, and began this
pub record LeadsOn (read : Reading) (begun : List Order) (old new : World) : Type 0 where
  pub events : List Event
  pub timed : AreTimed events
  pub leads : Leads read old events begun new

-- none lead nowhere
pub leads_none : (read : Reading) (w : World) → LeadsOn read [] w w
leads_none read w = record { events = []; timed = tt; leads = (refl, refl) }

-- events after events
append_leads : (read : Reading) (front given : List Event) (begun more : List Order) (old mid new : World) → Leads read old front begun mid
    → Leads read mid given more new
    → Leads read old (front ++ given) (begun ++ more) new
append_leads read [] given begun more old mid new leads rest =
    subst (λ b. Leads read old given (b ++ more) new) (sym leads.0) (subst (λ w. Leads read w given more new) leads.1 rest)
append_leads read (event ∷ front) given begun more old mid new leads rest = (
  leads.0,
  leads.1,
  leads.2 ++ more,
  leads.3,
  ap (λ b. b ++ more) leads.4 ∙ append_assoc (begun_by_event event leads.0) leads.2 more,
  append_leads read front given leads.2 more leads.1 mid new leads.5 rest,
)

-- each of them is timed
append_timed : (front given : List Event) → AreTimed front → AreTimed given → AreTimed (front ++ given)
append_timed [] given one other = other
append_timed (event ∷ front) given one other = (one.0, append_timed front given one.1 other)

-- so lead one after another
pub leads_then : (read : Reading) (begun more : List Order) (old mid new : World) → LeadsOn read begun old mid → LeadsOn read more mid new
    → LeadsOn read (begun ++ more) old new
leads_then read begun more old mid new first second = record {
  events = first.events ++ second.events;
  timed = append_timed first.events second.events first.timed second.timed;
  leads = append_leads read first.events second.events begun more old mid new first.leads second.leads;
}

-- one event that happens
pub one_leads : (read : Reading) (event : Event) (old new : World) → IsTimed event → Happens read event old true new
    → LeadsOn read (begun_by_event event true) old new
one_leads read event old new timed happens = record {
  events = event ∷ [];
  timed = (timed, tt);
  leads = (true, new, [], happens, sym (append-nil (begun_by_event event true)), (refl, refl));
}

-- ---- octets that are said, one by one

-- one may be given of those that are due
one_given : (octet : ℕ) (octets due : List ℕ) → due ≡ octet ∷ octets → Gives 4096 due 1
one_given octet octets due is = subst (λ d. Gives 4096 d 1) (sym is) (record {
  within = omega arith;
  some = λ room has. omega arith;
})

-- then octets can be moved
can_say : (count : ℕ) (octet : ℕ) (octets due : List ℕ) → due ≡ octet ∷ octets → (taking : Bool)
    → IsTrue ((has_octets due && ((0 == 0) || nat_lt count 0)) || taking)
can_say count octet octets due is taking = ap (λ d. (has_octets d && ((0 == 0) || nat_lt count 0)) || taking) is

-- what is lent after octets that were said: none, where there were any
abbrev pub lent_behind : (said lent : List ℕ) → List ℕ
lent_behind [] lent = lent
lent_behind (octet ∷ octets) lent = []

-- after none was lent, none is
lent_none : (said : List ℕ) → lent_behind said [] ≡ []
lent_none [] = refl
lent_none (octet ∷ octets) = refl

module _ (read : Reading) where
  -- what is left, after octets that the server said
  abbrev pub far_saying : (octets rest : List ℕ) → World → World
  far_saying octets rest w =
      record w { far = record w.far { owed = rest }; control_to_client = w.control_to_client ++ octets; taken = lent_behind octets w.taken }

  -- the server says an octet
  far_says_one : (octet : ℕ) (rest : List ℕ) (w : World) → Ready w → w.far.owed ≡ octet ∷ rest → LeadsOn read [] w (far_saying (octet ∷ []) rest w)
  unfolding far.gives_control
  far_says_one octet rest w ready owed =
      let new : World = far_saying (octet ∷ []) rest w in
      let still : IsStill new.far = record { still = ready.still.still; wants = ready.still.wants; closing = ready.still.closing } in
      let pulls : pulled ControlToClient (lends_none w) 1 ≡ new =
      ap₂ (λ waits o. record w {
        control_to_client = w.control_to_client ++ take 1 o;
        far = waited waits
            (record w.far { owed = drop 1 o });
        taken = [];
      }) ready.none_waits owed in
      let moves : Moves ControlToClient (lends_none w) new = record {
        gave = 1;
        gives = one_given octet rest w.far.owed owed;
        is = sym (ap after_event pulls ∙ after_same new ready.near_wants (wants_none new.far still ready.running) ready.none);
      } in
      one_leads read (Deliver ControlToClient 0) w new tt (
        can_say (length w.control_to_client) octet rest w.far.owed owed
            (can_take ControlToClient 0 w),
        moves,
      )

  -- and all of them
  pub far_says : (octets rest : List ℕ) (w : World) → Ready w → w.far.owed ≡ octets ++ rest → LeadsOn read [] w (far_saying octets rest w)
  far_says [] rest w ready owed =
      subst (λ u. LeadsOn read [] w u) (ap₂ (λ o q. record w { far = record w.far { owed = o }; control_to_client = q }) owed (sym
      (append-nil w.control_to_client))) (leads_none read w)
  far_says (octet ∷ octets) rest w ready owed =
      let mid : World = far_saying (octet ∷ []) (octets ++ rest) w in
      let at : Ready mid = record {
        near_wants = ready.near_wants;
        none = ready.none;
        still = record { still = ready.still.still; wants = ready.still.wants; closing = ready.still.closing };
        running = ready.running;
        none_waits = ready.none_waits;
      } in
      let on = far_says octets rest mid at refl in
      let is : far_saying octets rest mid ≡ far_saying (octet ∷ octets) rest w =
      ap₂ (λ q l. record mid { far = record mid.far { owed = rest }; control_to_client = q; taken = l }) (append_assoc w.control_to_client
      (octet ∷ []) octets) (lent_none octets) in
      subst (λ u. LeadsOn read [] w u) is (leads_then read [] [] w mid (far_saying octets rest mid) (far_says_one octet (octets ++ rest) w ready owed) on)

  -- what is left, after octets that the client said
  abbrev pub near_saying : (octets rest : List ℕ) → World → World
  near_saying octets rest w =
      record w { near = record w.near { owed = rest }; control_to_server = w.control_to_server ++ octets; taken = lent_behind octets w.taken }

  -- the client says an octet
  near_says_one : (octet : ℕ) (rest : List ℕ) (w : World) → Ready w → w.near.owed ≡ octet ∷ rest → LeadsOn read [] w (near_saying (octet ∷ []) rest w)
  near_says_one octet rest w ready owed =
      let new : World = near_saying (octet ∷ []) rest w in
      let pulls : pulled ControlToServer (lends_none w) 1 ≡ new =
      ap (λ o. record w { control_to_server = w.control_to_server ++ take 1 o; near = record w.near { owed = drop 1 o }; taken = [] }) owed in
      let moves : Moves ControlToServer (lends_none w) new = record {
        gave = 1;
        gives = one_given octet rest w.near.owed owed;
        is = sym (ap after_event pulls ∙ after_same new (wants_owed rest w.near ∙ ready.near_wants) (wants_none w.far ready.still ready.running) ready.none);
      } in
      one_leads read (Deliver ControlToServer 0) w new tt (
        can_say (length w.control_to_server) octet rest w.near.owed owed
            (can_take ControlToServer 0 w),
        moves,
      )

  -- and all of them
  pub near_says : (octets rest : List ℕ) (w : World) → Ready w → w.near.owed ≡ octets ++ rest → LeadsOn read [] w (near_saying octets rest w)
  near_says [] rest w ready owed =
      subst (λ u. LeadsOn read [] w u) (ap₂ (λ o q. record w { near = record w.near { owed = o }; control_to_server = q }) owed (sym
      (append-nil w.control_to_server))) (leads_none read w)
  near_says (octet ∷ octets) rest w ready owed =
      let mid : World = near_saying (octet ∷ []) (octets ++ rest) w in
      let at : Ready mid = record {
        near_wants = wants_owed (octets ++ rest) w.near ∙ ready.near_wants;
        none = ready.none;
        still = ready.still;
        running = ready.running;
        none_waits = ready.none_waits;
      } in
      let on = near_says octets rest mid at refl in
      let is : near_saying octets rest mid ≡ near_saying (octet ∷ octets) rest w =
      ap₂ (λ q l. record mid { near = record mid.near { owed = rest }; control_to_server = q; taken = l }) (append_assoc w.control_to_server
      (octet ∷ []) octets) (lent_none octets) in
      subst (λ u. LeadsOn read [] w u) is (leads_then read [] [] w mid (near_saying octets rest mid) (near_says_one octet (octets ++ rest) w ready owed) on)

  -- ---- octets that are heard

  -- none is due, or enough are there
  filled_enough : (due queue : List ℕ) (count : ℕ) → count ≤ length queue → (has_octets due && nat_lt (length queue) count) ≡ false
  filled_enough due queue count enough = and_right (has_octets due) (nat_lt (length queue) count) (le-ltb (length queue) count enough)

  -- the server hears the next octet
  pub far_hears : (octet : ℕ) (rest : List ℕ) (w : World) → Ready w → w.control_to_server ≡ octet ∷ rest → machine.may_hear w.far ≡ true
      → far.wants (machine.hears_octet read w.far octet) ≡ Want.Nothing
      → LeadsOn read [] w (record w { far = machine.hears_octet read w.far octet; control_to_server = rest; taken = octet ∷ [] })
  far_hears octet rest w ready queue may wants =
      let new : World = record w { far = machine.hears_octet read w.far octet; control_to_server = rest; taken = octet ∷ [] } in
      let pushes : pushed read ControlToServer 1 (taking ControlToServer 1 (lends_none w)) ≡ new =
      ap (λ q. record w { far = machine.hears read w.far (take 1 q); control_to_server = drop 1 q; taken = take 1 q }) queue in
      let long : 1 ≤ length w.control_to_server = subst (λ q. 1 ≤ length q) (sym queue) (omega arith) in
      let takes : Takes read ControlToServer 1 (lends_none w) 1 = record {
        within = omega (arith, long);
        may = λ k less. subst (λ n. machine.may_hear (machine.hears read w.far (take n w.control_to_server)) ≡ true) (zero_below k less) may;
        some = λ room has can. omega arith;
      } in
      let delivers : Delivers read ControlToServer 1 (lends_none w) new = record {
        counts = [];
        taken = 1;
        fills = filled_enough w.near.owed w.control_to_server 1 long;
        takes = takes;
        is = sym (ap after_event pushes ∙ after_same new ready.near_wants wants ready.none);
      } in
      let can : can_happen (Deliver ControlToServer 1) w ≡ true =
      or_right (can_move ControlToServer 1 w) (can_take ControlToServer 1 w) (ap (λ q. not (1 == 0) && has_octets q && machine.may_hear w.far) queue ∙ may) in
      one_leads read (Deliver ControlToServer 1) w new tt (can, delivers)
    where
      zero_below : (k : ℕ) → k < 1 → 0 ≡ k
      zero_below k less = omega (arith, less)

  -- the client hears the first octets of its queue
  pub near_hears : (octet : ℕ) (octets rest : List ℕ) (w : World) → Ready w → w.control_to_client ≡ (octet ∷ octets) ++ rest
      → ((k : ℕ) → k < length (octet ∷ octets) → near.may_hear (near.hears w.near (take k w.control_to_client)) ≡ true)
      → near.wants (near.hears w.near (octet ∷ octets)) ≡ Want.Nothing
      → LeadsOn read [] w (record w {
        near = taken (near.hears w.near (octet ∷ octets));
        reports = w.reports ++ option_to_list (near.report_of (near.hears w.near (octet ∷ octets)));
        control_to_client = rest;
        taken = octet ∷ octets;
      })
  near_hears octet octets rest w ready queue may wants =
      let all : List ℕ = octet ∷ octets in
      let heard : World = record w { near = near.hears w.near all; control_to_client = rest; taken = all } in
      let new : World = record heard { near = taken heard.near; reports = w.reports ++ option_to_list (near.report_of heard.near) } in
      let first : take (length all) w.control_to_client ≡ all = ap (take (length all)) queue ∙ take_front all rest in
      let behind : drop (length all) w.control_to_client ≡ rest = ap (drop (length all)) queue ∙ drop_front all rest in
      let pushes : pushed read ControlToClient (length all) (taking ControlToClient (length all) (lends_none w)) ≡ heard =
      ap₂ (λ t d. record w { near = near.hears w.near t; control_to_client = d; taken = t }) first behind in
      let long : length all ≤ length w.control_to_client =
      subst (λ q. length all ≤ length q) (sym queue) (omega (arith, length-append all rest)) in
      let takes : Takes read ControlToClient (length all) (lends_none w) (length all) = record {
        within = omega (arith, long);
        may = may;
        some = λ room has can. room;
      } in
      let delivers : Delivers read ControlToClient (length all) (lends_none w) new = record {
        counts = [];
        taken = length all;
        fills = filled_enough w.far.owed w.control_to_client (length all) long;
        takes = takes;
        is = sym (ap after_event pushes ∙ after_is heard wants (wants_none w.far ready.still ready.running));
      } in
      let can : can_happen (Deliver ControlToClient (length all)) w ≡ true =
      or_right (can_move ControlToClient (length all) w) (can_take ControlToClient (length all) w)
      (ap₂ (λ b q. not b && has_octets q && near.may_hear w.near) (some_there octets) queue ∙ may 0 (omega arith)) in
      let does = subst (λ b. DeliversBy b read ControlToClient (length all) (lends_none w) new) (sym (some_there octets)) delivers in
      one_leads read (Deliver ControlToClient (length all)) w new tt (can, does)
    where
      some_there : (xs : List ℕ) → (suc (length xs) == 0) ≡ false
      some_there xs = ne_eqb (suc (length xs)) 0 (λ e. suc-ne-zero (length xs) e)

      take_front : (xs ys : List ℕ) → take (length xs) (xs ++ ys) ≡ xs
      take_front [] ys = refl
      take_front (x ∷ xs) ys = ap (λ l. x ∷ l) (take_front xs ys)

      drop_front : (xs ys : List ℕ) → drop (length xs) (xs ++ ys) ≡ ys
      drop_front [] ys = refl
      drop_front (x ∷ xs) ys = drop_front xs ys

  -- ---- an operation begins

  -- it is an event of its own
  pub begins : (op : Op (List ℕ)) (moment : ℕ) → moment ≤ last_second → (w : World) → Ready w → w.link ≡ Gone → near.is_busy w.near ≡ false
      → near.wants (near.starts op w.near) ≡ Want.Nothing
      → LeadsOn read (Single op moment ∷ []) w (record w {
        near = taken (near.starts op w.near);
        reports = w.reports ++ option_to_list (near.report_of (near.starts op w.near));
        far = clock_step moment w.far;
        marks = w.marks ++ [] ∷ [];
        taken = [];
      })
  unfolding far.clocked
  begins op moment timed w ready link idle wants =
      let begun : World = record w { near = near.starts op w.near; far = clock_step moment w.far; marks = w.marks ++ [] ∷ []; taken = [] } in
      let new : World = record begun { near = taken begun.near; reports = w.reports ++ option_to_list (near.report_of begun.near) } in
      let still : IsStill begun.far = record { still = ready.still.still; wants = ready.still.wants; closing = ready.still.closing } in
      let is : operation_begins op moment (lends_none w) ≡ begun = ap (λ waits. record begun {
        far = waited waits
            (clock_step moment w.far);
      }) ready.none_waits in
      let asks : is_asked_for w ≡ false =
      and_right (is_gone w.link) (is_wanted (near.wants w.near) (far.wants w.far)) (ap₂ is_wanted ready.near_wants
      (wants_none w.far ready.still ready.running)) in
      let can : can_begin w ≡ true =
      ap₂ (λ busy gone. not busy && is_gone gone && not (is_asked_for w)) idle link ∙ ap not asks in
      one_leads read (Next op moment) w new timed (can, sym (ap after_event is ∙ after_is begun wants (wants_none begun.far still ready.running)))
