-- The events of a world between two ends that want nothing of it: octets are said and heard, an operation begins, a link is opened, octets go over it, and it
-- ends.
use Rattle.std.proofs.Common.{◌≡◌, ℕ, suc, ◌==◌, ◌<◌, ◌≤◌, Bool, true, false, not, ◌&&◌, ◌||◌, nat_lt, IsTrue, List, [], ◌∷◌, ◌++◌, length, take, drop, None, refl, sym, ap, ap₂, subst, ◌∙◌, append_assoc, append-nil, arith, length-append, suc-ne-zero}
use Rattle.std.proofs.lemmas.Bool.{and_right, le-ltb, ne_eqb, or_right}
use Rattle.ftp_ends.specs.Octets.{has_octets}
use Rattle.ftp_operation.specs.declared.op.Op.{Op}
use Rattle.ftp_client_model.specs.Calls as near
use Rattle.ftp_server_model.specs.Calls as far
use Rattle.ftp_server_model.specs.Calls.{clock_step}
use Rattle.ftp_server_model.specs.Machine as machine
use Rattle.ftp_server_model.specs.Machine.{Reading, waited}
use Rattle.ftp_tree.specs.Sound.{last_second}
use Rattle.laws_world.specs.Agreement.{Single}
use Rattle.laws_world.specs.Events.{ControlToClient, ControlToServer, DataToClient, Deliver, Delivers, DeliversBy, End, Gives, Moves, Next, Open, Takes, can_begin, can_happen, can_move, can_take, due, is_asked_for, is_closed_by_far, is_gone, lends_none, link_opens, operation_begins, pulled, pushed, taking}
use Rattle.laws_world.specs.Serving.{after_event}
use Rattle.laws_world.specs.World.{ClosedByFar, Gone, World, gone}
use Rattle.laws_drivers.proofs.control.Worlds.{LeadsOn, leads_none, leads_then, lent_behind, one_leads, wants_owed}
use Rattle.laws_drivers.specs.world.Ahead.{is_asked}
use Rattle.laws_drivers.proofs.world.Served.{Runs, after_settles, after_stays, far_rests, rests, settled}

-- neither end wants anything of the world, a link and octets aside; the server runs, and no line waits; the client has no report
pub record Rested (w : World) : Type 0 where
  pub near_rests : rests (near.wants w.near) ≡ true
  pub near_open : w.near.closing ≡ false
  pub none : near.report_of w.near ≡ None
  pub runs : Runs w.far
  pub far_open : w.far.session.closing ≡ false
  pub none_asked : is_asked w.far.session.connection ≡ false

-- nor does it with other octets owed
far_still : (w : World) → Rested w → (owed : List ℕ) → rests (far.wants (record w.far { owed = owed })) ≡ true
far_still w r owed = far_rests (record w.far { owed = owed }) r.runs.running r.far_open r.none_asked

-- a close is none
pub near_closed : (w : World) → Rested w → rests (near.wants (near.data_closed w.near)) ≡ true
near_closed w r = ap (λ c. rests (near.wants (record w.near { closing = c }))) (sym r.near_open) ∙ r.near_rests

-- ---- octets that are said, one by one

-- one may be given of those that are due
pub one_given : (octet : ℕ) (octets due : List ℕ) → due ≡ octet ∷ octets → Gives 4096 due 1
one_given octet octets due is = subst (λ d. Gives 4096 d 1) (sym is) (record { within = omega arith; some = λ room has. omega arith })

-- then octets can be moved
pub can_say : (count : ℕ) (octet : ℕ) (octets due : List ℕ) → due ≡ octet ∷ octets → (taking : Bool)
    → IsTrue ((has_octets due && ((0 == 0) || nat_lt count 0)) || taking)
can_say count octet octets due is taking = ap (λ d. (has_octets d && ((0 == 0) || nat_lt count 0)) || taking) is

-- none is due, or enough are there
pub filled_enough : (due queue : List ℕ) (count : ℕ) → count ≤ length queue → (has_octets due && nat_lt (length queue) count) ≡ false
filled_enough due queue count enough = and_right (has_octets due) (nat_lt (length queue) count) (le-ltb (length queue) count enough)

-- the first octets of a list, and the rest
pub take_front : (xs ys : List ℕ) → take (length xs) (xs ++ ys) ≡ xs
take_front [] ys = refl
take_front (x ∷ xs) ys = ap (λ l. x ∷ l) (take_front xs ys)

pub drop_front : (xs ys : List ℕ) → drop (length xs) (xs ++ ys) ≡ ys
drop_front [] ys = refl
drop_front (x ∷ xs) ys = drop_front xs ys

pub some_there : (xs : List ℕ) → (suc (length xs) == 0) ≡ false
some_there xs = ne_eqb (suc (length xs)) 0 (λ e. suc-ne-zero (length xs) e)

-- after none was lent, none is
lent_none : (said : List ℕ) → lent_behind said [] ≡ []
lent_none [] = refl
lent_none (octet ∷ octets) = refl

module _ (read : Reading) where
  -- what is left, after octets that the server said
  abbrev pub far_saying : (octets rest : List ℕ) → World → World
  far_saying octets rest w =
      record w { far = record w.far { owed = rest }; control_to_client = w.control_to_client ++ octets; taken = lent_behind octets w.taken }

  far_rested : (octets rest : List ℕ) (w : World) → Rested w → Rested (far_saying octets rest w)
  far_rested octets rest w r = record {
    near_rests = r.near_rests;
    near_open = r.near_open;
    none = r.none;
    runs = record { running = r.runs.running; none_waits = r.runs.none_waits };
    far_open = r.far_open;
    none_asked = r.none_asked;
  }

  -- the server says an octet
  far_says_one : (octet : ℕ) (rest : List ℕ) (w : World) → Rested w → w.far.owed ≡ octet ∷ rest → LeadsOn read [] w (far_saying (octet ∷ []) rest w)
  unfolding far.gives_control
  far_says_one octet rest w r owed =
      let new : World = far_saying (octet ∷ []) rest w in
      let pulls : pulled ControlToClient (lends_none w) 1 ≡ new =
      ap₂ (λ waits o. record w {
        control_to_client = w.control_to_client ++ take 1 o;
        far = waited waits
            (record w.far { owed = drop 1 o });
        taken = [];
      }) r.runs.none_waits owed in
      let moves : Moves ControlToClient (lends_none w) new = record {
        gave = 1;
        gives = one_given octet rest w.far.owed owed;
        is = sym (ap after_event pulls ∙ after_stays new r.near_rests (far_still w r rest) r.none);
      } in
      one_leads read (Deliver ControlToClient 0) w new tt
      (can_say (length w.control_to_client) octet rest w.far.owed owed (can_take ControlToClient 0 w), moves)

  -- and all of them
  pub far_says : (octets rest : List ℕ) (w : World) → Rested w → w.far.owed ≡ octets ++ rest → LeadsOn read [] w (far_saying octets rest w)
  far_says [] rest w r owed =
      subst (λ u. LeadsOn read [] w u) (ap₂ (λ o q. record w { far = record w.far { owed = o }; control_to_client = q }) owed (sym
      (append-nil w.control_to_client))) (leads_none read w)
  far_says (octet ∷ octets) rest w r owed =
      let mid : World = far_saying (octet ∷ []) (octets ++ rest) w in
      let on = far_says octets rest mid (far_rested (octet ∷ []) (octets ++ rest) w r) refl in
      let is : far_saying octets rest mid ≡ far_saying (octet ∷ octets) rest w =
      ap₂ (λ q l. record mid { far = record mid.far { owed = rest }; control_to_client = q; taken = l }) (append_assoc w.control_to_client
      (octet ∷ []) octets) (lent_none octets) in
      subst (λ u. LeadsOn read [] w u) is (leads_then read [] [] w mid (far_saying octets rest mid) (far_says_one octet (octets ++ rest) w r owed) on)

  -- what is left, after octets that the client said
  abbrev pub near_saying : (octets rest : List ℕ) → World → World
  near_saying octets rest w =
      record w { near = record w.near { owed = rest }; control_to_server = w.control_to_server ++ octets; taken = lent_behind octets w.taken }

  near_rested : (octets rest : List ℕ) (w : World) → Rested w → Rested (near_saying octets rest w)
  near_rested octets rest w r = record {
    near_rests = ap rests (wants_owed rest w.near) ∙ r.near_rests;
    near_open = r.near_open;
    none = r.none;
    runs = r.runs;
    far_open = r.far_open;
    none_asked = r.none_asked;
  }

  -- the client says an octet
  near_says_one : (octet : ℕ) (rest : List ℕ) (w : World) → Rested w → w.near.owed ≡ octet ∷ rest → LeadsOn read [] w (near_saying (octet ∷ []) rest w)
  near_says_one octet rest w r owed =
      let new : World = near_saying (octet ∷ []) rest w in
      let pulls : pulled ControlToServer (lends_none w) 1 ≡ new =
      ap (λ o. record w { control_to_server = w.control_to_server ++ take 1 o; near = record w.near { owed = drop 1 o }; taken = [] }) owed in
      let moves : Moves ControlToServer (lends_none w) new = record {
        gave = 1;
        gives = one_given octet rest w.near.owed owed;
        is = sym (ap after_event pulls ∙ after_stays new (ap rests (wants_owed rest w.near) ∙ r.near_rests)
            (far_rests w.far r.runs.running r.far_open r.none_asked) r.none);
      } in
      one_leads read (Deliver ControlToServer 0) w new tt
      (can_say (length w.control_to_server) octet rest w.near.owed owed (can_take ControlToServer 0 w), moves)

  -- and all of them
  pub near_says : (octets rest : List ℕ) (w : World) → Rested w → w.near.owed ≡ octets ++ rest → LeadsOn read [] w (near_saying octets rest w)
  near_says [] rest w r owed =
      subst (λ u. LeadsOn read [] w u) (ap₂ (λ o q. record w { near = record w.near { owed = o }; control_to_server = q }) owed (sym
      (append-nil w.control_to_server))) (leads_none read w)
  near_says (octet ∷ octets) rest w r owed =
      let mid : World = near_saying (octet ∷ []) (octets ++ rest) w in
      let on = near_says octets rest mid (near_rested (octet ∷ []) (octets ++ rest) w r) refl in
      let is : near_saying octets rest mid ≡ near_saying (octet ∷ octets) rest w =
      ap₂ (λ q l. record mid { near = record mid.near { owed = rest }; control_to_server = q; taken = l }) (append_assoc w.control_to_server
      (octet ∷ []) octets) (lent_none octets) in
      subst (λ u. LeadsOn read [] w u) is (leads_then read [] [] w mid (near_saying octets rest mid) (near_says_one octet (octets ++ rest) w r owed) on)

  -- ---- octets that are heard

  -- the server hears the next octet
  pub far_hears : (octet : ℕ) (rest : List ℕ) (w : World) → Rested w → w.control_to_server ≡ octet ∷ rest → machine.may_hear w.far ≡ true
      → Runs (machine.hears_octet read w.far octet)
      → LeadsOn read [] w (settled (record w { far = machine.hears_octet read w.far octet; control_to_server = rest; taken = octet ∷ [] }))
  far_hears octet rest w r queue may runs =
      let new : World = record w { far = machine.hears_octet read w.far octet; control_to_server = rest; taken = octet ∷ [] } in
      let pushes : pushed read ControlToServer 1 (taking ControlToServer 1 (lends_none w)) ≡ new =
      ap (λ q. record w { far = machine.hears read w.far (take 1 q); control_to_server = drop 1 q; taken = take 1 q }) queue in
      let long : 1 ≤ length w.control_to_server = subst (λ q. 1 ≤ length q) (sym queue) (omega arith) in
      let takes : Takes read ControlToServer 1 (lends_none w) 1 = record {
        within = omega (arith, long);
        may = λ k less. subst (λ n. machine.may_hear (machine.hears read w.far (take n w.control_to_server)) ≡ true) (zero_below k less) may;
        some = λ room has can. omega arith;
      } in
      let delivers : Delivers read ControlToServer 1 (lends_none w) (settled new) = record {
        counts = [];
        taken = 1;
        fills = filled_enough w.near.owed w.control_to_server 1 long;
        takes = takes;
        is = sym (ap after_event pushes ∙ after_settles new (near_closed w r) runs);
      } in
      let can : can_happen (Deliver ControlToServer 1) w ≡ true =
      or_right (can_move ControlToServer 1 w) (can_take ControlToServer 1 w) (ap (λ q. not (1 == 0) && has_octets q && machine.may_hear w.far) queue ∙ may) in
      one_leads read (Deliver ControlToServer 1) w (settled new) tt (can, delivers)
    where
      zero_below : (k : ℕ) → k < 1 → 0 ≡ k
      zero_below k less = omega (arith, less)

  -- the client hears the first octets of its queue, whatever is due then
  pub near_hears_to : (octet : ℕ) (octets rest : List ℕ) (w new : World) → w.control_to_client ≡ (octet ∷ octets) ++ rest
      → ((k : ℕ) → k < length (octet ∷ octets) → near.may_hear (near.hears w.near (take k w.control_to_client)) ≡ true)
      → after_event (record w { near = near.hears w.near (octet ∷ octets); control_to_client = rest; taken = octet ∷ octets }) ≡ new
      → LeadsOn read [] w new
  near_hears_to octet octets rest w new queue may goes =
      let all : List ℕ = octet ∷ octets in
      let heard : World = record w { near = near.hears w.near all; control_to_client = rest; taken = all } in
      let first : take (length all) w.control_to_client ≡ all = ap (take (length all)) queue ∙ take_front all rest in
      let behind : drop (length all) w.control_to_client ≡ rest = ap (drop (length all)) queue ∙ drop_front all rest in
      let pushes : pushed read ControlToClient (length all) (taking ControlToClient (length all) (lends_none w)) ≡ heard =
      ap₂ (λ t d. record w { near = near.hears w.near t; control_to_client = d; taken = t }) first behind in
      let long : length all ≤ length w.control_to_client =
      subst (λ q. length all ≤ length q) (sym queue) (omega (arith, length-append all rest)) in
      let takes : Takes read ControlToClient (length all) (lends_none w) (length all) = record {
        within = omega (arith, long);
        may = may;
        some = λ room has can. room;
      } in
      let delivers : Delivers read ControlToClient (length all) (lends_none w) new = record {
        counts = [];
        taken = length all;
        fills = filled_enough w.far.owed w.control_to_client (length all) long;
        takes = takes;
        is = sym (ap after_event pushes ∙ goes);
      } in
      let can : can_happen (Deliver ControlToClient (length all)) w ≡ true =
      or_right (can_move ControlToClient (length all) w) (can_take ControlToClient (length all) w)
      (ap₂ (λ b q. not b && has_octets q && near.may_hear w.near) (some_there octets) queue ∙ may 0 (omega arith)) in
      let does = subst (λ b. DeliversBy b read ControlToClient (length all) (lends_none w) new) (sym (some_there octets)) delivers in
      one_leads read (Deliver ControlToClient (length all)) w new tt (can, does)

  -- where it wants a close at most
  pub near_hears : (octet : ℕ) (octets rest : List ℕ) (w : World) → Rested w → w.control_to_client ≡ (octet ∷ octets) ++ rest
      → ((k : ℕ) → k < length (octet ∷ octets) → near.may_hear (near.hears w.near (take k w.control_to_client)) ≡ true)
      → rests (near.wants (near.data_closed (near.hears w.near (octet ∷ octets)))) ≡ true
      → LeadsOn read [] w (settled (record w { near = near.hears w.near (octet ∷ octets); control_to_client = rest; taken = octet ∷ octets }))
  near_hears octet octets rest w r queue may wants =
      let heard : World = record w { near = near.hears w.near (octet ∷ octets); control_to_client = rest; taken = octet ∷ octets } in
      near_hears_to octet octets rest w (settled heard) queue may (after_settles heard wants r.runs)

  -- ---- an operation begins

  -- whatever is due then
  pub begins_to : (op : Op (List ℕ)) (moment : ℕ) → moment ≤ last_second → (w new : World) → Rested w → w.link ≡ Gone → near.is_busy w.near ≡ false
      → is_asked_for w ≡ false
      → after_event (record w { near = near.starts op w.near; far = clock_step moment w.far; marks = w.marks ++ [] ∷ []; taken = [] }) ≡ new
      → LeadsOn read (Single op moment ∷ []) w new
  unfolding far.clocked
  begins_to op moment timed w new r link idle asks goes =
      let begun : World = record w { near = near.starts op w.near; far = clock_step moment w.far; marks = w.marks ++ [] ∷ []; taken = [] } in
      let is : operation_begins op moment (lends_none w) ≡ begun =
      ap (λ waits. record begun { far = waited waits (clock_step moment w.far) }) r.runs.none_waits in
      let can : can_begin w ≡ true = ap₂ (λ busy gone. not busy && is_gone gone && not (is_asked_for w)) idle link ∙ ap not asks in
      one_leads read (Next op moment) w new timed (can, sym (ap after_event is ∙ goes))

  -- where the client wants a close at most
  pub begins : (op : Op (List ℕ)) (moment : ℕ) → moment ≤ last_second → (w : World) → Rested w → w.link ≡ Gone → near.is_busy w.near ≡ false
      → is_asked_for w ≡ false → rests (near.wants (near.data_closed (near.starts op w.near))) ≡ true
      → LeadsOn read (Single op moment ∷ []) w
      (settled (record w { near = near.starts op w.near; far = clock_step moment w.far; marks = w.marks ++ [] ∷ []; taken = [] }))
  begins op moment timed w r link idle asks wants =
      let begun : World = record w { near = near.starts op w.near; far = clock_step moment w.far; marks = w.marks ++ [] ∷ []; taken = [] } in
      let runs : Runs begun.far = record { running = r.runs.running; none_waits = r.runs.none_waits } in
      begins_to op moment timed w (settled begun) r link idle asks (after_settles begun wants runs)

  -- ---- a link

  -- it is opened
  pub opens : (w : World) → is_asked_for w ≡ true → rests (near.wants (near.data_closed (link_opens (lends_none w)).near)) ≡ true
      → Runs (link_opens (lends_none w)).far → LeadsOn read [] w (settled (link_opens (lends_none w)))
  opens w asks wants runs = one_leads read Open w (settled (link_opens (lends_none w))) tt (asks, sym (after_settles (link_opens (lends_none w)) wants runs))

  -- the server gives an octet
  pub far_gives_one : (octet : ℕ) (rest : List ℕ) (w : World) → Rested w → far.to_give w.far ≡ octet ∷ rest → Runs (far.given_step 1 w.far)
      → LeadsOn read [] w (settled (record w { data_to_client = w.data_to_client ++ octet ∷ []; far = far.given_step 1 w.far; taken = [] }))
  unfolding far.gives_data
  far_gives_one octet rest w r gives runs =
      let new : World = record w { data_to_client = w.data_to_client ++ octet ∷ []; far = far.given_step 1 w.far; taken = [] } in
      let pulls : pulled DataToClient (lends_none w) 1 ≡ new =
      ap₂ (λ waits l. record w { data_to_client = w.data_to_client ++ take 1 l; far = waited waits (far.given_step 1 w.far); taken = [] })
      runs.none_waits gives in
      let moves : Moves DataToClient (lends_none w) (settled new) = record {
        gave = 1;
        gives = one_given octet rest (far.to_give w.far) gives;
        is = sym (ap after_event pulls ∙ after_settles new (near_closed w r) runs);
      } in
      one_leads read (Deliver DataToClient 0) w (settled new) tt
      (can_say (length w.data_to_client) octet rest (far.to_give w.far) gives (can_take DataToClient 0 w), moves)

  -- the client takes the first octets
  pub near_takes : (octet : ℕ) (octets rest : List ℕ) (w : World) → Rested w → w.data_to_client ≡ (octet ∷ octets) ++ rest
      → ((k : ℕ) → k < length (octet ∷ octets) → near.may_receive (near.receives w.near (take k w.data_to_client)) ≡ true)
      → rests (near.wants (near.data_closed (near.receives w.near (octet ∷ octets)))) ≡ true
      → (came : ℕ) → came ≡ (pushed read DataToClient (length (octet ∷ octets)) w).came
      → LeadsOn read [] w (settled (record w { near = near.receives w.near (octet ∷ octets); data_to_client = rest; came = came; taken = octet ∷ octets }))
  near_takes octet octets rest w r queue may wants came came_is =
      let all : List ℕ = octet ∷ octets in
      let taken : World = record w { near = near.receives w.near all; data_to_client = rest; came = came; taken = all } in
      let first : take (length all) w.data_to_client ≡ all = ap (take (length all)) queue ∙ take_front all rest in
      let behind : drop (length all) w.data_to_client ≡ rest = ap (drop (length all)) queue ∙ drop_front all rest in
      let pushes : pushed read DataToClient (length all) (taking DataToClient (length all) (lends_none w)) ≡ taken =
      λ i. record w { near = near.receives w.near (first i); data_to_client = behind i; came = sym came_is i; taken = first i } in
      let long : length all ≤ length w.data_to_client = subst (λ q. length all ≤ length q) (sym queue) (omega (arith, length-append all rest)) in
      let takes : Takes read DataToClient (length all) (lends_none w) (length all) = record {
        within = omega (arith, long);
        may = may;
        some = λ room has can. room;
      } in
      let delivers : Delivers read DataToClient (length all) (lends_none w) (settled taken) = record {
        counts = [];
        taken = length all;
        fills = filled_enough (far.to_give w.far) w.data_to_client (length all) long;
        takes = takes;
        is = sym (ap after_event pushes ∙ after_settles taken wants r.runs);
      } in
      let can : can_happen (Deliver DataToClient (length all)) w ≡ true =
      or_right (can_move DataToClient (length all) w) (can_take DataToClient (length all) w)
      (ap₂ (λ b q. not b && has_octets q && near.may_receive w.near) (some_there octets) queue ∙ may 0 (omega arith)) in
      let does = subst (λ b. DeliversBy b read DataToClient (length all) (lends_none w) (settled taken)) (sym (some_there octets)) delivers in
      one_leads read (Deliver DataToClient (length all)) w (settled taken) tt (can, does)

  -- the client is told of the end
  pub ends : (w : World) → Rested w → w.link ≡ ClosedByFar → w.data_to_client ≡ [] → far.to_give w.far ≡ []
      → rests (near.wants (near.data_closed (near.data_end w.near))) ≡ true
      → LeadsOn read [] w (settled (gone (record w { near = near.data_end w.near; taken = [] })))
  ends w r link empty given wants =
      let new : World = gone (record w { near = near.data_end w.near; taken = [] }) in
      let can : can_happen (End DataToClient) w ≡ true =
      ap₂ (λ l q. is_closed_by_far l && not (has_octets q) && not (has_octets (far.to_give w.far))) link empty
      ∙ ap (λ g. not (has_octets g)) given in
      one_leads read (End DataToClient) w (settled new) tt (can, sym (after_settles new wants r.runs))
