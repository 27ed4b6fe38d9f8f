-- Every event keeps what follows of operations without a transfer and of downloads, listings and uploads, and so every list of them.
use Rattle.std.proofs.Common.{◌≡◌, ◌⊎◌, inl, inr, ℕ, ◌≤◌, ◌==◌, List, [], ◌∷◌, ◌++◌, Bool, true, false, not, ◌&&◌, refl, sym, ap, subst, ◌∙◌, append-nil}
use Rattle.std.specs.Prelude.{IsTrue}
use Rattle.std.proofs.lemmas.Bool.{and_parts}
use Rattle.ftp_operation.specs.Operation.{can_be_sent}
use Rattle.ftp_operation.specs.declared.op.Op.{Op}
use Rattle.ftp_direct.specs.Direct.{State}
use Rattle.ftp_client_model.specs.Calls as near
use Rattle.ftp_server_model.specs.Calls as far
use Rattle.ftp_server_model.specs.Machine.{Reading, IsReading}
use Rattle.ftp_client_model.specs.Tries.{OverBreaks, first_try}
use Rattle.laws_world.specs.Agreement.{Order, Single, Tries, begun_by_event}
use Rattle.ftp_ends.specs.Octets.{has_octets}
use Rattle.ftp_tree.specs.Sound.{last_second}
use Rattle.laws_world.specs.Events.{Queue, ControlToServer, ControlToClient, DataToServer, DataToClient, Event, Deliver, Open, Refuse, End, Break, EndControl, Next, Upload, Happens, can_happen, can_begin, operation_begins, upload_begins, is_asked_for, is_gone, is_closed_by_far, is_closed_by_near, is_left_by_near, is_left_by_far}
use Rattle.laws_world.specs.Serving.{after_event}
use Rattle.laws_world.specs.World.{World}
use Rattle.laws_dialogues.specs.Dialogue.{HasNoTransfer}
use Rattle.laws_dialogues.specs.Fetches.{IsFetch, IsStore}
use Rattle.laws_agreement.specs.Follows.{IsFree, IsUnder, IsLinked, Phase, Follows}
use Rattle.laws_agreement.specs.Runs.{IsFetchingOn, IsHaltingOn, IsTrailing, Runs}
use Rattle.laws_agreement.proofs.Asks.{IsAskOf, ask_of, store_of}
use Rattle.laws_agreement.proofs.Begins.{begins_free}
use Rattle.laws_agreement.proofs.Deliveries.{placed_taken}
use Rattle.laws_agreement.proofs.Events.{IsNoBeginning, both_false, happens, lent_again, never, under_busy}
use Rattle.laws_agreement.proofs.FetchBegins.{begins_fetch}
use Rattle.laws_agreement.proofs.FetchParting.{fetch_parts, trailing_parts}
use Rattle.laws_agreement.proofs.FetchEnds.{fetch_breaks, fetch_ends, fetch_opens, fetch_refuses}
use Rattle.laws_agreement.proofs.FetchRuns.{fetching_on_taken, fetch_delivers_server, fetch_delivers_client, fetch_delivers_data}
use Rattle.laws_agreement.proofs.FetchWants.{flows_or_none, rises_or_none, lasting_busy}
use Rattle.laws_agreement.proofs.FetchTold.{closed_is, trailing_ends, trailing_breaks}
use Rattle.laws_agreement.proofs.ThreeKinds.{three_kinds}
use Rattle.laws_agreement.proofs.Parting.{begins_lost}
use Rattle.laws_agreement.proofs.PeekParting.{halting_parts}
use Rattle.laws_agreement.proofs.PeekRuns.{halt_asks_none, halt_busy, halt_delivers_client, halt_delivers_data, halt_delivers_server, halt_gives_none, halting_breaks, halting_ends, halting_on_taken, halting_taken}
use Rattle.laws_agreement.proofs.UploadRuns.{upload_delivers, upload_ends}
use Rattle.laws_agreement.proofs.Unsendable.{upload_free, upload_lost}

-- what is lent is of no matter
pub trailing_taken : (from : State) (begun : List Order) (octets : List ℕ) (w : World) → IsTrailing from begun w → IsTrailing from begun (record w { taken = octets })
trailing_taken from begun octets w t =
    let s = t.stands in
    record {
      done = t.done;
      marks = t.marks;
      reports = t.reports;
      ask = t.ask;
      plan = t.plan;
      moment = t.moment;
      said = t.said;
      begun_is = t.begun_is;
      marks_are = t.marks_are;
      reports_are = t.reports_are;
      now = t.now;
      sound = t.sound;
      told = t.told;
      fares = t.fares;
      linked = record { control = t.linked.control; cutoff = t.linked.cutoff };
      stands = placed_taken octets s (record {
        near = s.here.near;
        session = s.here.session;
        steady = s.here.steady;
        link = s.here.link;
        to_server = s.here.to_server;
        to_client = s.here.to_client;
        way_is = s.here.way_is;
      });
    }

-- where three hold together, the first two hold
pub three_parts : (a b c : Bool) → (a && b && c) ≡ true → (a ≡ true) × (b ≡ true)
three_parts a b c is = let both = and_parts (a && b) c is in and_parts a b both.0

-- what needs something false does not hold
pub none_there : (b c : Bool) → (b && false && c) ≡ false
none_there true c = refl
none_there false c = refl

-- a list that has no octets is empty
pub no_octet : (l : List ℕ) → not (has_octets l) ≡ true → l ≡ []
no_octet [] is = refl
no_octet (octet ∷ l) is = absurd (cc)

-- what is not true is false
pub not_so : (b : Bool) → not b ≡ true → b ≡ false
not_so false is = refl
not_so true is = absurd (cc)

module _ (read : Reading) (reads : IsReading read) (from : State) where
  abbrev Holds : List Order → World → Type 0
  Holds begun w = Runs read from begun w

  -- ---- a download is under way

  -- while a fetch is under way, whatever happens that begins nothing keeps what was begun running
  on_happens : (begun : List Order) (event : Event) (w new : World) → IsNoBeginning event → IsFetchingOn read from begun w → Happens read event w true new → Holds begun new
  on_happens begun (Deliver ControlToServer count) w new plain on e = fetch_delivers_server read reads from begun _ count _ new (fetching_on_taken read reads from begun [] w on) e.1
  on_happens begun (Deliver ControlToClient count) w new plain on e = fetch_delivers_client read reads from begun _ count _ new (fetching_on_taken read reads from begun [] w on) e.1
  on_happens begun (Deliver DataToServer count) w new plain on e =
      let u : World = record w { taken = [] } in
      let on_u = fetching_on_taken read reads from begun [] w on in
      let f = on_u.fetching in
      elim (rises_or_none read f.now f.ask f.is_ask.plan f.own u f.stands on_u.lasts) [
        | inl rising ↦ upload_delivers read reads from begun _ count u new f rising e.1
        | inr none ↦ absurd (never (can_happen (Deliver DataToServer count) w) (both_false (near.to_give w.near) w.data_to_server _ (not (count == 0)) _ none.due none.queue) e.0)
      ]
  on_happens begun (Deliver DataToClient count) w new plain on e =
      let u : World = record w { taken = [] } in
      let on_u = fetching_on_taken read reads from begun [] w on in
      let f = on_u.fetching in
      elim (flows_or_none read f.now f.ask f.is_ask.plan f.own u f.stands on_u.lasts) [
        | inl flowing ↦ fetch_delivers_data read reads from begun _ count u new f flowing e.1
        | inr none ↦ absurd (never (can_happen (Deliver DataToClient count) w) (both_false (far.to_give w.far) w.data_to_client _ (not (count == 0)) _ none.0 none.1) e.0)
      ]
  on_happens begun Open w new plain on e =
      subst (Holds begun) (sym e.1) (fetch_opens read reads from begun (record w { taken = [] }) (fetching_on_taken read reads from begun [] w on) e.0)
  on_happens begun Refuse w new plain on e =
      subst (Holds begun) (sym e.1) (fetch_refuses read reads from begun (record w { taken = [] }) (fetching_on_taken read reads from begun [] w on) e.0)
  on_happens begun (End ControlToServer) w new plain on e = absurd (never _ (rw (ap is_left_by_near on.fetching.linked.control) refl) e.0)
  on_happens begun (End ControlToClient) w new plain on e = absurd (never _ (rw (ap is_left_by_far on.fetching.linked.control) refl) e.0)
  on_happens begun (End DataToServer) w new plain on e =
      let u : World = record w { taken = [] } in
      let on_u = fetching_on_taken read reads from begun [] w on in
      let f = on_u.fetching in
      let closed = three_parts (is_closed_by_near w.link) (not (has_octets w.data_to_server)) _ e.0 in
      elim (rises_or_none read f.now f.ask f.is_ask.plan f.own u f.stands on_u.lasts) [
        | inl rising ↦ subst (Holds begun) (sym e.1) (upload_ends read reads from begun u f rising closed.0 (no_octet w.data_to_server closed.1))
        | inr none ↦ absurd (let no_end : false ≡ true = sym none.closed ∙ closed.0 in cc)
      ]
  on_happens begun (End DataToClient) w new plain on e =
      let left = three_parts (is_closed_by_far w.link) (not (has_octets w.data_to_client)) _ e.0 in
      subst (Holds begun) (sym e.1)
      (fetch_ends read reads from begun (record w { taken = [] }) (fetching_on_taken read reads from begun [] w on) left.0 (no_octet w.data_to_client left.1))
  on_happens begun Break w new plain on e =
      subst (Holds begun) (sym e.1) (fetch_breaks read reads from begun (record w { taken = [] }) (fetching_on_taken read reads from begun [] w on) (not_so (is_gone w.link) e.0))
  on_happens begun EndControl w new plain on e =
      subst (Holds begun) (sym e.1) (inl (fetch_parts read from begun (record w { taken = [] }) (fetching_on_taken read reads from begun [] w on)))
  on_happens begun (Next op moment) w new plain on e = absurd plain
  on_happens begun (Upload upload moment) w new plain on e = absurd plain

  -- ---- behind a refused REST

  module _ (begun : List Order) (w new : World) (t : IsTrailing from begun w) where
    -- the world still trails behind once what was taken is forgotten
    later : IsTrailing from begun (record w { taken = [] })
    later = trailing_taken from begun [] w t

    -- no delivery is possible in a world that trails behind
    pub trails_deliver : (queue : Queue) (count : ℕ) → IsTrue (can_happen (Deliver queue count) w) → ⊥
    trails_deliver ControlToServer count can = never _ (none_there (not (count == 0)) _) (subst (λ u. IsTrue (can_happen (Deliver ControlToServer count) u)) (closed_is read reads from begun w t) can)
    trails_deliver ControlToClient count can = never _ (none_there (not (count == 0)) _) (subst (λ u. IsTrue (can_happen (Deliver ControlToClient count) u)) (closed_is read reads from begun w t) can)
    trails_deliver DataToServer count can = never _ (none_there (not (count == 0)) _) (subst (λ u. IsTrue (can_happen (Deliver DataToServer count) u)) (closed_is read reads from begun w t) can)
    trails_deliver DataToClient count can = never _ (none_there (not (count == 0)) _) (subst (λ u. IsTrue (can_happen (Deliver DataToClient count) u)) (closed_is read reads from begun w t) can)

    -- each event but a beginning leads a world that trails behind to one that runs
    trails_happen : (event : Event) → IsNoBeginning event → Happens read event w true new → Holds begun new
    trails_happen (Deliver queue count) plain e = absurd (trails_deliver queue count e.0)
    trails_happen Open plain e = absurd (never _ (ap is_asked_for (closed_is read reads from begun w t)) e.0)
    trails_happen Refuse plain e = absurd (never _ (ap is_asked_for (closed_is read reads from begun w t)) e.0)
    trails_happen (End ControlToServer) plain e = absurd (never _ (rw (ap is_left_by_near t.linked.control) refl) e.0)
    trails_happen (End ControlToClient) plain e = absurd (never _ (rw (ap is_left_by_far t.linked.control) refl) e.0)
    trails_happen (End DataToServer) plain e = subst (Holds begun) (sym e.1) (inl (trailing_ends read reads from begun (record w { taken = [] }) later))
    trails_happen (End DataToClient) plain e = absurd (never _ (ap (can_happen (End DataToClient)) (closed_is read reads from begun w t)) e.0)
    trails_happen Break plain e = subst (Holds begun) (sym e.1) (inl (trailing_breaks read reads from begun (record w { taken = [] }) later))
    trails_happen EndControl plain e = subst (Holds begun) (sym e.1) (inl (trailing_parts read reads from begun (record w { taken = [] }) later))
    trails_happen (Next op moment) plain e = absurd plain
    trails_happen (Upload upload moment) plain e = absurd plain

  -- ---- a Peek has sent ABOR

  -- whatever happens that begins nothing keeps what was begun running
  halts_happen : (begun : List Order) (event : Event) (w new : World) → IsNoBeginning event → IsHaltingOn from begun w → Happens read event w true new → Holds begun new
  halts_happen begun (Deliver ControlToServer count) w new plain on e = halt_delivers_server read reads from begun _ count _ new (halting_taken read reads from begun [] w on.halting) e.1
  halts_happen begun (Deliver ControlToClient count) w new plain on e = halt_delivers_client read reads from begun _ count _ new (halting_taken read reads from begun [] w on.halting) e.1
  halts_happen begun (Deliver DataToServer count) w new plain on e =
      let f = on.halting in
      let none = halt_gives_none f.now f.ask f.own w f.stands in
      absurd (never (can_happen (Deliver DataToServer count) w) (both_false (near.to_give w.near) w.data_to_server _ (not (count == 0)) _ none.due none.queue) e.0)
  halts_happen begun (Deliver DataToClient count) w new plain on e = halt_delivers_data read reads from begun _ count _ new (halting_taken read reads from begun [] w on.halting) e.1
  halts_happen begun Open w new plain on e = let f = on.halting in absurd (never _ (halt_asks_none f.now f.ask f.own w f.stands) e.0)
  halts_happen begun Refuse w new plain on e = let f = on.halting in absurd (never _ (halt_asks_none f.now f.ask f.own w f.stands) e.0)
  halts_happen begun (End ControlToServer) w new plain on e = absurd (never _ (rw (ap is_left_by_near on.halting.linked.control) refl) e.0)
  halts_happen begun (End ControlToClient) w new plain on e = absurd (never _ (rw (ap is_left_by_far on.halting.linked.control) refl) e.0)
  halts_happen begun (End DataToServer) w new plain on e = let f = on.halting in absurd (never _ (rw (halt_gives_none f.now f.ask f.own w f.stands).closed refl) e.0)
  halts_happen begun (End DataToClient) w new plain on e =
      let left = three_parts (is_closed_by_far w.link) (not (has_octets w.data_to_client)) _ e.0 in
      subst (Holds begun) (sym e.1) (halting_ends read reads from begun (record w { taken = [] }) (halting_on_taken read reads from begun [] w on) left.0)
  halts_happen begun Break w new plain on e =
      subst (Holds begun) (sym e.1) (halting_breaks read reads from begun (record w { taken = [] }) (halting_on_taken read reads from begun [] w on) (not_so (is_gone w.link) e.0))
  halts_happen begun EndControl w new plain on e =
      subst (Holds begun) (sym e.1) (inl (halting_parts from begun (record w { taken = [] }) (halting_on_taken read reads from begun [] w on) read))
  halts_happen begun (Next op moment) w new plain on e = absurd plain
  halts_happen begun (Upload upload moment) w new plain on e = absurd plain

  -- ---- every event

  -- an event that begins nothing keeps what was begun running
  pub other_happens : (begun : List Order) (event : Event) (w new : World) → IsNoBeginning event → Holds begun w → Happens read event w true new → Holds begun new
  other_happens begun event w new plain (inl h) e = inl (subst (λ l. Follows read from l new) (append-nil begun) (subst (λ l. Follows read from (begun ++ l) new) (nothing_begun event plain) (happens read reads from begun event w new plain h e)))
    where
      nothing_begun : (event : Event) → IsNoBeginning event → begun_by_event event true ≡ []
      nothing_begun (Deliver queue count) plain = refl
      nothing_begun Open plain = refl
      nothing_begun Refuse plain = refl
      nothing_begun (End queue) plain = refl
      nothing_begun Break plain = refl
      nothing_begun EndControl plain = refl
      nothing_begun (Next op moment) plain = absurd plain
      nothing_begun (Upload upload moment) plain = absurd plain
  other_happens begun event w new plain (inr (inl on)) e = on_happens begun event w new plain on e
  other_happens begun event w new plain (inr (inr (inl t))) e = trails_happen begun w new t event plain e
  other_happens begun event w new plain (inr (inr (inr on))) e = halts_happen begun event w new plain on e

  -- an operation begins where none is under way
  pub free_begins : (begun : List Order) (op : Op (List ℕ)) (moment : ℕ) (u : World) → moment ≤ last_second → (h : Follows read from begun u) → IsLinked u → IsFree from begun u
      → Holds (begun ++ Single op moment ∷ []) (after_event (operation_begins op moment u))
  free_begins begun op moment u dated h l f = by_sent (can_be_sent op) refl
    where
      by_ask : IsAskOf op moment → Holds (begun ++ Single op moment ∷ []) (after_event (operation_begins op moment u))
      by_ask o =
          subst (λ op. Holds (begun ++ Single op moment ∷ []) (after_event (operation_begins op moment u))) (sym o.op_is)
          (begins_fetch read reads from begun o.ask moment o.good o.timely u h.unlinked l f)

      by_kind : can_be_sent op ≡ true → HasNoTransfer op ⊎ IsFetch op ⊎ IsStore op → Holds (begun ++ Single op moment ∷ []) (after_event (operation_begins op moment u))
      by_kind can (inl alone) = inl (begins_free read reads from begun op moment u h.unlinked l f (λ sent. alone))
      by_kind can (inr (inl fetches)) = by_ask (ask_of op moment fetches can)
      by_kind can (inr (inr stores)) = by_ask (store_of op moment stores can dated)

      by_sent : (b : Bool) → can_be_sent op ≡ b → Holds (begun ++ Single op moment ∷ []) (after_event (operation_begins op moment u))
      by_sent true can = by_kind can (three_kinds op)
      by_sent false cannot = inl (begins_free read reads from begun op moment u h.unlinked l f (λ sent. absurd (let e : true ≡ false = sym sent ∙ cannot in cc)))

  -- nothing begins while an operation is under way
  pub under_way : (begun : List Order) (u : World) → IsUnder read from begun u → IsTrue (can_begin u) → ⊥
  under_way begun u under can = never (can_begin u) (ap (λ (b : Bool). not b && is_gone u.link && not (is_asked_for u)) (under_busy read from begun u under)) can

  -- nothing begins while a fetch is under way
  pub fetch_under_way : (begun : List Order) (w : World) → IsFetchingOn read from begun w → IsTrue (can_begin w) → ⊥
  fetch_under_way begun w on can =
      let f = on.fetching in
      never (can_begin w) (ap (λ (b : Bool). not b && is_gone w.link && not (is_asked_for w)) (lasting_busy read f.now f.ask f.is_ask.plan f.own w f.stands on.lasts)) can

  -- nothing begins while a Peek has sent ABOR
  pub halts_on : (begun : List Order) (w : World) → IsHaltingOn from begun w → IsTrue (can_begin w) → ⊥
  halts_on begun w on can =
      let f = on.halting in
      never (can_begin w) (ap (λ (b : Bool). not b && is_gone w.link && not (is_asked_for w)) (halt_busy f.now f.ask f.own w f.stands)) can

  -- nothing begins while a closed link trails
  pub trails_on : (begun : List Order) (w : World) → IsTrailing from begun w → IsTrue (can_begin w) → ⊥
  trails_on begun w t can = never (can_begin w) (ap can_begin (closed_is read reads from begun w t)) can

  -- the next operation begins, and all that was begun runs with it
  pub next_runs : (begun : List Order) (op : Op (List ℕ)) (moment : ℕ) (w new : World) → moment ≤ last_second → Holds begun w → Happens read (Next op moment) w true new
      → Holds (begun ++ Single op moment ∷ []) new
  next_runs begun op moment w new dated (inl h) e =
      let u : World = record w { taken = [] } in
      let hu = lent_again read reads from begun w h in
      subst (Holds (begun ++ Single op moment ∷ [])) (sym e.1) (by_phase u hu e.0 hu.phase)
    where
      by_phase : (u : World) → Follows read from begun u → IsTrue (can_begin u) → Phase read from begun u → Holds (begun ++ Single op moment ∷ []) (after_event (operation_begins op moment u))
      by_phase u h can (inl (l, inl f)) = free_begins begun op moment u dated h l f
      by_phase u h can (inl (l, inr under)) = absurd (under_way begun u under can)
      by_phase u h can (inr l) = inl (begins_lost read from begun op moment u h.unlinked l)
  next_runs begun op moment w new dated (inr (inl on)) e = absurd (fetch_under_way begun w on e.0)
  next_runs begun op moment w new dated (inr (inr (inl t))) e = absurd (trails_on begun w t e.0)
  next_runs begun op moment w new dated (inr (inr (inr on))) e = absurd (halts_on begun w on e.0)

  -- an upload over breaks that can't be sent
  pub upload_runs : (begun : List Order) (upload : OverBreaks) (moment : ℕ) (w new : World) → can_be_sent (first_try upload) ≡ false → Holds begun w → Happens read (Upload upload moment) w true new
      → Holds (begun ++ Tries upload moment ∷ []) new
  upload_runs begun upload moment w new plain (inl h) e =
      let u : World = record w { taken = [] } in
      let hu = lent_again read reads from begun w h in
      subst (Holds (begun ++ Tries upload moment ∷ [])) (sym e.1) (inl (by_phase u hu e.0 hu.phase))
    where
      by_phase : (u : World) → Follows read from begun u → IsTrue (can_begin u) → Phase read from begun u
          → Follows read from (begun ++ Tries upload moment ∷ []) (after_event (upload_begins upload moment u))
      by_phase u h can (inl (l, inl f)) = upload_free read reads from begun upload moment plain u h.unlinked l f
      by_phase u h can (inl (l, inr under)) = absurd (under_way begun u under can)
      by_phase u h can (inr l) = upload_lost read reads from begun upload moment plain u h.unlinked l
  upload_runs begun upload moment w new plain (inr (inl on)) e = absurd (fetch_under_way begun w on e.0)
  upload_runs begun upload moment w new plain (inr (inr (inl t))) e = absurd (trails_on begun w t e.0)
  upload_runs begun upload moment w new plain (inr (inr (inr on))) e = absurd (halts_on begun w on e.0)
