-- Every event keeps what follows, uploads over breaks among it, and so every list of them; and what follows is agreement.
use Rattle.std.proofs.Common.{◌≡◌, inl, inr, ℕ, ◌≤◌, Bool, true, false, List, [], ◌∷◌, ◌++◌, refl, sym, ap, subst, ◌∙◌, append-nil, append_assoc}
use Rattle.std.specs.Prelude.{IsTrue}
use Rattle.ftp_operation.specs.Operation.{can_be_sent}
use Rattle.ftp_operation.specs.declared.op.Op.{Op}
use Rattle.ftp_direct.specs.Direct.{State}
use Rattle.ftp_tree.specs.Sound.{last_second}
use Rattle.ftp_client_model.specs.Tries.{OverBreaks, first_try}
use Rattle.ftp_server_model.specs.Machine.{Reading, IsReading}
use Rattle.laws_world.specs.Agreement.{Order, Single, Tries, Agrees, WorldAgrees, Leads, begun_by_event}
use Rattle.laws_world.specs.Claims.{AreTimed, IsAnswered, IsTimed}
use Rattle.laws_world.specs.Events.{Event, Deliver, Open, Refuse, End, Break, EndControl, Next, Upload, Happens, IsQuiet, can_begin, upload_begins}
use Rattle.laws_world.specs.Serving.{after_event}
use Rattle.laws_world.specs.Still.{IsStill}
use Rattle.laws_world.specs.World.{World}
use Rattle.laws_agreement.specs.Follows.{Phase, Follows}
use Rattle.laws_agreement.specs.Over.{marks_of, orders_alone, OverRuns}
use Rattle.laws_agreement.specs.Runs.{Runs}
use Rattle.laws_agreement.specs.Tried.{all_marks, tried_said}
use Rattle.laws_agreement.proofs.Agreeing.{runs_agree}
use Rattle.laws_agreement.proofs.Events.{IsNoBeginning, lent_again}
use Rattle.laws_agreement.proofs.FetchQuiet.{runs_answered, runs_quiet}
use Rattle.laws_agreement.proofs.OverBegins.{over_free, over_lost}
use Rattle.laws_agreement.proofs.OverHappens.{trying_begins, trying_happens, trying_moves, trying_stands}
use Rattle.laws_agreement.proofs.OverFold.{agrees_folded}
use Rattle.laws_agreement.proofs.OverTails.{tail_agrees, tail_begins, tail_happens, tail_moves}
use Rattle.laws_agreement.proofs.Running.{fetch_under_way, halts_on, next_runs, other_happens, trails_on, under_way, upload_runs}

module _ (read : Reading) (reads : IsReading read) (from : State) where
  -- what holds after every event
  abbrev Holds : List Order → World → Type 0
  Holds begun w = OverRuns read from begun w

  -- ---- every event

  -- one that begins nothing
  nothing_begins : (begun : List Order) (event : Event) (w new : World) → IsNoBeginning event → Holds begun w → Happens read event w true new → Holds begun new
  nothing_begins begun event w new plain (inl h) e = inl (other_happens read reads from begun event w new plain h e)
  nothing_begins begun event w new plain (inr (inl t)) e = trying_happens read reads from begun w t event new plain e
  nothing_begins begun event w new plain (inr (inr t)) e = inl (inl (tail_happens read reads from begun w t event new plain e))

  -- an operation
  next_begins : (begun : List Order) (op : Op (List ℕ)) (moment : ℕ) (w new : World) → moment ≤ last_second → Holds begun w → Happens read (Next op moment) w true new
      → Holds (begun ++ Single op moment ∷ []) new
  next_begins begun op moment w new dated (inl h) e = inl (next_runs read reads from begun op moment w new dated h e)
  next_begins begun op moment w new dated (inr (inl t)) e = absurd (trying_begins read reads from begun w t e.0)
  next_begins begun op moment w new dated (inr (inr t)) e = absurd (tail_begins read reads from begun w t e.0)

  -- an upload over breaks that can be sent
  sent_begins : (begun : List Order) (upload : OverBreaks) (moment : ℕ) (w new : World) → can_be_sent (first_try upload) ≡ true → moment ≤ last_second → Runs read from begun w
      → Happens read (Upload upload moment) w true new → Holds (begun ++ Tries upload moment ∷ []) new
  sent_begins begun upload moment w new can dated (inl h) e =
      let u : World = record w { taken = [] } in
      let hu = lent_again read reads from begun w h in
      subst (Holds (begun ++ Tries upload moment ∷ [])) (sym e.1) (by_phase u hu e.0 hu.phase)
    where
      by_phase : (u : World) → Follows read from begun u → IsTrue (can_begin u) → Phase read from begun u → Holds (begun ++ Tries upload moment ∷ []) (after_event (upload_begins upload moment u))
      by_phase u h begins (inl (l, inl f)) = over_free read reads from begun upload moment u can dated h l f
      by_phase u h begins (inl (l, inr under)) = absurd (under_way read reads from begun u under begins)
      by_phase u h begins (inr l) = inl (inl (over_lost read reads from begun upload moment u h.unlinked l))
  sent_begins begun upload moment w new can dated (inr (inl on)) e = absurd (fetch_under_way read reads from begun w on e.0)
  sent_begins begun upload moment w new can dated (inr (inr (inl t))) e = absurd (trails_on read reads from begun w t e.0)
  sent_begins begun upload moment w new can dated (inr (inr (inr on))) e = absurd (halts_on read reads from begun w on e.0)

  -- an upload over breaks
  upload_happens : (begun : List Order) (upload : OverBreaks) (moment : ℕ) (w new : World) → moment ≤ last_second → Holds begun w → Happens read (Upload upload moment) w true new
      → Holds (begun ++ Tries upload moment ∷ []) new
  upload_happens begun upload moment w new dated (inl h) e = by_sent (can_be_sent (first_try upload)) refl
    where
      by_sent : (b : Bool) → can_be_sent (first_try upload) ≡ b → Holds (begun ++ Tries upload moment ∷ []) new
      by_sent true can = sent_begins begun upload moment w new can dated h e
      by_sent false cannot = inl (upload_runs read reads from begun upload moment w new cannot h e)
  upload_happens begun upload moment w new dated (inr (inl t)) e = absurd (trying_begins read reads from begun w t e.0)
  upload_happens begun upload moment w new dated (inr (inr t)) e = absurd (tail_begins read reads from begun w t e.0)

  -- what was begun with nothing added is what was begun
  same : (begun : List Order) (w : World) → Holds begun w → Holds (begun ++ []) w
  same begun w h = subst (λ l. Holds l w) (sym (append-nil begun)) h

  -- an event that happens keeps what was begun running, with what it begins
  runs_happen : (begun : List Order) (event : Event) (w new : World) → IsTimed event → Holds begun w → Happens read event w true new → Holds (begun ++ begun_by_event event true) new
  runs_happen begun (Deliver queue count) w new timed h e = same begun new (nothing_begins begun (Deliver queue count) w new tt h e)
  runs_happen begun Open w new timed h e = same begun new (nothing_begins begun Open w new tt h e)
  runs_happen begun Refuse w new timed h e = same begun new (nothing_begins begun Refuse w new tt h e)
  runs_happen begun (End queue) w new timed h e = same begun new (nothing_begins begun (End queue) w new tt h e)
  runs_happen begun Break w new timed h e = same begun new (nothing_begins begun Break w new tt h e)
  runs_happen begun EndControl w new timed h e = same begun new (nothing_begins begun EndControl w new tt h e)
  runs_happen begun (Next op moment) w new timed h e = next_begins begun op moment w new timed h e
  runs_happen begun (Upload upload moment) w new timed h e = upload_happens begun upload moment w new timed h e

  -- an event that is not possible begins nothing
  none_begun : (event : Event) → begun_by_event event false ≡ []
  none_begun (Deliver queue count) = refl
  none_begun Open = refl
  none_begun Refuse = refl
  none_begun (End queue) = refl
  none_begun Break = refl
  none_begun EndControl = refl
  none_begun (Next op moment) = refl
  none_begun (Upload upload moment) = refl

  -- an event, possible or not, keeps what was begun running, with what it begins
  step : (begun : List Order) (event : Event) (possible : Bool) (w new : World) → IsTimed event → Holds begun w → Happens read event w possible new → Holds (begun ++ begun_by_event event possible) new
  step begun event true w new timed h e = runs_happen begun event w new timed h e
  step begun event false w new timed h e =
      subst (Holds (begun ++ begun_by_event event false)) (sym e.1) (subst (λ l. Holds (begun ++ l) w) (sym (none_begun event)) (same begun w h))

  -- every list
  pub over_lead : (before : List Order) (events : List Event) (begun : List Order) (w new : World) → AreTimed events → Holds before w → Leads read w events begun new
      → Holds (before ++ begun) new
  over_lead before [] begun w new timed h leads =
      subst (Holds (before ++ begun)) (sym leads.1) (subst (λ l. Holds (before ++ l) w) (sym leads.0) (same before w h))
  over_lead before (event ∷ events) begun w new timed h leads =
      let here = step before event leads.0 w leads.1 timed.0 h leads.3 in
      let behind = over_lead (before ++ begun_by_event event leads.0) events leads.2 leads.1 new timed.1 here leads.5 in
      subst (λ l. Holds l new) (append_assoc before (begun_by_event event leads.0) leads.2 ∙ ap (λ l. before ++ l) (sym leads.4)) behind

  -- ---- what holds then

  -- it is agreement
  pub over_agree : (begun : List Order) (w : World) → Holds begun w → WorldAgrees from begun w
  over_agree begun w (inl h) = runs_agree read reads from begun w h
  over_agree begun w (inr (inl t)) =
      let g = t.going in
      let a = runs_agree read reads from (orders_alone g) _ t.alone in
      subst (λ b. Agrees from b w.marks w.cutoff w.reports w.far.session.table) (sym g.begun_is)
      (subst (λ m. Agrees from (g.done ++ Tries g.upload g.moment ∷ []) m w.cutoff w.reports w.far.session.table) (sym g.marks_are)
      (subst (λ c. Agrees from (g.done ++ Tries g.upload g.moment ∷ []) (g.marks ++ all_marks g.past g.own ∷ []) c w.reports w.far.session.table) (sym (trying_stands read reads from begun w t))
      (agrees_folded g.upload g.moment g.run g.op g.own g.past g.chain from g.done g.marks w.reports w.far.session.table t.all g.each
      (subst (λ c. Agrees from (orders_alone g) (marks_of g) c (w.reports ++ tried_said g.past) w.far.session.table) (trying_stands read reads from begun w t) a))))
  over_agree begun w (inr (inr t)) = tail_agrees read reads from begun w t

  -- where nothing moves, all that was begun is answered
  pub over_answered : (begun : List Order) (w : World) → Holds begun w → IsStill w → IsAnswered begun w
  over_answered begun w (inl h) still = runs_answered read reads from begun w h still
  over_answered begun w (inr (inl t)) still = absurd (trying_moves read reads from begun w t still)
  over_answered begun w (inr (inr t)) still = absurd (tail_moves read reads from begun w t still)

  -- and nothing is in flight
  pub over_quiet : (begun : List Order) (w : World) → Holds begun w → IsStill w → IsQuiet w
  over_quiet begun w (inl h) still = runs_quiet read reads from begun w h still
  over_quiet begun w (inr (inl t)) still = absurd (trying_moves read reads from begun w t still)
  over_quiet begun w (inr (inr t)) still = absurd (tail_moves read reads from begun w t still)
