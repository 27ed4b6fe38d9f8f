-- An upload over breaks is answered, and the server is still to be told that the link of its last operation is closed.
use Rattle.std.proofs.Common.{◌≡◌, inl, inr, ℕ, suc, ◌+◌, ◌<◌, true, false, List, [], ◌∷◌, ◌++◌, length, Option, Some, None, refl, sym, ap, subst, ◌∙◌, arith, append_assoc, length-append}
use Rattle.std.specs.Prelude.{IsTrue}
use Rattle.ftp_operation.specs.Answer.{Said, Lost as LostSaid}
use Rattle.ftp_direct.specs.Direct.{State}
use Rattle.ftp_client_model.specs.Calls as near
use Rattle.ftp_client_model.specs.View.{View as Near, Idle, fails_by, failed_job}
use Rattle.ftp_client_model.specs.declared.client.Failure.TheVariants as Failures
use Rattle.ftp_client_model.specs.declared.client.Standing.{Standing}
use Rattle.ftp_client_model.specs.declared.client.Standing.TheVariants as Standings
use Rattle.ftp_server_model.specs.Calls as far
use Rattle.ftp_server_model.specs.Machine.{Reading, IsReading}
use Rattle.laws_world.specs.Agreement.{Order, Single, Tries, Agrees, ItemsHold, WorldAgrees}
use Rattle.laws_world.specs.Events.{broken_by, ControlToServer, ControlToClient, DataToServer, DataToClient, Event, Deliver, Open, Refuse, End, Break, EndControl, Next, Upload, Happens, can_begin, can_happen, told, link_breaks, ends_control, is_asked_for, is_left_by_near, is_left_by_far}
use Rattle.laws_world.specs.Serving.{after_event}
use Rattle.laws_world.specs.Still.{IsStill}
use Rattle.laws_world.specs.World.{World, Link, Gone, ClosedByNear, Mark, Broken, gone, marked_last, with_mark}
use Rattle.laws_agreement.specs.Follows.{Follows}
use Rattle.laws_agreement.specs.Over.{Going, orders_alone, marks_of, IsTailing}
use Rattle.laws_agreement.specs.Runs.{IsTrailing}
use Rattle.laws_agreement.specs.Tried.{Tried, tried_orders, tried_marks, tried_said, all_marks}
use Rattle.laws_agreement.proofs.Events.{IsNoBeginning, never}
use Rattle.laws_agreement.proofs.FetchParting.{trailing_parts}
use Rattle.laws_agreement.proofs.FetchTold.{closed_is, marks_last, trailing_ends, trailing_breaks}
use Rattle.laws_agreement.proofs.OverEvents.{all_marked}
use Rattle.laws_agreement.proofs.OverSettles.{with_own}
use Rattle.laws_agreement.proofs.OverFollows.{Ends, Stands, Parts, follows_folded, with_told}
use Rattle.laws_agreement.proofs.Agreeing.{runs_agree}
use Rattle.laws_agreement.proofs.OverItems.{fold}
use Rattle.laws_agreement.proofs.OverServed.{Resting, idle_after}
use Rattle.laws_agreement.proofs.Running.{trailing_taken, trails_deliver, trails_on}

-- as many answers as operations
many_said : (moment : ℕ) (past : List Tried) → length (tried_said past) ≡ length (tried_orders moment past)
many_said moment [] = refl
many_said moment (one ∷ past) = ap suc (many_said moment past)

-- a client that fails has no run, and is idle if it was
fails_run : (standing : Standing) (v : Near) → v.run ≡ None → (fails_by standing Failures.Lost v).run ≡ None
fails_run (Standings.Failed before) v none = none
fails_run Standings.Greeting v none = refl
fails_run Standings.User v none = refl
fails_run Standings.Pass v none = refl
fails_run Standings.Entered v none = refl

-- nor has it something under way where it had nothing
fails_idle : (standing : Standing) (v : Near) → v.job ≡ Idle → (fails_by standing Failures.Lost v).job ≡ Idle
fails_idle (Standings.Failed before) v idle = idle
fails_idle Standings.Greeting v idle = ap (failed_job LostSaid) idle
fails_idle Standings.User v idle = ap (failed_job LostSaid) idle
fails_idle Standings.Pass v idle = ap (failed_job LostSaid) idle
fails_idle Standings.Entered v idle = ap (failed_job LostSaid) idle

module _ (read : Reading) (reads : IsReading read) (from : State) (begun : List Order) (w : World) (t : IsTailing read from begun w) where
  -- each of its operations begun by itself
  abbrev orders : List Order
  orders = orders_alone t.going

  -- the reports of each by itself
  abbrev each : List Said
  each = t.reports ++ (tried_said t.going.past ++ t.said ∷ [])

  -- by itself
  abbrev alone : World
  alone = record w { marks = marks_of t.going; reports = each }

  -- with nothing lent
  abbrev later : World
  later = record alone { taken = [] }

  -- by itself a closed link trails
  trails : IsTrailing from orders later
  trails = trailing_taken from orders [] alone t.alone

  -- the client has nothing under way
  idle : w.near.job ≡ Idle
  idle = ap (λ u. u.near.job) (closed_is read reads from orders alone t.alone)

  -- nor has it a run
  no_run : w.near.run ≡ None
  no_run = ap (λ u. u.near.run) (closed_is read reads from orders alone t.alone)

  -- the client as one without a run
  near_is : w.near ≡ record w.near { run = None }
  near_is = λ i. record w.near { run = no_run i }

  -- the world follows with it behind an event
  folds : (own : List Mark) (a b : World) (cutoff own_cutoff : Option ℕ) (marks : a.marks ≡ t.going.marks ++ all_marks t.going.past own ∷ [])
      → Resting a.marks (t.going.marks ++ (tried_marks t.going.past ++ own ∷ [])) w.reports each cutoff own_cutoff a b
      → Ends read from begun a (with_own a t.going own marks) t.reports t.said t.all t.last own_cutoff cutoff
      → Follows read from orders (after_event b) → Follows read from begun (after_event a)
  folds own a b cutoff own_cutoff marks rests ends h =
      let g = with_own a t.going own marks in
      let r = idle_after a.marks (t.going.marks ++ (tried_marks t.going.past ++ own ∷ [])) w.reports each cutoff own_cutoff a b rests in
      let v : World = after_event b in
      let as_told : after_event a ≡ with_told (t.going.marks ++ all_marks t.going.past own ∷ []) (t.reports ++ t.said ∷ []) cutoff v =
      r.real_is ∙ (λ i. with_told (marks i) (t.reports_are i) cutoff v) in
      subst (Follows read from begun) (sym as_told)
      (follows_folded read from begun a g t.reports t.said t.all t.last v cutoff r.idle r.marks_are r.reports_are (subst (λ c. Ends read from begun a g t.reports t.said t.all t.last c cutoff) (sym r.cutoff_is) ends) h)

  -- the world, with nothing lent
  abbrev real : World
  real = record w { taken = [] }

  -- the control connection stands
  stands : w.cutoff ≡ None
  stands = t.alone.linked.cutoff

  -- the server is told
  tail_ends : Follows read from begun (after_event (told DataToServer real))
  tail_ends =
      let base : World = record later { far = far.data_end w.far; link = Gone; data_to_server = []; data_to_client = [] } in
      folds t.going.own (told DataToServer real) (told DataToServer later) w.cutoff w.cutoff t.going.marks_are
      (record {
        near = w.near;
        base = base;
        real_is = (λ i. record base { near = near_is i; marks = w.marks; reports = w.reports });
        alone_is = (λ i. record base { near = near_is i });
        fine = idle;
        kept = (refl, refl, refl);
      })
      (Stands stands stands) (trailing_ends read reads from orders later trails)

  -- the link breaks
  tail_breaks : Follows read from begun (after_event (link_breaks real))
  tail_breaks =
      let g : Going begun w = t.going in
      let mark : Mark = Broken w.came in
      let own : List Mark = g.own ++ mark ∷ [] in
      let marks_are : marked_last mark w.marks ≡ g.marks ++ all_marks g.past own ∷ [] =
      ap (marked_last mark) g.marks_are ∙ marks_last mark g.marks (all_marks g.past g.own) ∙ ap (λ l. g.marks ++ l ∷ []) (all_marked g.past g.own mark) in
      let own_are : marked_last mark (marks_of g) ≡ g.marks ++ (tried_marks g.past ++ own ∷ []) =
      ap (marked_last mark) (sym (append_assoc g.marks (tried_marks g.past) (g.own ∷ []))) ∙ marks_last mark (g.marks ++ tried_marks g.past) g.own ∙ append_assoc g.marks (tried_marks g.past) (own ∷ []) in
      let link : w.link ≡ ClosedByNear = ap (λ u. u.link) (closed_is read reads from orders alone t.alone) in
      let broken : World → World = λ x. record x { far = far.data_fault x.far; link = Gone; data_to_server = []; data_to_client = []; marks = marked_last mark x.marks } in
      let by_link : Link → World → World = λ l x. with_mark mark (gone (broken_by l x)) in
      let a_is : link_breaks real ≡ broken real = ap (λ l. by_link l real) link in
      let b_is : link_breaks later ≡ broken later = ap (λ l. by_link l later) link in
      let base : World = broken later in
      subst (λ x. Follows read from begun (after_event x)) (sym a_is)
      (folds own (broken real) (broken later) w.cutoff w.cutoff marks_are
      (subst (λ l. Resting (marked_last mark w.marks) l w.reports each w.cutoff w.cutoff (broken real) (broken later)) own_are (record {
        near = w.near;
        base = base;
        real_is = (λ i. record base { near = near_is i; marks = marked_last mark w.marks; reports = w.reports });
        alone_is = (λ i. record base { near = near_is i });
        fine = idle;
        kept = (refl, refl, refl);
      }))
      (Stands stands stands) (subst (λ x. Follows read from orders (after_event x)) b_is (trailing_breaks read reads from orders later trails)))

  -- the control connection ends
  tail_parts : Follows read from begun (after_event (ends_control real))
  unfolding near.control_end
  tail_parts =
      let base : World = ends_control later in
      let n : Near = near.control_end w.near in
      let standing : n ≡ record n { run = None } = (λ i. record n { run = fails_run w.near.standing w.near no_run i }) in
      folds t.going.own (ends_control real) (ends_control later) (Some (length w.marks)) (Some (length (marks_of t.going))) t.going.marks_are
      (record {
        near = n;
        base = base;
        real_is = (λ i. record base { near = standing i; marks = w.marks; reports = w.reports; cutoff = Some (length w.marks) });
        alone_is = (λ i. record base { near = standing i });
        fine = fails_idle w.near.standing w.near idle;
        kept = (refl, refl, refl);
      })
      (Parts refl (ap (λ l. Some (length l)) t.going.marks_are)) (trailing_parts read reads from orders later trails)

  -- ---- every event

  -- an event that begins nothing
  pub tail_happens : (event : Event) (new : World) → IsNoBeginning event → Happens read event w true new → Follows read from begun new
  tail_happens (Deliver ControlToServer count) new plain e = absurd (trails_deliver read reads from orders alone alone t.alone ControlToServer count e.0)
  tail_happens (Deliver ControlToClient count) new plain e = absurd (trails_deliver read reads from orders alone alone t.alone ControlToClient count e.0)
  tail_happens (Deliver DataToServer count) new plain e = absurd (trails_deliver read reads from orders alone alone t.alone DataToServer count e.0)
  tail_happens (Deliver DataToClient count) new plain e = absurd (trails_deliver read reads from orders alone alone t.alone DataToClient count e.0)
  tail_happens Open new plain e = absurd (never _ (ap is_asked_for (closed_is read reads from orders alone t.alone)) e.0)
  tail_happens Refuse new plain e = absurd (never _ (ap is_asked_for (closed_is read reads from orders alone t.alone)) e.0)
  tail_happens (End ControlToServer) new plain e = absurd (never _ (rw (ap is_left_by_near t.alone.linked.control) refl) e.0)
  tail_happens (End ControlToClient) new plain e = absurd (never _ (rw (ap is_left_by_far t.alone.linked.control) refl) e.0)
  tail_happens (End DataToServer) new plain e = subst (Follows read from begun) (sym e.1) tail_ends
  tail_happens (End DataToClient) new plain e = absurd (never _ (ap (can_happen (End DataToClient)) (closed_is read reads from orders alone t.alone)) e.0)
  tail_happens Break new plain e = subst (Follows read from begun) (sym e.1) tail_breaks
  tail_happens EndControl new plain e = subst (Follows read from begun) (sym e.1) tail_parts
  tail_happens (Next op moment) new plain e = absurd plain
  tail_happens (Upload upload moment) new plain e = absurd plain

  -- nothing begins
  pub tail_begins : IsTrue (can_begin w) → ⊥
  tail_begins can = trails_on read reads from orders alone t.alone can

  -- it moves
  pub tail_moves : IsStill w → ⊥
  tail_moves still = let e : true ≡ false = sym (ap (can_happen (End DataToServer)) (closed_is read reads from orders alone t.alone)) ∙ still.ended DataToServer in cc

  -- and agrees
  pub tail_agrees : WorldAgrees from begun w
  tail_agrees = follows_table
    where
      follows_table : WorldAgrees from begun w
      follows_table =
          let g = t.going in
          let a = runs_agree read reads from orders alone (inr (inr (inl t.alone))) in
          let hold : ItemsHold from 0 orders (marks_of g) None each a.items = subst (λ c. ItemsHold from 0 orders (marks_of g) c each a.items) stands a.hold in
          let f = fold g.upload g.moment g.run g.op g.own g.past (Some t.said) None None g.chain t.last t.reports from 0 g.done g.marks a.items t.all g.each (λ k few. tt) (λ k few. tt) hold in
          let more : length t.reports ≡ length g.done = t.all in
          subst (λ b. Agrees from b w.marks w.cutoff w.reports w.far.session.table) (sym g.begun_is)
          (subst (λ m. Agrees from (g.done ++ Tries g.upload g.moment ∷ []) m w.cutoff w.reports w.far.session.table) (sym g.marks_are)
          (subst (λ c. Agrees from (g.done ++ Tries g.upload g.moment ∷ []) (g.marks ++ all_marks g.past g.own ∷ []) c w.reports w.far.session.table) (sym stands)
          (subst (λ r. Agrees from (g.done ++ Tries g.upload g.moment ∷ []) (g.marks ++ all_marks g.past g.own ∷ []) None r w.far.session.table) (sym t.reports_are)
          (record {
            items = f.folded;
            hold = f.hold;
            map_is = elim a.map_is [
              | inl behind ↦ inl (behind ∙ ap (λ s. s.table) (sym f.after))
              | inr before ↦ absurd (let less : length each < length orders = before.0 in omega (arith, less, each_long))
            ];
          }))))
        where
          each_long : length (t.reports ++ (tried_said t.going.past ++ t.said ∷ [])) ≡ length (t.going.done ++ (tried_orders t.going.moment t.going.past ++ Single t.going.op t.going.moment ∷ []))
          each_long =
              length-append t.reports (tried_said t.going.past ++ t.said ∷ []) ∙ (λ i. t.all i + (length-append (tried_said t.going.past) (t.said ∷ []) ∙ ap (λ n. n + 1) (many_said t.going.moment t.going.past) ∙ sym (length-append (tried_orders t.going.moment t.going.past) (Single t.going.op t.going.moment ∷ []))) i)
              ∙ sym (length-append t.going.done (tried_orders t.going.moment t.going.past ++ Single t.going.op t.going.moment ∷ []))
