-- Every event that begins nothing keeps what follows of an upload over breaks under way.
use Rattle.std.proofs.Common.{◌≡◌, inl, inr, ℕ, ◌+◌, ◌==◌, Bool, true, false, not, ◌&&◌, List, [], ◌++◌, length, Option, Some, None, refl, sym, ap, subst, ◌∙◌}
use Rattle.std.specs.Prelude.{IsTrue}
use Rattle.ftp_direct.specs.Direct.{State}
use Rattle.ftp_ends.specs.Link.{is_wanted}
use Rattle.ftp_ends.specs.Octets.{has_octets}
use Rattle.ftp_client_model.specs.Calls as near
use Rattle.ftp_client_model.specs.Calls.{is_busy_job, report_of_job}
use Rattle.ftp_client_model.specs.View.{View as Near, Job, Idle, Waiting, Doing, Transferring, Told as Answered}
use Rattle.ftp_client_model.specs.declared.client.ClientLink.{ClientLink}
use Rattle.ftp_server_model.specs.Calls as far
use Rattle.ftp_server_model.specs.Machine.{Reading, IsReading}
use Rattle.laws_world.specs.Agreement.{Order}
use Rattle.laws_world.specs.Events.{Does, can_begin, Queue, ControlToServer, ControlToClient, DataToServer, DataToClient, Event, Deliver, Open, Refuse, End, Break, EndControl, Next, Upload, Happens, can_happen, ends_control, is_asked_for, is_gone, is_closed_by_far, is_closed_by_near, is_left_by_near, is_left_by_far}
use Rattle.laws_world.specs.Serving.{after_event}
use Rattle.laws_world.specs.World.{World}
use Rattle.laws_agreement.specs.Follows.{Follows}
use Rattle.laws_agreement.specs.Over.{orders_alone, marks_of, IsTrying, OverRuns}
use Rattle.laws_agreement.specs.Tried.{tried_said, IsUnderWay}
use Rattle.laws_agreement.proofs.Events.{IsNoBeginning, both_false, never, no_data}
use Rattle.laws_agreement.proofs.FetchParting.{fetch_parts}
use Rattle.laws_agreement.proofs.FetchQuiet.{runs_answered}
use Rattle.laws_world.specs.Still.{IsStill}
use Rattle.laws_agreement.proofs.FetchWants.{flows_or_none, rises_or_none}
use Rattle.laws_agreement.proofs.OverClient.{Beside, Under, Behind}
use Rattle.laws_agreement.proofs.OverLink.{control_end_beside, control_end_none}
use Rattle.laws_agreement.proofs.OverFollows.{Parts}
use Rattle.laws_agreement.proofs.OverServed.{wants_same, working_after}
use Rattle.laws_agreement.proofs.OverSettles.{Turned, settle_end, with_own}
use Rattle.laws_agreement.proofs.Parting.{parts_from_under}
use Rattle.laws_agreement.proofs.Phases.{HasFollowed}
use Rattle.laws_agreement.proofs.Running.{no_octet, not_so, three_parts}
use Rattle.laws_agreement.proofs.OverEvents.{Fetch, Plain, Way, way, stands, delivers_server, delivers_client, works_busy, real_is}
use Rattle.laws_agreement.proofs.OverLinks.{delivers_up, delivers_down, opens, refuses, ends_client, ends_server, breaks}

module _ (read : Reading) (reads : IsReading read) (from : State) (begun : List Order) (w : World) (t : IsTrying read from begun w) where
  -- each of its operations begun by itself
  abbrev orders : List Order
  orders = orders_alone t.going

  -- the world by itself, and the world itself
  abbrev alone : World
  alone = record w { near = record t.near { run = None }; marks = marks_of t.going; reports = w.reports ++ tried_said t.going.past; taken = [] }

  -- the world, whose client has the run
  abbrev real : World
  real = record w { near = record t.near { run = Some t.going.run }; taken = [] }

  -- ---- the control connection ends

  -- where it ends the upload is answered, and the world follows
  ends_control_so : Follows read from orders (after_event (ends_control alone)) → OverRuns read from begun (after_event (ends_control real))
  ends_control_so h = by_beside (near.control_end real.near) (near.control_end alone.near) refl refl (control_end_beside t.going.run t.going.op t.near t.works)
    where
      c : Option ℕ
      c = Some (length w.marks)

      d : Option ℕ
      d = Some (length (marks_of t.going))

      base : World
      base = record (ends_control alone) { near = alone.near }

      by_beside : (x y : Near) → ends_control real ≡ record base { near = x; marks = w.marks; reports = w.reports; cutoff = c } → ends_control alone ≡ record base { near = y } → Beside t.going.run t.going.op x y
          → OverRuns read from begun (after_event (ends_control real))
      by_beside x y real_is alone_is (Under n x_is y_is works) =
          let by_real : Near → World = λ v. record base { near = v; marks = w.marks; reports = w.reports; cutoff = c } in
          let by_alone : Near → World = λ v. record base { near = v } in
          let m = working_after t.going.run t.going.op w.marks (marks_of t.going) w.reports (w.reports ++ tried_said t.going.past) c d (ends_control real) (ends_control alone)
          (record { near = n; base = base; real_is = real_is ∙ ap by_real x_is; alone_is = alone_is ∙ ap by_alone y_is; fine = works; kept = (refl, refl, refl) }) in
          elim h.phase [
            | inl linked ↦ absurd (let e : None ≡ d = sym linked.0.cutoff ∙ ap (λ u. u.cutoff) m.alone_is ∙ m.kept.2 in cc)
            | inr l ↦ works_busy t.going.op m.near m.fine (ap (λ u. u.near.job) (sym m.alone_is) ∙ l.near.job)
          ]
      by_beside x y real_is alone_is (Behind n said y_is x_is) =
          let by_real : Near → World = λ v. record base { near = v; marks = w.marks; reports = w.reports; cutoff = c } in
          let by_alone : Near → World = λ v. record base { near = v } in
          let turned : Turned t.going.run t.going.op said w.marks (marks_of t.going) w.reports (w.reports ++ tried_said t.going.past) c d (ends_control real) (ends_control alone) =
          record { near = n; base = base; alone_is = alone_is ∙ ap by_alone y_is; real_is = real_is ∙ ap by_real x_is; kept = (refl, refl, refl) } in
          settle_end read reads from begun (ends_control real) (ends_control alone) (with_own (ends_control real) t.going t.going.own t.going.marks_are) w.reports c d said t.all turned
          (control_end_none t.going.run t.going.op t.near said t.works (ap (λ u. u.near.job) alone_is ∙ ap (λ v. v.job) y_is))
          (Parts refl (ap (λ l. Some (length l)) t.going.marks_are)) (inl h)

  -- nobody has left the control connection
  plain_near : HasFollowed read from orders alone → is_left_by_near w.control ≡ false
  plain_near h = elim h.phase [ inl linked ↦ ap is_left_by_near linked.0.control | inr l ↦ ap is_left_by_near l.control ]

  -- nor has the server left it
  plain_far : HasFollowed read from orders alone → is_left_by_far w.control ≡ false
  plain_far h = elim h.phase [ inl linked ↦ ap is_left_by_far linked.0.control | inr l ↦ ap is_left_by_far l.control ]

  -- ---- every event

  -- what is possible over the link is possible by itself
  can_up : (count : ℕ) → IsTrue (can_happen (Deliver DataToServer count) w) → IsTrue (can_happen (Deliver DataToServer count) alone)
  can_up count can = subst (λ n. IsTrue (can_happen (Deliver DataToServer count) (record w { near = n }))) t.near_is can

  -- so it is of octets to the client
  can_down : (count : ℕ) → IsTrue (can_happen (Deliver DataToClient count) w) → IsTrue (can_happen (Deliver DataToClient count) alone)
  can_down count can = subst (λ n. IsTrue (can_happen (Deliver DataToClient count) (record w { near = n }))) t.near_is can

  -- a link is asked for by itself too
  asks_alone : IsTrue (is_asked_for w) → is_asked_for alone ≡ true
  asks_alone asks = ap (λ q. is_gone w.link && is_wanted q (far.wants w.far)) (wants_same None t.near ∙ sym (ap near.wants t.near_is ∙ wants_same (Some t.going.run) t.near)) ∙ asks

  -- what follows by itself
  plain_follows : HasFollowed read from orders alone → report_of_job alone.near.job ≡ None → Follows read from orders alone
  plain_follows h untold = record { unlinked = h.unlinked; untold = untold; phase = h.phase }

  -- by whether it has a link
  happens_on : (event : Event) (new : World) → IsNoBeginning event → Way read reads from begun w t → IsTrue (can_happen event w) → Does read event real new → OverRuns read from begun new
  happens_on (Deliver ControlToServer count) new plain by_way can does = delivers_server read reads from begun w t (count == 0) count new by_way does
  happens_on (Deliver ControlToClient count) new plain by_way can does = delivers_client read reads from begun w t (count == 0) count new by_way does
  happens_on (Deliver DataToServer count) new plain (Fetch on) can does =
      let f = on.fetching in
      elim (rises_or_none read f.now f.ask f.is_ask.plan f.own alone f.stands on.lasts) [
        | inl rising ↦ delivers_up read reads from begun w t (count == 0) count new on rising does
        | inr none ↦ absurd (never (can_happen (Deliver DataToServer count) alone) (both_false (near.to_give alone.near) alone.data_to_server _ (not (count == 0)) _ none.due none.queue) (can_up count can))
      ]
  happens_on (Deliver DataToServer count) new plain (Plain h u untold) can does =
      absurd (never (can_happen (Deliver DataToServer count) alone)
      (both_false (near.to_give alone.near) alone.data_to_server _ (not (count == 0)) _ (no_data read from orders alone (plain_follows h untold)).near_gives h.unlinked.to_server) (can_up count can))
  happens_on (Deliver DataToClient count) new plain (Fetch on) can does =
      let f = on.fetching in
      elim (flows_or_none read f.now f.ask f.is_ask.plan f.own alone f.stands on.lasts) [
        | inl flowing ↦ delivers_down read reads from begun w t (count == 0) count new on flowing does
        | inr none ↦ absurd (never (can_happen (Deliver DataToClient count) alone) (both_false (far.to_give alone.far) alone.data_to_client _ (not (count == 0)) _ none.0 none.1) (can_down count can))
      ]
  happens_on (Deliver DataToClient count) new plain (Plain h u untold) can does =
      absurd (never (can_happen (Deliver DataToClient count) alone)
      (both_false (far.to_give alone.far) alone.data_to_client _ (not (count == 0)) _ (no_data read from orders alone (plain_follows h untold)).far_gives h.unlinked.to_client) (can_down count can))
  happens_on Open new plain (Fetch on) can does = subst (OverRuns read from begun) (sym does) (opens read reads from begun w t on (asks_alone can))
  happens_on Open new plain (Plain h u untold) can does = absurd (never (is_asked_for alone) (no_data read from orders alone (plain_follows h untold)).asks (asks_alone can))
  happens_on Refuse new plain (Fetch on) can does = subst (OverRuns read from begun) (sym does) (refuses read reads from begun w t on (asks_alone can))
  happens_on Refuse new plain (Plain h u untold) can does = absurd (never (is_asked_for alone) (no_data read from orders alone (plain_follows h untold)).asks (asks_alone can))
  happens_on (End ControlToServer) new plain (Fetch on) can does = absurd (never _ (rw (ap is_left_by_near on.fetching.linked.control) refl) can)
  happens_on (End ControlToServer) new plain (Plain h u untold) can does = absurd (never _ (rw (plain_near h) refl) can)
  happens_on (End ControlToClient) new plain (Fetch on) can does = absurd (never _ (rw (ap is_left_by_far on.fetching.linked.control) refl) can)
  happens_on (End ControlToClient) new plain (Plain h u untold) can does = absurd (never _ (rw (plain_far h) refl) can)
  happens_on (End DataToServer) new plain (Fetch on) can does =
      let f = on.fetching in
      let closed = three_parts (is_closed_by_near w.link) (not (has_octets w.data_to_server)) _ can in
      elim (rises_or_none read f.now f.ask f.is_ask.plan f.own alone f.stands on.lasts) [
        | inl rising ↦ subst (OverRuns read from begun) (sym does) (ends_server read reads from begun w t on rising closed.0 (no_octet w.data_to_server closed.1))
        | inr none ↦ absurd (let no_end : false ≡ true = sym none.closed ∙ closed.0 in cc)
      ]
  happens_on (End DataToServer) new plain (Plain h u untold) can does = absurd (never _ (rw h.unlinked.link refl) can)
  happens_on (End DataToClient) new plain (Fetch on) can does =
      let left = three_parts (is_closed_by_far w.link) (not (has_octets w.data_to_client)) _ can in
      subst (OverRuns read from begun) (sym does) (ends_client read reads from begun w t on left.0 (no_octet w.data_to_client left.1))
  happens_on (End DataToClient) new plain (Plain h u untold) can does = absurd (never _ (rw h.unlinked.link refl) can)
  happens_on Break new plain (Fetch on) can does = subst (OverRuns read from begun) (sym does) (breaks read reads from begun w t on (not_so (is_gone w.link) can))
  happens_on Break new plain (Plain h u untold) can does = absurd (never _ (rw h.unlinked.link refl) can)
  happens_on EndControl new plain (Fetch on) can does = subst (OverRuns read from begun) (sym does) (ends_control_so (fetch_parts read from orders alone on))
  happens_on EndControl new plain (Plain h u untold) can does = subst (OverRuns read from begun) (sym does) (ends_control_so (parts_from_under read from orders alone h.unlinked untold u))
  happens_on (Next op moment) new plain by_way can does = absurd plain
  happens_on (Upload upload moment) new plain by_way can does = absurd plain

  -- an event that begins nothing
  pub trying_happens : (event : Event) (new : World) → IsNoBeginning event → Happens read event w true new → OverRuns read from begun new
  trying_happens event new plain e = happens_on event new plain (way read reads from begun w t) e.0 (subst (λ x. Does read event x new) (real_is read reads from begun w t) e.1)

  -- and nothing begins
  pub trying_begins : IsTrue (can_begin w) → ⊥
  trying_begins can = never (can_begin w) (ap (λ (b : Bool). not b && is_gone w.link && not (is_asked_for w)) (ap (λ n. is_busy_job n.job) t.near_is ∙ busy t.near.job t.near.connection t.works)) can
    where
      busy : (job : Job) (connection : ClientLink) → IsUnderWay t.going.op job connection → is_busy_job job ≡ true
      busy (Waiting op) connection works = refl
      busy (Doing op step) connection works = refl
      busy (Transferring op transfer) connection works = refl
      busy Idle connection works = absurd works
      busy (Answered said) connection works = absurd works

  -- the control connection stands while it is under way
  pub trying_stands : w.cutoff ≡ None
  trying_stands = stands read reads from begun w t

  -- a world by itself moves
  pub trying_moves : IsStill w → ⊥
  trying_moves still =
      let answered = runs_answered read reads from orders _ t.alone (still_alone still) in
      alone_begins (answered.free)
    where
      free_of : World
      free_of = record w { near = record t.near { run = None }; marks = marks_of t.going; reports = w.reports ++ tried_said t.going.past }

      still_as : (x : World) → w ≡ x → IsStill w → IsStill x
      still_as x is s = subst IsStill is s

      still_alone : IsStill w → IsStill free_of
      still_alone s =
          let r = still_as (record w { near = record t.near { run = Some t.going.run } }) (λ i. record w { near = t.near_is i }) s in
          record {
            moved = λ queue count some few. moved_as queue count (r.moved queue count some few);
            opened = ap (λ q. is_gone w.link && is_wanted q (far.wants w.far)) (wants_same None t.near ∙ sym (wants_same (Some t.going.run) t.near)) ∙ r.opened;
            ended = λ queue. ended_as queue (r.ended queue);
          }
        where
          moved_as : (queue : Queue) (count : ℕ) → can_happen (Deliver queue count) (record w { near = record t.near { run = Some t.going.run } }) ≡ false → can_happen (Deliver queue count) free_of ≡ false
          moved_as ControlToServer count is = is
          moved_as ControlToClient count is = is
          moved_as DataToServer count is = is
          moved_as DataToClient count is = is

          ended_as : (queue : Queue) → can_happen (End queue) (record w { near = record t.near { run = Some t.going.run } }) ≡ false → can_happen (End queue) free_of ≡ false
          ended_as ControlToServer is = is
          ended_as ControlToClient is = is
          ended_as DataToServer is = is
          ended_as DataToClient is = is

      alone_begins : IsTrue (can_begin free_of) → ⊥
      alone_begins can = never (can_begin free_of) (ap (λ (b : Bool). not b && is_gone w.link && not (is_asked_for free_of)) (busy t.near.job t.near.connection t.works)) can
        where
          busy : (job : Job) (connection : ClientLink) → IsUnderWay t.going.op job connection → is_busy_job job ≡ true
          busy (Waiting op) connection works = refl
          busy (Doing op step) connection works = refl
          busy (Transferring op transfer) connection works = refl
          busy Idle connection works = absurd works
          busy (Answered said) connection works = absurd works
