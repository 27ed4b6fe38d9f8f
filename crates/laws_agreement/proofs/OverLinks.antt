-- Every event of the link keeps what follows of an upload over breaks under way.
use Rattle.std.proofs.Common.{◌≡◌, inl, ℕ, ◌+◌, ◌≤◌, Bool, true, false, List, [], ◌∷◌, ◌++◌, length, take, Some, None, refl, sym, ap, subst, ◌∙◌, arith, append_assoc}
use Rattle.ftp_direct.specs.Direct.{State}
use Rattle.ftp_ends.specs.Link.{is_connecting}
use Rattle.ftp_client_model.specs.Calls as near
use Rattle.ftp_client_model.specs.Calls.{report_of_job}
use Rattle.ftp_client_model.specs.Tries.{is_size}
use Rattle.ftp_server_model.specs.Calls as far
use Rattle.ftp_server_model.specs.Machine.{Reading, IsReading}
use Rattle.laws_world.specs.Agreement.{Order}
use Rattle.laws_world.specs.Events.{DataToServer, DataToClient, pulled, pushed, filled, DeliversBy, link_opens, link_refused, refused_by, told, link_breaks, broken_by, is_asked_for, is_gone, is_closed_by_far, is_closed_by_near}
use Rattle.laws_world.specs.Serving.{after_event}
use Rattle.laws_world.specs.World.{World, Link, Gone, Opened, ClosedByNear, ClosedByFar, Mark, Refused, Broken, marked_last, with_mark, gone}
use Rattle.laws_agreement.specs.Over.{Going, orders_alone, marks_of, IsTrying, OverRuns}
use Rattle.laws_dialogues.specs.Fetches.{Rise}
use Rattle.laws_agreement.specs.Cut.{PlacedAt}
use Rattle.laws_agreement.specs.Rising.{Lift, Offered, Rising, Risen, Settled, Declined, Unjoined, lifts}
use Rattle.laws_agreement.specs.Stages as Stages
use Rattle.laws_agreement.proofs.UploadData.{AtRise}
use Rattle.laws_agreement.specs.Runs.{IsFetching, IsFetchingOn}
use Rattle.laws_agreement.specs.Tried.{tried_marks, tried_said, all_marks}
use Rattle.laws_agreement.proofs.FetchEnds.{breaks_fetching, ends_fetching, opens_fetching, refuses_fetching}
use Rattle.laws_agreement.proofs.FetchRuns as fetches
use Rattle.laws_agreement.proofs.FetchTold.{marks_last}
use Rattle.laws_agreement.proofs.OverClient.{under}
use Rattle.laws_agreement.proofs.OverLink.{data_end_beside, data_fault_beside, data_opened_beside, data_refused_beside}
use Rattle.laws_agreement.proofs.OverMoves as moves
use Rattle.laws_agreement.proofs.OverMoves.{Parted}
use Rattle.laws_agreement.proofs.OverServed.{Working, wants_same}
use Rattle.laws_agreement.proofs.Still.{seen_placed}
use Rattle.laws_agreement.proofs.UploadRuns as uploads
use Rattle.laws_agreement.proofs.OverEvents.{goes_on, same, stands, under_same, parted_same, no_fetch, Mid, mid_after, settles, all_marked}
use Rattle.laws_agreement.proofs.OverSettles.{with_own}

module _ (read : Reading) (reads : IsReading read) (from : State) (begun : List Order) (w : World) (t : IsTrying read from begun w) where
  -- each of its operations begun by itself
  abbrev orders : List Order
  orders = orders_alone t.going

  -- the world by itself, and the world itself
  abbrev alone : World
  alone = record w { near = record t.near { run = None }; marks = marks_of t.going; reports = w.reports ++ tried_said t.going.past; taken = [] }

  -- the world, whose client has the run
  abbrev real : World
  real = record w { near = record t.near { run = Some t.going.run }; taken = [] }

  -- two worlds that are at the same
  abbrev Same : World → World → Type 0
  Same a b = Working t.going.run t.going.op w.marks (marks_of t.going) w.reports (w.reports ++ tried_said t.going.past) w.cutoff w.cutoff a b

  -- ---- octets of the link

  -- those of an upload, while they are given or taken
  pub delivers_up : (none : Bool) (count : ℕ) (new : World) (on : IsFetchingOn read from orders alone) → uploads.Climbing read reads from orders alone on.fetching alone
      → DeliversBy none read DataToServer count real new → OverRuns read from begun new
  delivers_up none count new on climbing d = by_none none d
    where
      f : IsFetching read from orders alone
      f = on.fetching

      first : uploads.Moved read reads from orders alone on.fetching alone
      first = record { climbing = climbing; kept = fetches.no_change read reads from orders alone }

      -- nothing is told then
      untold : (b : World) → uploads.Moved read reads from orders alone on.fetching b → report_of_job b.near.job ≡ None
      untold b m = by_lift m.climbing.here.rise m.climbing.here.lift m.climbing.here.rises m.climbing.here.holds
        where
          s : PlacedAt (AtRise read on.fetching.now on.fetching.ask on.fetching.own) b
          s = m.climbing

          by_lift : (rise : Rise) (lift : Lift) → lifts lift ≡ true → Stages.Holds on.fetching.now on.fetching.ask on.fetching.own (Stages.Rises rise lift) m.climbing.way m.climbing.base → report_of_job b.near.job ≡ None
          by_lift rise (Rising past octet more came queue mark notes) rises h = ap report_of_job ((seen_placed _ b m.climbing).job ∙ ap (λ v. v.job) h.near)
          by_lift rise (Risen past closed came queue mark notes) rises h = ap report_of_job ((seen_placed _ b m.climbing).job ∙ ap (λ v. v.job) h.near)
          by_lift rise Offered rises h = absurd (cc)
          by_lift rise (Settled started mark notes fate left after) rises h = absurd (cc)
          by_lift rise (Declined why door) rises h = absurd (cc)
          by_lift rise Unjoined rises h = absurd (cc)

      pulls : (gave : ℕ) (a b : World) → uploads.Moved read reads from orders alone on.fetching b → Same a b → Same (pulled DataToServer a gave) (pulled DataToServer b gave)
      pulls gave a b m both =
          moves.parted_both t.going.run t.going.op w.marks (marks_of t.going) w.reports (w.reports ++ tried_said t.going.past) w.cutoff w.cutoff (pulled DataToServer a gave) (pulled DataToServer b gave)
          (untold (pulled DataToServer b gave) (uploads.moved_pulls read reads from orders gave alone on.fetching b m))
          (moves.pulled_up t.going.run t.going.op w.marks (marks_of t.going) w.reports (w.reports ++ tried_said t.going.past) w.cutoff w.cutoff gave a b both)

      fills : (counts : List ℕ) (a b : World) → uploads.Moved read reads from orders alone on.fetching b → Same a b → Same (filled DataToServer a counts) (filled DataToServer b counts)
      fills [] a b m both = both
      fills (gave ∷ counts) a b m both = fills counts (pulled DataToServer a gave) (pulled DataToServer b gave) (uploads.moved_pulls read reads from orders gave alone on.fetching b m) (pulls gave a b m both)

      never_size : is_size t.going.op ≡ true → ⊥
      never_size size = no_fetch read reads from begun w t on.fetching size

      by_none : (none : Bool) → DeliversBy none read DataToServer count real new → OverRuns read from begun new
      by_none true m =
          let b : World = pulled DataToServer alone m.gave in
          subst (OverRuns read from begun) (sym m.is) (under_same read reads from begun w t (pulled DataToServer real m.gave) b (pulls m.gave real alone first (same read reads from begun w t))
          (mid_after read reads from begun orders b (inl (uploads.moved_is read reads from orders alone on.fetching b (uploads.moved_pulls read reads from orders m.gave alone on.fetching alone first)))) (λ size. absurd (never_size size)))
      by_none false d =
          let a : World = filled DataToServer real d.counts in
          let b : World = filled DataToServer alone d.counts in
          let full = fills d.counts real alone first (same read reads from begun w t) in
          let octets : List ℕ = take d.taken a.data_to_server in
          let lent = moves.lent_both t.going.run t.going.op w.marks (marks_of t.going) w.reports (w.reports ++ tried_said t.going.past) w.cutoff w.cutoff octets a b full in
          let x : World = record a { taken = octets } in
          let y : World = record b { taken = octets } in
          let queues : a.data_to_server ≡ b.data_to_server = ap (λ u. u.data_to_server) full.real_is ∙ ap (λ u. u.data_to_server) (sym full.alone_is) in
          let few : d.taken ≤ length b.data_to_server = omega (arith, d.takes.within, ap length queues) in
          let moved = uploads.moved_pushes read reads from orders d.taken alone on.fetching y few
          (uploads.moved_taken read reads from orders octets alone on.fetching b (uploads.moved_filled read reads from orders d.counts alone on.fetching alone first)) in
          subst (OverRuns read from begun) (sym d.is) (under_same read reads from begun w t (pushed read DataToServer d.taken x) (pushed read DataToServer d.taken y)
          (moves.pushed_up t.going.run t.going.op w.marks (marks_of t.going) w.reports (w.reports ++ tried_said t.going.past) w.cutoff w.cutoff read d.taken x y lent)
          (mid_after read reads from begun orders (pushed read DataToServer d.taken y) (inl (uploads.moved_is read reads from orders alone on.fetching (pushed read DataToServer d.taken y) moved))) (λ size. absurd (never_size size)))

  -- those of a download
  pub delivers_down : (none : Bool) (count : ℕ) (new : World) (on : IsFetchingOn read from orders alone) → fetches.Flowing read reads from orders alone on.fetching alone
      → DeliversBy none read DataToClient count real new → OverRuns read from begun new
  delivers_down none count new on flowing d = by_none none d
    where
      first : fetches.Moved read reads from orders alone on.fetching alone
      first = record { flowing = flowing; kept = fetches.no_change read reads from orders alone }

      by_none : (none : Bool) → DeliversBy none read DataToClient count real new → OverRuns read from begun new
      by_none true m =
          let b : World = pulled DataToClient alone m.gave in
          subst (OverRuns read from begun) (sym m.is) (under_same read reads from begun w t (pulled DataToClient real m.gave) b
          (moves.pulled_down t.going.run t.going.op w.marks (marks_of t.going) w.reports (w.reports ++ tried_said t.going.past) w.cutoff w.cutoff m.gave real alone (same read reads from begun w t))
          (mid_after read reads from begun orders b (inl (fetches.moved_is read reads from orders alone on.fetching b (fetches.moved_pulls read reads from orders m.gave alone on.fetching alone first)))) (λ size. absurd (no_fetch read reads from begun w t on.fetching size)))
      by_none false d =
          let a : World = filled DataToClient real d.counts in
          let b : World = filled DataToClient alone d.counts in
          let full = moves.filled_down t.going.run t.going.op w.marks (marks_of t.going) w.reports (w.reports ++ tried_said t.going.past) w.cutoff w.cutoff d.counts real alone (same read reads from begun w t) in
          let octets : List ℕ = take d.taken a.data_to_client in
          let lent = moves.lent_both t.going.run t.going.op w.marks (marks_of t.going) w.reports (w.reports ++ tried_said t.going.past) w.cutoff w.cutoff octets a b full in
          let x : World = record a { taken = octets } in
          let y : World = record b { taken = octets } in
          let queues : a.data_to_client ≡ b.data_to_client = ap (λ u. u.data_to_client) full.real_is ∙ ap (λ u. u.data_to_client) (sym full.alone_is) in
          let few : d.taken ≤ length b.data_to_client = omega (arith, d.takes.within, ap length queues) in
          let moved = fetches.moved_pushes read reads from orders d.taken alone on.fetching y few
          (fetches.moved_taken read reads from orders octets alone on.fetching b (fetches.moved_filled read reads from orders d.counts alone on.fetching alone first)) in
          subst (OverRuns read from begun) (sym d.is) (under_same read reads from begun w t (pushed read DataToClient d.taken x) (pushed read DataToClient d.taken y)
          (moves.pushed_down t.going.run t.going.op w.marks (marks_of t.going) w.reports (w.reports ++ tried_said t.going.past) w.cutoff w.cutoff read d.taken x y lent)
          (mid_after read reads from begun orders (pushed read DataToClient d.taken y) (inl (goes_on read reads from begun w t on.fetching (pushed read DataToClient d.taken y) moved))) (λ size. absurd (no_fetch read reads from begun w t on.fetching size)))

  -- ---- the link

  -- two worlds that are at the same, or whose client with the run has turned
  abbrev Turns : List (List Mark) → List (List Mark) → World → World → Type 0
  Turns marks own_marks a b = Parted t.going.run t.going.op marks own_marks w.reports (w.reports ++ tried_said t.going.past) w.cutoff w.cutoff a b

  -- it opens
  pub opens : (on : IsFetchingOn read from orders alone) → is_asked_for alone ≡ true → OverRuns read from begun (after_event (link_opens real))
  opens on asks =
      parted_same read reads from begun w t (link_opens real) (link_opens alone) (record {
        real_near = near.data_opened w.far.context.here real.near;
        alone_near = near.data_opened w.far.context.here alone.near;
        base = record alone { link = Opened; came = 0; far = far.data_opened t.near.here w.far };
        real_is = refl;
        alone_is = refl;
        beside = data_opened_beside t.going.run t.going.op w.far.context.here t.near t.works;
        kept = (refl, refl, refl);
      })
      (inl (goes_on read reads from begun w t on.fetching (link_opens alone) (opens_fetching read reads from orders alone on asks))) (λ size. absurd (no_fetch read reads from begun w t on.fetching size))

  -- with a mark more
  parted_marked : (mark : Mark) (a b : World) → Turns (marked_last mark w.marks) (marked_last mark (marks_of t.going)) a b → Mid read reads from begun orders b → (is_size t.going.op ≡ true → b.far.context.moment ≡ t.going.moment)
      → OverRuns read from begun (after_event a)
  parted_marked mark a b p mid timed =
      let g : Going begun w = t.going in
      let own : List Mark = g.own ++ mark ∷ [] in
      let marks : a.marks ≡ marked_last mark w.marks = ap (λ u. u.marks) p.real_is in
      let marks_are : marked_last mark w.marks ≡ g.marks ++ all_marks g.past own ∷ [] =
      ap (marked_last mark) g.marks_are ∙ marks_last mark g.marks (all_marks g.past g.own) ∙ ap (λ l. g.marks ++ l ∷ []) (all_marked g.past g.own mark) in
      let own_are : marked_last mark (marks_of g) ≡ g.marks ++ (tried_marks g.past ++ own ∷ []) =
      ap (marked_last mark) (sym (append_assoc g.marks (tried_marks g.past) (g.own ∷ []))) ∙ marks_last mark (g.marks ++ tried_marks g.past) g.own ∙ append_assoc g.marks (tried_marks g.past) (own ∷ []) in
      settles read reads from begun a b (with_own a g own (marks ∙ marks_are)) w.reports w.cutoff (stands read reads from begun w t) t.all
      (subst (λ l. Turns a.marks l a b) own_are (subst (λ l. Turns l (marked_last mark (marks_of g)) a b) (sym marks) p)) mid timed

  -- it is refused
  pub refuses : (on : IsFetchingOn read from orders alone) → is_asked_for alone ≡ true → OverRuns read from begun (after_event (link_refused real))
  refuses on asks =
      subst (λ u. OverRuns read from begun (after_event u)) (sym (ap (λ q. with_mark Refused (refused_by (is_connecting q) real)) wants_are))
      (parted_marked Refused (with_mark Refused (refused_by connects real)) (with_mark Refused (refused_by connects alone)) (by connects)
      (inl (refuses_fetching read reads from orders alone on asks)) (λ size. absurd (no_fetch read reads from begun w t on.fetching size)))
    where
      wants_are : near.wants real.near ≡ near.wants alone.near
      wants_are = wants_same (Some t.going.run) t.near ∙ sym (wants_same None t.near)

      connects : Bool
      connects = is_connecting (near.wants alone.near)

      by : (c : Bool) → Turns (marked_last Refused w.marks) (marked_last Refused (marks_of t.going)) (with_mark Refused (refused_by c real)) (with_mark Refused (refused_by c alone))
      by true = record {
        real_near = near.data_refused real.near;
        alone_near = near.data_refused alone.near;
        base = record alone { marks = marked_last Refused (marks_of t.going) };
        real_is = refl;
        alone_is = refl;
        beside = data_refused_beside t.going.run t.going.op t.near t.works;
        kept = (refl, refl, refl);
      }
      by false = record {
        real_near = real.near;
        alone_near = alone.near;
        base = record alone { marks = marked_last Refused (marks_of t.going); far = far.data_refused w.far };
        real_is = refl;
        alone_is = refl;
        beside = under t.going.run t.going.op t.near t.works;
        kept = (refl, refl, refl);
      }

  -- the server has closed it, and the client is told
  pub ends_client : (on : IsFetchingOn read from orders alone) → is_closed_by_far w.link ≡ true → w.data_to_client ≡ [] → OverRuns read from begun (after_event (told DataToClient real))
  ends_client on left empty =
      parted_same read reads from begun w t (told DataToClient real) (told DataToClient alone) (record {
        real_near = near.data_end real.near;
        alone_near = near.data_end alone.near;
        base = record alone { link = Gone; data_to_server = []; data_to_client = [] };
        real_is = refl;
        alone_is = refl;
        beside = data_end_beside t.going.run t.going.op t.near t.works;
        kept = (refl, refl, refl);
      })
      (inl (ends_fetching read reads from orders alone on left empty)) (λ size. absurd (no_fetch read reads from begun w t on.fetching size))

  -- the client has closed it, and the server is told
  pub ends_server : (on : IsFetchingOn read from orders alone) → uploads.Climbing read reads from orders alone on.fetching alone → is_closed_by_near w.link ≡ true → w.data_to_server ≡ []
      → OverRuns read from begun (after_event (told DataToServer real))
  ends_server on climbing closed empty =
      under_same read reads from begun w t (told DataToServer real) (told DataToServer alone)
      (record {
        near = t.near;
        base = record alone { far = far.data_end w.far; link = Gone; data_to_server = []; data_to_client = [] };
        real_is = refl;
        alone_is = refl;
        fine = t.works;
        kept = (refl, refl, refl);
      })
      (uploads.upload_ends read reads from orders alone on.fetching climbing closed empty) (λ size. absurd (no_fetch read reads from begun w t on.fetching size))

  -- it breaks
  pub breaks : (on : IsFetchingOn read from orders alone) → is_gone w.link ≡ false → OverRuns read from begun (after_event (link_breaks real))
  breaks on some =
      parted_marked (Broken w.came) (link_breaks real) (link_breaks alone) (by w.link)
      (inl (breaks_fetching read reads from orders alone on some)) (λ size. absurd (no_fetch read reads from begun w t on.fetching size))
    where
      base : World
      base = record alone { marks = marked_last (Broken w.came) (marks_of t.going); link = Gone; data_to_server = []; data_to_client = [] }

      by : (link : Link) → Turns (marked_last (Broken w.came) w.marks) (marked_last (Broken w.came) (marks_of t.going)) (with_mark (Broken w.came) (gone (broken_by link real))) (with_mark (Broken w.came) (gone (broken_by link alone)))
      by Gone = record { real_near = real.near; alone_near = alone.near; base = base; real_is = refl; alone_is = refl; beside = under t.going.run t.going.op t.near t.works; kept = (refl, refl, refl) }
      by Opened = record {
        real_near = near.data_fault real.near;
        alone_near = near.data_fault alone.near;
        base = record base { far = far.data_fault w.far };
        real_is = refl;
        alone_is = refl;
        beside = data_fault_beside t.going.run t.going.op t.near t.works;
        kept = (refl, refl, refl);
      }
      by ClosedByNear =
          record { real_near = real.near; alone_near = alone.near; base = record base { far = far.data_fault w.far }; real_is = refl; alone_is = refl; beside = under t.going.run t.going.op t.near t.works; kept = (refl, refl, refl) }
      by ClosedByFar = record {
        real_near = near.data_fault real.near;
        alone_near = near.data_fault alone.near;
        base = base;
        real_is = refl;
        alone_is = refl;
        beside = data_fault_beside t.going.run t.going.op t.near t.works;
        kept = (refl, refl, refl);
      }
