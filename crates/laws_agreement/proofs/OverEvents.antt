-- An upload over breaks under way, behind an event, and octets of the control connection.
use Rattle.std.proofs.Common.{◌≡◌, ◌⊎◌, inl, inr, ℕ, ◌+◌, ◌≤◌, Bool, true, false, List, [], ◌∷◌, ◌++◌, length, take, Option, Some, None, refl, sym, ap, subst, ◌∙◌, arith, append_assoc}
use Rattle.ftp_operation.specs.Answer.{Said}
use Rattle.ftp_operation.specs.declared.op.Op.{Op}
use Rattle.ftp_direct.specs.Direct.{State}
use Rattle.ftp_client_model.specs.Calls.{report_of_job}
use Rattle.ftp_client_model.specs.Tries.{is_size, next_in}
use Rattle.ftp_client_model.specs.View.{View as Near, Idle, Told as Answered}
use Rattle.ftp_server_model.specs.Machine.{Reading, IsReading}
use Rattle.laws_world.specs.Agreement.{Order, Single}
use Rattle.laws_world.specs.Events.{ControlToServer, ControlToClient, pulled, pushed, filled, DeliversBy, told}
use Rattle.laws_world.specs.Serving.{after_event}
use Rattle.laws_world.specs.World.{World, Mark}
use Rattle.laws_agreement.specs.Follows.{IsUnder, Phase, Follows}
use Rattle.laws_agreement.specs.Over.{Going, orders_alone, marks_of, IsTrying, OverRuns}
use Rattle.ftp_client_model.specs.Plan.{how_of}
use Rattle.laws_agreement.proofs.OverTries.{kind_of}
use Rattle.laws_agreement.specs.Runs.{IsFetching, IsFetchingOn, Runs}
use Rattle.laws_agreement.specs.Tried.{Tried, tried_orders, tried_said, all_marks, IsUnderWay}
use Rattle.laws_agreement.proofs.Deliveries as plain
use Rattle.laws_agreement.proofs.Events.{lent_again}
use Rattle.laws_agreement.proofs.FetchRuns as fetches
use Rattle.laws_agreement.proofs.FetchTold.{closed_is}
use Rattle.laws_agreement.proofs.OverClient.{Beside, Under, Behind}
use Rattle.laws_agreement.proofs.OverFollows.{Stands}
use Rattle.laws_agreement.proofs.OverHalts.{no_halt}
use Rattle.laws_agreement.proofs.OverMoments.{filled_client_context, filled_server_context, gives_context_is, hears_context}
use Rattle.laws_agreement.proofs.OverMoves as moves
use Rattle.laws_agreement.proofs.OverMoves.{Parted, untold_job}
use Rattle.laws_agreement.proofs.OverServed.{Working}
use Rattle.laws_agreement.proofs.OverSettles.{Turned, last_order, last_same, single_same, answers_fetch, answers_under, settle_end, settle_next, settle_under, with_own}
use Rattle.laws_agreement.proofs.OverTold.{some_told, fetch_told, under_told}
use Rattle.laws_agreement.proofs.Phases.{HasFollowed, follows_after, free_untold}
use Rattle.laws_agreement.proofs.Still.{free_job, seen}
use Rattle.laws_dialogues.specs.Login.{AtFree}

-- a mark more of the last
pub all_marked : (past : List Tried) (own : List Mark) (mark : Mark) → all_marks past own ++ mark ∷ [] ≡ all_marks past (own ++ mark ∷ [])
all_marked [] own mark = refl
all_marked (one ∷ past) own mark = append_assoc one.own (all_marks past own) (mark ∷ []) ∙ ap (λ l. one.own ++ l) (all_marked past own mark)

-- a client with something under way is not idle
pub works_busy : {X : Type 0} (op : Op (List ℕ)) (n : Near) → IsUnderWay op n.job n.connection → n.job ≡ Idle → X
works_busy op n works idle = absurd (subst (λ j. IsUnderWay op j n.connection) idle works)

module _ (read : Reading) (reads : IsReading read) (from : State) (begun : List Order) where
  -- a world by itself in the middle of an event
  abbrev pub Mid : List Order → World → Type 0
  Mid orders w = IsFetching read from orders w ⊎ HasFollowed read from orders w

  -- what was begun runs on behind the event
  pub mid_after : (orders : List Order) (w : World) → Mid orders w → Runs read from orders (after_event w)
  mid_after orders w (inl f) = fetches.fetch_after read reads from orders w f
  mid_after orders w (inr h) = inl (follows_after read from orders w h)

  -- where an answer is told there, no reply is on its way
  pub mid_rest : (orders : List Order) (w : World) (said : Said) → Mid orders w → w.near.job ≡ Answered said → w.control_to_client ≡ []
  mid_rest orders w said (inl f) told = ap (λ u. u.control_to_client) (fetch_told read from orders w f said told).at.is
  mid_rest orders w said (inr h) told = by_phase h.phase
    where
      by_phase : Phase read from orders w → w.control_to_client ≡ []
      by_phase (inl (l, inl f)) = absurd (some_told w.near.job said told (free_untold from orders w f))
      by_phase (inl (l, inr u)) = ap (λ x. x.control_to_client) (under_told read from orders w u said h.unlinked told).at.is
      by_phase (inr l) = absurd (some_told w.near.job said told (ap report_of_job l.near.job))

  -- ---- behind an event

  -- both at the same, or the client with the run has turned
  pub settles : (a b : World) (g : Going begun a) (reports : List Said) (cutoff : Option ℕ) → cutoff ≡ None → length reports ≡ length g.done
      → Parted g.run g.op a.marks (marks_of g) reports (reports ++ tried_said g.past) cutoff cutoff a b → Mid (orders_alone g) b
      → (is_size g.op ≡ true → b.far.context.moment ≡ g.moment) → OverRuns read from begun (after_event a)
  settles a b g reports cutoff stands all p mid timed = by_beside p.real_near p.alone_near p.real_is p.alone_is p.beside
    where
      runs : Runs read from (orders_alone g) (after_event b)
      runs = mid_after (orders_alone g) b mid

      by_next : (said : Said) → Turned g.run g.op said a.marks (marks_of g) reports (reports ++ tried_said g.past) cutoff cutoff a b → b.near.job ≡ Answered said
          → (next : Option (Op (List ℕ))) → next_in g.run g.op said ≡ next → OverRuns read from begun (after_event a)
      by_next said t told None none = settle_end read reads from begun a b g reports cutoff cutoff said all t none (Stands stands stands) runs
      by_next said t told (Some next) follows =
          inr (inl (settle_next read reads from begun a b g reports cutoff said next all t follows
          (elim mid [ inl f ↦ answers_fetch read reads from begun a b g said next f told follows | inr h ↦ answers_under read reads from begun a b g said next h told follows timed ])
          runs))

      by_beside : (x y : Near) → a ≡ record p.base { near = x; marks = a.marks; reports = reports; cutoff = cutoff } → b ≡ record p.base { near = y } → Beside g.run g.op x y → OverRuns read from begun (after_event a)
      by_beside x y real_is alone_is (Under n x_is y_is works) =
          let by_real : Near → World = λ v. record p.base { near = v; marks = a.marks; reports = reports; cutoff = cutoff } in
          let by_alone : Near → World = λ v. record p.base { near = v } in
          inr (inl (settle_under read reads from begun a b g reports cutoff all
          (record { near = n; base = p.base; real_is = real_is ∙ ap by_real x_is; alone_is = alone_is ∙ ap by_alone y_is; fine = works; kept = p.kept }) runs timed))
      by_beside x y real_is alone_is (Behind n said y_is x_is) =
          let by_real : Near → World = λ v. record p.base { near = v; marks = a.marks; reports = reports; cutoff = cutoff } in
          let by_alone : Near → World = λ v. record p.base { near = v } in
          by_next said (record { near = n; base = p.base; alone_is = alone_is ∙ ap by_alone y_is; real_is = real_is ∙ ap by_real x_is; kept = p.kept })
          (ap (λ u. u.near.job) alone_is ∙ ap (λ v. v.job) y_is) (next_in g.run g.op said) refl

  -- ---- in a world

  module _ (w : World) (t : IsTrying read from begun w) where
    -- what is going on
    abbrev g : Going begun w
    g = t.going

    -- each of its operations begun by itself
    abbrev orders : List Order
    orders = orders_alone t.going

    -- the world by itself, and the world itself
    abbrev alone : World
    alone = record w { near = record t.near { run = None }; marks = marks_of t.going; reports = w.reports ++ tried_said t.going.past; taken = [] }

    -- the world, whose client has the run
    abbrev real : World
    real = record w { near = record t.near { run = Some t.going.run }; taken = [] }

    -- the world is that, with nothing lent
    pub real_is : record w { taken = [] } ≡ real
    real_is = λ i. record w { near = t.near_is i; taken = [] }

    -- two worlds that are at the same
    abbrev Same : World → World → Type 0
    Same a b = Working t.going.run t.going.op w.marks (marks_of t.going) w.reports (w.reports ++ tried_said t.going.past) w.cutoff w.cutoff a b

    -- the world is at the same as the world by itself
    pub same : Same real alone
    same = record { near = t.near; base = alone; real_is = refl; alone_is = refl; fine = t.works; kept = (refl, refl, refl) }

    -- it is under way by itself
    pub data Way : Type 0 where
      Fetch : IsFetchingOn read from orders alone → Way
      Plain : HasFollowed read from orders alone → IsUnder read from orders alone → report_of_job alone.near.job ≡ None → Way

    -- by itself its operation is under way
    pub way : Way
    way = by_runs t.alone
      where
        by_runs : Runs read from orders (record w { near = record t.near { run = None }; marks = marks_of t.going; reports = w.reports ++ tried_said t.going.past }) → Way
        by_runs (inl h) = by_phase (lent_again read reads from orders _ h)
          where
            by_phase : Follows read from orders alone → Way
            by_phase h = elim h.phase [
              | inl linked ↦ elim linked.1 [
                | inl f ↦ works_busy t.going.op t.near t.works ((seen (AtFree f.now) alone f.stands).job ∙ free_job f.now f.stands.way f.stands.base.near f.stands.base.far f.stands.here)
                | inr u ↦ Plain (record { unlinked = h.unlinked; phase = h.phase }) u h.untold
              ]
              | inr l ↦ works_busy t.going.op t.near t.works l.near.job
            ]
        by_runs (inr (inl on)) = Fetch (fetches.fetching_on_taken read reads from orders [] _ on)
        by_runs (inr (inr (inr on))) = absurd (no_halt _ from t.going _ _ on.halting on.halting.stands)
        by_runs (inr (inr (inl trails))) = works_busy t.going.op t.near t.works (ap (λ u. u.near.job) (closed_is read reads from orders _ trails))

    -- SIZE has no link
    pub no_fetch : (f : IsFetching read from orders alone) → is_size t.going.op ≡ true → ⊥
    no_fetch f size = elim (kind_of t.going.upload t.going.op t.going.one) [
      | inl store ↦ (let e : true ≡ false = sym size ∙ store.1 in cc)
      | inr is ↦ (let e : None ≡ Some f.ask.how = ap how_of (sym is ∙ same_op) ∙ f.is_ask.plan.how_is in cc)
    ]
      where
        same_op : t.going.op ≡ f.ask.op
        same_op = (single_same t.going.op f.ask.op t.going.moment f.moment (last_same (t.going.done ++ tried_orders t.going.moment t.going.past) f.done (Single t.going.op t.going.moment) (Single f.ask.op f.moment) (sym (last_order t.going) ∙ f.begun_is))).0

    -- no Peek is among its operations
    pub goes_on : (f : IsFetching read from orders alone) (new : World) → fetches.OnOrHalted read reads from orders alone f new → IsFetching read from orders new
    goes_on f new (inl on) = on
    goes_on f new (inr halts) = absurd (no_halt _ from t.going alone new f halts)

    -- the control connection stands
    pub stands : w.cutoff ≡ None
    stands = by_way way
      where
        by_way : Way → w.cutoff ≡ None
        by_way (Fetch on) = on.fetching.linked.cutoff
        by_way (Plain h u untold) = elim h.phase [
          | inl linked ↦ linked.0.cutoff
          | inr l ↦ works_busy t.going.op t.near t.works l.near.job
        ]

    -- the moment stays that of the upload
    pub moved_moment : (u : World) → u.far.context ≡ w.far.context → is_size t.going.op ≡ true → u.far.context.moment ≡ t.going.moment
    moved_moment u is size = ap (λ f. f.moment) is ∙ t.timed size

    -- the operation is under way still
    pub under_same : (a b : World) → Same a b → Runs read from orders (after_event b) → (is_size t.going.op ≡ true → b.far.context.moment ≡ t.going.moment) → OverRuns read from begun (after_event a)
    under_same a b m runs timed =
        let marks : a.marks ≡ w.marks = ap (λ u. u.marks) m.real_is in
        inr (inl (settle_under read reads from begun a b (with_own a t.going t.going.own (marks ∙ t.going.marks_are)) w.reports w.cutoff t.all
        (subst (λ l. Working t.going.run t.going.op l (marks_of t.going) w.reports (w.reports ++ tried_said t.going.past) w.cutoff w.cutoff a b) (sym marks) m) runs timed))

    -- or the client has turned
    pub parted_same : (a b : World) → Parted t.going.run t.going.op w.marks (marks_of t.going) w.reports (w.reports ++ tried_said t.going.past) w.cutoff w.cutoff a b → Mid orders b
        → (is_size t.going.op ≡ true → b.far.context.moment ≡ t.going.moment) → OverRuns read from begun (after_event a)
    parted_same a b p mid timed =
        let marks : a.marks ≡ w.marks = ap (λ u. u.marks) p.real_is in
        settles a b (with_own a t.going t.going.own (marks ∙ t.going.marks_are)) w.reports w.cutoff stands t.all
        (subst (λ l. Parted t.going.run t.going.op l (marks_of t.going) w.reports (w.reports ++ tried_said t.going.past) w.cutoff w.cutoff a b) (sym marks) p) mid timed

    -- ---- octets of the control connection

    -- those of a command
    pub delivers_server : (none : Bool) (count : ℕ) (new : World) → Way → DeliversBy none read ControlToServer count real new → OverRuns read from begun new
    delivers_server true count new way m =
        let b : World = pulled ControlToServer alone m.gave in
        subst (OverRuns read from begun) (sym m.is) (under_same (pulled ControlToServer real m.gave) b
        (moves.pulled_server t.going.run t.going.op w.marks (marks_of t.going) w.reports (w.reports ++ tried_said t.going.past) w.cutoff w.cutoff m.gave real alone same)
        (mid_after orders b (by_way way)) (λ size. t.timed size))
      where
        by_way : Way → Mid orders (pulled ControlToServer alone m.gave)
        by_way (Fetch on) = inl (fetches.serving_is read reads from orders alone on.fetching _ (fetches.pulled_server read reads from orders m.gave alone on.fetching alone (fetches.serving_first read reads from orders alone on)))
        by_way (Plain h u untold) = inr (plain.pulled_server read reads from orders m.gave alone h)
    delivers_server false count new way d =
        let a : World = filled ControlToServer real d.counts in
        let b : World = filled ControlToServer alone d.counts in
        let full = moves.filled_server t.going.run t.going.op w.marks (marks_of t.going) w.reports (w.reports ++ tried_said t.going.past) w.cutoff w.cutoff d.counts real alone same in
        let octets : List ℕ = take d.taken a.control_to_server in
        let lent = moves.lent_both t.going.run t.going.op w.marks (marks_of t.going) w.reports (w.reports ++ tried_said t.going.past) w.cutoff w.cutoff octets a b full in
        let x : World = record a { taken = octets } in
        let y : World = record b { taken = octets } in
        subst (OverRuns read from begun) (sym d.is) (under_same (pushed read ControlToServer d.taken x) (pushed read ControlToServer d.taken y)
        (moves.pushed_server t.going.run t.going.op w.marks (marks_of t.going) w.reports (w.reports ++ tried_said t.going.past) w.cutoff w.cutoff read d.taken x y lent)
        (mid_after orders (pushed read ControlToServer d.taken y) (by_way octets way))
        (moved_moment (pushed read ControlToServer d.taken y) (hears_context read (take d.taken b.control_to_server) b.far ∙ filled_server_context d.counts alone)))
      where
        by_way : (octets : List ℕ) → Way → Mid orders (pushed read ControlToServer d.taken (record (filled ControlToServer alone d.counts) { taken = octets }))
        by_way octets (Fetch on) =
            let full = fetches.filled_server read reads from orders d.counts alone on.fetching alone (fetches.serving_first read reads from orders alone on) in
            inl (fetches.pushed_server read reads from orders d.taken alone on.fetching _ (fetches.serving_taken read reads from orders octets alone on.fetching _ full))
        by_way octets (Plain h u untold) = inr (plain.pushed_server read reads from orders d.taken _ (plain.holds_taken read reads from orders octets _ (plain.filled_server read reads from orders d.counts alone h)))

    -- those of replies
    pub delivers_client : (none : Bool) (count : ℕ) (new : World) → Way → DeliversBy none read ControlToClient count real new → OverRuns read from begun new
    delivers_client true count new way m =
        let b : World = pulled ControlToClient alone m.gave in
        subst (OverRuns read from begun) (sym m.is) (under_same (pulled ControlToClient real m.gave) b
        (moves.pulled_client t.going.run t.going.op w.marks (marks_of t.going) w.reports (w.reports ++ tried_said t.going.past) w.cutoff w.cutoff m.gave real alone same)
        (mid_after orders b (by_way way)) (moved_moment b (gives_context_is m.gave w.far)))
      where
        by_way : Way → Mid orders (pulled ControlToClient alone m.gave)
        by_way (Fetch on) = inl (fetches.serving_is read reads from orders alone on.fetching _ (fetches.pulled_client read reads from orders m.gave alone on.fetching alone (fetches.serving_first read reads from orders alone on)))
        by_way (Plain h u untold) = inr (plain.pulled_client read reads from orders m.gave alone h)
    delivers_client false count new way d =
        let a : World = filled ControlToClient real d.counts in
        let b : World = filled ControlToClient alone d.counts in
        let full = moves.filled_client t.going.run t.going.op w.marks (marks_of t.going) w.reports (w.reports ++ tried_said t.going.past) w.cutoff w.cutoff d.counts real alone same in
        let octets : List ℕ = take d.taken a.control_to_client in
        let lent = moves.lent_both t.going.run t.going.op w.marks (marks_of t.going) w.reports (w.reports ++ tried_said t.going.past) w.cutoff w.cutoff octets a b full in
        let x : World = record a { taken = octets } in
        let y : World = record b { taken = octets } in
        let queues : a.control_to_client ≡ b.control_to_client = ap (λ u. u.control_to_client) full.real_is ∙ ap (λ u. u.control_to_client) (sym full.alone_is) in
        let few : d.taken ≤ length b.control_to_client = omega (arith, d.takes.within, ap length queues) in
        subst (OverRuns read from begun) (sym d.is) (parted_same (pushed read ControlToClient d.taken x) (pushed read ControlToClient d.taken y)
        (moves.pushed_client t.going.run t.going.op w.marks (marks_of t.going) w.reports (w.reports ++ tried_said t.going.past) w.cutoff w.cutoff read d.taken x y few
        (λ k some. untold_job _ (λ said is. some (mid_rest orders (pushed read ControlToClient k y) said (by_way k octets way) is))) lent)
        (by_way d.taken octets way)
        (moved_moment (pushed read ControlToClient d.taken y) (filled_client_context d.counts alone)))
      where
        by_way : (k : ℕ) (octets : List ℕ) → Way → Mid orders (pushed read ControlToClient k (record (filled ControlToClient alone d.counts) { taken = octets }))
        by_way k octets (Fetch on) =
            let full = fetches.filled_client read reads from orders d.counts alone on.fetching alone (fetches.serving_first read reads from orders alone on) in
            inl (goes_on on.fetching _ (fetches.pushed_client read reads from orders k alone on.fetching _ (fetches.serving_taken read reads from orders octets alone on.fetching _ full)))
        by_way k octets (Plain h u untold) = inr (plain.pushed_client read reads from orders k _ (plain.holds_taken read reads from orders octets _ (plain.filled_client read reads from orders d.counts alone h)))
