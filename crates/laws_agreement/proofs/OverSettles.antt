-- Behind an event an upload over breaks goes on with the operation under way, goes on with its next, or is answered.
use Rattle.std.proofs.Common.{◌≡◌, ◌⊎◌, inl, inr, ℕ, ◌+◌, ◌≤◌, Bool, true, false, List, [], ◌∷◌, ◌++◌, length, Option, Some, None, refl, sym, ap, subst, ◌∙◌, arith, append_assoc, append-nil}
use Rattle.std.specs.Option.{option_map}
use Rattle.ftp_operation.specs.Answer.{Said}
use Rattle.ftp_operation.specs.Operation.{can_be_sent}
use Rattle.ftp_operation.specs.declared.op.Op.{Op}
use Rattle.ftp_operation.specs.declared.op.Op.TheVariants as Ops
use Rattle.ftp_direct.specs.Direct.{State, answer}
use Rattle.ftp_tree.specs.Sound.{last_second}
use Rattle.ftp_client_model.specs.Calls.{is_busy_job, is_down, is_sound, report_of_job}
use Rattle.ftp_client_model.specs.Dialogue as Dialogue
use Rattle.ftp_client_model.specs.Octets.{download_flow, flow_of}
use Rattle.ftp_client_model.specs.Plan.{how_of}
use Rattle.ftp_client_model.specs.Tries.{OverBreaks, Run, first_try, is_size, next_in, run_at, run_of}
use Rattle.ftp_client_model.specs.View.{View as Near, Idle, Told as Answered}
use Rattle.ftp_client_model.specs.declared.client.ClientLink.TheVariants as Data
use Rattle.ftp_server_model.specs.Machine.{Reading, IsReading}
use Rattle.ftp_settings.specs.declared.representation.Representation.{Representation}
use Rattle.laws_world.specs.Agreement.{Order, Single, Allows, IsAmong}
use Rattle.laws_world.specs.Events.{is_gone, operation_begins}
use Rattle.laws_world.specs.Outcome.{Outcome, did, Whole, Cut, Unopened, Lost, Nothing, All, Front}
use Rattle.laws_world.specs.Serving.{after_event}
use Rattle.laws_world.specs.World.{World, Mark}
use Rattle.laws_dialogues.specs.Fetches.{Ask, Direction, Down, Up, IsStore, IsTimely, carrying}
use Rattle.laws_agreement.specs.Follows.{Phase, Follows}
use Rattle.laws_agreement.specs.Over.{Going, orders_alone, marks_of, IsTrying, IsTailing, OverRuns}
use Rattle.laws_agreement.specs.Runs.{IsFetching, IsFetchingOn, IsTrailing, Runs}
use Rattle.laws_agreement.specs.Stages.{Fared}
use Rattle.laws_agreement.specs.Tried.{Tried, tried_orders, tried_marks, tried_said, all_marks, IsChain, IsTryOf}
use Rattle.laws_agreement.proofs.Events.{under_busy}
use Rattle.laws_agreement.proofs.FetchTold.{closed_is}
use Rattle.laws_agreement.proofs.FetchWants.{lasting_busy}
use Rattle.laws_agreement.proofs.OverClient.{Along, on, off, turns_to, begins_amid, amid_along}
use Rattle.laws_agreement.proofs.OverFollows.{Ends, Stands, Parts, follows_folded, with_told}
use Rattle.laws_agreement.proofs.OverMoments.{after_context}
use Rattle.laws_agreement.proofs.OverServed.{with_run, by_itself, Kept, Working, working_after, Telling, Collected, told_after}
use Rattle.laws_agreement.proofs.OverTold.{IsToldAt, some_told, is_open, BeginsNext, begins_next, fetch_told, under_told}
use Rattle.laws_agreement.proofs.OverTries.{kind_of, try_sent, of_next, put_try, size_try, none_direct}
use Rattle.laws_agreement.proofs.PeekRuns.{halt_busy}
use Rattle.laws_agreement.proofs.Phases.{HasFollowed, free_untold}
use Rattle.laws_agreement.proofs.Running.{free_begins}

-- ---- one operation more

-- its orders
orders_more : (moment : ℕ) (past : List Tried) (one : Tried) → tried_orders moment (past ++ one ∷ []) ≡ tried_orders moment past ++ Single one.op moment ∷ []
orders_more moment [] one = refl
orders_more moment (first ∷ past) one = ap (λ l. Single first.op moment ∷ l) (orders_more moment past one)

-- its marks
marks_more : (past : List Tried) (one : Tried) → tried_marks (past ++ one ∷ []) ≡ tried_marks past ++ one.own ∷ []
marks_more [] one = refl
marks_more (first ∷ past) one = ap (λ l. first.own ∷ l) (marks_more past one)

-- its answer
said_more : (past : List Tried) (one : Tried) → tried_said (past ++ one ∷ []) ≡ tried_said past ++ one.said ∷ []
said_more [] one = refl
said_more (first ∷ past) one = ap (λ l. first.said ∷ l) (said_more past one)

-- together
all_more : (past : List Tried) (one : Tried) → all_marks (past ++ one ∷ []) [] ≡ all_marks past one.own
all_more [] one = append-nil one.own
all_more (first ∷ past) one = ap (λ l. first.own ++ l) (all_more past one)

-- the chain
chain_more : (past : List Tried) (run : Run) (op : Op (List ℕ)) (last : Run) (other : Op (List ℕ)) (one : Tried) (next : Op (List ℕ)) → IsChain run op past last other → one.op ≡ other → next_in last other one.said ≡ Some next
    → IsChain run op (past ++ one ∷ []) (run_at next last) next
chain_more [] run op last other one next chain same follows =
    (same ∙ sym chain.1, next, (λ i. next_in (chain.0 i) (chain.1 i) one.said) ∙ follows, (ap (run_at next) chain.0, refl))
chain_more (first ∷ past) run op last other one next chain same follows = (chain.0, chain.1, chain.2, chain_more past (run_at chain.1 run) chain.1 last other one next chain.3 same follows)

-- ---- the last of some orders

-- the last of two lists that are the same
pub last_same : (one other : List Order) (x y : Order) → one ++ x ∷ [] ≡ other ++ y ∷ [] → x ≡ y
last_same [] [] x y is = cc
last_same [] (first ∷ []) x y is = absurd (cc)
last_same [] (first ∷ next ∷ other) x y is = absurd (cc)
last_same (first ∷ []) [] x y is = absurd (cc)
last_same (first ∷ next ∷ one) [] x y is = absurd (cc)
last_same (first ∷ one) (second ∷ other) x y is = last_same one other x y (tails is)
  where
    rest_of : List Order → List Order
    rest_of [] = []
    rest_of (first ∷ more) = more

    tails : first ∷ (one ++ x ∷ []) ≡ second ∷ (other ++ y ∷ []) → one ++ x ∷ [] ≡ other ++ y ∷ []
    tails is = ap rest_of is

-- what was begun last
pub single_same : (op other : Op (List ℕ)) (moment at : ℕ) → Single op moment ≡ Single other at → (op ≡ other) × (moment ≡ at)
single_same op other moment at is = (cc, cc)

-- ---- both at the same

-- the client with the run has just turned from an operation that is answered
pub record Turned (run : Run) (op : Op (List ℕ)) (said : Said) (marks own_marks : List (List Mark)) (reports own_reports : List Said) (cutoff own_cutoff : Option ℕ) (real alone : World) : Type 0 where
  pub near : Near
  pub base : World
  pub alone_is : alone ≡ record base { near = record near { job = Answered said; run = None; connection = Data.Free } }
  pub real_is : real ≡ record base { near = turns_to run op (next_in run op said) (record near { job = Answered said; run = None; connection = Data.Free }); marks = marks; reports = reports; cutoff = cutoff }
  pub kept : Kept own_marks own_reports own_cutoff base

-- an order of the last operation
pub last_order : {begun : List Order} {w : World} → (g : Going begun w) → orders_alone g ≡ (g.done ++ tried_orders g.moment g.past) ++ Single g.op g.moment ∷ []
last_order g = sym (append_assoc g.done (tried_orders g.moment g.past) (Single g.op g.moment ∷ []))

-- what is so of a world by itself where an operation has just been answered
pub record Answers (w : World) (said : Said) (u : OverBreaks) (run : Run) (op next : Op (List ℕ)) (moment : ℕ) : Type 0 where
  pub at : IsToldAt w said
  pub shut : is_open at.leaves ≡ false
  pub moment_is : w.far.context.moment ≡ moment
  pub one : IsTryOf u next

-- what is neither true nor false
by_bool : (b : Bool) → (b ≡ true → ⊥) → b ≡ false
by_bool true not_true = absurd (not_true refl)
by_bool false not_true = refl

-- what an upload sends does not fall
store_up : (op : Op (List ℕ)) (settings : Representation) → IsStore op → flow_of op ≡ Some (download_flow settings) → ⊥
store_up (Ops.Put text octets how) settings store is = let e : Some false ≡ Some true = ap (option_map is_down) is in cc
store_up (Ops.Append text octets how) settings store is = let e : Some false ≡ Some true = ap (option_map is_down) is in cc
store_up (Ops.PutFrom text at octets how) settings store is = let e : Some false ≡ Some true = ap (option_map is_down) is in cc
store_up op settings store is = store

-- so it was begun at the moment that the server has
rises_at : (op : Op (List ℕ)) (sends : Direction) (settings : Representation) → IsStore op → flow_of op ≡ Some (carrying sends settings) → (a b : ℕ) → IsTimely sends a → IsTimely sends b → a ≡ b
rises_at op Down settings store flow a b one other = absurd (store_up op settings store flow)
rises_at op (Up rise) settings store flow a b one other = sym one ∙ other

-- an upload has a link
store_how : (op : Op (List ℕ)) → IsStore op → how_of op ≡ None → ⊥
store_how (Ops.Put text octets how) store none = let e : Some how ≡ None = none in cc
store_how (Ops.Append text octets how) store none = let e : Some how ≡ None = none in cc
store_how (Ops.PutFrom text at octets how) store none = let e : Some how ≡ None = none in cc
store_how op store none = store

-- no mark is among none
no_mark : (mark : Mark) → IsAmong mark [] → ⊥
no_mark mark among = absurd (omega (arith, among.1))

-- without marks nothing was cut, opened or lost
pub whole_said : (now : State) (ask : Ask) (said : Said) → Fared now ask [] said → (moment : ℕ) → said ≡ (answer now ask.op moment).0
whole_said now ask said f moment = by f.outcome (f.allowed 0) (f.did_so moment)
  where
    by : (outcome : Outcome) → Allows outcome [] None 0 → did outcome now ask.op moment ≡ (said, now) → said ≡ (answer now ask.op moment).0
    by Whole allowed is = sym (ap (λ d. d.0) is)
    by (Cut wire) allowed is = absurd (no_mark _ allowed.1)
    by Unopened allowed is = absurd (elim allowed.1 [ inl refused ↦ no_mark _ refused | inr broken ↦ no_mark _ broken ])
    by (Lost Nothing) (inl allowed) is = absurd allowed
    by (Lost Nothing) (inr allowed) is = absurd allowed
    by (Lost All) allowed is = absurd allowed
    by (Lost (Front wire)) allowed is = absurd allowed.0

-- it stands so in a world with these marks of its last operation
abbrev pub with_own : {begun : List Order} {w : World} (a : World) (g : Going begun w) (own : List Mark) → a.marks ≡ g.marks ++ all_marks g.past own ∷ []
    → Going begun a
with_own a g own marks = record {
  done = g.done;
  marks = g.marks;
  upload = g.upload;
  moment = g.moment;
  past = g.past;
  run = g.run;
  op = g.op;
  own = own;
  begun_is = g.begun_is;
  marks_are = marks;
  each = g.each;
  chain = g.chain;
  of = g.of;
  one = g.one;
  path_fine = g.path_fine;
  dated = g.dated;
}

module _ (read : Reading) (reads : IsReading read) (from : State) (begun : List Order) where
  -- the operation is under way still
  pub settle_under : (a b : World) (g : Going begun a) (reports : List Said) (cutoff : Option ℕ) → length reports ≡ length g.done
      → Working g.run g.op a.marks (marks_of g) reports (reports ++ tried_said g.past) cutoff cutoff a b → Runs read from (orders_alone g) (after_event b)
      → (is_size g.op ≡ true → b.far.context.moment ≡ g.moment) → IsTrying read from begun (after_event a)
  settle_under a b g reports cutoff all working runs timed =
      let m = working_after g.run g.op a.marks (marks_of g) reports (reports ++ tried_said g.past) cutoff cutoff a b working in
      let x : World = with_run (Some g.run) a.marks reports cutoff m.near m.base in
      let alone : World = record x { near = record m.near { run = None }; marks = marks_of g; reports = reports ++ tried_said g.past } in
      let alone_is : after_event b ≡ alone = m.alone_is ∙ (λ i. record (by_itself m.near m.base) { marks = m.kept.0 i; reports = m.kept.1 i; cutoff = m.kept.2 i }) in
      subst (IsTrying read from begun) (sym m.real_is) (record {
        going = with_own x g g.own g.marks_are;
        near = m.near;
        near_is = refl;
        works = m.fine;
        all = all;
        alone = subst (Runs read from (orders_alone g)) alone_is runs;
        timed = λ size. ap (λ u. u.far.context.moment) (sym m.alone_is) ∙ ap (λ f. f.moment) (after_context b) ∙ timed size;
      })

  -- an idle client is not busy
  idle_busy : {X : Type 0} (w : World) → w.near.job ≡ Idle → is_busy_job w.near.job ≡ true → X
  idle_busy w idle busy = absurd (let e : false ≡ true = ap is_busy_job (sym idle) ∙ busy in cc)

  -- nor is one with something under way idle
  on_busy : (orders : List Order) (w : World) → IsFetchingOn read from orders w → is_busy_job w.near.job ≡ true
  on_busy orders w on = let f = on.fetching in lasting_busy read f.now f.ask f.is_ask.plan f.own w f.stands on.lasts

  -- it is answered, and nothing follows
  pub settle_end : (a b : World) (g : Going begun a) (reports : List Said) (cutoff own_cutoff : Option ℕ) (said : Said) (all : length reports ≡ length g.done)
      → Turned g.run g.op said a.marks (marks_of g) reports (reports ++ tried_said g.past) cutoff own_cutoff a b → (none : next_in g.run g.op said ≡ None)
      → Ends read from begun a g reports said all none own_cutoff cutoff → Runs read from (orders_alone g) (after_event b) → OverRuns read from begun (after_event a)
  settle_end a b g reports cutoff own_cutoff said all t none ends runs = by_runs runs
    where
      n : Near
      n = record t.near { job = Answered said; run = None; connection = Data.Free }

      telling : Telling said a.marks (marks_of g) reports (reports ++ tried_said g.past) cutoff own_cutoff a b
      telling = record {
        near = n;
        base = t.base;
        real_is = t.real_is ∙ ap (λ next. record t.base { near = turns_to g.run g.op next n; marks = a.marks; reports = reports; cutoff = cutoff }) none;
        alone_is = t.alone_is;
        fine = (refl, refl);
        kept = t.kept;
      }

      c : Collected said a.marks (marks_of g) reports (reports ++ tried_said g.past) cutoff own_cutoff (after_event a) (after_event b)
      c = told_after said a.marks (marks_of g) reports (reports ++ tried_said g.past) cutoff own_cutoff a b telling

      v : World
      v = after_event b

      each : v.reports ≡ reports ++ (tried_said g.past ++ said ∷ [])
      each = c.reports_are ∙ append_assoc reports (tried_said g.past) (said ∷ [])

      by_runs : Runs read from (orders_alone g) v → OverRuns read from begun (after_event a)
      by_runs (inl h) =
          inl (inl (subst (Follows read from begun) (sym (c.real_is ∙ ap (λ m. with_told m (reports ++ said ∷ []) cutoff v) g.marks_are))
          (follows_folded read from begun a g reports said all none v cutoff c.idle c.marks_are each (subst (λ o. Ends read from begun a g reports said all none o cutoff) (sym c.cutoff_is) ends) h)))
      by_runs (inr (inl on)) = idle_busy v c.idle (on_busy (orders_alone g) v on)
      by_runs (inr (inr (inr on))) = let f = on.halting in idle_busy v c.idle (halt_busy f.now f.ask f.own v f.stands)
      by_runs (inr (inr (inl trails))) = by_ends ends
        where
          by_ends : Ends read from begun a g reports said all none own_cutoff cutoff → OverRuns read from begun (after_event a)
          by_ends (Parts some other) = absurd (let e : None ≡ Some (length (marks_of g)) = sym trails.linked.cutoff ∙ c.cutoff_is ∙ some in cc)
          by_ends (Stands own other) =
              let x : World = record v { marks = a.marks; reports = reports ++ said ∷ []; cutoff = cutoff } in
              let back : v ≡ record x { marks = marks_of g; reports = reports ++ (tried_said g.past ++ said ∷ []) } =
              (λ i. record v { marks = c.marks_are i; reports = each i; cutoff = (c.cutoff_is ∙ own ∙ sym other) i }) in
              inr (inr (subst (IsTailing read from begun) (sym c.real_is) (record {
                going = with_own x g g.own g.marks_are;
                reports = reports;
                said = said;
                all = all;
                reports_are = refl;
                last = none;
                alone = subst (IsTrailing from (orders_alone g)) back trails;
              })))

  -- ---- the next operation

  -- by itself it begins where all that was begun is answered
  begun_next : (orders : List Order) (v : World) (next : Op (List ℕ)) (moment : ℕ) → v.near.job ≡ Idle → is_sound v.near.standing ≡ true → is_gone v.link ≡ true → moment ≤ last_second
      → Runs read from orders v → Runs read from (orders ++ Single next moment ∷ []) (after_event (operation_begins next moment v))
  begun_next orders v next moment idle sound gone dated (inl h) = by_phase h.phase
    where
      by_phase : Phase read from orders v → Runs read from (orders ++ Single next moment ∷ []) (after_event (operation_begins next moment v))
      by_phase (inl (l, inl f)) = free_begins read reads from orders next moment v dated h l f
      by_phase (inl (l, inr u)) = idle_busy v idle (under_busy read from orders v u)
      by_phase (inr l) = absurd (let e : true ≡ false = sym sound ∙ ap is_sound l.near.standing in cc)
  begun_next orders v next moment idle sound gone dated (inr (inl on)) = idle_busy v idle (on_busy orders v on)
  begun_next orders v next moment idle sound gone dated (inr (inr (inr on))) = let f = on.halting in idle_busy v idle (halt_busy f.now f.ask f.own v f.stands)
  begun_next orders v next moment idle sound gone dated (inr (inr (inl trails))) =
      absurd (let e : true ≡ false = sym gone ∙ ap (λ u. is_gone u.link) (closed_is read reads from orders v trails) in cc)

  -- it goes on with the next
  pub settle_next : (a b : World) (g : Going begun a) (reports : List Said) (cutoff : Option ℕ) (said : Said) (next : Op (List ℕ)) → length reports ≡ length g.done
      → Turned g.run g.op said a.marks (marks_of g) reports (reports ++ tried_said g.past) cutoff cutoff a b → next_in g.run g.op said ≡ Some next
      → Answers b said g.upload g.run g.op next g.moment → Runs read from (orders_alone g) (after_event b) → IsTrying read from begun (after_event a)
  settle_next a b g reports cutoff said next all t follows answers runs =
      settle_under a z gone_on reports cutoff all working (subst (λ orders. Runs read from orders (after_event z)) (sym orders_are) (subst (Runs read from (orders_alone g ++ Single next g.moment ∷ [])) (sym begins.goes) begun_now))
      (λ size. answers.moment_is)
    where
      n : Near
      n = record t.near { job = Answered said; run = None; connection = Data.Free }

      one : Tried
      one = record { op = g.op; said = said; own = g.own }

      run : Run
      run = run_at next g.run

      can : can_be_sent next ≡ true
      can = try_sent g.upload next g.path_fine answers.one

      begins : BeginsNext b said next g.moment
      begins = begins_next b said answers.at next g.moment answers.shut can answers.moment_is

      begun_now : Runs read from (orders_alone g ++ Single next g.moment ∷ []) (after_event (operation_begins next g.moment (after_event b)))
      begun_now =
          begun_next (orders_alone g) (after_event b) next g.moment (ap (λ u. u.near.job) begins.free_is) (ap (λ u. is_sound u.near.standing) begins.free_is) (ap (λ u. is_gone u.link) begins.free_is) g.dated runs

      z : World
      z = record b { near = Dialogue.begins next b.near; marks = b.marks ++ [] ∷ []; reports = b.reports ++ said ∷ [] }

      q : Along run next (Dialogue.begins next (on run next n)) (Dialogue.begins next (off run next n))
      q = amid_along run next (Dialogue.begins next (on run next n)) (Dialogue.begins next (off run next n)) (begins_amid run next next refl n)

      gone_on : Going begun a
      gone_on = record {
        done = g.done;
        marks = g.marks;
        upload = g.upload;
        moment = g.moment;
        past = g.past ++ one ∷ [];
        run = run;
        op = next;
        own = [];
        begun_is = g.begun_is;
        marks_are = g.marks_are ∙ ap (λ l. g.marks ++ l ∷ []) (sym (all_more g.past one));
        each = g.each;
        chain = chain_more g.past (run_of g.upload) (first_try g.upload) g.run g.op one next g.chain refl follows;
        of = of_next g.upload g.run g.of next;
        one = answers.one;
        path_fine = g.path_fine;
        dated = g.dated;
      }

      orders_are : orders_alone gone_on ≡ orders_alone g ++ Single next g.moment ∷ []
      orders_are =
          ap (λ l. g.done ++ (l ++ Single next g.moment ∷ [])) (orders_more g.moment g.past one)
          ∙ sym (append_assoc g.done (tried_orders g.moment g.past ++ Single g.op g.moment ∷ []) (Single next g.moment ∷ []))

      marks_are : marks_of g ++ [] ∷ [] ≡ marks_of gone_on
      marks_are =
          append_assoc g.marks (tried_marks g.past ++ g.own ∷ []) ([] ∷ [])
          ∙ ap (λ l. g.marks ++ (l ++ [] ∷ [])) (sym (marks_more g.past one))

      reports_are : (reports ++ tried_said g.past) ++ said ∷ [] ≡ reports ++ tried_said (g.past ++ one ∷ [])
      reports_are = append_assoc reports (tried_said g.past) (said ∷ []) ∙ ap (λ l. reports ++ l) (sym (said_more g.past one))

      working : Working run next a.marks (marks_of gone_on) reports (reports ++ tried_said (g.past ++ one ∷ [])) cutoff cutoff a z
      working =
          let base : World = record t.base { marks = t.base.marks ++ [] ∷ []; reports = t.base.reports ++ said ∷ [] } in
          let goes : World → World = λ x. record x { near = Dialogue.begins next x.near; marks = x.marks ++ [] ∷ []; reports = x.reports ++ said ∷ [] } in
          let by_near : Near → World = λ v. record base { near = v } in
          record {
            near = q.view;
            base = base;
            real_is = t.real_is ∙ ap (λ next. record t.base { near = turns_to g.run g.op next n; marks = a.marks; reports = reports; cutoff = cutoff }) follows
                ∙ ap (λ v. record t.base { near = v; marks = a.marks; reports = reports; cutoff = cutoff }) q.real_is;
            alone_is = ap goes t.alone_is ∙ ap by_near q.alone_is;
            fine = q.works;
            kept = (ap (λ m. m ++ [] ∷ []) t.kept.0 ∙ marks_are, ap (λ r. r ++ said ∷ []) t.kept.1 ∙ reports_are, t.kept.2);
          }

  -- ---- what is so where it goes on

  -- of an upload by itself
  pub answers_fetch : (a b : World) (g : Going begun a) (said : Said) (next : Op (List ℕ)) (f : IsFetching read from (orders_alone g) b) → b.near.job ≡ Answered said → next_in g.run g.op said ≡ Some next
      → Answers b said g.upload g.run g.op next g.moment
  answers_fetch a b g said next f told follows = by_kind (kind_of g.upload g.op g.one)
    where
      same : (g.op ≡ f.ask.op) × (g.moment ≡ f.moment)
      same = single_same g.op f.ask.op g.moment f.moment (last_same (g.done ++ tried_orders g.moment g.past) f.done (Single g.op g.moment) (Single f.ask.op f.moment) (sym (last_order g) ∙ f.begun_is))

      by_kind : (IsStore g.op × (is_size g.op ≡ false)) ⊎ (g.op ≡ Ops.Size g.upload.path g.upload.how) → Answers b said g.upload g.run g.op next g.moment
      by_kind (inl store) =
          let ft = fetch_told read from (orders_alone g) b f said told in
          record {
            at = ft.at;
            shut = by_bool (is_open ft.at.leaves) (λ opened.
                let direct : said ≡ (answer f.now g.op f.moment).0 = whole_said f.now f.ask said (ft.whole opened) f.moment ∙ ap (λ o. (answer f.now o f.moment).0) (sym same.0) in
                let none : next_in g.run g.op said ≡ None = none_direct g.upload g.run g.of g.op f.now f.moment said store.0 store.1 direct in
                let e : None ≡ Some next = sym none ∙ follows in cc);
            moment_is = rises_at g.op f.ask.sends f.ask.settings store.0 (ap flow_of same.0 ∙ f.is_ask.plan.flow) b.far.context.moment f.moment ft.timed f.timely ∙ sym same.1;
            one = put_try g.upload g.run g.of g.op said next store.1 g.one follows;
          }
      by_kind (inr size) = absurd (let e : None ≡ Some f.ask.how = ap how_of (sym size ∙ same.0) ∙ f.is_ask.plan.how_is in cc)

  -- of SIZE by itself
  pub answers_under : (a b : World) (g : Going begun a) (said : Said) (next : Op (List ℕ)) → HasFollowed read from (orders_alone g) b → b.near.job ≡ Answered said → next_in g.run g.op said ≡ Some next
      → (is_size g.op ≡ true → b.far.context.moment ≡ g.moment) → Answers b said g.upload g.run g.op next g.moment
  answers_under a b g said next h told follows timed = by_phase h.phase
    where
      by_phase : Phase read from (orders_alone g) b → Answers b said g.upload g.run g.op next g.moment
      by_phase (inl (l, inl f)) = absurd (some_told b.near.job said told (free_untold from (orders_alone g) b f))
      by_phase (inl (l, inr u)) = by_kind (kind_of g.upload g.op g.one)
        where
          same : (g.op ≡ u.op) × (g.moment ≡ u.moment)
          same = single_same g.op u.op g.moment u.moment (last_same (g.done ++ tried_orders g.moment g.past) u.done (Single g.op g.moment) (Single u.op u.moment) (sym (last_order g) ∙ u.begun_is))

          by_kind : (IsStore g.op × (is_size g.op ≡ false)) ⊎ (g.op ≡ Ops.Size g.upload.path g.upload.how) → Answers b said g.upload g.run g.op next g.moment
          by_kind (inl store) = absurd (store_how g.op store.0 (ap how_of same.0 ∙ u.alone))
          by_kind (inr size) =
              let ut = under_told read from (orders_alone g) b u said h.unlinked told in
              let direct : said ≡ (answer u.now (Ops.Size g.upload.path g.upload.how) u.moment).0 = ut.direct ∙ ap (λ o. (answer u.now o u.moment).0) (sym same.0 ∙ size) in
              record {
                at = ut.at;
                shut = ut.shut;
                moment_is = timed (ap is_size size);
                one = (size_try g.upload g.run g.of u.now u.moment said next direct (ap (λ o. next_in g.run o said) (sym size) ∙ follows)).0;
              }
      by_phase (inr l) = absurd (some_told b.near.job said told (ap report_of_job l.near.job))
