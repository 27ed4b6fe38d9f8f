-- The actions of drives of a client, each of which gave the answer of the operation that was begun before it, put together.
use Rattle.std.proofs.Common.{◌≡◌, ℕ, suc, ◌+◌, false, true≢false, List, [], ◌∷◌, ◌++◌, None, length, Some, is_some, option_to_list}
use Rattle.std.proofs.Common.{refl, sym, ap, subst, ◌∙◌, append-nil, length-append}
use Rattle.ftp_ports.specs.Actions.{Action, Other, Stand}
use Rattle.ftp_ports.specs.Machine.{Held}
use Rattle.ftp_client_driver.specs.Side.{Begun, client_side}
use Rattle.ftp_client_model.specs.Calls.{is_busy, report_of, report_of_job, reports}
use Rattle.ftp_client_model.specs.Failing.{Client}
use Rattle.ftp_client_model.specs.View.{Job, Told, View}
use Rattle.ftp_direct.specs.Direct.{State}
use Rattle.ftp_operation.specs.Answer.{Said}
use Rattle.ftp_operation.specs.declared.op.Op.{Op}
use Rattle.ftp_server_driver.specs.alone.Side.{server_side}
use Rattle.ftp_tree.specs.Tree.{Table}
use Rattle.laws_drivers.specs.control.Alone.{ClientIsCalm, reports_in}
use Rattle.laws_drivers.specs.control.Claims.{Begins}
use Rattle.laws_drivers.specs.events.Actions.{AreMidst}
use Rattle.laws_drivers.specs.events.Answers.{Answers, AreAnswered, IsAnswerBy, actions_in, actions_of_drive, answers_of, orders_at}
use Rattle.laws_drivers.specs.events.Moments.{begun_at, number_in}
use Rattle.laws_drivers.proofs.control.Taken.{free_none}
use Rattle.laws_drivers.proofs.events.Along.{Went, went_then}
use Rattle.laws_drivers.proofs.events.Moments.{midst_begins, midst_numbers, midst_reports}
use Rattle.laws_world.specs.Agreement.{Agrees, Order, Single}
use Rattle.laws_world.specs.Claims.{AreAnswers, Beginning}
use Rattle.laws_world.specs.World.{Mark}

-- operations, reports and maps that are equal agree, too
pub agree_same : (s : State) (one other : List Order) (marks : List (List Mark)) (said told : List Said) (here there : Table)
    → one ≡ other → said ≡ told → here ≡ there → Agrees s one marks None said here → Agrees s other marks None told there
agree_same s one other marks said told here there orders reports maps agree =
    subst (λ (t : Table). Agrees s other marks None told t) maps
    (subst (λ (r : List Said). Agrees s other marks None r here) reports (subst (λ (o : List Order). Agrees s o marks None said here) orders agree))

-- so it is of the direct run
pub direct_same : (s : State) (one other : List Order) (said told : List Said) (here there : Table)
    → one ≡ other → said ≡ told → here ≡ there → AreAnswers s one said here → AreAnswers s other told there
direct_same s one other said told here there orders reports maps direct =
    subst (λ (t : Table). AreAnswers s other told t) maps
    (subst (λ (r : List Said). AreAnswers s other r here) reports (subst (λ (o : List Order). AreAnswers s o said here) orders direct))

-- there are as many answers as operations
pub as_many : (moments : ℕ → ℕ) (asked : List (Op (List ℕ) × Said)) → length (answers_of asked) ≡ length (orders_at moments asked)
as_many moments [] = refl
as_many moments (asked ∷ before) =
    let same = as_many moments before in
    length-append (answers_of before) (asked.1 ∷ []) ∙ ap (λ n. n + 1) same
    ∙ sym (length-append (orders_at moments before) (Single asked.0 (moments (length before)) ∷ []))

-- a client that has reported is not busy
pub reported_free : (v : View) (answer : Said) → Some answer ≡ report_of v → is_busy (reports v) ≡ false
reported_free v answer e = by v.job e
  where
    by : (job : Job) → Some answer ≡ report_of_job job → is_busy (reports (record v { job = job })) ≡ false
    by (Told said) e = refl
    by job e = absurd (true≢false (ap is_some e))

-- a client that is not busy has no report that was not taken
pub none_untaken : (client : Stand client_side) (reports : List Said) → is_busy client.owner.end.view ≡ false
    → reports ++ option_to_list (report_of client.owner.end.view) ≡ reports
none_untaken client reports free = ap (λ o. reports ++ option_to_list o) (free_none client.owner.end.view free) ∙ append-nil reports

module _ (Is : (op : Op (List ℕ)) (answer : Said) (old new : Stand client_side) → Answers op answer old new → Type 0) where
  -- after its drives a client is to close nothing
  pub none_to_close : (asked : List (Op (List ℕ) × Said)) (start now : Stand client_side) → AreAnswered Is asked start now
      → start.owner.end.view.closing ≡ false → now.owner.end.view.closing ≡ false
  none_to_close [] start now answered none = ap (λ (s : Stand client_side). s.owner.end.view.closing) answered ∙ none
  none_to_close (asked ∷ before) start now answered none = ap (λ v. v.closing) answered.2.drove.did.sums.led.2.0.0.0

  -- nor is it busy
  pub answered_free : (b : Beginning) (server : Stand server_side) (asked : List (Op (List ℕ) × Said)) (start now : Stand client_side) → Begins b server start
      → AreAnswered Is asked start now → is_busy now.owner.end.view ≡ false
  answered_free b server [] start now begins answered = ap (λ (s : Stand client_side). is_busy s.owner.end.view) answered ∙ ap is_busy begins.client_view
  answered_free b server (asked ∷ before) start now begins answered =
      let led = answered.2.drove.did.sums.led in
      let report = led.1.1.2 in
      ap is_busy led.2.0.0.0 ∙ ap (λ c. is_busy c.view) led.1.2.0.0 ∙ ap is_busy report.0.0.1.0
      ∙ reported_free led.1.1.0.owner.end.view asked.1 report.0.0.0

  -- before a drive reports nothing is reported, and no other operation begun
  abbrev pub InMidst : Type 0
  InMidst =
      (op : Op (List ℕ)) (answer : Said) (old new : Stand client_side) (a : Answers op answer old new) → Is op answer old new a
      → AreMidst a.drove.did.actions

  module _ (midst : InMidst) where
    -- so the drives begin so many operations
    numbers_are : (asked : List (Op (List ℕ) × Said)) (start now : Stand client_side) (answered : AreAnswered Is asked start now)
        → number_in (actions_in Is asked start now answered) ≡ length asked
    numbers_are [] start now answered = refl
    numbers_are (asked ∷ before) start now answered =
        midst_numbers answered.2.drove.did.actions (Other (Begun asked.0) ∷ actions_in Is before start answered.0 answered.1)
        (midst asked.0 asked.1 answered.0 now answered.2 answered.3)
        ∙ ap suc (numbers_are before start answered.0 answered.1)

    -- and these, at their moments
    pub orders_are : (moments : ℕ → ℕ) (asked : List (Op (List ℕ) × Said)) (start now : Stand client_side) (answered : AreAnswered Is asked start now)
        → begun_at moments (actions_in Is asked start now answered) ≡ orders_at moments asked
    orders_are moments [] start now answered = refl
    orders_are moments (asked ∷ before) start now answered =
        let rest = Other (Begun asked.0) ∷ actions_in Is before start answered.0 answered.1 in
        append-nil _ ∙ append-nil _ ∙ append-nil _
        ∙ midst_begins moments answered.2.drove.did.actions rest (midst asked.0 asked.1 answered.0 now answered.2 answered.3)
        ∙ ap (λ n. begun_at moments (actions_in Is before start answered.0 answered.1) ++ Single asked.0 (moments n) ∷ [])
        (numbers_are before start answered.0 answered.1)
        ∙ ap (λ l. l ++ Single asked.0 (moments (length before)) ∷ []) (orders_are moments before start answered.0 answered.1)

    -- and report their answers
    pub answers_are : (asked : List (Op (List ℕ) × Said)) (start now : Stand client_side) (answered : AreAnswered Is asked start now)
        → reports_in (actions_in Is asked start now answered) ≡ answers_of asked
    answers_are [] start now answered = refl
    answers_are (asked ∷ before) start now answered =
        let rest = Other (Begun asked.0) ∷ actions_in Is before start answered.0 answered.1 in
        append-nil _ ∙ append-nil _
        ∙ ap (λ l. l ++ asked.1 ∷ [])
        (midst_reports answered.2.drove.did.actions rest (midst asked.0 asked.1 answered.0 now answered.2 answered.3) ∙ append-nil _)
        ∙ ap (λ l. l ++ asked.1 ∷ []) (answers_are before start answered.0 answered.1)

-- the actions of drives that answered by such actions, where such an operation may be begun
module _ (Carries : Op (List ℕ) → Type 0) (Asks : Action client_side → (old new : Held Client) → Type 0)
    (begins : (op : Op (List ℕ)) (old new : Held Client) → Carries op → old.end.view.closing ≡ false → ClientIsCalm old new
    → Asks (Other (Begun op)) old new) where
  pub midst_by : InMidst (IsAnswerBy Carries Asks)
  midst_by op answer old new a by = by.midst

  pub answers_go : (asked : List (Op (List ℕ) × Said)) (start now : Stand client_side) (answered : AreAnswered (IsAnswerBy Carries Asks) asked start now)
      → start.owner.end.view.closing ≡ false → Went Asks (actions_in (IsAnswerBy Carries Asks) asked start now answered) start now
  answers_go [] start now answered none = (answered, tt)
  answers_go (asked ∷ before) start now answered none =
      let a = answered.2 in
      let by = answered.3 in
      let more = actions_in (IsAnswerBy Carries Asks) before start answered.0 answered.1 in
      let first = answers_go before start answered.0 answered.1 none in
      let unclosed = none_to_close (IsAnswerBy Carries Asks) before start answered.0 answered.1 none in
      let drive : Went Asks (actions_of_drive a.drove) a.begun now = (a.drove.did.sums.led, by.asks) in
      let begun : Went Asks (Other (Begun asked.0) ∷ more) start a.begun =
      ((answered.0, first.0, a.begins), (first.1, begins asked.0 answered.0.owner a.begun.owner by.raised unclosed by.calm)) in
      went_then Asks (actions_of_drive a.drove) (Other (Begun asked.0) ∷ more) start a.begun now drive begun
