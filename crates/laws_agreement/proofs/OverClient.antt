-- A client that is at an operation of an upload over breaks does what it does at that operation alone, up to its answer; then it goes on with the
-- next operation, if there is one.
use Rattle.std.proofs.Common.{◌≡◌, ℕ, List, ◌++◌, Bool, true, false, ◌&&◌, ◌==◌, Option, Some, None, refl, sym, ap, subst, ◌∙◌}
use Rattle.std.specs.Prelude.{if◌then◌else◌}
use Rattle.ftp_command.specs.declared.command.Command.{Command}
use Rattle.ftp_nvt.specs.Lines.{NvtEvent, line, too_long, owed}
use Rattle.ftp_operation.specs.Answer.{Said, Refused, Foreign}
use Rattle.ftp_operation.specs.declared.op.Op.{Op}
use Rattle.ftp_endpoint.specs.declared.endpoint.Endpoint.{Endpoint}
use Rattle.ftp_reply.specs.Lines.{Text, joined}
use Rattle.ftp_ends.specs.Link.{same_host}
use Rattle.ftp_client_model.specs.Tries.{Run, next_in, after_size, after_try, is_size, run_at}
use Rattle.ftp_client_model.specs.Calls.{report_of_job, line_taken, event_taken}
use Rattle.ftp_client_model.specs.Dialogue.{sends, sends_if, last_job, placed, goes_on, next_job, finishes_by, finishes_read, is_to_abort, sends_abort, aborts_once_enough, abort_answered, begins, finishes, greeted, enters_with, login_ends, user_answered, pass_answered, set_accepted, dials, endpoint_named, port_named, passive_named, step_done, intermediate, awaits_reply, step_answered, answer_in, judged, answers_by, answers_job, answers_once_over, closes_once_given_by, closes_once_given, carries_on, with_reply, awaited, transfer_opened, marked_flow, noted, unless_open, before_opening, behind_opening, transfer_answered, job_answered, stand_answered, judged_reply, answered, closes, has_begun, is_given}
use Rattle.ftp_client_model.specs.Octets.{flow_of}
use Rattle.ftp_client_model.specs.Plan.{asked_settings, command_of, first_step, next_step, settings_behind as set_by, is_extended}
use Rattle.ftp_client_model.specs.Replies.{Verdict, Preliminary, Completion, Intermediate, Negative, Closing, Displaced, verdict_of}
use Rattle.ftp_reply.specs.Reader.{Heard, GoesOn, Says, Faulty, line_heard, Between}
use Rattle.ftp_reply.specs.Values.{passive_value, extended_value, mark_value}
use Rattle.ftp_client_model.specs.View.{View, Job, Idle, Waiting, Doing, Transferring, Told, Transfer, Flow, strange, silent, dropped, fails_by, failed_job, failure_said}
use Rattle.ftp_client_model.specs.declared.client.Abort.{Abort}
use Rattle.ftp_client_model.specs.declared.client.Abort.TheVariants as Aborts
use Rattle.ftp_client_model.specs.declared.client.Failure.{Failure}
use Rattle.ftp_client_model.specs.declared.client.Failure.TheVariants as Failures
use Rattle.ftp_client_model.specs.declared.client.ClientLink.{ClientLink}
use Rattle.ftp_client_model.specs.declared.client.ClientLink.TheVariants as Data
use Rattle.ftp_client_model.specs.declared.client.Replied.{Replied}
use Rattle.ftp_client_model.specs.declared.client.Replied.TheVariants as Replies
use Rattle.ftp_client_model.specs.declared.client.Standing.{Standing}
use Rattle.ftp_client_model.specs.declared.client.Standing.TheVariants as Stands
use Rattle.ftp_client_model.specs.declared.client.Step.{Step}
use Rattle.ftp_client_model.specs.declared.client.Step.TheVariants as Steps
use Rattle.laws_agreement.specs.Tried.{IsUnderWay}

-- one answer is told
pub told_same : {one other : Said} → Told one ≡ Told other → one ≡ other
told_same {one = one} {other = other} is = let e : Some one ≡ Some other = ap report_of_job is in cc

-- a step of an operation begins whatever the client did before
placed_job : (next : Op (List ℕ)) (step : Step) (job : Job) (v : View) → placed next step (record v { job = job }) ≡ placed next step v
placed_job next Steps.Last job v = refl
placed_job next step job v = refl

-- so does an operation
pub begins_job : (next : Op (List ℕ)) (job : Job) (v : View) → begins next (record v { job = job }) ≡ begins next v
begins_job next job v = placed_job next (first_step v.settings next) job v

module _ (run : Run) (op : Op (List ℕ)) where
  -- ---- with a run, and without

  -- with this run
  abbrev pub on : View → View
  on v = record v { run = Some run }

  -- with none
  abbrev pub off : View → View
  off v = record v { run = None }

  -- the operation is under way
  abbrev pub AtWork : Job → Type 0
  AtWork (Doing other step) = other ≡ op
  AtWork (Transferring other transfer) = other ≡ op
  AtWork job = ⊥

  -- or it waits for the end of the login
  abbrev pub Works : Job → ClientLink → Type 0
  Works job connection = IsUnderWay op job connection

  -- the next operation of the run begins, or the answer is told
  abbrev pub turns_to : Option (Op (List ℕ)) → View → View
  turns_to None v = v
  turns_to (Some next) v = begins next (record v { run = Some (run_at next run) })

  -- a client with the run beside one without it: they are at the same, or the latter has told its answer and the former goes on
  pub data Beside (real alone : View) : Type 0 where
    Under : (v : View) → real ≡ on v → alone ≡ off v → Works v.job v.connection → Beside real alone
    Behind : (v : View) (said : Said) → alone ≡ record v { job = Told said; run = None; connection = Data.Free }
        → real ≡ turns_to (next_in run op said) (record v { job = Told said; run = None; connection = Data.Free }) → Beside real alone

  -- both at the same, behind the login
  pub record Amid (real alone : View) : Type 0 where
    pub view : View
    pub real_is : real ≡ on view
    pub alone_is : alone ≡ off view
    pub at_work : AtWork view.job

  -- both at the same, also in the login
  pub record Along (real alone : View) : Type 0 where
    pub view : View
    pub real_is : real ≡ on view
    pub alone_is : alone ≡ off view
    pub works : Works view.job view.connection

  -- an operation under way is at work or waits
  work_of : (job : Job) (connection : ClientLink) → AtWork job → Works job connection
  work_of (Doing other step) connection w = w
  work_of (Transferring other transfer) connection w = w
  work_of (Waiting other) connection w = absurd w
  work_of Idle connection w = absurd w
  work_of (Told said) connection w = absurd w

  -- where a link or a port is, nothing waits for the login
  pub at_link : (job : Job) (connection : ClientLink) → (connection ≡ Data.Free → ⊥) → Works job connection → AtWork job
  at_link (Doing other step) connection some w = w
  at_link (Transferring other transfer) connection some w = w
  at_link (Waiting other) connection some w = absurd (some w.1)
  at_link Idle connection some w = absurd w
  at_link (Told said) connection some w = absurd w

  -- both at the same
  amid : (v : View) → AtWork v.job → Amid (on v) (off v)
  amid v w = record { view = v; real_is = refl; alone_is = refl; at_work = w }

  -- a client at an operation is beside itself without the run
  pub under : (v : View) → Works v.job v.connection → Beside (on v) (off v)
  under v w = Under v refl refl w

  -- so it is behind the login
  pub work : (v : View) → AtWork v.job → Beside (on v) (off v)
  work v w = under v (work_of v.job v.connection w)

  -- two at the same behind the login are beside each other
  amid_beside : (a b : View) → Amid a b → Beside a b
  amid_beside a b m = Under m.view m.real_is m.alone_is (work_of m.view.job m.view.connection m.at_work)

  -- a client at an operation is along itself without the run
  pub along : (v : View) → Works v.job v.connection → Along (on v) (off v)
  along v w = record { view = v; real_is = refl; alone_is = refl; works = w }

  -- two at the same behind the login are at the same
  pub amid_along : (a b : View) → Amid a b → Along a b
  amid_along a b m = record { view = m.view; real_is = m.real_is; alone_is = m.alone_is; works = work_of m.view.job m.view.connection m.at_work }

  -- and then something more
  amid_then : (f : View → View) → ((v : View) → AtWork v.job → Beside (f (on v)) (f (off v))) → (a b : View) → Amid a b → Beside (f a) (f b)
  amid_then f k a b m =
      subst (λ x. Beside (f x) (f b)) (sym m.real_is) (subst (λ y. Beside (f (on m.view)) (f y)) (sym m.alone_is) (k m.view m.at_work))

  -- and then something behind which both are at the same
  amid_more : (f : View → View) → ((v : View) → AtWork v.job → Amid (f (on v)) (f (off v))) → (a b : View) → Amid a b → Amid (f a) (f b)
  amid_more f k a b m =
      subst (λ x. Amid (f x) (f b)) (sym m.real_is) (subst (λ y. Amid (f (on m.view)) (f y)) (sym m.alone_is) (k m.view m.at_work))

  -- one of two
  pub if_beside : (b : Bool) (v w x y : View) → Beside v x → Beside w y → Beside (if b then v else w) (if b then x else y)
  if_beside true v w x y one other = one
  if_beside false v w x y one other = other

  -- ---- failures

  -- nothing follows a failure
  pub none_behind : (failure : Failure) → next_in run op (failure_said failure) ≡ None
  none_behind failure = by_left (run.left == 0) (is_size op) failure
    where
      by_left : (b size : Bool) (failure : Failure)
          → (if b then None else (if size then after_size run.upload (failure_said failure) else after_try run.upload op (failure_said failure))) ≡ None
      by_left true size failure = refl
      by_left false true Failures.Lost = refl
      by_left false true Failures.Strange = refl
      by_left false true Failures.Memory = refl
      by_left false false Failures.Lost = refl
      by_left false false Failures.Strange = refl
      by_left false false Failures.Memory = refl

  -- so nothing follows what a lost job tells
  pub lost_none : (job : Job) (connection : ClientLink) (said : Said) → Works job connection → failed_job (failure_said Failures.Lost) job ≡ Told said → next_in run op said ≡ None
  lost_none (Waiting other) connection said w is = subst (λ s. next_in run op s ≡ None) (told_same is) (none_behind Failures.Lost)
  lost_none (Doing other step) connection said w is = subst (λ s. next_in run op s ≡ None) (told_same is) (none_behind Failures.Lost)
  lost_none (Transferring other transfer) connection said w is = subst (λ s. next_in run op s ≡ None) (told_same is) (none_behind Failures.Lost)
  lost_none Idle connection said w is = absurd w
  lost_none (Told other) connection said w is = absurd w

  -- a client that has failed
  abbrev failed : Failure → Job → View → View
  failed failure job v = record (silent (dropped v)) { standing = Stands.Failed failure; job = failed_job (failure_said failure) job; run = None }

  -- tells its answer
  failed_beside : (failure : Failure) (v : View) (job : Job) (connection : ClientLink) → Works job connection → Beside (failed failure job (on v)) (failed failure job (off v))
  failed_beside failure v (Waiting other) connection w = Behind (failed failure v.job v) (failure_said failure) refl (sym (ap (λ n. turns_to n (failed failure (Waiting other) v)) (none_behind failure)))
  failed_beside failure v (Doing other step) connection w = Behind (failed failure v.job v) (failure_said failure) refl (sym (ap (λ n. turns_to n (failed failure (Doing other step) v)) (none_behind failure)))
  failed_beside failure v (Transferring other transfer) connection w = Behind (failed failure v.job v) (failure_said failure) refl (sym (ap (λ n. turns_to n (failed failure (Transferring other transfer) v)) (none_behind failure)))
  failed_beside failure v Idle connection w = absurd w
  failed_beside failure v (Told said) connection w = absurd w

  -- a failure ends the operation at both, or both had failed before
  pub fails_beside : (standing : Standing) (failure : Failure) (v : View) → Works v.job v.connection → Beside (fails_by standing failure (on v)) (fails_by standing failure (off v))
  fails_beside (Stands.Failed before) failure v w = under v w
  fails_beside Stands.Greeting failure v w = failed_beside failure v v.job v.connection w
  fails_beside Stands.User failure v w = failed_beside failure v v.job v.connection w
  fails_beside Stands.Pass failure v w = failed_beside failure v v.job v.connection w
  fails_beside Stands.Entered failure v w = failed_beside failure v v.job v.connection w

  -- what has no place is a failure at both
  strange_beside : (v : View) → Works v.job v.connection → Beside (strange (on v)) (strange (off v))
  strange_beside v w = fails_beside v.standing Failures.Strange v w

  -- ---- a step begins

  -- a step that sends its command, if it has one, leaves both at the same
  step_amid : (command : Option (Command (List ℕ))) (job : Job) (v : View) → AtWork job → Amid (sends_if command (record (on v) { job = job })) (sends_if command (record (off v) { job = job }))
  step_amid None job v w = amid (record v { job = job }) w
  step_amid (Some command) job v w = amid (sends command (record v { job = job })) w

  -- with its own command the operation is at work
  last_works : (other : Op (List ℕ)) (flow : Option Flow) → other ≡ op → AtWork (last_job other flow)
  last_works other None e = e
  last_works other (Some flow) e = e

  -- each step of the operation leaves both at the same
  pub placed_amid : (other : Op (List ℕ)) → other ≡ op → (step : Step) (v : View) → Amid (placed other step (on v)) (placed other step (off v))
  placed_amid other e Steps.Kind v = step_amid (command_of v other Steps.Kind) (Doing other Steps.Kind) v e
  placed_amid other e Steps.Structure v = step_amid (command_of v other Steps.Structure) (Doing other Steps.Structure) v e
  placed_amid other e Steps.Mode v = step_amid (command_of v other Steps.Mode) (Doing other Steps.Mode) v e
  placed_amid other e Steps.Port v = step_amid (command_of v other Steps.Port) (Doing other Steps.Port) v e
  placed_amid other e Steps.Passive v = step_amid (command_of v other Steps.Passive) (Doing other Steps.Passive) v e
  placed_amid other e Steps.Connect v = step_amid (command_of v other Steps.Connect) (Doing other Steps.Connect) v e
  placed_amid other e Steps.Restart v = step_amid (command_of v other Steps.Restart) (Doing other Steps.Restart) v e
  placed_amid other e Steps.Source v = step_amid (command_of v other Steps.Source) (Doing other Steps.Source) v e
  placed_amid other e Steps.Listen v = amid (record v { job = Doing other Steps.Listen; connection = Data.ListenWanted }) e
  placed_amid other e Steps.Last v = step_amid (command_of v other Steps.Last) (last_job other (flow_of other)) v (last_works other (flow_of other) e)

  -- an operation begins
  pub begins_amid : (other : Op (List ℕ)) → other ≡ op → (v : View) → Amid (begins other (on v)) (begins other (off v))
  begins_amid other e v = placed_amid other e (first_step v.settings other) v

  -- the step behind one that was answered well leaves both at the same
  pub goes_on_beside : (other : Op (List ℕ)) → other ≡ op → (step : Step) (v : View) → Beside (goes_on other step (on v)) (goes_on other step (off v))
  goes_on_beside other e step v = amid_beside (goes_on other step (on v)) (goes_on other step (off v)) (placed_amid other e (next_step v.settings other step) v)

  -- ---- the end of an operation

  -- an operation that is answered turns to the next, or tells its answer
  by_next : (next : Option (Op (List ℕ))) (said : Said) (v : View)
      → finishes_by next said (on v) ≡ turns_to next (record (dropped v) { job = Told said; run = None; connection = Data.Free })
  by_next None said v = refl
  by_next (Some other) said v = sym (begins_job other (Told said) (record (dropped v) { run = Some (run_at other run) }))

  -- an operation that is answered is told alone, and goes on with a run
  pub finishes_beside : (said : Said) (v : View) → AtWork v.job → Beside (finishes said (on v)) (finishes said (off v))
  finishes_beside said v w = by_job v.job w
    where
      ended : (next : Option (Op (List ℕ))) → next ≡ next_in run op said → Beside (finishes_by next said (on v)) (finishes_by None said (off v))
      ended next is = Behind (dropped v) said refl (by_next next said v ∙ ap (λ n. turns_to n (record (dropped v) { job = Told said; run = None; connection = Data.Free })) is)

      by_job : (job : Job) → AtWork job → Beside (finishes_by (next_job (Some run) job said) said (on v)) (finishes_by (next_job None job said) said (off v))
      by_job (Doing other step) e = ended (next_in run other said) (ap (λ o. next_in run o said) e)
      by_job (Transferring other transfer) e = ended (next_in run other said) (ap (λ o. next_in run o said) e)
      by_job (Waiting other) e = absurd e
      by_job Idle e = absurd e
      by_job (Told other) e = absurd e

  -- so it is with an answer that was read
  finishes_read_beside : (said : Option Said) (v : View) → AtWork v.job → Beside (finishes_read said (on v)) (finishes_read said (off v))
  finishes_read_beside None v w = strange_beside v (work_of v.job v.connection w)
  finishes_read_beside (Some said) v w = finishes_beside said v w

  -- ---- the login

  -- a greeting is taken by both
  greeted_beside : (verdict : Verdict) (code : ℕ) (v : View) → Works v.job v.connection → Beside (greeted verdict code (on v)) (greeted verdict code (off v))
  greeted_beside Completion code v w = under (greeted Completion code v) w
  greeted_beside Preliminary code v w = if_beside (code == 120) (on v) (strange (on v)) (off v) (strange (off v)) (under v w) (strange_beside v w)
  greeted_beside Intermediate code v w = strange_beside v w
  greeted_beside Negative code v w = strange_beside v w
  greeted_beside Closing code v w = strange_beside v w
  greeted_beside Displaced code v w = strange_beside v w

  -- an operation that waited begins at both
  enters_with_beside : (job : Job) (connection : ClientLink) (v : View) → Works job connection → Works v.job v.connection → Beside (enters_with job (on v)) (enters_with job (off v))
  enters_with_beside (Waiting other) connection v w here = amid_beside (begins other (on v)) (begins other (off v)) (begins_amid other w.0 v)
  enters_with_beside (Doing other step) connection v w here = under v here
  enters_with_beside (Transferring other transfer) connection v w here = under v here
  enters_with_beside Idle connection v w here = absurd w
  enters_with_beside (Told said) connection v w here = absurd w

  -- the login ends at both
  login_ends_beside : (v : View) → Works v.job v.connection → Beside (login_ends (on v)) (login_ends (off v))
  login_ends_beside v w = enters_with_beside v.job v.connection (record v { standing = Stands.Entered }) w w

  -- the answer to USER is taken by both
  user_beside : (verdict : Verdict) (v : View) → Works v.job v.connection → Beside (user_answered verdict (on v)) (user_answered verdict (off v))
  user_beside Intermediate v w = under (user_answered Intermediate v) w
  user_beside Completion v w = login_ends_beside v w
  user_beside Negative v w = login_ends_beside v w
  user_beside Preliminary v w = strange_beside v w
  user_beside Closing v w = strange_beside v w
  user_beside Displaced v w = strange_beside v w

  -- the answer to PASS is taken by both
  pass_beside : (verdict : Verdict) (v : View) → Works v.job v.connection → Beside (pass_answered verdict (on v)) (pass_answered verdict (off v))
  pass_beside Completion v w = login_ends_beside v w
  pass_beside Negative v w = login_ends_beside v w
  pass_beside Intermediate v w = strange_beside v w
  pass_beside Preliminary v w = strange_beside v w
  pass_beside Closing v w = strange_beside v w
  pass_beside Displaced v w = strange_beside v w

  -- ---- an answer at a step

  module _ (other : Op (List ℕ)) (same : other ≡ op) where
    -- both dial an endpoint
    dials_beside : (endpoint : Endpoint) (v : View) → Beside (dials other endpoint (on v)) (dials other endpoint (off v))
    dials_beside endpoint v = goes_on_beside other same Steps.Passive (record v { connection = Data.Connecting endpoint })

    -- both are told an endpoint
    named_beside : (endpoint : Option Endpoint) (v : View) → AtWork v.job → Beside (endpoint_named endpoint other (on v)) (endpoint_named endpoint other (off v))
    named_beside None v w = strange_beside v (work_of v.job v.connection w)
    named_beside (Some endpoint) v w =
        if_beside (same_host endpoint.host v.peer) (dials other endpoint (on v)) (finishes Foreign (on v)) (dials other endpoint (off v)) (finishes Foreign (off v))
        (dials_beside endpoint v) (finishes_beside Foreign v w)

    -- both are told a port
    port_beside : (port : Option ℕ) (v : View) → AtWork v.job → Beside (port_named port other (on v)) (port_named port other (off v))
    port_beside None v w = strange_beside v (work_of v.job v.connection w)
    port_beside (Some port) v w = dials_beside (record { host = v.peer; port = port }) v

    -- the answer to PASV or EPSV is taken by both
    passive_beside : (extended : Bool) (text : Text) (v : View) → AtWork v.job → Beside (passive_named extended other text (on v)) (passive_named extended other text (off v))
    passive_beside true text v w = port_beside (extended_value text) v w
    passive_beside false text v w = named_beside (passive_value text) v w

    -- settings that were accepted are kept by both
    set_beside : (step : Step) (v : View) → Beside (set_accepted other step (on v)) (set_accepted other step (off v))
    set_beside step v = goes_on_beside other same step (record v { settings = set_by step v.settings (asked_settings other) })

    -- a step that was answered well goes on at both
    done_beside : (step : Step) (texts : List Text) (v : View) → AtWork v.job → Beside (step_done other step texts (on v)) (step_done other step texts (off v))
    done_beside Steps.Port texts v w = goes_on_beside other same Steps.Port v
    done_beside Steps.Passive texts v w = passive_beside (is_extended v other) (joined texts) v w
    done_beside Steps.Last texts v w = finishes_read_beside (answer_in other texts) v w
    done_beside Steps.Kind texts v w = set_beside Steps.Kind v
    done_beside Steps.Structure texts v w = set_beside Steps.Structure v
    done_beside Steps.Mode texts v w = set_beside Steps.Mode v
    done_beside Steps.Listen texts v w = strange_beside v (work_of v.job v.connection w)
    done_beside Steps.Connect texts v w = strange_beside v (work_of v.job v.connection w)
    done_beside Steps.Restart texts v w = strange_beside v (work_of v.job v.connection w)
    done_beside Steps.Source texts v w = strange_beside v (work_of v.job v.connection w)

    -- so does one that is answered that a command follows
    intermediate_beside : (step : Step) (v : View) → AtWork v.job → Beside (intermediate other step (on v)) (intermediate other step (off v))
    intermediate_beside Steps.Restart v w = goes_on_beside other same Steps.Restart v
    intermediate_beside Steps.Source v w = goes_on_beside other same Steps.Source v
    intermediate_beside Steps.Port v w = strange_beside v (work_of v.job v.connection w)
    intermediate_beside Steps.Passive v w = strange_beside v (work_of v.job v.connection w)
    intermediate_beside Steps.Last v w = strange_beside v (work_of v.job v.connection w)
    intermediate_beside Steps.Kind v w = strange_beside v (work_of v.job v.connection w)
    intermediate_beside Steps.Structure v w = strange_beside v (work_of v.job v.connection w)
    intermediate_beside Steps.Mode v w = strange_beside v (work_of v.job v.connection w)
    intermediate_beside Steps.Listen v w = strange_beside v (work_of v.job v.connection w)
    intermediate_beside Steps.Connect v w = strange_beside v (work_of v.job v.connection w)

    -- each reply to the command of a step is taken by both
    step_beside : (step : Step) (verdict : Verdict) (code : ℕ) (texts : List Text) (v : View) → AtWork v.job
        → Beside (step_answered other step verdict code texts (on v)) (step_answered other step verdict code texts (off v))
    step_beside step Completion code texts v w = done_beside step texts v w
    step_beside step Intermediate code texts v w = intermediate_beside step v w
    step_beside step Negative code texts v w =
        if_beside (awaits_reply step) (finishes (Refused code) (on v)) (strange (on v)) (finishes (Refused code) (off v)) (strange (off v))
        (finishes_beside (Refused code) v w) (strange_beside v (work_of v.job v.connection w))
    step_beside step Preliminary code texts v w = strange_beside v (work_of v.job v.connection w)
    step_beside step Closing code texts v w = strange_beside v (work_of v.job v.connection w)
    step_beside step Displaced code texts v w = strange_beside v (work_of v.job v.connection w)

  -- ---- a transfer

  -- a transfer is answered at both once its final reply and its end are in
  answers_by_beside : (replied : Replied) (abort : Abort) (connection : ClientLink) (other : Op (List ℕ)) (flow : Flow) (v : View) → AtWork v.job
      → Beside (answers_by replied abort connection other flow (on v)) (answers_by replied abort connection other flow (off v))
  answers_by_beside (Replies.Final code) Aborts.Unsent (Data.Over ending) other flow v w = finishes_read_beside (judged ending Aborts.Unsent code other flow) v w
  answers_by_beside (Replies.Final code) Aborts.Answered (Data.Over ending) other flow v w = finishes_read_beside (judged ending Aborts.Answered code other flow) v w
  answers_by_beside replied abort connection other flow v w = work v w

  -- so is the transfer under way
  answers_beside : (v : View) → AtWork v.job → Beside (answers_once_over (on v)) (answers_once_over (off v))
  answers_beside v w = by_job v.job
    where
      by_job : (job : Job) → Beside (answers_job job (on v)) (answers_job job (off v))
      by_job (Transferring other transfer) = answers_by_beside transfer.replied transfer.abort v.connection other transfer.flow v w
      by_job (Doing other step) = work v w
      by_job (Waiting other) = work v w
      by_job Idle = work v w
      by_job (Told said) = work v w

  -- both close the link once all is given
  closes_by_amid : (given : Bool) (connection : ClientLink) (v : View) → AtWork v.job → Amid (closes_once_given_by given connection (on v)) (closes_once_given_by given connection (off v))
  closes_by_amid true Data.Open v w = amid (closes v) w
  closes_by_amid given connection v w = amid v w

  -- of the transfer under way
  closes_amid : (v : View) → AtWork v.job → Amid (closes_once_given v.job (on v)) (closes_once_given v.job (off v))
  closes_amid v w = by_job v.job
    where
      by_job : (job : Job) → Amid (closes_once_given job (on v)) (closes_once_given job (off v))
      by_job (Transferring other transfer) = closes_by_amid (has_begun transfer.replied && is_given transfer.flow) v.connection v w
      by_job (Doing other step) = amid v w
      by_job (Waiting other) = amid v w
      by_job Idle = amid v w
      by_job (Told said) = amid v w

  -- one of two
  if_amid : (b : Bool) (v w x y : View) → Amid v x → Amid w y → Amid (if b then v else w) (if b then x else y)
  if_amid true v w x y one two = one
  if_amid false v w x y one two = two

  -- both send ABOR once a Peek has enough
  pub aborts_amid : (v : View) → AtWork v.job → Amid (aborts_once_enough v.job (on v)) (aborts_once_enough v.job (off v))
  aborts_amid v w = by_job v.job w
    where
      by_job : (job : Job) → AtWork job → Amid (aborts_once_enough job (on v)) (aborts_once_enough job (off v))
      by_job (Transferring other transfer) e =
          if_amid (is_to_abort v.connection other transfer) (sends_abort other transfer (on v)) (on v) (sends_abort other transfer (off v)) (off v)
          (amid (sends_abort other transfer v) e) (amid v w)
      by_job (Doing other step) e = amid v w
      by_job (Waiting other) e = amid v w
      by_job Idle e = amid v w
      by_job (Told said) e = amid v w

  -- a transfer goes on at both
  pub carries_beside : (v : View) → AtWork v.job → Beside (carries_on (on v)) (carries_on (off v))
  carries_beside v w =
      let aborts : View → View = λ x. aborts_once_enough x.job x in
      amid_then (λ x. answers_once_over x) (λ x at. answers_beside x at) (aborts (closes_once_given v.job (on v))) (aborts (closes_once_given v.job (off v)))
      (amid_more aborts (λ x at. aborts_amid x at) (closes_once_given v.job (on v)) (closes_once_given v.job (off v)) (closes_amid v w))

  module _ (other : Op (List ℕ)) (transfer : Transfer) (same : other ≡ op) where
    -- a reply to its command is kept by both
    reply_beside : (replied : Replied) (v : View) → Beside (with_reply replied other transfer (on v)) (with_reply replied other transfer (off v))
    reply_beside replied v = carries_beside (record v { job = Transferring other (record transfer { replied = replied }) }) same

    -- a 1yz opens it at both
    opened_beside : (code : ℕ) (v : View) → AtWork v.job → Beside (transfer_opened code other transfer (on v)) (transfer_opened code other transfer (off v))
    opened_beside code v w =
        let x : View = record v { connection = awaited v.connection } in
        if_beside (code == 110) (on v) (with_reply Replies.Begun other transfer (on x)) (off v) (with_reply Replies.Begun other transfer (off x)) (work v w) (reply_beside Replies.Begun x)

    -- a 110 is noted by both
    noted_beside : (code : ℕ) (text : Text) (v : View) → AtWork v.job → Beside (noted code text other transfer (on v)) (noted code text other transfer (off v))
    noted_beside code text v w =
        let x : View = record v { job = Transferring other (record transfer { flow = marked_flow (mark_value text) transfer.flow }) } in
        if_beside (code == 110) (on x) (on v) (off x) (off v) (work x same) (work v w)

    -- a reply before the 1yz is taken by both
    before_beside : (verdict : Verdict) (code : ℕ) (v : View) → AtWork v.job → Beside (before_opening verdict code other transfer (on v)) (before_opening verdict code other transfer (off v))
    before_beside Preliminary code v w = opened_beside code v w
    before_beside Negative code v w = reply_beside (Replies.Final code) (closes v)
    before_beside Completion code v w = strange_beside v (work_of v.job v.connection w)
    before_beside Intermediate code v w = strange_beside v (work_of v.job v.connection w)
    before_beside Closing code v w = strange_beside v (work_of v.job v.connection w)
    before_beside Displaced code v w = strange_beside v (work_of v.job v.connection w)

    -- a refusal behind the 1yz ends it at both
    refused_beside : (code : ℕ) (connection : ClientLink) (v : View)
        → Beside (with_reply (Replies.Final code) other transfer (unless_open connection (on v))) (with_reply (Replies.Final code) other transfer (unless_open connection (off v)))
    refused_beside code Data.Open v = reply_beside (Replies.Final code) v
    refused_beside code (Data.Over ending) v = reply_beside (Replies.Final code) v
    refused_beside code Data.Free v = reply_beside (Replies.Final code) (closes v)
    refused_beside code Data.ListenWanted v = reply_beside (Replies.Final code) (closes v)
    refused_beside code (Data.Listening port) v = reply_beside (Replies.Final code) (closes v)
    refused_beside code (Data.Connecting endpoint) v = reply_beside (Replies.Final code) (closes v)
    refused_beside code (Data.Accepting port) v = reply_beside (Replies.Final code) (closes v)

    -- each reply behind the 1yz is taken by both
    behind_beside : (verdict : Verdict) (code : ℕ) (text : Text) (v : View) → AtWork v.job → Beside (behind_opening verdict code text other transfer (on v)) (behind_opening verdict code text other transfer (off v))
    behind_beside Preliminary code text v w = noted_beside code text v w
    behind_beside Completion code text v w = reply_beside (Replies.Final code) v
    behind_beside Negative code text v w = refused_beside code v.connection v
    behind_beside Intermediate code text v w = strange_beside v (work_of v.job v.connection w)
    behind_beside Closing code text v w = strange_beside v (work_of v.job v.connection w)
    behind_beside Displaced code text v w = strange_beside v (work_of v.job v.connection w)

    -- the reply to an ABOR is taken by both
    abort_beside : (abort : Abort) (verdict : Verdict) (v : View) → AtWork v.job → Beside (abort_answered abort verdict other transfer (on v)) (abort_answered abort verdict other transfer (off v))
    abort_beside Aborts.Sent Completion v w = carries_beside (record v { job = Transferring other (record transfer { abort = Aborts.Answered }) }) same
    abort_beside abort verdict v w = strange_beside v (work_of v.job v.connection w)

    -- each reply to the command of a transfer is taken by both
    transfer_beside : (replied : Replied) (verdict : Verdict) (code : ℕ) (text : Text) (v : View) → AtWork v.job
        → Beside (transfer_answered replied verdict code text other transfer (on v)) (transfer_answered replied verdict code text other transfer (off v))
    transfer_beside Replies.Nothing verdict code text v w = before_beside verdict code v w
    transfer_beside Replies.Begun verdict code text v w = behind_beside verdict code text v w
    transfer_beside (Replies.Final before) verdict code text v w = abort_beside transfer.abort verdict v w

  -- ---- a reply

  -- each reply is taken by both, by what is under way
  job_beside : (job : Job) (verdict : Verdict) (code : ℕ) (texts : List Text) (v : View) → v.job ≡ job → Works v.job v.connection
      → Beside (job_answered job verdict code texts (on v)) (job_answered job verdict code texts (off v))
  job_beside (Doing other step) verdict code texts v is w =
      let e : other ≡ op = subst (λ j. Works j v.connection) is w in
      step_beside other e step verdict code texts v (subst AtWork (sym is) e)
  job_beside (Transferring other transfer) verdict code texts v is w =
      let e : other ≡ op = subst (λ j. Works j v.connection) is w in
      transfer_beside other transfer e transfer.replied verdict code (joined texts) v (subst AtWork (sym is) e)
  job_beside (Waiting other) verdict code texts v is w = strange_beside v w
  job_beside Idle verdict code texts v is w = strange_beside v w
  job_beside (Told said) verdict code texts v is w = strange_beside v w

  -- by how far the login is
  stand_beside : (standing : Standing) (verdict : Verdict) (code : ℕ) (texts : List Text) (v : View) → Works v.job v.connection
      → Beside (stand_answered standing verdict code texts (on v)) (stand_answered standing verdict code texts (off v))
  stand_beside Stands.Greeting verdict code texts v w = greeted_beside verdict code v w
  stand_beside Stands.User verdict code texts v w = user_beside verdict v w
  stand_beside Stands.Pass verdict code texts v w = pass_beside verdict v w
  stand_beside Stands.Entered verdict code texts v w = job_beside v.job verdict code texts v refl w
  stand_beside (Stands.Failed failure) verdict code texts v w = under v w

  -- by its first digit
  judged_beside : (verdict : Verdict) (code : ℕ) (texts : List Text) (v : View) → Works v.job v.connection
      → Beside (judged_reply verdict code texts (on v)) (judged_reply verdict code texts (off v))
  judged_beside Closing code texts v w = fails_beside v.standing Failures.Lost v w
  judged_beside Displaced code texts v w = strange_beside v w
  judged_beside Preliminary code texts v w = stand_beside v.standing Preliminary code texts v w
  judged_beside Completion code texts v w = stand_beside v.standing Completion code texts v w
  judged_beside Intermediate code texts v w = stand_beside v.standing Intermediate code texts v w
  judged_beside Negative code texts v w = stand_beside v.standing Negative code texts v w

  -- each reply is taken by both
  answered_beside : (code : ℕ) (texts : List Text) (v : View) → Works v.job v.connection → Beside (answered code texts (on v)) (answered code texts (off v))
  unfolding answered
  answered_beside code texts v w = judged_beside (verdict_of code) code texts v w

  -- each line of a reply is taken by both
  line_beside : (heard : Heard) (v : View) → Works v.job v.connection → Beside (line_taken heard (on v)) (line_taken heard (off v))
  line_beside (GoesOn gathered) v w = under (record v { gathered = gathered }) w
  line_beside (Says code texts) v w = answered_beside code texts (record v { gathered = Between }) w
  line_beside (Faulty fault) v w = strange_beside v w

  -- what an octet says
  pub event_beside : (event : NvtEvent) (v : View) → Works v.job v.connection → Beside (event_taken event (on v)) (event_taken event (off v))
  event_beside (line text) v w = line_beside (line_heard v.gathered text) v w
  event_beside too_long v w = strange_beside v w
  event_beside (owed answer) v w = under (record v { owed = v.owed ++ answer }) w
