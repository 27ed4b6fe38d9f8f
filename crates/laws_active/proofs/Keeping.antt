-- A client that begins no upload over breaks, and no Peek of no octet, goes on with such operations whatever it hears, whether it dials or has ports of its
-- own;
-- and what is so of a transfer as it begins, and stays so by all that is replied to it, is so as long as it is under way.
use Rattle.std.proofs.Common.{◌≡◌, ℕ, ◌==◌, Bool, true, false, true≢false, ◌&&◌, ◌||◌, List, [], ◌∷◌, Option, Some, None, refl, sym, ap, subst, ◌∙◌}
use Rattle.std.specs.Prelude.{if◌then◌else◌, ⊤}
use Rattle.ftp_command.specs.declared.command.Command.{Command}
use Rattle.ftp_endpoint.specs.declared.endpoint.Endpoint.{Endpoint}
use Rattle.ftp_endpoint.specs.declared.host.Host.{Host}
use Rattle.ftp_ends.specs.Ear.{ear}
use Rattle.ftp_ends.specs.Link.{same_host}
use Rattle.ftp_ends.specs.Reply.{reply_limit}
use Rattle.ftp_nvt.specs.Lines.{NvtEvent, line, too_long, owed}
use Rattle.ftp_operation.specs.Answer.{Foreign, Refused, Said, Unopened}
use Rattle.ftp_operation.specs.Operation.{can_be_sent}
use Rattle.ftp_operation.specs.declared.op.Op.{Op}
use Rattle.ftp_reply.specs.Lines.{Text, joined}
use Rattle.ftp_reply.specs.Reader.{Between, Faulty, GoesOn, Heard, Says, line_heard}
use Rattle.ftp_reply.specs.Values.{extended_value, mark_value, passive_value}
use Rattle.ftp_client_model.specs.Calls as near
use Rattle.ftp_client_model.specs.Calls.{data_end, data_opened, ending_of, event_taken, events_taken, hears, hears_octet, heard_flow, line_taken, opened_by, over_by, receives, receives_octet, started_by, starts, unsendable_by}
use Rattle.ftp_client_model.specs.Dialogue.{abort_answered, aborts_once_enough, answer_in, answered, answers_by, answers_once_over, awaited, awaits_reply, begins, carries_on, closes, closes_once_given_by, dials, endpoint_named, enters_with, finishes, finishes_by, finishes_read, goes_on, greeted, has_begun, is_given, is_to_abort, job_answered, judged, judged_reply, last_job, login_ends, marked_flow, next_job, pass_answered, passive_named, placed, port_named, sends_abort, sends_if, stand_answered, step_answered, step_done, transfer_answered, unless_open, user_answered, with_reply}
use Rattle.ftp_client_model.specs.Octets.{flow_of}
use Rattle.ftp_client_model.specs.Plan.{asked_settings, command_of, count_of, first_step, is_extended, next_step, settings_behind}
use Rattle.ftp_client_model.specs.Replies.{Closing, Completion, Displaced, Intermediate, Negative, Preliminary, Verdict, verdict_of}
use Rattle.ftp_client_model.specs.View.{Doing, Flow, Idle, Job, Told, Transfer, Transferring, View as Near, Waiting, done_with, dropped, fails, fails_by, strange}
use Rattle.ftp_client_model.specs.declared.client.Abort.{Abort}
use Rattle.ftp_client_model.specs.declared.client.Abort.TheVariants as Aborts
use Rattle.ftp_client_model.specs.declared.client.ClientLink.{ClientLink}
use Rattle.ftp_client_model.specs.declared.client.ClientLink.TheVariants as Data
use Rattle.ftp_client_model.specs.declared.client.Ending.TheVariants as Endings
use Rattle.ftp_client_model.specs.declared.client.Failure.{Failure}
use Rattle.ftp_client_model.specs.declared.client.Failure.TheVariants as Failures
use Rattle.ftp_client_model.specs.declared.client.Replied.{Replied}
use Rattle.ftp_client_model.specs.declared.client.Replied.TheVariants as Replies
use Rattle.ftp_client_model.specs.declared.client.Standing.{Standing}
use Rattle.ftp_client_model.specs.declared.client.Standing.TheVariants as Stands
use Rattle.ftp_client_model.specs.declared.client.Step.{Step}
use Rattle.ftp_client_model.specs.declared.client.Step.TheVariants as Steps
use Rattle.laws_drivers.proofs.control.Taken.{taken}
use Rattle.laws_drivers.proofs.events.Plain.{IsSome, Whatever}

-- ---- operations, steps and jobs

-- this is so of a transfer as it begins, and stays so whatever is replied, noted, aborted and answered
pub record IsKept (Kept : Op (List ℕ) → Transfer → Type 0) : Type 0 where
  pub begins : (op : Op (List ℕ)) (flow : Flow) → flow_of op ≡ Some flow → Kept op (record { replied = Replies.Nothing; abort = Aborts.Unsent; flow = flow })
  pub replies : (replied : Replied) (op : Op (List ℕ)) (transfer : Transfer) → Kept op transfer → Kept op (record transfer { replied = replied })
  pub notes : (mark : Option ℕ) (op : Op (List ℕ)) (transfer : Transfer) → Kept op transfer
      → Kept op (record transfer { flow = marked_flow mark transfer.flow })
  pub aborts : (link : ClientLink) (op : Op (List ℕ)) (transfer : Transfer) → IsSome (count_of op) → Kept op transfer → is_to_abort link op transfer ≡ true
      → Kept op (record transfer { abort = Aborts.Sent })
  pub answers : (op : Op (List ℕ)) (transfer : Transfer) → Kept op transfer → transfer.abort ≡ Aborts.Sent
      → Kept op (record transfer { abort = Aborts.Answered })

-- one that is begun asks for one octet at least, where it asks for a number of them, and this is kept of its transfer
abbrev pub IsKeepingJob : (Op (List ℕ) → Transfer → Type 0) → Job → Type 0
IsKeepingJob Kept Idle = ⊤
IsKeepingJob Kept (Told said) = ⊤
IsKeepingJob Kept (Waiting op) = IsSome (count_of op)
IsKeepingJob Kept (Doing op step) = IsSome (count_of op)
IsKeepingJob Kept (Transferring op transfer) = IsSome (count_of op) × Kept op transfer

-- and no upload over breaks
pub record IsKeeping (Kept : Op (List ℕ) → Transfer → Type 0) (n : Near) : Type 0 where
  pub job : IsKeepingJob Kept n.job
  pub run : n.run ≡ None

-- whatever is so of its transfer
abbrev pub IsCarrying : Near → Type 0
IsCarrying n = IsKeeping Whatever n

pub whatever_kept : IsKept Whatever
whatever_kept = record {
  begins = λ op flow is. tt;
  replies = λ replied op transfer kept. tt;
  notes = λ mark op transfer kept. tt;
  aborts = λ link op transfer some kept is. tt;
  answers = λ op transfer kept is. tt;
}

module _ (Kept : Op (List ℕ) → Transfer → Type 0) (keeps : IsKept Kept) where
  -- ---- an operation goes on, or ends

  -- what is sent is of no matter
  sent_kept : (command : Option (Command (List ℕ))) (n : Near) → IsKeeping Kept n → IsKeeping Kept (sends_if command n)
  sent_kept None n p = p
  sent_kept (Some command) n p = record { job = p.job; run = p.run }

  placed_kept : (op : Op (List ℕ)) (step : Step) (n : Near) → IsSome (count_of op) → n.run ≡ None
      → IsKeeping Kept (placed op step n)
  placed_kept op step n some run = by step
    where
      last : (flow : Option Flow) → flow_of op ≡ flow → IsKeepingJob Kept (last_job op flow)
      last None is = some
      last (Some flow) is = (some, keeps.begins op flow is)

      by : (step : Step) → IsKeeping Kept (placed op step n)
      by Steps.Listen = record { job = some; run = run }
      by Steps.Last =
          sent_kept (command_of n op Steps.Last) (record n { job = last_job op (flow_of op) }) (record { job = last (flow_of op) refl; run = run })
      by other = sent_kept (command_of n op other) (record n { job = Doing op other }) (record { job = some; run = run })

  begins_kept : (op : Op (List ℕ)) (n : Near) → IsSome (count_of op) → n.run ≡ None → IsKeeping Kept (begins op n)
  begins_kept op n some run = placed_kept op (first_step n.settings op) n some run

  goes_kept : (op : Op (List ℕ)) (step : Step) (n : Near) → IsSome (count_of op) → n.run ≡ None → IsKeeping Kept (goes_on op step n)
  goes_kept op step n some run = placed_kept op (next_step n.settings op step) n some run

  -- a failure
  failed_kept : (failure : Failure) (n : Near) → IsKeeping Kept n → IsKeeping Kept (fails failure n)
  failed_kept failure n p = by n.standing n.job p.job
    where
      by : (standing : Standing) (job : Job) → IsKeepingJob Kept job → IsKeeping Kept (fails_by standing failure (record n { job = job }))
      by (Stands.Failed before) job some = record { job = some; run = p.run }
      by standing Idle some = record { job = tt; run = refl }
      by standing (Told said) some = record { job = tt; run = refl }
      by standing (Waiting op) some = record { job = tt; run = refl }
      by standing (Doing op step) some = record { job = tt; run = refl }
      by standing (Transferring op transfer) some = record { job = tt; run = refl }

  -- an answer
  finished_kept : (said : Said) (n : Near) → IsKeeping Kept n → IsKeeping Kept (finishes said n)
  finished_kept said n p = subst (λ next. IsKeeping Kept (finishes_by next said n)) (sym (ap (λ r. next_job r n.job said) p.run ∙ none n.job)) done
    where
      none : (job : Job) → next_job None job said ≡ None
      none (Doing op step) = refl
      none (Transferring op transfer) = refl
      none job = refl

      done : IsKeeping Kept (done_with said (dropped n))
      done = record { job = tt; run = refl }

  read_kept : (said : Option Said) (n : Near) → IsKeeping Kept n → IsKeeping Kept (finishes_read said n)
  read_kept None n p = failed_kept Failures.Strange n p
  read_kept (Some said) n p = finished_kept said n p

  -- ---- a transfer goes on

  -- of such an operation
  carried_kept : (op : Op (List ℕ)) (transfer : Transfer) (n : Near) → IsSome (count_of op) → Kept op transfer → n.run ≡ None
      → IsKeeping Kept (carries_on (record n { job = Transferring op transfer }))
  carried_kept op transfer n some kept run = by_given (has_begun transfer.replied && is_given transfer.flow) n.connection
    where
      at : ClientLink → Bool → Near
      at link closing = record n { job = Transferring op transfer; connection = link; closing = closing }

      keeping : (link : ClientLink) (closing : Bool) → IsKeeping Kept (at link closing)
      keeping link closing = record { job = (some, kept); run = run }

      over : (replied : Replied) (abort : Abort) (link : ClientLink) (flow : Flow) (v : Near) → IsKeeping Kept v
          → IsKeeping Kept (answers_by replied abort link op flow v)
      over (Replies.Final code) Aborts.Unsent (Data.Over ending) flow v p = read_kept (judged ending Aborts.Unsent code op flow) v p
      over (Replies.Final code) Aborts.Answered (Data.Over ending) flow v p = read_kept (judged ending Aborts.Answered code op flow) v p
      over replied abort link flow v p = p

      enough : (link : ClientLink) (closing : Bool) → (aborts : Bool) → (aborts ≡ true → Kept op (record transfer { abort = Aborts.Sent }))
          → IsKeeping Kept (answers_once_over (if aborts then sends_abort op transfer (at link closing) else at link closing))
      enough link closing true sent =
          over transfer.replied Aborts.Sent link transfer.flow (sends_abort op transfer (at link closing)) (record { job = (some, sent refl); run = run })
      enough link closing false sent = over transfer.replied transfer.abort link transfer.flow (at link closing) (keeping link closing)

      by_given : (given : Bool) (link : ClientLink)
          → IsKeeping Kept (let closed = closes_once_given_by given link (at link n.closing) in answers_once_over (aborts_once_enough closed.job closed))
      by_given true Data.Open = enough (Data.Over Endings.Ours) (n.closing || true) false (λ e. absurd (true≢false (sym e)))
      by_given true link = enough link n.closing (is_to_abort link op transfer) (keeps.aborts link op transfer some kept)
      by_given false link = enough link n.closing (is_to_abort link op transfer) (keeps.aborts link op transfer some kept)

  -- with another reply
  replied_kept : (replied : Replied) (op : Op (List ℕ)) (transfer : Transfer) (n : Near) → IsSome (count_of op) → Kept op transfer
      → n.run ≡ None → IsKeeping Kept (with_reply replied op transfer n)
  replied_kept replied op transfer n some kept run =
      carried_kept op (record transfer { replied = replied }) n some (keeps.replies replied op transfer kept) run

  -- the replies to a transfer
  transfer_kept : (replied : Replied) (verdict : Verdict) (code : ℕ) (text : Text) (op : Op (List ℕ)) (transfer : Transfer) (n : Near) → IsSome (count_of op)
      → Kept op transfer → IsKeeping Kept n → IsKeeping Kept (transfer_answered replied verdict code text op transfer n)
  transfer_kept replied verdict code text op transfer n some kept p = by_replied replied verdict
    where
      opens : (is_mark : Bool) → IsKeeping Kept (if is_mark then n else with_reply Replies.Begun op transfer (record n { connection = awaited n.connection }))
      opens true = p
      opens false = replied_kept Replies.Begun op transfer (record n { connection = awaited n.connection }) some kept p.run

      notes : (is_mark : Bool) (mark : Option ℕ)
          → IsKeeping Kept (if is_mark then record n { job = Transferring op (record transfer { flow = marked_flow mark transfer.flow }) } else n)
      notes true mark = record { job = (some, keeps.notes mark op transfer kept); run = p.run }
      notes false mark = p

      unopened : (link : ClientLink) → n.connection ≡ link → IsKeeping Kept (with_reply (Replies.Final code) op transfer (unless_open link n))
      unopened Data.Open is = replied_kept (Replies.Final code) op transfer n some kept p.run
      unopened (Data.Over ending) is = replied_kept (Replies.Final code) op transfer n some kept p.run
      unopened link is = replied_kept (Replies.Final code) op transfer (closes n) some kept p.run

      late : (abort : Abort) (verdict : Verdict) → transfer.abort ≡ abort → IsKeeping Kept (abort_answered abort verdict op transfer n)
      late Aborts.Sent Completion is = carried_kept op (record transfer { abort = Aborts.Answered }) n some (keeps.answers op transfer kept is) p.run
      late Aborts.Sent verdict is = failed_kept Failures.Strange n p
      late Aborts.Unsent verdict is = failed_kept Failures.Strange n p
      late Aborts.Answered verdict is = failed_kept Failures.Strange n p

      by_replied : (replied : Replied) (verdict : Verdict) → IsKeeping Kept (transfer_answered replied verdict code text op transfer n)
      by_replied Replies.Nothing Preliminary = opens (code == 110)
      by_replied Replies.Nothing Negative = replied_kept (Replies.Final code) op transfer (closes n) some kept p.run
      by_replied Replies.Nothing verdict = failed_kept Failures.Strange n p
      by_replied Replies.Begun Preliminary = notes (code == 110) (mark_value text)
      by_replied Replies.Begun Completion = replied_kept (Replies.Final code) op transfer n some kept p.run
      by_replied Replies.Begun Negative = unopened n.connection refl
      by_replied Replies.Begun verdict = failed_kept Failures.Strange n p
      by_replied (Replies.Final before) verdict = late transfer.abort verdict refl

  -- ---- a step is answered

  -- a passive port is named: it is dialled, or not
  dials_kept : (op : Op (List ℕ)) (endpoint : Endpoint) (n : Near) → IsSome (count_of op) → n.run ≡ None → IsKeeping Kept (dials op endpoint n)
  dials_kept op endpoint n some run = goes_kept op Steps.Passive (record n { connection = Data.Connecting endpoint }) some run

  named_kept : (extended : Bool) (op : Op (List ℕ)) (text : Text) (n : Near) → IsSome (count_of op) → IsKeeping Kept n
      → IsKeeping Kept (passive_named extended op text n)
  named_kept true op text n some p = by (extended_value text)
    where
      by : (port : Option ℕ) → IsKeeping Kept (port_named port op n)
      by None = failed_kept Failures.Strange n p
      by (Some port) = dials_kept op (record { host = n.peer; port = port }) n some p.run
  named_kept false op text n some p = by (passive_value text)
    where
      one : (endpoint : Endpoint) (same : Bool) → IsKeeping Kept (if same then dials op endpoint n else finishes Foreign n)
      one endpoint true = dials_kept op endpoint n some p.run
      one endpoint false = finished_kept Foreign n p

      by : (endpoint : Option Endpoint) → IsKeeping Kept (endpoint_named endpoint op n)
      by None = failed_kept Failures.Strange n p
      by (Some endpoint) = one endpoint (same_host endpoint.host n.peer)

  -- a step is done
  done_kept : (op : Op (List ℕ)) (step : Step) (texts : List Text) (n : Near) → IsSome (count_of op) → IsKeeping Kept n
      → IsKeeping Kept (step_done op step texts n)
  done_kept op Steps.Port texts n some p = goes_kept op Steps.Port n some p.run
  done_kept op Steps.Passive texts n some p = named_kept (is_extended n op) op (joined texts) n some p
  done_kept op Steps.Last texts n some p = read_kept (answer_in op texts) n p
  done_kept op Steps.Listen texts n some p = failed_kept Failures.Strange n p
  done_kept op Steps.Connect texts n some p = failed_kept Failures.Strange n p
  done_kept op Steps.Restart texts n some p = failed_kept Failures.Strange n p
  done_kept op Steps.Source texts n some p = failed_kept Failures.Strange n p
  done_kept op step texts n some p = goes_kept op step (record n { settings = settings_behind step n.settings (asked_settings op) }) some p.run

  -- it is answered
  step_kept : (op : Op (List ℕ)) (step : Step) (verdict : Verdict) (code : ℕ) (texts : List Text) (n : Near) → IsSome (count_of op) → IsKeeping Kept n
      → IsKeeping Kept (step_answered op step verdict code texts n)
  step_kept op step Completion code texts n some p = done_kept op step texts n some p
  step_kept op Steps.Restart Intermediate code texts n some p = goes_kept op Steps.Restart n some p.run
  step_kept op Steps.Source Intermediate code texts n some p = goes_kept op Steps.Source n some p.run
  step_kept op step Intermediate code texts n some p = failed_kept Failures.Strange n p
  step_kept op step Negative code texts n some p = by (awaits_reply step)
    where
      by : (awaits : Bool) → IsKeeping Kept (if awaits then finishes (Refused code) n else strange n)
      by true = finished_kept (Refused code) n p
      by false = failed_kept Failures.Strange n p
  step_kept op step verdict code texts n some p = failed_kept Failures.Strange n p

  -- ---- a reply

  job_kept : (job : Job) (verdict : Verdict) (code : ℕ) (texts : List Text) (n : Near) → n.job ≡ job → IsKeepingJob Kept job → IsKeeping Kept n
      → IsKeeping Kept (job_answered job verdict code texts n)
  job_kept (Doing op step) verdict code texts n is some p = step_kept op step verdict code texts n some p
  job_kept (Transferring op transfer) verdict code texts n is some p =
      transfer_kept transfer.replied verdict code (joined texts) op transfer n some.0 some.1 p
  job_kept job verdict code texts n is some p = failed_kept Failures.Strange n p

  -- the login is over
  entered_kept : (n : Near) → IsKeeping Kept n → IsKeeping Kept (login_ends n)
  entered_kept n p = by n.job p.job
    where
      by : (job : Job) → IsKeepingJob Kept job → IsKeeping Kept (enters_with job (record n { job = job; standing = Stands.Entered }))
      by (Waiting op) some = begins_kept op (record n { job = Waiting op; standing = Stands.Entered }) some p.run
      by Idle some = record { job = tt; run = p.run }
      by (Told said) some = record { job = tt; run = p.run }
      by (Doing op step) some = record { job = some; run = p.run }
      by (Transferring op transfer) some = record { job = some; run = p.run }

  greeted_kept : (verdict : Verdict) (code : ℕ) (n : Near) → IsKeeping Kept n → IsKeeping Kept (greeted verdict code n)
  greeted_kept Completion code n p = record { job = p.job; run = p.run }
  greeted_kept Preliminary code n p = by (code == 120)
    where
      by : (skips : Bool) → IsKeeping Kept (if skips then n else strange n)
      by true = p
      by false = failed_kept Failures.Strange n p
  greeted_kept verdict code n p = failed_kept Failures.Strange n p

  user_kept : (verdict : Verdict) (n : Near) → IsKeeping Kept n → IsKeeping Kept (user_answered verdict n)
  user_kept Intermediate n p = record { job = p.job; run = p.run }
  user_kept Completion n p = entered_kept n p
  user_kept Negative n p = entered_kept n p
  user_kept verdict n p = failed_kept Failures.Strange n p

  pass_kept : (verdict : Verdict) (n : Near) → IsKeeping Kept n → IsKeeping Kept (pass_answered verdict n)
  pass_kept Completion n p = entered_kept n p
  pass_kept Negative n p = entered_kept n p
  pass_kept verdict n p = failed_kept Failures.Strange n p

  stand_kept : (standing : Standing) (verdict : Verdict) (code : ℕ) (texts : List Text) (n : Near) → IsKeeping Kept n
      → IsKeeping Kept (stand_answered standing verdict code texts n)
  stand_kept Stands.Greeting verdict code texts n p = greeted_kept verdict code n p
  stand_kept Stands.User verdict code texts n p = user_kept verdict n p
  stand_kept Stands.Pass verdict code texts n p = pass_kept verdict n p
  stand_kept Stands.Entered verdict code texts n p = job_kept n.job verdict code texts n refl p.job p
  stand_kept (Stands.Failed failure) verdict code texts n p = p

  answered_kept : (code : ℕ) (texts : List Text) (n : Near) → IsKeeping Kept n → IsKeeping Kept (answered code texts n)
  unfolding answered
  answered_kept code texts n p = by (verdict_of code)
    where
      by : (verdict : Verdict) → IsKeeping Kept (judged_reply verdict code texts n)
      by Closing = failed_kept Failures.Lost n p
      by Displaced = failed_kept Failures.Strange n p
      by Preliminary = stand_kept n.standing Preliminary code texts n p
      by Completion = stand_kept n.standing Completion code texts n p
      by Intermediate = stand_kept n.standing Intermediate code texts n p
      by Negative = stand_kept n.standing Negative code texts n p

  -- ---- octets of the control connection

  line_kept : (heard : Heard) (n : Near) → IsKeeping Kept n → IsKeeping Kept (line_taken heard n)
  line_kept (GoesOn gathered) n p = record { job = p.job; run = p.run }
  line_kept (Says code texts) n p = answered_kept code texts (record n { gathered = Between }) (record { job = p.job; run = p.run })
  line_kept (Faulty fault) n p = failed_kept Failures.Strange n p

  event_kept : (event : NvtEvent) (n : Near) → IsKeeping Kept n → IsKeeping Kept (event_taken event n)
  event_kept (line text) n p = line_kept (line_heard n.gathered text) n p
  event_kept too_long n p = failed_kept Failures.Strange n p
  event_kept (owed octets) n p = record { job = p.job; run = p.run }

  events_kept : (events : List NvtEvent) (n : Near) → IsKeeping Kept n → IsKeeping Kept (events_taken events n)
  events_kept [] n p = p
  events_kept (event ∷ events) n p = events_kept events (event_taken event n) (event_kept event n p)

  pub hears_kept : (octets : List ℕ) (n : Near) → IsKeeping Kept n → IsKeeping Kept (hears n octets)
  hears_kept [] n p = p
  hears_kept (octet ∷ octets) n p =
      hears_kept octets (hears_octet n octet)
      (events_kept ((ear reply_limit).out n.ear octet) (record n { ear = (ear reply_limit).step n.ear octet })
      (record { job = p.job; run = p.run }))

  -- ---- an operation begins, and its data connection

  pub starts_kept : (op : Op (List ℕ)) (n : Near) → IsSome (count_of op) → IsKeeping Kept n → IsKeeping Kept (starts op n)
  unfolding starts
  starts_kept op n some p = by (can_be_sent op) n.standing
    where
      by : (can : Bool) (standing : Standing) → IsKeeping Kept (if can then started_by standing op (record n { run = None }) else unsendable_by standing n)
      by true Stands.Entered = begins_kept op (record n { run = None }) some refl
      by true (Stands.Failed failure) = record { job = tt; run = refl }
      by true Stands.Greeting = record { job = some; run = refl }
      by true Stands.User = record { job = some; run = refl }
      by true Stands.Pass = record { job = some; run = refl }
      by false (Stands.Failed failure) = record { job = tt; run = refl }
      by false Stands.Entered = record { job = tt; run = refl }
      by false Stands.Greeting = record { job = tt; run = refl }
      by false Stands.User = record { job = tt; run = refl }
      by false Stands.Pass = record { job = tt; run = refl }

  -- whatever is under way goes on
  carries_kept : (n : Near) → IsKeeping Kept n → IsKeeping Kept (carries_on n)
  carries_kept n p = by n.job p.job
    where
      by : (job : Job) → IsKeepingJob Kept job → IsKeeping Kept (carries_on (record n { job = job }))
      by (Transferring op transfer) some = carried_kept op transfer n some.0 some.1 p.run
      by Idle some = record { job = tt; run = p.run }
      by (Told said) some = record { job = tt; run = p.run }
      by (Waiting op) some = record { job = some; run = p.run }
      by (Doing op step) some = record { job = some; run = p.run }

  pub opened_kept : (host : Host) (n : Near) → IsKeeping Kept n → IsKeeping Kept (data_opened host n)
  unfolding data_opened
  opened_kept host n p = by n.closing n.connection
    where
      connects : (job : Job) → n.job ≡ job → IsKeepingJob Kept job → IsKeeping Kept (near.connected job n)
      connects (Doing op Steps.Connect) is some = goes_kept op Steps.Connect (record n { connection = Data.Open }) some p.run
      connects job is some = p

      accepts : (same : Bool) → IsKeeping Kept (near.accepted same n)
      accepts true = carries_kept (record n { connection = Data.Open }) (record { job = p.job; run = p.run })
      accepts false = carries_kept (record n { connection = Data.Over Endings.Foreign; closing = true }) (record { job = p.job; run = p.run })

      by : (closing : Bool) (link : ClientLink) → IsKeeping Kept (if closing then n else opened_by link host n)
      by true link = p
      by false (Data.Connecting endpoint) = connects n.job refl p.job
      by false (Data.Accepting port) = accepts (same_host host n.peer)
      by false link = p

  pub ended_kept : (n : Near) → IsKeeping Kept n → IsKeeping Kept (data_end n)
  unfolding data_end
  ended_kept n p = by n.closing n.connection
    where
      by : (closing : Bool) (link : ClientLink) → IsKeeping Kept (if closing then n else over_by link (ending_of n.job) n)
      by true link = p
      by false Data.Open = carries_kept (record n { connection = Data.Over (ending_of n.job) }) (record { job = p.job; run = p.run })
      by false link = p

  pub gives_kept : (count : ℕ) (n : Near) → ((op : Op (List ℕ)) (transfer : Transfer) → Kept op transfer
      → Kept op (record transfer { flow = near.went count transfer.flow })) → IsKeeping Kept n → IsKeeping Kept (near.gives_data count n)
  unfolding near.gives_data
  gives_kept count n went p = by n.job p.job
    where
      by : (job : Job) → IsKeepingJob Kept job → IsKeeping Kept (near.goes_by count job n)
      by (Transferring op transfer) some =
          carries_kept (record n { job = Transferring op (record transfer { flow = near.went count transfer.flow }) })
          (record { job = (some.0, went op transfer some.1); run = p.run })
      by Idle some = p
      by (Told said) some = p
      by (Waiting op) some = p
      by (Doing op step) some = p

  -- its report is taken
  pub taken_kept : (n : Near) → IsKeeping Kept n → IsKeeping Kept (taken n)
  taken_kept n p = by n.job p.job
    where
      by : (job : Job) → IsKeepingJob Kept job → IsKeeping Kept (taken (record n { job = job }))
      by (Told said) some = record { job = tt; run = p.run }
      by Idle some = record { job = tt; run = p.run }
      by (Waiting op) some = record { job = some; run = p.run }
      by (Doing op step) some = record { job = some; run = p.run }
      by (Transferring op transfer) some = record { job = some; run = p.run }

  -- a port is there
  listening_kept : (port : ℕ) (n : Near) → IsKeeping Kept n → IsKeeping Kept (near.listening port n)
  unfolding near.listening
  listening_kept port n p = by n.closing n.connection n.job p.job
    where
      by : (closing : Bool) (link : ClientLink) (job : Job) → IsKeepingJob Kept job
          → IsKeeping Kept (if closing then n else near.listening_by link job port n)
      by true link job some = p
      by false Data.ListenWanted (Doing op Steps.Listen) some = goes_kept op Steps.Listen (record n { connection = Data.Listening port }) some p.run
      by false link job some = p

  -- no port is there
  no_port_kept : (n : Near) → IsKeeping Kept n → IsKeeping Kept (near.listen_refused n)
  unfolding near.listen_refused
  no_port_kept n p = by n.closing n.connection
    where
      by : (closing : Bool) (link : ClientLink) → IsKeeping Kept (if closing then n else near.no_port_by link n)
      by true link = p
      by false Data.ListenWanted = finished_kept Unopened n p
      by false link = p

  -- a port is told
  pub port_told_kept : (port : ℕ) (n : Near) → IsKeeping Kept n → IsKeeping Kept (near.port_told port n)
  port_told_kept port n p = by (port == 0)
    where
      by : (none : Bool) → IsKeeping Kept (if none then near.listen_refused n else near.listening port n)
      by true = no_port_kept n p
      by false = listening_kept port n p

-- ---- octets of a data connection

pub received_kept : (octets : List ℕ) (n : Near) → IsCarrying n → IsCarrying (receives n octets)
received_kept [] n p = p
received_kept (octet ∷ octets) n p = received_kept octets (receives_octet n octet) (by n.job p.job)
  where
    by_abort : (op : Op (List ℕ)) (transfer : Transfer) → IsSome (count_of op) → (aborts : Bool)
        → IsCarrying (if aborts then sends_abort op transfer (record n { job = Transferring op transfer }) else record n { job = Transferring op transfer })
    by_abort op transfer some true = record { job = (some, tt); run = p.run }
    by_abort op transfer some false = record { job = (some, tt); run = p.run }

    by : (job : Job) → IsKeepingJob Whatever job → IsCarrying (near.heard_by job octet n)
    by (Transferring op transfer) some =
        let heard : Transfer = record transfer { flow = heard_flow transfer.abort transfer.flow octet } in
        by_abort op heard some.0 (is_to_abort n.connection op heard)
    by job some = p
