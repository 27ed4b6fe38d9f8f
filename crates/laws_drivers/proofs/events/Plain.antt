-- A client that begins with transfers only such operations as it dials for has no port of its own, whatever it hears; and what is so of a transfer as it
-- begins, and stays so by all that is replied to it, is so as long as it is under way.
use Rattle.std.proofs.Common.{◌≡◌, ℕ, ◌==◌, Bool, true, false, true≢false, not, ◌&&◌, ◌||◌, List, [], ◌∷◌, Option, Some, None, refl, sym, ap, subst, ◌∙◌}
use Rattle.std.specs.Prelude.{if◌then◌else◌, ⊤, ◌<◌}
use Rattle.ftp_command.specs.declared.command.Command.{Command}
use Rattle.ftp_endpoint.specs.declared.endpoint.Endpoint.{Endpoint}
use Rattle.ftp_endpoint.specs.declared.host.Host.{Host}
use Rattle.ftp_ends.specs.Ear.{ear}
use Rattle.ftp_ends.specs.Link.{same_host}
use Rattle.ftp_ends.specs.Reply.{reply_limit}
use Rattle.ftp_nvt.specs.Lines.{NvtEvent, line, too_long, owed}
use Rattle.ftp_operation.specs.Answer.{Foreign, Refused, Said}
use Rattle.ftp_operation.specs.Operation.{can_be_sent}
use Rattle.ftp_operation.specs.declared.op.How.{How}
use Rattle.ftp_operation.specs.declared.op.Op.{Op}
use Rattle.ftp_operation.specs.declared.op.Op.TheVariants as Ops
use Rattle.ftp_reply.specs.Lines.{Text, joined}
use Rattle.ftp_reply.specs.Reader.{Between, Faulty, GoesOn, Heard, Says, line_heard}
use Rattle.ftp_reply.specs.Values.{extended_value, mark_value, passive_value}
use Rattle.ftp_settings.specs.Representation.{same_kind, same_mode, same_structure}
use Rattle.ftp_settings.specs.declared.representation.Representation.{Representation}
use Rattle.ftp_client_model.specs.Calls as near
use Rattle.ftp_client_model.specs.Calls.{data_end, data_opened, ending_of, event_taken, events_taken, hears, hears_octet, heard_flow, line_taken, opened_by, over_by, receives, receives_octet, started_by, starts, unsendable_by}
use Rattle.ftp_client_model.specs.Dialogue.{abort_answered, aborts_once_enough, answer_in, answered, answers_by, answers_once_over, awaited, awaits_reply, begins, carries_on, closes, closes_once_given_by, dials, endpoint_named, enters_with, finishes, finishes_by, finishes_read, goes_on, greeted, has_begun, is_given, is_to_abort, job_answered, judged, judged_reply, last_job, login_ends, marked_flow, next_job, pass_answered, passive_named, placed, port_named, sends_abort, sends_if, stand_answered, step_answered, step_done, transfer_answered, unless_open, user_answered, with_reply}
use Rattle.ftp_client_model.specs.Octets.{flow_of}
use Rattle.ftp_client_model.specs.Plan.{alone_step, asked_settings, command_of, count_of, first_step, from_kind, from_mode, from_structure, how_of, is_extended, next_step, offset_of, opening_of, settings_behind, step_behind_opening, step_by}
use Rattle.ftp_client_model.specs.Replies.{Closing, Completion, Displaced, Intermediate, Negative, Preliminary, Verdict, verdict_of}
use Rattle.ftp_client_model.specs.View.{Doing, Flow, Idle, Job, Told, Transfer, Transferring, View as Near, Waiting, done_with, dropped, fails, fails_by, strange}
use Rattle.ftp_client_model.specs.declared.client.Abort.{Abort}
use Rattle.ftp_client_model.specs.declared.client.Abort.TheVariants as Aborts
use Rattle.ftp_client_model.specs.declared.client.ClientLink.{ClientLink}
use Rattle.ftp_client_model.specs.declared.client.ClientLink.TheVariants as Data
use Rattle.ftp_client_model.specs.declared.client.Ending.{Ending}
use Rattle.ftp_client_model.specs.declared.client.Ending.TheVariants as Endings
use Rattle.ftp_client_model.specs.declared.client.Failure.{Failure}
use Rattle.ftp_client_model.specs.declared.client.Failure.TheVariants as Failures
use Rattle.ftp_client_model.specs.declared.client.Replied.{Replied}
use Rattle.ftp_client_model.specs.declared.client.Replied.TheVariants as Replies
use Rattle.ftp_client_model.specs.declared.client.Standing.{Standing}
use Rattle.ftp_client_model.specs.declared.client.Standing.TheVariants as Stands
use Rattle.ftp_client_model.specs.declared.client.Step.{Step}
use Rattle.ftp_client_model.specs.declared.client.Step.TheVariants as Steps
use Rattle.laws_drivers.specs.events.Actions.{is_dialling}
use Rattle.laws_drivers.proofs.events.Stands.{has_port}

-- ---- operations, steps and jobs

-- a number of octets that is asked for is one at least
abbrev pub IsSome : Option ℕ → Type 0
IsSome None = ⊤
IsSome (Some count) = 0 < count

-- the client dials for it, and it asks for one octet at least, where it asks for a number of them
pub record IsPlain (op : Op (List ℕ)) : Type 0 where
  pub dials : is_dialling (how_of op) ≡ true
  pub some : IsSome (count_of op)

-- a port of the client is waited for
abbrev pub is_listen : Step → Bool
is_listen Steps.Listen = true
is_listen step = false

-- this is so of a transfer as it begins, and stays so whatever is replied, noted, aborted and answered
pub record IsKept (Kept : Op (List ℕ) → Transfer → Type 0) : Type 0 where
  pub begins : (op : Op (List ℕ)) (flow : Flow) → flow_of op ≡ Some flow → Kept op (record { replied = Replies.Nothing; abort = Aborts.Unsent; flow = flow })
  pub replies : (replied : Replied) (op : Op (List ℕ)) (transfer : Transfer) → Kept op transfer → Kept op (record transfer { replied = replied })
  pub notes : (mark : Option ℕ) (op : Op (List ℕ)) (transfer : Transfer) → Kept op transfer
      → Kept op (record transfer { flow = marked_flow mark transfer.flow })
  pub aborts : (link : ClientLink) (op : Op (List ℕ)) (transfer : Transfer) → IsPlain op → Kept op transfer → is_to_abort link op transfer ≡ true
      → Kept op (record transfer { abort = Aborts.Sent })
  pub answers : (op : Op (List ℕ)) (transfer : Transfer) → Kept op transfer → transfer.abort ≡ Aborts.Sent
      → Kept op (record transfer { abort = Aborts.Answered })

-- one that is begun is plain, and this is kept of its transfer
abbrev pub IsPlainJob : (Op (List ℕ) → Transfer → Type 0) → Job → Type 0
IsPlainJob Kept Idle = ⊤
IsPlainJob Kept (Told said) = ⊤
IsPlainJob Kept (Waiting op) = IsPlain op
IsPlainJob Kept (Doing op step) = IsPlain op
IsPlainJob Kept (Transferring op transfer) = IsPlain op × Kept op transfer

-- no port of it, and no upload over breaks
pub record IsPlainBy (Kept : Op (List ℕ) → Transfer → Type 0) (n : Near) : Type 0 where
  pub job : IsPlainJob Kept n.job
  pub port : has_port n.connection ≡ false
  pub run : n.run ≡ None

-- whatever is so of its transfer
abbrev pub Whatever : Op (List ℕ) → Transfer → Type 0
Whatever op transfer = ⊤

pub whatever_kept : IsKept Whatever
whatever_kept = record {
  begins = λ op flow is. tt;
  replies = λ replied op transfer kept. tt;
  notes = λ mark op transfer kept. tt;
  aborts = λ link op transfer plain kept is. tt;
  answers = λ op transfer kept is. tt;
}

abbrev pub IsPlainly : Near → Type 0
IsPlainly n = IsPlainBy Whatever n

-- ---- the steps

opening_plain : (how : Option How) (op : Op (List ℕ)) → is_dialling how ≡ true → is_listen (opening_of how op) ≡ false
opening_plain None op dials = by op
  where
    by : (op : Op (List ℕ)) → is_listen (alone_step op) ≡ false
    by (Ops.Rename source target) = refl
    by op = refl
opening_plain (Some how) op dials = by how.active dials
  where
    by : (active : Bool) → not active ≡ true → is_listen (if active then Steps.Listen else Steps.Passive) ≡ false
    by true e = absurd (true≢false (sym e))
    by false e = refl

mode_plain : (now wanted : Representation) (step : Step) → is_listen step ≡ false → is_listen (from_mode now wanted step) ≡ false
mode_plain now wanted step plain = by (same_mode now.mode wanted.mode)
  where
    by : (same : Bool) → is_listen (if same then step else Steps.Mode) ≡ false
    by true = plain
    by false = refl

structure_plain : (now wanted : Representation) (step : Step) → is_listen step ≡ false → is_listen (from_structure now wanted step) ≡ false
structure_plain now wanted step plain = by (same_structure now.structure wanted.structure)
  where
    by : (same : Bool) → is_listen (if same then from_mode now wanted step else Steps.Structure) ≡ false
    by true = mode_plain now wanted step plain
    by false = refl

kind_plain : (now wanted : Representation) (step : Step) → is_listen step ≡ false → is_listen (from_kind now wanted step) ≡ false
kind_plain now wanted step plain = by (same_kind now.kind wanted.kind)
  where
    by : (same : Bool) → is_listen (if same then from_structure now wanted step else Steps.Kind) ≡ false
    by true = structure_plain now wanted step plain
    by false = refl

first_plain : (now : Representation) (op : Op (List ℕ)) → IsPlain op → is_listen (first_step now op) ≡ false
first_plain now op plain = by (asked_settings op)
  where
    by : (wanted : Option Representation) → is_listen (step_by from_kind wanted now op) ≡ false
    by None = opening_plain (how_of op) op plain.dials
    by (Some wanted) = kind_plain now wanted (opening_of (how_of op) op) (opening_plain (how_of op) op plain.dials)

behind_plain : (offset : Option ℕ) → is_listen (step_behind_opening offset) ≡ false
behind_plain None = refl
behind_plain (Some offset) = refl

next_plain : (now : Representation) (op : Op (List ℕ)) (step : Step) → IsPlain op → is_listen (next_step now op step) ≡ false
next_plain now op Steps.Kind plain = by (asked_settings op)
  where
    by : (wanted : Option Representation) → is_listen (step_by from_structure wanted now op) ≡ false
    by None = opening_plain (how_of op) op plain.dials
    by (Some wanted) = structure_plain now wanted (opening_of (how_of op) op) (opening_plain (how_of op) op plain.dials)
next_plain now op Steps.Structure plain = by (asked_settings op)
  where
    by : (wanted : Option Representation) → is_listen (step_by from_mode wanted now op) ≡ false
    by None = opening_plain (how_of op) op plain.dials
    by (Some wanted) = mode_plain now wanted (opening_of (how_of op) op) (opening_plain (how_of op) op plain.dials)
next_plain now op Steps.Mode plain = opening_plain (how_of op) op plain.dials
next_plain now op Steps.Port plain = behind_plain (offset_of op)
next_plain now op Steps.Connect plain = behind_plain (offset_of op)
next_plain now op Steps.Listen plain = refl
next_plain now op Steps.Passive plain = refl
next_plain now op Steps.Restart plain = refl
next_plain now op Steps.Source plain = refl
next_plain now op Steps.Last plain = refl

module _ (Kept : Op (List ℕ) → Transfer → Type 0) (keeps : IsKept Kept) where
  -- ---- an operation goes on, or ends

  -- what is sent is of no matter
  sent_plain : (command : Option (Command (List ℕ))) (n : Near) → IsPlainBy Kept n → IsPlainBy Kept (sends_if command n)
  sent_plain None n p = p
  sent_plain (Some command) n p = record { job = p.job; port = p.port; run = p.run }

  placed_plain : (op : Op (List ℕ)) (step : Step) (n : Near) → IsPlain op → is_listen step ≡ false → has_port n.connection ≡ false → n.run ≡ None
      → IsPlainBy Kept (placed op step n)
  placed_plain op step n plain listens port run = by step listens
    where
      last : (flow : Option Flow) → flow_of op ≡ flow → IsPlainJob Kept (last_job op flow)
      last None is = plain
      last (Some flow) is = (plain, keeps.begins op flow is)

      by : (step : Step) → is_listen step ≡ false → IsPlainBy Kept (placed op step n)
      by Steps.Listen e = absurd (true≢false e)
      by Steps.Last e =
          sent_plain (command_of n op Steps.Last) (record n { job = last_job op (flow_of op) })
          (record { job = last (flow_of op) refl; port = port; run = run })
      by other e = sent_plain (command_of n op other) (record n { job = Doing op other }) (record { job = plain; port = port; run = run })

  begins_plain : (op : Op (List ℕ)) (n : Near) → IsPlain op → has_port n.connection ≡ false → n.run ≡ None → IsPlainBy Kept (begins op n)
  begins_plain op n plain port run = placed_plain op (first_step n.settings op) n plain (first_plain n.settings op plain) port run

  goes_plain : (op : Op (List ℕ)) (step : Step) (n : Near) → IsPlain op → has_port n.connection ≡ false → n.run ≡ None → IsPlainBy Kept (goes_on op step n)
  goes_plain op step n plain port run = placed_plain op (next_step n.settings op step) n plain (next_plain n.settings op step plain) port run

  -- a failure
  failed_plain : (failure : Failure) (n : Near) → IsPlainBy Kept n → IsPlainBy Kept (fails failure n)
  failed_plain failure n p = by n.standing n.job p.job
    where
      by : (standing : Standing) (job : Job) → IsPlainJob Kept job → IsPlainBy Kept (fails_by standing failure (record n { job = job }))
      by (Stands.Failed before) job plain = record { job = plain; port = p.port; run = p.run }
      by standing Idle plain = record { job = tt; port = refl; run = refl }
      by standing (Told said) plain = record { job = tt; port = refl; run = refl }
      by standing (Waiting op) plain = record { job = tt; port = refl; run = refl }
      by standing (Doing op step) plain = record { job = tt; port = refl; run = refl }
      by standing (Transferring op transfer) plain = record { job = tt; port = refl; run = refl }

  -- an answer
  finished_plain : (said : Said) (n : Near) → IsPlainBy Kept n → IsPlainBy Kept (finishes said n)
  finished_plain said n p = subst (λ next. IsPlainBy Kept (finishes_by next said n)) (sym (ap (λ r. next_job r n.job said) p.run ∙ none n.job)) done
    where
      none : (job : Job) → next_job None job said ≡ None
      none (Doing op step) = refl
      none (Transferring op transfer) = refl
      none job = refl

      done : IsPlainBy Kept (done_with said (dropped n))
      done = record { job = tt; port = refl; run = refl }

  read_plain : (said : Option Said) (n : Near) → IsPlainBy Kept n → IsPlainBy Kept (finishes_read said n)
  read_plain None n p = failed_plain Failures.Strange n p
  read_plain (Some said) n p = finished_plain said n p

  -- ---- a transfer goes on

  -- one of a plain operation
  carried_plain : (op : Op (List ℕ)) (transfer : Transfer) (n : Near) → IsPlain op → Kept op transfer → has_port n.connection ≡ false
      → n.run ≡ None → IsPlainBy Kept (carries_on (record n { job = Transferring op transfer }))
  carried_plain op transfer n plain kept port run = by_given (has_begun transfer.replied && is_given transfer.flow) n.connection port
    where
      at : ClientLink → Bool → Near
      at link closing = record n { job = Transferring op transfer; connection = link; closing = closing }

      plainly : (link : ClientLink) (closing : Bool) → has_port link ≡ false → IsPlainBy Kept (at link closing)
      plainly link closing none = record { job = (plain, kept); port = none; run = run }

      over : (replied : Replied) (abort : Abort) (link : ClientLink) (flow : Flow) (v : Near) → IsPlainBy Kept v
          → IsPlainBy Kept (answers_by replied abort link op flow v)
      over (Replies.Final code) Aborts.Unsent (Data.Over ending) flow v p = read_plain (judged ending Aborts.Unsent code op flow) v p
      over (Replies.Final code) Aborts.Answered (Data.Over ending) flow v p = read_plain (judged ending Aborts.Answered code op flow) v p
      over replied abort link flow v p = p

      enough : (link : ClientLink) (closing : Bool) → has_port link ≡ false → (aborts : Bool)
          → (aborts ≡ true → Kept op (record transfer { abort = Aborts.Sent }))
          → IsPlainBy Kept (answers_once_over (if aborts then sends_abort op transfer (at link closing) else at link closing))
      enough link closing none true sent =
          over transfer.replied Aborts.Sent link transfer.flow (sends_abort op transfer (at link closing))
          (record { job = (plain, sent refl); port = none; run = run })
      enough link closing none false sent = over transfer.replied transfer.abort link transfer.flow (at link closing) (plainly link closing none)

      by_given : (given : Bool) (link : ClientLink) → has_port link ≡ false
          → IsPlainBy Kept (let closed = closes_once_given_by given link (at link n.closing) in answers_once_over (aborts_once_enough closed.job closed))
      by_given true Data.Open none = enough (Data.Over Endings.Ours) (n.closing || true) refl false (λ e. absurd (true≢false (sym e)))
      by_given true link none = enough link n.closing none (is_to_abort link op transfer) (keeps.aborts link op transfer plain kept)
      by_given false link none = enough link n.closing none (is_to_abort link op transfer) (keeps.aborts link op transfer plain kept)

  -- with another reply
  replied_plain : (replied : Replied) (op : Op (List ℕ)) (transfer : Transfer) (n : Near) → IsPlain op → Kept op transfer
      → has_port n.connection ≡ false → n.run ≡ None → IsPlainBy Kept (with_reply replied op transfer n)
  replied_plain replied op transfer n plain kept port run =
      carried_plain op (record transfer { replied = replied }) n plain (keeps.replies replied op transfer kept) port run

  -- the replies to a transfer
  transfer_plain : (replied : Replied) (verdict : Verdict) (code : ℕ) (text : Text) (op : Op (List ℕ)) (transfer : Transfer) (n : Near) → IsPlain op
      → Kept op transfer → IsPlainBy Kept n → IsPlainBy Kept (transfer_answered replied verdict code text op transfer n)
  transfer_plain replied verdict code text op transfer n plain kept p = by_replied replied verdict
    where
      opens : (is_mark : Bool) → IsPlainBy Kept (if is_mark then n else with_reply Replies.Begun op transfer (record n { connection = awaited n.connection }))
      opens true = p
      opens false = replied_plain Replies.Begun op transfer (record n { connection = awaited n.connection }) plain kept (waits n.connection p.port) p.run
        where
          waits : (link : ClientLink) → has_port link ≡ false → has_port (awaited link) ≡ false
          waits (Data.Listening port) e = absurd (true≢false e)
          waits link e = e

      notes : (is_mark : Bool) (mark : Option ℕ)
          → IsPlainBy Kept (if is_mark then record n { job = Transferring op (record transfer { flow = marked_flow mark transfer.flow }) } else n)
      notes true mark = record { job = (plain, keeps.notes mark op transfer kept); port = p.port; run = p.run }
      notes false mark = p

      unopened : (link : ClientLink) → n.connection ≡ link → IsPlainBy Kept (with_reply (Replies.Final code) op transfer (unless_open link n))
      unopened Data.Open is = replied_plain (Replies.Final code) op transfer n plain kept p.port p.run
      unopened (Data.Over ending) is = replied_plain (Replies.Final code) op transfer n plain kept p.port p.run
      unopened link is = replied_plain (Replies.Final code) op transfer (closes n) plain kept refl p.run

      late : (abort : Abort) (verdict : Verdict) → transfer.abort ≡ abort → IsPlainBy Kept (abort_answered abort verdict op transfer n)
      late Aborts.Sent Completion is =
          carried_plain op (record transfer { abort = Aborts.Answered }) n plain (keeps.answers op transfer kept is) p.port p.run
      late Aborts.Sent verdict is = failed_plain Failures.Strange n p
      late Aborts.Unsent verdict is = failed_plain Failures.Strange n p
      late Aborts.Answered verdict is = failed_plain Failures.Strange n p

      by_replied : (replied : Replied) (verdict : Verdict) → IsPlainBy Kept (transfer_answered replied verdict code text op transfer n)
      by_replied Replies.Nothing Preliminary = opens (code == 110)
      by_replied Replies.Nothing Negative = replied_plain (Replies.Final code) op transfer (closes n) plain kept refl p.run
      by_replied Replies.Nothing verdict = failed_plain Failures.Strange n p
      by_replied Replies.Begun Preliminary = notes (code == 110) (mark_value text)
      by_replied Replies.Begun Completion = replied_plain (Replies.Final code) op transfer n plain kept p.port p.run
      by_replied Replies.Begun Negative = unopened n.connection refl
      by_replied Replies.Begun verdict = failed_plain Failures.Strange n p
      by_replied (Replies.Final before) verdict = late transfer.abort verdict refl

  -- ---- a step is answered

  -- a passive port is named: it is dialled, or not
  dials_plain : (op : Op (List ℕ)) (endpoint : Endpoint) (n : Near) → IsPlain op → n.run ≡ None → IsPlainBy Kept (dials op endpoint n)
  dials_plain op endpoint n plain run = goes_plain op Steps.Passive (record n { connection = Data.Connecting endpoint }) plain refl run

  named_plain : (extended : Bool) (op : Op (List ℕ)) (text : Text) (n : Near) → IsPlain op → IsPlainBy Kept n
      → IsPlainBy Kept (passive_named extended op text n)
  named_plain true op text n plain p = by (extended_value text)
    where
      by : (port : Option ℕ) → IsPlainBy Kept (port_named port op n)
      by None = failed_plain Failures.Strange n p
      by (Some port) = dials_plain op (record { host = n.peer; port = port }) n plain p.run
  named_plain false op text n plain p = by (passive_value text)
    where
      one : (endpoint : Endpoint) (same : Bool) → IsPlainBy Kept (if same then dials op endpoint n else finishes Foreign n)
      one endpoint true = dials_plain op endpoint n plain p.run
      one endpoint false = finished_plain Foreign n p

      by : (endpoint : Option Endpoint) → IsPlainBy Kept (endpoint_named endpoint op n)
      by None = failed_plain Failures.Strange n p
      by (Some endpoint) = one endpoint (same_host endpoint.host n.peer)

  -- a step is done
  done_plain : (op : Op (List ℕ)) (step : Step) (texts : List Text) (n : Near) → IsPlain op → IsPlainBy Kept n → IsPlainBy Kept (step_done op step texts n)
  done_plain op Steps.Port texts n plain p = goes_plain op Steps.Port n plain p.port p.run
  done_plain op Steps.Passive texts n plain p = named_plain (is_extended n op) op (joined texts) n plain p
  done_plain op Steps.Last texts n plain p = read_plain (answer_in op texts) n p
  done_plain op Steps.Listen texts n plain p = failed_plain Failures.Strange n p
  done_plain op Steps.Connect texts n plain p = failed_plain Failures.Strange n p
  done_plain op Steps.Restart texts n plain p = failed_plain Failures.Strange n p
  done_plain op Steps.Source texts n plain p = failed_plain Failures.Strange n p
  done_plain op step texts n plain p = goes_plain op step (record n { settings = settings_behind step n.settings (asked_settings op) }) plain p.port p.run

  -- it is answered
  step_plain : (op : Op (List ℕ)) (step : Step) (verdict : Verdict) (code : ℕ) (texts : List Text) (n : Near) → IsPlain op → IsPlainBy Kept n
      → IsPlainBy Kept (step_answered op step verdict code texts n)
  step_plain op step Completion code texts n plain p = done_plain op step texts n plain p
  step_plain op Steps.Restart Intermediate code texts n plain p = goes_plain op Steps.Restart n plain p.port p.run
  step_plain op Steps.Source Intermediate code texts n plain p = goes_plain op Steps.Source n plain p.port p.run
  step_plain op step Intermediate code texts n plain p = failed_plain Failures.Strange n p
  step_plain op step Negative code texts n plain p = by (awaits_reply step)
    where
      by : (awaits : Bool) → IsPlainBy Kept (if awaits then finishes (Refused code) n else strange n)
      by true = finished_plain (Refused code) n p
      by false = failed_plain Failures.Strange n p
  step_plain op step verdict code texts n plain p = failed_plain Failures.Strange n p

  -- ---- a reply

  job_plain : (job : Job) (verdict : Verdict) (code : ℕ) (texts : List Text) (n : Near) → n.job ≡ job → IsPlainJob Kept job → IsPlainBy Kept n
      → IsPlainBy Kept (job_answered job verdict code texts n)
  job_plain (Doing op step) verdict code texts n is plain p = step_plain op step verdict code texts n plain p
  job_plain (Transferring op transfer) verdict code texts n is plain p =
      transfer_plain transfer.replied verdict code (joined texts) op transfer n plain.0 plain.1 p
  job_plain job verdict code texts n is plain p = failed_plain Failures.Strange n p

  -- the login is over
  entered_plain : (n : Near) → IsPlainBy Kept n → IsPlainBy Kept (login_ends n)
  entered_plain n p = by n.job p.job
    where
      by : (job : Job) → IsPlainJob Kept job → IsPlainBy Kept (enters_with job (record n { job = job; standing = Stands.Entered }))
      by (Waiting op) plain = begins_plain op (record n { job = Waiting op; standing = Stands.Entered }) plain p.port p.run
      by Idle plain = record { job = tt; port = p.port; run = p.run }
      by (Told said) plain = record { job = tt; port = p.port; run = p.run }
      by (Doing op step) plain = record { job = plain; port = p.port; run = p.run }
      by (Transferring op transfer) plain = record { job = plain; port = p.port; run = p.run }

  greeted_plain : (verdict : Verdict) (code : ℕ) (n : Near) → IsPlainBy Kept n → IsPlainBy Kept (greeted verdict code n)
  greeted_plain Completion code n p = record { job = p.job; port = p.port; run = p.run }
  greeted_plain Preliminary code n p = by (code == 120)
    where
      by : (skips : Bool) → IsPlainBy Kept (if skips then n else strange n)
      by true = p
      by false = failed_plain Failures.Strange n p
  greeted_plain verdict code n p = failed_plain Failures.Strange n p

  user_plain : (verdict : Verdict) (n : Near) → IsPlainBy Kept n → IsPlainBy Kept (user_answered verdict n)
  user_plain Intermediate n p = record { job = p.job; port = p.port; run = p.run }
  user_plain Completion n p = entered_plain n p
  user_plain Negative n p = entered_plain n p
  user_plain verdict n p = failed_plain Failures.Strange n p

  pass_plain : (verdict : Verdict) (n : Near) → IsPlainBy Kept n → IsPlainBy Kept (pass_answered verdict n)
  pass_plain Completion n p = entered_plain n p
  pass_plain Negative n p = entered_plain n p
  pass_plain verdict n p = failed_plain Failures.Strange n p

  stand_plain : (standing : Standing) (verdict : Verdict) (code : ℕ) (texts : List Text) (n : Near) → IsPlainBy Kept n
      → IsPlainBy Kept (stand_answered standing verdict code texts n)
  stand_plain Stands.Greeting verdict code texts n p = greeted_plain verdict code n p
  stand_plain Stands.User verdict code texts n p = user_plain verdict n p
  stand_plain Stands.Pass verdict code texts n p = pass_plain verdict n p
  stand_plain Stands.Entered verdict code texts n p = job_plain n.job verdict code texts n refl p.job p
  stand_plain (Stands.Failed failure) verdict code texts n p = p

  answered_plain : (code : ℕ) (texts : List Text) (n : Near) → IsPlainBy Kept n → IsPlainBy Kept (answered code texts n)
  unfolding answered
  answered_plain code texts n p = by (verdict_of code)
    where
      by : (verdict : Verdict) → IsPlainBy Kept (judged_reply verdict code texts n)
      by Closing = failed_plain Failures.Lost n p
      by Displaced = failed_plain Failures.Strange n p
      by Preliminary = stand_plain n.standing Preliminary code texts n p
      by Completion = stand_plain n.standing Completion code texts n p
      by Intermediate = stand_plain n.standing Intermediate code texts n p
      by Negative = stand_plain n.standing Negative code texts n p

  -- ---- octets of the control connection

  line_plain : (heard : Heard) (n : Near) → IsPlainBy Kept n → IsPlainBy Kept (line_taken heard n)
  line_plain (GoesOn gathered) n p = record { job = p.job; port = p.port; run = p.run }
  line_plain (Says code texts) n p = answered_plain code texts (record n { gathered = Between }) (record { job = p.job; port = p.port; run = p.run })
  line_plain (Faulty fault) n p = failed_plain Failures.Strange n p

  event_plain : (event : NvtEvent) (n : Near) → IsPlainBy Kept n → IsPlainBy Kept (event_taken event n)
  event_plain (line text) n p = line_plain (line_heard n.gathered text) n p
  event_plain too_long n p = failed_plain Failures.Strange n p
  event_plain (owed octets) n p = record { job = p.job; port = p.port; run = p.run }

  events_plain : (events : List NvtEvent) (n : Near) → IsPlainBy Kept n → IsPlainBy Kept (events_taken events n)
  events_plain [] n p = p
  events_plain (event ∷ events) n p = events_plain events (event_taken event n) (event_plain event n p)

  pub hears_plain : (octets : List ℕ) (n : Near) → IsPlainBy Kept n → IsPlainBy Kept (hears n octets)
  hears_plain [] n p = p
  hears_plain (octet ∷ octets) n p =
      hears_plain octets (hears_octet n octet)
      (events_plain ((ear reply_limit).out n.ear octet) (record n { ear = (ear reply_limit).step n.ear octet })
      (record { job = p.job; port = p.port; run = p.run }))

  -- ---- an operation begins, and its data connection

  pub starts_plain : (op : Op (List ℕ)) (n : Near) → IsPlain op → IsPlainBy Kept n → IsPlainBy Kept (starts op n)
  unfolding starts
  starts_plain op n plain p = by (can_be_sent op) n.standing
    where
      by : (can : Bool) (standing : Standing) → IsPlainBy Kept (if can then started_by standing op (record n { run = None }) else unsendable_by standing n)
      by true Stands.Entered = begins_plain op (record n { run = None }) plain p.port refl
      by true (Stands.Failed failure) = record { job = tt; port = p.port; run = refl }
      by true Stands.Greeting = record { job = plain; port = p.port; run = refl }
      by true Stands.User = record { job = plain; port = p.port; run = refl }
      by true Stands.Pass = record { job = plain; port = p.port; run = refl }
      by false (Stands.Failed failure) = record { job = tt; port = p.port; run = refl }
      by false Stands.Entered = record { job = tt; port = p.port; run = refl }
      by false Stands.Greeting = record { job = tt; port = p.port; run = refl }
      by false Stands.User = record { job = tt; port = p.port; run = refl }
      by false Stands.Pass = record { job = tt; port = p.port; run = refl }

  pub opened_plain : (host : Host) (n : Near) → IsPlainBy Kept n → IsPlainBy Kept (data_opened host n)
  unfolding data_opened
  opened_plain host n p = by n.closing n.connection p.port
    where
      connects : (job : Job) → n.job ≡ job → IsPlainJob Kept job → IsPlainBy Kept (near.connected job n)
      connects (Doing op Steps.Connect) is plain = goes_plain op Steps.Connect (record n { connection = Data.Open }) plain refl p.run
      connects job is plain = p

      by : (closing : Bool) (link : ClientLink) → has_port link ≡ false → IsPlainBy Kept (if closing then n else opened_by link host n)
      by true link e = p
      by false (Data.Connecting endpoint) e = connects n.job refl p.job
      by false (Data.Accepting port) e = absurd (true≢false e)
      by false link e = p

  pub ended_plain : (n : Near) → IsPlainBy Kept n → IsPlainBy Kept (data_end n)
  unfolding data_end
  ended_plain n p = by n.closing n.connection
    where
      over : (ending : Ending) (job : Job) → IsPlainJob Kept job → IsPlainBy Kept (carries_on (record n { job = job; connection = Data.Over ending }))
      over ending (Transferring op transfer) plain = carried_plain op transfer (record n { connection = Data.Over ending }) plain.0 plain.1 refl p.run
      over ending Idle plain = record { job = tt; port = refl; run = p.run }
      over ending (Told said) plain = record { job = tt; port = refl; run = p.run }
      over ending (Waiting op) plain = record { job = plain; port = refl; run = p.run }
      over ending (Doing op step) plain = record { job = plain; port = refl; run = p.run }

      by : (closing : Bool) (link : ClientLink) → IsPlainBy Kept (if closing then n else over_by link (ending_of n.job) n)
      by true link = p
      by false Data.Open = over (ending_of n.job) n.job p.job
      by false link = p

-- ---- octets of a data connection

pub received_plain : (octets : List ℕ) (n : Near) → IsPlainly n → IsPlainly (receives n octets)
received_plain [] n p = p
received_plain (octet ∷ octets) n p = received_plain octets (receives_octet n octet) (by n.job p.job)
  where
    by_abort : (op : Op (List ℕ)) (transfer : Transfer) → IsPlain op → (aborts : Bool)
        → IsPlainly (if aborts then sends_abort op transfer (record n { job = Transferring op transfer }) else record n { job = Transferring op transfer })
    by_abort op transfer plain true = record { job = (plain, tt); port = p.port; run = p.run }
    by_abort op transfer plain false = record { job = (plain, tt); port = p.port; run = p.run }

    by : (job : Job) → IsPlainJob Whatever job → IsPlainly (near.heard_by job octet n)
    by (Transferring op transfer) plain =
        let heard : Transfer = record transfer { flow = heard_flow transfer.abort transfer.flow octet } in
        by_abort op heard plain.0 (is_to_abort n.connection op heard)
    by job plain = p
