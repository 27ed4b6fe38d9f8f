-- The peer that a client has stays, whatever reply it hears.
use Rattle.std.proofs.Common.{◌≡◌, ◌&&◌, ◌==◌, ℕ, Bool, true, false, List, Option, Some, None}
use Rattle.std.specs.Option.{option_map}
use Rattle.std.specs.Prelude.{if◌then◌else◌}
use Rattle.ftp_command.specs.declared.command.Command.{Command}
use Rattle.ftp_endpoint.specs.declared.endpoint.Endpoint.{Endpoint}
use Rattle.ftp_endpoint.specs.declared.host.Host.{Host}
use Rattle.ftp_ends.specs.Link.{same_host}
use Rattle.ftp_operation.specs.Answer.{Foreign, Refused, Said}
use Rattle.ftp_operation.specs.declared.op.Op.{Op}
use Rattle.ftp_reply.specs.Lines.{Text, joined}
use Rattle.ftp_reply.specs.Values.{extended_value, mark_value, passive_value}
use Rattle.ftp_client_model.specs.Dialogue.{abort_answered, aborts_once_enough, answer_in, answered, answers_by, answers_job, awaited, awaits_reply, before_opening, behind_opening, carries_on, closes, closes_once_given, closes_once_given_by, dials, endpoint_named, enters_with, finishes, finishes_by, finishes_read, goes_on, greeted, has_begun, intermediate, is_given, is_to_abort, job_answered, judged, judged_reply, last_job, login_ends, marked_flow, next_job, noted, pass_answered, passive_named, placed, port_named, sends_abort, sends_if, set_accepted, stand_answered, step_answered, step_done, transfer_answered, transfer_opened, unless_open, user_answered, with_reply}
use Rattle.ftp_client_model.specs.Octets.{flow_of}
use Rattle.ftp_client_model.specs.Plan.{asked_settings, command_of, first_step, is_extended, next_step, settings_behind}
use Rattle.ftp_client_model.specs.Replies.{Closing, Completion, Displaced, Intermediate, Negative, Preliminary, Verdict, verdict_of}
use Rattle.ftp_client_model.specs.Tries.{run_at}
use Rattle.ftp_client_model.specs.View.{Doing, Flow, Job, Transfer, Transferring, View, Waiting, dropped, fails_by, strange}
use Rattle.ftp_client_model.specs.declared.client.Abort.{Abort}
use Rattle.ftp_client_model.specs.declared.client.Abort.TheVariants as Aborts
use Rattle.ftp_client_model.specs.declared.client.ClientLink.{ClientLink}
use Rattle.ftp_client_model.specs.declared.client.ClientLink.TheVariants as Data
use Rattle.ftp_client_model.specs.declared.client.Failure.{Failure}
use Rattle.ftp_client_model.specs.declared.client.Failure.TheVariants as Failures
use Rattle.ftp_client_model.specs.declared.client.Replied.{Replied}
use Rattle.ftp_client_model.specs.declared.client.Replied.TheVariants as Replies
use Rattle.ftp_client_model.specs.declared.client.Standing.{Standing}
use Rattle.ftp_client_model.specs.declared.client.Standing.TheVariants as Stands
use Rattle.ftp_client_model.specs.declared.client.Step.{Step}
use Rattle.ftp_client_model.specs.declared.client.Step.TheVariants as Steps

module _ (host : Host) where
  -- this is the host at its other end, and stays so
  abbrev pub HasPeer : View → Type 0
  HasPeer v = v.peer ≡ host

  abbrev pub Stays : View → (View → View) → Type 0
  Stays v f = HasPeer v → HasPeer (f v)

  pub if_peer : (b : Bool) (v w : View) → HasPeer v → HasPeer w → HasPeer (if b then v else w)
  if_peer true v w one other = one
  if_peer false v w one other = other

  fails_peer : (standing : Standing) (failure : Failure) (v : View) → Stays v (fails_by standing failure)
  fails_peer (Stands.Failed before) failure v r = r
  fails_peer standing failure v r = r

  pub strange_peer : (v : View) → Stays v strange
  strange_peer v r = fails_peer v.standing Failures.Strange v r

  -- ---- what is sent

  sends_if_peer : (command : Option (Command (List ℕ))) (v : View) → Stays v (sends_if command)
  sends_if_peer None v r = r
  sends_if_peer (Some command) v r = r

  -- a step's command
  sent_peer : (op : Op (List ℕ)) (step : Step) (job : Job) (v : View) → HasPeer v → HasPeer (sends_if (command_of v op step) (record v { job = job }))
  sent_peer op step job v r = sends_if_peer (command_of v op step) (record v { job = job }) r

  placed_peer : (op : Op (List ℕ)) (step : Step) (v : View) → Stays v (placed op step)
  placed_peer op Steps.Listen v r = r
  placed_peer op Steps.Last v r = sent_peer op Steps.Last (last_job op (flow_of op)) v r
  placed_peer op step v r = sent_peer op step (Doing op step) v r

  pub begins_peer : (op : Op (List ℕ)) (v : View) → Stays v (placed op (first_step v.settings op))
  begins_peer op v r = placed_peer op (first_step v.settings op) v r

  pub goes_on_peer : (op : Op (List ℕ)) (step : Step) (v : View) → Stays v (goes_on op step)
  goes_on_peer op step v r = placed_peer op (next_step v.settings op step) v r

  -- ---- the end of an operation

  finishes_by_peer : (next : Option (Op (List ℕ))) (answer : Said) (v : View) → Stays v (finishes_by next answer)
  finishes_by_peer None answer v r = r
  finishes_by_peer (Some op) answer v r = begins_peer op (record (dropped v) { run = option_map (run_at op) v.run }) r

  pub finishes_peer : (answer : Said) (v : View) → Stays v (finishes answer)
  finishes_peer answer v r = finishes_by_peer (next_job v.run v.job answer) answer v r

  finishes_read_peer : (answer : Option Said) (v : View) → Stays v (finishes_read answer)
  finishes_read_peer None v r = strange_peer v r
  finishes_read_peer (Some answer) v r = finishes_peer answer v r

  -- ---- the login

  greeted_peer : (verdict : Verdict) (code : ℕ) (v : View) → Stays v (greeted verdict code)
  greeted_peer Completion code v r = r
  greeted_peer Preliminary code v r = if_peer (code == 120) v (strange v) r (strange_peer v r)
  greeted_peer other code v r = strange_peer v r

  enters_with_peer : (job : Job) (v : View) → Stays v (enters_with job)
  enters_with_peer (Waiting op) v r = begins_peer op v r
  enters_with_peer job v r = r

  enters_peer : (v : View) → Stays v login_ends
  enters_peer v r = enters_with_peer v.job (record v { standing = Stands.Entered }) r

  user_peer : (verdict : Verdict) (v : View) → Stays v (user_answered verdict)
  user_peer Intermediate v r = r
  user_peer Completion v r = enters_peer v r
  user_peer Negative v r = enters_peer v r
  user_peer other v r = strange_peer v r

  pass_peer : (verdict : Verdict) (v : View) → Stays v (pass_answered verdict)
  pass_peer Completion v r = enters_peer v r
  pass_peer Negative v r = enters_peer v r
  pass_peer other v r = strange_peer v r

  -- ---- a step

  set_peer : (op : Op (List ℕ)) (step : Step) (v : View) → Stays v (set_accepted op step)
  set_peer op step v r = goes_on_peer op step (record v { settings = settings_behind step v.settings (asked_settings op) }) r

  dials_peer : (op : Op (List ℕ)) (endpoint : Endpoint) (v : View) → Stays v (dials op endpoint)
  dials_peer op endpoint v r = goes_on_peer op Steps.Passive (record v { connection = Data.Connecting endpoint }) r

  named_peer : (endpoint : Option Endpoint) (op : Op (List ℕ)) (v : View) → Stays v (endpoint_named endpoint op)
  named_peer None op v r = strange_peer v r
  named_peer (Some endpoint) op v r =
      if_peer (same_host endpoint.host v.peer) (dials op endpoint v) (finishes Foreign v) (dials_peer op endpoint v r) (finishes_peer Foreign v r)

  port_named_peer : (port : Option ℕ) (op : Op (List ℕ)) (v : View) → Stays v (port_named port op)
  port_named_peer None op v r = strange_peer v r
  port_named_peer (Some port) op v r = dials_peer op (record { host = v.peer; port = port }) v r

  passive_peer : (extended : Bool) (op : Op (List ℕ)) (text : Text) (v : View) → Stays v (passive_named extended op text)
  passive_peer true op text v r = port_named_peer (extended_value text) op v r
  passive_peer false op text v r = named_peer (passive_value text) op v r

  completed_peer : (op : Op (List ℕ)) (step : Step) (texts : List Text) (v : View) → Stays v (step_done op step texts)
  completed_peer op Steps.Port texts v r = goes_on_peer op Steps.Port v r
  completed_peer op Steps.Passive texts v r = passive_peer (is_extended v op) op (joined texts) v r
  completed_peer op Steps.Last texts v r = finishes_read_peer (answer_in op texts) v r
  completed_peer op Steps.Listen texts v r = strange_peer v r
  completed_peer op Steps.Connect texts v r = strange_peer v r
  completed_peer op Steps.Restart texts v r = strange_peer v r
  completed_peer op Steps.Source texts v r = strange_peer v r
  completed_peer op step texts v r = set_peer op step v r

  intermediate_peer : (op : Op (List ℕ)) (step : Step) (v : View) → Stays v (intermediate op step)
  intermediate_peer op Steps.Restart v r = goes_on_peer op Steps.Restart v r
  intermediate_peer op Steps.Source v r = goes_on_peer op Steps.Source v r
  intermediate_peer op step v r = strange_peer v r

  step_peer : (op : Op (List ℕ)) (step : Step) (verdict : Verdict) (code : ℕ) (texts : List Text) (v : View)
      → Stays v (step_answered op step verdict code texts)
  step_peer op step Completion code texts v r = completed_peer op step texts v r
  step_peer op step Intermediate code texts v r = intermediate_peer op step v r
  step_peer op step Negative code texts v r =
      if_peer (awaits_reply step) (finishes (Refused code) v) (strange v) (finishes_peer (Refused code) v r) (strange_peer v r)
  step_peer op step other code texts v r = strange_peer v r

  -- ---- a transfer

  answers_by_peer : (replied : Replied) (abort : Abort) (connection : ClientLink) (op : Op (List ℕ)) (flow : Flow) (v : View)
      → Stays v (answers_by replied abort connection op flow)
  answers_by_peer (Replies.Final code) Aborts.Unsent (Data.Over ending) op flow v r = finishes_read_peer (judged ending Aborts.Unsent code op flow) v r
  answers_by_peer (Replies.Final code) Aborts.Answered (Data.Over ending) op flow v r = finishes_read_peer (judged ending Aborts.Answered code op flow) v r
  answers_by_peer replied abort connection op flow v r = r

  answers_job_peer : (job : Job) (v : View) → Stays v (answers_job job)
  answers_job_peer (Transferring op transfer) v r = answers_by_peer transfer.replied transfer.abort v.connection op transfer.flow v r
  answers_job_peer job v r = r

  closes_by_peer : (given : Bool) (connection : ClientLink) (v : View) → Stays v (closes_once_given_by given connection)
  closes_by_peer true Data.Open v r = r
  closes_by_peer given connection v r = r

  closes_once_peer : (job : Job) (v : View) → Stays v (closes_once_given job)
  closes_once_peer (Transferring op transfer) v r = closes_by_peer (has_begun transfer.replied && is_given transfer.flow) v.connection v r
  closes_once_peer job v r = r

  pub aborts_once_peer : (job : Job) (v : View) → Stays v (aborts_once_enough job)
  aborts_once_peer (Transferring op transfer) v r = if_peer (is_to_abort v.connection op transfer) (sends_abort op transfer v) v r r
  aborts_once_peer job v r = r

  pub carries_on_peer : (v : View) → Stays v carries_on
  carries_on_peer v r =
      let closed = closes_once_given v.job v in
      let aborted = aborts_once_enough closed.job closed in
      answers_job_peer aborted.job aborted (aborts_once_peer closed.job closed (closes_once_peer v.job v r))

  with_reply_peer : (replied : Replied) (op : Op (List ℕ)) (transfer : Transfer) (v : View) → Stays v (with_reply replied op transfer)
  with_reply_peer replied op transfer v r = carries_on_peer (record v { job = Transferring op (record transfer { replied = replied }) }) r

  opened_peer : (code : ℕ) (op : Op (List ℕ)) (transfer : Transfer) (v : View) → Stays v (transfer_opened code op transfer)
  opened_peer code op transfer v r =
      let w : View = record v { connection = awaited v.connection } in
      if_peer (code == 110) v (with_reply Replies.Begun op transfer w) r (with_reply_peer Replies.Begun op transfer w r)

  noted_peer : (code : ℕ) (text : Text) (op : Op (List ℕ)) (transfer : Transfer) (v : View) → Stays v (noted code text op transfer)
  noted_peer code text op transfer v r =
      if_peer (code == 110) (record v { job = Transferring op (record transfer { flow = marked_flow (mark_value text) transfer.flow }) }) v r r

  unless_open_peer : (connection : ClientLink) (v : View) → Stays v (unless_open connection)
  unless_open_peer Data.Open v r = r
  unless_open_peer (Data.Over ending) v r = r
  unless_open_peer connection v r = r

  before_peer : (verdict : Verdict) (code : ℕ) (op : Op (List ℕ)) (transfer : Transfer) (v : View) → Stays v (before_opening verdict code op transfer)
  before_peer Preliminary code op transfer v r = opened_peer code op transfer v r
  before_peer Negative code op transfer v r = with_reply_peer (Replies.Final code) op transfer (closes v) r
  before_peer other code op transfer v r = strange_peer v r

  behind_peer : (verdict : Verdict) (code : ℕ) (text : Text) (op : Op (List ℕ)) (transfer : Transfer) (v : View)
      → Stays v (behind_opening verdict code text op transfer)
  behind_peer Preliminary code text op transfer v r = noted_peer code text op transfer v r
  behind_peer Completion code text op transfer v r = with_reply_peer (Replies.Final code) op transfer v r
  behind_peer Negative code text op transfer v r =
      with_reply_peer (Replies.Final code) op transfer (unless_open v.connection v) (unless_open_peer v.connection v r)
  behind_peer other code text op transfer v r = strange_peer v r

  abort_peer : (abort : Abort) (verdict : Verdict) (op : Op (List ℕ)) (transfer : Transfer) (v : View) → Stays v (abort_answered abort verdict op transfer)
  abort_peer Aborts.Sent Completion op transfer v r = carries_on_peer (record v { job = Transferring op (record transfer { abort = Aborts.Answered }) }) r
  abort_peer abort verdict op transfer v r = strange_peer v r

  transfer_peer : (replied : Replied) (verdict : Verdict) (code : ℕ) (text : Text) (op : Op (List ℕ)) (transfer : Transfer) (v : View)
      → Stays v (transfer_answered replied verdict code text op transfer)
  transfer_peer Replies.Nothing verdict code text op transfer v r = before_peer verdict code op transfer v r
  transfer_peer Replies.Begun verdict code text op transfer v r = behind_peer verdict code text op transfer v r
  transfer_peer (Replies.Final before) verdict code text op transfer v r = abort_peer transfer.abort verdict op transfer v r

  -- ---- a reply

  job_peer : (job : Job) (verdict : Verdict) (code : ℕ) (texts : List Text) (v : View) → Stays v (job_answered job verdict code texts)
  job_peer (Doing op step) verdict code texts v r = step_peer op step verdict code texts v r
  job_peer (Transferring op transfer) verdict code texts v r = transfer_peer transfer.replied verdict code (joined texts) op transfer v r
  job_peer job verdict code texts v r = strange_peer v r

  stand_peer : (standing : Standing) (verdict : Verdict) (code : ℕ) (texts : List Text) (v : View) → Stays v (stand_answered standing verdict code texts)
  stand_peer Stands.Greeting verdict code texts v r = greeted_peer verdict code v r
  stand_peer Stands.User verdict code texts v r = user_peer verdict v r
  stand_peer Stands.Pass verdict code texts v r = pass_peer verdict v r
  stand_peer Stands.Entered verdict code texts v r = job_peer v.job verdict code texts v r
  stand_peer (Stands.Failed failure) verdict code texts v r = r

  judged_peer : (verdict : Verdict) (code : ℕ) (texts : List Text) (v : View) → Stays v (judged_reply verdict code texts)
  judged_peer Closing code texts v r = fails_peer v.standing Failures.Lost v r
  judged_peer Displaced code texts v r = strange_peer v r
  judged_peer verdict code texts v r = stand_peer v.standing verdict code texts v r

  pub answered_peer : (code : ℕ) (texts : List Text) (v : View) → Stays v (answered code texts)
  unfolding answered
  answered_peer code texts v r = judged_peer (verdict_of code) code texts v r
