-- A client that wants no port wants none once it dialled, was told of an end, or took or gave octets; and what one wants that is at its port, or wants one.
use Rattle.std.proofs.Common.{◌≡◌, ℕ, Bool, true, false, true≢false, ◌&&◌, ◌||◌, List, [], ◌∷◌, Option, Some, None, refl, sym, ap, ap₂, ◌∙◌}
use Rattle.std.specs.Prelude.{if◌then◌else◌}
use Rattle.ftp_command.specs.declared.command.Command.{Command}
use Rattle.ftp_endpoint.specs.declared.endpoint.Endpoint.{Endpoint}
use Rattle.ftp_endpoint.specs.declared.host.Host.{Host}
use Rattle.ftp_ends.specs.declared.link.Wants.{Wants}
use Rattle.ftp_ends.specs.declared.link.Wants.TheVariants as Want
use Rattle.ftp_operation.specs.Answer.{Said}
use Rattle.ftp_operation.specs.declared.op.Op.{Op}
use Rattle.ftp_client_model.specs.Calls as near
use Rattle.ftp_client_model.specs.Calls.{data_end, data_opened, data_wants, ending_of, heard_flow, is_sound, link_wants, opened_by, over_by, receives, receives_octet, transfer_under_way}
use Rattle.ftp_client_model.specs.Dialogue.{answers_by, answers_once_over, aborts_once_enough, carries_on, closes_once_given_by, finishes_by, finishes_read, has_begun, is_given, is_to_abort, judged, last_job, next_job, placed, sends_abort, sends_if}
use Rattle.ftp_client_model.specs.Octets.{flow_of}
use Rattle.ftp_client_model.specs.Plan.{command_of, offset_of, step_behind_opening}
use Rattle.ftp_client_model.specs.View.{Doing, Idle, Job, Told, Transfer, Transferring, View as Near, Waiting, fails_by, strange}
use Rattle.ftp_client_model.specs.declared.client.Abort.{Abort}
use Rattle.ftp_client_model.specs.declared.client.Abort.TheVariants as Aborts
use Rattle.ftp_client_model.specs.declared.client.ClientLink.{ClientLink}
use Rattle.ftp_client_model.specs.declared.client.ClientLink.TheVariants as Data
use Rattle.ftp_client_model.specs.declared.client.Ending.TheVariants as Endings
use Rattle.ftp_client_model.specs.declared.client.Failure.TheVariants as Failures
use Rattle.ftp_client_model.specs.declared.client.Replied.{Replied}
use Rattle.ftp_client_model.specs.declared.client.Replied.TheVariants as Replies
use Rattle.ftp_client_model.specs.declared.client.Standing.{Standing}
use Rattle.ftp_client_model.specs.declared.client.Standing.TheVariants as Stands
use Rattle.ftp_client_model.specs.declared.client.Step.TheVariants as Steps
use Rattle.laws_drivers.proofs.events.NearForms.{Dialling}
use Rattle.laws_drivers.proofs.events.Stands.{wants_port}

-- it wants none
abbrev pub Portless : Near → Type 0
Portless n = wants_port n.connection ≡ false

-- a failure
strange_portless : (n : Near) → Portless n → Portless (strange n)
strange_portless n none = by n.standing
  where
    by : (standing : Standing) → Portless (fails_by standing Failures.Strange n)
    by (Stands.Failed failure) = none
    by Stands.Greeting = refl
    by Stands.User = refl
    by Stands.Pass = refl
    by Stands.Entered = refl

-- an answer
finished_portless : (answer : Option Said) (n : Near) → n.run ≡ None → Portless n → Portless (finishes_read answer n)
finished_portless None n run none = strange_portless n none
finished_portless (Some answer) n run none =
    ap (λ next. wants_port (finishes_by next answer n).connection) (ap (λ r. next_job r n.job answer) run ∙ no_more n.job)
  where
    no_more : (job : Job) → next_job None job answer ≡ None
    no_more (Doing op step) = refl
    no_more (Transferring op transfer) = refl
    no_more Idle = refl
    no_more (Waiting op) = refl
    no_more (Told said) = refl

-- what follows of where a transfer stands
pub carries_portless : (n : Near) → n.run ≡ None → Portless n → Portless (carries_on n)
carries_portless n run none = by_job n.job
  where
    at : Job → ClientLink → Bool → Near
    at job link closing = record n { job = job; connection = link; closing = closing }

    answered : (op : Op (List ℕ)) (transfer : Transfer) (replied : Replied) (abort : Abort) (link : ClientLink) (closing : Bool) → wants_port link ≡ false
        → Portless (answers_by replied abort link op transfer.flow (at (Transferring op transfer) link closing))
    answered op transfer (Replies.Final code) Aborts.Unsent (Data.Over ending) closing e =
        finished_portless (judged ending Aborts.Unsent code op transfer.flow) (at (Transferring op transfer) (Data.Over ending) closing) run refl
    answered op transfer (Replies.Final code) Aborts.Answered (Data.Over ending) closing e =
        finished_portless (judged ending Aborts.Answered code op transfer.flow) (at (Transferring op transfer) (Data.Over ending) closing) run refl
    answered op transfer replied abort link closing e = e

    aborted : (op : Op (List ℕ)) (transfer : Transfer) (link : ClientLink) (closing aborts : Bool) → wants_port link ≡ false
        → Portless (answers_once_over (if aborts then sends_abort op transfer (at (Transferring op transfer) link closing) else at
        (Transferring op transfer) link closing))
    aborted op transfer link closing false e = answered op transfer transfer.replied transfer.abort link closing e
    aborted op transfer link closing true e = sent transfer.replied link e
      where
        sent : (replied : Replied) (link : ClientLink) → wants_port link ≡ false
            → Portless (answers_by replied Aborts.Sent link op transfer.flow (sends_abort op transfer (at (Transferring op transfer) link closing)))
        sent (Replies.Final code) (Data.Over ending) e = e
        sent replied link e = e

    by_given : (op : Op (List ℕ)) (transfer : Transfer) (given : Bool) (link : ClientLink) → wants_port link ≡ false
        → Portless (let closed = closes_once_given_by given link (at (Transferring op transfer) link n.closing) in
        answers_once_over (aborts_once_enough closed.job closed))
    by_given op transfer true Data.Open e = aborted op transfer (Data.Over Endings.Ours) (n.closing || true) false refl
    by_given op transfer true link e = aborted op transfer link n.closing (is_to_abort link op transfer) e
    by_given op transfer false link e = aborted op transfer link n.closing (is_to_abort link op transfer) e

    by_job : (job : Job) → Portless (carries_on (record n { job = job }))
    by_job (Transferring op transfer) = by_given op transfer (has_begun transfer.replied && is_given transfer.flow) n.connection none
    by_job Idle = none
    by_job (Waiting op) = none
    by_job (Doing op step) = none
    by_job (Told said) = none

-- ---- its calls

-- it is told of an end
pub ended_portless : (n : Near) → n.run ≡ None → Portless n → Portless (data_end n)
unfolding data_end
ended_portless n run none = by n.closing n.connection none
  where
    by : (closing : Bool) (link : ClientLink) → wants_port link ≡ false
        → wants_port (if closing then record n { connection = link } else over_by link (ending_of n.job) (record n { connection = link })).connection ≡ false
    by true link e = e
    by false Data.Open e = carries_portless (record n { connection = Data.Over (ending_of n.job) }) run refl
    by false Data.Free e = refl
    by false Data.ListenWanted e = absurd (true≢false e)
    by false (Data.Listening port) e = refl
    by false (Data.Connecting endpoint) e = refl
    by false (Data.Accepting port) e = refl
    by false (Data.Over ending) e = refl

-- it gives octets
pub gives_portless : (count : ℕ) (n : Near) → n.run ≡ None → Portless n → Portless (near.gives_data count n)
unfolding near.gives_data
gives_portless count n run none = by n.job
  where
    by : (job : Job) → Portless (near.goes_by count job n)
    by (Transferring op transfer) =
        carries_portless (record n { job = Transferring op (record transfer { flow = near.went count transfer.flow }) }) run none
    by Idle = none
    by (Waiting op) = none
    by (Doing op step) = none
    by (Told said) = none

-- it takes octets
pub receives_portless : (octets : List ℕ) (n : Near) → Portless n → Portless (receives n octets)
receives_portless [] n none = none
receives_portless (octet ∷ octets) n none = receives_portless octets (receives_octet n octet) (by n.job)
  where
    aborts : (op : Op (List ℕ)) (transfer : Transfer) (enough : Bool)
        → Portless (if enough then sends_abort op transfer (record n { job = Transferring op transfer }) else record n { job = Transferring op transfer })
    aborts op transfer true = none
    aborts op transfer false = none

    by : (job : Job) → Portless (near.heard_by job octet n)
    by (Transferring op transfer) =
        let heard : Transfer = record transfer { flow = heard_flow transfer.abort transfer.flow octet } in
        aborts op heard (is_to_abort n.connection op heard)
    by Idle = none
    by (Waiting op) = none
    by (Doing op step) = none
    by (Told said) = none

-- the link that it dialled is there
pub dialled_portless : (endpoint : Endpoint) (host : Host) (n : Near) → Dialling endpoint n → Portless (data_opened host n)
unfolding data_opened
dialled_portless endpoint host n d =
    ap₂ (λ c l. wants_port (if c then n else opened_by l host n).connection) d.closing d.connection ∙ by n.job
  where
    sent : (command : Option (Command (List ℕ))) (u : Near) → (sends_if command u).connection ≡ u.connection
    sent None u = refl
    sent (Some command) u = refl

    placed_so : (op : Op (List ℕ)) (offset : Option ℕ) → Portless (placed op (step_behind_opening offset) (record n { connection = Data.Open }))
    placed_so op None =
        ap wants_port (sent (command_of (record n { connection = Data.Open }) op Steps.Last)
        (record n { connection = Data.Open; job = last_job op (flow_of op) }))
    placed_so op (Some offset) =
        ap wants_port (sent (command_of (record n { connection = Data.Open }) op Steps.Restart)
        (record n { connection = Data.Open; job = Doing op Steps.Restart }))

    waits : Portless n
    waits = ap wants_port d.connection

    by : (job : Job) → Portless (near.connected job n)
    by (Doing op Steps.Connect) = placed_so op (offset_of op)
    by (Doing op step) = waits
    by Idle = waits
    by (Waiting op) = waits
    by (Transferring op transfer) = waits
    by (Told said) = waits

-- ---- what it wants

-- one that wants a port to listen at
abbrev is_listen : Wants → Bool
is_listen Want.Listen = true
is_listen other = false

pub listens_wants : (n : Near) → near.wants n ≡ Want.Listen → (wants_port n.connection ≡ true) × (n.closing ≡ false)
unfolding near.wants
listens_wants n e = by n.closing (is_sound n.standing) n.connection refl refl e
  where
    no : {q : Wants} → is_listen q ≡ false → q ≡ Want.Listen → ⊥
    no none e = true≢false (sym (ap is_listen e) ∙ none)

    by_transfer : (down begun : Bool) → is_listen (if down then Want.Receive else (if begun then Want.Send else Want.Nothing)) ≡ false
    by_transfer true begun = refl
    by_transfer false true = refl
    by_transfer false false = refl

    by_open : (transfer : Option Transfer) → is_listen (data_wants transfer) ≡ false
    by_open None = refl
    by_open (Some transfer) = by_transfer _ _

    by : (closing sound : Bool) (link : ClientLink) → n.closing ≡ closing → n.connection ≡ link
        → (if closing then Want.CloseData else (if sound then link_wants link n else Want.CloseAll)) ≡ Want.Listen
        → (wants_port n.connection ≡ true) × (n.closing ≡ false)
    by true sound link c l e = absurd (no refl e)
    by false false link c l e = absurd (no refl e)
    by false true Data.ListenWanted c l e = (ap wants_port l, c)
    by false true Data.Open c l e = absurd (no (by_open (transfer_under_way n)) e)
    by false true Data.Free c l e = absurd (no refl e)
    by false true (Data.Listening port) c l e = absurd (no refl e)
    by false true (Data.Connecting endpoint) c l e = absurd (no refl e)
    by false true (Data.Accepting port) c l e = absurd (no refl e)
    by false true (Data.Over ending) c l e = absurd (no refl e)
