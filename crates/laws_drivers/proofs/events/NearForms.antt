-- What a client is that wants this or that, and what its calls leave of its wish to close.
use Rattle.std.proofs.Common.{◌≡◌, ℕ, Bool, true, false, true≢false, ◌&&◌, List, [], ◌∷◌, Option, Some, None, refl, sym, ap, ap₂, ◌∙◌}
use Rattle.std.specs.Option.{option_map}
use Rattle.std.specs.Prelude.{if◌then◌else◌}
use Rattle.ftp_endpoint.specs.declared.endpoint.Endpoint.{Endpoint}
use Rattle.ftp_endpoint.specs.declared.host.Host.{Host}
use Rattle.ftp_ends.specs.declared.link.Wants.{Wants}
use Rattle.ftp_ends.specs.declared.link.Wants.TheVariants as Want
use Rattle.ftp_operation.specs.Answer.{Said}
use Rattle.ftp_operation.specs.Operation.{can_be_sent}
use Rattle.ftp_operation.specs.declared.op.Op.{Op}
use Rattle.ftp_command.specs.declared.command.Command.{Command}
use Rattle.ftp_client_driver.specs.Side.{is_operation_under_way}
use Rattle.ftp_client_model.specs.Calls as near
use Rattle.ftp_client_model.specs.Calls.{data_end, data_opened, data_wants, ending_of, heard_flow, is_busy, is_busy_job, is_sound, link_wants, opened_by, over_by, receives, receives_octet, starts, started_by, transfer_under_way, unsendable_by}
use Rattle.ftp_client_model.specs.Dialogue.{aborts_once_enough, answers_by, answers_once_over, carries_on, closes_once_given_by, finishes_by, finishes_read, has_begun, is_given, is_to_abort, judged, last_job, next_job, placed, sends_abort, sends_if}
use Rattle.ftp_client_model.specs.Octets.{flow_of}
use Rattle.ftp_client_model.specs.Plan.{command_of, first_step, next_step}
use Rattle.ftp_client_model.specs.Tries.{run_at}
use Rattle.ftp_client_model.specs.View.{Doing, Flow, Idle, Job, Told, Transfer, Transferring, View as Near, Waiting, dropped, fails_by}
use Rattle.ftp_client_model.specs.declared.client.Abort.{Abort}
use Rattle.ftp_client_model.specs.declared.client.Abort.TheVariants as Aborts
use Rattle.ftp_client_model.specs.declared.client.ClientLink.{ClientLink}
use Rattle.ftp_client_model.specs.declared.client.ClientLink.TheVariants as Data
use Rattle.ftp_client_model.specs.declared.client.Ending.{Ending}
use Rattle.ftp_client_model.specs.declared.client.Failure.TheVariants as Failures
use Rattle.ftp_client_model.specs.declared.client.Replied.{Replied}
use Rattle.ftp_client_model.specs.declared.client.Replied.TheVariants as Replies
use Rattle.ftp_client_model.specs.declared.client.Standing.{Standing}
use Rattle.ftp_client_model.specs.declared.client.Standing.TheVariants as Stands
use Rattle.ftp_client_model.specs.declared.client.Step.{Step}
use Rattle.ftp_client_model.specs.declared.client.Step.TheVariants as Steps
use Rattle.laws_drivers.proofs.control.Taken.{idle_of, taken}
use Rattle.laws_drivers.specs.world.Unaborted.{is_unaborted}
use Rattle.laws_drivers.proofs.world.Known.{is_receive}
use Rattle.laws_drivers.proofs.world.Served.{rests}
use Rattle.laws_drivers.proofs.events.Stands.{wants_port}

-- ---- what it wants

-- a client that has not failed, wants no port of its own and no close wants nothing of a world
pub wants_rest : (n : Near) → is_sound n.standing ≡ true → wants_port n.connection ≡ false → n.closing ≡ false → rests (near.wants n) ≡ true
unfolding near.wants
wants_rest n sound dials unclosed =
    ap₂ (λ c s. rests (if c then Want.CloseData else (if s then link_wants n.connection n else Want.CloseAll))) unclosed sound ∙ by_link n.connection dials
  where
    by_flow : (down begun : Bool) → rests (if down then Want.Receive else (if begun then Want.Send else Want.Nothing)) ≡ true
    by_flow true begun = refl
    by_flow false true = refl
    by_flow false false = refl

    by_transfer : (transfer : Option Transfer) → rests (data_wants transfer) ≡ true
    by_transfer None = refl
    by_transfer (Some transfer) = by_flow _ _

    by_link : (link : ClientLink) → wants_port link ≡ false → rests (link_wants link n) ≡ true
    by_link Data.Free e = refl
    by_link Data.ListenWanted e = absurd (true≢false e)
    by_link (Data.Listening port) e = refl
    by_link (Data.Connecting endpoint) e = refl
    by_link (Data.Accepting port) e = refl
    by_link Data.Open e = by_transfer (transfer_under_way n)
    by_link (Data.Over ending) e = refl

-- it wants a close
abbrev pub is_close : Wants → Bool
is_close Want.CloseData = true
is_close other = false

-- one that wants anything else wants no close
pub no_close : (n : Near) (q : Wants) → near.wants n ≡ q → is_close q ≡ false → n.closing ≡ false
unfolding near.wants
no_close n q e none = by n.closing e
  where
    by : (closing : Bool) → (if closing then Want.CloseData else (if is_sound n.standing then link_wants n.connection n else Want.CloseAll)) ≡ q
        → closing ≡ false
    by true e = absurd (true≢false (ap is_close e ∙ none))
    by false e = refl

-- one that takes octets: its link is open, and a transfer is under way
pub record Taking (n : Near) : Type 0 where
  pub closing : n.closing ≡ false
  pub connection : n.connection ≡ Data.Open
  pub op : Op (List ℕ)
  pub transfer : Transfer
  pub job : n.job ≡ Transferring op transfer

pub taking_of : (n : Near) → near.wants n ≡ Want.Receive → Taking n
unfolding near.wants
taking_of n e = by n.closing (is_sound n.standing) n.connection n.job refl refl refl e
  where
    no : (q : Wants) → is_receive q ≡ false → q ≡ Want.Receive → ⊥
    no q none e = true≢false (sym (ap is_receive e) ∙ none)

    by : (closing sound : Bool) (link : ClientLink) (job : Job) → n.closing ≡ closing → n.connection ≡ link → n.job ≡ job
        → (if closing then Want.CloseData
        else (if sound then link_wants link (record n { closing = closing; connection = link; job = job }) else Want.CloseAll)) ≡ Want.Receive → Taking n
    by true sound link job c l j e = absurd (no Want.CloseData refl e)
    by false false link job c l j e = absurd (no Want.CloseAll refl e)
    by false true Data.Free job c l j e = absurd (no Want.Nothing refl e)
    by false true Data.ListenWanted job c l j e = absurd (no Want.Listen refl e)
    by false true (Data.Listening port) job c l j e = absurd (no Want.Nothing refl e)
    by false true (Data.Connecting endpoint) job c l j e = absurd (no (Want.Connect endpoint) refl e)
    by false true (Data.Accepting port) job c l j e = absurd (no Want.Accept refl e)
    by false true (Data.Over ending) job c l j e = absurd (no Want.Nothing refl e)
    by false true Data.Open (Transferring op transfer) c l j e = record { closing = c; connection = l; op = op; transfer = transfer; job = j }
    by false true Data.Open Idle c l j e = absurd (no Want.Nothing refl e)
    by false true Data.Open (Waiting op) c l j e = absurd (no Want.Nothing refl e)
    by false true Data.Open (Doing op step) c l j e = absurd (no Want.Nothing refl e)
    by false true Data.Open (Told said) c l j e = absurd (no Want.Nothing refl e)

-- its report aside it is the same
pub taking_same : (n : Near) → Taking n → taken n ≡ n
taking_same n t = ap (λ j. record n { job = idle_of j }) t.job ∙ ap (λ j. record n { job = j }) (sym t.job)

-- one that dials
pub record Dialling (endpoint : Endpoint) (n : Near) : Type 0 where
  pub closing : n.closing ≡ false
  pub connection : n.connection ≡ Data.Connecting endpoint

abbrev pub dials_to : Endpoint → Wants → Endpoint
dials_to other (Want.Connect endpoint) = endpoint
dials_to other q = other

abbrev pub is_connect : Wants → Bool
is_connect (Want.Connect endpoint) = true
is_connect other = false

pub dialling_of : (endpoint : Endpoint) (n : Near) → near.wants n ≡ Want.Connect endpoint → Dialling endpoint n
unfolding near.wants
dialling_of endpoint n e = by n.closing (is_sound n.standing) n.connection refl refl e
  where
    no : (q : Wants) → is_connect q ≡ false → q ≡ Want.Connect endpoint → ⊥
    no q none e = true≢false (sym (ap is_connect e) ∙ none)

    by_flow : (down begun : Bool) → is_connect (if down then Want.Receive else (if begun then Want.Send else Want.Nothing)) ≡ false
    by_flow true begun = refl
    by_flow false true = refl
    by_flow false false = refl

    by_transfer : (transfer : Option Transfer) → is_connect (data_wants transfer) ≡ false
    by_transfer None = refl
    by_transfer (Some transfer) = by_flow _ _

    by : (closing sound : Bool) (link : ClientLink) → n.closing ≡ closing → n.connection ≡ link
        → (if closing then Want.CloseData else (if sound then link_wants link n else Want.CloseAll)) ≡ Want.Connect endpoint → Dialling endpoint n
    by true sound link c l e = absurd (no Want.CloseData refl e)
    by false false link c l e = absurd (no Want.CloseAll refl e)
    by false true Data.Free c l e = absurd (no Want.Nothing refl e)
    by false true Data.ListenWanted c l e = absurd (no Want.Listen refl e)
    by false true (Data.Listening port) c l e = absurd (no Want.Nothing refl e)
    by false true (Data.Connecting other) c l e = record { closing = c; connection = l ∙ ap Data.Connecting (ap (dials_to endpoint) e) }
    by false true (Data.Accepting port) c l e = absurd (no Want.Accept refl e)
    by false true Data.Open c l e = absurd (no (data_wants (transfer_under_way n)) (by_transfer (transfer_under_way n)) e)
    by false true (Data.Over ending) c l e = absurd (no Want.Nothing refl e)

-- ---- its report

-- one that is busy once its report is taken had none
pub busy_same : (n : Near) → is_busy (taken n) ≡ true → taken n ≡ n
busy_same n busy = by n.job busy
  where
    by : (job : Job) → is_busy_job (idle_of job) ≡ true → taken (record n { job = job }) ≡ record n { job = job }
    by (Told said) e = absurd (true≢false (sym e))
    by job e = refl

-- one of which no operation is under way is not busy once its report is taken
pub idle_free : (n : Near) → is_operation_under_way n.job ≡ false → is_busy (taken n) ≡ false
idle_free n idle = by n.job idle
  where
    by : (job : Job) → is_operation_under_way job ≡ false → is_busy_job (idle_of job) ≡ false
    by Idle e = refl
    by (Told said) e = refl
    by (Waiting op) e = absurd (true≢false e)
    by (Doing op step) e = absurd (true≢false e)
    by (Transferring op transfer) e = absurd (true≢false e)

-- where the reports are taken, it sent no ABOR just where it had sent none
pub is_unaborted_same : (n : Near) → is_unaborted (taken n).job ≡ is_unaborted n.job
is_unaborted_same n = by n.job
  where
    by : (job : Job) → is_unaborted (idle_of job) ≡ is_unaborted job
    by (Told said) = refl
    by job = refl

-- ---- its wish to close

-- a step keeps it
placed_closing : (op : Op (List ℕ)) (step : Step) (n : Near) → (placed op step n).closing ≡ n.closing
placed_closing op step n = by step
  where
    sends_closing : (command : Option (Command (List ℕ))) (u : Near) → (sends_if command u).closing ≡ u.closing
    sends_closing None u = refl
    sends_closing (Some command) u = refl

    by : (step : Step) → (placed op step n).closing ≡ n.closing
    by Steps.Listen = refl
    by Steps.Last = sends_closing (command_of n op Steps.Last) (record n { job = last_job op (flow_of op) })
    by other = sends_closing (command_of n op other) (record n { job = Doing op other })

-- so does the beginning of an operation
pub starts_closing : (op : Op (List ℕ)) (n : Near) → (starts op n).closing ≡ n.closing
unfolding starts
starts_closing op n = by (can_be_sent op) n.standing
  where
    by : (can : Bool) (standing : Standing) → (if can then started_by standing op (record n { run = None }) else unsendable_by standing n).closing ≡ n.closing
    by true Stands.Entered = placed_closing op (first_step n.settings op) (record n { run = None })
    by true (Stands.Failed failure) = refl
    by true Stands.Greeting = refl
    by true Stands.User = refl
    by true Stands.Pass = refl
    by false (Stands.Failed failure) = refl
    by false Stands.Entered = refl
    by false Stands.Greeting = refl
    by false Stands.User = refl
    by false Stands.Pass = refl

-- what keeps its wish to close, and whether it has failed
record KeepsBoth (new old : Near) : Type 0 where
  closing : new.closing ≡ old.closing
  standing : new.standing ≡ old.standing

-- so does an ABOR
aborts_keeps : (op : Op (List ℕ)) (transfer : Transfer) (n : Near) → KeepsBoth (aborts_once_enough (Transferring op transfer) n) n
aborts_keeps op transfer n = by (is_to_abort n.connection op transfer)
  where
    by : (aborts : Bool) → KeepsBoth (if aborts then sends_abort op transfer n else n) n
    by true = record { closing = refl; standing = refl }
    by false = record { closing = refl; standing = refl }

-- so does an octet that comes
octet_keeps : (octet : ℕ) (n : Near) → KeepsBoth (receives_octet n octet) n
octet_keeps octet n = by n.job
  where
    by : (job : Job) → KeepsBoth (near.heard_by job octet n) n
    by (Transferring op transfer) =
        let heard : Transfer = record transfer { flow = heard_flow transfer.abort transfer.flow octet } in
        let kept = aborts_keeps op heard (record n { job = Transferring op heard }) in
        record { closing = kept.closing; standing = kept.standing }
    by job = record { closing = refl; standing = refl }

-- so do octets
receives_keeps : (octets : List ℕ) (n : Near) → KeepsBoth (receives n octets) n
receives_keeps [] n = record { closing = refl; standing = refl }
receives_keeps (octet ∷ octets) n =
    let one = octet_keeps octet n in
    let more = receives_keeps octets (receives_octet n octet) in
    record { closing = more.closing ∙ one.closing; standing = more.standing ∙ one.standing }

pub receives_closing : (octets : List ℕ) (n : Near) → (receives n octets).closing ≡ n.closing
receives_closing octets n = (receives_keeps octets n).closing

-- the link that it dialled is there: its wish to close stays, and whose host is there is of no matter
pub dialled_closing : (endpoint : Endpoint) (host : Host) (n : Near) → Dialling endpoint n → (data_opened host n).closing ≡ false
unfolding data_opened
dialled_closing endpoint host n d =
    ap₂ (λ c l. (if c then n else opened_by l host n).closing) d.closing d.connection ∙ by n.job ∙ d.closing
  where
    by : (job : Job) → (near.connected job n).closing ≡ n.closing
    by (Doing op Steps.Connect) = placed_closing op (next_step n.settings op Steps.Connect) (record n { connection = Data.Open })
    by (Doing op step) = refl
    by Idle = refl
    by (Waiting op) = refl
    by (Transferring op transfer) = refl
    by (Told said) = refl

pub dialled_any : (endpoint : Endpoint) (host other : Host) (n : Near) → Dialling endpoint n → data_opened host n ≡ data_opened other n
unfolding data_opened
dialled_any endpoint host other n d =
    ap (λ l. if n.closing then n else opened_by l host n) d.connection ∙ sym (ap (λ l. if n.closing then n else opened_by l other n) d.connection)

-- ---- how it stands

-- a step keeps that
placed_standing : (op : Op (List ℕ)) (step : Step) (n : Near) → (placed op step n).standing ≡ n.standing
placed_standing op step n = by step
  where
    sends_standing : (command : Option (Command (List ℕ))) (u : Near) → (sends_if command u).standing ≡ u.standing
    sends_standing None u = refl
    sends_standing (Some command) u = refl

    by : (step : Step) → (placed op step n).standing ≡ n.standing
    by Steps.Listen = refl
    by Steps.Last = sends_standing (command_of n op Steps.Last) (record n { job = last_job op (flow_of op) })
    by other = sends_standing (command_of n op other) (record n { job = Doing op other })

-- so does the beginning of an operation
pub starts_standing : (op : Op (List ℕ)) (n : Near) → (starts op n).standing ≡ n.standing
unfolding starts
starts_standing op n = by (can_be_sent op) n.standing refl
  where
    by : (can : Bool) (standing : Standing) → n.standing ≡ standing
        → (if can then started_by standing op (record n { run = None }) else unsendable_by standing n).standing ≡ n.standing
    by true Stands.Entered is = placed_standing op (first_step n.settings op) (record n { run = None })
    by true (Stands.Failed failure) is = refl
    by true Stands.Greeting is = refl
    by true Stands.User is = refl
    by true Stands.Pass is = refl
    by false (Stands.Failed failure) is = refl
    by false Stands.Entered is = refl
    by false Stands.Greeting is = refl
    by false Stands.User is = refl
    by false Stands.Pass is = refl

-- so do octets that come
pub receives_standing : (octets : List ℕ) (n : Near) → (receives n octets).standing ≡ n.standing
receives_standing octets n = (receives_keeps octets n).standing

-- and the link that it dialled
pub dialled_standing : (endpoint : Endpoint) (host : Host) (n : Near) → Dialling endpoint n → (data_opened host n).standing ≡ n.standing
unfolding data_opened
dialled_standing endpoint host n d = ap₂ (λ c l. (if c then n else opened_by l host n).standing) d.closing d.connection ∙ by n.job
  where
    by : (job : Job) → (near.connected job n).standing ≡ n.standing
    by (Doing op Steps.Connect) = placed_standing op (next_step n.settings op Steps.Connect) (record n { connection = Data.Open })
    by (Doing op step) = refl
    by Idle = refl
    by (Waiting op) = refl
    by (Transferring op transfer) = refl
    by (Told said) = refl

-- ---- its link is over

-- a client whose link is over goes on without a wish to close
over_closing : (ending : Ending) (n : Near) → (carries_on (record n { connection = Data.Over ending; closing = false })).closing ≡ false
over_closing ending n = by n.job
  where
    u : Job → Near
    u job = record n { job = job; connection = Data.Over ending; closing = false }

    strange_closing : (standing : Standing) (job : Job) → (fails_by standing Failures.Strange (u job)).closing ≡ false
    strange_closing (Stands.Failed failure) job = refl
    strange_closing Stands.Greeting job = refl
    strange_closing Stands.User job = refl
    strange_closing Stands.Pass job = refl
    strange_closing Stands.Entered job = refl

    next_closing : (next : Option (Op (List ℕ))) (said : Said) (job : Job) → (finishes_by next said (u job)).closing ≡ false
    next_closing None said job = refl
    next_closing (Some op) said job = placed_closing op (first_step n.settings op) (record (dropped (u job)) { run = option_map (run_at op) n.run })

    read_closing : (said : Option Said) (job : Job) → (finishes_read said (u job)).closing ≡ false
    read_closing None job = strange_closing n.standing job
    read_closing (Some said) job = next_closing (next_job n.run job said) said job

    answers_closing : (replied : Replied) (abort : Abort) (op : Op (List ℕ)) (flow : Flow) (job : Job)
        → (answers_by replied abort (Data.Over ending) op flow (u job)).closing ≡ false
    answers_closing Replies.Nothing abort op flow job = refl
    answers_closing Replies.Begun abort op flow job = refl
    answers_closing (Replies.Final code) Aborts.Unsent op flow job = read_closing (judged ending Aborts.Unsent code op flow) job
    answers_closing (Replies.Final code) Aborts.Answered op flow job = read_closing (judged ending Aborts.Answered code op flow) job
    answers_closing (Replies.Final code) Aborts.Sent op flow job = refl

    given : (v : Near) (all : Bool) → closes_once_given_by all (Data.Over ending) v ≡ v
    given v true = refl
    given v false = refl

    by : (job : Job) → (carries_on (record n { job = job; connection = Data.Over ending; closing = false })).closing ≡ false
    by (Transferring op transfer) =
        ap (λ closed. (answers_once_over (aborts_once_enough closed.job closed)).closing)
        (given (u (Transferring op transfer)) (has_begun transfer.replied && is_given transfer.flow))
        ∙ answers_closing transfer.replied transfer.abort op transfer.flow (Transferring op transfer)
    by Idle = refl
    by (Waiting op) = refl
    by (Doing op step) = refl
    by (Told said) = refl

-- so it does once it is told of the end
pub end_closing : (n : Near) → Taking n → (data_end n).closing ≡ false
unfolding data_end
end_closing n t =
    ap₂ (λ c l. (if c then n else over_by l (ending_of n.job) n).closing) t.closing t.connection
    ∙ ap (λ c. (carries_on (record n { connection = Data.Over (ending_of n.job); closing = c })).closing) t.closing ∙ over_closing (ending_of n.job) n
