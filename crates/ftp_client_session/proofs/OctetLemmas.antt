-- Octets of the data connection that are taken.
use Rattle.std.proofs.Common.{◌≡◌, ◌∙◌, ◌&&◌, ℕ, ◌<◌, Bool, true, false, List, [], ◌∷◌, ◌++◌, Option, None, length, refl, sym, ap, arith}
use Rattle.std.specs.Prelude.{if◌then◌else◌}
use Rattle.ftp_operation.specs.declared.op.Op.{Op}
use Rattle.ftp_client_model.specs.Calls.{downloads, heard_by, heard_flow, is_down, may_receive, receives, receives_octet, transfer_over, with_flow}
use Rattle.ftp_client_model.specs.Dialogue.{aborts_once_enough, has_begun, is_to_abort, is_unsent, sends_abort}
use Rattle.ftp_client_model.specs.Octets.{flow_octet, has_enough}
use Rattle.ftp_client_model.specs.View.{View, Job, Idle, Waiting, Doing, Transferring, Told, Transfer, Flow, Sending, Receiving}
use Rattle.ftp_client_model.specs.declared.client.Abort.{Abort}
use Rattle.ftp_client_model.specs.declared.client.Abort.TheVariants as Aborts
use Rattle.ftp_client_model.specs.declared.client.ClientLink.{ClientLink}
use Rattle.ftp_client_model.specs.declared.client.ClientLink.TheVariants as Data
use Rattle.ftp_client_steps.specs.Hearing.{NotYet, heard_all}
use Rattle.ftp_client_session.specs.Client.{JobNotYet, job_heard, job_unsent, shorted}
use Rattle.ftp_client_session.proofs.CarryLemmas.{aborts_stands, if_same}

heard_down : (abort : Abort) (flow : Flow) (octet : ℕ) → is_down (heard_flow abort flow octet) ≡ is_down flow
heard_down Aborts.Unsent (Sending left mark) octet = refl
heard_down Aborts.Unsent (Receiving decoder mark) octet = refl
heard_down Aborts.Sent flow octet = refl
heard_down Aborts.Answered flow octet = refl

over_down : (c : ClientLink) (op : Op (List ℕ)) (one other : Transfer) → is_down one.flow ≡ is_down other.flow
    → downloads (transfer_over c (Transferring op one)) ≡ downloads (transfer_over c (Transferring op other))
over_down Data.Open op one other same = same
over_down Data.Free op one other same = refl
over_down Data.ListenWanted op one other same = refl
over_down (Data.Listening port) op one other same = refl
over_down (Data.Connecting endpoint) op one other same = refl
over_down (Data.Accepting port) op one other same = refl
over_down (Data.Over ending) op one other same = refl

if_downs : (b : Bool) (one other : Option Transfer) → downloads one ≡ downloads other
    → downloads (if b then None else one) ≡ downloads (if b then None else other)
if_downs true one other same = refl
if_downs false one other same = same

may_by : (job : Job) (v : View) (octet : ℕ) → (let w : View = record v { job = job } in may_receive (heard_by job octet w) ≡ may_receive w)
may_by Idle v octet = refl
may_by (Waiting op) v octet = refl
may_by (Doing op step) v octet = refl
may_by (Transferring op transfer) v octet =
    let flow : Flow = heard_flow transfer.abort transfer.flow octet in
    let heard : Transfer = record transfer { flow = flow } in
    let sent : Transfer = record heard { abort = Aborts.Sent } in
    let w : View = record v { job = Transferring op heard } in
    let down = heard_down transfer.abort transfer.flow octet in
    if_same may_receive (is_to_abort v.connection op heard) (sends_abort op heard w) w
    (downloads (if v.closing then None else transfer_over v.connection (Transferring op transfer)))
    (if_downs v.closing (transfer_over v.connection (Transferring op sent)) (transfer_over v.connection (Transferring op transfer)) (over_down v.connection op sent transfer down))
    (if_downs v.closing (transfer_over v.connection (Transferring op heard)) (transfer_over v.connection (Transferring op transfer)) (over_down v.connection op heard transfer down))
may_by (Told answer) v octet = refl

-- octets that came change nothing of whether more may be taken
pub may_receives : (v : View) (octets : List ℕ) → may_receive (receives v octets) ≡ may_receive v
may_receives v [] = refl
may_receives v (octet ∷ octets) = may_receives (receives_octet v octet) octets ∙ may_by v.job v octet

short_by : (job : Job) (v : View) (octet : ℕ) → (let w : View = record v { job = job } in shorted (heard_by job octet w) ≡ shorted w)
short_by Idle v octet = refl
short_by (Waiting op) v octet = refl
short_by (Doing op step) v octet = refl
short_by (Transferring op transfer) v octet =
    let heard : Transfer = record transfer { flow = heard_flow transfer.abort transfer.flow octet } in
    let w : View = record v { job = Transferring op heard } in
    if_same shorted (is_to_abort v.connection op heard) (sends_abort op heard w) w (shorted w) refl refl
short_by (Told answer) v octet = refl

-- what came is of no use to a client that is short of memory
pub short_receives : (v : View) (octets : List ℕ) → shorted (receives v octets) ≡ shorted v
short_receives v [] = refl
short_receives v (octet ∷ octets) = short_receives (receives_octet v octet) octets ∙ short_by v.job v octet

and_false : (b : Bool) → (b && false) ≡ false
and_false true = refl
and_false false = refl

-- a transfer that has not enough is not ended
not_yet : (c : ClientLink) (op : Op (List ℕ)) (t : Transfer) → has_enough op t.flow ≡ false → is_to_abort c op t ≡ false
not_yet Data.Open op t few = ap (λ b. (is_unsent t.abort && has_begun t.replied) && b) few ∙ and_false (is_unsent t.abort && has_begun t.replied)
not_yet Data.Free op t few = refl
not_yet Data.ListenWanted op t few = refl
not_yet (Data.Listening port) op t few = refl
not_yet (Data.Connecting endpoint) op t few = refl
not_yet (Data.Accepting port) op t few = refl
not_yet (Data.Over ending) op t few = refl

-- a client whose transfer carries this
abbrev pub carrying : Op (List ℕ) → Transfer → View → Flow → View
carrying op t v flow = record v { job = Transferring op (record t { flow = flow }) }

-- octets that came one by one, behind the last of which there may be enough
pub receives_some : (op : Op (List ℕ)) (t : Transfer) (v : View) (flow : Flow) (octet : ℕ) (octets : List ℕ) → t.abort ≡ Aborts.Unsent
    → NotYet op flow (octet ∷ octets)
    → receives (carrying op t v flow) (octet ∷ octets)
    ≡ aborts_once_enough (Transferring op (record t { flow = heard_all flow (octet ∷ octets) })) (carrying op t v (heard_all flow (octet ∷ octets)))
receives_some op t v flow octet [] unsent few =
    ap (λ a. let heard : Transfer = record t { flow = heard_flow a flow octet } in aborts_once_enough (Transferring op heard) (carrying op t v (heard_flow a flow octet))) unsent
receives_some op t v flow octet (next ∷ octets) unsent few =
    let heard : Transfer = record t { flow = flow_octet flow octet } in
    let one : receives_octet (carrying op t v flow) octet ≡ carrying op t v (flow_octet flow octet) =
    ap (λ a. let h : Transfer = record t { flow = heard_flow a flow octet } in aborts_once_enough (Transferring op h) (carrying op t v (heard_flow a flow octet))) unsent
    ∙ ap (λ b. if b then sends_abort op heard (carrying op t v (flow_octet flow octet)) else carrying op t v (flow_octet flow octet)) (not_yet v.connection op heard few.0) in
    ap (λ w. receives w (next ∷ octets)) one ∙ receives_some op t v (flow_octet flow octet) next octets unsent few.1

received_by : (job : Job) (v : View) (octets : List ℕ) → job_unsent job ≡ true → 0 < length octets → JobNotYet octets job
    → (let w : View = record v { job = job } in let u : View = record v { job = job_heard octets job } in receives w octets ≡ aborts_once_enough (job_heard octets job) u)
received_by Idle v octets unsent some few = absurd (cc unsent)
received_by (Waiting op) v octets unsent some few = absurd (cc unsent)
received_by (Doing op step) v octets unsent some few = absurd (cc unsent)
received_by (Transferring op transfer) v [] unsent some few = absurd (omega (arith, some))
received_by (Transferring op transfer) v (octet ∷ octets) unsent some few =
    receives_some op transfer v transfer.flow octet octets (unsent_is transfer.abort unsent) few
  where
    unsent_is : (abort : Abort) → is_unsent abort ≡ true → abort ≡ Aborts.Unsent
    unsent_is Aborts.Unsent is = refl
    unsent_is Aborts.Sent is = absurd (cc is)
    unsent_is Aborts.Answered is = absurd (cc is)
received_by (Told answer) v octets unsent some few = absurd (cc unsent)

-- all that came in one call, behind the last of which there may be enough
pub received : (v : View) (octets : List ℕ) → job_unsent v.job ≡ true → 0 < length octets → JobNotYet octets v.job
    → (let u : View = record v { job = job_heard octets v.job } in receives v octets ≡ aborts_once_enough u.job u)
received v octets unsent some few = received_by v.job v octets unsent some few

dropped_flow : (abort : Abort) (flow : Flow) (octet : ℕ) → is_unsent abort ≡ false → heard_flow abort flow octet ≡ flow
dropped_flow Aborts.Unsent flow octet sent = absurd (cc sent)
dropped_flow Aborts.Sent flow octet sent = refl
dropped_flow Aborts.Answered flow octet sent = refl

-- an ABOR is sent once
sent_once : (c : ClientLink) (op : Op (List ℕ)) (t : Transfer) → is_unsent t.abort ≡ false → is_to_abort c op t ≡ false
sent_once Data.Open op t sent = ap (λ b. (b && has_begun t.replied) && has_enough op t.flow) sent
sent_once Data.Free op t sent = refl
sent_once Data.ListenWanted op t sent = refl
sent_once (Data.Listening port) op t sent = refl
sent_once (Data.Connecting endpoint) op t sent = refl
sent_once (Data.Accepting port) op t sent = refl
sent_once (Data.Over ending) op t sent = refl

drops : (v : View) (op : Op (List ℕ)) (t : Transfer) (octet : ℕ) → v.job ≡ Transferring op t → is_unsent t.abort ≡ false → receives_octet v octet ≡ v
drops v op t octet is sent =
    ap (λ job. heard_by job octet v) is
    ∙ ap (λ flow. with_flow op t flow v) (dropped_flow t.abort t.flow octet sent)
    ∙ ap (λ b. let w : View = record v { job = Transferring op t } in if b then sends_abort op t w else w) (sent_once v.connection op t sent)
    ∙ ap (λ job. let w : View = record v { job = job } in w) (sym is)

drops_by : (job : Job) (v : View) (octet : ℕ) → job_unsent job ≡ false → (let w : View = record v { job = job } in receives_octet w octet ≡ w)
drops_by Idle v octet sent = refl
drops_by (Waiting op) v octet sent = refl
drops_by (Doing op step) v octet sent = refl
drops_by (Transferring op transfer) v octet sent = drops (record v { job = Transferring op transfer }) op transfer octet refl sent
drops_by (Told answer) v octet sent = refl

-- behind an ABOR all octets are dropped
pub dropped : (v : View) (octets : List ℕ) → job_unsent v.job ≡ false → receives v octets ≡ v
dropped v [] sent = refl
dropped v (octet ∷ octets) sent = ap (λ w. receives w octets) (drops_by v.job v octet sent) ∙ dropped v octets sent

pub receives_append : (v : View) (one other : List ℕ) → receives v (one ++ other) ≡ receives (receives v one) other
receives_append v [] other = refl
receives_append v (octet ∷ one) other = receives_append (receives_octet v octet) one other

stands_by : (job : Job) (v : View) (octet : ℕ) → (heard_by job octet v).standing ≡ v.standing
stands_by Idle v octet = refl
stands_by (Waiting op) v octet = refl
stands_by (Doing op step) v octet = refl
stands_by (Transferring op transfer) v octet =
    let heard : Transfer = record transfer { flow = heard_flow transfer.abort transfer.flow octet } in
    aborts_stands (Transferring op heard) (record v { job = Transferring op heard })
stands_by (Told answer) v octet = refl

pub receives_stands : (v : View) (octets : List ℕ) → (receives v octets).standing ≡ v.standing
receives_stands v [] = refl
receives_stands v (octet ∷ octets) = receives_stands (receives_octet v octet) octets ∙ stands_by v.job v octet
