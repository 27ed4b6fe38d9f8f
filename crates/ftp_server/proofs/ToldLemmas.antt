-- The line that a call acted on, as it is told.
use Rattle.std.proofs.Common.{◌≡◌, ◌≢◌, ◌⊎◌, inl, inr, ℕ, ◌+◌, ◌<◌, Bool, true, false, not, ◌&&◌, ◌||◌, List, [], ◌∷◌, ◌++◌, Option, Some, None, Result, Ok, Err, OnOk, OnErr, take, drop, length, get_or, refl, sym, ap, subst, ◌∙◌}
use Rattle.std.specs.Prelude.{if◌then◌else◌}
use Rattle.std.specs.Result.{is_err}
use Rattle.std.proofs.lemmas.List.{take_more}
use Rattle.std.proofs.Math.Seq.{take-add}
use Rattle.ftp_mode.specs.Said.{Said, says, marker}
use Rattle.ftp_mode.specs.declared.fault.FrameFault.{FrameFault}
use Rattle.ftp_path.specs.Path.{Names}
use Rattle.ftp_wire.specs.Decoder.{Decoder, with_sign, read_on, octet_says, fault_of}
use Rattle.ftp_server_model.specs.Calls.{MayReceive, connection_of, grown, is_upload, may_receive, receives, receives_octet, takes_all, takes_data, takes_octet, takes_said, with_connection}
use Rattle.ftp_server_model.specs.Endpoint.{forgotten, is_standing}
use Rattle.ftp_server_model.specs.Far.{Server}
use Rattle.ftp_server_model.specs.Heard.{Heard, Tells, abort_told, heard_by, heard_by_line, heard_by_octet, heard_received, later_heard, latest, told_of, waited_heard}
use Rattle.ftp_server_model.specs.Machine.{IsReading, Reading, faulted, given_out, has_room, hears, hears_octet, is_abort, is_connection_busy, is_idle, is_over, later, obeyed, turned, waited}
use Rattle.ftp_server_model.specs.Act.{decided}
use Rattle.ftp_server_model.specs.View.{Session, Transfer, View}
use Rattle.ftp_server_model.specs.declared.heard.HeardLine.{HeardLine}
use Rattle.ftp_server_model.specs.declared.session.Keep.{Keep}
use Rattle.ftp_server_model.specs.declared.session.ServerLink.{ServerLink}
use Rattle.ftp_server_model.specs.declared.session.ServerLink.TheVariants as Data
use Rattle.ftp_server_model.specs.declared.session.Transfer.TheVariants as Transfers
use Rattle.ftp_server_model.specs.declared.session.Pending.TheVariants as Pendings
use Rattle.ftp_server_replies.specs.declared.transfer.Told.{Told}
use Rattle.ftp_server_replies.specs.declared.transfer.Told.TheVariants.{Nothing, Mark, Faulty, NoMemory}
use Rattle.ftp_server_replies.specs.ServerTransfer.{ComesTo}
use Rattle.ftp_server.specs.Data.{TellsSaid}
use Rattle.ftp_server.specs.HearsTo.{HearsTo, TellsTo}
use Rattle.ftp_server.specs.Settled.{HasMoved, IsStepSettled}
use Rattle.ftp_server.proofs.CallLemmas.{on_course}
use Rattle.ftp_server.proofs.CountingLemmas.{same_counts}
use Rattle.ftp_server.proofs.DataLemmas.{fault_same}
use Rattle.ftp_server_model.specs.Counting.{TellsSome}
use Rattle.ftp_server_model.specs.Failing.{KeepsCourse}
use Rattle.ftp_tree.proofs.CountLemmas.{stray-first}
use Rattle.ftp_tree.specs.Change.{IsSteady}

-- ---- the line that waits

-- whether a line waits stays, whatever is said where a download is over
given_waits : (c : ServerLink Transfer) (v : View) → (given_out c v).waiting ≡ v.waiting
given_waits (Data.Transferring (Transfers.Download [])) v = refl
given_waits (Data.Transferring (Transfers.Listing [])) v = refl
given_waits (Data.Transferring (Transfers.Download (c ∷ cs))) v = refl
given_waits (Data.Transferring (Transfers.Listing (c ∷ cs))) v = refl
given_waits (Data.Transferring (Transfers.Upload path keep d)) v = refl
given_waits (Data.Transferring Transfers.OverLimit) v = refl
given_waits Data.Free v = refl
given_waits (Data.Asked asked) v = refl
given_waits (Data.Active endpoint) v = refl
given_waits Data.Passive v = refl
given_waits Data.Ready v = refl
given_waits (Data.Opening transfer way) v = refl

-- no line waits behind one that was acted on
obeyed_waits : (heard : HeardLine (List ℕ)) (v : View) → (obeyed heard v).waiting ≡ v.waiting
unfolding obeyed
obeyed_waits heard v =
    let w = turned (decided v.context heard v.session.pending (record v.session { pending = Pendings.Nothing })) v in
    given_waits w.session.connection w

-- where no line waits, nothing is acted on
pub none_later : (v : View) → v.waiting ≡ None → (later v ≡ v) × (later_heard v ≡ None)
none_later v none = (ap (λ w. waited w v) none, ap (λ w. waited_heard w v) none)

-- where the line that waits may not be acted on yet, neither
pub busy_later : (v : View) → is_idle v ≡ false → (later v ≡ v) × (later_heard v ≡ None)
busy_later v busy = by v.waiting
  where
    by : (w : Option (HeardLine (List ℕ))) → (waited w v ≡ v) × (waited_heard w v ≡ None)
    by None = (refl, refl)
    by (Some heard) = (ap (λ b. if b then obeyed heard (record v { waiting = None }) else v) busy, ap (λ b. if b then Some (told_of heard v) else None) busy)

-- where it may be, it is told, and waits no more
pub idle_later : (v : View) (heard : HeardLine (List ℕ)) → v.waiting ≡ Some heard → is_idle v ≡ true → ((later v).waiting ≡ None) × (later_heard v ≡ Some (told_of heard v))
idle_later v heard waits idle = (
  ap (λ w. w.waiting) (ap (λ w. waited w v) waits ∙ ap (λ b. if b then obeyed heard (record v { waiting = None }) else v) idle) ∙ obeyed_waits heard (record v { waiting = None }),
  ap (λ w. waited_heard w v) waits ∙ ap (λ b. if b then Some (told_of heard v) else None) idle,
)

-- the line that waited was acted on, as it stood then
pub obeyed_told : (C : Type 0) {T E : Type 0} (r : Result T E) (heard : HeardLine (List ℕ)) (v : View) (told : Option Heard) → v.waiting ≡ Some heard → is_idle v ≡ true
    → OnOk r (C → told ≡ Some (told_of heard (record v { waiting = None }))) → OnOk r (C → told ≡ later_heard v)
obeyed_told C (Ok x) heard v told waits idle is = λ c. is c ∙ sym (idle_later v heard waits idle).1
obeyed_told C (Err x) heard v told waits idle is = tt

-- ---- a call by its step

pub tells : (step : View → View) (heard : Option Heard) (old mid new : Server) → mid.view ≡ step old.view → mid.counts ≡ old.counts → Tells (λ v. v) heard mid new → Tells step heard old new
tells step heard old mid new view counts told = λ same. told (same ∙ sym counts) ∙ ap later_heard view

-- a step that may fail, and then the line that waits
pub tells_step : {T E : Type 0} (step : View → View) (heard : Option Heard) (old mid new : Server) (failures : ℕ) (r : Result T E) → failures ≡ old.counts.failures.told
    → mid.counts.refusals ≡ old.counts.refusals → OnOk r (KeepsCourse old.counts mid.counts → mid.view ≡ step old.view)
    → OnOk r (IsSteady old.counts.failures mid.counts.failures) → TellsSome 1 old.counts.failures mid.counts.failures
    → TellsSome 1 mid.counts.failures new.counts.failures → IsStepSettled r failures mid new
    → OnOk r (failures ≡ mid.counts.failures.told → Tells (λ v. v) heard mid new) → Tells step heard old new
tells_step step heard old mid new failures (Ok x) stood refusals view steady few more settled told = λ same.
    let c = stray-first old.counts.failures mid.counts.failures new.counts.failures few.1 more.1 (on_course old.counts new.counts same) in
    told (stood ∙ sym steady.0) (same ∙ sym (same_counts old.counts mid.counts refusals steady c)) ∙ ap later_heard (view c)
tells_step step heard old mid new failures (Err x) stood refusals view steady few more settled told =
    λ same. absurd (settled.1 (ap (λ n. n.refusals) same ∙ sym refusals) (ap (λ n. n.failures.told) same ∙ sym stood))

-- the line that waits, and then the count: `mid` is behind that line
pub settles_told : {T E U F : Type 0} (step : Result T E) (l : Result U F) (failures : ℕ) (old mid new : Server) (heard after : Option Heard) → is_err step ≡ false
    → OnOk l (KeepsCourse old.counts mid.counts → heard ≡ later_heard old.view) → after ≡ heard → mid.counts.refusals ≡ old.counts.refusals
    → new.counts.failures ≡ mid.counts.failures → OnErr l (HasMoved failures mid.counts new.counts)
    → OnOk step (failures ≡ old.counts.failures.told → Tells (λ v. v) after old new)
settles_told (Err x) l failures old mid new heard after fine told same refusals still moved = tt
settles_told (Ok x) (Ok y) failures old mid new heard after fine told same refusals still moved =
    λ stood counts. same ∙ told (ap (λ f. f.strays) (sym still) ∙ on_course old.counts new.counts counts)
settles_told (Ok x) (Err y) failures old mid new heard after fine told same refusals still moved =
    λ stood counts. absurd (moved (ap (λ n. n.refusals) counts ∙ sym refusals) (ap (λ n. n.failures.told) counts ∙ sym stood))

-- nothing is told of a step that failed
pub fault_told : {T E : Type 0} (P : Type 0) (step : Result T E) → is_err step ≡ true → OnOk step P
fault_told P (Ok x) failed = absurd (let wrong : false ≡ true = failed in cc)
fault_told P (Err x) failed = tt

-- ---- control octets

pub line_told : (heard : HeardLine (List ℕ)) (v : View) (told : Option Heard) → is_abort heard v ≡ false → told ≡ later_heard (record v { waiting = Some heard }) → told ≡ heard_by_line heard v
line_told heard v told e is = is ∙ sym (ap (λ b. if b then Some abort_told else later_heard (record v { waiting = Some heard })) e)

pub abort_is_told : (heard : HeardLine (List ℕ)) (v : View) → is_abort heard v ≡ true → Some abort_told ≡ heard_by_line heard v
abort_is_told heard v e = sym (ap (λ b. if b then Some abort_told else later_heard (record v { waiting = Some heard })) e)

heard_append : (read : Reading) (told : Option Heard) (v : View) (front : List ℕ) (octet : ℕ) → heard_by read told v (front ++ octet ∷ []) ≡ heard_by_octet read (hears read v front) octet
heard_append read told v [] octet = refl
heard_append read told v (c ∷ cs) octet = heard_append read (heard_by_octet read v c) (hears_octet read v c) cs octet

-- one more octet of a piece
pub piece_told : (piece : List ℕ) (i : ℕ) (v x : View) (told : Option Heard) → i < length piece → HearsTo (take i piece) v x
    → ((read : Reading) → IsReading read → told ≡ heard_by_octet read x (get_or piece i 0)) → TellsTo (take (i + 1) piece) v told
piece_told piece i v x told in_it h one = λ read is.
    one read is ∙ ap (λ y. heard_by_octet read y (get_or piece i 0)) (h read is).0 ∙ sym (heard_append read None v (take i piece) (get_or piece i 0))
    ∙ ap (heard_by read None v) (sym (take_more piece i 0 in_it))

-- ---- data octets

-- one row behind another
received_append : (told : Option Heard) (v : View) (front back : List ℕ) → heard_received told v (front ++ back) ≡ heard_received (heard_received told v front) (receives v front) back
received_append told v [] back = refl
received_append told v (c ∷ cs) back = received_append (latest told (later_heard (takes_data (connection_of v.session) c v))) (receives_octet v c) cs back

pub row_told : (piece : List ℕ) (i count : ℕ) (v x : View) (before after : Option Heard) → x ≡ receives v (take i piece) → before ≡ heard_received None v (take i piece)
    → after ≡ heard_received before x (take count (drop i piece)) → after ≡ heard_received None v (take (i + count) piece)
row_told piece i count v x before after view told more =
    let front = take i piece in let back = take count (drop i piece) in
    more ∙ ap (λ t. heard_received t x back) told ∙ ap (λ y. heard_received (heard_received None v front) y back) view
    ∙ sym (received_append None v front back) ∙ ap (heard_received None v) (sym (take-add i count piece))

-- whether a line waits is no matter of the data connection
said_waits : (c : ServerLink Transfer) (said : Said) (v : View) → (takes_said c said v).waiting ≡ v.waiting
said_waits (Data.Transferring (Transfers.Upload path keep d)) (says sign) v = refl
said_waits (Data.Transferring (Transfers.Upload path keep d)) (marker text) v = refl
said_waits (Data.Transferring Transfers.OverLimit) said v = refl
said_waits (Data.Transferring (Transfers.Download rest)) said v = refl
said_waits (Data.Transferring (Transfers.Listing rest)) said v = refl
said_waits Data.Free said v = refl
said_waits (Data.Asked asked) said v = refl
said_waits (Data.Active endpoint) said v = refl
said_waits Data.Passive said v = refl
said_waits Data.Ready said v = refl
said_waits (Data.Opening transfer way) said v = refl

all_waits : (said : List Said) (v : View) → (takes_all said v).waiting ≡ v.waiting
all_waits [] v = refl
all_waits (one ∷ more) v = all_waits more (takes_said v.session.connection one v) ∙ said_waits v.session.connection one v

fault_waits : (fault : Option FrameFault) (path : Names) (keep : Keep) (d : Decoder) (said : List Said) (v : View) → (takes_octet fault path keep d said v).waiting ≡ v.waiting
fault_waits None path keep d said v = all_waits said (with_connection (Data.Transferring (Transfers.Upload path keep d)) v)
fault_waits (Some fault) path keep d said v = refl

data_waits : (c : ServerLink Transfer) (octet : ℕ) (v : View) → (takes_data c octet v).waiting ≡ v.waiting
data_waits (Data.Transferring (Transfers.Upload path keep d)) octet v = fault_waits (fault_of (read_on d octet)) path keep (read_on d octet) (octet_says d octet) v
data_waits (Data.Transferring Transfers.OverLimit) octet v = refl
data_waits (Data.Transferring (Transfers.Download rest)) octet v = refl
data_waits (Data.Transferring (Transfers.Listing rest)) octet v = refl
data_waits Data.Free octet v = refl
data_waits (Data.Asked asked) octet v = refl
data_waits (Data.Active endpoint) octet v = refl
data_waits Data.Passive octet v = refl
data_waits Data.Ready octet v = refl
data_waits (Data.Opening transfer way) octet v = refl

-- what an octet does before the line that waits is acted on
abbrev by_octet : View → ℕ → View
by_octet v octet = takes_data (connection_of v.session) octet v

octet_waits : (v : View) (octet : ℕ) → (by_octet v octet).waiting ≡ v.waiting
octet_waits v octet = data_waits (connection_of v.session) octet v

-- the call of one octet: that, and then the line that waits
octet_later : (v : View) (octet : ℕ) → receives_octet v octet ≡ later (by_octet v octet)
unfolding receives_octet
octet_later v octet = refl

-- where no line waits, none is told
none_received : (told : Option Heard) (v : View) (octets : List ℕ) → v.waiting ≡ None → (heard_received told v octets ≡ told) × ((receives v octets).waiting ≡ None)
none_received told v [] none = (refl, none)
none_received told v (c ∷ cs) none =
    let z = by_octet v c in
    let still : z.waiting ≡ None = octet_waits v c ∙ none in
    let l = none_later z still in
    let on = octet_later v c ∙ l.0 in
    let rest = none_received told z cs still in (
      ap (λ t. heard_received (latest told t) (receives_octet v c) cs) l.1 ∙ ap (λ y. heard_received told y cs) on ∙ rest.0,
      ap (λ y. (receives y cs).waiting) on ∙ rest.1,
    )

-- where the line waits on behind all of them, none is told
pub waits_on : (told : Option Heard) (v : View) (octets : List ℕ) (heard : HeardLine (List ℕ)) → v.waiting ≡ Some heard → (receives v octets).waiting ≡ Some heard → heard_received told v octets ≡ told
waits_on told v [] heard waits on = refl
waits_on told v (c ∷ cs) heard waits on = by (waits_on told (by_octet v c) cs heard (octet_waits v c ∙ waits)) (is_idle (by_octet v c)) refl
  where
    z : View
    z = by_octet v c

    still : z.waiting ≡ Some heard
    still = octet_waits v c ∙ waits

    by : ((receives z cs).waiting ≡ Some heard → heard_received told z cs ≡ told) → (b : Bool) → is_idle z ≡ b → heard_received told v (c ∷ cs) ≡ told
    by rest true idle =
        let acted = ap (λ w. w.waiting) (octet_later v c) ∙ (idle_later z heard still idle).0 in
        absurd (let wrong : Some heard ≡ None = sym on ∙ (none_received told (receives_octet v c) cs acted).1 in cc)
    by rest false busy =
        let l = busy_later z busy in let same = octet_later v c ∙ l.0 in
        ap (λ t. heard_received (latest told t) (receives_octet v c) cs) l.1 ∙ ap (λ y. heard_received told y cs) same
        ∙ rest (ap (λ y. (receives y cs).waiting) (sym same) ∙ on)

pub no_line_acted_on : (told : Option Heard) (v : View) (octets : List ℕ) → (receives v octets).waiting ≡ v.waiting → heard_received told v octets ≡ told
no_line_acted_on told v octets on = by v.waiting refl
  where
    by : (w : Option (HeardLine (List ℕ))) → v.waiting ≡ w → heard_received told v octets ≡ told
    by None none = (none_received told v octets none).0
    by (Some heard) waits = waits_on told v octets heard waits (on ∙ waits)

-- ---- an upload goes on, or ends by a fault

-- it goes on, and all else of the session stays
record GoesOn (v z : View) : Type 0 where
  upload : is_upload z.session.connection ≡ true
  others : forgotten z.session ≡ forgotten v.session
  context : z.context ≡ v.context

-- it ended
record IsOver (v z : View) : Type 0 where
  session : z.session ≡ forgotten v.session
  context : z.context ≡ v.context

standing : (c : ServerLink Transfer) → is_upload c ≡ true → is_standing c ≡ true
standing (Data.Transferring transfer) is = refl
standing Data.Free is = absurd (let wrong : false ≡ true = is in cc)
standing (Data.Asked asked) is = absurd (let wrong : false ≡ true = is in cc)
standing (Data.Active endpoint) is = absurd (let wrong : false ≡ true = is in cc)
standing Data.Passive is = absurd (let wrong : false ≡ true = is in cc)
standing Data.Ready is = absurd (let wrong : false ≡ true = is in cc)
standing (Data.Opening transfer way) is = absurd (let wrong : false ≡ true = is in cc)

upload_busy : (c : ServerLink Transfer) → is_upload c ≡ true → is_connection_busy c ≡ true
upload_busy (Data.Transferring transfer) is = refl
upload_busy Data.Free is = absurd (let wrong : false ≡ true = is in cc)
upload_busy (Data.Asked asked) is = absurd (let wrong : false ≡ true = is in cc)
upload_busy (Data.Active endpoint) is = absurd (let wrong : false ≡ true = is in cc)
upload_busy Data.Passive is = absurd (let wrong : false ≡ true = is in cc)
upload_busy Data.Ready is = absurd (let wrong : false ≡ true = is in cc)
upload_busy (Data.Opening transfer way) is = absurd (let wrong : false ≡ true = is in cc)

-- with another upload
another : (c : ServerLink Transfer) (v x : View) → is_upload c ≡ true → GoesOn v x → GoesOn v (with_connection c x)
another c v x is on = record {
  upload = is;
  others = ap (λ b. record x.session { connection = Data.Free; closing = x.session.closing || b }) (standing c is ∙ sym (standing x.session.connection on.upload)) ∙ on.others;
  context = on.context;
}

grown_on : (path : Names) (keep : Keep) (d : Decoder) (s : Session) → is_upload (grown path keep d s) ≡ true
grown_on path keep d s = by (is_over path keep d s)
  where
    by : (b : Bool) → is_upload (if b then Data.Transferring Transfers.OverLimit else Data.Transferring (Transfers.Upload path keep d)) ≡ true
    by true = refl
    by false = refl

said_on : (c : ServerLink Transfer) (said : Said) (v x : View) → is_upload c ≡ true → GoesOn v x → GoesOn v (takes_said c said x)
said_on (Data.Transferring (Transfers.Upload path keep d)) (says sign) v x is on = another (grown path keep (with_sign d sign) x.session) v x (grown_on path keep (with_sign d sign) x.session) on
said_on (Data.Transferring (Transfers.Upload path keep d)) (marker text) v x is on =
    let more = another (Data.Transferring (Transfers.Upload path keep d)) v x refl on in record { upload = refl; others = more.others; context = more.context }
said_on (Data.Transferring Transfers.OverLimit) said v x is on = on
said_on (Data.Transferring (Transfers.Download rest)) said v x is on = on
said_on (Data.Transferring (Transfers.Listing rest)) said v x is on = on
said_on Data.Free said v x is on = on
said_on (Data.Asked asked) said v x is on = on
said_on (Data.Active endpoint) said v x is on = on
said_on Data.Passive said v x is on = on
said_on Data.Ready said v x is on = on
said_on (Data.Opening transfer way) said v x is on = on

all_on : (said : List Said) (v x : View) → GoesOn v x → GoesOn v (takes_all said x)
all_on [] v x on = on
all_on (one ∷ more) v x on = all_on more v (takes_said x.session.connection one x) (said_on x.session.connection one v x on.upload on)

octet_on : (closing : Bool) (c : ServerLink Transfer) (octet : ℕ) (v : View) → v.session.connection ≡ c → is_upload (if closing then Data.Free else c) ≡ true
    → GoesOn v (takes_data (if closing then Data.Free else c) octet v) ⊎ IsOver v (takes_data (if closing then Data.Free else c) octet v)
octet_on true c octet v same is = absurd (let wrong : false ≡ true = is in cc)
octet_on false (Data.Transferring (Transfers.Upload path keep d)) octet v same is = by (fault_of (read_on d octet))
  where
    here : GoesOn v v
    here = record { upload = ap is_upload same; others = refl; context = refl }

    by : (fault : Option FrameFault) → GoesOn v (takes_octet fault path keep (read_on d octet) (octet_says d octet) v) ⊎ IsOver v (takes_octet fault path keep (read_on d octet) (octet_says d octet) v)
    by None = inl (all_on (octet_says d octet) v (with_connection (Data.Transferring (Transfers.Upload path keep (read_on d octet))) v)
        (another (Data.Transferring (Transfers.Upload path keep (read_on d octet))) v v refl here))
    by (Some fault) = inr (record { session = refl; context = refl })
octet_on false (Data.Transferring Transfers.OverLimit) octet v same is = inl (record { upload = ap is_upload same; others = refl; context = refl })
octet_on false (Data.Transferring (Transfers.Download rest)) octet v same is = absurd (let wrong : false ≡ true = is in cc)
octet_on false (Data.Transferring (Transfers.Listing rest)) octet v same is = absurd (let wrong : false ≡ true = is in cc)
octet_on false Data.Free octet v same is = absurd (let wrong : false ≡ true = is in cc)
octet_on false (Data.Asked asked) octet v same is = absurd (let wrong : false ≡ true = is in cc)
octet_on false (Data.Active endpoint) octet v same is = absurd (let wrong : false ≡ true = is in cc)
octet_on false Data.Passive octet v same is = absurd (let wrong : false ≡ true = is in cc)
octet_on false Data.Ready octet v same is = absurd (let wrong : false ≡ true = is in cc)
octet_on false (Data.Opening transfer way) octet v same is = absurd (let wrong : false ≡ true = is in cc)

first_part : (a b : Bool) → (a && b) ≡ true → a ≡ true
first_part true b e = refl
first_part false b e = absurd (let wrong : false ≡ true = e in cc)

one_octet : (v : View) (octet : ℕ) → may_receive v ≡ true → GoesOn v (by_octet v octet) ⊎ IsOver v (by_octet v octet)
one_octet v octet may = octet_on v.session.closing v.session.connection octet v refl (first_part (is_upload (connection_of v.session)) (has_room v) may)

-- while it goes on no line may be acted on
upload_is_busy : (v : View) → is_upload v.session.connection ≡ true → is_idle v ≡ false
upload_is_busy v is = ap (λ b. not b && has_room v) (upload_busy v.session.connection is)

-- no octet may be taken where no endpoint is set
free_takes_none : (v : View) (s : Session) → v.session ≡ forgotten s → may_receive v ≡ true → ⊥
free_takes_none v s is may =
    let up = first_part (is_upload (connection_of v.session)) (has_room v) may in
    let free = ap (λ x. is_upload (connection_of x)) is in
    let none : is_upload (connection_of (forgotten s)) ≡ false = by (s.closing || is_standing s.connection) in
    (let wrong : true ≡ false = sym up ∙ free ∙ none in cc)
  where
    by : (b : Bool) → is_upload (if b then Data.Free else Data.Free) ≡ false
    by true = refl
    by false = refl

-- a line is told by the context and the session alone
same_told : (heard : HeardLine (List ℕ)) (v w : View) → v.session ≡ w.session → v.context ≡ w.context → told_of heard v ≡ told_of heard w
same_told heard v w session context =
    ap (λ f. told_of heard (record v { context = f })) context ∙ ap (λ s. told_of heard (record v { context = w.context; session = s })) session

-- where nothing of what waits was acted on, it waits on
not_idle : (Y : View) (heard : HeardLine (List ℕ)) → Y.waiting ≡ Some heard → (later Y).waiting ≡ Some heard → later_heard Y ≡ None
not_idle Y heard waits on = by (is_idle Y) refl
  where
    by : (b : Bool) → is_idle Y ≡ b → later_heard Y ≡ None
    by true idle = absurd (let wrong : Some heard ≡ None = sym on ∙ (idle_later Y heard waits idle).0 in cc)
    by false busy = (busy_later Y busy).1

-- and where it does not wait on, it was acted on
acted_on : (Y : View) (heard : HeardLine (List ℕ)) → Y.waiting ≡ Some heard → (later Y).waiting ≡ None → later_heard Y ≡ Some (told_of heard Y)
acted_on Y heard waits on = by (is_idle Y) refl
  where
    by : (b : Bool) → is_idle Y ≡ b → later_heard Y ≡ Some (told_of heard Y)
    by true idle = (idle_later Y heard waits idle).1
    by false busy = absurd (let wrong : None ≡ Some heard = sym on ∙ ap (λ w. w.waiting) (busy_later Y busy).0 ∙ waits in cc)

-- octets of which the last ended the upload by a fault: what is acted on is what waits behind that
ended_told : (told : Option Heard) (v Y : View) (octets : List ℕ) (heard : HeardLine (List ℕ)) → v.waiting ≡ Some heard → Y.waiting ≡ Some heard → Y.session ≡ forgotten v.session
    → Y.context ≡ v.context → MayReceive v octets → receives v octets ≡ later Y → heard_received told v octets ≡ latest told (later_heard Y)
ended_told told v Y [] heard waits there session context may is = sym (ap (latest told) (not_idle Y heard there (ap (λ w. w.waiting) (sym is) ∙ waits)))
ended_told told v Y (c ∷ cs) heard waits there session context may is =
    by (ended_told told (by_octet v c) Y cs heard (octet_waits v c ∙ waits) there) (one_octet v c may.0)
  where
    z : View
    z = by_octet v c

    still : z.waiting ≡ Some heard
    still = octet_waits v c ∙ waits

    -- the octets behind it, where the line waits on
    on : is_idle z ≡ false → heard_received told v (c ∷ cs) ≡ heard_received told z cs
    on busy =
        let l = busy_later z busy in
        ap (λ t. heard_received (latest told t) (receives_octet v c) cs) l.1 ∙ ap (λ y. heard_received told y cs) (octet_later v c ∙ l.0)

    there_on : is_idle z ≡ false → receives z cs ≡ later Y
    there_on busy = ap (λ y. receives y cs) (sym (octet_later v c ∙ (busy_later z busy).0)) ∙ is

    may_on : is_idle z ≡ false → MayReceive z cs
    may_on busy = subst (λ y. MayReceive y cs) (octet_later v c ∙ (busy_later z busy).0) may.1

    over : (os : List ℕ) (b : Bool) → cs ≡ os → IsOver v z → is_idle z ≡ b → heard_received told v (c ∷ cs) ≡ latest told (later_heard Y)
    over os true same ended idle =
        let l = idle_later z heard still idle in
        let acted = ap (λ w. w.waiting) (octet_later v c) ∙ l.0 in
        let rest = none_received (Some (told_of heard z)) (receives_octet v c) cs acted in
        ap (λ t. heard_received (latest told t) (receives_octet v c) cs) l.1 ∙ rest.0
        ∙ ap (λ t. Some t) (same_told heard z Y (ended.session ∙ sym session) (ended.context ∙ sym context))
        ∙ sym (ap (latest told) (acted_on Y heard there (ap (λ w. w.waiting) (sym is) ∙ rest.1)))
    over [] false same ended busy =
        on busy ∙ ap (heard_received told z) same
        ∙ sym (ap (latest told) (not_idle Y heard there (ap (λ w. w.waiting) (sym (there_on busy) ∙ ap (receives z) same) ∙ still)))
    over (o ∷ os) false same ended busy = absurd (free_takes_none z v.session ended.session (subst (MayReceive z) same (may_on busy)).0)

    by : (Y.session ≡ forgotten z.session → Y.context ≡ z.context → MayReceive z cs → receives z cs ≡ later Y → heard_received told z cs ≡ latest told (later_heard Y))
        → GoesOn v z ⊎ IsOver v z → heard_received told v (c ∷ cs) ≡ latest told (later_heard Y)
    by rest (inl goes) =
        let busy = upload_is_busy z goes.upload in
        on busy ∙ rest (session ∙ sym goes.others) (context ∙ sym goes.context) (may_on busy) (there_on busy)
    by rest (inr ended) = over cs (is_idle z) refl ended refl

pub fault_is_told : (told : Option Heard) (v Y : View) (octets : List ℕ) → Y.waiting ≡ v.waiting → Y.session ≡ forgotten v.session → Y.context ≡ v.context → MayReceive v octets
    → receives v octets ≡ later Y → heard_received told v octets ≡ latest told (later_heard Y)
fault_is_told told v Y octets waiting session context may is = by v.waiting refl
  where
    by : (w : Option (HeardLine (List ℕ))) → v.waiting ≡ w → heard_received told v octets ≡ latest told (later_heard Y)
    by None none = (none_received told v octets none).0 ∙ sym (ap (latest told) (none_later Y (waiting ∙ none)).1)
    by (Some heard) waits = ended_told told v Y octets heard waits (waiting ∙ waits) session context may is

-- what came to a transfer, and what was then said of it
pub said_told : (told : Told) (octets : List ℕ) (old new : Transfer) (v : View) (before after : Option Heard) → v.session.connection ≡ Data.Transferring old
    → ComesTo v octets told (with_connection (Data.Transferring new) v) → TellsSaid told (with_connection (Data.Transferring new) v) before after
    → after ≡ heard_received before v octets
said_told Nothing octets old new v before after carried comes said = said ∙ sym (no_line_acted_on before v octets (ap (λ w. w.waiting) comes.1))
said_told (Mark mark) octets old new v before after carried comes said = said ∙ sym (no_line_acted_on before v octets (ap (λ w. w.waiting) comes.1))
said_told Faulty octets old new v before after carried comes said =
    said ∙ ap (λ y. latest before (later_heard y)) (fault_same old new v carried)
    ∙ sym (fault_is_told before v (faulted v) octets refl refl refl comes.0 comes.1)
said_told NoMemory octets old new v before after carried comes said = absurd said
