-- A decoder reads as many octets as the actions of its end tell, as long as the end takes octets of one transfer.
use Rattle.std.proofs.Common.{◌≡◌, inl, inr, ℕ, suc, ◌+◌, ◌≤◌, Bool, true, false, true≢false, not, ◌&&◌, List, [], ◌∷◌, ◌++◌, length, take, Option, None, Some, refl, sym, ap, subst, ◌∙◌, arith, length-append}
use Rattle.std.specs.Prelude.{⊤, if◌then◌else◌}
use Rattle.ftp_client_driver.specs.Side.{Reporting, client_machine, client_side}
use Rattle.ftp_client_model.specs.Calls as near
use Rattle.ftp_client_model.specs.Dialogue.{sends_abort}
use Rattle.ftp_client_model.specs.Failing.{Client}
use Rattle.ftp_client_model.specs.Octets.{flow_octet, has_settled}
use Rattle.ftp_client_model.specs.Plan.{count_of}
use Rattle.ftp_client_model.specs.View.{Doing, Flow, Idle, Job, Receiving, Sending, Told, Transfer, Transferring, View as Near, Waiting}
use Rattle.ftp_client_model.specs.declared.client.Abort.TheVariants as Aborts
use Rattle.ftp_ports.specs.Actions.{Action, Done, Heard, Led, Other, Read, Said as Says, Stand}
use Rattle.ftp_ports.specs.Machine.{Aside, Failed, Got, Held, Received, Waited, Wrote}
use Rattle.ftp_ends.specs.Ear.{ear_step}
use Rattle.ftp_ends.proofs.EventLemmas.{out_one}
use Rattle.ftp_mode.specs.Said.{Said, marker, says}
use Rattle.ftp_mode.specs.declared.fault.FrameFault.{FrameFault}
use Rattle.ftp_nvt.specs.Lines.{NvtEvent, line, owed, too_long}
use Rattle.ftp_operation.specs.declared.op.Op.{Op}
use Rattle.ftp_path.specs.Path.{Names}
use Rattle.ftp_server_driver.specs.alone.Side.{HearsBy, Timed, ends_line, server_machine, server_side}
use Rattle.ftp_server_model.specs.Calls as far
use Rattle.ftp_server_model.specs.Calls.{connection_of, is_upload, receives, receives_octet, takes_all, takes_data, takes_octet, takes_said}
use Rattle.ftp_server_model.specs.Endpoint.{forgotten}
use Rattle.ftp_server_model.specs.Machine.{Reading, abort_said, aborted, aborts, at_break, concluded, has_room, heard_event, heard_events, heard_line, hears, hears_octet, is_abort, is_connection_busy, is_over, later, obeyed, waited}
use Rattle.ftp_server_model.specs.View.{Session, Transfer as FarTransfer, View as Far, line_limit}
use Rattle.ftp_server_model.specs.declared.heard.HeardLine.{HeardLine}
use Rattle.ftp_server_model.specs.declared.heard.HeardLine.TheVariants.{TooLong}
use Rattle.ftp_server_model.specs.declared.session.Keep.{Keep}
use Rattle.ftp_server_model.specs.declared.session.ServerLink.{ServerLink}
use Rattle.ftp_server_model.specs.declared.session.ServerLink.TheVariants as Data
use Rattle.ftp_server_model.specs.declared.session.Transfer.TheVariants as Transfers
use Rattle.ftp_server_model.proofs.LinesDecided.{reading_exists}
use Rattle.ftp_wire.specs.Decoder.{Decoder, fault_of, octet_says, read_on, with_sign}
use Rattle.ftp_wire.proofs.DecoderLemmas.{decodes}
use Rattle.laws_breaks.specs.downloads.Actions.{HasRead, HasTaken}
use Rattle.laws_breaks.specs.downloads.Late.{downloading}
use Rattle.laws_breaks.proofs.downloads.Counting.{IsAt, step_reads}
use Rattle.laws_breaks.proofs.downloads.Late.{Turns, all_few, down, hears_turns, is_told}
use Rattle.laws_breaks.proofs.downloads.Unsent.{never_aborts}
use Rattle.laws_breaks.specs.uploads.ByActions.{DownloadsAreCounted, HasReadUp, IsLoading, IsTaking, LoadsOn, TakesOn, UploadsAreCounted, told_by, told_in}
use Rattle.laws_breaks.proofs.uploads.Concluded.{transfer_shut}
use Rattle.laws_drivers.specs.events.Actions.{Along}
use Rattle.laws_drivers.proofs.events.FarForms.{none_later}
use Rattle.laws_drivers.specs.control.Alone.{ServerIsCalm}
use Rattle.laws_drivers.proofs.control.Calm.{first_is_calm}
use Rattle.laws_drivers.proofs.control.Taken.{idle_of, reports_is, taken}
use Rattle.laws_world.specs.World.{counted}

-- ---- the server

-- its decoder stands at so many octets, where it has one
abbrev UpAt : ServerLink FarTransfer → ℕ → Type 0
UpAt (Data.Transferring (Transfers.Upload path keep d)) n = IsAt d.reading n
UpAt link n = ⊤

-- a view holds that of the link that it has, and no line waits
abbrev Stands : Far → ℕ → Type 0
Stands v n = (v.waiting ≡ None) × UpAt (connection_of v.session) n

-- one that is to be closed is not had
closed_at : (closing : Bool) (link : ServerLink FarTransfer) (n : ℕ) → UpAt link n → UpAt (if closing then Data.Free else link) n
closed_at true link n at = tt
closed_at false link n at = at

-- what the wire says moves no reader
grown_at : (over : Bool) (path : Names) (keep : Keep) (d : Decoder) (n : ℕ) → IsAt d.reading n
    → UpAt (if over then Data.Transferring Transfers.OverLimit else Data.Transferring (Transfers.Upload path keep d)) n
grown_at true path keep d n at = tt
grown_at false path keep d n at = at

said_at : (said : Said) (link : ServerLink FarTransfer) (v : Far) (n : ℕ) → v.session.connection ≡ link → v.waiting ≡ None → UpAt link n
    → ((takes_said link said v).waiting ≡ None) × UpAt (takes_said link said v).session.connection n
said_at (says sign) (Data.Transferring (Transfers.Upload path keep d)) v n is none at =
    (none, grown_at (is_over path keep (with_sign d sign) v.session) path keep (with_sign d sign) n at)
said_at (marker text) (Data.Transferring (Transfers.Upload path keep d)) v n is none at = (none, at)
said_at said link v n is none at = (none, subst (λ l. UpAt l n) (sym is) at)

all_at : (said : List Said) (v : Far) (n : ℕ) → v.waiting ≡ None → UpAt v.session.connection n
    → ((takes_all said v).waiting ≡ None) × UpAt (takes_all said v).session.connection n
all_at [] v n none at = (none, at)
all_at (first ∷ more) v n none at =
    let one = said_at first v.session.connection v n refl none at in
    all_at more (takes_said v.session.connection first v) n one.0 one.1

-- no line that waits is acted on then
later_at : (v : Far) (n : ℕ) → Stands v n → Stands (later v) n
later_at v n stands = subst (λ w. Stands w n) (sym (ap (λ q. waited q v) stands.0)) stands

-- one octet of the data connection
octet_at : (v : Far) (octet n : ℕ) → Stands v n → Stands (receives_octet v octet) (n + 1)
unfolding far.receives_octet
octet_at v octet n stands = later_at (takes_data (connection_of v.session) octet v) (n + 1) (by (connection_of v.session) refl stands.1)
  where
    reads : (fault : Option FrameFault) (path : Names) (keep : Keep) (d : Decoder) (said : List Said) → IsAt d.reading (n + 1)
        → Stands (takes_octet fault path keep d said v) (n + 1)
    reads None path keep d said at =
        let w : Far = far.with_connection (Data.Transferring (Transfers.Upload path keep d)) v in
        let all = all_at said w (n + 1) stands.0 at in
        (all.0, closed_at (takes_all said w).session.closing (takes_all said w).session.connection (n + 1) all.1)
    reads (Some fault) path keep d said at = (stands.0, closed_at _ Data.Free (n + 1) tt)

    other : (link : ServerLink FarTransfer) → connection_of v.session ≡ link → ((k : ℕ) → UpAt link k) → Stands v (n + 1)
    other link is none = (stands.0, subst (λ l. UpAt l (n + 1)) (sym is) (none (n + 1)))

    by : (link : ServerLink FarTransfer) → connection_of v.session ≡ link → UpAt link n → Stands (takes_data link octet v) (n + 1)
    by (Data.Transferring (Transfers.Upload path keep d)) is at =
        reads (fault_of (read_on d octet)) path keep (read_on d octet) (octet_says d octet) (step_reads d.reading octet n at)
    by (Data.Transferring Transfers.OverLimit) is at = other _ is (λ k. tt)
    by (Data.Transferring (Transfers.Download rest)) is at = other _ is (λ k. tt)
    by (Data.Transferring (Transfers.Listing rest)) is at = other _ is (λ k. tt)
    by Data.Free is at = other _ is (λ k. tt)
    by (Data.Asked verb) is at = other _ is (λ k. tt)
    by (Data.Active endpoint) is at = other _ is (λ k. tt)
    by Data.Passive is at = other _ is (λ k. tt)
    by Data.Ready is at = other _ is (λ k. tt)
    by (Data.Opening transfer way) is at = other _ is (λ k. tt)

-- and all
octets_at : (octets : List ℕ) (v : Far) (n : ℕ) → Stands v n → Stands (receives v octets) (n + length octets)
octets_at [] v n stands = subst (Stands v) (omega arith) stands
octets_at (octet ∷ octets) v n stands =
    let more : n + 1 + length octets ≡ n + suc (length octets) = omega arith in
    subst (Stands (receives (receives_octet v octet) octets)) more (octets_at octets (receives_octet v octet) (n + 1) (octet_at v octet n stands))

-- ---- it hears

-- a line waits, or ends the transfer
line_at : (heard : HeardLine (List ℕ)) (v : Far) (link : ServerLink FarTransfer) (n : ℕ) → v.session.connection ≡ link → is_upload link ≡ true
    → v.waiting ≡ None → UpAt (connection_of v.session) n → UpAt (connection_of (heard_line heard v).session) n
line_at heard v (Data.Transferring transfer) n is upload none at = by (is_abort heard v)
  where
    -- it is busy, so that no line is acted on
    busy : (v : Far) (more : Bool) → v.session.connection ≡ Data.Transferring transfer → (not (is_connection_busy v.session.connection) && more) ≡ false
    busy v more is = ap (λ l. not (is_connection_busy l) && more) is

    waits : Far
    waits = record v { waiting = Some heard }

    ended : Far
    ended = abort_said (aborts v.session.connection v)

    gone : UpAt (connection_of (later ended).session) n
    gone =
        let s : Session = forgotten v.session in
        let ends : Far = abort_said (concluded (at_break v.context.moment transfer s) v) in
        let free : ends.session.connection ≡ Data.Free = (transfer_shut v.context.moment transfer s).0 in
        let there : UpAt (connection_of ends.session) n = closed_at ends.session.closing ends.session.connection n (subst (λ l. UpAt l n) (sym free) tt) in
        let same : ends ≡ later ended = ap (λ l. abort_said (aborts l v)) (sym is) ∙ sym (ap (λ q. waited q ended) (waits_none v.session.connection)) in
        subst (λ (w : Far). UpAt (connection_of w.session) n) same there
      where
        waits_none : (link : ServerLink FarTransfer) → (abort_said (aborts link v)).waiting ≡ None
        waits_none (Data.Transferring transfer) = none
        waits_none (Data.Opening transfer way) = none
        waits_none Data.Free = none
        waits_none (Data.Asked verb) = none
        waits_none (Data.Active endpoint) = none
        waits_none Data.Passive = none
        waits_none Data.Ready = none

    by : (aborts : Bool) → UpAt (connection_of (if aborts then aborted v else later waits).session) n
    by true = gone
    by false =
        let after_it : Bool → Far = λ idle. if idle then obeyed heard (record v { waiting = None }) else waits in
        subst (λ idle. UpAt (connection_of (after_it idle).session) n) (sym (busy v (has_room waits) is)) at
line_at heard v Data.Free n is upload none at = absurd (true≢false (sym upload))
line_at heard v (Data.Asked verb) n is upload none at = absurd (true≢false (sym upload))
line_at heard v (Data.Active endpoint) n is upload none at = absurd (true≢false (sym upload))
line_at heard v Data.Passive n is upload none at = absurd (true≢false (sym upload))
line_at heard v Data.Ready n is upload none at = absurd (true≢false (sym upload))
line_at heard v (Data.Opening transfer way) n is upload none at = absurd (true≢false (sym upload))

-- an upload over a link that is not to be closed
raw_upload : (closing : Bool) (link : ServerLink FarTransfer) → is_upload (if closing then Data.Free else link) ≡ true → is_upload link ≡ true
raw_upload true link upload = absurd (true≢false (sym upload))
raw_upload false link upload = upload

-- at most one octet is heard
heard_at : (read : Reading) (octets : List ℕ) → length octets ≤ 1 → (v : Far) (n : ℕ) → v.waiting ≡ None → is_upload (connection_of v.session) ≡ true
    → UpAt (connection_of v.session) n → UpAt (connection_of (hears read v octets).session) n
unfolding hears_octet
heard_at read [] short v n none upload at = at
heard_at read (octet ∷ []) short v n none upload at =
    elim (out_one line_limit v.ear octet) [
      | inl silent ↦ subst Up (sym silent) at
      | inr f ↦ subst Up (sym f.1) (event f.0)
    ]
  where
    w : Far
    w = record v { ear = ear_step line_limit v.ear octet }

    Up : List NvtEvent → Type 0
    Up events = UpAt (connection_of (heard_events read events w).session) n

    event : (event : NvtEvent) → UpAt (connection_of (heard_event read event w).session) n
    event (line text) = line_at (read text) w w.session.connection n refl (raw_upload w.session.closing w.session.connection upload) none at
    event too_long = line_at TooLong w w.session.connection n refl (raw_upload w.session.closing w.session.connection upload) none at
    event (owed answer) = at
heard_at read (octet ∷ other ∷ more) short v n none upload at = absurd (omega (arith, short))

-- ---- an action of the server

module _ (old new : Stand server_side) (n : ℕ) where
  abbrev v : Far
  v = old.owner.end.server.view

  abbrev u : Far
  u = new.owner.end.server.view

  -- it is this now, with as much
  up_now : (w : Far) (k : ℕ) → u ≡ w → n ≡ k → UpAt (connection_of w.session) n → UpAt (connection_of u.session) k
  up_now w k is same at = subst (λ (x : Far). UpAt (connection_of x.session) k) (sym is) (subst (UpAt (connection_of w.session)) same at)

  hears_up : (octets : List ℕ) → length octets ≤ 1 → (ends : Bool) → HearsBy ends octets old.owner.end new.owner.end → ServerIsCalm old.owner new.owner
      → IsTaking old.owner → UpAt (connection_of v.session) n → UpAt (connection_of u.session) (n + 0)
  hears_up octets short true h calm taking at =
      let calls = h.4 reading_exists.0 reading_exists.1 in
      let first : h.1.counts ≡ old.owner.end.server.counts =
      first_is_calm old.owner.end.server.counts h.1.counts new.owner.end.server.counts h.3.counted calls.counted calm in
      let told : Far = far.clock_step h.0 v in
      let mid : h.1.view ≡ told = h.3.done first ∙ none_later told taking.1 in
      up_now (hears reading_exists.0 told octets) (n + 0) (calls.done (calm ∙ sym first) ∙ ap (λ w. hears reading_exists.0 w octets) mid) (omega arith)
      (heard_at reading_exists.0 octets short told n taking.1 taking.0 at)
  hears_up octets short false h calm taking at =
      up_now (hears reading_exists.0 v octets) (n + 0) ((h.0 reading_exists.0 reading_exists.1).done calm) (omega arith)
      (heard_at reading_exists.0 octets short v n taking.1 taking.0 at)

  same_up : new.owner.end ≡ old.owner.end → UpAt (connection_of v.session) n → UpAt (connection_of u.session) (n + 0)
  same_up is at = up_now v (n + 0) (ap (λ (t : Timed). t.server.view) is) (omega arith) at

  -- it stands at as many more as it was told
  step_up : (action : Action server_side) → TakesOn action old.owner new.owner → IsTaking old.owner → Done action old new → UpAt (connection_of v.session) n
      → UpAt (connection_of u.session) (n + length (told_by {machine = server_machine} action))
  step_up (Heard octets) is taking did at = hears_up octets did.hears.0.0 (ends_line old.unheard) did.hears.0.1 is.1 taking at
  step_up (Says octets) is taking did at =
      let w : Far = far.control_step did.gives.count v in
      up_now w (n + 0) (did.gives.gave.0.done is.1 ∙ none_later w taking.1) (omega arith) at
  step_up (Read octets) is taking did at = same_up (ap (λ o. o.end) did.owner) at
  step_up (Other (Aside asked)) is taking did at = same_up did.0.0.0 at
  step_up (Other (Received octets count)) is taking did at =
      let taken : List ℕ = take count octets in
      subst (λ (x : Far). UpAt (connection_of x.session) (n + length taken)) (sym (did.0.0.0.done is.1)) (octets_at taken v n (taking.1, at)).1
  step_up (Other (Waited lost)) is taking did at = same_up did.0.0 at
  step_up (Other (Got octets)) is taking did at = same_up did.0.0 at
  step_up (Other (Wrote octets)) is taking did at = same_up did.0.0 at
  step_up (Other Failed) is taking did at = same_up did.0.0 at
  step_up action is taking did at = absurd is.0

-- all of them
module _ (start : Stand server_side) (n : ℕ) (taking : IsTaking start.owner) (at : UpAt (connection_of start.owner.end.server.view.session) n) where
  all_up : (actions : List (Action server_side)) (now : Stand server_side) (led : Led actions start now) → Along TakesOn actions start now led
      → IsTaking now.owner × UpAt (connection_of now.owner.end.server.view.session) (n + length (told_in {machine = server_machine} actions))
  all_up [] now led takes =
      subst (λ (s : Stand server_side). IsTaking s.owner × UpAt (connection_of s.owner.end.server.view.session) (n + 0)) (sym led)
      (taking, subst (UpAt (connection_of start.owner.end.server.view.session)) (omega arith) at)
  all_up (action ∷ before) now led takes =
      let there = all_up before led.0 led.1 takes.0 in
      let told : List ℕ = told_in {machine = server_machine} before in
      let more : List ℕ = told_by {machine = server_machine} action in
      let sum : n + length told + length more ≡ n + length (told ++ more) = omega (arith, length-append told more) in (
        takes.1.2,
        subst (UpAt (connection_of now.owner.end.server.view.session)) sum (step_up led.0 now (n + length told) action takes.1 there.0 led.2 there.1),
      )

-- so many were read where a decoder stands there, and there alone
read_at : (link : ServerLink FarTransfer) (n : ℕ) → HasReadUp link (counted n) → UpAt link n
read_at (Data.Transferring (Transfers.Upload path keep d)) n has = subst (λ r. IsAt r n) (sym has.1) refl
read_at link n has = tt

at_read : (link : ServerLink FarTransfer) (n after : ℕ) → UpAt link n → HasReadUp link after → after ≡ counted n
at_read (Data.Transferring (Transfers.Upload path keep d)) n after at has = subst (λ r. IsAt r n) has.1 at
at_read link n after at has = absurd has

pub uploads_are_counted : UploadsAreCounted
uploads_are_counted actions start now led taking takes before after had has =
    let there = all_up start before taking (read_at (connection_of start.owner.end.server.view.session) before had) actions now led takes in
    at_read (connection_of now.owner.end.server.view.session) (before + length (told_in {machine = server_machine} actions)) after there.1 has

-- ---- the client

-- its decoder stands at so many octets, where it has one
abbrev FlowAt : Flow → ℕ → Type 0
FlowAt (Receiving d mark) n = IsAt d.reading n
FlowAt (Sending left mark) n = ⊤

abbrev JobAt : Job → ℕ → Type 0
JobAt (Transferring op transfer) n = FlowAt transfer.flow n
JobAt job n = ⊤

told_at : (job : Job) (n : ℕ) → is_told job ≡ true → JobAt job n
told_at (Told answer) n told = tt
told_at Idle n told = tt
told_at (Waiting op) n told = tt
told_at (Doing op step) n told = tt
told_at (Transferring op transfer) n told = absurd (true≢false (sym told))

idle_at : (job : Job) (n : ℕ) → JobAt job n → JobAt (idle_of job) n
idle_at (Told answer) n at = tt
idle_at Idle n at = tt
idle_at (Waiting op) n at = tt
idle_at (Doing op step) n at = tt
idle_at (Transferring op transfer) n at = at

-- of a transfer of all that there is, of which no ABOR was sent
record Carries (v : Near) (n : ℕ) : Type 0 where
  op : Op (List ℕ)
  all : count_of op ≡ None
  transfer : Transfer
  job : v.job ≡ Transferring op transfer
  unsent : transfer.abort ≡ Aborts.Unsent
  at : FlowAt transfer.flow n

flow_at : (flow : Flow) (octet n : ℕ) → FlowAt flow n → FlowAt (flow_octet flow octet) (n + 1)
flow_at (Receiving d mark) octet n at =
    subst (λ r. IsAt r (n + 1)) (sym (decodes d (octet ∷ [])).reading) (step_reads d.reading octet n at)
flow_at (Sending left mark) octet n at = tt

-- one octet is taken
carries_octet : (v : Near) (octet n : ℕ) → Carries v n → Carries (near.receives_octet v octet) (n + 1)
carries_octet v octet n c =
    let heard : Transfer = record c.transfer { flow = flow_octet c.transfer.flow octet } in
    let on : Near = record v { job = Transferring c.op heard } in
    let is : near.receives_octet v octet ≡ on =
    ap (λ j. near.heard_by j octet v) c.job
    ∙ ap (λ a. near.with_flow c.op c.transfer (near.heard_flow a c.transfer.flow octet) v) c.unsent
    ∙ ap (λ (b : Bool). if b then sends_abort c.op heard on else on)
    (never_aborts v.connection c.op heard (ap (λ (k : Option ℕ). has_settled k heard.flow) c.all)) in
    subst (λ w. Carries w (n + 1)) (sym is) (record {
      op = c.op;
      all = c.all;
      transfer = heard;
      job = refl;
      unsent = c.unsent;
      at = flow_at c.transfer.flow octet n c.at;
    })

carries_octets : (octets : List ℕ) (v : Near) (n : ℕ) → Carries v n → Carries (near.receives v octets) (n + length octets)
carries_octets [] v n c = subst (Carries v) (omega arith) c
carries_octets (octet ∷ octets) v n c =
    let more : n + 1 + length octets ≡ n + suc (length octets) = omega arith in
    subst (Carries (near.receives (near.receives_octet v octet) octets)) more
    (carries_octets octets (near.receives_octet v octet) (n + 1) (carries_octet v octet n c))

module _ (old new : Stand client_side) (n : ℕ) where
  abbrev nv : Near
  nv = old.owner.end.view

  abbrev nu : Near
  nu = new.owner.end.view

  job_now : (w : Near) (k : ℕ) → nu ≡ w → n ≡ k → JobAt w.job n → JobAt nu.job k
  job_now w k is same at = subst (λ (x : Near). JobAt x.job k) (sym is) (subst (JobAt w.job) same at)

  same_job : nu ≡ nv → JobAt nv.job n → JobAt nu.job (n + 0)
  same_job is at = job_now nv (n + 0) is (omega arith) at

  -- it hears octets
  hears_job : (octets : List ℕ) → IsLoading old.owner → JobAt nv.job n → JobAt (near.hears nv octets).job n
  hears_job octets l at = by (hears_turns l.0 octets l.2 nv)
    where
      is_down : nv ≡ downloading l.0 l.2 l.3 l.4 nv
      is_down = l.5

      by : Turns l.0 (λ v. near.hears v octets) l.2 nv → JobAt (near.hears nv octets).job n
      by (inl stops) =
          subst (λ v. JobAt (near.hears v octets).job n) (sym is_down)
          (told_at (near.hears (down l.0 l.2 l.3 l.4 nv) octets).job n (stops l.3 (all_few l.0 l.1 l.3) l.4).told)
      by (inr g) =
          let is : near.hears nv octets ≡ down l.0 g.next l.3 l.4 g.last =
          ap (λ v. near.hears v octets) is_down ∙ g.stays l.3 (all_few l.0 l.1 l.3) l.4 in
          let read : IsAt l.3.reading n = subst (λ (v : Near). JobAt v.job n) is_down at in
          subst (λ (v : Near). JobAt v.job n) (sym is) read

  step_job : (action : Action client_side) → LoadsOn action old.owner new.owner → IsLoading old.owner → Done action old new → JobAt nv.job n
      → JobAt nu.job (n + length (told_by {machine = client_machine} action))
  step_job (Heard octets) is l did at =
      let heard : List ℕ = take (length octets) old.unheard in
      job_now (near.hears nv heard) (n + 0) (did.hears.0.0.0 is.1).0 (omega arith) (hears_job heard l at)
  step_job (Says octets) is l did at = job_now (near.gives_control did.gives.count nv) (n + 0) did.gives.gave.0 (omega arith) at
  step_job (Read octets) is l did at = same_job (ap (λ o. o.end.view) did.owner) at
  step_job (Other (Aside (Reporting None))) is l did at =
      job_now (taken nv) (n + 0) (did.0.0.1.0 ∙ reports_is nv) (omega arith) (idle_at nv.job n at)
  step_job (Other (Received octets count)) is l did at =
      let told : List ℕ = take count octets in
      let read : IsAt l.3.reading n = subst (λ (v : Near). JobAt v.job n) l.5 at in
      let c : Carries nv n = record {
        op = l.0;
        all = l.1;
        transfer = record { replied = l.2; abort = Aborts.Unsent; flow = Receiving l.3 l.4 };
        job = ap (λ (v : Near). v.job) l.5;
        unsent = refl;
        at = read;
      } in
      let carried = carries_octets told nv n c in
      subst (λ (v : Near). JobAt v.job (n + length told)) (sym (did.0.0.0.0 is.1).0)
      (subst (λ j. JobAt j (n + length told)) (sym carried.job) carried.at)
  step_job (Other (Waited lost)) is l did at = same_job (ap (λ c. c.view) did.0.0) at
  step_job (Other (Got octets)) is l did at = same_job (ap (λ c. c.view) did.0.0) at
  step_job (Other (Wrote octets)) is l did at = same_job (ap (λ c. c.view) did.0.0) at
  step_job (Other Failed) is l did at = same_job (ap (λ c. c.view) did.0.0) at
  step_job action is l did at = absurd is.0

module _ (start : Stand client_side) (n : ℕ) (loading : IsLoading start.owner) (at : JobAt start.owner.end.view.job n) where
  all_job : (actions : List (Action client_side)) (now : Stand client_side) (led : Led actions start now) → Along LoadsOn actions start now led
      → IsLoading now.owner × JobAt now.owner.end.view.job (n + length (told_in {machine = client_machine} actions))
  all_job [] now led loads =
      subst (λ (s : Stand client_side). IsLoading s.owner × JobAt s.owner.end.view.job (n + 0)) (sym led)
      (loading, subst (JobAt start.owner.end.view.job) (omega arith) at)
  all_job (action ∷ before) now led loads =
      let there = all_job before led.0 led.1 loads.0 in
      let told : List ℕ = told_in {machine = client_machine} before in
      let more : List ℕ = told_by {machine = client_machine} action in
      let sum : n + length told + length more ≡ n + length (told ++ more) = omega (arith, length-append told more) in (
        loads.1.2,
        subst (JobAt now.owner.end.view.job) sum (step_job led.0 now (n + length told) action loads.1 there.0 led.2 there.1),
      )

-- what a client of a download had taken, by its decoder
taken_at : (at : Held Client) (l : IsLoading at) (n : ℕ) → HasTaken at.end.view.job (counted n) → JobAt at.end.view.job n
taken_at at l n has =
    let here : HasRead l.3 (counted n) = subst (λ (v : Near). HasTaken v.job (counted n)) l.5 has in
    subst (λ (v : Near). JobAt v.job n) (sym l.5) (subst (λ r. IsAt r n) (sym here.1) refl)

at_taken : (at : Held Client) (l : IsLoading at) (n after : ℕ) → JobAt at.end.view.job n → HasTaken at.end.view.job after → after ≡ counted n
at_taken at l n after is has =
    let here : HasRead l.3 after = subst (λ (v : Near). HasTaken v.job after) l.5 has in
    subst (λ r. IsAt r n) here.1 (subst (λ (v : Near). JobAt v.job n) l.5 is)

pub downloads_are_counted : DownloadsAreCounted
downloads_are_counted actions start now led loading loads before after had has =
    let there = all_job start before loading (taken_at start.owner loading before had) actions now led loads in
    at_taken now.owner there.0 (before + length (told_in {machine = client_machine} actions)) after there.1 has
