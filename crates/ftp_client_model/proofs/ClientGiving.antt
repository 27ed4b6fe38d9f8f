-- What a client gives is less to be given, and want of memory makes no more to do.
use Rattle.std.proofs.Common.{◌≡◌, ℕ, ◌+◌, ◌<◌, ◌≤◌, ◌⊎◌, inl, inr, [], Bool, true, false, None, refl, ap, arith, length}
use Rattle.std.specs.Prelude.{if◌then◌else◌}
use Rattle.std.proofs.lemmas.List.{length-drop}
use Rattle.ftp_client_model.specs.Bounds.{login_left, transfer_left, run_left, job_left, to_begin, octets_left, upload_left, closes_left, still_to_give, AddsAtMost, Pays, GivingPays, ShortAddsAClose}
use Rattle.ftp_client_model.specs.Calls.{transfer_over, left_of, given_of, to_give, went, goes_by, gives_data}
use Rattle.ftp_client_model.specs.Dialogue.{has_begun, carries_on}
use Rattle.ftp_client_model.specs.Failing.{short, port_short, opened_short, over_short, no_port_short, unopened_short}
use Rattle.ftp_client_model.specs.View.{View, Job, Idle, Waiting, Doing, Transferring, Told, Flow, Sending, Receiving}
use Rattle.ftp_client_model.specs.declared.client.Ending.TheVariants as Endings
use Rattle.ftp_client_model.specs.declared.client.Failure.TheVariants as Failures
use Rattle.ftp_client_model.specs.declared.client.ClientLink.{ClientLink}
use Rattle.ftp_client_model.specs.declared.client.ClientLink.TheVariants as Data
use Rattle.ftp_ends.proofs.Counts.{one_if}
use Rattle.ftp_client_model.proofs.ClientBounds.{Low, same, both, if_low, fails_low}
use Rattle.ftp_client_model.proofs.ClientCalls.{carries_on_low, one_more}

-- ---- octets that go out

pays_then : (count : ℕ) (u v w : View) → Pays count u v → Low v w → Pays count u w
pays_then count u v w one other = record { begins = omega (arith, one.begins, other.begins); gives = by_first one.gives other.gives }
  where
    by_first : (to_begin v < to_begin u) ⊎ (still_to_give v + count ≤ still_to_give u) → (to_begin w < to_begin v) ⊎ (still_to_give w ≤ still_to_give v + 0)
        → (to_begin w < to_begin u) ⊎ (still_to_give w + count ≤ still_to_give u)
    by_first (inl less) rest = inl (omega (arith, less, other.begins))
    by_first (inr few) (inl less) = inl (omega (arith, less, one.begins))
    by_first (inr few) (inr fewer) = inr (omega (arith, few, fewer))

none_pays : (count : ℕ) (v : View) → count ≤ 0 → Pays count v v
none_pays count v none = record { begins = omega arith; gives = inr (omega (arith, none)) }

-- what may go out is of the upload
given_if : (begun : Bool) (flow : Flow) → length (if begun then left_of flow else []) ≤ octets_left flow
given_if true (Sending left mark) = omega arith
given_if true (Receiving decoder mark) = omega arith
given_if false flow = omega arith

over_le : (connection : ClientLink) (job : Job) → length (given_of (transfer_over connection job)) ≤ upload_left job
over_le Data.Open (Transferring op transfer) = given_if (has_begun transfer.replied) transfer.flow
over_le Data.Open Idle = omega arith
over_le Data.Open (Waiting op) = omega arith
over_le Data.Open (Doing op step) = omega arith
over_le Data.Open (Told answer) = omega arith
over_le Data.Free job = omega arith
over_le Data.ListenWanted job = omega arith
over_le (Data.Listening port) job = omega arith
over_le (Data.Connecting endpoint) job = omega arith
over_le (Data.Accepting port) job = omega arith
over_le (Data.Over ending) job = omega arith

given_le : (closing : Bool) (connection : ClientLink) (job : Job) → length (given_of (if closing then None else transfer_over connection job)) ≤ upload_left job
given_le true connection job = omega arith
given_le false connection job = over_le connection job

went_pays : (count : ℕ) (flow : Flow) → count ≤ octets_left flow → octets_left (went count flow) + count ≤ octets_left flow
went_pays count (Sending left mark) few = omega (arith, length-drop count left, few)
went_pays count (Receiving decoder mark) few = omega (arith, few)

goes_pays : (count : ℕ) (job : Job) (v : View) → v.job ≡ job → count ≤ upload_left job → Pays count v (goes_by count job v)
goes_pays count (Transferring op transfer) v is few =
    let w : View = record v { job = Transferring op (record transfer { flow = went count transfer.flow }) } in
    let here : job_left v.run v.job ≡ transfer_left op transfer.replied transfer.abort + run_left v.run op = ap (job_left v.run) is in
    let octets : upload_left v.job ≡ octets_left transfer.flow = ap upload_left is in
    pays_then count v w (carries_on w) (record { begins = omega (arith, here); gives = inr (omega (arith, octets, went_pays count transfer.flow few)) }) (carries_on_low w)
goes_pays count Idle v is few = none_pays count v few
goes_pays count (Waiting op) v is few = none_pays count v few
goes_pays count (Doing op step) v is few = none_pays count v few
goes_pays count (Told answer) v is few = none_pays count v few

data_pays : (count : ℕ) (v : View) → count ≤ length (to_give v) → Pays count v (gives_data count v)
unfolding gives_data
data_pays count v few = goes_pays count v.job v refl (omega (arith, few, given_le v.closing v.connection v.job))

pub giving_pays : GivingPays
giving_pays v = record {
  control_pays = λ count few. record { begins = omega arith; gives = inr (omega (arith, length-drop count v.owed, few)) };
  data_pays = λ count few. data_pays count v few;
  close_pays = λ is. let one : one_if v.closing ≡ 1 = ap one_if is in record { begins = omega arith; gives = inr (omega (arith, one)) };
}

-- ---- want of memory

-- a view of which one close more stands, and which fails
short_low : (v w : View) → w.standing ≡ v.standing → w.job ≡ v.job → w.run ≡ v.run → w.owed ≡ v.owed → closes_left w ≤ closes_left v + 1 → AddsAtMost 1 v (short w)
short_low v w standing job runs owes closing =
    let low = fails_low w.standing Failures.Memory w in
    let login : login_left w.standing ≡ login_left v.standing = ap login_left standing in
    let left : job_left w.run w.job ≡ job_left v.run v.job = rw (job, runs) refl in
    let octets : upload_left w.job ≡ upload_left v.job = ap upload_left job in
    let length_is : length w.owed ≡ length v.owed = ap length owes in
    record { begins = omega (arith, low.begins, login, left); gives = by_case low.gives login left octets length_is }
  where
    by_case : (to_begin (short w) < to_begin w) ⊎ (still_to_give (short w) ≤ still_to_give w + 0) → login_left w.standing ≡ login_left v.standing
        → job_left w.run w.job ≡ job_left v.run v.job → upload_left w.job ≡ upload_left v.job → length w.owed ≡ length v.owed
        → (to_begin (short w) < to_begin v) ⊎ (still_to_give (short w) ≤ still_to_give v + 1)
    by_case (inl less) login left octets length_is = inl (omega (arith, less, login, left))
    by_case (inr few) login left octets length_is = inr (omega (arith, few, octets, length_is, closing))

port_short_low : (connection : ClientLink) (port : ℕ) (v : View) → AddsAtMost 1 v (port_short connection port v)
port_short_low Data.ListenWanted port v = short_low v (record v { connection = Data.Listening port }) refl refl refl refl (omega arith)
port_short_low Data.Free port v = one_more v v (same v)
port_short_low (Data.Listening before) port v = one_more v v (same v)
port_short_low (Data.Connecting endpoint) port v = one_more v v (same v)
port_short_low (Data.Accepting before) port v = one_more v v (same v)
port_short_low Data.Open port v = one_more v v (same v)
port_short_low (Data.Over ending) port v = one_more v v (same v)

opened_short_low : (connection : ClientLink) (v : View) → AddsAtMost 1 v (opened_short connection v)
opened_short_low (Data.Connecting endpoint) v = short_low v (record v { connection = Data.Open }) refl refl refl refl (omega arith)
opened_short_low (Data.Accepting port) v = short_low v (record v { connection = Data.Open }) refl refl refl refl (omega arith)
opened_short_low Data.Free v = one_more v v (same v)
opened_short_low Data.ListenWanted v = one_more v v (same v)
opened_short_low (Data.Listening port) v = one_more v v (same v)
opened_short_low Data.Open v = one_more v v (same v)
opened_short_low (Data.Over ending) v = one_more v v (same v)

over_short_low : (connection : ClientLink) (v : View) → Low v (over_short connection v)
over_short_low Data.Open v =
    let w : View = record v { connection = Data.Over Endings.Clean } in
    both 0 v w (short w) (record { begins = omega arith; gives = inr (omega arith) }) (fails_low v.standing Failures.Memory w)
over_short_low Data.Free v = same v
over_short_low Data.ListenWanted v = same v
over_short_low (Data.Listening port) v = same v
over_short_low (Data.Connecting endpoint) v = same v
over_short_low (Data.Accepting port) v = same v
over_short_low (Data.Over ending) v = same v

no_port_short_low : (connection : ClientLink) (v : View) → Low v (no_port_short connection v)
no_port_short_low Data.ListenWanted v = fails_low v.standing Failures.Memory v
no_port_short_low Data.Free v = same v
no_port_short_low (Data.Listening port) v = same v
no_port_short_low (Data.Connecting endpoint) v = same v
no_port_short_low (Data.Accepting port) v = same v
no_port_short_low Data.Open v = same v
no_port_short_low (Data.Over ending) v = same v

unopened_short_low : (connection : ClientLink) (v : View) → Low v (unopened_short connection v)
unopened_short_low (Data.Connecting endpoint) v = fails_low v.standing Failures.Memory v
unopened_short_low (Data.Accepting port) v = fails_low v.standing Failures.Memory v
unopened_short_low Data.Free v = same v
unopened_short_low Data.ListenWanted v = same v
unopened_short_low (Data.Listening port) v = same v
unopened_short_low Data.Open v = same v
unopened_short_low (Data.Over ending) v = same v

if_lowers : (b : Bool) (v w : View) → AddsAtMost 1 v w → AddsAtMost 1 v (if b then v else w)
if_lowers true v w one = one_more v v (same v)
if_lowers false v w one = one

pub want_lowers : ShortAddsAClose
want_lowers v = record {
  hearing = fails_low v.standing Failures.Memory v;
  listening_lowers = λ port. if_lowers v.closing v (port_short v.connection port v) (port_short_low v.connection port v);
  opened_lowers = if_lowers v.closing v (opened_short v.connection v) (opened_short_low v.connection v);
  end_lowers = if_low v.closing v v (over_short v.connection v) (same v) (over_short_low v.connection v);
  fault_lowers = if_low v.closing v v (over_short v.connection v) (same v) (over_short_low v.connection v);
  refused_lowers = if_low v.closing v v (no_port_short v.connection v) (same v) (no_port_short_low v.connection v);
  unopened_lowers = if_low v.closing v v (unopened_short v.connection v) (same v) (unopened_short_low v.connection v);
}
