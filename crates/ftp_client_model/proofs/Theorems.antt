-- A client is fit at the start and after every call, and so it never holds much.
use Rattle.std.proofs.Common.{◌≡◌, ℕ, ◌<◌, List, [], ◌∷◌, Bool, true, false, ◌&&◌, Option, Some, None, sym, arith, length, true≢false}
use Rattle.std.specs.Prelude.{◌==◌, nat_le, if◌then◌else◌}
use Rattle.std.proofs.lemmas.Bool.{and_parts, cond_both, leb-true}
use Rattle.ftp_operation.specs.Operation.{can_be_sent}
use Rattle.ftp_operation.specs.declared.op.Op.{Op}
use Rattle.ftp_operation.specs.declared.op.Op.TheVariants as Ops
use Rattle.ftp_path.specs.Path.{is_path_text}
use Rattle.ftp_client_model.specs.Calls.{begun, control_end, hears_octet, is_busy, is_sound, may_hear, may_receive, receives_octet, reply_limit, starts, uploads}
use Rattle.ftp_client_model.specs.Failing.{begun_short, listen_refused_short, listening_short, no_port_short, opened_short, over_short, port_short, short, starts_short, uploads_short}
use Rattle.ftp_client_model.specs.Held.{ClientCall, Start, BeginUpload, Hear, DataHear, ControlOut, DataOut, Listening, DataOpened, Report, ControlEnd, ListenRefused, DataRefused, DataEnd, DataFault, DataClosed, Failing, ClientHoldsLittle, AreTypedCalls, IsTypedCall, called, called_all, failed_call}
use Rattle.ftp_client_model.specs.Tries.{OverBreaks, Run, counts_as_file, first_try, run_of, whole_put}
use Rattle.ftp_client_model.specs.View.{Waiting, View}
use Rattle.ftp_client_model.specs.declared.client.ClientLink.{ClientLink}
use Rattle.ftp_client_model.specs.declared.client.ClientLink.TheVariants as Data
use Rattle.ftp_client_model.specs.declared.client.Ending.TheVariants as Endings
use Rattle.ftp_client_model.specs.declared.client.Failure.TheVariants as Failures
use Rattle.ftp_client_model.specs.Fit.{IsFit, IsSendableRun}
use Rattle.ftp_client_model.specs.Laws.{CallsStayFit, FitHoldsLittle, StartIsFit}
use Rattle.ftp_client_model.proofs.CallLemmas.{begun_fits, broke_fits, closed_fits, connected_fits, control_fits, ended_fits, gives_fits, hears_fits, idle_of, opened_fits, port_told_fits, receives_fits, refused_fits, refused_port_fits, reports_fits, unless_fits, waits_fits}
use Rattle.ftp_client_model.proofs.DialogueLemmas.{fails_fits}
use Rattle.ftp_ends.proofs.ReadLemmas.{none_short}

-- ---- start

-- where the first try of an upload over breaks can be sent, its path is one
pub first_path : (u : OverBreaks) → can_be_sent (first_try u) ≡ true → IsSendableRun (Some (run_of u))
first_path u can = by (counts_as_file u.how.representation) can
  where
    by : (b : Bool) → can_be_sent (if b then whole_put u else Ops.MakeDir []) ≡ true → is_path_text u.path ≡ true
    by true can = can
    by false can = absurd (true≢false (sym can))

pub starts_fits : (op : Op (List ℕ)) (v : View) → IsFit v → is_busy v ≡ false → IsFit (starts op v)
unfolding starts
starts_fits op v k idle = begun_fits None op v (idle_of v.job idle) (λ can. tt) k

pub uploads_fits : (u : OverBreaks) (v : View) → IsFit v → is_busy v ≡ false → IsFit (uploads u v)
unfolding uploads
uploads_fits u v k idle = begun_fits (Some (run_of u)) (first_try u) v (idle_of v.job idle) (first_path u) k

-- ---- where a growth was refused

short_fits : (v : View) → IsFit v → IsFit (short v)
short_fits v k = fails_fits Failures.Memory v k

pub begun_short_fits : (run : Option Run) (op : Op (List ℕ)) (v : View) → is_busy v ≡ false → (can_be_sent op ≡ true → IsSendableRun run) → IsFit v → IsFit (begun_short run op v)
begun_short_fits run op v idle sendable k =
    cond_both (can_be_sent op && is_sound v.standing) (short (record v { job = Waiting op; run = run })) (begun run op v) IsFit
    (λ is. let can = (and_parts (can_be_sent op) (is_sound v.standing) is).0 in short_fits (record v { job = Waiting op; run = run }) (waits_fits run op v (idle_of v.job idle) (sendable can) can k))
    (λ is. begun_fits run op v (idle_of v.job idle) sendable k)

port_short_fits : (connection : ClientLink) (port : ℕ) (v : View) → port < 65536 → IsFit v → IsFit (port_short connection port v)
port_short_fits Data.ListenWanted port v small k = short_fits (record v { connection = Data.Listening port }) (connected_fits (Data.Listening port) v small tt k)
port_short_fits Data.Free port v small k = k
port_short_fits (Data.Listening other) port v small k = k
port_short_fits (Data.Connecting endpoint) port v small k = k
port_short_fits (Data.Accepting other) port v small k = k
port_short_fits Data.Open port v small k = k
port_short_fits (Data.Over ending) port v small k = k

no_port_short_fits : (connection : ClientLink) (v : View) → IsFit v → IsFit (no_port_short connection v)
no_port_short_fits Data.ListenWanted v k = short_fits v k
no_port_short_fits Data.Free v k = k
no_port_short_fits (Data.Listening port) v k = k
no_port_short_fits (Data.Connecting endpoint) v k = k
no_port_short_fits (Data.Accepting port) v k = k
no_port_short_fits Data.Open v k = k
no_port_short_fits (Data.Over ending) v k = k

-- a client that is short of memory as it is told of no port stays fit
pub no_port_lost : (v : View) → IsFit v → IsFit (listen_refused_short v)
no_port_lost v k = unless_fits (λ v. no_port_short v.connection v) v k (no_port_short_fits v.connection v k)

opened_short_fits : (connection : ClientLink) (v : View) → IsFit v → IsFit (opened_short connection v)
opened_short_fits (Data.Connecting endpoint) v k = short_fits (record v { connection = Data.Open }) (connected_fits Data.Open v tt tt k)
opened_short_fits (Data.Accepting port) v k = short_fits (record v { connection = Data.Open }) (connected_fits Data.Open v tt tt k)
opened_short_fits Data.Free v k = k
opened_short_fits Data.ListenWanted v k = k
opened_short_fits (Data.Listening port) v k = k
opened_short_fits Data.Open v k = k
opened_short_fits (Data.Over ending) v k = k

pub over_short_fits : (connection : ClientLink) (v : View) → IsFit v → IsFit (over_short connection v)
over_short_fits Data.Open v k = short_fits (record v { connection = Data.Over Endings.Clean }) (connected_fits (Data.Over Endings.Clean) v tt tt k)
over_short_fits Data.Free v k = k
over_short_fits Data.ListenWanted v k = k
over_short_fits (Data.Listening port) v k = k
over_short_fits (Data.Connecting endpoint) v k = k
over_short_fits (Data.Accepting port) v k = k
over_short_fits (Data.Over ending) v k = k

pub failed_fits : (call : ClientCall) (v : View) → IsTypedCall call → IsFit v → IsFit (failed_call call v)
failed_fits (Start op) v typed k = cond_both (is_busy v) v (starts_short op v) IsFit (λ busy. k) (λ idle. begun_short_fits None op v idle (λ can. tt) k)
failed_fits (BeginUpload u) v typed k = cond_both (is_busy v) v (uploads_short u v) IsFit (λ busy. k) (λ idle. begun_short_fits (Some (run_of u)) (first_try u) v idle (first_path u) k)
failed_fits (Listening port) v typed k = cond_both (port == 0) (listen_refused_short v) (listening_short port v) IsFit (λ is. no_port_lost v k)
    (λ is. unless_fits (λ v. port_short v.connection port v) v k (port_short_fits v.connection port v typed k))
failed_fits (DataOpened host) v typed k = unless_fits (λ v. opened_short v.connection v) v k (opened_short_fits v.connection v k)
failed_fits DataEnd v typed k = unless_fits (λ v. over_short v.connection v) v k (over_short_fits v.connection v k)
failed_fits (Hear octet) v typed k = short_fits v k
failed_fits (DataHear octet) v typed k = short_fits v k
failed_fits (ControlOut count) v typed k = k
failed_fits (DataOut count) v typed k = k
failed_fits Report v typed k = k
failed_fits ControlEnd v typed k = k
failed_fits ListenRefused v typed k = k
failed_fits DataRefused v typed k = k
failed_fits DataFault v typed k = k
failed_fits DataClosed v typed k = k
failed_fits (Failing call) v typed k = k

-- ---- all calls

pub calls_stay_fit : CallsStayFit
unfolding control_end
calls_stay_fit (Start op) v typed k = cond_both (is_busy v) v (starts op v) IsFit (λ busy. k) (λ idle. starts_fits op v k idle)
calls_stay_fit (BeginUpload u) v typed k = cond_both (is_busy v) v (uploads u v) IsFit (λ busy. k) (λ idle. uploads_fits u v k idle)
calls_stay_fit (Hear octet) v typed k = cond_both (may_hear v) (hears_octet v octet) v IsFit (λ may. hears_fits v octet may k) (λ may. k)
calls_stay_fit (DataHear octet) v typed k = cond_both (may_receive v) (receives_octet v octet) v IsFit (λ may. receives_fits v octet k) (λ may. k)
calls_stay_fit (ControlOut count) v typed k = control_fits count v k
calls_stay_fit (DataOut count) v typed k = gives_fits count v k
calls_stay_fit (Listening port) v typed k = port_told_fits port v typed k
calls_stay_fit (DataOpened host) v typed k = opened_fits host v k
calls_stay_fit Report v typed k = reports_fits v k
calls_stay_fit ControlEnd v typed k = fails_fits Failures.Lost v k
calls_stay_fit ListenRefused v typed k = refused_port_fits v k
calls_stay_fit DataRefused v typed k = refused_fits v k
calls_stay_fit DataEnd v typed k = ended_fits v k
calls_stay_fit DataFault v typed k = broke_fits v k
calls_stay_fit DataClosed v typed k = closed_fits v k
calls_stay_fit (Failing call) v typed k = failed_fits call v typed k

pub start_is_fit : StartIsFit
start_is_fit user pass here peer named worded typed = record {
  sound = record { user_fits = named; pass_fits = worded; host = typed; sendable = tt; port = tt; reading = none_short reply_limit; reply = omega arith };
  sendable = tt;
  calm = tt;
  tied = tt;
  room = omega arith;
}

pub fit_holds_little : FitHoldsLittle
fit_holds_little stored v few k =
    let s = k.sound in
    let name = and_parts (nat_le 1 (length v.user) && nat_le (length v.user) 255) _ s.user_fits in
    let user = leb-true (length v.user) 255 (and_parts (nat_le 1 (length v.user)) (nat_le (length v.user) 255) name.0).1 in
    let pass = leb-true (length v.pass) 255 (and_parts (nat_le (length v.pass) 255) _ s.pass_fits).0 in
    omega (arith, few, user, pass, s.reading.text, s.reading.count, s.reply, k.room)

all_fit : (calls : List ClientCall) (v : View) → AreTypedCalls calls → IsFit v → IsFit (called_all calls v)
all_fit [] v typed k = k
all_fit (call ∷ calls) v typed k = all_fit calls (called call v) typed.1 (calls_stay_fit call v typed.0 k)

pub client_holds_little : ClientHoldsLittle
client_holds_little user pass here peer calls stored named worded typed ports few = fit_holds_little stored _ few (all_fit calls _ ports (start_is_fit user pass here peer named worded typed))
