-- Room for a report: no call of the client but those that begin something makes it busy, also where it is short of memory.
use Rattle.std.proofs.Common.{◌≡◌, ℕ, List, take, Some, refl, sym, ap, ◌∙◌, subst, inl, inr, arith}
use Rattle.std.proofs.lemmas.Bool.{cases_lt}
use Rattle.std.specs.Prelude.{false, ◌≢◌}
use Rattle.ftp_endpoint.specs.declared.host.Host.{Host}
use Rattle.ftp_client_model.specs.Busy.{BusyBefore}
use Rattle.ftp_client_model.specs.Calls.{is_busy, report_of, report_of_job, reports, reported_by, gives_control, control_end, listening, port_told, data_opened, data_end, data_fault, data_closed, gives_data}
use Rattle.ftp_client_model.specs.Failing.{Client, Holds, HoldsIfRoom, HearsIfRoom, ReceivesIfRoom, listening_short, port_told_short, data_opened_short, data_end_short, data_fault_short, short}
use Rattle.ftp_client_model.specs.View.{View, Job, Idle, Waiting, Doing, Transferring, Told}
use Rattle.ftp_client_model.proofs.BusyLemmas.{only_begins_busy}
use Rattle.ftp_operation.specs.Answer.{Said}
use Rattle.laws_world.proofs.PortLemmas.{short_port_at, told_port_at}
use Rattle.laws_world.specs.World.{port_at}

-- a client that is another is busy where that one is
as_busy : (old : View) (new view : View) → new ≡ view → BusyBefore old view → BusyBefore old new
as_busy old new view is before = subst (BusyBefore old) (sym is) before

-- two numbers are the same, or not
same_or_not : {P : Type 0} (m n : ℕ) → (m ≡ n → P) → (m ≢ n → P) → P
same_or_not m n same other = elim (cases_lt m n) [
  | inl less ↦ other (λ is. absurd (omega (arith, less, is)))
  | inr ge ↦ elim (cases_lt n m) [
    | inl more ↦ other (λ is. absurd (omega (arith, more, is)))
    | inr le ↦ same (omega (arith, ge, le))
  ]
]

-- a call that takes no memory
holds_busy : (old new : Client) (view : View) → Holds old new view → BusyBefore old.view view → BusyBefore old.view new.view
holds_busy old new view holds before = as_busy old.view new.view view holds.0 before

-- one that may take some, and may be refused it
room_busy : (old new : Client) (view short : View) → HoldsIfRoom old new view short → BusyBefore old.view view → BusyBefore old.view short → BusyBefore old.view new.view
room_busy old new view short holds before behind =
    same_or_not new.refusals old.refusals (λ same. as_busy old.view new.view view (holds.0 same) before) (λ other. as_busy old.view new.view short (holds.1 other) behind)

-- ---- each call

pub control_out_busy : (old new : Client) (count : ℕ) → Holds old new (gives_control count old.view) → BusyBefore old.view new.view
control_out_busy old new count holds = holds_busy old new (gives_control count old.view) holds ((only_begins_busy old.view).calls.giving count)

pub control_end_busy : (old new : Client) → Holds old new (control_end old.view) → BusyBefore old.view new.view
control_end_busy old new holds = holds_busy old new (control_end old.view) holds (only_begins_busy old.view).calls.left

pub data_closed_busy : (old new : Client) → Holds old new (data_closed old.view) → BusyBefore old.view new.view
data_closed_busy old new holds = holds_busy old new (data_closed old.view) holds (only_begins_busy old.view).calls.closed

-- a client that is told a port of the pair is told that it is there
pub listening_moves : (old new : Client) (port k : ℕ) → port ≡ port_at k → HoldsIfRoom old new (port_told port old.view) (port_told_short port old.view)
    → HoldsIfRoom old new (listening (port_at k) old.view) (listening_short (port_at k) old.view)
listening_moves old new port k is holds = (
  λ same. holds.0 same ∙ ap (λ p. port_told p old.view) is ∙ told_port_at k old.view,
  λ other. holds.1 other ∙ ap (λ p. port_told_short p old.view) is ∙ short_port_at k old.view,
)

pub listening_busy : (old new : Client) (port k : ℕ) → port ≡ port_at k → HoldsIfRoom old new (port_told port old.view) (port_told_short port old.view)
    → BusyBefore old.view new.view
listening_busy old new port k is holds =
    let v = only_begins_busy old.view in
    room_busy old new (listening (port_at k) old.view) (listening_short (port_at k) old.view) (listening_moves old new port k is holds)
    (v.calls.told_port (port_at k)) (v.short_calls.told_port (port_at k))

pub data_opened_busy : (old new : Client) (host : Host) → HoldsIfRoom old new (data_opened host old.view) (data_opened_short old.view) → BusyBefore old.view new.view
data_opened_busy old new host holds =
    let v = only_begins_busy old.view in room_busy old new (data_opened host old.view) (data_opened_short old.view) holds (v.calls.opened host) v.short_calls.opened

pub data_end_busy : (old new : Client) → HoldsIfRoom old new (data_end old.view) (data_end_short old.view) → BusyBefore old.view new.view
data_end_busy old new holds =
    let v = only_begins_busy old.view in room_busy old new (data_end old.view) (data_end_short old.view) holds v.calls.ended v.short_calls.ended

pub data_fault_busy : (old new : Client) → HoldsIfRoom old new (data_fault old.view) (data_fault_short old.view) → BusyBefore old.view new.view
data_fault_busy old new holds =
    let v = only_begins_busy old.view in room_busy old new (data_fault old.view) (data_fault_short old.view) holds v.calls.broken v.short_calls.broken

pub data_out_busy : (old new : Client) (count : ℕ) → HoldsIfRoom old new (gives_data count old.view) (short old.view) → BusyBefore old.view new.view
data_out_busy old new count holds =
    let v = only_begins_busy old.view in room_busy old new (gives_data count old.view) (short old.view) holds (v.calls.carrying count) v.short_calls.wanting

pub hears_busy : (old new : Client) (piece : List ℕ) (count : ℕ) → HearsIfRoom old new piece count → BusyBefore old.view new.view
hears_busy old new piece count holds =
    let v = only_begins_busy old.view in
    same_or_not new.refusals old.refusals (λ same. as_busy old.view new.view _ (holds.0 same).0 (v.calls.hearing (take count piece)))
    (λ other. v.short_calls.hearing piece count new.view (holds.1 other))

pub receives_busy : (old new : Client) (piece : List ℕ) (count : ℕ) → ReceivesIfRoom old new piece count → BusyBefore old.view new.view
receives_busy old new piece count holds =
    let v = only_begins_busy old.view in
    same_or_not new.refusals old.refusals (λ same. as_busy old.view new.view _ (holds.0 same).0 (v.calls.receiving (take count piece)))
    (λ other. v.short_calls.receiving piece count new.view (holds.1 other))

-- ---- the report

-- a client whose report is taken is busy no more
free_by : (job : Job) (v : View) (answer : Said) → v.job ≡ job → report_of_job job ≡ Some answer → is_busy (reported_by job v) ≡ false
free_by Idle v answer is told = absurd (cc (told))
free_by (Waiting op) v answer is told = absurd (cc (told))
free_by (Doing op step) v answer is told = absurd (cc (told))
free_by (Transferring op transfer) v answer is told = absurd (cc (told))
free_by (Told given) v answer is told = refl

pub taken_is_free : (v : View) (answer : Said) → report_of v ≡ Some answer → is_busy (reports v) ≡ false
taken_is_free v answer told = free_by v.job v answer refl told
