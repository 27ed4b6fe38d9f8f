-- A port, the end of the control connection and a close that is done make no more to do for the server, and no more is owed.
use Rattle.std.proofs.Common.{◌≡◌, ℕ, ◌+◌, ◌<◌, ◌≤◌, ◌⊎◌, inl, inr, [], ◌++◌, length, Bool, true, false, refl, sym, ap, subst, append-nil, arith}
use Rattle.std.specs.Prelude.{if◌then◌else◌}
use Rattle.ftp_ends.proofs.Counts.{one_if, one_close}
use Rattle.ftp_server_model.specs.Bounds.{stages_left, to_begin, still_to_give}
use Rattle.ftp_server_model.specs.Calls.{close_step, control_end, data_closed, given_by, listening, listening_step, listening_turn, to_give}
use Rattle.ftp_server_model.specs.Endpoint.{is_standing}
use Rattle.ftp_server_model.specs.Machine.{later, turned}
use Rattle.ftp_server_model.specs.View.{Transfer, View}
use Rattle.ftp_server_model.specs.declared.session.PassiveVerb.TheVariants as Asking
use Rattle.ftp_server_model.specs.declared.session.ServerLink.{ServerLink}
use Rattle.ftp_server_model.specs.declared.session.ServerLink.TheVariants as Data
use Rattle.ftp_server_model.specs.declared.session.Transfer.TheVariants as Transfers
use Rattle.laws_settling.specs.Steady.{FarIsApart}
use Rattle.laws_settling.proofs.Order.{FarLow, far_unqueued}
use Rattle.ftp_server_model.proofs.ServerBounds.{Finds, nothing, that, finds, waited_cases}

-- ---- nothing is to be given where nothing stands

-- what does not stand gives nothing
given_none : (connection : ServerLink Transfer) → is_standing connection ≡ false → given_by connection ≡ []
given_none (Data.Transferring (Transfers.Download rest)) is = absurd (cc)
given_none (Data.Transferring (Transfers.Listing rest)) is = absurd (cc)
given_none connection is = refl

-- nor while a close is wanted
if_none : (closing : Bool) (connection : ServerLink Transfer) → is_standing connection ≡ false → given_by (if closing then Data.Free else connection) ≡ []
if_none true connection is = refl
if_none false connection is = given_none connection is

-- so a server whose connection does not stand has nothing to give
pub nothing_to_give : (v : View) → is_standing v.session.connection ≡ false → to_give v ≡ []
nothing_to_give v is = if_none v.session.closing v.session.connection is

-- ---- then the line that waits

-- it is acted on, and less is to begin, or it waits on
pub later_cases : (v : View) → (to_begin (later v) < to_begin v) ⊎ (later v ≡ v)
later_cases v = waited_cases v.waiting v refl

-- the line that waits makes no more to do
pub then_later : (old step : View) → FarLow old step → FarLow old (later step)
then_later old step low = elim (later_cases step) [
  | inl less ↦ record { begins = omega (arith, less, low.begins); gives = inl (omega (arith, less, low.begins)) }
  | inr same ↦ subst (FarLow old) (sym same) low
]

-- ---- a port is told

-- less to begin is enough
falls : (v new : View) → to_begin new < to_begin v → FarLow v new
falls v new less = record { begins = omega (arith, less); gives = inl less }

-- a turn that does and says nothing
unsaid : (v : View) → FarLow v (record v { owed = v.owed ++ [] })
unsaid v = let none : length (v.owed ++ []) ≡ length v.owed = ap length (append-nil v.owed) in record { begins = omega arith; gives = inr (omega (arith, none), omega (arith, none)) }

-- a port told to what awaits one
told : (port : ℕ) (connection : ServerLink Transfer) (v : View) → v.session.connection ≡ connection → FarLow v (turned (listening_turn connection v.context port v.session) v)
told port (Data.Asked Asking.Pasv) v is = let here : stages_left v.session.connection ≡ 3 = ap stages_left is in falls v _ (omega (arith, here))
told port (Data.Asked Asking.Epsv) v is = let here : stages_left v.session.connection ≡ 3 = ap stages_left is in falls v _ (omega (arith, here))
told port connection v is = unsaid v

-- the same, of what a call finds
by_found : (port : ℕ) (v : View) → Finds v → FarLow v (listening_step port v)
by_found port v (nothing e) =
    let P : ServerLink Transfer → Type 0 = λ connection. FarLow v (turned (listening_turn connection v.context port v.session) v) in subst P (sym e) (unsaid v)
by_found port v (that e) =
    let P : ServerLink Transfer → Type 0 = λ connection. FarLow v (turned (listening_turn connection v.context port v.session) v) in
    subst P (sym e) (told port v.session.connection v refl)

-- a port is told
pub far_listening : (port : ℕ) (v : View) → FarLow v (listening port v)
unfolding listening
far_listening port v = then_later v (listening_step port v) (by_found port v (finds v))

-- ---- the end of the control connection

-- the end of the control connection makes no more to do
pub far_ends : (v : View) → FarLow v (control_end v)
unfolding control_end
far_ends v =
    let none : length (to_give (control_end v)) ≡ 0 = ap length (nothing_to_give (control_end v) refl) in
    record {
      begins = omega arith;
      gives = inr (omega (arith, one_close v.session.closing (is_standing v.session.connection)), omega (arith, none));
    }

-- ---- a close

-- less is to begin, or one less is to be given, and no more is owed
abbrev pub FarPays : (old new : View) → Type 0
FarPays old new = (to_begin new < to_begin old) ⊎ ((to_begin new ≡ to_begin old) × (still_to_give new + 1 ≤ still_to_give old) × (far_unqueued new ≤ far_unqueued old))

-- a close that is done, before the line that waits
step_pays : (v : View) → v.session.closing ≡ true → FarIsApart v → FarPays v (close_step v)
step_pays v is a =
    let one : one_if v.session.closing ≡ 1 = ap one_if is in
    let none : length (to_give (close_step v)) ≡ 0 = ap length (nothing_to_give (close_step v) (a is)) in
    inr (refl, omega (arith, one), omega (arith, none))

-- and behind it
pub far_pays : (v : View) → v.session.closing ≡ true → FarIsApart v → FarPays v (data_closed v)
unfolding data_closed
far_pays v is a = elim (later_cases (close_step v)) [
  | inl less ↦ inl (omega (arith, less))
  | inr same ↦ subst (FarPays v) (sym same) (step_pays v is a)
]
