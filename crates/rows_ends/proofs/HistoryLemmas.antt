-- One action more.
use Rattle.std.proofs.Common.{◌≡◌, ℕ, List, [], ◌∷◌, ◌++◌, Vec, refl}
use Rattle.ftp_ports.specs.Asking.{Asked}
use Rattle.rows_ends.specs.declared.history.PortCall.{PortCall}
use Rattle.rows_ends.specs.History.{asked_after, asked_by_call}

-- what is asked last comes first
pub asked_last : {A : Type 0} (before : List Asked) (actions : List (PortCall × Vec ℕ A)) (action : PortCall × Vec ℕ A)
    → asked_after before (actions ++ action ∷ []) ≡ asked_by_call action.0 action.1.items ∷ asked_after before actions
asked_last before [] action = refl
asked_last before (first ∷ actions) action = asked_last (asked_by_call first.0 first.1.items ∷ before) actions action
