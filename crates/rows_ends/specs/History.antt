-- What was asked of the rows' data connections, as the definitions of a drive have it (RFC 959, section 3.2).
use Rattle.std.specs.Prelude.{◌≡◌, ℕ, Bool, true, false, ⊤, List, [], ◌∷◌, map, Option, None, Some, Vec}
use Rattle.ftp_ports.specs.Asking.{Asked}
use Rattle.ftp_ports.specs.Asking as Asks
use Rattle.rows_ends.specs.declared.history.PortCall.{PortCall}
use Rattle.rows_ends.specs.declared.history.PortCall.TheVariants as Actions

-- an action, and the octets that were written by then; what is left to be read is not told
abbrev pub asked_by_call : PortCall → List ℕ → Asked
asked_by_call (Actions.Listened port) written = Asks.Listened port
asked_by_call (Actions.Came host) written = Asks.Came host None (Some written)
asked_by_call (Actions.Connected endpoint) written = Asks.Connected endpoint None (Some written)
asked_by_call Actions.NotCame written = Asks.NotCame
asked_by_call (Actions.NotConnected endpoint) written = Asks.NotConnected endpoint
asked_by_call Actions.Ended written = Asks.Ended None (Some written)
asked_by_call Actions.Reset written = Asks.Reset None (Some written)
asked_by_call Actions.Shut written = Asks.Shut
asked_by_call Actions.Lost written = Asks.Lost

-- the actions of a log, the last one first, before those of earlier
abbrev pub asked_after : {A : Type 0} → List Asked → List (PortCall × Vec ℕ A) → List Asked
asked_after before [] = before
asked_after before (action ∷ actions) = asked_after (asked_by_call action.0 action.1.items ∷ before) actions

abbrev pub asked_in : {A : Type 0} → List (PortCall × Vec ℕ A) → List Asked
asked_in actions = asked_after [] actions

-- the rows' list has the actions of the log, unless memory was refused for one
abbrev pub ListsActions : {A : Type 0} → (is_short : Bool) → List PortCall → List (PortCall × Vec ℕ A) → Type 0
ListsActions is_short said actions = is_short ≡ false → said ≡ map (λ action. action.0) actions
