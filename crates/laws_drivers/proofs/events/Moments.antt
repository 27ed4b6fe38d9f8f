-- What the actions of a client begin and report: each operation by itself, and in the midst of a drive none.
use Rattle.std.proofs.Common.{◌≡◌, ℕ, List, [], ◌∷◌, ◌++◌, Some, refl, ap, ◌∙◌, append-nil}
use Rattle.ftp_ports.specs.Actions.{Action, Other}
use Rattle.ftp_ports.specs.Machine.{Aside}
use Rattle.ftp_client_driver.specs.Side.{Reporting, Starting, client_side}
use Rattle.laws_drivers.specs.control.Alone.{reports_of, reports_in}
use Rattle.laws_drivers.specs.events.Actions.{AreMidst, IsMidst}
use Rattle.laws_drivers.specs.events.Moments.{begun_at, begun_by, number_in}
use Rattle.laws_world.specs.Agreement.{AreSingle, Order, Single, Tries}

-- no action begins an upload over breaks as an order of its own
by_single : (moment : ℕ) (action : Action client_side) → AreSingle (begun_by moment action)
by_single moment (Other (Aside (Starting op))) = tt
by_single moment action = tt

-- orders after orders
both_single : (front given : List Order) → AreSingle front → AreSingle given → AreSingle (front ++ given)
both_single [] given one other = other
both_single (Single op moment ∷ front) given one other = both_single front given one other
both_single (Tries upload moment ∷ front) given one other = absurd one

-- none of all actions does
pub in_single : (moments : ℕ → ℕ) (actions : List (Action client_side)) → AreSingle (begun_at moments actions)
in_single moments [] = tt
in_single moments (action ∷ before) =
    both_single (begun_at moments before) (begun_by (moments (number_in before)) action) (in_single moments before) (by_single (moments (number_in before)) action)

-- ---- in the midst

-- an action in the midst begins none, and reports none
midst_number : (action : Action client_side) (before : List (Action client_side)) → IsMidst action → number_in (action ∷ before) ≡ number_in before
midst_number (Other (Aside (Starting op))) before midst = absurd midst
midst_number action before midst = refl

midst_none : (moment : ℕ) (action : Action client_side) → IsMidst action → begun_by moment action ≡ []
midst_none moment (Other (Aside (Starting op))) midst = absurd midst
midst_none moment action midst = refl

midst_said : (action : Action client_side) → IsMidst action → reports_of action ≡ []
midst_said (Other (Aside (Reporting (Some said)))) midst = absurd midst
midst_said action midst = refl

-- nor do actions in the midst: as many are begun
pub midst_numbers : (actions before : List (Action client_side)) → AreMidst actions → number_in (actions ++ before) ≡ number_in before
midst_numbers [] before midst = refl
midst_numbers (action ∷ actions) before midst = midst_number action (actions ++ before) midst.1 ∙ midst_numbers actions before midst.0

-- the same are begun
pub midst_begins : (moments : ℕ → ℕ) (actions before : List (Action client_side)) → AreMidst actions → begun_at moments (actions ++ before) ≡ begun_at moments before
midst_begins moments [] before midst = refl
midst_begins moments (action ∷ actions) before midst =
    ap (λ l. begun_at moments (actions ++ before) ++ l) (midst_none (moments (number_in (actions ++ before))) action midst.1)
    ∙ append-nil (begun_at moments (actions ++ before)) ∙ midst_begins moments actions before midst.0

-- and the same are reported
pub midst_reports : (actions before : List (Action client_side)) → AreMidst actions → reports_in (actions ++ before) ≡ reports_in before
midst_reports [] before midst = refl
midst_reports (action ∷ actions) before midst =
    ap (λ l. reports_in (actions ++ before) ++ l) (midst_said action midst.1) ∙ append-nil (reports_in (actions ++ before)) ∙ midst_reports actions before midst.0
