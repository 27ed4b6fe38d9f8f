-- Actions that led from here to there, and were such all along.
use Rattle.std.proofs.Common.{List, [], ◌∷◌, ◌++◌, sym, subst}
use Rattle.ftp_ports.specs.Actions.{Action, Led, Stand}
use Rattle.ftp_ports.specs.Side.{Side}
use Rattle.laws_drivers.specs.events.Actions.{Along}

module _ {side : Side} (Is : Action side → (old new : side.End) → Type 0) where
  abbrev pub Went : (actions : List (Action side)) (start now : Stand side) → Type 0
  Went actions start now = (led : Led actions start now) × Along Is actions start now led

  -- one list of actions after another
  pub went_then : (more before : List (Action side)) (start mid now : Stand side) → Went more mid now → Went before start mid → Went (more ++ before) start now
  went_then [] before start mid now second first = subst (λ n. Went before start n) (sym second.0) first
  went_then (action ∷ more) before start mid now second first =
      let rest = went_then more before start mid second.0.0 (second.0.1, second.1.0) first in
      ((second.0.0, rest.0, second.0.2), (rest.1, second.1.1))

-- actions that are such are those, too, where each action is
module _ {side : Side} (Is Too : Action side → (old new : side.End) → Type 0)
    (too : (action : Action side) (old new : side.End) → Is action old new → Too action old new) where
  pub along_too : (actions : List (Action side)) (start now : Stand side) (led : Led actions start now) → Along Is actions start now led
      → Along Too actions start now led
  along_too [] start now led along = tt
  along_too (action ∷ before) start now led along =
      (along_too before start led.0 led.1 along.0, too action led.0.owner now.owner along.1)
