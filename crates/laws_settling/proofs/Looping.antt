-- A loop of turns keeps its world steady, and its world's height falls, whatever reads the server's lines.
use Rattle.std.proofs.Common.{ℕ, ◌<◌, true}
use Rattle.std.proofs.Math.Logic.{∥∥₁_prop, ∥∥₁_elim}
use Rattle.std.proofs.Props.{props}
use Rattle.ftp_server_model.proofs.LinesDecided.{reading_exists}
use Rattle.laws_world.specs.World.{World}
use Rattle.laws_settling.specs.Laws.{LoopsEnd}
use Rattle.laws_settling.specs.Steady.{IsSteadyWorld}
use Rattle.laws_settling.specs.Turns.{TurnHappened}
use Rattle.laws_settling.proofs.Heights.{height, lowers}
use Rattle.laws_settling.proofs.Steady.{happens_steady}

-- the height of a world, by the reading that there is
abbrev pub tall : World → ℕ
tall w = height reading_exists.0 w

-- there is one way to be less
less_once : (m n : ℕ) → IsProp (m < n)
less_once m n = hlevel props

-- the world stays steady
pub still_steady : (old new : World) → TurnHappened old new → ∥ IsSteadyWorld old ∥₁ → ∥ IsSteadyWorld new ∥₁
still_steady old new t was = ∥∥₁_elim was ∥∥₁_prop (λ s. ∣ happens_steady reading_exists.0 t.0 true old new s (t.2 reading_exists.0 reading_exists.1) ∣₁)

-- its height falls
pub falls : (old new : World) → TurnHappened old new → ∥ IsSteadyWorld old ∥₁ → tall new < tall old
falls old new t was = ∥∥₁_elim was (less_once _ _) (λ s. lowers reading_exists.0 t.0 old new s t.1 (t.2 reading_exists.0 reading_exists.1))

-- so a loop of turns has its measure
pub loops_end : LoopsEnd
loops_end = (tall, λ old new was t. record { steady = still_steady old new t was; less = falls old new t was })
