-- An order of turns over connections in memory is one in which each action can happen.
use Rattle.std.proofs.Common.{inl, inr, [], ◌∷◌, subst}
use Rattle.laws_drivers.specs.control.Between.{Between, Can, Client, Far, Near, Server, Who}
use Rattle.laws_drivers.specs.control.Touches.{Touch, touch_in}
use Rattle.ftp_pair_memory.specs.streams.Order.{CanGo}
use Rattle.laws_sessions.specs.passive.Laws.{IsUnbroken, WentHappens}

-- what is no break can happen
pub can : (who : Who) (touch : Touch) (old new : Between) → CanGo who touch old new → IsUnbroken touch → Can who touch old new
can who touch old new (inl is) unbroken = is
can who touch old new (inr none) unbroken = absurd (subst IsUnbroken none.0 unbroken)

pub went_happens : WentHappens
went_happens [] now went unbroken = went
went_happens (Server action ∷ before) now went unbroken =
    (went.0, went_happens before went.0 went.1 unbroken.0, can Far (touch_in action) went.0 now went.2 unbroken.1)
went_happens (Client action ∷ before) now went unbroken =
    (went.0, went_happens before went.0 went.1 unbroken.0, can Near (touch_in action) went.0 now went.2 unbroken.1)
