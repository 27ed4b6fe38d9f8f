-- What is claimed beside `Claims` of `laws_world`: where no delivery of 1 to 4,096 octets, no opening and no end is possible, nothing is in flight.
use Rattle.laws_world.specs.Claims.{Always}
use Rattle.laws_world.specs.Events.{IsQuiet}
use Rattle.laws_world.specs.Still.{IsStill}

-- where nothing moves that takes no memory, nothing is in flight: no queue is full and refused
abbrev pub RestIsQuiet : Type 0
RestIsQuiet = Always (λ read b events begun w. IsStill w → IsQuiet w)
