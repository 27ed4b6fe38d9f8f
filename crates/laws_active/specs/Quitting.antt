-- Drives of which the client's put and fetched files over data connections that either dialled, and whose program writes QUIT after the last one, by no
-- action of the client (RFC 959, section 4.1.1).
use Rattle.laws_drivers.specs.events.Quitting.{QuitAreTheDirectRun}
use Rattle.laws_active.specs.Claims.{no_faults_either_way}

-- the answers that a client's drives gave, and the map that the server's drive left, are those of the operations run directly
abbrev pub EitherThatQuitAreTheDirectRun : Type 0
EitherThatQuitAreTheDirectRun = QuitAreTheDirectRun no_faults_either_way
