-- What an end does to a data connection in memory, as what lies between it and its peer has it.
use Rattle.std.proofs.Common.{◌≡◌, ◌∙◌, ℕ, List, [], ◌++◌, Some, refl, sym, ap, append_assoc}
use Rattle.ftp_endpoint.specs.declared.endpoint.Endpoint.{Endpoint}
use Rattle.ftp_endpoint.specs.declared.host.Host.{Host}
use Rattle.laws_drivers.specs.control.Between.{Awaits, Between, Can, Far, Has, Has_ended, Has_lost, Is_called, IsOver, IsStanding, Near, Ways, Who, hold_of}
use Rattle.laws_drivers.specs.control.Touches as touches
use Rattle.laws_world.specs.World.{port_at}
use Rattle.ftp_pair_memory.specs.streams.LinkState.{LinkState, between_at, called, dialling, listening}
use Rattle.ftp_pair_memory.specs.streams.Claims.{ways_at}

-- it has none, or no more
pub over_at : (who : Who) (own peer : LinkState) (control : Ways) → IsOver own.hold → IsOver (hold_of who (between_at who own peer control))
over_at Near own peer control over = over
over_at Far own peer control over = over

pub listens_at : (who : Who) (own peer : LinkState) (control : Ways) → IsOver own.hold
    → Can who (touches.Listens (Some (port_at own.listens))) (between_at who own peer control) (between_at who (listening own) peer control)
listens_at Near own peer control over = (over, refl)
listens_at Far own peer control over = (over, refl)

pub accepts_at : (who : Who) (own peer : LinkState) (control : Ways) (host : Host) → own.hold ≡ Is_called
    → Can who (touches.Accepts host) (between_at who own peer control) (between_at who (record own { hold = Has }) peer control)
accepts_at Near own peer control host is = (is, refl)
accepts_at Far own peer control host is = (is, refl)

pub dials_at : (who : Who) (own peer other : LinkState) (control : Ways) (endpoint : Endpoint) → IsOver own.hold → peer.hold ≡ Awaits endpoint.port
    → Can who (touches.Dials endpoint) (between_at who own peer control) (between_at who (dialling own) (called other) control)
dials_at Near own peer other control endpoint over awaits = (over, awaits, refl)
dials_at Far own peer other control endpoint over awaits = (over, awaits, refl)

pub takes_at : (who : Who) (own peer : LinkState) (control : Ways) (octets : List ℕ) → own.hold ≡ Has
    → Can who (touches.Takes octets) (between_at who (record own { came = octets ++ own.came }) peer control) (between_at who own peer control)
takes_at Near own peer control octets has = (has, append_assoc octets own.came peer.went, refl)
takes_at Far own peer control octets has = (has, append_assoc octets own.came peer.went, refl)

pub writes_at : (who : Who) (own peer : LinkState) (control : Ways) (octets : List ℕ) → own.hold ≡ Has
    → Can who (touches.Writes octets) (between_at who own peer control) (between_at who (record own { went = own.went ++ octets }) peer control)
writes_at Near own peer control octets has =
    let at : List ℕ → Between = λ l. record {
      control = control;
      data_ways = record { to_server = l; to_client = own.came ++ peer.went };
      near = own.hold;
      far = peer.hold;
    } in
    (has, ap at (sym (append_assoc peer.came own.went octets)))
writes_at Far own peer control octets has =
    let at : List ℕ → Between = λ l. record {
      control = control;
      data_ways = record { to_server = own.came ++ peer.went; to_client = l };
      near = peer.hold;
      far = own.hold;
    } in
    (has, ap at (sym (append_assoc peer.came own.went octets)))

pub ends_at : (who : Who) (own peer : LinkState) (control : Ways) → own.hold ≡ Has
    → Can who touches.Ends (between_at who own peer control) (between_at who (record own { hold = Has_ended }) peer control)
ends_at Near own peer control has = (has, refl)
ends_at Far own peer control has = (has, refl)

pub resets_at : (who : Who) (own peer : LinkState) (control : Ways) → IsStanding own.hold
    → Can who touches.Resets (between_at who own peer control) (between_at who (record own { hold = Has_lost }) peer control)
resets_at Near own peer control stands = (stands, refl)
resets_at Far own peer control stands = (stands, refl)

-- its end is told, where the peer ended it and all was read
pub told_at : (who : Who) (own peer : LinkState) (control : Ways) → peer.hold ≡ Has_ended → own.came ≡ [] → peer.went ≡ []
    → Can who touches.ToldEnd (between_at who own peer control) (between_at who own peer control)
told_at Near own peer control ended came went = (ended, ap (λ l. l ++ peer.went) came ∙ went, refl)
told_at Far own peer control ended came went = (ended, ap (λ l. l ++ peer.went) came ∙ went, refl)

pub breaks_at : (who : Who) (own peer : LinkState) (control : Ways) → own.hold ≡ Has
    → Can who touches.ToldBreak (between_at who own peer control) (between_at who (record own { hold = Has_lost }) peer control)
breaks_at Near own peer control has = (has, refl)
breaks_at Far own peer control has = (has, refl)

-- ---- the control connection

pub says_at : (who : Who) (own peer : LinkState) (down up octets : List ℕ)
    → Can who (touches.Says octets) (between_at who own peer (ways_at who down up)) (between_at who own peer (ways_at who down (up ++ octets)))
says_at Near own peer down up octets = refl
says_at Far own peer down up octets = refl

pub reads_at : (who : Who) (own peer : LinkState) (down up octets : List ℕ)
    → Can who (touches.Reads octets) (between_at who own peer (ways_at who (octets ++ down) up)) (between_at who own peer (ways_at who down up))
reads_at Near own peer down up octets = (refl, refl)
reads_at Far own peer down up octets = (refl, refl)
