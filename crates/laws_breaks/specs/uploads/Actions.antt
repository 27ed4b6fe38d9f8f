-- The actions of one server's drive and of drives of one client of which data connections break, those of uploads too: an end is told so (RFC 959, section 3.3).
use Rattle.std.specs.Prelude.{◌≡◌, ◌⊎◌, ⊤, ℕ, true, List, [], ◌∷◌}
use Rattle.ftp_ports.specs.Asking.{Reset}
use Rattle.ftp_ports.specs.Actions.{Action, Done, Led, Other, Stand}
use Rattle.ftp_ports.specs.Machine.{Break, Held, Left}
use Rattle.ftp_ports.specs.declared.whole.Fate.TheVariants as Fates
use Rattle.ftp_client_driver.specs.Side.{client_side}
use Rattle.ftp_client_model.specs.Calls as near
use Rattle.ftp_client_model.specs.Failing.{Client}
use Rattle.ftp_ends.specs.declared.link.Wants.{Wants}
use Rattle.ftp_ends.specs.declared.link.Wants.TheVariants as Want
use Rattle.laws_drivers.specs.events.Actions.{Along}
use Rattle.laws_drivers.specs.control.Alone.{ClientIsCalm, ServerIsCalm}
use Rattle.laws_drivers.specs.control.Between.{Client as ByClient, Server as ByServer, Turn, client_actions, server_actions}
use Rattle.laws_drivers.specs.events.Moments.{last_of, number_in}
use Rattle.laws_breaks.specs.downloads.Actions.{IsSuffering, IsYielding, MayMarkBreak}
use Rattle.laws_breaks.specs.uploads.Coming.{HasCome}
use Rattle.laws_world.specs.World.{Broken, Mark, marked_last}
use Rattle.ftp_server_driver.specs.alone.Side.{Timed, server_side}
use Rattle.ftp_server_model.specs.Calls as far

-- ---- the server

-- while it takes octets it is told of a break, once it was told all that came; else it does what it does where downloads alone break
abbrev pub IsLosing : Action server_side → Held Timed → Type 0
IsLosing (Other Break) at =
    IsYielding (Other Break) at ⊎ ((far.wants at.end.server.view ≡ Want.Receive) × (at.channel.untold ≡ []))
IsLosing action at = IsYielding action at

-- so it does, and it was not refused memory, and no device of it failed or strayed
abbrev pub ServerLoses : Action server_side → (old new : Held Timed) → Type 0
ServerLoses action old new = IsLosing action old × ServerIsCalm old new

abbrev pub LosesAlong : (actions : List (Action server_side)) (start now : Stand server_side) → Led actions start now → Type 0
LosesAlong actions start now led = Along ServerLoses actions start now led

-- ---- the client

-- it is told of the break of a data connection that failed while it gives octets, or while it is to close it, of which octets may be unwritten; it resets one
-- of which it was told so; else it does what it does where downloads alone break
abbrev pub IsGiving : Action client_side → Held Client → Type 0
IsGiving (Other Break) at =
    IsSuffering (Other Break) at ⊎ ((at.channel.fate ≡ Fates.Failed) × ((near.wants at.end.view ≡ Want.Send) ⊎ (at.end.view.closing ≡ true)))
IsGiving (Other (Left (Reset left written))) at = IsSuffering (Other (Left (Reset left written))) at ⊎ (at.channel.fate ≡ Fates.Broken)
IsGiving action at = IsSuffering action at

-- so it does, and it was not refused memory
abbrev pub ClientGives : Action client_side → (old new : Held Client) → Type 0
ClientGives action old new = IsGiving action old × ClientIsCalm old new

abbrev pub GivesAlong : (actions : List (Action client_side)) (start now : Stand client_side) → Led actions start now → Type 0
GivesAlong actions start now led = Along ClientGives actions start now led

-- ---- both

-- where the server takes octets it is told of a break only right after this moment
abbrev pub IsCutAt : ℕ → (action : Action server_side) (old new : Stand server_side) → Done action old new → Type 0
IsCutAt moment (Other Break) old new did = far.wants old.owner.end.server.view ≡ Want.Receive → did.0.0.0 ≡ moment
IsCutAt moment action old new did = ⊤

-- it is that of the operation that was begun last
abbrev pub AreCutAt : (moments : ℕ → ℕ) (turns : List Turn) (start now : Stand server_side) → Led (server_actions turns) start now → Type 0
AreCutAt moments [] start now led = ⊤
AreCutAt moments (ByServer action ∷ before) start now led =
    AreCutAt moments before start led.0 led.1 × IsCutAt (last_of moments (number_in (client_actions before))) action led.0 now led.2
AreCutAt moments (ByClient action ∷ before) start now led = AreCutAt moments before start now led

-- ---- the marks

-- a break that the server is told of may mark the operation that was begun last where it wants octets, those of an upload: it broke after as many as came
abbrev pub cut_marks : Wants → (Came : ℕ → Type 0) → (List (List Mark) → Type 0) → List (List Mark) → Type 0
cut_marks Want.Receive Came Are marks =
    (old : List (List Mark)) × Are old × ((marks ≡ old) ⊎ ((came : ℕ) × Came came × (marks ≡ marked_last (Broken came) old)))
cut_marks wants Came Are marks = Are marks

-- those of actions, the last one first: what the client does marks as where downloads alone break
abbrev pub AreMarks : (turns : List Turn) (start now : Stand server_side) → Led (server_actions turns) start now
    → (client_start client : Stand client_side) → Led (client_actions turns) client_start client → List (List Mark) → Type 0
AreMarks [] start now led client_start client client_led marks = marks ≡ []
AreMarks (ByServer (Other Break) ∷ before) start now led client_start client client_led marks =
    cut_marks (far.wants led.0.owner.end.server.view) (HasCome led.0.owner client.owner)
    (AreMarks before start led.0 led.1 client_start client client_led) marks
AreMarks (ByServer action ∷ before) start now led client_start client client_led marks =
    AreMarks before start led.0 led.1 client_start client client_led marks
AreMarks (ByClient action ∷ before) start now led client_start client client_led marks =
    (old : List (List Mark)) × AreMarks before start now led client_start client_led.0 client_led.1 old × MayMarkBreak action client_led.0.owner old marks
