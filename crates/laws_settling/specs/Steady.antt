-- What settling needs of a world: three facts that hold as a session begins and that every event keeps. Without them no count of what
-- is left falls: an answer could ask for an answer, and a close that is done could give an end new octets to send.
use Rattle.std.specs.Prelude.{◌≡◌, ℕ, Bool, true, false, List, [], ◌∷◌, ◌++◌}
use Rattle.std.specs.List.{flat_map}
use Rattle.ftp_nvt.specs.Telnet.{owed_of, place_behind, place_from, unit_ended}
use Rattle.ftp_nvt.specs.declared.telnet.TelnetState.{TelnetState}
use Rattle.ftp_nvt.specs.declared.telnet.TelnetState.TheVariants as At
use Rattle.ftp_client_model.specs.Calls.{is_sound}
use Rattle.ftp_client_model.specs.View.{View as Near, stands}
use Rattle.ftp_server_model.specs.Endpoint.{is_standing}
use Rattle.ftp_server_model.specs.View.{View as Far}
use Rattle.laws_world.specs.World.{World, Control, Stands, LeftByNear, LeftByFar, Parted}

-- ---- nothing that is on its way to the client asks for an answer

-- no octet ends a Telnet unit that is owed an answer (RFC 854); `at` is where in a unit the first stands
abbrev pub NoneAsked : TelnetState → List ℕ → Type 0
NoneAsked at [] = Unit {0}
NoneAsked at (octet ∷ octets) = (flat_map owed_of (unit_ended at octet) ≡ []) × NoneAsked (place_behind at octet) octets

-- octets that ask nothing of who hears them from a place in a Telnet unit, and leave it between two units
pub record AskNothing (at : TelnetState) (octets : List ℕ) : Type 0 where
  pub none : NoneAsked at octets
  pub rest : place_from at octets ≡ At.Between

-- the client, while it hears, is asked nothing by what is on its way to it and by what the server owes
abbrev pub AsksNothing : World → Type 0
AsksNothing w = is_sound w.near.standing ≡ true → AskNothing w.near.ear.place (w.control_to_client ++ w.far.owed)

-- ---- an end that wants a close has nothing else of the link

-- while the client's close is wanted, no link of its stands
abbrev pub NearIsApart : Near → Type 0
NearIsApart v = v.closing ≡ true → stands v.connection ≡ false

-- the same of the server
abbrev pub FarIsApart : Far → Type 0
FarIsApart v = v.session.closing ≡ true → is_standing v.session.connection ≡ false

-- and of both ends
pub record AreApart (w : World) : Type 0 where
  pub near : NearIsApart w.near
  pub far : FarIsApart w.far

-- ---- the client stays while it hears

-- the client has left the control connection
abbrev pub has_client_left : Control → Bool
has_client_left Stands = false
has_client_left LeftByFar = false
has_client_left LeftByNear = true
has_client_left Parted = true

-- ---- all three

pub record IsSteadyWorld (w : World) : Type 0 where
  pub apart : AreApart w
  pub asks : AsksNothing w
  pub on : is_sound w.near.standing ≡ true → has_client_left w.control ≡ false
