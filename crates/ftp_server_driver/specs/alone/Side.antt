-- A server as the end of a session that is driven: what its calls do, as `Far` says it (RFC 959, section 2.3).
use Rattle.std.specs.Prelude.{◌≡◌, ◌≢◌, ◌≤◌, ◌==◌, ⊤, ℕ, Bool, true, false, List, [], ◌∷◌, length, Option, Some, None, drop, take, if◌then◌else◌}
use Rattle.ftp_ports.specs.Asking.{Adds}
use Rattle.ftp_ports.specs.Actions.{Stand}
use Rattle.ftp_ports.specs.Machine.{Machine, Held, rest_left, side_of, stand_of}
use Rattle.ftp_ports.specs.Side.{Side}
use Rattle.ftp_ports.specs.declared.control.Control.{Control}
use Rattle.ftp_ports.specs.declared.whole.Rest.{Rest}
use Rattle.ftp_ports.specs.declared.whole.Rest.TheVariants.{Nothing, More}
use Rattle.ftp_ends.specs.declared.link.Wants.TheVariants as Want
use Rattle.ftp_reply.specs.declared.code.TheConstants.{COMPLETE}
use Rattle.ftp_server_model.specs.Calls.{break_step, clock_step, close_step, control_end, control_step, end_step, given_step, listening_step, may_receive, no_port_step, opened_step, refused_step, to_give, wants}
use Rattle.ftp_server_model.specs.Machine.{may_hear}
use Rattle.ftp_server_model.specs.Failing.{EndFails, GiveFails, KeepsCourse}
use Rattle.ftp_server_model.specs.Far.{Acts, Hears, Receives, Server, Steps}
use Rattle.ftp_server_driver.specs.declared.alone.clocked.Clocked.{Clocked}

-- a server, and what its clock told so far, in seconds since 1970, the last one first, where it tells that
pub record Timed : Type 0 where
  pub server : Server
  pub told : Option (List ℕ)

-- of values of the program
abbrev pub timed : {F C O : Type 0} → (F → Server) → (C → Option (List ℕ)) → Clocked F C O → Timed
timed server told clocked = record { server = server clocked.server; told = told clocked.watch }

-- the server is called, and the clock is not asked
abbrev pub Alone : ((old new : Server) → Type 0) → (old new : Timed) → Type 0
Alone Calls old new = Calls old.server new.server × (new.told ≡ old.told)

-- the clock is asked and the server told the moment that it is, and right behind that it is called
abbrev pub Timely : ((old new : Server) → Type 0) → (old new : Timed) → Type 0
Timely Calls old new =
    (moment : ℕ) × (mid : Server) × Adds old.told new.told (moment ∷ []) × Acts (clock_step moment) old.server mid × Calls mid new.server

-- whether the first of these octets is an LF, which alone ends a line (RFC 959, section 4)
abbrev pub ends_line : List ℕ → Bool
ends_line [] = false
ends_line (octet ∷ octets) = octet == 10

-- by the code of the reply that comes first in a call in which octets of a download or a listing were given: the last of them went where that is 226,
-- and none else
abbrev pub rest_told : Option ℕ → Rest
rest_told None = More
rest_told (Some code) = if code == COMPLETE then Nothing else More

-- control octets are heard one by one, and one that ends a line behind the moment
abbrev pub HearsBy : (is_end : Bool) → List ℕ → (old new : Timed) → Type 0
HearsBy true octets old new = Timely (Hears octets) old new
HearsBy false octets old new = Alone (Hears octets) old new

-- the control connection ends, as the server sees it: what it owes is dropped with all else
abbrev pub ended : Timed → Timed
ended at = record at { server = record at.server { view = control_end at.server.view } }

-- of what it has to give it gave the first octets, and it has more to give where more is left; unless the device of its tree strayed
abbrev pub Gives : (count : ℕ) → (octets : List ℕ) → (rest : Rest) → (old new : Server) → Type 0
Gives count octets rest old new =
    KeepsCourse old.counts new.counts → (octets ≡ take count (to_give old.view)) × (rest ≡ rest_left (drop count (to_give old.view)))

-- it is told the moment right before each line's end, and each end and break of a data connection, and only there; its own call is to be asked
-- whether it is done with the control connection, where it is not
abbrev pub server_machine : Machine
server_machine = record {
  Here = Timed;
  wants = λ at. wants at.server.view;
  serves = true;
  owed = λ at. at.server.view.owed;
  may_hear = λ at. may_hear at.server.view;
  may_receive = λ at. may_receive at.server.view;
  Hears = λ octets unheard old new. (length octets ≤ 1) × HearsBy (ends_line unheard) octets old new;
  Gives = λ count old new. Alone (Acts (control_step count)) old new;
  IsCut = λ old new. new ≡ ended old;
  Own = ⊤;
  Owns = λ asked old new. (new ≡ old) × (wants old.server.view ≢ Want.CloseAll);
  Listening = λ port old new. Alone (Acts (listening_step port)) old new;
  Opened = λ host old new. Alone (Acts (opened_step host)) old new;
  Received = λ octets count old new. Alone (Receives (take count octets)) old new;
  Gave = λ count octets rest old new. Gives count octets rest old.server new.server × Alone (Steps (GiveFails count) (given_step count)) old new;
  NoPort = λ old new. Alone (Acts no_port_step) old new;
  Refused = λ old new. Alone (Acts refused_step) old new;
  End = λ old new. Timely (Steps EndFails end_step) old new;
  Break = λ old new. Timely (Steps EndFails break_step) old new;
  Closed = λ old new. Alone (Acts close_step) old new;
  IsCloseDue = λ at. wants at.server.view ≡ Want.CloseData;
  IsDone = λ at. wants at.server.view ≡ Want.CloseAll;
}

abbrev pub server_side : Side
server_side = side_of server_machine

-- it and its data connection beside a control connection, by what its reader has left and what its writer holds
abbrev pub beside : {R W : Type 0} → (R → Option (List ℕ)) → (W → Option (List ℕ)) → Held Timed → Control R W → Stand server_side
beside remaining contents owner control = stand_of server_machine remaining contents owner control
