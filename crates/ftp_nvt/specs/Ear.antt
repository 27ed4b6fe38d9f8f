-- What an ear has heard.
use Rattle.std.specs.Prelude.{◌≡◌, ℕ, List, ◌++◌, vec_capacity}
use Rattle.ftp_nvt.specs.Telnet.{bare, place_in_unit}
use Rattle.ftp_nvt.specs.Lines.{NvtEvent, events}
use Rattle.ftp_nvt.specs.LineBuffer.{CanHaveRead}
use Rattle.ftp_nvt.specs.declared.ear.Ear.{Ear}
pub use Rattle.ftp_nvt.specs.Event.{event_list}

-- the most octets that a line of this ear has, its end included
abbrev pub limit_of : {A : Type 0} → Ear A → ℕ
limit_of ear = ear.line.limit

-- the text that this ear lends
abbrev pub lent_line : {A : Type 0} → Ear A → List ℕ
lent_line ear = ear.line.text.items

-- how many octets the buffer of this ear has room for
abbrev pub ear_room : {A : Type 0} → Ear A → ℕ
ear_room ear = vec_capacity ear.line.text

-- this ear can have heard just these octets
pub record HasHeard {A : Type 0} (ear : Ear A) (octets : List ℕ) : Type 0 where
  pub place : ear.place ≡ place_in_unit octets
  pub line : CanHaveRead ear.line (bare octets)

-- an ear that heard some octets before has heard these too, and this is what they add to the events
pub record Hears {A : Type 0} (old : Ear A) (taken : List ℕ) (added : List NvtEvent) (new : Ear A) : Type 0 where
  pub limit : limit_of new ≡ limit_of old
  pub heard : (octets : List ℕ) → HasHeard old octets → HasHeard new (octets ++ taken)
  pub said : (octets : List ℕ) → HasHeard old octets → events (limit_of old) (octets ++ taken) ≡ events (limit_of old) octets ++ added
