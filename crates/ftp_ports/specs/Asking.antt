-- What is asked of whatever opens and closes data connections, and what it answers (RFC 959, section 3.2).
use Rattle.std.specs.Prelude.{◌≡◌, ◌⊎◌, ⊤, ℕ, Bool, true, false, not, List, [], ◌∷◌, ◌++◌, Option, Some, None}
use Rattle.ftp_endpoint.specs.declared.host.Host.{Host}
use Rattle.ftp_endpoint.specs.declared.endpoint.Endpoint.{Endpoint}
use Rattle.ftp_ports.specs.Whole.{IsCut, IsWhole}
use Rattle.ftp_ports.specs.declared.ports.Accepted.{Accepted}
use Rattle.ftp_ports.specs.declared.ports.Accepted.TheVariants as Answers
use Rattle.ftp_ports.specs.declared.ports.Ready.{Ready}
use Rattle.ftp_ports.specs.declared.ports.Ready.TheVariants as Readies
use Rattle.ftp_ports.specs.declared.ports.Spoken.{Spoken}
use Rattle.ftp_ports.specs.declared.ports.Spoken.TheVariants as Speaks
use Rattle.ftp_ports.specs.declared.whole.Fate.{Fate}
use Rattle.ftp_ports.specs.declared.whole.Rest.{Rest}
use Rattle.ftp_ports.specs.declared.whole.Whole.{Whole}

-- what was asked and answered; of a data connection that is opened or closed what is left to be read and what was written, where it tells that
pub data Asked : Type 0 where
  Listened : (port : Option ℕ) → Asked
  Came : (host : Host) → (left written : Option (List ℕ)) → Asked
  Connected : (endpoint : Endpoint) → (left written : Option (List ℕ)) → Asked
  NotCame : Asked
  NotConnected : (endpoint : Endpoint) → Asked
  Ended : (left written : Option (List ℕ)) → Asked
  Reset : (left written : Option (List ℕ)) → Asked
  Shut : Asked
  -- it told that the control connection ended, or that waiting failed
  Lost : Asked

-- these were asked, or told, too, the last one first, where it is known what was before; else it stays unknown
abbrev pub Adds : {A : Type 0} → (old new : Option (List A)) → List A → Type 0
Adds None None more = ⊤
Adds None (Some after) more = ⊥
Adds (Some before) None more = ⊥
Adds (Some before) (Some after) more = after ≡ more ++ before

-- it told that, or not
abbrev pub told_lost : (lost : Bool) → List Asked
told_lost true = Lost ∷ []
told_lost false = []

-- what a waiting at a data connection told; where octets of the control connection did not stop it, its end did
abbrev pub is_lost : Ready → (hears : Bool) → Bool
is_lost Readies.Data hears = false
is_lost Readies.Control hears = not hears
is_lost Readies.Lost hears = true

-- what a look at the control connection told
abbrev pub is_over : Spoken → Bool
is_over Speaks.Nothing = false
is_over Speaks.Octets = false
is_over Speaks.Ended = true

module _ {S : Type 0} (remaining contents : S → Option (List ℕ)) where
  -- a data connection is waited for
  abbrev pub Accepts : Accepted S → (hears : Bool) → (old new : Option (List Asked)) → Type 0
  Accepts (Answers.Came stream host) hears old new = Adds old new (Came host (remaining stream) (contents stream) ∷ [])
  Accepts Answers.Spoken hears old new = Adds old new (told_lost (not hears))
  Accepts Answers.Refused hears old new = Adds old new (NotCame ∷ [])

  -- one is opened to an endpoint
  abbrev pub Connects : Endpoint → Option S → (old new : Option (List Asked)) → Type 0
  Connects endpoint (Some stream) old new = Adds old new (Connected endpoint (remaining stream) (contents stream) ∷ [])
  Connects endpoint None old new = Adds old new (NotConnected endpoint ∷ [])

  -- one is closed by an end, and the port; or the port alone
  abbrev pub Closes : Option (Whole S) → (old new : Option (List Asked)) → Type 0
  Closes (Some whole) old new = Adds old new (Ended (remaining whole.stream) (contents whole.stream) ∷ [])
  Closes None old new = Adds old new (Shut ∷ [])

  -- one is reset
  abbrev pub Resets : S → (old new : Option (List Asked)) → Type 0
  Resets stream old new = Adds old new (Reset (remaining stream) (contents stream) ∷ [])

  -- one that stood is reset, since another takes its place
  abbrev pub Replaces : Option S → (old new : Option (List Asked)) → Type 0
  Replaces (Some stream) old new = Resets stream old new
  Replaces None old new = Adds old new []

  -- one is dropped: reset, where it stands, and else the port alone is closed
  abbrev pub Drops : Option S → (old new : Option (List Asked)) → Type 0
  Drops (Some stream) old new = Resets stream old new
  Drops None old new = Adds old new (Shut ∷ [])

  -- one is left, of which so much was written: closed by an end where it is whole, and else reset; where none stands, the port alone is closed
  abbrev pub Leaves : Option S → (at end : ℕ) → Rest → Fate → (old new : Option (List Asked)) → Type 0
  Leaves (Some stream) at end rest fate old new =
      (IsWhole at end rest fate × Adds old new (Ended (remaining stream) (contents stream) ∷ [])) ⊎ (IsCut at end rest fate × Resets stream old new)
  Leaves None at end rest fate old new = Adds old new (Shut ∷ [])
