-- Calm: it is what it was, and that no count of a failure has moved. Counts wrap, so each part of an event says by how much they move at most.
use Rattle.std.specs.Prelude.{◌≡◌, ℕ, ◌+◌, ◌*◌, ◌≤◌, Bool, ◌&&◌, nat_eq}
use Rattle.ftp_client_model.specs.Failing.{Client}
use Rattle.ftp_direct.specs.Run.{moved_on}
use Rattle.ftp_server_model.specs.Failing.{Counts}
use Rattle.ftp_server_model.specs.Far.{Server}
use Rattle.laws_world.specs.Events as events
use Rattle.ftp_pair_events.specs.declared.events.parts.Parts.{Parts}

-- what both ends have counted: growths refused to the client; those refused to the server, and failures of its tree's device
pub record Tally : Type 0 where
  pub near : ℕ
  pub far : Counts

-- what the ends in a world have counted
abbrev pub tally_of : {A T N F : Type 0} → (N → Client) → (F → Server) → Parts A T N F → Tally
tally_of near far w = record { near = (near w.near).refusals; far = (far w.far).counts }

-- so many failures at most were counted, of the device those that it told, and calm is what it was, and that there were none
pub record KeepsTally (most : ℕ) (was calm : Bool) (old new : Tally) : Type 0 where
  pub near : ℕ
  pub refusals : ℕ
  pub failures : ℕ
  pub few : near + refusals + failures ≤ most
  pub near_is : new.near ≡ moved_on near old.near
  pub refusals_is : new.far.refusals ≡ moved_on refusals old.far.refusals
  pub failures_is : new.far.failures.told ≡ moved_on failures old.far.failures.told
  pub calm_is : calm ≡ (was && nat_eq (near + refusals + failures) 0)

-- the same of parts
abbrev pub Counted : {A T N F : Type 0} → ℕ → (N → Client) → (F → Server) → Parts A T N F → Parts A T N F → Type 0
Counted most near far old new = KeepsTally most old.calm new.calm (tally_of near far old) (tally_of near far new)

-- how many octets an event delivers at most
abbrev pub octets_delivered : events.Event → ℕ
octets_delivered (events.Deliver queue count) = count
octets_delivered other = 0

-- how many failures can be counted in an event at most: three in each of its calls, which are eight, and one for each octet that is delivered
abbrev pub most_in : events.Event → ℕ
most_in event = 3 * (octets_delivered event + 8)
