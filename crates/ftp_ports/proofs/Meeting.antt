-- How an end comes to a data connection, as it wants it: a port is listened at, one is waited for or opened; or none is had.
use Rattle.std.proofs.Common.{◌≡◌, ℕ, Bool, List, [], ◌∷◌, Option, Some, None, refl, subst}
use Rattle.std.specs.Prelude.{false, not}
use Rattle.std.specs.Option.{is_some}
use Rattle.ftp_ports.specs.Asking.{Accepts, Adds, Asked, Came, Listened, NotCame, Replaces, told_lost}
use Rattle.ftp_ports.specs.Actions.{Other, Stand, with_owner}
use Rattle.ftp_ports.specs.Channel.{IsHad, channel_of, with_asked}
use Rattle.ftp_ports.specs.Machine.{IsFlushed, IsConnectionRefused, IsWanted, Listening, Machine, NoPort, Opened, Refused, Progresses, held, rest_by, side_of}
use Rattle.ftp_ports.specs.declared.whole.Rest.{Rest}
use Rattle.ftp_ports.specs.declared.data.DataConnection.{DataConnection}
use Rattle.ftp_ports.specs.declared.whole.Fate.TheVariants.{Sound}
use Rattle.ftp_ports.specs.declared.ports.Accepted.{Accepted}
use Rattle.ftp_ports.specs.declared.ports.Accepted.TheVariants as Answers
use Rattle.ftp_ports.proofs.Channels.{opens}
use Rattle.ftp_ports.proofs.Getting.{progresses_by}
use Rattle.ftp_ports.specs.Unheard.{Source}
use Rattle.ftp_endpoint.specs.declared.host.Host.{Host}
use Rattle.ftp_ends.specs.declared.link.Wants.TheVariants as Want

-- one came, or none did, or nothing was answered
pub one_came : {S : Type 0} (remaining contents : S → Option (List ℕ)) (h0 h1 : Option (List Asked)) (hears : Bool) (answer : Accepted S) (stream : S) (host : Host)
    → answer ≡ Answers.Came stream host → Accepts remaining contents answer hears h0 h1 → Adds h0 h1 (Came host (remaining stream) (contents stream) ∷ [])
one_came remaining contents h0 h1 hears answer stream host is asked = subst (λ a. Accepts remaining contents a hears h0 h1) is asked

pub none_came : {S : Type 0} (remaining contents : S → Option (List ℕ)) (h0 h1 : Option (List Asked)) (hears : Bool) (answer : Accepted S) → answer ≡ Answers.Refused
    → Accepts remaining contents answer hears h0 h1 → Adds h0 h1 (NotCame ∷ [])
none_came remaining contents h0 h1 hears answer is asked = subst (λ a. Accepts remaining contents a hears h0 h1) is asked

pub none_answered : {S : Type 0} (remaining contents : S → Option (List ℕ)) (h0 h1 : Option (List Asked)) (hears : Bool) (answer : Accepted S) → answer ≡ Answers.Spoken
    → Accepts remaining contents answer hears h0 h1 → Adds h0 h1 (told_lost (not hears))
none_answered remaining contents h0 h1 hears answer is asked = subst (λ a. Accepts remaining contents a hears h0 h1) is asked

module _ (machine : Machine) where
  -- a port is listened at, and the end is told which
  pub listens : (old : Stand (side_of machine)) (there : machine.Here) (h1 : Option (List Asked)) (answer : Option ℕ) (port : ℕ) → answer ≡ Some port
      → Adds old.owner.channel.asked h1 (Listened answer ∷ []) → machine.Listening port old.owner.end there → machine.wants old.owner.end ≡ Want.Listen → IsFlushed machine old.owner.end
      → Progresses machine old (with_owner (held there (with_asked h1 old.owner.channel)) old)
  listens old there h1 answer port is asks told wanted flushed =
      progresses_by (Other (Listening port)) old _ tt ((told, (subst (λ a. Adds old.owner.channel.asked h1 (Listened a ∷ [])) is asks, refl), (wanted, flushed)), refl)

  -- at none
  pub listens_nowhere : (old : Stand (side_of machine)) (there : machine.Here) (h1 : Option (List Asked)) (answer : Option ℕ) → answer ≡ None
      → Adds old.owner.channel.asked h1 (Listened answer ∷ []) → machine.NoPort old.owner.end there → machine.wants old.owner.end ≡ Want.Listen → IsFlushed machine old.owner.end
      → Progresses machine old (with_owner (held there (with_asked h1 old.owner.channel)) old)
  listens_nowhere old there h1 answer is asks told wanted flushed =
      progresses_by (Other NoPort) old _ tt ((told, (subst (λ a. Adds old.owner.channel.asked h1 (Listened a ∷ [])) is asks, refl), (wanted, flushed)), refl)

  -- none is had, and the end is told that
  pub has_none : (old : Stand (side_of machine)) (there : machine.Here) (h1 : Option (List Asked)) (asked : List Asked) → Adds old.owner.channel.asked h1 asked
      → machine.Refused old.owner.end there → IsConnectionRefused (machine.wants old.owner.end) asked → IsFlushed machine old.owner.end
      → Progresses machine old (with_owner (held there (with_asked h1 old.owner.channel)) old)
  has_none old there h1 asked asks told wanted flushed = progresses_by (Other (Refused asked)) old _ tt ((told, (asks, refl), (wanted, flushed)), refl)

  -- one that was asked for is had now, where none stood
  pub has_one : {S : Type 0} (remaining contents : S → Option (List ℕ)) (old new : DataConnection S) (stream : S) (h0 h1 h2 : Option (List Asked)) (host : Host) (had : Asked)
      (room : List ℕ) (rest : Rest) (here there : machine.Here) → Adds h0 h1 (had ∷ []) → IsHad host had (remaining stream) (contents stream) → IsWanted (machine.wants here) had
      → is_some old.stream ≡ false → Replaces remaining contents old.stream h1 h2 → new.at ≡ new.end → new.rest ≡ rest → new.fate ≡ Sound → new.stream ≡ Some stream
      → machine.Opened host here there → rest ≡ rest_by (machine.wants there) → IsFlushed machine here
      → (left : Source) (unheard : List ℕ) (written : Option (List ℕ))
      → Progresses machine (record { owner = held here (channel_of remaining contents h0 old room []); left = left; unheard = unheard; written = written })
      (record { owner = held there (channel_of remaining contents h2 new room []); left = left; unheard = unheard; written = written })
  has_one remaining contents old new stream h0 h1 h2 host had room rest here there asks is_had wanted none replaced all rests sound is told by flushed left unheard written =
      progresses_by (Other (Opened host (had ∷ []) (remaining stream) (contents stream) rest)) _ _ tt
      (((told, by), opens remaining contents old new stream h0 h1 h2 host had room room [] rest asks is_had none replaced all rests sound is, (wanted, flushed)), refl)
