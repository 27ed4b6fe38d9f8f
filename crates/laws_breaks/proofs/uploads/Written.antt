-- A client that is beside a world and was told that its data connection broke has no octet unwritten: so it stays, whatever it does.
use Rattle.std.proofs.Common.{◌≡◌, Bool, true, false, true≢false, [], refl, sym, ap, ◌∙◌}
use Rattle.ftp_ports.specs.Actions.{Action, Done, Ended, Heard, Other, Read, Said as Says, Stand}
use Rattle.ftp_ports.specs.Channel.{Asks, Breaks, Ends, Fails, Gives, Channel, Leaves, Move, MovesChannel, Notes, Opens, Reads, Stays, Stops, Takes, Waits, Writes}
use Rattle.ftp_ports.specs.Machine.{move_of}
use Rattle.ftp_ports.specs.declared.whole.Fate.{Fate}
use Rattle.ftp_ports.specs.declared.whole.Fate.TheVariants as Fates
use Rattle.ftp_client_driver.specs.Side.{client_side}

-- it was told of the break
abbrev pub is_broken : Fate → Bool
is_broken Fates.Broken = true
is_broken fate = false

abbrev pub IsWritten : Channel → Type 0
IsWritten channel = is_broken channel.fate ≡ true → channel.unwritten ≡ []

abbrev is_breaking : Move → Bool
is_breaking Breaks = true
is_breaking move = false

module _ (old new : Channel) (written : IsWritten old) where
  -- where this became of it
  is_now : (fate : Fate) → new.fate ≡ fate → is_broken fate ≡ false → IsWritten new
  is_now fate is none e = absurd (true≢false (sym e ∙ ap is_broken is ∙ none))

  -- where it is as before
  as_before : new.fate ≡ old.fate → new.unwritten ≡ old.unwritten → IsWritten new
  as_before fate unwritten e = unwritten ∙ written (ap is_broken (sym fate) ∙ e)

  move_written : (move : Move) → (is_breaking move ≡ true → old.unwritten ≡ []) → MovesChannel move old new → IsWritten new
  move_written Stays none m = as_before (ap (λ (l : Channel). l.fate) m) (ap (λ (l : Channel). l.unwritten) m)
  move_written (Waits lost) none m = as_before m.holds.fate m.holds.unwritten
  move_written (Reads octets) none m = is_now Fates.Sound (m.fate ∙ m.is_open.1) refl
  move_written (Writes octets) none m = is_now Fates.Sound (m.fate ∙ m.is_open.1) refl
  move_written (Gives octets rest) none m = is_now Fates.Sound (ap (λ (l : Channel). l.fate) m.0 ∙ m.1.1) refl
  move_written Notes none m = as_before (ap (λ (l : Channel). l.fate) m) (ap (λ (l : Channel). l.unwritten) m)
  move_written (Takes octets) none m = as_before (ap (λ (l : Channel). l.fate) m.1) (ap (λ (l : Channel). l.unwritten) m.1)
  move_written Fails none m = is_now Fates.Failed (ap (λ (l : Channel). l.fate) m.0) refl
  move_written Ends none m = is_now Fates.Over (ap (λ (l : Channel). l.fate) m.0) refl
  move_written Breaks none m = λ e. ap (λ (l : Channel). l.unwritten) m ∙ none refl
  move_written Stops none m = as_before (ap (λ (l : Channel). l.fate) m.0) (ap (λ (l : Channel). l.unwritten) m.0)
  move_written (Asks asked) none m = as_before (ap (λ (l : Channel). l.fate) m.1) (ap (λ (l : Channel). l.unwritten) m.1)
  move_written (Opens host asked left so_far rest) none m = is_now Fates.Sound m.fate refl
  move_written (Leaves asked) none m = is_now Fates.Sound m.fate refl

-- the client is told of a break
abbrev pub is_break : Action client_side → Bool
is_break (Other call) = is_breaking (move_of call)
is_break action = false

-- an action, of which a break finds none unwritten
pub action_written : (action : Action client_side) (old new : Stand client_side) → (is_break action ≡ true → old.owner.channel.unwritten ≡ [])
    → Done action old new → IsWritten old.owner.channel → IsWritten new.owner.channel
action_written (Heard octets) old new none did written =
    as_before old.owner.channel new.owner.channel written (ap (λ (l : Channel). l.fate) did.hears.1) (ap (λ (l : Channel). l.unwritten) did.hears.1)
action_written (Says octets) old new none did written =
    as_before old.owner.channel new.owner.channel written (ap (λ (l : Channel). l.fate) did.gives.channel) (ap (λ (l : Channel). l.unwritten) did.gives.channel)
action_written (Read octets) old new none did written =
    as_before old.owner.channel new.owner.channel written (ap (λ o. o.channel.fate) did.owner) (ap (λ o. o.channel.unwritten) did.owner)
action_written Ended old new none did written =
    as_before old.owner.channel new.owner.channel written (ap (λ (l : Channel). l.fate) did.cut.1) (ap (λ (l : Channel). l.unwritten) did.cut.1)
action_written (Other call) old new none did written = move_written old.owner.channel new.owner.channel written (move_of call) none did.0.1
