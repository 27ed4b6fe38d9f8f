-- What a receiver made of items.
use Rattle.std.specs.Prelude.{◌≡◌, ℕ, ◌+◌, ◌-◌, ◌<◌, ◌≤◌, List, ◌++◌, length, take, drop, true, false, if◌then◌else◌}
use Rattle.ftp_pieces.specs.Machine.{after, gives}
use Rattle.ftp_repr.specs.Signs.{Sign}
use Rattle.ftp_repr.specs.Items.{signs}
use Rattle.ftp_settings.specs.Representation.{Form}
use Rattle.ftp_repr.specs.Receiving.{Taking, fresh, over, receiving, held_octets}
use Rattle.ftp_repr.specs.declared.item.Lent.{Lent}
use Rattle.ftp_repr.specs.declared.receiver.Receiver.{Receiver}
use Rattle.ftp_repr.specs.declared.receiver.Stage.{Stage}
use Rattle.ftp_repr.specs.declared.receiver.Stage.TheVariants.{Settled, Held, Over}

-- its type and structure
abbrev pub receiver_form : Receiver → Form
receiver_form r = record { kind = r.kind; structure = r.structure }

-- its state
abbrev pub taking_at : Stage → Taking
taking_at Settled = fresh
taking_at Held = record { held = true; ended = false }
taking_at Over = over

abbrev pub taking_at_stage : Receiver → Taking
taking_at_stage r = taking_at r.stage

-- the signs were taken, and the file has at its end what they settled
pub record ReceivesSigns (old : Receiver) (ss : List Sign) (new : Receiver) (before now : List ℕ) : Type 0 where
  pub form : receiver_form new ≡ receiver_form old
  pub state : taking_at_stage new ≡ after (receiving (receiver_form old)) (taking_at_stage old) ss
  pub added : now ≡ before ++ gives (receiving (receiver_form old)) (taking_at_stage old) ss

-- what the signs settle has no room in a vector of this capacity and length
abbrev pub SignsLackRoom : Receiver → List Sign → ℕ → ℕ → Type 0
SignsLackRoom r ss capacity len = capacity < len + length (gives (receiving (receiver_form r)) (taking_at_stage r) ss)

-- ---- what signs in front of a row settle, lent

-- what signs settle
abbrev pub settled_by : Receiver → List Sign → List ℕ
settled_by r ss = gives (receiving (receiver_form r)) (taking_at_stage r) ss

-- the octets that are lent: a CR that was held, and others
abbrev pub lent_octets : Lent → List ℕ
lent_octets lent = held_octets lent.with_return ++ lent.octets.now

-- the sign that this octet of them comes with: a CR that was held comes with the first sign, as the octet behind it
abbrev pub comes_with : Lent → ℕ → ℕ
comes_with lent k = if lent.with_return then k - 1 else k

-- so many signs were taken, one at least where there is one, and what they settle was lent
pub record Lends (old : Receiver) (ss : List Sign) (lent : Lent) (new : Receiver) : Type 0 where
  pub form : receiver_form new ≡ receiver_form old
  pub within : lent.taken ≤ length ss
  pub some : 0 < length ss → 0 < lent.taken
  pub rest : signs lent.rest ≡ drop lent.taken ss
  pub state : taking_at_stage new ≡ after (receiving (receiver_form old)) (taking_at_stage old) (take lent.taken ss)
  pub settles : lent_octets lent ≡ settled_by old (take lent.taken ss)
  pub no_sooner : (k : ℕ) → k < length (lent_octets lent) → length (settled_by old (take (comes_with lent k) ss)) ≤ k
  pub no_later : (k : ℕ) → k < length (lent_octets lent) → k < length (settled_by old (take (comes_with lent k + 1) ss))
