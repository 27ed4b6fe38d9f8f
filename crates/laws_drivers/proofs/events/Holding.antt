-- What is so of each end's data connection while a world is beside both drives.
use Rattle.std.proofs.Common.{◌≡◌, Bool, true, false, true≢false, [], refl, sym, ap, ◌∙◌}
use Rattle.ftp_ports.specs.Channel.{Channel}
use Rattle.ftp_ports.specs.declared.whole.Fate.{Fate}
use Rattle.ftp_ports.specs.declared.whole.Fate.TheVariants.{Sound, Failed}
use Rattle.ftp_client_model.specs.Calls.{data_closed}
use Rattle.ftp_client_model.specs.View.{View as Near}
use Rattle.laws_drivers.specs.control.Between.{Has, Hold, Is_called}

-- it has it; it was dialled
abbrev pub is_had : Hold → Bool
is_had Has = true
is_had hold = false

abbrev pub is_called : Hold → Bool
is_called Is_called = true
is_called hold = false

-- the end was not told that it ended or broke
abbrev pub is_sound : Fate → Bool
is_sound Sound = true
is_sound Failed = true
is_sound fate = false

-- what came and was not told is of one that stands and is sound
pub record Takes (channel : Channel) : Type 0 where
  pub bare : channel.stands ≡ false → channel.untold ≡ []
  pub over : is_sound channel.fate ≡ false → channel.untold ≡ []

-- ---- small steps

-- what cannot be true is false
pub is_false : (b : Bool) → (b ≡ true → ⊥) → b ≡ false
is_false true none = absurd (none refl)
is_false false none = refl

-- both cannot be
pub both : {b : Bool} → b ≡ true → b ≡ false → ⊥
both one other = true≢false (sym one ∙ other)

-- an end that wants no close holds the same once that is done
pub unclosed : (n : Near) → n.closing ≡ false → data_closed n ≡ n
unclosed n is = ap (λ c. record n { closing = c }) (sym is)
