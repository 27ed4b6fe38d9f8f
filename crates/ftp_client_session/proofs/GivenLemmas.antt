-- Whether octets are still to be given.
use Rattle.std.proofs.Common.{◌≡◌, ℕ, [], ◌∷◌, not, ◌&&◌, refl}
use Rattle.ftp_ends.specs.Octets.{has_octets}
use Rattle.ftp_client_model.specs.Calls.{is_down, left_of}
use Rattle.ftp_client_model.specs.Dialogue.{is_given}
use Rattle.ftp_client_model.specs.View.{Flow, Sending, Receiving}

-- an upload has octets to give exactly where not all are out
pub some_left : (flow : Flow) → has_octets (left_of flow) ≡ (not (is_down flow) && not (is_given flow))
some_left (Sending [] mark) = refl
some_left (Sending (octet ∷ left) mark) = refl
some_left (Receiving decoder mark) = refl
