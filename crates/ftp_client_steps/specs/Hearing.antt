-- The octets of a download that come one by one, and when a Peek has enough of them (own choice).
use Rattle.std.specs.Prelude.{◌≡◌, ℕ, false, List, [], ◌∷◌}
use Rattle.ftp_operation.specs.declared.op.Op.{Op}
use Rattle.ftp_client_model.specs.Octets.{flow_octet, has_enough}
use Rattle.ftp_client_model.specs.View.{Flow}

-- what octets leave of it
abbrev pub heard_all : Flow → List ℕ → Flow
heard_all flow [] = flow
heard_all flow (octet ∷ octets) = heard_all (flow_octet flow octet) octets

-- behind none of these octets but perhaps the last there is enough
abbrev pub NotYet : Op (List ℕ) → Flow → List ℕ → Type 0
NotYet op flow [] = Unit {0}
NotYet op flow (octet ∷ []) = Unit {0}
NotYet op flow (octet ∷ next ∷ octets) = (has_enough op (flow_octet flow octet) ≡ false) × NotYet op (flow_octet flow octet) (next ∷ octets)
