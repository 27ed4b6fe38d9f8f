-- How a dialogue with its count of refused growths is seen, and what it keeps so that it holds little.
use Rattle.std.specs.Prelude.{ℕ, List, [], None}
use Rattle.ftp_operation.specs.declared.op.Op.{Op}
use Rattle.ftp_client_model.specs.Fit.{IsFit}
use Rattle.ftp_client_model.specs.Failing.{Client as Seen}
use Rattle.ftp_client_model.specs.View.{Flow, Sending}
use Rattle.ftp_client_session.specs.Client.{view_of}
use Rattle.ftp_client.specs.declared.counted.Counted.{Counted}

-- what it holds, and how many growths were refused to it
abbrev pub counted_of : {A F : Type 0} → (Op (List ℕ) → F → Flow) → Counted A F → Seen
counted_of flow counted = record { view = view_of flow counted.dialogue; refusals = counted.refusals }

-- a transfer, however its octets are seen
abbrev pub unseen : {F : Type 0} → Op (List ℕ) → F → Flow
unseen op flow = Sending [] None

-- it is fit; how the octets of a transfer are seen is no matter
abbrev pub StaysFit : {A F : Type 0} → Counted A F → Type 0
StaysFit counted = IsFit (view_of unseen counted.dialogue)
