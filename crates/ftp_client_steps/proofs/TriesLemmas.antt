-- The first try of an upload over breaks.
use Rattle.std.proofs.Common.{◌≡◌, Bool, true, false, refl, sym}
use Rattle.ftp_operation.specs.Operation.{can_be_sent}
use Rattle.ftp_operation.specs.declared.op.Op.TheVariants as Ops
use Rattle.std.specs.Prelude.{if◌then◌else◌, []}
use Rattle.ftp_client_model.specs.Tries.{OverBreaks, counts_as_file, first_try, whole_put}

-- one that can be sent has all octets
pub first_is : (u : OverBreaks) → can_be_sent (first_try u) ≡ true → whole_put u ≡ first_try u
first_is u sent = of (counts_as_file u.how.representation) sent
  where
    of : (b : Bool) → can_be_sent (if b then whole_put u else Ops.MakeDir []) ≡ true → whole_put u ≡ (if b then whole_put u else Ops.MakeDir [])
    of true is = refl
    of false is = absurd (cc is)
