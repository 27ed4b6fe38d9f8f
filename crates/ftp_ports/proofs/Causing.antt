-- Why a drive breaks off, as the parts of it say that.
use Rattle.std.proofs.Common.{◌≡◌, ◌<◌, ℕ, List, [], ◌++◌, length, Option, Some, None, refl, sym, ap, subst, Result, Ok, Err, arith}
use Rattle.std.specs.Prelude.{Bool, IfErr, IsErrAnd, true, false, not}
use Rattle.ftp_ports.specs.Asking.{Adds, Asked, is_lost, told_lost}
use Rattle.ftp_ports.specs.Cause.{HasLost, IsCause, IsReadOrWriteFault, IsSpent}
use Rattle.ftp_ports.specs.declared.cause.Cause.{Cause}
use Rattle.ftp_ports.specs.declared.cause.Cause.TheVariants as Causes
use Rattle.ftp_ports.specs.declared.ports.Ready.{Ready}
use Rattle.ftp_ports.specs.declared.ports.Ready.TheVariants as Readies
use Rattle.ftp_ends.specs.declared.link.Wants.{Wants}

-- a cause that is passed on is so still
pub passes : {T : Type 0} (r : Result T Cause) (cause : Cause) (P : Cause → Type 0) → IsErrAnd r (λ e. e ≡ cause) → P cause → IfErr r P
passes (Ok value) cause P failed holds = tt
passes (Err e) cause P failed holds = subst P (sym failed) holds

-- a read or a write failed
pub is_fault : (cause : Cause) (failed may_hear serves : Bool) (asked : Option (List Asked)) (unheard : List ℕ) (want : Wants) → IsReadOrWriteFault cause failed
    → IsCause cause failed asked unheard want may_hear serves
is_fault Causes.Failed failed may_hear serves asked unheard want fault = fault
is_fault Causes.Lost failed may_hear serves asked unheard want fault = absurd fault
is_fault Causes.Unheard failed may_hear serves asked unheard want fault = absurd fault
is_fault Causes.Closed failed may_hear serves asked unheard want fault = absurd fault
is_fault (Causes.Spent spent) failed may_hear serves asked unheard want fault = absurd fault

-- all turns were made
pub is_spent : (cause : Cause) (failed may_hear serves : Bool) (asked : Option (List Asked)) (unheard : List ℕ) (want : Wants) → IsSpent cause
    → IsCause cause failed asked unheard want may_hear serves
is_spent Causes.Failed failed may_hear serves asked unheard want spent = absurd spent
is_spent Causes.Lost failed may_hear serves asked unheard want spent = absurd spent
is_spent Causes.Unheard failed may_hear serves asked unheard want spent = absurd spent
is_spent Causes.Closed failed may_hear serves asked unheard want spent = absurd spent
is_spent (Causes.Spent last) failed may_hear serves asked unheard want spent = tt

-- it was told that the control connection ended
pub has_lost : (h0 h1 : Option (List Asked)) (lost : Bool) → lost ≡ true → Adds h0 h1 (told_lost lost) → HasLost h1
has_lost None None lost is adds = tt
has_lost None (Some after) lost is adds = absurd adds
has_lost (Some before) None lost is adds = absurd adds
has_lost (Some before) (Some after) lost is adds =
    subst (λ l. HasLost (Some l)) (sym adds) (subst (λ b. HasLost (Some (told_lost b ++ before))) (sym is) tt)

-- where octets stood unheard, octets of the control connection were not to stop it
pub lost_unheard : (h0 h1 : Option (List Asked)) (ready : Ready) (unheard : Bool) (octets : List ℕ) → ready ≡ Readies.Control → (unheard ≡ false → octets ≡ [])
    → Adds h0 h1 (told_lost (is_lost ready (not unheard))) → 0 < length octets → HasLost h1
lost_unheard h0 h1 ready true octets is none adds some = has_lost h0 h1 (is_lost ready false) (ap (λ r. is_lost r false) is) adds
lost_unheard h0 h1 ready false octets is none adds some = absurd (let e = ap length (none refl) in omega (arith, e, some))
