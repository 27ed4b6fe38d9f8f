-- What the parts of a drive say, put together.
use Rattle.std.proofs.Common.{◌≡◌, ℕ, ◌<◌, ◌∙◌, List, [], ◌∷◌, length, refl, sym, ap, subst, inl, inr, Result, Ok, Err, arith}
use Rattle.std.specs.Prelude.{Bool, IsErrAnd}
use Rattle.std.proofs.KnownBytes.{Keeps-refl}
use Rattle.std.specs.Io.KnownBytes.{Keeps}
use Rattle.ftp_ports.proofs.Fronts.{AppendsFront-none}
use Rattle.ftp_ports.specs.Beginning.{AppendsFront}
use Rattle.ftp_ports.specs.Cause.{IsReadOrWriteFault, IsSpent}
use Rattle.ftp_ports.specs.declared.cause.Cause.{Cause}
use Rattle.ftp_ports.specs.declared.cause.Cause.TheVariants as Causes
use Rattle.ftp_ports.specs.Side.{Side}
use Rattle.ftp_ports.specs.Actions.{Stand}
use Rattle.ftp_ports.specs.Driving.{Fails, Flushes, Goes, Leads, Settles}
use Rattle.ftp_ports.proofs.Leading.{fails_then, leads_nowhere, leads_then}

-- a read or a write failed, so not all turns were made
fault_unspent : (cause : Cause) (failed : Bool) → IsReadOrWriteFault cause failed → IsSpent cause → ⊥
fault_unspent Causes.Failed failed fault spent = spent
fault_unspent Causes.Lost failed fault spent = spent
fault_unspent Causes.Unheard failed fault spent = spent
fault_unspent Causes.Closed failed fault spent = spent
fault_unspent (Causes.Spent last) failed fault spent = fault

module _ {side : Side} where
  -- ---- results

  pub goes_err : {T : Type 0} (cause : Cause) (a b : Stand side) (r : Result T Cause) → IsErrAnd r (λ e. e ≡ cause) → Fails cause a b → Goes a b r
  goes_err cause a b (Ok value) failed fails = absurd failed
  goes_err cause a b (Err e) failed fails = subst (λ e. Fails e a b) (sym failed) fails

  pub flushes_err : {T : Type 0} (cause : Cause) (a b : Stand side) (r : Result T Cause) → IsErrAnd r (λ e. e ≡ cause) → Fails cause a b → Flushes a b r
  flushes_err cause a b (Ok value) failed fails = absurd failed
  flushes_err cause a b (Err e) failed fails = subst (λ e. Fails e a b) (sym failed) fails

  pub goes_then : {T : Type 0} (a b c : Stand side) (r : Result T Cause) → Leads a b → Goes b c r → Goes a c r
  goes_then a b c (Ok value) first goes = leads_then a b c first goes
  goes_then a b c (Err e) first fails = fails_then e a b c first fails

  -- what is owed is written, or that fails
  pub flushed : {T : Type 0} (a b : Stand side) (r : Result T Cause) → Flushes a b r → Goes a b r
  flushed a b (Ok value) settles = settles.leads
  flushed a b (Err e) fails = fails

  -- ---- reads

  -- a read failed
  pub read_fails : (cause : Cause) (failed : Bool) (old new : Stand side) → IsReadOrWriteFault cause failed → Keeps old.left.octets new.left.octets → new.left.ended ≡ old.left.ended
      → new.unheard ≡ old.unheard → new.written ≡ old.written → new.owner ≡ old.owner → Fails cause old new
  read_fails cause failed old new fault left ended unheard written owner = record {
    mid = old;
    spent = λ is. absurd (fault_unspent cause failed fault is);
    leads = leads_nowhere old;
    octets = [];
    breaks = record {
      given = old.owner;
      gives = inl (refl, refl);
      lets = subst (λ s. side.LetsGo old.owner s) (sym owner) (side.lets_none old.owner);
      left = left;
      ended = ended;
      unheard = unheard;
      wrote = subst (λ w. AppendsFront old.written w []) (sym written) (AppendsFront-none old.written []);
    };
  }

  -- a write failed
  pub write_fails : (cause : Cause) (failed : Bool) (start old new : Stand side) (octets : List ℕ) → IsReadOrWriteFault cause failed → Leads start old → side.Gives octets old.owner new.owner → AppendsFront old.written new.written octets
      → new.left ≡ old.left → new.unheard ≡ old.unheard → Fails cause start new
  write_fails cause failed start old new octets fault leads gives wrote left unheard = record {
    mid = old;
    spent = λ is. absurd (fault_unspent cause failed fault is);
    leads = leads;
    octets = octets;
    breaks = record {
      given = new.owner;
      gives = inr gives;
      lets = side.lets_none new.owner;
      left = subst (λ l. Keeps old.left.octets l.octets) (sym left) (Keeps-refl old.left.octets);
      ended = ap (λ l. l.ended) left;
      unheard = unheard;
      wrote = wrote;
    };
  }
