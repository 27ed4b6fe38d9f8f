-- A reader that has heard some row of octets takes one more.
use Rattle.std.proofs.Common.{◌≡◌, ℕ, ◌<◌, ◌≤◌, List, [], ◌∷◌, ◌++◌, refl, sym, ap, subst, ◌∙◌, append-nil, arith, take, zero, suc}
use Rattle.std.proofs.Math.Logic.{∥∥₁_prop, ∥∥₁_elim}
use Rattle.std.proofs.Props.{props}
use Rattle.std.proofs.lemmas.List.{append_cancel_left}
use Rattle.ftp_pieces.specs.Machine.{after, gives}
use Rattle.ftp_pieces.proofs.MachineLemmas.{after-append, gives-append}
use Rattle.ftp_nvt.specs.Ear.{Hears, limit_of}
use Rattle.ftp_nvt.specs.Fold.{Ear, quiet, ear, ear_of, ear_step, ear_out}
use Rattle.ftp_nvt.specs.Lines.{NvtEvent, events}
use Rattle.ftp_nvt.specs.declared.ear.Ear.{Ear as Reader}
use Rattle.ftp_nvt.proofs.FoldLemmas.{ear_gives_events}
use Rattle.ftp_nvt.proofs.ReaderLemmas.{reader_is_ear}
use Rattle.ftp_server.specs.Hearing.{HasHeardSome}

ear_set : (a b : Ear) → IsProp (a ≡ b)
ear_set a b = hlevel props

events_set : (a b : List NvtEvent) → IsProp (a ≡ b)
events_set a b = hlevel props

-- of one octet at least one, and no more, is that one
pub one_taken : (n octet : ℕ) → 0 < n → n ≤ 1 → take n (octet ∷ []) ≡ octet ∷ []
one_taken zero octet some within = absurd (omega (arith, some))
one_taken (suc zero) octet some within = refl
one_taken (suc (suc n)) octet some within = absurd (omega (arith, within))

-- one octet, behind a known row
record Takes {A : Type 0} (limit : ℕ) (old : Reader A) (octet : ℕ) (added : List NvtEvent) (new : Reader A) : Type 0 where
  pub step : ear_of new ≡ ear_step limit (ear_of old) octet
  pub out : added ≡ ear_out limit (ear_of old) octet

takes_by : {A : Type 0} (limit : ℕ) (old new : Reader A) (octet : ℕ) (added : List NvtEvent) → limit_of old ≡ limit → Hears old (octet ∷ []) added new
    → HasHeardSome old → Takes limit old octet added new
takes_by limit old new octet added same h (octets, was) =
    let o : ear_of old ≡ after (ear limit) quiet octets = subst (λ l. ear_of old ≡ after (ear l) quiet octets) same (reader_is_ear old octets was) in
    let n : ear_of new ≡ after (ear limit) quiet (octets ++ octet ∷ []) =
    subst (λ l. ear_of new ≡ after (ear l) quiet (octets ++ octet ∷ [])) (h.limit ∙ same) (reader_is_ear new (octets ++ octet ∷ []) (h.heard octets was)) in
    let g = ear_gives_events limit in
    let s = subst (λ l. events l (octets ++ octet ∷ []) ≡ events l octets ++ added) same (h.said octets was) in
    let two : gives (ear limit) quiet octets ++ gives (ear limit) (after (ear limit) quiet octets) (octet ∷ []) ≡ gives (ear limit) quiet octets ++ added =
    sym (gives-append (ear limit) quiet octets (octet ∷ [])) ∙ g (octets ++ octet ∷ []) ∙ s ∙ ap (λ l. l ++ added) (sym (g octets)) in
    let cancelled = append_cancel_left (gives (ear limit) quiet octets) (gives (ear limit) (after (ear limit) quiet octets) (octet ∷ [])) added two in
    record {
      step = n ∙ after-append (ear limit) quiet octets (octet ∷ []) ∙ ap (λ e. ear_step limit e octet) (sym o);
      out = sym cancelled ∙ append-nil (ear_out limit (after (ear limit) quiet octets) octet) ∙ ap (λ e. ear_out limit e octet) (sym o);
    }

pub steps : {A : Type 0} (limit : ℕ) (old new : Reader A) (octet : ℕ) (added : List NvtEvent) → limit_of old ≡ limit → Hears old (octet ∷ []) added new
    → ∥ HasHeardSome old ∥₁ → ear_of new ≡ ear_step limit (ear_of old) octet
steps limit old new octet added same h was = ∥∥₁_elim was (ear_set _ _) (λ some. (takes_by limit old new octet added same h some).step)

pub says : {A : Type 0} (limit : ℕ) (old new : Reader A) (octet : ℕ) (added : List NvtEvent) → limit_of old ≡ limit → Hears old (octet ∷ []) added new
    → ∥ HasHeardSome old ∥₁ → added ≡ ear_out limit (ear_of old) octet
says limit old new octet added same h was = ∥∥₁_elim was (events_set _ _) (λ some. (takes_by limit old new octet added same h some).out)

pub heard_on : {A : Type 0} (old new : Reader A) (octet : ℕ) (added : List NvtEvent) → Hears old (octet ∷ []) added new
    → ∥ HasHeardSome old ∥₁ → ∥ HasHeardSome new ∥₁
heard_on old new octet added h was = ∥∥₁_elim was ∥∥₁_prop (λ some. ∣ (some.0 ++ octet ∷ [], h.heard some.0 some.1) ∣₁)
