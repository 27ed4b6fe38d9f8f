-- An operation after a look at its path.
use Rattle.std.proofs.Common.{◌≡◌, ◌⊎◌, ◌≤◌, arith, inl, inr, Result, Ok, Err, IfOk, OnErr, refl, ap, sym, ◌∙◌, subst}
use Rattle.ftp_tree.specs.Change.{Failures, IsSteady, NoStray, Tells, TellsOne, next_count, one_failure_more}
use Rattle.ftp_tree.specs.declared.fault.TreeFault.{TreeFault}
use Rattle.ftp_tree.specs.declared.fault.TreeFault.TheVariants.{Absent, Exists, NotEmpty, WrongKind, TooBig, Full, Busy, BadOffset, Device, Memory}
use Rattle.ftp_tree.specs.Tree.{Table}
use Rattle.ftp_tree.proofs.CountLemmas.{next_count-moves, stray-first}
use Rattle.ftp_operation.specs.declared.answer.Answer.{Answer}
use Rattle.ftp_operation.specs.Answer.{Said, Refused, said_of}
use Rattle.ftp_direct.specs.Direct.{State}
use Rattle.ftp_direct.specs.declared.refusal.Refusal.TheVariants.{LocalFault}
use Rattle.ftp_direct.specs.Refusal.{code_of}
use Rattle.ftp_direct.specs.Run.{Gives, IsAnswer, IsAsBefore}
use Rattle.ftp_direct.proofs.RefusalLemmas.{stays}

-- counts are the same where both parts are
pub same-counts : (before after : Failures) → after.told ≡ before.told → after.strays ≡ before.strays → after ≡ before
same-counts before after told strays = λ i. record { told = told i; strays = strays i }

-- strays never fall in an operation
pub strays-rise : (before after : Failures) (due : Said × State) (old : State) (said : Said) (new : State) → IsAnswer before after due old said new → before.strays ≤ after.strays
strays-rise before after due old said new is = elim is.counted [ inl steady ↦ steady.1 | inr one ↦ one.1 ]

-- an answer where the device did not stray is one, once it is known how the counts moved
pub unstrayed : (before after : Failures) (due : Said × State) (old : State) (said : Said) (new : State) → (NoStray before after → IsAnswer before after due old said new)
    → IsSteady before after ⊎ TellsOne before after → IsAnswer before after due old said new
unstrayed before after due old said new is counted = record {
  steady = λ kept. (is (ap (λ f. f.strays) kept)).steady kept;
  failed = λ moved. (is (ap (λ f. f.strays) moved)).failed moved;
  counted = counted;
}

-- a call of the tree tells one failure or none
pub tells-counted : {X : Type 0} (result : Result X TreeFault) (before after : Failures) → Tells result before after → IsSteady before after ⊎ TellsOne before after
tells-counted (Ok done) before after told = inl told
tells-counted (Err Absent) before after told = inl told
tells-counted (Err Exists) before after told = inl told
tells-counted (Err NotEmpty) before after told = inl told
tells-counted (Err WrongKind) before after told = inl told
tells-counted (Err TooBig) before after told = inl told
tells-counted (Err Full) before after told = inl told
tells-counted (Err Busy) before after told = inl told
tells-counted (Err BadOffset) before after told = inl told
tells-counted (Err Device) before after told = inr told
tells-counted (Err Memory) before after told = inl told

-- whatever is made of a refused call of the tree
pub whatever_counted : {Y E : Type 0} (X : Type 0) (result : Result Y E) (fault : TreeFault) (before after : Failures) → Tells {X = X} (Err fault) before after
    → IfOk result (λ value. IsSteady before after ⊎ TellsOne before after)
whatever_counted X (Ok value) fault before after told = tells-counted {X = X} (Err fault) before after told
whatever_counted X (Err why) fault before after told = tt

-- calls in which no failure was told, and then one in which one may be
counted-on : (before mid after : Failures) → IsSteady before mid → IsSteady mid after ⊎ TellsOne mid after → IsSteady before after ⊎ TellsOne before after
counted-on before mid after steady (inl more) = inl (more.0 ∙ steady.0, omega (arith, more.1, steady.1))
counted-on before mid after steady (inr one) = inr (one.0 ∙ ap next_count steady.0, omega (arith, one.1, steady.1))

-- an answer of a call says how the counts moved
pub if_counted : {A E : Type 0} (result : Result (Answer A) E) (before after : Failures) (due : Said × State) (old new : State)
    → IfOk result (λ answer. IsAnswer before after due old (said_of answer) new) → IfOk result (λ answer. IsSteady before after ⊎ TellsOne before after)
if_counted (Ok answer) before after due old new is = is.counted
if_counted (Err fault) before after due old new is = tt

-- ---- an answer after calls in which no failure was told

module _ (before mid after : Failures) (table now : Table) (steady : IsSteady before mid) (same : NoStray before mid → now ≡ table) where
  -- where the device strayed in neither the first counts stay, and so does the map
  kept-first : mid.strays ≤ after.strays → after.strays ≡ before.strays → mid ≡ before
  kept-first rise stray = same-counts before mid steady.0 (stray-first before mid after steady.1 rise stray)

  pub looked : (due : Table → Said × State) (old : Table → State) (said : Said) (new : State) → IsAnswer mid after (due now) (old now) said new
      → IsAnswer before after (due table) (old table) said new
  looked due old said new is =
      let rise = strays-rise mid after (due now) (old now) said new is in
      let map : after.strays ≡ before.strays → now ≡ table = λ stray. same (stray-first before mid after steady.1 rise stray) in record {
        steady = λ kept.
            let stray = ap (λ f. f.strays) kept in
            subst (λ t. Gives (due t) said new) (map stray) (is.steady (kept ∙ sym (kept-first rise stray)));
        failed = λ moved.
            let stray = ap (λ f. f.strays) moved in
            subst (λ t. Gives (Refused (code_of LocalFault), old t) said new) (map stray) (is.failed (moved ∙ ap one_failure_more (sym (kept-first rise stray))));
        counted = counted-on before mid after steady is.counted;
      }

  -- the same of a call's answer
  pub if_looked : {A E : Type 0} (result : Result (Answer A) E) (due : Table → Said × State) (old : Table → State) (new : State)
      → IfOk result (λ answer. IsAnswer mid after (due now) (old now) (said_of answer) new) → IfOk result (λ answer. IsAnswer before after (due table) (old table) (said_of answer) new)
  if_looked (Ok answer) due old new is = looked due old (said_of answer) new is
  if_looked (Err fault) due old new is = tt

  -- and where memory was refused in it
  pub if_looked_before : {X E : Type 0} (result : Result X E) (new : Table) → OnErr result (IsAsBefore mid after now new) → OnErr result (IsAsBefore before after table new)
  if_looked_before (Ok value) new is = tt
  if_looked_before (Err fault) new is = record {
    table = λ stray. is.table (omega (arith, steady.1, is.counts.1, stray)) ∙ same (stray-first before mid after steady.1 is.counts.1 stray);
    counts = (is.counts.0 ∙ steady.0, omega (arith, steady.1, is.counts.1));
  }

-- where the counts did not move in what follows
pub looked_still : (before mid : Failures) (table now : Table) → IsSteady before mid → (NoStray before mid → now ≡ table) → (due : Table → Said × State) (old : Table → State) (said : Said) (new : State)
    → Gives (due now) said new → IsAnswer before mid (due table) (old table) said new
looked_still before mid table now steady same due old said new gives =
    looked before mid mid table now steady same due old said new (stays mid mid (due now) (old now) said new refl gives)

-- the same, where what was found is known of a device that did not stray alone
pub looked_once : (before mid after : Failures) (table now : Table) → IsSteady before mid → (NoStray before mid → now ≡ table) → (due : Said × State) (old : State) (said : Said) (new : State)
    → IsSteady mid after ⊎ TellsOne mid after → (NoStray before mid → now ≡ table → IsAnswer mid after due old said new) → IsAnswer before after due old said new
looked_once before mid after table now steady same due old said new counted is =
    let rise : mid.strays ≤ after.strays = elim counted [ inl more ↦ more.1 | inr one ↦ one.1 ] in
    unstrayed before after due old said new
    (λ stray.
    let none = stray-first before mid after steady.1 rise stray in
    subst (λ counts. IsAnswer counts after due old said new) (same-counts before mid steady.0 none) (is none (same none)))
    (counted-on before mid after steady counted)

pub if_looked_once : {A E : Type 0} (before mid after : Failures) (table now : Table) → IsSteady before mid → (NoStray before mid → now ≡ table) → (result : Result (Answer A) E)
    (due : Said × State) (old new : State) → IfOk result (λ answer. IsSteady mid after ⊎ TellsOne mid after)
    → (NoStray before mid → now ≡ table → IfOk result (λ answer. IsAnswer mid after due old (said_of answer) new))
    → IfOk result (λ answer. IsAnswer before after due old (said_of answer) new)
if_looked_once before mid after table now steady same (Ok answer) due old new counted is = looked_once before mid after table now steady same due old (said_of answer) new counted is
if_looked_once before mid after table now steady same (Err fault) due old new counted is = tt

-- ---- an answer after two calls in which no failure was told

module _ (before mid next after : Failures) (table now then : Table) (first : IsSteady before mid) (same : NoStray before mid → now ≡ table)
    (second : IsSteady mid next) (stays_so : NoStray mid next → then ≡ now) where
  pub looked_twice : (due : Said × State) (old : State) (said : Said) (new : State) → IsSteady next after ⊎ TellsOne next after
      → (NoStray mid next → now ≡ table → then ≡ table → IsAnswer next after due old said new) → IsAnswer before after due old said new
  looked_twice due old said new counted is =
      let rise : next.strays ≤ after.strays = elim counted [ inl steady ↦ steady.1 | inr one ↦ one.1 ] in
      unstrayed before after due old said new
      (λ stray.
      let none : NoStray before mid = omega (arith, first.1, second.1, rise, stray) in
      let still : NoStray mid next = omega (arith, first.1, second.1, rise, stray) in
      let kept : next ≡ before = same-counts before next (second.0 ∙ first.0) (omega (arith, first.1, second.1, rise, stray)) in
      subst (λ counts. IsAnswer counts after due old said new) kept (is still (same none) (stays_so still ∙ same none)))
      (counted-on before mid after first (counted-on mid next after second counted))

  pub if_looked_twice : {A E : Type 0} (result : Result (Answer A) E) (due : Said × State) (old new : State) → IfOk result (λ answer. IsSteady next after ⊎ TellsOne next after)
      → (NoStray mid next → now ≡ table → then ≡ table → IfOk result (λ answer. IsAnswer next after due old (said_of answer) new))
      → IfOk result (λ answer. IsAnswer before after due old (said_of answer) new)
  if_looked_twice (Ok answer) due old new counted is = looked_twice due old (said_of answer) new counted is
  if_looked_twice (Err fault) due old new counted is = tt

-- ---- no path was seen

-- a look that failed is told as a failure of the device
pub failed_look : (before after : Failures) (table now : Table) → TellsOne before after → (NoStray before after → now ≡ table) → (due : Said × State) (state : Table → State) (said : Said)
    → said ≡ Refused (code_of LocalFault) → IsAnswer before after due (state table) said (state now)
failed_look before after table now one same due state said told = record {
  steady = λ kept. absurd (next_count-moves before.told (sym (ap (λ f. f.told) kept) ∙ one.0));
  failed = λ moved. (told, ap state (same (ap (λ f. f.strays) moved)));
  counted = inr one;
}
