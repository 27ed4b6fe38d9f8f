-- The operations of an upload over breaks: which follow which, that each can be sent, and that nothing follows an answer of the direct run to a put.
use Rattle.std.proofs.Common.{◌≡◌, ◌⊎◌, inl, inr, ℕ, ◌-◌, ◌==◌, ◌&&◌, Bool, true, false, List, length, Option, Some, None, refl, sym, ap, subst, ◌∙◌}
use Rattle.std.specs.Prelude.{if◌then◌else◌, nat_le}
use Rattle.std.specs.Option.{option_or}
use Rattle.ftp_operation.specs.Answer.{Said, BadOperation, Refused, Broken, Unopened}
use Rattle.ftp_operation.specs.Operation.{can_be_sent, is_number, is_path_text}
use Rattle.ftp_operation.specs.declared.op.Op.{Op}
use Rattle.ftp_operation.specs.declared.op.Op.TheVariants as Ops
use Rattle.ftp_direct.specs.declared.refusal.Refusal.{Refusal}
use Rattle.ftp_direct.specs.declared.refusal.Refusal.TheVariants as Refusals
use Rattle.ftp_direct.specs.Refusal.{code_of}
use Rattle.ftp_direct.specs.Direct.{State, answer, chosen, done, file_of, first_refusal, refusal, refused_file, refused_number, refused_size, size_in}
use Rattle.ftp_direct.proofs.PlaceLemmas.{told_size}
use Rattle.ftp_client_model.specs.Tries.{OverBreaks, Run, after_size, after_try, is_size, next_in, next_of, rest_put, run_at, try_behind, whole_put}
use Rattle.laws_dialogues.specs.Fetches.{IsStore}
use Rattle.laws_agreement.specs.Tried.{IsTryOf}

-- what is neither true is nothing
only_some : {X : Type 0} (b : Bool) (o : Option X) (x : X) → (if b then None else o) ≡ Some x → o ≡ Some x
only_some true o x is = absurd (cc)
only_some false o x is = is

-- the second of two refusals is none, where neither is one
second_none : (one other : Option Refusal) → option_or one other ≡ None → other ≡ None
second_none None other is = is
second_none (Some why) other is = absurd (cc)

-- a number that is not refused can be said
number_fine : (n : ℕ) → refused_number n ≡ None → is_number n ≡ true
number_fine n none = by (is_number n) none
  where
    by : (b : Bool) → (if b then None else Some Refusals.Unavailable) ≡ None → b ≡ true
    by true is = refl
    by false is = absurd (cc)

-- who is not known is refused
known_none : (known : Bool) (why : Option Refusal) → (if known then why else Some Refusals.NotLoggedIn) ≡ None → why ≡ None
known_none true why is = is
known_none false why is = absurd (cc)

-- an operation is answered as one that can't be sent, as refused, or as done
pub answered_by : (Holds : Said → Type 0) (now : State) (op : Op (List ℕ)) (moment : ℕ) → Holds BadOperation
    → ((why : Refusal) → Holds (Refused (code_of why))) → (first_refusal now op ≡ None → Holds (done now op moment).0) → Holds (answer now op moment).0
unfolding answer
answered_by Holds now op moment bad refused does = by (can_be_sent op) (first_refusal now op) refl
  where
    by : (can : Bool) (first : Option Refusal) → first_refusal now op ≡ first → Holds (if can then chosen first now (done now op moment) else (BadOperation, now)).0
    by false first is = bad
    by true None is = does is
    by true (Some why) is = refused why

module _ (u : OverBreaks) where
  -- an operation of it is a put, or SIZE
  pub kind_of : (op : Op (List ℕ)) → IsTryOf u op → (IsStore op × (is_size op ≡ false)) ⊎ (op ≡ Ops.Size u.path u.how)
  kind_of op (inl is) = inl (subst (λ o. IsStore o × (is_size o ≡ false)) (sym is) (tt, refl))
  kind_of op (inr (inl (count, is, fine))) = inl (subst (λ o. IsStore o × (is_size o ≡ false)) (sym is) (tt, refl))
  kind_of op (inr (inr is)) = inr is

  -- it can be sent
  pub try_sent : (op : Op (List ℕ)) → is_path_text u.path ≡ true → IsTryOf u op → can_be_sent op ≡ true
  try_sent op path (inl is) = ap can_be_sent is ∙ path
  try_sent op path (inr (inl (count, is, fine))) = ap can_be_sent is ∙ (λ i. path i && fine i)
  try_sent op path (inr (inr is)) = ap can_be_sent is ∙ path

  -- ---- what follows

  module _ (run : Run) (of : run.upload ≡ u) where
    -- in a run follows what follows in its upload
    in_upload : (op : Op (List ℕ)) (said : Said) (next : Op (List ℕ)) → next_in run op said ≡ Some next → next_of u op said ≡ Some next
    in_upload op said next is = ap (λ upload. next_of upload op said) (sym of) ∙ only_some (run.left == 0) (next_of run.upload op said) next is

    -- the run goes on with the same upload
    pub of_next : (next : Op (List ℕ)) → (run_at next run).upload ≡ u
    of_next next = by (is_size next)
      where
        by : (b : Bool) → (if b then run else record run { left = run.left - 1 }).upload ≡ u
        by true = of
        by false = of

    -- behind a put SIZE, or the same again
    pub next_put : (op : Op (List ℕ)) (said : Said) (next : Op (List ℕ)) → is_size op ≡ false → next_in run op said ≡ Some next → (next ≡ Ops.Size u.path u.how) ⊎ (next ≡ op)
    next_put op said next put is = by said (ap (λ b. if b then after_size u said else after_try u op said) (sym put) ∙ in_upload op said next is)
      where
        by : (said : Said) → after_try u op said ≡ Some next → (next ≡ Ops.Size u.path u.how) ⊎ (next ≡ op)
        by (Broken got mark) is = inl (cc)
        by Unopened is = inr (cc)
        by said is = absurd (cc)

    -- so it is an operation of the upload
    pub put_try : (op : Op (List ℕ)) (said : Said) (next : Op (List ℕ)) → is_size op ≡ false → IsTryOf u op → next_in run op said ≡ Some next → IsTryOf u next
    put_try op said next put one is = elim (next_put op said next put is) [ inl size ↦ inr (inr size) | inr same ↦ subst (IsTryOf u) (sym same) one ]

    -- behind SIZE, as the direct run answers it, a put
    pub size_try : (now : State) (moment : ℕ) (said : Said) (next : Op (List ℕ)) → said ≡ (answer now (Ops.Size u.path u.how) moment).0 → next_in run (Ops.Size u.path u.how) said ≡ Some next
        → IsTryOf u next × (is_size next ≡ false)
    size_try now moment said next is follows =
        let Leads : Said → Type 0 = λ said. after_size u said ≡ Some next → IsTryOf u next × (is_size next ≡ false) in
        subst Leads (sym is)
        (answered_by Leads now (Ops.Size u.path u.how) moment (λ none. absurd (cc)) (λ why some. by_code (code_of why == 550) some) (λ fine some. by_number (number_of fine) some))
        (in_upload (Ops.Size u.path u.how) said next follows)
      where
        length_now : ℕ
        length_now = size_in u.how.representation.kind (file_of now u.path)

        number_of : first_refusal now (Ops.Size u.path u.how) ≡ None → is_number length_now ≡ true
        number_of none =
            number_fine length_now
            (told_size u.how.representation.kind (file_of now u.path)
            (second_none (refused_file now u.path) (refused_size u.how.representation.kind (file_of now u.path)) (known_none now.known (refusal now (Ops.Size u.path u.how)) none)))

        anew : whole_put u ≡ next → IsTryOf u next × (is_size next ≡ false)
        anew is = (inl (sym is), ap is_size (sym is))

        some_is : (one other : Op (List ℕ)) → Some one ≡ Some other → one ≡ other
        some_is one other is = cc

        by_code : (b : Bool) → (if b then Some (whole_put u) else None) ≡ Some next → IsTryOf u next × (is_size next ≡ false)
        by_code true some = anew (some_is (whole_put u) next some)
        by_code false some = absurd (cc)

        by_number : is_number length_now ≡ true → Some (try_behind u length_now) ≡ Some next → IsTryOf u next × (is_size next ≡ false)
        by_number fine some = by_long (nat_le length_now (length u.octets)) (some_is (try_behind u length_now) next some)
          where
            by_long : (b : Bool) → (if b then rest_put u length_now else whole_put u) ≡ next → IsTryOf u next × (is_size next ≡ false)
            by_long true is = (inr (inl (length_now, sym is, fine)), ap is_size (sym is))
            by_long false is = anew is

    -- nothing follows what the direct run answers to a put
    pub none_direct : (op : Op (List ℕ)) (now : State) (moment : ℕ) (said : Said) → IsStore op → is_size op ≡ false → said ≡ (answer now op moment).0 → next_in run op said ≡ None
    none_direct op now moment said store put is =
        let Ends : Said → Type 0 = λ said. next_in run op said ≡ None in
        subst Ends (sym is) (answered_by Ends now op moment (ended BadOperation refl) (λ why. ended (Refused (code_of why)) refl) (λ fine. by_store op store put))
      where
        by_left : (b : Bool) (o : Option (Op (List ℕ))) → o ≡ None → (if b then None else o) ≡ None
        by_left true o none = refl
        by_left false o none = none

        ended : (said : Said) → after_try run.upload op said ≡ None → next_in run op said ≡ None
        ended said none = by_left (run.left == 0) (next_of run.upload op said) (ap (λ b. if b then after_size run.upload said else after_try run.upload op said) put ∙ none)

        by_store : (op : Op (List ℕ)) → IsStore op → is_size op ≡ false → next_in run op (done now op moment).0 ≡ None
        by_store (Ops.Put text octets how) store put = by_left (run.left == 0) None refl
        by_store (Ops.Append text octets how) store put = by_left (run.left == 0) None refl
        by_store (Ops.PutFrom text offset octets how) store put = by_left (run.left == 0) None refl
        by_store Ops.Where store put = absurd store
        by_store (Ops.ChangeDir text) store put = absurd store
        by_store Ops.Up store put = absurd store
        by_store (Ops.MakeDir text) store put = absurd store
        by_store (Ops.RemoveDir text) store put = absurd store
        by_store (Ops.Delete text) store put = absurd store
        by_store (Ops.Rename text new) store put = absurd store
        by_store (Ops.Get text how) store put = absurd store
        by_store (Ops.GetFrom text at how) store put = absurd store
        by_store (Ops.Peek text count how) store put = absurd store
        by_store (Ops.Size text how) store put = absurd store
        by_store (Ops.Modified text) store put = absurd store
        by_store (Ops.Facts text) store put = absurd store
        by_store (Ops.List text how) store put = absurd store
        by_store (Ops.Names text how) store put = absurd store
        by_store (Ops.Text verb text how) store put = absurd store
