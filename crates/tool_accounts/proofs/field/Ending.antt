-- What is read, and how it ends.
use Rattle.std.proofs.Common.{◌≡◌, ◌≤◌, ℕ, ◌+◌, ◌-◌, ◌==◌, List, [], ◌∷◌, ◌++◌, length, take, nat_lt, nat_eq, Bool, true, false, if◌then◌else◌, Option, Result, Ok, Err, inl, inr, ap, arith, refl, subst, sym, length-append}
use Rattle.std.specs.List.{ends_with}
use Rattle.std.proofs.KnownBytes.{Consumes-trans, Keeps-refl}
use Rattle.std.proofs.lemmas.Bool.Decides.{nat_tests}
use Rattle.std.proofs.lemmas.List.{length-take-le}
use Rattle.std.specs.Io.KnownBytes.{Appends, Consumes, IsAtEnd}
use Rattle.ftp_ports.specs.Beginning.{AppendsFront}
use Rattle.ftp_path.specs.Login.{login_limit}
use Rattle.tool_accounts.proofs.field.Opening.{field_is}
use Rattle.tool_accounts.specs.field.Field.{made_field}
use Rattle.tool_accounts.specs.field.Making.{ReadAdds, Ends, MakesField, Reads}
use Rattle.tool_accounts.specs.field.Typed.{line_in, password_in}
use Rattle.tool_accounts.specs.declared.field.fault.PasswordFault.{PasswordFault}
use Rattle.tool_terminal.specs.declared.status.Status.{Status}
use Rattle.tool_terminal.specs.declared.status.Status.TheVariants.{Done, BadWords, Failed}

-- one read more
pub reads_more : (a b c : Option (List ℕ)) (old new : List ℕ) (count : ℕ) → Consumes a b old → ReadAdds b c old new count → Consumes a c new
reads_more a b c old new count before adds = subst (λ octets. Consumes a c octets) (sym adds.3) (Consumes-trans a b c old adds.0 before adds.2)

-- and how many octets there are then
pub counts_more : (b c : Option (List ℕ)) (old new : List ℕ) (count : ℕ) → ReadAdds b c old new count → length new ≡ length old + count
counts_more b c old new count adds =
    let e = ap length adds.3 in
    let f = length-append old adds.0 in
    omega (arith, e, f, adds.1)

-- what is no fault passed its test
passed_by : {A F : Type 0} (test : Bool) (fault : F) (rest : Result A F) (x : A)
    → (if test then Err fault else rest) ≡ Ok x → (test ≡ false) × (rest ≡ Ok x)
passed_by true fault rest x says = absurd (cc)
passed_by false fault rest x says = (refl, says)

-- a line is at most two octets longer than what stands before its end
line_length : (input : List ℕ) → length input ≤ length (line_in input) + 2
line_length input = by_tests (ends_with nat_eq input (13 ∷ 10 ∷ [])) (ends_with nat_eq input (10 ∷ []))
  where
    by_tests : (a b : Bool) → length input ≤ length (if a then take (length input - 2) input else (if b then take (length input - 1) input else input)) + 2
    by_tests true b = let e = length-take-le (length input - 2) input (omega arith) in omega (arith, e)
    by_tests false true = let e = length-take-le (length input - 1) input (omega arith) in omega (arith, e)
    by_tests false false = omega arith

-- an input that has a password is not longer than what is read
has_end : (input password : List ℕ) → password_in input ≡ Ok password → length input ≤ 257
has_end input password says =
    let line = line_in input in
    let first = passed_by (length line == 0) _ _ password says in
    let second = passed_by (nat_lt login_limit (length line)) _ _ password first.1 in
    let short : length line ≤ 255 = below (length line) second.0 in
    let long = line_length input in
    omega (arith, short, long)
  where
    below : (n : ℕ) → nat_lt 255 n ≡ false → n ≤ 255
    below n test = grind (arith, nat_tests, test)

-- a field is made of all that there is
makes : (rounds : Option ℕ) (salt : List ℕ) (before after : Option (List ℕ)) (input text : List ℕ)
    → Reads before after input → made_field rounds salt input ≡ Ok text → MakesField rounds salt before after text
makes rounds salt before after input text reads is =
    let f = field_is rounds salt input text is in
    let short = has_end input f.password f.says in
    record {
      input = input;
      reads = (reads.1, elim reads.2 as (λ _. IsAtEnd after) [ inl end ↦ end | inr full ↦ absurd (omega (arith, full, short)) ]);
      makes = is;
      password = f.password;
      says = f.says;
      opens = f.opens;
    }

-- it was written
pub ends_done : (rounds : Option ℕ) (salt : List ℕ) (before after old new : Option (List ℕ)) (input text : List ℕ)
    → Reads before after input → made_field rounds salt input ≡ Ok text → Appends old new (text ++ 10 ∷ []) → Ends rounds salt before after old new Done
ends_done rounds salt before after old new input text reads is wrote =
    record { text = text; makes = makes rounds salt before after input text reads is; wrote = wrote }

-- there was none
pub ends_refused : (rounds : Option ℕ) (salt : List ℕ) (before after old : Option (List ℕ)) (input : List ℕ) (fault : PasswordFault) (status : Status)
    → status ≡ BadWords → Reads before after input → made_field rounds salt input ≡ Err fault → Ends rounds salt before after old old status
ends_refused rounds salt before after old input fault status is reads wrong =
    subst (λ s. Ends rounds salt before after old old s) (sym is)
    (record { input = input; reads = reads; fault = fault; wrong = wrong; kept = Keeps-refl old })

-- nothing was read
pub ends_unread : (rounds : Option ℕ) (salt : List ℕ) (before after old : Option (List ℕ)) (status : Status)
    → status ≡ Failed → Ends rounds salt before after old old status
ends_unread rounds salt before after old status is = subst (λ s. Ends rounds salt before after old old s) (sym is) (inl (Keeps-refl old))

-- a beginning was written
pub ends_failed : (rounds : Option ℕ) (salt : List ℕ) (before after old new : Option (List ℕ)) (input text : List ℕ) (status : Status)
    → status ≡ Failed → Reads before after input → made_field rounds salt input ≡ Ok text → AppendsFront old new (text ++ 10 ∷ [])
    → Ends rounds salt before after old new status
ends_failed rounds salt before after old new input text status is reads made wrote =
    subst (λ s. Ends rounds salt before after old new s) (sym is)
    (inr (record { text = text; makes = makes rounds salt before after input text reads made; wrote = wrote }))
