-- What is left of a writing that breaks off.
use Rattle.std.proofs.Common.{ℕ, ◌+◌, ◌∙◌, Option, Some, None, List, ◌++◌, length, take, subst, sym, arith, length-append, append-nil, []}
use Rattle.std.proofs.Math.Seq.{take-append_seam, take-append-add}
use Rattle.std.proofs.lemmas.List.{take-append-le}
use Rattle.std.proofs.KnownBytes.{Appends-nil, Appends-trans}
use Rattle.std.specs.Io.KnownBytes.{Appends, Consumes, Keeps}
use Rattle.ftp_ports.specs.Beginning.{AppendsFront}

-- all of some octets are a beginning of these and more
pub Appends-front : (a b : Option (List ℕ)) (xs ys : List ℕ) → Appends a b xs → AppendsFront a b (xs ++ ys)
Appends-front a b xs ys all =
    (length xs, let e = length-append xs ys in omega (arith, e), subst (λ l. Appends a b l) (sym (take-append_seam xs ys)) all)

-- a beginning of some octets is one of these and more
pub AppendsFront-more : (a b : Option (List ℕ)) (xs ys : List ℕ) → AppendsFront a b xs → AppendsFront a b (xs ++ ys)
AppendsFront-more a b xs ys front =
    (front.0, let e = length-append xs ys in omega (arith, e, front.1), subst (λ l. Appends a b l) (sym (take-append-le front.0 xs ys front.1)) front.2)

-- all of some octets, and then a beginning of others
pub Appends-then-front : (a b c : Option (List ℕ)) (xs ys : List ℕ) → Appends a b xs → AppendsFront b c ys → AppendsFront a c (xs ++ ys)
Appends-then-front a b c xs ys all front = (
  length xs + front.0,
  let e = length-append xs ys in omega (arith, e, front.1),
  subst (λ l. Appends a c l) (sym (take-append-add xs ys front.0)) (Appends-trans a b c xs (take front.0 ys) all front.2),
)

-- nothing read, and then some octets
pub Keeps-then-Consumes : (a b c : Option (List ℕ)) (xs : List ℕ) → Keeps a b → Consumes b c xs → Consumes a c xs
Keeps-then-Consumes None b c xs kept read = tt
Keeps-then-Consumes (Some l) None c xs kept read = absurd kept
Keeps-then-Consumes (Some l) (Some m) None xs kept read = absurd read
Keeps-then-Consumes (Some l) (Some m) (Some n) xs kept read = sym kept ∙ read

-- all of some octets are a beginning of them
pub Appends-whole : (a b : Option (List ℕ)) (xs : List ℕ) → Appends a b xs → AppendsFront a b xs
Appends-whole a b xs all = subst (λ l. AppendsFront a b l) (append-nil xs) (Appends-front a b xs [] all)

-- nothing is a beginning of anything
pub AppendsFront-none : (a : Option (List ℕ)) (xs : List ℕ) → AppendsFront a a xs
AppendsFront-none a xs = (0, omega arith, Appends-nil a)
