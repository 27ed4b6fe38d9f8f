-- Octets are the facts of one list, and what is read of them so far.
use Rattle.std.proofs.Common.{◌≡◌, ◌≢◌, ℕ, List, [], ◌∷◌, ◌++◌, Option, Some, None, option_map, arith, refl, sym, ap, ◌∙◌, append_assoc, All, cond, Bool, true, false, Bor, eqb, length, ◌≤◌}
use Rattle.std.specs.Option.{option_or, option_copied, is_some}
use Rattle.std.proofs.lemmas.List.Elements.{All-cons, All-head, All-tail, All-append, All-nil}
use Rattle.std.proofs.lemmas.List.Folds.{find-append}
use Rattle.std.specs.List.{find}
use Rattle.ftp_facts.specs.Fact.{Fact, IsFact, Lacks, BeginsWithFact, AreFacts, facts_text, first_value, is_named, is_word, equals, semicolon}

-- no octet stands where it lacks
pub Lacks-middle : (c : ℕ) (xs ys : List ℕ) → ¬ (Lacks (xs ++ c ∷ ys) c)
Lacks-middle c [] ys lacks = All-head (λ each. each ≢ c) c ys lacks refl
Lacks-middle c (x ∷ xs) ys lacks = Lacks-middle c xs ys (All-tail (λ each. each ≢ c) x (xs ++ c ∷ ys) lacks)

pub Lacks-front : (c : ℕ) (xs ys : List ℕ) → Lacks (xs ++ ys) c → Lacks xs c
Lacks-front c [] ys lacks = All-nil (λ each. each ≢ c)
Lacks-front c (x ∷ xs) ys lacks =
    All-cons (λ each. each ≢ c) x xs (All-head (λ each. each ≢ c) x (xs ++ ys) lacks) (Lacks-front c xs ys (All-tail (λ each. each ≢ c) x (xs ++ ys) lacks))

pub Lacks-back : (c : ℕ) (xs ys : List ℕ) → Lacks (xs ++ ys) c → Lacks ys c
Lacks-back c [] ys lacks = lacks
Lacks-back c (x ∷ xs) ys lacks = Lacks-back c xs ys (All-tail (λ each. each ≢ c) x (xs ++ ys) lacks)

-- two cuts at the first such octet are one
pub cut-same : (c : ℕ) (xs ys us vs : List ℕ) → Lacks xs c → Lacks ys c → xs ++ c ∷ us ≡ ys ++ c ∷ vs → (xs ≡ ys) × (us ≡ vs)
cut-same c [] [] us vs in_x in_y e = let rest : us ≡ vs = cc in (refl, rest)
cut-same c [] (y ∷ ys) us vs in_x in_y e = let same : y ≡ c = cc in absurd (All-head (λ each. each ≢ c) y ys in_y same)
cut-same c (x ∷ xs) [] us vs in_x in_y e = let same : x ≡ c = cc in absurd (All-head (λ each. each ≢ c) x xs in_x same)
cut-same c (x ∷ xs) (y ∷ ys) us vs in_x in_y e =
    let head : x ≡ y = cc in
    let tail : xs ++ c ∷ us ≡ ys ++ c ∷ vs = cc in
    let more = cut-same c xs ys us vs (All-tail (λ each. each ≢ c) x xs in_x) (All-tail (λ each. each ≢ c) y ys in_y) tail in
    let front : xs ≡ ys = more.0 in
    let all : x ∷ xs ≡ y ∷ ys = cc in
    (all, more.1)

-- octets begin with one fact
pub BeginsWithFact-same : (octets n v r name value rest : List ℕ) → BeginsWithFact octets n v r → BeginsWithFact octets name value rest → (n ≡ name) × (v ≡ value) × (r ≡ rest)
BeginsWithFact-same octets n v r name value rest a b =
    let names = cut-same equals n name (v ++ semicolon ∷ r) (value ++ semicolon ∷ rest) a.0.0 b.0.0 (sym a.1 ∙ b.1) in
    let values = cut-same semicolon v value r rest a.0.2 b.0.2 names.1 in
    (names.0, values.0, values.1)

-- the same octets, cut at the `;` first
regroup : (n v r : List ℕ) → n ++ equals ∷ (v ++ semicolon ∷ r) ≡ (n ++ equals ∷ v) ++ semicolon ∷ r
regroup n v r = sym (append_assoc n (equals ∷ v) (semicolon ∷ r))

pub no_semicolon : (octets : List ℕ) → Lacks octets semicolon → (name value rest : List ℕ) → ¬ (BeginsWithFact octets name value rest)
no_semicolon octets lacks name value rest b =
    Lacks-middle semicolon (name ++ equals ∷ value) rest (rw (b.1 ∙ regroup name value rest) at lacks)

pub no_equals : (octets fact rest : List ℕ) → octets ≡ fact ++ semicolon ∷ rest → Lacks fact semicolon → Lacks fact equals → (name value more : List ℕ) → ¬ (BeginsWithFact octets name value more)
no_equals octets fact rest is cut lacks name value more b =
    let spare : Lacks (name ++ equals ∷ value) semicolon = All-append (λ each. each ≢ semicolon) name (equals ∷ value) b.0.1 (All-cons (λ each. each ≢ semicolon) equals value (omega arith) b.0.2) in
    let same = cut-same semicolon fact (name ++ equals ∷ value) rest more cut spare (sym is ∙ b.1 ∙ regroup name value more) in
    Lacks-middle equals name value (rw same.0 at lacks)

pub begins : (octets fact rest name value : List ℕ) → octets ≡ fact ++ semicolon ∷ rest → Lacks fact semicolon → fact ≡ name ++ equals ∷ value → Lacks name equals → BeginsWithFact octets name value rest
begins octets fact rest name value is cut parts lacks =
    let spare : Lacks (name ++ equals ∷ value) semicolon = rw parts at cut in
    let tail : Lacks (equals ∷ value) semicolon = Lacks-back semicolon name (equals ∷ value) spare in
    ((lacks, Lacks-front semicolon name (equals ∷ value) spare, All-tail (λ each. each ≢ semicolon) equals value tail), is ∙ ap (λ front. front ++ semicolon ∷ rest) parts ∙ sym (regroup name value rest))

pub nonempty : (xs : List ℕ) (c : ℕ) (ys : List ℕ) → [] ≢ xs ++ c ∷ ys
nonempty [] c ys e = cc
nonempty (x ∷ xs) c ys e = cc

same_fact : (a b : Fact) → a.name ≡ b.name → a.value ≡ b.value → a ≡ b
same_fact a b p q = λ i. record { name = p i; value = q i }

-- facts that go on after the first ones are those and then others
pub facts_after : (done list : List Fact) (rest : List ℕ) → All IsFact done → All IsFact list → facts_text list ≡ facts_text done ++ rest → (more : List Fact) × All IsFact more × (list ≡ done ++ more) × (rest ≡ facts_text more)
facts_after [] list rest in_done in_list e = (list, in_list, refl, sym e)
facts_after (d ∷ ds) [] rest in_done in_list e =
    absurd (nonempty d.name equals ((d.value ++ semicolon ∷ facts_text ds) ++ rest) (e ∙ append_assoc d.name (equals ∷ (d.value ++ semicolon ∷ facts_text ds)) rest))
facts_after (d ∷ ds) (f ∷ fs) rest in_done in_list e =
    let first : IsFact f = All-head IsFact f fs in_list in
    let again : IsFact d = All-head IsFact d ds in_done in
    let unrolled : facts_text (d ∷ ds) ++ rest ≡ d.name ++ equals ∷ (d.value ++ semicolon ∷ (facts_text ds ++ rest)) = simp append_assoc in
    let same = BeginsWithFact-same (facts_text (f ∷ fs)) f.name f.value (facts_text fs) d.name d.value (facts_text ds ++ rest) (first, refl) (again, e ∙ unrolled) in
    let fact : f ≡ d = same_fact f d same.0 same.1 in
    let more = facts_after ds fs rest (All-tail IsFact d ds in_done) (All-tail IsFact f fs in_list) same.2 in
    let tail : fs ≡ ds ++ more.0 = more.2 in
    let whole : f ∷ fs ≡ d ∷ (ds ++ more.0) = cc in
    (more.0, more.1, whole, more.3)

pub facts_text-append : (xs ys : List Fact) → facts_text (xs ++ ys) ≡ facts_text xs ++ facts_text ys
facts_text-append [] ys = refl
facts_text-append (x ∷ xs) ys = rw (facts_text-append xs ys) (sym (simp append_assoc))

-- the facts so far, and the value of the first of that name among them
pub record ReadSoFar (octets name rest : List ℕ) (found : Option (List ℕ)) : Type 0 where
  pub done : List Fact
  pub each : All IsFact done
  pub written : octets ≡ facts_text done ++ rest
  pub first : first_value name done ≡ found

map_or : (a b : Option Fact) → option_map (λ fact. fact.value) (option_or a b) ≡ option_or (option_map (λ fact. fact.value) a) (option_map (λ fact. fact.value) b)
map_or None b = refl
map_or (Some f) b = refl

one_value : (name : List ℕ) (fact : Fact) → first_value name (fact ∷ []) ≡ cond (is_named name fact) (Some fact.value) None
one_value name fact = elim (is_named name fact) as (λ b. option_map (λ (f : Fact). f.value) (cond b (Some fact) None) ≡ cond b (Some fact.value) None) [ true ↦ refl | false ↦ refl ]

-- one more fact is read
pub reads_on : (octets name rest n v after : List ℕ) (found next : Option (List ℕ)) → ReadSoFar octets name rest found → BeginsWithFact rest n v after → option_or found (cond (is_named name (record { name = n; value = v })) (Some v) None) ≡ next → ReadSoFar octets name after next
reads_on octets name rest n v after found next r b is =
    let fact : Fact = record { name = n; value = v } in
    let one : All IsFact (fact ∷ []) = All-cons IsFact fact [] b.0 (All-nil IsFact) in
    let text : facts_text r.done ++ (n ++ equals ∷ (v ++ semicolon ∷ after)) ≡ facts_text (r.done ++ fact ∷ []) ++ after =
    rw (facts_text-append r.done (fact ∷ [])) (sym (simp append_assoc)) in
    record {
      done = r.done ++ fact ∷ [];
      each = All-append IsFact r.done (fact ∷ []) r.each one;
      written = r.written ∙ ap (λ tail. facts_text r.done ++ tail) b.1 ∙ text;
      first = ap (option_map (λ f. f.value)) (find-append (is_named name) r.done (fact ∷ [])) ∙ map_or (find (is_named name) r.done) (find (is_named name) (fact ∷ [])) ∙ (rw (one_value name fact) (rw r.first is));
    }

or_none : (found : Option (List ℕ)) → option_or found None ≡ found
or_none None = refl
or_none (Some v) = refl

-- where no fact follows and something is left, the octets are no facts
pub no_facts : (octets name rest : List ℕ) (found : Option (List ℕ)) → ReadSoFar octets name rest found → rest ≢ [] → ((n v after : List ℕ) → ¬ (BeginsWithFact rest n v after)) → (list : List Fact) → ¬ (AreFacts octets list)
no_facts octets name rest found r left none list are =
    let more = facts_after r.done list rest r.each are.0 (sym are.1 ∙ r.written) in
    ends rest left none more.0 more.1 more.3
  where
    ends : (rest : List ℕ) → rest ≢ [] → ((n v after : List ℕ) → ¬ (BeginsWithFact rest n v after)) → (more : List Fact) → All IsFact more → rest ≡ facts_text more → ⊥
    ends rest left none [] all e = left e
    ends rest left none (f ∷ fs) all e = none f.name f.value (facts_text fs) (All-head IsFact f fs all, e)

-- the first fact of that name, a fact of another name, and a later one
pub reads_first : (octets name rest n v after : List ℕ) (found : Option (Bor (List ℕ))) → ReadSoFar octets name rest (option_copied found) → BeginsWithFact rest n v after → is_some found ≡ false → is_word n name ≡ true → ReadSoFar octets name after (Some v)
reads_first octets name rest n v after None r b none word = reads_on octets name rest n v after None (Some v) r b (rw word refl)
reads_first octets name rest n v after (Some x) r b none word = cc

pub reads_other : (octets name rest n v after : List ℕ) (found : Option (Bor (List ℕ))) → ReadSoFar octets name rest (option_copied found) → BeginsWithFact rest n v after → is_word n name ≡ false → ReadSoFar octets name after (option_copied found)
reads_other octets name rest n v after found r b word =
    reads_on octets name rest n v after (option_copied found) (option_copied found) r b (rw word (or_none (option_copied found)))

pub reads_later : (octets name rest n v after : List ℕ) (found : Option (Bor (List ℕ))) → ReadSoFar octets name rest (option_copied found) → BeginsWithFact rest n v after → is_some found ≡ true → ReadSoFar octets name after (option_copied found)
reads_later octets name rest n v after None r b some = cc
reads_later octets name rest n v after (Some x) r b some = reads_on octets name rest n v after (Some x.now) (Some x.now) r b refl

-- what is not empty has an octet
pub filled : (octets : List ℕ) (b : Bool) → b ≡ false → b ≡ eqb (length octets) 0 → 1 ≤ length octets
filled octets b is test = grind arith

pub not_empty : (octets : List ℕ) → 1 ≤ length octets → octets ≢ []
not_empty octets some e = omega (arith, ap length e)

-- what no octet is in
pub emptied : (octets : List ℕ) (b : Bool) → b ≡ true → b ≡ eqb (length octets) 0 → octets ≡ []
emptied [] b is test = refl
emptied (x ∷ xs) b is test = absurd (grind arith)
