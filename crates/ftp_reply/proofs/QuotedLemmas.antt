-- A quoted path has one end and one text.
use Rattle.std.proofs.Common.{◌≡◌, ◌≢◌, ◌==◌, ◌&&◌, ℕ, ◌<◌, ◌≤◌, Bool, true, false, ◌⊎◌, inl, inr, if◌then◌else◌, [], ◌∷◌, ◌++◌, length, All, refl, ap, sym, ◌∙◌, subst, append_assoc, append-nil, arith, eqb-true, eq-eqb}
use Rattle.std.specs.Prelude.{nat_le}
use Rattle.std.proofs.lemmas.Bool.Decides.{nat_tests}
use Rattle.std.proofs.lemmas.List.{length-append}
use Rattle.ftp_reply.proofs.FirstLemmas.{first_once}
use Rattle.ftp_path.specs.Path.{IsPathText, text_limit}
use Rattle.ftp_reply.specs.Lines.{Text}
use Rattle.ftp_reply.specs.Values.{doubled_octet, doubled, Closes, Quotes}

pub doubled_as : (x : ℕ) (b : Bool) → (x == 34) ≡ b → ((x ≡ 34) × (doubled_octet x ≡ 34 ∷ 34 ∷ [])) ⊎ ((x ≢ 34) × (doubled_octet x ≡ x ∷ []))
doubled_as x true e = inl (eqb-true x 34 e, ap (λ (b : Bool). if b then 34 ∷ 34 ∷ [] else x ∷ []) e)
doubled_as x false e = inr ((λ is. let t : (x == 34) ≡ true = eq-eqb x 34 is in cc), ap (λ (b : Bool). if b then 34 ∷ 34 ∷ [] else x ∷ []) e)

octet_once : (x y : ℕ) (xs ys : Text) → doubled_octet x ++ xs ≡ doubled_octet y ++ ys → ((x ≡ 34) × (doubled_octet x ≡ 34 ∷ 34 ∷ [])) ⊎ ((x ≢ 34) × (doubled_octet x ≡ x ∷ [])) → ((y ≡ 34) × (doubled_octet y ≡ 34 ∷ 34 ∷ [])) ⊎ ((y ≢ 34) × (doubled_octet y ≡ y ∷ [])) → (x ≡ y) × (xs ≡ ys)
octet_once x y xs ys e (inl p) (inl q) = let f : 34 ∷ 34 ∷ xs ≡ 34 ∷ 34 ∷ ys = ap (λ (d : Text). d ++ xs) (sym p.1) ∙ e ∙ ap (λ (d : Text). d ++ ys) q.1 in (cc, cc)
octet_once x y xs ys e (inl p) (inr q) = let f : 34 ∷ 34 ∷ xs ≡ y ∷ ys = ap (λ (d : Text). d ++ xs) (sym p.1) ∙ e ∙ ap (λ (d : Text). d ++ ys) q.1 in absurd (q.0 cc)
octet_once x y xs ys e (inr p) (inl q) = let f : x ∷ xs ≡ 34 ∷ 34 ∷ ys = ap (λ (d : Text). d ++ xs) (sym p.1) ∙ e ∙ ap (λ (d : Text). d ++ ys) q.1 in absurd (p.0 cc)
octet_once x y xs ys e (inr p) (inr q) = let f : x ∷ xs ≡ y ∷ ys = ap (λ (d : Text). d ++ xs) (sym p.1) ∙ e ∙ ap (λ (d : Text). d ++ ys) q.1 in (cc, cc)

-- an octet of a path isn't its end
pub octet_no_end : (x : ℕ) (xs ys : Text) → doubled_octet x ++ xs ≡ 34 ∷ ys → ((more : Text) → ys ≢ 34 ∷ more) → ((x ≡ 34) × (doubled_octet x ≡ 34 ∷ 34 ∷ [])) ⊎ ((x ≢ 34) × (doubled_octet x ≡ x ∷ [])) → ⊥
octet_no_end x xs ys e single (inl p) = let f : 34 ∷ 34 ∷ xs ≡ 34 ∷ ys = ap (λ (d : Text). d ++ xs) (sym p.1) ∙ e in single xs cc
octet_no_end x xs ys e single (inr p) = let f : x ∷ xs ≡ 34 ∷ ys = ap (λ (d : Text). d ++ xs) (sym p.1) ∙ e in p.0 cc

-- what is behind an octet is shorter
octet_some : (b : Bool) (x : ℕ) → 0 < length (if b then 34 ∷ 34 ∷ [] else x ∷ [])
octet_some true x = omega arith
octet_some false x = omega arith

pub front_shorter : (text : Text) (x : ℕ) (rest : Text) → text ≡ doubled_octet x ++ rest → length rest < length text
front_shorter text x rest e =
    let some = octet_some (x == 34) x in
    omega (arith, ap length e, length-append (doubled_octet x) rest)

-- an octet in front of what has its end
pub closes_more : (text : Text) (x : ℕ) (rest path behind : Text) → text ≡ doubled_octet x ++ rest → Closes rest path behind → Closes text (x ∷ path) behind
closes_more text x rest path behind e c = record {
  text_is = e ∙ ap (λ (r : Text). doubled_octet x ++ r) c.text_is ∙ sym (append_assoc (doubled_octet x) (doubled path) (34 ∷ behind));
  single = c.single;
}

pub record ClosesLess (x : ℕ) (rest path behind : Text) : Type 0 where
  pub less : Text
  pub path_is : path ≡ x ∷ less
  pub closes : Closes rest less behind

pub closes_less : (text : Text) (x : ℕ) (rest path behind : Text) → text ≡ doubled_octet x ++ rest → Closes text path behind → ClosesLess x rest path behind
closes_less text x rest [] behind e c = absurd (octet_no_end x rest behind (sym e ∙ c.text_is) c.single (doubled_as x (x == 34) refl))
closes_less text x rest (y ∷ path) behind e c =
    let o = octet_once x y rest (doubled path ++ 34 ∷ behind) (sym e ∙ c.text_is ∙ append_assoc (doubled_octet y) (doubled path) (34 ∷ behind)) (doubled_as x (x == 34) refl) (doubled_as y (y == 34) refl) in
    record {
      less = path;
      path_is = ap (λ (z : ℕ). z ∷ path) (sym o.0);
      closes = record { text_is = o.1; single = c.single };
    }

-- nothing has no end
pub nothing_open : (path behind : Text) → Closes [] path behind → ⊥
nothing_open path behind c = let n = length-append (doubled path) (34 ∷ behind) in let e = ap length c.text_is in omega arith

-- octets read so far: the path is they and what the rest closes
pub record ReadsOn (text path rest : Text) : Type 0 where
  pub back : (more behind : Text) → Closes rest more behind → Closes text (path ++ more) behind
  pub forth : (whole behind : Text) → Closes text whole behind → (more : Text) × (whole ≡ path ++ more) × Closes rest more behind

pub reads_first : (text : Text) → ReadsOn text [] text
reads_first text = record { back = λ more behind c. c; forth = λ whole behind c. (whole, refl, c) }

pub reads_more : (text path rest : Text) (x : ℕ) (rest' : Text) → rest ≡ doubled_octet x ++ rest' → ReadsOn text path rest → ReadsOn text (path ++ x ∷ []) rest'
reads_more text path rest x rest' e r = record {
  back = λ more behind c. subst (λ (p : Text). Closes text p behind) (sym (append_assoc path (x ∷ []) more)) (r.back (x ∷ more) behind (closes_more rest x rest' more behind e c));
  forth = λ whole behind c.
      let f = r.forth whole behind c in
      let l = closes_less rest x rest' f.0 behind e f.2 in
      (l.less, f.1 ∙ ap (λ (p : Text). path ++ p) l.path_is ∙ sym (append_assoc path (x ∷ []) l.less), l.closes);
}

pub reads_end : (text path rest behind : Text) → ReadsOn text path rest → Closes rest [] behind → Closes text path behind
reads_end text path rest behind r c = subst (λ (p : Text). Closes text p behind) (append-nil path) (r.back [] behind c)

-- where one octet more stands, the path is longer than what was read
pub reads_past : (text path rest : Text) (x : ℕ) (rest' : Text) → rest ≡ doubled_octet x ++ rest' → ReadsOn text path rest → (whole behind : Text) → Closes text whole behind → length path < length whole
reads_past text path rest x rest' e r whole behind c =
    let f = r.forth whole behind c in
    let l = closes_less rest x rest' f.0 behind e f.2 in
    omega (arith, ap length f.1, ap length l.path_is, length-append path f.0)

-- where nothing is left, nothing closes the text
pub reads_out : (text path rest : Text) → rest ≡ [] → ReadsOn text path rest → (whole behind : Text) → Closes text whole behind → ⊥
reads_out text path rest e r whole behind c =
    let f = r.forth whole behind c in
    nothing_open f.0 behind (subst (λ (xs : Text). Closes xs f.0 behind) e f.2)

both : (a b : Bool) → (a && b) ≡ true → (a ≡ true) × (b ≡ true)
both true b is = (refl, is)
both false b is = absurd (let never : false ≡ true = is in cc)

-- a path text has at most 900 octets
pub path_text-short : (text : Text) → IsPathText text → length text ≤ text_limit
path_text-short text is =
    let sized : (nat_le 1 (length text) && nat_le (length text) text_limit) ≡ true = (both _ _ is).0 in
    let short : nat_le (length text) text_limit ≡ true = (both (nat_le 1 (length text)) (nat_le (length text) text_limit) sized).1 in
    grind (arith, nat_tests)

-- what quotes a path closes it behind its first double quote
pub quotes_closes : (text before inside path : Text) → text ≡ before ++ 34 ∷ inside → All (λ octet. octet ≢ 34) before → Quotes text path → (behind : Text) × Closes inside path behind
quotes_closes text before inside path e all q =
    let same : inside ≡ q.inside = first_once 34 before inside q.before q.inside all q.first (sym e ∙ q.text_is) in
    (q.behind, subst (λ (xs : Text). Closes xs path q.behind) (sym same) q.closes)

pub closed_quotes : (text before inside path behind : Text) → text ≡ before ++ 34 ∷ inside → All (λ octet. octet ≢ 34) before → Closes inside path behind → Quotes text path
closed_quotes text before inside path behind e all c = record {
  before = before;
  inside = inside;
  behind = behind;
  text_is = e;
  first = all;
  closes = c;
}
