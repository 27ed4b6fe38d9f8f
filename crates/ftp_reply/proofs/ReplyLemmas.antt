-- Lines say one reply at most.
use Rattle.std.proofs.Common.{◌≡◌, ℕ, ◌+◌, ◌/◌, ◌%◌, ◌⊎◌, inl, inr, List, [], ◌∷◌, ◌++◌, get_or, All, refl, ap, sym, ◌∙◌, subst, append_assoc, arith}
use Rattle.std.proofs.lemmas.List.Elements.{All-head, All-tail}
use Rattle.ftp_reply.specs.Lines.{Text}
use Rattle.ftp_reply.specs.Reply.{IsCode, code_text, last_line, opening_line, IsLastLine, IsOneLine, Begins, IsSeveral, IsWholeReply, Fits}

-- the three digits name one code
pub code_once : (code code' : ℕ) (rest rest' : Text) → IsCode code → IsCode code' → code_text code ++ rest ≡ code_text code' ++ rest' → (code ≡ code') × (rest ≡ rest')
code_once code code' rest rest' is is' e =
    let a : 48 + code / 100 ≡ 48 + code' / 100 = cc in
    let b : 48 + code / 10 % 10 ≡ 48 + code' / 10 % 10 = cc in
    let d : 48 + code % 10 ≡ 48 + code' % 10 = cc in
    let r : rest ≡ rest' = cc in
    (omega arith, r)

-- two lists with an element behind each are equal in both parts
pub push_once : {X : Type 0} (xs ys : List X) (x y : X) → xs ++ x ∷ [] ≡ ys ++ y ∷ [] → (xs ≡ ys) × (x ≡ y)
push_once [] [] x y e = (refl, cc)
push_once [] (y' ∷ []) x y e = (cc, cc)
push_once [] (y' ∷ y'' ∷ ys) x y e = (cc, cc)
push_once (x' ∷ []) [] x y e = (cc, cc)
push_once (x' ∷ x'' ∷ xs) [] x y e = (cc, cc)
push_once (x' ∷ xs) (y' ∷ ys) x y e =
    let t : xs ++ x ∷ [] ≡ ys ++ y ∷ [] = cc in
    let h : x' ≡ y' = cc in
    let r = push_once xs ys x y t in
    let front : xs ≡ ys = r.0 in
    (cc, r.1)

-- a reply of several lines from its first line on
pub record Opened (heard : List Text) (code : ℕ) (lines : List Text) : Type 0 where
  pub first : Text
  pub between : List Text
  pub last : Text
  pub code_is : IsCode code
  pub lines_are : lines ≡ first ∷ (between ++ last ∷ [])
  pub heard_is : heard ≡ opening_line code first ∷ (between ++ last_line code last ∷ [])
  pub goes_on : All (λ line. ¬ IsLastLine code line) between

pub opened : (heard : List Text) (code : ℕ) (lines : List Text) → IsSeveral heard code lines → Opened heard code lines
opened heard code lines several = record {
  first = several.begins.first;
  between = several.begins.between;
  last = several.last;
  code_is = several.begins.code_is;
  lines_are = several.lines_are ∙ ap (λ ls. ls ++ several.last ∷ []) several.begins.lines_are;
  heard_is = several.heard_is ∙ ap (λ ls. ls ++ last_line code several.last ∷ []) several.begins.heard_is;
  goes_on = several.begins.goes_on;
}

text_once : (text text' rest : Text) → (rest ≡ 32 ∷ text) ⊎ ((rest ≡ []) × (text ≡ [])) → (rest ≡ 32 ∷ text') ⊎ ((rest ≡ []) × (text' ≡ [])) → text ≡ text'
text_once text text' rest (inl p) (inl q) = cc
text_once text text' rest (inl p) (inr q) = cc
text_once text text' rest (inr p) (inl q) = cc
text_once text text' rest (inr p) (inr q) = cc

rest_of : (heard : List Text) (code : ℕ) (text : Text) → (heard ≡ last_line code text ∷ []) ⊎ ((heard ≡ code_text code ∷ []) × (text ≡ [])) → (rest : Text) × (heard ≡ (code_text code ++ rest) ∷ []) × ((rest ≡ 32 ∷ text) ⊎ ((rest ≡ []) × (text ≡ [])))
rest_of heard code text (inl p) = (32 ∷ text, p, inl refl)
rest_of heard code text (inr p) = ([], p.0, inr (refl, p.1))

one_line_once : (heard : List Text) (code code' : ℕ) (lines lines' : List Text) → IsOneLine heard code lines → IsOneLine heard code' lines' → (code ≡ code') × (lines ≡ lines')
one_line_once heard code code' lines lines' a b =
    let r = rest_of heard code a.text a.heard_is in
    let r' = rest_of heard code' b.text b.heard_is in
    let e : code_text code ++ r.0 ≡ code_text code' ++ r'.0 = cc in
    let o = code_once code code' r.0 r'.0 a.code_is b.code_is e in
    let t = text_once a.text b.text r'.0 (subst (λ (x : Text). (x ≡ 32 ∷ a.text) ⊎ ((x ≡ []) × (a.text ≡ []))) o.1 r.2) r'.2 in
    (o.0, a.lines_are ∙ ap (λ x. x ∷ []) t ∙ sym b.lines_are)

not_opening : (text rest first : Text) → rest ≡ 45 ∷ first → (rest ≡ 32 ∷ text) ⊎ ((rest ≡ []) × (text ≡ [])) → ⊥
not_opening text rest first e (inl p) = let n : ◌≡◌ {A = ℕ} 45 32 = ap (λ (xs : Text). get_or xs 0 0) (sym e ∙ p) in omega arith
not_opening text rest first e (inr p) = let n : 45 ∷ first ≡ [] = sym e ∙ p.0 in cc

-- a reply of one line doesn't open one of several
one_line_only : (heard : List Text) (code code' : ℕ) (lines : List Text) (first : Text) (more : List Text) → IsOneLine heard code lines → IsCode code' → heard ≡ opening_line code' first ∷ more → ⊥
one_line_only heard code code' lines first more a is e =
    let r = rest_of heard code a.text a.heard_is in
    let l : code_text code ++ r.0 ≡ code_text code' ++ 45 ∷ first = cc in
    let o = code_once code code' r.0 (45 ∷ first) a.code_is is l in
    not_opening a.text r.0 first o.1 r.2

opening_once : (code code' : ℕ) (first first' : Text) (more more' : List Text) → IsCode code → IsCode code' → opening_line code first ∷ more ≡ opening_line code' first' ∷ more' → (code ≡ code') × (first ≡ first') × (more ≡ more')
opening_once code code' first first' more more' is is' e =
    let l : code_text code ++ 45 ∷ first ≡ code_text code' ++ 45 ∷ first' = cc in
    let o = code_once code code' (45 ∷ first) (45 ∷ first') is is' l in
    let rest : 45 ∷ first ≡ 45 ∷ first' = o.1 in
    (o.0, cc, cc)

-- a last line isn't one of those that go on
last_goes_on : (code : ℕ) (between : List Text) (last : Text) → All (λ line. ¬ IsLastLine code line) (between ++ last_line code last ∷ []) → ⊥
last_goes_on code [] last all = All-head (λ line. ¬ IsLastLine code line) (last_line code last) [] all (last, refl)
last_goes_on code (line ∷ between) last all = last_goes_on code between last (All-tail (λ l. ¬ IsLastLine code l) line (between ++ last_line code last ∷ []) all)

begun_once : (heard : List Text) (code code' : ℕ) (lines lines' : List Text) → Begins heard code lines → Begins heard code' lines' → (code ≡ code') × (lines ≡ lines')
begun_once heard code code' lines lines' a b =
    let o = opening_once code code' a.first b.first a.between b.between a.code_is b.code_is (sym a.heard_is ∙ b.heard_is) in
    (o.0, a.lines_are ∙ ap (λ x. x ∷ a.between) o.1 ∙ ap (λ xs. b.first ∷ xs) o.2 ∙ sym b.lines_are)

several_once : (heard : List Text) (code code' : ℕ) (lines lines' : List Text) → Opened heard code lines → Opened heard code' lines' → (code ≡ code') × (lines ≡ lines')
several_once heard code code' lines lines' a b =
    let o = opening_once code code' a.first b.first (a.between ++ last_line code a.last ∷ []) (b.between ++ last_line code' b.last ∷ []) a.code_is b.code_is (sym a.heard_is ∙ b.heard_is) in
    let p = push_once a.between b.between (last_line code a.last) (last_line code' b.last) o.2 in
    let t = code_once code code' (32 ∷ a.last) (32 ∷ b.last) a.code_is b.code_is p.1 in
    let last : 32 ∷ a.last ≡ 32 ∷ b.last = t.1 in
    let last' : a.last ≡ b.last = cc in
    (o.0, a.lines_are ∙ ap (λ x. x ∷ (a.between ++ a.last ∷ [])) o.1 ∙ ap (λ xs. b.first ∷ (xs ++ a.last ∷ [])) p.0 ∙ ap (λ x. b.first ∷ (b.between ++ x ∷ [])) last' ∙ sym b.lines_are)

-- a whole reply of several lines doesn't go on
several_only : (heard : List Text) (code code' : ℕ) (lines lines' : List Text) → Opened heard code lines → Begins heard code' lines' → ⊥
several_only heard code code' lines lines' a b =
    let o = opening_once code code' a.first b.first (a.between ++ last_line code a.last ∷ []) b.between a.code_is b.code_is (sym a.heard_is ∙ b.heard_is) in
    let all : All (λ line. ¬ IsLastLine code line) b.between = subst (λ (k : ℕ). All (λ line. ¬ IsLastLine k line) b.between) (sym o.0) b.goes_on in
    last_goes_on code a.between a.last (subst (λ (xs : List Text). All (λ line. ¬ IsLastLine code line) xs) (sym o.2) all)

-- lines are a reply, or the beginning of one, in one way only
pub fits_once : (heard : List Text) (code code' : ℕ) (lines lines' : List Text) → Fits heard code lines → Fits heard code' lines' → (code ≡ code') × (lines ≡ lines')
fits_once heard code code' lines lines' (inl (inl a)) (inl (inl b)) = one_line_once heard code code' lines lines' a b
fits_once heard code code' lines lines' (inl (inl a)) (inl (inr b)) = let o = opened heard code' lines' b in absurd (one_line_only heard code code' lines o.first (o.between ++ last_line code' o.last ∷ []) a o.code_is o.heard_is)
fits_once heard code code' lines lines' (inl (inl a)) (inr b) = absurd (one_line_only heard code code' lines b.first b.between a b.code_is b.heard_is)
fits_once heard code code' lines lines' (inl (inr a)) (inl (inl b)) = let o = opened heard code lines a in absurd (one_line_only heard code' code lines' o.first (o.between ++ last_line code o.last ∷ []) b o.code_is o.heard_is)
fits_once heard code code' lines lines' (inl (inr a)) (inl (inr b)) = several_once heard code code' lines lines' (opened heard code lines a) (opened heard code' lines' b)
fits_once heard code code' lines lines' (inl (inr a)) (inr b) = absurd (several_only heard code code' lines lines' (opened heard code lines a) b)
fits_once heard code code' lines lines' (inr a) (inl (inl b)) = absurd (one_line_only heard code' code lines' a.first a.between b a.code_is a.heard_is)
fits_once heard code code' lines lines' (inr a) (inl (inr b)) = absurd (several_only heard code' code lines' lines (opened heard code' lines' b) a)
fits_once heard code code' lines lines' (inr a) (inr b) = begun_once heard code code' lines lines' a b

-- a whole reply doesn't go on
pub whole_only : (heard : List Text) (code code' : ℕ) (lines lines' : List Text) → IsWholeReply heard code lines → Begins heard code' lines' → ⊥
whole_only heard code code' lines lines' (inl a) b = one_line_only heard code code' lines b.first b.between a b.code_is b.heard_is
whole_only heard code code' lines lines' (inr a) b = several_only heard code code' lines lines' (opened heard code lines a) b

-- where lines end at a last line that none of them is, nothing follows the first last line
cut_once : (code : ℕ) (between between' : List Text) (last last' : Text) (more : List Text) → IsLastLine code last → All (λ line. ¬ IsLastLine code line) between' → between ++ last ∷ more ≡ between' ++ last' ∷ [] → more ≡ []
cut_once code [] [] last last' more is all e = cc
cut_once code [] (y ∷ ys) last last' more is all e = let h : y ≡ last = cc in absurd (All-head (λ line. ¬ IsLastLine code line) y ys all (subst (λ (l : Text). IsLastLine code l) (sym h) is))
cut_once code (x ∷ xs) [] last last' more is all e = let h : xs ++ last ∷ more ≡ [] = cc in absurd (some xs last more h)
  where
    some : (xs : List Text) (last : Text) (more : List Text) → xs ++ last ∷ more ≡ [] → ⊥
    some [] last more e = cc
    some (x ∷ xs) last more e = cc
cut_once code (x ∷ xs) (y ∷ ys) last last' more is all e = cut_once code xs ys last last' more is (All-tail (λ line. ¬ IsLastLine code line) y ys all) cc

one_line_of : (heard : List Text) (code : ℕ) (lines : List Text) → IsOneLine heard code lines → (line : Text) × (heard ≡ line ∷ [])
one_line_of heard code lines a = let r = rest_of heard code a.text a.heard_is in (code_text code ++ r.0, r.1)

-- no more lines go on from a reply
pub whole_ended : (heard more : List Text) (code code' : ℕ) (lines lines' : List Text) → IsWholeReply heard code lines → IsWholeReply (heard ++ more) code' lines' → more ≡ []
whole_ended heard more code code' lines lines' (inl a) (inl b) =
    let x = one_line_of heard code lines a in
    let y = one_line_of (heard ++ more) code' lines' b in
    let e : x.0 ∷ more ≡ y.0 ∷ [] = ap (λ (hs : List Text). hs ++ more) (sym x.1) ∙ y.1 in
    cc
whole_ended heard more code code' lines lines' (inl a) (inr b) =
    let x = one_line_of heard code lines a in
    let o = opened (heard ++ more) code' lines' b in
    let e : x.0 ∷ more ≡ opening_line code' o.first ∷ (o.between ++ last_line code' o.last ∷ []) = ap (λ (hs : List Text). hs ++ more) (sym x.1) ∙ o.heard_is in
    let h : x.0 ≡ opening_line code' o.first = cc in
    absurd (one_line_only heard code code' lines o.first [] a o.code_is (x.1 ∙ ap (λ (l : Text). l ∷ []) h))
whole_ended heard more code code' lines lines' (inr a) (inl b) =
    let o = opened heard code lines a in
    let y = one_line_of (heard ++ more) code' lines' b in
    let e : opening_line code o.first ∷ ((o.between ++ last_line code o.last ∷ []) ++ more) ≡ y.0 ∷ [] = ap (λ (hs : List Text). hs ++ more) (sym o.heard_is) ∙ y.1 in
    let h : opening_line code o.first ≡ y.0 = cc in
    absurd (one_line_only (heard ++ more) code' code lines' o.first [] b o.code_is (y.1 ∙ ap (λ (l : Text). l ∷ []) (sym h)))
whole_ended heard more code code' lines lines' (inr a) (inr b) =
    let o = opened heard code lines a in
    let p = opened (heard ++ more) code' lines' b in
    let e : opening_line code o.first ∷ ((o.between ++ last_line code o.last ∷ []) ++ more) ≡ opening_line code' p.first ∷ (p.between ++ last_line code' p.last ∷ []) = ap (λ (hs : List Text). hs ++ more) (sym o.heard_is) ∙ p.heard_is in
    let q = opening_once code code' o.first p.first ((o.between ++ last_line code o.last ∷ []) ++ more) (p.between ++ last_line code' p.last ∷ []) o.code_is p.code_is e in
    let all : All (λ line. ¬ IsLastLine code line) p.between = subst (λ (k : ℕ). All (λ line. ¬ IsLastLine k line) p.between) (sym q.0) p.goes_on in
    let cut : o.between ++ last_line code o.last ∷ more ≡ p.between ++ last_line code' p.last ∷ [] = sym (append_assoc o.between (last_line code o.last ∷ []) more) ∙ q.2 in
    cut_once code o.between p.between (last_line code o.last) (last_line code' p.last) more (o.last, refl) all cut
