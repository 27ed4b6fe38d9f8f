-- Runs of octets that a reader of signs takes as they are.
use Rattle.std.proofs.Common.{◌≡◌, ℕ, zero, suc, ◌<◌, ◌≤◌, List, [], ◌∷◌, ◌++◌, Bool, true, false, ◌==◌, length, take, get_or, map, refl, ap, sym, subst, ◌∙◌, arith}
use Rattle.std.specs.List.{AllByRecursion}
use Rattle.ftp_pieces.specs.Machine.{after, gives}
use Rattle.ftp_repr.specs.Signs.{Sign, octet}
use Rattle.ftp_settings.specs.Representation.{Form}
use Rattle.ftp_repr.specs.Receiving.{Taking, receiving}
use Rattle.ftp_repr.specs.Runs.{IsRun}
use Rattle.ftp_settings.specs.declared.representation.Kind.{Kind}
use Rattle.ftp_settings.specs.declared.representation.Kind.TheVariants.{Ascii, Image}
use Rattle.ftp_settings.specs.declared.representation.Structure.{Structure}
use Rattle.ftp_repr.proofs.ContentLemmas.{form}

-- what holds at each place of the first n
pub all_take : (P : ℕ → Type 0) (w : List ℕ) (n : ℕ) → n ≤ length w → ((k : ℕ) → k < n → P (get_or w k 0)) → AllByRecursion P (take n w)
all_take P w zero h each = tt
all_take P [] (suc n) h each = tt
all_take P (c ∷ w) (suc n) h each = (each 0 (omega arith), all_take P w n (omega arith) (λ k less. each (suc k) (omega arith)))

-- the row keeps the state and gives these octets
abbrev pub GoesAs : Form → Taking → List Sign → List ℕ → Type 0
GoesAs f s ss w = (after (receiving f) s ss ≡ s) × (gives (receiving f) s ss ≡ w)

abbrev pub at : Bool → Bool → Taking
at h e = record { held = h; ended = e }

-- in type A, a run without CR where none is held
ascii_run : (s : Structure) (w : List ℕ) → AllByRecursion (λ c. (c == 13) ≡ false) w → GoesAs (form Ascii s) (at false false) (map octet w) w
ascii_run s [] all = (refl, refl)
ascii_run s (c ∷ w) all =
    let m = receiving (form Ascii s) in
    let rest = ascii_run s w all.1 in
    let e : (c == 13) ≡ false = all.0 in
    let stays : m.step (at false false) (octet c) ≡ at false false = rw e refl in
    let same : m.out (at false false) (octet c) ≡ c ∷ [] = rw e refl in (
      ap (λ t. after m t (map octet w)) stays ∙ rest.0,
      ap (λ l. l ++ gives m (m.step (at false false) (octet c)) (map octet w)) same
          ∙ ap (λ t. c ∷ gives m t (map octet w)) stays
          ∙ ap (λ l. c ∷ l) rest.1,
    )

-- in type I, any run
image_run : (s : Structure) (h : Bool) (w : List ℕ) → GoesAs (form Image s) (at h false) (map octet w) w
image_run s h [] = (refl, refl)
image_run s h (c ∷ w) = let rest = image_run s h w in (rest.0, ap (λ l. c ∷ l) rest.1)

-- behind the end nothing is given
over_row : (f : Form) (h : Bool) (ss : List Sign) → GoesAs f (at h true) ss []
over_row f h [] = (refl, refl)
over_row f h (x ∷ ss) = over_row f h ss

pub run_ascii : (f : Form) (t : Taking) (w : List ℕ) → f.kind ≡ Ascii → t.held ≡ false → t.ended ≡ false
    → AllByRecursion (λ c. (c == 13) ≡ false) w → GoesAs f t (map octet w) w
run_ascii f t w a h e all =
    let P : Kind → Bool → Bool → Type 0 = λ k x y. GoesAs (form k f.structure) (at x y) (map octet w) w in
    let Q : Kind → Type 0 = λ k. P k false false in
    let R : Bool → Type 0 = λ x. P f.kind x false in
    let T : Bool → Type 0 = λ y. P f.kind t.held y in
    subst T (sym e) (subst R (sym h) (subst Q (sym a) (ascii_run f.structure w all)))

pub run_image : (f : Form) (t : Taking) (w : List ℕ) → f.kind ≡ Image → t.ended ≡ false → GoesAs f t (map octet w) w
run_image f t w a e =
    let P : Kind → Bool → Type 0 = λ k y. GoesAs (form k f.structure) (at t.held y) (map octet w) w in
    let Q : Kind → Type 0 = λ k. P k false in
    let T : Bool → Type 0 = λ y. P f.kind y in
    subst T (sym e) (subst Q (sym a) (image_run f.structure t.held w))

pub receiving_over : (f : Form) (t : Taking) (ss : List Sign) → t.ended ≡ true → GoesAs f t ss []
receiving_over f t ss e = let T : Bool → Type 0 = λ y. GoesAs f (at t.held y) ss [] in subst T (sym e) (over_row f t.held ss)

pub behind_first : (p : ℕ → Bool) (c : ℕ) (w : List ℕ) (n : ℕ) → IsRun p (c ∷ w) (suc n) → IsRun p w n
behind_first p c w n r = record { within = omega (arith, r.within); others = r.others.1; next = λ less. r.next (omega (arith, less)) }

pub both : {A : Type 0} (b : Bool) → b ≡ true → b ≡ false → A
both b t f = absurd (cc)

-- there is one run
pub run_once : (p : ℕ → Bool) (w : List ℕ) (n m : ℕ) → IsRun p w n → IsRun p w m → n ≡ m
run_once p w zero zero r q = refl
run_once p [] (suc n) m r q = absurd (omega (arith, r.within))
run_once p [] zero (suc m) r q = absurd (omega (arith, q.within))
run_once p (c ∷ w) zero (suc m) r q = both (p c) (r.next (omega arith)) q.others.0
run_once p (c ∷ w) (suc n) zero r q = both (p c) (q.next (omega arith)) r.others.0
run_once p (c ∷ w) (suc n) (suc m) r q = ap suc (run_once p w n m (behind_first p c w n r) (behind_first p c w m q))
