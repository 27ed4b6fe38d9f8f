-- Spaces in front and at the end of a text, and the options of LIST.
use Rattle.std.proofs.Common.{◌≡◌, eqb, ℕ, zero, suc, ◌+◌, ◌-◌, ◌<◌, ◌≤◌, Bool, true, false, cond, not, ◌&&◌, List, [], ◌∷◌, ◌++◌, length, take, drop, get_or, refl, sym, ap, subst, ◌∙◌, arith, length-drop}
use Rattle.std.specs.List.{list_all, prefix_len, position_or_len}
use Rattle.std.proofs.Math.Bool.{and-true, and-false}
use Rattle.std.proofs.lemmas.Bool.{false≢true, eqb-true}
use Rattle.std.proofs.lemmas.List.{take_more}
use Rattle.std.proofs.lemmas.List.Folds.{list_all-append}
use Rattle.std.proofs.lemmas.List.Sums.{prefix_len_is, position_or_len_is}
use Rattle.ftp_command.specs.Argument.{is_space, trimmed, begins_with, behind_word, without, without_options}

-- a loop that stops at the first space, and one that stops behind the last in front
pub first_space_is : (text : List ℕ) (n : ℕ) → n ≤ length text → ((k : ℕ) → k < n → is_space (get_or text k 0) ≡ false) → (n < length text → is_space (get_or text n 0) ≡ true) → n ≡ position_or_len is_space text
first_space_is text n within before here = sym (position_or_len_is is_space text n 0 within before here)

pub no_space_is : (text : List ℕ) (n : ℕ) → length text ≤ n → ((k : ℕ) → k < n → is_space (get_or text k 0) ≡ false) → length text ≡ position_or_len is_space text
no_space_is text n past before = first_space_is text (length text) (omega arith) (λ k lt. before k (omega arith)) (λ lt. absurd (omega arith))

pub spaces_are : (text : List ℕ) (n : ℕ) → n ≤ length text → ((k : ℕ) → k < n → is_space (get_or text k 0) ≡ true) → (n < length text → is_space (get_or text n 0) ≡ false) → n ≡ prefix_len is_space text
spaces_are text n within before here = sym (prefix_len_is is_space text n 0 within before here)

pub all_spaces : (text : List ℕ) (n : ℕ) → length text ≤ n → ((k : ℕ) → k < n → is_space (get_or text k 0) ≡ true) → length text ≡ prefix_len is_space text
all_spaces text n past before = spaces_are text (length text) (omega arith) (λ k lt. before k (omega arith)) (λ lt. absurd (omega arith))

-- a space at the end is dropped, another octet is the end
pub trimmed-cons : (x : ℕ) (xs : List ℕ) (b : Bool) → list_all is_space (x ∷ xs) ≡ b → trimmed (x ∷ xs) ≡ cond b [] (x ∷ trimmed xs)
trimmed-cons x xs b e = rw e refl

all-push : (xs : List ℕ) (c : ℕ) → is_space c ≡ true → list_all is_space (xs ++ c ∷ []) ≡ list_all is_space xs
all-push xs c e = list_all-append is_space xs (c ∷ []) ∙ (rw e (and-true (list_all is_space xs)))

not-all-push : (xs : List ℕ) (c : ℕ) → is_space c ≡ false → list_all is_space (xs ++ c ∷ []) ≡ false
not-all-push xs c e = list_all-append is_space xs (c ∷ []) ∙ (rw e (and-false (list_all is_space xs)))

pub trimmed-push_space : (xs : List ℕ) (c : ℕ) → is_space c ≡ true → trimmed (xs ++ c ∷ []) ≡ trimmed xs
trimmed-push_space [] c e = rw e refl
trimmed-push_space (x ∷ xs) c e =
    let same : list_all is_space (x ∷ (xs ++ c ∷ [])) ≡ list_all is_space (x ∷ xs) = ap (λ b. is_space x && b) (all-push xs c e) in
    trimmed-cons x (xs ++ c ∷ []) (list_all is_space (x ∷ xs)) same ∙ ap (λ ys. cond (list_all is_space (x ∷ xs)) [] (x ∷ ys)) (trimmed-push_space xs c e)

pub trimmed-push : (xs : List ℕ) (c : ℕ) → is_space c ≡ false → trimmed (xs ++ c ∷ []) ≡ xs ++ c ∷ []
trimmed-push [] c e = rw e refl
trimmed-push (x ∷ xs) c e =
    let none : list_all is_space (x ∷ (xs ++ c ∷ [])) ≡ false = ap (λ b. is_space x && b) (not-all-push xs c e) ∙ and-false (is_space x) in
    trimmed-cons x (xs ++ c ∷ []) false none ∙ ap (λ ys. x ∷ ys) (trimmed-push xs c e)

-- the loop's steps, by index
pub trimmed-less : (text : List ℕ) (n : ℕ) → 0 < n → n ≤ length text → is_space (get_or text (n - 1) 0) ≡ true → trimmed (take (n - 1) text) ≡ trimmed (take n text)
trimmed-less text n some within e =
    let more = take_more text (n - 1) 0 (omega arith) in
    let at : n - 1 + 1 ≡ n = omega arith in
    let whole : take n text ≡ take (n - 1) text ++ get_or text (n - 1) 0 ∷ [] = ap (λ k. take k text) (sym at) ∙ more in
    sym (ap trimmed whole ∙ trimmed-push_space (take (n - 1) text) (get_or text (n - 1) 0) e)

pub trimmed-stays : (text : List ℕ) (n : ℕ) → 0 < n → n ≤ length text → is_space (get_or text (n - 1) 0) ≡ false → trimmed (take n text) ≡ take n text
trimmed-stays text n some within e =
    let more = take_more text (n - 1) 0 (omega arith) in
    let at : n - 1 + 1 ≡ n = omega arith in
    let whole : take n text ≡ take (n - 1) text ++ get_or text (n - 1) 0 ∷ [] = ap (λ k. take k text) (sym at) ∙ more in
    ap trimmed whole ∙ (trimmed-push (take (n - 1) text) (get_or text (n - 1) 0) e ∙ sym whole)

-- behind a word there is less than the text
shorter-45 : (xs : List ℕ) → length (behind_word (45 ∷ xs)) ≤ length xs
shorter-45 xs =
    let p : ℕ = prefix_len (λ c. not (is_space c)) xs in
    let rest : List ℕ = drop (1 + p) (45 ∷ xs) in
    let q : ℕ = prefix_len is_space rest in
    let outer : length (drop q rest) ≡ length rest - q = length-drop q rest in
    let inner : length rest ≡ length (45 ∷ xs) - (1 + p) = length-drop (1 + p) (45 ∷ xs) in
    omega (arith, outer, inner)

pub shorter : (x : ℕ) (xs : List ℕ) → eqb x 45 ≡ true → length (behind_word (x ∷ xs)) ≤ length xs
shorter x xs e =
    let P : ℕ → Type 0 = λ c. length (behind_word (c ∷ xs)) ≤ length xs in
    subst P (sym (eqb-true x 45 e)) (shorter-45 xs)

-- more turns than octets change nothing
pub without-step : (n : ℕ) (text : List ℕ) (b : Bool) → begins_with 45 text ≡ b → without (suc n) text ≡ cond b (without n (behind_word text)) text
without-step n text b e = ap (λ t. cond t (without n (behind_word text)) text) e

enough-by : (n m : ℕ) (x : ℕ) (xs : List ℕ) (b : Bool) → eqb x 45 ≡ b → (b ≡ true → without n (behind_word (x ∷ xs)) ≡ without m (behind_word (x ∷ xs))) → without (suc n) (x ∷ xs) ≡ without (suc m) (x ∷ xs)
enough-by n m x xs true e less = without-step n (x ∷ xs) true e ∙ (less refl ∙ sym (without-step m (x ∷ xs) true e))
enough-by n m x xs false e less = without-step n (x ∷ xs) false e ∙ sym (without-step m (x ∷ xs) false e)

enough : (n m : ℕ) (text : List ℕ) → length text ≤ n → length text ≤ m → without n text ≡ without m text
enough zero zero text h k = refl
enough zero (suc m) [] h k = refl
enough zero (suc m) (x ∷ xs) h k = absurd (omega arith)
enough (suc n) zero [] h k = refl
enough (suc n) zero (x ∷ xs) h k = absurd (omega arith)
enough (suc n) (suc m) [] h k = refl
enough (suc n) (suc m) (x ∷ xs) h k =
    enough-by n m x xs (eqb x 45) refl (λ e. enough n m (behind_word (x ∷ xs)) (omega (arith, shorter x xs e)) (omega (arith, shorter x xs e)))

pub without-more : (x : ℕ) (xs : List ℕ) → eqb x 45 ≡ true → without_options (behind_word (x ∷ xs)) ≡ without_options (x ∷ xs)
without-more x xs e =
    let behind : List ℕ = behind_word (x ∷ xs) in
    enough (length behind) (length xs) behind (omega arith) (shorter x xs e) ∙ sym (without-step (length xs) (x ∷ xs) true e)

pub without-done : (text : List ℕ) → begins_with 45 text ≡ false → without_options text ≡ text
without-done [] e = refl
without-done (x ∷ xs) e = without-step (length xs) (x ∷ xs) false e

pub without-option : (text : List ℕ) → begins_with 45 text ≡ true → without_options (behind_word text) ≡ without_options text
without-option [] e = absurd (false≢true e)
without-option (x ∷ xs) e = without-more x xs e

-- a text that loses no octet has no space at its end
keeps-cons : (c : ℕ) (cs : List ℕ) (b : Bool) → list_all is_space (c ∷ cs) ≡ b → (length (trimmed cs) ≡ length cs → trimmed cs ≡ cs) → length (trimmed (c ∷ cs)) ≡ length (c ∷ cs) → trimmed (c ∷ cs) ≡ c ∷ cs
keeps-cons c cs true e rest h = absurd (omega (arith, ap length (trimmed-cons c cs true e)))
keeps-cons c cs false e rest h =
    let front = trimmed-cons c cs false e in
    front ∙ ap (λ ys. c ∷ ys) (rest (omega (arith, ap length front)))

pub trimmed-keeps : (text : List ℕ) → length (trimmed text) ≡ length text → trimmed text ≡ text
trimmed-keeps [] h = refl
trimmed-keeps (c ∷ cs) h = keeps-cons c cs (list_all is_space (c ∷ cs)) refl (trimmed-keeps cs) h
