-- How octets move between those that came, those on their way and those that are to be given.
use Rattle.std.proofs.Common.{◌≡◌, ℕ, ◌+◌, ◌≤◌, List, ◌++◌, length, take, drop, sym, ap, ◌∙◌, append_assoc, arith, length-append}
use Rattle.std.specs.Prelude.{min}
use Rattle.std.proofs.lemmas.List.{take-append-drop, length-take}
use Rattle.laws_world.specs.World.{counted}

-- octets that are on their way come
pub comes_on : (n : ℕ) (came queue rest wire : List ℕ) → came ++ (queue ++ rest) ≡ wire → (came ++ take n queue) ++ (drop n queue ++ rest) ≡ wire
comes_on n came queue rest wire is =
    append_assoc came (take n queue) (drop n queue ++ rest)
    ∙ ap (λ l. came ++ l) (sym (append_assoc (take n queue) (drop n queue) rest) ∙ ap (λ l. l ++ rest) (take-append-drop n queue)) ∙ is

-- octets that are the last on their way come, and together they are the wire still
pub comes_all : (n : ℕ) (came queue wire : List ℕ) → came ++ queue ≡ wire → (came ++ take n queue) ++ drop n queue ≡ wire
comes_all n came queue wire is = append_assoc came (take n queue) (drop n queue) ∙ ap (λ l. came ++ l) (take-append-drop n queue) ∙ is

-- octets that are to be given go on their way
pub goes_on : (n : ℕ) (came queue rest left wire : List ℕ) → drop n rest ≡ left → came ++ (queue ++ rest) ≡ wire → came ++ ((queue ++ take n rest) ++ left) ≡ wire
goes_on n came queue rest left wire is all =
    ap (λ l. came ++ l) (append_assoc queue (take n rest) left ∙ ap (λ l. queue ++ (take n rest ++ l)) (sym is) ∙ ap (λ l. queue ++ l) (take-append-drop n rest)) ∙ all

-- the count of octets that came goes on by those that are taken from the queue
pub counts_on : (n count : ℕ) (came queue : List ℕ) → n ≤ length queue → count ≡ counted (length came) → counted (count + n) ≡ counted (length (came ++ take n queue))
counts_on n count came queue few is =
    let long : length (came ++ take n queue) ≡ length came + length (take n queue) = length-append came (take n queue) in
    let taken : length (take n queue) ≡ min n (length queue) = length-take n queue in
    omega (arith, few, is, long, taken)
