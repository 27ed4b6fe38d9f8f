-- The name of a part is one of those that a look leaves out.
use Rattle.std.proofs.Common.{◌≡◌, ℕ, ◌-◌, List, [], ◌∷◌, ◌++◌, ◌&&◌, length, drop, codes, decimal, nat_eq, true, refl, ◌∙◌, ap, arith}
use Rattle.std.proofs.lemmas.List.{length-append}
use Rattle.std.specs.Cmp.Lexicographic.{pointwise}
use Rattle.ftp_disk_host.specs.Left.{delete, is_left_name, numbered}

behind-front : (xs ys : List ℕ) → drop (length xs) (xs ++ ys) ≡ ys
behind-front [] ys = refl
behind-front (x ∷ xs) ys = behind-front xs ys

last-one : (xs : List ℕ) (d : ℕ) → drop (length (xs ++ d ∷ []) - 1) (xs ++ d ∷ []) ≡ d ∷ []
last-one xs d =
    let short : length (xs ++ d ∷ []) - 1 ≡ length xs = omega (arith, length-append xs (d ∷ [])) in
    ap (λ n. drop n (xs ++ d ∷ [])) short ∙ behind-front xs (d ∷ [])

pub part-left : (number : ℕ) → is_left_name (numbered (codes ".ftp-writing-") number) ≡ true
part-left number =
    let front = codes ".ftp-writing-" ++ decimal number in
    let last : pointwise nat_eq (delete ∷ []) (drop (length (front ++ delete ∷ []) - 1) (front ++ delete ∷ [])) ≡ true = ap (pointwise nat_eq (delete ∷ [])) (last-one front delete) in
    ap (λ ends. ends && true) last
