-- A machine over rows that are cut.
use Rattle.std.proofs.Common.{◌≡◌, List, [], ◌∷◌, ◌++◌, refl, ap, sym, ◌∙◌, append_assoc}
use Rattle.ftp_pieces.specs.Machine.{Machine, after, gives, IsFront}

pub after-append : {S I O : Type 0} (m : Machine S I O) (s : S) (xs ys : List I) → after m s (xs ++ ys) ≡ after m (after m s xs) ys
after-append m s [] ys = refl
after-append m s (x ∷ xs) ys = after-append m (m.step s x) xs ys

pub gives-append : {S I O : Type 0} (m : Machine S I O) (s : S) (xs ys : List I)
    → gives m s (xs ++ ys) ≡ gives m s xs ++ gives m (after m s xs) ys
gives-append m s [] ys = refl
gives-append m s (x ∷ xs) ys =
    ap (λ l. m.out s x ++ l) (gives-append m (m.step s x) xs ys)
    ∙ sym (append_assoc (m.out s x) (gives m (m.step s x) xs) (gives m (after m (m.step s x) xs) ys))

-- a front of a row gives a front
pub gives-front : {S I O : Type 0} (m : Machine S I O) (s : S) (xs ys : List I) → IsFront xs ys → IsFront (gives m s xs) (gives m s ys)
gives-front m s xs ys front =
    (gives m (after m s xs) front.0, sym (gives-append m s xs front.0) ∙ ap (gives m s) front.1)
