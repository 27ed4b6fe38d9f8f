-- One round after another.
use Rattle.std.proofs.Common.{◌≡◌, ℕ, ◌+◌, List, ◌∙◌, ap, refl, add-one}
use Rattle.ftp_secret.specs.Crypt.{after, digest, round}
use Rattle.ftp_secret.specs.declared.method.Method.{Method}

-- no round leaves digest A
pub after_none : (method : Method) (p s a : List ℕ) → a ≡ after method p s a 0
unfolding after
after_none method p s a = refl

-- one round more
pub after_more : (method : Method) (p s a last new : List ℕ) (number : ℕ)
    → new ≡ digest method (round p s number last) → last ≡ after method p s a number → new ≡ after method p s a (number + 1)
unfolding after
after_more method p s a last new number goes before =
    rw (add-one number) (goes ∙ ap (λ from. digest method (round p s number from)) before)
