-- One group of letters after another.
use Rattle.std.proofs.Common.{◌≡◌, ℕ, ◌+◌, List, [], ◌++◌, ◌∙◌, ap, add-one}
use Rattle.ftp_secret.specs.Crypt.{group_text, groups_text}
use Rattle.ftp_secret.specs.declared.method.Method.{Method}

-- no group is no letter
pub groups_none : (method : Method) (c text : List ℕ) → text ≡ [] → text ≡ groups_text method c 0
unfolding groups_text
groups_none method c text none = none

-- one group more
pub groups_more : (method : Method) (c old new : List ℕ) (place : ℕ)
    → new ≡ old ++ group_text method c place → old ≡ groups_text method c place → new ≡ groups_text method c (place + 1)
unfolding groups_text
groups_more method c old new place adds before =
    rw (add-one place) (adds ∙ ap (λ front. front ++ group_text method c place) before)
