-- Where some texts lead.
use Rattle.std.proofs.Common.{◌≡◌, ℕ, List, [], ◌∷◌, refl}
use Rattle.ftp_path.specs.Path.{parent, resolved}

pub up_parent : (here : List (List ℕ)) → resolved here (46 ∷ 46 ∷ []) ≡ parent here
unfolding resolved
up_parent here = refl

pub dot_here : (here : List (List ℕ)) → resolved here (46 ∷ []) ≡ here
unfolding resolved
dot_here here = refl
