-- What stands at a path is the same as itself.
use Rattle.std.proofs.Common.{◌≡◌, ◌≢◌, ◌⊎◌, inl, inr, ℕ, Bool, true, false, eqb, Option, Some, None, refl, ap, ◌∙◌}
use Rattle.std.specs.Prelude.{◌&&◌}
use Rattle.std.proofs.lemmas.Bool.Decides.{eqb_tells}
use Rattle.ftp_server_model.specs.Standing.{same_standing, still_stands}
use Rattle.ftp_server_model.specs.declared.session.Standing.{Standing}
use Rattle.ftp_server_model.specs.declared.session.Standing.TheVariants.{Nothing, Dir, File}

eqb_same : (n : ℕ) → eqb n n ≡ true
eqb_same n = by (eqb_tells n n)
  where
    by : ((eqb n n ≡ true) × (n ≡ n)) ⊎ ((eqb n n ≡ false) × (n ≢ n)) → eqb n n ≡ true
    by (inl is) = is.0
    by (inr is) = absurd (is.1 refl)

pub same_as_it : (a : Standing) → same_standing a a ≡ true
same_as_it Nothing = refl
same_as_it Dir = refl
same_as_it (File size moment) = ap (λ b. b && eqb moment moment) (eqb_same size) ∙ eqb_same moment

-- so it still stands
pub stands_still : (stood : Option Standing) → still_stands stood stood ≡ true
stands_still None = refl
stands_still (Some stood) = same_as_it stood

-- and so it does where nothing is known of it
pub stands_unknown : (stood : Option Standing) → still_stands stood None ≡ true
stands_unknown None = refl
stands_unknown (Some stood) = refl
