-- What a framer has made of signs.
use Rattle.std.specs.Prelude.{◌≡◌, ℕ, List, ◌++◌}
use Rattle.ftp_repr.specs.Signs.{Sign}
use Rattle.ftp_mode.specs.Framing.{still_to_write}
use Rattle.ftp_mode.specs.declared.framer.Framer.{Framer}

-- signs were written but for a rest, as far as they are decided, behind octets that were made before: whatever follows, what
-- was still to be written is what was made now and what is still to be written
pub record WritesSigns (old : Framer) (ss : List Sign) (new : Framer) (rest : List Sign) (before now : List ℕ) : Type 0 where
  pub octets : List ℕ
  pub made : now ≡ before ++ octets
  pub text : (more : List Sign) → still_to_write old (ss ++ more) ≡ octets ++ still_to_write new (rest ++ more)
