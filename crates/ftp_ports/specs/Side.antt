-- Either end of a session, as what stands between it and its connections sees it: what its calls do (RFC 959, section 2.3).
use Rattle.std.specs.Prelude.{ℕ, List, []}

pub record Side : Type 1 where
  -- what it holds
  pub End : Type 0
  -- its calls that move no control octets, with their values, and what each of them does
  pub Call : Type 0
  pub Called : Call → (old new : End) → Type 0
  -- whether a drive gets on by one: 1, and else 0
  pub step : Call → ℕ
  -- of the control octets that were read and are not heard yet, it hears the first ones
  pub Hears : (octets unheard : List ℕ) → (old new : End) → Type 0
  -- it gives octets of what it owes
  pub Gives : (octets : List ℕ) → (old new : End) → Type 0
  -- it owes nothing
  pub OwesNone : End → Type 0
  -- when octets of the control connection are read for it
  pub IsReadDue : End → Type 0
  -- it is told that the control connection ended
  pub IsCut : (old new : End) → Type 0
  -- where a drive breaks off, what came for it and it was not told of is let go
  pub LetsGo : (old new : End) → Type 0
  pub lets_none : (end : End) → LetsGo end end
  pub lets_then : (a b c : End) → LetsGo a b → LetsGo b c → LetsGo a c
