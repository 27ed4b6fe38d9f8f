-- What an operation did that is lost with the control connection: nothing, or what it had fared.
use Rattle.std.proofs.Common.{◌≡◌, inl, inr, ℕ, suc, List, Some, None, refl, ap}
use Rattle.ftp_operation.specs.Answer.{Said}
use Rattle.ftp_direct.specs.Direct.{State}
use Rattle.laws_world.specs.Agreement.{Allows, AllowsPart}
use Rattle.laws_world.specs.Outcome.{Outcome, Whole, Cut, Unopened, Lost, Part, Nothing, All, Front, CanBe, CanBeLost, did, lost_state}
use Rattle.laws_world.specs.World.{Mark}
use Rattle.laws_dialogues.specs.Fetches.{Ask}
use Rattle.laws_agreement.specs.Rising.{FaredTo}

-- lost at the cutoff, with this part done, which leaves this state
pub record LostTo (state : State) (ask : Ask) (own : List Mark) (left : State) (moment : ℕ) : Type 0 where
  pub part : Part
  pub can_be : CanBeLost part state ask.op
  pub allowed : (cutoff index : ℕ) → suc index ≡ cutoff → AllowsPart part own (Some cutoff) index
  pub leaves : lost_state part state ask.op moment ≡ left

module _ (state : State) (ask : Ask) (own : List Mark) where
  -- nothing was done
  pub lost_nothing : (moment : ℕ) → LostTo state ask own state moment
  lost_nothing moment = record { part = Nothing; can_be = tt; allowed = λ cutoff index last. inl last; leaves = refl }

  -- no operation is lost without a cutoff
  never_lost : (part : Part) → AllowsPart part own None 0 → ⊥
  never_lost Nothing (inl no_one) = no_one
  never_lost Nothing (inr no_one) = no_one
  never_lost All no_one = no_one
  never_lost (Front wire) both = both.0

  -- what it had fared was done
  pub lost_fares : (said : Said) (after : State) (moment : ℕ) → FaredTo state ask own said after moment → LostTo state ask own after moment
  lost_fares said after moment f = by_outcome f.outcome f.can_be f.allowed f.did_so
    where
      by_outcome : (outcome : Outcome) → CanBe outcome state ask.op → ((index : ℕ) → Allows outcome own None index) → did outcome state ask.op moment ≡ (said, after) → LostTo state ask own after moment
      by_outcome Whole can allowed is = record { part = All; can_be = tt; allowed = λ cutoff index last. last; leaves = ap (λ d. d.1) is }
      by_outcome (Cut wire) can allowed is = record { part = Front wire; can_be = can; allowed = λ cutoff index last. (last, (allowed 0).1); leaves = ap (λ d. d.1) is }
      by_outcome Unopened can allowed is = record { part = Nothing; can_be = tt; allowed = λ cutoff index last. inl last; leaves = ap (λ d. d.1) is }
      by_outcome (Lost part) can allowed is = absurd (never_lost part (allowed 0))
