-- Worlds that events lead to from the beginning run with what was begun; and where nothing is under way, or no transfer, both ends are still.
use Rattle.std.proofs.Common.{◌≡◌, inl, inr, true, false, true≢false, List, [], refl, sym, ap, ◌∙◌}
use Rattle.ftp_direct.specs.Direct.{State, answer}
use Rattle.ftp_client_model.specs.View.{View as Near}
use Rattle.ftp_server_model.specs.Machine.{IsReading, Reading}
use Rattle.laws_world.specs.Agreement.{Leads, Order}
use Rattle.laws_world.specs.Claims.{AreTimed, Beginning, IsFair, state_of, world_of}
use Rattle.laws_world.specs.Events.{Event, is_parted}
use Rattle.laws_world.specs.World.{Mark, Stands, World}
use Rattle.laws_dialogues.specs.Fetches.{Ask}
use Rattle.laws_dialogues.specs.Login.{AtFree, AtOperation}
use Rattle.laws_agreement.specs.Follows.{IsFree, IsLost, IsUnder}
use Rattle.laws_agreement.specs.Over.{OverRuns}
use Rattle.laws_agreement.specs.PeekStages.{AtHalt, Gave, Gives, Halt, Halted, halt_abort}
use Rattle.laws_agreement.proofs.Beginning.{begins_follow}
use Rattle.laws_agreement.proofs.OverRunning.{over_lead}
use Rattle.laws_agreement.proofs.Still.{IsStill, free_set, operation_on, seen, still_as, told_waits}
use Rattle.ftp_client_model.specs.Dialogue.{is_unsent}
use Rattle.laws_drivers.specs.world.Unaborted.{is_unaborted}

-- the world to which events lead from a fair beginning runs with the operations begun
pub all_runs : (read : Reading) → IsReading read → (b : Beginning) → IsFair b → (events : List Event) (begun : List Order) (w : World)
    → AreTimed events → Leads read (world_of b) events begun w → OverRuns read (state_of b) begun w
all_runs read reads b fair events begun w timed leads =
    over_lead read reads (state_of b) [] events begun (world_of b) w timed (inl (inl (begins_follow read b fair))) leads

-- ---- by how it runs

module _ (read : Reading) (from : State) (begun : List Order) where
  -- both ends are still where no operation is under way, and at one without a transfer
  pub free_still : (w : World) → IsFree from begun w → IsStill w
  free_still w f =
      let s = f.stands in
      let set = free_set f.now s.way s.base.near s.base.far s.here in
      still_as s.base w (seen (AtFree f.now) w s) set.near set.far

  pub under_still : (w : World) → IsUnder read from begun w → IsStill w
  under_still w u =
      let s = u.stands in
      let is = seen (AtOperation read u.now u.op (answer u.now u.op u.moment)) w s in
      elim (operation_on read u.now u.op (answer u.now u.op u.moment) s.way s.base.near s.base.far s.here) [
        | inl moving ↦ still_as s.base w is moving.set.near moving.set.far
        | inr over ↦ still_as s.base w is (told_waits (answer u.now u.op u.moment).0 s.base.near over.1.near) over.1.stands.far
      ]

  -- the control connection has not ended
  pub not_lost : (w : World) → w.control ≡ Stands → IsLost from begun w → ⊥
  not_lost w control lost = true≢false (sym (ap is_parted lost.control) ∙ ap is_parted control)

-- ---- a Peek that has sent ABOR

abort_sent : (halt : Halt) → is_unsent (halt_abort halt) ≡ false
abort_sent (Gives octet more) = refl
abort_sent (Gave whole heard asked gap) = refl
abort_sent (Halted whole left) = refl

-- is at it
pub halt_aborted : (now : State) (ask : Ask) (own : List Mark) (w : World) → AtHalt now ask own w → is_unaborted w.near.job ≡ false
halt_aborted now ask own w h =
    ap (λ (u : World). is_unaborted u.near.job) h.is ∙ ap (λ (n : Near). is_unaborted n.job) h.here.near ∙ abort_sent h.halt
