use Rattle.std.proofs.Common.{◌∙◌, ◌<◌, length, refl, rules}
use Rattle.ftp_driver.proofs.Words.{Said, by_action, by_nowhere, fails_spent, flushes_err, gave_some, owes_none, owes_some, said_some, write_fails}
use Rattle.ftp_driver.proofs.control.flush.Goals as goal

pub loop-room-init : goal.loop-room-init
loop-room-init g c = (λ channel. by_nowhere _ _ c.new-turns.ensures, refl)

pub returns-clause-flushes : goal.returns-clause-flushes
returns-clause-flushes g c channel = record { leads = (c.loop-room.invariant.0 channel).leads; owes = owes_none _ (search rules) }

pub returns-in_err-write-clause-flushes : goal.returns-in_err-write-clause-flushes
returns-in_err-write-clause-flushes g c channel =
    let gave = c.control_out-count in
    flushes_err c.in_err-write.field-0.0 _ _ c.from_residual-in_err-write.result c.from_residual-in_err-write.ensures.1
    (write_fails c.in_err-write.field-0.0 c.write.new.self.failed _ _ _ c.split_at.result.0.now c.in_err-write.ensures.fault (c.loop-room.invariant.0 channel).leads
    (gave_some g.K.EndCalls.machine _ _ channel gave.result _ (c.split_at.ensures.front ∙ gave.ensures.gave) gave.ensures.now)
    c.in_err-write.ensures.front c.in_err-write.ensures.left c.in_err-write.ensures.unheard)

pub loop-room-preserved : goal.loop-room-preserved
loop-room-preserved g c = (
  λ channel.
      let gave = c.control_out-count in
      let count = gave.ensures.some (search rules) (owes_some _ (search rules)) in
      let some : 0 < length c.split_at.result.0.now = search rules in
      by_action (Said c.split_at.result.0.now) _ _ _ _ _ (c.loop-room.invariant.0 channel) c.in_ok-next.ensures.made (said_some c.split_at.result.0.now some) (record {
        gives = gave_some g.K.EndCalls.machine _ _ channel gave.result _ (c.split_at.ensures.front ∙ gave.ensures.gave) gave.ensures.now;
        wrote = c.in_ok-write.ensures.ok;
        left = c.in_ok-write.ensures.left;
        unheard = c.in_ok-write.ensures.unheard;
      }),
  c.in_ok-write.ensures.unheard ∙ c.loop-room.invariant.1,
)

pub returns-in_err-next-clause-flushes : goal.returns-in_err-next-clause-flushes
returns-in_err-next-clause-flushes g c channel =
    flushes_err c.in_err-next.field-0.0 _ _ c.from_residual.result c.from_residual.ensures.1 (fails_spent _ _ _ _ (c.loop-room.invariant.0 channel) c.in_err-next.ensures.none)
