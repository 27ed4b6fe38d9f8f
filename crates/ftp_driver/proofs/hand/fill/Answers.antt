use Rattle.std.proofs.Common.{◌≡◌}
use Rattle.ftp_driver.proofs.Words.{given_first, given_more, rules}
use Rattle.ftp_ends.specs.declared.link.Wants.TheVariants.{Send}
use Rattle.ftp_driver.proofs.hand.fill.Goals as goal

pub loop-at-init : goal.loop-at-init
loop-at-init g c =
    let gave = c.data_out-first in (
      search rules,
      λ channel is_open. given_first g.K.EndCalls.machine _ _ channel gave.result.count gave.new.room gave.result.rest is_open c.requires
          (gave.ensures.gave c.requires),
    )

pub returns-then-given-eq0-clause-progresses : goal.returns-then-given-eq0-clause-progresses
returns-then-given-eq0-clause-progresses g c channel is_open =
    let gave = c.data_out-given in
    let split = c.split_at_mut-free.ensures in
    let sends : g.K.EndCalls.machine.wants (g.K.EndCalls.here c.loop-at.end) ≡ Send = search rules in
    given_more g.K.EndCalls.machine _ _ _ channel c.loop-at.at gave.result.count c.loop-at.room _ gave.new.room c.loop-at.rest gave.result.rest is_open sends
    (c.loop-at.invariant.1 channel is_open) split.front split.front_len (search rules) (gave.ensures.gave sends)

pub loop-at-preserved : goal.loop-at-preserved
loop-at-preserved g c =
    let gave = c.data_out-given in
    let split = c.split_at_mut-free.ensures in
    let sends : g.K.EndCalls.machine.wants (g.K.EndCalls.here c.loop-at.end) ≡ Send = search rules in (
      search rules,
      λ channel is_open. given_more g.K.EndCalls.machine _ _ _ channel c.loop-at.at gave.result.count c.loop-at.room _ gave.new.room c.loop-at.rest gave.result.rest
          is_open sends (c.loop-at.invariant.1 channel is_open) split.front split.front_len (search rules) (gave.ensures.gave sends),
    )
