use Rattle.std.proofs.Common.{subst, sym}
use Rattle.tool_scheduler.specs.Rounds.{Spares}
use Rattle.tool_scheduler.specs.Sharing.{OnlyShared, rules_of, shared}
use Rattle.tool_scheduler.proofs.RoundLemmas.{spares_then}
use Rattle.tool_scheduler.proofs.SharingLemmas.{shares_then}
use Rattle.tool_scheduler.proofs.rounds.Rounds.welcome_all.Goals.{in-Failed, in-Client}
use Rattle.tool_scheduler.proofs.rounds.Rounds.welcome_all.Goals as goal

pub loop-preserved : goal.loop-preserved
loop-preserved g c =
    let history = g.M.Slot.Slot.history in
    let rules = rules_of g.M.Slots.begins g.M.Slots.starts g.M.Slot.Slot.takes in
    let first = shared c.args.tree.now c.args.table.now.slots.items in
    elim c.match-next.branch [
      | in-Failed w ↦ record {
        spares = subst (λ tree. Spares (history c.args.tree.now) (history tree)) (sym w.tree-is) c.loop.invariant.spares;
        shares = subst (λ tree. OnlyShared rules first (shared tree c.match-next.table.slots.items)) (sym w.tree-is)
            (subst (λ table. OnlyShared rules first (shared c.loop.tree table.slots.items)) (sym w.table-is) c.loop.invariant.shares);
      }
      | in-Client w ↦ record {
        spares = subst (λ tree. Spares (history c.args.tree.now) (history tree)) (sym w.tree-is)
            (spares_then (history c.args.tree.now) (history c.loop.tree) (history w.welcome.new.tree) c.loop.invariant.spares w.welcome.ensures.spares);
        shares = subst (λ tree. OnlyShared rules first (shared tree c.match-next.table.slots.items)) (sym w.tree-is)
            (subst (λ table. OnlyShared rules first (shared w.welcome.new.tree table.slots.items)) (sym w.table-is)
            (shares_then rules first (shared c.loop.tree c.loop.table.slots.items) (shared w.welcome.new.tree w.welcome.new.table.slots.items)
            c.loop.invariant.shares w.welcome.ensures.shares));
      }
    ]
