use Rattle.std.proofs.Common.{◌≡◌, ◌+◌, ◌≤◌, ℕ, List, length, take, drop, ap, sym, ◌∙◌}
use Rattle.ftp_client_model.specs.Calls as near
use Rattle.ftp_client_model.specs.View.{View}
use Rattle.ftp_server_model.specs.Machine.{Reading}
use Rattle.laws_world.specs.Events.{DataToClient, pushed, taking}
use Rattle.laws_world.specs.World.{World, counted}
use Rattle.ftp_pair_events.specs.events.Shown.{shown}
use Rattle.ftp_pair_events.proofs.events.Busy.{receives_busy}
use Rattle.ftp_pair_events.proofs.events.Taking.{heard_front, near_data_takes}
use Rattle.std.proofs.Common.{refl}
use Rattle.ftp_pair_events.proofs.events.Keeping.{near_kept}
use Rattle.ftp_pair_events.proofs.events.parts.Parts.push_data_to_client.Goals as goal

pub returns-clause-takes : goal.returns-clause-takes
returns-clause-takes g c calm =
    let s = c.stays-self.ensures.kept calm in (
      s.0,
      λ read reads. near_data_takes read c.args.most c.data_hear-taken.result c.front.result.now (shown g.N.Near.client g.F.Far.server c.args.self.now) c.front.ensures c.data_hear-taken.ensures.within
          (c.data_hear-taken.ensures.took.0 (sym c.refusals.ensures ∙ s.1 ∙ c.refusals-refusals.ensures)).1 c.data_hear-taken.ensures.some,
    )

pub returns-clause-report : goal.returns-clause-report
returns-clause-report g c had busy =
    had (receives_busy (g.N.Near.client c.args.self.now.near) (g.N.Near.client c.data_hear-taken.new.self) c.front.result.now c.data_hear-taken.result c.data_hear-taken.ensures.took busy)

-- what the client took leaves the queue, is lent and is counted
pushed_client_of : (read : Reading) (taken most : ℕ) (piece : List ℕ) (w : World) (view : View) (queue lent : List ℕ) (came : ℕ)
    → piece ≡ take most w.data_to_client → taken ≤ length piece → view ≡ near.receives w.near (take taken piece)
    → queue ≡ drop taken w.data_to_client → lent ≡ take taken w.data_to_client → came ≡ counted (w.came + taken)
    → record w { near = view; data_to_client = queue; came = came; taken = lent } ≡ pushed read DataToClient taken (taking DataToClient taken w)
pushed_client_of read taken most piece w view queue lent came e few view_is queue_is lent_is came_is =
    let heard = view_is ∙ ap (near.receives w.near) (heard_front taken most piece w.data_to_client e few) in
    λ i. record w { near = heard i; data_to_client = queue_is i; came = came_is i; taken = lent_is i }

pub returns-clause-moved : goal.returns-clause-moved
returns-clause-moved g c calm =
    let s = c.stays-self.ensures.kept calm in (
      s.0,
      λ read reads. pushed_client_of read c.data_hear-taken.result c.args.most c.front.result.now (shown g.N.Near.client g.F.Far.server c.args.self.now) _ _ _ _
          c.front.ensures c.data_hear-taken.ensures.within (c.data_hear-taken.ensures.took.0 (sym c.refusals.ensures ∙ s.1 ∙ c.refusals-refusals.ensures)).0
          c.take_front.ensures.left c.take_front.ensures.items c.count_on-self.ensures,
    )

pub returns-clause-counted : goal.returns-clause-counted
returns-clause-counted g c =
    near_kept c.refusals-refusals.result c.refusals.result c.stays-self.ensures.fits c.refusals-refusals.ensures c.refusals.ensures c.data_hear-taken.ensures.counted refl c.stays-self.ensures.is
