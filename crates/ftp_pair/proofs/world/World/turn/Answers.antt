use Rattle.std.proofs.Common.{◌∙◌, ◌≡◌, true, false, ap, subst}
use Rattle.ftp_pair_events.specs.events.Calm.{KeepsTally, tally_of}
use Rattle.ftp_pair_events.specs.events.Happening.{Progresses}
use Rattle.ftp_pair_events.specs.events.Shown.{shown}
use Rattle.laws_settling.specs.Steady.{IsSteadyWorld}
use Rattle.laws_world.specs.Still.{IsStill}
use Rattle.ftp_pair.specs.Session.{Seen, seen}
use Rattle.ftp_pair.proofs.Reaching.{reached_calm, reached_steady, reached_turn}
use Rattle.ftp_pair.proofs.world.World.turn.Goals as goal

pub returns-clause-does : goal.returns-clause-does
returns-clause-does g c =
    subst (λ (s : Seen). c.turn.result ≡ true → Progresses s.calm c.turn.new.self.calm s.world (shown g.N.Near.client g.F.Far.server c.turn.new.self)) c.self.view_is c.turn.ensures.does

pub returns-clause-still : goal.returns-clause-still
returns-clause-still g c = subst (λ (s : Seen). c.turn.result ≡ false → IsStill s.world) c.self.view_is c.turn.ensures.still

pub returns-clause-progresses : goal.returns-clause-progresses
returns-clause-progresses g c = subst (λ (s : Seen). c.turn.result ≡ true → ¬ IsStill s.world) c.self.view_is c.turn.ensures.progresses

pub returns-clause-same : goal.returns-clause-same
returns-clause-same g c is = ap (seen g.N.Near.client g.F.Far.server) (c.turn.ensures.same is) ∙ c.self.view_is

pub returns-clause-steady : goal.returns-clause-steady
returns-clause-steady g c =
    subst (λ (s : Seen). s.calm ≡ true → ∥ IsSteadyWorld s.world ∥₁) c.self.view_is
    (λ calm. reached_steady (shown g.N.Near.client g.F.Far.server c.self.inside.parts) (reached_calm (seen g.N.Near.client g.F.Far.server c.self.inside.parts) c.self.inside.reached calm))

pub invariant_of-self-inside : goal.invariant_of-self-inside
invariant_of-self-inside g c = (
  reached_turn c.turn.result (seen g.N.Near.client g.F.Far.server c.self.inside.parts) (seen g.N.Near.client g.F.Far.server c.turn.new.self) c.turn.ensures.does
      (λ is. ap (seen g.N.Near.client g.F.Far.server) (c.turn.ensures.same is)) c.self.inside.reached,
  tt,
)

pub returns-clause-counted : goal.returns-clause-counted
returns-clause-counted g c =
    subst (λ (s : Seen). KeepsTally 12312 s.calm c.turn.new.self.calm s.tally (tally_of g.N.Near.client g.F.Far.server c.turn.new.self)) c.self.view_is c.turn.ensures.counted
