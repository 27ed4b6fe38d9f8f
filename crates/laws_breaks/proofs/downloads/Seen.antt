-- What an action of the server does between two drives, as a world sees it: octets that the server did not write as it was told of the break of a data connection
-- that it gave all for, or that it drops as it resets one, are on their way there.
use Rattle.std.proofs.Common.{◌≡◌, ◌⊎◌, inl, inr, true, false, true≢false, [], sym, ap, subst, ◌∙◌, refl}
use Rattle.ftp_ports.specs.Asking.{Reset}
use Rattle.ftp_ports.specs.Actions.{Action, Other, Stand}
use Rattle.ftp_ports.specs.Machine.{Break, Left}
use Rattle.ftp_client_driver.specs.Side.{client_side}
use Rattle.ftp_ends.specs.declared.link.Wants.TheVariants as Want
use Rattle.ftp_server_driver.specs.alone.Side.{server_side}
use Rattle.ftp_server_model.specs.Calls as far
use Rattle.laws_drivers.specs.control.Between.{Between, Can, CanTurn, Far as TheServer, Has, Has_lost, IsStanding, Server, with_hold}
use Rattle.laws_drivers.specs.control.Touches.{Resets, ToldBreak, touch_in}
use Rattle.laws_drivers.proofs.events.Holding.{is_called, is_had}
use Rattle.laws_transfers.proofs.Called.{StaysFresh, far_fresh}
use Rattle.laws_transfers.proofs.Lost.{IsSeen, far_done, resets_losing, with_lost}
use Rattle.laws_breaks.specs.downloads.Actions.{ServerYields}
use Rattle.laws_breaks.proofs.downloads.Drained.{IsLone, dried}

-- what lies there after this server left its data connection
abbrev pub dropped : Stand server_side → Between → Between
dropped server between = with_lost server.owner.channel.unwritten (with_hold TheServer Has_lost between)

-- it is told of a break while it gives, or of one that is to close
abbrev pub IsTold : Stand server_side → (old new : Between) → Type 0
IsTold server p q =
    ((far.wants server.owner.end.server.view ≡ Want.Send) × Can TheServer ToldBreak p q)
    ⊎ ((server.owner.end.server.view.session.closing ≡ true) × (p.far ≡ Has) × (q ≡ dropped server p))

-- what each action does
abbrev pub Sees : Action server_side → Stand server_side → (old new : Between) → Type 0
Sees (Other (Left (Reset left written))) server p q = IsStanding p.far × (q ≡ dropped server p)
Sees (Other Break) server p q = IsTold server p q
Sees action server p q = CanTurn (Server action) p q

-- nothing comes to a client while its server was only dialled
pub sees_fresh : (action : Action server_side) (server : Stand server_side) → IsLone action server.owner → (p q : Between) (client : Stand client_side)
    → StaysFresh p client → Sees action server p q → StaysFresh q client
sees_fresh (Other (Left (Reset left written))) server is p q client fresh can =
    λ called. absurd (true≢false (sym called ∙ ap (λ (m : Between). is_called m.far) can.1))
sees_fresh (Other Break) server is p q client fresh can = absurd is
sees_fresh action server is p q client fresh can = far_fresh p q client fresh (touch_in action) can

-- what can be done between can be done there, of a server that has octets unwritten only where it has a data connection
abbrev pub SeesOn : (action : Action server_side) (server : Stand server_side) (next seen : Between) → Type 0
SeesOn action server next seen = (after : Between) × Sees action server seen after × IsSeen next after

module _ (old new : Stand server_side) (p q s : Between) (is_seen : IsSeen p s) (spare : is_had s.far ≡ false → (dried old).owner.channel.unwritten ≡ []) where
  -- what is not written is on its way there
  drops : Can TheServer Resets p q → IsSeen q (dropped (dried old) s)
  drops can = resets_losing p q s is_seen (dried old).owner.channel.unwritten (λ e. spare (ap is_had is_seen.far ∙ e)) can

  pub far_sees : (action : Action server_side) → ServerYields action old.owner new.owner → CanTurn (Server action) p q → SeesOn action (dried old) q s
  far_sees (Other (Left (Reset left written))) is can =
      (dropped (dried old) s, (subst IsStanding (sym is_seen.far) can.0, refl), drops can)
  far_sees (Other Break) is can = elim is.0 [
    | inl sends ↦ let there = far_done p q s is_seen ToldBreak can in (there.after, inl (sends, there.can), there.is_seen)
    | inr closing ↦ (dropped (dried old) s, inr (closing, is_seen.far ∙ can.0, refl), drops (subst IsStanding (sym can.0) tt, can.1))
  ]
  far_sees action is can = let there = far_done p q s is_seen (touch_in action) can in (there.after, there.can, there.is_seen)
