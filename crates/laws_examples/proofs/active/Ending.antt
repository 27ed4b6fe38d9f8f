-- How such a session ends: the client's drive reports and leaves its data connection, and the server's drive is over since the client left.
use Rattle.std.proofs.Common.{◌≡◌, ℕ, false, List, [], ◌∷◌, Some, refl, ap}
use Rattle.ftp_ports.specs.Asking.{Asked}
use Rattle.ftp_ports.specs.Channel.{Channel}
use Rattle.ftp_ports.specs.Actions.{Done, Other, Stand}
use Rattle.ftp_ports.specs.Machine.{Closed, Left}
use Rattle.ftp_client_driver.specs.Side.{Begun, Report, is_operation_under_way}
use Rattle.ftp_client_model.specs.Calls as near
use Rattle.ftp_client_model.specs.View.{View as Near}
use Rattle.ftp_ends.specs.declared.link.Wants.TheVariants as Want
use Rattle.ftp_operation.specs.Answer.{Said}
use Rattle.ftp_operation.specs.declared.op.Op.{Op}
use Rattle.ftp_server_driver.specs.alone.Side.{server_side}
use Rattle.ftp_server_model.specs.Calls as far
use Rattle.ftp_server_model.specs.View.{View as Far}
use Rattle.laws_world.specs.Claims.{Beginning}
use Rattle.laws_drivers.specs.control.Between.{Between, CanTurn, Client, Hold, server_actions}
use Rattle.laws_drivers.specs.control.Claims.{Begins}
use Rattle.laws_drivers.specs.events.Answers.{AreAnswered, IsAnswerBy}
use Rattle.laws_drivers.proofs.control.Playing.{Attends}
use Rattle.laws_transfers.specs.Actions.{IsCarried}
use Rattle.laws_active.specs.Actions.{ClientTransfersEitherWay}
use Rattle.laws_active.specs.Over.{AreOver}
use Rattle.laws_examples.proofs.transfers.Ending.{IsAnsweredBy, lies_over}
use Rattle.laws_examples.proofs.transfers.Over.{IsLeft, Reports, are_over, far_drove, far_end, far_led, far_off, near_answers, near_does, near_done, near_drove}
use Rattle.laws_examples.proofs.transfers.Playing.{far_in, near_in, none_yet}
use Rattle.laws_examples.proofs.active.Playing.{Played}

-- ---- an operation was answered

-- both did its actions, over a data connection that either dialled
abbrev pub IsCalled : (b : Beginning) (moments : ℕ → ℕ) (op : Op (List ℕ)) (said : Said) → Type 0
IsCalled b moments op said =
    IsAnsweredBy IsCarried ClientTransfersEitherWay (λ start begun there server client. Played moments start begun op 1 there server client) b op said

-- ---- both are over

module _ (b : Beginning) (first : Far) (op : Op (List ℕ)) (said : Said) (client_first begun : Near) (v : Far) (n : Near) (moments : ℕ → ℕ)
    (channel : Channel) (asked : Asked) (hold : Hold) (there : Between) (begins : Begins b (far_in none_yet first []) (near_in none_yet client_first []))
    (does : Done (Other (Begun op)) (near_in none_yet client_first []) (near_in none_yet begun [])) (is : IsCarried op)
    (some : near.report_of n ≡ Some said) (free : is_operation_under_way (near.reports n).job ≡ false)
    (leaves : Done (Other (Left asked)) (near_in channel (near.reports n) []) (near_in none_yet (near.reports n) []))
    (may : ClientTransfersEitherWay (Other (Left asked)) (near_in channel (near.reports n) []).owner (near_in none_yet (near.reports n) []).owner)
    (can : CanTurn (Client (Other (Left asked))) there (lies_over hold [] []))
    (p : Played moments (far_in none_yet first []) (near_in none_yet begun []) op 1 there (far_in none_yet v []) (near_in channel n [])) where
  -- what the client's drive did
  abbrev reporting : Reports op said client_first begun n channel asked
  reporting = record { does = does; some = some; free = free; leaves = leaves; midst = p.midst; led = p.near_led }

  -- and that is all that was asked
  unfoldable all_asked : AreAnswered (IsAnswerBy IsCarried ClientTransfersEitherWay) ((op, said) ∷ []) (near_in none_yet client_first []) (near_done n)
  unfolding near_done
  all_asked = (
    near_in none_yet client_first [],
    refl,
    near_answers reporting,
    near_does reporting IsCarried ClientTransfersEitherWay is p.takes (tt, refl) may (tt, refl) p.are,
  )

  -- the client left: both are over
  pub both_over : v.owed ≡ [] → Attends v → far.wants (far.control_end v) ≡ Want.CloseAll
      → (server : Stand server_side) × AreOver b moments ((op, said) ∷ []) server
  unfolding all_asked near_answers near_drove far_drove far_led far_end near_done are_over
  both_over owed at over =
      let left : IsLeft first v (server_actions p.turns) = record { led = p.far_led; owed = owed; attends = at; over = over } in (
        far_off v,
        are_over client_first n (Client (Other Closed) ∷ Client (Other (Left asked)) ∷ Client (Other (Report (Some said))) ∷ p.turns) (lies_over hold [] [])
            (lies_over hold [] [], (there, (there, p.happened, refl), can), refl) begins left all_asked
            (ap (λ l. Other Closed ∷ Other (Left asked) ∷ Other (Report (Some said)) ∷ l) p.client_is) p.gives p.ports p.told p.resets,
      )
