-- How such a session ends: the client's drive reports and leaves its data connection or its port, and the server's drive is over since the client left; and the
-- moment in its midst.
use Rattle.std.proofs.Common.{◌≡◌, inl, ℕ, false, List, [], ◌∷◌, ◌++◌, None, Some, refl, sym, ap, subst}
use Rattle.ftp_ports.specs.Asking.{Asked}
use Rattle.ftp_ports.specs.Channel.{Channel}
use Rattle.ftp_ports.specs.Actions.{Action, Done, Other, Stand}
use Rattle.ftp_ports.specs.Machine.{Aside, Closed, Left}
use Rattle.ftp_client_driver.specs.Side.{Begun, Report, Starting, client_side, is_operation_under_way}
use Rattle.ftp_client_model.specs.Calls as near
use Rattle.ftp_client_model.specs.Plan.{count_of}
use Rattle.ftp_client_model.specs.View.{View as Near}
use Rattle.ftp_ends.specs.declared.link.Wants.TheVariants as Want
use Rattle.ftp_operation.specs.Answer.{Said}
use Rattle.ftp_operation.specs.declared.op.Op.{Op}
use Rattle.ftp_server_driver.specs.alone.Side.{server_side}
use Rattle.ftp_server_model.specs.Calls as far
use Rattle.ftp_server_model.specs.View.{View as Far}
use Rattle.laws_breaks.specs.downloads.Claims.{DidSuffer, download_faults}
use Rattle.laws_breaks.specs.downloads.Actions.{ClientSuffers}
use Rattle.laws_breaks.specs.downloads.Over.{AreOver}
use Rattle.laws_breaks.proofs.downloads.Last.{AsksEach, none_after, none_short}
use Rattle.laws_drivers.specs.events.Actions.{AreMidst, IsMidst}
use Rattle.laws_drivers.proofs.events.Along.{Went}
use Rattle.laws_drivers.specs.control.Between.{Between, CanTurn, Client, Turn, client_actions, server_actions}
use Rattle.laws_drivers.specs.control.Claims.{Begins}
use Rattle.laws_drivers.specs.events.Answers.{AreAnswered}
use Rattle.laws_drivers.proofs.control.Playing.{Attends}
use Rattle.laws_transfers.specs.Actions.{IsTransferred}
use Rattle.laws_world.specs.Claims.{Beginning}
use Rattle.laws_examples.proofs.transfers.Over.{IsLeft, Reports, are_over, far_drove, far_end, far_led, far_off, near_answers, near_does, near_done, near_drove}
use Rattle.laws_examples.proofs.transfers.Playing.{PlayedBy, far_in, near_in, none_yet}
use Rattle.laws_examples.proofs.downloads.Breaking.{breaking, went_on}

-- ---- no Peek is begun

-- an operation that asks for all, and none in its midst
midst_each : (actions before : List (Action client_side)) → AreMidst actions → AsksEach before → AsksEach (actions ++ before)
midst_each [] before midst each = each
midst_each (action ∷ actions) before midst each = by action midst.1 (midst_each actions before midst.0 each)
  where
    by : (action : Action client_side) → IsMidst action → AsksEach (actions ++ before) → AsksEach (action ∷ (actions ++ before))
    by (Other (Aside (Starting op))) is rest = absurd is
    by action is rest = rest

-- ---- a moment in its midst

-- both did these actions
pub did_so : {before : List Turn} (b : Beginning) (moments : ℕ → ℕ) (op : Op (List ℕ)) (first : Far) (client_first begun : Near) (between : Between)
    (server : Stand server_side) (client : Stand client_side) → Begins b (far_in none_yet first []) (near_in none_yet client_first [])
    → Done (Other (Begun op)) (near_in none_yet client_first []) (near_in none_yet begun []) → IsTransferred op → count_of op ≡ None
    → client_first.closing ≡ false
    → (p : PlayedBy (breaking before) moments (far_in none_yet first []) (near_in none_yet begun []) op 1 between server client)
    → DidSuffer b moments p.turns between server client
did_so b moments op first client_first begun between server client begins does is all closing p =
    let went : Went ClientSuffers (client_actions p.turns) (near_in none_yet client_first []) client =
    subst (λ actions. Went ClientSuffers actions (near_in none_yet client_first []) client) (sym p.client_is)
    (went_on op p.midst (near_in none_yet client_first []) (near_in none_yet begun []) client (p.near_led, p.takes) does ((is, closing), refl)) in
    let each : AsksEach (client_actions p.turns) = subst AsksEach (sym p.client_is) (midst_each p.midst (Other (Begun op) ∷ []) p.are (all, tt)) in
    record {
      server_start = far_in none_yet first [];
      client_start = near_in none_yet client_first [];
      begins = begins;
      untold = refl;
      unwritten = refl;
      server_unwritten = refl;
      client_untold = refl;
      happened = p.happened;
      server_led = p.far_led;
      client_led = went.0;
      serves = p.gives;
      asks = went.1;
      ports = p.ports;
      told = p.told;
      ordered = none_after p.turns between p.happened (far_in none_yet first []) server p.far_led each;
      short = none_short (client_actions p.turns) (near_in none_yet client_first []) client went.0 each;
    }

-- ---- both are over

module _ {before : List Turn} (b : Beginning) (first : Far) (op : Op (List ℕ)) (said : Said) (client_first begun : Near) (v : Far) (n : Near)
    (moments : ℕ → ℕ) (channel : Channel) (asked : Asked) (there last : Between)
    (begins : Begins b (far_in none_yet first []) (near_in none_yet client_first []))
    (does : Done (Other (Begun op)) (near_in none_yet client_first []) (near_in none_yet begun [])) (is : IsTransferred op) (all : count_of op ≡ None)
    (some : near.report_of n ≡ Some said) (free : is_operation_under_way (near.reports n).job ≡ false)
    (leaves : Done (Other (Left asked)) (near_in channel (near.reports n) []) (near_in none_yet (near.reports n) []))
    (may : ClientSuffers (Other (Left asked)) (near_in channel (near.reports n) []).owner (near_in none_yet (near.reports n) []).owner)
    (can : CanTurn (Client (Other (Left asked))) there last)
    (p : PlayedBy (breaking before) moments (far_in none_yet first []) (near_in none_yet begun []) op 1 there (far_in none_yet v []) (near_in channel n [])) where
  -- what the client's drive did
  abbrev reporting : Reports op said client_first begun n channel asked
  reporting = record { does = does; some = some; free = free; leaves = leaves; midst = p.midst; led = p.near_led }

  -- and that is all that was asked, by such actions
  unfoldable all_asked : AreAnswered download_faults.IsAnswer ((op, said) ∷ []) (near_in none_yet client_first []) (near_done n)
  unfolding near_done
  all_asked = (
    near_in none_yet client_first [],
    refl,
    near_answers reporting,
    record { by = near_does reporting IsTransferred ClientSuffers is p.takes (tt, refl) may (tt, refl) p.are; short = inl all },
  )

  -- the client left: both are over, after those turns
  pub both_over : v.owed ≡ [] → Attends v → far.wants (far.control_end v) ≡ Want.CloseAll
      → (server : Stand server_side) × (over : AreOver b moments ((op, said) ∷ []) server) × (more : List Turn) × (over.turns ≡ more ++ before)
  unfolding all_asked near_answers near_drove far_drove far_led far_end near_done are_over
  both_over owed at over =
      let each : AsksEach (client_actions p.turns) = subst AsksEach (sym p.client_is) (midst_each p.midst (Other (Begun op) ∷ []) p.are (all, tt)) in
      let left : IsLeft first v (server_actions p.turns) = record { led = p.far_led; owed = owed; attends = at; over = over } in
      let last_turns : List Turn = Client (Other Closed) ∷ Client (Other (Left asked)) ∷ Client (Other (Report (Some said))) ∷ [] in (
        far_off v,
        are_over client_first n (last_turns ++ p.turns) last (last, (there, (there, p.happened, refl), can), refl) begins left all_asked
            (ap (λ l. Other Closed ∷ Other (Left asked) ∷ Other (Report (Some said)) ∷ l) p.client_is) p.gives p.ports p.told
            (none_after p.turns there p.happened (far_in none_yet first []) (far_in none_yet v []) p.far_led each),
        last_turns ++ p.resets.0,
        ap (λ l. last_turns ++ l) p.resets.1,
      )
