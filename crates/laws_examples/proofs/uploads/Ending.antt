-- How such a session ends: the client's drive reports and shuts its port, and the server's drive is over since the client left; and the moment in its midst.
use Rattle.std.proofs.Common.{◌≡◌, ℕ, false, List, [], ◌∷◌, ◌++◌, None, Some, refl, sym, ap, subst}
use Rattle.ftp_ports.specs.Asking.{Asked}
use Rattle.ftp_ports.specs.Channel.{Channel}
use Rattle.ftp_ports.specs.Actions.{Done, Other, Stand}
use Rattle.ftp_ports.specs.Machine.{Closed, Left}
use Rattle.ftp_client_driver.specs.Side.{Begun, Report, client_side, is_operation_under_way}
use Rattle.ftp_client_model.specs.Calls as near
use Rattle.ftp_client_model.specs.Plan.{count_of}
use Rattle.ftp_client_model.specs.View.{View as Near}
use Rattle.ftp_ends.specs.declared.link.Wants.TheVariants as Want
use Rattle.ftp_operation.specs.Answer.{Said}
use Rattle.ftp_operation.specs.declared.op.Op.{Op}
use Rattle.ftp_server_driver.specs.alone.Side.{server_side}
use Rattle.ftp_server_model.specs.Calls as far
use Rattle.ftp_server_model.specs.Machine.{later}
use Rattle.ftp_server_model.specs.View.{View as Far}
use Rattle.laws_breaks.specs.uploads.Claims.{DidCut, upload_faults}
use Rattle.laws_breaks.specs.uploads.Actions.{ClientGives}
use Rattle.laws_breaks.specs.uploads.Over.{AreOver}
use Rattle.laws_drivers.proofs.events.Along.{Went}
use Rattle.laws_drivers.specs.control.Between.{Between, CanTurn, Client, Turn, client_actions, server_actions}
use Rattle.laws_drivers.specs.control.Claims.{Begins}
use Rattle.laws_drivers.specs.events.Answers.{AreAnswered}
use Rattle.laws_drivers.proofs.control.Playing.{Attends}
use Rattle.laws_transfers.specs.Actions.{IsTransferred}
use Rattle.laws_world.specs.Claims.{Beginning}
use Rattle.laws_examples.proofs.transfers.Moves.{near_closes, says_answer}
use Rattle.laws_examples.proofs.transfers.Over.{IsLeft, Reports, are_over, far_drove, far_end, far_led, far_off, near_answers, near_done, near_drove}
use Rattle.laws_examples.proofs.transfers.Playing.{PlayedBy, far_in, near_in, none_yet}
use Rattle.laws_examples.proofs.uploads.Cutting.{cut_along, cutting, loses_along, went_on}

-- what the client did from its beginning on
went_so : {before : List Turn} {at : Far} (moments : ℕ → ℕ) (op : Op (List ℕ)) (first : Far) (client_first begun : Near) (between : Between)
    (server : Stand server_side) (client : Stand client_side) → Done (Other (Begun op)) (near_in none_yet client_first []) (near_in none_yet begun [])
    → IsTransferred op → count_of op ≡ None → client_first.closing ≡ false
    → (p : PlayedBy (cutting before at (moments 0)) moments (far_in none_yet first []) (near_in none_yet begun []) op 1 between server client)
    → Went ClientGives (client_actions p.turns) (near_in none_yet client_first []) client
went_so moments op first client_first begun between server client does is all closing p =
    subst (λ actions. Went ClientGives actions (near_in none_yet client_first []) client) (sym p.client_is)
    (went_on op p.midst (near_in none_yet client_first []) (near_in none_yet begun []) client (p.near_led, p.takes) does (((is, closing), all), refl))

-- ---- a moment in its midst

-- both did these actions
pub did_so : {before : List Turn} {at : Far} (b : Beginning) (moments : ℕ → ℕ) (op : Op (List ℕ)) (first : Far) (client_first begun : Near)
    (between : Between) (server : Stand server_side) (client : Stand client_side) → Begins b (far_in none_yet first []) (near_in none_yet client_first [])
    → Done (Other (Begun op)) (near_in none_yet client_first []) (near_in none_yet begun []) → IsTransferred op → count_of op ≡ None
    → client_first.closing ≡ false → ((told : ℕ) → (later (far.break_step (later (far.clock_step told at)))).context.moment ≡ told)
    → (p : PlayedBy (cutting before at (moments 0)) moments (far_in none_yet first []) (near_in none_yet begun []) op 1 between server client)
    → DidCut b moments p.turns between server client
did_so {before} {at} b moments op first client_first begun between server client begins does is all closing steps p =
    let went : Went ClientGives (client_actions p.turns) (near_in none_yet client_first []) client =
    went_so moments op first client_first begun between server client does is all closing p in
    record {
      server_start = far_in none_yet first [];
      client_start = near_in none_yet client_first [];
      begins = begins;
      untold = refl;
      unwritten = refl;
      server_unwritten = refl;
      client_untold = refl;
      happened = p.happened;
      server_led = p.far_led;
      client_led = went.0;
      serves = loses_along at (moments 0) (server_actions p.turns) (far_in none_yet first []) server p.far_led p.gives;
      asks = went.1;
      ports = p.ports;
      told = p.told;
      ordered = cut_along at (moments 0) steps moments refl p.turns p.resets.1 (far_in none_yet first []) server p.far_led p.gives;
      short = tt;
    }

-- ---- both are over

module _ {before : List Turn} {at : Far} (b : Beginning) (first : Far) (op : Op (List ℕ)) (said : Said) (client_first begun : Near) (v : Far) (n : Near)
    (moments : ℕ → ℕ) (channel : Channel) (asked : Asked) (there last : Between)
    (begins : Begins b (far_in none_yet first []) (near_in none_yet client_first []))
    (does : Done (Other (Begun op)) (near_in none_yet client_first []) (near_in none_yet begun [])) (is : IsTransferred op) (all : count_of op ≡ None)
    (closing : client_first.closing ≡ false) (steps : (told : ℕ) → (later (far.break_step (later (far.clock_step told at)))).context.moment ≡ told)
    (some : near.report_of n ≡ Some said) (free : is_operation_under_way (near.reports n).job ≡ false)
    (leaves : Done (Other (Left asked)) (near_in channel (near.reports n) []) (near_in none_yet (near.reports n) []))
    (may : ClientGives (Other (Left asked)) (near_in channel (near.reports n) []).owner (near_in none_yet (near.reports n) []).owner)
    (can : CanTurn (Client (Other (Left asked))) there last)
    (p : PlayedBy (cutting before at (moments 0)) moments (far_in none_yet first []) (near_in none_yet begun []) op 1 there (far_in none_yet v [])
    (near_in channel n [])) where
  -- what the client's drive did
  abbrev reporting : Reports op said client_first begun n channel asked
  reporting = record { does = does; some = some; free = free; leaves = leaves; midst = p.midst; led = p.near_led }

  -- and that is all that was asked
  unfoldable all_asked : AreAnswered upload_faults.IsAnswer ((op, said) ∷ []) (near_in none_yet client_first []) (near_done n)
  unfolding near_answers near_drove
  all_asked = (near_in none_yet client_first [], refl, near_answers reporting, p.are)

  -- what it did from its beginning on
  went : Went ClientGives (client_actions p.turns) (near_in none_yet client_first []) (near_in channel n [])
  went = went_so moments op first client_first begun there (far_in none_yet v []) (near_in channel n []) does is all closing p

  near_all : Went ClientGives (Other Closed ∷ Other (Left asked) ∷ Other (Report (Some said)) ∷ client_actions p.turns) (near_in none_yet client_first [])
      (near_done n)
  unfolding near_done
  near_all = (
    (
      near_in none_yet (near.reports n) [],
      (
        near_in channel (near.reports n) [],
        (near_in channel n [], went.0, says_answer channel n said some),
        leaves,
      ),
      near_closes (near.reports n) free,
    ),
    (((went.1, (tt, refl)), may), (tt, refl)),
  )

  -- the client left: both are over, after those turns
  pub both_over : v.owed ≡ [] → Attends v → far.wants (far.control_end v) ≡ Want.CloseAll
      → (server : Stand server_side) × (are : AreOver b moments ((op, said) ∷ []) server) × (more : List Turn) × (are.over.turns ≡ more ++ before)
  unfolding all_asked near_answers near_drove far_drove far_led far_end near_done are_over
  both_over owed attends over =
      let left : IsLeft first v (server_actions p.turns) = record { led = p.far_led; owed = owed; attends = attends; over = over } in
      let last_turns : List Turn = Client (Other Closed) ∷ Client (Other (Left asked)) ∷ Client (Other (Report (Some said))) ∷ [] in (
        far_off v,
        record {
          over = are_over client_first n (last_turns ++ p.turns) last (last, (there, (there, p.happened, refl), can), refl) begins left all_asked
              (ap (λ l. Other Closed ∷ Other (Left asked) ∷ Other (Report (Some said)) ∷ l) p.client_is)
              (loses_along at (moments 0) (server_actions p.turns) (far_in none_yet first []) (far_in none_yet v []) p.far_led p.gives) p.ports p.told
              (cut_along at (moments 0) steps moments refl p.turns p.resets.1 (far_in none_yet first []) (far_in none_yet v []) p.far_led p.gives);
          client_led = near_all.0;
          gives = near_all.1;
        },
        last_turns ++ p.resets.0.0,
        ap (λ l. last_turns ++ l) p.resets.0.1,
      )
