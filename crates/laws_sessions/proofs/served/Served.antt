-- Sessions of several beside the drives of their client.
use Rattle.std.proofs.Common.{◌≡◌, ◌∙◌, true, false, List, [], ◌∷◌, suc, length, Ok, refl, sym, ap}
use Rattle.ftp_ports.specs.Actions.{Action, Led, Other, Stand}
use Rattle.ftp_ports.specs.Machine.{Left}
use Rattle.ftp_driver.specs.declared.drive.Turned.TheVariants as Turns
use Rattle.ftp_path.specs.Path.{Names}
use Rattle.ftp_server_driver.specs.alone.Side.{server_side}
use Rattle.ftp_server_driver.specs.shared.Lending.{Holding, tree_of, with_tree_at}
use Rattle.ftp_server_driver.specs.shared.Turning.{AllGoOn, AreTurns, TakesTurn, Turn, told_by}
use Rattle.ftp_server_model.proofs.StandingLemmas.{stands_still}
use Rattle.ftp_server_model.specs.Standing.{standing_of, still_stands}
use Rattle.laws_drivers.proofs.control.Theorems.{drives_agree, drives_over_are_the_direct_run, drives_that_quit_are_the_direct_run, parting_agrees}
use Rattle.laws_transfers.proofs.Concluding.{transfers_agree, transfers_parting_agree}
use Rattle.laws_transfers.proofs.Ending.{transfers_over_are_the_direct_run}
use Rattle.laws_transfers.proofs.Quitting.{transfers_that_quit_are_the_direct_run}
use Rattle.laws_sessions.specs.served.Alone.{FindWhatWasLeft, server_actions_in, lent_first, part_at, whole_holding}
use Rattle.laws_drivers.specs.events.Actions.{Along}
use Rattle.laws_sessions.specs.served.Rooted.{StaysAt, TurnsStayAt}
use Rattle.laws_sessions.specs.served.Served.{Agree, Direct, DrivesAreCutUp, ServedAgree, ServedAreDirect, TurnsAreServed}

-- what is said of the drive is said of the session, whose last turn gave back what the drive left
module _ {X : Type 0} (part : Holding → X) where
  agree : Agree part
  agree = record {
    transferring = λ b fair moments timed order between turn before there client did served. record {
      standing = (tree_of there.owner.end, served.leaves, transfers_agree b fair moments timed order between there client did);
      parting = (tree_of there.owner.end, served.leaves, transfers_parting_agree b fair moments timed order between there client did);
    };
    alone = λ b fair moment timed order between turn before there client did served. record {
      standing = (tree_of there.owner.end, served.leaves, drives_agree b fair moment timed order between there client did);
      parting = (tree_of there.owner.end, served.leaves, parting_agrees b fair moment timed order between there client did);
    };
  }

  direct : Direct part
  direct = record {
    transferring = λ b fair moments timed asked turn before there over served.
        (tree_of there.owner.end, served.leaves, transfers_over_are_the_direct_run b fair moments timed asked there over);
    transferring_quit = λ b fair moments timed asked turn before there over served.
        (tree_of there.owner.end, served.leaves, transfers_that_quit_are_the_direct_run b fair moments timed asked there over);
    alone = λ b fair moment timed asked turn before there over served.
        (tree_of there.owner.end, served.leaves, drives_over_are_the_direct_run b fair moment timed asked there over);
    quit = λ b fair moment timed asked turn before there over served.
        (tree_of there.owner.end, served.leaves, drives_that_quit_are_the_direct_run b fair moment timed asked there over);
  }

pub served_agree : ServedAgree
served_agree = (agree whole_holding, λ root. agree (part_at root))

pub served_are_direct : ServedAreDirect
served_are_direct = (direct whole_holding, λ root. direct (part_at root))

-- the one drive that turns are
pub turns_are_served : TurnsAreServed
turns_are_served = record {
  all = λ turn before start now on found are own. record {
    start = start;
    now = now;
    on = on;
    found = found;
    are = are;
    actions_are = refl;
    from_is = refl;
    leaves = sym own.leaves;
  };
  rooted = λ root turn before start now on found are own. record {
    start = start;
    now = now;
    on = on;
    found = found;
    are = are;
    actions_are = refl;
    from_is = refl;
    leaves = ap (λ (s : Stand server_side). part_at root (tree_of s.owner.end)) own.but ∙ own.same;
  };
}

-- ---- a drive is cut up

-- what finds all of the tree finds each part
found_part : (root : Names) (turns : List Turn) → FindWhatWasLeft whole_holding turns → FindWhatWasLeft (part_at root) turns
found_part root [] found = tt
found_part root (turn ∷ []) found = found
found_part root (turn ∷ last ∷ before) found = (found_part root (last ∷ before) found.0, ap (part_at root) found.1)

module _ (own : Holding) (from : Stand server_side) where
  -- a turn for each of these actions
  record Cut (actions : List (Action server_side)) (now : Stand server_side) (led : Led actions from now) : Type 0 where
    turns : List Turn
    are : AreTurns turns (with_tree_at own from) (with_tree_at own now)
    on : AllGoOn turns
    did : server_actions_in turns (with_tree_at own from) (with_tree_at own now) are ≡ actions
    many : length turns ≡ length actions
    told : still_stands (told_by turns) (standing_of now.owner.end.server.view.session) ≡ true
    found : (turn : Turn) → turn.lent ≡ tree_of now.owner.end → FindWhatWasLeft whole_holding (turn ∷ turns) × (lent_first turn turns ≡ tree_of from.owner.end)
    stays : (root : Names) → Along (StaysAt root) actions from now led → TurnsStayAt root turns (with_tree_at own from) (with_tree_at own now) are

  cut_up : (actions : List (Action server_side)) (now : Stand server_side) (led : Led actions from now) → Cut actions now led
  cut_up [] now led = record {
    turns = [];
    are = ap (with_tree_at own) led;
    on = tt;
    did = refl;
    many = refl;
    told = refl;
    found = λ turn lent. (tt, lent ∙ ap (λ (s : Stand server_side). tree_of s.owner.end) led);
    stays = λ root along. tt;
  }
  cut_up (action ∷ before) now led =
      let mid : Stand server_side = led.0 in
      let first = cut_up before mid led.1 in
      let turn : Turn =
      record {
        most = 1;
        lent = tree_of mid.owner.end;
        stood = told_by first.turns;
        stays = true;
        left = tree_of now.owner.end;
        stands = standing_of now.owner.end.server.view.session;
        failed = false;
        went = Ok Turns.Later;
      } in
      let takes : TakesTurn turn (with_tree_at own mid) (with_tree_at own now) =
      record {
        mid = now;
        stays = sym first.told;
        turned = record { actions = action ∷ []; led = (mid, refl, led.2) };
        leaves = refl;
        stands = refl;
        own = refl;
      } in
      let this = first.found turn refl in
      record {
        turns = turn ∷ first.turns;
        are = (with_tree_at own mid, first.are, takes, refl);
        on = (first.on, refl);
        did = ap (λ (d : List (Action server_side)). action ∷ d) first.did;
        many = ap suc first.many;
        told = stands_still turn.stands;
        found = λ next lent. ((this.0, lent), this.1);
        stays = λ root along. (first.stays root along.0, (tt, along.1));
      }

-- and one more, with which it is over
pub drives_are_cut_up : DrivesAreCutUp
drives_are_cut_up own from there drove =
    let led = drove.did.sums.led in
    let mid : Stand server_side = led.0 in
    let cut = cut_up own from drove.did.actions mid led.1 in
    let turn : Turn =
    record {
      most = 1;
      lent = tree_of mid.owner.end;
      stood = told_by cut.turns;
      stays = true;
      left = tree_of there.owner.end;
      stands = standing_of there.owner.end.server.view.session;
      failed = false;
      went = Ok (Turns.Over tt);
    } in
    let takes : TakesTurn turn (with_tree_at own mid) (with_tree_at own there) =
    record {
      mid = there;
      stays = sym cut.told;
      turned = record { actions = []; asked = drove.asked; led = (mid, refl, led.2); over = drove.over };
      leaves = refl;
      stands = refl;
      own = refl;
    } in
    let this = cut.found turn refl in
    record {
      turn = turn;
      before = cut.turns;
      served = record {
        start = with_tree_at own from;
        now = with_tree_at own there;
        on = cut.on;
        found = this.0;
        are = (with_tree_at own mid, cut.are, takes, refl);
        from_is = ap (λ (tree : Holding). with_tree_at tree from) (sym this.1);
        actions_are = ap (λ (d : List (Action server_side)). Other (Left drove.asked) ∷ d) (sym cut.did);
        leaves = refl;
      };
      over = refl;
      between = refl;
      many = cut.many;
      found = λ root. found_part root (turn ∷ cut.turns) this.0;
      stays = λ root along. (cut.stays root along.0, (tt, along.1));
    }
