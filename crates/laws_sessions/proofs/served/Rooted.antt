-- Turns of a session with a root, as one drive of a server of its own but for what stands elsewhere.
use Rattle.std.proofs.Common.{◌≡◌, ◌∙◌, ℕ, Bool, List, [], ◌∷◌, ◌++◌, Result, Ok, Err, refl, sym, ap, subst}
use Rattle.std.specs.Prelude.{⊤}
use Rattle.ftp_ports.specs.Actions.{Action, Led, Other, Stand}
use Rattle.ftp_ports.specs.Machine.{Left}
use Rattle.ftp_ports.specs.declared.cause.Cause.{Cause}
use Rattle.ftp_driver.specs.declared.drive.Turned.{Turned}
use Rattle.ftp_driver.specs.declared.drive.Turned.TheVariants as Turns
use Rattle.ftp_path.specs.Path.{Names}
use Rattle.ftp_server_driver.specs.alone.Driving.{MakesTurns}
use Rattle.ftp_server_driver.specs.alone.Side.{server_side}
use Rattle.ftp_server_driver.specs.shared.Lending.{Holding, found_at, with_tree_at}
use Rattle.ftp_server_driver.specs.shared.Turning.{AllGoOn, AreTurns, TakesTurn, Turn}
use Rattle.ftp_server_model.specs.Failing.{Counts}
use Rattle.ftp_server_model.specs.Play.{only_at}
use Rattle.laws_server.specs.several.Company.{IsInSlot}
use Rattle.ftp_tree.specs.Tree.{Table}
use Rattle.laws_sessions.specs.served.Alone.{DrivesBy, FindWhatWasLeft, actions_by, server_actions_in, lent_first, part_at}
use Rattle.laws_sessions.specs.served.Rooted.{TurnStaysAt, TurnsAreOwnDriveBut, TurnsStayAt, stand_but}
use Rattle.laws_sessions.proofs.served.Joining.{drives_by, finds_it, goes_by, led_then}
use Rattle.laws_sessions.proofs.served.Seeing.{led_but}
use Rattle.laws_sessions.proofs.served.Staying.{StillStands, stays_so, still_rooted}

module _ (root : Names) (counts : Counts) where
  -- what a turn made, with this map in place of that which it was lent
  record Makes (table : Table) (most : ℕ) (failed : Bool) (old now : Stand server_side) (went : Result (Turned ⊤) Cause)
      (makes : MakesTurns most failed old now went) : Type 0 where
    map : Table
    its : MakesTurns most failed (stand_but table counts old) (stand_but map counts now) went
    actions : actions_by most failed (stand_but table counts old) (stand_but map counts now) went its ≡ actions_by most failed old now went makes
    same : only_at root map ≡ only_at root now.owner.end.server.view.session.table
    in_slot : IsInSlot root now.owner.end.server.view

  makes_but : (table : Table) (most : ℕ) (failed : Bool) (old now : Stand server_side) (went : Result (Turned ⊤) Cause)
      → only_at root table ≡ only_at root old.owner.end.server.view.session.table → IsInSlot root old.owner.end.server.view
      → (makes : MakesTurns most failed old now went) → TurnStaysAt root most failed old now went makes → Makes table most failed old now went makes
  makes_but table most failed old now (Ok (Turns.Over over)) same in_slot makes stays =
      let all = led_but root counts (Other (Left makes.asked) ∷ makes.actions) table old now same in_slot makes.led stays in
      record {
        map = all.map;
        its = record { actions = makes.actions; asked = makes.asked; led = all.led; over = makes.over };
        actions = refl;
        same = all.same;
        in_slot = all.in_slot;
      }
  makes_but table most failed old now (Ok Turns.Later) same in_slot makes stays =
      let all = led_but root counts makes.actions table old now same in_slot makes.led stays in
      record { map = all.map; its = record { actions = makes.actions; led = all.led }; actions = refl; same = all.same; in_slot = all.in_slot }
  makes_but table most failed old now (Ok Turns.More) same in_slot makes stays =
      let all = led_but root counts makes.leads.actions table old now same in_slot makes.leads.led stays in
      record {
        map = all.map;
        its = record { leads = record { actions = makes.leads.actions; led = all.led }; made = makes.made };
        actions = refl;
        same = all.same;
        in_slot = all.in_slot;
      }
  makes_but table most failed old now (Err cause) same in_slot makes stays = absurd stays

  -- where the next turn begins, with a map of which the same stands there as of that which it is lent, and in that what stood at the path of an upload
  record Begins (from : Stand server_side) (turn : Turn) (turns : List Turn) (start mid : Stand server_side) (are : AreTurns turns start mid) : Type 0 where
    map : Table
    led : Led (server_actions_in turns start mid are) from (stand_but map counts mid)
    same : only_at root map ≡ only_at root turn.lent.table
    in_slot : IsInSlot root mid.owner.end.server.view
    still : StillStands turns turn.lent.table mid.owner.end.server.view

  begins_but : (turn : Turn) (before : List Turn) (start mid : Stand server_side) → IsInSlot root start.owner.end.server.view → AllGoOn before
      → FindWhatWasLeft (part_at root) (turn ∷ before) → (are : AreTurns before start mid) → TurnsStayAt root before start mid are
      → Begins (stand_but (lent_first turn before).table counts start) turn before start mid are
  begins_but turn [] start mid in_slot on found are stay = record {
    map = turn.lent.table;
    led = ap (stand_but turn.lent.table counts) are;
    same = refl;
    in_slot = subst (λ (s : Stand server_side). IsInSlot root s.owner.end.server.view) (sym are) in_slot;
    still = refl;
  }
  begins_but turn (last ∷ before) start mid in_slot on found are stay =
      let old : Stand server_side = are.0 in
      let takes : TakesTurn last old mid = are.2 in
      let there : Stand server_side = with_tree_at last.lent (found_at last.stays old) in
      let from : Stand server_side = stand_but (lent_first last before).table counts start in
      let first = begins_but last before start old in_slot on.0 found.0 are.1 stay.0 in
      let finds = finds_it last old (stays_so last before old mid takes are.3 first.still) in
      let at : IsInSlot root there.owner.end.server.view = subst (λ (s : Stand server_side). IsInSlot root s.owner.end.server.view) finds
      (record { known = first.in_slot.known; held = first.in_slot.held }) in
      let led = subst (λ (s : Stand server_side). Led (server_actions_in before start old are.1) from (stand_but first.map counts s)) finds first.led in
      let one = makes_but first.map last.most last.failed there takes.mid last.went first.same at takes.turned stay.1 in
      let then_on = goes_by last.most last.failed (stand_but first.map counts there) (stand_but one.map counts takes.mid) last.went on.1 one.its in
      let did = actions_by last.most last.failed (stand_but first.map counts there) (stand_but one.map counts takes.mid) last.went one.its in
      let all = led_then did (server_actions_in before start old are.1) from (stand_but first.map counts there) (stand_but one.map counts takes.mid) led then_on in
      let named = subst (λ (d : List (Action server_side)). Led (d ++ server_actions_in before start old are.1) from (stand_but one.map counts takes.mid)) one.actions all in
      record {
        map = one.map;
        led = subst (λ (s : Stand server_side). Led (server_actions_in (last ∷ before) start mid are) from s) (sym (ap (stand_but one.map counts) takes.own)) named;
        same = one.same ∙ ap (λ (t : Holding). only_at root t.table) (sym takes.leaves) ∙ sym found.1;
        in_slot = subst (λ (s : Stand server_side). IsInSlot root s.owner.end.server.view) (sym takes.own)
            (record { known = one.in_slot.known; held = one.in_slot.held });
        still = still_rooted root last before turn.lent.table old mid takes found.1 one.in_slot;
      }

-- all of them are one drive so
pub turns_are_own_drive_but : TurnsAreOwnDriveBut
turns_are_own_drive_but root turn before start now unwritten untold in_slot on found are stay =
    let mid : Stand server_side = are.0 in
    let takes : TakesTurn turn mid now = are.2 in
    let from : Stand server_side = with_tree_at (lent_first turn before) start in
    let counts : Counts = from.owner.end.server.counts in
    let there : Stand server_side = with_tree_at turn.lent (found_at turn.stays mid) in
    let first = begins_but root counts turn before start mid in_slot on found are.1 stay.0 in
    let finds = finds_it turn mid (stays_so turn before mid now takes are.3 first.still) in
    let at : IsInSlot root there.owner.end.server.view = subst (λ (s : Stand server_side). IsInSlot root s.owner.end.server.view) finds
    (record { known = first.in_slot.known; held = first.in_slot.held }) in
    let led = subst (λ (s : Stand server_side). Led (server_actions_in before start mid are.1) from (stand_but first.map counts s)) finds first.led in
    let one = makes_but root counts first.map turn.most turn.failed there takes.mid turn.went first.same at takes.turned stay.1 in
    let drives = drives_by (server_actions_in before start mid are.1) from (stand_but first.map counts there) unwritten untold led turn.most turn.failed
    (stand_but one.map counts takes.mid) turn.went one.its in
    record {
      left = stand_but one.map counts takes.mid;
      drives = subst (λ (d : List (Action server_side)).
          DrivesBy (d ++ server_actions_in before start mid are.1) turn.failed from (stand_but one.map counts takes.mid) turn.went)
          one.actions drives;
      table = one.map;
      counts = counts;
      but = refl;
      same = one.same ∙ ap (λ (t : Holding). only_at root t.table) (sym takes.leaves);
    }
