-- All turns of a session are one drive.
use Rattle.std.proofs.Common.{◌≡◌, ◌+◌, ◌∙◌, ℕ, Bool, List, [], ◌∷◌, ◌++◌, Result, Ok, Err, ap, arith, map}
use Rattle.std.specs.Prelude.{⊤}
use Rattle.ftp_ports.proofs.Courses.{carries}
use Rattle.ftp_ports.proofs.Idling.{carrier, stood_so}
use Rattle.ftp_ports.proofs.Totals.{cuts, sums}
use Rattle.ftp_ports.specs.Actions.{Action, Led, Other, Stand, steps_in}
use Rattle.ftp_ports.specs.Driving.{Fails}
use Rattle.ftp_ports.specs.Machine.{Left, move_of}
use Rattle.ftp_ports.specs.declared.cause.Cause.{Cause}
use Rattle.ftp_driver.specs.declared.drive.Turned.{Turned}
use Rattle.ftp_driver.specs.declared.drive.Turned.TheVariants as Turns
use Rattle.ftp_server_driver.specs.alone.Driving.{Finishes, GivesUp, MakesTurns}
use Rattle.ftp_server_driver.specs.alone.Side.{server_side}
use Rattle.ftp_server_driver.proofs.shared.Onward.{Goes, among_actions, among_exchange, goes, led_append, steps_append, trees_append}
use Rattle.ftp_server_driver.proofs.shared.Raising.{Raised, raised, up_breaks, up_action, up_left}
use Rattle.ftp_server_driver.specs.shared.Among.{BrokeOffAmong, DrivesAmong, DroveAmong, IsOneDrive, LeadsAmong}
use Rattle.ftp_server_driver.specs.shared.Lending.{Exchange, Holding, found_at, lent_at, lent_machine, lent_side, tree_of, trees_in, with_tree_at}
use Rattle.ftp_server_driver.specs.shared.Turning.{AllGoOn, AreTurns, TakesTurn, Turn, lent_by, trees_of}

module _ (trees : List Exchange) (start : Stand lent_side) (unwritten : start.owner.channel.unwritten ≡ []) (untold : start.owner.channel.untold ≡ []) where
  -- it is over
  pub drove_among : (old now : Stand server_side) → LeadsAmong trees start (lent_at old) → Finishes old now → DroveAmong trees start (lent_at now)
  drove_among old now first finishes =
      let mid : Stand server_side = finishes.led.0 in
      let more : LeadsAmong trees start (lent_at mid) = among_actions trees start old mid finishes.actions finishes.led.1 first in
      let last : Action lent_side = Other (Left finishes.asked) in
      let led : Led (last ∷ more.actions) start (lent_at now) = (lent_at mid, more.led, up_left finishes.asked mid now finishes.led.2) in
      record {
        asked = finishes.asked;
        did = record {
          actions = more.actions;
          sums = sums (last ∷ more.actions) start (lent_at now) led;
          carries = carries move_of (carrier lent_machine) (last ∷ more.actions) start (lent_at now) led unwritten untold;
        };
        over = finishes.over;
        brings = more.brings;
      }

  -- it fails after what led here
  fails_among : (cause : Cause) (old off : Stand server_side) → LeadsAmong trees start (lent_at old) → (fails : Fails cause old off)
      → (all : Fails cause start (lent_at off)) × (trees_in all.leads.actions ≡ trees)
  fails_among cause old off first fails =
      let actions : List (Action server_side) = fails.leads.actions in
      let more : Raised actions old fails.mid = raised actions old fails.mid fails.leads.led in
      let all : List (Action lent_side) = map up_action actions ++ first.actions in
      let steps : steps_in all ≡ steps_in (map up_action actions) + steps_in first.actions = steps_append (map up_action actions) first.actions in (
        record {
          mid = lent_at fails.mid;
          leads = record {
            actions = all;
            led = led_append (map up_action actions) first.actions start (lent_at old) (lent_at fails.mid) first.led more.led;
          };
          octets = fails.octets;
          breaks = up_breaks fails.octets fails.mid off fails.breaks;
          spent = λ is. omega (arith, fails.spent is, more.steps, steps);
        },
        trees_append (map up_action actions) first.actions ∙ ap (λ l. l ++ trees_in first.actions) more.none ∙ first.brings,
      )

  -- it breaks off
  pub broke_among : (cause : Cause) (failed : Bool) (old now : Stand server_side) → LeadsAmong trees start (lent_at old) → GivesUp cause failed old now
      → BrokeOffAmong cause failed trees start (lent_at now)
  broke_among cause failed old now first gives_up =
      let off : Stand server_side = gives_up.off in
      let both = fails_among cause old off first gives_up.fails in
      let fails : Fails cause start (lent_at off) = both.0 in
      record {
        off = lent_at off;
        breaks = record {
          actions = fails.leads.actions;
          last = fails.octets;
          cuts = cuts cause start (lent_at off) fails;
          spent = fails.spent;
          stood = fails.mid.owner.channel;
          carries = carries move_of (carrier lent_machine) fails.leads.actions start fails.mid fails.leads.led unwritten untold;
          lets = stood_so lent_machine fails.octets fails.mid (lent_at off) fails.breaks;
          why = gives_up.why;
        };
        stays = ap lent_at gives_up.stays;
        cut = gives_up.cut;
        is_cut = gives_up.is_cut;
        end = gives_up.end;
        asked = gives_up.asked;
        left = gives_up.left;
        fair = gives_up.fair;
        brings = both.1;
      }

  -- so many turns with the tree that is lent, however they went
  pub makes_among : (most : ℕ) (failed : Bool) (old now : Stand server_side) (went : Result (Turned ⊤) Cause) → LeadsAmong trees start (lent_at old)
      → MakesTurns most failed old now went → DrivesAmong failed trees start (lent_at now) went
  makes_among most failed old now (Ok (Turns.Over over)) first makes = drove_among old now first makes
  makes_among most failed old now (Ok Turns.Later) first makes = among_actions trees start old now makes.actions makes.led first
  makes_among most failed old now (Ok Turns.More) first makes = among_actions trees start old now makes.leads.actions makes.leads.led first
  makes_among most failed old now (Err cause) first makes = broke_among cause failed old now first makes

-- turns and then one more
pub one_drive : (turn : Turn) (before : List Turn) (start now : Stand server_side) → start.owner.channel.unwritten ≡ [] → start.owner.channel.untold ≡ []
    → AllGoOn before → AreTurns (turn ∷ before) start now → IsOneDrive turn before start now
one_drive turn before start now unwritten untold on turns =
    let mid : Stand server_side = turns.0 in
    let takes : TakesTurn turn mid now = turns.2 in
    let own : Holding = tree_of start.owner.end in
    let trees : List Exchange = trees_of own before in
    let first : Goes before start mid = goes before start mid on turns.1 in
    record {
      mid = takes.mid;
      drives = makes_among (lent_by turn ∷ trees) (lent_at start) unwritten untold turn.most turn.failed
          (with_tree_at turn.lent (found_at turn.stays mid)) takes.mid turn.went
          (among_exchange (lent_by turn) trees (lent_at start) mid first.among) takes.turned;
      leaves = takes.leaves;
      own = takes.own ∙ ap (λ (t : Holding). with_tree_at t takes.mid) first.own;
    }
