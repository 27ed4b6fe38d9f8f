-- Turns of a session, each of which finds the tree that the one before it left, put together.
use Rattle.std.proofs.Common.{◌≡◌, ◌+◌, ℕ, Bool, true, List, [], ◌∷◌, ◌++◌, Result, Ok, Err, refl, sym, ap, subst, arith}
use Rattle.std.specs.Prelude.{⊤}
use Rattle.ftp_ports.proofs.Courses.{carries}
use Rattle.ftp_ports.proofs.Idling.{carrier, stood_so}
use Rattle.ftp_ports.proofs.Totals.{cuts, sums}
use Rattle.ftp_ports.specs.Actions.{Action, Led, Other, Stand, steps_in}
use Rattle.ftp_ports.specs.Driving.{Fails}
use Rattle.ftp_ports.specs.Machine.{Left, move_of}
use Rattle.ftp_ports.specs.declared.cause.Cause.{Cause}
use Rattle.ftp_driver.specs.declared.drive.Turned.{Turned}
use Rattle.ftp_driver.specs.declared.drive.Turned.TheVariants as Turns
use Rattle.ftp_server_driver.specs.alone.Driving.{BrokeOff, Drove, Finishes, GivesUp, MakesTurns}
use Rattle.ftp_server_driver.specs.alone.Side.{server_machine, server_side}
use Rattle.ftp_server_driver.specs.shared.Lending.{found_at, with_tree_at}
use Rattle.ftp_server_driver.specs.shared.Turning.{AllGoOn, AreTurns, TakesTurn, Turn, goes_on}
use Rattle.laws_sessions.specs.served.Alone.{DrivesBy, FindWhatWasLeft, TurnsAreOwnDrive, actions_by, server_actions_in, lent_first, whole_holding}
use Rattle.laws_sessions.proofs.served.Staying.{begins_there, stays_so, still_whole}

-- ---- turns that go on

-- actions and then others
pub led_then : (later before : List (Action server_side)) (a b c : Stand server_side) → Led before a b → Led later b c → Led (later ++ before) a c
led_then [] before a b c first then_on = subst (λ s. Led before a s) (sym then_on) first
led_then (action ∷ later) before a b c first then_on = (then_on.0, led_then later before a b then_on.0 first then_on.1, then_on.2)

-- a turn that goes on led by its actions
pub goes_by : (most : ℕ) (failed : Bool) (old now : Stand server_side) (went : Result (Turned ⊤) Cause) → goes_on went ≡ true
    → (makes : MakesTurns most failed old now went) → Led (actions_by most failed old now went makes) old now
goes_by most failed old now (Ok Turns.Later) on makes = makes.led
goes_by most failed old now (Ok Turns.More) on makes = makes.leads.led
goes_by most failed old now (Ok (Turns.Over over)) on makes = absurd (cc)
goes_by most failed old now (Err cause) on makes = absurd (cc)

-- where what stood at the path of an upload still stands there, a turn begins with the tree that is lent, and nothing else is another
pub finds_it : (turn : Turn) (old : Stand server_side) → turn.stays ≡ true → with_tree_at turn.lent old ≡ with_tree_at turn.lent (found_at turn.stays old)
finds_it turn old stays = ap (λ (b : Bool). with_tree_at turn.lent (found_at b old)) (sym stays)

-- all of the turns before it led there
pub leads_to : (turn : Turn) (before : List Turn) (start mid : Stand server_side) → AllGoOn before → FindWhatWasLeft whole_holding (turn ∷ before)
    → (are : AreTurns before start mid) → Led (server_actions_in before start mid are) (with_tree_at (lent_first turn before) start) (with_tree_at turn.lent mid)
leads_to turn [] start mid on found are = ap (with_tree_at turn.lent) are
leads_to turn (last ∷ before) start mid on found are =
    let takes : TakesTurn last are.0 mid = are.2 in
    let there : Stand server_side = with_tree_at last.lent (found_at last.stays are.0) in
    let from : Stand server_side = with_tree_at (lent_first last before) start in
    let stays = stays_so last before are.0 mid takes are.3 (still_whole last before start are.0 found.0 are.1) in
    let first = subst (Led (server_actions_in before start are.0 are.1) from) (finds_it last are.0 stays) (leads_to last before start are.0 on.0 found.0 are.1) in
    let then_on = goes_by last.most last.failed there takes.mid last.went on.1 takes.turned in
    subst (λ (s : Stand server_side). Led (server_actions_in (last ∷ before) start mid are) from s) (sym (begins_there turn last are.0 mid found.1 takes))
    (led_then (actions_by last.most last.failed there takes.mid last.went takes.turned) (server_actions_in before start are.0 are.1) from there takes.mid first then_on)

-- ---- the last turn

-- how far a drive got by actions and then others
steps_then : (later before : List (Action server_side)) → steps_in (later ++ before) ≡ steps_in later + steps_in before
steps_then [] before = omega arith
steps_then (action ∷ later) before = omega (arith, steps_then later before)

module _ (actions : List (Action server_side)) (start old : Stand server_side) (unwritten : start.owner.channel.unwritten ≡ [])
    (untold : start.owner.channel.untold ≡ []) (first : Led actions start old) where
  -- it is over
  ends_by : (now : Stand server_side) → (makes : Finishes old now)
      → (drove : Drove start now) × (Other (Left drove.asked) ∷ drove.did.actions ≡ (Other (Left makes.asked) ∷ makes.actions) ++ actions)
  ends_by now makes =
      let last : Action server_side = Other (Left makes.asked) in
      let all : List (Action server_side) = (last ∷ makes.actions) ++ actions in
      let led : Led all start now = led_then (last ∷ makes.actions) actions start old now first makes.led in (
        record {
          asked = makes.asked;
          did = record {
            actions = makes.actions ++ actions;
            sums = sums all start now led;
            carries = carries move_of (carrier server_machine) all start now led unwritten untold;
          };
          over = makes.over;
        },
        refl,
      )

  -- it broke off
  breaks_by : (cause : Cause) (failed : Bool) (now : Stand server_side) → (makes : GivesUp cause failed old now)
      → (broke : BrokeOff cause failed start now) × (broke.breaks.actions ≡ makes.fails.leads.actions ++ actions)
  breaks_by cause failed now makes =
      let broke = makes.fails in
      let all : List (Action server_side) = broke.leads.actions ++ actions in
      let fails : Fails cause start makes.off = record {
        mid = broke.mid;
        leads = record { actions = all; led = led_then broke.leads.actions actions start old broke.mid first broke.leads.led };
        octets = broke.octets;
        breaks = broke.breaks;
        spent = λ is. omega (arith, broke.spent is, steps_then broke.leads.actions actions);
      } in (
        record {
          off = makes.off;
          breaks = record {
            actions = fails.leads.actions;
            last = fails.octets;
            cuts = cuts cause start makes.off fails;
            spent = fails.spent;
            stood = fails.mid.owner.channel;
            carries = carries move_of (carrier server_machine) fails.leads.actions start fails.mid fails.leads.led unwritten untold;
            lets = stood_so server_machine fails.octets fails.mid makes.off fails.breaks;
            why = makes.why;
          };
          stays = makes.stays;
          cut = makes.cut;
          is_cut = makes.is_cut;
          end = makes.end;
          asked = makes.asked;
          left = makes.left;
          fair = makes.fair;
        },
        refl,
      )

  -- however it went
  pub drives_by : (most : ℕ) (failed : Bool) (now : Stand server_side) (went : Result (Turned ⊤) Cause) → (makes : MakesTurns most failed old now went)
      → DrivesBy (actions_by most failed old now went makes ++ actions) failed start now went
  drives_by most failed now (Ok (Turns.Over over)) makes = ends_by now makes
  drives_by most failed now (Ok Turns.Later) makes = led_then makes.actions actions start old now first makes.led
  drives_by most failed now (Ok Turns.More) makes = led_then makes.leads.actions actions start old now first makes.leads.led
  drives_by most failed now (Err cause) makes = breaks_by cause failed now makes

-- all of them are one drive
pub turns_are_own_drive : TurnsAreOwnDrive
turns_are_own_drive turn before start now unwritten untold on found are =
    let takes : TakesTurn turn are.0 now = are.2 in
    let from : Stand server_side = with_tree_at (lent_first turn before) start in
    let there : Stand server_side = with_tree_at turn.lent (found_at turn.stays are.0) in
    let stays = stays_so turn before are.0 now takes are.3 (still_whole turn before start are.0 found are.1) in
    let first = subst (Led (server_actions_in before start are.0 are.1) from) (finds_it turn are.0 stays) (leads_to turn before start are.0 on found are.1) in
    record {
      drives = drives_by (server_actions_in before start are.0 are.1) from there unwritten untold first turn.most turn.failed takes.mid turn.went takes.turned;
      leaves = takes.leaves;
    }
