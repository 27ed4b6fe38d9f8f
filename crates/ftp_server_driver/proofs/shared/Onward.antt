-- Turns of a session, after each of which its drive goes on: one list of actions.
use Rattle.std.proofs.Common.{◌≡◌, ◌+◌, ◌∙◌, ℕ, Bool, true, List, [], ◌∷◌, ◌++◌, Result, Ok, Err, map}
use Rattle.std.proofs.Common.{refl, sym, ap, subst, append_assoc, arith}
use Rattle.std.specs.Prelude.{⊤}
use Rattle.ftp_ports.specs.Actions.{Action, Led, Other, Stand, steps_in}
use Rattle.ftp_ports.specs.Driving.{Leads}
use Rattle.ftp_ports.specs.Machine.{Aside}
use Rattle.ftp_ports.specs.declared.cause.Cause.{Cause}
use Rattle.ftp_driver.specs.declared.drive.Turned.{Turned}
use Rattle.ftp_driver.specs.declared.drive.Turned.TheVariants as Turns
use Rattle.ftp_server_driver.specs.alone.Driving.{MakesTurns}
use Rattle.ftp_server_driver.specs.alone.Side.{server_side}
use Rattle.ftp_server_driver.proofs.shared.Raising.{Raised, raised, up_action}
use Rattle.ftp_server_driver.specs.shared.Among.{LeadsAmong}
use Rattle.ftp_server_driver.specs.shared.Lending.{Exchange, Exchanged, Holding, found_at, lent_at, lent_side, own_again, tree_by, tree_of, trees_in, with_tree_at}
use Rattle.ftp_server_driver.specs.shared.Turning.{AllGoOn, AreTurns, TakesTurn, Turn, goes_on, lent_by, trees_of}

-- actions and then others
pub led_append : (later before : List (Action lent_side)) (a b c : Stand lent_side) → Led before a b → Led later b c → Led (later ++ before) a c
led_append [] before a b c first then_on = subst (λ s. Led before a s) (sym then_on) first
led_append (action ∷ later) before a b c first then_on = (then_on.0, led_append later before a b then_on.0 first then_on.1, then_on.2)

-- the trees that they bring
pub trees_append : (later before : List (Action lent_side)) → trees_in (later ++ before) ≡ trees_in later ++ trees_in before
trees_append [] before = refl
trees_append (action ∷ later) before =
    ap (λ l. tree_by action ++ l) (trees_append later before) ∙ sym (append_assoc (tree_by action) (trees_in later) (trees_in before))

-- how far a drive got by them
pub steps_append : (later before : List (Action lent_side)) → steps_in (later ++ before) ≡ steps_in later + steps_in before
steps_append [] before = omega arith
steps_append (action ∷ later) before = omega (arith, steps_append later before)

-- a drive begins
pub among_nowhere : (start : Stand lent_side) → LeadsAmong [] start start
among_nowhere start = record { actions = []; led = refl; brings = refl }

-- its tree is exchanged
pub among_exchange : (exchange : Exchange) (trees : List Exchange) (start : Stand lent_side) (old : Stand server_side) → LeadsAmong trees start (lent_at old)
    → LeadsAmong (exchange ∷ trees) start (lent_at (with_tree_at exchange.tree (found_at exchange.stays old)))
among_exchange exchange trees start old first = record {
  actions = Other (Aside (Exchanged exchange)) ∷ first.actions;
  led = (lent_at old, first.led, ((refl, refl, tt), refl));
  brings = ap (λ l. exchange ∷ l) first.brings;
}

-- actions of a drive of its own follow
pub among_actions : (trees : List Exchange) (start : Stand lent_side) (old new : Stand server_side) (actions : List (Action server_side)) → Led actions old new
    → LeadsAmong trees start (lent_at old) → LeadsAmong trees start (lent_at new)
among_actions trees start old new actions led first =
    let more : Raised actions old new = raised actions old new led in
    record {
      actions = map up_action actions ++ first.actions;
      led = led_append (map up_action actions) first.actions start (lent_at old) (lent_at new) first.led more.led;
      brings = trees_append (map up_action actions) first.actions ∙ ap (λ l. l ++ trees_in first.actions) more.none ∙ first.brings;
    }

-- turns that go on led on
pub onward : (most : ℕ) (failed : Bool) (old now : Stand server_side) (went : Result (Turned ⊤) Cause) → goes_on went ≡ true
    → MakesTurns most failed old now went → Leads old now
onward most failed old now (Ok Turns.Later) on turned = turned
onward most failed old now (Ok Turns.More) on turned = turned.leads
onward most failed old now (Ok (Turns.Over over)) on turned = absurd (cc)
onward most failed old now (Err cause) on turned = absurd (cc)

-- a turn that goes on: the tree that is lent, actions, and its own tree
pub takes_among : (turn : Turn) (trees : List Exchange) (start : Stand lent_side) (old now : Stand server_side) → goes_on turn.went ≡ true
    → TakesTurn turn old now → LeadsAmong trees start (lent_at old)
    → LeadsAmong (own_again (tree_of old.owner.end) ∷ lent_by turn ∷ trees) start (lent_at now)
takes_among turn trees start old now on takes first =
    let own : Holding = tree_of old.owner.end in
    let mid : Stand server_side = takes.mid in
    let there : Stand server_side = with_tree_at turn.lent (found_at turn.stays old) in
    let leads : Leads there mid = onward turn.most turn.failed there mid turn.went on takes.turned in
    let more : LeadsAmong (lent_by turn ∷ trees) start (lent_at mid) =
    among_actions (lent_by turn ∷ trees) start there mid leads.actions leads.led (among_exchange (lent_by turn) trees start old first) in
    subst (λ (s : Stand server_side). LeadsAmong (own_again own ∷ lent_by turn ∷ trees) start (lent_at s)) (sym takes.own)
    (among_exchange (own_again own) (lent_by turn ∷ trees) start mid more)

-- it has its own tree again
pub takes_own : (turn : Turn) (old now : Stand server_side) → TakesTurn turn old now → tree_of now.owner.end ≡ tree_of old.owner.end
takes_own turn old now takes = ap (λ (s : Stand server_side). tree_of s.owner.end) takes.own

-- where turns led
pub record Goes (before : List Turn) (start now : Stand server_side) : Type 0 where
  pub among : LeadsAmong (trees_of (tree_of start.owner.end) before) (lent_at start) (lent_at now)
  pub own : tree_of now.owner.end ≡ tree_of start.owner.end

-- so turns lead
pub goes : (before : List Turn) (start now : Stand server_side) → AllGoOn before → AreTurns before start now → Goes before start now
goes [] start now on turns = record {
  among = subst (λ (s : Stand server_side). LeadsAmong [] (lent_at start) (lent_at s)) (sym turns) (among_nowhere (lent_at start));
  own = ap (λ (s : Stand server_side). tree_of s.owner.end) turns;
}
goes (turn ∷ before) start now on turns =
    let mid : Stand server_side = turns.0 in
    let own : Holding = tree_of start.owner.end in
    let first : Goes before start mid = goes before start mid on.0 turns.1 in
    let trees : List Exchange = trees_of own before in
    record {
      among = subst (λ (t : Holding). LeadsAmong (own_again t ∷ lent_by turn ∷ trees) (lent_at start) (lent_at now)) first.own
          (takes_among turn trees (lent_at start) mid now on.1 turns.2 first.among);
      own = takes_own turn mid now turns.2 ∙ first.own;
    }
