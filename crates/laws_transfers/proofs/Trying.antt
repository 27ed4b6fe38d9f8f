-- Of the actions of which a client's dial may fail those of which none does: no operation is marked, and a world holds what both drives hold.
use Rattle.std.proofs.Common.{ℕ, List, [], ◌∷◌, ◌++◌, refl, sym, subst}
use Rattle.ftp_ports.specs.Asking.{NotConnected}
use Rattle.ftp_ports.specs.Actions.{Action, Led, Other, Stand}
use Rattle.ftp_ports.specs.Machine.{Aside, Held, Refused}
use Rattle.ftp_client_driver.specs.Side.{Starting, client_side}
use Rattle.ftp_client_model.specs.Failing.{Client}
use Rattle.ftp_server_driver.specs.alone.Side.{server_side}
use Rattle.laws_world.specs.Claims.{AreUnmarked, Beginning}
use Rattle.laws_world.specs.World.{Mark}
use Rattle.laws_drivers.specs.control.Between.{Between, Turn, client_actions}
use Rattle.laws_drivers.proofs.events.Within.{did_within}
use Rattle.laws_transfers.specs.Claims.{DidTransfer, TransfersAreOfWorlds, no_faults}
use Rattle.laws_transfers.specs.Actions.{AsksAlong, IsAsking}
use Rattle.laws_transfers.specs.Refusals.{DidTry, IsAskingOrRefused, dial_faults, marked_by, marks_in}
use Rattle.laws_transfers.proofs.Reaching.{tries_are_of_worlds}

-- ---- the actions

-- one of which no dial fails is such an action
asking_tries : (action : Action client_side) (at : Held Client) → IsAsking action at → IsAskingOrRefused action at
asking_tries (Other (Refused (NotConnected endpoint ∷ []))) at is = tt
asking_tries action at is = is

-- so are all of both
pub did_try : (b : Beginning) (moments : ℕ → ℕ) (turns : List Turn) (between : Between) (server : Stand server_side) (client : Stand client_side)
    → DidTransfer b moments turns between server client → DidTry b moments turns between server client
did_try = did_within no_faults dial_faults (record {
  serves = λ action at is. is;
  asks = asking_tries;
  ports = λ turns start now led asks ports. ports;
  ordered = λ moments turns between happened start now led resets. resets;
  short = λ actions start now led short. short;
})

-- ---- the marks

-- an operation that is begun has no mark
pub more_unmarked : (marks : List (List Mark)) → AreUnmarked marks → AreUnmarked (marks ++ [] ∷ [])
more_unmarked [] unmarked = (refl, tt)
more_unmarked (mark ∷ marks) unmarked = (unmarked.0, more_unmarked marks unmarked.1)

-- nor does such an action make one
action_unmarked : (action : Action client_side) (at : Held Client) → IsAsking action at → (marks : List (List Mark)) → AreUnmarked marks
    → AreUnmarked (marked_by action marks)
action_unmarked (Other (Aside (Starting op))) at is marks unmarked = more_unmarked marks unmarked
action_unmarked (Other (Refused asked)) at is marks unmarked = absurd is
action_unmarked action at is marks unmarked = unmarked

-- so there is none
pub asks_unmarked : (actions : List (Action client_side)) (start now : Stand client_side) (led : Led actions start now) → AsksAlong actions start now led
    → AreUnmarked (marks_in actions)
asks_unmarked [] start now led asks = tt
asks_unmarked (action ∷ before) start now led asks =
    action_unmarked action led.0.owner asks.1.0 (marks_in before) (asks_unmarked before start led.0 led.1 asks.0)

-- ---- a world

-- holds what both drives hold
pub transfers_are_of_worlds : TransfersAreOfWorlds
transfers_are_of_worlds read reads b fair moments timed turns between server client did =
    let o = tries_are_of_worlds read reads b fair moments timed turns between server client (did_try b moments turns between server client did) in
    record {
      events = o.events;
      timed = o.timed;
      world = o.world;
      leads = o.leads;
      both = record {
        moment = o.both.moment;
        ahead = o.both.ahead;
        fits = o.both.fits;
        near = o.both.near;
        far = o.both.far;
        reported = o.both.reported;
        control = o.both.control;
        marks = subst AreUnmarked (sym o.both.marked) (asks_unmarked (client_actions turns) did.client_start client did.client_led did.asks);
        cutoff = o.both.cutoff;
      };
      granted = o.granted;
    }
