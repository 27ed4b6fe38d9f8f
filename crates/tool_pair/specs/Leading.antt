-- What a script leads to, in a world of two ends.
use Rattle.std.specs.Prelude.{◌≡◌, ◌+◌, ℕ, Bool, true, List, [], ◌∷◌, ◌++◌}
use Rattle.ftp_client_model.specs.Tries.{over_breaks}
use Rattle.ftp_pair.specs.Session.{Seen}
use Rattle.laws_world.specs.Agreement.{AreHonest, AreSingle, IsDirect, Leads, WorldAgrees}
use Rattle.laws_world.specs.Agreement as worlds
use Rattle.laws_world.specs.Claims.{AreTimed, Beginning, IsAnswered, IsFair, state_of, world_of}
use Rattle.laws_world.specs.Events.{Event, Deliver, IsQuiet}
use Rattle.laws_world.specs.World.{World}
use Rattle.ftp_server_model.specs.Machine.{Reading, IsReading}
use Rattle.tool_script.specs.declared.order.Order.{Order}
use Rattle.tool_script.specs.declared.order.Order.TheVariants.{Once, Tries}
use Rattle.tool_pair.specs.Transcript.{Delivery, delivered}

-- the first second of the year 2000, counted from the start of 1970 (own choice)
abbrev pub first_second : ℕ
first_second = 946684800

-- an order of a script, as it is begun in a world at a moment
abbrev pub order_at : ℕ → Order (List ℕ) → worlds.Order
order_at moment (Once op) = worlds.Single op moment
order_at moment (Tries path octets how) = worlds.Tries (over_breaks path octets how) moment

-- the orders of a script: the first at this moment, each other a second later (own choice)
abbrev pub script_orders_at : ℕ → List (Order (List ℕ)) → List worlds.Order
script_orders_at moment [] = []
script_orders_at moment (order ∷ orders) = order_at moment order ∷ script_orders_at (moment + 1) orders

-- an event that was a delivery, where it was possible, took what the world after it lends
abbrev pub delivered_by : Event → Bool → World → List Delivery
delivered_by (Deliver queue count) true new = delivered queue new.taken ∷ []
delivered_by event possible new = []

-- the deliveries of events that lead from a world to another, each with what it took
abbrev pub deliveries : (read : Reading) (w : World) (events : List Event) (begun : List worlds.Order) (new : World) → Leads read w events begun new → List Delivery
deliveries read w [] begun new run = []
deliveries read w (event ∷ events) begun new run = delivered_by event run.0 run.1 ++ deliveries read run.1 events run.2 new run.5

-- events lead from a world to another, began these operations, and their deliveries took this
abbrev pub LeadsTaking : Reading → World → List Event → List worlds.Order → List Delivery → World → Type 0
LeadsTaking read w events begun took new = (run : Leads read w events begun new) × (took ≡ deliveries read w events begun new run)

-- deliveries that took this, openings, ends and these operations lead from one to the other, where nothing failed, however the server reads its lines
abbrev pub LeadsTo : List worlds.Order → List Delivery → Seen → Seen → Type 0
LeadsTo begun took old new =
    new.calm ≡ true → (old.calm ≡ true)
    × ((read : Reading) → IsReading read
    → (given : List Event) × AreHonest given × AreTimed given × LeadsTaking read old.world given begun took new.world)

-- a world in which these operations have come to rest: reports and map agree with them, nothing is in flight, each has its report, and where none is
-- an upload over breaks all is as in the direct run
pub record HaveComeToRest (from : Beginning) (begun : List worlds.Order) (w : World) : Type 0 where
  pub agrees : WorldAgrees (state_of from) begun w
  pub quiet : IsQuiet w
  pub answered : IsAnswered begun w
  pub direct : AreSingle begun → IsDirect (state_of from) begun w

-- so it is, where nothing failed, from any fair beginning
abbrev pub Rests : List worlds.Order → Seen → Seen → Type 0
Rests begun old new = new.calm ≡ true → (from : Beginning) → IsFair from → old.world ≡ world_of from → HaveComeToRest from begun new.world

-- two ends begin fairly; deliveries that took this, openings, ends and the orders of a script, each begun at its moment, lead from them to this world,
-- in which they have come to rest
pub record Led (from : Beginning) (orders : List (Order (List ℕ))) (took : List Delivery) (w : World) : Type 0 where
  pub fair : IsFair from
  pub leads : (read : Reading) → IsReading read
      → (given : List Event) × AreHonest given × AreTimed given × LeadsTaking read (world_of from) given (script_orders_at first_second orders) took w
  pub rests : HaveComeToRest from (script_orders_at first_second orders) w
