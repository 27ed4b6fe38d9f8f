-- Sessions of two drives that fetch a file over a passive data connection that breaks, as examples: the premises can be met (RFC 959, section 3.3).
use Rattle.std.specs.Prelude.{◌≡◌, ℕ, List, [], ◌∷◌, ◌++◌, None}
use Rattle.ftp_client_driver.specs.Side.{client_side}
use Rattle.ftp_client_model.specs.Octets.{download_flow}
use Rattle.ftp_client_model.specs.View.{Transferring}
use Rattle.ftp_client_model.specs.declared.client.Abort.TheVariants as Aborts
use Rattle.ftp_client_model.specs.declared.client.Replied.TheVariants as Replies
use Rattle.ftp_ports.specs.Actions.{Led, Stand}
use Rattle.ftp_operation.specs.Answer.{Broken, Said}
use Rattle.ftp_operation.specs.declared.op.Op.{Op}
use Rattle.ftp_operation.specs.declared.op.Op.TheVariants as Ops
use Rattle.ftp_server_driver.specs.alone.Side.{server_side}
use Rattle.ftp_server_model.specs.Calls.{to_give}
use Rattle.ftp_settings.specs.Representation.{defaults}
use Rattle.ftp_tree.specs.Tree.{Table}
use Rattle.laws_breaks.specs.downloads.Claims.{DidSuffer, download_faults}
use Rattle.laws_breaks.specs.downloads.Over.{AreOver}
use Rattle.laws_drivers.specs.control.Between.{Between, Has, Has_lost, Turn, client_actions}
use Rattle.laws_drivers.specs.control.Example.{example}
use Rattle.laws_examples.specs.transfers.Example.{HasFile, example_how, example_name, example_file_alone}
use Rattle.laws_drivers.specs.events.Moments.{AreMoments}
use Rattle.laws_drivers.specs.events.Over.{AgreeAsOver}
use Rattle.laws_world.specs.Claims.{Beginning}

-- a Get of the file
abbrev pub example_get : Op (List ℕ)
example_get = Ops.Get example_name example_how

-- the octet of it that comes, of two
abbrev pub first_octet : List ℕ
first_octet = 104 ∷ []

-- and its answer: that octet, and no marker
abbrev pub broken_asked : List (Op (List ℕ) × Said)
broken_asked = (example_get, Broken first_octet None) ∷ []

-- ---- a session

-- what lies between both, and what both hold
abbrev pub Moment : Type 1
Moment = (between : Between) (server : Stand server_side) (client : Stand client_side) → Type 0

-- drives did so by their contracts, until both were over; and on the way there both stood so
pub record PassesAt (b : Beginning) (moments : ℕ → ℕ) (asked : List (Op (List ℕ) × Said)) (At : Moment) : Type 0 where
  pub server : Stand server_side
  pub over : AreOver b moments asked server
  pub turns : List Turn
  pub later : List Turn
  pub begins_so : over.turns ≡ later ++ turns
  pub between : Between
  pub server_then : Stand server_side
  pub client_then : Stand client_side
  pub did : DidSuffer b moments turns between server_then client_then
  pub at : At between server_then client_then

-- its answers and the map that is left agree with what was asked, with marks of its actions
abbrev pub HasAgreed : {b : Beginning} {moments : ℕ → ℕ} {asked : List (Op (List ℕ) × Said)} {At : Moment} → PassesAt b moments asked At → Type 0
HasAgreed {b} {moments} {asked} {At} p =
    (led : Led (client_actions p.over.turns) p.over.client_start p.over.client) × AgreeAsOver download_faults p.over led

-- ---- the server is told first

-- the server was told of the break, and has reset the data connection; the client was not told and takes octets still, but heard the 426; one is on its way
pub record ServerKnowsFirst (between : Between) (server : Stand server_side) (client : Stand client_side) : Type 0 where
  pub far : between.far ≡ Has_lost
  pub near : between.near ≡ Has
  pub coming : between.data_ways.to_client ≡ first_octet
  pub heard : client.owner.end.view.job
      ≡ Transferring example_get (record { replied = Replies.Final 426; abort = Aborts.Unsent; flow = download_flow defaults })

-- of every such map, and at any moments, there is such a session
abbrev pub ServerFirstIsOver : Type 0
ServerFirstIsOver = (table : Table) (stamp : ℕ) (moments : ℕ → ℕ) → HasFile table stamp → PassesAt (example table) moments broken_asked ServerKnowsFirst

-- and of the file alone there is one that agrees
abbrev pub ServerFirstAgrees : Type 0
ServerFirstAgrees = (moments : ℕ → ℕ) → AreMoments moments → (p : PassesAt (example example_file_alone) moments broken_asked ServerKnowsFirst) × HasAgreed p

-- ---- the client is told first

-- the client was told of the break, and has reset the data connection; the server was not, and has an octet to give still
pub record ClientKnowsFirst (between : Between) (server : Stand server_side) (client : Stand client_side) : Type 0 where
  pub near : between.near ≡ Has_lost
  pub far : between.far ≡ Has
  pub left : to_give server.owner.end.server.view ≡ 105 ∷ []

-- of every such map, and at any moments, there is such a session
abbrev pub ClientFirstIsOver : Type 0
ClientFirstIsOver = (table : Table) (stamp : ℕ) (moments : ℕ → ℕ) → HasFile table stamp → PassesAt (example table) moments broken_asked ClientKnowsFirst

-- and of the file alone there is one that agrees
abbrev pub ClientFirstAgrees : Type 0
ClientFirstAgrees = (moments : ℕ → ℕ) → AreMoments moments → (p : PassesAt (example example_file_alone) moments broken_asked ClientKnowsFirst) × HasAgreed p
