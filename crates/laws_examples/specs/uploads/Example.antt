-- Sessions of two drives that put a file over a passive data connection that breaks, as examples: the premises can be met (RFC 959, section 3.3).
use Rattle.std.specs.Prelude.{◌≡◌, ℕ, List, [], ◌∷◌, ◌++◌, None}
use Rattle.ftp_client_driver.specs.Side.{client_side}
use Rattle.ftp_client_model.specs.View.{Sending, Transferring}
use Rattle.ftp_client_model.specs.declared.client.Abort.TheVariants as Aborts
use Rattle.ftp_client_model.specs.declared.client.Replied.TheVariants as Replies
use Rattle.ftp_ports.specs.Actions.{Stand}
use Rattle.ftp_operation.specs.Answer.{Broken, Said}
use Rattle.ftp_operation.specs.declared.op.Op.{Op}
use Rattle.ftp_operation.specs.declared.op.Op.TheVariants as Ops
use Rattle.ftp_server_driver.specs.alone.Side.{server_side}
use Rattle.ftp_tree.specs.Tree.{Table}
use Rattle.laws_breaks.specs.uploads.Claims.{DidCut, upload_faults}
use Rattle.laws_breaks.specs.uploads.Over.{AreOver}
use Rattle.laws_drivers.specs.control.Between.{Between, Has, Has_ended, Has_lost, Turn}
use Rattle.laws_drivers.specs.control.Example.{example}
use Rattle.laws_examples.specs.transfers.Example.{HasFile, HasRoom, example_how, example_name, example_file_alone}
use Rattle.laws_drivers.specs.events.Moments.{AreMoments}
use Rattle.laws_drivers.specs.events.Over.{AgreeAsOver}
use Rattle.laws_world.specs.Claims.{Beginning}

-- the octets that are put, of which one comes
abbrev pub first_octet : List ℕ
first_octet = 97 ∷ []

abbrev pub second_octet_alone : List ℕ
second_octet_alone = 98 ∷ []

abbrev pub both_octets : List ℕ
both_octets = first_octet ++ second_octet_alone

-- a Put of them
abbrev pub put : Op (List ℕ)
put = Ops.Put example_name both_octets example_how

-- and its answer, without a marker
abbrev pub cut_asked : List (Op (List ℕ) × Said)
cut_asked = (put, Broken [] None) ∷ []

-- ---- a session

-- what lies between both, and what the client holds
abbrev pub Moment : Type 1
Moment = (between : Between) (client : Stand client_side) → Type 0

-- drives did so by their contracts, until both were over; and on the way there both stood so
pub record PassesAt (b : Beginning) (moments : ℕ → ℕ) (At : Moment) : Type 0 where
  pub server : Stand server_side
  pub over : AreOver b moments cut_asked server
  pub turns : List Turn
  pub later : List Turn
  pub begins_so : over.over.turns ≡ later ++ turns
  pub between : Between
  pub server_then : Stand server_side
  pub client_then : Stand client_side
  pub did : DidCut b moments turns between server_then client_then
  pub at : At between client_then

-- of every such map with room for one octet there is such a session, at any moments
abbrev pub IsThere : Moment → Type 0
IsThere At = (table : Table) (stamp : ℕ) (moments : ℕ → ℕ) → HasFile table stamp → HasRoom table → PassesAt (example table) moments At

-- its answer and the map that is left agree with what was asked, with marks of its actions
abbrev pub HasAgreed : {b : Beginning} {moments : ℕ → ℕ} {At : Moment} → PassesAt b moments At → Type 0
HasAgreed {b} {moments} p = AgreeAsOver upload_faults p.over.over p.over.client_led

-- and of the file alone there is one that agrees
abbrev pub OneAgrees : Moment → Type 0
OneAgrees At = (moments : ℕ → ℕ) → AreMoments moments → (p : PassesAt (example example_file_alone) moments At) × HasAgreed p

-- ---- the client is told first

-- it gave all, was told of the break, and has reset the data connection; the server was not told, and one octet is on its way to it
pub record ClientKnowsFirst (between : Between) (client : Stand client_side) : Type 0 where
  pub near : between.near ≡ Has_lost
  pub far : between.far ≡ Has
  pub coming : between.data_ways.to_server ≡ first_octet
  pub given : client.owner.end.view.job
      ≡ Transferring put (record { replied = Replies.Begun; abort = Aborts.Unsent; flow = Sending [] None })

abbrev pub ClientFirstIsOver : Type 0
ClientFirstIsOver = IsThere ClientKnowsFirst

abbrev pub ClientFirstAgrees : Type 0
ClientFirstAgrees = OneAgrees ClientKnowsFirst

-- ---- the server alone is told

-- the client gave and wrote all, and ended the data connection; the server was not told yet, and both octets are on their way to it
pub record IsServerAlone (between : Between) (client : Stand client_side) : Type 0 where
  pub near : between.near ≡ Has_ended
  pub far : between.far ≡ Has
  pub coming : between.data_ways.to_server ≡ both_octets

abbrev pub ServerAloneIsOver : Type 0
ServerAloneIsOver = IsThere IsServerAlone

abbrev pub ServerAloneAgrees : Type 0
ServerAloneAgrees = OneAgrees IsServerAlone

-- ---- the server is told first

-- it took one octet, was told of the break, and has reset the data connection; the client, which gave and wrote that octet, has the other to give, and was not
-- told
pub record ServerKnowsFirst (between : Between) (client : Stand client_side) : Type 0 where
  pub near : between.near ≡ Has
  pub far : between.far ≡ Has_lost
  pub left : client.owner.end.view.job
      ≡ Transferring put (record { replied = Replies.Begun; abort = Aborts.Unsent; flow = Sending second_octet_alone None })

abbrev pub ServerFirstIsOver : Type 0
ServerFirstIsOver = IsThere ServerKnowsFirst

abbrev pub ServerFirstAgrees : Type 0
ServerFirstAgrees = OneAgrees ServerKnowsFirst
