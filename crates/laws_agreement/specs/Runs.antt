-- What holds after every event of a list whose operations have no transfer or are downloads, listings or uploads.
use Rattle.std.specs.Prelude.{◌≡◌, ◌⊎◌, ℕ, false, List, [], ◌∷◌, ◌++◌, None}
use Rattle.ftp_operation.specs.Answer.{Said}
use Rattle.ftp_direct.specs.Direct.{State}
use Rattle.ftp_server_model.specs.Machine.{Reading}
use Rattle.ftp_server_model.specs.declared.session.ServerLink.TheVariants as FarData
use Rattle.ftp_server_model.specs.declared.session.Pending.TheVariants as Pendings
use Rattle.laws_world.specs.Agreement.{Order, Single}
use Rattle.laws_world.specs.World.{World, Mark, ClosedByNear}
use Rattle.laws_dialogues.specs.Dialogue.{IsSound, resting}
use Rattle.laws_dialogues.specs.Fetches.{Ask, HasPlan, IsAsk, IsTimely, linked, kept, IsSteadySession}
use Rattle.laws_dialogues.specs.Stage.{Way, rest}
use Rattle.laws_agreement.specs.Cut.{PlacedAt}
use Rattle.laws_agreement.specs.Follows.{Told, IsLinked, Follows}
use Rattle.laws_agreement.specs.PeekStages.{AtHalt, is_halt_passing}
use Rattle.laws_agreement.specs.Stages.{AtFetch, IsLasting, Fared}

-- what is asked for is under way, and that is so; these are the marks of its link
pub record IsAsked (Stood : State → Ask → List Mark → World → Type 0) (from : State) (begun : List Order) (w : World) : Type 0 where
  pub done : List Order
  pub marks : List (List Mark)
  pub own : List Mark
  pub ask : Ask
  pub moment : ℕ
  pub begun_is : begun ≡ done ++ Single ask.op moment ∷ []
  pub marks_are : w.marks ≡ marks ++ own ∷ []
  pub now : State
  pub sound : IsSound now
  pub is_ask : IsAsk ask
  pub told : Told from done marks None w.reports now
  pub timely : IsTimely ask.sends moment
  pub linked : IsLinked w
  pub stands : Stood now ask own w

-- a download, a listing or an upload is under way
abbrev pub IsFetching : Reading → State → List Order → World → Type 0
IsFetching read from begun w = IsAsked (λ now ask own w. PlacedAt (λ way b. AtFetch now ask read own way b) w) from begun w

-- a Peek has sent its ABOR
abbrev pub IsHalting : State → List Order → World → Type 0
IsHalting from begun w = IsAsked (λ now ask own w. AtHalt now ask own w) from begun w

-- between two events
pub record IsFetchingOn (read : Reading) (from : State) (begun : List Order) (w : World) : Type 0 where
  pub fetching : IsFetching read from begun w
  pub lasts : IsLasting fetching.now fetching.ask read fetching.own fetching.stands.way fetching.stands.base fetching.stands.here

-- between two events
pub record IsHaltingOn (from : State) (begun : List Order) (w : World) : Type 0 where
  pub halting : IsHalting from begun w
  pub lasts : is_halt_passing halting.stands.halt ≡ false

-- both ends where the client has closed a link that the server had for no transfer yet
pub record AtClosed (now : State) (way : Way) (b : World) : Type 0 where
  pub near : b.near ≡ resting b.near
  pub session : b.far.session ≡ linked FarData.Ready false Pendings.Nothing b.far.session
  pub steady : IsSteadySession now (kept b.near b.far)
  pub link : b.link ≡ ClosedByNear
  pub to_server : b.data_to_server ≡ []
  pub to_client : b.data_to_client ≡ []
  pub way_is : way ≡ rest

-- REST was refused and that is told; the server was not told yet that the link is closed
pub record IsTrailing (from : State) (begun : List Order) (w : World) : Type 0 where
  pub done : List Order
  pub marks : List (List Mark)
  pub reports : List Said
  pub ask : Ask
  pub plan : HasPlan ask
  pub moment : ℕ
  pub said : Said
  pub begun_is : begun ≡ done ++ Single ask.op moment ∷ []
  pub marks_are : w.marks ≡ marks ++ [] ∷ []
  pub reports_are : w.reports ≡ reports ++ said ∷ []
  pub now : State
  pub sound : IsSound now
  pub told : Told from done marks None reports now
  pub fares : (own : List Mark) → Fared now ask own said
  pub linked : IsLinked w
  pub stands : PlacedAt (AtClosed now) w

-- one of these
abbrev pub Runs : Reading → State → List Order → World → Type 0
Runs read from begun w = Follows read from begun w ⊎ (IsFetchingOn read from begun w ⊎ (IsTrailing from begun w ⊎ IsHaltingOn from begun w))
