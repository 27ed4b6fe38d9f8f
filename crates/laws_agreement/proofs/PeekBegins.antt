-- A Peek comes to where it has enough, and sends its ABOR.
use Rattle.std.proofs.Common.{◌≡◌, ℕ, true, List, []}
use Rattle.ftp_pieces.specs.Machine.{IsFront}
use Rattle.ftp_operation.specs.Answer.{Said}
use Rattle.ftp_direct.specs.Direct.{State}
use Rattle.ftp_server_model.specs.declared.session.Pending.TheVariants as Pendings
use Rattle.laws_world.specs.World.{World, Mark}
use Rattle.laws_dialogues.specs.Dialogue.{IsSound}
use Rattle.laws_dialogues.specs.Fetches.{Ask, IsAsk, IsSteadySession, IsTimely, is_filled, kept, linked}
use Rattle.laws_agreement.specs.Crossing.{AreCut, Cuts, crossing_at}
use Rattle.laws_agreement.specs.PeekStages.{AtHalt, Halt, Halts, MarksFit, QueueFits, halt_asked, halt_far, halt_near, halt_rows, halt_tie}
use Rattle.laws_agreement.specs.Stages.{IsTaken, is_parting, link_of}
use Rattle.laws_agreement.proofs.Fates.{said_fares}
use Rattle.laws_agreement.proofs.Placing.{at_halt}

-- both ends where ABOR was sent, behind octets that are a front of the text and enough
pub halts_at : (state : State) (ask : Ask) (good : IsAsk ask) (sound : IsSound state) (own : List Mark) (halt : Halt) (came queue : List ℕ) (b : World)
    → b.near ≡ halt_near state ask halt came b.near
    → b.far.session ≡ linked (halt_far ask.listed halt) (is_parting (halt_tie halt)) Pendings.Nothing b.far.session → IsSteadySession state (kept b.near b.far)
    → IsTimely ask.sends b.far.context.moment → state.known ≡ true
    → b.link ≡ link_of (halt_tie halt) → b.data_to_server ≡ [] → b.data_to_client ≡ queue → QueueFits halt queue → MarksFit halt own → IsTaken state ask
    → IsFront came (ask.wire state) → is_filled ask.op ask.settings came ≡ true → Halts state ask own halt (ask.said state) came queue b
halts_at state ask good sound own halt came queue b near session steady timed known link to_server to_client empty marked taken front enough =
    at_halt near session steady timed link to_server to_client empty marked (taken.2.filled state came sound taken.0 front enough)
    (λ any. said_fares state ask good taken.2 any known taken.1)

-- a world where it stands so, with a cut that fits
pub halt_at : (state : State) (ask : Ask) (own : List Mark) (w : World) (halt : Halt) (said : Said) (came queue : List ℕ) (b : World) (c : Cuts)
    → w ≡ crossing_at b c
    → AreCut (halt_asked halt) (halt_rows halt) c → Halts state ask own halt said came queue b → AtHalt state ask own w
halt_at state ask own w halt said came queue b c is fits h =
    record { halt = halt; said = said; came = came; queue = queue; base = b; cuts = c; is = is; fits = fits; here = h }
