-- A base world at a stage, and one where ABOR was sent, from what is so of each part of it.
use Rattle.std.proofs.Common.{◌≡◌, ℕ, List, [], Some}
use Rattle.ftp_direct.specs.Direct.{State}
use Rattle.ftp_operation.specs.Answer.{Said}
use Rattle.ftp_wire.specs.Decoder.{decoder_of}
use Rattle.ftp_client_model.specs.Octets.{content_answer}
use Rattle.ftp_client_model.specs.Plan.{is_extended}
use Rattle.ftp_server_model.specs.declared.session.Pending.TheVariants as Pendings
use Rattle.laws_world.specs.World.{World, Mark}
use Rattle.laws_dialogues.specs.Fetches.{Ask, IsSteadySession, IsTimely, kept, linked}
use Rattle.laws_dialogues.specs.Stage.{Way}
use Rattle.laws_agreement.specs.PeekStages.{Halt, Halts, MarksFit, QueueFits, halt_far, halt_near, halt_tie}
use Rattle.laws_agreement.specs.Stages.{CameAt, FineAt, Fared, Holds, MarkedAt, ReadyAt, Stage, closing_at, far_at, is_parting, link_at, link_of, near_at, pending_at, queue_at, rising_at, state_at, way_at}

-- it is at this stage
abbrev pub at_stage : {state : State} {ask : Ask} {own : List Mark} {stage : Stage} {way : Way} {b : World} → b.near ≡ near_at state ask stage b.near
    → b.far.session
    ≡ linked (far_at state ask stage (is_extended b.near ask.op) b.near.here) (closing_at state ask stage) (pending_at state ask stage) b.far.session
    → IsSteadySession (state_at state ask stage) (kept b.near b.far) → IsTimely ask.sends b.far.context.moment → ReadyAt state ask stage b.near.settings
    → b.link ≡ link_at state ask stage → b.data_to_server ≡ rising_at state ask stage → b.data_to_client ≡ queue_at state ask stage
    → CameAt state ask stage b.came → MarkedAt state ask stage own → way ≡ way_at state ask stage (is_extended b.near ask.op) b.near.peer b.near.here
    → FineAt state ask stage own → Holds state ask own stage way b
at_stage near session steady timed ready link to_server to_client came marked way_is fine = record {
  near = near;
  session = session;
  steady = steady;
  timed = timed;
  ready = ready;
  link = link;
  to_server = to_server;
  to_client = to_client;
  came = came;
  marked = marked;
  way_is = way_is;
  fine = fine;
}

-- ABOR was sent, and so much came of it
abbrev pub at_halt : {state : State} {ask : Ask} {own : List Mark} {halt : Halt} {said : Said} {came queue : List ℕ} {b : World}
    → b.near ≡ halt_near state ask halt came b.near
    → b.far.session ≡ linked (halt_far ask.listed halt) (is_parting (halt_tie halt)) Pendings.Nothing b.far.session → IsSteadySession state (kept b.near b.far)
    → IsTimely ask.sends b.far.context.moment → b.link ≡ link_of (halt_tie halt) → b.data_to_server ≡ [] → b.data_to_client ≡ queue → QueueFits halt queue
    → MarksFit halt own → content_answer ask.op (decoder_of ask.settings came).content ≡ Some said → ((any : List Mark) → Fared state ask any said)
    → Halts state ask own halt said came queue b
at_halt near session steady timed link to_server to_client empty marked settled fares = record {
  near = near;
  session = session;
  steady = steady;
  timed = timed;
  link = link;
  to_server = to_server;
  to_client = to_client;
  empty = empty;
  marked = marked;
  settled = settled;
  fares = fares;
}
