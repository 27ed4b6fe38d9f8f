-- The example: a session of one operation, as both drives took turns in it.
use Rattle.std.proofs.Common.{inl, ℕ, List, [], ◌∷◌, ◌++◌, refl, sym, ap, subst, ◌∙◌, append-nil}
use Rattle.ftp_endpoint.specs.declared.host.Host.{Host}
use Rattle.ftp_ports.specs.Asking.{Shut}
use Rattle.ftp_ports.specs.Actions.{Action, Heard, Other, Read, Said as Says, Stand}
use Rattle.ftp_ports.specs.Machine.{Aside, Closed, Left}
use Rattle.ftp_client_driver.specs.Side.{Begun, client_side}
use Rattle.ftp_client_model.specs.Calls as near
use Rattle.ftp_operation.specs.Answer.{Path}
use Rattle.ftp_operation.specs.declared.op.Op.{Op}
use Rattle.ftp_operation.specs.declared.op.Op.TheVariants as Ops
use Rattle.laws_drivers.specs.control.Alone.{ClientAttends, ClientIsCalm, IsAskingAlone, IsServingAlone, ServerAttends, ServerIsCalm}
use Rattle.laws_drivers.specs.control.Between.{Between, Client, Happened, Server, Turn, client_actions, nothing_yet, server_actions}
use Rattle.laws_drivers.specs.control.Over.{AreMidst}
use Rattle.laws_drivers.specs.control.Touches.{touch_in}
use Rattle.laws_drivers.proofs.control.Ending.{Goes}
use Rattle.laws_drivers.proofs.control.Example.{example_is_answered}
use Rattle.laws_drivers.proofs.control.Playing.{far_at, near_at}
use Rattle.ftp_server_driver.specs.alone.Side.{server_side}
use Rattle.ftp_pair_memory.specs.streams.Order.{AllCame, ComesFrom, Counted, CountsPorts, Hosts, Went}
use Rattle.ftp_pair_memory.specs.streams.Plain.{quiet}
use Rattle.ftp_pair_memory.specs.steps.Taking.{Answered, Answers, Settled, Took, both_ends}
use Rattle.ftp_pair_memory.proofs.steps.Gathering.{servers_then}
use Rattle.laws_sessions.specs.passive.Laws.{AskedBy, ExampleIsAsked}

-- what can happen after an operation was begun is an order
went_of : (later : List Turn) (op : Op (List ℕ)) (now : Between) → Happened (later ++ Client (Other (Begun op)) ∷ []) now → Went later nothing_yet now
went_of [] op now happened = happened.2 ∙ happened.1
went_of (Server action ∷ rest) op now happened = (happened.0, went_of rest op happened.0 happened.1, inl happened.2)
went_of (Client action ∷ rest) op now happened = (happened.0, went_of rest op happened.0 happened.1, inl happened.2)

-- over control alone no port is told
serving_counts : (action : Action server_side) (n : ℕ) → IsServingAlone action → CountsPorts (touch_in action) n n
serving_counts (Heard octets) n is = refl
serving_counts (Says octets) n is = refl
serving_counts (Read octets) n is = refl
serving_counts (Other (Aside asked)) n is = refl
serving_counts action n is = absurd is

asking_counts : (action : Action client_side) (n : ℕ) → IsAskingAlone action → CountsPorts (touch_in action) n n
asking_counts (Heard octets) n is = refl
asking_counts (Says octets) n is = refl
asking_counts (Read octets) n is = refl
asking_counts (Other (Aside own)) n is = refl
asking_counts (Other (Left Shut)) n is = refl
asking_counts (Other Closed) n is = refl
asking_counts action n is = absurd is

all_counted : (turns : List Turn) (server server_now : Stand server_side) (client client_now : Stand client_side)
    → Goes IsServingAlone ServerIsCalm ServerAttends (server_actions turns) server server_now
    → Goes IsAskingAlone ClientIsCalm ClientAttends (client_actions turns) client client_now → Counted turns 0 0
all_counted [] server server_now client client_now serves asks = refl
all_counted (Server action ∷ before) server server_now client client_now serves asks =
    (0, all_counted before server serves.0.0 client client_now (serves.0.1, serves.1.0) asks, serving_counts action 0 serves.1.1)
all_counted (Client action ∷ before) server server_now client client_now serves asks =
    (0, all_counted before server server_now client asks.0.0 serves (asks.0.1, asks.1.0), asking_counts action 0 asks.1.1)

-- and nobody comes
serving_comes : (action : Action server_side) (other : Host) → IsServingAlone action → ComesFrom other (touch_in action)
serving_comes (Heard octets) other is = tt
serving_comes (Says octets) other is = tt
serving_comes (Read octets) other is = tt
serving_comes (Other (Aside asked)) other is = tt
serving_comes action other is = absurd is

asking_comes : (action : Action client_side) (other : Host) → IsAskingAlone action → ComesFrom other (touch_in action)
asking_comes (Heard octets) other is = tt
asking_comes (Says octets) other is = tt
asking_comes (Read octets) other is = tt
asking_comes (Other (Aside own)) other is = tt
asking_comes (Other (Left Shut)) other is = tt
asking_comes (Other Closed) other is = tt
asking_comes action other is = absurd is

all_came : (hosts : Hosts) (turns : List Turn) (server server_now : Stand server_side) (client client_now : Stand client_side)
    → Goes IsServingAlone ServerIsCalm ServerAttends (server_actions turns) server server_now
    → Goes IsAskingAlone ClientIsCalm ClientAttends (client_actions turns) client client_now → AllCame hosts turns
all_came hosts [] server server_now client client_now serves asks = tt
all_came hosts (Server action ∷ before) server server_now client client_now serves asks =
    (all_came hosts before server serves.0.0 client client_now (serves.0.1, serves.1.0) asks, serving_comes action hosts.far serves.1.1)
all_came hosts (Client action ∷ before) server server_now client client_now serves asks =
    (all_came hosts before server server_now client asks.0.0 serves (asks.0.1, asks.1.0), asking_comes action hosts.near asks.1.1)

pub example_is_asked : ExampleIsAsked
example_is_asked table root =
    let e = example_is_answered table root in
    let a = e.answering in
    let p = a.plays in
    let said = Path (47 ∷ []) in
    let server = (far_at e.server []).owner in
    let served = (far_at e.server_now []).owner in
    let client = (near_at e.client []).owner in
    let begun = (near_at a.first []).owner in
    let heard = (near_at e.heard []).owner in
    let done = (near_at (near.data_closed (near.reports e.heard)) []).owner in
    let first : Turn = Client (Other (Begun Ops.Where)) in
    let serves : Goes IsServingAlone ServerIsCalm ServerAttends (server_actions p.later) (quiet server) (quiet served) =
    subst (λ d. Goes IsServingAlone ServerIsCalm ServerAttends d (quiet server) (quiet served))
    (ap server_actions p.turns_are ∙ servers_then p.later (first ∷ []) ∙ append-nil (server_actions p.later)) p.far_goes in
    let asks : Goes IsAskingAlone ClientIsCalm ClientAttends (client_actions p.later) (quiet begun) (quiet heard) =
    subst (λ d. Goes IsAskingAlone ClientIsCalm ClientAttends d (quiet begun) (quiet heard)) (sym p.later_midst) p.near_goes in
    let happened : Happened (p.later ++ first ∷ []) nothing_yet = subst (λ t. Happened t nothing_yet) p.turns_are p.happened in
    let host = server.end.server.view.context.peer in
    let hosts : Hosts = record { near = host; far = host } in
    let took : Took (both_ends server begun nothing_yet 0 hosts) (both_ends served heard nothing_yet 0 hosts) = record {
      turns = p.later;
      server_led = serves.0;
      client_led = asks.0;
      went = went_of p.later Ops.Where nothing_yet happened;
      counted = all_counted p.later (quiet server) (quiet served) (quiet begun) (quiet heard) serves asks;
      came = all_came hosts p.later (quiet server) (quiet served) (quiet begun) (quiet heard) serves asks;
      hosts = refl;
    } in
    let last : Answers said (both_ends served heard nothing_yet 0 hosts) (both_ends served done nothing_yet 0 hosts) = record {
      asked = Shut;
      midst = [];
      led = a.last.0;
      went = (nothing_yet, (nothing_yet, (nothing_yet, refl, inl refl), inl refl), inl refl);
      counted = (0, (0, (0, refl, refl), refl), refl);
      came = (((tt, tt), tt), tt);
      hosts = refl;
      server = refl;
    } in
    let settled : Settled said (both_ends server begun nothing_yet 0 hosts) (both_ends served done nothing_yet 0 hosts) =
    record { mid = both_ends served heard nothing_yet 0 hosts; took = took; answers = last } in
    let answered : Answered Ops.Where said (both_ends server client nothing_yet 0 hosts) (both_ends served done nothing_yet 0 hosts) =
    record { begun = begun; begins = a.begins; settled = settled } in
    let alone : AskedBy ServerIsCalm ClientIsCalm answered = record {
      kept = a.calm;
      serves = serves.1;
      asks = asks.1;
      midst = subst AreMidst (sym p.later_midst) p.are;
      last_asks = a.last.1;
      last_midst = tt;
    } in (
      both_ends server client nothing_yet 0 hosts,
      both_ends served done nothing_yet 0 hosts,
      e.begins,
      refl,
      (both_ends server client nothing_yet 0 hosts, refl, answered),
      (tt, alone),
    )
