-- The examples with transfers: sessions of one operation, as both drives took turns in them.
use Rattle.std.proofs.Common.{◌≡◌, inl, ℕ, List, [], ◌∷◌, ◌++◌, refl, sym, ap, subst, ◌∙◌, append-nil, Some}
use Rattle.ftp_ports.specs.Actions.{Action, Led, Other, Stand}
use Rattle.ftp_ports.specs.Machine.{Closed, Held, Left}
use Rattle.ftp_client_driver.specs.Side.{Begun, Report, client_side}
use Rattle.ftp_client_model.specs.Calls as near
use Rattle.ftp_client_model.specs.Failing.{Client as NearEnd}
use Rattle.ftp_operation.specs.Answer.{Said}
use Rattle.ftp_operation.specs.declared.op.Op.{Op}
use Rattle.laws_drivers.specs.events.Actions.{Along, AreMidst, ArePorts, listened_in}
use Rattle.laws_drivers.proofs.events.Along.{Went as Goes}
use Rattle.laws_drivers.specs.control.Alone.{ClientIsCalm, ServerIsCalm}
use Rattle.laws_drivers.specs.control.Between.{Between, Client, Server, Turn, client_actions, nothing_yet, server_actions}
use Rattle.laws_drivers.specs.control.Touches.{touch_of_leaving}
use Rattle.laws_examples.proofs.transfers.Ending.{IsAnswered, IsAnsweredBy, lies_over}
use Rattle.laws_examples.proofs.transfers.FetchPlayed.{fetch_is_answered}
use Rattle.laws_examples.proofs.transfers.Moves.{near_closes, says_answer}
use Rattle.laws_examples.proofs.transfers.PeekPlayed.{peek_is_answered}
use Rattle.laws_examples.proofs.transfers.Playing.{Played, far_in, near_in, none_yet}
use Rattle.laws_examples.proofs.transfers.PutPlayed.{put_is_answered}
use Rattle.laws_transfers.specs.Actions.{ClientTransfers, ServerTransfers}
use Rattle.laws_drivers.specs.events.Moments.{AreToldAt, IsToldAt, last_of, number_in}
use Rattle.laws_world.specs.Claims.{Beginning}
use Rattle.ftp_server_driver.specs.alone.Side.{Timed, server_side}
use Rattle.ftp_pair_memory.specs.streams.Order.{AllCame, Counted, Hosts}
use Rattle.ftp_pair_memory.specs.steps.Taking.{Answered, Answers, Ends, Settled, Took, both_ends}
use Rattle.ftp_pair_memory.proofs.steps.Gathering.{clients_then, servers_then}
use Rattle.laws_sessions.specs.passive.Kinds.{AnsweredSo, AreAllToldAt, Does, IsSession, Kind}
use Rattle.laws_sessions.specs.passive.Transfers.{AreTransferred, FetchIsAsked, IsServingAny, PeekIsAsked, PutIsAsked, transfers}
use Rattle.laws_sessions.proofs.passive.Breaking.{HappenedByResets, Resets, resets_of}
use Rattle.laws_drivers.proofs.events.Moments.{midst_numbers}
use Rattle.laws_sessions.proofs.passive.Peers.{left_comes, peers_came, serve_any}
use Rattle.laws_sessions.proofs.passive.Ports.{left_no_port, none_counts, ports_counted}

-- ---- the actions of both after an operation was begun

-- the server's, each such, and told at this moment
module _ (Is : Action server_side → (old new : Held Timed) → Type 0) where
  pub record Apart (moment : ℕ) (later : List Turn) (start now : Stand server_side) : Type 0 where
    pub led : Led (server_actions later) start now
    pub serves : Along Is (server_actions later) start now led
    pub told : AreAllToldAt moment (server_actions later) start now led

  -- of actions of which the first one began an operation
  pub apart : (moments : ℕ → ℕ) (op : Op (List ℕ)) (later : List Turn) (start now : Stand server_side) → AreMidst (client_actions later)
      → (led : Led (server_actions (later ++ Client (Other (Begun op)) ∷ [])) start now)
      → Along Is (server_actions (later ++ Client (Other (Begun op)) ∷ [])) start now led
      → AreToldAt moments (later ++ Client (Other (Begun op)) ∷ []) start now led → Apart (moments 0) later start now
  apart moments op [] start now midst led serves told = record { led = led; serves = tt; told = tt }
  apart moments op (Server action ∷ later) start now midst led serves told =
      let begun : List Turn = Client (Other (Begun op)) ∷ [] in
      let rest = apart moments op later start led.0 midst led.1 serves.0 told.0 in
      let same : last_of moments (number_in (client_actions (later ++ begun))) ≡ moments 0 =
      ap (λ d. last_of moments (number_in d)) (clients_then later begun)
      ∙ ap (last_of moments) (midst_numbers (client_actions later) (client_actions begun) midst) in
      record {
        led = (led.0, rest.led, led.2);
        serves = (rest.serves, serves.1);
        told = (rest.told, subst (λ m. IsToldAt action led.0 now led.2 m) same told.1);
      }
  apart moments op (Client action ∷ later) start now midst led serves told =
      let rest = apart moments op later start now midst.0 led serves told in record { led = rest.led; serves = rest.serves; told = rest.told }

  -- the same of actions that are those
  abbrev IsApart : (moments : ℕ → ℕ) (later all : List Turn) (start now : Stand server_side) → Type 0
  IsApart moments later all start now =
      (led : Led (server_actions all) start now) → Along Is (server_actions all) start now led → AreToldAt moments all start now led
      → Apart (moments 0) later start now

  pub apart_in : (moments : ℕ → ℕ) (op : Op (List ℕ)) (later turns : List Turn) (start now : Stand server_side)
      → turns ≡ later ++ Client (Other (Begun op)) ∷ [] → AreMidst (client_actions later) → IsApart moments later turns start now
  apart_in moments op later turns start now are midst =
      subst (λ all. IsApart moments later all start now) (sym are) (apart moments op later start now midst)

-- all of them, of this kind, and in an order
module _ (kind : Kind) where
  pub record Plays (moment : ℕ) (hosts : Hosts) (start : Stand server_side) (begun : Stand client_side) (there : Between) (server : Stand server_side)
      (client : Stand client_side) : Type 0 where
    pub later : List Turn
    pub serves : Apart (Does {side = server_side} kind.Serves ServerIsCalm) moment later start server
    pub asks : Goes (Does {side = client_side} kind.Asks ClientIsCalm) (client_actions later) begun client
    pub midst : AreMidst (client_actions later)
    pub went : Resets later nothing_yet there
    pub told : ℕ
    pub counted : Counted later 0 told
    pub came : AllCame hosts later

-- actions of both that can happen, of which the first one began an operation, are such
module _ (kind : Kind) (moments : ℕ → ℕ) (op : Op (List ℕ)) (start : Stand server_side) (begun : Stand client_side) (there : Between)
    (server : Stand server_side) (client : Stand client_side) (later turns : List Turn) (are : turns ≡ later ++ Client (Other (Begun op)) ∷ [])
    (midst : AreMidst (client_actions later)) (told : ℕ) (hosts : Hosts) where
  abbrev FarDoes : Action server_side → (old new : Held Timed) → Type 0
  FarDoes = Does {side = server_side} kind.Serves ServerIsCalm

  abbrev NearDoes : Action client_side → (old new : Held NearEnd) → Type 0
  NearDoes = Does {side = client_side} kind.Asks ClientIsCalm

  pub plays : Apart FarDoes (moments 0) later start server → Goes NearDoes (client_actions later) begun client → HappenedByResets turns there
      → Counted later 0 told → AllCame hosts later → Plays kind (moments 0) hosts start begun there server client
  plays serves asks happens counted came =
      let happened : HappenedByResets (later ++ Client (Other (Begun op)) ∷ []) there = subst (λ t. HappenedByResets t there) are happens in
      record {
        later = later;
        serves = serves;
        asks = asks;
        midst = midst;
        went = resets_of later op there happened.0 happened.1;
        told = told;
        counted = counted;
        came = came;
      }

-- ---- a session of one operation

module _ (kind : Kind)
    (Stands : (start : Stand server_side) (begun : Stand client_side) (there : Between) (server : Stand server_side) (client : Stand client_side) → Type 0)
    (b : Beginning) (op : Op (List ℕ)) (said : Said) (Did : Action client_side → (old new : Held NearEnd) → Type 0)
    (a : IsAnsweredBy kind.Carries Did Stands b op said)
    (moments : ℕ → ℕ) (hosts : Hosts)
    (p : Plays kind (moments 0) hosts (far_in none_yet a.first []) (near_in none_yet a.begun []) a.there (far_in none_yet a.served [])
    (near_in a.channel a.heard [])) where
  -- the ends as it begins, as the operation was begun, as it was answered, as that was reported, and then
  abbrev server : Held Timed
  server = (far_in none_yet a.first []).owner

  abbrev served : Held Timed
  served = (far_in none_yet a.served []).owner

  abbrev heard : Held NearEnd
  heard = (near_in a.channel a.heard []).owner

  abbrev reported : Held NearEnd
  reported = (near_in none_yet (near.reports a.heard) []).owner

  abbrev starts : Ends
  starts = both_ends server (near_in none_yet a.client_first []).owner nothing_yet 0 hosts

  abbrev started : Ends
  started = both_ends server (near_in none_yet a.begun []).owner nothing_yet 0 hosts

  abbrev done : Ends
  done = both_ends served heard a.there p.told hosts

  abbrev over : Ends
  over = both_ends served (near_in none_yet (near.data_closed (near.reports a.heard)) []).owner (lies_over a.hold [] []) p.told hosts

  abbrev took : Took started done
  took = record {
    turns = p.later;
    server_led = p.serves.led;
    client_led = p.asks.0;
    went = p.went.0;
    counted = p.counted;
    came = p.came;
    hosts = refl;
  }

  abbrev last : Answers said done over
  last = record {
    asked = a.asked;
    midst = [];
    led = (
      near_in none_yet (near.reports a.heard) [],
      (near_in a.channel (near.reports a.heard) [], (near_in a.channel a.heard [], refl, says_answer a.channel a.heard said a.some), a.leaves),
      near_closes (near.reports a.heard) a.free,
    );
    went = (lies_over a.hold [] [], (a.there, (a.there, refl, inl refl), inl a.can), inl refl);
    counted = (p.told, (p.told, (p.told, refl, refl), none_counts (touch_of_leaving a.asked) p.told (left_no_port a.asked)), refl);
    came = (((tt, tt), left_comes hosts.near a.asked), tt);
    hosts = refl;
    server = refl;
  }

  abbrev settled : Settled said started over
  settled = record { mid = done; took = took; answers = last }

  abbrev answered : Answered op said starts over
  answered = record { begun = started.client; begins = a.does; settled = settled }

  -- so turns of both are such a session
  pub is_asked : kind.Meets starts → kind.Asks (Other (Report (Some said))) heard
      → Does {side = client_side} kind.Asks ClientIsCalm (Other (Left a.asked)) (near_in a.channel (near.reports a.heard) []).owner reported
      → kind.Asks (Other Closed) reported
      → (start : Ends) × (now : Ends) × IsSession kind b moments ((op, said) ∷ []) start now
  is_asked meets reports leaves closes =
      let so : AnsweredSo kind ServerIsCalm ClientIsCalm (moments 0) answered = record {
        carried = a.is;
        kept = refl;
        serves = p.serves.serves;
        told = p.serves.told;
        asks = p.asks.1;
        midst = p.midst;
        last_asks = (((tt, (reports, refl)), leaves), (closes, refl));
        last_midst = tt;
        resets = p.went.1;
        last_resets = tt;
      } in (
        starts,
        over,
        record {
          begins = a.begins;
          nothing = refl;
          listens = refl;
          meets = meets;
          server_bare = (refl, refl);
          client_bare = (refl, refl);
          are = (starts, refl, answered);
          by = (tt, so);
        },
      )

-- ---- those over passive data connections

-- the server's peer is at either's other end
abbrev peers : Stand server_side → Hosts
peers start = record { near = start.owner.end.server.view.context.peer; far = start.owner.end.server.view.context.peer }

-- turns of both, of which the client dialled
dials : (b : Beginning) (moments : ℕ → ℕ) (op : Op (List ℕ)) (said : Said) (a : IsAnswered b moments op said)
    → Plays transfers (moments 0) (peers (far_in none_yet a.first [])) (far_in none_yet a.first []) (near_in none_yet a.begun []) a.there
    (far_in none_yet a.served []) (near_in a.channel a.heard [])
dials b moments op said a =
    let p = a.played in
    let first = far_in none_yet a.first [] in
    let begun = near_in none_yet a.begun [] in
    let heard = near_in a.channel a.heard [] in
    let served = far_in none_yet a.served [] in
    let asks : Goes ClientTransfers (client_actions p.later) begun heard =
    subst (λ d. Goes ClientTransfers d begun heard) (sym p.later_midst) (p.near_led, p.takes) in
    let servers : server_actions p.turns ≡ server_actions p.later =
    ap server_actions p.turns_are ∙ servers_then p.later (Client (Other (Begun op)) ∷ []) ∙ append-nil (server_actions p.later) in
    let midst = subst AreMidst (sym p.later_midst) p.are in
    let does : Apart ServerTransfers (moments 0) p.later first served =
    apart_in ServerTransfers moments op p.later p.turns first served p.turns_are midst p.far_led p.gives p.told in
    let serves : Apart (Does {side = server_side} IsServingAny ServerIsCalm) (moments 0) p.later first served =
    record { led = does.led; serves = serve_any (server_actions p.later) first served does.led does.serves; told = does.told } in
    let hosts = peers first in
    plays transfers moments op first begun a.there served heard p.later p.turns p.turns_are midst (listened_in (server_actions p.later)) hosts serves asks
    (p.happened, p.resets) (ports_counted ClientIsCalm p.later begun heard asks.0 asks.1 (subst ArePorts servers p.ports))
    (peers_came hosts p.later first served does.led does.serves begun heard asks.0 asks.1 refl).0

passive_is_asked : (b : Beginning) (moments : ℕ → ℕ) (op : Op (List ℕ)) (said : Said) → IsAnswered b moments op said
    → (start : Ends) × (now : Ends) × AreTransferred b moments ((op, said) ∷ []) start now
passive_is_asked b moments op said a =
    is_asked transfers (λ start begun there server client. Played moments start begun op 1 there server client) b op said ClientTransfers a moments
    (peers (far_in none_yet a.first [])) (dials b moments op said a) refl tt a.may tt

-- a file is fetched
pub fetch_is_asked : FetchIsAsked
fetch_is_asked table stamp moments has = passive_is_asked _ moments _ _ (fetch_is_answered table stamp moments has)

-- its first octet is
pub peek_is_asked : PeekIsAsked
peek_is_asked table stamp moments has = passive_is_asked _ moments _ _ (peek_is_answered table stamp moments has)

-- another is put in its place
pub put_is_asked : PutIsAsked
put_is_asked table stamp moments has room = passive_is_asked _ moments _ _ (put_is_answered table stamp moments has room)
