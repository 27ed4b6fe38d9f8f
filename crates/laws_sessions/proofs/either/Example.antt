-- The examples: sessions of one operation over a data connection that the server dials, as both drives took turns in them.
use Rattle.std.proofs.Common.{ℕ, List, [], ◌∷◌, ◌++◌, refl, sym, subst, ◌∙◌}
use Rattle.ftp_ports.specs.Actions.{Other, Stand}
use Rattle.ftp_client_driver.specs.Side.{Begun, client_side}
use Rattle.ftp_operation.specs.Answer.{Said}
use Rattle.ftp_operation.specs.declared.op.Op.{Op}
use Rattle.laws_active.specs.Actions.{ClientTransfersEitherWay, ServerTransfersEitherWay, listened_in_turns}
use Rattle.laws_examples.proofs.active.CallPlayed.{call_is_answered}
use Rattle.laws_examples.proofs.active.Ending.{IsCalled}
use Rattle.laws_examples.proofs.active.PeekPlayed.{peek_is_answered}
use Rattle.laws_examples.proofs.active.Playing.{Played}
use Rattle.laws_drivers.specs.events.Actions.{AreMidst}
use Rattle.laws_drivers.proofs.events.Along.{Went as Goes}
use Rattle.laws_drivers.specs.control.Between.{Client, Server, Turn, client_actions}
use Rattle.laws_examples.proofs.transfers.Playing.{far_in, near_in, none_yet}
use Rattle.laws_world.specs.Claims.{Beginning}
use Rattle.ftp_server_driver.specs.alone.Side.{server_side}
use Rattle.ftp_pair_memory.specs.streams.Order.{Counted, Hosts}
use Rattle.ftp_pair_memory.specs.steps.Taking.{Ends}
use Rattle.laws_sessions.proofs.passive.Examples.{Apart, Plays, apart_in, is_asked, plays}
use Rattle.laws_sessions.specs.either.Either.{AreEither, CallIsAsked, CallPeekIsAsked, either}
use Rattle.laws_sessions.proofs.either.Peers.{begins_keeps, peers_came}
use Rattle.laws_sessions.proofs.either.Ports.{ports_counted}

-- the action that begins an operation tells no port
counted_since : (op : Op (List ℕ)) (later : List Turn) (told : ℕ) → Counted (later ++ Client (Other (Begun op)) ∷ []) 0 told → Counted later 0 told
counted_since op [] told counted = counted.2 ∙ counted.1
counted_since op (Server action ∷ later) told counted = (counted.0, counted_since op later counted.0 counted.1, counted.2)
counted_since op (Client action ∷ later) told counted = (counted.0, counted_since op later counted.0 counted.1, counted.2)

-- the peer of each is at its other end
abbrev peers : Stand server_side → Stand client_side → Hosts
peers server client = record { near = client.owner.end.view.peer; far = server.owner.end.server.view.context.peer }

-- turns of both, of which either dialled
calls : (b : Beginning) (moments : ℕ → ℕ) (op : Op (List ℕ)) (said : Said) (a : IsCalled b moments op said)
    → Plays either (moments 0) (peers (far_in none_yet a.first []) (near_in none_yet a.client_first [])) (far_in none_yet a.first [])
    (near_in none_yet a.begun []) a.there (far_in none_yet a.served []) (near_in a.channel a.heard [])
calls b moments op said a =
    let p = a.played in
    let first = far_in none_yet a.first [] in
    let served = far_in none_yet a.served [] in
    let client = near_in none_yet a.client_first [] in
    let begun = near_in none_yet a.begun [] in
    let heard = near_in a.channel a.heard [] in
    let asks : Goes ClientTransfersEitherWay (client_actions p.later) begun heard =
    subst (λ d. Goes ClientTransfersEitherWay d begun heard) (sym p.later_midst) (p.near_led, p.takes) in
    let counted = subst (λ t. Counted t 0 (listened_in_turns p.turns)) p.turns_are (ports_counted p.turns p.ports) in
    let midst = subst AreMidst (sym p.later_midst) p.are in
    let serves : Apart ServerTransfersEitherWay (moments 0) p.later first served =
    apart_in ServerTransfersEitherWay moments op p.later p.turns first served p.turns_are midst p.far_led p.gives p.told in
    let hosts = peers first client in
    let came = peers_came hosts p.later first served begun heard serves.led asks.0 (record { serves = serves.serves; asks = asks.1 })
    (refl, sym (begins_keeps op client begun refl a.does)) in
    plays either moments op first begun a.there served heard p.later p.turns p.turns_are midst (listened_in_turns p.turns) hosts
    (record { led = serves.led; serves = came.1.serves; told = serves.told }) (asks.0, came.1.asks) (p.happened, p.resets)
    (counted_since op p.later (listened_in_turns p.turns) counted) came.0

-- so they are a session
either_is_asked : (b : Beginning) (moments : ℕ → ℕ) (op : Op (List ℕ)) (said : Said) → IsCalled b moments op said
    → (start : Ends) × (now : Ends) × AreEither b moments ((op, said) ∷ []) start now
either_is_asked b moments op said a =
    is_asked either (λ start begun there server client. Played moments start begun op 1 there server client) b op said ClientTransfersEitherWay
    a moments (peers (far_in none_yet a.first []) (near_in none_yet a.client_first [])) (calls b moments op said a) (refl, refl) tt a.may tt

-- a file is fetched
pub call_is_asked : CallIsAsked
call_is_asked table stamp moments has = either_is_asked _ moments _ _ (call_is_answered table stamp moments has)

-- its first octet is
pub call_peek_is_asked : CallPeekIsAsked
call_peek_is_asked table stamp moments has = either_is_asked _ moments _ _ (peek_is_answered table stamp moments has)
