-- Actions of two drives that fetch a file over a data connection that either dials, one after another, each of which can be done.
use Rattle.std.proofs.Common.{◌≡◌, inl, ℕ, ◌<◌, true, true≢false, List, [], ◌∷◌, ◌++◌, length, take, None, refl, sym, ap, subst, ◌∙◌, append-nil, arith}
use Rattle.ftp_ports.specs.Actions.{Action, Done, Heard, HearsNext, Led, Other, Read, ReadsNext, Said as Says, Says as SaysNext, Stand}
use Rattle.ftp_ports.specs.Channel.{Channel}
use Rattle.ftp_ports.specs.Machine.{Break}
use Rattle.ftp_client_driver.specs.Side.{Begun, client_side}
use Rattle.ftp_client_model.specs.Calls as near
use Rattle.ftp_client_model.specs.View.{View as Near}
use Rattle.ftp_command.specs.declared.command.Command.{Command}
use Rattle.ftp_ends.specs.Ear.{ear_out, ear_step}
use Rattle.ftp_nvt.specs.Lines.{line}
use Rattle.ftp_operation.specs.declared.op.Op.{Op}
use Rattle.ftp_server_driver.specs.alone.Side.{server_side}
use Rattle.ftp_server_model.specs.Machine.{IsReading, Reading, heard_line, may_hear}
use Rattle.ftp_server_model.specs.View.{View as Far, line_limit}
use Rattle.ftp_server_model.specs.declared.heard.HeardLine.TheVariants.{Asks}
use Rattle.laws_drivers.specs.control.Between.{Between, CanTurn, Client, Happened, Has_lost, Hold, Server, Turn, client_actions, server_actions}
use Rattle.laws_drivers.proofs.control.Playing.{Attends, ear_after, far_ending, far_hears, is_silent}
use Rattle.laws_drivers.specs.events.Actions.{AreMidst, IsMidst}
use Rattle.laws_transfers.specs.Actions.{AreResets}
use Rattle.laws_drivers.specs.events.Moments.{AreToldAt, last_of, number_in}
use Rattle.laws_active.specs.Actions.{ArePortsOfTurns, AsksAlongEitherWay, ClientTransfersEitherWay, ServerTransfersEitherWay, ServesAlongEitherWay, listened_in_turns}
use Rattle.laws_examples.proofs.transfers.Playing.{IsUnbroken, IsUntimed, can_take, drop_all, far_in, first_is, hearing, lies, near_in, near_resets, other_is, reading, saying, seen_so, take_all, takes_only}

-- ---- actions of both

-- the client began an operation, and both did actions since; so many ports were told to either
pub record Played (moments : ℕ → ℕ) (start : Stand server_side) (begun : Stand client_side) (op : Op (List ℕ)) (listened : ℕ) (between : Between)
    (server : Stand server_side) (client : Stand client_side) : Type 0 where
  pub turns : List Turn
  pub happened : Happened turns between
  pub resets : AreResets turns between happened
  pub far_led : Led (server_actions turns) start server
  pub gives : ServesAlongEitherWay (server_actions turns) start server far_led
  pub midst : List (Action client_side)
  pub are : AreMidst midst
  pub client_is : client_actions turns ≡ midst ++ Other (Begun op) ∷ []
  pub later : List Turn
  pub turns_are : turns ≡ later ++ Client (Other (Begun op)) ∷ []
  pub later_midst : client_actions later ≡ midst
  pub near_led : Led midst begun client
  pub takes : AsksAlongEitherWay midst begun client near_led
  pub listened_is : listened_in_turns turns ≡ listened
  pub ports : ArePortsOfTurns turns
  pub told : AreToldAt moments turns start server far_led

-- an action that tells no port
abbrev pub TellsNoPort : Turn → Type 0
TellsNoPort turn = (before : List Turn) → (listened_in_turns (turn ∷ before) ≡ listened_in_turns before) × (ArePortsOfTurns before → ArePortsOfTurns (turn ∷ before))

-- and is told at no moment that is asked for
abbrev pub IsQuiet : Action server_side → Type 0
IsQuiet action = TellsNoPort (Server action) × IsUntimed action

module _ (moments : ℕ → ℕ) (start : Stand server_side) (begun : Stand client_side) (op : Op (List ℕ)) where
  -- an action of the server
  pub far_turn : (action : Action server_side) → IsQuiet action → (listened : ℕ) (old new : Between) (at next : Stand server_side) (client : Stand client_side)
      → ServerTransfersEitherWay action at.owner next.owner → Done action at next → CanTurn (Server action) old new
      → Played moments start begun op listened old at client → Played moments start begun op listened new next client
  far_turn action quiet listened old new at next client gives done can p = record {
    turns = Server action ∷ p.turns;
    happened = (old, p.happened, can);
    resets = p.resets;
    far_led = (at, p.far_led, done);
    gives = (p.gives, gives);
    midst = p.midst;
    are = p.are;
    client_is = p.client_is;
    later = Server action ∷ p.later;
    turns_are = ap (λ t. Server action ∷ t) p.turns_are;
    later_midst = p.later_midst;
    near_led = p.near_led;
    takes = p.takes;
    listened_is = (quiet.0 p.turns).0 ∙ p.listened_is;
    ports = (quiet.0 p.turns).1 p.ports;
    told = (p.told, quiet.1 at next done (last_of moments (number_in (client_actions p.turns))));
  }

  -- an action of the client but that it is told of a break
  pub near_turn : (action : Action client_side) → IsMidst action × IsUnbroken action → TellsNoPort (Client action)
      → (listened : ℕ) (old new : Between) (server : Stand server_side) (at next : Stand client_side)
      → ClientTransfersEitherWay action at.owner next.owner → Done action at next → CanTurn (Client action) old new
      → Played moments start begun op listened old server at → Played moments start begun op listened new server next
  near_turn action amid quiet listened old new server at next takes done can p = record {
    turns = Client action ∷ p.turns;
    happened = (old, p.happened, can);
    resets = near_resets action amid.1 p.turns old new p.happened can p.resets;
    far_led = p.far_led;
    gives = p.gives;
    midst = action ∷ p.midst;
    are = (p.are, amid.0);
    client_is = ap (λ l. action ∷ l) p.client_is;
    later = Client action ∷ p.later;
    turns_are = ap (λ t. Client action ∷ t) p.turns_are;
    later_midst = ap (λ l. action ∷ l) p.later_midst;
    near_led = (at, p.near_led, done);
    takes = (p.takes, takes);
    listened_is = (quiet p.turns).0 ∙ p.listened_is;
    ports = (quiet p.turns).1 p.ports;
    told = p.told;
  }

  -- the client is told of a break, as the server has reset the data connection
  pub near_is_broken : (listened : ℕ) (old new : Between) (server : Stand server_side) (at next : Stand client_side)
      → ClientTransfersEitherWay (Other Break) at.owner next.owner → Done (Other Break) at next → old.far ≡ Has_lost → CanTurn (Client (Other Break)) old new
      → Played moments start begun op listened old server at → Played moments start begun op listened new server next
  near_is_broken listened old new server at next takes done lost can p = record {
    turns = Client (Other Break) ∷ p.turns;
    happened = (old, p.happened, can);
    resets = (p.resets, lost);
    far_led = p.far_led;
    gives = p.gives;
    midst = Other Break ∷ p.midst;
    are = (p.are, tt);
    client_is = ap (λ l. Other Break ∷ l) p.client_is;
    later = Client (Other Break) ∷ p.later;
    turns_are = ap (λ t. Client (Other Break) ∷ t) p.turns_are;
    later_midst = ap (λ l. Other Break ∷ l) p.later_midst;
    near_led = (at, p.near_led, done);
    takes = (p.takes, takes);
    listened_is = p.listened_is;
    ports = p.ports;
    told = p.told;
  }

-- ---- the control connection

module _ (moments : ℕ → ℕ) (start : Stand server_side) (begun : Stand client_side) (op : Op (List ℕ)) (listened : ℕ) (go come : List ℕ)
    (near_hold far_hold : Hold) where
  -- the server says all that it owes
  pub far_says : (up down : List ℕ) (channel : Channel) (v : Far) (client : Stand client_side) → v.waiting ≡ None
      → Played moments start begun op listened (lies up down go come near_hold far_hold) (far_in channel v []) client
      → Played moments start begun op listened (lies up (down ++ v.owed) go come near_hold far_hold) (far_in channel (record v { owed = [] }) []) client
  far_says up down channel v client none p =
      far_turn moments start begun op (Says v.owed) ((λ before. (refl, λ ports. ports)), λ old new done moment. tt) listened
      (lies up down go come near_hold far_hold) (lies up (down ++ v.owed) go come near_hold far_hold) (far_in channel v [])
      (far_in channel (record v { owed = [] }) []) client
      (tt, refl) (saying channel v [] none) refl p

  -- the client says all that it owes
  pub near_says : (up down : List ℕ) (server : Stand server_side) (channel : Channel) (n : Near)
      → Played moments start begun op listened (lies up down go come near_hold far_hold) server (near_in channel n [])
      → Played moments start begun op listened (lies (up ++ n.owed) down go come near_hold far_hold) server (near_in channel (record n { owed = [] }) [])
  near_says up down server channel n p =
      let new : Near = record n { owed = [] } in
      let says : SaysNext n.owed (near_in channel n []) (near_in channel new []) = record {
        gives = record {
          count = length n.owed;
          owed = take_all n.owed;
          gave = (ap (λ o. record n { owed = o }) (drop_all n.owed), refl);
          channel = refl;
        };
        wrote = tt;
        left = refl;
        unheard = refl;
      } in
      near_turn moments start begun op (Says n.owed) (tt, tt) (λ before. (refl, λ ports. ports)) listened (lies up down go come near_hold far_hold)
      (lies (up ++ n.owed) down go come near_hold far_hold)
      server (near_in channel n []) (near_in channel new []) (tt, refl) says refl p

  -- the client hears what it has read, octet by octet
  near_hears : (up down : List ℕ) (server : Stand server_side) (channel : Channel) (octets : List ℕ) (n : Near) → can_take n octets ≡ true
      → Played moments start begun op listened (lies up down go come near_hold far_hold) server (near_in channel n octets)
      → Played moments start begun op listened (lies up down go come near_hold far_hold) server (near_in channel (near.hears n octets) [])
  unfolding can_take
  near_hears up down server channel [] n can p = p
  near_hears up down server channel (octet ∷ octets) n can p =
      let next : Near = near.hears_octet n octet in
      let more = other_is (near.may_hear n) _ can in
      let may : (k : ℕ) → k < 1 → near.may_hear (near.hears n (take k (octet ∷ octets))) ≡ true =
      λ k less. subst (λ i. near.may_hear (near.hears n (take i (octet ∷ octets))) ≡ true) (zero_below k less) (first_is (near.may_hear n) _ can) in
      let hears : HearsNext (octet ∷ []) (near_in channel n (octet ∷ octets)) (near_in channel next octets) = record {
        hears = (
          (((λ calm. (refl, may)), (λ moved. absurd (moved refl))), inl refl),
          seen_so (near.wants n) channel (first_is (takes_only (near.wants n)) _ more),
          λ serves. absurd (true≢false (sym serves)),
        );
        next = refl;
        left = refl;
        written = refl;
      } in
      near_hears up down server channel octets next (other_is (takes_only (near.wants n)) _ more)
      (near_turn moments start begun op (Heard (octet ∷ [])) (tt, tt) (λ before. (refl, λ ports. ports)) listened (lies up down go come near_hold far_hold)
      (lies up down go come near_hold far_hold)
      server (near_in channel n (octet ∷ octets)) (near_in channel next octets) (tt, refl) hears refl p)
    where
      zero_below : (k : ℕ) → k < 1 → 0 ≡ k
      zero_below k less = omega (arith, less)

  -- the client reads all that is on its way, and hears it
  pub near_is_told : (up down : List ℕ) (server : Stand server_side) (channel : Channel) (n : Near) → n.owed ≡ [] → can_take n down ≡ true
      → Played moments start begun op listened (lies up down go come near_hold far_hold) server (near_in channel n [])
      → Played moments start begun op listened (lies up [] go come near_hold far_hold) server (near_in channel (near.hears n down) [])
  near_is_told up down server channel n owed can p =
      let reads : ReadsNext down (near_in channel n []) (near_in channel n down) = record {
        due = (owed, λ serves. absurd (true≢false (sym serves)));
        owner = refl;
        heard = refl;
        read = tt;
        ended = refl;
        unheard = refl;
        written = refl;
      } in
      near_hears up [] server channel down n can
      (near_turn moments start begun op (Read down) (tt, tt) (λ before. (refl, λ ports. ports)) listened (lies up down go come near_hold far_hold)
      (lies up [] go come near_hold far_hold)
      server (near_in channel n []) (near_in channel n down) (tt, refl) reads (sym (append-nil down), refl) p)

  -- the server reads a line that is on its way, and hears it
  pub far_obeys : (down octets : List ℕ) (channel : Channel) (v new : Far) (text : List ℕ) (asked : Command (List ℕ)) (client : Stand client_side) → Attends v
      → v.owed ≡ [] → may_hear v ≡ true → is_silent v.ear octets ≡ true → ear_out line_limit (ear_after v.ear octets) 10 ≡ line text ∷ []
      → ((read : Reading) → IsReading read → read text ≡ Asks asked)
      → new ≡ heard_line (Asks asked) (record v { ear = ear_step line_limit (ear_after v.ear octets) 10; context = record v.context { moment = 0 } })
      → Played moments start begun op listened (lies (octets ++ 10 ∷ []) down go come near_hold far_hold) (far_in channel v []) client
      → Played moments start begun op listened (lies [] down go come near_hold far_hold) (far_in channel new []) client
  far_obeys down octets channel v new text asked client at owed may silent said reads is p =
      let all : List ℕ = octets ++ 10 ∷ [] in
      let last : Far = record v { ear = ear_after v.ear octets } in
      let attends : Attends last = record { wants = at.wants; running = at.running; none_waits = at.none_waits } in
      let whole = lies all down go come near_hold far_hold in
      let rest = lies [] down go come near_hold far_hold in
      let read = far_turn moments start begun op (Read all) ((λ before. (refl, λ ports. ports)), λ old new done moment. tt) listened whole rest
      (far_in channel v []) (far_in channel v all) client
      (tt, refl) (reading channel v all at owed) (sym (append-nil all), refl) p in
      let heard = far_hears (λ v u. Attends v × Played moments start begun op listened rest (far_in channel v u) client)
      (λ octet more v new at done p. (
        at,
        far_turn moments start begun op (Heard (octet ∷ [])) ((λ before. (refl, λ ports. ports)), λ old new done moment. tt) listened rest rest
            (far_in channel v (octet ∷ more)) (far_in channel new more)
            client (tt, refl) (hearing channel (octet ∷ []) (octet ∷ more) more v new p.0 done) refl p.1,
      ))
      octets (10 ∷ []) v at may silent (at, read) in
      far_turn moments start begun op (Heard (10 ∷ [])) ((λ before. (refl, λ ports. ports)), λ old new done moment. tt) listened rest rest
      (far_in channel last (10 ∷ [])) (far_in channel new []) client
      (tt, refl) (hearing channel (10 ∷ []) (10 ∷ []) [] last new attends (far_ending last new text asked attends may said reads is)) refl heard.1
