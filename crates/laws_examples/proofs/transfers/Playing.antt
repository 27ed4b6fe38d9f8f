-- Actions of two drives that put or fetch a file, one after another, each of which can be done.
use Rattle.std.proofs.Common.{◌≡◌, inl, ℕ, ◌<◌, Bool, true, false, true≢false, ◌&&◌, List, [], ◌∷◌, ◌++◌, length, take, drop, None, refl, sym, ap, subst, ◌∙◌, append-nil, arith}
use Rattle.ftp_ports.specs.Actions.{Action, Done, Heard, HearsNext, Led, Other, Read, ReadsNext, Said as Says, Says as SaysNext, Stand}
use Rattle.ftp_ports.specs.Channel.{Channel, no_channel}
use Rattle.ftp_ports.specs.Machine.{Aside, Break, End, Held, seen}
use Rattle.ftp_ports.specs.declared.whole.Fate.TheVariants as Fates
use Rattle.ftp_ports.specs.declared.whole.Rest.TheVariants as Rests
use Rattle.ftp_client_driver.specs.Side.{Begun, Starting, client_side}
use Rattle.ftp_client_model.specs.Calls as near
use Rattle.ftp_client_model.specs.Failing.{Client as NearEnd}
use Rattle.ftp_client_model.specs.View.{View as Near}
use Rattle.ftp_command.specs.declared.command.Command.{Command}
use Rattle.ftp_ends.specs.Ear.{ear_out, ear_step}
use Rattle.ftp_ends.specs.declared.link.Wants.{Wants}
use Rattle.ftp_ends.specs.declared.link.Wants.TheVariants as Want
use Rattle.ftp_nvt.specs.Lines.{line}
use Rattle.ftp_operation.specs.declared.op.Op.{Op}
use Rattle.ftp_server_driver.specs.alone.Side.{Timed, server_side}
use Rattle.ftp_server_model.specs.Far.{Server as ServerEnd}
use Rattle.ftp_server_model.specs.Machine.{IsReading, Reading, heard_line, may_hear}
use Rattle.ftp_server_model.specs.View.{View as Far, line_limit}
use Rattle.ftp_server_model.specs.declared.heard.HeardLine.TheVariants.{Asks}
use Rattle.ftp_tree.specs.Change.{never_strayed}
use Rattle.laws_drivers.specs.control.Between.{Between, CanTurn, Client, Happened, Has_lost, Hold, Server, Turn, client_actions, server_actions}
use Rattle.laws_drivers.proofs.control.Playing.{Attends, ear_after, far_at, far_ending, far_hears, far_reading, far_saying, is_silent}
use Rattle.laws_drivers.specs.events.Actions.{Along, AreMidst, ArePorts, IsMidst, listened_in}
use Rattle.laws_transfers.specs.Actions.{AreResets, ClientTransfers, ServerTransfers}
use Rattle.laws_drivers.specs.events.Moments.{AreToldAt, IsToldAt, last_of, number_in}

-- ---- stands beside a data connection

-- a server
abbrev pub server_of : Far → ServerEnd
server_of v = record { view = v; counts = record { refusals = 0; failures = never_strayed 0 } }

-- with what it has read and not heard
abbrev pub far_in : Channel → Far → List ℕ → Stand server_side
far_in channel v unheard = record {
  owner = record { end = record { server = server_of v; told = None }; channel = channel };
  left = record { octets = None; ended = false };
  unheard = unheard;
  written = None;
}

-- a client
abbrev pub near_in : Channel → Near → List ℕ → Stand client_side
near_in channel n unheard = record {
  owner = record { end = record { view = n; refusals = 0 }; channel = channel };
  left = record { octets = None; ended = false };
  unheard = unheard;
  written = None;
}

-- none stands
abbrev pub none_yet : Channel
none_yet = no_channel None

-- one stands, of which these are unwritten, and these were read and not told
abbrev pub one_stands : (unwritten untold : List ℕ) → Channel
one_stands unwritten untold =
    record { stands = true; fate = Fates.Sound; rest = Rests.Nothing; left = None; written = None; unwritten = unwritten; untold = untold; asked = None }

-- what lies between: control octets to the server and to the client, octets of the data connection to either, and how both stand to it
abbrev pub lies : (up down go come : List ℕ) (near_hold far_hold : Hold) → Between
lies up down go come near_hold far_hold = record {
  control = record { to_server = up; to_client = down };
  data_ways = record { to_server = go; to_client = come };
  near = near_hold;
  far = far_hold;
}

-- ---- actions of both

-- an action that tells no port
abbrev pub TellsNoPort : Action server_side → Type 0
TellsNoPort action = (before : List (Action server_side)) → (listened_in (action ∷ before) ≡ listened_in before) × (ArePorts before → ArePorts (action ∷ before))

-- and is told at no moment that is asked for
abbrev pub IsUntimed : Action server_side → Type 0
IsUntimed action = (old new : Stand server_side) (done : Done action old new) (moment : ℕ) → IsToldAt action old new done moment

abbrev pub IsQuiet : Action server_side → Type 0
IsQuiet action = TellsNoPort action × IsUntimed action

-- an action in the midst begins none
midst_number : (action : Action client_side) (before : List (Action client_side)) → IsMidst action → number_in (action ∷ before) ≡ number_in before
midst_number (Other (Aside (Starting op))) before midst = absurd midst
midst_number action before midst = refl

pub midst_numbers : (actions before : List (Action client_side)) → AreMidst actions → number_in (actions ++ before) ≡ number_in before
midst_numbers [] before midst = refl
midst_numbers (action ∷ actions) before midst = midst_number action (actions ++ before) midst.1 ∙ midst_numbers actions before midst.0

-- an action of the client but that it is told of a break: nothing is asked of the server for it
abbrev pub IsUnbroken : Action client_side → Type 0
IsUnbroken (Other Break) = ⊥
IsUnbroken action = Unit {0}

pub near_resets : (action : Action client_side) → IsUnbroken action → (before : List Turn) (old new : Between) (happened : Happened before old)
    (can : CanTurn (Client action) old new) → AreResets before old happened → AreResets (Client action ∷ before) new (old, happened, can)
near_resets (Other Break) unbroken before old new happened can resets = absurd unbroken
near_resets action unbroken before old new happened can resets = resets

-- what is asked of each action of either end, as where nothing breaks or less; and what is kept of their turns, whatever is done as where nothing breaks
pub record Kind : Type 1 where
  pub Gives : Action server_side → (old new : Held Timed) → Type 0
  pub Takes : Action client_side → (old new : Held NearEnd) → Type 0
  pub gives : (action : Action server_side) (old new : Held Timed) → ServerTransfers action old new → Gives action old new
  pub takes : (action : Action client_side) (old new : Held NearEnd) → IsMidst action → IsUnbroken action → ClientTransfers action old new → Takes action old new
  pub Keeps : (turns : List Turn) (between : Between) → Happened turns between → Type 0
  pub far_keeps : (action : Action server_side) (at next : Held Timed) → ServerTransfers action at next → (before : List Turn) (old new : Between)
      (happened : Happened before old) (can : CanTurn (Server action) old new) → Keeps before old happened
      → Keeps (Server action ∷ before) new (old, happened, can)
  pub near_keeps : (action : Action client_side) → IsUnbroken action → (before : List Turn) (old new : Between) (happened : Happened before old)
      (can : CanTurn (Client action) old new) → Keeps before old happened → Keeps (Client action ∷ before) new (old, happened, can)

-- the client began an operation, and then both did actions of a kind; the server was told so many ports
pub record PlayedBy (kind : Kind) (moments : ℕ → ℕ) (start : Stand server_side) (begun : Stand client_side) (op : Op (List ℕ)) (listened : ℕ)
    (between : Between) (server : Stand server_side) (client : Stand client_side) : Type 0 where
  pub turns : List Turn
  pub happened : Happened turns between
  pub resets : kind.Keeps turns between happened
  pub far_led : Led (server_actions turns) start server
  pub gives : Along kind.Gives (server_actions turns) start server far_led
  pub midst : List (Action client_side)
  pub are : AreMidst midst
  pub client_is : client_actions turns ≡ midst ++ Other (Begun op) ∷ []
  pub later : List Turn
  pub turns_are : turns ≡ later ++ Client (Other (Begun op)) ∷ []
  pub later_midst : client_actions later ≡ midst
  pub near_led : Led midst begun client
  pub takes : Along kind.Takes midst begun client near_led
  pub listened_is : listened_in (server_actions turns) ≡ listened
  pub ports : ArePorts (server_actions turns)
  pub told : AreToldAt moments turns start server far_led

-- as where nothing breaks: resets come before breaks
abbrev pub transferring : Kind
transferring = record {
  Gives = ServerTransfers;
  Takes = ClientTransfers;
  gives = λ action old new gives. gives;
  takes = λ action old new midst unbroken takes. takes;
  Keeps = AreResets;
  far_keeps = λ action at next gives before old new happened can resets. resets;
  near_keeps = near_resets;
}

-- they did such actions
abbrev pub Played : (moments : ℕ → ℕ) (start : Stand server_side) (begun : Stand client_side) (op : Op (List ℕ)) (listened : ℕ) (between : Between)
    (server : Stand server_side) (client : Stand client_side) → Type 0
Played moments start begun op listened between server client = PlayedBy transferring moments start begun op listened between server client

-- what was played so is of another kind, too, whose actions these are, and whose order they keep
pub played_as : {kind : Kind} (next : Kind) {moments : ℕ → ℕ} {start : Stand server_side} {begun : Stand client_side} {op : Op (List ℕ)} {listened : ℕ}
    {between : Between} {server : Stand server_side} {client : Stand client_side} (p : PlayedBy kind moments start begun op listened between server client)
    → Along next.Gives (server_actions p.turns) start server p.far_led → Along next.Takes p.midst begun client p.near_led
    → next.Keeps p.turns between p.happened → PlayedBy next moments start begun op listened between server client
played_as next p gives takes keeps = record {
  turns = p.turns;
  happened = p.happened;
  resets = keeps;
  far_led = p.far_led;
  gives = gives;
  midst = p.midst;
  are = p.are;
  client_is = p.client_is;
  later = p.later;
  turns_are = p.turns_are;
  later_midst = p.later_midst;
  near_led = p.near_led;
  takes = takes;
  listened_is = p.listened_is;
  ports = p.ports;
  told = p.told;
}

module _ {kind : Kind} (moments : ℕ → ℕ) (start : Stand server_side) (begun : Stand client_side) (op : Op (List ℕ)) where
  -- an action of the server, of that kind
  pub far_does : (action : Action server_side) → IsQuiet action → (listened : ℕ) (old new : Between) (at next : Stand server_side) (client : Stand client_side)
      → kind.Gives action at.owner next.owner → Done action at next → (can : CanTurn (Server action) old new)
      → (p : PlayedBy kind moments start begun op listened old at client)
      → kind.Keeps (Server action ∷ p.turns) new (old, p.happened, can) → PlayedBy kind moments start begun op listened new next client
  far_does action quiet listened old new at next client gives done can p keeps = record {
    turns = Server action ∷ p.turns;
    happened = (old, p.happened, can);
    resets = keeps;
    far_led = (at, p.far_led, done);
    gives = (p.gives, gives);
    midst = p.midst;
    are = p.are;
    client_is = p.client_is;
    later = Server action ∷ p.later;
    turns_are = ap (λ t. Server action ∷ t) p.turns_are;
    later_midst = p.later_midst;
    near_led = p.near_led;
    takes = p.takes;
    listened_is = (quiet.0 (server_actions p.turns)).0 ∙ p.listened_is;
    ports = (quiet.0 (server_actions p.turns)).1 p.ports;
    told = (p.told, quiet.1 at next done (last_of moments (number_in (client_actions p.turns))));
  }

  -- one as where nothing breaks
  pub far_turn : (action : Action server_side) → IsQuiet action → (listened : ℕ) (old new : Between) (at next : Stand server_side) (client : Stand client_side)
      → ServerTransfers action at.owner next.owner → Done action at next → CanTurn (Server action) old new
      → PlayedBy kind moments start begun op listened old at client → PlayedBy kind moments start begun op listened new next client
  far_turn action quiet listened old new at next client gives done can p =
      far_does action quiet listened old new at next client (kind.gives action at.owner next.owner gives) done can p
      (kind.far_keeps action at.owner next.owner gives p.turns old new p.happened can p.resets)

  -- the server is told that the data connection ended, at the moment of the operation
  pub far_is_told : (listened : ℕ) (old new : Between) (at next : Stand server_side) (client : Stand client_side)
      → ServerTransfers (Other End) at.owner next.owner → (done : Done (Other End) at next) → done.0.0.0 ≡ moments 0 → CanTurn (Server (Other End)) old new
      → PlayedBy kind moments start begun op listened old at client → PlayedBy kind moments start begun op listened new next client
  far_is_told listened old new at next client gives done timely can p = record {
    turns = Server (Other End) ∷ p.turns;
    happened = (old, p.happened, can);
    resets = kind.far_keeps (Other End) at.owner next.owner gives p.turns old new p.happened can p.resets;
    far_led = (at, p.far_led, done);
    gives = (p.gives, kind.gives (Other End) at.owner next.owner gives);
    midst = p.midst;
    are = p.are;
    client_is = p.client_is;
    later = Server (Other End) ∷ p.later;
    turns_are = ap (λ t. Server (Other End) ∷ t) p.turns_are;
    later_midst = p.later_midst;
    near_led = p.near_led;
    takes = p.takes;
    listened_is = p.listened_is;
    ports = p.ports;
    told = (p.told, timely ∙ ap (last_of moments) (sym (ap number_in p.client_is ∙ midst_numbers p.midst (Other (Begun op) ∷ []) p.are)));
  }

  -- an action of the client, of that kind
  pub near_does : (action : Action client_side) → IsMidst action → (listened : ℕ) (old new : Between) (server : Stand server_side) (at next : Stand client_side)
      → kind.Takes action at.owner next.owner → Done action at next → (can : CanTurn (Client action) old new)
      → (p : PlayedBy kind moments start begun op listened old server at)
      → kind.Keeps (Client action ∷ p.turns) new (old, p.happened, can) → PlayedBy kind moments start begun op listened new server next
  near_does action amid listened old new server at next takes done can p resets = record {
    turns = Client action ∷ p.turns;
    happened = (old, p.happened, can);
    resets = resets;
    far_led = p.far_led;
    gives = p.gives;
    midst = action ∷ p.midst;
    are = (p.are, amid);
    client_is = ap (λ l. action ∷ l) p.client_is;
    later = Client action ∷ p.later;
    turns_are = ap (λ t. Client action ∷ t) p.turns_are;
    later_midst = ap (λ l. action ∷ l) p.later_midst;
    near_led = (at, p.near_led, done);
    takes = (p.takes, takes);
    listened_is = p.listened_is;
    ports = p.ports;
    told = p.told;
  }

  -- one as where nothing breaks
  pub near_turn : (action : Action client_side) → IsMidst action × IsUnbroken action
      → (listened : ℕ) (old new : Between) (server : Stand server_side) (at next : Stand client_side)
      → ClientTransfers action at.owner next.owner → Done action at next → CanTurn (Client action) old new
      → PlayedBy kind moments start begun op listened old server at → PlayedBy kind moments start begun op listened new server next
  near_turn action amid listened old new server at next takes done can p =
      near_does action amid.0 listened old new server at next (kind.takes action at.owner next.owner amid.0 amid.1 takes) done can p
      (kind.near_keeps action amid.1 p.turns old new p.happened can p.resets)

-- the client is told of a break, as the server has reset the data connection
pub near_is_broken : (moments : ℕ → ℕ) (start : Stand server_side) (begun : Stand client_side) (op : Op (List ℕ)) (listened : ℕ) (old new : Between)
    (server : Stand server_side) (at next : Stand client_side) → ClientTransfers (Other Break) at.owner next.owner → Done (Other Break) at next
    → old.far ≡ Has_lost → CanTurn (Client (Other Break)) old new
    → Played moments start begun op listened old server at → Played moments start begun op listened new server next
near_is_broken moments start begun op listened old new server at next takes done lost can p =
    near_does moments start begun op (Other Break) tt listened old new server at next takes done can p (p.resets, lost)

-- ---- the control connection, of a server beside a data connection

-- it says all that it owes
pub saying : (channel : Channel) (v : Far) (u : List ℕ) → v.waiting ≡ None → Done (Says v.owed) (far_in channel v u) (far_in channel (record v { owed = [] }) u)
saying channel v u none =
    let h : SaysNext v.owed (far_at v u) (far_at (record v { owed = [] }) u) = far_saying v u none in
    let says : SaysNext v.owed (far_in channel v u) (far_in channel (record v { owed = [] }) u) = record {
      gives = record { count = h.gives.count; owed = h.gives.owed; gave = h.gives.gave; channel = refl };
      wrote = tt;
      left = refl;
      unheard = refl;
    } in
    says

-- it reads octets
pub reading : (channel : Channel) (v : Far) (octets : List ℕ) → Attends v → v.owed ≡ [] → Done (Read octets) (far_in channel v []) (far_in channel v octets)
reading channel v octets at owed =
    let h : ReadsNext octets (far_at v []) (far_at v octets) = far_reading v octets at owed in
    let reads : ReadsNext octets (far_in channel v []) (far_in channel v octets) = record {
      due = h.due;
      owner = refl;
      heard = refl;
      read = tt;
      ended = refl;
      unheard = refl;
      written = refl;
    } in
    reads

-- it hears one
pub hearing : (channel : Channel) (octets u w : List ℕ) (v new : Far) → Attends v → Done (Heard octets) (far_at v u) (far_at new w)
    → Done (Heard octets) (far_in channel v u) (far_in channel new w)
hearing channel octets u w v new at done =
    let h : HearsNext octets (far_at v u) (far_at new w) = done in
    let hears : HearsNext octets (far_in channel v u) (far_in channel new w) = record {
      hears = (h.hears.0, ap (λ q. seen q channel) (sym at.wants), h.hears.2);
      next = h.next;
      left = refl;
      written = refl;
    } in
    hears

-- a client that does not want to send sees nothing new in its data connection
unfoldable pub takes_only : Wants → Bool
takes_only Want.Send = false
takes_only wants = true

-- so it is what it was
pub seen_so : (wants : Wants) (channel : Channel) → takes_only wants ≡ true → channel ≡ seen wants channel
unfolding takes_only
seen_so Want.Send channel e = absurd (true≢false (sym e))
seen_so wants channel e = refl

-- of two that are true one is
pub first_is : (a b : Bool) → (a && b) ≡ true → a ≡ true
first_is true b e = refl
first_is false b e = absurd (true≢false (sym e))

-- and the other
pub other_is : (a b : Bool) → (a && b) ≡ true → b ≡ true
other_is true b e = e
other_is false b e = absurd (true≢false (sym e))

-- it may hear octets, and wants to send none before each
unfoldable pub can_take : Near → List ℕ → Bool
can_take n [] = true
can_take n (octet ∷ octets) = near.may_hear n && (takes_only (near.wants n) && can_take (near.hears_octet n octet) octets)

-- all of them are the first of so many
pub take_all : (octets : List ℕ) → octets ≡ take (length octets) octets
take_all [] = refl
take_all (octet ∷ octets) = ap (λ l. octet ∷ l) (take_all octets)

-- and none are left
pub drop_all : (octets : List ℕ) → [] ≡ drop (length octets) octets
drop_all [] = refl
drop_all (octet ∷ octets) = drop_all octets

module _ {kind : Kind} (moments : ℕ → ℕ) (start : Stand server_side) (begun : Stand client_side) (op : Op (List ℕ)) (listened : ℕ) (go come : List ℕ)
    (near_hold far_hold : Hold) where
  -- the server says all that it owes
  pub far_says : (up down : List ℕ) (channel : Channel) (v : Far) (client : Stand client_side) → v.waiting ≡ None
      → PlayedBy kind moments start begun op listened (lies up down go come near_hold far_hold) (far_in channel v []) client
      → PlayedBy kind moments start begun op listened (lies up (down ++ v.owed) go come near_hold far_hold) (far_in channel (record v { owed = [] }) []) client
  far_says up down channel v client none p =
      far_turn moments start begun op (Says v.owed) ((λ before. (refl, λ ports. ports)), λ old new done moment. tt) listened
      (lies up down go come near_hold far_hold) (lies up (down ++ v.owed) go come near_hold far_hold)
      (far_in channel v []) (far_in channel (record v { owed = [] }) []) client (tt, refl) (saying channel v [] none) refl p

  -- the client says all that it owes
  pub near_says : (up down : List ℕ) (server : Stand server_side) (channel : Channel) (n : Near)
      → PlayedBy kind moments start begun op listened (lies up down go come near_hold far_hold) server (near_in channel n [])
      → PlayedBy kind moments start begun op listened (lies (up ++ n.owed) down go come near_hold far_hold) server (near_in channel (record n { owed = [] }) [])
  near_says up down server channel n p =
      let new : Near = record n { owed = [] } in
      let says : SaysNext n.owed (near_in channel n []) (near_in channel new []) = record {
        gives = record {
          count = length n.owed;
          owed = take_all n.owed;
          gave = (ap (λ o. record n { owed = o }) (drop_all n.owed), refl);
          channel = refl;
        };
        wrote = tt;
        left = refl;
        unheard = refl;
      } in
      near_turn moments start begun op (Says n.owed) (tt, tt) listened (lies up down go come near_hold far_hold)
      (lies (up ++ n.owed) down go come near_hold far_hold)
      server (near_in channel n []) (near_in channel new []) (tt, refl) says refl p

  -- the client hears what it has read, octet by octet
  near_hears : (up down : List ℕ) (server : Stand server_side) (channel : Channel) (octets : List ℕ) (n : Near) → can_take n octets ≡ true
      → PlayedBy kind moments start begun op listened (lies up down go come near_hold far_hold) server (near_in channel n octets)
      → PlayedBy kind moments start begun op listened (lies up down go come near_hold far_hold) server (near_in channel (near.hears n octets) [])
  unfolding can_take
  near_hears up down server channel [] n can p = p
  near_hears up down server channel (octet ∷ octets) n can p =
      let next : Near = near.hears_octet n octet in
      let more = other_is (near.may_hear n) _ can in
      let may : (k : ℕ) → k < 1 → near.may_hear (near.hears n (take k (octet ∷ octets))) ≡ true =
      λ k less. subst (λ i. near.may_hear (near.hears n (take i (octet ∷ octets))) ≡ true) (zero_below k less) (first_is (near.may_hear n) _ can) in
      let hears : HearsNext (octet ∷ []) (near_in channel n (octet ∷ octets)) (near_in channel next octets) = record {
        hears = (
          (((λ calm. (refl, may)), (λ moved. absurd (moved refl))), inl refl),
          seen_so (near.wants n) channel (first_is (takes_only (near.wants n)) _ more),
          λ serves. absurd (true≢false (sym serves)),
        );
        next = refl;
        left = refl;
        written = refl;
      } in
      near_hears up down server channel octets next (other_is (takes_only (near.wants n)) _ more)
      (near_turn moments start begun op (Heard (octet ∷ [])) (tt, tt) listened (lies up down go come near_hold far_hold)
      (lies up down go come near_hold far_hold)
      server (near_in channel n (octet ∷ octets)) (near_in channel next octets) (tt, refl) hears refl p)
    where
      zero_below : (k : ℕ) → k < 1 → 0 ≡ k
      zero_below k less = omega (arith, less)

  -- the client reads all that is on its way, and hears it
  pub near_is_told : (up down : List ℕ) (server : Stand server_side) (channel : Channel) (n : Near) → n.owed ≡ [] → can_take n down ≡ true
      → PlayedBy kind moments start begun op listened (lies up down go come near_hold far_hold) server (near_in channel n [])
      → PlayedBy kind moments start begun op listened (lies up [] go come near_hold far_hold) server (near_in channel (near.hears n down) [])
  near_is_told up down server channel n owed can p =
      let reads : ReadsNext down (near_in channel n []) (near_in channel n down) = record {
        due = (owed, λ serves. absurd (true≢false (sym serves)));
        owner = refl;
        heard = refl;
        read = tt;
        ended = refl;
        unheard = refl;
        written = refl;
      } in
      near_hears up [] server channel down n can
      (near_turn moments start begun op (Read down) (tt, tt) listened (lies up down go come near_hold far_hold) (lies up [] go come near_hold far_hold)
      server (near_in channel n []) (near_in channel n down) (tt, refl) reads (sym (append-nil down), refl) p)

  -- the server reads a line that is on its way, and hears it
  pub far_obeys : (down octets : List ℕ) (channel : Channel) (v new : Far) (text : List ℕ) (asked : Command (List ℕ)) (client : Stand client_side) → Attends v
      → v.owed ≡ [] → may_hear v ≡ true → is_silent v.ear octets ≡ true → ear_out line_limit (ear_after v.ear octets) 10 ≡ line text ∷ []
      → ((read : Reading) → IsReading read → read text ≡ Asks asked)
      → new ≡ heard_line (Asks asked) (record v { ear = ear_step line_limit (ear_after v.ear octets) 10; context = record v.context { moment = 0 } })
      → PlayedBy kind moments start begun op listened (lies (octets ++ 10 ∷ []) down go come near_hold far_hold) (far_in channel v []) client
      → PlayedBy kind moments start begun op listened (lies [] down go come near_hold far_hold) (far_in channel new []) client
  far_obeys down octets channel v new text asked client at owed may silent said reads is p =
      let all : List ℕ = octets ++ 10 ∷ [] in
      let last : Far = record v { ear = ear_after v.ear octets } in
      let attends : Attends last = record { wants = at.wants; running = at.running; none_waits = at.none_waits } in
      let whole = lies all down go come near_hold far_hold in
      let rest = lies [] down go come near_hold far_hold in
      let read = far_turn moments start begun op (Read all) ((λ before. (refl, λ ports. ports)), λ old new done moment. tt) listened whole rest
      (far_in channel v []) (far_in channel v all) client
      (tt, refl) (reading channel v all at owed) (sym (append-nil all), refl) p in
      let heard = far_hears (λ v u. Attends v × PlayedBy kind moments start begun op listened rest (far_in channel v u) client)
      (λ octet more v new at done p. (
        at,
        far_turn moments start begun op (Heard (octet ∷ [])) ((λ before. (refl, λ ports. ports)), λ old new done moment. tt) listened rest rest
            (far_in channel v (octet ∷ more)) (far_in channel new more)
            client (tt, refl) (hearing channel (octet ∷ []) (octet ∷ more) more v new p.0 done) refl p.1,
      ))
      octets (10 ∷ []) v at may silent (at, read) in
      far_turn moments start begun op (Heard (10 ∷ [])) ((λ before. (refl, λ ports. ports)), λ old new done moment. tt) listened rest rest
      (far_in channel last (10 ∷ [])) (far_in channel new []) client
      (tt, refl) (hearing channel (10 ∷ []) (10 ∷ []) [] last new attends (far_ending last new text asked attends may said reads is)) refl heard.1
