-- Actions of two drives over control alone that can be done, one after another.
use Rattle.std.proofs.Common.{◌≡◌, inl, ℕ, ◌==◌, ◌<◌, Bool, true, false, true≢false, not, ◌&&◌, List, [], ◌∷◌, ◌++◌, length, take, drop, None, refl, sym, ap, subst, ◌∙◌, append-nil, arith}
use Rattle.ftp_command.specs.declared.command.Command.{Command}
use Rattle.ftp_ports.specs.Actions.{Action, Done, Heard, HearsNext, Other, Read, ReadsNext, Said as Says, Says as SaysNext, Stand}
use Rattle.ftp_ports.specs.Channel.{no_channel}
use Rattle.ftp_ports.specs.Machine.{seen, waits}
use Rattle.ftp_ports.specs.Side.{Side}
use Rattle.ftp_client_driver.specs.Side.{Begun, client_side}
use Rattle.ftp_client_model.specs.Calls as near
use Rattle.ftp_client_model.specs.View.{View as Near}
use Rattle.ftp_ends.specs.Ear.{Ear, ear_out, ear_step}
use Rattle.ftp_ends.specs.declared.link.Wants.{Wants}
use Rattle.ftp_ends.specs.declared.link.Wants.TheVariants as Want
use Rattle.ftp_nvt.specs.Lines.{NvtEvent, line}
use Rattle.ftp_operation.specs.declared.op.Op.{Op}
use Rattle.ftp_server_driver.specs.alone.Side.{HearsBy as HearsOctet, server_side}
use Rattle.ftp_server_model.specs.Calls as far
use Rattle.ftp_server_model.specs.Calls.{clock_step, control_step}
use Rattle.ftp_server_model.specs.Far.{Hears}
use Rattle.ftp_tree.specs.Change.{never_strayed}
use Rattle.ftp_server_model.specs.Machine.{IsReading, Reading, heard_events, heard_line, hears_octet, may_hear, waited}
use Rattle.ftp_server_model.specs.View.{View as Far, line_limit}
use Rattle.ftp_server_model.specs.declared.heard.HeardLine.TheVariants.{Asks}
use Rattle.ftp_server_model.specs.declared.session.Life.TheVariants as Lives
use Rattle.laws_drivers.specs.control.Alone.{ClientAttends, ClientIsCalm, IsAskingAlone, IsServingAlone, ServerAttends, ServerIsCalm}
use Rattle.laws_drivers.specs.control.Between.{Between, CanTurn, Client, Happened, Server, Turn, client_actions, nothing_yet, server_actions}
use Rattle.laws_drivers.specs.control.Over.{AreMidst, IsMidst}
use Rattle.laws_drivers.proofs.control.Ending.{Goes}
use Rattle.laws_drivers.proofs.control.Moments.{IsStill, still_is}
use Rattle.laws_drivers.proofs.control.Worlds.{wants_none, wants_owed}

-- one action more
pub goes_on : {side : Side} (Is : Action side → Type 0) (Keeps : (old new : side.End) → Type 0) (Stands : side.End → Type 0)
    (action : Action side) (before : List (Action side)) (start old new : Stand side) → Is action → Keeps old.owner new.owner → Stands new.owner → Done action old new
    → Goes Is Keeps Stands before start old → Goes Is Keeps Stands (action ∷ before) start new
goes_on Is Keeps Stands action before start old new is keeps stands done goes = ((old, goes.0, done), (goes.1, is, keeps, stands))

-- ---- stands without a data connection, of which neither reader nor writer tells

-- a server
abbrev pub far_at : Far → List ℕ → Stand server_side
far_at v unheard = record {
  owner = record { end = record { server = record { view = v; counts = record { refusals = 0; failures = never_strayed 0 } }; told = None }; channel = no_channel None };
  left = record { octets = None; ended = false };
  unheard = unheard;
  written = None;
}

-- a client
abbrev pub near_at : Near → List ℕ → Stand client_side
near_at n unheard = record {
  owner = record { end = record { view = n; refusals = 0 }; channel = no_channel None };
  left = record { octets = None; ended = false };
  unheard = unheard;
  written = None;
}

-- control octets alone lie between
abbrev pub between : (up down : List ℕ) → Between
between up down = record nothing_yet { control = record { to_server = up; to_client = down } }

-- a server that waits for octets of the control connection
pub record Attends (v : Far) : Type 0 where
  pub wants : far.wants v ≡ Want.Nothing
  pub running : v.session.life ≡ Lives.Running
  pub none_waits : v.waiting ≡ None

-- all of them are the first of so many
take_length : (owed : List ℕ) → owed ≡ take (length owed) owed
take_length [] = refl
take_length (octet ∷ owed) = ap (λ l. octet ∷ l) (take_length owed)

-- and none are left
drop_length : (owed : List ℕ) → [] ≡ drop (length owed) owed
drop_length [] = refl
drop_length (octet ∷ owed) = drop_length owed

-- what is owed is of no matter
still_owed : (v : Far) → IsStill v → IsStill (record v { owed = [] })
still_owed v still = record { still = still.still; wants = still.wants; closing = still.closing }

-- ---- what is seen of octets

-- nothing is said
unfoldable pub no_events : List NvtEvent → Bool
no_events [] = true
no_events (event ∷ events) = false

-- then there is no event
are_none : (events : List NvtEvent) → no_events events ≡ true → events ≡ []
unfolding no_events
are_none [] e = refl
are_none (event ∷ events) e = absurd (true≢false (sym e))

-- of two that are true the first is
left_is : (a b : Bool) → (a && b) ≡ true → a ≡ true
left_is true b e = refl
left_is false b e = absurd (true≢false (sym e))

-- and the second
right_is : (a b : Bool) → (a && b) ≡ true → b ≡ true
right_is true b e = e
right_is false b e = absurd (true≢false (sym e))

-- octets of a line before its end: nothing is said of them
unfoldable pub is_silent : Ear → List ℕ → Bool
is_silent e [] = true
is_silent e (octet ∷ octets) = not (octet == 10) && (no_events (ear_out line_limit e octet) && is_silent (ear_step line_limit e octet) octets)

-- what the ear is after them
unfoldable pub ear_after : Ear → List ℕ → Ear
ear_after e [] = e
ear_after e (octet ∷ octets) = ear_after (ear_step line_limit e octet) octets

-- nothing is wanted
unfoldable pub is_nothing : Wants → Bool
is_nothing Want.Nothing = true
is_nothing wants = false

-- that is what is wanted
nothing_is : (wants : Wants) → is_nothing wants ≡ true → wants ≡ Want.Nothing
unfolding is_nothing
nothing_is Want.Nothing e = refl
nothing_is wants e = absurd (true≢false (sym e))

-- a client may hear octets, and wants nothing after each
unfoldable pub can_hear : Near → List ℕ → Bool
can_hear n [] = true
can_hear n (octet ∷ octets) = near.may_hear n && (is_nothing (near.wants (near.hears_octet n octet)) && can_hear (near.hears_octet n octet) octets)

-- ---- what a server's actions do

-- it says all that it owes
pub far_saying : (v : Far) (u : List ℕ) → v.waiting ≡ None → Done (Says v.owed) (far_at v u) (far_at (record v { owed = [] }) u)
far_saying v u none =
    let new : Far = record v { owed = [] } in
    let is : new ≡ waited v.waiting (control_step (length v.owed) v) =
    ap (λ o. record v { owed = o }) (drop_length v.owed) ∙ ap (λ q. waited q (control_step (length v.owed) v)) (sym none) in
    let says : SaysNext v.owed (far_at v u) (far_at new u) = record {
      gives = record {
        count = length v.owed;
        owed = take_length v.owed;
        gave = (
          record { done = λ calm. is; failed = λ course moved. absurd (moved refl); counted = ((0, omega arith, refl), ((0, omega arith, refl), omega arith)) },
          refl,
        );
        channel = refl;
      };
      wrote = tt;
      left = refl;
      unheard = refl;
    } in
    says

-- it reads octets
pub far_reading : (v : Far) (octets : List ℕ) → Attends v → v.owed ≡ [] → Done (Read octets) (far_at v []) (far_at v octets)
far_reading v octets at owed =
    let reads : ReadsNext octets (far_at v []) (far_at v octets) = record {
      due = (owed, λ serves. ap waits at.wants);
      owner = refl;
      heard = refl;
      read = tt;
      ended = refl;
      unheard = refl;
      written = refl;
    } in
    reads

-- what it hears of an octet that ends no line
silent_octet : (read : Reading) (octet : ℕ) (v : Far) → ear_out line_limit v.ear octet ≡ []
    → record v { ear = ear_step line_limit v.ear octet } ≡ hears_octet read v octet
unfolding hears_octet
silent_octet read octet v none = ap (λ events. heard_events read events (record v { ear = ear_step line_limit v.ear octet })) (sym none)

-- it hears such an octet
far_hearing : (octet : ℕ) (rest : List ℕ) (v : Far) → Attends v → may_hear v ≡ true → (octet == 10) ≡ false → ear_out line_limit v.ear octet ≡ []
    → Done (Heard (octet ∷ [])) (far_at v (octet ∷ rest)) (far_at (record v { ear = ear_step line_limit v.ear octet }) rest)
far_hearing octet rest v at may ends none =
    let next : Far = record v { ear = ear_step line_limit v.ear octet } in
    let calls : Hears (octet ∷ []) (far_at v []).owner.end.server (far_at next []).owner.end.server = λ read reads. record {
      done = λ calm. silent_octet read octet v none;
      may = λ calm. (may, tt);
      failed = λ course moved. absurd (moved refl);
      counted = ((0, omega arith, refl), ((0, omega arith, refl), omega arith));
    } in
    let hears : HearsNext (octet ∷ []) (far_at v (octet ∷ rest)) (far_at next rest) = record {
      hears = (
        (
          omega arith,
          subst (λ e. HearsOctet e (octet ∷ []) (far_at v []).owner.end (far_at next []).owner.end) (sym ends) (calls, refl),
        ),
        ap (λ q. seen q (no_channel None)) (sym at.wants),
        λ serves. ap waits at.wants,
      );
      next = refl;
      left = refl;
      written = refl;
    } in
    hears

-- one that is no line's end
is_not : (e : Bool) → not e ≡ true → e ≡ false
is_not true e = absurd (true≢false (sym e))
is_not false e = refl

-- something is so behind each octet of a line before its end
pub far_hears : (P : (v : Far) (unheard : List ℕ) → Type 0)
    → ((octet : ℕ) (rest : List ℕ) (v new : Far) → Attends new → Done (Heard (octet ∷ [])) (far_at v (octet ∷ rest)) (far_at new rest) → P v (octet ∷ rest) → P new rest)
    → (octets rest : List ℕ) (v : Far) → Attends v → may_hear v ≡ true → is_silent v.ear octets ≡ true → P v (octets ++ rest)
    → P (record v { ear = ear_after v.ear octets }) rest
unfolding is_silent ear_after
far_hears P on [] rest v at may silent p = p
far_hears P on (octet ∷ octets) rest v at may silent p =
    let next : Far = record v { ear = ear_step line_limit v.ear octet } in
    let ends : (octet == 10) ≡ false = is_not (octet == 10) (left_is (not (octet == 10)) _ silent) in
    let more = right_is (not (octet == 10)) _ silent in
    let none = are_none (ear_out line_limit v.ear octet) (left_is (no_events (ear_out line_limit v.ear octet)) _ more) in
    let there : Attends next = record { wants = at.wants; running = at.running; none_waits = at.none_waits } in
    far_hears P on octets rest next there may (right_is (no_events (ear_out line_limit v.ear octet)) _ more)
    (on octet (octets ++ rest) v next there (far_hearing octet (octets ++ rest) v at may ends none) p)

-- what it hears at the end of a line
line_octet : (read : Reading) (v : Far) (text : List ℕ) (asked : Command (List ℕ)) → ear_out line_limit v.ear 10 ≡ line text ∷ [] → read text ≡ Asks asked
    → heard_line (Asks asked) (record v { ear = ear_step line_limit v.ear 10 }) ≡ hears_octet read v 10
unfolding hears_octet
line_octet read v text asked said reads =
    let w : Far = record v { ear = ear_step line_limit v.ear 10 } in
    sym (ap (λ events. heard_events read events w) said ∙ ap (λ h. heard_line h w) reads)

-- it hears the end of a line
pub far_ending : (v new : Far) (text : List ℕ) (asked : Command (List ℕ)) → Attends v → may_hear v ≡ true
    → ear_out line_limit v.ear 10 ≡ line text ∷ [] → ((read : Reading) → IsReading read → read text ≡ Asks asked)
    → new ≡ heard_line (Asks asked) (record v { ear = ear_step line_limit v.ear 10; context = record v.context { moment = 0 } })
    → Done (Heard (10 ∷ [])) (far_at v (10 ∷ [])) (far_at new [])
far_ending v new text asked at may said reads is =
    let told : Far = clock_step 0 v in
    let calls : Hears (10 ∷ []) (far_at told []).owner.end.server (far_at new []).owner.end.server = λ read reading. record {
      done = λ calm. is ∙ line_octet read told text asked said (reads read reading);
      may = λ calm. (may, tt);
      failed = λ course moved. absurd (moved refl);
      counted = ((0, omega arith, refl), ((0, omega arith, refl), omega arith));
    } in
    let hears : HearsNext (10 ∷ []) (far_at v (10 ∷ [])) (far_at new []) = record {
      hears = (
        (
          omega arith,
          (
            0,
            (far_at told []).owner.end.server,
            tt,
            record {
              done = λ calm. ap (λ q. waited q told) (sym at.none_waits);
              failed = λ course moved. absurd (moved refl);
              counted = ((0, omega arith, refl), ((0, omega arith, refl), omega arith));
            },
            calls,
          ),
        ),
        ap (λ q. seen q (no_channel None)) (sym at.wants),
        λ serves. ap waits at.wants,
      );
      next = refl;
      left = refl;
      written = refl;
    } in
    hears

-- ---- actions of both

-- some actions led there: the client began an operation, and only heard, said and read since
pub record Plays (start : Stand server_side) (begun : Stand client_side) (op : Op (List ℕ)) (up : List ℕ) (v : Far) (unheard : List ℕ) (down : List ℕ)
    (n : Near) (unheard_near : List ℕ) : Type 0 where
  pub turns : List Turn
  pub happened : Happened turns (between up down)
  pub far_goes : Goes IsServingAlone ServerIsCalm ServerAttends (server_actions turns) start (far_at v unheard)
  pub later : List Turn
  pub turns_are : turns ≡ later ++ Client (Other (Begun op)) ∷ []
  pub midst : List (Action client_side)
  pub are : AreMidst midst
  pub later_midst : client_actions later ≡ midst
  pub client_is : client_actions turns ≡ midst ++ Other (Begun op) ∷ []
  pub near_goes : Goes IsAskingAlone ClientIsCalm ClientAttends midst begun (near_at n unheard_near)

module _ (start : Stand server_side) (begun : Stand client_side) (op : Op (List ℕ)) where
  -- an action of the server
  pub far_turn : (action : Action server_side) → IsServingAlone action → (up down next_up next_down : List ℕ) (v new : Far) (u next : List ℕ) (n : Near) (w : List ℕ)
      → Attends new → Done action (far_at v u) (far_at new next) → CanTurn (Server action) (between up down) (between next_up next_down)
      → Plays start begun op up v u down n w → Plays start begun op next_up new next next_down n w
  far_turn action is up down next_up next_down v new u next n w at done can p =
      let attends : ServerAttends (far_at new next).owner = record { wants = at.wants; running = at.running; none_waits = at.none_waits } in
      record {
        turns = Server action ∷ p.turns;
        happened = (between up down, p.happened, can);
        far_goes = goes_on IsServingAlone ServerIsCalm ServerAttends action (server_actions p.turns) start (far_at v u) (far_at new next) is refl attends done p.far_goes;
        later = Server action ∷ p.later;
        turns_are = ap (λ l. Server action ∷ l) p.turns_are;
        midst = p.midst;
        are = p.are;
        later_midst = p.later_midst;
        client_is = p.client_is;
        near_goes = p.near_goes;
      }

  -- an action of the client
  pub near_turn : (action : Action client_side) → IsAskingAlone action → IsMidst action → (up down next_up next_down : List ℕ) (v : Far) (u : List ℕ) (n new : Near)
      (w next : List ℕ) → near.wants new ≡ Want.Nothing → Done action (near_at n w) (near_at new next)
      → CanTurn (Client action) (between up down) (between next_up next_down)
      → Plays start begun op up v u down n w → Plays start begun op next_up v u next_down new next
  near_turn action is amid up down next_up next_down v u n new w next wants done can p = record {
    turns = Client action ∷ p.turns;
    happened = (between up down, p.happened, can);
    far_goes = p.far_goes;
    later = Client action ∷ p.later;
    turns_are = ap (λ l. Client action ∷ l) p.turns_are;
    midst = action ∷ p.midst;
    are = (p.are, amid);
    later_midst = ap (λ l. action ∷ l) p.later_midst;
    client_is = ap (λ l. action ∷ l) p.client_is;
    near_goes = goes_on IsAskingAlone ClientIsCalm ClientAttends action p.midst begun (near_at n w) (near_at new next) is refl wants done p.near_goes;
  }

  -- the server says all that it owes
  pub far_says : (up : List ℕ) (v : Far) (u down : List ℕ) (n : Near) (w : List ℕ) → Attends v → Plays start begun op up v u down n w
      → Plays start begun op up (record v { owed = [] }) u (down ++ v.owed) n w
  far_says up v u down n w at p =
      let new : Far = record v { owed = [] } in
      let there : Attends new = record {
        wants = wants_none (record v { owed = [] }) (still_owed v (still_is v at.wants)) at.running;
        running = at.running;
        none_waits = at.none_waits;
      } in
      far_turn (Says v.owed) tt up down up (down ++ v.owed) v new u u n w there (far_saying v u at.none_waits) refl p

  -- the client reads all that is on its way
  pub near_reads : (up : List ℕ) (v : Far) (u down : List ℕ) (n : Near) → near.wants n ≡ Want.Nothing → n.owed ≡ []
      → Plays start begun op up v u down n [] → Plays start begun op up v u [] n down
  near_reads up v u down n wants owed p =
      let reads : ReadsNext down (near_at n []) (near_at n down) = record {
        due = (owed, λ serves. absurd (true≢false (sym serves)));
        owner = refl;
        heard = refl;
        read = tt;
        ended = refl;
        unheard = refl;
        written = refl;
      } in
      near_turn (Read down) tt tt up down up [] v u n n [] down wants reads (sym (append-nil down), refl) p

  -- and hears it, octet by octet
  pub near_hears : (up : List ℕ) (v : Far) (u down : List ℕ) (octets : List ℕ) (n : Near) → near.wants n ≡ Want.Nothing → can_hear n octets ≡ true
      → Plays start begun op up v u down n octets → Plays start begun op up v u down (near.hears n octets) []
  unfolding can_hear
  near_hears up v u down [] n wants can p = p
  near_hears up v u down (octet ∷ octets) n wants can p =
      let next : Near = near.hears_octet n octet in
      let more = right_is (near.may_hear n) _ can in
      let wants_next : near.wants next ≡ Want.Nothing = nothing_is (near.wants next) (left_is (is_nothing (near.wants next)) (can_hear next octets) more) in
      let may : (k : ℕ) → k < 1 → near.may_hear (near.hears n (take k (octet ∷ octets))) ≡ true =
      λ k less. subst (λ i. near.may_hear (near.hears n (take i (octet ∷ octets))) ≡ true) (zero_below k less) (left_is (near.may_hear n) _ can) in
      let hears : HearsNext (octet ∷ []) (near_at n (octet ∷ octets)) (near_at next octets) = record {
        hears = (
          (((λ calm. (refl, may)), (λ moved. absurd (moved refl))), inl refl),
          ap (λ q. seen q (no_channel None)) (sym wants),
          λ serves. absurd (true≢false (sym serves)),
        );
        next = refl;
        left = refl;
        written = refl;
      } in
      near_hears up v u down octets next wants_next (right_is (is_nothing (near.wants next)) (can_hear next octets) more)
      (near_turn (Heard (octet ∷ [])) tt tt up down up down v u n next (octet ∷ octets) octets wants_next hears refl p)
    where
      zero_below : (k : ℕ) → k < 1 → 0 ≡ k
      zero_below k less = omega (arith, less)

  -- the client says all that it owes
  pub near_says : (up : List ℕ) (v : Far) (u down : List ℕ) (n : Near) (w : List ℕ) → near.wants n ≡ Want.Nothing → Plays start begun op up v u down n w
      → Plays start begun op (up ++ n.owed) v u down (record n { owed = [] }) w
  near_says up v u down n w wants p =
      let new : Near = record n { owed = [] } in
      let says : SaysNext n.owed (near_at n w) (near_at new w) = record {
        gives = record {
          count = length n.owed;
          owed = take_length n.owed;
          gave = (ap (λ o. record n { owed = o }) (drop_length n.owed), refl);
          channel = refl;
        };
        wrote = tt;
        left = refl;
        unheard = refl;
      } in
      near_turn (Says n.owed) tt tt up down (up ++ n.owed) down v u n new w w (wants_owed [] n ∙ wants) says refl p

  -- the server reads all that is on its way
  pub far_reads : (up : List ℕ) (v : Far) (down : List ℕ) (n : Near) (w : List ℕ) → Attends v → v.owed ≡ [] → Plays start begun op up v [] down n w
      → Plays start begun op [] v up down n w
  far_reads up v down n w at owed p = far_turn (Read up) tt up down [] down v v [] up n w at (far_reading v up at owed) (sym (append-nil up), refl) p

  -- it hears a line: its octets before the end, and that
  pub far_obeys : (up : List ℕ) (down : List ℕ) (n : Near) (w : List ℕ) (octets : List ℕ) (v new : Far) (text : List ℕ) (asked : Command (List ℕ)) → Attends v
      → may_hear v ≡ true → is_silent v.ear octets ≡ true → ear_out line_limit (ear_after v.ear octets) 10 ≡ line text ∷ []
      → ((read : Reading) → IsReading read → read text ≡ Asks asked)
      → new ≡ heard_line (Asks asked) (record v { ear = ear_step line_limit (ear_after v.ear octets) 10; context = record v.context { moment = 0 } })
      → Attends new → Plays start begun op up v (octets ++ 10 ∷ []) down n w → Plays start begun op up new [] down n w
  far_obeys up down n w octets v new text asked at may silent said reads is there p =
      let last : Far = record v { ear = ear_after v.ear octets } in
      let attends : Attends last = record { wants = at.wants; running = at.running; none_waits = at.none_waits } in
      let heard = far_hears (λ v u. Plays start begun op up v u down n w)
      (λ octet rest v new at done p. far_turn (Heard (octet ∷ [])) tt up down up down v new (octet ∷ rest) rest n w at done refl p) octets (10 ∷ []) v at may silent p
      in
      far_turn (Heard (10 ∷ [])) tt up down up down last new (10 ∷ []) [] n w there (far_ending last new text asked attends may said reads is) refl heard
