-- What an end did beside a data connection in memory can happen in that order.
use Rattle.std.proofs.Common.{◌≡◌, ◌∙◌, ℕ, List, [], ◌∷◌, ◌++◌, Option, Some, None, refl, sym, ap, subst, inl, append_assoc, append-nil}
use Rattle.std.specs.Prelude.{map}
use Rattle.std.proofs.lemmas.List.{append_cancel_right}
use Rattle.ftp_ports.proofs.Channels.{adds_then}
use Rattle.ftp_ports.specs.Asking.{Adds, Asked}
use Rattle.ftp_ports.specs.Courses.{asked_by, asked_in, move_in}
use Rattle.ftp_ports.specs.Actions.{Action, Done, Ended, Heard, Led, Other, Read, Said, Stand, read_by, read_in, said_by, said_in}
use Rattle.ftp_ports.specs.Channel as channels
use Rattle.ftp_ports.specs.Channel.{Channel, Move, MovesChannel, with_rest}
use Rattle.ftp_ports.specs.Machine.{Held, Machine, move_of, side_of}
use Rattle.laws_drivers.specs.control.Between.{Between, Can, Ways, Who}
use Rattle.laws_drivers.specs.control.Touches as touches
use Rattle.laws_drivers.specs.control.Touches.{Touch, touch_in, touch_of}
use Rattle.ftp_pair_memory.specs.streams.LinkState.{LinkState, IsAtLinkState, LinkRan, between_by, called_by}
use Rattle.ftp_pair_memory.specs.streams.Claims.{HappensAtPorts, ways_at}
use Rattle.ftp_pair_memory.specs.streams.Order.{CameAlone, CanGo, CountedAlone, WentAlone}
use Rattle.ftp_pair_memory.specs.streams.Plain.{plain, quiet}
use Rattle.ftp_pair_memory.proofs.streams.LinkStates.{Heeds, IsKnown, alike, counts_same, heeds, host_same, heeds_on, known_at, known_on, ran_split}
use Rattle.ftp_pair_memory.proofs.streams.LinkStates.{same_link_state}
use Rattle.ftp_pair_memory.proofs.streams.Coming.{came}
use Rattle.ftp_pair_memory.proofs.streams.Counting.{counted}
use Rattle.ftp_pair_memory.proofs.streams.Finding.{found}
use Rattle.ftp_pair_memory.proofs.streams.Lying.{reads_at, says_at}
use Rattle.ftp_pair_memory.proofs.streams.Plainly.{led_plain, touch_plain}

-- ---- what was asked

none_asked : (old new : Option (List Asked)) → new ≡ old → Adds old new []
none_asked None new same = subst (λ n. Adds None n []) (sym same) tt
none_asked (Some before) new same = subst (λ n. Adds (Some before) n []) (sym same) refl

move_asked : (move : Move) (old new : Channel) → MovesChannel move old new → Adds old.asked new.asked (asked_by move)
move_asked channels.Stays old new same = none_asked old.asked new.asked (ap (λ l. l.asked) same)
move_asked (channels.Waits lost) old new waited = waited.asked
move_asked (channels.Reads octets) old new read = none_asked old.asked new.asked read.asked
move_asked (channels.Writes octets) old new wrote = none_asked old.asked new.asked wrote.asked
move_asked (channels.Gives octets rest) old new gave = none_asked old.asked new.asked (ap (λ l. l.asked) gave.0)
move_asked channels.Notes old new same = none_asked old.asked new.asked (ap (λ l. l.asked) same)
move_asked (channels.Takes octets) old new took = none_asked old.asked new.asked (ap (λ l. l.asked) took.1)
move_asked channels.Fails old new failed = none_asked old.asked new.asked (ap (λ l. l.asked) failed.0)
move_asked channels.Ends old new end = none_asked old.asked new.asked (ap (λ l. l.asked) end.0)
move_asked channels.Breaks old new same = none_asked old.asked new.asked (ap (λ l. l.asked) same)
move_asked channels.Stops old new stop = none_asked old.asked new.asked (ap (λ l. l.asked) stop.0)
move_asked (channels.Asks asked) old new asks = asks.0
move_asked (channels.Opens host asked at_first so_far rest) old new had = had.adds
move_asked (channels.Leaves asked) old new left = left.adds

-- all that was told after what was told before
told_after : (old new : Option (List Asked)) (header asked more : List Asked) → old ≡ Some header → new ≡ Some (asked ++ header) → Adds old new more
    → asked ≡ more
told_after old new header asked more before after adds =
    append_cancel_right asked more header (subst (λ n. Adds (Some header) n more) after (subst (λ o. Adds o new more) before adds))

-- it is seen whether there is more to give
notes : (old new : Channel) → new ≡ with_rest new.rest old → MovesChannel channels.Notes old new
notes old new same = same

-- no control octets move
beside : (who : Who) (peer : LinkState) (touch : Touch) (mid now : LinkState)
    → ((control : Ways) → CanGo who touch (between_by who mid peer control) (between_by who now peer control))
    → (up down : List ℕ) → CanGo who touch (between_by who mid peer (ways_at who down up)) (between_by who now peer (ways_at who down (up ++ [])))
beside who peer touch mid now can up down =
    subst (λ l. CanGo who touch (between_by who mid peer (ways_at who down up)) (between_by who now peer (ways_at who down l))) (sym (append-nil up))
    (can (ways_at who down up))

-- the data connection stays as it was, but for what is seen of what is to be given
seen_before : (old new : Channel) (known last now : LinkState) → new ≡ with_rest new.rest old → last ≡ known → IsAtLinkState new last now → IsAtLinkState old known now
seen_before old new known last now same ran is = alike old (with_rest new.rest old) known now refl refl (λ e. (refl, refl))
    (subst (λ l. IsAtLinkState l known now) same (subst (λ k. IsAtLinkState new k now) ran is))

module _ {end : Machine} where
  -- how an action moves the data connection
  moves : (action : Action (side_of end)) (old new : Stand (side_of end)) → Done action old new → MovesChannel (move_in move_of action) old.owner.channel new.owner.channel
  moves (Heard octets) old new done = done.hears.1 ∙ ap (λ (l : Channel). with_rest l.rest old.owner.channel) (sym done.hears.1)
  moves (Said octets) old new done = done.gives.channel
  moves (Read octets) old new done = ap (λ (h : Held end.Here). h.channel) done.owner
  moves Ended old new done = done.cut.1 ∙ ap (λ (l : Channel). with_rest l.rest old.owner.channel) (sym done.cut.1)
  moves (Other call) old new done = done.0.1

  pub actions_asked : (actions : List (Action (side_of end))) (old new : Stand (side_of end)) → Led actions old new
      → Adds old.owner.channel.asked new.owner.channel.asked (asked_in move_of actions)
  actions_asked [] old new led = none_asked old.owner.channel.asked new.owner.channel.asked (ap (λ (s : Stand (side_of end)). s.owner.channel.asked) led)
  actions_asked (action ∷ before) old new led =
      adds_then old.owner.channel.asked led.0.owner.channel.asked new.owner.channel.asked (asked_in move_of before) (asked_by (move_in move_of action))
      (actions_asked before old led.0 led.1) (move_asked (move_in move_of action) led.0.owner.channel new.owner.channel (moves action led.0 new led.2))

  -- what is left and what was written is known after actions
  known_after : (actions : List (Action (side_of end))) (old new : Stand (side_of end)) (led : Led actions old new) (first last : LinkState)
      → LinkRan first (asked_in move_of actions) last → IsKnown old.owner.channel → IsKnown new.owner.channel
  known_after [] old new led first last ran known = subst (λ (s : Stand (side_of end)). IsKnown s.owner.channel) (sym led) known
  known_after (action ∷ before) old new led first last ran known =
      let move = move_in move_of action in
      let parts = ran_split (asked_by move) (asked_in move_of before) first last ran in
      known_on move led.0.owner.channel new.owner.channel parts.0 last (moves action led.0 new led.2) parts.2
      (known_after before old led.0 led.1 first parts.0 parts.1 known)

  module _ (who : Who) (peer : LinkState) where
    -- the link state before an action, and that it can happen from there, where `up` was written to the peer and `down` is to be read after it
    record Stepped (action : Action (side_of end)) (old : Channel) (known now : LinkState) : Type 0 where
      mid : LinkState
      is_at : IsAtLinkState old known mid
      can : (up down : List ℕ)
          → CanGo who (touch_in action) (between_by who mid peer (ways_at who (read_by action ++ down) up))
          (between_by who now peer (ways_at who down (up ++ said_by action)))

    step : (action : Action (side_of end)) (old new : Stand (side_of end)) (known last now : LinkState) → Done action old new
        → LinkRan known (asked_by (move_in move_of action)) last → IsKnown old.owner.channel → Heeds known peer
        → IsAtLinkState new.owner.channel last now
        → Stepped action old.owner.channel known now
    step (Heard octets) old new known last now done ran is_known heeds is = record {
      mid = now;
      is_at = seen_before old.owner.channel new.owner.channel known last now (moves (Heard octets) old new done) ran is;
      can = beside who peer touches.None_of_it now now (λ control. inl refl);
    }
    step (Said octets) old new known last now done ran is_known heeds is = record {
      mid = now;
      is_at = subst (λ l. IsAtLinkState l known now) done.gives.channel (subst (λ k. IsAtLinkState new.owner.channel k now) ran is);
      can = λ up down. inl (says_at who now (called_by now.dialled peer) down up octets);
    }
    step (Read octets) old new known last now done ran is_known heeds is = record {
      mid = now;
      is_at = subst (λ (h : Held end.Here). IsAtLinkState h.channel known now) done.owner (subst (λ k. IsAtLinkState new.owner.channel k now) ran is);
      can = λ up down. let first = between_by who now peer (ways_at who (octets ++ down) up) in
          inl (subst (λ l. Can who (touches.Reads octets) first (between_by who now peer (ways_at who down l))) (sym (append-nil up))
          (reads_at who now (called_by now.dialled peer) down up octets));
    }
    step Ended old new known last now done ran is_known heeds is = record {
      mid = now;
      is_at = seen_before old.owner.channel new.owner.channel known last now (moves Ended old new done) ran is;
      can = beside who peer touches.Parts now now (λ control. inl refl);
    }
    step (Other call) old new known last now done ran is_known heeds is =
        let one = found who peer end call old.owner new.owner known last now done.0 ran is_known heeds is in
        record { mid = one.mid; is_at = one.is_at; can = beside who peer (touch_of call) one.mid now one.can }

    went : (actions : List (Action (side_of end))) (old new : Stand (side_of end)) (led : Led actions old new) (first last own now : LinkState)
        → LinkRan first (asked_in move_of actions) last → IsKnown old.owner.channel → Heeds first peer
        → IsAtLinkState old.owner.channel first own → IsAtLinkState new.owner.channel last now
        → (up down : List ℕ)
        → WentAlone who (map plain actions) (between_by who own peer (ways_at who (read_in actions ++ down) up))
        (between_by who now peer (ways_at who down (up ++ said_in actions)))
    went [] old new led first last own now ran is_known heeded is_at is up down =
        let same = same_link_state old.owner.channel first now own (subst (λ (s : Stand (side_of end)). IsAtLinkState s.owner.channel first now) led
        (subst (λ k. IsAtLinkState new.owner.channel k now) ran is)) is_at in
        ap (λ b. between_by who b peer (ways_at who down (up ++ []))) same ∙ ap (λ l. between_by who own peer (ways_at who down l)) (append-nil up)
    went (action ∷ before) old new led first last own now ran is_known heeded is_at is up down =
        let mid = led.0 in
        let move = move_in move_of action in
        let parts = ran_split (asked_by move) (asked_in move_of before) first last ran in
        let known = known_after before old mid led.1 first parts.0 parts.1 is_known in
        let heeds_mid = heeds_on (asked_in move_of before) first parts.0 peer parts.1 heeded in
        let one = step action mid new parts.0 last now led.2 parts.2 known heeds_mid is in
        let earlier = went before old mid led.1 first parts.0 own one.mid parts.1 is_known heeded is_at one.is_at up (read_by action ++ down) in
        let between = between_by who one.mid peer (ways_at who (read_by action ++ down) (up ++ said_in before)) in
        let there : List ℕ → Between = λ l. between_by who now peer (ways_at who down l) in
        let can : CanGo who (touch_in action) between (there (up ++ (said_in before ++ said_by action))) =
        subst (λ l. CanGo who (touch_in action) between (there l)) {y = up ++ (said_in before ++ said_by action)} (append_assoc up (said_in before) (said_by action))
        (one.can (up ++ said_in before) down) in (
          between,
          subst (λ l. WentAlone who (map plain before) (between_by who own peer (ways_at who l up)) between)
              (sym (append_assoc (read_in before) (read_by action) down)) earlier,
          subst (λ t. CanGo who t between (there (up ++ (said_in before ++ said_by action)))) {y = touch_in (plain action)}
              (sym {a = touch_in (plain action)} (touch_plain action)) can,
        )

-- what either end did can happen in that order
pub happens : (who : Who) (end : Machine) → HappensAtPorts who end
happens who end actions old new first last own now peer header asked up down led at at_last before after ran knows =
    let all = told_after old.channel.asked new.channel.asked header asked (asked_in move_of actions) before after (actions_asked actions (quiet old) (quiet new) led) in
    let ran_all = subst (λ l. LinkRan first l last) all ran in
    record {
      led = led_plain actions old new led;
      went = went who peer actions (quiet old) (quiet new) led first last own now ran_all (known_at old.channel first own at)
          (heeds old.channel first own peer at knows) at at_last up down;
      counted = subst (λ n. CountedAlone (map plain actions) n now.listens) (sym (counts_same old.channel first own at))
          (subst (CountedAlone (map plain actions) first.listens) (sym (counts_same new.channel last now at_last))
          (counted actions (quiet old) (quiet new) led first last ran_all));
      came = subst (λ h. CameAlone h (map plain actions)) (sym (host_same old.channel first own at)) (came actions (quiet old) (quiet new) led first last ran_all).0;
      host = host_same new.channel last now at_last ∙ (came actions (quiet old) (quiet new) led first last ran_all).1 ∙ sym (host_same old.channel first own at);
    }
