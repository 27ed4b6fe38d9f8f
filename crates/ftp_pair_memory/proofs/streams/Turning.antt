-- Some turns of an end between two ends in memory: what it did can happen, from what lay between them to what lies there.
use Rattle.std.proofs.Common.{◌≡◌, ℕ, ◌+◌, ◌%◌, ◌<◌, Bool, true, false, true≢false, List, [], ◌∷◌, ◌++◌, length, length-append, map, Option, None}
use Rattle.std.proofs.Common.{Some, is_some, refl, sym, ap, subst, ◌∙◌, arith}
use Rattle.ftp_endpoint.specs.declared.host.Host.{Host}
use Rattle.ftp_ports.specs.Asking as asking
use Rattle.ftp_ports.specs.Asking.{Asked}
use Rattle.ftp_ports.specs.Carrying.{told_by}
use Rattle.ftp_ports.specs.Courses.{asked_in}
use Rattle.ftp_ports.specs.Actions.{Action, Led, read_in, said_in}
use Rattle.ftp_ports.specs.Channel.{Channel}
use Rattle.ftp_ports.specs.Machine.{Machine, held, move_of, side_of}
use Rattle.ftp_driver.specs.Standing.{channel_at}
use Rattle.laws_drivers.specs.control.Between.{Awaits, Between, Far, Has, Has_ended, Has_lost, Has_not, Hold, IsOver, Is_called, Near, Ways, Who}
use Rattle.ftp_pair_memory.specs.streams.LinkState.{LinkState, IsAtLinkState, IsSeen, LinkRan, between_at, between_by, called_by, hold_by, mark}
use Rattle.ftp_pair_memory.specs.streams.Claims.{Happening, ways_at}
use Rattle.ftp_pair_memory.specs.streams.PortTables.{asked_of}
use Rattle.ftp_pair_memory.specs.streams.PortTableMoves.{link_state_at, header, hold_at, is_ended, is_out, known_by, left_in, shown_end, shown_hold, went_in}
use Rattle.ftp_pair_memory.specs.streams.MemoryEnds.{KnowsHolder, IsKnown, Meets, link_state_of, between_both, came_of_wire, listens_of, mark_of_wire}
use Rattle.ftp_pair_memory.specs.streams.MemoryEnds.{octets_of, of_two, plain_in, told_in, told_channel}
use Rattle.ftp_pair_memory.specs.streams.Order.{CameAlone, CountedAlone, WentAlone}
use Rattle.ftp_pair_memory.specs.streams.Plain.{plain, plain_channel, quiet}
use Rattle.ftp_pair_memory.specs.declared.streams.port_table.Stay.{Stay}
use Rattle.ftp_pair_memory.specs.declared.streams.port_table.Stay.TheVariants as Stays
use Rattle.ftp_pair_memory.specs.declared.streams.memory_end.MemoryEnd.{MemoryEnd}
use Rattle.ftp_pair_memory.specs.declared.streams.wire.Wire.{Wire}
use Rattle.ftp_pair_memory.proofs.streams.Happening.{actions_asked, happens}
use Rattle.ftp_pair_memory.proofs.streams.Lifting.{plain_is}
use Rattle.ftp_pair_memory.proofs.streams.Noting.{ran_since}

-- ---- how a turn found it is told by what was noted first

tail_of : {A : Type 0} → List A → List A
tail_of [] = []
tail_of (x ∷ xs) = xs

head_or : {A : Type 0} → A → List A → A
head_or other [] = other
head_or other (x ∷ xs) = x

-- two lists with as many behind them
ends_same : {A : Type 0} (xs ys last end : List A) → length last ≡ length end → xs ++ last ≡ ys ++ end → (xs ≡ ys) × (last ≡ end)
unfolding tail_of head_or
ends_same [] [] last end same e = (refl, e)
ends_same [] (y ∷ ys) last end same e = absurd (omega (arith, same, ap length e, length-append ys end))
ends_same (x ∷ xs) [] last end same e = absurd (omega (arith, same, ap length e, length-append xs last))
ends_same (x ∷ xs) (y ∷ ys) last end same e =
    let rest = ends_same xs ys last end same (ap tail_of e) in
    (ap (λ z. z ∷ xs) (ap (head_or x) e) ∙ ap (λ l. y ∷ l) rest.0, rest.1)

came_shown : Asked → List ℕ
came_shown (asking.Ended left written) = octets_of left
came_shown other = []

went_shown : Asked → List ℕ
went_shown (asking.Ended left written) = octets_of written
went_shown other = []

calls_shown : Asked → Option ℕ
calls_shown (asking.Listened port) = port
calls_shown other = None

hold_shown : Asked → Hold
hold_shown (asking.Listened None) = Has_not
hold_shown (asking.Listened (Some port)) = Awaits port
hold_shown asking.NotCame = Is_called
hold_shown asking.Lost = Has
hold_shown (asking.Ended left written) = Has_ended
hold_shown (asking.Reset left written) = Has_lost
hold_shown other = Has_not

end_shown : Asked → Bool
end_shown asking.Shut = true
end_shown other = false

hold_is_shown : (hold : Hold) → hold_shown (shown_hold hold) ≡ hold
unfolding hold_shown
hold_is_shown Has_not = refl
hold_is_shown (Awaits port) = refl
hold_is_shown Is_called = refl
hold_is_shown Has = refl
hold_is_shown Has_ended = refl
hold_is_shown Has_lost = refl

end_is_shown : (ended : Bool) → end_shown (shown_end ended) ≡ ended
unfolding end_shown
end_is_shown true = refl
end_is_shown false = refl

link_state_made : Hold → (came went : List ℕ) → Bool → Option ℕ → Bool → ℕ → Host → LinkState
link_state_made hold came went ended calls dialled listens host =
    record { hold = hold; came = came; went = went; ended = ended; calls = calls; dialled = dialled; listens = listens; host = host }

listens_shown : Asked → ℕ
listens_shown (asking.Listened (Some listens)) = listens
listens_shown other = 0

host_shown : Host → Asked → Host
host_shown before (asking.Came host left written) = host
host_shown before other = before

-- the same was shown only of the same
found_same : (one other : LinkState) → header one ≡ header other → one.dialled ≡ other.dialled → one ≡ other
unfolding tail_of head_or came_shown went_shown calls_shown hold_shown end_shown listens_shown host_shown link_state_made
found_same one other e dialled =
    let at : (n : List Asked) → Asked = λ n. head_or asking.Shut n in
    let came : one.came ≡ other.came = ap (λ l. came_shown (at l)) e in
    let went : one.went ≡ other.went = ap (λ l. went_shown (at l)) e in
    let calls : one.calls ≡ other.calls = ap (λ l. calls_shown (at (tail_of l))) e in
    let hold : one.hold ≡ other.hold = sym (hold_is_shown one.hold) ∙ ap (λ l. hold_shown (at (tail_of (tail_of l)))) e ∙ hold_is_shown other.hold in
    let ended : one.ended ≡ other.ended = sym (end_is_shown one.ended) ∙ ap (λ l. end_shown (at (tail_of (tail_of (tail_of l))))) e ∙ end_is_shown other.ended in
    let listens : one.listens ≡ other.listens = ap (λ l. listens_shown (at (tail_of (tail_of (tail_of (tail_of l)))))) e in
    let host : one.host ≡ other.host = ap (λ l. host_shown one.host (at (tail_of (tail_of (tail_of (tail_of (tail_of l))))))) e in
    ap (λ h. link_state_made h one.came one.went one.ended one.calls one.dialled one.listens one.host) hold
    ∙ ap (λ c. link_state_made other.hold c one.went one.ended one.calls one.dialled one.listens one.host) came
    ∙ ap (λ w. link_state_made other.hold other.came w one.ended one.calls one.dialled one.listens one.host) went
    ∙ ap (λ b. link_state_made other.hold other.came other.went b one.calls one.dialled one.listens one.host) ended
    ∙ ap (λ c. link_state_made other.hold other.came other.went other.ended c one.dialled one.listens one.host) calls
    ∙ ap (λ d. link_state_made other.hold other.came other.went other.ended other.calls d one.listens one.host) dialled
    ∙ ap (λ n. link_state_made other.hold other.came other.went other.ended other.calls other.dialled n one.host) listens
    ∙ ap (λ n. link_state_made other.hold other.came other.went other.ended other.calls other.dialled other.listens n) host

-- ---- what is seen of it

left_seen : (stream : Option Wire) (ended : Bool) → is_some stream ≡ true → octets_of (told_by mark_of_wire stream) ≡ mark ended
    → told_by left_in stream ≡ Some (octets_of (told_by came_of_wire stream) ++ mark ended)
left_seen (Some wire) ended stands marked = ap (λ l. Some (wire.came.items ++ l)) marked
left_seen None ended stands marked = absurd (true≢false (sym stands))

went_seen : (stream : Option Wire) → is_some stream ≡ true → told_by went_in stream ≡ Some (octets_of (told_by went_in stream))
went_seen (Some wire) stands = refl
went_seen None stands = absurd (true≢false (sym stands))

out_is : (stay : Stay) → is_out stay ≡ true → hold_at stay ≡ Has
out_is Stays.Out is = refl
out_is Stays.Free is = absurd (true≢false (sym is))
out_is (Stays.Awaits port) is = absurd (true≢false (sym is))
out_is Stays.Called is = absurd (true≢false (sym is))
out_is Stays.Ended is = absurd (true≢false (sym is))
out_is Stays.Reset is = absurd (true≢false (sym is))

over_is : (stay : Stay) → is_out stay ≡ false → IsOver (hold_at stay)
over_is Stays.Out is = absurd (true≢false is)
over_is Stays.Free is = tt
over_is (Stays.Awaits port) is = tt
over_is Stays.Called is = tt
over_is Stays.Ended is = tt
over_is Stays.Reset is = tt

-- of two, the first, and the second
first_of : {A : Type 0} (is : Bool) → is ≡ true → (one other : A) → of_two is one other ≡ one
first_of is e one other = ap (λ s. of_two s one other) e

second_of : {A : Type 0} (is : Bool) → is ≡ false → (one other : A) → of_two is one other ≡ other
second_of is e one other = ap (λ s. of_two s one other) e

-- what ports know, and what is seen beside
module _ (m : MemoryEnd) (asked : Option (List Asked)) (agrees : KnowsHolder m)
    (marked : (plain_in m.stream).stands ≡ true → told_in mark_of_wire m.stream ≡ mark (is_ended m.memory_ports.port_table.wire.closed)) where
  channel : Channel
  channel = channel_at left_in went_in asked m.stream []

  known : LinkState
  known = link_state_at m.memory_ports.port_table.stay m.memory_ports.port_table.wire m.memory_ports.port_table.calls m.memory_ports.port_table.dialled m.memory_ports.port_table.listens m.memory_ports.port_table.host

  seen_so : (stands : Bool) → (plain_in m.stream).stands ≡ stands → IsSeen stands channel known (link_state_of m)
  unfolding channel known link_state_made
  seen_so true stands =
      let port_table = m.memory_ports.port_table in
      let other = port_table.wire in
      let came = first_of (plain_in m.stream).stands stands (told_in came_of_wire m.stream) other.came.items in
      let went = first_of (plain_in m.stream).stands stands (told_in went_in m.stream) other.went.items in
      let hold = first_of (plain_in m.stream).stands stands (hold_by (plain_in m.stream).fate) (hold_at port_table.stay) in (
        out_is port_table.stay (sym agrees ∙ stands),
        left_seen m.stream.connection.stream (is_ended other.closed) stands (marked stands) ∙ ap (λ l. Some (l ++ mark (is_ended other.closed))) (sym came),
        went_seen m.stream.connection.stream stands ∙ ap Some (sym went),
        ap (λ h. link_state_made h (link_state_of m).came (link_state_of m).went (is_ended other.closed) port_table.calls port_table.dialled port_table.listens port_table.host) hold,
      )
  seen_so false stands =
      let port_table = m.memory_ports.port_table in
      let other = port_table.wire in (
        over_is port_table.stay (sym agrees ∙ stands),
        ap (λ h. link_state_made h (link_state_of m).came (link_state_of m).went (is_ended other.closed) port_table.calls port_table.dialled port_table.listens port_table.host) (second_of (plain_in m.stream).stands stands (hold_by (plain_in m.stream).fate) (hold_at port_table.stay))
            ∙ ap (λ c. link_state_made (hold_at port_table.stay) c (link_state_of m).went (is_ended other.closed) port_table.calls port_table.dialled port_table.listens port_table.host) (second_of (plain_in m.stream).stands stands (told_in came_of_wire m.stream) other.came.items)
            ∙ ap (λ w. link_state_made (hold_at port_table.stay) other.came.items w (is_ended other.closed) port_table.calls port_table.dialled port_table.listens port_table.host) (second_of (plain_in m.stream).stands stands (told_in went_in m.stream) other.went.items),
      )

  is_at : IsAtLinkState (channel_at left_in went_in asked m.stream []) (link_state_at m.memory_ports.port_table.stay m.memory_ports.port_table.wire m.memory_ports.port_table.calls m.memory_ports.port_table.dialled m.memory_ports.port_table.listens m.memory_ports.port_table.host) (link_state_of m)
  unfolding channel known
  is_at = seen_so (plain_in m.stream).stands refl

-- ---- what lies between

same_between : (who : Who) (a b c d : LinkState) (control : Ways) → a.hold ≡ c.hold → b.hold ≡ d.hold → a.came ++ b.went ≡ c.came ++ d.went
    → b.came ++ a.went ≡ d.came ++ c.went → between_at who a b control ≡ between_at who c d control
same_between Near a b c d control own peer to_own to_peer =
    let made : List ℕ → List ℕ → Hold → Hold → Between = λ up down near far. record { control = control; data_ways = record { to_server = up; to_client = down }; near = near; far = far } in
    ap (λ l. made l (a.came ++ b.went) a.hold b.hold) to_peer ∙ ap (λ l. made (d.came ++ c.went) l a.hold b.hold) to_own
    ∙ ap (λ h. made (d.came ++ c.went) (c.came ++ d.went) h b.hold) own ∙ ap (λ h. made (d.came ++ c.went) (c.came ++ d.went) c.hold h) peer
same_between Far a b c d control own peer to_own to_peer =
    let made : List ℕ → List ℕ → Hold → Hold → Between = λ up down near far. record { control = control; data_ways = record { to_server = up; to_client = down }; near = near; far = far } in
    ap (λ l. made l (b.came ++ a.went) b.hold a.hold) to_own ∙ ap (λ l. made (c.came ++ d.went) l b.hold a.hold) to_peer
    ∙ ap (λ h. made (c.came ++ d.went) (d.came ++ c.went) h a.hold) peer ∙ ap (λ h. made (c.came ++ d.went) (d.came ++ c.went) d.hold h) own

-- ---- some turns

-- where the peer counts none, the end counts those of both
one_counts : (n : ℕ) → n < 16384 → (n + 0) % 16384 ≡ n
one_counts n few = omega (arith, few)

-- what an end did in some turns, as what is told is let go, and in the order in which it can happen
pub record Turned (who : Who) {end : Machine} (actions : List (Action (side_of end))) (e0 e1 : end.Here) (own peer own_now peer_now : MemoryEnd) (up down : List ℕ) : Type 0 where
  pub led : Led (map plain actions) (quiet (held e0 (plain_in own.stream))) (quiet (held e1 (plain_in own_now.stream)))
  pub went : WentAlone who (map plain actions) (between_both who own peer (ways_at who (read_in actions ++ down) up))
      (between_both who own_now peer_now (ways_at who down (up ++ said_in actions)))
  pub counted : CountedAlone (map plain actions) (listens_of (link_state_of own) (link_state_of peer)) (listens_of (link_state_of own_now) (link_state_of peer_now))
  pub came : CameAlone (link_state_of own).host (map plain actions)
  pub own_host : (link_state_of own_now).host ≡ (link_state_of own).host
  pub peer_host : (link_state_of peer_now).host ≡ (link_state_of peer).host

module _ (who : Who) (end : Machine) (actions : List (Action (side_of end))) (e0 e1 : end.Here) (own peer own_1 peer_1 own_2 own_3 : MemoryEnd) (up down : List ℕ)
    (meets : Meets own peer own_1 peer_1) (is_known : IsKnown own_2 own_3)
    (led : Led actions (quiet (held e0 (told_channel own_1)))
    (quiet (held e1 (told_channel own_2)))) where
  first : LinkState
  first = link_state_at own_1.memory_ports.port_table.stay own_1.memory_ports.port_table.wire own_1.memory_ports.port_table.calls own_1.memory_ports.port_table.dialled own_1.memory_ports.port_table.listens own_1.memory_ports.port_table.host

  last : LinkState
  last = link_state_at own_3.memory_ports.port_table.stay own_3.memory_ports.port_table.wire own_3.memory_ports.port_table.calls own_3.memory_ports.port_table.dialled own_3.memory_ports.port_table.listens own_3.memory_ports.port_table.host

  undialled : own_1.memory_ports.port_table.dialled ≡ false
  undialled = meets.begins.knows.undialled

  shown_first : asked_of own_1.memory_ports.port_table ≡ header first
  unfolding first
  shown_first = meets.begins.asked

  since : (found : LinkState) × (asked : List Asked) × (found.dialled ≡ false) × (asked_of own_3.memory_ports.port_table ≡ asked ++ header found) × LinkRan found asked last
  unfolding last
  since =
      let port_table = own_3.memory_ports.port_table in
      ran_since port_table.found.items port_table.log.items (link_state_at port_table.stay port_table.wire port_table.calls port_table.dialled port_table.listens port_table.host)
      (port_table.known ∙ ap (λ s. known_by s (link_state_at port_table.stay port_table.wire port_table.calls port_table.dialled port_table.listens port_table.host)) is_known.known)

  asked_all : asked_of own_3.memory_ports.port_table ≡ asked_in move_of actions ++ header first
  asked_all =
      ap asked_of is_known.port_table ∙ actions_asked actions _ _ led ∙ ap (λ l. asked_in move_of actions ++ l) shown_first

  both : (since.1 ≡ asked_in move_of actions) × (header since.0 ≡ header first)
  both = ends_same since.1 (asked_in move_of actions) (header since.0) (header first) refl (sym since.3 ∙ asked_all)

  found_first : since.0 ≡ first
  unfolding first
  found_first = found_same since.0 first both.1 (since.2 ∙ sym undialled)

  first_at : IsAtLinkState (told_channel own_1) first (link_state_of own_1)
  unfolding first
  first_at = is_at own_1 (Some (asked_of own_1.memory_ports.port_table)) meets.begins.agrees meets.begins.mark

  last_at : IsAtLinkState (told_channel own_2) last (link_state_of own_3)
  unfolding last
  last_at =
      let asked = Some (asked_of own_2.memory_ports.port_table) in
      subst (λ l. IsAtLinkState l (link_state_at own_3.memory_ports.port_table.stay own_3.memory_ports.port_table.wire own_3.memory_ports.port_table.calls own_3.memory_ports.port_table.dialled own_3.memory_ports.port_table.listens own_3.memory_ports.port_table.host) (link_state_of own_3))
      (is_known.channel left_in went_in asked) (is_at own_3 asked is_known.agrees is_known.mark)

  happening : Happening who actions (held e0 (told_channel own_1))
      (held e1 (told_channel own_2)) (link_state_of own_1) (link_state_of own_3) (link_state_of peer_1) up down
  happening =
      happens who end actions _ _ first last (link_state_of own_1) (link_state_of own_3) (link_state_of peer_1) (header first) (asked_in move_of actions) up down led first_at last_at
      (ap Some shown_first) (ap Some (ap asked_of (sym is_known.port_table) ∙ asked_all)) (subst (λ a. LinkRan first a last) both.0 (subst (λ f. LinkRan f since.1 last) found_first since.4))
      meets.begins.knows

  before_same : (control : Ways) → between_by who (link_state_of own_1) (link_state_of peer_1) control ≡ between_both who own peer control
  before_same control =
      ap (λ d. between_at who (link_state_of own_1) (called_by d (link_state_of peer_1)) control) undialled
      ∙ same_between who (link_state_of own_1) (link_state_of peer_1) (called_by (link_state_of peer).dialled (link_state_of own)) (called_by (link_state_of own).dialled (link_state_of peer)) control
      meets.carries.own_hold meets.carries.peer_hold meets.carries.to_own meets.carries.to_peer

  after_same : (control : Ways) → between_by who (link_state_of own_3) (link_state_of peer_1) control ≡ between_both who own_3 peer_1 control
  after_same control =
      ap (λ d. between_at who (called_by d (link_state_of own_3)) (called_by (link_state_of own_3).dialled (link_state_of peer_1)) control) (sym meets.peer_undialled)

  -- the end counted the ports of both
  count_after : listens_of (link_state_of own_3) (link_state_of peer_1) ≡ (link_state_of own_3).listens
  count_after =
      ap (λ n. ((link_state_of own_3).listens + n) % 16384) meets.peer_listens ∙ one_counts (link_state_of own_3).listens own_3.memory_ports.port_table.few

  pub turned : Turned who actions e0 e1 own peer own_3 peer_1 up down
  turned = record {
    led = subst (λ l. Led (map plain actions) (quiet (held e0 l)) (quiet (held e1 (plain_in own_3.stream)))) meets.own_channel
        (subst (λ l. Led (map plain actions) (quiet (held e0 (plain_in own_1.stream))) (quiet (held e1 l))) (sym (is_known.channel (λ w. None) (λ w. None) None))
        (subst (λ l. Led (map plain actions) (quiet (held e0 l)) (quiet (held e1 (plain_in own_2.stream)))) (plain_is (Some (asked_of own_1.memory_ports.port_table)) own_1.stream)
        (subst (λ l. Led (map plain actions) (quiet (held e0 (plain_channel (told_channel own_1)))) (quiet (held e1 l)))
        (plain_is (Some (asked_of own_2.memory_ports.port_table)) own_2.stream) happening.led)));
    went = subst (λ b. WentAlone who (map plain actions) b (between_both who own_3 peer_1 (ways_at who down (up ++ said_in actions))))
        (before_same (ways_at who (read_in actions ++ down) up))
        (subst (λ b. WentAlone who (map plain actions) (between_by who (link_state_of own_1) (link_state_of peer_1) (ways_at who (read_in actions ++ down) up)) b)
        (after_same (ways_at who down (up ++ said_in actions))) happening.went);
    counted = subst (λ n. CountedAlone (map plain actions) n (listens_of (link_state_of own_3) (link_state_of peer_1))) meets.own_listens
        (subst (CountedAlone (map plain actions) (link_state_of own_1).listens) (sym count_after) happening.counted);
    came = subst (λ h. CameAlone h (map plain actions)) meets.own_host happening.came;
    own_host = happening.host ∙ meets.own_host;
    peer_host = meets.peer_host;
  }
