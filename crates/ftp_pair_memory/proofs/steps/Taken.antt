-- Some turns of one end, as both ends and what lies between them have it.
use Rattle.std.proofs.Common.{◌≡◌, ℕ, ◌%◌, List, [], ◌++◌, map, Some, sym, ap, subst, add_comm}
use Rattle.std.specs.Prelude.{⊤}
use Rattle.ftp_ports.specs.Actions.{Action, Led, read_in}
use Rattle.ftp_ports.specs.Machine.{held}
use Rattle.ftp_driver.specs.Standing.{channel_at}
use Rattle.ftp_client_driver.specs.Side.{client_machine, client_side}
use Rattle.ftp_client_model.specs.Failing.{Client as NearEnd}
use Rattle.ftp_operation.specs.Answer.{said_of}
use Rattle.ftp_operation.specs.declared.answer.Answer.{Answer}
use Rattle.laws_drivers.specs.control.Between.{Far, Near}
use Rattle.ftp_pair_memory.specs.streams.Claims.{ways_at}
use Rattle.ftp_pair_memory.specs.streams.PortTables.{asked_of}
use Rattle.ftp_pair_memory.specs.streams.PortTableMoves.{left_in, went_in}
use Rattle.ftp_pair_memory.specs.streams.MemoryEnds.{IsKnown, Meets, link_state_of, between_both, listens_of, plain_in, told_channel}
use Rattle.ftp_pair_memory.specs.streams.Order.{CameAlone, CountedAlone, Hosts, WentAlone}
use Rattle.ftp_pair_memory.specs.streams.Plain.{plain, plain_asked, quiet}
use Rattle.ftp_pair_memory.specs.declared.streams.memory_end.MemoryEnd.{MemoryEnd}
use Rattle.ftp_pair_memory.proofs.streams.Turning.{Turned, turned}
use Rattle.ftp_server_driver.specs.alone.Side.{Timed, server_machine}
use Rattle.ftp_pair_memory.specs.steps.Speaking.{Speaks}
use Rattle.ftp_pair_memory.specs.steps.Taking.{Ends, FarTurns, NearTurns, both_ends, last_actions}
use Rattle.ftp_pair_memory.specs.steps.Turning.{FarTurned, NearTurned}
use Rattle.ftp_pair_memory.specs.declared.steps.turn_ending.Course.{Course}
use Rattle.ftp_pair_memory.specs.declared.steps.turn_ending.Course.TheVariants as Courses
use Rattle.ftp_pair_memory.proofs.steps.Gathering.{far_took, near_came, near_counted, near_took, near_went}

-- how many ports both told, whoever is named first
abbrev told_at : (own peer : MemoryEnd) → ℕ
told_at own peer = listens_of (link_state_of own) (link_state_of peer)

-- the host that each has at its other end
abbrev hosts_at : (near far : MemoryEnd) → Hosts
hosts_at near far = record { near = (link_state_of near).host; far = (link_state_of far).host }

hosts_same : (near far near_now far_now : MemoryEnd) → (link_state_of near_now).host ≡ (link_state_of near).host → (link_state_of far_now).host ≡ (link_state_of far).host
    → hosts_at near_now far_now ≡ hosts_at near far
hosts_same near far near_now far_now first second = λ i. record { near = first i; far = second i }

either_way : (own peer : MemoryEnd) → told_at own peer ≡ told_at peer own
either_way own peer = ap (λ n. n % 16384) (add_comm own.memory_ports.port_table.listens peer.memory_ports.port_table.listens)

-- both ends, where the client has its turn, and where the server has
abbrev near_ends : Timed → NearEnd → (own peer : MemoryEnd) → (mine peers : List ℕ) → Ends
near_ends server e own peer mine peers =
    both_ends (held server (plain_in peer.stream)) (held e (plain_in own.stream)) (between_both Near own peer (ways_at Near mine peers)) (told_at own peer)
    (hosts_at own peer)

abbrev far_ends : NearEnd → Timed → (own peer : MemoryEnd) → (mine peers : List ℕ) → Ends
far_ends client e own peer mine peers =
    both_ends (held e (plain_in own.stream)) (held client (plain_in peer.stream)) (between_both Near peer own (ways_at Far mine peers)) (told_at peer own)
    (hosts_at peer own)

module _ (own peer own_1 peer_1 own_2 own_3 : MemoryEnd) (meets : Meets own peer own_1 peer_1) (is_known : IsKnown own_2 own_3) where
  -- ---- the client's

  module _ (server : Timed) (e0 e1 : NearEnd) (came left before after : List ℕ) where
    start : Ends
    start = near_ends server e0 own peer came before

    now : Ends
    now = near_ends server e1 own_3 peer_1 left after

    -- what it did, and in which order that can happen
    near_did : (actions : List (Action client_side))
        → Speaks actions (held e0 (told_channel own_1)) (held e1 (told_channel own_2)) came left before after
        → Led (map plain actions) (quiet {side = client_side} start.client) (quiet now.client) × WentAlone Near (map plain actions) start.between now.between
        × CountedAlone (map plain actions) start.listens now.listens × CameAlone start.hosts.near (map plain actions) × (now.hosts ≡ start.hosts)
    unfolding start now
    near_did actions speaks =
        let did : Turned Near {end = client_machine} actions e0 e1 own peer own_3 peer_1 before left =
        turned Near client_machine actions e0 e1 own peer own_1 peer_1 own_2 own_3 before left meets is_known speaks.led in (
          did.led,
          subst (λ l. WentAlone Near (map plain actions) (between_both Near own peer (ways_at Near l before)) (between_both Near own_3 peer_1 (ways_at Near left after))) (sym speaks.read)
              (subst (λ l. WentAlone Near (map plain actions) (between_both Near own peer (ways_at Near (read_in actions ++ left) before)) (between_both Near own_3 peer_1 (ways_at Near left l)))
              (sym speaks.wrote) did.went),
          did.counted,
          did.came,
          hosts_same own peer own_3 peer_1 did.own_host did.peer_host,
        )

    near_taken : {A : Type 0} (course : Course (Answer A))
        → NearTurned course (held e0 (told_channel own_1)) (held e1 (told_channel own_2)) came left before after
        → NearTurns course (near_ends server e0 own peer came before) (near_ends server e1 own_3 peer_1 left after)
    unfolding start now
    near_taken (Courses.Over answer) answers =
        let actions = last_actions answers.asked (said_of answer) answers.midst in
        let did = near_did actions answers.speaks in
        record {
          asked = plain_asked answers.asked;
          midst = map plain answers.midst;
          led = did.0;
          went = near_went (map plain actions) start.between now.between did.1;
          counted = near_counted (map plain actions) start.listens now.listens did.2;
          came = near_came start.hosts (map plain actions) did.3;
          hosts = did.4;
          server = ap (held server) meets.peer_channel;
        }
    near_taken Courses.On goes_on =
        let did = near_did goes_on.actions goes_on.speaks in
        near_took start now (map plain goes_on.actions) (ap (held server) meets.peer_channel) did.0 did.1 did.2 did.3 did.4
    near_taken (Courses.Off stop) off = tt

  -- ---- the server's

  module _ (client : NearEnd) (e0 e1 : Timed) (came left before after : List ℕ) where
    far_taken : (course : Course ⊤)
        → FarTurned course (held e0 (told_channel own_1)) (held e1 (told_channel own_2)) came left before after
        → FarTurns course (far_ends client e0 own peer came before) (far_ends client e1 own_3 peer_1 left after)
    far_taken (Courses.Over over) leaves = tt
    far_taken Courses.On goes_on =
        let actions = goes_on.actions in
        let speaks = goes_on.speaks in
        let did : Turned Far {end = server_machine} actions e0 e1 own peer own_3 peer_1 before left =
        turned Far server_machine actions e0 e1 own peer own_1 peer_1 own_2 own_3 before left meets is_known speaks.led in
        let first = between_both Far own peer (ways_at Far came before) in
        let last = between_both Far own_3 peer_1 (ways_at Far left after) in
        let went : WentAlone Far (map plain actions) first last =
        subst (λ l. WentAlone Far (map plain actions) (between_both Far own peer (ways_at Far l before)) last) (sym speaks.read)
        (subst (λ l. WentAlone Far (map plain actions) (between_both Far own peer (ways_at Far (read_in actions ++ left) before)) (between_both Far own_3 peer_1 (ways_at Far left l)))
        (sym speaks.wrote) did.went) in
        let counted : CountedAlone (map plain actions) (told_at peer own) (told_at peer_1 own_3) =
        subst (λ n. CountedAlone (map plain actions) n (told_at peer_1 own_3)) (either_way own peer)
        (subst (CountedAlone (map plain actions) (told_at own peer)) (either_way own_3 peer_1) did.counted) in
        far_took (far_ends client e0 own peer came before) (far_ends client e1 own_3 peer_1 left after) (map plain actions) (ap (held client) meets.peer_channel)
        did.led went counted did.came (hosts_same peer own peer_1 own_3 did.peer_host did.own_host)
    far_taken (Courses.Off stop) off = tt

-- the same where it was told before that octets of the control connection came
module _ (own peer own_1 peer_1 own_t own_2 own_3 : MemoryEnd) (meets : Meets own peer own_1 peer_1) (is_known : IsKnown own_2 own_3)
    (stream : own_t.stream ≡ own_1.stream) (port_table : own_t.memory_ports.port_table ≡ own_1.memory_ports.port_table) (came left before after : List ℕ) where
  pub near_told : {A : Type 0} (server : Timed) (e0 e1 : NearEnd) (course : Course (Answer A))
      → NearTurned course (held e0 (told_channel own_t)) (held e1 (told_channel own_2)) came left before after
      → NearTurns course (near_ends server e0 own peer came before) (near_ends server e1 own_3 peer_1 left after)
  near_told server e0 e1 course given =
      let end = held e1 (told_channel own_2) in
      near_taken own peer own_1 peer_1 own_2 own_3 meets is_known server e0 e1 came left before after course
      (subst (λ s. NearTurned course (held e0 (channel_at left_in went_in (Some (asked_of own_1.memory_ports.port_table)) s [])) end came left before after) stream
      (subst (λ d. NearTurned course (held e0 (channel_at left_in went_in (Some (asked_of d)) own_t.stream [])) end came left before after) port_table given))

  pub far_told : (client : NearEnd) (e0 e1 : Timed) (course : Course ⊤)
      → FarTurned course (held e0 (told_channel own_t)) (held e1 (told_channel own_2)) came left before after
      → FarTurns course (far_ends client e0 own peer came before) (far_ends client e1 own_3 peer_1 left after)
  far_told client e0 e1 course given =
      let end = held e1 (told_channel own_2) in
      far_taken own peer own_1 peer_1 own_2 own_3 meets is_known client e0 e1 came left before after course
      (subst (λ s. FarTurned course (held e0 (channel_at left_in went_in (Some (asked_of own_1.memory_ports.port_table)) s [])) end came left before after) stream
      (subst (λ d. FarTurned course (held e0 (channel_at left_in went_in (Some (asked_of d)) own_t.stream [])) end came left before after) port_table given))
