-- A data connection in memory is taken from where it is, and put back.
use Rattle.std.proofs.Common.{◌≡◌, ℕ, ◌+◌, ◌%◌, Bool, true, false, not, true≢false, ◌++◌, [], List, Option, None, Some, is_some, refl, sym, ap, subst, ◌∙◌}
use Rattle.ftp_endpoint.specs.declared.host.Host.{Host}
use Rattle.ftp_ports.specs.Carrying.{told_by}
use Rattle.ftp_ports.specs.Channel.{Channel, no_channel, with_ends}
use Rattle.ftp_ports.specs.Asking.{Asked}
use Rattle.ftp_driver.specs.Standing.{HasNone, IsExchanged, IsSameChannel, channel_at}
use Rattle.ftp_driver.specs.declared.data.Data.{Data}
use Rattle.ftp_pair_memory.specs.streams.LinkState.{LinkState, called_by, hold_by, mark}
use Rattle.laws_drivers.specs.control.Between.{Has, Has_not, Hold}
use Rattle.ftp_pair_memory.specs.streams.PortTableMoves.{hold_at, is_back, is_ended, is_out, left_in, went_in}
use Rattle.ftp_pair_memory.specs.streams.Plain.{plain_channel}
use Rattle.ftp_pair_memory.proofs.streams.Noting.{back_has, back_marked}
use Rattle.ftp_pair_memory.specs.streams.MemoryEnds.{AnswersDial, IsFresh, IsKnown, Lifts, LowersWire, Meets, Prepares, link_state_of, came_at}
use Rattle.ftp_pair_memory.specs.streams.MemoryEnds.{came_of_wire, listens_of, mark_of_wire, octets_of, of_two, plain_in, told_in, went_at}
use Rattle.ftp_pair_memory.specs.declared.streams.port_table.Stay.{Stay}
use Rattle.ftp_pair_memory.specs.declared.streams.port_table.Stay.TheVariants as Stays
use Rattle.ftp_pair_memory.specs.declared.streams.memory_end.MemoryEnd.{MemoryEnd}
use Rattle.ftp_pair_memory.specs.declared.streams.wire.Closed.TheVariants as Closes
use Rattle.ftp_pair_memory.specs.declared.streams.wire.Wire.{Wire}

-- who has one is out
out_has : (stay : Stay) → hold_at stay ≡ Has → is_out stay ≡ true
out_has Stays.Out has = refl
out_has Stays.Free has = absurd (cc)
out_has (Stays.Awaits port) has = absurd (cc)
out_has Stays.Called has = absurd (cc)
out_has Stays.Ended has = absurd (cc)
out_has Stays.Reset has = absurd (cc)

-- ---- one that the end has

module _ (before after : Wire) (old new : Data Wire) (exchanged : IsExchanged before after old new) where
  pub stood : (plain_in old).stands ≡ true
  stood = ap is_some (exchanged (λ wire. None) (λ wire. None) None).2

  plain_stays : plain_in new ≡ plain_in old
  plain_stays =
      let tells : Wire → Option (List ℕ) = λ wire. None in
      (exchanged tells tells None).1 ∙ sym (exchanged tells tells None).0

  pub stands_still : (plain_in new).stands ≡ true
  stands_still = ap (λ (l : Channel). l.stands) plain_stays ∙ stood

  told_before : (tells : Wire → Option (List ℕ)) → told_in tells old ≡ octets_of (tells before)
  told_before tells = ap (λ (l : Channel). octets_of l.left) (exchanged tells tells None).0

  pub told_after : (tells : Wire → Option (List ℕ)) → told_in tells new ≡ octets_of (tells after)
  told_after tells = ap (λ (l : Channel). octets_of l.left) (exchanged tells tells None).1

-- of two, this one
here : (stands : Bool) (one other : List ℕ) → stands ≡ true → of_two stands one other ≡ one
here stands one other is = ap (λ s. of_two s one other) is

there : (stands : Bool) (one other : List ℕ) → stands ≡ false → of_two stands one other ≡ other
there stands one other is = ap (λ s. of_two s one other) is

pub lifts_out : (before after : Wire) (old new : MemoryEnd) → IsExchanged before after old.stream new.stream → is_out old.memory_ports.port_table.stay ≡ true
    → new.memory_ports.port_table ≡ old.memory_ports.port_table → Lifts before old new
lifts_out before after old new exchanged is_had same =
    let stands = stood before after old.stream new.stream exchanged in
    record {
      agrees = stands ∙ sym is_had;
      came = sym (here (plain_in old.stream).stands (told_in came_of_wire old.stream) old.memory_ports.port_table.wire.came.items stands ∙ told_before before after old.stream new.stream exchanged came_of_wire);
      went = sym (here (plain_in old.stream).stands (told_in went_in old.stream) old.memory_ports.port_table.wire.went.items stands ∙ told_before before after old.stream new.stream exchanged went_in);
      still = record {
        channel = plain_stays before after old.stream new.stream exchanged;
        stay = ap (λ d. d.stay) same;
        calls = ap (λ d. d.calls) same;
        dialled = ap (λ d. d.dialled) same;
        listens = ap (λ d. d.listens) same;
        host = ap (λ d. d.host) same;
      };
    }

pub lowers_out : (before after : Wire) (old new : MemoryEnd) → IsExchanged before after old.stream new.stream → new.memory_ports.port_table ≡ old.memory_ports.port_table → LowersWire after old new
lowers_out before after old new exchanged same =
    let stands = stands_still before after old.stream new.stream exchanged in
    record {
      came = here (plain_in new.stream).stands (told_in came_of_wire new.stream) new.memory_ports.port_table.wire.came.items stands ∙ told_after before after old.stream new.stream exchanged came_of_wire;
      went = here (plain_in new.stream).stands (told_in went_in new.stream) new.memory_ports.port_table.wire.went.items stands ∙ told_after before after old.stream new.stream exchanged went_in;
      mark = λ is. told_after before after old.stream new.stream exchanged mark_of_wire;
      still = record {
        channel = plain_stays before after old.stream new.stream exchanged;
        stay = ap (λ d. d.stay) same;
        calls = ap (λ d. d.calls) same;
        dialled = ap (λ d. d.dialled) same;
        listens = ap (λ d. d.listens) same;
        host = ap (λ d. d.host) same;
      };
    }

-- ---- one that its ports have

pub stood_not : (old : Data Wire) → old.connection.stream ≡ None → (plain_in old).stands ≡ false
stood_not old none = ap is_some none

pub lifts_there : (wire : Wire) (old new : MemoryEnd) → old.stream.connection.stream ≡ None → IsSameChannel old.stream new.stream → is_out old.memory_ports.port_table.stay ≡ false
    → wire ≡ old.memory_ports.port_table.wire → new.memory_ports.port_table.stay ≡ old.memory_ports.port_table.stay → new.memory_ports.port_table.calls ≡ old.memory_ports.port_table.calls → new.memory_ports.port_table.dialled ≡ old.memory_ports.port_table.dialled
    → new.memory_ports.port_table.listens ≡ old.memory_ports.port_table.listens → new.memory_ports.port_table.host ≡ old.memory_ports.port_table.host → Lifts wire old new
lifts_there wire old new none channel is_not is stay calls dialled listens host =
    let stands = stood_not old.stream none in
    record {
      agrees = stands ∙ sym is_not;
      came = ap (λ (w : Wire). w.came.items) is ∙ sym (there (plain_in old.stream).stands (told_in came_of_wire old.stream) old.memory_ports.port_table.wire.came.items stands);
      went = ap (λ (w : Wire). w.went.items) is ∙ sym (there (plain_in old.stream).stands (told_in went_in old.stream) old.memory_ports.port_table.wire.went.items stands);
      still = record { channel = channel (λ w. None) (λ w. None) None; stay = stay; calls = calls; dialled = dialled; listens = listens; host = host };
    }

pub lowers_there : (wire : Wire) (old new : MemoryEnd) → old.stream.connection.stream ≡ None → IsSameChannel old.stream new.stream
    → new.memory_ports.port_table.wire ≡ wire → new.memory_ports.port_table.stay ≡ old.memory_ports.port_table.stay → new.memory_ports.port_table.calls ≡ old.memory_ports.port_table.calls → new.memory_ports.port_table.dialled ≡ old.memory_ports.port_table.dialled
    → new.memory_ports.port_table.listens ≡ old.memory_ports.port_table.listens → new.memory_ports.port_table.host ≡ old.memory_ports.port_table.host → LowersWire wire old new
lowers_there wire old new none channel is stay calls dialled listens host =
    let same = channel (λ w. None) (λ w. None) None in
    let stands : (plain_in new.stream).stands ≡ false = ap (λ (l : Channel). l.stands) same ∙ stood_not old.stream none in
    record {
      came = there (plain_in new.stream).stands (told_in came_of_wire new.stream) new.memory_ports.port_table.wire.came.items stands ∙ ap (λ (w : Wire). w.came.items) is;
      went = there (plain_in new.stream).stands (told_in went_in new.stream) new.memory_ports.port_table.wire.went.items stands ∙ ap (λ (w : Wire). w.went.items) is;
      mark = λ it. absurd (true≢false (sym it ∙ stands));
      still = record { channel = same; stay = stay; calls = calls; dialled = dialled; listens = listens; host = host };
    }

-- ---- a turn begins

-- one that was called stays so where its peer's dial is answered, too
called_hold : (dialled : Bool) (one other : LinkState) → one.hold ≡ other.hold → (called_by dialled one).hold ≡ (called_by dialled other).hold
called_hold true one other same = refl
called_hold false one other same = same

called_came : (dialled : Bool) (one other : LinkState) → one.came ≡ other.came → (called_by dialled one).came ≡ (called_by dialled other).came
called_came true one other same = refl
called_came false one other same = same

called_went : (dialled : Bool) (one other : LinkState) → one.went ≡ other.went → (called_by dialled one).went ≡ (called_by dialled other).went
called_went true one other same = refl
called_went false one other same = same

-- two dials were answered, and octets brought on
module _ (own peer own_1 peer_1 own_2 peer_2 own_now peer_now : MemoryEnd) (first : AnswersDial own peer own_1 peer_1) (second : AnswersDial peer_1 own_1 peer_2 own_2)
    (last : Prepares own_2 peer_2 own_now peer_now) where
  -- the end, once its peer's dial was answered
  own_hold : (link_state_of own_2).hold ≡ (called_by (link_state_of peer).dialled (link_state_of own)).hold
  own_hold =
      second.other_hold ∙ called_hold (link_state_of peer_1).dialled (link_state_of own_1) (link_state_of own) (ap (λ (b : LinkState). b.hold) first.dialler_link_state)
      ∙ ap (λ d. (called_by d (link_state_of own)).hold) first.other_dialled

  own_came : (link_state_of own_2).came ≡ (called_by (link_state_of peer).dialled (link_state_of own)).came
  own_came =
      second.other_came ∙ called_came (link_state_of peer_1).dialled (link_state_of own_1) (link_state_of own) (ap (λ (b : LinkState). b.came) first.dialler_link_state)
      ∙ ap (λ d. (called_by d (link_state_of own)).came) first.other_dialled

  own_went : (link_state_of own_2).went ≡ (called_by (link_state_of peer).dialled (link_state_of own)).went
  own_went =
      second.other_went ∙ called_went (link_state_of peer_1).dialled (link_state_of own_1) (link_state_of own) (ap (λ (b : LinkState). b.went) first.dialler_link_state)
      ∙ ap (λ d. (called_by d (link_state_of own)).went) first.other_dialled

  -- its peer, once its dial was answered
  peer_hold : (link_state_of peer_2).hold ≡ (called_by (link_state_of own).dialled (link_state_of peer)).hold
  peer_hold = ap (λ (b : LinkState). b.hold) second.dialler_link_state ∙ first.other_hold

  peer_came : (link_state_of peer_2).came ≡ (called_by (link_state_of own).dialled (link_state_of peer)).came
  peer_came = ap (λ (b : LinkState). b.came) second.dialler_link_state ∙ first.other_came

  peer_went : (link_state_of peer_2).went ≡ (called_by (link_state_of own).dialled (link_state_of peer)).went
  peer_went = ap (λ (b : LinkState). b.went) second.dialler_link_state ∙ first.other_went

  -- what both counted, they counted before
  counted_before : listens_of (link_state_of own_2) (link_state_of peer_2) ≡ listens_of (link_state_of own) (link_state_of peer)
  counted_before =
      ap (λ n. (n + (link_state_of peer_2).listens) % 16384) (second.other_listens ∙ ap (λ (b : LinkState). b.listens) first.dialler_link_state)
      ∙ ap (λ n. ((link_state_of own).listens + n) % 16384) (ap (λ (b : LinkState). b.listens) second.dialler_link_state ∙ first.other_listens)

  pub meets : Meets own peer own_now peer_now
  meets = record {
    carries = record {
      own_hold = last.own_hold ∙ own_hold;
      peer_hold = last.peer_hold ∙ peer_hold;
      to_own = last.to_own ∙ ap (λ l. l ++ (link_state_of peer_2).went) own_came ∙ ap (λ l. (called_by (link_state_of peer).dialled (link_state_of own)).came ++ l) peer_went;
      to_peer = last.to_peer ∙ ap (λ l. l ++ (link_state_of own_2).went) peer_came ∙ ap (λ l. (called_by (link_state_of own).dialled (link_state_of peer)).came ++ l) own_went;
    };
    own_channel = last.own_channel ∙ second.other_channel ∙ first.dialler_channel;
    peer_channel = last.peer_channel ∙ second.dialler_channel ∙ first.other_channel;
    peer_undialled = last.peer_dialled ∙ ap (λ (b : LinkState). b.dialled) second.dialler_link_state;
    own_listens = last.own_listens ∙ counted_before;
    peer_listens = last.peer_listens;
    own_host = last.own_host ∙ second.other_host ∙ ap (λ (b : LinkState). b.host) first.dialler_link_state;
    peer_host = last.peer_host ∙ ap (λ (b : LinkState). b.host) second.dialler_link_state ∙ first.other_host;
    begins = last.begins;
  }

-- ---- a turn is over

-- one that the end has was looked at, and put back
module _ (wire none back : Wire) (mid : Data Wire) (old new : MemoryEnd) (first : IsExchanged wire none old.stream mid) (second : IsExchanged back wire mid new.stream) where
  -- so the end sees what it saw
  seen_again : (remaining contents : Wire → Option (List ℕ)) (asked : Option (List Asked))
      → channel_at remaining contents asked new.stream [] ≡ channel_at remaining contents asked old.stream []
  seen_again remaining contents asked =
      (second remaining contents asked).1 ∙ ap (with_ends (remaining wire) (contents wire)) (first remaining contents asked).1 ∙ sym (first remaining contents asked).0

  pub known_out : is_back (hold_at old.memory_ports.port_table.stay) (is_ended old.memory_ports.port_table.wire.closed) (is_ended wire.closed) ≡ true → old.memory_ports.port_table.spoiled ≡ false
      → new.memory_ports.port_table ≡ old.memory_ports.port_table → IsKnown old new
  known_out is_own known same =
      let has = back_has (hold_at old.memory_ports.port_table.stay) (is_ended old.memory_ports.port_table.wire.closed) (is_ended wire.closed) is_own in
      let marked = back_marked (is_ended old.memory_ports.port_table.wire.closed) (is_ended wire.closed)
      (subst (λ h. is_back h (is_ended old.memory_ports.port_table.wire.closed) (is_ended wire.closed) ≡ true) has is_own) in
      record {
        port_table = same;
        channel = seen_again;
        agrees = stands_still back wire mid new.stream second ∙ sym (out_has old.memory_ports.port_table.stay has) ∙ ap (λ d. is_out d.stay) (sym same);
        mark = λ is. told_after back wire mid new.stream second mark_of_wire ∙ ap mark marked ∙ ap (λ d. mark (is_ended d.wire.closed)) (sym same);
        known = ap (λ d. d.spoiled) same ∙ known;
      }

pub not_so : (is : Bool) → not is ≡ true → is ≡ false
not_so false e = refl
not_so true e = sym e

-- none that the end has
pub known_there : (old new : MemoryEnd) → old.stream.connection.stream ≡ None → IsSameChannel old.stream new.stream → is_out old.memory_ports.port_table.stay ≡ false
    → old.memory_ports.port_table.spoiled ≡ false → new.memory_ports.port_table ≡ old.memory_ports.port_table → IsKnown old new
known_there old new none channel not_out known same =
    let stands : (plain_in new.stream).stands ≡ false =
    ap (λ (l : Channel). l.stands) (channel (λ w. None) (λ w. None) None) ∙ stood_not old.stream none in
    record {
      port_table = same;
      channel = channel;
      agrees = stands ∙ sym not_out ∙ ap (λ d. is_out d.stay) (sym same);
      mark = λ it. absurd (true≢false (sym it ∙ stands));
      known = ap (λ d. d.spoiled) same ∙ known;
    }

-- ---- one that nobody has yet

told_none : (stream : Option Wire) → told_by (λ wire. None) stream ≡ None
told_none (Some wire) = refl
told_none None = refl

-- where nothing is told
pub plain_is : (asked : Option (List Asked)) (stream : Data Wire) → plain_channel (channel_at left_in went_in asked stream []) ≡ plain_in stream
plain_is asked stream =
    let none = sym (told_none stream.connection.stream) in
    let channel = plain_channel (channel_at left_in went_in asked stream []) in
    ap (λ l. record channel { left = l }) none ∙ ap (λ w. record channel { left = (plain_in stream).left; written = w }) none

there_of : (stands : Bool) (one other : Hold) → stands ≡ false → of_two stands one other ≡ other
there_of stands one other is = ap (λ s. of_two s one other) is

abbrev link_state_made : Hold → (came went : List ℕ) → Bool → Option ℕ → Bool → ℕ → Host → LinkState
link_state_made hold came went ended calls dialled listens host =
    record { hold = hold; came = came; went = went; ended = ended; calls = calls; dialled = dialled; listens = listens; host = host }

-- at first there is none
pub fresh : (host : Host) (m : MemoryEnd) → HasNone left_in went_in m.stream → m.memory_ports.port_table.stay ≡ Stays.Free → m.memory_ports.port_table.wire.came.items ≡ []
    → m.memory_ports.port_table.wire.went.items ≡ [] → m.memory_ports.port_table.wire.closed ≡ Closes.No → m.memory_ports.port_table.calls ≡ None → m.memory_ports.port_table.dialled ≡ false → m.memory_ports.port_table.listens ≡ 0
    → m.memory_ports.port_table.host ≡ host → IsFresh host m
fresh host m none stay came went closed calls undialled untold is_host =
    let port_table = m.memory_ports.port_table in
    let channel : plain_in m.stream ≡ no_channel None = sym (plain_is None m.stream) ∙ ap plain_channel (none None) in
    let stands : (plain_in m.stream).stands ≡ false = ap (λ (l : Channel). l.stands) channel in
    let hold = there_of (plain_in m.stream).stands (hold_by (plain_in m.stream).fate) (hold_at port_table.stay) stands ∙ ap hold_at stay in
    let octets = there (plain_in m.stream).stands (told_in came_of_wire m.stream) port_table.wire.came.items stands ∙ came in
    let gone = there (plain_in m.stream).stands (told_in went_in m.stream) port_table.wire.went.items stands ∙ went in
    record {
      link_state = ap (λ h. link_state_made h (came_at m) (went_at m) (is_ended port_table.wire.closed) port_table.calls port_table.dialled port_table.listens port_table.host) hold
          ∙ ap (λ c. link_state_made Has_not c (went_at m) (is_ended port_table.wire.closed) port_table.calls port_table.dialled port_table.listens port_table.host) octets
          ∙ ap (λ w. link_state_made Has_not [] w (is_ended port_table.wire.closed) port_table.calls port_table.dialled port_table.listens port_table.host) gone
          ∙ ap (λ c. link_state_made Has_not [] [] (is_ended c) port_table.calls port_table.dialled port_table.listens port_table.host) closed
          ∙ ap (λ c. link_state_made Has_not [] [] false c port_table.dialled port_table.listens port_table.host) calls
          ∙ ap (λ d. link_state_made Has_not [] [] false None d port_table.listens port_table.host) undialled
          ∙ ap (λ n. link_state_made Has_not [] [] false None false n port_table.host) untold ∙ ap (λ h. link_state_made Has_not [] [] false None false 0 h) is_host;
      channel = channel;
    }
