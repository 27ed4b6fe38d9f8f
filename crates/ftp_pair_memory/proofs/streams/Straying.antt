-- Who has a data connection, where an end and its ports don't agree on that, or where a turn can't begin.
use Rattle.std.proofs.Common.{◌≡◌, ◌⊎◌, inl, inr, Bool, true, false, not, true≢false, None, refl, sym, ap, ◌∙◌}
use Rattle.ftp_driver.specs.Standing.{IsExchanged, IsSameChannel}
use Rattle.ftp_driver.specs.declared.data.Data.{Data}
use Rattle.ftp_ports.specs.Channel.{Channel}
use Rattle.ftp_pair_memory.specs.streams.PortTableMoves.{hold_at, is_back, is_ended, is_out}
use Rattle.ftp_pair_memory.specs.streams.MemoryEnds.{Another, Astray, CannotMeet, IsUnknown, KnowsHolder, Own_astray, Peer_astray, mark_of_wire, plain_in}
use Rattle.ftp_pair_memory.specs.declared.streams.memory_end.MemoryEnd.{MemoryEnd}
use Rattle.ftp_pair_memory.specs.declared.streams.wire.Wire.{Wire}
use Rattle.ftp_pair_memory.proofs.streams.Lifting.{stands_still, stood, stood_not, told_after}

-- ---- an end and its ports

-- the end has it, and its ports say not
pub astray_out : (before after : Wire) (m : MemoryEnd) (new : Data Wire) → IsExchanged before after m.stream new → is_out m.memory_ports.port_table.stay ≡ false
    → KnowsHolder m → ⊥
astray_out before after m new exchanged not_out knows = true≢false (sym (stood before after m.stream new exchanged) ∙ knows ∙ not_out)

-- the end has none, and its ports say that it has
pub astray_there : (m : MemoryEnd) → m.stream.connection.stream ≡ None → is_out m.memory_ports.port_table.stay ≡ true → KnowsHolder m → ⊥
astray_there m none out knows = true≢false (sym out ∙ sym knows ∙ stood_not m.stream none)

-- ---- before a turn

-- what was written could not be brought on, nor could it before both dials were answered
pub astray_before : (own peer own_2 peer_2 : MemoryEnd) → (KnowsHolder own → KnowsHolder own_2) → (KnowsHolder peer → KnowsHolder peer_2)
    → (KnowsHolder own_2 → ⊥) ⊎ (KnowsHolder peer_2 → ⊥) → CannotMeet own peer
astray_before own peer own_2 peer_2 owns peers (inl astray) = Own_astray (λ k. astray (owns k))
astray_before own peer own_2 peer_2 owns peers (inr astray) = Peer_astray (λ k. astray (peers k))

-- ---- after a turn

-- the end has one that is not its ports' own
pub another_one : (wire none back : Wire) (mid : Data Wire) (old new : MemoryEnd) → IsExchanged wire none old.stream mid → IsExchanged back wire mid new.stream
    → is_back (hold_at old.memory_ports.port_table.stay) (is_ended old.memory_ports.port_table.wire.closed) (is_ended wire.closed) ≡ false
    → new.memory_ports.port_table ≡ old.memory_ports.port_table → IsUnknown new
another_one wire none back mid old new first second not_own same =
    Another (is_ended wire.closed) (stands_still back wire mid new.stream second) (told_after back wire mid new.stream second mark_of_wire)
    (ap (λ d. is_back (hold_at d.stay) (is_ended d.wire.closed) (is_ended wire.closed)) same ∙ not_own)

pub so_not : (is : Bool) → not is ≡ false → is ≡ true
so_not true e = refl
so_not false e = sym e

-- one that was put in its place stands there
pub never_gone : (wire none : Wire) (old mid : Data Wire) → IsExchanged wire none old mid → mid.connection.stream ≡ None → ⊥
never_gone wire none old mid exchanged gone = true≢false (sym (stands_still wire none old mid exchanged) ∙ stood_not mid gone)

-- the end has none, and its ports say that it has
pub gone_astray : (old new : MemoryEnd) → old.stream.connection.stream ≡ None → IsSameChannel old.stream new.stream
    → is_out old.memory_ports.port_table.stay ≡ true → new.memory_ports.port_table ≡ old.memory_ports.port_table → IsUnknown new
gone_astray old new none channel out same =
    let stands : (plain_in new.stream).stands ≡ false =
    ap (λ (l : Channel). l.stands) (channel (λ w. None) (λ w. None) None) ∙ stood_not old.stream none in
    Astray (λ knows. true≢false (sym out ∙ sym (ap (λ d. is_out d.stay) same) ∙ sym knows ∙ stands))
