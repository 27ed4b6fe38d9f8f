-- What a step of a decoder makes of signs.
use Rattle.std.specs.Prelude.{◌≡◌, ℕ, ◌+◌, ◌<◌, ◌≤◌, List, [], ◌++◌, length, take}
use Rattle.ftp_pieces.specs.Machine.{after, gives}
use Rattle.ftp_repr.specs.Signs.{Sign}
use Rattle.ftp_repr.specs.Receiving.{receiving}
use Rattle.ftp_repr.specs.Received.{receiver_form, taking_at_stage, lent_octets, comes_with}
use Rattle.ftp_repr.specs.declared.item.Lent.{Lent}
use Rattle.ftp_mode.specs.Said.{file_signs}
use Rattle.ftp_mode.specs.Deframing.{reading, owed}
use Rattle.ftp_wire.specs.Decoder.{Decoder}
use Rattle.ftp_wire.specs.declared.decoded.Decoded.{Decoded}
use Rattle.ftp_wire.specs.declared.decoded.Decoded.TheVariants.{More, Faulty, Over, NoMemory}
use Rattle.ftp_wire.specs.declared.intake.Stopped.{Stopped}
use Rattle.ftp_wire.specs.declared.intake.Intake.{Intake}

-- where the readers stand and what they filled, as a decoder
abbrev pub decoder_at : {S : Type 0} → (S → List ℕ) → Intake S → Decoder
decoder_at octets i = record {
  form = receiver_form i.receiver;
  reading = reading i.deframer;
  taking = taking_at_stage i.receiver;
  content = octets i.sink;
}

-- signs are settled in order
abbrev pub settled : Decoder → List Sign → Decoder
settled d ss = record d {
  taking = after (receiving d.form) d.taking ss;
  content = d.content ++ gives (receiving d.form) d.taking ss;
}

-- the room is less by what came
abbrev pub KeepsRoom : {S : Type 0} → (S → List ℕ) → Intake S → ℕ → Intake S → ℕ → Type 0
KeepsRoom octets old before new room = length (octets new.sink) + room ≡ length (octets old.sink) + before

-- why signs were not settled whole
abbrev pub StopsBy : ℕ → Decoder → List Sign → Decoded → Type 0
StopsBy most d ss Over = most < length (settled d ss).content
StopsBy most d ss NoMemory = Unit {0}
StopsBy most d ss More = ⊥
StopsBy most d ss (Faulty fault) = ⊥

-- the signs before one had room, and with it there was no room or no memory
pub record Stops (most : ℕ) (d : Decoder) (ss : List Sign) (stopped : Stopped) : Type 0 where
  pub within : stopped.at < length ss
  pub front : length (settled d (take stopped.at ss)).content ≤ most
  pub by : StopsBy most d (take (stopped.at + 1) ss) stopped.heard

-- the ends that were owed are settled, or there was no room or no memory for them
abbrev pub EndsShort : {S : Type 0} → (S → List ℕ) → Intake S → ℕ → Decoded → Intake S → ℕ → Type 0
EndsShort octets old before More new room =
    (decoder_at octets new ≡ settled (decoder_at octets old) (file_signs (owed old.deframer))) × (owed new.deframer ≡ []) × KeepsRoom octets old before new room
EndsShort octets old before (Faulty fault) new room = ⊥
EndsShort octets old before Over new room = length (octets old.sink) + before < length (settled (decoder_at octets old) (file_signs (owed old.deframer))).content
EndsShort octets old before NoMemory new room = Unit {0}

-- what was lent had no room, and the sign is named that the first octet without room comes with; or no memory
abbrev pub HasNoRoomBy : Lent → ℕ → ℕ → Decoded → Type 0
HasNoRoomBy lent room at Over = (room < length (lent_octets lent)) × (at ≡ comes_with lent room)
HasNoRoomBy lent room at NoMemory = at ≡ 0
HasNoRoomBy lent room at More = ⊥
HasNoRoomBy lent room at (Faulty fault) = ⊥

abbrev pub HasNoRoom : Lent → ℕ → Stopped → Type 0
HasNoRoom lent room stopped = HasNoRoomBy lent room stopped.at stopped.heard
