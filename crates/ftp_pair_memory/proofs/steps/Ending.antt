-- Why an operation is not answered: turns that were the last, and rounds in a row.
use Rattle.std.proofs.Common.{◌≡◌, ℕ, suc, length, Bool, true, false, not, List, [], ◌∷◌, ◌≤◌, ◌<◌, arith, inr, Option, Some, None, is_some, refl}
use Rattle.std.proofs.Common.{sym, ap, subst, ◌∙◌}
use Rattle.std.specs.Prelude.{⊤}
use Rattle.ftp_ports.specs.Channel.{Channel}
use Rattle.ftp_ports.specs.Machine.{held}
use Rattle.ftp_client_model.specs.Calls.{handed_back, is_busy}
use Rattle.ftp_client_model.specs.Failing.{Client as NearEnd, Holds}
use Rattle.ftp_driver.specs.Standing.{channel_at}
use Rattle.ftp_operation.specs.declared.answer.Answer.{Answer}
use Rattle.ftp_operation.specs.declared.op.Op.{Op}
use Rattle.ftp_pair_memory.specs.streams.MemoryEnds.{plain_in, told_channel}
use Rattle.ftp_pair_memory.specs.streams.PortTableMoves.{left_in, went_in}
use Rattle.ftp_pair_memory.specs.streams.PortTables.{asked_of}
use Rattle.ftp_pair_memory.specs.steps.Seating.{Pair, nothing_left}
use Rattle.ftp_pair_memory.specs.steps.Stopping.{AreSilent, AsksUnanswered, Begun, Busy, FarGoes, FarOn, IsRefused, IsTurn, IsUnanswered, Made}
use Rattle.ftp_pair_memory.specs.steps.Stopping.{NearGoes, RoundGoes, Rounded, SettlesNot, Silent, Spent, Stopped, StopsIn, Unsettled}
use Rattle.ftp_pair_memory.specs.steps.Taking.{Begins}
use Rattle.ftp_pair_memory.specs.steps.Turning.{FarTurned, NearTurned}
use Rattle.ftp_pair_memory.specs.declared.streams.memory_end.MemoryEnd.{MemoryEnd}
use Rattle.ftp_pair_memory.specs.declared.steps.turn_ending.Course.{Course}
use Rattle.ftp_pair_memory.specs.declared.steps.turn_ending.Course.TheVariants as Courses
use Rattle.ftp_pair_memory.specs.declared.steps.turn_ending.Stop.{Stop}
use Rattle.ftp_pair_memory.specs.declared.steps.turn_ending.Stop.TheVariants as Stops

-- ---- a turn

-- an end sees the same of a data connection where it was told only that octets of the control connection came
pub told_same : (told met : MemoryEnd) → told.stream ≡ met.stream → told.memory_ports.port_table ≡ met.memory_ports.port_table
    → told_channel told ≡ told_channel met
told_same told met stream port_table =
    ap (λ s. channel_at left_in went_in (Some (asked_of told.memory_ports.port_table)) s []) stream
    ∙ ap (λ t. channel_at left_in went_in (Some (asked_of t)) met.stream []) port_table

-- what the client's drive did in a turn is what both ends did
pub near_goes : {A : Type 0} (course : Course (Answer A)) (old new : Pair) (saw sees : Channel) → IsTurn old.near old.far new.near new.far saw sees
    → NearTurned course (held old.client saw) (held new.client sees) old.control.to_client new.control.to_client old.control.to_server new.control.to_server
    → new.server ≡ old.server → NearGoes course old new
near_goes (Courses.Over answer) old new saw sees turn did server = tt
near_goes Courses.On old new saw sees turn did server = record { saw = saw; sees = sees; turn = turn; did = did; server = server }
near_goes (Courses.Off (Stops.Broken cause)) old new saw sees turn did server = record { saw = saw; sees = sees; turn = turn; did = did; server = server }
near_goes (Courses.Off Stops.Unheard) old new saw sees turn did server = record { saw = saw; sees = sees; turn = turn; did = did; server = server }
near_goes (Courses.Off Stops.Done) old new saw sees turn did server = absurd did
near_goes (Courses.Off Stops.Unmet) old new saw sees turn did server = absurd did
near_goes (Courses.Off Stops.Unknown) old new saw sees turn did server = absurd did

-- and so it is of the server's
pub far_goes : (course : Course ⊤) (old new : Pair) (saw sees : Channel) → IsTurn old.far old.near new.far new.near saw sees
    → FarTurned course (held old.server saw) (held new.server sees) old.control.to_server new.control.to_server old.control.to_client new.control.to_client
    → new.client ≡ old.client → FarGoes course old new
far_goes (Courses.Over over) old new saw sees turn did client = record { saw = saw; sees = sees; turn = turn; did = did; client = client }
far_goes Courses.On old new saw sees turn did client = record { saw = saw; sees = sees; turn = turn; did = did; client = client }
far_goes (Courses.Off (Stops.Broken cause)) old new saw sees turn did client = record { saw = saw; sees = sees; turn = turn; did = did; client = client }
far_goes (Courses.Off Stops.Unheard) old new saw sees turn did client = record { saw = saw; sees = sees; turn = turn; did = did; client = client }
far_goes (Courses.Off Stops.Done) old new saw sees turn did client = absurd did
far_goes (Courses.Off Stops.Unmet) old new saw sees turn did client = absurd did
far_goes (Courses.Off Stops.Unknown) old new saw sees turn did client = absurd did

-- ---- rounds

-- the client's turn after one of the server
pub round_goes : {A : Type 0} (course : Course (Answer A)) (old mid new : Pair) → FarOn old mid → NearGoes course mid new → RoundGoes course old new
round_goes (Courses.Over answer) old mid new first second = tt
round_goes Courses.On old mid new first second = record { mid = mid; first = first; second = second }
round_goes (Courses.Off stop) old mid new first second = inr (record { mid = mid; first = first; second = second })

-- so many rounds were made, and after the last so many of them nothing lay in the control connection
pub record Going (silent made : ℕ) (old now : Pair) : Type 0 where
  pub stands : List Pair
  pub rounds : Made stands old now
  pub quiet : AreSilent silent (now ∷ stands)
  pub long : length stands ≡ made

-- none was
pub going_none : (at : Pair) → Going 0 0 at at
going_none at = record { stands = []; rounds = refl; quiet = tt; long = refl }

-- one more, after which octets lie there
pub going_on : (silent made : ℕ) (old now next : Pair) → Going silent made old now → Rounded now next → Going 0 (suc made) old next
going_on silent made old now next going round =
    record { stands = now ∷ going.stands; rounds = (going.rounds, round); quiet = tt; long = ap suc going.long }

-- one more, after which none does
pub going_silent : (silent made : ℕ) (old now next : Pair) → Going silent made old now → Rounded now next → next.control ≡ nothing_left
    → Going (suc silent) (suc made) old next
going_silent silent made old now next going round none =
    record { stands = now ∷ going.stands; rounds = (going.rounds, round); quiet = (none, going.quiet); long = ap suc going.long }

-- one more, after which something lies there or not
pub going_with : (is_silent : Bool) (silent count made after : ℕ) (old now next : Pair) → Going silent made old now → Rounded now next → after ≡ suc made
    → (is_silent ≡ true → next.control ≡ nothing_left) → (is_silent ≡ true → count ≡ suc silent) → (is_silent ≡ false → count ≡ 0) → Going count after old next
going_with true silent count made after old now next going round is none more zeros =
    subst (λ n. Going n after old next) (sym (more refl))
    (subst (λ n. Going (suc silent) n old next) (sym is) (going_silent silent made old now next going round (none refl)))
going_with false silent count made after old now next going round is none more zeros =
    subst (λ n. Going n after old next) (sym (zeros refl)) (subst (λ n. Going 0 n old next) (sym is) (going_on silent made old now next going round))

-- and these are no more than eight
pub few_with : (is_silent : Bool) (silent count : ℕ) → silent < 8 → (is_silent ≡ true → count ≡ suc silent) → (is_silent ≡ false → count ≡ 0) → count ≤ 8
few_with true silent count few more zeros = omega (arith, more refl)
few_with false silent count few more zeros = omega (arith, zeros refl)

-- no round comes after: the last one was stopped
pub stopped_after : (silent made : ℕ) (old now new : Pair) (stop : Stop) → Going silent made old now → StopsIn stop now new → Unsettled old new
stopped_after silent made old now new stop going stops =
    record { stands = going.stands; mid = now; made = going.rounds; enough = Stopped stop stops }

-- or nothing lay in the control connection for so long
pub silent_after : (silent made : ℕ) (old now new : Pair) → Going silent made old now → Rounded now new → silent ≡ 8 → Unsettled old new
silent_after silent made old now new going round is = record {
  stands = now ∷ going.stands;
  mid = new;
  made = (going.rounds, round);
  enough = Silent refl (subst (λ n. AreSilent n (now ∷ going.stands)) is going.quiet);
}

-- or all were made
pub spent_after : (silent made : ℕ) (old now : Pair) → Going silent made old now → made ≡ 1099511627776 → Unsettled old now
spent_after silent made old now going is =
    record { stands = going.stands; mid = now; made = going.rounds; enough = Spent refl (going.long ∙ is) }

-- ---- an operation

-- a client that handed it back was busy
pub was_busy : (busy : Bool) (op : Op (List ℕ)) (left : Option (Op (List ℕ))) → left ≡ handed_back busy (Some op) → is_some left ≡ true → busy ≡ true
was_busy true op left e some = refl
was_busy false op left e some = sym (ap is_some e) ∙ some

pub refused : (op : Op (List ℕ)) (old new : NearEnd) (left : Option (Op (List ℕ))) (found : Bool) → left ≡ handed_back (is_busy old.view) (Some op)
    → is_some left ≡ not found → found ≡ false → (is_busy old.view ≡ true → Holds old new old.view) → IsRefused old new
refused op old new left found is some none holds =
    let busy = was_busy (is_busy old.view) op left is (some ∙ ap not none) in
    (busy, holds busy)

-- it was begun by a client beside the same data connection
pub asks_not : {A : Type 0} (op : Op (List ℕ)) (given : Option (Answer A)) (old new : Pair) (begun : NearEnd) (near : MemoryEnd) → near ≡ old.near
    → Begins op (held old.client (plain_in old.near.stream)) (held begun (plain_in near.stream))
    → SettlesNot given (record old { client = begun; near = near }) new → AsksUnanswered op given old new
asks_not op (Some answer) old new begun near same begins settles = tt
asks_not op None old new begun near same begins settles = Begun (record {
  begun = begun;
  begins = subst (λ (m : MemoryEnd). Begins op (held old.client (plain_in old.near.stream)) (held begun (plain_in m.stream))) same begins;
  unsettled = subst (λ (m : MemoryEnd). Unsettled (record old { client = begun; near = m }) new) same settles;
})

-- or not, since the client was busy
pub asks_refused : (op : Op (List ℕ)) (old : Pair) (client : NearEnd) (near : MemoryEnd) → near ≡ old.near → IsRefused old.client client
    → IsUnanswered op old (record old { client = client; near = near })
asks_refused op old client near same refused = Busy refused (ap (λ m. record old { client = client; near = m }) same)
