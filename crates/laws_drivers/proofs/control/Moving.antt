-- Two actions of a data connection, of different ends, change places.
use Rattle.std.proofs.Common.{◌≡◌, ℕ, Bool, true, false, true≢false, List, [], ◌++◌, None, Some, refl, sym, ap, subst, ◌∙◌, append_assoc}
use Rattle.laws_drivers.specs.control.Between.{Between, Can, Far, Has, Has_ended, Has_lost, Has_not, Awaits, Hold, Is_called, IsStanding, Near, Who, coming_to, hold_of, peer, sent, with_coming, with_hold}
use Rattle.laws_drivers.specs.control.Swaps.{IsMoving, MovingActionsChangePlaces}
use Rattle.laws_drivers.specs.control.Touches.{Touch, None_of_it, Says, Reads, Parts, Listens, Dials, Accepts, IsDenied, IsMissed, Writes, Takes, Ends, Resets, ToldEnd, ToldBreak}
use Rattle.laws_drivers.proofs.control.Swapping.{same_rest}

-- ---- what such an action does

-- how an end stands to it changes
data Change : Type 0 where
  Accepted Ended Reset Broken : Change

-- nothing is done, or that; its end is told; octets are written, read
data Act : Type 0 where
  Rests : Act
  Changes : (change : Change) → Act
  IsTold : Act
  Gives Gets : (octets : List ℕ) → Act

-- where it can
abbrev From : Change → Hold → Type 0
From Accepted hold = hold ≡ Is_called
From Ended hold = hold ≡ Has
From Reset hold = IsStanding hold
From Broken hold = hold ≡ Has

abbrev to : Change → Hold
to Accepted = Has
to Ended = Has_ended
to Reset = Has_lost
to Broken = Has_lost

abbrev CanAct : Who → Act → (old new : Between) → Type 0
CanAct who Rests old new = new ≡ old
CanAct who (Changes change) old new = From change (hold_of who old) × (new ≡ with_hold who (to change) old)
CanAct who IsTold old new = (hold_of (peer who) old ≡ Has_ended) × (coming_to who old.data_ways ≡ []) × (new ≡ old)
CanAct who (Gives octets) old new = (hold_of who old ≡ Has) × (new ≡ record old { data_ways = sent who octets old.data_ways })
CanAct who (Gets octets) old new =
    (hold_of who old ≡ Has) × (coming_to who old.data_ways ≡ octets ++ coming_to who new.data_ways)
    × (new ≡ record old { data_ways = with_coming who (coming_to who new.data_ways) old.data_ways })

abbrev act_of : Touch → Act
act_of (Accepts host) = Changes Accepted
act_of (Writes octets) = Gives octets
act_of (Takes octets) = Gets octets
act_of Ends = Changes Ended
act_of Resets = Changes Reset
act_of ToldEnd = IsTold
act_of ToldBreak = Changes Broken
act_of other = Rests

-- it does just that
acts : (who : Who) (touch : Touch) (old new : Between) → IsMoving touch → Can who touch old new → CanAct who (act_of touch) old new
acts who Parts old new is can = can
acts who (Listens None) old new is can = can
acts who (Accepts host) old new is can = can
acts who (IsDenied endpoint) old new is can = can
acts who IsMissed old new is can = can
acts who (Writes octets) old new is can = can
acts who (Takes octets) old new is can = can
acts who Ends old new is can = can
acts who Resets old new is can = can
acts who ToldEnd old new is can = can
acts who ToldBreak old new is can = can
acts who touch old new is can = absurd is

does : (who : Who) (touch : Touch) (old new : Between) → IsMoving touch → CanAct who (act_of touch) old new → Can who touch old new
does who Parts old new is can = can
does who (Listens None) old new is can = can
does who (Accepts host) old new is can = can
does who (IsDenied endpoint) old new is can = can
does who IsMissed old new is can = can
does who (Writes octets) old new is can = can
does who (Takes octets) old new is can = can
does who Ends old new is can = can
does who Resets old new is can = can
does who ToldEnd old new is can = can
does who ToldBreak old new is can = can
does who touch old new is can = absurd is

-- ---- each end in the other's place

abbrev mirror : Between → Between
mirror between = record {
  control = record { to_server = between.control.to_client; to_client = between.control.to_server };
  data_ways = record { to_server = between.data_ways.to_client; to_client = between.data_ways.to_server };
  near = between.far;
  far = between.near;
}

mirrored : (act : Act) (old new : Between) → CanAct Near act old new → CanAct Far act (mirror old) (mirror new)
mirrored Rests old new can = ap mirror can
mirrored (Changes change) old new can = (can.0, ap mirror can.1)
mirrored IsTold old new can = (can.0, can.1, ap mirror can.2)
mirrored (Gives octets) old new can = (can.0, ap mirror can.1)
mirrored (Gets octets) old new can = (can.0, can.1, ap mirror can.2)

mirrored_back : (act : Act) (old new : Between) → CanAct Far act old new → CanAct Near act (mirror old) (mirror new)
mirrored_back Rests old new can = ap mirror can
mirrored_back (Changes change) old new can = (can.0, ap mirror can.1)
mirrored_back IsTold old new can = (can.0, can.1, ap mirror can.2)
mirrored_back (Gives octets) old new can = (can.0, ap mirror can.1)
mirrored_back (Gets octets) old new can = (can.0, can.1, ap mirror can.2)

-- ---- what can't be

is_ended : Hold → Bool
is_ended Has_ended = true
is_ended other = false

-- one that an end has is not ended there
not_ended : (hold : Hold) → hold ≡ Has → hold ≡ Has_ended → ⊥
unfolding is_ended
not_ended hold has ended = true≢false (sym (ap is_ended ended) ∙ ap is_ended has)

-- nor is one that changes so
never : (change : Change) (hold : Hold) → From change hold → hold ≡ Has_ended → ⊥
unfolding is_ended
never Accepted hold from ended = true≢false (sym (ap is_ended ended) ∙ ap is_ended from)
never Ended hold from ended = not_ended hold from ended
never Reset hold from ended = subst IsStanding ended from
never Broken hold from ended = not_ended hold from ended

-- ---- the server's leaves but one thing

once : (act : Act) (old one other : Between) → CanAct Far act old one → CanAct Far act old other → one ≡ other
once Rests old one other a b = a ∙ sym b
once (Changes change) old one other a b = a.1 ∙ sym b.1
once IsTold old one other a b = a.2 ∙ sym b.2
once (Gives octets) old one other a b = a.1 ∙ sym b.1
once (Gets octets) old one other a b =
    let rest = same_rest octets one.data_ways.to_server other.data_ways.to_server (sym a.1 ∙ b.1) in
    a.2 ∙ ap (λ (l : List ℕ). record old { data_ways = record old.data_ways { to_server = l } }) rest ∙ sym b.2

-- ---- the client's first, and then the server's

-- the client's changes how it stands
after_change : (change : Change) (second : Act) (old mid new other : Between) → CanAct Near (Changes change) old mid → CanAct Far second mid new
    → CanAct Far second old other → CanAct Near (Changes change) other new
after_change change Rests old mid new other one two alone =
    (subst (λ (m : Between). From change m.near) (sym alone) one.0, two ∙ one.1 ∙ ap (λ (m : Between). record m { near = to change }) (sym alone))
after_change change (Changes more) old mid new other one two alone = (
  subst (λ (m : Between). From change m.near) (sym alone.1) one.0,
  two.1 ∙ ap (λ (m : Between). record m { far = to more }) one.1 ∙ ap (λ (m : Between). record m { near = to change }) (sym alone.1),
)
after_change change IsTold old mid new other one two alone = absurd (never change old.near one.0 alone.0)
after_change change (Gives octets) old mid new other one two alone = (
  subst (λ (m : Between). From change m.near) (sym alone.1) one.0,
  two.1 ∙ ap (λ (m : Between). record m { data_ways = sent Far octets m.data_ways }) one.1 ∙ ap (λ (m : Between). record m { near = to change }) (sym alone.1),
)
after_change change (Gets octets) old mid new other one two alone =
    let rest = same_rest octets new.data_ways.to_server other.data_ways.to_server
    (sym two.1 ∙ ap (λ (m : Between). m.data_ways.to_server) one.1 ∙ alone.1) in (
      subst (λ (m : Between). From change m.near) (sym alone.2) one.0,
      two.2 ∙ ap (λ (m : Between). record m { data_ways = record m.data_ways { to_server = new.data_ways.to_server } }) one.1
          ∙ ap (λ (l : List ℕ). record old { near = to change; data_ways = record old.data_ways { to_server = l } }) rest
          ∙ ap (λ (m : Between). record m { near = to change }) (sym alone.2),
    )

-- the client writes
after_giving : (given : List ℕ) (second : Act) (old mid new other : Between) → CanAct Near (Gives given) old mid → CanAct Far second mid new
    → CanAct Far second old other → CanAct Near (Gives given) other new
after_giving given Rests old mid new other one two alone =
    (ap (λ (m : Between). m.near) alone ∙ one.0, two ∙ one.1 ∙ ap (λ (m : Between). record m { data_ways = sent Near given m.data_ways }) (sym alone))
after_giving given (Changes change) old mid new other one two alone = (
  ap (λ (m : Between). m.near) alone.1 ∙ one.0,
  two.1 ∙ ap (λ (m : Between). record m { far = to change }) one.1 ∙ ap (λ (m : Between). record m { data_ways = sent Near given m.data_ways }) (sym alone.1),
)
after_giving given IsTold old mid new other one two alone = absurd (not_ended old.near one.0 alone.0)
after_giving given (Gives octets) old mid new other one two alone = (
  ap (λ (m : Between). m.near) alone.1 ∙ one.0,
  two.1 ∙ ap (λ (m : Between). record m { data_ways = sent Far octets m.data_ways }) one.1
      ∙ ap (λ (m : Between). record m { data_ways = sent Near given m.data_ways }) (sym alone.1),
)
after_giving given (Gets octets) old mid new other one two alone =
    let there : mid.data_ways.to_server ≡ old.data_ways.to_server ++ given = ap (λ (m : Between). m.data_ways.to_server) one.1 in
    let rest : new.data_ways.to_server ≡ other.data_ways.to_server ++ given =
    same_rest octets new.data_ways.to_server (other.data_ways.to_server ++ given)
    (sym two.1 ∙ there ∙ ap (λ l. l ++ given) alone.1 ∙ append_assoc octets other.data_ways.to_server given) in (
      ap (λ (m : Between). m.near) alone.2 ∙ one.0,
      two.2 ∙ ap (λ (m : Between). record m { data_ways = record m.data_ways { to_server = new.data_ways.to_server } }) one.1
          ∙ ap (λ (l : List ℕ). record old { data_ways = record old.data_ways { to_server = l } }) rest
          ∙ ap (λ (m : Between). record m { data_ways = record m.data_ways { to_server = other.data_ways.to_server ++ given } }) (sym alone.2),
    )

-- the client reads
after_getting : (gotten : List ℕ) (second : Act) (old mid new other : Between) → CanAct Near (Gets gotten) old mid → CanAct Far second mid new
    → CanAct Far second old other → CanAct Near (Gets gotten) other new
after_getting gotten Rests old mid new other one two alone = (
  ap (λ (m : Between). m.near) alone ∙ one.0,
  ap (λ (m : Between). m.data_ways.to_client) alone ∙ one.1 ∙ ap (λ (m : Between). gotten ++ m.data_ways.to_client) (sym two),
  two ∙ one.2 ∙ ap (λ (m : Between). record m { data_ways = record m.data_ways { to_client = mid.data_ways.to_client } }) (sym alone)
      ∙ ap (λ (m : Between). record other { data_ways = record other.data_ways { to_client = m.data_ways.to_client } }) (sym two),
)
after_getting gotten (Changes change) old mid new other one two alone =
    let kept : new.data_ways.to_client ≡ mid.data_ways.to_client = ap (λ (m : Between). m.data_ways.to_client) two.1 in (
      ap (λ (m : Between). m.near) alone.1 ∙ one.0,
      ap (λ (m : Between). m.data_ways.to_client) alone.1 ∙ one.1 ∙ ap (λ l. gotten ++ l) (sym kept),
      two.1 ∙ ap (λ (m : Between). record m { far = to change }) one.2
          ∙ ap (λ (m : Between). record m { data_ways = record m.data_ways { to_client = mid.data_ways.to_client } }) (sym alone.1)
          ∙ ap (λ (l : List ℕ). record other { data_ways = record other.data_ways { to_client = l } }) (sym kept),
    )
after_getting gotten IsTold old mid new other one two alone = absurd (not_ended old.near one.0 alone.0)
after_getting gotten (Gives octets) old mid new other one two alone =
    let kept : new.data_ways.to_client ≡ mid.data_ways.to_client ++ octets = ap (λ (m : Between). m.data_ways.to_client) two.1 in (
      ap (λ (m : Between). m.near) alone.1 ∙ one.0,
      ap (λ (m : Between). m.data_ways.to_client) alone.1 ∙ ap (λ l. l ++ octets) one.1 ∙ append_assoc gotten mid.data_ways.to_client octets
          ∙ ap (λ l. gotten ++ l) (sym kept),
      two.1 ∙ ap (λ (m : Between). record m { data_ways = record m.data_ways { to_client = mid.data_ways.to_client ++ octets } }) one.2
          ∙ ap (λ (m : Between). record m { data_ways = record m.data_ways { to_client = mid.data_ways.to_client ++ octets } }) (sym alone.1)
          ∙ ap (λ (l : List ℕ). record other { data_ways = record other.data_ways { to_client = l } }) (sym kept),
    )
after_getting gotten (Gets octets) old mid new other one two alone =
    let kept : new.data_ways.to_client ≡ mid.data_ways.to_client = ap (λ (m : Between). m.data_ways.to_client) two.2 in
    let rest = same_rest octets new.data_ways.to_server other.data_ways.to_server
    (sym two.1 ∙ ap (λ (m : Between). m.data_ways.to_server) one.2 ∙ alone.1) in (
      ap (λ (m : Between). m.near) alone.2 ∙ one.0,
      ap (λ (m : Between). m.data_ways.to_client) alone.2 ∙ one.1 ∙ ap (λ l. gotten ++ l) (sym kept),
      two.2 ∙ ap (λ (m : Between). record m { data_ways = record m.data_ways { to_server = new.data_ways.to_server } }) one.2
          ∙ ap (λ (l : List ℕ). record old { data_ways = record { to_server = l; to_client = mid.data_ways.to_client } }) rest
          ∙ ap (λ (m : Between). record m { data_ways = record m.data_ways { to_client = mid.data_ways.to_client } }) (sym alone.2)
          ∙ ap (λ (l : List ℕ). record other { data_ways = record other.data_ways { to_client = l } }) (sym kept),
    )

-- the client is told of the end: the server has ended it
after_telling : (second : Act) (old mid new other : Between) → CanAct Near IsTold old mid → CanAct Far second mid new
    → CanAct Far second old other → CanAct Near IsTold other new
after_telling Rests old mid new other one two alone = (
  ap (λ (m : Between). m.far) alone ∙ one.0,
  ap (λ (m : Between). m.data_ways.to_client) alone ∙ one.1,
  two ∙ one.2 ∙ sym alone,
)
after_telling (Changes change) old mid new other one two alone = absurd (never change old.far alone.0 one.0)
after_telling IsTold old mid new other one two alone = (
  ap (λ (m : Between). m.far) alone.2 ∙ one.0,
  ap (λ (m : Between). m.data_ways.to_client) alone.2 ∙ one.1,
  two.2 ∙ one.2 ∙ sym alone.2,
)
after_telling (Gives octets) old mid new other one two alone = absurd (not_ended old.far alone.0 one.0)
after_telling (Gets octets) old mid new other one two alone = absurd (not_ended old.far alone.0 one.0)

-- any
near_first : (first second : Act) (old mid new other : Between) → CanAct Near first old mid → CanAct Far second mid new → CanAct Far second old other
    → CanAct Near first other new
near_first Rests second old mid new other one two alone =
    once second old new other (subst (λ (m : Between). CanAct Far second m new) one two) alone
near_first (Changes change) second old mid new other one two alone = after_change change second old mid new other one two alone
near_first IsTold second old mid new other one two alone = after_telling second old mid new other one two alone
near_first (Gives octets) second old mid new other one two alone = after_giving octets second old mid new other one two alone
near_first (Gets octets) second old mid new other one two alone = after_getting octets second old mid new other one two alone

-- of either end
any_first : (who : Who) (first second : Act) (old mid new other : Between) → CanAct who first old mid → CanAct (peer who) second mid new
    → CanAct (peer who) second old other → CanAct who first other new
any_first Near first second old mid new other one two alone = near_first first second old mid new other one two alone
any_first Far first second old mid new other one two alone =
    mirrored first (mirror other) (mirror new)
    (near_first first second (mirror old) (mirror mid) (mirror new) (mirror other) (mirrored_back first old mid one) (mirrored second mid new two)
    (mirrored second old other alone))

pub moving_actions_change_places : MovingActionsChangePlaces
moving_actions_change_places who first second is also old mid new other one two alone =
    does who first other new is
    (any_first who (act_of first) (act_of second) old mid new other (acts who first old mid is one) (acts (peer who) second mid new also two)
    (acts (peer who) second old other also alone))
