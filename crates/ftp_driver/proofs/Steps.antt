-- What the parts of a drive say, put together.
use Rattle.std.proofs.Common.{◌≡◌, ◌∙◌, ◌⊎◌, ◌<◌, ◌≤◌, ◌+◌, ℕ, suc, length, [], ◌∷◌, drop, take, ap, inl, inr, refl, subst, sym, arith, List, Option, Result, Ok, Err}
use Rattle.std.specs.Option.{is_some}
use Rattle.std.specs.Prelude.{OnOk, Bool, IsErrAnd, true, false}
use Rattle.ftp_ports.specs.Asking.{Adds, Asked, Came, Connected, Ended, Listened, Lost, NotCame, NotConnected, Reset, Shut, told_lost}
use Rattle.ftp_ports.specs.Actions.{Stand, some_of, steps_in, with_owner}
use Rattle.ftp_ports.specs.Carrying.{told_by}
use Rattle.ftp_ports.specs.Driving.{Flushes, Fails, Goes, Leads, LeadsBy, LeadsFar}
use Rattle.ftp_ports.specs.Channel.{IsLeft, IsRead, Channel, channel_of, with_asked, with_fate, with_untold}
use Rattle.ftp_ports.specs.Machine.{IsFlushed, LeavesFlushed, GetsOn, Progresses, awaits, IsBroken, IsFairEnd, Machine, MayLeave, held, leaves as goes_without, side_of, stand_of}
use Rattle.ftp_ports.specs.Outcome.{IsDropped, IsReset}
use Rattle.ftp_ports.specs.Whole.{is_well}
use Rattle.ftp_ports.specs.declared.data.DataConnection.{DataConnection}
use Rattle.ftp_ports.specs.declared.control.Control.{Control}
use Rattle.ftp_ports.specs.Halting.{fate_by}
use Rattle.ftp_ports.specs.declared.cause.Cause.{Cause}
use Rattle.ftp_ports.specs.declared.data.Halt.{Halt}
use Rattle.ftp_ports.specs.declared.data.Halt.TheVariants as Halts
use Rattle.ftp_ports.specs.declared.whole.Fate.{Fate}
use Rattle.ftp_ports.specs.declared.whole.Rest.{Rest}
use Rattle.ftp_ports.specs.declared.whole.Fate.TheVariants as Fates
use Rattle.ftp_ports.proofs.Going.{goes_then}
use Rattle.ftp_ports.proofs.Idling.{asked_waits, breaks_told, came, came_none, leaves, waits}
use Rattle.ftp_ports.proofs.Channels.{same_channel}
use Rattle.ftp_ports.proofs.Getting.{gets_goes, progresses_lead, progresses_some, then_gets, then_progresses}
use Rattle.ftp_ports.proofs.Leading.{by_then, by_then_any, fails_spent, gives_up, leads_nowhere, leads_then, then_steps}
use Rattle.ftp_ends.specs.Octets.{has_octets}
use Rattle.ftp_ends.specs.declared.link.Wants.{Wants}
use Rattle.ftp_ends.specs.declared.link.Wants.TheVariants as Want
use Rattle.ftp_driver.specs.Calling.{Ends, IsOpenEnd, TurnsTo}
use Rattle.ftp_driver.specs.declared.drive.Turned.{Turned}
use Rattle.ftp_driver.specs.Standing.{asked_before}

-- an end beside a control connection, while these octets are in hand
abbrev pub handing : (machine : Machine) → {R W : Type 0} → (R → Option (List ℕ)) → (W → Option (List ℕ)) → machine.Here → Control R W → Channel → (untold : List ℕ) → Stand (side_of machine)
handing machine remaining contents here control channel untold = stand_of machine remaining contents (held here (with_untold untold channel)) control

-- where there are any octets, and where there are none
pub owes_some : (octets : List ℕ) → has_octets octets ≡ true → 0 < length octets
owes_some [] some = absurd (let e : false ≡ true = some in cc)
owes_some (octet ∷ octets) some = omega arith

pub owes_none : (octets : List ℕ) → has_octets octets ≡ false → octets ≡ []
owes_none [] none = refl
owes_none (octet ∷ octets) none = absurd (let e : true ≡ false = none in cc)

-- some octets are some
pub said_some : (octets : List ℕ) → 0 < length octets → 1 ≤ some_of octets
said_some [] some = some
said_some (octet ∷ octets) some = omega arith

-- a write that failed or not left it so
pub sent_fate : {T : Type 0} (r : Result T Halt) (fate : Fate) → fate ≡ fate_by r Fates.Sound → (fate ≡ Fates.Sound) ⊎ (fate ≡ Fates.Failed)
sent_fate (Ok value) fate is = inl is
sent_fate (Err Halts.Again) fate is = inl is
sent_fate (Err Halts.Spoken) fate is = inl is
sent_fate (Err Halts.Broken) fate is = inr is

-- what became of it is told, and all else is as it was
pub fated_channel : {S : Type 0} (remaining contents : S → Option (List ℕ)) (old new : DataConnection S) (fate : Fate) (asked : Option (List Asked)) (room untold : List ℕ)
    → new.stream ≡ old.stream → new.at ≡ old.at → new.end ≡ old.end → new.rest ≡ old.rest → new.fate ≡ fate
    → channel_of remaining contents asked new room untold ≡ with_fate fate (channel_of remaining contents asked old room untold)
fated_channel remaining contents old new fate asked room untold stream at end rest is =
    same_channel remaining contents (record old { fate = fate }) new asked room untold stream at end rest is

abbrev channel_by : Bool → Fate → Rest → (left written : Option (List ℕ)) → (unwritten untold : List ℕ) → Option (List Asked) → Channel
channel_by stands fate rest left written unwritten untold asked =
    record { stands = stands; fate = fate; rest = rest; left = left; written = written; unwritten = unwritten; untold = untold; asked = asked }

-- it was looked at, and is as it was
pub looked_channel : {S : Type 0} (remaining contents : S → Option (List ℕ)) (old new : DataConnection S) (asked : Option (List Asked)) (room untold : List ℕ)
    → told_by remaining new.stream ≡ told_by remaining old.stream → told_by contents new.stream ≡ told_by contents old.stream → new.at ≡ old.at → new.end ≡ old.end
    → new.rest ≡ old.rest → is_some new.stream ≡ is_some old.stream → new.fate ≡ old.fate
    → channel_of remaining contents asked new room untold ≡ channel_of remaining contents asked old room untold
looked_channel remaining contents old new asked room untold left written at end rest stands fate =
    let told = told_by remaining in let holds = told_by contents in
    ap (λ s. channel_by s new.fate new.rest (told new.stream) (holds new.stream) (drop new.at (take new.end room)) untold asked) stands
    ∙ ap (λ f. channel_by (is_some old.stream) f new.rest (told new.stream) (holds new.stream) (drop new.at (take new.end room)) untold asked) fate
    ∙ ap (λ r. channel_by (is_some old.stream) old.fate r (told new.stream) (holds new.stream) (drop new.at (take new.end room)) untold asked) rest
    ∙ ap (λ l. channel_by (is_some old.stream) old.fate old.rest l (holds new.stream) (drop new.at (take new.end room)) untold asked) left
    ∙ ap (λ w. channel_by (is_some old.stream) old.fate old.rest (told old.stream) w (drop new.at (take new.end room)) untold asked) written
    ∙ ap (λ n. channel_by (is_some old.stream) old.fate old.rest (told old.stream) (holds old.stream) (drop n (take new.end room)) untold asked) at
    ∙ ap (λ n. channel_by (is_some old.stream) old.fate old.rest (told old.stream) (holds old.stream) (drop old.at (take n room)) untold asked) end

-- one that an end wants no more may be left, where no read or write failed that it was not told
pub may_leave : (done : Type 0) (want : Wants) (fate : Fate) → goes_without want ≡ true → (fate ≡ Fates.Failed → ⊥) → MayLeave done want fate
may_leave done want Fates.Sound is told = inl is
may_leave done want Fates.Failed is told = absurd (told refl)
may_leave done want Fates.Broken is told = tt
may_leave done want Fates.Over is told = tt

-- where none stands, or it is told that it broke, a reset is fair
pub dropped_fair : (channel : Channel) (stands : Bool) (asked : Asked) → is_well channel.fate ≡ false → IsDropped stands channel.left channel.written asked → IsFairEnd channel asked
dropped_fair channel true asked broken is = subst (λ a. IsFairEnd channel a) (sym is) (inl broken)
dropped_fair channel false asked broken is = subst (λ a. IsFairEnd channel a) (sym is) tt

-- whatever became of one, it is left as it was
pub left_broken : (asked : Asked) (old new : Channel) → IsLeft asked old new → IsLeft asked (with_fate Fates.Broken old) new
left_broken asked old new left =
    record { ended = left.ended; adds = left.adds; stands = left.stands; fate = left.fate; rest = left.rest; unwritten = left.unwritten; untold = left.untold }

module _ (machine : Machine) where
  -- a read moved none, whether it failed or not
  pub came_nothing : (old : Stand (side_of machine)) (channel : Channel) → machine.wants old.owner.end ≡ Want.Receive
      → IsRead [] old.owner.channel (with_fate Fates.Sound (with_untold [] channel)) → (channel.fate ≡ Fates.Sound) ⊎ (channel.fate ≡ Fates.Failed)
      → Leads old (with_owner (held old.owner.end (with_untold [] channel)) old)
  came_nothing old channel wants read (inl sound) = came machine old channel [] [] wants read sound refl
  came_nothing old channel wants read (inr failed) = came_none machine old (with_untold [] channel) wants read failed

  -- it may be left in any way where all that the end owed is written; and by a reset at any time
  pub leaves_flushed : (here : machine.Here) (asked : Asked) → IsFlushed machine here → LeavesFlushed machine here asked
  leaves_flushed here (Listened port) flushed = tt
  leaves_flushed here (Came host left written) flushed = tt
  leaves_flushed here (Connected endpoint left written) flushed = tt
  leaves_flushed here NotCame flushed = tt
  leaves_flushed here (NotConnected endpoint) flushed = tt
  leaves_flushed here (Ended left written) flushed = inl flushed
  leaves_flushed here (Reset left written) flushed = tt
  leaves_flushed here Shut flushed = tt
  leaves_flushed here Lost flushed = tt

  dropped_flushed : (here : machine.Here) (stands : Bool) (left written : Option (List ℕ)) (asked : Asked) → IsDropped stands left written asked
      → LeavesFlushed machine here asked
  dropped_flushed here true left written asked is = subst (λ a. LeavesFlushed machine here a) (sym is) tt
  dropped_flushed here false left written asked is = subst (λ a. LeavesFlushed machine here a) (sym is) tt

  -- it is told that it broke, and it is reset
  pub loses : (old new : Stand (side_of machine)) (here : machine.Here) (asked : Asked) → machine.Break old.owner.end here
      → IsBroken (machine.wants old.owner.end) old.owner.channel.stands old.owner.channel.fate → IsReset asked old.owner.channel new.owner.channel
      → new ≡ with_owner (held here new.owner.channel) old → Progresses machine old new
  loses old new here asked broke is reset same =
      let channel = with_fate Fates.Broken old.owner.channel in
      let mid = with_owner (held here channel) old in
      then_progresses old mid new (breaks_told machine old.owner.end here old.owner.channel broke is old.left old.unheard old.written)
      (leaves machine asked mid new (left_broken asked old.owner.channel new.owner.channel reset.left) tt
      (dropped_fair channel old.owner.channel.stands asked refl reset.dropped)
      (dropped_flushed here old.owner.channel.stands old.owner.channel.left old.owner.channel.written asked reset.dropped) same)

  -- it was told that the control connection ended, or not
  pub asks : (lost : Bool) (old : Stand (side_of machine)) (h1 : Option (List Asked)) → awaits (machine.wants old.owner.end) ≡ true
      → Adds old.owner.channel.asked h1 (told_lost lost) → Leads old (asked_before h1 old)
  asks lost old h1 due told =
      let channel = old.owner.channel in
      progresses_lead _ _ (waits machine lost old.owner.end channel (with_asked h1 channel) due (asked_waits machine lost channel channel.asked h1 told) old.left old.unheard old.written)

  -- all that it owed is written
  pub flushed_so : {T : Type 0} (a b : Stand (side_of machine)) (r : Result T Cause) → Flushes a b r → OnOk r (IsFlushed machine b.owner.end)
  flushed_so a b (Ok value) settles = settles.owes
  flushed_so a b (Err e) fails = tt

  -- a turn leads on, or fails
  pub turned_on : {U : Type 0} (a b : Stand (side_of machine)) → Progresses machine a b ⊎ (Leads a b × U) → Leads a b
  turned_on a b (inl progresses) = progresses_lead a b progresses
  turned_on a b (inr other) = other.0

  pub turned_off : {U : Type 0} (cause : Cause) (a b : Stand (side_of machine)) → Fails cause a b ⊎ (Fails cause a b × U) → Fails cause a b
  turned_off cause a b (inl fails) = fails
  turned_off cause a b (inr other) = other.0

  pub turned : {T U : Type 0} (a b : Stand (side_of machine)) (r : Result T Cause) → GetsOn machine a b r ⊎ (Goes a b r × U) → Goes a b r
  turned a b r (inl gets) = gets_goes a b r gets
  turned a b r (inr other) = other.0

  -- actions, and then a turn
  pub then_turns : {T U : Type 0} (a b c : Stand (side_of machine)) (r : Result T Cause) → Leads a b → GetsOn machine b c r ⊎ (Goes b c r × U)
      → GetsOn machine a c r ⊎ (Goes a c r × U)
  then_turns a b c r first (inl gets) = inl (then_gets a b c r first gets)
  then_turns a b c r first (inr (goes, is)) = inr (goes_then a b c r first goes, is)

  -- turns so far, by each of which the drive got on, but for the last one where it is over
  abbrev pub TurnsBy : (left : ℕ) → (a b : Stand (side_of machine)) → Type 0
  TurnsBy left a b = LeadsBy left a b ⊎ (LeadsBy (suc left) a b × ((machine.serves ≡ true) × (machine.wants b.owner.end ≡ Want.CloseAll)))

  pub turns_lead : (left : ℕ) (a b : Stand (side_of machine)) → TurnsBy left a b → Leads a b
  turns_lead left a b (inl by) = by.leads
  turns_lead left a b (inr over) = over.0.leads

  -- none is left
  pub turns_spent : (cause : Cause) (left : ℕ) (a b : Stand (side_of machine)) → TurnsBy left a b → left ≡ 0 → Fails cause a b
  turns_spent cause left a b (inl by) none = fails_spent cause a b left by none
  turns_spent cause left a b (inr over) none =
      let leads = over.0.leads in
      record { mid = b; leads = leads; octets = []; breaks = gives_up b; spent = λ is. omega (arith, over.0.made, none) }

  -- one turn more, where it was not over
  pub turns_on : (before left : ℕ) (a b c d : Stand (side_of machine)) → TurnsBy before a b → before ≡ suc left → IsOpenEnd machine b.owner.end → Leads b c
      → Progresses machine c d ⊎ (Leads c d × ((machine.serves ≡ true) × (machine.wants d.owner.end ≡ Want.CloseAll))) → TurnsBy left a d
  turns_on before left a b c d (inr over) one is_open aside turned = absurd (is_open over.1.0 over.1.1)
  turns_on before left a b c d (inl by) one is_open aside (inl progresses) =
      inl (by_then before left a c d (by_then_any before a b c by aside) one (progresses_lead c d progresses) (progresses_some c d progresses))
  turns_on before left a b c d (inl by) one is_open aside (inr over) =
      inr (subst (λ n. LeadsBy n a d) one (by_then_any before a c d (by_then_any before a b c by aside) over.0), over.1)

  pub ends_err : {Over : Type 0} (last : Over → (old new : machine.Here) → Type 0) (cause : Cause) (a b : Stand (side_of machine)) (r : Result Over Cause)
      → IsErrAnd r (λ e. e ≡ cause) → Fails cause a b → Ends machine last a b r
  ends_err last cause a b (Ok over) failed fails = absurd failed
  ends_err last cause a b (Err e) failed fails = subst (λ e. Fails e a b) (sym failed) fails

  -- nothing moved
  pub leads_same : (a b : Stand (side_of machine)) → b ≡ a → Leads a b
  leads_same a b same = subst (λ s. Leads a s) (sym same) (leads_nowhere a)

  -- its data connection is as it was
  pub leads_looked : (a : Stand (side_of machine)) (channel : Channel) → channel ≡ a.owner.channel → Leads a (with_owner (held a.owner.end channel) a)
  leads_looked a channel same = leads_same a _ (ap (λ l. with_owner (held a.owner.end l) a) same)

  -- so many turns were made, by each of which the drive got on, but for the last one where it is over
  abbrev pub MadeBy : (made : ℕ) → (a b : Stand (side_of machine)) → Type 0
  MadeBy made a b =
      ((leads : Leads a b) × (made ≤ steps_in leads.actions)) ⊎ (LeadsFar made a b × ((machine.serves ≡ true) × (machine.wants b.owner.end ≡ Want.CloseAll)))

  pub made_leads : (made : ℕ) (a b : Stand (side_of machine)) → MadeBy made a b → Leads a b
  made_leads made a b (inl by) = by.0
  made_leads made a b (inr over) = over.0.leads

  pub made_far : (made : ℕ) (a b : Stand (side_of machine)) → MadeBy made a b → LeadsFar made a b
  made_far made a b (inl by) = record { leads = by.0; made = omega (arith, by.1) }
  made_far made a b (inr over) = over.0

  -- none was made
  pub made_none : (a : Stand (side_of machine)) → MadeBy 0 a a
  made_none a = inl (leads_nowhere a, omega arith)

  -- one turn more, where it was not over
  pub made_on : (made : ℕ) (a b c d : Stand (side_of machine)) → MadeBy made a b → IsOpenEnd machine b.owner.end → Leads b c
      → Progresses machine c d ⊎ (Leads c d × ((machine.serves ≡ true) × (machine.wants d.owner.end ≡ Want.CloseAll))) → MadeBy (made + 1) a d
  made_on made a b c d (inr over) is_open aside turned = absurd (is_open over.1.0 over.1.1)
  made_on made a b c d (inl by) is_open aside (inl progresses) =
      let first = leads_then a b c by.0 aside in
      let second = progresses_lead c d progresses in
      inl (leads_then a c d first second, omega (arith, by.1, progresses_some c d progresses, then_steps a c d first second, then_steps a b c by.0 aside))
  made_on made a b c d (inl by) is_open aside (inr over) =
      let first = leads_then a b c by.0 aside in
      inr (record { leads = leads_then a c d first over.0; made = omega (arith, by.1, then_steps a c d first over.0, then_steps a b c by.0 aside) }, over.1)

  pub turns_err : {Over : Type 0} (last : Over → (old new : machine.Here) → Type 0) (most : ℕ) (cause : Cause) (a b : Stand (side_of machine)) (r : Result (Turned Over) Cause)
      → IsErrAnd r (λ e. e ≡ cause) → Fails cause a b → TurnsTo machine last most a b r
  turns_err last most cause a b (Ok turned) failed fails = absurd failed
  turns_err last most cause a b (Err e) failed fails = subst (λ e. Fails e a b) (sym failed) fails
