-- An end of a session and its data connection, whichever end it is: its calls, and what is done between them (RFC 959, section 2.3).
use Rattle.std.proofs.Common.{◌∙◌, ap}
use Rattle.std.specs.Prelude.{◌≡◌, ◌≢◌, ◌⊎◌, ◌<◌, ⊤, ℕ, Bool, true, false, List, [], ◌∷◌, length, take, Option, Some, None, refl}
use Rattle.ftp_ports.specs.Asking.{Asked, Listened, Came, Connected, NotCame, NotConnected, Ended, Reset}
use Rattle.ftp_ports.specs.Actions.{Action, Done, Heard, Said, Read, Ended as ToldEnded, Other, Stand}
use Rattle.ftp_ports.specs.Driving.{Fails as BreaksOff, Leads, Quietly}
use Rattle.ftp_ports.specs.Channel.{IsOpen, Channel, Move, MovesChannel, Stays, Waits, Reads, Writes, Gives as GivesOctets, Takes, Fails, Ends, Breaks, Stops, Asks, Opens, Leaves, with_rest, with_untold}
use Rattle.ftp_ports.specs.Side.{Side}
use Rattle.ftp_ports.specs.Unheard.{Source, left_of, unheard_of, written_of}
use Rattle.ftp_ports.specs.Whole.{is_well}
use Rattle.std.specs.declared.result.Result.{Result}
use Rattle.std.specs.declared.result.Result.TheVariants.{Ok, Err}
use Rattle.ftp_ports.specs.declared.cause.Cause.{Cause}
use Rattle.ftp_ports.specs.declared.control.Control.{Control}
use Rattle.ftp_ports.specs.declared.whole.Fate.{Fate}
use Rattle.ftp_ports.specs.declared.whole.Fate.TheVariants as Fates
use Rattle.ftp_ports.specs.declared.whole.Rest.{Rest}
use Rattle.ftp_ports.specs.declared.whole.Rest.TheVariants.{Nothing, More}
use Rattle.ftp_endpoint.specs.declared.host.Host.{Host}
use Rattle.ftp_ends.specs.declared.link.Wants.{Wants}
use Rattle.ftp_ends.specs.declared.link.Wants.TheVariants as Want

-- an end, and what its calls do to it
pub record Machine : Type 1 where
  -- what it holds; what it wants, and what it owes over the control connection
  pub Here : Type 0
  pub wants : Here → Wants
  pub owed : Here → List ℕ
  -- whether it serves: lines may wait unheard, for a transfer's end and while it wants a port, an opening or a close
  pub serves : Bool
  -- whether it may take an octet of the control connection, and of a data connection
  pub may_hear : Here → Bool
  pub may_receive : Here → Bool
  -- of the control octets that were read and are not heard yet, it hears the first ones; it gives so many; it is told that the connection ended
  pub Hears : (octets unheard : List ℕ) → (old new : Here) → Type 0
  pub Gives : (count : ℕ) → (old new : Here) → Type 0
  pub IsCut : (old new : Here) → Type 0
  -- its calls that the other end does not have
  pub Own : Type 0
  pub Owns : Own → (old new : Here) → Type 0
  -- those that both have; of the octets of a data connection that it is handed it takes so many
  pub Listening : (port : ℕ) → (old new : Here) → Type 0
  pub Opened : Host → (old new : Here) → Type 0
  pub Received : (octets : List ℕ) → (count : ℕ) → (old new : Here) → Type 0
  -- of octets for its data connection it gave so many, these, and says whether it has more to give
  pub Gave : (count : ℕ) → (octets : List ℕ) → (rest : Rest) → (old new : Here) → Type 0
  pub NoPort : (old new : Here) → Type 0
  pub Refused : (old new : Here) → Type 0
  pub End : (old new : Here) → Type 0
  pub Break : (old new : Here) → Type 0
  pub Closed : (old new : Here) → Type 0
  -- when it is told of a close, and when it is done with its data connections
  pub IsCloseDue : Here → Type 0
  pub IsDone : Here → Type 0

-- its calls that move no control octets, and what is done with its data connection between them
pub data Call (Own : Type 0) : Type 0 where
  Aside : (own : Own) → Call Own
  Listening : (port : ℕ) → Call Own
  Opened : (host : Host) → (asked : List Asked) → (at_first so_far : Option (List ℕ)) → (rest : Rest) → Call Own
  Refused : (asked : List Asked) → Call Own
  Received : (octets : List ℕ) → (count : ℕ) → Call Own
  Gave : (count : ℕ) → (octets : List ℕ) → (rest : Rest) → Call Own
  NoPort End Break Closed : Call Own
  -- it is waited at, or looked at the control connection, and that told that it ended, or not; octets are read, written, and let go; a read or a
  -- write of it failed, behind the octets that it moved; it is closed or reset
  Waited : (lost : Bool) → Call Own
  Got Wrote LetGo : (octets : List ℕ) → Call Own
  Failed : Call Own
  Left : (asked : Asked) → Call Own

-- what each of them does to the data connection
abbrev pub move_of : {Own : Type 0} → Call Own → Move
move_of (Aside own) = Stays
move_of (Listening port) = Asks (Listened (Some port) ∷ [])
move_of (Opened host asked at_first so_far rest) = Opens host asked at_first so_far rest
move_of (Refused asked) = Asks asked
move_of (Received octets count) = Takes (take count octets)
move_of (Gave count octets rest) = GivesOctets octets rest
move_of NoPort = Asks (Listened None ∷ [])
move_of End = Ends
move_of Break = Breaks
move_of Closed = Stops
move_of (Waited lost) = Waits lost
move_of (Got octets) = Reads octets
move_of (Wrote octets) = Writes octets
move_of (LetGo octets) = Takes octets
move_of Failed = Fails
move_of (Left asked) = Leaves asked

-- what is asked, as an end wants it: that one is waited for, or that one is opened, to just that endpoint; closing is asked at any time
abbrev pub IsWanted : Wants → Asked → Type 0
IsWanted want (Listened port) = want ≡ Want.Listen
IsWanted want (Came host left written) = want ≡ Want.Accept
IsWanted want NotCame = want ≡ Want.Accept
IsWanted want (Connected endpoint left written) = want ≡ Want.Connect endpoint
IsWanted want (NotConnected endpoint) = want ≡ Want.Connect endpoint
IsWanted want other = ⊤

-- all of that is one thing, which is wanted
abbrev pub AreWanted : Wants → List Asked → Type 0
AreWanted want (asked ∷ []) = IsWanted want asked
AreWanted want other = ⊥

-- none is had, and one was wanted: the answer says so
abbrev pub IsConnectionRefused : Wants → List Asked → Type 0
IsConnectionRefused want (NotCame ∷ []) = want ≡ Want.Accept
IsConnectionRefused want (NotConnected endpoint ∷ []) = want ≡ Want.Connect endpoint
IsConnectionRefused want other = ⊥

-- an end that wants this goes on without the data connection that stands: it wants it closed, or another
abbrev pub leaves : Wants → Bool
leaves Want.CloseData = true
leaves Want.Accept = true
leaves (Want.Connect endpoint) = true
leaves other = false

-- an end that wants this is told of a break of what doesn't stand: octets were to go over it, or to come
abbrev pub moves_octets : Wants → Bool
moves_octets Want.Receive = true
moves_octets Want.Send = true
moves_octets other = false

-- an end that wants this waits at its data connection, or for one
abbrev pub awaits : Wants → Bool
awaits Want.Accept = true
awaits Want.Receive = true
awaits Want.Send = true
awaits other = false

-- an end that wants this waits for octets: of the control connection, or at its data connection
abbrev pub waits : Wants → Bool
waits Want.Nothing = true
waits other = awaits other

-- one is left only where the end goes on without it or is done, or was told that it broke or ended; one that failed is told before, or it is done
abbrev pub MayLeave : (done : Type 0) → Wants → Fate → Type 0
MayLeave done want Fates.Sound = (leaves want ≡ true) ⊎ done
MayLeave done want Fates.Failed = done
MayLeave done want Fates.Broken = ⊤
MayLeave done want Fates.Over = ⊤

-- of what was to be given octets are left, or none
abbrev pub rest_left : List ℕ → Rest
rest_left [] = Nothing
rest_left (octet ∷ octets) = More

-- an end that wants this has more to give
abbrev pub rest_by : Wants → Rest
rest_by Want.Send = More
rest_by other = Nothing

-- where it wants to send it has more to give than was seen so far
abbrev pub rest_seen : Wants → (before : Rest) → Rest
rest_seen Want.Send before = More
rest_seen other before = before

-- it is seen whether an end that wants this has more to give
abbrev pub seen : Wants → Channel → Channel
seen want channel = with_rest (rest_seen want channel.rest) channel

-- by an end only where none is unwritten, the end had no more to give when it gave last, when this was opened, and when it heard since, and nothing
-- failed; by a reset only where it failed, or octets are unwritten, or the end had more to give then. Where none stands the port alone is closed
abbrev pub IsFairEnd : Channel → Asked → Type 0
IsFairEnd channel (Ended left written) = (channel.unwritten ≡ []) × (channel.rest ≡ Nothing) × (is_well channel.fate ≡ true)
IsFairEnd channel (Reset left written) = (is_well channel.fate ≡ false) ⊎ (0 < length channel.unwritten) ⊎ (channel.rest ≡ More)
IsFairEnd channel other = ⊤

-- an end is told of a break where a read or a write failed and it was not told; or where none stands, and octets were to come or go
abbrev pub IsBroken : Wants → (stands : Bool) → Fate → Type 0
IsBroken want stands Fates.Failed = ⊤
IsBroken want stands Fates.Sound = (stands ≡ false) × (moves_octets want ≡ true)
IsBroken want stands other = ⊥

-- an end and its data connection
pub record Held (Here : Type 0) : Type 0 where
  pub end : Here
  pub channel : Channel

abbrev pub held : {Here : Type 0} → Here → Channel → Held Here
held end channel = record { end = end; channel = channel }

module _ (machine : Machine) where
  -- what each call does to the end; whether it has more to give is as it wants it right after one is opened, and after octets that it gave as it
  -- says itself; octets that came are let go only where it wants no more of them
  abbrev pub Does : Call machine.Own → (old new : machine.Here) → Type 0
  Does (Aside own) old new = machine.Owns own old new
  Does (Listening port) old new = machine.Listening port old new
  Does (Opened host asked at_first so_far rest) old new = machine.Opened host old new × (rest ≡ rest_by (machine.wants new))
  Does (Refused asked) old new = machine.Refused old new
  Does (Received octets count) old new = machine.Received octets count old new
  Does (Gave count octets rest) old new = machine.Gave count octets rest old new
  Does NoPort old new = machine.NoPort old new
  Does End old new = machine.End old new
  Does Break old new = machine.Break old new
  Does Closed old new = machine.Closed old new
  Does (Waited lost) old new = new ≡ old
  Does (Got octets) old new = new ≡ old
  Does (Wrote octets) old new = new ≡ old
  Does Failed old new = new ≡ old
  Does (LetGo octets) old new = (new ≡ old) × (machine.wants old ≢ Want.Receive)
  Does (Left asked) old new = new ≡ old

  -- all that it owed is written
  abbrev pub IsFlushed : machine.Here → Type 0
  IsFlushed here = machine.owed here ≡ []

  -- by an end only where it was asked so, or it is done
  abbrev pub LeavesFlushed : machine.Here → Asked → Type 0
  LeavesFlushed here (Ended left written) = IsFlushed here ⊎ machine.IsDone here
  LeavesFlushed here other = ⊤

  -- when each of them may be done: as the end wants it; octets come and go, and an end is told, only while its data connection is open, and a break
  -- only where it broke; a data connection is come to, and closed by an end, only once all that the end owed was written
  abbrev pub IsDue : Call machine.Own → Held machine.Here → Type 0
  IsDue (Listening port) old = (machine.wants old.end ≡ Want.Listen) × IsFlushed old.end
  IsDue NoPort old = (machine.wants old.end ≡ Want.Listen) × IsFlushed old.end
  IsDue (Opened host asked at_first so_far rest) old = AreWanted (machine.wants old.end) asked × IsFlushed old.end
  IsDue (Refused asked) old = IsConnectionRefused (machine.wants old.end) asked × IsFlushed old.end
  IsDue (Received octets count) old = IsOpen old.channel × (machine.wants old.end ≡ Want.Receive)
  IsDue (Gave count octets rest) old = machine.wants old.end ≡ Want.Send
  IsDue (Got octets) old = machine.wants old.end ≡ Want.Receive
  IsDue End old = machine.wants old.end ≡ Want.Receive
  IsDue Break old = IsBroken (machine.wants old.end) old.channel.stands old.channel.fate
  IsDue (Left asked) old = MayLeave (machine.IsDone old.end) (machine.wants old.end) old.channel.fate × IsFairEnd old.channel asked × LeavesFlushed old.end asked
  IsDue (Waited lost) old = awaits (machine.wants old.end) ≡ true
  IsDue Closed old = machine.IsCloseDue old.end
  IsDue other old = ⊤

  abbrev pub Called : Call machine.Own → (old new : Held machine.Here) → Type 0
  Called call old new = Does call old.end new.end × MovesChannel (move_of call) old.channel new.channel × IsDue call old

  -- one that serves hears, and is read for, only while it waits for octets: not while it wants a port, an opening or a close
  abbrev pub IsListening : machine.Here → Type 0
  IsListening here = machine.serves ≡ true → waits (machine.wants here) ≡ true

  -- control octets are heard; it is seen before whether there is more to give
  abbrev pub HearsBeside : (octets unheard : List ℕ) → (old new : Held machine.Here) → Type 0
  HearsBeside octets unheard old new =
      machine.Hears octets unheard old.end new.end × (new.channel ≡ seen (machine.wants old.end) old.channel) × IsListening old.end

  -- octets are read only once all that it owed was written
  abbrev pub IsReadDue : Held machine.Here → Type 0
  IsReadDue old = IsFlushed old.end × IsListening old.end

  -- it gives octets of what it owes
  pub record Gives (octets : List ℕ) (old new : Held machine.Here) : Type 0 where
    pub count : ℕ
    pub owed : octets ≡ take count (machine.owed old.end)
    pub gave : machine.Gives count old.end new.end
    pub channel : new.channel ≡ old.channel

  -- it is told that the control connection ended: what it owes is dropped; it is seen before whether there was more to give
  abbrev pub IsCut : (old new : Held machine.Here) → Type 0
  IsCut old new = machine.IsCut old.end new.end × (new.channel ≡ seen (machine.wants old.end) old.channel)

  -- octets that were read and not told are let go
  abbrev pub LetsGo : (old new : Held machine.Here) → Type 0
  LetsGo old new = (new.end ≡ old.end) × (new.channel ≡ with_untold new.channel.untold old.channel)

  -- a drive gets on by each of them, but not by asking whether it is over
  abbrev pub step_of : Call machine.Own → ℕ
  step_of (Aside own) = 0
  step_of other = 1

  -- it and its data connection, as one of the two sides that are driven
  abbrev pub side_of : Side
  side_of = record {
    End = Held machine.Here;
    Call = Call machine.Own;
    Called = Called;
    step = step_of;
    Hears = λ octets unheard old new. HearsBeside octets unheard old new;
    Gives = Gives;
    OwesNone = λ old. IsFlushed old.end;
    IsReadDue = IsReadDue;
    IsCut = IsCut;
    LetsGo = LetsGo;
    lets_none = λ end. (refl, refl);
    lets_then = λ a b c first second. (second.0 ∙ first.0, second.1 ∙ ap (with_untold c.channel.untold) first.1);
  }

  -- the data connection alone moves, whatever the end holds
  abbrev pub Idles : (old new : Channel) → Type 0
  Idles old new = (here : machine.Here) → Quietly side_of (held here old) (held here new)

  -- it and its data connection beside a control connection, by what its reader has left and what its writer holds
  abbrev pub stand_of : {R W : Type 0} → (R → Option (List ℕ)) → (W → Option (List ℕ)) → Held machine.Here → Control R W → Stand side_of
  stand_of remaining contents owner control =
      record { owner = owner; left = left_of remaining control; unheard = unheard_of control; written = written_of contents control }

  -- an action by which a drive gets on: octets are heard or read, the end is told of something, its data connection moves, or is waited for as the
  -- end wants it; not that the end is asked what it owes, or whether its drive is over
  abbrev pub IsProgress : Action side_of → Type 0
  IsProgress (Heard octets) = 0 < length octets
  IsProgress (Said octets) = ⊥
  IsProgress (Read octets) = ⊤
  IsProgress ToldEnded = ⊤
  IsProgress (Other (Aside own)) = ⊥
  IsProgress (Other call) = ⊤

  -- actions led from here to there, and the drive got on by one of them
  pub record Progresses (start now : Stand side_of) : Type 0 where
    pub old : Stand side_of
    pub new : Stand side_of
    pub before : Leads start old
    pub action : Action side_of
    pub progress : IsProgress action
    pub done : Done action old new
    pub after : Leads new now

  -- the end and its data connection get on, however the control connection stands
  abbrev pub Progressing : (old new : Held machine.Here) → Type 0
  Progressing old new = (left : Source) (unheard : List ℕ) (written : Option (List ℕ))
      → Progresses (record { owner = old; left = left; unheard = unheard; written = written }) (record { owner = new; left = left; unheard = unheard; written = written })

  -- the drive got on, or it fails
  abbrev pub GetsOn : {T : Type 0} → (old new : Stand side_of) → Result T Cause → Type 0
  GetsOn old new (Ok value) = Progresses old new
  GetsOn old new (Err cause) = BreaksOff cause old new
