-- What streams and ports tell is let go, and actions lead from one to the other as before.
use Rattle.std.proofs.Common.{◌≡◌, ◌∙◌, ℕ, Bool, true, false, List, [], ◌∷◌, ◌++◌, Option, None, refl, ap, inl, inr}
use Rattle.std.specs.Prelude.{map}
use Rattle.ftp_endpoint.specs.declared.host.Host.{Host}
use Rattle.ftp_ends.specs.declared.link.Wants.{Wants}
use Rattle.ftp_ports.specs.Asking as asking
use Rattle.ftp_ports.specs.Asking.{Asked}
use Rattle.ftp_ports.specs.Actions.{Action, Done, Ended, Heard, Led, Other, Read, Said, Stand, read_by, read_in, said_by, said_in, with_owner}
use Rattle.ftp_ports.specs.Channel.{IsEnded, IsHad, Channel}
use Rattle.ftp_ports.specs.Machine as machine
use Rattle.ftp_ports.specs.Machine.{AreWanted, Call, Called, Held, IsFairEnd, IsConnectionRefused, IsWanted, LeavesFlushed, Machine, side_of}
use Rattle.laws_drivers.specs.control.Touches.{had_by, touch_of_leaving, touch_in, touch_of}
use Rattle.ftp_pair_memory.specs.streams.Plain.{plain, plain_asked, plain_call, plain_held, plain_channel, quiet}

-- ---- what was asked

had_plain : (host : Host) (had : Asked) (left written : Option (List ℕ)) → IsHad host had left written → IsHad host (plain_asked had) None None
had_plain host had left written (inl came) = inl (ap plain_asked came)
had_plain host had left written (inr connected) = inr (connected.0, ap plain_asked connected.1, connected.2)

wanted_one : (want : Wants) (asked : Asked) → IsWanted want asked → IsWanted want (plain_asked asked)
wanted_one want (asking.Came host left written) is = is
wanted_one want (asking.Connected endpoint left written) is = is
wanted_one want (asking.Ended left written) is = is
wanted_one want (asking.Reset left written) is = is
wanted_one want other is = is

wanted : (want : Wants) (asked : List Asked) → AreWanted want asked → AreWanted want (map plain_asked asked)
wanted want [] is = is
wanted want (asked ∷ []) is = wanted_one want asked is
wanted want (asked ∷ next ∷ more) is = is

refused : (want : Wants) (asked : List Asked) → IsConnectionRefused want asked → IsConnectionRefused want (map plain_asked asked)
refused want (asking.NotCame ∷ []) is = is
refused want (asking.NotConnected endpoint ∷ []) is = is
refused want other is = absurd is

ended : (stands : Bool) (left written : Option (List ℕ)) (unwritten : List ℕ) (asked : Asked) → IsEnded stands left written unwritten asked
    → IsEnded stands None None unwritten (plain_asked asked)
ended true left written unwritten asked (inl whole) = inl (whole.0, ap plain_asked whole.1)
ended true left written unwritten asked (inr cut) = inr (ap plain_asked cut)
ended false left written unwritten asked shut = ap plain_asked shut

fair : (channel : Channel) (asked : Asked) → IsFairEnd channel asked → IsFairEnd (plain_channel channel) (plain_asked asked)
fair channel (asking.Came host left written) is = is
fair channel (asking.Connected endpoint left written) is = is
fair channel (asking.Ended left written) is = is
fair channel (asking.Reset left written) is = is
fair channel other is = is

flushed : (end : Machine) (here : end.Here) (asked : Asked) → LeavesFlushed end here asked → LeavesFlushed end here (plain_asked asked)
flushed end here (asking.Came host left written) is = is
flushed end here (asking.Connected endpoint left written) is = is
flushed end here (asking.Ended left written) is = is
flushed end here (asking.Reset left written) is = is
flushed end here other is = is

-- ---- touches

touch_had : (asked : List Asked) → had_by (map plain_asked asked) ≡ had_by asked
touch_had (asking.Came host left written ∷ []) = refl
touch_had (asking.Connected endpoint left written ∷ []) = refl
touch_had (asking.Ended left written ∷ []) = refl
touch_had (asking.Reset left written ∷ []) = refl
touch_had (asking.NotCame ∷ []) = refl
touch_had (asking.NotConnected endpoint ∷ []) = refl
touch_had other = refl

touch_left : (asked : Asked) → touch_of_leaving (plain_asked asked) ≡ touch_of_leaving asked
touch_left (asking.Came host left written) = refl
touch_left (asking.Connected endpoint left written) = refl
touch_left (asking.Ended left written) = refl
touch_left (asking.Reset left written) = refl
touch_left other = refl

touch_call : {Own : Type 0} (call : Call Own) → touch_of (plain_call call) ≡ touch_of call
touch_call (machine.Opened host asked at_first so_far rest) = touch_had asked
touch_call (machine.Refused asked) = touch_had asked
touch_call (machine.Left asked) = touch_left asked
touch_call other = refl

-- ---- actions

called : (end : Machine) (call : Call end.Own) (old new : Held end.Here) → Called end call old new
    → Called end (plain_call call) (plain_held old) (plain_held new)
called end (machine.Aside own) old new did = (did.0, ap plain_channel did.1, tt)
called end (machine.Listening port) old new did = (did.0, (tt, ap plain_channel did.1.1), did.2)
called end (machine.Opened host asked at_first so_far rest) old new did = (
  did.0,
  record {
    had = plain_asked did.1.had;
    is_had = had_plain host did.1.had at_first so_far did.1.is_had;
    none = did.1.none;
    alone = ap (map plain_asked) did.1.alone;
    adds = tt;
    stands = did.1.stands;
    fate = did.1.fate;
    rests = did.1.rests;
    left = refl;
    written = refl;
    unwritten = did.1.unwritten;
    untold = did.1.untold;
  },
  (wanted (end.wants old.end) asked did.2.0, did.2.1),
)
called end (machine.Refused asked) old new did = (did.0, (tt, ap plain_channel did.1.1), (refused (end.wants old.end) asked did.2.0, did.2.1))
called end (machine.Received octets count) old new did = (did.0, (did.1.0, ap plain_channel did.1.1), did.2)
called end (machine.Gave count octets rest) old new did = (did.0, (ap plain_channel did.1.0, did.1.1), did.2)
called end machine.NoPort old new did = (did.0, (tt, ap plain_channel did.1.1), did.2)
called end machine.End old new did = (did.0, (ap plain_channel did.1.0, did.1.1, tt, did.1.3), did.2)
called end machine.Break old new did = (did.0, ap plain_channel did.1, did.2)
called end machine.Closed old new did = (did.0, (ap plain_channel did.1.0, did.1.1), did.2)
called end (machine.Waited lost) old new did = (
  did.0,
  record {
    holds = record {
      stands = did.1.holds.stands;
      fate = did.1.holds.fate;
      rest = did.1.holds.rest;
      unwritten = did.1.holds.unwritten;
      untold = did.1.holds.untold;
    };
    left = tt;
    written = tt;
    asked = tt;
  },
  did.2,
)
called end (machine.Got octets) old new did = (
  did.0,
  record {
    is_open = did.1.is_open;
    stands = did.1.stands;
    fate = did.1.fate;
    rest = did.1.rest;
    told = did.1.told;
    read = tt;
    written = tt;
    untold = did.1.untold;
    unwritten = did.1.unwritten;
    asked = refl;
  },
  did.2,
)
called end (machine.Wrote octets) old new did = (
  did.0,
  record {
    is_open = did.1.is_open;
    some = did.1.some;
    stands = did.1.stands;
    fate = did.1.fate;
    rest = did.1.rest;
    first = did.1.first;
    wrote = tt;
    left = tt;
    untold = did.1.untold;
    asked = refl;
  },
  tt,
)
called end (machine.LetGo octets) old new did = (did.0, (did.1.0, ap plain_channel did.1.1), tt)
called end machine.Failed old new did = (did.0, (ap plain_channel did.1.0, did.1.1), tt)
called end (machine.Left asked) old new did = (
  did.0,
  record {
    ended = ended old.channel.stands old.channel.left old.channel.written old.channel.unwritten asked did.1.ended;
    adds = tt;
    stands = did.1.stands;
    fate = did.1.fate;
    rest = did.1.rest;
    unwritten = did.1.unwritten;
    untold = did.1.untold;
  },
  (did.2.0, fair old.channel asked did.2.1, flushed end old.end asked did.2.2),
)

module _ {end : Machine} where
  -- an action touches what lies between as before
  pub touch_plain : (action : Action (side_of end)) → touch_in (plain action) ≡ touch_in action
  touch_plain (Other call) = touch_call call
  touch_plain other = refl

  said_one : (action : Action (side_of end)) → said_by (plain action) ≡ said_by action
  said_one (Other call) = refl
  said_one other = refl

  read_one : (action : Action (side_of end)) → read_by (plain action) ≡ read_by action
  read_one (Other call) = refl
  read_one other = refl

  -- the same is said
  pub said_plain : (actions : List (Action (side_of end))) → said_in (map plain actions) ≡ said_in actions
  said_plain [] = refl
  said_plain (action ∷ before) = ap (λ l. l ++ said_by (plain action)) (said_plain before) ∙ ap (λ l. said_in before ++ l) (said_one action)

  -- and the same read
  pub read_plain : (actions : List (Action (side_of end))) → read_in (map plain actions) ≡ read_in actions
  read_plain [] = refl
  read_plain (action ∷ before) = ap (λ l. l ++ read_by (plain action)) (read_plain before) ∙ ap (λ l. read_in before ++ l) (read_one action)

  plain_stand : Stand (side_of end) → Stand (side_of end)
  plain_stand stand = with_owner (plain_held stand.owner) stand

  done : (action : Action (side_of end)) (old new : Stand (side_of end)) → Done action old new → Done (plain action) (plain_stand old) (plain_stand new)
  unfolding plain_stand
  done (Heard octets) old new did = record {
    hears = (did.hears.0, ap plain_channel did.hears.1, did.hears.2);
    next = did.next;
    left = did.left;
    written = did.written;
  }
  done (Said octets) old new did = record {
    gives = record { count = did.gives.count; owed = did.gives.owed; gave = did.gives.gave; channel = ap plain_channel did.gives.channel };
    wrote = did.wrote;
    left = did.left;
    unheard = did.unheard;
  }
  done (Read octets) old new did = record {
    due = did.due;
    owner = ap plain_held did.owner;
    heard = did.heard;
    read = did.read;
    ended = did.ended;
    unheard = did.unheard;
    written = did.written;
  }
  done Ended old new did = record {
    due = did.due;
    heard = did.heard;
    read = did.read;
    last = did.last;
    ended = did.ended;
    cut = (did.cut.0, ap plain_channel did.cut.1);
    unheard = did.unheard;
    written = did.written;
  }
  done (Other call) old new did = (called end call old.owner new.owner did.0, ap plain_stand did.1)

  led_on : (actions : List (Action (side_of end))) (old new : Stand (side_of end)) → Led actions old new → Led (map plain actions) (plain_stand old) (plain_stand new)
  unfolding plain_stand
  led_on [] old new led = ap plain_stand led
  led_on (action ∷ before) old new led = (plain_stand led.0, led_on before old led.0 led.1, done action led.0 new led.2)

  -- actions lead from one to the other as before
  pub led_plain : (actions : List (Action (side_of end))) (old new : Held end.Here) → Led actions (quiet old) (quiet new)
      → Led (map plain actions) (quiet (plain_held old)) (quiet (plain_held new))
  unfolding plain_stand
  led_plain actions old new led = led_on actions (quiet old) (quiet new) led
