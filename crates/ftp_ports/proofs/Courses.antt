-- What goes over data connections, action by action.
use Rattle.std.proofs.Common.{◌≡◌, ◌∙◌, ℕ, Bool, true, false, List, [], ◌∷◌, ◌++◌, Option, Some, None, refl, sym, ap, subst, inl, inr, append_assoc, append-nil}
use Rattle.std.proofs.KnownBytes.{Appends-kept, Appends-nil, Appends-trans, Consumes-kept, Consumes-nil, Consumes-trans, Consumes-whole}
use Rattle.std.specs.Io.KnownBytes.{Appends, Consumes}
use Rattle.ftp_ports.proofs.Channels.{adds_then}
use Rattle.ftp_ports.specs.Asking.{Asked, Adds}
use Rattle.ftp_ports.specs.Courses.{ConnectionCourse, Carries, IsFairMove, IsFairLeave, after, asked_by, asked_in, begun, course_of, move_in}
use Rattle.ftp_ports.specs.Actions.{Action, Heard, Said, Read, Ended, Other, Done, Led, Stand}
use Rattle.ftp_ports.specs.Channel.{IsEnded, Channel, Move, MovesChannel, Stays, Waits, Reads, Writes, Gives, Notes, Takes, Fails, Ends, Breaks, Stops, with_fate, Asks, Opens, Leaves}
use Rattle.ftp_ports.specs.Side.{Side}
use Rattle.ftp_ports.specs.declared.whole.Fate.{Fate}
use Rattle.ftp_ports.specs.declared.whole.Fate.TheVariants.{Failed, Broken, Over}

-- what is so of the data connection that stands, behind each move
record Follows (course : ConnectionCourse) (channel : Channel) : Type 0 where
  given : course.given ≡ course.written ++ channel.unwritten
  read : course.read ≡ course.told ++ channel.untold
  consumed : course.is_written ≡ false → Consumes course.at_first channel.left course.read
  appended : course.is_read ≡ false → Appends course.so_far channel.written course.written

never : {T : Type 0} → true ≡ false → T
never e = absurd (cc)

-- one that is begun
follows_begun : (at_first so_far : Option (List ℕ)) (channel : Channel) → channel.unwritten ≡ [] → channel.untold ≡ [] → Consumes at_first channel.left [] → Appends so_far channel.written []
    → Follows (begun at_first so_far) channel
follows_begun at_first so_far channel unwritten untold consumed appended =
    record { given = sym unwritten; read = sym untold; consumed = λ e. consumed; appended = λ e. appended }

-- whatever became of it
fated : (fate : Fate) (course : ConnectionCourse) (channel : Channel) → Follows course channel → Follows course (with_fate fate channel)
fated fate course channel before = record { given = before.given; read = before.read; consumed = before.consumed; appended = before.appended }

follows : (move : Move) (course : ConnectionCourse) (old new : Channel) → Follows course old → MovesChannel move old new → Follows (after move course) new
follows Stays course old new before same = subst (λ l. Follows course l) (sym same) before
follows (Waits lost) course old new before waited = record {
  given = before.given ∙ ap (λ l. course.written ++ l) (sym waited.holds.unwritten);
  read = before.read ∙ ap (λ l. course.told ++ l) (sym waited.holds.untold);
  consumed = λ e. Consumes-kept course.at_first old.left new.left course.read (before.consumed e) waited.left;
  appended = λ e. Appends-kept course.so_far old.written new.written course.written (before.appended e) waited.written;
}
follows (Reads octets) course old new before read = record {
  given = before.given ∙ ap (λ l. course.written ++ l) (sym read.unwritten);
  read = ap (λ l. l ++ octets) (before.read ∙ ap (λ l. course.told ++ l) read.told ∙ append-nil course.told) ∙ ap (λ l. course.told ++ l) (sym read.untold);
  consumed = λ e. Consumes-trans course.at_first old.left new.left course.read octets (before.consumed e) read.read;
  appended = λ e. never e;
}
follows (Writes octets) course old new before wrote = record {
  given = before.given ∙ ap (λ l. course.written ++ l) wrote.first ∙ sym (append_assoc course.written octets new.unwritten);
  read = before.read ∙ ap (λ l. course.told ++ l) (sym wrote.untold);
  consumed = λ e. never e;
  appended = λ e. Appends-trans course.so_far old.written new.written course.written octets (before.appended e) wrote.wrote;
}
follows (Gives octets rest) course old new before same = subst (λ l. Follows (after (Gives octets rest) course) l) (sym same.0) (record {
  given = ap (λ l. l ++ octets) before.given ∙ append_assoc course.written old.unwritten octets;
  read = before.read;
  consumed = before.consumed;
  appended = before.appended;
})
follows Notes course old new before same = subst (λ l. Follows course l) (sym same) (record { given = before.given; read = before.read; consumed = before.consumed; appended = before.appended })
follows (Takes octets) course old new before took = subst (λ l. Follows (after (Takes octets) course) l) (sym took.1) (record {
  given = before.given;
  read = before.read ∙ ap (λ l. course.told ++ l) took.0 ∙ sym (append_assoc course.told octets new.untold);
  consumed = before.consumed;
  appended = before.appended;
})
follows Fails course old new before failed = subst (λ l. Follows course l) (sym failed.0) (fated Failed course old before)
follows Ends course old new before end = subst (λ l. Follows course l) (sym end.0) (fated Over course old before)
follows Breaks course old new before same = subst (λ l. Follows course l) (sym same) (fated Broken course old before)
follows Stops course old new before stop = subst (λ l. Follows course l) (sym stop.0) before
follows (Asks asked) course old new before asks =
    subst (λ l. Follows course l) (sym asks.1) (record { given = before.given; read = before.read; consumed = before.consumed; appended = before.appended })
follows (Opens host asked at_first so_far rest) course old new before had = follows_begun at_first so_far new had.unwritten had.untold
    (subst (λ l. Consumes at_first l []) (sym had.left) (Consumes-nil at_first)) (subst (λ l. Appends so_far l []) (sym had.written) (Appends-nil so_far))
follows (Leaves asked) course old new before left = follows_begun None None new left.unwritten left.untold tt tt

-- where none is left to be read, all that was read was told
told_all : (course : ConnectionCourse) (channel : Channel) → Follows course channel → channel.untold ≡ [] → course.told ≡ course.read
told_all course channel before untold = sym (before.read ∙ ap (λ l. course.told ++ l) untold ∙ append-nil course.told)

ended_fair : (stands : Bool) (asked : Asked) (course : ConnectionCourse) (channel : Channel) → Follows course channel → IsEnded stands channel.left channel.written channel.unwritten asked
    → IsFairLeave asked course
ended_fair true asked course channel before (inl (none, is)) =
    let all = sym (before.given ∙ ap (λ l. course.written ++ l) none ∙ append-nil course.written) in
    subst (λ a. IsFairLeave a course) (sym is) (all, λ e. subst (λ l. Appends course.so_far channel.written l) all (before.appended e))
ended_fair true asked course channel before (inr is) = subst (λ a. IsFairLeave a course) (sym is) tt
ended_fair false asked course channel before is = subst (λ a. IsFairLeave a course) (sym is) tt

fair : (move : Move) (course : ConnectionCourse) (old new : Channel) → Follows course old → MovesChannel move old new → IsFairMove move course
fair Ends course old new before end =
    let all = told_all course old before end.3 in
    (all, λ e. Consumes-whole course.at_first old.left course.read (λ whole. course.told ≡ whole) (before.consumed e) end.2 all)
fair (Leaves asked) course old new before left = ended_fair old.stands asked course old before left.ended
fair Stays course old new before moved = tt
fair (Waits lost) course old new before moved = tt
fair (Reads octets) course old new before moved = tt
fair (Writes octets) course old new before moved = tt
fair (Gives octets rest) course old new before moved = tt
fair Notes course old new before moved = tt
fair (Takes octets) course old new before moved = tt
fair Fails course old new before moved = tt
fair Breaks course old new before moved = tt
fair Stops course old new before moved = tt
fair (Asks asked) course old new before moved = tt
fair (Opens host asked at_first so_far rest) course old new before moved = tt

adds_none : (old new : Option (List Asked)) → new ≡ old → Adds old new []
adds_none None new same = subst (λ n. Adds None n []) (sym same) tt
adds_none (Some l) new same = subst (λ n. Adds (Some l) n []) (sym same) refl

adds : (move : Move) (old new : Channel) → MovesChannel move old new → Adds old.asked new.asked (asked_by move)
adds Stays old new same = adds_none old.asked new.asked (ap (λ l. l.asked) same)
adds (Waits lost) old new waited = waited.asked
adds (Reads octets) old new read = adds_none old.asked new.asked read.asked
adds (Writes octets) old new wrote = adds_none old.asked new.asked wrote.asked
adds (Gives octets rest) old new same = adds_none old.asked new.asked (ap (λ l. l.asked) same.0)
adds Notes old new same = adds_none old.asked new.asked (ap (λ l. l.asked) same)
adds (Takes octets) old new took = adds_none old.asked new.asked (ap (λ l. l.asked) took.1)
adds Fails old new failed = adds_none old.asked new.asked (ap (λ l. l.asked) failed.0)
adds Breaks old new same = adds_none old.asked new.asked (ap (λ l. l.asked) same)
adds Ends old new end = adds_none old.asked new.asked (ap (λ l. l.asked) end.0)
adds Stops old new stop = adds_none old.asked new.asked (ap (λ l. l.asked) stop.0)
adds (Asks asked) old new asks = asks.0
adds (Opens host asked at_first so_far rest) old new had = had.adds
adds (Leaves asked) old new left = left.adds

-- the data connection of an end: which call moves it how; what moves control octets leaves it, but for what is seen of it then
pub record Carrier (side : Side) (move_of : side.Call → Move) : Type 0 where
  pub channel : side.End → Channel
  pub called : (call : side.Call) (old new : side.End) → side.Called call old new → MovesChannel (move_of call) (channel old) (channel new)
  pub heard : (octets unheard : List ℕ) (old new : side.End) → side.Hears octets unheard old new → MovesChannel Notes (channel old) (channel new)
  pub gave : (octets : List ℕ) (old new : side.End) → side.Gives octets old new → channel new ≡ channel old
  pub cut : (old new : side.End) → side.IsCut old new → MovesChannel Notes (channel old) (channel new)

module _ {side : Side} (move_of : side.Call → Move) (carrier : Carrier side move_of) where
  moves : (action : Action side) (old new : Stand side) → Done action old new → MovesChannel (move_in move_of action) (carrier.channel old.owner) (carrier.channel new.owner)
  moves (Heard octets) old new done = carrier.heard octets old.unheard old.owner new.owner done.hears
  moves (Said octets) old new done = carrier.gave octets old.owner new.owner done.gives
  moves (Read octets) old new done = ap carrier.channel done.owner
  moves Ended old new done = carrier.cut old.owner new.owner done.cut
  moves (Other call) old new done = carrier.called call old.owner new.owner done.0

  record Tells (actions : List (Action side)) (start now : Channel) : Type 0 where
    carries : Carries move_of actions start now
    follow : Follows (course_of move_of actions) now

  tells : (actions : List (Action side)) (start now : Stand side) → Led actions start now → (carrier.channel start.owner).unwritten ≡ [] → (carrier.channel start.owner).untold ≡ []
      → Tells actions (carrier.channel start.owner) (carrier.channel now.owner)
  tells [] start now led unwritten untold =
      let channel = carrier.channel start.owner in
      subst (λ s. Tells [] channel (carrier.channel s.owner)) (sym led) (record {
        carries = record { in_order = tt; given = sym unwritten; read = sym untold; asked = adds_none channel.asked channel.asked refl };
        follow = follows_begun None None channel unwritten untold tt tt;
      })
  tells (action ∷ before) start now led unwritten untold =
      let mid = led.0 in
      let first = carrier.channel start.owner in
      let old = carrier.channel mid.owner in
      let new = carrier.channel now.owner in
      let so_far = tells before start mid led.1 unwritten untold in
      let course = course_of move_of before in
      let move = move_in move_of action in
      let moved = moves action mid now led.2 in
      let follow = follows move course old new so_far.follow moved in
      record {
        carries = record {
          in_order = (so_far.carries.in_order, (old.unwritten, so_far.follow.given), (old.untold, so_far.follow.read), fair move course old new so_far.follow moved);
          given = follow.given;
          read = follow.read;
          asked = adds_then first.asked old.asked new.asked (asked_in move_of before) (asked_by move) so_far.carries.asked (adds move old new moved);
        };
        follow = follow;
      }

  -- actions that begin where nothing is on its way
  pub carries : (actions : List (Action side)) (start now : Stand side) → Led actions start now → (carrier.channel start.owner).unwritten ≡ [] → (carrier.channel start.owner).untold ≡ []
      → Carries move_of actions (carrier.channel start.owner) (carrier.channel now.owner)
  carries actions start now led unwritten untold = (tells actions start now led unwritten untold).carries
