-- How an end's data connection moves between its calls, whatever that end holds, and what actions of it come to.
use Rattle.std.proofs.Common.{◌≡◌, ◌∙◌, ◌⊎◌, ◌<◌, ℕ, inl, inr, length, List, [], ◌++◌, take, drop, Option, Some, None, refl, sym, ap, subst}
use Rattle.std.specs.Prelude.{◌≢◌, Bool, true, false}
use Rattle.std.specs.Io.KnownBytes.{IsAtEnd}
use Rattle.std.proofs.KnownBytes.{Keeps-refl}
use Rattle.std.proofs.lemmas.List.{append-nil, take-append-drop}
use Rattle.ftp_ports.specs.Asking.{Adds, Asked, told_lost}
use Rattle.ftp_ports.specs.Actions.{Heard, Other, Stand, with_owner}
use Rattle.ftp_ports.specs.Driving.{Breaks, Leads, Quietly}
use Rattle.ftp_ports.specs.Channel.{IsLeft, IsOpen, IsRead, IsWaited, AreOctetsWritten, Channel, with_asked, with_fate, with_rest, with_untold}
use Rattle.ftp_ports.proofs.Getting.{progresses_by, progresses_lead, progresses_then}
use Rattle.ftp_ports.specs.Unheard.{Source}
use Rattle.ftp_ports.specs.Machine.{Aside, Called, Progresses, awaits, Break, End, Failed, Gives, Got, Held, Idles, IsBroken, IsFairEnd, IsListening, Left, LeavesFlushed, MayLeave, LetGo, Machine, Received, Waited, Wrote, held, move_of, seen, side_of}
use Rattle.ftp_ports.proofs.Courses.{Carrier}
use Rattle.ftp_ports.specs.Outcome.{IsSent, IsWrote}
use Rattle.ftp_ports.specs.declared.whole.Fate.TheVariants.{Broken, Failed as HasFailed, Over, Sound}
use Rattle.ftp_ports.proofs.Leading.{leads_by, leads_then, quiet_call, quiet_nothing, quiet_then}
use Rattle.ftp_ends.specs.declared.link.Wants.{Wants}
use Rattle.ftp_ends.specs.declared.link.Wants.TheVariants as Want

-- one of which no read or write failed, or of which one did
sound_so : (channel : Channel) → channel.fate ≡ Sound → with_fate Sound channel ≡ channel
sound_so channel sound = ap (λ f. with_fate f channel) (sym sound)

failed_so : (channel : Channel) → channel.fate ≡ HasFailed → channel ≡ with_fate HasFailed (with_fate Sound channel)
failed_so channel failed = ap (λ f. with_fate f channel) failed

-- what is seen of one is whether this end has more for it
pub is_seen : (want : Wants) (old new : Channel) → new ≡ seen want old → new ≡ with_rest new.rest old
is_seen want old new same = subst (λ n. n ≡ with_rest n.rest old) (sym same) refl

module _ (machine : Machine) where
  pub idles_nothing : (channel : Channel) → Idles machine channel channel
  idles_nothing channel here = quiet_nothing (side_of machine) (held here channel)

  -- it is waited at, or looked at the control connection
  pub waits : (lost : Bool) (here : machine.Here) (old new : Channel) → awaits (machine.wants here) ≡ true → IsWaited lost old new
      → (left : Source) (unheard : List ℕ) (written : Option (List ℕ))
      → Progresses machine (record { owner = held here old; left = left; unheard = unheard; written = written })
      (record { owner = held here new; left = left; unheard = unheard; written = written })
  waits lost here old new due waited left unheard written = progresses_by (Other (Waited lost)) _ _ tt ((refl, waited, due), refl)

  -- a read or a write of it failed
  idles_failed : (old : Channel) → IsOpen old → Idles machine old (with_fate HasFailed old)
  idles_failed old is_open here = quiet_call (side_of machine) Failed (held here old) (held here (with_fate HasFailed old)) (refl, (refl, is_open), tt)

  idles_then : (a b c : Channel) → Idles machine a b → Idles machine b c → Idles machine a c
  idles_then a b c first second here = quiet_then (side_of machine) (held here a) (held here b) (held here c) (first here) (second here)

  -- octets were written, where some were to be
  pub sends : (here : machine.Here) (old new : Channel) → (new.fate ≡ Sound) ⊎ (new.fate ≡ HasFailed) → IsWrote old new
      → (left : Source) (unheard : List ℕ) (written : Option (List ℕ))
      → Progresses machine (record { owner = held here old; left = left; unheard = unheard; written = written })
      (record { owner = held here new; left = left; unheard = unheard; written = written })
  sends here old new (inl is) (octets, wrote) left unheard written =
      progresses_by (Other (Wrote octets)) _ _ tt ((refl, subst (λ l. AreOctetsWritten octets old l) (sound_so new is) wrote, tt), refl)
  sends here old new (inr is) (octets, wrote) left unheard written =
      let mid = with_fate Sound new in
      progresses_then _ (record { owner = held here mid; left = left; unheard = unheard; written = written }) _
      (progresses_by (Other (Wrote octets)) _ _ tt ((refl, wrote, tt), refl))
      (subst (λ l. Idles machine mid l) (sym (failed_so new is)) (idles_failed mid (wrote.stands ∙ wrote.is_open.0, refl)) here left unheard written)

  -- octets were written, or none were to be
  pub idles_sent : (old new : Channel) → (new.fate ≡ Sound) ⊎ (new.fate ≡ HasFailed) → IsSent old new → Idles machine old new
  idles_sent old new is (inl same) here = subst (λ l. Idles machine old l) (sym same) (idles_nothing old) here
  idles_sent old new (inl is) (inr (octets, wrote)) here =
      quiet_call (side_of machine) (Wrote octets) (held here old) (held here new) (refl, subst (λ l. AreOctetsWritten octets old l) (sound_so new is) wrote, tt)
  idles_sent old new (inr is) (inr (octets, wrote)) here =
      let mid = with_fate Sound new in
      idles_then old mid new (λ there. quiet_call (side_of machine) (Wrote octets) (held there old) (held there mid) (refl, wrote, tt))
      (subst (λ l. Idles machine mid l) (sym (failed_so new is)) (idles_failed mid (wrote.stands ∙ wrote.is_open.0, refl))) here

  pub idles_same : (old new : Channel) → new ≡ old → Idles machine old new
  idles_same old new same = subst (λ l. Idles machine old l) (sym same) (idles_nothing old)

  -- it was told that the control connection ended, or not
  pub asked_waits : (lost : Bool) (channel : Channel) (h0 h1 : Option (List Asked)) → Adds h0 h1 (told_lost lost) → IsWaited lost (with_asked h0 channel) (with_asked h1 channel)
  asked_waits lost channel h0 h1 asked = record {
    holds = record { stands = refl; fate = refl; rest = refl; unwritten = refl; untold = refl };
    left = Keeps-refl channel.left;
    written = Keeps-refl channel.written;
    asked = asked;
  }

  -- its data connection is left
  pub leaves : (asked : Asked) (old new : Stand (side_of machine)) → IsLeft asked old.owner.channel new.owner.channel
      → MayLeave (machine.IsDone old.owner.end) (machine.wants old.owner.end) old.owner.channel.fate → IsFairEnd old.owner.channel asked → LeavesFlushed machine old.owner.end asked
      → new ≡ with_owner (held old.owner.end new.owner.channel) old → Progresses machine old new
  leaves asked old new left may fair flushed same =
      progresses_by (Other (Left asked)) old new tt ((ap (λ s. s.owner.end) same, left, (may, fair, flushed)), subst (λ s. new ≡ with_owner s old) (sym (ap (λ s. s.owner) same)) same)

  -- one of its own calls
  pub asides : (own : machine.Own) (old new : machine.Here) (channel : Channel) → machine.Owns own old new → Quietly (side_of machine) (held old channel) (held new channel)
  asides own old new channel did = quiet_call (side_of machine) (Aside own) (held old channel) (held new channel) (did, refl, tt)

  -- it is told that its data connection, which is is_open and at its end, ended; or that it broke
  pub ends_told : (old new : machine.Here) (channel : Channel) → machine.End old new → machine.wants old ≡ Want.Receive → IsOpen channel → IsAtEnd channel.left → channel.untold ≡ []
      → Quietly (side_of machine) (held old channel) (held new (with_fate Over channel))
  ends_told old new channel over wants is_open ended none =
      quiet_call (side_of machine) End (held old channel) (held new (with_fate Over channel)) (over, (refl, is_open, ended, none), wants)

  pub breaks_told : (old new : machine.Here) (channel : Channel) → machine.Break old new → IsBroken (machine.wants old) channel.stands channel.fate
      → Quietly (side_of machine) (held old channel) (held new (with_fate Broken channel))
  breaks_told old new channel broke broken = quiet_call (side_of machine) Break (held old channel) (held new (with_fate Broken channel)) (broke, refl, broken)

  -- these came, and are in hand
  pub came : (old : Stand (side_of machine)) (channel : Channel) (hand octets : List ℕ) → machine.wants old.owner.end ≡ Want.Receive
      → IsRead hand old.owner.channel (with_fate Sound (with_untold hand channel)) → channel.fate ≡ Sound → hand ≡ octets
      → Leads old (with_owner (held old.owner.end (with_untold octets channel)) old)
  came old channel hand octets wants read sound is =
      let end = old.owner.end in
      subst (λ l. Leads old (with_owner (held end (with_untold l channel)) old)) is
      (leads_by (Other (Got hand)) old _ ((refl, subst (λ l. IsRead hand old.owner.channel l) (sound_so (with_untold hand channel) sound) read, wants), refl))

  -- none came, since that failed
  pub came_none : (old : Stand (side_of machine)) (channel : Channel) → machine.wants old.owner.end ≡ Want.Receive → IsRead [] old.owner.channel (with_fate Sound channel)
      → channel.fate ≡ HasFailed → Leads old (with_owner (held old.owner.end channel) old)
  came_none old channel wants read failed =
      let end = old.owner.end in
      let mid = with_fate Sound channel in
      leads_then old (with_owner (held end mid) old) (with_owner (held end channel) old) (leads_by (Other (Got [])) old _ ((refl, read, wants), refl))
      (subst (λ l. Leads (with_owner (held end mid) old) (with_owner (held end l) old)) (sym (failed_so channel failed))
      (idles_failed mid (read.stands ∙ read.is_open.0, refl) end old.left old.unheard old.written))

  -- it took so many of them
  pub received : (old new : machine.Here) (channel : Channel) (count : ℕ) (octets : List ℕ) → IsOpen channel → machine.wants old ≡ Want.Receive → machine.Received octets count old new
      → Called machine (Received octets count) (held old (with_untold octets channel)) (held new (with_untold (drop count octets) channel))
  received old new channel count octets is_open wants took = (took, (sym (take-append-drop count octets), refl), (is_open, wants))

  pub receives : (old new : machine.Here) (channel : Channel) (count : ℕ) (octets : List ℕ) → IsOpen channel → machine.wants old ≡ Want.Receive → machine.Received octets count old new
      → Quietly (side_of machine) (held old (with_untold octets channel)) (held new (with_untold (drop count octets) channel))
  receives old new channel count octets is_open wants took =
      quiet_call (side_of machine) (Received octets count) (held old (with_untold octets channel)) (held new (with_untold (drop count octets) channel))
      (received old new channel count octets is_open wants took)

  -- octets that it no longer wants are let go
  pub lets_go : (here : machine.Here) (channel : Channel) (octets : List ℕ) → machine.wants here ≢ Want.Receive
      → Quietly (side_of machine) (held here (with_untold octets channel)) (held here (with_untold [] channel))
  lets_go here channel octets none =
      quiet_call (side_of machine) (LetGo octets) (held here (with_untold octets channel)) (held here (with_untold [] channel)) ((refl, none), (sym (append-nil octets), refl), tt)

  -- it heard the first of the octets that were read
  pub hears_first : (old new : Stand (side_of machine)) (count : ℕ) → machine.Hears (take count old.unheard) old.unheard old.owner.end new.owner.end
      → new.owner.channel ≡ seen (machine.wants old.owner.end) old.owner.channel → IsListening machine old.owner.end → new.unheard ≡ drop count old.unheard
      → new.left ≡ old.left → new.written ≡ old.written → 0 < length (take count old.unheard) → Progresses machine old new
  hears_first old new count hears channel listening unheard left written some = progresses_by (Heard (take count old.unheard)) old new some (record {
    hears = (hears, channel, listening);
    next = sym (ap (λ l. take count old.unheard ++ l) unheard ∙ take-append-drop count old.unheard);
    left = left;
    written = written;
  })

  -- ---- what actions come to

  abbrev pub carrier : Carrier (side_of machine) move_of
  carrier = record {
    channel = λ end. end.channel;
    called = λ call old new called. called.1;
    heard = λ octets unheard old new hears. is_seen (machine.wants old.end) old.channel new.channel hears.1;
    gave = λ octets old new gives. gives.channel;
    cut = λ old new cut. is_seen (machine.wants old.end) old.channel new.channel cut.1;
  }

  same_given : (octets : List ℕ) (mid : Stand (side_of machine)) (given : Held machine.Here) → ((octets ≡ []) × (given ≡ mid.owner)) ⊎ Gives machine octets mid.owner given
      → given.channel ≡ mid.owner.channel
  same_given octets mid given (inl (none, same)) = ap (λ s. s.channel) same
  same_given octets mid given (inr gives) = gives.channel

  -- where a read or a write failed, its data connection stood as before, but for what was let go
  pub stood_so : (octets : List ℕ) (mid off : Stand (side_of machine)) → (breaks : Breaks octets mid off) → off.owner.channel ≡ with_untold off.owner.channel.untold mid.owner.channel
  stood_so octets mid off breaks = breaks.lets.1 ∙ ap (with_untold off.owner.channel.untold) (same_given octets mid breaks.given breaks.gives)
