-- What a read of a data connection and a reset of it are as moves of its channel, and what an end gives and takes of octets.
use Rattle.std.proofs.Common.{◌≡◌, ◌∙◌, ℕ, ◌+◌, ◌≤◌, ◌<◌, List, [], ◌∷◌, ◌++◌, length, take, Option, Some, None, refl, sym, ap, subst, inr, append_assoc, Result, Ok, Err}
use Rattle.std.specs.Prelude.{Bool, IfOk, OnErr, true, false}
use Rattle.std.specs.Option.{is_some}
use Rattle.std.proofs.Math.Seq.{take-append-add}
use Rattle.std.specs.Io.KnownBytes.{Consumes, Keeps}
use Rattle.ftp_ports.specs.Asking.{Adds, Asked, Drops, Reset, Shut}
use Rattle.ftp_ports.specs.Carrying.{carried_of, left_of, told_by}
use Rattle.ftp_ports.specs.Actions.{Other}
use Rattle.ftp_ports.specs.Channel.{IsEnded, IsOpen, IsRead, Channel, channel_of, with_fate, with_given}
use Rattle.ftp_ports.specs.Machine.{Gave, Gives, Machine, Progressing, held, side_of}
use Rattle.ftp_ports.specs.Outcome.{IsDropped, IsReset, in_hand}
use Rattle.ftp_ports.specs.Whole.{IsWhole}
use Rattle.ftp_ports.specs.declared.data.DataConnection.{DataConnection}
use Rattle.ftp_ports.specs.declared.data.Halt.{Halt}
use Rattle.ftp_ports.specs.declared.whole.Fate.TheVariants.{Sound}
use Rattle.ftp_ports.specs.declared.whole.Rest.{Rest}
use Rattle.ftp_ends.specs.declared.link.Wants.TheVariants as Want
use Rattle.ftp_ports.proofs.Channels.{keeps_consumes, reads, way_none}
use Rattle.ftp_ports.proofs.Getting.{progresses_by, progresses_then}
use Rattle.ftp_ports.proofs.Leading.{quiet_call}

-- one that is reset is left
ended_by : (stands : Bool) (left written : Option (List ℕ)) (unwritten : List ℕ) (asked : Asked) → IsDropped stands left written asked → IsEnded stands left written unwritten asked
ended_by true left written unwritten asked dropped = inr dropped
ended_by false left written unwritten asked dropped = dropped

module _ {S : Type 0} (remaining contents : S → Option (List ℕ)) where
  -- it is read, whatever comes of that
  pub is_read : (old new : DataConnection S) (asked : Option (List Asked)) (room later : List ℕ) (r : Result ℕ Halt) → is_some old.stream ≡ true → old.fate ≡ Sound
      → old.at ≡ old.end → new.at ≡ old.at → new.end ≡ old.end → new.rest ≡ old.rest → is_some new.stream ≡ is_some old.stream
      → IfOk r (λ count. Consumes (left_of remaining old) (left_of remaining new) (take count later)) → OnErr r (Keeps (left_of remaining old) (left_of remaining new))
      → Keeps (carried_of contents old) (carried_of contents new)
      → IsRead (in_hand r later) (channel_of remaining contents asked old room []) (with_fate Sound (channel_of remaining contents asked new later (in_hand r later)))
  is_read old new asked room later (Ok count) is_open sound all at end rest stands read err apart =
      reads remaining contents old new asked room later (take count later) is_open sound all at end rest stands read apart
  is_read old new asked room later (Err halt) is_open sound all at end rest stands read err apart =
      reads remaining contents old new asked room later [] is_open sound all at end rest stands (keeps_consumes (left_of remaining old) (left_of remaining new) err)
      apart

  drop_by : (before : Option S) (h0 h1 : Option (List Asked)) → Drops remaining contents before h0 h1
      → (asked : Asked) × Adds h0 h1 (asked ∷ []) × IsDropped (is_some before) (told_by remaining before) (told_by contents before) asked
  drop_by (Some before) h0 h1 adds = (Reset (remaining before) (contents before), adds, refl)
  drop_by None h0 h1 adds = (Shut, adds, refl)

  -- it is reset
  pub resets : (old new : DataConnection S) (h0 h1 : Option (List Asked)) (room later untold : List ℕ) → Drops remaining contents old.stream h0 h1
      → IsWhole new.at new.end new.rest new.fate → new.fate ≡ Sound → new.stream ≡ None
      → (asked : Asked) × IsReset asked (channel_of remaining contents h0 old room untold) (channel_of remaining contents h1 new later [])
  resets old new h0 h1 room later untold dropped whole sound none = let by = drop_by old.stream h0 h1 dropped in (
    by.0,
    record {
      dropped = by.2;
      left = record {
        ended = ended_by (is_some old.stream) (told_by remaining old.stream) (told_by contents old.stream) (channel_of remaining contents h0 old room untold).unwritten by.0 by.2;
        adds = by.1;
        stands = ap is_some none;
        fate = sound;
        rest = whole.1;
        unwritten = way_none new.at new.end later whole.0;
        untold = refl;
      };
    },
  )

more_given : (before : List ℕ) (at count : ℕ) (room front out : List ℕ) → front ≡ take at room → length front ≡ at → count ≤ length out
    → before ++ take (at + count) (front ++ out) ≡ (before ++ take at room) ++ take count out
more_given before at count room front out is len fits =
    ap (λ l. before ++ l) (ap (λ n. take (n + count) (front ++ out)) (sym len) ∙ take-append-add front out count ∙ ap (λ l. l ++ take count out) is)
    ∙ sym (append_assoc before (take at room) (take count out))

module _ (machine : Machine) where
  -- it gave more into the room behind what it gave before
  pub given_more : (old mid new : machine.Here) (channel : Channel) (at count : ℕ) (room front out : List ℕ) (before rest : Rest) → IsOpen channel → machine.wants mid ≡ Want.Send
      → Progressing machine (held old channel) (held mid (with_given (take at room) before channel)) → front ≡ take at room → length front ≡ at → count ≤ length out
      → machine.Gave count (take count out) rest mid new
      → Progressing machine (held old channel) (held new (with_given (take (at + count) (front ++ out)) rest channel))
  given_more old mid new channel at count room front out before rest is_open sends first is len fits gave left unheard written =
      let there = with_given (take at room) before channel in
      let then = with_given (take (at + count) (front ++ out)) rest channel in
      progresses_then _ _ _ (first left unheard written)
      (quiet_call (side_of machine) (Gave count (take count out) rest) (held mid there) (held new then)
      (gave, (ap (λ l. record channel { rest = rest; unwritten = l }) (more_given channel.unwritten at count room front out is len fits), is_open), sends) left unheard written)

  -- it gave these first
  pub given_first : (old new : machine.Here) (channel : Channel) (count : ℕ) (out : List ℕ) (rest : Rest) → IsOpen channel → machine.wants old ≡ Want.Send
      → machine.Gave count (take count out) rest old new
      → Progressing machine (held old channel) (held new (with_given (take count out) rest channel))
  given_first old new channel count out rest is_open sends gave left unheard written =
      progresses_by (Other (Gave count (take count out) rest)) _ _ tt ((gave, (refl, is_open), sends), refl)

  -- control octets that it owed it gave
  pub gave_some : (old new : machine.Here) (channel : Channel) (count : ℕ) (octets : List ℕ) → octets ≡ take count (machine.owed old) → machine.Gives count old new
      → Gives machine octets (held old channel) (held new channel)
  gave_some old new channel count octets is gives = record { count = count; owed = is; gave = gives; channel = refl }
