-- What calls of a data connection are as moves of its channel.
use Rattle.std.proofs.Common.{◌≡◌, ◌∙◌, ◌≤◌, ◌<◌, ℕ, Bool, false, List, [], ◌∷◌, ◌++◌, length, take, drop, Option, Some, None, refl, sym, ap, inl, inr, append_assoc, arith}
use Rattle.std.proofs.Math.Nat.{min-le_left}
use Rattle.std.proofs.lemmas.List.{drop_all, length-drop, length-take, length-take-le}
use Rattle.std.specs.Prelude.{true}
use Rattle.std.specs.Option.{is_some}
use Rattle.std.specs.Io.KnownBytes.{Consumes, Keeps}
use Rattle.ftp_endpoint.specs.declared.host.Host.{Host}
use Rattle.ftp_ports.specs.Asking.{Asked, Reset, Ended, Shut, Adds, Drops, Leaves, Replaces, told_lost}
use Rattle.ftp_ports.specs.Carrying.{Sends, on_their_way, told_by}
use Rattle.ftp_ports.specs.Channel.{IsEnded, with_fate, IsHad, IsLeft, IsOpened, IsRead, IsWaited, AreOctetsWritten, Channel, channel_of, no_channel, with_given, with_rest}
use Rattle.ftp_ports.specs.Machine.{IsFairEnd}
use Rattle.ftp_ports.specs.Whole.{IsWhole, is_well}
use Rattle.ftp_ports.specs.declared.whole.Fate.{Fate}
use Rattle.ftp_ports.specs.declared.whole.Fate.TheVariants.{Sound}
use Rattle.ftp_ports.specs.declared.whole.Rest.TheVariants as Rests
use Rattle.ftp_ports.specs.declared.data.DataConnection.{DataConnection}
use Rattle.ftp_ports.specs.declared.whole.Rest.{Rest}

-- some were asked, and then others
pub adds_then : (a b c : Option (List Asked)) (first second : List Asked) → Adds a b first → Adds b c second → Adds a c (second ++ first)
adds_then None None None first second one two = tt
adds_then None None (Some z) first second one two = absurd two
adds_then None (Some y) c first second one two = absurd one
adds_then (Some x) None c first second one two = absurd one
adds_then (Some x) (Some y) None first second one two = absurd two
adds_then (Some x) (Some y) (Some z) first second one two = two ∙ ap (λ l. second ++ l) one ∙ sym (append_assoc second first x)

-- none is on its way where all was written
pub way_none : (at end : ℕ) (room : List ℕ) → at ≡ end → drop at (take end room) ≡ []
way_none at end room same = drop_all at (take end room) (let most = length-take end room in let least = min-le_left end (length room) in omega (arith, most, least, same))

-- some are on their way where not all were
pub way_some : (at end : ℕ) (room : List ℕ) → end ≤ length room → at < end → 0 < length (drop at (take end room))
way_some at end room fits less =
    let most = length-take-le end room fits in let rest = length-drop at (take end room) in omega (arith, most, rest, less)

module _ {S : Type 0} (remaining contents : S → Option (List ℕ)) where
  replaces : (before : Option S) (h0 h1 h2 : Option (List Asked)) (had : Asked) → is_some before ≡ false → Adds h0 h1 (had ∷ []) → Replaces remaining contents before h1 h2
      → Adds h0 h2 (had ∷ [])
  replaces (Some before) h0 h1 h2 had none had_by replaced = absurd (cc)
  replaces None h0 h1 h2 had none had_by replaced = adds_then h0 h1 h2 (had ∷ []) [] had_by replaced

  -- one is opened
  pub opens : (old new : DataConnection S) (stream : S) (h0 h1 h2 : Option (List Asked)) (host : Host) (had : Asked) (room later untold : List ℕ) (rest : Rest) → Adds h0 h1 (had ∷ [])
      → IsHad host had (remaining stream) (contents stream) → is_some old.stream ≡ false → Replaces remaining contents old.stream h1 h2
      → new.at ≡ new.end → new.rest ≡ rest → new.fate ≡ Sound → new.stream ≡ Some stream
      → IsOpened host (had ∷ []) (remaining stream) (contents stream) rest (channel_of remaining contents h0 old room untold)
      (channel_of remaining contents h2 new later [])
  opens old new stream h0 h1 h2 host had room later untold rest had_by is_had none replaced all rests sound is = record {
    had = had;
    is_had = is_had;
    none = none;
    alone = refl;
    adds = replaces old.stream h0 h1 h2 had none had_by replaced;
    stands = ap is_some is;
    fate = sound;
    rests = rests;
    left = ap (told_by remaining) is;
    written = ap (told_by contents) is;
    unwritten = way_none new.at new.end later all;
    untold = refl;
  }

  -- what a data connection is, of what stands of it
  abbrev part : Option S → (fate : Fate) → (rest : Rest) → (at end : ℕ) → Option (List Asked) → (room untold : List ℕ) → Channel
  part before fate rest at end asked room untold = record {
    stands = is_some before;
    fate = fate;
    rest = rest;
    left = told_by remaining before;
    written = told_by contents before;
    unwritten = drop at (take end room);
    untold = untold;
    asked = asked;
  }

  -- how it was left, and that it was left so fairly
  record Parts (channel : Channel) (h1 : Option (List Asked)) : Type 0 where
    asked : Asked
    adds : Adds channel.asked h1 (asked ∷ [])
    ended : IsEnded channel.stands channel.left channel.written channel.unwritten asked
    fair : IsFairEnd channel asked

  ends : (before : Option S) (at end : ℕ) (rest : Rest) (fate : Fate) (h0 h1 : Option (List Asked)) (room untold : List ℕ)
      → Leaves remaining contents before at end rest fate h0 h1 → end ≤ length room → Parts (part before fate rest at end h0 room untold) h1
  ends (Some before) at end rest fate h0 h1 room untold (inl (whole, adds)) fits = record {
    asked = Ended (remaining before) (contents before);
    adds = adds;
    ended = inl (way_none at end room whole.0, refl);
    fair = (way_none at end room whole.0, whole.1, whole.2);
  }
  ends (Some before) at end rest fate h0 h1 room untold (inr (inl less, adds)) fits = record {
    asked = Reset (remaining before) (contents before);
    adds = adds;
    ended = inr refl;
    fair = inr (inl (way_some at end room fits less));
  }
  ends (Some before) at end rest fate h0 h1 room untold (inr (inr (inl is), adds)) fits =
      record { asked = Reset (remaining before) (contents before); adds = adds; ended = inr refl; fair = inr (inr is) }
  ends (Some before) at end rest fate h0 h1 room untold (inr (inr (inr is), adds)) fits = record {
    asked = Reset (remaining before) (contents before);
    adds = adds;
    ended = inr refl;
    fair = inl (is);
  }
  ends None at end rest fate h0 h1 room untold adds fits = record { asked = Shut; adds = adds; ended = refl; fair = tt }

  -- one is left
  pub leaves : (old new : DataConnection S) (h0 h1 : Option (List Asked)) (room later untold : List ℕ)
      → Leaves remaining contents old.stream old.at old.end old.rest old.fate h0 h1 → old.end ≤ length room
      → IsWhole new.at new.end new.rest new.fate → new.fate ≡ Sound → new.stream ≡ None
      → (asked : Asked) × IsLeft asked (channel_of remaining contents h0 old room untold) (channel_of remaining contents h1 new later [])
      × IsFairEnd (channel_of remaining contents h0 old room untold) asked
  leaves old new h0 h1 room later untold left fits whole sound none =
      let end = ends old.stream old.at old.end old.rest old.fate h0 h1 room untold left fits in (
        end.asked,
        record {
          ended = end.ended;
          adds = end.adds;
          stands = ap is_some none;
          fate = sound;
          rest = whole.1;
          unwritten = way_none new.at new.end later whole.0;
          untold = refl;
        },
        end.fair,
      )

  -- one is left for good
  pub leaves_for_good : (old : DataConnection S) (h0 h1 : Option (List Asked)) (room untold : List ℕ)
      → Leaves remaining contents old.stream old.at old.end old.rest old.fate h0 h1 → old.end ≤ length room
      → (asked : Asked) × IsLeft asked (channel_of remaining contents h0 old room untold) (no_channel h1) × IsFairEnd (channel_of remaining contents h0 old room untold) asked
  leaves_for_good old h0 h1 room untold left fits =
      let end = ends old.stream old.at old.end old.rest old.fate h0 h1 room untold left fits in
      (end.asked, record { ended = end.ended; adds = end.adds; stands = refl; fate = refl; rest = refl; unwritten = refl; untold = refl }, end.fair)

  -- none was had yet
  pub none_had : (connection : DataConnection S) (asked : Option (List Asked)) (room : List ℕ) → connection.stream ≡ None → connection.at ≡ connection.end
      → connection.fate ≡ Sound → connection.rest ≡ Rests.Nothing → channel_of remaining contents asked connection room [] ≡ no_channel asked
  none_had connection asked room none all sound nothing =
      ap (λ s. part s connection.fate connection.rest connection.at connection.end asked room []) none
      ∙ ap (λ f. part None f connection.rest connection.at connection.end asked room []) sound
      ∙ ap (λ r. part None Sound r connection.at connection.end asked room []) nothing
      ∙ ap (λ l. record (no_channel asked) { unwritten = l }) (way_none connection.at connection.end room all)

  drop_ends : (before : Option S) (h0 h1 : Option (List Asked)) (unwritten : List ℕ) → Drops remaining contents before h0 h1
      → (asked : Asked) × Adds h0 h1 (asked ∷ []) × IsEnded (is_some before) (told_by remaining before) (told_by contents before) unwritten asked
  drop_ends (Some before) h0 h1 unwritten adds = (Reset (remaining before) (contents before), adds, inr refl)
  drop_ends None h0 h1 unwritten adds = (Shut, adds, refl)

  -- one is dropped
  pub drops : (old new : DataConnection S) (h0 h1 : Option (List Asked)) (room later untold : List ℕ) → Drops remaining contents old.stream h0 h1
      → IsWhole new.at new.end new.rest new.fate → new.fate ≡ Sound → new.stream ≡ None
      → (asked : Asked) × IsLeft asked (channel_of remaining contents h0 old room untold) (channel_of remaining contents h1 new later [])
  drops old new h0 h1 room later untold dropped whole sound none =
      let end = drop_ends old.stream h0 h1 (drop old.at (take old.end room)) dropped in (
        end.0,
        record {
          ended = end.2;
          adds = end.1;
          stands = ap is_some none;
          fate = sound;
          rest = whole.1;
          unwritten = way_none new.at new.end later whole.0;
          untold = refl;
        },
      )

  -- it is waited at
  pub waits : (lost : Bool) (old new : DataConnection S) (h0 h1 : Option (List Asked)) (room untold : List ℕ) → Keeps (told_by remaining old.stream) (told_by remaining new.stream)
      → Keeps (told_by contents old.stream) (told_by contents new.stream) → new.at ≡ old.at → new.end ≡ old.end → new.rest ≡ old.rest → is_some new.stream ≡ is_some old.stream → new.fate ≡ old.fate
      → Adds h0 h1 (told_lost lost) → IsWaited lost (channel_of remaining contents h0 old room untold) (channel_of remaining contents h1 new room untold)
  waits lost old new h0 h1 room untold left written at end rest stands failed asked = record {
    holds = record { stands = stands; fate = failed; rest = rest; unwritten = ap (λ n. drop n (take new.end room)) at ∙ ap (λ n. drop old.at (take n room)) end; untold = refl };
    left = left;
    written = written;
    asked = asked;
  }

  -- these were taken, where all before were written
  pub fills : (old new : DataConnection S) (asked : Option (List Asked)) (room later : List ℕ) (count : ℕ) (rest : Rest) → new.stream ≡ old.stream → old.at ≡ old.end
      → new.at ≡ 0 → new.end ≡ count → new.rest ≡ rest → new.fate ≡ old.fate
      → channel_of remaining contents asked new later [] ≡ with_given (take count later) rest (channel_of remaining contents asked old room [])
  fills old new asked room later count rest stream all at end rests failed =
      ap (λ s. part s new.fate new.rest new.at new.end asked later []) stream
      ∙ ap (λ f. part old.stream f new.rest new.at new.end asked later []) failed
      ∙ ap (λ r. part old.stream old.fate r new.at new.end asked later []) rests
      ∙ ap (λ l. record (part old.stream old.fate rest old.at old.end asked room []) { unwritten = l })
      (ap (λ n. drop n (take new.end later)) at ∙ ap (λ n. take n later) end ∙ ap (λ l. l ++ take count later) (sym (way_none old.at old.end room all)))

  -- it is read, where none of the room's octets are on their way; whether that failed is a move of its own
  pub reads : (old new : DataConnection S) (asked : Option (List Asked)) (room later octets : List ℕ) → is_some old.stream ≡ true → old.fate ≡ Sound → old.at ≡ old.end
      → new.at ≡ old.at → new.end ≡ old.end → new.rest ≡ old.rest → is_some new.stream ≡ is_some old.stream → Consumes (told_by remaining old.stream) (told_by remaining new.stream) octets
      → Keeps (told_by contents old.stream) (told_by contents new.stream)
      → IsRead octets (channel_of remaining contents asked old room []) (with_fate Sound (channel_of remaining contents asked new later octets))
  reads old new asked room later octets is_open sound all at end rest stands read apart = record {
    is_open = (is_open, sound);
    stands = stands;
    fate = sym (sound);
    rest = rest;
    told = refl;
    read = read;
    written = apart;
    untold = refl;
    unwritten = way_none new.at new.end later (at ∙ all ∙ sym end) ∙ sym (way_none old.at old.end room all);
    asked = refl;
  }

  -- it is written
  pub writes : (old new : DataConnection S) (asked : Option (List Asked)) (room untold : List ℕ) → is_some old.stream ≡ true → old.fate ≡ Sound → old.at < old.end
      → old.end ≤ length room → new.rest ≡ old.rest → is_some new.stream ≡ is_some old.stream
      → (sends : Sends (told_by contents old.stream) (told_by contents new.stream) (on_their_way old room) (on_their_way new room))
      → Keeps (told_by remaining old.stream) (told_by remaining new.stream)
      → AreOctetsWritten sends.0 (channel_of remaining contents asked old room untold) (with_fate Sound (channel_of remaining contents asked new room untold))
  writes old new asked room untold is_open sound less fits rest stands sends apart = record {
    is_open = (is_open, sound);
    some = way_some old.at old.end room fits less;
    stands = stands;
    fate = sym (sound);
    rest = rest;
    first = sends.1;
    wrote = sends.2;
    left = apart;
    untold = refl;
    asked = refl;
  }

  -- where it stands as it did, its channel is the same
  pub same_channel : (old new : DataConnection S) (asked : Option (List Asked)) (room untold : List ℕ) → new.stream ≡ old.stream → new.at ≡ old.at → new.end ≡ old.end
      → new.rest ≡ old.rest → new.fate ≡ old.fate → channel_of remaining contents asked new room untold ≡ channel_of remaining contents asked old room untold
  same_channel old new asked room untold stream at end rest failed =
      ap (λ s. part s new.fate new.rest new.at new.end asked room untold) stream
      ∙ ap (λ f. part old.stream f new.rest new.at new.end asked room untold) failed
      ∙ ap (λ r. part old.stream old.fate r new.at new.end asked room untold) rest
      ∙ ap (λ l. record (part old.stream old.fate old.rest old.at old.end asked room untold) { unwritten = l })
      (ap (λ n. drop n (take new.end room)) at ∙ ap (λ n. drop old.at (take n room)) end)

  -- more is to be given
  pub rest_channel : (old new : DataConnection S) (asked : Option (List Asked)) (room : List ℕ) → new.stream ≡ old.stream → new.at ≡ old.at → new.end ≡ old.end
      → new.rest ≡ Rests.More → new.fate ≡ old.fate → channel_of remaining contents asked new room [] ≡ with_rest Rests.More (channel_of remaining contents asked old room [])
  rest_channel old new asked room stream at end rest fate = same_channel (record old { rest = Rests.More }) new asked room [] stream at end rest fate

-- kept octets are those of which none was read
pub keeps_consumes : (old new : Option (List ℕ)) → Keeps old new → Consumes old new []
keeps_consumes None new kept = tt
keeps_consumes (Some xs) None kept = absurd kept
keeps_consumes (Some xs) (Some ys) kept = sym kept
