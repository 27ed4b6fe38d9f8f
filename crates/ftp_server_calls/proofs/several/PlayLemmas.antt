-- Turns of several sessions in order, and what the definitions say of them.
use Rattle.std.proofs.Common.{◌≡◌, ◌≢◌, ◌≤◌, inl, inr, ℕ, zero, suc, eqb, Bool, true, false, List, [], ◌∷◌, ◌++◌, Option, Some, None, refl, sym, ap, subst, ◌∙◌, length, map, slice_get, take, option_map, arith}
use Rattle.std.specs.Option.{unwrap_or}
use Rattle.std.specs.Prelude.{if◌then◌else◌}
use Rattle.std.proofs.lemmas.List.{length-map, take-map}
use Rattle.std.proofs.lemmas.Option.{slice_get-map}
use Rattle.ftp_server_model.specs.Machine.{IsReading, Reading}
use Rattle.ftp_server_model.specs.Play.{Gift, Nothing}
use Rattle.ftp_server_model.specs.declared.counts.Counts.{Counts as Told}
use Rattle.ftp_server_calls.specs.one.Order.{OneMore}
use Rattle.laws_server.proofs.several.CompanyLemmas.{company_is_unseen}
use Rattle.laws_server.proofs.several.OwnLemmas.{each_is_server}
use Rattle.laws_server.proofs.several.SlotLemmas.{get-set_same}
use Rattle.laws_server.specs.several.Company.{given_to_us}
use Rattle.laws_server.specs.several.Several.{Slot, Several, Turn, called, called_as, given_to, left_by_all}
use Rattle.ftp_server_calls.proofs.several.LentLemmas.{turned_gives}
use Rattle.ftp_server_calls.specs.several.Playing.{AreTaken, EachIsOwn, IsCalm, KeepsCompany, PlaysSeveral, Takes, TakesSome, gifts_by_turns, ours_of, told_at, turn_of, turns_of}
use Rattle.ftp_server_calls.specs.several.Lent.{InSlot}
use Rattle.ftp_server_calls.specs.several.Slots.{Slots, SlotTurned, refusals_at, slot_of, several_of}
use Rattle.ftp_server_calls.specs.declared.several.playing.Turn.{Turn as Held}

-- a turn in which nothing failed is that of the definitions
takes_gives : (turn : Turn) (gift : Gift) (old new : Slots) → Takes turn gift old new → IsCalm turn old new → (read : Reading) → IsReading read
    → (gift, several_of new) ≡ called read turn (several_of old)
takes_gives turn gift old new (inl turned) calm read is = turned_gives turn gift old new turned calm.0 calm.1 read is
takes_gives turn gift old new (inr nobody) calm read is =
    let free : slice_get (map slot_of old.slots) turn.slot ≡ None = slice_get-map slot_of old.slots turn.slot ∙ ap (option_map slot_of) nobody.free in
    let here : ◌≡◌ {A = Gift × Several} (gift, several_of new) (called_as read turn.slot turn.cue None (several_of old)) = λ i. (nobody.none i, several_of (nobody.stays i)) in
    here ∙ sym (ap (λ (who : Option Slot). called_as read turn.slot turn.cue who (several_of old)) free)

-- what a turn gave, and then the rest
given_on : (read : Reading) (turn : Turn) (gift : Gift) (s t : Several) (gifts : List Gift) (turns : List Turn) → (gift, t) ≡ called read turn s → gifts ≡ gifts_by_turns read turns t
    → gift ∷ gifts ≡ gifts_by_turns read (turn ∷ turns) s
unfolding gifts_by_turns
given_on read turn gift s t gifts turns both rest =
    let tail : gifts ≡ gifts_by_turns read turns (called read turn s).1 = rest ∙ ap (λ (x : Gift × Several). gifts_by_turns read turns x.1) both in
    λ i. (both i).0 ∷ tail i

gave_as : (read : Reading) → IsReading read → (calm : ℕ) (turns : List Turn) (gifts : List Gift) (old new : Slots) → AreTaken calm turns gifts old new
    → take calm gifts ≡ gifts_by_turns read (take calm turns) (several_of old)
unfolding gifts_by_turns
gave_as read is zero turns gifts old new made = refl
gave_as read is (suc calm) [] gifts old new made = absurd made
gave_as read is (suc calm) (turn ∷ turns) [] old new made = absurd made
gave_as read is (suc calm) (turn ∷ turns) (gift ∷ gifts) old new made =
    given_on read turn gift (several_of old) (several_of made.0) (take calm gifts) (take calm turns) (takes_gives turn gift old made.0 made.1 made.2 read is)
    (gave_as read is calm turns gifts made.0 new made.3)

left_as : (read : Reading) → IsReading read → (calm : ℕ) (turns : List Turn) (gifts : List Gift) (old new : Slots) → AreTaken calm turns gifts old new → calm ≡ length turns
    → several_of new ≡ left_by_all read turns (several_of old)
unfolding left_by_all
left_as read is zero [] [] old new made all = ap several_of made
left_as read is zero [] (gift ∷ gifts) old new made all = absurd made
left_as read is zero (turn ∷ turns) gifts old new made all = absurd (omega (arith, all))
left_as read is (suc calm) [] gifts old new made all = absurd made
left_as read is (suc calm) (turn ∷ turns) [] old new made all = absurd made
left_as read is (suc calm) (turn ∷ turns) (gift ∷ gifts) old new made all =
    left_as read is calm turns gifts made.0 new made.3 (omega (arith, all))
    ∙ ap (λ (x : Gift × Several). left_by_all read turns x.1) (takes_gives turn gift old made.0 made.1 made.2 read is)

pub plays_as : (calm : ℕ) (turns : List Turn) (gifts : List Gift) (old new : Slots) → AreTaken calm turns gifts old new → PlaysSeveral calm turns gifts old new
plays_as calm turns gifts old new made = record {
  gave = λ read is. gave_as read is calm turns gifts old new made;
  left = λ read is all. left_as read is calm turns gifts old new made all;
}

-- ---- what some of them are given

ours_given : (read : Reading) (ours : ℕ → Bool) (turns : List Turn) (s : Several) → ours_of ours turns (gifts_by_turns read turns s) ≡ given_to_us read ours turns s
unfolding gifts_by_turns ours_of given_to_us
ours_given read ours [] s = refl
ours_given read ours (turn ∷ turns) s =
    ap (λ (l : List Gift). if ours turn.slot then (called read turn s).0 ∷ l else l) (ours_given read ours turns (called read turn s).1)

own_given : (read : Reading) (slot : ℕ) (turns : List Turn) (s : Several) → ours_of (λ other. eqb other slot) turns (gifts_by_turns read turns s) ≡ given_to read slot turns s
unfolding gifts_by_turns ours_of given_to
own_given read slot [] s = refl
own_given read slot (turn ∷ turns) s =
    ap (λ (l : List Gift). if eqb turn.slot slot then (called read turn s).0 ∷ l else l) (own_given read slot turns (called read turn s).1)

pub each_is_own : (calm : ℕ) (turns : List Turn) (gifts : List Gift) (old new : Slots) → PlaysSeveral calm turns gifts old new → EachIsOwn calm turns gifts old
each_is_own calm turns gifts old new plays = λ read slot v is sits.
    ap (ours_of (λ other. eqb other slot) (take calm turns)) (plays.gave read is) ∙ own_given read slot (take calm turns) (several_of old)
    ∙ each_is_server read (take calm turns) (several_of old) slot v sits

pub keeps_company : (calm : ℕ) (turns : List Turn) (gifts : List Gift) (old new : Slots) → PlaysSeveral calm turns gifts old new → KeepsCompany calm turns gifts old
keeps_company calm turns gifts old new plays = λ read root ours roots is company in_slot at.
    ap (ours_of ours (take calm turns)) (plays.gave read is) ∙ ours_given read ours (take calm turns) (several_of old)
    ∙ company_is_unseen read root ours roots (take calm turns) (several_of old) company in_slot at

-- ---- a list of turns

-- none was made
pub none_taken : (gifts : List Gift) (old new : Slots) → gifts ≡ [] → new ≡ old → AreTaken 0 [] gifts old new
none_taken gifts old new none same = subst (λ l. AreTaken 0 [] l old new) (sym none) same

-- memory was refused before one of them
pub some_taken : {A : Type 0} (turns : List (Held A)) (i calm : ℕ) (gifts : List Gift) (old mid new : Slots) → i ≤ length turns → AreTaken calm (turns_of (take i turns)) gifts old mid
    → new ≡ mid → TakesSome (turns_of turns) old new
some_taken turns i calm gifts old mid new inside made back = record {
  count = i;
  few = subst (λ n. i ≤ n) (sym (length-map turns turn_of)) inside;
  calm = calm;
  gifts = gifts;
  made = subst (λ s. AreTaken calm (take i (turns_of turns)) gifts old s) (sym back) (subst (λ l. AreTaken calm l gifts old mid) (sym (take-map turn_of i turns)) made);
}

-- ---- one turn

-- nobody has the slot
pub nobody_takes : (turn : Turn) (s : Slots) (before after : List Gift) → slice_get s.slots turn.slot ≡ None → after ≡ before ++ Nothing ∷ [] → OneMore Takes IsCalm true turn before after s s
nobody_takes turn s before after free kept = record {
  gift = Nothing;
  kept = kept;
  makes = inr (record { free = free; none = refl; stays = refl });
  calm = λ calmly. (refl, refl);
  moved = λ off calm. let wrong : true ≡ false = off in cc;
}

-- somebody has it: what a program is told of failures tells whether something failed, where no device strays
pub somebody_takes : (turn : Turn) (gift : Gift) (old new : Slots) (before after : List Gift) (was is : Told) (is_calm : Bool) → SlotTurned turn gift old new → after ≡ before ++ gift ∷ []
    → was ≡ told_at turn.slot old → is ≡ told_at turn.slot new → old.failures.strays ≡ 0 → new.failures.strays ≡ 0 → (is_calm ≡ true → is ≡ was) → (is_calm ≡ false → is ≢ was)
    → OneMore Takes IsCalm is_calm turn before after old new
somebody_takes turn gift old new before after was is is_calm turned kept told_old told_new sure_old sure_new same moved = record {
  gift = gift;
  kept = kept;
  makes = inl turned;
  calm = λ calmly. (
    λ i. record { told = ap (λ (t : Told). t.failures) (alike calmly) i; strays = (sure_new ∙ sym sure_old) i },
    sits_new ∙ ap Some (sym (ap count sits_new) ∙ ap (λ (t : Told). t.refusals) (alike calmly) ∙ ap count sits_old) ∙ sym sits_old,
  );
  moved = λ off calm. moved off (told_new ∙ (λ i. record { refusals = count (calm.1 i); failures = (calm.0 i).told }) ∙ sym told_old);
}
  where
    alike : is_calm ≡ true → told_at turn.slot new ≡ told_at turn.slot old
    alike calmly = sym told_new ∙ same calmly ∙ told_old

    count : Option ℕ → ℕ
    count found = unwrap_or found 0

    refused : InSlot → ℕ
    refused s = s.server.counts.refusals

    sits_old : refusals_at turn.slot old ≡ Some (refused turned.before)
    sits_old = ap (option_map refused) turned.sits

    sits_new : refusals_at turn.slot new ≡ Some (refused turned.after)
    sits_new =
        ap (λ (items : List InSlot). option_map refused (slice_get items turn.slot)) turned.left
        ∙ ap (option_map refused) (get-set_same old.slots turn.slot turned.before turned.after turned.sits)
