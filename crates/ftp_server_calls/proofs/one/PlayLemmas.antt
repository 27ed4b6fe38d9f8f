-- Calls one after another.
use Rattle.std.proofs.Common.{◌≡◌, ◌≢◌, ◌≤◌, Bool, true, false, ◌==◌, ◌&&◌, ℕ, zero, suc, ◌+◌, List, [], ◌∷◌, ◌++◌, length, take, length-append, refl, sym, ap, subst, ◌∙◌, arith}
use Rattle.std.proofs.lemmas.Bool.{eq-eqb}
use Rattle.std.proofs.lemmas.List.{length-map, map-append, take-map, take_all}
use Rattle.ftp_tree.specs.Tree.{Table, node_at}
use Rattle.ftp_server_model.specs.Failing.{KeepsCourse}
use Rattle.ftp_server_model.specs.Far.{Server, counts_told}
use Rattle.ftp_server_model.specs.declared.counts.Counts.{Counts as Told}
use Rattle.ftp_server_model.specs.Machine.{IsReading, Reading}
use Rattle.ftp_server_model.specs.Play.{Cue, Gift, Clock, Hear, ControlOut, ControlEnd, Listening, ListenRefused, DataOpened, DataRefused, DataHear, DataOut, DataEnd, DataFault, DataClosed, AsksWants, IsApart, LogsInAt, call, left_by, most_given, played}
use Rattle.ftp_server_model.specs.View.{View}
use Rattle.laws_server.specs.one.Lookers.{OnlyLooks}
use Rattle.laws_server.proofs.one.LookLemmas.{starts_look}
use Rattle.laws_server.proofs.one.LookLosses.{far_leaves_the_map}
use Rattle.laws_server.proofs.one.RootTheorems.{roots_are_apart}
use Rattle.ftp_server_calls.proofs.one.CallLemmas.{makes_gives}
use Rattle.ftp_server_calls.proofs.one.CountLemmas.{calm_all, first_course}
use Rattle.ftp_server_calls.proofs.one.OrderLemmas.{are_made}
use Rattle.ftp_server_calls.specs.one.Cues.{cue_of, cues_of, gift_of, gifts_of}
use Rattle.ftp_server_calls.specs.declared.one.cue.Cue.{Cue as Held}
use Rattle.ftp_server_calls.specs.declared.one.cue.Gift.{Gift as Given}
use Rattle.ftp_server_calls.specs.one.Making.{AreMade, ArePlayed, IsCalm, Makes}
use Rattle.ftp_server_calls.specs.one.Playing.{KeepsApart, KeepsTheMap, PlaysAs, PlaysSome}

-- ---- lists

-- one gift more
pub kept_on : {A : Type 0} (items before after : List (Given A)) (gift : Given A) → before ≡ items → after ≡ before ++ gift ∷ []
    → gifts_of after ≡ gifts_of items ++ gift_of gift ∷ []
kept_on items before after gift same more =
    ap gifts_of more ∙ map-append gift_of before (gift ∷ []) ∙ ap (λ l. gifts_of l ++ gift_of gift ∷ []) same

-- none was made
pub none_made : {A : Type 0} (gifts : List (Given A)) (old new : Server) → gifts ≡ [] → new ≡ old → ArePlayed 0 [] (gifts_of gifts) old new
none_made gifts old new none same = subst (λ l. ArePlayed 0 [] (gifts_of l) old new) (sym none) same

-- and one gift more is kept
pub long_more : {A : Type 0} (items more : List (Given A)) (gift : Gift) (i : ℕ) → gifts_of more ≡ gifts_of items ++ gift ∷ [] → length items ≡ i → length more ≡ i + 1
long_more items more gift i kept long =
    omega (arith, long, length-map more gift_of, length-map items gift_of, ap length kept, length-append (gifts_of items) (gift ∷ []))

-- memory was refused before one of them
pub some_made : {A : Type 0} (cues : List (Held A)) (i calm : ℕ) (gifts : List Gift) (old mid new : Server) → i ≤ length cues → ArePlayed calm (cues_of (take i cues)) gifts old mid
    → new ≡ mid → PlaysSome (cues_of cues) old new
some_made cues i calm gifts old mid new inside made back = record {
  count = i;
  few = subst (λ n. i ≤ n) (sym (length-map cues cue_of)) inside;
  calm = calm;
  gifts = gifts;
  made = subst (λ s. ArePlayed calm (take i (cues_of cues)) gifts old s) (sym back) (subst (λ l. ArePlayed calm l gifts old mid) (sym (take-map cue_of i cues)) made);
}

-- ---- counts

-- what is told of counts tells them
pub told_apart : (a b : Told) → counts_told a ≡ counts_told b → a ≡ b
told_apart a b same = λ i. record { refusals = (same i).refusals; failures = (same i).failures.told }

-- where the test of two counts fails they are not the same
pub counts_apart : (a b : Told) (test : Bool) → test ≡ ((a.refusals == b.refusals) && (a.failures == b.failures)) → test ≡ false → a ≢ b
counts_apart a b test is fails same =
    let refusals : (a.refusals == b.refusals) ≡ true = eq-eqb a.refusals b.refusals (ap (λ c. c.refusals) same) in
    let failures : (a.failures == b.failures) ≡ true = eq-eqb a.failures b.failures (ap (λ c. c.failures) same) in
    let both : test ≡ true = is ∙ ap (λ x. x && (a.failures == b.failures)) refusals ∙ failures in
    let wrong : true ≡ false = sym both ∙ fails in cc

-- ---- what the definitions say up to the first in which a count moved

-- what a call gave, and then the rest
given_on : (read : Reading) (cue : Cue) (gift : Gift) (v w : View) (gifts : List Gift) (cues : List Cue) → (gift, w) ≡ call read cue v → gifts ≡ played read cues w
    → gift ∷ gifts ≡ played read (cue ∷ cues) v
unfolding played
given_on read cue gift v w gifts cues both rest =
    let tail : gifts ≡ played read cues (call read cue v).1 = rest ∙ ap (λ (x : Gift × View). played read cues x.1) both in
    λ i. (both i).0 ∷ tail i

gave_as : (read : Reading) → IsReading read → (calm : ℕ) (cues : List Cue) (gifts : List Gift) (old new : Server) → ArePlayed calm cues gifts old new
    → take calm gifts ≡ played read (take calm cues) old.view
unfolding played
gave_as read is zero cues gifts old new made = refl
gave_as read is (suc calm) [] gifts old new made = absurd made
gave_as read is (suc calm) (cue ∷ cues) [] old new made = absurd made
gave_as read is (suc calm) (cue ∷ cues) (gift ∷ gifts) old new made =
    given_on read cue gift old.view made.0.view (take calm gifts) (take calm cues) (makes_gives cue gift old made.0 made.1 made.2 read is)
    (gave_as read is calm cues gifts made.0 new made.3)

left_as : (read : Reading) → IsReading read → (calm : ℕ) (cues : List Cue) (gifts : List Gift) (old new : Server) → ArePlayed calm cues gifts old new → calm ≡ length cues
    → new.view ≡ left_by read cues old.view
unfolding left_by
left_as read is zero [] [] old new made all = ap (λ s. s.view) made
left_as read is zero [] (gift ∷ gifts) old new made all = absurd made
left_as read is zero (cue ∷ cues) gifts old new made all = absurd (omega (arith, all))
left_as read is (suc calm) [] gifts old new made all = absurd made
left_as read is (suc calm) (cue ∷ cues) [] old new made all = absurd made
left_as read is (suc calm) (cue ∷ cues) (gift ∷ gifts) old new made all =
    left_as read is calm cues gifts made.0 new made.3 (omega (arith, all))
    ∙ ap (λ (x : Gift × View). left_by read cues x.1) (makes_gives cue gift old made.0 made.1 made.2 read is)

steady_as : (calm : ℕ) (cues : List Cue) (gifts : List Gift) (old new : Server) → ArePlayed calm cues gifts old new → calm ≡ length cues → new.counts ≡ old.counts
steady_as zero [] [] old new made all = ap (λ s. s.counts) made
steady_as zero [] (gift ∷ gifts) old new made all = absurd made
steady_as zero (cue ∷ cues) gifts old new made all = absurd (omega (arith, all))
steady_as (suc calm) [] gifts old new made all = absurd made
steady_as (suc calm) (cue ∷ cues) [] old new made all = absurd made
steady_as (suc calm) (cue ∷ cues) (gift ∷ gifts) old new made all = steady_as calm cues gifts made.0 new made.3 (omega (arith, all)) ∙ made.2

pub plays_as : (calm : ℕ) (cues : List Cue) (gifts : List Gift) (old new : Server) → ArePlayed calm cues gifts old new → PlaysAs calm cues gifts old new
plays_as calm cues gifts old new made = record {
  gave = λ read is. gave_as read is calm cues gifts old new made;
  left = λ read is all. left_as read is calm cues gifts old new made all;
  steady = steady_as calm cues gifts old new made;
  fine = λ read is few same. calm_all read is calm cues gifts old new few made same;
}

-- ---- at a root

pub keeps_apart : (calm : ℕ) (cues : List Cue) (gifts : List Gift) (old new : Server) → PlaysAs calm cues gifts old new → KeepsApart calm cues gifts old new
keeps_apart calm cues gifts old new plays = λ read table accounts here peer root is starts known.
    let P : View → Type 0 = λ v. LogsInAt read root (take calm cues) v → IsApart read root (take calm cues) v in
    let apart = subst P (sym starts) (roots_are_apart read table accounts here peer root (take calm cues) is) known in (
      plays.gave read is ∙ apart.gives,
      λ all path out.
          ap (λ (w : View). node_at w.session.table path) (plays.left read is all)
          ∙ ap (λ l. node_at (left_by read l old.view).session.table path) (sym (take_all calm cues (omega (arith, all)))) ∙ apart.outside path out,
    )

-- ---- where nobody may change anything

-- each call
call_looks : (table : Table) (cue : Cue) (gift : Gift) (old new : Server) → KeepsCourse old.counts new.counts → Makes cue gift old new → OnlyLooks table old.view → OnlyLooks table new.view
call_looks table (Clock moment) gift old new course makes k = (far_leaves_the_map table old new course k).clock moment makes.1
call_looks table (Hear octets) gift old new course makes k = (far_leaves_the_map table old new course k).hear (take makes.0 octets) makes.2.took
call_looks table (ControlOut room) gift old new course makes k = (far_leaves_the_map table old new course k).control_out (most_given room old.view.owed) makes.1
call_looks table ControlEnd gift old new course makes k = (far_leaves_the_map table old new course k).control_ended makes.1
call_looks table (Listening port) gift old new course makes k = (far_leaves_the_map table old new course k).listens port makes.1
call_looks table ListenRefused gift old new course makes k = (far_leaves_the_map table old new course k).no_port makes.1
call_looks table (DataOpened host) gift old new course makes k = (far_leaves_the_map table old new course k).opened host makes.1
call_looks table DataRefused gift old new course makes k = (far_leaves_the_map table old new course k).refused makes.1
call_looks table (DataHear octets) gift old new course makes k = (far_leaves_the_map table old new course k).received (take makes.0 octets) makes.2.took
call_looks table (DataOut room) gift old new course makes k = (far_leaves_the_map table old new course k).gave makes.0 makes.2.now
call_looks table DataEnd gift old new course makes k = (far_leaves_the_map table old new course k).ended makes.1
call_looks table DataFault gift old new course makes k = (far_leaves_the_map table old new course k).broke makes.1
call_looks table DataClosed gift old new course makes k = (far_leaves_the_map table old new course k).closed makes.1
call_looks table AsksWants gift old new course makes k = subst (λ (s : Server). OnlyLooks table s.view) (sym makes.1) k

-- calls in order, where no device strayed up to their end
made_looks : (table : Table) (cues : List Cue) (gifts : List Gift) (old new : Server) → new.counts.failures.strays ≡ 0 → AreMade cues gifts old new → OnlyLooks table old.view
    → OnlyLooks table new.view
made_looks table [] [] old new none made k = subst (λ (s : Server). OnlyLooks table s.view) (sym made) k
made_looks table [] (gift ∷ gifts) old new none made k = absurd made
made_looks table (cue ∷ cues) [] old new none made k = absurd made
made_looks table (cue ∷ cues) (gift ∷ gifts) old new none made k =
    made_looks table cues gifts made.0 new none made.2 (call_looks table cue gift old made.0 (first_course cue gift cues gifts old made.0 new made.1 made.2 none) made.1 k)

-- so the map stays
pub keeps_the_map : (calm : ℕ) (cues : List Cue) (gifts : List Gift) (old new : Server) → new.counts.failures.strays ≡ 0 → ArePlayed calm cues gifts old new → KeepsTheMap old new
keeps_the_map calm cues gifts old new none made =
    let played = are_made Makes IsCalm calm cues gifts old new made in
    record {
      began = λ table accounts here peer starts lookers.
          (made_looks table cues gifts old new none played (subst (OnlyLooks table) (sym starts) (starts_look table accounts here peer lookers))).session.same;
      stays = λ table. made_looks table cues gifts old new none played;
    }

-- where memory was refused before one of them
pub some_keep : (cues : List Cue) (old new : Server) → new.counts.failures.strays ≡ 0 → PlaysSome cues old new → KeepsTheMap old new
some_keep cues old new none some = keeps_the_map some.calm (take some.count cues) some.gifts old new none some.made
