-- An upload over breaks that is done has put exactly its octets: behind a break the file is a front of them, and a PutFrom goes on
-- only at the number that SIZE said of it.
use Rattle.std.proofs.Common.{◌≡◌, ℕ, ◌+◌, ◌<◌, ◌≤◌, ◌^◌, Bool, true, false, cond, List, [], ◌∷◌, ◌++◌, length, take, drop, Option, Some, None, refl, sym, ap, subst, ◌∙◌, arith, append_assoc, length-drop}
use Rattle.std.specs.Ordering.{eq_by_cmp}
use Rattle.std.specs.Option.{option_map, option_or, unwrap_or, is_some}
use Rattle.std.specs.Prelude.{◌==◌, ◌-◌, ◌&&◌, not, min, nat_le, if◌then◌else◌}
use Rattle.std.proofs.Math.Seq.{take-length, drop-append_seam}
use Rattle.std.proofs.lemmas.Bool.{and_parts, leb-true}
use Rattle.std.proofs.lemmas.List.{length-take}
use Rattle.ftp_wire.specs.Decoder.{image_blocks}
use Rattle.ftp_pieces.specs.Machine.{IsFront}
use Rattle.ftp_mode.specs.Laws.{settled_content}
use Rattle.ftp_mode.proofs.LawLemmas.{front_again, front_marked}
use Rattle.ftp_operation.specs.Answer.{Said, Done, Refused, BadOperation, Unopened as NotOpened}
use Rattle.ftp_operation.specs.Operation.{can_be_sent}
use Rattle.ftp_operation.specs.declared.op.How.{How}
use Rattle.ftp_operation.specs.declared.op.Op.{Op}
use Rattle.ftp_operation.specs.declared.op.Op.TheVariants as Ops
use Rattle.ftp_path.specs.Path.{Names, path_cmp}
use Rattle.ftp_repr.specs.Skipping.{IsPlaceOfOffset}
use Rattle.ftp_settings.specs.Representation.{form_of, has_markers, same_kind, same_structure}
use Rattle.ftp_settings.specs.declared.representation.Kind.{Kind}
use Rattle.ftp_settings.specs.declared.representation.Kind.TheVariants as Kinds
use Rattle.ftp_settings.specs.declared.representation.Structure.{Structure}
use Rattle.ftp_settings.specs.declared.representation.Structure.TheVariants as Structures
use Rattle.ftp_settings.specs.declared.representation.Mode.{Mode}
use Rattle.ftp_settings.specs.declared.representation.Mode.TheVariants as Modes
use Rattle.ftp_settings.specs.declared.representation.Representation.{Representation}
use Rattle.ftp_tree.specs.Map.{Node, File, octets_of, of_node}
use Rattle.ftp_tree.specs.Tree.{Table, file_limit, most_octets, installed, node_at, octets_at, octets_or_none, octets_refusal, room_at, room_refusal, under, whenever, with_part}
use Rattle.ftp_tree.specs.declared.fault.TreeFault.{TreeFault}
use Rattle.ftp_tree.specs.declared.fault.TreeFault.TheVariants as Faults
use Rattle.ftp_tree.proofs.KeepLaws.{at-insert, with_node}
use Rattle.ftp_tree.proofs.LeafLemmas.{itself}
use Rattle.ftp_tree.proofs.PartLemmas.{as-part, part-comes, part-limits, part-stays, part-taken, same-nodes}
use Rattle.ftp_direct.specs.declared.refusal.Refusal.{Refusal}
use Rattle.ftp_direct.specs.declared.refusal.Refusal.TheVariants as Refusals
use Rattle.ftp_direct.specs.Direct.{State, answer, barred_put, changed, chosen, counted_place, done as does, file_of, first_refusal, limited, named, offset_refusal, or_refused, part, place_at, place_in, no_place_refusal, put_refusal, refusal, refused_name, refused_octets, refused_room, size_in, skipped}
use Rattle.ftp_direct.specs.Refusal.{code_of}
use Rattle.ftp_direct.proofs.PlaceLemmas.{found_place, leads, led}
use Rattle.ftp_direct.proofs.SizeLemmas.{size_piece}
use Rattle.ftp_client_model.specs.Octets.{upload_text, written}
use Rattle.ftp_client_model.specs.Plan.{settings_of}
use Rattle.ftp_client_model.specs.Tries.{OverBreaks, Run, counts_as_file, is_size, next_in, next_of, rest_put, run_at, run_of, whole_put}
use Rattle.laws_world.specs.Agreement.{Attempt, GoesOn, RunHolds, attempt_did, run_from}
use Rattle.laws_world.specs.Claims.{DoneIsWhole}
use Rattle.laws_world.specs.Outcome.{Outcome, Whole, Cut, Unopened, Lost, CanBe, did, front}

-- ---- the map

-- what is put twice at a path is the last
put_twice : (table : Table) (path : Names) (one other : Node) → with_node (with_node table path one) path other ≡ with_node table path other
put_twice table path one other =
    same-nodes _ _ refl (λ at.
    at-insert (with_node table path one) path other at
    ∙ ap (cond (eq_by_cmp path_cmp at path) (Some other)) (at-insert table path one at)
    ∙ by (eq_by_cmp path_cmp at path) (node_at table at)
    ∙ sym (at-insert table path other at))
  where
    by : (b : Bool) (there : Option Node) → cond b (Some other) (cond b (Some one) there) ≡ cond b (Some other) there
    by true there = refl
    by false there = refl

installed_twice : (table : Table) (path : Names) (one other : List ℕ) (moment : ℕ)
    → installed (installed table path one moment) path other moment ≡ installed table path other moment
unfolding installed
installed_twice table path one other moment = put_twice table path (File one moment) (File other moment)

-- the file that was put stands there
file_there : (table : Table) (path : Names) (octets : List ℕ) (moment : ℕ) → octets_or_none (installed table path octets moment) path ≡ octets
unfolding installed octets_at
file_there table path octets moment =
    ap (λ node. unwrap_or (of_node octets_of node) [])
    (at-insert table path (File octets moment) path ∙ ap (λ b. cond b (Some (File octets moment)) (node_at table path)) (itself path))

-- a part put twice is the last
part_twice : (table : Table) (root : Names) (one other : Table) → with_part (with_part table root one) root other ≡ with_part table root other
part_twice table root one other =
    sym (as-part table root other (with_part (with_part table root one) root other) (part-limits (with_part table root one) root other) (part-comes (with_part table root one) root other)
    (λ path out. part-stays (with_part table root one) root other path out ∙ part-stays table root one path out))

-- ---- states of a run

-- the state with these octets at the path of an upload, and all else as it was at its start
abbrev with_file : State → OverBreaks → ℕ → List ℕ → State
with_file state u moment octets = changed state (installed (part state) (named state u.path) octets moment)

-- a state of a run: whatever the upload puts there, all else is as it was at the start
record Along (state : State) (u : OverBreaks) (moment : ℕ) (now : State) : Type 0 where
  over : (octets : List ℕ) → with_file now u moment octets ≡ with_file state u moment octets

-- so is the state at the start
along_start : (state : State) (u : OverBreaks) (moment : ℕ) → Along state u moment state
along_start state u moment = record { over = λ octets. refl }

-- a part that is put where one was put is put where there was none
again_put : (state : State) (u : OverBreaks) (moment : ℕ) (one other : List ℕ) (new : Table) → new ≡ installed (part state) (named state u.path) one moment
    → with_part (with_part state.table state.root new) state.root (installed (under (with_part state.table state.root new) state.root) (named state u.path) other moment)
    ≡ with_part state.table state.root (installed (part state) (named state u.path) other moment)
again_put state u moment one other new is =
    part_twice state.table state.root new (installed (under (with_part state.table state.root new) state.root) (named state u.path) other moment)
    ∙ ap (λ its. with_part state.table state.root (installed its (named state u.path) other moment)) (part-taken state.table state.root new ∙ is)
    ∙ ap (with_part state.table state.root) (installed_twice (part state) (named state u.path) one other moment)

-- so is the state with the file of an attempt
along_put : (state : State) (u : OverBreaks) (moment : ℕ) (one : List ℕ) → Along state u moment (with_file state u moment one)
along_put state u moment one = record {
  over = λ other.
      ap (λ (table : Table). record state { table = table })
      (again_put state u moment one other (installed (part state) (named state u.path) one moment) refl);
}

-- so is the state behind each file that is put
along_more : (state : State) (u : OverBreaks) (moment : ℕ) (now : State) (octets : List ℕ) → Along state u moment now
    → Along state u moment (with_file now u moment octets)
along_more state u moment now octets along = subst (Along state u moment) (sym (along.over octets)) (along_put state u moment octets)

-- the octets that were put are the file there
file_put : (state : State) (u : OverBreaks) (moment : ℕ) (octets : List ℕ) → file_of (with_file state u moment octets) u.path ≡ octets
file_put state u moment octets =
    ap (λ its. octets_or_none its (named state u.path)) (part-taken state.table state.root (installed (part state) (named state u.path) octets moment))
    ∙ file_there (part state) (named state u.path) octets moment

-- ---- the front of a wire

-- markers are written in one representation alone
only_marked : (kind : Kind) (structure : Structure) (mode : Mode) → has_markers (record { kind = kind; structure = structure; mode = mode }) ≡ true
    → record { kind = kind; structure = structure; mode = mode } ≡ image_blocks
only_marked Kinds.Image Structures.File Modes.Block is = refl
only_marked Kinds.Image Structures.File Modes.Stream is = absurd (cc)
only_marked Kinds.Image Structures.Record Modes.Block is = absurd (cc)
only_marked Kinds.Image Structures.Record Modes.Stream is = absurd (cc)
only_marked Kinds.Ascii Structures.File Modes.Block is = absurd (cc)
only_marked Kinds.Ascii Structures.File Modes.Stream is = absurd (cc)
only_marked Kinds.Ascii Structures.Record Modes.Block is = absurd (cc)
only_marked Kinds.Ascii Structures.Record Modes.Stream is = absurd (cc)

-- a front of an upload's wire settles a front of its octets
text_front : (how : How) (start : ℕ) (octets wire : List ℕ) → start + length octets < 2 ^ 64 → IsFront wire (upload_text how start octets)
    → IsFront (front (settings_of how) wire) octets
text_front how start octets wire fits is = by (how.marks && has_markers how.representation) refl is
  where
    by : (marked : Bool) → (how.marks && has_markers how.representation) ≡ marked → IsFront wire (written marked how.representation start octets)
        → IsFront (front how.representation wire) octets
    by false e is = front_again how.representation.mode (form_of how.representation) octets wire is
    by true e is =
        let same = only_marked how.representation.kind how.representation.structure how.representation.mode (and_parts how.marks (has_markers how.representation) e).1 in
        subst (λ (settings : Representation). IsFront (settled_content settings.mode (form_of settings) wire) octets) (sym same) (front_marked start octets wire fits is)

-- a front of what is behind a front makes a longer one
front_more : (one all more : List ℕ) → IsFront one all → IsFront more (drop (length one) all) → IsFront (one ++ more) all
front_more one all more is further =
    let rest : drop (length one) all ≡ is.0 = ap (drop (length one)) (sym is.1) ∙ drop-append_seam one is.0 in
    (further.0, append_assoc one more further.0 ∙ ap (λ l. one ++ l) (further.1 ∙ rest) ∙ is.1)

-- a front and what is behind it are all
front_whole : (one all : List ℕ) → IsFront one all → one ++ drop (length one) all ≡ all
front_whole one all is = ap (λ l. one ++ l) (ap (drop (length one)) (sym is.1) ∙ drop-append_seam one is.0) ∙ is.1

-- ---- what is refused

both_none : {T : Type 0} (one other : Option T) → option_or one other ≡ None → (one ≡ None) × (other ≡ None)
both_none None other is = (refl, is)
both_none (Some why) other is = absurd (cc)

-- so is a reason that is told otherwise
none_mapped : {T U : Type 0} (f : T → U) (one : Option T) → option_map f one ≡ None → one ≡ None
none_mapped f None is = refl
none_mapped f (Some why) is = absurd (cc)

-- a limit that refuses nothing is kept
not_held : (holds : Bool) (fault : TreeFault) → whenever (not holds) fault ≡ None → holds ≡ true
not_held true fault is = refl
not_held false fault is = absurd (cc)

-- an operation that is not refused is of a login that is known
known_refusal : (known : Bool) (why : Option Refusal) → (if known then why else Some Refusals.NotLoggedIn) ≡ None → why ≡ None
known_refusal true why is = is
known_refusal false why is = absurd (cc)

-- what is put is no longer than a file may be
short_put : (now : State) (path : Names) (count : ℕ) → put_refusal now path count ≡ None → count ≤ most_octets
short_put now path count none =
    let room = both_none (refused_room (limited path (room_refusal (part now) path))) (refused_octets (octets_refusal (part now) path count)) none in
    let octets = none_mapped (λ fault. Refusals.TooMuch) (octets_refusal (part now) path count) room.1 in
    let file = both_none (whenever (not (nat_le count (file_limit (part now)))) Faults.TooBig) (whenever (not (nat_le count (room_at (part now) path))) Faults.Full) octets in
    omega (arith, leb-true count (file_limit (part now)) (not_held (nat_le count (file_limit (part now))) Faults.TooBig file.0))

-- ---- places in type I

-- an offset leads to itself
place_known : (kind : Kind) (file : List ℕ) (count : ℕ) → kind ≡ Kinds.Image → length file ≡ count → counted_place kind file count ≡ Some count
place_known kind file count image long =
    let short : length (take count file) ≡ min count (length file) = length-take count file in
    let sized : size_in kind (take count file) ≡ length (take count file) = ap (λ k. size_in k (take count file)) image in
    ap (λ k. counted_place k file count) image ∙ ap (λ k. place_in k file count) (sym image)
    ∙ leads kind file count count (record { within = omega (arith, long); goes = size_piece kind (take count file) ∙ (let all : size_in kind (take count file) ≡ count = omega (arith, short, sized, long) in all) })

-- and to nothing else
place_found : (kind : Kind) (file : List ℕ) (count place : ℕ) → kind ≡ Kinds.Image → counted_place kind file count ≡ Some place → place ≡ count
place_found kind file count place image is =
    let lies : IsPlaceOfOffset kind file count place = led kind file count place (found_place kind file count place is) in
    let short : length (take place file) ≡ min place (length file) = length-take place file in
    let sized : size_in kind (take place file) ≡ length (take place file) = ap (λ k. size_in k (take place file)) image in
    let counted : size_in kind (take place file) ≡ count = sym (size_piece kind (take place file)) ∙ lies.goes in
    omega (arith, short, sized, counted, lies.within)

-- ---- what follows an attempt

-- so few octets that a file may have them
abbrev Small : OverBreaks → Type 0
Small u = length u.octets ≤ most_octets

-- the file that stands there is the first so many of the octets
record Has (u : OverBreaks) (now : State) (count : ℕ) : Type 0 where
  long : length (file_of now u.path) ≡ count
  is_front : IsFront (file_of now u.path) u.octets

-- what a run may try in a state: all anew; the rest behind the file that stands there; or SIZE of a front
data Fit (u : OverBreaks) (now : State) (op : Op (List ℕ)) : Type 0 where
  anew : op ≡ whole_put u → Fit u now op
  onward : (count : ℕ) → count ≤ length u.octets → (Small u → Has u now count) → op ≡ rest_put u count → Fit u now op
  asks : (Small u → IsFront (file_of now u.path) u.octets) → op ≡ Ops.Size u.path u.how → Fit u now op

-- where it is answered Done the octets stand there, and what follows it fits
record Behind (state : State) (u : OverBreaks) (moment : ℕ) (op : Op (List ℕ)) (now : Said × State) : Type 0 where
  whole : now.0 ≡ Done → now.1 ≡ with_file state u moment u.octets
  next : (after : Op (List ℕ)) → next_of u op now.0 ≡ Some after → Along state u moment now.1 × Fit u now.1 after

-- nothing is none of some
none_some : {T : Type 0} (one : Option T) (some : T) → one ≡ None → one ≡ Some some → ⊥
none_some one some is isnt = absurd (let e : None ≡ Some some = sym is ∙ isnt in cc)

-- of one there is one
some_is : {T : Type 0} (one other : T) → Some one ≡ Some other → other ≡ one
some_is one other is = cc

-- a run ends with such an answer, which isn't Done
ends_with : (state : State) (u : OverBreaks) (moment : ℕ) (op : Op (List ℕ)) (now : Said × State) → next_of u op now.0 ≡ None → (now.0 ≡ Done → ⊥)
    → Behind state u moment op now
ends_with state u moment op now none other = record {
  whole = λ is. absurd (other is);
  next = λ after is. absurd (none_some (next_of u op now.0) after none is);
}

-- an operation is answered as one that can't be sent, as refused, or as done
answer_by : (Holds : Said × State → Type 0) (now : State) (op : Op (List ℕ)) (moment : ℕ) → Holds (BadOperation, now)
    → ((why : Refusal) → Holds (Refused (code_of why), now)) → (first_refusal now op ≡ None → Holds (does now op moment)) → Holds (answer now op moment)
unfolding answer
answer_by Holds now op moment bad refused done = by (can_be_sent op) (first_refusal now op) refl
  where
    by : (can : Bool) (first : Option Refusal) → first_refusal now op ≡ first → Holds (if can then chosen first now (does now op moment) else (BadOperation, now))
    by false first is = bad
    by true None is = done is
    by true (Some why) is = refused why

-- what follows in a run follows in its upload
follows : (u : OverBreaks) (run : Run) (op : Op (List ℕ)) (answer : Said) (after : Op (List ℕ)) → run.upload ≡ u → next_in run op answer ≡ Some after
    → next_of u op answer ≡ Some after
follows u run op answer after same is = ap (λ upload. next_of upload op answer) (sym same) ∙ by (run.left == 0) is
  where
    by : (none_left : Bool) → (if none_left then None else next_of run.upload op answer) ≡ Some after → next_of run.upload op answer ≡ Some after
    by true is = absurd (cc)
    by false is = is

-- a run keeps its upload
same_upload : (u : OverBreaks) (size : Bool) (run : Run) → run.upload ≡ u → (if size then run else record run { left = run.left - 1 }).upload ≡ u
same_upload u true run same = same
same_upload u false run same = same

module _ (state : State) (u : OverBreaks) (moment : ℕ) (image : u.how.representation.kind ≡ Kinds.Image) where
  -- all octets from the start
  put_step : (now : State) → Along state u moment now → (outcome : Outcome) → CanBe outcome now (whole_put u)
      → Behind state u moment (whole_put u) (did outcome now (whole_put u) moment)
  put_step now along Whole can =
      answer_by (Behind state u moment (whole_put u)) now (whole_put u) moment
      (ends_with state u moment (whole_put u) (BadOperation, now) refl (λ is. absurd (cc)))
      (λ why. ends_with state u moment (whole_put u) (Refused (code_of why), now) refl (λ is. absurd (cc)))
      (λ none. record { whole = λ is. along.over u.octets; next = λ after is. absurd (cc) })
  put_step now along (Cut wire) can = record {
    whole = λ is. absurd (cc);
    next = λ after is. (along_more state u moment now (front (settings_of u.how) wire) along, asks front_stands (some_is _ _ is));
  }
    where
      front_stands : Small u → IsFront (file_of (with_file now u moment (front (settings_of u.how) wire)) u.path) u.octets
      front_stands small =
          subst (λ file. IsFront file u.octets) (sym (file_put now u moment (front (settings_of u.how) wire)))
          (text_front u.how 0 u.octets wire (omega (arith, small)) can.1.0)
  put_step now along Unopened can = record { whole = λ is. absurd (cc); next = λ after is. (along, anew (some_is _ _ is)) }
  put_step now along (Lost part) can = ends_with state u moment (whole_put u) (did (Lost part) now (whole_put u) moment) refl (λ is. absurd (cc))

  -- the rest, where so many octets are said to stand there
  skips : (now : State) (count : ℕ) → Has u now count → skipped now (named now u.path) u.how count ≡ count
  skips now count has = ap (λ place. unwrap_or place 0) (place_known u.how.representation.kind (file_of now u.path) count image has.long)

  -- so it is where an offset leads to a place
  skips_found : (now : State) (count : ℕ) (place : Option ℕ) → place_at now (named now u.path) u.how count ≡ place → is_some place ≡ true
      → skipped now (named now u.path) u.how count ≡ count
  skips_found now count None is some = absurd (cc)
  skips_found now count (Some place) is some =
      ap (λ at. unwrap_or at 0) is ∙ place_found u.how.representation.kind (file_of now u.path) count place image is

  -- where the rest is not refused the file is short, whatever stands there
  rest_small : (now : State) (count : ℕ) → count ≤ length u.octets → first_refusal now (rest_put u count) ≡ None → Small u
  rest_small now count within none =
      let path : Names = named now u.path in
      let why = known_refusal now.known (refusal now (rest_put u count)) none in
      let offset = both_none (offset_refusal count u.how)
      (or_refused (barred_put now path) (or_refused (refused_name (no_place_refusal now path u.how count)) (put_refusal now path (skipped now path u.how count + length (drop count u.octets))))) why in
      let may = both_none (barred_put now path)
      (or_refused (refused_name (no_place_refusal now path u.how count)) (put_refusal now path (skipped now path u.how count + length (drop count u.octets)))) offset.1 in
      let place = both_none (refused_name (no_place_refusal now path u.how count)) (put_refusal now path (skipped now path u.how count + length (drop count u.octets))) may.1 in
      let leads_on = not_held (is_some (place_at now path u.how count)) Faults.BadOffset (none_mapped (λ fault. Refusals.BadName) (no_place_refusal now path u.how count) place.0) in
      let skip : skipped now path u.how count ≡ count = skips_found now count (place_at now path u.how count) refl leads_on in
      let short = short_put now path (skipped now path u.how count + length (drop count u.octets)) place.1 in
      omega (arith, within, skip, short, length-drop count u.octets)

  -- all of the file is kept
  kept_is : (now : State) (count : ℕ) → Has u now count → take (skipped now (named now u.path) u.how count) (file_of now u.path) ≡ file_of now u.path
  kept_is now count has = ap (λ n. take n (file_of now u.path)) (skips now count has ∙ sym has.long) ∙ take-length (file_of now u.path)

  -- and with the rest it is all octets
  all_put : (now : State) (count : ℕ) → Has u now count
      → take (skipped now (named now u.path) u.how count) (file_of now u.path) ++ drop count u.octets ≡ u.octets
  all_put now count has =
      ap (λ kept. kept ++ drop count u.octets) (kept_is now count has)
      ∙ ap (λ n. file_of now u.path ++ drop n u.octets) (sym has.long)
      ∙ front_whole (file_of now u.path) u.octets has.is_front

  -- what stands there behind a rest that was cut
  abbrev rest_new : State → ℕ → List ℕ → List ℕ
  rest_new now count wire = take (skipped now (named now u.path) u.how count) (file_of now u.path) ++ front (settings_of u.how) wire

  -- the rest, behind the file that stands there
  rest_step : (now : State) (count : ℕ) → count ≤ length u.octets → (Small u → Has u now count) → Along state u moment now → (outcome : Outcome)
      → CanBe outcome now (rest_put u count) → Behind state u moment (rest_put u count) (did outcome now (rest_put u count) moment)
  rest_step now count within has along Whole can =
      answer_by (Behind state u moment (rest_put u count)) now (rest_put u count) moment
      (ends_with state u moment (rest_put u count) (BadOperation, now) refl (λ is. absurd (cc)))
      (λ why. ends_with state u moment (rest_put u count) (Refused (code_of why), now) refl (λ is. absurd (cc)))
      (λ none. record {
        whole = λ is. ap (with_file now u moment) (all_put now count (has (rest_small now count within none))) ∙ along.over u.octets;
        next = λ after is. absurd (cc);
      })
  rest_step now count within has along (Cut wire) can = record {
    whole = λ is. absurd (cc);
    next = λ after is. (along_more state u moment now (rest_new now count wire) along, asks front_stands (some_is _ _ is));
  }
    where
      front_stands : Small u → IsFront (file_of (with_file now u moment (rest_new now count wire)) u.path) u.octets
      front_stands small =
          let stands = has small in
          let fits : count + length (drop count u.octets) < 2 ^ 64 = omega (arith, small, within, length-drop count u.octets) in
          let more : IsFront (front (settings_of u.how) wire) (drop count u.octets) = text_front u.how count (drop count u.octets) wire fits can.1.0 in
          subst (λ file. IsFront file u.octets) (sym (file_put now u moment (rest_new now count wire) ∙ ap (λ kept. kept ++ front (settings_of u.how) wire) (kept_is now count stands)))
          (front_more (file_of now u.path) u.octets (front (settings_of u.how) wire) stands.is_front
          (subst (λ n. IsFront (front (settings_of u.how) wire) (drop n u.octets)) (sym stands.long) more))
  rest_step now count within has along Unopened can = record {
    whole = λ is. absurd (cc);
    next = λ after is. (along, onward count within has (some_is _ _ is));
  }
  rest_step now count within has along (Lost part) can =
      ends_with state u moment (rest_put u count) (did (Lost part) now (rest_put u count) moment) refl (λ is. absurd (cc))

  -- SIZE says how many octets stand there
  sized : (now : State) (after : Op (List ℕ)) → (Small u → IsFront (file_of now u.path) u.octets) → (fewer : Bool)
      → nat_le (size_in u.how.representation.kind (file_of now u.path)) (length u.octets) ≡ fewer
      → after ≡ (if fewer then rest_put u (size_in u.how.representation.kind (file_of now u.path)) else whole_put u) → Fit u now after
  sized now after stands true within is =
      onward (size_in u.how.representation.kind (file_of now u.path)) (leb-true (size_in u.how.representation.kind (file_of now u.path)) (length u.octets) within)
      (λ small. record { long = sym (ap (λ kind. size_in kind (file_of now u.path)) image); is_front = stands small }) is
  sized now after stands false within is = anew is

  -- where SIZE is refused all is put anew, or the run ends
  unsized : (now : State) (after : Op (List ℕ)) (absent : Bool) → (if absent then Some (whole_put u) else None) ≡ Some after → Fit u now after
  unsized now after true is = anew (some_is _ _ is)
  unsized now after false is = absurd (cc)

  -- SIZE, of a front that stands there
  size_step : (now : State) → (Small u → IsFront (file_of now u.path) u.octets) → Along state u moment now → (outcome : Outcome)
      → CanBe outcome now (Ops.Size u.path u.how) → Behind state u moment (Ops.Size u.path u.how) (did outcome now (Ops.Size u.path u.how) moment)
  size_step now stands along Whole can =
      answer_by (Behind state u moment (Ops.Size u.path u.how)) now (Ops.Size u.path u.how) moment
      (ends_with state u moment (Ops.Size u.path u.how) (BadOperation, now) refl (λ is. absurd (cc)))
      (λ why. record { whole = λ is. absurd (cc); next = λ after is. (along, unsized now after (code_of why == 550) is) })
      (λ none. record {
        whole = λ is. absurd (cc);
        next = λ after is. (along, sized now after stands (nat_le (size_in u.how.representation.kind (file_of now u.path)) (length u.octets)) refl (some_is _ _ is));
      })
  size_step now stands along (Cut wire) can = absurd can.1
  size_step now stands along Unopened can = ends_with state u moment (Ops.Size u.path u.how) (NotOpened, now) refl (λ is. absurd (cc))
  size_step now stands along (Lost part) can =
      ends_with state u moment (Ops.Size u.path u.how) (did (Lost part) now (Ops.Size u.path u.how) moment) refl (λ is. absurd (cc))

  abbrev Leaves : State → Outcome → Op (List ℕ) → Type 0
  Leaves now outcome op = CanBe outcome now op → Behind state u moment op (did outcome now op moment)

  -- each attempt that fits leaves what fits
  step : (now : State) (attempt : Attempt) → Along state u moment now → Fit u now attempt.op → CanBe attempt.outcome now attempt.op
      → Behind state u moment attempt.op (attempt_did moment now attempt)
  step now attempt along (anew is) can = subst (Leaves now attempt.outcome) (sym is) (put_step now along attempt.outcome) can
  step now attempt along (onward count within has is) can =
      subst (Leaves now attempt.outcome) (sym is) (rest_step now count within has along attempt.outcome) can
  step now attempt along (asks stands is) can = subst (Leaves now attempt.outcome) (sym is) (size_step now stands along attempt.outcome) can

  -- a run that ends with Done has put its octets
  run_puts : (cutoff : Option ℕ) (index : ℕ) (run : Run) (op : Op (List ℕ)) (now : Said × State) (attempts : List Attempt) → run.upload ≡ u
      → GoesOn moment run op now attempts → RunHolds moment now.1 cutoff index attempts → Behind state u moment op now
      → (run_from moment now attempts).0 ≡ Done → (run_from moment now attempts).1 ≡ with_file state u moment u.octets
  run_puts cutoff index run op now [] same goes holds behind done = behind.whole done
  run_puts cutoff index run op now (attempt ∷ attempts) same goes holds behind done =
      let next = behind.next attempt.op (follows u run op now.0 attempt.op same goes.0) in
      run_puts cutoff index (run_at attempt.op run) attempt.op (attempt_did moment now.1 attempt) attempts (same_upload u (is_size attempt.op) run same) goes.1 holds.1
      (step now.1 attempt next.0 next.1 holds.0.can_be) done

-- ---- an upload in other settings, which can't be sent

-- it is never done, and tried again as it is
record Never (u : OverBreaks) (now : Said × State) : Type 0 where
  other : now.0 ≡ Done → ⊥
  next : (after : Op (List ℕ)) → next_of u (Ops.MakeDir []) now.0 ≡ Some after → after ≡ Ops.MakeDir []

-- so it is whatever it meets
never_step : (u : OverBreaks) (moment : ℕ) (now : State) (outcome : Outcome) → Never u (did outcome now (Ops.MakeDir []) moment)
never_step u moment now Whole =
    answer_by (Never u) now (Ops.MakeDir []) moment
    (record { other = λ is. absurd (cc); next = λ after is. absurd (cc) })
    (λ why. record { other = λ is. absurd (cc); next = λ after is. absurd (cc) })
    (λ none. record { other = λ is. absurd (cc); next = λ after is. absurd (cc) })
never_step u moment now (Cut wire) = record { other = λ is. absurd (cc); next = λ after is. some_is _ _ is }
never_step u moment now Unopened = record { other = λ is. absurd (cc); next = λ after is. some_is _ _ is }
never_step u moment now (Lost part) = record { other = λ is. absurd (cc); next = λ after is. absurd (cc) }

-- so such a run never ends with Done
never_done : (u : OverBreaks) (moment : ℕ) (run : Run) (op : Op (List ℕ)) (now : Said × State) (attempts : List Attempt) → run.upload ≡ u → op ≡ Ops.MakeDir []
    → GoesOn moment run op now attempts → Never u now → (run_from moment now attempts).0 ≡ Done → ⊥
never_done u moment run op now [] same is goes never done = never.other done
never_done u moment run op now (attempt ∷ attempts) same is goes never done =
    let after : attempt.op ≡ Ops.MakeDir [] =
    never.next attempt.op (ap (λ before. next_of u before now.0) (sym is) ∙ follows u run op now.0 attempt.op same goes.0) in
    never_done u moment (run_at attempt.op run) attempt.op (attempt_did moment now.1 attempt) attempts (same_upload u (is_size attempt.op) run same) after goes.1
    (subst (λ op. Never u (did attempt.outcome now.1 op moment)) (sym after) (never_step u moment now.1 attempt.outcome)) done

-- ---- the law

-- settings in which the octets of the file are those of the transfer are of type I
is_image : (kind : Kind) (structure : Bool) → (same_kind kind Kinds.Image && structure) ≡ true → kind ≡ Kinds.Image
is_image Kinds.Image structure is = refl
is_image Kinds.Ascii structure is = absurd (cc)

-- an item of either kind
item_puts : (state : State) (u : OverBreaks) (moment index : ℕ) (cutoff : Option ℕ) (first : Attempt) (more : List Attempt) (as_file : Bool)
    → counts_as_file u.how.representation ≡ as_file → first.op ≡ (if as_file then whole_put u else Ops.MakeDir [])
    → GoesOn moment (run_of u) first.op (attempt_did moment state first) more → RunHolds moment state cutoff index (first ∷ more)
    → (run_from moment (attempt_did moment state first) more).0 ≡ Done
    → (run_from moment (attempt_did moment state first) more).1 ≡ with_file state u moment u.octets
item_puts state u moment index cutoff first more true file is goes holds done =
    let image = is_image u.how.representation.kind (same_structure u.how.representation.structure Structures.File) file in
    run_puts state u moment image cutoff index (run_of u) first.op (attempt_did moment state first) more refl goes holds.1
    (step state u moment image state first (along_start state u moment) (anew is) holds.0.can_be) done
item_puts state u moment index cutoff first more false file is goes holds done =
    absurd (never_done u moment (run_of u) first.op (attempt_did moment state first) more refl is goes
    (subst (λ op. Never u (did first.outcome state op moment)) (sym is) (never_step u moment state first.outcome)) done)

pub done_is_whole : DoneIsWhole
done_is_whole state u moment index marks cutoff item hold reported =
    let Puts : ℕ → Type 0 = λ at. RunHolds at state cutoff index (item.first ∷ item.more) → (run_from at (attempt_did at state item.first) item.more).0 ≡ Done
    → (run_from at (attempt_did at state item.first) item.more).1 ≡ with_file state u moment u.octets in
    let puts : Puts moment = λ holds done.
    item_puts state u moment index cutoff item.first item.more (counts_as_file u.how.representation) refl hold.is_of.1 hold.is_of.2 holds done in
    let is = subst Puts (sym hold.is_of.0) puts hold.holds reported.1 in
    record { table = ap (λ (now : State). now.table) is; cwd = ap (λ (now : State). now.cwd) is }
