-- What is asked for by an upload: its place in the file, its refusals, and what the direct run makes of it.
use Rattle.std.proofs.Common.{◌≡◌, ℕ, ◌+◌, ◌<◌, ◌≤◌, ◌^◌, Bool, true, false, ◌&&◌, not, nat_le, List, ◌++◌, length, Option, Some, None, refl, sym, ap, subst, ◌∙◌, arith, cond}
use Rattle.std.specs.Prelude.{if◌then◌else◌, IsTrue}
use Rattle.std.specs.List.{list_all}
use Rattle.std.specs.Option.{is_some, unwrap_or}
use Rattle.std.specs.Ordering.{eq_by_cmp}
use Rattle.std.proofs.lemmas.Bool.{and_parts, le-leb, leb-true, ltb-true}
use Rattle.std.proofs.lemmas.List.{length-append, length-take-le}
use Rattle.ftp_operation.specs.Answer.{Done}
use Rattle.ftp_operation.specs.Operation.{can_be_sent, is_number, is_path_text}
use Rattle.ftp_operation.specs.declared.op.How.{How}
use Rattle.ftp_operation.specs.declared.op.Op.{Op}
use Rattle.ftp_path.specs.Path.{IsPathText, Names, fits, is_name, path_cmp}
use Rattle.ftp_settings.specs.Representation.{has_markers}
use Rattle.ftp_tree.specs.Map.{Node, Dir, File}
use Rattle.ftp_tree.specs.Tree.{Table, file_limit, most_octets, install_refusal, installed, node_at, octets_refusal, or_else, room_answer, room_at, room_refusal, whenever}
use Rattle.ftp_tree.specs.Sound.{last_second}
use Rattle.ftp_tree.specs.declared.fault.TreeFault.{TreeFault}
use Rattle.ftp_tree.specs.declared.fault.TreeFault.TheVariants as Faults
use Rattle.ftp_tree.proofs.KeepLaws.{at-insert, changes-keep}
use Rattle.ftp_tree.proofs.MapLemmas.{same}
use Rattle.ftp_direct.specs.declared.refusal.Refusal.{Refusal}
use Rattle.ftp_direct.specs.Direct.{State, barred_put, done, file_of, limited, named, offset_refusal, or_refused, part, place_at, put_refusal, refusal, refused_name, refused_octets, refused_room}
use Rattle.ftp_direct.proofs.PlaceLemmas.{found_place, led}
use Rattle.ftp_client_model.specs.Octets.{upload_text}
use Rattle.ftp_client_model.specs.Plan.{count_of}
use Rattle.ftp_server_model.specs.Keep.{kept_count, kept_of as kept_octets, lacks, is_overtaken}
use Rattle.ftp_server_model.specs.Transfer.{misplaced, transfer_starts}
use Rattle.ftp_server_model.specs.View.{direct_of, how_in_force}
use Rattle.ftp_server_model.specs.declared.session.Keep.{Keep}
use Rattle.ftp_server_model.specs.declared.session.Keep.TheVariants as Keeps
use Rattle.ftp_server_model.specs.declared.session.Transfer.TheVariants as Transfers
use Rattle.ftp_wire.specs.Decoder.{no_octets}
use Rattle.ftp_server_model.proofs.PathTexts.{is_path-led}
use Rattle.laws_dialogues.specs.Dialogue.{IsFine, IsSound}
use Rattle.laws_dialogues.specs.Fetches.{HasPlan, HasRow, IsAsk, IsKept, IsKnownUpload, IsPlacedAt, IsTextOf, end_why, excess_of, stored, kept_of}
use Rattle.laws_dialogues.specs.Uploads.{StorePlace, Anew, Behind, From, room_why, store, store_keep, store_offset, store_place, store_rise, store_start, store_why, upload_ask}
use Rattle.laws_dialogues.proofs.Renaming.{none_limited}
use Rattle.laws_dialogues.proofs.Sound.{HasFineFiles, HasNames, by_bool, change-sound}
use Rattle.laws_dialogues.proofs.Texts.{written_text}

-- ---- refusals, one behind the other

-- the first of three is the same however they are put together
or_assoc : (one two three : Option Refusal) → or_refused one (or_refused two three) ≡ or_refused (or_refused one two) three
or_assoc None two three = refl
or_assoc (Some why) two three = refl

-- where neither of two refusals is there, neither is
both_none : (one other : Option Refusal) → or_refused one other ≡ None → (one ≡ None) × (other ≡ None)
both_none None other none = (refl, none)
both_none (Some why) other none = absurd (cc)

-- no refusal for want of room means no fault of the tree
none_room : (why : Option TreeFault) → refused_room why ≡ None → why ≡ None
none_room None none = refl
none_room (Some fault) none = absurd (cc)

-- a path without a fault is within the limits of paths
fits_limited : (path : Names) (why : Option TreeFault) → limited path why ≡ None → IsTrue (fits path)
fits_limited path why none =
    by_bool (fits path) (λ e. e) (λ e. absurd (let f : Some Faults.TooBig ≡ None = sym (ap (λ (b : Bool). if b then why else Some Faults.TooBig) e) ∙ none in cc))

-- ---- a file that is put

-- nothing is too many that is within both limits
few_octets : (table : Table) (path : Names) (count : ℕ) → octets_refusal table path count ≡ None → count ≤ most_octets
few_octets table path count none =
    by_bool (nat_le count (file_limit table)) (λ e. omega (arith, leb-true count (file_limit table) e))
    (λ e. absurd (let f : Some Faults.TooBig ≡ None = ap (λ (b : Bool). or_else (whenever (not b) Faults.TooBig) (whenever (not (nat_le count (room_at table path))) Faults.Full)) (sym e) ∙ none in cc))

-- files that are fine are so when a fine one is put
files-installed : (table : Table) (path : Names) (octets : List ℕ) (moment : ℕ) → IsFine octets moment → HasFineFiles table → HasFineFiles (installed table path octets moment)
unfolding installed
files-installed table path octets moment fine have other content at is =
    by_bool (eq_by_cmp path_cmp other path)
    (λ e.
    let f : Some (File octets moment) ≡ Some (File content at) = sym (at-insert table path (File octets moment) other ∙ ap (λ b. cond b (Some (File octets moment)) (node_at table other)) e) ∙ is in
    let one : octets ≡ content = cc in
    let two : moment ≡ at = cc in
    subst (λ o. IsFine o at) one (subst (IsFine octets) two fine))
    (λ e. have other content at (sym (at-insert table path (File octets moment) other ∙ ap (λ b. cond b (Some (File octets moment)) (node_at table other)) e) ∙ is))

-- paths of names are so when a file is put at a path of names
names-installed : (table : Table) (path : Names) (octets : List ℕ) (moment : ℕ) → list_all is_name path ≡ true → HasNames table → HasNames (installed table path octets moment)
unfolding installed
names-installed table path octets moment named have other some =
    by_bool (eq_by_cmp path_cmp other path)
    (λ e. ap (list_all is_name) (same other path e) ∙ named)
    (λ e. have other (ap is_some (sym (at-insert table path (File octets moment) other ∙ ap (λ b. cond b (Some (File octets moment)) (node_at table other)) e)) ∙ some))

-- no file is put where a directory stands
no-dir : (node : Option Node) (table : Table) (path : Names) → room_answer node table path ≡ None → node ≡ Some Dir → ⊥
no-dir None table path none is = absurd (cc)
no-dir (Some Dir) table path none is = absurd (cc)
no-dir (Some (File octets moment)) table path none is = absurd (cc)

-- the current directory is a directory still when a file is put where there is room for one
here-installed : (table : Table) (path : Names) (octets : List ℕ) (moment : ℕ) (cwd : Names) → room_refusal table path ≡ None → node_at table cwd ≡ Some Dir
    → node_at (installed table path octets moment) cwd ≡ Some Dir
unfolding installed room_refusal
here-installed table path octets moment cwd room here =
    by_bool (eq_by_cmp path_cmp cwd path)
    (λ e. absurd (no-dir (node_at table path) table path room (ap (node_at table) (sym (same cwd path e)) ∙ here)))
    (λ e. at-insert table path (File octets moment) cwd ∙ ap (λ b. cond b (Some (File octets moment)) (node_at table cwd)) e ∙ here)

-- a file within the limits of octets is put where there is room for one
installs : (table : Table) (path : Names) (count : ℕ) → room_refusal table path ≡ None → octets_refusal table path count ≡ None → install_refusal table path count ≡ None
unfolding install_refusal
installs table path count room few = ap (λ r. or_else r (octets_refusal table path count)) room ∙ few

-- what is kept of a file is not lacking
lacks_none : (keep : Keep) (octets : List ℕ) → IsKept keep octets → lacks keep octets ≡ false
lacks_none (Keeps.First count) octets within = ap not (le-leb count (length octets) within)
lacks_none (Keeps.All count) octets same = refl
lacks_none (Keeps.FirstOvertaken count) octets none = absurd none
lacks_none (Keeps.AllOvertaken count) octets none = absurd none

-- it is as long as it is counted, and no longer than the file
pub kept_as_counted : (keep : Keep) (octets : List ℕ) → IsKept keep octets → length (kept_octets keep octets) ≡ kept_count keep
kept_as_counted (Keeps.First count) octets within = length-take-le count octets within
kept_as_counted (Keeps.All count) octets same = same
kept_as_counted (Keeps.FirstOvertaken count) octets none = absurd none
kept_as_counted (Keeps.AllOvertaken count) octets none = absurd none

pub kept_within : (keep : Keep) (octets : List ℕ) → IsKept keep octets → kept_count keep ≤ length octets
kept_within (Keeps.First count) octets within = within
kept_within (Keeps.All count) octets same = omega (arith, same)
kept_within (Keeps.FirstOvertaken count) octets none = absurd none
kept_within (Keeps.AllOvertaken count) octets none = absurd none

-- it was not overtaken
pub kept_own : (keep : Keep) (octets : List ℕ) → IsKept keep octets → is_overtaken keep ≡ false
kept_own (Keeps.First count) octets within = refl
kept_own (Keeps.All count) octets same = refl
kept_own (Keeps.FirstOvertaken count) octets none = absurd none
kept_own (Keeps.AllOvertaken count) octets none = absurd none

-- what came behind it makes it so much longer
pub kept_long : (keep : Keep) (octets content : List ℕ) → IsKept keep octets → length (kept_octets keep octets ++ content) ≡ kept_count keep + length content
kept_long keep octets content kept = length-append (kept_octets keep octets) content ∙ ap (λ n. n + length content) (kept_as_counted keep octets kept)

module _ (place : StorePlace) (text octets : List ℕ) (how : How) (moment : ℕ) where
  abbrev op : Op (List ℕ)
  op = store place text octets how

  -- ---- the plan

  -- an upload has a plan
  upload_plan : HasPlan (upload_ask place text octets how moment)
  upload_plan = by_place place
    where
      by_place : (place : StorePlace) → HasPlan (upload_ask place text octets how moment)
      by_place Anew = record { how_is = refl; asks = refl; offset_is = refl; own = refl; flow = refl }
      by_place Behind = record { how_is = refl; asks = refl; offset_is = refl; own = refl; flow = refl }
      by_place (From offset) = record { how_is = refl; asks = refl; offset_is = refl; own = refl; flow = refl }

  -- ---- the server

  -- the server reads the command of an upload that can be sent, and acts on it so
  upload_row : IsPathText text → ((at : ℕ) → store_offset place ≡ Some at → at < 10 ^ 18) → HasRow (upload_ask place text octets how moment)
  upload_row path few = by_place place few
    where
      by_place : (place : StorePlace) → ((at : ℕ) → store_offset place ≡ Some at → at < 10 ^ 18) → HasRow (upload_ask place text octets how moment)
      by_place Anew few = record {
        typed = tt;
        stated = path;
        other = refl;
        few = few;
        acts = λ context s set facts. λ i. transfer_starts (store_why (direct_of s) Anew text how) (Transfers.Upload (named (direct_of s) text) (Keeps.First 0) (no_octets (set i))) s;
      }
      by_place Behind few = record {
        typed = tt;
        stated = path;
        other = refl;
        few = few;
        acts = λ context s set facts. λ i. transfer_starts (store_why (direct_of s) Behind text how) (Transfers.Upload (named (direct_of s) text) (Keeps.All (length (file_of (direct_of s) text))) (no_octets (set i))) s;
      }
      by_place (From offset) few = record {
        typed = tt;
        stated = path;
        other = refl;
        few = few;
        acts = λ context s set facts. λ i.
            let at : Option ℕ = place_at (direct_of s) (named (direct_of s) text) (how_in_force (set i)) offset in
            transfer_starts (or_refused (barred_put (direct_of s) (named (direct_of s) text)) (or_refused (refused_name (misplaced at)) (room_why (direct_of s) text)))
            (Transfers.Upload (named (direct_of s) text) (Keeps.First (unwrap_or at 0)) (no_octets (set i))) s;
      }

  -- ---- the direct run

  -- behind REST the direct run refuses it as the server does, and then for its octets
  refusal_is : (state : State) → IsPlacedAt how.representation (store_offset place)
      → refusal state op ≡ or_refused (store_why state place text how) (refused_octets (excess_of (store_rise place text octets how moment) state (length octets)))
  refusal_is state placed = by_place place placed
    where
      by_place : (place : StorePlace) → IsPlacedAt how.representation (store_offset place)
          → refusal state (store place text octets how)
          ≡ or_refused (store_why state place text how) (refused_octets (excess_of (store_rise place text octets how moment) state (length octets)))
      by_place Anew placed =
          ap (λ n. or_refused (barred_put state (named state text)) (put_refusal state (named state text) n)) (let e : length octets ≡ 0 + length octets = omega arith in e)
          ∙ or_assoc (barred_put state (named state text)) (room_why state text) _
      by_place Behind placed = or_assoc (barred_put state (named state text)) (room_why state text) _
      by_place (From offset) placed =
          let misplaced_at = refused_name (misplaced (place_at state (named state text) how offset)) in
          ap (λ o. or_refused o (or_refused (barred_put state (named state text)) (or_refused misplaced_at
          (put_refusal state (named state text) (unwrap_or (place_at state (named state text) how offset) 0 + length octets))))) placed
          ∙ ap (or_refused (barred_put state (named state text))) (or_assoc misplaced_at (room_why state text) _)
          ∙ or_assoc (barred_put state (named state text)) (or_refused misplaced_at (room_why state text)) _

  -- what the direct run does
  done_is : (state : State) → done state op moment ≡ (Done, stored (store_rise place text octets how moment) state octets)
  done_is state = by_place place
    where
      by_place : (place : StorePlace) → done state (store place text octets how) moment ≡ (Done, stored (store_rise place text octets how moment) state octets)
      by_place Anew = refl
      by_place Behind = refl
      by_place (From offset) = refl

  -- the octets that are kept are of the file
  within_file : (state : State) → IsKept (store_keep state place text how) (file_of state text)
  within_file state = by_place place
    where
      within_by : (found : Option ℕ) → ((at : ℕ) → found ≡ Some at → at ≤ length (file_of state text)) → unwrap_or found 0 ≤ length (file_of state text)
      within_by None within = omega arith
      within_by (Some at) within = within at refl

      by_place : (place : StorePlace) → IsKept (store_keep state place text how) (file_of state text)
      by_place Anew = omega arith
      by_place Behind = refl
      by_place (From offset) =
          within_by (place_at state (named state text) how offset) (λ at is. (led how.representation.kind (file_of state text) offset at (found_place how.representation.kind (file_of state text) offset at is)).within)

  -- it is an upload that the world knows
  known_is : (state : State) → IsKnownUpload (upload_ask place text octets how moment) (store_rise place text octets how moment) state
  known_is state = by_place place
    where
      by_place : (place : StorePlace) → IsKnownUpload (upload_ask place text octets how moment) (store_rise place text octets how moment) state
      by_place Anew = record { start = 0; set = refl; up = refl; text = refl }
      by_place Behind = record { start = 0; set = refl; up = refl; text = refl }
      by_place (From offset) = record { start = offset; set = refl; up = refl; text = refl }

  -- what was not refused at its command is refused at its end for its octets alone
  ends_is : (state : State) (content : List ℕ) → store_why state place text how ≡ None
      → end_why (store_rise place text octets how moment) state content ≡ refused_octets (excess_of (store_rise place text octets how moment) state (length content))
  ends_is state content none =
      let rise = store_rise place text octets how moment in
      let path : Names = named state text in
      let misplaced_at = refused_name (misplaced (store_place state place text how)) in
      let file : List ℕ = file_of state text in
      let whole : ℕ = length (kept_of rise state ++ content) in
      let puts : Option Refusal = put_refusal state path whole in
      let may = both_none (barred_put state path) (or_refused misplaced_at (room_why state text)) none in
      let room = (both_none misplaced_at (room_why state text) may.1).1 in
      ap (λ why. or_refused why (or_refused (refused_name (whenever (lacks (rise.keep state) file) Faults.BadOffset)) puts)) may.0
      ∙ ap (λ (b : Bool). or_refused (refused_name (whenever b Faults.BadOffset)) puts) (lacks_none (rise.keep state) file (within_file state))
      ∙ ap (λ why. or_refused why (refused_octets (octets_refusal (part state) path whole))) room
      ∙ ap (λ n. refused_octets (octets_refusal (part state) path n)) (kept_long (rise.keep state) file content (within_file state))

  -- ---- a state stays sound

  -- a sound state is sound when a file within the limits is put where the server takes one
  stays_sound : IsPathText text → moment ≤ last_second → (state : State) (content : List ℕ) → IsSound state → state.known ≡ true → store_why state place text how ≡ None
      → excess_of (store_rise place text octets how moment) state (length content) ≡ None → IsSound (stored (store_rise place text octets how moment) state content)
  stays_sound path dated state content sound known none few =
      let rise = store_rise place text octets how moment in
      let misplaced_at = refused_name (misplaced (store_place state place text how)) in
      let taken = (both_none (barred_put state (named state text)) (or_refused misplaced_at (room_why state text)) none).1 in
      let limited_none = none_room _ (both_none misplaced_at (room_why state text) taken).1 in
      let room : room_refusal (part state) (named state text) ≡ None = none_limited (named state text) _ limited_none in
      let within : IsTrue (fits (named state text)) = fits_limited (named state text) _ limited_none in
      let whole : List ℕ = kept_of rise state ++ content in
      let long : length whole ≡ kept_count (rise.keep state) + length content = kept_long (rise.keep state) (file_of state text) content (within_file state) in
      let small : octets_refusal (part state) (named state text) (length whole) ≡ None = ap (octets_refusal (part state) (named state text)) long ∙ few in
      let names : list_all is_name (named state text) ≡ true = (and_parts (list_all is_name (named state text)) (fits (named state text)) (is_path-led state.cwd text sound.cwd path within)).0 in
      change-sound state (installed (part state) (named state text) whole moment) sound
      (changes-keep.installing (part state) (named state text) whole moment (sound.tree known) (installs (part state) (named state text) (length whole) room small))
      (files-installed (part state) (named state text) whole moment (dated, few_octets (part state) (named state text) (length whole) small) sound.files)
      (names-installed (part state) (named state text) whole moment names sound.names)
      (here-installed (part state) (named state text) whole moment state.cwd room (sound.here known))

  -- ---- all of it

  -- the text of an upload that can be sent is the text of a path
  store_text : can_be_sent op ≡ true → IsPathText text
  store_text can = by_place place can
    where
      by_place : (place : StorePlace) → can_be_sent (store place text octets how) ≡ true → IsPathText text
      by_place Anew can = can
      by_place Behind can = can
      by_place (From offset) can = (and_parts (is_path_text text) (is_number offset) can).0

  -- its offset is less than 10 ^ 18
  store_few : can_be_sent op ≡ true → (at : ℕ) → store_offset place ≡ Some at → at < 10 ^ 18
  store_few can at is = by_place place can is
    where
      by_place : (place : StorePlace) → can_be_sent (store place text octets how) ≡ true → store_offset place ≡ Some at → at < 10 ^ 18
      by_place Anew can is = absurd (cc)
      by_place Behind can is = absurd (cc)
      by_place (From offset) can is =
          let one : offset ≡ at = cc in subst (λ n. n < 10 ^ 18) one (ltb-true offset (10 ^ 18) (and_parts (is_path_text text) (is_number offset) can).1)

  -- its text is the one text of its octets
  store_text_is : can_be_sent op ≡ true → IsTextOf how.representation octets (upload_text how (store_start place) octets)
  store_text_is can =
      written_text how.representation (store_start place) octets (how.marks && has_markers how.representation) (λ sends. (and_parts how.marks (has_markers how.representation) sends).1)
      (by_place place (store_few can))
    where
      by_place : (place : StorePlace) → ((at : ℕ) → store_offset place ≡ Some at → at < 10 ^ 18) → store_start place < 10 ^ 18
      by_place Anew few = omega arith
      by_place Behind few = omega arith
      by_place (From offset) few = few offset refl

  -- an offset that has no meaning in the representation is the reason of the direct run
  unplaced_is : (state : State) (at : ℕ) (why : Refusal) → store_offset place ≡ Some at → offset_refusal at (how_in_force how.representation) ≡ Some why → refusal state op ≡ Some why
  unplaced_is state at why is some = by_place place is
    where
      by_place : (place : StorePlace) → store_offset place ≡ Some at → refusal state (store place text octets how) ≡ Some why
      by_place Anew is = absurd (cc)
      by_place Behind is = absurd (cc)
      by_place (From offset) is =
          let one : at ≡ offset = cc in
          ap (λ o. or_refused o (or_refused (barred_put state (named state text)) (or_refused (refused_name (misplaced (place_at state (named state text) how offset)))
          (put_refusal state (named state text) (unwrap_or (place_at state (named state text) how offset) 0 + length octets)))))
          (subst (λ n. offset_refusal n (how_in_force how.representation) ≡ Some why) one some)

  -- all that is so of an upload
  pub upload_is_ask : can_be_sent op ≡ true → moment ≤ last_second → IsAsk (upload_ask place text octets how moment)
  upload_is_ask can dated = record {
    plan = upload_plan;
    row = upload_row (store_text can) (store_few can);
    refuses = record {
      can = can;
      refused = λ state why placed some.
          refusal_is state placed ∙ ap (λ o. or_refused o (refused_octets (excess_of (store_rise place text octets how moment) state (length octets)))) some;
      unplaced = unplaced_is;
    };
    way = record {
      sends_is = refl;
      all = by_place place;
      text_is = store_text_is can;
      within = within_file;
      refused = λ state placed none.
          refusal_is state placed ∙ ap (λ o. or_refused o (refused_octets (excess_of (store_rise place text octets how moment) state (length octets)))) none;
      ends_so = ends_is;
      done_so = done_is;
      known_so = known_is;
      sound = stays_sound (store_text can) dated;
    };
  }
    where
      by_place : (place : StorePlace) → count_of (store place text octets how) ≡ None
      by_place Anew = refl
      by_place Behind = refl
      by_place (From offset) = refl
