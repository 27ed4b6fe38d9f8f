-- Each operation without a transfer leaves a sound state sound.
use Rattle.std.proofs.Common.{◌≡◌, ℕ, Bool, true, false, ◌&&◌, List, [], ◌++◌, length, drop, Option, Some, None, refl, sym, ap, subst, ◌∙◌, append-nil, cond}
use Rattle.std.specs.Prelude.{IsTrue, IsSome, if◌then◌else◌}
use Rattle.std.specs.List.{list_all}
use Rattle.std.specs.Option.{is_some}
use Rattle.std.proofs.lemmas.Bool.{and_parts}
use Rattle.std.proofs.lemmas.List.Folds.{list_all-append}
use Rattle.std.specs.Ordering.{eq_by_cmp}
use Rattle.ftp_operation.specs.Answer.{BadOperation}
use Rattle.ftp_operation.specs.Operation.{can_be_sent, is_path_text}
use Rattle.ftp_operation.specs.declared.op.Op.{Op}
use Rattle.ftp_operation.specs.declared.op.Op.TheVariants as Ops
use Rattle.ftp_path.specs.Path.{Names, IsPathText, fits, is_name, is_within, parent, path_cmp}
use Rattle.ftp_path.proofs.KeyLemmas.{within-append, within-parts}
use Rattle.ftp_server_model.proofs.PathTexts.{is_path-led, is_path-parent}
use Rattle.ftp_tree.specs.Map.{Node, Dir, File}
use Rattle.ftp_tree.specs.Tree.{Table, IsTree, node_at, made, removed, moved, freed, or_else, file_refusal, make_refusal, remove_refusal, delete_refusal, rename_refusal, source_refusal}
use Rattle.ftp_tree.specs.declared.fault.TreeFault.{TreeFault}
use Rattle.ftp_tree.specs.declared.fault.TreeFault.TheVariants as Faults
use Rattle.ftp_tree.proofs.KeepLaws.{at-insert, at-remove, by-freed, changes-keep, freed-tree, is-dir, takes-parts}
use Rattle.ftp_tree.proofs.MapLemmas.{apart, same}
use Rattle.ftp_tree.proofs.LawLemmas.{free-to, rename-moves, target-parts}
use Rattle.ftp_tree.proofs.PartLemmas.{parts-put}
use Rattle.ftp_direct.specs.Direct.{State, answer, busy_refusal, changed, chosen, done, limited, named, part, refusal, refused_name, target_part}
use Rattle.ftp_direct.specs.declared.refusal.Refusal.{Refusal}
use Rattle.ftp_direct.specs.declared.refusal.Refusal.TheVariants as Refusals
use Rattle.ftp_server_model.specs.Told.{is_path}
use Rattle.laws_dialogues.specs.Dialogue.{IsFine, IsSound, HasNoTransfer}
use Rattle.laws_dialogues.specs.Operations.{EachStaysSound}
use Rattle.laws_dialogues.proofs.Moving.{within-limits}
use Rattle.laws_dialogues.proofs.Rows.{may_none}
use Rattle.laws_dialogues.proofs.Renaming.{none_there, last_none, none_limited, none_name, first_none, source_why, target_why, same_target, direct_by_source}

-- ---- files of a map

abbrev pub HasFineFiles : Table → Type 0
HasFineFiles table = (path : Names) (octets : List ℕ) (moment : ℕ) → node_at table path ≡ Some (File octets moment) → IsFine octets moment

-- what follows from each of both values of a boolean holds
pub by_bool : {P : Type 0} (b : Bool) → (b ≡ true → P) → (b ≡ false → P) → P
by_bool true one other = one refl
by_bool false one other = other refl

-- files that are fine are so when a directory is made
files-made : (table : Table) (path : Names) → HasFineFiles table → HasFineFiles (made table path)
unfolding made
files-made table path have other octets moment is =
    by_bool (eq_by_cmp path_cmp other path)
    (λ e. absurd (let f : Some Dir ≡ Some (File octets moment) = sym (at-insert table path Dir other ∙ ap (λ b. cond b (Some Dir) (node_at table other)) e) ∙ is in cc))
    (λ e. have other octets moment (sym (at-insert table path Dir other ∙ ap (λ b. cond b (Some Dir) (node_at table other)) e) ∙ is))

-- files that are fine are so when what is at a path is removed
files-removed : (table : Table) (path : Names) → HasFineFiles table → HasFineFiles (removed table path)
unfolding removed
files-removed table path have other octets moment is =
    by_bool (eq_by_cmp path_cmp other path)
    (λ e. absurd (let f : None ≡ Some (File octets moment) = sym (at-remove table path other ∙ ap (λ b. cond b None (node_at table other)) e) ∙ is in cc))
    (λ e. have other octets moment (sym (at-remove table path other ∙ ap (λ b. cond b None (node_at table other)) e) ∙ is))

-- files that are fine are so when a renaming that is not refused moves what is at a path
files-moved : (table : Table) (from to : Names) → IsTree table → rename_refusal table from to ≡ None → HasFineFiles table → HasFineFiles (moved table from to)
files-moved table from to tree none have other octets moment is =
    let all = rename-moves table from to tree none in
    by_bool (is_within to other)
    (λ e.
    let whole : other ≡ to ++ drop (length to) other = within-parts to other e in
    have (from ++ drop (length to) other) octets moment (sym (ap (node_at (moved table from to)) whole ∙ all.comes (drop (length to) other)) ∙ is))
    (λ outside.
    by_bool (is_within from other)
    (λ e. absurd (let f : None ≡ Some (File octets moment) = sym (all.goes other e outside) ∙ is in cc))
    (λ apart. have other octets moment (sym (all.stays other apart outside) ∙ is)))

-- ---- names of a map

abbrev pub HasNames : Table → Type 0
HasNames table = (path : Names) → IsSome (node_at table path) → list_all is_name path ≡ true

-- paths of names are so when a directory is made at a path of names
names-made : (table : Table) (path : Names) → list_all is_name path ≡ true → HasNames table → HasNames (made table path)
unfolding made
names-made table path named have other some =
    by_bool (eq_by_cmp path_cmp other path)
    (λ e. ap (list_all is_name) (same other path e) ∙ named)
    (λ e. have other (ap is_some (sym (at-insert table path Dir other ∙ ap (λ b. cond b (Some Dir) (node_at table other)) e)) ∙ some))

-- paths of names are so when what is at a path is removed
names-removed : (table : Table) (path : Names) → HasNames table → HasNames (removed table path)
unfolding removed
names-removed table path have other some =
    by_bool (eq_by_cmp path_cmp other path)
    (λ e. absurd (let f : false ≡ true = sym (ap is_some (at-remove table path other ∙ ap (λ b. cond b None (node_at table other)) e)) ∙ some in cc))
    (λ e. have other (ap is_some (sym (at-remove table path other ∙ ap (λ b. cond b None (node_at table other)) e)) ∙ some))

-- names behind a front of names
both-named : (front rest : Names) → list_all is_name front ≡ true → list_all is_name rest ≡ true → list_all is_name (front ++ rest) ≡ true
both-named front rest one other = list_all-append is_name front rest ∙ (λ i. one i && other i)

-- the rest of a path of names is names
rest-named : (front rest : Names) → list_all is_name (front ++ rest) ≡ true → list_all is_name rest ≡ true
rest-named front rest is = (and_parts (list_all is_name front) (list_all is_name rest) (sym (list_all-append is_name front rest) ∙ is)).1

-- paths of names are so when a renaming that is not refused moves what is at a path to a path of names
names-moved : (table : Table) (from to : Names) → IsTree table → rename_refusal table from to ≡ None → list_all is_name to ≡ true → HasNames table → HasNames (moved table from to)
names-moved table from to tree none named have other some =
    let all = rename-moves table from to tree none in
    by_bool (is_within to other)
    (λ e.
    let rest : Names = drop (length to) other in
    let whole : other ≡ to ++ rest = within-parts to other e in
    let there : IsSome (node_at table (from ++ rest)) = ap is_some (sym (ap (node_at (moved table from to)) whole ∙ all.comes rest)) ∙ some in
    ap (list_all is_name) whole ∙ both-named to rest named (rest-named from rest (have (from ++ rest) there)))
    (λ outside.
    by_bool (is_within from other)
    (λ e. absurd (let f : false ≡ true = ap is_some (sym (all.goes other e outside)) ∙ some in cc))
    (λ apart. have other (ap is_some (sym (all.stays other apart outside)) ∙ some)))

-- ---- where the current directory stands

-- the current directory is a directory still when a directory is made
here-made : (table : Table) (path cwd : Names) → node_at table cwd ≡ Some Dir → node_at (made table path) cwd ≡ Some Dir
unfolding made
here-made table path cwd here = at-insert table path Dir cwd ∙ ap (λ node. cond (eq_by_cmp path_cmp cwd path) (Some Dir) node) here ∙ either (eq_by_cmp path_cmp cwd path)
  where
    either : (b : Bool) → cond b (Some Dir) (Some Dir) ≡ Some Dir
    either true = refl
    either false = refl

-- the current directory is a directory still when what is at another path is removed
here-removed : (table : Table) (path cwd : Names) → node_at table cwd ≡ Some Dir → eq_by_cmp path_cmp cwd path ≡ false → node_at (removed table path) cwd ≡ Some Dir
unfolding removed
here-removed table path cwd here apart = at-remove table path cwd ∙ ap (λ b. cond b None (node_at table cwd)) apart ∙ here

-- a path is within itself
within-self : (path : Names) → is_within path path ≡ true
within-self path = subst (λ other. is_within path other ≡ true) (append-nil path) (within-append path [])

-- the current directory is not at or below a path that is not busy
not-busy : (state : State) (path : Names) → busy_refusal state path ≡ None → is_within path state.cwd ≡ false
not-busy state path none = by_bool (is_within path state.cwd) (λ e. absurd (let f : Some Faults.Busy ≡ None = sym (ap (λ b. if b then Some Faults.Busy else None) e) ∙ none in cc)) (λ e. e)

-- where neither of two faults is there, the second is not
second-none : (one other : Option TreeFault) → or_else one other ≡ None → other ≡ None
second-none None other none = none
second-none (Some fault) other none = absurd (cc)

-- ---- a change of what the account sees

-- a sound state is so with another tree for what the account sees, if files and names are fine and the current directory is there
pub change-sound : (state : State) (new : Table) → IsSound state → IsTree new → HasFineFiles new → HasNames new → node_at new state.cwd ≡ Some Dir → IsSound (changed state new)
change-sound state new sound tree have named here =
    let same : part (changed state new) ≡ new = (parts-put state.table state.root new).taken in
    record {
      cwd = sound.cwd;
      tree = λ known. subst IsTree (sym same) tree;
      files = subst HasFineFiles (sym same) have;
      names = subst HasNames (sym same) named;
      here = λ known. ap (λ table. node_at table state.cwd) same ∙ here;
    }

-- a sound state is so with another current directory, if that is a path where a directory stands
moves-sound : (state : State) (cwd : Names) → IsSound state → IsTrue (is_path cwd) → node_at (part state) cwd ≡ Some Dir → IsSound (record state { cwd = cwd })
moves-sound state cwd sound is here = record { cwd = is; tree = sound.tree; files = sound.files; names = sound.names; here = λ known. here }

-- ---- by operation

-- a file that is deleted is not the current directory
not-dir : (node : Option Node) → file_refusal node ≡ None → node ≡ Some Dir → ⊥
not-dir None none is = absurd (cc)
not-dir (Some Dir) none is = absurd (cc)
not-dir (Some (File octets moment)) none is = absurd (cc)

-- a new name that is not refused is within the limits of paths
within-name : (path : Names) (why : Option TreeFault) → refused_name (limited path why) ≡ None → IsTrue (fits path)
within-name path why none =
    by_bool (fits path) (λ e. e)
    (λ e. absurd (let f : Some Faults.TooBig ≡ None = sym (ap (λ b. if b then why else Some Faults.TooBig) e) ∙ none_name _ none in cc))

module _ (state : State) (moment : ℕ) (sound : IsSound state) (known : state.known ≡ true) where
  -- a path where a file stands is not the current directory
  no-file : (path : Names) → file_refusal (node_at (part state) path) ≡ None → eq_by_cmp path_cmp state.cwd path ≡ false
  no-file path file =
      by_bool (eq_by_cmp path_cmp state.cwd path)
      (λ e. absurd (not-dir (node_at (part state) path) file (ap (node_at (part state)) (sym (same state.cwd path e)) ∙ sound.here known))) (λ e. e)

  abbrev Stays : Op (List ℕ) → Type 0
  Stays op = refusal state op ≡ None → IsSound (done state op moment).1

  -- a sound state that goes to another directory is sound
  change-dir : (text : List ℕ) → IsPathText text → Stays (Ops.ChangeDir text)
  change-dir text is none =
      moves-sound state (named state text) sound (is_path-led state.cwd text sound.cwd is (within-limits (named state text) _ none))
      (is-dir (node_at (part state) (named state text)) (none_limited (named state text) _ (none_there _ none)))

  -- a sound state that goes to the parent directory is sound
  up-sound : Stays Ops.Up
  up-sound none =
      moves-sound state (parent state.cwd) sound (is_path-parent state.cwd sound.cwd)
      ((sound.tree known).parents state.cwd (ap is_some (sound.here known)))

  -- where a path text leads are names
  named-names : (text : List ℕ) → IsPathText text → IsTrue (fits (named state text)) → list_all is_name (named state text) ≡ true
  named-names text is within =
      (and_parts (list_all is_name (named state text)) (fits (named state text)) (is_path-led state.cwd text sound.cwd is within)).0

  -- a sound state where a directory is made is sound
  make-sound : (text : List ℕ) → IsPathText text → Stays (Ops.MakeDir text)
  make-sound text is none =
      let can : make_refusal (part state) (named state text) ≡ None = none_limited (named state text) _ (none_there _ (may_none state.rights.make_dir _ none)) in
      change-sound state (made (part state) (named state text)) sound (changes-keep.making (part state) (named state text) (sound.tree known) can)
      (files-made (part state) (named state text) sound.files)
      (names-made (part state) (named state text) (named-names text is (within-limits (named state text) _ (may_none state.rights.make_dir _ none))) sound.names)
      (here-made (part state) (named state text) state.cwd (sound.here known))

  -- a sound state where a directory is removed is sound
  remove-sound : (text : List ℕ) → Stays (Ops.RemoveDir text)
  remove-sound text none =
      let both = none_limited (named state text) _ (none_there _ (may_none state.rights.remove_dir _ none)) in
      let can : remove_refusal (part state) (named state text) ≡ None = first_none _ _ both in
      let beside : is_within (named state text) state.cwd ≡ false = not-busy state (named state text) (second-none (remove_refusal (part state) (named state text)) _ both) in
      change-sound state (removed (part state) (named state text)) sound (changes-keep.removing (part state) (named state text) (sound.tree known) can)
      (files-removed (part state) (named state text) sound.files) (names-removed (part state) (named state text) sound.names)
      (here-removed (part state) (named state text) state.cwd (sound.here known) (apart (named state text) state.cwd (named state text) beside (within-self (named state text))))

  -- a sound state where a file is deleted is sound
  delete-sound : (text : List ℕ) → Stays (Ops.Delete text)
  unfolding delete_refusal
  delete-sound text none =
      let can : delete_refusal (part state) (named state text) ≡ None = none_limited (named state text) _ (none_there _ (may_none state.rights.delete _ none)) in
      change-sound state (removed (part state) (named state text)) sound (changes-keep.deleting (part state) (named state text) (sound.tree known) can)
      (files-removed (part state) (named state text) sound.files) (names-removed (part state) (named state text) sound.names)
      (here-removed (part state) (named state text) state.cwd (sound.here known) (no-file (named state text) can))

  -- what a rename looks at has fine files, names, and the current directory, as what the account sees has
  files-freed : (text new : List ℕ) → HasFineFiles (target_part state text new)
  files-freed text new =
      by-freed HasFineFiles state.rights.onto (part state) (named state text) (named state new) sound.files (λ takes. files-removed (part state) (named state new) sound.files)

  names-freed : (text new : List ℕ) → HasNames (target_part state text new)
  names-freed text new =
      by-freed HasNames state.rights.onto (part state) (named state text) (named state new) sound.names (λ takes. names-removed (part state) (named state new) sound.names)

  here-freed : (text new : List ℕ) → node_at (target_part state text new) state.cwd ≡ Some Dir
  here-freed text new =
      by-freed (λ table. node_at table state.cwd ≡ Some Dir) state.rights.onto (part state) (named state text) (named state new) (sound.here known)
      (λ takes.
      here-removed (part state) (named state new) state.cwd (sound.here known)
      (no-file (named state new) (takes-parts (part state) (named state text) (named state new) takes).target))

  -- a sound state where something gets another name is sound
  rename-sound : (text new : List ℕ) → IsPathText new → Stays (Ops.Rename text new)
  rename-sound text new is none = by_source (source_why state text) refl
    where
      target : source_why state text ≡ None → target_why state text new ≡ None
      target source = same_target state text new source ∙ sym (direct_by_source state text new None source) ∙ none

      by_source : (why : Option Refusal) → source_why state text ≡ why → IsSound (done state (Ops.Rename text new) moment).1
      by_source None source =
          let from : Names = named state text in
          let to : Names = named state new in
          let table : Table = target_part state text new in
          let tree : IsTree table = freed-tree state.rights.onto (part state) from to (sound.tree known) in
          let can : rename_refusal table from to ≡ None = none_limited to _ (none_name _ (last_none (source_why state text) _ (target source))) in
          let within : IsTrue (fits to) = within-name to _ (last_none (source_why state text) _ (target source)) in
          let beside : is_within from state.cwd ≡ false =
          not-busy state from (second-none (source_refusal (part state) from) _ (none_limited from _ (none_there _ (may_none state.rights.rename _ source)))) in
          let free : is_within to state.cwd ≡ false =
          free-to table to tree (target-parts table from to can).0 state.cwd (ap is_some (here-freed text new)) in
          change-sound state (moved table from to) sound
          (changes-keep.moving table from to tree can)
          (files-moved table from to tree can (files-freed text new))
          (names-moved table from to tree can (named-names new is within) (names-freed text new))
          ((rename-moves table from to tree can).stays state.cwd beside free ∙ here-freed text new)
      by_source (Some why) source = absurd (let f : Some why ≡ None = sym (direct_by_source state text new (Some why) source) ∙ none in cc)

  -- a sound state is so when an operation without a transfer that can be sent and is not refused is done
  done-sound : (op : Op (List ℕ)) → HasNoTransfer op → can_be_sent op ≡ true → Stays op
  done-sound Ops.Where alone can none = sound
  done-sound (Ops.ChangeDir text) alone can none = change-dir text can none
  done-sound Ops.Up alone can none = up-sound none
  done-sound (Ops.MakeDir text) alone can none = make-sound text can none
  done-sound (Ops.RemoveDir text) alone can none = remove-sound text none
  done-sound (Ops.Delete text) alone can none = delete-sound text none
  done-sound (Ops.Rename text new) alone can none = rename-sound text new (and_parts (is_path_text text) (is_path_text new) can).1 none
  done-sound (Ops.Put path octets how) alone can none = absurd (cc)
  done-sound (Ops.Append path octets how) alone can none = absurd (cc)
  done-sound (Ops.PutFrom path offset octets how) alone can none = absurd (cc)
  done-sound (Ops.Get path how) alone can none = absurd (cc)
  done-sound (Ops.GetFrom path offset how) alone can none = absurd (cc)
  done-sound (Ops.Peek path count how) alone can none = absurd (cc)
  done-sound (Ops.Size text how) alone can none = sound
  done-sound (Ops.Modified text) alone can none = sound
  done-sound (Ops.Facts text) alone can none = sound
  done-sound (Ops.List text how) alone can none = absurd (cc)
  done-sound (Ops.Names text how) alone can none = absurd (cc)
  done-sound (Ops.Text verb text how) alone can none = absurd (cc)

-- a sound state is so behind the answer to each operation without a transfer, refused or not
pub each-stays-sound : EachStaysSound
unfolding answer
each-stays-sound state op moment alone can sound = by_known state.known refl (refusal state op) refl
  where
    Now : Bool → Option Refusal → State
    Now known why = (if can_be_sent op then chosen (if known then why else Some Refusals.NotLoggedIn) state (done state op moment) else (BadOperation, state)).1

    by_known : (known : Bool) → state.known ≡ known → (why : Option Refusal) → refusal state op ≡ why → IsSound (Now state.known (refusal state op))
    by_known true known None is =
        let now : Now state.known (refusal state op) ≡ (done state op moment).1 =
        (λ i. Now (known i) (is i)) ∙ ap (λ (b : Bool). (if b then done state op moment else (BadOperation, state)).1) can in
        subst IsSound (sym now) (done-sound state moment sound known op alone can is)
    by_known true known (Some why) is =
        let now : Now state.known (refusal state op) ≡ state =
        (λ i. Now (known i) (is i)) ∙ ap (λ (b : Bool). (if b then chosen (Some why) state (done state op moment) else (BadOperation, state)).1) can in
        subst IsSound (sym now) sound
    by_known false known why is =
        let now : Now state.known (refusal state op) ≡ state =
        (λ i. Now (known i) (is i)) ∙ ap (λ (b : Bool). (if b then chosen (Some Refusals.NotLoggedIn) state (done state op moment) else (BadOperation, state)).1) can in
        subst IsSound (sym now) sound
