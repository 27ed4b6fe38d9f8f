-- What the reading calls of a tree say of the node that stands at a path.
use Rattle.std.proofs.Common.{◌≡◌, ℕ, Bool, true, false, not, List, [], length, Option, Some, None, is_some, refl, ap, sym, ◌∙◌, ◌∷◌}
use mathlib.Core.Bool.{false≢true, true≢false}
use Rattle.ftp_path.specs.Path.{fits, resolved, Names, is_within}
use Rattle.std.specs.Option.{option_map, unwrap_or}
use Rattle.ftp_tree.specs.Map.{Node, Dir, File, moment_of, of_node}
use Rattle.ftp_tree.specs.Tree.{Table, freed, node_at, kind_of, kind_at, octets_at, size_at, stamp_at, octets_or_none, directory_refusal, file_refusal, under, whenever, or_else, source_answer, source_refusal, target_refusal, rename_refusal}
use Rattle.ftp_tree.specs.declared.fault.TreeFault.{TreeFault}
use Rattle.ftp_tree.specs.declared.fault.TreeFault.TheVariants.{Absent, WrongKind, Busy}
use Rattle.ftp_tree.proofs.KeepLaws.{freed-source}
use Rattle.ftp_tree.specs.declared.tree.NodeKind.{NodeKind}
use Rattle.ftp_tree.specs.declared.tree.NodeKind.TheVariants as Kinds
use Rattle.ftp_operation.specs.declared.op.Op.TheVariants as Ops
use Rattle.ftp_operation.specs.Answer.{Refused, Stamp}
use Rattle.ftp_direct.specs.Direct.{absent_refusal, due, here, is_directory, is_file}
use Rattle.ftp_direct.specs.Run.{Gives}
use Rattle.ftp_direct.proofs.RefusalLemmas.{gives_refused, gives_done, there_some, there_none}
use Rattle.ftp_direct.specs.declared.refusal.Refusal.TheVariants.{Unavailable}
use Rattle.ftp_direct.specs.Refusal.{code_of}

-- by its kind
abbrev directory_by : Option NodeKind → Option TreeFault
directory_by None = Some Absent
directory_by (Some Kinds.Dir) = None
directory_by (Some Kinds.File) = Some WrongKind

directory_node : (node : Option Node) → directory_refusal node ≡ directory_by (option_map kind_of node)
directory_node None = refl
directory_node (Some Dir) = refl
directory_node (Some (File octets moment)) = refl

pub directory_kind : (table : Table) (path : Names) → directory_refusal (node_at table path) ≡ directory_by (kind_at table path)
unfolding kind_at
directory_kind table path = directory_node (node_at table path)

abbrev absent_by : Option NodeKind → Option TreeFault
absent_by None = Some Absent
absent_by (Some kind) = None

absent_node : (node : Option Node) → absent_refusal node ≡ absent_by (option_map kind_of node)
absent_node None = refl
absent_node (Some Dir) = refl
absent_node (Some (File octets moment)) = refl

pub absent_kind : (table : Table) (path : Names) → absent_refusal (node_at table path) ≡ absent_by (kind_at table path)
unfolding kind_at
absent_kind table path = absent_node (node_at table path)

abbrev file_by : Option NodeKind → Option TreeFault
file_by None = Some Absent
file_by (Some Kinds.Dir) = Some WrongKind
file_by (Some Kinds.File) = None

file_node : (node : Option Node) → file_refusal node ≡ file_by (option_map kind_of node)
file_node None = refl
file_node (Some Dir) = refl
file_node (Some (File octets moment)) = refl

pub file_kind : (table : Table) (path : Names) → file_refusal (node_at table path) ≡ file_by (kind_at table path)
unfolding kind_at
file_kind table path = file_node (node_at table path)

abbrev is_file_by : Option NodeKind → Bool
is_file_by None = false
is_file_by (Some Kinds.Dir) = false
is_file_by (Some Kinds.File) = true

is_file_node : (node : Option Node) → is_file node ≡ is_file_by (option_map kind_of node)
is_file_node None = refl
is_file_node (Some Dir) = refl
is_file_node (Some (File octets moment)) = refl

pub is_file_kind : (table : Table) (path : Names) → is_file (node_at table path) ≡ is_file_by (kind_at table path)
unfolding kind_at
is_file_kind table path = is_file_node (node_at table path)

abbrev is_directory_by : Option NodeKind → Bool
is_directory_by None = false
is_directory_by (Some Kinds.Dir) = true
is_directory_by (Some Kinds.File) = false

is_directory_node : (node : Option Node) → is_directory node ≡ is_directory_by (option_map kind_of node)
is_directory_node None = refl
is_directory_node (Some Dir) = refl
is_directory_node (Some (File octets moment)) = refl

pub is_directory_kind : (table : Table) (path : Names) → is_directory (node_at table path) ≡ is_directory_by (kind_at table path)
unfolding kind_at
is_directory_kind table path = is_directory_node (node_at table path)

-- by its size
len_option : (octets : Option (List ℕ)) → length (unwrap_or octets []) ≡ unwrap_or (option_map length octets) 0
len_option None = refl
len_option (Some octets) = refl

pub len_size : (table : Table) (path : Names) → length (octets_or_none table path) ≡ unwrap_or (size_at table path) 0
unfolding size_at
len_size table path = len_option (octets_at table path)

-- by its moment
stamp_node : (node : Option Node) → is_some (file_refusal node) ≡ not (is_some (of_node moment_of node))
stamp_node None = refl
stamp_node (Some Dir) = refl
stamp_node (Some (File octets moment)) = refl

pub file_stamp : (table : Table) (path : Names) → is_some (file_refusal (node_at table path)) ≡ not (is_some (stamp_at table path))
unfolding stamp_at
file_stamp table path = stamp_node (node_at table path)

-- ---- what is moved

source_clear : (node : Option Node) (path cwd : Names) → is_some (absent_refusal node) ≡ false → is_within path cwd ≡ false → source_answer node path ≡ None
unfolding is_within
source_clear None path cwd there free = cc
source_clear (Some node) [] cwd there free = cc
source_clear (Some node) (name ∷ names) cwd there free = refl

-- something stands there that is not busy: it can be moved
pub source_free : (table : Table) (path cwd : Names) → is_some (absent_refusal (node_at table path)) ≡ false → is_within path cwd ≡ false → source_refusal table path ≡ None
unfolding source_refusal
source_free table path cwd there free = source_clear (node_at table path) path cwd there free

source_none : (node : Option Node) (path : Names) → is_some (absent_refusal node) ≡ true → source_answer node path ≡ Some Absent
source_none None path absent = refl
source_none (Some node) path absent = absurd (false≢true absent)

pub source_absent : (table : Table) (path : Names) → is_some (absent_refusal (node_at table path)) ≡ true → source_refusal table path ≡ Some Absent
unfolding source_refusal
source_absent table path absent = source_none (node_at table path) path absent

pub rename_target : (table : Table) (from to : Names) → source_refusal table from ≡ None → rename_refusal table from to ≡ target_refusal table from to
unfolding rename_refusal
rename_target table from to free = ap (λ source. or_else source (target_refusal table from to)) free

or_some : (first : Option TreeFault) (fault : TreeFault) → is_some (or_else first (Some fault)) ≡ true
or_some None fault = refl
or_some (Some first) fault = refl

pub held_busy : (table : Table) (path cwd : Names) (busy : Bool) → is_some (absent_refusal (node_at table path)) ≡ false → is_within path cwd ≡ busy
    → is_some (or_else (source_refusal table path) (whenever busy Busy)) ≡ busy
held_busy table path cwd true there is = or_some (source_refusal table path) Busy
held_busy table path cwd false there is = ap (λ source. is_some (or_else source None)) (source_free table path cwd there is)

pub held_absent : (table : Table) (path : Names) (busy : Option TreeFault) → is_some (absent_refusal (node_at table path)) ≡ true
    → is_some (or_else (source_refusal table path) busy) ≡ true
held_absent table path busy absent = ap (λ source. is_some (or_else source busy)) (source_absent table path absent)

or_free : (first second : Option TreeFault) → is_some (or_else first second) ≡ false → first ≡ None
or_free None second free = refl
or_free (Some fault) second free = absurd (true≢false free)

-- what can be moved is refused by the new name alone
pub rename_freed : (onto : Bool) (table : Table) (from to : Names) (busy : Option TreeFault) → is_some (or_else (source_refusal table from) busy) ≡ false
    → rename_refusal (freed onto table from to) from to ≡ target_refusal (freed onto table from to) from to
rename_freed onto table from to busy free =
    rename_target (freed onto table from to) from to (freed-source onto table from to ∙ or_free (source_refusal table from) busy free)

-- ---- when a file was installed

pub stamp_said : (table : Table) (root cwd : Names) (text : List ℕ) (path : Names) (seconds : ℕ) → path ≡ resolved cwd text → fits path ≡ true
    → Some seconds ≡ stamp_at (under table root) path → Gives (due (here table root cwd) (Ops.Modified text) 0) (Stamp seconds) (here table root cwd)
stamp_said table root cwd text path seconds is fit some =
    let seen = under table root in
    let there : stamp_at seen (resolved cwd text) ≡ Some seconds = ap (stamp_at seen) (sym is) ∙ sym some in
    let free = there_none _ _ (ap fits (sym is) ∙ fit) (file_stamp seen (resolved cwd text) ∙ ap (λ stamp. not (is_some stamp)) there) in
    let gives = gives_done (here table root cwd) (Ops.Modified text) 0 free in
    (ap (λ stamp. Stamp (unwrap_or stamp 0)) (sym there) ∙ gives.0, gives.1)

pub stamp_none : (table : Table) (root cwd : Names) (text : List ℕ) (path : Names) → path ≡ resolved cwd text → fits path ≡ true
    → None ≡ stamp_at (under table root) path → Gives (due (here table root cwd) (Ops.Modified text) 0) (Refused (code_of Unavailable)) (here table root cwd)
stamp_none table root cwd text path is fit none =
    let seen = under table root in
    let absent : stamp_at seen (resolved cwd text) ≡ None = ap (stamp_at seen) (sym is) ∙ sym none in
    gives_refused (here table root cwd) (Ops.Modified text) 0 Unavailable
    (there_some _ _ (ap fits (sym is) ∙ fit) (file_stamp seen (resolved cwd text) ∙ ap (λ stamp. not (is_some stamp)) absent))
