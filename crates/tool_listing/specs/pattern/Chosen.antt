-- Which files of a directory a pattern chooses (own choice).
use Rattle.std.specs.Prelude.{ℕ, ◌==◌, ◌&&◌, ◌||◌, Bool, true, false, not, List, length, drop, Option, Some, if◌then◌else◌}
use Rattle.std.specs.List.{list_any}
use Rattle.ftp_facts.specs.declared.entry.Entry.{Entry}
use Rattle.ftp_facts.specs.declared.entry.EntryKind.{EntryKind}
use Rattle.ftp_facts.specs.declared.entry.EntryKind.TheVariants as Kinds
use Rattle.tool_listing.specs.declared.entries.item.ListedItem.{ListedItem}
use Rattle.tool_listing.specs.declared.entries.item.ItemKind.{ItemKind}
use Rattle.tool_listing.specs.declared.entries.item.ItemKind.TheVariants as Stands
use Rattle.tool_listing.specs.entries.Lines.{is_listed, without_slash}
use Rattle.tool_listing.specs.entries.Name.{is_name}
use Rattle.tool_listing.specs.pattern.Pattern.{matches, question, star}

-- an octet of a pattern that stands for others
abbrev pub is_wild : ℕ → Bool
is_wild octet = octet == star || octet == question

-- a name that is a pattern: an octet of it stands for others
abbrev pub is_pattern : List ℕ → Bool
is_pattern name = list_any is_wild name

-- a directory, by its type
abbrev pub is_dir_kind : {A : Type 0} → Option (EntryKind A) → Bool
is_dir_kind (Some Kinds.Dir) = true
is_dir_kind (Some Kinds.CurrentDir) = true
is_dir_kind (Some Kinds.ParentDir) = true
is_dir_kind kind = false

-- an entry is chosen by a pattern: its name is one of a single file, and of the pattern, and it is no directory
abbrev pub is_chosen : {A : Type 0} → (pattern : List ℕ) → Entry A → Bool
is_chosen pattern entry = is_name entry.name && matches pattern entry.name && not (is_dir_kind entry.kind)

-- the name of a file, from a name that a server gives alone or behind the path of the directory that is listed
abbrev pub bare_name : (path name : List ℕ) → List ℕ
bare_name path name = if is_name name then name else without_slash (drop (length path) name)

-- a name of a directory's listing is chosen by a pattern
abbrev pub is_chosen_name : (pattern path name : List ℕ) → Bool
is_chosen_name pattern path name = is_listed path name && matches pattern (bare_name path name)

-- what is fetched by a pattern
abbrev pub is_fetched : ItemKind → Bool
is_fetched (Stands.File facts) = true
is_fetched Stands.Other = true
is_fetched kind = false

-- what stands under a name is chosen by a pattern
abbrev pub is_chosen_item : {A : Type 0} → (pattern : List ℕ) → ListedItem A → Bool
is_chosen_item pattern item = (is_fetched item.kind && is_name item.name) && matches pattern item.name
