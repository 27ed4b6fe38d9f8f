-- What a listing says is read back as itself: lines, entries and names.
use Rattle.std.proofs.Common.{◌≡◌, ◌≢◌, ℕ, suc, ◌+◌, ◌≤◌, Bool, true, false, not, ◌&&◌, ◌||◌, ◌==◌, List, [], ◌∷◌, ◌++◌, length, map, Some, None, All, refl, sym, ap, ◌∙◌, append_assoc, arith, ne_eqb, cond}
use Rattle.std.specs.Prelude.{nat_eq, nat_le, if◌then◌else◌}
use Rattle.std.specs.List.{Contains, cons_option, ends_with, filter, filter_map, list_all, slice_split}
use Rattle.std.specs.Option.{option_map, unwrap_or}
use Rattle.std.specs.Str.{is_utf8}
use Rattle.std.proofs.lemmas.Bool.{and_parts, leb-true, le-leb}
use Rattle.std.proofs.lemmas.List.{length-append}
use Rattle.std.proofs.lemmas.List.Elements.{All-cons, All-nil}
use Rattle.std.proofs.lemmas.List.Folds.{list_all-append}
use Rattle.std.proofs.lemmas.List.Splits.{slice_split_at}
use Rattle.ftp_facts.specs.Listed.{Listed, entry_value}
use Rattle.ftp_facts.specs.Listing.{all_values, but_empty_last, entries_value, is_entry_shown, line_feed, lines_of, name_value, names_value}
use Rattle.ftp_facts.specs.Value.{and_then}
use Rattle.ftp_facts.proofs.LineLemmas.{Lets, weaker}
use Rattle.ftp_facts.proofs.NameLemmas.{word_passes}
use Rattle.ftp_facts.proofs.NumberLemmas.{at_most, is_given}
use Rattle.ftp_path.specs.Path.{IsPathText, Names, fits, is_listed_text, is_name, is_path_octet, slash, text_limit}
use Rattle.ftp_path.proofs.TextLemmas.{is_utf8-append, name-text, slash-utf8}
use Rattle.ftp_tree.specs.Map.{Node, Dir, File, shown_of}
use Rattle.ftp_tree.specs.Tree.{Table, children, node_at}
use Rattle.ftp_tree.proofs.LawLemmas.{children-stand}
use Rattle.ftp_direct.specs.Direct.{State, behind, child, entries_in, entry_at, entry_in, file_in, is_file, is_root, listed, names_for, part}
use Rattle.ftp_direct.proofs.EntryLemmas.{entry_passes, is_said_octet}
use Rattle.ftp_server_model.specs.Entries.{listed_line}
use Rattle.ftp_server_model.specs.Listing.{entry_lines, lines_file, name_lines}
use Rattle.ftp_server_model.specs.View.{all_facts}
use Rattle.laws_dialogues.specs.Dialogue.{IsSound}
use Rattle.laws_dialogues.proofs.Telling.{IsEarly, early-at, line-reads}

-- ---- texts without LF

abbrev is_feed : ℕ → Bool
is_feed octet = octet == line_feed

abbrev NoFeed : List ℕ → Type 0
NoFeed text = All (λ octet. is_feed octet ≡ false) text

-- octets of a kind that LF is not
of_kind : (p : ℕ → Bool) → p line_feed ≡ false → (text : List ℕ) → list_all p text ≡ true → NoFeed text
of_kind p none [] all = All-nil (λ octet. is_feed octet ≡ false)
of_kind p none (octet ∷ text) all =
    let both = and_parts (p octet) (list_all p text) all in
    let other : octet ≢ line_feed = λ e. absurd (let f : false ≡ true = sym none ∙ ap p (sym e) ∙ both.0 in cc) in
    All-cons (λ octet. is_feed octet ≡ false) octet text (ne_eqb octet line_feed other) (of_kind p none text both.1)

-- octets that are no LF
abbrev is_inner : ℕ → Bool
is_inner octet = not (is_feed octet)

-- octets from `0` on are no LF
from_zero : (octet : ℕ) → is_said_octet octet ≡ true → is_inner octet ≡ true
from_zero octet said = ap not (ne_eqb octet line_feed (λ e. absurd (let low = at_most 48 octet said in omega (arith, low, e))))

-- octets of a pathname are none
path_inner : (octet : ℕ) → is_path_octet octet ≡ true → is_inner octet ≡ true
path_inner octet is = ap not (ne_eqb octet line_feed (λ e. absurd (let f : false ≡ true = ap is_path_octet (sym e) ∙ is in cc)))

-- ---- the line of an entry

-- the line of an entry has no LF if its name is of octets of a pathname
entry_lacks : (name : List ℕ) (path : Names) (node : Node) → list_all is_path_octet name ≡ true → NoFeed (listed_line all_facts (listed name path node))
entry_lacks name path node named =
    let lets : Lets is_inner = record { at_equals = refl; at_semicolon = refl; at_space = refl; words = word_passes is_inner refl } in
    of_kind is_inner refl (listed_line all_facts (listed name path node))
    (entry_passes is_inner lets from_zero all_facts (shown_of node) (is_root path) name (weaker is_path_octet is_inner path_inner name named))

-- ---- lines as a file, and back

-- each of the lines lacks LF
abbrev AreLines : List (List ℕ) → Type 0
AreLines [] = Unit {0}
AreLines (line ∷ lines) = NoFeed line × AreLines lines

-- a file of lines without LF, split at each LF, gives the lines and an empty one behind them
split_file : (lines : List (List ℕ)) → AreLines lines → slice_split is_feed (lines_file lines) ≡ lines ++ [] ∷ []
split_file [] none = refl
split_file (line ∷ lines) none =
    ap (slice_split is_feed) (append_assoc line (line_feed ∷ []) (lines_file lines))
    ∙ slice_split_at is_feed line line_feed (lines_file lines) none.0 refl ∙ ap (λ l. line ∷ l) (split_file lines none.1)

-- lines with an empty one behind them, but for an empty last one, are the lines
but_last : (lines : List (List ℕ)) → but_empty_last (lines ++ [] ∷ []) ≡ lines
but_last [] = refl
but_last (line ∷ []) = refl
but_last (line ∷ next ∷ lines) = ap (λ l. line ∷ l) (but_last (next ∷ lines))

-- a file of lines without LF is read back as these lines
lines_back : (lines : List (List ℕ)) → AreLines lines → lines_of (lines_file lines) ≡ lines
lines_back lines none = ap but_empty_last (split_file lines none) ∙ but_last lines

-- ---- the names in a directory

-- each of a list is a name
named_all : (names : List (List ℕ)) → ((name : List ℕ) → Contains names name → is_name name ≡ true) → list_all is_name names ≡ true
named_all [] each = refl
named_all (name ∷ names) each =
    let first : is_name name ≡ true = each name (0, omega arith, refl) in
    let rest = named_all names (λ other found. each other (suc found.0, (let w = found.1 in omega (arith, w)), found.2)) in
    λ i. first i && rest i

-- in a sound state each of the children at a path has a valid name
pub children_named : (state : State) (path : Names) → IsSound state → list_all is_name (children (part state) path) ≡ true
children_named state path sound =
    named_all (children (part state) path) (λ name found.
    let whole = sound.names (path ++ name ∷ []) ((children-stand (part state) path name).0 found) in
    let last = (and_parts (list_all is_name path) (list_all is_name (name ∷ [])) (sym (list_all-append is_name path (name ∷ [])) ∙ whole)).1 in
    (and_parts (is_name name) true last).0)

-- a text of path octets has no LF
text_lacks : (text : List ℕ) → list_all is_path_octet text ≡ true → NoFeed text
text_lacks text all = of_kind is_path_octet refl text all

-- what a path text is made of
pub record IsText (text : List ℕ) : Type 0 where
  pub some : 1 ≤ length text
  pub utf8 : is_utf8 text ≡ true
  pub octets : list_all is_path_octet text ≡ true

-- a path text has an octet, is UTF-8 and is of path octets
pub text_parts : (text : List ℕ) → IsPathText text → IsText text
text_parts text is =
    let both = and_parts (nat_le 1 (length text) && nat_le (length text) text_limit) (is_utf8 text && list_all is_path_octet text) is in
    let within = and_parts (nat_le 1 (length text)) (nat_le (length text) text_limit) both.0 in
    let said = and_parts (is_utf8 text) (list_all is_path_octet text) both.1 in
    record { some = leb-true 1 (length text) within.0; utf8 = said.0; octets = said.1 }

-- ---- entries

-- an entry whose line says it
record IsRead (entry : Listed) : Type 0 where
  says : entry_value (listed_line all_facts entry) ≡ Some entry
  lacks : NoFeed (listed_line all_facts entry)
  shown : is_entry_shown entry ≡ true

abbrev AreRead : List Listed → Type 0
AreRead [] = Unit {0}
AreRead (entry ∷ entries) = IsRead entry × AreRead entries

-- the entry of a node is of a kind that a listing shows
kind_shown : (name : List ℕ) (path : Names) (node : Node) → is_entry_shown (listed name path node) ≡ true
kind_shown name path Dir = refl
kind_shown name path (File octets moment) = refl

-- the entry of a node that is early, with a name, is said by its line
listed_read : (name : List ℕ) (path : Names) (node : Node) → is_name name ≡ true → IsEarly node → IsRead (listed name path node)
listed_read name path node named early = record {
  says = line-reads path node name (name-text name named) early;
  lacks = entry_lacks name path node (text_parts name (name-text name named)).octets;
  shown = kind_shown name path node;
}

-- an entry at a path of a sound state is said by its line
entry_read : (state : State) (path : Names) (name : List ℕ) → IsSound state → is_name name ≡ true → IsRead (entry_at (part state) path name)
unfolding entry_at
entry_read state path name sound named = listed_read name path (unwrap_or (node_at (part state) path) Dir) named (early-at state path sound)

-- so are all the entries of names in a directory of a sound state
entries_read : (state : State) (path : Names) → IsSound state → (names : List (List ℕ)) → list_all is_name names ≡ true → AreRead (filter_map (entry_in (part state) path) names)
entries_read state path sound [] named = tt
entries_read state path sound (name ∷ names) named =
    let both = and_parts (is_name name) (list_all is_name names) named in
    by_fit (fits (child path name)) (entry_read state (child path name) name sound both.0) (entries_read state path sound names both.1)
  where
    by_fit : (b : Bool) → IsRead (entry_at (part state) (child path name) name) → AreRead (filter_map (entry_in (part state) path) names)
        → AreRead (cons_option (if b then Some (entry_at (part state) (child path name) name) else None) (filter_map (entry_in (part state) path) names))
    by_fit true one rest = (one, rest)
    by_fit false one rest = rest

-- entries that are said by their lines have lines without LF
entry_lines_lack : (entries : List Listed) → AreRead entries → AreLines (map (listed_line all_facts) entries)
entry_lines_lack [] read = tt
entry_lines_lack (entry ∷ entries) read = (read.0.lacks, entry_lines_lack entries read.1)

-- the lines of such entries are read as these entries
entry_values : (entries : List Listed) → AreRead entries → all_values entry_value (map (listed_line all_facts) entries) ≡ Some entries
entry_values [] read = refl
entry_values (entry ∷ entries) read =
    ap (λ o. and_then o (λ value. option_map (λ values. value ∷ values) (all_values entry_value (map (listed_line all_facts) entries)))) read.0.says
    ∙ ap (option_map (λ values. entry ∷ values)) (entry_values entries read.1)

-- each of such entries is shown, and none is left out
all_shown : (entries : List Listed) → AreRead entries → filter is_entry_shown entries ≡ entries
all_shown [] read = refl
all_shown (entry ∷ entries) read = ap (λ b. cond b (entry ∷ filter is_entry_shown entries) (filter is_entry_shown entries)) read.0.shown ∙ ap (λ l. entry ∷ l) (all_shown entries read.1)

-- the listing of a directory of a sound state is read back as the entries in it
pub entries-back : (state : State) (path : Names) → IsSound state
    → entries_value (lines_file (entry_lines all_facts (part state) path)) ≡ Some (entries_in (part state) path)
unfolding entries_in
entries-back state path sound =
    let names : List (List ℕ) = children (part state) path in
    let entries : List Listed = filter_map (entry_in (part state) path) names in
    let read = entries_read state path sound names (children_named state path sound) in
    ap (λ lines. option_map (filter is_entry_shown) (all_values entry_value lines)) (lines_back (map (listed_line all_facts) entries) (entry_lines_lack entries read))
    ∙ ap (option_map (filter is_entry_shown)) (entry_values entries read) ∙ ap Some (all_shown entries read)

-- ---- pathnames

-- a line that is a pathname
record IsLine (line : List ℕ) : Type 0 where
  listed : is_listed_text line ≡ true
  lacks : NoFeed line

abbrev AreNamed : List (List ℕ) → Type 0
AreNamed [] = Unit {0}
AreNamed (line ∷ lines) = IsLine line × AreNamed lines

-- a path text is a line that is a pathname
text_line_is : (text : List ℕ) → IsText text → IsLine text
text_line_is text is = record {
  listed = (λ i. le-leb 1 (length text) is.some i && (is.utf8 i && is.octets i));
  lacks = text_lacks text is.octets;
}

-- a text that may be left out
abbrev pub IsGiven : List ℕ → Type 0
IsGiven [] = Unit {0}
IsGiven (c ∷ text) = IsText (c ∷ text)

-- a slash in front of a path text makes a path text
with_slash : (name : List ℕ) → IsText name → IsText (slash ∷ name)
with_slash name is = record {
  some = omega arith;
  utf8 = is_utf8-append (slash ∷ []) name slash-utf8 is.utf8;
  octets = is.octets;
}

-- a path text behind another, or behind none, is a path text
joined : (text name : List ℕ) → IsGiven text → IsText name → IsText (text ++ name)
joined [] name given is = is
joined (c ∷ text) name given is = record {
  some = omega (arith, length-append (c ∷ text) name);
  utf8 = is_utf8-append (c ∷ text) name given.utf8 is.utf8;
  octets = list_all-append is_path_octet (c ∷ text) name ∙ (λ i. given.octets i && is.octets i);
}

-- a name behind a text, with a slash between them where one is missing, is a line that is a pathname
behind_is : (text name : List ℕ) → IsGiven text → IsText name → IsLine (behind text name)
behind_is text name given is = by_end ((length text == 0) || ends_with nat_eq text (slash ∷ []))
  where
    by_end : (b : Bool) → IsLine (if b then text ++ name else text ++ slash ∷ name)
    by_end true = text_line_is (text ++ name) (joined text name given is)
    by_end false = text_line_is (text ++ slash ∷ name) (joined text (slash ∷ name) given (with_slash name is))

-- the files of names in a directory are listed as lines that are pathnames
files_named : (table : Table) (path : Names) (text : List ℕ) → IsGiven text → (names : List (List ℕ)) → list_all is_name names ≡ true → AreNamed (filter_map (file_in table path text) names)
files_named table path text given [] named = tt
files_named table path text given (name ∷ names) named =
    let both = and_parts (is_name name) (list_all is_name names) named in
    by_file (fits (child path name) && is_file (node_at table (child path name))) (behind_is text name given (text_parts name (name-text name both.0)))
    (files_named table path text given names both.1)
  where
    by_file : (b : Bool) → IsLine (behind text name) → AreNamed (filter_map (file_in table path text) names)
        → AreNamed (cons_option (if b then Some (behind text name) else None) (filter_map (file_in table path text) names))
    by_file true one rest = (one, rest)
    by_file false one rest = rest

-- lines that are pathnames have no LF
lines_named : (lines : List (List ℕ)) → AreNamed lines → AreLines lines
lines_named [] named = tt
lines_named (line ∷ lines) named = (named.0.lacks, lines_named lines named.1)

-- lines that are pathnames are read as themselves
name_values : (lines : List (List ℕ)) → AreNamed lines → all_values name_value lines ≡ Some lines
name_values [] named = refl
name_values (line ∷ lines) named =
    ap (λ o. and_then o (λ value. option_map (λ values. value ∷ values) (all_values name_value lines))) (is_given (is_listed_text line) line named.0.listed)
    ∙ ap (option_map (λ values. line ∷ values)) (name_values lines named.1)

-- what stands at the current directory is no file
names_named : (state : State) (path : Names) (text : List ℕ) → IsSound state → IsGiven text → (text ≡ [] → is_file (node_at (part state) path) ≡ false) → AreNamed (names_for (part state) path text)
unfolding names_for
names_named state path text sound given here = by_file (is_file (node_at (part state) path)) refl
  where
    by_file : (b : Bool) → is_file (node_at (part state) path) ≡ b
        → AreNamed (if b then text ∷ [] else filter_map (file_in (part state) path text) (children (part state) path))
    by_file false e = files_named (part state) path text given (children (part state) path) (children_named state path sound)
    by_file true e = by_text text given here
      where
        by_text : (text : List ℕ) → IsGiven text → (text ≡ [] → is_file (node_at (part state) path) ≡ false) → AreNamed (text ∷ [])
        by_text [] given here = absurd (let f : true ≡ false = sym e ∙ here refl in cc)
        by_text (c ∷ text) given here = (text_line_is (c ∷ text) given, tt)

-- names listed of a sound state are read back as themselves, if with no text given what stands at the path is no file
pub names-back : (state : State) (path : Names) (text : List ℕ) → IsSound state → IsGiven text → (text ≡ [] → is_file (node_at (part state) path) ≡ false)
    → names_value (lines_file (name_lines (part state) path text)) ≡ Some (names_for (part state) path text)
names-back state path text sound given here =
    let named = names_named state path text sound given here in
    ap (all_values name_value) (lines_back (names_for (part state) path text) (lines_named (names_for (part state) path text) named))
    ∙ name_values (names_for (part state) path text) named
