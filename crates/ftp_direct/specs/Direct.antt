-- The operations of a user, run directly on a map from paths to files and directories: the answer and the change of each, and a
-- list of them in order. This is what a session of client and server is measured against; no command, reply or connection
-- stands in it (RFC 959, section 4.1; RFC 3659). Each row is said of the part of the map that the user's account sees.
use Rattle.std.specs.Prelude.{ℕ, ◌+◌, ◌==◌, ◌&&◌, ◌||◌, Bool, true, false, not, List, [], ◌∷◌, ◌++◌, length, take, drop, nat_le, Option, Some, None, if◌then◌else◌}
use Rattle.std.specs.Option.{is_some, option_map, option_or, unwrap_or}
use Rattle.std.specs.List.{find, range_with_len}
use Rattle.ftp_path.specs.Path.{parent, fits, resolved, text_of, Names, is_within}
use Rattle.ftp_tree.specs.Map.{Node, Dir, File}
use Rattle.ftp_tree.specs.Tree.{Table, node_at, octets_or_none, stamp_at, or_else, whenever, directory_refusal, made, removed, installed, moved, freed, under, with_part, make_refusal, remove_refusal, delete_refusal, file_refusal, source_refusal, target_refusal, room_refusal, octets_refusal}
use Rattle.ftp_tree.specs.declared.fault.TreeFault.{TreeFault}
use Rattle.ftp_tree.specs.declared.fault.TreeFault.TheVariants as Faults
use Rattle.ftp_repr.specs.Ascii.{asc}
use Rattle.ftp_settings.specs.declared.representation.Kind.{Kind}
use Rattle.ftp_settings.specs.declared.representation.Kind.TheVariants.{Ascii, Image}
use Rattle.ftp_settings.specs.declared.representation.Structure.{Structure}
use Rattle.ftp_settings.specs.declared.representation.Structure.TheVariants as Structures
use Rattle.ftp_operation.specs.Account.{Account}
use Rattle.ftp_operation.specs.Rights.{all_rights, no_rights, may_put}
use Rattle.ftp_operation.specs.declared.rights.Rights.{Rights}
use Rattle.ftp_operation.specs.declared.op.How.{How}
use Rattle.ftp_operation.specs.declared.op.ListVerb.{ListVerb}
use Rattle.ftp_operation.specs.declared.op.ListVerb.TheVariants as Verbs
use Rattle.ftp_operation.specs.declared.op.Op.{Op}
use Rattle.ftp_operation.specs.declared.op.Op.TheVariants as Ops
use Rattle.ftp_operation.specs.Operation.{can_be_sent, is_number}
use Rattle.ftp_direct.specs.declared.refusal.Refusal.{Refusal}
use Rattle.ftp_direct.specs.declared.refusal.Refusal.TheVariants.{BadParameter, NotLoggedIn, Unavailable, NotAllowed, TooMuch, BadName}
pub use Rattle.ftp_direct.specs.Listing.{behind, child, entry_in, entry_of, file_in, is_file, is_root, listed, size_fact}
unfoldable pub use Rattle.ftp_direct.specs.Listing.{entries_in, entry_at, names_for}
use Rattle.ftp_direct.specs.Listing.{listing_file}
use Rattle.ftp_direct.specs.Refusal.{code_of, name_refusal, listing_refusal}
use Rattle.ftp_operation.specs.Answer.{Listed, Said, Done, Path, Octets, Number, Stamp, Entry, Entries, Names as NameList, Refused, BadOperation}

-- the state: the map, the root of the account, the current directory below that root, whether the login is known, and what the account may
-- change
pub record State : Type 0 where
  pub table : Table
  pub root : Names
  pub cwd : Names
  pub known : Bool
  pub rights : Rights

abbrev pub standing : Table → Names → Names → Bool → Rights → State
standing table root cwd known rights = record { table = table; root = root; cwd = cwd; known = known; rights = rights }

-- what the account sees of the map: the part at and below its root, which is `/` in it
abbrev pub part : State → Table
part state = under state.table state.root

-- the state with another such part; the rest of the map stays
abbrev pub changed : State → Table → State
changed state new = record state { table = with_part state.table state.root new }

-- a directory stands there
abbrev pub is_directory : Option Node → Bool
is_directory None = false
is_directory (Some Dir) = true
is_directory (Some (File octets moment)) = false

-- the state at the start, by the account that the login names, if it names one: the current directory is its root, and the login is
-- known where a directory stands there
abbrev pub start : Table → Option Account → State
start table None = standing table [] [] false no_rights
start table (Some account) = standing table account.root [] (is_directory (node_at table account.root)) account.rights

-- ---- what a path text names

-- the path that a text names, read from the current directory; an empty one names that directory where a text may be left out
abbrev pub named : State → List ℕ → Names
named state text = resolved state.cwd text

abbrev pub place : Names → List ℕ → Names
place cwd text = if length text == 0 then cwd else resolved cwd text

abbrev pub named_or_here : State → List ℕ → Names
named_or_here state text = place state.cwd text

-- the octets of the file that a text names, and none where no file stands
abbrev pub file_of : State → List ℕ → List ℕ
file_of state text = octets_or_none (part state) (named state text)

-- a path past the limits of paths is refused first (own choice)
abbrev pub limited : Names → Option TreeFault → Option TreeFault
limited path refusal = if fits path then refusal else Some Faults.TooBig

-- ---- refusals, as replies tell them

-- by what stands there, or does not
abbrev pub refused_there : Option TreeFault → Option Refusal
refused_there refusal = option_map (λ fault. Unavailable) refusal

-- by the new name
abbrev pub refused_name : Option TreeFault → Option Refusal
refused_name refusal = option_map (λ fault. BadName) refusal

-- by the new name, or as all nodes are taken
abbrev pub refused_room : Option TreeFault → Option Refusal
refused_room refusal = option_map name_refusal refusal

-- by the octets
abbrev pub refused_octets : Option TreeFault → Option Refusal
refused_octets refusal = option_map (λ fault. TooMuch) refusal

-- of a listing
abbrev pub refused_listing : Option TreeFault → Option Refusal
refused_listing refusal = option_map listing_refusal refusal

-- the first of two
abbrev pub or_refused : Option Refusal → Option Refusal → Option Refusal
or_refused first second = option_or first second

-- what the account may not do (own choice)
abbrev pub barred : (may : Bool) → Option Refusal
barred true = None
barred false = Some NotAllowed

-- to put a file: the account may replace one that stands there, or put one where none does
abbrev pub barred_put : State → Names → Option Refusal
barred_put state path = barred (may_put state.rights (fits path && is_file (node_at (part state) path)))

-- the current directory is at or below a path
abbrev pub busy_refusal : State → Names → Option TreeFault
busy_refusal state path = whenever (is_within path state.cwd) Faults.Busy

-- what is looked at as something is renamed: the part without a file whose place is taken by a file, where the account may rename onto files (own
-- choice)
abbrev pub target_part : State → List ℕ → List ℕ → Table
target_part state text new = freed state.rights.onto (part state) (named state text) (named state new)

-- nothing stands there
abbrev pub absent_refusal : Option Node → Option TreeFault
absent_refusal None = Some Faults.Absent
absent_refusal (Some node) = None

-- a file of so many octets at a path
abbrev pub put_refusal : State → Names → ℕ → Option Refusal
put_refusal state path count = or_refused (refused_room (limited path (room_refusal (part state) path))) (refused_octets (octets_refusal (part state) path count))

-- no file stands where a text leads
abbrev pub refused_file : State → List ℕ → Option Refusal
refused_file state text = refused_there (limited (named state text) (file_refusal (node_at (part state) (named state text))))

-- why LIST and NLST do not list what stands there: nothing does, or, where no text is given, no directory, since they are of the current directory
-- then (RFC 959, section 4.1.3)
abbrev pub unlisted_refusal : (here : Bool) → Option Node → Option TreeFault
unlisted_refusal true node = directory_refusal node
unlisted_refusal false node = absent_refusal node

-- why what stands at a path is not listed by a command: MLSD lists directories alone, LIST and NLST a file too that a text names
abbrev pub refused_at : ListVerb → (here : Bool) → Names → Option Node → Option Refusal
refused_at Verbs.Mlsd here path node = refused_listing (limited path (directory_refusal node))
refused_at Verbs.List here path node = refused_there (limited path (unlisted_refusal here node))
refused_at Verbs.Nlst here path node = refused_there (limited path (unlisted_refusal here node))

-- the same of the path that a text names which may be left out
abbrev pub refused_text : ListVerb → State → List ℕ → Option Refusal
refused_text verb state text = refused_at verb (length text == 0) (named_or_here state text) (node_at (part state) (named_or_here state text))

-- ---- places of a file

-- the octets that a transfer in this type would have, in file structure and stream mode (RFC 3659, section 4)
abbrev pub size_in : Kind → List ℕ → ℕ
size_in Ascii octets = length (asc octets)
size_in Image octets = length octets

-- an offset counts octets of such a transfer: the place is how many first octets of the file go as so many (RFC 3659, section 5)
unfoldable pub place_in : Kind → List ℕ → ℕ → Option ℕ
place_in kind octets offset = find (λ place. size_in kind (take place octets) == offset) (range_with_len 0 (length octets + 1))

-- the longest file that is counted in type A, where its octets are read to count them (own choice)
abbrev pub count_limit : ℕ
count_limit = 67108864

-- a file of so many octets is counted: in type I its length tells all
abbrev pub is_counted : Kind → ℕ → Bool
is_counted Ascii count = nat_le count count_limit
is_counted Image count = true

-- the place that an offset leads to, where the file is counted; offset 0 is the start of each file (RFC 3659, section 5)
abbrev pub counted_place : Kind → List ℕ → ℕ → Option ℕ
counted_place kind octets offset = if is_counted kind (length octets) || (offset == 0) then place_in kind octets offset else None

-- the place of the file at a path, where no file stands that of no octets
abbrev pub place_at : State → Names → How → ℕ → Option ℕ
place_at state path how offset = counted_place how.representation.kind (octets_or_none (part state) path) offset

-- how many of its first octets an offset skips; where it leads to no place nothing is done
abbrev pub skipped : State → Names → How → ℕ → ℕ
skipped state path how offset = unwrap_or (place_at state path how offset) 0

-- an offset leads to no place: into an octet that goes as two, past the end, or into a file that is not counted
abbrev pub no_place_refusal : State → Names → How → ℕ → Option TreeFault
no_place_refusal state path how offset = whenever (not (is_some (place_at state path how offset))) Faults.BadOffset

-- a file goes as one row of octets, and not in records (RFC 959, section 3.1.2)
abbrev pub is_in_files : Structure → Bool
is_in_files Structures.File = true
is_in_files Structures.Record = false

-- an offset other than 0 has no meaning in records (own choice)
abbrev pub offset_refusal : ℕ → How → Option Refusal
offset_refusal offset how = if (offset == 0) || is_in_files how.representation.structure then None else Some BadParameter

-- the file that a text names is not had from an offset on
abbrev pub refused_from : State → List ℕ → How → ℕ → Option Refusal
refused_from state text how offset = or_refused (refused_file state text) (refused_there (no_place_refusal state (named state text) how offset))

-- ---- what is refused

-- a number that is too long to be said (own choice)
abbrev pub refused_number : ℕ → Option Refusal
refused_number number = if is_number number then None else Some Unavailable

-- the size of a file that is not counted, or too long to be said (RFC 3659, section 4; own choice)
abbrev pub refused_size : Kind → List ℕ → Option Refusal
refused_size kind octets = if is_counted kind (length octets) then refused_number (size_in kind octets) else Some Unavailable

-- the first reason by the account and the map why an operation is refused, one row an operation
abbrev pub refusal : State → Op (List ℕ) → Option Refusal
refusal state Ops.Where = None
refusal state (Ops.ChangeDir text) = refused_there (limited (named state text) (directory_refusal (node_at (part state) (named state text))))
refusal state Ops.Up = None
refusal state (Ops.MakeDir text) = or_refused (barred state.rights.make_dir) (refused_there (limited (named state text) (make_refusal (part state) (named state text))))
refusal state (Ops.RemoveDir text) =
    or_refused (barred state.rights.remove_dir)
    (refused_there (limited (named state text) (or_else (remove_refusal (part state) (named state text)) (busy_refusal state (named state text)))))
refusal state (Ops.Delete text) = or_refused (barred state.rights.delete) (refused_there (limited (named state text) (delete_refusal (part state) (named state text))))
refusal state (Ops.Rename text new) =
    or_refused (barred state.rights.rename)
    (or_refused (refused_there (limited (named state text) (or_else (source_refusal (part state) (named state text)) (busy_refusal state (named state text)))))
    (refused_name (limited (named state new) (target_refusal (target_part state text new) (named state text) (named state new)))))
refusal state (Ops.Put text octets how) = or_refused (barred_put state (named state text)) (put_refusal state (named state text) (length octets))
refusal state (Ops.Append text octets how) =
    or_refused (barred_put state (named state text)) (put_refusal state (named state text) (length (file_of state text) + length octets))
refusal state (Ops.PutFrom text offset octets how) =
    or_refused (offset_refusal offset how)
    (or_refused (barred_put state (named state text))
    (or_refused (refused_name (no_place_refusal state (named state text) how offset)) (put_refusal state (named state text) (skipped state (named state text) how offset + length octets))))
refusal state (Ops.Get text how) = refused_file state text
refusal state (Ops.GetFrom text offset how) = or_refused (offset_refusal offset how) (refused_from state text how offset)
refusal state (Ops.Peek text count how) = refused_file state text
refusal state (Ops.Size text how) = or_refused (refused_file state text) (refused_size how.representation.kind (file_of state text))
refusal state (Ops.Modified text) = refused_file state text
refusal state (Ops.Facts text) = refused_there (limited (named_or_here state text) (absent_refusal (node_at (part state) (named_or_here state text))))
refusal state (Ops.List text how) = refused_text Verbs.Mlsd state text
refusal state (Ops.Names text how) = refused_text Verbs.Nlst state text
refusal state (Ops.Text verb text how) = refused_text verb state text

-- ---- what is answered

-- a file put behind some octets that are kept
abbrev pub put : State → Names → List ℕ → List ℕ → ℕ → Said × State
put state path kept octets moment = (Done, changed state (installed (part state) path (kept ++ octets) moment))

-- the answer of an operation that is not refused, and the state after it, one row an operation
abbrev pub done : State → Op (List ℕ) → ℕ → Said × State
done state Ops.Where moment = (Path (text_of state.cwd), state)
done state (Ops.ChangeDir text) moment = (Done, record state { cwd = named state text })
done state Ops.Up moment = (Done, record state { cwd = parent state.cwd })
done state (Ops.MakeDir text) moment = (Path (text_of (named state text)), changed state (made (part state) (named state text)))
done state (Ops.RemoveDir text) moment = (Done, changed state (removed (part state) (named state text)))
done state (Ops.Delete text) moment = (Done, changed state (removed (part state) (named state text)))
done state (Ops.Rename text new) moment = (Done, changed state (moved (target_part state text new) (named state text) (named state new)))
done state (Ops.Put text octets how) moment = put state (named state text) [] octets moment
done state (Ops.Append text octets how) moment = put state (named state text) (file_of state text) octets moment
done state (Ops.PutFrom text offset octets how) moment = put state (named state text) (take (skipped state (named state text) how offset) (file_of state text)) octets moment
done state (Ops.Get text how) moment = (Octets (file_of state text), state)
done state (Ops.GetFrom text offset how) moment = (Octets (drop (skipped state (named state text) how offset) (file_of state text)), state)
done state (Ops.Peek text count how) moment = (Octets (take count (file_of state text)), state)
done state (Ops.Size text how) moment = (Number (size_in how.representation.kind (file_of state text)), state)
done state (Ops.Modified text) moment = (Stamp (unwrap_or (stamp_at (part state) (named state text)) 0), state)
done state (Ops.Facts text) moment = (Entry (entry_at (part state) (named_or_here state text) (text_of (named_or_here state text))), state)
done state (Ops.List text how) moment = (Entries (entries_in (part state) (named_or_here state text)), state)
done state (Ops.Names text how) moment = (NameList (names_for (part state) (named_or_here state text) text), state)
done state (Ops.Text verb text how) moment = (Octets (listing_file verb (part state) (named_or_here state text) text), state)

-- ---- operations in order

-- a refusal, which changes nothing, or what is done
abbrev pub chosen : Option Refusal → State → Said × State → Said × State
chosen (Some why) state done = (Refused (code_of why), state)
chosen None state done = done

-- the first refusal: of a login that is not known, by the account and the map
abbrev pub first_refusal : State → Op (List ℕ) → Option Refusal
first_refusal state op = if state.known then refusal state op else Some NotLoggedIn

-- the answer of an operation at a moment, and the state after it: one that cannot be sent changes nothing, and so does a refused one
unfoldable pub answer : State → Op (List ℕ) → ℕ → Said × State
answer state op moment = if can_be_sent op then chosen (first_refusal state op) state (done state op moment) else (BadOperation, state)

-- a list of operations, each with its moment: the answers, and the state after the last
unfoldable pub answers : State → List (Op (List ℕ) × ℕ) → List Said × State
answers state [] = ([], state)
answers state (order ∷ orders) =
    let now = answer state order.0 order.1 in
    let rest = answers now.1 orders in
    (now.0 ∷ rest.0, rest.1)

-- ---- what is due to a user whose login is known

-- the state of such a user who may change all
abbrev pub here : Table → Names → Names → State
here table root cwd = standing table root cwd true all_rights

-- the same, who may rename onto files or not
abbrev pub here_onto : Table → Names → Names → (onto : Bool) → State
here_onto table root cwd onto = standing table root cwd true (record all_rights { onto = onto })

-- the answer that is due to an operation that can be sent, and the state after it
abbrev pub due : State → Op (List ℕ) → ℕ → Said × State
due state op moment = chosen (refusal state op) state (done state op moment)
