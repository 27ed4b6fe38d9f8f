-- The worked rows of a server, computed.
use Rattle.std.proofs.Common.{◌≡◌, ℕ, List, [], ◌∷◌, ◌++◌, ◌⊎◌, Bool, true, false, Option, Some, None, inl, inr, refl, sym, ap, ◌∙◌, arith, length}
use Rattle.std.specs.Prelude.{codes, decimal, drop, filter_map, unwrap_or}
use Rattle.ftp_command.specs.declared.command.Command.TheVariants as command
use Rattle.ftp_settings.specs.declared.representation.Kind.TheVariants as Kinds
use Rattle.ftp_settings.specs.declared.representation.Structure.TheVariants as Structures
use Rattle.ftp_settings.specs.Representation.{defaults}
use Rattle.ftp_command.specs.declared.command.Passive.TheVariants as Families
use Rattle.ftp_operation.specs.Account.{Account, login_account}
use Rattle.ftp_secret.specs.Secret.{plain}
use Rattle.ftp_operation.specs.Rights.{all_rights}
use Rattle.ftp_direct.specs.declared.refusal.Refusal.{Refusal}
use Rattle.ftp_direct.specs.declared.refusal.Refusal.TheVariants.{Unavailable}
use Rattle.ftp_direct.specs.Direct.{entries_in, entry_at, listed as listed_entry, is_directory, names_for, refusal, refused_file, file_of, place_in, or_refused, refused_there}
use Rattle.ftp_operation.specs.declared.op.Op.TheVariants as Ops
use Rattle.ftp_path.specs.Path.{resolved, fits, parent, text_of, is_within, Names}
use Rattle.ftp_tree.specs.Map.{Node, Dir, File}
use Rattle.ftp_tree.specs.Tree.{source_refusal, target_refusal, rename_refusal, takes_place, freed, moved, octets_at, node_at, children, under, with_part, Table}
use Rattle.ftp_tree.proofs.KeepLaws.{takes-freed}
use Rattle.ftp_tree.proofs.OntoLemmas.{free-freed}
use Rattle.ftp_server_model.specs.View.{Transfer, Session, View, all_facts, direct_of, how_in_force, seen}
use Rattle.ftp_server_model.specs.Replies.{reply_octets, reply_of}
use Rattle.ftp_server_model.specs.Entries.{listed_line}
use Rattle.ftp_server_model.specs.Walk.{unless}
use Rattle.ftp_server_model.specs.declared.reply.ReplyKind.TheVariants as Replies
use Rattle.ftp_server_model.specs.Login.{admits}
use Rattle.ftp_server_model.specs.Transfer.{transfer_starts, file_wire, misplaced, path_or_here, place_of, sent_from, stor_at}
use Rattle.ftp_server_model.specs.Listing.{entry_lines, listing_wire, list_lines, name_lines, list_lines_at, child_line, node_line, right_in, month_word}
use Rattle.ftp_facts.specs.Calendar.{year_and_place, month_and_place}
use Rattle.ftp_facts.specs.Moment.{four_digits}
use Rattle.ftp_server_model.specs.Failing.{GiveFails, WaitingFails}
use Rattle.ftp_server_model.specs.Machine.{obeyed, completed, faulted, turned, owes, waited, with_session}
use Rattle.ftp_server_model.specs.Calls.{connection_of, gives_control, listening, listen_refused, data_opened, data_refused, gives_data, takes_given, to_give, wants}
use Rattle.ftp_ends.specs.RowWords.{here, elsewhere}
use Rattle.ftp_server_model.specs.Rows.{RowEvent, after_events, server, member, logged_in_at, at, at_directory, of, five, asks, opened, refused, LoginAnswered, OpenLogin, RootMissing, RootIsTop, MadeBelowRoot, WrongPassword, OrderOfDecisions, BeforeLogin, FeaturesTold, Utf8Chosen, FactsChosen, FeaturesBehindOptions, EntryTold, RecordsSent, NamesSent, EntriesSent, OnlyExtended, Reinitialized, QuitHeard, ByFamily, ForeignEndpoint, RefusedOpening, RefusedListen, ForeignOpener, RenameDone, OntoRefused, OntoDone, LateRename, DownloadSent, DownloadCut, RestartSent, LateRestart, RestartInAscii, RestartInPair, RestartInRecords, ListingSent, DirectoryReplaced, EarlyAbort, WaitingLine}
use Rattle.ftp_server_model.specs.declared.heard.HeardLine.{HeardLine}
use Rattle.ftp_server_model.specs.declared.session.Pending.TheVariants as Pendings
use Rattle.ftp_server_model.specs.declared.session.ServerLink.TheVariants as Data
use Rattle.ftp_server_model.specs.declared.session.Transfer.TheVariants as Transfers
use Rattle.ftp_server_model.proofs.RowNumbers.{of_0, of_1, of_2, of_3, of_5, of_1930, six_is}

pub login : LoginAnswered
unfolding obeyed login_account
login table root dir = rw dir refl

pub open_login : OpenLogin
unfolding obeyed
open_login table root dir = rw dir refl

-- a login to an account, by whether its root is a directory
abbrev pub entering : Bool → Account → View → View
entering is_there account v = completed (turned (admits is_there account v.session) v)

-- the two accounts of the rows
abbrev pub guest : Names → Account
guest root = record { user = codes "guest"; pass = Some (plain (codes "secret")); root = root; rights = all_rights }

abbrev pub anonymous : Names → Account
anonymous root = record { user = codes "anonymous"; pass = None; root = root; rights = all_rights }

pub missing_root : RootMissing
unfolding obeyed login_account
missing_root table root none =
    let absent : is_directory (node_at table root) ≡ false = ap is_directory none in
    let v : View = server table root [] in
    let rest : List RowEvent = asks (command.Pass (codes "secret")) ∷ asks command.Pwd ∷ [] in
    let w : View = after_events (asks (command.User (codes "guest")) ∷ []) (entering false (anonymous root) v) in
    ap (λ b. (after_events (asks (command.User (codes "guest")) ∷ rest) (entering b (anonymous root) v)).owed) absent
    ∙ ap (λ b. (after_events (asks command.Pwd ∷ []) (entering b (guest root) w)).owed) absent

pub wrong_password : WrongPassword
unfolding obeyed login_account
wrong_password table root = refl

pub order : OrderOfDecisions
unfolding obeyed
order table root = refl

pub before_login : BeforeLogin
unfolding obeyed
before_login table root = refl

pub features : FeaturesTold
unfolding obeyed
features table root = refl

pub utf8 : Utf8Chosen
unfolding obeyed
utf8 table root = refl

pub facts : FactsChosen
unfolding obeyed
facts table root = refl

pub features_behind_options : FeaturesBehindOptions
unfolding obeyed
features_behind_options table root = refl

pub only_extended : OnlyExtended
unfolding obeyed
only_extended table root = refl

pub reinitialized : Reinitialized
unfolding obeyed
reinitialized table root = refl

pub quit : QuitHeard
unfolding obeyed gives_control
quit table root = (refl, refl, refl, refl)

pub by_family : ByFamily
unfolding obeyed
by_family table root = (refl, refl, refl)

pub refused_listen : RefusedListen
unfolding obeyed listen_refused
refused_listen table root = refl

pub foreign_endpoint : ForeignEndpoint
unfolding obeyed fits text_of
foreign_endpoint table root top = rw top refl

pub top : RootIsTop
unfolding obeyed fits text_of resolved parent
top table root dir = rw dir refl

pub made : MadeBelowRoot
unfolding obeyed fits text_of resolved
made table root free = (rw free refl, rw free refl)

pub late_rename : LateRename
unfolding obeyed fits text_of resolved source_refusal is_within
late_rename table root d = rw d refl

pub rename : RenameDone
unfolding obeyed fits text_of resolved source_refusal rename_refusal target_refusal freed is_within parent
rename table root top d e fit = (rw d (rw d (rw e (rw top (rw fit refl)))), rw d (rw d (rw e (rw top (rw fit refl)))))

pub onto_refused : OntoRefused
unfolding obeyed fits text_of resolved source_refusal rename_refusal target_refusal freed is_within
onto_refused table root octets other moment later d e = (rw d (rw d (rw e refl)), rw d (rw d (rw e refl)))

-- the file takes the place of the other, which nothing refuses
pub onto_done : OntoDone
unfolding obeyed fits text_of resolved source_refusal takes_place is_within
onto_done table root octets other moment later tree d e =
    let part = under table root in
    let from = of (codes "d") in
    let to = of (codes "e") in
    let takes : takes_place part from to ≡ true = rw d (rw e refl) in
    let none = free-freed part from to tree refl takes in
    (rw d (rw d (rw none refl)), rw d (rw d (rw none (ap (λ part. with_part table root (moved part from to)) (takes-freed part from to takes)))))

pub active_download : DownloadSent
unfolding obeyed fits text_of resolved octets_at data_opened gives_data
active_download table root moment f = (rw f refl, rw f refl, rw f refl, rw f refl, rw f refl)

-- a call behind which no line waits leaves its step
still : (waiting : Option (HeardLine (List ℕ))) (v w : View) → waiting ≡ None → (w ≡ waited waiting v) ⊎ WaitingFails waiting v w → w ≡ v
still None v w is (inl same) = same
still None v w is (inr fails) = absurd fails
still (Some heard) v w is late = absurd (cc)

-- what comes of a failure behind two of three octets, where no line waits
abbrev cut_of : View → View
cut_of v = faulted (takes_given (connection_of v.session) 2 v)

cuts : (v : View) → length (to_give v) ≡ 3 → (cut_of v).waiting ≡ None
    → GiveFails 2 v (cut_of v) × ((w : View) → GiveFails 2 v w → w ≡ cut_of v) × ((w : View) → GiveFails 3 v w → ⊥)
cuts v three none = (
  (omega (arith, three), inl (sym (ap (λ waiting. waited waiting (cut_of v)) none))),
  λ w fails. still (cut_of v).waiting (cut_of v) w none fails.1,
  λ w fails. absurd (omega (arith, three, fails.0)),
)

pub cut_download : DownloadCut
unfolding obeyed fits text_of resolved octets_at data_opened
cut_download table root moment f =
    let v : View = member table root (asks (command.Repr Kinds.Image) ∷ asks (command.Port (at here)) ∷ asks (command.Retr (codes "f")) ∷ opened here ∷ []) in
    let one = cuts v (rw f refl) (rw f refl) in
    (one.0, one.1, one.2, rw f refl, rw f refl, rw f refl, rw f refl)

-- ---- a command that the map decides: its code first, and then the rest computes

-- the root can be listed
root_code : (s : Session) → node_at (seen s) [] ≡ Some Dir → s.cwd ≡ [] → refusal (direct_of s) (Ops.Names [] (how_in_force s.settings)) ≡ None
unfolding fits text_of
root_code s top home = rw home (rw top refl)

-- the view behind a transfer command, by its code
abbrev pub started : View → Transfer → Option Refusal → View
started v transfer code = completed (turned (transfer_starts code transfer v.session) v)

abbrev listed : View → Option Refusal → View
listed v code = started v (Transfers.Listing (listing_wire v.session.settings.mode (list_lines (seen v.session) (path_or_here v.session None)))) code

pub early_abort : EarlyAbort
unfolding obeyed fits text_of
early_abort table root top =
    let v : View = member table root (asks (command.Port (at here)) ∷ []) in
    let more : View → View = λ w. after_events (asks command.Abor ∷ []) w in
    let code : refusal (direct_of v.session) (Ops.Names [] (how_in_force v.session.settings)) ≡ None = root_code v.session top refl in
    (ap (λ c. (more (listed v c)).owed) code, ap (λ c. wants (more (listed v c))) code)

pub waiting_line : WaitingLine
unfolding obeyed fits text_of data_refused
waiting_line table root top =
    let v : View = member table root (asks (command.Port (at here)) ∷ []) in
    let more : View → View = λ w. after_events (asks command.Noop ∷ refused ∷ []) w in
    let code : refusal (direct_of v.session) (Ops.Names [] (how_in_force v.session.settings)) ≡ None = root_code v.session top refl in
    ap (λ c. (more (listed v c)).owed) code

-- the view behind the port that PASV, and EPSV, asked for, by the text of what is told
abbrev pub passive_view : Table → Names → List ℕ → View
passive_view table root six =
    let v : View = member table root (asks command.Pasv ∷ []) in
    owes (reply_octets (reply_of 227 (codes "Entering Passive Mode (" ++ (six ++ codes ")")))) (with_session (record v.session { connection = Data.Passive }) v)

abbrev extended_view : Table → Names → List ℕ → View
extended_view table root number =
    let v : View = member table root (asks (command.Epsv Families.Any) ∷ []) in
    owes (reply_octets (reply_of 229 (codes "Entering Extended Passive Mode (|||" ++ (number ++ codes "|)")))) (with_session (record v.session { connection = Data.Passive }) v)

pub refused_opening : RefusedOpening
unfolding obeyed fits text_of listening data_refused
refused_opening table root top =
    let v : View = passive_view table root (codes "127,0,0,1,7,138") in
    let w : View = after_events (refused ∷ []) (listed v None) in
    ap (λ six. (after_events (asks (command.List None) ∷ refused ∷ asks (command.List None) ∷ []) (passive_view table root six)).owed) six_is
    ∙ ap (λ c. (after_events (refused ∷ asks (command.List None) ∷ []) (listed v c)).owed) (root_code v.session top refl)
    ∙ ap (λ c. (listed w c).owed) (root_code w.session top refl)

pub foreign_opener : ForeignOpener
unfolding obeyed fits text_of listening data_opened
foreign_opener table root top =
    let v : View = extended_view table root (codes "1930") in
    let rest : List RowEvent = opened elsewhere ∷ [] in
    let code : refusal (direct_of v.session) (Ops.Names [] (how_in_force v.session.settings)) ≡ None = root_code v.session top refl in (
      ap (λ n. (after_events (asks (command.List None) ∷ rest) (extended_view table root n)).owed) of_1930 ∙ ap (λ c. (after_events rest (listed v c)).owed) code,
      ap (λ n. wants (after_events (asks (command.List None) ∷ rest) (extended_view table root n))) of_1930 ∙ ap (λ c. wants (after_events rest (listed v c))) code,
    )

-- what stood for the line before is used up
abbrev taken : View → View
taken v = with_session (record v.session { pending = Pendings.Nothing }) v

-- a file is there
file_code : (s : Session) (octets : List ℕ) (moment : ℕ) → s.cwd ≡ [] → node_at (seen s) (of (codes "f")) ≡ Some (File octets moment)
    → refused_file (direct_of s) (codes "f") ≡ None
unfolding fits text_of resolved
file_code s octets moment home f = rw home (rw f refl)

file_octets : (s : Session) (octets : List ℕ) (moment : ℕ) → s.cwd ≡ [] → node_at (seen s) (of (codes "f")) ≡ Some (File octets moment)
    → file_of (direct_of s) (codes "f") ≡ octets
unfolding octets_at fits text_of resolved
file_octets s octets moment home f = rw home (rw f refl)

-- what is to be given behind RETR and the opening of the data connection, by its place, by whether the file is there, and by its octets
abbrev fetched : View → Option ℕ → Option Refusal → List ℕ → List ℕ
fetched v place code octets =
    to_give (after_events (opened here ∷ []) (started v (Transfers.Download (file_wire v.session.settings (unwrap_or place 0) (drop (unwrap_or place 0) octets)))
    (or_refused code (refused_there (misplaced place)))))

-- the view behind a REST, by the text of what is told
abbrev rested : View → ℕ → List ℕ → View
rested v offset number =
    owes (reply_octets (reply_of 350 (codes "Restarting at " ++ number))) (with_session (record v.session { pending = Pendings.Restart offset }) v)

abbrev image_view : Table → Names → View
image_view table root = member table root (asks (command.Repr Kinds.Image) ∷ asks (command.Port (at here)) ∷ [])

abbrev ascii_view : Table → Names → View
ascii_view table root = member table root (asks (command.Port (at here)) ∷ [])

abbrev digits : List ℕ
digits = codes "0123456789"

-- the fifth octet, in type I
image_place : (s : Session) (moment : ℕ) → s.settings ≡ record defaults { kind = Kinds.Image } → node_at (seen s) (of (codes "f")) ≡ Some (File digits moment)
    → place_of (Pendings.Restart 5) (of (codes "f")) s ≡ Some 5
unfolding octets_at place_in
image_place s moment kind f = rw kind (rw f refl)

pub restart : RestartSent
unfolding obeyed fits text_of resolved data_opened
restart table root moment f =
    let v : View = taken (rested (image_view table root) 5 (codes "5")) in
    ap (λ n. to_give (after_events (asks (command.Retr (codes "f")) ∷ opened here ∷ []) (rested (image_view table root) 5 n))) of_5
    ∙ ap (λ p. fetched v p (refused_file (direct_of v.session) (codes "f")) (file_of (direct_of v.session) (codes "f"))) (image_place v.session moment refl f)
    ∙ ap (λ c. fetched v (Some 5) c (file_of (direct_of v.session) (codes "f"))) (file_code v.session digits moment refl f)
    ∙ ap (λ o. fetched v (Some 5) None o) (file_octets v.session digits moment refl f)

-- two lines
abbrev two : List ℕ
two = 97 ∷ 10 ∷ 98 ∷ 10 ∷ []

pub records : RecordsSent
unfolding obeyed fits text_of resolved data_opened
records table root moment f =
    let v : View = member table root (asks (command.Stru Structures.Record) ∷ asks (command.Port (at here)) ∷ []) in
    ap (λ c. fetched v (Some 0) c (file_of (direct_of v.session) (codes "f"))) (file_code v.session two moment refl f)
    ∙ ap (λ o. fetched v (Some 0) None o) (file_octets v.session two moment refl f)

pub late_restart : LateRestart
unfolding obeyed fits text_of resolved data_opened
late_restart table root moment f =
    let v : View = after_events (asks command.Noop ∷ []) (rested (image_view table root) 5 (codes "5")) in
    ap (λ n. to_give (after_events (asks command.Noop ∷ asks (command.Retr (codes "f")) ∷ opened here ∷ []) (rested (image_view table root) 5 n))) of_5
    ∙ ap (λ c. fetched v (Some 0) c (file_of (direct_of v.session) (codes "f"))) (file_code v.session digits moment refl f)
    ∙ ap (λ o. fetched v (Some 0) None o) (file_octets v.session digits moment refl f)

-- three octets in type A are two of the file; two of them are none
ascii_place : (s : Session) (moment : ℕ) → s.settings ≡ defaults → node_at (seen s) (of (codes "f")) ≡ Some (File five moment)
    → place_of (Pendings.Restart 3) (of (codes "f")) s ≡ Some 2
unfolding octets_at place_in
ascii_place s moment kind f = rw kind (rw f refl)

no_place : (s : Session) (moment : ℕ) → s.settings ≡ defaults → node_at (seen s) (of (codes "f")) ≡ Some (File five moment)
    → place_of (Pendings.Restart 2) (of (codes "f")) s ≡ None
unfolding octets_at place_in
no_place s moment kind f = rw kind (rw f refl)

pub restart_in_ascii : RestartInAscii
unfolding obeyed fits text_of resolved data_opened
restart_in_ascii table root moment f =
    let v : View = taken (rested (ascii_view table root) 3 (codes "3")) in
    ap (λ n. to_give (after_events (asks (command.Retr (codes "f")) ∷ opened here ∷ []) (rested (ascii_view table root) 3 n))) of_3
    ∙ ap (λ p. fetched v p (refused_file (direct_of v.session) (codes "f")) (file_of (direct_of v.session) (codes "f"))) (ascii_place v.session moment refl f)
    ∙ ap (λ c. fetched v (Some 2) c (file_of (direct_of v.session) (codes "f"))) (file_code v.session five moment refl f)
    ∙ ap (λ o. fetched v (Some 2) None o) (file_octets v.session five moment refl f)

-- RETR and STOR by a place that there is not
abbrev not_fetched : View → Option ℕ → Option Refusal → View
not_fetched v place code =
    completed (turned (transfer_starts (or_refused code (refused_there (misplaced place)))
    (Transfers.Download (sent_from v.session (codes "f") (unwrap_or place 0))) v.session) v)

abbrev not_stored : View → Option ℕ → View
not_stored v place = completed (turned (stor_at place (of (codes "f")) v.session) v)

pub restart_in_pair : RestartInPair
unfolding obeyed fits text_of resolved
restart_in_pair table root moment f =
    let e : View = logged_in_at table root in
    let v : View = taken (rested e 2 (codes "2")) in
    let again : View → View = λ w. taken (rested w 2 (codes "2")) in
    let w : View = again (not_fetched v None None) in
    ap (λ n. (after_events (asks (command.Retr (codes "f")) ∷ asks (command.Rest 2) ∷ asks (command.Stor (codes "f")) ∷ []) (rested e 2 n)).owed) of_2
    ∙ ap (λ p. (after_events (asks (command.Rest 2) ∷ asks (command.Stor (codes "f")) ∷ []) (not_fetched v p (refused_file (direct_of v.session) (codes "f")))).owed)
    (no_place v.session moment refl f)
    ∙ ap (λ c. (after_events (asks (command.Rest 2) ∷ asks (command.Stor (codes "f")) ∷ []) (not_fetched v None c)).owed) (file_code v.session five moment refl f)
    ∙ ap (λ n. (after_events (asks (command.Stor (codes "f")) ∷ []) (rested (not_fetched v None None) 2 n)).owed) of_2
    ∙ ap (λ p. (not_stored w p).owed) (no_place w.session moment refl f)

pub restart_in_records : RestartInRecords
unfolding obeyed
restart_in_records table root =
    let v : View = member table root (asks (command.Stru Structures.Record) ∷ asks (command.Rest 3) ∷ []) in
    ap (λ n. (rested v 0 n).owed) of_0

-- ---- LIST

-- the directory can be listed
dir_code : (s : Session) → node_at (seen s) (of (codes "d")) ≡ Some Dir → s.cwd ≡ [] → refusal (direct_of s) (Ops.Names (codes "d") (how_in_force s.settings)) ≡ None
unfolding fits text_of resolved
dir_code s d home = rw home (rw d refl)

-- the one line, by the texts of its size and its day
abbrev x_line : List ℕ → List ℕ → List ℕ
x_line size day =
    codes "-rw-r--r--" ++ (codes " 1 ftp ftp " ++ (right_in 10 size
    ++ ((32 ∷ (month_word 1 ++ 32 ∷ (right_in 2 day ++ 32 ∷ 32 ∷ four_digits 2000))) ++ 32 ∷ codes "x")))

x_lines : (table : Table) → node_at table (of (codes "d")) ≡ Some Dir → children table (of (codes "d")) ≡ codes "x" ∷ []
    → node_at table (codes "d" ∷ codes "x" ∷ []) ≡ Some (File (codes "abc") 946684800)
    → list_lines table (of (codes "d")) ≡ x_line (decimal 3) (decimal 1) ∷ []
unfolding year_and_place month_and_place fits text_of
x_lines table d kids x =
    ap (λ node. list_lines_at node table (of (codes "d"))) d ∙ ap (λ names. filter_map (child_line table (of (codes "d"))) names) kids
    ∙ ap (λ node. node_line (codes "x") (unwrap_or node Dir) ∷ []) x

pub listing : ListingSent
unfolding obeyed fits text_of resolved data_opened
listing table root d kids x =
    let v : View = member table root (asks (command.Port (at here)) ∷ []) in
    let sent : Option Refusal → List (List ℕ) → List ℕ = λ c texts. to_give (after_events (opened here ∷ []) (started v (Transfers.Listing (listing_wire v.session.settings.mode texts)) c)) in
    ap (λ c. sent c (list_lines (under table root) (of (codes "d")))) (dir_code v.session d refl)
    ∙ ap (λ texts. sent None texts) (x_lines (under table root) d kids x)
    ∙ ap (λ n. sent None (x_line n (decimal 1) ∷ [])) of_3 ∙ ap (λ n. sent None (x_line (codes "3") n ∷ [])) of_1

-- a file at the current directory is not listed without an argument
file_here_code : (s : Session) (path : Names) (octets : List ℕ) (moment : ℕ) → node_at (seen s) path ≡ Some (File octets moment) → s.cwd ≡ path → fits path ≡ true
    → refusal (direct_of s) (Ops.Names [] (how_in_force s.settings)) ≡ Some Unavailable
file_here_code s path octets moment f home fit = rw home (rw fit (rw f refl))

pub no_directory : DirectoryReplaced
unfolding obeyed fits text_of
no_directory table root octets moment f =
    let v : View = at_directory (of (codes "d")) (member table root []) in
    let code : refusal (direct_of v.session) (Ops.Names [] (how_in_force v.session.settings)) ≡ Some Unavailable =
    file_here_code v.session (of (codes "d")) octets moment f refl refl in
    let names : List (List ℕ) = name_lines (seen v.session) (path_or_here v.session None) [] in (
      ap (λ c. (listed v c).owed) code,
      ap (λ c. (started v (Transfers.Listing (listing_wire v.session.settings.mode names)) c).owed) code,
    )

-- ---- NLST and MLSD

x_names : (table : Table) → node_at table (of (codes "d")) ≡ Some Dir → children table (of (codes "d")) ≡ codes "x" ∷ []
    → node_at table (codes "d" ∷ codes "x" ∷ []) ≡ Some (File (codes "abc") 946684800)
    → name_lines table (of (codes "d")) (codes "d") ≡ codes "d/x" ∷ []
unfolding names_for fits text_of
x_names table d kids x = rw d (rw kids (rw x refl))

pub names : NamesSent
unfolding obeyed fits text_of resolved data_opened
names table root d kids x =
    let v : View = member table root (asks (command.Port (at here)) ∷ []) in
    let sent : Option Refusal → List (List ℕ) → List ℕ = λ c texts. to_give (after_events (opened here ∷ []) (started v (Transfers.Listing (listing_wire v.session.settings.mode texts)) c)) in
    ap (λ c. sent c (name_lines (under table root) (of (codes "d")) (codes "d"))) (dir_code v.session d refl)
    ∙ ap (λ texts. sent None texts) (x_names (under table root) d kids x)

-- MLSD lists a directory alone
directory_code : (s : Session) → node_at (seen s) (of (codes "d")) ≡ Some Dir → s.cwd ≡ [] → refusal (direct_of s) (Ops.List (codes "d") (how_in_force s.settings)) ≡ None
unfolding fits text_of resolved
directory_code s d home = rw home (rw d refl)

x_entries : (table : Table) → children table (of (codes "d")) ≡ codes "x" ∷ [] → node_at table (codes "d" ∷ codes "x" ∷ []) ≡ Some Dir
    → entry_lines all_facts table (of (codes "d")) ≡ codes "Type=dir;Perm=cdeflmp; x" ∷ []
unfolding entries_in entry_at fits text_of
x_entries table kids x = rw kids (rw x refl)

pub entries : EntriesSent
unfolding obeyed fits text_of resolved data_opened
entries table root d kids x =
    let v : View = member table root (asks (command.Port (at here)) ∷ []) in
    let sent : Option Refusal → List (List ℕ) → List ℕ = λ c texts. to_give (after_events (opened here ∷ []) (started v (Transfers.Listing (listing_wire v.session.settings.mode texts)) c)) in
    ap (λ c. sent c (entry_lines all_facts (under table root) (of (codes "d")))) (directory_code v.session d refl)
    ∙ ap (λ texts. sent None texts) (x_entries (under table root) kids x)

-- ---- MLST

-- something stands there
there_code : (s : Session) → node_at (seen s) (of (codes "d")) ≡ Some Dir → s.cwd ≡ [] → refusal (direct_of s) (Ops.Facts (codes "d")) ≡ None
unfolding fits text_of resolved
there_code s d home = rw home (rw d refl)

-- what is told, by whether it is refused, and by what stands there
abbrev entry_told : View → Option Refusal → View
entry_told v code = completed (turned (unless code v.session (v.session, Replies.Entry (of (codes "d")))) v)

abbrev node_told : View → Option Node → List ℕ
node_told v node =
    v.owed ++ reply_octets (record {
      code = 250;
      lines = codes "Listing" ∷ (32 ∷ listed_line all_facts (listed_entry (codes "/d") (of (codes "d")) (unwrap_or node Dir))) ∷ codes "End" ∷ [];
    })

pub entry : EntryTold
unfolding obeyed fits text_of resolved entry_at
entry table root d =
    let v : View = logged_in_at table root in
    ap (λ c. (entry_told v c).owed) (there_code v.session d refl) ∙ ap (λ node. node_told v node) d
