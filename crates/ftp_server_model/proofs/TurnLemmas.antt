-- What each line keeps within limits: a lemma for each definition that makes a turn, and one for each verb.
use Rattle.std.proofs.Common.{◌≡◌, ℕ, ◌<◌, ◌^◌, inl, inr, List, [], ◌∷◌, Bool, true, false, Option, Some, None, refl, sym, ap, subst, ◌∙◌, length}
use Rattle.std.specs.Prelude.{if◌then◌else◌, ◌==◌}
use Rattle.std.specs.Option.{unwrap_or}
use Rattle.std.specs.List.{find, list_all}
use Rattle.std.proofs.lemmas.Bool.{and_parts, cond_both, ltb-true}
use Rattle.ftp_command.specs.Argument.{IsName, SaysPathOrNone, argument}
use Rattle.ftp_endpoint.specs.Number.{SaysNumber}
use Rattle.ftp_endpoint.proofs.NumberLemmas.{value_lt}
use Rattle.ftp_command.specs.Command.{Says, SaysValue, value_of}
use Rattle.ftp_command.specs.Line.{IfGiven, IsShort}
use Rattle.ftp_command.specs.declared.command.Command.{Command}
use Rattle.ftp_command.specs.declared.command.Command.TheVariants as command
use Rattle.ftp_command.specs.declared.value.Value.{Value}
use Rattle.ftp_command.specs.declared.value.Value.TheVariants as value
use Rattle.ftp_command.specs.declared.command.Passive.{Passive}
use Rattle.ftp_command.specs.declared.command.Passive.TheVariants.{Any, Ipv4, Ipv6, Only}
use Rattle.ftp_endpoint.specs.declared.endpoint.Endpoint.{Endpoint}
use Rattle.ftp_ends.specs.Link.{is_v6}
use Rattle.ftp_path.specs.Path.{IsPathText, Names, fits, resolved, text_of as path_text}
use Rattle.ftp_operation.specs.Account.{Account, login_account}
use Rattle.ftp_operation.specs.declared.op.Op.{Op}
use Rattle.ftp_operation.specs.declared.op.Op.TheVariants as Ops
use Rattle.ftp_operation.specs.Operation.{is_number}
use Rattle.ftp_direct.specs.Direct.{State, refusal, done, barred, limited, refused_there, refused_room, refused_size, or_refused, place, named_or_here, is_directory, file_of}
use Rattle.ftp_direct.proofs.PlaceLemmas.{told_size}
use Rattle.ftp_direct.specs.declared.refusal.Refusal.{Refusal}
use Rattle.ftp_direct.specs.declared.refusal.Refusal.TheVariants as Refusals
use Rattle.ftp_tree.specs.Tree.{moved, node_at}
use Rattle.ftp_tree.specs.declared.fault.TreeFault.{TreeFault}
use Rattle.ftp_tree.specs.declared.fault.TreeFault.TheVariants as Faults
use Rattle.ftp_server_model.specs.Act.{act, forgets, is_allowed, is_transfer, fault_text}
use Rattle.ftp_server_model.specs.Ask.{size, mlst, has_size, size_of, stamp_of, or_empty}
use Rattle.ftp_server_model.specs.Endpoint.{forgotten, is_taken, takes, port, asks, pasv, epsv}
use Rattle.ftp_server_model.specs.Entries.{option_facts}
use Rattle.ftp_server_model.specs.Login.{logged_out, admits, is_open, open_account, user_named, password_checked, pass, rein, quit}
use Rattle.ftp_server_model.specs.Machine.{is_connection_busy}
use Rattle.ftp_server_model.specs.Replies.{Turn, IsTold, tells}
use Rattle.ftp_server_model.specs.Setting.{choose, is_utf8_on, opts}
use Rattle.ftp_server_model.specs.Told.{is_path, CanBeSaid, ValueCanBeSaid, ReadCanBeHeard, PendingKeeps, TransferKeeps, ConnectionKeeps, Keeps, AreWithinLimits, TurnKeeps, LineKeeps}
use Rattle.ftp_server_model.specs.Transfer.{restart_pending, begin, transfer_starts, stor_at, appe_at, refused_to_hold, place_of}
use Rattle.ftp_server_model.specs.View.{Accounts, Context, Session, Transfer, direct_of, as_direct, how_in_force, seen, with_seen}
use Rattle.ftp_server_model.specs.Walk.{target_seen, unless, path_of, performs, refused_source, refused_target, rnto}
use Rattle.ftp_server_model.specs.declared.heard.HeardLine.TheVariants.{TooLong, Bad, Asks}
use Rattle.ftp_server_model.specs.declared.reply.FixedReply.{FixedReply}
use Rattle.ftp_server_model.specs.declared.reply.FixedReply.TheVariants as Texts
use Rattle.ftp_server_model.specs.declared.reply.ReplyKind.{ReplyKind}
use Rattle.ftp_server_model.specs.declared.reply.ReplyKind.TheVariants as Replies
use Rattle.ftp_server_model.specs.declared.session.Access.{Access}
use Rattle.ftp_server_model.specs.declared.session.Access.TheVariants.{Nobody, AwaitsPass, Known}
use Rattle.ftp_server_model.specs.declared.session.PassiveVerb.{PassiveVerb}
use Rattle.ftp_server_model.specs.declared.session.PassiveVerb.TheVariants as Asking
use Rattle.ftp_facts.specs.declared.name.Facts.{Facts}
use Rattle.ftp_server_model.specs.declared.session.Pending.{Pending}
use Rattle.ftp_server_model.specs.declared.session.Pending.TheVariants as Pendings
use Rattle.ftp_server_model.specs.declared.session.ServerLink.{ServerLink}
use Rattle.ftp_server_model.specs.declared.session.ServerLink.TheVariants as Data
use Rattle.ftp_server_model.specs.declared.session.Keep.TheVariants as Keeps
use Rattle.ftp_server_model.specs.declared.session.Transfer.TheVariants as Transfers
use Rattle.ftp_server_model.proofs.PathTexts.{is_path-text, is_path-led, is_path-parent}

-- ---- refusals that say that a path is within the limits

none_is_some : {A : Type 0} {B : Type 0} {a : A} → Some a ≡ None → B
none_is_some is = absurd (cc)

within_by : (fit : Bool) (why : Option TreeFault) → refused_there (if fit then why else Some Faults.TooBig) ≡ None → fit ≡ true
within_by true why is = refl
within_by false why is = none_is_some is

there_fits : (path : Names) (why : Option TreeFault) → refused_there (limited path why) ≡ None → fits path ≡ true
there_fits path why is = within_by (fits path) why is

room_by : (fit : Bool) (why : Option TreeFault) → refused_room (if fit then why else Some Faults.TooBig) ≡ None → fit ≡ true
room_by true why is = refl
room_by false why is = none_is_some is

room_fits : (path : Names) (why : Option TreeFault) → refused_room (limited path why) ≡ None → fits path ≡ true
room_fits path why is = room_by (fits path) why is

second_none : (first second : Option Refusal) → or_refused first second ≡ None → second ≡ None
second_none None second is = is
second_none (Some why) second is = none_is_some is

number_by : (small : Bool) (n : ℕ) → is_number n ≡ small → (if small then None else Some Refusals.Unavailable) ≡ None → n < 10 ^ 18
number_by true n small is = ltb-true n (10 ^ 18) small
number_by false n small is = none_is_some is

-- ---- sessions

pub forgotten_keeps : (s : Session) → Keeps s → Keeps (forgotten s)
forgotten_keeps s k = record { access = k.access; root = k.root; cwd = k.cwd; pending = k.pending; connection = tt }

logged_out_keeps : (s : Session) → Keeps s → Keeps (logged_out s)
unfolding fits path_text
logged_out_keeps s k = record { access = tt; root = refl; cwd = refl; pending = k.pending; connection = k.connection }

enters_keeps : (account : Account) (s : Session) → fits account.root ≡ true → Keeps s
    → Keeps (record s { access = Known; root = account.root; rights = account.rights; cwd = [] })
unfolding fits path_text
enters_keeps account s within k = record { access = tt; root = within; cwd = refl; pending = k.pending; connection = k.connection }

moved_keeps : (state : State) (s : Session) → is_path state.cwd ≡ true → Keeps s → Keeps (as_direct state s)
moved_keeps state s led k = record { access = k.access; root = k.root; cwd = led; pending = k.pending; connection = k.connection }

pub pending_keeps : (pending : Pending Names) (s : Session) → PendingKeeps pending → Keeps s → Keeps (record s { pending = pending })
pending_keeps pending s kept k = record { access = k.access; root = k.root; cwd = k.cwd; pending = kept; connection = k.connection }

pub connection_keeps : (connection : ServerLink Transfer) (s : Session) → ConnectionKeeps connection → Keeps s → Keeps (record s { connection = connection })
connection_keeps connection s kept k = record { access = k.access; root = k.root; cwd = k.cwd; pending = k.pending; connection = kept }

-- ---- turns

-- a fixed reply
tells_keeps : (text : FixedReply) (s : Session) → Keeps s → TurnKeeps (tells text s)
tells_keeps text s k = record { told = tt; session = k; brief = inr tt }

-- another reply, where no transfer stands
says_keeps : (s : Session) (kind : ReplyKind Names) → Keeps s → is_connection_busy s.connection ≡ false → IsTold s kind → TurnKeeps (s, kind)
says_keeps s kind k idle told = record { told = told; session = k; brief = inl idle }

unless_keeps : (why : Option Refusal) (s : Session) (turn : Turn) → Keeps s → (why ≡ None → TurnKeeps turn) → TurnKeeps (unless why s turn)
unless_keeps None s turn k kept = kept refl
unless_keeps (Some why) s turn k kept = tells_keeps _ s k

performs_keeps : (op : Op (List ℕ)) (kind : ReplyKind Names) (s : Session) → Keeps s → is_connection_busy s.connection ≡ false
    → (refusal (direct_of s) op ≡ None → is_path (done (direct_of s) op 0).1.cwd ≡ true)
    → (refusal (direct_of s) op ≡ None → IsTold (as_direct (done (direct_of s) op 0).1 s) kind)
    → TurnKeeps (performs op kind s)
performs_keeps op kind s k idle led told =
    unless_keeps (refusal (direct_of s) op) s _ k
    (λ is. record { told = told is; session = moved_keeps (done (direct_of s) op 0).1 s (led is) k; brief = inl idle })

-- where a path text leads
led : (s : Session) (text : List ℕ) → Keeps s → IsPathText text → fits (path_of s text) ≡ true → is_path (path_of s text) ≡ true
led s text k is within = is_path-led s.cwd text k.cwd is within

-- ---- who is logged in

admits_keeps : (is : Bool) (account : Account) (s : Session) → fits account.root ≡ true → Keeps s → TurnKeeps (admits is account s)
admits_keeps true account s within k = tells_keeps Texts.LoggedIn _ (enters_keeps account s within k)
admits_keeps false account s within k = tells_keeps Texts.LoginRefused _ (logged_out_keeps s k)

-- the root of an account that is found is within the limits
found_fits : (test : Account → Bool) (accounts : Accounts) (found : Account) → AreWithinLimits accounts → find test accounts ≡ Some found → fits found.root ≡ true
found_fits test [] found within is = none_is_some (sym is)
found_fits test (account ∷ accounts) found within is =
    let both = and_parts (fits account.root) (list_all (λ account. fits account.root) accounts) within in
    by_test (test account) both.0 (λ is. found_fits test accounts found both.1 is) is
  where
    by_test : (b : Bool) → fits account.root ≡ true → (find test accounts ≡ Some found → fits found.root ≡ true)
        → (if b then Some account else find test accounts) ≡ Some found → fits found.root ≡ true
    by_test true here below is = let same : account ≡ found = cc in ap (λ (a : Account). fits a.root) (sym same) ∙ here
    by_test false here below is = below is

user_by : (found : Option Account) (name : List ℕ) (s : Session) → ((account : Account) → found ≡ Some account → fits account.root ≡ true) → IsName name → Keeps s
    → TurnKeeps (user_named found name s)
user_by (Some account) name s within is k = admits_keeps (is_directory (node_at s.table account.root)) account s (within account refl) k
user_by None name s within is k =
    let out = logged_out_keeps s k in
    tells_keeps Texts.PasswordNeeded _ (record { access = is; root = out.root; cwd = out.cwd; pending = out.pending; connection = out.connection })

checked_by : (found : Option Account) (s : Session) → ((account : Account) → found ≡ Some account → fits account.root ≡ true) → Keeps s → TurnKeeps (password_checked found s)
checked_by (Some account) s within k = admits_keeps (is_directory (node_at s.table account.root)) account s (within account refl) k
checked_by None s within k = tells_keeps Texts.LoginRefused _ (logged_out_keeps s k)

login_fits : (accounts : Accounts) (name word : List ℕ) (account : Account) → AreWithinLimits accounts → login_account accounts name word ≡ Some account
    → fits account.root ≡ true
unfolding login_account
login_fits accounts name word account within is = found_fits _ accounts account within is

pass_keeps : (access : Access (List ℕ)) (accounts : Accounts) (word : List ℕ) (s : Session) → AreWithinLimits accounts → Keeps s → TurnKeeps (pass access accounts word s)
pass_keeps (AwaitsPass name) accounts word s within k = checked_by (login_account accounts name word) s (λ account is. login_fits accounts name word account within is) k
pass_keeps Nobody accounts word s within k = tells_keeps Texts.BadSequence s k
pass_keeps Known accounts word s within k = tells_keeps Texts.BadSequence s k

rein_keeps : (s : Session) → Keeps s → TurnKeeps (rein s)
rein_keeps s k =
    let out = logged_out_keeps (forgotten s) (forgotten_keeps s k) in
    tells_keeps Texts.Ready _ (record { access = out.access; root = out.root; cwd = out.cwd; pending = out.pending; connection = out.connection })

quit_keeps : (s : Session) → Keeps s → TurnKeeps (quit s)
quit_keeps s k = tells_keeps Texts.Goodbye _ (record { access = k.access; root = k.root; cwd = k.cwd; pending = k.pending; connection = tt })

-- ---- endpoints

takes_keeps : (is : Bool) (endpoint : Endpoint) (s : Session) → Keeps s → TurnKeeps (takes is endpoint s)
takes_keeps true endpoint s k = tells_keeps Texts.EndpointTaken _ (connection_keeps (Data.Active endpoint) s tt k)
takes_keeps false endpoint s k = tells_keeps Texts.BadParameter s k

asks_keeps : (asked : PassiveVerb) (s : Session) → Keeps s → TurnKeeps (asks asked s)
asks_keeps asked s k = record { told = tt; session = connection_keeps (Data.Asked asked) _ tt (forgotten_keeps s k); brief = inr tt }

port_keeps : (context : Context) (endpoint : Endpoint) (s : Session) → Keeps s → TurnKeeps (port context endpoint s)
port_keeps context endpoint s k =
    cond_both s.only_extended _ _ TurnKeeps (λ is. tells_keeps Texts.BadSequence s k) (λ is. takes_keeps (is_taken context.peer endpoint) endpoint (forgotten s) (forgotten_keeps s k))

pasv_keeps : (context : Context) (s : Session) → Keeps s → TurnKeeps (pasv context s)
pasv_keeps context s k =
    cond_both s.only_extended _ _ TurnKeeps (λ is. tells_keeps Texts.BadSequence s k)
    (λ is. cond_both (is_v6 context.here) _ _ TurnKeeps (λ is. tells_keeps Texts.NoConnection s k) (λ is. asks_keeps Asking.Pasv s k))

epsv_keeps : (context : Context) (family : Passive) (s : Session) → Keeps s → TurnKeeps (epsv context family s)
epsv_keeps context Any s k = asks_keeps Asking.Epsv s k
epsv_keeps context Ipv4 s k = cond_both (is_v6 context.here) _ _ TurnKeeps (λ is. tells_keeps Texts.OnlyIpv6 s k) (λ is. asks_keeps Asking.Epsv s k)
epsv_keeps context Ipv6 s k = cond_both (is_v6 context.here) _ _ TurnKeeps (λ is. asks_keeps Asking.Epsv s k) (λ is. tells_keeps Texts.OnlyIpv4 s k)
epsv_keeps context Only s k = tells_keeps Texts.OnlyExtended _ (record { access = k.access; root = k.root; cwd = k.cwd; pending = k.pending; connection = k.connection })

-- ---- settings

choose_keeps : (facts : Option Facts) (s : Session) → Keeps s → is_connection_busy s.connection ≡ false → TurnKeeps (choose facts s)
choose_keeps (Some facts) s k idle =
    says_keeps (record s { facts = facts }) Replies.Chosen (record { access = k.access; root = k.root; cwd = k.cwd; pending = k.pending; connection = k.connection }) idle tt
choose_keeps None s k idle = tells_keeps Texts.BadArgument s k

opts_keeps : (text : List ℕ) (s : Session) → Keeps s → is_connection_busy s.connection ≡ false → TurnKeeps (opts text s)
opts_keeps text s k idle =
    cond_both (is_utf8_on text) _ _ TurnKeeps (λ is. tells_keeps Texts.Utf8Set s k) (λ is. choose_keeps (option_facts text) s k idle)

-- ---- transfers

begin_keeps : (connection : ServerLink Transfer) (transfer : Transfer) (s : Session) → TransferKeeps transfer → Keeps s → TurnKeeps (begin connection transfer s)
begin_keeps Data.Free transfer s kept k = tells_keeps Texts.NoConnection s k
begin_keeps (Data.Active endpoint) transfer s kept k = tells_keeps Texts.Opens _ (connection_keeps (Data.Opening transfer _) s kept k)
begin_keeps Data.Passive transfer s kept k = tells_keeps Texts.Opens _ (connection_keeps (Data.Opening transfer _) s kept k)
begin_keeps Data.Ready transfer s kept k = tells_keeps Texts.Opens _ (connection_keeps (Data.Transferring transfer) s kept k)
begin_keeps (Data.Asked asked) transfer s kept k = tells_keeps Texts.NoConnection s k
begin_keeps (Data.Opening other way) transfer s kept k = tells_keeps Texts.NoConnection s k
begin_keeps (Data.Transferring other) transfer s kept k = tells_keeps Texts.NoConnection s k

starts_keeps : (why : Option Refusal) (transfer : Transfer) (s : Session) → (why ≡ None → TransferKeeps transfer) → Keeps s → TurnKeeps (transfer_starts why transfer s)
starts_keeps None transfer s kept k = begin_keeps s.connection transfer s (kept refl) k
starts_keeps (Some why) transfer s kept k = tells_keeps _ _ (forgotten_keeps s k)

stor_keeps : (place : Option ℕ) (path : Names) (s : Session) → Keeps s → TurnKeeps (stor_at place path s)
stor_keeps place path s k =
    starts_keeps _ (Transfers.Upload path (Keeps.First (unwrap_or place 0)) _) s (λ is. room_fits path _ (second_none _ (refused_to_hold s path) (second_none _ _ is))) k

appe_keeps : (path : Names) (s : Session) → Keeps s → TurnKeeps (appe_at path s)
appe_keeps path s k = starts_keeps _ (Transfers.Upload path _ _) s (λ is. room_fits path _ (second_none _ (refused_to_hold s path) is)) k

rests_keeps : (why : Option Refusal) (place : ℕ) (s : Session) → IsShort place → Keeps s → is_connection_busy s.connection ≡ false → TurnKeeps (restart_pending why place s)
rests_keeps None place s short k idle = says_keeps _ (Replies.Restarting place) (pending_keeps (Pendings.Restart place) s short k) idle short
rests_keeps (Some why) place s short k idle = tells_keeps _ s k

-- ---- names

rnto_keeps : (pending : Pending Names) (text : List ℕ) (s : Session) → Keeps s → TurnKeeps (rnto pending text s)
rnto_keeps (Pendings.Rename from) text s k =
    let to : Names = path_of s text in
    let renamed : Session = with_seen (moved (target_seen s from to) from to) s in
    unless_keeps (refused_target s from to) s (tells Texts.Done renamed) k
    (λ is. tells_keeps Texts.Done renamed (record { access = k.access; root = k.root; cwd = k.cwd; pending = k.pending; connection = k.connection }))
rnto_keeps Pendings.Nothing text s k = tells_keeps Texts.BadSequence s k
rnto_keeps (Pendings.Restart place) text s k = tells_keeps Texts.BadSequence s k

-- ---- what is asked

size_keeps : (text : List ℕ) (s : Session) → Keeps s → is_connection_busy s.connection ≡ false → TurnKeeps (size text s)
size_keeps text s k idle =
    cond_both (has_size s.settings) _ _ TurnKeeps
    (λ is. unless_keeps (refusal (direct_of s) (Ops.Size text (how_in_force s.settings))) s _ k
    (λ none. says_keeps s (Replies.Size (size_of s text)) k idle (number_by _ (size_of s text) refl (told_size s.settings.kind (file_of (direct_of s) text) (second_none _ (refused_size s.settings.kind (file_of (direct_of s) text)) none)))))
    (λ is. tells_keeps Texts.Refused s k)

-- an argument that may be left out
here_by : (empty : Bool) (s : Session) (text : List ℕ) → Keeps s → (empty ≡ false → IsPathText text) → fits (if empty then s.cwd else resolved s.cwd text) ≡ true
    → is_path (if empty then s.cwd else resolved s.cwd text) ≡ true
here_by true s text k is within = k.cwd
here_by false s text k is within = is_path-led s.cwd text k.cwd (is refl) within

given_text : (text : Option (List ℕ)) → IfGiven IsPathText text → (length (or_empty text) == 0) ≡ false → IsPathText (or_empty text)
given_text None is some = absurd (let e : true ≡ false = some in cc)
given_text (Some text) is some = is

mlst_keeps : (text : Option (List ℕ)) (s : Session) → IfGiven IsPathText text → Keeps s → is_connection_busy s.connection ≡ false → TurnKeeps (mlst text s)
mlst_keeps text s given k idle =
    let path : Names = named_or_here (direct_of s) (or_empty text) in
    unless_keeps (refusal (direct_of s) (Ops.Facts (or_empty text))) s _ k
    (λ none. says_keeps s (Replies.Entry path) k idle
    (is_path-text path (here_by (length (or_empty text) == 0) s (or_empty text) k (given_text text given) (there_fits path _ none))))

-- ---- all commands

act_keeps : (context : Context) (c : Command (List ℕ)) (pending : Pending Names) (s : Session) → AreWithinLimits context.accounts → CanBeSaid c → PendingKeeps pending → Keeps s
    → is_connection_busy s.connection ≡ false → TurnKeeps (act context c pending s)
act_keeps context (command.User name) pending s within said kept k idle =
    user_by (open_account context.accounts name) name s (λ account is. found_fits (is_open name) context.accounts account within is) said k
act_keeps context (command.Pass word) pending s within said kept k idle = pass_keeps s.access context.accounts word s within k
act_keeps context (command.Acct text) pending s within said kept k idle = tells_keeps Texts.NotNeeded s k
act_keeps context (command.Cwd text) pending s within said kept k idle =
    performs_keeps (Ops.ChangeDir text) (Replies.Fixed Texts.Done) s k idle (λ is. led s text k said (there_fits (path_of s text) _ is)) (λ is. tt)
act_keeps context command.Cdup pending s within said kept k idle =
    performs_keeps Ops.Up (Replies.Fixed Texts.Done) s k idle (λ is. is_path-parent s.cwd k.cwd) (λ is. tt)
act_keeps context command.Rein pending s within said kept k idle = rein_keeps s k
act_keeps context command.Quit pending s within said kept k idle = quit_keeps s k
act_keeps context (command.Port endpoint) pending s within said kept k idle = port_keeps context endpoint s k
act_keeps context command.Pasv pending s within said kept k idle = pasv_keeps context s k
act_keeps context (command.Eprt endpoint) pending s within said kept k idle = port_keeps context endpoint s k
act_keeps context (command.Epsv family) pending s within said kept k idle = epsv_keeps context family s k
act_keeps context (command.Repr kind) pending s within said kept k idle =
    tells_keeps Texts.TypeSet _ (record { access = k.access; root = k.root; cwd = k.cwd; pending = k.pending; connection = k.connection })
act_keeps context (command.Stru structure) pending s within said kept k idle =
    tells_keeps Texts.StructureSet _ (record { access = k.access; root = k.root; cwd = k.cwd; pending = k.pending; connection = k.connection })
act_keeps context (command.Mode mode) pending s within said kept k idle =
    tells_keeps Texts.ModeSet _ (record { access = k.access; root = k.root; cwd = k.cwd; pending = k.pending; connection = k.connection })
act_keeps context (command.Retr text) pending s within said kept k idle = starts_keeps _ (Transfers.Download _) s (λ is. tt) k
act_keeps context (command.Stor text) pending s within said kept k idle = stor_keeps (place_of pending (path_of s text) s) (path_of s text) s k
act_keeps context (command.Appe text) pending s within said kept k idle = appe_keeps (path_of s text) s k
act_keeps context (command.Allo octets longest) pending s within said kept k idle = tells_keeps Texts.NotNeeded s k
act_keeps context (command.Rest place) pending s within said kept k idle = rests_keeps _ place s said k idle
act_keeps context (command.Rnfr text) pending s within said kept k idle =
    unless_keeps (refused_source s (path_of s text)) s _ k
    (λ is. tells_keeps Texts.NewName _ (pending_keeps (Pendings.Rename (path_of s text)) s (there_fits (path_of s text) _ (second_none (barred s.rights.rename) _ is)) k))
act_keeps context (command.Rnto text) pending s within said kept k idle = rnto_keeps pending text s k
act_keeps context command.Abor pending s within said kept k idle = tells_keeps Texts.AbortDone s k
act_keeps context (command.Dele text) pending s within said kept k idle =
    performs_keeps (Ops.Delete text) (Replies.Fixed Texts.Done) s k idle (λ is. k.cwd) (λ is. tt)
act_keeps context (command.Rmd text) pending s within said kept k idle =
    performs_keeps (Ops.RemoveDir text) (Replies.Fixed Texts.Done) s k idle (λ is. k.cwd) (λ is. tt)
act_keeps context (command.Mkd text) pending s within said kept k idle =
    performs_keeps (Ops.MakeDir text) (Replies.Made (path_of s text)) s k idle (λ is. k.cwd)
    (λ is. is_path-text (path_of s text) (led s text k said (there_fits (path_of s text) _ (second_none (barred s.rights.make_dir) _ is))))
act_keeps context command.Pwd pending s within said kept k idle = says_keeps s Replies.Here k idle (is_path-text s.cwd k.cwd)
act_keeps context (command.List text) pending s within said kept k idle = starts_keeps _ (Transfers.Listing _) s (λ is. tt) k
act_keeps context (command.Nlst text) pending s within said kept k idle = starts_keeps _ (Transfers.Listing _) s (λ is. tt) k
act_keeps context (command.Mlst text) pending s within said kept k idle = mlst_keeps text s said k idle
act_keeps context (command.Mlsd text) pending s within said kept k idle = starts_keeps _ (Transfers.Listing _) s (λ is. tt) k
act_keeps context (command.Size text) pending s within said kept k idle = size_keeps text s k idle
act_keeps context (command.Mdtm text) pending s within said kept k idle =
    unless_keeps (refusal (direct_of s) (Ops.Modified text)) s _ k (λ is. says_keeps s (Replies.Stamp _) k idle (stamp_of s text, refl))
act_keeps context command.Syst pending s within said kept k idle = tells_keeps Texts.System s k
act_keeps context command.Stat pending s within said kept k idle = tells_keeps Texts.Serving s k
act_keeps context (command.Help text) pending s within said kept k idle = tells_keeps Texts.Help s k
act_keeps context command.Noop pending s within said kept k idle = tells_keeps Texts.Fine s k
act_keeps context command.Feat pending s within said kept k idle = says_keeps s Replies.Features k idle tt
act_keeps context (command.Opts text) pending s within said kept k idle = opts_keeps text s k idle

forgets_keeps : (c : Command (List ℕ)) (s : Session) → Keeps s → Keeps (forgets c s)
forgets_keeps c s k = cond_both (is_transfer c) _ _ Keeps (λ is. forgotten_keeps s k) (λ is. k)

pub line_keeps : LineKeeps
line_keeps context TooLong pending s within said kept k idle = tells_keeps Texts.LineTooLong s k
line_keeps context (Bad fault) pending s within said kept k idle = tells_keeps (fault_text fault) s k
line_keeps context (Asks c) pending s within said kept k idle =
    cond_both (is_allowed c s) _ _ TurnKeeps (λ is. act_keeps context c pending s within said kept k idle) (λ is. tells_keeps Texts.NotLoggedIn _ (forgets_keeps c s k))

-- ---- lines that are read

optional_said : (a : List ℕ) (text : Option (List ℕ)) → SaysPathOrNone a text → IfGiven IsPathText text
optional_said a None is = tt
optional_said a (Some text) is = is.1

number_said : (text : List ℕ) (n : ℕ) → SaysNumber text n → IsShort n
number_said text n is = subst IsShort (sym is.1) (value_lt text is.0.0.1 is.0.1)

value_said : (a : List ℕ) (x : Value (List ℕ)) → SaysValue a x → ValueCanBeSaid x
value_said a (value.Name name) says = says.1
value_said a (value.Password word) says = says.1
value_said a (value.Path text) says = says.1
value_said a (value.PathOrNone text) says = optional_said _ text says
value_said a (value.Listed text) says = optional_said _ text says
value_said a (value.Number number) says = number_said _ number says
value_said a other says = tt

said_so : (line : List ℕ) (c : Command (List ℕ)) → Says line c → CanBeSaid c
said_so line c says = value_said (argument line) (value_of c) says.1

pub read_can_be_heard : ReadCanBeHeard
read_can_be_heard line TooLong read = tt
read_can_be_heard line (Bad fault) read = tt
read_can_be_heard line (Asks c) read = said_so line c read
