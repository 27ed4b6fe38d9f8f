-- What each line makes of a session whose map is only the part at and below its root: the same turn, of that map.
use Rattle.std.proofs.Common.{◌≡◌, ℕ, ◌⊎◌, inl, inr, Bool, true, false, ◌||◌, List, [], Option, Some, None, refl, sym, ap, subst, ◌∙◌, true≢false}
use Rattle.std.specs.Prelude.{if◌then◌else◌}
use Rattle.ftp_command.specs.declared.command.Command.{Command}
use Rattle.ftp_command.specs.declared.command.Command.TheVariants as command
use Rattle.ftp_command.specs.declared.command.Passive.{Passive}
use Rattle.ftp_command.specs.declared.command.Passive.TheVariants.{Any, Ipv4, Ipv6, Only}
use Rattle.ftp_endpoint.specs.declared.endpoint.Endpoint.{Endpoint}
use Rattle.ftp_ends.specs.Link.{is_v6}
use Rattle.ftp_path.specs.Path.{Names, is_within}
use Rattle.ftp_operation.specs.Account.{Account, login_account}
use Rattle.ftp_operation.specs.declared.op.Op.{Op}
use Rattle.ftp_operation.specs.declared.op.Op.TheVariants as Ops
use Rattle.ftp_direct.specs.Direct.{refusal, done, is_directory}
use Rattle.ftp_direct.specs.declared.refusal.Refusal.{Refusal}
use Rattle.ftp_tree.proofs.PartLemmas.{part-stays, part-taken}
use Rattle.ftp_tree.specs.Tree.{Table, freed, made, removed, moved, node_at, under}
use Rattle.ftp_server_model.specs.Act.{act, decided, forgets, is_allowed, is_in, is_transfer}
use Rattle.ftp_server_model.specs.Ask.{size, mdtm, mlst, has_size, or_empty, size_of}
use Rattle.ftp_server_model.specs.Endpoint.{forgotten, is_taken, takes, port, asks, pasv, epsv}
use Rattle.ftp_server_model.specs.Entries.{option_facts}
use Rattle.ftp_server_model.specs.Login.{logged_out, logs_in, admits, open_account, user_named, password_checked, pass}
use Rattle.ftp_server_model.specs.Machine.{is_transferring}
use Rattle.ftp_server_model.specs.Play.{no_nodes, only_at}
use Rattle.ftp_server_model.specs.Replies.{Turn, said_octets, tells}
use Rattle.ftp_server_model.specs.Setting.{choose, is_utf8_on, opts}
use Rattle.ftp_server_model.specs.Transfer.{restart_pending, begin, transfer_starts, place_of, retr, retr_at, stor, stor_at, appe, appe_at, list, nlst, mlsd}
use Rattle.ftp_server_model.specs.View.{Accounts, Context, Session, Transfer, direct_of, as_direct, how_in_force, seen, with_seen}
use Rattle.ftp_server_model.specs.Walk.{target_seen, unless, path_of, performs, refused_source, refused_target, rnfr, renames, rnto}
use Rattle.ftp_server_model.specs.declared.heard.HeardLine.{HeardLine}
use Rattle.ftp_server_model.specs.declared.heard.HeardLine.TheVariants.{TooLong, Bad, Asks}
use Rattle.ftp_server_model.specs.declared.reply.FixedReply.{FixedReply}
use Rattle.ftp_server_model.specs.declared.reply.FixedReply.TheVariants as Texts
use Rattle.ftp_server_model.specs.declared.reply.ReplyKind.{ReplyKind}
use Rattle.ftp_server_model.specs.declared.reply.ReplyKind.TheVariants as Replies
use Rattle.ftp_server_model.specs.declared.session.Access.{Access}
use Rattle.ftp_server_model.specs.declared.session.Access.TheVariants.{Nobody, AwaitsPass, Known}
use Rattle.ftp_server_model.specs.declared.session.PassiveVerb.{PassiveVerb}
use Rattle.ftp_server_model.specs.declared.session.PassiveVerb.TheVariants as Asking
use Rattle.ftp_facts.specs.declared.name.Facts.{Facts}
use Rattle.ftp_server_model.specs.declared.session.Pending.{Pending}
use Rattle.ftp_server_model.specs.declared.session.Pending.TheVariants as Pendings
use Rattle.ftp_server_model.specs.declared.session.ServerLink.{ServerLink}
use Rattle.ftp_server_model.specs.declared.session.ServerLink.TheVariants as Data
use Rattle.laws_server.specs.one.Links.{Aims, Asks as Asked, Begins as Starts, Forgets, IsWholeBeginning, Stays, Turned, turned_so, with_link}
use Rattle.laws_server.proofs.one.LineTurns.{lines_go_beside}
use Rattle.laws_server.proofs.one.SeenLemmas.{at, changed_at, inside_at, outside_at, refused_at, seen_at, within_itself}

-- whoever is logged in has this root
abbrev pub IsIn : Names → Session → Type 0
IsIn root s = is_in s.access ≡ true → s.root ≡ root

-- a transfer is of somebody with this root
abbrev pub IsHeld : Names → Session → Type 0
IsHeld root s = is_transferring s.connection ≡ true → s.root ≡ root

-- no path outside of the root changes
abbrev pub IsApartFrom : Names → Table → Table → Type 0
IsApartFrom root old new = (path : Names) → is_within root path ≡ false → node_at new path ≡ node_at old path

-- a turn of a session, and the one of it at the root
pub record TurnAt (root : Names) (s : Session) (one its : Turn) : Type 0 where
  pub same : its ≡ (at root one.0, one.1)
  pub said : said_octets (at root one.0) one.1 ≡ said_octets one.0 one.1
  pub apart : IsApartFrom root s.table one.0.table
  pub held : IsHeld root one.0

-- the same of a session with this root
abbrev OwnTurn : Session → Turn → Turn → Type 0
OwnTurn s one its = TurnAt s.root s one its

-- every reply but an entry says nothing of the map
abbrev IsNoEntry : ReplyKind Names → Type 0
IsNoEntry (Replies.Entry path) = ⊥
IsNoEntry other = Unit {0}

said_at : (root : Names) (s : Session) (kind : ReplyKind Names) → IsNoEntry kind → said_octets (at root s) kind ≡ said_octets s kind
said_at root s Replies.Nothing other = refl
said_at root s (Replies.Fixed text) other = refl
said_at root s Replies.Here other = refl
said_at root s (Replies.Made path) other = refl
said_at root s (Replies.Restarting place) other = refl
said_at root s (Replies.Passive endpoint) other = refl
said_at root s (Replies.Extended port) other = refl
said_at root s (Replies.Size count) other = refl
said_at root s (Replies.Stamp digits) other = refl
said_at root s (Replies.Entry path) other = absurd other
said_at root s Replies.Features other = refl
said_at root s Replies.Chosen other = refl

-- a turn that leaves the map
told : (root : Names) (s new : Session) (kind : ReplyKind Names) → new.table ≡ s.table → IsNoEntry kind → IsHeld root new → TurnAt root s (new, kind) (at root new, kind)
told root s new kind same other held =
    record { same = refl; said = said_at root new kind other; apart = λ path out. ap (λ table. node_at table path) same; held = held }

-- ---- turns of somebody who is logged in

own : (s new : Session) (kind : ReplyKind Names) → new.table ≡ s.table → new.root ≡ s.root → IsNoEntry kind → OwnTurn s (new, kind) (at s.root new, kind)
own s new kind same root other = told s.root s new kind same other (λ is. root)

tells_own : (text : FixedReply) (s : Session) → OwnTurn s (tells text s) (tells text (at s.root s))
tells_own text s = own s s (Replies.Fixed text) refl refl tt

if_at : (b : Bool) (root : Names) (s : Session) (one its other others : Turn) → TurnAt root s one its → TurnAt root s other others
    → TurnAt root s (if b then one else other) (if b then its else others)
if_at true root s one its other others first second = first
if_at false root s one its other others first second = second

unless_own : (why its_why : Option Refusal) (s : Session) (turn its : Turn) → its_why ≡ why → OwnTurn s turn its → OwnTurn s (unless why s turn) (unless its_why (at s.root s) its)
unless_own why its_why s turn its same own = subst (λ w. OwnTurn s (unless why s turn) (unless w (at s.root s) its)) (sym same) (by why)
  where
    by : (why : Option Refusal) → OwnTurn s (unless why s turn) (unless why (at s.root s) its)
    by None = own
    by (Some why) = tells_own _ s

performs_own : (op : Op (List ℕ)) (kind : ReplyKind Names) (s : Session)
    → OwnTurn s (as_direct (done (direct_of s) op 0).1 s, kind) (as_direct (done (direct_of (at s.root s)) op 0).1 (at s.root s), kind)
    → OwnTurn s (performs op kind s) (performs op kind (at s.root s))
performs_own op kind s turn = unless_own (refusal (direct_of s) op) (refusal (direct_of (at s.root s)) op) s _ _ (refused_at s op) turn

-- what is seen changes alike
changes : (s : Session) (new its : Table) (kind : ReplyKind Names) → its ≡ new → IsNoEntry kind → OwnTurn s (with_seen new s, kind) (with_seen its (at s.root s), kind)
changes s new its kind same other = record {
  same = ap (λ (table : Table). (record s { table = table }, kind)) (changed_at s.table s.root new its same);
  said = said_at s.root (with_seen new s) kind other;
  apart = λ path out. part-stays s.table s.root new path out;
  held = λ is. refl;
}

takes_own : (is : Bool) (endpoint : Endpoint) (s new : Session) → new.table ≡ s.table → new.root ≡ s.root → OwnTurn s (takes is endpoint new) (takes is endpoint (at s.root new))
takes_own true endpoint s new same root = own s (record new { connection = Data.Active endpoint }) _ same root tt
takes_own false endpoint s new same root = own s new _ same root tt

asks_own : (asked : PassiveVerb) (s : Session) → OwnTurn s (asks asked s) (asks asked (at s.root s))
asks_own asked s = own s (record (forgotten s) { connection = Data.Asked asked }) Replies.Nothing refl refl tt

port_own : (context : Context) (endpoint : Endpoint) (s : Session) → OwnTurn s (port context endpoint s) (port context endpoint (at s.root s))
port_own context endpoint s = if_at s.only_extended s.root s _ _ _ _ (tells_own Texts.BadSequence s) (takes_own (is_taken context.peer endpoint) endpoint s (forgotten s) refl refl)

pasv_own : (context : Context) (s : Session) → OwnTurn s (pasv context s) (pasv context (at s.root s))
pasv_own context s =
    if_at s.only_extended s.root s _ _ _ _ (tells_own Texts.BadSequence s) (if_at (is_v6 context.here) s.root s _ _ _ _ (tells_own Texts.NoConnection s) (asks_own Asking.Pasv s))

epsv_own : (context : Context) (family : Passive) (s : Session) → OwnTurn s (epsv context family s) (epsv context family (at s.root s))
epsv_own context Any s = asks_own Asking.Epsv s
epsv_own context Ipv4 s = if_at (is_v6 context.here) s.root s _ _ _ _ (tells_own Texts.OnlyIpv6 s) (asks_own Asking.Epsv s)
epsv_own context Ipv6 s = if_at (is_v6 context.here) s.root s _ _ _ _ (asks_own Asking.Epsv s) (tells_own Texts.OnlyIpv4 s)
epsv_own context Only s = own s (record s { only_extended = true }) _ refl refl tt

begin_own : (connection : ServerLink Transfer) (transfer : Transfer) (s : Session) → OwnTurn s (begin connection transfer s) (begin connection transfer (at s.root s))
begin_own Data.Free transfer s = tells_own Texts.NoConnection s
begin_own (Data.Active endpoint) transfer s = own s (record s { connection = Data.Opening transfer _ }) _ refl refl tt
begin_own Data.Passive transfer s = own s (record s { connection = Data.Opening transfer _ }) _ refl refl tt
begin_own Data.Ready transfer s = own s (record s { connection = Data.Transferring transfer }) _ refl refl tt
begin_own (Data.Asked asked) transfer s = tells_own Texts.NoConnection s
begin_own (Data.Opening other way) transfer s = tells_own Texts.NoConnection s
begin_own (Data.Transferring other) transfer s = tells_own Texts.NoConnection s

starts_own : (why its_why : Option Refusal) (transfer its : Transfer) (s : Session) → its_why ≡ why → its ≡ transfer
    → OwnTurn s (transfer_starts why transfer s) (transfer_starts its_why its (at s.root s))
starts_own why its_why transfer its s same alike =
    subst (λ w. OwnTurn s (transfer_starts why transfer s) (transfer_starts w its (at s.root s))) (sym same)
    (subst (λ t. OwnTurn s (transfer_starts why transfer s) (transfer_starts why t (at s.root s))) (sym alike) (by why))
  where
    by : (why : Option Refusal) → OwnTurn s (transfer_starts why transfer s) (transfer_starts why transfer (at s.root s))
    by None = begin_own s.connection transfer s
    by (Some why) = own s (forgotten s) _ refl refl tt

-- a place, and what is sent and put from it on
place_own : (pending : Pending Names) (path : Names) (s : Session) → place_of pending path (at s.root s) ≡ place_of pending path s
place_own (Pendings.Restart offset) path s = rw (part-taken no_nodes s.root (under s.table s.root)) refl
place_own Pendings.Nothing path s = refl
place_own (Pendings.Rename from) path s = refl

retr_own : (place its : Option ℕ) (text : List ℕ) (s : Session) → its ≡ place → OwnTurn s (retr_at place text s) (retr_at its text (at s.root s))
retr_own place its text s same =
    subst (λ p. OwnTurn s (retr_at place text s) (retr_at p text (at s.root s))) (sym same)
    (starts_own _ _ _ _ s (rw (part-taken no_nodes s.root (under s.table s.root)) refl) (rw (part-taken no_nodes s.root (under s.table s.root)) refl))

stor_own : (place its : Option ℕ) (path : Names) (s : Session) → its ≡ place → OwnTurn s (stor_at place path s) (stor_at its path (at s.root s))
stor_own place its path s same =
    subst (λ p. OwnTurn s (stor_at place path s) (stor_at p path (at s.root s))) (sym same)
    (starts_own _ _ _ _ s (rw (part-taken no_nodes s.root (under s.table s.root)) refl) refl)

appe_own : (path : Names) (s : Session) → OwnTurn s (appe_at path s) (appe_at path (at s.root s))
appe_own path s = starts_own _ _ _ _ s (rw (part-taken no_nodes s.root (under s.table s.root)) refl) (rw (part-taken no_nodes s.root (under s.table s.root)) refl)

list_own : (text : Option (List ℕ)) (s : Session) → OwnTurn s (list text s) (list text (at s.root s))
list_own text s = starts_own _ _ _ _ s (refused_at s (Ops.Names (or_empty text) (how_in_force s.settings))) (rw (part-taken no_nodes s.root (under s.table s.root)) refl)

nlst_own : (text : Option (List ℕ)) (s : Session) → OwnTurn s (nlst text s) (nlst text (at s.root s))
nlst_own text s = starts_own _ _ _ _ s (refused_at s (Ops.Names (or_empty text) (how_in_force s.settings))) (rw (part-taken no_nodes s.root (under s.table s.root)) refl)

mlsd_own : (text : Option (List ℕ)) (s : Session) → OwnTurn s (mlsd text s) (mlsd text (at s.root s))
mlsd_own text s = starts_own _ _ _ _ s (refused_at s (Ops.List (or_empty text) (how_in_force s.settings))) (rw (part-taken no_nodes s.root (under s.table s.root)) refl)

rests_own : (why : Option Refusal) (place : ℕ) (s : Session) → OwnTurn s (restart_pending why place s) (restart_pending why place (at s.root s))
rests_own None place s = own s (record s { pending = Pendings.Restart place }) _ refl refl tt
rests_own (Some why) place s = tells_own _ s

rnfr_own : (text : List ℕ) (s : Session) → OwnTurn s (rnfr text s) (rnfr text (at s.root s))
rnfr_own text s =
    unless_own (refused_source s (path_of s text)) (refused_source (at s.root s) (path_of s text)) s _ _ (rw (part-taken no_nodes s.root (under s.table s.root)) refl)
    (own s (record s { pending = Pendings.Rename (path_of s text) }) _ refl refl tt)

renames_own : (from to : Names) (s : Session) → OwnTurn s (renames from to s) (renames from to (at s.root s))
renames_own from to s =
    unless_own (refused_target s from to) (refused_target (at s.root s) from to) s _ _
    (rw (part-taken no_nodes s.root (under s.table s.root)) refl)
    (changes s (moved (target_seen s from to) from to) (moved (target_seen (at s.root s) from to) from to) _ (ap (λ part. moved (freed s.rights.onto part from to) from to) (seen_at s)) tt)

rnto_own : (pending : Pending Names) (text : List ℕ) (s : Session) → OwnTurn s (rnto pending text s) (rnto pending text (at s.root s))
rnto_own (Pendings.Rename from) text s = renames_own from (path_of s text) s
rnto_own Pendings.Nothing text s = tells_own Texts.BadSequence s
rnto_own (Pendings.Restart place) text s = tells_own Texts.BadSequence s

-- a reply of what is seen
asked_own : (s : Session) (kind its : ReplyKind Names) → its ≡ kind → IsNoEntry kind → OwnTurn s (s, kind) (at s.root s, its)
asked_own s kind its same other = subst (λ k. OwnTurn s (s, kind) (at s.root s, k)) (sym same) (own s s kind refl refl other)

size_own : (text : List ℕ) (s : Session) → OwnTurn s (size text s) (size text (at s.root s))
size_own text s =
    if_at (has_size s.settings) s.root s _ _ _ _
    (unless_own (refusal (direct_of s) (Ops.Size text (how_in_force s.settings))) (refusal (direct_of (at s.root s)) (Ops.Size text (how_in_force s.settings))) s _ _
    (refused_at s (Ops.Size text (how_in_force s.settings)))
    (asked_own s (Replies.Size (size_of s text)) (Replies.Size (size_of (at s.root s) text)) (rw (part-taken no_nodes s.root (under s.table s.root)) refl) tt))
    (tells_own Texts.Refused s)

mdtm_own : (text : List ℕ) (s : Session) → OwnTurn s (mdtm text s) (mdtm text (at s.root s))
mdtm_own text s =
    unless_own (refusal (direct_of s) (Ops.Modified text)) (refusal (direct_of (at s.root s)) (Ops.Modified text)) s _ _ (refused_at s (Ops.Modified text))
    (asked_own s (Replies.Stamp _) (Replies.Stamp _) (rw (part-taken no_nodes s.root (under s.table s.root)) refl) tt)

entry_own : (path : Names) (s : Session) → OwnTurn s (s, Replies.Entry path) (at s.root s, Replies.Entry path)
entry_own path s =
    record { same = refl; said = rw (part-taken no_nodes s.root (under s.table s.root)) refl; apart = λ path out. refl; held = λ is. refl }

mlst_own : (text : Option (List ℕ)) (s : Session) → OwnTurn s (mlst text s) (mlst text (at s.root s))
mlst_own text s =
    unless_own (refusal (direct_of s) (Ops.Facts (or_empty text))) (refusal (direct_of (at s.root s)) (Ops.Facts (or_empty text))) s _ _ (refused_at s (Ops.Facts (or_empty text))) (entry_own _ s)

-- ---- turns of anybody, where no transfer stands

free : (root : Names) (s new : Session) (kind : ReplyKind Names) → new.table ≡ s.table → IsNoEntry kind → is_transferring new.connection ≡ false → TurnAt root s (new, kind) (at root new, kind)
free root s new kind same other calm = told root s new kind same other (λ is. absurd (true≢false (sym is ∙ calm)))

-- a login to another root than this is refused where nothing else stands
logs_at : (account : Account) (root : Names) (s : Session) → is_transferring s.connection ≡ false → IsIn root (logs_in account s).0 → TurnAt root s (logs_in account s) (logs_in account (at root s))
logs_at account root s calm is_in = by_node (is_directory (node_at s.table account.root)) refl is_in
  where
    admitted : (b : Bool) → TurnAt root s (admits b account s) (admits b account (at root s))
    admitted true = free root s (record s { access = Known; root = account.root; rights = account.rights; cwd = [] }) _ refl tt calm
    admitted false = free root s (logged_out s) _ refl tt calm

    there : (b : Bool) → is_within root account.root ≡ b → is_directory (node_at s.table account.root) ≡ false → is_directory (node_at (only_at root s.table) account.root) ≡ false
    there true inside is = ap is_directory (inside_at s.table root account.root inside) ∙ is
    there false out is = ap is_directory (outside_at s.table root account.root out)

    by_node : (b : Bool) → is_directory (node_at s.table account.root) ≡ b → IsIn root (admits b account s).0 → TurnAt root s (admits b account s) (admits (is_directory (node_at (only_at root s.table) account.root)) account (at root s))
    by_node true is known =
        let same : account.root ≡ root = known refl in
        let inside : is_within root account.root ≡ true = ap (is_within root) same ∙ within_itself root in
        let found : is_directory (node_at (only_at root s.table) account.root) ≡ true = ap is_directory (inside_at s.table root account.root inside) ∙ is in
        subst (λ b. TurnAt root s (admits true account s) (admits b account (at root s))) (sym found) (admitted true)
    by_node false is known =
        subst (λ b. TurnAt root s (admits false account s) (admits b account (at root s))) (sym (there (is_within root account.root) refl is)) (admitted false)

user_at : (found : Option Account) (name : List ℕ) (root : Names) (s : Session) → is_transferring s.connection ≡ false → IsIn root (user_named found name s).0
    → TurnAt root s (user_named found name s) (user_named found name (at root s))
user_at (Some account) name root s calm is_in = logs_at account root s calm is_in
user_at None name root s calm is_in = free root s (record (logged_out s) { access = AwaitsPass name }) _ refl tt calm

checked_at : (found : Option Account) (root : Names) (s : Session) → is_transferring s.connection ≡ false → IsIn root (password_checked found s).0 → TurnAt root s (password_checked found s) (password_checked found (at root s))
checked_at (Some account) root s calm is_in = logs_at account root s calm is_in
checked_at None root s calm is_in = free root s (logged_out s) _ refl tt calm

pass_at : (access : Access (List ℕ)) (accounts : Accounts) (word : List ℕ) (root : Names) (s : Session) → is_transferring s.connection ≡ false
    → IsIn root (pass access accounts word s).0 → TurnAt root s (pass access accounts word s) (pass access accounts word (at root s))
pass_at (AwaitsPass name) accounts word root s calm is_in = checked_at (login_account accounts name word) root s calm is_in
pass_at Nobody accounts word root s calm is_in = free root s s _ refl tt calm
pass_at Known accounts word root s calm is_in = free root s s _ refl tt calm

choose_at : (facts : Option Facts) (root : Names) (s : Session) → is_transferring s.connection ≡ false → TurnAt root s (choose facts s) (choose facts (at root s))
choose_at (Some facts) root s calm = free root s (record s { facts = facts }) _ refl tt calm
choose_at None root s calm = free root s s _ refl tt calm

opts_at : (text : List ℕ) (root : Names) (s : Session) → is_transferring s.connection ≡ false → TurnAt root s (opts text s) (opts text (at root s))
opts_at text root s calm = if_at (is_utf8_on text) root s _ _ _ _ (free root s s _ refl tt calm) (choose_at (option_facts text) root s calm)

-- ---- all commands

-- a turn at the own root is one at that root
at_own : (root : Names) (s : Session) (one : Turn) (its : Names → Turn) → s.root ≡ root → OwnTurn s one (its s.root) → TurnAt root s one (its root)
at_own root s one its same own = subst (λ r. TurnAt r s one (its r)) same own

abbrev ActsAt : Context → Pending Names → Names → Session → Command (List ℕ) → Type 0
ActsAt context pending root s c =
    (is_in s.access || false ≡ true → s.root ≡ root) → is_transferring s.connection ≡ false → is_allowed c s ≡ true → IsIn root (act context c pending s).0
    → TurnAt root s (act context c pending s) (act context c pending (at root s))

act_at : (context : Context) (pending : Pending Names) (root : Names) (s : Session) (c : Command (List ℕ)) → ActsAt context pending root s c
act_at context pending root s (command.User name) here calm may known = user_at (open_account context.accounts name) name root s calm known
act_at context pending root s (command.Pass word) here calm may known = pass_at s.access context.accounts word root s calm known
act_at context pending root s (command.Acct text) here calm may known = at_own root s _ (λ r. tells Texts.NotNeeded (at r s)) (here may) (tells_own Texts.NotNeeded s)
act_at context pending root s (command.Cwd text) here calm may known =
    at_own root s _ (λ r. act context (command.Cwd text) pending (at r s)) (here may) (performs_own (Ops.ChangeDir text) _ s (own s (record s { cwd = path_of s text }) _ refl refl tt))
act_at context pending root s command.Cdup here calm may known =
    at_own root s _ (λ r. act context command.Cdup pending (at r s)) (here may) (performs_own Ops.Up _ s (own s (as_direct (done (direct_of s) Ops.Up 0).1 s) _ refl refl tt))
act_at context pending root s command.Rein here calm may known = free root s _ _ refl tt refl
act_at context pending root s command.Quit here calm may known = free root s _ _ refl tt refl
act_at context pending root s (command.Port endpoint) here calm may known = at_own root s _ (λ r. port context endpoint (at r s)) (here may) (port_own context endpoint s)
act_at context pending root s command.Pasv here calm may known = at_own root s _ (λ r. pasv context (at r s)) (here may) (pasv_own context s)
act_at context pending root s (command.Eprt endpoint) here calm may known = at_own root s _ (λ r. port context endpoint (at r s)) (here may) (port_own context endpoint s)
act_at context pending root s (command.Epsv family) here calm may known = at_own root s _ (λ r. epsv context family (at r s)) (here may) (epsv_own context family s)
act_at context pending root s (command.Repr kind) here calm may known =
    at_own root s _ (λ r. act context (command.Repr kind) pending (at r s)) (here may) (own s (record s { settings = record s.settings { kind = kind } }) _ refl refl tt)
act_at context pending root s (command.Stru structure) here calm may known =
    at_own root s _ (λ r. act context (command.Stru structure) pending (at r s)) (here may) (own s (record s { settings = record s.settings { structure = structure } }) _ refl refl tt)
act_at context pending root s (command.Mode mode) here calm may known =
    at_own root s _ (λ r. act context (command.Mode mode) pending (at r s)) (here may) (own s (record s { settings = record s.settings { mode = mode } }) _ refl refl tt)
act_at context pending root s (command.Retr text) here calm may known =
    at_own root s _ (λ r. retr pending text (at r s)) (here may)
    (retr_own (place_of pending (path_of s text) s) (place_of pending (path_of s text) (at s.root s)) text s (place_own pending (path_of s text) s))
act_at context pending root s (command.Stor text) here calm may known =
    at_own root s _ (λ r. stor pending text (at r s)) (here may)
    (stor_own (place_of pending (path_of s text) s) (place_of pending (path_of s text) (at s.root s)) (path_of s text) s (place_own pending (path_of s text) s))
act_at context pending root s (command.Appe text) here calm may known = at_own root s _ (λ r. appe text (at r s)) (here may) (appe_own (path_of s text) s)
act_at context pending root s (command.Allo octets longest) here calm may known = at_own root s _ (λ r. tells Texts.NotNeeded (at r s)) (here may) (tells_own Texts.NotNeeded s)
act_at context pending root s (command.Rest place) here calm may known = at_own root s _ (λ r. act context (command.Rest place) pending (at r s)) (here may) (rests_own _ place s)
act_at context pending root s (command.Rnfr text) here calm may known = at_own root s _ (λ r. rnfr text (at r s)) (here may) (rnfr_own text s)
act_at context pending root s (command.Rnto text) here calm may known = at_own root s _ (λ r. rnto pending text (at r s)) (here may) (rnto_own pending text s)
act_at context pending root s command.Abor here calm may known = free root s s _ refl tt calm
act_at context pending root s (command.Dele text) here calm may known =
    at_own root s _ (λ r. act context (command.Dele text) pending (at r s)) (here may)
    (performs_own (Ops.Delete text) _ s (changes s (removed (seen s) (path_of s text)) (removed (seen (at s.root s)) (path_of s text)) _ (ap (λ part. removed part (path_of s text)) (seen_at s)) tt))
act_at context pending root s (command.Rmd text) here calm may known =
    at_own root s _ (λ r. act context (command.Rmd text) pending (at r s)) (here may)
    (performs_own (Ops.RemoveDir text) _ s (changes s (removed (seen s) (path_of s text)) (removed (seen (at s.root s)) (path_of s text)) _ (ap (λ part. removed part (path_of s text)) (seen_at s)) tt))
act_at context pending root s (command.Mkd text) here calm may known =
    at_own root s _ (λ r. act context (command.Mkd text) pending (at r s)) (here may)
    (performs_own (Ops.MakeDir text) _ s (changes s (made (seen s) (path_of s text)) (made (seen (at s.root s)) (path_of s text)) _ (ap (λ part. made part (path_of s text)) (seen_at s)) tt))
act_at context pending root s command.Pwd here calm may known = at_own root s _ (λ r. act context command.Pwd pending (at r s)) (here may) (own s s Replies.Here refl refl tt)
act_at context pending root s (command.List text) here calm may known = at_own root s _ (λ r. list text (at r s)) (here may) (list_own text s)
act_at context pending root s (command.Nlst text) here calm may known = at_own root s _ (λ r. nlst text (at r s)) (here may) (nlst_own text s)
act_at context pending root s (command.Mlst text) here calm may known = at_own root s _ (λ r. mlst text (at r s)) (here may) (mlst_own text s)
act_at context pending root s (command.Mlsd text) here calm may known = at_own root s _ (λ r. mlsd text (at r s)) (here may) (mlsd_own text s)
act_at context pending root s (command.Size text) here calm may known = at_own root s _ (λ r. size text (at r s)) (here may) (size_own text s)
act_at context pending root s (command.Mdtm text) here calm may known = at_own root s _ (λ r. mdtm text (at r s)) (here may) (mdtm_own text s)
act_at context pending root s command.Syst here calm may known = free root s s _ refl tt calm
act_at context pending root s command.Stat here calm may known = at_own root s _ (λ r. tells Texts.Serving (at r s)) (here may) (tells_own Texts.Serving s)
act_at context pending root s (command.Help text) here calm may known = free root s s _ refl tt calm
act_at context pending root s command.Noop here calm may known = free root s s _ refl tt calm
act_at context pending root s command.Feat here calm may known = free root s s Replies.Features refl tt calm
act_at context pending root s (command.Opts text) here calm may known = opts_at text root s calm

refused_in : (c : Command (List ℕ)) (root : Names) (s : Session) → is_transferring s.connection ≡ false → TurnAt root s (tells Texts.NotLoggedIn (forgets c s)) (tells Texts.NotLoggedIn (forgets c (at root s)))
refused_in c root s calm = by (is_transfer c)
  where
    by : (b : Bool) → TurnAt root s (tells Texts.NotLoggedIn (if b then forgotten s else s)) (tells Texts.NotLoggedIn (if b then forgotten (at root s) else at root s))
    by true = free root s (forgotten s) _ refl tt refl
    by false = free root s s _ refl tt calm

or_false : (b : Bool) → (b || false) ≡ true → b ≡ true
or_false true is = refl
or_false false is = is

pub decided_at : (context : Context) (heard : HeardLine (List ℕ)) (pending : Pending Names) (root : Names) (s : Session) → IsIn root s → is_transferring s.connection ≡ false
    → IsIn root (decided context heard pending s).0 → TurnAt root s (decided context heard pending s) (decided context heard pending (at root s))
decided_at context TooLong pending root s here calm known = free root s s _ refl tt calm
decided_at context (Bad fault) pending root s here calm known = free root s s _ refl tt calm
decided_at context (Asks c) pending root s here calm known = by (is_allowed c s) refl known
  where
    by : (b : Bool) → is_allowed c s ≡ b → IsIn root (if b then act context c pending s else tells Texts.NotLoggedIn (forgets c s)).0
        → TurnAt root s (if b then act context c pending s else tells Texts.NotLoggedIn (forgets c s)) (if b then act context c pending (at root s) else tells Texts.NotLoggedIn (forgets c (at root s)))
    by true may known = act_at context pending root s c (λ is. here (or_false (is_in s.access) is)) calm may known
    by false may known = refused_in c root s calm

-- ---- whoever is logged in stays so with his root, or no transfer stands

abbrev pub Begins : Session → Session → Type 0
Begins s new = ((new.access ≡ s.access) × (new.root ≡ s.root)) ⊎ (is_transferring new.connection ≡ false)

begin_begins : (connection : ServerLink Transfer) (transfer : Transfer) (s : Session) → Begins s (begin connection transfer s).0
begin_begins Data.Free transfer s = inl (refl, refl)
begin_begins (Data.Active endpoint) transfer s = inl (refl, refl)
begin_begins Data.Passive transfer s = inl (refl, refl)
begin_begins Data.Ready transfer s = inl (refl, refl)
begin_begins (Data.Asked asked) transfer s = inl (refl, refl)
begin_begins (Data.Opening other way) transfer s = inl (refl, refl)
begin_begins (Data.Transferring other) transfer s = inl (refl, refl)

-- by what a line does to the data connection
begins_so : (turned : Turned) (turn : Turn) (s : Session) → is_transferring s.connection ≡ false → IsWholeBeginning turned turn s
    → Begins s (turned_so turned s.connection s.closing turn).0
begins_so Stays turn s calm whole = inr calm
begins_so Forgets turn s calm whole = inr refl
begins_so (Asked verb) turn s calm whole = inr refl
begins_so (Aims endpoint) turn s calm whole = inr refl
begins_so (Starts transfer) turn s calm whole =
    subst (λ (turn : Turn). Begins s (begin s.connection transfer (with_link s.connection s.closing turn.0)).0) (sym whole) (begin_begins s.connection transfer s)

pub decided_begins : (context : Context) (heard : HeardLine (List ℕ)) (pending : Pending Names) (s : Session) → is_transferring s.connection ≡ false → Begins s (decided context heard pending s).0
decided_begins context heard pending s calm =
    let of = lines_go_beside context heard pending s in
    subst (λ (turn : Turn). Begins s turn.0) (sym (of.is s.connection s.closing)) (begins_so of.turned of.turn s calm of.whole)
