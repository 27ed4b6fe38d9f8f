-- What a line does to a server's data connection, to the login and to the map: command by command.
use Rattle.std.proofs.Common.{◌≡◌, ℕ, ◌≤◌, Bool, true, false, List, length, Option, Some, None, refl, sym, ap, subst, arith, ◌∙◌}
use Rattle.std.specs.Prelude.{if◌then◌else◌}
use Rattle.std.specs.List.{find}
use Rattle.std.specs.Option.{unwrap_or}
use Rattle.ftp_command.specs.declared.command.Command.{Command}
use Rattle.ftp_command.specs.declared.command.Command.TheVariants as command
use Rattle.ftp_command.specs.declared.command.Passive.{Passive}
use Rattle.ftp_command.specs.declared.command.Passive.TheVariants.{Any, Ipv4, Ipv6, Only}
use Rattle.ftp_direct.specs.Direct.{barred, barred_put, done, is_directory, named_or_here, offset_refusal, or_refused, refusal, refused_file, refused_name, refused_there}
use Rattle.ftp_direct.specs.declared.refusal.Refusal.{Refusal}
use Rattle.ftp_direct.proofs.RightsLemmas.{first_is_none, wanting}
use Rattle.ftp_endpoint.specs.declared.endpoint.Endpoint.{Endpoint}
use Rattle.ftp_ends.specs.Link.{is_v6}
use Rattle.ftp_operation.specs.Account.{Account, is_open, knows, login_account, open_account}
use Rattle.ftp_operation.specs.Rights.{no_rights}
use Rattle.ftp_operation.specs.declared.rights.Rights.{Rights}
use Rattle.ftp_operation.specs.declared.op.Op.{Op}
use Rattle.ftp_operation.specs.declared.op.Op.TheVariants as Ops
use Rattle.ftp_path.specs.Path.{Names}
use Rattle.ftp_tree.proofs.UnderLemmas.{moved-limits}
use Rattle.ftp_tree.specs.Tree.{made, moved, node_at, octets_or_none, removed}
use Rattle.ftp_facts.specs.Moment.{moment_digits}
use Rattle.ftp_server_model.specs.Act.{act, decided, is_allowed, is_transfer}
use Rattle.ftp_server_model.specs.Ask.{has_size, or_empty, size_of, stamp_of}
use Rattle.ftp_server_model.specs.Endpoint.{asks, epsv, forgotten, is_taken, pasv, port, takes}
use Rattle.ftp_server_model.specs.Entries.{option_facts}
use Rattle.ftp_server_model.specs.Login.{admits, password_checked, pass, user_named}
use Rattle.ftp_server_model.specs.Replies.{Turn, tells}
use Rattle.ftp_server_model.specs.Setting.{choose, is_utf8_on}
use Rattle.ftp_server_model.specs.Transfer.{appe_at, begin, misplaced, place_of, refused_to_hold, restart_pending, retr, retr_at, sent_from, stor, stor_at, transfer_starts}
use Rattle.ftp_server_model.specs.View.{Accounts, Context, Session, Transfer, as_direct, direct_of, how_in_force, seen, with_seen}
use Rattle.ftp_server_model.specs.Walk.{path_of, performs, refusal_text, refused_source, refused_target, rnto, target_seen, unless}
use Rattle.ftp_server_model.specs.declared.heard.HeardLine.{HeardLine}
use Rattle.ftp_server_model.specs.declared.heard.HeardLine.TheVariants.{TooLong, Bad, Asks as AsksFor}
use Rattle.ftp_server_model.specs.declared.reply.FixedReply.TheVariants as Texts
use Rattle.ftp_server_model.specs.declared.reply.ReplyKind.{ReplyKind}
use Rattle.ftp_server_model.specs.declared.reply.ReplyKind.TheVariants as Replies
use Rattle.ftp_server_model.specs.declared.session.Access.{Access}
use Rattle.ftp_server_model.specs.declared.session.Access.TheVariants.{Nobody, AwaitsPass, Known}
use Rattle.ftp_facts.specs.declared.name.Facts.{Facts}
use Rattle.ftp_server_model.specs.declared.session.Keep.TheVariants as Keeps
use Rattle.ftp_server_model.specs.declared.session.PassiveVerb.{PassiveVerb}
use Rattle.ftp_server_model.specs.declared.session.PassiveVerb.TheVariants as Asking
use Rattle.ftp_server_model.specs.declared.session.Pending.{Pending}
use Rattle.ftp_server_model.specs.declared.session.Pending.TheVariants as Pendings
use Rattle.ftp_server_model.specs.declared.session.ServerLink.{ServerLink}
use Rattle.ftp_server_model.specs.declared.session.ServerLink.TheVariants as Data
use Rattle.ftp_server_model.specs.declared.session.Transfer.TheVariants as Transfers
use Rattle.ftp_wire.specs.Decoder.{no_octets}
use Rattle.laws_server.specs.one.Links.{Aims, Asks, Begins, BegunSo, Forgets, IsWholeBeginning, LinesGoBeside, Stays, Turned, turned_so, with_link}
use Rattle.laws_server.specs.one.Logins.{Ends, Enters, Lasts, LinesLogIn, Logged, LoggedSo}
use Rattle.laws_server.specs.one.Maps.{Changes, LinesChangeTheMap, Mapped, MappedSo, Unchanged, changes, line_changes}
use Rattle.laws_server.proofs.one.FileLemmas.{freed-limits, made-limits, made_short, removed-limits, removed_short, renamed_short, skips_few}

-- an account that is found so is one of these
login_found : (accounts : Accounts) (name word : List ℕ) (account : Account) → login_account accounts name word ≡ Some account
    → find (knows name word) accounts ≡ Some account
unfolding login_account
login_found accounts name word account is = is

-- whoever has a right may do more than to look
may_not : (rights : Rights) (may : Rights → Bool) → may no_rights ≡ false → barred (may rights) ≡ None → ¬ (rights ≡ no_rights)
may_not rights may none allowed is = wanting ⊥ (may rights) (ap may is ∙ none) allowed

module _ (context : Context) (changing : Bool) where
  -- a login after which new stands, of a session
  abbrev Login : Logged → Session → Session → Type 0
  Login logged s new = LoggedSo logged context.accounts s new.access new.root new.rights

  -- whatever the link is, it is looked at so; and what becomes of the login and the map
  record Beside (s : Session) (g : ServerLink Transfer → Bool → Turn) : Type 0 where
    turned : Turned
    turn : Turn
    is : (link : ServerLink Transfer) (closing : Bool) → g link closing ≡ turned_so turned link closing turn
    whole : IsWholeBeginning turned turn s
    begun : BegunSo turned s
    logged : Logged
    login : Login logged s turn.0
    mapped : Mapped
    leaves : MappedSo mapped changing s turn.0.table

  -- of a session
  abbrev Acts : (Session → Turn) → Session → Type 0
  Acts acts s = Beside s (λ link closing. acts (with_link link closing s))

  -- the login and the map stay
  abbrev Same : Session → Session → Type 0
  Same s new = (new.access ≡ s.access) × (new.root ≡ s.root) × (new.rights ≡ s.rights) × (new.table ≡ s.table)

  -- the link and the map stay, as the turn of a session says
  stays : (acts : Session → Turn) (s : Session) (logged : Logged)
      → ((link : ServerLink Transfer) (closing : Bool) → acts (with_link link closing s) ≡ turned_so Stays link closing (acts s))
      → Login logged s (acts s).0 → (acts s).0.table ≡ s.table → Acts acts s
  stays acts s logged is login same = record {
    turned = Stays;
    turn = acts s;
    is = is;
    whole = tt;
    begun = tt;
    logged = logged;
    login = login;
    mapped = Unchanged;
    leaves = same;
  }

  -- the link and the login stay
  maps : (acts : Session → Turn) (s : Session) (mapped : Mapped)
      → ((link : ServerLink Transfer) (closing : Bool) → acts (with_link link closing s) ≡ turned_so Stays link closing (acts s))
      → Login Lasts s (acts s).0 → MappedSo mapped changing s (acts s).0.table → Acts acts s
  maps acts s mapped is login leaves = record {
    turned = Stays;
    turn = acts s;
    is = is;
    whole = tt;
    begun = tt;
    logged = Lasts;
    login = login;
    mapped = mapped;
    leaves = leaves;
  }

  -- all three
  lasts : (acts : Session → Turn) (s : Session)
      → ((link : ServerLink Transfer) (closing : Bool) → acts (with_link link closing s) ≡ turned_so Stays link closing (acts s))
      → Same s (acts s).0 → Acts acts s
  lasts acts s is same = stays acts s Lasts is (same.0, same.1, same.2) same.3

  -- the link is forgotten
  forgets : (acts : Session → Turn) (s : Session) (logged : Logged)
      → ((link : ServerLink Transfer) (closing : Bool) → acts (with_link link closing s) ≡ turned_so Forgets link closing (acts s))
      → Login logged s (acts s).0 → (acts s).0.table ≡ s.table → Acts acts s
  forgets acts s logged is login same = record {
    turned = Forgets;
    turn = acts s;
    is = is;
    whole = tt;
    begun = tt;
    logged = logged;
    login = login;
    mapped = Unchanged;
    leaves = same;
  }

  -- another turn that leaves all but the link
  beside : (turned : Turned) (turn : Turn) (s : Session) (g : ServerLink Transfer → Bool → Turn)
      → ((link : ServerLink Transfer) (closing : Bool) → g link closing ≡ turned_so turned link closing turn)
      → IsWholeBeginning turned turn s → BegunSo turned s → Same s turn.0 → Beside s g
  beside turned turn s g is whole begun same = record {
    turned = turned;
    turn = turn;
    is = is;
    whole = whole;
    begun = begun;
    logged = Lasts;
    login = (same.0, same.1, same.2);
    mapped = Unchanged;
    leaves = same.3;
  }

  -- ---- by what a command looks at

  if_beside : (test : Bool) (s : Session) (one other : ServerLink Transfer → Bool → Turn) → Beside s one → Beside s other
      → Beside s (λ link closing. if test then one link closing else other link closing)
  if_beside true s one other a b = a
  if_beside false s one other a b = b

  unless_beside : (why : Option Refusal) (s : Session) (g : ServerLink Transfer → Bool → Turn) → (why ≡ None → Beside s g)
      → Beside s (λ link closing. unless why (with_link link closing s) (g link closing))
  unless_beside None s g a = a refl
  unless_beside (Some why) s g a = beside Stays (tells (refusal_text why) s) s _ (λ link closing. refl) tt tt (refl, refl, refl, refl)

  -- ---- those of the direct run

  performs_beside : (op : Op (List ℕ)) (kind : ReplyKind Names) (s : Session) (mapped : Mapped)
      → (refusal (direct_of s) op ≡ None → MappedSo mapped changing s (done (direct_of s) op 0).1.table) → Acts (performs op kind) s
  performs_beside op kind s mapped leaves =
      unless_beside (refusal (direct_of s) op) s _
      (λ none. maps (λ s. (as_direct (done (direct_of s) op 0).1 s, kind)) s mapped (λ link closing. refl) (refl, refl, refl) (leaves none))

  rnfr_beside : (from : Names) (s : Session)
      → Acts (λ s. unless (refused_source s from) s (tells Texts.NewName (record s { pending = Pendings.Rename from }))) s
  rnfr_beside from s =
      unless_beside (refused_source s from) s _
      (λ none. lasts (λ s. tells Texts.NewName (record s { pending = Pendings.Rename from })) s (λ link closing. refl) (refl, refl, refl, refl))

  -- ---- who is logged in

  admits_beside : (is : Bool) (account : Account) (test : Account → Bool) (s : Session) → find test context.accounts ≡ Some account → Acts (admits is account) s
  admits_beside true account test s found = stays (admits true account) s (Enters account test) (λ link closing. refl) (found, refl, refl, refl) refl
  admits_beside false account test s found = stays (admits false account) s Ends (λ link closing. refl) (refl, refl, refl) refl

  named_beside : (account : Option Account) (name : List ℕ) (s : Session) → open_account context.accounts name ≡ account → Acts (user_named account name) s
  named_beside (Some account) name s found = admits_beside (is_directory (node_at s.table account.root)) account (is_open name) s found
  named_beside None name s found = stays (user_named None name) s Ends (λ link closing. refl) (refl, refl, refl) refl

  checked_beside : (account : Option Account) (name word : List ℕ) (s : Session) → login_account context.accounts name word ≡ account → Acts (password_checked account) s
  checked_beside (Some account) name word s found =
      admits_beside (is_directory (node_at s.table account.root)) account (knows name word) s (login_found context.accounts name word account found)
  checked_beside None name word s found = stays (password_checked None) s Ends (λ link closing. refl) (refl, refl, refl) refl

  pass_beside : (access : Access (List ℕ)) (word : List ℕ) (s : Session) → Acts (pass access context.accounts word) s
  pass_beside (AwaitsPass name) word s = checked_beside (login_account context.accounts name word) name word s refl
  pass_beside Nobody word s = lasts (pass Nobody context.accounts word) s (λ link closing. refl) (refl, refl, refl, refl)
  pass_beside Known word s = lasts (pass Known context.accounts word) s (λ link closing. refl) (refl, refl, refl, refl)

  -- ---- where the data connection goes

  takes_beside : (is : Bool) (endpoint : Endpoint) (s : Session) → Acts (λ s. takes is endpoint (forgotten s)) s
  takes_beside true endpoint s = beside (Aims endpoint) (tells Texts.EndpointTaken s) s _ (λ link closing. refl) tt tt (refl, refl, refl, refl)
  takes_beside false endpoint s = beside Forgets (tells Texts.BadParameter s) s _ (λ link closing. refl) tt tt (refl, refl, refl, refl)

  asks_beside : (verb : PassiveVerb) (s : Session) → Acts (asks verb) s
  asks_beside verb s = beside (Asks verb) (s, Replies.Nothing) s _ (λ link closing. refl) tt tt (refl, refl, refl, refl)

  port_beside : (endpoint : Endpoint) (s : Session) → Acts (port context endpoint) s
  port_beside endpoint s =
      if_beside s.only_extended s _ _ (lasts (tells Texts.BadSequence) s (λ link closing. refl) (refl, refl, refl, refl))
      (takes_beside (is_taken context.peer endpoint) endpoint s)

  pasv_beside : (s : Session) → Acts (pasv context) s
  pasv_beside s =
      if_beside s.only_extended s _ _ (lasts (tells Texts.BadSequence) s (λ link closing. refl) (refl, refl, refl, refl))
      (if_beside (is_v6 context.here) s _ _ (lasts (tells Texts.NoConnection) s (λ link closing. refl) (refl, refl, refl, refl)) (asks_beside Asking.Pasv s))

  epsv_beside : (family : Passive) (s : Session) → Acts (epsv context family) s
  epsv_beside Any s = asks_beside Asking.Epsv s
  epsv_beside Ipv4 s =
      if_beside (is_v6 context.here) s _ _ (lasts (tells Texts.OnlyIpv6) s (λ link closing. refl) (refl, refl, refl, refl)) (asks_beside Asking.Epsv s)
  epsv_beside Ipv6 s =
      if_beside (is_v6 context.here) s _ _ (asks_beside Asking.Epsv s) (lasts (tells Texts.OnlyIpv4) s (λ link closing. refl) (refl, refl, refl, refl))
  epsv_beside Only s = lasts (epsv context Only) s (λ link closing. refl) (refl, refl, refl, refl)

  -- ---- transfers

  starts_beside : (why : Option Refusal) (transfer : Transfer) (s : Session) → (why ≡ None → BegunSo (Begins transfer) s)
      → Acts (transfer_starts why transfer) s
  starts_beside None transfer s begun = beside (Begins transfer) (s, Replies.Nothing) s _ (λ link closing. refl) refl (begun refl) (refl, refl, refl, refl)
  starts_beside (Some why) transfer s begun = beside Forgets (tells (refusal_text why) s) s _ (λ link closing. refl) tt tt (refl, refl, refl, refl)

  -- the octets of a file from a place on, and octets that are held from a place on
  retr_beside : (place : Option ℕ) (text : List ℕ) (s : Session) → Acts (retr_at place text) s
  retr_beside place text s =
      starts_beside (or_refused (refused_file (direct_of s) text) (refused_there (misplaced place)))
      (Transfers.Download (sent_from s text (unwrap_or place 0))) s (λ none. tt)

  stor_beside : (place : Option ℕ) (path : Names) (s : Session) → unwrap_or place 0 ≤ length (octets_or_none (seen s) path) → Acts (stor_at place path) s
  stor_beside place path s few =
      starts_beside (or_refused (barred_put (direct_of s) path) (or_refused (refused_name (misplaced place)) (refused_to_hold s path)))
      (Transfers.Upload path (Keeps.First (unwrap_or place 0)) (no_octets s.settings)) s (λ none. (first_is_none _ _ none, few, refl))

  -- the place is that of REST
  retr_placed : (pending : Pending Names) (text : List ℕ) (s : Session) → Acts (retr pending text) s
  retr_placed (Pendings.Restart offset) text s = retr_beside (place_of (Pendings.Restart offset) (path_of s text) s) text s
  retr_placed Pendings.Nothing text s = retr_beside (Some 0) text s
  retr_placed (Pendings.Rename from) text s = retr_beside (Some 0) text s

  stor_placed : (pending : Pending Names) (text : List ℕ) (s : Session) → Acts (stor pending text) s
  stor_placed (Pendings.Restart offset) text s =
      stor_beside (place_of (Pendings.Restart offset) (path_of s text) s) (path_of s text) s
      (omega (arith, skips_few s.settings.kind (octets_or_none (seen s) (path_of s text)) offset))
  stor_placed Pendings.Nothing text s = stor_beside (Some 0) (path_of s text) s (omega arith)
  stor_placed (Pendings.Rename from) text s = stor_beside (Some 0) (path_of s text) s (omega arith)

  rests_beside : (why : Option Refusal) (offset : ℕ) (s : Session) → Acts (restart_pending why offset) s
  rests_beside None offset s = lasts (restart_pending None offset) s (λ link closing. refl) (refl, refl, refl, refl)
  rests_beside (Some why) offset s = lasts (restart_pending (Some why) offset) s (λ link closing. refl) (refl, refl, refl, refl)

  -- ---- options

  choose_beside : (facts : Option Facts) (s : Session) → Acts (choose facts) s
  choose_beside (Some facts) s = lasts (choose (Some facts)) s (λ link closing. refl) (refl, refl, refl, refl)
  choose_beside None s = lasts (choose None) s (λ link closing. refl) (refl, refl, refl, refl)

  appe_beside : (path : Names) (s : Session) → Acts (appe_at path) s
  appe_beside path s =
      starts_beside (or_refused (barred_put (direct_of s) path) (refused_to_hold s path))
      (Transfers.Upload path (Keeps.All (length (octets_or_none (seen s) path))) (no_octets s.settings)) s (λ none. (first_is_none _ _ none, omega arith, refl))

-- RNTO: by what is pending
module _ (context : Context) where
  rnto_beside : (pending : Pending Names) (text : List ℕ) (s : Session) → Acts context (changes pending (command.Rnto text)) (rnto pending text) s
  rnto_beside (Pendings.Rename from) text s =
      let to = path_of s text in
      unless_beside context true (refused_target s from to) s _
      (λ none. maps context true (λ s. tells Texts.Done (with_seen (moved (target_seen s from to) from to) s)) s
      (Changes (moved (target_seen s from to) from to)) (λ link closing. refl)
      (refl, refl, refl) (
        refl,
        may_not s.rights (λ r. r.rename) refl (first_is_none _ _ (first_is_none _ _ none)),
        refl,
        moved-limits (target_seen s from to) from to ∙ freed-limits s.rights.onto (seen s) from to,
        renamed_short s.rights.onto s.table s.root from to,
      ))
  rnto_beside Pendings.Nothing text s = lasts context _ (rnto Pendings.Nothing text) s (λ link closing. refl) (refl, refl, refl, refl)
  rnto_beside (Pendings.Restart place) text s = lasts context _ (rnto (Pendings.Restart place) text) s (λ link closing. refl) (refl, refl, refl, refl)

  -- ---- a row a verb

  act_beside : (asked : Command (List ℕ)) (pending : Pending Names) (s : Session) → Acts context (changes pending asked) (act context asked pending) s
  act_beside (command.User name) pending s = named_beside context _ (open_account context.accounts name) name s refl
  act_beside (command.Pass word) pending s = pass_beside context _ s.access word s
  act_beside (command.Cwd text) pending s = performs_beside context _ (Ops.ChangeDir text) (Replies.Fixed Texts.Done) s Unchanged (λ none. refl)
  act_beside command.Cdup pending s = performs_beside context _ Ops.Up (Replies.Fixed Texts.Done) s Unchanged (λ none. refl)
  act_beside command.Rein pending s = forgets context _ (act context command.Rein pending) s Ends (λ link closing. refl) (refl, refl, refl) refl
  act_beside command.Quit pending s = forgets context _ (act context command.Quit pending) s Lasts (λ link closing. refl) (refl, refl, refl) refl
  act_beside (command.Port endpoint) pending s = port_beside context _ endpoint s
  act_beside command.Pasv pending s = pasv_beside context _ s
  act_beside (command.Eprt endpoint) pending s = port_beside context _ endpoint s
  act_beside (command.Epsv family) pending s = epsv_beside context _ family s
  act_beside (command.Retr text) pending s = retr_placed context _ pending text s
  act_beside (command.Stor text) pending s = stor_placed context _ pending text s
  act_beside (command.Appe text) pending s = appe_beside context _ (path_of s text) s
  act_beside (command.Rest place) pending s = rests_beside context _ (offset_refusal place (how_in_force s.settings)) place s
  act_beside (command.Rnfr text) pending s = rnfr_beside context _ (path_of s text) s
  act_beside (command.Rnto text) pending s = rnto_beside pending text s
  act_beside (command.Dele text) pending s =
      performs_beside context _ (Ops.Delete text) (Replies.Fixed Texts.Done) s (Changes (removed (seen s) (path_of s text)))
      (λ none. (
        refl,
        may_not s.rights (λ r. r.delete) refl (first_is_none _ _ none),
        refl,
        removed-limits (seen s) (path_of s text),
        removed_short s.table s.root (path_of s text),
      ))
  act_beside (command.Rmd text) pending s =
      performs_beside context _ (Ops.RemoveDir text) (Replies.Fixed Texts.Done) s (Changes (removed (seen s) (path_of s text)))
      (λ none. (
        refl,
        may_not s.rights (λ r. r.remove_dir) refl (first_is_none _ _ none),
        refl,
        removed-limits (seen s) (path_of s text),
        removed_short s.table s.root (path_of s text),
      ))
  act_beside (command.Mkd text) pending s =
      performs_beside context _ (Ops.MakeDir text) (Replies.Made (path_of s text)) s (Changes (made (seen s) (path_of s text)))
      (λ none. (
        refl,
        may_not s.rights (λ r. r.make_dir) refl (first_is_none _ _ none),
        refl,
        made-limits (seen s) (path_of s text),
        made_short s.table s.root (path_of s text),
      ))
  act_beside (command.List text) pending s = starts_beside context _ _ (Transfers.Listing _) s (λ none. tt)
  act_beside (command.Nlst text) pending s = starts_beside context _ _ (Transfers.Listing _) s (λ none. tt)
  act_beside (command.Mlst text) pending s =
      unless_beside context _ (refusal (direct_of s) (Ops.Facts (or_empty text))) s _
      (λ none. lasts context _ (λ s. (s, Replies.Entry (named_or_here (direct_of s) (or_empty text)))) s (λ link closing. refl) (refl, refl, refl, refl))
  act_beside (command.Mlsd text) pending s = starts_beside context _ _ (Transfers.Listing _) s (λ none. tt)
  act_beside (command.Size text) pending s =
      if_beside context _ (has_size s.settings) s _ _
      (unless_beside context _ (refusal (direct_of s) (Ops.Size text (how_in_force s.settings))) s _
      (λ none. lasts context _ (λ s. (s, Replies.Size (size_of s text))) s (λ link closing. refl) (refl, refl, refl, refl)))
      (lasts context _ (tells Texts.Refused) s (λ link closing. refl) (refl, refl, refl, refl))
  act_beside (command.Mdtm text) pending s =
      unless_beside context _ (refusal (direct_of s) (Ops.Modified text)) s _
      (λ none. lasts context _ (λ s. (s, Replies.Stamp (moment_digits (stamp_of s text)))) s (λ link closing. refl) (refl, refl, refl, refl))
  act_beside (command.Opts text) pending s =
      if_beside context _ (is_utf8_on text) s _ _ (lasts context _ (tells Texts.Utf8Set) s (λ link closing. refl) (refl, refl, refl, refl))
      (choose_beside context _ (option_facts text) s)
  act_beside asked pending s = lasts context _ (act context asked pending) s (λ link closing. refl) (refl, refl, refl, refl)

  -- ---- a line

  -- one that is not allowed forgets the link, where it would begin a transfer
  barred_beside : (changing transfer : Bool) (s : Session) → Acts context changing (λ s. tells Texts.NotLoggedIn (if transfer then forgotten s else s)) s
  barred_beside changing true s = beside context changing Forgets (tells Texts.NotLoggedIn s) s _ (λ link closing. refl) tt tt (refl, refl, refl, refl)
  barred_beside changing false s = lasts context changing (tells Texts.NotLoggedIn) s (λ link closing. refl) (refl, refl, refl, refl)

  line_beside : (heard : HeardLine (List ℕ)) (pending : Pending Names) (s : Session)
      → Acts context (line_changes pending heard) (decided context heard pending) s
  line_beside TooLong pending s = lasts context _ (decided context TooLong pending) s (λ link closing. refl) (refl, refl, refl, refl)
  line_beside (Bad fault) pending s = lasts context _ (decided context (Bad fault) pending) s (λ link closing. refl) (refl, refl, refl, refl)
  line_beside (AsksFor asked) pending s =
      if_beside context (changes pending asked) (is_allowed asked s) s _ _ (act_beside asked pending s)
      (barred_beside (changes pending asked) (is_transfer asked) s)

  -- ---- what was made of the login and the map is so with any link

  abbrev Holds : Logged → Mapped → Bool → Session → Session → Type 0
  Holds logged mapped changing s new =
      LoggedSo logged context.accounts s new.access new.root new.rights × MappedSo mapped changing s new.table

  begun_stays : (link : ServerLink Transfer) (transfer : Transfer) (logged : Logged) (mapped : Mapped) (changing : Bool) (s new : Session)
      → Holds logged mapped changing s new → Holds logged mapped changing s (begin link transfer new).0
  begun_stays Data.Free transfer logged mapped changing s new holds = holds
  begun_stays (Data.Active endpoint) transfer logged mapped changing s new holds = holds
  begun_stays Data.Passive transfer logged mapped changing s new holds = holds
  begun_stays Data.Ready transfer logged mapped changing s new holds = holds
  begun_stays (Data.Asked asked) transfer logged mapped changing s new holds = holds
  begun_stays (Data.Opening other way) transfer logged mapped changing s new holds = holds
  begun_stays (Data.Transferring other) transfer logged mapped changing s new holds = holds

  turned_stays : (turned : Turned) (logged : Logged) (mapped : Mapped) (changing : Bool) (s : Session) (turn : Turn)
      → Holds logged mapped changing s turn.0 → Holds logged mapped changing s (turned_so turned s.connection s.closing turn).0
  turned_stays Stays logged mapped changing s turn holds = holds
  turned_stays Forgets logged mapped changing s turn holds = holds
  turned_stays (Asks verb) logged mapped changing s turn holds = holds
  turned_stays (Aims endpoint) logged mapped changing s turn holds = holds
  turned_stays (Begins transfer) logged mapped changing s turn holds =
      begun_stays s.connection transfer logged mapped changing s (with_link s.connection s.closing turn.0) holds

  -- what a line makes of the login and the map
  line_holds : (heard : HeardLine (List ℕ)) (pending : Pending Names) (s : Session)
      → (logged : Logged) × (mapped : Mapped) × Holds logged mapped (line_changes pending heard) s (decided context heard pending s).0
  line_holds heard pending s =
      let of = line_beside heard pending s in (
        of.logged,
        of.mapped,
        subst (λ (turn : Turn). Holds of.logged of.mapped (line_changes pending heard) s turn.0) (sym (of.is s.connection s.closing))
            (turned_stays of.turned of.logged of.mapped (line_changes pending heard) s of.turn (of.login, of.leaves)),
      )

pub lines_go_beside : LinesGoBeside
lines_go_beside context heard pending s =
    let of = line_beside context heard pending s in
    record { turned = of.turned; turn = of.turn; is = of.is; whole = of.whole; begun = of.begun }

pub lines_log_in : LinesLogIn
lines_log_in context heard pending s = let of = line_holds context heard pending s in (of.0, of.2.0)

pub lines_change_the_map : LinesChangeTheMap
lines_change_the_map context heard pending s = let of = line_holds context heard pending s in (of.1, of.2.1)
