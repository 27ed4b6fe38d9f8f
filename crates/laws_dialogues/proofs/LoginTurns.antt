-- Each turn of the login leads to its next place, and behind it to where the client goes on.
use Rattle.std.proofs.Common.{◌≡◌, ◌⊎◌, inl, inr, ℕ, zero, suc, Bool, true, false, List, [], ◌∷◌, Option, Some, None, refl, sym, ap, subst, ◌∙◌}
use Rattle.std.specs.Prelude.{codes}
use Rattle.ftp_nvt.specs.Lines.{written_line}
use Rattle.ftp_command.specs.Argument.{IsName, IsPassword}
use Rattle.ftp_command.specs.Line.{IsLine, line_of}
use Rattle.ftp_command.specs.declared.command.Command.{Command}
use Rattle.ftp_command.specs.declared.command.Command.TheVariants as Commands
use Rattle.ftp_endpoint.specs.Written.{IsTypedHost}
use Rattle.ftp_ends.specs.Link.{is_v6}
use Rattle.ftp_ends.specs.Reply.{Reply}
use Rattle.ftp_operation.specs.Account.{Account, login_account}
use Rattle.ftp_operation.specs.declared.op.Op.{Op}
use Rattle.ftp_tree.specs.Tree.{node_at}
use Rattle.ftp_direct.specs.Direct.{State, is_directory, start as direct_start}
use Rattle.ftp_client_model.specs.Dialogue.{answered, begins, enters_with, stand_answered}
use Rattle.ftp_client_model.specs.Replies.{Completion, Intermediate, Negative}
use Rattle.ftp_client_model.specs.View.{View as Near, Job, Idle, Waiting}
use Rattle.ftp_client_model.specs.declared.client.ClientLink.TheVariants as NearData
use Rattle.ftp_client_model.specs.declared.client.Standing.TheVariants as Standings
use Rattle.ftp_server_model.specs.Login.{open_account, user_named, password_checked, pass as pass_turn, logs_in, logged_out, admits}
use Rattle.ftp_server_model.specs.Machine.{Reading, IsReading}
use Rattle.ftp_server_model.specs.Replies.{fixed_reply, tells}
use Rattle.ftp_server_model.specs.View.{Session, View as Far}
use Rattle.ftp_server_model.specs.declared.reply.ReplyKind.TheVariants as Replies
use Rattle.ftp_server_model.specs.declared.reply.FixedReply.{FixedReply}
use Rattle.ftp_server_model.specs.declared.reply.FixedReply.TheVariants as Texts
use Rattle.ftp_server_model.specs.declared.session.Access.TheVariants as Accesses
use Rattle.ftp_command.proofs.CarriedLemmas.{carried}
use Rattle.ftp_server_model.proofs.RepliesWritten.{replies_are_written}
use Rattle.laws_dialogues.specs.Stage.{calm, Way, Asking, Answering, rest, FarTurn, NearTurn, behind, Leads, Turns}
use Rattle.laws_dialogues.specs.Dialogue.{is_set_aside, FarWaits, ArePeersOfOneFamily, Sees, Stands, resting}
use Rattle.laws_dialogues.specs.Login.{LoginPlace, Greets, AsksUser, WantsPass, AsksPass, Answers, last_text, way_at_login, standing_in_login, IsAccessOf, LogsIn, Logging, AtFree, IsOnWay}
use Rattle.laws_dialogues.specs.Operations.{LeadsBy}
use Rattle.laws_dialogues.proofs.ServerTurns.{aside_idle, cleared, decides, decides_free, far_turn_is}
use Rattle.laws_dialogues.proofs.Exchanges.{IsSent, with_session}

-- ---- ways that differ

abbrev is_asking : Way → Bool
is_asking (Asking text) = true
is_asking (Answering replies) = false

-- a line on its way is not replies on their way
pub no_asking : (text : List ℕ) (replies : List Reply) → Asking text ≡ Answering replies → ⊥
no_asking text replies e = let f : true ≡ false = ap is_asking e in cc

abbrev has_reply : Way → Bool
has_reply (Answering (reply ∷ replies)) = true
has_reply way = false

-- where a reply is on its way the way is not at rest
pub no_reply : (reply : Reply) (more : List Reply) → Answering (reply ∷ more) ≡ rest → ⊥
no_reply reply more e = let f : true ≡ false = ap has_reply e in cc

abbrev text_in : Way → List ℕ
text_in (Asking text) = text
text_in (Answering replies) = []

-- equal ways of a line have the same text
pub asked_text : {text other : List ℕ} → Asking text ≡ Asking other → text ≡ other
asked_text e = ap text_in e

abbrev first_in : Reply → Way → Reply
first_in otherwise (Answering (reply ∷ replies)) = reply
first_in otherwise way = otherwise

abbrev more_in : Way → List Reply
more_in (Answering (reply ∷ replies)) = replies
more_in way = []

-- where one reply alone is on its way, the first is that one
reply_of_way : {reply other : Reply} {more : List Reply} → Answering (reply ∷ more) ≡ Answering (other ∷ []) → reply ≡ other
reply_of_way {reply} e = ap (first_in reply) e

-- where one reply alone is on its way, no more are behind it
rest_of : {reply other : Reply} {more : List Reply} → Answering (reply ∷ more) ≡ Answering (other ∷ []) → more ≡ []
rest_of e = ap more_in e

-- ---- the server: the root of an account is a directory, or it is refused

-- what a login leads to, as the server and as the direct run see it
record Admits (state : State) (account : Account) (s : Session) : Type 0 where
  admitted : Bool
  is : logs_in account s ≡ tells (last_text admitted) (logs_in account s).0
  sees : Sees state (logs_in account s).0

-- a login to an account that the state starts with ends as the direct run sees it, admitted or refused
admits_as : (state : State) (account : Account) (s : Session) → s.table ≡ state.table → state ≡ direct_start state.table (Some account) → Admits state account s
admits_as state account s table leads = by_directory (is_directory (node_at s.table account.root)) refl
  where
    by_directory : (b : Bool) → is_directory (node_at s.table account.root) ≡ b → Admits state account s
    by_directory true is =
        let now : logs_in account s ≡ tells Texts.LoggedIn (record s { access = Accesses.Known; root = account.root; rights = account.rights; cwd = [] }) = ap (λ b. admits b account s) is in
        let known : state.known ≡ true = ap (λ s. s.known) leads ∙ ap (λ t. is_directory (node_at t account.root)) (sym table) ∙ is in
        record {
          admitted = true;
          is = now ∙ ap (λ t. tells Texts.LoggedIn t) (sym (ap (λ t. t.0) now));
          sees = subst (Sees state) (sym (ap (λ t. t.0) now))
              (record { table = table; known = sym known; root = λ k. sym (ap (λ s. s.root) leads); rights = λ k. sym (ap (λ s. s.rights) leads); cwd = sym (ap (λ s. s.cwd) leads) });
        }
    by_directory false is =
        let now : logs_in account s ≡ tells Texts.LoginRefused (logged_out s) = ap (λ b. admits b account s) is in
        let known : state.known ≡ false = ap (λ s. s.known) leads ∙ ap (λ t. is_directory (node_at t account.root)) (sym table) ∙ is in
        record {
          admitted = false;
          is = now ∙ ap (λ t. tells Texts.LoginRefused t) (sym (ap (λ t. t.0) now));
          sees = subst (Sees state) (sym (ap (λ t. t.0) now))
              (record {
                table = table;
                known = sym known;
                root = λ k. absurd (let e : false ≡ true = sym known ∙ k in cc);
                rights = λ k. absurd (let e : false ≡ true = sym known ∙ k in cc);
                cwd = sym (ap (λ s. s.cwd) leads);
              });
        }

-- ---- what is kept of both ends

-- a server with another session, that differs in who is logged in alone
record IsLoginStep (old new : Session) : Type 0 where
  connection : new.connection ≡ old.connection
  closing : new.closing ≡ old.closing
  life : new.life ≡ old.life
  settings : new.settings ≡ old.settings
  facts : new.facts ≡ old.facts
  table : new.table ≡ old.table
  all_ways : new.only_extended ≡ old.only_extended

-- a login to an account changes nothing of a session but who is logged in
same_admits : (account : Account) (s : Session) → IsLoginStep s (logs_in account s).0
same_admits account s = by_directory (is_directory (node_at s.table account.root)) refl
  where
    by_directory : (b : Bool) → is_directory (node_at s.table account.root) ≡ b → IsLoginStep s (admits b account s).0
    by_directory true is = record { connection = refl; closing = refl; life = refl; settings = refl; facts = refl; table = refl; all_ways = refl }
    by_directory false is = record { connection = refl; closing = refl; life = refl; settings = refl; facts = refl; table = refl; all_ways = refl }

-- a server that waits still does so with a session that differs in who is logged in alone
far_steps : (f : Far) (new : Session) → IsLoginStep (cleared f) new → FarWaits f → FarWaits (with_session new f)
far_steps f new same waits = record {
  aside = ap is_set_aside same.connection ∙ waits.aside;
  closing = same.closing ∙ waits.closing;
  life = same.life ∙ waits.life;
}

-- the login goes on at another place
logs_at : (state : State) (before after : LoginPlace) (n next : Near) (f : Far) (new : Session) → LogsIn state before n f → next ≡ record n { standing = standing_in_login after }
    → IsLoginStep (cleared f) new → IsAccessOf after state next (with_session new f) → LogsIn state after next (with_session new f)
logs_at state before after n next f new logs is same access = record {
  standing = ap (λ v. v.standing) is;
  connection = ap (λ v. v.connection) is ∙ logs.connection;
  closing = ap (λ v. v.closing) is ∙ logs.closing;
  run = ap (λ v. v.run) is ∙ logs.run;
  user = subst IsName (sym (ap (λ v. v.user) is)) logs.user;
  pass = subst IsPassword (sym (ap (λ v. v.pass) is)) logs.pass;
  far = far_steps f new same logs.far;
  settings = same.settings ∙ logs.settings ∙ sym (ap (λ v. v.settings) is);
  facts = same.facts ∙ logs.facts;
  table = same.table ∙ logs.table;
  access = access;
  meets = record {
    peer = ap (λ v. v.peer) is ∙ logs.meets.peer;
    here = ap (λ v. v.here) is ∙ logs.meets.here;
    typed = logs.meets.typed;
    own = subst IsTypedHost (sym (ap (λ v. v.here) is)) logs.meets.own;
    family = ap (λ v. is_v6 v.here) is ∙ logs.meets.family ∙ sym (ap (λ v. is_v6 v.peer) is);
    all_ways = same.all_ways ∙ logs.meets.all_ways;
  };
  leads_to = logs.leads_to ∙ ap (λ v. direct_start state.table (login_account f.context.accounts v.user v.pass)) (sym is);
  opens = λ account found. ap (λ v. login_account f.context.accounts v.user v.pass) is ∙ logs.opens account (ap (λ v. open_account f.context.accounts v.user) (sym is) ∙ found);
}

-- ---- the turns of the server

-- a line of the login is heard, and a fixed reply is owed
login_turn : (read : Reading) (state : State) (before after : LoginPlace) (command : Command (List ℕ)) (text : FixedReply) (n : Near) (f : Far) (new : Session)
    → IsReading read → IsSent read command → LogsIn state before n f → way_at_login after n ≡ Answering (fixed_reply text ∷ []) → standing_in_login before ≡ standing_in_login after
    → decides command f ≡ tells text new → IsLoginStep (cleared f) new → IsAccessOf after state n (with_session new f)
    → (t : FarTurn read f (line_of command)) × Logging state (Answering t.replies) n t.far
login_turn read state before after command text n f new reads sent logs way place decided same access = (
  record {
    far = with_session new f;
    replies = fixed_reply text ∷ [];
    is = far_turn_is read command f new (Replies.Fixed text) (fixed_reply text) reads sent.typed sent.stated sent.other (aside_idle f.session.connection logs.far.aside)
        decided (aside_idle new.connection (far_steps f new same logs.far).aside) refl;
    fine = (replies_are_written new (Replies.Fixed text) (fixed_reply text) tt refl, tt);
  },
  record {
    place = after;
    way_is = sym way;
    logs = logs_at state before after n n f new logs (λ i. record n { standing = (logs.standing ∙ place) i }) same access;
  },
)

-- an account that needs no password, or a password is asked for
user_turn : (read : Reading) (state : State) (n : Near) (f : Far) → IsReading read → LogsIn state AsksUser n f
    → (t : FarTurn read f (line_of (Commands.User n.user))) × Logging state (Answering t.replies) n t.far
user_turn read state n f reads logs = by_open (open_account f.context.accounts n.user) refl
  where
    sent : IsSent read (Commands.User n.user)
    sent = record { reads = reads; typed = tt; stated = logs.user; other = refl }

    by_open : (found : Option Account) → open_account f.context.accounts n.user ≡ found
        → (t : FarTurn read f (line_of (Commands.User n.user))) × Logging state (Answering t.replies) n t.far
    by_open None none =
        login_turn read state AsksUser WantsPass (Commands.User n.user) Texts.PasswordNeeded n f (record (logged_out (cleared f)) { access = Accesses.AwaitsPass n.user })
        reads sent logs refl refl (decides_free (Commands.User n.user) f refl ∙ ap (λ found. user_named found n.user (cleared f)) none)
        (record { connection = refl; closing = refl; life = refl; settings = refl; facts = refl; table = refl; all_ways = refl }) refl
    by_open (Some account) is =
        let a = admits_as state account (cleared f) logs.table (logs.leads_to ∙ ap (direct_start state.table) (logs.opens account is)) in
        login_turn read state AsksUser (Answers a.admitted false) (Commands.User n.user) (last_text a.admitted) n f (logs_in account (cleared f)).0
        reads sent logs refl refl (decides_free (Commands.User n.user) f refl ∙ ap (λ found. user_named found n.user (cleared f)) is ∙ a.is) (same_admits account (cleared f)) a.sees

-- the password is that of the account, or it is not
pass_turn_is : (read : Reading) (state : State) (n : Near) (f : Far) → IsReading read → LogsIn state AsksPass n f
    → (t : FarTurn read f (line_of (Commands.Pass n.pass))) × Logging state (Answering t.replies) n t.far
pass_turn_is read state n f reads logs = by_account (login_account f.context.accounts n.user n.pass) refl
  where
    sent : IsSent read (Commands.Pass n.pass)
    sent = record { reads = reads; typed = tt; stated = logs.pass; other = refl }

    awaited : decides (Commands.Pass n.pass) f ≡ password_checked (login_account f.context.accounts n.user n.pass) (cleared f)
    awaited =
        decides_free (Commands.Pass n.pass) f refl ∙ ap (λ access. pass_turn access f.context.accounts n.pass (cleared f)) logs.access

    by_account : (found : Option Account) → login_account f.context.accounts n.user n.pass ≡ found
        → (t : FarTurn read f (line_of (Commands.Pass n.pass))) × Logging state (Answering t.replies) n t.far
    by_account None none =
        let starts : state ≡ direct_start state.table None = logs.leads_to ∙ ap (direct_start state.table) none in
        login_turn read state AsksPass (Answers false true) (Commands.Pass n.pass) Texts.LoginRefused n f (logged_out (cleared f))
        reads sent logs refl refl (awaited ∙ ap (λ found. password_checked found (cleared f)) none)
        (record { connection = refl; closing = refl; life = refl; settings = refl; facts = refl; table = refl; all_ways = refl })
        (record {
          table = logs.table;
          known = sym (ap (λ s. s.known) starts);
          root = λ k. absurd (let e : false ≡ true = sym (ap (λ s. s.known) starts) ∙ k in cc);
          rights = λ k. absurd (let e : false ≡ true = sym (ap (λ s. s.known) starts) ∙ k in cc);
          cwd = sym (ap (λ s. s.cwd) starts);
        })
    by_account (Some account) is =
        let a = admits_as state account (cleared f) logs.table (logs.leads_to ∙ ap (direct_start state.table) is) in
        login_turn read state AsksPass (Answers a.admitted true) (Commands.Pass n.pass) (last_text a.admitted) n f (logs_in account (cleared f)).0
        reads sent logs refl refl (awaited ∙ ap (λ found. password_checked found (cleared f)) is ∙ a.is) (same_admits account (cleared f)) a.sees

-- ---- the turns of the client

-- the last reply ends the login, whatever it says
last_heard : (admitted to_pass : Bool) (n : Near) → n.standing ≡ standing_in_login (Answers admitted to_pass)
    → answered (fixed_reply (last_text admitted)).code (fixed_reply (last_text admitted)).lines (calm n) ≡ enters_with n.job (record (calm n) { standing = Standings.Entered })
unfolding answered
last_heard true true n is = ap (λ s. stand_answered s Completion 230 (codes "Logged in" ∷ []) (calm n)) is
last_heard true false n is = ap (λ s. stand_answered s Completion 230 (codes "Logged in" ∷ []) (calm n)) is
last_heard false true n is = ap (λ s. stand_answered s Negative 530 (codes "Login refused" ∷ []) (calm n)) is
last_heard false false n is = ap (λ s. stand_answered s Negative 530 (codes "Login refused" ∷ []) (calm n)) is

-- both ends behind the login
stands_behind : (state : State) (admitted to_pass : Bool) (n next : Near) (f : Far) → LogsIn state (Answers admitted to_pass) n f → next.settings ≡ n.settings
    → ArePeersOfOneFamily next f → Stands state next f
stands_behind state admitted to_pass n next f logs same meets = record { meets = meets; far = logs.far; sees = logs.access; settings = logs.settings ∙ sym same; facts = logs.facts }

-- a client that meets a server meets it at rest too
meets_at_rest : (n : Near) (f : Far) → ArePeersOfOneFamily n f → ArePeersOfOneFamily (resting n) f
meets_at_rest n f meets = record { peer = meets.peer; here = meets.here; typed = meets.typed; own = meets.own; family = meets.family; all_ways = meets.all_ways }

-- a place of the login that is not the last: its reply is heard, and a line is sent
record NextPlace (state : State) (n : Near) (f : Far) (reply : Reply) : Type 0 where
  near : Near
  line : List ℕ
  is : answered reply.code reply.lines (calm n) ≡ record (calm near) { owed = written_line line }
  fine : IsLine line
  logging : Logging state (Asking line) near f
  job : near.job ≡ n.job

-- a session with nothing pending any more differs from itself in nothing that the login keeps
session_same : (f : Far) → IsLoginStep (cleared f) f.session
session_same f = record { connection = refl; closing = refl; life = refl; settings = refl; facts = refl; table = refl; all_ways = refl }

-- the greeting is heard, and the client sends the name of its user
greeting_heard : (state : State) (n : Near) (f : Far) → LogsIn state Greets n f → NextPlace state n f (fixed_reply Texts.Ready)
unfolding answered
greeting_heard state n f logs = record {
  near = record n { standing = Standings.User };
  line = line_of (Commands.User n.user);
  is = ap (λ s. stand_answered s Completion 220 (codes "Ready" ∷ []) (calm n)) logs.standing;
  fine = carried (Commands.User n.user) tt logs.user;
  logging = record {
    place = AsksUser;
    way_is = refl;
    logs = logs_at state Greets AsksUser n (record n { standing = Standings.User }) f f.session logs refl (session_same f) logs.access;
  };
  job = refl;
}

-- the reply that wants a password is heard, and the client sends it
password_heard : (state : State) (n : Near) (f : Far) → LogsIn state WantsPass n f → NextPlace state n f (fixed_reply Texts.PasswordNeeded)
unfolding answered
password_heard state n f logs = record {
  near = record n { standing = Standings.Pass };
  line = line_of (Commands.Pass n.pass);
  is = ap (λ s. stand_answered s Intermediate 331 (codes "Password needed" ∷ []) (calm n)) logs.standing;
  fine = carried (Commands.Pass n.pass) tt logs.pass;
  logging = record {
    place = AsksPass;
    way_is = refl;
    logs = logs_at state WantsPass AsksPass n (record n { standing = Standings.Pass }) f f.session logs refl (session_same f) logs.access;
  };
  job = refl;
}

-- ---- the login with no operation, and with one that waits

-- a line of the login
asked_at : (read : Reading) (state : State) (place : LoginPlace) (text : List ℕ) (n : Near) (f : Far) → IsReading read → Asking text ≡ way_at_login place n → LogsIn state place n f
    → (t : FarTurn read f text) × Logging state (Answering t.replies) n t.far
asked_at read state Greets text n f reads way logs = absurd (no_asking text _ way)
asked_at read state AsksUser text n f reads way logs = subst (λ l. (t : FarTurn read f l) × Logging state (Answering t.replies) n t.far) (sym (asked_text way)) (user_turn read state n f reads logs)
asked_at read state WantsPass text n f reads way logs = absurd (no_asking text _ way)
asked_at read state AsksPass text n f reads way logs = subst (λ l. (t : FarTurn read f l) × Logging state (Answering t.replies) n t.far) (sym (asked_text way)) (pass_turn_is read state n f reads logs)
asked_at read state (Answers admitted to_pass) text n f reads way logs = absurd (no_asking text _ way)

-- a reply of the login: the next place, or the login is over
pub record LoginEnds (state : State) (n : Near) (f : Far) (reply : Reply) : Type 0 where
  pub admitted : Bool
  pub to_pass : Bool
  pub logs : LogsIn state (Answers admitted to_pass) n f
  pub is : answered reply.code reply.lines (calm n) ≡ enters_with n.job (record (calm n) { standing = Standings.Entered })

-- a reply of the login stands alone on its way, and leads to the next place or ends the login
told_at : (state : State) (place : LoginPlace) (reply : Reply) (more : List Reply) (n : Near) (f : Far) → Answering (reply ∷ more) ≡ way_at_login place n → LogsIn state place n f
    → (more ≡ []) × (NextPlace state n f reply ⊎ LoginEnds state n f reply)
told_at state Greets reply more n f way logs =
    (rest_of way, inl (subst (NextPlace state n f) (sym (reply_of_way way)) (greeting_heard state n f logs)))
told_at state AsksUser reply more n f way logs = absurd (no_asking (line_of (Commands.User n.user)) _ (sym way))
told_at state WantsPass reply more n f way logs =
    (rest_of way, inl (subst (NextPlace state n f) (sym (reply_of_way way)) (password_heard state n f logs)))
told_at state AsksPass reply more n f way logs = absurd (no_asking (line_of (Commands.Pass n.pass)) _ (sym way))
told_at state (Answers admitted to_pass) reply more n f way logs = (
  rest_of way,
  inr (subst (LoginEnds state n f) (sym (reply_of_way way))
      (record { admitted = admitted; to_pass = to_pass; logs = logs; is = last_heard admitted to_pass n logs.standing })),
)

-- the client behind the login
entered_is : (n : Near) (job : Job) → n.connection ≡ NearData.Free → n.closing ≡ false → n.run ≡ None
    → record (calm n) { standing = Standings.Entered; job = job } ≡ record (calm (resting n)) { job = job }
entered_is n job connection closing run = λ i. record (calm n) { standing = Standings.Entered; job = job; connection = connection i; closing = closing i; run = run i }

-- ---- no operation

-- with no operation each line and each reply leads on, through the login to rest
pub free_turns : (read : Reading) (state : State) → IsReading read → Turns read (AtFree state)
free_turns read state reads = record { asked = asked_free; told = told_free }
  where
    asked_free : (text : List ℕ) (n : Near) (f : Far) → AtFree state (Asking text) n f → (t : FarTurn read f text) × AtFree state (Answering t.replies) n t.far
    asked_free text n f (inl (logging, idle)) =
        let next = asked_at read state logging.place text n f reads logging.way_is logging.logs in
        (next.0, inl (next.1, idle))
    asked_free text n f (inr (way, entered, stands)) = absurd (no_asking text [] way)

    told_free : (reply : Reply) (more : List Reply) (n : Near) (f : Far) → AtFree state (Answering (reply ∷ more)) n f
        → (t : NearTurn n reply more) × AtFree state (behind t.line more) t.near f
    told_free reply more n f (inl (logging, idle)) =
        let next = told_at state logging.place reply more n f logging.way_is logging.logs in
        by_next next.0 next.1
      where
        by_next : more ≡ [] → NextPlace state n f reply ⊎ LoginEnds state n f reply → (t : NearTurn n reply more) × AtFree state (behind t.line more) t.near f
        by_next none (inl next) =
            (record { near = next.near; line = Some next.line; is = next.is; fine = (next.fine, none) }, inl (next.logging, next.job ∙ idle))
        by_next none (inr ends) = (
          record {
            near = resting n;
            line = None;
            is = ends.is ∙ ap (λ job. enters_with job (record (calm n) { standing = Standings.Entered; job = job })) idle
                ∙ entered_is n Idle ends.logs.connection ends.logs.closing ends.logs.run;
            fine = tt;
          },
          inr (ap Answering none, refl, stands_behind state ends.admitted ends.to_pass n (resting n) f ends.logs refl (meets_at_rest n f ends.logs.meets)),
        )
    told_free reply more n f (inr (way, entered, stands)) = absurd (no_reply reply more way)

-- ---- an operation

-- with an operation each line and each reply leads on, if it does so from where the login ends
pub operation_turns : (read : Reading) (state : State) (op : Op (List ℕ)) (Along Goal : Near → Far → Type 0) → IsReading read
    → ((n : Near) (f : Far) → Stands state n f → LeadsBy read Along Goal op n f) → Turns read (IsOnWay read state op Along Goal)
operation_turns read state op Along Goal reads leads_on = record { asked = asked_op; told = told_op }
  where
    At : Way → Near → Far → Type 0
    At way n f = IsOnWay read state op Along Goal way n f

    asked_leads : (left : ℕ) (text : List ℕ) (n : Near) (f : Far) → Leads read Along Goal left (Asking text) n f
        → (t : FarTurn read f text) × At (Answering t.replies) n t.far
    asked_leads zero text n f leads = absurd leads
    asked_leads (suc left) text n f leads = (leads.1, inr (left, leads.2))

    asked_op : (text : List ℕ) (n : Near) (f : Far) → At (Asking text) n f → (t : FarTurn read f text) × At (Answering t.replies) n t.far
    asked_op text n f (inl (logging, waiting)) =
        let next = asked_at read state logging.place text n f reads logging.way_is logging.logs in
        (next.0, inl (next.1, waiting))
    asked_op text n f (inr (left, leads)) = asked_leads left text n f leads

    told_leads : (left : ℕ) (reply : Reply) (more : List Reply) (n : Near) (f : Far)
        → Leads read Along Goal left (Answering (reply ∷ more)) n f → (t : NearTurn n reply more) × At (behind t.line more) t.near f
    told_leads zero reply more n f leads = absurd leads
    told_leads (suc left) reply more n f leads = (leads.1, inr (left, leads.2))

    told_op : (reply : Reply) (more : List Reply) (n : Near) (f : Far) → At (Answering (reply ∷ more)) n f → (t : NearTurn n reply more) × At (behind t.line more) t.near f
    told_op reply more n f (inl (logging, waiting)) =
        let next = told_at state logging.place reply more n f logging.way_is logging.logs in
        by_next next.0 next.1
      where
        by_next : more ≡ [] → NextPlace state n f reply ⊎ LoginEnds state n f reply → (t : NearTurn n reply more) × At (behind t.line more) t.near f
        by_next none (inl next) =
            (record { near = next.near; line = Some next.line; is = next.is; fine = (next.fine, none) }, inl (next.logging, next.job ∙ waiting))
        by_next none (inr ends) =
            let on : LeadsBy read Along Goal op n f = leads_on n f (stands_behind state ends.admitted ends.to_pass n n f ends.logs refl ends.logs.meets) in
            let To : List Reply → Type 0 = λ more. (t : NearTurn n reply more) × At (behind t.line more) t.near f in
            subst To (sym none) (
              record {
                near = on.near;
                line = on.line;
                is = ends.is ∙ ap (λ job. enters_with job (record (calm n) { standing = Standings.Entered; job = job })) waiting
                    ∙ ap (begins op) (entered_is n (Waiting op) ends.logs.connection ends.logs.closing ends.logs.run) ∙ on.begins_so (Waiting op);
                fine = on.fine;
              },
              inr (on.left, on.leads),
            )
    told_op reply more n f (inr (left, leads)) = told_leads left reply more n f leads
