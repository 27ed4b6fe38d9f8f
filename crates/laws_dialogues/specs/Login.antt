-- The login: how far both ends are with it, and what an operation that was begun before its end, or none, waits for (RFC 959, section
-- 5.4).
use Rattle.std.specs.Prelude.{◌≡◌, ◌⊎◌, ℕ, Bool, true, false, List, [], ◌∷◌, Some, None}
use Rattle.ftp_command.specs.Argument.{IsName, IsPassword}
use Rattle.ftp_command.specs.Line.{line_of}
use Rattle.ftp_command.specs.declared.command.Command.TheVariants as Commands
use Rattle.ftp_operation.specs.Account.{Account, login_account}
use Rattle.ftp_operation.specs.Answer.{Said}
use Rattle.ftp_operation.specs.declared.op.Op.{Op}
use Rattle.ftp_direct.specs.Direct.{State, start as direct_start}
use Rattle.ftp_client_model.specs.View.{View as Near, Idle, Waiting}
use Rattle.ftp_client_model.specs.declared.client.ClientLink.TheVariants as NearData
use Rattle.ftp_client_model.specs.declared.client.Standing.{Standing}
use Rattle.ftp_client_model.specs.declared.client.Standing.TheVariants as Standings
use Rattle.ftp_server_model.specs.Login.{open_account}
use Rattle.ftp_server_model.specs.Machine.{Reading}
use Rattle.ftp_server_model.specs.Replies.{fixed_reply}
use Rattle.ftp_server_model.specs.View.{View as Far, all_facts}
use Rattle.ftp_server_model.specs.declared.reply.FixedReply.{FixedReply}
use Rattle.ftp_server_model.specs.declared.reply.FixedReply.TheVariants as Texts
use Rattle.ftp_server_model.specs.declared.session.Access.TheVariants as Accesses
use Rattle.laws_dialogues.specs.Stage.{Way, Asking, Answering, rest, Leads}
use Rattle.laws_dialogues.specs.Dialogue.{FarWaits, ArePeersOfOneFamily, Sees, Passes, Stands, Ends, resting}

-- what is on its way: the greeting, USER, the 331, PASS, or the last reply, to USER or to PASS
pub data LoginPlace : Type 0 where
  Greets : LoginPlace
  AsksUser : LoginPlace
  WantsPass : LoginPlace
  AsksPass : LoginPlace
  Answers : (admitted : Bool) → (to_pass : Bool) → LoginPlace

-- the last reply
abbrev pub last_text : Bool → FixedReply
last_text true = Texts.LoggedIn
last_text false = Texts.LoginRefused

-- the unit that is on its way
abbrev pub way_at_login : LoginPlace → Near → Way
way_at_login Greets n = Answering (fixed_reply Texts.Ready ∷ [])
way_at_login AsksUser n = Asking (line_of (Commands.User n.user))
way_at_login WantsPass n = Answering (fixed_reply Texts.PasswordNeeded ∷ [])
way_at_login AsksPass n = Asking (line_of (Commands.Pass n.pass))
way_at_login (Answers admitted to_pass) n = Answering (fixed_reply (last_text admitted) ∷ [])

-- how far the client is
abbrev pub standing_in_login : LoginPlace → Standing
standing_in_login Greets = Standings.Greeting
standing_in_login AsksUser = Standings.User
standing_in_login WantsPass = Standings.User
standing_in_login AsksPass = Standings.Pass
standing_in_login (Answers admitted true) = Standings.Pass
standing_in_login (Answers admitted false) = Standings.User

-- who is logged in; before the last reply nobody is
abbrev pub IsAccessOf : LoginPlace → State → Near → Far → Type 0
IsAccessOf Greets state n f = f.session.access ≡ Accesses.Nobody
IsAccessOf AsksUser state n f = f.session.access ≡ Accesses.Nobody
IsAccessOf WantsPass state n f = f.session.access ≡ Accesses.AwaitsPass n.user
IsAccessOf AsksPass state n f = f.session.access ≡ Accesses.AwaitsPass n.user
IsAccessOf (Answers admitted to_pass) state n f = Sees state f.session

-- both ends during the login: it leads to the state where the direct run begins
pub record LogsIn (state : State) (place : LoginPlace) (n : Near) (f : Far) : Type 0 where
  pub standing : n.standing ≡ standing_in_login place
  pub connection : n.connection ≡ NearData.Free
  pub closing : n.closing ≡ false
  pub run : n.run ≡ None
  pub user : IsName n.user
  pub pass : IsPassword n.pass
  pub far : FarWaits f
  pub settings : f.session.settings ≡ n.settings
  pub facts : f.session.facts ≡ all_facts
  pub table : f.session.table ≡ state.table
  pub access : IsAccessOf place state n f
  pub meets : ArePeersOfOneFamily n f
  pub leads_to : state ≡ direct_start state.table (login_account f.context.accounts n.user n.pass)
  pub opens : (account : Account) → open_account f.context.accounts n.user ≡ Some account → login_account f.context.accounts n.user n.pass ≡ Some account

-- some place of the login
pub record Logging (state : State) (way : Way) (n : Near) (f : Far) : Type 0 where
  pub place : LoginPlace
  pub way_is : way ≡ way_at_login place n
  pub logs : LogsIn state place n f

-- ---- with no operation, and with one

-- no operation is under way: the login is, or nothing
abbrev pub AtFree : State → Way → Near → Far → Type 0
AtFree state way n f =
    (Logging state way n f × (n.job ≡ Idle)) ⊎ ((way ≡ rest) × (n ≡ resting n) × Stands state n f)

-- an operation waits for the end of the login, or is under way to a goal, with something that holds all along
abbrev pub IsOnWay : Reading → State → Op (List ℕ) → (Along Goal : Near → Far → Type 0) → Way → Near → Far → Type 0
IsOnWay read state op Along Goal way n f = (Logging state way n f × (n.job ≡ Waiting op)) ⊎ ((left : ℕ) × Leads read Along Goal left way n f)

-- it is under way to this answer and this state
abbrev pub AtOperation : Reading → State → Op (List ℕ) → Said × State → Way → Near → Far → Type 0
AtOperation read state op result way n f = IsOnWay read state op (Passes state.table result.1.table) (Ends result) way n f
