-- What every operation of one command shares: refused, or done.
use Rattle.std.proofs.Common.{◌≡◌, inl, inr, ℕ, Bool, true, false, List, [], Option, Some, None, refl, sym, ap, ◌∙◌}
use Rattle.std.specs.Prelude.{if◌then◌else◌}
use Rattle.ftp_command.specs.Line.{line_of}
use Rattle.ftp_command.specs.declared.command.Command.{Command}
use Rattle.ftp_operation.specs.Answer.{Said, Refused, BadOperation}
use Rattle.ftp_operation.specs.Operation.{can_be_sent}
use Rattle.ftp_operation.specs.declared.op.Op.{Op}
use Rattle.ftp_direct.specs.Direct.{State, answer, barred, chosen, done, or_refused, refusal}
use Rattle.ftp_direct.specs.Refusal.{code_of}
use Rattle.ftp_direct.specs.declared.refusal.Refusal.{Refusal}
use Rattle.ftp_direct.specs.declared.refusal.Refusal.TheVariants as Refusals
use Rattle.ftp_tree.specs.Tree.{Table}
use Rattle.ftp_client_model.specs.Dialogue.{awaits_reply}
use Rattle.ftp_client_model.specs.Replies.{Negative, verdict_of}
use Rattle.ftp_client_model.specs.View.{View as Near}
use Rattle.ftp_client_model.specs.declared.client.Step.{Step}
use Rattle.ftp_server_model.specs.Machine.{Reading}
use Rattle.ftp_server_model.specs.Replies.{fixed_reply}
use Rattle.ftp_server_model.specs.Texts.{fixed_reply_code as reply_code}
use Rattle.ftp_server_model.specs.View.{Session, View as Far, direct_of, all_facts}
use Rattle.ftp_server_model.specs.Walk.{refusal_text}
use Rattle.ftp_server_model.specs.declared.reply.ReplyKind.TheVariants as Replies
use Rattle.laws_dialogues.specs.Stage.{calm, Asking, Leads}
use Rattle.laws_dialogues.specs.Dialogue.{is_set_aside, FarWaits, ArePeersOfOneFamily, Sees, Passes, Ends, doing, told}
use Rattle.laws_dialogues.proofs.ServerTurns.{cleared, decides}
use Rattle.laws_dialogues.proofs.Exchanges.{IsSent, with_session, Exchange, exchange, near_refused_is}

-- ---- what a turn of the server leaves as it is

pub record Keeps (old new : Session) : Type 0 where
  pub connection : new.connection ≡ old.connection
  pub closing : new.closing ≡ old.closing
  pub life : new.life ≡ old.life
  pub settings : new.settings ≡ old.settings
  pub facts : new.facts ≡ old.facts
  pub all_ways : new.only_extended ≡ old.only_extended

-- a server that waits still waits with a session that keeps connection, closing and life
pub waits_on : (f : Far) (new : Session) → Keeps f.session new → FarWaits f → FarWaits (with_session new f)
waits_on f new keeps waits = record {
  aside = ap is_set_aside keeps.connection ∙ waits.aside;
  closing = keeps.closing ∙ waits.closing;
  life = keeps.life ∙ waits.life;
}

-- a session whose pending command is cleared keeps all that a turn leaves as it is
pub keeps_cleared : (f : Far) → Keeps f.session (cleared f)
keeps_cleared f = record { connection = refl; closing = refl; life = refl; settings = refl; facts = refl; all_ways = refl }

-- a session with its pending command cleared still sees the state
pub sees_cleared : (state : State) (f : Far) → Sees state f.session → Sees state (cleared f)
sees_cleared state f s = record { table = s.table; known = s.known; root = s.root; rights = s.rights; cwd = s.cwd }

-- what the direct run sees of the session
pub direct_is : (state : State) (s : Session) → Sees state s → state.known ≡ true → direct_of s ≡ state
direct_is state s sees known = λ i. record { table = sees.table i; root = sees.root known i; cwd = sees.cwd i; known = sym known i; rights = sees.rights known i }

-- ---- the last exchange of an operation

-- an exchange that tells the result, at a server that keeps its session and sees the result's state, ends the operation in two turns
pub last_exchange : (read : Reading) (before : Table) (op : Op (List ℕ)) (step : Step) (command : Command (List ℕ)) (result : Said × State) (n : Near) (f : Far) (after : Session)
    → IsSent read command → FarWaits f → (f.session.table ≡ before) → f.session.settings ≡ n.settings → f.session.facts ≡ all_facts → ArePeersOfOneFamily n f
    → Keeps f.session after → Sees result.1 after → Exchange command (doing op step n) (told result.0 n) None f after
    → Leads read (Passes before result.1.table) (Ends result) 2 (Asking (line_of command)) (doing op step n) f
last_exchange read before op step command result n f after sent waits table settings facts meets keeps sees x =
    let later : FarWaits (with_session after f) = waits_on f after keeps waits in
    exchange read (Passes before result.1.table) (Ends result) 0 command (doing op step n) (told result.0 n) None f after sent waits later x
    (record { near = record { sound = refl; connection = refl; closing = refl }; far = waits; busy = refl; untold = refl; table = inl table })
    (record { near = record { sound = refl; connection = refl; closing = refl }; far = later; busy = refl; untold = refl; table = inr sees.table })
    tt
    (record {
      near = refl;
      stands = record {
        meets = record { peer = meets.peer; here = meets.here; typed = meets.typed; own = meets.own; family = meets.family; all_ways = keeps.all_ways ∙ meets.all_ways };
        far = later;
        sees = sees;
        settings = keeps.settings ∙ settings;
        facts = keeps.facts ∙ facts;
      };
    })

-- ---- a refusal

-- the reply of a refusal has the code of the refusal
pub tells_code : (why : Refusal) → reply_code (refusal_text why) ≡ code_of why
tells_code Refusals.LocalFault = refl
tells_code Refusals.NoRoom = refl
tells_code Refusals.BadArgument = refl
tells_code Refusals.BadParameter = refl
tells_code Refusals.NotLoggedIn = refl
tells_code Refusals.Unavailable = refl
tells_code Refusals.NotAllowed = refl
tells_code Refusals.TooMuch = refl
tells_code Refusals.BadName = refl

-- the reply of a refusal is a negative one
pub is_negative : (why : Refusal) → verdict_of (reply_code (refusal_text why)) ≡ Negative
is_negative Refusals.LocalFault = refl
is_negative Refusals.NoRoom = refl
is_negative Refusals.BadArgument = refl
is_negative Refusals.BadParameter = refl
is_negative Refusals.NotLoggedIn = refl
is_negative Refusals.Unavailable = refl
is_negative Refusals.NotAllowed = refl
is_negative Refusals.TooMuch = refl
is_negative Refusals.BadName = refl

-- a refused command is an exchange that tells the client the code of its refusal and clears what was pending
pub refused_exchange : (op : Op (List ℕ)) (step : Step) (command : Command (List ℕ)) (why : Refusal) (n : Near) (f : Far) → awaits_reply step ≡ true
    → decides command f ≡ (cleared f, Replies.Fixed (refusal_text why)) → Exchange command (doing op step n) (told (Refused (code_of why)) n) None f (cleared f)
refused_exchange op step command why n f awaits decided = record {
  kind = Replies.Fixed (refusal_text why);
  reply = fixed_reply (refusal_text why);
  decided = decided;
  within = tt;
  said = refl;
  heard = near_refused_is op step n (reply_code (refusal_text why)) (fixed_reply (refusal_text why)).lines (is_negative why) awaits
      ∙ ap (λ code. record (calm (told (Refused code) n)) { owed = [] }) (tells_code why);
}

-- ---- rights

-- nor is it refused for another reason
pub may_none : (may : Bool) (why : Option Refusal) → or_refused (barred may) why ≡ None → why ≡ None
may_none true why none = none
may_none false why none = absurd (cc)

-- ---- the answer of the direct run

-- with a login, an operation that can be sent is answered by its refusal, or done
pub answer_known : (state : State) (op : Op (List ℕ)) (moment : ℕ) (why : Option Refusal) → can_be_sent op ≡ true → state.known ≡ true → refusal state op ≡ why
    → chosen why state (done state op moment) ≡ answer state op moment
unfolding answer
answer_known state op moment why can known is = sym (
    ap (λ (b : Bool). if b then chosen (if state.known then refusal state op else Some Refusals.NotLoggedIn) state (done state op moment) else (BadOperation, state)) can
    ∙ ap (λ (b : Bool). chosen (if b then refusal state op else Some Refusals.NotLoggedIn) state (done state op moment)) known
    ∙ ap (λ w. chosen w state (done state op moment)) is)

-- without a login, an operation that can be sent is answered with 530 and changes nothing
pub answer_unknown : (state : State) (op : Op (List ℕ)) (moment : ℕ) → can_be_sent op ≡ true → state.known ≡ false
    → (Refused 530, state) ≡ answer state op moment
unfolding answer
answer_unknown state op moment can known = sym (
    ap (λ (b : Bool). if b then chosen (if state.known then refusal state op else Some Refusals.NotLoggedIn) state (done state op moment) else (BadOperation, state)) can
    ∙ ap (λ (b : Bool). chosen (if b then refusal state op else Some Refusals.NotLoggedIn) state (done state op moment)) known)
