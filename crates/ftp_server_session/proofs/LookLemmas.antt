-- What a command does after its tree looked somewhere, said of the whole of it.
use Rattle.std.proofs.Common.{◌≡◌, ◌∙◌, ◌≤◌, ap, arith, refl, sym}
use Rattle.std.specs.Prelude.{Result, Ok, Err}
use Rattle.ftp_path.specs.Path.{Names}
use Rattle.ftp_tree.specs.Change.{Failures, IsSteady, NoStray, next_count}
use Rattle.ftp_tree.specs.Tree.{Table}
use Rattle.ftp_server_model.specs.Replies.{Turn}
use Rattle.ftp_server_model.specs.View.{Session, Transfer}
use Rattle.ftp_server_model.specs.declared.reply.ReplyKind.{ReplyKind}
use Rattle.ftp_server_replies.specs.Fault.{Counted}
use Rattle.ftp_server_replies.specs.declared.fault.Fault.{Fault}
use Rattle.ftp_server_replies.specs.declared.fault.Fault.TheVariants.{Memory, Device}
use Rattle.ftp_server_replies.proofs.SteadyLemmas.{steady_twice}
use Rattle.ftp_server_session.specs.Session.{Looks, Turns, session_of}
use Rattle.ftp_server_session.specs.declared.session.Session.{Session as Held}

-- ---- counts

-- how the counts move in a command, whatever its device gives
abbrev pub Moves : {X : Type 0} → Result X Fault → (before after : Failures) → Type 0
Moves (Ok done) before after = IsSteady before after
Moves (Err fault) before after = Counted fault before after

-- behind a call that tells no failure a fault counts as it did
pub steady_counted : (fault : Fault) (a b c : Failures) → IsSteady a b → Counted fault b c → Counted fault a c
steady_counted Memory a b c first second = steady_twice a b c first second
steady_counted Device a b c first second = (second.0 ∙ ap next_count first.0, omega (arith, first.1, second.1))

-- strays never fall at a fault
pub fault_strays : (fault : Fault) (a b : Failures) → Counted fault a b → a.strays ≤ b.strays
fault_strays Memory a b counted = counted.1
fault_strays Device a b counted = counted.1

-- a command's counts move on behind a look
pub moves_on : {X : Type 0} (result : Result X Fault) (a b c : Failures) → IsSteady a b → Moves result b c → Moves result a c
moves_on (Ok done) a b c first second = steady_twice a b c first second
moves_on (Err fault) a b c first second = steady_counted fault a b c first second

-- ---- the look

-- a session that was looked at is seen as it was, where the device did not stray
pub looked_same : {A T J X : Type 0} (table : T → Table) (failures : T → Failures) (view : J → Transfer) (old mid : Held A T J) (looking : Result X Fault)
    → Looks table failures old mid looking → NoStray (failures old.tree) (failures mid.tree) → session_of table view mid ≡ session_of table view old
looked_same table failures view old mid (Ok done) looks none =
    ap (session_of table view) looks.0 ∙ ap (λ t. record (session_of table view old) { table = t }) (looks.1 none)
looked_same table failures view old mid (Err fault) looks none =
    ap (session_of table view) looks.0 ∙ ap (λ t. record (session_of table view old) { table = t }) (looks.1 none)

-- how a command's counts move is part of what it leaves
pub turns_moves : {A T J : Type 0} (table : T → Table) (failures : T → Failures) (view : J → Transfer) (row : Session → Turn) (old new : Held A T J)
    (result : Result (ReplyKind Names) Fault) → Turns table failures view row old new result → Moves result (failures old.tree) (failures new.tree)
turns_moves table failures view row old new (Ok kind) turns = turns.1
turns_moves table failures view row old new (Err fault) turns = turns.1

-- a command's row is that of the session that was looked at, where the device did not stray at the look
pub looked_when : {A T J X : Type 0} (table : T → Table) (failures : T → Failures) (view : J → Transfer) (row : Session → Turn) (old mid new : Held A T J) (done : X)
    (result : Result (ReplyKind Names) Fault) → Looks table failures old mid (Ok done) → Moves result (failures mid.tree) (failures new.tree)
    → (NoStray (failures old.tree) (failures mid.tree) → Turns table failures view row mid new result) → Turns table failures view row old new result
looked_when table failures view row old mid new done (Ok kind) looks moves turns = (
  λ none.
      let first : NoStray (failures old.tree) (failures mid.tree) = omega (arith, none, looks.2, moves) in
      let second : NoStray (failures mid.tree) (failures new.tree) = none ∙ sym first in
      (turns first).0 second ∙ ap row (looked_same table failures view old mid (Ok done) looks first),
  moves_on (Ok kind) (failures old.tree) (failures mid.tree) (failures new.tree) looks.2 moves,
)
looked_when table failures view row old mid new done (Err fault) looks moves turns = (
  λ none.
      let first : NoStray (failures old.tree) (failures mid.tree) = omega (arith, none, looks.2, fault_strays fault _ _ moves) in
      let second : NoStray (failures mid.tree) (failures new.tree) = none ∙ sym first in
      (turns first).0 second ∙ looked_same table failures view old mid (Ok done) looks first,
  moves_on {X = ReplyKind Names} (Err fault) (failures old.tree) (failures mid.tree) (failures new.tree) looks.2 moves,
)

-- so a command that was looked for leaves its row
pub looked_turns : {A T J X : Type 0} (table : T → Table) (failures : T → Failures) (view : J → Transfer) (row : Session → Turn) (old mid new : Held A T J) (done : X)
    (result : Result (ReplyKind Names) Fault) → Looks table failures old mid (Ok done) → Turns table failures view row mid new result
    → Turns table failures view row old new result
looked_turns table failures view row old mid new done result looks turns =
    looked_when table failures view row old mid new done result looks (turns_moves table failures view row mid new result turns) (λ first. turns)
