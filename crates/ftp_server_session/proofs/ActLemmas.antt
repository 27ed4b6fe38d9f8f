-- A command is what its arm took it for.
use Rattle.std.proofs.Common.{◌≡◌, ℕ, List, true, subst, sym, ap, refl, ◌∙◌}
use Rattle.std.specs.Prelude.{OnErr, Result, Ok, Err}
use Rattle.ftp_command.specs.declared.command.Command.{Command}
use Rattle.ftp_path.specs.Path.{Names}
use Rattle.ftp_tree.specs.Change.{Failures}
use Rattle.ftp_tree.specs.Tree.{Table}
use Rattle.ftp_tree.proofs.DeviceLemmas.{same-steady}
use Rattle.ftp_server_replies.specs.declared.fault.Fault.{Fault}
use Rattle.ftp_server_model.specs.Act.{act}
use Rattle.ftp_server_model.specs.Failing.{may_fail}
use Rattle.ftp_server_model.specs.View.{Context, Transfer}
use Rattle.ftp_server_model.specs.declared.reply.ReplyKind.{ReplyKind}
use Rattle.ftp_server_model.specs.declared.session.Pending.{Pending}
use Rattle.ftp_server_session.specs.Session.{Turns, session_of}
use Rattle.ftp_server_session.specs.declared.session.Session.{Session as Held}

-- so its row is that of the arm
pub by_row : {A T J : Type 0} (table : T → Table) (failures : T → Failures) (view : J → Transfer) (context : Context) (pending : Pending Names) (old new : Held A T J)
    (result : Result (ReplyKind Names) Fault) (command arm : Command (List ℕ)) → command ≡ arm
    → Turns table failures view (act context arm pending) old new result → Turns table failures view (act context command pending) old new result
by_row table failures view context pending old new result command arm is turns =
    subst (λ k. Turns table failures view (act context k pending) old new result) (sym is) turns

-- where it has a fixed reply and changes nothing
pub by_reply : {A T J : Type 0} (table : T → Table) (failures : T → Failures) (view : J → Transfer) (context : Context) (pending : Pending Names) (old : Held A T J)
    (kind : ReplyKind Names) (command arm : Command (List ℕ)) → command ≡ arm
    → (session_of table view old, kind) ≡ act context arm pending (session_of table view old) → Turns table failures view (act context command pending) old old (Ok kind)
by_reply table failures view context pending old kind command arm is same =
    by_row table failures view context pending old old (Ok kind) command arm is (λ none. same, same-steady (failures old.tree) (failures old.tree) refl)

-- and what it leaves where the arm can't fail and asks nothing that may stray
pub by_turn : {A T J : Type 0} (table : T → Table) (failures : T → Failures) (view : J → Transfer) (context : Context) (pending : Pending Names) (old new : Held A T J)
    (kind : ReplyKind Names) (command arm : Command (List ℕ)) → command ≡ arm
    → (session_of table view new, kind) ≡ act context arm pending (session_of table view old) → new.tree ≡ old.tree
    → Turns table failures view (act context command pending) old new (Ok kind)
by_turn table failures view context pending old new kind command arm is turn tree =
    by_row table failures view context pending old new (Ok kind) command arm is
    (λ none. turn, same-steady (failures old.tree) (failures new.tree) (ap failures tree))

-- and it may fail where the arm's may
pub by_arm : (result : Result (ReplyKind Names) Fault) (command arm : Command (List ℕ)) → command ≡ arm → may_fail arm ≡ true → OnErr result (may_fail command ≡ true)
by_arm (Ok kind) command arm is may = tt
by_arm (Err fault) command arm is may = ap may_fail is ∙ may
