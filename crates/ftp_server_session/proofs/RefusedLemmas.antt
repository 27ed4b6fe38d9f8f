-- A call that the tree refused: what it makes of a command.
use Rattle.std.proofs.Common.{◌≡◌, ◌∙◌, ℕ, Bool, true, false, if◌then◌else◌, inl, inr, List, Option, Some, None, is_some, Result, Ok, Err, ap, arith, refl, sym}
use Rattle.std.specs.Option.{option_map}
use Rattle.ftp_path.specs.Path.{Names, fits, resolved}
use Rattle.ftp_tree.specs.Change.{Failures, IsRefused, TellsOne, one_failure_more}
use Rattle.ftp_tree.specs.Tree.{Table, moved, rename_refusal}
use Rattle.ftp_tree.specs.declared.fault.TreeFault.{TreeFault}
use Rattle.ftp_tree.specs.declared.fault.TreeFault.TheVariants as Faults
use Rattle.ftp_direct.specs.Direct.{barred, limited, or_refused, refused_name, refused_there}
use Rattle.ftp_direct.specs.declared.refusal.Refusal.{Refusal}
use Rattle.ftp_direct.specs.declared.refusal.Refusal.TheVariants as Refusals
use Rattle.ftp_direct.proofs.RefusalLemmas.{there_some}
use Rattle.ftp_tree.proofs.DeviceLemmas.{NoDevice, same-steady}
use Rattle.ftp_server_model.specs.Replies.{Turn, tells}
use Rattle.ftp_server_model.specs.View.{Session, Transfer, with_seen}
use Rattle.ftp_server_model.specs.Walk.{path_of, refusal_text, refused_source, renames, target_seen, unless}
use Rattle.ftp_server_model.specs.declared.reply.ReplyKind.{ReplyKind}
use Rattle.ftp_server_model.specs.declared.reply.ReplyKind.TheVariants as Replies
use Rattle.ftp_server_model.specs.declared.reply.FixedReply.{FixedReply}
use Rattle.ftp_server_model.specs.declared.reply.FixedReply.TheVariants as Texts
use Rattle.ftp_server_session.proofs.LookLemmas.{Moves}
use Rattle.ftp_server_session.specs.Session.{RefusedAs, Turns, session_of}
use Rattle.ftp_server_replies.specs.declared.fault.Fault.{Fault}
use Rattle.ftp_server_replies.specs.declared.fault.Fault.TheVariants.{Memory, Device}
use Rattle.ftp_server_session.specs.declared.session.Session.{Session as Held}

-- a tree that holds the same is seen as the same session
same_session : {A T J : Type 0} (table : T → Table) (view : J → Transfer) (old : Held A T J) (tree : T) → table tree ≡ table old.tree
    → session_of table view (record old { tree = tree }) ≡ session_of table view old
same_session table view old tree same =
    ap (λ t. record (session_of table view old) { table = t }) same

-- counts with one failure more tell one
one_told : (before after : Failures) → after ≡ one_failure_more before → TellsOne before after
one_told before after moved = (ap (λ f. f.told) moved, omega (arith, ap (λ f. f.strays) moved))

-- what a refused call makes of the counts
pub refused_moves : (refusal : Option TreeFault) (fault : TreeFault) (text : FixedReply) (result : Result (ReplyKind Names) Fault) (old new : Table) (before after : Failures)
    → IsRefused refusal fault old new before after → NoDevice refusal → RefusedAs fault text result → Moves result before after
refused_moves None fault text (Ok kind) old new before after (same, inl (memory, kept)) never told = absurd (told.1 memory)
refused_moves None fault text (Ok kind) old new before after (same, inr (device, moved)) never told = absurd (told.2 device)
refused_moves (Some why) fault text (Ok kind) old new before after (same, (reason, kept)) never told = same-steady before after kept
refused_moves None fault text (Err Memory) old new before after (same, inl (memory, kept)) never told = same-steady before after kept
refused_moves None fault text (Err Memory) old new before after (same, inr (device, moved)) never told = absurd (cc)
refused_moves (Some why) fault text (Err Memory) old new before after (same, (reason, kept)) never told = same-steady before after kept
refused_moves None fault text (Err Device) old new before after (same, inl (memory, kept)) never told = absurd (cc)
refused_moves None fault text (Err Device) old new before after (same, inr (device, moved)) never told = one_told before after moved
refused_moves (Some why) fault text (Err Device) old new before after (same, (reason, kept)) never told = absurd (never (ap Some (sym reason ∙ told)))

-- what a refused call leaves and answers is the row: where the map gave a reason, this reply is due
pub tree_refused : {A T J : Type 0} (table : T → Table) (failures : T → Failures) (view : J → Transfer) (row : Session → Turn) (old : Held A T J) (tree : T)
    (refusal : Option TreeFault) (fault : TreeFault) (text : FixedReply) (result : Result (ReplyKind Names) Fault)
    → IsRefused refusal fault (table old.tree) (table tree) (failures old.tree) (failures tree) → NoDevice refusal → RefusedAs fault text result
    → ((why : TreeFault) → refusal ≡ Some why → row (session_of table view old) ≡ (session_of table view old, Replies.Fixed text))
    → Turns table failures view row old (record old { tree = tree }) result
tree_refused table failures view row old tree None fault text (Ok kind) (same, inl (memory, kept)) never told due = absurd (told.1 memory)
tree_refused table failures view row old tree None fault text (Ok kind) (same, inr (device, moved)) never told due = absurd (told.2 device)
tree_refused table failures view row old tree (Some why) fault text (Ok kind) (same, (reason, kept)) never told due = (
  λ none. ap (λ s. (s, kind)) (same_session table view old tree same) ∙ ap (λ k. (session_of table view old, k)) told.0 ∙ sym (due why refl),
  same-steady (failures old.tree) (failures tree) kept,
)
tree_refused table failures view row old tree refusal fault text (Err lost) refused never told due =
    (λ none. same_session table view old tree refused.0, refused_moves refusal fault text (Err lost) (table old.tree) (table tree) (failures old.tree) (failures tree) refused never told)

-- ---- the reply that is due

-- of an account that may do it
pub may_due : (s : Session) (turn row : Turn) (may : Bool) (why : Option Refusal) → may ≡ true → unless why s turn ≡ row → unless (or_refused (barred may) why) s turn ≡ row
may_due s turn row may why is due = ap (λ b. unless (or_refused (barred b) why) s turn) is ∙ due

-- by what stands there
pub there_due : (s : Session) (turn : Turn) (named path : Names) (refusal : Names → Option TreeFault) (why : TreeFault) → path ≡ named → fits path ≡ true → refusal path ≡ Some why
    → unless (refused_there (limited named (refusal named))) s turn ≡ (s, Replies.Fixed Texts.Refused)
there_due s turn named path refusal why is fit e =
    ap (λ r. unless r s turn) (there_some (fits named) (refusal named) (ap fits (sym is) ∙ fit) (ap (λ p. is_some (refusal p)) (sym is) ∙ ap is_some e))

name_some : (fit : Bool) (refusal : Option TreeFault) → fit ≡ true → is_some refusal ≡ true → refused_name (if fit then refusal else Some Faults.TooBig) ≡ Some Refusals.BadName
name_some false refusal fit some = absurd (cc)
name_some true None fit some = absurd (cc)
name_some true (Some fault) fit some = refl

-- by the new name
name_due : (s : Session) (turn : Turn) (named path : Names) (refusal : Names → Option TreeFault) (why : TreeFault) → path ≡ named → fits path ≡ true → refusal path ≡ Some why
    → unless (refused_name (limited named (refusal named))) s turn ≡ (s, Replies.Fixed Texts.NameRefused)
name_due s turn named path refusal why is fit e =
    ap (λ r. unless r s turn) (name_some (fits named) (refusal named) (ap fits (sym is) ∙ fit) (ap (λ p. is_some (refusal p)) (sym is) ∙ ap is_some e))

-- ---- RNTO

pub source_none : (why : Option Refusal) → None ≡ option_map refusal_text why → why ≡ None
source_none None none = refl
source_none (Some why) none = absurd (cc)

-- it is not: the new name decides
pub by_name : (s : Session) (from to : Names) → None ≡ option_map refusal_text (refused_source s from)
    → renames from to s ≡ unless (refused_name (limited to (rename_refusal (target_seen s from to) from to))) s (tells Texts.Done (with_seen (moved (target_seen s from to) from to) s))
by_name s from to none =
    ap (λ why. unless (or_refused why (refused_name (limited to (rename_refusal (target_seen s from to) from to)))) s (tells Texts.Done (with_seen (moved (target_seen s from to) from to) s)))
    (source_none (refused_source s from) none)

pub rename_due : (s : Session) (from to : Names) (text : List ℕ) (why : TreeFault) → to ≡ resolved s.cwd text → fits to ≡ true → rename_refusal (target_seen s from to) from to ≡ Some why
    → None ≡ option_map refusal_text (refused_source s from) → renames from (path_of s text) s ≡ (s, Replies.Fixed Texts.NameRefused)
rename_due s from to text why is fit e none =
    by_name s from (path_of s text) none
    ∙ name_due s (tells Texts.Done (with_seen (moved (target_seen s from (path_of s text)) from (path_of s text)) s)) (path_of s text) to (λ to. rename_refusal (target_seen s from to) from to) why is fit e
