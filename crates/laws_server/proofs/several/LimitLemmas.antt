-- No call changes the limits of the map.
use Rattle.std.proofs.Common.{◌≡◌, ◌∙◌, ℕ, List, [], ◌∷◌, Bool, true, false, Option, Some, None, refl, ap}
use Rattle.std.proofs.lemmas.Bool.{cond_both}
use Rattle.ftp_direct.specs.Direct.{State}
use Rattle.ftp_direct.specs.declared.refusal.Refusal.{Refusal}
use Rattle.ftp_path.specs.Path.{Names}
use Rattle.ftp_tree.proofs.PartLemmas.{part-limits, under-limits}
use Rattle.ftp_tree.specs.Tree.{Table, installed}
use Rattle.ftp_wire.specs.Decoder.{broken, ended, is_whole}
use Rattle.ftp_server_model.specs.Act.{decided}
use Rattle.ftp_server_model.specs.Machine.{at_break, at_end, completed, end_refusal, ends_by, installs, obeyed, put_together, turned, breaks_off}
use Rattle.ftp_server_model.specs.Play.{Cue, call}
use Rattle.ftp_server_model.specs.View.{Context, Session, Transfer, View, seen, with_seen}
use Rattle.ftp_server_model.specs.Machine.{Reading}
use Rattle.ftp_server_model.specs.declared.heard.HeardLine.{HeardLine}
use Rattle.ftp_server_model.specs.declared.reply.FixedReply.{FixedReply}
use Rattle.ftp_server_model.specs.declared.reply.FixedReply.TheVariants as Texts
use Rattle.ftp_server_model.specs.declared.session.Keep.{Keep}
use Rattle.ftp_server_model.specs.declared.session.Pending.{Pending}
use Rattle.ftp_server_model.specs.declared.session.Pending.TheVariants as Pendings
use Rattle.ftp_server_model.specs.declared.session.Transfer.TheVariants as Transfers
use Rattle.laws_server.specs.several.Actions.{AreActions, SessionAction, IsSame, acts, ends, breaks, rests}
use Rattle.laws_server.proofs.several.ActionLemmas.{calls_are_actions, same_given_out}
use Rattle.laws_server.specs.one.Maps.{Changes, Mapped, MappedSo, Unchanged, line_changes}
use Rattle.laws_server.proofs.one.FileLemmas.{installed-limits}
use Rattle.laws_server.proofs.one.LineTurns.{lines_change_the_map}
use Rattle.ftp_server_model.specs.Keep.{is_overtaken}

-- a session over a map of the same limits
abbrev Keeps : (s t : Session) → Type 0
Keeps s t = t.table.limits ≡ s.table.limits

-- with another part of the same limits
part_keeps : (s : Session) (part : Table) → part.limits ≡ (seen s).limits → Keeps s (with_seen part s)
part_keeps s part same = part-limits s.table s.root part ∙ same ∙ under-limits s.table s.root

-- ---- a line

mapped_keeps : (mapped : Mapped) (changing : Bool) (s : Session) (table : Table) → MappedSo mapped changing s table → table.limits ≡ s.table.limits
mapped_keeps Unchanged changing s table is = ap (λ (t : Table). t.limits) is
mapped_keeps (Changes new) changing s table is = ap (λ (t : Table). t.limits) is.2 ∙ part_keeps s new is.3

decided_keeps : (context : Context) (heard : HeardLine (List ℕ)) (pending : Pending Names) (s : Session) → Keeps s (decided context heard pending s).0
decided_keeps context heard pending s =
    let of = lines_change_the_map context heard pending s in
    mapped_keeps of.0 (line_changes pending heard) s (decided context heard pending s).0.table of.1

-- what the direct run sees nothing of
same_keeps : (s t : Session) → IsSame s t → Keeps s t
same_keeps s t same = ap (λ (state : State). state.table.limits) same

obeyed_keeps : (heard : HeardLine (List ℕ)) (v : View) → Keeps v.session (obeyed heard v).session
unfolding obeyed
obeyed_keeps heard v =
    let s : Session = record v.session { pending = Pendings.Nothing } in
    let w : View = turned (decided v.context heard v.session.pending s) v in
    same_keeps w.session (completed w).session (same_given_out w.session.connection w) ∙ decided_keeps v.context heard v.session.pending s

-- ---- the end of a transfer

put_keeps : (why : Option Refusal) (moment : ℕ) (path : Names) (keep : Keep) (octets : List ℕ) (text : FixedReply) (s : Session) → Keeps s (ends_by why moment path keep octets text s).0
put_keeps (Some why) moment path keep octets text s = refl
put_keeps None moment path keep octets text s =
    part_keeps s (installed (seen s) path (put_together path keep octets s) moment) (installed-limits (seen s) path (put_together path keep octets s) moment)

break_keeps : (moment : ℕ) (transfer : Transfer) (s : Session) → Keeps s (at_break moment transfer s).0
break_keeps moment (Transfers.Upload path keep d) s = by (is_overtaken keep)
  where
    by : (late : Bool) → Keeps s (breaks_off late moment path keep d s).0
    by true = refl
    by false = put_keeps (end_refusal path keep (broken d).content s) moment path keep (broken d).content Texts.Broken s
break_keeps moment Transfers.OverLimit s = refl
break_keeps moment (Transfers.Download rest) s = refl
break_keeps moment (Transfers.Listing rest) s = refl

end_keeps : (moment : ℕ) (transfer : Transfer) (s : Session) → Keeps s (at_end moment transfer s).0
end_keeps moment (Transfers.Upload path keep d) s =
    cond_both (is_whole d) (installs moment path keep (ended d) Texts.Complete s) (at_break moment (Transfers.Upload path keep d) s) (λ ending. Keeps s ending.0)
    (λ is. put_keeps (end_refusal path keep (ended d).content s) moment path keep (ended d).content Texts.Complete s) (λ is. break_keeps moment (Transfers.Upload path keep d) s)
end_keeps moment Transfers.OverLimit s = refl
end_keeps moment (Transfers.Download rest) s = refl
end_keeps moment (Transfers.Listing rest) s = refl

-- ---- all calls

action_keeps : (v w : View) → SessionAction v w → Keeps v.session w.session
action_keeps v w (acts heard idle is) = ap (λ (x : View). x.session.table.limits) is ∙ obeyed_keeps heard v
action_keeps v w (ends transfer s at same is) = ap (λ (x : View). x.session.table.limits) is ∙ end_keeps v.context.moment transfer s ∙ same_keeps v.session s same
action_keeps v w (breaks transfer s at same is) = ap (λ (x : View). x.session.table.limits) is ∙ break_keeps v.context.moment transfer s ∙ same_keeps v.session s same
action_keeps v w (rests same) = same_keeps v.session w.session same

actions_keep : (mids : List View) (v w : View) → AreActions mids v w → Keeps v.session w.session
actions_keep [] v w is = ap (λ (x : View). x.session.table.limits) is
actions_keep (u ∷ us) v w actions = actions_keep us u w actions.1 ∙ action_keeps v u actions.0

pub call_keeps : (read : Reading) (cue : Cue) (v : View) → (call read cue v).1.session.table.limits ≡ v.session.table.limits
call_keeps read cue v =
    let actions = calls_are_actions read cue v in
    actions_keep actions.0 v (call read cue v).1 actions.1
