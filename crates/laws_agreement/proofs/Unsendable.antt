-- An upload over breaks that can't be sent begins: it is tried once, and answered as such an operation is.
use Rattle.std.proofs.Common.{◌≡◌, inr, ℕ, ◌+◌, ◌≤◌, Bool, true, false, List, [], ◌∷◌, ◌++◌, length, Some, None, refl, sym, ap, subst, ◌∙◌, arith}
use Rattle.std.specs.Prelude.{if◌then◌else◌}
use Rattle.ftp_operation.specs.Answer.{Said, BadOperation, Lost}
use Rattle.ftp_operation.specs.Operation.{can_be_sent}
use Rattle.ftp_operation.specs.declared.op.Op.{Op}
use Rattle.ftp_direct.specs.Direct.{State, answer}
use Rattle.ftp_client_model.specs.Calls as near
use Rattle.ftp_client_model.specs.Calls.{started_by, unsendable_by}
use Rattle.ftp_client_model.specs.Tries.{OverBreaks, first_try, next_in, run_of, after_size, after_try, is_size}
use Rattle.ftp_client_model.specs.View.{View as Near}
use Rattle.ftp_server_model.specs.Machine.{Reading, IsReading}
use Rattle.laws_world.specs.Agreement.{Order, Tries, Item, state_after, ItemHolds}
use Rattle.laws_world.specs.Events.{begins_at_moment, operation_begins, upload_begins}
use Rattle.laws_world.specs.Outcome.{Nothing}
use Rattle.laws_world.specs.Serving.{after_event}
use Rattle.laws_world.specs.World.{World, Mark}
use Rattle.laws_agreement.specs.Follows.{Told, IsFree, IsLost, IsLinked, IsUnlinked, Follows}
use Rattle.laws_agreement.proofs.Begins.{answer_not, refused_so}
use Rattle.laws_agreement.proofs.Items.{state_more, one_told}
use Rattle.laws_agreement.proofs.Parting.{lost_item, lost_so}
use Rattle.laws_agreement.proofs.Phases.{both_longer, whole_item}

-- nothing follows its first try
over_bad : (upload : OverBreaks) → next_in (run_of upload) (first_try upload) BadOperation ≡ None
over_bad upload = by_size (is_size (first_try upload))
  where
    by_size : (b : Bool) → (if b then after_size upload BadOperation else after_try upload (first_try upload) BadOperation) ≡ None
    by_size true = refl
    by_size false = refl

-- nor does anything follow that try where it is Lost
over_lost : (upload : OverBreaks) → next_in (run_of upload) (first_try upload) Lost ≡ None
over_lost upload = by_size (is_size (first_try upload))
  where
    by_size : (b : Bool) → (if b then after_size upload Lost else after_try upload (first_try upload) Lost) ≡ None
    by_size true = refl
    by_size false = refl

-- what the client makes of it is what it makes of that try
same_start : (upload : OverBreaks) (n : Near) → can_be_sent (first_try upload) ≡ false → near.uploads upload n ≡ near.starts (first_try upload) n
unfolding near.uploads near.starts
same_start upload n cannot =
    ap (λ (b : Bool). if b then started_by n.standing (first_try upload) (record n { run = Some (run_of upload) }) else unsendable_by n.standing n) cannot
    ∙ sym (ap (λ (b : Bool). if b then started_by n.standing (first_try upload) (record n { run = None }) else unsendable_by n.standing n) cannot)

-- and the world begins it as it begins that try
same_begin : (upload : OverBreaks) (moment : ℕ) (w : World) → can_be_sent (first_try upload) ≡ false → upload_begins upload moment w ≡ operation_begins (first_try upload) moment w
same_begin upload moment w cannot = ap (λ n. begins_at_moment moment n w) (same_start upload w.near cannot)

module _ (read : Reading) (reads : IsReading read) (from : State) (begun : List Order) (upload : OverBreaks) (moment : ℕ) (cannot : can_be_sent (first_try upload) ≡ false) where
  abbrev op : Op (List ℕ)
  op = first_try upload

  abbrev order : Order
  order = Tries upload moment

  -- its report is that it can't be sent
  told_bad : (marks : List (List Mark)) (reports : List Said) (now : State) → Told from begun marks None reports now
      → Told from (begun ++ order ∷ []) (marks ++ [] ∷ []) None (reports ++ BadOperation ∷ []) now
  told_bad marks reports now t =
      let state : State = state_after from t.items in
      let item : Item = whole_item op moment in
      let is : answer state op moment ≡ (BadOperation, state) = answer_not op moment state cannot in
      let holds : ItemHolds state order [] None (length begun) item =
      record { is_of = (refl, refl, tt); holds = (record { can_be = tt; allowed = tt; few = omega arith }, tt); marked = refl } in
      record {
        items = t.items ++ item ∷ [];
        all = both_longer reports begun BadOperation order t.all;
        hold = one_told reports from 0 (length begun) begun marks None t.items order [] item BadOperation t.all t.hold (let e : length begun ≡ 0 + length begun = omega arith in e)
            holds (subst (λ said. next_in (run_of upload) op said ≡ None) (sym (ap (λ d. d.0) is)) (over_bad upload), ap (λ d. d.0) is);
        now_is = t.now_is ∙ sym (state_more from t.items item ∙ ap (λ d. d.1) is);
      }

  -- behind the end of the control connection it is Lost
  told_gone : (marks : List (List Mark)) (cutoff : ℕ) (reports : List Said) (now : State) → cutoff ≤ length begun → Told from begun marks (Some cutoff) reports now
      → Told from (begun ++ order ∷ []) (marks ++ [] ∷ []) (Some cutoff) (reports ++ Lost ∷ []) now
  told_gone marks cutoff reports now early t =
      let item : Item = lost_item Nothing op moment in
      let holds : ItemHolds (state_after from t.items) order [] (Some cutoff) (length begun) item =
      record { is_of = (refl, refl, tt); holds = (record { can_be = tt; allowed = inr early; few = omega arith }, tt); marked = refl } in
      record {
        items = t.items ++ item ∷ [];
        all = both_longer reports begun Lost order t.all;
        hold = one_told reports from 0 (length begun) begun marks (Some cutoff) t.items order [] item Lost t.all t.hold (let e : length begun ≡ 0 + length begun = omega arith in e)
            holds (over_lost upload, refl);
        now_is = t.now_is ∙ sym (state_more from t.items item);
      }

  -- a world in which all that was begun has its report follows an upload that cannot be sent, too
  pub upload_free : (w : World) → IsUnlinked w → IsLinked w → IsFree from begun w → Follows read from (begun ++ order ∷ []) (after_event (upload_begins upload moment w))
  upload_free w unlinked linked f =
      subst (λ u. Follows read from (begun ++ order ∷ []) (after_event u)) (sym (same_begin upload moment w cannot))
      (refused_so read reads from begun op moment order w cannot unlinked linked f (told_bad w.marks w.reports f.now f.told))

  -- and so does one in which the control connection has ended
  pub upload_lost : (w : World) → IsUnlinked w → IsLost from begun w → Follows read from (begun ++ order ∷ []) (after_event (upload_begins upload moment w))
  upload_lost w unlinked l =
      subst (λ u. Follows read from (begun ++ order ∷ []) (after_event u)) (sym (same_begin upload moment w cannot))
      (lost_so read from begun op moment order w unlinked l (told_gone w.marks l.cutoff w.reports l.now l.early l.told))
