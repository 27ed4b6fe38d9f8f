-- A client stays fit with each call, and so holds little.
use Rattle.std.proofs.Common.{◌≡◌, ℕ, ◌⊎◌, inl, inr, Bool, true, false, List, Option, Some, None, refl, sym, subst, arith, ◌+◌, ◌≤◌}
use Rattle.std.proofs.Math.Logic.{∥∥₁_prop, ∥∥₁_elim}
use Rattle.std.proofs.Props.{props}
use Rattle.std.specs.Prelude.{IsTrue}
use Rattle.ftp_operation.specs.Account.{is_password, is_user}
use Rattle.ftp_operation.specs.declared.op.Op.{Op}
use Rattle.ftp_endpoint.specs.Written.{IsTypedHost}
use Rattle.ftp_endpoint.specs.declared.host.Host.{Host}
use Rattle.ftp_ends.specs.Limits.{held_limit}
use Rattle.ftp_client_model.proofs.NearLemmas.{near_stays_fit}
use Rattle.ftp_client_model.proofs.Theorems.{fit_holds_little, start_is_fit}
use Rattle.ftp_client_model.specs.Fit.{IsFit, IsCalmAt, IsTied}
use Rattle.ftp_client_model.specs.Losses.{NearIsFit}
use Rattle.ftp_client_model.specs.Calls.{is_busy, starts, uploads}
use Rattle.ftp_client_model.specs.Failing.{Client, Holds, HoldsIfRoom, starts_short, uploads_short}
use Rattle.ftp_client_model.specs.Held.{held, block_stored_limit}
use Rattle.ftp_client_model.specs.Tries.{over_breaks}
use Rattle.ftp_client_model.specs.View.{View, client, Transferring, Transfer, Flow}
use Rattle.ftp_client_model.specs.declared.client.ClientLink.{ClientLink}
use Rattle.ftp_client_model.specs.declared.client.ClientLink.TheVariants as Data
use Rattle.ftp_client_model.specs.declared.client.Standing.{Standing}
use Rattle.ftp_client_model.specs.declared.client.Standing.TheVariants as Stands
use Rattle.ftp_client_session.specs.Client.{job_of, view_of}
use Rattle.ftp_client_session.specs.declared.dialogue.Dialogue.{Dialogue}
use Rattle.ftp_client_session.specs.declared.task.Task.{Task}
use Rattle.ftp_client_session.specs.declared.task.Task.TheVariants as Places
use Rattle.ftp_operation.specs.declared.op.How.{How}
use Rattle.ftp_client.specs.Counted.{StaysFit, counted_of, unseen}
use Rattle.ftp_client.specs.declared.counted.Counted.{Counted}

-- ---- how the octets of a transfer are seen is no matter

calm_alike : (standing : Standing) (op : Op (List ℕ)) (one other : Transfer) → IsCalmAt standing (Transferring op one) → IsCalmAt standing (Transferring op other)
calm_alike Stands.Greeting op one other k = k
calm_alike Stands.User op one other k = k
calm_alike Stands.Pass op one other k = k
calm_alike Stands.Entered op one other k = k
calm_alike (Stands.Failed failure) op one other k = k

tied_alike : (connection : ClientLink) (op : Op (List ℕ)) (one other : Transfer) → IsTied connection (Transferring op one) → IsTied connection (Transferring op other)
tied_alike Data.Free op one other k = k
tied_alike Data.ListenWanted op one other k = k
tied_alike (Data.Listening port) op one other k = k
tied_alike (Data.Connecting endpoint) op one other k = k
tied_alike (Data.Accepting port) op one other k = k
tied_alike Data.Open op one other k = k
tied_alike (Data.Over ending) op one other k = k

fit_by : (A F : Type 0) (one other : Op (List ℕ) → F → Flow) (op : Op (List ℕ)) (place : Task A F) (v : View)
    → (let w : View = record v { job = job_of one op place } in IsFit w) → (let w : View = record v { job = job_of other op place } in IsFit w)
fit_by A F one other op Places.Idle v k = k
fit_by A F one other op Places.Waiting v k = k
fit_by A F one other op (Places.Doing step) v k = k
fit_by A F one other op (Places.Told answer) v k = k
fit_by A F one other op (Places.Transferring transfer) v k = record {
  sound = k.sound;
  sendable = k.sendable;
  calm = calm_alike v.standing op _ _ k.calm;
  tied = tied_alike v.connection op _ _ k.tied;
  room = k.room;
}

fit_alike : (A F : Type 0) (one other : Op (List ℕ) → F → Flow) (d : Dialogue A F) → IsFit (view_of one d) → IsFit (view_of other d)
fit_alike A F one other d k = fit_by A F one other d.op d.place (view_of one d) k

-- ---- how much is held

le_once : (m n : ℕ) → IsProp (m ≤ n)
le_once m n = hlevel props

pub holds_little : (A F : Type 0) (flow : Op (List ℕ) → F → Flow) (c : Counted A F) → ∥ StaysFit c ∥₁ → held block_stored_limit (counted_of flow c).view ≤ held_limit
holds_little A F flow c fit = ∥∥₁_elim fit (le_once _ _) (λ k. fit_holds_little block_stored_limit (view_of flow c.dialogue) (omega arith) (fit_alike A F unseen flow c.dialogue k))

-- ---- at the start

pub starts_fit : (A F : Type 0) (flow : Op (List ℕ) → F → Flow) (c : Counted A F) (user pass : List ℕ) (here peer : Host)
    → IsTrue (is_user user) → IsTrue (is_password pass) → IsTypedHost here → (counted_of flow c).view ≡ client user pass here peer → ∥ StaysFit c ∥₁
starts_fit A F flow c user pass here peer named worded typed begun =
    ∣ fit_alike A F flow unseen c.dialogue (subst IsFit (sym begun) (start_is_fit user pass here peer named worded typed)) ∣₁

-- ---- call by call

-- a call that leaves a fit client fit keeps what a client keeps
pub kept : (A F : Type 0) (flow : Op (List ℕ) → F → Flow) (old new : Counted A F)
    → ∥ StaysFit old ∥₁ → (NearIsFit (counted_of flow old) (counted_of flow new) → IsFit (counted_of flow new).view) → ∥ StaysFit new ∥₁
kept A F flow old new was call =
    ∥∥₁_elim was ∥∥₁_prop
    (λ k. ∣ fit_alike A F flow unseen new.dialogue (call (near_stays_fit (counted_of flow old) (counted_of flow new) (fit_alike A F unseen flow old.dialogue k))) ∣₁)

is_so : (b : Bool) → (b ≡ true) ⊎ (b ≡ false)
is_so true = inl refl
is_so false = inr refl

-- an operation is begun, or not
pub started : (old new : Client) (op : Option (Op (List ℕ))) → NearIsFit old new
    → ((given : Op (List ℕ)) → op ≡ Some given → is_busy old.view ≡ false → HoldsIfRoom old new (starts given old.view) (starts_short given old.view))
    → (IsTrue (is_busy old.view) → Holds old new old.view) → (op ≡ None → Holds old new old.view) → IsFit new.view
started old new None near begun busy none = near.handed_back (none refl)
started old new (Some given) near begun busy none =
    elim (is_so (is_busy old.view)) [
      | inl is ↦ near.handed_back (busy is)
      | inr idle ↦ near.begins given idle (begun given refl idle)
    ]

-- so with an upload over breaks
pub uploaded : (old new : Client) (texts : Option (List ℕ × List ℕ)) (how : How) → NearIsFit old new
    → ((path octets : List ℕ) → texts ≡ Some (path, octets) → is_busy old.view ≡ false
    → HoldsIfRoom old new (uploads (over_breaks path octets how) old.view) (uploads_short (over_breaks path octets how) old.view))
    → (IsTrue (is_busy old.view) → Holds old new old.view) → (texts ≡ None → Holds old new old.view) → IsFit new.view
uploaded old new None how near begun busy none = near.handed_back (none refl)
uploaded old new (Some given) how near begun busy none =
    elim (is_so (is_busy old.view)) [
      | inl is ↦ near.handed_back (busy is)
      | inr idle ↦ near.begins_upload (over_breaks given.0 given.1 how) idle (begun given.0 given.1 refl idle)
    ]
