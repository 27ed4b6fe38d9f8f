-- Octets of the data connection, and its end.
use Rattle.std.proofs.Common.{◌≡◌, ◌≢◌, ◌⊎◌, inl, inr, ℕ, Bool, true, false, ◌&&◌, ◌||◌, List, Result, Ok, Err, OnOk, OnErr, refl, sym, ap, subst, ◌∙◌}
use Rattle.std.specs.Prelude.{if◌then◌else◌}
use Rattle.std.specs.Result.{is_err}
use Rattle.ftp_ends.specs.declared.link.Wants.TheVariants as Want
use Rattle.ftp_server_replies.specs.ServerTransfer.{ComesTo, IsTransferUnderWay, takes_octets}
use Rattle.ftp_server_model.specs.Calls.{is_upload, may_receive, wants_of, with_connection}
use Rattle.ftp_server_model.specs.Endpoint.{disconnected, is_standing}
use Rattle.ftp_server_model.specs.Counting.{CountsOn, TellsSome}
use Rattle.ftp_server_model.specs.Failing.{AreReceived, InstallFails, KeepsCourse, Late, WaitingFails}
use Rattle.ftp_server_model.specs.Far.{Receives, Server, Steps}
use Rattle.ftp_server_model.specs.Machine.{faulted, has_room, later, replied}
use Rattle.ftp_server_model.specs.View.{Transfer, View, seen}
use Rattle.ftp_server_model.specs.declared.reply.FixedReply.TheVariants as Texts
use Rattle.ftp_server_model.specs.declared.session.ServerLink.{ServerLink}
use Rattle.ftp_server_model.specs.declared.session.ServerLink.TheVariants as Data
use Rattle.ftp_server_model.specs.declared.session.Transfer.TheVariants as Transfers
use Rattle.ftp_server_replies.specs.declared.transfer.Told.{Told}
use Rattle.ftp_server_replies.specs.declared.transfer.Told.TheVariants.{Nothing, Mark, Faulty, NoMemory}
use Rattle.ftp_server.specs.Breaking.{InstallIsLost}
use Rattle.ftp_server.specs.Data.{IsSaid, ReceivesTo, SayingFails}
use Rattle.ftp_server.proofs.CallLemmas.{on_course}
use Rattle.ftp_server.proofs.CountingLemmas.{same_counts}
use Rattle.ftp_server.specs.Settled.{HasMoved, IsStepSettled}
use Rattle.ftp_tree.proofs.CountLemmas.{stray-first, stray-second}
use Rattle.ftp_tree.specs.Change.{IsSteady}
use Rattle.ftp_tree.specs.Tree.{Table}

-- ---- octets come

second_part : (a b : Bool) → (a && b) ≡ true → b ≡ true
second_part true b e = e
second_part false b e = absurd (let wrong : false ≡ true = e in cc)

may_take : (closing room : Bool) (c : ServerLink Transfer) → (is_upload (if closing then Data.Free else c) && room) ≡ true → (closing ≡ false) × (room ≡ true)
may_take true room c may = absurd (let wrong : false ≡ true = may in cc)
may_take false room c may = (refl, second_part (is_upload c) room may)

-- where an octet may be taken, the transfer that takes it is under way
pub under_way : (part : Table) (transfer : Transfer) (v : View) → v.session.connection ≡ Data.Transferring transfer → seen v.session ≡ part → may_receive v ≡ true
    → IsTransferUnderWay part transfer v
under_way part transfer v carried sees may =
    let takes = may_take v.session.closing (has_room v) v.session.connection may in
    record { carried = carried; going = takes.0; sees = sees; room = takes.1 }

-- and it takes octets
pub takes_some : (transfer : Transfer) (v : View) → v.session.connection ≡ Data.Transferring transfer → may_receive v ≡ true → takes_octets transfer ≡ true
takes_some transfer v carried may = by v.session.closing transfer (subst (λ c. (is_upload (if v.session.closing then Data.Free else c) && has_room v) ≡ true) carried may)
  where
    by : (closing : Bool) (t : Transfer) → (is_upload (if closing then Data.Free else Data.Transferring t) && has_room v) ≡ true → takes_octets t ≡ true
    by true t is = absurd (let wrong : false ≡ true = is in cc)
    by false (Transfers.Upload path keep d) is = refl
    by false Transfers.OverLimit is = refl
    by false (Transfers.Download rest) is = absurd (let wrong : false ≡ true = is in cc)
    by false (Transfers.Listing rest) is = absurd (let wrong : false ≡ true = is in cc)

-- a transfer that is over by a fault leaves the same, whatever it was
pub fault_same : (old new : Transfer) (v : View) → v.session.connection ≡ Data.Transferring old → faulted (with_connection (Data.Transferring new) v) ≡ faulted v
fault_same old new v carried = ap (λ c. replied Texts.LocalFault (record v.session { connection = Data.Free; closing = v.session.closing || is_standing c }) v) (sym carried)

-- what came to a transfer, and what was then said of it
pub said_done : (told : Told) (octets : List ℕ) (old new : Transfer) (v w : View) → v.session.connection ≡ Data.Transferring old
    → ComesTo v octets told (with_connection (Data.Transferring new) v) → IsSaid told (with_connection (Data.Transferring new) v) w → ReceivesTo octets v w
said_done Nothing octets old new v w carried comes said = (said ∙ sym comes.1, comes.0)
said_done (Mark marker) octets old new v w carried comes said = (said ∙ sym comes.1, comes.0)
said_done Faulty octets old new v w carried comes said = (said ∙ ap later (fault_same old new v carried) ∙ sym comes.1, comes.0)
said_done NoMemory octets old new v w carried comes said = absurd said

pub said_lost : (told : Told) (octets : List ℕ) (old new : Transfer) (v w : View) → v.session.connection ≡ Data.Transferring old
    → ComesTo v octets told (with_connection (Data.Transferring new) v) → SayingFails told (with_connection (Data.Transferring new) v) w → AreReceived v octets w
said_lost Nothing octets old new v w carried comes lost = absurd lost
said_lost (Mark marker) octets old new v w carried comes lost = absurd lost
said_lost Faulty octets old new v w carried comes lost = comes.2 w (subst (λ y. Late y w) (fault_same old new v carried) lost)
said_lost NoMemory octets old new v w carried comes lost = comes w (subst (λ y. Late y w) (fault_same old new v carried) lost)

-- and then the count: `mid` is behind the octets
pub received : {T E : Type 0} (octets : List ℕ) (old mid new : Server) (failures : ℕ) (r : Result T E) → failures ≡ old.counts.failures.told → mid.counts.refusals ≡ old.counts.refusals
    → OnOk r (KeepsCourse old.counts mid.counts → ReceivesTo octets old.view mid.view) → OnErr r (KeepsCourse old.counts mid.counts → AreReceived old.view octets mid.view)
    → OnOk r (IsSteady old.counts.failures mid.counts.failures) → new.view ≡ mid.view → new.counts.failures ≡ mid.counts.failures
    → OnOk r (new.counts ≡ mid.counts) → OnErr r (HasMoved failures mid.counts new.counts) → CountsOn old.counts new.counts → Receives octets old new
received octets old mid new failures (Ok x) stood refusals taken lost steady view still same moved counted =
    let course : KeepsCourse old.counts new.counts → KeepsCourse old.counts mid.counts = λ c. ap (λ f. f.strays) (sym still) ∙ c in
    record {
      done = λ e. view ∙ (taken (course (on_course old.counts new.counts e))).0;
      may = λ e. (taken (course (on_course old.counts new.counts e))).1;
      failed = λ c differ. absurd (differ (same ∙ same_counts old.counts mid.counts refusals steady (course c)));
      counted = counted;
    }
received octets old mid new failures (Err x) stood refusals taken lost steady view still same moved counted =
    let moves : new.counts ≢ old.counts = λ e. moved (ap (λ n. n.refusals) e ∙ sym refusals) (ap (λ n. n.failures.told) e ∙ sym stood) in
    record {
      done = λ e. absurd (moves e);
      may = λ e. absurd (moves e);
      failed = λ c differ. subst (λ w. AreReceived old.view octets w) (sym view) (lost (ap (λ f. f.strays) (sym still) ∙ c));
      counted = counted;
    }

-- ---- the line that waits, behind a step: `mid` is behind that line

pub late_of : {T E C : Type 0} (l : Result T E) (v w : View) → OnOk l (C → w ≡ later v) → OnErr l (C → WaitingFails v.waiting v w) → C → Late v w
late_of (Ok x) v w done lost course = inl (done course)
late_of (Err x) v w done lost course = inr (lost course)

pub settles_behind_fault : {T E : Type 0} (step : Result T E) (failures : ℕ) (old mid new : Server) → is_err step ≡ true → (KeepsCourse old.counts mid.counts → Late old.view mid.view)
    → mid.counts.refusals ≡ old.counts.refusals → new.view ≡ mid.view → new.counts.failures ≡ mid.counts.failures → OnErr step (HasMoved failures mid.counts new.counts)
    → IsStepSettled step failures old new
settles_behind_fault (Ok x) failures old mid new failed late same view still moved = absurd (let wrong : false ≡ true = failed in cc)
settles_behind_fault (Err x) failures old mid new failed late same view still moved =
    (λ c. subst (λ w. Late old.view w) (sym view) (late (ap (λ f. f.strays) (sym still) ∙ c)), λ refusals. moved (refusals ∙ sym same))

pub settles : {T E U F : Type 0} (step : Result T E) (l : Result U F) (failures : ℕ) (old mid new : Server) → is_err step ≡ false
    → OnOk l (KeepsCourse old.counts mid.counts → mid.view ≡ later old.view) → OnErr l (KeepsCourse old.counts mid.counts → WaitingFails old.view.waiting old.view mid.view)
    → mid.counts.refusals ≡ old.counts.refusals → OnOk l (IsSteady old.counts.failures mid.counts.failures) → new.view ≡ mid.view → new.counts.failures ≡ mid.counts.failures
    → OnOk l (new.counts ≡ mid.counts) → OnErr l (HasMoved failures mid.counts new.counts) → CountsOn old.counts new.counts
    → IsStepSettled step failures old new
settles (Err x) l failures old mid new fine done lost same steady view still counts moved counted = absurd (let wrong : true ≡ false = fine in cc)
settles (Ok x) (Ok y) failures old mid new fine done lost same steady view still counts moved counted = λ stood.
    let course : KeepsCourse old.counts new.counts → KeepsCourse old.counts mid.counts = λ c. ap (λ f. f.strays) (sym still) ∙ c in
    record {
      done = λ e. view ∙ done (course (on_course old.counts new.counts e));
      failed = λ c differ. absurd (differ (counts ∙ same_counts old.counts mid.counts same steady (course c)));
      counted = counted;
    }
settles (Ok x) (Err y) failures old mid new fine done lost same steady view still counts moved counted = λ stood. record {
  done = λ e. absurd (moved (ap (λ n. n.refusals) e ∙ sym same) (ap (λ n. n.failures.told) e ∙ sym stood));
  failed = λ c differ. inr (inr (subst (λ w. WaitingFails old.view.waiting old.view w) (sym view) (lost (ap (λ f. f.strays) (sym still) ∙ c))));
  counted = counted;
}

-- ---- a step that may fail, and then the line that waits: `mid` is behind the step

-- where no count has moved, the step was done, and the device did not stray in it
pub not_failed : {T E : Type 0} {P : Type 0} (r : Result T E) (failures : ℕ) (old mid new : Server) → failures ≡ old.counts.failures.told
    → mid.counts.refusals ≡ old.counts.refusals → TellsSome 1 old.counts.failures mid.counts.failures → TellsSome 1 mid.counts.failures new.counts.failures
    → IsStepSettled r failures mid new → new.counts ≡ old.counts → OnOk r (KeepsCourse old.counts mid.counts → P) → P
not_failed (Ok x) failures old mid new stood refusals few more settled same p =
    p (stray-first old.counts.failures mid.counts.failures new.counts.failures few.1 more.1 (on_course old.counts new.counts same))
not_failed (Err x) failures old mid new stood refusals few more settled same p =
    absurd (settled.1 (ap (λ n. n.refusals) same ∙ sym refusals) (ap (λ n. n.failures.told) same ∙ sym stood))

pub on_any : {T E : Type 0} {P : Type 0} (r : Result T E) → P → OnOk r P
on_any (Ok x) p = p
on_any (Err x) p = tt

pub steps : {T E : Type 0} (Fails : View → View → Type 0) (step : View → View) (old mid new : Server) (failures : ℕ) (r : Result T E) → failures ≡ old.counts.failures.told
    → mid.counts.refusals ≡ old.counts.refusals → OnOk r (KeepsCourse old.counts mid.counts → mid.view ≡ step old.view)
    → OnOk r (IsSteady old.counts.failures mid.counts.failures) → OnErr r (KeepsCourse old.counts mid.counts → (x : View) → Late mid.view x → Fails old.view x)
    → TellsSome 1 old.counts.failures mid.counts.failures → TellsSome 1 mid.counts.failures new.counts.failures → IsStepSettled r failures mid new
    → CountsOn old.counts new.counts → Steps Fails step old new
steps Fails step old mid new failures (Ok x) stood refusals view steady lost few more settled counted =
    let acts = settled (stood ∙ sym steady.0) in
    record {
      done = λ same. let c = first (on_course old.counts new.counts same) in acts.done (same ∙ sym (counts c)) ∙ ap later (view c);
      failed = λ c moved. inr (subst (λ v. Late v new.view) (view (first c)) (late (acts.failed (second c) (λ same. moved (same ∙ counts (first c))))));
      counted = counted;
    }
  where
    late : ⊥ ⊎ Late mid.view new.view → Late mid.view new.view
    late (inl none) = absurd none
    late (inr is) = is

    first : KeepsCourse old.counts new.counts → KeepsCourse old.counts mid.counts
    first c = stray-first old.counts.failures mid.counts.failures new.counts.failures few.1 more.1 c

    second : KeepsCourse old.counts new.counts → KeepsCourse mid.counts new.counts
    second c = stray-second old.counts.failures mid.counts.failures new.counts.failures few.1 more.1 c

    counts : KeepsCourse old.counts mid.counts → mid.counts ≡ old.counts
    counts c = same_counts old.counts mid.counts refusals steady c
steps Fails step old mid new failures (Err x) stood refusals view steady lost few more settled counted = record {
  done = λ same. absurd (settled.1 (ap (λ n. n.refusals) same ∙ sym refusals) (ap (λ n. n.failures.told) same ∙ sym stood));
  failed = λ c moved. inl (lost (stray-first old.counts.failures mid.counts.failures new.counts.failures few.1 more.1 c) new.view
      (settled.0 (stray-second old.counts.failures mid.counts.failures new.counts.failures few.1 more.1 c)));
  counted = counted;
}

-- an upload that could not be installed, and then the line that waits
pub install_fails : (c : ServerLink Transfer) (v w x : View) → InstallIsLost c (disconnected v.session) v w → Late w x → InstallFails c v x
install_fails (Data.Transferring (Transfers.Upload path keep d)) v w x is after = subst (λ y. Late y x) is after
install_fails (Data.Transferring Transfers.OverLimit) v w x is after = absurd is
install_fails (Data.Transferring (Transfers.Download rest)) v w x is after = absurd is
install_fails (Data.Transferring (Transfers.Listing rest)) v w x is after = absurd is
install_fails Data.Free v w x is after = absurd is
install_fails (Data.Asked asked) v w x is after = absurd is
install_fails (Data.Active endpoint) v w x is after = absurd is
install_fails Data.Passive v w x is after = absurd is
install_fails Data.Ready v w x is after = absurd is
install_fails (Data.Opening transfer way) v w x is after = absurd is

-- ---- what is wanted while a transfer is under way

pub receives_wanted : (transfer : Transfer) → takes_octets transfer ≡ true → Want.Receive ≡ wants_of (Data.Transferring transfer)
receives_wanted (Transfers.Upload path keep d) e = refl
receives_wanted Transfers.OverLimit e = refl
receives_wanted (Transfers.Download rest) e = absurd (let wrong : false ≡ true = e in cc)
receives_wanted (Transfers.Listing rest) e = absurd (let wrong : false ≡ true = e in cc)

pub sends_wanted : (transfer : Transfer) → takes_octets transfer ≡ false → Want.Send ≡ wants_of (Data.Transferring transfer)
sends_wanted (Transfers.Upload path keep d) e = absurd (let wrong : true ≡ false = e in cc)
sends_wanted Transfers.OverLimit e = absurd (let wrong : true ≡ false = e in cc)
sends_wanted (Transfers.Download rest) e = refl
sends_wanted (Transfers.Listing rest) e = refl
