-- What a reply during a transfer changes, said of views.
use Rattle.std.proofs.Common.{◌≡◌, ◌∙◌, ◌||◌, ℕ, List, refl, sym, ap, subst}
use Rattle.ftp_operation.specs.declared.op.Op.{Op}
use Rattle.ftp_client_model.specs.Dialogue.{behind_opening, closes, noted, unless_open, with_reply}
use Rattle.ftp_client_model.specs.Replies.{Verdict, Negative}
use Rattle.ftp_client_model.specs.View.{View, Job, Idle, Waiting, Doing, Transferring, Told, Transfer, stands}
use Rattle.ftp_client_model.specs.declared.client.ClientLink.{ClientLink}
use Rattle.ftp_client_model.specs.declared.client.ClientLink.TheVariants as Data
use Rattle.ftp_client_model.specs.declared.client.Replied.TheVariants as Replies
use Rattle.ftp_client_session.specs.Client.{in_job, in_transfer, job_noted, shorted}
use Rattle.ftp_client_session.proofs.RunLemmas.{or_false}
use Rattle.ftp_reply.specs.Values.{mark_value}

noted_by : (text : List ℕ) (job : Job) (v : View)
    → (let u : View = record v { job = job_noted (mark_value text) job } in let w : View = record v { job = job } in u ≡ in_job (noted 110 text) job w)
noted_by text Idle v = refl
noted_by text (Waiting op) v = refl
noted_by text (Doing op step) v = refl
noted_by text (Transferring op transfer) v = refl
noted_by text (Told answer) v = refl

-- a 110 is noted
pub noted_is : (text : List ℕ) (v : View) → (let u : View = record v { job = job_noted (mark_value text) v.job } in u ≡ in_transfer (noted 110 text) v)
noted_is text v = noted_by text v.job v

-- ---- a refusal behind the opening

-- it is the final reply
refused_is : (c : ClientLink) (code : ℕ) (op : Op (List ℕ)) (transfer : Transfer) (v : View)
    → (let w : View = record v { job = Transferring op transfer } in
    in_transfer (with_reply (Replies.Final code)) (unless_open c w) ≡ with_reply (Replies.Final code) op transfer (unless_open c w))
refused_is Data.Free code op transfer v = refl
refused_is Data.ListenWanted code op transfer v = refl
refused_is (Data.Listening port) code op transfer v = refl
refused_is (Data.Connecting endpoint) code op transfer v = refl
refused_is (Data.Accepting port) code op transfer v = refl
refused_is Data.Open code op transfer v = refl
refused_is (Data.Over ending) code op transfer v = refl

-- of a transfer
refused_behind : (v : View) (op : Op (List ℕ)) (transfer : Transfer) (code : ℕ) (text : List ℕ) (verdict : Verdict) → v.job ≡ Transferring op transfer
    → verdict ≡ Negative
    → in_transfer (with_reply (Replies.Final code)) (unless_open v.connection v) ≡ in_transfer (behind_opening verdict code text) v
refused_behind v op transfer code text verdict is refuses =
    let F : Job → Type 0 = λ job. let w : View = record v { job = job } in
    in_transfer (with_reply (Replies.Final code)) (unless_open v.connection w) ≡ in_transfer (behind_opening Negative code text) w in
    subst F (sym is) (refused_is v.connection code op transfer v)
    ∙ ap (λ said. in_transfer (behind_opening said code text) v) (sym refuses)

pub behind_is : (new closed v : View) (op : Op (List ℕ)) (transfer : Transfer) (code : ℕ) (text : List ℕ) (verdict : Verdict) → v.job ≡ Transferring op transfer
    → verdict ≡ Negative → closed ≡ unless_open v.connection v → new ≡ in_transfer (with_reply (Replies.Final code)) closed
    → new ≡ in_transfer (behind_opening verdict code text) v
behind_is new closed v op transfer code text verdict is refuses closing now =
    now ∙ ap (λ w. in_transfer (with_reply (Replies.Final code)) w) closing ∙ refused_behind v op transfer code text verdict is refuses

close_short : (v : View) → shorted (closes v) ≡ shorted v
close_short v = ap (λ b. let w : View = record (shorted v) { closing = b } in w) (or_false (v.closing || stands v.connection))

pub unless_short : (c : ClientLink) (v : View) → shorted (unless_open c v) ≡ shorted v
unless_short Data.Free v = close_short v
unless_short Data.ListenWanted v = close_short v
unless_short (Data.Listening port) v = close_short v
unless_short (Data.Connecting endpoint) v = close_short v
unless_short (Data.Accepting port) v = close_short v
unless_short Data.Open v = refl
unless_short (Data.Over ending) v = refl
