-- A server that is awaited at a port, once the transfer is opened.
use Rattle.std.proofs.Common.{◌≡◌, ◌∙◌, ℕ, List, refl, sym, ap, subst, ne_eqb}
use Rattle.std.specs.Prelude.{if◌then◌else◌}
use Rattle.ftp_operation.specs.declared.op.Op.{Op}
use Rattle.ftp_client_model.specs.Dialogue.{awaited, transfer_opened, with_reply}
use Rattle.ftp_client_model.specs.View.{View, Job, Transferring, Transfer}
use Rattle.ftp_client_model.specs.declared.client.ClientLink.{ClientLink}
use Rattle.ftp_client_model.specs.declared.client.ClientLink.TheVariants as Data
use Rattle.ftp_client_model.specs.declared.client.Replied.TheVariants as Replies
use Rattle.ftp_client_session.specs.Client.{in_transfer, shorted}

awaited_by : (c : ClientLink) (v : View)
    → (let w : View = record v { connection = awaited c } in let u : View = record v { connection = c } in shorted w ≡ shorted u)
awaited_by Data.Free v = refl
awaited_by Data.ListenWanted v = refl
awaited_by (Data.Listening port) v = refl
awaited_by (Data.Connecting endpoint) v = refl
awaited_by (Data.Accepting port) v = refl
awaited_by Data.Open v = refl
awaited_by (Data.Over ending) v = refl

-- to a client that is short of memory it is nothing more
pub awaited_short : (v : View) (c : ClientLink) → c ≡ awaited v.connection → (let w : View = record v { connection = c } in shorted w ≡ shorted v)
awaited_short v c waits = ap (λ c. let w : View = record v { connection = c } in shorted w) waits ∙ awaited_by v.connection v

-- it is what a 1yz but 110 asks for
pub opened_is : (new v : View) (c : ClientLink) (op : Op (List ℕ)) (transfer : Transfer) (code : ℕ) → v.job ≡ Transferring op transfer
    → (code ≡ 110 → ⊥) → c ≡ awaited v.connection
    → (let w : View = record v { connection = c } in new ≡ in_transfer (with_reply Replies.Begun) w)
    → new ≡ in_transfer (transfer_opened code) v
opened_is new v c op transfer code is other waits now =
    let F : Job → Type 0 = λ job.
    let w : View = record v { job = job; connection = awaited v.connection } in let u : View = record v { job = job } in
    in_transfer (with_reply Replies.Begun) w ≡ in_transfer (transfer_opened code) u in
    let u : View = record v { job = Transferring op transfer } in
    let w : View = record v { connection = awaited v.connection } in
    now
    ∙ ap (λ c. let w : View = record v { connection = c } in in_transfer (with_reply Replies.Begun) w) waits
    ∙ subst F (sym is) (ap (λ b. if b then u else with_reply Replies.Begun op transfer w) (sym (ne_eqb code 110 other)))
