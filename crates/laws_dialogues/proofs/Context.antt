-- No line changes what the server stands on: accounts, hosts and the moment in force.
use Rattle.std.proofs.Common.{◌≡◌, Bool, true, false, ℕ, List, [], ◌∷◌, Option, Some, None, refl, sym, ap, ◌∙◌}
use Rattle.std.specs.Prelude.{if◌then◌else◌}
use Rattle.ftp_server_model.specs.Machine.{Reading, aborts, abort_said, aborted, given_out, heard_line, is_abort, is_idle, later, obeyed, turned, waited}
use Rattle.ftp_server_model.specs.Act.{decided}
use Rattle.ftp_server_model.specs.View.{View as Far, Transfer}
use Rattle.ftp_server_model.specs.declared.heard.HeardLine.{HeardLine}
use Rattle.ftp_server_model.specs.declared.session.Pending.TheVariants as Pendings
use Rattle.ftp_server_model.specs.declared.session.ServerLink.{ServerLink}
use Rattle.ftp_server_model.specs.declared.session.ServerLink.TheVariants as Data
use Rattle.ftp_server_model.specs.declared.session.Transfer.TheVariants as Transfers
use Rattle.laws_dialogues.specs.Stage.{FarTurn, still}

-- a transfer that is given out leaves it as it was
out_context : (connection : ServerLink Transfer) (v : Far) → (given_out connection v).context ≡ v.context
out_context Data.Free v = refl
out_context Data.Passive v = refl
out_context (Data.Active endpoint) v = refl
out_context Data.Ready v = refl
out_context (Data.Asked asked) v = refl
out_context (Data.Opening transfer way) v = refl
out_context (Data.Transferring (Transfers.Upload path keep d)) v = refl
out_context (Data.Transferring Transfers.OverLimit) v = refl
out_context (Data.Transferring (Transfers.Download [])) v = refl
out_context (Data.Transferring (Transfers.Download (octet ∷ rest))) v = refl
out_context (Data.Transferring (Transfers.Listing [])) v = refl
out_context (Data.Transferring (Transfers.Listing (octet ∷ rest))) v = refl

-- so does a line that is acted on
obeyed_context : (heard : HeardLine (List ℕ)) (v : Far) → (obeyed heard v).context ≡ v.context
unfolding obeyed
obeyed_context heard v =
    let u : Far = turned (decided v.context heard v.session.pending (record v.session { pending = Pendings.Nothing })) v in
    out_context u.session.connection u

-- so does one that waits
pub waited_context : (waiting : Option (HeardLine (List ℕ))) (v : Far) → (waited waiting v).context ≡ v.context
waited_context None v = refl
waited_context (Some heard) v = by_idle (is_idle v)
  where
    by_idle : (b : Bool) → (if b then obeyed heard (record v { waiting = None }) else v).context ≡ v.context
    by_idle true = obeyed_context heard (record v { waiting = None })
    by_idle false = refl

-- so does an abort
aborts_context : (connection : ServerLink Transfer) (v : Far) → (aborts connection v).context ≡ v.context
aborts_context Data.Free v = refl
aborts_context Data.Passive v = refl
aborts_context (Data.Active endpoint) v = refl
aborts_context Data.Ready v = refl
aborts_context (Data.Asked asked) v = refl
aborts_context (Data.Opening transfer way) v = refl
aborts_context (Data.Transferring transfer) v = refl

-- so does each line
pub line_context : (heard : HeardLine (List ℕ)) (v : Far) → (heard_line heard v).context ≡ v.context
line_context heard v = by_abort (is_abort heard v)
  where
    by_abort : (b : Bool) → (if b then aborted v else later (record v { waiting = Some heard })).context ≡ v.context
    by_abort true =
        waited_context (abort_said (aborts v.session.connection v)).waiting (abort_said (aborts v.session.connection v)) ∙ aborts_context v.session.connection v
    by_abort false = waited_context (Some heard) (record v { waiting = Some heard })

-- so it is behind each turn of the server
pub turn_context : (read : Reading) (f : Far) (text : List ℕ) → (t : FarTurn read f text) → t.far.context ≡ f.context
turn_context read f text t = ap (λ v. v.context) (sym t.is) ∙ line_context (read text) (still f)
