-- A client over whose data connection no octet came yet: it sent no ABOR, since of a Peek one octet at least is asked for; whatever it hears.
use Rattle.std.proofs.Common.{◌≡◌, ℕ, Bool, true, false, true≢false, ◌&&◌, List, [], length, nat_le, Option, Some, None, refl, sym, ap, ◌∙◌}
use Rattle.std.proofs.lemmas.Bool.{lt-leb}
use Rattle.ftp_client_model.specs.Dialogue.{has_begun, is_to_abort, is_unsent, marked_flow}
use Rattle.ftp_client_model.specs.Octets.{flow_of, has_settled, settled_of}
use Rattle.ftp_client_model.specs.Plan.{count_of}
use Rattle.ftp_client_model.specs.View.{Flow, Job, Receiving, Sending, Transfer, Transferring, View as Near}
use Rattle.ftp_client_model.specs.declared.client.Abort.TheVariants as Aborts
use Rattle.ftp_client_model.specs.declared.client.ClientLink.{ClientLink}
use Rattle.ftp_client_model.specs.declared.client.ClientLink.TheVariants as Data
use Rattle.ftp_operation.specs.declared.op.Op.{Op}
use Rattle.ftp_operation.specs.declared.op.Op.TheVariants as Ops
use Rattle.laws_drivers.specs.world.Unaborted.{is_unaborted}
use Rattle.laws_drivers.proofs.events.Plain.{IsKept, IsPlain, IsPlainBy, IsPlainJob, IsSome}

-- no octet of it is settled, and no ABOR was sent
abbrev pub Fresh : Op (List ℕ) → Transfer → Type 0
Fresh op transfer = (transfer.abort ≡ Aborts.Unsent) × (settled_of transfer.flow ≡ [])

-- so none is sent
fresh_aborts : (link : ClientLink) (op : Op (List ℕ)) (transfer : Transfer) → IsPlain op → Fresh op transfer → is_to_abort link op transfer ≡ false
fresh_aborts Data.Open op transfer plain fresh = ap (λ e. is_unsent transfer.abort && has_begun transfer.replied && e) (none (count_of op) plain.some)
    ∙ three (is_unsent transfer.abort) (has_begun transfer.replied)
  where
    three : (one other : Bool) → one && other && false ≡ false
    three true true = refl
    three true false = refl
    three false other = refl

    none : (count : Option ℕ) → IsSome count → has_settled count transfer.flow ≡ false
    none None some = refl
    none (Some count) some = ap (λ (octets : List ℕ). nat_le count (length octets)) fresh.1 ∙ lt-leb count 0 some
fresh_aborts link op transfer plain fresh = refl

pub fresh_kept : IsKept Fresh
fresh_kept = record {
  begins = λ op flow is. (refl, empty op flow is);
  replies = λ replied op transfer fresh. fresh;
  notes = λ mark op transfer fresh. (fresh.0, noted mark transfer.flow ∙ fresh.1);
  aborts = λ link op transfer plain fresh is. absurd (true≢false (sym is ∙ fresh_aborts link op transfer plain fresh));
  answers = λ op transfer fresh is. absurd (true≢false (sym (ap is_unsent fresh.0) ∙ ap is_unsent is));
}
  where
    noted : (mark : Option ℕ) (flow : Flow) → settled_of (marked_flow mark flow) ≡ settled_of flow
    noted None flow = refl
    noted (Some mark) (Sending left before) = refl
    noted (Some mark) (Receiving decoder before) = refl

    settled : Option Flow → List ℕ
    settled None = []
    settled (Some flow) = settled_of flow

    begun : (op : Op (List ℕ)) → settled (flow_of op) ≡ []
    begun (Ops.Put path octets how) = refl
    begun (Ops.Append path octets how) = refl
    begun (Ops.PutFrom path offset octets how) = refl
    begun (Ops.Get path how) = refl
    begun (Ops.GetFrom path offset how) = refl
    begun (Ops.Peek path count how) = refl
    begun (Ops.List path how) = refl
    begun (Ops.Names path how) = refl
    begun (Ops.Text verb path how) = refl
    begun op = refl

    empty : (op : Op (List ℕ)) (flow : Flow) → flow_of op ≡ Some flow → settled_of flow ≡ []
    empty op flow is = ap settled (sym is) ∙ begun op

-- such a client sent no ABOR
pub fresh_unaborted : (n : Near) → IsPlainBy Fresh n → is_unaborted n.job ≡ true
fresh_unaborted n p = by n.job p.job
  where
    by : (job : Job) → IsPlainJob Fresh job → is_unaborted job ≡ true
    by (Transferring op transfer) plain = ap is_unsent plain.1.0
    by job plain = refl
