-- Every operation without a transfer leads to its answer.
use Rattle.std.proofs.lemmas.Bool.{and_parts}
use Rattle.ftp_operation.specs.Operation.{is_path_text}
use Rattle.ftp_operation.specs.declared.op.Op.TheVariants as Ops
use Rattle.ftp_direct.specs.Direct.{answer}
use Rattle.laws_dialogues.specs.Dialogue.{Passes, Ends}
use Rattle.laws_dialogues.specs.Laws.{OperationLeads}
use Rattle.laws_dialogues.specs.Operations.{EachLeadsAsRun}
use Rattle.laws_dialogues.proofs.LoginTurns.{operation_turns}
use Rattle.laws_dialogues.proofs.Moving.{here, up, change_dir, make_dir, remove_dir, delete}
use Rattle.laws_dialogues.proofs.Renaming.{rename_leads}
use Rattle.laws_dialogues.proofs.Single.{single_leads}
use Rattle.laws_dialogues.proofs.Sizing.{modified, size_leads}
use Rattle.laws_dialogues.proofs.Telling.{facts}

-- where both ends stand in a sound state, each operation without a transfer that can be sent leads to its answer
pub each-leads : EachLeadsAsRun
each-leads read state Ops.Where moment n f reads alone can sound stands = single_leads read Ops.Where _ (here read reads) state n f stands moment can sound
each-leads read state (Ops.ChangeDir text) moment n f reads alone can sound stands = single_leads read (Ops.ChangeDir text) _ (change_dir read text reads can) state n f stands moment can sound
each-leads read state Ops.Up moment n f reads alone can sound stands = single_leads read Ops.Up _ (up read reads) state n f stands moment can sound
each-leads read state (Ops.MakeDir text) moment n f reads alone can sound stands = single_leads read (Ops.MakeDir text) _ (make_dir read text reads can) state n f stands moment can sound
each-leads read state (Ops.RemoveDir text) moment n f reads alone can sound stands = single_leads read (Ops.RemoveDir text) _ (remove_dir read text reads can) state n f stands moment can sound
each-leads read state (Ops.Delete text) moment n f reads alone can sound stands = single_leads read (Ops.Delete text) _ (delete read text reads can) state n f stands moment can sound
each-leads read state (Ops.Rename text new) moment n f reads alone can sound stands =
    let both = and_parts (is_path_text text) (is_path_text new) can in
    rename_leads read text new reads both.0 both.1 state n f stands moment can
each-leads read state (Ops.Put path octets how) moment n f reads alone can sound stands = absurd (cc)
each-leads read state (Ops.Append path octets how) moment n f reads alone can sound stands = absurd (cc)
each-leads read state (Ops.PutFrom path offset octets how) moment n f reads alone can sound stands = absurd (cc)
each-leads read state (Ops.Get path how) moment n f reads alone can sound stands = absurd (cc)
each-leads read state (Ops.GetFrom path offset how) moment n f reads alone can sound stands = absurd (cc)
each-leads read state (Ops.Peek path count how) moment n f reads alone can sound stands = absurd (cc)
each-leads read state (Ops.Size text how) moment n f reads alone can sound stands = size_leads read text how moment reads can state n f stands can
each-leads read state (Ops.Modified text) moment n f reads alone can sound stands = single_leads read (Ops.Modified text) _ (modified read text reads can) state n f stands moment can sound
each-leads read state (Ops.Facts text) moment n f reads alone can sound stands = single_leads read (Ops.Facts text) _ (facts read text reads can) state n f stands moment can sound
each-leads read state (Ops.List path how) moment n f reads alone can sound stands = absurd (cc)
each-leads read state (Ops.Names path how) moment n f reads alone can sound stands = absurd (cc)
each-leads read state (Ops.Text verb path how) moment n f reads alone can sound stands = absurd (cc)

-- so it does where it is begun in the login, or behind it
pub operation-leads : OperationLeads
operation-leads read state op moment reads alone can sound =
    operation_turns read state op (Passes state.table (answer state op moment).1.table) (Ends (answer state op moment)) reads (λ n f stands. each-leads read state op moment n f reads alone can sound stands)
