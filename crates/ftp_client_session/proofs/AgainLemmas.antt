-- What an operation begins from, said of views alone: at the held client each step is dear to compare.
use Rattle.std.proofs.Common.{◌≡◌, ◌∙◌, ℕ, List, Option, Some, sym, ap}
use Rattle.std.specs.Option.{option_map}
use Rattle.ftp_operation.specs.Answer.{Memory, Said}
use Rattle.ftp_operation.specs.declared.op.Op.{Op}
use Rattle.ftp_client_model.specs.Calls.{started_by}
use Rattle.ftp_client_model.specs.Dialogue.{begins, finishes_by}
use Rattle.ftp_client_model.specs.Tries.{Run, run_at}
use Rattle.ftp_client_model.specs.View.{View, Job, Doing, Told, dropped, failed_job}
use Rattle.ftp_client_model.specs.declared.client.Standing.{Standing}
use Rattle.ftp_client_model.specs.declared.client.Standing.TheVariants as Stands
use Rattle.ftp_client_model.specs.declared.client.Step.TheVariants as Steps
use Rattle.ftp_client_session.specs.Client.{shorted}
use Rattle.ftp_client_session.proofs.RunLemmas.{begins_alike, short_job, short_tried}

-- a run that begins at once
pub run_begun : (new v : View) (o op : Op (List ℕ)) (s : Standing) (job : Job) (run : Op (List ℕ) → Option Run) → o ≡ op → s ≡ Stands.Entered
    → (let w : View = record v { job = job; run = run o } in new ≡ begins o w)
    → (let w : View = record v { run = run op } in new ≡ started_by s op w)
run_begun new v o op s job run is entered begun =
    begun
    ∙ begins_alike o job (record v { run = run o })
    ∙ ap (λ p. let w : View = record v { run = run p } in begins p w) is
    ∙ ap (λ t. let w : View = record v { run = run op } in started_by t op w) (sym entered)

-- the next operation of a run, of which every one but SIZE is counted
pub tried : (new counted link v : View) (o p op : Op (List ℕ)) → o ≡ p → p ≡ op → link ≡ dropped v
    → (let w : View = record link { job = Doing p Steps.Last; run = option_map (run_at p) link.run } in counted ≡ w)
    → new ≡ begins o counted
    → (let w : View = record (dropped v) { run = option_map (run_at op) v.run } in new ≡ begins op w)
tried new counted link v o p op one other closes counts begun =
    begun
    ∙ ap (λ q. begins q counted) (one ∙ other)
    ∙ ap (λ u. begins op u) (counts
    ∙ ap (λ (u : View). let w : View = record u { job = Doing p Steps.Last; run = option_map (run_at p) u.run } in w) closes
    ∙ ap (λ q. let w : View = record (dropped v) { job = Doing q Steps.Last; run = option_map (run_at q) v.run } in w) other)
    ∙ begins_alike op (Doing op Steps.Last) (record (dropped v) { run = option_map (run_at op) v.run })

-- and short of memory it leaves the same as before
pub tried_short : (new counted link v : View) (p : Op (List ℕ)) → failed_job Memory v.job ≡ Told Memory → link ≡ dropped v
    → (let w : View = record link { job = Doing p Steps.Last; run = option_map (run_at p) link.run } in counted ≡ w)
    → new ≡ counted → shorted new ≡ shorted v
tried_short new counted link v p told closes counts begun =
    ap shorted (begun ∙ counts
    ∙ ap (λ (u : View). let w : View = record u { job = Doing p Steps.Last; run = option_map (run_at p) u.run } in w) closes)
    ∙ short_tried v p (option_map (run_at p) v.run) told

-- another operation follows one that was answered
pub other_follows : (new put v : View) (o op : Op (List ℕ)) (job : Job) (next : Option (Op (List ℕ))) (said : Said) → o ≡ op
    → (let w : View = record v { job = job } in put ≡ w) → Some op ≡ next
    → (let w : View = record (dropped put) { run = option_map (run_at o) put.run } in new ≡ begins o w)
    → new ≡ finishes_by next said v
other_follows new put v o op job next said one puts follows begun =
    begun
    ∙ ap (λ q. let w : View = record (dropped put) { run = option_map (run_at q) put.run } in begins q w) one
    ∙ ap (λ (u : View). let w : View = record (dropped u) { run = option_map (run_at op) u.run } in begins op w) puts
    ∙ begins_alike op job (record (dropped v) { run = option_map (run_at op) v.run })
    ∙ ap (λ n. finishes_by n said v) follows

-- and short of memory it is the same whose it is
pub other_short : (new put v : View) (job : Job) → failed_job Memory job ≡ Told Memory → failed_job Memory v.job ≡ Told Memory
    → (let w : View = record v { job = job } in put ≡ w) → shorted new ≡ shorted put → shorted new ≡ shorted v
other_short new put v job one other puts begun = begun ∙ ap shorted puts ∙ short_job v job one other
