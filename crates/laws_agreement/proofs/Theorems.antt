-- The claims, of every list of events.
use Rattle.std.proofs.Common.{inl, List, [], refl, subst}
use Rattle.ftp_server_model.specs.Machine.{Reading, IsReading}
use Rattle.laws_world.specs.Agreement.{Order, Agrees, WorldAgrees, Leads}
use Rattle.laws_world.specs.Claims.{AgreesAlways, AreTimed, Beginning, Headline, IsFair, QuietIsAnswered, state_of, world_of}
use Rattle.laws_world.specs.Events.{Event}
use Rattle.laws_world.specs.World.{World}
use Rattle.laws_world.proofs.AgreementLemmas.{unmarked_is_direct}
use Rattle.laws_world.proofs.HonestLemmas.{leads_clean}
use Rattle.laws_world.proofs.StillLemmas.{quiet_is_still}
use Rattle.laws_agreement.specs.Over.{OverRuns}
use Rattle.laws_agreement.specs.Laws.{RestIsQuiet}
use Rattle.laws_agreement.proofs.Beginning.{begins_follow}
use Rattle.laws_agreement.proofs.OverRunning.{over_agree, over_answered, over_lead, over_quiet}

-- the world to which events lead from a fair beginning runs with the operations begun
all_runs : (read : Reading) → IsReading read → (b : Beginning) → IsFair b → (events : List Event) (begun : List Order) (w : World)
    → AreTimed events → Leads read (world_of b) events begun w → OverRuns read (state_of b) begun w
all_runs read reads b fair events begun w timed leads =
    over_lead read reads (state_of b) [] events begun (world_of b) w timed (inl (inl (begins_follow read b fair))) leads

-- after every list of events there is agreement
pub agrees-always : AgreesAlways
agrees-always read reads b fair events begun w timed leads = over_agree read reads (state_of b) begun w (all_runs read reads b fair events begun w timed leads)

-- where nothing is in flight, nothing is left open
pub quiet-is-answered : QuietIsAnswered
quiet-is-answered read reads b fair events begun w timed leads quiet =
    over_answered read reads (state_of b) begun w (all_runs read reads b fair events begun w timed leads) (quiet_is_still w quiet)

-- where nothing moves that takes no memory, nothing is in flight
pub rest-is-quiet : RestIsQuiet
rest-is-quiet read reads b fair events begun w timed leads still =
    over_quiet read reads (state_of b) begun w (all_runs read reads b fair events begun w timed leads) still

-- ---- the headline

-- where nothing is in flight, without breaks, refusals, an end of control and uploads over breaks, it is the direct run
pub headline : Headline
headline read reads b fair events begun w timed leads honest single quiet =
    let clean = leads_clean read (world_of b) events begun w honest leads (record { marks = tt; cutoff = refl }) in
    let agree : WorldAgrees (state_of b) begun w = agrees-always read reads b fair events begun w timed leads in
    let done = quiet-is-answered read reads b fair events begun w timed leads quiet in
    let direct = unmarked_is_direct (state_of b) begun w.marks w.reports w.far.session.table single clean.marks done.reported
    (subst (λ cutoff. Agrees (state_of b) begun w.marks cutoff w.reports w.far.session.table) clean.cutoff agree) in
    record { reports = direct.0; table = direct.1 }
