-- The actions of drives that are over, of which the client's put and fetched files over data connections that either dialled, put together.
use Rattle.std.proofs.Common.{◌≡◌, ℕ, false, List}
use Rattle.ftp_ports.specs.Actions.{Other}
use Rattle.ftp_ports.specs.Machine.{Held}
use Rattle.ftp_client_driver.specs.Side.{Begun}
use Rattle.ftp_client_model.specs.Failing.{Client}
use Rattle.ftp_operation.specs.declared.op.Op.{Op}
use Rattle.laws_drivers.specs.control.Alone.{ClientIsCalm}
use Rattle.laws_drivers.proofs.events.Answers.{answers_go, midst_by}
use Rattle.laws_drivers.proofs.events.Concluding.{AnswersGo, over_are_the_direct_run}
use Rattle.laws_transfers.specs.Actions.{IsCarried}
use Rattle.laws_active.specs.Actions.{ClientTransfersEitherWay}
use Rattle.laws_active.specs.Claims.{no_faults_either_way}
use Rattle.laws_active.specs.Over.{EitherOverAreTheDirectRun}
use Rattle.laws_active.proofs.Concluding.{either_are_the_direct_run}

-- such an operation may be begun
pub may_begin : (op : Op (List ℕ)) (old new : Held Client) → IsCarried op → old.end.view.closing ≡ false → ClientIsCalm old new
    → ClientTransfersEitherWay (Other (Begun op)) old new
may_begin op old new is unclosed calm = ((is, unclosed), calm)

-- the actions of a client's drives
pub drives_go : AnswersGo no_faults_either_way
drives_go asked start now answered none =
    let went = answers_go IsCarried ClientTransfersEitherWay may_begin asked start now answered none in (went.0, went.1, tt)

-- what both did before the end is the direct run
pub either_over_are_the_direct_run : EitherOverAreTheDirectRun
either_over_are_the_direct_run =
    over_are_the_direct_run no_faults_either_way (midst_by IsCarried ClientTransfersEitherWay may_begin) drives_go either_are_the_direct_run
