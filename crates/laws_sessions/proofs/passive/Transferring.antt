-- Sessions with transfers: the direct run.
use Rattle.std.proofs.Common.{◌≡◌, ℕ, false, List}
use Rattle.ftp_ports.specs.Actions.{Action, Other}
use Rattle.ftp_ports.specs.Machine.{Break, Held, Left, Opened, Refused}
use Rattle.ftp_client_driver.specs.Side.{Begun}
use Rattle.ftp_client_model.specs.Failing.{Client as NearEnd}
use Rattle.ftp_operation.specs.declared.op.Op.{Op}
use Rattle.laws_drivers.specs.control.Alone.{ClientIsCalm}
use Rattle.laws_drivers.specs.control.Touches.{touch_in}
use Rattle.laws_transfers.specs.Claims.{DidTransfer}
use Rattle.laws_transfers.specs.Actions.{IsAsking, IsTransferred}
use Rattle.laws_transfers.proofs.Concluding.{transfers_are_the_direct_run}
use Rattle.ftp_server_driver.specs.alone.Side.{Timed, server_side}
use Rattle.ftp_pair_memory.specs.streams.Plain.{quiet}
use Rattle.laws_sessions.specs.passive.Laws.{IsUnbroken}
use Rattle.laws_sessions.specs.passive.Transfers.{IsServingAny, TransfersAskedAreTheDirectRun, TransfersByCounts, transfers}
use Rattle.laws_sessions.proofs.passive.Breaking.{had_unbroken, left_unbroken}
use Rattle.laws_sessions.proofs.passive.Peers.{peers_serve}
use Rattle.laws_sessions.proofs.passive.Ports.{ports_told}
use Rattle.laws_sessions.proofs.passive.Sessions.{Concludes, are_by_counts, are_the_direct_run}

-- a server is told of no break
serving_unbroken : (action : Action server_side) (at : Held Timed) → IsServingAny action at → IsUnbroken (touch_in action)
serving_unbroken (Other Break) at is = absurd is
serving_unbroken (Other (Opened host asked at_first so_far rest)) at is = had_unbroken asked
serving_unbroken (Other (Refused asked)) at is = had_unbroken asked
serving_unbroken (Other (Left asked)) at is = left_unbroken asked
serving_unbroken action at is = tt

-- such an operation may be begun
may_begin : (op : Op (List ℕ)) (at : Held NearEnd) → IsTransferred op → at.end.view.closing ≡ false → IsAsking (Other (Begun op)) at
may_begin op at is none = (is, none)

-- such actions are the direct run
transferring : Concludes transfers
transferring b fair moments timed turns asked start now begins server_bare client_bare happened counted meets came g told =
    let did : DidTransfer b moments turns now.between (quiet now.server) (quiet now.client) = record {
      server_start = quiet start.server;
      client_start = quiet start.client;
      begins = begins;
      untold = server_bare.1;
      unwritten = client_bare.0;
      server_unwritten = server_bare.0;
      client_untold = client_bare.1;
      happened = happened.0;
      server_led = g.serves.led;
      client_led = g.asks.0;
      serves = (peers_serve start.hosts turns (quiet start.server) (quiet now.server) g.serves.led g.serves.serves came meets).0;
      asks = g.asks.1;
      ports = (ports_told ClientIsCalm turns (quiet start.client) (quiet now.client) g.asks.0 g.asks.1 now.listens counted).1;
      told = g.serves.told;
      ordered = happened.1;
      short = tt;
    } in
    transfers_are_the_direct_run b fair moments timed turns now.between (quiet now.server) (quiet now.client) did g.free told

pub transfers_asked_are_the_direct_run : TransfersAskedAreTheDirectRun
transfers_asked_are_the_direct_run = are_the_direct_run transfers may_begin serving_unbroken transferring

pub transfers_by_counts : TransfersByCounts
transfers_by_counts = are_by_counts transfers may_begin serving_unbroken transferring
