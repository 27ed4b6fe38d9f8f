-- What a turn with a tree that is lent comes to.
use Rattle.std.proofs.Common.{◌≡◌, ◌∙◌, ap, subst}
use Rattle.ftp_ports.specs.Actions.{Stand, with_owner}
use Rattle.ftp_ports.specs.Machine.{held}
use Rattle.ftp_server_driver.specs.alone.Driving.{MakesTurns}
use Rattle.ftp_server_driver.specs.alone.Side.{server_side}
use Rattle.ftp_server_model.specs.Far.{Server}
use Rattle.ftp_server_model.specs.Standing.{standing_of, still_stands}
use Rattle.laws_server.specs.several.Several.{exchanged}
use Rattle.laws_server.specs.several.Swapping.{swapped}
use Rattle.ftp_server_driver.specs.shared.Lending.{Holding, found_at, tree_of, with_tree_at}
use Rattle.ftp_server_driver.specs.shared.Turning.{TakesTurn, Turn}

-- the same stand, but for its server
abbrev served_at : Server → Stand server_side → Stand server_side
served_at server stand = with_owner (held (record stand.owner.end { server = server }) stand.owner.channel) stand

-- both exchanges, and turns between them
pub takes : (turn : Turn) (old mid : Stand server_side) (there again : Server) (back : Holding)
    → turn.stays ≡ still_stands turn.stood (standing_of (exchanged turn.lent.table old.owner.end.server.view).session)
    → there ≡ (with_tree_at turn.lent (found_at turn.stays old)).owner.end.server → MakesTurns turn.most turn.failed (served_at there old) mid turn.went
    → back.table ≡ old.owner.end.server.view.session.table → back.failures ≡ old.owner.end.server.counts.failures
    → turn.left.table ≡ mid.owner.end.server.view.session.table → turn.left.failures ≡ mid.owner.end.server.counts.failures
    → turn.stands ≡ standing_of mid.owner.end.server.view.session
    → again ≡ swapped back.table back.failures mid.owner.end.server → TakesTurn turn old (served_at again mid)
takes turn old mid there again back stays taken makes table failures left failed stands given =
    let is_back : back ≡ tree_of old.owner.end = λ i. record { table = table i; failures = failures i } in
    record {
      mid = mid;
      stays = stays;
      turned = subst (λ (server : Server). MakesTurns turn.most turn.failed (served_at server old) mid turn.went) taken makes;
      leaves = λ i. record { table = left i; failures = failed i };
      stands = stands;
      own = ap (λ (server : Server). served_at server mid) given ∙ ap (λ (tree : Holding). with_tree_at tree mid) is_back;
    }
