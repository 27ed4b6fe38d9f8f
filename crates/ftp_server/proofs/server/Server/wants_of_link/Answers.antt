use Rattle.std.proofs.Common.{◌∙◌, ap, sym}
use Rattle.ftp_server_session.specs.Session.{connection_seen}
use Rattle.ftp_server_model.specs.Calls.{wants_of}
use Rattle.ftp_server.proofs.DataLemmas.{receives_wanted, sends_wanted}
use Rattle.ftp_server.proofs.server.Server.wants_of_link.Goals as goal

pub returns-then-takes_octets : goal.returns-then-takes_octets
returns-then-takes_octets g c =
    let view = g.J.ServerTransfer.view in
    receives_wanted (view c.in-Transferring.transfer) (sym c.takes_octets.ensures ∙ c.if-takes_octets.true)
    ∙ ap (λ k. wants_of (connection_seen view k)) (sym c.in-Transferring.is)

pub returns-else-takes_octets : goal.returns-else-takes_octets
returns-else-takes_octets g c =
    let view = g.J.ServerTransfer.view in
    sends_wanted (view c.in-Transferring.transfer) (sym c.takes_octets.ensures ∙ c.if-takes_octets.false)
    ∙ ap (λ k. wants_of (connection_seen view k)) (sym c.in-Transferring.is)
