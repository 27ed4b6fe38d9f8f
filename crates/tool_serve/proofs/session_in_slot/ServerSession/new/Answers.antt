use Rattle.std.proofs.Common.{None, ap, refl}
use Rattle.ftp_ports.specs.Channel.{Channel}
use Rattle.tool_serve.proofs.session_in_slot.ServerSession.new.Goals as goal

pub returns : goal.returns
returns g c = record { told = refl; unwritten = ap (λ (channel : Channel). channel.unwritten) (c.new-3.ensures None); untold = refl }
