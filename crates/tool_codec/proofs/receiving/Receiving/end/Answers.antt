use Rattle.std.proofs.Common.{true, refl}
use Rattle.ftp_mode.specs.Deframing.{reading}
use Rattle.tool_codec.proofs.WireEnding.{end_whole}
use Rattle.tool_codec.proofs.receiving.Receiving.end.Goals as goal

pub returns-in-Ok : goal.returns-in-Ok
returns-in-Ok g c = record {
  ok = λ r wire written fits stands.
      end_whole r wire written true c.args.self.now _ (reading c.end.new.self) fits stands refl c.end.ensures.state c.in_default.ensures.ok c.in-Ok.ensures.ok;
}
