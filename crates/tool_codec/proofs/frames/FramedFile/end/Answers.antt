use Rattle.std.proofs.Common.{refl}
use Rattle.tool_codec.proofs.Framing.{end_text}
use Rattle.tool_codec.proofs.frames.FramedFile.end.Goals as goal

pub returns : goal.returns
returns g c = end_text c.args.self.now c.put.new.self c.requires c.in_ok-put.ensures.ok (c.in_ok-put.ensures.out refl)
