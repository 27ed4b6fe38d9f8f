use Rattle.std.proofs.Common.{take}
use Rattle.tool_codec.proofs.Framing.{behind_front}
use Rattle.tool_codec.proofs.frames.put_at.Goals as goal

pub returns-clause-writes : goal.returns-clause-writes
returns-clause-writes c = record {
  octets = take c.put.result.made c.put.new.room;
  made = behind_front c.args.room.now c.split_at_mut-back.result.0.now c.put.new.room c.args.at c.put.result.made c.requires c.split_at_mut-back.ensures.front;
  text = c.put.ensures.text;
}
