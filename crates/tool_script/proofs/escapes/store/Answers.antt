use Rattle.std.proofs.Common.{◌+◌, arith}
use Rattle.std.proofs.lemmas.Simd.{take_more_put_chunk}
use Rattle.tool_script.proofs.escapes.store.Goals as goal

pub returns : goal.returns
returns c = take_more_put_chunk c.args.at c.args.room.now c.args.octets (c.args.at + 8) (omega arith) (omega arith)
