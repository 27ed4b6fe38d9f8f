use Rattle.std.proofs.Common.{arith}
use Rattle.tool_script.proofs.RoomLemmas.{row_set}
use Rattle.tool_script.specs.Field.{written}
use Rattle.tool_script.proofs.field.write_at.Goals as goal

pub returns-clause-front : goal.returns-clause-front
returns-clause-front c =
    row_set c.args.room.now c.escape_of.result.0 (written c.args.octet) c.args.at c.escape_of.result.1 (omega (arith, c.requires, c.told-room)) c.escape_of.ensures.long
    (omega (arith, c.escape_of.type_inv)) c.escape_of.ensures.text
