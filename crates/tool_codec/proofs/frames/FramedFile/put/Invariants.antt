use Rattle.std.proofs.Common.{◌≡◌}
use Rattle.ftp_repr.specs.Items.{signs}
use Rattle.ftp_repr.specs.declared.item.Item.TheVariants.{EndFile}
use Rattle.tool_codec.specs.Sending.{Puts}
use Rattle.tool_codec.proofs.frames.FramedFile.put.Given as goal

abbrev pub invariant-loop : goal.invariant-loop
invariant-loop g l = record {
  puts : Puts l.fn.self (signs l.fn.item) l.self (signs l.rest);
  end : l.fn.item ≡ EndFile → l.rest ≡ EndFile;
  sender : l.self.sender ≡ l.fn.self.sender;
}
