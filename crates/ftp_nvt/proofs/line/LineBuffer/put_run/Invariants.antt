use Rattle.std.proofs.Common.{◌≡◌, ◌+◌, ◌++◌, take}
use Rattle.ftp_nvt.proofs.line.LineBuffer.put_run.Given as goal

abbrev pub invariant-loop-octet : goal.invariant-loop-octet
invariant-loop-octet g l = record {
  count : l.self.count ≡ l.fn.self.count + l.octet-index;
  text : l.self.text.items ≡ l.fn.self.text.items ++ take l.octet-index l.plain;
  stage : l.self.stage ≡ l.fn.self.stage;
  limit : l.self.limit ≡ l.fn.self.limit;
}
