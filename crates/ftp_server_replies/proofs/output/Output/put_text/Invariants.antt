use Rattle.std.proofs.Common.{◌≡◌, ◌+◌, ◌*◌, ◌≤◌, ◌++◌, length, take, flat_map}
use Rattle.ftp_nvt.specs.Lines.{written_octet}
use Rattle.ftp_server_replies.proofs.output.Output.put_text.Given as goal

abbrev pub invariant-loop-octet : goal.invariant-loop-octet
invariant-loop-octet g l = record {
  octets : l.self ≡ l.fn.self ++ flat_map written_octet (take l.octet-index l.text);
  room : length l.self ≤ length l.fn.self + 2 * l.octet-index;
}
