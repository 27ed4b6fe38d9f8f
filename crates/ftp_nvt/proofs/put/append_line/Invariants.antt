use Rattle.std.proofs.Common.{◌≡◌, ◌≤◌, ◌++◌, take}
use Rattle.std.specs.List.{flat_map}
use Rattle.std.specs.Prelude.{vec_capacity}
use Rattle.ftp_nvt.specs.Lines.{written_octet}
use Rattle.ftp_nvt.proofs.put.append_line.Given as goal

abbrev pub invariant-loop-octet : goal.invariant-loop-octet
invariant-loop-octet g l = record {
  written : l.out.items ≡ l.fn.out.items ++ flat_map written_octet (take l.octet-index l.text);
  capacity : vec_capacity l.fn.out ≤ vec_capacity l.out;
}
