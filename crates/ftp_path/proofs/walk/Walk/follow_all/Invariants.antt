use Rattle.std.proofs.Common.{◌≡◌, ◌+◌, ◌≤◌, IsTrue, fold, length}
use Rattle.std.specs.List.{slice_split}
use Rattle.ftp_path.specs.Path.{followed, is_text, is_slash, joined}
use Rattle.ftp_path.proofs.walk.Walk.follow_all.Given as goal

abbrev pub invariant-loop-end : goal.invariant-loop-end
invariant-loop-end l = record {
  octets : IsTrue (is_text l.rest);
  room : length (joined l.self) + 1 + length l.rest ≤ 1801;
  leads : fold followed l.self (slice_split is_slash l.rest) ≡ fold followed l.fn.self (slice_split is_slash l.text);
}

abbrev pub decreases-loop-end : goal.decreases-loop-end
decreases-loop-end l = length l.rest
