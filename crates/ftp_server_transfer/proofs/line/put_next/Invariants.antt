use Rattle.std.proofs.Common.{◌≡◌, ◌≤◌, ◌-◌, ◌++◌, length, Some}
use Rattle.ftp_server_model.specs.Listing.{lines_file}
use Rattle.ftp_server_transfer.specs.Lines.{lines_from}
use Rattle.ftp_server_transfer.proofs.line.put_next.Given as goal

abbrev pub invariant-loop-found : goal.invariant-loop-found
invariant-loop-found g l =
    record {
      few : length l.line.items ≤ 511;
      left : lines_file (lines_from l.what l.path l.entries (Some l.from)) ≡ l.line.items ++ lines_file (lines_from l.what l.path l.entries (Some l.place));
    }

abbrev pub decreases-loop-found : goal.decreases-loop-found
decreases-loop-found g l = length l.entries - l.place
