use Rattle.std.proofs.Common.{◌≡◌, ◌+◌, ◌-◌, ◌≤◌, ◌++◌, length, take}
use Rattle.ftp_server_transfer.specs.Rest.{rest_of, text_left}
use Rattle.ftp_server_transfer.proofs.listing.Listing.give.Given as goal

abbrev pub invariant-loop-made : goal.invariant-loop-made
invariant-loop-made g l =
    record {
      made : l.made ≤ length l.room;
      room : length l.room ≡ length l.fn.room;
      gives : rest_of l.fn.self ≡ take l.made l.room ++ rest_of l.self;
    }

abbrev pub decreases-loop-made : goal.decreases-loop-made
decreases-loop-made g l = length (text_left l.self) + (length l.room - l.made)
