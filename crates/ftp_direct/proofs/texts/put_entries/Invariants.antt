use Rattle.std.proofs.Common.{◌≡◌, ◌++◌, flat_map, take}
use Rattle.ftp_direct.specs.Listing.{entry_text}
use Rattle.ftp_direct.proofs.texts.put_entries.Given as goal

abbrev pub invariant-loop-entry : goal.invariant-loop-entry
invariant-loop-entry g l = l.out.items ≡ l.fn.out.items ++ flat_map entry_text (take l.entry-index l.entries)
