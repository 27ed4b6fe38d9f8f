use Rattle.std.proofs.Common.{rules}
use Rattle.ftp_direct.specs.Direct.{names_for}
use Rattle.ftp_direct.proofs.listings.pathnames.Goals as goal

pub returns-then-not-is_file : goal.returns-then-not-is_file
unfolding names_for
returns-then-not-is_file g c = search rules

pub returns : goal.returns
unfolding names_for
returns g c = search rules
