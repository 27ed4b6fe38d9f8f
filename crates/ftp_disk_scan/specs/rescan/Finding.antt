-- How what stands on a disk differs from what a tree has (own choice).
use Rattle.ftp_disk_scan.specs.declared.rescan.finding.Finding.{Finding}
use Rattle.ftp_disk_scan.specs.declared.rescan.finding.Finding.TheVariants as Findings
use Rattle.ftp_disk_scan.specs.loading.Difference.{Difference, Same, Gone, Replaced, NotLonger, More}

-- the difference that a finding tells of; what can't be served, where the tree has nothing, is none
unfoldable pub difference_in : Finding → Difference
difference_in Findings.Nothing = Same
difference_in Findings.SameFile = Same
difference_in (Findings.SameDir look) = Same
difference_in Findings.Other = Same
difference_in Findings.Gone = Gone
difference_in Findings.TurnedOther = Gone
difference_in (Findings.Replaced thing) = Replaced
difference_in (Findings.NotLonger look) = NotLonger
difference_in (Findings.Longer look) = More
difference_in (Findings.New thing) = More
