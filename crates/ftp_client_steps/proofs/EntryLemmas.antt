-- A line that is refused for another reason than want of memory says no entry.
use Rattle.std.proofs.Common.{◌≡◌, ◌≢◌, ℕ, List, Option, Some, None, refl}
use Rattle.ftp_facts.specs.Entry.{Refuses}
use Rattle.ftp_facts.specs.Listed.{Listed, entry_value}
use Rattle.ftp_facts.specs.declared.fault.FactFault.{FactFault}
use Rattle.ftp_facts.specs.declared.fault.FactFault.TheVariants.{Memory}
use Rattle.ftp_facts.proofs.Theorems.{Refuses-same}

no_entry : (line : List ℕ) (fault : FactFault) (entry : Option Listed) → entry_value line ≡ entry → Refuses line fault → fault ≢ Memory → entry ≡ None
no_entry line fault None is refuses other = refl
no_entry line fault (Some entry) is refuses other = absurd (other (Refuses-same line fault Memory refuses (entry, is)))

pub says_none : (line : List ℕ) (fault : FactFault) → Refuses line fault → fault ≢ Memory → entry_value line ≡ None
says_none line fault refuses other = no_entry line fault (entry_value line) refl refuses other
