-- The faults as programs print them.
use Rattle.std.specs.Prelude.{ℕ, List, codes}
use Rattle.ftp_facts.specs.declared.fault.FactFault.{FactFault}
use Rattle.ftp_facts.specs.declared.fault.FactFault.TheVariants.{NoSpace, BadFact, BadMoment, Memory, BadName}

-- the number and the name of a fault
abbrev pub fact_fault_text : FactFault → List ℕ
fact_fault_text NoSpace = codes "F1 NoSpace"
fact_fault_text BadFact = codes "F2 BadFact"
fact_fault_text BadMoment = codes "F3 BadMoment"
fact_fault_text Memory = codes "F4 Memory"
fact_fault_text BadName = codes "F5 BadName"
