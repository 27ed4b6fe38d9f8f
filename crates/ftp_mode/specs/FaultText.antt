-- How a fault of a wire is told (own choice).
use Rattle.std.specs.Prelude.{ℕ, List, ◌++◌, codes, decimal}
use Rattle.ftp_mode.specs.declared.fault.FrameFault.{FrameFault}
use Rattle.ftp_mode.specs.declared.fault.FrameFault.TheVariants.{BadEscape, Suspect, BadMarker, EndedEarly}

-- the number, the name and the place of a fault
abbrev pub frame_fault_text : FrameFault → List ℕ
frame_fault_text (BadEscape place) = codes "M1 BadEscape(" ++ decimal place ++ codes ")"
frame_fault_text (Suspect place) = codes "M2 Suspect(" ++ decimal place ++ codes ")"
frame_fault_text (BadMarker place) = codes "M3 BadMarker(" ++ decimal place ++ codes ")"
frame_fault_text EndedEarly = codes "M4 EndedEarly"
