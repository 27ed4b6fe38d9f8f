-- What a read or a write of a data connection tells of it.
use Rattle.std.specs.declared.result.Result.{Result}
use Rattle.std.specs.declared.result.Result.TheVariants.{Ok, Err}
use Rattle.ftp_ports.specs.declared.data.Halt.{Halt}
use Rattle.ftp_ports.specs.declared.data.Halt.TheVariants as Halts
use Rattle.ftp_ports.specs.declared.whole.Fate.{Fate}
use Rattle.ftp_ports.specs.declared.whole.Fate.TheVariants as Fates

-- what became of one where a read or a write moved none
abbrev pub fate_halted : Halt → (before : Fate) → Fate
fate_halted Halts.Broken before = Fates.Failed
fate_halted other before = before

-- by how a read or a write of it came out, and by what it was before
abbrev pub fate_by : {T : Type 0} → Result T Halt → (before : Fate) → Fate
fate_by (Ok moved) before = before
fate_by (Err halt) before = fate_halted halt before
