-- What is read as a script: all that a reader gives (own choice).
use Rattle.std.specs.Prelude.{◌≡◌, ℕ, List, Option, Result, Ok, Err}
use Rattle.std.specs.Io.KnownBytes.{Consumes, IsAtEnd}
use Rattle.tool_script.specs.Script.{script_value}
use Rattle.tool_script.specs.declared.script.Script.{Script}
use Rattle.tool_script.specs.declared.reading.NoScript.{NoScript}
use Rattle.tool_script.specs.declared.reading.NoScript.TheVariants.{Line, Failed}

-- a reader gave this text, and has none left
abbrev pub GivesAll : Option (List ℕ) → Option (List ℕ) → List ℕ → Type 0
GivesAll old new text = Consumes old new text × IsAtEnd new

-- a reader gave a text that says this script, or whose line of this number is the first that says nothing; or a read failed, or memory was refused
abbrev pub ReadsScript : {A : Type 0} → Option (List ℕ) → Option (List ℕ) → Result (Script A) NoScript → Type 0
ReadsScript old new (Ok script) = (text : List ℕ) × GivesAll old new text × (script_value text ≡ Ok ((script.login.user, script.login.pass), script.orders.items))
ReadsScript old new (Err (Line number)) = (text : List ℕ) × GivesAll old new text × (script_value text ≡ Err number)
ReadsScript old new (Err (Failed error)) = Unit {0}
