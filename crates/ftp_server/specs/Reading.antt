-- A line as a server reads it, where the memory for its text may be refused.
use Rattle.std.specs.Prelude.{◌≡◌, ℕ, true, List, Option, Some, None}
use Rattle.ftp_server_model.specs.Failing.{holds_text}
use Rattle.ftp_server_model.specs.declared.heard.HeardLine.{HeardLine}
use Rattle.ftp_server_model.specs.declared.heard.HeardLine.TheVariants.{Asks}

-- a line that says a command which holds a text
abbrev pub SaysTextCommand : HeardLine (List ℕ) → Type 0
SaysTextCommand (Asks command) = holds_text command ≡ true
SaysTextCommand heard = ⊥

-- it is read as this; or not at all, and it holds a text
abbrev pub IsReadAs : HeardLine (List ℕ) → Option (HeardLine (List ℕ)) → Type 0
IsReadAs heard (Some read) = read ≡ heard
IsReadAs heard None = SaysTextCommand heard
