-- Each of several sessions stays small (own choice of the limits).
use Rattle.std.specs.Prelude.{◌≡◌, ℕ, List, Some, slice_get}
use Rattle.ftp_tree.specs.Tree.{Table}
use Rattle.ftp_server_model.specs.Held.{HasShortFiles, IsTypedCue}
use Rattle.ftp_server_model.specs.Machine.{Reading, IsReading}
use Rattle.laws_server.specs.one.Small.{IsSmall}
use Rattle.laws_server.specs.several.Several.{Slot, Several, Turn, called}

-- the files of the map are within the limit, and each session is small
pub record AreSmallSessions (s : Several) : Type 0 where
  pub files : HasShortFiles s.table
  pub slots : (slot : ℕ) (sits : Slot) → slice_get s.slots slot ≡ Some sits → IsSmall sits.view

-- so it is after each turn
abbrev pub AllStaySmall : Type 0
AllStaySmall =
    (read : Reading) (turn : Turn) (s : Several) → IsReading read → IsTypedCue turn.cue → AreSmallSessions s → AreSmallSessions (called read turn s).1
