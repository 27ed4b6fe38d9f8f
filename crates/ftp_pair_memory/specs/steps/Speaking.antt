-- What an end did beside a control connection in memory (RFC 959, section 2.3).
use Rattle.std.specs.Prelude.{◌≡◌, ℕ, List, ◌++◌}
use Rattle.ftp_ports.specs.Actions.{Action, Led, read_in, said_in}
use Rattle.ftp_ports.specs.Side.{Side}
use Rattle.ftp_pair_memory.specs.streams.Plain.{quiet}

module _ {side : Side} where
  -- actions led from one to the other: what was read is the front of what had come, and what was said went behind what had been written
  pub record Speaks (actions : List (Action side)) (old new : side.End) (came left before after : List ℕ) : Type 0 where
    pub led : Led actions (quiet old) (quiet new)
    pub read : came ≡ read_in actions ++ left
    pub wrote : after ≡ before ++ said_in actions
