-- How many octets an end of a session holds at most (own choices).
use Rattle.std.specs.Prelude.{◌≤◌, ℕ, length}
use Rattle.ftp_nvt.specs.Fold.{Unfinished}

-- the most octets that an end holds
abbrev pub held_limit : ℕ
held_limit = 24576

-- the most octets of a block as it is sent: three of its header, and its data (RFC 959, section 3.4.2)
abbrev pub block_limit : ℕ
block_limit = 8195

-- a line that is being read: its text is no longer than its octets so far, and these keep the limit
pub record IsShortLine (limit : ℕ) (u : Unfinished) : Type 0 where
  pub text : length u.text ≤ u.count
  pub count : u.count ≤ limit
