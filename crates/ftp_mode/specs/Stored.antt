-- How many octets a framer and a deframer store.
use Rattle.std.specs.Prelude.{ℕ, ◌+◌, length}
use Rattle.ftp_mode.specs.declared.framer.Framer.{Framer}
use Rattle.ftp_mode.specs.declared.framer.TheConstants.{BLOCK_LIMIT}
use Rattle.ftp_mode.specs.declared.deframer.Deframer.{Deframer}

-- a framer: the octets of the block that is filled or written, and those that go before and after it
abbrev pub framer_len : Framer → ℕ
framer_len f = length f.block.items + length f.owed.items

-- the most of these
abbrev pub framer_limit : ℕ
framer_limit = BLOCK_LIMIT + 23

-- a deframer: the restart marker that comes, or that came last
abbrev pub deframer_len : Deframer → ℕ
deframer_len f = length f.marker.items
