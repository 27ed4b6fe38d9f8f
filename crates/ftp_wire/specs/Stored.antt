-- How many octets an encoder stores.
use Rattle.std.specs.Prelude.{ℕ, ◌+◌, length}
use Rattle.ftp_mode.specs.Stored.{framer_len, framer_limit}
use Rattle.ftp_wire.specs.Encoding.{half_signs}
use Rattle.ftp_wire.specs.declared.encoder.Encoder.{Encoder}

-- what its framer stores, and the second octet of two
abbrev pub encoder_len : Encoder → ℕ
encoder_len e = framer_len e.framer + length (half_signs e.half)

-- the most of these
abbrev pub encoder_limit : ℕ
encoder_limit = framer_limit + 1
