-- Who may use a file that has a secret (own choice, as other servers and clients do with keys).
use Rattle.std.specs.Prelude.{ℕ, ◌==◌, ◌&&◌, not, bit_and, if◌then◌else◌}
use Rattle.tool_login.specs.declared.private.FileAccess.{FileAccess}
use Rattle.tool_login.specs.declared.private.FileAccess.TheVariants as Who

-- the number of root
abbrev pub root : ℕ
root = 0

-- the bits of a mode that a file with a secret has not, the last three for others and three before them for its group: 63 is each of them, and 31 is
-- each but that by which the group may read, which root may give
abbrev pub barred_bits : ℕ → ℕ
barred_bits owner = if owner == root then 31 else 63

-- root or who runs owns it, and its mode has no such bit
abbrev pub access_of : ℕ → ℕ → ℕ → FileAccess
access_of owner me mode =
    if not (owner == root) && not (owner == me) then Who.Foreign else (if bit_and mode (barred_bits owner) == 0 then Who.Private else Who.Shared)
