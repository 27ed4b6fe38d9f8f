-- In what the worked rows of both ends are written: two hosts, and the octets of lines.
use Rattle.std.specs.Prelude.{ℕ, List, [], ◌∷◌}
use Rattle.std.specs.List.{flat_map}
use Rattle.ftp_endpoint.specs.declared.host.Host.{Host}
use Rattle.ftp_endpoint.specs.declared.host.Host.TheVariants.{V4}
pub use Rattle.ftp_nvt.specs.Lines.{written_line}

-- the host of both ends, 127.0.0.1
abbrev pub here : Host
here = V4 (127 ∷ 0 ∷ 0 ∷ 1 ∷ [])

-- a third host, which is nobody's peer
abbrev pub elsewhere : Host
elsewhere = V4 (10 ∷ 0 ∷ 0 ∷ 9 ∷ [])

-- the octets of lines
abbrev pub lines : List (List ℕ) → List ℕ
lines texts = flat_map written_line texts
