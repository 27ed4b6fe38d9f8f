-- What is held of a version of a file, as a tree of a disk sees it (own choice).
use Rattle.std.specs.Prelude.{ℕ, List, ◌++◌, take, replicate}

-- so many octets of those that are held, and zeros where fewer are
unfoldable pub fit : ℕ → List ℕ → List ℕ
fit len octets = take len (octets ++ replicate len 0)
