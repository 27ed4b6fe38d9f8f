-- What a host was asked of names, and did.
use Rattle.std.specs.Prelude.{ℕ, List, ◌∷◌, ◌++◌}
use Rattle.ftp_path.specs.Path.{Names, joined}
use Rattle.ftp_disk_tree.specs.declared.answer.Answer.{Answer}
use Rattle.ftp_disk_tree.specs.declared.answer.Answer.TheVariants.{Left}
use Rattle.ftp_disk_tree.specs.Note.{NotedAnswer, noted_event}

-- the place of a path below a root: a `/` before each name
abbrev pub place_of : (root path : Names) → List ℕ
place_of root path = joined root ++ joined path

-- one more answer of a place
abbrev pub asked : Answer → (place : List ℕ) → List NotedAnswer → List NotedAnswer
asked answer place events = noted_event answer place ∷ events

-- one more move from a place to another
abbrev pub asked_move : Answer → (from to : List ℕ) → List NotedAnswer → List NotedAnswer
asked_move answer from to events = noted_event answer to ∷ noted_event Left from ∷ events
