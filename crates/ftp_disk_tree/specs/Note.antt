-- What a device answered: what it was, and the octets of it.
use Rattle.std.specs.Prelude.{ℕ, List, [], ◌∷◌, ◌++◌}
use Rattle.ftp_disk_tree.specs.declared.answer.Answer.{Answer}

abbrev pub NotedAnswer : Type 0
NotedAnswer = Answer × List ℕ

abbrev pub noted_event : Answer → List ℕ → NotedAnswer
noted_event answer octets = (answer, octets)

-- the octets of some answers, of which the newest comes first, in the order in which they came
unfoldable pub taken : List NotedAnswer → List ℕ
taken [] = []
taken (event ∷ events) = taken events ++ event.1
