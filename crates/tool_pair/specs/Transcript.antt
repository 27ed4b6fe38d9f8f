-- The transcript of a session (own choice): each control line, once it was wholly delivered, with who says it before it. The lines are those of all
-- octets that were taken in its direction, in the order in which their last octets were.
use Rattle.std.specs.Prelude.{ℕ, Bool, List, [], ◌∷◌, ◌++◌, map, flat_map, length, drop, codes, if◌then◌else◌}
use Rattle.ftp_nvt.specs.Lines.{cut, without_return}
use Rattle.laws_world.specs.Events.{Queue, ControlToServer, ControlToClient, DataToServer, DataToClient}

-- a delivery: a queue, and the octets that its receiver took of it
pub data Delivery : Type 0 where
  delivered : (queue : Queue) → (octets : List ℕ) → Delivery

-- the control octets that the server took of deliveries
abbrev pub to_server : List Delivery → List ℕ
to_server [] = []
to_server (delivered ControlToServer octets ∷ more) = octets ++ to_server more
to_server (other ∷ more) = to_server more

-- those that the client took
abbrev pub to_client : List Delivery → List ℕ
to_client [] = []
to_client (delivered ControlToClient octets ∷ more) = octets ++ to_client more
to_client (other ∷ more) = to_client more

-- the lines that stand whole in octets, each without its end (RFC 959, section 4; own choice: an LF without a CR before it ends one too)
abbrev pub lines_in : List ℕ → List (List ℕ)
lines_in octets = map without_return (cut octets).ended

-- the lines that octets end which come after others
abbrev pub lines_ended_by : List ℕ → List ℕ → List (List ℕ)
lines_ended_by before octets = drop (length (lines_in before)) (lines_in (before ++ octets))

-- a line, with who says it before it
abbrev pub told_line : List ℕ → List ℕ → List ℕ
told_line who line = who ++ line ++ 10 ∷ []

-- what is told of a delivery that comes after others: the lines that it ends, of the client where the server took them, and of the server where the
-- client did; nothing of data
abbrev pub told_of : List Delivery → Delivery → List ℕ
told_of before (delivered ControlToServer octets) = flat_map (told_line (codes "C: ")) (lines_ended_by (to_server before) octets)
told_of before (delivered ControlToClient octets) = flat_map (told_line (codes "S: ")) (lines_ended_by (to_client before) octets)
told_of before (delivered DataToServer octets) = []
told_of before (delivered DataToClient octets) = []

-- what is told of deliveries that come after others, one after another
abbrev pub told_after : List Delivery → List Delivery → List ℕ
told_after before [] = []
told_after before (next ∷ more) = told_of before next ++ told_after (before ++ next ∷ []) more

-- the transcript of deliveries, where it is wanted; and else nothing
abbrev pub transcript : Bool → List Delivery → List ℕ
transcript wanted deliveries = if wanted then told_after [] deliveries else []
