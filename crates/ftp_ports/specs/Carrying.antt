-- A data connection, of values of the program (RFC 959, section 3.2).
use Rattle.std.specs.Prelude.{◌≡◌, ℕ, List, ◌++◌, drop, take, Option, Some, None}
use Rattle.std.specs.Io.KnownBytes.{Appends}
use Rattle.ftp_ports.specs.declared.data.DataConnection.{DataConnection}

-- the octets of a room that were taken from this end and are not written yet
abbrev pub on_their_way : {S : Type 0} → DataConnection S → (room : List ℕ) → List ℕ
on_their_way connection room = drop connection.at (take connection.end room)

-- what a stream tells, where there is one
abbrev pub told_by : {S : Type 0} → (S → Option (List ℕ)) → Option S → Option (List ℕ)
told_by tells None = None
told_by tells (Some stream) = tells stream

-- what is left to be read of a data connection, where its stream tells that
abbrev pub left_of : {S : Type 0} → (S → Option (List ℕ)) → DataConnection S → Option (List ℕ)
left_of remaining connection = told_by remaining connection.stream

-- what was written to it, where its stream tells that
abbrev pub carried_of : {S : Type 0} → (S → Option (List ℕ)) → DataConnection S → Option (List ℕ)
carried_of contents connection = told_by contents connection.stream

-- the first of the octets on their way were written, and the others still are on their way
abbrev pub Sends : (old new : Option (List ℕ)) → (before after : List ℕ) → Type 0
Sends old new before after = (sent : List ℕ) × (before ≡ sent ++ after) × Appends old new sent
