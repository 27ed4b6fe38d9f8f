-- What one that serves does while it wants its data connection closed (RFC 959, section 3.2).
use Rattle.std.specs.Prelude.{⊤}
use Rattle.ftp_ports.specs.Actions.{Action, Said, Other}
use Rattle.ftp_ports.specs.Machine.{Machine, Aside, Break, Closed, Failed, Left, LetGo, Wrote, side_of}

-- it is asked what it owes and whether its drive is over; what was given before is written, or that fails and it is told so; what came before is let
-- go; and its data connection is left, which it is told. No octet is read, heard, taken or given
abbrev pub IsOfClosing : (machine : Machine) → Action (side_of machine) → Type 0
IsOfClosing machine (Said octets) = ⊤
IsOfClosing machine (Other (Aside own)) = ⊤
IsOfClosing machine (Other (Wrote octets)) = ⊤
IsOfClosing machine (Other Failed) = ⊤
IsOfClosing machine (Other Break) = ⊤
IsOfClosing machine (Other (LetGo octets)) = ⊤
IsOfClosing machine (Other (Left asked)) = ⊤
IsOfClosing machine (Other Closed) = ⊤
IsOfClosing machine other = ⊥
