-- A control connection, of values of the program.
use Rattle.std.specs.Prelude.{ℕ, Bool, List, drop, take, Option}
use Rattle.ftp_ports.specs.declared.control.Control.{Control}

-- what was read and is not heard yet
abbrev pub unheard_of : {R W : Type 0} → Control R W → List ℕ
unheard_of control = drop control.at (take control.end control.piece)

-- what is still to be read: what a reader has left, where it tells that, and whether a read found the end
pub record Source : Type 0 where
  pub octets : Option (List ℕ)
  pub ended : Bool

abbrev pub left_of : {R W : Type 0} → (R → Option (List ℕ)) → Control R W → Source
left_of remaining control = record { octets = remaining control.reader; ended = control.ended }

-- what was written to its writer, where a writer tells that
abbrev pub written_of : {R W : Type 0} → (W → Option (List ℕ)) → Control R W → Option (List ℕ)
written_of contents control = contents control.writer
