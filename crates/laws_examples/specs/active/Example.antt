-- Sessions of two drives that fetch a file, and peek into one, over an active data connection, as an example: the premises can be met (RFC 959, section 3.2;
-- RFC 2428).
use Rattle.std.specs.Prelude.{ℕ, true, false, List, [], ◌∷◌}
use Rattle.ftp_ports.specs.Actions.{Stand}
use Rattle.ftp_operation.specs.Answer.{Octets, Said}
use Rattle.ftp_operation.specs.declared.op.How.{How}
use Rattle.ftp_operation.specs.declared.op.Op.{Op}
use Rattle.ftp_operation.specs.declared.op.Op.TheVariants as Ops
use Rattle.ftp_server_driver.specs.alone.Side.{server_side}
use Rattle.ftp_settings.specs.Representation.{defaults}
use Rattle.ftp_tree.specs.Tree.{Table}
use Rattle.laws_active.specs.Over.{AreOver}
use Rattle.laws_drivers.specs.control.Example.{example}
use Rattle.laws_examples.specs.transfers.Example.{HasFile, example_name, example_octets}

-- as text, over a data connection that the server opens after EPRT
abbrev pub call_how : How
call_how = record { representation = defaults; marks = false; active = true; extended = true }

-- ---- it is fetched

-- the operation and its answer: the whole file
abbrev pub call_asked : List (Op (List ℕ) × Said)
call_asked = (Ops.Get example_name call_how, Octets example_octets) ∷ []

-- of every map with that file, and at any moment, drives did so by their contracts, and the server's was over since the client left after it
abbrev pub CallIsOver : Type 0
CallIsOver =
    (table : Table) (stamp : ℕ) (moments : ℕ → ℕ) → HasFile table stamp → (server : Stand server_side) × AreOver (example table) moments call_asked server

-- ---- its first octet is

-- the operation and its answer
abbrev pub peek_asked : List (Op (List ℕ) × Said)
peek_asked = (Ops.Peek example_name 1 call_how, Octets (104 ∷ [])) ∷ []

-- of every such map, and at any moment, drives did so by their contracts, and the server's was over since the client left after it
abbrev pub CallIsPeek : Type 0
CallIsPeek =
    (table : Table) (stamp : ℕ) (moments : ℕ → ℕ) → HasFile table stamp → (server : Stand server_side) × AreOver (example table) moments peek_asked server
