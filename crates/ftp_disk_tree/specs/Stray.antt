-- Which answers of a device stray from what it holds, as a function from versions of files to octets, which nobody can read.
use Rattle.std.specs.Prelude.{ℕ, ◌+◌, List, [], ◌∷◌, ◌++◌, length, take, drop, bytes_eq, if◌then◌else◌}
use Rattle.ftp_disk_tree.specs.declared.answer.Answer.{Answer}
use Rattle.ftp_disk_tree.specs.declared.answer.Answer.TheVariants.{Took, Read, Put, Changed}
use Rattle.ftp_disk_tree.specs.declared.answer.Front.{Front}
use Rattle.ftp_disk_tree.specs.Note.{NotedAnswer}
use Rattle.ftp_disk_scan.specs.loading.Compared.{Pair, all_agree}
use Rattle.ftp_disk_scan.specs.loading.Held.{fit}

-- the octets that are kept of a version
abbrev pub front_of : (ℕ → List ℕ) → Front → List ℕ
front_of holds front = take front.count (fit front.len (holds front.version))

-- one stray where octets are others than those that are held, and else none
unfoldable pub strays_between : (held octets : List ℕ) → ℕ
strays_between held octets = if bytes_eq held octets then 0 else 1

-- An answer strays where what was read is not what is held there, where what was put is not what is held of the new version, and where others changed
-- what the device keeps. One of a name does not.
unfoldable pub strays_in : (ℕ → List ℕ) → Answer → List ℕ → ℕ
strays_in holds Took octets = 0
strays_in holds (Read reading) octets = strays_between (take (length octets) (drop reading.at (fit reading.len (holds reading.version)))) octets
strays_in holds (Put putting) octets = strays_between (fit putting.len (holds putting.version)) (front_of holds putting.front ++ octets)
strays_in holds Changed octets = 1
strays_in holds other octets = 0

-- how many of these answers stray
unfoldable pub strays_of : (ℕ → List ℕ) → List NotedAnswer → ℕ
strays_of holds [] = 0
strays_of holds (event ∷ events) = strays_of holds events + strays_in holds event.0 event.1

-- A look strays once where something that it found on the disk is not what the tree has there, and else not.
unfoldable pub strays_found : List Pair → ℕ
strays_found pairs = if all_agree pairs then 0 else 1
