-- Whether what stood at a path when a draft was begun still stands there (own choice).
use Rattle.std.specs.Prelude.{◌≡◌, ℕ, ◌+◌, ◌==◌, Bool, true, false, Option, Some, None, List, if◌then◌else◌}
use Rattle.ftp_tree.specs.Map.{Node}
use Rattle.ftp_tree.specs.Map as map
use Rattle.ftp_disk_scan.specs.loading.Held.{fit}
use Rattle.ftp_disk_tree.specs.declared.thing.Thing.{Thing}
use Rattle.ftp_disk_tree.specs.declared.thing.Thing.TheVariants as Things

-- what stands at a path: of a file, the version whose octets are held under its number
abbrev pub IsThing : (ℕ → List ℕ) → Thing → Option Node → Type 0
IsThing holds Things.Nothing node = node ≡ None
IsThing holds Things.Dir node = node ≡ Some map.Dir
IsThing holds (Things.Version number) (Some (map.File octets moment)) = (len : ℕ) × (octets ≡ fit len (holds number))
IsThing holds (Things.Version number) other = ⊥

-- both are the same
abbrev pub same_thing : (one other : Thing) → Bool
same_thing Things.Nothing Things.Nothing = true
same_thing Things.Dir Things.Dir = true
same_thing (Things.Version one) (Things.Version other) = one == other
same_thing one other = false

-- where another thing stands there than stood, that is a stray, after so many of a look
pub record StraysSince (holds : ℕ → List ℕ) (stood : Thing) (node : Option Node) (looked after : ℕ) : Type 0 where
  pub now : Thing
  pub is : IsThing holds now node
  pub strays : after ≡ looked + (if same_thing stood now then 0 else 1)
