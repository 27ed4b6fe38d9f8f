-- A file that is opened, and read into the front of a room.
use Rattle.std.proofs.Common.{◌≡◌, ◌≢◌, ℕ, ◌+◌, ◌≤◌, arith, inl, inr, List, [], length, take, drop, Option, Some, None, refl, ap, sym, ◌∙◌}
use Rattle.std.specs.Option.{unwrap_or}
use Rattle.std.proofs.lemmas.List.{length-drop, length-take-le, take-take}
use Rattle.ftp_path.specs.Path.{Names}
use Rattle.ftp_tree.specs.Change.{Failures, IsRefused}
use Rattle.ftp_tree.specs.Tree.{Table, file_refusal, node_at, octets_at, octets_or_none}
use Rattle.ftp_tree.specs.Map.{Node, Dir, File, octets_of, of_node}
use Rattle.ftp_tree.specs.declared.fault.TreeFault.{TreeFault}
use Rattle.ftp_tree.specs.declared.fault.TreeFault.TheVariants.{Device, Memory}

no_octets : (node : Option Node) (why : TreeFault) → file_refusal node ≡ Some why → unwrap_or (of_node octets_of node) [] ≡ []
no_octets None why is = refl
no_octets (Some Dir) why is = refl
no_octets (Some (File octets moment)) why is = cc

-- the reason that the map gave
reason_of : (refusal : Option TreeFault) (fault : TreeFault) (old new : Table) (before after : Failures) → IsRefused refusal fault old new before after → fault ≢ Memory → fault ≢ Device
    → refusal ≡ Some fault
reason_of None fault old new before after (same, inl (memory, kept)) other ours = absurd (other memory)
reason_of None fault old new before after (same, inr (device, moved)) other ours = absurd (ours device)
reason_of (Some why) fault old new before after (same, (reason, kept)) other ours = ap Some (sym reason)

-- where none is had by the map, no octets are there
pub none_there : (table : Table) (path : Names) (fault : TreeFault) (old new : Table) (before after : Failures) → IsRefused (file_refusal (node_at table path)) fault old new before after
    → fault ≢ Memory → fault ≢ Device → octets_or_none table path ≡ []
unfolding octets_at
none_there table path fault old new before after refused other ours =
    no_octets (node_at table path) fault (reason_of (file_refusal (node_at table path)) fault old new before after refused other ours)

-- what was read is a piece of the file, as it was opened first
pub piece_of : (first file room : List ℕ) (at count : ℕ) → file ≡ first → take count room ≡ take count (drop at file) → count ≤ length (drop at file)
    → (take count room ≡ take (length (take count room)) (drop at first)) × (length (take count room) ≡ count)
piece_of first file room at count same gives within =
    let long : length (take count room) ≡ count = ap length gives ∙ length-take-le count (drop at file) within in
    (gives ∙ ap (λ n. take n (drop at file)) (sym long) ∙ ap (λ f. take (length (take count room)) (drop at f)) same, long)

-- and so are its first octets
pub front_of : (file room : List ℕ) (at few count : ℕ) → few ≤ count → take count room ≡ take count (drop at file) → take few room ≡ take few (drop at file)
front_of file room at few count le gives =
    sym (take-take few count room le) ∙ ap (λ piece. take few piece) gives ∙ take-take few count (drop at file) le

-- no octets come from past the end
pub within_end : (first file : List ℕ) (at count : ℕ) → file ≡ first → count ≤ length (drop at file) → at ≤ length first → at + count ≤ length first
within_end first file at count same most before = omega (arith, ap length same, length-drop at file, most, before)
