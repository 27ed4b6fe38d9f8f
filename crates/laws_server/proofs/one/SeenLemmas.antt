-- The part of a map at and below a root, seen from a session with that root: it is the same where nothing else stands.
use Rattle.std.proofs.Common.{◌≡◌, ℕ, true, false, List, [], None, refl, sym, ap, ◌∙◌, length, drop, append-nil}
use Rattle.ftp_path.proofs.KeyLemmas.{within-parts, within-append}
use Rattle.ftp_path.specs.Path.{Names, is_within}
use Rattle.ftp_tree.proofs.KeepLaws.{nothing-at}
use Rattle.ftp_tree.proofs.LawLemmas.{under-stands}
use Rattle.ftp_tree.proofs.PartLemmas.{part-comes, part-stays, part-taken, put_again}
use Rattle.ftp_tree.specs.Tree.{Table, default_limits, node_at, under, with_part}
use Rattle.ftp_direct.specs.Direct.{refusal}
use Rattle.ftp_operation.specs.declared.op.Op.{Op}
use Rattle.ftp_operation.specs.declared.op.Op.TheVariants as Ops
use Rattle.ftp_server_model.specs.Play.{no_nodes, only_at}
use Rattle.ftp_server_model.specs.View.{Session, direct_of, seen}

-- a session whose map is only what stands at and below a root
abbrev pub at : Names → Session → Session
at root s = record s { table = only_at root s.table }

-- the session sees the same part
pub seen_at : (s : Session) → seen (at s.root s) ≡ seen s
seen_at s = part-taken no_nodes s.root (under s.table s.root)

-- and where that changes alike, the rest stays apart
pub changed_at : (table : Table) (root : Names) (new its : Table) → its ≡ new → with_part (only_at root table) root its ≡ only_at root (with_part table root new)
changed_at table root new its same =
    ap (λ part. with_part (only_at root table) root part) same ∙ put_again no_nodes root (under table root) new
    ∙ ap (λ part. with_part no_nodes root part) (sym (part-taken table root new))

-- what stands at a path below the root
pub inside_at : (table : Table) (root path : Names) → is_within root path ≡ true → node_at (only_at root table) path ≡ node_at table path
inside_at table root path inside =
    let rest : Names = drop (length root) path in
    let is = within-parts root path inside in
    ap (node_at (only_at root table)) is ∙ part-comes no_nodes root (under table root) rest ∙ under-stands table root rest ∙ ap (node_at table) (sym is)

-- nothing stands elsewhere
pub outside_at : (table : Table) (root path : Names) → is_within root path ≡ false → node_at (only_at root table) path ≡ None
outside_at table root path out = part-stays no_nodes root (under table root) path out ∙ nothing-at default_limits path

pub within_itself : (root : Names) → is_within root root ≡ true
within_itself root = ap (is_within root) (sym (append-nil root)) ∙ within-append root []

-- an operation is refused alike
pub refused_at : (s : Session) (op : Op (List ℕ)) → refusal (direct_of (at s.root s)) op ≡ refusal (direct_of s) op
refused_at s Ops.Where = refl
refused_at s (Ops.ChangeDir text) = rw (part-taken no_nodes s.root (under s.table s.root)) refl
refused_at s Ops.Up = refl
refused_at s (Ops.MakeDir text) = rw (part-taken no_nodes s.root (under s.table s.root)) refl
refused_at s (Ops.RemoveDir text) = rw (part-taken no_nodes s.root (under s.table s.root)) refl
refused_at s (Ops.Delete text) = rw (part-taken no_nodes s.root (under s.table s.root)) refl
refused_at s (Ops.Rename text new) = rw (part-taken no_nodes s.root (under s.table s.root)) refl
refused_at s (Ops.Put text octets how) = rw (part-taken no_nodes s.root (under s.table s.root)) refl
refused_at s (Ops.Append text octets how) = rw (part-taken no_nodes s.root (under s.table s.root)) refl
refused_at s (Ops.PutFrom text offset octets how) = rw (part-taken no_nodes s.root (under s.table s.root)) refl
refused_at s (Ops.Get text how) = rw (part-taken no_nodes s.root (under s.table s.root)) refl
refused_at s (Ops.GetFrom text offset how) = rw (part-taken no_nodes s.root (under s.table s.root)) refl
refused_at s (Ops.Peek text count how) = rw (part-taken no_nodes s.root (under s.table s.root)) refl
refused_at s (Ops.Size text how) = rw (part-taken no_nodes s.root (under s.table s.root)) refl
refused_at s (Ops.Modified text) = rw (part-taken no_nodes s.root (under s.table s.root)) refl
refused_at s (Ops.Facts text) = rw (part-taken no_nodes s.root (under s.table s.root)) refl
refused_at s (Ops.List text how) = rw (part-taken no_nodes s.root (under s.table s.root)) refl
refused_at s (Ops.Names text how) = rw (part-taken no_nodes s.root (under s.table s.root)) refl
refused_at s (Ops.Text verb text how) = rw (part-taken no_nodes s.root (under s.table s.root)) refl
