-- How much a server holds that keeps its limits.
use Rattle.std.proofs.Common.{◌≡◌, ◌≤◌, ◌+◌, true, List, ℕ, arith, length}
use Rattle.std.specs.Prelude.{nat_le}
use Rattle.std.specs.List.{list_all}
use Rattle.std.proofs.lemmas.Bool.{and_parts, leb-true}
use Rattle.ftp_path.specs.Path.{Names, fits, is_name, text_of, text_limit}
use Rattle.ftp_server_model.specs.Held.{path_len, access_len, pending_len, MayStore, KeepsLittle}
use Rattle.ftp_server_model.specs.Kept.{owed_limit}
use Rattle.ftp_server_model.specs.Told.{AccessKeeps, PendingKeeps}
use Rattle.ftp_server_model.specs.View.{Transfer}
use Rattle.ftp_server_model.specs.declared.session.Access.{Access}
use Rattle.ftp_server_model.specs.declared.session.Access.TheVariants.{Nobody, AwaitsPass, Known}
use Rattle.ftp_server_model.specs.declared.session.Pending.{Pending}
use Rattle.ftp_server_model.specs.declared.session.Pending.TheVariants as Pendings
use Rattle.ftp_server_model.specs.declared.session.ServerLink.{ServerLink}
use Rattle.ftp_server_model.specs.declared.session.ServerLink.TheVariants as Data

path_short : (path : Names) → fits path ≡ true → path_len path ≤ text_limit
unfolding fits
path_short path within = leb-true (length (text_of path)) text_limit (and_parts _ (nat_le (length (text_of path)) text_limit) within).1

access_short : (access : Access (List ℕ)) → AccessKeeps access → access_len access ≤ 255
access_short Nobody kept = omega arith
access_short (AwaitsPass name) kept = kept.1.0
access_short Known kept = omega arith

pending_short : (pending : Pending Names) → PendingKeeps pending → pending_len pending ≤ text_limit
pending_short Pendings.Nothing kept = omega arith
pending_short (Pendings.Rename from) kept = path_short from kept
pending_short (Pendings.Restart place) kept = omega arith

-- with what is owed meanwhile: less than without a transfer
standing_short : (stored owed : ℕ) (connection : ServerLink Transfer) → MayStore stored connection → owed ≤ owed_limit connection → owed + stored ≤ 18472
standing_short stored owed (Data.Opening transfer way) may within = omega (arith, may, within)
standing_short stored owed (Data.Transferring transfer) may within = omega (arith, may, within)
standing_short stored owed Data.Free may within = omega (arith, may, within)
standing_short stored owed (Data.Active endpoint) may within = omega (arith, may, within)
standing_short stored owed (Data.Asked asked) may within = omega (arith, may, within)
standing_short stored owed Data.Passive may within = omega (arith, may, within)
standing_short stored owed Data.Ready may within = omega (arith, may, within)

pub keeps_little : KeepsLittle
keeps_little stored v may k reading waiting =
    let s = v.session in
    omega (
      arith,
      standing_short stored (length v.owed) s.connection may k.owed,
      reading,
      waiting,
      access_short s.access k.session.access,
      path_short s.root k.session.root,
      path_short s.cwd (and_parts (list_all is_name s.cwd) (fits s.cwd) k.session.cwd).1,
      pending_short s.pending k.session.pending,
    )
