-- A session that is lent another map: an upload that it has may be overtaken, and all else stays.
use Rattle.std.proofs.Common.{◌≡◌, ℕ, ◌+◌, ◌≤◌, Bool, true, false, Option, Some, None, refl, sym, ap, subst, ◌∙◌, length}
use Rattle.ftp_path.specs.Path.{Names}
use Rattle.ftp_tree.specs.Tree.{Table, most_octets}
use Rattle.ftp_server_model.specs.Held.{HasShortFiles}
use Rattle.ftp_server_model.specs.Keep.{is_overtaken, kept_count, overtaken_keep}
use Rattle.ftp_server_model.specs.Kept.{owed_limit}
use Rattle.ftp_server_model.specs.Machine.{is_transferring}
use Rattle.ftp_server_model.specs.Play.{at_root, only_at}
use Rattle.ftp_server_model.specs.Standing.{overtaken_in, overtaken_unless, same_standing, standing_at, standing_for, standing_in, standing_of, still_stands}
use Rattle.ftp_server_model.specs.Told.{ConnectionKeeps}
use Rattle.ftp_server_model.specs.View.{Session, Transfer, View, seen}
use Rattle.ftp_server_model.specs.declared.session.Keep.{Keep}
use Rattle.ftp_server_model.specs.declared.session.Keep.TheVariants as Keeps
use Rattle.ftp_server_model.specs.declared.session.ServerLink.{ServerLink}
use Rattle.ftp_server_model.specs.declared.session.ServerLink.TheVariants as Data
use Rattle.ftp_server_model.specs.declared.session.Standing.{Standing}
use Rattle.ftp_server_model.specs.declared.session.Transfer.TheVariants as Transfers
use Rattle.laws_server.proofs.one.SeenLemmas.{at, seen_at}
use Rattle.laws_server.specs.one.Small.{IsShortConnection, IsSmall}
use Rattle.laws_server.specs.several.Company.{IsInSlot}
use Rattle.laws_server.specs.several.Actions.{OthersOvertake}
use Rattle.laws_server.specs.several.Several.{exchanged, lent_as}

-- a view that is overtaken, or is not
abbrev linked : Bool → View → View
linked stays v = record v { session = record v.session { connection = overtaken_unless stays v.session.connection } }

-- ---- below a root

-- a transfer stands as before
still_transferring : (connection : ServerLink Transfer) → is_transferring (overtaken_in connection) ≡ is_transferring connection
still_transferring Data.Free = refl
still_transferring (Data.Asked asked) = refl
still_transferring (Data.Active endpoint) = refl
still_transferring Data.Passive = refl
still_transferring Data.Ready = refl
still_transferring (Data.Opening transfer way) = refl
still_transferring (Data.Transferring transfer) = refl

-- who has a root has it still
pub lent_in_slot : (root : Names) (stood : Option Standing) (v : View) → IsInSlot root v → IsInSlot root (lent_as stood v)
lent_in_slot root stood v in_slot = by (still_stands stood (standing_of v.session))
  where
    by : (stays : Bool) → IsInSlot root (linked stays v)
    by true = record { known = in_slot.known; held = in_slot.held }
    by false = record { known = in_slot.known; held = λ is. in_slot.held (sym (still_transferring v.session.connection) ∙ is) }

same_seen : (root : Names) (s : Session) → s.root ≡ root → seen (at root s) ≡ seen s
same_seen root s same = subst (λ (r : Names). seen (at r s) ≡ seen s) same (seen_at s)

-- what stands at the path of an upload stands below its root
standing_below : (connection : ServerLink Transfer) (root : Names) (s : Session) → (is_transferring connection ≡ true → s.root ≡ root)
    → standing_in connection (seen (at root s)) ≡ standing_in connection (seen s)
standing_below Data.Free root s held = refl
standing_below (Data.Asked asked) root s held = refl
standing_below (Data.Active endpoint) root s held = refl
standing_below Data.Passive root s held = refl
standing_below Data.Ready root s held = refl
standing_below (Data.Opening transfer way) root s held = ap (standing_for transfer) (same_seen root s (held refl))
standing_below (Data.Transferring transfer) root s held = ap (standing_for transfer) (same_seen root s (held refl))

pub standing_in_part : (root : Names) (v : View) → (is_transferring v.session.connection ≡ true → v.session.root ≡ root)
    → standing_of (at_root root v).session ≡ standing_of v.session
standing_in_part root v held = standing_below v.session.connection root v.session held

-- so whether it is overtaken is seen there
pub lent_in_part : (root : Names) (stood : Option Standing) (v : View) → (is_transferring v.session.connection ≡ true → v.session.root ≡ root)
    → lent_as stood (at_root root v) ≡ at_root root (lent_as stood v)
lent_in_part root stood v held =
    ap (λ (now : Option Standing). linked (still_stands stood now) (at_root root v)) (standing_in_part root v held)

-- ---- limits

same_count : (keep : Keep) → kept_count (overtaken_keep keep) ≡ kept_count keep
same_count (Keeps.First count) = refl
same_count (Keeps.All count) = refl
same_count (Keeps.FirstOvertaken count) = refl
same_count (Keeps.AllOvertaken count) = refl

still_keeps : (connection : ServerLink Transfer) → ConnectionKeeps connection → ConnectionKeeps (overtaken_in connection)
still_keeps Data.Free k = k
still_keeps (Data.Asked asked) k = k
still_keeps (Data.Active endpoint) k = k
still_keeps Data.Passive k = k
still_keeps Data.Ready k = k
still_keeps (Data.Opening (Transfers.Upload path keep d) way) k = k
still_keeps (Data.Opening Transfers.OverLimit way) k = k
still_keeps (Data.Opening (Transfers.Download rest) way) k = k
still_keeps (Data.Opening (Transfers.Listing rest) way) k = k
still_keeps (Data.Transferring (Transfers.Upload path keep d)) k = k
still_keeps (Data.Transferring Transfers.OverLimit) k = k
still_keeps (Data.Transferring (Transfers.Download rest)) k = k
still_keeps (Data.Transferring (Transfers.Listing rest)) k = k

still_short : (connection : ServerLink Transfer) → IsShortConnection connection → IsShortConnection (overtaken_in connection)
still_short Data.Free k = k
still_short (Data.Asked asked) k = k
still_short (Data.Active endpoint) k = k
still_short Data.Passive k = k
still_short Data.Ready k = k
still_short (Data.Opening (Transfers.Upload path keep d) way) k = subst (λ (n : ℕ). n + length d.content ≤ most_octets) (sym (same_count keep)) k
still_short (Data.Opening Transfers.OverLimit way) k = k
still_short (Data.Opening (Transfers.Download rest) way) k = k
still_short (Data.Opening (Transfers.Listing rest) way) k = k
still_short (Data.Transferring (Transfers.Upload path keep d)) k = subst (λ (n : ℕ). n + length d.content ≤ most_octets) (sym (same_count keep)) k
still_short (Data.Transferring Transfers.OverLimit) k = k
still_short (Data.Transferring (Transfers.Download rest)) k = k
still_short (Data.Transferring (Transfers.Listing rest)) k = k

-- as much may be owed
same_limit : (connection : ServerLink Transfer) → owed_limit (overtaken_in connection) ≡ owed_limit connection
same_limit Data.Free = refl
same_limit (Data.Asked asked) = refl
same_limit (Data.Active endpoint) = refl
same_limit Data.Passive = refl
same_limit Data.Ready = refl
same_limit (Data.Opening transfer way) = refl
same_limit (Data.Transferring transfer) = refl

-- a small session stays small
pub lent_small : (stood : Option Standing) (v : View) → IsSmall v → IsSmall (lent_as stood v)
lent_small stood v k = by (still_stands stood (standing_of v.session))
  where
    -- with this connection
    so : (stays : Bool) → ConnectionKeeps (overtaken_unless stays v.session.connection) → IsShortConnection (overtaken_unless stays v.session.connection)
        → owed_limit (overtaken_unless stays v.session.connection) ≡ owed_limit v.session.connection → IsSmall (linked stays v)
    so stays keeps short same = record {
      keeps = record {
        accounts = k.keeps.accounts;
        host = k.keeps.host;
        session = record {
          access = k.keeps.session.access;
          root = k.keeps.session.root;
          cwd = k.keeps.session.cwd;
          pending = k.keeps.session.pending;
          connection = keeps;
        };
        waiting = k.keeps.waiting;
        owed = subst (λ (n : ℕ). length v.owed ≤ n) (sym same) k.keeps.owed;
      };
      short = record {
        session = record { files = k.short.session.files; connection = short };
        reading = k.short.reading;
        waiting = k.short.waiting;
      };
    }

    by : (stays : Bool) → IsSmall (linked stays v)
    by true = so true k.keeps.session.connection k.short.session.connection refl
    by false = so false (still_keeps v.session.connection k.keeps.session.connection) (still_short v.session.connection k.short.session.connection)
        (same_limit v.session.connection)

-- ---- when it is overtaken

stays_so : (keep : Keep) → is_overtaken keep ≡ true → overtaken_keep keep ≡ keep
stays_so (Keeps.First count) is = absurd (cc)
stays_so (Keeps.All count) is = absurd (cc)
stays_so (Keeps.FirstOvertaken count) is = refl
stays_so (Keeps.AllOvertaken count) is = refl

is_so : (keep : Keep) → is_overtaken (overtaken_keep keep) ≡ true
is_so (Keeps.First count) = refl
is_so (Keeps.All count) = refl
is_so (Keeps.FirstOvertaken count) = refl
is_so (Keeps.AllOvertaken count) = refl

-- what is known of the upload that stands
found_other : (stood : Standing) (v : View) (connection : ServerLink Transfer) → v.session.connection ≡ connection
    → still_stands (Some stood) (standing_in connection (seen v.session)) ≡ false
    → (lent_as (Some stood) v).session.connection ≡ overtaken_in connection
found_other stood v connection is other =
    let stays : still_stands (Some stood) (standing_of v.session) ≡ false =
    ap (λ (c : ServerLink Transfer). still_stands (Some stood) (standing_in c (seen v.session))) is ∙ other in
    ap (λ (b : Bool). overtaken_unless b v.session.connection) stays ∙ ap overtaken_in is

pub others_overtake : OthersOvertake
others_overtake = record {
  under_way = λ table stood path keep d v is other.
      found_other stood (exchanged table v) (Data.Transferring (Transfers.Upload path keep d)) is other;
  opening = λ table stood path keep d way v is other.
      found_other stood (exchanged table v) (Data.Opening (Transfers.Upload path keep d) way) is other;
  stays = λ keep. (is_so keep, stays_so keep);
  still = λ table sits stays. ap (λ (b : Bool). linked b (exchanged table sits.view)) stays;
  known = λ own v. refl;
}
