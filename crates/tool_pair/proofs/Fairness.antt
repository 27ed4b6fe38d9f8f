-- What makes a beginning fair, and what does not.
use Rattle.std.proofs.Common.{◌≡◌, ◌∙◌, ◌<◌, ◌≤◌, ℕ, Bool, true, false, List, [], Option, Some, None, nat_le, sym, ap, subst, arith}
use Rattle.std.specs.Prelude.{IsTrue}
use Rattle.std.specs.List.{list_all}
use Rattle.std.proofs.lemmas.Bool.{leb-false, leb-true, le-leb, false≢true}
use Rattle.ftp_direct.specs.Direct.{part, start}
use Rattle.ftp_endpoint.specs.Written.{IsTypedHost}
use Rattle.ftp_endpoint.specs.declared.host.Host.{Host}
use Rattle.ftp_operation.specs.Account.{Account, accounts_refusal, login_account, is_user, is_password}
use Rattle.ftp_operation.specs.declared.account.AccountsFault.{AccountsFault}
use Rattle.ftp_path.specs.Path.{Names}
use Rattle.ftp_server_model.specs.Told.{is_path}
use Rattle.ftp_tree.specs.Sound.{IsSoundTree}
use Rattle.ftp_tree.specs.Tree.{Table, octets_in, total_limit, under}
use Rattle.laws_world.specs.Claims.{AreRelated}
use Rattle.laws_agreement.proofs.Beginning.{few_are_short}
use Rattle.tool_pair.specs.Begun.{begun}
use Rattle.tool_pair.specs.Refusing.{CanBegin}

-- ---- the part that a login sees

pub part_some : (table : Table) (seen : Option Account) (account : Account) → seen ≡ Some account → part (start table seen) ≡ under table account.root
part_some table seen account is = ap (λ s. part (start table s)) is

pub part_none : (table : Table) (seen : Option Account) (root : Names) → seen ≡ None → root ≡ [] → part (start table seen) ≡ under table root
part_none table seen root is none = ap (λ s. part (start table s)) is ∙ ap (under table) (sym none)

-- ---- fair

-- whether the map is within its limit where the login sees it
abbrev pub is_within : (user pass : List ℕ) → List Account → Table → Bool
is_within user pass accounts table = nat_le (octets_in (part (start table (login_account accounts user pass)))) (total_limit table)

pub can_begin : (user pass : List ℕ) (accounts list : List Account) (table : Table) (near_host far_host : Host) → IsTrue (is_user user) → IsTrue (is_password pass) → accounts ≡ list
    → accounts_refusal list ≡ None → IsTrue (list_all (λ account. is_path account.root) list) → IsSoundTree table → is_within user pass accounts table ≡ true
    → IsTypedHost near_host → IsTypedHost far_host → AreRelated near_host far_host → CanBegin (begun user pass accounts table near_host far_host)
can_begin user pass accounts list table near_host far_host named worded same apart roots sound within near far related = record {
  fair = record {
    user = named;
    pass = worded;
    accounts = ap accounts_refusal same ∙ apart;
    roots = subst (λ l. IsTrue (list_all (λ account. is_path account.root) l)) (sym same) roots;
    tree = sound.tree;
    files = few_are_short (part (start table (login_account accounts user pass))) (omega (arith, few));
    entries = sound.entries;
    near_typed = near;
    far_typed = far;
    hosts = related;
  };
  octets = few;
}
  where
    few : octets_in (part (start table (login_account accounts user pass))) ≤ total_limit table
    few = leb-true (octets_in (part (start table (login_account accounts user pass)))) (total_limit table) within

-- ---- not fair

pub not_related : (user pass : List ℕ) (list : List Account) (table : Table) (near_host far_host : Host) → ¬ (AreRelated near_host far_host) → ¬ CanBegin (begun user pass list table near_host far_host)
not_related user pass list table near_host far_host apart can = apart can.fair.hosts

pub not_accounts : (user pass : List ℕ) (list : List Account) (table : Table) (near_host far_host : Host) (fault : AccountsFault) → accounts_refusal list ≡ Some fault
    → ¬ CanBegin (begun user pass list table near_host far_host)
not_accounts user pass list table near_host far_host fault refused can = absurd (let same : None ≡ Some fault = sym can.fair.accounts ∙ refused in cc (same))

pub not_full : (user pass : List ℕ) (accounts list : List Account) (table : Table) (near_host far_host : Host) → accounts ≡ list → is_within user pass accounts table ≡ false
    → ¬ CanBegin (begun user pass list table near_host far_host)
not_full user pass accounts list table near_host far_host same over can =
    let all : is_within user pass list table ≡ true = le-leb (octets_in (part (start table (login_account list user pass)))) (total_limit table) can.octets in
    absurd (false≢true (sym over ∙ ap (λ l. is_within user pass l table) same ∙ all))

-- ---- and why

pub is_over : (user pass : List ℕ) (accounts list : List Account) (table : Table) → accounts ≡ list → is_within user pass accounts table ≡ false
    → total_limit table < octets_in (part (start table (login_account list user pass)))
is_over user pass accounts list table same over =
    leb-false (octets_in (part (start table (login_account list user pass)))) (total_limit table) (sym (ap (λ l. is_within user pass l table) same) ∙ over)
