-- What a session begins with here, and why none begins so.
use Rattle.std.specs.Prelude.{◌≡◌, ◌<◌, ◌≤◌, None, Some}
use Rattle.ftp_direct.specs.Direct.{part}
use Rattle.ftp_operation.specs.Account.{accounts_refusal}
use Rattle.ftp_tree.specs.Tree.{octets_in, total_limit}
use Rattle.laws_world.specs.Claims.{AreRelated, Beginning, IsFair, state_of}
use Rattle.tool_pair.specs.declared.beginning.Unfair.{Unfair}
use Rattle.tool_pair.specs.declared.beginning.Unfair.TheVariants.{Accounts, Full, Hosts}

-- a fair beginning, of a map whose files together are within the limit where the login sees it
pub record CanBegin (from : Beginning) : Type 0 where
  pub fair : IsFair from
  pub octets : octets_in (part (state_of from)) ≤ total_limit from.table

-- the first of these that holds: the hosts are of two families; the accounts are refused; the tree is over its limit where the login sees it
abbrev pub IsWhy : Unfair → Beginning → Type 0
IsWhy Hosts from = ¬ AreRelated from.near_host from.far_host
IsWhy (Accounts fault) from = AreRelated from.near_host from.far_host × (accounts_refusal from.accounts ≡ Some fault)
IsWhy Full from =
    AreRelated from.near_host from.far_host × (accounts_refusal from.accounts ≡ None) × (total_limit from.table < octets_in (part (state_of from)))
