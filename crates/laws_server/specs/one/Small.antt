-- What stays small in a server, beside the limits that it keeps (`Kept` of `ftp_server_model`): the line that is being read, the line that
-- waits, the files of its map, and an upload with the octets before it (own choices of the limits).
use Rattle.std.specs.Prelude.{◌+◌, ◌≤◌, length}
use Rattle.ftp_ends.specs.Limits.{IsShortLine}
use Rattle.ftp_tree.specs.Tree.{most_octets}
use Rattle.ftp_server_model.specs.Held.{HasShortFiles, waiting_len}
use Rattle.ftp_server_model.specs.Keep.{kept_count}
use Rattle.ftp_server_model.specs.Kept.{ServerKeeps}
use Rattle.ftp_server_model.specs.View.{Session, Transfer, View, line_limit}
use Rattle.ftp_server_model.specs.declared.session.ServerLink.{ServerLink}
use Rattle.ftp_server_model.specs.declared.session.ServerLink.TheVariants as Data
use Rattle.ftp_server_model.specs.declared.session.Transfer.TheVariants as Transfers

-- an upload: the octets before it and those that came are no more than a limit may let a file have
abbrev pub IsShortTransfer : Transfer → Type 0
IsShortTransfer (Transfers.Upload path keep d) = kept_count keep + length d.content ≤ most_octets
IsShortTransfer Transfers.OverLimit = Unit {0}
IsShortTransfer (Transfers.Download rest) = Unit {0}
IsShortTransfer (Transfers.Listing rest) = Unit {0}

-- a transfer that waits for its data connection, or has it
abbrev pub IsShortConnection : ServerLink Transfer → Type 0
IsShortConnection Data.Free = Unit {0}
IsShortConnection (Data.Asked asked) = Unit {0}
IsShortConnection (Data.Active endpoint) = Unit {0}
IsShortConnection Data.Passive = Unit {0}
IsShortConnection Data.Ready = Unit {0}
IsShortConnection (Data.Opening transfer way) = IsShortTransfer transfer
IsShortConnection (Data.Transferring transfer) = IsShortTransfer transfer

-- a session: no file of its map has more octets than a limit may let it have, nor has what it uploads
pub record IsShortSession (s : Session) : Type 0 where
  pub files : HasShortFiles s.table
  pub connection : IsShortConnection s.connection

-- of a view: its session, the line that is being read, and the line that waits, which is at most twice as long as it is written
pub record IsShort (v : View) : Type 0 where
  pub session : IsShortSession v.session
  pub reading : IsShortLine line_limit v.ear.line
  pub waiting : waiting_len v.waiting ≤ line_limit + line_limit

-- a server that stays small: it keeps its limits too
pub record IsSmall (v : View) : Type 0 where
  pub keeps : ServerKeeps v
  pub short : IsShort v
