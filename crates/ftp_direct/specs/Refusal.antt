-- Why an operation is refused, and the code of the reply that tells it (RFC 959, section 4.2).
use Rattle.std.specs.Prelude.{ℕ}
use Rattle.ftp_tree.specs.declared.fault.TreeFault.{TreeFault}
use Rattle.ftp_tree.specs.declared.fault.TreeFault.TheVariants as Faults
use Rattle.ftp_direct.specs.declared.refusal.Refusal.{Refusal}
use Rattle.ftp_direct.specs.declared.refusal.Refusal.TheVariants.{LocalFault, NoRoom, BadArgument, BadParameter, NotLoggedIn, Unavailable, NotAllowed, TooMuch, BadName}

abbrev pub code_of : Refusal → ℕ
code_of LocalFault = 451
code_of NoRoom = 452
code_of BadArgument = 501
code_of BadParameter = 504
code_of NotLoggedIn = 530
code_of Unavailable = 550
code_of NotAllowed = 550
code_of TooMuch = 552
code_of BadName = 553

-- what a refused call of the tree makes of an operation: a failure of the device is told as such, all else in the operation's way
abbrev pub told : TreeFault → Refusal → Refusal
told Faults.Device why = LocalFault
told fault why = why

-- a file's new path is refused: by its name, or as all nodes are taken
abbrev pub name_refusal : TreeFault → Refusal
name_refusal Faults.Full = NoRoom
name_refusal other = BadName

-- a listing is refused: a file is no argument for it (RFC 3659, section 7.2.1)
abbrev pub listing_refusal : TreeFault → Refusal
listing_refusal Faults.WrongKind = BadArgument
listing_refusal other = Unavailable
