-- How many octets of an upload came to a server: those of the link, not of the file.
use Rattle.std.specs.Prelude.{◌≡◌, ℕ, true, List, ◌++◌, length, Option, Some, None}
use Rattle.std.specs.Option.{is_some}
use Rattle.ftp_client_model.specs.Failing.{Client}
use Rattle.ftp_client_model.specs.Octets.{upload_text}
use Rattle.ftp_client_model.specs.Plan.{settings_of}
use Rattle.ftp_client_model.specs.View.{Job, Transferring}
use Rattle.ftp_ports.specs.Machine.{Held}
use Rattle.ftp_pieces.specs.Machine.{IsFront}
use Rattle.ftp_direct.specs.Direct.{State, part}
use Rattle.laws_breaks.specs.downloads.Actions.{HasRead}
use Rattle.laws_world.specs.Outcome.{Stored, front, upload_of}
use Rattle.laws_world.specs.World.{counted}
use Rattle.ftp_server_driver.specs.alone.Side.{Timed}
use Rattle.ftp_server_model.specs.View.{Transfer, direct_of}
use Rattle.ftp_server_model.specs.declared.session.ServerLink.{ServerLink}
use Rattle.ftp_server_model.specs.declared.session.ServerLink.TheVariants as Data
use Rattle.ftp_server_model.specs.declared.session.Transfer.TheVariants as Transfers
use Rattle.ftp_tree.specs.Tree.{octets_refusal}

-- a front of the text of an upload that leaves more than a limit lets be
abbrev pub PassesLimit : Option Stored → State → List ℕ → Type 0
PassesLimit (Some u) state wire =
    IsFront wire (upload_text u.how u.start u.octets)
    × (is_some (octets_refusal (part state) u.path (length (u.kept ++ front (settings_of u.how) wire))) ≡ true)
PassesLimit None state wire = ⊥

-- so many octets are such a front of the upload that is under way
abbrev pub HasPassed : State → Job → ℕ → Type 0
HasPassed state (Transferring op transfer) came = (wire : List ℕ) × PassesLimit (upload_of state op) state wire × (came ≡ counted (length wire))
HasPassed state job came = ⊥

-- so many octets came of it: its decoder has read as many; past a limit no decoder is held, and as many pass that
abbrev pub CameOver : ServerLink Transfer → State → Job → ℕ → Type 0
CameOver (Data.Transferring (Transfers.Upload path keep decoder)) state job came = HasRead decoder came
CameOver (Data.Transferring Transfers.OverLimit) state job came = HasPassed state job came
CameOver link state job came = ⊥

-- to a server, of what this client gives
abbrev pub HasCome : Held Timed → Held Client → ℕ → Type 0
HasCome server client came =
    let s = server.end.server.view.session in
    CameOver s.connection (direct_of s) client.end.view.job came
