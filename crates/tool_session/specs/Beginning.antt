-- How a client is begun with what is requested, before its drive (RFC 959, section 2.3).
use Rattle.std.specs.Prelude.{◌≡◌, ℕ, true, false, List, Option, Some, None}
use Rattle.ftp_client_driver.specs.Side.{Starting, Uploading, client_machine}
use Rattle.ftp_client_model.specs.Calls.{is_busy}
use Rattle.ftp_client_model.specs.Failing.{Client, Holds}
use Rattle.ftp_client_model.specs.Tries.{over_breaks}
use Rattle.ftp_operation.specs.declared.op.How.{How}
use Rattle.ftp_operation.specs.declared.op.Op.{Op}
use Rattle.tool_session.specs.declared.request.Request.{Request}
use Rattle.tool_session.specs.declared.request.Request.TheVariants.{One, Upload, Download, Drawn}

-- an operation is begun by a client that is not busy: that is the action before those of its drive
abbrev pub BeginsOne : Option (Op (List ℕ)) → (old new : Client) → Type 0
BeginsOne None old new = Holds old new old.view
BeginsOne (Some op) old new =
    (is_busy old.view ≡ false → client_machine.Owns (Starting op) old new) × (is_busy old.view ≡ true → Holds old new old.view)

-- an upload over breaks, of a path and the octets of the file
abbrev pub BeginsUpload : Option (List ℕ × List ℕ) → How → (old new : Client) → Type 0
BeginsUpload None how old new = Holds old new old.view
BeginsUpload (Some file) how old new =
    (is_busy old.view ≡ false → client_machine.Owns (Uploading (over_breaks file.0 file.1 how)) old new)
    × (is_busy old.view ≡ true → Holds old new old.view)

-- a client is begun with what is requested
abbrev pub Begins : Request → (old new : Client) → Type 0
Begins (One op) old new = BeginsOne op old new
Begins (Download op terms) old new = BeginsOne op old new
Begins (Drawn op span) old new = BeginsOne op old new
Begins (Upload file how) old new = BeginsUpload file how old new
