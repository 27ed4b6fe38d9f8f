-- The worked rows of a world, computed.
use Rattle.std.proofs.Common.{◌≡◌, ℕ, List, [], ◌∷◌, length, take, drop, Bool, true, refl, ap, ◌∙◌, arith}
use Rattle.std.specs.Prelude.{codes}
use Rattle.ftp_ends.specs.RowWords.{written_line}
use Rattle.ftp_server_model.proofs.CommandsInFlight.{line_is_heard}
use Rattle.ftp_operation.specs.Account.{login_account}
use Rattle.ftp_repr.specs.Ascii.{settled}
use Rattle.ftp_client_model.specs.Dialogue.{answered}
use Rattle.ftp_reply.specs.Reader.{line_heard}
use Rattle.ftp_client_model.specs.Calls.{wants, data_end, data_fault}
use Rattle.ftp_server_model.specs.Machine.{obeyed, heard_line, hears, hears_octet}
use Rattle.ftp_server_model.specs.Calls.{gives_control, gives_data, data_closed, data_fault as far_fault}
use Rattle.ftp_direct.specs.Direct.{is_directory}
use Rattle.ftp_server_model.proofs.ServerRows.{entering, guest}
use Rattle.laws_world.specs.Events.{ControlToClient, ControlToServer, due, pulled, pushed}
use Rattle.laws_world.specs.Serving.{after_event}
use Rattle.ftp_tree.specs.Tree.{Table, node_at}
use Rattle.ftp_client_model.specs.declared.client.Standing.{Standing}
use Rattle.ftp_client_model.specs.declared.client.Standing.TheVariants as Stands
use Rattle.laws_world.specs.World.{World}
use Rattle.laws_world.specs.Rows.{session, acted, moves, row_reading, PeekReports, SessionLogsIn, DownloadBreaks, WholeDownload, CutUpload}

-- the client has PASS to give
abbrev needed : Table → World
needed table = session table (moves ControlToClient ∷ moves ControlToServer ∷ moves ControlToClient ∷ [])

abbrev count : Table → ℕ
count table = length (due ControlToServer (needed table))

-- it is on its way to the server
abbrev asked : Table → World
asked table = pulled ControlToServer (needed table) (count table)

-- the server has heard it, by whether the root of the account is a directory
abbrev passed : Table → Bool → World
passed table is_there = record (asked table) { far = entering is_there (guest []) (asked table).far; control_to_server = [] }

-- the line of PASS
abbrev pass_line : List ℕ
pass_line = codes "PASS secret"

pass_is_done : (table : Table) → heard_line (row_reading pass_line) (asked table).far ≡ entering (is_directory (node_at table [])) (guest []) (asked table).far
unfolding answered line_heard wants obeyed hears_octet gives_control login_account
pass_is_done table = refl

pass_is_heard : (table : Table) → hears row_reading (asked table).far (written_line pass_line) ≡ entering (is_directory (node_at table [])) (guest []) (asked table).far
unfolding answered line_heard wants obeyed hears_octet gives_control
pass_is_heard table = (line_is_heard row_reading pass_line (asked table).far (refl, omega arith) refl).whole ∙ pass_is_done table

pass_comes : (table : Table) → (asked table).control_to_server ≡ written_line pass_line
unfolding answered line_heard wants obeyed hears_octet gives_control
pass_comes table = refl

pass_count : (table : Table) → count table ≡ 13
unfolding answered line_heard wants obeyed hears_octet gives_control
pass_count table = refl

hears_pass : (table : Table) → pushed row_reading ControlToServer (count table) (asked table) ≡ passed table (is_directory (node_at table []))
hears_pass table =
    ap (λ octets. record (asked table) { far = hears row_reading (asked table).far (take (count table) octets); control_to_server = drop (count table) octets }) (pass_comes table)
    ∙ ap (λ n. record (asked table) { far = hears row_reading (asked table).far (take n (written_line pass_line)); control_to_server = drop n (written_line pass_line) }) (pass_count table)
    ∙ ap (λ far. record (asked table) { far = far; control_to_server = [] }) (pass_is_heard table)

-- the 230 goes to the client
abbrev ended : World → Standing
ended w = (acted (moves ControlToClient ∷ []) (after_event w)).near.standing

ends : (table : Table) → ended (passed table true) ≡ Stands.Entered
unfolding answered line_heard wants obeyed hears_octet gives_control login_account
ends table = refl

pub login : SessionLogsIn
login table root = ap ended (hears_pass table) ∙ ap (λ is_there. ended (passed table is_there)) (ap is_directory root) ∙ ends table

pub broken_download : DownloadBreaks
unfolding answered line_heard wants data_fault obeyed gives_control gives_data far_fault login_account
broken_download table = (refl, refl, refl)

pub whole_download : WholeDownload
unfolding answered line_heard wants data_end obeyed gives_control gives_data data_closed login_account
whole_download table = refl

pub cut_upload : CutUpload
unfolding settled
cut_upload state = refl

pub peek : PeekReports
unfolding answered line_heard wants data_end data_fault obeyed hears_octet gives_control gives_data data_closed far_fault login_account
peek table = (refl, refl, refl, refl)
