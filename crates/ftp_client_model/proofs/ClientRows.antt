-- The worked rows of a client, computed.
use Rattle.std.proofs.Common.{refl}
use Rattle.ftp_facts.specs.Calendar.{days_of_years, days_of_months}
use Rattle.ftp_path.proofs.TextLemmas.{path_on_literals}
use Rattle.ftp_client_model.specs.Calls.{starts, uploads, listening, listen_refused, data_opened, data_refused, data_end, data_fault, gives_data, wants}
use Rattle.ftp_client_model.specs.Dialogue.{answered}
use Rattle.ftp_facts.specs.Moment.{moment_value}
use Rattle.ftp_reply.specs.Reader.{line_heard}
use Rattle.ftp_reply.specs.Values.{passive_value, extended_value, quoted_value, path_value, mark_value}
use Rattle.ftp_client_model.specs.Rows.{ActiveDownload, ActiveReport, BrokenDownload, BrokenUpload, Endpoints, Judged, AnswersGreeting, LongGreeting, MarkRead, ReadsMoment, NamesRead, NotOpened, OtherHosts, OtherOrders, OwnCode, PassiveDownload, PassiveUpload, PassivePort, PeekAborts, PeekEnds, PeekFails, PeekOrders, PeekUnaborted, Quoted, Renames, TwoCodes, Unasked, Unsendable, UploadBeginsAnew, UploadGivesUp, UploadInTypeA, UploadResumes}

pub login : AnswersGreeting
unfolding answered
login = refl

pub long_greeting : LongGreeting
unfolding answered line_heard
long_greeting = refl

pub endpoints : Endpoints
unfolding passive_value
endpoints = (refl, refl, refl)

pub passive_port : PassivePort
unfolding extended_value
passive_port = refl

pub quoted : Quoted
unfolding quoted_value
quoted = refl

pub mark : MarkRead
unfolding mark_value
mark = (refl, refl)

pub names : NamesRead
unfolding path_on_literals
names = (refl, refl, refl)

pub own_code : OwnCode
unfolding line_heard
own_code = refl

pub judged : Judged
unfolding answered starts quoted_value path_value path_on_literals
judged = (refl, refl, refl, refl, refl, refl)

pub two_codes : TwoCodes
unfolding answered starts path_on_literals
two_codes = (refl, refl)

pub moment : ReadsMoment
unfolding answered starts moment_value days_of_years days_of_months path_on_literals
moment = refl

pub unasked : Unasked
unfolding answered starts
unasked = (refl, refl)

pub rename : Renames
unfolding answered starts path_on_literals
rename = (refl, refl)

pub unsendable : Unsendable
unfolding starts
unsendable = (refl, refl)

pub passive_download : PassiveDownload
unfolding answered starts passive_value data_opened data_end wants path_on_literals
passive_download = (refl, refl, refl, refl)

pub other_orders : OtherOrders
unfolding answered starts passive_value data_opened data_end path_on_literals
other_orders = (refl, refl)

pub active_download : ActiveDownload
unfolding answered starts listening wants path_on_literals
active_download = (refl, refl, refl, refl)

pub active_report : ActiveReport
unfolding answered starts listening data_opened data_end path_on_literals
active_report = refl

pub broken_download : BrokenDownload
unfolding answered starts passive_value data_opened data_end data_fault path_on_literals
broken_download = (refl, refl, refl)

pub passive_upload : PassiveUpload
unfolding answered starts passive_value data_opened gives_data wants path_on_literals
passive_upload = (refl, refl, refl, refl)

pub broken_upload : BrokenUpload
unfolding answered starts passive_value data_opened gives_data data_fault path_on_literals
broken_upload = (refl, refl, refl, refl)

pub not_opened : NotOpened
unfolding answered starts passive_value data_opened data_refused listen_refused wants path_on_literals
not_opened = (refl, refl, refl, refl, refl)

pub other_hosts : OtherHosts
unfolding answered starts passive_value listening data_opened wants path_on_literals
other_hosts = (refl, refl, refl, refl)

pub upload_resumes : UploadResumes
unfolding answered uploads passive_value data_opened data_fault gives_data path_on_literals
upload_resumes = (refl, refl, refl, refl)

pub upload_begins_anew : UploadBeginsAnew
unfolding answered uploads passive_value data_opened data_fault data_refused path_on_literals
upload_begins_anew = (refl, refl, refl, refl, refl)

pub upload_gives_up : UploadGivesUp
unfolding answered uploads passive_value data_opened data_fault path_on_literals
upload_gives_up = (refl, refl)

pub upload_in_type_a : UploadInTypeA
unfolding uploads answered
upload_in_type_a = (refl, refl)

pub peek_aborts : PeekAborts
unfolding answered starts passive_value data_opened data_end data_fault path_on_literals
peek_aborts = (refl, refl, refl, refl, refl, refl, refl)

pub peek_orders : PeekOrders
unfolding answered starts passive_value data_opened data_end data_fault path_on_literals
peek_orders = (refl, refl, refl, refl, refl, refl, refl)

pub peek_unaborted : PeekUnaborted
unfolding answered starts passive_value data_opened data_end data_fault path_on_literals
peek_unaborted = (refl, refl)

pub peek_ends : PeekEnds
unfolding answered starts passive_value data_opened data_end data_fault path_on_literals
peek_ends = (refl, refl, refl)

pub peek_fails : PeekFails
unfolding answered starts passive_value data_opened data_end data_fault path_on_literals
peek_fails = (refl, refl, refl, refl)
