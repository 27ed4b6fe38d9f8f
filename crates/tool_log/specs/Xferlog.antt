-- The lines of `xferlog`, as the manual page xferlog(5) of wu-ftpd has them, and vsftpd writes them: fields with a space between them.
use Rattle.std.specs.Prelude.{ℕ, ◌+◌, ◌-◌, ◌*◌, ◌++◌, ◌/◌, ◌%◌, ◌==◌, ◌||◌, List, [], ◌∷◌, Option, Some, None, codes, decimal, drop, flat_map, get_or, max, nat_eq, nat_lt, take, if◌then◌else◌}
use Rattle.std.specs.Cmp.Lexicographic.{pointwise}
use Rattle.ftp_command.specs.declared.verb.Verb.{Verb}
use Rattle.ftp_command.specs.declared.verb.Verb.TheVariants as Verbs
use Rattle.ftp_facts.specs.Moment.{moment_digits}
use Rattle.ftp_reply.specs.declared.code.TheConstants.{COMPLETE}
use Rattle.tool_log.specs.declared.entry.DataClose.{DataClose}
use Rattle.tool_log.specs.declared.entry.DataClose.TheVariants as Closes
use Rattle.tool_log.specs.declared.xferlog.Direction.{Direction}
use Rattle.tool_log.specs.declared.xferlog.Direction.TheVariants as Directions
use Rattle.tool_log.specs.declared.xferlog.Completion.{Completion}
use Rattle.tool_log.specs.declared.xferlog.Completion.TheVariants as Completions
use Rattle.tool_log.specs.declared.xferlog.TransferFacts.{TransferFacts}

-- ---- the current time, as `Tue Dec  1 13:16:50 2026`, in UTC

-- the word of three letters at a place, counted from 0, of such words one after another
abbrev pub three_at : ℕ → List ℕ → List ℕ
three_at place words = take 3 (drop (3 * place) words)

-- the first day of 1970 was a Thursday
abbrev pub weekday_word : (days : ℕ) → List ℕ
weekday_word days = three_at ((days % 7 + 4) % 7) (codes "SunMonTueWedThuFriSat")

-- a month, counted from 1
abbrev pub month_word : ℕ → List ℕ
month_word month = three_at (month - 1) (codes "JanFebMarAprMayJunJulAugSepOctNovDec")

-- the month of fourteen digits of a moment, YYYYMMDDHHMMSS
abbrev pub month_of : List ℕ → ℕ
month_of digits = (get_or digits 4 0 - 48) * 10 + (get_or digits 5 0 - 48)

-- the first digit of a day: a space for a zero
abbrev pub day_digit : ℕ → ℕ
day_digit digit = if digit == 48 then 32 else digit

-- the day, the time of day and the year of such digits, each behind a space
abbrev pub day_and_time : List ℕ → List ℕ
day_and_time (a ∷ b ∷ c ∷ d ∷ e ∷ f ∷ g ∷ h ∷ i ∷ j ∷ k ∷ l ∷ m ∷ n ∷ []) =
    32 ∷ day_digit g ∷ h ∷ 32 ∷ i ∷ j ∷ 58 ∷ k ∷ l ∷ 58 ∷ m ∷ n ∷ 32 ∷ a ∷ b ∷ c ∷ d ∷ []
day_and_time other = []

-- such digits as month, day, time of day and year
abbrev pub dated : List ℕ → List ℕ
dated digits = month_word (month_of digits) ++ day_and_time digits

-- a field behind others
abbrev pub spaced : List ℕ → List ℕ
spaced text = 32 ∷ text

abbrev pub current_time : (seconds : ℕ) → List ℕ
current_time seconds = weekday_word (seconds / 86_400) ++ spaced (dated (moment_digits seconds))

-- ---- the other fields

-- the seconds that a transfer took: whole ones, and at least 1, as vsftpd has it
abbrev pub transfer_time : (millis : ℕ) → ℕ
transfer_time millis = max 1 (millis / 1_000)

-- an octet of a text in a field: `_` for a space and for a control character of US-ASCII, which would end the field or the line
abbrev pub field_octet : ℕ → List ℕ
field_octet octet = if nat_lt octet 33 || (octet == 127) then 95 ∷ [] else octet ∷ []

-- a text as a field: `-` for an empty one, so that none is missing
abbrev pub text_field : List ℕ → List ℕ
text_field [] = codes "-"
text_field (octet ∷ octets) = flat_map field_octet (octet ∷ octets)

-- outgoing, or incoming
abbrev pub direction_letter : Direction → List ℕ
direction_letter Directions.Out = codes "o"
direction_letter Directions.In = codes "i"

-- anonymous, or a user who is known here
abbrev pub access_mode : (user : List ℕ) → List ℕ
access_mode user = if pointwise nat_eq user (codes "anonymous") then codes "a" else codes "r"

-- complete, or incomplete
abbrev pub completion_letter : Completion → List ℕ
completion_letter Completions.Complete = codes "c"
completion_letter Completions.Incomplete = codes "i"

-- ---- the line: fields with a space between them

-- transfer-time, remote-host, file-size, filename
abbrev pub moved_fields : TransferFacts → List ℕ
moved_fields it =
    spaced (decimal (transfer_time it.millis)) ++ (spaced (text_field it.host.now) ++ (spaced (decimal it.octets) ++ spaced (text_field it.path.now)))

-- transfer-type, which is b for each (own choice: the log is not told types), special-action-flag, where `_` is none, and direction
abbrev pub kind_fields : Direction → List ℕ
kind_fields way = spaced (codes "b") ++ (spaced (codes "_") ++ spaced (direction_letter way))

-- access-mode, username
abbrev pub user_fields : (user : List ℕ) → List ℕ
user_fields user = spaced (access_mode user) ++ spaced (text_field user)

-- service-name, authentication-method, where 0 is none, authenticated-user-id, where `*` is none, and completion-status
abbrev pub ending_fields : Completion → List ℕ
ending_fields status = spaced (codes "ftp") ++ (spaced (codes "0") ++ (spaced (codes "*") ++ spaced (completion_letter status)))

-- the fields behind the current time, in their order
abbrev pub fields : TransferFacts → List ℕ
fields it = moved_fields it ++ (kind_fields it.direction ++ (user_fields it.user.now ++ ending_fields it.completion))

-- the line of a transfer
abbrev pub xferlog_line : TransferFacts → List ℕ
xferlog_line it = current_time it.moment.seconds ++ fields it

-- ---- which lines of clients have one

-- which way the file of a verb goes; none moves of others
abbrev pub direction_of : Option Verb → Option Direction
direction_of (Some Verbs.Retr) = Some Directions.Out
direction_of (Some Verbs.Stor) = Some Directions.In
direction_of (Some Verbs.Stou) = Some Directions.In
direction_of (Some Verbs.Appe) = Some Directions.In
direction_of verb = None

-- a transfer is complete that was answered by 226
abbrev pub ended_of : (code : ℕ) → Completion
ended_of code = if code == COMPLETE then Completions.Complete else Completions.Incomplete

-- it is not where it was not answered, or its data connection was reset
abbrev pub completion_of : (code : Option ℕ) → DataClose → Completion
completion_of (Some code) Closes.Ended = ended_of code
completion_of code fate = Completions.Incomplete
