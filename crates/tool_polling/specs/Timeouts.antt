-- How long a session may last (own choice): a limit of silence is put off by each sign of life, and one of time by nothing.
use Rattle.std.specs.Prelude.{◌≡◌, ℕ, suc, ◌*◌, ◌≤◌, ◌<◌, Bool, true, false, Option, Some, None, nat_lt, if◌then◌else◌}
use Rattle.tool_polling.specs.Limits.{passed_by, sooner_of, stricter, term_after}
use Rattle.tool_polling.specs.declared.session_timeouts.TimeLimits.{TimeLimits}
use Rattle.tool_polling.specs.declared.session_timeouts.TimeoutReason.{TimeoutReason}
use Rattle.tool_polling.specs.declared.session_timeouts.TimeoutReason.TheVariants as Overs
use Rattle.tool_polling.specs.declared.session_timeouts.SessionTimes.{SessionTimes}
use Rattle.tool_polling.specs.declared.session_timeouts.Term.{Term}
use Rattle.tool_polling.specs.declared.session_timeouts.Transfers.{Transfers}
use Rattle.tool_polling.specs.declared.session_timeouts.Transfers.TheVariants as Spared

-- what is left of a limit while another client waits since so many milliseconds
abbrev pub while_waited : Option ℕ → (ℕ → Option Term) → Option Term
while_waited None term = None
while_waited (Some since) term = term since

-- what is left of silence
abbrev pub quiet_term : TimeLimits → SessionTimes → Option Term
quiet_term limits stand =
    sooner_of (term_after limits.idle stand.quiet Overs.Idle)
    (while_waited stand.waited (λ since. term_after limits.idle_while_waited stand.quiet Overs.Waited))

-- what is left until a login
abbrev pub login_term : TimeLimits → SessionTimes → Option Term
login_term limits stand =
    sooner_of (term_after limits.login stand.begun Overs.Login)
    (while_waited stand.waited (λ since. term_after limits.login_while_waited since Overs.LoginWaited))

-- what is left of time
abbrev pub fixed_term : TimeLimits → SessionTimes → Option Term
fixed_term limits stand =
    sooner_of (while_waited stand.waited (λ since. term_after limits.session_while_waited since Overs.Session))
    (if stand.logged_in then None else login_term limits stand)

-- what is left of a session
abbrev pub term_of_session : TimeLimits → SessionTimes → Option Term
term_of_session limits stand = sooner_of (quiet_term limits stand) (fixed_term limits stand)

-- why a session is ended for another client that comes, by whether somebody logged in and for how long the limits of silence and until the login are passed
abbrev pub spare_by : (logged_in : Bool) → (quiet login : Option ℕ) → Option (TimeoutReason × ℕ)
spare_by logged_in (Some since) login = Some (Overs.Waited, since)
spare_by true None login = None
spare_by false None None = None
spare_by false None (Some since) = Some (Overs.LoginWaited, since)

-- the same of a session that stands so
abbrev pub spare_of : TimeLimits → SessionTimes → Option (TimeoutReason × ℕ)
spare_of limits stand = spare_by stand.logged_in (passed_by limits.idle_while_waited stand.quiet) (passed_by limits.login_while_waited stand.begun)

-- for how many seconds octets may wait for the peer: as long as silence may last now
abbrev pub untaken_limit : TimeLimits → (waited : Option ℕ) → ℕ
untaken_limit limits (Some since) = stricter limits.idle limits.idle_while_waited
untaken_limit limits None = limits.idle

-- since when another client waits once an octet of a data connection went now: since now, where transfers are spared
abbrev pub waited_after : Option ℕ → (now : ℕ) → Transfers → Option ℕ
waited_after (Some since) now Spared.AreSpared = Some now
waited_after (Some since) now Spared.Count = Some since
waited_after None now transfers = None

-- a transfer moves whose last octet went less than 10 seconds ago
abbrev pub moves : Option ℕ → Bool
moves None = false
moves (Some since) = nat_lt since 10000

-- ---- what that comes to

-- nothing is left
abbrev pub IsOver : Option Term → Type 0
IsOver None = ⊥
IsOver (Some term) = term.left ≡ 0

-- nobody holds the server: once another client waits for so many seconds, nothing is left of the session's time, whatever its client said or sent
abbrev pub NobodyHolds : Type 0
NobodyHolds = (limits : TimeLimits) (stand : SessionTimes) (seconds since : ℕ)
    → limits.session_while_waited ≡ suc seconds → stand.waited ≡ Some since → suc seconds * 1000 ≤ since → IsOver (fixed_term limits stand)

-- Who logged in keeps its session while another waits for less than so many seconds: with `waited_after`, while one octet of a data connection follows another
-- within them
abbrev pub WaitingIsCounted : Type 0
WaitingIsCounted = (limits : TimeLimits) (stand : SessionTimes) (seconds since : ℕ) → stand.logged_in ≡ true
    → limits.session_while_waited ≡ suc seconds → stand.waited ≡ Some since → since < suc seconds * 1000 → IsOver (fixed_term limits stand) → ⊥
