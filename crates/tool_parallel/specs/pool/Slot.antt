-- What may be asked over one control connection of a pool, and how far it is relied on (own choice).
use Rattle.std.specs.Prelude.{◌==◌, ◌&&◌, ◌||◌, Bool, true, false, not, if◌then◌else◌}
use Rattle.ftp_operation.specs.declared.answer.Answer.{Answer}
use Rattle.ftp_operation.specs.declared.answer.Answer.TheVariants as Answers
use Rattle.ftp_reply.specs.declared.code.TheConstants.{NOT_LOGGED_IN}
use Rattle.tool_parallel.specs.declared.pool.slot.Activity.{Activity}
use Rattle.tool_parallel.specs.declared.pool.slot.Activity.TheVariants as Activities
use Rattle.tool_parallel.specs.declared.pool.slot.Reliability.{Reliability}
use Rattle.tool_parallel.specs.declared.pool.slot.Reliability.TheVariants as Reliabilities

-- something is under way over it
abbrev pub is_slot_busy : Activity → Bool
is_slot_busy Activities.Nothing = false
is_slot_busy activity = true

-- what is asked in its turn may go over it
abbrev pub is_relied_on : Reliability → Bool
is_relied_on Reliabilities.Tried = true
is_relied_on reliability = false

-- its login was refused
abbrev pub has_no_login : Reliability → Bool
has_no_login Reliabilities.Refused = true
has_no_login reliability = false

-- nothing is asked over it any more: its control connection ended, or its login was refused
abbrev pub is_unusable : (ended : Bool) → Reliability → Bool
is_unusable ended reliability = ended || has_no_login reliability

-- something may be asked over it in its turn now
abbrev pub may_ask : Activity → (ended : Bool) → Reliability → Bool
may_ask activity ended reliability = not (is_slot_busy activity) && not ended && is_relied_on reliability

-- something may be asked over it in its turn, once it is idle
abbrev pub is_reliable : (ended : Bool) → Reliability → Bool
is_reliable ended reliability = not ended && is_relied_on reliability

-- it does nothing, and all that was prefetched over it is given, or is given no more
abbrev pub is_idle : Activity → (ended : Bool) → Reliability → (is_all_given : Bool) → Bool
is_idle activity ended reliability is_all_given = not (is_slot_busy activity) && not (is_unusable ended reliability) && is_all_given

-- something may be prefetched over it now: it is idle, and where that wants a login, its login was accepted
abbrev pub may_prefetch : Activity → (ended : Bool) → Reliability → (is_all_given wants_login : Bool) → Bool
may_prefetch activity ended reliability is_all_given wants_login =
    is_idle activity ended reliability is_all_given && (not wants_login || is_relied_on reliability)

-- a server refuses a login: 530 (RFC 959, section 4.2.2)
abbrev pub is_login_refused : {A : Type 0} → Answer A → Bool
is_login_refused (Answers.Refused code) = code == NOT_LOGGED_IN
is_login_refused answer = false

-- how far it is relied on behind a trial of its login that was answered so
abbrev pub tried_after : {A : Type 0} → Answer A → Reliability
tried_after answer = if is_login_refused answer then Reliabilities.Refused else Reliabilities.Tried

-- the same behind an answer ahead of its turn, before it is known whether that is given: where nothing was given over it, a refused login is its own
abbrev pub relied_after : {A : Type 0} → Reliability → Answer A → Reliability
relied_after Reliabilities.Untried answer = if is_login_refused answer then Reliabilities.Refused else Reliabilities.Untried
relied_after reliability answer = reliability
