-- How refused logins slow a connection, and end it (own choice; RFC 2577, section 5, advises both).
use Rattle.std.specs.Prelude.{ℕ, ◌+◌, ◌==◌, ◌&&◌, ◌||◌, nat_lt, Bool, true, false, Option, Some, if◌then◌else◌}
use Rattle.ftp_command.specs.declared.verb.Verb.{Verb}
use Rattle.ftp_command.specs.declared.verb.Verb.TheVariants as Verbs
use Rattle.ftp_reply.specs.declared.code.TheConstants.{NOT_LOGGED_IN}
use Rattle.tool_serve.specs.declared.refused_logins.LoginHistory.{LoginHistory}
use Rattle.tool_serve.specs.declared.refused_logins.AnswerPace.{AnswerPace}
use Rattle.tool_serve.specs.declared.refused_logins.AnswerPace.TheVariants as Paces

-- the line is the password of a login
abbrev pub is_password_line : Option Verb → Bool
is_password_line (Some Verbs.Pass) = true
is_password_line verb = false

-- 530 to a password is a refused login, of which ten are counted
abbrev pub is_refused : LoginHistory → Option Verb → ℕ → Bool
is_refused m verb code = is_password_line verb && code == NOT_LOGGED_IN && nat_lt m.refused 10

-- after a line that was answered so, and then somebody is logged in, or nobody
abbrev pub manner_after : LoginHistory → Option Verb → ℕ → (is_in : Bool) → LoginHistory
manner_after m verb code is_in = record {
  logged_in = m.logged_in || is_in;
  refused = if is_refused m verb code then m.refused + 1 else m.refused;
}

-- after three refused logins each answer waits a second, and the tenth is the last
abbrev pub answer_to : LoginHistory → AnswerPace
answer_to m = if nat_lt m.refused 3 then Paces.AtOnce else (if nat_lt m.refused 10 then Paces.Slow else Paces.Last)

-- a password is waited for behind a USER that was answered by 331, until a PASS, a REIN or another USER is answered
abbrev pub password_awaited : Bool → Option Verb → ℕ → Bool
password_awaited awaited (Some Verbs.User) code = code == 331
password_awaited awaited (Some Verbs.Pass) code = false
password_awaited awaited (Some Verbs.Rein) code = false
password_awaited awaited verb code = awaited
