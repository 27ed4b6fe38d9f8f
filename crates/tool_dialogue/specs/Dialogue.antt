-- A dialogue: the server's end of a control connection, without any data connection (RFC 959, section 5.4). What the server does and
-- says is `ftp_server_model`; what all octets that came are answered with does not depend on the pieces that they came in.
use Rattle.std.specs.Prelude.{ℕ, ◌==◌, ◌&&◌, ◌||◌, ◌++◌, Bool, true, false, not, List, [], ◌∷◌, length, if◌then◌else◌}
use Rattle.ftp_endpoint.specs.declared.host.Host.{Host}
use Rattle.ftp_endpoint.specs.declared.host.Host.TheVariants.{V4}
use Rattle.ftp_tree.specs.Tree.{root_alone}
use Rattle.tool_accounts.specs.accounts_file.Known.{two_accounts}
use Rattle.ftp_ends.specs.declared.link.Wants.{Wants}
use Rattle.ftp_ends.specs.declared.link.Wants.TheVariants as Want
use Rattle.ftp_server_model.specs.View.{View}
use Rattle.ftp_server_model.specs.Machine.{Reading, hears_octet, is_running}
use Rattle.ftp_server_model.specs.Calls.{data_closed, data_refused, gives_control, listening, start, wants}
use Rattle.ftp_server.specs.Busy.{is_opening}

-- ---- what is wanted of the data connection

-- own choice: port 1930 is had, and nobody opens it; no other opening is had either; what is to be closed is closed
abbrev pub does : Wants → View → View
does Want.Listen v = listening 1930 v
does Want.Accept v = if is_opening v.session.connection then data_refused v else v
does (Want.Connect endpoint) v = data_refused v
does Want.CloseData v = data_closed v
does Want.Nothing v = v
does Want.Receive v = v
does Want.Send v = v
does Want.CloseAll v = v

-- what is wanted is done
unfoldable pub serves : View → View
serves v = does (wants v) v

-- twice, which is as often as there is something: behind one octet a close and a port, or a refused opening and a close
abbrev pub served_twice : View → View
served_twice v = serves (serves v)

-- ---- what is said

-- all that is owed is given
abbrev pub said : View → View
said v = gives_control (length v.owed) v

-- a line of these octets begins with 4 or 5; whether the first of them begins a line
abbrev pub has_refusal_line : (begins : Bool) → List ℕ → Bool
has_refusal_line begins [] = false
has_refusal_line begins (octet ∷ octets) = (begins && ((octet == 52) || (octet == 53))) || has_refusal_line (octet == 10) octets

-- a reply of 4yz or 5yz (RFC 959, section 4.2.1)
abbrev pub is_refusal : List ℕ → Bool
is_refusal octets = has_refusal_line true octets

-- ---- octets

-- how far a dialogue is: what the server holds, all that was said, and whether a reply refused something
pub record Talk : Type 0 where
  pub view : View
  pub text : List ℕ
  pub refused : Bool

-- such a talk
abbrev pub talk_of : View → List ℕ → Bool → Talk
talk_of v text refused = record { view = v; text = text; refused = refused }

-- what is owed is said
abbrev pub told : View → Talk → Talk
told v talk = record { view = said v; text = talk.text ++ v.owed; refused = talk.refused || is_refusal v.owed }

-- neither QUIT nor the end of the control connection came
abbrev pub runs : View → Bool
runs v = is_running v.session.life

-- an octet is heard, what is wanted is done, and what is owed is said; after QUIT no octet is heard
unfoldable pub turn : Reading → Talk → ℕ → Talk
turn read talk octet = if runs talk.view then told (served_twice (hears_octet read talk.view octet)) talk else talk

-- octets in order
abbrev pub talks : Reading → Talk → List ℕ → Talk
talks read talk [] = talk
talks read talk (octet ∷ octets) = talks read (turn read talk octet) octets

-- ---- the whole

-- the host of both ends (own choice)
abbrev pub here : Host
here = V4 (127 ∷ 0 ∷ 0 ∷ 1 ∷ [])

-- the server over an empty tree
abbrev pub begun : View
begun = start root_alone two_accounts here here

-- its greeting is said
unfoldable pub greeted_talk : Talk
greeted_talk = told begun (talk_of begun [] false)

-- the dialogue after these octets
abbrev pub dialogue : Reading → List ℕ → Talk
dialogue read octets = talks read greeted_talk octets

-- all that is written for these octets: the greeting, and the answers
abbrev pub dialogue_transcript : Reading → List ℕ → List ℕ
dialogue_transcript read octets = (dialogue read octets).text

-- QUIT was among them
abbrev pub is_over : Reading → List ℕ → Bool
is_over read octets = not (runs (dialogue read octets).view)

-- the exit status: whether something was refused
abbrev pub dialogue_status : Reading → List ℕ → ℕ
dialogue_status read octets = if (dialogue read octets).refused then 1 else 0
