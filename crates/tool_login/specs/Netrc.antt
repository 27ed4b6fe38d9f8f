-- What a `.netrc` says of a host, octet by octet (own choice: netrc(5)).
use Rattle.std.specs.Prelude.{◌≡◌, ◌&&◌, ◌++◌, ℕ, Bool, true, false, List, [], ◌∷◌, Option, if◌then◌else◌}
use Rattle.std.specs.List.{fold}
use Rattle.tool_login.specs.Spot.{line_feed, macro_behind, turn}
use Rattle.tool_login.specs.Entry.{Entry, Search, blank, entry_searched, is_macro, looked, took}
use Rattle.tool_login.specs.declared.spot.WordPosition.{WordPosition}
use Rattle.tool_login.specs.declared.spot.WordPosition.TheVariants as Spots
use Rattle.tool_login.specs.declared.spot.WordAction.{WordAction}
use Rattle.tool_login.specs.declared.spot.WordAction.TheVariants as Actions
use Rattle.tool_login.specs.declared.fault.NetrcFault.{NetrcFault}
use Rattle.tool_login.specs.declared.fault.NetrcFault.TheVariants as Faults

-- where the next octet stands, what stands of a word so far, and the search for an entry
abbrev pub NetrcState : Type 0
NetrcState = WordPosition × List ℕ × Search

-- before the first octet
abbrev pub start : NetrcState
start = (Spots.LineStart, [], blank)

-- one more octet is of the word
abbrev pub kept : WordPosition → ℕ → NetrcState → NetrcState
kept spot octet state = (spot, state.1 ++ octet ∷ [], state.2)

-- the word ends, and is taken; `macdef` in a keyword's place begins a macro
abbrev pub word_ended : (host user : List ℕ) → WordPosition → NetrcState → NetrcState
word_ended host user spot state =
    (if looked state.2 && is_macro state.1 then macro_behind spot else spot, [], took host user state.2 state.1)

-- what an octet does
abbrev pub state_behind : (host user : List ℕ) → WordPosition → WordAction → NetrcState → NetrcState
state_behind host user spot Actions.Nothing state = (spot, state.1, state.2)
state_behind host user spot (Actions.Keep octet) state = kept spot octet state
state_behind host user spot Actions.End state = word_ended host user spot state

-- one more octet
abbrev pub step : (host user : List ℕ) → NetrcState → ℕ → NetrcState
step host user state octet = let next = turn state.0 octet in state_behind host user next.0 next.1 state

-- all of a text, and the end of its last line
abbrev pub read : (host user text : List ℕ) → NetrcState
read host user text = step host user (fold (step host user) start text) line_feed

-- a word in quotes did not end on its line
abbrev pub is_torn_at : WordPosition → Bool
is_torn_at Spots.Torn = true
is_torn_at spot = false

abbrev pub is_torn : NetrcState → Bool
is_torn state = is_torn_at state.0

-- the first entry of a host that has this user, or anybody where the user is empty
abbrev pub entry_said : (host user text : List ℕ) → Option Entry
entry_said host user text = entry_searched user (read host user text).2

-- a text is not read, and why; memory may be refused whatever it says
abbrev pub IsNetrcFault : (host user text : List ℕ) → NetrcFault → Type 0
IsNetrcFault host user text Faults.Quote = is_torn (read host user text) ≡ true
IsNetrcFault host user text Faults.Memory = Unit {0}
