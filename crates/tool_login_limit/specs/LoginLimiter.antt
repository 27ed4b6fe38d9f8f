-- Refused logins, counted by the address that they came from (own choice; RFC 2577, section 5, advises to slow who guesses).
use Rattle.std.specs.Prelude.{ℕ, ◌+◌, ◌-◌, ◌==◌, ◌++◌, Bool, nat_lt, min, List, [], ◌∷◌, Option, Some, None, length, not, remove, slice_get, slice_set, if◌then◌else◌}
use Rattle.std.specs.List.{find, position}
use Rattle.std.specs.Option.{option_map, unwrap_or}
use Rattle.tool_login_limit.specs.declared.login_limiter.RefusedLogin.{RefusedLogin}
use Rattle.tool_login_limit.specs.declared.login_limiter.DelayedAnswer.{DelayedAnswer}

-- the most addresses of which logins are counted, and how many seconds the last of them counts
abbrev pub most_addresses : ℕ
most_addresses = 1024

abbrev pub seconds_kept : ℕ
seconds_kept = 600

-- from this refused login on answers to an address are slow; more are not counted
abbrev pub slow_from : ℕ
slow_from = 10

-- a guess of an address
abbrev pub is_of : ℕ → RefusedLogin → Bool
is_of address guess = guess.address == address

-- how many of them still count
abbrev pub counted : ℕ → RefusedLogin → ℕ
counted now guess = if nat_lt (now - guess.last) seconds_kept then guess.count else 0

-- how many logins of an address were refused, of which each came within 10 minutes of the one before, and the last one of now
unfoldable pub refused_of : List RefusedLogin → ℕ → ℕ → ℕ
refused_of login_limiter address now = unwrap_or (option_map (counted now) (find (is_of address) login_limiter)) 0

-- one more
abbrev pub one_more : ℕ → ℕ
one_more count = if nat_lt count slow_from then count + 1 else count

-- where the guess of an address is
unfoldable pub place_of : List RefusedLogin → ℕ → Option ℕ
place_of login_limiter address = position (is_of address) login_limiter

-- the table without an address, of which it has one guess at most
abbrev pub taken_out : List RefusedLogin → Option ℕ → List RefusedLogin
taken_out login_limiter None = login_limiter
taken_out login_limiter (Some place) = remove login_limiter place

abbrev pub without_address : List RefusedLogin → ℕ → List RefusedLogin
without_address login_limiter address = taken_out login_limiter (place_of login_limiter address)

-- where there is no room the address goes whose last refused login is the oldest
abbrev pub make_room : List RefusedLogin → List RefusedLogin
make_room login_limiter = if nat_lt (length login_limiter) most_addresses then login_limiter else remove login_limiter 0

-- the last slow answer to an address
abbrev pub none_held : DelayedAnswer
none_held = record { ready = 0; wait = 0 }

abbrev pub answer_of : RefusedLogin → DelayedAnswer
answer_of guess = guess.held

unfoldable pub held_of : List RefusedLogin → ℕ → DelayedAnswer
held_of login_limiter address = unwrap_or (option_map answer_of (find (is_of address) login_limiter)) none_held

-- a login of an address was refused now
abbrev pub after_refusal : List RefusedLogin → ℕ → ℕ → List RefusedLogin
after_refusal login_limiter address now =
    make_room (without_address login_limiter address)
    ++ record { address = address; count = one_more (refused_of login_limiter address now); last = now; held = held_of login_limiter address } ∷ []

-- answers to an address are slow
abbrev pub is_slow : List RefusedLogin → ℕ → ℕ → Bool
is_slow login_limiter address now = not (nat_lt (refused_of login_limiter address now) slow_from)

-- how long the last slow answer to an address still waits
abbrev pub left_of : ℕ → RefusedLogin → ℕ
left_of now guess = guess.held.wait - (now - guess.held.ready)

unfoldable pub left_to : List RefusedLogin → ℕ → ℕ → ℕ
left_to login_limiter address now = unwrap_or (option_map (left_of now) (find (is_of address) login_limiter)) 0

-- where it still waits so long, the next one goes a second after it, 30 seconds from now at most
abbrev pub next_wait : ℕ → ℕ
next_wait left = min left 29000 + 1000

-- of a guess an answer that is ready now waits so long
abbrev pub waiting : ℕ → ℕ → RefusedLogin → RefusedLogin
waiting now wait guess =
    record { address = guess.address; count = guess.count; last = guess.last; held = record { ready = now; wait = wait } }

-- of an address one does
abbrev pub wait_at : List RefusedLogin → ℕ → ℕ → ℕ → Option RefusedLogin → List RefusedLogin
wait_at login_limiter place now wait None = login_limiter
wait_at login_limiter place now wait (Some guess) = slice_set login_limiter place (waiting now wait guess)

abbrev pub wait_in : List RefusedLogin → ℕ → ℕ → Option ℕ → List RefusedLogin
wait_in login_limiter now wait None = login_limiter
wait_in login_limiter now wait (Some place) = wait_at login_limiter place now wait (slice_get login_limiter place)

abbrev pub with_wait : List RefusedLogin → ℕ → ℕ → ℕ → List RefusedLogin
with_wait login_limiter address now wait = wait_in login_limiter now wait (place_of login_limiter address)
