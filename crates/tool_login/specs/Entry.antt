-- What the words of a `.netrc` say (own choice: netrc(5)): entries, each `machine` and a name, or `default`, and behind it `login` and a user,
-- `password` and a password, `account` and what says nothing here; any other word says nothing. The first entry of a host that has who is wanted counts.
use Rattle.std.specs.Prelude.{◌==◌, ◌||◌, ℕ, Bool, true, false, List, length, codes, map, bytes_eq, Option, Some, None, if◌then◌else◌}
use Rattle.std.specs.Char.{to_ascii_lowercase}
use Rattle.tool_login.specs.declared.entry.Expects.{Expects}
use Rattle.tool_login.specs.declared.entry.Expects.TheVariants as Next
use Rattle.tool_login.specs.declared.entry.SearchStage.{SearchStage}
use Rattle.tool_login.specs.declared.entry.SearchStage.TheVariants as Stages
use Rattle.tool_login.specs.declared.entry.EntrySearch.{EntrySearch as Held}
use Rattle.tool_login.specs.declared.entry.NetrcEntry.{NetrcEntry}

-- where the search for an entry stands, and the last login and password of the entry that it stands in
abbrev pub Search : Type 0
Search = Held (List ℕ)

abbrev pub Entry : Type 0
Entry = NetrcEntry (List ℕ)

-- before the first entry
abbrev pub blank : Search
blank = record { expects = Next.Keyword; stage = Stages.Outside; login = None; password = None }

-- the same search before such a word
abbrev pub waiting : Expects → Search → Search
waiting expects search = record { expects = expects; stage = search.stage; login = search.login; password = search.password }

abbrev pub at_stage : SearchStage → Search → Search
at_stage stage search = record { expects = search.expects; stage = stage; login = search.login; password = search.password }

-- the next word may be a keyword that counts
abbrev pub looked_at : Expects → SearchStage → Bool
looked_at Next.Keyword Stages.Outside = true
looked_at Next.Keyword Stages.Inside = true
looked_at expects stage = false

abbrev pub looked : Search → Bool
looked search = looked_at search.expects search.stage

-- an entry with this login is of who is wanted: of a user, or of anybody, where nobody is named
abbrev pub suits : List ℕ → Option (List ℕ) → Bool
suits user None = false
suits user (Some login) = length user == 0 || bytes_eq login user

-- an entry ends: it is found, where it is of the host and of who is wanted
abbrev pub ended_at : SearchStage → List ℕ → Search → Search
ended_at Stages.Found user search = search
ended_at Stages.Inside user search = if suits user search.login then at_stage Stages.Found search else blank
ended_at Stages.Outside user search = blank

abbrev pub ended : List ℕ → Search → Search
ended user search = ended_at search.stage user search

-- an entry of the host begins, unless one was found
abbrev pub began_at : SearchStage → Search → Search
began_at Stages.Found search = search
began_at stage search = at_stage Stages.Inside search

abbrev pub began : Search → Search
began search = began_at search.stage search

-- a word is the host's name; letters are the same, large or small
abbrev pub is_host : List ℕ → List ℕ → Bool
is_host host word = bytes_eq (map to_ascii_lowercase word) (map to_ascii_lowercase host)

-- behind the name of a machine
abbrev pub named : Bool → Search
named is_host = if is_host then began blank else blank

-- behind a keyword, or a word that is none
abbrev pub at_keyword : List ℕ → Search → List ℕ → Search
at_keyword user search word =
    if bytes_eq word (codes "machine") then waiting Next.Machine (ended user search)
    else (if bytes_eq word (codes "default") then began (ended user search)
    else (if bytes_eq word (codes "login") then waiting Next.Login search
    else (if bytes_eq word (codes "password") then waiting Next.Password search
    else (if bytes_eq word (codes "account") then waiting Next.Other search else search))))

-- the login or the password of an entry of the host
abbrev pub with_login : List ℕ → Search → Search
with_login word search = record { expects = Next.Keyword; stage = Stages.Inside; login = Some word; password = search.password }

abbrev pub with_password : List ℕ → Search → Search
with_password word search = record { expects = Next.Keyword; stage = Stages.Inside; login = search.login; password = Some word }

-- behind one more word, by where the search stands and what the word is
abbrev pub took_at : SearchStage → Expects → (host user : List ℕ) → Search → List ℕ → Search
took_at Stages.Found expects host user search word = search
took_at stage Next.Keyword host user search word = at_keyword user search word
took_at stage Next.Machine host user search word = named (is_host host word)
took_at Stages.Inside Next.Login host user search word = with_login word search
took_at Stages.Inside Next.Password host user search word = with_password word search
took_at stage expects host user search word = waiting Next.Keyword search

abbrev pub took : (host user : List ℕ) → Search → List ℕ → Search
took host user search word = took_at search.stage search.expects host user search word

-- what was found
abbrev pub entry_found : SearchStage → Option (List ℕ) → Option (List ℕ) → Option Entry
entry_found Stages.Found (Some login) password = Some (record { login = login; password = password })
entry_found stage login password = None

abbrev pub entry_searched : List ℕ → Search → Option Entry
entry_searched user search = let all = ended user search in entry_found all.stage all.login all.password

-- a word that begins a macro
abbrev pub is_macro : List ℕ → Bool
is_macro word = bytes_eq word (codes "macdef")
