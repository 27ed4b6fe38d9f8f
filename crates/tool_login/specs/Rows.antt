-- Worked rows: which entry of a `.netrc` counts. Each is a theorem that computes.
use Rattle.std.specs.Prelude.{◌≡◌, ◌++◌, ℕ, true, codes, List, [], ◌∷◌, Option, Some, None}
use Rattle.tool_login.specs.Entry.{Entry}
use Rattle.tool_login.specs.Netrc.{entry_said, is_torn, read}

-- the entry of a user with a password
abbrev pub has : List ℕ → List ℕ → Option Entry
has user password = Some (record { login = user; password = Some password })

-- the entry that a text has for the host `host`, and for a user of it
abbrev pub for_any : List ℕ → Option Entry
for_any text = entry_said (codes "host") [] text

abbrev pub for_user : List ℕ → List ℕ → Option Entry
for_user user text = entry_said (codes "host") user text

abbrev pub two : List ℕ
two = codes "machine host login a password x" ++ 10 ∷ codes "machine host login b password y"

abbrev pub EntriesFound : Type 0
EntriesFound =
    (for_any (codes "machine host login a password x") ≡ has (codes "a") (codes "x"))
    × (for_any (codes "machine HOST login a password x") ≡ has (codes "a") (codes "x"))
    × (for_any (codes "machine other login a password x") ≡ None)
    × (for_any two ≡ has (codes "a") (codes "x"))
    × (for_user (codes "b") two ≡ has (codes "b") (codes "y"))
    × (for_user (codes "c") two ≡ None)
    × (for_any (codes "machine other login a password x default login b password y") ≡ has (codes "b") (codes "y"))
    × (for_any (codes "machine host login a account login password x") ≡ has (codes "a") (codes "x"))
    × (for_any (codes "machine host login a") ≡ Some (record { login = codes "a"; password = None }))
    × (for_any (codes "machine host password x") ≡ None)

-- comments, macros and quotes
abbrev pub WordsRead : Type 0
WordsRead =
    (for_any (codes "# machine host login a password x" ++ 10 ∷ codes "machine host login b password #y") ≡ has (codes "b") (codes "#y"))
    × (for_any (codes "macdef init" ++ 10 ∷ codes "machine host login a" ++ 10 ∷ 10 ∷ codes "machine host login b password y") ≡ has (codes "b") (codes "y"))
    × (for_any (codes "machine host login a password " ++ 34 ∷ codes "b c" ++ 92 ∷ 34 ∷ codes "d" ++ 34 ∷ []) ≡ has (codes "a") (codes "b c" ++ 34 ∷ codes "d"))
    × (is_torn (read (codes "host") [] (codes "machine host login a password " ++ 34 ∷ codes "b")) ≡ true)
