-- What of the texts of standard error is told (own choice).
use Rattle.std.specs.Prelude.{ℕ, Bool, true, nat_eq, List, [], ◌∷◌}
use Rattle.std.specs.List.{starts_with}
use Rattle.tool_terminal.specs.declared.verbosity.told.Verbosity.{Verbosity}
use Rattle.tool_terminal.specs.declared.verbosity.told.Verbosity.TheVariants.{All, Errors}

-- `error: `, with which the line of each error begins
abbrev pub error_word : List ℕ
error_word = 101 ∷ 114 ∷ 114 ∷ 111 ∷ 114 ∷ 58 ∷ 32 ∷ []

-- whether a text of these octets is told: of an error always, and of all else but where errors alone are
abbrev pub is_told : Verbosity → List ℕ → Bool
is_told All text = true
is_told Errors text = starts_with nat_eq text error_word
