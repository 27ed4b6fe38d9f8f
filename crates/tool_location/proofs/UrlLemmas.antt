-- Texts that do not begin with what is taken away.
use Rattle.std.proofs.Common.{◌≡◌, ◌≢◌, ◌==◌, ℕ, false, List, [], ◌∷◌, refl, sym, ap, arith}
use Rattle.std.specs.Prelude.{if◌then◌else◌}
use Rattle.std.specs.List.{before_first}
use Rattle.tool_location.specs.UrlPlace.{behind_slash, is_right_bracket, without_brackets}

-- no bracket
pub no_bracket : (text : List ℕ) → ((rest : List ℕ) → text ≢ 91 ∷ rest) → text ≡ without_brackets text
no_bracket [] other = refl
no_bracket (octet ∷ inside) other =
    let differs : octet ≢ 91 = λ is. other inside (ap (λ o. o ∷ inside) is) in
    let test : (octet == 91) ≡ false = grind arith in
    ap (λ b. if b then before_first is_right_bracket inside else octet ∷ inside) (sym test)

-- no slash
pub no_slash : (path : List ℕ) → ((rest : List ℕ) → path ≢ 47 ∷ rest) → path ≡ behind_slash path
no_slash [] other = refl
no_slash (octet ∷ rest) other =
    let differs : octet ≢ 47 = λ is. other rest (ap (λ o. o ∷ rest) is) in
    let test : (octet == 47) ≡ false = grind arith in
    ap (λ b. if b then rest else octet ∷ rest) (sym test)
