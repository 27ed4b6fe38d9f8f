-- The table is held against the definition at each octet.
use Rattle.std.proofs.Common.{◌≡◌, ◌==◌, ◌<◌, ◌+◌, ◌*◌, ◌∙◌, ◌∷◌, [], ℕ, List, get_or, take, true, refl, ap, arith}
use Rattle.std.specs.Prelude.{if◌then◌else◌}
use Rattle.tool_script.specs.Field.{written}
use Rattle.tool_script.specs.declared.tables.TheConstants.{WRITTEN}
use Rattle.tool_script.proofs.TableLemmas.{agree_at, agree_below, are_same}
use Rattle.tool_script.proofs.tables.escape_of.Goals as goal

-- so many of four octets as the second and the third say
abbrev count_of : (second third : ℕ) → ℕ
count_of second third = if third == 32 then (if second == 32 then 1 else 2) else 4

looked : List ℕ → ℕ → List ℕ
looked table octet =
    let at = 4 * octet in
    take (count_of (get_or table (at + 1) 0) (get_or table (at + 2) 0)) (get_or table at 0 ∷ get_or table (at + 1) 0 ∷ get_or table (at + 2) 0 ∷ get_or table (at + 3) 0 ∷ [])

there : (table : List ℕ) (octet count : ℕ) → octet < 256 → count ≡ count_of (get_or table (4 * octet + 1) 0) (get_or table (4 * octet + 2) 0)
    → agree_below (looked table) written 256 ≡ true
    → take count (get_or table (4 * octet) 0 ∷ get_or table (4 * octet + 1) 0 ∷ get_or table (4 * octet + 2) 0 ∷ get_or table (4 * octet + 3) 0 ∷ []) ≡ written octet
unfolding looked
there table octet count less is same =
    ap (λ n. take n (get_or table (4 * octet) 0 ∷ get_or table (4 * octet + 1) 0 ∷ get_or table (4 * octet + 2) 0 ∷ get_or table (4 * octet + 3) 0 ∷ [])) is
    ∙ agree_at (looked table) written 256 same octet less

pub returns-clause-text : goal.returns-clause-text
unfolding looked are_same agree_below
returns-clause-text c = there WRITTEN c.args.octet c.length_of.result (omega (arith, c.ranges.octet.fits)) c.length_of.ensures refl
