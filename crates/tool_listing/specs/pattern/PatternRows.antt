-- Worked rows of patterns. Each is a theorem that computes.
use Rattle.std.specs.Prelude.{◌≡◌, true, false, [], codes}
use Rattle.tool_listing.specs.pattern.Chosen.{is_chosen_name, is_pattern}
use Rattle.tool_listing.specs.pattern.Pattern.{is_met, matches}

-- which texts are of a pattern, and which paths meet one
abbrev pub PatternsMet : Type 0
PatternsMet =
    (matches (codes "*.tmp") (codes "a.tmp") ≡ true)
    × (matches (codes "*.tmp") (codes "a.tmp~") ≡ false)
    × (matches (codes "a?c") (codes "abc") ≡ true)
    × (matches (codes "a?c") (codes "a/c") ≡ false)
    × (matches (codes "*") (codes "a/c") ≡ false)
    × (matches (codes "*b*") (codes "abc") ≡ true)
    × (matches [] [] ≡ true)
    × (is_met (codes "d/a.tmp") (codes "a.tmp") (codes "*.tmp") ≡ true)
    × (is_met (codes "d/a.tmp") (codes "a.tmp") (codes "d/*") ≡ true)
    × (is_met (codes "d/a.tmp") (codes "a.tmp") (codes "/a.tmp") ≡ false)
    × (is_met (codes "a.tmp") (codes "a.tmp") (codes "/a.tmp") ≡ true)

-- which names are patterns, and which names of a listing one chooses
abbrev pub NamesChosen : Type 0
NamesChosen =
    (is_pattern (codes "a*") ≡ true)
    × (is_pattern (codes "?") ≡ true)
    × (is_pattern (codes "a.csv") ≡ false)
    × (is_chosen_name (codes "*.csv") (codes "pub/") (codes "a.csv") ≡ true)
    × (is_chosen_name (codes "*.csv") (codes "pub/") (codes "pub/a.csv") ≡ true)
    × (is_chosen_name (codes "*.csv") (codes "pub/") (codes "other/a.csv") ≡ false)
    × (is_chosen_name (codes "*.csv") (codes "pub/") (codes "a.csv~") ≡ false)
    × (is_chosen_name (codes "*") (codes "pub/") (codes "pub/..") ≡ false)
    × (is_chosen_name (codes "*") [] (codes "..") ≡ false)
    × (is_chosen_name (codes "*") [] (codes "d/a") ≡ false)
