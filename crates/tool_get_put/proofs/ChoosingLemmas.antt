-- What a pattern chooses of a listing.
use Rattle.std.proofs.Common.{◌≡◌, ◌++◌, ◌+◌, ◌<◌, ◌∙◌, ◌||◌, ℕ, List, [], ◌∷◌, length, take, get_or, flat_map, map, refl, sym, ap}
use Rattle.std.specs.List.{list_any}
use Rattle.std.proofs.lemmas.List.{flat_map_more, take_more}
use Rattle.ftp_facts.specs.Entry.{listed_of}
use Rattle.ftp_facts.specs.declared.entry.Entry.{Entry}
use Rattle.tool_get_put.specs.Choosing.{is_entry_of, is_listed_of, is_name_of}

-- whether an entry is of the pattern is told by its values
pub any_listed : {A : Type 0} (pattern : List ℕ) (entries : List (Entry A))
    → list_any (is_entry_of pattern) entries ≡ list_any (is_listed_of pattern) (map listed_of entries)
any_listed pattern [] = refl
any_listed pattern (entry ∷ rest) = ap (λ others. is_name_of pattern entry.name || others) (any_listed pattern rest)

-- one more of a list is written
pub one_written : {X Y : Type 0} (f : X → List Y) (xs : List X) (i : ℕ) (d x : X) (front old new : List Y) → i < length xs → x ≡ get_or xs i d
    → old ≡ front ++ flat_map f (take i xs) → new ≡ old ++ f x
    → new ≡ front ++ flat_map f (take (i + 1) xs)
one_written f xs i d x front old new inside is so more =
    more ∙ ap (λ y. old ++ f y) is ∙ ap (λ l. l ++ f (get_or xs i d)) so ∙ flat_map_more f front (take i xs) (get_or xs i d)
    ∙ ap (λ l. front ++ flat_map f l) (sym (take_more xs i d inside))
