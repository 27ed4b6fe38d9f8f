-- Units of octets that are cut.
use Rattle.std.proofs.Common.{◌≡◌, ℕ, List, [], ◌∷◌, ◌++◌, map, refl, ap, sym, ◌∙◌, append_assoc}
use Rattle.std.specs.List.{flat_map}
use Rattle.std.proofs.lemmas.Grind.{flat_map-append}
use Rattle.ftp_nvt.specs.Lines.{IsNoneOf}
use Rattle.ftp_nvt.specs.Telnet.{data_octet, place_behind, unit_ended, place_from, units_from, units, place_in_unit, bare_of, bare}
use Rattle.ftp_nvt.specs.declared.telnet.TelnetState.{TelnetState}
use Rattle.ftp_nvt.specs.declared.telnet.TelnetState.TheVariants as At

pub place_from-append : (at : TelnetState) (xs ys : List ℕ) → place_from at (xs ++ ys) ≡ place_from (place_from at xs) ys
place_from-append at [] ys = refl
place_from-append at (octet ∷ xs) ys = place_from-append (place_behind at octet) xs ys

pub units_from-append : (at : TelnetState) (xs ys : List ℕ) → units_from at (xs ++ ys) ≡ units_from at xs ++ units_from (place_from at xs) ys
units_from-append at [] ys = refl
units_from-append at (octet ∷ xs) ys =
    ap (λ l. unit_ended at octet ++ l) (units_from-append (place_behind at octet) xs ys)
    ∙ sym (append_assoc (unit_ended at octet) (units_from (place_behind at octet) xs) (units_from (place_from (place_behind at octet) xs) ys))

pub place-nil : place_in_unit [] ≡ At.Between
unfolding place_in_unit
place-nil = refl

pub place-append : (xs ys : List ℕ) → place_in_unit (xs ++ ys) ≡ place_from (place_in_unit xs) ys
unfolding place_in_unit
place-append xs ys = place_from-append At.Between xs ys

pub units-nil : units [] ≡ []
unfolding units
units-nil = refl

pub units-append : (xs ys : List ℕ) → units (xs ++ ys) ≡ units xs ++ units_from (place_in_unit xs) ys
unfolding units place_in_unit
units-append xs ys = units_from-append At.Between xs ys

pub bare-nil : bare [] ≡ []
unfolding bare units
bare-nil = refl

pub bare-append : (xs ys : List ℕ) → bare (xs ++ ys) ≡ bare xs ++ flat_map bare_of (units_from (place_in_unit xs) ys)
unfolding bare
bare-append xs ys = ap (flat_map bare_of) (units-append xs ys) ∙ flat_map-append bare_of (units xs) (units_from (place_in_unit xs) ys)

-- octets without IAC are data octets
pub units_from-data : (octets : List ℕ) → IsNoneOf 255 octets → units_from At.Between octets ≡ map data_octet octets
units_from-data [] lacks = refl
units_from-data (octet ∷ octets) lacks = rw lacks.0 (ap (λ l. data_octet octet ∷ l) (units_from-data octets lacks.1))

pub place_from-data : (octets : List ℕ) → IsNoneOf 255 octets → place_from At.Between octets ≡ At.Between
place_from-data [] lacks = refl
place_from-data (octet ∷ octets) lacks = rw lacks.0 (place_from-data octets lacks.1)

pub bare-data : (octets : List ℕ) → flat_map bare_of (map data_octet octets) ≡ octets
bare-data [] = refl
bare-data (octet ∷ octets) = ap (λ l. octet ∷ l) (bare-data octets)

-- in a subnegotiation they end no unit
pub units_from-inside : (octets : List ℕ) → IsNoneOf 255 octets → units_from At.Inside octets ≡ []
units_from-inside [] lacks = refl
units_from-inside (octet ∷ octets) lacks = rw lacks.0 (units_from-inside octets lacks.1)

pub place_from-inside : (octets : List ℕ) → IsNoneOf 255 octets → place_from At.Inside octets ≡ At.Inside
place_from-inside [] lacks = refl
place_from-inside (octet ∷ octets) lacks = rw lacks.0 (place_from-inside octets lacks.1)
