-- The Telnet octets of a control connection: a row of units (RFC 854; RFC 1123, section 4.1.2.12).
use Rattle.std.specs.Prelude.{◌≡◌, ℕ, List, [], ◌∷◌, ◌++◌, Bool, true, false, ◌==◌, ◌&&◌, nat_le, if◌then◌else◌}
use Rattle.std.specs.List.{flat_map, AllByRecursion}
use Rattle.ftp_nvt.specs.declared.telnet.TelnetState.{TelnetState}
use Rattle.ftp_nvt.specs.declared.telnet.TelnetState.TheVariants as At
use Rattle.ftp_nvt.specs.declared.telnet.TheConstants.{IAC, SB, SE, WILL, WONT, DO, DONT}

-- a unit: a data octet, IAC with a verb and an option, a whole subnegotiation, or any other octet behind IAC;
-- own choice: such an octet is dropped with its IAC, whatever it asks for
pub data TelnetUnit : Type 0 where
  data_octet : (octet : ℕ) → TelnetUnit
  option : (verb octet : ℕ) → TelnetUnit
  subnegotiation : TelnetUnit
  command : (octet : ℕ) → TelnetUnit

-- WILL, WONT, DO or DONT, which an option follows
abbrev pub is_verb : ℕ → Bool
is_verb octet = nat_le WILL octet && nat_le octet DONT

-- what stands in a subnegotiation: octets, and pairs of IAC and an octet
pub data Content : Type 0 where
  octet_alone : (octet : ℕ) → Content
  behind_command : (octet : ℕ) → Content

-- no octet alone is IAC, and no pair is IAC SE, which ends the subnegotiation
abbrev pub IsContent : Content → Type 0
IsContent (octet_alone octet) = (octet == IAC) ≡ false
IsContent (behind_command octet) = (octet == SE) ≡ false

-- their octets
abbrev pub content_text : Content → List ℕ
content_text (octet_alone octet) = octet ∷ []
content_text (behind_command octet) = IAC ∷ octet ∷ []

-- the octets of a unit: a data octet 255 is doubled
abbrev pub IsTelnetUnit : TelnetUnit → List ℕ → Type 0
IsTelnetUnit (data_octet octet) text = text ≡ (if octet == IAC then IAC ∷ IAC ∷ [] else octet ∷ [])
IsTelnetUnit (option verb octet) text = (is_verb verb ≡ true) × (text ≡ IAC ∷ verb ∷ octet ∷ [])
IsTelnetUnit subnegotiation text =
    (content : List Content) × AllByRecursion IsContent content × (text ≡ IAC ∷ SB ∷ (flat_map content_text content ++ IAC ∷ SE ∷ []))
IsTelnetUnit (command octet) text =
    ((octet == IAC) ≡ false) × ((octet == SB) ≡ false) × (is_verb octet ≡ false) × (text ≡ IAC ∷ octet ∷ [])

-- where in a unit one more octet leads
abbrev pub place_behind : TelnetState → ℕ → TelnetState
place_behind At.Between octet = if octet == IAC then At.Command else At.Between
place_behind At.Command octet = if octet == SB then At.Inside else (if is_verb octet then At.Option octet else At.Between)
place_behind (At.Option verb) octet = At.Between
place_behind At.Inside octet = if octet == IAC then At.InsideCommand else At.Inside
place_behind At.InsideCommand octet = if octet == SE then At.Between else At.Inside

-- the unit that one more octet ends, if it ends one
abbrev pub unit_ended : TelnetState → ℕ → List TelnetUnit
unit_ended At.Between octet = if octet == IAC then [] else data_octet octet ∷ []
unit_ended At.Command octet =
    if octet == IAC then data_octet IAC ∷ []
    else (if octet == SB then [] else (if is_verb octet then [] else command octet ∷ []))
unit_ended (At.Option verb) octet = option verb octet ∷ []
unit_ended At.Inside octet = []
unit_ended At.InsideCommand octet = if octet == SE then subnegotiation ∷ [] else []

-- where in a unit octets end
abbrev pub place_from : TelnetState → List ℕ → TelnetState
place_from at [] = at
place_from at (octet ∷ octets) = place_from (place_behind at octet) octets

-- the units that octets end
abbrev pub units_from : TelnetState → List ℕ → List TelnetUnit
units_from at [] = []
units_from at (octet ∷ octets) = unit_ended at octet ++ units_from (place_behind at octet) octets

-- the units of a row of octets; one that is cut at its end settles nothing
unfoldable pub units : List ℕ → List TelnetUnit
units octets = units_from At.Between octets

-- where in a unit a row of octets ends
unfoldable pub place_in_unit : List ℕ → TelnetState
place_in_unit octets = place_from At.Between octets

-- the octet of a unit that belongs to a line
abbrev pub bare_of : TelnetUnit → List ℕ
bare_of (data_octet octet) = octet ∷ []
bare_of (option verb octet) = []
bare_of subnegotiation = []
bare_of (command octet) = []

-- the answer that a unit is owed: WONT to DO, DONT to WILL; own choice: none to DONT and WONT
abbrev pub owed_of : TelnetUnit → List (List ℕ)
owed_of (data_octet octet) = []
owed_of (option verb octet) =
    if verb == DO then (IAC ∷ WONT ∷ octet ∷ []) ∷ [] else (if verb == WILL then (IAC ∷ DONT ∷ octet ∷ []) ∷ [] else [])
owed_of subnegotiation = []
owed_of (command octet) = []

-- the octets that lines are looked for in
unfoldable pub bare : List ℕ → List ℕ
bare octets = flat_map bare_of (units octets)

-- the answers that are owed
unfoldable pub owed_answers : List ℕ → List (List ℕ)
owed_answers octets = flat_map owed_of (units octets)
