-- What more octets add to the events.
use Rattle.std.proofs.Common.{◌≡◌, ℕ, List, [], ◌∷◌, ◌++◌, length, drop, map, refl, ap, sym, ◌∙◌, append_assoc, append-nil, arith}
use Rattle.std.specs.List.{flat_map}
use Rattle.std.proofs.Math.Seq.{drop-append_seam}
use Rattle.ftp_nvt.specs.Lines.{NvtEvent, owed, lines, lines_added, events_behind, events}
use Rattle.ftp_nvt.specs.Telnet.{TelnetUnit, data_octet, units_from, units, place_in_unit, bare_of, owed_of, bare}
use Rattle.ftp_nvt.proofs.CutLemmas.{lines_after, lines-append}
use Rattle.ftp_nvt.proofs.TelnetLemmas.{units-append, units-nil}

-- what the lines grew by
pub lines_added-is : (limit : ℕ) (before more : List ℕ) (added : List NvtEvent) → lines limit (before ++ more) ≡ lines limit before ++ added → lines_added limit before more ≡ added
lines_added-is limit before more added grown = ap (drop (length (lines limit before))) grown ∙ drop-append_seam (lines limit before) added

pub lines-grow : (limit : ℕ) (before more : List ℕ) → lines limit (before ++ more) ≡ lines limit before ++ lines_added limit before more
lines-grow limit before more =
    lines-append limit before more ∙ ap (λ l. lines limit before ++ l) (sym (lines_added-is limit before more (lines_after limit before more) (lines-append limit before more)))

pub lines_added-nil : (limit : ℕ) (before : List ℕ) → lines_added limit before [] ≡ []
lines_added-nil limit before = lines_added-is limit before [] [] (ap (lines limit) (append-nil before) ∙ sym (append-nil (lines limit before)))

pub lines_added-append : (limit : ℕ) (before xs ys : List ℕ) → lines_added limit before (xs ++ ys) ≡ lines_added limit before xs ++ lines_added limit (before ++ xs) ys
lines_added-append limit before xs ys =
    lines_added-is limit before (xs ++ ys) (lines_added limit before xs ++ lines_added limit (before ++ xs) ys)
    (ap (lines limit) (sym (append_assoc before xs ys)) ∙ lines-grow limit (before ++ xs) ys
    ∙ ap (λ l. l ++ lines_added limit (before ++ xs) ys) (lines-grow limit before xs)
    ∙ append_assoc (lines limit before) (lines_added limit before xs) (lines_added limit (before ++ xs) ys))

-- what units say is what the first say, and then what the others say behind them
pub events_behind-append : (limit : ℕ) (before : List ℕ) (us vs : List TelnetUnit)
    → events_behind limit before (us ++ vs) ≡ events_behind limit before us ++ events_behind limit (before ++ flat_map bare_of us) vs
events_behind-append limit before [] vs = ap (λ l. events_behind limit l vs) (sym (append-nil before))
events_behind-append limit before (u ∷ us) vs =
    let one = lines_added limit before (bare_of u) ++ map owed (owed_of u) in
    ap (λ l. one ++ l) (events_behind-append limit (before ++ bare_of u) us vs)
    ∙ sym (append_assoc one (events_behind limit (before ++ bare_of u) us) (events_behind limit (before ++ bare_of u ++ flat_map bare_of us) vs))
    ∙ ap (λ l. one ++ events_behind limit (before ++ bare_of u) us ++ events_behind limit l vs) (append_assoc before (bare_of u) (flat_map bare_of us))

-- data octets say the lines that they add
pub events_behind-data : (limit : ℕ) (before octets : List ℕ) → events_behind limit before (map data_octet octets) ≡ lines_added limit before octets
events_behind-data limit before [] = sym (lines_added-nil limit before)
events_behind-data limit before (octet ∷ octets) =
    ap (λ l. l ++ events_behind limit (before ++ octet ∷ []) (map data_octet octets)) (append-nil (lines_added limit before (octet ∷ [])))
    ∙ ap (λ l. lines_added limit before (octet ∷ []) ++ l) (events_behind-data limit (before ++ octet ∷ []) octets)
    ∙ sym (lines_added-append limit before (octet ∷ []) octets)

pub events-nil : (limit : ℕ) → events limit [] ≡ []
unfolding events
events-nil limit = ap (events_behind limit []) units-nil

-- what octets add, behind others
abbrev pub events_after : ℕ → List ℕ → List ℕ → List NvtEvent
events_after limit before octets = events_behind limit (bare before) (units_from (place_in_unit before) octets)

-- the events of a front are a front of the events
pub events-append : (limit : ℕ) (xs ys : List ℕ) → events limit (xs ++ ys) ≡ events limit xs ++ events_after limit xs ys
unfolding events bare
events-append limit xs ys =
    ap (events_behind limit []) (units-append xs ys) ∙ events_behind-append limit [] (units xs) (units_from (place_in_unit xs) ys)

-- units without a bare octet and an answer say nothing
pub events_behind-quiet : (limit : ℕ) (before : List ℕ) (us : List TelnetUnit) → flat_map bare_of us ≡ [] → flat_map owed_of us ≡ [] → events_behind limit before us ≡ []
events_behind-quiet limit before [] bare_none owed_none = refl
events_behind-quiet limit before (u ∷ us) bare_none owed_none =
    let b = front_nil (bare_of u) (flat_map bare_of us) bare_none in
    let o = front_nil (owed_of u) (flat_map owed_of us) owed_none in
    ap (λ l. lines_added limit before l ++ map owed (owed_of u) ++ events_behind limit (before ++ l) us) b.0
    ∙ ap (λ l. lines_added limit before [] ++ map owed l ++ events_behind limit (before ++ []) us) o.0
    ∙ ap (λ l. l ++ events_behind limit (before ++ []) us) (append-nil (lines_added limit before []) ∙ lines_added-nil limit before)
    ∙ events_behind-quiet limit (before ++ []) us b.1 o.1
  where
    front_nil : {A : Type 0} (xs ys : List A) → xs ++ ys ≡ [] → (xs ≡ []) × (ys ≡ [])
    front_nil [] ys e = (refl, e)
    front_nil (x ∷ xs) ys e = absurd (let n : length (x ∷ xs ++ ys) ≡ 0 = ap length e in omega arith)
