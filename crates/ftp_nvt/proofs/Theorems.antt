-- What holds of units, events and written lines.
use Rattle.std.proofs.Common.{◌≡◌, ℕ, ◌+◌, ◌≤◌, List, [], ◌∷◌, ◌++◌, Bool, true, false, ◌==◌, ◌&&◌, inl, inr, refl, ap, sym, subst, ◌∙◌, append_assoc, append-nil, arith, length, length-append, map, take, drop, get_or, ◌-◌, ne_eqb, eqb-true, le-leb, leb-true, true≢false}
use Rattle.std.specs.Prelude.{nat_le, if◌then◌else◌}
use Rattle.std.specs.List.{flat_map, AllByRecursion}
use Rattle.std.proofs.Math.Seq.{take-append_seam}
use Rattle.ftp_nvt.specs.Telnet.{TelnetUnit, data_octet, option, subnegotiation, command, is_verb, Content, octet_alone, behind_command, IsContent, content_text, IsTelnetUnit, place_behind, unit_ended, place_from, units_from, units, place_in_unit, bare_of, owed_of, bare, owed_answers}
use Rattle.ftp_nvt.specs.Lines.{NvtEvent, line, too_long, owed, IsNoneOf, cut, text_behind, text_of, without_return, said_early, lines, lines_added, events_behind, events, settled, written_octet, written_line}
use Rattle.ftp_nvt.specs.Laws.{line_events, answers_in}
use Rattle.ftp_nvt.specs.declared.telnet.TelnetState.{TelnetState}
use Rattle.ftp_nvt.specs.declared.telnet.TelnetState.TheVariants as At
use Rattle.ftp_nvt.proofs.CutLemmas.{decided, all_append, cut_behind, cut-nil, cut-append, cut-append-inside, last_octet-append, lines_of, lines-cut, lines_after, lines-append, lines-nil, rest-append-octet, rest-nil}
use Rattle.ftp_nvt.proofs.TelnetLemmas.{bare-data}
use Rattle.ftp_nvt.proofs.LineLemmas.{lines_added-is, lines-grow, events_behind-data, events_after, events-append}

-- the lines and the answers among events, part by part

lines_in-append : (xs ys : List NvtEvent) → line_events (xs ++ ys) ≡ line_events xs ++ line_events ys
lines_in-append [] ys = refl
lines_in-append (line text ∷ xs) ys = ap (λ l. line text ∷ l) (lines_in-append xs ys)
lines_in-append (too_long ∷ xs) ys = ap (λ l. too_long ∷ l) (lines_in-append xs ys)
lines_in-append (owed answer ∷ xs) ys = lines_in-append xs ys

answers_in-append : (xs ys : List NvtEvent) → answers_in (xs ++ ys) ≡ answers_in xs ++ answers_in ys
answers_in-append [] ys = refl
answers_in-append (line text ∷ xs) ys = answers_in-append xs ys
answers_in-append (too_long ∷ xs) ys = answers_in-append xs ys
answers_in-append (owed answer ∷ xs) ys = ap (λ l. answer ∷ l) (answers_in-append xs ys)

lines_in-owed : (answers : List (List ℕ)) → line_events (map owed answers) ≡ []
lines_in-owed [] = refl
lines_in-owed (answer ∷ answers) = lines_in-owed answers

answers_in-owed : (answers : List (List ℕ)) → answers_in (map owed answers) ≡ answers
answers_in-owed [] = refl
answers_in-owed (answer ∷ answers) = ap (λ l. answer ∷ l) (answers_in-owed answers)

-- lines alone, without an answer
abbrev AreLines : List NvtEvent → Type 0
AreLines xs = (line_events xs ≡ xs) × (answers_in xs ≡ [])

lines-settled : (limit : ℕ) (rest : List ℕ) (octet : ℕ) → AreLines (settled limit rest octet)
lines-settled limit rest octet =
    elim (decided (length rest == limit)) [
      | inl e ↦ rw e (refl, refl)
      | inr e ↦ rw e (elim (decided (nat_le limit (length rest))) [
        | inl f ↦ rw f (refl, refl)
        | inr f ↦ rw f (elim (decided (octet == 10)) [
          | inl g ↦ rw g (refl, refl)
          | inr g ↦ rw g (refl, refl)
        ])
      ])
    ]

lines-both : (xs ys : List NvtEvent) → AreLines xs → AreLines ys → AreLines (xs ++ ys)
lines-both xs ys a b =
    (lines_in-append xs ys ∙ ap (λ l. l ++ line_events ys) a.0 ∙ ap (λ l. xs ++ l) b.0, answers_in-append xs ys ∙ ap (λ l. l ++ answers_in ys) a.1 ∙ b.1)

lines-lines_after : (limit : ℕ) (before octets : List ℕ) → AreLines (lines_after limit before octets)
lines-lines_after limit before [] = (refl, refl)
lines-lines_after limit before (octet ∷ octets) =
    lines-both (settled limit (cut before).rest octet) (lines_after limit (before ++ octet ∷ []) octets) (lines-settled limit (cut before).rest octet) (lines-lines_after limit (before ++ octet ∷ []) octets)

lines_added-after : (limit : ℕ) (before more : List ℕ) → lines_added limit before more ≡ lines_after limit before more
lines_added-after limit before more = lines_added-is limit before more (lines_after limit before more) (lines-append limit before more)

lines-lines_added : (limit : ℕ) (before more : List ℕ) → AreLines (lines_added limit before more)
lines-lines_added limit before more = subst AreLines (sym (lines_added-after limit before more)) (lines-lines_after limit before more)

lines_in-behind : (limit : ℕ) (before : List ℕ) (us : List TelnetUnit) → lines limit before ++ line_events (events_behind limit before us) ≡ lines limit (before ++ flat_map bare_of us)
lines_in-behind limit before [] = append-nil (lines limit before) ∙ ap (lines limit) (sym (append-nil before))
lines_in-behind limit before (u ∷ us) =
    let added = lines_added limit before (bare_of u) in
    let answers = map owed (owed_of u) in
    let later = events_behind limit (before ++ bare_of u) us in
    let none : line_events (added ++ answers) ≡ added =
    lines_in-append added answers ∙ ap (λ l. line_events added ++ l) (lines_in-owed (owed_of u)) ∙ append-nil (line_events added) ∙ (lines-lines_added limit before (bare_of u)).0 in
    ap (λ l. lines limit before ++ l) (lines_in-append (added ++ answers) later ∙ ap (λ l. l ++ line_events later) none)
    ∙ sym (append_assoc (lines limit before) added (line_events later))
    ∙ ap (λ l. l ++ line_events later) (sym (lines-grow limit before (bare_of u)))
    ∙ lines_in-behind limit (before ++ bare_of u) us ∙ ap (lines limit) (append_assoc before (bare_of u) (flat_map bare_of us))

answers_in-behind : (limit : ℕ) (before : List ℕ) (us : List TelnetUnit) → answers_in (events_behind limit before us) ≡ flat_map owed_of us
answers_in-behind limit before [] = refl
answers_in-behind limit before (u ∷ us) =
    let added = lines_added limit before (bare_of u) in
    let answers = map owed (owed_of u) in
    let later = events_behind limit (before ++ bare_of u) us in
    answers_in-append (added ++ answers) later
    ∙ ap (λ l. l ++ answers_in later) (answers_in-append added answers ∙ ap (λ l. l ++ answers_in answers) (lines-lines_added limit before (bare_of u)).1 ∙ answers_in-owed (owed_of u))
    ∙ ap (λ l. owed_of u ++ l) (answers_in-behind limit (before ++ bare_of u) us)

-- the lines of events are those of the bare octets
pub lines_in-events : (limit : ℕ) (octets : List ℕ) → line_events (events limit octets) ≡ lines limit (bare octets)
unfolding events bare
lines_in-events limit octets =
    ap (λ l. l ++ line_events (events_behind limit [] (units octets))) (sym (lines-nil limit)) ∙ lines_in-behind limit [] (units octets)

-- the answers of events are those that units are owed
pub answers_in-events : (limit : ℕ) (octets : List ℕ) → answers_in (events limit octets) ≡ owed_answers octets
unfolding events owed_answers
answers_in-events limit octets = answers_in-behind limit [] (units octets)

-- units

verb_no_command : (verb : ℕ) → is_verb verb ≡ true → ((verb == 255) ≡ false) × ((verb == 250) ≡ false)
verb_no_command verb e =
    let low = leb-true 251 verb (first_true _ _ e) in
    let high = leb-true verb 254 (second_true _ _ e) in
    (ne_eqb verb 255 (λ is. omega arith), ne_eqb verb 250 (λ is. omega arith))
  where
    first_true : (a b : Bool) → (a && b) ≡ true → a ≡ true
    first_true true b e = refl
    first_true false b e = e

    second_true : (a b : Bool) → (a && b) ≡ true → b ≡ true
    second_true true b e = e
    second_true false b e = absurd (true≢false (sym e))

units_of_data : (octet : ℕ) (more : List ℕ) → units_from At.Between ((if octet == 255 then 255 ∷ 255 ∷ [] else octet ∷ []) ++ more) ≡ data_octet octet ∷ units_from At.Between more
units_of_data octet more =
    elim (decided (octet == 255)) [
      | inl e ↦ rw e (ap (λ o. data_octet o ∷ units_from At.Between more) (sym (eqb-true octet 255 e)))
      | inr e ↦ rw e (rw e refl)
    ]

units_of_option : (verb octet : ℕ) (more : List ℕ) → is_verb verb ≡ true → units_from At.Between (255 ∷ verb ∷ octet ∷ more) ≡ option verb octet ∷ units_from At.Between more
units_of_option verb octet more e =
    let other = verb_no_command verb e in
    rw (other.0, other.1, e) refl

units_of_command : (octet : ℕ) (more : List ℕ) → (octet == 255) ≡ false → (octet == 250) ≡ false → is_verb octet ≡ false → units_from At.Between (255 ∷ octet ∷ more) ≡ command octet ∷ units_from At.Between more
units_of_command octet more a b v = rw (a, b, v) refl

units_of_content : (content : List Content) (more : List ℕ) → AllByRecursion IsContent content → units_from At.Inside (flat_map content_text content ++ more) ≡ units_from At.Inside more
units_of_content [] more all = refl
units_of_content (octet_alone octet ∷ content) more all = rw all.0 (units_of_content content more all.1)
units_of_content (behind_command octet ∷ content) more all = rw all.0 (units_of_content content more all.1)

-- the octets of a unit are read as that unit, whatever follows
pub unit_is_read : (unit : TelnetUnit) (text more : List ℕ) → IsTelnetUnit unit text → units (text ++ more) ≡ unit ∷ units more
unfolding units
unit_is_read (data_octet octet) text more is = ap (λ l. units_from At.Between (l ++ more)) is ∙ units_of_data octet more
unit_is_read (option verb octet) text more is = ap (λ l. units_from At.Between (l ++ more)) is.1 ∙ units_of_option verb octet more is.0
unit_is_read subnegotiation text more is =
    ap (λ l. units_from At.Between (l ++ more)) is.2
    ∙ ap (units_from At.Inside) (append_assoc (flat_map content_text is.0) (255 ∷ 240 ∷ []) more)
    ∙ units_of_content is.0 (255 ∷ 240 ∷ more) is.1
unit_is_read (command octet) text more is = ap (λ l. units_from At.Between (l ++ more)) is.3 ∙ units_of_command octet more is.0 is.1 is.2

-- none of these octets ends a unit
abbrev Quiet : TelnetState → List ℕ → Type 0
Quiet at [] = Unit {0}
Quiet at (octet ∷ octets) = (unit_ended at octet ≡ []) × Quiet (place_behind at octet) octets

-- a front of octets whose last alone ends a unit
quiet_front : (at : TelnetState) (front : List ℕ) (octet : ℕ) (back text : List ℕ) (last : ℕ) → front ++ octet ∷ back ≡ text ++ last ∷ [] → Quiet at text → units_from at front ≡ []
quiet_front at [] octet back text last same quiet = refl
quiet_front at (first ∷ front) octet back [] last same quiet =
    absurd (let n : length (front ++ octet ∷ back) ≡ 0 = ap (λ l. length (drop 1 l)) same in omega (arith, length-append front (octet ∷ back)))
quiet_front at (first ∷ front) octet back (one ∷ text) last same quiet =
    let head : first ≡ one = ap (λ l. get_or l 0 0) same in
    let tail : front ++ octet ∷ back ≡ text ++ last ∷ [] = ap (drop 1) same in
    ap (λ o. unit_ended at o ++ units_from (place_behind at o) front) head
    ∙ ap (λ l. l ++ units_from (place_behind at one) front) quiet.0
    ∙ quiet_front (place_behind at one) front octet back text last tail quiet.1

quiet_content : (content : List Content) → AllByRecursion IsContent content → Quiet At.Inside (flat_map content_text content ++ 255 ∷ [])
quiet_content [] all = (refl, tt)
quiet_content (octet_alone octet ∷ content) all = (refl, rw all.0 (quiet_content content all.1))
quiet_content (behind_command octet ∷ content) all = (refl, (rw all.0 refl, rw all.0 (quiet_content content all.1)))

data_front : (octet : ℕ) (front : List ℕ) (next : ℕ) (back : List ℕ) → front ++ next ∷ back ≡ (if octet == 255 then 255 ∷ 255 ∷ [] else octet ∷ []) → units_from At.Between front ≡ []
data_front octet front next back same =
    elim (decided (octet == 255)) [
      | inl e ↦ quiet_front At.Between front next back (255 ∷ []) 255 (same ∙ ap (λ b. if b then 255 ∷ 255 ∷ [] else octet ∷ []) e) (refl, tt)
      | inr e ↦ quiet_front At.Between front next back [] octet (same ∙ ap (λ b. if b then 255 ∷ 255 ∷ [] else octet ∷ []) e) tt
    ]

-- a unit that is cut settles nothing
pub cut_unit_is_none : (unit : TelnetUnit) (front : List ℕ) (octet : ℕ) (back : List ℕ) → IsTelnetUnit unit (front ++ octet ∷ back) → units front ≡ []
unfolding units
cut_unit_is_none (data_octet one) front octet back is = data_front one front octet back is
cut_unit_is_none (option verb one) front octet back is =
    let other = verb_no_command verb is.0 in
    quiet_front At.Between front octet back (255 ∷ verb ∷ []) one is.1 (refl, (rw (other.0, other.1, is.0) refl, tt))
cut_unit_is_none subnegotiation front octet back is =
    quiet_front At.Between front octet back (255 ∷ 250 ∷ (flat_map content_text is.0 ++ 255 ∷ [])) 240
    (is.2 ∙ ap (λ l. 255 ∷ 250 ∷ l) (sym (append_assoc (flat_map content_text is.0) (255 ∷ []) (240 ∷ [])))) (refl, (refl, quiet_content is.0 is.1))
cut_unit_is_none (command one) front octet back is = quiet_front At.Between front octet back (255 ∷ []) one is.3 (refl, tt)

-- written lines

-- the bare octets of an octet of a text
abbrev bare_octet : ℕ → List ℕ
bare_octet octet = if octet == 13 then 13 ∷ 0 ∷ [] else octet ∷ []

written_units : (octet : ℕ) (more : List ℕ) → units_from At.Between (written_octet octet ++ more) ≡ map data_octet (bare_octet octet) ++ units_from At.Between more
written_units octet more =
    elim (decided (octet == 255)) [
      | inl e ↦ (let P : ℕ → Type 0 = λ o. units_from At.Between (written_octet o ++ more) ≡ map data_octet (bare_octet o) ++ units_from At.Between more in subst P (sym (eqb-true octet 255 e)) refl)
      | inr e ↦ elim (decided (octet == 13)) [
        | inl f ↦ rw (e, f) refl
        | inr f ↦ rw (e, f) (rw e refl)
      ]
    ]

written_place : (octet : ℕ) (more : List ℕ) → place_from At.Between (written_octet octet ++ more) ≡ place_from At.Between more
written_place octet more =
    elim (decided (octet == 255)) [
      | inl e ↦ rw e refl
      | inr e ↦ elim (decided (octet == 13)) [
        | inl f ↦ rw (e, f) refl
        | inr f ↦ rw (e, f) (rw e refl)
      ]
    ]

map-append_data : (xs ys : List ℕ) → map data_octet (xs ++ ys) ≡ map data_octet xs ++ map data_octet ys
map-append_data [] ys = refl
map-append_data (x ∷ xs) ys = ap (λ l. data_octet x ∷ l) (map-append_data xs ys)

-- the bare octets of a written line
abbrev bare_line : List ℕ → List ℕ
bare_line text = flat_map bare_octet text ++ 13 ∷ 10 ∷ []

units_of_line : (text : List ℕ) → units_from At.Between (written_line text) ≡ map data_octet (bare_line text)
units_of_line [] = refl
units_of_line (octet ∷ text) =
    ap (units_from At.Between) (append_assoc (written_octet octet) (flat_map written_octet text) (13 ∷ 10 ∷ [])) ∙ written_units octet (written_line text)
    ∙ ap (λ l. map data_octet (bare_octet octet) ++ l) (units_of_line text)
    ∙ sym (map-append_data (bare_octet octet) (bare_line text))
    ∙ ap (map data_octet) (sym (append_assoc (bare_octet octet) (flat_map bare_octet text) (13 ∷ 10 ∷ [])))

place_of_line : (text : List ℕ) → place_from At.Between (written_line text) ≡ At.Between
place_of_line [] = refl
place_of_line (octet ∷ text) =
    ap (place_from At.Between) (append_assoc (written_octet octet) (flat_map written_octet text) (13 ∷ 10 ∷ [])) ∙ written_place octet (written_line text) ∙ place_of_line text

bare_of_line : (text : List ℕ) → bare (written_line text) ≡ bare_line text
unfolding bare units
bare_of_line text = ap (flat_map bare_of) (units_of_line text) ∙ bare-data (bare_line text)

-- the text of a line's octets is the text that was written
text_of_written : (before : ℕ) (text : List ℕ) → (before == 13) ≡ false → text_behind before (flat_map bare_octet text) ≡ text
unfolding text_behind
text_of_written before [] e = refl
text_of_written before (octet ∷ text) e =
    elim (decided (octet == 13)) [
      | inl f ↦ rw (f, e) (ap (λ l. 13 ∷ l) (text_of_written 0 text refl) ∙ ap (λ o. o ∷ text) (sym (eqb-true octet 13 f)))
      | inr f ↦ rw (f, e) (ap (λ l. octet ∷ l) (text_of_written octet text f))
    ]

bare_octet_lacks : (octet : ℕ) → (octet == 10) ≡ false → IsNoneOf 10 (bare_octet octet)
bare_octet_lacks octet e =
    elim (decided (octet == 13)) [
      | inl f ↦ rw f (refl, (refl, tt))
      | inr f ↦ rw f (e, tt)
    ]

bare_lacks : (text : List ℕ) → IsNoneOf 10 text → IsNoneOf 10 (flat_map bare_octet text)
bare_lacks [] lacks = tt
bare_lacks (octet ∷ text) lacks = all_append (λ o. (o == 10) ≡ false) (bare_octet octet) (flat_map bare_octet text) (bare_octet_lacks octet lacks.0) (bare_lacks text lacks.1)

-- what octets add depends on the unfinished line alone

rest_same : (a b : List ℕ) (octet : ℕ) → (cut a).rest ≡ (cut b).rest → (cut (a ++ octet ∷ [])).rest ≡ (cut (b ++ octet ∷ [])).rest
rest_same a b octet same = rest-append-octet a octet ∙ ap (λ r. if octet == 10 then [] else r ++ octet ∷ []) same ∙ sym (rest-append-octet b octet)

rests_same : (a b octets : List ℕ) → (cut a).rest ≡ (cut b).rest → (cut (a ++ octets)).rest ≡ (cut (b ++ octets)).rest
rests_same a b [] same = ap (λ l. (cut l).rest) (append-nil a) ∙ same ∙ ap (λ l. (cut l).rest) (sym (append-nil b))
rests_same a b (octet ∷ octets) same =
    ap (λ l. (cut l).rest) (sym (append_assoc a (octet ∷ []) octets)) ∙ rests_same (a ++ octet ∷ []) (b ++ octet ∷ []) octets (rest_same a b octet same)
    ∙ ap (λ l. (cut l).rest) (append_assoc b (octet ∷ []) octets)

after_same : (limit : ℕ) (a b octets : List ℕ) → (cut a).rest ≡ (cut b).rest → lines_after limit a octets ≡ lines_after limit b octets
after_same limit a b [] same = refl
after_same limit a b (octet ∷ octets) same =
    ap (λ r. settled limit r octet ++ lines_after limit (a ++ octet ∷ []) octets) same
    ∙ ap (λ l. settled limit (cut b).rest octet ++ l) (after_same limit (a ++ octet ∷ []) (b ++ octet ∷ []) octets (rest_same a b octet same))

added_same : (limit : ℕ) (a b octets : List ℕ) → (cut a).rest ≡ (cut b).rest → lines_added limit a octets ≡ lines_added limit b octets
added_same limit a b octets same = lines_added-after limit a octets ∙ after_same limit a b octets same ∙ sym (lines_added-after limit b octets)

behind_same : (limit : ℕ) (a b : List ℕ) (us : List TelnetUnit) → (cut a).rest ≡ (cut b).rest → events_behind limit a us ≡ events_behind limit b us
behind_same limit a b [] same = refl
behind_same limit a b (u ∷ us) same =
    ap (λ l. l ++ map owed (owed_of u) ++ events_behind limit (a ++ bare_of u) us) (added_same limit a b (bare_of u) same)
    ∙ ap (λ l. lines_added limit b (bare_of u) ++ map owed (owed_of u) ++ l) (behind_same limit (a ++ bare_of u) (b ++ bare_of u) us (rests_same a b (bare_of u) same))

cut_line : (front : List ℕ) → IsNoneOf 10 front → cut (front ++ 13 ∷ 10 ∷ []) ≡ record { ended = (front ++ 13 ∷ []) ∷ []; rest = [] }
cut_line front lacks =
    let line = front ++ 13 ∷ [] in
    let before : cut line ≡ record { ended = []; rest = line } =
    cut-append-inside [] line (all_append (λ o. (o == 10) ≡ false) front (13 ∷ []) lacks (refl, tt)) ∙ ap (λ k. record { ended = k.ended; rest = k.rest ++ line }) cut-nil in
    ap cut (sym (append_assoc front (13 ∷ []) (10 ∷ []))) ∙ cut-append line 10 ∙ ap (λ k. cut_behind k 10) before

without_line_return : (front : List ℕ) → without_return (front ++ 13 ∷ []) ≡ front
without_line_return front =
    ap (λ o. if o == 13 then take (length (front ++ 13 ∷ []) - 1) (front ++ 13 ∷ []) else front ++ 13 ∷ []) (last_octet-append 10 front 13)
    ∙ ap (λ n. take n (front ++ 13 ∷ [])) (omega (arith, length-append front (13 ∷ []))) ∙ take-append_seam front (13 ∷ [])

-- the lines of a written line that keeps the limit
lines_of_line : (limit : ℕ) (text : List ℕ) → IsNoneOf 10 text → length (bare_line text) ≤ limit → lines limit (bare_line text) ≡ line text ∷ []
lines_of_line limit text lacks fits =
    let front = flat_map bare_octet text in
    let whole = front ++ 13 ∷ [] in
    let keeps : nat_le (length whole + 1) limit ≡ true = le-leb (length whole + 1) limit (omega (arith, fits, length-append front (13 ∷ []), length-append front (13 ∷ 10 ∷ []))) in
    let is : text_of (without_return whole) ≡ text = ap text_of (without_line_return front) ∙ text_of_written 10 text refl in
    lines-cut limit (bare_line text) ∙ ap (lines_of limit) (cut_line front (bare_lacks text lacks))
    ∙ ap (λ b. (if b then line (text_of (without_return whole)) else too_long) ∷ said_early limit []) keeps
    ∙ ap (λ b. line (text_of (without_return whole)) ∷ (if b then [] else too_long ∷ [])) (le-leb 0 limit (omega arith))
    ∙ ap (λ t. line t ∷ []) is

-- a written line is heard as that line alone, and then what follows
pub written_line_is_heard : (limit : ℕ) (text more : List ℕ) → IsNoneOf 10 text → length (bare (written_line text)) ≤ limit
    → events limit (written_line text ++ more) ≡ line text ∷ events limit more
unfolding events units place_in_unit
written_line_is_heard limit text more lacks fits =
    let written = written_line text in
    let kept : length (bare_line text) ≤ limit = subst (λ l. length l ≤ limit) (bare_of_line text) fits in
    let heard : events limit written ≡ line text ∷ [] =
    ap (events_behind limit []) (units_of_line text) ∙ events_behind-data limit [] (bare_line text)
    ∙ lines_added-is limit [] (bare_line text) (line text ∷ []) (lines_of_line limit text lacks kept ∙ ap (λ l. l ++ line text ∷ []) (sym (lines-nil limit))) in
    let start : (cut (bare written)).rest ≡ (cut []).rest =
    ap (λ l. (cut l).rest) (bare_of_line text) ∙ ap (λ k. k.rest) (cut_line (flat_map bare_octet text) (bare_lacks text lacks)) ∙ sym rest-nil in
    events-append limit written more ∙ ap (λ l. l ++ events_after limit written more) heard
    ∙ ap (λ p. line text ∷ events_behind limit (bare written) (units_from p more)) (place_of_line text)
    ∙ ap (λ l. line text ∷ l) (behind_same limit (bare written) [] (units_from At.Between more) start)
