-- What a step tells.
use Rattle.std.proofs.Common.{◌≡◌, ◌≢◌, ℕ, zero, suc, inl, inr, ◌+◌, ◌-◌, ◌<◌, ◌≤◌, List, [], ◌∷◌, ◌++◌, length, take, drop, get_or, Option, Some, None, refl, ap, sym, subst, ◌∙◌, arith, append-nil, length-append}
use Rattle.std.proofs.lemmas.List.{take-append-drop, take-take}
use Rattle.ftp_pieces.specs.Machine.{after, gives}
use Rattle.ftp_pieces.proofs.MachineLemmas.{gives-append}
use Rattle.ftp_repr.specs.Receiving.{receiving}
use Rattle.ftp_mode.specs.Said.{Said, says, marker, file_signs, octets_said}
use Rattle.ftp_mode.specs.declared.fault.FrameFault.{FrameFault}
use Rattle.ftp_mode.specs.declared.deframer.Owed.{Owed}
use Rattle.ftp_mode.specs.declared.deframer.Owed.TheVariants.{Nothing, Record, Both, File}
use Rattle.ftp_mode.specs.Reading.{Reading, IsGoing, failed, reader, read_step, read_out}
use Rattle.ftp_mode.specs.Deframing.{SaysLast, owed_said, owed, reading, part_said, last_marker, Hears as Hears_step}
use Rattle.ftp_mode.specs.declared.deframer.Deframer.{Deframer}
use Rattle.ftp_mode.specs.declared.step.Step.{Step}
use Rattle.ftp_mode.specs.declared.step.Part.{Part}
use Rattle.ftp_mode.specs.declared.step.Part.TheVariants.{Need, Data, EndRecord, EndFile, Marker}
use Rattle.ftp_wire.specs.Decoder.{Decoder, read_on, octet_says, decoded_octet, decoded, fault_in, fault_of}
use Rattle.ftp_wire.proofs.DecoderLemmas.{decodes, file_signs-append}
use Rattle.ftp_wire.specs.Hearing.{HasNoMarker, Marks, EndsBy, Hears}
use Rattle.ftp_wire.specs.Taking.{decoder_at, settled, EndsShort, StopsBy}
use Rattle.ftp_wire.specs.declared.intake.Intake.{Intake}
use Rattle.ftp_wire.specs.declared.decoded.Decoded.{Decoded}
use Rattle.ftp_wire.specs.declared.decoded.Decoded.TheVariants.{More, Faulty, Over, NoMemory}
use Rattle.ftp_wire.proofs.HearLemmas.{same, read_as, is_read, hears_last, going_front, fine_of, octet_at, says_next, decoded_next, fault_at, unmarked_front, unmarked_back, unmarked_both}
use Rattle.ftp_wire.proofs.SettleLemmas.{settled-append, settled_front, settled_more, lt_or_le}

-- how the octets of a step ended
abbrev pub EndsOf : ℕ → Decoder → List ℕ → Decoded → Decoder → Type 0
EndsOf most d w More new = (length (decoded d w).content ≤ most) × (new ≡ decoded d w)
EndsOf most d w Over new = most < length (decoded d w).content
EndsOf most d w NoMemory new = Unit {0}
EndsOf most d w (Faulty fault) new = ⊥

ends_by : (most : ℕ) (d : Decoder) (piece : List ℕ) (k : ℕ) (heard : Decoded) (new : Decoder) → k < length piece → IsGoing (after reader d.reading (take (k + 1) piece))
    → EndsOf most d (take (k + 1) piece) heard new → EndsBy most (decoded d (take k piece)) (get_or piece k 0) heard new
ends_by most d piece k More new less fine ends =
    let next = decoded_next d piece k less in
    (fault_at d piece k less ∙ fine_of (after reader d.reading (take (k + 1) piece)) fine, omega (arith, ends.0, ap (λ x. length x.content) next), ends.1 ∙ next)
ends_by most d piece k Over new less fine ends =
    let next = decoded_next d piece k less in
    (fault_at d piece k less ∙ fine_of (after reader d.reading (take (k + 1) piece)) fine, omega (arith, ends, ap (λ x. length x.content) next))
ends_by most d piece k NoMemory new less fine ends = fault_at d piece k less ∙ fine_of (after reader d.reading (take (k + 1) piece)) fine
ends_by most d piece k (Faulty fault) new less fine ends = absurd ends

-- the last octet tells
pub tells : (most : ℕ) (d : Decoder) (piece : List ℕ) (k : ℕ) (mark : Option ℕ) (text : List ℕ) (heard : Decoded) (new : Decoder) → k < length piece
    → IsGoing (after reader d.reading (take (k + 1) piece)) → HasNoMarker (gives reader d.reading (take k piece)) → length (decoded d (take k piece)).content ≤ most
    → Marks mark text (decoded d (take k piece)) (octet_says (decoded d (take k piece)) (get_or piece k 0)) → EndsOf most d (take (k + 1) piece) heard new
    → Hears most d (take (k + 1) piece) mark text heard new
tells most d piece k mark text heard new less fine unmarked within marks ends =
    hears_last most d piece k mark text heard new less (going_front d.reading piece k (k + 1) (omega arith) fine) unmarked within marks
    (ends_by most d piece k heard new less fine ends)

-- what a front says is a front of what is said
gives_front : (r : Reading) (piece : List ℕ) (k n : ℕ) → k ≤ n → gives reader r (take n piece) ≡ gives reader r (take k piece) ++ gives reader (after reader r (take k piece)) (drop k (take n piece))
gives_front r piece k n few =
    ap (gives reader r) (sym (take-append-drop k (take n piece))) ∙ gives-append reader r (take k (take n piece)) (drop k (take n piece))
    ∙ ap (λ w. gives reader r w ++ gives reader (after reader r w) (drop k (take n piece))) (take-take k n piece few)

pub unmarked_take : (r : Reading) (piece : List ℕ) (k n : ℕ) → k ≤ n → HasNoMarker (gives reader r (take n piece)) → HasNoMarker (gives reader r (take k piece))
unmarked_take r piece k n few h =
    let P : List Said → Type 0 = λ l. HasNoMarker l in
    unmarked_front (gives reader r (take k piece)) (gives reader (after reader r (take k piece)) (drop k (take n piece))) (subst P (gives_front r piece k n few) h)

-- no marker is in what the octet says either
pub unmarked_last : (d : Decoder) (piece : List ℕ) (k n : ℕ) → k < length piece → k + 1 ≤ n → HasNoMarker (gives reader d.reading (take n piece))
    → HasNoMarker (octet_says (decoded d (take k piece)) (get_or piece k 0))
unmarked_last d piece k n less few h =
    let P : List Said → Type 0 = λ l. HasNoMarker l in
    let there = subst P (says_next d.reading piece k less) (unmarked_take d.reading piece (k + 1) n few h) in
    subst P (sym (octet_at d piece k)) (unmarked_back (gives reader d.reading (take k piece)) (read_out (after reader d.reading (take k piece)) (get_or piece k 0)) there)

-- signs of a front
signs_take : (n : ℕ) (said : List Said) → HasNoMarker said → file_signs (take n said) ≡ take n (file_signs said)
signs_take zero said h = refl
signs_take (suc n) [] h = refl
signs_take (suc n) (says x ∷ said) h = ap (λ l. x ∷ l) (signs_take n said h)
signs_take (suc n) (marker text ∷ said) h = absurd h

pub signs_len : (said : List Said) → HasNoMarker said → length (file_signs said) ≡ length said
signs_len [] h = refl
signs_len (says x ∷ said) h = ap (λ n. suc n) (signs_len said h)
signs_len (marker text ∷ said) h = absurd h

-- the content behind octets that say this
pub content_by : (d : Decoder) (w : List ℕ) (said : List Said) → gives reader d.reading w ≡ said → (decoded d w).content ≡ (settled d (file_signs said)).content
content_by d w said is = (decodes d w).settles ∙ ap (λ l. (settled d (file_signs l)).content) is

-- what is owed has no marker
pub owed_unmarked : (o : Owed) → HasNoMarker (owed_said o)
owed_unmarked Nothing = tt
owed_unmarked Record = tt
owed_unmarked Both = tt
owed_unmarked File = tt

-- an item stopped
stop_ends : (most : ℕ) (d : Decoder) (piece : List ℕ) (n k at : ℕ) (said ends : List Said) (heard : Decoded) (new : Decoder)
    → HasNoMarker said → said ++ ends ≡ gives reader d.reading (take n piece) → k + 1 ≤ n → k + 1 ≡ n - length said + (at + 1) → length said ≤ n → at < length said
    → ((i : ℕ) → i < length said → gives reader d.reading (take (n - length said + i) piece) ≡ take i said)
    → StopsBy most d (take (at + 1) (file_signs said)) heard → EndsOf most d (take (k + 1) piece) heard new
stop_ends most d piece n k at said ends Over new unmarked is few place fits less each by =
    let bound : length (settled d (take (at + 1) (file_signs said))).content ≤ length (decoded d (take (k + 1) piece)).content = elim (lt_or_le (at + 1) (length said)) [
      | inl more ↦ (let there = ap (λ j. gives reader d.reading (take j piece)) place ∙ each (at + 1) more in
          omega (arith, ap length (content_by d (take (k + 1) piece) (take (at + 1) said) there), ap (λ l. length (settled d l).content) (signs_take (at + 1) said unmarked)))
      | inr last ↦ (let all : k + 1 ≡ n = omega (arith, place, fits, less, last) in
          let there = ap (λ j. gives reader d.reading (take j piece)) all ∙ sym is in
          omega (
            arith,
            ap length (content_by d (take (k + 1) piece) (said ++ ends) there),
            ap (λ l. length (settled d l).content) (file_signs-append said ends),
            settled_more d (file_signs said) (file_signs ends),
            settled_front d (file_signs said) (at + 1),
          ))
    ] in
    omega (arith, by, bound)
stop_ends most d piece n k at said ends NoMemory new unmarked is few place fits less each by = tt
stop_ends most d piece n k at said ends More new unmarked is few place fits less each by = absurd by
stop_ends most d piece n k at said ends (Faulty fault) new unmarked is few place fits less each by = absurd by

pub stop_hears : (most : ℕ) (d : Decoder) (piece : List ℕ) (n at : ℕ) (said ends : List Said) (heard : Decoded) (text : List ℕ) (new : Decoder)
    → n ≤ length piece → IsGoing (after reader d.reading (take n piece)) → HasNoMarker said → HasNoMarker ends → said ++ ends ≡ gives reader d.reading (take n piece)
    → SaysLast d.reading piece n said → at < length (file_signs said) → length (settled d (take at (file_signs said))).content ≤ most
    → StopsBy most d (take (at + 1) (file_signs said)) heard → Hears most d (take (n - length said + at + 1) piece) None text heard new
stop_hears most d piece n at said ends heard text new within fine unmarked free is last less front by =
    let k = n - length said + at in
    let size = signs_len said unmarked in
    let few : k + 1 ≤ n = omega (arith, less, size, last.fits) in
    let there = last.each at (omega (arith, less, size)) in
    let P : List Said → Type 0 = λ l. HasNoMarker l in
    let all : HasNoMarker (gives reader d.reading (take n piece)) = subst P is (unmarked_both said ends unmarked free) in
    tells most d piece k None text heard new (omega (arith, few, within)) (going_front d.reading piece (k + 1) n few fine)
    (unmarked_take d.reading piece k n (omega (arith, few)) all)
    (omega (arith, front, ap length (content_by d (take k piece) (take at said) there), ap (λ l. length (settled d l).content) (signs_take at said unmarked)))
    (unmarked_last d piece k n (omega (arith, few, within)) few all)
    (stop_ends most d piece n k at said ends heard new unmarked is few (omega arith) last.fits (omega (arith, less, size)) last.each by)

-- ---- a fault

pub left_none : (a b : List Said) → a ++ b ≡ [] → a ≡ []
left_none [] b e = refl
left_none (x ∷ a) b e = absurd (cc)

pub right_none : (a b : List Said) → a ++ b ≡ [] → b ≡ []
right_none [] b e = e
right_none (x ∷ a) b e = absurd (cc)

-- it was met before
fault_again : (most : ℕ) (d : Decoder) (piece : List ℕ) (fault : FrameFault) (now : Reading) (text : List ℕ) → 0 < length piece → d.reading ≡ failed fault → now ≡ failed fault
    → Hears most d (take 1 piece) None text (Faulty fault) (record d { reading = now })
fault_again most d [] fault now text some was is = absurd (omega arith)
fault_again most d (c ∷ piece) fault now text some was is =
    let P : List Said → Type 0 = λ l. HasNoMarker l in
    let quiet : octet_says d c ≡ [] = ap (λ r. read_out r c) was in
    let failed_on : read_step d.reading c ≡ failed fault = ap (λ r. read_step r c) was in
    let gone = is_read d (c ∷ []) in
    let nothing : file_signs (gives reader d.reading (c ∷ [])) ≡ [] = ap (λ l. file_signs (l ++ [])) quiet in (
      subst P (sym quiet) tt,
      (
        ap fault_in failed_on,
        same (record d { reading = now }) (read_as d (c ∷ [])) refl (is ∙ sym failed_on)
            (sym (ap (λ l. after (receiving d.form) d.taking l) nothing)) (sym (ap (λ l. d.content ++ gives (receiving d.form) d.taking l) nothing ∙ append-nil d.content)) ∙ sym gone,
      ),
    )

-- its octet is the last of these
pub fault_hears : (most : ℕ) (d : Decoder) (piece : List ℕ) (taken count : ℕ) (fault : FrameFault) (now : Reading) (text : List ℕ) → 0 < length piece → length d.content ≤ most
    → taken ≤ length piece → (taken ≡ 0 → count ≡ 1) → (0 < taken → count ≡ taken) → now ≡ after reader d.reading (take taken piece) → now ≡ failed fault
    → (0 < taken → IsGoing (after reader d.reading (take (taken - 1) piece))) → gives reader d.reading (take taken piece) ≡ []
    → Hears most d (take count piece) None text (Faulty fault) (record d { reading = now })
fault_hears most d piece zero count fault now text some within fits one all state is first quiet =
    let P : ℕ → Type 0 = λ n. Hears most d (take n piece) None text (Faulty fault) (record d { reading = now }) in
    subst P (sym (one refl)) (fault_again most d piece fault now text some (sym state ∙ is) is)
fault_hears most d piece (suc k) count fault now text some within fits one all state is first quiet =
    let P : ℕ → Type 0 = λ n. Hears most d (take n piece) None text (Faulty fault) (record d { reading = now }) in
    let Q : ℕ → Type 0 = λ n. IsGoing (after reader d.reading (take n piece)) in
    let N : List Said → Type 0 = λ l. HasNoMarker l in
    let less : k < length piece = omega (arith, fits) in
    let next : suc k ≡ k + 1 = omega arith in
    let before : suc k - 1 ≡ k = omega arith in
    let split : gives reader d.reading (take k piece) ++ read_out (after reader d.reading (take k piece)) (get_or piece k 0) ≡ [] =
    sym (says_next d.reading piece k less) ∙ ap (λ n. gives reader d.reading (take n piece)) (sym next) ∙ quiet in
    let front : gives reader d.reading (take k piece) ≡ [] = left_none _ _ split in
    let last : octet_says (decoded d (take k piece)) (get_or piece k 0) ≡ [] = octet_at d piece k ∙ right_none _ _ split in
    let nothing : file_signs (gives reader d.reading (take (suc k) piece)) ≡ [] = ap file_signs quiet in
    let new : record d { reading = now } ≡ decoded_octet (decoded d (take k piece)) (get_or piece k 0) =
    same (record d { reading = now }) (read_as d (take (suc k) piece)) refl state
    (sym (ap (λ l. after (receiving d.form) d.taking l) nothing)) (sym (ap (λ l. d.content ++ gives (receiving d.form) d.taking l) nothing ∙ append-nil d.content))
    ∙ sym (is_read d (take (suc k) piece)) ∙ ap (λ n. decoded d (take n piece)) next ∙ decoded_next d piece k less in
    let fault_is : fault_of (read_on (decoded d (take k piece)) (get_or piece k 0)) ≡ Some fault =
    fault_at d piece k less ∙ ap (λ n. fault_in (after reader d.reading (take n piece))) (sym next) ∙ ap fault_in (sym state ∙ is) in
    subst P (sym next ∙ sym (all (omega arith)))
    (hears_last most d piece k None text (Faulty fault) (record d { reading = now }) less (subst Q before (first (omega arith))) (subst N (sym front) tt)
    (omega (arith, within, ap length (content_by d (take k piece) [] front), length-append d.content []))
    (subst N (sym last) tt) (fault_is, new))

-- ---- a part

pub step_last : (old new : Deframer) (piece : List ℕ) (step : Step) → Hears_step old piece step new → owed old ≡ []
    → SaysLast (reading old) piece step.taken (part_said step.part (last_marker new))
step_last old new piece step hears owes = elim hears.by_last [
  | inl none ↦ (
      let P : List Said → Type 0 = λ l. SaysLast (reading old) piece step.taken l in
      let nothing : part_said step.part (last_marker new) ≡ [] =
      left_none _ _ (hears.says ∙ ap (λ l. l ++ gives reader (reading old) (take step.taken piece)) owes ∙ ap (λ n. gives reader (reading old) (take n piece)) none) in
      subst P (sym nothing) (record { fits = omega arith; each = λ i less. absurd (omega (arith, less)) }))
  | inr last ↦ last
]

pub step_some : (old new : Deframer) (piece : List ℕ) (step : Step) → Hears_step old piece step new → owed old ≡ [] → 0 < length piece → 0 < step.taken
step_some old new piece step hears owes some = elim hears.some [
  | inl full ↦ (let last = step_last old new piece step hears owes in omega (arith, full, last.fits))
  | inr all ↦ omega (arith, all.1, some)
]

unmarked_octets : (xs : List ℕ) → HasNoMarker (octets_said xs)
unmarked_octets [] = tt
unmarked_octets (c ∷ xs) = unmarked_octets xs

pub part_signs : (part : Part) (text : List ℕ) → 0 < length (file_signs (part_said part text)) → HasNoMarker (part_said part text)
part_signs Need text some = tt
part_signs (Data piece) text some = unmarked_octets piece.now
part_signs EndRecord text some = tt
part_signs EndFile text some = tt
part_signs Marker text some = absurd (omega (arith, some))

pub part_plain : (part : Part) (text : List ℕ) → part ≢ Marker → HasNoMarker (part_said part text)
part_plain Need text plain = tt
part_plain (Data piece) text plain = unmarked_octets piece.now
part_plain EndRecord text plain = tt
part_plain EndFile text plain = tt
part_plain Marker text plain = absurd (plain refl)

no_length : {A : Type 0} (xs : List A) → length xs ≡ 0 → xs ≡ []
no_length [] e = refl
no_length (x ∷ xs) e = absurd (omega arith)

-- the octets before the last settle no more than the part
pub front_within : (old new : Deframer) (piece : List ℕ) (step : Step) (d : Decoder) (k : ℕ) → Hears_step old piece step new → owed old ≡ [] → d.reading ≡ reading old → k + 1 ≡ step.taken
    → HasNoMarker (part_said step.part (last_marker new))
    → length (decoded d (take k piece)).content ≤ length (settled d (file_signs (part_said step.part (last_marker new)))).content
front_within old new piece step d k hears owes at place unmarked =
    let said = part_said step.part (last_marker new) in
    let last = step_last old new piece step hears owes in
    elim (lt_or_le 0 (length said)) [
      | inl some ↦ (
          let i = length said - 1 in
          let there : gives reader d.reading (take k piece) ≡ take i said =
          ap (λ r. gives reader r (take k piece)) at ∙ ap (λ n. gives reader (reading old) (take n piece)) (let e : k ≡ step.taken - length said + i = omega (arith, place, some, last.fits) in e)
          ∙ last.each i (omega (arith, some)) in
          omega (arith, ap length (content_by d (take k piece) (take i said) there), ap (λ l. length (settled d l).content) (signs_take i said unmarked), settled_front d (file_signs said) i))
      | inr few ↦ (
          let nothing : said ≡ [] = no_length said (omega (arith, few)) in
          let ends : owed new ≡ [] = elim hears.some [ inl full ↦ absurd (omega (arith, full, few)) | inr all ↦ all.2 ] in
          let all : gives reader (reading old) (take step.taken piece) ≡ [] =
          sym (ap (λ l. l ++ gives reader (reading old) (take step.taken piece)) owes) ∙ sym hears.says ∙ ap (λ l. l ++ owed new) nothing ∙ ends in
          let front : gives reader d.reading (take k piece) ≡ [] =
          ap (λ r. gives reader r (take k piece)) at ∙ left_none _ _ (sym (gives_front (reading old) piece k step.taken (omega (arith, place))) ∙ all) in
          omega (arith, ap length (content_by d (take k piece) [] front), ap (λ l. length (settled d (file_signs l)).content) nothing))
    ]

-- what is owed behind the part is settled, or stops
pub ends_of : {S : Type 0} (octets : S → List ℕ) (mid new : Intake S) (before room most : ℕ) (heard : Decoded) (d : Decoder) (w : List ℕ)
    → most ≡ length (octets mid.sink) + before → EndsShort octets mid before heard new room
    → settled (decoder_at octets mid) (file_signs (owed mid.deframer)) ≡ decoded d w → EndsOf most d w heard (decoder_at octets new)
ends_of octets mid new before room most More d w is ends whole =
    let same = ends.0 ∙ whole in
    (omega (arith, is, ends.2, ap (λ x. length x.content) same), same)
ends_of octets mid new before room most Over d w is ends whole = omega (arith, is, ends, ap (λ x. length x.content) whole)
ends_of octets mid new before room most NoMemory d w is ends whole = tt
ends_of octets mid new before room most (Faulty fault) d w is ends whole = absurd ends

-- the decoder behind a step
pub whole_step : (d : Decoder) (w : List ℕ) (said ends : List Said) (now : Reading) → now ≡ after reader d.reading w → said ++ ends ≡ gives reader d.reading w
    → settled (settled (record d { reading = now }) (file_signs said)) (file_signs ends) ≡ decoded d w
whole_step d w said ends now at is =
    sym (settled-append (record d { reading = now }) (file_signs said) (file_signs ends))
    ∙ ap (settled (record d { reading = now })) (sym (file_signs-append said ends) ∙ ap file_signs is)
    ∙ (let P : Reading → Decoder = λ r. settled (record d { reading = r }) (file_signs (gives reader d.reading w)) in ap P at)
    ∙ sym (is_read d w)

-- a marker is the first thing that the last octet says
pub marks : (d : Decoder) (piece : List ℕ) (k n : ℕ) (text : List ℕ) (ends : List Said) (held : ℕ) → k < length piece → k + 1 ≡ n
    → gives reader d.reading (take k piece) ≡ [] → marker text ∷ ends ≡ gives reader d.reading (take n piece) → HasNoMarker ends → held ≡ length d.content
    → Marks (Some held) text (decoded d (take k piece)) (octet_says (decoded d (take k piece)) (get_or piece k 0))
marks d piece k n text ends held less place front is unmarked len =
    let said : octet_says (decoded d (take k piece)) (get_or piece k 0) ≡ marker text ∷ ends =
    octet_at d piece k ∙ ap (λ l. l ++ read_out (after reader d.reading (take k piece)) (get_or piece k 0)) (sym front)
    ∙ sym (says_next d.reading piece k less) ∙ ap (λ j. gives reader d.reading (take j piece)) place ∙ sym is in
    (ends, said, unmarked, omega (arith, len, ap length (content_by d (take k piece) [] front), length-append d.content []))
