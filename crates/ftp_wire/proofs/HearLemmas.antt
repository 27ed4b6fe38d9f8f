-- Decoders over rows of octets.
use Rattle.std.proofs.Common.{◌≡◌, ℕ, zero, suc, ◌+◌, ◌<◌, ◌≤◌, List, [], ◌∷◌, ◌++◌, length, take, drop, get_or, Option, None, refl, ap, sym, subst, ◌∙◌, arith, map, append-nil, length-append}
use Rattle.std.proofs.lemmas.List.{take-append-drop, take-take}
use Rattle.ftp_pieces.specs.Machine.{after, gives}
use Rattle.ftp_pieces.proofs.MachineLemmas.{after-append, gives-append}
use Rattle.ftp_settings.specs.Representation.{Form}
use Rattle.ftp_repr.specs.Receiving.{Taking, receiving}
use Rattle.ftp_mode.specs.Said.{Said, says, marker, file_signs, octets_said}
use Rattle.ftp_repr.specs.Signs.{octet}
use Rattle.ftp_mode.specs.declared.fault.FrameFault.{FrameFault}
use Rattle.ftp_mode.specs.Reading.{Reading, IsGoing, going, failed, reader, read_step, read_out}
use Rattle.ftp_mode.proofs.ReaderRuns.{failed_after, failed_gives}
use Rattle.ftp_wire.specs.Decoder.{Decoder, read_on, octet_says, decoded_octet, decoded, fault_in, fault_of}
use Rattle.ftp_wire.proofs.DecoderLemmas.{decodes}
use Rattle.ftp_wire.specs.Hearing.{HasNoMarker, AreQuiet, Marks, EndsBy, Hears}
use Rattle.ftp_wire.specs.declared.decoded.Decoded.{Decoded}
use Rattle.ftp_wire.specs.declared.decoded.Decoded.TheVariants.{More}

-- two decoders that hold the same
pub same : (a b : Decoder) → a.form ≡ b.form → a.reading ≡ b.reading → a.taking ≡ b.taking → a.content ≡ b.content → a ≡ b
same a b f r t c =
    let by_form : Form → Decoder = λ x. record { form = x; reading = a.reading; taking = a.taking; content = a.content } in
    let by_reading : Reading → Decoder = λ x. record { form = b.form; reading = x; taking = a.taking; content = a.content } in
    let by_taking : Taking → Decoder = λ x. record { form = b.form; reading = b.reading; taking = x; content = a.content } in
    let by_content : List ℕ → Decoder = λ x. record { form = b.form; reading = b.reading; taking = b.taking; content = x } in
    ap by_form f ∙ ap by_reading r ∙ ap by_taking t ∙ ap by_content c

-- a decoder over octets, by its two readers
abbrev pub read_as : Decoder → List ℕ → Decoder
read_as d w = record {
  form = d.form;
  reading = after reader d.reading w;
  taking = after (receiving d.form) d.taking (file_signs (gives reader d.reading w));
  content = d.content ++ gives (receiving d.form) d.taking (file_signs (gives reader d.reading w));
}

pub is_read : (d : Decoder) (w : List ℕ) → decoded d w ≡ read_as d w
is_read d w = let e = decodes d w in same (decoded d w) (read_as d w) e.form e.reading e.taking e.settles

pub decoded-append : (d : Decoder) (w v : List ℕ) → decoded d (w ++ v) ≡ decoded (decoded d w) v
decoded-append d [] v = refl
decoded-append d (c ∷ w) v = decoded-append (decoded_octet d c) w v

pub grows : (d : Decoder) (w : List ℕ) → length d.content ≤ length (decoded d w).content
grows d w =
    let e = decodes d w in
    omega (arith, ap length e.settles, length-append d.content (gives (receiving d.form) d.taking (file_signs (gives reader d.reading w))))

-- ---- quiet rows

pub quiet-append : (most : ℕ) (d : Decoder) (w v : List ℕ) → AreQuiet most d w → AreQuiet most (decoded d w) v → AreQuiet most d (w ++ v)
quiet-append most d [] v first then = then
quiet-append most d (c ∷ w) v first then = (first.0, quiet-append most (decoded_octet d c) w v first.1 then)

pub hears_behind : (most : ℕ) (d : Decoder) (w : List ℕ) (c : ℕ) (v : List ℕ) (mark : Option ℕ) (text : List ℕ) (heard : Decoded) (new : Decoder)
    → AreQuiet most d w → Hears most (decoded d w) (c ∷ v) mark text heard new → Hears most d (w ++ c ∷ v) mark text heard new
hears_behind most d [] c v mark text heard new quiet h = h
hears_behind most d (x ∷ []) c v mark text heard new quiet h = (quiet.0, h)
hears_behind most d (x ∷ y ∷ w) c v mark text heard new quiet h =
    (quiet.0, hears_behind most (decoded_octet d x) (y ∷ w) c v mark text heard new quiet.1 h)

pub quiet_hears : (most : ℕ) (d : Decoder) (c : ℕ) (w text : List ℕ) → AreQuiet most d (c ∷ w) → Hears most d (c ∷ w) None text More (decoded d (c ∷ w))
quiet_hears most d c [] text quiet = (quiet.0.unmarked, (quiet.0.fine, quiet.0.within, refl))
quiet_hears most d c (x ∷ w) text quiet = (quiet.0, quiet_hears most (decoded_octet d c) x w text quiet.1)

-- where nothing was told, all was quiet
pub hears_quiet : (most : ℕ) (d : Decoder) (w text : List ℕ) (new : Decoder) → Hears most d w None text More new → AreQuiet most d w × (new ≡ decoded d w)
hears_quiet most d [] text new h = (tt, h.2)
hears_quiet most d (c ∷ []) text new h = ((record { fine = h.1.0; unmarked = h.0; within = h.1.1 }, tt), h.1.2)
hears_quiet most d (c ∷ x ∷ w) text new h =
    let rest = hears_quiet most (decoded_octet d c) (x ∷ w) text new h.1 in
    ((h.0, rest.0), rest.1)

going_before : (r : Reading) (w : List ℕ) → IsGoing (after reader r w) → IsGoing r
going_before (going n at) w h = tt
going_before (failed fault) w h = let P : Reading → Type 0 = λ x. IsGoing x in subst P (failed_after fault w) h

pub fine_of : (r : Reading) → IsGoing r → fault_in r ≡ None
fine_of (going n at) h = refl
fine_of (failed fault) h = absurd h

pub unmarked_front : (a b : List Said) → HasNoMarker (a ++ b) → HasNoMarker a
unmarked_front [] b h = tt
unmarked_front (says x ∷ a) b h = unmarked_front a b h
unmarked_front (marker text ∷ a) b h = h

pub unmarked_back : (a b : List Said) → HasNoMarker (a ++ b) → HasNoMarker b
unmarked_back [] b h = h
unmarked_back (says x ∷ a) b h = unmarked_back a b h
unmarked_back (marker text ∷ a) b h = absurd h

pub unmarked_both : (a b : List Said) → HasNoMarker a → HasNoMarker b → HasNoMarker (a ++ b)
unmarked_both [] b x y = y
unmarked_both (says s ∷ a) b x y = unmarked_both a b x y
unmarked_both (marker text ∷ a) b x y = absurd x

-- no fault, no marker, and room in the end
pub quiet_of : (most : ℕ) (d : Decoder) (w : List ℕ) → IsGoing (after reader d.reading w) → HasNoMarker (gives reader d.reading w)
    → length (decoded d w).content ≤ most → AreQuiet most d w
quiet_of most d [] fine unmarked within = tt
quiet_of most d (c ∷ w) fine unmarked within =
    let next = decoded_octet d c in
    let read : next.reading ≡ read_step d.reading c = (decodes d (c ∷ [])).reading in
    let P : Reading → Type 0 = λ r. IsGoing (after reader r w) in
    let Q : Reading → Type 0 = λ r. HasNoMarker (gives reader r w) in (
      record {
        fine = fine_of (read_step d.reading c) (going_before (read_step d.reading c) w fine);
        unmarked = unmarked_front (octet_says d c) (gives reader (read_step d.reading c) w) unmarked;
        within = omega (arith, grows next w, within);
      },
      quiet_of most next w (subst P (sym read) fine) (subst Q (sym read) (unmarked_back (octet_says d c) (gives reader (read_step d.reading c) w) unmarked)) within,
    )

-- ---- the octet behind a front

take_next : (piece : List ℕ) (k : ℕ) → k < length piece → take (suc k) piece ≡ take k piece ++ get_or piece k 0 ∷ []
take_next [] k less = absurd (omega arith)
take_next (c ∷ piece) zero less = refl
take_next (c ∷ piece) (suc k) less = ap (λ l. c ∷ l) (take_next piece k (omega arith))

pub take_one : (piece : List ℕ) (k : ℕ) → k < length piece → take (k + 1) piece ≡ take k piece ++ get_or piece k 0 ∷ []
take_one piece k less = ap (λ n. take n piece) (let e : k + 1 ≡ suc k = omega arith in e) ∙ take_next piece k less

pub says_next : (r : Reading) (piece : List ℕ) (k : ℕ) → k < length piece
    → gives reader r (take (k + 1) piece) ≡ gives reader r (take k piece) ++ read_out (after reader r (take k piece)) (get_or piece k 0)
says_next r piece k less =
    ap (gives reader r) (take_one piece k less) ∙ gives-append reader r (take k piece) (get_or piece k 0 ∷ [])
    ∙ ap (λ l. gives reader r (take k piece) ++ l) (append-nil (read_out (after reader r (take k piece)) (get_or piece k 0)))

pub decoded_next : (d : Decoder) (piece : List ℕ) (k : ℕ) → k < length piece
    → decoded d (take (k + 1) piece) ≡ decoded_octet (decoded d (take k piece)) (get_or piece k 0)
decoded_next d piece k less = ap (decoded d) (take_one piece k less) ∙ decoded-append d (take k piece) (get_or piece k 0 ∷ [])

-- what an octet says behind a front
pub octet_at : (d : Decoder) (piece : List ℕ) (k : ℕ) → octet_says (decoded d (take k piece)) (get_or piece k 0) ≡ read_out (after reader d.reading (take k piece)) (get_or piece k 0)
octet_at d piece k = ap (λ r. read_out r (get_or piece k 0)) (decodes d (take k piece)).reading

-- whether a fault is met with it
pub fault_at : (d : Decoder) (piece : List ℕ) (k : ℕ) → k < length piece
    → fault_of (read_on (decoded d (take k piece)) (get_or piece k 0)) ≡ fault_in (after reader d.reading (take (k + 1) piece))
fault_at d piece k less =
    ap (λ r. fault_in (read_step r (get_or piece k 0))) (decodes d (take k piece)).reading
    ∙ ap fault_in (sym (ap (after reader d.reading) (take_one piece k less) ∙ after-append reader d.reading (take k piece) (get_or piece k 0 ∷ [])))

-- a quiet front and the octet that tells
pub hears_last : (most : ℕ) (d : Decoder) (piece : List ℕ) (k : ℕ) (mark : Option ℕ) (text : List ℕ) (heard : Decoded) (new : Decoder) → k < length piece
    → IsGoing (after reader d.reading (take k piece)) → HasNoMarker (gives reader d.reading (take k piece)) → length (decoded d (take k piece)).content ≤ most
    → Marks mark text (decoded d (take k piece)) (octet_says (decoded d (take k piece)) (get_or piece k 0))
    → EndsBy most (decoded d (take k piece)) (get_or piece k 0) heard new
    → Hears most d (take (k + 1) piece) mark text heard new
hears_last most d piece k mark text heard new less fine unmarked within marks ends =
    let P : List ℕ → Type 0 = λ w. Hears most d w mark text heard new in
    subst P (sym (take_one piece k less))
    (hears_behind most d (take k piece) (get_or piece k 0) [] mark text heard new (quiet_of most d (take k piece) fine unmarked within) (marks, ends))

-- a fault later was none before
pub going_front : (r : Reading) (piece : List ℕ) (k n : ℕ) → k ≤ n → IsGoing (after reader r (take n piece)) → IsGoing (after reader r (take k piece))
going_front r piece k n few fine =
    let P : List ℕ → Type 0 = λ w. IsGoing (after reader r w) in
    let Q : Reading → Type 0 = λ x. IsGoing x in
    let front = take k (take n piece) in
    let whole = subst P (sym (take-append-drop k (take n piece))) fine in
    let split = subst Q (after-append reader r front (drop k (take n piece))) whole in
    subst P (take-take k n piece few) (going_before (after reader r front) (drop k (take n piece)) split)

pub file-octets : (xs : List ℕ) → file_signs (octets_said xs) ≡ map octet xs
file-octets [] = refl
file-octets (c ∷ xs) = ap (λ l. octet c ∷ l) (file-octets xs)

-- ---- a loop over steps

pub quiet_all : (most : ℕ) (d : Decoder) (w text : List ℕ) (new : Decoder) → AreQuiet most d w → new ≡ decoded d w → Hears most d w None text More new
quiet_all most d [] text new quiet is = (refl, refl, is)
quiet_all most d (c ∷ w) text new quiet is =
    let P : Decoder → Type 0 = λ x. Hears most d (c ∷ w) None text More x in
    subst P (sym is) (quiet_hears most d c w text quiet)

pub hears_join : (most : ℕ) (d : Decoder) (w v : List ℕ) (mark : Option ℕ) (text : List ℕ) (heard : Decoded) (new : Decoder) → 0 < length v
    → AreQuiet most d w → Hears most (decoded d w) v mark text heard new → Hears most d (w ++ v) mark text heard new
hears_join most d w [] mark text heard new some quiet h = absurd (omega arith)
hears_join most d w (c ∷ v) mark text heard new some quiet h = hears_behind most d w c v mark text heard new quiet h

-- after a fault nothing changes
pub stays : (d : Decoder) (fault : FrameFault) (w : List ℕ) → d.reading ≡ failed fault → decoded d w ≡ d
stays d fault w is =
    let m = receiving d.form in
    let nothing : gives reader d.reading w ≡ [] = ap (λ r. gives reader r w) is ∙ failed_gives fault w in
    is_read d w ∙ same (read_as d w) d refl (ap (λ r. after reader r w) is ∙ failed_after fault w ∙ sym is)
    (ap (λ l. after m d.taking (file_signs l)) nothing) (ap (λ l. d.content ++ gives m d.taking (file_signs l)) nothing ∙ append-nil d.content)
