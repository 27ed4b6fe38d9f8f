-- What of a piece is given and what is left.
use Rattle.std.proofs.Common.{◌≡◌, ◌≢◌, ℕ, zero, suc, ◌+◌, ◌^◌, ◌≤◌, ◌<◌, List, [], ◌∷◌, ◌++◌, length, take, drop, map, Option, Some, None, ◌⊎◌, inl, inr, Bool, true, false, ◌==◌, ◌&&◌, append-nil, length-append, refl, ap, sym, subst, ◌∙◌, arith, append_assoc, drop-drop}
use Rattle.std.specs.Prelude.{if◌then◌else◌}
use Rattle.std.specs.List.{AllByRecursion}
use Rattle.std.proofs.lemmas.Bool.{false≢true, eqb-true}
use Rattle.std.proofs.lemmas.List.{take-append-drop, length-take-le, length-map}
use Rattle.std.proofs.Math.Seq.{take-append-add}
use Rattle.ftp_pieces.specs.Machine.{gives}
use Rattle.ftp_repr.specs.Signs.{Sign, octet, end_record, end_file, wire_octets, octet_signs, signs_of}
use Rattle.ftp_repr.specs.Runs.{IsRun, is_changed}
use Rattle.ftp_repr.specs.Sending.{has_sent_end, sender_form, still_to_send}
use Rattle.ftp_repr.specs.declared.sender.Sender.{Sender}
use Rattle.ftp_repr.proofs.SignLemmas.{IsWhole, signs_of-append, signs_of-cons, signs_same, whole-signs_of}
use Rattle.ftp_settings.specs.Representation.{Form, form_of, has_markers}
use Rattle.ftp_settings.specs.declared.representation.Representation.{Representation}
use Rattle.ftp_settings.specs.declared.representation.Kind.{Kind}
use Rattle.ftp_settings.specs.declared.representation.Kind.TheVariants.{Ascii, Image}
use Rattle.ftp_settings.specs.declared.representation.Structure.{Structure}
use Rattle.ftp_settings.specs.declared.representation.Structure.TheVariants.{File, Record}
use Rattle.ftp_settings.specs.declared.representation.Mode.{Mode}
use Rattle.ftp_settings.specs.declared.representation.Mode.TheVariants.{Stream, Block}
use Rattle.ftp_mode.specs.Block.{marked_text}
use Rattle.ftp_mode.specs.Framing.{owed_octets, writing, still_to_write}
use Rattle.ftp_mode.specs.Writing.{Writing, copying, free, held, filling, at_record, closed, manner, writer, write_step, write_out, blank_writing, with_marks}
use Rattle.ftp_mode.specs.declared.framer.Framer.{Framer}
use Rattle.ftp_mode.proofs.WrittenLemmas.{writes_wire, writes_marked}
use Rattle.ftp_mode.proofs.WriterLemmas.{gives-closed}
use Rattle.ftp_mode.proofs.FramingLemmas.{octet_manner, record_manner}
use Rattle.ftp_mode.specs.declared.framer.Manner.TheVariants.{Copies, Closed}
use Rattle.ftp_mode.specs.Wire.{wire}
use Rattle.ftp_wire.specs.Encoding.{half_signs, still_to_give, is_done, left_to_do}
use Rattle.ftp_wire.specs.declared.encoder.Encoder.{Encoder}

-- the octets of a run that are left are still to come
pub run_left : (f : Form) (piece more : List ℕ) (n k : ℕ) → k ≤ n → n ≤ length piece
    → AllByRecursion (λ c. is_changed f.kind f.structure c ≡ false) (take n piece)
    → drop k (map octet (take n piece)) ++ signs_of f (drop n piece ++ more) ≡ signs_of f (drop k piece ++ more)
run_left f piece more n zero some within all =
    sym (ap (signs_of f) (ap (λ l. l ++ more) (sym (take-append-drop n piece)) ∙ append_assoc (take n piece) (drop n piece) more)
    ∙ signs_of-append f (take n piece) (drop n piece ++ more)
    ∙ ap (λ l. l ++ signs_of f (drop n piece ++ more)) (signs_same f.kind f.structure (take n piece) all))
run_left f piece more zero (suc k) some within all = absurd (omega (arith, some))
run_left f [] more (suc n) (suc k) some within all = absurd (omega (arith, within))
run_left f (c ∷ piece) more (suc n) (suc k) some within all = run_left f piece more n k (omega (arith, some)) (omega (arith, within)) all.1

-- the start: nothing is owed, and the writer stands here
pub starts : (f : Framer) (s : Sender) (w : Writing) (form : Form) (file : List ℕ) → owed_octets f ≡ [] → writing f ≡ w
    → has_sent_end s ≡ false → sender_form s ≡ form → still_to_write f (still_to_send s file) ≡ gives writer w (signs_of form file)
starts f s w form file owes state going same =
    ap (λ l. l ++ gives writer (writing f) (still_to_send s file)) owes
    ∙ ap (λ v. gives writer v (still_to_send s file)) state
    ∙ ap (λ b. gives writer w (if b then [] else signs_of (sender_form s) file)) going
    ∙ ap (λ g. gives writer w (signs_of g file)) same

abbrev shape : Kind → Structure → Mode → Representation
shape k s m = record { kind = k; structure = s; mode = m }

-- own markers, where the representation has them
pub starts_marked : (k : Kind) (s : Structure) (m : Mode) (start : ℕ) (file : List ℕ) → has_markers (shape k s m) ≡ true → start + length file < 2 ^ 64
    → gives writer (with_marks start (blank_writing m s)) (signs_of (form_of (shape k s m)) file) ≡ marked_text start file
starts_marked Image File Block start file has fits = writes_marked start file fits
starts_marked Image File Stream start file has fits = absurd (false≢true has)
starts_marked Image Record Stream start file has fits = absurd (false≢true has)
starts_marked Image Record Block start file has fits = absurd (false≢true has)
starts_marked Ascii s m start file has fits = absurd (false≢true has)

-- the one text with own markers, or the one without
pub text_marked : (r : Representation) (f : Framer) (s : Sender) (start : ℕ) (file : List ℕ) → owed_octets f ≡ [] → has_sent_end s ≡ false → sender_form s ≡ form_of r
    → has_markers r ≡ true → writing f ≡ with_marks start (blank_writing r.mode r.structure) → start + length file < 2 ^ 64
    → still_to_write f (still_to_send s file) ≡ (if has_markers r then marked_text start file else wire r.mode (form_of r) file)
text_marked r f s start file owes going same has state fits =
    starts f s (with_marks start (blank_writing r.mode r.structure)) (form_of r) file owes state going same
    ∙ starts_marked r.kind r.structure r.mode start file has fits
    ∙ ap (λ b. if b then marked_text start file else wire r.mode (form_of r) file) (sym has)

pub text_plain : (r : Representation) (f : Framer) (s : Sender) (start : ℕ) (file : List ℕ) → owed_octets f ≡ [] → has_sent_end s ≡ false → sender_form s ≡ form_of r
    → has_markers r ≡ false → writing f ≡ blank_writing r.mode r.structure
    → still_to_write f (still_to_send s file) ≡ (if has_markers r then marked_text start file else wire r.mode (form_of r) file)
text_plain r f s start file owes going same none state =
    starts f s (blank_writing r.mode r.structure) (form_of r) file owes state going same
    ∙ writes_wire r.mode (form_of r) file
    ∙ ap (λ b. if b then marked_text start file else wire r.mode (form_of r) file) (sym none)

-- ---- an item

-- what a framer was given so many signs of
abbrev pub Puts : Framer → List Sign → ℕ → List ℕ → Framer → Type 0
Puts f given k made g = (more : List Sign) → still_to_write f (given ++ more) ≡ made ++ still_to_write g (drop k given ++ more)

-- the item in front of what is to be sent was put, and what is left of it is in front of the rest
pub put_front : (f g : Framer) (half : Option ℕ) (given x y z : List Sign) (k : ℕ) (made : List ℕ) → half ≡ None → Puts f given k made g
    → x ≡ given ++ z → y ≡ drop k given ++ z
    → still_to_write f (half_signs half ++ x) ≡ made ++ still_to_write g (half_signs half ++ y)
put_front f g half given x y z k made none puts whole left =
    let E : Option ℕ → Type 0 = λ h. still_to_write f (half_signs h ++ x) ≡ made ++ still_to_write g (half_signs h ++ y) in
    subst E (sym none) (ap (still_to_write f) whole ∙ puts z ∙ ap (λ l. made ++ still_to_write g l) (sym left))

-- a sender that has not given its end
pub sends : (s : Sender) (b : List ℕ) → has_sent_end s ≡ false → still_to_send s b ≡ signs_of (sender_form s) b
sends s b going = ap (λ e. if e then [] else signs_of (sender_form s) b) going

-- of a run
pub run_rest : (s : Sender) (piece more octets : List ℕ) (n k : ℕ) → has_sent_end s ≡ false → n ≤ length piece → k ≤ length (map octet octets)
    → IsRun (is_changed s.kind s.structure) piece n → octets ≡ take n piece
    → still_to_send s (drop k piece ++ more) ≡ drop k (map octet octets) ++ still_to_send s (drop n piece ++ more)
run_rest s piece more octets n k going within some run is =
    let few : k ≤ n = omega (arith, some, length-map octets octet, ap length is, length-take-le n piece within) in
    sends s (drop k piece ++ more) going
    ∙ sym (run_left (sender_form s) piece more n k few within run.others)
    ∙ ap (λ l. drop k (map octet (take n piece)) ++ l) (sym (sends s (drop n piece ++ more) going))
    ∙ ap (λ l. drop k (map octet l) ++ still_to_send s (drop n piece ++ more)) (sym is)

-- of an end of record
pub record_rest : (s : Sender) (piece more : List ℕ) (k : ℕ) → k ≤ 1
    → still_to_send s (piece ++ more) ≡ end_record ∷ still_to_send s (drop 1 piece ++ more)
    → still_to_send s (drop k piece ++ more) ≡ drop k (end_record ∷ []) ++ still_to_send s (drop 1 piece ++ more)
record_rest s piece more zero few whole = whole
record_rest s piece more (suc zero) few whole = refl
record_rest s piece more (suc (suc k)) few whole = absurd (omega (arith, few))

-- behind the end nothing is sent
pub sends_none : (s : Sender) (b : List ℕ) → has_sent_end s ≡ true → still_to_send s b ≡ []
sends_none s b over = ap (λ e. if e then [] else signs_of (sender_form s) b) over

-- ---- items one after another

-- octets made behind others
pub behind_front : (room front back : List ℕ) (at n : ℕ) → at ≤ length room → front ≡ take at room → take (at + n) (front ++ back) ≡ take at room ++ take n back
behind_front room front back at n within is =
    let long : length front ≡ at = ap length is ∙ length-take-le at room within in
    ap (λ k. take (k + n) (front ++ back)) (sym long) ∙ take-append-add front back n ∙ ap (λ l. l ++ take n back) is

-- one more step
pub steps_on : (whole : List ℕ) (mid new : Encoder) (piece rest more room front back : List ℕ) (taken made n m : ℕ)
    → made ≤ length room → front ≡ take made room → rest ≡ drop taken piece
    → whole ≡ take made room ++ still_to_give mid (drop taken piece ++ more)
    → still_to_give mid (rest ++ more) ≡ take m back ++ still_to_give new (drop n rest ++ more)
    → whole ≡ take (made + m) (front ++ back) ++ still_to_give new (drop (taken + n) piece ++ more)
steps_on whole mid new piece rest more room front back taken made n m within is cut before step =
    let left : drop n rest ≡ drop (taken + n) piece = ap (drop n) cut ∙ drop-drop n taken piece in
    before
    ∙ ap (λ l. take made room ++ still_to_give mid (l ++ more)) (sym cut)
    ∙ ap (λ l. take made room ++ l) step
    ∙ sym (append_assoc (take made room) (take m back) (still_to_give new (drop n rest ++ more)))
    ∙ ap (λ l. (take made room ++ take m back) ++ still_to_give new (l ++ more)) left
    ∙ ap (λ l. l ++ still_to_give new (drop (taken + n) piece ++ more)) (sym (behind_front room front back made m within is))

-- ---- the end

both_true : (a b : Bool) → (a && b) ≡ true → (a ≡ true) × (b ≡ true)
both_true true b is = (refl, is)
both_true false b is = absurd (cc)

empty_of : (xs : List ℕ) → length xs ≡ 0 → xs ≡ []
empty_of [] none = refl
empty_of (x ∷ xs) none = absurd (omega (arith, none))

-- a closed writer writes nothing
pub closed_gives : (w : Writing) (ss : List Sign) → manner w ≡ Closed → gives writer w ss ≡ []
closed_gives copying ss is = absurd (cc)
closed_gives free ss is = absurd (cc)
closed_gives held ss is = absurd (cc)
closed_gives (filling xs n) ss is = absurd (cc)
closed_gives (at_record xs n) ss is = absurd (cc)
closed_gives closed ss is = gives-closed ss

-- so of a file whose end is given nothing is left but what is owed
pub owed_left : (f : Framer) (ss : List Sign) → manner (writing f) ≡ Closed → still_to_write f ss ≡ owed_octets f
owed_left f ss is = ap (λ l. owed_octets f ++ l) (closed_gives (writing f) ss is) ∙ append-nil (owed_octets f)

-- once the end is out nothing is left
pub nothing_left : (e : Encoder) → is_done e ≡ true → (file : List ℕ) → still_to_give e file ≡ []
nothing_left e done file =
    let parts = both_true (has_sent_end e.sender) (length (owed_octets e.framer) == 0) done in
    owed_left e.framer (half_signs e.half ++ still_to_send e.sender file) (e.over parts.0).1
    ∙ empty_of (owed_octets e.framer) (eqb-true (length (owed_octets e.framer)) 0 parts.1)

-- all is out, so something was made
pub some_made : (whole room : List ℕ) (e : Encoder) (file : List ℕ) (made : ℕ) → whole ≡ take made room ++ still_to_give e file → is_done e ≡ true
    → 0 < length whole → 0 < made
some_made whole room e file zero is done some =
    absurd (omega (arith, some, ap length (is ∙ nothing_left e done file)))
some_made whole room e file (suc made) is done some = omega arith

-- ---- something is left of a file whose end is not given, but for an end that writes nothing

end_some : (w : Writing) → manner w ≢ Copies → manner w ≢ Closed → 0 < length (write_out w end_file)
end_some copying copies over = absurd (copies refl)
end_some free copies over = omega arith
end_some held copies over = omega arith
end_some (filling xs n) copies over = omega arith
end_some (at_record xs n) copies over = omega arith
end_some closed copies over = absurd (over refl)

more_behind : (xs ys : List ℕ) → 0 < length ys → 0 < length (xs ++ ys)
more_behind xs ys some = omega (arith, some, length-append xs ys)

more_before : (xs ys : List ℕ) → 0 < length xs → 0 < length (xs ++ ys)
more_before xs ys some = omega (arith, some, length-append xs ys)

pub whole_some : (w : Writing) (ss : List Sign) → manner w ≢ Copies → manner w ≢ Closed → IsWhole ss → 0 < length (gives writer w ss)
whole_some w [] copies over whole = absurd whole
whole_some w (octet c ∷ ss) copies over whole =
    let same = octet_manner w c in
    more_behind (write_out w (octet c)) (gives writer (write_step w (octet c)) ss)
    (whole_some (write_step w (octet c)) ss (λ e. copies (sym same ∙ e)) (λ e. over (sym same ∙ e)) whole)
whole_some w (end_record ∷ ss) copies over whole =
    let same = record_manner w in
    more_behind (write_out w end_record) (gives writer (write_step w end_record) ss)
    (whole_some (write_step w end_record) ss (λ e. copies (sym same ∙ e)) (λ e. over (sym same ∙ e)) whole)
whole_some w (end_file ∷ ss) copies over whole = more_before (write_out w end_file) (gives writer (write_step w end_file) ss) (end_some w copies over)

-- a writer that copies gives each octet
pub copies_some : (w : Writing) (xs : List ℕ) (ss : List Sign) → manner w ≡ Copies → 0 < length xs → 0 < length (gives writer w (map octet xs ++ ss))
copies_some w [] ss is some = absurd (omega (arith, some))
copies_some copying (c ∷ xs) ss is some = omega arith
copies_some free (c ∷ xs) ss is some = absurd (cc)
copies_some held (c ∷ xs) ss is some = absurd (cc)
copies_some (filling ys n) (c ∷ xs) ss is some = absurd (cc)
copies_some (at_record ys n) (c ∷ xs) ss is some = absurd (cc)
copies_some closed (c ∷ xs) ss is some = absurd (cc)

pub copies_end : (w : Writing) → manner w ≡ Copies → gives writer w (end_file ∷ []) ≡ []
copies_end copying is = refl
copies_end free is = absurd (cc)
copies_end held is = absurd (cc)
copies_end (filling ys n) is = absurd (cc)
copies_end (at_record ys n) is = absurd (cc)
copies_end closed is = absurd (cc)

pair_some : (c : ℕ) (lf cr : Bool) → 0 < length (if lf then 13 ∷ 10 ∷ [] else (if cr then 13 ∷ 0 ∷ [] else c ∷ []))
pair_some c true cr = omega arith
pair_some c false true = omega arith
pair_some c false false = omega arith

wire_some : (k : Kind) (c : ℕ) → 0 < length (wire_octets k c)
wire_some Ascii c = pair_some c (c == 10) (c == 13)
wire_some Image c = omega arith

-- of a file in file structure, each octet is an octet of the wire at least
pub file_copied : (w : Writing) (f : Form) (c : ℕ) (b : List ℕ) → manner w ≡ Copies → f.structure ≡ File → 0 < length (gives writer w (signs_of f (c ∷ b)))
file_copied w f c b is structure =
    let P : List Sign → Type 0 = λ ss. 0 < length (gives writer w ss) in
    let octets : octet_signs f.kind f.structure c ≡ map octet (wire_octets f.kind c) = ap (λ s. octet_signs f.kind s c) structure in
    subst P (sym (signs_of-cons f c b ∙ ap (λ l. l ++ signs_of f b) octets))
    (copies_some w (wire_octets f.kind c) (signs_of f b) is (wire_some f.kind c))

-- the end of file is not given where the framer is not closed
going_of : (b : Bool) (e : Encoder) → has_sent_end e.sender ≡ b → manner (writing e.framer) ≢ Closed → has_sent_end e.sender ≡ false
going_of true e is open_still = absurd (open_still (e.over is).1)
going_of false e is open_still = is

pub still_going : (e : Encoder) → manner (writing e.framer) ≢ Closed → has_sent_end e.sender ≡ false
still_going e open_still = going_of (has_sent_end e.sender) e refl open_still

copies_open : Copies ≢ Closed
copies_open is = absurd (cc)

half_whole : (half : Option ℕ) (ss : List Sign) → IsWhole ss → IsWhole (half_signs half ++ ss)
half_whole None ss whole = whole
half_whole (Some c) ss whole = whole

-- in blocks and behind escapes the end is octets
pub framed_left : (e : Encoder) (file : List ℕ) → manner (writing e.framer) ≢ Copies → manner (writing e.framer) ≢ Closed → 0 < length (still_to_give e file)
framed_left e file copies over =
    let w = writing e.framer in
    let P : List Sign → Type 0 = λ ss. 0 < length (gives writer w (half_signs e.half ++ ss)) in
    more_behind (owed_octets e.framer) (gives writer w (half_signs e.half ++ still_to_send e.sender file))
    (subst P (sym (sends e.sender file (still_going e over)))
    (whole_some w (half_signs e.half ++ signs_of (sender_form e.sender) file) copies over
    (half_whole e.half (signs_of (sender_form e.sender) file) (whole-signs_of (sender_form e.sender) file))))

half_copied : (w : Writing) (f : Form) (half : Option ℕ) (c : ℕ) (b : List ℕ) → manner w ≡ Copies → f.structure ≡ File
    → 0 < length (gives writer w (half_signs half ++ signs_of f (c ∷ b)))
half_copied w f None c b is structure = file_copied w f c b is structure
half_copied w f (Some d) c b is structure = copies_some w (d ∷ []) (signs_of f (c ∷ b)) is (omega arith)

-- octets that are copied are octets of the wire
pub copied_left : (e : Encoder) (c : ℕ) (b : List ℕ) → manner (writing e.framer) ≡ Copies → 0 < length (still_to_give e (c ∷ b))
copied_left e c b copies =
    let w = writing e.framer in
    let P : List Sign → Type 0 = λ ss. 0 < length (gives writer w (half_signs e.half ++ ss)) in
    more_behind (owed_octets e.framer) (gives writer w (half_signs e.half ++ still_to_send e.sender (c ∷ b)))
    (subst P (sym (sends e.sender (c ∷ b) (still_going e (λ over. copies_open (sym copies ∙ over)))))
    (half_copied w (sender_form e.sender) e.half c b copies (e.copies copies)))

-- so only an empty file leaves nothing
pub copied_empty : (e : Encoder) (file : List ℕ) → manner (writing e.framer) ≡ Copies → still_to_give e file ≡ [] → file ≡ []
copied_empty e [] copies none = refl
copied_empty e (c ∷ b) copies none = absurd (omega (arith, copied_left e c b copies, ap length none))

-- what is owed is still to be given
pub owed_before : (e : Encoder) (file : List ℕ) → 0 < length (owed_octets e.framer) → 0 < length (still_to_give e file)
owed_before e file some = more_before (owed_octets e.framer) (gives writer (writing e.framer) (half_signs e.half ++ still_to_send e.sender file)) some

-- ---- the end is put

alike_by : (b : Bool) (e : Encoder) (file : List ℕ) → has_sent_end e.sender ≡ b → e.half ≡ None → still_to_send e.sender file ≡ still_to_send e.sender []
    → still_to_give e file ≡ still_to_write e.framer (end_file ∷ [])
alike_by true e file over none same =
    owed_left e.framer (half_signs e.half ++ still_to_send e.sender file) (e.over over).1 ∙ sym (owed_left e.framer (end_file ∷ []) (e.over over).1)
alike_by false e file going none same =
    ap (λ h. still_to_write e.framer (half_signs h ++ still_to_send e.sender file)) none
    ∙ ap (still_to_write e.framer) (same ∙ sends e.sender [] going)

-- where only the end is still to be sent, or not even that
pub ends_alike : (e : Encoder) (file : List ℕ) → e.half ≡ None → still_to_send e.sender file ≡ still_to_send e.sender []
    → still_to_give e file ≡ still_to_write e.framer (end_file ∷ [])
ends_alike e file none same = alike_by (has_sent_end e.sender) e file refl none same

-- with it the framer is closed
pub end_put : (f g : Framer) (half : Option ℕ) (over : Sender) (file : List ℕ) (whole made : List ℕ) (k : ℕ) → Puts f (end_file ∷ []) k made g
    → manner (writing g) ≡ Closed → whole ≡ still_to_write f (end_file ∷ [])
    → whole ≡ made ++ still_to_write g (half_signs half ++ still_to_send over file)
end_put f g half over file whole made k puts is whole_is =
    whole_is ∙ puts []
    ∙ ap (λ l. made ++ l) (owed_left g (drop k (end_file ∷ []) ++ []) is ∙ sym (owed_left g (half_signs half ++ still_to_send over file) is))

-- or it waits
pub end_waits : (e : Encoder) (g : Framer) (file made : List ℕ) (k : ℕ) → Puts e.framer (end_file ∷ []) k made g → k ≤ 1 → (k ≡ 1 → manner (writing g) ≡ Closed)
    → (manner (writing g) ≡ Closed) ⊎ (manner (writing g) ≡ manner (writing e.framer)) → manner (writing g) ≢ Closed
    → e.half ≡ None → still_to_send e.sender file ≡ still_to_send e.sender []
    → still_to_give e file ≡ made ++ still_to_write g (half_signs e.half ++ still_to_send e.sender file)
end_waits e g file made zero puts few closes same_or open_still none same =
    let going = still_going e (λ over. elim same_or [ inl c ↦ open_still c | inr s ↦ open_still (s ∙ over) ]) in
    ends_alike e file none same ∙ puts []
    ∙ ap (λ l. made ++ still_to_write g l) (sym (ap (λ h. half_signs h ++ still_to_send e.sender file) none ∙ same ∙ sends e.sender [] going))
end_waits e g file made (suc zero) puts few closes same_or open_still none same = absurd (open_still (closes refl))
end_waits e g file made (suc (suc k)) puts few closes same_or open_still none same = absurd (omega (arith, few))

-- what was owed behind the end moves out
pub owed_moves : (f g : Framer) (made : List ℕ) (k : ℕ) → Puts f (end_file ∷ []) k made g → manner (writing f) ≡ Closed → manner (writing g) ≡ Closed
    → owed_octets f ≡ made ++ owed_octets g
owed_moves f g made k puts is_f is_g =
    sym (owed_left f (end_file ∷ []) is_f) ∙ puts [] ∙ ap (λ l. made ++ l) (owed_left g (drop k (end_file ∷ []) ++ []) is_g)

pub owed_falls : (f g : Framer) (room : List ℕ) (made k : ℕ) → Puts f (end_file ∷ []) k (take made room) g → manner (writing f) ≡ Closed → manner (writing g) ≡ Closed
    → k ≤ 1 → (k ≡ 1 → owed_octets g ≡ []) → 0 < k + made → 0 < length (owed_octets f) → 0 < made
owed_falls f g room (suc made) k puts is_f is_g few out some owes = omega arith
owed_falls f g room zero zero puts is_f is_g few out some owes = absurd (omega (arith, some))
owed_falls f g room zero (suc zero) puts is_f is_g few out some owes =
    absurd (omega (arith, owes, ap length (owed_moves f g [] 1 puts is_f is_g ∙ out refl)))
owed_falls f g room zero (suc (suc k)) puts is_f is_g few out some owes = absurd (omega (arith, few))

falls_by : (half : Option ℕ) (over now : Bool) (made : ℕ) → now ≡ true → (over ≡ true → 0 < made)
    → length (half_signs half) + (if now then 0 else 1) < length (half_signs half) + (if over then 0 else 1) + made
falls_by half true true made is some = omega (arith, some refl)
falls_by half false true made is some = omega arith
falls_by half over false made is some = absurd (false≢true is)

-- the end is given, or some of what was owed behind it
pub end_falls : (e : Encoder) (over : Sender) (made : ℕ) → has_sent_end over ≡ true → (has_sent_end e.sender ≡ true → 0 < made)
    → length (half_signs e.half) + (if has_sent_end over then 0 else 1) < left_to_do e + made
end_falls e over made is some = falls_by e.half (has_sent_end e.sender) (has_sent_end over) made is some

-- behind the end it is of no matter which octets are given
pub over_text : (e g : Encoder) (file rest made : List ℕ) → has_sent_end e.sender ≡ true
    → ((b : List ℕ) → still_to_send e.sender b ≡ still_to_send e.sender [] → still_to_give e b ≡ made ++ still_to_give g b)
    → still_to_give e file ≡ made ++ still_to_give g rest
over_text e g file rest made over text =
    let same : (b : List ℕ) → still_to_send e.sender b ≡ still_to_send e.sender [] = λ b. sends_none e.sender b over ∙ sym (sends_none e.sender [] over) in
    ap (λ l. still_to_write e.framer (half_signs e.half ++ l)) (same file ∙ sym (same rest)) ∙ text rest (same rest)
