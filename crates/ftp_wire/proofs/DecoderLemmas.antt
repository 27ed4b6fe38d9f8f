-- The decoder as the two readers, one behind the other.
use Rattle.std.proofs.Common.{◌≡◌, ℕ, List, [], ◌∷◌, ◌++◌, refl, sym, ap, ◌∙◌, append_assoc, append-nil}
use Rattle.ftp_pieces.specs.Machine.{after, gives}
use Rattle.ftp_repr.specs.Signs.{Sign}
use Rattle.ftp_settings.specs.Representation.{Form, form_of}
use Rattle.ftp_repr.specs.Receiving.{Taking, receiving}
use Rattle.ftp_repr.specs.Content.{content}
use Rattle.ftp_pieces.proofs.MachineLemmas.{after-append, gives-append}
use Rattle.ftp_repr.proofs.ContentLemmas.{gives-receiving}
use Rattle.ftp_mode.specs.Said.{Said, says, marker, file_signs}
use Rattle.ftp_mode.specs.Reading.{Reading, reader, start, read_step}
use Rattle.ftp_mode.proofs.LawLemmas.{front_again, front_marked}
use Rattle.ftp_wire.specs.Decoder.{Decoder, no_octets, with_sign, with_said, with_all, read_on, octet_says, decoded_octet, decoded, image_blocks, DecodesWhatIsSettled, FrontGivesFront, MarkedFrontGivesFront}

-- what a wire says, signs of the file and markers, is the file's signs taken in order
record Takes (d e : Decoder) (said : List Said) : Type 0 where
  form : e.form ≡ d.form
  reading : e.reading ≡ d.reading
  taking : e.taking ≡ after (receiving d.form) d.taking (file_signs said)
  settles : e.content ≡ d.content ++ gives (receiving d.form) d.taking (file_signs said)

takes_all : (d : Decoder) (said : List Said) → Takes d (with_all d said) said
takes_all d [] = record { form = refl; reading = refl; taking = refl; settles = sym (append-nil d.content) }
takes_all d (says x ∷ more) =
    let t : Takes (with_sign d x) (with_all (with_sign d x) more) more = takes_all (with_sign d x) more in
    record {
      form = t.form;
      reading = t.reading;
      taking = t.taking;
      settles = t.settles ∙ append_assoc d.content ((receiving d.form).out d.taking x) (gives (receiving d.form) ((receiving d.form).step d.taking x) (file_signs more));
    }
takes_all d (marker text ∷ more) =
    let t : Takes (with_said d (marker text)) (with_all (with_said d (marker text)) more) more = takes_all (with_said d (marker text)) more in
    record { form = t.form; reading = t.reading; taking = t.taking; settles = t.settles }

pub file_signs-append : (xs ys : List Said) → file_signs (xs ++ ys) ≡ file_signs xs ++ file_signs ys
file_signs-append [] ys = refl
file_signs-append (says x ∷ xs) ys = ap (λ l. x ∷ l) (file_signs-append xs ys)
file_signs-append (marker text ∷ xs) ys = file_signs-append xs ys

-- octets are read, and what they say is taken
pub record Decodes (d e : Decoder) (w : List ℕ) : Type 0 where
  pub form : e.form ≡ d.form
  pub reading : e.reading ≡ after reader d.reading w
  pub taking : e.taking ≡ after (receiving d.form) d.taking (file_signs (gives reader d.reading w))
  pub settles : e.content ≡ d.content ++ gives (receiving d.form) d.taking (file_signs (gives reader d.reading w))

-- one octet
octet_decodes : (d : Decoder) (c : ℕ) → Takes (read_on d c) (decoded_octet d c) (octet_says d c)
octet_decodes d c = takes_all (read_on d c) (octet_says d c)

signs_more : (d : Decoder) (c : ℕ) (cs : List ℕ)
    → file_signs (gives reader d.reading (c ∷ cs)) ≡ file_signs (octet_says d c) ++ file_signs (gives reader (read_step d.reading c) cs)
signs_more d c cs = file_signs-append (octet_says d c) (gives reader (read_step d.reading c) cs)

joins : (f : Form) (t : Taking) (before : List ℕ) (first more : List Sign) (content all : List ℕ)
    → content ≡ before ++ gives (receiving f) t first → all ≡ content ++ gives (receiving f) (after (receiving f) t first) more
    → all ≡ before ++ gives (receiving f) t (first ++ more)
joins f t before first more content all is rest =
    rest ∙ ap (λ l. l ++ gives (receiving f) (after (receiving f) t first) more) is
    ∙ append_assoc before (gives (receiving f) t first) (gives (receiving f) (after (receiving f) t first) more)
    ∙ ap (λ l. before ++ l) (sym (gives-append (receiving f) t first more))

pub decodes : (d : Decoder) (w : List ℕ) → Decodes d (decoded d w) w
decodes d [] = record { form = refl; reading = refl; taking = refl; settles = sym (append-nil d.content) }
decodes d (c ∷ cs) =
    let one = octet_decodes d c in
    let rest = decodes (decoded_octet d c) cs in
    let more : Reading → List Sign = λ r. file_signs (gives reader r cs) in
    let taken : (decoded (decoded_octet d c) cs).taking ≡ after (receiving d.form) (after (receiving d.form) d.taking (file_signs (octet_says d c))) (more (read_step d.reading c)) =
    rest.taking ∙ ap (λ f. after (receiving f) (decoded_octet d c).taking (more (decoded_octet d c).reading)) one.form
    ∙ ap (λ t. after (receiving d.form) t (more (decoded_octet d c).reading)) one.taking
    ∙ ap (λ r. after (receiving d.form) (after (receiving d.form) d.taking (file_signs (octet_says d c))) (more r)) one.reading in
    let settled : (decoded (decoded_octet d c) cs).content ≡ (decoded_octet d c).content ++ gives (receiving d.form) (after (receiving d.form) d.taking (file_signs (octet_says d c))) (more (read_step d.reading c)) =
    rest.settles ∙ ap (λ f. (decoded_octet d c).content ++ gives (receiving f) (decoded_octet d c).taking (more (decoded_octet d c).reading)) one.form
    ∙ ap (λ t. (decoded_octet d c).content ++ gives (receiving d.form) t (more (decoded_octet d c).reading)) one.taking
    ∙ ap (λ r. (decoded_octet d c).content ++ gives (receiving d.form) (after (receiving d.form) d.taking (file_signs (octet_says d c))) (more r)) one.reading in
    record {
      form = rest.form ∙ one.form;
      reading = rest.reading ∙ ap (λ r. after reader r cs) one.reading;
      taking = taken ∙ sym (after-append (receiving d.form) d.taking (file_signs (octet_says d c)) (more (read_step d.reading c)))
          ∙ ap (λ ss. after (receiving d.form) d.taking ss) (sym (signs_more d c cs));
      settles = joins d.form d.taking d.content (file_signs (octet_says d c)) (more (read_step d.reading c)) (decoded_octet d c).content (decoded (decoded_octet d c) cs).content one.settles settled
          ∙ ap (λ ss. d.content ++ gives (receiving d.form) d.taking ss) (sym (signs_more d c cs));
    }

pub what_is_settled : DecodesWhatIsSettled
what_is_settled settings w =
    (decodes (no_octets settings) w).settles ∙ gives-receiving (form_of settings) (file_signs (gives reader (start settings.mode settings.structure) w))

pub front_gives : FrontGivesFront
front_gives settings b w front =
    let whole = front_again settings.mode (form_of settings) b w front in
    (whole.0, ap (λ l. l ++ whole.0) (what_is_settled settings w) ∙ whole.1)

pub marked_front_gives : MarkedFrontGivesFront
marked_front_gives from b w few front =
    let whole = front_marked from b w few front in
    (whole.0, ap (λ l. l ++ whole.0) (what_is_settled image_blocks w) ∙ whole.1)
