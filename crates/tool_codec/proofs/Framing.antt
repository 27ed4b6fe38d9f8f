-- A file that is written, from its start to its end.
use Rattle.std.proofs.Common.{◌≡◌, ℕ, ◌+◌, ◌*◌, ◌^◌, ◌≤◌, ◌<◌, ◌∙◌, Option, List, [], ◌∷◌, ◌++◌, length, take, drop, true, false, refl, sym, ap, subst, arith, append_assoc, append-nil, length-append, drop-drop, Result, Ok, Err}
use Rattle.std.proofs.lemmas.Bool.{false≢true}
use Rattle.std.proofs.lemmas.List.{length-take-le}
use Rattle.std.proofs.Math.Seq.{take-append-add}
use Rattle.std.specs.Prelude.{Bool, ◌&&◌, flat_map, if◌then◌else◌, IsTrue, OnErr}
use Rattle.std.proofs.KnownBytes.{Appends-trans, Appends-nil, Consumes-nil, Consumes-trans, Consumes-kept}
use Rattle.std.specs.Io.KnownBytes.{Appends, Consumes, IsAtEnd, Keeps}
use Rattle.ftp_pieces.specs.Machine.{gives}
use Rattle.ftp_repr.specs.Signs.{Sign, end_file, signs_of, signs_of_octet}
use Rattle.ftp_settings.specs.Representation.{Form, form_of, has_markers}
use Rattle.ftp_repr.specs.Sending.{sender_form, has_sent_end, still_to_send}
use Rattle.ftp_settings.specs.declared.representation.Kind.{Kind}
use Rattle.ftp_settings.specs.declared.representation.Kind.TheVariants.{Ascii, Image}
use Rattle.ftp_settings.specs.declared.representation.Structure.{Structure}
use Rattle.ftp_settings.specs.declared.representation.Structure.TheVariants.{File, Record}
use Rattle.ftp_repr.specs.declared.sender.Sender.{Sender}
use Rattle.ftp_repr.proofs.SignLemmas.{signs_of-append}
use Rattle.ftp_mode.specs.declared.framer.Framer.{Framer}
use Rattle.ftp_settings.specs.declared.representation.Mode.{Mode}
use Rattle.ftp_settings.specs.declared.representation.Mode.TheVariants.{Stream, Block}
use Rattle.ftp_mode.specs.Block.{marked_text}
use Rattle.ftp_mode.specs.Wire.{wire}
use Rattle.ftp_mode.specs.Framing.{still_to_write, owed_octets, writing}
use Rattle.ftp_mode.specs.Writing.{writer, blank_writing, with_marks}
use Rattle.ftp_mode.proofs.WrittenLemmas.{writes_wire, writes_marked}
use Rattle.ftp_ports.proofs.Fronts.{Appends-front, AppendsFront-more, Appends-then-front}
use Rattle.ftp_ports.specs.Beginning.{AppendsFront}
use Rattle.tool_codec.specs.Frame.{Frames, FramesFront, frame_text}
use Rattle.tool_codec.specs.Sending.{made_octets, still_to_give, Puts, Gives}
use Rattle.ftp_settings.specs.declared.representation.Representation.{Representation}
use Rattle.tool_codec.specs.declared.frames.FramedFile.{FramedFile}

-- THE START

abbrev shape : Kind → Structure → Mode → Representation
shape k s m = record { kind = k; structure = s; mode = m }

-- own markers from the start, where they have an effect
marks_in : (k : Kind) (s : Structure) (m : Mode) → has_markers (shape k s m) ≡ true → (b : List ℕ) → length b < 2 ^ 64
    → gives writer (with_marks 0 (blank_writing m s)) (signs_of (form_of (shape k s m)) b) ≡ frame_text (shape k s m) true b
marks_in Image File Block has b fits = writes_marked 0 b (omega (arith, fits))
marks_in Image File Stream has b fits = absurd (false≢true has)
marks_in Image Record Stream has b fits = absurd (false≢true has)
marks_in Image Record Block has b fits = absurd (false≢true has)
marks_in Ascii s m has b fits = absurd (false≢true has)

pub text_marked : (r : Representation) (marks : Bool) (f g : Framer) → writing f ≡ blank_writing r.mode r.structure → writing g ≡ with_marks 0 (writing f)
    → marks ≡ true → has_markers r ≡ true
    → (b : List ℕ) → length b < 2 ^ 64 → gives writer (writing g) (signs_of (form_of r) b) ≡ frame_text r marks b
text_marked r marks f g state marked asked has b fits =
    ap (λ w. gives writer w (signs_of (form_of r) b)) (marked ∙ ap (with_marks 0) state)
    ∙ marks_in r.kind r.structure r.mode has b fits
    ∙ ap (λ m. frame_text r m b) (sym asked)

-- and no markers
pub has_none : (asked has : Bool) → has ≡ false → (asked && has) ≡ false
has_none true has none = none
has_none false has none = refl

pub text_plain : (r : Representation) (marks : Bool) (f : Framer) → writing f ≡ blank_writing r.mode r.structure → (marks && has_markers r) ≡ false
    → (b : List ℕ) → gives writer (writing f) (signs_of (form_of r) b) ≡ frame_text r marks b
text_plain r marks f state none b =
    ap (λ w. gives writer w (signs_of (form_of r) b)) state
    ∙ writes_wire r.mode (form_of r) b
    ∙ ap (λ c. if c then marked_text 0 b else wire r.mode (form_of r) b) (sym none)

-- ITEMS

-- octets made behind others
pub behind_front : (room front back : List ℕ) (at n : ℕ) → at ≤ length room → front ≡ take at room → take (at + n) (front ++ back) ≡ take at room ++ take n back
behind_front room front back at n within is =
    let long : length front ≡ at = ap length is ∙ length-take-le at room within in
    ap (λ k. take (k + n) (front ++ back)) (sym long) ∙ take-append-add front back n ∙ ap (λ l. l ++ take n back) is

pub puts_none : {A : Type 0} (s : FramedFile A) (ss : List Sign) → Puts s ss s ss
puts_none s ss = record { octets = []; made = sym (append-nil (made_octets s)); text = λ more. refl }

-- PIECES

made_more : (old mid new made more : List ℕ) → mid ≡ old ++ made → new ≡ mid ++ more → new ≡ old ++ (made ++ more)
made_more old mid new made more first then_ = then_ ∙ ap (λ l. l ++ more) first ∙ append_assoc old made more

two_signs : (k : Kind) (s : Structure) → length (signs_of (record { kind = k; structure = s }) (0 ∷ [])) ≡ 2
two_signs Ascii File = refl
two_signs Ascii Record = refl
two_signs Image File = refl
two_signs Image Record = refl

longer : (f : Form) (xs : List ℕ) (g : List Sign) → signs_of f (xs ++ []) ≡ g → signs_of f (xs ++ (0 ∷ [])) ≡ g → ⊥
longer f xs g one two =
    let before = flat_map (signs_of_octet f) xs in
    let a : length (before ++ signs_of f []) ≡ length g = ap length (sym (signs_of-append f xs []) ∙ one) in
    let b : length (before ++ signs_of f (0 ∷ [])) ≡ length g = ap length (sym (signs_of-append f xs (0 ∷ [])) ∙ two) in
    let d = length-append before (signs_of f []) in
    let e = length-append before (signs_of f (0 ∷ [])) in
    let one_sign : length (signs_of f []) ≡ 1 = refl in
    let t = two_signs f.kind f.structure in
    omega (arith, a, b, d, e, t, one_sign)

open_by : (e : Bool) (f g : Form) (xs left : List ℕ) (ss : List Sign)
    → ((more : List ℕ) → signs_of f (xs ++ more) ≡ ss ++ (if e then [] else signs_of g (left ++ more))) → e ≡ false
open_by false f g xs left ss h = refl
open_by true f g xs left ss h = absurd (longer f xs (ss ++ []) (h []) (h (0 ∷ [])))

-- the end of file was not given, as more may follow
pub still_open : (old new : Sender) (rest left : List ℕ) (ss : List Sign)
    → ((more : List ℕ) → still_to_send old (rest ++ more) ≡ ss ++ still_to_send new (left ++ more))
    → has_sent_end old ≡ false → has_sent_end new ≡ false
still_open old new rest left ss sent goes_on =
    open_by new.ended (sender_form old) (sender_form new) rest left ss
    (λ more. sym (ap (λ e. if e then [] else signs_of (sender_form old) (rest ++ more)) goes_on) ∙ sent more)

pub gives_more : {A : Type 0} (old mid new : FramedFile A) (piece rest left : List ℕ) (ss : List Sign) (sent : FramedFile A)
    → Gives old piece mid rest
    → sent.framer ≡ mid.framer → made_octets sent ≡ made_octets mid → new.sender ≡ sent.sender
    → ((more : List ℕ) → still_to_send mid.sender (rest ++ more) ≡ ss ++ still_to_send sent.sender (left ++ more))
    → Puts sent ss new []
    → Gives old piece new left
gives_more old mid new piece rest left ss sent gives same_framer same_made same_sender step puts = record {
  octets = gives.octets ++ puts.octets;
  made = made_more (made_octets old) (made_octets mid) (made_octets new) gives.octets puts.octets gives.made (puts.made ∙ ap (λ l. l ++ puts.octets) same_made);
  text = λ more.
      gives.text more
      ∙ ap (λ l. gives.octets ++ l)
      (ap (still_to_write mid.framer) (step more) ∙ ap (λ f. still_to_write f (ss ++ still_to_send sent.sender (left ++ more))) (sym same_framer)
      ∙ puts.text (still_to_send sent.sender (left ++ more)) ∙ ap (λ s. puts.octets ++ still_to_write new.framer (still_to_send s (left ++ more))) (sym same_sender))
      ∙ sym (append_assoc gives.octets puts.octets (still_to_give new (left ++ more)));
  goes_on = ap has_sent_end same_sender ∙ still_open mid.sender sent.sender rest left ss step gives.goes_on;
}

-- the sender gives what stands for the front of a piece
pub sent_front : (piece rest : List ℕ) (at taken : ℕ) (old new : Sender) (given ss : List Sign)
    → rest ≡ drop at piece
    → ((more : List ℕ) → (IsTrue false → more ≡ []) → still_to_send old (rest ++ more) ≡ given ++ still_to_send new (drop taken rest ++ more))
    → given ≡ ss
    → (more : List ℕ) → still_to_send old (drop at piece ++ more) ≡ ss ++ still_to_send new (drop (at + taken) piece ++ more)
sent_front piece rest at taken old new given ss back sent is more =
    ap (λ l. still_to_send old (l ++ more)) (sym back)
    ∙ sent more (λ no. absurd (let e : false ≡ true = no in cc))
    ∙ ap (λ l. l ++ still_to_send new (drop taken rest ++ more)) is
    ∙ ap (λ l. ss ++ still_to_send new (l ++ more)) (ap (drop taken) back ∙ drop-drop _ _ piece)

-- the end of the file is out
pub end_text : {A : Type 0} (old new : FramedFile A) → has_sent_end old.sender ≡ false
    → Puts old (end_file ∷ []) new [] → owed_octets new.framer ≡ [] → made_octets new ≡ made_octets old ++ still_to_give old []
end_text old new goes_on puts out =
    let sent : still_to_send old.sender [] ≡ end_file ∷ [] = ap (λ e. if e then [] else signs_of (sender_form old.sender) []) goes_on in
    let whole : still_to_give old [] ≡ puts.octets =
    ap (still_to_write old.framer) sent ∙ puts.text [] ∙ ap (λ l. puts.octets ++ (l ++ [])) out ∙ append-nil puts.octets in
    puts.made ∙ ap (λ l. made_octets old ++ l) (sym whole)

pub on_err : {A E P : Type 0} (outcome : Result A E) → P → OnErr outcome P
on_err (Ok x) p = tt
on_err (Err e) p = p

-- THE WHOLE FILE

-- octets of the file were read, and what they decide was written
pub record Follows {A : Type 0} (r : Representation) (marks : Bool) (before after old new : Option (List ℕ)) (turn : ℕ) (sending : FramedFile A) : Type 0 where
  pub file : List ℕ
  pub read : Consumes before after file
  pub short : length file ≤ 4096 * turn
  pub octets : List ℕ
  pub wrote : Appends old new octets
  pub text : (more : List ℕ) → length (file ++ more) < 2 ^ 64 → frame_text r marks (file ++ more) ≡ octets ++ still_to_give sending more
  pub goes_on : has_sent_end sending.sender ≡ false
  pub empty : made_octets sending ≡ []

pub begins : {A : Type 0} (r : Representation) (marks : Bool) (input old : Option (List ℕ)) (sending : FramedFile A)
    → ((file : List ℕ) → length file < 2 ^ 64 → still_to_give sending file ≡ frame_text r marks file) → has_sent_end sending.sender ≡ false
    → made_octets sending ≡ [] → Follows r marks input input old old 0 sending
begins r marks input old sending text goes_on empty = record {
  file = [];
  read = Consumes-nil input;
  short = omega arith;
  octets = [];
  wrote = Appends-nil old;
  text = λ more fits. sym (text more fits);
  goes_on = goes_on;
  empty = empty;
}

whole_text : {A : Type 0} (r : Representation) (marks : Bool) (before after old new : Option (List ℕ)) (turn : ℕ) (sending : FramedFile A)
    → (follows : Follows r marks before after old new turn sending) → turn ≤ 1099511627776
    → frame_text r marks follows.file ≡ follows.octets ++ still_to_give sending []
whole_text r marks before after old new turn sending follows turns =
    let nil = append-nil follows.file in
    let short = follows.short in
    let fits : length (follows.file ++ []) < 2 ^ 64 = subst (λ l. length l < 2 ^ 64) (sym nil) (omega (arith, short, turns)) in
    ap (frame_text r marks) (sym nil) ∙ follows.text [] fits

-- what was made of a piece
made_all : (old made octets : List ℕ) → made ≡ old ++ octets → old ≡ [] → made ≡ octets
made_all old made octets is none = is ∙ ap (λ l. l ++ octets) none

pub follows_on : {A : Type 0} (r : Representation) (marks : Bool) (before mid after old now later : Option (List ℕ)) (turn : ℕ) (xs : List ℕ) (sending next new : FramedFile A)
    → Follows r marks before mid old now turn sending → length xs ≤ 4096 → Consumes mid after xs → Gives sending xs next [] → Appends now later (made_octets next)
    → new.sender ≡ next.sender → new.framer ≡ next.framer → made_octets new ≡ []
    → Follows r marks before after old later (turn + 1) new
follows_on r marks before mid after old now later turn xs sending next new follows short read gives wrote same_sender same_framer empty = record {
  file = follows.file ++ xs;
  read = Consumes-trans before mid after follows.file xs follows.read read;
  short = let e = length-append follows.file xs in let f = follows.short in omega (arith, e, f, short);
  octets = follows.octets ++ gives.octets;
  wrote = Appends-trans old now later follows.octets gives.octets follows.wrote
      (subst (λ l. Appends now later l) (made_all (made_octets sending) (made_octets next) gives.octets gives.made follows.empty) wrote);
  text = λ more fits.
      let same = append_assoc follows.file xs more in
      ap (frame_text r marks) same
      ∙ follows.text (xs ++ more) (subst (λ l. length l < 2 ^ 64) same fits)
      ∙ ap (λ l. follows.octets ++ l) (gives.text more)
      ∙ sym (append_assoc follows.octets gives.octets (still_to_give next more))
      ∙ ap (λ f. (follows.octets ++ gives.octets) ++ still_to_write f (still_to_send next.sender more)) (sym same_framer)
      ∙ ap (λ s. (follows.octets ++ gives.octets) ++ still_to_write new.framer (still_to_send s more)) (sym same_sender);
  goes_on = ap has_sent_end same_sender ∙ gives.goes_on;
  empty = empty;
}

-- no further read gave anything
pub breaks_between : {A : Type 0} (r : Representation) (marks : Bool) (before mid after old now : Option (List ℕ)) (turn : ℕ) (sending : FramedFile A)
    → Follows r marks before mid old now turn sending → turn ≤ 1099511627776 → Keeps mid after → FramesFront r marks before after old now
breaks_between r marks before mid after old now turn sending follows turns kept = record {
  file = follows.file;
  read = Consumes-kept before mid after follows.file follows.read kept;
  wrote = subst (λ l. AppendsFront old now l) (sym (whole_text r marks before mid old now turn sending follows turns))
      (Appends-front old now follows.octets (still_to_give sending []) follows.wrote);
}

fits_more : (file xs : List ℕ) (turn : ℕ) → length file ≤ 4096 * turn → turn < 1099511627776 → length xs ≤ 4096 → length (file ++ xs) < 2 ^ 64
fits_more file xs turn short turns few = let e = length-append file xs in omega (arith, e, short, turns, few)

-- memory was refused for what a piece, or the end, decides
pub breaks_piece : {A : Type 0} (r : Representation) (marks : Bool) (before mid after old now : Option (List ℕ)) (turn : ℕ) (xs : List ℕ) (sending : FramedFile A)
    → Follows r marks before mid old now turn sending → turn < 1099511627776 → length xs ≤ 4096 → Consumes mid after xs → FramesFront r marks before after old now
breaks_piece r marks before mid after old now turn xs sending follows turns short read = record {
  file = follows.file ++ xs;
  read = Consumes-trans before mid after follows.file xs follows.read read;
  wrote = subst (λ l. AppendsFront old now l) (sym (follows.text xs (fits_more follows.file xs turn follows.short turns short)))
      (Appends-front old now follows.octets (still_to_give sending xs) follows.wrote);
}

-- what was made of a piece was not written whole
pub breaks_off : {A : Type 0} (r : Representation) (marks : Bool) (before mid after old now later : Option (List ℕ)) (turn : ℕ) (xs : List ℕ) (sending next : FramedFile A)
    → Follows r marks before mid old now turn sending → turn < 1099511627776 → length xs ≤ 4096 → Consumes mid after xs → Gives sending xs next []
    → AppendsFront now later (made_octets next) → FramesFront r marks before after old later
breaks_off r marks before mid after old now later turn xs sending next follows turns short read gives front =
    let made = made_all (made_octets sending) (made_octets next) gives.octets gives.made follows.empty in
    let text : still_to_give sending xs ≡ made_octets next ++ still_to_give next [] =
    ap (still_to_give sending) (sym (append-nil xs)) ∙ gives.text [] ∙ ap (λ l. l ++ still_to_give next []) (sym made) in
    record {
      file = follows.file ++ xs;
      read = Consumes-trans before mid after follows.file xs follows.read read;
      wrote = subst (λ l. AppendsFront old later l) (sym (follows.text xs (fits_more follows.file xs turn follows.short turns short) ∙ ap (λ l. follows.octets ++ l) text))
          (Appends-then-front old now later follows.octets (made_octets next ++ still_to_give next []) follows.wrote
          (AppendsFront-more now later (made_octets next) (still_to_give next []) front));
    }

pub read_all : {A : Type 0} (r : Representation) (marks : Bool) (before mid after old now : Option (List ℕ)) (turn : ℕ) (xs : List ℕ) (sending : FramedFile A)
    → (follows : Follows r marks before mid old now turn sending) → Consumes mid after xs → xs ≡ [] → Consumes before after follows.file
read_all r marks before mid after old now turn xs sending follows read none =
    subst (λ l. Consumes before after l) (ap (λ l. follows.file ++ l) none ∙ append-nil follows.file)
    (Consumes-trans before mid after follows.file xs follows.read read)

-- the input ended
pub ends : {A : Type 0} (r : Representation) (marks : Bool) (before mid after old now later : Option (List ℕ)) (turn : ℕ) (xs : List ℕ) (sending next : FramedFile A)
    → Follows r marks before mid old now turn sending → turn ≤ 1099511627776 → Consumes mid after xs → xs ≡ [] → IsAtEnd after
    → made_octets next ≡ made_octets sending ++ still_to_give sending [] → Appends now later (made_octets next) → Frames r marks before after old later 0
ends r marks before mid after old now later turn xs sending next follows turns read none ended made wrote = record {
  file = follows.file;
  read = read_all r marks before mid after old now turn xs sending follows read none;
  whole = ended;
  wrote = subst (λ l. Appends old later l) (sym (whole_text r marks before mid old now turn sending follows turns))
      (Appends-trans old now later follows.octets (still_to_give sending []) follows.wrote
      (subst (λ l. Appends now later l) (made_all (made_octets sending) (made_octets next) (still_to_give sending []) made follows.empty) wrote));
  says = refl;
}

pub breaks_at_end : {A : Type 0} (r : Representation) (marks : Bool) (before mid after old now later : Option (List ℕ)) (turn : ℕ) (xs : List ℕ) (sending next : FramedFile A)
    → Follows r marks before mid old now turn sending → turn ≤ 1099511627776 → Consumes mid after xs → xs ≡ []
    → made_octets next ≡ made_octets sending ++ still_to_give sending [] → AppendsFront now later (made_octets next) → FramesFront r marks before after old later
breaks_at_end r marks before mid after old now later turn xs sending next follows turns read none made front = record {
  file = follows.file;
  read = read_all r marks before mid after old now turn xs sending follows read none;
  wrote = subst (λ l. AppendsFront old later l) (sym (whole_text r marks before mid old now turn sending follows turns))
      (Appends-then-front old now later follows.octets (still_to_give sending []) follows.wrote
      (subst (λ l. AppendsFront now later l) (made_all (made_octets sending) (made_octets next) (still_to_give sending []) made follows.empty) front));
}
