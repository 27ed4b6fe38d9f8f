-- Replies in flight, as the client hears them.
use Rattle.std.proofs.Common.{◌≡◌, ℕ, ◌+◌, ◌/◌, ◌%◌, ◌<◌, ◌⊎◌, inl, inr, List, [], ◌∷◌, ◌++◌, true, false, Some, refl, sym, ap, subst, ◌∙◌, append_assoc, append-nil, arith, length, length-append, All}
use Rattle.std.specs.Char.{digit_value, is_ascii_digit}
use Rattle.std.specs.List.{flat_map, AllByRecursion}
use Rattle.std.specs.Str.Parse.{digits_value}
use Rattle.std.proofs.lemmas.Bool.Decides.{Decides-eqb, nat_tests}
use Rattle.std.proofs.lemmas.List.Elements.{All-head, All-tail}
use Rattle.std.proofs.lemmas.List.Sums.{sum_by-append}
use Rattle.std.proofs.lemmas.Slice.Eq.{starts_is}
use Rattle.ftp_nvt.specs.Lines.{written_line}
use Rattle.ftp_nvt.proofs.CutLemmas.{decided}
use Rattle.ftp_reply.specs.Lines.{Text, AreWithin}
use Rattle.ftp_reply.specs.Reply.{IsCode, code_text, last_line, opening_line, begins_with_digits, written, but_last, inner_lines}
use Rattle.ftp_reply.proofs.LawLemmas.{cut_after}
use Rattle.ftp_pieces.specs.Machine.{after, gives}
use Rattle.ftp_ends.specs.Ear.{Ear, quiet, ear, ear_out, ear_step}
use Rattle.ftp_client_model.specs.Calls.{reply_limit, line_taken, events_taken, hears_octet, hears, may_hear}
use Rattle.ftp_client_model.specs.Dialogue.{answered}
use Rattle.ftp_client_model.specs.InFlight.{ClientHearsInPieces, OnlyHeard, CanBeCarried, octets_of, ReplyIsHeard, FrontsAreAlike, ClientDropsAnswer, CodeAndTexts, ClientHearsRow}
use Rattle.ftp_reply.specs.Reader.{Gathered, Between, Begun, GoesOn, Says, line_heard}
use Rattle.ftp_reply.proofs.HeardLemmas.{begins_last, code_is_read, front_within, plain_is_inner}
use Rattle.ftp_client_model.specs.View.{View}
use Rattle.ftp_client_model.proofs.RestLemmas.{answered_at_rest}
use Rattle.ftp_ends.proofs.LineInFlight.{no_more, Closes, unended, line_closes, written_is, front_of_front, front_says, answer_is_dropped}

-- ---- octets of which nothing is said

pub in_pieces : ClientHearsInPieces
in_pieces v [] back = refl
in_pieces v (octet ∷ front) back = in_pieces (hears_octet v octet) front back

abbrev with_ear : Ear → View → View
with_ear e v = record v { ear = e }

abbrev with_lines : Gathered → View → View
with_lines gathered v = record v { gathered = gathered }

silence : (v : View) (octets : List ℕ) → gives (ear reply_limit) v.ear octets ≡ [] → hears v octets ≡ with_ear (after (ear reply_limit) v.ear octets) v
silence v [] none = refl
silence v (octet ∷ octets) none =
    let both = no_more (ear_out reply_limit v.ear octet) (gives (ear reply_limit) (ear_step reply_limit v.ear octet) octets) none in
    let w : View = with_ear (ear_step reply_limit v.ear octet) v in
    let one : hears_octet v octet ≡ w = ap (λ l. events_taken l w) both.0 in
    ap (λ u. hears u octets) one ∙ silence w octets both.1

-- ---- a line

-- what a line of a reply does to a client that hears it between two lines
record HearsLine (text : Text) (v : View) : Type 0 where
  cut : (front back : List ℕ) (octet : ℕ) → front ++ octet ∷ back ≡ written_line text → OnlyHeard v (hears v front)
  whole : hears v (written_line text) ≡ line_taken (line_heard v.gathered text) v

hears_line : (text : Text) (v : View) → CanBeCarried text → v.ear ≡ quiet → HearsLine text v
hears_line text v is rest =
    let c : Closes reply_limit text = line_closes reply_limit text is.0 is.1 in
    let e : Ear = c.kept in
    let none : gives (ear reply_limit) v.ear (unended text) ≡ [] = ap (λ s. gives (ear reply_limit) s (unended text)) rest ∙ c.keeps.says in
    let here : hears v (unended text) ≡ with_ear e v =
    silence v (unended text) none ∙ ap (λ s. with_ear s v) (ap (λ s. after (ear reply_limit) s (unended text)) rest ∙ c.keeps.leads) in
    record {
      cut = λ front back octet cut.
          let said = front_says reply_limit quiet e front (unended text) (front_of_front front back (unended text) octet 10 (cut ∙ written_is text)) c.keeps in
          record {
            ear = after (ear reply_limit) v.ear front;
            gathered = v.gathered;
            is = silence v front (ap (λ s. gives (ear reply_limit) s front) rest ∙ said);
          };
      whole = ap (hears v) (written_is text) ∙ in_pieces v (unended text) (10 ∷ []) ∙ ap (λ u. hears u (10 ∷ [])) here
          ∙ ap (λ l. events_taken l (with_ear (ear_step reply_limit e 10) v)) c.ends.says
          ∙ ap (λ s. line_taken (line_heard v.gathered text) (with_ear s v)) (c.ends.leads ∙ sym rest);
    }

-- ---- lines that a reply goes on with

abbrev Gathers : Gathered → List Text → Gathered → Type 0
Gathers old [] new = old ≡ new
Gathers old (text ∷ texts) new = (next : Gathered) × (line_heard old text ≡ GoesOn next) × Gathers next texts new

abbrev on_wire : List Text → List ℕ
on_wire texts = flat_map written_line texts

goes_on : (v : View) (text : Text) (next : Gathered) → CanBeCarried text → v.ear ≡ quiet → line_heard v.gathered text ≡ GoesOn next
    → hears v (written_line text) ≡ with_lines next v
goes_on v text next is rest heard = (hears_line text v is rest).whole ∙ ap (λ h. line_taken h v) heard

gathered_whole : (v : View) (texts : List Text) (new : Gathered) → AllByRecursion CanBeCarried texts → v.ear ≡ quiet → Gathers v.gathered texts new
    → hears v (on_wire texts) ≡ with_lines new v
gathered_whole v [] new all rest same = ap (λ g. with_lines g v) same
gathered_whole v (text ∷ texts) new all rest more =
    in_pieces v (written_line text) (on_wire texts) ∙ ap (λ u. hears u (on_wire texts)) (goes_on v text more.0 all.0 rest more.1)
    ∙ gathered_whole (with_lines more.0 v) texts new all.1 rest more.2

-- a row that is cut: within its first part, or behind it
seam : (front back row rest : List ℕ) (octet : ℕ) → front ++ octet ∷ back ≡ row ++ rest
    → ((d : List ℕ) × (front ++ octet ∷ d ≡ row)) ⊎ ((more : List ℕ) × (front ≡ row ++ more) × (more ++ octet ∷ back ≡ rest))
seam front back [] rest octet e = inr (front, refl, e)
seam [] back (r ∷ row) rest octet e =
    let head : octet ≡ r = (let f : octet ∷ back ≡ r ∷ (row ++ rest) = e in cc) in inl (row, ap (λ o. o ∷ row) head)
seam (c ∷ front) back (r ∷ row) rest octet e =
    let f : c ∷ (front ++ octet ∷ back) ≡ r ∷ (row ++ rest) = e in
    let head : c ≡ r = cc in
    elim (seam front back row rest octet (cc)) [
      | inl l ↦ inl (l.0, ap (λ o. o ∷ (front ++ octet ∷ l.0)) head ∙ ap (λ s. r ∷ s) l.1)
      | inr m ↦ inr (m.0, ap (λ o. o ∷ front) head ∙ ap (λ s. r ∷ s) m.1, m.2)
    ]

-- lines that go on, and one more, cut anywhere
gathered_cut : (v : View) (texts : List Text) (last : Text) (new : Gathered) (front back : List ℕ) (octet : ℕ) → AllByRecursion CanBeCarried texts → CanBeCarried last
    → v.ear ≡ quiet → Gathers v.gathered texts new → front ++ octet ∷ back ≡ on_wire texts ++ written_line last → OnlyHeard v (hears v front)
gathered_cut v [] last new front back octet all is rest same cut = (hears_line last v is rest).cut front back octet cut
gathered_cut v (text ∷ texts) last new front back octet all is rest more cut =
    let joined : front ++ octet ∷ back ≡ written_line text ++ (on_wire texts ++ written_line last) =
    cut ∙ append_assoc (written_line text) (on_wire texts) (written_line last) in
    elim (seam front back (written_line text) (on_wire texts ++ written_line last) octet joined) [
      | inl l ↦ (hears_line text v all.0 rest).cut front l.0 octet l.1
      | inr m ↦
          let w : View = with_lines more.0 v in
          let one : hears v (written_line text) ≡ w = goes_on v text more.0 all.0 rest more.1 in
          let behind = gathered_cut w texts last new m.0 back octet all.1 is rest more.2 m.2 in
          let is_front : hears v front ≡ hears w m.0 =
          ap (hears v) m.1 ∙ in_pieces v (written_line text) m.0 ∙ ap (λ u. hears u m.0) one in
          record { ear = behind.ear; gathered = behind.gathered; is = is_front ∙ behind.is }
    ]

-- ---- what a front leaves, of whatever client

-- of a client that is between two lines, and has gathered these
record Leaves (old : Gathered) (front : List ℕ) : Type 0 where
  ear : Ear
  gathered : Gathered
  is : (v : View) → v.ear ≡ quiet → v.gathered ≡ old → hears v front ≡ with_lines gathered (with_ear ear v)

line_leaves : (old : Gathered) (text : Text) (front back : List ℕ) (octet : ℕ) → CanBeCarried text → front ++ octet ∷ back ≡ written_line text → Leaves old front
line_leaves old text front back octet is cut =
    let c : Closes reply_limit text = line_closes reply_limit text is.0 is.1 in
    let said = front_says reply_limit quiet c.kept front (unended text) (front_of_front front back (unended text) octet 10 (cut ∙ written_is text)) c.keeps in
    record {
      ear = after (ear reply_limit) quiet front;
      gathered = old;
      is = λ v rest same.
          silence v front (ap (λ s. gives (ear reply_limit) s front) rest ∙ said) ∙ ap (λ s. with_ear (after (ear reply_limit) s front) v) rest
          ∙ ap (λ g. with_lines g (with_ear (after (ear reply_limit) quiet front) v)) same;
    }

front_leaves : (old : Gathered) (texts : List Text) (last : Text) (new : Gathered) (front back : List ℕ) (octet : ℕ) → AllByRecursion CanBeCarried texts → CanBeCarried last
    → Gathers old texts new → front ++ octet ∷ back ≡ on_wire texts ++ written_line last → Leaves old front
front_leaves old [] last new front back octet all is same cut = line_leaves old last front back octet is cut
front_leaves old (text ∷ texts) last new front back octet all is more cut =
    let joined : front ++ octet ∷ back ≡ written_line text ++ (on_wire texts ++ written_line last) =
    cut ∙ append_assoc (written_line text) (on_wire texts) (written_line last) in
    elim (seam front back (written_line text) (on_wire texts ++ written_line last) octet joined) [
      | inl l ↦ line_leaves old text front l.0 octet all.0 l.1
      | inr m ↦
          let behind = front_leaves more.0 texts last new m.0 back octet all.1 is more.2 m.2 in
          record {
            ear = behind.ear;
            gathered = behind.gathered;
            is = λ v rest same.
                let one : hears v (written_line text) ≡ with_lines more.0 v = goes_on v text more.0 all.0 rest (ap (λ g. line_heard g text) same ∙ more.1) in
                ap (hears v) m.1 ∙ in_pieces v (written_line text) m.0 ∙ ap (λ u. hears u m.0) one ∙ behind.is (with_lines more.0 v) rest refl;
          }
    ]

-- ---- the lines of a reply

last_alone : (code : ℕ) (text : Text) → IsCode code → AreWithin (text ∷ []) → line_heard Between (last_line code text) ≡ Says code (text ∷ [])
unfolding line_heard
last_alone code text is within = rw (code_is_read code is, within) refl

opening : (code : ℕ) (text : Text) → IsCode code → AreWithin (text ∷ []) → line_heard Between (opening_line code text) ≡ GoesOn (Begun code (text ∷ []))
unfolding line_heard
opening code text is within = rw (code_is_read code is, within) refl

ends : (code : ℕ) (texts : List Text) (text : Text) → AreWithin (texts ++ text ∷ []) → line_heard (Begun code texts) (last_line code text) ≡ Says code (texts ++ text ∷ [])
unfolding line_heard
ends code texts text within = rw (begins_last code text, within) refl

inner : (code : ℕ) (texts : List Text) (text : Text) → IsCode code → begins_with_digits text ≡ false → AreWithin (texts ++ text ∷ [])
    → line_heard (Begun code texts) text ≡ GoesOn (Begun code (texts ++ text ∷ []))
unfolding line_heard
inner code texts text is plain within = rw (plain_is_inner code text is plain, within) refl

inner_all : (code : ℕ) (before texts behind : List Text) → IsCode code → All (λ line. begins_with_digits line ≡ false) texts → AreWithin ((before ++ texts) ++ behind)
    → Gathers (Begun code before) texts (Begun code (before ++ texts))
inner_all code before [] behind is plain within = ap (Begun code) (sym (append-nil before))
inner_all code before (text ∷ texts) behind is plain within =
    let joined : (before ++ text ∷ []) ++ texts ≡ before ++ text ∷ texts = append_assoc before (text ∷ []) texts in
    let here : AreWithin (before ++ text ∷ []) =
    front_within (before ++ text ∷ []) texts (subst AreWithin (sym joined) (front_within (before ++ text ∷ texts) behind within)) in
    let P : List Text → Type 0 = λ l. Gathers (Begun code (before ++ text ∷ [])) texts (Begun code l) in (
      Begun code (before ++ text ∷ []),
      inner code before text is (All-head (λ line. begins_with_digits line ≡ false) text texts plain) here,
      subst P joined
          (inner_all code (before ++ text ∷ []) texts behind is (All-tail (λ line. begins_with_digits line ≡ false) text texts plain)
          (let Q : List Text → Type 0 = λ l. AreWithin (l ++ behind) in subst Q (sym joined) within)),
    )

-- a reply as lines that go on, and one that ends it
record IsGathered (code : ℕ) (texts lines : List Text) : Type 0 where
  begun : List Text
  last : Text
  gathered : Gathered
  lines_are : lines ≡ begun ++ last ∷ []
  goes : Gathers Between begun gathered
  says : line_heard gathered last ≡ Says code texts

is_gathered : (code : ℕ) (texts : List Text) → IsCode code → 0 < length texts → AreWithin texts
    → All (λ line. begins_with_digits line ≡ false) (inner_lines texts) → IsGathered code texts (written code texts)
is_gathered code [] is some within plain = absurd (omega (arith, some))
is_gathered code (text ∷ []) is some within plain =
    record { begun = []; last = last_line code text; gathered = Between; lines_are = refl; goes = refl; says = last_alone code text is within }
is_gathered code (first ∷ next ∷ more) is some within plain =
    let cut = cut_after code next more plain in
    let between : List Text = but_last (next ∷ more) in
    let all : first ∷ next ∷ more ≡ (first ∷ between) ++ cut.last ∷ [] = ap (λ l. first ∷ l) cut.lines_are in
    let kept : AreWithin ((first ∷ between) ++ cut.last ∷ []) = subst AreWithin all within in
    record {
      begun = opening_line code first ∷ between;
      last = last_line code cut.last;
      gathered = Begun code (first ∷ between);
      lines_are = ap (λ l. opening_line code first ∷ l) cut.written_are;
      goes = (
        Begun code (first ∷ []),
        opening code first is (front_within (first ∷ []) (next ∷ more) within),
        inner_all code (first ∷ []) between (cut.last ∷ []) is plain kept,
      );
      says = ends code (first ∷ between) cut.last kept ∙ ap (Says code) (sym all);
    }

-- ---- a reply

all_front : (P : Text → Type 0) (xs ys : List Text) → AllByRecursion P (xs ++ ys) → AllByRecursion P xs
all_front P [] ys all = tt
all_front P (x ∷ xs) ys all = (all.0, all_front P xs ys all.1)

all_last : (P : Text → Type 0) (xs : List Text) (y : Text) → AllByRecursion P (xs ++ y ∷ []) → P y
all_last P [] y all = all.0
all_last P (x ∷ xs) y all = all_last P xs y all.1

wire_is : (xs : List Text) (y : Text) → on_wire (xs ++ y ∷ []) ≡ on_wire xs ++ written_line y
wire_is [] y = append-nil (written_line y)
wire_is (x ∷ xs) y = ap (λ l. written_line x ++ l) (wire_is xs y) ∙ sym (append_assoc (written_line x) (on_wire xs) (written_line y))

pub reply_is_heard : ReplyIsHeard
reply_is_heard code texts v is rest =
    let g = is_gathered code texts is.code_is is.some is.within is.plain in
    let carried : AllByRecursion CanBeCarried (g.begun ++ g.last ∷ []) = subst (AllByRecursion CanBeCarried) g.lines_are is.carried in
    let front = all_front CanBeCarried g.begun (g.last ∷ []) carried in
    let last = all_last CanBeCarried g.begun g.last carried in
    let wire : octets_of code texts ≡ on_wire g.begun ++ written_line g.last = ap on_wire g.lines_are ∙ wire_is g.begun g.last in
    let goes : Gathers v.gathered g.begun g.gathered = (let P : Gathered → Type 0 = λ s. Gathers s g.begun g.gathered in subst P (sym rest.gathered) g.goes) in
    let w : View = with_lines g.gathered v in
    let cuts : (fronts backs : List ℕ) (octet : ℕ) → fronts ++ octet ∷ backs ≡ octets_of code texts → OnlyHeard v (hears v fronts) =
    λ fronts backs octet cut. gathered_cut v g.begun g.last g.gathered fronts backs octet front last rest.ear goes (cut ∙ wire) in
    record {
      cut = cuts;
      whole = ap (hears v) wire ∙ in_pieces v (on_wire g.begun) (written_line g.last)
          ∙ ap (λ u. hears u (written_line g.last)) (gathered_whole v g.begun g.gathered front rest.ear goes)
          ∙ (hears_line g.last w last rest.ear).whole ∙ ap (λ h. line_taken h w) g.says
          ∙ ap (λ s. answered code texts (with_lines s v)) (sym rest.gathered);
      may = λ fronts backs octet cut. ap may_hear (cuts fronts backs octet cut).is;
    }

pub fronts_are_alike : FrontsAreAlike
fronts_are_alike code texts front back octet is cut =
    let g = is_gathered code texts is.code_is is.some is.within is.plain in
    let carried : AllByRecursion CanBeCarried (g.begun ++ g.last ∷ []) = subst (AllByRecursion CanBeCarried) g.lines_are is.carried in
    let wire : octets_of code texts ≡ on_wire g.begun ++ written_line g.last = ap on_wire g.lines_are ∙ wire_is g.begun g.last in
    let l = front_leaves Between g.begun g.last g.gathered front back octet (all_front CanBeCarried g.begun (g.last ∷ []) carried)
    (all_last CanBeCarried g.begun g.last carried) g.goes (cut ∙ wire) in
    record { ear = l.ear; gathered = l.gathered; is = λ v rest. l.is v rest.ear rest.gathered }

pub row_is_heard : ClientHearsRow
row_is_heard [] v all rest = refl
row_is_heard ((code, texts) ∷ replies) v all rest =
    let one = reply_is_heard code texts v all.0 rest in
    let behind = flat_map (λ (reply : CodeAndTexts). octets_of reply.0 reply.1) replies in
    in_pieces v (octets_of code texts) behind ∙ ap (λ u. hears u behind) one.whole
    ∙ row_is_heard replies (answered code texts v) all.1 (answered_at_rest code texts v rest)

-- ---- an answer

answer_dropped : (v : View) (octets : List ℕ) → v.ear ≡ quiet → gives (ear reply_limit) quiet octets ≡ [] → after (ear reply_limit) quiet octets ≡ quiet
    → hears v octets ≡ v
answer_dropped v octets rest none leads =
    silence v octets (ap (λ s. gives (ear reply_limit) s octets) rest ∙ none)
    ∙ ap (λ s. with_ear s v) (ap (λ s. after (ear reply_limit) s octets) rest ∙ leads ∙ sym rest)

pub answer_is_dropped_here : ClientDropsAnswer
answer_is_dropped_here octet v rest =
    let both = answer_is_dropped reply_limit octet in
    (answer_dropped v (255 ∷ 252 ∷ octet ∷ []) rest (both.0.front 3) both.0.rest, answer_dropped v (255 ∷ 254 ∷ octet ∷ []) rest (both.1.front 3) both.1.rest)
