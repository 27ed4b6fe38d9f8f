-- What one call lends.
use Rattle.std.proofs.Common.{inl, inr, ◌≡◌, ◌≢◌, ℕ, zero, suc, ◌+◌, ◌-◌, ◌<◌, ◌≤◌, List, [], ◌∷◌, ◌++◌, true, false, ◌==◌, length, take, drop, get_or, map, if◌then◌else◌, refl, ap, sym, subst, ◌∙◌, arith, append-nil, length-append, length-drop}
use Rattle.std.specs.List.{AllByRecursion}
use Rattle.std.proofs.lemmas.Bool.{eqb-true}
use Rattle.std.proofs.lemmas.List.{map-append, length-map, length-take-le, take-append-drop, take-map, take-take, drop-map}
use Rattle.std.proofs.Math.Seq.{take-length}
use Rattle.ftp_pieces.specs.Machine.{after, gives}
use Rattle.ftp_pieces.proofs.MachineLemmas.{after-append, gives-append}
use Rattle.ftp_settings.specs.Representation.{Form}
use Rattle.ftp_repr.specs.Signs.{Sign, octet}
use Rattle.ftp_repr.specs.Items.{signs}
use Rattle.ftp_repr.specs.Runs.{IsRun}
use Rattle.ftp_repr.specs.Receiving.{receiving, ascii_gives}
use Rattle.ftp_repr.specs.Received.{Lends, SignsLackRoom, settled_by, lent_octets, receiver_form, taking_at_stage}
use Rattle.ftp_repr.specs.declared.item.Lent.{Lent}
use Rattle.ftp_repr.specs.declared.receiver.Receiver.{Receiver}
use Rattle.ftp_repr.specs.declared.receiver.Stage.TheVariants.{Settled, Held, Over}
use Rattle.ftp_settings.specs.declared.representation.Kind.TheVariants.{Ascii, Image}
use Rattle.ftp_repr.proofs.AsciiLemmas.{decided}
use Rattle.ftp_repr.proofs.ReceivingLemmas.{held_at, ended_at, goes}
use Rattle.ftp_repr.proofs.RunLemmas.{run_ascii, run_image, receiving_over}

all_front : (P : ℕ → Type 0) (i : ℕ) (w : List ℕ) → AllByRecursion P w → AllByRecursion P (take i w)
all_front P zero w all = tt
all_front P (suc i) [] all = tt
all_front P (suc i) (c ∷ w) all = (all.0, all_front P i w all.1)

nothing : {A : Type 0} (xs : List A) → length xs ≡ 0 → xs ≡ []
nothing [] e = refl
nothing (x ∷ xs) e = absurd (omega arith)

-- ---- a run

-- the first octets of a piece go as they are
abbrev GoAs : Receiver → List ℕ → ℕ → Type 0
GoAs a piece n = (k : ℕ) → k ≤ n →
    (after (receiving (receiver_form a)) (taking_at_stage a) (take k (map octet piece)) ≡ taking_at_stage a) × (settled_by a (take k (map octet piece)) ≡ take k piece)

ascii_goes : (a : Receiver) (piece : List ℕ) (n : ℕ) → a.kind ≡ Ascii → a.stage ≡ Settled → AllByRecursion (λ c. (c == 13) ≡ false) (take n piece) → GoAs a piece n
ascii_goes a piece n ascii stage all k few =
    let P : ℕ → Type 0 = λ c. (c == 13) ≡ false in
    let front : AllByRecursion P (take k piece) = subst (AllByRecursion P) (take-take k n piece few) (all_front P k (take n piece) all) in
    let run = run_ascii (receiver_form a) (taking_at_stage a) (take k piece) ascii (ap held_at stage) (ap ended_at stage) front in
    (ap (after (receiving (receiver_form a)) (taking_at_stage a)) (take-map octet k piece) ∙ run.0, ap (settled_by a) (take-map octet k piece) ∙ run.1)

image_goes : (a : Receiver) (piece : List ℕ) (n : ℕ) → a.kind ≡ Image → a.stage ≢ Over → GoAs a piece n
image_goes a piece n image going k few =
    let run = run_image (receiver_form a) (taking_at_stage a) (take k piece) image (goes a.stage going) in
    (ap (after (receiving (receiver_form a)) (taking_at_stage a)) (take-map octet k piece) ∙ run.0, ap (settled_by a) (take-map octet k piece) ∙ run.1)

front_len : (a : Receiver) (piece : List ℕ) (n k : ℕ) → GoAs a piece n → n ≤ length piece → k ≤ n → length (settled_by a (take k (map octet piece))) ≡ k
front_len a piece n k runs within few = ap length (runs k few).1 ∙ length-take-le k piece (omega (arith, within, few))

-- a run that is the whole piece
pub all_lends : (a : Receiver) (piece : List ℕ) (n : ℕ) (lent : Lent) → GoAs a piece n → n ≡ length piece
    → lent.with_return ≡ false → lent.octets.now ≡ take n piece → lent.taken ≡ n → signs lent.rest ≡ [] → Lends a (map octet piece) lent a
all_lends a piece n lent runs full plain octets taken rest =
    let size = length-map piece octet in
    let lone : lent_octets lent ≡ take n piece = ap (λ b. (if b then 13 ∷ [] else []) ++ lent.octets.now) plain ∙ octets in
    let long : length (lent_octets lent) ≡ n = ap length lone ∙ length-take-le n piece (omega (arith, full)) in
    record {
      form = refl;
      within = omega (arith, taken, size, full);
      some = λ some. omega (arith, taken, size, full, some);
      rest = rest ∙ sym (nothing (drop lent.taken (map octet piece)) (omega (arith, taken, size, full, length-drop lent.taken (map octet piece))));
      state = sym (ap (λ k. after (receiving (receiver_form a)) (taking_at_stage a) (take k (map octet piece))) taken ∙ (runs n (omega arith)).0);
      settles = lone ∙ sym (ap (λ k. settled_by a (take k (map octet piece))) taken ∙ (runs n (omega arith)).1);
      no_sooner = λ k less.
          let few : k ≤ n = omega (arith, less, long) in
          let len = ap (λ b. length (settled_by a (take (if b then k - 1 else k) (map octet piece)))) plain ∙ front_len a piece n k runs (omega (arith, full)) few in
          omega (arith, len);
      no_later = λ k less.
          let few : k + 1 ≤ n = omega (arith, less, long) in
          let len = ap (λ b. length (settled_by a (take ((if b then k - 1 else k) + 1) (map octet piece)))) plain ∙ front_len a piece n (k + 1) runs (omega (arith, full)) few in
          omega (arith, len);
    }

pub whole_lends : (a : Receiver) (piece : List ℕ) (n : ℕ) (lent : Lent) → a.kind ≡ Ascii → a.stage ≡ Settled → IsRun (λ c. c == 13) piece n → n ≡ length piece
    → lent.with_return ≡ false → lent.octets.now ≡ take n piece → lent.taken ≡ n → signs lent.rest ≡ [] → Lends a (map octet piece) lent a
whole_lends a piece n lent ascii stage run full plain octets taken rest =
    all_lends a piece n lent (ascii_goes a piece n ascii stage run.others) full plain octets taken rest

-- in type I all is lent
pub image_lends : (a : Receiver) (piece : List ℕ) (lent : Lent) → a.kind ≡ Image → a.stage ≢ Over → lent.with_return ≡ false → lent.octets.now ≡ piece
    → lent.taken ≡ length piece → signs lent.rest ≡ [] → Lends a (map octet piece) lent a
image_lends a piece lent image going plain octets taken rest =
    all_lends a piece (length piece) lent (image_goes a piece (length piece) image going) refl plain (octets ∙ sym (take-length piece)) taken rest

first_behind : (piece : List ℕ) (n : ℕ) → n < length piece → take (suc n) piece ≡ take n piece ++ get_or piece n 0 ∷ []
first_behind [] n less = absurd (omega arith)
first_behind (c ∷ piece) zero less = refl
first_behind (c ∷ piece) (suc n) less = ap (λ l. c ∷ l) (first_behind piece n (omega arith))

-- a CR is held from then on
abbrev pub holding : Receiver → Receiver
holding a = record a { stage = Held }

cr_step : (a : Receiver) → a.kind ≡ Ascii → a.stage ≡ Settled → (receiving (receiver_form a)).step (taking_at_stage a) (octet 13) ≡ taking_at_stage (holding a)
cr_step a ascii stage = rw (ascii, stage) refl

cr_out : (a : Receiver) → a.kind ≡ Ascii → a.stage ≡ Settled → (receiving (receiver_form a)).out (taking_at_stage a) (octet 13) ≡ []
cr_out a ascii stage = rw (ascii, stage) refl

-- a run and the CR behind it
pub held_lends : (a : Receiver) (piece : List ℕ) (n : ℕ) (lent : Lent) → a.kind ≡ Ascii → a.stage ≡ Settled → IsRun (λ c. c == 13) piece n → n < length piece
    → lent.with_return ≡ false → lent.octets.now ≡ take n piece → lent.taken ≡ n + 1 → signs lent.rest ≡ map octet (drop (n + 1) piece)
    → Lends a (map octet piece) lent (holding a)
held_lends a piece n lent ascii stage run less plain octets taken rest =
    let m = receiving (receiver_form a) in
    let runs = ascii_goes a piece n ascii stage run.others in
    let all = runs n (omega arith) in
    let size = length-map piece octet in
    let lone : lent_octets lent ≡ take n piece = ap (λ b. (if b then 13 ∷ [] else []) ++ lent.octets.now) plain ∙ octets in
    let long : length (lent_octets lent) ≡ n = ap length lone ∙ length-take-le n piece run.within in
    let cr : get_or piece n 0 ≡ 13 = eqb-true (get_or piece n 0) 13 (run.next less) in
    let next : n + 1 ≡ suc n = omega arith in
    let front : take lent.taken (map octet piece) ≡ take n (map octet piece) ++ octet 13 ∷ [] =
    ap (λ k. take k (map octet piece)) (taken ∙ next) ∙ take-map octet (suc n) piece ∙ ap (map octet) (first_behind piece n less ∙ ap (λ c. take n piece ++ c ∷ []) cr)
    ∙ map-append octet (take n piece) (13 ∷ []) ∙ ap (λ l. l ++ octet 13 ∷ []) (sym (take-map octet n piece)) in
    record {
      form = refl;
      within = omega (arith, taken, size, less);
      some = λ some. omega (arith, taken);
      rest = rest ∙ sym (ap (λ k. drop k (map octet piece)) taken ∙ drop-map octet (n + 1) piece);
      state = sym (ap (after m (taking_at_stage a)) front ∙ after-append m (taking_at_stage a) (take n (map octet piece)) (octet 13 ∷ [])
          ∙ ap (λ t. m.step t (octet 13)) all.0 ∙ cr_step a ascii stage);
      settles = lone ∙ sym (ap (settled_by a) front ∙ gives-append m (taking_at_stage a) (take n (map octet piece)) (octet 13 ∷ [])
          ∙ ap (λ t. settled_by a (take n (map octet piece)) ++ (m.out t (octet 13) ++ [])) all.0
          ∙ ap (λ l. settled_by a (take n (map octet piece)) ++ (l ++ [])) (cr_out a ascii stage)
          ∙ append-nil (settled_by a (take n (map octet piece))) ∙ all.1);
      no_sooner = λ k few.
          let less : k ≤ n = omega (arith, few, long) in
          let len = ap (λ b. length (settled_by a (take (if b then k - 1 else k) (map octet piece)))) plain ∙ front_len a piece n k runs run.within less in
          omega (arith, len);
      no_later = λ k few.
          let less : k + 1 ≤ n = omega (arith, few, long) in
          let len = ap (λ b. length (settled_by a (take ((if b then k - 1 else k) + 1) (map octet piece)))) plain ∙ front_len a piece n (k + 1) runs run.within less in
          omega (arith, len);
    }

-- ---- behind a CR that is held

-- as if none were held
abbrev pub free : Receiver → Receiver
free a = record a { stage = Settled }

line_after : (a : Receiver) (ss : List Sign) → a.kind ≡ Ascii → a.stage ≡ Held
    → after (receiving (receiver_form a)) (taking_at_stage a) (octet 10 ∷ ss) ≡ after (receiving (receiver_form (free a))) (taking_at_stage (free a)) (octet 10 ∷ ss)
line_after a ss ascii held = rw (ascii, held) refl

line_gives : (a : Receiver) (ss : List Sign) → a.kind ≡ Ascii → a.stage ≡ Held → settled_by a (octet 10 ∷ ss) ≡ settled_by (free a) (octet 10 ∷ ss)
line_gives a ss ascii held = rw (ascii, held) refl

front_after : (a : Receiver) (ss : List Sign) (k : ℕ) → 0 < k → a.kind ≡ Ascii → a.stage ≡ Held
    → after (receiving (receiver_form a)) (taking_at_stage a) (take k (octet 10 ∷ ss)) ≡ after (receiving (receiver_form (free a))) (taking_at_stage (free a)) (take k (octet 10 ∷ ss))
front_after a ss zero some ascii held = absurd (omega arith)
front_after a ss (suc k) some ascii held = line_after a (take k ss) ascii held

front_gives : (a : Receiver) (ss : List Sign) (k : ℕ) → a.kind ≡ Ascii → a.stage ≡ Held
    → settled_by a (take k (octet 10 ∷ ss)) ≡ settled_by (free a) (take k (octet 10 ∷ ss))
front_gives a ss zero ascii held = refl
front_gives a ss (suc k) ascii held = line_gives a (take k ss) ascii held

feed_at : (a new : Receiver) (ss : List Sign) (lent : Lent) → a.kind ≡ Ascii → a.stage ≡ Held
    → Lends (free a) (octet 10 ∷ ss) lent new → Lends a (octet 10 ∷ ss) lent new
feed_at a new ss lent ascii held lends = record {
  form = lends.form;
  within = lends.within;
  some = lends.some;
  rest = lends.rest;
  state = lends.state ∙ sym (front_after a ss lent.taken (lends.some (omega arith)) ascii held);
  settles = lends.settles ∙ sym (front_gives a ss lent.taken ascii held);
  no_sooner = λ k less. omega (arith, lends.no_sooner k less, ap length (front_gives a ss (if lent.with_return then k - 1 else k) ascii held));
  no_later = λ k less. omega (arith, lends.no_later k less, ap length (front_gives a ss ((if lent.with_return then k - 1 else k) + 1) ascii held));
}

-- an LF: the CR is gone
pub feed_lends : (a new : Receiver) (piece : List ℕ) (lent : Lent) → 0 < length piece → get_or piece 0 0 ≡ 10 → a.kind ≡ Ascii → a.stage ≡ Held
    → Lends (free a) (map octet piece) lent new → Lends a (map octet piece) lent new
feed_lends a new [] lent some feed ascii held lends = absurd (omega arith)
feed_lends a new (c ∷ piece) lent some feed ascii held lends =
    let P : ℕ → Type 0 = λ x. Lends (free a) (map octet (x ∷ piece)) lent new → Lends a (map octet (x ∷ piece)) lent new in
    let there : P 10 = λ l. feed_at a new (map octet piece) lent ascii held l in
    subst P (sym feed) there lends

-- another octet: the CR is itself
lone_step : (a : Receiver) (c : ℕ) → a.kind ≡ Ascii → a.stage ≡ Held
    → (receiving (receiver_form a)).step (taking_at_stage a) (octet c) ≡ (receiving (receiver_form (free a))).step (taking_at_stage (free a)) (octet c)
lone_step a c ascii held = rw (ascii, held) refl

lone_gives : (c : ℕ) → (c == 10) ≡ false → (c == 0) ≡ false → ascii_gives true c ≡ 13 ∷ ascii_gives false c
lone_gives c feed null = elim (decided (c == 13)) [ inl e ↦ rw (feed, null, e) refl | inr e ↦ rw (feed, null, e) refl ]

lone_out : (a : Receiver) (c : ℕ) → a.kind ≡ Ascii → a.stage ≡ Held → (c == 10) ≡ false → (c == 0) ≡ false
    → (receiving (receiver_form a)).out (taking_at_stage a) (octet c) ≡ 13 ∷ (receiving (receiver_form (free a))).out (taking_at_stage (free a)) (octet c)
lone_out a c ascii held feed null = rw (ascii, held) (lone_gives c feed null)

lone_front : (a : Receiver) (c : ℕ) (ss : List Sign) (k : ℕ) → a.kind ≡ Ascii → a.stage ≡ Held → (c == 10) ≡ false → (c == 0) ≡ false → 0 < k
    → (after (receiving (receiver_form a)) (taking_at_stage a) (take k (octet c ∷ ss)) ≡ after (receiving (receiver_form (free a))) (taking_at_stage (free a)) (take k (octet c ∷ ss)))
    × (settled_by a (take k (octet c ∷ ss)) ≡ 13 ∷ settled_by (free a) (take k (octet c ∷ ss)))
lone_front a c ss zero ascii held feed null some = absurd (omega arith)
lone_front a c ss (suc k) ascii held feed null some =
    let m = receiving (receiver_form a) in (
      ap (λ t. after m t (take k ss)) (lone_step a c ascii held),
      ap (λ l. l ++ gives m (m.step (taking_at_stage a) (octet c)) (take k ss)) (lone_out a c ascii held feed null)
          ∙ ap (λ t. 13 ∷ (m.out (taking_at_stage (free a)) (octet c) ++ gives m t (take k ss))) (lone_step a c ascii held),
    )

sooner_by : (a : Receiver) (c : ℕ) (ss : List Sign) (j k : ℕ) → a.kind ≡ Ascii → a.stage ≡ Held → (c == 10) ≡ false → (c == 0) ≡ false → j ≡ k - 1
    → (0 < j → length (settled_by (free a) (take j (octet c ∷ ss))) ≤ j) → length (settled_by a (take j (octet c ∷ ss))) ≤ k
sooner_by a c ss zero k ascii held feed null is few = omega arith
sooner_by a c ss (suc j) k ascii held feed null is few =
    omega (arith, is, few (omega arith), ap length (lone_front a c ss (suc j) ascii held feed null (omega arith)).1)

plain_comes : (r : Receiver) (ss : List Sign) (lent : Lent) (k more : ℕ) → lent.with_return ≡ false
    → length (settled_by r (take ((if lent.with_return then k - 1 else k) + more) ss)) ≡ length (settled_by r (take (k + more) ss))
plain_comes r ss lent k more plain = ap (λ b. length (settled_by r (take ((if b then k - 1 else k) + more) ss))) plain

later_by : (a : Receiver) (c : ℕ) (ss : List Sign) (new : Receiver) (lent : Lent) (k : ℕ) → lent.with_return ≡ false → Lends (free a) (octet c ∷ ss) lent new
    → k < 1 + length (lent_octets lent) → k ≤ length (settled_by (free a) (take (k - 1 + 1) (octet c ∷ ss)))
later_by a c ss new lent zero plain lends less = omega arith
later_by a c ss new lent (suc k) plain lends less =
    let there = lends.no_later k (omega (arith, less)) in
    let same = plain_comes (free a) (octet c ∷ ss) lent k 1 plain in
    let place : suc k - 1 + 1 ≡ k + 1 = omega arith in
    omega (arith, there, same, ap (λ n. length (settled_by (free a) (take n (octet c ∷ ss)))) place)

lone_at : (a new : Receiver) (c : ℕ) (ss : List Sign) (lent : Lent) → a.kind ≡ Ascii → a.stage ≡ Held → (c == 10) ≡ false → (c == 0) ≡ false
    → lent.with_return ≡ false → Lends (free a) (octet c ∷ ss) lent new → Lends a (octet c ∷ ss) (record lent { with_return = true }) new
lone_at a new c ss lent ascii held feed null plain lends =
    let front : (k : ℕ) → 0 < k → _ = λ k some. lone_front a c ss k ascii held feed null some in
    let taken = lends.some (omega arith) in
    let lone : lent_octets lent ≡ lent.octets.now = ap (λ b. (if b then 13 ∷ [] else []) ++ lent.octets.now) plain in
    let long = ap length lone in
    let later : (k : ℕ) → k < length (13 ∷ lent.octets.now) → k ≤ length (settled_by (free a) (take (k - 1 + 1) (octet c ∷ ss))) = λ k less.
    later_by a c ss new lent k plain lends (omega (arith, less, long)) in
    record {
      form = lends.form;
      within = lends.within;
      some = lends.some;
      rest = lends.rest;
      state = lends.state ∙ sym (front lent.taken taken).0;
      settles = ap (λ l. 13 ∷ l) (sym lone ∙ lends.settles) ∙ sym (front lent.taken taken).1;
      no_sooner = λ k less. sooner_by a c ss (k - 1) k ascii held feed null refl (λ some.
          let sooner = lends.no_sooner (k - 1) (omega (arith, less, long, some)) in
          let same = ap (λ b. length (settled_by (free a) (take (if b then k - 1 - 1 else k - 1) (octet c ∷ ss)))) plain in
          omega (arith, sooner, same));
      no_later = λ k less. omega (arith, later k less, ap length (front (k - 1 + 1) (omega arith)).1);
    }

pub lone_lends : (a new : Receiver) (piece : List ℕ) (lent : Lent) → 0 < length piece → (get_or piece 0 0 == 10) ≡ false → (get_or piece 0 0 == 0) ≡ false
    → a.kind ≡ Ascii → a.stage ≡ Held → lent.with_return ≡ false → Lends (free a) (map octet piece) lent new
    → Lends a (map octet piece) (record lent { with_return = true }) new
lone_lends a new [] lent some feed null ascii held plain lends = absurd (omega arith)
lone_lends a new (c ∷ piece) lent some feed null ascii held plain lends = lone_at a new c (map octet piece) lent ascii held feed null plain lends

-- behind the end nothing is lent
pub over_lends : (a : Receiver) (ss : List Sign) (lent : Lent) → a.stage ≡ Over → lent.with_return ≡ false → lent.octets.now ≡ [] → lent.taken ≡ length ss
    → signs lent.rest ≡ [] → Lends a ss lent a
over_lends a ss lent over plain octets taken rest =
    let none = receiving_over (receiver_form a) (taking_at_stage a) (take lent.taken ss) (ap ended_at over) in
    let lone : lent_octets lent ≡ [] = ap (λ b. (if b then 13 ∷ [] else []) ++ lent.octets.now) plain ∙ octets in
    let long : length (lent_octets lent) ≡ 0 = ap length lone in
    record {
      form = refl;
      within = omega (arith, taken);
      some = λ some. omega (arith, taken, some);
      rest = rest ∙ sym (nothing (drop lent.taken ss) (omega (arith, taken, length-drop lent.taken ss)));
      state = sym none.0;
      settles = lone ∙ sym none.1;
      no_sooner = λ k less. absurd (omega (arith, less, long));
      no_later = λ k less. absurd (omega (arith, less, long));
    }

-- ---- what is left of the row

pub lends_rest : (a b : Receiver) (ss : List Sign) (lent : Lent) → Lends a ss lent b
    → (after (receiving (receiver_form a)) (taking_at_stage a) ss ≡ after (receiving (receiver_form b)) (taking_at_stage b) (signs lent.rest))
    × (settled_by a ss ≡ lent_octets lent ++ settled_by b (signs lent.rest))
lends_rest a b ss lent lends =
    let m = receiving (receiver_form a) in
    let front = take lent.taken ss in
    let back = drop lent.taken ss in
    let cut = take-append-drop lent.taken ss in
    let P : Form → Type 0 = λ f. (after m (taking_at_stage b) (signs lent.rest) ≡ after (receiving f) (taking_at_stage b) (signs lent.rest))
    × (gives m (taking_at_stage b) (signs lent.rest) ≡ gives (receiving f) (taking_at_stage b) (signs lent.rest)) in
    let there : P (receiver_form b) = subst P (sym lends.form) (refl, refl) in (
      ap (after m (taking_at_stage a)) (sym cut) ∙ after-append m (taking_at_stage a) front back ∙ ap (λ t. after m t back) (sym lends.state)
          ∙ ap (after m (taking_at_stage b)) (sym lends.rest) ∙ there.0,
      ap (settled_by a) (sym cut) ∙ gives-append m (taking_at_stage a) front back ∙ ap (λ t. settled_by a front ++ gives m t back) (sym lends.state)
          ∙ ap (λ l. settled_by a front ++ gives m (taking_at_stage b) l) (sym lends.rest)
          ∙ ap (λ l. l ++ gives m (taking_at_stage b) (signs lent.rest)) (sym lends.settles)
          ∙ ap (λ l. lent_octets lent ++ l) there.1,
    )

-- what has no room: so much was put, and this is refused
pub no_room_part : (a : Receiver) (ss : List Sign) (lent x y more : List ℕ) (first last : ℕ)
    → x ++ settled_by a ss ≡ y ++ (lent ++ more) → first ≤ last → last < length y + length lent → SignsLackRoom a ss first (length x)
no_room_part a ss lent x y more first last same grown full =
    let all = ap length same in
    omega (arith, grown, full, all, length-append x (settled_by a ss), length-append y (lent ++ more), length-append lent more)
