-- A line in flight: what an ear makes of each octet of it.
use Rattle.std.proofs.Common.{◌≡◌, ℕ, ◌+◌, ◌-◌, ◌<◌, ◌≤◌, List, [], ◌∷◌, ◌++◌, false, ◌==◌, inl, inr, refl, sym, ap, subst, ◌∙◌, append_assoc, append-nil, arith, length, length-append, take, ne_eqb, eqb-true, lt_irrefl}
use Rattle.std.specs.Prelude.{cond, zero, suc}
use Rattle.std.specs.List.{flat_map}
use Rattle.std.proofs.Math.Seq.{take-append_seam}
use Rattle.std.proofs.lemmas.List.Sums.{sum_by-cons}
use Rattle.ftp_nvt.specs.Lines.{NvtEvent, line, IsNoneOf, written_octet, written_line}
use Rattle.ftp_nvt.specs.Telnet.{data_octet, unit_ended, place_behind, bare_of}
use Rattle.ftp_nvt.specs.declared.line.Stage.TheVariants.{Inside, AfterReturn}
use Rattle.ftp_nvt.specs.declared.telnet.TelnetState.TheVariants as At
use Rattle.ftp_nvt.proofs.CutLemmas.{decided}
use Rattle.ftp_pieces.specs.Machine.{IsFront, after, gives}
use Rattle.ftp_nvt.proofs.ReaderLemmas.{same_ear}
use Rattle.ftp_pieces.proofs.MachineLemmas.{after-append, gives-append, gives-front}
use Rattle.ftp_ends.specs.Ear.{Ear, Unfinished, quiet, no_line, within_step, within_out, line_step, line_out, liner, unit_says, ear, ear_step, ear_out, line_len, EarHearsEachLine, EarDropsAnswer}

-- ---- octets of which nothing is said

-- an ear between two units, in a line
abbrev pub between : Unfinished → Ear
between u = record { place = At.Between; line = u }

-- a line of so many octets, which say this text, the last of them no CR
abbrev pub inside : ℕ → List ℕ → Unfinished
inside count said = record { stage = Inside; count = count; text = said }

-- the same, and a CR behind it
abbrev pub returned : ℕ → List ℕ → Unfinished
returned count said = record { stage = AfterReturn; count = count + 1; text = said ++ 13 ∷ [] }

-- nothing is said of these octets, and they lead here
pub record Keeps (limit : ℕ) (e : Ear) (octets : List ℕ) (new : Ear) : Type 0 where
  pub leads : after (ear limit) e octets ≡ new
  pub says : gives (ear limit) e octets ≡ []

pub keeps_both : (limit : ℕ) (e f g : Ear) (xs ys : List ℕ) → Keeps limit e xs f → Keeps limit f ys g → Keeps limit e (xs ++ ys) g
keeps_both limit e f g xs ys one other = record {
  leads = after-append (ear limit) e xs ys ∙ ap (λ s. after (ear limit) s ys) one.leads ∙ other.leads;
  says = gives-append (ear limit) e xs ys ∙ ap (λ l. l ++ gives (ear limit) (after (ear limit) e xs) ys) one.says
      ∙ ap (λ s. gives (ear limit) s ys) one.leads ∙ other.says;
}

-- an octet that is a unit by itself
data_keeps : (limit c : ℕ) (u new : Unfinished) → (c == 255) ≡ false → line_step limit u.stage u c ≡ new → line_out limit u.stage u c ≡ []
    → Keeps limit (between u) (c ∷ []) (between new)
data_keeps limit c u new plain step out =
    let place : place_behind At.Between c ≡ At.Between = rw plain refl in
    let unit : unit_ended At.Between c ≡ data_octet c ∷ [] = rw plain refl in
    let moved : after (liner limit) u (flat_map bare_of (unit_ended At.Between c)) ≡ new =
    ap (λ us. after (liner limit) u (flat_map bare_of us)) unit ∙ step in
    let said : flat_map (unit_says limit u) (unit_ended At.Between c) ≡ [] =
    ap (flat_map (unit_says limit u)) unit ∙ ap (λ (l : List NvtEvent). ((l ++ []) ++ []) ++ []) out in
    record {
      leads = same_ear (place_behind At.Between c) At.Between (after (liner limit) u (flat_map bare_of (unit_ended At.Between c))) new place moved;
      says = ap (λ (l : List NvtEvent). l ++ []) said;
    }

-- a doubled 255
doubled_keeps : (limit : ℕ) (u new : Unfinished) → line_step limit u.stage u 255 ≡ new → line_out limit u.stage u 255 ≡ []
    → Keeps limit (between u) (255 ∷ 255 ∷ []) (between new)
doubled_keeps limit u new step out = record {
  leads = same_ear At.Between At.Between (line_step limit u.stage u 255) new refl step;
  says = ap (λ (l : List NvtEvent). (((l ++ []) ++ []) ++ []) ++ []) out;
}

-- ---- the octets of a text

below : (limit count : ℕ) → count < limit → (count == limit) ≡ false
below limit count small = ne_eqb count limit (λ e. lt_irrefl limit (omega arith))

plain_keeps : (limit count c : ℕ) (said : List ℕ) → count < limit → (c == 255) ≡ false → (c == 13) ≡ false → (c == 10) ≡ false
    → Keeps limit (between (inside count said)) (c ∷ []) (between (inside (count + 1) (said ++ c ∷ [])))
plain_keeps limit count c said small plain no_return no_feed =
    let room = below limit count small in
    let step : within_step limit (inside count said) c ≡ inside (count + 1) (said ++ c ∷ []) = rw (room, no_feed, no_return) refl in
    let out : within_out limit (inside count said) c ≡ [] = rw (room, no_feed) refl in
    data_keeps limit c (inside count said) (inside (count + 1) (said ++ c ∷ [])) plain step out

escape_keeps : (limit count : ℕ) (said : List ℕ) → count < limit
    → Keeps limit (between (inside count said)) (255 ∷ 255 ∷ []) (between (inside (count + 1) (said ++ 255 ∷ [])))
escape_keeps limit count said small =
    let room = below limit count small in
    let step : within_step limit (inside count said) 255 ≡ inside (count + 1) (said ++ 255 ∷ []) = rw room refl in
    let out : within_out limit (inside count said) 255 ≡ [] = rw room refl in
    doubled_keeps limit (inside count said) (inside (count + 1) (said ++ 255 ∷ [])) step out

pub return_keeps : (limit count : ℕ) (said : List ℕ) → count < limit → Keeps limit (between (inside count said)) (13 ∷ []) (between (returned count said))
return_keeps limit count said small =
    let room = below limit count small in
    let step : within_step limit (inside count said) 13 ≡ returned count said = rw room refl in
    let out : within_out limit (inside count said) 13 ≡ [] = rw room refl in
    data_keeps limit 13 (inside count said) (returned count said) refl step out

nul_keeps : (limit count : ℕ) (said : List ℕ) → count + 1 < limit
    → Keeps limit (between (returned count said)) (0 ∷ []) (between (inside (count + 2) (said ++ 13 ∷ [])))
nul_keeps limit count said small =
    let room = below limit (count + 1) small in
    let step : within_step limit (returned count said) 0 ≡ inside (count + 1 + 1) (said ++ 13 ∷ []) = rw room refl in
    let out : within_out limit (returned count said) 0 ≡ [] = rw room refl in
    let two : count + 1 + 1 ≡ count + 2 = omega arith in
    let last = ap (λ n. inside n (said ++ 13 ∷ [])) two in
    data_keeps limit 0 (returned count said) (inside (count + 2) (said ++ 13 ∷ [])) refl (step ∙ last) out

-- how many octets of its line one octet of a text takes
abbrev pub taken_by : ℕ → ℕ
taken_by c = 1 + cond (c == 13) 1 0

line_len-cons : (c : ℕ) (text : List ℕ) → line_len (c ∷ text) ≡ taken_by c + line_len text
line_len-cons c text = omega (arith, sum_by-cons (λ (o : ℕ). cond (o == 13) 1 0) c text)

octet_keeps : (limit count c : ℕ) (said : List ℕ) → (c == 10) ≡ false → count + taken_by c ≤ limit
    → Keeps limit (between (inside count said)) (written_octet c) (between (inside (count + taken_by c) (said ++ c ∷ [])))
octet_keeps limit count c said no_feed room =
    elim (decided (c == 255)) [
      | inl e ↦
          let is : 255 ≡ c = sym (eqb-true c 255 e) in
          let P : ℕ → Type 0 = λ d. count + taken_by d ≤ limit → Keeps limit (between (inside count said)) (written_octet d) (between (inside (count + taken_by d) (said ++ d ∷ []))) in
          subst P is (λ fits. escape_keeps limit count said (omega (arith, fits))) room
      | inr e ↦
          elim (decided (c == 13)) [
            | inl f ↦
                let is : 13 ≡ c = sym (eqb-true c 13 f) in
                let P : ℕ → Type 0 = λ d. count + taken_by d ≤ limit → Keeps limit (between (inside count said)) (written_octet d) (between (inside (count + taken_by d) (said ++ d ∷ []))) in
                subst P is (λ fits.
                keeps_both limit (between (inside count said)) (between (returned count said)) (between (inside (count + 2) (said ++ 13 ∷ []))) (13 ∷ []) (0 ∷ [])
                (return_keeps limit count said (omega (arith, fits))) (nul_keeps limit count said (omega (arith, fits)))) room
            | inr f ↦
                let alone : written_octet c ≡ c ∷ [] = rw (e, f) refl in
                let one : taken_by c ≡ 1 = rw f refl in
                let P : List ℕ → ℕ → Type 0 = λ octets n. Keeps limit (between (inside count said)) octets (between (inside (count + n) (said ++ c ∷ []))) in
                subst (λ octets. P octets (taken_by c)) (sym alone)
                (subst (P (c ∷ [])) (sym one) (plain_keeps limit count c said (omega (arith, one, room)) e f no_feed))
          ]
    ]

text_keeps : (limit count : ℕ) (text said : List ℕ) → IsNoneOf 10 text → count + line_len text ≤ limit
    → Keeps limit (between (inside count said)) (flat_map written_octet text) (between (inside (count + line_len text) (said ++ text)))
text_keeps limit count [] said no_feed room =
    let all = sym (append-nil said) in
    let none : count ≡ count + line_len [] = omega arith in
    let same : between (inside count said) ≡ between (inside (count + line_len []) (said ++ [])) = λ i. between (inside (none i) (all i)) in
    record { leads = same; says = refl }
text_keeps limit count (c ∷ cs) said no_feed room =
    let more = line_len-cons c cs in
    let first = octet_keeps limit count c said no_feed.0 (omega (arith, more, room)) in
    let rest = text_keeps limit (count + taken_by c) cs (said ++ c ∷ []) no_feed.1 (omega (arith, more, room)) in
    let counted : (count + taken_by c) + line_len cs ≡ count + line_len (c ∷ cs) = omega (arith, more) in
    let joined : (said ++ c ∷ []) ++ cs ≡ said ++ c ∷ cs = append_assoc said (c ∷ []) cs in
    let both = keeps_both limit (between (inside count said)) (between (inside (count + taken_by c) (said ++ c ∷ [])))
    (between (inside ((count + taken_by c) + line_len cs) ((said ++ c ∷ []) ++ cs))) (written_octet c) (flat_map written_octet cs) first rest in
    record { leads = both.leads ∙ (λ i. between (inside (counted i) (joined i))); says = both.says }

-- ---- a line, and fronts of it

without_last : (said : List ℕ) (c : ℕ) → take (length (said ++ c ∷ []) - 1) (said ++ c ∷ []) ≡ said
without_last said c =
    let n : length (said ++ c ∷ []) - 1 ≡ length said = omega (arith, length-append said (c ∷ [])) in
    ap (λ m. take m (said ++ c ∷ [])) n ∙ take-append_seam said (c ∷ [])

-- what the LF behind a CR says, and where it leads
pub record Ends (limit : ℕ) (e : Ear) (text : List ℕ) : Type 0 where
  pub leads : ear_step limit e 10 ≡ quiet
  pub says : ear_out limit e 10 ≡ line text ∷ []

feed_ends : (limit count : ℕ) (said : List ℕ) → count + 1 < limit → Ends limit (between (returned count said)) said
feed_ends limit count said small =
    let room = below limit (count + 1) small in
    let step : within_step limit (returned count said) 10 ≡ no_line = rw room refl in
    let out : within_out limit (returned count said) 10 ≡ line (take (length (said ++ 13 ∷ []) - 1) (said ++ 13 ∷ [])) ∷ [] = rw room refl in
    record {
      leads = same_ear At.Between At.Between (within_step limit (returned count said) 10) no_line refl step;
      says = ap (λ (l : List NvtEvent). ((l ++ []) ++ []) ++ []) out ∙ ap (λ l. line l ∷ []) (without_last said 13);
    }

-- a line without its LF
abbrev pub unended : List ℕ → List ℕ
unended text = flat_map written_octet text ++ 13 ∷ []

-- a line as its last octet ends it
pub record Closes (limit : ℕ) (text : List ℕ) : Type 0 where
  pub kept : Ear
  pub keeps : Keeps limit quiet (unended text) kept
  pub ends : Ends limit kept text

pub line_closes : (limit : ℕ) (text : List ℕ) → IsNoneOf 10 text → line_len text + 2 ≤ limit → Closes limit text
line_closes limit text no_feed fits =
    let body = text_keeps limit 0 text [] no_feed (omega (arith, fits)) in
    let behind = inside (0 + line_len text) text in
    record {
      kept = between (returned (0 + line_len text) text);
      keeps = keeps_both limit quiet (between behind) (between (returned (0 + line_len text) text)) (flat_map written_octet text) (13 ∷ []) body
          (return_keeps limit (0 + line_len text) text (omega (arith, fits)));
      ends = feed_ends limit (0 + line_len text) text (omega (arith, fits));
    }

pub written_is : (text : List ℕ) → written_line text ≡ unended text ++ 10 ∷ []
written_is text = sym (append_assoc (flat_map written_octet text) (13 ∷ []) (10 ∷ []))

-- what stands before some octet of a row is a front of the row without its last octet
pub front_of_front : (front back row : List ℕ) (octet last : ℕ) → front ++ octet ∷ back ≡ row ++ last ∷ [] → IsFront front row
front_of_front [] back row octet last e = (row, refl)
front_of_front (c ∷ front) back [] octet last e = absurd (nothing_behind front back octet (let f : c ∷ (front ++ octet ∷ back) ≡ last ∷ [] = e in cc))
  where
    nothing_behind : (front back : List ℕ) (octet : ℕ) → front ++ octet ∷ back ≡ [] → ⊥
    nothing_behind [] back octet f = absurd (cc)
    nothing_behind (d ∷ front) back octet f = absurd (cc)
front_of_front (c ∷ front) back (d ∷ row) octet last e =
    let f : c ∷ (front ++ octet ∷ back) ≡ d ∷ (row ++ last ∷ []) = e in
    let head : c ≡ d = cc in
    let rest = front_of_front front back row octet last (cc) in
    (rest.0, ap (λ l. c ∷ l) rest.1 ∙ ap (λ o. o ∷ row) head)

pub no_more : {X : Type 0} (xs ys : List X) → xs ++ ys ≡ [] → (xs ≡ []) × (ys ≡ [])
no_more [] ys e = (refl, e)
no_more (x ∷ xs) ys e = absurd (let f : x ∷ (xs ++ ys) ≡ [] = e in cc)

front_of_none : {X : Type 0} (xs : List X) → IsFront xs [] → xs ≡ []
front_of_none [] front = refl
front_of_none (x ∷ xs) front = absurd (let e : x ∷ (xs ++ front.0) ≡ [] = front.1 in cc)

-- of a front of what keeps nothing is said
pub front_says : (limit : ℕ) (e new : Ear) (front row : List ℕ) → IsFront front row → Keeps limit e row new → gives (ear limit) e front ≡ []
front_says limit e new front row is keeps =
    front_of_none (gives (ear limit) e front) (subst (IsFront (gives (ear limit) e front)) keeps.says (gives-front (ear limit) e front row is))

pub line_is_heard : EarHearsEachLine
line_is_heard limit text no_feed fits =
    let closes = line_closes limit text no_feed fits in
    let is = written_is text in
    let e : Ear = closes.kept in
    record {
      front = λ front back octet cut. front_says limit quiet e front (unended text) (front_of_front front back (unended text) octet 10 (cut ∙ is)) closes.keeps;
      whole = ap (gives (ear limit) quiet) is ∙ gives-append (ear limit) quiet (unended text) (10 ∷ [])
          ∙ ap (λ l. l ++ gives (ear limit) (after (ear limit) quiet (unended text)) (10 ∷ [])) closes.keeps.says
          ∙ ap (λ s. gives (ear limit) s (10 ∷ [])) closes.keeps.leads ∙ ap (λ l. l ++ []) closes.ends.says;
      rest = ap (after (ear limit) quiet) is ∙ after-append (ear limit) quiet (unended text) (10 ∷ [])
          ∙ ap (λ s. after (ear limit) s (10 ∷ [])) closes.keeps.leads ∙ closes.ends.leads;
    }

-- ---- an answer

pub answer_is_dropped : EarDropsAnswer
answer_is_dropped limit octet =
    (record { front = λ n. wont n; rest = refl }, record { front = λ n. dont n; rest = refl })
  where
    wont : (n : ℕ) → gives (ear limit) quiet (take n (255 ∷ 252 ∷ octet ∷ [])) ≡ []
    wont zero = refl
    wont (suc zero) = refl
    wont (suc (suc zero)) = refl
    wont (suc (suc (suc zero))) = refl
    wont (suc (suc (suc (suc n)))) = refl

    dont : (n : ℕ) → gives (ear limit) quiet (take n (255 ∷ 254 ∷ octet ∷ [])) ≡ []
    dont zero = refl
    dont (suc zero) = refl
    dont (suc (suc zero)) = refl
    dont (suc (suc (suc zero))) = refl
    dont (suc (suc (suc (suc n)))) = refl
