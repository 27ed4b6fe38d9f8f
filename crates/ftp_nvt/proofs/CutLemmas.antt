-- What one more octet changes.
use Rattle.std.proofs.Common.{◌≡◌, ℕ, zero, suc, get_or, ◌||◌, ◌+◌, ◌-◌, ◌<◌, ◌≤◌, List, [], ◌∷◌, ◌++◌, Bool, true, false, ◌==◌, ◌&&◌, ◌⊎◌, inl, inr, refl, ap, sym, ◌∙◌, append_assoc, append-nil, arith, length, length-append, take, map, eqb-true, le-leb, leb-true, ne_eqb, eq-eqb, lt_irrefl, lt_of_le_of_lt, true≢false}
use Rattle.std.specs.List.{AllByRecursion}
use Rattle.memchr.specs.Find.{is_byte3}
use Rattle.ftp_nvt.specs.Lines.{IsNoneOf}
use Rattle.std.proofs.Math.Bool.{and-false}
use Rattle.std.proofs.Math.Seq.{take-append_seam}
use Rattle.std.proofs.lemmas.Bool.{cases_lt}
use Rattle.std.specs.Prelude.{nat_le, if◌then◌else◌}
use Rattle.ftp_nvt.specs.Lines.{NvtEvent, line, too_long, Cut, with_line_end, with_octet, cut, last_octet, text_behind, text_of, without_return, said, said_early, lines, settled}

pub decided : (b : Bool) → (b ≡ true) ⊎ (b ≡ false)
decided true = inl refl
decided false = inr refl

-- one more octet behind what was cut
abbrev pub cut_behind : Cut → ℕ → Cut
cut_behind before octet =
    if octet == 10 then record { ended = before.ended ++ before.rest ∷ []; rest = [] }
    else record { ended = before.ended; rest = before.rest ++ octet ∷ [] }

octet_then_behind : (first octet : ℕ) (ended : List (List ℕ)) (rest : List ℕ)
    → (let later = cut_behind (record { ended = ended; rest = rest }) octet in with_octet first later.ended later.rest) ≡ cut_behind (with_octet first ended rest) octet
octet_then_behind first octet [] rest =
    elim (decided (octet == 10)) [
      | inl e ↦ rw e refl
      | inr e ↦ rw e refl
    ]
octet_then_behind first octet (l ∷ ls) rest =
    elim (decided (octet == 10)) [
      | inl e ↦ rw e refl
      | inr e ↦ rw e refl
    ]

line_end_then_behind : (octet : ℕ) (before : Cut) → with_line_end (cut_behind before octet) ≡ cut_behind (with_line_end before) octet
line_end_then_behind octet before =
    elim (decided (octet == 10)) [
      | inl e ↦ rw e refl
      | inr e ↦ rw e refl
    ]

cut-one : (octet : ℕ) → cut (octet ∷ []) ≡ cut_behind (cut []) octet
unfolding cut
cut-one octet = refl

pub cut-nil : cut [] ≡ record { ended = []; rest = [] }
unfolding cut
cut-nil = refl

cut-line_end : (first : ℕ) (octets : List ℕ) → (first == 10) ≡ true → cut (first ∷ octets) ≡ with_line_end (cut octets)
unfolding cut
cut-line_end first octets e = rw e refl

cut-octet : (first : ℕ) (octets : List ℕ) → (first == 10) ≡ false → cut (first ∷ octets) ≡ with_octet first (cut octets).ended (cut octets).rest
unfolding cut
cut-octet first octets e = rw e refl

-- one more octet behind is cut off alone
pub cut-append : (octets : List ℕ) (octet : ℕ) → cut (octets ++ octet ∷ []) ≡ cut_behind (cut octets) octet
cut-append [] octet = cut-one octet
cut-append (first ∷ octets) octet =
    elim (decided (first == 10)) [
      | inl e ↦ cut-line_end first (octets ++ octet ∷ []) e ∙ ap with_line_end (cut-append octets octet) ∙ line_end_then_behind octet (cut octets) ∙ ap (λ k. cut_behind k octet) (sym (cut-line_end first octets e))
      | inr e ↦ cut-octet first (octets ++ octet ∷ []) e ∙ ap (λ k. with_octet first k.ended k.rest) (cut-append octets octet) ∙ octet_then_behind first octet (cut octets).ended (cut octets).rest ∙ ap (λ k. cut_behind k octet) (sym (cut-octet first octets e))
    ]

pub map-append : {A B : Type 0} (f : A → B) (xs ys : List A) → map f (xs ++ ys) ≡ map f xs ++ map f ys
map-append f [] ys = refl
map-append f (x ∷ xs) ys = ap (λ l. f x ∷ l) (map-append f xs ys)

nil_between : {A : Type 0} (xs ys : List A) → xs ++ ys ≡ xs ++ [] ++ ys
nil_between xs ys = ap (λ l. l ++ ys) (sym (append-nil xs))

pub no_leb : (a b : ℕ) → b < a → nat_le a b ≡ false
no_leb a b less =
    elim (decided (nat_le a b)) [
      | inl e ↦ absurd (lt_irrefl a (lt_of_le_of_lt (leb-true a b e) less))
      | inr e ↦ e
    ]

-- what cut octets say
abbrev pub lines_of : ℕ → Cut → List NvtEvent
lines_of limit k = map (said limit) k.ended ++ said_early limit k.rest

ended_more : (limit : ℕ) (k : Cut) → lines_of limit (record { ended = k.ended ++ k.rest ∷ []; rest = [] }) ≡ map (said limit) k.ended ++ said limit k.rest ∷ []
ended_more limit k =
    ap (λ l. l ++ said_early limit []) (map-append (said limit) k.ended (k.rest ∷ []))
    ∙ ap (λ b. (map (said limit) k.ended ++ said limit k.rest ∷ []) ++ (if b then [] else too_long ∷ [])) (le-leb 0 limit (omega arith))
    ∙ append-nil _

behind_below : (limit : ℕ) (k : Cut) (octet : ℕ) → length k.rest < limit → lines_of limit (cut_behind k octet) ≡ lines_of limit k ++ settled limit k.rest octet
behind_below limit k octet less =
    let n = length k.rest in
    let all : nat_le (n + 1) limit ≡ true = le-leb (n + 1) limit (omega arith) in
    let fits : nat_le n limit ≡ true = le-leb n limit (omega arith) in
    let other : (n == limit) ≡ false = ne_eqb n limit (λ e. omega arith) in
    let open_yet : nat_le limit n ≡ false = no_leb limit n less in
    let longer : nat_le (length (k.rest ++ octet ∷ [])) limit ≡ true = le-leb _ limit (omega (arith, length-append k.rest (octet ∷ []))) in
    elim (decided (octet == 10)) [
      | inl e ↦ rw e (ended_more limit k ∙ rw (all, fits, other, open_yet) (nil_between (map (said limit) k.ended) (line (text_of (without_return k.rest)) ∷ [])))
      | inr e ↦ rw (e, longer, fits, other, open_yet) (nil_between (map (said limit) k.ended) [])
    ]

behind_full : (limit : ℕ) (k : Cut) (octet : ℕ) → length k.rest ≡ limit → lines_of limit (cut_behind k octet) ≡ lines_of limit k ++ settled limit k.rest octet
behind_full limit k octet same =
    let n = length k.rest in
    let past : nat_le (n + 1) limit ≡ false = no_leb (n + 1) limit (omega arith) in
    let fits : nat_le n limit ≡ true = le-leb n limit (omega arith) in
    let full : (n == limit) ≡ true = eq-eqb n limit same in
    let longer : nat_le (length (k.rest ++ octet ∷ [])) limit ≡ false = no_leb _ limit (omega (arith, length-append k.rest (octet ∷ []))) in
    elim (decided (octet == 10)) [
      | inl e ↦ rw e (ended_more limit k ∙ rw (past, fits, full) (nil_between (map (said limit) k.ended) (too_long ∷ [])))
      | inr e ↦ rw (e, longer, fits, full) (nil_between (map (said limit) k.ended) (too_long ∷ []))
    ]

behind_past : (limit : ℕ) (k : Cut) (octet : ℕ) → limit < length k.rest → lines_of limit (cut_behind k octet) ≡ lines_of limit k ++ settled limit k.rest octet
behind_past limit k octet more =
    let n = length k.rest in
    let past : nat_le (n + 1) limit ≡ false = no_leb (n + 1) limit (omega arith) in
    let long : nat_le n limit ≡ false = no_leb n limit more in
    let other : (n == limit) ≡ false = ne_eqb n limit (λ e. omega arith) in
    let skips : nat_le limit n ≡ true = le-leb limit n (omega arith) in
    let longer : nat_le (length (k.rest ++ octet ∷ [])) limit ≡ false = no_leb _ limit (omega (arith, length-append k.rest (octet ∷ []))) in
    elim (decided (octet == 10)) [
      | inl e ↦ rw e (ended_more limit k ∙ rw (past, long, other, skips) (sym (append-nil ((map (said limit) k.ended) ++ too_long ∷ []))))
      | inr e ↦ rw (e, longer, long, other, skips) (sym (append-nil ((map (said limit) k.ended) ++ too_long ∷ [])))
    ]

pub lines_of-cut_behind : (limit : ℕ) (k : Cut) (octet : ℕ) → lines_of limit (cut_behind k octet) ≡ lines_of limit k ++ settled limit k.rest octet
lines_of-cut_behind limit k octet =
    elim (cases_lt (length k.rest) limit) [
      | inl less ↦ behind_below limit k octet less
      | inr more ↦ elim (cases_lt limit (length k.rest)) [
        | inl past ↦ behind_past limit k octet past
        | inr fits ↦ behind_full limit k octet (omega arith)
      ]
    ]

pub lines-cut : (limit : ℕ) (octets : List ℕ) → lines limit octets ≡ lines_of limit (cut octets)
unfolding lines
lines-cut limit octets = refl

-- what one more octet settles
pub lines-append-octet : (limit : ℕ) (octets : List ℕ) (octet : ℕ) → lines limit (octets ++ octet ∷ []) ≡ lines limit octets ++ settled limit (cut octets).rest octet
lines-append-octet limit octets octet =
    lines-cut limit (octets ++ octet ∷ []) ∙ ap (lines_of limit) (cut-append octets octet) ∙ lines_of-cut_behind limit (cut octets) octet ∙ ap (λ l. l ++ settled limit (cut octets).rest octet) (sym (lines-cut limit octets))

pub text_behind-append : (before : ℕ) (octets : List ℕ) (octet : ℕ)
    → text_behind before (octets ++ octet ∷ []) ≡ text_behind before octets ++ (if (last_octet before octets == 13) && (octet == 0) then [] else octet ∷ [])
unfolding text_behind
text_behind-append before [] octet =
    elim (decided ((before == 13) && (octet == 0))) [
      | inl e ↦ rw e refl
      | inr e ↦ rw e refl
    ]
text_behind-append before (first ∷ octets) octet =
    elim (decided ((before == 13) && (first == 0))) [
      | inl e ↦ rw e (text_behind-append first octets octet)
      | inr e ↦ rw e (ap (λ l. first ∷ l) (text_behind-append first octets octet))
    ]

pub last_octet-append : (before : ℕ) (octets : List ℕ) (octet : ℕ) → last_octet before (octets ++ octet ∷ []) ≡ octet
last_octet-append before [] octet = refl
last_octet-append before (first ∷ octets) octet = last_octet-append first octets octet

-- the unfinished line behind one more octet
pub rest-append-octet : (octets : List ℕ) (octet : ℕ) → (cut (octets ++ octet ∷ [])).rest ≡ (if octet == 10 then [] else (cut octets).rest ++ octet ∷ [])
rest-append-octet octets octet = ap (λ k. k.rest) (cut-append octets octet) ∙ rest_of octet (cut octets)
  where
    rest_of : (octet : ℕ) (k : Cut) → (cut_behind k octet).rest ≡ (if octet == 10 then [] else k.rest ++ octet ∷ [])
    rest_of octet k =
        elim (decided (octet == 10)) [
          | inl e ↦ rw e refl
          | inr e ↦ rw e refl
        ]

-- no LF is among these octets
abbrev pub NoLineEnd : List ℕ → Type 0
NoLineEnd octets = AllByRecursion (λ octet. (octet == 10) ≡ false) octets

-- no CR is among these octets
abbrev pub NoReturn : List ℕ → Type 0
NoReturn octets = AllByRecursion (λ octet. (octet == 13) ≡ false) octets

cut-append-octet_inside : (octets : List ℕ) (octet : ℕ) → (octet == 10) ≡ false → cut (octets ++ octet ∷ []) ≡ record { ended = (cut octets).ended; rest = (cut octets).rest ++ octet ∷ [] }
cut-append-octet_inside octets octet e = cut-append octets octet ∙ inside octet (cut octets) e
  where
    inside : (octet : ℕ) (k : Cut) → (octet == 10) ≡ false → cut_behind k octet ≡ record { ended = k.ended; rest = k.rest ++ octet ∷ [] }
    inside octet k e = rw e refl

-- octets without LF lengthen the unfinished line
pub cut-append-inside : (octets plain : List ℕ) → NoLineEnd plain → cut (octets ++ plain) ≡ record { ended = (cut octets).ended; rest = (cut octets).rest ++ plain }
cut-append-inside octets [] none =
    ap cut (append-nil octets) ∙ ap (λ l. record { ended = (cut octets).ended; rest = l }) (sym (append-nil (cut octets).rest))
cut-append-inside octets (octet ∷ plain) none =
    let one = cut-append-octet_inside octets octet none.0 in
    ap cut (sym (append_assoc octets (octet ∷ []) plain)) ∙ cut-append-inside (octets ++ octet ∷ []) plain none.1
    ∙ ap (λ k. record { ended = k.ended; rest = k.rest ++ plain }) one
    ∙ ap (λ l. record { ended = (cut octets).ended; rest = l }) (append_assoc (cut octets).rest (octet ∷ []) plain)

-- within the limit they say nothing
pub lines-append-inside : (limit : ℕ) (octets plain : List ℕ) → NoLineEnd plain → length (cut octets).rest + length plain ≤ limit → lines limit (octets ++ plain) ≡ lines limit octets
lines-append-inside limit octets plain none fits =
    let rest = (cut octets).rest in
    let before : nat_le (length rest) limit ≡ true = le-leb _ limit (omega arith) in
    let later : nat_le (length (rest ++ plain)) limit ≡ true = le-leb _ limit (omega (arith, length-append rest plain)) in
    lines-cut limit (octets ++ plain) ∙ ap (lines_of limit) (cut-append-inside octets plain none)
    ∙ ap (λ b. map (said limit) (cut octets).ended ++ (if b then [] else too_long ∷ [])) (later ∙ sym before) ∙ sym (lines-cut limit octets)

-- past the limit they say nothing more
pub lines-append-past : (limit : ℕ) (octets plain : List ℕ) → NoLineEnd plain → limit < length (cut octets).rest → lines limit (octets ++ plain) ≡ lines limit octets
lines-append-past limit octets plain none past =
    let rest = (cut octets).rest in
    let before : nat_le (length rest) limit ≡ false = no_leb _ limit past in
    let later : nat_le (length (rest ++ plain)) limit ≡ false = no_leb _ limit (omega (arith, length-append rest plain)) in
    lines-cut limit (octets ++ plain) ∙ ap (lines_of limit) (cut-append-inside octets plain none)
    ∙ ap (λ b. map (said limit) (cut octets).ended ++ (if b then [] else too_long ∷ [])) (later ∙ sym before) ∙ sym (lines-cut limit octets)

text_behind_plain : (before : ℕ) (plain : List ℕ) → (before == 13) ≡ false → NoReturn plain → text_behind before plain ≡ plain
unfolding text_behind
text_behind_plain before [] e none = refl
text_behind_plain before (octet ∷ plain) e none = rw e (ap (λ l. octet ∷ l) (text_behind_plain octet plain none.0 none.1))

-- octets without CR, not right behind one, stand in the text as they are
pub text_behind-append-plain : (before : ℕ) (octets plain : List ℕ) → (last_octet before octets == 13) ≡ false → NoReturn plain → text_behind before (octets ++ plain) ≡ text_behind before octets ++ plain
unfolding text_behind
text_behind-append-plain before [] plain e none = text_behind_plain before plain e none
text_behind-append-plain before (octet ∷ octets) plain e none =
    elim (decided ((before == 13) && (octet == 0))) [
      | inl f ↦ rw f (text_behind-append-plain octet octets plain e none)
      | inr f ↦ rw f (ap (λ l. octet ∷ l) (text_behind-append-plain octet octets plain e none))
    ]

pub last_octet-append-plain : (before : ℕ) (octets plain : List ℕ) → (last_octet before octets == 13) ≡ false → NoReturn plain → (last_octet before (octets ++ plain) == 13) ≡ false
last_octet-append-plain before [] [] e none = e
last_octet-append-plain before [] (octet ∷ plain) e none = last_octet-append-plain octet [] plain none.0 none.1
last_octet-append-plain before (octet ∷ octets) plain e none = last_octet-append-plain octet octets plain e none

-- octets and the last of them
take_last : (octet : ℕ) (octets : List ℕ) → octet ∷ octets ≡ take (length octets) (octet ∷ octets) ++ last_octet octet octets ∷ []
take_last octet [] = refl
take_last octet (next ∷ octets) = ap (λ l. octet ∷ l) (take_last next octets)

-- octets that end in a CR
pub return_last : (octets : List ℕ) → (last_octet 10 octets == 13) ≡ true → octets ≡ take (length octets - 1) octets ++ 13 ∷ []
return_last [] e = absurd (true≢false (sym e))
return_last (octet ∷ octets) e =
    take_last octet octets
    ∙ ap (λ n. take n (octet ∷ octets) ++ last_octet octet octets ∷ []) (omega arith)
    ∙ ap (λ c. take (length (octet ∷ octets) - 1) (octet ∷ octets) ++ c ∷ []) (eqb-true (last_octet octet octets) 13 e)

-- the text of a line that ends in CR LF is the text so far without that CR
pub text_of-return : (octets : List ℕ) → (last_octet 10 octets == 13) ≡ true → take (length (text_of octets) - 1) (text_of octets) ≡ text_of (without_return octets)
text_of-return octets e =
    let front = take (length octets - 1) octets in
    let whole : text_of octets ≡ text_of front ++ 13 ∷ [] = ap text_of (return_last octets e) ∙ text_behind-append 10 front 13 ∙ ap (λ b. text_of front ++ (if b then [] else 13 ∷ [])) (and-false (last_octet 10 front == 13)) in
    ap (λ l. take (length l - 1) l) whole
    ∙ ap (λ n. take n (text_of front ++ 13 ∷ [])) (omega (arith, length-append (text_of front) (13 ∷ [])))
    ∙ take-append_seam (text_of front) (13 ∷ []) ∙ ap text_of (sym (fits e))
  where
    fits : (last_octet 10 octets == 13) ≡ true → without_return octets ≡ take (length octets - 1) octets
    fits e = rw e refl

pub lines-nil : (limit : ℕ) → lines limit [] ≡ []
unfolding lines cut
lines-nil limit = ap (λ b. if b then [] else too_long ∷ []) (le-leb 0 limit (omega arith))

-- what octets add, behind others
abbrev pub lines_after : ℕ → List ℕ → List ℕ → List NvtEvent
lines_after limit before [] = []
lines_after limit before (octet ∷ octets) = settled limit (cut before).rest octet ++ lines_after limit (before ++ octet ∷ []) octets

-- the lines of a front are a front of the lines
pub lines-append : (limit : ℕ) (xs ys : List ℕ) → lines limit (xs ++ ys) ≡ lines limit xs ++ lines_after limit xs ys
lines-append limit xs [] = ap (lines limit) (append-nil xs) ∙ sym (append-nil (lines limit xs))
lines-append limit xs (octet ∷ ys) =
    ap (lines limit) (sym (append_assoc xs (octet ∷ []) ys)) ∙ lines-append limit (xs ++ octet ∷ []) ys
    ∙ ap (λ l. l ++ lines_after limit (xs ++ octet ∷ []) ys) (lines-append-octet limit xs octet)
    ∙ append_assoc (lines limit xs) (settled limit (cut xs).rest octet) (lines_after limit (xs ++ octet ∷ []) ys)

pub rest-nil : (cut []).rest ≡ []
unfolding cut
rest-nil = refl

-- what holds at each place of the first n
pub all_take : (P : ℕ → Type 0) (octets : List ℕ) (n : ℕ) → n ≤ length octets → ((k : ℕ) → k < n → P (get_or octets k 0)) → AllByRecursion P (take n octets)
all_take P octets zero within each = tt
all_take P [] (suc n) within each = tt
all_take P (octet ∷ octets) (suc n) within each = (each 0 (omega arith), all_take P octets n (omega arith) (λ k less. each (suc k) (omega arith)))

-- the first octet of a piece
pub take_first : (piece : List ℕ) → 0 < length piece → take 1 piece ≡ get_or piece 0 0 ∷ []
take_first [] some = absurd (lt_irrefl 0 some)
take_first (octet ∷ piece) some = refl

-- none of LF, CR and IAC is among these octets
abbrev pub NoEnds : List ℕ → Type 0
NoEnds octets = AllByRecursion (λ octet. is_byte3 10 13 255 octet ≡ false) octets

-- what each of these octets has, gives each this
pub all_give : {P Q : ℕ → Type 0} → ((octet : ℕ) → P octet → Q octet) → (octets : List ℕ) → AllByRecursion P octets → AllByRecursion Q octets
all_give give [] all = tt
all_give give (octet ∷ octets) all = (give octet all.0, all_give give octets all.1)

pub all_append : (P : ℕ → Type 0) (xs ys : List ℕ) → AllByRecursion P xs → AllByRecursion P ys → AllByRecursion P (xs ++ ys)
all_append P [] ys first second = second
all_append P (octet ∷ xs) ys first second = (first.0, all_append P xs ys first.1 second)

pub first_false : (a b : Bool) → (a || b) ≡ false → a ≡ false
first_false true b e = e
first_false false b e = refl

pub second_false : (a b : Bool) → (a || b) ≡ false → b ≡ false
second_false true b e = absurd (true≢false e)
second_false false b e = e

pub no_line_end : (octets : List ℕ) → NoEnds octets → NoLineEnd octets
no_line_end octets none = all_give (λ x e. first_false (x == 10) (x == 13) (first_false ((x == 10) || (x == 13)) (x == 255) e)) octets none

pub no_return : (octets : List ℕ) → NoEnds octets → NoReturn octets
no_return octets none = all_give (λ x e. second_false (x == 10) (x == 13) (first_false ((x == 10) || (x == 13)) (x == 255) e)) octets none

pub no_command : (octets : List ℕ) → NoEnds octets → IsNoneOf 255 octets
no_command octets none = all_give (λ x e. second_false ((x == 10) || (x == 13)) (x == 255) e) octets none
