-- A script, line by line.
use Rattle.std.proofs.Common.{◌≡◌, ◌+◌, ◌<◌, ◌==◌, ℕ, suc, true, false, List, [], ◌∷◌, ◌++◌, length, map, drop, get_or, Option, Some, None, option_map, Result, Ok, Err, refl, sym, ap, ◌∙◌, append_assoc, arith, ne_eqb}
use Rattle.std.proofs.Math.Seq.{drop-cons}
use Rattle.std.proofs.lemmas.Bool.{false≢true}
use Rattle.std.proofs.lemmas.List.{length-map, map-append}
use Rattle.tool_script.specs.declared.order.Order.{Order}
use Rattle.tool_script.specs.Line.{order_value}
use Rattle.tool_script.specs.declared.script.ScriptFault.{ScriptFault}
use Rattle.tool_script.specs.declared.script.ScriptFault.TheVariants.{Line, Memory}
use Rattle.tool_script.specs.Script.{ReadsAll, all_but_last, if_ended, last_of_row, orders_behind, orders_value, script_between, script_in, joined_with_line}

-- ---- lines

-- a row in front of one more
pub before_one : {X : Type 0} (lines : List X) (last : X) → all_but_last (lines ++ last ∷ []) ≡ lines
before_one [] last = refl
before_one (line ∷ []) last = refl
before_one (line ∷ next ∷ lines) last = ap (λ rest. line ∷ rest) (before_one (next ∷ lines) last)

-- one more is the last
pub one_is_last : (lines : List (List ℕ)) (last : List ℕ) → last_of_row (lines ++ last ∷ []) ≡ last
one_is_last [] last = refl
one_is_last (line ∷ []) last = refl
one_is_last (line ∷ next ∷ lines) last = one_is_last (next ∷ lines) last

-- a script of lines and what stands after them
between_is : {X : Type 0} (seen : X → List ℕ) (pieces lines : List X) (last : X) → pieces ≡ lines ++ last ∷ []
    → script_between (map seen pieces) ≡ if_ended (length pieces) (seen last) (script_in (map seen lines))
between_is seen pieces lines last is =
    let cut : map seen pieces ≡ map seen lines ++ seen last ∷ [] = ap (map seen) is ∙ map-append seen lines (last ∷ []) in
    ap (λ n. if_ended n (last_of_row (map seen pieces)) (script_in (all_but_last (map seen pieces)))) (length-map pieces seen)
    ∙ ap (λ l. if_ended (length pieces) (last_of_row l) (script_in (all_but_last l))) cut
    ∙ ap (λ l. if_ended (length pieces) l (script_in (all_but_last (map seen lines ++ seen last ∷ [])))) (one_is_last (map seen lines) (seen last))
    ∙ ap (λ l. if_ended (length pieces) (seen last) (script_in l)) (before_one (map seen lines) (seen last))

-- nothing stands after the lines
none_left : {V : Type 0} (number : ℕ) (rest : List ℕ) (said : Result V ℕ) → (length rest == 0) ≡ true → if_ended number rest said ≡ said
none_left number [] said none = refl
none_left number (octet ∷ rest) said none =
    let some : (length (octet ∷ rest) == 0) ≡ false = ne_eqb (suc (length rest)) 0 (λ e. absurd (omega (arith, e))) in
    absurd (false≢true (sym some ∙ none))

-- something does
some_left : {V : Type 0} (number : ℕ) (rest : List ℕ) (value : V) → (length rest == 0) ≡ false → if_ended number rest (Ok value) ≡ Err number
some_left number [] value some = absurd (cc)
some_left number (octet ∷ rest) value some = refl

-- a line before is refused, whatever stands after
still_refused : {V : Type 0} (number line : ℕ) (rest : List ℕ) → if_ended {V = V} number rest (Err line) ≡ Err line
still_refused number line [] = refl
still_refused number line (octet ∷ rest) = refl

-- a script whose last line is ended
pub all_ended : {X : Type 0} (seen : X → List ℕ) (pieces lines : List X) (last : X) (said : Result ((List ℕ × List ℕ) × List (Order (List ℕ))) ℕ)
    → pieces ≡ lines ++ last ∷ [] → (length (seen last) == 0) ≡ true → script_in (map seen lines) ≡ said → script_between (map seen pieces) ≡ said
all_ended seen pieces lines last said is none lines_say =
    between_is seen pieces lines last is ∙ none_left (length pieces) (seen last) (script_in (map seen lines)) none ∙ lines_say

-- a script whose last line is not
pub not_ended : {X : Type 0} (seen : X → List ℕ) (pieces lines : List X) (last : X) (value : (List ℕ × List ℕ) × List (Order (List ℕ)))
    → pieces ≡ lines ++ last ∷ [] → (length (seen last) == 0) ≡ false → script_in (map seen lines) ≡ Ok value
    → script_between (map seen pieces) ≡ Err (length pieces)
not_ended seen pieces lines last value is some lines_say =
    between_is seen pieces lines last is ∙ ap (if_ended (length pieces) (seen last)) lines_say ∙ some_left (length pieces) (seen last) value some

-- a script of which a line before is refused
pub line_before : {X : Type 0} (seen : X → List ℕ) (pieces lines : List X) (last : X) (line : ℕ) → pieces ≡ lines ++ last ∷ []
    → script_in (map seen lines) ≡ Err line → script_between (map seen pieces) ≡ Err line
line_before seen pieces lines last line is lines_say =
    between_is seen pieces lines last is ∙ ap (if_ended (length pieces) (seen last)) lines_say ∙ still_refused (length pieces) line (seen last)

-- the same, of why a script is refused
pub refused_before : {X Y : Type 0} (seen : X → List ℕ) (kept : Y → (List ℕ × List ℕ) × List (Order (List ℕ))) (pieces lines : List X) (last : X)
    (fault : ScriptFault) → pieces ≡ lines ++ last ∷ [] → ReadsAll kept (Err fault) (script_in (map seen lines))
    → ReadsAll kept (Err fault) (script_between (map seen pieces))
refused_before seen kept pieces lines last (Line number) is said = line_before seen pieces lines last number is said
refused_before seen kept pieces lines last Memory is said = tt

-- ---- orders

-- an order, and those of later lines
abbrev order_and : ℕ → Option (Order (List ℕ)) → Result (List (Order (List ℕ))) ℕ → Result (List (Order (List ℕ))) ℕ
order_and number said behind = joined_with_line (λ order orders. order ∷ orders) number said behind

kept : (front : List (Order (List ℕ))) (order : Order (List ℕ)) (number : ℕ) (behind : Result (List (Order (List ℕ))) ℕ)
    → orders_behind front (order_and number (Some order) behind) ≡ orders_behind (front ++ order ∷ []) behind
kept front order number (Ok orders) = ap (λ l. Ok l) (sym (append_assoc front (order ∷ []) orders))
kept front order number (Err later) = refl

-- nothing stands in front
pub none_behind : (said : Result (List (Order (List ℕ))) ℕ) → orders_behind [] said ≡ said
none_behind (Ok orders) = refl
none_behind (Err number) = refl

-- a line that says an order
order_said : (front new : List (Order (List ℕ))) (line : List ℕ) (number : ℕ) (behind : Result (List (Order (List ℕ))) ℕ)
    → option_map (λ order. front ++ order ∷ []) (order_value line) ≡ Some new
    → orders_behind front (order_and number (order_value line) behind) ≡ orders_behind new behind
order_said front new line number behind is = by (order_value line) is
  where
    by : (said : Option (Order (List ℕ))) → option_map (λ order. front ++ order ∷ []) said ≡ Some new → orders_behind front (order_and number said behind) ≡ orders_behind new behind
    by None e = absurd (cc)
    by (Some order) e =
        let same : front ++ order ∷ [] ≡ new = cc in
        kept front order number behind ∙ ap (λ orders. orders_behind orders behind) same

-- a line that says none
order_unsaid : (front : List (Order (List ℕ))) (line : List ℕ) (number : ℕ) (behind : Result (List (Order (List ℕ))) ℕ)
    → option_map (λ order. front ++ order ∷ []) (order_value line) ≡ None
    → orders_behind front (order_and number (order_value line) behind) ≡ Err number
order_unsaid front line number behind is = by (order_value line) is
  where
    by : (said : Option (Order (List ℕ))) → option_map (λ order. front ++ order ∷ []) said ≡ None → orders_behind front (order_and number said behind) ≡ Err number
    by None e = refl
    by (Some order) e = absurd (cc)

-- one line more is read
pub line_read : {X : Type 0} (seen : X → List ℕ) (front new : List (Order (List ℕ))) (lines : List X) (at number : ℕ) (d : X) → at < length lines
    → option_map (λ order. front ++ order ∷ []) (order_value (seen (get_or lines at d))) ≡ Some new
    → orders_behind new (orders_value (number + 1) (map seen (drop (at + 1) lines))) ≡ orders_behind front (orders_value number (map seen (drop at lines)))
line_read seen front new lines at number d inside is =
    let next : at + 1 ≡ suc at = omega arith in
    let behind = orders_value (number + 1) (map seen (drop (suc at) lines)) in
    ap (λ k. orders_behind new (orders_value (number + 1) (map seen (drop k lines)))) next
    ∙ sym (ap (λ rest. orders_behind front (orders_value number (map seen rest))) (drop-cons lines at d inside) ∙ order_said front new (seen (get_or lines at d)) number behind is)

-- a line is refused
pub line_refused : {X : Type 0} (seen : X → List ℕ) (front : List (Order (List ℕ))) (lines : List X) (at number : ℕ) (d : X) → at < length lines
    → option_map (λ order. front ++ order ∷ []) (order_value (seen (get_or lines at d))) ≡ None
    → orders_behind front (orders_value number (map seen (drop at lines))) ≡ Err number
line_refused seen front lines at number d inside is =
    ap (λ rest. orders_behind front (orders_value number (map seen rest))) (drop-cons lines at d inside)
    ∙ order_unsaid front (seen (get_or lines at d)) number (orders_value (number + 1) (map seen (drop (suc at) lines))) is
