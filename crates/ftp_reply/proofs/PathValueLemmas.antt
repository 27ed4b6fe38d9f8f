-- The path that a text quotes, as a value and as a relation.
use Rattle.std.proofs.Common.{◌≡◌, ◌≢◌, ℕ, ◌⊎◌, inl, inr, List, [], ◌∷◌, ◌++◌, Bool, true, false, Option, Some, None, All, refl, sym, ap, subst, ◌∙◌, eqb-true, ne_eqb}
use Rattle.std.specs.Bool.{then_some}
use Rattle.std.specs.List.{before_first, after_first, list_any}
use Rattle.std.specs.Option.{option_map, is_some, unwrap_or}
use Rattle.std.proofs.lemmas.List.Elements.{All-nil, All-cons, All-head, All-tail}
use Rattle.ftp_path.specs.Path.{is_path_text}
use Rattle.ftp_facts.proofs.CutLemmas.{then_is, is_then, map_is, Fails, IsCut, cut_first, first_cut, none_passes, one_passes}
use Rattle.ftp_facts.proofs.NumberLemmas.{given_is, is_given}
use Rattle.ftp_reply.specs.Values.{Closes, NamesPath, Quotes, Quoting, Within, AtQuote, Ended, closed_from, doubled, doubled_octet, is_quote, path_value, quoted_octet, quoted_value, quoting}

-- ---- up to the end

quote_is : (c : ℕ) → is_quote c ≡ true → c ≡ 34
quote_is c e = eqb-true c 34 e

-- what stands behind the end adds nothing
ended : (text : List ℕ) → closed_from Ended text ≡ Some []
ended [] = refl
ended (c ∷ text) = by_quote (is_quote c) (ended text)
  where
    by_quote : (b : Bool) → closed_from Ended text ≡ Some [] → option_map (λ path. quoted_octet Ended b c ++ path) (closed_from Ended text) ≡ Some []
    by_quote true rest = ap (option_map (λ path. path)) rest
    by_quote false rest = ap (option_map (λ path. path)) rest

-- an octet by an octet
within_quote : (c : ℕ) (text : List ℕ) → is_quote c ≡ true → closed_from Within (c ∷ text) ≡ option_map (λ path. path) (closed_from AtQuote text)
within_quote c text e = ap (λ b. option_map (λ path. quoted_octet Within b c ++ path) (closed_from (quoting Within b) text)) e

within_other : (c : ℕ) (text : List ℕ) → is_quote c ≡ false → closed_from Within (c ∷ text) ≡ option_map (λ path. c ∷ path) (closed_from Within text)
within_other c text e = ap (λ b. option_map (λ path. quoted_octet Within b c ++ path) (closed_from (quoting Within b) text)) e

quote_quote : (c : ℕ) (text : List ℕ) → is_quote c ≡ true → closed_from AtQuote (c ∷ text) ≡ option_map (λ path. c ∷ path) (closed_from Within text)
quote_quote c text e = ap (λ b. option_map (λ path. quoted_octet AtQuote b c ++ path) (closed_from (quoting AtQuote b) text)) e

quote_other : (c : ℕ) (text : List ℕ) → is_quote c ≡ false → closed_from AtQuote (c ∷ text) ≡ Some []
quote_other c text e =
    ap (λ b. option_map (λ path. quoted_octet AtQuote b c ++ path) (closed_from (quoting AtQuote b) text)) e ∙ ap (option_map (λ path. path)) (ended text)

same_path : (o : Option (List ℕ)) → option_map (λ path. path) o ≡ o
same_path None = refl
same_path (Some path) = refl

alone : (c : ℕ) → is_quote c ≡ false → doubled_octet c ≡ c ∷ []
alone c e = rw e refl

-- ---- what is read closes

abbrev Closed : List ℕ → List ℕ → Type 0
Closed text path = (behind : List ℕ) × Closes text path behind

add_other : (c : ℕ) (text rest : List ℕ) → is_quote c ≡ false → Closed text rest → Closed (c ∷ text) (c ∷ rest)
add_other c text rest other (behind, closes) = (
  behind,
  record {
    text_is = ap (λ l. c ∷ l) closes.text_is ∙ ap (λ l. (l ++ doubled rest) ++ 34 ∷ behind) (sym (alone c other));
    single = closes.single;
  },
)

add_quote : (text rest : List ℕ) → Closed text rest → Closed (34 ∷ 34 ∷ text) (34 ∷ rest)
add_quote text rest (behind, closes) = (behind, record { text_is = ap (λ l. 34 ∷ 34 ∷ l) closes.text_is; single = closes.single })

-- behind a double quote of the text, or not
abbrev state_of : Bool → Quoting
state_of true = AtQuote
state_of false = Within

abbrev quote_before : Bool → List ℕ → List ℕ
quote_before true text = 34 ∷ text
quote_before false text = text

no_quote : (c : ℕ) (text more : List ℕ) → is_quote c ≡ false → c ∷ text ≡ 34 ∷ more → ⊥
no_quote c text more is g =
    let head : c ≡ 34 = cc in
    let quote : is_quote c ≡ true = ap is_quote head in
    absurd (let never : true ≡ false = sym quote ∙ is in cc)

closed_says : (quoted : Bool) (text path : List ℕ) → closed_from (state_of quoted) text ≡ Some path → Closed (quote_before quoted text) path
closed_says false [] path e = absurd (let b : false ≡ true = ap is_some e in cc)
closed_says true [] path e =
    let is : [] ≡ path = ap (λ o. unwrap_or o []) e in
    subst (Closed (34 ∷ [])) is ([], record { text_is = refl; single = λ more f. absurd (let g : [] ≡ 34 ∷ more = f in cc) })
closed_says false (c ∷ text) path e = by_quote (λ quoted p f. closed_says quoted text p f) (is_quote c) refl
  where
    by_quote : ((quoted : Bool) (path : List ℕ) → closed_from (state_of quoted) text ≡ Some path → Closed (quote_before quoted text) path)
        → (b : Bool) → is_quote c ≡ b → Closed (c ∷ text) path
    by_quote says_more true is =
        let read : closed_from AtQuote text ≡ Some path = sym (same_path (closed_from AtQuote text)) ∙ sym (within_quote c text is) ∙ e in
        let P : ℕ → Type 0 = λ o. Closed (o ∷ text) path in
        subst P (sym (quote_is c is)) (says_more true path read)
    by_quote says_more false is =
        let more = map_is (λ (l : List ℕ). c ∷ l) (closed_from Within text) path (sym (within_other c text is) ∙ e) in
        subst (Closed (c ∷ text)) more.2 (add_other c text more.0 is (says_more false more.0 more.1))
closed_says true (c ∷ text) path e = by_quote (λ quoted p f. closed_says quoted text p f) (is_quote c) refl
  where
    by_quote : ((quoted : Bool) (path : List ℕ) → closed_from (state_of quoted) text ≡ Some path → Closed (quote_before quoted text) path)
        → (b : Bool) → is_quote c ≡ b → Closed (34 ∷ c ∷ text) path
    by_quote says_more true is =
        let more = map_is (λ (l : List ℕ). c ∷ l) (closed_from Within text) path (sym (quote_quote c text is) ∙ e) in
        let same : 34 ≡ c = sym (quote_is c is) in
        let P : ℕ → Type 0 = λ o. Closed (34 ∷ o ∷ text) (o ∷ more.0) in
        subst (Closed (34 ∷ c ∷ text)) more.2 (subst P same (add_quote text more.0 (says_more false more.0 more.1)))
    by_quote says_more false is =
        let none : [] ≡ path = ap (λ o. unwrap_or o []) (sym (quote_other c text is) ∙ e) in
        subst (Closed (34 ∷ c ∷ text)) none (c ∷ text, record { text_is = refl; single = λ more g. no_quote c text more is g })

-- ---- what closes is read

-- behind the closing double quote another doesn't stand
closed_end : (behind : List ℕ) → ((more : List ℕ) → behind ≢ 34 ∷ more) → closed_from AtQuote behind ≡ Some []
closed_end [] single = refl
closed_end (c ∷ behind) single = quote_other c behind (ne_eqb c 34 (λ e. single behind (ap (λ o. o ∷ behind) e)))

says_closed : (path behind : List ℕ) → ((more : List ℕ) → behind ≢ 34 ∷ more) → closed_from Within (doubled path ++ 34 ∷ behind) ≡ Some path
says_closed [] behind single = same_path (closed_from AtQuote behind) ∙ closed_end behind single
says_closed (c ∷ path) behind single = by_quote (says_closed path behind single) (is_quote c) refl
  where
    by_quote : closed_from Within (doubled path ++ 34 ∷ behind) ≡ Some path → (b : Bool) → is_quote c ≡ b → closed_from Within (doubled (c ∷ path) ++ 34 ∷ behind) ≡ Some (c ∷ path)
    by_quote rest true is =
        let same : 34 ≡ c = sym (quote_is c is) in
        let P : ℕ → Type 0 = λ o. closed_from Within (doubled (o ∷ path) ++ 34 ∷ behind) ≡ Some (o ∷ path) in
        subst P same (ap (λ o. option_map (λ path. path) (option_map (λ path. 34 ∷ path) o)) rest)
    by_quote rest false is =
        ap (λ l. closed_from Within ((l ++ doubled path) ++ 34 ∷ behind)) (alone c is) ∙ within_other c (doubled path ++ 34 ∷ behind) is ∙ ap (option_map (λ l. c ∷ l)) rest

-- ---- from the first double quote on

other_than : (before : List ℕ) → Fails is_quote before → All (λ octet. octet ≢ 34) before
other_than [] fails = All-nil (λ octet. octet ≢ 34)
other_than (c ∷ before) fails =
    All-cons (λ octet. octet ≢ 34) c before (λ e. let quote : is_quote c ≡ true = ap is_quote e in absurd (let never : true ≡ false = sym quote ∙ fails.0 in cc)) (other_than before fails.1)

fails_quote : (before : List ℕ) → All (λ octet. octet ≢ 34) before → Fails is_quote before
fails_quote [] all = tt
fails_quote (c ∷ before) all = (ne_eqb c 34 (All-head (λ octet. octet ≢ 34) c before all), fails_quote before (All-tail (λ octet. octet ≢ 34) c before all))

pub quoted_says : (text path : List ℕ) → quoted_value text ≡ Some path → Quotes text path
unfolding quoted_value
quoted_says text path e =
    let step = then_is (then_some (list_any is_quote text) (after_first is_quote text)) (closed_from Within) path e in
    let first = given_is (list_any is_quote text) (after_first is_quote text) step.0 step.1 in
    let closes = closed_says false step.0 path step.2 in
    by_cut step.0 first.0 first.1 closes (cut_first is_quote text)
  where
    by_cut : (inside : List ℕ) → list_any is_quote text ≡ true → after_first is_quote text ≡ inside → (behind : List ℕ) × Closes inside path behind
        → (Fails is_quote text × (after_first is_quote text ≡ [])) ⊎ IsCut is_quote text → Quotes text path
    by_cut inside any is closes (inl none) = absurd (let never : true ≡ false = sym any ∙ none_passes is_quote text none.0 in cc)
    by_cut inside any is closes (inr cut) =
        let quote : cut.octet ≡ 34 = eqb-true cut.octet 34 cut.passes in
        record {
          before = before_first is_quote text;
          inside = inside;
          behind = closes.0;
          text_is = cut.text_is ∙ (λ i. before_first is_quote text ++ quote i ∷ is i);
          first = other_than (before_first is_quote text) cut.fails;
          closes = closes.1;
        }

pub says_quoted : (text path : List ℕ) → Quotes text path → quoted_value text ≡ Some path
unfolding quoted_value
says_quoted text path q =
    let whole : List ℕ = q.before ++ 34 ∷ q.inside in
    let cut = first_cut is_quote q.before 34 q.inside (fails_quote q.before q.first) refl in
    let any = one_passes is_quote q.before 34 q.inside refl in
    let found : then_some (list_any is_quote whole) (after_first is_quote whole) ≡ Some q.inside = is_given (list_any is_quote whole) (after_first is_quote whole) any ∙ ap Some cut.1 in
    let closed : closed_from Within q.inside ≡ Some path = ap (closed_from Within) q.closes.text_is ∙ says_closed path q.behind q.closes.single in
    ap quoted_value q.text_is ∙ is_then (then_some (list_any is_quote whole) (after_first is_quote whole)) (closed_from Within) q.inside path found closed

-- ---- the path text among them

pub path_says : (text path : List ℕ) → path_value text ≡ Some path → NamesPath text path
unfolding path_value
path_says text path e =
    let step = then_is (quoted_value text) (λ quoted. then_some (is_path_text quoted) quoted) path e in
    let last = given_is (is_path_text step.0) step.0 path step.2 in
    subst (NamesPath text) last.1 (record { quoted = quoted_says text step.0 step.1; is_path = last.0 })

pub says_path : (text path : List ℕ) → NamesPath text path → path_value text ≡ Some path
unfolding path_value
says_path text path names =
    is_then (quoted_value text) (λ quoted. then_some (is_path_text quoted) quoted) path path (says_quoted text path names.quoted) (is_given (is_path_text path) path names.is_path)

pub no_path : (text : List ℕ) → ((path : List ℕ) → ¬ NamesPath text path) → path_value text ≡ None
no_path text none = by_value (path_value text) refl
  where
    by_value : (value : Option (List ℕ)) → path_value text ≡ value → value ≡ None
    by_value None e = refl
    by_value (Some path) e = absurd (none path (path_says text path e))
