-- The entry that a line of a machine listing says, as a value and as a relation.
use Rattle.std.proofs.Common.{◌≡◌, ◌≢◌, ℕ, ◌⊎◌, inl, inr, List, [], ◌∷◌, ◌++◌, Bool, true, false, ◌==◌, Option, Some, All, refl, sym, ap, subst, ◌∙◌, append_assoc, arith, length, eqb-true, eq-eqb, ne_eqb}
use Rattle.std.specs.Bool.{then_some}
use Rattle.std.specs.List.{before_first, after_first, list_any, slice_split, onto_first, join_with_byte, AllByRecursion}
use Rattle.std.specs.Option.{option_map}
use Rattle.std.proofs.lemmas.List.Elements.{All-nil, All-cons, All-head, All-tail}
use Rattle.std.proofs.lemmas.List.Splits.{join_with_byte-slice_split, slice_split_at, slice_split-cons_yes, slice_split-cons_no}
use Rattle.ftp_path.specs.Path.{IsPathText}
use Rattle.ftp_facts.specs.Entry.{SaysFact, SaysListed}
use Rattle.ftp_facts.specs.Fact.{Fact, IsFact, Lacks, AreFacts, facts_text, first_value}
use Rattle.ftp_facts.specs.Listed.{Listed, entry_value, fact_of, fact_value, has_entry, is_equals, is_semicolon, kind_word, listed_as, listed_by, read_facts}
use Rattle.ftp_facts.specs.Moment.{moment_value}
use Rattle.ftp_facts.specs.Name.{fact_word}
use Rattle.ftp_facts.specs.declared.name.FactName.{FactName}
use Rattle.ftp_facts.specs.declared.name.FactName.TheVariants.{Kind, Size, Modify, Perm}
use Rattle.ftp_facts.specs.Value.{and_then, is_space, number_value}
use Rattle.ftp_facts.proofs.CutLemmas.{then_is, is_then, map_is, Fails, IsCut, cut_first, first_cut, none_passes, one_passes}
use Rattle.ftp_facts.proofs.NumberLemmas.{given_is, is_given, both, and_both}

-- ---- octets that are lacked

lacks : (c : ℕ) (text : List ℕ) → Fails (λ octet. octet == c) text → Lacks text c
lacks c [] fails = All-nil (λ each. each ≢ c)
lacks c (x ∷ text) fails = All-cons (λ each. each ≢ c) x text (λ e. differs x c fails.0 e) (lacks c text fails.1)
  where
    differs : (x c : ℕ) → (x == c) ≡ false → x ≢ c
    differs x c is e = absurd (let never : true ≡ false = sym (eq-eqb x c e) ∙ is in cc)

fails : (c : ℕ) (text : List ℕ) → Lacks text c → Fails (λ octet. octet == c) text
fails c [] all = tt
fails c (x ∷ text) all = (ne_eqb x c (All-head (λ each. each ≢ c) x text all), fails c text (All-tail (λ each. each ≢ c) x text all))

fails_front : (p : ℕ → Bool) (xs ys : List ℕ) → Fails p (xs ++ ys) → Fails p xs
fails_front p [] ys all = tt
fails_front p (x ∷ xs) ys all = (all.0, fails_front p xs ys all.1)

fails_back : (p : ℕ → Bool) (xs ys : List ℕ) → Fails p (xs ++ ys) → Fails p ys
fails_back p [] ys all = all
fails_back p (x ∷ xs) ys all = fails_back p xs ys all.1

fails_both : (p : ℕ → Bool) (xs ys : List ℕ) → Fails p xs → Fails p ys → Fails p (xs ++ ys)
fails_both p [] ys one other = other
fails_both p (x ∷ xs) ys one other = (one.0, fails_both p xs ys one.1 other)

all_fail : (p : ℕ → Bool) (text : List ℕ) → Fails p text → All (λ c. p c ≡ false) text
all_fail p [] fail = All-nil (λ c. p c ≡ false)
all_fail p (c ∷ text) fail = All-cons (λ c. p c ≡ false) c text fail.0 (all_fail p text fail.1)

-- ---- pieces

-- the pieces of a text have no octet at which it was cut, and there is one at least
record ArePieces (p : ℕ → Bool) (pieces : List (List ℕ)) : Type 0 where
  first : List ℕ
  more : List (List ℕ)
  pieces_are : pieces ≡ first ∷ more
  each : AllByRecursion (Fails p) (first ∷ more)

pieces : (p : ℕ → Bool) (text : List ℕ) → ArePieces p (slice_split p text)
pieces p [] = record { first = []; more = []; pieces_are = refl; each = (tt, tt) }
pieces p (c ∷ text) = by_test (pieces p text) (p c) refl
  where
    by_test : ArePieces p (slice_split p text) → (b : Bool) → p c ≡ b → ArePieces p (slice_split p (c ∷ text))
    by_test rest true is =
        record {
          first = [];
          more = rest.first ∷ rest.more;
          pieces_are = slice_split-cons_yes p c text is ∙ ap (λ l. [] ∷ l) rest.pieces_are;
          each = (tt, rest.each);
        }
    by_test rest false is =
        record {
          first = c ∷ rest.first;
          more = rest.more;
          pieces_are = slice_split-cons_no p c text is ∙ ap (λ l. onto_first c l) rest.pieces_are;
          each = ((is, rest.each.0), rest.each.1);
        }

-- ---- facts

facts_say : (first : List ℕ) (more : List (List ℕ)) (facts : List Fact) → AllByRecursion (Fails is_semicolon) (first ∷ more) → read_facts (first ∷ more) ≡ Some facts
    → AreFacts (join_with_byte 59 (first ∷ more)) facts
facts_say last [] facts each e = by_end last facts (given_is (length last == 0) [] facts e)
  where
    by_end : (last : List ℕ) (facts : List Fact) → ((length last == 0) ≡ true) × ([] ≡ facts) → AreFacts last facts
    by_end [] facts (end, is) = (let P : List Fact → Type 0 = λ l. AreFacts [] l in subst P is (All-nil IsFact, refl))
    by_end (c ∷ last) facts (end, is) = absurd (let none : length (c ∷ last) ≡ 0 = eqb-true (length (c ∷ last)) 0 end in omega (arith, none))
facts_say piece (next ∷ more) facts each e =
    let step = then_is (then_some (list_any is_equals piece) (fact_of piece)) (λ fact. option_map (λ facts. fact ∷ facts) (read_facts (next ∷ more))) facts e in
    let one = given_is (list_any is_equals piece) (fact_of piece) step.0 step.1 in
    let rest = map_is (λ (l : List Fact). step.0 ∷ l) (read_facts (next ∷ more)) facts step.2 in
    let later = facts_say next more rest.0 each.1 rest.1 in
    by_cut step.0 rest.0 one.0 one.1 rest.2 later (cut_first is_equals piece)
  where
    by_cut : (fact : Fact) (later : List Fact) → list_any is_equals piece ≡ true → fact_of piece ≡ fact → fact ∷ later ≡ facts → AreFacts (join_with_byte 59 (next ∷ more)) later
        → (Fails is_equals piece × (after_first is_equals piece ≡ [])) ⊎ IsCut is_equals piece → AreFacts (join_with_byte 59 (piece ∷ next ∷ more)) facts
    by_cut fact later any is all rest (inl none) = absurd (let never : true ≡ false = sym any ∙ none_passes is_equals piece none.0 in cc)
    by_cut fact later any is all rest (inr cut) =
        let name : List ℕ = before_first is_equals piece in
        let value : List ℕ = after_first is_equals piece in
        let equals : cut.octet ≡ 61 = eqb-true cut.octet 61 cut.passes in
        let piece_is : piece ≡ name ++ 61 ∷ value = cut.text_is ∙ ap (λ o. name ++ o ∷ value) equals in
        let P : List ℕ → Type 0 = Fails is_semicolon in
        let whole : Fails is_semicolon (name ++ 61 ∷ value) = subst P piece_is each.0 in
        let front = fails_front is_semicolon name (61 ∷ value) whole in
        let back = fails_back is_semicolon name (61 ∷ value) whole in
        let fact_is : IsFact (fact_of piece) = (lacks 61 name cut.fails, lacks 59 name front, lacks 59 value back.1) in
        let text_is : join_with_byte 59 (piece ∷ next ∷ more) ≡ facts_text (fact_of piece ∷ later) =
        ap (λ l. l ++ 59 ∷ join_with_byte 59 (next ∷ more)) piece_is ∙ append_assoc name (61 ∷ value) (59 ∷ join_with_byte 59 (next ∷ more))
        ∙ ap (λ l. name ++ 61 ∷ (value ++ 59 ∷ l)) rest.1 in
        let Q : Fact → Type 0 = λ f. AreFacts (join_with_byte 59 (piece ∷ next ∷ more)) (f ∷ later) in
        let R : List Fact → Type 0 = λ l. AreFacts (join_with_byte 59 (piece ∷ next ∷ more)) l in
        subst R all (subst Q is (All-cons IsFact (fact_of piece) later fact_is rest.0, text_is))

split_says : (octets : List ℕ) (facts : List Fact) → read_facts (slice_split is_semicolon octets) ≡ Some facts → AreFacts octets facts
split_says octets facts e =
    let parts = pieces is_semicolon octets in
    let said = facts_say parts.first parts.more facts parts.each (ap read_facts (sym parts.pieces_are) ∙ e) in
    (said.0, sym (join_with_byte-slice_split 59 octets) ∙ ap (join_with_byte 59) parts.pieces_are ∙ said.1)

piece_read : (fact : Fact) (first : List ℕ) (more : List (List ℕ)) (facts : List Fact) → IsFact fact → read_facts (first ∷ more) ≡ Some facts
    → read_facts ((fact.name ++ 61 ∷ fact.value) ∷ first ∷ more) ≡ Some (fact ∷ facts)
piece_read fact first more facts is rest =
    let piece : List ℕ = fact.name ++ 61 ∷ fact.value in
    let cut = first_cut is_equals fact.name 61 fact.value (fails 61 fact.name is.0) refl in
    let any = one_passes is_equals fact.name 61 fact.value refl in
    let same : fact_of piece ≡ fact = λ i. record { name = cut.0 i; value = cut.1 i } in
    is_then (then_some (list_any is_equals piece) (fact_of piece)) (λ fact. option_map (λ facts. fact ∷ facts) (read_facts (first ∷ more))) fact (fact ∷ facts)
    (is_given (list_any is_equals piece) (fact_of piece) any ∙ ap Some same) (ap (option_map (λ (l : List Fact). fact ∷ l)) rest)

says_split : (facts : List Fact) → All IsFact facts → read_facts (slice_split is_semicolon (facts_text facts)) ≡ Some facts
says_split [] all = refl
says_split (fact ∷ facts) all =
    let is = All-head IsFact fact facts all in
    let rest : List ℕ = facts_text facts in
    let piece : List ℕ = fact.name ++ 61 ∷ fact.value in
    let lacking : Fails is_semicolon piece = fails_both is_semicolon fact.name (61 ∷ fact.value) (fails 59 fact.name is.1) (refl, fails 59 fact.value is.2) in
    let text_is : facts_text (fact ∷ facts) ≡ piece ++ 59 ∷ rest = sym (append_assoc fact.name (61 ∷ fact.value) (59 ∷ rest)) in
    let cut : slice_split is_semicolon (piece ++ 59 ∷ rest) ≡ piece ∷ slice_split is_semicolon rest = slice_split_at is_semicolon piece 59 rest (all_fail is_semicolon piece lacking) refl in
    let parts = pieces is_semicolon rest in
    let later : read_facts (parts.first ∷ parts.more) ≡ Some facts = ap read_facts (sym parts.pieces_are) ∙ says_split facts (All-tail IsFact fact facts all) in
    ap (λ l. read_facts (slice_split is_semicolon l)) text_is ∙ ap read_facts cut ∙ ap (λ l. read_facts (piece ∷ l)) parts.pieces_are
    ∙ piece_read fact parts.first parts.more facts is later

-- ---- an entry

listed_says : (name : List ℕ) (facts : List Fact) (entry : Listed) → listed_by name facts ≡ Some entry
    → (size modify : Option ℕ) × (fact_value number_value (first_value (fact_word Size) facts) ≡ Some size)
    × (fact_value moment_value (first_value (fact_word Modify) facts) ≡ Some modify) × (listed_as name facts size modify ≡ entry)
listed_says name facts entry e =
    let step = then_is (fact_value number_value (first_value (fact_word Size) facts)) (λ size. option_map (listed_as name facts size) (fact_value moment_value (first_value (fact_word Modify) facts))) entry e in
    let last = map_is (listed_as name facts step.0) (fact_value moment_value (first_value (fact_word Modify) facts)) entry step.2 in
    (step.0, last.0, step.1, last.1, last.2)

-- each value says what such an entry has
says_facts : (name : List ℕ) (facts : List Fact) (size modify : Option ℕ) → fact_value number_value (first_value (fact_word Size) facts) ≡ Some size
    → fact_value moment_value (first_value (fact_word Modify) facts) ≡ Some modify → (fact : FactName) → SaysFact (listed_as name facts size modify) fact (first_value (fact_word fact) facts)
says_facts name facts size modify size_is modify_is Kind = refl
says_facts name facts size modify size_is modify_is Size = size_is
says_facts name facts size modify size_is modify_is Modify = modify_is
says_facts name facts size modify size_is modify_is Perm = refl

pub entry_says : (line : List ℕ) (entry : Listed) → entry_value line ≡ Some entry → SaysListed line entry
unfolding entry_value
entry_says line entry e =
    let before : List ℕ = before_first is_space line in
    let name : List ℕ = after_first is_space line in
    let step = then_is (then_some (has_entry line) (slice_split is_semicolon before)) (λ pieces. and_then (read_facts pieces) (listed_by name)) entry e in
    let first = given_is (has_entry line) (slice_split is_semicolon before) step.0 step.1 in
    let tests = both _ _ first.0 in
    let second = then_is (read_facts step.0) (listed_by name) entry step.2 in
    let facts = split_says before second.0 (ap read_facts first.1 ∙ second.1) in
    by_cut second.0 tests.0 tests.1 facts (listed_says name second.0 entry second.2) (cut_first is_space line)
  where
    by_cut : (facts : List Fact) → list_any is_space line ≡ true → IsPathText (after_first is_space line) → AreFacts (before_first is_space line) facts
        → (size modify : Option ℕ) × (fact_value number_value (first_value (fact_word Size) facts) ≡ Some size)
        × (fact_value moment_value (first_value (fact_word Modify) facts) ≡ Some modify) × (listed_as (after_first is_space line) facts size modify ≡ entry)
        → (Fails is_space line × (after_first is_space line ≡ [])) ⊎ IsCut is_space line → SaysListed line entry
    by_cut facts any sayable are said (inl none) = absurd (let never : true ≡ false = sym any ∙ none_passes is_space line none.0 in cc)
    by_cut facts any sayable are (size, modify, size_is, modify_is, entry_is) (inr cut) =
        let space : cut.octet ≡ 32 = eqb-true cut.octet 32 cut.passes in
        let name : List ℕ = after_first is_space line in
        let P : List ℕ → Type 0 = λ l. Lacks l 32 in
        subst (SaysListed line) entry_is (record {
          texts = λ fact. first_value (fact_word fact) facts;
          parts = record {
            facts = facts;
            each = are.0;
            spaceless = subst P are.1 (lacks 32 (before_first is_space line) cut.fails);
            written = cut.text_is ∙ (λ i. are.1 i ++ space i ∷ name);
            found = λ fact. refl;
          };
          named = sayable;
          says = says_facts name facts size modify size_is modify_is;
        })

same_listed : (x y : Listed) → x.name ≡ y.name → x.kind ≡ y.kind → x.size ≡ y.size → x.modify ≡ y.modify → x.perm ≡ y.perm → x ≡ y
same_listed x y name kind size modify perm i = record { name = name i; kind = kind i; size = size i; modify = modify i; perm = perm i }

pub says_entry : (line : List ℕ) (entry : Listed) → SaysListed line entry → entry_value line ≡ Some entry
unfolding entry_value
says_entry line entry s =
    let p = s.parts in
    let before : List ℕ = facts_text p.facts in
    let whole : List ℕ = before ++ 32 ∷ entry.name in
    let cut = first_cut is_space before 32 entry.name (fails 32 before p.spaceless) refl in
    let any = one_passes is_space before 32 entry.name refl in
    let sayable : IsPathText (after_first is_space whole) = subst IsPathText (sym cut.1) s.named in
    let found : then_some (has_entry whole) (slice_split is_semicolon (before_first is_space whole)) ≡ Some (slice_split is_semicolon before) =
    is_given (has_entry whole) (slice_split is_semicolon (before_first is_space whole)) (and_both _ _ any sayable) ∙ ap (λ l. Some (slice_split is_semicolon l)) cut.0 in
    let size : fact_value number_value (first_value (fact_word Size) p.facts) ≡ Some entry.size = ap (fact_value number_value) (p.found Size) ∙ s.says Size in
    let modify : fact_value moment_value (first_value (fact_word Modify) p.facts) ≡ Some entry.modify =
    ap (fact_value moment_value) (p.found Modify) ∙ s.says Modify in
    let made : listed_as entry.name p.facts entry.size entry.modify ≡ entry =
    same_listed (listed_as entry.name p.facts entry.size entry.modify) entry refl (ap (option_map kind_word) (p.found Kind) ∙ sym (s.says Kind)) refl refl (p.found Perm ∙ sym (s.says Perm)) in
    let listed : listed_by entry.name p.facts ≡ Some entry =
    is_then (fact_value number_value (first_value (fact_word Size) p.facts)) (λ size. option_map (listed_as entry.name p.facts size) (fact_value moment_value (first_value (fact_word Modify) p.facts))) entry.size entry size
    (ap (option_map (listed_as entry.name p.facts entry.size)) modify ∙ ap Some made) in
    let named : listed_by (after_first is_space whole) p.facts ≡ Some entry = ap (λ l. listed_by l p.facts) cut.1 ∙ listed in
    let facts : and_then (read_facts (slice_split is_semicolon before)) (listed_by (after_first is_space whole)) ≡ Some entry =
    is_then (read_facts (slice_split is_semicolon before)) (listed_by (after_first is_space whole)) p.facts entry (says_split p.facts p.each) named in
    ap entry_value p.written
    ∙ is_then (then_some (has_entry whole) (slice_split is_semicolon (before_first is_space whole))) (λ pieces. and_then (read_facts pieces) (listed_by (after_first is_space whole))) (slice_split is_semicolon before) entry found facts
