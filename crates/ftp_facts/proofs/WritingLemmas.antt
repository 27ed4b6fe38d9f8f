-- What is written into a sink, text after text.
use Rattle.std.proofs.Common.{◌≡◌, ℕ, ◌+◌, ◌<◌, ◌≤◌, true, false, List, [], ◌++◌, length, drop, get_or, Option, None, refl, sym, ap, subst, ◌∙◌, arith, append_assoc, append-nil, length-append}
use Rattle.std.proofs.lemmas.List.{drop_all, drop_more}
use Rattle.ftp_facts.specs.Fact.{facts_text, given}
use Rattle.ftp_facts.specs.Line.{facts_among, facts_of, if_chosen, said_texts}
use Rattle.ftp_facts.specs.Listed.{Listed, fact_text_in}
use Rattle.ftp_facts.specs.Name.{fact_names, fact_word, is_in_force}
use Rattle.ftp_facts.specs.Sink.{WritesPart, GoesOn, Writes}
use Rattle.ftp_facts.specs.declared.name.FactName.{FactName}
use Rattle.ftp_facts.specs.declared.name.Facts.{Facts}
use Rattle.ftp_facts.proofs.FactLemmas.{facts_text-append}

pub GoesOn-trans : (a b c : List ℕ) → GoesOn a b → GoesOn b c → GoesOn a c
GoesOn-trans a b c first next =
    (first.0 ++ next.0, next.1 ∙ ap (λ front. front ++ next.0) first.1 ∙ append_assoc a first.0 next.0)

module _ {S : Type 0} (held : S → List ℕ) (form : List ℕ → List ℕ) (left : S → ℕ) where
  -- a text and then another are one
  pub writes_then : ((front back : List ℕ) → form (front ++ back) ≡ form front ++ form back) → (a b : List ℕ) (old mid new : S) → Writes held form left a old mid
      → Writes held form left b mid new → Writes held form left (a ++ b) old new
  writes_then joins a b old mid new one other = record {
    octets = other.octets ∙ ap (λ l. l ++ form b) one.octets ∙ append_assoc (held old) (form a) (form b) ∙ ap (λ l. held old ++ l) (sym (joins a b));
    room = omega (arith, one.room, other.room, length-append a b);
  }

  -- no text
  pub writes_none : form [] ≡ [] → (s : S) → Writes held form left [] s s
  writes_none empty s = record { octets = sym (append-nil (held s)) ∙ ap (λ l. held s ++ l) (sym empty); room = omega arith }

  -- the second of two texts is refused
  pub breaks_then : (a b : List ℕ) (old mid new : S) → Writes held form left a old mid → WritesPart held left b mid new → WritesPart held left (a ++ b) old new
  breaks_then a b old mid new one other = record {
    front = GoesOn-trans (held old) (held mid) (held new) (form a, one.octets) other.front;
    full = omega (arith, one.room, other.full, length-append a b);
  }

  -- the first is
  pub breaks_first : (a b : List ℕ) (old new : S) → WritesPart held left a old new → WritesPart held left (a ++ b) old new
  breaks_first a b old new one = record { front = one.front; full = omega (arith, one.full, length-append a b) }

  -- ---- facts, one after another

  -- what of the facts of these names is written, and those from a place on are still to be
  pub record SoFar (texts : FactName → Option (List ℕ)) (names : List FactName) (place : ℕ) (old now : S) : Type 0 where
    pub done : List ℕ
    pub whole : facts_text (facts_among texts names) ≡ done ++ facts_text (facts_among texts (drop place names))
    pub written : Writes held form left done old now

  -- the text of one fact
  abbrev pub fact_at : (FactName → Option (List ℕ)) → FactName → List ℕ
  fact_at texts name = facts_text (given (fact_word name) (texts name))

  -- those from a place on are the one there and the rest
  one_more : (texts : FactName → Option (List ℕ)) (names : List FactName) (place : ℕ) (d : FactName) → place < length names
      → facts_text (facts_among texts (drop place names)) ≡ fact_at texts (get_or names place d) ++ facts_text (facts_among texts (drop (place + 1) names))
  one_more texts names place d within =
      let name = get_or names place d in
      ap (λ l. facts_text (facts_among texts l)) (drop_more names place d within)
      ∙ facts_text-append (given (fact_word name) (texts name)) (facts_among texts (drop (place + 1) names))

  pub so_far_first : form [] ≡ [] → (texts : FactName → Option (List ℕ)) (names : List FactName) (s : S) → SoFar texts names 0 s s
  so_far_first empty texts names s = record { done = []; whole = refl; written = writes_none empty s }

  so_far_more : ((front back : List ℕ) → form (front ++ back) ≡ form front ++ form back) → (texts : FactName → Option (List ℕ)) (names : List FactName) (place : ℕ) (d : FactName) (old mid new : S)
      → place < length names → SoFar texts names place old mid → Writes held form left (fact_at texts (get_or names place d)) mid new → SoFar texts names (place + 1) old new
  so_far_more joins texts names place d old mid new within so one =
      let name = get_or names place d in
      record {
        done = so.done ++ fact_at texts name;
        whole = so.whole ∙ ap (λ l. so.done ++ l) (one_more texts names place d within) ∙ sym (append_assoc so.done (fact_at texts name) (facts_text (facts_among texts (drop (place + 1) names))));
        written = writes_then joins so.done (fact_at texts name) old mid new so.written one;
      }

  so_far_passed : (texts : FactName → Option (List ℕ)) (names : List FactName) (place : ℕ) (d : FactName) (old now : S) → place < length names
      → texts (get_or names place d) ≡ None → SoFar texts names place old now → SoFar texts names (place + 1) old now
  so_far_passed texts names place d old now within none so =
      let empty : fact_at texts (get_or names place d) ≡ [] = ap (λ text. facts_text (given (fact_word (get_or names place d)) text)) none in
      record {
        done = so.done;
        whole = so.whole ∙ ap (λ l. so.done ++ l) (one_more texts names place d within ∙ ap (λ l. l ++ facts_text (facts_among texts (drop (place + 1) names))) empty);
        written = so.written;
      }

  pub so_far_end : (texts : FactName → Option (List ℕ)) (names : List FactName) (place : ℕ) (old now : S) → length names ≤ place → SoFar texts names place old now
      → Writes held form left (facts_text (facts_among texts names)) old now
  so_far_end texts names place old now end so =
      let whole : facts_text (facts_among texts names) ≡ so.done =
      so.whole ∙ ap (λ l. so.done ++ facts_text (facts_among texts l)) (drop_all place names end) ∙ append-nil so.done in
      let P : List ℕ → Type 0 = λ l. Writes held form left l old now in
      subst P (sym whole) so.written

  so_far_breaks : (texts : FactName → Option (List ℕ)) (names : List FactName) (place : ℕ) (d : FactName) (old mid new : S) → place < length names
      → SoFar texts names place old mid → WritesPart held left (fact_at texts (get_or names place d)) mid new → WritesPart held left (facts_text (facts_among texts names)) old new
  so_far_breaks texts names place d old mid new within so one =
      let name = get_or names place d in
      let rest = facts_text (facts_among texts (drop (place + 1) names)) in
      let whole = so.whole ∙ ap (λ l. so.done ++ l) (one_more texts names place d within) in
      let P : List ℕ → Type 0 = λ l. WritesPart held left l old new in
      subst P (sym whole) (breaks_then so.done (fact_at texts name ++ rest) old mid new so.written (breaks_first (fact_at texts name) rest mid new one))

  -- ---- the facts of an entry that are in force

  module _ (facts : Facts) (entry : Listed) (place : ℕ) (d : FactName) (within : place < length fact_names) where
    abbrev name : FactName
    name = get_or fact_names place d

    -- one that is in force is written
    pub chosen_more : ((front back : List ℕ) → form (front ++ back) ≡ form front ++ form back) → (value : Option (List ℕ)) (old mid new last : S) → true ≡ is_in_force facts name
        → value ≡ fact_text_in entry name → SoFar (said_texts facts entry) fact_names place old mid → Writes held form left (facts_text (given (fact_word name) value)) mid new → last ≡ new
        → SoFar (said_texts facts entry) fact_names (place + 1) old last
    chosen_more joins value old mid new last chosen is so one same =
        let said : value ≡ said_texts facts entry name = is ∙ ap (λ b. if_chosen b (fact_text_in entry name)) chosen in
        let P : Option (List ℕ) → Type 0 = λ text. Writes held form left (facts_text (given (fact_word name) text)) mid new in
        let Q : S → Type 0 = λ s. SoFar (said_texts facts entry) fact_names (place + 1) old s in
        subst Q (sym same) (so_far_more joins (said_texts facts entry) fact_names place d old mid new within so (subst P said one))

    -- one that is not is passed over
    pub chosen_passed : (old now last : S) → false ≡ is_in_force facts name → SoFar (said_texts facts entry) fact_names place old now → last ≡ now
        → SoFar (said_texts facts entry) fact_names (place + 1) old last
    chosen_passed old now last other so same =
        let none : said_texts facts entry name ≡ None = ap (λ b. if_chosen b (fact_text_in entry name)) (sym other) in
        let Q : S → Type 0 = λ s. SoFar (said_texts facts entry) fact_names (place + 1) old s in
        subst Q (sym same) (so_far_passed (said_texts facts entry) fact_names place d old now within none so)

    -- one that is refused breaks them off
    pub chosen_breaks : (value : Option (List ℕ)) (old mid new : S) → true ≡ is_in_force facts name → value ≡ fact_text_in entry name → SoFar (said_texts facts entry) fact_names place old mid
        → WritesPart held left (facts_text (given (fact_word name) value)) mid new → WritesPart held left (facts_text (facts_of (said_texts facts entry))) old new
    chosen_breaks value old mid new chosen is so one =
        let said : value ≡ said_texts facts entry name = is ∙ ap (λ b. if_chosen b (fact_text_in entry name)) chosen in
        let P : Option (List ℕ) → Type 0 = λ text. WritesPart held left (facts_text (given (fact_word name) text)) mid new in
        so_far_breaks (said_texts facts entry) fact_names place d old mid new within so (subst P said one)
