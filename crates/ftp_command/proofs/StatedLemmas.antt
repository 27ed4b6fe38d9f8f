-- A command that a line says is one that has a line to be written.
use Rattle.std.proofs.Common.{◌≡◌, ◌==◌, ◌⊎◌, inl, inr, ℕ, zero, suc, ◌+◌, ◌^◌, ◌<◌, ◌≤◌, ◌&&◌, Bool, true, false, not, cond, List, [], ◌∷◌, length, take, drop, refl, sym, ap, subst, ◌∙◌, Option, Some, None, arith, count_by, eqb}
use Rattle.std.specs.Char.{to_ascii_lowercase}
use Rattle.std.specs.List.{list_all, position_or_len}
use Rattle.std.proofs.lemmas.Bool.{false≢true}
use Rattle.std.proofs.lemmas.List.Sums.{sum_by-cons}
use Rattle.std.proofs.lemmas.List.{length-map}
use Rattle.ftp_path.specs.Path.{IsPathText}
use Rattle.ftp_command.specs.Argument.{SaysSizes, argument, begins_with, behind_word, is_space, trimmed, without, without_options, word}
use Rattle.ftp_command.specs.Command.{Says, SaysValue, value_of, verb_of}
use Rattle.ftp_command.specs.Line.{IsStatedValue, IfShort, IsLine, IsListed, IsShort, IsStated, IsWords, is_no_feed}
use Rattle.ftp_endpoint.specs.Number.{SaysNumber}
use Rattle.ftp_command.specs.Verb.{SameLetters, letters, old_letters}
use Rattle.ftp_command.specs.declared.command.Command.{Command}
use Rattle.ftp_command.specs.declared.value.Value.{Value}
use Rattle.ftp_command.specs.declared.value.Value.TheVariants as value
use Rattle.ftp_endpoint.specs.Written.{IsV4}
use Rattle.ftp_endpoint.specs.declared.endpoint.Endpoint.{Endpoint}
use Rattle.ftp_command.proofs.ArgumentLemmas.{shorter, without-step, trimmed-cons}
use Rattle.ftp_command.proofs.VerbLemmas.{four_letters, is_wordy}
use Rattle.ftp_endpoint.proofs.NumberLemmas.{value_lt}

abbrev is_return : ℕ → Bool
is_return c = c == 13

-- a line by its first octet
word-space : (c : ℕ) (cs : List ℕ) → is_space c ≡ true → word (c ∷ cs) ≡ []
word-space c cs e = ap (λ b. take (cond (not b) (1 + position_or_len is_space cs) 0) (c ∷ cs)) e

argument-space : (c : ℕ) (cs : List ℕ) → is_space c ≡ true → argument (c ∷ cs) ≡ cs
argument-space c cs e = ap (λ b. drop (cond (not b) (1 + position_or_len is_space cs) 0 + 1) (c ∷ cs)) e

word-letter : (c : ℕ) (cs : List ℕ) → is_space c ≡ false → word (c ∷ cs) ≡ c ∷ word cs
word-letter c cs e =
    let one : 1 + position_or_len is_space cs ≡ suc (position_or_len is_space cs) = omega arith in
    ap (λ b. take (cond (not b) (1 + position_or_len is_space cs) 0) (c ∷ cs)) e ∙ ap (λ n. take n (c ∷ cs)) one

argument-letter : (c : ℕ) (cs : List ℕ) → is_space c ≡ false → argument (c ∷ cs) ≡ argument cs
argument-letter c cs e =
    let one : 1 + position_or_len is_space cs + 1 ≡ suc (position_or_len is_space cs + 1) = omega arith in
    ap (λ b. drop (cond (not b) (1 + position_or_len is_space cs) 0 + 1) (c ∷ cs)) e ∙ ap (λ n. drop n (c ∷ cs)) one

count-cons : (c : ℕ) (cs : List ℕ) → count_by is_return (c ∷ cs) ≡ cond (is_return c) 1 0 + count_by is_return cs
count-cons c cs = sum_by-cons (λ x. cond (is_return x) 1 0) c cs

count-more : (c : ℕ) (cs : List ℕ) → count_by is_return cs ≤ count_by is_return (c ∷ cs)
count-more c cs = omega (arith, count-cons c cs)

counted-by : (c : ℕ) (cs : List ℕ) (b : Bool) → is_space c ≡ b → 0 < length (argument (c ∷ cs)) → (0 < length (argument cs) → (length cs ≡ length (word cs) + (1 + length (argument cs))) × (count_by is_return (argument cs) ≤ count_by is_return cs)) → (length (c ∷ cs) ≡ length (word (c ∷ cs)) + (1 + length (argument (c ∷ cs)))) × (count_by is_return (argument (c ∷ cs)) ≤ count_by is_return (c ∷ cs))
counted-by c cs true e some rest =
    let w = word-space c cs e in
    let a = argument-space c cs e in
    (omega (arith, ap length w, ap length a), omega (arith, ap (count_by is_return) a, count-more c cs))
counted-by c cs false e some rest =
    let w = word-letter c cs e in
    let a = argument-letter c cs e in
    let inner = rest (omega (arith, some, ap length a)) in
    (omega (arith, inner.0, ap length w, ap length a), omega (arith, inner.1, ap (count_by is_return) a, count-more c cs))

feed-tail : (c : ℕ) (cs : List ℕ) (b : Bool) → is_no_feed c ≡ b → list_all is_no_feed (c ∷ cs) ≡ true → list_all is_no_feed cs ≡ true
feed-tail c cs true e h = sym (ap (λ b. b && list_all is_no_feed cs) e) ∙ h
feed-tail c cs false e h = absurd (false≢true (sym (ap (λ b. b && list_all is_no_feed cs) e) ∙ h))

feed-by : (c : ℕ) (cs : List ℕ) (b : Bool) → is_space c ≡ b → list_all is_no_feed (c ∷ cs) ≡ true → (list_all is_no_feed cs ≡ true → list_all is_no_feed (argument cs) ≡ true) → list_all is_no_feed (argument (c ∷ cs)) ≡ true
feed-by c cs true e h rest = ap (list_all is_no_feed) (argument-space c cs e) ∙ feed-tail c cs (is_no_feed c) refl h
feed-by c cs false e h rest = ap (list_all is_no_feed) (argument-letter c cs e) ∙ rest (feed-tail c cs (is_no_feed c) refl h)

-- what is counted in a text with a space in front of it
counted : (line : List ℕ) → 0 < length (argument line) → (length line ≡ length (word line) + (1 + length (argument line))) × (count_by is_return (argument line) ≤ count_by is_return line)
counted [] some = absurd (omega arith)
counted (c ∷ cs) some = counted-by c cs (is_space c) refl some (counted cs)

-- the words of a line are no line of their own
feed-free : (line : List ℕ) → list_all is_no_feed line ≡ true → list_all is_no_feed (argument line) ≡ true
feed-free [] h = refl
feed-free (c ∷ cs) h = feed-by c cs (is_space c) refl h (feed-free cs)

-- a text without the spaces at its end: it is shorter, of its octets, and is not cut again
pub record IsCut (text : List ℕ) : Type 0 where
  pub length_le : length (trimmed text) ≤ length text
  pub count_le : count_by is_return (trimmed text) ≤ count_by is_return text
  pub feeds : list_all is_no_feed text ≡ true → list_all is_no_feed (trimmed text) ≡ true
  pub blank : list_all is_space text ≡ false → list_all is_space (trimmed text) ≡ false
  pub again : trimmed (trimmed text) ≡ trimmed text

cut-all : (c : ℕ) (cs : List ℕ) → trimmed (c ∷ cs) ≡ [] → list_all is_space (c ∷ cs) ≡ true → IsCut (c ∷ cs)
cut-all c cs none all = record {
  length_le = omega (arith, ap length none);
  count_le = omega (arith, ap (count_by is_return) none);
  feeds = λ h. ap (list_all is_no_feed) none;
  blank = λ h. absurd (false≢true (sym h ∙ all));
  again = ap trimmed none ∙ sym none;
}

still : (c : ℕ) (cs : List ℕ) (b : Bool) → is_space c ≡ b → list_all is_space (c ∷ cs) ≡ false → IsCut cs → list_all is_space (c ∷ trimmed cs) ≡ false
still c cs true e some rest =
    ap (λ x. x && list_all is_space (trimmed cs)) e ∙ rest.blank (sym (ap (λ x. x && list_all is_space cs) e) ∙ some)
still c cs false e some rest = ap (λ x. x && list_all is_space (trimmed cs)) e

both : (c : ℕ) (cs : List ℕ) → is_no_feed c ≡ true → list_all is_no_feed cs ≡ true → list_all is_no_feed (c ∷ cs) ≡ true
both c cs e h = ap (λ x. x && list_all is_no_feed cs) e ∙ h

head_free : (c : ℕ) (cs : List ℕ) (b : Bool) → is_no_feed c ≡ b → list_all is_no_feed (c ∷ cs) ≡ true → is_no_feed c ≡ true
head_free c cs true e h = e
head_free c cs false e h = absurd (false≢true (sym (ap (λ x. x && list_all is_no_feed cs) e) ∙ h))

cut-keeps : (c : ℕ) (cs : List ℕ) → trimmed (c ∷ cs) ≡ c ∷ trimmed cs → list_all is_space (c ∷ cs) ≡ false → IsCut cs → IsCut (c ∷ cs)
cut-keeps c cs front some rest =
    let not_all : list_all is_space (c ∷ trimmed cs) ≡ false = still c cs (is_space c) refl some rest in
    record {
      length_le = omega (arith, ap length front, rest.length_le);
      count_le = omega (arith, ap (count_by is_return) front, count-cons c cs, count-cons c (trimmed cs), rest.count_le);
      feeds = λ h. ap (list_all is_no_feed) front ∙ both c (trimmed cs) (head_free c cs (is_no_feed c) refl h) (rest.feeds (feed-tail c cs (is_no_feed c) refl h));
      blank = λ h. ap (list_all is_space) front ∙ not_all;
      again = ap trimmed front ∙ (trimmed-cons c (trimmed cs) false not_all ∙ (ap (λ t. c ∷ t) rest.again ∙ sym front));
    }

cut-by : (c : ℕ) (cs : List ℕ) (b : Bool) → list_all is_space (c ∷ cs) ≡ b → IsCut cs → IsCut (c ∷ cs)
cut-by c cs true e rest = cut-all c cs (trimmed-cons c cs true e) e
cut-by c cs false e rest = cut-keeps c cs (trimmed-cons c cs false e) e rest

pub is_cut : (text : List ℕ) → IsCut text
is_cut [] = record { length_le = omega arith; count_le = omega arith; feeds = λ h. refl; blank = λ h. h; again = refl }
is_cut (c ∷ cs) = cut-by c cs (list_all is_space (c ∷ cs)) refl (is_cut cs)

-- words that stand behind a verb of four letters
four : (w v : List ℕ) → length v ≡ 4 → SameLetters w v → length w ≡ 4
four w v is h = omega (arith, ap length h, length-map w to_ascii_lowercase, length-map v to_ascii_lowercase, is)

four_of : (w v old : List ℕ) → (length v ≡ 4) × (length old ≡ 4) → SameLetters w v ⊎ SameLetters w old → length w ≡ 4
four_of w v old is (inl h) = four w v is.0 h
four_of w v old is (inr h) = four w old is.1 h

words_fit : (line value : List ℕ) → length (word line) ≡ 4 → IsLine line → trimmed (argument line) ≡ value → 1 ≤ length value → IsWords value
words_fit line value long is at some =
    let a : List ℕ = argument line in
    let cut = is_cut a in
    let count = counted line (omega (arith, ap length at, cut.length_le, some)) in
    let P : List ℕ → Type 0 = λ x. trimmed x ≡ x in
    let Q : List ℕ → Type 0 = λ x. list_all is_no_feed x ≡ true in (
      some,
      subst P at cut.again,
      subst Q at (cut.feeds (feed-free line is.0)),
      omega (arith, count.0, count.1, cut.length_le, cut.count_le, ap length at, ap (count_by is_return) at, is.1, long),
    )

-- what is left of an argument of LIST begins with no option
no_option-by : (n x : ℕ) (xs : List ℕ) (b : Bool) → eqb x 45 ≡ b → (eqb x 45 ≡ true → begins_with 45 (without n (behind_word (x ∷ xs))) ≡ false) → begins_with 45 (without (suc n) (x ∷ xs)) ≡ false
no_option-by n x xs true e rest = ap (begins_with 45) (without-step n (x ∷ xs) true e) ∙ rest e
no_option-by n x xs false e rest = ap (begins_with 45) (without-step n (x ∷ xs) false e) ∙ e

no_option : (n : ℕ) (text : List ℕ) → length text ≤ n → begins_with 45 (without n text) ≡ false
no_option zero [] h = refl
no_option zero (x ∷ xs) h = absurd (omega arith)
no_option (suc n) [] h = refl
no_option (suc n) (x ∷ xs) h = no_option-by n x xs (eqb x 45) refl (λ e. no_option n (behind_word (x ∷ xs)) (omega (arith, shorter x xs e)))

is_listed : (a path : List ℕ) → (without_options a ≡ path) × IsPathText path → IsListed path
is_listed a path h = (h.1, sym (ap (begins_with 45) h.0) ∙ no_option (length a) a (omega arith))

is_short : (text : List ℕ) (n : ℕ) → SaysNumber text n → n < 10 ^ 18
is_short text n h = omega (arith, value_lt text h.0.0.1 h.0.1, h.1)

are_short : (text : List ℕ) (m : ℕ) (o : Option ℕ) → SaysSizes text m o → IsShort m × IfShort o
are_short text m None h = (is_short _ m h.0, tt)
are_short text m (Some n) h = (is_short _ m h.0, is_short h.1.digits n h.1.number)

-- a value that the argument of a line says has a line to be written
stated_value : (line : List ℕ) (x : Value (List ℕ)) → (is_wordy x ≡ true → length (word line) ≡ 4) → IsLine line → SaysValue (argument line) x → IsStatedValue x
stated_value line (value.Name x) four is h = h.1
stated_value line (value.Password x) four is h = h.1
stated_value line (value.Words x) four is h = words_fit line x (four refl) is h.0 h.1
stated_value line (value.WordsOrNone None) four is h = tt
stated_value line (value.WordsOrNone (Some x)) four is h = words_fit line x (four refl) is h.0 h.1
stated_value line (value.Path x) four is h = h.1
stated_value line (value.PathOrNone None) four is h = tt
stated_value line (value.PathOrNone (Some x)) four is h = h.1
stated_value line (value.Listed None) four is h = tt
stated_value line (value.Listed (Some x)) four is h = is_listed (argument line) x h
stated_value line value.Nothing four is h = tt
stated_value line (value.Six x) four is h = let P : Endpoint → Type 0 = λ e. IsV4 e.host in subst P (sym h.value) tt
stated_value line (value.Extended x) four is h = omega (arith, h.shape.ends.number.0.1, h.shape.ends.number.1)
stated_value line (value.Family x) four is h = tt
stated_value line (value.Kind x) four is h = tt
stated_value line (value.Structure x) four is h = tt
stated_value line (value.Mode x) four is h = tt
stated_value line (value.Number n) four is h = is_short (trimmed (argument line)) n h
stated_value line (value.Sizes m o) four is h = are_short (trimmed (argument line)) m o h

-- a command that some line says has a line to be written
pub stated : (line : List ℕ) (v : Command (List ℕ)) → IsLine line → Says line v → IsStated v
stated line v is h =
    let four : is_wordy (value_of v) ≡ true → length (word line) ≡ 4 =
    λ words. four_of (word line) (letters (verb_of v)) (old_letters (verb_of v)) (four_letters v words) h.0 in
    stated_value line (value_of v) four is h.1
