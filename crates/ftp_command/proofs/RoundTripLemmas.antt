-- The line that is written for a command says it.
use Rattle.std.proofs.Common.{◌≡◌, ◌⊎◌, inl, inr, ℕ, suc, ◌+◌, ◌/◌, ◌%◌, ◌^◌, ◌<◌, ◌≤◌, ◌++◌, ◌&&◌, Bool, true, false, not, cond, List, [], ◌∷◌, length, take, drop, refl, sym, ap, subst, ◌∙◌, Some, None, arith, codes, decimal}
use Rattle.std.specs.Char.{digit_value}
use Rattle.std.specs.Int.{IsInRange}
use Rattle.std.specs.List.{list_all, prefix_len}
use Rattle.std.specs.Str.Parse.{AllDigits}
use Rattle.std.proofs.lemmas.Bool.{false≢true}
use Rattle.std.proofs.lemmas.Bool.Decides.{nat_tests}
use Rattle.std.proofs.lemmas.Fmt.{decimal_is_IsNumeral}
use Rattle.std.proofs.lemmas.List.Folds.{list_all-append}
use Rattle.std.proofs.Math.Bool.{and-false}
use Rattle.std.proofs.Math.Seq.{take-append_seam, drop-append-add, take-length}
use Rattle.std.proofs.lemmas.Str.Parse.{digit_from_value}
use Rattle.ftp_command.specs.Argument.{SaysLongest, SaysSizes, argument, is_space, trimmed, word}
use Rattle.ftp_command.specs.Command.{Argues, Says, SaysValue, value_of, verb_of}
use Rattle.ftp_command.specs.Line.{IsStatedValue, IsStated, IsTyped, IsTypedValue, line_of, spaced, tail, tail_of}
use Rattle.ftp_command.specs.Verb.{Names, letters}
use Rattle.ftp_command.specs.declared.command.Command.{Command}
use Rattle.ftp_command.specs.declared.command.Command.TheVariants as command
use Rattle.ftp_settings.specs.declared.representation.Kind.TheVariants.{Ascii, Image}
use Rattle.ftp_settings.specs.declared.representation.Mode.TheVariants.{Stream, Block}
use Rattle.ftp_command.specs.declared.command.Passive.TheVariants.{Any, Ipv4, Ipv6, Only}
use Rattle.ftp_settings.specs.declared.representation.Structure.TheVariants.{File, Record}
use Rattle.ftp_command.specs.declared.verb.Verb.{Verb}
use Rattle.ftp_command.specs.declared.value.Value.{Value}
use Rattle.ftp_command.specs.declared.value.Value.TheVariants as value
use Rattle.ftp_command.proofs.ArgumentLemmas.{without-done}
use Rattle.ftp_command.proofs.VerbLemmas.{every_passes}
use Rattle.ftp_endpoint.specs.Endpoint.{SaysSix}
use Rattle.ftp_endpoint.specs.Host.{SaysExtended}
use Rattle.ftp_endpoint.specs.Number.{SaysNumber, behind_digits}
use Rattle.ftp_endpoint.specs.Written.{IsTypedHost, address_text, extended_text, numbers_text, six_text}
use Rattle.ftp_endpoint.specs.declared.endpoint.Endpoint.{Endpoint}
use Rattle.ftp_endpoint.specs.declared.host.Host.{Host}
use Rattle.ftp_endpoint.specs.declared.host.Host.TheVariants.{V4, V6}
use Rattle.ftp_endpoint.proofs.WrittenLemmas.{behind_all, behind_of, front_all, front_of, one_is, says_extended, says_number, says_six, two_is}

-- a word before a space
abbrev is_letter : ℕ → Bool
is_letter c = not (is_space c)

one-suc : (n : ℕ) → 1 + n ≡ suc n
one-suc n = omega arith

word_len-by : (c : ℕ) (l a : List ℕ) (b : Bool) → is_letter c ≡ b → list_all is_letter (c ∷ l) ≡ true → (list_all is_letter l ≡ true → prefix_len is_letter (l ++ 32 ∷ a) ≡ length l) → prefix_len is_letter (c ∷ (l ++ 32 ∷ a)) ≡ length (c ∷ l)
word_len-by c l a false e h rest = absurd (false≢true (sym (ap (λ x. x && list_all is_letter l) e) ∙ h))
word_len-by c l a true e h rest =
    let inner = rest (sym (ap (λ x. x && list_all is_letter l) e) ∙ h) in
    ap (λ x. cond x (1 + prefix_len is_letter (l ++ 32 ∷ a)) 0) e ∙ (ap (λ n. 1 + n) inner ∙ one-suc (length l))

word_len : (l a : List ℕ) → list_all is_letter l ≡ true → prefix_len is_letter (l ++ 32 ∷ a) ≡ length l
word_len [] a h = refl
word_len (c ∷ l) a h = word_len-by c l a (is_letter c) refl h (word_len l a)

alone_len-by : (c : ℕ) (l : List ℕ) (b : Bool) → is_letter c ≡ b → list_all is_letter (c ∷ l) ≡ true → (list_all is_letter l ≡ true → prefix_len is_letter l ≡ length l) → prefix_len is_letter (c ∷ l) ≡ length (c ∷ l)
alone_len-by c l false e h rest = absurd (false≢true (sym (ap (λ x. x && list_all is_letter l) e) ∙ h))
alone_len-by c l true e h rest =
    let inner = rest (sym (ap (λ x. x && list_all is_letter l) e) ∙ h) in
    ap (λ x. cond x (1 + prefix_len is_letter l) 0) e ∙ (ap (λ n. 1 + n) inner ∙ one-suc (length l))

alone_len : (l : List ℕ) → list_all is_letter l ≡ true → prefix_len is_letter l ≡ length l
alone_len [] h = refl
alone_len (c ∷ l) h = alone_len-by c l (is_letter c) refl h (alone_len l)

pub word_of : (l a : List ℕ) → list_all is_letter l ≡ true → word (l ++ 32 ∷ a) ≡ l
word_of l a h = ap (λ n. take n (l ++ 32 ∷ a)) (word_len l a h) ∙ take-append_seam l (32 ∷ a)

pub argument_of : (l a : List ℕ) → list_all is_letter l ≡ true → argument (l ++ 32 ∷ a) ≡ a
argument_of l a h = ap (λ n. drop (n + 1) (l ++ 32 ∷ a)) (word_len l a h) ∙ drop-append-add l (32 ∷ a) 1

nil-append : (l : List ℕ) → l ++ [] ≡ l
nil-append [] = refl
nil-append (c ∷ l) = ap (λ x. c ∷ x) (nil-append l)

drop-past : (l : List ℕ) → drop (length l + 1) l ≡ []
drop-past [] = refl
drop-past (c ∷ l) = ap (λ n. drop n (c ∷ l)) (let e : length (c ∷ l) + 1 ≡ suc (length l + 1) = omega arith in e) ∙ drop-past l

pub word_alone : (l : List ℕ) → list_all is_letter l ≡ true → word (l ++ []) ≡ l
word_alone l h = ap word (nil-append l) ∙ (ap (λ n. take n l) (alone_len l h) ∙ take-length l)

pub argument_alone : (l : List ℕ) → list_all is_letter l ≡ true → argument (l ++ []) ≡ []
argument_alone l h = ap argument (nil-append l) ∙ (ap (λ n. drop (n + 1) l) (alone_len l h) ∙ drop-past l)

plain_letters : (v : Verb) → list_all is_letter (letters v) ≡ true
plain_letters = every_passes (λ v. list_all is_letter (letters v)) refl

-- a command is said by its letters, SP and its argument, or by its letters alone
says_with : (v : Command (List ℕ)) (a : List ℕ) → tail_of v ≡ 32 ∷ a → Argues a v → Says (line_of v) v
says_with v a tail h =
    let l : List ℕ = letters (verb_of v) in
    let p = plain_letters (verb_of v) in
    let line : line_of v ≡ l ++ 32 ∷ a = ap (λ t. l ++ t) tail in
    let P : List ℕ → Type 0 = λ w. Names w (verb_of v) in
    let Q : List ℕ → Type 0 = λ x. Argues x v in
    (subst P (sym (ap word line ∙ word_of l a p)) (inl refl), subst Q (sym (ap argument line ∙ argument_of l a p)) h)

says_alone : (v : Command (List ℕ)) → tail_of v ≡ [] → Argues [] v → Says (line_of v) v
says_alone v tail h =
    let l : List ℕ = letters (verb_of v) in
    let p = plain_letters (verb_of v) in
    let line : line_of v ≡ l ++ [] = ap (λ t. l ++ t) tail in
    let P : List ℕ → Type 0 = λ w. Names w (verb_of v) in
    let Q : List ℕ → Type 0 = λ x. Argues x v in
    (subst P (sym (ap word line ∙ word_alone l p)) (inl refl), subst Q (sym (ap argument line ∙ argument_alone l p)) h)

says_spaced : (v : Command (List ℕ)) (a : List ℕ) → tail_of v ≡ spaced a → Argues a v → Says (line_of v) v
says_spaced v [] tail h = says_alone v tail h
says_spaced v (c ∷ cs) tail h = says_with v (c ∷ cs) tail h

-- a text that ends with another octet than SP is not cut
not_blank : (xs ys : List ℕ) → list_all is_space ys ≡ false → list_all is_space (xs ++ ys) ≡ false
not_blank xs ys h = list_all-append is_space xs ys ∙ (ap (λ b. list_all is_space xs && b) h ∙ and-false (list_all is_space xs))

pub trimmed-append : (xs ys : List ℕ) → list_all is_space ys ≡ false → trimmed ys ≡ ys → trimmed (xs ++ ys) ≡ xs ++ ys
trimmed-append [] ys none h = h
trimmed-append (x ∷ xs) ys none h =
    ap (λ b. cond b [] (x ∷ trimmed (xs ++ ys))) (not_blank (x ∷ xs) ys none) ∙ ap (λ t. x ∷ t) (trimmed-append xs ys none h)

-- digits are no spaces
digit_is_no_space : (c : ℕ) → digit_value c < 10 → is_space c ≡ false
digit_is_no_space c small =
    let range : IsInRange 48 57 c = digit_from_value c small in
    grind (arith, nat_tests)

digits_not_blank : (ds : List ℕ) → 0 < length ds → AllDigits 10 ds → list_all is_space ds ≡ false
digits_not_blank [] some all = absurd (omega arith)
digits_not_blank (c ∷ ds) some all = ap (λ b. b && list_all is_space ds) (digit_is_no_space c all.0)

trimmed-digits : (ds : List ℕ) → AllDigits 10 ds → trimmed ds ≡ ds
trimmed-digits [] all = refl
trimmed-digits (c ∷ ds) all =
    ap (λ b. cond b [] (c ∷ trimmed ds)) (digits_not_blank (c ∷ ds) (omega arith) all) ∙ ap (λ t. c ∷ t) (trimmed-digits ds all.1)

-- a text that is not cut, and is not blank
pub record IsKept (text : List ℕ) : Type 0 where
  pub not_blank : list_all is_space text ≡ false
  pub kept : trimmed text ≡ text

kept_behind : (xs ys : List ℕ) → IsKept ys → IsKept (xs ++ ys)
kept_behind xs ys h = record {
  not_blank = not_blank xs ys h.not_blank;
  kept = trimmed-append xs ys h.not_blank h.kept;
}

kept_decimal : (n : ℕ) → n < 2 ^ 64 → IsKept (decimal n)
kept_decimal n small =
    let is = decimal_is_IsNumeral n small in
    record { not_blank = digits_not_blank (decimal n) is.0.0 is.0.1; kept = trimmed-digits (decimal n) is.0.1 }

-- REST and ALLO
says_rest : (n : ℕ) → n < 10 ^ 18 → SaysNumber (trimmed (decimal n)) n
says_rest n small =
    let P : List ℕ → Type 0 = λ x. SaysNumber x n in
    subst P (sym (kept_decimal n (omega (arith, small))).kept) (says_number n small)

says_one_size : (n : ℕ) → n < 10 ^ 18 → SaysSizes (trimmed (decimal n)) n None
says_one_size n small =
    let is = says_number n small in
    let all = is.0.0.1 in
    let P : List ℕ → Type 0 = λ x. SaysNumber x n in
    let Q : List ℕ → Type 0 = λ x. SaysSizes x n None in
    subst Q (sym (kept_decimal n (omega (arith, small))).kept) (subst P (sym (front_all (decimal n) all)) is, behind_all (decimal n) all)

says_two_sizes : (m n : ℕ) → m < 10 ^ 18 → n < 10 ^ 18 → SaysSizes (trimmed (decimal m ++ (codes " R " ++ decimal n))) m (Some n)
says_two_sizes m n first second =
    let is = says_number m first in
    let all = is.0.0.1 in
    let tail : List ℕ = 82 ∷ 32 ∷ decimal n in
    let kept = kept_behind (decimal m) (codes " R " ++ decimal n) (kept_behind (codes " R ") (decimal n) (kept_decimal n (omega (arith, second)))) in
    let P : List ℕ → Type 0 = λ x. SaysNumber x m in
    let Q : List ℕ → Type 0 = λ x. SaysSizes x m (Some n) in
    let longest : SaysLongest (behind_digits (decimal m ++ 32 ∷ tail)) n = record {
      letter = 82;
      digits = decimal n;
      is_letter = refl;
      text_is = behind_of (decimal m) 32 tail all refl;
      number = says_number n second;
    } in
    subst Q (sym kept.kept) (subst P (sym (front_of (decimal m) 32 tail all refl)) is, longest)

says_one_size_nil : (n : ℕ) → n < 10 ^ 18 → SaysSizes (trimmed (decimal n ++ [])) n None
says_one_size_nil n small =
    let P : List ℕ → Type 0 = λ x. SaysSizes (trimmed x) n None in subst P (sym (nil-append (decimal n))) (says_one_size n small)

kept_six : (octets : List ℕ) (port : ℕ) → port < 65536 → IsKept (six_text (record { host = V4 octets; port = port }))
kept_six octets port small =
    kept_behind (numbers_text 44 octets) (44 ∷ (decimal (port / 256) ++ (44 ∷ decimal (port % 256))))
    (kept_behind (44 ∷ []) (decimal (port / 256) ++ (44 ∷ decimal (port % 256)))
    (kept_behind (decimal (port / 256)) (44 ∷ decimal (port % 256))
    (kept_behind (44 ∷ []) (decimal (port % 256)) (kept_decimal (port % 256) (let e : port % 256 < 2 ^ 64 = omega arith in e)))))

kept_extended : (e : Endpoint) → IsKept (extended_text e)
kept_extended e =
    kept_behind (address_text e.host) (124 ∷ (decimal e.port ++ 124 ∷ []))
    (kept_behind (124 ∷ []) (decimal e.port ++ 124 ∷ []) (kept_behind (decimal e.port) (124 ∷ []) (record { not_blank = refl; kept = refl })))

argues_port : (host : Host) (port : ℕ) → IsTypedHost host → port < 65536 → IsStated (command.Port (record { host = host; port = port })) → SaysSix (trimmed (six_text (record { host = host; port = port }))) (record { host = host; port = port })
argues_port (V4 octets) port h small stated =
    let P : List ℕ → Type 0 = λ x. SaysSix x (record { host = V4 octets; port = port }) in
    subst P (sym (kept_six octets port small).kept) (says_six octets port h small)
argues_port (V6 octets) port h small stated = absurd stated

argues_eprt : (e : Endpoint) → IsTyped (command.Eprt e) → 1 ≤ e.port → SaysExtended (trimmed (extended_text e)) e
argues_eprt e h some =
    let P : List ℕ → Type 0 = λ x. SaysExtended x e in
    subst P (sym (kept_extended e).kept) (says_extended e.host e.port h.0 some h.1)

-- what is written behind a verb says the value: SP and an argument, or nothing where that is empty
abbrev IsTold : Value (List ℕ) → Type 0
IsTold x = (a : List ℕ) × ((tail x ≡ 32 ∷ a) ⊎ (tail x ≡ spaced a)) × SaysValue a x

told : (x : Value (List ℕ)) → IsTypedValue x → IsStatedValue x → IsTold x
told (value.Name x) t h = (x, inr refl, (refl, h))
told (value.Password x) t h = (x, inr refl, (refl, h))
told (value.Words x) t h = (x, inr refl, (h.1, h.0))
told (value.WordsOrNone None) t h = ([], inr refl, refl)
told (value.WordsOrNone (Some x)) t h = (x, inr refl, (h.1, h.0))
told (value.Path x) t h = (x, inr refl, (refl, h))
told (value.PathOrNone None) t h = ([], inr refl, refl)
told (value.PathOrNone (Some x)) t h = (x, inr refl, (refl, h))
told (value.Listed None) t h = ([], inr refl, refl)
told (value.Listed (Some x)) t h = (x, inr refl, (without-done x h.1, h.0))
told value.Nothing t h = ([], inr refl, refl)
told (value.Six x) t h = (six_text x, inl refl, argues_port x.host x.port t.0 t.1 h)
told (value.Extended x) t h = (extended_text x, inl refl, argues_eprt x t h)
told (value.Family Any) t h = ([], inr refl, refl)
told (value.Family Ipv4) t h = (49 ∷ [], inl refl, one_is)
told (value.Family Ipv6) t h = (50 ∷ [], inl refl, two_is)
told (value.Family Only) t h = (codes "ALL", inl refl, refl)
told (value.Kind Ascii) t h = (codes "A", inl refl, inl refl)
told (value.Kind Image) t h = (codes "I", inl refl, inl refl)
told (value.Structure File) t h = (codes "F", inl refl, refl)
told (value.Structure Record) t h = (codes "R", inl refl, refl)
told (value.Mode Stream) t h = (codes "S", inl refl, refl)
told (value.Mode Block) t h = (codes "B", inl refl, refl)
told (value.Sizes m None) t h = (decimal m ++ [], inl refl, says_one_size_nil m h.0)
told (value.Sizes m (Some n)) t h = (decimal m ++ (codes " R " ++ decimal n), inl refl, says_two_sizes m n h.0 h.1)
told (value.Number n) t h = (decimal n, inl refl, says_rest n h)

said_by : (v : Command (List ℕ)) (a : List ℕ) → (tail_of v ≡ 32 ∷ a) ⊎ (tail_of v ≡ spaced a) → Argues a v → Says (line_of v) v
said_by v a (inl e) h = says_with v a e h
said_by v a (inr e) h = says_spaced v a e h

-- the line that is written says the command
pub round_trip : (v : Command (List ℕ)) → IsTyped v → IsStated v → Says (line_of v) v
round_trip v t h = let is = told (value_of v) t h in said_by v is.0 is.1 is.2
