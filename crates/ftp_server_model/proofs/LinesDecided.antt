-- A reading of lines exists: of each line it is decided whether it says a command, and which, and if none, how it is refused.
use Rattle.std.proofs.Common.{◌≡◌, ◌≢◌, ℕ, zero, suc, ◌<◌, ◌≤◌, ◌⊎◌, inl, inr, List, [], ◌∷◌, true, Option, Some, None, refl, sym, ap, subst, ◌∙◌, arith, get_or, length, map}
use Rattle.std.specs.Prelude.{codes}
use Rattle.std.specs.Char.{to_ascii_lowercase, is_ascii_alphabetic}
use Rattle.std.specs.List.{list_all}
use Rattle.std.specs.Str.Parse.{digits_value}
use Rattle.ftp_path.specs.Login.{is_login_octet}
use Rattle.ftp_command.specs.Argument.{IsBlank, is_space, IsName, IsPassword, SaysPathOrNone, SaysTextOrNone, SaysPassive, IsOtherFamily, SaysLocal, SaysKind, SaysEbcdic, IsOtherKind, SaysStructure, SaysMode, SaysLongest, SaysSizes, argument, trimmed, without_options, word}
use Rattle.ftp_command.specs.Command.{verb_of, Argues, IsUndone, IsOtherSetting, IsForeign}
use Rattle.ftp_command.specs.Shapes.{Shape}
use Rattle.ftp_command.specs.Shapes as shape
use Rattle.ftp_command.specs.Verb.{letters, old_letters, row, SameLetters, Names}
use Rattle.ftp_command.specs.declared.value.Value.TheVariants as value
use Rattle.ftp_command.specs.declared.command.Command.{Command}
use Rattle.ftp_settings.specs.declared.representation.Kind.{Kind}
use Rattle.ftp_settings.specs.declared.representation.Kind.TheVariants.{Ascii, Image}
use Rattle.ftp_settings.specs.declared.representation.Mode.{Mode}
use Rattle.ftp_settings.specs.declared.representation.Mode.TheVariants.{Stream, Block}
use Rattle.ftp_command.specs.declared.command.Passive.{Passive}
use Rattle.ftp_command.specs.declared.command.Passive.TheVariants.{Any, Ipv4, Ipv6, Only}
use Rattle.ftp_settings.specs.declared.representation.Structure.{Structure}
use Rattle.ftp_settings.specs.declared.representation.Structure.TheVariants.{File, Record}
use Rattle.ftp_command.specs.declared.fault.CommandFault.TheVariants as fault
use Rattle.ftp_command.specs.declared.verb.Verb.{Verb}
use Rattle.ftp_command.specs.declared.verb.Verb.TheVariants as verb
use Rattle.ftp_endpoint.specs.Endpoint.{SaysSix}
use Rattle.ftp_endpoint.specs.Host.{SaysExtended}
use Rattle.ftp_endpoint.specs.Number.{SaysNumber, front_digits, behind_digits}
use Rattle.ftp_endpoint.specs.declared.endpoint.Endpoint.{Endpoint}
use Rattle.ftp_path.specs.Path.{IsPathText, is_path_text}
use Rattle.ftp_server_model.specs.Machine.{IsLineRead, ReadingExists}
use Rattle.ftp_server_model.specs.declared.heard.HeardLine.{HeardLine}
use Rattle.ftp_server_model.specs.declared.heard.HeardLine.TheVariants.{Bad, Asks}
use Rattle.ftp_command.proofs.VerbLemmas.{IsMade, Makes, made_by, makes, said_as, said_with}
use Rattle.ftp_command.proofs.VerbLemmas.{every, verbs}
use Rattle.ftp_server_model.proofs.Deciding.{Decided, yes_if, and_then, and_both, or_else, unless, never, is_true, at_most, same_number, same_text}
use Rattle.ftp_server_model.proofs.EndpointsDecided.{six, extended, other_protocol, some_value, this_value}

-- ---- arguments

blank : (a : List ℕ) → Decided (IsBlank a)
blank a = is_true (list_all is_space a)

path : (a : List ℕ) → Decided (IsPathText a)
path a = is_true (is_path_text a)

password : (a : List ℕ) → Decided (IsPassword a)
password a = and_then (at_most (length a) 255) (is_true (list_all is_login_octet a))

name : (a : List ℕ) → Decided (IsName a)
name a = and_then (at_most 1 (length a)) (password a)

path_or_none : (a : List ℕ) → Decided ((value : Option (List ℕ)) × SaysPathOrNone a value)
path_or_none a = yes_if (λ either. to either) (λ some. from some.0 some.1) (or_else (same_text a []) (path a))
  where
    to : (a ≡ []) ⊎ IsPathText a → (value : Option (List ℕ)) × SaysPathOrNone a value
    to (inl e) = (None, e)
    to (inr is) = (Some a, (refl, is))

    from : (value : Option (List ℕ)) → SaysPathOrNone a value → (a ≡ []) ⊎ IsPathText a
    from None says = inl says
    from (Some text) says = inr (subst IsPathText (sym says.0) says.1)

text_or_none : (a : List ℕ) → Decided ((value : Option (List ℕ)) × SaysTextOrNone a value)
text_or_none a = yes_if (λ either. to either) (λ some. from some.0 some.1) (or_else (same_text a []) (at_most 1 (length a)))
  where
    to : (a ≡ []) ⊎ (1 ≤ length a) → (value : Option (List ℕ)) × SaysTextOrNone a value
    to (inl e) = (None, e)
    to (inr is) = (Some a, (refl, is))

    from : (value : Option (List ℕ)) → SaysTextOrNone a value → (a ≡ []) ⊎ (1 ≤ length a)
    from None says = inl says
    from (Some text) says = inr (let P : List ℕ → Type 0 = λ l. 1 ≤ length l in subst P (sym says.0) says.1)

same_letters : (a b : List ℕ) → Decided (SameLetters a b)
same_letters a b = same_text (map to_ascii_lowercase a) (map to_ascii_lowercase b)

passive : (a : List ℕ) → Decided ((value : Passive) × SaysPassive a value)
passive a =
    yes_if (λ either. to either) (λ some. from some.0 some.1)
    (or_else (same_text a []) (or_else (this_value a 1) (or_else (this_value a 2) (same_letters a (codes "ALL")))))
  where
    to : (a ≡ []) ⊎ (SaysNumber a 1 ⊎ (SaysNumber a 2 ⊎ SameLetters a (codes "ALL"))) → (value : Passive) × SaysPassive a value
    to (inl says) = (Any, says)
    to (inr (inl says)) = (Ipv4, says)
    to (inr (inr (inl says))) = (Ipv6, says)
    to (inr (inr (inr says))) = (Only, says)

    from : (value : Passive) → SaysPassive a value → (a ≡ []) ⊎ (SaysNumber a 1 ⊎ (SaysNumber a 2 ⊎ SameLetters a (codes "ALL")))
    from Any says = inl says
    from Ipv4 says = inr (inl says)
    from Ipv6 says = inr (inr (inl says))
    from Only says = inr (inr (inr says))

other_family : (a : List ℕ) → Decided (IsOtherFamily a)
other_family a = yes_if (λ both. to both.0 both.1) (λ some. from some.0 some.1 some.2 some.3) (and_then (some_value a) (and_then (unless (this_value a 1)) (unless (this_value a 2))))
  where
    to : (n : ℕ) × SaysNumber a n → (¬ SaysNumber a 1) × (¬ SaysNumber a 2) → IsOtherFamily a
    to some others =
        (some.0, some.1, (λ e. others.0 (subst (SaysNumber a) e some.1)), (λ e. others.1 (subst (SaysNumber a) e some.1)))

    from : (n : ℕ) → SaysNumber a n → n ≢ 1 → n ≢ 2 → ((n : ℕ) × SaysNumber a n) × ((¬ SaysNumber a 1) × (¬ SaysNumber a 2))
    from n says one two = ((n, says), ((λ other. one (says.1 ∙ sym other.1)), (λ other. two (says.1 ∙ sym other.1))))

-- L, SP and a number of bits that passes a test
local : (Passes : ℕ → Type 0) → ((bits : ℕ) → Decided (Passes bits)) → (a : List ℕ) → Decided ((bits : ℕ) × SaysLocal a bits × Passes bits)
local Passes decides [] = never (λ some. let e : [] ≡ some.1.letter ∷ 32 ∷ some.1.digits = some.1.text_is in cc)
local Passes decides (l ∷ []) = never (λ some. let e : l ∷ [] ≡ some.1.letter ∷ 32 ∷ some.1.digits = some.1.text_is in cc)
local Passes decides (l ∷ s ∷ ds) =
    yes_if (λ all. to all.0 all.1 all.2.0 all.2.1) (λ some. from some.0 some.1 some.2)
    (and_both (same_number (to_ascii_lowercase l) 108) (same_number s 32) (value ds))
  where
    value : (ds : List ℕ) → Decided (((bits : ℕ) × SaysNumber ds bits) × Passes (digits_value 10 ds))
    value ds = and_then (some_value ds) (decides (digits_value 10 ds))

    to : to_ascii_lowercase l ≡ 108 → s ≡ 32 → (bits : ℕ) × SaysNumber ds bits → Passes (digits_value 10 ds) → (bits : ℕ) × SaysLocal (l ∷ s ∷ ds) bits × Passes bits
    to letter space some passes =
        (some.0, record { letter = l; digits = ds; is_letter = letter; text_is = (λ i. l ∷ space i ∷ ds); number = some.1 }, subst Passes (sym some.1.1) passes)

    from : (bits : ℕ) → SaysLocal (l ∷ s ∷ ds) bits → Passes bits
        → (to_ascii_lowercase l ≡ 108) × (s ≡ 32) × (((bits : ℕ) × SaysNumber ds bits) × Passes (digits_value 10 ds))
    from bits says passes =
        let e : l ∷ s ∷ ds ≡ says.letter ∷ 32 ∷ says.digits = says.text_is in
        let first : l ≡ says.letter = cc in
        let second : s ≡ 32 = cc in
        let rest : says.digits ≡ ds = cc in
        let P : List ℕ → Type 0 = λ t. SaysNumber t bits in
        let is : SaysNumber ds bits = subst P rest says.number in
        (ap to_ascii_lowercase first ∙ says.is_letter, second, ((bits, is), subst Passes is.1 passes))

kind : (a : List ℕ) → Decided ((value : Kind) × SaysKind a value)
kind a =
    yes_if (λ either. to either) (λ some. from some.0 some.1)
    (or_else (or_else (same_letters a (codes "A")) (or_else (same_letters a (codes "A N")) (same_letters a (codes "A T"))))
    (or_else (same_letters a (codes "I")) (local (λ bits. bits ≡ 8) (λ bits. same_number bits 8) a)))
  where
    Eight : Type 0
    Eight = (bits : ℕ) × SaysLocal a bits × (bits ≡ 8)

    to : SaysKind a Ascii ⊎ (SameLetters a (codes "I") ⊎ Eight) → (value : Kind) × SaysKind a value
    to (inl says) = (Ascii, says)
    to (inr (inl says)) = (Image, inl says)
    to (inr (inr some)) = (Image, inr (subst (SaysLocal a) some.2 some.1))

    from : (value : Kind) → SaysKind a value → SaysKind a Ascii ⊎ (SameLetters a (codes "I") ⊎ Eight)
    from Ascii says = inl says
    from Image (inl says) = inr (inl says)
    from Image (inr says) = inr (inr (8, says, refl))

ebcdic : (a : List ℕ) → Decided (SaysEbcdic a)
ebcdic [] = never (λ s. let e : [] ≡ s.letter ∷ 32 ∷ s.format ∷ [] = s.text_is in cc)
ebcdic (l ∷ []) = never (λ s. let e : l ∷ [] ≡ s.letter ∷ 32 ∷ s.format ∷ [] = s.text_is in cc)
ebcdic (l ∷ s ∷ []) = never (λ r. let e : l ∷ s ∷ [] ≡ r.letter ∷ 32 ∷ r.format ∷ [] = r.text_is in cc)
ebcdic (l ∷ s ∷ f ∷ g ∷ more) = never (λ r. let e : l ∷ s ∷ f ∷ g ∷ more ≡ r.letter ∷ 32 ∷ r.format ∷ [] = r.text_is in cc)
ebcdic (l ∷ s ∷ f ∷ []) =
    yes_if (λ all. record { letter = l; format = f; is_letter = all.0; is_format = all.2; text_is = (λ i. l ∷ all.1 i ∷ f ∷ []) }) (λ r. from r)
    (and_both (same_number (to_ascii_lowercase l) 101) (same_number s 32) (is_true (is_ascii_alphabetic f)))
  where
    from : SaysEbcdic (l ∷ s ∷ f ∷ []) → (to_ascii_lowercase l ≡ 101) × (s ≡ 32) × (is_ascii_alphabetic f ≡ true)
    from r =
        let e : l ∷ s ∷ f ∷ [] ≡ r.letter ∷ 32 ∷ r.format ∷ [] = r.text_is in
        let first : l ≡ r.letter = cc in
        let second : s ≡ 32 = cc in
        let third : f ≡ r.format = cc in
        (ap to_ascii_lowercase first ∙ r.is_letter, second, ap is_ascii_alphabetic third ∙ r.is_format)

other_kind : (a : List ℕ) → Decided (IsOtherKind a)
other_kind a =
    or_else (or_else (same_letters a (codes "A C")) (or_else (same_letters a (codes "E")) (ebcdic a)))
    (local (λ bits. bits ≢ 8) (λ bits. unless (same_number bits 8)) a)

structure : (a : List ℕ) → Decided ((value : Structure) × SaysStructure a value)
structure a = yes_if (λ either. to either) (λ some. from some.0 some.1) (or_else (same_letters a (codes "F")) (same_letters a (codes "R")))
  where
    to : SameLetters a (codes "F") ⊎ SameLetters a (codes "R") → (value : Structure) × SaysStructure a value
    to (inl says) = (File, says)
    to (inr says) = (Record, says)

    from : (value : Structure) → SaysStructure a value → SameLetters a (codes "F") ⊎ SameLetters a (codes "R")
    from File says = inl says
    from Record says = inr says

mode : (a : List ℕ) → Decided ((value : Mode) × SaysMode a value)
mode a = yes_if (λ either. to either) (λ some. from some.0 some.1) (or_else (same_letters a (codes "S")) (same_letters a (codes "B")))
  where
    to : SameLetters a (codes "S") ⊎ SameLetters a (codes "B") → (value : Mode) × SaysMode a value
    to (inl says) = (Stream, says)
    to (inr says) = (Block, says)

    from : (value : Mode) → SaysMode a value → SameLetters a (codes "S") ⊎ SameLetters a (codes "B")
    from Stream says = inl says
    from Block says = inr says

longest : (a : List ℕ) → Decided ((n : ℕ) × SaysLongest a n)
longest [] = never (λ some. let e : [] ≡ 32 ∷ some.1.letter ∷ 32 ∷ some.1.digits = some.1.text_is in cc)
longest (s ∷ []) = never (λ some. let e : s ∷ [] ≡ 32 ∷ some.1.letter ∷ 32 ∷ some.1.digits = some.1.text_is in cc)
longest (s ∷ l ∷ []) = never (λ some. let e : s ∷ l ∷ [] ≡ 32 ∷ some.1.letter ∷ 32 ∷ some.1.digits = some.1.text_is in cc)
longest (s ∷ l ∷ t ∷ ds) =
    yes_if (λ all. to all.0.0 all.0.1 all.0.2 all.1) (λ some. from some.0 some.1)
    (and_then (and_both (same_number s 32) (same_number (to_ascii_lowercase l) 114) (same_number t 32)) (some_value ds))
  where
    to : s ≡ 32 → to_ascii_lowercase l ≡ 114 → t ≡ 32 → (n : ℕ) × SaysNumber ds n → (n : ℕ) × SaysLongest (s ∷ l ∷ t ∷ ds) n
    to first letter third some =
        (some.0, record { letter = l; digits = ds; is_letter = letter; text_is = (λ i. first i ∷ l ∷ third i ∷ ds); number = some.1 })

    from : (n : ℕ) → SaysLongest (s ∷ l ∷ t ∷ ds) n → ((s ≡ 32) × (to_ascii_lowercase l ≡ 114) × (t ≡ 32)) × ((n : ℕ) × SaysNumber ds n)
    from n says =
        let e : s ∷ l ∷ t ∷ ds ≡ 32 ∷ says.letter ∷ 32 ∷ says.digits = says.text_is in
        let first : s ≡ 32 = cc in
        let second : l ≡ says.letter = cc in
        let third : t ≡ 32 = cc in
        let rest : says.digits ≡ ds = cc in
        let P : List ℕ → Type 0 = λ text. SaysNumber text n in
        ((first, ap to_ascii_lowercase second ∙ says.is_letter, third), (n, subst P rest says.number))

sizes : (a : List ℕ) → Decided ((octets : ℕ) × (longest : Option ℕ) × SaysSizes a octets longest)
sizes a =
    yes_if (λ both. to both.0 both.1) (λ some. from some.0 some.1 some.2)
    (and_then (some_value (front_digits a)) (or_else (same_text (behind_digits a) []) (longest (behind_digits a))))
  where
    to : (n : ℕ) × SaysNumber (front_digits a) n → (behind_digits a ≡ []) ⊎ ((n : ℕ) × SaysLongest (behind_digits a) n)
        → (octets : ℕ) × (longest : Option ℕ) × SaysSizes a octets longest
    to some (inl end) = (some.0, None, (some.1, end))
    to some (inr more) = (some.0, Some more.0, (some.1, more.1))

    from : (octets : ℕ) (longest : Option ℕ) → SaysSizes a octets longest
        → ((n : ℕ) × SaysNumber (front_digits a) n) × ((behind_digits a ≡ []) ⊎ ((n : ℕ) × SaysLongest (behind_digits a) n))
    from octets None says = ((octets, says.0), inl says.1)
    from octets (Some n) says = ((octets, says.0), inr (n, says.1))

-- ---- a shape: that an argument says some value of it

abbrev SaysSome : List ℕ → Shape → Type 0
SaysSome a (shape.Name make) = IsName a
SaysSome a (shape.Password make) = IsPassword a
SaysSome a (shape.Words make) = 1 ≤ length (trimmed a)
SaysSome a (shape.WordsOrNone make) = (value : Option (List ℕ)) × SaysTextOrNone (trimmed a) value
SaysSome a (shape.Path make) = IsPathText a
SaysSome a (shape.PathOrNone make) = (value : Option (List ℕ)) × SaysPathOrNone a value
SaysSome a (shape.Listed make) = (value : Option (List ℕ)) × SaysPathOrNone (without_options a) value
SaysSome a (shape.Nothing make) = IsBlank a
SaysSome a (shape.Alone make) = IsBlank a
SaysSome a (shape.Six make) = (value : Endpoint) × SaysSix (trimmed a) value
SaysSome a (shape.Extended make) = (value : Endpoint) × SaysExtended (trimmed a) value
SaysSome a (shape.Family make) = (value : Passive) × SaysPassive (trimmed a) value
SaysSome a (shape.Kind make) = (value : Kind) × SaysKind (trimmed a) value
SaysSome a (shape.Structure make) = (value : Structure) × SaysStructure (trimmed a) value
SaysSome a (shape.Mode make) = (value : Mode) × SaysMode (trimmed a) value
SaysSome a (shape.Number make) = (value : ℕ) × SaysNumber (trimmed a) value
SaysSome a (shape.Sizes make) = (octets : ℕ) × (longest : Option ℕ) × SaysSizes (trimmed a) octets longest
SaysSome a shape.Undone = ⊥

says_some : (a : List ℕ) (s : Shape) → Decided (SaysSome a s)
says_some a (shape.Name make) = name a
says_some a (shape.Password make) = password a
says_some a (shape.Words make) = at_most 1 (length (trimmed a))
says_some a (shape.WordsOrNone make) = text_or_none (trimmed a)
says_some a (shape.Path make) = path a
says_some a (shape.PathOrNone make) = path_or_none a
says_some a (shape.Listed make) = path_or_none (without_options a)
says_some a (shape.Nothing make) = blank a
says_some a (shape.Alone make) = blank a
says_some a (shape.Six make) = six (trimmed a)
says_some a (shape.Extended make) = extended (trimmed a)
says_some a (shape.Family make) = passive (trimmed a)
says_some a (shape.Kind make) = kind (trimmed a)
says_some a (shape.Structure make) = structure (trimmed a)
says_some a (shape.Mode make) = mode (trimmed a)
says_some a (shape.Number make) = some_value (trimmed a)
says_some a (shape.Sizes make) = sizes (trimmed a)
says_some a shape.Undone = never (λ none. none)

-- some command of this verb is said
abbrev IsSaid : List ℕ → Verb → Type 0
IsSaid a verb = (command : Command (List ℕ)) × (verb_of command ≡ verb) × Argues a command

said_by : (a : List ℕ) (v : Verb) (s : Shape) → Makes v s → SaysSome a s → IsSaid a v
said_by a v (shape.Name make) makes is = said_with a v (make a) (value.Name a) (makes a) (refl, is)
said_by a v (shape.Password make) makes is = said_with a v (make a) (value.Password a) (makes a) (refl, is)
said_by a v (shape.Words make) makes is = said_with a v (make (trimmed a)) (value.Words (trimmed a)) (makes (trimmed a)) (refl, is)
said_by a v (shape.Path make) makes is = said_with a v (make a) (value.Path a) (makes a) (refl, is)
said_by a v (shape.WordsOrNone make) makes some = said_with a v (make some.0) (value.WordsOrNone some.0) (makes some.0) some.1
said_by a v (shape.PathOrNone make) makes some = said_with a v (make some.0) (value.PathOrNone some.0) (makes some.0) some.1
said_by a v (shape.Listed make) makes some = said_with a v (make some.0) (value.Listed some.0) (makes some.0) some.1
said_by a v (shape.Six make) makes some = said_with a v (make some.0) (value.Six some.0) (makes some.0) some.1
said_by a v (shape.Extended make) makes some = said_with a v (make some.0) (value.Extended some.0) (makes some.0) some.1
said_by a v (shape.Family make) makes some = said_with a v (make some.0) (value.Family some.0) (makes some.0) some.1
said_by a v (shape.Kind make) makes some = said_with a v (make some.0) (value.Kind some.0) (makes some.0) some.1
said_by a v (shape.Structure make) makes some = said_with a v (make some.0) (value.Structure some.0) (makes some.0) some.1
said_by a v (shape.Mode make) makes some = said_with a v (make some.0) (value.Mode some.0) (makes some.0) some.1
said_by a v (shape.Number make) makes some = said_with a v (make some.0) (value.Number some.0) (makes some.0) some.1
said_by a v (shape.Nothing made) makes is = said_with a v made value.Nothing makes is
said_by a v (shape.Alone made) makes is = said_with a v made value.Nothing makes is
said_by a v (shape.Sizes make) makes some = said_with a v (make some.0 some.1) (value.Sizes some.0 some.1) (makes some.0 some.1) some.2
said_by a v shape.Undone makes none = absurd none

has_octet : (text value : List ℕ) → text ≡ value → 1 ≤ length value → 1 ≤ length text
has_octet text value e is = let P : List ℕ → Type 0 = λ l. 1 ≤ length l in subst P (sym e) is

some_of : (a : List ℕ) (s : Shape) (c : Command (List ℕ)) → IsMade c s → Argues a c → SaysSome a s
some_of a (shape.Name make) c made says = let is = said_as a c (value.Name made.0) made.2 says in subst IsName (sym is.0) is.1
some_of a (shape.Password make) c made says = let is = said_as a c (value.Password made.0) made.2 says in subst IsPassword (sym is.0) is.1
some_of a (shape.Path make) c made says = let is = said_as a c (value.Path made.0) made.2 says in subst IsPathText (sym is.0) is.1
some_of a (shape.Words make) c made says = let is = said_as a c (value.Words made.0) made.2 says in has_octet (trimmed a) made.0 is.0 is.1
some_of a (shape.WordsOrNone make) c made says = (made.0, said_as a c (value.WordsOrNone made.0) made.2 says)
some_of a (shape.PathOrNone make) c made says = (made.0, said_as a c (value.PathOrNone made.0) made.2 says)
some_of a (shape.Listed make) c made says = (made.0, said_as a c (value.Listed made.0) made.2 says)
some_of a (shape.Six make) c made says = (made.0, said_as a c (value.Six made.0) made.2 says)
some_of a (shape.Extended make) c made says = (made.0, said_as a c (value.Extended made.0) made.2 says)
some_of a (shape.Family make) c made says = (made.0, said_as a c (value.Family made.0) made.2 says)
some_of a (shape.Kind make) c made says = (made.0, said_as a c (value.Kind made.0) made.2 says)
some_of a (shape.Structure make) c made says = (made.0, said_as a c (value.Structure made.0) made.2 says)
some_of a (shape.Mode make) c made says = (made.0, said_as a c (value.Mode made.0) made.2 says)
some_of a (shape.Number make) c made says = (made.0, said_as a c (value.Number made.0) made.2 says)
some_of a (shape.Nothing make) c made says = said_as a c value.Nothing made.1 says
some_of a (shape.Alone make) c made says = said_as a c value.Nothing made.1 says
some_of a (shape.Sizes make) c made says = (made.0, made.1, said_as a c (value.Sizes made.0 made.1) made.3 says)
some_of a shape.Undone c made says = absurd made

is_said : (a : List ℕ) (verb : Verb) → Decided (IsSaid a verb)
is_said a verb =
    let s : Shape = (row verb).shape in
    yes_if (λ is. said_by a verb s (makes verb) is) (λ said. some_of a s said.0 (made_by said.0 verb said.1) said.2) (says_some a s)

-- ---- what is known and not done

undone : (a : List ℕ) (s : Shape) → Decided (IsUndone a s)
undone a shape.Undone = inl tt
undone a (shape.Alone made) = unless (blank a)
undone a s = never (λ none. none)

other_setting : (a : List ℕ) (s : Shape) → Decided (IsOtherSetting a s)
other_setting a (shape.Kind make) = other_kind (trimmed a)
other_setting a (shape.Structure make) = same_letters (trimmed a) (codes "P")
other_setting a (shape.Mode make) = same_letters (trimmed a) (codes "C")
other_setting a s = never (λ none. none)

foreign : (a : List ℕ) (s : Shape) → Decided (IsForeign a s)
foreign a (shape.Extended make) = other_protocol (trimmed a)
foreign a (shape.Family make) = other_family (trimmed a)
foreign a s = never (λ none. none)

-- ---- verbs

names : (word : List ℕ) (verb : Verb) → Decided (Names word verb)
names word verb = or_else (same_letters word (letters verb)) (same_letters word (old_letters verb))

abbrev IsOneOf : Verb → List Verb → Type 0
IsOneOf verb [] = ⊥
IsOneOf verb (one ∷ more) = (verb ≡ one) ⊎ IsOneOf verb more

named_among : (word : List ℕ) (all : List Verb) → Decided ((verb : Verb) × IsOneOf verb all × Names word verb)
named_among word [] = never (λ some. some.1)
named_among word (one ∷ more) = yes_if (λ either. to either) (λ some. from some.0 some.1 some.2) (or_else (names word one) (named_among word more))
  where
    to : Names word one ⊎ ((verb : Verb) × IsOneOf verb more × Names word verb) → (verb : Verb) × IsOneOf verb (one ∷ more) × Names word verb
    to (inl is) = (one, inl refl, is)
    to (inr some) = (some.0, inr some.1, some.2)

    from : (verb : Verb) → IsOneOf verb (one ∷ more) → Names word verb → Names word one ⊎ ((verb : Verb) × IsOneOf verb more × Names word verb)
    from verb (inl e) is = inl (subst (Names word) e is)
    from verb (inr one_of) is = inr (verb, one_of, is)

in_place : (all : List Verb) (k : ℕ) → k < length all → IsOneOf (get_or all k verb.User) all
in_place [] k within = absurd (omega (arith, within))
in_place (one ∷ more) zero within = inl refl
in_place (one ∷ more) (suc k) within = inr (in_place more k (omega (arith, within)))

all_verbs : (verb : Verb) → IsOneOf verb verbs
all_verbs = every (λ verb. IsOneOf verb verbs) (λ k within. in_place verbs k within)

named : (word : List ℕ) → Decided ((verb : Verb) × Names word verb)
named word = yes_if (λ some. (some.0, some.2)) (λ some. (some.0, all_verbs some.0, some.1)) (named_among word verbs)

-- ---- lines

read_verb : (text : List ℕ) (verb : Verb) → Names (word text) verb → (heard : HeardLine (List ℕ)) × IsLineRead text heard
read_verb text verb is =
    elim (undone (argument text) (row verb).shape) [
      | inl done ↦ (Bad fault.NotDone, (verb, is, done))
      | inr done ↦
          elim (other_setting (argument text) (row verb).shape) [
            | inl other ↦ (Bad fault.BadParameter, (verb, is, other))
            | inr other ↦
                elim (foreign (argument text) (row verb).shape) [
                  | inl network ↦ (Bad fault.Protocol, (verb, is, network))
                  | inr network ↦
                      elim (is_said (argument text) verb) [
                        | inl said ↦ (Asks said.0, (subst (Names (word text)) (sym said.1) is, said.2))
                        | inr none ↦ (Bad fault.BadArgument, (verb, is, (done, other, network, (λ command e argues. none (command, e, argues)))))
                      ]
                ]
          ]
    ]

read_line : (text : List ℕ) → (heard : HeardLine (List ℕ)) × IsLineRead text heard
read_line text =
    elim (named (word text)) [
      | inl some ↦ read_verb text some.0 some.1
      | inr none ↦ (Bad fault.Unknown, (λ verb is. none (verb, is)))
    ]

pub reading_exists : ReadingExists
reading_exists = ((λ text. (read_line text).0), (λ text. (read_line text).1))
