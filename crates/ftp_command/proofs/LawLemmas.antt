-- No line says two commands, none is both said and refused, none is refused in two ways.
use Rattle.std.proofs.Common.{◌≡◌, ◌⊎◌, inl, inr, ℕ, false, List, [], ◌∷◌, length, map, refl, sym, ap, subst, ◌∙◌, Option, Some, None, arith, codes, Result, Ok, Err, IfOk, IfErr}
use Rattle.std.specs.Char.{to_ascii_lowercase}
use Rattle.std.specs.Str.Parse.{digits_value}
use Rattle.std.proofs.lemmas.Bool.Decides.{nat_tests}
use Rattle.std.proofs.lemmas.Bool.{false≢true}
use Rattle.std.proofs.lemmas.Slice.Eq.{bytes_eq-Decides}
use Rattle.std.specs.Str.{bytes_eq}
use Rattle.std.proofs.lemmas.Str.Parse.{digit_from_value}
use Rattle.std.specs.Int.{IsInRange}
use Rattle.ftp_command.specs.Argument.{IsOtherFamily, IsOtherKind, IsOtherMode, IsOtherStructure, SaysEbcdic, SaysKind, SaysLocal, SaysLongest, SaysMode, SaysPassive, SaysPathOrNone, SaysSizes, SaysStructure, SaysTextOrNone, argument, trimmed, without_options, word}
use Rattle.ftp_command.specs.Command.{Argues, Declined, HoldsText, IsForeign, IsNotDone, IsOtherNetwork, IsOtherParameter, IsOtherSetting, IsUndone, Refuses, Says, verb_of}
use Rattle.ftp_endpoint.specs.Number.{SaysNumber, behind_digits}
use Rattle.ftp_command.specs.Decline.{SaysText}
use Rattle.ftp_command.specs.Shapes.{Shape}
use Rattle.ftp_command.specs.Shapes as shape
use Rattle.ftp_command.specs.Verb.{Names, SameLetters, row}
use Rattle.ftp_command.specs.declared.command.Command.{Command}
use Rattle.ftp_settings.specs.declared.representation.Kind.{Kind}
use Rattle.ftp_settings.specs.declared.representation.Kind.TheVariants.{Ascii, Image}
use Rattle.ftp_settings.specs.declared.representation.Mode.{Mode}
use Rattle.ftp_settings.specs.declared.representation.Mode.TheVariants.{Stream, Block}
use Rattle.ftp_command.specs.declared.command.Passive.{Passive}
use Rattle.ftp_command.specs.declared.command.Passive.TheVariants.{Any, Ipv4, Ipv6, Only}
use Rattle.ftp_settings.specs.declared.representation.Structure.{Structure}
use Rattle.ftp_settings.specs.declared.representation.Structure.TheVariants.{File, Record}
use Rattle.ftp_command.specs.declared.fault.CommandFault.{CommandFault}
use Rattle.ftp_command.specs.declared.fault.CommandFault.TheVariants as fault
use Rattle.ftp_command.specs.declared.value.Value.TheVariants as value
use Rattle.ftp_command.specs.declared.verb.Verb.{Verb}
use Rattle.ftp_endpoint.proofs.EndpointLemmas.{six_same}
use Rattle.ftp_endpoint.proofs.OnceLemmas.{no_other_protocol, same_extended, same_number}
use Rattle.ftp_command.proofs.PathLemmas.{path_some}
use Rattle.ftp_command.proofs.VerbLemmas.{IsMade, is_made, made_by, said_as, one_verb}

-- two texts that differ
differ : (xs ys : List ℕ) → xs ≡ ys → bytes_eq xs ys ≡ false → ⊥
differ xs ys e h = false≢true (sym h ∙ (bytes_eq-Decides xs ys).1 e)

-- values of one text are one value
same_path : (text : List ℕ) (v w : Option (List ℕ)) → SaysPathOrNone text v → SaysPathOrNone text w → v ≡ w
same_path text None None h k = refl
same_path text None (Some p) h k = let e : p ≡ [] = sym k.0 ∙ h in absurd (omega (arith, ap length e, path_some p k.1))
same_path text (Some p) None h k = let e : p ≡ [] = sym h.0 ∙ k in absurd (omega (arith, ap length e, path_some p h.1))
same_path text (Some p) (Some q) h k = ap Some (sym h.0 ∙ k.0)

same_words : (text : List ℕ) (v w : Option (List ℕ)) → SaysTextOrNone text v → SaysTextOrNone text w → v ≡ w
same_words text None None h k = refl
same_words text None (Some p) h k = let e : p ≡ [] = sym k.0 ∙ h in absurd (omega (arith, ap length e, k.1))
same_words text (Some p) None h k = let e : p ≡ [] = sym h.0 ∙ k in absurd (omega (arith, ap length e, h.1))
same_words text (Some p) (Some q) h k = ap Some (sym h.0 ∙ k.0)

-- a number has no letters, and is not empty
lower_digit : (c : ℕ) → IsInRange 48 57 c → to_ascii_lowercase c ≡ 97 → ⊥
lower_digit c range e = grind (arith, nat_tests)

no_number_all : (text : List ℕ) (n : ℕ) → SaysNumber text n → SameLetters text (codes "ALL") → ⊥
no_number_all [] n h e = omega arith
no_number_all (c ∷ cs) n h e =
    let first : to_ascii_lowercase c ≡ 97 = cc in
    lower_digit c (digit_from_value c h.0.0.1.0) first

no_number_empty : (text : List ℕ) (n : ℕ) → SaysNumber text n → text ≡ [] → ⊥
no_number_empty text n h e = omega (arith, ap length e)

no_all_empty : (text : List ℕ) → SameLetters text (codes "ALL") → text ≡ [] → ⊥
no_all_empty [] h e = absurd (cc)
no_all_empty (c ∷ cs) h e = absurd (cc)

same_passive : (text : List ℕ) (v w : Passive) → SaysPassive text v → SaysPassive text w → v ≡ w
same_passive text Any Any h k = refl
same_passive text Any Ipv4 h k = absurd (no_number_empty text 1 k h)
same_passive text Any Ipv6 h k = absurd (no_number_empty text 2 k h)
same_passive text Any Only h k = absurd (no_all_empty text k h)
same_passive text Ipv4 Any h k = absurd (no_number_empty text 1 h k)
same_passive text Ipv4 Ipv4 h k = refl
same_passive text Ipv4 Ipv6 h k = absurd (omega (arith, same_number text 1 2 h k))
same_passive text Ipv4 Only h k = absurd (no_number_all text 1 h k)
same_passive text Ipv6 Any h k = absurd (no_number_empty text 2 h k)
same_passive text Ipv6 Ipv4 h k = absurd (omega (arith, same_number text 2 1 h k))
same_passive text Ipv6 Ipv6 h k = refl
same_passive text Ipv6 Only h k = absurd (no_number_all text 2 h k)
same_passive text Only Any h k = absurd (no_all_empty text h k)
same_passive text Only Ipv4 h k = absurd (no_number_all text 1 k h)
same_passive text Only Ipv6 h k = absurd (no_number_all text 2 k h)
same_passive text Only Only h k = refl

-- a first letter that is no other
first_lower : (text : List ℕ) (bits : ℕ) → (h : SaysLocal text bits) → map to_ascii_lowercase text ≡ 108 ∷ 32 ∷ map to_ascii_lowercase h.digits
first_lower text bits h = ap (map to_ascii_lowercase) h.text_is ∙ ap (λ c. c ∷ 32 ∷ map to_ascii_lowercase h.digits) h.is_letter

ebcdic_lower : (text : List ℕ) → (h : SaysEbcdic text) → map to_ascii_lowercase text ≡ 101 ∷ 32 ∷ to_ascii_lowercase h.format ∷ []
ebcdic_lower text h = ap (map to_ascii_lowercase) h.text_is ∙ ap (λ c. c ∷ 32 ∷ to_ascii_lowercase h.format ∷ []) h.is_letter

no_ascii_image : (text : List ℕ) → SaysKind text Ascii → SaysKind text Image → ⊥
no_ascii_image text (inl h) (inl k) = differ _ _ (sym h ∙ k) refl
no_ascii_image text (inr (inl h)) (inl k) = differ _ _ (sym h ∙ k) refl
no_ascii_image text (inr (inr h)) (inl k) = differ _ _ (sym h ∙ k) refl
no_ascii_image text (inl h) (inr k) = differ _ _ (sym h ∙ first_lower text 8 k) refl
no_ascii_image text (inr (inl h)) (inr k) = differ _ _ (sym h ∙ first_lower text 8 k) refl
no_ascii_image text (inr (inr h)) (inr k) = differ _ _ (sym h ∙ first_lower text 8 k) refl

same_local : (text : List ℕ) (m n : ℕ) → SaysLocal text m → SaysLocal text n → m ≡ n
same_local text m n h k =
    let first = h.text_is in
    let second = k.text_is in
    let digits : h.digits ≡ k.digits = cc in
    h.number.1 ∙ (ap (λ x. digits_value 10 x) digits ∙ sym k.number.1)

same_kind : (text : List ℕ) (v w : Kind) → SaysKind text v → SaysKind text w → v ≡ w
same_kind text Ascii Ascii h k = refl
same_kind text Ascii Image h k = absurd (no_ascii_image text h k)
same_kind text Image Ascii h k = absurd (no_ascii_image text k h)
same_kind text Image Image h k = refl

same_structure : (text : List ℕ) (v w : Structure) → SaysStructure text v → SaysStructure text w → v ≡ w
same_structure text File File h k = refl
same_structure text File Record h k = absurd (differ _ _ (sym h ∙ k) refl)
same_structure text Record File h k = absurd (differ _ _ (sym h ∙ k) refl)
same_structure text Record Record h k = refl

same_mode : (text : List ℕ) (v w : Mode) → SaysMode text v → SaysMode text w → v ≡ w
same_mode text Stream Stream h k = refl
same_mode text Stream Block h k = absurd (differ _ _ (sym h ∙ k) refl)
same_mode text Block Stream h k = absurd (differ _ _ (sym h ∙ k) refl)
same_mode text Block Block h k = refl

same_longest : (text : List ℕ) (m n : ℕ) → SaysLongest text m → SaysLongest text n → m ≡ n
same_longest text m n h k =
    let first = h.text_is in
    let second = k.text_is in
    let digits : h.digits ≡ k.digits = cc in
    h.number.1 ∙ (ap (λ x. digits_value 10 x) digits ∙ sym k.number.1)

same_rest : (text : List ℕ) (v w : Option ℕ) (m n : ℕ) → SaysSizes text m v → SaysSizes text n w → v ≡ w
same_rest text None None m n h k = refl
same_rest text None (Some b) m n h k = let second = k.1.text_is in absurd (cc)
same_rest text (Some a) None m n h k = let first = h.1.text_is in absurd (cc)
same_rest text (Some a) (Some b) m n h k = ap Some (same_longest (behind_digits text) a b h.1 k.1)

same_octets : (text : List ℕ) (v w : Option ℕ) (m n : ℕ) → SaysSizes text m v → SaysSizes text n w → m ≡ n
same_octets text None None m n h k = h.0.1 ∙ sym k.0.1
same_octets text None (Some b) m n h k = h.0.1 ∙ sym k.0.1
same_octets text (Some a) None m n h k = h.0.1 ∙ sym k.0.1
same_octets text (Some a) (Some b) m n h k = h.0.1 ∙ sym k.0.1

-- an argument says one command that a shape makes at most
one_made : (a : List ℕ) (s : Shape) (c d : Command (List ℕ)) → IsMade c s → IsMade d s → Argues a c → Argues a d → c ≡ d
one_made a (shape.Name make) c d one two h k =
    let first = said_as a c (value.Name one.0) one.2 h in
    let second = said_as a d (value.Name two.0) two.2 k in
    one.1 ∙ (ap make (sym first.0 ∙ second.0) ∙ sym two.1)
one_made a (shape.Password make) c d one two h k =
    let first = said_as a c (value.Password one.0) one.2 h in
    let second = said_as a d (value.Password two.0) two.2 k in
    one.1 ∙ (ap make (sym first.0 ∙ second.0) ∙ sym two.1)
one_made a (shape.Words make) c d one two h k =
    let first = said_as a c (value.Words one.0) one.2 h in
    let second = said_as a d (value.Words two.0) two.2 k in
    one.1 ∙ (ap make (sym first.0 ∙ second.0) ∙ sym two.1)
one_made a (shape.Path make) c d one two h k =
    let first = said_as a c (value.Path one.0) one.2 h in
    let second = said_as a d (value.Path two.0) two.2 k in
    one.1 ∙ (ap make (sym first.0 ∙ second.0) ∙ sym two.1)
one_made a (shape.WordsOrNone make) c d one two h k =
    let first = said_as a c (value.WordsOrNone one.0) one.2 h in
    let second = said_as a d (value.WordsOrNone two.0) two.2 k in
    one.1 ∙ (ap make (same_words (trimmed a) one.0 two.0 first second) ∙ sym two.1)
one_made a (shape.PathOrNone make) c d one two h k =
    let first = said_as a c (value.PathOrNone one.0) one.2 h in
    let second = said_as a d (value.PathOrNone two.0) two.2 k in
    one.1 ∙ (ap make (same_path a one.0 two.0 first second) ∙ sym two.1)
one_made a (shape.Listed make) c d one two h k =
    let first = said_as a c (value.Listed one.0) one.2 h in
    let second = said_as a d (value.Listed two.0) two.2 k in
    one.1 ∙ (ap make (same_path (without_options a) one.0 two.0 first second) ∙ sym two.1)
one_made a (shape.Extended make) c d one two h k =
    let first = said_as a c (value.Extended one.0) one.2 h in
    let second = said_as a d (value.Extended two.0) two.2 k in
    one.1 ∙ (ap make (same_extended (trimmed a) one.0 two.0 first second) ∙ sym two.1)
one_made a (shape.Family make) c d one two h k =
    let first = said_as a c (value.Family one.0) one.2 h in
    let second = said_as a d (value.Family two.0) two.2 k in
    one.1 ∙ (ap make (same_passive (trimmed a) one.0 two.0 first second) ∙ sym two.1)
one_made a (shape.Kind make) c d one two h k =
    let first = said_as a c (value.Kind one.0) one.2 h in
    let second = said_as a d (value.Kind two.0) two.2 k in
    one.1 ∙ (ap make (same_kind (trimmed a) one.0 two.0 first second) ∙ sym two.1)
one_made a (shape.Structure make) c d one two h k =
    let first = said_as a c (value.Structure one.0) one.2 h in
    let second = said_as a d (value.Structure two.0) two.2 k in
    one.1 ∙ (ap make (same_structure (trimmed a) one.0 two.0 first second) ∙ sym two.1)
one_made a (shape.Mode make) c d one two h k =
    let first = said_as a c (value.Mode one.0) one.2 h in
    let second = said_as a d (value.Mode two.0) two.2 k in
    one.1 ∙ (ap make (same_mode (trimmed a) one.0 two.0 first second) ∙ sym two.1)
one_made a (shape.Number make) c d one two h k =
    let first = said_as a c (value.Number one.0) one.2 h in
    let second = said_as a d (value.Number two.0) two.2 k in
    one.1 ∙ (ap make (same_number (trimmed a) one.0 two.0 first second) ∙ sym two.1)
one_made a (shape.Six make) c d one two h k =
    let first = said_as a c (value.Six one.0) one.2 h in
    let second = said_as a d (value.Six two.0) two.2 k in
    one.1 ∙ (ap make ((six_same (trimmed a) one.0 two.0 [] [] first second).0) ∙ sym two.1)
one_made a (shape.Sizes make) c d one two h k =
    let first = said_as a c (value.Sizes one.0 one.1) one.3 h in
    let second = said_as a d (value.Sizes two.0 two.1) two.3 k in
    let octets = ap (λ x. make x one.1) (same_octets (trimmed a) one.1 two.1 one.0 two.0 first second) in
    one.2 ∙ (octets ∙ (ap (λ y. make two.0 y) (same_rest (trimmed a) one.1 two.1 one.0 two.0 first second) ∙ sym two.2))
one_made a (shape.Nothing made) c d one two h k = one.0 ∙ sym two.0
one_made a (shape.Alone made) c d one two h k = one.0 ∙ sym two.0
one_made a shape.Undone c d one two h k = absurd one

-- an argument says one value of a verb at most
pub one_value : (a : List ℕ) (v w : Command (List ℕ)) → verb_of v ≡ verb_of w → Argues a v → Argues a w → v ≡ w
one_value a v w e h k = one_made a (row (verb_of w)).shape v w (made_by v (verb_of w) e) (is_made w) h k

-- no line says two commands
pub one_command : (line : List ℕ) (v w : Command (List ℕ)) → Says line v → Says line w → v ≡ w
one_command line v w h k =
    one_value (argument line) v w (one_verb (word line) (verb_of v) (verb_of w) h.0 k.0) h.1 k.1

-- what is said is not refused
done_made : (a : List ℕ) (s : Shape) (c : Command (List ℕ)) → IsMade c s → Argues a c → IsUndone a s → ⊥
done_made a shape.Undone c made h k = made
done_made a (shape.Alone made) c is h k = k (said_as a c value.Nothing is.1 h)
done_made a s c made h k = absurd k

said_done : (a : List ℕ) (v : Command (List ℕ)) → Argues a v → IsNotDone a (verb_of v) → ⊥
said_done a v h k = done_made a (row (verb_of v)).shape v (is_made v) h k

no_other_kind : (text : List ℕ) (v : Kind) → SaysKind text v → IsOtherKind text → ⊥
no_other_kind text Ascii (inl h) (inl (inl k)) = differ _ _ (sym h ∙ k) refl
no_other_kind text Ascii (inl h) (inl (inr (inl k))) = differ _ _ (sym h ∙ k) refl
no_other_kind text Ascii (inl h) (inl (inr (inr k))) = differ _ _ (sym h ∙ ebcdic_lower text k) refl
no_other_kind text Ascii (inl h) (inr k) = differ _ _ (sym h ∙ first_lower text k.0 k.1) refl
no_other_kind text Ascii (inr (inl h)) (inl (inl k)) = differ _ _ (sym h ∙ k) refl
no_other_kind text Ascii (inr (inl h)) (inl (inr (inl k))) = differ _ _ (sym h ∙ k) refl
no_other_kind text Ascii (inr (inl h)) (inl (inr (inr k))) = differ _ _ (sym h ∙ ebcdic_lower text k) refl
no_other_kind text Ascii (inr (inl h)) (inr k) = differ _ _ (sym h ∙ first_lower text k.0 k.1) refl
no_other_kind text Ascii (inr (inr h)) (inl (inl k)) = differ _ _ (sym h ∙ k) refl
no_other_kind text Ascii (inr (inr h)) (inl (inr (inl k))) = differ _ _ (sym h ∙ k) refl
no_other_kind text Ascii (inr (inr h)) (inl (inr (inr k))) = differ _ _ (sym h ∙ ebcdic_lower text k) refl
no_other_kind text Ascii (inr (inr h)) (inr k) = differ _ _ (sym h ∙ first_lower text k.0 k.1) refl
no_other_kind text Image (inl h) (inl (inl k)) = differ _ _ (sym h ∙ k) refl
no_other_kind text Image (inl h) (inl (inr (inl k))) = differ _ _ (sym h ∙ k) refl
no_other_kind text Image (inl h) (inl (inr (inr k))) = differ _ _ (sym h ∙ ebcdic_lower text k) refl
no_other_kind text Image (inl h) (inr k) = differ _ _ (sym h ∙ first_lower text k.0 k.1) refl
no_other_kind text Image (inr h) (inl (inl k)) = differ _ _ (sym (first_lower text 8 h) ∙ k) refl
no_other_kind text Image (inr h) (inl (inr (inl k))) = differ _ _ (sym (first_lower text 8 h) ∙ k) refl
no_other_kind text Image (inr h) (inl (inr (inr k))) = differ _ _ (sym (first_lower text 8 h) ∙ ebcdic_lower text k) refl
no_other_kind text Image (inr h) (inr k) = k.2 (same_local text k.0 8 k.1 h)

no_other_structure : (text : List ℕ) (v : Structure) → SaysStructure text v → IsOtherStructure text → ⊥
no_other_structure text File h k = differ _ _ (sym h ∙ k) refl
no_other_structure text Record h k = differ _ _ (sym h ∙ k) refl

no_other_mode : (text : List ℕ) (v : Mode) → SaysMode text v → IsOtherMode text → ⊥
no_other_mode text Stream h k = differ _ _ (sym h ∙ k) refl
no_other_mode text Block h k = differ _ _ (sym h ∙ k) refl

setting_made : (a : List ℕ) (s : Shape) (c : Command (List ℕ)) → IsMade c s → Argues a c → IsOtherSetting a s → ⊥
setting_made a (shape.Kind make) c made h k = no_other_kind (trimmed a) made.0 (said_as a c (value.Kind made.0) made.2 h) k
setting_made a (shape.Structure make) c made h k = no_other_structure (trimmed a) made.0 (said_as a c (value.Structure made.0) made.2 h) k
setting_made a (shape.Mode make) c made h k = no_other_mode (trimmed a) made.0 (said_as a c (value.Mode made.0) made.2 h) k
setting_made a s c made h k = absurd k

said_parameter : (a : List ℕ) (v : Command (List ℕ)) → Argues a v → IsOtherParameter a (verb_of v) → ⊥
said_parameter a v h k = setting_made a (row (verb_of v)).shape v (is_made v) h k

no_other_family : (text : List ℕ) (v : Passive) → SaysPassive text v → IsOtherFamily text → ⊥
no_other_family text Any h k = no_number_empty text k.0 k.1 h
no_other_family text Ipv4 h k = k.2 (same_number text k.0 1 k.1 h)
no_other_family text Ipv6 h k = k.3 (same_number text k.0 2 k.1 h)
no_other_family text Only h k = no_number_all text k.0 k.1 h

network_made : (a : List ℕ) (s : Shape) (c : Command (List ℕ)) → IsMade c s → Argues a c → IsForeign a s → ⊥
network_made a (shape.Extended make) c made h k = no_other_protocol (trimmed a) made.0 (said_as a c (value.Extended made.0) made.2 h) k
network_made a (shape.Family make) c made h k = no_other_family (trimmed a) made.0 (said_as a c (value.Family made.0) made.2 h) k
network_made a s c made h k = absurd k

said_network : (a : List ℕ) (v : Command (List ℕ)) → Argues a v → IsOtherNetwork a (verb_of v) → ⊥
said_network a v h k = network_made a (row (verb_of v)).shape v (is_made v) h k

not_declined : (a : List ℕ) (v : Command (List ℕ)) (f : CommandFault) → Argues a v → Declined a (verb_of v) f → ⊥
not_declined a v fault.Unknown h k = k
not_declined a v fault.Memory h k = k
not_declined a v fault.NotDone h k = said_done a v h k
not_declined a v fault.BadParameter h k = said_parameter a v h k
not_declined a v fault.Protocol h k = said_network a v h k
not_declined a v fault.BadArgument h k = k.3 v refl h

same_declined : (a : List ℕ) (v w : Verb) (f : CommandFault) → v ≡ w → Declined a v f → Declined a w f
same_declined a v w f e h =
    let P : Verb → Type 0 = λ x. Declined a x f in subst P e h

-- a refusal is that no verb is named, or one of the argument of the verb that is
refusal : (line : List ℕ) (f : CommandFault) → Refuses line f
    → ((f ≡ fault.Unknown) × ((v : Verb) → ¬ Names (word line) v)) ⊎ ((v : Verb) × Names (word line) v × Declined (argument line) v f)
refusal line fault.Unknown h = inl (refl, h)
refusal line fault.BadArgument h = inr h
refusal line fault.NotDone h = inr h
refusal line fault.BadParameter h = inr h
refusal line fault.Protocol h = inr h
refusal line fault.Memory h = inr h

pub not_refused : (line : List ℕ) (v : Command (List ℕ)) (f : CommandFault) → Says line v → Refuses line f → ⊥
not_refused line v f says h =
    elim (refusal line f h) [
      | inl none ↦ none.1 (verb_of v) says.0
      | inr is ↦ not_declined (argument line) v f says.1 (same_declined (argument line) is.0 (verb_of v) f (one_verb (word line) is.0 (verb_of v) is.1 says.0) is.2)
    ]

-- a line is refused in one way
done_parameter : (a : List ℕ) (s : Shape) → IsUndone a s → IsOtherSetting a s → ⊥
done_parameter a (shape.Kind make) h k = absurd h
done_parameter a (shape.Structure make) h k = absurd h
done_parameter a (shape.Mode make) h k = absurd h
done_parameter a s h k = absurd k

done_network : (a : List ℕ) (s : Shape) → IsUndone a s → IsForeign a s → ⊥
done_network a (shape.Extended make) h k = absurd h
done_network a (shape.Family make) h k = absurd h
done_network a s h k = absurd k

parameter_network : (a : List ℕ) (s : Shape) → IsOtherSetting a s → IsForeign a s → ⊥
parameter_network a (shape.Extended make) h k = absurd h
parameter_network a (shape.Family make) h k = absurd h
parameter_network a s h k = absurd k

one_decline : (a : List ℕ) (v : Verb) (f g : CommandFault) → Declined a v f → Declined a v g → f ≡ g
one_decline a v fault.Unknown g h k = absurd h
one_decline a v fault.Memory g h k = absurd h
one_decline a v f fault.Unknown h k = absurd k
one_decline a v f fault.Memory h k = absurd k
one_decline a v fault.BadArgument fault.BadArgument h k = refl
one_decline a v fault.BadArgument fault.NotDone h k = absurd (h.0 k)
one_decline a v fault.BadArgument fault.BadParameter h k = absurd (h.1 k)
one_decline a v fault.BadArgument fault.Protocol h k = absurd (h.2 k)
one_decline a v fault.NotDone fault.BadArgument h k = absurd (k.0 h)
one_decline a v fault.NotDone fault.NotDone h k = refl
one_decline a v fault.NotDone fault.BadParameter h k = absurd (done_parameter a (row v).shape h k)
one_decline a v fault.NotDone fault.Protocol h k = absurd (done_network a (row v).shape h k)
one_decline a v fault.BadParameter fault.BadArgument h k = absurd (k.1 h)
one_decline a v fault.BadParameter fault.NotDone h k = absurd (done_parameter a (row v).shape k h)
one_decline a v fault.BadParameter fault.BadParameter h k = refl
one_decline a v fault.BadParameter fault.Protocol h k = absurd (parameter_network a (row v).shape h k)
one_decline a v fault.Protocol fault.BadArgument h k = absurd (k.2 h)
one_decline a v fault.Protocol fault.NotDone h k = absurd (done_network a (row v).shape k h)
one_decline a v fault.Protocol fault.BadParameter h k = absurd (parameter_network a (row v).shape k h)
one_decline a v fault.Protocol fault.Protocol h k = refl

pub one_fault : (line : List ℕ) (f g : CommandFault) → Refuses line f → Refuses line g → f ≡ g
one_fault line f g h k =
    elim (refusal line f h) [
      | inl none ↦
          elim (refusal line g k) [
            | inl other ↦ none.0 ∙ sym other.0
            | inr is ↦ absurd (none.1 is.0 is.1)
          ]
      | inr is ↦
          elim (refusal line g k) [
            | inl none ↦ absurd (none.1 is.0 is.1)
            | inr other ↦ one_decline (argument line) other.0 f g (same_declined (argument line) is.0 other.0 f (one_verb (word line) is.0 other.0 is.1 other.1) is.2) other.2
          ]
    ]

-- an outcome that is said or refused is the one that the line has; memory is wanted only for a text
abbrev pub Outcome : List ℕ → Result (Command (List ℕ)) CommandFault → Type 0
Outcome line r = IfOk r (λ v. Says line v) × IfErr r (λ f. ((f ≡ fault.Memory) × SaysText line) ⊎ Refuses line f)

pub exactly_said : (line : List ℕ) (r : Result (Command (List ℕ)) CommandFault) → Outcome line r
    → (v : Command (List ℕ)) → Says line v → (r ≡ Ok v) ⊎ (HoldsText v × (r ≡ Err fault.Memory))
exactly_said line (Ok w) h v says = inl (ap Ok (one_command line w v h.0 says))
exactly_said line (Err f) (h, inl k) v says =
    let P : Command (List ℕ) → Type 0 = λ w. HoldsText w in inr (subst P (one_command line k.1.0 v k.1.1 says) k.1.2, ap Err k.0)
exactly_said line (Err f) (h, inr k) v says = absurd (not_refused line v f says k)

pub exactly_refused : (line : List ℕ) (r : Result (Command (List ℕ)) CommandFault) → Outcome line r
    → (g : CommandFault) → Refuses line g → r ≡ Err g
exactly_refused line (Ok w) h g refuses = absurd (not_refused line w g h.0 refuses)
exactly_refused line (Err f) (h, inl k) g refuses = absurd (not_refused line k.1.0 g k.1.1 refuses)
exactly_refused line (Err f) (h, inr k) g refuses = ap Err (one_fault line f g k refuses)

pub refused_or_memory : (line : List ℕ) (r : Result (Command (List ℕ)) CommandFault) → Outcome line r → IfErr r (λ f. (f ≡ fault.Memory) ⊎ Refuses line f)
refused_or_memory line (Ok w) h = tt
refused_or_memory line (Err f) (h, inl k) = inl k.0
refused_or_memory line (Err f) (h, inr k) = inr k
