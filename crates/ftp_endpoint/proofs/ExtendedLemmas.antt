-- Where the parts of an extended address end.
use Rattle.std.proofs.Common.{◌≡◌, ◌≢◌, ◌⊎◌, inl, inr, ℕ, zero, suc, ◌+◌, ◌-◌, ◌<◌, ◌≤◌, false, List, [], ◌∷◌, ◌++◌, length, take, drop, get_or, refl, sym, ap, subst, ◌∙◌, arith, append_assoc, length-append}
use Rattle.std.specs.Char.{is_ascii_digit}
use Rattle.std.specs.Str.Parse.{AllDigits, digits_value}
use Rattle.std.proofs.lemmas.Bool.{false≢true}
use Rattle.std.proofs.Math.Seq.{take-append_seam, drop-append_seam}
use Rattle.ftp_endpoint.specs.Endpoint.{EndsWithPort, HasShape, IsDelimiter}
use Rattle.ftp_endpoint.specs.Host.{IsOtherProtocol, SaysExtended, SaysHost, SaysV4, SaysV6}
use Rattle.ftp_endpoint.specs.Number.{behind_digits, front_digits}
use Rattle.ftp_endpoint.specs.declared.endpoint.Endpoint.{Endpoint}
use Rattle.ftp_endpoint.specs.declared.host.Host.{Host}
use Rattle.ftp_endpoint.specs.declared.host.Host.TheVariants.{V4, V6}
use Rattle.ftp_endpoint.proofs.EndpointLemmas.{not_digit}
use Rattle.ftp_endpoint.proofs.NumberLemmas.{is_digit, not_all}

-- a row with an octet that is no digit
not_digits : (address : List ℕ) (d : ℕ) (digits : List ℕ) → is_ascii_digit d ≡ false → AllDigits 10 (address ++ d ∷ digits) → ⊥
not_digits [] d digits none all = false≢true (sym none ∙ is_digit d all.0)
not_digits (a ∷ address) d digits none all = not_digits address d digits none all.1

-- the digits at the end begin right behind the last octet that is none
pub at_is : (address : List ℕ) (d : ℕ) (digits : List ℕ) (at : ℕ) → AllDigits 10 digits → is_ascii_digit d ≡ false → at ≤ length (address ++ d ∷ digits) → AllDigits 10 (drop at (address ++ d ∷ digits)) → (0 < at → is_ascii_digit (get_or (address ++ d ∷ digits) (at - 1) 0) ≡ false) → at ≡ length address + 1
at_is [] d digits zero all none within rest stop = absurd (not_digits [] d digits none rest)
at_is [] d digits (suc zero) all none within rest stop = omega arith
at_is [] d digits (suc (suc k)) all none within rest stop =
    let P : ℕ → Type 0 = λ i. is_ascii_digit (get_or (d ∷ digits) i 0) ≡ false in
    let last : suc (suc k) - 1 ≡ suc k = omega arith in
    let here : is_ascii_digit (get_or digits k 0) ≡ false = subst P last (stop (omega arith)) in
    absurd (not_all digits k (omega arith) here all)
at_is (a ∷ address) d digits zero all none within rest stop = absurd (not_digits (a ∷ address) d digits none rest)
at_is (a ∷ address) d digits (suc zero) all none within rest stop = absurd (not_digits address d digits none rest)
at_is (a ∷ address) d digits (suc (suc k)) all none within rest stop =
    let P : ℕ → Type 0 = λ i. is_ascii_digit (get_or (a ∷ (address ++ d ∷ digits)) i 0) ≡ false in
    let Q : ℕ → Type 0 = λ i. is_ascii_digit (get_or (address ++ d ∷ digits) i 0) ≡ false in
    let last : suc (suc k) - 1 ≡ suc k = omega arith in
    let before : k ≡ suc k - 1 = omega arith in
    let here : is_ascii_digit (get_or (address ++ d ∷ digits) k 0) ≡ false = subst P last (stop (omega arith)) in
    let less = at_is address d digits (suc k) all none (omega arith) rest (λ some. subst Q before here) in
    omega (arith, less)

-- the last octet is one alone
pub last_is : (front : List ℕ) (d : ℕ) (other : List ℕ) (e : ℕ) → front ++ d ∷ [] ≡ other ++ e ∷ [] → (front ≡ other) × (d ≡ e)
last_is [] d [] e h = (refl, cc)
last_is [] d (y ∷ []) e h = absurd (omega (arith, ap length h))
last_is [] d (y ∷ z ∷ ys) e h = absurd (omega (arith, ap length h))
last_is (x ∷ []) d [] e h = absurd (omega (arith, ap length h))
last_is (x ∷ z ∷ xs) d [] e h = absurd (omega (arith, ap length h))
last_is (x ∷ xs) d (y ∷ ys) e h =
    let tails : xs ++ d ∷ [] ≡ ys ++ e ∷ [] = cc in
    let heads : x ≡ y = cc in
    let rest = last_is xs d ys e tails in
    let same : xs ≡ ys = rest.0 in
    (cc, rest.1)

-- the parts of a text that ends with a port
pub front_of : (d : ℕ) (text address : List ℕ) (port : ℕ) → (h : EndsWithPort d text address port) → text ≡ (address ++ d ∷ h.digits) ++ d ∷ []
front_of d text address port h = h.text_is ∙ sym (append_assoc address (d ∷ h.digits) (d ∷ []))

pub front_is : (d : ℕ) (text address front : List ℕ) (port : ℕ) → (h : EndsWithPort d text address port) → text ≡ front ++ d ∷ [] → front ≡ address ++ d ∷ h.digits
front_is d text address front port h e =
    (last_is front d (address ++ d ∷ h.digits) d (sym e ∙ front_of d text address port h)).0

pub at_in : (d : ℕ) (text address front : List ℕ) (port at : ℕ) → IsDelimiter d → (h : EndsWithPort d text address port) → text ≡ front ++ d ∷ [] → at ≤ length front → AllDigits 10 (drop at front) → (0 < at → is_ascii_digit (get_or front (at - 1) 0) ≡ false) → at ≡ length address + 1
at_in d text address front port at delimiter h e within rest stop =
    let is : front ≡ address ++ d ∷ h.digits = front_is d text address front port h e in
    let P : List ℕ → Type 0 = λ x. at ≤ length x in
    let Q : List ℕ → Type 0 = λ x. AllDigits 10 (drop at x) in
    let R : List ℕ → Type 0 = λ x. 0 < at → is_ascii_digit (get_or x (at - 1) 0) ≡ false in
    at_is address d h.digits at h.number.0.0.0.1 (not_digit (is_ascii_digit d) delimiter.2) (subst P is within) (subst Q is rest) (subst R is stop)

-- what is cut there is the address with its delimiter, and the digits
pub before_is : (d : ℕ) (text address front : List ℕ) (port at : ℕ) → (h : EndsWithPort d text address port) → text ≡ front ++ d ∷ [] → at ≡ length address + 1 → take at front ≡ address ++ d ∷ []
before_is d text address front port at h e is =
    let whole : front ≡ address ++ d ∷ h.digits = front_is d text address front port h e in
    let two : address ++ d ∷ h.digits ≡ (address ++ d ∷ []) ++ h.digits = sym (append_assoc address (d ∷ []) h.digits) in
    let long : length (address ++ d ∷ []) ≡ length address + 1 = length-append address (d ∷ []) in
    ap (λ n. take n front) (is ∙ sym long) ∙ (ap (λ x. take (length (address ++ d ∷ [])) x) (whole ∙ two) ∙ take-append_seam (address ++ d ∷ []) h.digits)

pub digits_are : (d : ℕ) (text address front : List ℕ) (port at : ℕ) → (h : EndsWithPort d text address port) → text ≡ front ++ d ∷ [] → at ≡ length address + 1 → drop at front ≡ h.digits
digits_are d text address front port at h e is =
    let whole : front ≡ address ++ d ∷ h.digits = front_is d text address front port h e in
    let two : address ++ d ∷ h.digits ≡ (address ++ d ∷ []) ++ h.digits = sym (append_assoc address (d ∷ []) h.digits) in
    let long : length (address ++ d ∷ []) ≡ length address + 1 = length-append address (d ∷ []) in
    ap (λ n. drop n front) (is ∙ sym long) ∙ (ap (λ x. drop (length (address ++ d ∷ [])) x) (whole ∙ two) ∙ drop-append_seam (address ++ d ∷ []) h.digits)

get_or-append_seam : (xs : List ℕ) (d : ℕ) (ys : List ℕ) → get_or (xs ++ d ∷ ys) (length xs) 0 ≡ d
get_or-append_seam [] d ys = refl
get_or-append_seam (x ∷ xs) d ys = get_or-append_seam xs d ys

-- an extended address has one shape
pub same_ends : (d : ℕ) (text a b : List ℕ) (p q : ℕ) → IsDelimiter d → EndsWithPort d text a p → EndsWithPort d text b q → (a ≡ b) × (p ≡ q)
same_ends d text a b p q delimiter h k =
    let front : List ℕ = a ++ d ∷ h.digits in
    let e : text ≡ front ++ d ∷ [] = front_of d text a p h in
    let long : length (a ++ d ∷ []) ≡ length a + 1 = length-append a (d ∷ []) in
    let two : a ++ d ∷ h.digits ≡ (a ++ d ∷ []) ++ h.digits = sym (append_assoc a (d ∷ []) h.digits) in
    let at : ℕ = length a + 1 in
    let rest : drop at front ≡ h.digits = digits_are d text a front p at h e refl in
    let P : List ℕ → Type 0 = λ x. AllDigits 10 x in
    let whole = length-append a (d ∷ h.digits) in
    let here : get_or front (length a + 1 - 1) 0 ≡ d = ap (λ i. get_or front i 0) (let z : length a + 1 - 1 ≡ length a = omega arith in z) ∙ get_or-append_seam a d h.digits in
    let none = not_digit (is_ascii_digit d) delimiter.2 in
    let is = at_in d text b front q at delimiter k e (omega (arith, whole)) (subst P (sym rest) h.number.0.0.0.1) (λ some. ap is_ascii_digit here ∙ none) in
    let before : a ++ d ∷ [] ≡ b ++ d ∷ [] = sym (before_is d text a front p at h e refl) ∙ before_is d text b front q at k e is in
    let digits : h.digits ≡ k.digits = sym rest ∙ digits_are d text b front q at k e is in
    ((last_is a d b d before).0, h.number.1 ∙ (ap (λ x. digits_value 10 x) digits ∙ sym k.number.1))

pub same_shape : (text : List ℕ) (m n : ℕ) (a b : List ℕ) (p q : ℕ) → HasShape text m a p → HasShape text n b q → (m ≡ n) × (a ≡ b) × (p ≡ q)
same_shape text m n a b p q h k =
    let first = h.text_is in
    let second = k.text_is in
    let same_d : h.d ≡ k.d = cc in
    let same_rest : h.rest ≡ k.rest = cc in
    let behind : h.d ∷ h.more ≡ k.d ∷ k.more = sym h.behind ∙ (ap behind_digits same_rest ∙ k.behind) in
    let same_more : h.more ≡ k.more = cc in
    let P : ℕ → Type 0 = λ x. EndsWithPort x k.more b q in
    let Q : List ℕ → Type 0 = λ x. EndsWithPort h.d x b q in
    let ends = same_ends h.d h.more a b p q h.delimiter h.ends (subst Q (sym same_more) (subst P (sym same_d) k.ends)) in
    (h.number.1 ∙ (ap (λ x. digits_value 10 (front_digits x)) same_rest ∙ sym k.number.1), ends.0, ends.1)

-- no host of a protocol
pub no_v4 : (proto : ℕ) (address : List ℕ) → proto ≡ 1 → ((octets : List ℕ) → SaysV4 address octets → ⊥) → (host : Host) → SaysHost proto address host → ⊥
no_v4 proto address is none (V4 octets) h = none octets h.1
no_v4 proto address is none (V6 octets) h = absurd (omega (arith, h.0))

pub no_v6 : (proto : ℕ) (address : List ℕ) → proto ≢ 1 → ((octets : List ℕ) → SaysV6 address octets → ⊥) → (host : Host) → SaysHost proto address host → ⊥
no_v6 proto address is none (V4 octets) h = is h.0
no_v6 proto address is none (V6 octets) h = none octets h.1

not_other : (m n : ℕ) → m ≡ n → (n ≡ 1) ⊎ (n ≡ 2) → m ≢ 1 → m ≢ 2 → ⊥
not_other m n e (inl one) v4 v6 = v4 (e ∙ one)
not_other m n e (inr two) v4 v6 = v6 (e ∙ two)

-- a text with no shape, and one with no host
pub no_shape : (text : List ℕ) → ((proto : ℕ) (address : List ℕ) (port : ℕ) → HasShape text proto address port → ⊥) → (IsOtherProtocol text → ⊥) × ((endpoint : Endpoint) → SaysExtended text endpoint → ⊥)
no_shape text none = (λ h. none h.proto h.address h.port h.shape, λ endpoint h. none h.proto h.address endpoint.port h.shape)

pub no_host : (text : List ℕ) (proto : ℕ) (address : List ℕ) (port : ℕ) → HasShape text proto address port → (proto ≡ 1) ⊎ (proto ≡ 2) → ((host : Host) → SaysHost proto address host → ⊥) → (IsOtherProtocol text → ⊥) × ((endpoint : Endpoint) → SaysExtended text endpoint → ⊥)
no_host text proto address port shape known none = (
  λ h.
      let same = same_shape text h.proto proto h.address address h.port port h.shape shape in
      not_other h.proto proto same.0 known h.not_v4 h.not_v6,
  λ endpoint h.
      let same = same_shape text h.proto proto h.address address endpoint.port port h.shape shape in
      let P : ℕ → Type 0 = λ x. SaysHost x h.address endpoint.host in
      let Q : List ℕ → Type 0 = λ x. SaysHost proto x endpoint.host in
      none endpoint.host (subst Q same.1 (subst P same.0 h.host)),
)
