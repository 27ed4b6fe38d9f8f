-- A text says one number, one host and one endpoint at most.
use Rattle.std.proofs.Common.{◌≡◌, ◌≢◌, inl, inr, ℕ, suc, ◌+◌, ◌++◌, List, [], ◌∷◌, length, replicate, refl, sym, ap, subst, ◌∙◌, arith, length-append}
use Rattle.std.proofs.lemmas.List.{length-replicate}
use Rattle.ftp_endpoint.specs.Endpoint.{BeginsWithPort, ClosesWithPort}
use Rattle.ftp_endpoint.specs.Host.{IsFilled, IsOtherProtocol, IsShortened, SaysExtended, SaysHost, SaysV4, SaysV6, Written, octets_of}
use Rattle.ftp_endpoint.specs.Number.{SaysNumber}
use Rattle.ftp_endpoint.specs.declared.endpoint.Endpoint.{Endpoint}
use Rattle.ftp_endpoint.specs.declared.host.Host.{Host}
use Rattle.ftp_endpoint.specs.declared.host.Host.TheVariants.{V4, V6}
use Rattle.ftp_endpoint.proofs.EndpointLemmas.{begins_same, closed}
use Rattle.ftp_endpoint.proofs.ExtendedLemmas.{same_shape}
use Rattle.ftp_endpoint.proofs.HostLemmas.{same_groups}

-- one number
pub same_number : (text : List ℕ) (m n : ℕ) → SaysNumber text m → SaysNumber text n → m ≡ n
same_number text m n h k = h.1 ∙ sym k.1

-- one port of an extended reply
pub port_same : (text : List ℕ) (m n : ℕ) → BeginsWithPort text m → BeginsWithPort text n → m ≡ n
port_same text m n h k =
    let e : 40 ∷ h.d ∷ h.d ∷ h.d ∷ h.rest ≡ 40 ∷ k.d ∷ k.d ∷ k.d ∷ k.rest = sym h.text_is ∙ k.text_is in
    let delimiters : h.d ≡ k.d = cc in
    let rests : h.rest ≡ k.rest = cc in
    let P : ℕ → Type 0 = λ x. ClosesWithPort x k.rest n in
    let Q : List ℕ → Type 0 = λ x. ClosesWithPort h.d x n in
    let first = (closed h.d h.rest m h.delimiter h.closes).number in
    let second = (closed h.d h.rest n h.delimiter (subst Q (sym rests) (subst P (sym delimiters) k.closes))).number in
    first.1 ∙ sym second.1

-- the zero groups of a "::" are as many as are missing
same_filled : (front behind gs hs : List ℕ) → length gs ≡ 8 → length hs ≡ 8 → IsFilled front behind gs → IsFilled front behind hs → gs ≡ hs
same_filled front behind gs hs e f h k =
    let backs : h.back ≡ k.back = (same_groups behind h.back k.back [] [] h.after (inl refl) k.after (inl refl)).0 in
    let first : length gs ≡ length front + (suc h.zeros + length h.back) = ap length h.groups_are ∙ (length-append front (replicate (suc h.zeros) 0 ++ h.back) ∙ ap (λ n. length front + n) (length-append (replicate (suc h.zeros) 0) h.back ∙ ap (λ n. n + length h.back) (length-replicate {A = ℕ} (suc h.zeros) 0))) in
    let second : length hs ≡ length front + (suc k.zeros + length k.back) = ap length k.groups_are ∙ (length-append front (replicate (suc k.zeros) 0 ++ k.back) ∙ ap (λ n. length front + n) (length-append (replicate (suc k.zeros) 0) k.back ∙ ap (λ n. n + length k.back) (length-replicate {A = ℕ} (suc k.zeros) 0))) in
    let count : h.zeros ≡ k.zeros = omega (arith, first, second, ap length backs) in
    h.groups_are ∙ (ap (λ z. front ++ (replicate (suc z) 0 ++ h.back)) count ∙ (ap (λ x. front ++ (replicate (suc k.zeros) 0 ++ x)) backs ∙ sym k.groups_are))

no_end : (text gs : List ℕ) (k : IsShortened text gs) (ns : List ℕ) → [] ≡ 58 ∷ 58 ∷ k.behind → ⊥
no_end text gs k ns e = absurd (cc)

same_written : (text gs hs : List ℕ) → length gs ≡ 8 → length hs ≡ 8 → Written text gs → Written text hs → gs ≡ hs
same_written text gs hs e f (inl h) (inl k) = (same_groups text gs hs [] [] h (inl refl) k (inl refl)).0
same_written text gs hs e f (inl h) (inr k) =
    absurd (no_end text hs k gs (same_groups text gs k.front [] (58 ∷ 58 ∷ k.behind) h (inl refl) k.before (inr (k.behind, refl))).1)
same_written text gs hs e f (inr h) (inl k) =
    absurd (no_end text gs h hs (same_groups text hs h.front [] (58 ∷ 58 ∷ h.behind) k (inl refl) h.before (inr (h.behind, refl))).1)
same_written text gs hs e f (inr h) (inr k) =
    let same = same_groups text h.front k.front (58 ∷ 58 ∷ h.behind) (58 ∷ 58 ∷ k.behind) h.before (inr (h.behind, refl)) k.before (inr (k.behind, refl)) in
    let both = same.1 in
    let behind : k.behind ≡ h.behind = cc in
    let P : List ℕ → Type 0 = λ x. IsFilled x k.behind hs in
    let Q : List ℕ → Type 0 = λ x. IsFilled h.front x hs in
    same_filled h.front h.behind gs hs e f h.filled (subst Q behind (subst P (sym same.0) k.filled))

same_v4 : (text v w : List ℕ) → SaysV4 text v → SaysV4 text w → v ≡ w
same_v4 text v w h k =
    let hs : List ℕ = h.a ∷ h.b ∷ h.c ∷ h.d ∷ [] in
    let ks : List ℕ = k.a ∷ k.b ∷ k.c ∷ k.d ∷ [] in
    h.value ∙ ((begins_same 46 text hs ks [] [] refl h.numbers k.numbers).0 ∙ sym k.value)

same_v6 : (text v w : List ℕ) → SaysV6 text v → SaysV6 text w → v ≡ w
same_v6 text v w h k =
    h.value ∙ (ap octets_of (same_written text h.groups k.groups h.eight k.eight h.written k.written) ∙ sym k.value)

same_host : (proto : ℕ) (text : List ℕ) (v w : Host) → SaysHost proto text v → SaysHost proto text w → v ≡ w
same_host proto text (V4 v) (V4 w) h k = ap V4 (same_v4 text v w h.1 k.1)
same_host proto text (V4 v) (V6 w) h k = absurd (omega (arith, h.0, k.0))
same_host proto text (V6 v) (V4 w) h k = absurd (omega (arith, h.0, k.0))
same_host proto text (V6 v) (V6 w) h k = ap V6 (same_v6 text v w h.1 k.1)

abbrev endpoint_of : Host → ℕ → Endpoint
endpoint_of host port = record { host = host; port = port }

pub same_extended : (text : List ℕ) (e f : Endpoint) → SaysExtended text e → SaysExtended text f → e ≡ f
same_extended text e f h k =
    let same = same_shape text h.proto k.proto h.address k.address e.port f.port h.shape k.shape in
    let P : ℕ → Type 0 = λ x. SaysHost x k.address f.host in
    let Q : List ℕ → Type 0 = λ x. SaysHost h.proto x f.host in
    let hosts = same_host h.proto h.address e.host f.host h.host (subst Q (sym same.1) (subst P (sym same.0) k.host)) in
    ap (λ x. endpoint_of x e.port) hosts ∙ ap (λ x. endpoint_of f.host x) same.2

-- what says an endpoint is of no other protocol
known_host : (proto : ℕ) (address : List ℕ) (host : Host) → SaysHost proto address host → (proto ≢ 1) → (proto ≢ 2) → ⊥
known_host proto address (V4 x) h n m = n h.0
known_host proto address (V6 x) h n m = m h.0

pub no_other_protocol : (text : List ℕ) (e : Endpoint) → SaysExtended text e → IsOtherProtocol text → ⊥
no_other_protocol text e h k =
    let same = same_shape text h.proto k.proto h.address k.address e.port k.port h.shape k.shape in
    known_host h.proto h.address e.host h.host (λ x. k.not_v4 (sym same.0 ∙ x)) (λ x. k.not_v6 (sym same.0 ∙ x))
