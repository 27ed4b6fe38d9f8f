-- What octets leave of a decoder.
use Rattle.std.proofs.Common.{◌≡◌, ◌∙◌, ℕ, Bool, true, false, List, [], ◌∷◌, ◌++◌, Option, take, drop, refl, sym, ap}
use Rattle.std.proofs.lemmas.List.{take-append-drop}
use Rattle.ftp_wire.specs.Decoder.{Decoder, decoded, decoded_octet}
use Rattle.ftp_wire.specs.Hearing.{EndsBy, Hears}
use Rattle.ftp_wire.specs.declared.decoded.Decoded.{Decoded}
use Rattle.ftp_wire.specs.declared.decoded.Decoded.TheVariants.{More, Faulty, Over, NoMemory}
use Rattle.ftp_client_stream.specs.SinkTransfer.{goes_on}

-- octets in two pieces are those of both
pub decoded-append : (d : Decoder) (front rest : List ℕ) → decoded d (front ++ rest) ≡ decoded (decoded d front) rest
decoded-append d [] rest = refl
decoded-append d (octet ∷ front) rest = decoded-append (decoded_octet d octet) front rest

ends_at : (most : ℕ) (d : Decoder) (octet : ℕ) (heard : Decoded) (new : Decoder)
    → goes_on heard ≡ true → EndsBy most d octet heard new → new ≡ decoded_octet d octet
ends_at most d octet More new on ends = ends.2
ends_at most d octet (Faulty fault) new on ends = ends.1
ends_at most d octet Over new on ends = absurd (cc on)
ends_at most d octet NoMemory new on ends = absurd (cc on)

-- what was heard of octets is what they leave one by one
pub hears_all : (most : ℕ) (d : Decoder) (octets : List ℕ) (told : Option ℕ) (text : List ℕ) (heard : Decoded) (new : Decoder)
    → goes_on heard ≡ true → Hears most d octets told text heard new → decoded d octets ≡ new
hears_all most d [] told text heard new on hears = sym hears.2
hears_all most d (octet ∷ []) told text heard new on hears = sym (ends_at most d octet heard new on hears.1)
hears_all most d (octet ∷ next ∷ octets) told text heard new on hears =
    hears_all most (decoded_octet d octet) (next ∷ octets) told text heard new on hears.1

-- a front of octets was heard, and the rest is still to be
pub heard_front :
    (most : ℕ) (d : Decoder) (octets : List ℕ) (count : ℕ) (told : Option ℕ) (text : List ℕ) (heard : Decoded) (new : Decoder)
    → goes_on heard ≡ true → Hears most d (take count octets) told text heard new → decoded new (drop count octets) ≡ decoded d octets
heard_front most d octets count told text heard new on hears =
    ap (λ e. decoded e (drop count octets)) (sym (hears_all most d (take count octets) told text heard new on hears))
    ∙ sym (decoded-append d (take count octets) (drop count octets))
    ∙ ap (decoded d) (take-append-drop count octets)
