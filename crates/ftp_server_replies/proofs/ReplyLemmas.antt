-- A reply of one line, owed in three parts.
use Rattle.std.proofs.Common.{◌≡◌, ◌∙◌, ℕ, ◌+◌, ◌<◌, Bool, List, [], ◌∷◌, ◌++◌, ap, append-nil, codes, refl, sym, append_assoc, flat_map, get_or, length, take, Result, Ok, Err, OnOk, OnErr}
use Rattle.ftp_nvt.specs.Lines.{written_line, written_octet}
use Rattle.ftp_reply.specs.Reply.{code_text, padded}
use Rattle.ftp_ends.specs.Reply.{reply_octets, reply_of}
use Rattle.ftp_server_model.specs.Entries.{features_text}
use Rattle.ftp_server_model.specs.Replies.{features_reply}
use Rattle.ftp_facts.specs.declared.name.Facts.{Facts}
use Rattle.std.proofs.lemmas.Grind.{flat_map-append}
use Rattle.std.proofs.lemmas.List.{take_more}

-- text in three parts, of which the first and the last are constants
pub in_parts : (code : ℕ) (front middle back text old first second last f b : List ℕ) → text ≡ front ++ (middle ++ back)
    → f ≡ flat_map written_octet (code_text code ++ 32 ∷ front) → b ≡ flat_map written_octet back ++ 13 ∷ 10 ∷ []
    → first ≡ old ++ f → second ≡ first ++ flat_map written_octet middle → last ≡ second ++ b
    → last ≡ old ++ reply_octets (reply_of code text)
in_parts code front middle back text old first second last f b is fis bis one two three =
    rw (three, two, one, fis, bis, is) (simp (append_assoc, flat_map-append))

-- the same of whatever octets a reply has
pub around : (middle reply old first second last f b : List ℕ) → reply ≡ f ++ (flat_map written_octet middle ++ b)
    → first ≡ old ++ f → second ≡ first ++ flat_map written_octet middle → last ≡ second ++ b → last ≡ old ++ reply
around middle reply old first second last f b is one two three = rw (three, two, one, is) (simp append_assoc)

-- a line that begins with a space does not begin with three digits
pub spaced : (line : List ℕ) → padded (32 ∷ line) ≡ 32 ∷ line
spaced [] = refl
spaced (a ∷ []) = refl
spaced (a ∷ b ∷ rest) = refl

-- the octets of a reply to MLST
pub entry_octets : (line : List ℕ)
    → reply_octets (record { code = 250; lines = codes "Listing" ∷ (32 ∷ line) ∷ codes "End" ∷ [] })
    ≡ (codes "250-Listing" ++ 13 ∷ 10 ∷ 32 ∷ []) ++ (flat_map written_octet line ++ (13 ∷ 10 ∷ (codes "250 End" ++ 13 ∷ 10 ∷ [])))
entry_octets line =
    ap (λ between. written_line (codes "250-Listing") ++ (written_line between ++ (written_line (codes "250 End") ++ []))) (spaced line)
    ∙ ap (λ back. (codes "250-Listing" ++ 13 ∷ 10 ∷ 32 ∷ []) ++ back) (append_assoc (flat_map written_octet line) (13 ∷ 10 ∷ []) (codes "250 End" ++ 13 ∷ 10 ∷ []))

-- the octets of a reply to FEAT
pub features_octets : (facts : Facts) → reply_octets (features_reply facts)
    ≡ (written_line (codes "211-Features") ++ (written_line (codes " EPRT") ++ (written_line (codes " EPSV") ++ (written_line (codes " MDTM") ++ codes " MLST "))))
    ++ (flat_map written_octet (features_text facts)
    ++ 13 ∷ 10 ∷ (written_line (codes " REST STREAM") ++ (written_line (codes " SIZE") ++ (written_line (codes " UTF8") ++ written_line (codes "211 End")))))
features_octets facts =
    ap (λ between. (written_line (codes "211-Features") ++ (written_line (codes " EPRT") ++ (written_line (codes " EPSV") ++ written_line (codes " MDTM"))))
    ++ (written_line between ++ (written_line (codes " REST STREAM") ++ (written_line (codes " SIZE") ++ (written_line (codes " UTF8") ++ written_line (codes "211 End"))))))
    (spaced (codes "MLST " ++ features_text facts))
    ∙ ap (λ back. (written_line (codes "211-Features") ++ (written_line (codes " EPRT") ++ (written_line (codes " EPSV") ++ (written_line (codes " MDTM") ++ codes " MLST ")))) ++ back)
    (append_assoc (flat_map written_octet (features_text facts)) (13 ∷ 10 ∷ [])
    (written_line (codes " REST STREAM") ++ (written_line (codes " SIZE") ++ (written_line (codes " UTF8") ++ written_line (codes "211 End")))))

-- what is owed in any case
pub always : {T E : Type 0} (r : Result T E) (P Q : Type 0) → OnOk r P → OnErr r Q → ¬ Q → P
always (Ok x) P Q ok err never = ok
always (Err e) P Q ok err never = absurd (never err)

-- the text of one more of them, behind those before it
with_one : {X : Type 0} (text : X → List ℕ) (all : List X) (place : ℕ) (d : X) (base old new : List ℕ) → place < length all
    → old ≡ base ++ flat_map written_octet (flat_map text (take place all)) → new ≡ old ++ flat_map written_octet (text (get_or all place d))
    → new ≡ base ++ flat_map written_octet (flat_map text (take (place + 1) all))
with_one text all place d base old new within before more =
    let one = text (get_or all place d) in
    let front = flat_map text (take place all) in
    let joined : flat_map text (take (place + 1) all) ≡ front ++ one =
    ap (flat_map text) (take_more all place d within) ∙ flat_map-append text (take place all) (get_or all place d ∷ []) ∙ ap (λ l. front ++ l) (append-nil one) in
    more ∙ ap (λ l. l ++ flat_map written_octet one) before ∙ append_assoc base (flat_map written_octet front) (flat_map written_octet one)
    ∙ ap (λ l. base ++ l) (sym (ap (flat_map written_octet) joined ∙ flat_map-append written_octet front one))

-- the same of a text by whether it is chosen
pub with_name : {X : Type 0} (text : X → Bool → List ℕ) (has : X → Bool) (all : List X) (place : ℕ) (d : X) (base old new : List ℕ) (chosen : Bool) → place < length all
    → chosen ≡ has (get_or all place d) → old ≡ base ++ flat_map written_octet (flat_map (λ x. text x (has x)) (take place all))
    → new ≡ old ++ flat_map written_octet (text (get_or all place d) chosen)
    → new ≡ base ++ flat_map written_octet (flat_map (λ x. text x (has x)) (take (place + 1) all))
with_name text has all place d base old new chosen within is before more =
    with_one (λ x. text x (has x)) all place d base old new within before (more ∙ ap (λ b. old ++ flat_map written_octet (text (get_or all place d) b)) is)
