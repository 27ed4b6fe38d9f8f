-- A file is one list of records and a tail, and its signs are theirs.
use Rattle.std.proofs.Common.{◌≡◌, ℕ, List, [], ◌∷◌, ◌++◌, false, ◌==◌, if◌then◌else◌, inl, inr, map, refl, ap, sym, ◌∙◌, append_assoc, append-nil}
use Rattle.std.specs.List.{flat_map, AllByRecursion}
use Rattle.std.proofs.lemmas.Bool.{eqb-true}
use Rattle.std.proofs.lemmas.List.{map-append}
use Rattle.ftp_repr.specs.Signs.{Sign, octet, end_record, end_file, wire_octets, wire_row, octet_signs, signs_of}
use Rattle.ftp_repr.specs.Content.{read_record, read_cut, content_by}
use Rattle.ftp_repr.specs.Records.{HasNoLine, record_line, IsRecords, ended_record, signs_of_records, read_records}
use Rattle.ftp_settings.specs.declared.representation.Kind.{Kind}
use Rattle.ftp_settings.specs.declared.representation.Structure.TheVariants.{Record}
use Rattle.ftp_repr.proofs.AsciiLemmas.{decided}
use Rattle.ftp_repr.proofs.SignLemmas.{signs_of-append}
use Rattle.ftp_repr.proofs.ContentLemmas.{form, content_octets}

-- records and a tail
abbrev pub Cut : Type 0
Cut = List (List ℕ) × List ℕ

abbrev pub longer : ℕ → List (List ℕ) → List ℕ → Cut
longer c [] t = ([], c ∷ t)
longer c (r ∷ rs) t = ((c ∷ r) ∷ rs, t)

abbrev pub cut : List ℕ → Cut
cut [] = ([], [])
cut (c ∷ b) = if c == 10 then ([] ∷ (cut b).0, (cut b).1) else longer c (cut b).0 (cut b).1

-- what is cut is records and a tail
abbrev pub AreRecords : List ℕ → Cut → Type 0
AreRecords b p = IsRecords b p.0 p.1

longer_is : (c : ℕ) (b : List ℕ) (rs : List (List ℕ)) (t : List ℕ) → (c == 10) ≡ false → IsRecords b rs t → AreRecords (c ∷ b) (longer c rs t)
longer_is c b [] t e h = record { is = ap (λ l. c ∷ l) h.is; each = tt; rest = (e, h.rest) }
longer_is c b (r ∷ rs) t e h = record { is = ap (λ l. c ∷ l) h.is; each = ((e, h.each.0), h.each.1); rest = h.rest }

line_is : (c : ℕ) (b : List ℕ) (rs : List (List ℕ)) (t : List ℕ) → c ≡ 10 → IsRecords b rs t → IsRecords (c ∷ b) ([] ∷ rs) t
line_is c b rs t e h =
    record { is = ap (λ l. c ∷ l) h.is ∙ ap (λ n. n ∷ (flat_map record_line rs ++ t)) e; each = (tt, h.each); rest = h.rest }

pub cut_is : (b : List ℕ) → AreRecords b (cut b)
cut_is [] = record { is = refl; each = tt; rest = tt }
cut_is (c ∷ b) =
    elim (decided (c == 10)) [
      | inl e ↦ rw e (line_is c b (cut b).0 (cut b).1 (eqb-true c 10 e) (cut_is b))
      | inr e ↦ rw e (longer_is c b (cut b).0 (cut b).1 e (cut_is b))
    ]

-- and no others are
cut_tail : (t : List ℕ) → HasNoLine t → cut t ≡ ([], t)
cut_tail [] h = refl
cut_tail (c ∷ t) h =
    let e : (c == 10) ≡ false = h.0 in
    rw e (ap (λ p. longer c p.0 p.1) (cut_tail t h.1))

cut_record : (r w : List ℕ) → HasNoLine r → cut (r ++ 10 ∷ w) ≡ (r ∷ (cut w).0, (cut w).1)
cut_record [] w h = refl
cut_record (c ∷ r) w h =
    let e : (c == 10) ≡ false = h.0 in
    rw e (ap (λ p. longer c p.0 p.1) (cut_record r w h.1))

cut_all : (rs : List (List ℕ)) (t : List ℕ) → AllByRecursion HasNoLine rs → HasNoLine t → cut (flat_map record_line rs ++ t) ≡ (rs, t)
cut_all [] t each rest = cut_tail t rest
cut_all (r ∷ rs) t each rest =
    ap cut (append_assoc (record_line r) (flat_map record_line rs) t ∙ append_assoc r (10 ∷ []) (flat_map record_line rs ++ t))
    ∙ cut_record r (flat_map record_line rs ++ t) each.0
    ∙ ap (λ p. (r ∷ p.0, p.1)) (cut_all rs t each.1 rest)

pub cut_one : (b : List ℕ) (rs : List (List ℕ)) (t : List ℕ) → IsRecords b rs t → cut b ≡ (rs, t)
cut_one b rs t h = ap cut h.is ∙ cut_all rs t h.each h.rest

pub one_cut : (b : List ℕ) (rs qs : List (List ℕ)) (t u : List ℕ) → IsRecords b rs t → IsRecords b qs u → (rs ≡ qs) × (t ≡ u)
one_cut b rs qs t u h k =
    let same : (rs, t) ≡ (qs, u) = sym (cut_one b rs t h) ∙ cut_one b qs u k in
    (ap (λ p. p.0) same, ap (λ p. p.1) same)

-- the signs of octets without LF
no_line_signs : (k : Kind) (r : List ℕ) → HasNoLine r → flat_map (octet_signs k Record) r ≡ map octet (wire_row k r)
no_line_signs k [] h = refl
no_line_signs k (c ∷ r) h =
    let e : (c == 10) ≡ false = h.0 in
    let first : octet_signs k Record c ≡ map octet (wire_octets k c) = rw e refl in
    ap (λ l. l ++ flat_map (octet_signs k Record) r) first
    ∙ ap (λ l. map octet (wire_octets k c) ++ l) (no_line_signs k r h.1)
    ∙ sym (map-append octet (wire_octets k c) (wire_row k r))

line_signs : (k : Kind) (r w : List ℕ) → HasNoLine r
    → signs_of (form k Record) (record_line r ++ w) ≡ ended_record (wire_row k r) ++ signs_of (form k Record) w
line_signs k r w h =
    ap (signs_of (form k Record)) (append_assoc r (10 ∷ []) w)
    ∙ signs_of-append (form k Record) r (10 ∷ w)
    ∙ ap (λ l. l ++ end_record ∷ signs_of (form k Record) w) (no_line_signs k r h)
    ∙ sym (append_assoc (map octet (wire_row k r)) (end_record ∷ []) (signs_of (form k Record) w))

records_signs : (k : Kind) (rs : List (List ℕ)) (t : List ℕ) → AllByRecursion HasNoLine rs → HasNoLine t
    → signs_of (form k Record) (flat_map record_line rs ++ t) ≡ signs_of_records k rs t
records_signs k [] t each rest = ap (λ l. l ++ end_file ∷ []) (no_line_signs k t rest)
records_signs k (r ∷ rs) t each rest =
    ap (signs_of (form k Record)) (append_assoc (record_line r) (flat_map record_line rs) t)
    ∙ line_signs k r (flat_map record_line rs ++ t) each.0
    ∙ ap (λ l. ended_record (wire_row k r) ++ l) (records_signs k rs t each.1 rest)
    ∙ sym (append_assoc (ended_record (wire_row k r)) (flat_map (λ q. ended_record (wire_row k q)) rs) (map octet (wire_row k t) ++ end_file ∷ []))

pub signs_are : (k : Kind) (b : List ℕ) (rs : List (List ℕ)) (t : List ℕ) → IsRecords b rs t → signs_of (form k Record) b ≡ signs_of_records k rs t
signs_are k b rs t h = ap (signs_of (form k Record)) h.is ∙ records_signs k rs t h.each h.rest

-- what rows of the wire read as
pub content_records : (k : Kind) (ws : List (List ℕ)) (ss : List Sign)
    → content_by k Record [] (flat_map ended_record ws ++ ss) ≡ read_records k ws ++ content_by k Record [] ss
content_records k [] ss = refl
content_records k (w ∷ ws) ss =
    let rest = flat_map ended_record ws ++ ss in
    ap (content_by k Record []) (append_assoc (ended_record w) (flat_map ended_record ws) ss ∙ append_assoc (map octet w) (end_record ∷ []) rest)
    ∙ content_octets k Record [] w (end_record ∷ rest)
    ∙ ap (λ l. read_record k w ++ 10 ∷ l) (content_records k ws ss)
    ∙ sym (append_assoc (read_record k w) (10 ∷ []) (read_records k ws ++ content_by k Record [] ss))
    ∙ sym (append_assoc (record_line (read_record k w)) (read_records k ws) (content_by k Record [] ss))

pub content_ended : (k : Kind) (ws : List (List ℕ)) (t : List ℕ) (ss : List Sign)
    → content_by k Record [] (flat_map ended_record ws ++ (map octet t ++ end_file ∷ ss)) ≡ read_records k ws ++ read_record k t
content_ended k ws t ss =
    content_records k ws (map octet t ++ end_file ∷ ss) ∙ ap (λ l. read_records k ws ++ l) (content_octets k Record [] t (end_file ∷ ss))

pub content_cut : (k : Kind) (ws : List (List ℕ)) (t : List ℕ)
    → content_by k Record [] (flat_map ended_record ws ++ map octet t) ≡ read_records k ws ++ read_cut k t
content_cut k ws t =
    content_records k ws (map octet t)
    ∙ ap (λ l. read_records k ws ++ l) (ap (content_by k Record []) (sym (append-nil (map octet t))) ∙ content_octets k Record [] t [])
