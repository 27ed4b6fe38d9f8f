-- A file without records: its signs, and what rows of signs say of it.
use Rattle.std.proofs.Common.{◌≡◌, ℕ, List, [], ◌∷◌, ◌++◌, map, refl, ap, sym, ◌∙◌, append_assoc, append-nil}
use Rattle.std.specs.List.{flat_map}
use Rattle.std.proofs.lemmas.List.{map-append}
use Rattle.ftp_repr.specs.Signs.{Sign, octet, end_record, end_file, wire_octets, wire_row, octet_signs, signs_of}
use Rattle.ftp_repr.specs.Content.{read_record, read_cut, content_by, HasNoEnd, data_of}
use Rattle.ftp_settings.specs.declared.representation.Kind.{Kind}
use Rattle.ftp_settings.specs.declared.representation.Structure.TheVariants.{File}
use Rattle.ftp_repr.proofs.ContentLemmas.{form}

octets_signs : (k : Kind) (b : List ℕ) → flat_map (octet_signs k File) b ≡ map octet (wire_row k b)
octets_signs k [] = refl
octets_signs k (c ∷ b) =
    ap (λ l. map octet (wire_octets k c) ++ l) (octets_signs k b) ∙ sym (map-append octet (wire_octets k c) (wire_row k b))

pub file_sent : (k : Kind) (b : List ℕ) → signs_of (form k File) b ≡ map octet (wire_row k b) ++ end_file ∷ []
file_sent k b = ap (λ l. l ++ end_file ∷ []) (octets_signs k b)

ended_by : (k : Kind) (before : List ℕ) (ss more : List Sign) → HasNoEnd ss
    → content_by k File before (ss ++ end_file ∷ more) ≡ read_record k (before ++ data_of ss)
ended_by k before [] more h = ap (read_record k) (sym (append-nil before))
ended_by k before (octet c ∷ ss) more h =
    ended_by k (before ++ c ∷ []) ss more h ∙ ap (read_record k) (append_assoc before (c ∷ []) (data_of ss))
ended_by k before (end_record ∷ ss) more h = ended_by k before ss more h
ended_by k before (end_file ∷ ss) more h = absurd h

cut_by : (k : Kind) (before : List ℕ) (ss : List Sign) → HasNoEnd ss → content_by k File before ss ≡ read_cut k (before ++ data_of ss)
cut_by k before [] h = ap (read_cut k) (sym (append-nil before))
cut_by k before (octet c ∷ ss) h =
    cut_by k (before ++ c ∷ []) ss h ∙ ap (read_cut k) (append_assoc before (c ∷ []) (data_of ss))
cut_by k before (end_record ∷ ss) h = cut_by k before ss h
cut_by k before (end_file ∷ ss) h = absurd h

pub file_ended : (k : Kind) (ss more : List Sign) → HasNoEnd ss → content_by k File [] (ss ++ end_file ∷ more) ≡ read_record k (data_of ss)
file_ended k ss more h = ended_by k [] ss more h

pub file_cut : (k : Kind) (ss : List Sign) → HasNoEnd ss → content_by k File [] ss ≡ read_cut k (data_of ss)
file_cut k ss h = cut_by k [] ss h
