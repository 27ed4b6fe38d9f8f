-- How many octets a file has once some came after those that it keeps.
use Rattle.std.proofs.Common.{ℕ, ◌+◌, ◌<◌, ◌≡◌, true, false, min, not, Some, List, length, take, nat_le, refl, sym, ap, ◌∙◌, arith}
use Rattle.std.proofs.lemmas.Bool.{leb-true, leb-false, lt-leb}
use Rattle.std.proofs.lemmas.List.{length-take}
use Rattle.ftp_path.specs.Path.{Names}
use Rattle.ftp_tree.specs.Tree.{Table, install_refusal, octets_refusal, or_else, whenever, file_limit, room_at, room_refusal}
use Rattle.ftp_tree.specs.declared.fault.TreeFault.TheVariants.{TooBig, Full}

past_file : (part : Table) (path : Names) (count : ℕ) → file_limit part < count → octets_refusal part path count ≡ Some TooBig
past_file part path count past =
    ap (λ b. or_else (whenever (not b) TooBig) (whenever (not (nat_le count (room_at part path))) Full)) (lt-leb count (file_limit part) past)

-- octets past what 64 bits count are as much too many as those that they do
past-both : (part : Table) (path : Names) (one other : ℕ) → file_limit part < one → file_limit part < other → install_refusal part path one ≡ install_refusal part path other
unfolding install_refusal
past-both part path one other first second = ap (or_else (room_refusal part path)) (past_file part path one first ∙ sym (past_file part path other second))

pub refused-after : (part : Table) (path : Names) (octets : List ℕ) (keep kept came count : ℕ) → kept ≡ min keep (length octets)
    → count ≡ min (kept + came) 18446744073709551615 → install_refusal part path count ≡ install_refusal part path (length (take keep octets) + came)
refused-after part path octets keep kept came count is counted =
    elim (nat_le (kept + came) 18446744073709551615) as (λ b. nat_le (kept + came) 18446744073709551615 ≡ b
    → install_refusal part path count ≡ install_refusal part path (length (take keep octets) + came)) [
      | true ↦ λ fits.
          let within = leb-true (kept + came) 18446744073709551615 fits in
          ap (install_refusal part path) (omega (arith, whole, counted, within))
      | false ↦ λ past.
          let beyond = leb-false (kept + came) 18446744073709551615 past in
          past-both part path count (length (take keep octets) + came) (omega (arith, counted, beyond)) (omega (arith, whole, beyond))
    ] refl
  where
    whole : length (take keep octets) ≡ kept
    whole = length-take keep octets ∙ sym is
