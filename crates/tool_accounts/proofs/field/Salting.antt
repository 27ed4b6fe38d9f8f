-- The letters of a salt.
use Rattle.std.proofs.Common.{◌≡◌, ◌<◌, ℕ, ◌+◌, ◌%◌, ◌++◌, List, [], ◌∷◌, length, take, get_or, true, refl, arith, ◌∙◌, ap, sym}
use Rattle.std.specs.List.{list_all}
use Rattle.std.proofs.lemmas.List.{map_more}
use Rattle.ftp_secret.specs.Crypt.{letter}
use Rattle.ftp_secret.specs.Secret.{is_letter}
use Rattle.tool_accounts.proofs.field.ReadBack.{letter_is}
use Rattle.tool_accounts.specs.field.Salt.{salt_of}

-- each octet gives a letter
pub salt_letters : (octets : List ℕ) → list_all is_letter (salt_of octets) ≡ true
salt_letters [] = refl
salt_letters (o ∷ octets) = rw (letter_is (o % 64) (omega arith), salt_letters octets) refl

-- one octet more
pub salt_more : (octets : List ℕ) (i d : ℕ) (old : List ℕ) → i < length octets → old ≡ salt_of (take i octets)
    → old ++ letter (get_or octets i d % 64) ∷ [] ≡ salt_of (take (i + 1) octets)
salt_more octets i d old within before =
    ap (λ xs. xs ++ letter (get_or octets i d % 64) ∷ []) before ∙ sym (map_more (λ octet. letter (octet % 64)) octets i d within)
