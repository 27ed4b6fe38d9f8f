-- Decimal numbers of the worked rows.
use Rattle.std.proofs.Common.{◌≡◌, ℕ, List, [], ◌∷◌, ◌++◌, ap, ◌∙◌, arith, codes, decimal}
use Rattle.std.proofs.lemmas.Fmt.{decimal_digit, decimal_step}
use Rattle.ftp_endpoint.specs.Written.{six_text}
use Rattle.ftp_ends.specs.RowWords.{here}
use Rattle.ftp_server_model.specs.Rows.{at}

pub of_0 : decimal 0 ≡ codes "0"
of_0 = decimal_digit 0 (omega arith)

pub of_2 : decimal 2 ≡ codes "2"
of_2 = decimal_digit 2 (omega arith)

pub of_3 : decimal 3 ≡ codes "3"
of_3 = decimal_digit 3 (omega arith)

pub of_4 : decimal 4 ≡ codes "4"
of_4 = decimal_digit 4 (omega arith)

pub of_5 : decimal 5 ≡ codes "5"
of_5 = decimal_digit 5 (omega arith)

pub of_1 : decimal 1 ≡ codes "1"
of_1 = decimal_digit 1 (omega arith)

of_127 : decimal 127 ≡ codes "127"
of_127 =
    decimal_step 127 (omega arith) (omega arith)
    ∙ ap (λ l. l ++ 55 ∷ []) (decimal_step 12 (omega arith) (omega arith) ∙ ap (λ l. l ++ 50 ∷ []) of_1)

of_138 : decimal 138 ≡ codes "138"
of_138 =
    decimal_step 138 (omega arith) (omega arith)
    ∙ ap (λ l. l ++ 56 ∷ []) (decimal_step 13 (omega arith) (omega arith) ∙ ap (λ l. l ++ 51 ∷ []) of_1)

pub of_1930 : decimal 1930 ≡ codes "1930"
of_1930 =
    decimal_step 1930 (omega arith) (omega arith)
    ∙ ap (λ l. l ++ 48 ∷ []) (decimal_step 193 (omega arith) (omega arith)
    ∙ ap (λ l. l ++ 51 ∷ []) (decimal_step 19 (omega arith) (omega arith) ∙ ap (λ l. l ++ 57 ∷ []) of_1))

-- the six numbers of an endpoint, by their texts
abbrev six : List ℕ → List ℕ → List ℕ → List ℕ → List ℕ → List ℕ
six a zero_text b c d = a ++ 44 ∷ (zero_text ++ 44 ∷ (zero_text ++ 44 ∷ b)) ++ (44 ∷ (c ++ (44 ∷ d)))

pub six_is : six_text (at here) ≡ codes "127,0,0,1,7,138"
six_is =
    ap (λ a. six a (decimal 0) (decimal 1) (decimal 7) (decimal 138)) of_127
    ∙ ap (λ z. six (codes "127") z (decimal 1) (decimal 7) (decimal 138)) (decimal_digit 0 (omega arith))
    ∙ ap (λ b. six (codes "127") (codes "0") b (decimal 7) (decimal 138)) of_1
    ∙ ap (λ c. six (codes "127") (codes "0") (codes "1") c (decimal 138)) (decimal_digit 7 (omega arith))
    ∙ ap (λ d. six (codes "127") (codes "0") (codes "1") (codes "7") d) of_138
