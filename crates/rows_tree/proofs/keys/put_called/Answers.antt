use Rattle.std.proofs.Common.{◌≡◌, true, List, ℕ, nat_le, length}
use Rattle.std.specs.List.{list_all}
use Rattle.std.proofs.lemmas.Bool.{and_parts}
use Rattle.ftp_path.specs.Kept.{IsKept, names_of}
use Rattle.ftp_path.specs.Path.{fits, text_of, text_limit}
use Rattle.rows_tree.proofs.keys.put_called.Goals as goal

-- the names of a kept text are short
short : (text : List ℕ) → IsKept text → list_all (λ name. nat_le (length name) 255) (names_of text) ≡ true
unfolding fits
short text kept = (and_parts (list_all (λ name. nat_le (length name) 255) (names_of text)) (nat_le (length (text_of (names_of text))) text_limit) kept.within).0

pub name_in-requires-clause-short : goal.name_in-requires-clause-short
name_in-requires-clause-short g c = short _ c.key-2.ensures.kept
