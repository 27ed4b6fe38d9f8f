-- Paths that a reply tells: their texts are path texts, and are read as themselves.
use Rattle.std.proofs.Common.{◌≡◌, ℕ, List, [], ◌∷◌, ◌++◌, Some, refl, ap, append_assoc}
use Rattle.std.proofs.lemmas.List.Elements.{All-nil}
use Rattle.ftp_path.specs.Path.{Names, IsPathText, text_of}
use Rattle.ftp_reply.specs.Values.{doubled, path_value}
use Rattle.ftp_reply.proofs.PathValueLemmas.{says_path}
use Rattle.ftp_server_model.specs.Replies.{quoted}

-- a quoted path is read as itself, whatever stands behind it but a double quote
pub quoted-reads : (path : Names) (more : List ℕ) → IsPathText (text_of path) → path_value (quoted path ++ 32 ∷ more) ≡ Some (text_of path)
quoted-reads path more is = says_path (quoted path ++ 32 ∷ more) (text_of path) (record {
  quoted = record {
    before = [];
    inside = doubled (text_of path) ++ 34 ∷ 32 ∷ more;
    behind = 32 ∷ more;
    text_is = ap (λ l. 34 ∷ l) (append_assoc (doubled (text_of path)) (34 ∷ []) (32 ∷ more));
    first = All-nil (λ octet. ¬ (octet ≡ 34));
    closes = record { text_is = refl; single = λ rest e. absurd (let f : 32 ∷ more ≡ 34 ∷ rest = e in cc) };
  };
  is_path = is;
})
