-- The names of a root and of a path below it lie below a folder.
use Rattle.std.proofs.Common.{◌≡◌, ℕ, List, ◌++◌, sym, ap, ◌∙◌, true}
use Rattle.std.specs.List.{list_all}
use Rattle.ftp_path.specs.Path.{Names, is_component, joined}
use Rattle.ftp_path.specs.Kept.{IsKept, names_of}
use Rattle.ftp_path.proofs.PathLemmas.{joined-append}
use Rattle.ftp_path.proofs.KeyLemmas.{components-append}
use Rattle.ftp_disk_scan.specs.loading.Place.{IsBelow}

-- a kept text is its names joined, each of which names something
pub kept-text : (key : List ℕ) (names : Names) → IsKept key → names_of key ≡ names → key ≡ joined names
kept-text key names kept are = sym kept.joins.whole ∙ ap joined are

pub kept-components : (key : List ℕ) (names : Names) → IsKept key → names_of key ≡ names → list_all is_component names ≡ true
kept-components key names kept are = sym (ap (list_all is_component) are) ∙ kept.joins.components

pub below-of : (text : List ℕ) (root path : Names) → list_all is_component root ≡ true → list_all is_component path ≡ true
    → text ≡ joined root ++ joined path → IsBelow text
below-of text root path one two is = record {
  names = root ++ path;
  whole = is ∙ sym (joined-append root path);
  components = components-append root path one two;
}
