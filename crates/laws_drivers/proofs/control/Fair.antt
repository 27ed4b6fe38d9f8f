-- The example of a map of the root alone is fair.
use Rattle.std.proofs.Common.{Bool, true, false, cond, [], length, ◌≤◌, Some, None, refl, sym, subst, ◌∙◌, arith}
use Rattle.std.specs.Option.{unwrap_or}
use Rattle.ftp_operation.specs.Account.{login_account}
use Rattle.ftp_path.specs.Path.{fits, text_of}
use Rattle.ftp_server_model.specs.Held.{HasShortFiles}
use Rattle.ftp_tree.proofs.KeepLaws.{at-root_alone, root-tree}
use Rattle.ftp_tree.proofs.LawLemmas.{under-stands}
use Rattle.ftp_tree.proofs.SoundLemmas.{sound-alone}
use Rattle.ftp_tree.specs.Map.{Dir, octets_of, of_node}
use Rattle.ftp_tree.specs.Tree.{most_octets, octets_at, root_alone, under}
use Rattle.laws_drivers.specs.control.Example.{ExampleIsFair}

-- no file stands in it
none_stands : (stands : Bool) → length (unwrap_or (of_node octets_of (cond stands (Some Dir) None)) []) ≤ most_octets
none_stands true = omega arith
none_stands false = omega arith

-- so its files are short
short_files : HasShortFiles (under root_alone [])
unfolding octets_at
short_files path =
    subst (λ node. length (unwrap_or (of_node octets_of node) []) ≤ most_octets) (sym (under-stands root_alone [] path ∙ at-root_alone path))
    (none_stands _)

pub example_is_fair : ExampleIsFair
unfolding login_account fits text_of
example_is_fair = (
  root-tree.root,
  record {
    user = refl;
    pass = refl;
    accounts = refl;
    roots = refl;
    tree = root-tree;
    files = short_files;
    entries = sound-alone;
    near_typed = (refl, (omega arith, (omega arith, (omega arith, (omega arith, tt)))));
    far_typed = (refl, (omega arith, (omega arith, (omega arith, (omega arith, tt)))));
    hosts = tt;
  },
)
