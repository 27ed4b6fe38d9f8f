-- A map of the file alone has it, and room; and the example of it is fair.
use Rattle.std.proofs.Common.{◌≡◌, ◌≤◌, Bool, true, false, true≢false, cond, [], ◌∷◌, length, is_some, Some, None, refl, sym, ap, subst, ◌∙◌, arith, ◌-◌, min, nat_le}
use Rattle.std.specs.FinMap as fin
use Rattle.std.specs.FinMap.Entries.{put}
use Rattle.std.specs.List.{list_all, sum_by}
use Rattle.std.specs.Option.{unwrap_or}
use Rattle.std.specs.Ordering.{eq_by_cmp}
use Rattle.ftp_operation.specs.Account.{login_account}
use Rattle.ftp_path.specs.Path.{fits, parent, path_cmp, text_of}
use Rattle.ftp_path.proofs.TextLemmas.{path_on_literals}
use Rattle.ftp_server_model.specs.Held.{HasShortFiles}
use Rattle.ftp_tree.proofs.EntryLemmas.{path_total}
use Rattle.ftp_tree.proofs.KeepLaws.{IsTree-insert, at-insert, at-root_alone, root-tree}
use Rattle.ftp_tree.proofs.LawLemmas.{under-stands}
use Rattle.ftp_tree.proofs.TableLemmas.{entries-table, table_of-none}
use Rattle.ftp_tree.specs.Map as maps
use Rattle.ftp_tree.specs.Map.{Dir, File, length_of, octets_of, of_node}
use Rattle.ftp_tree.specs.Sound.{IsSoundTable, is_sound_entry}
use Rattle.ftp_tree.specs.Tree.{IsTree, file_limit, installed, most_octets, node_at, octets_at, octets_in, octets_or_none, room_at, root_alone, root_within, total_limit, under}
use Rattle.laws_drivers.specs.control.Example.{example}
use Rattle.laws_world.specs.Claims.{IsFair}
use Rattle.laws_examples.specs.transfers.Example.{HasRoom, IsThere, example_name, example_octets, example_file_alone}

-- the file stands there
file_stands : node_at example_file_alone (example_name ∷ []) ≡ Some (File example_octets 0)
unfolding installed
file_stands = at-insert root_alone (example_name ∷ []) (File example_octets 0) (example_name ∷ [])

-- and so does the root
root_stands : node_at example_file_alone [] ≡ Some Dir
unfolding installed
root_stands = at-insert root_alone (example_name ∷ []) (File example_octets 0) [] ∙ root-tree.root

-- it is a tree, since nothing stood there before
is_tree : IsTree example_file_alone
unfolding installed parent
is_tree = IsTree-insert root_alone (example_name ∷ []) (File example_octets 0) root-tree root-tree.root
    (λ dir. absurd (true≢false (sym (ap is_some (sym (at-root_alone (example_name ∷ [])) ∙ dir)))))

-- whatever stands in it is short
none_longer : (f r : Bool) → length (unwrap_or (of_node octets_of (cond f (Some (File example_octets 0)) (cond r (Some Dir) None))) []) ≤ most_octets
none_longer true r = omega arith
none_longer false true = omega arith
none_longer false false = omega arith

-- so its files are
short_files : HasShortFiles (under example_file_alone [])
unfolding octets_at installed
short_files path =
    subst (λ node. length (unwrap_or (of_node octets_of node) []) ≤ most_octets)
    (sym (under-stands example_file_alone [] path ∙ at-insert root_alone (example_name ∷ []) (File example_octets 0) path
    ∙ ap (cond (eq_by_cmp path_cmp path (example_name ∷ [])) (Some (File example_octets 0))) (at-root_alone path)))
    (none_longer _ _)

-- its entries are the root and the file, and sound
are_sound : IsSoundTable example_file_alone
unfolding installed root_alone root_within path_on_literals
are_sound =
    ap (list_all is_sound_entry) (fin.entries-insert path_total maps.root_alone (example_name ∷ []) (File example_octets 0)
    ∙ ap (λ all. put path_cmp (example_name ∷ []) (File example_octets 0) (fin.entries all)) (sym table_of-none)
    ∙ ap (put path_cmp (example_name ∷ []) (File example_octets 0)) (entries-table [] refl))

-- so the session is fair
is_fair : IsFair (example example_file_alone)
unfolding login_account fits text_of
is_fair = record {
  user = refl;
  pass = refl;
  accounts = refl;
  roots = refl;
  tree = is_tree;
  files = short_files;
  entries = are_sound;
  near_typed = (refl, (omega arith, (omega arith, (omega arith, (omega arith, tt)))));
  far_typed = (refl, (omega arith, (omega arith, (omega arith, (omega arith, tt)))));
  hosts = tt;
}

-- its octets are those of the file
has_octets : octets_in example_file_alone ≡ 2
unfolding octets_in maps.octets_in installed root_alone root_within
has_octets =
    ap (sum_by (λ entry. length_of entry.1)) (fin.entries-insert path_total maps.root_alone (example_name ∷ []) (File example_octets 0)
    ∙ ap (λ all. put path_cmp (example_name ∷ []) (File example_octets 0) (fin.entries all)) (sym table_of-none)
    ∙ ap (put path_cmp (example_name ∷ []) (File example_octets 0)) (entries-table [] refl))

-- those at its place are freed
has_there : octets_or_none example_file_alone (example_name ∷ []) ≡ example_octets
unfolding octets_at
has_there = rw file_stands refl

-- so there is room for one
limits : nat_le 1 (min (file_limit example_file_alone) (total_limit example_file_alone - 0)) ≡ true
unfolding installed root_alone root_within
limits = refl

has_room : HasRoom example_file_alone
unfolding room_at
has_room =
    ap (λ n. nat_le 1 (min (file_limit example_file_alone) (total_limit example_file_alone - (n - length (octets_or_none example_file_alone (example_name ∷ []))))))
    has_octets
    ∙ ap (λ o. nat_le 1 (min (file_limit example_file_alone) (total_limit example_file_alone - (2 - length o)))) has_there ∙ limits

pub file_alone_is_there : IsThere
file_alone_is_there = record { has = record { root = root_stands; file = file_stands }; room = has_room; fair = is_fair }
