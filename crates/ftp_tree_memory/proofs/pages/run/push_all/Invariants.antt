use Rattle.std.proofs.Common.{◌≡◌, ◌≤◌, ◌++◌, length}
use Rattle.std.specs.List.{concat}
use Rattle.ftp_tree_memory.specs.pages.Pages.{IsPaged, page_octets}
use Rattle.ftp_tree_memory.proofs.pages.run.push_all.Given as goal

-- what is put already and what is left
abbrev pub invariant-loop-rest : goal.invariant-loop-rest
invariant-loop-rest g l =
    record {
      paged : IsPaged (page_octets l.pages.items);
      put : concat (page_octets l.pages.items) ++ l.rest ≡ concat (page_octets l.initial.pages.items) ++ l.octets;
      grown : length (concat (page_octets l.initial.pages.items)) ≤ length (concat (page_octets l.pages.items));
    }

abbrev pub decreases-loop-rest : goal.decreases-loop-rest
decreases-loop-rest g l = length l.rest
