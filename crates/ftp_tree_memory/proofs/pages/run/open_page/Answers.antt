use Rattle.std.proofs.Common.{◌≡◌, ◌∙◌, ◌↔◌, List, ℕ, Vec, IsTrue, false, ap, subst, sym}
use Rattle.std.proofs.lemmas.Bool.{true≢false}
use Rattle.std.specs.List.{concat}
use Rattle.ftp_tree_memory.specs.pages.Pages.{HasRoom, IsPaged, page_octets}
use Rattle.ftp_tree_memory.proofs.pages.PageLemmas.{opened}
use Rattle.ftp_tree_memory.proofs.pages.run.open_page.Goals as goal

full : {A : Type 0} (lent pages : List (Vec ℕ A)) → lent ≡ pages → (IsTrue false ↔ HasRoom (page_octets lent)) → HasRoom (page_octets pages) → ⊥
full lent pages same answer room = true≢false (sym (answer.1 (subst (λ l. HasRoom (page_octets l)) (sym same) room)))

pub returns-clause-paged : goal.returns-clause-paged
returns-clause-paged g c =
    subst (λ l. IsPaged (page_octets l)) (sym c.in_ok-push.ensures.items)
    (opened c.args.pages.now.items _ c.requires (full _ _ c.as_slice.ensures.value c.if-has_room.ensures) c.in_ok-page.ensures).paged

pub returns-clause-room : goal.returns-clause-room
returns-clause-room g c =
    subst (λ l. HasRoom (page_octets l)) (sym c.in_ok-push.ensures.items)
    (opened c.args.pages.now.items _ c.requires (full _ _ c.as_slice.ensures.value c.if-has_room.ensures) c.in_ok-page.ensures).room

pub returns-clause-same : goal.returns-clause-same
returns-clause-same g c =
    ap (λ l. concat (page_octets l)) c.in_ok-push.ensures.items
    ∙ (opened c.args.pages.now.items _ c.requires (full _ _ c.as_slice.ensures.value c.if-has_room.ensures) c.in_ok-page.ensures).octets
