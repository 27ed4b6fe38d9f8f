-- What stood at the path of an upload still stands there, where others leave what the session sees of the tree.
use Rattle.std.proofs.Common.{◌≡◌, ◌∙◌, true, List, [], ◌∷◌, Option, refl, sym, ap, subst}
use Rattle.ftp_ports.specs.Actions.{Stand}
use Rattle.ftp_path.specs.Path.{Names}
use Rattle.ftp_server_driver.specs.alone.Side.{server_side}
use Rattle.ftp_server_driver.specs.shared.Lending.{Holding, with_tree_at}
use Rattle.ftp_server_driver.specs.shared.Turning.{AreTurns, TakesTurn, Turn, told_by}
use Rattle.ftp_server_model.proofs.StandingLemmas.{stands_still}
use Rattle.ftp_server_model.specs.Play.{only_at}
use Rattle.ftp_server_model.specs.Standing.{standing_of, still_stands}
use Rattle.ftp_server_model.specs.View.{View}
use Rattle.ftp_server_model.specs.declared.session.Standing.{Standing}
use Rattle.laws_server.proofs.several.LentLemmas.{standing_in_part}
use Rattle.laws_server.specs.several.Company.{IsInSlot}
use Rattle.laws_server.specs.several.Several.{exchanged}
use Rattle.ftp_tree.specs.Tree.{Table}
use Rattle.laws_sessions.specs.served.Alone.{FindWhatWasLeft, whole_holding}

-- what these turns told still stands in this map
abbrev pub StillStands : List Turn → Table → View → Type 0
StillStands turns table v = still_stands (told_by turns) (standing_of (exchanged table v).session) ≡ true

-- then it stays in a turn that is lent this map
pub stays_so : (turn : Turn) (before : List Turn) (old now : Stand server_side) → TakesTurn turn old now → turn.stood ≡ told_by before
    → StillStands before turn.lent.table old.owner.end.server.view → turn.stays ≡ true
stays_so turn before old now takes told still =
    takes.stays
    ∙ ap (λ (stood : Option Standing). still_stands stood (standing_of (exchanged turn.lent.table old.owner.end.server.view).session)) told
    ∙ still

-- the last of them told what stands in this map
told_stands : (last : Turn) (before : List Turn) (table : Table) (old now : Stand server_side) → (takes : TakesTurn last old now)
    → standing_of takes.mid.owner.end.server.view.session ≡ standing_of (exchanged table now.owner.end.server.view).session
    → StillStands (last ∷ before) table now.owner.end.server.view
told_stands last before table old now takes same =
    subst (λ (s : Option Standing). still_stands last.stands s ≡ true) (takes.stands ∙ same) (stands_still last.stands)

-- ---- all of the tree

-- where a turn leaves the tree that the next one is lent, that one begins where it ended
pub begins_there : (turn last : Turn) (old now : Stand server_side) → turn.lent ≡ last.left → (takes : TakesTurn last old now)
    → with_tree_at turn.lent now ≡ takes.mid
begins_there turn last old now found takes =
    ap (with_tree_at turn.lent) takes.own ∙ ap (λ (t : Holding). with_tree_at t takes.mid) (found ∙ takes.leaves)

-- so what stands there is what it told
pub still_whole : (turn : Turn) (before : List Turn) (start now : Stand server_side) → FindWhatWasLeft whole_holding (turn ∷ before) → AreTurns before start now
    → StillStands before turn.lent.table now.owner.end.server.view
still_whole turn [] start now found are = refl
still_whole turn (last ∷ before) start now found are =
    told_stands last before turn.lent.table are.0 now are.2
    (ap (λ (s : Stand server_side). standing_of s.owner.end.server.view.session) (sym (begins_there turn last are.0 now found.1 are.2)))

-- ---- what stands at and below a root

-- who has the root sees the same at the path of an upload in each map that has the same there
same_there : (root : Names) (table : Table) (v : View) → only_at root v.session.table ≡ only_at root table → IsInSlot root v
    → standing_of v.session ≡ standing_of (exchanged table v).session
same_there root table v same in_slot =
    sym (standing_in_part root v in_slot.held) ∙ ap (λ (t : Table). standing_of (exchanged t v).session) same
    ∙ standing_in_part root (exchanged table v) in_slot.held

-- so what stands there is what a turn told that left the same there
pub still_rooted : (root : Names) (last : Turn) (before : List Turn) (table : Table) (old now : Stand server_side) → (takes : TakesTurn last old now)
    → only_at root table ≡ only_at root last.left.table → IsInSlot root takes.mid.owner.end.server.view
    → StillStands (last ∷ before) table now.owner.end.server.view
still_rooted root last before table old now takes same in_slot =
    let v : View = takes.mid.owner.end.server.view in
    let left : only_at root v.session.table ≡ only_at root table = ap (λ (t : Holding). only_at root t.table) (sym takes.leaves) ∙ sym same in
    told_stands last before table old now takes
    (same_there root table v left in_slot ∙ ap (λ (s : Stand server_side). standing_of (exchanged table s.owner.end.server.view).session) (sym takes.own))
