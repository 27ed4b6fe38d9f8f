-- What holds of every dialogue that does not break off.
use Rattle.std.specs.Prelude.{◌≡◌, ℕ, List, Option, Some}
use Rattle.tool_dialogue.specs.Converses.{Converses}

-- two over the same input, whose writers held the same, write the same and have one status, whatever the pieces
abbrev pub ConversesOnce : Type 0
ConversesOnce =
    (input output : List ℕ) (after other : Option (List ℕ)) (new now : Option (List ℕ)) (most few status code : ℕ)
    → Converses most (Some input) after (Some output) new status → Converses few (Some input) other (Some output) now code
    → (new ≡ now) × (status ≡ code)
