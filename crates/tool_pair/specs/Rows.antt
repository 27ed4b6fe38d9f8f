-- A worked transcript, which is a theorem that computes.
use Rattle.std.specs.Prelude.{◌≡◌, true, [], ◌∷◌, ◌++◌, codes}
use Rattle.laws_world.specs.Events.{ControlToServer, ControlToClient, DataToServer}
use Rattle.tool_pair.specs.Transcript.{delivered, transcript}

-- a reply whose end comes after the front of a command, the rest of which comes last; the front of another reply is no line
abbrev pub LinesTold : Type 0
LinesTold =
    transcript true (
    delivered ControlToClient (codes "220 Ready" ++ 13 ∷ [])
    ∷ delivered ControlToServer (codes "QU")
    ∷ delivered DataToServer (10 ∷ [])
    ∷ delivered ControlToClient (10 ∷ codes "221")
    ∷ delivered ControlToServer (codes "IT" ++ 13 ∷ 10 ∷ [])
    ∷ []
    ) ≡ codes "S: 220 Ready" ++ 10 ∷ codes "C: QUIT" ++ 10 ∷ []
