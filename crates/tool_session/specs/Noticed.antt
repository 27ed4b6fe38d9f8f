-- What is known of a server beside its answers (own choice).
use Rattle.std.specs.Prelude.{Bool, true, false, Option, Some}
use Rattle.tool_session.specs.declared.last_reply.Over.{Over}
use Rattle.tool_session.specs.declared.last_reply.Over.TheVariants as Overs

-- the server was silent for as long as it may be
abbrev pub is_silence : Option Over → Bool
is_silence (Some (Overs.Silence seconds)) = true
is_silence over = false
