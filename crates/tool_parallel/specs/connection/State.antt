-- What a client of a pool does (own choice).
use Rattle.std.specs.Prelude.{Bool, true, false}
use Rattle.tool_parallel.specs.declared.connection.pooled_client.ClientState.{ClientState}
use Rattle.tool_parallel.specs.declared.connection.pooled_client.ClientState.TheVariants as States

-- its control connection ended
abbrev pub is_connection_ended : ClientState → Bool
is_connection_ended States.Ended = true
is_connection_ended state = false
