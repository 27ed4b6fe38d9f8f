-- What a text names: HOST/PATH, HOST:PORT/PATH or [V6]:PORT/PATH (own choice, after RFC 3986, section 3.2).
use Rattle.std.specs.Prelude.{◌≡◌, ◌≢◌, ◌⊎◌, ℕ, List, [], ◌∷◌, ◌++◌}
use Rattle.ftp_endpoint.specs.Number.{SaysPort, colon}
use Rattle.ftp_facts.specs.Fact.{Lacks}

-- the octets between a server and a path, and around an IPv6 address: `/`, `[` and `]`
abbrev pub slash : ℕ
slash = 47

abbrev pub left_bracket : ℕ
left_bracket = 91

abbrev pub right_bracket : ℕ
right_bracket = 93

-- the port of a control connection where none is written (RFC 959, section 8)
abbrev pub control_port : ℕ
control_port = 21

-- what stands behind a host says this port: nothing, or `:` and the port's number
abbrev pub SaysPortBehind : List ℕ → ℕ → Type 0
SaysPortBehind [] port = port ≡ control_port
SaysPortBehind (octet ∷ digits) port = (octet ≡ colon) × SaysPort digits port

-- a host in brackets, which end at the first `]`, and a port behind them
abbrev pub IsBracketed : List ℕ → List ℕ → ℕ → Type 0
IsBracketed text host port =
    (behind : List ℕ) × (text ≡ left_bracket ∷ (host ++ right_bracket ∷ behind)) × Lacks host right_bracket
    × SaysPortBehind behind port

-- a host without a `:`, and a port behind it
abbrev pub IsBareHost : List ℕ → List ℕ → ℕ → Type 0
IsBareHost text host port = (behind : List ℕ) × (text ≡ host ++ behind) × Lacks host colon × SaysPortBehind behind port

-- a text that begins with `[`
abbrev pub BeginsInBrackets : List ℕ → Type 0
BeginsInBrackets text = (inside : List ℕ) × (text ≡ left_bracket ∷ inside)

-- a host, in brackets or not, and a port behind it
abbrev pub IsHostAndPort : List ℕ → List ℕ → ℕ → Type 0
IsHostAndPort text host port = IsBracketed text host port ⊎ (¬ BeginsInBrackets text × IsBareHost text host port)

-- a server's text says this host, which is not empty, and this port
abbrev pub SaysServer : List ℕ → List ℕ → ℕ → Type 0
SaysServer text host port = (host ≢ []) × IsHostAndPort text host port

-- the text names this path of this server, whose text ends at the first slash
abbrev pub Names : List ℕ → List ℕ → ℕ → List ℕ → Type 0
Names text host port path =
    (server : List ℕ) × (text ≡ server ++ slash ∷ path) × Lacks server slash × SaysServer server host port
