-- The endpoints of data connections, as texts (RFC 959, section 4.1.2; RFC 2428, sections 2 and 3).
use Rattle.std.specs.Prelude.{◌≡◌, ◌+◌, ◌*◌, ◌≤◌, ℕ, List, [], ◌∷◌, ◌++◌, IsTrue, not}
use Rattle.std.specs.Char.{is_ascii_digit}
use Rattle.ftp_endpoint.specs.declared.endpoint.Endpoint.{Endpoint}
use Rattle.ftp_endpoint.specs.declared.host.Host.TheVariants.{V4}
use Rattle.ftp_endpoint.specs.Number.{SaysNumber, SaysOctet, SaysPort, behind_digits, closing, comma, front_digits, opening}

-- the text begins with these numbers, each a whole run of digits, joined by the separator; the rest is behind them
abbrev pub BeginsWith : ℕ → List ℕ → List ℕ → List ℕ → Type 0
BeginsWith separator text [] rest = ⊥
BeginsWith separator text (n ∷ []) rest = SaysOctet (front_digits text) n × (behind_digits text ≡ rest)
BeginsWith separator text (n ∷ m ∷ ns) rest =
    SaysOctet (front_digits text) n
    × ((next : List ℕ) × (behind_digits text ≡ separator ∷ next) × BeginsWith separator next (m ∷ ns) rest)

-- the text begins with h1,h2,h3,h4,p1,p2: the host is h1.h2.h3.h4, the port 256 * p1 + p2
pub record BeginsWithSix (text : List ℕ) (endpoint : Endpoint) (rest : List ℕ) : Type 0 where
  pub h1 : ℕ
  pub h2 : ℕ
  pub h3 : ℕ
  pub h4 : ℕ
  pub p1 : ℕ
  pub p2 : ℕ
  pub numbers : BeginsWith comma text (h1 ∷ h2 ∷ h3 ∷ h4 ∷ p1 ∷ p2 ∷ []) rest
  pub value : endpoint ≡ record { host = V4 (h1 ∷ h2 ∷ h3 ∷ h4 ∷ []); port = 256 * p1 + p2 }

-- the text is the six numbers of this endpoint, and nothing else
abbrev pub SaysSix : List ℕ → Endpoint → Type 0
SaysSix text endpoint = BeginsWithSix text endpoint []

-- an octet that may stand between the parts of an extended address: visible, and no digit (own choice)
abbrev pub IsDelimiter : ℕ → Type 0
IsDelimiter d = (33 ≤ d) × (d ≤ 126) × IsTrue (not (is_ascii_digit d))

-- the text begins with this port, a delimiter and ')'
pub record ClosesWithPort (d : ℕ) (text : List ℕ) (port : ℕ) : Type 0 where
  pub digits : List ℕ
  pub more : List ℕ
  pub number : SaysPort digits port
  pub text_is : text ≡ digits ++ d ∷ closing ∷ more

-- the text begins with (<d><d><d>port<d>) of this port (RFC 2428, section 3)
pub record BeginsWithPort (text : List ℕ) (port : ℕ) : Type 0 where
  pub d : ℕ
  pub rest : List ℕ
  pub delimiter : IsDelimiter d
  pub text_is : text ≡ opening ∷ d ∷ d ∷ d ∷ rest
  pub closes : ClosesWithPort d rest port

-- the text ends with this port between two delimiters; what is before them is the address
pub record EndsWithPort (d : ℕ) (text address : List ℕ) (port : ℕ) : Type 0 where
  pub digits : List ℕ
  pub number : SaysPort digits port
  pub text_is : text ≡ address ++ d ∷ (digits ++ d ∷ [])

-- <d>proto<d>address<d>port<d>, the same delimiter each time; the address may have it too (RFC 2428, section 2)
pub record HasShape (text : List ℕ) (proto : ℕ) (address : List ℕ) (port : ℕ) : Type 0 where
  pub d : ℕ
  pub rest : List ℕ
  pub more : List ℕ
  pub delimiter : IsDelimiter d
  pub text_is : text ≡ d ∷ rest
  pub number : SaysNumber (front_digits rest) proto
  pub behind : behind_digits rest ≡ d ∷ more
  pub ends : EndsWithPort d more address port
