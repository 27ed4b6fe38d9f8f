-- Values that the texts of replies carry: each as a function, which gives the value or none, and as a relation in the standard's
-- words, which is the same (laws::values).
use Rattle.std.specs.Prelude.{◌≡◌, ◌≢◌, ◌+◌, ◌*◌, ◌-◌, ◌<◌, ◌≤◌, ◌==◌, ◌&&◌, ℕ, zero, suc, nat_eq, nat_le, List, [], ◌∷◌, ◌++◌, length, take, drop, slice_index, All, Bool, true, false, IsTrue, not, Option, Some, None, option_map, codes, if◌then◌else◌}
use Rattle.std.specs.Bool.{then_some}
use Rattle.std.specs.Char.{is_ascii_digit}
use Rattle.std.specs.List.{flat_map, list_all, list_any, before_first, after_first, starts_with}
use Rattle.std.specs.Option.{option_or}
use Rattle.ftp_settings.specs.Marker.{is_marker_octet}
use Rattle.ftp_settings.specs.declared.marker.TheConstants.{MARKER_LIMIT}
use Rattle.ftp_endpoint.specs.declared.endpoint.Endpoint.{Endpoint}
use Rattle.ftp_endpoint.specs.declared.host.Host.TheVariants.{V4}
use Rattle.ftp_endpoint.specs.Endpoint.{BeginsWithSix, BeginsWithPort}
use Rattle.ftp_endpoint.specs.Number.{SaysNumber, behind_digits, closing, comma, digit_limit, front_digits, opening}
use Rattle.ftp_path.specs.Path.{IsPathText, is_path_text}
use Rattle.ftp_facts.specs.Listed.{Listed, entry_value}
use Rattle.ftp_facts.specs.Value.{and_then, is_space, number_value, number_within}
use Rattle.ftp_reply.specs.Lines.{Text}
use Rattle.ftp_reply.specs.declared.quoted.Front.{Front}
use Rattle.ftp_reply.specs.declared.quoted.Front.TheVariants.{Octet, End, Nothing}

-- what stands behind a text that another has to begin with
abbrev pub behind_text : Text → Text → Option Text
behind_text front text = then_some (starts_with nat_eq text front) (drop (length front) text)

-- ---- the endpoint of a 227 (RFC 959, section 4.1.2)

-- the number of 0 to 255 that the digits in front of a text are, a whole run of one to three
abbrev pub octet_in_front : Text → Option ℕ
octet_in_front text = number_within 3 0 255 (front_digits text)

-- one such number, and so many more, each behind a comma
abbrev pub numbers_in_front : ℕ → Text → Option (List ℕ)
numbers_in_front zero text = option_map (λ number. number ∷ []) (octet_in_front text)
numbers_in_front (suc more) text =
    and_then (octet_in_front text) (λ number.
    and_then (behind_text (comma ∷ []) (behind_digits text)) (λ rest.
    option_map (λ numbers. number ∷ numbers) (numbers_in_front more rest)))

-- h1,h2,h3,h4,p1,p2: the host is h1.h2.h3.h4, the port 256 * p1 + p2
abbrev pub endpoint_of : List ℕ → Endpoint
endpoint_of numbers = record { host = V4 (take 4 numbers); port = 256 * slice_index numbers 4 + slice_index numbers 5 }

-- the endpoint of six numbers in front of a text
abbrev pub six_in_front : Text → Option Endpoint
six_in_front text = option_map endpoint_of (numbers_in_front 5 text)

-- the first six numbers in a text, behind a digit or not: no digit stands right before them
abbrev pub six_behind : Bool → Text → Option Endpoint
six_behind digit [] = None
six_behind digit (c ∷ text) = option_or (and_then (then_some (not digit) (c ∷ text)) six_in_front) (six_behind (is_ascii_digit c) text)

-- own choice: the endpoint of the first six numbers in the text, parentheses or not (RFC 1123, section 4.1.2.6)
unfoldable pub passive_value : Text → Option Endpoint
passive_value text = six_behind false text

-- the six numbers of an endpoint stand at this place, and no digit right before them (RFC 959, section 4.1.2)
pub record HasSixAt (text : Text) (place : ℕ) (endpoint : Endpoint) : Type 0 where
  pub within : place ≤ length text
  pub whole : 0 < place → IsTrue (not (is_ascii_digit (slice_index text (place - 1))))
  pub behind : Text
  pub numbers : BeginsWithSix (drop place text) endpoint behind

-- they stand at this first place
pub record NamesEndpoint (text : Text) (endpoint : Endpoint) : Type 0 where
  pub place : ℕ
  pub here : HasSixAt text place endpoint
  pub first : (earlier : ℕ) → earlier < place → (other : Endpoint) → ¬ HasSixAt text earlier other

-- ---- the port of a 229 (RFC 2428, section 3)

-- visible, and no digit (own choice)
abbrev pub is_delimiter : ℕ → Bool
is_delimiter d = is_marker_octet d && not (is_ascii_digit d)

-- a port from 1 on, the delimiter and `)`
abbrev pub port_closed : ℕ → Text → Option ℕ
port_closed d text =
    and_then (then_some (starts_with nat_eq (behind_digits text) (d ∷ closing ∷ [])) (front_digits text)) (number_within digit_limit 1 65535)

-- (<d><d><d>port<d>) in front
abbrev pub port_in_front : Text → Option ℕ
port_in_front (paren ∷ d ∷ e ∷ f ∷ rest) =
    and_then (then_some ((paren == opening) && is_delimiter d && (e == d) && (f == d)) rest) (port_closed d)
port_in_front other = None

-- own choice: the port at the first place that fits
unfoldable pub extended_value : Text → Option ℕ
extended_value [] = None
extended_value (c ∷ text) = option_or (port_in_front (c ∷ text)) (extended_value text)

-- (<d><d><d>port<d>) stands at this place (RFC 2428, section 3)
pub record HasPortAt (text : Text) (place port : ℕ) : Type 0 where
  pub within : place ≤ length text
  pub port_is : BeginsWithPort (drop place text) port

-- it stands at this first place
pub record NamesPort (text : Text) (port : ℕ) : Type 0 where
  pub place : ℕ
  pub here : HasPortAt text place port
  pub first : (earlier : ℕ) → earlier < place → (other : ℕ) → ¬ HasPortAt text earlier other

-- ---- the path of a 257 (RFC 959, section 4.1.3 and appendix II)

-- the octet around a path
abbrev pub double_quote : ℕ
double_quote = 34

-- it is a double quote
abbrev pub is_quote : ℕ → Bool
is_quote octet = octet == double_quote

-- how far a quoted text is read: within it, behind a double quote that ends it or is doubled, or behind its end
pub data Quoting : Type 0 where
  Within AtQuote Ended : Quoting

-- where an octet leads from there, a double quote or another
abbrev pub quoting : Quoting → Bool → Quoting
quoting Within true = AtQuote
quoting Within false = Within
quoting AtQuote true = Within
quoting AtQuote false = Ended
quoting Ended quote = Ended

-- what an octet adds to the path, a double quote or another: of a doubled one the second
abbrev pub quoted_octet : Quoting → Bool → ℕ → Text
quoted_octet Within false octet = octet ∷ []
quoted_octet AtQuote true octet = octet ∷ []
quoted_octet other quote octet = []

-- the path up to its end, where it has one
abbrev pub closed_from : Quoting → Text → Option Text
closed_from Within [] = None
closed_from AtQuote [] = Some []
closed_from Ended [] = Some []
closed_from state (c ∷ text) =
    option_map (λ path. quoted_octet state (is_quote c) c ++ path) (closed_from (quoting state (is_quote c)) text)

-- from the first double quote to the next that isn't doubled
unfoldable pub quoted_value : Text → Option Text
quoted_value text = and_then (then_some (list_any is_quote text) (after_first is_quote text)) (closed_from Within)

-- the quoted path, where it is a path text (own choice)
unfoldable pub path_value : Text → Option Text
path_value text = and_then (quoted_value text) (λ path. then_some (is_path_text path) path)

-- an octet as it stands between double quotes: a double quote twice (RFC 959, appendix II)
abbrev pub doubled_octet : ℕ → Text
doubled_octet octet = if is_quote octet then double_quote ∷ double_quote ∷ [] else octet ∷ []

-- a text as it stands between double quotes
abbrev pub doubled : Text → Text
doubled text = flat_map doubled_octet text

-- the text ends at a double quote that isn't doubled
pub record Closes (text path behind : Text) : Type 0 where
  pub text_is : text ≡ doubled path ++ double_quote ∷ behind
  pub single : (more : Text) → behind ≢ double_quote ∷ more

-- what stands in front of a quoted text: an octet of the path, its end, or nothing
abbrev pub IsQuotedFront : Text → Front → Type 0
IsQuotedFront text (Octet octet behind) = text ≡ doubled_octet octet ++ behind.now
IsQuotedFront text End = (behind : Text) × Closes text [] behind
IsQuotedFront text Nothing = text ≡ []

-- the text quotes the path: from the first double quote to the next that isn't doubled
pub record Quotes (text path : Text) : Type 0 where
  pub before : Text
  pub inside : Text
  pub behind : Text
  pub text_is : text ≡ before ++ double_quote ∷ inside
  pub first : All (λ octet. octet ≢ double_quote) before
  pub closes : Closes inside path behind

-- the text names the path: it quotes it, and it is a path text
pub record NamesPath (text path : Text) : Type 0 where
  pub quoted : Quotes text path
  pub is_path : IsPathText path

-- ---- the mark of a 110 (RFC 959, section 4.2)

-- a restart marker: 1 to 255 visible octets
abbrev pub is_marker : Text → Bool
is_marker text = nat_le 1 (length text) && nat_le (length text) MARKER_LIMIT && list_all is_marker_octet text

-- yyyy = mmmm
abbrev pub mark_behind : Text → Option ℕ
mark_behind text =
    and_then (then_some (is_marker (before_first is_space text)) (after_first is_space text))
    (λ rest. and_then (behind_text (codes "= ") rest) number_value)

-- MARK yyyy = mmmm
unfoldable pub mark_value : Text → Option ℕ
mark_value text = and_then (behind_text (codes "MARK ") text) mark_behind

-- the text is such a mark, with this mmmm
pub record SaysMark (text : Text) (mark : ℕ) : Type 0 where
  pub theirs : Text
  pub digits : Text
  pub marker : IsTrue (is_marker theirs)
  pub number : SaysNumber digits mark
  pub text_is : text ≡ codes "MARK " ++ (theirs ++ (codes " = " ++ digits))

-- ---- the entry in a reply to MLST (RFC 3659, section 7.2)

-- it stands in the line behind the first, behind one SP; own choice: of several entries the first, and never in the last line
abbrev pub facts_in : List Text → Option Listed
facts_in (first ∷ (sp ∷ line) ∷ next ∷ more) = and_then (then_some (is_space sp) line) entry_value
facts_in other = None
