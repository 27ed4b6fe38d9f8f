-- Texts of lines, and how they lie in one buffer.
use Rattle.std.specs.Prelude.{◌≡◌, ℕ, ◌+◌, ◌==◌, ◌&&◌, nat_le, IsTrue, Bool, false, List, [], ◌∷◌, length, take, drop, map, All}
use Rattle.std.specs.List.{join_with_byte, slice_split, sum_by}
use Rattle.ftp_reply.specs.declared.lines.TheConstants.{LF, MAX_LINES, MAX_OCTETS}

-- a line of the control connection without its end, or a part of one
abbrev pub Text : Type 0
Text = List ℕ

-- how many octets the lines have together, their ends not counted
abbrev pub octets_of : List Text → ℕ
octets_of lines = sum_by length lines

-- own choice: the text of several lines is the lines joined by LF
abbrev pub joined : List Text → Text
joined lines = join_with_byte LF lines

-- the octet between two lines
abbrev pub is_lf : ℕ → Bool
is_lf octet = octet == LF

-- a text of one line: it has no LF
abbrev pub IsSingleLine : Text → Type 0
IsSingleLine text = All (λ octet. is_lf octet ≡ false) text

-- the lines that octets are, cut at each LF
abbrev pub cut_at_lf : Text → List Text
cut_at_lf octets = slice_split is_lf octets

-- the lines of these lengths that stand in a buffer, an octet between two
abbrev pub lines_at : Text → List ℕ → List Text
lines_at buffer [] = []
lines_at buffer (len ∷ lens) = take len buffer ∷ lines_at (drop (len + 1) buffer) lens

-- the buffer is just those lines, an LF between two
pub record AreCutAtFeeds (buffer : Text) (lens : List ℕ) : Type 0 where
  pub buffer_is : buffer ≡ joined (lines_at buffer lens)
  pub lens_are : lens ≡ map length (lines_at buffer lens)

-- own limits: at most 64 lines of at most 8,192 octets together
abbrev pub are_within : List Text → Bool
are_within lines = nat_le (length lines) MAX_LINES && nat_le (octets_of lines) MAX_OCTETS

-- they are
abbrev pub AreWithin : List Text → Type 0
AreWithin lines = IsTrue (are_within lines)
