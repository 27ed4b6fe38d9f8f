-- What the arguments of commands are, and what they say (RFC 959, sections 4.1 and 5.3.2; RFC 2428; RFC 3659).
use Rattle.std.specs.Prelude.{◌≡◌, ◌≢◌, ◌⊎◌, ◌≤◌, ℕ, zero, suc, Bool, false, not, ◌==◌, ◌&&◌, if◌then◌else◌, List, [], ◌∷◌, length, drop, IsTrue, Option, Some, None, codes}
use Rattle.std.specs.Char.{is_ascii_alphabetic, to_ascii_lowercase}
use Rattle.std.specs.List.{list_all, prefix_len, before_first, after_first}
use Rattle.ftp_path.specs.Login.{is_login_octet, login_limit}
use Rattle.ftp_settings.specs.declared.representation.Kind.{Kind}
use Rattle.ftp_settings.specs.declared.representation.Kind.TheVariants.{Ascii, Image}
use Rattle.ftp_settings.specs.declared.representation.Mode.{Mode}
use Rattle.ftp_settings.specs.declared.representation.Mode.TheVariants.{Stream, Block}
use Rattle.ftp_command.specs.declared.command.Passive.{Passive}
use Rattle.ftp_command.specs.declared.command.Passive.TheVariants.{Any, Ipv4, Ipv6, Only}
use Rattle.ftp_settings.specs.declared.representation.Structure.{Structure}
use Rattle.ftp_settings.specs.declared.representation.Structure.TheVariants.{File, Record}
use Rattle.ftp_endpoint.specs.Number.{SaysNumber, front_digits, behind_digits}
use Rattle.ftp_path.specs.Path.{IsPathText}
use Rattle.ftp_command.specs.Verb.{SameLetters}

abbrev pub is_space : ℕ → Bool
is_space c = c == 32

-- the word that a line begins with: what stands before its first SP, or all of it
abbrev pub word : List ℕ → List ℕ
word line = before_first is_space line

-- the argument: all octets behind the first SP, and none where there is no SP
abbrev pub argument : List ℕ → List ℕ
argument line = after_first is_space line

-- nothing but spaces, or nothing at all
abbrev pub IsBlank : List ℕ → Type 0
IsBlank text = IsTrue (list_all is_space text)

-- a text without the spaces at its end (own choice)
abbrev pub trimmed : List ℕ → List ℕ
trimmed [] = []
trimmed (c ∷ cs) = if list_all is_space (c ∷ cs) then [] else c ∷ trimmed cs

-- a password: 0 to 255 octets
abbrev pub IsPassword : List ℕ → Type 0
IsPassword text = (length text ≤ login_limit) × IsTrue (list_all is_login_octet text)

-- a user name: 1 to 255 octets
abbrev pub IsName : List ℕ → Type 0
IsName text = (1 ≤ length text) × IsPassword text

-- a path, or no argument
abbrev pub SaysPathOrNone : List ℕ → Option (List ℕ) → Type 0
SaysPathOrNone text None = text ≡ []
SaysPathOrNone text (Some path) = (text ≡ path) × IsPathText path

-- words, or no argument
abbrev pub SaysTextOrNone : List ℕ → Option (List ℕ) → Type 0
SaysTextOrNone text None = text ≡ []
SaysTextOrNone text (Some words) = (text ≡ words) × (1 ≤ length words)

-- a text behind its first word and the spaces after that
abbrev pub behind_word : List ℕ → List ℕ
behind_word text =
    let rest = drop (prefix_len (λ c. not (is_space c)) text) text in drop (prefix_len is_space rest) rest

abbrev pub begins_with : ℕ → List ℕ → Bool
begins_with c [] = false
begins_with c (x ∷ xs) = x == c

abbrev pub hyphen : ℕ
hyphen = 45

-- a text without its leading words that begin with '-', each with the spaces after it, n of them at most
abbrev pub without : ℕ → List ℕ → List ℕ
without zero text = text
without (suc n) text = if begins_with hyphen text then without n (behind_word text) else text

-- the argument of LIST and NLST without its options: all leading words that begin with '-' (own choice)
abbrev pub without_options : List ℕ → List ℕ
without_options text = without (length text) text

-- EPSV: nothing, a family's number, or ALL (RFC 2428, section 3)
abbrev pub SaysPassive : List ℕ → Passive → Type 0
SaysPassive text Any = text ≡ []
SaysPassive text Ipv4 = SaysNumber text 1
SaysPassive text Ipv6 = SaysNumber text 2
SaysPassive text Only = SameLetters text (codes "ALL")

-- the number of a family that is neither
abbrev pub IsOtherFamily : List ℕ → Type 0
IsOtherFamily text = (n : ℕ) × SaysNumber text n × (n ≢ 1) × (n ≢ 2)

-- L, SP and a number of bits: a local octet size (RFC 959, section 3.1.1.4)
pub record SaysLocal (text : List ℕ) (bits : ℕ) : Type 0 where
  pub letter : ℕ
  pub digits : List ℕ
  pub is_letter : to_ascii_lowercase letter ≡ 108
  pub text_is : text ≡ letter ∷ 32 ∷ digits
  pub number : SaysNumber digits bits

-- TYPE: A, A N and A T are ASCII; I and L 8 are octets as they are (RFC 1123, section 4.1.2.1)
abbrev pub SaysKind : List ℕ → Kind → Type 0
SaysKind text Ascii = SameLetters text (codes "A") ⊎ (SameLetters text (codes "A N") ⊎ SameLetters text (codes "A T"))
SaysKind text Image = SameLetters text (codes "I") ⊎ SaysLocal text 8

-- E, SP and a letter
pub record SaysEbcdic (text : List ℕ) : Type 0 where
  pub letter : ℕ
  pub format : ℕ
  pub is_letter : to_ascii_lowercase letter ≡ 101
  pub is_format : IsTrue (is_ascii_alphabetic format)
  pub text_is : text ≡ letter ∷ 32 ∷ format ∷ []

-- A C, E, or E, SP and a letter
abbrev pub IsOtherName : List ℕ → Type 0
IsOtherName text = SameLetters text (codes "A C") ⊎ (SameLetters text (codes "E") ⊎ SaysEbcdic text)

-- a type that the standard has and that is not done: such a name, or L with another number than 8
abbrev pub IsOtherKind : List ℕ → Type 0
IsOtherKind text = IsOtherName text ⊎ ((bits : ℕ) × SaysLocal text bits × (bits ≢ 8))

-- STRU: F or R
abbrev pub SaysStructure : List ℕ → Structure → Type 0
SaysStructure text File = SameLetters text (codes "F")
SaysStructure text Record = SameLetters text (codes "R")

-- a structure that the standard has and that is not done
abbrev pub IsOtherStructure : List ℕ → Type 0
IsOtherStructure text = SameLetters text (codes "P")

-- MODE: S or B
abbrev pub SaysMode : List ℕ → Mode → Type 0
SaysMode text Stream = SameLetters text (codes "S")
SaysMode text Block = SameLetters text (codes "B")

-- a mode that the standard has and that is not done
abbrev pub IsOtherMode : List ℕ → Type 0
IsOtherMode text = SameLetters text (codes "C")

-- ALLO: the octets, and perhaps SP, R, SP and the longest record
pub record SaysLongest (text : List ℕ) (longest : ℕ) : Type 0 where
  pub letter : ℕ
  pub digits : List ℕ
  pub is_letter : to_ascii_lowercase letter ≡ 114
  pub text_is : text ≡ 32 ∷ letter ∷ 32 ∷ digits
  pub number : SaysNumber digits longest

abbrev pub SaysSizes : List ℕ → ℕ → Option ℕ → Type 0
SaysSizes text octets None = SaysNumber (front_digits text) octets × (behind_digits text ≡ [])
SaysSizes text octets (Some longest) = SaysNumber (front_digits text) octets × SaysLongest (behind_digits text) longest
