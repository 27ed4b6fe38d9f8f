-- Why a text says no accounts, and which of its lines is to blame (own choice).
use Rattle.std.specs.Prelude.{◌≡◌, ℕ, ◌⊎◌, false, List, [], ◌∷◌, ◌++◌, length, IsTrue, nat_eq, nat_le, nat_lt, Some, None}
use Rattle.std.specs.List.{starts_with}
use Rattle.ftp_operation.specs.Account.{Account, accounts_refusal}
use Rattle.ftp_operation.specs.declared.account.AccountsFault.{AccountsFault}
use Rattle.tool_accounts.specs.accounts_file.Line.{IsFaulty, is_silent, of_accounts}
use Rattle.tool_accounts.specs.accounts_file.Lines.{Line, SayEach, speakers}
use Rattle.tool_accounts.specs.declared.accounts_file.fault.AccountFault.{AccountFault}
use Rattle.tool_accounts.specs.declared.accounts_file.fault.TextFault.{TextFault}
use Rattle.tool_accounts.specs.declared.accounts_file.fault.TextFault.TheVariants as Texts

-- a byte order mark, as UTF-8 has it
abbrev pub byte_order_mark : List ℕ
byte_order_mark = 239 ∷ 187 ∷ 191 ∷ []

-- the most accounts
abbrev pub account_limit : ℕ
account_limit = 1000

-- the line of this number says no account, and each above it that is not silent says one
pub record IsNone (text : List ℕ) (number : ℕ) (fault : AccountFault) : Type 0 where
  pub above : List Line
  pub line : List ℕ
  pub below : List Line
  pub accounts : List Account
  pub whole : speakers text ≡ above ++ (number, line) ∷ below
  pub say : SayEach above accounts
  pub faulty : IsFaulty line fault

-- these accounts are a server's, and with this one behind them they are not, and why
pub record BarsAccount (above : List Account) (account : Account) (fault : AccountFault) : Type 0 where
  pub why : AccountsFault
  pub allowed : accounts_refusal above ≡ None
  pub barred : accounts_refusal (above ++ account ∷ []) ≡ Some why
  pub told : fault ≡ of_accounts why

-- each line that is not silent says an account, and that of the line of this number is one that those above it do not allow
pub record IsBarred (text : List ℕ) (number : ℕ) (fault : AccountFault) : Type 0 where
  pub above : List Line
  pub line : List ℕ
  pub below : List Line
  pub before : List Account
  pub account : Account
  pub behind : List Account
  pub whole : speakers text ≡ above ++ (number, line) ∷ below
  pub say : SayEach (speakers text) (before ++ account ∷ behind)
  pub place : length before ≡ length above
  pub bars : BarsAccount before account fault

-- a text says no accounts, and why; memory may be refused whatever it says
abbrev pub IsBlamed : List ℕ → TextFault → Type 0
IsBlamed text (Texts.Line number fault) = IsNone text number fault ⊎ IsBarred text number fault
IsBlamed text Texts.Mark = IsTrue (starts_with nat_eq text byte_order_mark)
IsBlamed text Texts.TooMany = IsTrue (nat_lt account_limit (length (speakers text)))
IsBlamed text Texts.Memory = Unit {0}

-- ---- parts of that

-- a line of this number is to blame, behind so many accounts
abbrev pub IsOff : ℕ → List ℕ → List Account → TextFault → Type 0
IsOff number line accounts (Texts.Line place fault) = (place ≡ number) × (is_silent line ≡ false) × IsFaulty line fault
IsOff number line accounts Texts.Mark = ⊥
IsOff number line accounts Texts.TooMany = (is_silent line ≡ false) × IsTrue (nat_le account_limit (length accounts))
IsOff number line accounts Texts.Memory = Unit {0}

-- of accounts, each with the number of its line, that of this number is one that those before it do not allow
pub record HoldsUp (accounts : List Account) (numbers : List ℕ) (number : ℕ) (fault : AccountFault) : Type 0 where
  pub before : List Account
  pub account : Account
  pub behind : List Account
  pub early : List ℕ
  pub late : List ℕ
  pub accounts_are : accounts ≡ before ++ account ∷ behind
  pub numbers_are : numbers ≡ early ++ number ∷ late
  pub place : length before ≡ length early
  pub bars : BarsAccount before account fault

abbrev pub IsHeld : List Account → List ℕ → TextFault → Type 0
IsHeld accounts numbers (Texts.Line number fault) = HoldsUp accounts numbers number fault
IsHeld accounts numbers Texts.Mark = ⊥
IsHeld accounts numbers Texts.TooMany = ⊥
IsHeld accounts numbers Texts.Memory = Unit {0}
