-- The verbs, a row each: words, argument and command, and place in a session; and the commands, a row each: verb and value (RFC 959, sections 4.1 and 5.3; RFC 2389, RFC 2428, RFC 3659).
use Rattle.std.specs.Prelude.{◌≡◌, ◌⊎◌, ℕ, Bool, true, false, List, codes, map}
use Rattle.std.specs.Char.{to_ascii_lowercase}
use Rattle.ftp_command.specs.Shapes.{Shape}
use Rattle.ftp_command.specs.Shapes as shape
use Rattle.ftp_command.specs.declared.command.Command.{Command}
use Rattle.ftp_command.specs.declared.command.Command.TheVariants as command
use Rattle.ftp_command.specs.declared.value.Value.{Value}
use Rattle.ftp_command.specs.declared.value.Value.TheVariants as value
use Rattle.ftp_command.specs.declared.verb.Role.{Role}
use Rattle.ftp_command.specs.declared.verb.Role.TheVariants.{Free, Transfer, Change, Other}
use Rattle.ftp_command.specs.declared.verb.Verb.{Verb}
use Rattle.ftp_command.specs.declared.verb.Verb.TheVariants as verb

-- what is fixed of a verb: its letters, its older letters, the shape of its argument with the command of each value, its role
pub record Row : Type 0 where
  pub letters : List ℕ
  pub older : List ℕ
  pub shape : Shape
  pub role : Role

-- a verb with one word
abbrev pub says : List ℕ → Shape → Role → Row
says letters shape role = record { letters = letters; older = letters; shape = shape; role = role }

-- a verb with an older word too (RFC 1123, section 4.1.3.1)
abbrev pub says_too : List ℕ → List ℕ → Shape → Role → Row
says_too letters older shape role = record { letters = letters; older = older; shape = shape; role = role }

-- the table of verbs
abbrev pub row : Verb → Row
row verb.User = says (codes "USER") (shape.Name command.User) Free
row verb.Pass = says (codes "PASS") (shape.Password command.Pass) Free
row verb.Acct = says (codes "ACCT") (shape.Words command.Acct) Other
row verb.Cwd = says_too (codes "CWD") (codes "XCWD") (shape.Path command.Cwd) Change
row verb.Cdup = says_too (codes "CDUP") (codes "XCUP") (shape.Nothing command.Cdup) Other
row verb.Smnt = says (codes "SMNT") shape.Undone Other
row verb.Rein = says (codes "REIN") (shape.Nothing command.Rein) Free
row verb.Quit = says (codes "QUIT") (shape.Nothing command.Quit) Free
row verb.Port = says (codes "PORT") (shape.Six command.Port) Other
row verb.Pasv = says (codes "PASV") (shape.Nothing command.Pasv) Other
row verb.Eprt = says (codes "EPRT") (shape.Extended command.Eprt) Other
row verb.Epsv = says (codes "EPSV") (shape.Family command.Epsv) Other
row verb.Repr = says (codes "TYPE") (shape.Kind command.Repr) Other
row verb.Stru = says (codes "STRU") (shape.Structure command.Stru) Other
row verb.Mode = says (codes "MODE") (shape.Mode command.Mode) Other
row verb.Retr = says (codes "RETR") (shape.Path command.Retr) Transfer
row verb.Stor = says (codes "STOR") (shape.Path command.Stor) Transfer
row verb.Stou = says (codes "STOU") shape.Undone Transfer
row verb.Appe = says (codes "APPE") (shape.Path command.Appe) Transfer
row verb.Allo = says (codes "ALLO") (shape.Sizes command.Allo) Other
row verb.Rest = says (codes "REST") (shape.Number command.Rest) Other
row verb.Rnfr = says (codes "RNFR") (shape.Path command.Rnfr) Change
row verb.Rnto = says (codes "RNTO") (shape.Path command.Rnto) Change
row verb.Abor = says (codes "ABOR") (shape.Nothing command.Abor) Free
row verb.Dele = says (codes "DELE") (shape.Path command.Dele) Change
row verb.Rmd = says_too (codes "RMD") (codes "XRMD") (shape.Path command.Rmd) Change
row verb.Mkd = says_too (codes "MKD") (codes "XMKD") (shape.Path command.Mkd) Change
row verb.Pwd = says_too (codes "PWD") (codes "XPWD") (shape.Nothing command.Pwd) Other
row verb.List = says (codes "LIST") (shape.Listed command.List) Transfer
row verb.Nlst = says (codes "NLST") (shape.Listed command.Nlst) Transfer
row verb.Mlst = says (codes "MLST") (shape.PathOrNone command.Mlst) Other
row verb.Mlsd = says (codes "MLSD") (shape.PathOrNone command.Mlsd) Transfer
row verb.Size = says (codes "SIZE") (shape.Path command.Size) Other
row verb.Mdtm = says (codes "MDTM") (shape.Path command.Mdtm) Other
row verb.Site = says (codes "SITE") shape.Undone Other
row verb.Syst = says (codes "SYST") (shape.Nothing command.Syst) Free
row verb.Stat = says (codes "STAT") (shape.Alone command.Stat) Other
row verb.Help = says (codes "HELP") (shape.WordsOrNone command.Help) Free
row verb.Noop = says (codes "NOOP") (shape.Nothing command.Noop) Free
row verb.Feat = says (codes "FEAT") (shape.Nothing command.Feat) Free
row verb.Opts = says (codes "OPTS") (shape.Words command.Opts) Free

-- a command's verb, and its argument as a value
abbrev pub parts : Command (List ℕ) → Verb × Value (List ℕ)
parts (command.User text) = (verb.User, value.Name text)
parts (command.Pass text) = (verb.Pass, value.Password text)
parts (command.Acct text) = (verb.Acct, value.Words text)
parts (command.Cwd text) = (verb.Cwd, value.Path text)
parts command.Cdup = (verb.Cdup, value.Nothing)
parts command.Rein = (verb.Rein, value.Nothing)
parts command.Quit = (verb.Quit, value.Nothing)
parts (command.Port endpoint) = (verb.Port, value.Six endpoint)
parts command.Pasv = (verb.Pasv, value.Nothing)
parts (command.Eprt endpoint) = (verb.Eprt, value.Extended endpoint)
parts (command.Epsv family) = (verb.Epsv, value.Family family)
parts (command.Repr kind) = (verb.Repr, value.Kind kind)
parts (command.Stru structure) = (verb.Stru, value.Structure structure)
parts (command.Mode mode) = (verb.Mode, value.Mode mode)
parts (command.Retr text) = (verb.Retr, value.Path text)
parts (command.Stor text) = (verb.Stor, value.Path text)
parts (command.Appe text) = (verb.Appe, value.Path text)
parts (command.Allo octets longest) = (verb.Allo, value.Sizes octets longest)
parts (command.Rest place) = (verb.Rest, value.Number place)
parts (command.Rnfr text) = (verb.Rnfr, value.Path text)
parts (command.Rnto text) = (verb.Rnto, value.Path text)
parts command.Abor = (verb.Abor, value.Nothing)
parts (command.Dele text) = (verb.Dele, value.Path text)
parts (command.Rmd text) = (verb.Rmd, value.Path text)
parts (command.Mkd text) = (verb.Mkd, value.Path text)
parts command.Pwd = (verb.Pwd, value.Nothing)
parts (command.List text) = (verb.List, value.Listed text)
parts (command.Nlst text) = (verb.Nlst, value.Listed text)
parts (command.Mlst text) = (verb.Mlst, value.PathOrNone text)
parts (command.Mlsd text) = (verb.Mlsd, value.PathOrNone text)
parts (command.Size text) = (verb.Size, value.Path text)
parts (command.Mdtm text) = (verb.Mdtm, value.Path text)
parts command.Syst = (verb.Syst, value.Nothing)
parts command.Stat = (verb.Stat, value.Nothing)
parts (command.Help text) = (verb.Help, value.WordsOrNone text)
parts command.Noop = (verb.Noop, value.Nothing)
parts command.Feat = (verb.Feat, value.Nothing)
parts (command.Opts text) = (verb.Opts, value.Words text)

-- the letters of a verb
abbrev pub letters : Verb → List ℕ
letters verb = (row verb).letters

-- its older letters, which are the same where it has no others
abbrev pub old_letters : Verb → List ℕ
old_letters verb = (row verb).older

-- a verb that is done before a login too
abbrev pub is_free_role : Role → Bool
is_free_role Free = true
is_free_role role = false

-- a verb that needs a data connection
abbrev pub is_transfer_role : Role → Bool
is_transfer_role Transfer = true
is_transfer_role role = false

-- two texts, but for the case of their letters
abbrev pub SameLetters : List ℕ → List ℕ → Type 0
SameLetters a b = map to_ascii_lowercase a ≡ map to_ascii_lowercase b

-- a word names a verb
abbrev pub Names : List ℕ → Verb → Type 0
Names word verb = SameLetters word (letters verb) ⊎ SameLetters word (old_letters verb)
