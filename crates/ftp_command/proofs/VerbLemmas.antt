-- Each verb is one of the list, and a word names one verb at most; and the table both ways: a command is what its verb's shape makes of its value,
-- and what a shape makes is a command of its verb.
use Rattle.std.proofs.Common.{◌≡◌, ℕ, ◌<◌, Bool, true, false, List, get_or, refl, sym, ap, subst, ◌||◌, ◌∙◌, lit<, Option, Some, inl, inr, map, ◌==◌, ◌&&◌, not, length}
use Rattle.std.specs.Char.{to_ascii_lowercase}
use Rattle.std.specs.List.{find, list_all}
use Rattle.std.specs.Str.{bytes_eq}
use Rattle.std.proofs.lemmas.Bool.{false≢true, and_parts, eqb-true}
use Rattle.std.proofs.lemmas.List.Folds.{list_all_at}
use Rattle.ftp_command.specs.Verb.{Names, letters, old_letters, row}
use Rattle.ftp_command.specs.declared.verb.TheConstants.{VERBS}
use Rattle.ftp_command.specs.declared.verb.Verb.{Verb}
use Rattle.ftp_command.specs.declared.verb.Verb.TheVariants as verb
use Rattle.ftp_command.specs.Command.{Argues, SaysValue, parts, value_of, verb_of}
use Rattle.ftp_command.specs.Shapes.{Shape}
use Rattle.ftp_command.specs.Shapes as shape
use Rattle.ftp_command.specs.declared.command.Command.{Command}
use Rattle.ftp_command.specs.declared.command.Command.TheVariants as command
use Rattle.ftp_command.specs.declared.command.Passive.{Passive}
use Rattle.ftp_command.specs.declared.value.Value.{Value}
use Rattle.ftp_command.specs.declared.value.Value.TheVariants as value
use Rattle.ftp_endpoint.specs.declared.endpoint.Endpoint.{Endpoint}
use Rattle.ftp_settings.specs.declared.representation.Kind.{Kind}
use Rattle.ftp_settings.specs.declared.representation.Mode.{Mode}
use Rattle.ftp_settings.specs.declared.representation.Structure.{Structure}

-- all verbs
abbrev pub verbs : List Verb
verbs = VERBS

abbrev small : List ℕ → List ℕ
small = map to_ascii_lowercase

-- the first verb with this word in small letters
abbrev named : List ℕ → Option Verb
named word = find (λ v. bytes_eq (small (letters v)) word || bytes_eq (small (old_letters v)) word) VERBS

-- a verb stands in the list, and is the first there that its words name
record Stands (v : Verb) : Type 0 where
  place : ℕ
  at : get_or VERBS place verb.User ≡ v
  within : place < 41
  new : named (small (letters v)) ≡ Some v
  old : named (small (old_letters v)) ≡ Some v

abbrev by_place : (v : Verb) (k : ℕ) → get_or VERBS k verb.User ≡ v → k < 41 → named (small (letters v)) ≡ Some v → named (small (old_letters v)) ≡ Some v → Stands v
by_place v k at within new old = record { place = k; at = at; within = within; new = new; old = old }

stands : (v : Verb) → Stands v
stands verb.User = by_place verb.User 0 refl (lit< tt) refl refl
stands verb.Pass = by_place verb.Pass 1 refl (lit< tt) refl refl
stands verb.Acct = by_place verb.Acct 2 refl (lit< tt) refl refl
stands verb.Cwd = by_place verb.Cwd 3 refl (lit< tt) refl refl
stands verb.Cdup = by_place verb.Cdup 4 refl (lit< tt) refl refl
stands verb.Smnt = by_place verb.Smnt 5 refl (lit< tt) refl refl
stands verb.Rein = by_place verb.Rein 6 refl (lit< tt) refl refl
stands verb.Quit = by_place verb.Quit 7 refl (lit< tt) refl refl
stands verb.Port = by_place verb.Port 8 refl (lit< tt) refl refl
stands verb.Pasv = by_place verb.Pasv 9 refl (lit< tt) refl refl
stands verb.Eprt = by_place verb.Eprt 10 refl (lit< tt) refl refl
stands verb.Epsv = by_place verb.Epsv 11 refl (lit< tt) refl refl
stands verb.Repr = by_place verb.Repr 12 refl (lit< tt) refl refl
stands verb.Stru = by_place verb.Stru 13 refl (lit< tt) refl refl
stands verb.Mode = by_place verb.Mode 14 refl (lit< tt) refl refl
stands verb.Retr = by_place verb.Retr 15 refl (lit< tt) refl refl
stands verb.Stor = by_place verb.Stor 16 refl (lit< tt) refl refl
stands verb.Stou = by_place verb.Stou 17 refl (lit< tt) refl refl
stands verb.Appe = by_place verb.Appe 18 refl (lit< tt) refl refl
stands verb.Allo = by_place verb.Allo 19 refl (lit< tt) refl refl
stands verb.Rest = by_place verb.Rest 20 refl (lit< tt) refl refl
stands verb.Rnfr = by_place verb.Rnfr 21 refl (lit< tt) refl refl
stands verb.Rnto = by_place verb.Rnto 22 refl (lit< tt) refl refl
stands verb.Abor = by_place verb.Abor 23 refl (lit< tt) refl refl
stands verb.Dele = by_place verb.Dele 24 refl (lit< tt) refl refl
stands verb.Rmd = by_place verb.Rmd 25 refl (lit< tt) refl refl
stands verb.Mkd = by_place verb.Mkd 26 refl (lit< tt) refl refl
stands verb.Pwd = by_place verb.Pwd 27 refl (lit< tt) refl refl
stands verb.List = by_place verb.List 28 refl (lit< tt) refl refl
stands verb.Nlst = by_place verb.Nlst 29 refl (lit< tt) refl refl
stands verb.Mlst = by_place verb.Mlst 30 refl (lit< tt) refl refl
stands verb.Mlsd = by_place verb.Mlsd 31 refl (lit< tt) refl refl
stands verb.Size = by_place verb.Size 32 refl (lit< tt) refl refl
stands verb.Mdtm = by_place verb.Mdtm 33 refl (lit< tt) refl refl
stands verb.Site = by_place verb.Site 34 refl (lit< tt) refl refl
stands verb.Syst = by_place verb.Syst 35 refl (lit< tt) refl refl
stands verb.Stat = by_place verb.Stat 36 refl (lit< tt) refl refl
stands verb.Help = by_place verb.Help 37 refl (lit< tt) refl refl
stands verb.Noop = by_place verb.Noop 38 refl (lit< tt) refl refl
stands verb.Feat = by_place verb.Feat 39 refl (lit< tt) refl refl
stands verb.Opts = by_place verb.Opts 40 refl (lit< tt) refl refl

pub every : (P : Verb → Type 0) → ((k : ℕ) → k < 41 → P (get_or VERBS k verb.User)) → (v : Verb) → P v
every P all v = subst P (stands v).at (all (stands v).place (stands v).within)

-- what each of the list passes, each verb passes
pub every_passes : (p : Verb → Bool) → list_all p VERBS ≡ true → (v : Verb) → p v ≡ true
every_passes p all = every (λ v. p v ≡ true) (λ k within. passes k within (p (get_or VERBS k verb.User)) refl)
  where
    passes : (k : ℕ) → k < 41 → (b : Bool) → p (get_or VERBS k verb.User) ≡ b → p (get_or VERBS k verb.User) ≡ true
    passes k within true is = is
    passes k within false is = absurd (false≢true (sym (list_all_at p VERBS k verb.User within is) ∙ all))

named_is : (word : List ℕ) (v : Verb) → Names word v → named (small word) ≡ Some v
named_is word v (inl h) = ap named h ∙ (stands v).new
named_is word v (inr h) = ap named h ∙ (stands v).old

-- a word names one verb at most
pub one_verb : (word : List ℕ) (v w : Verb) → Names word v → Names word w → v ≡ w
one_verb word v w h k =
    let first = named_is word v h in
    let second = named_is word w k in
    cc

-- ---- commands

-- a command is what a shape makes of a value, which is its own
abbrev pub IsMade : Command (List ℕ) → Shape → Type 0
IsMade c (shape.Name make) = (x : List ℕ) × (c ≡ make x) × (value_of c ≡ value.Name x)
IsMade c (shape.Password make) = (x : List ℕ) × (c ≡ make x) × (value_of c ≡ value.Password x)
IsMade c (shape.Words make) = (x : List ℕ) × (c ≡ make x) × (value_of c ≡ value.Words x)
IsMade c (shape.WordsOrNone make) = (x : Option (List ℕ)) × (c ≡ make x) × (value_of c ≡ value.WordsOrNone x)
IsMade c (shape.Path make) = (x : List ℕ) × (c ≡ make x) × (value_of c ≡ value.Path x)
IsMade c (shape.PathOrNone make) = (x : Option (List ℕ)) × (c ≡ make x) × (value_of c ≡ value.PathOrNone x)
IsMade c (shape.Listed make) = (x : Option (List ℕ)) × (c ≡ make x) × (value_of c ≡ value.Listed x)
IsMade c (shape.Six make) = (x : Endpoint) × (c ≡ make x) × (value_of c ≡ value.Six x)
IsMade c (shape.Extended make) = (x : Endpoint) × (c ≡ make x) × (value_of c ≡ value.Extended x)
IsMade c (shape.Family make) = (x : Passive) × (c ≡ make x) × (value_of c ≡ value.Family x)
IsMade c (shape.Kind make) = (x : Kind) × (c ≡ make x) × (value_of c ≡ value.Kind x)
IsMade c (shape.Structure make) = (x : Structure) × (c ≡ make x) × (value_of c ≡ value.Structure x)
IsMade c (shape.Mode make) = (x : Mode) × (c ≡ make x) × (value_of c ≡ value.Mode x)
IsMade c (shape.Number make) = (x : ℕ) × (c ≡ make x) × (value_of c ≡ value.Number x)
IsMade c (shape.Nothing made) = (c ≡ made) × (value_of c ≡ value.Nothing)
IsMade c (shape.Alone made) = (c ≡ made) × (value_of c ≡ value.Nothing)
IsMade c (shape.Sizes make) = (x : ℕ) × (y : Option ℕ) × (c ≡ make x y) × (value_of c ≡ value.Sizes x y)
IsMade c shape.Undone = ⊥

pub is_made : (c : Command (List ℕ)) → IsMade c (row (verb_of c)).shape
is_made (command.User x) = (x, refl, refl)
is_made (command.Pass x) = (x, refl, refl)
is_made (command.Acct x) = (x, refl, refl)
is_made (command.Cwd x) = (x, refl, refl)
is_made command.Cdup = (refl, refl)
is_made command.Rein = (refl, refl)
is_made command.Quit = (refl, refl)
is_made (command.Port x) = (x, refl, refl)
is_made command.Pasv = (refl, refl)
is_made (command.Eprt x) = (x, refl, refl)
is_made (command.Epsv x) = (x, refl, refl)
is_made (command.Repr x) = (x, refl, refl)
is_made (command.Stru x) = (x, refl, refl)
is_made (command.Mode x) = (x, refl, refl)
is_made (command.Retr x) = (x, refl, refl)
is_made (command.Stor x) = (x, refl, refl)
is_made (command.Appe x) = (x, refl, refl)
is_made (command.Allo x y) = (x, y, refl, refl)
is_made (command.Rest x) = (x, refl, refl)
is_made (command.Rnfr x) = (x, refl, refl)
is_made (command.Rnto x) = (x, refl, refl)
is_made command.Abor = (refl, refl)
is_made (command.Dele x) = (x, refl, refl)
is_made (command.Rmd x) = (x, refl, refl)
is_made (command.Mkd x) = (x, refl, refl)
is_made command.Pwd = (refl, refl)
is_made (command.List x) = (x, refl, refl)
is_made (command.Nlst x) = (x, refl, refl)
is_made (command.Mlst x) = (x, refl, refl)
is_made (command.Mlsd x) = (x, refl, refl)
is_made (command.Size x) = (x, refl, refl)
is_made (command.Mdtm x) = (x, refl, refl)
is_made command.Syst = (refl, refl)
is_made command.Stat = (refl, refl)
is_made (command.Help x) = (x, refl, refl)
is_made command.Noop = (refl, refl)
is_made command.Feat = (refl, refl)
is_made (command.Opts x) = (x, refl, refl)

-- a shape makes commands of a verb, with the values that they are made of
abbrev pub Makes : Verb → Shape → Type 0
Makes v (shape.Name make) = (x : List ℕ) → parts (make x) ≡ (v, value.Name x)
Makes v (shape.Password make) = (x : List ℕ) → parts (make x) ≡ (v, value.Password x)
Makes v (shape.Words make) = (x : List ℕ) → parts (make x) ≡ (v, value.Words x)
Makes v (shape.WordsOrNone make) = (x : Option (List ℕ)) → parts (make x) ≡ (v, value.WordsOrNone x)
Makes v (shape.Path make) = (x : List ℕ) → parts (make x) ≡ (v, value.Path x)
Makes v (shape.PathOrNone make) = (x : Option (List ℕ)) → parts (make x) ≡ (v, value.PathOrNone x)
Makes v (shape.Listed make) = (x : Option (List ℕ)) → parts (make x) ≡ (v, value.Listed x)
Makes v (shape.Six make) = (x : Endpoint) → parts (make x) ≡ (v, value.Six x)
Makes v (shape.Extended make) = (x : Endpoint) → parts (make x) ≡ (v, value.Extended x)
Makes v (shape.Family make) = (x : Passive) → parts (make x) ≡ (v, value.Family x)
Makes v (shape.Kind make) = (x : Kind) → parts (make x) ≡ (v, value.Kind x)
Makes v (shape.Structure make) = (x : Structure) → parts (make x) ≡ (v, value.Structure x)
Makes v (shape.Mode make) = (x : Mode) → parts (make x) ≡ (v, value.Mode x)
Makes v (shape.Number make) = (x : ℕ) → parts (make x) ≡ (v, value.Number x)
Makes v (shape.Nothing made) = parts made ≡ (v, value.Nothing)
Makes v (shape.Alone made) = parts made ≡ (v, value.Nothing)
Makes v (shape.Sizes make) = (x : ℕ) (y : Option ℕ) → parts (make x y) ≡ (v, value.Sizes x y)
Makes v shape.Undone = Unit {0}

pub makes : (v : Verb) → Makes v (row v).shape
makes verb.User = λ x. refl
makes verb.Pass = λ x. refl
makes verb.Acct = λ x. refl
makes verb.Cwd = λ x. refl
makes verb.Cdup = refl
makes verb.Smnt = tt
makes verb.Rein = refl
makes verb.Quit = refl
makes verb.Port = λ x. refl
makes verb.Pasv = refl
makes verb.Eprt = λ x. refl
makes verb.Epsv = λ x. refl
makes verb.Repr = λ x. refl
makes verb.Stru = λ x. refl
makes verb.Mode = λ x. refl
makes verb.Retr = λ x. refl
makes verb.Stor = λ x. refl
makes verb.Stou = tt
makes verb.Appe = λ x. refl
makes verb.Allo = λ x y. refl
makes verb.Rest = λ x. refl
makes verb.Rnfr = λ x. refl
makes verb.Rnto = λ x. refl
makes verb.Abor = refl
makes verb.Dele = λ x. refl
makes verb.Rmd = λ x. refl
makes verb.Mkd = λ x. refl
makes verb.Pwd = refl
makes verb.List = λ x. refl
makes verb.Nlst = λ x. refl
makes verb.Mlst = λ x. refl
makes verb.Mlsd = λ x. refl
makes verb.Size = λ x. refl
makes verb.Mdtm = λ x. refl
makes verb.Site = tt
makes verb.Syst = refl
makes verb.Stat = refl
makes verb.Help = λ x. refl
makes verb.Noop = refl
makes verb.Feat = refl
makes verb.Opts = λ x. refl

-- a command of a verb is made by the shape of that verb
pub made_by : (c : Command (List ℕ)) (v : Verb) → verb_of c ≡ v → IsMade c (row v).shape
made_by c v e = let P : Verb → Type 0 = λ x. IsMade c (row x).shape in subst P e (is_made c)

-- what an argument says of a command, it says of its value
pub said_as : (a : List ℕ) (c : Command (List ℕ)) (x : Value (List ℕ)) → value_of c ≡ x → Argues a c → SaysValue a x
said_as a c x e h = let P : Value (List ℕ) → Type 0 = λ y. SaysValue a y in subst P e h

-- a command of a verb, with a value that an argument says, is said
pub said_with : (a : List ℕ) (v : Verb) (c : Command (List ℕ)) (x : Value (List ℕ)) → parts c ≡ (v, x) → SaysValue a x → (c : Command (List ℕ)) × (verb_of c ≡ v) × Argues a c
said_with a v c x is says =
    let P : Value (List ℕ) → Type 0 = λ y. SaysValue a y in (c, ap (λ p. p.0) is, subst P (sym (ap (λ p. p.1) is)) says)

-- ---- words, which stand behind four letters alone

abbrev pub is_wordy : Value (List ℕ) → Bool
is_wordy (value.Words text) = true
is_wordy (value.WordsOrNone text) = true
is_wordy value = false

abbrev takes_words : Shape → Bool
takes_words (shape.Words make) = true
takes_words (shape.WordsOrNone make) = true
takes_words shape = false

-- a value that is no words is none of a shape of words
other : (x y : Value (List ℕ)) (b : Bool) → x ≡ y → is_wordy y ≡ false → is_wordy x ≡ true → b ≡ true
other x y b e none is = absurd (false≢true (sym none ∙ (sym (ap is_wordy e) ∙ is)))

wordy_made : (c : Command (List ℕ)) (s : Shape) → IsMade c s → is_wordy (value_of c) ≡ true → takes_words s ≡ true
wordy_made c (shape.Words make) made is = refl
wordy_made c (shape.WordsOrNone make) made is = refl
wordy_made c (shape.Name make) (x, at, e) is = other (value_of c) (value.Name x) false e refl is
wordy_made c (shape.Password make) (x, at, e) is = other (value_of c) (value.Password x) false e refl is
wordy_made c (shape.Path make) (x, at, e) is = other (value_of c) (value.Path x) false e refl is
wordy_made c (shape.PathOrNone make) (x, at, e) is = other (value_of c) (value.PathOrNone x) false e refl is
wordy_made c (shape.Listed make) (x, at, e) is = other (value_of c) (value.Listed x) false e refl is
wordy_made c (shape.Six make) (x, at, e) is = other (value_of c) (value.Six x) false e refl is
wordy_made c (shape.Extended make) (x, at, e) is = other (value_of c) (value.Extended x) false e refl is
wordy_made c (shape.Family make) (x, at, e) is = other (value_of c) (value.Family x) false e refl is
wordy_made c (shape.Kind make) (x, at, e) is = other (value_of c) (value.Kind x) false e refl is
wordy_made c (shape.Structure make) (x, at, e) is = other (value_of c) (value.Structure x) false e refl is
wordy_made c (shape.Mode make) (x, at, e) is = other (value_of c) (value.Mode x) false e refl is
wordy_made c (shape.Number make) (x, at, e) is = other (value_of c) (value.Number x) false e refl is
wordy_made c (shape.Nothing made) (at, e) is = other (value_of c) value.Nothing false e refl is
wordy_made c (shape.Alone made) (at, e) is = other (value_of c) value.Nothing false e refl is
wordy_made c (shape.Sizes make) (x, y, at, e) is = other (value_of c) (value.Sizes x y) false e refl is
wordy_made c shape.Undone made is = absurd made

abbrev has_four : Verb → Bool
has_four v = (length (letters v) == 4) && (length (old_letters v) == 4)

unless : (b c : Bool) → (not b || c) ≡ true → b ≡ true → c ≡ true
unless true c h is = h
unless false c h is = absurd (false≢true is)

-- the words of a command stand behind a verb of four letters, also by its older word
pub four_letters : (c : Command (List ℕ)) → is_wordy (value_of c) ≡ true → (length (letters (verb_of c)) ≡ 4) × (length (old_letters (verb_of c)) ≡ 4)
four_letters c is =
    let v : Verb = verb_of c in
    let all = every_passes (λ v. not (takes_words (row v).shape) || has_four v) refl v in
    let both = and_parts (length (letters v) == 4) (length (old_letters v) == 4) (unless (takes_words (row v).shape) (has_four v) all (wordy_made c (row v).shape (is_made c) is)) in
    (eqb-true _ _ both.0, eqb-true _ _ both.1)
