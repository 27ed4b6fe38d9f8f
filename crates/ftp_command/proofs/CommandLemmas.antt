-- How a line is refused, from its verb and its argument.
use Rattle.std.proofs.Common.{◌≡◌, ◌⊎◌, inl, inr, List, ℕ, [], ◌≤◌, Option, None, Some, Result, Ok, Err, IfErr, refl, sym, ap, subst, length}
use Rattle.ftp_path.specs.Path.{IsPathText}
use Rattle.ftp_command.specs.Argument.{IsName, IsPassword, IsOtherFamily, IsOtherKind, IsOtherMode, IsOtherStructure, SaysKind, SaysMode, SaysPassive, SaysPathOrNone, SaysStructure, argument, trimmed, without_options, word}
use Rattle.ftp_command.specs.Command.{Argues, HasText, HoldsText, IsForeign, IsOtherSetting, IsUndone, Refuses, SaysValue, parts, value_of, verb_of}
use Rattle.ftp_command.specs.Decline.{Declines, DeclinesFamily, IsCopied, NeedsCopy, NotRead, SaysText}
use Rattle.ftp_command.specs.Shapes.{Shape}
use Rattle.ftp_command.specs.Shapes as shape
use Rattle.ftp_command.specs.Verb.{Names, row}
use Rattle.ftp_command.specs.declared.command.Command.{Command}
use Rattle.ftp_command.specs.declared.fault.CommandFault.{CommandFault}
use Rattle.ftp_command.specs.declared.fault.CommandFault.TheVariants.{Unknown, BadArgument, NotDone, BadParameter, Protocol, Memory}
use Rattle.ftp_command.specs.declared.value.Value.{Value}
use Rattle.ftp_command.specs.declared.value.Value.TheVariants as value
use Rattle.ftp_command.specs.declared.verb.Verb.{Verb}
use Rattle.ftp_command.specs.declared.verb.Verb.TheVariants as verb
use Rattle.ftp_endpoint.specs.Endpoint.{SaysSix}
use Rattle.ftp_endpoint.specs.declared.endpoint.Endpoint.{Endpoint}
use Rattle.ftp_endpoint.specs.Host.{IsOtherProtocol, SaysExtended}
use Rattle.ftp_command.proofs.VerbLemmas.{IsMade, Makes, made_by, makes, said_as}

pub err_weaker : {A E : Type 0} (r : Result A E) (P Q : E → Type 0) → IfErr r P → ((e : E) → P e → Q e) → IfErr r Q
err_weaker (Ok x) P Q h f = tt
err_weaker (Err e) P Q h f = f e h

-- ---- what is copied is the text of a command that the line says

-- a command of a verb that an argument says, and that holds a text
abbrev Copied : List ℕ → Verb → Type 0
Copied a v = (c : Command (List ℕ)) × (verb_of c ≡ v) × Argues a c × HoldsText c

copied_as : (a : List ℕ) (v : Verb) (c : Command (List ℕ)) (x : Value (List ℕ)) → parts c ≡ (v, x) → SaysValue a x → HasText x → Copied a v
copied_as a v c x is says has =
    let P : Value (List ℕ) → Type 0 = λ y. SaysValue a y in
    let Q : Value (List ℕ) → Type 0 = λ y. HasText y in
    let same : value_of c ≡ x = ap (λ p. p.1) is in
    (c, ap (λ p. p.0) is, subst P (sym same) says, subst Q (sym same) has)

copied_by : (a : List ℕ) (v : Verb) (s : Shape) → Makes v s → IsCopied a s → Copied a v
copied_by a v (shape.Name make) makes h = copied_as a v (make a) (value.Name a) (makes a) (refl, h) tt
copied_by a v (shape.Password make) makes h = copied_as a v (make a) (value.Password a) (makes a) (refl, h) tt
copied_by a v (shape.Words make) makes h = copied_as a v (make (trimmed a)) (value.Words (trimmed a)) (makes (trimmed a)) (refl, h) tt
copied_by a v (shape.WordsOrNone make) makes h =
    let text = Some (trimmed a) in copied_as a v (make text) (value.WordsOrNone text) (makes text) (refl, h) refl
copied_by a v (shape.Path make) makes h = copied_as a v (make a) (value.Path a) (makes a) (refl, h) tt
copied_by a v (shape.PathOrNone make) makes h = copied_as a v (make (Some a)) (value.PathOrNone (Some a)) (makes (Some a)) (refl, h) refl
copied_by a v (shape.Listed make) makes h =
    let text = Some (without_options a) in copied_as a v (make text) (value.Listed text) (makes text) (refl, h) refl
copied_by a v s makes h = absurd h

says_text : (line : List ℕ) (v : Verb) → Names (word line) v → NeedsCopy (argument line) v → SaysText line
says_text line v names h =
    let c = copied_by (argument line) v (row v).shape (makes v) h in
    let P : Verb → Type 0 = λ x. Names (word line) x in
    (c.0, (subst P (sym c.1) names, c.2), c.3)

-- ---- an argument that was not read is declined

-- how an argument of a shape is refused, where `N` says that no command fits
abbrev DeclinedAs : List ℕ → Shape → Type 0 → CommandFault → Type 0
DeclinedAs a s N NotDone = IsUndone a s
DeclinedAs a s N BadParameter = IsOtherSetting a s
DeclinedAs a s N Protocol = IsForeign a s
DeclinedAs a s N BadArgument = (¬ IsUndone a s) × (¬ IsOtherSetting a s) × (¬ IsForeign a s) × N
DeclinedAs a s N fault = ⊥

-- memory for a text, or such a refusal
abbrev Outcome : List ℕ → Shape → Type 0 → CommandFault → Type 0
Outcome a s N fault = ((fault ≡ Memory) × IsCopied a s) ⊎ DeclinedAs a s N fault

-- no command that the shape makes is said
abbrev NoneIsMade : List ℕ → Shape → Type 0
NoneIsMade a s = (c : Command (List ℕ)) → IsMade c s → ¬ Argues a c

bad : (a : List ℕ) (s : Shape) (N : Type 0) (fault : CommandFault) → fault ≡ BadArgument → ¬ IsUndone a s → ¬ IsOtherSetting a s → ¬ IsForeign a s → N → Outcome a s N fault
bad a s N fault e done setting network none =
    let P : CommandFault → Type 0 = λ f. DeclinedAs a s N f in
    let here : P BadArgument = (done, setting, network, none) in
    inr (subst P (sym e) here)

-- a text that had no memory, or is none
text : (a : List ℕ) (s : Shape) (N : Type 0) (fault : CommandFault) (Is : Type 0) → (Is → IsCopied a s) → ¬ IsUndone a s → ¬ IsOtherSetting a s → ¬ IsForeign a s → ((¬ Is) → N)
    → ((fault ≡ Memory) × Is) ⊎ ((fault ≡ BadArgument) × (¬ Is)) → Outcome a s N fault
text a s N fault Is into done setting network none (inl h) = inl (h.0, into h.1)
text a s N fault Is into done setting network none (inr h) = bad a s N fault h.0 done setting network (none h.1)

-- a path that had no memory, or neither a path nor nothing
path_if : (a given : List ℕ) (s : Shape) (N : Type 0) (fault : CommandFault) → (IsPathText given → IsCopied a s) → ¬ IsUndone a s → ¬ IsOtherSetting a s → ¬ IsForeign a s → ((¬ ((given ≡ []) ⊎ IsPathText given)) → N)
    → ((fault ≡ Memory) × IsPathText given) ⊎ ((fault ≡ BadArgument) × (¬ ((given ≡ []) ⊎ IsPathText given))) → Outcome a s N fault
path_if a given s N fault into done setting network none (inl h) = inl (h.0, into h.1)
path_if a given s N fault into done setting network none (inr h) = bad a s N fault h.0 done setting network (none h.1)

setting_as : {V : Type 0} (Says : V → Type 0) (Other : Type 0) (a : List ℕ) (s : Shape) (N : Type 0) (fault : CommandFault) → (Other → IsOtherSetting a s) → (IsOtherSetting a s → Other) → ¬ IsUndone a s → ¬ IsForeign a s → (((x : V) → ¬ Says x) → N)
    → Declines Says Other fault → Outcome a s N fault
setting_as Says Other a s N Unknown into of done network none h = absurd h
setting_as Says Other a s N BadArgument into of done network none h = inr (done, λ is. h.0 (of is), network, none h.1)
setting_as Says Other a s N NotDone into of done network none h = absurd h
setting_as Says Other a s N BadParameter into of done network none h = inr (into h)
setting_as Says Other a s N Protocol into of done network none h = absurd h
setting_as Says Other a s N Memory into of done network none h = absurd h

network_as : {V : Type 0} (Says : V → Type 0) (Other : Type 0) (a : List ℕ) (s : Shape) (N : Type 0) (fault : CommandFault) → (Other → IsForeign a s) → (IsForeign a s → Other) → ¬ IsUndone a s → ¬ IsOtherSetting a s → (((x : V) → ¬ Says x) → N)
    → DeclinesFamily Says Other fault → Outcome a s N fault
network_as Says Other a s N Unknown into of done setting none h = absurd h
network_as Says Other a s N BadArgument into of done setting none h = inr (done, setting, λ is. h.0 (of is), none h.1)
network_as Says Other a s N NotDone into of done setting none h = absurd h
network_as Says Other a s N BadParameter into of done setting none h = absurd h
network_as Says Other a s N Protocol into of done setting none h = inr (into h)
network_as Says Other a s N Memory into of done setting none h = absurd h

-- a path or nothing, from what says it
given_or_none : (given : List ℕ) (x : Option (List ℕ)) → SaysPathOrNone given x → (given ≡ []) ⊎ IsPathText given
given_or_none given None h = inl h
given_or_none given (Some path) h = let P : List ℕ → Type 0 = λ y. IsPathText y in inr (subst P (sym h.0) h.1)

-- what a text is, the argument that says it is
is_as : (Is : List ℕ → Type 0) (given text : List ℕ) → (given ≡ text) × Is text → Is given
is_as Is given text h = subst Is (sym h.0) h.1

abbrev IsSome : List ℕ → Type 0
IsSome text = 1 ≤ length text

not_read_as : (a : List ℕ) (s : Shape) (N : Type 0) (fault : CommandFault) → (NoneIsMade a s → N) → NotRead a s fault → Outcome a s N fault
not_read_as a (shape.Name make) N fault none h =
    let gives : (¬ IsName a) → N = λ no. none (λ c made says. no (is_as IsName a made.0 (said_as a c (value.Name made.0) made.2 says))) in
    text a (shape.Name make) N fault (IsName a) (λ is. is) (λ is. is) (λ is. is) (λ is. is) gives h
not_read_as a (shape.Password make) N fault none h =
    let gives : (¬ IsPassword a) → N = λ no. none (λ c made says. no (is_as IsPassword a made.0 (said_as a c (value.Password made.0) made.2 says))) in
    text a (shape.Password make) N fault (IsPassword a) (λ is. is) (λ is. is) (λ is. is) (λ is. is) gives h
not_read_as a (shape.Path make) N fault none h =
    let gives : (¬ IsPathText a) → N = λ no. none (λ c made says. no (is_as IsPathText a made.0 (said_as a c (value.Path made.0) made.2 says))) in
    text a (shape.Path make) N fault (IsPathText a) (λ is. is) (λ is. is) (λ is. is) (λ is. is) gives h
not_read_as a (shape.Words make) N fault none h =
    let gives : (¬ (1 ≤ length (trimmed a))) → N = λ no. none (λ c made says. no (is_as IsSome (trimmed a) made.0 (said_as a c (value.Words made.0) made.2 says))) in
    text a (shape.Words make) N fault ((1 ≤ length (trimmed a))) (λ is. is) (λ is. is) (λ is. is) (λ is. is) gives h
not_read_as a (shape.WordsOrNone make) N fault none h = inl h
not_read_as a (shape.PathOrNone make) N fault none h =
    let gives : (¬ ((a ≡ []) ⊎ IsPathText a)) → N = λ no. none (λ c made says. no (given_or_none a made.0 (said_as a c (value.PathOrNone made.0) made.2 says))) in
    path_if a a (shape.PathOrNone make) N fault (λ is. is) (λ is. is) (λ is. is) (λ is. is) gives h
not_read_as a (shape.Listed make) N fault none h =
    let path : List ℕ = without_options a in
    let gives : (¬ ((path ≡ []) ⊎ IsPathText path)) → N = λ no. none (λ c made says. no (given_or_none path made.0 (said_as a c (value.Listed made.0) made.2 says))) in
    path_if a path (shape.Listed make) N fault (λ is. is) (λ is. is) (λ is. is) (λ is. is) gives h
not_read_as a (shape.Nothing made) N fault none h =
    bad a (shape.Nothing made) N fault h.0 (λ is. is) (λ is. is) (λ is. is) (none (λ c made says. h.1 (said_as a c value.Nothing made.1 says)))
not_read_as a (shape.Alone made) N fault none h =
    let P : CommandFault → Type 0 = λ f. DeclinedAs a (shape.Alone made) N f in
    let here : P NotDone = h.1 in
    inr (subst P (sym h.0) here)
not_read_as a (shape.Six make) N fault none h =
    bad a (shape.Six make) N fault h.0 (λ is. is) (λ is. is) (λ is. is) (none (λ c made says. h.1 made.0 (said_as a c (value.Six made.0) made.2 says)))
not_read_as a (shape.Number make) N fault none h =
    bad a (shape.Number make) N fault h.0 (λ is. is) (λ is. is) (λ is. is) (none (λ c made says. h.1 made.0 (said_as a c (value.Number made.0) made.2 says)))
not_read_as a (shape.Sizes make) N fault none h =
    bad a (shape.Sizes make) N fault h.0 (λ is. is) (λ is. is) (λ is. is) (none (λ c made says. h.1 made.0 made.1 (said_as a c (value.Sizes made.0 made.1) made.3 says)))
not_read_as a (shape.Extended make) N fault none h =
    network_as (SaysExtended (trimmed a)) (IsOtherProtocol (trimmed a)) a (shape.Extended make) N fault (λ is. is) (λ is. is) (λ is. is) (λ is. is) (λ no. none (λ c made says. no made.0 (said_as a c (value.Extended made.0) made.2 says))) h
not_read_as a (shape.Family make) N fault none h =
    network_as (SaysPassive (trimmed a)) (IsOtherFamily (trimmed a)) a (shape.Family make) N fault (λ is. is) (λ is. is) (λ is. is) (λ is. is) (λ no. none (λ c made says. no made.0 (said_as a c (value.Family made.0) made.2 says))) h
not_read_as a (shape.Kind make) N fault none h =
    setting_as (SaysKind (trimmed a)) (IsOtherKind (trimmed a)) a (shape.Kind make) N fault (λ is. is) (λ is. is) (λ is. is) (λ is. is) (λ no. none (λ c made says. no made.0 (said_as a c (value.Kind made.0) made.2 says))) h
not_read_as a (shape.Structure make) N fault none h =
    setting_as (SaysStructure (trimmed a)) (IsOtherStructure (trimmed a)) a (shape.Structure make) N fault (λ is. is) (λ is. is) (λ is. is) (λ is. is) (λ no. none (λ c made says. no made.0 (said_as a c (value.Structure made.0) made.2 says))) h
not_read_as a (shape.Mode make) N fault none h =
    setting_as (SaysMode (trimmed a)) (IsOtherMode (trimmed a)) a (shape.Mode make) N fault (λ is. is) (λ is. is) (λ is. is) (λ is. is) (λ no. none (λ c made says. no made.0 (said_as a c (value.Mode made.0) made.2 says))) h
not_read_as a shape.Undone N fault none h =
    let P : CommandFault → Type 0 = λ f. DeclinedAs a shape.Undone N f in
    let here : P NotDone = tt in
    inr (subst P (sym h) here)

-- no command of the verb is said
abbrev NoneIsSaid : List ℕ → Verb → Type 0
NoneIsSaid a v = (command : Command (List ℕ)) → verb_of command ≡ v → ¬ Argues a command

pub not_read : (a : List ℕ) (v : Verb) (fault : CommandFault) → NotRead a (row v).shape fault → ((fault ≡ Memory) × NeedsCopy a v) ⊎ DeclinedAs a (row v).shape (NoneIsSaid a v) fault
not_read a v fault h = not_read_as a (row v).shape (NoneIsSaid a v) fault (λ none c e says. none c (made_by c v e) says) h

-- why a line was not read, from its verb and its argument
refused_as : (line : List ℕ) (v : Verb) → Names (word line) v → (fault : CommandFault)
    → ((fault ≡ Memory) × NeedsCopy (argument line) v) ⊎ DeclinedAs (argument line) (row v).shape (NoneIsSaid (argument line) v) fault
    → ((fault ≡ Memory) × SaysText line) ⊎ Refuses line fault
refused_as line v names fault (inl h) = inl (h.0, says_text line v names h.1)
refused_as line v names Unknown (inr h) = absurd h
refused_as line v names BadArgument (inr h) = inr (v, names, h)
refused_as line v names NotDone (inr h) = inr (v, names, h)
refused_as line v names BadParameter (inr h) = inr (v, names, h)
refused_as line v names Protocol (inr h) = inr (v, names, h)
refused_as line v names Memory (inr h) = absurd h

pub refused : (line : List ℕ) (v : Verb) → Names (word line) v → (fault : CommandFault) → NotRead (argument line) (row v).shape fault → ((fault ≡ Memory) × SaysText line) ⊎ Refuses line fault
refused line v names fault h = refused_as line v names fault (not_read (argument line) v fault h)

-- ---- endpoints, whose refusal is told of the argument without the spaces at its end

pub not_six : (a text : List ℕ) (v : Verb) (fault : CommandFault) → v ≡ verb.Port → text ≡ trimmed a → (fault ≡ BadArgument) × ((endpoint : Endpoint) → ¬ SaysSix text endpoint)
    → NotRead a (row v).shape fault
not_six a text v fault is cut h =
    let P : Verb → Type 0 = λ w. NotRead a (row w).shape fault in
    let Q : List ℕ → Type 0 = λ t. (fault ≡ BadArgument) × ((endpoint : Endpoint) → ¬ SaysSix t endpoint) in
    subst P (sym is) (subst Q cut h)

pub not_extended : (a text : List ℕ) (v : Verb) (fault : CommandFault) → v ≡ verb.Eprt → text ≡ trimmed a → DeclinesFamily (SaysExtended text) (IsOtherProtocol text) fault
    → NotRead a (row v).shape fault
not_extended a text v fault is cut h =
    let P : Verb → Type 0 = λ w. NotRead a (row w).shape fault in
    let Q : List ℕ → Type 0 = λ t. DeclinesFamily (SaysExtended t) (IsOtherProtocol t) fault in
    subst P (sym is) (subst Q cut h)
