-- A line of a script: a login or an order, as fields with one SP between them (own choice).
use Rattle.std.specs.Prelude.{◌≡◌, ◌==◌, ◌&&◌, ℕ, Bool, true, false, nat_eq, List, [], ◌∷◌, codes, find, Result, Ok, Err, Option, Some, None, option_map, if◌then◌else◌}
use Rattle.std.specs.Bool.{then_some}
use Rattle.std.specs.List.{slice_split}
use Rattle.std.specs.Cmp.Lexicographic.{pointwise}
use Rattle.ftp_path.specs.Login.{is_user, is_password}
use Rattle.ftp_settings.specs.declared.representation.Kind.{Kind}
use Rattle.ftp_settings.specs.declared.representation.Kind.TheVariants.{Ascii, Image}
use Rattle.ftp_settings.specs.declared.representation.Structure.{Structure}
use Rattle.ftp_settings.specs.declared.representation.Structure.TheVariants.{File, Record}
use Rattle.ftp_settings.specs.declared.representation.Mode.{Mode}
use Rattle.ftp_settings.specs.declared.representation.Mode.TheVariants.{Stream, Block}
use Rattle.ftp_facts.specs.Fact.{space}
use Rattle.ftp_facts.specs.Value.{and_then, number_value}
use Rattle.ftp_operation.specs.declared.op.How.{How}
use Rattle.ftp_operation.specs.declared.op.Op.{Op}
use Rattle.ftp_operation.specs.declared.op.ListVerb.{ListVerb}
use Rattle.ftp_operation.specs.declared.op.Op.TheVariants as Ops
use Rattle.tool_script.specs.declared.fault.LineFault.{LineFault}
use Rattle.tool_script.specs.declared.fault.LineFault.TheVariants.{Unfit, Memory}
use Rattle.tool_script.specs.declared.order.Order.{Order}
use Rattle.tool_script.specs.declared.order.Order.TheVariants.{Once, Tries}
use Rattle.tool_script.specs.declared.verb.Alone.{Alone}
use Rattle.tool_script.specs.declared.verb.Alone.TheVariants.{Where, Up}
use Rattle.tool_script.specs.declared.verb.OnPath.{OnPath}
use Rattle.tool_script.specs.declared.verb.OnPath.TheVariants.{ChangeDir, MakeDir, RemoveDir, Delete, Modified, Facts}
use Rattle.tool_script.specs.declared.verb.Taking.{Taking}
use Rattle.tool_script.specs.declared.verb.Taking.TheVariants.{Get, Size, Entries, Names}
use Rattle.tool_script.specs.declared.verb.PartVerb.{PartVerb}
use Rattle.tool_script.specs.declared.verb.PartVerb.TheVariants.{GetFrom, Peek}
use Rattle.tool_script.specs.declared.verb.Giving.{Giving}
use Rattle.tool_script.specs.declared.verb.Giving.TheVariants.{Put, Append}
use Rattle.tool_script.specs.declared.verb.ScriptVerb.{ScriptVerb}
use Rattle.tool_script.specs.declared.verb.ScriptVerb.TheVariants as verbs
use Rattle.tool_script.specs.Field.{field_value}
use Rattle.tool_script.specs.Verb.{is_named, list_verb_value}
use Rattle.tool_script.specs.declared.verb.TheConstants.{VERBS}

-- what is read is the value, seen so; where it is refused there is none, or memory ran out
abbrev pub Reads : {X V : Type 0} → (X → V) → Result X LineFault → Option V → Type 0
Reads seen (Ok x) value = value ≡ Some (seen x)
Reads seen (Err Unfit) value = value ≡ None
Reads seen (Err Memory) value = Unit {0}

-- ---- how octets go

-- the type of a letter
abbrev pub kind_of_letter : ℕ → Option Kind
kind_of_letter letter = if letter == 65 then Some Ascii else (if letter == 73 then Some Image else None)

-- the structure of a letter
abbrev pub structure_value : ℕ → Option Structure
structure_value letter = if letter == 70 then Some File else (if letter == 82 then Some Record else None)

-- the mode of a letter
abbrev pub mode_value : ℕ → Option Mode
mode_value letter = if letter == 83 then Some Stream else (if letter == 66 then Some Block else None)

-- whether the server opens the data connection: `p` passive, `a` active
abbrev pub opening_value : ℕ → Option Bool
opening_value letter = if letter == 112 then Some false else (if letter == 97 then Some true else None)

-- whether by EPRT and EPSV: `n` plain, `e` extended
abbrev pub form_value : ℕ → Option Bool
form_value letter = if letter == 110 then Some false else (if letter == 101 then Some true else None)

-- whether markers are asked for: `m` at the end
abbrev pub marks_value : List ℕ → Option Bool
marks_value text = if pointwise nat_eq text [] then Some false else (if pointwise nat_eq text (109 ∷ []) then Some true else None)

-- these settings
abbrev pub how_with : Kind → Structure → Mode → Bool → Bool → Bool → How
how_with kind structure mode active extended marks = record {
  representation = record { kind = kind; structure = structure; mode = mode };
  marks = marks;
  active = active;
  extended = extended;
}

-- how octets go, of five letters and perhaps a sixth
abbrev pub how_value : List ℕ → Option How
how_value (kind ∷ structure ∷ mode ∷ opening ∷ form ∷ marks) =
    and_then (kind_of_letter kind) (λ k. and_then (structure_value structure) (λ s. and_then (mode_value mode) (λ m.
    and_then (opening_value opening) (λ a. and_then (form_value form) (λ e. option_map (how_with k s m a e) (marks_value marks))))))
how_value short = None

-- ---- fields

-- no field
abbrev pub none_in : List (List ℕ) → Option Bool
none_in [] = Some true
none_in (field ∷ fields) = None

-- a path alone
abbrev pub path_in : List (List ℕ) → Option (List ℕ)
path_in (path ∷ []) = field_value path
path_in fields = None

-- two texts alone
abbrev pub pair_in : List (List ℕ) → Option (List ℕ × List ℕ)
pair_in (one ∷ other ∷ []) = and_then (field_value one) (λ a. option_map (λ b. (a, b)) (field_value other))
pair_in fields = None

-- how, and a path
abbrev pub taking_in : List (List ℕ) → Option (How × List ℕ)
taking_in (how ∷ path ∷ []) = and_then (how_value how) (λ h. option_map (λ p. (h, p)) (field_value path))
taking_in fields = None

-- how, a path and a number
abbrev pub taking_from_in : List (List ℕ) → Option (How × List ℕ × ℕ)
taking_from_in (how ∷ path ∷ number ∷ []) =
    and_then (taking_in (how ∷ path ∷ [])) (λ t. option_map (λ n. (t.0, t.1, n)) (number_value number))
taking_from_in fields = None

-- how, a path and octets
abbrev pub giving_in : List (List ℕ) → Option (How × List ℕ × List ℕ)
giving_in (how ∷ path ∷ octets ∷ []) =
    and_then (how_value how) (λ h. option_map (λ t. (h, t.0, t.1)) (pair_in (path ∷ octets ∷ [])))
giving_in fields = None

-- how, a path, a number and octets
abbrev pub giving_from_in : List (List ℕ) → Option (How × List ℕ × ℕ × List ℕ)
giving_from_in (how ∷ path ∷ number ∷ octets ∷ []) =
    and_then (taking_from_in (how ∷ path ∷ number ∷ [])) (λ t. option_map (λ o. (t.0, t.1, t.2, o)) (field_value octets))
giving_from_in fields = None

-- ---- orders

abbrev pub alone_op : Alone → Op (List ℕ)
alone_op Where = Ops.Where
alone_op Up = Ops.Up

abbrev pub path_op : OnPath → List ℕ → Op (List ℕ)
path_op ChangeDir path = Ops.ChangeDir path
path_op MakeDir path = Ops.MakeDir path
path_op RemoveDir path = Ops.RemoveDir path
path_op Delete path = Ops.Delete path
path_op Modified path = Ops.Modified path
path_op Facts path = Ops.Facts path

abbrev pub taking_op : Taking → How → List ℕ → Op (List ℕ)
taking_op Get how path = Ops.Get path how
taking_op Size how path = Ops.Size path how
taking_op Entries how path = Ops.List path how
taking_op Names how path = Ops.Names path how

abbrev pub part_op : PartVerb → How → List ℕ → ℕ → Op (List ℕ)
part_op GetFrom how path number = Ops.GetFrom path number how
part_op Peek how path number = Ops.Peek path number how

abbrev pub giving_op : Giving → How → List ℕ → List ℕ → Op (List ℕ)
giving_op Put how path octets = Ops.Put path octets how
giving_op Append how path octets = Ops.Append path octets how

-- the upload from an offset on of the fields behind its verb
abbrev pub put_from_in : List (List ℕ) → Option (Order (List ℕ))
put_from_in fields = option_map (λ t. Once (Ops.PutFrom t.1 t.2 t.3 t.0)) (giving_from_in fields)

-- the upload over breaks of the fields behind its verb
abbrev pub upload_in : List (List ℕ) → Option (Order (List ℕ))
upload_in fields = option_map (λ t. Tries t.1 t.2 t.0) (giving_in fields)

-- a listing as text by a command, from its settings and its path
abbrev pub text_by : ListVerb → List (List ℕ) → Option (Order (List ℕ))
text_by verb fields = option_map (λ t. Once (Ops.Text verb t.1 t.0)) (taking_in fields)

-- the listing as text of the fields behind its verb: a command, how, and a path
abbrev pub text_in : List (List ℕ) → Option (Order (List ℕ))
text_in [] = None
text_in (word ∷ fields) = and_then (list_verb_value word) (λ verb. text_by verb fields)

-- what is asked by a verb and the fields behind it
abbrev pub order_with : ScriptVerb → List (List ℕ) → Option (Order (List ℕ))
order_with (verbs.Alone verb) fields = option_map (λ _. Once (alone_op verb)) (none_in fields)
order_with (verbs.OnPath verb) fields = option_map (λ p. Once (path_op verb p)) (path_in fields)
order_with verbs.Rename fields = option_map (λ t. Once (Ops.Rename t.0 t.1)) (pair_in fields)
order_with (verbs.Taking verb) fields = option_map (λ t. Once (taking_op verb t.0 t.1)) (taking_in fields)
order_with (verbs.Part verb) fields = option_map (λ t. Once (part_op verb t.0 t.1 t.2)) (taking_from_in fields)
order_with (verbs.Giving verb) fields = option_map (λ t. Once (giving_op verb t.0 t.1 t.2)) (giving_in fields)
order_with verbs.GivingFrom fields = put_from_in fields
order_with verbs.Upload fields = upload_in fields
order_with verbs.Text fields = text_in fields

-- what fields ask: the first is a verb's word
abbrev pub order_in : List (List ℕ) → Option (Order (List ℕ))
order_in [] = None
order_in (word ∷ fields) = and_then (find (is_named word) VERBS) (λ verb. order_with verb fields)

-- it stands between fields
abbrev pub is_space : ℕ → Bool
is_space octet = octet == space

-- what a line asks: an operation, tried once, or an upload over breaks
unfoldable pub order_value : List ℕ → Option (Order (List ℕ))
order_value line = order_in (slice_split is_space line)

-- ---- the login

-- a user name and a password, where they are ones
abbrev pub login_with : List ℕ × List ℕ → Option (List ℕ × List ℕ)
login_with t = then_some (is_user t.0 && is_password t.1) t

-- the login that fields say
abbrev pub login_in : List (List ℕ) → Option (List ℕ × List ℕ)
login_in [] = None
login_in (word ∷ fields) = if pointwise nat_eq word (codes "login") then and_then (pair_in fields) login_with else None

-- the login that a line says
unfoldable pub login_value : List ℕ → Option (List ℕ × List ℕ)
login_value line = login_in (slice_split is_space line)
