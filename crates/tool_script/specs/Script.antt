-- A script: a login, and then orders, one a line (own choice).
use Rattle.std.specs.Prelude.{◌≡◌, ◌==◌, ◌+◌, ℕ, List, [], ◌∷◌, ◌++◌, length, Result, Ok, Err, Option, Some, None}
use Rattle.std.specs.List.{slice_split}
use Rattle.ftp_facts.specs.Listing.{line_feed}
use Rattle.tool_script.specs.declared.order.Order.{Order}
use Rattle.tool_script.specs.Line.{login_value, order_value}
use Rattle.tool_script.specs.declared.fault.LineFault.{LineFault}
use Rattle.tool_script.specs.declared.fault.LineFault.TheVariants as LineFaults
use Rattle.tool_script.specs.declared.script.ScriptFault.{ScriptFault}
use Rattle.tool_script.specs.declared.script.ScriptFault.TheVariants.{Line, Memory}

-- what a line says and what those after it say; or the number of the first that says nothing
abbrev pub joined_with_line : {X Y Z : Type 0} → (X → Y → Z) → ℕ → Option X → Result Y ℕ → Result Z ℕ
joined_with_line join number None behind = Err number
joined_with_line join number (Some value) (Err later) = Err later
joined_with_line join number (Some value) (Ok values) = Ok (join value values)

-- the orders of lines, whose first has this number
abbrev pub orders_value : ℕ → List (List ℕ) → Result (List (Order (List ℕ))) ℕ
orders_value number [] = Ok []
orders_value number (line ∷ lines) = joined_with_line (λ order orders. order ∷ orders) number (order_value line) (orders_value (number + 1) lines)

-- orders in front of those that follow
abbrev pub orders_behind : List (Order (List ℕ)) → Result (List (Order (List ℕ))) ℕ → Result (List (Order (List ℕ))) ℕ
orders_behind front (Ok orders) = Ok (front ++ orders)
orders_behind front (Err number) = Err number

-- the login of the first line, and the orders of the others
abbrev pub script_from : Option (List ℕ × List ℕ) → List (List ℕ) → Result ((List ℕ × List ℕ) × List (Order (List ℕ))) ℕ
script_from login lines = joined_with_line (λ login orders. (login, orders)) 1 login (orders_value 2 lines)

-- the login and the orders of lines: the first is the login, and lines count from 1
abbrev pub script_in : List (List ℕ) → Result ((List ℕ × List ℕ) × List (Order (List ℕ))) ℕ
script_in [] = Err 1
script_in (line ∷ lines) = script_from (login_value line) lines

-- all of a row but its last
abbrev pub all_but_last : {X : Type 0} → List X → List X
all_but_last [] = []
all_but_last (piece ∷ []) = []
all_but_last (piece ∷ next ∷ pieces) = piece ∷ all_but_last (next ∷ pieces)

-- the last of a row
abbrev pub last_of_row : List (List ℕ) → List ℕ
last_of_row [] = []
last_of_row (piece ∷ []) = piece
last_of_row (piece ∷ next ∷ pieces) = last_of_row (next ∷ pieces)

-- what lines say, if nothing stands after the end of the last; else that is a line without its end, which says nothing: this is its number
abbrev pub if_ended : {V : Type 0} → ℕ → List ℕ → Result V ℕ → Result V ℕ
if_ended number [] said = said
if_ended number (octet ∷ rest) (Ok value) = Err number
if_ended number (octet ∷ rest) (Err line) = Err line

-- what is said by what stands before, between and after ends of lines: lines, and what stands after the last end
abbrev pub script_between : List (List ℕ) → Result ((List ℕ × List ℕ) × List (Order (List ℕ))) ℕ
script_between pieces = if_ended (length pieces) (last_of_row pieces) (script_in (all_but_last pieces))

-- what a script says, or the number of the first line that is refused; each line is ended by LF, also the last
abbrev pub script_value : List ℕ → Result ((List ℕ × List ℕ) × List (Order (List ℕ))) ℕ
script_value text = script_between (slice_split (λ octet. octet == line_feed) text)

-- what is read is the value, seen so; a line is refused where this is the first that says nothing, or memory ran out
abbrev pub ReadsAll : {X V : Type 0} → (X → V) → Result X ScriptFault → Result V ℕ → Type 0
ReadsAll seen (Ok x) value = value ≡ Ok (seen x)
ReadsAll seen (Err (Line number)) value = value ≡ Err number
ReadsAll seen (Err Memory) value = Unit {0}

-- why a script is refused, of why the line with this number is
abbrev pub at_line : ℕ → LineFault → ScriptFault
at_line number LineFaults.Unfit = Line number
at_line number LineFaults.Memory = Memory
