-- Words that say no range of ports.
use Rattle.std.proofs.Common.{◌≡◌, ℕ, List, Option, Some, None, IfNone, sym, subst}
use Rattle.std.specs.List.{before_first}
use Rattle.tool_command.specs.Numbers.{SaysServerPort, SaysPorts, is_hyphen}

-- what stands before the hyphen is no port
pub no_first : {A : Type 0} (word front : List ℕ) (r : Option A) → front ≡ before_first is_hyphen word → ((port : ℕ) → ¬ (SaysServerPort front port))
    → IfNone r ((first last : ℕ) → ¬ (SaysPorts word first last))
no_first word front (Some x) is none = tt
no_first word front None is none = λ first last says. none first (subst (λ t. SaysServerPort t first) (sym is) says.1)
