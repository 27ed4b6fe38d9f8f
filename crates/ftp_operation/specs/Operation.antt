-- What a user asks of a server, as values: which operations can be sent at all. No command, reply or connection stands here.
use Rattle.std.specs.Prelude.{ℕ, ◌&&◌, ◌||◌, ◌==◌, ◌^◌, Bool, true, not, nat_lt, nat_eq, List, [], ◌∷◌, length, Option, Some, None}
use Rattle.std.specs.List.{starts_with}
use Rattle.ftp_endpoint.specs.Number.{digit_limit}
pub use Rattle.ftp_path.specs.Path.{is_path_text}
use Rattle.ftp_operation.specs.declared.op.ListVerb.{ListVerb}
use Rattle.ftp_operation.specs.declared.op.ListVerb.TheVariants as Verbs
use Rattle.ftp_operation.specs.declared.op.Op.{Op}
use Rattle.ftp_operation.specs.declared.op.Op.TheVariants as Ops

-- a path text that may be left out
abbrev pub is_optional_text : List ℕ → Bool
is_optional_text text = (length text == 0) || is_path_text text

-- a number that can be sent: at most 18 digits
abbrev pub is_number : ℕ → Bool
is_number number = nat_lt number (10 ^ digit_limit)

-- a text that begins with `-` would be read as an option of LIST and NLST (own choice)
abbrev pub is_option : List ℕ → Bool
is_option text = starts_with nat_eq text (45 ∷ [])

-- a listing of this text can be asked for by a command: MLSD has no options
abbrev pub may_be_listed : ListVerb → List ℕ → Bool
may_be_listed Verbs.Mlsd text = is_optional_text text
may_be_listed Verbs.List text = is_optional_text text && not (is_option text)
may_be_listed Verbs.Nlst text = is_optional_text text && not (is_option text)

-- whether an operation can be sent
abbrev pub can_be_sent : Op (List ℕ) → Bool
can_be_sent Ops.Where = true
can_be_sent (Ops.ChangeDir path) = is_path_text path
can_be_sent Ops.Up = true
can_be_sent (Ops.MakeDir path) = is_path_text path
can_be_sent (Ops.RemoveDir path) = is_path_text path
can_be_sent (Ops.Delete path) = is_path_text path
can_be_sent (Ops.Rename from to) = is_path_text from && is_path_text to
can_be_sent (Ops.Put path octets how) = is_path_text path
can_be_sent (Ops.Append path octets how) = is_path_text path
can_be_sent (Ops.PutFrom path offset octets how) = is_path_text path && is_number offset
can_be_sent (Ops.Get path how) = is_path_text path
can_be_sent (Ops.GetFrom path offset how) = is_path_text path && is_number offset
can_be_sent (Ops.Peek path count how) = is_path_text path && is_number count
can_be_sent (Ops.Size path how) = is_path_text path
can_be_sent (Ops.Modified path) = is_path_text path
can_be_sent (Ops.Facts path) = is_optional_text path
can_be_sent (Ops.List path how) = is_optional_text path
can_be_sent (Ops.Names path how) = is_optional_text path && not (is_option path)
can_be_sent (Ops.Text verb path how) = may_be_listed verb path

-- the octets of a Put, which makes its file anew
abbrev pub octets_put : {P : Type 0} → Op P → Option P
octets_put (Ops.Put path octets how) = Some octets
octets_put op = None
