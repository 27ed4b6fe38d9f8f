-- Worked rows: what lines and scripts say, and what is reported. Each is a theorem that computes.
use Rattle.std.specs.Prelude.{◌≡◌, true, false, codes, [], ◌∷◌, ◌++◌, Some, None, Ok, Err}
use Rattle.ftp_operation.specs.declared.op.How.{How}
use Rattle.ftp_operation.specs.declared.op.ListVerb.TheVariants as Lists
use Rattle.ftp_operation.specs.declared.op.Op.TheVariants as Ops
use Rattle.ftp_settings.specs.declared.representation.Kind.TheVariants.{Ascii, Image}
use Rattle.ftp_settings.specs.declared.representation.Structure.TheVariants.{File, Record}
use Rattle.ftp_settings.specs.declared.representation.Mode.TheVariants.{Stream, Block}
use Rattle.tool_script.specs.declared.order.Order.TheVariants.{Once, Tries}
use Rattle.tool_script.specs.Field.{field_text, field_value}
use Rattle.tool_script.specs.Line.{how_with, login_value, order_value}
use Rattle.tool_script.specs.Script.{script_value}

-- `IFSpn`
abbrev pub plain : How
plain = how_with Image File Stream false false false

-- `ARBaem`
abbrev pub other : How
other = how_with Ascii Record Block true true true

-- each form of a line, with its parts in their order
abbrev pub OperationsSaid : Type 0
OperationsSaid =
    (order_value (codes "where") ≡ Some (Once Ops.Where))
    × (order_value (codes "up") ≡ Some (Once Ops.Up))
    × (order_value (codes "cd d") ≡ Some (Once (Ops.ChangeDir (codes "d"))))
    × (order_value (codes "mkdir d") ≡ Some (Once (Ops.MakeDir (codes "d"))))
    × (order_value (codes "rmdir d") ≡ Some (Once (Ops.RemoveDir (codes "d"))))
    × (order_value (codes "delete f") ≡ Some (Once (Ops.Delete (codes "f"))))
    × (order_value (codes "modified f") ≡ Some (Once (Ops.Modified (codes "f"))))
    × (order_value (codes "facts f") ≡ Some (Once (Ops.Facts (codes "f"))))
    × (order_value (codes "rename f g") ≡ Some (Once (Ops.Rename (codes "f") (codes "g"))))

-- those with a representation
abbrev pub TransfersSaid : Type 0
TransfersSaid =
    (order_value (codes "put IFSpn f abc") ≡ Some (Once (Ops.Put (codes "f") (codes "abc") plain)))
    × (order_value (codes "append ARBaem f abc") ≡ Some (Once (Ops.Append (codes "f") (codes "abc") other)))
    × (order_value (codes "putfrom IFSpn f 3 abc") ≡ Some (Once (Ops.PutFrom (codes "f") 3 (codes "abc") plain)))
    × (order_value (codes "upload ARBaem f abc") ≡ Some (Tries (codes "f") (codes "abc") other))
    × (order_value (codes "get ARBaem f") ≡ Some (Once (Ops.Get (codes "f") other)))
    × (order_value (codes "getfrom IFSpn f 007") ≡ Some (Once (Ops.GetFrom (codes "f") 7 plain)))
    × (order_value (codes "peek IFSpn f 3") ≡ Some (Once (Ops.Peek (codes "f") 3 plain)))
    × (order_value (codes "size ARBaem f") ≡ Some (Once (Ops.Size (codes "f") other)))
    × (order_value (codes "list IFSpn f") ≡ Some (Once (Ops.List (codes "f") plain)))
    × (order_value (codes "names IFSpn f") ≡ Some (Once (Ops.Names (codes "f") plain)))
    × (order_value (codes "text mlsd IFSpn f") ≡ Some (Once (Ops.Text Lists.Mlsd (codes "f") plain)))
    × (order_value (codes "text list IFSpn f") ≡ Some (Once (Ops.Text Lists.List (codes "f") plain)))
    × (order_value (codes "text nlst ARBaem f") ≡ Some (Once (Ops.Text Lists.Nlst (codes "f") other)))
    × (order_value (codes "text IFSpn f") ≡ None)

-- a login, a script, the same without the end of its last line, a faulty third line before a last one without its end, a login alone that lacks
-- its end, and a script without a line
abbrev pub ScriptsSaid : Type 0
ScriptsSaid =
    (login_value (codes "login guest secret") ≡ Some (codes "guest", codes "secret"))
    × (script_value (codes "login a b" ++ 10 ∷ codes "where" ++ 10 ∷ codes "up" ++ 10 ∷ []) ≡ Ok ((codes "a", codes "b"), Once Ops.Where ∷ Once Ops.Up ∷ []))
    × (script_value (codes "login a b" ++ 10 ∷ codes "where" ++ 10 ∷ codes "up") ≡ Err 3)
    × (script_value (codes "login a b" ++ 10 ∷ codes "where" ++ 10 ∷ codes "cd" ++ 10 ∷ codes "up") ≡ Err 3)
    × (script_value (codes "login a b") ≡ Err 1)
    × (script_value (codes "login a b" ++ 10 ∷ codes "where" ++ 10 ∷ codes "cd" ++ 10 ∷ codes "up" ++ 10 ∷ []) ≡ Err 3)
    × (script_value [] ≡ Err 1)

-- fields: each escape
abbrev pub FieldsSaid : Type 0
FieldsSaid =
    (field_value (92 ∷ 115 ∷ 92 ∷ 110 ∷ 92 ∷ 114 ∷ 92 ∷ 92 ∷ []) ≡ Some (32 ∷ 10 ∷ 13 ∷ 92 ∷ []))
    × (field_value (97 ∷ 92 ∷ 120 ∷ 102 ∷ 48 ∷ []) ≡ Some (97 ∷ 240 ∷ []))
    × (field_value (92 ∷ 101 ∷ []) ≡ Some [])
    × (field_value [] ≡ None)
    × (field_text (97 ∷ 10 ∷ 0 ∷ 255 ∷ []) ≡ 97 ∷ 92 ∷ 110 ∷ 92 ∷ 120 ∷ 48 ∷ 48 ∷ 92 ∷ 120 ∷ 102 ∷ 102 ∷ [])
