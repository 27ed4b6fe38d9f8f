-- What came of a transfer that is cut.
use Rattle.std.proofs.Common.{◌≡◌, ℕ, Bool, true, false, List, [], Option, Some, length, take, nat_le, refl, sym, arith, leb-false}
use Rattle.std.specs.Prelude.{if◌then◌else◌}
use Rattle.std.proofs.lemmas.List.{take_all}
use Rattle.ftp_operation.specs.Answer.{Octets, Broken}
use Rattle.ftp_operation.specs.declared.op.Op.{Op}
use Rattle.ftp_operation.specs.declared.op.Op.TheVariants as Ops
use Rattle.ftp_wire.specs.Decoder.{Decoder}
use Rattle.ftp_client_model.specs.Telling.{came_in, octets_answered}
use Rattle.ftp_client_model.specs.View.{Sending, Receiving}
use Rattle.ftp_client_transfer.specs.Octets.{cut_octets}

-- a Peek that has not enough keeps all of it
front_is : (enough : Bool) (count : ℕ) (octets : List ℕ) (mark : Option ℕ) → nat_le count (length octets) ≡ enough
    → take count octets ≡ octets_answered (if enough then Some (Octets (take count octets)) else Some (Broken octets mark))
front_is true count octets mark is = refl
front_is false count octets mark is = take_all count octets (omega (arith, leb-false count (length octets) is))

-- what the octets of a download come to where it is cut
pub cut_came : (op : Op (List ℕ)) (d : Decoder) (mark : Option ℕ) → cut_octets op d.content ≡ came_in op (Receiving d mark)
cut_came Ops.Where d mark = refl
cut_came (Ops.ChangeDir path) d mark = refl
cut_came Ops.Up d mark = refl
cut_came (Ops.MakeDir path) d mark = refl
cut_came (Ops.RemoveDir path) d mark = refl
cut_came (Ops.Delete path) d mark = refl
cut_came (Ops.Rename from to) d mark = refl
cut_came (Ops.Put path octets how) d mark = refl
cut_came (Ops.Append path octets how) d mark = refl
cut_came (Ops.PutFrom path offset octets how) d mark = refl
cut_came (Ops.Get path how) d mark = refl
cut_came (Ops.GetFrom path offset how) d mark = refl
cut_came (Ops.Peek path count how) d mark = front_is (nat_le count (length d.content)) count d.content mark refl
cut_came (Ops.Size path how) d mark = refl
cut_came (Ops.Modified path) d mark = refl
cut_came (Ops.Facts path) d mark = refl
cut_came (Ops.List path how) d mark = refl
cut_came (Ops.Names path how) d mark = refl
cut_came (Ops.Text verb path how) d mark = refl

-- nor has one that got nothing
none_is : (enough : Bool) (count : ℕ) (mark : Option ℕ) → [] ≡ octets_answered (if enough then Some (Octets (take count [])) else Some (Broken [] mark))
none_is true count mark = sym (take_all count [] (omega arith))
none_is false count mark = refl

-- nothing comes of an upload
pub none_came : (op : Op (List ℕ)) (left : List ℕ) (mark : Option ℕ) → [] ≡ came_in op (Sending left mark)
none_came Ops.Where left mark = refl
none_came (Ops.ChangeDir path) left mark = refl
none_came Ops.Up left mark = refl
none_came (Ops.MakeDir path) left mark = refl
none_came (Ops.RemoveDir path) left mark = refl
none_came (Ops.Delete path) left mark = refl
none_came (Ops.Rename from to) left mark = refl
none_came (Ops.Put path octets how) left mark = refl
none_came (Ops.Append path octets how) left mark = refl
none_came (Ops.PutFrom path offset octets how) left mark = refl
none_came (Ops.Get path how) left mark = refl
none_came (Ops.GetFrom path offset how) left mark = refl
none_came (Ops.Peek path count how) left mark = none_is (nat_le count 0) count mark
none_came (Ops.Size path how) left mark = refl
none_came (Ops.Modified path) left mark = refl
none_came (Ops.Facts path) left mark = refl
none_came (Ops.List path how) left mark = refl
none_came (Ops.Names path how) left mark = refl
none_came (Ops.Text verb path how) left mark = refl
