-- Every operation is one of three kinds, and each kind has its own proof.
use Rattle.std.proofs.Common.{◌⊎◌, ℕ, List, inl, inr, refl}
use Rattle.ftp_operation.specs.declared.op.Op.{Op}
use Rattle.ftp_operation.specs.declared.op.Op.TheVariants as Ops
use Rattle.laws_dialogues.specs.Dialogue.{HasNoTransfer}
use Rattle.laws_dialogues.specs.Fetches.{IsFetch, IsStore}

-- it has no transfer, is a download, a Peek or a listing, or is an upload
pub three_kinds : (op : Op (List ℕ)) → HasNoTransfer op ⊎ IsFetch op ⊎ IsStore op
three_kinds Ops.Where = inl refl
three_kinds (Ops.ChangeDir path) = inl refl
three_kinds Ops.Up = inl refl
three_kinds (Ops.MakeDir path) = inl refl
three_kinds (Ops.RemoveDir path) = inl refl
three_kinds (Ops.Delete path) = inl refl
three_kinds (Ops.Rename from to) = inl refl
three_kinds (Ops.Put path octets how) = inr (inr tt)
three_kinds (Ops.Append path octets how) = inr (inr tt)
three_kinds (Ops.PutFrom path offset octets how) = inr (inr tt)
three_kinds (Ops.Get path how) = inr (inl tt)
three_kinds (Ops.GetFrom path offset how) = inr (inl tt)
three_kinds (Ops.Peek path count how) = inr (inl tt)
three_kinds (Ops.Size path how) = inl refl
three_kinds (Ops.Modified path) = inl refl
three_kinds (Ops.Facts path) = inl refl
three_kinds (Ops.List path how) = inr (inl tt)
three_kinds (Ops.Names path how) = inr (inl tt)
three_kinds (Ops.Text verb path how) = inr (inl tt)
