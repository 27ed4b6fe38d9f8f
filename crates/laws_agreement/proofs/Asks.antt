-- What each operation asks for that has a link.
use Rattle.std.proofs.Common.{◌≡◌, ◌≤◌, ℕ, true, List, Some, None, refl}
use Rattle.ftp_operation.specs.Operation.{can_be_sent}
use Rattle.ftp_operation.specs.declared.op.Op.{Op}
use Rattle.ftp_operation.specs.declared.op.Op.TheVariants as Ops
use Rattle.laws_dialogues.specs.Fetches.{Ask, IsAsk, IsFetch, IsStore, IsTimely, download_ask, list_ask, names_ask, text_ask}
use Rattle.laws_dialogues.specs.Peeks.{peek_ask}
use Rattle.ftp_tree.specs.Sound.{last_second}
use Rattle.laws_dialogues.specs.Uploads.{Anew, Behind, From, upload_ask}
use Rattle.laws_dialogues.proofs.Uploads.{upload_is_ask}
use Rattle.laws_agreement.proofs.Downloads.{download_is_ask}
use Rattle.laws_agreement.proofs.PeekAsks.{peek_is_ask}
use Rattle.laws_dialogues.proofs.Listings.{list_is_ask, names_is_ask, text_is_ask}

-- an operation that is begun at a moment, as what it asks for
pub record IsAskOf (op : Op (List ℕ)) (moment : ℕ) : Type 0 where
  pub ask : Ask
  pub good : IsAsk ask
  pub op_is : op ≡ ask.op
  pub timely : IsTimely ask.sends moment

-- an operation that fetches and can be sent is what some good ask asks for
pub ask_of : (op : Op (List ℕ)) (moment : ℕ) → IsFetch op → can_be_sent op ≡ true → IsAskOf op moment
ask_of (Ops.Get text how) moment fetches can = record { ask = download_ask None text how; good = download_is_ask None text how can; op_is = refl; timely = tt }
ask_of (Ops.GetFrom text at how) moment fetches can =
    record { ask = download_ask (Some at) text how; good = download_is_ask (Some at) text how can; op_is = refl; timely = tt }
ask_of (Ops.Peek text count how) moment fetches can =
    record { ask = peek_ask text count how; good = peek_is_ask text count how can; op_is = refl; timely = tt }
ask_of (Ops.List text how) moment fetches can = record { ask = list_ask text how; good = list_is_ask text how can; op_is = refl; timely = tt }
ask_of (Ops.Names text how) moment fetches can = record { ask = names_ask text how; good = names_is_ask text how can; op_is = refl; timely = tt }
ask_of (Ops.Text verb text how) moment fetches can = record { ask = text_ask verb text how; good = text_is_ask verb text how can; op_is = refl; timely = tt }
ask_of op moment fetches can = absurd fetches

-- so is an upload
pub store_of : (op : Op (List ℕ)) (moment : ℕ) → IsStore op → can_be_sent op ≡ true → moment ≤ last_second → IsAskOf op moment
store_of (Ops.Put text octets how) moment plain can dated =
    record { ask = upload_ask Anew text octets how moment; good = upload_is_ask Anew text octets how moment can dated; op_is = refl; timely = refl }
store_of (Ops.Append text octets how) moment plain can dated =
    record { ask = upload_ask Behind text octets how moment; good = upload_is_ask Behind text octets how moment can dated; op_is = refl; timely = refl }
store_of (Ops.PutFrom text at octets how) moment plain can dated =
    record { ask = upload_ask (From at) text octets how moment; good = upload_is_ask (From at) text octets how moment can dated; op_is = refl; timely = refl }
store_of op moment plain can dated = absurd plain
