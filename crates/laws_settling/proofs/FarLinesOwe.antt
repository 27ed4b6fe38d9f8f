-- What the server comes to owe by a line stands behind what it owed, and asks nothing.
use Rattle.std.proofs.Common.{◌≡◌, ℕ, List, [], ◌++◌, Option, Some, None, refl, sym, ap, subst, ◌∙◌, take, drop, append-nil, append_assoc}
use Rattle.std.proofs.lemmas.Bool.{cond_both}
use Rattle.std.proofs.lemmas.List.{take-append-drop}
use Rattle.ftp_nvt.specs.declared.telnet.TelnetState.{TelnetState}
use Rattle.ftp_ends.specs.Reply.{Reply, reply_octets}
use Rattle.ftp_server_model.specs.Act.{decided}
use Rattle.ftp_server_model.specs.Calls.{control_step, gives_control}
use Rattle.ftp_server_model.specs.Machine.{completed, given_out, is_idle, later, obeyed, turned, waited}
use Rattle.ftp_server_model.specs.Replies.{Turn, fixed_reply, octets_if_any, reply_said, said_octets}
use Rattle.ftp_server_model.specs.View.{Transfer, View}
use Rattle.ftp_server_model.specs.declared.heard.HeardLine.{HeardLine}
use Rattle.ftp_server_model.specs.declared.reply.FixedReply.TheVariants as Texts
use Rattle.ftp_server_model.specs.declared.session.ServerLink.{ServerLink}
use Rattle.ftp_server_model.specs.declared.session.ServerLink.TheVariants as Data
use Rattle.ftp_server_model.specs.declared.session.Pending.TheVariants as Pendings
use Rattle.ftp_server_model.specs.declared.session.Transfer.TheVariants as Transfers
use Rattle.laws_settling.specs.Steady.{AskNothing}
use Rattle.laws_settling.proofs.Asking.{Calm, ask_more, calm_nil, calm_reply}
use Rattle.ftp_nvt.specs.declared.telnet.TelnetState.TheVariants as At

-- more is owed, behind what was
pub record Grows (old new : View) : Type 0 where
  pub more : List ℕ
  pub calm : Calm more
  pub is : new.owed ≡ old.owed ++ more

-- nothing more is owed
pub grows_none : (old new : View) → new.owed ≡ old.owed → Grows old new
grows_none old new is = record { more = []; calm = calm_nil; is = is ∙ sym (append-nil old.owed) }

-- what is owed of two steps
pub grows_then : (a b c : View) → Grows a b → Grows b c → Grows a c
grows_then a b c one other = record {
  more = one.more ++ other.more;
  calm = ask_more At.Between one.more other.more one.calm other.calm;
  is = other.is ∙ ap (λ octets. octets ++ other.more) one.is ∙ append_assoc a.owed one.more other.more;
}

-- a reply, if there is one
calm_any : (reply : Option Reply) → Calm (octets_if_any reply)
calm_any None = calm_nil
calm_any (Some reply) = calm_reply reply

-- a turn
pub turned_grows : (turn : Turn) (v : View) → Grows v (turned turn v)
turned_grows turn v = record { more = said_octets turn.0 turn.1; calm = calm_any (reply_said turn.0 turn.1); is = refl }

-- a reply that is owed
pub said_grows : (reply : Reply) (old new : View) → new.owed ≡ old.owed ++ reply_octets reply → Grows old new
said_grows reply old new is = record { more = reply_octets reply; calm = calm_reply reply; is = is }

-- a download or a listing whose last octet was given
given_out_grows : (connection : ServerLink Transfer) (v : View) → Grows v (given_out connection v)
given_out_grows (Data.Transferring (Transfers.Download [])) v = said_grows (fixed_reply Texts.Complete) v _ refl
given_out_grows (Data.Transferring (Transfers.Listing [])) v = said_grows (fixed_reply Texts.Complete) v _ refl
given_out_grows connection v = grows_none v v refl

-- the same, of what stands
pub completed_grows : (v : View) → Grows v (completed v)
completed_grows v = given_out_grows v.session.connection v

-- a line is acted on
obeyed_grows : (heard : HeardLine (List ℕ)) (v : View) → Grows v (obeyed heard v)
unfolding obeyed
obeyed_grows heard v =
    let turn : Turn = decided v.context heard v.session.pending (record v.session { pending = Pendings.Nothing }) in
    grows_then v (turned turn v) (completed (turned turn v)) (turned_grows turn v) (completed_grows (turned turn v))

-- a line that waits
waited_grows : (waiting : Option (HeardLine (List ℕ))) (v : View) → Grows v (waited waiting v)
waited_grows None v = grows_none v v refl
waited_grows (Some heard) v =
    cond_both (is_idle v) _ _ (Grows v)
    (λ is. let g = obeyed_grows heard (record v { waiting = None }) in record { more = g.more; calm = g.calm; is = g.is })
    (λ is. grows_none v v refl)

-- what follows every call: the line that waits
pub later_grows : (v : View) → Grows v (later v)
later_grows v = waited_grows v.waiting v

-- ---- octets that go out

-- what is on its way and what is owed ask nothing, also where octets of it go out
pub out_asks : (at : TelnetState) (queue : List ℕ) (count : ℕ) (v : View) → AskNothing at (queue ++ v.owed)
    → AskNothing at ((queue ++ take count v.owed) ++ (gives_control count v).owed)
unfolding gives_control
out_asks at queue count v asks =
    let g = later_grows (control_step count v) in
    let whole = ask_more at (queue ++ v.owed) g.more asks g.calm in
    let same : (queue ++ v.owed) ++ g.more ≡ (queue ++ take count v.owed) ++ (later (control_step count v)).owed =
    ap (λ owed. (queue ++ owed) ++ g.more) (sym (take-append-drop count v.owed))
    ∙ ap (λ octets. octets ++ g.more) (sym (append_assoc queue (take count v.owed) (drop count v.owed)))
    ∙ append_assoc (queue ++ take count v.owed) (drop count v.owed) g.more
    ∙ ap (λ owed. (queue ++ take count v.owed) ++ owed) (sym g.is) in
    subst (AskNothing at) same whole
