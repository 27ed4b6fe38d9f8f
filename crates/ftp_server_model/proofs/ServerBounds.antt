-- No call of the server that takes no octets makes more to do.
use Rattle.std.proofs.Common.{◌≡◌, ℕ, ◌+◌, ◌<◌, ◌≤◌, ◌⊎◌, inl, inr, List, [], ◌∷◌, ◌++◌, Bool, true, false, Option, Some, None, refl, sym, ap, subst, ◌∙◌, append-nil, arith, length}
use Rattle.std.specs.Prelude.{if◌then◌else◌}
use Rattle.std.proofs.lemmas.Bool.{cond_both}
use Rattle.std.proofs.lemmas.List.{length-drop}
use Rattle.ftp_ends.specs.Link.{same_host}
use Rattle.ftp_server_model.specs.Calls.{connection_of, given_by, to_give, listening_turn, unheard, port_opens_for, opens, refuses, takes_given, ends, breaks, control_end, clock_step, control_step, listening_step, no_port_step, opened_step, refused_step, end_step, break_step, close_step, given_step, with_connection}
use Rattle.ftp_server_model.specs.Endpoint.{is_standing, disconnected}
use Rattle.ftp_server_model.specs.Failing.{LineFails, WaitingFails, Late, InstallFails, install_lost, Ended, Given}
use Rattle.ftp_server_model.specs.Machine.{given_out, completed, obeyed, waited, later, is_idle, turned, concluded, faulted, Ending, end_refusal, ends_by, installs, at_break, at_end, breaks_off}
use Rattle.ftp_server_model.specs.View.{Session, Transfer, View}
use Rattle.ftp_server_model.specs.declared.session.Keep.{Keep}
use Rattle.ftp_direct.specs.declared.refusal.Refusal.{Refusal}
use Rattle.ftp_path.specs.Path.{Names}
use Rattle.ftp_wire.specs.Decoder.{Decoder, broken, ended, is_whole}
use Rattle.ftp_server_model.specs.declared.reply.FixedReply.{FixedReply}
use Rattle.ftp_server_model.specs.declared.reply.FixedReply.TheVariants as Texts
use Rattle.ftp_server_model.specs.Bounds.{lines_left, stages_left, to_begin, Lowers, ServerLowers}
use Rattle.ftp_server_model.specs.declared.heard.HeardLine.{HeardLine}
use Rattle.ftp_server_model.specs.declared.heard.HeardLine.TheVariants.{TooLong, Bad, Asks}
use Rattle.ftp_server_model.specs.declared.session.PassiveVerb.TheVariants as Asking
use Rattle.ftp_server_model.specs.declared.session.ServerLink.{ServerLink}
use Rattle.ftp_server_model.specs.declared.session.ServerLink.TheVariants as Data
use Rattle.ftp_server_model.specs.declared.session.Transfer.TheVariants as Transfers
use Rattle.ftp_server_model.specs.declared.session.Way.TheVariants as Ways
use Rattle.ftp_ends.proofs.Counts.{one_if, one_close}
use Rattle.ftp_server_model.specs.Keep.{is_overtaken}

-- ---- steps one after another

pub same : (v : View) → Lowers 0 v v
same v = record { begins = omega arith; gives = inr (omega arith) }

-- less is to begin
falls : (count : ℕ) (old new : View) → to_begin new < to_begin old → Lowers count old new
falls count old new less = record { begins = omega (arith, less); gives = inl less }

then_falls : (count : ℕ) (old mid new : View) → Lowers count old mid → to_begin new < to_begin mid → Lowers count old new
then_falls count old mid new one less = falls count old new (omega (arith, one.begins, less))

-- ---- the line that waits

few_stages : (connection : ServerLink Transfer) → stages_left connection ≤ 3
few_stages Data.Free = omega arith
few_stages (Data.Active endpoint) = omega arith
few_stages (Data.Asked asked) = omega arith
few_stages Data.Passive = omega arith
few_stages (Data.Opening transfer way) = omega arith
few_stages Data.Ready = omega arith
few_stages (Data.Transferring transfer) = omega arith

given_out_waits : (connection : ServerLink Transfer) (v : View) → (given_out connection v).waiting ≡ v.waiting
given_out_waits (Data.Transferring (Transfers.Download [])) v = refl
given_out_waits (Data.Transferring (Transfers.Download (octet ∷ rest))) v = refl
given_out_waits (Data.Transferring (Transfers.Listing [])) v = refl
given_out_waits (Data.Transferring (Transfers.Listing (octet ∷ rest))) v = refl
given_out_waits (Data.Transferring (Transfers.Upload path keep d)) v = refl
given_out_waits (Data.Transferring Transfers.OverLimit) v = refl
given_out_waits (Data.Asked asked) v = refl
given_out_waits (Data.Opening transfer way) v = refl
given_out_waits Data.Free v = refl
given_out_waits (Data.Active endpoint) v = refl
given_out_waits Data.Passive v = refl
given_out_waits Data.Ready v = refl

obeyed_waits : (heard : HeardLine (List ℕ)) (v : View) → (obeyed heard v).waiting ≡ v.waiting
unfolding obeyed
obeyed_waits heard v = given_out_waits _ _

-- nothing waits any more, where something did
acted_on : (old new : View) (heard : HeardLine (List ℕ)) → old.waiting ≡ Some heard → new.waiting ≡ None → to_begin new < to_begin old
acted_on old new heard was is =
    let before : lines_left old.waiting ≡ 1 = ap lines_left was in
    let behind : lines_left new.waiting ≡ 0 = ap lines_left is in
    omega (arith, before, behind, few_stages new.session.connection)

pub waited_cases : (waiting : Option (HeardLine (List ℕ))) (v : View) → v.waiting ≡ waiting → (to_begin (waited waiting v) < to_begin v) ⊎ (waited waiting v ≡ v)
waited_cases None v is = inr refl
waited_cases (Some heard) v is = by_idle (is_idle v)
  where
    by_idle : (idle : Bool)
        → (to_begin (if idle then obeyed heard (record v { waiting = None }) else v) < to_begin v) ⊎ ((if idle then obeyed heard (record v { waiting = None }) else v) ≡ v)
    by_idle true = inl (acted_on v (obeyed heard (record v { waiting = None })) heard is (obeyed_waits heard (record v { waiting = None })))
    by_idle false = inr refl

lost_waits : (heard : HeardLine (List ℕ)) (v w : View) → LineFails heard (record v { waiting = None }) w → w.waiting ≡ None
lost_waits TooLong v w fails = absurd fails
lost_waits (Bad fault) v w fails = absurd fails
lost_waits (Asks command) v w fails = ap (λ (x : View). x.waiting) fails.2

fails_case : (waiting : Option (HeardLine (List ℕ))) (v w : View) → v.waiting ≡ waiting → WaitingFails waiting v w → to_begin w < to_begin v
fails_case None v w is fails = absurd fails
fails_case (Some heard) v w is fails = acted_on v w heard is (lost_waits heard v w fails.1)

late_lowers : (count : ℕ) (old step new : View) → Lowers count old step → Late step new → Lowers count old new
late_lowers count old step new one (inl is) =
    let P : View → Type 0 = Lowers count old in
    subst P (sym is) (elim (waited_cases step.waiting step refl) [
      | inl less ↦ then_falls count old step (later step) one less
      | inr e ↦ subst P (sym e) one
    ])
late_lowers count old step new one (inr fails) = then_falls count old step new one (fails_case step.waiting step new refl fails)

-- ---- the link

-- another link stands, nothing else that counts but what is owed is another, and less is to begin
link_falls : (count : ℕ) (old new : View) (connection : ServerLink Transfer) → old.session.connection ≡ connection → new.waiting ≡ old.waiting → stages_left new.session.connection < stages_left connection
    → Lowers count old new
link_falls count old new connection is waits less =
    let here : stages_left old.session.connection ≡ stages_left connection = ap stages_left is in
    let lines : lines_left new.waiting ≡ lines_left old.waiting = ap lines_left waits in
    falls count old new (omega (arith, here, lines, less))

given_out_lowers : (count : ℕ) (old v : View) (connection : ServerLink Transfer) → v.session.connection ≡ connection → Lowers count old v → Lowers count old (given_out connection v)
given_out_lowers count old v (Data.Transferring (Transfers.Download [])) is one = ended v is one
  where
    ended : (v : View) → v.session.connection ≡ Data.Transferring (Transfers.Download []) → Lowers count old v → Lowers count old (given_out (Data.Transferring (Transfers.Download [])) v)
    ended v is one = let here : stages_left v.session.connection ≡ 1 = ap stages_left is in then_falls count old v _ one (omega (arith, here))
given_out_lowers count old v (Data.Transferring (Transfers.Listing [])) is one = ended v is one
  where
    ended : (v : View) → v.session.connection ≡ Data.Transferring (Transfers.Listing []) → Lowers count old v → Lowers count old (given_out (Data.Transferring (Transfers.Listing [])) v)
    ended v is one = let here : stages_left v.session.connection ≡ 1 = ap stages_left is in then_falls count old v _ one (omega (arith, here))
given_out_lowers count old v (Data.Transferring (Transfers.Download (octet ∷ rest))) is one = one
given_out_lowers count old v (Data.Transferring (Transfers.Listing (octet ∷ rest))) is one = one
given_out_lowers count old v (Data.Transferring (Transfers.Upload path keep d)) is one = one
given_out_lowers count old v (Data.Transferring Transfers.OverLimit) is one = one
given_out_lowers count old v (Data.Asked asked) is one = one
given_out_lowers count old v (Data.Opening transfer way) is one = one
given_out_lowers count old v Data.Free is one = one
given_out_lowers count old v (Data.Active endpoint) is one = one
given_out_lowers count old v Data.Passive is one = one
given_out_lowers count old v Data.Ready is one = one

pub completed_lowers : (count : ℕ) (old v : View) → Lowers count old v → Lowers count old (completed v)
completed_lowers count old v one = given_out_lowers count old v v.session.connection refl one

-- while a close is wanted, a call finds no link; else it finds the one that stands
pub data Finds (v : View) : Type 0 where
  nothing : connection_of v.session ≡ Data.Free → Finds v
  that : connection_of v.session ≡ v.session.connection → Finds v

pub finds : (v : View) → Finds v
finds v = by_closing v.session.closing refl
  where
    by_closing : (closing : Bool) → v.session.closing ≡ closing → Finds v
    by_closing true is = nothing (rw is refl)
    by_closing false is = that (rw is refl)

by_link : (count : ℕ) (v : View) (f : ServerLink Transfer → View → View) → Lowers count v (f Data.Free v) → Lowers count v (f v.session.connection v) → Lowers count v (f (connection_of v.session) v)
by_link count v f none one =
    by_case (finds v)
  where
    by_case : Finds v → Lowers count v (f (connection_of v.session) v)
    by_case (nothing e) = (let P : ServerLink Transfer → Type 0 = λ connection. Lowers count v (f connection v) in subst P (sym e) none)
    by_case (that e) = (let P : ServerLink Transfer → Type 0 = λ connection. Lowers count v (f connection v) in subst P (sym e) one)

-- ---- the calls of the link

unsaid : (v : View) → Lowers 0 v (record v { owed = v.owed ++ [] })
unsaid v = let none : length (v.owed ++ []) ≡ length v.owed = ap length (append-nil v.owed) in record { begins = omega arith; gives = inr (omega (arith, none)) }

told_lowers : (port : ℕ) (connection : ServerLink Transfer) (v : View) → v.session.connection ≡ connection → Lowers 0 v (turned (listening_turn connection v.context port v.session) v)
told_lowers port (Data.Asked Asking.Pasv) v is = link_falls 0 v _ (Data.Asked Asking.Pasv) is refl (omega arith)
told_lowers port (Data.Asked Asking.Epsv) v is = link_falls 0 v _ (Data.Asked Asking.Epsv) is refl (omega arith)
told_lowers port Data.Free v is = unsaid v
told_lowers port (Data.Active endpoint) v is = unsaid v
told_lowers port Data.Passive v is = unsaid v
told_lowers port (Data.Opening transfer way) v is = unsaid v
told_lowers port Data.Ready v is = unsaid v
told_lowers port (Data.Transferring transfer) v is = unsaid v

unheard_lowers : (connection : ServerLink Transfer) (v : View) → v.session.connection ≡ connection → Lowers 0 v (unheard connection v)
unheard_lowers (Data.Asked asked) v is = link_falls 0 v (unheard (Data.Asked asked) v) (Data.Asked asked) is refl (omega arith)
unheard_lowers Data.Free v is = same v
unheard_lowers (Data.Active endpoint) v is = same v
unheard_lowers Data.Passive v is = same v
unheard_lowers (Data.Opening transfer way) v is = same v
unheard_lowers Data.Ready v is = same v
unheard_lowers (Data.Transferring transfer) v is = same v

opens_lowers : (connection : ServerLink Transfer) (is_peer : Bool) (v : View) → v.session.connection ≡ connection → Lowers 0 v (opens connection is_peer v)
opens_lowers Data.Passive true v is = link_falls 0 v (opens Data.Passive true v) Data.Passive is refl (omega arith)
opens_lowers Data.Passive false v is = link_falls 0 v (opens Data.Passive false v) Data.Passive is refl (omega arith)
opens_lowers (Data.Opening transfer Ways.Accept) true v is = link_falls 0 v (port_opens_for true transfer v) (Data.Opening transfer Ways.Accept) is refl (omega arith)
opens_lowers (Data.Opening transfer Ways.Accept) false v is = link_falls 0 v (port_opens_for false transfer v) (Data.Opening transfer Ways.Accept) is refl (omega arith)
opens_lowers (Data.Opening transfer (Ways.Connect endpoint)) is_peer v is = link_falls 0 v (port_opens_for true transfer v) (Data.Opening transfer (Ways.Connect endpoint)) is refl (omega arith)
opens_lowers Data.Free is_peer v is = same v
opens_lowers (Data.Active endpoint) is_peer v is = same v
opens_lowers (Data.Asked asked) is_peer v is = same v
opens_lowers Data.Ready is_peer v is = same v
opens_lowers (Data.Transferring transfer) is_peer v is = same v

refuses_lowers : (connection : ServerLink Transfer) (v : View) → v.session.connection ≡ connection → Lowers 0 v (refuses connection v)
refuses_lowers Data.Passive v is = link_falls 0 v (refuses Data.Passive v) Data.Passive is refl (omega arith)
refuses_lowers (Data.Opening transfer way) v is = link_falls 0 v (refuses (Data.Opening transfer way) v) (Data.Opening transfer way) is refl (omega arith)
refuses_lowers Data.Free v is = same v
refuses_lowers (Data.Active endpoint) v is = same v
refuses_lowers (Data.Asked asked) v is = same v
refuses_lowers Data.Ready v is = same v
refuses_lowers (Data.Transferring transfer) v is = same v

-- the end of a transfer leaves the data connection as it was before
installs_gone : (moment : ℕ) (path : Names) (keep : Keep) (d : Decoder) (text : FixedReply) (s : Session)
    → (installs moment path keep d text s).0.connection ≡ s.connection
installs_gone moment path keep d text s = by_why (end_refusal path keep d.content s)
  where
    by_why : (why : Option Refusal) → (ends_by why moment path keep d.content text s).0.connection ≡ s.connection
    by_why None = refl
    by_why (Some why) = refl

pub break_gone : (moment : ℕ) (transfer : Transfer) (s : Session) → (at_break moment transfer s).0.connection ≡ s.connection
break_gone moment (Transfers.Upload path keep d) s = by (is_overtaken keep)
  where
    by : (late : Bool) → (breaks_off late moment path keep d s).0.connection ≡ s.connection
    by true = refl
    by false = installs_gone moment path keep (broken d) Texts.Broken s
break_gone moment Transfers.OverLimit s = refl
break_gone moment (Transfers.Download rest) s = refl
break_gone moment (Transfers.Listing rest) s = refl

pub end_gone : (moment : ℕ) (transfer : Transfer) (s : Session) → (at_end moment transfer s).0.connection ≡ s.connection
end_gone moment (Transfers.Upload path keep d) s = by_whole (is_whole d)
  where
    by_whole : (whole : Bool)
        → (let ending : Ending = if whole then installs moment path keep (ended d) Texts.Complete s else at_break moment (Transfers.Upload path keep d) s in
        ending.0.connection ≡ s.connection)
    by_whole true = installs_gone moment path keep (ended d) Texts.Complete s
    by_whole false = break_gone moment (Transfers.Upload path keep d) s
end_gone moment Transfers.OverLimit s = refl
end_gone moment (Transfers.Download rest) s = refl
end_gone moment (Transfers.Listing rest) s = refl

-- so nothing is left of one that is gone
concluded_lowers : (ending : Ending) (transfer : Transfer) (v : View) → v.session.connection ≡ Data.Transferring transfer → ending.0.connection ≡ Data.Free
    → Lowers 0 v (concluded ending v)
concluded_lowers ending transfer v is gone =
    let none : stages_left ending.0.connection ≡ 0 = ap stages_left gone in
    link_falls 0 v (concluded ending v) (Data.Transferring transfer) is refl (omega (arith, none))

ends_lowers : (connection : ServerLink Transfer) (v : View) → v.session.connection ≡ connection → Lowers 0 v (ends connection v)
ends_lowers Data.Ready v is = link_falls 0 v (ends Data.Ready v) Data.Ready is refl (omega arith)
ends_lowers (Data.Transferring transfer) v is =
    concluded_lowers (at_end v.context.moment transfer (disconnected v.session)) transfer v is (end_gone v.context.moment transfer (disconnected v.session))
ends_lowers Data.Free v is = same v
ends_lowers (Data.Active endpoint) v is = same v
ends_lowers (Data.Asked asked) v is = same v
ends_lowers Data.Passive v is = same v
ends_lowers (Data.Opening transfer way) v is = same v

breaks_lowers : (connection : ServerLink Transfer) (v : View) → v.session.connection ≡ connection → Lowers 0 v (breaks connection v)
breaks_lowers Data.Ready v is = link_falls 0 v (breaks Data.Ready v) Data.Ready is refl (omega arith)
breaks_lowers (Data.Transferring transfer) v is =
    concluded_lowers (at_break v.context.moment transfer (disconnected v.session)) transfer v is (break_gone v.context.moment transfer (disconnected v.session))
breaks_lowers Data.Free v is = same v
breaks_lowers (Data.Active endpoint) v is = same v
breaks_lowers (Data.Asked asked) v is = same v
breaks_lowers Data.Passive v is = same v
breaks_lowers (Data.Opening transfer way) v is = same v

-- an upload that could not be installed
install_falls : (connection : ServerLink Transfer) (v w : View) → v.session.connection ≡ connection → InstallFails connection v w → Lowers 0 v w
install_falls (Data.Transferring (Transfers.Upload path keep d)) v w is fails =
    late_lowers 0 v (install_lost (record v.session { connection = Data.Free }) v) w
    (link_falls 0 v (install_lost (record v.session { connection = Data.Free }) v) (Data.Transferring (Transfers.Upload path keep d)) is refl (omega arith)) fails
install_falls (Data.Transferring Transfers.OverLimit) v w is fails = absurd fails
install_falls (Data.Transferring (Transfers.Download rest)) v w is fails = absurd fails
install_falls (Data.Transferring (Transfers.Listing rest)) v w is fails = absurd fails
install_falls Data.Free v w is fails = absurd fails
install_falls (Data.Active endpoint) v w is fails = absurd fails
install_falls (Data.Asked asked) v w is fails = absurd fails
install_falls Data.Passive v w is fails = absurd fails
install_falls (Data.Opening transfer way) v w is fails = absurd fails
install_falls Data.Ready v w is fails = absurd fails

end_fails : (v w : View) → InstallFails (connection_of v.session) v w → Lowers 0 v w
end_fails v w fails = by_case (finds v)
  where
    by_case : Finds v → Lowers 0 v w
    by_case (nothing e) = absurd (let P : ServerLink Transfer → Type 0 = λ connection. InstallFails connection v w in subst P e fails)
    by_case (that e) = install_falls v.session.connection v w refl (let P : ServerLink Transfer → Type 0 = λ connection. InstallFails connection v w in subst P e fails)

ended_lowers : (step v w : View) → Lowers 0 v step → Ended step v w → Lowers 0 v w
ended_lowers step v w one (inl fails) = end_fails v w fails
ended_lowers step v w one (inr late) = late_lowers 0 v step w one late

-- ---- octets that are given

none_given : (count : ℕ) (v : View) → count ≤ 0 → Lowers count v v
none_given count v none = record { begins = omega arith; gives = inr (omega (arith, none)) }

-- a part of the octets of a link was given, and it still moves
given_lowers : (count : ℕ) (v new : View) (connection : ServerLink Transfer) → v.session.connection ≡ connection → count ≤ length (given_by connection) → is_standing connection ≡ true → stages_left connection ≡ 1
    → new.waiting ≡ v.waiting → new.owed ≡ v.owed → new.session.closing ≡ v.session.closing
    → stages_left new.session.connection ≡ 1 → is_standing new.session.connection ≡ true → length (given_by new.session.connection) + count ≤ length (given_by connection)
    → Lowers count v new
given_lowers count v new connection is few stands one waits owed closing stage standing fewer =
    let a : stages_left v.session.connection ≡ 1 = ap stages_left is ∙ one in
    let b : lines_left new.waiting ≡ lines_left v.waiting = ap lines_left waits in
    let c : length new.owed ≡ length v.owed = ap length owed in
    let d : length (given_by v.session.connection) ≡ length (given_by connection) = ap (λ l. length (given_by l)) is in
    let e : one_if new.session.closing ≡ one_if v.session.closing = ap one_if closing in
    let f : one_if (is_standing new.session.connection) ≡ 1 = ap one_if standing in
    let g : one_if (is_standing v.session.connection) ≡ 1 = ap one_if (ap is_standing is ∙ stands) in
    record { begins = omega (arith, a, b, stage); gives = inr (omega (arith, c, d, e, f, g, fewer)) }

takes_given_lowers : (count : ℕ) (connection : ServerLink Transfer) (v : View) → v.session.connection ≡ connection → count ≤ length (given_by connection) → Lowers count v (takes_given connection count v)
takes_given_lowers count (Data.Transferring (Transfers.Download rest)) v is few =
    given_lowers count v (takes_given (Data.Transferring (Transfers.Download rest)) count v) (Data.Transferring (Transfers.Download rest)) is few refl refl refl refl refl refl refl
    (omega (arith, length-drop count rest, few))
takes_given_lowers count (Data.Transferring (Transfers.Listing rest)) v is few =
    given_lowers count v (takes_given (Data.Transferring (Transfers.Listing rest)) count v) (Data.Transferring (Transfers.Listing rest)) is few refl refl refl refl refl refl refl
    (omega (arith, length-drop count rest, few))
takes_given_lowers count (Data.Transferring (Transfers.Upload path keep d)) v is few = none_given count v few
takes_given_lowers count (Data.Transferring Transfers.OverLimit) v is few = none_given count v few
takes_given_lowers count Data.Free v is few = none_given count v few
takes_given_lowers count (Data.Active endpoint) v is few = none_given count v few
takes_given_lowers count (Data.Asked asked) v is few = none_given count v few
takes_given_lowers count Data.Passive v is few = none_given count v few
takes_given_lowers count (Data.Opening transfer way) v is few = none_given count v few
takes_given_lowers count Data.Ready v is few = none_given count v few

pub given_step_lowers : (count : ℕ) (v : View) → count ≤ length (given_by (connection_of v.session)) → Lowers count v (takes_given (connection_of v.session) count v)
given_step_lowers count v few = by_case (finds v)
  where
    by_case : Finds v → Lowers count v (takes_given (connection_of v.session) count v)
    by_case (nothing e) =
        let P : ServerLink Transfer → Type 0 = λ connection. Lowers count v (takes_given connection count v) in
        let none : count ≤ 0 = (let Q : ServerLink Transfer → Type 0 = λ connection. count ≤ length (given_by connection) in subst Q e few) in
        subst P (sym e) (none_given count v none)
    by_case (that e) =
        let P : ServerLink Transfer → Type 0 = λ connection. Lowers count v (takes_given connection count v) in
        let Q : ServerLink Transfer → Type 0 = λ connection. count ≤ length (given_by connection) in
        subst P (sym e) (takes_given_lowers count v.session.connection v refl (subst Q e few))

-- more is to be given than that: a transfer stands, and nothing but what is left of it is another
pub record GivesMore (count : ℕ) (connection : ServerLink Transfer) (v : View) : Type 0 where
  pub transfer : Transfer
  pub left : ServerLink Transfer
  pub stood : v.session.connection ≡ Data.Transferring transfer
  pub gives : takes_given connection count v ≡ with_connection left v

link_gives_more : (count : ℕ) (connection : ServerLink Transfer) (v : View) → v.session.connection ≡ connection → count < length (given_by connection) → GivesMore count connection v
link_gives_more count (Data.Transferring (Transfers.Download rest)) v is more = record { transfer = Transfers.Download rest; left = Data.Transferring _; stood = is; gives = refl }
link_gives_more count (Data.Transferring (Transfers.Listing rest)) v is more = record { transfer = Transfers.Listing rest; left = Data.Transferring _; stood = is; gives = refl }
link_gives_more count (Data.Transferring (Transfers.Upload path keep d)) v is more = absurd (omega (arith, more))
link_gives_more count (Data.Transferring Transfers.OverLimit) v is more = absurd (omega (arith, more))
link_gives_more count Data.Free v is more = absurd (omega (arith, more))
link_gives_more count (Data.Active endpoint) v is more = absurd (omega (arith, more))
link_gives_more count (Data.Asked asked) v is more = absurd (omega (arith, more))
link_gives_more count Data.Passive v is more = absurd (omega (arith, more))
link_gives_more count (Data.Opening transfer way) v is more = absurd (omega (arith, more))
link_gives_more count Data.Ready v is more = absurd (omega (arith, more))

pub gives_more : (count : ℕ) (v : View) → count < length (to_give v) → GivesMore count (connection_of v.session) v
gives_more count v =
    cond_both v.session.closing Data.Free v.session.connection (λ connection. count < length (given_by connection) → GivesMore count connection v) (λ is more. absurd (omega (arith, more)))
    (λ is. link_gives_more count v.session.connection v refl)

gave_lowers : (count : ℕ) (v w : View) → count ≤ length (given_by (connection_of v.session)) → Given count v w → Lowers count v w
gave_lowers count v w few (inr late) =
    late_lowers count v (given_step count v) w (completed_lowers count v (takes_given (connection_of v.session) count v) (given_step_lowers count v few)) late
gave_lowers count v w few (inl fails) =
    let more = gives_more count v fails.0 in
    let less = link_falls count v (faulted (with_connection more.left v)) (Data.Transferring more.transfer) more.stood refl (omega arith) in
    late_lowers count v (faulted (takes_given (connection_of v.session) count v)) w (subst (λ (u : View). Lowers count v (faulted u)) (sym more.gives) less) fails.1

-- ---- all calls

control_lowers : (count : ℕ) (v : View) → count ≤ length v.owed → Lowers count v (control_step count v)
control_lowers count v few = record { begins = omega arith; gives = inr (omega (arith, length-drop count v.owed, few)) }

closed_lowers : (v : View) → v.session.closing ≡ true → Lowers 1 v (close_step v)
closed_lowers v is =
    let one : one_if v.session.closing ≡ 1 = ap one_if is in
    record { begins = omega arith; gives = inr (omega (arith, one)) }

control_ended : (v : View) → Lowers 0 v (control_end v)
unfolding control_end
control_ended v = record { begins = omega arith; gives = inr (omega (arith, one_close v.session.closing (is_standing v.session.connection))) }

opened_lowers : (is_peer : Bool) (v : View) → Lowers 0 v (completed (opens (connection_of v.session) is_peer v))
opened_lowers is_peer v =
    completed_lowers 0 v (opens (connection_of v.session) is_peer v)
    (by_link 0 v (λ connection u. opens connection is_peer u) (same v) (opens_lowers v.session.connection is_peer v refl))

pub server_lowers : ServerLowers
server_lowers v = record {
  clock = λ moment w late. late_lowers 0 v (clock_step moment v) w (record { begins = omega arith; gives = inr (omega arith) }) late;
  control = λ count w few late. late_lowers count v (control_step count v) w (control_lowers count v few) late;
  listening = λ port w late. late_lowers 0 v (listening_step port v) w
      (by_link 0 v (λ connection u. turned (listening_turn connection u.context port u.session) u) (unsaid v) (told_lowers port v.session.connection v refl)) late;
  no_port = λ w late. late_lowers 0 v (no_port_step v) w (by_link 0 v unheard (same v) (unheard_lowers v.session.connection v refl)) late;
  opened = λ host w late. late_lowers 0 v (opened_step host v) w (opened_lowers (same_host host v.context.peer) v) late;
  refused = λ w late. late_lowers 0 v (refused_step v) w (by_link 0 v refuses (same v) (refuses_lowers v.session.connection v refl)) late;
  ended = λ w end. ended_lowers (end_step v) v w (by_link 0 v ends (same v) (ends_lowers v.session.connection v refl)) end;
  broke = λ w end. ended_lowers (break_step v) v w (by_link 0 v breaks (same v) (breaks_lowers v.session.connection v refl)) end;
  given = λ count w few gave. gave_lowers count v w few gave;
  closed = λ w is late. late_lowers 1 v (close_step v) w (closed_lowers v is) late;
  control_ended = control_ended v;
}
