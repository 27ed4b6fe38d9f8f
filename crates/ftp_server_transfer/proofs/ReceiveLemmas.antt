-- Octets of an upload, as the definitions of the server take them one by one.
use Rattle.std.proofs.Common.{◌≡◌, inl, inr, ℕ, ◌+◌, ◌<◌, ◌≤◌, Bool, true, false, not, nat_le, List, [], ◌∷◌, length, take, Option, Some, None, refl, sym, ap, subst, ◌∙◌, arith, length-append}
use Rattle.std.specs.Prelude.{is_some, if◌then◌else◌}
use Rattle.std.proofs.lemmas.Bool.{leb-true, le-leb}
use Rattle.ftp_repr.specs.Receiving.{receiving}
use Rattle.ftp_mode.specs.Said.{Said, says, marker}
use Rattle.ftp_mode.specs.declared.fault.FrameFault.{FrameFault}
use Rattle.ftp_path.specs.Path.{Names}
use Rattle.ftp_tree.specs.Tree.{Table, octets_refusal}
use Rattle.ftp_wire.specs.Decoder.{Decoder, with_sign, with_all, read_on, octet_says, decoded_octet, fault_of}
use Rattle.ftp_wire.specs.Hearing.{HasNoMarker, Marks, EndsBy, Hears}
use Rattle.ftp_wire.specs.declared.decoded.Decoded.{Decoded}
use Rattle.ftp_wire.specs.declared.decoded.Decoded.TheVariants as Heards
use Rattle.ftp_server_model.specs.Keep.{kept_count}
use Rattle.ftp_server_model.specs.View.{View, Transfer, seen}
use Rattle.ftp_server_model.specs.Machine.{waited, later, is_idle, obeyed, is_over as passes, faulted, has_room, owes}
use Rattle.ftp_server_model.specs.Replies.{reply_octets, mark_reply}
use Rattle.ftp_server_model.specs.Calls.{may_receive, MayReceive, receives, receives_octet, takes_data, takes_octet, takes_all, grown, with_connection}
use Rattle.ftp_server_model.specs.Failing.{Late, AreReceived, UploadFails}
use Rattle.ftp_server_model.specs.declared.heard.HeardLine.{HeardLine as Line}
use Rattle.ftp_server_model.specs.declared.session.Keep.{Keep}
use Rattle.ftp_server_model.specs.declared.session.Transfer.TheVariants as Transfers
use Rattle.ftp_server_model.specs.declared.session.ServerLink.TheVariants as Data
use Rattle.ftp_server_replies.specs.ServerTransfer.{IsTransferUnderWay, ComesTo, Comes}
use Rattle.ftp_server_replies.specs.declared.transfer.Told.{Told}
use Rattle.ftp_server_replies.specs.declared.transfer.Told.TheVariants as Tells
use Rattle.ftp_server_transfer.specs.Receiving.{Leaves, is_over, IsSaidOfHeard}

-- a view in which this upload is under way, and one in which it passed a limit
abbrev holding : Names → Keep → Decoder → View → View
holding path keep d v = with_connection (Data.Transferring (Transfers.Upload path keep d)) v

abbrev past : View → View
past v = with_connection (Data.Transferring Transfers.OverLimit) v

-- behind the octets that are kept so many may be settled in this view, and not one beyond
abbrev Limits : Names → Keep → ℕ → View → Type 0
Limits path keep most v = (count : ℕ) → is_some (octets_refusal (seen v.session) path (kept_count keep + count)) ≡ not (nat_le count most)

-- ---- what an octet says is taken

grows : (d : Decoder) (said : List Said) → length d.content ≤ length (with_all d said).content
grows d [] = omega arith
grows d (says sign ∷ more) = omega (arith, grows (with_sign d sign) more, length-append d.content ((receiving d.form).out d.taking sign))
grows d (marker text ∷ more) = grows d more

-- where the file is within its limit it is still an upload
takes_within : (path : Names) (keep : Keep) (most : ℕ) (v : View) (d : Decoder) (said : List Said) → Limits path keep most v → HasNoMarker said
    → length (with_all d said).content ≤ most → takes_all said (holding path keep d v) ≡ holding path keep (with_all d said) v
takes_within path keep most v d [] limit none within = refl
takes_within path keep most v d (says sign ∷ more) limit none within =
    let next = with_sign d sign in
    let fits : length next.content ≤ most = omega (arith, grows next more, within) in
    let not_over : passes path keep next v.session ≡ false = limit (length next.content) ∙ ap not (le-leb (length next.content) most fits) in
    ap (λ b. takes_all more (with_connection (if b then Data.Transferring Transfers.OverLimit else Data.Transferring (Transfers.Upload path keep next)) v)) not_over
    ∙ takes_within path keep most v next more limit none within
takes_within path keep most v d (marker text ∷ more) limit none within = absurd none

past_stays : (v : View) (said : List Said) → takes_all said (past v) ≡ past v
past_stays v [] = refl
past_stays v (says sign ∷ more) = past_stays v more
past_stays v (marker text ∷ more) = past_stays v more

by_sign : (path : Names) (keep : Keep) (most : ℕ) (v : View) (next : Decoder) (more : List Said) → Limits path keep most v → (fits : Bool)
    → nat_le (length next.content) most ≡ fits → (length next.content ≤ most → takes_all more (holding path keep next v) ≡ past v)
    → takes_all more (with_connection (grown path keep next v.session) v) ≡ past v
by_sign path keep most v next more limit true fits on =
    ap (λ b. takes_all more (with_connection (if b then Data.Transferring Transfers.OverLimit else Data.Transferring (Transfers.Upload path keep next)) v))
    (limit (length next.content) ∙ ap not fits) ∙ on (leb-true (length next.content) most fits)
by_sign path keep most v next more limit false fits on =
    ap (λ b. takes_all more (with_connection (if b then Data.Transferring Transfers.OverLimit else Data.Transferring (Transfers.Upload path keep next)) v))
    (limit (length next.content) ∙ ap not fits) ∙ past_stays v more

-- where it passes it the rest is dropped
takes_past : (path : Names) (keep : Keep) (most : ℕ) (v : View) (d : Decoder) (said : List Said) → Limits path keep most v → HasNoMarker said
    → length d.content ≤ most → most < length (with_all d said).content → takes_all said (holding path keep d v) ≡ past v
takes_past path keep most v d [] limit none within beyond = absurd (omega (arith, within, beyond))
takes_past path keep most v d (says sign ∷ more) limit none within beyond =
    by_sign path keep most v (with_sign d sign) more limit (nat_le (length (with_sign d sign).content) most) refl
    (λ fits. takes_past path keep most v (with_sign d sign) more limit none fits beyond)
takes_past path keep most v d (marker text ∷ more) limit none within beyond = absurd none

-- ---- one octet

-- a line that waits goes on waiting while an upload is under way
stays : (waiting : Option (Line (List ℕ))) (w : View) → is_idle w ≡ false → waited waiting w ≡ w
stays None w busy = refl
stays (Some heard) w busy = ap (λ b. if b then obeyed heard (record w { waiting = None }) else w) busy

may : (path : Names) (keep : Keep) (d : Decoder) (v : View) → v.session.closing ≡ false → has_room v ≡ true → may_receive (holding path keep d v) ≡ true
may path keep d v going room = rw going room

-- without a fault, all that it says is taken
one : (path : Names) (keep : Keep) (d : Decoder) (v w : View) (octet : ℕ) → v.session.closing ≡ false → fault_of (read_on d octet) ≡ None
    → takes_all (octet_says d octet) (holding path keep (read_on d octet) v) ≡ w → is_idle w ≡ false → receives_octet (holding path keep d v) octet ≡ w
unfolding receives_octet
one path keep d v w octet going fine takes busy =
    ap (λ b. later (takes_data (if b then Data.Free else Data.Transferring (Transfers.Upload path keep d)) octet (holding path keep d v))) going
    ∙ ap (λ f. later (takes_octet f path keep (read_on d octet) (octet_says d octet) (holding path keep d v))) fine
    ∙ ap (λ x. later x) takes ∙ stays w.waiting w busy

-- with a fault the transfer is over
faults : (path : Names) (keep : Keep) (d : Decoder) (v : View) (octet : ℕ) (fault : FrameFault) → v.session.closing ≡ false
    → fault_of (read_on d octet) ≡ Some fault → receives_octet (holding path keep d v) octet ≡ later (faulted (holding path keep d v))
unfolding receives_octet
faults path keep d v octet fault going met =
    ap (λ b. later (takes_data (if b then Data.Free else Data.Transferring (Transfers.Upload path keep d)) octet (holding path keep d v))) going
    ∙ ap (λ f. later (takes_octet f path keep (read_on d octet) (octet_says d octet) (holding path keep d v))) met

-- any octet may find no memory
pub lost : (path : Names) (keep : Keep) (d : Decoder) (v x : View) (octet : ℕ) → v.session.closing ≡ false → has_room v ≡ true
    → Late (faulted (holding path keep d v)) x → AreReceived (holding path keep d v) (octet ∷ []) x
lost path keep d v x octet going room late =
    let P : Bool → Type 0 = λ b. UploadFails (if b then Data.Free else Data.Transferring (Transfers.Upload path keep d)) octet (holding path keep d v) x in
    (may path keep d v going room, x, inr (subst P (sym going) ([], octet_says d octet, refl, (refl, late))), refl)

-- ---- the last octet

-- the transfer that is left
abbrev left : Names → Keep → Decoded → Decoder → View → View
left path keep heard new v = with_connection (Data.Transferring (if is_over heard then Transfers.OverLimit else Transfers.Upload path keep new)) v

-- a marker, and then the rest of what the octet says
marked : (path : Names) (keep : Keep) (d : Decoder) (v w : View) (octet : ℕ) (text theirs : List ℕ) (rest : List Said) (count held : ℕ)
    → v.session.closing ≡ false → fault_of (read_on d octet) ≡ None → octet_says d octet ≡ marker text ∷ rest → count ≡ length d.content
    → theirs ≡ text → held ≡ kept_count keep + count
    → takes_all rest (holding path keep (read_on d octet) (owes (reply_octets (mark_reply text (kept_count keep + length d.content))) v))
    ≡ owes (reply_octets (mark_reply text (kept_count keep + length d.content))) w → is_idle w ≡ false
    → is_idle (owes (reply_octets (mark_reply text (kept_count keep + length d.content))) w) ≡ false
    → receives_octet (holding path keep d v) octet ≡ owes (reply_octets (mark_reply theirs held)) w
marked path keep d v w octet text theirs rest count held going fine said counted same told takes busy owing =
    one path keep d v (owes (reply_octets (mark_reply text (kept_count keep + length d.content))) w) octet going fine
    (ap (λ l. takes_all l (holding path keep (read_on d octet) v)) said ∙ takes) owing
    ∙ ap (λ t. owes (reply_octets (mark_reply t (kept_count keep + length d.content))) w) (sym same)
    ∙ ap (λ n. owes (reply_octets (mark_reply theirs n)) w) (sym (told ∙ ap (λ n. kept_count keep + n) counted))

last : (path : Names) (keep : Keep) (most : ℕ) (v : View) (d : Decoder) (octet : ℕ) (mark : Option ℕ) (text : List ℕ) (heard : Decoded) (new : Decoder) (told : Told)
    → Limits path keep most v → v.session.closing ≡ false → has_room v ≡ true → length d.content ≤ most → Marks mark text d (octet_says d octet)
    → EndsBy most d octet heard new → IsSaidOfHeard (kept_count keep) mark text heard told → ComesTo (holding path keep d v) (octet ∷ []) told (left path keep heard new v)
last path keep most v d octet None text Heards.More new told limit going room within marks ends is =
    let P : Told → Type 0 = λ t. ComesTo (holding path keep d v) (octet ∷ []) t (holding path keep new v) in
    let takes = takes_within path keep most v (read_on d octet) (octet_says d octet) limit marks ends.1 in
    subst P (sym is) (
      (may path keep d v going room, tt),
      one path keep d v (holding path keep (decoded_octet d octet) v) octet going ends.0 takes refl ∙ ap (λ e. holding path keep e v) (sym ends.2),
    )
last path keep most v d octet (Some held) text Heards.More new (Tells.Mark m) limit going room within marks ends is =
    let rest = marks.0 in
    let read = read_on d octet in
    let r = reply_octets (mark_reply text (kept_count keep + length d.content)) in
    let whole : decoded_octet d octet ≡ with_all read rest = ap (with_all read) marks.1 in
    let fits : length (with_all read rest).content ≤ most = omega (arith, ap (λ e. length e.content) whole, ends.1) in
    let to_new : with_all read rest ≡ new = sym whole ∙ sym ends.2 in
    let takes = takes_within path keep most (owes r v) read rest limit marks.2 fits ∙ ap (λ e. holding path keep e (owes r v)) to_new in
    ((may path keep d v going room, tt), marked path keep d v (holding path keep new v) octet text m.text.items rest held m.held going ends.0 marks.1 marks.3 is.0 is.1 takes refl refl)
last path keep most v d octet (Some held) text Heards.More new Tells.Nothing limit going room within marks ends is = absurd is
last path keep most v d octet (Some held) text Heards.More new Tells.Faulty limit going room within marks ends is = absurd is
last path keep most v d octet (Some held) text Heards.More new Tells.NoMemory limit going room within marks ends is = absurd is
last path keep most v d octet None text Heards.Over new told limit going room within marks ends is =
    let P : Told → Type 0 = λ t. ComesTo (holding path keep d v) (octet ∷ []) t (past v) in
    let takes = takes_past path keep most v (read_on d octet) (octet_says d octet) limit marks within ends.1 in
    subst P (sym is) ((may path keep d v going room, tt), one path keep d v (past v) octet going ends.0 takes refl)
last path keep most v d octet (Some held) text Heards.Over new (Tells.Mark m) limit going room within marks ends is =
    let rest = marks.0 in
    let read = read_on d octet in
    let r = reply_octets (mark_reply text (kept_count keep + length d.content)) in
    let beyond : most < length (with_all read rest).content = omega (arith, ap (λ e. length e.content) (ap (with_all read) marks.1), ends.1) in
    let takes = takes_past path keep most (owes r v) read rest limit marks.2 within beyond in
    ((may path keep d v going room, tt), marked path keep d v (past v) octet text m.text.items rest held m.held going ends.0 marks.1 marks.3 is.0 is.1 takes refl refl)
last path keep most v d octet (Some held) text Heards.Over new Tells.Nothing limit going room within marks ends is = absurd is
last path keep most v d octet (Some held) text Heards.Over new Tells.Faulty limit going room within marks ends is = absurd is
last path keep most v d octet (Some held) text Heards.Over new Tells.NoMemory limit going room within marks ends is = absurd is
last path keep most v d octet mark text (Heards.Faulty fault) new told limit going room within marks ends is =
    let P : Told → Type 0 = λ t. ComesTo (holding path keep d v) (octet ∷ []) t (holding path keep new v) in
    subst P (sym is) ((may path keep d v going room, tt), faults path keep d v octet fault going ends.0, λ x late. lost path keep d v x octet going room late)
last path keep most v d octet mark text Heards.NoMemory new told limit going room within marks ends is =
    let P : Told → Type 0 = λ t. ComesTo (holding path keep d v) (octet ∷ []) t (holding path keep new v) in
    subst P (sym is) (λ x late. lost path keep d v x octet going room late)

-- ---- octets in a row

-- an octet of which nothing is to be said, and then others
on : (path : Names) (keep : Keep) (d e : Decoder) (v w : View) (octet : ℕ) (octets : List ℕ) (told : Told) → may_receive (holding path keep d v) ≡ true
    → receives_octet (holding path keep d v) octet ≡ holding path keep e v → ComesTo (holding path keep e v) octets told w
    → ComesTo (holding path keep d v) (octet ∷ octets) told w
on path keep d e v w octet octets Tells.Nothing can is h =
    let P : View → Type 0 = λ y. MayReceive y octets in
    ((can, subst P (sym is) h.0), ap (λ y. receives y octets) is ∙ h.1)
on path keep d e v w octet octets (Tells.Mark m) can is h =
    let P : View → Type 0 = λ y. MayReceive y octets in
    ((can, subst P (sym is) h.0), ap (λ y. receives y octets) is ∙ h.1)
on path keep d e v w octet octets Tells.Faulty can is h =
    let P : View → Type 0 = λ y. MayReceive y octets in
    ((can, subst P (sym is) h.0), ap (λ y. receives y octets) is ∙ h.1, λ x late. (can, holding path keep e v, inl (sym is), h.2 x late))
on path keep d e v w octet octets Tells.NoMemory can is h = λ x late. (can, holding path keep e v, inl (sym is), h x late)

-- no octet came
nothing : (path : Names) (keep : Keep) (v : View) (d : Decoder) (mark : Option ℕ) (text : List ℕ) (heard : Decoded) (new : Decoder) (told : Told)
    → mark ≡ None → heard ≡ Heards.More → new ≡ d → IsSaidOfHeard (kept_count keep) mark text heard told → ComesTo (holding path keep d v) [] told (left path keep heard new v)
nothing path keep v d mark text heard new told unmarked more same is =
    let P : Decoded → Type 0 = λ h. IsSaidOfHeard (kept_count keep) mark text h told in
    let Q : Option ℕ → Type 0 = λ m. IsSaidOfHeard (kept_count keep) m text Heards.More told in
    let R : Told → Type 0 = λ t. ComesTo (holding path keep d v) [] t (left path keep heard new v) in
    let is_nothing : told ≡ Tells.Nothing = subst Q unmarked (subst P more is) in
    subst R (sym is_nothing) (tt, ap (λ e. holding path keep e v) (sym same) ∙ ap (λ h. left path keep h new v) (sym more))

comes_to : (path : Names) (keep : Keep) (most : ℕ) (v : View) (d : Decoder) (octets : List ℕ) (mark : Option ℕ) (text : List ℕ) (heard : Decoded) (new : Decoder) (told : Told)
    → Limits path keep most v → v.session.closing ≡ false → has_room v ≡ true → length d.content ≤ most → Hears most d octets mark text heard new
    → IsSaidOfHeard (kept_count keep) mark text heard told → ComesTo (holding path keep d v) octets told (left path keep heard new v)
comes_to path keep most v d [] mark text heard new told limit going room within h is = nothing path keep v d mark text heard new told h.0 h.1 h.2 is
comes_to path keep most v d (octet ∷ []) mark text heard new told limit going room within h is =
    last path keep most v d octet mark text heard new told limit going room within h.0 h.1 is
comes_to path keep most v d (octet ∷ next ∷ octets) mark text heard new told limit going room within h is =
    let takes = takes_within path keep most v (read_on d octet) (octet_says d octet) limit h.0.unmarked h.0.within in
    on path keep d (decoded_octet d octet) v (left path keep heard new v) octet (next ∷ octets) told (may path keep d v going room)
    (one path keep d v (holding path keep (decoded_octet d octet) v) octet going h.0.fine takes refl)
    (comes_to path keep most v (decoded_octet d octet) (next ∷ octets) mark text heard new told limit going room h.0.within h.1 is)

-- ---- of a transfer, in whichever view it is under way

-- it is enough to see it in a view that it stands in
in_view : (part : Table) (path : Names) (keep : Keep) (d : Decoder) (octets : List ℕ) (told : Told) (v w : View)
    → IsTransferUnderWay part (Transfers.Upload path keep d) v → ComesTo (holding path keep d v) octets told w → ComesTo v octets told w
in_view part path keep d octets told v w under h =
    let P : View → Type 0 = λ y. ComesTo y octets told w in
    subst P (sym (ap (λ c. with_connection c v) under.carried)) h

-- what was heard leads there
pub comes : (part : Table) (path : Names) (keep : Keep) (most : ℕ) (d : Decoder) (octets : List ℕ) (mark : Option ℕ) (text : List ℕ) (heard : Decoded) (new : Decoder) (told : Told)
    → Leaves part path (kept_count keep) most → length d.content ≤ most → Hears most d octets mark text heard new → IsSaidOfHeard (kept_count keep) mark text heard told
    → Comes part (Transfers.Upload path keep d) octets told (if is_over heard then Transfers.OverLimit else Transfers.Upload path keep new)
comes part path keep most d octets mark text heard new told leaves within h is = λ v under.
    let P : Table → Type 0 = λ p. (count : ℕ) → is_some (octets_refusal p path (kept_count keep + count)) ≡ not (nat_le count most) in
    in_view part path keep d octets told v (left path keep heard new v) under
    (comes_to path keep most v d octets mark text heard new told (subst P (sym under.sees) leaves.limit) under.going under.room within h is)

-- the first octet finds no memory
pub refused : (part : Table) (path : Names) (keep : Keep) (d : Decoder) (piece : List ℕ) (count : ℕ) (told : Told) (new : Transfer) → 0 < length piece → count ≡ 1
    → told ≡ Tells.NoMemory → Comes part (Transfers.Upload path keep d) (take count piece) told new
refused part path keep d [] count told new some one_of is = absurd (omega arith)
refused part path keep d (octet ∷ piece) count told new some one_of is =
    let P : ℕ → Type 0 = λ n. Comes part (Transfers.Upload path keep d) (take n (octet ∷ piece)) Tells.NoMemory new in
    let Q : Told → Type 0 = λ t. Comes part (Transfers.Upload path keep d) (take count (octet ∷ piece)) t new in
    subst Q (sym is) (subst P (sym one_of) (λ v under.
    in_view part path keep d (octet ∷ []) Tells.NoMemory v (with_connection (Data.Transferring new) v) under (λ x late. lost path keep d v x octet under.going under.room late)))

-- ---- transfers that take nothing in

-- past a limit every octet is dropped
drops : (v : View) (octet : ℕ) → v.session.closing ≡ false → receives_octet (past v) octet ≡ past v
unfolding receives_octet
drops v octet going =
    ap (λ b. later (takes_data (if b then Data.Free else Data.Transferring Transfers.OverLimit) octet (past v))) going ∙ stays v.waiting (past v) refl

dropped : (v : View) (octets : List ℕ) → v.session.closing ≡ false → has_room v ≡ true → MayReceive (past v) octets × (receives (past v) octets ≡ past v)
dropped v [] going room = (tt, refl)
dropped v (octet ∷ octets) going room =
    let P : View → Type 0 = λ y. MayReceive y octets in
    let rest = dropped v octets going room in
    ((rw going room, subst P (sym (drops v octet going)) rest.0), ap (λ y. receives y octets) (drops v octet going) ∙ rest.1)

pub over_comes : (part : Table) (octets : List ℕ) → Comes part Transfers.OverLimit octets Tells.Nothing Transfers.OverLimit
over_comes part octets = λ v under.
    let P : View → Type 0 = λ y. ComesTo y octets Tells.Nothing (past v) in
    subst P (sym (ap (λ c. with_connection c v) under.carried)) (dropped v octets under.going under.room)
