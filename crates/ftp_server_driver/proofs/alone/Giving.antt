-- What a call in which octets were given says first: 226 behind the last octet, 451 where what comes next was not had, and else nothing.
use Rattle.std.proofs.Common.{◌≡◌, ◌≢◌, ◌⊎◌, inl, inr, ℕ, ◌<◌, Bool, true, false, List, [], ◌∷◌, ◌++◌, length, drop, Option, Some, None, refl, sym, ap}
use Rattle.std.proofs.Common.{◌∙◌, subst, append_assoc, append-nil, arith}
use Rattle.std.specs.Prelude.{if◌then◌else◌}
use Rattle.std.proofs.Math.Seq.{drop-append_seam, drop-length}
use Rattle.std.proofs.lemmas.List.{length-drop}
use Rattle.ftp_ports.specs.Machine.{rest_left}
use Rattle.ftp_ports.specs.declared.whole.Rest.{Rest}
use Rattle.ftp_ports.specs.declared.whole.Rest.TheVariants.{Nothing, More}
use Rattle.ftp_ends.specs.declared.link.Wants.TheVariants as Want
use Rattle.ftp_server_model.proofs.CountLemmas.{same_counts}
use Rattle.ftp_server_model.specs.Calls.{connection_of, given_by, given_step, is_done, takes_given, to_give, wants, wants_of, with_connection}
use Rattle.ftp_server_model.specs.Failing.{GiveFails, KeepsCourse, Late, LineFails, WaitingFails}
use Rattle.ftp_server_model.specs.Far.{Server, Steps}
use Rattle.ftp_server_model.specs.Heard.{code_in, turn_of_line}
use Rattle.ftp_server_model.specs.Machine.{completed, faulted, given_out, is_idle, obeyed, turned, waited}
use Rattle.ftp_server_model.specs.Replies.{fixed_reply, reply_octets, said_octets}
use Rattle.ftp_server_model.specs.View.{Transfer, View}
use Rattle.ftp_server_model.specs.declared.heard.HeardLine.{HeardLine}
use Rattle.ftp_server_model.specs.declared.heard.HeardLine.TheVariants.{TooLong, Bad, Asks}
use Rattle.ftp_server_model.specs.declared.reply.FixedReply.{FixedReply}
use Rattle.ftp_server_model.specs.declared.reply.FixedReply.TheVariants as Texts
use Rattle.ftp_server_model.specs.declared.session.ServerLink.{ServerLink}
use Rattle.ftp_server_model.specs.declared.session.ServerLink.TheVariants as Data
use Rattle.ftp_server_model.specs.declared.session.Transfer.TheVariants as Transfers
use Rattle.ftp_server_model.specs.declared.session.Way.TheVariants as Ways
use Rattle.ftp_server_driver.specs.alone.Side.{rest_told}

-- ---- what is owed is only added to

-- what the second owes begins with what the first does
abbrev OwesOn : View → View → Type 0
OwesOn v w = (more : List ℕ) × (w.owed ≡ v.owed ++ more)

same_owed : (v w : View) → w.owed ≡ v.owed → OwesOn v w
same_owed v w is = ([], is ∙ sym (append-nil v.owed))

given_out_on : (connection : ServerLink Transfer) (v : View) → OwesOn v (given_out connection v)
given_out_on (Data.Transferring (Transfers.Download [])) v = (reply_octets (fixed_reply Texts.Complete), refl)
given_out_on (Data.Transferring (Transfers.Download (octet ∷ rest))) v = same_owed v v refl
given_out_on (Data.Transferring (Transfers.Listing [])) v = (reply_octets (fixed_reply Texts.Complete), refl)
given_out_on (Data.Transferring (Transfers.Listing (octet ∷ rest))) v = same_owed v v refl
given_out_on (Data.Transferring (Transfers.Upload path keep d)) v = same_owed v v refl
given_out_on (Data.Transferring Transfers.OverLimit) v = same_owed v v refl
given_out_on (Data.Asked asked) v = same_owed v v refl
given_out_on (Data.Opening transfer way) v = same_owed v v refl
given_out_on Data.Free v = same_owed v v refl
given_out_on (Data.Active endpoint) v = same_owed v v refl
given_out_on Data.Passive v = same_owed v v refl
given_out_on Data.Ready v = same_owed v v refl

then_on : (v : View) (said : List ℕ) (mid w : View) → mid.owed ≡ v.owed ++ said → OwesOn mid w → OwesOn v w
then_on v said mid w first on = (said ++ on.0, on.1 ∙ ap (λ l. l ++ on.0) first ∙ append_assoc v.owed said on.0)

obeyed_on : (heard : HeardLine (List ℕ)) (v : View) → OwesOn v (obeyed heard v)
unfolding obeyed
obeyed_on heard v =
    let turn = turn_of_line heard v in
    let mid : View = turned turn v in
    then_on v (said_octets turn.0 turn.1) mid (completed mid) refl (given_out_on mid.session.connection mid)

waited_on : (waiting : Option (HeardLine (List ℕ))) (v : View) → OwesOn v (waited waiting v)
waited_on None v = same_owed v v refl
waited_on (Some heard) v = by_idle (is_idle v)
  where
    by_idle : (idle : Bool) → OwesOn v (if idle then obeyed heard (record v { waiting = None }) else v)
    by_idle true = obeyed_on heard (record v { waiting = None })
    by_idle false = same_owed v v refl

line_on : (heard : HeardLine (List ℕ)) (v w : View) → LineFails heard v w → OwesOn v w
line_on TooLong v w fails = absurd fails
line_on (Bad fault) v w fails = absurd fails
line_on (Asks command) v w fails = (reply_octets (fixed_reply Texts.LocalFault), ap (λ x. x.owed) fails.2)

waiting_on : (waiting : Option (HeardLine (List ℕ))) (v w : View) → WaitingFails waiting v w → OwesOn v w
waiting_on None v w fails = absurd fails
waiting_on (Some heard) v w fails = line_on heard (record v { waiting = None }) w fails.1

late_on : (v w : View) → Late v w → OwesOn v w
late_on v w (inl is) = subst (λ x. OwesOn v x) (sym is) (waited_on v.waiting v)
late_on v w (inr fails) = waiting_on v.waiting v w fails

-- ---- the code that stands first

-- behind octets that are owed stand a reply and more
behind : (before reply rest : List ℕ) → drop (length before) ((before ++ reply) ++ rest) ≡ reply ++ rest
behind before reply rest = ap (drop (length before)) (append_assoc before reply rest) ∙ drop-append_seam before (reply ++ rest)

complete_first : (rest : List ℕ) → rest_told (code_in (reply_octets (fixed_reply Texts.Complete) ++ rest)) ≡ Nothing
complete_first rest = refl

fault_first : (rest : List ℕ) → rest_told (code_in (reply_octets (fixed_reply Texts.LocalFault) ++ rest)) ≡ More
fault_first rest = refl

-- a view that owes a reply behind what was owed, and one that comes late of it
replied_first : (owed : List ℕ) (text : FixedReply) (rest : Rest) (mid w : View) → mid.owed ≡ owed ++ reply_octets (fixed_reply text) → Late mid w
    → ((more : List ℕ) → rest_told (code_in (reply_octets (fixed_reply text) ++ more)) ≡ rest)
    → rest_told (code_in (drop (length owed) w.owed)) ≡ rest
replied_first owed text rest mid w is late first =
    let on = late_on mid w late in
    ap (λ l. rest_told (code_in (drop (length owed) l))) (on.1 ∙ ap (λ l. l ++ on.0) is)
    ∙ ap (λ l. rest_told (code_in l)) (behind owed (reply_octets (fixed_reply text)) on.0) ∙ first on.0

-- a view in which a transfer is under way says nothing late
still_waits : (waiting : Option (HeardLine (List ℕ))) (v w : View) → is_idle v ≡ false → (w ≡ waited waiting v) ⊎ WaitingFails waiting v w → w ≡ v
still_waits None v w busy (inl is) = is
still_waits (Some heard) v w busy (inl is) = is ∙ ap (λ idle. if idle then obeyed heard (record v { waiting = None }) else v) busy
still_waits None v w busy (inr fails) = absurd fails
still_waits (Some heard) v w busy (inr fails) = let e : true ≡ false = sym fails.0 ∙ busy in cc

silent : (owed : List ℕ) (w : View) → w.owed ≡ owed → rest_told (code_in (drop (length owed) w.owed)) ≡ More
silent owed w is = ap (λ l. rest_told (code_in (drop (length owed) l))) is ∙ ap (λ l. rest_told (code_in l)) (drop-length owed)

-- ---- octets are given of a download or a listing

some_left : (count : ℕ) (octets : List ℕ) → count < length octets → rest_left (drop count octets) ≡ More
some_left count octets less = by (drop count octets) (omega (arith, less, length-drop count octets))
  where
    by : (left : List ℕ) → 0 < length left → rest_left left ≡ More
    by [] none = absurd (omega (arith, none))
    by (octet ∷ left) some = refl

download_given : (left : List ℕ) (v w : View) → Late (completed (with_connection (Data.Transferring (Transfers.Download left)) v)) w
    → rest_told (code_in (drop (length v.owed) w.owed)) ≡ rest_left left
download_given [] v w late = replied_first v.owed Texts.Complete Nothing _ w refl late complete_first
download_given (octet ∷ left) v w late =
    let mid : View = with_connection (Data.Transferring (Transfers.Download (octet ∷ left))) v in
    silent v.owed w (ap (λ x. x.owed) (still_waits v.waiting mid w refl late))

listing_given : (left : List ℕ) (v w : View) → Late (completed (with_connection (Data.Transferring (Transfers.Listing left)) v)) w
    → rest_told (code_in (drop (length v.owed) w.owed)) ≡ rest_left left
listing_given [] v w late = replied_first v.owed Texts.Complete Nothing _ w refl late complete_first
listing_given (octet ∷ left) v w late =
    let mid : View = with_connection (Data.Transferring (Transfers.Listing (octet ∷ left))) v in
    silent v.owed w (ap (λ x. x.owed) (still_waits v.waiting mid w refl late))

-- those that come next were not had, or all went as ever
abbrev Went : ServerLink Transfer → ℕ → View → View → Type 0
Went connection count v w =
    ((count < length (given_by connection)) × Late (faulted (takes_given connection count v)) w) ⊎ Late (completed (takes_given connection count v)) w

went_first : (connection : ServerLink Transfer) (count : ℕ) (v w : View) → wants_of connection ≡ Want.Send → Went connection count v w
    → rest_told (code_in (drop (length v.owed) w.owed)) ≡ rest_left (drop count (given_by connection))
went_first (Data.Transferring (Transfers.Download rest)) count v w sends (inl fails) =
    replied_first v.owed Texts.LocalFault More _ w refl fails.1 fault_first ∙ sym (some_left count rest fails.0)
went_first (Data.Transferring (Transfers.Download rest)) count v w sends (inr late) = download_given (drop count rest) v w late
went_first (Data.Transferring (Transfers.Listing rest)) count v w sends (inl fails) =
    replied_first v.owed Texts.LocalFault More _ w refl fails.1 fault_first ∙ sym (some_left count rest fails.0)
went_first (Data.Transferring (Transfers.Listing rest)) count v w sends (inr late) = listing_given (drop count rest) v w late
went_first (Data.Transferring (Transfers.Upload path keep d)) count v w sends went = let e : Want.Receive ≡ Want.Send = sends in cc
went_first (Data.Transferring Transfers.OverLimit) count v w sends went = let e : Want.Receive ≡ Want.Send = sends in cc
went_first (Data.Asked asked) count v w sends went = let e : Want.Listen ≡ Want.Send = sends in cc
went_first (Data.Opening transfer (Ways.Connect endpoint)) count v w sends went = let e : Want.Connect endpoint ≡ Want.Send = sends in cc
went_first (Data.Opening transfer Ways.Accept) count v w sends went = let e : Want.Accept ≡ Want.Send = sends in cc
went_first Data.Free count v w sends went = let e : Want.Nothing ≡ Want.Send = sends in cc
went_first (Data.Active endpoint) count v w sends went = let e : Want.Nothing ≡ Want.Send = sends in cc
went_first Data.Passive count v w sends went = let e : Want.Accept ≡ Want.Send = sends in cc
went_first Data.Ready count v w sends went = let e : Want.Nothing ≡ Want.Send = sends in cc

-- one that wants to send has a transfer under way of which it sends
sends_by : (closing done : Bool) (connection : ServerLink Transfer)
    → (if closing then Want.CloseData else (if done then Want.CloseAll else wants_of connection)) ≡ Want.Send
    → wants_of (if closing then Data.Free else connection) ≡ Want.Send
sends_by true done connection is = let e : Want.CloseData ≡ Want.Send = is in cc
sends_by false true connection is = let e : Want.CloseAll ≡ Want.Send = is in cc
sends_by false false connection is = is

-- where the device doesn't stray, the reply that such a call says first tells whether all was given
pub told_exactly : (count : ℕ) (old new : Server) → KeepsCourse old.counts new.counts → Steps (GiveFails count) (given_step count) old new → wants old.view ≡ Want.Send
    → rest_told (code_in (drop (length old.view.owed) new.view.owed)) ≡ rest_left (drop count (to_give old.view))
told_exactly count old new course steps sends = by (same_counts new.counts old.counts)
  where
    connection : ServerLink Transfer
    connection = connection_of old.view.session

    first : Went connection count old.view new.view
        → rest_told (code_in (drop (length old.view.owed) new.view.owed)) ≡ rest_left (drop count (to_give old.view))
    first went = went_first connection count old.view new.view
        (sends_by old.view.session.closing (is_done old.view.session.life old.view.owed) old.view.session.connection sends) went

    by : (new.counts ≡ old.counts) ⊎ (new.counts ≢ old.counts)
        → rest_told (code_in (drop (length old.view.owed) new.view.owed)) ≡ rest_left (drop count (to_give old.view))
    by (inl same) = first (inr (inl (steps.done same)))
    by (inr differ) = first (steps.failed course differ)
