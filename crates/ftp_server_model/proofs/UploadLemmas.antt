-- What an octet of an upload keeps within limits: it says one marker at most, which is answered within its room.
use Rattle.std.proofs.Common.{◌≡◌, ℕ, ◌+◌, ◌^◌, ◌<◌, ◌≤◌, ◌⊎◌, inl, inr, List, [], ◌∷◌, ◌++◌, Bool, true, false, ◌&&◌, Option, Some, None, refl, sym, ap, subst, arith, length}
use Rattle.std.specs.Prelude.{codes, decimal, nat_lt, if◌then◌else◌, ◌==◌}
use Rattle.std.proofs.lemmas.Bool.{and_parts, cond_both, leb-true, ltb-true}
use Rattle.std.proofs.lemmas.List.{length-append}
use Rattle.ftp_command.proofs.CarriedLemmas.{decimal_fits}
use Rattle.ftp_settings.specs.Marker.{is_marker_octet}
use Rattle.ftp_repr.specs.Signs.{Sign, end_record, end_file}
use Rattle.ftp_mode.specs.Said.{Said, says, marker}
use Rattle.ftp_mode.specs.Block.{has, block_count, ends_of}
use Rattle.ftp_mode.specs.Stream.{code_said}
use Rattle.ftp_mode.specs.declared.descriptor.TheConstants.{END_OF_RECORD, END_OF_FILE, RESTART_MARKER}
use Rattle.ftp_mode.specs.Reading.{Place, plain, outside, escaped, at_head, at_high, at_low, inside, marking, ended as passed, Reading as Reads, going, failed, place_out, read_out}
use Rattle.ftp_mode.specs.declared.fault.FrameFault.{FrameFault}
use Rattle.ftp_reply.specs.Reply.{last_line}
use Rattle.ftp_wire.specs.Decoder.{Decoder, with_sign, read_on, octet_says, fault_of}
use Rattle.ftp_ends.specs.Reply.{reply_octets}
use Rattle.ftp_path.specs.Path.{Names}
use Rattle.ftp_server_model.specs.Calls.{connection_of, grown, with_connection, takes_said, takes_all, takes_octet, takes_data, receives_octet, is_upload}
use Rattle.ftp_server_model.specs.Endpoint.{forgotten}
use Rattle.ftp_server_model.specs.Kept.{ServerKeeps, CanTell, UploadOctetKeeps}
use Rattle.ftp_server_model.specs.Machine.{is_connection_busy, is_over, has_room}
use Rattle.ftp_server_model.specs.Replies.{mark_reply}
use Rattle.ftp_server_model.specs.Told.{ConnectionKeeps, TransferKeeps}
use Rattle.ftp_server_model.specs.View.{Session, Transfer, View}
use Rattle.ftp_server_model.specs.Keep.{kept_count}
use Rattle.ftp_server_model.specs.declared.session.Keep.{Keep}
use Rattle.ftp_server_model.specs.declared.reply.FixedReply.TheVariants as Texts
use Rattle.ftp_server_model.specs.declared.session.ServerLink.{ServerLink}
use Rattle.ftp_server_model.specs.declared.session.ServerLink.TheVariants as Data
use Rattle.ftp_server_model.specs.declared.session.Transfer.TheVariants as Transfers
use Rattle.ftp_server_model.proofs.CallLemmas.{busy_owed, by_connection, later_keeps, least_room, moves_keeps, replied_keeps}
use Rattle.ftp_server_model.proofs.RepliesWritten.{lines_short}
use Rattle.ftp_server_model.proofs.TurnLemmas.{forgotten_keeps, connection_keeps}

-- ---- what an octet says

-- signs alone
abbrev IsSigns : List Said → Type 0
IsSigns [] = Unit {0}
IsSigns (says sign ∷ more) = IsSigns more
IsSigns (marker text ∷ more) = ⊥

-- signs alone, or a marker and then signs
abbrev SaysOne : List Said → Type 0
SaysOne said = IsSigns said ⊎ ((text : List ℕ) × (more : List Said) × (said ≡ marker text ∷ more) × (length text ≤ 255) × IsSigns more)

ends_signs : (d : ℕ) → IsSigns (ends_of d)
ends_signs d = by_ends (has d END_OF_RECORD) (has d END_OF_FILE)
  where
    by_ends : (a b : Bool) → IsSigns ((if a then says end_record ∷ [] else []) ++ (if b then says end_file ∷ [] else []))
    by_ends true true = tt
    by_ends true false = tt
    by_ends false true = tt
    by_ends false false = tt

signs_if : (b : Bool) (one other : List Said) → IsSigns one → IsSigns other → IsSigns (if b then one else other)
signs_if true one other a c = a
signs_if false one other a c = c

code_signs : (c : ℕ) → IsSigns (code_said c)
code_signs c = signs_if (c == 255) _ _ tt (signs_if (c == 1) _ _ tt (signs_if (c == 2) _ _ tt (signs_if (c == 3) _ _ tt tt)))

marked : (last : Bool) (d c : ℕ) (text : List ℕ) → length text < 255 → SaysOne (if last then marker (text ++ c ∷ []) ∷ ends_of d else [])
marked true d c text short = inr (text ++ c ∷ [], ends_of d, refl, omega (arith, length-append text (c ∷ []), short), ends_signs d)
marked false d c text short = inl tt

marking_one : (room : Bool) (d left c : ℕ) (text : List ℕ) → (is_marker_octet c && nat_lt (length text) 255) ≡ room
    → SaysOne (if room then (if left == 1 then marker (text ++ c ∷ []) ∷ ends_of d else []) else [])
marking_one true d left c text is = marked (left == 1) d c text (ltb-true (length text) 255 (and_parts (is_marker_octet c) _ is).1)
marking_one false d left c text is = inl tt

place_one : (place : Place) (c : ℕ) → SaysOne (place_out place c)
place_one plain c = inl tt
place_one outside c = inl (signs_if (c == 255) _ _ tt tt)
place_one escaped c = inl (code_signs c)
place_one at_head c = inl tt
place_one (at_high d) c = inl tt
place_one (at_low d high) c = inl (signs_if (has d RESTART_MARKER) _ _ tt (signs_if (block_count high c == 0) _ _ (ends_signs d) tt))
place_one (inside d left) c = inl (signs_if (left == 1) _ _ (ends_signs d) tt)
place_one (marking d left text) c = marking_one (is_marker_octet c && nat_lt (length text) 255) d left c text refl
place_one passed c = inl tt

read_one : (reading : Reads) (c : ℕ) → SaysOne (read_out reading c)
read_one (going n place) c = place_one place c
read_one (failed fault) c = inl tt

-- ---- what that makes

mark_room : (text : List ℕ) (held : ℕ) → length text ≤ 255 → held < 10 ^ 18 → length (reply_octets (mark_reply text held)) ≤ 600
mark_room text held short few =
    let said : List ℕ = codes "MARK " ++ (text ++ (codes " = " ++ decimal held)) in
    let size : length said ≤ 281 =
    omega (arith, length-append (codes "MARK ") (text ++ (codes " = " ++ decimal held)), length-append text (codes " = " ++ decimal held), length-append (codes " = ") (decimal held), short, (decimal_fits held few).short) in
    omega (arith, lines_short (last_line 110 said ∷ []), size)

grown_keeps : (path : Names) (keep : Keep) (d : Decoder) (s : Session) → TransferKeeps (Transfers.Upload path keep d) → ConnectionKeeps (grown path keep d s)
grown_keeps path keep d s kept =
    cond_both (is_over path keep d s) (Data.Transferring Transfers.OverLimit) (Data.Transferring (Transfers.Upload path keep d)) ConnectionKeeps (λ is. tt) (λ is. kept)

-- a transfer goes on
goes_keeps : (connection : ServerLink Transfer) (v : View) → is_connection_busy v.session.connection ≡ true → ConnectionKeeps connection → ServerKeeps v → ServerKeeps (with_connection connection v)
goes_keeps connection v busy kept k =
    moves_keeps _ v k (connection_keeps connection v.session kept k.session) (omega (arith, busy_owed v k busy, least_room connection))

sign_keeps : (connection : ServerLink Transfer) (sign : Sign) (v : View) → v.session.connection ≡ connection → ServerKeeps v → ServerKeeps (takes_said connection (says sign) v)
sign_keeps (Data.Transferring (Transfers.Upload path keep d)) sign v is k =
    goes_keeps (grown path keep (with_sign d sign) v.session) v (ap is_connection_busy is) (grown_keeps path keep (with_sign d sign) v.session (subst ConnectionKeeps is k.session.connection)) k
sign_keeps (Data.Transferring Transfers.OverLimit) sign v is k = k
sign_keeps (Data.Transferring (Transfers.Download rest)) sign v is k = k
sign_keeps (Data.Transferring (Transfers.Listing rest)) sign v is k = k
sign_keeps Data.Free sign v is k = k
sign_keeps (Data.Active endpoint) sign v is k = k
sign_keeps (Data.Asked asked) sign v is k = k
sign_keeps Data.Passive sign v is k = k
sign_keeps (Data.Opening transfer way) sign v is k = k
sign_keeps Data.Ready sign v is k = k

signs_keep : (said : List Said) (v : View) → IsSigns said → ServerKeeps v → ServerKeeps (takes_all said v)
signs_keep [] v are k = k
signs_keep (says sign ∷ more) v are k = signs_keep more (takes_said v.session.connection (says sign) v) are (sign_keeps v.session.connection sign v refl k)
signs_keep (marker text ∷ more) v are k = absurd are

-- an upload whose octets that are held can be told
marker_keeps : (path : Names) (keep : Keep) (d : Decoder) (text : List ℕ) (v : View) → v.session.connection ≡ Data.Transferring (Transfers.Upload path keep d) → length text ≤ 255
    → kept_count keep + length d.content < 10 ^ 18 → length v.owed ≤ 4096 → ServerKeeps v → ServerKeeps (takes_said (Data.Transferring (Transfers.Upload path keep d)) (marker text) v)
marker_keeps path keep d text v is short few small k =
    let c : ServerLink Transfer = Data.Transferring (Transfers.Upload path keep d) in
    record {
      accounts = k.accounts;
      host = k.host;
      session = connection_keeps c v.session (subst ConnectionKeeps is k.session.connection) k.session;
      waiting = k.waiting;
      owed = omega (arith, length-append v.owed (reply_octets (mark_reply text (kept_count keep + length d.content))), mark_room text (kept_count keep + length d.content) short few, small);
    }

said_keeps : (path : Names) (keep : Keep) (d : Decoder) (said : List Said) (v : View) → SaysOne said → v.session.connection ≡ Data.Transferring (Transfers.Upload path keep d)
    → kept_count keep + length d.content < 10 ^ 18 → length v.owed ≤ 4096 → ServerKeeps v → ServerKeeps (takes_all said v)
said_keeps path keep d said v one is few small k =
    let P : List Said → Type 0 = λ s. ServerKeeps (takes_all s v) in
    elim one [
      | inl signs ↦ signs_keep said v signs k
      | inr e ↦ subst P (sym e.2)
          (let Q : ServerLink Transfer → Type 0 = λ c. ServerKeeps (takes_all e.1 (takes_said c (marker e.0) v)) in
          subst Q (sym is) (signs_keep e.1 _ e.4 (marker_keeps path keep d e.0 v is e.3 few small k)))
    ]

octet_keeps : (fault : Option FrameFault) (path : Names) (keep : Keep) (d : Decoder) (said : List Said) (v : View) → SaysOne said → v.session.connection ≡ Data.Transferring (Transfers.Upload path keep d)
    → kept_count keep + length d.content < 10 ^ 18 → length v.owed ≤ 4096 → ServerKeeps v → (octet : ℕ) → ServerKeeps (takes_octet fault path keep (read_on d octet) said v)
octet_keeps None path keep d said v one is few small k octet =
    let c : ServerLink Transfer = Data.Transferring (Transfers.Upload path keep (read_on d octet)) in
    said_keeps path keep (read_on d octet) said (with_connection c v) one refl few small
    (goes_keeps c v (ap is_connection_busy is) (subst ConnectionKeeps is k.session.connection) k)
octet_keeps (Some fault) path keep d said v one is few small k octet =
    replied_keeps Texts.LocalFault (forgotten v.session) v k (forgotten_keeps v.session k.session) refl (omega (arith, small))

data_keeps : (connection : ServerLink Transfer) (octet : ℕ) (v : View) → v.session.connection ≡ connection → CanTell connection → length v.owed ≤ 4096 → ServerKeeps v → ServerKeeps (takes_data connection octet v)
data_keeps (Data.Transferring (Transfers.Upload path keep d)) octet v is few small k =
    octet_keeps (fault_of (read_on d octet)) path keep d (octet_says d octet) v (read_one d.reading octet) is few small k octet
data_keeps (Data.Transferring Transfers.OverLimit) octet v is few small k = k
data_keeps (Data.Transferring (Transfers.Download rest)) octet v is few small k = k
data_keeps (Data.Transferring (Transfers.Listing rest)) octet v is few small k = k
data_keeps Data.Free octet v is few small k = k
data_keeps (Data.Active endpoint) octet v is few small k = k
data_keeps (Data.Asked asked) octet v is few small k = k
data_keeps Data.Passive octet v is few small k = k
data_keeps (Data.Opening transfer way) octet v is few small k = k
data_keeps Data.Ready octet v is few small k = k

pub upload_octet_keeps : UploadOctetKeeps
unfolding receives_octet
upload_octet_keeps v octet k may few =
    let small = leb-true (length v.owed) 4096 (and_parts (is_upload (connection_of v.session)) (has_room v) may).1 in
    later_keeps (takes_data (connection_of v.session) octet v)
    (by_connection v (λ connection. takes_data connection octet v) k (data_keeps v.session.connection octet v refl few small k))
