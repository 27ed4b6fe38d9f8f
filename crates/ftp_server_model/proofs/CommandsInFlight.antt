-- Command lines in flight, as the server hears them.
use Rattle.std.proofs.Common.{◌≡◌, ℕ, List, [], ◌∷◌, ◌++◌, Bool, true, false, not, ◌&&◌, ◌==◌, Option, Some, None, refl, sym, ap, subst, ◌∙◌, arith}
use Rattle.std.specs.Prelude.{if◌then◌else◌}
use Rattle.std.specs.List.{flat_map, list_all}
use Rattle.ftp_nvt.specs.Lines.{NvtEvent, IsNoneOf, written_line}
use Rattle.ftp_command.specs.Line.{IsLine, is_no_feed, line_of}
use Rattle.ftp_command.proofs.CarriedLemmas.{carried}
use Rattle.ftp_pieces.specs.Machine.{after, gives}
use Rattle.ftp_ends.specs.Ear.{Ear, quiet, ear, ear_out, ear_step}
use Rattle.ftp_server_model.specs.InFlight.{ServerHearsPieces, ServerHearsLine, ServerHearsEachLine, ServerHearsCommand, ServerDropsAnswer, LineLeavesEar, ServerHearsRow}
use Rattle.ftp_server_model.specs.Machine.{Reading, given_out, obeyed, waited, later, is_idle, aborts, abort_said, aborted, is_abort, heard_line, heard_events, hears_octet, hears, may_hear, MayHear}
use Rattle.ftp_server_model.specs.View.{Transfer, View, line_limit}
use Rattle.ftp_server_model.specs.declared.heard.HeardLine.{HeardLine}
use Rattle.ftp_server_model.specs.declared.session.ServerLink.{ServerLink}
use Rattle.ftp_server_model.specs.declared.session.ServerLink.TheVariants as Data
use Rattle.ftp_server_model.specs.declared.session.Transfer.TheVariants as Transfers
use Rattle.ftp_ends.proofs.LineInFlight.{no_more, Closes, unended, line_closes, written_is, front_of_front, front_says, answer_is_dropped}
use Rattle.ftp_server_model.proofs.ReadingLemmas.{reads_stated}

-- ---- octets of which nothing is said

pub in_pieces : ServerHearsPieces
in_pieces read v [] back = refl
in_pieces read v (octet ∷ front) back = in_pieces read (hears_octet read v octet) front back

abbrev with_ear : Ear → View → View
with_ear e v = record v { ear = e }

-- they change the ear alone
silence : (read : Reading) (v : View) (octets : List ℕ) → gives (ear line_limit) v.ear octets ≡ []
    → hears read v octets ≡ with_ear (after (ear line_limit) v.ear octets) v
unfolding hears_octet
silence read v [] none = refl
silence read v (octet ∷ octets) none =
    let both = no_more (ear_out line_limit v.ear octet) (gives (ear line_limit) (ear_step line_limit v.ear octet) octets) none in
    let w : View = with_ear (ear_step line_limit v.ear octet) v in
    let one : hears_octet read v octet ≡ w = octet_silent (ear_out line_limit v.ear octet) both.0 in
    ap (λ u. hears read u octets) one ∙ silence read w octets both.1
  where
    octet_silent : (events : List NvtEvent) → events ≡ [] → heard_events read events (with_ear (ear_step line_limit v.ear octet) v) ≡ with_ear (ear_step line_limit v.ear octet) v
    octet_silent events none = ap (λ l. heard_events read l (with_ear (ear_step line_limit v.ear octet) v)) none

-- so each of them may be taken where the first may
silence_may : (read : Reading) (v : View) (octets : List ℕ) → gives (ear line_limit) v.ear octets ≡ [] → may_hear v ≡ true → MayHear read v octets
unfolding hears_octet
silence_may read v [] none may = tt
silence_may read v (octet ∷ octets) none may =
    let both = no_more (ear_out line_limit v.ear octet) (gives (ear line_limit) (ear_step line_limit v.ear octet) octets) none in
    let w : View = with_ear (ear_step line_limit v.ear octet) v in
    let one : hears_octet read v octet ≡ w = ap (λ l. heard_events read l w) both.0 in
    let P : View → Type 0 = λ u. MayHear read u octets in
    (may, subst P (sym one) (silence_may read w octets both.1 may))

may_both : (read : Reading) (v : View) (xs ys : List ℕ) → MayHear read v xs → MayHear read (hears read v xs) ys → MayHear read v (xs ++ ys)
may_both read v [] ys one other = other
may_both read v (x ∷ xs) ys one other = (one.0, may_both read (hears_octet read v x) xs ys one.1 other)

-- ---- a line

lacks_feed : (text : List ℕ) → list_all is_no_feed text ≡ true → IsNoneOf 10 text
lacks_feed [] none = tt
lacks_feed (c ∷ cs) none = (first (c == 10) (list_all is_no_feed cs) none, lacks_feed cs (second (c == 10) (list_all is_no_feed cs) none))
  where
    first : (b d : Bool) → (not b && d) ≡ true → b ≡ false
    first false d e = refl
    first true d e = absurd (cc)

    second : (b d : Bool) → (not b && d) ≡ true → d ≡ true
    second false d e = e
    second true d e = absurd (cc)

closes : (text : List ℕ) → IsLine text → Closes line_limit text
closes text is = line_closes line_limit text (lacks_feed text is.0) (omega (arith, is.1))

hears_line : (read : Reading) (text : List ℕ) (v : View) → IsLine text → v.ear ≡ quiet → ServerHearsLine read text v
unfolding hears_octet
hears_line read text v is rest =
    let c = closes text is in
    let e : Ear = c.kept in
    let none : gives (ear line_limit) v.ear (unended text) ≡ [] = ap (λ s. gives (ear line_limit) s (unended text)) rest ∙ c.keeps.says in
    let here : hears read v (unended text) ≡ with_ear e v =
    silence read v (unended text) none ∙ ap (λ s. with_ear s v) (ap (λ s. after (ear line_limit) s (unended text)) rest ∙ c.keeps.leads) in
    let whole : hears read v (written_line text) ≡ heard_line (read text) (with_ear quiet v) =
    ap (hears read v) (written_is text) ∙ in_pieces read v (unended text) (10 ∷ []) ∙ ap (λ u. hears read u (10 ∷ [])) here
    ∙ ap (λ l. heard_events read l (with_ear (ear_step line_limit e 10) v)) c.ends.says
    ∙ ap (λ s. heard_line (read text) (with_ear s v)) c.ends.leads in
    record {
      cut = λ front back octet cut.
          let said = front_says line_limit quiet e front (unended text) (front_of_front front back (unended text) octet 10 (cut ∙ written_is text)) c.keeps in
          silence read v front (ap (λ s. gives (ear line_limit) s front) rest ∙ said)
          ∙ ap (λ s. with_ear (after (ear line_limit) s front) v) rest;
      whole = whole ∙ ap (λ s. heard_line (read text) (with_ear s v)) (sym rest);
      may = λ may.
          let P : List ℕ → Type 0 = MayHear read v in
          let Q : View → Type 0 = λ u. MayHear read u (10 ∷ []) in
          subst P (sym (written_is text))
          (may_both read v (unended text) (10 ∷ []) (silence_may read v (unended text) none may) (subst Q (sym here) (may, tt)));
    }

pub line_is_heard : ServerHearsEachLine
line_is_heard read text v is rest = hears_line read text v is rest

pub command_is_heard : ServerHearsCommand
command_is_heard read command v reads typed stated rest =
    (hears_line read (line_of command) v (carried command typed stated) rest).whole ∙ ap (λ heard. heard_line heard v) (reads_stated read command reads typed stated)

answer_dropped : (read : Reading) (v : View) (octets : List ℕ) → v.ear ≡ quiet → gives (ear line_limit) quiet octets ≡ []
    → after (ear line_limit) quiet octets ≡ quiet → hears read v octets ≡ v
answer_dropped read v octets rest none leads =
    silence read v octets (ap (λ s. gives (ear line_limit) s octets) rest ∙ none)
    ∙ ap (λ s. with_ear s v) (ap (λ s. after (ear line_limit) s octets) rest ∙ leads ∙ sym rest)

pub answer_is_dropped_here : ServerDropsAnswer
answer_is_dropped_here read octet v rest =
    let both = answer_is_dropped line_limit octet in
    (answer_dropped read v (255 ∷ 252 ∷ octet ∷ []) rest (both.0.front 3) both.0.rest, answer_dropped read v (255 ∷ 254 ∷ octet ∷ []) rest (both.1.front 3) both.1.rest)

-- ---- what a line does leaves the ear as it is

given_out_ear : (connection : ServerLink Transfer) (v : View) → (given_out connection v).ear ≡ v.ear
given_out_ear (Data.Transferring (Transfers.Download [])) v = refl
given_out_ear (Data.Transferring (Transfers.Download (octet ∷ rest))) v = refl
given_out_ear (Data.Transferring (Transfers.Listing [])) v = refl
given_out_ear (Data.Transferring (Transfers.Listing (octet ∷ rest))) v = refl
given_out_ear (Data.Transferring (Transfers.Upload path keep d)) v = refl
given_out_ear (Data.Transferring Transfers.OverLimit) v = refl
given_out_ear (Data.Asked asked) v = refl
given_out_ear (Data.Opening transfer way) v = refl
given_out_ear Data.Free v = refl
given_out_ear (Data.Active endpoint) v = refl
given_out_ear Data.Passive v = refl
given_out_ear Data.Ready v = refl

obeyed_ear : (heard : HeardLine (List ℕ)) (v : View) → (obeyed heard v).ear ≡ v.ear
unfolding obeyed
obeyed_ear heard v = given_out_ear _ _

waited_ear : (waiting : Option (HeardLine (List ℕ))) (v : View) → (waited waiting v).ear ≡ v.ear
waited_ear None v = refl
waited_ear (Some heard) v = by_idle (is_idle v)
  where
    by_idle : (idle : Bool) → (if idle then obeyed heard (record v { waiting = None }) else v).ear ≡ v.ear
    by_idle true = obeyed_ear heard (record v { waiting = None })
    by_idle false = refl

later_ear : (v : View) → (later v).ear ≡ v.ear
later_ear v = waited_ear v.waiting v

aborts_ear : (connection : ServerLink Transfer) (v : View) → (aborts connection v).ear ≡ v.ear
aborts_ear (Data.Transferring transfer) v = refl
aborts_ear (Data.Opening transfer way) v = refl
aborts_ear (Data.Asked asked) v = refl
aborts_ear Data.Free v = refl
aborts_ear (Data.Active endpoint) v = refl
aborts_ear Data.Passive v = refl
aborts_ear Data.Ready v = refl

heard_line_ear : (heard : HeardLine (List ℕ)) (v : View) → (heard_line heard v).ear ≡ v.ear
heard_line_ear heard v = by_abort (is_abort heard v)
  where
    by_abort : (abort : Bool) → (if abort then aborted v else later (record v { waiting = Some heard })).ear ≡ v.ear
    by_abort true = later_ear (abort_said (aborts v.session.connection v)) ∙ aborts_ear v.session.connection v
    by_abort false = later_ear (record v { waiting = Some heard })

pub line_leaves_ear : LineLeavesEar
line_leaves_ear read text v = heard_line_ear (read text) v

pub row_is_heard : ServerHearsRow
row_is_heard read [] v all rest = refl
row_is_heard read (text ∷ texts) v all rest =
    let one = hears_line read text v all.0 rest in
    let w : View = heard_line (read text) v in
    in_pieces read v (written_line text) (flat_map written_line texts) ∙ ap (λ u. hears read u (flat_map written_line texts)) one.whole
    ∙ row_is_heard read texts w all.1 (heard_line_ear (read text) v ∙ rest)
