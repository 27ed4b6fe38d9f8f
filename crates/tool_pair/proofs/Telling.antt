-- What a transcript tells of octets, line by line, and of deliveries, one after another.
use Rattle.std.proofs.Common.{◌≡◌, ◌≢◌, ◌∙◌, ◌+◌, ◌-◌, ◌<◌, ◌==◌, ℕ, suc, Bool, true, false, List, [], ◌∷◌, ◌++◌, length, length-append, take, drop, map, flat_map, codes, refl, sym, ap, subst, inl, inr, append-nil, append_assoc, ne_eqb, arith}
use Rattle.std.specs.Prelude.{◌⊎◌, Result, Ok, Err, OnOk, if◌then◌else◌}
use Rattle.std.proofs.Math.Seq.{drop-append_seam, take-append_seam}
use Rattle.std.proofs.lemmas.Grind.{flat_map-append}
use Rattle.std.proofs.lemmas.List.{map-append}
use Rattle.std.proofs.lemmas.List.Elements.{All-head, All-tail}
use Rattle.ftp_facts.specs.Fact.{Lacks}
use Rattle.ftp_nvt.specs.Lines as nvt
use Rattle.ftp_nvt.specs.Lines.{Cut, cut, last_octet, without_return}
use Rattle.ftp_nvt.proofs.CutLemmas.{cut-append, cut-append-inside, cut-nil, cut_behind, last_octet-append}
use Rattle.ftp_pair_events.specs.declared.queues.between.Queue as channels
use Rattle.ftp_pair_events.specs.declared.queues.between.Queue.TheVariants as Queues
use Rattle.ftp_pair_events.specs.events.Shown.{queue_of}
use Rattle.laws_world.specs.Events.{ControlToClient, ControlToServer, DataToClient, DataToServer}
use Rattle.tool_pair.specs.Transcript.{Delivery, delivered, lines_ended_by, lines_in, to_client, to_server, told_after, told_line, told_of, transcript}
use Rattle.tool_pair.specs.Telling.{Ends, HasTold, TellsMore}
use Rattle.tool_pair.specs.declared.transcript.Transcript.{Transcript}

-- ---- lines

-- none of these octets is an LF, as cuts ask for it
no_feed : (octets : List ℕ) → Lacks octets 10 → nvt.IsNoneOf 10 octets
no_feed [] lacks = tt
no_feed (octet ∷ octets) lacks = (ne_eqb octet 10 (All-head (λ each. each ≢ 10) octet octets lacks), no_feed octets (All-tail (λ each. each ≢ 10) octet octets lacks))

-- the last octet of a line goes where it is a CR
pub return_gone : (line front : List ℕ) (last : ℕ) → line ≡ front ++ last ∷ [] → last ≡ 13 → front ≡ without_return line
return_gone line front last is cr =
    let whole = front ++ last ∷ [] in
    sym (ap without_return is ∙ ap (λ o. if o == 13 then take (length whole - 1) whole else whole) (last_octet-append 10 front last ∙ cr)
    ∙ ap (λ n. take n whole) (omega (arith, length-append front (last ∷ []))) ∙ take-append_seam front (last ∷ []))

-- and else it stays
pub return_none : (line front : List ℕ) (last : ℕ) → line ≡ front ++ last ∷ [] → last ≢ 13 → line ≡ without_return line
return_none line front last is other =
    let whole = front ++ last ∷ [] in
    sym (ap without_return is ∙ ap (λ o. if o == 13 then take (length whole - 1) whole else whole) (last_octet-append 10 front last)
    ∙ ap (λ b. if b then take (length whole - 1) whole else whole) (ne_eqb last 13 other) ∙ sym is)

-- what is left of octets is shorter
pub shorter : (text front more : List ℕ) → text ≡ front ++ 10 ∷ more → length more < length text
shorter text front more is =
    let e : length text ≡ length front + suc (length more) = ap length is ∙ length-append front (10 ∷ more) in
    omega (arith, e)

-- ---- what octets end

-- no octets end no line
pub ends_none : (who part lines : List ℕ) → Ends who [] part lines part lines
ends_none who part lines = record {
  ended = [];
  lines = sym (append-nil lines);
  cuts = λ before is. ap cut (append-nil before)
      ∙ ap (λ l. record { ended = l; rest = (cut before).rest }) (sym (append-nil (cut before).ended)) ∙ ap (λ r. record { ended = (cut before).ended ++ []; rest = r }) is;
}

-- octets without an LF make the unfinished line longer
pub ends_plain : (who octets part lines : List ℕ) → Lacks octets 10 → Ends who octets part lines (part ++ octets) lines
ends_plain who octets part lines lacks = record {
  ended = [];
  lines = sym (append-nil lines);
  cuts = λ before is. cut-append-inside before octets (no_feed octets lacks)
      ∙ ap (λ l. record { ended = l; rest = (cut before).rest ++ octets }) (sym (append-nil (cut before).ended))
      ∙ ap (λ r. record { ended = (cut before).ended ++ []; rest = r ++ octets }) is;
}

-- those before an LF end one with it
pub ends_line : (who line part lines : List ℕ) → Lacks line 10
    → Ends who (line ++ 10 ∷ []) part lines [] (lines ++ told_line who (without_return (part ++ line)))
ends_line who line part lines lacks = record {
  ended = (part ++ line) ∷ [];
  lines = ap (λ l. lines ++ l) (sym (append-nil (told_line who (without_return (part ++ line)))));
  cuts = λ before is. ap cut (sym (append_assoc before line (10 ∷ []))) ∙ cut-append (before ++ line) 10
      ∙ ap (λ k. cut_behind k 10) (cut-append-inside before line (no_feed line lacks))
      ∙ ap (λ r. record { ended = (cut before).ended ++ (r ++ line) ∷ []; rest = [] }) is;
}

-- octets and then others end what both end
pub ends_then : (who one other part lines mid_part mid_lines new_part new_lines : List ℕ) → Ends who one part lines mid_part mid_lines
    → Ends who other mid_part mid_lines new_part new_lines → Ends who (one ++ other) part lines new_part new_lines
ends_then who one other part lines mid_part mid_lines new_part new_lines first second = record {
  ended = first.ended ++ second.ended;
  lines = second.lines ∙ ap (λ l. l ++ flat_map (told_line who) (map without_return second.ended)) first.lines
      ∙ append_assoc lines (flat_map (told_line who) (map without_return first.ended)) (flat_map (told_line who) (map without_return second.ended))
      ∙ ap (λ l. lines ++ l) (sym (ap (flat_map (told_line who)) (map-append without_return first.ended second.ended)
      ∙ flat_map-append (told_line who) (map without_return first.ended) (map without_return second.ended)));
  cuts = λ before is. let so = first.cuts before is in
      ap cut (sym (append_assoc before one other)) ∙ second.cuts (before ++ one) (ap (λ k. k.rest) so)
      ∙ ap (λ k. record { ended = k.ended ++ second.ended; rest = new_part }) so
      ∙ ap (λ l. record { ended = l; rest = new_part }) (append_assoc (cut before).ended first.ended second.ended);
}

-- ---- one delivery more

to_server-append : (before more : List Delivery) → to_server (before ++ more) ≡ to_server before ++ to_server more
to_server-append [] more = refl
to_server-append (delivered ControlToServer octets ∷ before) more =
    ap (λ l. octets ++ l) (to_server-append before more) ∙ sym (append_assoc octets (to_server before) (to_server more))
to_server-append (delivered ControlToClient octets ∷ before) more = to_server-append before more
to_server-append (delivered DataToServer octets ∷ before) more = to_server-append before more
to_server-append (delivered DataToClient octets ∷ before) more = to_server-append before more

to_client-append : (before more : List Delivery) → to_client (before ++ more) ≡ to_client before ++ to_client more
to_client-append [] more = refl
to_client-append (delivered ControlToClient octets ∷ before) more =
    ap (λ l. octets ++ l) (to_client-append before more) ∙ sym (append_assoc octets (to_client before) (to_client more))
to_client-append (delivered ControlToServer octets ∷ before) more = to_client-append before more
to_client-append (delivered DataToServer octets ∷ before) more = to_client-append before more
to_client-append (delivered DataToClient octets ∷ before) more = to_client-append before more

-- it is told after the others
told-append : (front before : List Delivery) (next : Delivery)
    → told_after front (before ++ next ∷ []) ≡ told_after front before ++ told_of (front ++ before) next
told-append front [] next = append-nil (told_of front next) ∙ ap (λ l. told_of l next) (sym (append-nil front))
told-append front (one ∷ before) next =
    ap (λ l. told_of front one ++ l) (told-append (front ++ one ∷ []) before next)
    ∙ sym (append_assoc (told_of front one) (told_after (front ++ one ∷ []) before) (told_of ((front ++ one ∷ []) ++ before) next))
    ∙ ap (λ l. (told_of front one ++ told_after (front ++ one ∷ []) before) ++ told_of l next) (append_assoc front (one ∷ []) before)

-- the lines that octets end after others
lines_more : (before octets : List ℕ) (ended : List (List ℕ)) (rest : List ℕ) → cut (before ++ octets) ≡ record { ended = (cut before).ended ++ ended; rest = rest }
    → map without_return ended ≡ lines_ended_by before octets
lines_more before octets ended rest is =
    sym (ap (λ l. drop (length (lines_in before)) l) (ap (λ k. map without_return k.ended) is ∙ map-append without_return (cut before).ended ended)
    ∙ drop-append_seam (lines_in before) (map without_return ended))

-- where it is wanted, what a delivery tells stands after the rest
wanted_more : (was wanted : Bool) (before : List Delivery) (next : Delivery) (old new told : List ℕ) → was ≡ true → wanted ≡ was → old ≡ transcript was before
    → new ≡ old ++ told → told ≡ told_of before next → new ≡ transcript wanted (before ++ next ∷ [])
wanted_more was wanted before next old new told so same is more by =
    more ∙ ap (λ l. l ++ told) (is ∙ ap (λ b. transcript b before) so) ∙ ap (λ l. told_after [] before ++ l) by ∙ sym (told-append [] before next)
    ∙ ap (λ b. transcript b (before ++ next ∷ [])) (sym (same ∙ so))

-- the server took octets of the control connection
pub tells_server : {A : Type 0} (old new : Transcript A) (octets : List ℕ) → old.wanted ≡ true → new.wanted ≡ old.wanted → new.to_client.items ≡ old.to_client.items
    → Ends (codes "C: ") octets old.to_server.items old.lines.items new.to_server.items new.lines.items → TellsMore old (delivered ControlToServer octets ∷ []) new
tells_server old new octets so wanted other ends = record {
  wanted = wanted;
  told = λ before has.
      let is = ends.cuts (to_server before) (sym (has.to_server so)) in record {
        lines = wanted_more old.wanted new.wanted before (delivered ControlToServer octets) old.lines.items new.lines.items (flat_map (told_line (codes "C: ")) (map without_return ends.ended))
            so wanted has.lines ends.lines
            (ap (flat_map (told_line (codes "C: "))) (lines_more (to_server before) octets ends.ended new.to_server.items is));
        to_server = λ _. sym (ap (λ l. (cut l).rest) (to_server-append before (delivered ControlToServer octets ∷ []) ∙ ap (λ l. to_server before ++ l) (append-nil octets)) ∙ ap (λ k. k.rest) is);
        to_client = λ _. other ∙ has.to_client so ∙ sym (ap (λ l. (cut l).rest) (to_client-append before (delivered ControlToServer octets ∷ []) ∙ append-nil (to_client before)));
      };
}

-- the client took octets of it
pub tells_client : {A : Type 0} (old new : Transcript A) (octets : List ℕ) → old.wanted ≡ true → new.wanted ≡ old.wanted → new.to_server.items ≡ old.to_server.items
    → Ends (codes "S: ") octets old.to_client.items old.lines.items new.to_client.items new.lines.items → TellsMore old (delivered ControlToClient octets ∷ []) new
tells_client old new octets so wanted other ends = record {
  wanted = wanted;
  told = λ before has.
      let is = ends.cuts (to_client before) (sym (has.to_client so)) in record {
        lines = wanted_more old.wanted new.wanted before (delivered ControlToClient octets) old.lines.items new.lines.items (flat_map (told_line (codes "S: ")) (map without_return ends.ended))
            so wanted has.lines ends.lines
            (ap (flat_map (told_line (codes "S: "))) (lines_more (to_client before) octets ends.ended new.to_client.items is));
        to_server = λ _. other ∙ has.to_server so ∙ sym (ap (λ l. (cut l).rest) (to_server-append before (delivered ControlToClient octets ∷ []) ∙ append-nil (to_server before)));
        to_client = λ _. sym (ap (λ l. (cut l).rest) (to_client-append before (delivered ControlToClient octets ∷ []) ∙ ap (λ l. to_client before ++ l) (append-nil octets)) ∙ ap (λ k. k.rest) is);
      };
}

-- octets of data are told nothing of
tells_data : {A : Type 0} (t : Transcript A) (next : Delivery) → to_server (next ∷ []) ≡ [] → to_client (next ∷ []) ≡ [] → ((before : List Delivery) → [] ≡ told_of before next)
    → t.wanted ≡ true → TellsMore t (next ∷ []) t
tells_data t next one other none so = record {
  wanted = refl;
  told = λ before has. record {
    lines = wanted_more t.wanted t.wanted before next t.lines.items t.lines.items [] so refl has.lines (sym (append-nil t.lines.items)) (none before);
    to_server = λ _. has.to_server so ∙ sym (ap (λ l. (cut l).rest) (to_server-append before (next ∷ []) ∙ ap (λ l. to_server before ++ l) one ∙ append-nil (to_server before)));
    to_client = λ _. has.to_client so ∙ sym (ap (λ l. (cut l).rest) (to_client-append before (next ∷ []) ∙ ap (λ l. to_client before ++ l) other ∙ append-nil (to_client before)));
  };
}

pub tells_up : {A : Type 0} (t : Transcript A) (octets : List ℕ) → t.wanted ≡ true → TellsMore t (delivered DataToServer octets ∷ []) t
tells_up t octets so = tells_data t (delivered DataToServer octets) refl refl (λ before. refl) so

pub tells_down : {A : Type 0} (t : Transcript A) (octets : List ℕ) → t.wanted ≡ true → TellsMore t (delivered DataToClient octets ∷ []) t
tells_down t octets so = tells_data t (delivered DataToClient octets) refl refl (λ before. refl) so

-- nothing is told where no transcript is wanted
pub tells_nobody : {A : Type 0} (t : Transcript A) (given : List Delivery) → t.wanted ≡ false → TellsMore t given t
tells_nobody t given none = record {
  wanted = refl;
  told = λ before has. record {
    lines = has.lines ∙ ap (λ b. transcript b before) none ∙ sym (ap (λ b. transcript b (before ++ given)) none);
    to_server = λ so. absurd (let same : false ≡ true = sym none ∙ so in cc (same));
    to_client = λ so. absurd (let same : false ≡ true = sym none ∙ so in cc (same));
  };
}

-- ---- the code

-- a line that was put after the others, and none begins
pub ended : (who line part lines new_part new_lines whole bare : List ℕ) → Lacks line 10 → whole ≡ part ++ line → bare ≡ without_return whole → new_lines ≡ lines ++ told_line who bare
    → new_part ≡ [] → Ends who (line ++ 10 ∷ []) part lines new_part new_lines
ended who line part lines new_part new_lines whole bare lacks is text put none =
    let all : new_lines ≡ lines ++ told_line who (without_return (part ++ line)) = put ∙ ap (λ l. lines ++ told_line who l) (text ∙ ap without_return is) in
    subst (λ p. Ends who (line ++ 10 ∷ []) part lines p new_lines) (sym none)
    (subst (λ l. Ends who (line ++ 10 ∷ []) part lines [] l) (sym all) (ends_line who line part lines lacks))

-- lines of the front of octets, and one more
pub one_more : (who octets part lines mid_part mid_lines new_part new_lines rest line more : List ℕ)
    → (front : List ℕ) × (octets ≡ front ++ rest) × Ends who front part lines mid_part mid_lines → rest ≡ line ++ 10 ∷ more
    → Ends who (line ++ 10 ∷ []) mid_part mid_lines new_part new_lines
    → (front : List ℕ) × (octets ≡ front ++ more) × Ends who front part lines new_part new_lines
one_more who octets part lines mid_part mid_lines new_part new_lines rest line more so is ends = (
  so.0 ++ (line ++ 10 ∷ []),
  so.1 ∙ ap (λ l. so.0 ++ l) (is ∙ sym (append_assoc line (10 ∷ []) more)) ∙ sym (append_assoc so.0 (line ++ 10 ∷ []) more),
  ends_then who so.0 (line ++ 10 ∷ []) part lines mid_part mid_lines new_part new_lines so.2 ends,
)

-- and what follows the last of them
pub all_ended : (who octets part lines mid_part mid_lines new_part rest : List ℕ) → (front : List ℕ) × (octets ≡ front ++ rest) × Ends who front part lines mid_part mid_lines
    → Lacks rest 10 → new_part ≡ mid_part ++ rest → Ends who octets part lines new_part mid_lines
all_ended who octets part lines mid_part mid_lines new_part rest so lacks is =
    subst (λ o. Ends who o part lines new_part mid_lines) (sym so.1)
    (ends_then who so.0 rest part lines mid_part mid_lines new_part mid_lines so.2
    (subst (λ p. Ends who rest mid_part mid_lines p mid_lines) (sym is) (ends_plain who rest mid_part mid_lines lacks)))

-- no delivery tells nothing
nothing_told : (wanted : Bool) → transcript wanted [] ≡ []
nothing_told true = refl
nothing_told false = refl

-- a transcript without lines was told nothing
pub told_none : {A : Type 0} (t : Transcript A) → t.lines.items ≡ [] → t.to_server.items ≡ [] → t.to_client.items ≡ [] → HasTold t []
told_none t lines up down = record {
  lines = lines ∙ sym (nothing_told t.wanted);
  to_server = λ _. up ∙ sym (ap (λ k. k.rest) cut-nil);
  to_client = λ _. down ∙ sym (ap (λ k. k.rest) cut-nil);
}

-- the server took octets, where there was room for their lines
pub server_told : {A E : Type 0} (r : Result Unit E) (queue : channels.Queue) (old new : Transcript A) (octets : List ℕ) → queue ≡ Queues.ControlToServer → old.wanted ≡ true
    → new.wanted ≡ old.wanted → new.to_client.items ≡ old.to_client.items
    → OnOk r (Ends (codes "C: ") octets old.to_server.items old.lines.items new.to_server.items new.lines.items) → OnOk r (TellsMore old (delivered (queue_of queue) octets ∷ []) new)
server_told (Ok done) queue old new octets is so wanted other ends =
    subst (λ q. TellsMore old (delivered (queue_of q) octets ∷ []) new) (sym is) (tells_server old new octets so wanted other ends)
server_told (Err error) queue old new octets is so wanted other ends = tt

-- the client did
pub client_told : {A E : Type 0} (r : Result Unit E) (queue : channels.Queue) (old new : Transcript A) (octets : List ℕ) → queue ≡ Queues.ControlToClient → old.wanted ≡ true
    → new.wanted ≡ old.wanted → new.to_server.items ≡ old.to_server.items
    → OnOk r (Ends (codes "S: ") octets old.to_client.items old.lines.items new.to_client.items new.lines.items) → OnOk r (TellsMore old (delivered (queue_of queue) octets ∷ []) new)
client_told (Ok done) queue old new octets is so wanted other ends =
    subst (λ q. TellsMore old (delivered (queue_of q) octets ∷ []) new) (sym is) (tells_client old new octets so wanted other ends)
client_told (Err error) queue old new octets is so wanted other ends = tt

-- either took data
pub data_told : {A : Type 0} (queue : channels.Queue) (t : Transcript A) (octets : List ℕ) → (queue ≡ Queues.DataToServer) ⊎ (queue ≡ Queues.DataToClient) → t.wanted ≡ true
    → TellsMore t (delivered (queue_of queue) octets ∷ []) t
data_told queue t octets (inl is) so = subst (λ q. TellsMore t (delivered (queue_of q) octets ∷ []) t) (sym is) (tells_up t octets so)
data_told queue t octets (inr is) so = subst (λ q. TellsMore t (delivered (queue_of q) octets ∷ []) t) (sym is) (tells_down t octets so)
