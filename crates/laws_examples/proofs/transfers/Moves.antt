-- What is done with the data connection of a fetch and of an upload: each action of either end, where it can be done.
use Rattle.std.proofs.Common.{◌≡◌, inl, inr, ℕ, ◌<◌, false, true, true≢false, List, [], ◌∷◌, ◌++◌, length, take, drop, None, Some, refl, sym, ap, subst, ◌∙◌, append-nil, arith, codes, decimal}
use Rattle.std.proofs.lemmas.Fmt.{decimal_digit, decimal_step}
use Rattle.ftp_ports.specs.Asking.{Asked, Came, Connected, Ended as EndedBy, Shut}
use Rattle.ftp_ports.specs.Actions.{Done, Other}
use Rattle.ftp_ports.specs.Channel.{AreOctetsWritten, Channel, IsHad, IsOpened, IsRead, with_rest}
use Rattle.ftp_ports.specs.Machine.{Closed, End, Gave, Got, Left, Listening, Opened, Received, Wrote, leaves, rest_by, rest_left}
use Rattle.ftp_ports.specs.declared.whole.Fate.TheVariants as Fates
use Rattle.ftp_ports.specs.declared.whole.Rest.{Rest}
use Rattle.ftp_ports.specs.declared.whole.Rest.TheVariants as Rests
use Rattle.ftp_client_driver.specs.Side.{Report, is_operation_under_way}
use Rattle.ftp_client_model.specs.Calls as near
use Rattle.ftp_client_model.specs.View.{View as Near}
use Rattle.ftp_endpoint.specs.declared.endpoint.Endpoint.{Endpoint}
use Rattle.ftp_endpoint.specs.declared.host.Host.{Host}
use Rattle.ftp_ends.specs.RowWords.{here}
use Rattle.ftp_ends.specs.declared.link.Wants.TheVariants as Want
use Rattle.ftp_operation.specs.Answer.{Said}
use Rattle.ftp_server_model.specs.Calls as far
use Rattle.ftp_server_model.specs.Failing.{EndFails, GiveFails}
use Rattle.ftp_server_model.specs.Far.{Steps}
use Rattle.ftp_server_model.specs.Machine.{later}
use Rattle.ftp_server_model.specs.View.{View as Far}
use Rattle.laws_examples.proofs.transfers.Playing.{far_in, near_in, none_yet, one_stands, server_of}

-- ---- what becomes of a data connection

-- it was opened: nothing came over it, and nothing was given
pub opened_now : {host : Host} (rest : Rest) (had : Asked) → IsHad host had None None
    → IsOpened host (had ∷ []) None None rest none_yet (with_rest rest (one_stands [] []))
opened_now rest had is_had = record {
  had = had;
  is_had = is_had;
  none = refl;
  alone = refl;
  adds = tt;
  stands = refl;
  fate = refl;
  rests = refl;
  left = refl;
  written = refl;
  unwritten = refl;
  untold = refl;
}

-- octets were read
read_now : (octets : List ℕ) → IsRead octets (one_stands [] []) (one_stands [] octets)
read_now octets = record {
  is_open = (refl, refl);
  stands = refl;
  fate = refl;
  rest = refl;
  told = refl;
  read = tt;
  written = tt;
  untold = refl;
  unwritten = refl;
  asked = refl;
}

-- the first of those that were given were written
pub written_now : (rest : Rest) (octets all more : List ℕ) → 0 < length all → all ≡ octets ++ more
    → AreOctetsWritten octets (with_rest rest (one_stands all [])) (with_rest rest (one_stands more []))
written_now rest octets all more some first = record {
  is_open = (refl, refl);
  some = some;
  stands = refl;
  fate = refl;
  rest = refl;
  first = first;
  wrote = tt;
  left = tt;
  untold = refl;
  asked = refl;
}

-- ---- the server, which listens and gives

-- a call that does its step, and is refused nothing
pub steps : (Fails : Far → Far → Type 0) (step : Far → Far) (v new : Far) → new ≡ later (step v) → Steps Fails step (server_of v) (server_of new)
steps Fails step v new is = record {
  done = λ calm. is;
  failed = λ course moved. absurd (moved refl);
  counted = ((0, omega arith, refl), ((0, omega arith, refl), omega arith));
}

-- it is told a port
pub listens : (port : ℕ) (v new : Far) → far.wants v ≡ Want.Listen → v.owed ≡ [] → new ≡ later (far.listening_step port v)
    → Done (Other (Listening port)) (far_in none_yet v []) (far_in none_yet new [])
listens port v new wants owed is = (((steps (λ v w. ⊥) (far.listening_step port) v new is, refl), (tt, refl), (wants, owed)), refl)

-- it accepts
pub accepts : (host : Host) (v new : Far) → far.wants v ≡ Want.Accept → v.owed ≡ [] → new ≡ later (far.opened_step host v)
    → Rests.Nothing ≡ rest_by (far.wants new)
    → Done (Other (Opened host (Came host None None ∷ []) None None Rests.Nothing)) (far_in none_yet v []) (far_in (one_stands [] []) new [])
accepts host v new wants owed is rest = (
  (
    ((steps (λ v w. ⊥) (far.opened_step host) v new is, refl), rest),
    opened_now Rests.Nothing (Came host None None) (inl refl),
    (wants, owed),
  ),
  refl,
)

-- it gives octets, and has more to give or not
pub gives : (rest : Rest) (octets : List ℕ) (v new : Far) → far.wants v ≡ Want.Send → octets ≡ take (length octets) (far.to_give v)
    → rest ≡ rest_left (drop (length octets) (far.to_give v)) → new ≡ later (far.given_step (length octets) v)
    → Done (Other (Gave (length octets) octets rest)) (far_in (one_stands [] []) v []) (far_in (with_rest rest (one_stands octets [])) new [])
gives rest octets v new wants first more is = (
  (
    ((λ course. (first, more)), (steps (GiveFails (length octets)) (far.given_step (length octets)) v new is, refl)),
    (refl, (refl, refl)),
    wants,
  ),
  refl,
)

-- they are written
pub writes : (rest : Rest) (octets : List ℕ) (v : Far) → 0 < length octets
    → Done (Other (Wrote octets)) (far_in (with_rest rest (one_stands octets [])) v []) (far_in (with_rest rest (one_stands [] [])) v [])
writes rest octets v some = (
  (
    refl,
    written_now rest octets octets [] some (sym (append-nil octets)),
    tt,
  ),
  refl,
)

-- it ends its data connection
pub far_leaves : (v : Far) → far.wants v ≡ Want.CloseData → v.owed ≡ []
    → Done (Other (Left (EndedBy None None))) (far_in (one_stands [] []) v []) (far_in none_yet v [])
far_leaves v wants owed = (
  (
    refl,
    record { ended = inl (refl, refl); adds = tt; stands = refl; fate = refl; rest = refl; unwritten = refl; untold = refl },
    (inl (ap leaves wants), (refl, refl, refl), inl owed),
  ),
  refl,
)

-- and is told so
pub far_closes : (v new : Far) → far.wants v ≡ Want.CloseData → new ≡ later (far.close_step v)
    → Done (Other Closed) (far_in none_yet v []) (far_in none_yet new [])
far_closes v new wants is = (((steps (λ v w. ⊥) far.close_step v new is, refl), (refl, refl), wants), refl)

-- ---- the client, which dials and takes

-- the other end ended the data connection, and this one was told
abbrev pub one_over : Channel
one_over = record (one_stands [] []) { fate = Fates.Over }

-- it dials
pub dials : (endpoint : Endpoint) (n : Near) → near.wants n ≡ Want.Connect endpoint → n.owed ≡ []
    → Rests.Nothing ≡ rest_by (near.wants (near.data_opened endpoint.host n))
    → Done (Other (Opened endpoint.host (Connected endpoint None None ∷ []) None None Rests.Nothing)) (near_in none_yet n [])
    (near_in (one_stands [] []) (near.data_opened endpoint.host n) [])
dials endpoint n wants owed rest = (
  (
    ((((λ calm. refl), (λ moved. absurd (moved refl))), inl refl), rest),
    opened_now Rests.Nothing (Connected endpoint None None) (inr (endpoint, refl, refl)),
    (wants, owed),
  ),
  refl,
)

-- octets are read
pub gets : (octets : List ℕ) (n : Near) → near.wants n ≡ Want.Receive
    → Done (Other (Got octets)) (near_in (one_stands [] []) n []) (near_in (one_stands [] octets) n [])
gets octets n wants = (
  (
    refl,
    read_now octets,
    wants,
  ),
  refl,
)

-- it takes the first of them
pub takes_one : (octet : ℕ) (rest : List ℕ) (n : Near) → near.wants n ≡ Want.Receive → near.may_receive n ≡ true
    → Done (Other (Received (octet ∷ rest) 1)) (near_in (one_stands [] (octet ∷ rest)) n []) (near_in (one_stands [] rest) (near.receives_octet n octet) [])
takes_one octet rest n wants can =
    let may : (k : ℕ) → k < 1 → near.may_receive (near.receives n (take k (octet ∷ rest))) ≡ true =
    λ k less. subst (λ i. near.may_receive (near.receives n (take i (octet ∷ rest))) ≡ true) (zero_below k less) can in (
      (
        (((λ calm. (refl, may)), (λ moved. absurd (moved refl))), inl refl),
        (refl, refl),
        ((refl, refl), wants),
      ),
      refl,
    )
  where
    zero_below : (k : ℕ) → k < 1 → 0 ≡ k
    zero_below k less = omega (arith, less)

-- it is told the end
pub ends : (n : Near) → near.wants n ≡ Want.Receive → Done (Other End) (near_in (one_stands [] []) n []) (near_in one_over (near.data_end n) [])
ends n wants = (((((λ calm. refl), (λ moved. absurd (moved refl))), inl refl), (refl, (refl, refl), tt, refl), wants), refl)

-- it reports
pub says_answer : (channel : Channel) (n : Near) (said : Said) → near.report_of n ≡ Some said
    → Done (Other (Report (Some said))) (near_in channel n []) (near_in channel (near.reports n) [])
says_answer channel n said some = (((sym some, (refl, refl)), refl, tt), refl)

-- its data connection is left
pub near_leaves : (n : Near) → n.owed ≡ [] → Done (Other (Left (EndedBy None None))) (near_in one_over n []) (near_in none_yet n [])
near_leaves n owed = (
  (
    refl,
    record { ended = inl (refl, refl); adds = tt; stands = refl; fate = refl; rest = refl; unwritten = refl; untold = refl },
    (tt, (refl, refl, refl), inl owed),
  ),
  refl,
)

-- and it is told so, where no operation is under way
pub near_closes : (n : Near) → is_operation_under_way n.job ≡ false → Done (Other Closed) (near_in none_yet n []) (near_in none_yet (near.data_closed n) [])
near_closes n free = (((refl, refl), (refl, refl), λ sound under. absurd (true≢false (sym under ∙ free))), refl)

-- ---- the client, which gives

-- it gives the last octets
pub near_gives : (octets : List ℕ) (n new : Near) → near.wants n ≡ Want.Send → octets ≡ take (length octets) (near.to_give n)
    → new ≡ near.gives_data (length octets) n → Rests.Nothing ≡ rest_by (near.wants new)
    → Done (Other (Gave (length octets) octets Rests.Nothing)) (near_in (one_stands [] []) n []) (near_in (one_stands octets []) new [])
near_gives octets n new wants first is rest =
    (((first, (((λ calm. is), (λ moved. absurd (moved refl))), inl refl), rest), (refl, (refl, refl)), wants), refl)

-- they are written
pub near_writes : (octets : List ℕ) (n : Near) → 0 < length octets
    → Done (Other (Wrote octets)) (near_in (one_stands octets []) n []) (near_in (one_stands [] []) n [])
near_writes octets n some = (
  (
    refl,
    written_now Rests.Nothing octets octets [] some (sym (append-nil octets)),
    tt,
  ),
  refl,
)

-- it ends its data connection
pub near_ends : (n : Near) → near.wants n ≡ Want.CloseData → n.owed ≡ []
    → Done (Other (Left (EndedBy None None))) (near_in (one_stands [] []) n []) (near_in none_yet n [])
near_ends n wants owed = (
  (
    refl,
    record { ended = inl (refl, refl); adds = tt; stands = refl; fate = refl; rest = refl; unwritten = refl; untold = refl },
    (inl (ap leaves wants), (refl, refl, refl), inl owed),
  ),
  refl,
)

-- and is told so
pub near_is_closed : (n : Near) → near.wants n ≡ Want.CloseData → Done (Other Closed) (near_in none_yet n []) (near_in none_yet (near.data_closed n) [])
near_is_closed n wants = (((refl, refl), (refl, refl), λ sound under. wants), refl)

-- its port is shut, where no operation is under way
pub near_shuts : (n : Near) → is_operation_under_way n.job ≡ false → Done (Other (Left Shut)) (near_in none_yet n []) (near_in none_yet n [])
near_shuts n free = (
  (
    refl,
    record { ended = refl; adds = tt; stands = refl; fate = refl; rest = refl; unwritten = refl; untold = refl },
    (inr free, tt, tt),
  ),
  refl,
)

-- ---- the server, which takes

-- octets are read
pub far_gets : (octets : List ℕ) (v : Far) → far.wants v ≡ Want.Receive
    → Done (Other (Got octets)) (far_in (one_stands [] []) v []) (far_in (one_stands [] octets) v [])
far_gets octets v wants = (
  (
    refl,
    read_now octets,
    wants,
  ),
  refl,
)

-- it takes one
pub far_takes : (octet : ℕ) (v new : Far) → far.wants v ≡ Want.Receive → far.may_receive v ≡ true → new ≡ far.receives_octet v octet
    → Done (Other (Received (octet ∷ []) 1)) (far_in (one_stands [] (octet ∷ [])) v []) (far_in (one_stands [] []) new [])
far_takes octet v new wants can is = (
  (
    (
      record {
        done = λ calm. is;
        may = λ calm. (can, tt);
        failed = λ course moved. absurd (moved refl);
        counted = ((0, omega arith, refl), ((0, omega arith, refl), omega arith));
      },
      refl,
    ),
    (refl, refl),
    ((refl, refl), wants),
  ),
  refl,
)

-- it is told the end, right behind a moment
pub far_ends : (moment : ℕ) (v mid new : Far) → far.wants v ≡ Want.Receive → mid ≡ later (far.clock_step moment v) → new ≡ later (far.end_step mid)
    → Done (Other End) (far_in (one_stands [] []) v []) (far_in one_over new [])
far_ends moment v mid new wants told is = (
  (
    (moment, server_of mid, tt, steps (λ v w. ⊥) (far.clock_step moment) v mid told, steps EndFails far.end_step mid new is),
    (refl, (refl, refl), tt, refl),
    wants,
  ),
  refl,
)

-- and that is the moment
pub ends_then : (moment : ℕ) (v mid new : Far) (wants : far.wants v ≡ Want.Receive) (told : mid ≡ later (far.clock_step moment v))
    (is : new ≡ later (far.end_step mid)) → (far_ends moment v mid new wants told is).0.0.0 ≡ moment
unfolding far_ends
ends_then moment v mid new wants told is = refl

-- its data connection is left
pub far_goes : (v : Far) → v.owed ≡ [] → Done (Other (Left (EndedBy None None))) (far_in one_over v []) (far_in none_yet v [])
far_goes v owed = (
  (
    refl,
    record { ended = inl (refl, refl); adds = tt; stands = refl; fate = refl; rest = refl; unwritten = refl; untold = refl },
    (tt, (refl, refl, refl), inl owed),
  ),
  refl,
)

-- ---- where the client dials

abbrev pub endpoint : Endpoint
endpoint = record { host = here; port = 49152 }

-- the text of the port
pub port_text : decimal 49152 ≡ codes "49152"
port_text =
    decimal_step 49152 (omega arith) (omega arith) ∙ ap (λ l. l ++ 50 ∷ []) (decimal_step 4915 (omega arith) (omega arith)
    ∙ ap (λ l. l ++ 53 ∷ []) (decimal_step 491 (omega arith) (omega arith) ∙ ap (λ l. l ++ 49 ∷ []) (decimal_step 49 (omega arith) (omega arith)
    ∙ ap (λ l. l ++ 57 ∷ []) (decimal_digit 4 (omega arith)))))
