-- What is done as a transfer is broken off: the server hears a line while it has more to give, and resets its data connection; the client is told that it
-- broke, and resets its own.
use Rattle.std.proofs.Common.{◌≡◌, inl, inr, ℕ, ◌==◌, true, false, List, [], ◌∷◌, ◌++◌, None, refl, sym, ap, subst, ◌∙◌, append-nil, arith}
use Rattle.ftp_command.specs.declared.command.Command.{Command}
use Rattle.ftp_ports.specs.Asking.{Reset}
use Rattle.ftp_ports.specs.Actions.{Done, Heard, HearsNext, Other, Read, ReadsNext, Stand}
use Rattle.ftp_ports.specs.Channel.{Channel, with_fate, with_rest}
use Rattle.ftp_ports.specs.Machine.{Break, Failed, Left, leaves, seen, waits}
use Rattle.ftp_ports.specs.declared.whole.Fate.TheVariants as Fates
use Rattle.ftp_ports.specs.declared.whole.Rest.TheVariants as Rests
use Rattle.ftp_client_driver.specs.Side.{client_side}
use Rattle.ftp_client_model.specs.Calls as near
use Rattle.ftp_client_model.specs.View.{View as Near}
use Rattle.ftp_ends.specs.Ear.{Ear, ear_out, ear_step}
use Rattle.ftp_ends.specs.declared.link.Wants.TheVariants as Want
use Rattle.ftp_nvt.specs.Lines.{line}
use Rattle.ftp_operation.specs.declared.op.Op.{Op}
use Rattle.ftp_server_driver.specs.alone.Side.{HearsBy as HearsOctet, server_side}
use Rattle.ftp_server_model.specs.Calls as far
use Rattle.ftp_server_model.specs.Far.{Hears}
use Rattle.ftp_server_model.specs.Machine.{IsReading, Reading, heard_events, heard_line, hears_octet, may_hear, waited}
use Rattle.ftp_server_model.specs.View.{View as Far, line_limit}
use Rattle.ftp_server_model.specs.declared.heard.HeardLine.TheVariants.{Asks}
use Rattle.laws_drivers.specs.control.Between.{Hold}
use Rattle.laws_drivers.proofs.control.Playing.{ear_after}
use Rattle.laws_examples.proofs.transfers.Playing.{Played, far_in, far_turn, lies, near_in, none_yet, one_stands, server_of}

-- ---- the server

-- a data connection for which it has more to give
abbrev pub more_stands : Channel
more_stands = with_rest Rests.More (one_stands [] [])

-- it resets that
pub far_resets : (v : Far) → far.wants v ≡ Want.CloseData
    → Done (Other (Left (Reset None None))) (far_in more_stands v []) (far_in none_yet v [])
far_resets v wants = (
  (
    refl,
    record { ended = inr refl; adds = tt; stands = refl; fate = refl; rest = refl; unwritten = refl; untold = refl },
    (inl (ap leaves wants), inr (inr refl), tt),
  ),
  refl,
)

-- it may hear, and what it sees of its data connection then is no news
pub record Heeds (channel : Channel) (v : Far) : Type 0 where
  pub waits : waits (far.wants v) ≡ true
  pub seen : channel ≡ seen (far.wants v) channel
  pub may : may_hear v ≡ true
  pub none_waits : v.waiting ≡ None

-- octets of a line before its end: nothing is said of them
abbrev pub AreSilent : Ear → List ℕ → Type 0
AreSilent e [] = Unit {0}
AreSilent e (octet ∷ octets) = ((octet == 10) ≡ false) × (ear_out line_limit e octet ≡ []) × AreSilent (ear_step line_limit e octet) octets

-- it reads octets
pub reading : (channel : Channel) (v : Far) (octets : List ℕ) → Heeds channel v → v.owed ≡ [] → Done (Read octets) (far_in channel v []) (far_in channel v octets)
reading channel v octets at owed =
    let reads : ReadsNext octets (far_in channel v []) (far_in channel v octets) = record {
      due = (owed, λ serves. at.waits);
      owner = refl;
      heard = refl;
      read = tt;
      ended = refl;
      unheard = refl;
      written = refl;
    } in
    reads

-- what it hears of an octet that ends no line
silent_octet : (read : Reading) (octet : ℕ) (v : Far) → ear_out line_limit v.ear octet ≡ []
    → record v { ear = ear_step line_limit v.ear octet } ≡ hears_octet read v octet
unfolding hears_octet
silent_octet read octet v none = ap (λ events. heard_events read events (record v { ear = ear_step line_limit v.ear octet })) (sym none)

-- it hears such an octet
pub hearing : (channel : Channel) (octet : ℕ) (rest : List ℕ) (v : Far) → Heeds channel v → (octet == 10) ≡ false → ear_out line_limit v.ear octet ≡ []
    → Done (Heard (octet ∷ [])) (far_in channel v (octet ∷ rest)) (far_in channel (record v { ear = ear_step line_limit v.ear octet }) rest)
hearing channel octet rest v at ends none =
    let next : Far = record v { ear = ear_step line_limit v.ear octet } in
    let calls : Hears (octet ∷ []) (server_of v) (server_of next) = λ read reads. record {
      done = λ calm. silent_octet read octet v none;
      may = λ calm. (at.may, tt);
      failed = λ course moved. absurd (moved refl);
      counted = ((0, omega arith, refl), ((0, omega arith, refl), omega arith));
    } in
    let hears : HearsNext (octet ∷ []) (far_in channel v (octet ∷ rest)) (far_in channel next rest) = record {
      hears = (
        (
          omega arith,
          subst (λ e. HearsOctet e (octet ∷ []) (far_in channel v []).owner.end (far_in channel next []).owner.end) (sym ends) (calls, refl),
        ),
        at.seen,
        λ serves. at.waits,
      );
      next = refl;
      left = refl;
      written = refl;
    } in
    hears

-- what it hears at the end of a line
line_octet : (read : Reading) (v : Far) (text : List ℕ) (asked : Command (List ℕ)) → ear_out line_limit v.ear 10 ≡ line text ∷ [] → read text ≡ Asks asked
    → heard_line (Asks asked) (record v { ear = ear_step line_limit v.ear 10 }) ≡ hears_octet read v 10
unfolding hears_octet
line_octet read v text asked said reads =
    let w : Far = record v { ear = ear_step line_limit v.ear 10 } in
    sym (ap (λ events. heard_events read events w) said ∙ ap (λ h. heard_line h w) reads)

-- it hears the end of a line
pub ending : (channel : Channel) (v new : Far) (text : List ℕ) (asked : Command (List ℕ)) → Heeds channel v → ear_out line_limit v.ear 10 ≡ line text ∷ []
    → ((read : Reading) → IsReading read → read text ≡ Asks asked)
    → new ≡ heard_line (Asks asked) (record v { ear = ear_step line_limit v.ear 10; context = record v.context { moment = 0 } })
    → Done (Heard (10 ∷ [])) (far_in channel v (10 ∷ [])) (far_in channel new [])
ending channel v new text asked at said reads is =
    let told : Far = far.clock_step 0 v in
    let calls : Hears (10 ∷ []) (server_of told) (server_of new) = λ read reading. record {
      done = λ calm. is ∙ line_octet read told text asked said (reads read reading);
      may = λ calm. (at.may, tt);
      failed = λ course moved. absurd (moved refl);
      counted = ((0, omega arith, refl), ((0, omega arith, refl), omega arith));
    } in
    let hears : HearsNext (10 ∷ []) (far_in channel v (10 ∷ [])) (far_in channel new []) = record {
      hears = (
        (
          omega arith,
          (
            0,
            server_of told,
            tt,
            record {
              done = λ calm. ap (λ q. waited q told) (sym at.none_waits);
              failed = λ course moved. absurd (moved refl);
              counted = ((0, omega arith, refl), ((0, omega arith, refl), omega arith));
            },
            calls,
          ),
        ),
        at.seen,
        λ serves. at.waits,
      );
      next = refl;
      left = refl;
      written = refl;
    } in
    hears

module _ (moments : ℕ → ℕ) (start : Stand server_side) (begun : Stand client_side) (op : Op (List ℕ)) (listened : ℕ) (go come : List ℕ)
    (near_hold far_hold : Hold) (down : List ℕ) (channel : Channel) (client : Stand client_side) where
  -- it hears octets of a line before its end
  hears_on : (octets rest : List ℕ) (v : Far) → Heeds channel v → AreSilent v.ear octets
      → Played moments start begun op listened (lies [] down go come near_hold far_hold) (far_in channel v (octets ++ rest)) client
      → Played moments start begun op listened (lies [] down go come near_hold far_hold) (far_in channel (record v { ear = ear_after v.ear octets }) rest) client
  unfolding ear_after
  hears_on [] rest v at silent p = p
  hears_on (octet ∷ octets) rest v at silent p =
      let next : Far = record v { ear = ear_step line_limit v.ear octet } in
      let there : Heeds channel next = record { waits = at.waits; seen = at.seen; may = at.may; none_waits = at.none_waits } in
      let all = lies [] down go come near_hold far_hold in
      hears_on octets rest next there silent.2
      (far_turn moments start begun op (Heard (octet ∷ [])) ((λ before. (refl, λ ports. ports)), λ old new done moment. tt) listened all all
      (far_in channel v (octet ∷ (octets ++ rest))) (far_in channel next (octets ++ rest)) client (tt, refl)
      (hearing channel octet (octets ++ rest) v at silent.0 silent.1) refl p)

  -- it reads a line that is on its way, and hears it
  pub far_hears_line : (octets : List ℕ) (v new : Far) (text : List ℕ) (asked : Command (List ℕ)) → Heeds channel v → v.owed ≡ []
      → AreSilent v.ear octets → ear_out line_limit (ear_after v.ear octets) 10 ≡ line text ∷ [] → ((read : Reading) → IsReading read → read text ≡ Asks asked)
      → new ≡ heard_line (Asks asked) (record v { ear = ear_step line_limit (ear_after v.ear octets) 10; context = record v.context { moment = 0 } })
      → Played moments start begun op listened (lies (octets ++ 10 ∷ []) down go come near_hold far_hold) (far_in channel v []) client
      → Played moments start begun op listened (lies [] down go come near_hold far_hold) (far_in channel new []) client
  far_hears_line octets v new text asked at owed silent said reads is p =
      let all : List ℕ = octets ++ 10 ∷ [] in
      let last : Far = record v { ear = ear_after v.ear octets } in
      let there : Heeds channel last = record { waits = at.waits; seen = at.seen; may = at.may; none_waits = at.none_waits } in
      let whole = lies all down go come near_hold far_hold in
      let none = lies [] down go come near_hold far_hold in
      let read = far_turn moments start begun op (Read all) ((λ before. (refl, λ ports. ports)), λ old new done moment. tt) listened whole none
      (far_in channel v []) (far_in channel v all) client (tt, refl) (reading channel v all at owed) (sym (append-nil all), refl) p in
      far_turn moments start begun op (Heard (10 ∷ [])) ((λ before. (refl, λ ports. ports)), λ old new done moment. tt) listened none none
      (far_in channel last (10 ∷ [])) (far_in channel new []) client (tt, refl) (ending channel last new text asked there said reads is) refl
      (hears_on octets (10 ∷ []) v at silent read)

-- ---- the client

-- a read of its data connection failed, and it was told that it broke
abbrev pub one_failed : Channel
one_failed = with_fate Fates.Failed (one_stands [] [])

abbrev pub one_broken : Channel
one_broken = with_fate Fates.Broken one_failed

pub near_fails : (n : Near) → Done (Other Failed) (near_in (one_stands [] []) n []) (near_in one_failed n [])
near_fails n = ((refl, (refl, (refl, refl)), tt), refl)

pub near_breaks : (n : Near) → Done (Other Break) (near_in one_failed n []) (near_in one_broken (near.data_fault n) [])
near_breaks n = (((((λ calm. refl), (λ moved. absurd (moved refl))), inl refl), refl, tt), refl)

-- it resets it
pub near_resets : (n : Near) → Done (Other (Left (Reset None None))) (near_in one_broken n []) (near_in none_yet n [])
near_resets n = (
  (
    refl,
    record { ended = inr refl; adds = tt; stands = refl; fate = refl; rest = refl; unwritten = refl; untold = refl },
    (tt, inl refl, tt),
  ),
  refl,
)
