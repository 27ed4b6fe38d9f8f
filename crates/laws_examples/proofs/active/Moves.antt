-- What is done with a data connection that the server dials: the port, the dial, the accept, and the octets that are given at once.
use Rattle.std.proofs.Common.{◌≡◌, ℕ, List, [], ◌∷◌, ◌++◌, length, take, drop, None, inl, inr, refl, ap, ◌∙◌, arith, codes, decimal}
use Rattle.std.proofs.lemmas.Fmt.{decimal_digit, decimal_step}
use Rattle.ftp_command.specs.Line.{line_of}
use Rattle.ftp_command.specs.declared.command.Command.TheVariants as command
use Rattle.ftp_ports.specs.Asking.{Came, Connected}
use Rattle.ftp_ports.specs.Actions.{Done, Other}
use Rattle.ftp_ports.specs.Channel.{Channel, with_rest}
use Rattle.ftp_ports.specs.Machine.{Gave, Listening, Opened, rest_by, rest_left}
use Rattle.ftp_ports.specs.declared.whole.Rest.{Rest}
use Rattle.ftp_ports.specs.declared.whole.Rest.TheVariants as Rests
use Rattle.ftp_client_model.specs.Calls as near
use Rattle.ftp_client_model.specs.View.{View as Near}
use Rattle.ftp_endpoint.specs.declared.endpoint.Endpoint.{Endpoint}
use Rattle.ftp_endpoint.specs.declared.host.Host.{Host}
use Rattle.ftp_ends.specs.declared.link.Wants.TheVariants as Want
use Rattle.ftp_server_model.specs.Calls as far
use Rattle.ftp_server_model.specs.Failing.{GiveFails}
use Rattle.ftp_server_model.specs.Machine.{later}
use Rattle.ftp_server_model.specs.View.{View as Far}
use Rattle.laws_examples.proofs.transfers.Moves.{endpoint, opened_now, port_text, steps}
use Rattle.laws_examples.proofs.transfers.Playing.{far_in, near_in, none_yet, one_stands}

-- one stands, and there is more to give
abbrev pub one_more : Channel
one_more = record (one_stands [] []) { rest = Rests.More }

-- the client is told a port
pub near_listens : (port : ℕ) (n new : Near) → near.wants n ≡ Want.Listen → n.owed ≡ [] → new ≡ near.port_told port n
    → Done (Other (Listening port)) (near_in none_yet n []) (near_in none_yet new [])
near_listens port n new wants owed is = (((((λ calm. is), (λ moved. absurd (moved refl))), inl refl), (tt, refl), (wants, owed)), refl)

-- the server dials, and has octets to give
pub far_dials : (endpoint : Endpoint) (v new : Far) → far.wants v ≡ Want.Connect endpoint → v.owed ≡ [] → new ≡ later (far.opened_step endpoint.host v)
    → Rests.More ≡ rest_by (far.wants new)
    → Done (Other (Opened endpoint.host (Connected endpoint None None ∷ []) None None Rests.More)) (far_in none_yet v []) (far_in one_more new [])
far_dials endpoint v new wants owed is rest = (
  (
    ((steps (λ v w. ⊥) (far.opened_step endpoint.host) v new is, refl), rest),
    opened_now Rests.More (Connected endpoint None None) (inr (endpoint, refl, refl)),
    (wants, owed),
  ),
  refl,
)

-- it gives the first of them, and has more or not
pub gives_more : (rest : Rest) (octets : List ℕ) (v new : Far) → far.wants v ≡ Want.Send → octets ≡ take (length octets) (far.to_give v)
    → rest ≡ rest_left (drop (length octets) (far.to_give v)) → new ≡ later (far.given_step (length octets) v)
    → Done (Other (Gave (length octets) octets rest)) (far_in one_more v []) (far_in (with_rest rest (one_stands octets [])) new [])
gives_more rest octets v new wants first more is = (
  (
    ((λ course. (first, more)), (steps (GiveFails (length octets)) (far.given_step (length octets)) v new is, refl)),
    (refl, (refl, refl)),
    wants,
  ),
  refl,
)

-- the client accepts who came at its port
pub near_accepts : (host : Host) (n : Near) → near.wants n ≡ Want.Accept → n.owed ≡ [] → Rests.Nothing ≡ rest_by (near.wants (near.data_opened host n))
    → Done (Other (Opened host (Came host None None ∷ []) None None Rests.Nothing)) (near_in none_yet n [])
    (near_in (one_stands [] []) (near.data_opened host n) [])
near_accepts host n wants owed rest = (
  (
    ((((λ calm. refl), (λ moved. absurd (moved refl))), inl refl), rest),
    opened_now Rests.Nothing (Came host None None) (inl refl),
    (wants, owed),
  ),
  refl,
)

-- ---- the line that names its port

octet_text : decimal 127 ≡ codes "127"
octet_text =
    decimal_step 127 (omega arith) (omega arith) ∙ ap (λ l. l ++ 55 ∷ []) (decimal_step 12 (omega arith) (omega arith)
    ∙ ap (λ l. l ++ 50 ∷ []) (decimal_digit 1 (omega arith)))

zero_text : decimal 0 ≡ codes "0"
zero_text = decimal_digit 0 (omega arith)

one_text : decimal 1 ≡ codes "1"
one_text = decimal_digit 1 (omega arith)

-- as its numbers are written
abbrev named_by : (first zero last port : List ℕ) → List ℕ
named_by first zero last port =
    codes "EPRT" ++ (codes " " ++ ((codes "|1|" ++ (first ++ 46 ∷ (zero ++ 46 ∷ (zero ++ 46 ∷ last)))) ++ (codes "|" ++ (port ++ codes "|"))))

-- EPRT |1|127.0.0.1|49152|
pub eprt_text : line_of (command.Eprt endpoint) ≡ codes "EPRT |1|127.0.0.1|49152|"
eprt_text =
    ap (λ l. named_by l (decimal 0) (decimal 1) (decimal 49152)) octet_text ∙ ap (λ l. named_by (codes "127") l (decimal 1) (decimal 49152)) zero_text
    ∙ ap (λ l. named_by (codes "127") (codes "0") l (decimal 49152)) one_text ∙ ap (named_by (codes "127") (codes "0") (codes "1")) port_text
