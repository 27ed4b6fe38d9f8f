-- What the server tells of its port is read back: the endpoint of a 227, the port of a 229 (RFC 959, section 4.1.2; RFC 2428, section 3).
use Rattle.std.proofs.Common.{◌≡◌, ℕ, ◌+◌, ◌*◌, ◌/◌, ◌%◌, ◌<◌, ◌≤◌, false, List, [], ◌∷◌, ◌++◌, Some, refl, sym, ap, subst, ◌∙◌, arith, append_assoc, decimal}
use Rattle.std.specs.Prelude.{codes}
use Rattle.std.specs.Char.{is_ascii_digit}
use Rattle.std.proofs.lemmas.Fmt.{decimal_is_IsNumeral, length-decimal-le}
use Rattle.ftp_endpoint.specs.Endpoint.{BeginsWith, BeginsWithSix}
use Rattle.ftp_endpoint.specs.Number.{SaysOctet, SaysPort}
use Rattle.ftp_endpoint.specs.Written.{IsTypedHost, IsV4, six_text}
use Rattle.ftp_endpoint.specs.declared.endpoint.Endpoint.{Endpoint}
use Rattle.ftp_endpoint.specs.declared.host.Host.{Host}
use Rattle.ftp_endpoint.specs.declared.host.Host.TheVariants.{V4, V6}
use Rattle.ftp_endpoint.proofs.WrittenLemmas.{says_number, front_of, behind_of}
use Rattle.ftp_reply.specs.Values.{extended_value, passive_value, six_behind}
use Rattle.ftp_reply.proofs.ExtendedLemmas.{says_port_of}
use Rattle.ftp_reply.proofs.PassiveLemmas.{says_endpoint}
use Rattle.ftp_server_model.specs.Replies.{extended_reply_text, passive_reply_text}

-- ---- numbers as they are written

-- a number below 256, as it is written, says that octet
written_octet : (n : ℕ) → n < 256 → SaysOctet (decimal n) n
written_octet n small =
    let is = decimal_is_IsNumeral n (omega (arith, small)) in
    ((is.0, length-decimal-le 3 n (omega arith) (omega (arith, small)) (omega (arith, small)), omega (arith, is.1, small)), sym is.1)

-- a number from 1 to 65535, as it is written, says that port
written_port : (n : ℕ) → 1 ≤ n → n < 65536 → SaysPort (decimal n) n
written_port n some small =
    let is = says_number n (omega (arith, small)) in
    ((is.0, omega (arith, is.1, some), omega (arith, is.1, small)), is.1)

-- one number, and the separator or what ends the row
begins_one : (n d : ℕ) (more : List ℕ) → is_ascii_digit d ≡ false → n < 256 → BeginsWith 44 (decimal n ++ d ∷ more) (n ∷ []) (d ∷ more)
begins_one n d more none small =
    let is = written_octet n small in
    let Says : List ℕ → Type 0 = λ digits. SaysOctet digits n in
    (subst Says (sym (front_of (decimal n) d more is.0.0.1 none)) is, behind_of (decimal n) d more is.0.0.1 none)

-- one number and the separator before a row of numbers make a row with one number more
begins_more : (n m : ℕ) (next ns rest : List ℕ) → n < 256 → BeginsWith 44 next (m ∷ ns) rest → BeginsWith 44 (decimal n ++ 44 ∷ next) (n ∷ m ∷ ns) rest
begins_more n m next ns rest small begins =
    let is = written_octet n small in
    let Says : List ℕ → Type 0 = λ digits. SaysOctet digits n in
    (subst Says (sym (front_of (decimal n) 44 next is.0.0.1 refl)) is, (next, behind_of (decimal n) 44 next is.0.0.1 refl, begins))

-- ---- the endpoint of a 227

abbrev at_port : Host → ℕ → Endpoint
at_port host port = record { host = host; port = port }

-- six lists with separators between them and more behind them are the same however they are grouped
nested : (a b c d p q more : List ℕ)
    → ((a ++ (44 ∷ (b ++ (44 ∷ (c ++ (44 ∷ d)))))) ++ (44 ∷ (p ++ (44 ∷ q)))) ++ more
    ≡ a ++ (44 ∷ (b ++ (44 ∷ (c ++ (44 ∷ (d ++ (44 ∷ (p ++ (44 ∷ (q ++ more))))))))))
nested a b c d p q more = simp append_assoc

-- the six numbers of an IPv4 host and a port, as they are written before a closing parenthesis, begin with that endpoint
six_begins : (octets : List ℕ) (port : ℕ) → IsTypedHost (V4 octets) → port < 65536
    → BeginsWithSix (six_text (at_port (V4 octets) port) ++ 41 ∷ []) (at_port (V4 octets) port) (41 ∷ [])
six_begins [] port typed small = absurd (omega (arith, typed.0))
six_begins (a ∷ []) port typed small = absurd (omega (arith, typed.0))
six_begins (a ∷ b ∷ []) port typed small = absurd (omega (arith, typed.0))
six_begins (a ∷ b ∷ c ∷ []) port typed small = absurd (omega (arith, typed.0))
six_begins (a ∷ b ∷ c ∷ d ∷ e ∷ xs) port typed small = absurd (omega (arith, typed.0))
six_begins (a ∷ b ∷ c ∷ d ∷ []) port typed small =
    let p : ℕ = port / 256 in
    let q : ℕ = port % 256 in
    let high : p < 256 = omega (arith, small) in
    let low : q < 256 = omega arith in
    let Begins : List ℕ → Type 0 = λ text. BeginsWith 44 text (a ∷ b ∷ c ∷ d ∷ p ∷ q ∷ []) (41 ∷ []) in
    let t5 : List ℕ = decimal q ++ 41 ∷ [] in
    let t4 : List ℕ = decimal p ++ 44 ∷ t5 in
    let t3 : List ℕ = decimal d ++ 44 ∷ t4 in
    let t2 : List ℕ = decimal c ++ 44 ∷ t3 in
    let t1 : List ℕ = decimal b ++ 44 ∷ t2 in
    let n5 : BeginsWith 44 t4 (p ∷ q ∷ []) (41 ∷ []) = begins_more p q t5 [] (41 ∷ []) high (begins_one q 41 [] refl low) in
    let n4 : BeginsWith 44 t3 (d ∷ p ∷ q ∷ []) (41 ∷ []) = begins_more d p t4 (q ∷ []) (41 ∷ []) typed.1.1.1.1.0 n5 in
    let n3 : BeginsWith 44 t2 (c ∷ d ∷ p ∷ q ∷ []) (41 ∷ []) = begins_more c d t3 (p ∷ q ∷ []) (41 ∷ []) typed.1.1.1.0 n4 in
    let n2 : BeginsWith 44 t1 (b ∷ c ∷ d ∷ p ∷ q ∷ []) (41 ∷ []) = begins_more b c t2 (d ∷ p ∷ q ∷ []) (41 ∷ []) typed.1.1.0 n3 in
    let n1 = begins_more a b t1 (c ∷ d ∷ p ∷ q ∷ []) (41 ∷ []) typed.1.0 n2 in
    record {
      h1 = a;
      h2 = b;
      h3 = c;
      h4 = d;
      p1 = p;
      p2 = q;
      numbers = subst Begins (sym (nested (decimal a) (decimal b) (decimal c) (decimal d) (decimal p) (decimal q) (41 ∷ []))) n1;
      value = ap (at_port (V4 (a ∷ b ∷ c ∷ d ∷ []))) (let e : port ≡ 256 * (port / 256) + port % 256 = omega arith in e);
    }

-- no digit stands in the words before the endpoint
words_passed : (text : List ℕ) → six_behind false (codes "Entering Passive Mode (" ++ text) ≡ six_behind false text
words_passed text = refl

-- the endpoint of an IPv4 host and a port is read back from the text of a 227
pub passive-reads : (host : Host) (port : ℕ) → IsV4 host → IsTypedHost host → port < 65536 → passive_value (passive_reply_text (at_port host port)) ≡ Some (at_port host port)
unfolding passive_value
passive-reads (V6 octets) port v4 typed small = absurd v4
passive-reads (V4 octets) port v4 typed small =
    let text : List ℕ = six_text (at_port (V4 octets) port) ++ 41 ∷ [] in
    words_passed text
    ∙ says_endpoint text (at_port (V4 octets) port) (record {
      place = 0;
      here = record { within = omega arith; whole = λ some. absurd (omega (arith, some)); behind = 41 ∷ []; numbers = six_begins octets port typed small };
      first = λ earlier less other there. absurd (omega (arith, less));
    })

-- ---- the port of a 229

-- the words before the parenthesis of a 229 change nothing of what is read
words_before : (rest : List ℕ) → extended_value (codes "Entering Extended Passive Mode " ++ 40 ∷ 124 ∷ 124 ∷ 124 ∷ rest) ≡ extended_value (40 ∷ 124 ∷ 124 ∷ 124 ∷ rest)
unfolding extended_value
words_before rest = refl

-- a port from 1 to 65535 is read back from the text of a 229
pub extended-reads : (port : ℕ) → 1 ≤ port → port < 65536 → extended_value (extended_reply_text port) ≡ Some port
extended-reads port some small =
    let rest : List ℕ = decimal port ++ 124 ∷ 41 ∷ [] in
    words_before rest
    ∙ says_port_of (40 ∷ 124 ∷ 124 ∷ 124 ∷ rest) port (record {
      place = 0;
      here = record {
        within = omega arith;
        port_is = record {
          d = 124;
          rest = rest;
          delimiter = (omega arith, omega arith, refl);
          text_is = refl;
          closes = record { digits = decimal port; more = []; number = written_port port some small; text_is = refl };
        };
      };
      first = λ earlier less other there. absurd (omega (arith, less));
    })
