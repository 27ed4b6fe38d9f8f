-- Each reply that is said can be written, and is read again as itself.
use Rattle.std.proofs.Common.{All, ◌≡◌, ℕ, ◌+◌, ◌*◌, ◌/◌, ◌%◌, ◌≤◌, List, [], ◌∷◌, ◌++◌, Bool, true, false, not, ◌&&◌, ◌==◌, Option, Some, None, refl, sym, subst, arith, length, length-append}
use Rattle.std.specs.Prelude.{codes, decimal, nat_le, sum_by, unwrap_or, if◌then◌else◌}
use Rattle.std.specs.List.{flat_map, list_all, AllByRecursion}
use Rattle.std.proofs.lemmas.List.Elements.{All-nil, All-cons}
use Rattle.std.proofs.lemmas.List.Sums.{count_by-le-length}
use Rattle.ftp_nvt.specs.Lines.{IsNoneOf, written_octet, written_line}
use Rattle.ftp_endpoint.specs.Written.{six_text}
use Rattle.ftp_facts.specs.Moment.{moment_digits}
use Rattle.ftp_facts.specs.Name.{fact_names, fact_word, is_in_force}
use Rattle.ftp_facts.specs.declared.name.FactName.{FactName}
use Rattle.ftp_facts.proofs.LineLemmas.{Lets, moment_few, moment_passes}
use Rattle.ftp_facts.proofs.NameLemmas.{word_few, word_passes}
use Rattle.ftp_facts.proofs.NumberLemmas.{at_most, is_at_most}
use Rattle.ftp_reply.specs.Lines.{AreWithin}
use Rattle.ftp_reply.specs.Reply.{begins_with_digits, code_text, last_line, opening_line, written}
use Rattle.ftp_reply.specs.Values.{doubled, doubled_octet}
use Rattle.ftp_path.specs.Path.{IsPathText, text_of as path_text, Names, text_limit}
use Rattle.ftp_command.proofs.CarriedLemmas.{Fits, is_plain, fits_both, fits_with, digit_plain, decimal_fits, six_fits, path_fits, all_plain}
use Rattle.ftp_ends.specs.Reply.{Reply, CanBeCarried, IsWritten}
use Rattle.ftp_server_model.specs.Texts.{fixed_reply_code, text_of}
use Rattle.ftp_tree.specs.Map.{Dir, shown_of}
use Rattle.ftp_tree.specs.Tree.{node_at}
use Rattle.ftp_direct.specs.Direct.{entry_at, entry_of, is_root}
use Rattle.ftp_direct.proofs.EntryLemmas.{entry_few, entry_passes, is_said_octet}
use Rattle.ftp_server_model.specs.View.{Session, seen}
use Rattle.ftp_server_model.specs.Replies.{RepliesAreWritten, RepliesHaveRoom, IsTold, reply_said, octets_if_any, quoted, here_text, made_text, passive_reply_text, extended_reply_text, entry_reply, chosen_reply, features_reply}
use Rattle.ftp_server_model.specs.Entries.{listed_line, chosen_text, fact_text, features_text, feature_text, is_any_chosen}
use Rattle.ftp_server_model.specs.declared.reply.FixedReply.{FixedReply}
use Rattle.ftp_server_model.specs.declared.reply.FixedReply.TheVariants as Texts
use Rattle.ftp_server_model.specs.declared.reply.ReplyKind.{ReplyKind}
use Rattle.ftp_server_model.specs.declared.reply.ReplyKind.TheVariants as Replies
use Rattle.ftp_facts.specs.declared.name.Facts.{Facts}

-- ---- texts without LF and CR, up to a length

lacks : (text : List ℕ) → AllByRecursion (λ c. is_plain c ≡ true) text → IsNoneOf 10 text
lacks [] all = tt
lacks (c ∷ text) all = (no_feed (c == 10) (c == 13) all.0, lacks text all.1)
  where
    no_feed : (a b : Bool) → (not a && not b) ≡ true → a ≡ false
    no_feed false b is = refl
    no_feed true b is = absurd (let e : false ≡ true = is in cc)

carried : (most : ℕ) (text : List ℕ) → most ≤ 2000 → Fits most text → CanBeCarried text
carried most text small fits = (lacks text fits.plain, omega (arith, count_by-le-length (λ c. c == 13) text, fits.short, small))

closed : (most : ℕ) (text : List ℕ) → list_all is_plain text ≡ true → length text ≤ most → Fits most text
closed most text plain short = record { plain = all_plain is_plain (λ c here. here) text plain; short = short }

wider : (few most : ℕ) (text : List ℕ) → few ≤ most → Fits few text → Fits most text
wider few most text less fits = record { plain = fits.plain; short = omega (arith, fits.short, less) }

code_fits : (code : ℕ) → Fits 3 (code_text code)
code_fits code = record { plain = (digit_plain (48 + code / 100) (omega arith), (digit_plain (48 + code / 10 % 10) (omega arith), (digit_plain (48 + code % 10) (omega arith), tt))); short = omega arith }

-- a code, one octet behind it and a text
behind_code : (code octet most : ℕ) (text : List ℕ) → is_plain octet ≡ true → Fits most text → Fits (3 + (most + 1)) (code_text code ++ octet ∷ text)
behind_code code octet most text is fits = fits_both 3 (most + 1) (code_text code) (octet ∷ text) (code_fits code) (fits_with most octet text is fits)

-- ---- replies of one line

both : (a b : Bool) → a ≡ true → b ≡ true → (a && b) ≡ true
both a b one other = rw (one, other) refl

within : (lines : List (List ℕ)) → length lines ≤ 64 → sum_by length lines ≤ 8192 → AreWithin lines
within lines few short = both (nat_le (length lines) 64) (nat_le (sum_by length lines) 8192) (is_at_most (length lines) 64 few) (is_at_most (sum_by length lines) 8192 short)

one_line : (code most : ℕ) (text : List ℕ) → 100 ≤ code → code ≤ 599 → most ≤ 1900 → Fits most text → IsWritten code (text ∷ [])
one_line code most text low high small fits = record {
  code_is = record { low = low; high = high };
  some = omega arith;
  within = within (text ∷ []) (omega arith) (omega (arith, fits.short, small));
  plain = All-nil (λ line. begins_with_digits line ≡ false);
  carried = (carried (3 + (most + 1)) (last_line code text) (omega (arith, small)) (behind_code code 32 most text refl fits), tt);
}

-- ---- the octets of replies

octet_short : (c : ℕ) → length (written_octet c) ≤ 2
octet_short c = by_octet (c == 255) (c == 13)
  where
    by_octet : (command return : Bool) → length (if command then 255 ∷ 255 ∷ [] else (if return then 13 ∷ 0 ∷ [] else c ∷ [])) ≤ 2
    by_octet true return = omega arith
    by_octet false true = omega arith
    by_octet false false = omega arith

text_short : (text : List ℕ) → length (flat_map written_octet text) ≤ 2 * length text
text_short [] = omega arith
text_short (c ∷ text) = omega (arith, length-append (written_octet c) (flat_map written_octet text), octet_short c, text_short text)

line_short : (text : List ℕ) → length (written_line text) ≤ 2 * length text + 2
line_short text = omega (arith, length-append (flat_map written_octet text) (13 ∷ 10 ∷ []), text_short text)

-- so many octets in lines, and so many lines
abbrev pub octets_in : List (List ℕ) → ℕ
octets_in [] = 0
octets_in (line ∷ lines) = 2 * length line + 2 + octets_in lines

pub lines_short : (lines : List (List ℕ)) → length (flat_map written_line lines) ≤ octets_in lines
lines_short [] = omega arith
lines_short (line ∷ lines) = omega (arith, length-append (written_line line) (flat_map written_line lines), line_short line, lines_short lines)

-- a reply that can be written, and whose octets have room
record Stated (code : ℕ) (texts : List (List ℕ)) : Type 0 where
  readable : IsWritten code texts
  room : length (flat_map written_line (written code texts)) ≤ 4096

stated_line : (code most : ℕ) (text : List ℕ) → 100 ≤ code → code ≤ 599 → most ≤ 1900 → Fits most text → Stated code (text ∷ [])
stated_line code most text low high small fits = record {
  readable = one_line code most text low high small fits;
  room = omega (arith, lines_short (last_line code text ∷ []), fits.short, small);
}

fixed : (code : ℕ) (text : List ℕ) → 100 ≤ code → code ≤ 599 → list_all is_plain text ≡ true → length text ≤ 100 → Stated code (text ∷ [])
fixed code text low high plain short = stated_line code 100 text low high (omega arith) (closed 100 text plain short)

fixed_written : (text : FixedReply) → Stated (fixed_reply_code text) (text_of text ∷ [])
fixed_written Texts.Ready = fixed 220 (codes "Ready") (omega arith) (omega arith) refl (omega arith)
fixed_written Texts.Unknown = fixed 500 (codes "Unknown command") (omega arith) (omega arith) refl (omega arith)
fixed_written Texts.LineTooLong = fixed 500 (codes "Line too long") (omega arith) (omega arith) refl (omega arith)
fixed_written Texts.BadArgument = fixed 501 (codes "Bad argument") (omega arith) (omega arith) refl (omega arith)
fixed_written Texts.NotImplemented = fixed 502 (codes "Not implemented") (omega arith) (omega arith) refl (omega arith)
fixed_written Texts.BadSequence = fixed 503 (codes "Bad sequence") (omega arith) (omega arith) refl (omega arith)
fixed_written Texts.BadParameter = fixed 504 (codes "Parameter not implemented") (omega arith) (omega arith) refl (omega arith)
fixed_written Texts.Protocol = fixed 522 (codes "Network protocol not supported, use (1,2)") (omega arith) (omega arith) refl (omega arith)
fixed_written Texts.OnlyIpv4 = fixed 522 (codes "Network protocol not supported, use (1)") (omega arith) (omega arith) refl (omega arith)
fixed_written Texts.OnlyIpv6 = fixed 522 (codes "Network protocol not supported, use (2)") (omega arith) (omega arith) refl (omega arith)
fixed_written Texts.NotLoggedIn = fixed 530 (codes "Not logged in") (omega arith) (omega arith) refl (omega arith)
fixed_written Texts.PasswordNeeded = fixed 331 (codes "Password needed") (omega arith) (omega arith) refl (omega arith)
fixed_written Texts.LoggedIn = fixed 230 (codes "Logged in") (omega arith) (omega arith) refl (omega arith)
fixed_written Texts.LoginRefused = fixed 530 (codes "Login refused") (omega arith) (omega arith) refl (omega arith)
fixed_written Texts.NotNeeded = fixed 202 (codes "Not needed") (omega arith) (omega arith) refl (omega arith)
fixed_written Texts.Done = fixed 250 (codes "Done") (omega arith) (omega arith) refl (omega arith)
fixed_written Texts.NewName = fixed 350 (codes "Ready for the new name") (omega arith) (omega arith) refl (omega arith)
fixed_written Texts.Refused = fixed 550 (codes "Refused") (omega arith) (omega arith) refl (omega arith)
fixed_written Texts.NotAllowed = fixed 550 (codes "The account may not do that") (omega arith) (omega arith) refl (omega arith)
fixed_written Texts.NameRefused = fixed 553 (codes "Name refused") (omega arith) (omega arith) refl (omega arith)
fixed_written Texts.NoRoom = fixed 452 (codes "No room") (omega arith) (omega arith) refl (omega arith)
fixed_written Texts.TooMuch = fixed 552 (codes "Too much") (omega arith) (omega arith) refl (omega arith)
fixed_written Texts.Opens = fixed 150 (codes "Opening data connection") (omega arith) (omega arith) refl (omega arith)
fixed_written Texts.Complete = fixed 226 (codes "Transfer complete") (omega arith) (omega arith) refl (omega arith)
fixed_written Texts.NoConnection = fixed 425 (codes "No data connection") (omega arith) (omega arith) refl (omega arith)
fixed_written Texts.Broken = fixed 426 (codes "Transfer broken") (omega arith) (omega arith) refl (omega arith)
fixed_written Texts.LocalFault = fixed 451 (codes "Local fault") (omega arith) (omega arith) refl (omega arith)
fixed_written Texts.AbortDone = fixed 226 (codes "Abort done") (omega arith) (omega arith) refl (omega arith)
fixed_written Texts.TypeSet = fixed 200 (codes "Type set") (omega arith) (omega arith) refl (omega arith)
fixed_written Texts.StructureSet = fixed 200 (codes "Structure set") (omega arith) (omega arith) refl (omega arith)
fixed_written Texts.ModeSet = fixed 200 (codes "Mode set") (omega arith) (omega arith) refl (omega arith)
fixed_written Texts.Utf8Set = fixed 200 (codes "UTF8 set") (omega arith) (omega arith) refl (omega arith)
fixed_written Texts.Fine = fixed 200 (codes "Ok") (omega arith) (omega arith) refl (omega arith)
fixed_written Texts.EndpointTaken = fixed 200 (codes "Endpoint taken") (omega arith) (omega arith) refl (omega arith)
fixed_written Texts.OnlyExtended = fixed 200 (codes "Only EPSV from now on") (omega arith) (omega arith) refl (omega arith)
fixed_written Texts.System = fixed 215 (codes "UNIX Type: L8") (omega arith) (omega arith) refl (omega arith)
fixed_written Texts.Help = fixed 214 (codes "See RFC 959, RFC 2428 and RFC 3659") (omega arith) (omega arith) refl (omega arith)
fixed_written Texts.Serving = fixed 211 (codes "Serving") (omega arith) (omega arith) refl (omega arith)
fixed_written Texts.Goodbye = fixed 221 (codes "Goodbye") (omega arith) (omega arith) refl (omega arith)

-- ---- quoted paths

doubled_fits : (text : List ℕ) → AllByRecursion (λ c. is_plain c ≡ true) text → Fits (2 * length text) (doubled text)
doubled_fits [] all = record { plain = tt; short = omega arith }
doubled_fits (c ∷ text) all =
    let first : Fits 2 (doubled_octet c) = octet_fits (c == 34) in
    let both = fits_both 2 (2 * length text) (doubled_octet c) (doubled text) first (doubled_fits text all.1) in
    record { plain = both.plain; short = omega (arith, both.short) }
  where
    octet_fits : (quote : Bool) → Fits 2 (if quote then 34 ∷ 34 ∷ [] else c ∷ [])
    octet_fits true = record { plain = (refl, (refl, tt)); short = omega arith }
    octet_fits false = record { plain = (all.0, tt); short = omega arith }

quoted_fits : (path : Names) → IsPathText (path_text path) → Fits 1802 (quoted path)
quoted_fits path is =
    let text = path_fits (path_text path) is in
    let twice = wider (2 * length (path_text path)) 1800 (doubled (path_text path)) (omega (arith, text.short)) (doubled_fits (path_text path) text.plain) in
    let ended = fits_both 1800 1 (doubled (path_text path)) (34 ∷ []) twice (closed 1 (34 ∷ []) refl (omega arith)) in
    wider 1802 1802 (quoted path) (omega arith) (fits_with 1801 34 (doubled (path_text path) ++ 34 ∷ []) refl ended)

-- ---- facts

fact_fits : (most : ℕ) (name : List ℕ) (is : Bool) → Fits most name → Fits (most + 1) (fact_text name is)
fact_fits most name true fits = fits_both most 1 name (59 ∷ []) fits (closed 1 (59 ∷ []) refl (omega arith))
fact_fits most name false fits = record { plain = tt; short = omega arith }

word_fits : (name : FactName) → Fits 6 (fact_word name)
word_fits name = closed 6 (fact_word name) (word_passes is_plain refl name) (word_few name)

-- a text for each of these names, one after another
abbrev most_of : ℕ → List FactName → ℕ
most_of most [] = 0
most_of most (name ∷ names) = most + most_of most names

texts_fit : (most : ℕ) (text : FactName → List ℕ) → ((name : FactName) → Fits most (text name)) → (names : List FactName) → Fits (most_of most names) (flat_map text names)
texts_fit most text each [] = record { plain = tt; short = omega arith }
texts_fit most text each (name ∷ names) = fits_both most (most_of most names) (text name) (flat_map text names) (each name) (texts_fit most text each names)

chosen_fits : (facts : Facts) → Fits 40 (chosen_text facts)
chosen_fits facts =
    wider 28 40 (chosen_text facts) (omega arith)
    (texts_fit 7 (λ name. fact_text (fact_word name) (is_in_force facts name)) (λ name. fact_fits 6 (fact_word name) (is_in_force facts name) (word_fits name)) fact_names)

if_fits : (most : ℕ) (is : Bool) (xs ys : List ℕ) → Fits most xs → Fits most ys → Fits most (if is then xs else ys)
if_fits most true xs ys one other = one
if_fits most false xs ys one other = other

nothing : (most : ℕ) → Fits most []
nothing most = record { plain = tt; short = omega arith }

chosen_is : (facts : Facts) → Fits 60 (chosen_reply facts)
chosen_is facts =
    let all = fits_with 40 32 (chosen_text facts) refl (chosen_fits facts) in
    let tail = if_fits 41 (is_any_chosen facts) (32 ∷ chosen_text facts) [] all (nothing 41) in
    wider 50 60 (chosen_reply facts) (omega arith)
    (fits_both 9 41 (codes "MLST OPTS") (if is_any_chosen facts then 32 ∷ chosen_text facts else []) (closed 9 (codes "MLST OPTS") refl (omega arith)) tail)

feature_fits : (most : ℕ) (name : List ℕ) (is : Bool) → Fits most name → Fits (most + 2) (feature_text name is)
feature_fits most name true fits = fits_both most 2 name (codes "*;") fits (closed 2 (codes "*;") refl (omega arith))
feature_fits most name false fits = fits_both most 2 name (codes ";") fits (closed 2 (codes ";") refl (omega arith))

features_fit : (facts : Facts) → Fits 40 (features_text facts)
features_fit facts =
    wider 32 40 (features_text facts) (omega arith)
    (texts_fit 8 (λ name. feature_text (fact_word name) (is_in_force facts name)) (λ name. feature_fits 6 (fact_word name) (is_in_force facts name) (word_fits name)) fact_names)

-- a closed line is carried
line_is : (text : List ℕ) → list_all is_plain text ≡ true → length text ≤ 100 → CanBeCarried text
line_is text plain short = carried 100 text (omega arith) (closed 100 text plain short)

features_written : (facts : Facts) → IsWritten 211 (features_reply facts).lines
features_written facts =
    let line = fits_both 6 40 (codes " MLST ") (features_text facts) (closed 6 (codes " MLST ") refl (omega arith)) (features_fit facts) in
    record {
      code_is = record { low = omega arith; high = omega arith };
      some = omega arith;
      within = within (features_reply facts).lines (omega arith) (omega (arith, line.short));
      plain = plain_lines;
      carried = (
        line_is (codes "211-Features") refl (omega arith),
        (
          line_is (codes " EPRT") refl (omega arith),
          (
            line_is (codes " EPSV") refl (omega arith),
            (
              line_is (codes " MDTM") refl (omega arith),
              (
                carried 46 (codes " MLST " ++ features_text facts) (omega arith) line,
                (
                  line_is (codes " REST STREAM") refl (omega arith),
                  (
                    line_is (codes " SIZE") refl (omega arith),
                    (
                      line_is (codes " UTF8") refl (omega arith),
                      (line_is (codes "211 End") refl (omega arith), tt),
                    ),
                  ),
                ),
              ),
            ),
          ),
        ),
      );
    }
  where
    P : List ℕ → Type 0
    P line = begins_with_digits line ≡ false

    plain_lines : All P (codes " EPRT" ∷ codes " EPSV" ∷ codes " MDTM" ∷ (codes " MLST " ++ features_text facts) ∷ codes " REST STREAM" ∷ codes " SIZE" ∷ codes " UTF8" ∷ [])
    plain_lines =
        let last : All P (codes " UTF8" ∷ []) = All-cons P (codes " UTF8") [] refl (All-nil P) in
        let sixth : All P (codes " SIZE" ∷ codes " UTF8" ∷ []) = All-cons P (codes " SIZE") (codes " UTF8" ∷ []) refl last in
        let rest : List (List ℕ) = codes " REST STREAM" ∷ codes " SIZE" ∷ codes " UTF8" ∷ [] in
        let fifth : All P rest = All-cons P (codes " REST STREAM") (codes " SIZE" ∷ codes " UTF8" ∷ []) refl sixth in
        let mlst : List ℕ = codes " MLST " ++ features_text facts in
        let fourth : All P (mlst ∷ rest) = All-cons P mlst rest refl fifth in
        let third : All P (codes " MDTM" ∷ mlst ∷ rest) = All-cons P (codes " MDTM") (mlst ∷ rest) refl fourth in
        let second : All P (codes " EPSV" ∷ codes " MDTM" ∷ mlst ∷ rest) = All-cons P (codes " EPSV") (codes " MDTM" ∷ mlst ∷ rest) refl third in
        All-cons P (codes " EPRT") (codes " EPSV" ∷ codes " MDTM" ∷ mlst ∷ rest) refl second

features_stated : (facts : Facts) → Stated 211 (features_reply facts).lines
features_stated facts = record {
  readable = features_written facts;
  room = omega (arith, lines_short (written 211 (features_reply facts).lines), length-append (codes " MLST ") (features_text facts), (features_fit facts).short);
}

-- ---- an entry

moment_fits : (moment : ℕ) → Fits 14 (moment_digits moment)
moment_fits moment = closed 14 (moment_digits moment) (moment_passes is_plain (λ n. digit_plain (48 + n) (omega arith)) moment) (moment_few moment)

plain_said : (octet : ℕ) → is_said_octet octet ≡ true → is_plain octet ≡ true
plain_said octet said = digit_plain octet (at_most 48 octet said)

tested : (text : List ℕ) → AllByRecursion (λ c. is_plain c ≡ true) text → list_all is_plain text ≡ true
tested [] plain = refl
tested (c ∷ text) plain = both (is_plain c) (list_all is_plain text) plain.0 (tested text plain.1)

-- the line of what is said of a file or a directory, whatever facts are in force
listed_fits : (facts : Facts) (file : Option (ℕ × ℕ)) (at_root : Bool) (name : List ℕ) → Fits text_limit name → Fits 1200 (listed_line facts (entry_of file at_root name))
listed_fits facts file at_root name named =
    let lets : Lets is_plain = record { at_equals = refl; at_semicolon = refl; at_space = refl; words = word_passes is_plain refl } in
    closed 1200 (listed_line facts (entry_of file at_root name)) (entry_passes is_plain lets plain_said facts file at_root name (tested name named.plain))
    (omega (arith, entry_few facts file at_root name, named.short))

entry_line : (s : Session) (path : Names) → IsPathText (path_text path) → Fits 1200 (listed_line s.facts (entry_at (seen s) path (path_text path)))
unfolding entry_at
entry_line s path is =
    listed_fits s.facts (shown_of (unwrap_or (node_at (seen s) path) Dir)) (is_root path) (path_text path) (path_fits (path_text path) is)

space_first : (rest : List ℕ) → begins_with_digits (32 ∷ rest) ≡ false
space_first [] = refl
space_first (a ∷ []) = refl
space_first (a ∷ b ∷ rest) = refl

entry_written : (s : Session) (path : Names) → IsPathText (path_text path) → IsWritten 250 (entry_reply s path).lines
entry_written s path is =
    let text : List ℕ = listed_line s.facts (entry_at (seen s) path (path_text path)) in
    let line = fits_with 1200 32 text refl (entry_line s path is) in
    let P : List ℕ → Type 0 = λ (l : List ℕ). begins_with_digits l ≡ false in
    record {
      code_is = record { low = omega arith; high = omega arith };
      some = omega arith;
      within = within (entry_reply s path).lines (omega arith) (omega (arith, line.short));
      plain = All-cons P (32 ∷ text) [] (space_first text) (All-nil P);
      carried = (
        line_is (codes "250-Listing") refl (omega arith),
        (padded_is (begins_with_digits (32 ∷ text)) text line, (line_is (codes "250 End") refl (omega arith), tt)),
      );
    }
  where
    padded_is : (is : Bool) (text : List ℕ) → Fits 1201 (32 ∷ text) → CanBeCarried (if is then 32 ∷ 32 ∷ text else 32 ∷ text)
    padded_is true text line = carried 1202 (32 ∷ 32 ∷ text) (omega arith) (fits_with 1201 32 (32 ∷ text) refl line)
    padded_is false text line = carried 1201 (32 ∷ text) (omega arith) line

entry_stated : (s : Session) (path : Names) → IsPathText (path_text path) → Stated 250 (entry_reply s path).lines
entry_stated s path is =
    let text : List ℕ = listed_line s.facts (entry_at (seen s) path (path_text path)) in
    record { readable = entry_written s path is; room = by_padded (begins_with_digits (32 ∷ text)) text (entry_line s path is).short }
  where
    by_padded : (is : Bool) (text : List ℕ) → length text ≤ 1200
        → length (flat_map written_line (opening_line 250 (codes "Listing") ∷ (if is then 32 ∷ 32 ∷ text else 32 ∷ text) ∷ last_line 250 (codes "End") ∷ [])) ≤ 4096
    by_padded true text short = omega (arith, lines_short (opening_line 250 (codes "Listing") ∷ (32 ∷ 32 ∷ text) ∷ last_line 250 (codes "End") ∷ []), short)
    by_padded false text short = omega (arith, lines_short (opening_line 250 (codes "Listing") ∷ (32 ∷ text) ∷ last_line 250 (codes "End") ∷ []), short)

-- ---- all replies

-- of one reply
abbrev Written : Reply → Type 0
Written reply = Stated reply.code reply.lines

only : (one reply : Reply) → Some one ≡ Some reply → Written one → Written reply
only one reply is written = let same : one ≡ reply = cc in subst Written same written

all_stated : (s : Session) (kind : ReplyKind Names) (reply : Reply) → IsTold s kind → reply_said s kind ≡ Some reply → Written reply
all_stated s Replies.Nothing reply told is = absurd (cc)
all_stated s (Replies.Fixed text) reply told is = only _ reply is (fixed_written text)
all_stated s Replies.Here reply told is =
    only _ reply is (stated_line 257 1830 (here_text s.cwd) (omega arith) (omega arith) (omega arith)
    (wider 1827 1830 (here_text s.cwd) (omega arith)
    (fits_both 1802 25 (quoted s.cwd) (codes " is the current directory") (quoted_fits s.cwd told) (closed 25 (codes " is the current directory") refl (omega arith)))))
all_stated s (Replies.Made path) reply told is =
    only _ reply is (stated_line 257 1830 (made_text path) (omega arith) (omega arith) (omega arith)
    (wider 1810 1830 (made_text path) (omega arith)
    (fits_both 1802 8 (quoted path) (codes " created") (quoted_fits path told) (closed 8 (codes " created") refl (omega arith)))))
all_stated s (Replies.Restarting offset) reply told is =
    only _ reply is (stated_line 350 32 (codes "Restarting at " ++ decimal offset) (omega arith) (omega arith) (omega arith)
    (fits_both 14 18 (codes "Restarting at ") (decimal offset) (closed 14 (codes "Restarting at ") refl (omega arith)) (decimal_fits offset told)))
all_stated s (Replies.Passive endpoint) reply told is =
    let six = six_fits endpoint.host endpoint.port told.0 told.1.0 told.1.1 in
    only _ reply is (stated_line 227 300 (passive_reply_text endpoint) (omega arith) (omega arith) (omega arith)
    (wider 225 300 (passive_reply_text endpoint) (omega arith)
    (fits_both 24 201 (codes "Entering Passive Mode (") (six_text endpoint ++ codes ")") (closed 24 (codes "Entering Passive Mode (") refl (omega arith))
    (fits_both 200 1 (six_text endpoint) (codes ")") six (closed 1 (codes ")") refl (omega arith))))))
all_stated s (Replies.Extended port) reply told is =
    only _ reply is (stated_line 229 100 (extended_reply_text port) (omega arith) (omega arith) (omega arith)
    (wider 60 100 (extended_reply_text port) (omega arith)
    (fits_both 40 20 (codes "Entering Extended Passive Mode (|||") (decimal port ++ codes "|)") (closed 40 (codes "Entering Extended Passive Mode (|||") refl (omega arith))
    (fits_both 18 2 (decimal port) (codes "|)") (decimal_fits port (omega (arith, told))) (closed 2 (codes "|)") refl (omega arith))))))
all_stated s (Replies.Size count) reply told is = only _ reply is (stated_line 213 18 (decimal count) (omega arith) (omega arith) (omega arith) (decimal_fits count told))
all_stated s (Replies.Stamp digits) reply told is =
    let F : List ℕ → Type 0 = λ l. Fits 14 l in
    only _ reply is (stated_line 213 14 digits (omega arith) (omega arith) (omega arith) (subst F (sym told.1) (moment_fits told.0)))
all_stated s (Replies.Entry path) reply told is = only _ reply is (entry_stated s path told)
all_stated s Replies.Features reply told is = only _ reply is (features_stated s.facts)
all_stated s Replies.Chosen reply told is = only _ reply is (stated_line 200 60 (chosen_reply s.facts) (omega arith) (omega arith) (omega arith) (chosen_is s.facts))

pub replies_are_written : RepliesAreWritten
replies_are_written s kind reply told is = (all_stated s kind reply told is).readable

pub replies_have_room : RepliesHaveRoom
replies_have_room s kind told = by_reply (reply_said s kind) refl
  where
    by_reply : (said : Option Reply) → reply_said s kind ≡ said → length (octets_if_any said) ≤ 4096
    by_reply None is = omega arith
    by_reply (Some reply) is = (all_stated s kind reply told is).room
