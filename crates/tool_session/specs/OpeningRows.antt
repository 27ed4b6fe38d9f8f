-- Worked rows: after which answers PASV, PORT or LIST is asked for in place of EPSV, EPRT or MLSD, and what is said of another host. Each is a theorem that
-- computes.
use Rattle.std.specs.Prelude.{◌≡◌, ℕ, true, false}
use Rattle.ftp_operation.specs.declared.answer.Answer.TheVariants as Answers
use Rattle.ftp_operation.specs.declared.op.ListVerb.TheVariants as Verbs
use Rattle.tool_session.specs.Opening.{list_verb_by, opening_by, stranger_by}
use Rattle.tool_session.specs.declared.opening.Opening.TheVariants as Openings
use Rattle.tool_session.specs.declared.opening.Stranger.TheVariants as Strangers

-- EPSV: each refusal, but that of a server that is not available; a dead port; no answer with a data connection, and none that is no refusal
abbrev pub PassiveFallsBack : Type 0
PassiveFallsBack =
    (opening_by {A = ℕ} Openings.ExtendedFirst (Answers.Refused 425) false false ≡ Openings.FellBack)
    × (opening_by {A = ℕ} Openings.ExtendedFirst (Answers.Refused 502) false false ≡ Openings.FellBack)
    × (opening_by {A = ℕ} Openings.ExtendedFirst (Answers.Refused 550) false false ≡ Openings.FellBack)
    × (opening_by {A = ℕ} Openings.ExtendedFirst Answers.Unopened false false ≡ Openings.FellBack)
    × (opening_by {A = ℕ} Openings.ExtendedFirst (Answers.Refused 421) false false ≡ Openings.ExtendedFirst)
    × (opening_by {A = ℕ} Openings.ExtendedFirst (Answers.Refused 550) false true ≡ Openings.ExtendedFirst)
    × (opening_by {A = ℕ} Openings.ExtendedFirst Answers.Lost false false ≡ Openings.ExtendedFirst)
    × (opening_by {A = ℕ} Openings.Extended (Answers.Refused 502) false false ≡ Openings.Extended)

-- EPRT: the four codes of what is not known alone, since a file that is not there is refused without a data connection, too
abbrev pub ActiveFallsBack : Type 0
ActiveFallsBack =
    (opening_by {A = ℕ} Openings.ExtendedFirst (Answers.Refused 522) true false ≡ Openings.FellBack)
    × (opening_by {A = ℕ} Openings.ExtendedFirst (Answers.Refused 550) true false ≡ Openings.ExtendedFirst)
    × (opening_by {A = ℕ} Openings.ExtendedFirst Answers.Unopened true false ≡ Openings.ExtendedFirst)

-- MLSD: the two codes of a command that is not known (RFC 959, section 4.2.2); a refused argument or directory counts for nothing
abbrev pub ListingFallsBack : Type 0
ListingFallsBack =
    (list_verb_by {A = ℕ} Verbs.Mlsd (Answers.Refused 500) ≡ Verbs.List)
    × (list_verb_by {A = ℕ} Verbs.Mlsd (Answers.Refused 502) ≡ Verbs.List)
    × (list_verb_by {A = ℕ} Verbs.Mlsd (Answers.Refused 501) ≡ Verbs.Mlsd)
    × (list_verb_by {A = ℕ} Verbs.Mlsd (Answers.Refused 550) ≡ Verbs.Mlsd)
    × (list_verb_by {A = ℕ} Verbs.Mlsd Answers.Unopened ≡ Verbs.Mlsd)
    × (list_verb_by {A = ℕ} Verbs.List Answers.Done ≡ Verbs.List)

-- another host: it came, where the server was to open the data connection; else a 227 named it, and EPSV failed before or was not asked for
abbrev pub NamesStrangers : Type 0
NamesStrangers =
    (stranger_by Openings.ExtendedFirst true ≡ Strangers.Came)
    × (stranger_by Openings.FellBack true ≡ Strangers.Came)
    × (stranger_by Openings.Plain false ≡ Strangers.Named)
    × (stranger_by Openings.FellBack false ≡ Strangers.NamedBehind)
