-- What a file put at a path answers.
use Rattle.std.proofs.Common.{◌≡◌, ◌≢◌, ℕ, ◌+◌, ◌≤◌, true, not, nat_le, List, ◌++◌, length, take, Option, Some, None, Result, Ok, Err, inl, IfOk, OnOk, refl, ap, sym, subst, ◌∙◌, arith, length-append, if◌then◌else◌}
use Rattle.std.proofs.lemmas.Bool.{le-leb, leb-true}
use Rattle.std.proofs.lemmas.List.{length-take-le}
use Rattle.ftp_path.specs.Path.{fits, Names}
use Rattle.ftp_tree.specs.Change.{Failures, IsDone, IsRefused, IsSteady, NoStray, Tells}
use Rattle.ftp_tree.specs.Tree.{Table, file_limit, octets_or_none, or_else, whenever, installed, under, with_part, room_refusal, room_at, octets_refusal, install_refusal}
use Rattle.ftp_tree.specs.declared.fault.TreeFault.{TreeFault}
use Rattle.ftp_tree.specs.declared.fault.TreeFault.TheVariants.{TooBig, Full, Device, Memory}
use Rattle.ftp_operation.specs.declared.answer.Answer.{Answer}
use Rattle.ftp_operation.specs.Answer.{Done, Refused, Said, said_of}
use Rattle.ftp_direct.specs.declared.refusal.Refusal.TheVariants.{TooMuch}
use Rattle.ftp_direct.specs.Refusal.{code_of, told}
use Rattle.ftp_direct.proofs.LookLemmas.{tells-counted, unstrayed}
use Rattle.ftp_direct.proofs.RefusalLemmas.{if_refused, stays}
use Rattle.ftp_direct.specs.Direct.{State, chosen, here, or_refused, put, put_refusal, refused_octets, refused_room}
use Rattle.ftp_direct.specs.Run.{Gives, IsAnswer}

none_never : (refusal : Option TreeFault) (why : TreeFault) → refusal ≡ None → refusal ≡ Some why → ⊥
none_never refusal why none some = cc

or_none : (first second : Option TreeFault) → or_else first second ≡ None → (first ≡ None) × (second ≡ None)
or_none None second none = (refl, none)
or_none (Some fault) second none = absurd (none_never (Some fault) fault none refl)

-- a file's front and some octets
put_len : (file octets content : List ℕ) (kept : ℕ) → kept ≤ length file → content ≡ take kept file ++ octets → length content ≡ kept + length octets
put_len file octets content kept within is =
    ap length is ∙ length-append (take kept file) octets ∙ ap (λ n. n + length octets) (length-take-le kept file within)

room_le : (table : Table) (path : Names) → room_at table path ≤ file_limit table
unfolding room_at
room_le table path = omega arith

octets_clear : (table : Table) (path : Names) (count : ℕ) → count ≤ room_at table path → octets_refusal table path count ≡ None
octets_clear table path count le =
    ap (λ b. or_else (whenever (not b) TooBig) (whenever (not (nat_le count (room_at table path))) Full)) (le-leb count (file_limit table) (omega (arith, le, room_le table path)))
    ∙ ap (λ b. whenever (not b) Full) (le-leb count (room_at table path) le)

install_clear : (table : Table) (path : Names) (count room : ℕ) → room_refusal table path ≡ None → room ≡ room_at table path → nat_le count room ≡ true
    → install_refusal table path count ≡ None
unfolding install_refusal
install_clear table path count room none is le =
    ap (λ r. or_else r (octets_refusal table path count)) none ∙ octets_clear table path count (omega (arith, leb-true count room le))

parts : (table : Table) (path : Names) (count : ℕ) → install_refusal table path count ≡ None → (room_refusal table path ≡ None) × (octets_refusal table path count ≡ None)
unfolding install_refusal
parts table path count none = or_none (room_refusal table path) (octets_refusal table path count) none

put_done : (table : Table) (root path cwd : Names) (count : ℕ) (content kept octets : List ℕ) (moment : ℕ) → fits path ≡ true → content ≡ kept ++ octets
    → length content ≡ count → install_refusal (under table root) path (length content) ≡ None
    → Gives (chosen (put_refusal (here table root cwd) path count) (here table root cwd) (put (here table root cwd) path kept octets moment)) Done
    (here (with_part table root (installed (under table root) path content moment)) root cwd)
put_done table root path cwd count content kept octets moment fit is long none =
    let seen = under table root in
    let both = parts seen path (length content) none in
    let old = here table root cwd in
    let free : put_refusal old path count ≡ None =
    ap (λ b. or_refused (refused_room (if b then room_refusal seen path else Some TooBig)) (refused_octets (octets_refusal seen path count))) fit
    ∙ ap (λ r. or_refused (refused_room r) (refused_octets (octets_refusal seen path count))) both.0
    ∙ ap (λ n. refused_octets (octets_refusal seen path n)) (sym long) ∙ ap refused_octets both.1 in
    let done = put old path kept octets moment in
    (ap (λ c. (chosen c old done).0) (sym free), ap (λ octets. here (with_part table root (installed seen path octets moment)) root cwd) is ∙ ap (λ c. (chosen c old done).1) (sym free))

-- the same, of a draft that the tree was given: it stood as before, and so did the counts
pub put_by : (table now new : Table) (root path cwd : Names) (kept : ℕ) (came octets : List ℕ) (moment : ℕ) (before count after : Failures)
    → fits path ≡ true → kept ≤ length (octets_or_none (under table root) path) → came ≡ octets → now ≡ table → count ≡ before
    → (NoStray count after → let part = under now root in let all = take kept (octets_or_none part path) ++ came in
    IsDone (install_refusal part path (length all)) (with_part now root (installed part path all moment)) new count after)
    → IsSteady count after → IsAnswer before after
    (chosen (put_refusal (here table root cwd) path (kept + length octets)) (here table root cwd) (put (here table root cwd) path (take kept (octets_or_none (under table root) path)) octets moment))
    (here table root cwd) Done (here new root cwd)
put_by table now new root path cwd kept came octets moment before count after fit within same still steady done told =
    let P : Table → List ℕ → Failures → Type 0 = λ t o n. NoStray n after → let part = under t root in let all = take kept (octets_or_none part path) ++ o in
    IsDone (install_refusal part path (length all)) (with_part t root (installed part path all moment)) new n after in
    let own = subst (λ n. P table octets n) steady (subst (λ o. P table o count) same (subst (λ t. P t came count) still done)) in
    let file = octets_or_none (under table root) path in
    let content = take kept file ++ octets in
    unstrayed before after _ _ Done (here new root cwd)
    (λ stray.
    let is = own stray in
    let gives = put_done table root path cwd (kept + length octets) content (take kept file) octets moment fit refl (put_len file octets content kept within refl) is.0 in
    stays before after _ _ Done (here new root cwd) is.2 (gives.0, ap (λ t. here t root cwd) is.1 ∙ gives.1))
    (inl (subst (λ n. IsSteady n after) steady told))

pub put_refused_by : {A E : Type 0} (result : Result (Answer A) E) (fault : TreeFault) (table now new : Table) (root path cwd : Names) (kept room : ℕ) (came octets : List ℕ) (before count after : Failures)
    → kept ≤ length (octets_or_none (under table root) path) → came ≡ octets → now ≡ table → count ≡ before → room_refusal (under table root) path ≡ None → room ≡ room_at (under table root) path
    → nat_le (kept + length octets) room ≡ true → IfOk result (λ answer. said_of answer ≡ Refused (code_of (told fault TooMuch))) → OnOk result (fault ≢ Memory)
    → (NoStray count after → let part = under now root in IsRefused (install_refusal part path (length (take kept (octets_or_none part path) ++ came))) fault now new count after)
    → Tells {X = Answer A} (Err fault) count after
    → (due : Said × State) → IfOk result (λ answer. IsAnswer before after due (here table root cwd) (said_of answer) (here new root cwd))
put_refused_by (Err why) fault table now new root path cwd kept room came octets before count after within same still steady none is le said other refused moved due = tt
put_refused_by {A = A} {E = E} (Ok answer) fault table now new root path cwd kept room came octets before count after within same still steady none is le said other refused moved due =
    let P : Table → List ℕ → Failures → Type 0 = λ t o n. NoStray n after → let part = under t root in IsRefused (install_refusal part path (length (take kept (octets_or_none part path) ++ o))) fault t new n after in
    let own = subst (λ n. P table octets n) steady (subst (λ o. P table o count) same (subst (λ t. P t came count) still refused)) in
    let file = octets_or_none (under table root) path in
    let content = take kept file ++ octets in
    let clear = install_clear (under table root) path (length content) room none is (ap (λ n. nat_le n room) (put_len file octets content kept within refl) ∙ le) in
    unstrayed before after due (here table root cwd) (said_of answer) (here new root cwd)
    (λ stray. if_refused {A = A} {E = E} (Ok answer) (install_refusal (under table root) path (length content)) fault TooMuch before after table new root cwd due said other (own stray)
    (none_never _ Device clear) (λ why e. absurd (none_never _ why clear e)))
    (tells-counted {X = Answer A} (Err fault) before after (subst (λ n. Tells {X = Answer A} (Err fault) n after) steady moved))
