-- An upload's end is an operation of the direct run on the map that stands then.
use Rattle.std.proofs.Common.{◌≡◌, ◌+◌, ◌⊎◌, inl, inr, ℕ, Bool, true, false, not, List, [], ◌++◌, length, take, nat_le, Option, Some, None, is_some, refl, sym, ap, subst, ◌∙◌}
use Rattle.std.specs.Prelude.{if◌then◌else◌, ◌||◌, ◌==◌, ◌&&◌}
use Rattle.std.specs.Option.{unwrap_or}
use Rattle.std.proofs.Math.Dec.{leb-zero}
use Rattle.std.proofs.lemmas.Bool.{leb-true}
use Rattle.std.proofs.lemmas.List.{length-append, length-take-le}
use Rattle.ftp_direct.proofs.PlaceLemmas.{in_image}
use Rattle.ftp_direct.specs.Direct.{State, barred_put, chosen, done, due, offset_refusal, is_in_files, or_refused, counted_place, place_at, put, put_refusal, refusal, refused_name}
use Rattle.ftp_direct.specs.declared.refusal.Refusal.{Refusal}
use Rattle.ftp_direct.specs.declared.refusal.Refusal.TheVariants as Refusals
use Rattle.ftp_operation.specs.Answer.{Said}
use Rattle.ftp_operation.specs.declared.op.How.{How}
use Rattle.ftp_operation.specs.declared.op.Op.{Op}
use Rattle.ftp_operation.specs.declared.op.Op.TheVariants as Ops
use Rattle.ftp_path.specs.Path.{Names}
use Rattle.ftp_settings.specs.declared.representation.Kind.{Kind}
use Rattle.ftp_settings.specs.declared.representation.Kind.TheVariants as Kinds
use Rattle.ftp_settings.specs.declared.representation.Structure.{Structure}
use Rattle.ftp_settings.specs.declared.representation.Structure.TheVariants as Structures
use Rattle.ftp_settings.specs.Representation.{same_kind, same_structure}
use Rattle.ftp_tree.specs.Tree.{installed, octets_or_none, whenever}
use Rattle.ftp_tree.specs.declared.fault.TreeFault.TheVariants as Faults
use Rattle.ftp_wire.specs.Decoder.{Decoder, broken, ended, is_whole}
use Rattle.ftp_server_model.specs.Keep.{is_overtaken, lacks}
use Rattle.ftp_server_model.specs.Machine.{at_break, breaks_off, end_refusal, ends_by, installs, put_in, put_together}
use Rattle.ftp_server_model.specs.View.{Session, direct_of, seen, with_seen}
use Rattle.ftp_server_model.specs.Walk.{path_of, refusal_text}
use Rattle.ftp_server_model.specs.declared.reply.FixedReply.{FixedReply}
use Rattle.ftp_server_model.specs.declared.reply.FixedReply.TheVariants as Texts
use Rattle.ftp_server_model.specs.declared.session.Keep.{Keep}
use Rattle.ftp_server_model.specs.declared.session.Keep.TheVariants.{First, All, FirstOvertaken, AllOvertaken}
use Rattle.ftp_server_model.specs.declared.session.Transfer.TheVariants as Transfers
use Rattle.laws_server.specs.several.Actions.{EndAnswers, EndsAreDirect, EndsAs, IsPutDirectly, counts_octets}
use Rattle.laws_server.proofs.several.LineLemmas.{same_code}

-- no second reason is no reason
never : (why : Option Refusal) → or_refused why (Some Refusals.BadName) ≡ None → ⊥
never None none = cc
never (Some why) none = cc

-- in image and file structure
both : (kind : Kind) (structure : Structure) → (same_kind kind Kinds.Image && same_structure structure Structures.File) ≡ true → (kind ≡ Kinds.Image) × (structure ≡ Structures.File)
both Kinds.Image Structures.File is = (refl, refl)
both Kinds.Image Structures.Record is = absurd (cc)
both Kinds.Ascii structure is = absurd (cc)

counts_both : (how : How) → counts_octets how ≡ true → (how.representation.kind ≡ Kinds.Image) × (how.representation.structure ≡ Structures.File)
counts_both how is = both how.representation.kind how.representation.structure is

module _ (moment : ℕ) (text : List ℕ) (octets : List ℕ) (reply : FixedReply) (s : Session) where
  abbrev path : Names
  path = path_of s text

  -- what stands there now
  abbrev stands : List ℕ
  stands = octets_or_none (seen s) path

  -- what is put after these octets
  abbrev put_after : List ℕ → Said × State
  put_after kept = put (direct_of s) path kept octets moment

  -- an end that is refused, or puts what came after these octets
  answers : (why : Option Refusal) (keep : Keep) (kept : List ℕ) → (why ≡ None → put_together path keep octets s ≡ kept ++ octets)
      → EndAnswers reply s (chosen why (direct_of s) (put_after kept)) (ends_by why moment path keep octets reply s)
  answers (Some why) keep kept is = (refl, same_code why)
  answers None keep kept is = ap (λ (all : List ℕ). (with_seen (installed (seen s) path all moment) s, reply)) (is refl)

  -- the end of an upload that keeps so much
  abbrev installs_by : Keep → Session × FixedReply
  installs_by keep = ends_by (end_refusal path keep octets s) moment path keep octets reply s

  -- two refusals that are the same
  by_refusal : (keep : Keep) (kept : List ℕ) (why : Option Refusal) → end_refusal path keep octets s ≡ why → (why ≡ None → put_together path keep octets s ≡ kept ++ octets)
      → EndAnswers reply s (chosen why (direct_of s) (put_after kept)) (installs_by keep)
  by_refusal keep kept why same is =
      subst (λ (why : Option Refusal). EndAnswers reply s (chosen why (direct_of s) (put_after kept)) (installs_by keep)) same
      (answers (end_refusal path keep octets s) keep kept (λ none. is (sym same ∙ none)))

  -- so many octets are those kept and those that came
  total : (kept : List ℕ) (count : ℕ) → length kept ≡ count → put_refusal (direct_of s) path (length (kept ++ octets)) ≡ put_refusal (direct_of s) path (count + length octets)
  total kept count is = ap (put_refusal (direct_of s) path) (length-append kept octets ∙ ap (λ (n : ℕ). n + length octets) is)

  append_ends : (count : ℕ) (how : How) → EndAnswers reply s (due (direct_of s) (Ops.Append text octets how) moment) (installs_by (All count))
  append_ends count how =
      by_refusal (All count) stands (refusal (direct_of s) (Ops.Append text octets how)) (ap (or_refused (barred_put (direct_of s) path)) (total stands (length stands) refl)) (λ none. refl)

  put_ends : (how : How) → EndAnswers reply s (due (direct_of s) (Ops.Put text octets how) moment) (installs_by (First 0))
  put_ends how = by_refusal (First 0) [] (refusal (direct_of s) (Ops.Put text octets how))
      (ap (λ (b : Bool). or_refused (barred_put (direct_of s) path) (or_refused (refused_name (whenever (not b) Faults.BadOffset)) (put_refusal (direct_of s) path (length octets))))
      (leb-zero (length stands))) (λ none. refl)

  -- in image an offset of the file leads to itself, if it stands there
  from_ends : (place : ℕ) (how : How) → how.representation.kind ≡ Kinds.Image → how.representation.structure ≡ Structures.File
      → EndAnswers reply s (due (direct_of s) (Ops.PutFrom text place octets how) moment) (installs_by (First place))
  from_ends place how image file =
      subst (λ (o : Option Refusal). EndAnswers reply s (chosen (or_refused o (rest (place_at (direct_of s) path how place))) (direct_of s) (after (place_at (direct_of s) path how place))) (installs_by (First place)))
      (sym offset_none)
      (subst (λ (led : Option ℕ). EndAnswers reply s (chosen (rest led) (direct_of s) (after led)) (installs_by (First place))) (sym leads) (by (nat_le place (length stands)) refl))
    where
      -- the reasons after that of the offset, by where it leads
      rest : Option ℕ → Option Refusal
      rest led =
          or_refused (barred_put (direct_of s) path)
          (or_refused (refused_name (whenever (not (is_some led)) Faults.BadOffset)) (put_refusal (direct_of s) path (unwrap_or led 0 + length octets)))

      after : Option ℕ → Said × State
      after led = put_after (take (unwrap_or led 0) stands)

      offset_none : offset_refusal place how ≡ None
      offset_none =
          ap (λ (structure : Structure). if (place == 0) || is_in_files structure then None else Some Refusals.BadParameter) file
          ∙ elim (place == 0) as (λ b. (if b || true then None else Some Refusals.BadParameter) ≡ None) [ true ↦ refl | false ↦ refl ]

      leads : place_at (direct_of s) path how place ≡ (if nat_le place (length stands) then Some place else None)
      leads = ap (λ (kind : Kind). counted_place kind stands place) image ∙ in_image stands place

      by : (b : Bool) → nat_le place (length stands) ≡ b
          → EndAnswers reply s (chosen (rest (if b then Some place else None)) (direct_of s) (after (if b then Some place else None))) (installs_by (First place))
      by true within =
          by_refusal (First place) (take place stands) (rest (Some place))
          (ap (λ (b : Bool). or_refused (barred_put (direct_of s) path) (or_refused (refused_name (whenever (not b) Faults.BadOffset)) (put_refusal (direct_of s) path (length (take place stands ++ octets))))) within
          ∙ ap (or_refused (barred_put (direct_of s) path)) (total (take place stands) place (length-take-le place stands (leb-true place (length stands) within)))) (λ none. refl)
      by false past =
          by_refusal (First place) [] (rest None)
          (ap (λ (b : Bool). or_refused (barred_put (direct_of s) path) (or_refused (refused_name (whenever (not b) Faults.BadOffset)) (put_refusal (direct_of s) path (length (take place stands ++ octets))))) past)
          (λ none. absurd (never (barred_put (direct_of s) path) none))

  -- what came of an upload to a path that this text names: behind all octets that stand there
  behind_all : (count : ℕ) (op : Op (List ℕ)) → EndsAs (All count) text octets op → EndAnswers reply s (due (direct_of s) op moment) (installs_by (All count))
  behind_all count op asks =
      subst (λ (o : Op (List ℕ)). EndAnswers reply s (due (direct_of s) o moment) (installs_by (All count))) (sym asks.1) (append_ends count asks.0)

  -- or behind so many of the first
  behind_first : (place : ℕ) (op : Op (List ℕ)) → EndsAs (First place) text octets op → EndAnswers reply s (due (direct_of s) op moment) (installs_by (First place))
  behind_first place op (inl whole) =
      subst (λ (o : Op (List ℕ)). EndAnswers reply s (due (direct_of s) o moment) (installs_by (First place))) (sym whole.2)
      (subst (λ (n : ℕ). EndAnswers reply s (due (direct_of s) (Ops.Put text octets whole.0) moment) (installs_by (First n))) (sym whole.1) (put_ends whole.0))
  behind_first place op (inr from) =
      let image = counts_both from.0 from.1 in
      subst (λ (o : Op (List ℕ)). EndAnswers reply s (due (direct_of s) o moment) (installs_by (First place))) (sym from.2) (from_ends place from.0 image.0 image.1)

  -- one that was overtaken ends as it would have
  overtaken_all : (count : ℕ) (why : Option Refusal) → ends_by why moment path (All count) octets reply s ≡ ends_by why moment path (AllOvertaken count) octets reply s
  overtaken_all count None = refl
  overtaken_all count (Some why) = refl

  overtaken_first : (place : ℕ) (why : Option Refusal)
      → ends_by why moment path (First place) octets reply s ≡ ends_by why moment path (FirstOvertaken place) octets reply s
  overtaken_first place None = refl
  overtaken_first place (Some why) = refl

  -- each of them
  ends : (keep : Keep) (op : Op (List ℕ)) → EndsAs keep text octets op → EndAnswers reply s (due (direct_of s) op moment) (installs_by keep)
  ends (All count) op asks = behind_all count op asks
  ends (First place) op asks = behind_first place op asks
  ends (AllOvertaken count) op asks =
      subst (EndAnswers reply s (due (direct_of s) op moment)) (overtaken_all count (end_refusal path (All count) octets s)) (behind_all count op asks)
  ends (FirstOvertaken place) op asks =
      subst (EndAnswers reply s (due (direct_of s) op moment)) (overtaken_first place (end_refusal path (First place) octets s)) (behind_first place op asks)

put_direct : (moment : ℕ) (path : Names) (keep : Keep) (octets : List ℕ) (reply : FixedReply) (s : Session)
    → IsPutDirectly moment path keep octets reply s (ends_by (end_refusal path keep octets s) moment path keep octets reply s)
put_direct moment goal keep octets reply s text op at asks =
    subst (λ (p : Names). EndAnswers reply s (due (direct_of s) op moment) (ends_by (end_refusal p keep octets s) moment p keep octets reply s)) at
    (ends moment text octets reply s keep op asks)

-- it broke, and nobody changed what stands at its path
off_direct : (moment : ℕ) (path : Names) (keep : Keep) (d : Decoder) (s : Session) → is_overtaken keep ≡ false
    → IsPutDirectly moment path keep (broken d).content Texts.Broken s (at_break moment (Transfers.Upload path keep d) s)
off_direct moment path keep d s own text op at asks =
    subst (λ (late : Bool). EndAnswers Texts.Broken s (due (direct_of s) op moment) (breaks_off late moment path keep d s)) (sym own)
    (put_direct moment path keep (broken d).content Texts.Broken s text op at asks)

-- somebody did
off_overtaken : (moment : ℕ) (path : Names) (keep : Keep) (d : Decoder) (s : Session) → is_overtaken keep ≡ true
    → at_break moment (Transfers.Upload path keep d) s ≡ (s, Texts.Broken)
off_overtaken moment path keep d s late = ap (λ (b : Bool). breaks_off b moment path keep d s) late

pub ends_direct : EndsAreDirect
ends_direct = record {
  whole = λ moment path keep d s whole text op at asks.
      subst (λ (b : Bool). EndAnswers Texts.Complete s (due (direct_of s) op moment) (if b then installs moment path keep (ended d) Texts.Complete s else at_break moment (Transfers.Upload path keep d) s)) (sym whole)
      (put_direct moment path keep (ended d).content Texts.Complete s text op at asks);
  early = λ moment path keep d s early own text op at asks.
      subst (λ (b : Bool). EndAnswers Texts.Broken s (due (direct_of s) op moment) (if b then installs moment path keep (ended d) Texts.Complete s else at_break moment (Transfers.Upload path keep d) s)) (sym early)
      (off_direct moment path keep d s own text op at asks);
  broke = off_direct;
  overtaken_early = λ moment path keep d s early late.
      ap (λ (b : Bool). if b then installs moment path keep (ended d) Texts.Complete s else at_break moment (Transfers.Upload path keep d) s) early
      ∙ off_overtaken moment path keep d s late;
  overtaken_broke = off_overtaken;
}
