use Rattle.std.proofs.Common.{◌≡◌, ◌≤◌, ◌∙◌, ◌++◌, List, ℕ, sym, ap, take, length, arith}
use Rattle.std.proofs.lemmas.List.{take-append-le}
use Rattle.std.proofs.Math.Seq.{take-append_seam}
use Rattle.std.specs.List.{concat}
use Rattle.ftp_tree_memory.specs.pages.Pages.{page_octets}
use Rattle.ftp_tree_memory.proofs.pages.run.push_all.Goals as goal

-- the front of what was put is what there was
front-stays : (old now rest octets : List ℕ) (had : ℕ) → had ≡ length old → had ≤ length now → now ++ rest ≡ old ++ octets → take had now ≡ old
front-stays old now rest octets had count grown put =
    sym (take-append-le had now rest grown) ∙ ap (take had) put ∙ ap (λ n. take n (old ++ octets)) count ∙ take-append_seam old octets

pub cut-requires-clause-most : goal.cut-requires-clause-most
cut-requires-clause-most g c = omega (arith, ap length c.in_default.ensures.err, c.loop-rest.invariant.grown, c.requires.had)

pub returns-in_default-clause-err : goal.returns-in_default-clause-err
returns-in_default-clause-err g c =
    let same = c.in_default.ensures.err in
    let now = concat (page_octets c.loop-rest.pages.items) in
    let more : c.args.had ≤ length now = omega (arith, c.loop-rest.invariant.grown, c.requires.had) in
    c.cut.ensures.front ∙ ap (take c.args.had) same ∙ front-stays (concat (page_octets c.args.pages.now.items)) now c.loop-rest.rest.now c.args.octets.now c.args.had c.requires.had more c.loop-rest.invariant.put
