use Rattle.std.proofs.Common.{◌<◌, ◌+◌, ◌≤◌, ◌≡◌, ℕ, List, [], ◌∷◌, zero, suc, length, length-append, take, get_or, arith, ap, ◌∙◌}
use Rattle.std.specs.List.{flat_map}
use Rattle.std.specs.Prelude.{vec_capacity, Result, Ok, Err, OnErr}
use Rattle.ftp_nvt.specs.Lines.{written_octet, written_line}
use Rattle.ftp_nvt.proofs.put.append_line.Goals as goal

-- what the first octets of a text and the next are written as is no longer than the whole
front_and_next : (f : ℕ → List ℕ) (text : List ℕ) (i : ℕ) → i < length text
    → length (flat_map f (take i text)) + length (f (get_or text i 0)) ≤ length (flat_map f text)
front_and_next f [] i less = omega arith
front_and_next f (octet ∷ text) zero less = omega (arith, length-append (f octet) (flat_map f text))
front_and_next f (octet ∷ text) (suc i) less =
    omega (arith, front_and_next f text i (omega arith), length-append (f octet) (flat_map f (take i text)), length-append (f octet) (flat_map f text))

on_err : {T E Q : Type 0} (r : Result T E) → Q → OnErr r Q
on_err (Ok x) q = tt
on_err (Err e) q = q

pub returns-in_err-put_octet-clause-full : goal.returns-in_err-put_octet-clause-full
returns-in_err-put_octet-clause-full g c =
    let text = c.args.text.now in
    let index = c.loop-octet.octet-index in
    let front = flat_map written_octet (take index text) in
    let octet = get_or text index 0 in
    let room : vec_capacity c.loop-octet.out < length c.loop-octet.out.items + length (written_octet octet) = c.in_err-put_octet.ensures.full in
    let written : length c.loop-octet.out.items ≡ length c.args.out.now.items + length front =
    ap length c.loop-octet.invariant.written ∙ length-append c.args.out.now.items front in
    let full : vec_capacity c.args.out.now < length c.args.out.now.items + length (written_line text) =
    omega (arith, room, written, front_and_next written_octet text index c.loop-octet-test.true, length-append (flat_map written_octet text) (13 ∷ 10 ∷ []), c.loop-octet.invariant.capacity) in
    on_err c.from_residual.result full
