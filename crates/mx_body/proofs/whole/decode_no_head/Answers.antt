use Rattle.std.proofs.Common.{◌≡◌, ◌≢◌, [], length, inl, inr, refl, ap, arith}
use Rattle.std.proofs.lemmas.List.{nil_from_length}
use Rattle.std.proofs.lemmas.Bool.Decides.{nat_tests}
use Rattle.mx_body.proofs.FirstBytesLemmas.{no_final, undecided_no_head}
use Rattle.mx_body.proofs.whole.decode_no_head.Goals as goal

pub returns-then-input-gt-MOST_BYTES : goal.returns-then-input-gt-MOST_BYTES
returns-then-input-gt-MOST_BYTES c =
    let u = undecided_no_head c.args.method c.args.input.now c.args.ended c.requires in
    (u.unfinished, inr (inl (u, c.if-input-gt-MOST_BYTES.true, refl)))

pub returns-then-not-ended : goal.returns-then-not-ended
returns-then-not-ended c =
    (undecided_no_head c.args.method c.args.input.now c.args.ended c.requires, c.if-input-gt-MOST_BYTES.false, c.if-not-ended.true)

pub returns-then-is_empty : goal.returns-then-is_empty
returns-then-is_empty c =
    let u = undecided_no_head c.args.method c.args.input.now c.args.ended c.requires in
    let none : length c.args.input.now ≡ 0 = grind (arith, nat_tests) in
    (u.unfinished, inr (inr (u, c.if-input-gt-MOST_BYTES.false, c.if-not-ended.false, inl (nil_from_length c.args.input.now none, refl))))

pub returns-else-is_empty : goal.returns-else-is_empty
returns-else-is_empty c =
    let u = undecided_no_head c.args.method c.args.input.now c.args.ended c.requires in
    let some : c.args.input.now ≢ [] = λ e. (let none : length c.args.input.now ≡ 0 = ap length e in grind (arith, nat_tests)) in
    (u.unfinished, inr (inr (u, c.if-input-gt-MOST_BYTES.false, c.if-not-ended.false, inr (inl (some, no_final c.args.input.now c.requires.0, refl)))))
