use Rattle.std.proofs.lemmas.Grind.{common_steps}
use Rattle.std.proofs.Common.{◌≡◌, ℕ, List, arith, sym, ap, ◌∙◌}
use Rattle.std.proofs.lemmas.List.{take_all}
use Rattle.mx_head.specs.declared.lines.Place.{Place}
use Rattle.mx_head.specs.Lines.{scan, start}
use Rattle.mx_head.proofs.LineLemmas.{not_full}
use Rattle.mx_head.proofs.lines.scan_lines.Goals as goal

pub returns-clause-none : goal.returns-clause-none
returns-clause-none c s rest e f =
    let whole = take_all c.loop-i.i c.args.input.now c.loop-i-test.false in
    let same : (scan start c.args.input.now).lines ≡ c.loop-i.place.lines =
    ap (λ (t : List ℕ). (scan start t).lines) (sym whole) ∙ ap (λ (q : Place). q.lines) c.loop-i.invariant.0 in
    not_full c.args.input.now s rest e (omega (arith, same, c.loop-i.invariant.1)) f

pub loop-i-preserved : goal.loop-i-preserved
loop-i-preserved c = grind (arith, common_steps)

pub returns-then-place-eq-MOST_LINES-clause-full : goal.returns-then-place-eq-MOST_LINES-clause-full
returns-then-place-eq-MOST_LINES-clause-full c = grind (arith, common_steps)
