use Rattle.std.proofs.Common.{◌≡◌, ℕ, ◌-◌, List, length, take, drop, fold, subst, arith, length-drop, length-take}
use Rattle.std.proofs.lemmas.List.{take_all}
use Rattle.mx_head.specs.Scan.{after}
use Rattle.mx_head.proofs.ScanRuns.{run_on}
use Rattle.mx_head.proofs.scan.HeadScan.read_on.Goals as goal

pub loop-read-preserved-then-run-gt0 : goal.loop-read-preserved-then-run-gt0
loop-read-preserved-then-run-gt0 c =
    let text = c.args.text.now in
    let read = c.loop-read.read in
    let left = drop read text in
    let behind = take_all (length text - read) left (omega (arith, length-drop read text)) in
    let r = c.loop-read.reached in (
      omega (arith, c.run-run.ensures.within, length-take (length text - read) left, length-drop read text, c.loop-read-test.true),
      run_on text read c.run-run.result r c.loop-read.invariant.1
          (subst (λ (t : List ℕ). fold after r (take c.run-run.result t) ≡ r) behind (c.run-run.ensures.stays r.fields)),
    )
