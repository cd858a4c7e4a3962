use Rattle.std.proofs.Common.{◌≡◌, true, suc, [], None, ap, arith, refl, sym, ◌∙◌}
use Rattle.mx_save.specs.Ledgers.{is_taken}
use Rattle.mx_save.proofs.Moments.{later_by}
use Rattle.mx_save.proofs.Runs.{taken_is_no_memory}
use Rattle.mx_save.proofs.Tries.{err_weaker, refused_last, taken_more, taken_none}
use Rattle.mx_save.proofs.ledger.Ledger.make_part.Goals as goal

pub loop-tried-init : goal.loop-tried-init
loop-tried-init g c =
    record {
      entries = refl;
      start = refl;
      flush = refl;
      out = refl;
      left = refl;
      files = λ found name safe. refl;
      later = ([], refl);
      grows = omega arith;
      within = omega arith;
      taken = 0;
      counted = omega arith;
      tries = taken_none _;
    }

pub loop-tried-preserved : goal.loop-tried-preserved
loop-tried-preserved g c =
    let inv = c.loop-tried.invariant in
    let u = c.in-Err.unsaved in
    let is : is_taken u.error u.left ≡ true = sym c.is_taken.ensures ∙ c.if-not-is_taken.false in
    let there : is_taken u.error None ≡ true = ap (is_taken u.error) (sym c.in-Err.ensures.none_left) ∙ is in
    record {
      entries = c.make_next.ensures.entries ∙ inv.entries;
      start = c.make_next.ensures.start ∙ inv.start;
      flush = c.make_next.ensures.flush ∙ inv.flush;
      out = c.in-Err.ensures.none_out ∙ inv.out;
      left = c.make_next.ensures.left ∙ inv.left;
      files = λ found name safe. c.make_next.ensures.files found name safe ∙ inv.files found name safe;
      later = later_by _ _ _ inv.later c.make_next.ensures.later;
      grows = omega (arith, inv.grows, c.in-Err.ensures.cause (taken_is_no_memory u.error u.left is));
      within = omega (arith, c.loop-tried-test.true);
      taken = suc inv.taken;
      counted = omega (arith, inv.counted);
      tries = taken_more _ _ _ inv.taken u.error u.part None inv.tries c.make_next.ensures.next c.in-Err.ensures.refused_by there;
    }

pub returns-in-Ok-clause-later : goal.returns-in-Ok-clause-later
returns-in-Ok-clause-later g c = later_by _ _ _ c.loop-tried.invariant.later c.make_next.ensures.later

pub returns-then-not-is_taken-clause-later : goal.returns-then-not-is_taken-clause-later
returns-then-not-is_taken-clause-later g c = later_by _ _ _ c.loop-tried.invariant.later c.make_next.ensures.later

pub returns-clause-later : goal.returns-clause-later
returns-clause-later g c = later_by _ _ _ c.loop-tried.invariant.later c.make_next-2.ensures.later

pub returns-then-not-is_taken-clause-refused_by : goal.returns-then-not-is_taken-clause-refused_by
returns-then-not-is_taken-clause-refused_by g c =
    let inv = c.loop-tried.invariant in
    let u = c.in-Err.unsaved in
    refused_last _ _ _ inv.taken u.error u.part None (omega (arith, inv.counted, inv.within)) inv.tries c.make_next.ensures.next c.in-Err.ensures.refused_by

pub returns-clause-refused_by : goal.returns-clause-refused_by
returns-clause-refused_by g c =
    let inv = c.loop-tried.invariant in
    err_weaker _ _ c.make_next-2.result
    (λ u once. refused_last _ _ _ inv.taken u.error u.part None (omega (arith, inv.counted, inv.within)) inv.tries c.make_next-2.ensures.next once)
    c.make_next-2.ensures.refused_by
