use Rattle.std.proofs.Common.{◌∙◌, ◌+◌, ◌-◌, ◌<◌, sym, ap, arith, length, get_or, map, inl, inr}
use Rattle.std.proofs.lemmas.Bool.{cases_lt}
use Rattle.std.proofs.lemmas.List.{length-set}
use Rattle.mx_history.specs.Rows.{turned}
use Rattle.mx_table.proofs.Lookups.{any_row, idle_up_to, map_turned, map_idle}
use Rattle.mx_table.proofs.rows.Rows.turn.Goals as goal

pub overflow_add-from : goal.overflow_add-from
overflow_add-from c = record { fits = omega (arith, c.next_of.ensures.few, c.in-Some.ensures.within.1) }

pub loop-at-smaller : goal.loop-at-smaller
loop-at-smaller c =
    let rows = c.loop-at.self in
    let smaller : length c.turn_at.new.self - (c.in-Some.at + 1) < length rows - c.loop-at.from =
    omega (arith, c.in-Some.ensures.within.0, c.in-Some.ensures.within.1, ap length (c.turn_at.ensures any_row), length-set rows c.in-Some.at (turned c.args.what.now (get_or rows c.in-Some.at any_row))) in
    smaller

pub loop-at-preserved : goal.loop-at-preserved
loop-at-preserved c =
    let rows = c.loop-at.self in
    let at = c.in-Some.at in
    let less : at < length rows = c.in-Some.ensures.within.1 in
    let e = c.turn_at.ensures any_row in record {
      within = omega (arith, less, ap length e, length-set rows at (turned c.args.what.now (get_or rows at any_row)));
      same = ap (map (turned c.args.what.now)) e ∙ map_turned c.args.what.now rows at any_row less ∙ c.loop-at.invariant.same;
      before = rw e
          (idle_up_to c.args.what.now rows at any_row less
          (λ k d before. elim (cases_lt k c.loop-at.from) [
            | inl early ↦ c.loop-at.invariant.before k d early
            | inr late ↦ c.requires _ (c.in-Some.ensures.first k d late before)
          ]));
    }

pub returns : goal.returns
returns c =
    sym (map_idle c.args.what.now c.loop-at.self
    (λ k d lt. elim (cases_lt k c.loop-at.from) [
      | inl early ↦ c.loop-at.invariant.before k d early
      | inr late ↦ c.requires _ (c.in_default.ensures.none k d late lt)
    ]))
    ∙ c.loop-at.invariant.same
