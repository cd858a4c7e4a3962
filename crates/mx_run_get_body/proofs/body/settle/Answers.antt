use Rattle.std.proofs.Common.{◌≡◌, ◌≢◌, ◌∙◌, ◌++◌, true, false, ℕ, List, [], ap, length, sym, subst}
use Rattle.mx_chain.specs.Outcomes.{OutcomeValue}
use Rattle.mx_text.specs.Failures.{IsFlowingWhy}
use Rattle.mx_run_io.specs.Ends.{has_failed_write}
use Rattle.mx_run_get_body.specs.Bodies.{IsWritten}
use Rattle.mx_run_get_body.proofs.Bodies.{both_none, none_both, told_as, was_ok, where_failed, where_ok, written}
use Rattle.mx_run_get_body.proofs.body.settle.Goals as goal

pub returns-clause-written : goal.returns-clause-written
returns-clause-written g c =
    let o = c.args.outcome in
    let was = c.code-code.ensures in
    let s = c.flush.new.self in
    let flushed = c.told_by-flushed.result in
    let told = c.told_by-told.result in
    let left = c.write_rest-sink.result.1.items in
    let rest = c.write_rest-sink.result.2.items in
    let all = c.into_delivery-outlet.ensures.handed ∙ c.write_rest-sink.ensures ∙ ap (λ (l : List ℕ). l ++ (left ++ rest)) (sym c.flush.ensures.same.1) in
    let is = told_as told flushed c.code-code.result o.code c.is_ok-is_flushed.result c.are_empty-is_all.result (has_failed_write s.output ≡ true) (left ++ rest ≢ []) c.told_by-told.ensures.is
    c.told_by-flushed.ensures.is was.code (λ e. where_failed _ c.flush.result (sym c.is_ok-is_flushed.ensures.value ∙ e) c.flush.ensures.failed)
    (λ e none.
    let both = none_both left rest none in
    let all = c.are_empty-is_all.ensures.1 (ap length c.deref.ensures.value ∙ both.0, ap length c.as_slice.ensures ∙ both.1) in
    let bad : true ≡ false = sym all ∙ e in
    cc) in
    subst (λ (v : OutcomeValue). IsWritten g.W.Write.contents o.request v told s) (sym c.of-about.ensures)
    (written g.W.Write.contents o told s (left ++ rest) c.know_end.ensures.end (λ ok. was.body (was.code ∙ ok)) (λ ok. was.handed (was.code ∙ ok)) is all
    (λ ok.
    let none = c.are_empty-is_all.ensures.0 (c.told_by-told.ensures.all ok) in
    both_none left rest (ap length (sym c.deref.ensures.value) ∙ none.0) (ap length (sym c.as_slice.ensures) ∙ none.1))
    (λ ok.
    let well = c.told_by-flushed.ensures.all (was_ok told flushed c.told_by-told.ensures.is ok) in
    where_ok _ c.flush.result (sym c.is_ok-is_flushed.ensures.value ∙ well) c.flush.ensures.flushed)
    c.know.ensures)

pub returns-clause-reason : goal.returns-clause-reason
returns-clause-reason g c = subst (λ (v : OutcomeValue). IsFlowingWhy v c.flowing_why_of-reason.result) (sym c.of-about.ensures) c.flowing_why_of-reason.ensures
