use Rattle.std.proofs.Common.{[], ◌∙◌, refl, arith, map}
use Rattle.std.proofs.lemmas.List.{length-map}
use Rattle.std.proofs.lemmas.Option.{slice_get-map}
use Rattle.std.proofs.KnownBytes.{Appends-nil}
use Rattle.mx_run_get.proofs.Texts.{end_told, place, all_told}
use Rattle.mx_run_get.proofs.explained.print_ends.Goals as goal

pub loop-i-init : goal.loop-i-init
loop-i-init g c = ([], refl, Appends-nil _)

pub loop-i-preserved : goal.loop-i-preserved
loop-i-preserved g c =
    end_told _ _ _ (map (λ u. u.now) c.args.urls.now) c.args.ends.now c.loop-i.i _ c.index-ends-i.result (slice_get-map (λ u. u.now) c.args.urls.now c.loop-i.i ∙ c.url_at.ensures)
    (place _ _ _ c.loop-i-test.true c.index-ends-i.is) c.loop-i.invariant c.in_ok-print_left.ensures.bytes

pub returns-clause-bytes : goal.returns-clause-bytes
returns-clause-bytes g c =
    all_told _ _ (map (λ u. u.now) c.args.urls.now) c.args.ends.now c.loop-i.i (omega (arith, c.loop-i-test.false, c.loop-i.auto.i-end))
    (omega (arith, length-map c.args.urls.now (λ u. u.now), c.requires)) c.loop-i.invariant
