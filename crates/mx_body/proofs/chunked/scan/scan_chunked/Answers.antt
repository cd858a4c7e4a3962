use Rattle.std.proofs.Common.{◌≡◌, ◌+◌, false, refl, sym, ap, ◌∙◌, arith}
use Rattle.mx_body.specs.declared.chunked.place.ChunkedPlace.TheVariants.{Start}
use Rattle.mx_body.specs.ChunkedPlace.{is_settled}
use Rattle.mx_body.proofs.ChunkedRun.{place_after-nil}
use Rattle.mx_body.proofs.ChunkedSteps.{is_open, At, further, whole_at, short, bad_at, large_at}
use Rattle.mx_body.proofs.chunked.scan.scan_chunked.Goals as goal

pub loop-at-init : goal.loop-at-init
loop-at-init c = record { within = omega arith; read = place_after-nil c.args.limit Start; goes_on = refl }

pub loop-at-preserved : goal.loop-at-preserved
loop-at-preserved c = record {
  within = omega arith;
  read = further c.args.limit c.args.input.now c.loop-at.at c.advance-next.result.1 c.loop-at.place _ c.loop-at.invariant.read c.advance-next.ensures.place;
  goes_on = is_open c.advance-next.result.0 c.in_default.not-Done c.in_default.not-Bad c.in_default.not-TooLarge;
}

pub returns-in-Done : goal.returns-in-Done
returns-in-Done c =
    let there = further c.args.limit c.args.input.now c.loop-at.at c.advance-next.result.1 c.loop-at.place _ c.loop-at.invariant.read c.advance-next.ensures.place in
    whole_at c.args.limit c.args.input.now (c.loop-at.at + c.advance-next.result.1) (omega arith) (there ∙ c.in-Done.is)

pub returns-in-Bad : goal.returns-in-Bad
returns-in-Bad c =
    let there = further c.args.limit c.args.input.now c.loop-at.at c.advance-next.result.1 c.loop-at.place _ c.loop-at.invariant.read c.advance-next.ensures.place in
    let one = c.advance-next.ensures.by_one_byte (ap is_settled c.in-Bad.is) in
    let live : is_settled (At c.args.limit c.args.input.now c.loop-at.at) ≡ false = ap is_settled c.loop-at.invariant.read ∙ c.loop-at.invariant.goes_on in
    bad_at c.args.limit c.args.input.now c.loop-at.at c.loop-at-test.true live (ap (λ n. At c.args.limit c.args.input.now (c.loop-at.at + n)) (sym one) ∙ there ∙ c.in-Bad.is)

pub returns-in-TooLarge : goal.returns-in-TooLarge
returns-in-TooLarge c =
    let there = further c.args.limit c.args.input.now c.loop-at.at c.advance-next.result.1 c.loop-at.place _ c.loop-at.invariant.read c.advance-next.ensures.place in
    let one = c.advance-next.ensures.by_one_byte (ap is_settled c.in-TooLarge.is) in
    let live : is_settled (At c.args.limit c.args.input.now c.loop-at.at) ≡ false = ap is_settled c.loop-at.invariant.read ∙ c.loop-at.invariant.goes_on in
    large_at c.args.limit c.args.input.now c.loop-at.at c.loop-at-test.true live (ap (λ n. At c.args.limit c.args.input.now (c.loop-at.at + n)) (sym one) ∙ there ∙ c.in-TooLarge.is)

pub returns : goal.returns
returns c =
    let live : is_settled (At c.args.limit c.args.input.now c.loop-at.at) ≡ false = ap is_settled c.loop-at.invariant.read ∙ c.loop-at.invariant.goes_on in
    short c.args.limit c.args.input.now c.loop-at.at c.loop-at-test.false live
