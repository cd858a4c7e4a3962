use Rattle.std.proofs.Common.{◌∙◌, ap, sym, arith}
use Rattle.std.proofs.lemmas.List.{take_all}
use Rattle.mx_head.specs.Limits.{most_bytes}
use Rattle.mx_body.specs.declared.chunked.place.ChunkedPlace.TheVariants.{Start}
use Rattle.mx_body.specs.ChunkedPlace.{place_after}
use Rattle.mx_body.proofs.ChunkedRun.{place_after-nil}
use Rattle.mx_body.proofs.ChunkedSteps.{further}
use Rattle.mx_reason.proofs.fault.place_behind.Goals as goal

pub loop-at-init : goal.loop-at-init
loop-at-init c = record { within = omega arith; read = place_after-nil most_bytes Start }

pub loop-at-preserved : goal.loop-at-preserved
loop-at-preserved c = record {
  within = omega arith;
  read = further most_bytes c.args.body.now c.loop-at.at c.advance-next.result.1 c.loop-at.place _ c.loop-at.invariant.read c.advance-next.ensures.place;
}

pub returns : goal.returns
returns c = sym c.loop-at.invariant.read ∙ ap (place_after most_bytes Start) (take_all c.loop-at.at c.args.body.now c.loop-at-test.false)
