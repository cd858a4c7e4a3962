use Rattle.std.proofs.Common.{ℕ, ◌≡◌, ◌≤◌, ◌*◌, ◌+◌, true, get_or, subst, sym, arith}
use Rattle.std.specs.Char.{is_ascii_hexdigit}
use Rattle.mx_body.specs.declared.chunked.place.ChunkedPlace.TheVariants.{Size}
use Rattle.mx_body.specs.ChunkedStretch.{GoesOn}
use Rattle.mx_body.proofs.ChunkedStretchLemmas.{stays_there, digit_more, first_more}
use Rattle.mx_body.proofs.chunked.stretch.digits.Goals as goal

pub loop-n-init : goal.loop-n-init
loop-n-init c = record { fits = omega arith; first = λ none. absurd (omega (arith, none)); goes_on = stays_there c.args.limit (Size c.args.size) c.args.input.now }

pub loop-n-preserved : goal.loop-n-preserved
loop-n-preserved c =
    let input = c.args.input.now in
    let n = c.loop-n.n in
    let hex : is_ascii_hexdigit (get_or input n 0) ≡ true = sym c.in-Some.ensures.found in
    let small : c.from.result * 16 + c.in-Some.digit ≤ c.args.limit = omega (arith, c.if-next-from.false, c.from-in-loop-n.ensures) in
    let g = subst (λ (v : ℕ). GoesOn c.args.limit (Size c.args.size) (Size v) n input) (sym c.from.ensures) c.loop-n.invariant.goes_on in
    record {
      fits = omega (arith, small);
      first = first_more n input c.loop-n.invariant.first hex;
      goes_on = digit_more c.args.limit c.args.size c.from.result c.in-Some.digit n input g c.loop-n-test.true hex c.in-Some.ensures.value.0 small;
    }
