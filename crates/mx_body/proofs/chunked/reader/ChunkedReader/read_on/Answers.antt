use Rattle.std.proofs.Common.{◌≡◌, false, sym, ap, ◌∙◌}
use Rattle.mx_head.specs.Limits.{most_bytes}
use Rattle.mx_body.specs.ChunkedPlace.{is_settled}
use Rattle.mx_body.proofs.ChunkedSteps.{At, whole_at, short, bad_at, large_at}
use Rattle.mx_body.proofs.chunked.reader.ChunkedReader.read_on.Goals as goal

pub returns-in-Done-clause-scan : goal.returns-in-Done-clause-scan
returns-in-Done-clause-scan c = whole_at most_bytes c.args.body.now c.in-Ok.end c.in-Ok.ensures.read.inside (c.in-Ok.ensures.read.leads ∙ c.in-Done.is)

pub returns-in-Bad-clause-scan : goal.returns-in-Bad-clause-scan
returns-in-Bad-clause-scan c =
    let one = c.in-Ok.ensures.by_one_byte (ap is_settled c.in-Bad.is) in
    let live : is_settled (At most_bytes c.args.body.now c.loop-read.read) ≡ false = ap is_settled c.loop-read.invariant.place ∙ c.loop-read.invariant.goes_on in
    bad_at most_bytes c.args.body.now c.loop-read.read c.loop-read-test.true live (ap (λ n. At most_bytes c.args.body.now n) (sym one) ∙ c.in-Ok.ensures.read.leads ∙ c.in-Bad.is)

pub returns-in-TooLarge-clause-scan : goal.returns-in-TooLarge-clause-scan
returns-in-TooLarge-clause-scan c =
    let one = c.in-Ok.ensures.by_one_byte (ap is_settled c.in-TooLarge.is) in
    let live : is_settled (At most_bytes c.args.body.now c.loop-read.read) ≡ false = ap is_settled c.loop-read.invariant.place ∙ c.loop-read.invariant.goes_on in
    large_at most_bytes c.args.body.now c.loop-read.read c.loop-read-test.true live (ap (λ n. At most_bytes c.args.body.now n) (sym one) ∙ c.in-Ok.ensures.read.leads ∙ c.in-TooLarge.is)

pub returns-clause-scan : goal.returns-clause-scan
returns-clause-scan c =
    let live : is_settled (At most_bytes c.args.body.now c.loop-read.read) ≡ false = ap is_settled c.loop-read.invariant.place ∙ c.loop-read.invariant.goes_on in
    short most_bytes c.args.body.now c.loop-read.read c.loop-read-test.false live
