use Rattle.std.proofs.Common.{◌≡◌, ◌+◌, ◌++◌, length, take, List, None, Some, subst, sym, ap, ◌∙◌, arith, length-append, refl}
use Rattle.std.proofs.lemmas.List.{append-nil, take-append-le}
use Rattle.mx_head.specs.Limits.{most_bytes}
use Rattle.mx_body.specs.declared.part.Part.{Part}
use Rattle.mx_body.specs.declared.chunked.place.ChunkedPlace.TheVariants.{Start, Data}
use Rattle.mx_body.specs.ChunkedReader.{ReadTo}
use Rattle.mx_body.specs.ChunkedStretch.{part_begun}
use Rattle.mx_body.proofs.ChunkedReaderLemmas.{led}
use Rattle.mx_body.proofs.chunked.chunks.pass_chunks.Goals as goal

pub returns-then-not-has_data-clause-read : goal.returns-then-not-has_data-clause-read
returns-then-not-has_data-clause-read c =
    let body = c.args.body.now in
    let end = c.loop-read.read + c.in-Some.line in
    subst (λ (ps : List Part). ReadTo most_bytes c.args.at body end (Data c.in-Some.size) ps) (sym c.in_ok-push.ensures.items)
    (led most_bytes c.args.at body c.loop-read.read Start c.loop-read.parts.items (record { next = Data c.in-Some.size; len = c.in-Some.line; ahead = Some c.in-Some.size }) c.loop-read.invariant.read c.in-Some.ensures.line)

pub loop-read-preserved : goal.loop-read-preserved
loop-read-preserved c =
    let at = c.args.at in
    let body = c.args.body.now in
    let old = c.loop-read.parts.items in
    let end = c.loop-read.read + c.in-Some.line in
    let more = part_begun (Some c.in-Some.size) (at + end) in
    let items : c.push.new.self.items ≡ old ++ more = c.in_ok-push.ensures.items in
    let line = led most_bytes at body c.loop-read.read Start old (record { next = Data c.in-Some.size; len = c.in-Some.line; ahead = Some c.in-Some.size }) c.loop-read.invariant.read c.in-Some.ensures.line in
    let chunk = led most_bytes at body end (Data c.in-Some.size) (old ++ more) (record { next = Start; len = c.in-Some.size + 2; ahead = None }) line (c.if-not-has_data.ensures.there refl most_bytes) in
    record {
      read = subst (λ (ps : List Part). ReadTo most_bytes at body (end + (c.in-Some.size + 2)) Start ps) (append-nil (old ++ more) ∙ sym items) chunk;
      onward = omega (arith, c.loop-read.invariant.onward);
      longer = omega (arith, c.loop-read.invariant.longer, ap length items, length-append old more);
      front = λ n le. ap (take n) items ∙ take-append-le n old more (omega (arith, le, c.loop-read.invariant.longer)) ∙ c.loop-read.invariant.front n le;
    }
