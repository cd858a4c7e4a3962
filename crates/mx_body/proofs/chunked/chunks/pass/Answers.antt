use Rattle.std.proofs.Common.{◌+◌, ◌++◌, length, take, List, subst, sym, ap, ◌∙◌, arith, length-append}
use Rattle.std.specs.Prelude.{option_to_list}
use Rattle.std.proofs.lemmas.List.{take-append-le}
use Rattle.mx_head.specs.Limits.{most_bytes}
use Rattle.mx_body.specs.declared.part.Part.{Part}
use Rattle.mx_body.specs.declared.chunked.place.ChunkedPlace.{ChunkedPlace}
use Rattle.mx_body.specs.declared.chunked.place.ChunkedPlace.TheVariants.{Data}
use Rattle.mx_body.specs.ChunkedReader.{ReadTo}
use Rattle.mx_body.proofs.ChunkedReaderLemmas.{led, left_fits}
use Rattle.mx_body.proofs.ChunkedSteps.{further}
use Rattle.mx_body.proofs.chunked.chunks.pass.Goals as goal

pub part_at-requires : goal.part_at-requires
part_at-requires c = λ left is.
    let here = further most_bytes c.args.body.now c.args.read c.go_over-stretch.result.len c.args.place _ c.requires.read.leads (sym c.go_over-stretch.ensures.leads) in
    omega (arith, left_fits most_bytes _ (Data left) (here ∙ c.go_over-stretch.ensures.ahead left is))

pub pass_chunks-requires-clause-read : goal.pass_chunks-requires-clause-read
pass_chunks-requires-clause-read c =
    let at = c.args.at in
    let body = c.args.body.now in
    let old = c.args.parts.now.items in
    let end = c.args.read + c.go_over-stretch.result.len in
    let items = c.in_ok-add_part.ensures.added ∙ ap (λ ps. old ++ ps) c.part_at.ensures in
    let here = led most_bytes at body c.args.read c.args.place old c.go_over-stretch.result c.requires.read c.go_over-stretch.ensures in
    subst (λ (p : ChunkedPlace). ReadTo most_bytes at body end p c.add_part.new.parts.items) c.in-Start.is
    (subst (λ (ps : List Part). ReadTo most_bytes at body end c.go_over-stretch.result.next ps) (sym items) here)

pub returns-in-TrailerStart-clause-read : goal.returns-in-TrailerStart-clause-read
returns-in-TrailerStart-clause-read c =
    let at = c.args.at in
    let body = c.args.body.now in
    let old = c.args.parts.now.items in
    let end = c.args.read + c.go_over-stretch.result.len in
    let items = c.in_ok-add_part.ensures.added ∙ ap (λ ps. old ++ ps) c.part_at.ensures in
    let here = led most_bytes at body c.args.read c.args.place old c.go_over-stretch.result c.requires.read c.go_over-stretch.ensures in
    c.lines_end.ensures.read at c.add_part.new.parts.items
    (subst (λ (p : ChunkedPlace). ReadTo most_bytes at body end p c.add_part.new.parts.items) c.in-TrailerStart.is
    (subst (λ (ps : List Part). ReadTo most_bytes at body end c.go_over-stretch.result.next ps) (sym items) here))

pub returns-in_default : goal.returns-in_default
returns-in_default c =
    let at = c.args.at in
    let body = c.args.body.now in
    let old = c.args.parts.now.items in
    let more = option_to_list c.part_at.result in
    let end = c.args.read + c.go_over-stretch.result.len in
    let added = c.in_ok-add_part.ensures.added in
    let here = led most_bytes at body c.args.read c.args.place old c.go_over-stretch.result c.requires.read c.go_over-stretch.ensures in
    record {
      read = subst (λ (ps : List Part). ReadTo most_bytes at body end c.go_over-stretch.result.next ps) (sym (added ∙ ap (λ ps. old ++ ps) c.part_at.ensures)) here;
      onward = omega (arith, c.go_over-stretch.ensures.moved);
      by_one_byte = λ settled. ap (λ n. c.args.read + n) (c.go_over-stretch.ensures.by_one_byte settled);
      longer = omega (arith, ap length added, length-append old more);
      front = λ n le. ap (take n) added ∙ take-append-le n old more le;
    }
