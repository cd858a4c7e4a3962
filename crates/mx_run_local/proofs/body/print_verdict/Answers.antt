use Rattle.std.proofs.Common.{◌≡◌, ◌≤◌, ◌+◌, ◌-◌, ◌++◌, length, subst, arith, ap, sym, ◌∙◌}
use Rattle.std.specs.Prelude.{sum_by}
use Rattle.mx_body.specs.Parts.{joined}
use Rattle.mx_run_local.specs.BodyTexts.{part_len, response_line}
use Rattle.mx_run_local.specs.Body.{FitsIn, text_of}
use Rattle.mx_run_local.proofs.PartsWithin.{stand_within, sum_within, length-joined, joined_front}
use Rattle.mx_run_local.proofs.body.print_verdict.Goals as goal

pub print_whole-requires-clause-within : goal.print_whole-requires-clause-within
print_whole-requires-clause-within g c =
    let fits = subst (FitsIn c.args.wire.now) c.in-Complete.is c.requires.fits in
    rw c.deref.ensures.value (stand_within _ _ _ _ fits.0 fits.1)

pub print_whole-requires-clause-small : goal.print_whole-requires-clause-small
print_whole-requires-clause-small g c =
    let fits = subst (FitsIn c.args.wire.now) c.in-Complete.is c.requires.fits in
    let few : sum_by part_len c.in-Complete.parts.items + 0 ≤ c.in-Complete.end = sum_within _ _ _ fits.0 in
    rw c.deref.ensures.value (omega arith)

pub returns-in_ok-print_whole-in-Complete-clause-written : goal.returns-in_ok-print_whole-in-Complete-clause-written
returns-in_ok-print_whole-in-Complete-clause-written g c behind all =
    let fits = subst (FitsIn c.args.wire.now) c.in-Complete.is c.requires.fits in
    let wire = c.args.wire.now in
    let input = wire ++ behind in
    let items = c.in-Complete.parts.items in
    let within = stand_within _ _ _ _ fits.0 fits.1 in
    let same : joined input items ≡ joined wire items = joined_front wire behind items within in
    let text : text_of input c.args.verdict.now ≡ response_line c.in-Complete.status (length (joined input items))
    c.in-Complete.keep (length input - c.in-Complete.end) ++ joined input items =
    ap (text_of input) c.in-Complete.is in
    let size : sum_by part_len c.deref.result.now ≡ length (joined wire items) =
    ap (sum_by part_len) c.deref.ensures.value
    ∙ sym (length-joined wire items within) in
    let body : joined wire c.deref.result.now ≡ joined wire items =
    ap (joined wire) c.deref.ensures.value in
    rw (text, same, ← all, ← size, ← body) c.in_ok-print_whole-in-Complete.ensures.written
