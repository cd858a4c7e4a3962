use Rattle.std.proofs.Common.{◌≡◌, true, false, inl, inr, length, refl, sym, ap, ◌∙◌, arith, Ok}
use Rattle.mx_head.proofs.SummaryLemmas.{framing_agrees, keeps_agrees}
use Rattle.mx_body.proofs.VerdictLemmas.{refused_framing, counted_too_big, counted_short, close_short, empty_body, counted_body, close_body, plain_verdict, plain_parts, whole_at, ok_map, err_map, input_length}
use Rattle.mx_body.proofs.HeadsLemmas.{body_start_small}
use Rattle.mx_body.proofs.whole.decode_body.Goals as goal

pub returns-in-Err-clause-verdict : goal.returns-in-Err-clause-verdict
returns-in-Err-clause-verdict c =
    let d = c.requires in
    refused_framing c.args.method c.args.input.now c.args.ended d.interim d.head d.rest c.in-Err.code d.stands
    (sym (c.framing.ensures ∙ framing_agrees _ _ d.head d.describes) ∙ c.in-Err.is)

pub returns-in-Ok-Empty-clause-verdict : goal.returns-in-Ok-Empty-clause-verdict
returns-in-Ok-Empty-clause-verdict c =
    let d = c.requires in
    let f = sym (c.framing.ensures ∙ framing_agrees _ _ d.head d.describes) ∙ c.in-Ok-Empty.is ∙ ap Ok c.in-Ok-Empty.field-0-is in
    ok_map _ c.complete.ensures.whole (λ v w.
    plain_verdict _ _ _ d.interim d.head 0 (empty_body _ _ c.args.ended d.interim d.head d.rest d.stands f) _ v refl
    (whole_at v (c.status.ensures ∙ d.describes.status) d.end_is refl (c.keeps.ensures ∙ keeps_agrees _ d.head d.describes ∙ grind arith) w))

pub returns-then-is_too_large-clause-verdict : goal.returns-then-is_too_large-clause-verdict
returns-then-is_too_large-clause-verdict c =
    let d = c.requires in
    let f = sym (c.framing.ensures ∙ framing_agrees _ _ d.head d.describes) ∙ c.in-Ok-Counted.is ∙ ap Ok c.in-Ok-Counted.field-0-is in
    counted_too_big _ _ _ d.interim d.head d.rest c.in-Ok-Counted.n d.stands f (omega (arith, c.is_too_large.ensures.too_many c.if-is_too_large.true, d.end_is))

pub returns-then-is_there-clause-verdict : goal.returns-then-is_there-clause-verdict
returns-then-is_there-clause-verdict c =
    let d = c.requires in
    let f = sym (c.framing.ensures ∙ framing_agrees _ _ d.head d.describes) ∙ c.in-Ok-Counted.is ∙ ap Ok c.in-Ok-Counted.field-0-is in
    let small = body_start_small c.args.input.now d.interim d.head d.rest d.stands in
    let p = counted_body c.args.method c.args.input.now c.args.ended d.interim d.head d.rest c.in-Ok-Counted.n d.stands f
    (omega (arith, c.is_too_large.ensures.few c.if-is_too_large.false, d.end_is, small)) (omega (arith, c.is_there.ensures.there c.if-is_there.true, d.end_is, input_length c.args.input.now d.interim d.head d.rest d.stands)) in
    ok_map _ c.complete-then-is_there.ensures.whole (λ v w.
    plain_verdict _ _ _ d.interim d.head c.in-Ok-Counted.n p _ v refl
    (whole_at v (c.status-then-is_there.ensures ∙ d.describes.status) d.end_is refl (c.keeps-then-is_there.ensures ∙ keeps_agrees _ d.head d.describes ∙ grind arith) w))

pub returns-then-is_there-clause-memory : goal.returns-then-is_there-clause-memory
returns-then-is_there-clause-memory c =
    let d = c.requires in
    let f = sym (c.framing.ensures ∙ framing_agrees _ _ d.head d.describes) ∙ c.in-Ok-Counted.is ∙ ap Ok c.in-Ok-Counted.field-0-is in
    let small = body_start_small c.args.input.now d.interim d.head d.rest d.stands in
    let p = counted_body c.args.method c.args.input.now c.args.ended d.interim d.head d.rest c.in-Ok-Counted.n d.stands f
    (omega (arith, c.is_too_large.ensures.few c.if-is_too_large.false, d.end_is, small)) (omega (arith, c.is_there.ensures.there c.if-is_there.true, d.end_is, input_length c.args.input.now d.interim d.head d.rest d.stands)) in
    err_map _ c.complete-then-is_there.ensures.memory (λ some. plain_parts _ _ _ d.interim d.head c.in-Ok-Counted.n p some)

pub returns-then-input-gt-MOST_BYTES-clause-verdict : goal.returns-then-input-gt-MOST_BYTES-clause-verdict
returns-then-input-gt-MOST_BYTES-clause-verdict c =
    let d = c.requires in
    let f = sym (c.framing.ensures ∙ framing_agrees _ _ d.head d.describes) ∙ c.in-Ok-Close.is ∙ ap Ok c.in-Ok-Close.field-0-is in
    let long = input_length c.args.input.now d.interim d.head d.rest d.stands in
    let u = close_short c.args.method c.args.input.now c.args.ended d.interim d.head d.rest d.stands f (λ end few. omega (arith, few, long, c.if-input-gt-MOST_BYTES.true)) in
    (u.unfinished, inr (inl (u, c.if-input-gt-MOST_BYTES.true, refl)))

pub returns-then-ended-clause-verdict : goal.returns-then-ended-clause-verdict
returns-then-ended-clause-verdict c =
    let d = c.requires in
    let f = sym (c.framing.ensures ∙ framing_agrees _ _ d.head d.describes) ∙ c.in-Ok-Counted.is ∙ ap Ok c.in-Ok-Counted.field-0-is in
    let small = body_start_small c.args.input.now d.interim d.head d.rest d.stands in
    let long = input_length c.args.input.now d.interim d.head d.rest d.stands in
    let u = counted_short c.args.method c.args.input.now c.args.ended d.interim d.head d.rest c.in-Ok-Counted.n d.stands f
    (omega (arith, c.is_too_large.ensures.few c.if-is_too_large.false, d.end_is, small)) (omega (arith, c.is_there.ensures.lacking c.if-is_there.false, d.end_is, long)) in
    (u.unfinished, inr (inr (u, omega (arith, c.is_too_large.ensures.few c.if-is_too_large.false, c.is_there.ensures.lacking c.if-is_there.false, d.end_is, long, small), c.if-ended.true, inr (inr ((d.interim, d.head, d.rest, d.stands), refl)))))

pub returns-else-ended-clause-verdict : goal.returns-else-ended-clause-verdict
returns-else-ended-clause-verdict c =
    let d = c.requires in
    let f = sym (c.framing.ensures ∙ framing_agrees _ _ d.head d.describes) ∙ c.in-Ok-Counted.is ∙ ap Ok c.in-Ok-Counted.field-0-is in
    let small = body_start_small c.args.input.now d.interim d.head d.rest d.stands in
    let long = input_length c.args.input.now d.interim d.head d.rest d.stands in
    let u = counted_short c.args.method c.args.input.now c.args.ended d.interim d.head d.rest c.in-Ok-Counted.n d.stands f
    (omega (arith, c.is_too_large.ensures.few c.if-is_too_large.false, d.end_is, small)) (omega (arith, c.is_there.ensures.lacking c.if-is_there.false, d.end_is, long)) in
    (u, omega (arith, c.is_too_large.ensures.few c.if-is_too_large.false, c.is_there.ensures.lacking c.if-is_there.false, d.end_is, long, small), c.if-ended.false)

pub returns-then-ended-2-clause-verdict : goal.returns-then-ended-2-clause-verdict
returns-then-ended-2-clause-verdict c =
    let d = c.requires in
    let f = sym (c.framing.ensures ∙ framing_agrees _ _ d.head d.describes) ∙ c.in-Ok-Close.is ∙ ap Ok c.in-Ok-Close.field-0-is in
    let long = input_length c.args.input.now d.interim d.head d.rest d.stands in
    let p = close_body c.args.method c.args.input.now c.args.ended d.interim d.head d.rest d.stands f c.if-ended-2.true (omega (arith, long, c.if-input-gt-MOST_BYTES.false)) in
    ok_map _ c.complete-then-ended-2.ensures.whole (λ v w.
    plain_verdict _ _ _ d.interim d.head (length d.rest) p _ v refl
    (whole_at v (c.status-then-ended-2.ensures ∙ d.describes.status) d.end_is (omega (arith, d.end_is, long)) (grind arith) w))

pub returns-then-ended-2-clause-memory : goal.returns-then-ended-2-clause-memory
returns-then-ended-2-clause-memory c =
    let d = c.requires in
    let f = sym (c.framing.ensures ∙ framing_agrees _ _ d.head d.describes) ∙ c.in-Ok-Close.is ∙ ap Ok c.in-Ok-Close.field-0-is in
    let long = input_length c.args.input.now d.interim d.head d.rest d.stands in
    let p = close_body c.args.method c.args.input.now c.args.ended d.interim d.head d.rest d.stands f c.if-ended-2.true (omega (arith, long, c.if-input-gt-MOST_BYTES.false)) in
    err_map _ c.complete-then-ended-2.ensures.memory (λ some. plain_parts _ _ _ d.interim d.head (length d.rest) p (omega (arith, some, d.end_is, long)))

pub returns-else-ended-2-clause-verdict : goal.returns-else-ended-2-clause-verdict
returns-else-ended-2-clause-verdict c =
    let d = c.requires in
    let f = sym (c.framing.ensures ∙ framing_agrees _ _ d.head d.describes) ∙ c.in-Ok-Close.is ∙ ap Ok c.in-Ok-Close.field-0-is in
    let u = close_short c.args.method c.args.input.now c.args.ended d.interim d.head d.rest d.stands f (λ end few. let both : false ≡ true = sym c.if-ended-2.false ∙ end in cc) in
    (u, c.if-input-gt-MOST_BYTES.false, c.if-ended-2.false)

pub decode_chunked-requires-clause-chunked : goal.decode_chunked-requires-clause-chunked
decode_chunked-requires-clause-chunked c =
    sym c.framing.ensures ∙ c.in-Ok-Chunked.is ∙ ap Ok c.in-Ok-Chunked.field-0-is
