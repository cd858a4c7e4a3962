use Rattle.std.proofs.Common.{◌≡◌, ◌<◌, ◌≤◌, ◌++◌, length, take, sym, ap, ◌∙◌, arith}
use Rattle.std.proofs.lemmas.List.{append-nil, length-take-le}
use Rattle.mx_body.specs.ChunkedPlace.{data_left}
use Rattle.mx_body.proofs.ChunkedRun.{first_byte}
use Rattle.mx_flow.specs.Steps.{place_of}
use Rattle.mx_flow.proofs.DataLemmas.{behind, byte_data, run_place, run_data}
use Rattle.mx_flow.proofs.chunks.pass_run.Goals as goal

pub returns-then-left-eq0-clause-place : goal.returns-then-left-eq0-clause-place
returns-then-left-eq0-clause-place c = c.step.ensures ∙ first_byte c.args.limit (place_of c.args.place) c.args.input.now c.requires.some

pub returns-then-left-eq0-clause-given : goal.returns-then-left-eq0-clause-given
returns-then-left-eq0-clause-given c =
    let none : data_left (place_of c.args.place) ≡ 0 = sym c.data_left-left.ensures ∙ c.if-left-eq0.true in
    sym (ap (λ t. c.args.out.now.items ++ t) (byte_data c.args.limit (place_of c.args.place) c.args.input.now none) ∙ append-nil c.args.out.now.items)

pub returns-then-left-eq0-clause-room : goal.returns-then-left-eq0-clause-room
returns-then-left-eq0-clause-room c =
    let none : data_left (place_of c.args.place) ≡ 0 = sym c.data_left-left.ensures ∙ c.if-left-eq0.true in
    omega (arith, ap length (byte_data c.args.limit (place_of c.args.place) c.args.input.now none))

pub returns-clause-place : goal.returns-clause-place
returns-clause-place c =
    let p = place_of c.args.place in
    let n = c.min-n.result in
    let xs = take n c.args.input.now in
    let long : length xs ≡ n = length-take-le n c.args.input.now (omega (arith, c.min-n.ensures, c.min.ensures)) in
    let some : 0 < data_left p = omega (arith, c.data_left-left.ensures, c.if-left-eq0.false) in
    let fits : length xs ≤ data_left p = omega (arith, long, c.min-n.ensures, c.min.ensures, c.data_left-left.ensures) in
    c.behind.ensures ∙ ap (λ k. behind k n) c.data_left-left.ensures ∙ ap (behind (data_left p)) (sym long) ∙ sym (run_place c.args.limit p xs some fits)

pub returns-clause-given : goal.returns-clause-given
returns-clause-given c =
    let p = place_of c.args.place in
    let n = c.min-n.result in
    let xs = take n c.args.input.now in
    let long : length xs ≡ n = length-take-le n c.args.input.now (omega (arith, c.min-n.ensures, c.min.ensures)) in
    let some : 0 < data_left p = omega (arith, c.data_left-left.ensures, c.if-left-eq0.false) in
    let fits : length xs ≤ data_left p = omega (arith, long, c.min-n.ensures, c.min.ensures, c.data_left-left.ensures) in
    c.in_ok-extend_from_slice.ensures.items ∙ ap (λ t. c.args.out.now.items ++ t) (sym (run_data c.args.limit p xs some fits))

pub returns-clause-room : goal.returns-clause-room
returns-clause-room c =
    let p = place_of c.args.place in
    let n = c.min-n.result in
    let xs = take n c.args.input.now in
    let long : length xs ≡ n = length-take-le n c.args.input.now (omega (arith, c.min-n.ensures, c.min.ensures)) in
    let some : 0 < data_left p = omega (arith, c.data_left-left.ensures, c.if-left-eq0.false) in
    let fits : length xs ≤ data_left p = omega (arith, long, c.min-n.ensures, c.min.ensures, c.data_left-left.ensures) in
    omega (arith, ap length (run_data c.args.limit p xs some fits), long, c.min-n.ensures)
